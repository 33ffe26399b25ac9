-- `write_page` meets its contract: what 02 and 03 list stands in the fields found. Assumes nothing.
use mathlib.Core.Path.{refl}
use native.Mathlib.Omega.{arith}
use Rattle.field.specs.Row.{inside}
use Rattle.transform.proofs.ListLaws.{by_series}
use Rattle.transform.proofs.module.write_page.Goals as goal

pub write_listed-requires : goal.write_listed-requires
unfolding inside
write_listed-requires c = record { ready = c.requires; props_value = (by_series _ c.if-names-le-SHORT_LIST.true (c.names_in.ensures.0 refl), by_series _ c.if-names-le-SHORT_LIST-2.true (c.names_in-2.ensures.0 refl)) }

pub write_indexed-requires : goal.write_indexed-requires
unfolding inside
write_indexed-requires c = record { ready = c.requires; skip_len_bound = (omega (arith, c.names_in.ensures.1, c.requires.options_short), omega (arith, c.names_in-2.ensures.1, c.requires.options_short)); skip_value = (c.names_in.ensures.0 refl, c.names_in-2.ensures.0 refl) }
