-- The table has the void names and no others, by tests that antt computes over the whole table.
use mathlib.Core.Path.{refl, ◌∙◌}
use native.Mathlib.Omega.{arith}
use Rattle.field.specs.Bytes.{same, among}
use Rattle.names.specs.Names.{void_names, is_void_element}
use Rattle.names.specs.Table.{read_as, has_name, mark_from}
use Rattle.names.proofs.CompareLaws.{length_read_as}
use Rattle.names.proofs.TableLaws.{entries, table_finds, table_row}
use Rattle.names.proofs.VoidLaws.{ends_within}
use Rattle.names.proofs.elements.finds_void.Goals as goal

-- the row of each length lies within the table
pub has_name-requires : goal.has_name-requires
has_name-requires c = let l = ends_within c.args.name.now c.requires in (table_row _ _ 7 refl refl _ l.1, l.0)

-- each entry is one of the names, and each of the names has an entry
pub returns : goal.returns
unfolding is_void_element void_names has_name entries mark_from among same
returns c = let a = c.args in let l = length_read_as a.small a.name.now in
    c.has_name.ensures ∙ table_finds _ _ 7 void_names (read_as a.small a.name.now) refl l refl (omega (arith, l, (ends_within a.name.now c.requires).1)) refl refl
