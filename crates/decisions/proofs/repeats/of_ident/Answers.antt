use Rattle.names.specs.Table.{spelt}
use mathlib.Core.Path.{sym, ◌∙◌}
use Rattle.names.proofs.NormalizeLaws.{normalize_plain}
use Rattle.decisions.proofs.RepeatLaws.{plain_letters, plain_signed, ident_whole, ident_signed, ident_small}
use Rattle.decisions.proofs.repeats.of_ident.Goals as goal

pub returns-then-is_plain : goal.returns-then-is_plain
returns-then-is_plain c = ident_whole c.args.n.now (sym (normalize_plain c.args.n.now (sym c.is_plain.ensures ∙ c.if-is_plain.true))) (plain_letters c.plain.ensures)

pub returns-in-Whole : goal.returns-in-Whole
unfolding spelt
returns-in-Whole c = ident_whole c.args.n.now c.in-Whole.ensures.0 (plain_letters c.plain-in-Whole.ensures)

pub returns-in-Signed : goal.returns-in-Signed
unfolding spelt
returns-in-Signed c = ident_signed c.args.n.now _ c.in-Signed.ensures.0 (plain_signed c.plain-in-Signed.ensures _)

pub returns-in-Small : goal.returns-in-Small
unfolding spelt
returns-in-Small c = ident_small c.args.n.now c.in-Small.ensures.0 (plain_letters c.plain-in-Small.ensures)
