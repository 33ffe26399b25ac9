-- As is_serializable; what is told of the names is of what lies behind the element's own.
use Rattle.std.specs.Prelude.{Some}
use mathlib.Core.Path.{refl, sym, subst}
use Rattle.decisions.specs.Repeats.{SerializedTold}
use Rattle.decisions.proofs.ElementLaws.{serializable_upper, serializable_kept, serializable_listed, told_serialized, never_serializable}
use Rattle.decisions.proofs.element.serialized.Goals as goal

pub returns-in_default : goal.returns-in_default
returns-in_default c = sym (never_serializable _ _ c.element_name_at.result c.element_name_at.ensures c.in_default.not-Identifier)

pub returns-then-is_upper : goal.returns-then-is_upper
returns-then-is_upper c = sym (serializable_upper _ _ c.in-Identifier.ensures c.is_upper.ensures c.if-is_upper.true)

pub returns-in_err-names : goal.returns-in_err-names
returns-in_err-names c =
    let e = serializable_kept c.args.skip.now c.args.b.now c.in-Identifier.ensures c.is_upper.ensures c.if-is_upper.false c.behind.ensures refl c.in_err-names.ensures in
    subst (SerializedTold c.args.skip.now c.args.b.now) (sym c.from_residual.ensures) (sym e)

pub returns-then-lists : goal.returns-then-lists
returns-then-lists c = sym (serializable_listed _ _ c.in-Identifier.ensures c.is_upper.ensures c.lists.ensures c.if-lists.true)

pub returns-else-lists : goal.returns-else-lists
returns-else-lists c = told_serialized _ _ c.in-Identifier.ensures c.is_upper.ensures c.if-is_upper.false c.behind.ensures c.lists.ensures c.if-lists.false (Some c.in_ok-names.names) c.in_ok-names.ensures
