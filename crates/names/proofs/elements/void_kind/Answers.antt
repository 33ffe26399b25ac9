use mathlib.Core.Path.{sym, ◌∙◌}
use mathlib.Core.Bool.{true, false}
use Rattle.names.proofs.VoidLaws.{never_void, kind_is}
use Rattle.names.proofs.elements.void_kind.Goals as goal

pub returns-then-not-may_be_void : goal.returns-then-not-may_be_void
returns-then-not-may_be_void c = let n = c.args.name.now in let h = sym c.may_be_void.ensures ∙ c.if-not-may_be_void.true in
    sym (kind_is n (never_void false n h) (never_void true n h))
