-- `outs::page_out::step` meets its contract: each answer by the law of what was found. Assumes nothing.
use mathlib.Core.Path.{sym, ap, subst, ◌∙◌}
use native.Mathlib.Omega.{arith}
use Rattle.std.specs.Prelude.{Err}
use Rattle.std.proofs.lemmas.Bool.{leb-true, leb-false}
use Rattle.refusal.specs.declared.Refusal.TheVariants as R
use Rattle.loops.proofs.Headers.{header_short}
use Rattle.outs.specs.Step.{Stepped}
use Rattle.outs.proofs.NoField.{ended_there, torn_there}
use Rattle.refusal.proofs.Verdicts.{refused_by, fine_by}
use Rattle.outs.proofs.StepLaws.{handed_on, ended, torn, unallowed, short_front, opens, leaf_bad, leaf_ends}
use Rattle.outs.proofs.page_out.step.Goals as goal

pub returns-in_err-check_nothing_after : goal.returns-in_err-check_nothing_after
returns-in_err-check_nothing_after c =
    let t = torn_there _ c.read_header.ensures.0 c.in_default.is c.check_nothing_after.ensures c.in_err-check_nothing_after.was in
    subst (Stepped c.args.width c.args.expect c.args.b.now) (sym (handed_on c.from_residual.ensures ∙ ap Err t.1)) (torn _ _ _ c.read_header.ensures.0 c.in_default.is t.0)

pub returns-in_err-close : goal.returns-in_err-close
returns-in_err-close c =
    let z = ended_there _ c.read_header.ensures.0 c.in_default.is c.check_nothing_after.ensures c.in_ok-check_nothing_after.was in
    subst (Stepped c.args.width c.args.expect c.args.b.now) (sym (handed_on c.from_residual-in_err-close.ensures)) (ended _ _ _ z c.close.ensures c.in_err-close.was)

pub returns-in_default : goal.returns-in_default
returns-in_default c =
    let z = ended_there _ c.read_header.ensures.0 c.in_default.is c.check_nothing_after.ensures c.in_ok-check_nothing_after.was in
    (z, ended _ _ _ z c.close.ensures c.in_ok-close.was)

pub returns-in_err-refuse_unless : goal.returns-in_err-refuse_unless
returns-in_err-refuse_unless c = let h = c.read_header.ensures in let u = refused_by c.refuse_unless.ensures c.in_err-refuse_unless.was in
    subst (Stepped c.args.width c.args.expect c.args.b.now) (sym (handed_on c.from_residual-in_err-refuse_unless.ensures ∙ ap Err (sym u.1)))
    (unallowed _ _ _ h.0 h.1 c.in-Some.is (sym c.is_allowed.ensures ∙ u.0))

pub returns-in_err-refuse_unless-in-Some-front_of : goal.returns-in_err-refuse_unless-in-Some-front_of
returns-in_err-refuse_unless-in-Some-front_of c = let h = c.read_header.ensures in let a = sym c.is_allowed.ensures ∙ fine_by R.Misplaced c.refuse_unless.ensures c.in_ok-refuse_unless.was in
    let u = refused_by c.refuse_unless-in-Some-front_of.ensures c.in_err-refuse_unless-in-Some-front_of.was in
    subst (Stepped c.args.width c.args.expect c.args.b.now) (sym (handed_on c.from_residual-in_err-refuse_unless-in-Some-front_of.ensures ∙ ap Err (sym u.1)))
    (short_front _ _ _ h.0 h.1 c.in-Some.is a c.in-Some-front_of.ensures (leb-false _ _ u.0))

pub returns-in_ok-refuse_unless-in-Some-front_of : goal.returns-in_ok-refuse_unless-in-Some-front_of
returns-in_ok-refuse_unless-in-Some-front_of c = let h = c.read_header.ensures in let f = c.in-Some.is in let a = sym c.is_allowed.ensures ∙ fine_by R.Misplaced c.refuse_unless.ensures c.in_ok-refuse_unless.was in
    let k = c.type_inv.b in let l = header_short _ _ (sym h.0 ∙ f) (omega (arith, k 1)) (omega (arith, k 2)) in
    let w = leb-true _ _ (fine_by R.Misplaced c.refuse_unless-in-Some-front_of.ensures c.in_ok-refuse_unless-in-Some-front_of.was) in
    rw c.left_of-after.ensures (opens _ _ _ h.0 h.1 f a c.in-Some-front_of.ensures l w c.inner_of.ensures)

pub returns-in_err-check_leaf-in-None : goal.returns-in_err-check_leaf-in-None
returns-in_err-check_leaf-in-None c = let h = c.read_header.ensures in let a = sym c.is_allowed.ensures ∙ fine_by R.Misplaced c.refuse_unless.ensures c.in_ok-refuse_unless.was in
    subst (Stepped c.args.width c.args.expect c.args.b.now) (sym (handed_on c.from_residual-in_err-check_leaf-in-None.ensures))
    (leaf_bad _ _ _ h.0 h.1 c.in-Some.is a c.in-None.ensures c.check_leaf.ensures c.in_err-check_leaf-in-None.was)

pub returns-in_ok-check_leaf-in-None : goal.returns-in_ok-check_leaf-in-None
returns-in_ok-check_leaf-in-None c = let h = c.read_header.ensures in let a = sym c.is_allowed.ensures ∙ fine_by R.Misplaced c.refuse_unless.ensures c.in_ok-refuse_unless.was in
    rw c.left_of-after.ensures (leaf_ends _ _ _ h.0 h.1 c.in-Some.is a c.in-None.ensures c.check_leaf.ensures c.in_ok-check_leaf-in-None.was)
