-- `tag_pass::pass::open_inner` meets its contract. Assumes nothing.
use Rattle.grammar.specs.Signs.{letter}
use native.Mathlib.Omega.{arith}
use borrow.Author.Rules.{rules}
use Rattle.tag_pass.proofs.Machine.{told}
use Rattle.tag_pass.proofs.PassLaws.{inner_out, inner_letter, inner_fragment, inner_barred, inner_close, inner_unclosed, pushed_bounded}
use Rattle.tag_pass.proofs.pass.open_inner.Goals as goal

pub returns-in_err-sign : goal.returns-in_err-sign
returns-in_err-sign c = rw c.from_residual.ensures (inner_out c.in_err-sign.ensures)

pub open_named-requires : goal.open_named-requires
open_named-requires c = let at = c.in_ok-sign.ensures in (pushed_bounded _ c.requires.0 c.requires.3 c.push-w.ensures.0 at.ran.after at.ran.inside, (at.inside, told letter at c.if-is_letter.ensures))

pub returns-then-is_letter : goal.returns-then-is_letter
returns-then-is_letter c = inner_letter c.in_ok-sign.ensures c.if-is_letter.ensures c.requires.2 c.push-w.ensures c.open_named.ensures

pub returns-in-62 : goal.returns-in-62
returns-in-62 c = inner_fragment c.in_ok-sign.ensures c.in-62.is c.requires.2 c.push-w-in-62.ensures c.open_fragment.ensures

pub returns-in-47 : goal.returns-in-47
returns-in-47 c = inner_close c.in_ok-sign.ensures c.in-47.is (search rules) c.closing.ensures

pub returns-in_default-2 : goal.returns-in_default-2
returns-in_default-2 c = inner_unclosed c.in_ok-sign.ensures c.in-47.is (λ z. search (rules, z))

pub returns-in_default-2-2 : goal.returns-in_default-2-2
returns-in_default-2-2 c = inner_barred c.in_ok-sign.ensures c.if-is_letter.ensures (λ z. omega (arith, z)) (λ z. omega (arith, z))
