-- `utf8::tails` meets its contract. Assumes nothing.
use mathlib.Core.Path.{◌≡◌, refl, sym, ap, ◌∙◌}
use mathlib.Core.Bool.{Bool, true, false}
use native.Mathlib.Omega.{arith}
use borrow.Author.Rules.{rules}
use borrow.Author.Tests.{tests}
use Rattle.std.specs.Prelude.{Option, MatchOption}
use Rattle.std.specs.Bool.{then_some}
use Rattle.std.specs.List.{list_all}
use Rattle.std.proofs.lemmas.Iterator.{YieldsList-from_slice}
use Rattle.std.proofs.lemmas.Iterator.Search.{all_from_yields_List}
use Rattle.utf8.specs.Utf8.{within, tail}
use Rattle.utf8.proofs.Places.{lacks_tails, passes_tails, lacks_one}
use Rattle.utf8.proofs.tails.Goals as goal

pub returns-in_err-bytes : goal.returns-in_err-bytes
returns-in_err-bytes g c = rw c.from_residual.ensures (lacks_tails g.row.N _ c.in_err-bytes.ensures.cases)

told : {A : Type 0} (P : Type 0) (Q : A → Type 0) (b : Bool) (x : A) {o : Option A} → o ≡ then_some b x → (b ≡ false → P) → (b ≡ true → Q x) → MatchOption o P Q
told P Q true x e f g = rw e (g refl)
told P Q false x e f g = rw e (f refl)

pub returns : goal.returns
returns g c = let s = c.in_ok-bytes.ensures.cases in
    let a = all_from_yields_List (λ b. within tail b) _ _ _ c.all.ensures.ran (YieldsList-from_slice c.in_ok-bytes.bytes.now cc) (λ x b q k. search (rules, tests)) in
    let e = ap (list_all (λ b. within tail b)) (sym s.0) ∙ sym a in
    told _ _ _ _ c.then_some.ensures (λ h. lacks_one g.row.N _ (omega (arith, s.2)) (e ∙ h)) (λ h. rw s.1 (passes_tails g.row.N _ (omega (arith, s.2)) (e ∙ h)))
