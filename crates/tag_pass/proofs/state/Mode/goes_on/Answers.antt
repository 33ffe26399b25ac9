-- `tag_pass::state::Mode::goes_on` meets its contract. Assumes nothing.
use mathlib.Core.Path.{◌≡◌, refl, sym, ap}
use mathlib.Core.Bool.{false, true}
use mathlib.Core.Logic.{◌⊎◌, inl, inr}
use Rattle.tag_pass.specs.declared.state.Holder.{Holder}
use Rattle.tag_pass.specs.declared.state.Mode.{Mode}
use Rattle.tag_pass.specs.declared.state.Mode.TheVariants as M
use Rattle.tag_pass.specs.States.{goes_on}
use Rattle.tag_pass.proofs.state.Mode.goes_on.Goals as goal

goes : (m : Mode) → (m ≡ M.InTag) ⊎ ((m ≡ M.InChildren) ⊎ ((k : Holder) × (m ≡ M.Inner k))) → true ≡ goes_on m
unfolding goes_on
goes m (inl e) = sym (ap goes_on e)
goes m (inr (inl e)) = sym (ap goes_on e)
goes m (inr (inr e)) = sym (ap goes_on e.1)

stays : (m : Mode) → (m ≡ M.InTag → ⊥) → (m ≡ M.InChildren → ⊥) → ((k : Holder) → m ≡ M.Inner k → ⊥) → false ≡ goes_on m
unfolding goes_on
stays M.InTag x y z = absurd (x refl)
stays M.InChildren x y z = absurd (y refl)
stays (M.Inner k) x y z = absurd (z k refl)
stays M.Ended x y z = refl
stays M.Done x y z = refl

pub returns-in-InTag : goal.returns-in-InTag
returns-in-InTag c = goes _ c.in-InTag.is

pub returns-in_default : goal.returns-in_default
returns-in_default c = stays _ c.in_default.not-InTag c.in_default.not-InChildren c.in_default.not-Inner
