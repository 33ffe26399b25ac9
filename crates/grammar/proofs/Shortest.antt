-- No text of under four bytes is a tag, the shortest being `<a/>`. Main statements: `short_unread`, `shortest`. Assumes nothing.
use Prim.Native.Nat.{ℕ, ◌≤◌, ◌<◌}
use mathlib.Core.Path.{◌≡◌, refl, sym, ◌∙◌}
use mathlib.Core.Bool.{Bool, true, false}
use mathlib.Core.List.{[], ◌∷◌}
use native.Mathlib.Omega.{arith}
use lib.Dec.{eqb}
use lib.ListN.{length}
use Rattle.field.specs.Bytes.{Bytes}
use Rattle.grammar.specs.Signs.{choose, letter, name_byte, separator, space, text_byte}
use Rattle.grammar.specs.Syntax.{part, Name, Tag, Attributes, no_attributes, Children, no_children}
use Rattle.grammar.specs.Grammar.{ReadsAs}
use Rattle.grammar.specs.Reader.{Stack, for_tag, fits, close_of, State, start, opened, in_ident, in_children, refused, step_of_named, step_tag, step_behind, step_children, step, Outcome, read, no_reading, at_end, outcome}
use Rattle.grammar.proofs.Complete.{complete}

-- the reader is not done, nor a byte later, nor two
Undone : State → Type 0
Undone x = at_end x ≡ no_reading

Undone₁ : State → Type 0
Undone₁ x = (c : ℕ) → Undone (step x c)

Undone₂ : State → Type 0
Undone₂ x = (c : ℕ) → Undone₁ (step x c)

either : (P : State → Type 0) (b : Bool) (x y : State) → P x → P y → P (choose b x y)
unfolding choose
either P true x y p q = p
either P false x y p q = q

refused₁ : Undone₁ refused
unfolding Undone Undone₁ step at_end
refused₁ c = refl

refused₂ : Undone₂ refused
unfolding Undone₂ step
refused₂ c = refused₁

children₁ : (n : Name) (ps : Attributes) (ks : Children) (K : Stack) → Undone₁ (in_children n ps ks K)
unfolding Undone Undone₁ step step_children at_end
children₁ n ps ks K c = either Undone (eqb c 38) _ _ refl (either Undone (text_byte c) _ _ refl (either Undone (eqb c 60) _ _ refl (either Undone (eqb c 123) _ _ refl refl)))

tag₁ : (n : Name) (ps : Attributes) (K : Stack) (c : ℕ) → Undone (step_tag n ps K c)
unfolding Undone step_tag at_end
tag₁ n ps K c = either Undone (space c) _ _ refl (either Undone (letter c) _ _ refl (either Undone (eqb c 123) _ _ refl (either Undone (eqb c 47) _ _ refl (either Undone (eqb c 62) _ _ refl refl))))

behind₁ : (m : Name) (K : Stack) (c : ℕ) → Undone (step_behind m (for_tag K) c)
unfolding Undone step_behind step_of_named at_end
behind₁ m K c = either Undone (space c) _ _ refl (either Undone (separator c) _ _ refl (either Undone (fits (for_tag K) m) _ _ (tag₁ m no_attributes K c) refl))

ident₁ : (m : Name) (d : ℕ) (w : Bytes) (K : Stack) → Undone₁ (in_ident m d w (for_tag K))
unfolding Undone Undone₁ step at_end
ident₁ m d w K c = either Undone (name_byte c) _ _ refl (behind₁ _ K c)

opened₁ : Undone₁ (opened [])
unfolding Undone Undone₁ step close_of at_end
opened₁ c = either Undone (space c) _ _ refl (either Undone (letter c) _ _ refl (either Undone (eqb c 62) _ _ refl (either Undone (eqb c 47) _ _ refl refl)))

opened₂ : Undone₂ (opened [])
unfolding Undone₂ step close_of
opened₂ c = either Undone₁ (space c) _ _ opened₁ (either Undone₁ (letter c) _ _ (ident₁ [] 0 (c ∷ []) []) (either Undone₁ (eqb c 62) _ _ (children₁ [] no_attributes no_children []) (either Undone₁ (eqb c 47) _ _ refused₁ refused₁)))

one : Undone₁ start
unfolding Undone Undone₁ step at_end
one c = either Undone (eqb c 60) _ _ refl refl

two : Undone₂ start
unfolding Undone₂ step
two c = either Undone₁ (eqb c 60) _ _ opened₁ refused₁

three : (c : ℕ) → Undone₂ (step start c)
unfolding step
three c = either Undone₂ (eqb c 60) _ _ opened₂ refused₂

pub short_unread : (s : Bytes) → length s < 4 → outcome start s ≡ no_reading
unfolding Undone Undone₁ Undone₂ outcome at_end
short_unread [] l = refl
short_unread (a ∷ []) l = one a
short_unread (a ∷ b ∷ []) l = two a b
short_unread (a ∷ b ∷ c ∷ []) l = three a b c
short_unread (a ∷ b ∷ c ∷ d ∷ s) l = absurd (omega (arith, l))

unread : (s : Bytes) (t : Tag) → outcome start s ≡ no_reading → ReadsAs s t → ⊥
unread s t e r = let f = complete r in let z : read t ≡ no_reading = sym f ∙ e in cc

-- no tag is shorter
pub shortest : (s : Bytes) (t : Tag) → ReadsAs s t → 4 ≤ length s
shortest [] t r = absurd (unread [] t (short_unread [] (omega arith)) r)
shortest (a ∷ []) t r = absurd (unread (a ∷ []) t (short_unread (a ∷ []) (omega arith)) r)
shortest (a ∷ b ∷ []) t r = absurd (unread (a ∷ b ∷ []) t (short_unread (a ∷ b ∷ []) (omega arith)) r)
shortest (a ∷ b ∷ c ∷ []) t r = absurd (unread (a ∷ b ∷ c ∷ []) t (short_unread (a ∷ b ∷ c ∷ []) (omega arith)) r)
shortest (a ∷ b ∷ c ∷ d ∷ s) t r = omega arith
