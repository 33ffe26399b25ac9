-- Facts about tests, choices and joined lists. Assumes nothing.
use Prim.Native.Nat.{ℕ}
use mathlib.Core.Path.{◌≡◌, refl, sym, ap, subst}
use mathlib.Core.Bool.{Bool, true, false, ◌||◌, not}
use mathlib.Core.Logic.{◌⊎◌, inl, inr}
use lib.Dec.{T, eqb, eqb→eq, eqb_refl, not_T}
use Rattle.grammar.specs.Signs.{choose, letter, space, text_byte, quote, quoted_byte, source_byte, string_byte, separator}
use Rattle.grammar.specs.Syntax.{Attributes, no_attributes, attribute, Attribute, Children, no_children, child, Child, join_attributes, join_children}

pub chose : {A : Type 0} (b : Bool) (x y : A) → T b → choose b x y ≡ x
unfolding choose
chose true x y t = refl
chose false x y t = absurd t

pub passed : {A : Type 0} (b : Bool) (x y : A) → T (not b) → choose b x y ≡ y
unfolding choose
passed true x y t = absurd t
passed false x y t = refl

-- what holds of a choice holds of what is chosen
pub chosen {ℓ} : {A : Type 0} (P : A → Type 0) {Q : Type ℓ} (b : Bool) (x y : A) → (T b → P x → Q) → (T (not b) → P y → Q) → P (choose b x y) → Q
unfolding choose
chosen P true x y f g p = f tt p
chosen P false x y f g p = g tt p

pub or_cases : (a b : Bool) → T (a || b) → T a ⊎ T b
or_cases true b t = inl tt
or_cases false b t = inr t

pub or_left : (a b : Bool) → T a → T (a || b)
or_left true b t = tt
or_left false b t = absurd t

pub or_right : (a b : Bool) → T b → T (a || b)
or_right true b t = tt
or_right false b t = t

pub not_or : (a b : Bool) → T (not (a || b)) → T (not a) × T (not b)
not_or true b t = absurd t
not_or false b t = (tt, t)

pub nor : (a b : Bool) → T (not a) → T (not b) → T (not (a || b))
nor true b s t = absurd s
nor false b s t = t

pub not_not : (b : Bool) → T b → T (not (not b))
not_not true t = tt
not_not false t = absurd t

pub at_eq : (P : ℕ → Type 0) (c d : ℕ) → T (eqb c d) → P d → P c
at_eq P c d t p = subst P (sym (eqb→eq c d t)) p

pub space_no_letter : (c : ℕ) → T (space c) → T (not (letter c))
unfolding space letter
space_no_letter c t = on₁ (or_cases (eqb c 9 || eqb c 10 || eqb c 13) (eqb c 32) t)
  where
    P : ℕ → Type 0
    P d = T (not (letter d))

    on₃ : T (eqb c 9) ⊎ T (eqb c 10) → P c
    on₃ (inl u) = at_eq P c 9 u tt
    on₃ (inr u) = at_eq P c 10 u tt

    on₂ : T (eqb c 9 || eqb c 10) ⊎ T (eqb c 13) → P c
    on₂ (inl u) = on₃ (or_cases (eqb c 9) (eqb c 10) u)
    on₂ (inr u) = at_eq P c 13 u tt

    on₁ : T (eqb c 9 || eqb c 10 || eqb c 13) ⊎ T (eqb c 32) → P c
    on₁ (inl u) = on₂ (or_cases (eqb c 9 || eqb c 10) (eqb c 13) u)
    on₁ (inr u) = at_eq P c 32 u tt

pub clash : (b : Bool) {A : Type 0} → T b → T (not b) → A
clash true s t = absurd t
clash false s t = absurd s

pub letter_no_space : (c : ℕ) → T (letter c) → T (not (space c))
letter_no_space c t = not_T (space c) (λ u. clash (letter c) t (space_no_letter c u))

pub quote_is : (P : ℕ → Type 0) (c : ℕ) → T (quote c) → P 34 → P 39 → P c
unfolding quote
quote_is P c t a b = on (or_cases (eqb c 34) (eqb c 39) t)
  where
    on : T (eqb c 34) ⊎ T (eqb c 39) → P c
    on (inl u) = at_eq P c 34 u a
    on (inr u) = at_eq P c 39 u b

pub quote_no_source : (c : ℕ) → T (quote c) → T (not (source_byte c))
unfolding source_byte quote
quote_no_source c t = quote_is (λ (d : ℕ). T (not (source_byte d))) c t tt tt

pub quote_no_space : (c : ℕ) → T (quote c) → T (not (space c))
unfolding space
quote_no_space c t = quote_is (λ (d : ℕ). T (not (space d))) c t tt tt

pub quote_no_amp : (c : ℕ) → T (quote c) → T (not (eqb c 38))
quote_no_amp c t = quote_is (λ (d : ℕ). T (not (eqb d 38))) c t tt tt

pub separator_no_space : (c : ℕ) → T (separator c) → T (not (space c))
unfolding separator space
separator_no_space c t = on (or_cases (eqb c 46) (eqb c 58) t)
  where
    on : T (eqb c 46) ⊎ T (eqb c 58) → T (not (space c))
    on (inl u) = at_eq (λ (d : ℕ). T (not (space d))) c 46 u tt
    on (inr u) = at_eq (λ (d : ℕ). T (not (space d))) c 58 u tt

pub end_quote : (q : ℕ) → T (not (quoted_byte q q))
unfolding quoted_byte
end_quote q =
    not_not (eqb q q || eqb q 10 || eqb q 13 || eqb q 92)
    (or_left (eqb q q || eqb q 10 || eqb q 13) (eqb q 92) (or_left (eqb q q || eqb q 10) (eqb q 13) (or_left (eqb q q) (eqb q 10) (eqb_refl q))))

pub end_string : (q : ℕ) → T (not (string_byte q q))
unfolding string_byte
end_string q = not_not (eqb q q) (eqb_refl q)

pub no_text_no_amp : (c : ℕ) → T (not (text_byte c)) → T (not (eqb c 38))
unfolding text_byte
no_text_no_amp c t = not_T (eqb c 38) (λ u. at_eq (λ (d : ℕ). T (not (text_byte d)) → ⊥) c 38 u (λ x. x) t)

pub join_attributes_none : (a : Attributes) → join_attributes a no_attributes ≡ a
unfolding join_attributes
join_attributes_none no_attributes = refl
join_attributes_none (attribute x a) = ap (attribute x) (join_attributes_none a)

pub join_attributes_one : (a : Attributes) (x : Attribute) (b : Attributes) → join_attributes (join_attributes a (attribute x no_attributes)) b ≡ join_attributes a (attribute x b)
unfolding join_attributes
join_attributes_one no_attributes x b = refl
join_attributes_one (attribute y a) x b = ap (attribute y) (join_attributes_one a x b)

pub join_children_none : (a : Children) → join_children a no_children ≡ a
unfolding join_children
join_children_none no_children = refl
join_children_none (child x a) = ap (child x) (join_children_none a)

pub join_children_one : (a : Children) (x : Child) (b : Children) → join_children (join_children a (child x no_children)) b ≡ join_children a (child x b)
unfolding join_children
join_children_one no_children x b = refl
join_children_one (child y a) x b = ap (child y) (join_children_one a x b)
