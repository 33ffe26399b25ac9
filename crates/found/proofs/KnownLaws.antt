-- What is known of the fragments among children: of two that stand beside each other at most one is more than half of them, so that what is
-- known of one such says it of each. Main statements: `reached_all`, `reached_behind`; `known_none`, `known_more`, `known_less`; `known_front`,
-- `known_behind`. Assumes nothing.
use mathlib.Core.Path.{◌≡◌, refl, sym, ap, ◌∙◌, subst}
use mathlib.Core.Bool.{Bool, true, false, ◌&&◌}
use Prim.Native.Nat.{ℕ, zero, suc, ◌+◌, ◌-◌, ◌≤◌, ◌<◌}
use native.Mathlib.Omega.{arith}
use lib.Dec.{eqb, ltb}
use lib.ListN.{length}
use borrow.Author.Tests.{eqb-true, ltb-true, ltb-false}
use Rattle.field.specs.Bytes.{Bytes, pick}
use Rattle.field.specs.Front.{tag_of_front, body_of, behind_of}
use Rattle.field.specs.Fields.{IsFront}
use Rattle.field.proofs.FrontLaws.{sizes}
use Rattle.page.proofs.CheckLaws.{behind_short}
use Rattle.found.specs.Finds.{behind_fields, EachFragment, Several, is_most, KnownOf, Known, known_around}

-- ---- what is left behind some fields

behind_one : (n : ℕ) (s : Bytes) → behind_of (behind_fields n s) ≡ behind_fields n (behind_of s)
unfolding behind_fields
behind_one zero s = refl
behind_one (suc n) s = behind_one n (behind_of s)

behind_more : (n d : ℕ) (s : Bytes) → behind_fields (n + suc d) s ≡ behind_fields d (behind_of (behind_fields n s))
unfolding behind_fields
behind_more zero d s = ap (λ (m : ℕ). behind_fields m s) (let e : 0 + suc d ≡ suc d = omega arith in e)
behind_more (suc n) d s = ap (λ (m : ℕ). behind_fields m s) (let e : suc n + suc d ≡ suc (n + suc d) = omega arith in e) ∙ behind_more n d (behind_of s)

behind_le : (n : ℕ) (s : Bytes) → length (behind_fields n s) ≤ length s
unfolding behind_fields
behind_le zero s = omega arith
behind_le (suc n) s = omega (arith, behind_le n (behind_of s), behind_short s)

-- t is left of s
pub record Reached (s t : Bytes) : Type 0 where
  pub steps : ℕ
  pub is_it : t ≡ behind_fields steps s

pub reached_all : (s : Bytes) → Reached s s
unfolding behind_fields
reached_all s = record { steps = 0; is_it = refl }

pub reached_behind : {s t : Bytes} → Reached s t → {u : ℕ} {b r : Bytes} → IsFront t u b r → Reached s r
unfolding behind_fields
reached_behind {s} a f = record { steps = suc a.steps; is_it = f.behind_is ∙ ap behind_of a.is_it ∙ behind_one a.steps s }

-- ---- two fragments beside each other

fragment_sizes : (t : Bytes) → tag_of_front t ≡ 0x31 → 3 + length (body_of t) + length (behind_of t) ≡ length t
fragment_sizes t e = sizes t (tag_of_front t) refl λ z. omega (arith, z, e)

module _ (s : Bytes) where
  abbrev body_at : ℕ → Bytes
  body_at n = body_of (behind_fields n s)

  abbrev fragment_at : ℕ → Type 0
  fragment_at n = tag_of_front (behind_fields n s) ≡ 0x31

  both_fit : (i d : ℕ) → fragment_at i → fragment_at (i + suc d) → length (body_at i) + length (body_at (i + suc d)) < length s
  both_fit i d g h =
      omega (
        arith,
        behind_le i s,
        fragment_sizes (behind_fields i s) g,
        fragment_sizes (behind_fields (i + suc d) s) h,
        ap length (behind_more i d s),
        behind_le d (behind_of (behind_fields i s)),
      )

  abbrev Most : ℕ → Type 0
  Most n = is_most (length s) (length (body_at n)) ≡ true

  most_is : (n : ℕ) → Most n → length s < length (body_at n) + length (body_at n)
  most_is n h = ltb-true (length s) (length (body_at n) + length (body_at n)) h

  not_before : (i j : ℕ) → i < j → fragment_at i → fragment_at j → Most i → Most j → ⊥
  not_before i j l g h p q =
      let e : i + suc (j - i - 1) ≡ j = omega arith in
      omega (arith, both_fit i (j - i - 1) g (subst fragment_at (sym e) h), ap (λ (n : ℕ). length (body_at n)) e, most_is i p, most_is j q)

  one_most : (i j : ℕ) → fragment_at i → fragment_at j → Most i → Most j → i ≡ j
  one_most i j g h p q = on (ltb i j) refl (ltb j i) refl
    where
      on : (x : Bool) → ltb i j ≡ x → (y : Bool) → ltb j i ≡ y → i ≡ j
      on true e y f = absurd (not_before i j (ltb-true i j e) g h p q)
      on false e true f = absurd (not_before j i (ltb-true j i f) h g q p)
      on false e false f = omega (arith, ltb-false i j e, ltb-false j i f)

-- ---- what is known

pub known_none : (skip s : Bytes) → Known 0 skip s
unfolding KnownOf
known_none skip s n g = tt

-- by the fragment in front of t, which is left of s
pub known_more : (skip s : Bytes) {t : Bytes} → Reached s t → {u : ℕ} {b r : Bytes} → IsFront t u b r → u ≡ 0x31 → (l k : ℕ) →
    (l ≡ length b → Several skip b × Known k skip b) → {m : ℕ} → m ≡ known_around (length s) (length b) l k → Known m skip s
unfolding KnownOf
known_more skip s {t} a {u} {b} f g l k h e =
    subst (λ (m : ℕ). Known m skip s) (sym e) (on (eqb l (length b)) refl (is_most (length s) (length b)) refl (ltb k (length s)))
  where
    here : b ≡ body_of (behind_fields a.steps s)
    here = f.body_is ∙ ap body_of a.is_it

    tag : tag_of_front (behind_fields a.steps s) ≡ 0x31
    tag = ap tag_of_front (sym a.is_it) ∙ sym f.tag_is ∙ g

    on : (x : Bool) → eqb l (length b) ≡ x → (y : Bool) → is_most (length s) (length b) ≡ y → (z : Bool) → Known (pick (x && (y && z)) (suc k) 0) skip s
    on false p y q z = known_none skip s
    on true p false q z = known_none skip s
    on true p true q false = known_none skip s
    on true p true q true = λ n i j.
        let same : a.steps ≡ n = one_most s a.steps n tag i (ap (λ (c : Bytes). is_most (length s) (length c)) (sym here) ∙ q) j in
        subst (λ (c : Bytes). Several skip c × Known k skip c) (here ∙ ap (λ (n : ℕ). body_of (behind_fields n s)) same) (h (eqb-true l (length b) p))

-- of a fragment, one level down
pub known_less : (skip b : Bytes) (n k : ℕ) → 0 < k → KnownOf k skip n b → is_most n (length b) ≡ true → Several skip b × Known (k - 1) skip b
unfolding KnownOf
known_less skip b n zero l h m = absurd (omega arith)
known_less skip b n (suc k) l h m = subst (λ (j : ℕ). Several skip b × Known j skip b) (let e : k ≡ suc k - 1 = omega arith in e) (h m)

module _ {t : Bytes} {u : ℕ} {b r : Bytes} (f : IsFront t u b r) (k : ℕ) (skip : Bytes) (n : ℕ) (e : EachFragment (KnownOf k skip n) t) where
  pub known_front : u ≡ 0x31 → KnownOf k skip n b
  unfolding behind_fields
  known_front g = subst (KnownOf k skip n) (sym f.body_is) (e 0 (sym f.tag_is ∙ g))

  pub known_behind : EachFragment (KnownOf k skip n) r
  unfolding behind_fields
  known_behind = subst (EachFragment (KnownOf k skip n)) (sym f.behind_is) λ m. e (suc m)
