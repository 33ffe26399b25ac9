-- What a header at the front of a body's rest says of `good`. Main statements: `handed_on`, `held_front`, `held_none`, `ended`, `torn`, `unallowed`,
-- `short_front`, `opens`, `leaf_bad`, `leaf_ends`. Assumes nothing.
use mathlib.Core.Path.{◌≡◌, refl, sym, ap, ◌∙◌}
use mathlib.Core.Bool.{Bool, true, false}
use Prim.Native.Nat.{ℕ, ◌+◌, ◌-◌, ◌≤◌, ◌<◌}
use native.Mathlib.Omega.{arith}
use lib.Dec.{eqb}
use lib.ListN.{length, take, drop, length-take}
use lib.Seq.{drop-drop, length-take-le}
use borrow.Author.Tests.{eq-eqb, ne_eqb, eqb-true, eqb-false}
use Rattle.field.specs.Bytes.{Bytes, pick}
use Rattle.field.specs.Row.{Inside, only_bytes, fields_after}
use Rattle.field.specs.Header.{header_of, Within}
use Rattle.field.specs.declared.reader.Header.{Header}
use Rattle.std.specs.Prelude.{Option, Some, None, Result, Err, IsErr, IsErrAnd}
use Rattle.std.proofs.lemmas.Result.{err_from_is_err_and}
use Rattle.field.proofs.HeaderLaws.{within_field}
use Rattle.refusal.specs.Refusal.{Verdict, Fine, Refused, after, unless}
use Rattle.page.specs.Tree.{choose}
use Rattle.refusal.specs.declared.Refusal.{Refusal}
use Rattle.refusal.specs.declared.Refusal.TheVariants as R
use Rattle.loops.proofs.Parts.{drop_take}
use Rattle.loops.proofs.Headers.{read_empty, read_torn, front_of, inner_of, body, field_is, length_body}
use Rattle.outs.specs.Held.{nests, held, read_out}
use Rattle.outs.specs.PageOut.{allowed, left, closed, within, front_right, check_leaf, good}
use Rattle.outs.specs.Step.{LeafIs, OpenIs}
use Rattle.outs.specs.declared.Expect.{Expect}

-- ---- what a `?` hands on

pub handed_on : {A : Type 0} {x : Result A Refusal} {n : Refusal} → IsErr x × IsErrAnd x (λ (m : Refusal). m ≡ n) → x ≡ Err n
handed_on h = let p = err_from_is_err_and _ h.1 in p.1 ∙ ap Err p.2

-- ---- what stands before the fields of a body

-- of a call its number, and nothing else
pub record FrontIs (width t m : ℕ) : Type 0 where
  pub nests_is : nests t ≡ true
  pub of_call : t ≡ 0x90 → m ≡ width
  pub of_other : (t ≡ 0x90 → ⊥) → m ≡ 0

pub held_front : (width t m : ℕ) → held width t ≡ fields_after m → FrontIs width t m
unfolding held
held_front width t m k = on (eqb t 0x90) refl k
  where
    other : (b : Bool) → nests t ≡ b → eqb t 0x90 ≡ false → pick b (fields_after 0) only_bytes ≡ fields_after m → FrontIs width t m
    other true n e j =
        let z : 0 ≡ m = cc in
        record { nests_is = n; of_call = λ c. absurd (eqb-false t 0x90 e c); of_other = λ c. sym z }
    other false n e j = absurd (let z : ◌≡◌ {A = ℕ} 0 1 = cc in omega arith)

    on : (b : Bool) → eqb t 0x90 ≡ b → pick b (fields_after width) (pick (nests t) (fields_after 0) only_bytes) ≡ fields_after m → FrontIs width t m
    on true e j =
        let z : width ≡ m = cc in
        let c : t ≡ 0x90 = eqb-true t 0x90 e in
        record { nests_is = ap nests c; of_call = λ _. sym z; of_other = λ no. absurd (no c) }
    on false e j = other (nests t) refl e j

pub held_none : (width t : ℕ) → held width t ≡ only_bytes → (t ≡ 0x90 → ⊥) × (nests t ≡ false)
unfolding held
held_none width t k = on (eqb t 0x90) refl k
  where
    other : (b : Bool) → nests t ≡ b → eqb t 0x90 ≡ false → pick b (fields_after 0) only_bytes ≡ only_bytes → (t ≡ 0x90 → ⊥) × (nests t ≡ false)
    other true n e j = absurd (let z : ◌≡◌ {A = ℕ} 0 1 = cc in omega arith)
    other false n e j = (eqb-false t 0x90 e, n)

    on : (b : Bool) → eqb t 0x90 ≡ b → pick b (fields_after width) (pick (nests t) (fields_after 0) only_bytes) ≡ only_bytes → (t ≡ 0x90 → ⊥) × (nests t ≡ false)
    on true e j = absurd (let z : ◌≡◌ {A = ℕ} 0 1 = cc in omega arith)
    on false e j = other (nests t) refl e j

-- ---- no field stands in front

pub ended : (width : ℕ) (c : Expect) (b : Bytes) → length b ≡ 0 → {v r : Verdict} → v ≡ closed c → v ≡ r → good width c (read_out width b) ≡ r
unfolding good read_out
ended width c b h q k = ap (good width c) (read_empty (held width) b h) ∙ sym q ∙ k

pub torn : (width : ℕ) (c : Expect) (b : Bytes) {v : Option Header} → v ≡ header_of b → v ≡ None → (length b ≡ 0 → ⊥) → good width c (read_out width b) ≡ Refused R.Truncated
unfolding good read_out
torn width c b q h z = ap (good width c) (read_torn (held width) b q h z)

-- ---- a field stands in front

-- of an allowed field of tag t whose body holds j: its body, and what follows
abbrev body_good : ℕ → ℕ → Inside → Bytes → ℕ → Verdict
body_good width t j b e = choose (nests t) (λ _. after (unless (front_right width t (front_of j (body b e))) R.Misplaced) λ _. good width (within t) (inner_of (held width) j (body b e))) λ _. check_leaf t (front_of j (body b e))

module _ (width : ℕ) (c : Expect) (b : Bytes) {v : Option Header} (q : v ≡ header_of b) (i : Within (length b) v) {h : Header} (x : v ≡ Some h) where
  good_is : good width c (read_out width b) ≡ after (unless (allowed c h.tag) R.Misplaced) λ _. after (body_good width h.tag (held width h.tag) b h.end) λ _. good width (left c h.tag) (read_out width (drop h.end b))
  unfolding good read_out
  good_is = ap (good width c) (field_is b q i x (held width))

  pub unallowed : allowed c h.tag ≡ false → good width c (read_out width b) ≡ Refused R.Misplaced
  unfolding after
  unallowed a = good_is ∙ rw a

  module _ (a : allowed c h.tag ≡ true) where
    good_at : good width c (read_out width b) ≡ after (body_good width h.tag (held width h.tag) b h.end) λ _. good width (left c h.tag) (read_out width (drop h.end b))
    unfolding after
    good_at = good_is ∙ rw a

    -- a field that holds fields, behind a front
    module _ {m : ℕ} (k : held width h.tag ≡ fields_after m) where
      inner_good : good width c (read_out width b) ≡ after (after (unless (front_right width h.tag (take m (body b h.end))) R.Misplaced) λ _. good width (within h.tag) (read_out width (drop m (body b h.end)))) λ _. good width (left c h.tag) (read_out width (drop h.end b))
      unfolding choose read_out
      inner_good =
          let n : nests h.tag ≡ true = (held_front width h.tag m k).nests_is in
          good_at ∙ ap (λ (j : Inside). after (body_good width h.tag j b h.end) λ _. good width (left c h.tag) (read_out width (drop h.end b))) k ∙ rw n

      -- its length is what the width asks
      whole : m ≤ h.end - 3 → front_right width h.tag (take m (body b h.end)) ≡ true
      whole l = on (eqb h.tag 0x90) refl
        where
          on : (e : Bool) → eqb h.tag 0x90 ≡ e → pick e (eqb (length (take m (body b h.end))) width) true ≡ true
          on true e = eq-eqb (length (take m (body b h.end))) width (length-take-le m (body b h.end) (omega (arith, length_body b q i x)) ∙ (held_front width h.tag m k).of_call (eqb-true h.tag 0x90 e))
          on false e = refl

      broken : h.end - 3 < m → front_right width h.tag (take m (body b h.end)) ≡ false
      broken l = on (eqb h.tag 0x90) refl
        where
          on : (e : Bool) → eqb h.tag 0x90 ≡ e → pick e (eqb (length (take m (body b h.end))) width) true ≡ false
          on true e =
              let w : m ≡ width = (held_front width h.tag m k).of_call (eqb-true h.tag 0x90 e) in
              ne_eqb (length (take m (body b h.end))) width (λ z. omega (arith, length_body b q i x, length-take m (body b h.end)))
          on false e =
              let w : m ≡ 0 = (held_front width h.tag m k).of_other (eqb-false h.tag 0x90 e) in
              absurd (omega arith)

      pub short_front : h.end - 3 < m → good width c (read_out width b) ≡ Refused R.Misplaced
      unfolding after
      short_front l = inner_good ∙ rw (broken l)

      pub opens : h.end ≤ 65538 → m ≤ h.end - 3 → {o : Expect} → o ≡ within h.tag → OpenIs width c b (3 + m) h.end o (left c h.tag)
      unfolding after
      opens l s {o} w =
          let p : (3 ≤ h.end) × (h.end ≤ length b) = within_field i x in
          let z : (h.end - 3) - m ≡ h.end - (3 + m) = omega arith in
          record {
            header = omega arith;
            starts = omega arith;
            ends = p.1;
            short = l;
            is = inner_good ∙ rw (whole s, drop_take m (h.end - 3) (drop 3 b), drop-drop m 3 b, z, w);
          }

    -- a field that holds bytes alone
    module _ (k : held width h.tag ≡ only_bytes) {r : Verdict} (s : r ≡ check_leaf h.tag (body b h.end)) where
      leaf_good : good width c (read_out width b) ≡ after r λ _. good width (left c h.tag) (read_out width (drop h.end b))
      unfolding choose
      leaf_good = good_at ∙ ap (λ (j : Inside). after (body_good width h.tag j b h.end) λ _. good width (left c h.tag) (read_out width (drop h.end b))) k ∙ rw ((held_none width h.tag k).1, s)

      pub leaf_bad : {m : Refusal} → r ≡ Refused m → good width c (read_out width b) ≡ Refused m
      unfolding after
      leaf_bad z = leaf_good ∙ rw z

      pub leaf_ends : r ≡ Fine → LeafIs width c b h.end (left c h.tag)
      unfolding after
      leaf_ends z =
          let p : (3 ≤ h.end) × (h.end ≤ length b) = within_field i x in
          record {
            header = p.0;
            ends = p.1;
            is = leaf_good ∙ rw z;
          }
