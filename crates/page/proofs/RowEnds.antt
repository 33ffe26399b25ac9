-- What stands where no field does, and names: what the tests of the code say of the checks on the row that is read.
-- Main statements: `nothing_left`, `end_extra`, `missing_then`, `members_next`, `first_name`, `space_then`, `local_then`. Assumes nothing.
use mathlib.Core.Path.{◌≡◌, refl, sym, ap, ◌∙◌, subst}
use mathlib.Core.Bool.{Bool, true, false, ◌&&◌}
use Prim.Native.Nat.{ℕ, zero, suc, ◌+◌, ◌-◌, ◌≤◌, ◌<◌}
use native.Mathlib.Omega.{arith}
use lib.Dec.{eqb}
use lib.ListN.{length}
use borrow.Author.Tests.{eq-eqb, ne_eqb}
use Rattle.std.specs.Prelude.{OnOk}
use Rattle.field.specs.Bytes.{Bytes}
use Rattle.field.specs.Row.{Row, end, loose, field, read, Inside, only_bytes, fields_after, counted, inside, opened, Next, nothing, no_field, next, next_of, built}
use Rattle.field.specs.Front.{behind_of, behind_by}
use Rattle.field.specs.Fields.{IsFront, IsEnd}
use Rattle.field.proofs.RowLaws.{read_step, next_nothing}
use Rattle.field.proofs.FrontLaws.{read_empty}
use Rattle.refusal.specs.Refusal.{Verdict, Fine, Refused, after, unless}
use Rattle.page.specs.Check.{check_header, check_end, check_name, is_name, no_hyphen, check_members, at_least, check_ident, check_nothing_after}
use Rattle.page.specs.CheckField.{check_missing, check_counted, check_first, check_namespaced}
use Rattle.refusal.specs.declared.Refusal.TheVariants as R
use Rattle.page.proofs.Steps.{Then, Checked, row_at, ended, tested}

-- ---- verdicts in a row

module _ (ok : Bool) (depth : ℕ) (v : Unit {0} → Verdict) where
  pub header_other : ok ≡ false → Refused R.Misplaced ≡ after (check_header ok depth) v
  unfolding check_header after
  header_other h = rw h

-- ---- the end of a row

-- some bytes are left
abbrev pub NotEnd : Row → Type 0
NotEnd end = ⊥
NotEnd (loose b) = Unit {0}
NotEnd (field t f i r) = Unit {0}

pub not_end : (s : Bytes) → (length s ≡ 0 → ⊥) → NotEnd (read s)
unfolding built opened
not_end s h = subst NotEnd (sym (read_step s)) (on (next_of s) refl)
  where
    in_field : (c : Inside) (t : ℕ) (w r : Bytes) → NotEnd (opened c read t w r)
    in_field only_bytes t w r = tt
    in_field (fields_after n) t w r = tt
    in_field (counted n) t w r = tt

    on : (n : Next) → next_of s ≡ n → NotEnd (built read s n)
    on nothing e = h (ap length (next_nothing s e))
    on no_field e = tt
    on (next t w r) e = in_field (inside t) t w r

-- no byte is left
pub nothing_left : (s : Bytes) → unless (eqb (length s) 0) R.Truncated ≡ check_nothing_after (read s)
unfolding check_nothing_after
nothing_left s = tested (length s) 0 (λ e. rw (eq-eqb (length s) 0 e, read_empty s e)) (λ n. rw (ne_eqb (length s) 0 n) (on (read s) (not_end s n)))
  where
    on : (r : Row) → NotEnd r → Refused R.Truncated ≡ check_nothing_after r
    on end i = absurd i
    on (loose b) i = refl
    on (field t f j r) i = refl

pub end_extra : {s : Bytes} {t : ℕ} {w r : Bytes} → IsFront s t w r → Refused R.Misplaced ≡ check_end (read s)
unfolding check_end
end_extra f = rw (row_at f)

pub end_ended : {s r : Bytes} → IsEnd s r → check_nothing_after (read r) ≡ check_end (read s)
unfolding check_nothing_after check_end
end_ended e = ended check_nothing_after check_end refl (λ b. refl) e

pub missing_then : (r : Row) → Then (check_missing r) (check_nothing_after r) (Refused R.Misplaced)
unfolding check_missing check_nothing_after after
missing_then end = record { then_is = refl }
missing_then (loose b) = record { then_is = refl }
missing_then (field t f i r) = record { then_is = refl }

-- the lack of a field is never fine
pub missing_refused : {v : Verdict} (A : Type 0) (r : Row) → v ≡ check_missing r → OnOk v A
unfolding check_missing
missing_refused {v} A r e = subst (λ (x : Verdict). OnOk x A) (sym e) (on r)
  where
    on : (r : Row) → OnOk (check_missing r) A
    on end = tt
    on (loose b) = tt
    on (field t f i r) = tt

-- ---- members: the code has counted n of them

-- a field that is no 40, and one too many
counted_other : (k m depth t : ℕ) (f : Bytes) (i r : Row) → eqb t 0x40 ≡ false → check_counted k m depth (field t f i r) ≡ Refused R.Misplaced
unfolding check_counted check_members after
counted_other zero m depth t f i r h = refl
counted_other (suc k) m depth t f i r h = rw (← header_other (eqb t 0x40) depth (λ _. after (unless (is_name f && no_hyphen f) R.BadName) λ _. check_members k depth r) h)

-- one more 40
counted_more : (k m depth : ℕ) (f : Bytes) (r : Row) →
    check_counted (suc k) m depth (field 0x40 f end r) ≡ after (check_header true depth) λ _. after (unless (is_name f && no_hyphen f) R.BadName) λ _. check_counted k (m - 1) depth r
unfolding check_counted check_members at_least after
counted_more k m depth f r = in_row (check_header true depth) (unless (is_name f && no_hyphen f) R.BadName) m
  where
    in_row : (a b : Verdict) (m : ℕ) →
        after (after a λ _. after b λ _. check_members k depth r) (λ _. unless (at_least m (field 0x40 f end r)) R.Misplaced) ≡ after a λ _. after b λ _. after (check_members k depth r) λ _. unless (at_least (m - 1) r) R.Misplaced
    in_row Fine Fine zero = refl
    in_row Fine Fine (suc m) = let z : suc m - 1 ≡ m = omega arith in rw z
    in_row Fine (Refused n) m = refl
    in_row (Refused n) b m = refl

-- none but the eight
pub members_full : (depth : ℕ) (r : Row) → check_end r ≡ check_counted 0 0 depth r
unfolding check_counted check_members at_least after check_end
members_full depth end = refl
members_full depth (loose b) = refl
members_full depth (field t f i r) = refl

module _ (depth n : ℕ) {t : Bytes} {y : Verdict} (inv : y ≡ check_counted (8 - n) (2 - n) depth (read t)) where
  module _ {r : Bytes} (e : IsEnd t r) where
    pub members_few : n < 2 → check_missing (read r) ≡ y
    unfolding check_counted check_members at_least after check_missing
    members_few h = let m : 2 - n ≡ suc (1 - n) = omega arith in ended check_missing (check_counted (8 - n) (suc (1 - n)) depth) refl (λ b. refl) e ∙ sym (inv ∙ rw m)

    pub members_enough : 2 ≤ n → check_nothing_after (read r) ≡ y
    unfolding check_counted check_members at_least after check_nothing_after
    members_enough h = let m : 2 - n ≡ 0 = omega arith in ended check_nothing_after (check_counted (8 - n) 0 depth) refl (λ b. refl) e ∙ sym (inv ∙ rw m)

  module _ {tag : ℕ} {b r : Bytes} (f : IsFront t tag b r) where
    pub members_other : (tag ≡ 0x40 → ⊥) → Refused R.Misplaced ≡ y
    members_other i = sym (inv ∙ rw (row_at f) (counted_other (8 - n) (2 - n) depth tag _ _ (read r) (ne_eqb tag 0x40 i)))

    pub members_next : tag ≡ 0x40 → n < 8 → Checked y depth (after (unless (is_name b && no_hyphen b) R.BadName) λ _. check_counted (8 - (n + 1)) (2 - (n + 1)) depth (read r))
    unfolding inside
    members_next k h =
        let m : 8 - n ≡ suc (8 - (n + 1)) = omega arith in
        let l : 2 - n - 1 ≡ 2 - (n + 1) = omega arith in
        record { then_is = inv ∙ rw (row_at f, k, m) (counted_more (8 - (n + 1)) (2 - n) depth b (read r) ∙ rw l) }

-- ---- the 40 in front, and two of them

module _ (depth : ℕ) {s r : Bytes} where
  pub first_missing : IsEnd s r → check_missing (read r) ≡ check_first depth (read s)
  unfolding check_first check_ident check_missing
  first_missing e = ended check_missing (check_first depth) refl (λ b. refl) e

  module _ {tag : ℕ} {b : Bytes} (f : IsFront s tag b r) where
    pub first_other : (tag ≡ 0x40 → ⊥) → Refused R.Misplaced ≡ check_first depth (read s)
    unfolding check_first check_ident
    first_other i = rw (row_at f) (header_other (eqb tag 0x40) depth _ (ne_eqb tag 0x40 i))

    pub first_name : tag ≡ 0x40 → Checked (check_first depth (read s)) depth (check_name b)
    unfolding check_first check_ident after inside
    first_name k = record { then_is = rw (row_at f, k) (in_row (check_header true depth) (check_name b)) }
      where
        in_row : (a b : Verdict) → after a (λ _. after b λ _. Fine) ≡ after a λ _. b
        in_row Fine Fine = refl
        in_row Fine (Refused n) = refl
        in_row (Refused n) b = refl

-- what follows a 40 is checked once that is fine
ident_then : (depth : ℕ) (s : Bytes) (v : Row → Verdict) → check_ident depth (read s) v ≡ after (check_first depth (read s)) λ _. v (read (behind_of s))
unfolding check_first check_ident behind_of built opened after
ident_then depth s v = rw (read_step s) (on (next_of s))
  where
    in_row : (a b : Verdict) (w : Verdict) → after a (λ _. after b λ _. w) ≡ after (after a λ _. after b λ _. Fine) λ _. w
    in_row Fine Fine w = refl
    in_row Fine (Refused n) w = refl
    in_row (Refused n) b w = refl

    in_field : (c : Inside) (t : ℕ) (w r : Bytes) → check_ident depth (opened c read t w r) v ≡ after (check_ident depth (opened c read t w r) λ _. Fine) λ _. v (read r)
    in_field only_bytes t w r = in_row (check_header (eqb t 0x40) depth) (check_name w) (v (read r))
    in_field (fields_after n) t w r = in_row (check_header (eqb t 0x40) depth) (check_name _) (v (read r))
    in_field (counted n) t w r = in_row (check_header (eqb t 0x40) depth) (check_name _) (v (read r))

    on : (n : Next) → check_ident depth (built read s n) v ≡ after (check_ident depth (built read s n) λ _. Fine) λ _. v (read (behind_by n))
    on nothing = refl
    on no_field = refl
    on (next t w r) = in_field (inside t) t w r

module _ (depth : ℕ) (s : Bytes) {t : Bytes} (q : t ≡ behind_of s) where
  pub space_then : Then (check_namespaced depth (read s)) (check_first depth (read s)) (check_ident depth (read t) check_end)
  unfolding check_namespaced
  space_then = record { then_is = ident_then depth s (λ r. check_ident depth r check_end) ∙ rw (← q) }

  pub local_then : Then (check_ident depth (read s) check_end) (check_first depth (read s)) (check_end (read t))
  local_then = record { then_is = ident_then depth s check_end ∙ rw (← q) }
