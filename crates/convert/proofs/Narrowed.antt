-- A page out with numbers of four bytes and no wide one, with numbers of two: as good, and no body is longer. Main statements: `narrowed_good`,
-- `narrowed_short`, `none_wide`. Assumes nothing.
use Prim.Native.Nat.{ℕ, ◌+◌, ◌≤◌}
use native.Mathlib.Omega.{arith}
use mathlib.Core.Path.{◌≡◌, refl, sym, ap, ap₂, ◌∙◌, subst}
use mathlib.Core.Bool.{Bool, true, false, ◌&&◌, ◌||◌, not}
use mathlib.Core.List.{List, [], ◌∷◌, ◌++◌}
use lib.Dec.{T, eqb, ltb, nltb→le}
use lib.ListN.{length, length-append}
use borrow.Author.Tests.{eqb-true, eq-eqb, le-ltb}
use Rattle.std.proofs.Math.Facts.{or_no}
use Rattle.field.specs.Bytes.{Bytes, pick}
use Rattle.field.specs.Number.{big_endian, number_of}
use Rattle.field.specs.Row.{Row, end, loose, field, bytes, long_body}
use Rattle.field.proofs.NumberLaws.{length_big_endian, four_read}
use Rattle.field.proofs.Reading.{ShapedBy, length_bytes}
use Rattle.page.specs.Tree.{choose}
use Rattle.refusal.specs.Refusal.{Fine, Verdict, after, unless}
use Rattle.refusal.specs.declared.Refusal.TheVariants as R
use Rattle.refusal.proofs.Verdicts.{fine_after, after_fine}
use Rattle.page.proofs.TightRows.{short_field, short_parts}
use Rattle.outs.specs.Held.{nests, held}
use Rattle.outs.specs.PageOut.{allowed, left, within, front_right, check_leaf, good}
use Rattle.outs.specs.Renumber.{renumbered_front, renumbered, has_wide}
use Rattle.outs.specs.declared.Expect.{Expect}
use Rattle.spec.specs.Pass.{Template}
use Rattle.spec.specs.Transform.{bit}
use Rattle.spec.proofs.Ledger.{Test, recorded, called_row}
use Rattle.spec.proofs.Counts.{AllWithin}
use Rattle.convert.proofs.Formed.{true_never, FormedRow}
use Rattle.convert.proofs.PageLaws.{leaf_alone, leaf_grows, rest_fine, nest_fine}
use Rattle.convert.proofs.RowFormed.{flat, flat_nest, flat_leaf, unless_true}

-- ---- as good

narrow_right : (t : ℕ) (f : Bytes) → front_right 2 t (renumbered_front 2 t f) ≡ true
narrow_right t f = on (eqb t 0x90)
  where
    on : (b : Bool) → pick b (eqb (length (pick b (big_endian 2 (number_of f) []) f)) 2) true ≡ true
    on true = eq-eqb (length (big_endian 2 (number_of f) [])) 2 (length_big_endian 2 (number_of f) [] ∙ omega arith)
    on false = refl

-- the header of a field that is fine
header_fine : (w : ℕ) (c : Expect) (t : ℕ) (f : Bytes) (i r : Row) → good w c (field t f i r) ≡ Fine → unless (allowed c t) R.Misplaced ≡ Fine
unfolding good
header_fine w c t f i r h = (after_fine (unless (allowed c t) R.Misplaced) (λ _. after (choose (nests t) (λ _. after (unless (front_right w t f) R.Misplaced) λ _. good w (within t) i) (λ _. check_leaf t f)) λ _. good w (left c t) r) h).0

leaf_fine : (w : ℕ) (c : Expect) (t : ℕ) (f : Bytes) (i r : Row) → good w c (field t f i r) ≡ Fine → nests t ≡ false → check_leaf t f ≡ Fine
unfolding good choose
leaf_fine w c t f i r h q =
    let body : Verdict = choose (nests t) (λ _. after (unless (front_right w t f) R.Misplaced) λ _. good w (within t) i) (λ _. check_leaf t f) in
    let a = after_fine (unless (allowed c t) R.Misplaced) (λ _. after body λ _. good w (left c t) r) h in
    subst (λ (b : Bool). choose b (λ _. after (unless (front_right w t f) R.Misplaced) λ _. good w (within t) i) (λ _. check_leaf t f) ≡ Fine) q (after_fine body (λ _. good w (left c t) r) a.1).0

field_good : (w : ℕ) (c : Expect) (t : ℕ) (f : Bytes) (i r : Row) → unless (allowed c t) R.Misplaced ≡ Fine → (b : Bool) → nests t ≡ b → (nests t ≡ true → (front_right w t f ≡ true) × (good w (within t) i ≡ Fine)) → (nests t ≡ false → check_leaf t f ≡ Fine) → good w (left c t) r ≡ Fine → good w c (field t f i r) ≡ Fine
unfolding good choose
field_good w c t f i r a true q n l g =
    fine_after _ _ a (fine_after _ _ (ap (λ (b : Bool). choose b (λ _. after (unless (front_right w t f) R.Misplaced) λ _. good w (within t) i) (λ _. check_leaf t f)) q ∙ fine_after _ _ (unless_true (n q).0) (n q).1) g)
field_good w c t f i r a false q n l g =
    fine_after _ _ a (fine_after _ _ (ap (λ (b : Bool). choose b (λ _. after (unless (front_right w t f) R.Misplaced) λ _. good w (within t) i) (λ _. check_leaf t f)) q ∙ l q) g)

pub narrowed_good : (c : Expect) (y : Row) → good 4 c y ≡ Fine → good 2 c (renumbered 2 y) ≡ Fine
unfolding renumbered
narrowed_good c end h = unfold good in h
narrowed_good c (loose b) h = unfold good in h
narrowed_good c (field t f i r) h =
    field_good 2 c t (renumbered_front 2 t f) (renumbered 2 i) (renumbered 2 r) (header_fine 4 c t f i r h) (nests t) refl
    (λ q. (narrow_right t f, narrowed_good (within t) i (nest_fine 4 c t f i r h q).1))
    (λ q. ap (check_leaf t) (leaf_grows 2 t f q) ∙ leaf_fine 4 c t f i r h q)
    (narrowed_good (left c t) r (rest_fine 4 c t f i r h))

-- ---- and no longer

narrow_front : (t : ℕ) (f : Bytes) (b : Bool) → eqb t 0x90 ≡ b → (nests t ≡ true → front_right 4 t f ≡ true) → length (renumbered_front 2 t f) ≤ length f
narrow_front t f true q h =
    let n : nests t ≡ true = ap nests (eqb-true t 0x90 q) in
    let l : length f ≡ 4 = eqb-true (length f) 4 (subst (λ (b : Bool). pick b (eqb (length f) 4) true ≡ true) q (h n)) in
    let k : length (renumbered_front 2 t f) ≡ 2 + 0 = ap (λ (b : Bool). length (pick b (big_endian 2 (number_of f) []) f)) q ∙ length_big_endian 2 (number_of f) [] in
    omega arith
narrow_front t f false q h =
    let k : length (renumbered_front 2 t f) ≡ length f = ap (λ (b : Bool). length (pick b (big_endian 2 (number_of f) []) f)) q in
    omega arith

record Shorter (x y : Row) : Type 0 where
  bytes_less : length (bytes x) ≤ length (bytes y)
  stays_short : T (not (long_body y)) → T (not (long_body x))

shorter_end : Shorter (renumbered 2 end) end
unfolding renumbered
shorter_end = record { bytes_less = omega arith; stays_short = λ h. h }

shorter_field : (t : ℕ) (f g : Bytes) (i j r s : Row) → length g ≤ length f → Shorter j i → Shorter s r → Shorter (field t g j s) (field t f i r)
shorter_field t f g i j r s l x y =
    record {
      bytes_less = omega (arith, length_bytes t f i r, length_bytes t g j s, x.bytes_less, y.bytes_less);
      stays_short =
          λ h.
          let p = short_parts t f i r h in
          let n : length (f ++ bytes i) ≤ 65535 = p.0 in
          short_field t g j s (omega (arith, length-append f (bytes i), length-append g (bytes j), x.bytes_less)) (x.stays_short p.1) (y.stays_short p.2);
    }

shorter : (c : Expect) (y : Row) → ShapedBy (held 4) y → good 4 c y ≡ Fine → Shorter (renumbered 2 y) y
unfolding renumbered
shorter c end s h = record { bytes_less = omega arith; stays_short = λ h. h }
shorter c (loose b) s h = record { bytes_less = omega arith; stays_short = λ h. h }
shorter c (field t f i r) s h =
    shorter_field t f (renumbered_front 2 t f) i (renumbered 2 i) r (renumbered 2 r) (narrow_front t f (eqb t 0x90) refl (λ n. (nest_fine 4 c t f i r h n).0))
    (inner (λ q. shorter (within t) i s.1 (nest_fine 4 c t f i r h q).1) (nests t) refl) (shorter (left c t) r s.2 (rest_fine 4 c t f i r h))
  where
    inner : (nests t ≡ true → Shorter (renumbered 2 i) i) → (b : Bool) → nests t ≡ b → Shorter (renumbered 2 i) i
    inner k true q = k q
    inner k false q = subst (λ (x : Row). Shorter (renumbered 2 x) x) (sym (leaf_alone 4 t f i q s.0)) shorter_end

pub narrowed_short : (c : Expect) (y : Row) → ShapedBy (held 4) y → good 4 c y ≡ Fine → T (not (long_body y)) → T (not (long_body (renumbered 2 y)))
narrowed_short c y s h l = (shorter c y s h).stays_short l

-- ---- no number is wide

abbrev pub is_wide : Test
is_wide f ks = ltb 65535 (number_of f)

pub recorded_narrow : (k : ℕ) (ts : List Template) → k ≤ 65535 → AllWithin k ts → recorded is_wide ts ≡ 0
unfolding recorded AllWithin
recorded_narrow k [] l h = refl
recorded_narrow k (t ∷ ts) l h =
    let n : number_of (big_endian 4 t.number []) ≡ t.number = four_read t.number (omega (arith, h.0)) in
    let b : ltb 65535 (number_of (big_endian 4 t.number [])) ≡ false = ap (ltb 65535) n ∙ le-ltb 65535 t.number (omega (arith, h.0)) in
    let z : bit (is_wide (big_endian 4 t.number []) t.kinds) 1 ≡ 0 = ap (λ (c : Bool). bit c 1) b in
    omega (arith, z, recorded_narrow k ts l h.1)

not_counted : (b : Bool) → bit b 1 ≡ 0 → b ≡ false
not_counted true h = absurd (omega arith)
not_counted false h = refl

pub none_wide : (c : Expect) (x : Row) → FormedRow c x → called_row is_wide x ≡ 0 → has_wide (flat x) ≡ false
unfolding called_row FormedRow
none_wide c end h e = unfold flat has_wide in refl
none_wide c (loose b) h e = absurd h
none_wide c (field t f i r) h e =
    let a : ℕ = bit (eqb t 0x90 && ltb 65535 (number_of f)) 1 in
    let m : ℕ = called_row is_wide i in
    let n : ℕ = called_row is_wide r in
    let k : a + (m + n) ≡ 0 = e in
    on (nests t) refl (not_counted (eqb t 0x90 && ltb 65535 (number_of f)) (omega arith)) (λ q. none_wide (within t) i (h.1 q).1 (omega arith)) (none_wide (left c t) r h.3 (omega arith))
  where
    on : (b : Bool) → nests t ≡ b → (eqb t 0x90 && ltb 65535 (number_of f)) ≡ false → (nests t ≡ true → has_wide (flat i) ≡ false) → has_wide (flat r) ≡ false → has_wide (flat (field t f i r)) ≡ false
    on true q w k g = ap has_wide (flat_nest t f i r q) ∙ (unfold has_wide in ap₂ (λ (a b : Bool). a || b) w (ap₂ (λ (a b : Bool). a || b) (k q) g))
    on false q w k g = ap has_wide (flat_leaf t f i r q) ∙ (unfold has_wide in ap₂ (λ (a b : Bool). (a && ltb 65535 (number_of (f ++ bytes i))) || (false || b)) no_call g)
      where
        no_call : eqb t 0x90 ≡ false
        no_call = is_no (eqb t 0x90) refl
          where
            is_no : (b : Bool) → eqb t 0x90 ≡ b → b ≡ false
            is_no true p = true_never (sym (ap nests (eqb-true t 0x90 p)) ∙ q)
            is_no false p = refl
