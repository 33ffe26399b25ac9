-- What is known becomes one field, or a 79 and its 20: its place, its depth and its bytes. Main statements: `held_boolean`, `held_null`,
-- `held_quoted`, `held_other`, `held_whole`, `held_decimal`. Assumes nothing.
use Prim.Native.Nat.{ℕ, suc, ◌+◌, ◌%◌, ◌≤◌, ◌<◌}
use mathlib.Core.Path.{◌≡◌, refl, sym, ◌∙◌, ap, ap₂, subst}
use mathlib.Core.Bool.{Bool, true, false, ◌&&◌, ◌||◌, and-true, and-false}
use mathlib.Core.List.{[], ◌∷◌, ◌++◌, append-nil}
use native.Mathlib.Omega.{arith}
use native.Mathlib.Nat.{add-zero}
use native.Mathlib.Numerals.{add-one}
use borrow.Author.Tests.{leb-true, leb-false, le-leb, lt-leb, le-ltb}
use lib.Dec.{leb}
use lib.ListN.{length, length-append}
use Rattle.field.specs.Bytes.{Bytes}
use Rattle.field.specs.Number.{big_endian}
use Rattle.field.specs.Row.{end, field, field_bytes, bytes, long_body}
use Rattle.field.specs.Put.{head, Wrote}
use Rattle.field.proofs.PutLaws.{wrote_is, wrote_then, wrote_length, wrote_field, length_field_bytes}
use Rattle.page.specs.Number as N
use Rattle.page.specs.Number.{number_tag, minus_tag, number_bytes, in_range}
use Rattle.page.specs.Encode.{boolean_byte, tag_row, expr_row}
use Rattle.grammar.specs.Known.{Known, quoted, boolean, null, other}
use Rattle.grammar.specs.Syntax.{known_expr}
use Rattle.tag_tree.specs.PageTag.{page_known, page_tag, page_expr}
use Rattle.tag_tree.specs.TagAnswer.{known_in_range, shallow}
use Rattle.read_tag.specs.Progress.{expr_bytes}
use Rattle.read_tag.proofs.ProgressLaws.{leaf_alone}
use Rattle.read_tag.specs.Knowns.{Capped, signed_whole, signed_decimal, whole_tag, decimal_tag, Holding, HeldWhole, HeldDecimal}

-- ---- a field alone

leaf_shallow : (d t : ℕ) (f : Bytes) → shallow d (field t f end end) ≡ leb (d + 0) 48
unfolding shallow
leaf_shallow d t f = and-true (leb d 48) ∙ ap (λ (n : ℕ). leb n 48) (sym (add-zero d))

leaf_short : (t : ℕ) (f : Bytes) → length f ≤ 65535 → long_body (field t f end end) ≡ false
unfolding long_body bytes
leaf_short t f m = ap (λ (b : Bool). b || (false || false)) (le-ltb 65535 (length (f ++ [])) (omega (arith, length-append f [])))

module _ (k : Known) (t : ℕ) (f : Bytes) (row : expr_row (page_expr (known_expr k)) end ≡ field t f end end) (m : length f ≤ 65535) where
  body : expr_bytes (known_expr k) ≡ field_bytes t f
  unfolding expr_bytes
  body = ap bytes row ∙ leaf_alone t f

  -- b: whether it is within the limit; only then the bytes that were written count
  leaf_held : {o o' : Bytes} {at e : ℕ} (b : Bool) (g : Bytes) → b ≡ known_in_range k → (b ≡ true → g ≡ f) → length g ≡ length f → Wrote o at (field_bytes t g) o' e → Holding k o at o' record { fits = b; at = e; deep = 0 }
  leaf_held b g r s l w =
      record {
        in_limit = r;
        place = omega (arith, w.end_is, length_field_bytes t g, l, ap length body, length_field_bytes t f);
        wrote = λ z. wrote_is (ap (field_bytes t) (s z) ∙ sym body) w;
        depth = λ d. ap (shallow d) row ∙ leaf_shallow d t f;
        short = ap long_body row ∙ leaf_short t f m;
        size = wrote_length w;
      }

pub held_boolean : {o o₁ o' : Bytes} {at a e : ℕ} (b : Bool) → Wrote o at (head 0x72 1) o₁ a → Wrote o₁ a (boolean_byte b ∷ []) o' e → Holding (boolean b) o at o' record { fits = true; at = e; deep = 0 }
unfolding page_tag page_known tag_row known_in_range
held_boolean b u v = leaf_held (boolean b) 0x72 (boolean_byte b ∷ []) refl (omega arith) true (boolean_byte b ∷ []) refl (λ z. refl) refl (wrote_field 0x72 u v)

pub held_null : {o o' : Bytes} {at e : ℕ} → Wrote o at (head 0x73 0) o' e → Holding null o at o' record { fits = true; at = e; deep = 0 }
unfolding page_tag page_known tag_row known_in_range field_bytes big_endian
held_null u = leaf_held null 0x73 [] refl (omega arith) true [] refl (λ z. refl) refl u

pub held_quoted : {o o' : Bytes} {at e : ℕ} (w : Bytes) → length w ≤ 32768 → Wrote o at (field_bytes 0x70 w) o' e → Holding (quoted w) o at o' record { fits = true; at = e; deep = 0 }
unfolding page_tag page_known tag_row known_in_range
held_quoted w l u = leaf_held (quoted w) 0x70 w refl (omega arith) true w refl (λ z. refl) refl u

-- ---- a 79 of one 20

two_shallow : (d : ℕ) (w : Bytes) → shallow d (field 0x79 [] (field 0x20 w end end) end) ≡ leb (d + 1) 48
unfolding shallow
two_shallow d w = on (leb (suc d) 48) refl
  where
    last : leb (d + 1) 48 ≡ leb (suc d) 48
    last = ap (λ (n : ℕ). leb n 48) (add-one d)

    on : (b : Bool) → leb (suc d) 48 ≡ b → (leb d 48 && ((leb (suc d) 48 && (true && true)) && true)) ≡ leb (d + 1) 48
    on true e =
        let h : suc d ≤ 48 = leb-true (suc d) 48 e in
        ap₂ (λ (a b : Bool). a && ((b && (true && true)) && true)) (le-leb d 48 (omega arith)) e ∙ sym (last ∙ e)
    on false e = ap (λ (b : Bool). leb d 48 && ((b && (true && true)) && true)) e ∙ and-false (leb d 48) ∙ sym (last ∙ e)

two_bytes : (w : Bytes) → bytes (field 0x79 [] (field 0x20 w end end) end) ≡ field_bytes 0x79 (field_bytes 0x20 w)
unfolding bytes
two_bytes w = append-nil (field_bytes 0x79 (field_bytes 0x20 (w ++ []) ++ [])) ∙ ap (field_bytes 0x79) (leaf_alone 0x20 w)

two_short : (w : Bytes) → length w ≤ 32768 → long_body (field 0x79 [] (field 0x20 w end end) end) ≡ false
unfolding long_body
two_short w l =
    ap₂ (λ (a b : Bool). a || (b || false)) (le-ltb 65535 (length (bytes (field 0x20 w end end))) (omega (arith, ap length (leaf_alone 0x20 w), length_field_bytes 0x20 w))) (leaf_short 0x20 w (omega arith))

pub held_other : {o o₁ o' : Bytes} {at a e : ℕ} (w : Bytes) → length w ≤ 32768 → Wrote o at (head 0x79 (3 + length w)) o₁ a → Wrote o₁ a (field_bytes 0x20 w) o' e → Holding (other w) o at o' record { fits = true; at = e; deep = 1 }
unfolding page_tag page_known tag_row known_in_range expr_bytes
held_other {o} {o₁} {o'} {at} {a} {e} w l u v =
    let h : Wrote o at (head 0x79 (length (field_bytes 0x20 w))) o₁ a = subst (λ (n : ℕ). Wrote o at (head 0x79 n) o₁ a) (sym (length_field_bytes 0x20 w)) u in
    let y : Wrote o at (field_bytes 0x79 (field_bytes 0x20 w)) o' e = wrote_field 0x79 h v in
    let x : Wrote o at (bytes (field 0x79 [] (field 0x20 w end end) end)) o' e = wrote_is (sym (two_bytes w)) y in
    record {
      in_limit = refl;
      place = x.end_is;
      wrote = λ z. x;
      depth = λ d. two_shallow d w;
      short = two_short w l;
      size = wrote_length x;
    }

-- ---- numbers

-- a limit up to the largest whole number is seen
capped_leb : (x v m : ℕ) → m ≤ 9_007_199_254_740_991 → Capped x v → leb v m ≡ leb x m
capped_leb x v m l c = on (leb v 9_007_199_254_740_991) refl
  where
    on : (b : Bool) → leb v 9_007_199_254_740_991 ≡ b → leb v m ≡ leb x m
    on true e = ap (λ (z : ℕ). leb z m) (c.small (leb-true v 9_007_199_254_740_991 e))
    on false e =
        let h : 9_007_199_254_740_991 < v = leb-false v 9_007_199_254_740_991 e in
        let g : 9_007_199_254_740_991 < x = c.large h in
        lt-leb v m (omega arith) ∙ sym (lt-leb x m (omega arith))

pub length_eight : (n : ℕ) → length (big_endian 8 n []) ≡ 8
unfolding big_endian
length_eight n = refl

length_whole : (n : ℕ) → length (number_bytes (N.whole n)) ≡ 8
unfolding number_bytes big_endian
length_whole n = refl

length_scaled : (n p : ℕ) → length (number_bytes (N.scaled n p)) ≡ 9
unfolding number_bytes big_endian
length_scaled n p = refl

module _ (minus : Bool) (t v : ℕ) where
  whole_row : (b : Bool) (x : ℕ) → expr_row (page_expr (known_expr (signed_whole b x))) end ≡ field (whole_tag b) (number_bytes (N.whole x)) end end
  unfolding page_tag page_known tag_row signed_whole whole_tag number_tag minus_tag
  whole_row true x = refl
  whole_row false x = refl

  whole_range : (b : Bool) (x : ℕ) → known_in_range (signed_whole b x) ≡ leb x 9_007_199_254_740_991
  unfolding known_in_range in_range signed_whole
  whole_range true x = refl
  whole_range false x = refl

  pub held_whole : {o o' : Bytes} {at e : ℕ} → t ≡ whole_tag minus → Wrote o at (field_bytes t (big_endian 8 v [])) o' e → HeldWhole minus v o at o' record { fits = leb v 9_007_199_254_740_991; at = e; deep = 0 }
  unfolding HeldWhole number_bytes big_endian
  held_whole {o} {o'} {at} {e} q u x c =
      leaf_held (signed_whole minus x) (whole_tag minus) (number_bytes (N.whole x)) (whole_row minus x) (omega arith) (leb v 9_007_199_254_740_991) (number_bytes (N.whole v))
      (capped_leb x v 9_007_199_254_740_991 (omega arith) c ∙ sym (whole_range minus x))
      (λ z. ap (λ (n : ℕ). number_bytes (N.whole n)) (c.small (leb-true v 9_007_199_254_740_991 z)))
      (length_whole v ∙ sym (length_whole x))
      (subst (λ (n : ℕ). Wrote o at (field_bytes n (big_endian 8 v [])) o' e) q u)

  module _ (p : ℕ) where
    decimal_row : (b : Bool) (x : ℕ) → expr_row (page_expr (known_expr (signed_decimal b x p))) end ≡ field (decimal_tag b) (number_bytes (N.scaled x p)) end end
    unfolding page_tag page_known tag_row signed_decimal decimal_tag number_tag minus_tag
    decimal_row true x = refl
    decimal_row false x = refl

    decimal_range : (b : Bool) (x : ℕ) → known_in_range (signed_decimal b x p) ≡ (leb x 999_999_999_999_999 && leb p 15)
    unfolding known_in_range in_range signed_decimal
    decimal_range true x = refl
    decimal_range false x = refl

    first : (a b : Bool) → (a && b) ≡ true → a ≡ true
    first true b e = refl
    first false b e = e

    pub held_decimal : {o o₁ o₂ o' : Bytes} {at a b e : ℕ} → t ≡ decimal_tag minus → Wrote o at (head t 9) o₁ a → Wrote o₁ a (big_endian 8 v []) o₂ b → Wrote o₂ b ((p % 256) ∷ []) o' e → HeldDecimal minus v p o at o' record { fits = leb v 999_999_999_999_999 && leb p 15; at = e; deep = 0 }
    unfolding HeldDecimal number_bytes big_endian
    held_decimal {o} {o₁} {o₂} {o'} {at} {a} {b} {e} q u w y x c =
        leaf_held (signed_decimal minus x p) (decimal_tag minus) (number_bytes (N.scaled x p)) (decimal_row minus x) (omega arith) (leb v 999_999_999_999_999 && leb p 15) (number_bytes (N.scaled v p))
        (ap (λ (z : Bool). z && leb p 15) (capped_leb x v 999_999_999_999_999 (omega arith) c) ∙ sym (decimal_range minus x))
        (λ z. ap (λ (n : ℕ). number_bytes (N.scaled n p)) (c.small (small (leb-true v 999_999_999_999_999 (first (leb v 999_999_999_999_999) (leb p 15) z)))))
        (length_scaled v p ∙ sym (length_scaled x p))
        (wrote_field (decimal_tag minus) (subst (λ (n : ℕ). Wrote o at (head n 9) o₁ a) q u) (wrote_then w y))
      where
        small : v ≤ 999_999_999_999_999 → v ≤ 9_007_199_254_740_991
        small h = omega arith
