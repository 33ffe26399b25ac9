-- Which of the known it is, by the tests in their order. Main statements: `barred_number` and those beside it, `rest_other`,
-- `unquoted_rest`, `unquoted_whole`, `unquoted_scaled`, `known_trims`. Assumes nothing.
use Prim.Native.Nat.{ℕ}
use mathlib.Core.Path.{◌≡◌, refl, sym, ◌∙◌, ap, ap₂, subst}
use mathlib.Core.Bool.{Bool, true, false, ◌&&◌, ◌||◌, not}
use mathlib.Core.List.{[], ◌∷◌, ◌++◌}
use lib.Dec.{T, eqb}
use lib.ListN.{length}
use Rattle.std.specs.Prelude.{Option, None, Some}
use Rattle.field.specs.Bytes.{Bytes}
use Rattle.grammar.specs.Signs.{choose, some_byte}
use Rattle.grammar.specs.Known.{Known, whole, minus_whole, decimal, minus_decimal, other, value_from, is_whole, is_decimal, before_point, after_point, number_of, unsigned, has_minus, trimmed_front, trimmed_end, digit_or_point, of_a_number, not_read, rest_of, or_else, known_trimmed, known_of}
use Rattle.grammar.proofs.Tests.{chose, passed}
use Rattle.read_tag.specs.Knowns.{Numbered, signed_whole, signed_decimal, barred, unquoted, Holding, Holds, HeldWhole, HeldDecimal}
use Rattle.read_tag.specs.declared.known.Held.{Held}
use Rattle.read_tag.specs.declared.known.Numeral.{Numeral}
use Rattle.read_tag.specs.declared.known.Numeral.TheVariants as N

yes : (b : Bool) → b ≡ true → T b
yes b e = subst T (sym e) tt

no : (b : Bool) → b ≡ false → T (not b)
no b e = subst (λ (z : Bool). T (not z)) (sym e) tt

-- ---- what bars a 79

tests : Bool → Bool → Bool → Bool
tests a b c = a || (b && c)

-- by the tests in their order
module _ (s : Bytes) (a : Bool) (e : a ≡ some_byte not_read s) where
  by_bars : tests a (digit_or_point (unsigned s)) (some_byte of_a_number s) ≡ barred s
  unfolding tests barred
  by_bars = ap (λ (z : Bool). z || (digit_or_point (unsigned s) && some_byte of_a_number s)) e

  pub barred_sign : a ≡ true → a ≡ barred s
  unfolding tests
  barred_sign t = t ∙ sym (ap (λ (z : Bool). tests z (digit_or_point (unsigned s)) (some_byte of_a_number s)) t) ∙ by_bars

  module _ (f : a ≡ false) (b : Bool) (g : b ≡ digit_or_point (unsigned s)) where
    by_first : (c : Bool) → b ≡ c → tests false c (some_byte of_a_number s) ≡ barred s
    by_first c h = ap₂ (λ (x y : Bool). tests x y (some_byte of_a_number s)) (sym f) (sym h ∙ g) ∙ by_bars

    pub barred_other : b ≡ false → b ≡ barred s
    unfolding tests
    barred_other h = h ∙ by_first false h

    pub barred_number : b ≡ true → (c : Bool) → c ≡ some_byte of_a_number s → c ≡ barred s
    unfolding tests
    barred_number h c k = k ∙ by_first true h

-- ---- the rest

module _ (s o : Bytes) (at : ℕ) (b : Bool) (e : b ≡ barred s) where
  pub rest_barred : b ≡ true → Holds (rest_of s) o at o None
  unfolding Holds rest_of barred
  rest_barred t = subst (λ (k : Option Known). Holds k o at o None) (sym (chose (barred s) None (Some (other s)) (yes (barred s) (sym e ∙ t)))) refl

  pub rest_other : (o' : Bytes) (r : Held) → b ≡ false → Holding (other s) o at o' r → Holds (rest_of s) o at o' (Some r)
  unfolding Holds rest_of barred
  rest_other o' r f h = subst (λ (k : Option Known). Holds k o at o' (Some r)) (sym (passed (barred s) None (Some (other s)) (no (barred s) (sym e ∙ f)))) h

-- ---- numbers

module _ (w : Bytes) (f : ℕ → Known) (g : ℕ → ℕ → Known) where
  of_whole : is_whole w ≡ true → number_of w f g ≡ Some (f (value_from 0 w))
  unfolding number_of
  of_whole e = chose (is_whole w) _ _ (yes (is_whole w) e)

  of_decimal : is_whole w ≡ false → is_decimal w ≡ true → number_of w f g ≡ Some (g (value_from 0 (before_point w ++ after_point w)) (length (after_point w)))
  unfolding number_of
  of_decimal e d = passed (is_whole w) _ _ (no (is_whole w) e) ∙ chose (is_decimal w) _ _ (yes (is_decimal w) d)

  of_none : is_whole w ≡ false → is_decimal w ≡ false → number_of w f g ≡ None
  unfolding number_of
  of_none e d = passed (is_whole w) _ _ (no (is_whole w) e) ∙ passed (is_decimal w) _ _ (no (is_decimal w) d)

plain_unsigned : (s : Bytes) → has_minus s ≡ false → unsigned s ≡ s
unfolding has_minus unsigned
plain_unsigned [] e = refl
plain_unsigned (c ∷ s) e = passed (eqb c 45) (trimmed_front s) (c ∷ s) (no (eqb c 45) e)

module _ (s : Bytes) where
  unsigned_plain : has_minus s ≡ false → number_of s whole decimal ≡ number_of (unsigned s) whole decimal
  unsigned_plain e = ap (λ (z : Bytes). number_of z whole decimal) (sym (plain_unsigned s e))

  signed : Bool → Option Known
  signed b = choose b (number_of (unsigned s) minus_whole minus_decimal) (number_of s whole decimal)

  is_signed : unquoted s ≡ or_else (signed (has_minus s)) (rest_of s)
  unfolding unquoted signed
  is_signed = refl

  signed_none : is_whole (unsigned s) ≡ false → is_decimal (unsigned s) ≡ false → (b : Bool) → has_minus s ≡ b → signed b ≡ None
  unfolding signed choose
  signed_none w d true e = of_none (unsigned s) minus_whole minus_decimal w d
  signed_none w d false e = unsigned_plain e ∙ of_none (unsigned s) whole decimal w d

  signed_of_whole : is_whole (unsigned s) ≡ true → (b : Bool) → has_minus s ≡ b → signed b ≡ Some (signed_whole b (value_from 0 (unsigned s)))
  unfolding signed choose signed_whole
  signed_of_whole w true e = of_whole (unsigned s) minus_whole minus_decimal w
  signed_of_whole w false e = unsigned_plain e ∙ of_whole (unsigned s) whole decimal w

  signed_of_decimal : is_whole (unsigned s) ≡ false → is_decimal (unsigned s) ≡ true → (b : Bool) → has_minus s ≡ b → signed b ≡ Some (signed_decimal b (value_from 0 (before_point (unsigned s) ++ after_point (unsigned s))) (length (after_point (unsigned s))))
  unfolding signed choose signed_decimal
  signed_of_decimal w d true e = of_decimal (unsigned s) minus_whole minus_decimal w d
  signed_of_decimal w d false e = unsigned_plain e ∙ of_decimal (unsigned s) whole decimal w d

  module _ (m : Bool) (e : m ≡ has_minus s) (w : Bytes) (f : w ≡ unsigned s) (r : Option Numeral) (y : Numbered w r) (o : Bytes) (at : ℕ) (o' : Bytes) where
    numbered : (q : Option Numeral) → r ≡ q → Numbered (unsigned s) q
    numbered q g = subst (Numbered (unsigned s)) g (subst (λ (v : Bytes). Numbered v r) f y)

    pub unquoted_rest : (h : Option Held) → r ≡ None → Holds (rest_of s) o at o' h → Holds (unquoted s) o at o' h
    unfolding or_else Numbered
    unquoted_rest h g k =
        let n = numbered None g in
        subst (λ (z : Option Known). Holds z o at o' h) (sym (is_signed ∙ ap (λ (z : Option Known). or_else z (rest_of s)) (signed_none n.0 n.1 (has_minus s) refl))) k

    pub unquoted_whole : (h : Held) (v : ℕ) → r ≡ Some (N.Whole v) → HeldWhole m v o at o' h → Holds (unquoted s) o at o' (Some h)
    unfolding or_else Numbered HeldWhole Holds
    unquoted_whole h v g k =
        let n = numbered (Some (N.Whole v)) g in
        let x : Holding (signed_whole (has_minus s) (value_from 0 (unsigned s))) o at o' h = subst (λ (b : Bool). Holding (signed_whole b (value_from 0 (unsigned s))) o at o' h) e (k (value_from 0 (unsigned s)) n.1) in
        subst (λ (z : Option Known). Holds z o at o' (Some h)) (sym (is_signed ∙ ap (λ (z : Option Known). or_else z (rest_of s)) (signed_of_whole n.0 (has_minus s) refl))) x

    pub unquoted_scaled : (h : Held) (v p : ℕ) → r ≡ Some (N.Scaled v p) → HeldDecimal m v p o at o' h → Holds (unquoted s) o at o' (Some h)
    unfolding or_else Numbered HeldDecimal Holds
    unquoted_scaled h v p g k =
        let n = numbered (Some (N.Scaled v p)) g in
        let c : ℕ = value_from 0 (before_point (unsigned s) ++ after_point (unsigned s)) in
        let x : Holding (signed_decimal m c p) o at o' h = k c n.2 in
        let z : Holding (signed_decimal (has_minus s) c (length (after_point (unsigned s)))) o at o' h = subst (λ (q : ℕ). Holding (signed_decimal (has_minus s) c q) o at o' h) n.3 (subst (λ (b : Bool). Holding (signed_decimal b c p) o at o' h) e x) in
        subst (λ (z : Option Known). Holds z o at o' (Some h)) (sym (is_signed ∙ ap (λ (z : Option Known). or_else z (rest_of s)) (signed_of_decimal n.0 n.1 (has_minus s) refl))) z

-- w is s without the white space at its end
pub known_trims : (s w o : Bytes) (at : ℕ) (o' : Bytes) (h : Option Held) → w ≡ trimmed_end s → Holds (known_trimmed w) o at o' h → Holds (known_of s) o at o' h
unfolding known_of
known_trims s w o at o' h e y = subst (λ (v : Bytes). Holds (known_trimmed v) o at o' h) e y
