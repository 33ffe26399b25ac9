-- Rows of bytes, each of which may follow the three before it: up to where no character is left open they are whole characters.
-- Main statements: `whole_at` and `whole_all` of a block, `skip_row` of what is left behind it. Assumes nothing.
use mathlib.Core.Path.{◌≡◌, refl, sym, ap, ◌∙◌}
use Prim.Native.Nat.{ℕ, zero, suc, ◌+◌, ◌-◌, ◌/◌, ◌%◌, ◌≤◌, ◌<◌}
use native.Mathlib.Omega.{arith}
use mathlib.Core.Bool.{Bool, true, ◌&&◌, and-eq-true_iff}
use mathlib.Core.List.{List, [], ◌∷◌, ◌++◌}
use mathlib.Core.Option.{some}
use borrow.Author.Tests.{le-leb, eq-eqb, ltb-true}
use lib.Bits.{bit_or, bit_xor, and_le_l, and_le_r, or_lt, or_add_and}
use lib.Dec.{eqb, ltb}
use lib.ListN.{length, take, drop, get_or, replicate, take-append-drop, drop_of_length-le, length-drop}
use lib.Seq.{take_all}
use Rattle.std.proofs.Common.{append_assoc, append-nil, subst, inl, inr}
use Rattle.std.proofs.lemmas.Bool.{cases_lt}
use Rattle.std.proofs.lemmas.List.{drop-append-le, drop_more, drop-replicate}
use Rattle.std.proofs.lemmas.Nat.Bits.{bit_at_xor}
use Rattle.std.specs.Prelude.{if◌then◌else◌}
use Rattle.utf8.specs.Utf8.{Range, ◌to◌, tail, forms, utf8_behind, utf8}
use Rattle.utf8.specs.Parts.{Skipped, Closed, Follows, FollowsNarrow, Row, IsWhole}
use Rattle.utf8.proofs.Forms.{whole, begun_by, goes_on, utf8_begun}
use Rattle.utf8.proofs.Laws.{utf8_cons}

-- ---- the highest bit of a byte that is put together

pub or_low : (a b : ℕ) → bit_or a b < 128 → (a < 128) × (b < 128)
or_low a b h = (omega (arith, or_add_and a b, and_le_r a b), omega (arith, or_add_and a b, and_le_l a b))

pub or_small : (a b : ℕ) → a < 256 → b < 256 → bit_or a b < 256
or_small a b p q = or_lt 8 a b p q

pub or_least : (a b : ℕ) → a < 128 → b < 128 → bit_or a b < 128
or_least a b p q = or_lt 7 a b p q

pub xor_even : (a b : ℕ) → a < 256 → b < 256 → bit_xor a b < 128 → (a / 128 + b / 128) % 2 ≡ 0
xor_even a b p q h = omega (arith, bit_at_xor a b 7)

pub xors_even : (a b m : ℕ) → a < 256 → b < 256 → m < 256 → bit_xor (bit_xor a b) m < 128 → (a / 128 + b / 128 + m / 128) % 2 ≡ 0
xors_even a b m p q r h = omega (arith, bit_at_xor (bit_xor a b) m 7, bit_at_xor a b 7)

pub only_low : {w : ℕ} (a c v : ℕ) → w ≡ (if eqb a c then v else 0) → w < 128 → a ≡ c → v < 128
only_low {w} a c v q h e = let s : w ≡ v = q ∙ rw (eq-eqb a c e) refl in omega arith

-- ---- a row, byte by byte

-- one byte more of it
pub row_on :
    {is : Bool} (x y z v i : ℕ) (s : List ℕ) → i < length s → (is ≡ true → Row x y z (drop i s) → Row 0 0 0 s) → (v < 128 → Follows x y z (get_or s i 0)) →
    (is && ltb v 128) ≡ true → Row y z (get_or s i 0) (drop (i + 1) s) → Row 0 0 0 s
row_on {is} x y z v i s l k f e r =
    let p = (and-eq-true_iff is (ltb v 128)).0 e in
    k p.0 (rw (drop_more s i 0 l) (f (ltb-true v 128 p.1), r))

pub row_all : {is : Bool} (x y z i : ℕ) (s : List ℕ) → length s ≤ i → (is ≡ true → Row x y z (drop i s) → Row 0 0 0 s) → is ≡ true → Row 0 0 0 s
row_all x y z i s l k e = k e (rw (drop_of_length-le s {i = i} l) tt)

-- the same where no byte so far is 0xE0 or more
abbrev pub NarrowRow : ℕ → List ℕ → List ℕ → Type 0
NarrowRow z t s = (z < 0xE0) × (((x y : ℕ) → x < 0xE0 → y < 0xE0 → Row x y z t) → Row 0 0 0 s)

pub narrow_on :
    {is : Bool} (z v i : ℕ) (s : List ℕ) → i < length s → (is ≡ true → NarrowRow z (drop i s) s) → (v < 128 → FollowsNarrow z (get_or s i 0)) →
    (is && ltb v 128) ≡ true → NarrowRow (get_or s i 0) (drop (i + 1) s) s
narrow_on {is} z v i s l k f e =
    let p = (and-eq-true_iff is (ltb v 128)).0 e in
    let h = k p.0 in
    let b = f (ltb-true v 128 p.1) in
    (b.narrow, λ r. h.1 (λ x y m n. rw (drop_more s i 0 l) (b.follows x y m n h.0, r y z n h.0)))

pub narrow_all : {is : Bool} (z i : ℕ) (s : List ℕ) → length s ≤ i → (is ≡ true → NarrowRow z (drop i s) s) → is ≡ true → Row 0 0 0 s
narrow_all z i s l k e = (k e).1 (λ x y m n. rw (drop_of_length-le s {i = i} l) tt)

-- ---- characters

abbrev Whole : ℕ → ℕ → ℕ → List ℕ → Type 0
Whole x y z [] = Closed x y z
Whole x y z (b ∷ bs) = Follows x y z b × Whole y z b bs

on_range : (low high b : ℕ) (rs : List Range) (s t : List ℕ) → low ≤ b → b ≤ high → utf8_behind rs s ≡ utf8 t → utf8_behind (low to high ∷ rs) (b ∷ s) ≡ utf8 t
unfolding utf8_behind
on_range low high b rs s t p q e = rw (le-leb low b p, le-leb b high q) e

ends : (t : List ℕ) → utf8_behind [] t ≡ utf8 t
unfolding utf8
ends t = refl

-- the bytes of a form, behind a first byte from l to h
two : (b c : ℕ) (t : List ℕ) → 0xC2 ≤ b → b < 0xE0 → (0x80 ≤ c) × (c < 0xC0) → utf8 (b ∷ c ∷ t) ≡ utf8 t
unfolding forms
two b c t l h p = utf8_begun b 0xC2 0xDF l (omega arith) (c ∷ t) refl ∙ on_range 0x80 0xBF c [] t t p.0 (omega arith) (ends t)

module _ (l h low high : ℕ) (w : whole l h forms ≡ true) (b c d : ℕ) (p : (l ≤ b) × (b ≤ h)) (q : (low ≤ c) × (c ≤ high)) (r : (0x80 ≤ d) × (d < 0xC0)) (t : List ℕ) where
  three_by : begun_by l h forms ≡ some (low to high ∷ tail ∷ []) → utf8 (b ∷ c ∷ d ∷ t) ≡ utf8 t
  three_by e =
      utf8_begun b l h p.0 p.1 (c ∷ d ∷ t) w ∙ ap (goes_on (c ∷ d ∷ t)) e
      ∙ on_range low high c (tail ∷ []) (d ∷ t) t q.0 q.1 (on_range 0x80 0xBF d [] t t r.0 (omega arith) (ends t))

  four_by : (f : ℕ) → (0x80 ≤ f) × (f < 0xC0) → begun_by l h forms ≡ some (low to high ∷ tail ∷ tail ∷ []) → utf8 (b ∷ c ∷ d ∷ f ∷ t) ≡ utf8 t
  four_by f g e =
      utf8_begun b l h p.0 p.1 (c ∷ d ∷ f ∷ t) w ∙ ap (goes_on (c ∷ d ∷ f ∷ t)) e
      ∙ on_range low high c (tail ∷ tail ∷ []) (d ∷ f ∷ t) t q.0 q.1 (on_range 0x80 0xBF d (tail ∷ []) (f ∷ t) t r.0 (omega arith) (on_range 0x80 0xBF f [] t t g.0 (omega arith) (ends t)))

three : (y z b c d : ℕ) (t : List ℕ) → Follows y z b c → (0xE0 ≤ b) × (b < 0xF0) → (0x80 ≤ c) × (c < 0xC0) → (0x80 ≤ d) × (d < 0xC0) → utf8 (b ∷ c ∷ d ∷ t) ≡ utf8 t
unfolding forms
three y z b c d t f p q r =
    elim (cases_lt b 0xE1) [
      | inl m ↦ (let k = f.after_e0 (omega arith) in three_by 0xE0 0xE0 0xA0 0xBF refl b c d (omega arith) (omega arith) r t refl)
      | inr m ↦ elim (cases_lt b 0xED) [
        | inl n ↦ three_by 0xE1 0xEC 0x80 0xBF refl b c d (omega arith) (omega arith) r t refl
        | inr n ↦ elim (cases_lt b 0xEE) [
          | inl o ↦ (let k = f.after_ed (omega arith) in three_by 0xED 0xED 0x80 0x9F refl b c d (omega arith) (omega arith) r t refl)
          | inr o ↦ three_by 0xEE 0xEF 0x80 0xBF refl b c d (omega arith) (omega arith) r t refl
        ]
      ]
    ]

four : (y z b c d g : ℕ) (t : List ℕ) → Follows y z b c → (0xF0 ≤ b) × (b < 0xF5) → (0x80 ≤ c) × (c < 0xC0) → (0x80 ≤ d) × (d < 0xC0) → (0x80 ≤ g) × (g < 0xC0) → utf8 (b ∷ c ∷ d ∷ g ∷ t) ≡ utf8 t
unfolding forms
four y z b c d g t f p q r s =
    elim (cases_lt b 0xF1) [
      | inl m ↦ (let k = f.after_f0 (omega arith) in four_by 0xF0 0xF0 0x90 0xBF refl b c d (omega arith) (omega arith) r t g s refl)
      | inr m ↦ elim (cases_lt b 0xF4) [
        | inl n ↦ four_by 0xF1 0xF3 0x80 0xBF refl b c d (omega arith) (omega arith) r t g s refl
        | inr n ↦ (let k = f.after_f4 (omega arith) in four_by 0xF4 0xF4 0x80 0x8F refl b c d (omega arith) (omega arith) r t g s refl)
      ]
    ]

-- behind bytes that leave a character open stands a tail
tail_of : (x y z b : ℕ) → Follows x y z b → (Closed x y z → ⊥) → (0x80 ≤ b) × (b < 0xC0)
tail_of x y z b f n =
    elim (cases_lt b 0x80) [
      | inl l ↦ absurd (n (f.ascii l))
      | inr l ↦ elim (cases_lt b 0xC0) [ inl h ↦ (l, h) | inr h ↦ absurd (n (f.starts h)) ]
    ]

module _ (m : ℕ) (t : List ℕ) (rest : (x y z : ℕ) (s : List ℕ) → length s ≤ m → Closed x y z → Whole x y z s → utf8 (s ++ t) ≡ utf8 t) where
  fourth : (y z b c d : ℕ) (s : List ℕ) → length s ≤ m → Follows y z b c → (0xF0 ≤ b) × (b < 0xF5) → (0x80 ≤ c) × (c < 0xC0) → (0x80 ≤ d) × (d < 0xC0) → Whole b c d s → utf8 (b ∷ c ∷ d ∷ (s ++ t)) ≡ utf8 t
  fourth y z b c d [] l f p q r v = absurd (omega arith)
  fourth y z b c d (g ∷ s) l f p q r v =
      let u = tail_of b c d g v.0 (λ k. omega arith) in
      four y z b c d g (s ++ t) f p q r u ∙ rest c d g s (omega arith) (omega arith) v.1

  third : (y z b c : ℕ) (s : List ℕ) → length s ≤ m → Follows y z b c → (0xE0 ≤ b) × (b < 0xF5) → (0x80 ≤ c) × (c < 0xC0) → Whole z b c s → utf8 (b ∷ c ∷ (s ++ t)) ≡ utf8 t
  third y z b c [] l f p q v = absurd (omega arith)
  third y z b c (d ∷ s) l f p q v =
      let u = tail_of z b c d v.0 (λ k. omega arith) in
      elim (cases_lt b 0xF0) [
        | inl n ↦ three y z b c d (s ++ t) f (p.0, n) q u ∙ rest b c d s (omega arith) (omega arith) v.1
        | inr n ↦ fourth y z b c d s (omega arith) f (n, p.1) q u v.1
      ]

  second : (x y z b : ℕ) (s : List ℕ) → length s ≤ m → z < 0xC0 → (0xC2 ≤ b) × (b < 0xF5) → Whole y z b s → utf8 (b ∷ (s ++ t)) ≡ utf8 t
  second x y z b [] l n p v = absurd (omega arith)
  second x y z b (c ∷ s) l n p v =
      let u = tail_of y z b c v.0 (λ k. omega arith) in
      elim (cases_lt b 0xE0) [
        | inl h ↦ two b c (s ++ t) p.0 h u ∙ rest z b c s (omega arith) (omega arith) v.1
        | inr h ↦ third y z b c s (omega arith) v.0 (h, p.1) u v.1
      ]

  begins : (x y z : ℕ) (s : List ℕ) → length s ≤ suc m → Closed x y z → Whole x y z s → utf8 (s ++ t) ≡ utf8 t
  begins x y z [] l k v = refl
  begins x y z (b ∷ s) l k v =
      elim (cases_lt b 0x80) [
        | inl h ↦ utf8_cons b (s ++ t) h ∙ rest y z b s (omega arith) (omega arith) v.1
        | inr h ↦ elim (cases_lt b 0xC0) [
          | inl n ↦ absurd (v.0.inner h n k)
          | inr n ↦ second x y z b s (omega arith) k.2 (v.0.begins n, v.0.largest) v.1
        ]
      ]

whole_utf8 : (m : ℕ) (t : List ℕ) (x y z : ℕ) (s : List ℕ) → length s ≤ m → Closed x y z → Whole x y z s → utf8 (s ++ t) ≡ utf8 t
whole_utf8 zero t x y z [] l k v = refl
whole_utf8 zero t x y z (b ∷ s) l k v = absurd (omega arith)
whole_utf8 (suc m) t x y z s l k v = begins m t (whole_utf8 m t) x y z s l k v

-- ---- where a row can be cut

-- in front of a byte that begins a character
cut : (n x y z : ℕ) (s : List ℕ) → Row x y z s → n < length s → 0xC0 ≤ get_or s n 0 → Whole x y z (take n s)
cut n x y z [] r l h = absurd (omega arith)
cut zero x y z (b ∷ s) r l h = r.0.starts h
cut (suc n) x y z (b ∷ s) r l h = (r.0, cut n y z b s r.1 (omega arith) h)

-- at its end, if no character is left open there
at_end :
    (n x y z : ℕ) (s : List ℕ) → Row x y z s → length s ≡ n + 3 → get_or s n 0 < 0xF0 → get_or s (suc n) 0 < 0xE0 → get_or s (suc (suc n)) 0 < 0xC0 → Whole x y z s
at_end n x y z [] r l p q u = absurd (omega arith)
at_end zero x y z (a ∷ []) r l p q u = absurd (omega arith)
at_end zero x y z (a ∷ b ∷ []) r l p q u = absurd (omega arith)
at_end zero x y z (a ∷ b ∷ c ∷ []) r l p q u = (r.0, (r.1.0, (r.1.1.0, (p, q, u))))
at_end zero x y z (a ∷ b ∷ c ∷ d ∷ s) r l p q u = absurd (omega arith)
at_end (suc n) x y z (a ∷ s) r l p q u = (r.0, at_end n y z a s r.1 (omega arith) p q u)

-- in front of zeros
before_zeros : (n x y z : ℕ) (s : List ℕ) → Row x y z (s ++ replicate (suc n) 0) → Whole x y z s
before_zeros n x y z [] r = r.0.ascii (omega arith)
before_zeros n x y z (b ∷ s) r = (r.0, before_zeros n y z b s r.1)

pub padded_utf8 : (s : List ℕ) (n : ℕ) → 0 < n → Row 0 0 0 (s ++ replicate n 0) → utf8 s ≡ true
unfolding utf8 utf8_behind
padded_utf8 s zero p r = absurd (omega arith)
padded_utf8 s (suc n) p r = ap utf8 (sym (append-nil s)) ∙ whole_utf8 (length s) [] 0 0 0 s (omega arith) (omega arith) (before_zeros n 0 0 0 s r)

pub short_utf8 : (s u : List ℕ) → length s < 16 → u ≡ s → Row 0 0 0 (u ++ drop (length s) (replicate 16 0)) → utf8 s ≡ true
short_utf8 s u l e r =
    let q : u ++ drop (length s) (replicate 16 0) ≡ s ++ replicate (16 - length s) 0 = ap (λ (x : List ℕ). x ++ drop (length s) (replicate 16 0)) e ∙ ap (λ (x : List ℕ). s ++ x) (drop-replicate (length s) 16 0) in
    padded_utf8 s (16 - length s) (omega arith) (subst (Row 0 0 0) q r)

whole_by : (n : ℕ) (s : List ℕ) → 0 < n → n ≤ length s → (Row 0 0 0 s → Whole 0 0 0 (take n s)) → IsWhole s n
whole_by n s p l k =
    record {
      some = p;
      inside = l;
      same = λ r t.
          ap (λ (x : List ℕ). utf8 (x ++ t)) (sym (take-append-drop n s)) ∙ ap utf8 (append_assoc (take n s) (drop n s) t)
          ∙ whole_utf8 (length (take n s)) (drop n s ++ t) 0 0 0 (take n s) (omega arith) (omega arith) (k r);
    }

pub whole_at : (n : ℕ) (s : List ℕ) → 0 < n → n < length s → 0xC0 ≤ get_or s n 0 → IsWhole s n
whole_at n s p l h = whole_by n s p (omega arith) (λ r. cut n 0 0 0 s r l h)

pub whole_all : (s : List ℕ) → length s ≡ 16 → get_or s 13 0 < 0xF0 → get_or s 14 0 < 0xE0 → get_or s 15 0 < 0xC0 → IsWhole s 16
whole_all s l p q u = whole_by 16 s (omega arith) (omega arith) (λ r. rw (take_all 16 s (omega arith)) (at_end 13 0 0 0 s r l p q u))

-- ---- what is left

pub skipped_none : (s : List ℕ) → Skipped s s
skipped_none s = record { inside = omega arith; same = refl }

pub skipped_on : {s t r : List ℕ} → Skipped s t → Skipped t r → Skipped s r
skipped_on p q = record { inside = omega (arith, p.inside, q.inside); same = p.same ∙ q.same }

left_is : (n : ℕ) (s : List ℕ) → take (length s - n) (drop n s) ≡ drop n s
left_is n s = take_all (length s - n) (drop n s) (omega (arith, length-drop n s))

pub skip_row : (n : ℕ) {s b r : List ℕ} → b ≡ take 16 s → r ≡ drop 16 s → IsWhole b n → Row 0 0 0 b → Skipped s (take (length s - n) (drop n s))
skip_row n {s} {b} {r} e f w k =
    let is : b ++ r ≡ s = ap (λ (x : List ℕ). x ++ r) e ∙ ap (λ (x : List ℕ). take 16 s ++ x) f ∙ take-append-drop 16 s in
    let behind : drop n b ++ r ≡ drop n s = sym (drop-append-le n b r w.inside) ∙ ap (drop n) is in
    record {
      inside = omega (arith, ap length (left_is n s), length-drop n s);
      same = ap utf8 (sym is) ∙ w.same k r ∙ ap utf8 (behind ∙ sym (left_is n s));
    }

pub less_left : (n : ℕ) (s : List ℕ) → 0 < n → 0 < length s → length (take (length s - n) (drop n s)) < length s
less_left n s p l = omega (arith, ap length (left_is n s), length-drop n s)
