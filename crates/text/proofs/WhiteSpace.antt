-- Trimming takes the 25 characters that Unicode gives the property White_Space, and nothing else: of every character, by its code point, and
-- of every text, by its characters.
-- Main statements: `front_exact`, `back_exact`; `trim_start_exact`, `trim_end_exact`; `trim_start_text`, `trim_end_text`; `all_25`.
-- Assumes nothing.
use mathlib.Core.Path.{◌≡◌, refl, sym, ap, ◌∙◌}
use mathlib.Core.Bool.{Bool, true, false, ◌&&◌, ◌||◌, false≢true, and-false}
use Prim.Native.Nat.{ℕ, zero, suc, ◌+◌, ◌/◌, ◌%◌, ◌≤◌, ◌<◌}
use native.Mathlib.Omega.{arith}
use mathlib.Core.List.{List, [], ◌∷◌, ◌++◌, append-nil, append_assoc, reverse, reverse-append, reverse-reverse}
use lib.Dec.{eqb, leb, ltb}
use lib.ListN.{length, length-reverse}
use lib.Seq.{drop_at}
use borrow.Author.Tests.{ltb-true, ltb-false, leb-true, eqb-true, eqb-false, ne_eqb, lt-leb}
use Rattle.field.specs.Bytes.{Bytes, pick}
use Rattle.text.specs.Trim.{one_byte_space, two_byte_space, three_byte_space, space_by, front_space, back_space, trim_by, trim_start, trim_end}
use Rattle.text.specs.WhiteSpace.{white_spaces, ascending, is_one_of, white_space, encode_utf8, encode_text, skip_white, skip_white_back}
use Rattle.text.specs.Runs.{all}
use Rattle.text.proofs.TrimLaws.{space_one, space_low, space_two, space_pair, space_three, low_two, low_three, last_two, last_three, trim_step, trim_stop}

-- ---- the tests on bytes, by code point

-- what the tests of Trim.antt say of the bytes of a character
unfoldable by_bytes : ℕ → Bool
by_bytes c =
    pick (ltb c 0x80) (one_byte_space c)
    (pick (ltb c 0x800) (two_byte_space (0xc0 + c / 64) (0x80 + c % 64))
    (pick (ltb c 0x10000) (three_byte_space (0xe0 + c / 4096) (0x80 + c / 64 % 64) (0x80 + c % 64))
    false))

-- the four widths
by_width : (P : Bytes → Bool → Type 0) (c : ℕ) →
    (c < 0x80 → P (c ∷ []) (one_byte_space c)) →
    (0x80 ≤ c → c < 0x800 → P ((0xc0 + c / 64) ∷ (0x80 + c % 64) ∷ []) (two_byte_space (0xc0 + c / 64) (0x80 + c % 64))) →
    (0x800 ≤ c → c < 0x10000 → P ((0xe0 + c / 4096) ∷ (0x80 + c / 64 % 64) ∷ (0x80 + c % 64) ∷ []) (three_byte_space (0xe0 + c / 4096) (0x80 + c / 64 % 64) (0x80 + c % 64))) →
    (0x10000 ≤ c → P ((0xf0 + c / 262144) ∷ (0x80 + c / 4096 % 64) ∷ (0x80 + c / 64 % 64) ∷ (0x80 + c % 64) ∷ []) false) →
    P (encode_utf8 c) (by_bytes c)
unfolding encode_utf8 by_bytes
by_width P c one two three four = on (ltb c 0x80) refl (ltb c 0x800) refl (ltb c 0x10000) refl
  where
    on : (x : Bool) → ltb c 0x80 ≡ x → (y : Bool) → ltb c 0x800 ≡ y → (z : Bool) → ltb c 0x10000 ≡ z →
        P (pick x (c ∷ []) (pick y ((0xc0 + c / 64) ∷ (0x80 + c % 64) ∷ []) (pick z ((0xe0 + c / 4096) ∷ (0x80 + c / 64 % 64) ∷ (0x80 + c % 64) ∷ []) ((0xf0 + c / 262144) ∷ (0x80 + c / 4096 % 64) ∷ (0x80 + c / 64 % 64) ∷ (0x80 + c % 64) ∷ []))))
        (pick x (one_byte_space c) (pick y (two_byte_space (0xc0 + c / 64) (0x80 + c % 64)) (pick z (three_byte_space (0xe0 + c / 4096) (0x80 + c / 64 % 64) (0x80 + c % 64)) false)))
    on true a y b z d = one (ltb-true c 0x80 a)
    on false a true b z d = two (ltb-false c 0x80 a) (ltb-true c 0x800 b)
    on false a false b true d = three (ltb-false c 0x800 b) (ltb-true c 0x10000 d)
    on false a false b false d = four (ltb-false c 0x10000 d)

-- ---- a member of the list passes

one_of : (p : ℕ → Bool) (ds : List ℕ) (c : ℕ) → all p ds ≡ true → is_one_of c ds ≡ true → p c ≡ true
unfolding all is_one_of
one_of p [] c h m = absurd (false≢true m)
one_of p (d ∷ ds) c h m = on (p d) refl h (eqb c d) refl m (one_of p ds c)
  where
    on : (x : Bool) → p d ≡ x → (x && all p ds) ≡ true → (y : Bool) → eqb c d ≡ y → (y || is_one_of c ds) ≡ true → (all p ds ≡ true → is_one_of c ds ≡ true → p c ≡ true) → p c ≡ true
    on false e h y f m next = absurd (false≢true h)
    on true e h true f m next = rw (eqb-true c d f) e
    on true e h false f m next = next h m

white_taken : (c : ℕ) → white_space c ≡ true → by_bytes c ≡ true
unfolding white_space white_spaces all by_bytes one_byte_space two_byte_space three_byte_space
white_taken c h = one_of by_bytes white_spaces c refl h

-- ---- what passes is a member

-- p holds at the n numbers from lo on
unfoldable every : (ℕ → Bool) → ℕ → ℕ → Bool
every p lo zero = true
every p lo (suc n) = p lo && every p (suc lo) n

every_at : (p : ℕ → Bool) (lo n : ℕ) → every p lo n ≡ true → (c : ℕ) → lo ≤ c → c < lo + n → p c ≡ true
unfolding every
every_at p lo zero h c l u = absurd (omega arith)
every_at p lo (suc n) h c l u = on (p lo) refl h (eqb c lo) refl (λ g k. every_at p (suc lo) n g c k (omega arith))
  where
    on : (x : Bool) → p lo ≡ x → (x && every p (suc lo) n) ≡ true → (y : Bool) → eqb c lo ≡ y → (every p (suc lo) n ≡ true → suc lo ≤ c → p c ≡ true) → p c ≡ true
    on false e h y f next = absurd (false≢true h)
    on true e h true f next = rw (eqb-true c lo f) e
    on true e h false f next = next h (let g : (c ≡ lo → ⊥) = eqb-false c lo f in omega arith)

and_both : {C : Type 0} (a b : Bool) → (a && b) ≡ true → (a ≡ true → b ≡ true → C) → C
and_both true b h p = p refl h
and_both false b h p = absurd (false≢true h)

or_either : {C : Type 0} (a b : Bool) → (a || b) ≡ true → (a ≡ true → C) → (b ≡ true → C) → C
or_either true b h p q = p refl
or_either false b h p q = q h

one_white : (c : ℕ) → one_byte_space c ≡ true → white_space c ≡ true
unfolding one_byte_space white_space white_spaces is_one_of every
one_white c h =
    or_either (leb 9 c && leb c 13) (eqb c 32) h
    (λ h. and_both (leb 9 c) (leb c 13) h λ l u. every_at white_space 9 5 refl c (omega (arith, leb-true)) (omega (arith, leb-true)))
    (λ e. every_at white_space 32 1 refl c (omega (arith, eqb-true)) (omega (arith, eqb-true)))

two_white : (c a b : ℕ) → a ≡ 0xc0 + c / 64 → b ≡ 0x80 + c % 64 → two_byte_space a b ≡ true → white_space c ≡ true
unfolding two_byte_space white_space white_spaces is_one_of every
two_white c a b ea eb h =
    and_both (eqb a 0xc2) (eqb b 0x85 || eqb b 0xa0) h λ p h.
    or_either (eqb b 0x85) (eqb b 0xa0) h
    (λ q. every_at white_space 0x85 1 refl c (omega (arith, eqb-true)) (omega (arith, eqb-true)))
    (λ q. every_at white_space 0xa0 1 refl c (omega (arith, eqb-true)) (omega (arith, eqb-true)))

module _ (c a b d : ℕ) (ea : a ≡ 0xe0 + c / 4096) (eb : b ≡ 0x80 + c / 64 % 64) (ed : d ≡ 0x80 + c % 64) where
  -- one alternative of the test: the first two bytes, and a test on the third
  led_by : (x y : ℕ) (w : Bool) → (eqb a x && eqb b y && w) ≡ true → (a ≡ x → b ≡ y → w ≡ true → white_space c ≡ true) → white_space c ≡ true
  led_by x y w h k = and_both (eqb a x && eqb b y) w h λ h r. and_both (eqb a x) (eqb b y) h λ p q. k (eqb-true a x p) (eqb-true b y q) r

  -- of E2 80: four places for the third byte
  general : a ≡ 0xe2 → b ≡ 0x80 → (leb 0x80 d && leb d 0x8a || eqb d 0xa8 || eqb d 0xa9 || eqb d 0xaf) ≡ true → white_space c ≡ true
  unfolding white_space white_spaces is_one_of every
  general p q h =
      or_either (leb 0x80 d && leb d 0x8a || eqb d 0xa8 || eqb d 0xa9) (eqb d 0xaf) h
      (λ h. or_either (leb 0x80 d && leb d 0x8a || eqb d 0xa8) (eqb d 0xa9) h
      (λ h. or_either (leb 0x80 d && leb d 0x8a) (eqb d 0xa8) h
      (λ h. and_both (leb 0x80 d) (leb d 0x8a) h λ l u. every_at white_space 0x2000 11 refl c (omega arith) (omega (arith, leb-true)))
      (λ r. every_at white_space 0x2028 1 refl c (omega (arith, eqb-true)) (omega (arith, eqb-true))))
      (λ r. every_at white_space 0x2029 1 refl c (omega (arith, eqb-true)) (omega (arith, eqb-true))))
      (λ r. every_at white_space 0x202f 1 refl c (omega (arith, eqb-true)) (omega (arith, eqb-true)))

  three_white : three_byte_space a b d ≡ true → white_space c ≡ true
  unfolding three_byte_space white_space white_spaces is_one_of every
  three_white h =
      let e1 = eqb a 0xe1 && eqb b 0x9a && eqb d 0x80 in
      let e2 = eqb a 0xe2 && eqb b 0x80 && (leb 0x80 d && leb d 0x8a || eqb d 0xa8 || eqb d 0xa9 || eqb d 0xaf) in
      let e281 = eqb a 0xe2 && eqb b 0x81 && eqb d 0x9f in
      let e3 = eqb a 0xe3 && eqb b 0x80 && eqb d 0x80 in
      or_either (e1 || e2 || e281) e3 h
      (λ h. or_either (e1 || e2) e281 h
      (λ h. or_either e1 e2 h
      (λ h. led_by 0xe1 0x9a (eqb d 0x80) h λ p q r. every_at white_space 0x1680 1 refl c (omega (arith, eqb-true)) (omega (arith, eqb-true)))
      (λ h. led_by 0xe2 0x80 _ h general))
      (λ h. led_by 0xe2 0x81 (eqb d 0x9f) h λ p q r. every_at white_space 0x205f 1 refl c (omega (arith, eqb-true)) (omega (arith, eqb-true))))
      (λ h. led_by 0xe3 0x80 (eqb d 0x80) h λ p q r. every_at white_space 0x3000 1 refl c (omega (arith, eqb-true)) (omega (arith, eqb-true)))

taken_white : (c : ℕ) → by_bytes c ≡ true → white_space c ≡ true
taken_white c =
    by_width (λ e b. b ≡ true → white_space c ≡ true) c
    (λ _ h. one_white c h)
    (λ _ _ h. two_white c _ _ refl refl h)
    (λ _ _ h. three_white c _ _ _ refl refl refl h)
    (λ _ h. absurd (false≢true h))

-- the tests on bytes are the property
bytes_exact : (c : ℕ) → by_bytes c ≡ white_space c
bytes_exact c = on (by_bytes c) (white_space c) (taken_white c) (white_taken c)
  where
    on : (a b : Bool) → (a ≡ true → b ≡ true) → (b ≡ true → a ≡ true) → a ≡ b
    on true true p q = refl
    on true false p q = sym (p refl)
    on false true p q = q refl
    on false false p q = refl

-- ---- the character at either end, whatever stands beside it

high_one : (a : ℕ) → 0x80 ≤ a → one_byte_space a ≡ false
unfolding one_byte_space
high_one a h = rw (lt-leb a 13 (omega arith), ne_eqb a 32 (λ e. omega arith), and-false)

other_two : (a b : ℕ) → (a ≡ 0xc2 → ⊥) → two_byte_space a b ≡ false
unfolding two_byte_space
other_two a b h = rw (ne_eqb a 0xc2 h)

other_three : (a b c : ℕ) → (a ≡ 0xe1 → ⊥) → (a ≡ 0xe2 → ⊥) → (a ≡ 0xe3 → ⊥) → three_byte_space a b c ≡ false
unfolding three_byte_space
other_three a b c p q r = rw (ne_eqb a 0xe1 p, ne_eqb a 0xe2 q, ne_eqb a 0xe3 r)

-- the second of three is at most BF
middle_three : (a b c : ℕ) → 0xc0 ≤ b → three_byte_space a b c ≡ false
unfolding three_byte_space
middle_three a b c h = simp (ne_eqb b 0x9a (λ e. omega arith), ne_eqb b 0x80 (λ e. omega arith), ne_eqb b 0x81 (λ e. omega arith), and-false)

module _ (two : ℕ → ℕ → Bool) (three : ℕ → ℕ → ℕ → Bool) where
  -- two bytes that are not the first two of three
  space_both : (a b : ℕ) (t : Bytes) → one_byte_space a ≡ false → ((d : ℕ) → three a b d ≡ false) → space_by two three (a ∷ b ∷ t) ≡ pick (two a b) 2 0
  space_both a b t h g = on t (two a b) refl
    where
      on : (t : Bytes) (x : Bool) → two a b ≡ x → space_by two three (a ∷ b ∷ t) ≡ pick x 2 0
      on t true e = space_two two three a b t h e
      on [] false e = space_pair two three a b h e
      on (d ∷ t) false e = space_three two three a b d t h e ∙ ap (λ (x : Bool). pick x 3 0) (g d)

  -- three bytes that are no such character
  space_none : (a b c : ℕ) (t : Bytes) → one_byte_space a ≡ false → two a b ≡ false → three a b c ≡ false → space_by two three (a ∷ b ∷ c ∷ t) ≡ 0
  space_none a b c t h f g = space_three two three a b c t h f ∙ ap (λ (x : Bool). pick x 3 0) g

  space_first : (a : ℕ) (t : Bytes) → ((b : ℕ) → two a b ≡ false) → ((b c : ℕ) → three a b c ≡ false) → space_by two three (a ∷ t) ≡ pick (one_byte_space a) 1 0
  space_first a t f g = on (one_byte_space a) refl
    where
      on : (x : Bool) → one_byte_space a ≡ x → space_by two three (a ∷ t) ≡ pick x 1 0
      on true e = space_one two three a t e
      on false e = space_low two three a t e f g

-- the character in front is taken whole where it has the property, and nothing of it where it has not
pub front_exact : (c : ℕ) (t : Bytes) → front_space (encode_utf8 c ++ t) ≡ pick (white_space c) (length (encode_utf8 c)) 0
unfolding front_space
front_exact c t =
    rw (← bytes_exact c)
    (by_width (λ e b. space_by two_byte_space three_byte_space (e ++ t) ≡ pick b (length e) 0) c
    (λ h. space_first two_byte_space three_byte_space c t (λ b. low_two c b (omega arith)) (λ b d. low_three c b d (omega arith)))
    (λ l h. space_both two_byte_space three_byte_space _ _ t (high_one _ (omega arith)) (λ d. other_three _ _ d (λ e. omega arith) (λ e. omega arith) (λ e. omega arith)))
    (λ l h. space_three two_byte_space three_byte_space _ _ _ t (high_one _ (omega arith)) (other_two _ _ (λ e. omega arith)))
    (λ l. space_none two_byte_space three_byte_space _ _ _ _ (high_one _ (omega arith)) (other_two _ _ (λ e. omega arith)) (other_three _ _ _ (λ e. omega arith) (λ e. omega arith) (λ e. omega arith))))

-- and so at the back
pub back_exact : (c : ℕ) (t : Bytes) → back_space (reverse (encode_utf8 c) ++ t) ≡ pick (white_space c) (length (encode_utf8 c)) 0
unfolding back_space
back_exact c t =
    rw (← bytes_exact c)
    (by_width (λ e b. space_by (λ b a. two_byte_space a b) (λ c b a. three_byte_space a b c) (reverse e ++ t) ≡ pick b (length e) 0) c
    (λ h. space_first (λ b a. two_byte_space a b) (λ c b a. three_byte_space a b c) c t (λ b. last_two b c h) (λ b d. last_three d b c h))
    (λ l h. space_both (λ b a. two_byte_space a b) (λ c b a. three_byte_space a b c) _ _ t (high_one _ (omega arith)) (λ d. middle_three d _ _ (omega arith)))
    (λ l h. space_three (λ b a. two_byte_space a b) (λ c b a. three_byte_space a b c) _ _ _ t (high_one _ (omega arith)) (other_two _ _ (λ e. omega arith)))
    (λ l. space_none (λ b a. two_byte_space a b) (λ c b a. three_byte_space a b c) _ _ _ _ (high_one _ (omega arith)) (other_two _ _ (λ e. omega arith)) (other_three _ _ _ (λ e. omega arith) (λ e. omega arith) (λ e. omega arith))))

-- ---- trimming

pub trim_start_exact : (c : ℕ) (t : Bytes) → trim_start (encode_utf8 c ++ t) ≡ pick (white_space c) (trim_start t) (encode_utf8 c ++ t)
unfolding trim_start
trim_start_exact c t = on (white_space c) (sym (front_exact c t))
  where
    on : (b : Bool) → pick b (length (encode_utf8 c)) 0 ≡ front_space (encode_utf8 c ++ t) → trim_by front_space 0 (encode_utf8 c ++ t) ≡ pick b (trim_by front_space 0 t) (encode_utf8 c ++ t)
    on true e = trim_step front_space _ (length (encode_utf8 c)) e ∙ ap (λ (x : Bytes). trim_by front_space 0 x) (drop_at (encode_utf8 c) t (length (encode_utf8 c)) refl)
    on false e = trim_stop front_space _ e

pub trim_end_exact : (c : ℕ) (t : Bytes) → trim_end (t ++ encode_utf8 c) ≡ pick (white_space c) (trim_end t) (t ++ encode_utf8 c)
unfolding trim_end
trim_end_exact c t = rw (reverse-append t (encode_utf8 c)) (on (white_space c) (sym (back_exact c (reverse t))))
  where
    on : (b : Bool) → pick b (length (encode_utf8 c)) 0 ≡ back_space (reverse (encode_utf8 c) ++ reverse t) →
        reverse (trim_by back_space 0 (reverse (encode_utf8 c) ++ reverse t)) ≡ pick b (reverse (trim_by back_space 0 (reverse t))) (t ++ encode_utf8 c)
    on true e =
        let behind = drop_at (reverse (encode_utf8 c)) (reverse t) (length (encode_utf8 c)) (length-reverse (encode_utf8 c)) in
        ap {B = Bytes} reverse (trim_step back_space _ (length (encode_utf8 c)) e ∙ ap (λ (x : Bytes). trim_by back_space 0 x) behind)
    on false e = ap {B = Bytes} reverse (trim_stop back_space _ e ∙ sym (reverse-append t (encode_utf8 c))) ∙ reverse-reverse (t ++ encode_utf8 c)

pub trim_start_text : (cs : List ℕ) → trim_start (encode_text cs) ≡ encode_text (skip_white cs)
unfolding trim_start trim_by encode_text skip_white
trim_start_text [] = refl
trim_start_text (c ∷ cs) = trim_start_exact c (encode_text cs) ∙ on (white_space c) (trim_start_text cs)
  where
    on : (b : Bool) → trim_start (encode_text cs) ≡ encode_text (skip_white cs) → pick b (trim_start (encode_text cs)) (encode_text (c ∷ cs)) ≡ encode_text (pick b (skip_white cs) (c ∷ cs))
    on true h = h
    on false h = refl

encode_append : (cs ds : List ℕ) → encode_text (cs ++ ds) ≡ encode_text cs ++ encode_text ds
unfolding encode_text
encode_append [] ds = refl
encode_append (c ∷ cs) ds = rw (encode_append cs ds) (sym (append_assoc (encode_utf8 c) (encode_text cs) (encode_text ds)))

-- the last character is the first of the characters last to first
encode_last : (ds : List ℕ) (d : ℕ) → encode_text (reverse (d ∷ ds)) ≡ encode_text (reverse ds) ++ encode_utf8 d
unfolding encode_text
encode_last ds d =
    ap {B = Bytes} encode_text (reverse-append (d ∷ []) ds) ∙ encode_append (reverse ds) (d ∷ []) ∙ ap {B = Bytes} (λ x. encode_text (reverse ds) ++ x) (append-nil (encode_utf8 d))

trim_reversed : (ds : List ℕ) → trim_end (encode_text (reverse ds)) ≡ encode_text (reverse (skip_white ds))
unfolding trim_end trim_by encode_text skip_white
trim_reversed [] = refl
trim_reversed (d ∷ ds) = ap {B = Bytes} trim_end (encode_last ds d) ∙ trim_end_exact d (encode_text (reverse ds)) ∙ on (white_space d) (trim_reversed ds)
  where
    on : (b : Bool) → trim_end (encode_text (reverse ds)) ≡ encode_text (reverse (skip_white ds)) →
        pick b (trim_end (encode_text (reverse ds))) (encode_text (reverse ds) ++ encode_utf8 d) ≡ encode_text (reverse (pick b (skip_white ds) (d ∷ ds)))
    on true h = h
    on false h = sym (encode_last ds d)

pub trim_end_text : (cs : List ℕ) → trim_end (encode_text cs) ≡ encode_text (skip_white_back cs)
unfolding skip_white_back
trim_end_text cs = ap {B = Bytes} (λ (x : List ℕ). trim_end (encode_text x)) (sym (reverse-reverse cs)) ∙ trim_reversed (reverse cs)

-- 25 different code points
pub all_25 : (length white_spaces ≡ 25) × (ascending white_spaces ≡ true)
unfolding white_spaces ascending
all_25 = (refl, refl)
