-- A page's parts in its bytes: what was written is read, and what is read was written. Main statements: `page_in_then`, `behind_then`,
-- `page_right_then`, `then_page_in`. Assumes nothing.
use Prim.Native.Nat.{ℕ, ◌+◌, ◌-◌, ◌^◌, ◌≤◌, ◌<◌}
use mathlib.Core.Path.{◌≡◌, refl, sym, ap, ap₂, ◌∙◌}
use mathlib.Core.Bool.{true, ◌&&◌}
use mathlib.Core.List.{[], ◌∷◌, ◌++◌}
use native.Mathlib.Omega.{arith}
use lib.Dec.{leb, eqb}
use lib.ListN.{length, take, drop, length-append, length-drop, take-append-drop}
use lib.Seq.{take_at, drop_at, length-take-le}
use Rattle.std.proofs.lemmas.Bool.{and_from}
use borrow.Author.Tests.{le-leb, leb-true, eq-eqb, eqb-true}
use Rattle.field.specs.Bytes.{Bytes, AllBytes}
use Rattle.field.specs.Number.{big_endian, number_from, number_of}
use Rattle.field.proofs.NumberLaws.{length_big_endian, four_read, big_endian_back, all_take, all_drop}
use Rattle.catalogue.specs.Page.{Body, Page, IsBytes, Request, A13, A14, house_width, house_bytes, house_in, house_right, Given, Sound}
use Rattle.catalogue.specs.Catalogue.{behind_lengths, lengths, page_then, size, four, at_lengths, body_in, page_in, behind_body, behind, within, page_right}
use Rattle.catalogue.proofs.Tests.{and_left, and_right}

-- ---- four bytes in front

pub be_length : (n : ℕ) → length (big_endian 4 n []) ≡ 4
be_length n = length_big_endian 4 n []

take_four : (n : ℕ) (r : Bytes) → take 4 (big_endian 4 n [] ++ r) ≡ big_endian 4 n []
take_four n r = take_at (big_endian 4 n []) r 4 (be_length n)

pub drop_four : (n : ℕ) (r : Bytes) → drop 4 (big_endian 4 n [] ++ r) ≡ r
drop_four n r = drop_at (big_endian 4 n []) r 4 (be_length n)

pub read_four : (n : ℕ) (r : Bytes) → n < 2 ^ 32 → four (big_endian 4 n [] ++ r) ≡ n
read_four n r h = ap number_of (take_four n r) ∙ four_read n h

pub four_split : (b : Bytes) → AllBytes b → 4 ≤ length b → big_endian 4 (four b) [] ++ drop 4 b ≡ b
four_split b a h =
    let e : length (take 4 b) ≡ 4 = length-take-le 4 b h in
    let f : big_endian 4 (four b) [] ≡ take 4 b = ap (λ (k : ℕ). big_endian k (four b) []) (sym e) ∙ big_endian_back (take 4 b) (all_take 4 b a) in
    ap (λ (x : Bytes). x ++ drop 4 b) f ∙ take-append-drop 4 b

pub four_below : (b : Bytes) → AllBytes b → four b < 2 ^ 32
unfolding number_from AllBytes
four_below [] a = omega arith
four_below (c ∷ []) a = omega arith
four_below (c ∷ d ∷ []) a = omega arith
four_below (c ∷ d ∷ e ∷ []) a = omega arith
four_below (c ∷ d ∷ e ∷ f ∷ b) a = omega arith

-- ---- lengths and parts, written and read

module _ (x : Body) (r : Bytes) (lt : length x.templates < 2 ^ 32) (lp : length x.page_out < 2 ^ 32) where
  second : Bytes
  second = big_endian 4 (length x.page_out) [] ++ behind_lengths x r

  at_second : drop 4 (lengths x r) ≡ second
  unfolding second
  at_second = drop_four (length x.templates) second

  at_parts : drop 4 (drop 4 (lengths x r)) ≡ behind_lengths x r
  unfolding second
  at_parts = ap (λ (b : Bytes). drop 4 b) at_second ∙ drop_four (length x.page_out) (behind_lengths x r)

  first_length : four (lengths x r) ≡ length x.templates
  unfolding second
  first_length = read_four (length x.templates) second lt

  second_length : four (drop 4 (lengths x r)) ≡ length x.page_out
  unfolding second
  second_length = ap four at_second ∙ read_four (length x.page_out) (behind_lengths x r) lp

  at_page_out : drop (four (lengths x r)) (drop 4 (drop 4 (lengths x r))) ≡ x.page_out ++ r
  at_page_out = ap₂ (λ (n : ℕ) (b : Bytes). drop n b) first_length at_parts ∙ drop_at x.templates (x.page_out ++ r) (length x.templates) refl

  pub body_in_lengths : body_in (lengths x r) ≡ x
  body_in_lengths =
      let e : take (four (lengths x r)) (drop 4 (drop 4 (lengths x r))) ≡ x.templates =
      ap₂ (λ (n : ℕ) (b : Bytes). take n b) first_length at_parts ∙ take_at x.templates (x.page_out ++ r) (length x.templates) refl in
      let f : take (four (drop 4 (lengths x r))) (drop (four (lengths x r)) (drop 4 (drop 4 (lengths x r)))) ≡ x.page_out =
      ap₂ (λ (n : ℕ) (b : Bytes). take n b) second_length at_page_out ∙ take_at x.page_out r (length x.page_out) refl in
      λ i. record { templates = e i; page_out = f i }

  pub behind_lengths_body : behind_body (lengths x r) ≡ r
  behind_lengths_body = ap₂ (λ (n : ℕ) (b : Bytes). drop n b) second_length at_page_out ∙ drop_at x.page_out r (length x.page_out) refl

  pub length_lengths : length (lengths x r) ≡ 8 + length x.templates + length x.page_out + length r
  length_lengths =
      omega (arith, length-append (big_endian 4 (length x.templates) []) (big_endian 4 (length x.page_out) [] ++ behind_lengths x r), length-append (big_endian 4 (length x.page_out) []) (behind_lengths x r), length-append x.templates (x.page_out ++ r), length-append x.page_out r, be_length (length x.templates), be_length (length x.page_out))

  pub within_lengths : within (lengths x r) ≡ true
  within_lengths =
      and_from (leb 8 (length (lengths x r))) (leb (8 + four (lengths x r) + four (drop 4 (lengths x r))) (length (lengths x r)))
      (le-leb 8 (length (lengths x r)) (omega (arith, length_lengths)))
      (le-leb (8 + four (lengths x r) + four (drop 4 (lengths x r))) (length (lengths x r)) (omega (arith, length_lengths, first_length, second_length)))

-- what is read is what was written
pub lengths_body_in : (b : Bytes) → AllBytes b → within b ≡ true → lengths (body_in b) (behind_body b) ≡ b
lengths_body_in b a w =
    let l : 8 ≤ length b = leb-true 8 (length b) (and_left (leb 8 (length b)) (leb (8 + four b + four (drop 4 b)) (length b)) w) in
    let m : 8 + four b + four (drop 4 b) ≤ length b = leb-true (8 + four b + four (drop 4 b)) (length b) (and_right (leb 8 (length b)) (leb (8 + four b + four (drop 4 b)) (length b)) w) in
    let c : Bytes = drop 4 (drop 4 b) in
    let lc : length c ≡ length b - 8 = omega (arith, length-drop 4 (drop 4 b), length-drop 4 b) in
    let et : length (take (four b) c) ≡ four b = length-take-le (four b) c (omega arith) in
    let ep : length (take (four (drop 4 b)) (drop (four b) c)) ≡ four (drop 4 b) = length-take-le (four (drop 4 b)) (drop (four b) c) (omega (arith, length-drop (four b) c)) in
    let e₁ : behind_lengths (body_in b) (behind_body b) ≡ c =
    ap (λ (z : Bytes). take (four b) c ++ z) (take-append-drop (four (drop 4 b)) (drop (four b) c)) ∙ take-append-drop (four b) c in
    let e₂ : big_endian 4 (length (take (four (drop 4 b)) (drop (four b) c))) [] ++ behind_lengths (body_in b) (behind_body b) ≡ drop 4 b =
    ap₂ (λ (n : ℕ) (z : Bytes). big_endian 4 n [] ++ z) ep e₁ ∙ four_split (drop 4 b) (all_drop 4 b a) (omega (arith, length-drop 4 b)) in
    ap₂ (λ (n : ℕ) (z : Bytes). big_endian 4 n [] ++ z) et e₂ ∙ four_split b a (omega arith)

-- ---- the house

house_drop : (q : Request) (h : ℕ) (r : Bytes) → drop (house_width q) (house_bytes q h ++ r) ≡ r
house_drop A13 h r = refl
house_drop A14 h r = refl

house_read : (q : Request) (h : ℕ) (r : Bytes) → house_right q h ≡ true → house_in q (house_bytes q h ++ r) ≡ h
house_read A13 h r e = sym (eqb-true h 0 e)
house_read A14 h r e = refl

house_length : (q : Request) (h : ℕ) → length (house_bytes q h) ≡ house_width q
house_length A13 h = refl
house_length A14 h = refl

house_split : (q : Request) (b : Bytes) → house_width q ≤ length b → house_bytes q (house_in q b) ++ drop (house_width q) b ≡ b
house_split A13 b h = refl
house_split A14 [] h = absurd (omega arith)
house_split A14 (c ∷ b) h = refl

-- ---- a page, written and read

-- behind its 97
abbrev pub page_tail : Given → ℕ → Page → Bytes → Bytes
page_tail G n p r = big_endian 4 p.name [] ++ (house_bytes G.format.request p.house ++ lengths (G.format.up n p.body) r)

pub length_page : (G : Given) (n : ℕ) (p : Page) (r : Bytes) → length (page_then G.format n p r) ≡ size G.format p + length r
unfolding page_then size
length_page G n p r =
    let x : Body = G.format.up n p.body in
    let e₀ : length (big_endian 4 p.name [] ++ (house_bytes G.format.request p.house ++ lengths x r)) ≡ 4 + length (house_bytes G.format.request p.house ++ lengths x r) =
    length-append (big_endian 4 p.name []) (house_bytes G.format.request p.house ++ lengths x r) ∙ ap (λ (k : ℕ). k + length (house_bytes G.format.request p.house ++ lengths x r)) (be_length p.name) in
    let e₁ : length (house_bytes G.format.request p.house ++ lengths x r) ≡ house_width G.format.request + length (lengths x r) =
    length-append (house_bytes G.format.request p.house) (lengths x r) ∙ ap (λ (k : ℕ). k + length (lengths x r)) (house_length G.format.request p.house) in
    let e₂ : length (lengths x r) ≡ 8 + length x.templates + length x.page_out + length r =
    omega (arith, length-append (big_endian 4 (length x.templates) []) (big_endian 4 (length x.page_out) [] ++ behind_lengths x r), length-append (big_endian 4 (length x.page_out) []) (behind_lengths x r), length-append x.templates (x.page_out ++ r), length-append x.page_out r, be_length (length x.templates), be_length (length x.page_out)) in
    omega (arith, G.up_templates n p.body, G.up_page_out n p.body)

module _ (G : Given) (n : ℕ) (p : Page) (r : Bytes) (s : Sound G.format p) (h : size G.format p < 2 ^ 32) where
  up_body : Body
  up_body = G.format.up n p.body

  short_templates : length up_body.templates < 2 ^ 32
  unfolding up_body size
  short_templates = omega (arith, G.up_templates n p.body)

  short_page_out : length up_body.page_out < 2 ^ 32
  unfolding up_body size
  short_page_out = omega (arith, G.up_page_out n p.body)

  at_house : drop 4 (page_tail G n p r) ≡ house_bytes G.format.request p.house ++ lengths up_body r
  unfolding up_body
  at_house = drop_four p.name (house_bytes G.format.request p.house ++ lengths up_body r)

  at_lengths_then : at_lengths G.format (page_tail G n p r) ≡ lengths up_body r
  at_lengths_then = ap (λ (b : Bytes). drop (house_width G.format.request) b) at_house ∙ house_drop G.format.request p.house (lengths up_body r)

  pub page_in_then : page_in G.format n (page_tail G n p r) ≡ p
  unfolding page_in up_body
  page_in_then =
      let e : four (page_tail G n p r) ≡ p.name = read_four p.name (house_bytes G.format.request p.house ++ lengths up_body r) s.four_bytes in
      let f : house_in G.format.request (drop 4 (page_tail G n p r)) ≡ p.house = ap (house_in G.format.request) at_house ∙ house_read G.format.request p.house (lengths up_body r) s.house_is in
      let g : G.format.down n (body_in (at_lengths G.format (page_tail G n p r))) ≡ p.body =
      ap (λ (b : Bytes). G.format.down n (body_in b)) at_lengths_then ∙ ap (G.format.down n) (body_in_lengths up_body r short_templates short_page_out) ∙ G.down_up n p.body s.of_bytes s.judged in
      λ i. record { name = e i; house = f i; body = g i }

  pub behind_then : behind G.format (page_tail G n p r) ≡ r
  behind_then = ap behind_body at_lengths_then ∙ behind_lengths_body up_body r short_templates short_page_out

  pub page_right_then : page_right G.format (page_tail G n p r) p ≡ true
  unfolding page_right page_then size
  page_right_then =
      let l : length (page_tail G n p r) + 1 ≡ size G.format p + length r = omega (arith, length_page G n p r) in
      and_from (leb (4 + house_width G.format.request) (length (page_tail G n p r))) (within (at_lengths G.format (page_tail G n p r)) && (house_right G.format.request p.house && eqb (G.format.judge p.body) 0))
      (le-leb (4 + house_width G.format.request) (length (page_tail G n p r)) (omega arith))
      (and_from (within (at_lengths G.format (page_tail G n p r))) (house_right G.format.request p.house && eqb (G.format.judge p.body) 0)
      (ap within at_lengths_then ∙ within_lengths up_body r short_templates short_page_out)
      (and_from (house_right G.format.request p.house) (eqb (G.format.judge p.body) 0) s.house_is (eq-eqb (G.format.judge p.body) 0 s.judged)))

module _ (G : Given) (n : ℕ) (b : Bytes) (a : AllBytes b) (t : page_right G.format b (page_in G.format n b) ≡ true) where
  head_fits : 4 + house_width G.format.request ≤ length b
  unfolding page_right
  head_fits = leb-true (4 + house_width G.format.request) (length b) (and_left (leb (4 + house_width G.format.request) (length b)) (within (at_lengths G.format b) && (house_right G.format.request (page_in G.format n b).house && eqb (G.format.judge (page_in G.format n b).body) 0)) t)

  rest_right : (within (at_lengths G.format b) && (house_right G.format.request (page_in G.format n b).house && eqb (G.format.judge (page_in G.format n b).body) 0)) ≡ true
  unfolding page_right
  rest_right = and_right (leb (4 + house_width G.format.request) (length b)) (within (at_lengths G.format b) && (house_right G.format.request (page_in G.format n b).house && eqb (G.format.judge (page_in G.format n b).body) 0)) t

  parts_within : within (at_lengths G.format b) ≡ true
  parts_within = and_left (within (at_lengths G.format b)) (house_right G.format.request (page_in G.format n b).house && eqb (G.format.judge (page_in G.format n b).body) 0) rest_right

  last_right : (house_right G.format.request (page_in G.format n b).house && eqb (G.format.judge (page_in G.format n b).body) 0) ≡ true
  last_right = and_right (within (at_lengths G.format b)) (house_right G.format.request (page_in G.format n b).house && eqb (G.format.judge (page_in G.format n b).body) 0) rest_right

  at_bytes : AllBytes (at_lengths G.format b)
  at_bytes = all_drop (house_width G.format.request) (drop 4 b) (all_drop 4 b a)

  in_bytes : IsBytes (body_in (at_lengths G.format b))
  in_bytes =
      let c : Bytes = at_lengths G.format b in
      let d : AllBytes (drop 4 (drop 4 c)) = all_drop 4 (drop 4 c) (all_drop 4 c at_bytes) in
      (all_take (four c) (drop 4 (drop 4 c)) d, all_take (four (drop 4 c)) (drop (four c) (drop 4 (drop 4 c))) (all_drop (four c) (drop 4 (drop 4 c)) d))

  pub sound_page_in : Sound G.format (page_in G.format n b)
  unfolding page_in
  sound_page_in = record {
    four_bytes = four_below b a;
    of_bytes = G.down_bytes n (body_in (at_lengths G.format b)) in_bytes;
    house_is = and_left (house_right G.format.request (page_in G.format n b).house) (eqb (G.format.judge (page_in G.format n b).body) 0) last_right;
    judged = eqb-true (G.format.judge (page_in G.format n b).body) 0 (and_right (house_right G.format.request (page_in G.format n b).house) (eqb (G.format.judge (page_in G.format n b).body) 0) last_right);
  }

  pub then_page_in : page_then G.format n (page_in G.format n b) (behind G.format b) ≡ 0x97 ∷ b
  unfolding page_then page_in
  then_page_in =
      let x : Body = body_in (at_lengths G.format b) in
      let e : G.format.up n (G.format.down n x) ≡ x = G.up_down n x in_bytes sound_page_in.judged in
      let f : lengths (G.format.up n (G.format.down n x)) (behind G.format b) ≡ at_lengths G.format b = ap (λ (z : Body). lengths z (behind G.format b)) e ∙ lengths_body_in (at_lengths G.format b) at_bytes parts_within in
      let g : house_bytes G.format.request (house_in G.format.request (drop 4 b)) ++ lengths (G.format.up n (G.format.down n x)) (behind G.format b) ≡ drop 4 b =
      ap (λ (z : Bytes). house_bytes G.format.request (house_in G.format.request (drop 4 b)) ++ z) f ∙ house_split G.format.request (drop 4 b) (omega (arith, length-drop 4 b, head_fits)) in
      ap (λ (z : Bytes). 0x97 ∷ z) (ap (λ (z : Bytes). big_endian 4 (four b) [] ++ z) g ∙ four_split b a (omega (arith, head_fits)))
