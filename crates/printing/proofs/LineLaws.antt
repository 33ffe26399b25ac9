-- The lines, piece by piece: the import, the templates, the items.
-- Main statements: `helper_none`, `helper_here`, `helpers_is`, `sum_field`, `sum_first`, `import_is`, `templates_on`, `templates_end`, `page_import`, `page_templates`,
-- `page_empty`, `page_item`, `page_end`; beside them the room that the pieces have. Assumes nothing.
use mathlib.Core.Path.{◌≡◌, refl, sym, ap, ◌∙◌}
use mathlib.Core.Bool.{Bool, true, false, ◌||◌, not}
use Prim.Native.Nat.{ℕ, zero, suc, ◌+◌, ◌*◌, ◌/◌, ◌<◌, ◌^◌}
use lib.Dec.{eqb}
use native.Mathlib.Omega.{arith}
use mathlib.Core.List.{[], ◌∷◌, ◌++◌, append_assoc}
use lib.ListN.{length, take, get_or, length-append}
use borrow.Author.Tests.{ne_eqb}
use Rattle.std.specs.Prelude.{Option}
use Rattle.std.specs.Option.{unwrap_or}
use Rattle.std.specs.List.{slice_get}
use Rattle.std.specs.Int.{bit_at}
use Rattle.std.specs.Int.Bits.{bit_and}
use Rattle.std.proofs.lemmas.Nat.{pow_pos}
use Rattle.std.proofs.lemmas.Nat.Bits.{and_pow}
use Rattle.std.proofs.lemmas.Option.{unwrap_or-slice_get}
use Rattle.field.specs.Bytes.{Bytes, ascii, pick}
use Rattle.field.specs.Number.{number_of, number_from}
use Rattle.field.specs.Row.{Row, end, loose, field, read, Ended}
use Rattle.field.specs.Front.{behind_of}
use Rattle.field.proofs.FrontLaws.{read_empty, read_torn}
use Rattle.text.specs.Decimal.{decimal}
use Rattle.page.specs.Tree.{choose}
use Rattle.field.specs.Fields.{IsFront}
use Rattle.printing.specs.Front.{front_in, inner_in, front_of}
use Rattle.printing.specs.Card.{quoted, template_name, parted_text, all_text, helper_text, odd, helpers_text, sum_behind, sum_in, import_text, templates_text, page_text}
use Rattle.printing.proofs.FrontLaws.{read_field, read_by, front_here, inner_here}
use Rattle.printing.proofs.RoomLaws.{Left, left_room}
use Rattle.printing.proofs.ByTag.{front_first}

-- ---- the helpers

pub helper_none : (s l : Bool) (n : Bytes) → s ≡ false → [] ≡ helper_text s l n
unfolding helper_text
helper_none s l n e = rw e

-- what stands before one that stands, and the two names
pub helper_here : (s l : Bool) (n : Bytes) → s ≡ true → pick l (ascii ", ") [] ++ (n ++ (ascii " as _" ++ n)) ≡ helper_text s l n
unfolding helper_text
helper_here s true n e = rw e
helper_here s false n e = rw e

-- a helper's bit in the sum, as the code tests it
abbrev pub bit : ℕ → ℕ → Bool
bit n m = not (eqb (bit_and n m) 0)

pub bit_set : (n m : ℕ) → (bit_and n m ≡ 0 → ⊥) → bit n m ≡ true
bit_set n m h = ap not (ne_eqb (bit_and n m) 0 h)

pub bit_clear : (n m : ℕ) → bit_and n m ≡ 0 → bit n m ≡ false
bit_clear n m h = ap (λ (x : ℕ). not (eqb x 0)) h

bit_odd : (n i : ℕ) → bit n (2 ^ i) ≡ odd (n / 2 ^ i)
bit_odd n i = ap (λ (x : ℕ). not (eqb x 0)) (and_pow n i) ∙ on (bit_at n i) (omega arith)
  where
    on : (b : ℕ) → b < 2 → not (eqb (b * 2 ^ i) 0) ≡ eqb b 1
    on zero h = ap (λ (x : ℕ). not (eqb x 0)) (let z : 0 * 2 ^ i ≡ 0 = omega arith in z)
    on (suc zero) h = ap not (ne_eqb (1 * 2 ^ i) 0 (λ z. omega (arith, pow_pos i)))
    on (suc (suc b)) h = absurd (omega arith)

-- `||` takes its second operand where the first is false
pub or_left : (b : Bool) {a r : Bool} → a ≡ true → r ≡ a → r ≡ (a || b)
or_left b e q = rw e at q ∙ sym (ap (λ (x : Bool). x || b) e)

pub or_right : {a b r : Bool} → a ≡ false → r ≡ b → r ≡ (a || b)
or_right {b = b} e q = q ∙ sym (ap (λ (x : Bool). x || b) e)

or_three : (a b c : Bool) → ((a || b) || c) ≡ (a || (b || c))
or_three true b c = refl
or_three false b c = refl

module _ (k : ℕ) {e g : Bool} (ee : e ≡ (bit k 1 || bit k 2)) (eg : g ≡ (e || bit k 4)) where
  pub helpers_is : helper_text (bit k 1) false (ascii "jsx") ++ (helper_text (bit k 2) (bit k 1) (ascii "jsxTemplate") ++ (helper_text (bit k 4) e (ascii "jsxAttr") ++ helper_text (bit k 8) g (ascii "jsxEscape"))) ≡ helpers_text k
  unfolding helpers_text
  helpers_is =
      let a : bit k 1 ≡ odd k = bit_odd k 0 ∙ ap odd (omega arith) in
      let b : bit k 2 ≡ odd (k / 2) = bit_odd k 1 in
      let c : bit k 4 ≡ odd (k / 4) = bit_odd k 2 in
      let d : bit k 8 ≡ odd (k / 8) = bit_odd k 3 in
      rw (eg, ee, or_three (bit k 1) (bit k 2) (bit k 4), a, b, c, d)

  pub helpers_room : (n : ℕ) → n + length (helpers_text k) < 2 ^ 63 → n + (length (helper_text (bit k 1) false (ascii "jsx")) + (length (helper_text (bit k 2) (bit k 1) (ascii "jsxTemplate")) + (length (helper_text (bit k 4) e (ascii "jsxAttr")) + length (helper_text (bit k 8) g (ascii "jsxEscape"))))) < 2 ^ 63
  helpers_room n h =
      let w = helper_text (bit k 1) false (ascii "jsx") in
      let x = helper_text (bit k 2) (bit k 1) (ascii "jsxTemplate") in
      let y = helper_text (bit k 4) e (ascii "jsxAttr") in
      let z = helper_text (bit k 8) g (ascii "jsxEscape") in
      omega (arith, h, ap length helpers_is, length-append w (x ++ (y ++ z)), length-append x (y ++ z), length-append y z)

-- ---- the sum

sum_is : (s : Bytes) → sum_in (read s) ≡ sum_behind (read (behind_of s))
sum_is = read_by sum_in refl (λ b. refl)

one_byte : (b : Bytes) → (length b ≡ 0 → ⊥) → number_of (take 1 b) ≡ get_or b 0 0
unfolding number_from
one_byte [] h = absurd (h refl)
one_byte (x ∷ b) h = omega arith

module _ (s : Bytes) {b : Bytes} (e : b ≡ behind_of s) where
  sum_at : sum_behind (read b) ≡ sum_in (read s)
  sum_at = ap (λ (x : Bytes). sum_behind (read x)) e ∙ sym (sum_is s)

  pub sum_field : {t : ℕ} {w r : Bytes} → IsFront b t w r → 0 ≡ sum_in (read s)
  sum_field {t} f = sym (ap sum_behind (read_field b t f.tag_is (λ z. omega (arith, f.tag_below, z)) refl refl refl)) ∙ sum_at

  pub sum_none : length b ≡ 0 → 0 ≡ sum_in (read s)
  sum_none h = sym (ap sum_behind (read_empty b h)) ∙ sum_at

  pub sum_loose : Ended (read b) → (length b ≡ 0 → ⊥) → get_or b 0 0 ≡ sum_in (read s)
  sum_loose i h = sym (ap sum_behind (read_torn b i h) ∙ one_byte b h) ∙ sum_at

  -- its first byte, where there is one
  pub sum_first : Ended (read b) → {o p : Option ℕ} {n : ℕ} → o ≡ slice_get b 0 → p ≡ o → n ≡ unwrap_or p 0 → n ≡ sum_in (read s)
  sum_first i {n = n} u v w = w ∙ ap (λ (o : Option ℕ). unwrap_or o 0) (v ∙ u) ∙ unwrap_or-slice_get b 0 0 ∙ on b refl
    where
      on : (x : Bytes) → x ≡ b → get_or b 0 0 ≡ sum_in (read s)
      on [] q = rw (sym q) (sum_none (ap length (sym q)))
      on (c ∷ x) q = sum_loose i (λ z. let k : length (c ∷ x) ≡ length b = ap length q in omega arith)

-- ---- the import

module _ (s : Bytes) {k : ℕ} {w : Bytes} (ek : k ≡ sum_in (read s)) (ew : w ≡ front_of s) where
  pub import_is : ascii "import { " ++ (helpers_text k ++ (ascii " } from " ++ (quoted w ++ (59 ∷ 10 ∷ [])))) ≡ import_text (read s)
  unfolding import_text
  import_is = rw (ek, ew, ← front_first s)

  pub import_room : (n : ℕ) → n + length (import_text (read s)) < 2 ^ 63 → n + (9 + (length (helpers_text k) + (8 + (length (quoted w) + 2)))) < 2 ^ 63
  import_room n h =
      omega (arith, ap length import_is, length-append (helpers_text k) (ascii " } from " ++ (quoted w ++ (59 ∷ 10 ∷ []))), length-append (quoted w) (59 ∷ 10 ∷ []))

-- ---- the templates

line_end : (d p r : Bytes) → (d ++ (ascii " = [" ++ (p ++ ascii "];"))) ++ (10 ∷ r) ≡ (d ++ (ascii " = [" ++ (p ++ (93 ∷ 59 ∷ 10 ∷ [])))) ++ r
line_end d p r = simp append_assoc

abbrev pub line : Bytes → Bytes → Bytes
line w i = ascii "const " ++ (template_name w ++ (ascii " = [" ++ (parted_text (read i) ++ (93 ∷ 59 ∷ 10 ∷ []))))

module _ {s : Bytes} {t : ℕ} {b r : Bytes} (g : IsFront s t b r) {w i : Bytes} (ew : w ≡ front_in t b) (ei : i ≡ inner_in t b) where
  row_is : read s ≡ field t w (read i) (read r)
  row_is = read_field s t g.tag_is (λ z. omega (arith, g.tag_below, z)) (ew ∙ front_here s g.tag_is g.body_is) (ei ∙ inner_here s g.tag_is g.body_is) g.behind_is

  pub templates_on : templates_text (read s) ≡ line w i ++ templates_text (read r)
  unfolding templates_text
  templates_on = ap templates_text row_is ∙ ap (λ (x : Bytes). ascii "const $$_tpl_" ++ x) (line_end (decimal (number_of (take 4 w))) (parted_text (read i)) (templates_text (read r)))

length_line : (w i : Bytes) → length (line w i) ≡ 6 + (length (template_name w) + (4 + (length (parted_text (read i)) + 3)))
length_line w i = omega (arith, length-append (decimal (number_of (take 4 w))) (ascii " = [" ++ (parted_text (read i) ++ (93 ∷ 59 ∷ 10 ∷ []))), length-append (parted_text (read i)) (93 ∷ 59 ∷ 10 ∷ []))

-- the room of a turn of the loop
pub templates_turn : {s : Bytes} {t : ℕ} {b r : Bytes} (g : IsFront s t b r) {w i : Bytes} (ew : w ≡ front_in t b) (ei : i ≡ inner_in t b) {o₀ x o : Bytes} {n₀ n : ℕ} → Left o₀ n₀ x o n (templates_text (read s))
    → n + (6 + (length (template_name w) + (4 + (length (parted_text (read i)) + 3)))) < 2 ^ 63
templates_turn g {w} {i} ew ei l = omega (arith, left_room l (line w i) _ (templates_on g ew ei), length_line w i)

pub templates_end : (x : Row) → Ended x → templates_text x ≡ []
unfolding templates_text
templates_end end i = refl
templates_end (loose b) i = refl
templates_end (field t f y r) i = absurd i

-- ---- the page

module _ (ts : Row) {s : Bytes} {t : ℕ} {b r : Bytes} (g : IsFront s t b r) where
  pub page_import : t ≡ 0x82 → {i : Bytes} → i ≡ inner_in t b → page_text ts (read s) ≡ import_text (read i) ++ page_text ts (read r)
  unfolding page_text choose
  page_import k {i} ei = ap (page_text ts) (row_is g refl ei) ∙ rw k

  pub page_templates : t ≡ 0x83 → page_text ts (read s) ≡ templates_text ts ++ page_text ts (read r)
  unfolding page_text choose
  page_templates k = ap (page_text ts) (row_is g refl refl) ∙ rw k

  pub page_empty : t ≡ 0x13 → page_text ts (read s) ≡ (59 ∷ 10 ∷ []) ++ page_text ts (read r)
  unfolding page_text choose
  page_empty k = ap (page_text ts) (row_is g refl refl) ∙ rw k

  pub page_item : (t ≡ 0x82 → ⊥) → (t ≡ 0x83 → ⊥) → (t ≡ 0x13 → ⊥) → {i : Bytes} → i ≡ inner_in t b → page_text ts (read s) ≡ (all_text (read i) ++ (10 ∷ [])) ++ page_text ts (read r)
  unfolding page_text choose
  page_item a d h {i} ei = ap (page_text ts) (row_is g refl ei) ∙ rw (ne_eqb t 0x82 a, ne_eqb t 0x83 d, ne_eqb t 0x13 h)

pub page_end : (ts x : Row) → Ended x → page_text ts x ≡ []
unfolding page_text
page_end ts end i = refl
page_end ts (loose b) i = refl
page_end ts (field t f y r) i = absurd i
