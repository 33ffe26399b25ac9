-- How much is written for what is read: a name, and what braces hold. Main statements: `known_size`, `name_size`. Assumes nothing.
use Prim.Native.Nat.{ℕ, suc, ◌+◌, ◌*◌, ◌≤◌}
use mathlib.Core.Path.{◌≡◌, refl, ◌∙◌, ap, subst}
use mathlib.Core.Bool.{Bool, true, false}
use mathlib.Core.List.{List, [], ◌∷◌, ◌++◌}
use native.Mathlib.Omega.{arith}
use lib.Dec.{eqb}
use lib.ListN.{length, length-append}
use Rattle.std.specs.Prelude.{Option, None, Some}
use Rattle.field.specs.Bytes.{Bytes, ascii, same, pick}
use Rattle.field.specs.Number.{big_endian}
use Rattle.field.specs.Row.{Row, end, field, bytes}
use Rattle.field.proofs.PutLaws.{length_field_bytes}
use Rattle.page.specs.Number.{number_bytes, number_tag, minus_tag}
use Rattle.page.specs.Page as P
use Rattle.page.specs.Encode.{texts_row, name_row, tag_row, boolean_byte}
use Rattle.grammar.specs.Signs.{choose, space, quote}
use Rattle.grammar.specs.Known.{Known, whole, minus_whole, decimal, minus_decimal, quoted, boolean, null, other, kept, trimmed_end, is_whole, is_decimal, before_point, after_point, value_from, number_of, unsigned, has_minus, string_from, string_of, rest_of, or_else, known_trimmed, known_of}
use Rattle.grammar.specs.Syntax.{Part, part, Name, known_expr}
use Rattle.grammar.specs.Grammar.{Run, run_ends, run_on, Spaces, no_space, space_on, IsIdent, ident, IsParts, no_parts, one_part, IsName, is_name}
use Rattle.tag_tree.specs.PageTag.{idents, page_name, page_known, page_tag}
use Rattle.read_tag.specs.Progress.{name_bytes, expr_bytes}
use Rattle.read_tag.proofs.ProgressLaws as L

-- ---- what braces hold

size : Known → ℕ
size k = length (expr_bytes (known_expr k))

leaf_size : (t : ℕ) (w : Bytes) → length (bytes (field t w end end)) ≡ 3 + length w
leaf_size t w = ap length (L.leaf_alone t w) ∙ length_field_bytes t w

-- no more than twelve bytes and the text
Small : ℕ → Option Known → Type 0
Small n f = (k : Known) → f ≡ Some k → size k ≤ 12 + n

small_none : (n : ℕ) → Small n None
unfolding Small
small_none n k e = absurd (let z : ◌≡◌ {A = ℕ} 0 1 = cc in omega arith)

small_some : (n : ℕ) (k : Known) → size k ≤ 12 + n → Small n (Some k)
unfolding Small
small_some n k l j e =
    let z : k ≡ j = cc in
    subst (λ (x : Known). size x ≤ 12 + n) z l

small_choose : (n : ℕ) (b : Bool) (f g : Option Known) → Small n f → Small n g → Small n (choose b f g)
unfolding choose
small_choose n true f g p q = p
small_choose n false f g p q = q

small_or : (n : ℕ) (f g : Option Known) → Small n f → Small n g → Small n (or_else f g)
unfolding or_else
small_or n None g p q = q
small_or n (Some k) g p q = p

size_quoted : (w : Bytes) → size (quoted w) ≡ 3 + length w
unfolding size expr_bytes page_tag page_known tag_row
size_quoted w = leaf_size 0x70 w

size_other : (w : Bytes) → size (other w) ≡ 6 + length w
unfolding size expr_bytes page_tag page_known tag_row
size_other w =
    let a = ap length (L.field_alone 0x79 (field 0x20 w end end)) ∙ length_field_bytes 0x79 (bytes (field 0x20 w end end)) in
    let b = leaf_size 0x20 w in
    omega (arith, a, b)

size_boolean : (b : Bool) → size (boolean b) ≤ 12
unfolding size expr_bytes page_tag page_known tag_row
size_boolean b = omega (arith, leaf_size 0x72 (boolean_byte b ∷ []))

size_null : size null ≤ 12
unfolding size expr_bytes page_tag page_known tag_row
size_null = omega (arith, leaf_size 0x73 [])

size_whole : (n : ℕ) → size (whole n) ≤ 12
unfolding size expr_bytes page_tag page_known tag_row number_bytes number_tag big_endian
size_whole n = omega (arith, leaf_size 0x71 (big_endian 8 n []))

size_minus_whole : (n : ℕ) → size (minus_whole n) ≤ 12
unfolding size expr_bytes page_tag page_known tag_row number_bytes minus_tag big_endian
size_minus_whole n = omega (arith, leaf_size 0x75 (big_endian 8 n []))

size_decimal : (n p : ℕ) → size (decimal n p) ≤ 12
unfolding size expr_bytes page_tag page_known tag_row number_bytes number_tag big_endian
size_decimal n p = omega (arith, leaf_size 0x7a (big_endian 8 n (big_endian 1 p [])))

size_minus_decimal : (n p : ℕ) → size (minus_decimal n p) ≤ 12
unfolding size expr_bytes page_tag page_known tag_row number_bytes minus_tag big_endian
size_minus_decimal n p = omega (arith, leaf_size 0x7b (big_endian 8 n (big_endian 1 p [])))

small_number : (n : ℕ) (w : Bytes) (f : ℕ → Known) (g : ℕ → ℕ → Known) → ((x : ℕ) → size (f x) ≤ 12) → ((x p : ℕ) → size (g x p) ≤ 12) → Small n (number_of w f g)
unfolding number_of
small_number n w f g a b =
    small_choose n (is_whole w) (Some (f (value_from 0 w))) (choose (is_decimal w) (Some (g (value_from 0 (before_point w ++ after_point w)) (length (after_point w)))) None) (small_some n (f (value_from 0 w)) (omega (arith, a (value_from 0 w))))
    (small_choose n (is_decimal w) (Some (g (value_from 0 (before_point w ++ after_point w)) (length (after_point w)))) None (small_some n (g (value_from 0 (before_point w ++ after_point w)) (length (after_point w))) (omega (arith, b (value_from 0 (before_point w ++ after_point w)) (length (after_point w))))) (small_none n))

small_string : (n q : ℕ) (v w : Bytes) → length v + length w ≤ n → Small n (string_from q v w)
unfolding string_from
small_string n q v [] l = small_none n
small_string n q v (c ∷ []) l = small_choose n (eqb c q) (Some (quoted v)) None (small_some n (quoted v) (omega (arith, size_quoted v))) (small_none n)
small_string n q v (c ∷ d ∷ w) l = small_choose n (eqb c q) None (string_from q (v ++ (c ∷ [])) (d ∷ w)) (small_none n) (small_string n q (v ++ (c ∷ [])) (d ∷ w) (omega (arith, length-append v (c ∷ []))))

small_string_of : (n : ℕ) (w : Bytes) → length w ≤ n → Small n (string_of w)
unfolding string_of
small_string_of n [] l = small_none n
small_string_of n (c ∷ w) l = small_choose n (quote c) (string_from c [] w) None (small_string n c [] w (omega arith)) (small_none n)

small_trimmed : (n : ℕ) (w : Bytes) → length w ≤ n → Small n (known_trimmed w)
unfolding known_trimmed rest_of
small_trimmed n w l =
    small_choose n (same w (ascii "true")) (Some (boolean true)) _ (small_some n (boolean true) (omega (arith, size_boolean true)))
    (small_choose n (same w (ascii "false")) (Some (boolean false)) _ (small_some n (boolean false) (omega (arith, size_boolean false)))
    (small_choose n (same w (ascii "null")) (Some null) _ (small_some n null (omega (arith, size_null)))
    (small_or n (string_of w) _ (small_string_of n w l)
    (small_or n (choose (has_minus w) (number_of (unsigned w) minus_whole minus_decimal) (number_of w whole decimal)) _
    (small_choose n (has_minus w) (number_of (unsigned w) minus_whole minus_decimal) (number_of w whole decimal) (small_number n (unsigned w) minus_whole minus_decimal size_minus_whole size_minus_decimal) (small_number n w whole decimal size_whole size_decimal))
    (small_choose n _ None (Some (other w)) (small_none n) (small_some n (other w) (omega (arith, size_other w))))))))

kept_length : (c : ℕ) (w : Bytes) → length (kept c w) ≤ suc (length w)
unfolding kept choose
kept_length c [] = on (space c)
  where
    on : (b : Bool) → length (choose b [] (c ∷ [])) ≤ 1
    on true = omega arith
    on false = omega arith
kept_length c (d ∷ w) = omega arith

trimmed_length : (w : Bytes) → length (trimmed_end w) ≤ length w
unfolding trimmed_end
trimmed_length [] = omega arith
trimmed_length (c ∷ w) = omega (arith, kept_length c (trimmed_end w), trimmed_length w)

pub known_size : (w : Bytes) (k : Known) → known_of w ≡ Some k → length (expr_bytes (known_expr k)) ≤ 12 + length w
unfolding known_of Small size
known_size w k e = small_trimmed (length w) (trimmed_end w) (trimmed_length w) k e

-- ---- names

spaces_length : {s r : Bytes} → Spaces s r → length r ≤ length s
spaces_length no_space = omega arith
spaces_length (space_on t u) = omega (arith, spaces_length u)

run_length : {p : ℕ → Bool} {s w r : Bytes} → Run p s w r → length w + length r ≤ length s
run_length (run_ends e) = omega arith
run_length (run_on t u) = omega (arith, run_length u)

ident_length : {s w r : Bytes} → IsIdent s w r → (length w + length r ≤ length s) × (1 ≤ length w)
ident_length (ident t u) = (omega (arith, run_length u), omega arith)

texts : Name → Row
texts ps = texts_row 0x40 (idents ps)

texts_more : (d : ℕ) (w : Bytes) (ps : Name) → length (bytes (texts (part d w ∷ ps))) ≡ 3 + length w + length (bytes (texts ps))
unfolding texts texts_row idents
texts_more d w ps =
    ap length (L.one_field 0x40 w end (texts_row 0x40 (idents ps))) ∙
    length-append (bytes (field 0x40 w end end)) (bytes (texts_row 0x40 (idents ps))) ∙ ap (λ (k : ℕ). k + length (bytes (texts_row 0x40 (idents ps)))) (leaf_size 0x40 w)

parts_length : {s r : Bytes} {ps : Name} → IsParts s ps r → length (bytes (texts ps)) + 4 * length r ≤ 4 * length s
unfolding texts texts_row idents bytes
parts_length (no_parts u e) = omega (arith, spaces_length u)
parts_length (one_part {w = w} {d = d} {ps = ps} a b c i p) =
    omega (arith, spaces_length a, spaces_length c, (ident_length i).0, (ident_length i).1, parts_length p, texts_more d w ps)

no_texts : length (bytes (texts_row 0x40 [])) ≡ 0
unfolding texts_row bytes
no_texts = refl

texts_two : (w v : Bytes) (xs : List Bytes) → length (bytes (texts_row 0x40 (w ∷ v ∷ xs))) ≡ 6 + length w + length v + length (bytes (texts_row 0x40 xs))
unfolding texts_row
texts_two w v xs =
    let a = ap length (L.one_field 0x40 w end (field 0x40 v end (texts_row 0x40 xs))) ∙ length-append (bytes (field 0x40 w end end)) (bytes (field 0x40 v end (texts_row 0x40 xs))) in
    let b = ap length (L.one_field 0x40 v end (texts_row 0x40 xs)) ∙ length-append (bytes (field 0x40 v end end)) (bytes (texts_row 0x40 xs)) in
    omega (arith, a, b, leaf_size 0x40 w, leaf_size 0x40 v)

row_size : (t : ℕ) (x : Row) → length (bytes (field t [] x end)) ≡ 3 + length (bytes x)
row_size t x = ap length (L.field_alone t x) ∙ length_field_bytes t (bytes x)

two_or_more : (b : Bool) (w v : Bytes) (xs : List Bytes) → length (bytes (name_row (pick b (P.namespaced w v) (P.member (w ∷ v ∷ xs))) end)) ≤ 3 + length (bytes (texts_row 0x40 (w ∷ v ∷ xs)))
unfolding name_row
two_or_more true w v xs = omega (arith, row_size 0x42 (texts_row 0x40 (w ∷ v ∷ [])), texts_two w v [], texts_two w v xs, no_texts)
two_or_more false w v xs = omega (arith, row_size 0x41 (texts_row 0x40 (w ∷ v ∷ xs)))

name_row_length : (p : Part) (ps : Name) → length (name_bytes (p ∷ ps)) ≤ 3 + length (bytes (texts (p ∷ ps)))
unfolding name_bytes page_name name_row texts texts_row idents
name_row_length (part d w) [] = omega (arith, leaf_size 0x40 w)
name_row_length (part d w) (part e v ∷ ps) = two_or_more (eqb e 58) w v (idents ps)

pub name_size : {s r : Bytes} {n : Name} → IsName s n r → length (name_bytes n) + 4 * length r ≤ 4 * length s + 6
name_size (is_name {w = w} {ps = ps} i p) = omega (arith, (ident_length i).0, (ident_length i).1, parts_length p, texts_more 0 w ps, name_row_length (part 0 w) ps)
