-- A row of pages as the code walks it: what stands in front, where the row ends, and what a page's parts pass where they stand. Main statements:
-- `holds_row`, `front`, `first_of`, `none_of`, `raised_fine`, `raised_forms`, `down_none`. Assumes nothing.
use Prim.Native.Nat.{ℕ, zero, suc, ◌+◌, ◌-◌, ◌^◌, ◌≤◌, ◌<◌}
use mathlib.Core.Path.{◌≡◌, refl, sym, ap, ◌∙◌, subst}
use mathlib.Core.Bool.{true, false, ◌&&◌, true≢false}
use mathlib.Core.List.{List, [], ◌∷◌, ◌++◌}
use native.Mathlib.Omega.{arith}
use lib.Dec.{eqb}
use lib.ListN.{length, drop, replicate, get_or}
use Rattle.field.specs.Bytes.{Bytes}
use Rattle.field.specs.Number.{big_endian}
use Rattle.field.specs.Row.{read}
use Rattle.refusal.specs.Refusal.{Fine}
use Rattle.outs.specs.PageOut.{check_page_out}
use Rattle.outs.specs.Templates.{check_templates}
use Rattle.outs.specs.declared.Kind.TheVariants.{New}
use Rattle.convert.specs.Flat.{fields_in}
use Rattle.catalogue.specs.Page.{Body, Page, IsBytes, A14, Sound}
use Rattle.catalogue.specs.Catalogue.{page_then, row, row_size, size, build, page_right, lengths, four, body_in, behind_body, AllSound, one_sound, Holds}
use Rattle.catalogue.specs.Numbers.{up, down}
use Rattle.catalogue.specs.Judged.{judge, forms, project}
use Rattle.catalogue.proofs.Tests.{and_left}
use Rattle.catalogue.proofs.Parts.{length_page, read_four, body_in_lengths, behind_lengths_body, page_in_then, page_right_then, page_tail}
use Rattle.catalogue.proofs.Rows.{up_templates, up_page_out, up_bytes, down_bytes, down_up, up_down, lowers_by_rows}
use Rattle.catalogue.proofs.Numbered.{judge_exactly}
use Rattle.catalogue.proofs.InPlace.{Lowers}
use Rattle.catalogue.proofs.Project.{given}
use Rattle.catalogue_calls.specs.Standing.{housed, framed}
use Rattle.catalogue_calls.specs.Arrives.{head_of}
use Rattle.catalogue_calls.specs.Leaves.{Rowed}
use Rattle.catalogue_calls.proofs.PageLaws.{page_of, right_is}
use Rattle.catalogue_calls.proofs.JudgeLaws.{templates_down, page_out_down, forms_down, forms_counted}

-- ---- a page whose numbers are raised

-- so many numbers back, and none
pub down_none : (x : Body) → IsBytes x → down 0 x ≡ x
unfolding Lowers
down_none x a =
    let y : Body = down 1 x in
    let e : up 1 y ≡ x = up_down 1 x a in
    ap (down 0) (sym e) ∙ lowers_by_rows A14 (λ _. 0) forms 1 0 y (down_bytes 1 x a) refl ∙ e

module _ (n : ℕ) (x : Body) (a : IsBytes x) where
  back : down n (up n x) ≡ x
  back = down_up n x a

  pub raised_forms : forms (up n x) ≡ forms x
  raised_forms = sym (forms_down n (up n x) (up_bytes n x a)) ∙ ap forms back

  module _ (j : judge x ≡ 0) where
    pub raised_templates : check_templates New (up n x).templates ≡ Fine
    raised_templates = sym (templates_down n (up n x) (up_bytes n x a)) ∙ ap (λ (y : Body). check_templates New y.templates) back ∙ ((judge_exactly x).0 j).templates_are

    pub raised_page_out : check_page_out 4 (up n x).page_out ≡ Fine
    raised_page_out = sym (page_out_down n (up n x) (up_bytes n x a)) ∙ ap (λ (y : Body). check_page_out 4 y.page_out) back ∙ ((judge_exactly x).0 j).page_out_is

    pub raised_count : fields_in (read (up n x).templates) ≡ forms x
    raised_count = forms_counted (up n x) raised_templates ∙ raised_forms

-- ---- the front of a row

pub length_head : (name house lt lp : ℕ) → length (head_of name house lt lp) ≡ 14
unfolding big_endian
length_head name house lt lp = refl

-- a page is its head and its parts
pub page_parts : (n : ℕ) (p : Page) (r : Bytes)
    → page_then housed n p r ≡ head_of p.name p.house (length (up n p.body).templates) (length (up n p.body).page_out) ++ ((up n p.body).templates ++ ((up n p.body).page_out ++ r))
unfolding page_then big_endian project
page_parts n p r = refl

pub page_long : (n : ℕ) (p : Page) (r : Bytes) → length (page_then housed n p r) ≡ size housed p + length r
unfolding project
page_long n p r = length_page (given A14) n p r

pub size_is : (p : Page) → size housed p ≡ 14 + length p.body.templates + length p.body.page_out
unfolding size project
size_is p = omega arith

-- what a page in front says of itself
pub record Front (s : Bytes) (n : ℕ) (p : Page) (ps : List Page) (z : ℕ) : Type 0 where
  pub is_framed : framed s ≡ true
  pub is_sound : Sound housed p
  pub name_is : four (drop 1 s) ≡ p.name
  pub house_is : get_or s 5 0 ≡ p.house
  pub size_there : 14 + four (drop 6 s) + four (drop 10 s) ≡ size housed p
  pub body_is : body_in (drop 6 s) ≡ housed.up n p.body
  pub left : Rowed (behind_body (drop 6 s)) (n + housed.forms p.body) ps z
  pub page_is : s ≡ page_then housed n p (row housed (n + housed.forms p.body) ps (replicate z 0))
  pub long : length s ≡ size housed p + length (behind_body (drop 6 s))

module _ (n : ℕ) (p : Page) (ps : List Page) (z : ℕ) (q : Sound housed p) (a : AllSound housed ps) where
  r : Bytes
  r = row housed (n + housed.forms p.body) ps (replicate z 0)

  s : Bytes
  s = page_then housed n p r

  module _ (l : length s ≤ 16777216) where
    parts_short : (length (up n p.body).templates < 2 ^ 32) × (length (up n p.body).page_out < 2 ^ 32) × (size housed p < 2 ^ 32)
    unfolding s
    parts_short = (
      omega (arith, page_long n p r, size_is p, up_templates n p.body),
      omega (arith, page_long n p r, size_is p, up_page_out n p.body),
      omega (arith, page_long n p r),
    )

    at_lengths : drop 6 s ≡ lengths (up n p.body) r
    unfolding s page_then big_endian project
    at_lengths = refl

    at_second : drop 10 s ≡ big_endian 4 (length (up n p.body).page_out) [] ++ ((up n p.body).templates ++ ((up n p.body).page_out ++ r))
    unfolding s page_then big_endian project
    at_second = refl

    name_there : four (drop 1 s) ≡ p.name
    unfolding s page_then project
    name_there = read_four p.name (p.house ∷ lengths (up n p.body) r) q.four_bytes

    house_there : get_or s 5 0 ≡ p.house
    unfolding s page_then big_endian project
    house_there = refl

    sizes_there : 14 + four (drop 6 s) + four (drop 10 s) ≡ size housed p
    unfolding s
    sizes_there =
        let t : Bytes = (up n p.body).templates in
        let q : Bytes = (up n p.body).page_out in
        let i : four (drop 6 s) ≡ length t = ap four at_lengths ∙ read_four (length t) (big_endian 4 (length q) [] ++ (t ++ (q ++ r))) parts_short.0 in
        let j : four (drop 10 s) ≡ length q = ap four at_second ∙ read_four (length q) (t ++ (q ++ r)) parts_short.1 in
        omega (arith, i, j, size_is p, up_templates n p.body, up_page_out n p.body)

    framed_there : framed s ≡ true
    unfolding s page_then project
    framed_there =
        let b : Bytes = page_tail (given A14) n p r in
        let e : framed (0x97 ∷ b) && eqb (judge (page_of n (0x97 ∷ b)).body) 0 ≡ true = sym (right_is n 0x97 b refl) ∙ ap (page_right housed b) (page_in_then (given A14) n p r q parts_short.2) ∙ page_right_then (given A14) n p r q parts_short.2 in
        and_left (framed (0x97 ∷ b)) (eqb (judge (page_of n (0x97 ∷ b)).body) 0) e

    left_there : behind_body (drop 6 s) ≡ r
    left_there = ap behind_body at_lengths ∙ behind_lengths_body (up n p.body) r parts_short.0 parts_short.1

    front_there : Front s n p ps z
    unfolding r s project
    front_there = record {
      is_framed = framed_there;
      is_sound = q;
      name_is = name_there;
      house_is = house_there;
      size_there = sizes_there;
      body_is = ap body_in at_lengths ∙ body_in_lengths (up n p.body) r parts_short.0 parts_short.1;
      left = record { short = omega (arith, page_long n p r, ap length left_there); all_sound = a; row_is = left_there };
      page_is = refl;
      long = page_long n p r ∙ ap (λ (x : Bytes). size housed p + length x) (sym left_there);
    }

pub front : {s : Bytes} {n z : ℕ} {p : Page} {ps : List Page} → Rowed s n (p ∷ ps) z → Front s n p ps z
unfolding row r s
front {s} {n} {z} {p} {ps} w = on w.all_sound
  where
    on : AllSound housed (p ∷ ps) → Front s n p ps z
    on (one_sound q a) = subst (λ (b : Bytes). Front b n p ps z) (sym w.row_is) (front_there n p ps z q a (subst (λ (b : Bytes). length b ≤ 16777216) w.row_is w.short))

zeros_unframed : (z : ℕ) → framed (replicate z 0) ≡ false
unfolding framed
zeros_unframed zero = refl
zeros_unframed (suc z) = refl

pub row_none : {s : Bytes} {n z : ℕ} → Rowed s n [] z → framed s ≡ false
unfolding row
row_none {s} {n} {z} w = ap framed w.row_is ∙ zeros_unframed z

-- ---- where the row goes on, and where it ends

pub record First (ps : List Page) : Type 0 where
  pub page : Page
  pub later : List Page
  pub all_is : ps ≡ page ∷ later

pub first_of : {s : Bytes} {n z : ℕ} (ps : List Page) → Rowed s n ps z → framed s ≡ true → First ps
first_of [] w f = absurd (true≢false (sym f ∙ row_none w))
first_of (p ∷ ps) w f = record { page = p; later = ps; all_is = refl }

pub none_of : {s : Bytes} {n z : ℕ} (ps : List Page) → Rowed s n ps z → framed s ≡ false → ps ≡ []
none_of [] w f = refl
none_of (p ∷ ps) w f = absurd (true≢false (sym (front w).is_framed ∙ f))

pub holds_row : (b : Bytes) (ps : List Page) → Holds housed b ps → Rowed b 0 ps (length b - row_size housed ps)
unfolding build
holds_row b ps h = record { short = h.short; all_sound = h.all_sound; row_is = h.is_built }
