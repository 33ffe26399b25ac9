-- Templates out are accepted exactly from the bytes of a tree, and no two trees have the same.
-- Main statements: `templates_exactly`, `encode_templates_injective`, `templates_accepted`. Assumes nothing.
use mathlib.Core.Path.{◌≡◌, refl, sym, ap, ap₂, ◌∙◌, subst}
use mathlib.Core.Bool.{Bool, true, false, ◌&&◌}
use mathlib.Core.Logic.{◌↔◌}
use Prim.Native.Nat.{ℕ, zero, suc, ◌+◌, ◌^◌, ◌≤◌, ◌<◌}
use native.Mathlib.Omega.{arith}
use mathlib.Core.List.{List, [], ◌∷◌, ◌++◌}
use lib.Dec.{T, leb, eqb, leb→le, le→leb, eqb→eq, eqb_refl}
use lib.ListN.{length, take, drop, length-append, length-drop, take-append-drop}
use lib.Seq.{take_at, drop_at, drop-drop, length-take-le}
use borrow.Author.Tests.{eqb-true, eqb-false}
use Rattle.field.specs.Bytes.{Bytes, AllBytes, pick}
use Rattle.field.specs.Number.{big_endian, number_of}
use Rattle.field.specs.Row.{Row, end, loose, field, bytes, inside, read}
use Rattle.field.proofs.NumberLaws.{length_big_endian, big_endian_append, number_read, all_take, all_drop, all_big_endian}
use Rattle.field.proofs.RowLaws.{FrontFits, Shaped, Sane, front_full, front_counted, read_back, bytes_injective, bytes_read, read_sane, not_long, sane_bytes}
use Rattle.page.specs.Tree.{texts_in}
use Rattle.page.specs.Encode.{texts_row}
use Rattle.page.specs.Limits.{TextsOk}
use Rattle.refusal.specs.Refusal.{Fine}
use Rattle.refusal.specs.declared.Refusal.TheVariants as R
use Rattle.refusal.proofs.Verdicts.{refused, after_fine, unless_fine, fine_after, fine_unless}
use Rattle.page.proofs.Booleans.{and_both, both_and}
use Rattle.page.proofs.TightRows.{tight_sane, short_parts}
use Rattle.page.proofs.Bodies.{leaf_row, tag_is, text_ok, fine_text, texts_back, texts_tight}
use Rattle.outs.specs.Templates.{record_tag, count_of, all_kinds, front_of_record, check_strings, check_any_strings, check_some_strings, check_strings_of, check_records, check_templates}
use Rattle.outs.specs.Tree.{Gap, attribute_gap, child_gap, OldTemplate, NewTemplate, Template, ProperTemplate, ProperTemplates}
use Rattle.outs.specs.Encode.{Sayable, gap_byte, gap_bytes, template_row, templates_row, encode_templates, TemplatesOk}
use Rattle.outs.specs.declared.Kind.{Kind}
use Rattle.outs.specs.declared.Kind.TheVariants.{Old, New}
use Rattle.outs.proofs.Parts.{sayable, number_below, number_back}

-- ---- strings

-- one more in front
strings_more : (t : ℕ) (f : Bytes) (i r : Row) (xs : List Bytes) → FrontFits (inside t) f i → T (eqb t 0x81) → texts_row 0x81 xs ≡ r → texts_row 0x81 (f ∷ xs) ≡ field t f i r
unfolding texts_row inside
strings_more t f i r xs h e p = ap (λ (x : Row). field 0x81 f end x) p ∙ tag_is t 0x81 f i r (field 0x81 f end r) e (leaf_row 0x81 f i r) h

any_sound : (x : Row) → Sane x → check_any_strings x ≡ Fine → (xs : List Bytes) × (texts_row 0x81 xs ≡ x) × TextsOk xs
unfolding check_any_strings texts_row TextsOk Sane
any_sound end s e = ([], refl, tt)
any_sound (loose b) s e = refused R.Truncated e
any_sound (field t f i r) s e =
    let a = after_fine _ _ e in
    let b = after_fine _ _ a.1 in
    let m = any_sound r s.3 b.1 in
    (f ∷ m.0, strings_more t f i r m.0 s.0 (unless_fine (eqb t 0x81) R.Misplaced a.0) m.1, (text_ok f b.0, m.2))

some_long : (xs : List Bytes) (t : ℕ) (f : Bytes) (i r : Row) → texts_row 0x81 xs ≡ field t f i r → 1 ≤ length xs
unfolding texts_row
some_long [] t f i r e = absurd (let z : ◌≡◌ {A = ℕ} 0 1 = cc in omega arith)
some_long (x ∷ xs) t f i r e = omega arith

some_sound : (x : Row) → Sane x → check_some_strings x ≡ Fine → (xs : List Bytes) × (texts_row 0x81 xs ≡ x) × (1 ≤ length xs) × TextsOk xs
unfolding check_some_strings
some_sound end s e = refused R.Misplaced e
some_sound (loose b) s e = refused R.Truncated e
some_sound (field t f i r) s e =
    let m = any_sound (field t f i r) s e in
    (m.0, m.1, some_long m.0 t f i r m.1, m.2)

counted_sound : (k : ℕ) (x : Row) → Sane x → check_strings k x ≡ Fine → (xs : List Bytes) × (texts_row 0x81 xs ≡ x) × (length xs ≡ k) × TextsOk xs
unfolding check_strings texts_row TextsOk Sane
counted_sound zero end s e = ([], refl, refl, tt)
counted_sound zero (loose b) s e = refused R.Truncated e
counted_sound zero (field t f i r) s e = refused R.Misplaced e
counted_sound (suc k) end s e = refused R.Misplaced e
counted_sound (suc k) (loose b) s e = refused R.Truncated e
counted_sound (suc k) (field t f i r) s e =
    let a = after_fine _ _ e in
    let b = after_fine _ _ a.1 in
    let m = counted_sound k r s.3 b.1 in
    (f ∷ m.0, strings_more t f i r m.0 s.0 (unless_fine (eqb t 0x81) R.Misplaced a.0) m.1, ap suc m.2, (text_ok f b.0, m.3))

any_fine : (xs : List Bytes) → TextsOk xs → check_any_strings (texts_row 0x81 xs) ≡ Fine
unfolding check_any_strings texts_row TextsOk
any_fine [] h = refl
any_fine (x ∷ xs) h = fine_after _ _ refl (fine_after _ _ (fine_text x h.0) (any_fine xs h.1))

some_fine : (xs : List Bytes) → 1 ≤ length xs → TextsOk xs → check_some_strings (texts_row 0x81 xs) ≡ Fine
some_fine [] l h = absurd (omega arith)
some_fine (x ∷ xs) l h = unfold check_some_strings texts_row in any_fine (x ∷ xs) h

counted_fine : (k : ℕ) (xs : List Bytes) → length xs ≡ k → TextsOk xs → check_strings k (texts_row 0x81 xs) ≡ Fine
unfolding check_strings texts_row TextsOk
counted_fine zero [] l h = refl
counted_fine zero (x ∷ xs) l h = absurd (omega arith)
counted_fine (suc k) [] l h = absurd (omega arith)
counted_fine (suc k) (x ∷ xs) l h = fine_after _ _ refl (fine_after _ _ (fine_text x h.0) (counted_fine k xs (omega arith) h.1))

strings_sane : (xs : List Bytes) → TextsOk xs → Sane (texts_row 0x81 xs)
strings_sane xs h = unfold Sane in tight_sane inside (texts_row 0x81 xs) (texts_tight 0x81 (λ x. unfold FrontFits inside in tt) tt xs h)

strings_shaped : (xs : List Bytes) → Shaped (texts_row 0x81 xs)
unfolding texts_row Shaped inside FrontFits
strings_shaped [] = tt
strings_shaped (x ∷ xs) = (tt, tt, strings_shaped xs)

-- ---- gaps

gap_sound : (c : ℕ) → T (leb 1 c && leb c 2) → (g : Gap) × (gap_byte g ≡ c)
gap_sound c h = on (eqb c 1) refl
  where
    on : (b : Bool) → eqb c 1 ≡ b → (g : Gap) × (gap_byte g ≡ c)
    on true e = (attribute_gap, sym (eqb-true c 1 e))
    on false e =
        let k = and_both (leb 1 c) (leb c 2) h in
        let z : 2 ≡ c = omega (arith, eqb-false c 1 e, leb→le 1 c k.0, leb→le c 2 k.1) in
        (child_gap, z)

gaps_sound : (b : Bytes) → T (all_kinds b) → (gs : List Gap) × (gap_bytes gs ≡ b)
unfolding all_kinds gap_bytes
gaps_sound [] h = ([], refl)
gaps_sound (c ∷ b) h =
    let k = and_both (leb 1 c && leb c 2) (all_kinds b) h in
    let g = gap_sound c k.0 in
    let m = gaps_sound b k.1 in
    (g.0 ∷ m.0, ap₂ (λ (x : ℕ) (y : Bytes). x ∷ y) g.1 m.1)

gaps_fine : (gs : List Gap) → T (all_kinds (gap_bytes gs))
unfolding all_kinds gap_bytes
gaps_fine [] = tt
gaps_fine (attribute_gap ∷ gs) = gaps_fine gs
gaps_fine (child_gap ∷ gs) = gaps_fine gs

length_gaps : (gs : List Gap) → length (gap_bytes gs) ≡ length gs
unfolding gap_bytes
length_gaps [] = refl
length_gaps (g ∷ gs) = ap suc (length_gaps gs)

gaps_all : (gs : List Gap) → AllBytes (gap_bytes gs)
unfolding gap_bytes AllBytes
gaps_all [] = tt
gaps_all (attribute_gap ∷ gs) = let z : 1 < 256 = omega arith in (z, gaps_all gs)
gaps_all (child_gap ∷ gs) = let z : 2 < 256 = omega arith in (z, gaps_all gs)

abbrev gap_in : ℕ → Gap
gap_in c = pick (eqb c 1) attribute_gap child_gap

unfoldable gaps_in : Bytes → List Gap
gaps_in [] = []
gaps_in (c ∷ cs) = gap_in c ∷ gaps_in cs

gaps_back : (gs : List Gap) → gaps_in (gap_bytes gs) ≡ gs
unfolding gap_bytes gaps_in
gaps_back [] = refl
gaps_back (attribute_gap ∷ gs) = ap (λ (x : List Gap). attribute_gap ∷ x) (gaps_back gs)
gaps_back (child_gap ∷ gs) = ap (λ (x : List Gap). child_gap ∷ x) (gaps_back gs)

-- ---- the front of an 84

abbrev new_front : ℕ → List Gap → Bytes
new_front n gs = big_endian 4 n (big_endian 2 (length gs) (gap_bytes gs))

-- the front that is written, in its parts
module _ (n : ℕ) (gs : List Gap) where
  behind_number : drop 4 (new_front n gs) ≡ big_endian 2 (length gs) (gap_bytes gs)
  behind_number =
      let w : Bytes = big_endian 2 (length gs) (gap_bytes gs) in
      ap (drop 4) (big_endian_append 4 n w) ∙ drop_at (big_endian 4 n []) w 4 (length_big_endian 4 n [])

  number_first : take 4 (new_front n gs) ≡ big_endian 4 n []
  number_first =
      let w : Bytes = big_endian 2 (length gs) (gap_bytes gs) in
      ap (take 4) (big_endian_append 4 n w) ∙ take_at (big_endian 4 n []) w 4 (length_big_endian 4 n [])

  count_first : take 2 (drop 4 (new_front n gs)) ≡ big_endian 2 (length gs) []
  count_first = ap (take 2) (behind_number ∙ big_endian_append 2 (length gs) (gap_bytes gs)) ∙ take_at (big_endian 2 (length gs) []) (gap_bytes gs) 2 (length_big_endian 2 (length gs) [])

  behind_count : drop 6 (new_front n gs) ≡ gap_bytes gs
  behind_count =
      sym (drop-drop 2 4 (new_front n gs)) ∙ ap (drop 2) (behind_number ∙ big_endian_append 2 (length gs) (gap_bytes gs))
      ∙ drop_at (big_endian 2 (length gs) []) (gap_bytes gs) 2 (length_big_endian 2 (length gs) [])

  length_new : length (new_front n gs) ≡ 6 + length gs
  length_new = omega (arith, length_big_endian 4 n (big_endian 2 (length gs) (gap_bytes gs)), length_big_endian 2 (length gs) (gap_bytes gs), length_gaps gs)

  module _ (l : length (new_front n gs) ≤ 65535) where
    count_is : count_of (new_front n gs) ≡ length gs
    count_is = ap number_of count_first ∙ number_read 2 (length gs) (omega (arith, length_new))

    front_fine : T (front_of_record New (new_front n gs))
    unfolding front_of_record
    front_fine =
        let f : Bytes = new_front n gs in
        both_and (leb 6 (length f)) (eqb (length f) (6 + count_of f) && all_kinds (drop 6 f)) (le→leb 6 (length f) (omega (arith, length_new)))
        (both_and (eqb (length f) (6 + count_of f)) (all_kinds (drop 6 f)) (subst (λ (x : ℕ). T (eqb (length f) x)) (length_new ∙ ap (λ (x : ℕ). 6 + x) (sym count_is)) (eqb_refl (length f)))
        (subst (λ (x : Bytes). T (all_kinds x)) (sym behind_count) (gaps_fine gs)))

-- a front that is accepted is such a one
record NewFront (f : Bytes) : Type 0 where
  number : ℕ
  gaps : List Gap
  front_is : new_front number gaps ≡ f
  below : number < 256 ^ 4
  count : length gaps ≡ count_of f

new_front_sound : (f : Bytes) → AllBytes f → T (front_of_record New f) → NewFront f
unfolding front_of_record
new_front_sound f a h =
    let p = and_both (leb 6 (length f)) (eqb (length f) (6 + count_of f) && all_kinds (drop 6 f)) h in
    let q = and_both (eqb (length f) (6 + count_of f)) (all_kinds (drop 6 f)) p.1 in
    let l : 6 ≤ length f = leb→le 6 (length f) p.0 in
    let m : length f ≡ 6 + count_of f = eqb→eq (length f) (6 + count_of f) q.0 in
    let g = gaps_sound (drop 6 f) q.1 in
    let gs : List Gap = g.0 in
    let c : length gs ≡ count_of f = omega (arith, length_gaps gs, ap length g.1, length-drop 6 f) in
    let four : length (take 4 f) ≡ 4 = length-take-le 4 f (omega arith) in
    let two : length (take 2 (drop 4 f)) ≡ 2 = length-take-le 2 (drop 4 f) (omega (arith, length-drop 4 f)) in
    let n : ℕ = number_of (take 4 f) in
    let x : big_endian 4 n [] ≡ take 4 f = number_back (take 4 f) 4 (all_take 4 f a) four in
    let y : big_endian 2 (length gs) [] ≡ take 2 (drop 4 f) = ap (λ (z : ℕ). big_endian 2 z []) c ∙ number_back (take 2 (drop 4 f)) 2 (all_take 2 (drop 4 f) (all_drop 4 f a)) two in
    let z : big_endian 2 (length gs) (gap_bytes gs) ≡ drop 4 f =
    big_endian_append 2 (length gs) (gap_bytes gs) ∙ ap₂ (λ (u v : Bytes). u ++ v) y (g.1 ∙ sym (drop-drop 2 4 f)) ∙ take-append-drop 2 (drop 4 f) in
    record {
      number = n;
      gaps = gs;
      front_is = big_endian_append 4 n (big_endian 2 (length gs) (gap_bytes gs)) ∙ ap₂ (λ (u v : Bytes). u ++ v) x z ∙ take-append-drop 4 f;
      below = number_below (take 4 f) 4 (all_take 4 f a) four;
      count = c;
    }

-- ---- a template

record_sound : (k : Kind) (t : ℕ) (f : Bytes) (i : Row) → T (eqb t (record_tag k)) → AllBytes f → Sane i → T (front_of_record k f) → check_strings_of k f i ≡ Fine →
    (x : Template k) × ((r : Row) → template_row k x r ≡ field t f i r) × ProperTemplate k x
unfolding front_of_record check_strings_of template_row ProperTemplate
record_sound Old t f i h a s c e =
    let l : length f ≡ 2 = eqb→eq (length f) 2 c in
    let m = some_sound i s e in (
      record { number = number_of f; strings = m.0 },
      λ r. ap₂ (λ (x : Bytes) (y : Row). field 0x80 x y r) (number_back f 2 a l) m.1 ∙ ap (λ (u : ℕ). field u f i r) (sym (eqb→eq t 0x80 h)),
      (number_below f 2 a l, m.2, m.3),
    )
record_sound New t f i h a s c e =
    let n = new_front_sound f a c in
    let m = counted_sound (suc (count_of f)) i s e in (
      record { number = n.number; gaps = n.gaps; strings = m.0 },
      λ r. ap₂ (λ (x : Bytes) (y : Row). field 0x84 x y r) n.front_is m.1 ∙ ap (λ (u : ℕ). field u f i r) (sym (eqb→eq t 0x84 h)),
      (n.below, m.2 ∙ ap suc (sym n.count), m.3),
    )

record_fine : (k : Kind) (x : Template k) (r : Row) → ProperTemplate k x → Sayable (template_row k x r) → check_records k r ≡ Fine → check_records k (template_row k x r) ≡ Fine
unfolding check_records check_strings_of template_row ProperTemplate
record_fine Old x r h l e =
    let f : Bytes = big_endian 2 x.number [] in
    let k : T (front_of_record Old f) = unfold front_of_record in subst (λ (n : ℕ). T (eqb n 2)) (sym (length_big_endian 2 x.number [])) tt in
    fine_after _ _ refl (fine_after _ _ (fine_unless (front_of_record Old f) R.Misplaced k) (fine_after _ _ (some_fine x.strings h.1 h.2) e))
record_fine New x r h l e =
    let f : Bytes = new_front x.number x.gaps in
    let p = short_parts 0x84 f (texts_row 0x81 x.strings) r l in
    let m : length f ≤ 65535 = omega (arith, p.0, length-append f (bytes (texts_row 0x81 x.strings))) in
    fine_after _ _ refl (fine_after _ _ (fine_unless (front_of_record New f) R.Misplaced (front_fine x.number x.gaps m))
    (fine_after _ _ (counted_fine (suc (count_of f)) x.strings (h.1 ∙ ap suc (sym (count_is x.number x.gaps m))) h.2) e))

record_fits : (k : Kind) (x : Template k) (r : Row) → Sayable (template_row k x r) → Shaped r → Shaped (template_row k x r)
unfolding template_row Shaped inside
record_fits Old x r l s = (front_full 2 (big_endian 2 x.number []) (texts_row 0x81 x.strings) (length_big_endian 2 x.number []), strings_shaped x.strings, s)
record_fits New x r l s =
    let f : Bytes = new_front x.number x.gaps in
    let p = short_parts 0x84 f (texts_row 0x81 x.strings) r l in
    let m : length f ≤ 65535 = omega (arith, p.0, length-append f (bytes (texts_row 0x81 x.strings))) in
    let c : length f ≡ 4 + 2 + count_of f = length_new x.number x.gaps ∙ ap (λ (n : ℕ). 6 + n) (sym (count_is x.number x.gaps m)) in
    (front_counted 4 f (texts_row 0x81 x.strings) c, strings_shaped x.strings, s)

record_sane : (k : Kind) (x : Template k) (r : Row) → ProperTemplate k x → Shaped (template_row k x r) → Sane r → Sane (template_row k x r)
unfolding template_row ProperTemplate Shaped Sane inside AllBytes
record_sane Old x r h s q = let z : 0x80 < 256 = omega arith in (s.0, all_big_endian 2 x.number [] tt, strings_sane x.strings h.2, q, z)
record_sane New x r h s q = let z : 0x84 < 256 = omega arith in (s.0, all_big_endian 4 x.number (big_endian 2 (length x.gaps) (gap_bytes x.gaps)) (all_big_endian 2 (length x.gaps) (gap_bytes x.gaps) (gaps_all x.gaps)), strings_sane x.strings h.2, q, z)

-- read back
unfoldable template_in : (k : Kind) → Bytes → Row → Template k
template_in Old f i = record { number = number_of f; strings = texts_in 0x81 i }
template_in New f i = record { number = number_of (take 4 f); gaps = gaps_in (drop 6 f); strings = texts_in 0x81 i }

unfoldable templates_in : (k : Kind) → Row → List (Template k)
templates_in k end = []
templates_in k (loose b) = []
templates_in k (field t f i r) = template_in k f i ∷ templates_in k r

record_back : (k : Kind) (x : Template k) (r : Row) → ProperTemplate k x → templates_in k (template_row k x r) ≡ x ∷ templates_in k r
unfolding template_row ProperTemplate templates_in template_in
record_back Old x r h =
    ap₂ (λ (n : ℕ) (ss : List Bytes). let y : OldTemplate = record { number = n; strings = ss } in let l : List OldTemplate = y ∷ templates_in Old r in l)
    (number_read 2 x.number h.0) (texts_back 0x81 x.strings)
record_back New x r h =
    let f : Bytes = new_front x.number x.gaps in
    let a : number_of (take 4 f) ≡ x.number = ap number_of (number_first x.number x.gaps) ∙ number_read 4 x.number h.0 in
    let b : gaps_in (drop 6 f) ≡ x.gaps = ap gaps_in (behind_count x.number x.gaps) ∙ gaps_back x.gaps in
    let made = λ (n : ℕ) (gs : List Gap) (ss : List Bytes). let y : NewTemplate = record { number = n; gaps = gs; strings = ss } in let l : List NewTemplate = y ∷ templates_in New r in l in
    ap₂ (λ (n : ℕ) (gs : List Gap). made n gs (texts_in 0x81 (texts_row 0x81 x.strings))) a b ∙ ap (λ (ss : List Bytes). made x.number x.gaps ss) (texts_back 0x81 x.strings)

-- ---- all of them

behind_record : (k : Kind) (x : Template k) (r : Row) → Sayable (template_row k x r) → Sayable r
unfolding template_row
behind_record Old x r l = (short_parts 0x80 (big_endian 2 x.number []) (texts_row 0x81 x.strings) r l).2
behind_record New x r l = (short_parts 0x84 (new_front x.number x.gaps) (texts_row 0x81 x.strings) r l).2

templates_sound : (k : Kind) (x : Row) → Sane x → check_records k x ≡ Fine → (ts : List (Template k)) × (templates_row k ts ≡ x) × ProperTemplates k ts
unfolding check_records templates_row ProperTemplates Sane
templates_sound k end s e = ([], refl, tt)
templates_sound k (loose b) s e = refused R.Truncated e
templates_sound k (field t f i r) s e =
    let a = after_fine _ _ e in
    let b = after_fine _ _ a.1 in
    let c = after_fine _ _ b.1 in
    let m = record_sound k t f i (unless_fine (eqb t (record_tag k)) R.Misplaced a.0) s.1 s.2 (unless_fine (front_of_record k f) R.Misplaced b.0) c.0 in
    let q = templates_sound k r s.3 c.1 in
    (m.0 ∷ q.0, m.1 (templates_row k q.0) ∙ ap (λ (y : Row). field t f i y) q.1, (m.2, q.2))

templates_fine : (k : Kind) (ts : List (Template k)) → ProperTemplates k ts → Sayable (templates_row k ts) → check_records k (templates_row k ts) ≡ Fine
unfolding templates_row ProperTemplates
templates_fine k [] h l = unfold check_records in refl
templates_fine k (t ∷ ts) h l = record_fine k t (templates_row k ts) h.0 l (templates_fine k ts h.1 (behind_record k t (templates_row k ts) l))

templates_shaped : (k : Kind) (ts : List (Template k)) → Sayable (templates_row k ts) → Shaped (templates_row k ts)
unfolding templates_row
templates_shaped k [] l = unfold Shaped in tt
templates_shaped k (t ∷ ts) l = record_fits k t (templates_row k ts) l (templates_shaped k ts (behind_record k t (templates_row k ts) l))

templates_sane : (k : Kind) (ts : List (Template k)) → ProperTemplates k ts → Sayable (templates_row k ts) → Sane (templates_row k ts)
unfolding templates_row ProperTemplates
templates_sane k [] h l = unfold Sane in tt
templates_sane k (t ∷ ts) h l = record_sane k t (templates_row k ts) h.0 (templates_shaped k (t ∷ ts) l) (templates_sane k ts h.1 (behind_record k t (templates_row k ts) l))

templates_back : (k : Kind) (ts : List (Template k)) → ProperTemplates k ts → templates_in k (templates_row k ts) ≡ ts
unfolding templates_row ProperTemplates
templates_back k [] h = unfold templates_in in refl
templates_back k (t ∷ ts) h = record_back k t (templates_row k ts) h.0 ∙ ap (λ (x : List (Template k)). t ∷ x) (templates_back k ts h.1)

-- ---- on bytes

module _ (k : Kind) where
  -- exactly the bytes of trees are accepted
  pub templates_exactly : (b : Bytes) → AllBytes b → (check_templates k b ≡ Fine) ↔ ((ts : List (Template k)) × (b ≡ encode_templates k ts) × TemplatesOk k ts)
  unfolding check_templates encode_templates TemplatesOk
  templates_exactly b a = (
    λ e.
        let m = templates_sound k (read b) (read_sane b a) e in
        (m.0, sym (bytes_read b a) ∙ ap bytes (sym m.1), (m.2, subst Sayable (sym m.1) (sayable (read b) (not_long b a)))),
    λ q.
        let h = q.2 in
        let is : read b ≡ templates_row k q.0 = ap read q.1 ∙ read_back (templates_row k q.0) (templates_shaped k q.0 h.1) h.1 in
        ap (check_records k) is ∙ templates_fine k q.0 h.0 h.1,
  )

  -- a tree's bytes are bytes, and accepted
  pub templates_accepted : (ts : List (Template k)) → TemplatesOk k ts → AllBytes (encode_templates k ts) × (check_templates k (encode_templates k ts) ≡ Fine)
  templates_accepted ts h =
      let a : AllBytes (encode_templates k ts) = unfold encode_templates TemplatesOk in sane_bytes (templates_row k ts) (templates_sane k ts h.0 h.1) in
      (a, (templates_exactly (encode_templates k ts) a).1 (ts, refl, h))

  -- accepted bytes have one tree
  pub encode_templates_injective : (ts us : List (Template k)) → TemplatesOk k ts → TemplatesOk k us → encode_templates k ts ≡ encode_templates k us → ts ≡ us
  unfolding encode_templates TemplatesOk
  encode_templates_injective ts us h i e =
      let rows : templates_row k ts ≡ templates_row k us = bytes_injective (templates_row k ts) (templates_row k us) (templates_shaped k ts h.1) h.1 (templates_shaped k us i.1) i.1 e in
      sym (templates_back k ts h.0) ∙ ap (templates_in k) rows ∙ templates_back k us i.0
