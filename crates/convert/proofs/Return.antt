-- 02, A7: templates and page out, unchanged, come back byte for byte by up and down, and by down and up, wherever both are given.
-- Main statements: `up_and_down`, `down_and_up`; on rows `templates_down`, `templates_up`, `page_returns`. Assumes nothing.
use mathlib.Core.Path.{◌≡◌, refl, sym, ap, ap₂, ◌∙◌, subst}
use mathlib.Core.Bool.{Bool, true, false, ◌&&◌, ◌||◌, not, false≢true}
use mathlib.Core.Option.{Option, none, some}
use Prim.Native.Nat.{ℕ, zero, suc, ◌+◌, ◌≤◌}
use native.Mathlib.Omega.{arith}
use mathlib.Core.List.{[], ◌∷◌, ◌++◌}
use lib.Dec.{T, eqb, leb, ltb, nltb→le}
use lib.ListN.{length, take, drop, length-append, length-drop, take-append-drop}
use lib.Seq.{length-take-le}
use borrow.Author.Tests.{eqb-true, leb-true, ltb-false, le-ltb}
use Rattle.std.proofs.lemmas.Bool.{and_parts, or_parts, not-true}
use Rattle.std.proofs.lemmas.Float.{T_from_false}
use Rattle.field.specs.Bytes.{Bytes, AllBytes, pick, same}
use Rattle.field.specs.Number.{big_endian, number_from, number_of}
use Rattle.field.specs.Row.{Row, end, loose, field, bytes, long_body, Inside, only_bytes, fields_after, counted, counted_front, inside, read}
use Rattle.field.proofs.NumberLaws.{length_big_endian, big_endian_append, big_endian_back, two_read, four_read, all_take, all_drop}
use Rattle.field.proofs.Reading.{FrontFits, ShapedBy, SaneBy, front_full, front_counted, back, shaped, sane, written}
use Rattle.field.proofs.RowLaws.{Shaped, Sane, read_back, read_shaped, read_sane, bytes_read}
use Rattle.refusal.specs.Refusal.{Fine, verdict_number}
use Rattle.refusal.proofs.Verdicts.{verdict_fine}
use Rattle.page.proofs.TightRows.{short_parts}
use Rattle.names.proofs.CompareLaws.{same_eq}
use Rattle.outs.specs.Held.{nests, held, read_out}
use Rattle.outs.specs.PageOut.{left, within, front_right, good, check_page_out}
use Rattle.outs.specs.Renumber.{renumbered_front, renumbered, has_wide}
use Rattle.outs.specs.Templates.{count_of, check_templates}
use Rattle.outs.specs.declared.Expect.{Expect}
use Rattle.outs.specs.declared.Expect.TheVariants as E
use Rattle.outs.specs.declared.Kind.{Kind}
use Rattle.outs.specs.declared.Kind.TheVariants.{Old, New}
use Rattle.spec.specs.Demand.{strings_in}
use Rattle.convert.specs.Convert.{Written, Outcome, refused, converted, past, number_unless, raised, lowered, upgraded, downgraded}
use Rattle.convert.specs.Convert as C
use Rattle.convert.specs.Flat.{same_kinds, all_clear, all_bodies_clear, body_clear}
use Rattle.convert.specs.declared.kinds.Markup.TheVariants as M
use Rattle.convert.proofs.RecordLaws.{Sound, NewFront, by_marks, rewritten_front, rewritten, rest_sound, record_of, old_front, new_front, new_clear, new_counts, agrees_is, raised_is, lowered_is, records_not}
use Rattle.convert.proofs.TemplateLaws.{sound_read}
use Rattle.convert.proofs.PageLaws.{leaf_alone, leaf_grows, rest_fine, nest_fine}

-- ---- numbers of calls

-- a number of two bytes
pub two_low : (f : Bytes) → length f ≡ 2 → AllBytes f → number_of f ≤ 65535
unfolding number_from AllBytes
two_low [] h a = absurd (omega arith)
two_low (x ∷ []) h a = absurd (omega arith)
two_low (x ∷ y ∷ []) h a = omega (arith, a.0, a.1.0)
two_low (x ∷ y ∷ z ∷ f) h a = absurd (omega arith)

-- a page out with numbers of two bytes has no wide one
narrow_front : (t : ℕ) (f : Bytes) (b : Bool) → eqb t 0x90 ≡ b → front_right 2 t f ≡ true → AllBytes f → (eqb t 0x90 && ltb 65535 (number_of f)) ≡ false
narrow_front t f true q g a =
    let l : length f ≡ 2 = eqb-true (length f) 2 (subst (λ (b : Bool). pick b (eqb (length f) 2) true ≡ true) q g) in
    rw (q, le-ltb 65535 (number_of f) (two_low f l a))
narrow_front t f false q g a = rw q

narrow_leaf : (t : ℕ) (f : Bytes) → nests t ≡ false → (eqb t 0x90 && ltb 65535 (number_of f)) ≡ false
narrow_leaf t f h = on (eqb t 0x90) refl
  where
    on : (b : Bool) → eqb t 0x90 ≡ b → (eqb t 0x90 && ltb 65535 (number_of f)) ≡ false
    on true q = absurd (false≢true (sym h ∙ ap nests (eqb-true t 0x90 q)))
    on false q = rw q

narrow_field : (t : ℕ) (f : Bytes) (i r : Row) (c : Expect) → FrontFits (held 2 t) f i → AllBytes f → good 2 c (field t f i r) ≡ Fine → (good 2 (within t) i ≡ Fine → has_wide i ≡ false) → (b : Bool) → nests t ≡ b → ((eqb t 0x90 && ltb 65535 (number_of f)) || has_wide i) ≡ false
narrow_field t f i r c s a g ih true q =
    let p = nest_fine 2 c t f i r g q in
    rw (narrow_front t f (eqb t 0x90) refl p.0 a, ih p.1)
narrow_field t f i r c s a g ih false q =
    let e : has_wide i ≡ false = ap has_wide (leaf_alone 2 t f i q s) ∙ none_wide in
    rw (narrow_leaf t f q, e)
  where
    none_wide : has_wide end ≡ false
    none_wide = unfold has_wide in refl

or_or : (a b c : Bool) → (a || b) ≡ false → c ≡ false → (a || (b || c)) ≡ false
or_or true b c h g = absurd (false≢true (sym h))
or_or false true c h g = absurd (false≢true (sym h))
or_or false false c h g = g

pub narrow : (c : Expect) (y : Row) → SaneBy (held 2) y → good 2 c y ≡ Fine → has_wide y ≡ false
unfolding has_wide
narrow c end s g = refl
narrow c (loose b) s g = refl
narrow c (field t f i r) s g =
    or_or (eqb t 0x90 && ltb 65535 (number_of f)) (has_wide i) (has_wide r) (narrow_field t f i r c s.0 s.1 g (λ z. narrow (within t) i s.2 z) (nests t) refl) (narrow (left c t) r s.3 (rest_fine 2 c t f i r g))

module _ (from to : ℕ) (reads : (n : ℕ) → n ≤ 65535 → number_of (big_endian to n []) ≡ n) where
  front_returns : (t : ℕ) (f : Bytes) (b : Bool) → eqb t 0x90 ≡ b → front_right from t f ≡ true → AllBytes f → (eqb t 0x90 && ltb 65535 (number_of f)) ≡ false → renumbered_front from t (renumbered_front to t f) ≡ f
  front_returns t f true q g a n =
      let l : length f ≡ from = eqb-true (length f) from (subst (λ (b : Bool). pick b (eqb (length f) from) true ≡ true) q g) in
      let k : number_of f ≤ 65535 = ltb-false 65535 (number_of f) (subst (λ (b : Bool). (b && ltb 65535 (number_of f)) ≡ false) q n) in
      ap (λ (b : Bool). pick b (big_endian from (number_of (pick b (big_endian to (number_of f) []) f)) []) (pick b (big_endian to (number_of f) []) f)) q
      ∙ ap (λ (x : ℕ). big_endian from x []) (reads (number_of f) k)
      ∙ ap (λ (x : ℕ). big_endian x (number_of f) []) (sym l)
      ∙ big_endian_back f a
  front_returns t f false q g a n = ap (λ (b : Bool). pick b (big_endian from (number_of (pick b (big_endian to (number_of f) []) f)) []) (pick b (big_endian to (number_of f) []) f)) q

  field_returns : (t : ℕ) (f : Bytes) (i r : Row) (c : Expect) → FrontFits (held from t) f i → AllBytes f → good from c (field t f i r) ≡ Fine → (eqb t 0x90 && ltb 65535 (number_of f)) ≡ false → (good from (within t) i ≡ Fine → renumbered from (renumbered to i) ≡ i) → (b : Bool) → nests t ≡ b →
      (renumbered_front from t (renumbered_front to t f) ≡ f) × (renumbered from (renumbered to i) ≡ i)
  field_returns t f i r c s a g n ih true q =
      let p = nest_fine from c t f i r g q in
      (front_returns t f (eqb t 0x90) refl p.0 a n, ih p.1)
  field_returns t f i r c s a g n ih false q =
      let e : i ≡ end = leaf_alone from t f i q s in
      (leaf_grows from t (renumbered_front to t f) q ∙ leaf_grows to t f q, ap (λ (x : Row). renumbered from (renumbered to x)) e ∙ nothing_left ∙ sym e)
    where
      nothing_left : renumbered from (renumbered to end) ≡ end
      nothing_left = unfold renumbered in refl

  pub rows_return : (c : Expect) (y : Row) → SaneBy (held from) y → good from c y ≡ Fine → has_wide y ≡ false → renumbered from (renumbered to y) ≡ y
  unfolding renumbered has_wide
  rows_return c end s g n = refl
  rows_return c (loose b) s g n = refl
  rows_return c (field t f i r) s g n =
      let a = or_parts (eqb t 0x90 && ltb 65535 (number_of f)) (has_wide i || has_wide r) n in
      let b = or_parts (has_wide i) (has_wide r) a.1 in
      let p = field_returns t f i r c s.0 s.1 g a.0 (λ z. rows_return (within t) i s.2 z b.0) (nests t) refl in
      let rest : renumbered from (renumbered to r) ≡ r = rows_return (left c t) r s.3 (rest_fine from c t f i r g) b.1 in
      ap₂ (λ (x : Bytes) (z : Row). field t x z (renumbered from (renumbered to r))) p.0 p.1 ∙ ap (field t f i) rest

  -- ---- the row that is written is one that bytes read as

  fits_on : (c : Inside) (f : Bytes) (i : Row) → FrontFits c f i → FrontFits c f (renumbered to i)
  unfolding FrontFits renumbered
  fits_on only_bytes f end h = h
  fits_on only_bytes f (loose b) h = h
  fits_on only_bytes f (field t g i r) h = h
  fits_on (fields_after zero) f i h = h
  fits_on (fields_after (suc n)) f end h = h
  fits_on (fields_after (suc n)) f (loose b) h = h
  fits_on (fields_after (suc n)) f (field t g i r) h = h
  fits_on (counted n) f end h = h
  fits_on (counted n) f (loose b) h = h
  fits_on (counted n) f (field t g i r) h = h

  held_call : (w t : ℕ) → eqb t 0x90 ≡ true → held w t ≡ fields_after w
  unfolding held
  held_call w t q = rw q

  held_other : (t : ℕ) → eqb t 0x90 ≡ false → held from t ≡ held to t
  unfolding held
  held_other t q = rw q

  front_shaped : (t : ℕ) (f : Bytes) (i : Row) (b : Bool) → eqb t 0x90 ≡ b → FrontFits (held from t) f i → FrontFits (held to t) (renumbered_front to t f) (renumbered to i)
  front_shaped t f i true q s =
      let e : renumbered_front to t f ≡ big_endian to (number_of f) [] = ap (λ (b : Bool). pick b (big_endian to (number_of f) []) f) q in
      let k : FrontFits (fields_after to) (big_endian to (number_of f) []) (renumbered to i) = front_full to (big_endian to (number_of f) []) (renumbered to i) (length_big_endian to (number_of f) [] ∙ omega arith) in
      subst (λ (x : Bytes). FrontFits (held to t) x (renumbered to i)) (sym e) (subst (λ (c : Inside). FrontFits c (big_endian to (number_of f) []) (renumbered to i)) (sym (held_call to t q)) k)
  front_shaped t f i false q s =
      let e : renumbered_front to t f ≡ f = ap (λ (b : Bool). pick b (big_endian to (number_of f) []) f) q in
      subst (λ (x : Bytes). FrontFits (held to t) x (renumbered to i)) (sym e) (subst (λ (c : Inside). FrontFits c f (renumbered to i)) (held_other t q) (fits_on (held from t) f i s))

  pub rows_shaped : (y : Row) → ShapedBy (held from) y → ShapedBy (held to) (renumbered to y)
  unfolding renumbered
  rows_shaped end s = tt
  rows_shaped (loose b) s = s
  rows_shaped (field t f i r) s = (front_shaped t f i (eqb t 0x90) refl s.0, rows_shaped i s.1, rows_shaped r s.2)

  -- a page out with no wide number comes back
  pub page_returns : (p : Bytes) → AllBytes p → check_page_out from p ≡ Fine → has_wide (read_out from p) ≡ false → T (not (long_body (renumbered to (read_out from p)))) → bytes (renumbered from (read_out to (bytes (renumbered to (read_out from p))))) ≡ p
  unfolding read_out check_page_out
  page_returns p a g n l =
      let y : Row = read_out from p in
      let there : read_out to (bytes (renumbered to y)) ≡ renumbered to y = back (held to) (renumbered to y) (rows_shaped y (shaped (held from) p)) l in
      ap (λ (x : Row). bytes (renumbered from x)) there ∙ ap bytes (rows_return E.Whole y (sane (held from) p a) g n) ∙ written (held from) p a

-- ---- templates, up and down

-- the number of an 80
number_returns : (f acc : Bytes) → length f ≡ 2 → AllBytes f → big_endian 2 (number_of (take 4 (big_endian 4 (number_of f) acc))) [] ≡ f
number_returns f acc l a =
    let k : take 4 (big_endian 4 (number_of f) acc) ≡ big_endian 4 (number_of f) [] = unfold big_endian in refl in
    ap (λ (x : Bytes). big_endian 2 (number_of x) []) k
    ∙ ap (λ (x : ℕ). big_endian 2 x []) (four_read (number_of f) (omega (arith, two_low f l a)))
    ∙ ap (λ (x : ℕ). big_endian x (number_of f) []) (sym l)
    ∙ big_endian_back f a

old_returns : (x : Row) → Sound Old x → SaneBy inside x → rewritten New (rewritten Old x) ≡ x
unfolding rewritten rewritten_front
old_returns end s a = refl
old_returns (loose b) s a = absurd (records_not Old b s.fine)
old_returns (field t f i r) s a =
    let d = record_of Old t f i r s.fine in
    let b : Bytes = by_marks M.Outside (strings_in i) in
    let e : big_endian 2 (number_of (take 4 (rewritten_front Old f i))) [] ≡ f = number_returns f (big_endian 2 (length b) b) (old_front f d.front_is) a.1 in
    ap₂ (λ (x : Bytes) (y : Row). field 0x80 x i y) e (old_returns r (rest_sound Old t f i r s).0 a.3) ∙ ap (λ (x : ℕ). field x f i r) (sym d.tag_is)

-- the front of an 84 in its three parts
front_parts : (f : Bytes) → NewFront f → AllBytes f → big_endian 4 (number_of (take 4 f)) (big_endian 2 (count_of f) (drop 6 f)) ≡ f
front_parts f n a =
    let four : Bytes = take 4 f in
    let two : Bytes = take 2 (drop 4 f) in
    let l₄ : length four ≡ 4 = length-take-le 4 f (omega (arith, n.long_enough)) in
    let l₂ : length two ≡ 2 = length-take-le 2 (drop 4 f) (omega (arith, length-drop 4 f, n.long_enough)) in
    let e₄ : big_endian 4 (number_of four) [] ≡ four = ap (λ (x : ℕ). big_endian x (number_of four) []) (sym l₄) ∙ big_endian_back four (all_take 4 f a) in
    let e₂ : big_endian 2 (number_of two) [] ≡ two = ap (λ (x : ℕ). big_endian x (number_of two) []) (sym l₂) ∙ big_endian_back two (all_take 2 (drop 4 f) (all_drop 4 f a)) in
    let s₂ : two ++ drop 6 f ≡ drop 4 f = ap (λ (x : Bytes). two ++ x) (sym (six f)) ∙ take-append-drop 2 (drop 4 f) in
    big_endian_append 4 (number_of four) (big_endian 2 (number_of two) (drop 6 f))
    ∙ ap₂ (λ (x y : Bytes). x ++ y) e₄ (big_endian_append 2 (number_of two) (drop 6 f) ∙ ap (λ (x : Bytes). x ++ drop 6 f) e₂ ∙ s₂)
    ∙ take-append-drop 4 f
  where
    six : (g : Bytes) → drop 2 (drop 4 g) ≡ drop 6 g
    six [] = refl
    six (a ∷ []) = refl
    six (a ∷ b ∷ []) = refl
    six (a ∷ b ∷ c ∷ []) = refl
    six (a ∷ b ∷ c ∷ d ∷ g) = refl

-- what is clear of an 84: its number and its kinds
new_front_returns : (t : ℕ) (f : Bytes) (i r : Row) → Sound New (field t f i r) → AllBytes f → body_clear New (f ++ bytes i) ≡ true → rewritten_front Old (rewritten_front New f i) i ≡ f
unfolding rewritten_front same_kinds
new_front_returns t f i r s a c =
    let d = record_of New t f i r s.fine in
    let n = new_front f d.front_is in
    let str = (rest_sound New t f i r s).1 in
    let b : Bytes = by_marks M.Outside (strings_in i) in
    let m : ℕ = number_of (take 4 f) in
    let p = and_parts (leb m 65535) (C.agrees f (strings_in i)) (sym (new_clear i str f n (new_counts t f i r s)) ∙ c) in
    let low : number_of (big_endian 2 m []) ≡ m = two_read m (leb-true m 65535 p.0) in
    let k : drop 6 f ≡ b = same_eq (drop 6 f) b (and_parts (all_clear b) (same (drop 6 f) b) (sym (agrees_is f (strings_in i)) ∙ p.1)).1 in
    let l : length b ≡ count_of f = ap length (sym k) ∙ omega (arith, length-drop 6 f, n.length_is) in
    ap₂ (λ (x y : ℕ). big_endian 4 x (big_endian 2 y b)) low l ∙ ap (λ (x : Bytes). big_endian 4 m (big_endian 2 (count_of f) x)) (sym k) ∙ front_parts f n a

new_returns : (x : Row) → Sound New x → SaneBy inside x → all_bodies_clear New x ≡ true → rewritten Old (rewritten New x) ≡ x
unfolding rewritten all_bodies_clear
new_returns end s a c = refl
new_returns (loose b) s a c = absurd (records_not New b s.fine)
new_returns (field t f i r) s a c =
    let d = record_of New t f i r s.fine in
    let p = and_parts (body_clear New (f ++ bytes i)) (all_bodies_clear New r) c in
    ap₂ (λ (x : Bytes) (y : Row). field 0x84 x i y) (new_front_returns t f i r s a.1 p.0) (new_returns r (rest_sound New t f i r s).0 a.3 p.1) ∙ ap (λ (x : ℕ). field x f i r) (sym d.tag_is)

-- ---- what is written reads back

old_length : (f : Bytes) (i : Row) → length (rewritten_front Old f i) ≡ 6 + length (by_marks M.Outside (strings_in i))
unfolding rewritten_front
old_length f i =
    let b : Bytes = by_marks M.Outside (strings_in i) in
    omega (arith, length_big_endian 4 (number_of f) (big_endian 2 (length b) b), length_big_endian 2 (length b) b)

-- the front of an 84 that is not long says how long it is
old_counts : (f : Bytes) (i : Row) → length (by_marks M.Outside (strings_in i)) ≤ 65535 → counted_front 4 (rewritten_front Old f i) ≡ 6 + length (by_marks M.Outside (strings_in i))
unfolding rewritten_front big_endian
old_counts f i h = ap (λ (x : ℕ). 6 + x) (two_read (length (by_marks M.Outside (strings_in i))) h)

old_shaped : (f : Bytes) (i : Row) → length (by_marks M.Outside (strings_in i)) ≤ 65535 → FrontFits (counted 4) (rewritten_front Old f i) i
old_shaped f i h = front_counted 4 (rewritten_front Old f i) i (old_length f i ∙ sym (old_counts f i h))

row_shaped : (k : Kind) (x : Row) → Sound k x → T (not (long_body (rewritten k x))) → ShapedBy inside (rewritten k x)
unfolding rewritten long_body inside
row_shaped k end s l = tt
row_shaped k (loose b) s l = tt
row_shaped Old (field t f i r) s l =
    let w : Bytes = rewritten_front Old f i ++ bytes i in
    let p = short_parts 0x84 (rewritten_front Old f i) i (rewritten Old r) l in
    let h : length w ≤ 65535 = p.0 in
    let few : length (by_marks M.Outside (strings_in i)) ≤ 65535 = omega (arith, old_length f i, length-append (rewritten_front Old f i) (bytes i)) in
    (old_shaped f i few, s.shaped.1, row_shaped Old r (rest_sound Old t f i r s).0 p.2)
row_shaped New (field t f i r) s l =
    let p = short_parts 0x80 (rewritten_front New f i) i (rewritten New r) l in
    (front_full 2 (rewritten_front New f i) i (new_length f i), s.shaped.1, row_shaped New r (rest_sound New t f i r s).0 p.2)
  where
    new_length : (f : Bytes) (i : Row) → length (rewritten_front New f i) ≡ 2
    new_length f i = unfold rewritten_front in (length_big_endian 2 (number_of (take 4 f)) [] ∙ omega arith)

row_read : (k : Kind) (x : Row) → Sound k x → T (not (long_body (rewritten k x))) → read (bytes (rewritten k x)) ≡ rewritten k x
unfolding Shaped
row_read k x s l = read_back (rewritten k x) (row_shaped k x s l) l

module _ (t : Bytes) (a : AllBytes t) where
  pub templates_down : check_templates Old t ≡ Fine → T (not (long_body (rewritten Old (read t)))) → bytes (rewritten New (read (bytes (rewritten Old (read t))))) ≡ t
  unfolding Sane
  templates_down h l =
      let s = sound_read Old t a h in
      ap (λ (x : Row). bytes (rewritten New x)) (row_read Old (read t) s l) ∙ ap bytes (old_returns (read t) s (read_sane t a)) ∙ bytes_read t a

  pub templates_up : check_templates New t ≡ Fine → T (not (long_body (rewritten New (read t)))) → all_bodies_clear New (read t) ≡ true → bytes (rewritten Old (read (bytes (rewritten New (read t))))) ≡ t
  unfolding Sane
  templates_up h l c =
      let s = sound_read New t a h in
      ap (λ (x : Row). bytes (rewritten Old x)) (row_read New (read t) s l) ∙ ap bytes (new_returns (read t) s (read_sane t a) c) ∙ bytes_read t a

-- ---- answers that are given

past_by : (n : ℕ) (f : Unit {0} → Outcome) (w : Written) (b : Bool) → eqb n 0 ≡ b → past n f ≡ converted w → (n ≡ 0) × (f tt ≡ converted w)
unfolding past
past_by n f w true q h =
    let k : past n f ≡ f tt = rw (q, past) in
    (eqb-true n 0 q, sym k ∙ h)
past_by n f w false q h =
    let k : past n f ≡ refused n = rw (q, past) in
    let z : refused n ≡ converted w = sym k ∙ h in
    absurd (let j : ◌≡◌ {A = ℕ} 0 1 = cc in omega arith)

past_given : (n : ℕ) (f : Unit {0} → Outcome) (w : Written) → past n f ≡ converted w → (n ≡ 0) × (f tt ≡ converted w)
past_given n f w h = past_by n f w (eqb n 0) refl h

unless_given : (b : Bool) (n : ℕ) → number_unless b (suc n) ≡ 0 → b ≡ true
unless_given true n h = refl
unless_given false n h = absurd (omega arith)

-- both that were written
pub record Given (o : Option Row) (narrow : Bool) (y : Row) (w : Written) : Type 0 where
  pub row : Row
  pub row_is : o ≡ some row
  pub narrow_is : narrow ≡ true
  pub short : (long_body row || long_body y) ≡ false
  pub templates_is : w.templates_out ≡ bytes row
  pub page_is : w.page_out ≡ bytes y

written_given : (tr pr : ℕ) (o : Option Row) (narrow : Bool) (y : Row) (w : Written) → C.written tr pr o narrow y ≡ converted w → Given o narrow y w
unfolding C.written
written_given tr pr none narrow y w h = absurd (let j : ◌≡◌ {A = ℕ} 0 1 = cc in omega arith)
written_given tr pr (some x) narrow y w h =
    let last : Unit {0} → Outcome = λ _. converted (record { templates_out = bytes x; page_out = bytes y }) in
    let third : Unit {0} → Outcome = λ _. past (number_unless (leb (length (bytes y)) pr) 13) last in
    let second : Unit {0} → Outcome = λ _. past (number_unless (leb (length (bytes x)) tr) 12) third in
    let first : Unit {0} → Outcome = λ _. past (number_unless (not (long_body x || long_body y)) 11) second in
    let a = past_given (number_unless narrow 17) first w h in
    let b = past_given (number_unless (not (long_body x || long_body y)) 11) second w a.1 in
    let c = past_given (number_unless (leb (length (bytes x)) tr) 12) third w b.1 in
    let d = past_given (number_unless (leb (length (bytes y)) pr) 13) last w c.1 in
    let e : ◌≡◌ {A = Outcome} (converted (record { templates_out = bytes x; page_out = bytes y })) (converted w) = d.1 in
    let z : ◌≡◌ {A = Written} (record { templates_out = bytes x; page_out = bytes y }) w = cc in
    record {
      row = x;
      row_is = refl;
      narrow_is = unless_given narrow 16 a.0;
      short = not-true (long_body x || long_body y) (unless_given (not (long_body x || long_body y)) 10 b.0);
      templates_is = ap (λ (v : Written). v.templates_out) (sym z);
      page_is = ap (λ (v : Written). v.page_out) (sym z);
    }

module _ (t p : Bytes) (tr pr : ℕ) (w : Written) where
  pub up_given : upgraded t p tr pr ≡ converted w → (check_templates Old t ≡ Fine) × (check_page_out 2 p ≡ Fine) × Given (raised (read t)) true (renumbered 4 (read_out 2 p)) w
  unfolding upgraded
  up_given h =
      let last : Unit {0} → Outcome = λ _. C.written tr pr (raised (read t)) true (renumbered 4 (read_out 2 p)) in
      let a = past_given (verdict_number (check_templates Old t)) (λ _. past (verdict_number (check_page_out 2 p)) last) w h in
      let b = past_given (verdict_number (check_page_out 2 p)) last w a.1 in
      (verdict_fine (check_templates Old t) a.0, verdict_fine (check_page_out 2 p) b.0, written_given tr pr (raised (read t)) true (renumbered 4 (read_out 2 p)) w b.1)

  down_given : downgraded t p tr pr ≡ converted w → (check_templates New t ≡ Fine) × (check_page_out 4 p ≡ Fine) × Given (lowered (read t)) (not (has_wide (read_out 4 p))) (renumbered 2 (read_out 4 p)) w
  unfolding downgraded
  down_given h =
      let y : Row = read_out 4 p in
      let last : Unit {0} → Outcome = λ _. C.written tr pr (lowered (read t)) (not (has_wide y)) (renumbered 2 y) in
      let a = past_given (verdict_number (check_templates New t)) (λ _. past (verdict_number (check_page_out 4 p)) last) w h in
      let b = past_given (verdict_number (check_page_out 4 p)) last w a.1 in
      (verdict_fine (check_templates New t) a.0, verdict_fine (check_page_out 4 p) b.0, written_given tr pr (lowered (read t)) (not (has_wide y)) (renumbered 2 y) w b.1)

picked : (c : Bool) (x z : Row) → pick c (some x) none ≡ some z → (c ≡ true) × (x ≡ z)
picked true x z h = (refl, cc)
picked false x z h = absurd (let k : ◌≡◌ {A = Option Row} none (some z) = h in let j : ◌≡◌ {A = ℕ} 0 1 = cc in omega arith)

-- what was written is sound again where it is fine
sound_again : (k l : Kind) (x : Row) → Sound k x → T (not (long_body (rewritten k x))) → check_templates l (bytes (rewritten k x)) ≡ Fine → Sound l (read (bytes (rewritten k x)))
unfolding check_templates Shaped
sound_again k l x s h g = record { fine = g; shaped = read_shaped (bytes (rewritten k x)); short = subst (λ (y : Row). T (not (long_body y))) (sym (row_read k x s h)) h }

-- ---- there and back

module _ (t p : Bytes) (a : AllBytes t) (b : AllBytes p) (tr pr tr' pr' : ℕ) (w w' : Written) where
  pub up_and_down : upgraded t p tr pr ≡ converted w → downgraded w.templates_out w.page_out tr' pr' ≡ converted w' → (w'.templates_out ≡ t) × (w'.page_out ≡ p)
  unfolding read_out check_page_out
  up_and_down h h' =
      let u = up_given t p tr pr w h in
      let g = u.2 in
      let x : Row = read t in
      let y : Row = read_out 2 p in
      let s = sound_read Old t a u.0 in
      let z = picked (all_bodies_clear Old x) (rewritten Old x) g.row (sym (raised_is x s) ∙ g.row_is) in
      let l = or_parts (long_body g.row) (long_body (renumbered 4 y)) g.short in
      let lt : T (not (long_body (rewritten Old x))) = T_from_false (long_body (rewritten Old x)) (ap long_body z.1 ∙ l.0) in
      let t₁ : Bytes = bytes (rewritten Old x) in
      let p₁ : Bytes = bytes (renumbered 4 y) in
      let e : w.templates_out ≡ t₁ = g.templates_is ∙ ap bytes (sym z.1) in
      let d = down_given t₁ p₁ tr' pr' w' (sym (ap₂ (λ (m n : Bytes). downgraded m n tr' pr') e g.page_is) ∙ h') in
      let k = d.2 in
      let s₁ = sound_again Old New x s lt d.0 in
      let z₁ = picked (all_bodies_clear New (read t₁)) (rewritten New (read t₁)) k.row (sym (lowered_is (read t₁) s₁) ∙ k.row_is) in
      let wide : has_wide y ≡ false = narrow E.Whole y (sane (held 2) p b) u.1 in
      (k.templates_is ∙ ap bytes (sym z₁.1) ∙ templates_down t a u.0 lt, k.page_is ∙ page_returns 2 4 (λ n m. four_read n (omega arith)) p b u.1 wide (T_from_false (long_body (renumbered 4 y)) l.1))

  pub down_and_up : downgraded t p tr pr ≡ converted w → upgraded w.templates_out w.page_out tr' pr' ≡ converted w' → (w'.templates_out ≡ t) × (w'.page_out ≡ p)
  down_and_up h h' =
      let u = down_given t p tr pr w h in
      let g = u.2 in
      let x : Row = read t in
      let y : Row = read_out 4 p in
      let s = sound_read New t a u.0 in
      let z = picked (all_bodies_clear New x) (rewritten New x) g.row (sym (lowered_is x s) ∙ g.row_is) in
      let l = or_parts (long_body g.row) (long_body (renumbered 2 y)) g.short in
      let lt : T (not (long_body (rewritten New x))) = T_from_false (long_body (rewritten New x)) (ap long_body z.1 ∙ l.0) in
      let t₁ : Bytes = bytes (rewritten New x) in
      let p₁ : Bytes = bytes (renumbered 2 y) in
      let e : w.templates_out ≡ t₁ = g.templates_is ∙ ap bytes (sym z.1) in
      let d = up_given t₁ p₁ tr' pr' w' (sym (ap₂ (λ (m n : Bytes). upgraded m n tr' pr') e g.page_is) ∙ h') in
      let k = d.2 in
      let s₁ = sound_again New Old x s lt d.0 in
      let z₁ = picked (all_bodies_clear Old (read t₁)) (rewritten Old (read t₁)) k.row (sym (raised_is (read t₁) s₁) ∙ k.row_is) in
      let wide : has_wide y ≡ false = not-true (has_wide y) g.narrow_is in
      (k.templates_is ∙ ap bytes (sym z₁.1) ∙ templates_up t a u.0 lt z.0, k.page_is ∙ page_returns 4 2 (λ n m. two_read n m) p b u.1 wide (T_from_false (long_body (renumbered 2 y)) l.1))
