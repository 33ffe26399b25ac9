-- The row at the front of bytes by `front_of` and `inner_of`: what a walk over printed fields learns from its readers.
-- Main statements: `read_front`, `read_field`, `read_by`, `not_ended`, `inner_less`, `front_length_within`, `counted_is`, `front_is`, `inner_is`, `row_here`.
-- Assumes nothing.
use mathlib.Core.Path.{◌≡◌, refl, sym, ap, ◌∙◌, subst}
use mathlib.Core.Bool.{Bool, true, false}
use Prim.Native.Nat.{ℕ, ◌+◌, ◌*◌, ◌≤◌, ◌<◌, min}
use native.Mathlib.Nat.{le_refl}
use native.Mathlib.Omega.{arith}
use mathlib.Core.List.{[], ◌∷◌}
use lib.Dec.{leb}
use lib.ListN.{length, take, drop, get_or, length-drop, drop_of_length-le}
use lib.Seq.{take_all, take-length, drop-length}
use borrow.Author.Tests.{leb-true, leb-false}
use Rattle.field.specs.Bytes.{Bytes, pick}
use Rattle.field.specs.Number.{number_from}
use Rattle.field.specs.Row.{Row, end, loose, field, Inside, only_bytes, fields_after, counted, counted_front, inside, Next, nothing, no_field, next, next_of, opened, built, read, Ended}
use Rattle.field.specs.Front.{tag_of_front, body_of, behind_of, tag_by, body_by, behind_by}
use Rattle.field.proofs.RowLaws.{read_step, read_nil}
use Rattle.field.proofs.FrontLaws.{body_less}
use Rattle.printing.specs.Card.{first_front}
use Rattle.printing.specs.Front.{front_by, inner_by, front_in, inner_in, front_of, inner_of, at_most, front_length}

-- ---- a field stands in front

opened_parts : (c : Inside) (t : ℕ) (w r : Bytes) → opened c read t w r ≡ field t (front_by c w) (read (inner_by c w)) (read r)
unfolding opened
opened_parts only_bytes t w r = ap (λ (i : Row). field t w i (read r)) (sym read_nil)
opened_parts (fields_after n) t w r = refl
opened_parts (counted n) t w r = refl

front_next : (s : Bytes) (n : Next) → (Ended (built read s n) → ⊥) → built read s n ≡ field (tag_by n) (front_by (inside (tag_by n)) (body_by n)) (read (inner_by (inside (tag_by n)) (body_by n))) (read (behind_by n))
unfolding built
front_next s nothing h = absurd (h tt)
front_next s no_field h = absurd (h tt)
front_next s (next t w r) h = opened_parts (inside t) t w r

pub read_front : (s : Bytes) → (Ended (read s) → ⊥) → read s ≡ field (tag_of_front s) (front_of s) (read (inner_of s)) (read (behind_of s))
unfolding tag_of_front body_of behind_of front_of inner_of
read_front s h = read_step s ∙ front_next s (next_of s) (λ i. h (subst Ended (sym (read_step s)) i))

-- of a tag that is not 256 a field stands in front
field_by : (s : Bytes) (n : Next) → (tag_by n ≡ 256 → ⊥) → Ended (built read s n) → ⊥
unfolding built opened
field_by s nothing h i = h refl
field_by s no_field h i = h refl
field_by s (next t w r) h i = on (inside t) i
  where
    on : (c : Inside) → Ended (opened c read t w r) → ⊥
    on only_bytes i = i
    on (fields_after n) i = i
    on (counted n) i = i

pub not_ended : (s : Bytes) → (tag_of_front s ≡ 256 → ⊥) → Ended (read s) → ⊥
unfolding tag_of_front
not_ended s h i = field_by s (next_of s) h (subst Ended (read_step s) i)

-- by the tag and the parts that the readers hand back
pub read_field : (s : Bytes) (t : ℕ) → t ≡ tag_of_front s → (t ≡ 256 → ⊥) → {w i r : Bytes} → w ≡ front_of s → i ≡ inner_of s → r ≡ behind_of s → read s ≡ field t w (read i) (read r)
read_field s t e h ew ei er = read_front s (not_ended s (λ z. h (e ∙ z))) ∙ rw (e, ew, ei, er)

-- what makes of no field the same as of an empty one of tag 256 goes by the parts, whatever the bytes
pub read_by : {B : Type 0} (f : Row → B) → f end ≡ f (field 256 [] end end) → ((b : Bytes) → f (loose b) ≡ f (field 256 [] end end)) → (s : Bytes) → f (read s) ≡ f (field (tag_of_front s) (front_of s) (read (inner_of s)) (read (behind_of s)))
unfolding tag_of_front body_of behind_of front_of inner_of built inside
read_by f he hl s = ap f (read_step s) ∙ on (next_of s)
  where
    none : f (field 256 [] end end) ≡ f (field 256 [] (read []) (read []))
    none = ap (λ (x : Row). f (field 256 [] x x)) (sym read_nil)

    on : (n : Next) → f (built read s n) ≡ f (field (tag_by n) (front_by (inside (tag_by n)) (body_by n)) (read (inner_by (inside (tag_by n)) (body_by n))) (read (behind_by n)))
    on nothing = he ∙ none
    on no_field = hl s ∙ none
    on (next t w r) = ap f (opened_parts (inside t) t w r)

-- ---- how long the two parts are

pub inner_within : (c : Inside) (w : Bytes) → length (inner_by c w) ≤ length w
inner_within only_bytes w = omega arith
inner_within (fields_after n) w = omega (arith, length-drop n w)
inner_within (counted n) w = omega (arith, length-drop (counted_front n w) w)

-- the fields as the reader hands them back
pub inner_less : (s : Bytes) → (tag_of_front s ≡ 256 → ⊥) → {b : Bytes} → b ≡ inner_of s → length b < length s
unfolding inner_of
inner_less s h q = omega (arith, ap length q, inner_within (inside (tag_of_front s)) (body_of s), body_less s (tag_of_front s) refl h {b = body_of s} refl)

-- what the code takes by `min`
pub min_is : (n k : ℕ) → min n k ≡ at_most k n
min_is n k = on (leb k n) refl
  where
    on : (b : Bool) → leb k n ≡ b → min n k ≡ pick b k n
    on true e = let h : k ≤ n = leb-true k n e in omega arith
    on false e = let h : n < k = leb-false k n e in omega arith

at_most_within : (k n : ℕ) → at_most k n ≤ n
at_most_within k n = on (leb k n) refl
  where
    on : (b : Bool) → leb k n ≡ b → pick b k n ≤ n
    on true e = leb-true k n e
    on false e = le_refl n

pub front_length_within : (i : Inside) (w : Bytes) → front_length i w ≤ length w
front_length_within only_bytes w = le_refl (length w)
front_length_within (fields_after k) w = at_most_within k (length w)
front_length_within (counted k) w = at_most_within (counted_front k w) (length w)

-- the count is the fifth and the sixth byte
pub counted_is : (w : Bytes) → 6 ≤ length w → 6 + (get_or w 4 0 * 256 + get_or w 5 0) ≡ counted_front 4 w
unfolding number_from
counted_is [] h = absurd (omega arith)
counted_is (a ∷ []) h = absurd (omega arith)
counted_is (a ∷ b ∷ []) h = absurd (omega arith)
counted_is (a ∷ b ∷ c ∷ []) h = absurd (omega arith)
counted_is (a ∷ b ∷ c ∷ d ∷ []) h = absurd (omega arith)
counted_is (a ∷ b ∷ c ∷ d ∷ e ∷ []) h = absurd (omega arith)
counted_is (a ∷ b ∷ c ∷ d ∷ e ∷ f ∷ w) h = omega arith

-- ---- the two parts as the code cuts them: n is the front's length

taken_cut : (k : ℕ) (w : Bytes) → take (at_most k (length w)) w ≡ take k w
taken_cut k w = on (leb k (length w)) refl
  where
    on : (b : Bool) → leb k (length w) ≡ b → take (pick b k (length w)) w ≡ take k w
    on true e = refl
    on false e = take-length w ∙ sym (take_all k w (omega (arith, leb-false k (length w) e)))

dropped_cut : (k : ℕ) (w : Bytes) → drop (at_most k (length w)) w ≡ drop k w
dropped_cut k w = on (leb k (length w)) refl
  where
    on : (b : Bool) → leb k (length w) ≡ b → drop (pick b k (length w)) w ≡ drop k w
    on true e = refl
    on false e =
        let l : length w ≤ k = omega (arith, leb-false k (length w) e) in
        drop-length w ∙ sym (drop_of_length-le w l)

front_cut : (c : Inside) (w : Bytes) → take (front_length c w) w ≡ front_by c w
front_cut only_bytes w = take-length w
front_cut (fields_after k) w = taken_cut k w
front_cut (counted k) w = taken_cut (counted_front k w) w

inner_cut : (c : Inside) (w : Bytes) → drop (front_length c w) w ≡ inner_by c w
inner_cut only_bytes w = drop-length w
inner_cut (fields_after k) w = dropped_cut k w
inner_cut (counted k) w = dropped_cut (counted_front k w) w

module _ (t : ℕ) (b : Bytes) {n : ℕ} (en : n ≡ front_length (inside t) b) where
  pub front_fits : n ≤ length b
  front_fits = rw en (front_length_within (inside t) b)

  pub front_is : take n b ≡ front_in t b
  front_is = ap (λ (k : ℕ). take k b) en ∙ front_cut (inside t) b

  pub inner_is : drop n b ≡ inner_in t b
  inner_is = ap (λ (k : ℕ). drop k b) en ∙ inner_cut (inside t) b

-- ---- of a field that a row gives

module _ (s : Bytes) {t : ℕ} {w : Bytes} (et : t ≡ tag_of_front s) (ew : w ≡ body_of s) where
  pub front_here : front_in t w ≡ front_of s
  unfolding front_of
  front_here = rw (et, ew)

  pub inner_here : inner_in t w ≡ inner_of s
  unfolding inner_of
  inner_here = rw (et, ew)

  pub row_here : (t ≡ 256 → ⊥) → {r : Bytes} → r ≡ behind_of s → read s ≡ field t (front_in t w) (read (inner_in t w)) (read r)
  row_here h er = read_field s t et h front_here inner_here er

-- no field stands in front
pub front_none : (s : Bytes) → Ended (read s) → [] ≡ front_of s
front_none s i = none (read s) i ∙ read_by first_front refl (λ b. refl) s
  where
    none : (x : Row) → Ended x → [] ≡ first_front x
    none end i = refl
    none (loose b) i = refl
    none (field t f j r) i = absurd i
