-- A page out walked flat says what its row says, where it is one: no bytes are left over in it, and the fronts of calls are as long as they must be.
-- Main statements: `calls_step`, `raised_step`, `calls_are`, `raised_are`, `raised_around`, `raised_down`.
-- Assumes nothing.
use mathlib.Core.Path.{◌≡◌, refl, sym, ap, ap₂, ◌∙◌}
use mathlib.Core.Bool.{Bool, true, false, ◌&&◌}
use mathlib.Core.Logic.{◌⊎◌, inl, inr}
use Prim.Native.Nat.{ℕ, zero, suc, ◌+◌, ◌-◌, ◌%◌, ◌≤◌, ◌<◌}
use native.Mathlib.Omega.{arith}
use mathlib.Core.List.{List, [], ◌∷◌, ◌++◌, append-nil}
use lib.Dec.{T, leb, eqb, le→leb}
use lib.ListN.{length, take, drop, length-append, length-take, length-drop, drop_of_length-le}
use lib.Seq.{take_all, take_at, drop_at, drop-drop}
use Rattle.std.proofs.lemmas.List.{append_assoc, take-append-le, drop-append-le}
use Rattle.std.proofs.lemmas.Bool.{cases_Bool}
use borrow.Author.Tests.{le-leb, eqb-true, ne_eqb, eqb-false}
use Rattle.field.specs.Bytes.{Bytes, AllBytes, pick}
use Rattle.field.specs.Number.{big_endian, number_of}
use Rattle.field.specs.Row.{Row, end, loose, field, field_bytes, bytes, Inside, only_bytes, fields_after, counted, Next, nothing, no_field, next, next_of}
use Rattle.field.specs.Put.{head}
use Rattle.field.proofs.NumberLaws.{all_drop}
use Rattle.field.proofs.Reading.{Opens, next_parts, next_sizes, next_nothing, all_parts, along}
use Rattle.refusal.specs.Refusal.{Verdict, Fine, after, unless}
use Rattle.page.specs.Tree.{choose}
use Rattle.refusal.specs.declared.Refusal.TheVariants as R
use Rattle.refusal.proofs.Verdicts.{refused, after_fine, unless_true}
use Rattle.catalogue.proofs.Rows.{counts_none}
use Rattle.outs.specs.Held.{nests, held, read_out}
use Rattle.outs.specs.PageOut.{left, within, front_right, check_leaf, good, check_page_out}
use Rattle.outs.specs.declared.Expect.{Expect}
use Rattle.outs.specs.declared.Expect.TheVariants as E
use Rattle.outs.proofs.StepLaws.{FrontIs, held_front, held_none}
use Rattle.convert.proofs.PageLaws.{rest_fine, nest_fine}
use Rattle.catalogue.specs.Catalogue.{four}
use Rattle.catalogue.specs.Numbers.{changed, raised, opposite, full_turn, up}
use Rattle.catalogue.specs.Judged.{called_numbers}
use Rattle.catalogue.proofs.Rows as Rows
use Rattle.catalogue_calls.specs.Flat.{calls_by, calls_from, calls_in, further, raised_by, raised_from, calls_raised}

-- ---- one step; the count of steps does not matter, if it is enough

calls_same : (f g : Bytes → List ℕ) (b : Bytes) (x : Next) → next_of b ≡ x → ((c : Bytes) → length c < length b → f c ≡ g c) → calls_by f b x ≡ calls_by g b x
calls_same f g b nothing e h = refl
calls_same f g b no_field e h = refl
calls_same f g b (next t w r) e h =
    let s = next_sizes b t w r e in
    ap₂ (λ x y. pick (eqb t 0x90) (four (drop 3 b) ∷ x) y) (h (drop 7 b) (omega (arith, length-drop 7 b)))
    (ap₂ (λ x y. pick (nests t) x y) (h (drop 3 b) (omega (arith, length-drop 3 b))) (h r (omega arith)))

calls_enough : (k j : ℕ) (b : Bytes) → length b < k → length b < j → calls_from k b ≡ calls_from j b
unfolding calls_from
calls_enough zero j b h i = absurd (omega arith)
calls_enough (suc k) zero b h i = absurd (omega arith)
calls_enough (suc k) (suc j) b h i = calls_same (calls_from k) (calls_from j) b (next_of b) refl (λ c l. calls_enough k j c (omega arith) (omega arith))

pub calls_step : (b : Bytes) → calls_in b ≡ calls_by calls_in b (next_of b)
unfolding calls_in calls_from
calls_step b = calls_same (calls_from (length b)) calls_in b (next_of b) refl (λ c l. calls_enough (length b) (suc (length c)) c l (omega arith))

raised_same : (f g : Bytes → Bytes) (n : ℕ) (b : Bytes) (x : Next) → next_of b ≡ x → ((c : Bytes) → length c < length b → f c ≡ g c) → raised_by f n b x ≡ raised_by g n b x
raised_same f g n b nothing e h = refl
raised_same f g n b no_field e h = refl
raised_same f g n b (next t w r) e h =
    let s = next_sizes b t w r e in
    ap₂ (λ x y. pick (eqb t 0x90) (take 3 b ++ (further n (drop 3 b) ++ x)) y) (h (drop 7 b) (omega (arith, length-drop 7 b)))
    (ap₂ (λ x y. pick (nests t) (take 3 b ++ x) (take (3 + length w) b ++ y)) (h (drop 3 b) (omega (arith, length-drop 3 b))) (h r (omega arith)))

raised_enough : (n k j : ℕ) (b : Bytes) → length b < k → length b < j → raised_from k n b ≡ raised_from j n b
unfolding raised_from
raised_enough n zero j b h i = absurd (omega arith)
raised_enough n (suc k) zero b h i = absurd (omega arith)
raised_enough n (suc k) (suc j) b h i = raised_same (raised_from k n) (raised_from j n) n b (next_of b) refl (λ c l. raised_enough n k j c (omega arith) (omega arith))

pub raised_step : (n : ℕ) (b : Bytes) → calls_raised n b ≡ raised_by (calls_raised n) n b (next_of b)
unfolding calls_raised raised_from
raised_step n b = raised_same (raised_from (length b) n) (calls_raised n) n b (next_of b) refl (λ c l. raised_enough n (length b) (suc (length c)) c l (omega arith))

-- ---- a field of a page out

-- what follows stands behind what lies behind the field
next_append : (s : Bytes) (t : ℕ) (w r v : Bytes) → next_of s ≡ next t w r → next_of (s ++ v) ≡ next t w (r ++ v)
unfolding next_of
next_append s t w r v e =
    let p = next_parts s t w r e in
    let x : s ++ v ≡ t ∷ p.high ∷ p.low ∷ (w ++ (r ++ v)) = ap (λ (y : Bytes). y ++ v) p.all_is ∙ ap (λ (y : Bytes). t ∷ p.high ∷ p.low ∷ y) (append_assoc w r v) in
    ap next_of x
    ∙ ap (λ (n : ℕ). pick (leb n (length (w ++ (r ++ v)))) (next t (take n (w ++ (r ++ v))) (drop n (w ++ (r ++ v)))) no_field) p.length_is
    ∙ on (leb (length w) (length (w ++ (r ++ v)))) (le→leb (length w) (length (w ++ (r ++ v))) (omega (arith, length-append w (r ++ v))))
  where
    on : (c : Bool) → T c → pick c (next t (take (length w) (w ++ (r ++ v))) (drop (length w) (w ++ (r ++ v)))) no_field ≡ next t w (r ++ v)
    on true u = ap₂ (λ (x y : Bytes). next t x y) (take_at w (r ++ v) (length w) refl) (drop_at w (r ++ v) (length w) refl)
    on false u = absurd u

-- behind its header
behind_header : (s : Bytes) (t : ℕ) (w r v : Bytes) → next_of s ≡ next t w r → drop 3 (s ++ v) ≡ w ++ (r ++ v)
behind_header s t w r v e =
    let p = next_parts s t w r e in
    ap (λ (y : Bytes). drop 3 (y ++ v)) p.all_is ∙ append_assoc w r v

-- its header and its body
as_written : (s : Bytes) (t : ℕ) (w r v : Bytes) → next_of s ≡ next t w r → AllBytes s → s ++ v ≡ head t (length w) ++ (w ++ (r ++ v))
unfolding field_bytes
as_written s t w r v e a = ap (λ (y : Bytes). y ++ v) (sym (all_parts s t w r e a).written) ∙ simp append_assoc

-- what stands in front of the fields of a body: of a call four bytes, of any other none
held_fields : (t n : ℕ) → held 4 t ≡ counted n → ⊥
unfolding held
held_fields t n e = counts_none (eqb t 0x90) (nests t) n e

opened_front : (t n : ℕ) (w : Bytes) → Opens (held 4 t) w n → FrontIs 4 t n
opened_front t n w o = on (held 4 t) refl o
  where
    on : (k : Inside) → held 4 t ≡ k → Opens k w n → FrontIs 4 t n
    on only_bytes e p = absurd p
    on (fields_after m) e p = held_front 4 t n (e ∙ ap fields_after p)
    on (counted m) e p = absurd (held_fields t m e)

-- as far as they stand there
front_whole : (t n : ℕ) (w : Bytes) → eqb t 0x90 ≡ true → front_right 4 t (take n w) ≡ true → 4 ≤ length w
front_whole t n w e g =
    let h : length (take n w) ≡ 4 = eqb-true (length (take n w)) 4 (ap (λ (u : Bool). pick u (eqb (length (take n w)) 4) true) (sym e) ∙ g) in
    omega (arith, length-take n w)

four_taken : (w v : Bytes) → 4 ≤ length w → four (w ++ v) ≡ four (take 4 w)
four_taken w v l = ap number_of (take-append-le 4 w v l ∙ sym (take_all 4 (take 4 w) (omega (arith, length-take 4 w))))

-- the bytes of a call behind its header: its number, and what stands behind that
module _ (s : Bytes) (t n : ℕ) (w r v : Bytes) (e : next_of s ≡ next t w r) (q : n ≡ 4) (l : 4 ≤ length w) where
  number_there : four (drop 3 (s ++ v)) ≡ four (take n w)
  number_there = ap four (behind_header s t w r v e) ∙ four_taken w (r ++ v) l ∙ ap (λ (k : ℕ). four (take k w)) (sym q)

  behind_number : drop 7 (s ++ v) ≡ drop n w ++ (r ++ v)
  behind_number =
      sym (drop-drop 4 3 (s ++ v)) ∙ ap (drop 4) (behind_header s t w r v e) ∙ drop-append-le 4 w (r ++ v) l ∙ ap (λ (k : ℕ). drop k w ++ (r ++ v)) (sym q)

-- ---- the numbers

Numbered : Bytes → Row → Type 0
Numbered s x = (c : Expect) (v : Bytes) → good 4 c x ≡ Fine → calls_in (s ++ v) ≡ called_numbers x ++ calls_in v

calls_next : (s : Bytes) (t : ℕ) (w r v : Bytes) → next_of s ≡ next t w r → calls_in (s ++ v) ≡ calls_by calls_in (s ++ v) (next t w (r ++ v))
calls_next s t w r v e = calls_step (s ++ v) ∙ ap (calls_by calls_in (s ++ v)) (next_append s t w r v e)

called_row : (t : ℕ) (f : Bytes) (i r : Row) (b : Bool) (v : List ℕ) → eqb t 0x90 ≡ b → called_numbers (field t f i r) ++ v ≡ pick b (four f ∷ []) [] ++ (called_numbers i ++ (called_numbers r ++ v))
unfolding called_numbers
called_row t f i r b v e = ap (λ (z : Bool). (pick z (four f ∷ []) [] ++ (called_numbers i ++ called_numbers r)) ++ v) e ∙ simp append_assoc

calls_leaf : (s : Bytes) (t : ℕ) (w r : Bytes) → next_of s ≡ next t w r → held 4 t ≡ only_bytes → Numbered r (read_out 4 r) → Numbered s (field t w end (read_out 4 r))
unfolding Numbered called_numbers
calls_leaf s t w r e q hr c v g =
    let h = held_none 4 t q in
    let n : eqb t 0x90 ≡ false = ne_eqb t 0x90 h.0 in
    calls_next s t w r v e
    ∙ ap₂ (λ (a b : Bool). pick a (four (drop 3 (s ++ v)) ∷ calls_in (drop 7 (s ++ v))) (pick b (calls_in (drop 3 (s ++ v))) (calls_in (r ++ v)))) n h.1
    ∙ hr (left c t) v (rest_fine 4 c t w end (read_out 4 r) g) ∙ sym (called_row t w end (read_out 4 r) false (calls_in v) n)

calls_nest : (s : Bytes) (t : ℕ) (w r : Bytes) (n : ℕ) → next_of s ≡ next t w r → Opens (held 4 t) w n → Numbered (drop n w) (read_out 4 (drop n w)) → Numbered r (read_out 4 r)
    → Numbered s (field t (take n w) (read_out 4 (drop n w)) (read_out 4 r))
unfolding Numbered
calls_nest s t w r n e o hi hr c v g = on (cases_Bool (eqb t 0x90))
  where
    inner : Row
    inner = read_out 4 (drop n w)

    rest : Row
    rest = read_out 4 r

    f : FrontIs 4 t n
    f = opened_front t n w o

    b : (front_right 4 t (take n w) ≡ true) × (good 4 (within t) inner ≡ Fine)
    b = nest_fine 4 c t (take n w) inner rest g f.nests_is

    both : calls_in (drop n w ++ (r ++ v)) ≡ called_numbers inner ++ (called_numbers rest ++ calls_in v)
    both = hi (within t) (r ++ v) b.1 ∙ ap (λ (x : List ℕ). called_numbers inner ++ x) (hr (left c t) v (rest_fine 4 c t (take n w) inner rest g))

    by : Bool → List ℕ
    by a = pick a (four (drop 3 (s ++ v)) ∷ calls_in (drop 7 (s ++ v))) (pick (nests t) (calls_in (drop 3 (s ++ v))) (calls_in (r ++ v)))

    on : (eqb t 0x90 ≡ true) ⊎ (eqb t 0x90 ≡ false) → calls_in (s ++ v) ≡ called_numbers (field t (take n w) inner rest) ++ calls_in v
    on (inl y) =
        let q : n ≡ 4 = f.of_call (eqb-true t 0x90 y) in
        let l : 4 ≤ length w = front_whole t n w y b.0 in
        calls_next s t w r v e ∙ ap by y
        ∙ ap₂ (λ (m : ℕ) (x : Bytes). m ∷ calls_in x) (number_there s t n w r v e q l) (behind_number s t n w r v e q l)
        ∙ ap (λ (x : List ℕ). four (take n w) ∷ x) both ∙ sym (called_row t (take n w) inner rest true (calls_in v) y)
    on (inr z) =
        let q : n ≡ 0 = f.of_other (eqb-false t 0x90 z) in
        calls_next s t w r v e ∙ ap by z
        ∙ ap (λ (a : Bool). pick a (calls_in (drop 3 (s ++ v))) (calls_in (r ++ v))) f.nests_is
        ∙ ap calls_in (behind_header s t w r v e ∙ ap (λ (k : ℕ). drop k w ++ (r ++ v)) (sym q))
        ∙ both ∙ sym (called_row t (take n w) inner rest false (calls_in v) z)

numbered : (s : Bytes) → Numbered s (read_out 4 s)
unfolding Numbered read_out good called_numbers
numbered =
    along (held 4) Numbered (λ s e c v g. ap (λ (x : Bytes). calls_in (x ++ v)) (next_nothing s e))
    (λ s e c v g. refused R.Truncated g) calls_leaf calls_nest

calls_nil : calls_in [] ≡ []
unfolding next_of
calls_nil = calls_step []

pub calls_are : (s : Bytes) → check_page_out 4 s ≡ Fine → called_numbers (read_out 4 s) ≡ calls_in s
unfolding check_page_out Numbered
calls_are s g = sym (ap calls_in (sym (append-nil s)) ∙ numbered s E.Whole [] g ∙ ap (λ (x : List ℕ). called_numbers (read_out 4 s) ++ x) calls_nil ∙ append-nil (called_numbers (read_out 4 s)))

-- ---- the bytes with their numbers raised

-- a field as it is written, if its body has k bytes
pub field_written : (t : ℕ) (f : Bytes) (i r : Row) (k : ℕ) → length (f ++ bytes i) ≡ k → bytes (field t f i r) ≡ head t k ++ (f ++ (bytes i ++ bytes r))
unfolding bytes field_bytes
field_written t f i r k e = ap (λ (j : ℕ). head t j ++ (f ++ bytes i) ++ bytes r) e ∙ simp append_assoc

row_bytes : (t : ℕ) (f : Bytes) (i r : Row) (k : ℕ) (v : Bytes) → length (f ++ bytes i) ≡ k → bytes (field t f i r) ++ v ≡ head t k ++ (f ++ (bytes i ++ (bytes r ++ v)))
row_bytes t f i r k v e = ap (λ (y : Bytes). y ++ v) (field_written t f i r k e) ∙ simp append_assoc

module _ (n : ℕ) where
  abbrev m : ℕ → Bytes → Bytes
  m = raised 0x90 n

  Raised : Bytes → Row → Type 0
  Raised s x = AllBytes s → (c : Expect) (v : Bytes) → good 4 c x ≡ Fine → calls_raised n (s ++ v) ≡ bytes (changed m x) ++ calls_raised n v

  raised_next : (s : Bytes) (t : ℕ) (w r v : Bytes) → next_of s ≡ next t w r → calls_raised n (s ++ v) ≡ raised_by (calls_raised n) n (s ++ v) (next t w (r ++ v))
  raised_next s t w r v e = raised_step n (s ++ v) ∙ ap (raised_by (calls_raised n) n (s ++ v)) (next_append s t w r v e)

  other_front : (t : ℕ) (f : Bytes) → eqb t 0x90 ≡ false → m t f ≡ f
  unfolding raised
  other_front t f e = ap (λ (b : Bool). pick (b && leb 4 (length f)) (further n f ++ drop 4 f) f) e

  call_front : (t : ℕ) (f : Bytes) → eqb t 0x90 ≡ true → length f ≡ 4 → m t f ≡ further n f
  unfolding raised
  call_front t f e l =
      ap₂ (λ (a b : Bool). pick (a && b) (further n f ++ drop 4 f) f) e (le-leb 4 (length f) (omega arith))
      ∙ ap (λ (x : Bytes). further n f ++ x) (drop_of_length-le f {i = 4} (omega arith)) ∙ append-nil (further n f)

  header_there : (s : Bytes) (t : ℕ) (w r v : Bytes) → next_of s ≡ next t w r → AllBytes s → take 3 (s ++ v) ≡ head t (length w)
  unfolding big_endian
  header_there s t w r v e a = ap (take 3) (as_written s t w r v e a)

  whole_there : (s : Bytes) (t : ℕ) (w r v : Bytes) → next_of s ≡ next t w r → AllBytes s → take (3 + length w) (s ++ v) ≡ head t (length w) ++ w
  unfolding big_endian
  whole_there s t w r v e a =
      let h : Bytes = head t (length w) ++ w in
      ap (take (3 + length w)) (as_written s t w r v e a ∙ sym (append_assoc (head t (length w)) w (r ++ v))) ∙ take_at h (r ++ v) (3 + length w) (omega arith)

  raised_leaf : (s : Bytes) (t : ℕ) (w r : Bytes) → next_of s ≡ next t w r → held 4 t ≡ only_bytes → Raised r (read_out 4 r) → Raised s (field t w end (read_out 4 r))
  unfolding Raised changed bytes
  raised_leaf s t w r e q hr a c v g =
      let h = held_none 4 t q in
      let z : eqb t 0x90 ≡ false = ne_eqb t 0x90 h.0 in
      let rest : Row = read_out 4 r in
      let x : Bytes = s ++ v in
      raised_next s t w r v e
      ∙ ap₂ (λ (a b : Bool). pick a (take 3 x ++ (further n (drop 3 x) ++ calls_raised n (drop 7 x))) (pick b (take 3 x ++ calls_raised n (drop 3 x)) (take (3 + length w) x ++ calls_raised n (r ++ v)))) z h.1
      ∙ ap₂ (λ (a b : Bytes). a ++ b) (whole_there s t w r v e a) (hr (all_parts s t w r e a).behind_all (left c t) v (rest_fine 4 c t w end rest g))
      ∙ append_assoc (head t (length w)) w (bytes (changed m rest) ++ calls_raised n v)
      ∙ sym (ap (λ (f : Bytes). bytes (field t f end (changed m rest)) ++ calls_raised n v) (other_front t w z) ∙ row_bytes t w end (changed m rest) (length w) (calls_raised n v) (ap length (append-nil w)))

  raised_nest : (s : Bytes) (t : ℕ) (w r : Bytes) (k : ℕ) → next_of s ≡ next t w r → Opens (held 4 t) w k → Raised (drop k w) (read_out 4 (drop k w)) → Raised r (read_out 4 r)
      → Raised s (field t (take k w) (read_out 4 (drop k w)) (read_out 4 r))
  unfolding Raised changed read_out up
  raised_nest s t w r k e o hi hr a c v g = sym (by_row ∙ sym both ∙ sym (on (cases_Bool (eqb t 0x90))))
    where
      inner : Row
      inner = read_out 4 (drop k w)

      rest : Row
      rest = read_out 4 r

      f : FrontIs 4 t k
      f = opened_front t k w o

      b : (front_right 4 t (take k w) ≡ true) × (good 4 (within t) inner ≡ Fine)
      b = nest_fine 4 c t (take k w) inner rest g f.nests_is

      x : Bytes
      x = s ++ v

      front : Bytes
      front = m t (take k w)

      -- the body is as long as it was
      sizes : length (front ++ bytes (changed m inner)) ≡ length w
      sizes =
          omega (arith, length-append front (bytes (changed m inner)), Rows.length_raised 0x90 n t (take k w), Rows.up_page_out n (record { templates = []; page_out = drop k w }), length-take k w, length-drop k w)

      by_row : bytes (changed m (field t (take k w) inner rest)) ++ calls_raised n v ≡ head t (length w) ++ (front ++ (bytes (changed m inner) ++ (bytes (changed m rest) ++ calls_raised n v)))
      by_row = row_bytes t front (changed m inner) (changed m rest) (length w) (calls_raised n v) sizes

      both : head t (length w) ++ (front ++ calls_raised n (drop k w ++ (r ++ v))) ≡ head t (length w) ++ (front ++ (bytes (changed m inner) ++ (bytes (changed m rest) ++ calls_raised n v)))
      both =
          let p = all_parts s t w r e a in
          ap (λ (y : Bytes). head t (length w) ++ (front ++ y))
          (hi (all_drop k w p.body_all) (within t) (r ++ v) b.1 ∙ ap (λ (y : Bytes). bytes (changed m inner) ++ y) (hr p.behind_all (left c t) v (rest_fine 4 c t (take k w) inner rest g)))

      by : Bool → Bytes
      by a = pick a (take 3 x ++ (further n (drop 3 x) ++ calls_raised n (drop 7 x))) (pick (nests t) (take 3 x ++ calls_raised n (drop 3 x)) (take (3 + length w) x ++ calls_raised n (r ++ v)))

      on : (eqb t 0x90 ≡ true) ⊎ (eqb t 0x90 ≡ false) → calls_raised n x ≡ head t (length w) ++ (front ++ calls_raised n (drop k w ++ (r ++ v)))
      on (inl y) =
          let q : k ≡ 4 = f.of_call (eqb-true t 0x90 y) in
          let l : 4 ≤ length w = front_whole t k w y b.0 in
          raised_next s t w r v e ∙ ap by y
          ∙ ap₂ (λ (h y : Bytes). h ++ (further n (drop 3 x) ++ calls_raised n y)) (header_there s t w r v e a) (behind_number s t k w r v e q l)
          ∙ ap (λ (j : ℕ). head t (length w) ++ (big_endian 4 ((j + n) % full_turn) [] ++ calls_raised n (drop k w ++ (r ++ v)))) (number_there s t k w r v e q l)
          ∙ ap (λ (y : Bytes). head t (length w) ++ (y ++ calls_raised n (drop k w ++ (r ++ v)))) (sym (call_front t (take k w) y (omega (arith, length-take k w))))
      on (inr z) =
          let q : k ≡ 0 = f.of_other (eqb-false t 0x90 z) in
          raised_next s t w r v e ∙ ap by z
          ∙ ap (λ (a : Bool). pick a (take 3 x ++ calls_raised n (drop 3 x)) (take (3 + length w) x ++ calls_raised n (r ++ v))) f.nests_is
          ∙ ap₂ (λ (h y : Bytes). h ++ calls_raised n y) (header_there s t w r v e a) (behind_header s t w r v e ∙ ap (λ (j : ℕ). drop j w ++ (r ++ v)) (sym q))
          ∙ ap (λ (y : Bytes). head t (length w) ++ (y ++ calls_raised n (drop k w ++ (r ++ v)))) (sym (other_front t (take k w) z ∙ ap (λ (j : ℕ). take j w) q))

  raises : (s : Bytes) → Raised s (read_out 4 s)
  unfolding Raised read_out good changed bytes
  raises =
      along (held 4) Raised (λ s e a c v g. ap (λ (x : Bytes). calls_raised n (x ++ v)) (next_nothing s e))
      (λ s e a c v g. refused R.Truncated g) raised_leaf raised_nest

  raised_nil : calls_raised n [] ≡ []
  unfolding next_of
  raised_nil = raised_step n []

  pub raised_are : (s : Bytes) → AllBytes s → check_page_out 4 s ≡ Fine → bytes (changed (raised 0x90 n) (read_out 4 s)) ≡ calls_raised n s
  unfolding check_page_out Raised
  raised_are s a g =
      sym (ap (calls_raised n) (sym (append-nil s)) ∙ raises s a E.Whole [] g ∙ ap (λ (x : Bytes). bytes (changed m (read_out 4 s)) ++ x) raised_nil ∙ append-nil (bytes (changed m (read_out 4 s))))

  -- as long as they were
  pub length_raised : (s : Bytes) → AllBytes s → check_page_out 4 s ≡ Fine → length (calls_raised n s) ≡ length s
  unfolding up
  length_raised s a g = ap length (sym (raised_are s a g)) ∙ Rows.up_page_out n (record { templates = []; page_out = s })

-- ---- so many further, or so many less than a full turn

around : (tag n t : ℕ) (f : Bytes) → raised tag n t f ≡ raised tag (n % 4294967296) t f
unfolding raised
around tag n t f =
    let e : (four f + n) % 4294967296 ≡ (four f + n % 4294967296) % 4294967296 = omega arith in
    ap (λ (k : ℕ). pick (eqb t tag && leb 4 (length f)) (big_endian 4 k [] ++ drop 4 f) f) e

pub raised_around : (tag n : ℕ) (x : Row) → changed (raised tag n) x ≡ changed (raised tag (n % full_turn)) x
unfolding changed
raised_around tag n end = refl
raised_around tag n (loose b) = refl
raised_around tag n (field t f i r) = λ j. field t (around tag n t f j) (raised_around tag n i j) (raised_around tag n r j)

-- f less, as the code has it: a full turn less f further, in 32 bits
pub raised_down : (tag f : ℕ) (x : Row) → f < 4294967296 → {k : ℕ} → k ≡ (4294967296 - f) % 4294967296 → changed (raised tag k) x ≡ changed (raised tag (opposite f)) x
unfolding opposite
raised_down tag f x l {k} e =
    let z : k ≡ (4294967296 - f % 4294967296) % 4294967296 = omega arith in
    ap (λ (j : ℕ). changed (raised tag j) x) z ∙ sym (raised_around tag (4294967296 - f % 4294967296) x)
