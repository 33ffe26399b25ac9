-- What `Given` asks, the project's rows have: the numbers in front of records and calls are changed by reading a row, changing fronts and writing
-- it. Whatever a page must meet and however its templates are counted, `given_by_rows` is a `Given`. Main statements: `length_renumbered`,
-- `renumbered_back`, `given_by_rows`, `lowers_by_rows`.
-- Assumes nothing.
use Prim.Native.Nat.{ℕ, zero, suc, ◌+◌, ◌%◌, ◌^◌, ◌≤◌, ◌<◌}
use mathlib.Core.Path.{◌≡◌, refl, sym, ap, ap₂, ◌∙◌, subst}
use mathlib.Core.Bool.{Bool, true, false, ◌&&◌, ◌||◌, not}
use mathlib.Core.List.{[], ◌++◌}
use mathlib.Core.Logic.{◌⊎◌, inl, inr}
use native.Mathlib.Omega.{arith}
use lib.Dec.{T, leb, ltb, eqb}
use lib.ListN.{length, take, drop, length-append, length-take, length-drop}
use Rattle.std.proofs.lemmas.Bool.{cases_Bool}
use borrow.Author.Tests.{leb-true}
use Rattle.field.specs.Bytes.{Bytes, AllBytes, pick}
use Rattle.field.specs.Number.{big_endian, number_of}
use Rattle.field.specs.Row.{Row, end, loose, field, bytes, long_body, Inside, only_bytes, fields_after, counted, counted_front, inside, read, read_by}
use Rattle.field.proofs.NumberLaws.{all_append, all_drop, all_big_endian}
use Rattle.field.proofs.Reading.{FrontFits, ShapedBy, SaneBy, next_nothing, next_sizes, length_bytes, along, back, shaped, written, sane, short, all_bytes}
use Rattle.page.proofs.TightRows.{length_read_by}
use Rattle.outs.specs.Held.{nests, held, read_out}
use Rattle.catalogue.specs.Page.{Body, IsBytes, Request, Given}
use Rattle.catalogue.specs.Catalogue.{four}
use Rattle.catalogue.specs.Numbers.{Change, changed, full_turn, raised, opposite, up, down, by_rows}
use Rattle.catalogue.proofs.Tests.{and_right}
use Rattle.catalogue.proofs.InPlace.{Lowers}
use Rattle.catalogue.proofs.Parts.{be_length, read_four, drop_four, four_split, four_below}

-- ---- rows read and changed, by what the tags hold

-- a change that keeps the length of each front, and of a counted one the count
record Keeps (holds : ℕ → Inside) (m : Change) : Type 0 where
  len : (t : ℕ) (f : Bytes) → length (m t f) ≡ length f
  count : (t n : ℕ) (f : Bytes) → holds t ≡ counted n → counted_front n (m t f) ≡ counted_front n f
  all : (t : ℕ) (f : Bytes) → AllBytes f → AllBytes (m t f)

module _ (holds : ℕ → Inside) where
  renumbered : Change → Bytes → Bytes
  renumbered m s = bytes (changed m (read_by holds s))

  module _ (m : Change) (k : Keeps holds m) where
    length_changed : (x : Row) → length (bytes (changed m x)) ≡ length (bytes x)
    unfolding changed
    length_changed end = refl
    length_changed (loose b) = refl
    length_changed (field t f i r) =
        length_bytes t (m t f) (changed m i) (changed m r) ∙ omega (arith, length_bytes t f i r, k.len t f, length_changed i, length_changed r)

    -- the count that a front has by itself is the same behind the change
    counted_changed : (n t : ℕ) (f : Bytes) (i : Row) → counted_front n (m t f) ≡ counted_front n f → FrontFits (counted n) f i → FrontFits (counted n) (m t f) (changed m i)
    unfolding changed FrontFits
    counted_changed n t f end e h = subst (λ (j : ℕ). T (leb j (counted_front n (m t f)))) (sym (k.len t f)) (subst (λ (j : ℕ). T (leb (length f) j)) (sym e) h)
    counted_changed n t f (loose b) e h = subst (λ (j : ℕ). T (eqb j (counted_front n (m t f)))) (sym (k.len t f)) (subst (λ (j : ℕ). T (eqb (length f) j)) (sym e) h)
    counted_changed n t f (field u g j r) e h = subst (λ (i : ℕ). T (eqb i (counted_front n (m t f)))) (sym (k.len t f)) (subst (λ (i : ℕ). T (eqb (length f) i)) (sym e) h)

    fits_changed : (c : Inside) (t : ℕ) (f : Bytes) (i : Row) → holds t ≡ c → FrontFits c f i → FrontFits c (m t f) (changed m i)
    unfolding changed FrontFits
    fits_changed only_bytes t f end q h = tt
    fits_changed only_bytes t f (loose b) q h = h
    fits_changed only_bytes t f (field u g j r) q h = h
    fits_changed (fields_after zero) t f i q h = subst (λ (n : ℕ). T (eqb n 0)) (sym (k.len t f)) h
    fits_changed (fields_after (suc n)) t f end q h = subst (λ (j : ℕ). T (leb j (suc n))) (sym (k.len t f)) h
    fits_changed (fields_after (suc n)) t f (loose b) q h = subst (λ (j : ℕ). T (eqb j (suc n))) (sym (k.len t f)) h
    fits_changed (fields_after (suc n)) t f (field u g j r) q h = subst (λ (i : ℕ). T (eqb i (suc n))) (sym (k.len t f)) h
    fits_changed (counted n) t f i q h = counted_changed n t f i (k.count t n f q) h

    shaped_changed : (x : Row) → ShapedBy holds x → ShapedBy holds (changed m x)
    unfolding changed
    shaped_changed end s = s
    shaped_changed (loose b) s = s
    shaped_changed (field t f i r) s = (fits_changed (holds t) t f i refl s.0, shaped_changed i s.1, shaped_changed r s.2)

    long_changed : (x : Row) → long_body (changed m x) ≡ long_body x
    unfolding changed long_body
    long_changed end = refl
    long_changed (loose b) = refl
    long_changed (field t f i r) =
        let e : length (m t f ++ bytes (changed m i)) ≡ length (f ++ bytes i) = length-append (m t f) (bytes (changed m i)) ∙ ap₂ (λ (a b : ℕ). a + b) (k.len t f) (length_changed i) ∙ sym (length-append f (bytes i)) in
        ap₂ (λ (n : ℕ) (b : Bool). ltb 65535 n || b) e (ap₂ (λ (a b : Bool). a || b) (long_changed i) (long_changed r))

    sane_changed : (x : Row) → SaneBy holds x → SaneBy holds (changed m x)
    unfolding changed
    sane_changed end s = s
    sane_changed (loose b) s = s
    sane_changed (field t f i r) s = (fits_changed (holds t) t f i refl s.0, k.all t f s.1, sane_changed i s.2, sane_changed r s.3, s.4)

    length_renumbered : (s : Bytes) → length (renumbered m s) ≡ length s
    unfolding renumbered
    length_renumbered s = length_changed (read_by holds s) ∙ length_read_by holds s

    all_renumbered : (s : Bytes) → AllBytes s → AllBytes (renumbered m s)
    unfolding renumbered
    all_renumbered s a = all_bytes holds (changed m (read_by holds s)) (sane_changed (read_by holds s) (sane holds s a))

    read_changed : (s : Bytes) → AllBytes s → read_by holds (renumbered m s) ≡ changed m (read_by holds s)
    unfolding renumbered
    read_changed s a =
        let l : long_body (changed m (read_by holds s)) ≡ false = long_changed (read_by holds s) ∙ short holds s a in
        back holds (changed m (read_by holds s)) (shaped_changed (read_by holds s) (shaped holds s)) (subst (λ (t : Bool). T (not t)) (sym l) tt)

    twice : (b c : Change) → ((t : ℕ) (f : Bytes) → b t (m t f) ≡ c t f) → (x : Row) → changed b (changed m x) ≡ changed c x
    unfolding changed
    twice b c e end = refl
    twice b c e (loose d) = refl
    twice b c e (field t f i r) = λ k. field t (e t f k) (twice b c e i k) (twice b c e r k)

    undone : (b : Change) → ((t : ℕ) (f : Bytes) → AllBytes f → b t (m t f) ≡ f) → (x : Row) → SaneBy holds x → changed b (changed m x) ≡ x
    unfolding changed
    undone b inv end s = refl
    undone b inv (loose c) s = refl
    undone b inv (field t f i r) s = λ k. field t (inv t f s.1 k) (undone b inv i s.2 k) (undone b inv r s.3 k)

    renumbered_twice : (b c : Change) → ((t : ℕ) (f : Bytes) → b t (m t f) ≡ c t f) → (s : Bytes) → AllBytes s → renumbered b (renumbered m s) ≡ renumbered c s
    unfolding renumbered
    renumbered_twice b c e s a = ap (λ (x : Row). bytes (changed b x)) (read_changed s a) ∙ ap bytes (twice b c e (read_by holds s))

    renumbered_back : (b : Change) → ((t : ℕ) (f : Bytes) → AllBytes f → b t (m t f) ≡ f) → (s : Bytes) → AllBytes s → renumbered b (renumbered m s) ≡ s
    unfolding renumbered
    renumbered_back b inv s a =
        ap (λ (x : Row). bytes (changed b x)) (read_changed s a) ∙ ap bytes (undone b inv (read_by holds s) (sane holds s a)) ∙ written holds s a

-- ---- a number of four bytes in front, raised: 2 to the 32 further is the same number

module _ (tag : ℕ) where
  pub length_raised : (n t : ℕ) (f : Bytes) → length (raised tag n t f) ≡ length f
  unfolding raised
  length_raised n t f = on (cases_Bool (eqb t tag && leb 4 (length f)))
    where
      g : Bytes
      g = big_endian 4 ((four f + n) % full_turn) [] ++ drop 4 f

      on : ((eqb t tag && leb 4 (length f)) ≡ true) ⊎ ((eqb t tag && leb 4 (length f)) ≡ false) → length (pick (eqb t tag && leb 4 (length f)) g f) ≡ length f
      on (inl e) =
          let l : 4 ≤ length f = leb-true 4 (length f) (and_right (eqb t tag) (leb 4 (length f)) e) in
          ap (λ (b : Bool). length (pick b g f)) e ∙ length-append (big_endian 4 ((four f + n) % full_turn) []) (drop 4 f) ∙ omega (arith, be_length ((four f + n) % full_turn), length-drop 4 f)
      on (inr e) = ap (λ (b : Bool). length (pick b g f)) e

  all_raised : (n t : ℕ) (f : Bytes) → AllBytes f → AllBytes (raised tag n t f)
  unfolding raised AllBytes
  all_raised n t f a = on (eqb t tag && leb 4 (length f))
    where
      on : (b : Bool) → AllBytes (pick b (big_endian 4 ((four f + n) % full_turn) [] ++ drop 4 f) f)
      on true = all_append (big_endian 4 ((four f + n) % full_turn) []) (drop 4 f) (all_big_endian 4 ((four f + n) % full_turn) [] tt) (all_drop 4 f a)
      on false = a

  -- a count behind the number stays
  count_raised : (n t : ℕ) (f : Bytes) → counted_front 4 (raised tag n t f) ≡ counted_front 4 f
  unfolding raised
  count_raised n t f = on (eqb t tag && leb 4 (length f))
    where
      on : (b : Bool) → counted_front 4 (pick b (big_endian 4 ((four f + n) % full_turn) [] ++ drop 4 f) f) ≡ counted_front 4 f
      on true = ap (λ (x : Bytes). 6 + number_of (take 2 x)) (drop_four ((four f + n) % full_turn) (drop 4 f))
      on false = refl

  raised_none : (t : ℕ) (f : Bytes) → AllBytes f → raised tag 0 t f ≡ f
  unfolding raised
  raised_none t f a = on (cases_Bool (eqb t tag && leb 4 (length f)))
    where
      g : Bytes
      g = big_endian 4 ((four f + 0) % full_turn) [] ++ drop 4 f

      on : ((eqb t tag && leb 4 (length f)) ≡ true) ⊎ ((eqb t tag && leb 4 (length f)) ≡ false) → pick (eqb t tag && leb 4 (length f)) g f ≡ f
      on (inl e) =
          let l : 4 ≤ length f = leb-true 4 (length f) (and_right (eqb t tag) (leb 4 (length f)) e) in
          let h : four f < full_turn = four_below f a in
          let w : (four f + 0) % full_turn ≡ four f = omega arith in
          ap (λ (b : Bool). pick b g f) e ∙ ap (λ (k : ℕ). big_endian 4 k [] ++ drop 4 f) w ∙ four_split f a l
      on (inr e) = ap (λ (b : Bool). pick b g f) e

  -- one raising after the other
  raised_raised : (n k j t : ℕ) (f : Bytes) → ((four f + n) % full_turn + k) % full_turn ≡ (four f + j) % full_turn → raised tag k t (raised tag n t f) ≡ raised tag j t f
  unfolding raised
  raised_raised n k j t f w = on (cases_Bool (eqb t tag && leb 4 (length f)))
    where
      x : ℕ
      x = (four f + n) % full_turn

      at : ℕ → Bytes → Bytes
      at i c = big_endian 4 ((four c + i) % full_turn) [] ++ drop 4 c

      on : ((eqb t tag && leb 4 (length f)) ≡ true) ⊎ ((eqb t tag && leb 4 (length f)) ≡ false) → raised tag k t (raised tag n t f) ≡ raised tag j t f
      on (inl e) =
          let g : Bytes = big_endian 4 x [] ++ drop 4 f in
          let r : raised tag n t f ≡ g = ap (λ (b : Bool). pick b g f) e in
          let e' : (eqb t tag && leb 4 (length g)) ≡ true = ap (λ (i : ℕ). eqb t tag && leb 4 i) (sym (ap length r) ∙ length_raised n t f) ∙ e in
          let h : x < 2 ^ 32 = omega arith in
          let y : (four g + k) % full_turn ≡ (four f + j) % full_turn = ap (λ (i : ℕ). (i + k) % full_turn) (read_four x (drop 4 f) h) ∙ w in
          ap (raised tag k t) r ∙ ap (λ (b : Bool). pick b (at k g) g) e'
          ∙ ap₂ (λ (i : ℕ) (c : Bytes). big_endian 4 i [] ++ c) y (drop_four x (drop 4 f)) ∙ ap (λ (b : Bool). pick b (at j f) f) (sym e)
      on (inr e) = ap (raised tag k t) (ap (λ (b : Bool). pick b (at n f) f) e) ∙ ap (λ (b : Bool). pick b (at k f) f) e ∙ ap (λ (b : Bool). pick b (at j f) f) (sym e)

  there_back : (n t : ℕ) (f : Bytes) → AllBytes f → raised tag (opposite n) t (raised tag n t f) ≡ f
  unfolding opposite
  there_back n t f a = let l : four f < full_turn = four_below f a in raised_raised n (opposite n) 0 t f (omega arith) ∙ raised_none t f a

  back_there : (n t : ℕ) (f : Bytes) → AllBytes f → raised tag n t (raised tag (opposite n) t f) ≡ f
  unfolding opposite
  back_there n t f a = let l : four f < full_turn = four_below f a in raised_raised (opposite n) n 0 t f (omega arith) ∙ raised_none t f a

  -- raised by m + n and lowered by n is raised by m
  lowered_part : (m n t : ℕ) (f : Bytes) → raised tag (opposite n) t (raised tag (m + n) t f) ≡ raised tag m t f
  unfolding opposite
  lowered_part m n t f = raised_raised (m + n) (opposite n) m t f (omega arith)

-- ---- both parts of a body

-- only an 84 counts in its front, behind four bytes
counts_by : (a b c d : Bool) (n : ℕ) → pick a (fields_after 4) (pick b (counted 4) (pick c (fields_after 2) (pick d (fields_after 0) only_bytes))) ≡ counted n → 4 ≡ n
counts_by true b c d n e = absurd (let z : ◌≡◌ {A = ℕ} 0 1 = cc in omega arith)
counts_by false true c d n e = cc
counts_by false false true d n e = absurd (let z : ◌≡◌ {A = ℕ} 0 1 = cc in omega arith)
counts_by false false false true n e = absurd (let z : ◌≡◌ {A = ℕ} 0 1 = cc in omega arith)
counts_by false false false false n e = absurd (let z : ◌≡◌ {A = ℕ} 0 1 = cc in omega arith)

-- in a page out as it is read back nothing does
pub counts_none : (a b : Bool) (n : ℕ) → pick a (fields_after 4) (pick b (fields_after 0) only_bytes) ≡ counted n → ⊥
counts_none true b n e = let z : ◌≡◌ {A = ℕ} 0 1 = cc in omega arith
counts_none false true n e = let z : ◌≡◌ {A = ℕ} 0 1 = cc in omega arith
counts_none false false n e = let z : ◌≡◌ {A = ℕ} 0 1 = cc in omega arith

keeps_templates : (n : ℕ) → Keeps inside (raised 0x84 n)
unfolding inside
keeps_templates n = record {
  len = length_raised 0x84 n;
  count = λ t k f q. subst (λ (j : ℕ). counted_front j (raised 0x84 n t f) ≡ counted_front j f) (counts_by (eqb t 0x90) (eqb t 0x84) (eqb t 0x80) ((leb 0x01 t && leb t 0x03) || (leb 0x10 t && leb t 0x12) || eqb t 0x30 || eqb t 0x31 || eqb t 0x41 || eqb t 0x42 || eqb t 0x50 || eqb t 0x52 || eqb t 0x53 || eqb t 0x61 || eqb t 0x76 || eqb t 0x77 || eqb t 0x79 || eqb t 0x82 || (leb 0x91 t && leb t 0x96)) k q) (count_raised 0x84 n t f);
  all = all_raised 0x84 n;
}

keeps_page_out : (n : ℕ) → Keeps (held 4) (raised 0x90 n)
unfolding held
keeps_page_out n = record {
  len = length_raised 0x90 n;
  count = λ t k f q. absurd (counts_none (eqb t 0x90) (nests t) k q);
  all = all_raised 0x90 n;
}

-- a body raised by n keeps its lengths, is bytes, and comes back
module _ (n : ℕ) (x : Body) where
  pub up_templates : length (up n x).templates ≡ length x.templates
  unfolding up read renumbered
  up_templates = length_renumbered inside (raised 0x84 n) (keeps_templates n) x.templates

  pub up_page_out : length (up n x).page_out ≡ length x.page_out
  unfolding up read_out renumbered
  up_page_out = length_renumbered (held 4) (raised 0x90 n) (keeps_page_out n) x.page_out

  pub up_bytes : IsBytes x → IsBytes (up n x)
  unfolding up read read_out renumbered
  up_bytes a = (all_renumbered inside (raised 0x84 n) (keeps_templates n) x.templates a.0, all_renumbered (held 4) (raised 0x90 n) (keeps_page_out n) x.page_out a.1)

  -- and reads as the row that was changed
  pub read_up : IsBytes x → (read (up n x).templates ≡ changed (raised 0x84 n) (read x.templates)) × (read_out 4 (up n x).page_out ≡ changed (raised 0x90 n) (read_out 4 x.page_out))
  unfolding up read read_out renumbered
  read_up a = (read_changed inside (raised 0x84 n) (keeps_templates n) x.templates a.0, read_changed (held 4) (raised 0x90 n) (keeps_page_out n) x.page_out a.1)

  up_and_back : (k : ℕ) → ((tag t : ℕ) (f : Bytes) → AllBytes f → raised tag k t (raised tag n t f) ≡ f) → IsBytes x → up k (up n x) ≡ x
  unfolding up read read_out renumbered
  up_and_back k inv a i = record {
    templates = renumbered_back inside (raised 0x84 n) (keeps_templates n) (raised 0x84 k) (inv 0x84) x.templates a.0 i;
    page_out = renumbered_back (held 4) (raised 0x90 n) (keeps_page_out n) (raised 0x90 k) (inv 0x90) x.page_out a.1 i;
  }

pub down_up : (n : ℕ) (x : Body) → IsBytes x → down n (up n x) ≡ x
unfolding down
down_up n x a = up_and_back n x (opposite n) (λ tag. there_back tag n) a

pub up_down : (n : ℕ) (x : Body) → IsBytes x → up n (down n x) ≡ x
unfolding down
up_down n x a = up_and_back (opposite n) x n (λ tag. back_there tag n) a

pub down_templates : (n : ℕ) (x : Body) → length (down n x).templates ≡ length x.templates
unfolding down
down_templates n x = up_templates (opposite n) x

pub down_page_out : (n : ℕ) (x : Body) → length (down n x).page_out ≡ length x.page_out
unfolding down
down_page_out n x = up_page_out (opposite n) x

pub down_bytes : (n : ℕ) (x : Body) → IsBytes x → IsBytes (down n x)
unfolding down
down_bytes n x a = up_bytes (opposite n) x a

-- whatever a page must meet, and however its templates are counted
abbrev pub given_by_rows : Request → (Body → ℕ) → (Body → ℕ) → Given
given_by_rows q judge forms = record {
  format = by_rows q judge forms;
  up_templates = up_templates;
  up_page_out = up_page_out;
  down_templates = down_templates;
  down_page_out = down_page_out;
  down_bytes = down_bytes;
  down_up = λ n x a j. down_up n x a;
  up_down = λ n x a j. up_down n x a;
}

-- and what is raised by m + f and lowered by f is raised by m
pub lowers_by_rows : (q : Request) (judge forms : Body → ℕ) → Lowers (given_by_rows q judge forms)
unfolding Lowers up down read read_out renumbered
lowers_by_rows q judge forms m f x a j i = record {
  templates = renumbered_twice inside (raised 0x84 (m + f)) (keeps_templates (m + f)) (raised 0x84 (opposite f)) (raised 0x84 m) (lowered_part 0x84 m f) x.templates a.0 i;
  page_out = renumbered_twice (held 4) (raised 0x90 (m + f)) (keeps_page_out (m + f)) (raised 0x90 (opposite f)) (raised 0x90 m) (lowered_part 0x90 m f) x.page_out a.1 i;
}
