-- The rewriting as a walk, and its turns. Main statements: `begins`, `fits`, `on_torn`, `on_leaf`, `on_open`, `on_pop`, `on_done`.
-- Assumes nothing.
use mathlib.Core.Path.{◌≡◌, refl, sym, ap, ap₂, ◌∙◌, subst}
use mathlib.Core.Logic.{◌⊎◌, inl, inr}
use mathlib.Core.Bool.{Bool, true, false, ◌&&◌, ◌||◌}
use Prim.Native.Nat.{ℕ, zero, suc, ◌+◌, ◌-◌, ◌*◌, ◌%◌, ◌^◌, ◌≤◌, ◌<◌, min}
use native.Mathlib.Omega.{arith}
use native.Mathlib.Decide.{dec_le}
use native.Mathlib.Numerals.{add-one}
use mathlib.Core.List.{List, [], ◌∷◌}
use lib.Dec.{ltb, eqb}
use lib.ListN.{length, get_or, take, drop, set, length-set, length-take, length-drop}
use lib.Seq.{take_all, take-take, drop-drop, get_or-set_same, get_or-set_other}
use borrow.Author.Tests.{eq-eqb, ne_eqb, eqb-true, eqb-false}
use Rattle.std.specs.Prelude.{Option, Some, None}
use Rattle.field.specs.Bytes.{Bytes, AllBytes, pick}
use Rattle.field.specs.Number.{number_of, number_from, big_endian}
use Rattle.field.specs.Row.{Row, end, field, field_bytes, bytes, Inside, only_bytes, fields_after}
use Rattle.field.specs.Header.{header_of, Within}
use Rattle.field.specs.Put.{head, Wrote}
use Rattle.field.specs.declared.reader.Header.{Header}
use Rattle.field.proofs.HeaderLaws.{within_field}
use Rattle.field.proofs.NumberLaws.{all_take, all_drop, length_big_endian}
use Rattle.field.proofs.PutLaws.{wrote_length, length_field_bytes}
use Rattle.field.proofs.Reading.{all_parts, length_bytes}
use Rattle.loops.proofs.Headers.{read_empty, read_torn, front_of, inner_of, body, next_is, field_is, length_body}
use Rattle.loops.proofs.Parts.{part, Room, drop_take}
use mathlib.Core.Logic.{inl}
use Rattle.loops.specs.Until.{until, HighEnough}
use Rattle.loops.proofs.Turns as T
use Rattle.outs.specs.Held.{held, read_out}
use Rattle.outs.specs.Renumber.{renumbered_front, renumbered, Renumbers}
use Rattle.outs.specs.Step.{Holding}
use Rattle.outs.proofs.StepLaws.{held_front, held_none}
use Rattle.renumber.specs.Step.{numbered}
use Rattle.renumber.specs.declared.Frame.{Frame}
use Rattle.renumber.proofs.Worlds.{World, over, does, writes, enters, leaves, does_end, does_loose, does_leaf, does_field, does_all}
use Rattle.renumber.proofs.Spans.{outer, outer_low, outer_out, span_in}

abbrev pub world : Bytes → ℕ → Bool → Bool → World
world o n l v = record { out = o; at = n; long = l; wide = v }

-- what a list of frames reads as past its end
abbrev pub none : Frame
none = record { head = 0; rest = 0; tag = 0 }

-- the frames, and the head from which the heads in them are counted
pub record Stack : Type 0 where
  pub base : ℕ
  pub frames : List Frame

abbrev pub lifted : ℕ → Frame → Frame
lifted base f = record { head = base + f.head; rest = f.rest; tag = f.tag }

abbrev pub rests : List Frame → ℕ → ℕ
rests fs i = (get_or fs i none).rest

-- nothing is expected of a row; to leave a field puts its head in
abbrev pub renumbers : ℕ → ℕ → T.Walk
renumbers from to =
    record {
      World = World;
      Expects = Unit {0};
      Frame = Frame;
      Stack = Stack;
      reads = read_out from;
      frame = λ st i. lifted st.base (get_or st.frames i none);
      does = λ c x w. does to x w;
      rest = λ f. f.rest;
      next = λ f. tt;
      leave = λ f w. leaves f.tag f.head w;
    }

-- what holds at each turn besides: the heads that are to be put in lie before the end of what is written, and what is written of the outermost
-- field that is open grows by no more than two bytes for each of its own
pub record Keeps (from to : ℕ) (s o : Bytes) (fs : List Frame) (h base at e : ℕ) (out : Bytes) (n : ℕ) (l v : Bool) : Type 0 where
  pub all : AllBytes s
  pub going : T.Going (renumbers from to) s (record { base = base; frames = fs }) h at e tt (world out n l v) (does to (read_out from s) (world o 0 false false))
  pub size : length fs ≡ 21846
  pub same_size : length out ≡ length o
  pub heads : (i : ℕ) → i < h → base + (get_or fs i none).head + 3 ≤ n
  pub spans : (h ≡ 0 → ⊥) → n + 3 * outer (rests fs) h e ≤ base + 196614 + 3 * at

-- the base where a field is entered: n, where none is open
pub record Based (h base n b' : ℕ) : Type 0 where
  pub kept : (h ≡ 0 → ⊥) → b' ≡ base
  pub first : h ≡ 0 → b' ≡ n

pub base_new : {h base n b' : ℕ} → h ≡ 0 → b' ≡ n → Based h base n b'
base_new z e = record { kept = λ k. absurd (k z); first = λ u. e }

pub base_same : {h base n b' : ℕ} → (h ≡ 0 → ⊥) → b' ≡ base → Based h base n b'
base_same k e = record { kept = λ u. e; first = λ z. absurd (k z) }

-- ---- what a body holds

not_call : (from t : ℕ) → held from t ≡ only_bytes → t ≡ 0x90 → ⊥
not_call from t k = (held_none from t k).0

-- only a call has a front
module _ (from t m : ℕ) (k : held from t ≡ fields_after m) where
  front_call : t ≡ 0x90 → m ≡ from
  front_call = (held_front from t m k).of_call

  front_none : (t ≡ 0x90 → ⊥) → m ≡ 0
  front_none = (held_front from t m k).of_other

  pub front_low : from ≤ 4 → m ≤ 4
  front_low l = on (eqb t 0x90) refl
    where
      on : (b : Bool) → eqb t 0x90 ≡ b → m ≤ 4
      on true e = omega (arith, front_call (eqb-true t 0x90 e))
      on false e = omega (arith, front_none (eqb-false t 0x90 e))

  module _ (f : Bytes) (l : length f ≤ m) where
    none_in : (t ≡ 0x90 → ⊥) → f ≡ []
    none_in z = on f (omega (arith, front_none z))
      where
        on : (g : Bytes) → length g ≤ 0 → g ≡ []
        on [] x = refl
        on (c ∷ g) x = absurd (omega arith)

    pub front_numbered : (to : ℕ) → renumbered_front to t f ≡ numbered to t (number_of f)
    front_numbered to = on (eqb t 0x90) refl
      where
        on : (b : Bool) → eqb t 0x90 ≡ b → pick b (big_endian to (number_of f) []) f ≡ pick b (big_endian to (number_of f) []) []
        on true e = refl
        on false e = none_in (eqb-false t 0x90 e)

    pub front_over : over t f ≡ ltb 65535 (number_of f)
    unfolding number_from
    front_over = on (eqb t 0x90) refl
      where
        on : (b : Bool) → eqb t 0x90 ≡ b → b && ltb 65535 (number_of f) ≡ ltb 65535 (number_of f)
        on true e = refl
        on false e = sym (ap (λ (g : Bytes). ltb 65535 (number_of g)) (none_in (eqb-false t 0x90 e)))

pub two_or_four : {to : ℕ} → (to ≡ 2) ⊎ (to ≡ 4) → to ≤ 4
two_or_four (inl e) = omega arith
two_or_four (inr e) = omega arith

-- what a front that is written is, by the tag and the width
pub numbered_not : (width t n : ℕ) → (t ≡ 0x90 → ⊥) → numbered width t n ≡ []
numbered_not width t n z = ap (λ (b : Bool). pick b (big_endian width n []) []) (ne_eqb t 0x90 z)

pub numbered_call : (width t n k : ℕ) → t ≡ 0x90 → width ≡ k → numbered width t n ≡ big_endian k n []
numbered_call width t n k z w = ap₂ (λ (b : Bool) (j : ℕ). pick b (big_endian j n []) []) (eq-eqb t 0x90 z) w

pub four_left : {width : ℕ} → (width ≡ 2) ⊎ (width ≡ 4) → (width ≡ 2 → ⊥) → width ≡ 4
four_left (inl e) z = absurd (z e)
four_left (inr e) z = e

pub length_numbered : (to t n : ℕ) → to ≤ 4 → length (numbered to t n) ≤ 4
length_numbered to t n l = on (eqb t 0x90)
  where
    on : (b : Bool) → length (pick b (big_endian to n []) []) ≤ 4
    on true = omega (arith, length_big_endian to n [])
    on false = omega arith

-- the front and the fields of a body that may be shorter than the front
front_is : (m e st : ℕ) (b : Bytes) → 3 ≤ e → st ≡ 3 + min m (e - 3) → take m (body b e) ≡ take (st - 3) (drop 3 b)
front_is m e st b x q = on (dec_le m (e - 3))
  where
    on : Dec (m ≤ e - 3) → take m (body b e) ≡ take (st - 3) (drop 3 b)
    on (yes y) =
        let z : m ≡ st - 3 = omega arith in
        take-take m (e - 3) (drop 3 b) y ∙ ap (λ (k : ℕ). take k (drop 3 b)) z
    on (no y) =
        let z : e - 3 ≡ st - 3 = omega arith in
        take_all m (body b e) (omega (arith, length-take (e - 3) (drop 3 b))) ∙ ap (λ (k : ℕ). take k (drop 3 b)) z

inner_is : (m e st : ℕ) (b : Bytes) → 3 ≤ e → st ≡ 3 + min m (e - 3) → drop m (body b e) ≡ take (e - st) (drop st b)
inner_is m e st b x q = drop_take m (e - 3) (drop 3 b) ∙ on (dec_le m (e - 3))
  where
    on : Dec (m ≤ e - 3) → take (e - 3 - m) (drop m (drop 3 b)) ≡ take (e - st) (drop st b)
    on (yes y) =
        let z : e - 3 - m ≡ e - st = omega arith in
        let k : 3 + m ≡ st = omega arith in
        rw (drop-drop m 3 b, z, k)
    on (no y) =
        let z : e - 3 - m ≡ 0 = omega arith in
        let k : e - st ≡ 0 = omega arith in
        rw (z, k)

pub start_is : (m e st : ℕ) → 3 ≤ e → st ≡ 3 + min m (e - 3) → (3 ≤ st) × (st ≤ e) × (st - 3 ≤ m)
start_is m e st x q = (omega arith, omega arith, omega arith)

pub take_short : (k : ℕ) (b : Bytes) → length (take k b) ≤ k
take_short k b = omega (arith, length-take k b)

-- the number of a front, of which there are eight bytes at most
pub number_is : (k : ℕ) (b : Bytes) {u : ℕ} → k ≤ 8 → u ≡ number_of (take 8 (take k b)) → u ≡ number_of (take k b)
number_is k b l e = e ∙ ap number_of (take_all 8 (take k b) (omega (arith, take_short k b)))

-- ---- what is written grows

rises : (from to : ℕ) {s : Bytes} {st : Stack} {h e : ℕ} {l : World → World} → T.Waits (renumbers from to) s st h e l → (w : World) → w.at ≤ (l w).at
unfolding does leaves
rises from to (T.bottom z) w = omega arith
rises from to {s} (T.under {e = e} {l = l} g f q d a c r v) w =
    let w' : World = does to (read_out from (part s e g)) (leaves f.tag f.head w) in
    let up : w.at ≤ w'.at = omega arith in
    let on : w'.at ≤ (l w').at = rises from to v w' in
    omega (arith, up, on)

-- a body in another is short
room_low : (h a e : ℕ) → Room h a e → (h ≡ 0 → ⊥) → e ≤ a + 65535
room_low zero a e r z = absurd (z refl)
room_low (suc h) a e r z = omega arith

-- a head more is to be put in
heads_more : (fs : List Frame) (h base b' n n' w : ℕ) (f : Frame) → ((i : ℕ) → i < h → base + (get_or fs i none).head + 3 ≤ n) → ((h ≡ 0 → ⊥) → b' ≡ base) → b' + f.head ≡ n → h < length fs → n' ≡ n + 3 + w → (i : ℕ) → i < h + 1 → b' + (get_or (set fs h f) i none).head + 3 ≤ n'
heads_more fs h base b' n n' w f a k q b c i u = on (dec_le h i)
  where
    on : Dec (h ≤ i) → b' + (get_or (set fs h f) i none).head + 3 ≤ n'
    on (yes y) =
        let z : h ≡ i = omega arith in
        let s : get_or (set fs h f) i none ≡ f = ap (λ (j : ℕ). get_or (set fs h f) j none) (sym z) ∙ get_or-set_same fs h f none b in
        omega (arith, ap (λ (j : Frame). j.head) s)
    on (no y) =
        let s = get_or-set_other fs h i f none (λ z. omega arith) in
        let same : b' ≡ base = k (λ z. omega arith) in
        omega (arith, ap (λ (j : Frame). j.head) s, a i (omega arith))

-- ---- the turns

pub begins : (from to : ℕ) (s o : Bytes) (fs : List Frame) → AllBytes s → length fs ≡ 21846 → Keeps from to s o fs 0 0 0 (length s) o 0 false false
begins from to s o fs a z =
    record {
      all = a;
      going = T.start (renumbers from to) s (record { base = 0; frames = fs }) tt (world o 0 false false);
      size = z;
      same_size = refl;
      heads = λ i x. absurd (omega arith);
      spans = λ x. absurd (x refl);
    }

module _ {from to : ℕ} {s o : Bytes} {fs : List Frame} {h base at e : ℕ} {out : Bytes} {n : ℕ} {l v : Bool} (p : Keeps from to s o fs h base at e out n l v) where
  -- what the rest of the body comes to has room behind what is written
  pub fits : {x : Row} → read_out from (part s at e) ≡ x → n + length (bytes (renumbered to x)) ≤ length (bytes (renumbered to (read_out from s)))
  unfolding does
  fits {x} q =
      let w : World = does to (read_out from (part s at e)) (world out n l v) in
      let a : w.at ≤ (p.going.later w).at = rises from to p.going.waits w in
      let b = ap (λ (w : World). w.at) p.going.total in
      let c : length (bytes (renumbered to (read_out from (part s at e)))) ≡ length (bytes (renumbered to x)) = ap (λ (r : Row). length (bytes (renumbered to r))) q in
      omega (arith, a, b, c)

  -- the body has ended
  ended : length (part s at e) ≡ 0 → does to (read_out from (part s at e)) (world out n l v) ≡ world out n l v
  unfolding read_out
  ended z = ap (λ (r : Row). does to r (world out n l v)) (read_empty (held from) (part s at e) z) ∙ does_end to (world out n l v)

  pub on_done : length (part s at e) ≡ 0 → h ≡ 0 → Renumbers to (read_out from s) o out n l v
  on_done z x = does_all (T.on_done p.going (ended z) x)

  -- the base, where a field is entered
  module _ {b' : ℕ} (b : Based h base n b') where
    pub base_low : b' ≤ n
    base_low = on (dec_le 1 h)
      where
        on : Dec (1 ≤ h) → b' ≤ n
        on (yes z) = omega (arith, b.kept (λ u. omega arith), p.heads 0 (omega arith))
        on (no z) = omega (arith, b.first (omega arith))

    -- so close that four bytes say where the head is
    pub head_low : n - b' < 2 ^ 32
    head_low = on (dec_le 1 h)
      where
        on : Dec (1 ≤ h) → n - b' < 2 ^ 32
        on (yes z) =
            let no : h ≡ 0 → ⊥ = λ u. omega arith in
            omega (arith, b.kept no, p.spans no, outer_low (rests fs) h e, p.going.ordered)
        on (no z) = omega (arith, b.first (omega arith))

  part_all : AllBytes (part s at e)
  part_all = all_take (e - at) (drop at s) (all_drop at s p.all)

  module _ {v0 : Option Header} (q : v0 ≡ header_of (part s at e)) (x : v0 ≡ None) (z : length (part s at e) ≡ 0 → ⊥) where
    pub fits_torn : n + length (part s at e) ≤ length (bytes (renumbered to (read_out from s)))
    unfolding read_out renumbered bytes
    fits_torn = fits (read_torn (held from) (part s at e) q x z)

    pub on_torn : {out' : Bytes} {n' : ℕ} → Wrote out n (part s at e) out' n' → Keeps from to s o fs h base e e out' n' l v
    unfolding writes read_out
    on_torn {out'} {n'} w =
        let b : Bytes = part s at e in
        let k = T.left_is p.going in
        let y : at + length b ≡ e = omega (arith, p.going.ordered) in
        let d : does to (read_out from b) (world out n l v) ≡ does to (read_out from (drop (length b) b)) (world out' n' l v) =
        ap (λ (r : Row). does to r (world out n l v)) (read_torn (held from) b q x z) ∙ rw (w.out_is, w.end_is) (does_loose to b (world out n l v))
        ∙ sym (ap (λ (r : Row). does to r (world out' n' l v)) (read_empty (held from) (drop (length b) b) (length-drop (length b) b ∙ omega arith)) ∙ does_end to (world out' n' l v)) in
        record {
          all = p.all;
          going = rw y at (T.on_leaf p.going (length b) (omega arith) d);
          size = p.size;
          same_size = wrote_length w ∙ p.same_size;
          heads = λ i u. omega (arith, p.heads i u, w.end_is);
          spans = λ u. omega (arith, p.spans u, w.end_is);
        }

  module _ {v0 : Option Header} (q : v0 ≡ header_of (part s at e)) (i : Within (length (part s at e)) v0) {hd : Header} (x : v0 ≡ Some hd) where
    -- a length has two bytes
    short : hd.end ≤ 65538
    short =
        let c : Bytes = part s at e in
        let a = all_parts c hd.tag (body c hd.end) (drop hd.end c) (next_is c q i x) part_all in
        omega (arith, length_body c q i x, (within_field i x).0, a.body_short)

    module _ {r : Option ℕ} (k : Holding (held from hd.tag) r) (k' : r ≡ None) where
      leaf_is : read_out from (part s at e) ≡ field hd.tag (body (part s at e) hd.end) end (read_out from (drop hd.end (part s at e)))
      unfolding read_out
      leaf_is =
          let c : Bytes = part s at e in
          let only : held from hd.tag ≡ only_bytes = subst (Holding (held from hd.tag)) k' k in
          field_is c q i x (held from) ∙ ap (λ (j : Inside). field hd.tag (front_of j (body c hd.end)) (inner_of (held from) j (body c hd.end)) (read_out from (drop hd.end c))) only

      pub fits_leaf : n + hd.end ≤ length (bytes (renumbered to (read_out from s)))
      unfolding renumbered
      fits_leaf =
          let c : Bytes = part s at e in
          let only : held from hd.tag ≡ only_bytes = subst (Holding (held from hd.tag)) k' k in
          let no : renumbered_front to hd.tag (body c hd.end) ≡ body c hd.end = ap (λ (b : Bool). pick b (big_endian to (number_of (body c hd.end)) []) (body c hd.end)) (ne_eqb hd.tag 0x90 (not_call from hd.tag only)) in
          omega (arith, fits leaf_is, length_bytes hd.tag (renumbered_front to hd.tag (body c hd.end)) end (renumbered to (read_out from (drop hd.end c))), ap length no, length_body c q i x, (within_field i x).0)

      pub on_leaf : {out' : Bytes} {n' : ℕ} → Wrote out n (field_bytes hd.tag (body (part s at e) hd.end)) out' n' → Keeps from to s o fs h base (at + hd.end) e out' n' l v
      unfolding writes
      on_leaf {out'} {n'} w =
          let c : Bytes = part s at e in
          let only : held from hd.tag ≡ only_bytes = subst (Holding (held from hd.tag)) k' k in
          let g : Bytes = body c hd.end in
          let z = length_body c q i x in
          let f = length_field_bytes hd.tag g in
          let u = within_field i x in
          let rest : Row = read_out from (drop hd.end c) in
          let d : does to (read_out from c) (world out n l v) ≡ does to rest (world out' n' l v) =
          ap (λ (j : Row). does to j (world out n l v)) leaf_is ∙ does_leaf to hd.tag g rest (world out n l v) (not_call from hd.tag only) (omega (arith, short))
          ∙ rw (w.out_is, w.end_is) refl in
          record {
            all = p.all;
            going = T.on_leaf p.going hd.end u.1 d;
            size = p.size;
            same_size = wrote_length w ∙ p.same_size;
            heads = λ i u. omega (arith, p.heads i u, w.end_is);
            spans = λ no. omega (arith, p.spans no, w.end_is, u.0);
          }

    pub deep : {k : ℕ} → HighEnough k (length s) → h < k
    deep hi =
        let z = T.left_is p.going in
        let u = within_field i x in
        T.deep p.going hi (omega (arith, u.0, u.1, p.going.ordered))

    module _ {r : Option ℕ} {m st : ℕ} (k : Holding (held from hd.tag) r) (k' : r ≡ Some m) (g : st ≡ 3 + min m (hd.end - 3)) where
      after : held from hd.tag ≡ fields_after m
      after = subst (Holding (held from hd.tag)) k' k

      front_fits : length (take (st - 3) (drop 3 (part s at e))) ≤ m
      front_fits = omega (arith, take_short (st - 3) (drop 3 (part s at e)), (start_is m hd.end st (within_field i x).0 g).2)

      open_is : read_out from (part s at e) ≡ field hd.tag (take (st - 3) (drop 3 (part s at e))) (read_out from (take (hd.end - st) (drop st (part s at e)))) (read_out from (drop hd.end (part s at e)))
      unfolding read_out
      open_is =
          let c : Bytes = part s at e in
          let u = within_field i x in
          field_is c q i x (held from) ∙ ap (λ (j : Inside). field hd.tag (front_of j (body c hd.end)) (inner_of (held from) j (body c hd.end)) (read_out from (drop hd.end c))) after
          ∙ ap₂ (λ (f j : Bytes). field hd.tag f (read_out from j) (read_out from (drop hd.end c))) (front_is m hd.end st c u.0 g) (inner_is m hd.end st c u.0 g)

      pub starts : (3 ≤ st) × (st ≤ hd.end) × (hd.end ≤ length (part s at e))
      starts =
          let u = within_field i x in
          let w = start_is m hd.end st u.0 g in
          (w.0, w.1, u.1)

      pub call_number : {u : ℕ} → from ≤ 4 → u ≡ number_of (take 8 (take (st - 3) (drop 3 (part s at e)))) → u ≡ number_of (take (st - 3) (drop 3 (part s at e)))
      call_number a z = number_is (st - 3) (drop 3 (part s at e)) (omega (arith, front_low from hd.tag m after a, (start_is m hd.end st (within_field i x).0 g).2)) z

      module _ {u : ℕ} (un : u ≡ number_of (take (st - 3) (drop 3 (part s at e)))) where
        written : renumbered_front to hd.tag (take (st - 3) (drop 3 (part s at e))) ≡ numbered to hd.tag u
        written = front_numbered from hd.tag m after (take (st - 3) (drop 3 (part s at e))) front_fits to ∙ ap (numbered to hd.tag) (sym un)

        pub fits_open : n + 3 + length (numbered to hd.tag u) ≤ length (bytes (renumbered to (read_out from s)))
        unfolding renumbered
        fits_open =
            let c : Bytes = part s at e in
            let f : Bytes = renumbered_front to hd.tag (take (st - 3) (drop 3 c)) in
            omega (arith, fits open_is, length_bytes hd.tag f (renumbered to (read_out from (take (hd.end - st) (drop st c)))) (renumbered to (read_out from (drop hd.end c))), ap length written)

        pub on_open : {b' : ℕ} {out' : Bytes} {n' : ℕ} → Based h base n b' → to ≤ 4 → Wrote out (n + 3) (numbered to hd.tag u) out' n'
            → Keeps from to s o (set fs h (record { head = n - b'; rest = (e - at - hd.end) % 65536; tag = hd.tag })) (h + 1) b' (at + st) (at + hd.end) out' n' l (v || ltb 65535 u)
        unfolding enters
        on_open {b'} {out'} {n'} eb four w =
            let c : Bytes = part s at e in
            let f : Bytes = take (st - 3) (drop 3 c) in
            let fr : Frame = record { head = n - b'; rest = (e - at - hd.end) % 65536; tag = hd.tag } in
            let up : Frame = record { head = n; rest = (e - at - hd.end) % 65536; tag = hd.tag } in
            let inner : Row = read_out from (take (hd.end - st) (drop st c)) in
            let rest : Row = read_out from (drop hd.end c) in
            let lo = starts in
            let room = deep {k = 21846} (inl refl) in
            let fits : h < length fs = omega (arith, p.size) in
            let found : b' + (n - b') ≡ n = omega (arith, base_low eb) in
            let same : lifted b' (get_or (set fs h fr) h none) ≡ up =
            ap (lifted b') (get_or-set_same fs h fr none fits) ∙ ap (λ (j : ℕ). record { head = j; rest = (e - at - hd.end) % 65536; tag = hd.tag }) found in
            let below : (j : ℕ) → j < h → lifted b' (get_or (set fs h fr) j none) ≡ lifted base (get_or fs j none) = λ j z. ap₂ lifted (eb.kept (λ o. omega arith)) (T.set_below fs h fr none j z) in
            let again : (h ≡ 0 → ⊥) → at + hd.end + (get_or (set fs h fr) h none).rest ≡ e =
            λ z. omega (arith, ap (λ (j : Frame). j.rest) (get_or-set_same fs h fr none fits), room_low h at e p.going.room z, T.left_is p.going, lo.2, p.going.ordered) in
            let is_over : over hd.tag f ≡ ltb 65535 u = front_over from hd.tag m after f front_fits ∙ ap (ltb 65535) (sym un) in
            let d : does to (read_out from c) (world out n l v) ≡ does to rest (leaves hd.tag n (does to inner (world out' n' l (v || ltb 65535 u)))) =
            ap (λ (j : Row). does to j (world out n l v)) open_is ∙ does_field to hd.tag f inner rest (world out n l v) ∙ rw (w.out_is, w.end_is, written, is_over) refl in
            record {
              all = p.all;
              going = T.on_open p.going (record { base = b'; frames = set fs h fr }) up same below st hd.end lo.0 lo.1 lo.2 short refl d;
              size = length-set fs h fr ∙ p.size;
              same_size = wrote_length w ∙ p.same_size;
              heads = heads_more fs h base b' n n' (length (numbered to hd.tag u)) fr p.heads eb.kept found fits w.end_is;
              spans = λ z. rw (add-one h) (span_in (rests fs) (rests (set fs h fr)) h at e hd.end st base b' n (length (numbered to hd.tag u)) n' p.spans (λ j z. ap (λ (x : Frame). x.rest) (T.set_below fs h fr none j z)) again eb.kept eb.first lo.0 short (length_numbered to hd.tag u four) w.end_is);
            }

on_close : {from to : ℕ} {s o : Bytes} {fs : List Frame} (h : ℕ) {base at e : ℕ} {out out' : Bytes} {n n' : ℕ} {l v : Bool} → Keeps from to s o fs h base at e out n l v → length (part s at e) ≡ 0 → (h ≡ 0 → ⊥)
    → Wrote out (base + (get_or fs (h - 1) none).head) (head (get_or fs (h - 1) none).tag (n - (base + (get_or fs (h - 1) none).head) - 3)) out' n'
    → Keeps from to s o fs (h - 1) base at (until (h - 1) at (get_or fs (h - 1) none).rest (length s)) out' n (l || ltb 65535 (n - (base + (get_or fs (h - 1) none).head) - 3)) v
unfolding leaves
on_close {s = s} {fs = fs} h {base} {at} {e} p z x w =
    let same : at ≡ e = omega (arith, T.left_is p.going, p.going.ordered) in
    record {
      all = p.all;
      going = rw w.out_is (T.on_end h p.going z (ended p z) x);
      size = p.size;
      same_size = wrote_length w ∙ p.same_size;
      heads = λ i u. p.heads i (omega arith);
      spans = λ u. omega (arith, p.spans x, outer_out (rests fs) h at (length s) x u, ap (outer (rests fs) h) same);
    }

-- the same, where f is the frame on top of h' more
pub on_pop : {from to : ℕ} {s o : Bytes} {fs : List Frame} {h base at e : ℕ} {out out' : Bytes} {n n' : ℕ} {l v : Bool} → Keeps from to s o fs h base at e out n l v → length (part s at e) ≡ 0 → {h' : ℕ} {f : Frame} → h ≡ h' + 1 → get_or fs h' none ≡ f
    → Wrote out (base + f.head) (head f.tag (n - (base + f.head) - 3)) out' n'
    → Keeps from to s o fs h' base at (until h' at f.rest (length s)) out' n (l || ltb 65535 (n - (base + f.head) - 3)) v
on_pop {from} {to} {s} {o} {fs} {h} {base} {at} {e} {out} {out'} {n} {n'} {l} {v} p z {h'} {f} x q =
    let m : h - 1 ≡ h' = omega arith in
    subst (λ (j : Frame). Wrote out (base + j.head) (head j.tag (n - (base + j.head) - 3)) out' n' → Keeps from to s o fs h' base at (until h' at j.rest (length s)) out' n (l || ltb 65535 (n - (base + j.head) - 3)) v) q
    (subst (λ (i : ℕ). Wrote out (base + (get_or fs i none).head) (head (get_or fs i none).tag (n - (base + (get_or fs i none).head) - 3)) out' n' → Keeps from to s o fs i base at (until i at (get_or fs i none).rest (length s)) out' n (l || ltb 65535 (n - (base + (get_or fs i none).head) - 3)) v) m
    (on_close h p z (λ o. omega arith)))
