-- The loop over children that are merged twice: what scratch holds, and what is left to do, through each kind of child.
-- Main statements: `Merging`, `text_on`, `joined_on`, `cut_on`, `element_on`, `fragment_on`, `other_on`, `merging_end`.
-- Assumes nothing.
use mathlib.Core.Path.{◌≡◌, refl, sym, ap, ◌∙◌, subst}
use Prim.Native.Nat.{ℕ, ◌+◌, ◌*◌, ◌≤◌, ◌<◌, ◌^◌}
use native.Mathlib.Omega.{arith}
use mathlib.Core.Bool.{Bool, true, false}
use mathlib.Core.List.{List, [], ◌∷◌, ◌++◌, append-nil, append_assoc}
use lib.Dec.{ltb}
use lib.ListN.{length, take, drop, length-append}
use lib.Seq.{length-take-le, take_at}
use borrow.Author.Tests.{lt-ltb, le-ltb, ltb-false}
use Rattle.field.specs.Bytes.{Bytes}
use Rattle.field.specs.Row.{Row, read, Ended}
use Rattle.field.specs.Fields.{IsFront}
use Rattle.field.specs.Put.{Wrote}
use Rattle.field.proofs.PutLaws.{put_fits, wrote_length}
use Rattle.text.specs.Escape.{escape_html}
use Rattle.text.specs.Text.{jsx_text_to_str}
use Rattle.text.proofs.TextBounds.{length_text}
use Rattle.page.specs.Tree.{contained_in, Contained, nothing_contained, contained, expr_in}
use Rattle.spec.specs.Pass as S
use Rattle.spec.specs.Pass.{Part, chars, gap, pure}
use Rattle.spec.specs.Merge.{Child, merge, long_run, short_runs}
use Rattle.spec.specs.Children.{children_to_string}
use Rattle.spec.specs.Transform.{shape_of, fragment_of, expr}
use Rattle.decisions.specs.At.{opts, element_at}
use Rattle.decisions.specs.Becomes.{joins, leaves, as_child}
use Rattle.decisions.proofs.BecomesLaws.{joins_text, joins_nothing, leaves_none, leaves_expr}
use Rattle.strings.specs.declared.writer.Open.{Open}
use Rattle.strings.specs.declared.due.Due.{Due}
use Rattle.strings.specs.declared.due.Due.TheVariants.{Long}
use Rattle.strings.specs.Due.{graver, long_due}
use Rattle.strings.specs.Carve.{Carved, at, carve, close, flagged, put_again, Low}
use Rattle.strings.proofs.CarveLaws.{lows}
use Rattle.strings.proofs.MergeLaws.{twice, twice_is, run, twice_none, twice_text, twice_empty, twice_spread, twice_joined, twice_container, twice_element, twice_fragment, twice_low}
use Rattle.strings.proofs.ShapeLaws.{joined_length}
use Rattle.strings.proofs.TreeLaws.{kids, held, kids_60, kids_52, kids_30, kids_31, kids_none, kids_other}

-- ---- put_run

module _ (o : Bytes) (st : Open) (n : ℕ) (t : Bytes) where
  pub run_long : 65535 < n → {d : Due} → d ≡ graver st.due Long → at o (record { head = st.head; len = st.len; gaps = st.gaps; due = d }) ≡ put_again n t (at o st)
  unfolding put_again
  run_long h e = rw (lt-ltb 65535 n h) (λ i. at o (record { head = st.head; len = st.len; gaps = st.gaps; due = e i }))

  pub run_short : n ≤ 65535 → put_again n t (at o st) ≡ carve (chars (jsx_text_to_str t true false) ∷ []) (at o st)
  unfolding put_again carve
  run_short h = rw (le-ltb 65535 n h)

-- ---- scratch

-- the first n bytes are the run; of a run that is longer than scratch only its length is kept
pub record Holding (scratch : Bytes) (n : ℕ) (buf : Bytes) : Type 0 where
  pub length_is : n ≡ length buf
  pub bytes_are : n ≤ length scratch → take n scratch ≡ buf

pub holding_none : (scratch : Bytes) → Holding scratch 0 []
holding_none scratch = record { length_is = refl; bytes_are = λ h. refl }

pub holding_more : {scratch scratch' buf j : Bytes} {n n' : ℕ} → Holding scratch n buf → Wrote scratch n j scratch' n' → Holding scratch' n' (buf ++ j)
holding_more {scratch} {scratch'} {buf} {j} {n} {n'} h w =
    record {
      length_is = omega (arith, h.length_is, w.end_is, length-append buf j);
      bytes_are = λ l. all (omega (arith, l, w.end_is, wrote_length w));
    }
  where
    all : n + length j ≤ length scratch → take n' scratch' ≡ buf ++ j
    all l =
        let m : n ≤ length scratch = omega (arith, l) in
        let k : length (take n scratch ++ j) ≡ n' = omega (arith, length-append (take n scratch) j, length-take-le n scratch m, w.end_is) in
        ap (take n') (w.out_is ∙ put_fits scratch n j l ∙ sym (append_assoc (take n scratch) j (drop (n + length j) scratch)))
        ∙ take_at (take n scratch ++ j) (drop (n + length j) scratch) n' k ∙ ap (λ (x : Bytes). x ++ j) (h.bytes_are m)

-- put_run by what scratch holds
pub run_is : {scratch buf : Bytes} {n : ℕ} → Holding scratch n buf → 65536 ≤ length scratch → (w : Carved) → put_again n (take n scratch) w ≡ run buf w
unfolding put_again
run_is {scratch} {buf} {n} h m w = on (ltb 65535 n) refl ∙ ap (λ (k : ℕ). put_again k buf w) h.length_is
  where
    on : (b : Bool) → ltb 65535 n ≡ b → put_again n (take n scratch) w ≡ put_again n buf w
    on true e = rw e
    on false e = ap (λ (x : Bytes). put_again n x w) (h.bytes_are (omega (arith, m, ltb-false 65535 n e)))

-- ---- a container, with the run so far

module _ (skip props : Bytes) (buf : Bytes) (cs : List Child) (w : Carved) where
  held_joined : (x : Contained) {u : Bytes} → joins u ≡ as_child x → twice buf (held skip props x ∷ cs) w ≡ twice (buf ++ escape_html u) cs w
  unfolding as_child
  held_joined nothing_contained q = twice_empty buf cs w ∙ ap (λ (b : Bytes). twice b cs w) (sym (ap (λ (j : Bytes). buf ++ j) (joins_nothing q) ∙ append-nil buf))
  held_joined (contained e) q = twice_joined buf cs w (shape_of e) (expr (opts skip props) e S.none) (joins_text (shape_of e) q)

  held_cut : (r : Row) {z : Bool} → leaves z ≡ as_child (contained_in r) → twice buf (held skip props (contained_in r) ∷ cs) w ≡ twice [] cs (close (run buf w))
  unfolding as_child
  held_cut r {z} q =
      let e = expr_in r in
      let h : contained_in r ≡ contained e = leaves_expr r q in
      ap (λ (x : Contained). twice buf (held skip props x ∷ cs) w) h
      ∙ twice_container buf cs w (shape_of e) (expr (opts skip props) e S.none) (leaves_none (shape_of e) (q ∙ ap as_child h))

-- ---- the loop

-- t is left of the series s; the open string stands at w, and the run so far is n bytes long
pub record Merging (skip props s : Bytes) (start : Carved) (big : ℕ) (scratch : Bytes) (w : Carved) (t : Bytes) (n : ℕ) : Type 0 where
  pub buf : Bytes
  pub holding : Holding scratch n buf
  pub sized : length scratch ≡ big
  pub room : n + 20 * length t ≤ 20 * length s
  pub left : twice buf (kids skip props t) w ≡ twice [] (kids skip props s) start

module _ {skip props s : Bytes} {start : Carved} {big : ℕ} where
  -- the field in front of t has the tag k and the body b, and r lies behind it
  module _ {scratch : Bytes} {w : Carved} {t : Bytes} {n : ℕ} (m : Merging skip props s start big scratch w t n) {k : ℕ} {b r : Bytes} (f : IsFront t k b r) where
    module _ (short : length s < 2 ^ 32) where
      pub text_room : n + length (jsx_text_to_str b false false) < 2 ^ 63
      text_room = omega (arith, m.room, short, length_text b false, f.sizes)

      pub joined_room : {u : Bytes} → joins u ≡ as_child (contained_in (read b)) → n + length (escape_html u) < 2 ^ 63
      joined_room q = omega (arith, m.room, short, joined_length b q, f.sizes)

    -- something is written into scratch
    more : {j scratch' : Bytes} {n' : ℕ} → Wrote scratch n j scratch' n' → length j ≤ 6 * length b + 36 →
        twice m.buf (kids skip props t) w ≡ twice (m.buf ++ j) (kids skip props r) w → Merging skip props s start big scratch' w r n'
    more {j} u l z =
        record {
          buf = m.buf ++ j;
          holding = holding_more m.holding u;
          sized = wrote_length u ∙ m.sized;
          room = omega (arith, m.room, u.end_is, l, f.sizes);
          left = sym z ∙ m.left;
        }

    pub text_on : k ≡ 0x60 → {scratch' : Bytes} {n' : ℕ} → Wrote scratch n (jsx_text_to_str b false false) scratch' n' → Merging skip props s start big scratch' w r n'
    text_on g u =
        more u (omega (arith, length_text b false))
        (ap (λ (cs : List Child). twice m.buf cs w) (kids_60 skip props t k f.tag_is f.body_is f.behind_is g) ∙ twice_text m.buf (kids skip props r) w b)

    module _ (g : k ≡ 0x52) where
      contained_left : twice m.buf (kids skip props t) w ≡ twice m.buf (held skip props (contained_in (read b)) ∷ kids skip props r) w
      contained_left = ap (λ (cs : List Child). twice m.buf cs w) (kids_52 skip props t k f.tag_is f.body_is f.behind_is g)

      pub joined_on : {j : Bytes} → joins j ≡ as_child (contained_in (read b)) → {scratch' : Bytes} {n' : ℕ} → Wrote scratch n (escape_html j) scratch' n' →
          Merging skip props s start big scratch' w r n'
      joined_on q u = more u (joined_length b q) (contained_left ∙ held_joined skip props m.buf (kids skip props r) w (contained_in (read b)) q)

      ends_52 : {z : Bool} → leaves z ≡ as_child (contained_in (read b)) → twice m.buf (kids skip props t) w ≡ twice [] (kids skip props r) (carve (gap (pure S.none) ∷ []) (run m.buf w))
      unfolding carve
      ends_52 q = contained_left ∙ held_cut skip props m.buf (kids skip props r) w (read b) q

    ends_30 : k ≡ 0x30 → twice m.buf (kids skip props t) w ≡ twice [] (kids skip props r) (carve (element_at skip props b).to_string_vec (run m.buf w))
    ends_30 g =
        ap (λ (cs : List Child). twice m.buf cs w) (kids_30 skip props t k f.tag_is f.body_is f.behind_is g) ∙ twice_element m.buf (kids skip props r) w (element_at skip props b)

    ends_31 : k ≡ 0x31 → twice m.buf (kids skip props t) w ≡ twice [] (kids skip props r) (carve (children_to_string false (kids skip props b)) (run m.buf w))
    unfolding fragment_of
    ends_31 g =
        ap (λ (cs : List Child). twice m.buf cs w) (kids_31 skip props t k f.tag_is f.body_is f.behind_is g) ∙ twice_fragment m.buf (kids skip props r) w (fragment_of (kids skip props b))

    pub other_on : (k ≡ 0x60 → ⊥) → (k ≡ 0x52 → ⊥) → (k ≡ 0x30 → ⊥) → (k ≡ 0x31 → ⊥) → Merging skip props s start big scratch w r n
    other_on a c d e =
        record {
          buf = m.buf;
          holding = m.holding;
          sized = m.sized;
          room = omega (arith, m.room, f.sizes);
          left = sym (kids_other skip props t k f.tag_is f.behind_is (λ (cs : List Child). twice m.buf cs w) (λ x cs. twice_spread m.buf cs w x) (λ z. omega (arith, f.tag_below, z)) a c d e) ∙ m.left;
        }

  module _ {scratch : Bytes} {w : Carved} {t : Bytes} {n : ℕ} (m : Merging skip props s start big scratch w t n) (large : 65536 ≤ big) (low : Low (carve (children_to_string false (short_runs (merge false false [] (kids skip props s)))) start)) where
    all_low : Low (twice [] (kids skip props s) start)
    all_low = subst Low (twice_is (kids skip props s) start) low

    flushed : put_again n (take n scratch) w ≡ run m.buf w
    flushed = run_is m.holding (omega (arith, large, m.sized)) w

    -- the run ends, the parts ps are written, and r is left
    module _ (ps : List Part) (r : Bytes) (z : twice m.buf (kids skip props t) w ≡ twice [] (kids skip props r) (carve ps (run m.buf w))) where
      low_parts : Low (carve ps (run m.buf w))
      low_parts = twice_low [] (kids skip props r) (carve ps (run m.buf w)) (subst Low (sym m.left ∙ z) all_low)

      run_room : Low (put_again n (take n scratch) w)
      run_room = subst Low (sym flushed) (lows.back ps (run m.buf w) low_parts)

      module _ {w₁ : Carved} (u : w₁ ≡ put_again n (take n scratch) w) where
        parts_room : Low (carve ps w₁)
        parts_room = subst Low (ap (carve ps) (sym (u ∙ flushed))) low_parts

        flush_on : {w₂ : Carved} → w₂ ≡ carve ps w₁ → length r ≤ length t → Merging skip props s start big scratch w₂ r 0
        flush_on {w₂} v q =
            record {
              buf = [];
              holding = holding_none scratch;
              sized = m.sized;
              room = omega (arith, m.room, q);
              left = ap (twice [] (kids skip props r)) (v ∙ ap (carve ps) (u ∙ flushed)) ∙ sym z ∙ m.left;
            }

    module _ {k : ℕ} {b r : Bytes} (f : IsFront t k b r) where
      -- a container that stays dynamic
      module _ (g : k ≡ 0x52) {z : Bool} (q : leaves z ≡ as_child (contained_in (read b))) where
        pub cut_run : Low (put_again n (take n scratch) w)
        cut_run = run_room (gap (pure S.none) ∷ []) r (ends_52 m f g q)

        module _ {w₁ : Carved} (u : w₁ ≡ put_again n (take n scratch) w) where
          pub cut_room : Low (close w₁)
          unfolding carve
          cut_room = parts_room (gap (pure S.none) ∷ []) r (ends_52 m f g q) u

          pub cut_on : {w₂ : Carved} → w₂ ≡ close w₁ → Merging skip props s start big scratch w₂ r 0
          unfolding carve
          cut_on v = flush_on (gap (pure S.none) ∷ []) r (ends_52 m f g q) u v (omega (arith, f.sizes))

      module _ (g : k ≡ 0x30) where
        pub element_run : Low (put_again n (take n scratch) w)
        element_run = run_room (element_at skip props b).to_string_vec r (ends_30 m f g)

        module _ {w₁ : Carved} (u : w₁ ≡ put_again n (take n scratch) w) where
          pub element_room : Low (carve (element_at skip props b).to_string_vec w₁)
          element_room = parts_room (element_at skip props b).to_string_vec r (ends_30 m f g) u

          pub element_on : {w₂ : Carved} → w₂ ≡ carve (element_at skip props b).to_string_vec w₁ → Merging skip props s start big scratch w₂ r 0
          element_on v = flush_on (element_at skip props b).to_string_vec r (ends_30 m f g) u v (omega (arith, f.sizes))

      module _ (g : k ≡ 0x31) where
        pub fragment_run : Low (put_again n (take n scratch) w)
        fragment_run = run_room (children_to_string false (kids skip props b)) r (ends_31 m f g)

        module _ {w₁ : Carved} (u : w₁ ≡ put_again n (take n scratch) w) where
          pub fragment_room : Low (carve (children_to_string false (kids skip props b)) w₁)
          fragment_room = parts_room (children_to_string false (kids skip props b)) r (ends_31 m f g) u

          pub fragment_on : {w₂ : Carved} → w₂ ≡ carve (children_to_string false (kids skip props b)) w₁ → Merging skip props s start big scratch w₂ r 0
          fragment_on v = flush_on (children_to_string false (kids skip props b)) r (ends_31 m f g) u v (omega (arith, f.sizes))

    -- no child is left
    module _ (i : Ended (read t)) where
      last_run : twice m.buf (kids skip props t) w ≡ run m.buf w
      last_run = ap (λ (cs : List Child). twice m.buf cs w) (kids_none skip props t i) ∙ twice_none m.buf w

      pub last_room : Low (put_again n (take n scratch) w)
      last_room = subst Low (sym m.left ∙ last_run ∙ sym flushed) all_low

      module _ {w₁ : Carved} (u : w₁ ≡ put_again n (take n scratch) w) where
        pub merging_end : w₁ ≡ flagged (long_due (long_run (merge false false [] (kids skip props s)))) (carve (children_to_string false (short_runs (merge false false [] (kids skip props s)))) start)
        merging_end = u ∙ flushed ∙ sym last_run ∙ m.left ∙ sym (twice_is (kids skip props s) start)
