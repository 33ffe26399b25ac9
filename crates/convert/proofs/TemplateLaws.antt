-- The loop over records: what it keeps, and what is written of a record. Main statements: `in_front`, `sound_read`, `Keeps`, `keeps_on`, `keeps_end`,
-- `raise_wrote`, `lower_wrote`. Assumes nothing.
use mathlib.Core.Path.{◌≡◌, refl, sym, ap, ap₂, ◌∙◌, subst}
use mathlib.Core.Bool.{Bool, true, false, ◌&&◌, ◌||◌}
use Prim.Native.Nat.{ℕ, ◌+◌, ◌-◌, ◌≤◌, ◌<◌, ◌^◌}
use native.Mathlib.Omega.{arith}
use mathlib.Core.List.{[], ◌∷◌, ◌++◌, append-nil, append_assoc}
use lib.Dec.{leb, ltb}
use lib.ListN.{length, take, drop, length-append, length-drop, take-append-drop}
use lib.Seq.{take_all}
use borrow.Author.Tests.{le-leb, lt-leb}
use Rattle.field.specs.Bytes.{Bytes, AllBytes}
use Rattle.field.specs.Number.{big_endian, number_of}
use Rattle.field.specs.Row.{Row, end, loose, field, field_bytes, bytes, long_body, Inside, only_bytes, fields_after, counted, counted_front, inside, opened, read, Ended}
use Rattle.field.specs.Front.{tag_of_front, body_of, behind_of}
use Rattle.field.specs.Put.{put, head, Wrote}
use Rattle.field.proofs.NumberLaws.{length_big_endian, big_endian_append, all_drop}
use Rattle.field.proofs.PutLaws.{put_nil, wrote_length, wrote_then, wrote_is, wrote_field, length_head, length_field_bytes}
use Rattle.field.proofs.FrontLaws.{read_at, parts_at}
use Rattle.field.proofs.RowLaws.{Shaped, read_shaped, bytes_read, not_long}
use Rattle.refusal.specs.Refusal.{Fine}
use Rattle.outs.specs.Templates.{check_records, check_templates}
use Rattle.outs.specs.declared.Kind.{Kind}
use Rattle.outs.specs.declared.Kind.TheVariants.{Old, New}
use Rattle.convert.specs.Flat.{kind_marks, all_clear, same_kinds, gaps_in, strings_at, kinds_at, rewritten_body, body_clear, rewritten_tag, BodyFits, rewritten_bytes, all_bodies_clear, some_body_long, WroteBody, WroteAll}
use Rattle.std.proofs.lemmas.Float.{T_from_false}
use Rattle.std.proofs.Math.Bool.{or_assoc}
use Rattle.convert.specs.declared.templates.Rewritten.{Rewritten}
use Rattle.convert.specs.declared.kinds.Markup.{Markup}
use Rattle.convert.specs.declared.kinds.Markup.TheVariants as M
use Rattle.convert.proofs.KindLaws.{length_marks, put_on}
use Rattle.convert.proofs.RecordLaws.{Sound, record_of, fits, room, old_length, new_length}

-- ---- what stands in front of bytes

pub record InFront (s : Bytes) (t : ℕ) : Type 0 where
  pub front : Bytes
  pub inner : Row
  pub read_is : read s ≡ field t front inner (read (behind_of s))
  pub body_is : front ++ bytes inner ≡ body_of s

pub in_front : (s : Bytes) (t : ℕ) → t ≡ tag_of_front s → (t ≡ 256 → ⊥) → AllBytes s → InFront s t
unfolding opened bytes
in_front s t e h a = on (inside t) (read_at s t e h)
  where
    w : Bytes
    w = body_of s

    split : (n : ℕ) → take n w ++ bytes (read (drop n w)) ≡ w
    split n = ap (λ (x : Bytes). take n w ++ x) (bytes_read (drop n w) (all_drop n w (parts_at s t e h a).body_all)) ∙ take-append-drop n w

    on : (c : Inside) → read s ≡ opened c read t w (behind_of s) → InFront s t
    on only_bytes q = record { front = w; inner = end; read_is = q; body_is = append-nil w }
    on (fields_after n) q = record { front = take n w; inner = read (drop n w); read_is = q; body_is = split n }
    on (counted n) q = record { front = take (counted_front n w) w; inner = read (drop (counted_front n w) w); read_is = q; body_is = split (counted_front n w) }

pub sound_read : (k : Kind) (s : Bytes) → AllBytes s → check_templates k s ≡ Fine → Sound k (read s)
unfolding check_templates Shaped
sound_read k s a h = record { fine = h; shaped = read_shaped s; short = T_from_false (long_body (read s)) (not_long s a) }

-- ---- the loop

-- what is written and what is left to write are all
pub record Keeps (k : Kind) (s o t out : Bytes) (n : ℕ) (long : Bool) : Type 0 where
  pub all : AllBytes t
  pub fine : check_records k (read t) ≡ Fine
  pub same_size : length out ≡ length o
  pub left_is : put out n (rewritten_bytes k (read t)) ≡ put o 0 (rewritten_bytes k (read s))
  pub size_left : n + length (rewritten_bytes k (read t)) ≡ length (rewritten_bytes k (read s))
  pub long_left : (long || some_body_long k (read t)) ≡ some_body_long k (read s)
  pub clear_left : all_bodies_clear k (read t) ≡ all_bodies_clear k (read s)
  pub low : length (rewritten_bytes k (read s)) < 2 ^ 64

pub keeps_begins : (k : Kind) (s o : Bytes) → AllBytes s → check_templates k s ≡ Fine → length s < 2 ^ 63 → Keeps k s o s o 0 false
unfolding check_templates
keeps_begins k s o a h l =
    record {
      all = a;
      fine = h;
      same_size = refl;
      left_is = refl;
      size_left = omega arith;
      long_left = refl;
      clear_left = refl;
      low = omega (arith, room k (read s) (sound_read k s a h), ap length (bytes_read s a));
    }

module _ {k : Kind} {s o t out : Bytes} {n : ℕ} {long : Bool} (g : Keeps k s o t out n long) where
  module _ {u : ℕ} (e : u ≡ tag_of_front t) (h : u ≡ 256 → ⊥) where
    p : InFront t u
    p = in_front t u e h g.all

    fine_here : check_records k (field u p.front p.inner (read (behind_of t))) ≡ Fine
    fine_here = ap (check_records k) (sym p.read_is) ∙ g.fine

    bytes_next : rewritten_bytes k (read t) ≡ field_bytes (rewritten_tag k) (rewritten_body k (body_of t)) ++ rewritten_bytes k (read (behind_of t))
    unfolding rewritten_bytes
    bytes_next = ap (rewritten_bytes k) p.read_is ∙ ap (λ (x : Bytes). field_bytes (rewritten_tag k) (rewritten_body k x) ++ rewritten_bytes k (read (behind_of t))) p.body_is

    long_next : some_body_long k (read t) ≡ (ltb 65535 (length (rewritten_body k (body_of t))) || some_body_long k (read (behind_of t)))
    unfolding some_body_long
    long_next = ap (some_body_long k) p.read_is ∙ ap (λ (x : Bytes). ltb 65535 (length (rewritten_body k x)) || some_body_long k (read (behind_of t))) p.body_is

    clear_next : all_bodies_clear k (read t) ≡ (body_clear k (body_of t) && all_bodies_clear k (read (behind_of t)))
    unfolding all_bodies_clear
    clear_next = ap (all_bodies_clear k) p.read_is ∙ ap (λ (x : Bytes). body_clear k x && all_bodies_clear k (read (behind_of t))) p.body_is

    size_next : length (rewritten_bytes k (read t)) ≡ length (field_bytes (rewritten_tag k) (rewritten_body k (body_of t))) + length (rewritten_bytes k (read (behind_of t)))
    size_next = ap length bytes_next ∙ length-append (field_bytes (rewritten_tag k) (rewritten_body k (body_of t))) (rewritten_bytes k (read (behind_of t)))

    pub fits_body : {w : Bytes} → w ≡ body_of t → BodyFits k w × (n + length (field_bytes (rewritten_tag k) (rewritten_body k w)) < 2 ^ 64)
    fits_body {w} q =
        subst (λ (x : Bytes). BodyFits k x × (n + length (field_bytes (rewritten_tag k) (rewritten_body k x)) < 2 ^ 64)) (sym q)
        (subst (BodyFits k) p.body_is (fits k u p.front p.inner (read (behind_of t)) fine_here), omega (arith, size_next, g.size_left, g.low))

    keeps_here : {out' : Bytes} {r : Rewritten} → WroteBody k (body_of t) out n out' r → Keeps k s o (behind_of t) out' r.place (long || r.long)
    keeps_here {out'} {r} w =
        let rest : Row = read (behind_of t) in
        record {
          all = (parts_at t u e h g.all).behind_all;
          fine = (record_of k u p.front p.inner (read (behind_of t)) fine_here).rest_is;
          same_size = wrote_length w.wrote ∙ g.same_size;
          left_is = put_on w.wrote (rewritten_bytes k rest) ∙ ap (put out n) (sym bytes_next) ∙ g.left_is;
          size_left = omega (arith, w.wrote.end_is, size_next, g.size_left);
          long_left = or_assoc long r.long (some_body_long k rest) ∙ ap (λ (x : Bool). long || (x || some_body_long k rest)) w.long_is ∙ ap (λ (x : Bool). long || x) (sym long_next) ∙ g.long_left;
          clear_left = sym (ap (λ (x : Bool). x && all_bodies_clear k rest) w.clear_is) ∙ sym clear_next ∙ g.clear_left;
          low = g.low;
        }

    pub keeps_on : {w l out' : Bytes} {r : Rewritten} → w ≡ body_of t → WroteBody k w out n out' r → l ≡ behind_of t → Keeps k s o l out' r.place (long || r.long)
    keeps_on {w} {l} {out'} {r} qw d ql =
        subst (λ (x : Bytes). Keeps k s o x out' r.place (long || r.long)) (sym ql) (keeps_here (subst (λ (x : Bytes). WroteBody k x out n out' r) qw d))

    -- the other form cannot say this record
    pub keeps_stops : {w : Bytes} → w ≡ body_of t → body_clear k w ≡ false → all_bodies_clear k (read s) ≡ false
    keeps_stops {w} qw d = sym g.clear_left ∙ clear_next ∙ ap (λ (x : Bytes). body_clear k x && all_bodies_clear k (read (behind_of t))) (sym qw) ∙ ap (λ (x : Bool). x && all_bodies_clear k (read (behind_of t))) d

  pub keeps_end : Ended (read t) → WroteAll k (read s) o out (record { place = n; long = long })
  keeps_end i =
      record {
        out_is = sym (put_nil out n) ∙ ap (put out n) (sym (none_left (read t) i)) ∙ g.left_is;
        bytes_is = omega (arith, g.size_left, ap length (none_left (read t) i));
        long_is = sym (or_false long) ∙ ap (λ (x : Bool). long || x) (sym (none_long (read t) i)) ∙ g.long_left;
        clear_is = sym g.clear_left ∙ all_clear_left (read t) i;
      }
    where
      none_left : (x : Row) → Ended x → rewritten_bytes k x ≡ []
      none_left end i = unfold rewritten_bytes in refl
      none_left (loose b) i = unfold rewritten_bytes in refl
      none_left (field a f j r) i = absurd i

      none_long : (x : Row) → Ended x → some_body_long k x ≡ false
      none_long end i = unfold some_body_long in refl
      none_long (loose b) i = unfold some_body_long in refl
      none_long (field a f j r) i = absurd i

      all_clear_left : (x : Row) → Ended x → all_bodies_clear k x ≡ true
      all_clear_left end i = unfold all_bodies_clear in refl
      all_clear_left (loose b) i = unfold all_bodies_clear in refl
      all_clear_left (field a f j r) i = absurd i

      or_false : (b : Bool) → (b || false) ≡ b
      or_false true = refl
      or_false false = refl

-- ---- writing a record

pub part_rest : (n : ℕ) (w : Bytes) → take (length w - n) (drop n w) ≡ drop n w
part_rest n w = take_all (length w - n) (drop n w) (omega (arith, length-drop n w))

pub head_end : {o o' : Bytes} {at a : ℕ} (t n : ℕ) → Wrote o at (head t n) o' a → a ≡ at + 3
head_end t n w = omega (arith, w.end_is, length_head t n)

pub number_end : {o o' : Bytes} {at a : ℕ} (k n : ℕ) → Wrote o at (big_endian k n []) o' a → a ≡ at + k
number_end k n w = omega (arith, w.end_is, length_big_endian k n [])

pub marks_end : {o o' : Bytes} {at a : ℕ} (g : ℕ) (m : Markup) (s : Bytes) → Wrote o at (kind_marks g m s) o' a → a ≡ at + g
marks_end g m s w = omega (arith, w.end_is, length_marks g m s)

-- 80 to 84
module _ (w : Bytes) where
  pub raise_room : (at : ℕ) → at + length (field_bytes 0x84 (rewritten_body Old w)) < 2 ^ 64 → {g : ℕ} → g ≡ gaps_in (take (length w - 2) (drop 2 w)) → at + (9 + g + length (take (length w - 2) (drop 2 w))) < 2 ^ 64
  raise_room at h {g} q =
      let l : length (field_bytes 0x84 (rewritten_body Old w)) ≡ 9 + gaps_in (drop 2 w) + length (drop 2 w) = omega (arith, length_field_bytes 0x84 (rewritten_body Old w), old_length w) in
      let k : g ≡ gaps_in (drop 2 w) = q ∙ ap gaps_in (part_rest 2 w) in
      let z : length (take (length w - 2) (drop 2 w)) ≡ length (drop 2 w) = ap length (part_rest 2 w) in
      omega arith

  old_parts : (s : Bytes) (g n : ℕ) → s ≡ drop 2 w → g ≡ gaps_in (drop 2 w) → n ≡ number_of (take 2 w) → big_endian 4 n [] ++ (big_endian 2 g [] ++ (kind_marks g M.Outside s ++ s)) ≡ rewritten_body Old w
  unfolding rewritten_body
  old_parts s g n es eg en =
      let d : Bytes = drop 2 w in
      let v : ℕ = gaps_in d in
      let ks : Bytes = kind_marks v M.Outside d in
      let m : ℕ = number_of (take 2 w) in
      ap₂ (λ (x : Bytes) (y : ℕ). big_endian 4 n [] ++ (big_endian 2 y [] ++ (kind_marks y M.Outside x ++ x))) es eg
      ∙ ap (λ (x : ℕ). big_endian 4 x [] ++ (big_endian 2 v [] ++ (ks ++ d))) en
      ∙ sym (ap (λ (x : Bytes). x ++ d) (big_endian_append 4 m (big_endian 2 v ks) ∙ ap (λ (x : Bytes). big_endian 4 m [] ++ x) (big_endian_append 2 v ks))
      ∙ append_assoc (big_endian 4 m []) (big_endian 2 v [] ++ ks) d
      ∙ ap (λ (x : Bytes). big_endian 4 m [] ++ x) (append_assoc (big_endian 2 v []) ks d))

  pub raise_wrote : {o o₁ o₂ o₃ o₄ o₅ : Bytes} {at a b c m e n g : ℕ} → n ≡ number_of (take 2 w) → g ≡ gaps_in (take (length w - 2) (drop 2 w)) → Wrote o at (head 0x84 (6 + g + length (take (length w - 2) (drop 2 w)))) o₁ a → Wrote o₁ a (big_endian 4 n []) o₂ b → Wrote o₂ b (big_endian 2 g []) o₃ c
      → Wrote o₃ c (kind_marks g M.Outside (take (length w - 2) (drop 2 w))) o₄ m × (all_clear (kind_marks g M.Outside (take (length w - 2) (drop 2 w))) ≡ true) → Wrote o₄ m (take (length w - 2) (drop 2 w)) o₅ e
      → WroteBody Old w o at o₅ (record { place = e; long = ltb 65535 (6 + g + length (take (length w - 2) (drop 2 w))) })
  unfolding body_clear
  raise_wrote {o} {o₁} {o₂} {o₃} {o₄} {o₅} {at} {a} {b} {c} {m} {e} {n} {g} en eg w₁ w₂ w₃ w₄ w₅ =
      let s : Bytes = take (length w - 2) (drop 2 w) in
      let es : s ≡ drop 2 w = part_rest 2 w in
      let eg' : g ≡ gaps_in (drop 2 w) = eg ∙ ap gaps_in es in
      let l : 6 + g + length s ≡ length (rewritten_body Old w) = omega (arith, old_length w, ap length es) in
      let body : Wrote o₁ a (rewritten_body Old w) o₅ e = wrote_is (old_parts s g n es eg' en) (wrote_then w₂ (wrote_then w₃ (wrote_then w₄.0 w₅))) in
      record {
        wrote = wrote_field 0x84 (subst (λ (x : ℕ). Wrote o at (head 0x84 x) o₁ a) l w₁) body;
        long_is = ap (ltb 65535) l;
        clear_is = sym (ap₂ (λ (x : ℕ) (y : Bytes). all_clear (kind_marks x M.Outside y)) eg' es) ∙ w₄.1;
      }

  pub raise_stops : {g : ℕ} → g ≡ gaps_in (take (length w - 2) (drop 2 w)) → all_clear (kind_marks g M.Outside (take (length w - 2) (drop 2 w))) ≡ false → body_clear Old w ≡ false
  unfolding body_clear
  raise_stops {g} eg h =
      let es : take (length w - 2) (drop 2 w) ≡ drop 2 w = part_rest 2 w in
      sym (ap₂ (λ (x : ℕ) (y : Bytes). all_clear (kind_marks x M.Outside y)) (eg ∙ ap gaps_in es) es) ∙ h

-- 84 to 80
module _ (w : Bytes) where
  pub lower_room : (at : ℕ) → at + length (field_bytes 0x80 (rewritten_body New w)) < 2 ^ 64 → (f : ℕ) → f ≡ counted_front 4 w → at + (5 + length (take (length w - f) (drop f w))) < 2 ^ 64
  lower_room at h f q =
      let k : take (length w - f) (drop f w) ≡ strings_at w = part_rest f w ∙ ap (λ (x : ℕ). drop x w) q in
      omega (arith, length_field_bytes 0x80 (rewritten_body New w), new_length w, ap length k)

  -- what the tests of an 84 say
  module _ (f n : ℕ) (sk : Bool) (q : f ≡ counted_front 4 w) (en : n ≡ number_of (take 4 w))
      (es : sk ≡ same_kinds (take (f - 6) (drop 6 w)) (kind_marks (length (take (f - 6) (drop 6 w))) M.Outside (take (length w - f) (drop f w)))) where
    strings_are : take (length w - f) (drop f w) ≡ strings_at w
    strings_are = part_rest f w ∙ ap (λ (x : ℕ). drop x w) q

    pub lower_clear : body_clear New w ≡ (leb n 65535 && sk)
    unfolding body_clear
    lower_clear =
        let kk : take (f - 6) (drop 6 w) ≡ kinds_at w = ap (λ (x : ℕ). take (x - 6) (drop 6 w)) q in
        sym (ap₂ (λ (x : ℕ) (y : Bool). leb x 65535 && y) en (es ∙ ap₂ (λ (x y : Bytes). same_kinds x (kind_marks (length x) M.Outside y)) kk strings_are))

    pub lower_number_stops : 65535 < n → body_clear New w ≡ false
    lower_number_stops h = lower_clear ∙ ap (λ (x : Bool). x && sk) (lt-leb n 65535 h)

    pub lower_kinds_stop : sk ≡ false → body_clear New w ≡ false
    lower_kinds_stop h = lower_clear ∙ ap (λ (x : Bool). leb n 65535 && x) h ∙ none (leb n 65535)
      where
        none : (b : Bool) → (b && false) ≡ false
        none true = refl
        none false = refl

    pub lower_wrote : n ≤ 65535 → sk ≡ true → {o o₁ o₂ o₃ : Bytes} {at a b e : ℕ} → Wrote o at (head 0x80 (2 + length (take (length w - f) (drop f w)))) o₁ a → Wrote o₁ a (big_endian 2 n []) o₂ b → Wrote o₂ b (take (length w - f) (drop f w)) o₃ e
        → WroteBody New w o at o₃ (record { place = e; long = ltb 65535 (2 + length (take (length w - f) (drop f w))) })
    unfolding rewritten_body
    lower_wrote h k {o} {o₁} {o₂} {o₃} {at} {a} {b} {e} w₁ w₂ w₃ =
        let s : Bytes = take (length w - f) (drop f w) in
        let l : 2 + length s ≡ length (rewritten_body New w) = omega (arith, new_length w, ap length strings_are) in
        let p : big_endian 2 n [] ++ s ≡ rewritten_body New w = ap₂ (λ (x : ℕ) (y : Bytes). big_endian 2 x [] ++ y) en strings_are in
        record {
          wrote = wrote_field 0x80 (subst (λ (x : ℕ). Wrote o at (head 0x80 x) o₁ a) l w₁) (wrote_is p (wrote_then w₂ w₃));
          long_is = ap (ltb 65535) l;
          clear_is = lower_clear ∙ ap₂ (λ (x y : Bool). x && y) (le-leb n 65535 h) k;
        }
