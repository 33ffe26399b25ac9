-- Laws of the two line rules: what a walk from line to line has written, and what is still ahead.
-- Main statements: `Joining` with `joining_start`, `joining_room`, `joining_step`, `joining_skip`, `joining_end` for jsx_text_to_str;
-- `Spacing` alike for normalize_lit_str; `Blank` alike for is_blank.
-- Assumes nothing.
use mathlib.Core.Path.{◌≡◌, refl, sym, ap, ◌∙◌}
use mathlib.Core.Bool.{Bool, true, false, ◌||◌, not}
use Prim.Native.Nat.{ℕ, ◌+◌, ◌-◌, ◌≤◌, ◌<◌, ◌^◌}
use native.Mathlib.Nat.{not-suc-le-zero}
use native.Mathlib.Omega.{arith}
use mathlib.Core.List.{List, [], ◌∷◌, ◌++◌, append_assoc, append-nil, map}
use lib.Dec.{ltb}
use lib.ListN.{length, take, drop, length-append, length-drop, drop_of_length-le}
use borrow.Author.Tests.{lt-ltb, le-ltb, ltb-true, ltb-false}
use Rattle.field.specs.Bytes.{Bytes, pick, null?}
use Rattle.field.specs.Put.{Wrote}
use Rattle.field.proofs.PutLaws.{wrote_none, wrote_is}
use Rattle.text.specs.Escape.{escape_byte, escape_html}
use Rattle.text.specs.Lines.{lines}
use Rattle.text.specs.Trim.{trim_by, trim_start, trim_end}
use Rattle.text.specs.Text.{trimmed, some_line, trimmed_lines, kept, spaced, joined, escape_if, jsx_text_to_str, normalize_lit_str}
use Rattle.text.specs.Runs.{spaced_line, kept_line}
use Rattle.text.proofs.LineLaws.{Cut, lines_cons}
use Rattle.text.proofs.EscapeLaws.{escape_append, null_escape_html}
use Rattle.text.proofs.WriteLaws.{room_for, wrote_more}

-- ---- escaping, or not

pub escape_if_nil : (e : Bool) → escape_if e [] ≡ []
unfolding escape_if escape_html
escape_if_nil true = refl
escape_if_nil false = refl

pub escape_if_append : (e : Bool) (a b : Bytes) → escape_if e (a ++ b) ≡ escape_if e a ++ escape_if e b
unfolding escape_if
escape_if_append true a b = escape_append a b
escape_if_append false a b = refl

-- the space is not escaped
pub escape_if_space : (e : Bool) (t : Bytes) → escape_if e (32 ∷ t) ≡ 32 ∷ escape_if e t
unfolding escape_if escape_html escape_byte
escape_if_space true t = refl
escape_if_space false t = refl

front_le : {w : Bytes} (e : Bool) (x y : Bytes) → w ≡ x ++ y → length (escape_if e x) ≤ length (escape_if e w)
front_le e x y h = rw (h, escape_if_append e x y) (omega (arith, length-append (escape_if e x) (escape_if e y)))

pub null_escape_if : (e : Bool) (t : Bytes) → null? (escape_if e t) ≡ null? t
unfolding escape_if
null_escape_if true t = null_escape_html t
null_escape_if false t = refl

-- ---- one line as it is written

null_length : (t : Bytes) → length t ≡ 0 → t ≡ []
null_length [] h = refl
null_length (c ∷ t) h = absurd (omega arith)

not_null : (t : Bytes) → (length t ≡ 0 → ⊥) → null? t ≡ false
not_null [] h = absurd (h refl)
not_null (c ∷ t) h = refl

pub kept_none : (e later : Bool) (t : Bytes) → length t ≡ 0 → [] ≡ escape_if e (kept_line later t)
unfolding kept_line
kept_none e later t h = rw (null_length t h) (sym (escape_if_nil e))

pub kept_some : (e later : Bool) (t : Bytes) → (length t ≡ 0 → ⊥) → pick later (32 ∷ []) [] ++ escape_if e t ≡ escape_if e (kept_line later t)
unfolding kept_line spaced_line
kept_some e true t h = rw (not_null t h) (sym (escape_if_space e t))
kept_some e false t h = rw (not_null t h)

pub spaced_is : (later : Bool) (t : Bytes) → pick later (32 ∷ []) [] ++ t ≡ spaced_line later t
unfolding spaced_line
spaced_is true t = refl
spaced_is false t = refl

pub null_kept : (t : Bytes) (ls : List Bytes) → 0 < length t → null? (joined (kept (t ∷ ls))) ≡ false
unfolding kept joined
null_kept [] ls h = absurd (not-suc-le-zero h)
null_kept (c ∷ t) ls h = refl

-- an empty line stays empty
pub trimmed_nil : (front back : Bool) → [] ≡ trimmed front back []
unfolding trimmed trim_start trim_end trim_by
trimmed_nil true true = refl
trimmed_nil true false = refl
trimmed_nil false true = refl
trimmed_nil false false = refl

empty_line : (front back : Bool) (s : Bytes) (i end : ℕ) → end ≡ i → [] ≡ trimmed front back (take (end - i) (drop i s))
empty_line front back s i end h = let z : end - i ≡ 0 = omega arith in rw z (trimmed_nil front back)

-- ---- what is ahead, behind text or not

unfoldable pub ahead : Bool → List Bytes → Bytes
ahead later ls = pick later (spaced ls) (joined ls)

ahead_kept : (later : Bool) (t : Bytes) (ls : List Bytes) → ahead later (kept (t ∷ ls)) ≡ kept_line later t ++ ahead (later || not (null? t)) (kept ls)
unfolding ahead kept spaced joined kept_line spaced_line
ahead_kept true [] ls = refl
ahead_kept false [] ls = refl
ahead_kept true (c ∷ t) ls = refl
ahead_kept false (c ∷ t) ls = refl

ahead_none : (later : Bool) → ahead later [] ≡ []
unfolding ahead spaced joined
ahead_none true = refl
ahead_none false = refl

text_behind : (done t : Bytes) → not (null? (done ++ kept_line (not (null? done)) t)) ≡ (not (null? done) || not (null? t))
unfolding kept_line spaced_line
text_behind [] [] = refl
text_behind [] (c ∷ t) = refl
text_behind (d ∷ done) t = refl

-- whether text stands already, by the place
later_by_place : {o o₁ : Bytes} {at a : ℕ} (e : Bool) (done : Bytes) → Wrote o at (escape_if e done) o₁ a → ltb at a ≡ not (null? done)
later_by_place e done w = by_length (escape_if e done) w ∙ ap not (null_escape_if e done)
  where
    by_length : {o o₁ : Bytes} {at a : ℕ} (x : Bytes) → Wrote o at x o₁ a → ltb at a ≡ not (null? x)
    by_length {at = at} {a = a} [] w = le-ltb at a (omega (arith, w.end_is))
    by_length {at = at} {a = a} (c ∷ x) w = lt-ltb at a (omega (arith, w.end_is))

-- ---- the lines that are left at a place

no_lines : (s : Bytes) (i : ℕ) → length s ≤ i → lines (drop i s) ≡ []
unfolding lines
no_lines s i h = rw (drop_of_length-le s {i = i} h)

-- the last line is the one behind which nothing is left
more_lines : (s : Bytes) (i : ℕ) → some_line (lines (drop i s)) ≡ ltb i (length s)
more_lines s i = on (ltb i (length s)) refl
  where
    on : (b : Bool) → ltb i (length s) ≡ b → some_line (lines (drop i s)) ≡ b
    on true e = let h = ltb-true i (length s) e in rw (lines_cons (drop i s) (rw length-drop (omega arith)))
    on false e = rw (no_lines s i (ltb-false i (length s) e))

-- the text that jsx_text_to_str makes before it escapes, and what of it comes from the lines at a place on
abbrev text_of : Bytes → Bool → Bytes
text_of s last = joined (kept (trimmed_lines false last (lines s)))

abbrev lines_from : Bytes → Bool → ℕ → List Bytes
lines_from s last i = kept (trimmed_lines (ltb 0 i) last (lines (drop i s)))

-- ---- the walk of jsx_text_to_str: i bytes are read, `done` is written, and the rest of the text is ahead
pub record Joining (s : Bytes) (e last : Bool) (o : Bytes) (at : ℕ) (o₁ : Bytes) (a i : ℕ) : Type 0 where
  pub done : Bytes
  pub wrote : Wrote o at (escape_if e done) o₁ a
  pub whole : text_of s last ≡ done ++ ahead (not (null? done)) (lines_from s last i)

pub joining_start : (s : Bytes) (e last : Bool) (o : Bytes) (at : ℕ) → Joining s e last o at o at 0
unfolding ahead
joining_start s e last o at = record { done = []; wrote = wrote_is (sym (escape_if_nil e)) (wrote_none o at); whole = refl }

pub joining_end : {s o o₁ : Bytes} {e last : Bool} {at a i : ℕ} → length s ≤ i → Joining s e last o at o₁ a i → Wrote o at (jsx_text_to_str s e last) o₁ a
unfolding jsx_text_to_str trimmed_lines kept
joining_end {s} {o} {o₁} {e} {last} {at} {a} {i} h j =
    let d = j.done in
    let none = ap {B = Bytes} (λ ls. ahead (not (null? d)) (kept (trimmed_lines (ltb 0 i) last ls))) (no_lines s i h) ∙ ahead_none (not (null? d)) in
    let whole = j.whole ∙ ap {B = Bytes} (λ w. d ++ w) none ∙ append-nil d in
    wrote_is (ap {B = Bytes} (λ w. escape_if e w) (sym whole)) j.wrote

-- one line on
module _ {s o o₁ : Bytes} {e last : Bool} {at a i : ℕ} (end next : ℕ) (t : Bytes) (j : Joining s e last o at o₁ a i) (cut : Cut s i end next) (line : t ≡ trimmed (ltb 0 i) (ltb next (length s) || last) (take (end - i) (drop i s))) where
  lines_step : lines_from s last i ≡ kept (t ∷ trimmed_lines true last (lines (drop next s)))
  unfolding trimmed_lines
  lines_step = rw (cut.cut, line, ← more_lines s next)

  later : ltb at a ≡ not (null? j.done)
  later = later_by_place e j.done j.wrote

  whole_step : text_of s last ≡ (j.done ++ kept_line (ltb at a) t) ++ ahead (not (null? (j.done ++ kept_line (ltb at a) t))) (lines_from s last next)
  whole_step =
      let n : ltb 0 next ≡ true = lt-ltb 0 next (omega (arith, cut.on)) in
      let d = j.done in
      let rest = trimmed_lines true last (lines (drop next s)) in
      let on : ahead (not (null? d)) (lines_from s last i) ≡ kept_line (not (null? d)) t ++ ahead (not (null? d) || not (null? t)) (kept rest) = ap {B = Bytes} (λ ls. ahead (not (null? d)) ls) lines_step ∙ ahead_kept (not (null? d)) t rest in
      rw (n, later, text_behind d t, append_assoc) (j.whole ∙ ap {B = Bytes} (λ w. d ++ w) on)

  front : escape_if e j.done ++ escape_if e (kept_line (ltb at a) t) ≡ escape_if e (j.done ++ kept_line (ltb at a) t)
  front = sym (escape_if_append e j.done (kept_line (ltb at a) t))

  pub joining_room : at + length (jsx_text_to_str s e last) < 2 ^ 63 → a + length (escape_if e (kept_line (ltb at a) t)) < 2 ^ 63
  unfolding jsx_text_to_str
  joining_room h = room_for (escape_if e (kept_line (ltb at a) t)) j.wrote front (front_le e (j.done ++ kept_line (ltb at a) t) (ahead (not (null? (j.done ++ kept_line (ltb at a) t))) (lines_from s last next)) whole_step) h

  pub joining_step : {o₂ : Bytes} {b : ℕ} → Wrote o₁ a (escape_if e (kept_line (ltb at a) t)) o₂ b → Joining s e last o at o₂ b next
  joining_step w = record { done = j.done ++ kept_line (ltb at a) t; wrote = wrote_more j.wrote front w; whole = whole_step }

-- an empty line on
pub joining_skip : {s o o₁ : Bytes} {e last : Bool} {at a i : ℕ} (end next : ℕ) → Joining s e last o at o₁ a i → Cut s i end next → end ≡ i → Joining s e last o at o₁ a next
joining_skip {s} {o} {o₁} {e} {last} {at} {a} {i} end next j cut h =
    let w = wrote_is (kept_none e (ltb at a) [] refl) (wrote_none o₁ a) in
    joining_step end next [] j cut (empty_line (ltb 0 i) (ltb next (length s) || last) s i end h) w

-- ---- the walk of normalize_lit_str, where every line is kept

abbrev fronts_from : Bytes → ℕ → List Bytes
fronts_from s i = map trim_start (lines (drop i s))

pub record Spacing (s o : Bytes) (at : ℕ) (o₁ : Bytes) (a i : ℕ) : Type 0 where
  pub done : Bytes
  pub wrote : Wrote o at done o₁ a
  pub whole : normalize_lit_str s ≡ done ++ ahead (ltb 0 i) (fronts_from s i)

ahead_cons : (later : Bool) (t : Bytes) (ls : List Bytes) → ahead later (t ∷ ls) ≡ spaced_line later t ++ ahead true ls
unfolding ahead spaced joined spaced_line
ahead_cons true t ls = refl
ahead_cons false t ls = refl

pub spacing_start : (s o : Bytes) (at : ℕ) → Spacing s o at o at 0
unfolding ahead normalize_lit_str
spacing_start s o at = record { done = []; wrote = wrote_none o at; whole = refl }

pub spacing_end : {s o o₁ : Bytes} {at a i : ℕ} → length s ≤ i → Spacing s o at o₁ a i → Wrote o at (normalize_lit_str s) o₁ a
spacing_end {s} {o} {o₁} {at} {a} {i} h j =
    let none = ap {B = Bytes} (λ ls. ahead (ltb 0 i) (map trim_start ls)) (no_lines s i h) ∙ ahead_none (ltb 0 i) in
    wrote_is (sym (j.whole ∙ ap {B = Bytes} (λ w. j.done ++ w) none ∙ append-nil j.done)) j.wrote

module _ {s o o₁ : Bytes} {at a i : ℕ} (end next : ℕ) (t : Bytes) (j : Spacing s o at o₁ a i) (cut : Cut s i end next) (line : t ≡ trim_start (take (end - i) (drop i s))) where
  spacing_whole : normalize_lit_str s ≡ (j.done ++ spaced_line (ltb 0 i) t) ++ ahead (ltb 0 next) (fronts_from s next)
  spacing_whole =
      let n : ltb 0 next ≡ true = lt-ltb 0 next (omega (arith, cut.on)) in
      let on : ahead (ltb 0 i) (fronts_from s i) ≡ spaced_line (ltb 0 i) t ++ ahead true (fronts_from s next) = rw (cut.cut, line) (ahead_cons (ltb 0 i) (trim_start (take (end - i) (drop i s))) (fronts_from s next)) in
      rw (n, append_assoc) (j.whole ∙ ap {B = Bytes} (λ w. j.done ++ w) on)

  pub spacing_room : at + length (normalize_lit_str s) < 2 ^ 63 → a + length (spaced_line (ltb 0 i) t) < 2 ^ 63
  spacing_room h =
      let front = j.done ++ spaced_line (ltb 0 i) t in
      let le : length front ≤ length (normalize_lit_str s) = rw spacing_whole (omega (arith, length-append front (ahead (ltb 0 next) (fronts_from s next)))) in
      room_for (spaced_line (ltb 0 i) t) j.wrote refl le h

  pub spacing_step : {o₂ : Bytes} {b : ℕ} → Wrote o₁ a (spaced_line (ltb 0 i) t) o₂ b → Spacing s o at o₂ b next
  spacing_step w = record { done = j.done ++ spaced_line (ltb 0 i) t; wrote = wrote_more j.wrote refl w; whole = spacing_whole }

-- ---- the walk of is_blank: the lines read so far left nothing

unfoldable pub Blank : Bytes → Bool → ℕ → Type 0
Blank s last i = null? (text_of s last) ≡ null? (joined (lines_from s last i))

pub blank_start : (s : Bytes) (last : Bool) → Blank s last 0
unfolding Blank
blank_start s last = refl

pub blank_end : (s : Bytes) (last : Bool) (i : ℕ) → length s ≤ i → Blank s last i → true ≡ null? (jsx_text_to_str s false last)
unfolding Blank jsx_text_to_str escape_if trimmed_lines kept joined
blank_end s last i h b = sym (b ∙ ap (λ (ls : List Bytes). null? (joined (kept (trimmed_lines (ltb 0 i) last ls)))) (no_lines s i h))

module _ (s : Bytes) (last : Bool) (i end next : ℕ) (t : Bytes) (cut : Cut s i end next) (line : t ≡ trimmed (ltb 0 i) (ltb next (length s) || last) (take (end - i) (drop i s))) (b : Blank s last i) where
  blank_lines : lines_from s last i ≡ kept (t ∷ trimmed_lines true last (lines (drop next s)))
  unfolding trimmed_lines
  blank_lines = rw (cut.cut, line, ← more_lines s next)

  pub blank_step : length t ≤ 0 → Blank s last next
  unfolding Blank kept
  blank_step h =
      let n : ltb 0 next ≡ true = lt-ltb 0 next (omega (arith, cut.on)) in
      let rest = trimmed_lines true last (lines (drop next s)) in
      let none = ap {B = List Bytes} (λ u. kept (u ∷ rest)) (null_length t (omega arith)) in
      rw n (b ∙ ap (λ (ls : List Bytes). null? (joined ls)) (blank_lines ∙ none))

  pub blank_line : 0 < length t → false ≡ null? (jsx_text_to_str s false last)
  unfolding Blank jsx_text_to_str escape_if kept joined
  blank_line h =
      let rest = trimmed_lines true last (lines (drop next s)) in
      sym (b ∙ ap (λ (ls : List Bytes). null? (joined ls)) blank_lines ∙ null_kept t rest h)
