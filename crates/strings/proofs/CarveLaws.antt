-- Laws of `carve`: parts one after the other, room, characters in two goes, flags, and what the functions that put characters show.
-- Main statements: `carving`, `lows`, `same_size`, `put_on_append`, `carve_flagged`, `put_is`. Assumes nothing.
use mathlib.Core.Path.{◌≡◌, refl, sym, ap, ◌∙◌}
use Prim.Native.Nat.{ℕ, ◌+◌, ◌-◌, ◌≤◌, ◌^◌}
use native.Mathlib.Nat.{add-zero}
use native.Mathlib.Omega.{arith}
use mathlib.Core.List.{List, [], ◌∷◌, ◌++◌}
use lib.Dec.{ltb}
use lib.ListN.{length, length-append}
use Rattle.field.specs.Bytes.{Bytes}
use Rattle.field.specs.Put.{put, head, Wrote}
use Rattle.field.proofs.PutLaws.{put_put, put_nil, length_put}
use Rattle.field.proofs.Actions.{Action, Lows, Keeps, Steps, by_steps, place_steps, keep_steps}
use Rattle.text.specs.Escape.{escape_html}
use Rattle.spec.specs.Pass.{Part, chars, gap, mark}
use Rattle.strings.specs.declared.writer.Open.{Open}
use Rattle.strings.specs.declared.due.Due.{Due}
use Rattle.strings.specs.declared.due.Due.TheVariants.{Nothing}
use Rattle.strings.specs.Due.{graver, long_due, grave}
use Rattle.strings.specs.Carve.{Carved, at, end, put_on, close, carve, flagged, Low, ended_at, flags_at, opening}
use Rattle.strings.proofs.DueLaws.{graver_none, graver_assoc, graver_swap}

-- ---- carve as an action

abbrev pub part : Part → Carved → Carved
part (chars b) w = put_on b w
part (gap p) w = close w
part (mark f) w = flagged (grave f) w

carve_part : (a : Part) (ps : List Part) (w : Carved) → carve (a ∷ ps) w ≡ carve ps (part a w)
unfolding carve
carve_part (chars b) ps w = refl
carve_part (gap p) ps w = refl
carve_part (mark f) ps w = refl

pub carves : Steps part carve
unfolding carve
carves = record { nil = λ w. refl; cons = carve_part }

pub carving : Action [] ◌++◌ carve
carving = by_steps carves

place : Carved → ℕ
place w = end w.st + w.st.gaps

part_grows : (a : Part) (w : Carved) → place w ≤ place (part a w)
unfolding place
part_grows (chars b) w = omega arith
part_grows (gap p) w = omega arith
part_grows (mark f) w = omega arith

pub lows : Lows Low carve
unfolding place
lows = place_steps carves place part_grows (2 ^ 63)

abbrev pub size : Carved → ℕ
size w = length w.out

part_keeps : (a : Part) (w : Carved) → size (part a w) ≡ size w
part_keeps (chars b) w = length_put w.out (end w.st) b
part_keeps (gap p) w = length_put w.out w.st.head (head 0x81 w.st.len)
part_keeps (mark f) w = refl

pub same_size : Keeps size carve
same_size = keep_steps carves size part_keeps

-- ---- characters

pub put_on_nil : (w : Carved) → put_on [] w ≡ w
put_on_nil w =
    let e₁ : put w.out (end w.st) [] ≡ w.out = put_nil w.out (end w.st) in
    let e₂ : w.st.len + 0 ≡ w.st.len = add-zero w.st.len in
    λ i. record { out = e₁ i; st = record { head = w.st.head; len = e₂ i; gaps = w.st.gaps; due = w.st.due } }

pub put_on_append : (a b : Bytes) (w : Carved) → put_on b (put_on a w) ≡ put_on (a ++ b) w
put_on_append a b w =
    let e₁ : put (put w.out (end w.st) a) (w.st.head + 3 + (w.st.len + length a)) b ≡ put w.out (end w.st) (a ++ b) =
    ap (λ (k : ℕ). put (put w.out (end w.st) a) k b) (omega arith) ∙ put_put w.out (end w.st) a b in
    let e₂ : w.st.len + length a + length b ≡ w.st.len + length (a ++ b) = omega (arith, length-append a b) in
    λ i. record { out = e₁ i; st = record { head = w.st.head; len = e₂ i; gaps = w.st.gaps; due = w.st.due } }

module _ (o : Bytes) (st : Open) where
  -- they are written, and the string ends behind them
  pub put_is : {n : ℕ} → n ≡ end st → {b o' : Bytes} {e : ℕ} {r : Open} → r ≡ ended_at st e → Wrote o n b o' e → at o' r ≡ carve (chars b ∷ []) (at o st)
  unfolding carve
  put_is n {b} {o'} {e} {r} q w =
      let l : e - (st.head + 3) ≡ st.len + length b = omega (arith, n, w.end_is) in
      ap (at o') q ∙ (λ i. record { out = (w.out_is ∙ ap (λ (k : ℕ). put o k b) n) i; st = record { head = st.head; len = l i; gaps = st.gaps; due = st.due } })

  -- the string is closed
  module _ {o' : Bytes} {n : ℕ} (w : Wrote o st.head (head 0x81 st.len) o' n) where
    pub cut_is : {d : Due} → d ≡ graver st.due (long_due (ltb 65535 st.len)) → at o' (record { head = end st; len = 0; gaps = st.gaps + 1; due = d }) ≡ close (at o st)
    cut_is e = λ i. record { out = w.out_is i; st = record { head = end st; len = 0; gaps = st.gaps + 1; due = e i } }

-- a space and a cut
abbrev pub spaced : Carved → Carved
spaced w = close (put_on (32 ∷ []) w)

-- ---- what is due

due_is : (w : Carved) (d : Due) → w.st.due ≡ d → w ≡ record { out = w.out; st = record { head = w.st.head; len = w.st.len; gaps = w.st.gaps; due = d } }
due_is w d e = λ i. record { out = w.out; st = record { head = w.st.head; len = w.st.len; gaps = w.st.gaps; due = e i } }

pub flagged_none : (w : Carved) → flagged Nothing w ≡ w
flagged_none w = sym (due_is w (graver w.st.due Nothing) (sym (graver_none w.st.due)))

pub flagged_twice : (a b : Due) (w : Carved) → flagged b (flagged a w) ≡ flagged (graver a b) w
flagged_twice a b w = due_is (flagged b (flagged a w)) (graver w.st.due (graver a b)) (graver_assoc w.st.due a b)

pub flagged_swap : (a b : Due) (w : Carved) → flagged b (flagged a w) ≡ flagged a (flagged b w)
flagged_swap a b w = due_is (flagged b (flagged a w)) (graver (graver w.st.due b) a) (graver_swap w.st.due a b)

pub close_flagged : (d : Due) (w : Carved) → close (flagged d w) ≡ flagged d (close w)
close_flagged d w = let l = long_due (ltb 65535 w.st.len) in due_is (close (flagged d w)) (graver (graver w.st.due l) d) (graver_swap w.st.due d l)

pub carve_flagged : (d : Due) (ps : List Part) (w : Carved) → carve ps (flagged d w) ≡ flagged d (carve ps w)
unfolding carve
carve_flagged d [] w = refl
carve_flagged d (chars b ∷ ps) w = carve_flagged d ps (put_on b w)
carve_flagged d (gap p ∷ ps) w = ap (carve ps) (close_flagged d w) ∙ carve_flagged d ps (close w)
carve_flagged d (mark f ∷ ps) w = ap (carve ps) (flagged_swap d (grave f) w) ∙ carve_flagged d ps (flagged (grave f) w)

-- ---- an opening tag: `<name` is put on, and what is found of the element is flagged

module _ (n r : Bytes) where
  pub opening_low : (w : Carved) → Low (carve (opening n r) w) → Low (carve (chars (60 ∷ escape_html n) ∷ []) w)
  unfolding carve
  opening_low w l = l

  pub opening_is : (w : Carved) {o : Bytes} {s : Open} → at o s ≡ carve (chars (60 ∷ escape_html n) ∷ []) w → {d : Due} → d ≡ graver s.due (grave (flags_at n r)) →
      at o (record { head = s.head; len = s.len; gaps = s.gaps; due = d }) ≡ carve (opening n r) w
  unfolding carve
  opening_is w {o} {s} e q =
      (λ i. at o (record { head = s.head; len = s.len; gaps = s.gaps; due = q i }))
      ∙ ap (flagged (grave (flags_at n r))) e
      ∙ sym (carve_flagged (grave (flags_at n r)) (chars (60 ∷ escape_html n) ∷ []) w)
