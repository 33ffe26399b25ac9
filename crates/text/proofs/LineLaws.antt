-- Laws of lines: where the first line ends by a search for LF, and how a walk from line to line goes through `lines`.
-- Main statements: `line_none` for `read_line`; `line_last`, `line_cr`, `line_no_cr` for `line_at`; `lines_cons`, `line_cut` for its callers.
-- Assumes nothing.
use mathlib.Core.Path.{◌≡◌, refl, sym, ap, subst, ◌∙◌}
use mathlib.Core.Bool.{Bool, true, false, ◌&&◌, ◌||◌, not, false≢true, and-false}
use Prim.Native.Nat.{ℕ, zero, suc, ◌+◌, ◌-◌, ◌≤◌, ◌<◌}
use native.Mathlib.Nat.{le_of_suc-le-suc, not-suc-le-zero}
use native.Mathlib.Omega.{arith}
use mathlib.Core.List.{List, [], ◌∷◌}
use lib.Dec.{eqb, ltb}
use lib.ListN.{length, get_or, take, drop, length-drop, drop_of_length-le}
use lib.Seq.{drop-cons, drop-drop, get_or-drop, length-take-le}
use borrow.Author.Tests.{eq-eqb, ne_eqb, not-true, not-false}
use Rattle.field.specs.Bytes.{Bytes, pick}
use Rattle.text.specs.Lines.{starts_with_lf, onto_first, lines, line_length, line_width, line_at, ReadsLine}
use Rattle.text.specs.declared.lines.Line.{Line}
use Rattle.text.specs.declared.lines.TextLine.{TextLine}
use Rattle.std.specs.Prelude.{Some, None}
use Rattle.text.specs.Text.{trimmed}
use Rattle.text.specs.Trim.{trim_start}
use Rattle.text.specs.Runs.{run, not_lf}
use Rattle.text.proofs.RunLaws.{run_zero, run_suc, scan_le, scan_on}

-- ---- a search for LF

lf_of : (c : ℕ) → not_lf c ≡ true → eqb c 10 ≡ false
unfolding not_lf
lf_of c h = not-true _ h

lf_at : (c : ℕ) → not_lf c ≡ false → eqb c 10 ≡ true
unfolding not_lf
lf_at c h = not-false _ h

-- whether an LF stands in front, by the run of bytes that are none
starts_far : (cs : Bytes) (k : ℕ) → run not_lf cs ≡ suc k → starts_with_lf cs ≡ false
unfolding run
starts_far [] k h = refl
starts_far (c ∷ cs) k h = lf_of c (run_suc not_lf c cs k h).0

starts_here : (cs : Bytes) → run not_lf cs ≡ 0 → 0 < length cs → starts_with_lf cs ≡ true
starts_here [] h l = absurd (not-suc-le-zero l)
starts_here (c ∷ cs) h l = lf_at c (run_zero not_lf c cs h)

starts_never : (cs : Bytes) → run not_lf cs ≡ length cs → starts_with_lf cs ≡ false
starts_never [] h = refl
starts_never (c ∷ cs) h = lf_of c (run_suc not_lf c cs (length cs) h).0

-- no LF: the line is all that is left
length_all : (t : Bytes) → run not_lf t ≡ length t → line_length t ≡ length t
unfolding line_length
length_all [] h = refl
length_all (c ∷ cs) h =
    let r = run_suc not_lf c cs (length cs) h in
    rw (lf_of c r.0, starts_never cs r.1, and-false, length_all cs r.1)

width_all : (t : Bytes) → run not_lf t ≡ length t → line_width t ≡ length t
unfolding line_width
width_all [] h = refl
width_all (c ∷ cs) h =
    let r = run_suc not_lf c cs (length cs) h in
    rw (lf_of c r.0, width_all cs r.1)

-- an LF behind k bytes
width_lf : (t : Bytes) (k : ℕ) → run not_lf t ≡ k → k < length t → line_width t ≡ suc k
unfolding line_width
width_lf [] k h l = absurd (not-suc-le-zero l)
width_lf (c ∷ cs) zero h l = rw (lf_at c (run_zero not_lf c cs h))
width_lf (c ∷ cs) (suc k) h l =
    let r = run_suc not_lf c cs k h in
    rw (lf_of c r.0, width_lf cs k r.1 (le_of_suc-le-suc l))

length_none : (t : Bytes) → run not_lf t ≡ 0 → 0 < length t → line_length t ≡ 0
unfolding line_length
length_none [] h l = refl
length_none (c ∷ cs) h l = rw (lf_at c (run_zero not_lf c cs h))

-- a CR in front of it
length_cr : (t : Bytes) (k : ℕ) → run not_lf t ≡ suc k → suc k < length t → get_or t k 0 ≡ 13 → line_length t ≡ k
unfolding line_length
length_cr [] k h l e = absurd (not-suc-le-zero l)
length_cr (c ∷ cs) zero h l e =
    let r = run_suc not_lf c cs 0 h in
    rw (lf_of c r.0, eq-eqb c 13 e, starts_here cs r.1 (le_of_suc-le-suc l))
length_cr (c ∷ cs) (suc k) h l e =
    let r = run_suc not_lf c cs (suc k) h in
    rw (lf_of c r.0, starts_far cs k r.1, and-false, length_cr cs k r.1 (le_of_suc-le-suc l) e)

-- another byte in front of it
length_no_cr : (t : Bytes) (k : ℕ) → run not_lf t ≡ suc k → suc k < length t → (get_or t k 0 ≡ 13 → ⊥) → line_length t ≡ suc k
unfolding line_length
length_no_cr [] k h l e = absurd (not-suc-le-zero l)
length_no_cr (c ∷ cs) zero h l e =
    let r = run_suc not_lf c cs 0 h in
    rw (lf_of c r.0, ne_eqb c 13 e, length_none cs r.1 (le_of_suc-le-suc l))
length_no_cr (c ∷ cs) (suc k) h l e =
    let r = run_suc not_lf c cs (suc k) h in
    rw (lf_of c r.0, starts_far cs k r.1, and-false, length_no_cr cs k r.1 (le_of_suc-le-suc l) e)

-- ---- the line at a place, in the cases that `line_at` tells apart

line_is : {e e' n n' : ℕ} → e ≡ e' → n ≡ n' → ◌≡◌ {A = Line} (record { end = e; next = n }) (record { end = e'; next = n' })
line_is p q = rw (p, q)

-- no byte is left
pub line_none : (s : Bytes) (at : ℕ) → length s ≤ at → ◌≡◌ {A = Line} (record { end = at; next = at }) (line_at s at)
unfolding line_at line_length line_width
line_none s at h = rw (drop_of_length-le s {i = at} h) (line_is (omega arith) (omega arith))

-- an LF stands at the place
pub line_empty : (s : Bytes) (at : ℕ) → at < length s → get_or s at 0 ≡ 10 → ◌≡◌ {A = Line} (record { end = at; next = at + 1 }) (line_at s at)
unfolding line_at line_length line_width
line_empty s at h e = rw (drop-cons s at 0, eq-eqb (get_or s at 0) 10 e) (line_is (omega arith) refl)

-- an LF that does not stands further on, or the text ends
pub lf_behind : {lf : ℕ} (s : Bytes) (at : ℕ) → at < length s → (get_or s at 0 ≡ 10 → ⊥) → lf ≡ at + run not_lf (drop at s) → (at < lf) × (lf ≤ length s)
unfolding not_lf
lf_behind s at h e q = (scan_on not_lf s at h (ap not (ne_eqb (get_or s at 0) 10 e)) q, (scan_le not_lf s at (omega arith) q).1)

module _ (s : Bytes) (at lf : ℕ) (within : at ≤ length s) (found : lf ≡ at + run not_lf (drop at s)) where
  -- no LF is left
  pub line_last : lf ≡ length s → ◌≡◌ {A = Line} (record { end = length s; next = length s }) (line_at s at)
  unfolding line_at
  line_last e =
      let l = length-drop at s in
      let r : run not_lf (drop at s) ≡ length (drop at s) = omega arith in
      line_is (omega (arith, length_all (drop at s) r)) (omega (arith, width_all (drop at s) r))

  -- an LF behind other bytes: the byte in front of it
  before_lf : at < lf → get_or s (lf - 1) 0 ≡ get_or (drop at s) (lf - 1 - at) 0
  before_lf h = let e : at + (lf - 1 - at) ≡ lf - 1 = omega arith in rw (get_or-drop, e)

  pub line_cr : lf < length s → at < lf → get_or s (lf - 1) 0 ≡ 13 → ◌≡◌ {A = Line} (record { end = lf - 1; next = lf + 1 }) (line_at s at)
  unfolding line_at
  line_cr h a e =
      let l = length-drop at s in
      let k = lf - 1 - at in
      let r : run not_lf (drop at s) ≡ suc k = omega arith in
      let n = length_cr (drop at s) k r (omega arith) (sym (before_lf a) ∙ e) in
      line_is (omega arith) (omega (arith, width_lf (drop at s) (suc k) r (omega arith)))

  pub line_no_cr : lf < length s → at < lf → (get_or s (lf - 1) 0 ≡ 13 → ⊥) → ◌≡◌ {A = Line} (record { end = lf; next = lf + 1 }) (line_at s at)
  unfolding line_at
  line_no_cr h a e =
      let l = length-drop at s in
      let k = lf - 1 - at in
      let r : run not_lf (drop at s) ≡ suc k = omega arith in
      let n = length_no_cr (drop at s) k r (omega arith) (λ q. e (before_lf a ∙ q)) in
      line_is (omega arith) (omega (arith, width_lf (drop at s) (suc k) r (omega arith)))

-- ---- from line to line

width_le : (t : Bytes) → line_width t ≤ length t
unfolding line_width
width_le [] = omega arith
width_le (c ∷ cs) = on (eqb c 10) (width_le cs)
  where
    on : (b : Bool) → line_width cs ≤ length cs → pick b 1 (suc (line_width cs)) ≤ suc (length cs)
    on true h = omega arith
    on false h = omega arith

width_pos : (t : Bytes) → 0 < length t → 0 < line_width t
unfolding line_width
width_pos [] h = absurd (not-suc-le-zero h)
width_pos (c ∷ cs) h = on (eqb c 10)
  where
    on : (b : Bool) → 0 < pick b 1 (suc (line_width cs))
    on true = omega arith
    on false = omega arith

length_le : (t : Bytes) → line_length t ≤ line_width t
unfolding line_length line_width
length_le [] = omega arith
length_le (c ∷ cs) = on (eqb c 10) (eqb c 13 && starts_with_lf cs) (length_le cs)
  where
    on : (b d : Bool) → line_length cs ≤ line_width cs → pick (b || d) 0 (suc (line_length cs)) ≤ pick b 1 (suc (line_width cs))
    on true d h = omega arith
    on false true h = omega arith
    on false false h = omega arith

-- a line that goes on behind its first byte
onto_lines : (c : ℕ) (cs : Bytes) → (0 < length cs → lines cs ≡ take (line_length cs) cs ∷ lines (drop (line_width cs) cs)) → onto_first c (lines cs) ≡ (c ∷ take (line_length cs) cs) ∷ lines (drop (line_width cs) cs)
unfolding lines line_length line_width
onto_lines c [] ih = refl
onto_lines c (d ∷ ds) ih = ap (λ (ls : List Bytes). onto_first c ls) (ih (omega arith))

-- a CR in front of an LF
cr_lines : (c : ℕ) (cs : Bytes) → starts_with_lf cs ≡ true → lines cs ≡ [] ∷ lines (drop (line_width cs) cs)
unfolding lines line_width
cr_lines c [] h = absurd (false≢true h)
cr_lines c (d ∷ ds) h = rw h

and_second : (a b : Bool) → (a && b) ≡ true → b ≡ true
and_second true b h = h
and_second false b h = absurd (false≢true h)

pub lines_cons : (t : Bytes) → 0 < length t → lines t ≡ take (line_length t) t ∷ lines (drop (line_width t) t)
unfolding lines line_length line_width
lines_cons [] h = absurd (not-suc-le-zero h)
lines_cons (c ∷ cs) h = on (eqb c 10) (eqb c 13 && starts_with_lf cs) (λ q. cr_lines c cs (and_second (eqb c 13) (starts_with_lf cs) q)) (onto_lines c cs (lines_cons cs))
  where
    on : (b d : Bool) → (d ≡ true → lines cs ≡ [] ∷ lines (drop (line_width cs) cs)) → onto_first c (lines cs) ≡ (c ∷ take (line_length cs) cs) ∷ lines (drop (line_width cs) cs) → pick b ([] ∷ lines cs) (pick d (lines cs) (onto_first c (lines cs))) ≡ take (pick (b || d) 0 (suc (line_length cs))) (c ∷ cs) ∷ lines (drop (pick b 1 (suc (line_width cs))) (c ∷ cs))
    on true d f g = refl
    on false true f g = f refl
    on false false f g = g

-- what a walk from line to line goes by
pub record Cut (s : Bytes) (at end next : ℕ) : Type 0 where
  pub from : at ≤ end
  pub to : end ≤ length s
  pub on : at < next
  pub within : next ≤ length s
  pub cut : lines (drop at s) ≡ take (end - at) (drop at s) ∷ lines (drop next s)

pub line_cut : {r : Line} (s : Bytes) (at : ℕ) → at < length s → r ≡ line_at s at → Cut s at r.end r.next
unfolding line_at
line_cut {r} s at h e =
    let l = length-drop at s in
    let t = drop at s in
    let ee : r.end ≡ at + line_length t = ap (λ (x : Line). x.end) e in
    let en : r.next ≡ at + line_width t = ap (λ (x : Line). x.next) e in
    let d : r.end - at ≡ line_length t = omega arith in
    record {
      from = omega arith;
      to = omega (arith, length_le t, width_le t);
      on = omega (arith, width_pos t (omega arith));
      within = omega (arith, width_le t);
      cut = rw (d, en) (lines_cons t (omega arith) ∙ rw drop-drop);
    }

-- ---- a line that a reader gives

pub record Read (s : Bytes) (at next : ℕ) (l : TextLine) : Type 0 where
  pub end : ℕ
  pub cut : Cut s at end next
  pub text_is : l.text.now ≡ take (end - at) (drop at s)
  pub before_is : l.has_before ≡ ltb 0 at
  pub behind_is : l.has_behind ≡ ltb next (length s)

-- t is what the reader holds
pub line_read : {l : TextLine} {t : Bytes} (s : Bytes) (at next : ℕ) → t ≡ s → ReadsLine t at (Some l) next → Read s at next l
line_read {l} s at next e h = let k = subst (λ (x : Bytes). ReadsLine x at (Some l) next) e h in
    record {
      end = (line_at s at).end;
      cut = subst (λ (n : ℕ). Cut s at (line_at s at).end n) (sym k.4) (line_cut s at k.0 refl);
      text_is = k.1;
      before_is = k.2;
      behind_is = k.3;
    }

pub none_read : {t : Bytes} (s : Bytes) (at next : ℕ) → t ≡ s → ReadsLine t at None next → length s ≤ at
none_read s at next e h = omega (arith, ap (λ (x : Bytes). length x) e, h.0)

pub read_trimmed : {s : Bytes} {at next : ℕ} {l : TextLine} {t : Bytes} (last : Bool) (k : Read s at next l) → t ≡ trimmed l.has_before (l.has_behind || last) l.text.now → t ≡ trimmed (ltb 0 at) (ltb next (length s) || last) (take (k.end - at) (drop at s))
read_trimmed last k e = rw (k.before_is, k.behind_is, k.text_is) at e

pub read_front : {s : Bytes} {at next : ℕ} {l : TextLine} {t : Bytes} (k : Read s at next l) → t ≡ trim_start l.text.now → t ≡ trim_start (take (k.end - at) (drop at s))
read_front k e = rw k.text_is at e

pub read_empty : {s : Bytes} {at next : ℕ} {l : TextLine} (k : Read s at next l) → length l.text.now ≡ 0 → k.end ≡ at
read_empty {s} {at} k h =
    let n : k.end - at ≤ length (drop at s) = omega (arith, length-drop at s, k.cut) in
    omega (arith, h, ap (λ (x : Bytes). length x) k.text_is, length-take-le (k.end - at) (drop at s) n, k.cut)
