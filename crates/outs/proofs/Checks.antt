-- The check of a page out as a walk, and its turns by what a step finds. Main statements: `begins`, `refuses`, `passes`, `opens_up`, `closes`,
-- `finishes`. Assumes nothing.
use mathlib.Core.Path.{◌≡◌, refl, subst}
use Prim.Native.Nat.{ℕ, ◌+◌, ◌-◌, ◌%◌, ◌≤◌, ◌<◌}
use native.Mathlib.Omega.{arith}
use mathlib.Core.List.{List}
use lib.ListN.{length, get_or}
use Rattle.std.specs.Prelude.{Result, Ok, Err}
use Rattle.field.specs.Bytes.{Bytes}
use Rattle.refusal.specs.Refusal.{Verdict, Fine, Refused, after}
use Rattle.refusal.specs.declared.Refusal.{Refusal}
use Rattle.loops.specs.Until.{until, HighEnough}
use Rattle.loops.proofs.Parts.{part}
use Rattle.loops.proofs.Turns.{Walk, Going, Stops, ends_at, start, left_is, deep, on_stop, on_leaf, on_open, on_end, on_done}
use Rattle.outs.specs.Held.{read_out}
use Rattle.outs.specs.PageOut.{good, check_page_out}
use Rattle.outs.specs.Step.{Stepped, LeafIs, OpenIs}
use Rattle.outs.specs.declared.Expect.{Expect}
use Rattle.outs.specs.declared.Expect.TheVariants as E
use Rattle.outs.specs.declared.page_out.Front.{Front}
use Rattle.outs.specs.declared.page_out.Front.TheVariants as F
use Rattle.outs.specs.declared.page_out.Frame.{Frame}

-- what the stack reads as past its end
abbrev pub none : Frame
none = record { rest = 0; after = E.Whole }

-- a row is checked where nothing was refused yet; to leave a field does nothing
abbrev pub checks : ℕ → Walk
checks width =
    record {
      World = Verdict;
      Expects = Expect;
      Frame = Frame;
      Stack = List Frame;
      reads = read_out width;
      frame = λ fs i. get_or fs i none;
      does = λ c x v. after v λ _. good width c x;
      rest = λ f. f.rest;
      next = λ f. f.after;
      leave = λ f v. v;
    }

stops : (width : ℕ) (n : Refusal) → Stops (checks width) (Refused n)
unfolding after
stops width n = record { does_no = λ c x. refl; leaves_no = λ f. refl }

pub begins : (width : ℕ) (s : Bytes) (fs : List Frame) → Going (checks width) s fs 0 0 (length s) E.Whole Fine (check_page_out width s)
unfolding after check_page_out
begins width s fs = start (checks width) s fs E.Whole Fine

module _ (width : ℕ) {s : Bytes} {fs : List Frame} {h at e : ℕ} {c : Expect} {t : Verdict} (p : Going (checks width) s fs h at e c Fine t) {r : Result Front Refusal} (d : Stepped width c (part s at e) r) where
  told : {q : Result Front Refusal} → r ≡ q → Stepped width c (part s at e) q
  told g = subst (Stepped width c (part s at e)) g d

  pub refuses : {n : Refusal} → r ≡ Err n → Refused n ≡ t
  unfolding after
  refuses {n} g = on_stop p (told g) (stops width n)

  pub finishes : r ≡ Ok F.End → h ≡ 0 → Fine ≡ t
  unfolding after
  finishes g z = on_done p (told g).1 z

  pub passes : {n : ℕ} {o : Expect} → r ≡ Ok (F.Leaf n o) → (3 ≤ n) × Going (checks width) s fs h (at + n) e o Fine t
  unfolding after
  passes {n} {o} g =
      let q : LeafIs width c (part s at e) n o = told g in
      (q.header, on_leaf p n q.ends q.is)

  pub opens_up : {k n depth : ℕ} {o a : Expect} → HighEnough depth (length s) → r ≡ Ok (F.Open k n o a) → (3 ≤ k) × (k ≤ n) × (h < depth) × (at + n ≤ e)
      × ((gs : List Frame) → get_or gs h none ≡ record { rest = (e - at - n) % 65536; after = a } → ((i : ℕ) → i < h → get_or gs i none ≡ get_or fs i none) → Going (checks width) s gs (h + 1) (at + k) (at + n) o Fine t)
  unfolding after
  opens_up {k} {n} {depth} {o} {a} hi g =
      let q : OpenIs width c (part s at e) k n o a = told g in
      let l = left_is p in
      let f : Frame = record { rest = (e - at - n) % 65536; after = a } in
      (q.header, q.starts, deep p hi (omega (arith, p.ordered, q.header, q.starts, q.ends)), omega (arith, p.ordered, q.ends), λ gs same below. on_open p gs f same below k n q.header q.starts q.ends q.short refl q.is)

  -- f is the frame on top of h' more
  pub closes : r ≡ Ok F.End → {h' : ℕ} {f : Frame} → h ≡ h' + 1 → get_or fs h' none ≡ f → Going (checks width) s fs h' at (until h' at f.rest (length s)) f.after Fine t
  unfolding after
  closes g {h'} {f} z q =
      let m : h - 1 ≡ h' = omega arith in
      subst (λ (j : Frame). Going (checks width) s fs h' at (until h' at j.rest (length s)) j.after Fine t) q
      (subst (λ (i : ℕ). Going (checks width) s fs i at (ends_at (checks width) s fs i at) (get_or fs i none).after Fine t) m
      (on_end h p (told g).0 (told g).1 (λ o. omega arith)))
