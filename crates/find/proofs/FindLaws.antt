-- The whole answer, by the checks. Main statements: `refused_is`, `walked_is`. Assumes nothing.
use mathlib.Core.Path.{◌≡◌, sym, ap, ap₂, ◌∙◌}
use mathlib.Core.Bool.{Bool, true, false, ◌&&◌}
use Prim.Native.Nat.{ℕ, ◌^◌, ◌≤◌, ◌<◌}
use native.Mathlib.Omega.{arith}
use mathlib.Core.List.{List, []}
use lib.Dec.{eqb}
use lib.ListN.{length}
use borrow.Author.Tests.{ne_eqb, le-leb}
use Rattle.field.specs.Bytes.{Bytes, pick}
use Rattle.field.specs.Row.{read}
use Rattle.refusal.specs.Refusal.{Verdict, Fine, refusal_number, verdict_number}
use Rattle.refusal.proofs.Verdicts.{never_zero}
use Rattle.outs.specs.Templates.{check_templates}
use Rattle.outs.specs.declared.Kind.TheVariants.{New}
use Rattle.find.specs.Find.{Met, rising, asked_well, walk, none_met, find_number, found}
use Rattle.std.specs.Prelude.{Err}
use Rattle.find.specs.Answer.{Walked, Answered, Nothing, Checked, unfound_number}
use Rattle.find.specs.declared.answer.Unfound.{Unfound}
use Rattle.find.specs.declared.answer.Unfound.TheVariants.{Templates, Numbers}

module _ (t : Bytes) (ns : List ℕ) where
  -- by its number
  nothing_found : (n : ℕ) → find_number t ns ≡ n → (n ≡ 0 → ⊥) → length t < 2 ^ 64 → {a b : ℕ} {ps : List ℕ} → Nothing n a b ps → Answered t ns a b ps
  unfolding found
  nothing_found n e z s {a} {b} {ps} o =
      let k : eqb (find_number t ns) 0 ≡ false = ne_eqb (find_number t ns) 0 (λ y. z (sym e ∙ y)) in
      let f : none_met [] ≡ found t ns = sym (ap (λ (x : Bool). pick x (walk ns 0 (read t) (none_met ns)) (none_met [])) k) in
      record {
        in_memory = s;
        number_is = o.number_is ∙ sym e;
        records_is = o.records_is ∙ ap (λ (m : Met). m.records) f;
        places_is = o.places_is ∙ ap (λ (m : Met). m.places) f;
      }

  module _ (s : length t < 2 ^ 64) where
    pub refused_is : (e : Unfound) → Checked t ns (Err e) → {a b : ℕ} {ps : List ℕ} → Nothing (unfound_number e) a b ps → Answered t ns a b ps
    unfolding find_number verdict_number
    refused_is (Templates r) k o =
        let n : find_number t ns ≡ refusal_number r =
        ap (λ (v : Verdict). pick (eqb (verdict_number v) 0) (pick (asked_well ns) 0 20) (verdict_number v)) k
        ∙ ap (λ (x : Bool). pick x (pick (asked_well ns) 0 20) (refusal_number r)) (ne_eqb (refusal_number r) 0 (never_zero r)) in
        nothing_found (refusal_number r) n (never_zero r) s o
    refused_is Numbers k o =
        let n : find_number t ns ≡ 20 =
        ap (λ (v : Verdict). pick (eqb (verdict_number v) 0) (pick (asked_well ns) 0 20) (verdict_number v)) k.0
        ∙ ap (λ (x : Bool). pick x 0 20) k.1 in
        nothing_found 20 n (λ z. omega arith) s o

    pub walked_is : (check_templates New t ≡ Fine) × (rising ns ≡ true) × (length ns ≤ 256) → {a b : ℕ} {ps : List ℕ} → Walked t ns a b ps → Answered t ns a b ps
    unfolding find_number verdict_number found
    walked_is k w =
        let n : find_number t ns ≡ 0 =
        ap (λ (v : Verdict). pick (eqb (verdict_number v) 0) (pick (asked_well ns) 0 20) (verdict_number v)) k.0
        ∙ ap₂ (λ (x y : Bool). pick (x && y) 0 20) (le-leb (length ns) 256 k.2) k.1 in
        let g : walk ns 0 (read t) (none_met ns) ≡ found t ns = sym (ap (λ (n : ℕ). pick (eqb n 0) (walk ns 0 (read t) (none_met ns)) (none_met [])) n) in
        record {
          in_memory = s;
          number_is = w.number_is ∙ sym n;
          records_is = w.records_is ∙ ap (λ (m : Met). m.records) g;
          places_is = w.places_is ∙ ap (λ (m : Met). m.places) g;
        }
