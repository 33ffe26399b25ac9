-- What an answer says, in the words of 02, A11. Main statements: `answer_is`, `refusal_is`. Assumes nothing.
use mathlib.Core.Path.{◌≡◌, refl, sym, ap, ◌∙◌, subst}
use mathlib.Core.Bool.{Bool, true, false}
use Prim.Native.Nat.{ℕ, ◌≤◌}
use native.Mathlib.Omega.{arith}
use mathlib.Core.List.{List, []}
use lib.Dec.{eqb, leb}
use lib.ListN.{length, get_or}
use borrow.Author.Tests.{ne_eqb, eq-eqb, leb-true}
use Rattle.std.proofs.lemmas.Bool.{and_parts}
use Rattle.field.specs.Bytes.{Bytes, pick}
use Rattle.field.specs.Row.{read}
use Rattle.refusal.specs.Refusal.{Verdict, Fine, Refused, refusal_number, verdict_number}
use Rattle.refusal.proofs.Verdicts.{never_zero}
use Rattle.outs.specs.Templates.{check_templates}
use Rattle.outs.specs.declared.Kind.TheVariants.{New}
use Rattle.find.specs.Find.{Met, rising, asked_well, absent, walk, none_met, find_number, found}
use Rattle.find.specs.Answer.{Answered, Nothing}
use Rattle.find.specs.Words.{Taken, LookedUp}
use Rattle.find.proofs.Counted.{count_is_steps}
use Rattle.find.proofs.Kept.{behind_absent}
use Rattle.find.proofs.Firsts.{place_is_first}
use Rattle.find.proofs.ReadUpTo.{records_are}

-- what number 0 tells of the templates and of the numbers
fine_and_well : (v : Verdict) (b : Bool) → pick (eqb (verdict_number v) 0) (pick b 0 20) (verdict_number v) ≡ 0 → (v ≡ Fine) × (b ≡ true)
unfolding verdict_number
fine_and_well Fine true e = (refl, refl)
fine_and_well Fine false e = absurd (omega arith)
fine_and_well (Refused n) b e = absurd (never_zero n (sym (ap (λ (y : Bool). pick y (pick b 0 20) (refusal_number n)) (ne_eqb (refusal_number n) 0 (never_zero n))) ∙ e))

module _ (t : Bytes) (ns : List ℕ) {number records : ℕ} {places : List ℕ} (a : Answered t ns number records places) where
  accepted : number ≡ 0 → (check_templates New t ≡ Fine) × (asked_well ns ≡ true)
  unfolding find_number
  accepted e = fine_and_well (check_templates New t) (asked_well ns) (sym a.number_is ∙ e)

  walk_found : number ≡ 0 → found t ns ≡ walk ns 0 (read t) (none_met ns)
  unfolding found
  walk_found e = ap (λ (y : Bool). pick y (walk ns 0 (read t) (none_met ns)) (none_met [])) (eq-eqb (find_number t ns) 0 (sym a.number_is ∙ e))

  -- number 0: the templates and the numbers passed, and places and records are as 02 says
  pub answer_is : number ≡ 0 → LookedUp t ns records places
  answer_is e =
      let s : length t ≤ absent = omega (arith, a.in_memory) in
      let both = and_parts (leb (length ns) 256) (rising ns) (accepted e).1 in
      let h : length ns ≤ 256 = leb-true (length ns) 256 both.0 in
      let p : places ≡ (walk ns 0 (read t) (none_met ns)).places = a.places_is ∙ ap (λ (m : Met). m.places) (walk_found e) in
      let c : records ≡ (walk ns 0 (read t) (none_met ns)).records = a.records_is ∙ ap (λ (m : Met). m.records) (walk_found e) in
      record {
        checked = (accepted e).0;
        not_many = h;
        in_order = both.1;
        place_is = λ k l. ap (λ (ps : List ℕ). get_or ps k 0) p ∙ place_is_first ns both.1 h k l t s;
        behind_is = λ k l j. ap (λ (ps : List ℕ). get_or ps k 0) p ∙ behind_absent ns k t l j;
        records_is = c ∙ records_are ns both.1 h t s;
        steps_taken = subst (λ (k : ℕ). Taken ns 0 (read t) (none_met ns) k) (sym c) (count_is_steps t ns);
      }

  -- any other number: all absent, and zero
  pub refusal_is : (number ≡ 0 → ⊥) → Nothing number number records places
  unfolding found
  refusal_is e =
      let f : found t ns ≡ none_met [] = ap (λ (y : Bool). pick y (walk ns 0 (read t) (none_met ns)) (none_met [])) (ne_eqb (find_number t ns) 0 (λ z. e (a.number_is ∙ z))) in
      record { number_is = refl; records_is = a.records_is ∙ ap (λ (m : Met). m.records) f; places_is = a.places_is ∙ ap (λ (m : Met). m.places) f }
