-- What a caller of the filler knows from its answer and its buffers alone. Main statements: `html_of_answer`, `nested_of_answer`,
-- `behind_of_answer`, `refused_of_answer`. Assumes nothing.
use Prim.Native.Nat.{ℕ, ◌+◌, ◌≤◌}
use native.Mathlib.Nat.{zero-add}
use native.Mathlib.Omega.{arith}
use mathlib.Core.Path.{◌≡◌, refl, sym, ap, ap₂, ◌∙◌, subst}
use mathlib.Core.Bool.{Bool, true, false}
use mathlib.Core.Option.{Option, none, some}
use lib.Dec.{leb}
use lib.ListN.{length, take, drop, replicate}
use lib.Seq.{take_at, drop_at}
use borrow.Author.Tests.{leb-true}
use Rattle.field.specs.Bytes.{Bytes}
use Rattle.field.specs.Row.{read}
use Rattle.field.specs.Put.{put}
use Rattle.field.proofs.PutLaws.{put_fits}
use Rattle.refusal.specs.Refusal.{Verdict, Fine, Refused, unless}
use Rattle.refusal.specs.declared.Refusal.TheVariants as R
use Rattle.refusal.proofs.Verdicts.{never_zero}
use Rattle.outs.specs.Templates.{check_templates}
use Rattle.outs.specs.declared.Kind.TheVariants.{New}
use Rattle.spec.specs.Demand.{Demand3Bytes}
use Rattle.spec.specs.Words.{by_bytes, WellNestedBy, WellNested}
use Rattle.fill.specs.Order.{read_order, check_order}
use Rattle.fill.specs.Html.{html_of}
use Rattle.fill.specs.Answer.{Outcome, refused, filled, past, html_written, outcome, number, Answered}
use Rattle.fill.proofs.Nested.{outcome_html, outcome_nested}

-- ---- number 0: something is filled, and it fits

record Written (room : ℕ) (x : Outcome) : Type 0 where
  html : Bytes
  is : x ≡ filled html
  fits : length html ≤ room

past_written : (room : ℕ) (v : Verdict) (f : Unit {0} → Outcome) → (number (f tt) ≡ 0 → Written room (f tt)) → number (past v f) ≡ 0 → Written room (past v f)
unfolding past
past_written room Fine f h e = h e
past_written room (Refused n) f h e = absurd (never_zero n e)

html_fits : (room : ℕ) (x : Option Bytes) → number (html_written room x) ≡ 0 → Written room (html_written room x)
unfolding html_written past
html_fits room none e = absurd (omega arith)
html_fits room (some h) e = on (leb (length h) room) refl e
  where
    on : (b : Bool) → leb (length h) room ≡ b → number (past (unless b R.PageTooSmall) λ _. filled h) ≡ 0 → Written room (past (unless b R.PageTooSmall) λ _. filled h)
    on true q e = record { html = h; is = refl; fits = leb-true (length h) room q }
    on false q e = absurd (never_zero R.PageTooSmall e)

zero_written : (t o : Bytes) (room : ℕ) → number (outcome t o room) ≡ 0 → Written room (outcome t o room)
unfolding outcome
zero_written t o room =
    past_written room (check_templates New t) (λ _. past (check_order (read_order o)) λ _. html_written room (html_of (read t) (read_order o)))
    (past_written room (check_order (read_order o)) (λ _. html_written room (html_of (read t) (read_order o))) (html_fits room (html_of (read t) (read_order o))))

-- ---- what fits stands in front, and the rest stays

put_front : (o w : Bytes) → length w ≤ length o → take (length w) (put o 0 w) ≡ w
put_front o w h = ap (take (length w)) (put_fits o 0 w (omega arith)) ∙ take_at w (drop (0 + length w) o) (length w) refl

put_rest : (o w : Bytes) → length w ≤ length o → drop (length w) (put o 0 w) ≡ drop (length w) o
put_rest o w h =
    ap (drop (length w)) (put_fits o 0 w (omega arith)) ∙ drop_at w (drop (0 + length w) o) (length w) refl ∙ ap (λ (k : ℕ). drop k o) (zero-add (length w))

module _ (t o html_out : Bytes) (n html_bytes : ℕ) (html_out' : Bytes) (a : Answered (outcome t o (length html_out)) html_out n html_bytes html_out') where
  -- what is known where the number is 0
  record Placed : Type 0 where
    html : Bytes
    outcome_is : outcome t o (length html_out) ≡ filled html
    front_is : take html_bytes html_out' ≡ html
    rest_is : drop html_bytes html_out' ≡ drop html_bytes html_out

  placed : n ≡ 0 → Placed
  placed z =
      let w = zero_written t o (length html_out) (sym a.number_is ∙ z) in
      let b = subst (λ (x : Outcome). Answered x html_out n html_bytes html_out') w.is a in
      record {
        html = w.html;
        outcome_is = w.is;
        front_is = ap₂ take b.html_bytes_is b.html_is ∙ put_front html_out w.html w.fits;
        rest_is = ap₂ drop b.html_bytes_is b.html_is ∙ put_rest html_out w.html w.fits ∙ ap (λ (k : ℕ). drop k html_out) (sym b.html_bytes_is);
      }

  -- number 0: the first bytes of html out are the static strings and fillings in turn
  pub html_of_answer : n ≡ 0 → html_of (read t) (read_order o) ≡ some (take html_bytes html_out')
  html_of_answer z = let k = placed z in outcome_html t o (length html_out) k.html k.outcome_is ∙ ap some (sym k.front_is)

  -- and they are well nested, in small letters and by bytes, where demand 3 holds of the templates
  pub nested_of_answer : (p : Bytes) (count : ℕ) → Demand3Bytes t p count → n ≡ 0 →
      WellNested (take html_bytes html_out') × WellNestedBy by_bytes (take html_bytes html_out')
  nested_of_answer p count d z =
      let k = placed z in
      subst (λ (h : Bytes). WellNested h × WellNestedBy by_bytes h) (sym k.front_is) (outcome_nested t p count d o (length html_out) k.html k.outcome_is)

  -- and the bytes behind them stay
  pub behind_of_answer : n ≡ 0 → drop html_bytes html_out' ≡ drop html_bytes html_out
  behind_of_answer z = (placed z).rest_is

  -- any other number: zeros
  pub refused_of_answer : (n ≡ 0 → ⊥) → (html_bytes ≡ 0) × (html_out' ≡ replicate (length html_out) 0)
  refused_of_answer z = on (outcome t o (length html_out)) a
    where
      on : (x : Outcome) → Answered x html_out n html_bytes html_out' → (html_bytes ≡ 0) × (html_out' ≡ replicate (length html_out) 0)
      on (refused m) b = (b.html_bytes_is, b.html_is)
      on (filled h) b = absurd (z b.number_is)
