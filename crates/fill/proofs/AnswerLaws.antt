-- The outcome at each exit of the code, and what it leaves in the lent buffer. Main statements: `templates_refused`, `order_refused`, `no_html`,
-- `no_room`, `all_filled`, `refusal_answered`. Assumes nothing.
use mathlib.Core.Path.{◌≡◌, refl, sym, ap, ◌∙◌}
use mathlib.Core.Option.{Option, none, some}
use Prim.Native.Nat.{ℕ, ◌≤◌, ◌<◌}
use native.Mathlib.Omega.{arith}
use lib.ListN.{length, replicate}
use borrow.Author.Tests.{le-leb, lt-leb}
use Rattle.std.specs.Prelude as S
use Rattle.std.specs.Option.{ok_or}
use Rattle.std.specs.Result.{IsErr, IsErrAnd}
use Rattle.field.specs.Bytes.{Bytes}
use Rattle.field.specs.Row.{read}
use Rattle.field.specs.Put.{Wrote}
use Rattle.refusal.specs.Refusal.{Fine, Refused, refusal_number}
use Rattle.refusal.specs.declared.Refusal.{Refusal}
use Rattle.refusal.specs.declared.Refusal.TheVariants as R
use Rattle.outs.specs.Templates.{check_templates}
use Rattle.outs.specs.declared.Kind.TheVariants.{New}
use Rattle.fill.specs.Order.{read_order, check_order}
use Rattle.fill.specs.Html.{html_of}
use Rattle.fill.specs.Answer.{Outcome, refused, filled, past, html_written, outcome, Answered}
use Rattle.fill.specs.Located.{Fills}
use Rattle.fill.specs.Attempt.{unfilled_number, Fails, Attempts}
use Rattle.fill.specs.declared.answer.Filled.{Filled}
use Rattle.fill.specs.declared.answer.Unfilled.{Unfilled}
use Rattle.fill.specs.declared.answer.Unfilled.TheVariants as U

module _ (t o : Bytes) (room : ℕ) where
  pub templates_refused : (n : Refusal) → check_templates New t ≡ Refused n → outcome t o room ≡ refused (refusal_number n)
  unfolding outcome past
  templates_refused n e = rw e

  module _ (f : check_templates New t ≡ Fine) where
    pub order_refused : (n : Refusal) → check_order (read_order o) ≡ Refused n → outcome t o room ≡ refused (refusal_number n)
    unfolding outcome past
    order_refused n e = rw (f, e)

    module _ (g : check_order (read_order o) ≡ Fine) where
      checked_is : outcome t o room ≡ html_written room (html_of (read t) (read_order o))
      unfolding outcome past
      checked_is = rw (f, g)

      pub no_html : (b b' : Bytes) → Fills (html_of (read t) (read_order o)) b 0 b' S.None → outcome t o room ≡ refused 18
      no_html b b' h = checked_is ∙ on (html_of (read t) (read_order o)) h
        where
          on : (x : Option Bytes) → Fills x b 0 b' S.None → html_written room x ≡ refused 18
          on none h = unfold html_written in refl
          on (some x) h = absurd h

      -- the HTML, as it is written
      record Written (b b' : Bytes) (n : ℕ) : Type 0 where
        html : Bytes
        is : html_of (read t) (read_order o) ≡ some html
        wrote : Wrote b 0 html b' n

      written : (b b' : Bytes) (n : ℕ) → Fills (html_of (read t) (read_order o)) b 0 b' (S.Some n) → Written b b' n
      written b b' n h = on (html_of (read t) (read_order o)) refl h
        where
          on : (x : Option Bytes) → html_of (read t) (read_order o) ≡ x → Fills x b 0 b' (S.Some n) → Written b b' n
          on none e h = absurd h
          on (some x) e h = record { html = x; is = e; wrote = h }

      module _ (b b' : Bytes) {n : ℕ} (h : Fills (html_of (read t) (read_order o)) b 0 b' (S.Some n)) where
        w : Written b b' n
        w = written b b' n h

        pub no_room : room < n → outcome t o room ≡ refused (refusal_number R.PageTooSmall)
        unfolding html_written past
        no_room l = checked_is ∙ rw (w.is, lt-leb (length w.html) room (omega (arith, w.wrote.end_is)))

        filled_is : n ≤ room → outcome t o room ≡ filled w.html
        unfolding html_written past
        filled_is l = checked_is ∙ rw (w.is, le-leb (length w.html) room (omega (arith, w.wrote.end_is)))

        pub all_filled : n ≤ room → Answered (outcome t o room) b 0 n b'
        all_filled l =
            let e : outcome t o room ≡ filled w.html = filled_is l in
            let k : n ≡ length w.html = omega (arith, w.wrote.end_is) in
            record { number_is = rw e; html_bytes_is = k ∙ rw e; html_is = w.wrote.out_is ∙ rw e }

-- ---- what the code has at hand

-- the fillings do not fit
pub unfitting : (r : S.Option ℕ) (e : Unfilled) → ok_or r U.Unfitting ≡ S.Err e → (r ≡ S.None) × (e ≡ U.Unfitting)
unfitting S.None e h = (refl, cc)
unfitting (S.Some x) e h = absurd (cc)

-- a reason that is passed on
pub passed_on : (o : Outcome) (b b' : Bytes) (r : S.Result Filled Unfilled) (e : Unfilled) → IsErr r × IsErrAnd r (λ v. v ≡ e) → o ≡ refused (unfilled_number e) → length b' ≡ length b → Attempts o b r b'
passed_on o b b' (S.Ok a) e h q l = absurd h.1
passed_on o b b' (S.Err v) e h q l = record { reason_is = q ∙ ap (λ (u : Unfilled). refused (unfilled_number u)) (sym h.1); size = l }

-- a refusal as it is answered
pub refusal_answered : {o : Outcome} {b b' b₂ : Bytes} {e : Unfilled} {n : ℕ} → Fails o b e b' → n ≡ unfilled_number e → b₂ ≡ replicate (length b') 0 → Answered o b n 0 b₂
refusal_answered {o} {b} {b'} {b₂} {e} {n} f en eb =
    let z = f.reason_is in
    record {
      number_is = en ∙ rw z;
      html_bytes_is = rw z;
      html_is = eb ∙ ap (λ (m : ℕ). replicate m 0) f.size ∙ rw z;
    }
