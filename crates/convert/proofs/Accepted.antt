-- 02, A7: what the transform makes of an accepted page goes down and comes up unchanged; it is refused for room alone. Main statements:
-- `templates_fine`, `page_fine`, `down_and_up_of_accepted`. Assumes nothing.
use Prim.Native.Nat.{ℕ, suc, ◌≤◌}
use native.Mathlib.Omega.{arith}
use mathlib.Core.Path.{◌≡◌, refl, sym, ap, ap₂, ◌∙◌, subst}
use mathlib.Core.Bool.{Bool, true, false, ◌||◌, not}
use mathlib.Core.Option.{Option, some}
use mathlib.Core.List.{List, [], ◌∷◌}
use lib.Dec.{T, leb}
use lib.ListN.{length}
use borrow.Author.Tests.{le-leb}
use Rattle.page.proofs.Booleans.{is_true}
use Rattle.field.specs.Bytes.{Bytes, AllBytes}
use Rattle.field.specs.Row.{Row, bytes, long_body, read}
use Rattle.field.proofs.Reading.{SaneBy, back, sane}
use Rattle.field.proofs.NumberLaws.{two_read}
use Rattle.field.proofs.RowLaws.{read_sane}
use Rattle.refusal.specs.Refusal.{Fine, Verdict, verdict_number}
use Rattle.page.specs.Limits.{ModuleItemsOk}
use Rattle.page.specs.Tree.{page_in, works_sums, options_in}
use Rattle.page.proofs.Options.{options_ok}
use Rattle.outs.specs.Held.{held, read_out}
use Rattle.outs.specs.PageOut.{good, check_page_out}
use Rattle.outs.specs.Renumber.{renumbered, has_wide}
use Rattle.outs.specs.Templates.{check_records, check_templates}
use Rattle.outs.specs.declared.Expect.TheVariants as E
use Rattle.outs.specs.declared.Kind.TheVariants.{Old, New}
use Rattle.spec.specs.Pass.{Template}
use Rattle.spec.specs.Answer as A
use Rattle.spec.specs.Answer.{page_given, outcome}
use Rattle.spec.specs.Transform.{templates_row}
use Rattle.spec.specs.Words.{by_bytes, AllFit}
use Rattle.spec.proofs.Good.{Sound, AllSound}
use Rattle.spec.proofs.Ledger.{called_row}
use Rattle.spec.proofs.Called.{numbers, balance}
use Rattle.spec.proofs.Counts.{span_above, AllWithin, all_within}
use Rattle.spec.proofs.PageOut.{page_called}
use Rattle.spec.proofs.Given.{given_ok}
use Rattle.spec.proofs.Lent.{made, made_page, says, exact, short, taken_few, templates_read}
use Rattle.spec.proofs.Lent as L
use Rattle.spec.proofs.Spaced.{sound_spaced}
use Rattle.spec.proofs.Characters.{Text, AllText}
use Rattle.convert.specs.Convert.{Outcome, refused, converted, past, raised, lowered, written, upgraded, downgraded}
use Rattle.convert.specs.Words.{DownAndUp, no_room_for_templates, no_room_for_page, comes_back}
use Rattle.convert.proofs.Formed.{true_never, FormedRow, AllTexts}
use Rattle.convert.proofs.KindsInPlace.{kinds_by_places}
use Rattle.convert.proofs.PageFormed.{page_texts, page_row_formed}
use Rattle.convert.proofs.RowFormed.{flat, flat_bytes, flat_short, flat_shaped, flat_good, flat_read, whole_formed}
use Rattle.convert.proofs.Lowered.{Lowers, AllLower, low_row, records_fine, lowered_given, low_short, low_read, old_fine, raised_back}
use Rattle.convert.proofs.Narrowed.{is_wide, narrowed_good, narrowed_short, recorded_narrow, none_wide}
use Rattle.convert.proofs.Return.{rows_shaped, rows_return}

-- ---- the answers, where nothing is refused but for room

-- what is answered of both rows by the rooms
unfoldable by_room : (templates_fit page_fits : Bool) → Row → Row → Outcome
by_room false c x y = refused 12
by_room true false x y = refused 13
by_room true true x y = converted (record { templates_out = bytes x; page_out = bytes y })

written_by : (tr pr : ℕ) (x y : Row) (l a b : Bool) → (long_body x || long_body y) ≡ l → l ≡ false → leb (length (bytes x)) tr ≡ a → leb (length (bytes y)) pr ≡ b → written tr pr (some x) true y ≡ by_room a b x y
unfolding written past by_room
written_by tr pr x y true a b p z q r = true_never z
written_by tr pr x y false false b p z q r = rw (p, q) refl
written_by tr pr x y false true false p z q r = rw (p, q, r) refl
written_by tr pr x y false true true p z q r = rw (p, q, r) refl

short_both : (a b : Bool) → T (not a) → T (not b) → (a || b) ≡ false
short_both true b h g = absurd h
short_both false true h g = absurd g
short_both false false h g = refl

-- ---- both ways, where nothing is refused before

module _ (t p : Bytes) (tr pr : ℕ) (x y z : Row) where
  down_by : check_templates New t ≡ Fine → check_page_out 4 p ≡ Fine → lowered (read t) ≡ some x → read_out 4 p ≡ z → has_wide z ≡ false → renumbered 2 z ≡ y → downgraded t p tr pr ≡ written tr pr (some x) true y
  unfolding downgraded past verdict_number
  down_by a b c e f g =
      ap₂ (λ (u v : Verdict). past (verdict_number u) λ _. past (verdict_number v) λ _. written tr pr (lowered (read t)) (not (has_wide (read_out 4 p))) (renumbered 2 (read_out 4 p))) a b
      ∙ ap₂ (λ (u : Option Row) (v : Row). written tr pr u (not (has_wide v)) (renumbered 2 v)) c e
      ∙ ap₂ (λ (u : Bool) (v : Row). written tr pr (some x) (not u) v) f g

  up_by : check_templates Old t ≡ Fine → check_page_out 2 p ≡ Fine → raised (read t) ≡ some x → read_out 2 p ≡ z → renumbered 4 z ≡ y → upgraded t p tr pr ≡ written tr pr (some x) true y
  unfolding upgraded past verdict_number
  up_by a b c e f =
      ap₂ (λ (u v : Verdict). past (verdict_number u) λ _. past (verdict_number v) λ _. written tr pr (raised (read t)) true (renumbered 4 (read_out 2 p))) a b
      ∙ ap₂ (λ (u : Option Row) (v : Row). written tr pr u true (renumbered 4 v)) c e
      ∙ ap (written tr pr (some x) true) f

-- ---- the templates of an accepted page

lowers : (t : Template) → Sound t → AllText t.strings → t.number ≤ 65535 → Lowers t
lowers t s h l =
    record {
      texts = h;
      one_more = s.one_more ∙ ap (λ (ks : List Bool). suc (length ks)) (sym s.placed);
      kinds = kinds_by_places t.strings (sound_spaced t s) (λ fs fit. s.nested by_bytes fs (subst (λ (ks : List Bool). AllFit by_bytes ks fs) s.placed fit));
      low = l;
    }

all_lowers : (k : ℕ) (ts : List Template) → k ≤ 65535 → AllSound ts → AllTexts ts → AllWithin k ts → AllLower ts
unfolding AllSound AllTexts AllWithin AllLower
all_lowers k [] l s h n = tt
all_lowers k (t ∷ ts) l s h n = (lowers t s.0 h.0 (omega (arith, n.0)), all_lowers k ts l s.1 h.1 n.1)

module _ (page options : Bytes) (scratch tr pr : ℕ) (w : A.Written) (all : AllBytes page) (all_options : AllBytes options) (e : outcome page options scratch tr pr ≡ A.accepted w) where
  ts : List Template
  ts = (made page options).templates

  row : Row
  row = made_page page options

  within_limits : ModuleItemsOk (page_given page options)
  unfolding page_given
  within_limits = given_ok (works_sums (read options)) (page_in (read page)) (exact page options scratch tr pr w all e).1

  few : (made page options).taken ≤ 65535
  few = omega (arith, taken_few page options scratch tr pr w all e, (says page options scratch tr pr w all e).inputs.page_short)

  all_within_few : AllWithin (made page options).taken ts
  unfolding ts
  all_within_few = all_within (made page options).taken (made page options).templates (λ m l. numbers (options_in (read options)) (page_given page options) m ∙ span_above 1 (made page options).taken m (omega arith))

  all_lower : AllLower ts
  unfolding ts
  all_lower =
      all_lowers (made page options).taken (made page options).templates few ((L.good page options scratch tr pr w all e).kept.sound (says page options scratch tr pr w all e).outputs.none_mixed)
      (page_texts (options_in (read options)) (page_given page options) within_limits) all_within_few

  templates_short : T (not (long_body (templates_row ts)))
  unfolding ts
  templates_short = (short page options scratch tr pr w all e).0

  row_short : T (not (long_body row))
  unfolding row
  row_short = (short page options scratch tr pr w all e).1

  templates_are : read w.templates_out ≡ templates_row ts
  unfolding ts
  templates_are = templates_read page options scratch tr pr w all e

  templates_bytes : w.templates_out ≡ bytes (templates_row ts)
  unfolding ts
  templates_bytes = ap (λ (v : A.Written). v.templates_out) (sym (says page options scratch tr pr w all e).written_is)

  page_bytes : w.page_out ≡ bytes row
  unfolding row
  page_bytes = ap (λ (v : A.Written). v.page_out) (sym (says page options scratch tr pr w all e).written_is)

  -- fine as templates out
  pub templates_fine : check_templates New w.templates_out ≡ Fine
  unfolding check_templates
  templates_fine = ap (check_records New) templates_are ∙ records_fine ts all_lower templates_short

  source_text : Text (options_in (read options)).import_source
  source_text = is_true _ (options_ok (read options) (read_sane options all_options) (says page options scratch tr pr w all e).inputs.options_fine).2

  row_formed : FormedRow E.Whole row
  unfolding row
  row_formed = whole_formed (options_in (read options)) (made page options) source_text row_short (page_row_formed (options_in (read options)) (page_given page options) within_limits (says page options scratch tr pr w all e).outputs.none_left)

  row_read : read_out 4 w.page_out ≡ flat row
  row_read = ap (read_out 4) page_bytes ∙ flat_read E.Whole row row_formed row_short

  flat_is_good : good 4 E.Whole (flat row) ≡ Fine
  flat_is_good = flat_good E.Whole row row_formed

  -- fine as page out
  pub page_fine : check_page_out 4 w.page_out ≡ Fine
  unfolding check_page_out
  page_fine = ap (good 4 E.Whole) row_read ∙ flat_is_good

  narrow : has_wide (flat row) ≡ false
  narrow = none_wide E.Whole row row_formed none_called
    where
      none_called : called_row is_wide row ≡ 0
      none_called = unfold row in (page_called is_wide (options_in (read options)) (made page options) ∙ balance is_wide (options_in (read options)) (page_given page options) ∙ recorded_narrow (made page options).taken (made page options).templates few (unfold ts in all_within_few))

  below : Row
  below = low_row ts

  narrowed : Row
  narrowed = renumbered 2 (flat row)

  below_short : T (not (long_body below))
  unfolding below
  below_short = low_short ts templates_short

  narrowed_is_short : T (not (long_body narrowed))
  unfolding narrowed
  narrowed_is_short = narrowed_short E.Whole (flat row) (flat_shaped E.Whole row row_formed) flat_is_good (flat_short row row_short)

  down_is : (tr' pr' : ℕ) → downgraded w.templates_out w.page_out tr' pr' ≡ written tr' pr' (some below) true narrowed
  unfolding below narrowed
  down_is tr' pr' = down_by w.templates_out w.page_out tr' pr' (low_row ts) (renumbered 2 (flat row)) (flat row) templates_fine page_fine (ap lowered templates_are ∙ lowered_given ts all_lower) row_read narrow refl

  narrowed_read : read_out 2 (bytes narrowed) ≡ narrowed
  unfolding read_out narrowed
  narrowed_read = back (held 2) (renumbered 2 (flat row)) (rows_shaped 4 2 two_read (flat row) (flat_shaped E.Whole row row_formed)) narrowed_is_short

  below_fine : check_templates Old (bytes below) ≡ Fine
  unfolding check_templates below
  below_fine = ap (check_records Old) (low_read ts templates_short) ∙ old_fine ts all_lower

  narrowed_fine : check_page_out 2 (bytes narrowed) ≡ Fine
  unfolding check_page_out
  narrowed_fine = ap (good 2 E.Whole) narrowed_read ∙ narrowed_is_good
    where
      narrowed_is_good : good 2 E.Whole narrowed ≡ Fine
      narrowed_is_good = unfold narrowed in narrowed_good E.Whole (flat row) flat_is_good

  below_raised : raised (read (bytes below)) ≡ some (templates_row ts)
  unfolding below
  below_raised = ap raised (low_read ts templates_short) ∙ raised_back ts all_lower

  module _ (all_page : AllBytes w.page_out) where
    row_returns : renumbered 4 narrowed ≡ flat row
    unfolding narrowed
    row_returns = rows_return 4 2 two_read E.Whole (flat row) (subst (SaneBy (held 4)) row_read row_sane) flat_is_good narrow
      where
        row_sane : SaneBy (held 4) (read_out 4 w.page_out)
        row_sane = unfold read_out in sane (held 4) w.page_out all_page

    up_is : (tr' pr' : ℕ) → length w.templates_out ≤ tr' → length w.page_out ≤ pr' → upgraded (bytes below) (bytes narrowed) tr' pr' ≡ converted (record { templates_out = w.templates_out; page_out = w.page_out })
    up_is tr' pr' h g =
        let a : length (bytes (templates_row ts)) ≤ tr' = subst (λ (b : Bytes). length b ≤ tr') templates_bytes h in
        let f : bytes (flat row) ≡ w.page_out = flat_bytes row ∙ sym page_bytes in
        let b : length (bytes (flat row)) ≤ pr' = subst (λ (b : Bytes). length b ≤ pr') (sym f) g in
        up_by (bytes below) (bytes narrowed) tr' pr' (templates_row ts) (flat row) narrowed below_fine narrowed_fine below_raised narrowed_read row_returns
        ∙ written_by tr' pr' (templates_row ts) (flat row) (long_body (templates_row ts) || long_body (flat row)) true true refl (short_both _ _ templates_short (flat_short row row_short)) (le-leb (length (bytes (templates_row ts))) tr' a) (le-leb (length (bytes (flat row))) pr' b)
        ∙ room_is f
      where
        room_is : bytes (flat row) ≡ w.page_out → by_room true true (templates_row ts) (flat row) ≡ converted (record { templates_out = w.templates_out; page_out = w.page_out })
        room_is f = unfold by_room in ap₂ (λ (t p : Bytes). converted (record { templates_out = t; page_out = p })) (sym templates_bytes) f

    -- refused for room alone, and what is given comes up unchanged
    pub down_and_up_of_accepted : (tr' pr' : ℕ) → DownAndUp w.templates_out w.page_out tr' pr'
    down_and_up_of_accepted tr' pr' = on (leb (length (bytes below)) tr') (leb (length (bytes narrowed)) pr') refl refl
      where
        answered : (a b : Bool) → leb (length (bytes below)) tr' ≡ a → leb (length (bytes narrowed)) pr' ≡ b → downgraded w.templates_out w.page_out tr' pr' ≡ by_room a b below narrowed
        answered a b p q = down_is tr' pr' ∙ written_by tr' pr' below narrowed (long_body below || long_body narrowed) a b refl (short_both _ _ below_short narrowed_is_short) p q

        on : (a b : Bool) → leb (length (bytes below)) tr' ≡ a → leb (length (bytes narrowed)) pr' ≡ b → DownAndUp w.templates_out w.page_out tr' pr'
        on false b p q = no_room_for_templates (answered false b p q ∙ (unfold by_room in refl))
        on true false p q = no_room_for_page (answered true false p q ∙ (unfold by_room in refl))
        on true true p q = comes_back (record { templates_out = bytes below; page_out = bytes narrowed }) (answered true true p q ∙ (unfold by_room in refl)) up_is
