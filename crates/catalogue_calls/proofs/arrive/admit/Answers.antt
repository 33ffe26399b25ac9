-- `arrive::admit` meets its contract: each test refuses what the paper refuses, in its order. Assumes nothing.
use Prim.Native.Nat.{ℕ}
use mathlib.Core.Path.{◌≡◌, sym, ap, ◌∙◌}
use mathlib.Core.Bool.{true, false}
use native.Mathlib.Omega.{arith}
use lib.ListN.{length}
use Rattle.std.specs.Prelude.{Ok, Err}
use Rattle.field.proofs.NumberLaws.{all_from}
use Rattle.refusal.specs.Refusal.{refusal_number}
use Rattle.catalogue.specs.Page.{Page, IsBytes, A14}
use Rattle.catalogue.specs.Catalogue.{Holds}
use Rattle.catalogue.specs.Shares.{Shares}
use Rattle.catalogue.specs.Calls.{refused, call_right}
use Rattle.catalogue_calls.specs.Answer.{shares_of}
use Rattle.catalogue_calls.specs.Arrives.{page_of, Admits}
use Rattle.catalogue_calls.specs.Judges.{unkept_number}
use Rattle.catalogue_calls.specs.Reads.{Holding}
use Rattle.catalogue_calls.specs.Standing.{housed}
use Rattle.catalogue_calls.proofs.OutcomeLaws.{unread, is_held, holds_of, none_err, some_ok, passed_on}
use Rattle.catalogue_calls.proofs.RoomLaws.{shares_long}
use Rattle.catalogue_calls.proofs.ArriveLaws.{page_refused, unshared, named, roomed, house_low, house_high, shares_wrong, call_is_right, room_is, judged}
use Rattle.catalogue_calls.proofs.arrive.admit.Goals as goal
use Rattle.catalogue_calls.proofs.arrive.admit.Goals.{In_ok-held, After-look_up, then-house-lt1-via-then-house-lt1, then-house-lt1-via-else-house-lt1+then-house-gt16, then-house-lt1-via-else-house-lt1+else-house-gt16+then-not-shares_right}

abbrev shares_here : In_ok-held → Shares
shares_here c = shares_of c.args.shares.now

abbrev page_here : In_ok-held → Page
page_here c = page_of c.args.name c.args.house c.args.templates.now c.args.page.now

holding_here : (c : In_ok-held) → Holding c.args.catalogue.now c.in_ok-held.held.used c.in_ok-held.held.pages c.in_ok-held.held.forms
holding_here c = is_held c.args.catalogue.now c.read.result c.in_ok-held.held c.read.ensures (some_ok c.read.result _ c.in_ok-held.held (sym c.ok_or.ensures.value ∙ c.in_ok-held.was))

holds_here : (c : In_ok-held) → Holds housed c.args.catalogue.now (holding_here c).pages
holds_here c = holds_of (all_from c.args.catalogue.now (λ i. (c.type_inv.catalogue i).fits)) (holding_here c)

of_bytes : (c : In_ok-held) → IsBytes (page_here c).body
of_bytes c = (all_from c.args.templates.now (λ i. (c.type_inv.templates i).fits), all_from c.args.page.now (λ i. (c.type_inv.page i).fits))

pub returns-in_err-held : goal.returns-in_err-held
unfolding refusal_number
returns-in_err-held c =
    let o = none_err c.read.result _ c.in_err-held.field-0.0 (sym c.ok_or.ensures.value ∙ c.in_err-held.was) in
    passed_on (Admits c.args.catalogue.now (page_of c.args.name c.args.house c.args.templates.now c.args.page.now) (shares_of c.args.shares.now)) _ _ c.from_residual.ensures
    (unread _ _ c.args.catalogue.now c.read.result c.read.ensures o.0 ∙ ap (λ u. refused (unkept_number u)) o.1)

pub returns-in_err-judge : goal.returns-in_err-judge
returns-in_err-judge c =
    let d = (goal.at.returns-in_err-judge c).In_ok-held in
    let h = holding_here d in
    passed_on (Admits c.args.catalogue.now (page_here d) (shares_here d)) _ _ c.from_residual-in_err-judge.ensures
    (page_refused (shares_here d) (page_here d) c.args.catalogue.now h.pages h.reads (judged (page_here d).body (of_bytes d) (c.in_err-judge.ensures).0) (c.in_err-judge.ensures).1)

pub returns-then-house-lt1 : goal.returns-then-house-lt1
returns-then-house-lt1 c =
    let d = (goal.at.returns-then-house-lt1 c).In_ok-held in
    let h = holding_here d in
    let n : ℕ = length c.args.catalogue.now in
    let e : call_right A14 n (shares_here d) (page_here d) ≡ false = elim c.then-house-lt1.branch [
      | then-house-lt1-via-then-house-lt1 w ↦ house_low n (shares_here d) (page_here d) w.if-house-lt1.true
      | then-house-lt1-via-else-house-lt1+then-house-gt16 w ↦ house_high n (shares_here d) (page_here d) w.if-house-gt16.true
      | then-house-lt1-via-else-house-lt1+else-house-gt16+then-not-shares_right w ↦ shares_wrong n (shares_here d) (page_here d) (sym w.shares_right.ensures ∙ w.if-not-shares_right.true)
    ] in
    unshared (shares_here d) (page_here d) c.args.catalogue.now h.pages h.reads (judged (page_here d).body (of_bytes d) (c.in_ok-judge.ensures).0) e

-- the call is right
right_here : (c : After-look_up) → call_right A14 (length c.args.catalogue.now) (shares_of c.args.shares.now) (page_of c.args.name c.args.house c.args.templates.now c.args.page.now) ≡ true
right_here c =
    call_is_right (length c.args.catalogue.now) (shares_of c.args.shares.now) (page_of c.args.name c.args.house c.args.templates.now c.args.page.now)
    (omega (arith, c.if-house-lt1.false)) (omega (arith, c.if-house-gt16.false)) (sym c.shares_right.ensures ∙ c.if-not-shares_right.false)

pub returns-in-Some : goal.returns-in-Some
returns-in-Some c =
    let d = (goal.at.returns-in-Some c).In_ok-held in
    let h = holding_here d in
    named (shares_here d) (page_here d) c.args.catalogue.now h.pages h.reads (judged (page_here d).body (of_bytes d) (c.in_ok-judge.ensures).0)
    (right_here (goal.at.returns-in-Some c).After-look_up) (c.in-Some.ensures h.pages (holds_here d)).is_present

pub check_room-requires : goal.check_room-requires
check_room-requires c =
    let d = (goal.at.check_room-requires c).In_ok-held in (
      omega (arith, c.if-house-lt1.false),
      omega (arith, c.if-house-gt16.false),
      shares_long (length c.args.catalogue.now) c.args.shares.now (sym c.shares_right.ensures ∙ c.if-not-shares_right.false),
      omega (arith, (holding_here d).used_is, (holds_here d).fits),
    )

pub returns-in_err-check_room : goal.returns-in_err-check_room
returns-in_err-check_room c =
    let d = (goal.at.returns-in_err-check_room c).In_ok-held in
    let h = holding_here d in
    let o = roomed (shares_here d) (page_here d) c.args.catalogue.now h.pages h.reads (judged (page_here d).body (of_bytes d) (c.in_ok-judge.ensures).0)
    (right_here (goal.at.returns-in_err-check_room c).After-look_up) (c.in_default.ensures h.pages (holds_here d)) in
    passed_on (Admits c.args.catalogue.now (page_here d) (shares_here d)) _ _ c.from_residual-in_err-check_room.ensures
    (o ∙ room_is (shares_here d) (page_here d) c.args.catalogue.now (all_from c.args.catalogue.now (λ i. (c.type_inv.catalogue i).fits)) h.reads h.used_is (Err c.in_err-check_room.field-0.0) c.in_err-check_room.ensures)

pub returns : goal.returns
returns c =
    let d = (goal.at.returns c).In_ok-held in
    let h = holding_here d in
    let o = roomed (shares_here d) (page_here d) c.args.catalogue.now h.pages h.reads (judged (page_here d).body (of_bytes d) (c.in_ok-judge.ensures).0)
    (right_here (goal.at.returns c).After-look_up) (c.in_default.ensures h.pages (holds_here d)) in
    record {
      of_bytes = all_from c.args.catalogue.now (λ i. (c.type_inv.catalogue i).fits);
      holding = h;
      outcome_is = o ∙ room_is (shares_here d) (page_here d) c.args.catalogue.now (all_from c.args.catalogue.now (λ i. (c.type_inv.catalogue i).fits)) h.reads h.used_is (Ok tt) c.in_ok-check_room.ensures;
    }
