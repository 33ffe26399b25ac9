-- `standing::page_at` meets its contract: the frame, and the parts one behind the other. Assumes nothing.
use native.Mathlib.Omega.{arith}
use Rattle.catalogue_calls.proofs.PageLaws.{unframed, no_house, at_tag, house_at, templates_long, page_out_ten, stands}
use Rattle.catalogue_calls.proofs.standing.page_at.Goals as goal

pub returns-in_err-tag : goal.returns-in_err-tag
returns-in_err-tag c = rw c.from_residual.ensures (unframed _ (λ f. omega (arith, f.inside, c.in_err-tag.ensures.cases)))

pub returns-then-tag : goal.returns-then-tag
returns-then-tag c =
    let e = at_tag _ _ _ c.in_ok-tag.ensures.cases.0 in
    unframed _ (λ f. c.if-tag.true (omega (arith, e.0, f.begins)))

pub returns-in_err-name : goal.returns-in_err-name
returns-in_err-name c = rw c.from_residual-in_err-name.ensures (unframed _ (λ f. omega (arith, f.inside, c.in_ok-tag.ensures.cases.1, c.in_err-name.ensures)))

pub returns-in_err-house : goal.returns-in_err-house
returns-in_err-house c = rw c.from_residual-in_err-house.ensures (unframed _ (λ f. omega (arith, f.inside, c.in_ok-tag.ensures.cases.1, c.in_ok-name.ensures.2, c.in_err-house.ensures.cases)))

pub returns-then-not-is_house : goal.returns-then-not-is_house
returns-then-not-is_house c =
    let h = house_at c.in_ok-tag.ensures.cases c.in_ok-name.ensures c.in_ok-house.ensures.cases in
    unframed _ (no_house _ _ c.is_house.ensures c.if-not-is_house.true h)

pub returns-in_err-templates : goal.returns-in_err-templates
returns-in_err-templates c =
    rw c.from_residual-in_err-templates.ensures (unframed _ (λ f. omega (arith, f.inside, c.in_ok-tag.ensures.cases.1, c.in_ok-name.ensures.2, c.in_ok-house.ensures.cases.1, c.in_err-templates.ensures)))

pub returns-in_err-page : goal.returns-in_err-page
returns-in_err-page c =
    rw c.from_residual-in_err-page.ensures (unframed _ (λ f. omega (arith, f.inside, c.in_ok-tag.ensures.cases.1, c.in_ok-name.ensures.2, c.in_ok-house.ensures.cases.1, c.in_ok-templates.ensures.2, c.in_err-page.ensures)))

pub returns-in_err-templates-2 : goal.returns-in_err-templates-2
returns-in_err-templates-2 c =
    let t = templates_long c.in_ok-tag.ensures.cases c.in_ok-name.ensures c.in_ok-house.ensures.cases c.in_ok-templates.ensures c.in_ok-page.ensures in
    rw c.from_residual-in_err-templates-2.ensures
    (unframed _ (λ f. omega (arith, f.inside, t, c.in_ok-tag.ensures.cases.1, c.in_ok-name.ensures.2, c.in_ok-house.ensures.cases.1, c.in_ok-templates.ensures.2, c.in_ok-page.ensures.2, c.in_err-templates-2.ensures.cases)))

pub returns-in_err-page-2 : goal.returns-in_err-page-2
returns-in_err-page-2 c =
    let t = templates_long c.in_ok-tag.ensures.cases c.in_ok-name.ensures c.in_ok-house.ensures.cases c.in_ok-templates.ensures c.in_ok-page.ensures in
    let p = page_out_ten c.in_ok-tag.ensures.cases c.in_ok-name.ensures c.in_ok-house.ensures.cases c.in_ok-templates.ensures c.in_ok-page.ensures in
    rw c.from_residual-in_err-page-2.ensures
    (unframed _ (λ f. omega (arith, f.inside, t, p, c.in_ok-tag.ensures.cases.1, c.in_ok-name.ensures.2, c.in_ok-house.ensures.cases.1, c.in_ok-templates.ensures.2, c.in_ok-page.ensures.2, c.in_ok-templates-2.ensures.cases.4, c.in_err-page-2.ensures.cases)))

pub returns : goal.returns
returns c =
    stands c.in_ok-tag.ensures.cases c.in_ok-name.ensures c.in_ok-house.ensures.cases c.in_ok-templates.ensures c.in_ok-page.ensures c.if-tag.false c.is_house.ensures c.if-not-is_house.false c.in_ok-templates-2.ensures.cases c.in_ok-page-2.ensures.cases
