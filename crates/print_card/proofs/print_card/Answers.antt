-- `print_card` meets its contract: of a refusal its number is printed, of an accepted page what stands in both outs. Assumes nothing.
use borrow.Author.Rules.{rules}
use mathlib.Core.List.{[]}
use Rattle.field.proofs.PutLaws.{wrote_is}
use Rattle.print_card.proofs.CardLaws.{front_length, refused_printed, Stand, outs_stand}
use Rattle.print_card.proofs.print_card.Goals as goal
use Rattle.print_card.proofs.print_card.Goals.{In-0}

stands : (c : In-0) →
    let a = c.args in Stand a.input.now [] a.scratch.now a.templates.now a.page.now c.jsx_precompile_transform-a.ensures
stands c = let a = c.args in outs_stand a.input.now [] a.scratch.now a.templates.now a.page.now c.jsx_precompile_transform-a.ensures
    (λ i. (c.type_inv.input i).fits) (λ i. (c.type_inv.templates i).fits) (λ i. (c.type_inv.page i).fits) c.in-0.is

pub slice_bounds-print_page-end : goal.slice_bounds-print_page-end
slice_bounds-print_page-end c = (stands (goal.at.slice_bounds-print_page-end c).In-0).templates_within

pub slice_bounds-print_page-end-in-0 : goal.slice_bounds-print_page-end-in-0
slice_bounds-print_page-end-in-0 c = front_length _ _ (stands (goal.at.slice_bounds-print_page-end-in-0 c).In-0).templates_within

pub slice_bounds-print_page-end-in-0-2 : goal.slice_bounds-print_page-end-in-0-2
slice_bounds-print_page-end-in-0-2 c = (stands (goal.at.slice_bounds-print_page-end-in-0-2 c).In-0).page_within

pub slice_bounds-print_page-end-in-0-3 : goal.slice_bounds-print_page-end-in-0-3
slice_bounds-print_page-end-in-0-3 c = front_length _ _ (stands (goal.at.slice_bounds-print_page-end-in-0-3 c).In-0).page_within

pub print_page-requires : goal.print_page-requires
print_page-requires c = (stands (goal.at.print_page-requires c).In-0).text_low

pub returns-in-0 : goal.returns-in-0
returns-in-0 c = wrote_is (stands (goal.at.returns-in-0 c).In-0).text_is c.print_page.ensures

pub returns-in_default : goal.returns-in_default
returns-in_default c = let a = c.args in refused_printed a.input.now [] a.scratch.now a.templates.now a.page.now c.jsx_precompile_transform-a.ensures (λ z. search rules) c.print_refusal.ensures
