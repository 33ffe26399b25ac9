-- Of a refusal the number is printed, of a tag that is read the card of its page.
use Rattle.std.proofs.Common.{rules, [], ◌≡◌, ◌∙◌, ap, arith, length, subst}
use Rattle.field.specs.Bytes.{Bytes}
use Rattle.field.proofs.PutLaws.{wrote_is}
use Rattle.tag_pass.specs.Answers.{TagAnswers}
use Rattle.tag_pass.specs.declared.answer.TagAnswer.{TagAnswer}
use Rattle.spec.specs.Answer.{outcome}
use Rattle.printing.specs.Card.{card_text}
use Rattle.print_card.proofs.CardLaws.{front_length}
use Rattle.tag.specs.TagCard.{without_end}
use Rattle.tag.proofs.TagCardLaws.{tag_refused_printed, TagStands, tag_stands, page_stands}
use Rattle.tag.proofs.tag_card.print_tag.Goals as goal
use Rattle.tag.proofs.tag_card.print_tag.Goals.{In-0}

-- the reader's answer is to the text without its line end
answered : (s t out : Bytes) {a : TagAnswer} {out' : Bytes} → s ≡ without_end t → TagAnswers s out a out' → TagAnswers (without_end t) out a out'
answered s t out {a} {out'} e x = subst (λ (k : Bytes). TagAnswers k out a out') e x

-- the number is 0
stands : (c : In-0) → let a = c.args in TagStands (length a.scratch.now) (length a.templates.now) (length a.page.now) (without_end a.text.now) a.tag.now c.read_tag-a.result c.read_tag-a.new.out
stands c = let a = c.args in
    tag_stands (length a.scratch.now) (length a.templates.now) (length a.page.now) (without_end a.text.now) a.tag.now (answered _ a.text.now a.tag.now c.without_end.ensures c.read_tag-a.ensures) c.in-0.is

pub returns-in_default : goal.returns-in_default
returns-in_default c = let a = c.args in
    tag_refused_printed (length a.scratch.now) (length a.templates.now) (length a.page.now) (without_end a.text.now) a.tag.now (answered _ a.text.now a.tag.now c.without_end.ensures c.read_tag-a.ensures) (λ z. search rules) c.print_refusal.ensures

pub slice_bounds-put_page-end : goal.slice_bounds-put_page-end
slice_bounds-put_page-end c = (stands (goal.at.slice_bounds-put_page-end c).In-0).field_within

pub slice_bounds-put_page-end-in-0 : goal.slice_bounds-put_page-end-in-0
slice_bounds-put_page-end-in-0 c = front_length _ _ (stands (goal.at.slice_bounds-put_page-end-in-0 c).In-0).field_within

pub slice_bounds-print_card-end : goal.slice_bounds-print_card-end
slice_bounds-print_card-end c = (page_stands _ c.put_page-end.ensures (omega (arith, (stands (goal.at.slice_bounds-print_card-end c).In-0).field_length, c.requires))).0

pub slice_bounds-print_card-end-in-0 : goal.slice_bounds-print_card-end-in-0
slice_bounds-print_card-end-in-0 c = front_length _ _ (page_stands _ c.put_page-end.ensures (omega (arith, (stands (goal.at.slice_bounds-print_card-end-in-0 c).In-0).field_length, c.requires))).0

pub returns-in-0 : goal.returns-in-0
returns-in-0 c = let a = c.args in
    let w = stands (goal.at.returns-in-0 c).In-0 in
    let p = page_stands _ c.put_page-end.ensures (omega (arith, w.field_length, c.requires)) in
    wrote_is (ap (λ (s : Bytes). card_text (outcome s [] (length a.scratch.now) (length a.templates.now) (length a.page.now))) p.1 ∙ w.text_is) c.print_card.ensures
