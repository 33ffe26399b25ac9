-- `tag_pass::pass::ended` meets its contract. Assumes nothing.
use Rattle.tag_pass.specs.declared.state.Mode.TheVariants as M
use Rattle.tag_pass.proofs.Standing.{unended, unended_none}
use mathlib.Core.Path.{sym, ◌∙◌, ap}
use Rattle.tag_pass.specs.declared.frames.Waiting.{Waiting}
use Rattle.tag_pass.specs.Turns.{popped}
use Rattle.tag_pass.proofs.FrameLaws.{none_waits, waited_last}
use Rattle.tag_pass.specs.declared.state.Reading.{Reading}
use Rattle.tag_pass.proofs.PassLaws.{ended_more, ended_all, ended_within, ended_value, ended_braces}
use Rattle.tag_pass.proofs.pass.ended.Goals as goal

pub returns-then-st-text : goal.returns-then-st-text
returns-then-st-text c = (ended_more (none_waits _ _ c.requires.1 c.in_default.ensures.item.3) c.if-st-text.true, unended_none)

pub returns-in_default : goal.returns-in_default
returns-in_default c = (ended_all (none_waits _ _ c.requires.1 c.in_default.ensures.item.3) c.if-st-text.false c.in_mode.ensures, unended M.Done (ap (λ (x : Reading). x.mode) c.in_mode.ensures) (λ z. cc))

pub returns-in-Children : goal.returns-in-Children
returns-in-Children c = let t = waited_last _ _ _ c.requires.1 c.in-Some.ensures.value in (ended_within t.0 (c.resume-w.ensures ∙ ap (λ (x : Waiting). popped x c.args.st) t.1) (sym (ap (λ (x : Waiting). x.holder) t.1) ∙ c.in-Children.is) c.in_mode-in-Children.ensures, unended M.InChildren (ap (λ (x : Reading). x.mode) c.in_mode-in-Children.ensures) (λ z. cc))

pub returns-in-Value : goal.returns-in-Value
returns-in-Value c = let t = waited_last _ _ _ c.requires.1 c.in-Some.ensures.value in (ended_value t.0 (c.resume-w.ensures ∙ ap (λ (x : Waiting). popped x c.args.st) t.1) (sym (ap (λ (x : Waiting). x.holder) t.1) ∙ c.in-Value.is) c.end_attribute.ensures, unended M.InTag (ap (λ (x : Reading). x.mode) c.end_attribute.ensures.is) (λ z. cc))

pub returns-in-Braces : goal.returns-in-Braces
returns-in-Braces c = let t = waited_last _ _ _ c.requires.1 c.in-Some.ensures.value in (ended_braces t.0 (c.resume-w.ensures ∙ ap (λ (x : Waiting). popped x c.args.st) t.1) (sym (ap (λ (x : Waiting). x.holder) t.1) ∙ c.in-Braces.is) c.behind.ensures.0, c.behind.ensures.1)
