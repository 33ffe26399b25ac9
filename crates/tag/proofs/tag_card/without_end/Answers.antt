-- A line feed at the very end is dropped.
use Rattle.std.proofs.Common.{ap, ◌∙◌}
use denote.Ref.{Bor}
use Rattle.field.specs.Bytes.{Bytes}
use Rattle.tag.proofs.TagCardLaws.{end_taken}
use Rattle.tag.proofs.tag_card.without_end.Goals as goal

pub returns : goal.returns
returns c = ap (λ (b : Bor Bytes). b.now) c.unwrap_or.ensures ∙ end_taken c.args.s _ c.strip_suffix.ensures.cases
