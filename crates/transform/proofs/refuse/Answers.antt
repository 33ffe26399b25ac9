-- `refuse` meets its contract: each part is what its function ensures. Assumes nothing.
use mathlib.Core.Path.{refl}
use Rattle.spec.specs.Answer.{number, bytes_of_templates, bytes_of_page, templates, templates_left, page_left}
use Rattle.transform.proofs.refuse.Goals as goal

pub returns : goal.returns
unfolding number bytes_of_templates bytes_of_page templates templates_left page_left
returns c = record {
  number_is = c.from.ensures;
  templates_bytes_is = refl;
  page_bytes_is = refl;
  templates_is = refl;
  scratch_is = c.clear_scratch.ensures;
  templates_out_is = (c.fill.ensures.after (λ y e. e));
  page_out_is = (c.fill-2.ensures.after (λ y e. e));
}
