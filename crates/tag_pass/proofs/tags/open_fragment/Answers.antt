-- `tag_pass::tags::open_fragment` meets its contract. Assumes nothing.
use mathlib.Core.Path.{refl, ap}
use Rattle.std.specs.Prelude.{None}
use Rattle.tag_pass.specs.declared.state.Mode.TheVariants as M
use Rattle.tag_pass.specs.declared.state.Reading.{Reading}
use Rattle.tag_pass.specs.Turns.{at_begin}
use Rattle.tag_pass.proofs.TagLaws.{fragment_opens}
use Rattle.tag_pass.proofs.Standing.{settled}
use Rattle.tag_pass.proofs.tags.open_fragment.Goals as goal

pub returns : goal.returns
returns c = (fragment_opens c.put_head-a.ensures c.wrote-w.ensures refl (ap (λ (x : Reading). at_begin x c.args.st.at None) c.in_mode.ensures), settled M.InChildren (ap (λ (x : Reading). x.mode) c.in_mode.ensures) (λ k z. cc) (λ z. cc))
