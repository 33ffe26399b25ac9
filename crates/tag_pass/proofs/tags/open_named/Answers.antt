-- `tag_pass::tags::open_named` meets its contract. Assumes nothing.
use native.Mathlib.Omega.{arith}
use mathlib.Core.Path.{refl, ap}
use Rattle.std.specs.Prelude.{Some}
use Rattle.field.specs.Number.{big_endian}
use Rattle.tag_pass.specs.declared.state.Mode.TheVariants as M
use Rattle.tag_pass.specs.declared.state.Reading.{Reading}
use Rattle.tag_pass.specs.Turns.{at_begin}
use Rattle.tag_pass.proofs.AttributeLaws.{name_found, name_span}
use Rattle.tag_pass.proofs.TagLaws.{named_none, named_found}
use Rattle.tag_pass.proofs.Standing.{settled, settled_none}
use Rattle.tag_pass.proofs.tags.open_named.Goals as goal

pub returns-in_err-name : goal.returns-in_err-name
returns-in_err-name c = rw c.from_residual.ensures (named_none c.in_err-name.ensures, settled_none)

pub put_name-b-requires : goal.put_name-b-requires
unfolding big_endian
put_name-b-requires c = let span = name_span _ _ _ c.in_ok-name.ensures in
    (name_found _ _ _ c.in_ok-name.ensures, span.0, span.1, omega (arith, c.requires.0.small, c.requires.0.inside, c.requires.0.grown, c.put_head-a.ensures.end_is))

pub returns : goal.returns
returns c = (named_found _ c.requires.0.grown c.in_ok-name.ensures c.put_head-a.ensures c.put_name-b.ensures refl c.name_depth-d.ensures c.wrote-w.ensures refl (ap (λ (x : Reading). at_begin x c.args.st.at (Some c.args.i)) c.in_mode.ensures), settled M.InTag (ap (λ (x : Reading). x.mode) c.in_mode.ensures) (λ k z. cc) (λ z. cc))
