-- `tag_pass::braces::known` meets its contract. Assumes nothing.
use native.Mathlib.Omega.{arith}
use Rattle.field.specs.Number.{big_endian}
use mathlib.Core.Path.{refl, ap}
use mathlib.Core.Bool.{◌&&◌}
use Rattle.tag_pass.proofs.FrameLaws.{kind_depth_small}
use Rattle.tag_pass.proofs.BracesLaws.{known_none, known_some, held_deep, known_bound}
use Rattle.tag_pass.specs.declared.state.Reading.{Reading}
use Rattle.tag_pass.proofs.braces.known.Goals as goal

pub put_known-requires : goal.put_known-requires
unfolding big_endian
put_known-requires c = omega (arith, c.requires.0.small, c.requires.0.inside, c.requires.0.grown, c.requires.1, c.requires.2, c.put_head-a.ensures.end_is)

pub returns-in_err-held : goal.returns-in_err-held
returns-in_err-held c = rw c.from_residual.ensures (known_none _ _ _ _ c.in_err-held.ensures)

pub overflow_add-d : goal.overflow_add-d
overflow_add-d c = omega (arith, c.requires.0.deep, c.depth.ensures, kind_depth_small c.args.kind)

pub overflow_add-d-2 : goal.overflow_add-d-2
overflow_add-d-2 c = omega (arith, c.requires.0.deep, c.depth.ensures, kind_depth_small c.args.kind)

pub overflow_add-d-3 : goal.overflow_add-d-3
overflow_add-d-3 c = omega (arith, c.requires.0.deep, c.depth.ensures, kind_depth_small c.args.kind, held_deep _ _ _ _ _ c.in_ok-held.ensures)

pub end_braces-requires : goal.end_braces-requires
end_braces-requires c = known_bound _ _ _ _ c.requires.0 c.requires.1 c.requires.2 c.put_head-a.ensures c.in_ok-held.ensures (ap (λ (x : Reading). record x { numbers = c.args.st.numbers && c.in_ok-held.held.fits }) c.wrote.ensures)

pub returns : goal.returns
returns c = known_some _ c.requires.1 c.requires.2 c.requires.0.grown c.put_head-a.ensures c.tag.ensures c.in_ok-held.ensures c.depth.ensures refl (ap (λ (x : Reading). record x { numbers = c.args.st.numbers && c.in_ok-held.held.fits }) c.wrote.ensures) c.end_braces.ensures.0
