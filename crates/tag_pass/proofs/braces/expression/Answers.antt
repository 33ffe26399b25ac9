-- `tag_pass::braces::expression` meets its contract. Assumes nothing.
use native.Mathlib.Omega.{arith}
use mathlib.Core.Path.{refl}
use Rattle.tag_pass.proofs.FrameLaws.{kind_depth_small}
use Rattle.tag_pass.proofs.BracesLaws.{braces_tag, bracket_barred, source_none, source_some, source_bounds}
use Rattle.tag_pass.proofs.braces.expression.Goals as goal

pub overflow_add-d : goal.overflow_add-d
overflow_add-d c = omega (arith, c.requires.0.deep, c.depth.ensures, kind_depth_small c.args.kind)

pub returns-in-60 : goal.returns-in-60
returns-in-60 c = braces_tag c.requires.1 c.in-60.is c.requires.0.grown c.put_head-a.ensures c.tag.ensures c.depth.ensures refl c.wrote-w.ensures c.in_mode.ensures

pub returns-in-91 : goal.returns-in-91
returns-in-91 c = bracket_barred c.requires.1 c.in-91.is

pub known-requires : goal.known-requires
known-requires c = let bounds = source_bounds _ _ c.in_ok-e-in_default.ensures in (c.requires.0, bounds.0, bounds.1)

pub returns-in_err-e-in_default : goal.returns-in_err-e-in_default
returns-in_err-e-in_default c = rw c.from_residual.ensures (source_none c.requires.1 c.requires.2 (λ z. omega (arith, z)) c.requires.3 c.requires.4 (λ z. omega (arith, z)) c.in_err-e-in_default.ensures)

pub returns-in_ok-e-in_default : goal.returns-in_ok-e-in_default
returns-in_ok-e-in_default c = source_some _ c.requires.1 c.requires.2 (λ z. omega (arith, z)) c.requires.3 c.requires.4 (λ z. omega (arith, z)) c.in_ok-e-in_default.ensures c.known.ensures
