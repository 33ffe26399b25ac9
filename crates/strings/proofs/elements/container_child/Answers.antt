-- By what becomes of the container: a text is put, and a gap cuts. Assumes nothing.
use mathlib.Core.Path.{ap, sym, ◌∙◌, subst}
use native.Mathlib.Omega.{arith}
use Rattle.decisions.specs.Becomes.{Among}
use Rattle.strings.specs.Carve.{Low, at, put_child, carve}
use Rattle.strings.proofs.CarveLaws.{put_is}
use Rattle.strings.proofs.elements.container_child.Goals as goal

pub put_value-end-requires : goal.put_value-end-requires
put_value-end-requires c = let a = c.args in let l = subst (λ (x : Among). Low (put_child x (at a.out.now a.st))) (sym c.in-Text.ensures) c.requires in omega (arith, l, c.end.ensures)

pub cut-requires : goal.cut-requires
cut-requires c = let a = c.args in subst (λ (x : Among). Low (put_child x (at a.out.now a.st))) (sym c.in-Gap.ensures) c.requires

pub returns-in-Text : goal.returns-in-Text
unfolding carve
returns-in-Text c = let a = c.args in put_is a.out.now a.st c.end.ensures c.ended.ensures c.put_value-end.ensures ∙ ap (λ (x : Among). put_child x (at a.out.now a.st)) c.in-Text.ensures

pub returns-in-Gap : goal.returns-in-Gap
returns-in-Gap c = let a = c.args in c.cut.ensures ∙ ap (λ (x : Among). put_child x (at a.out.now a.st)) c.in-Gap.ensures
