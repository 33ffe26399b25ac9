-- A run that is too long is flagged; any other is text. Assumes nothing.
use mathlib.Core.Path.{sym, ◌∙◌, subst}
use lib.ListN.{take}
use Rattle.strings.specs.Carve.{Low}
use Rattle.strings.proofs.MergedLaws.{run_long, run_short}
use Rattle.strings.proofs.merged.put_run.Goals as goal

pub returns-then-n-gt-MAX_BODY : goal.returns-then-n-gt-MAX_BODY
returns-then-n-gt-MAX_BODY c = let a = c.args in run_long a.out.now a.st a.n (take a.n a.scratch.now) c.if-n-gt-MAX_BODY.true c.graver.ensures

pub put_text-requires : goal.put_text-requires
put_text-requires c = let a = c.args in subst Low (run_short a.out.now a.st a.n (take a.n a.scratch.now) c.if-n-gt-MAX_BODY.false) c.requires.low

pub returns : goal.returns
returns c = let a = c.args in c.put_text.ensures ∙ sym (run_short a.out.now a.st a.n (take a.n a.scratch.now) c.if-n-gt-MAX_BODY.false)
