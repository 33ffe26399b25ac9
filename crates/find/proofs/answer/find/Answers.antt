-- `find::answer::find` meets its contract, by the checks. Assumes nothing.
use native.Mathlib.Omega.{arith}
use Rattle.find.proofs.FindLaws.{refused_is, walked_is}
use Rattle.find.proofs.answer.find.Goals as goal

pub returns-in-Ok : goal.returns-in-Ok
returns-in-Ok c = walked_is _ _ (omega arith) c.in-Ok.ensures c.walk.ensures

pub returns-in-Err : goal.returns-in-Err
returns-in-Err c = refused_is _ _ (omega arith) c.in-Err.e c.in-Err.ensures c.refused.ensures
