use Rattle.field.proofs.PutLaws.{wrote_then}
use Rattle.field.specs.Number.{big_endian}
use native.Mathlib.Omega.{arith}
use Rattle.field.proofs.writer.put_four.Goals as goal

pub put_two-requires : goal.put_two-requires
unfolding big_endian
put_two-requires c = omega (arith, c.put_two-a.ensures.end_is)

pub returns : goal.returns
unfolding big_endian
returns c = wrote_then c.put_two-a.ensures c.put_two.ensures
