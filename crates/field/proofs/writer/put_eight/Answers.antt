use Rattle.field.proofs.PutLaws.{wrote_then}
use Rattle.field.specs.Number.{big_endian}
use native.Mathlib.Omega.{arith}
use Rattle.field.proofs.writer.put_eight.Goals as goal

pub put_four-requires : goal.put_four-requires
unfolding big_endian
put_four-requires c = omega (arith, c.put_four-a.ensures.end_is)

pub returns : goal.returns
unfolding big_endian
returns c = wrote_then c.put_four-a.ensures c.put_four.ensures
