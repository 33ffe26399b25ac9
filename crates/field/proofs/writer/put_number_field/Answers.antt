use native.Mathlib.Omega.{arith}
use mathlib.Core.List.{[]}
use Rattle.field.specs.Number.{big_endian}
use Rattle.field.proofs.PutLaws.{wrote_field}
use Rattle.field.proofs.writer.put_number_field.Goals as goal

pub put_eight-requires : goal.put_eight-requires
unfolding big_endian
put_eight-requires c = omega (arith, c.put_head-a.ensures.end_is)

pub returns : goal.returns
unfolding big_endian
returns c = wrote_field {b = big_endian 8 c.args.n []} c.args.tag c.put_head-a.ensures c.put_eight.ensures
