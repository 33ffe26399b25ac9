use native.Mathlib.Omega.{arith}
use Rattle.field.specs.Number.{big_endian}
use Rattle.field.proofs.PutLaws.{wrote_field}
use Rattle.field.proofs.writer.put_field.Goals as goal

pub put_bytes-requires : goal.put_bytes-requires
unfolding big_endian
put_bytes-requires c = omega (arith, c.put_head-a.ensures.end_is)

pub returns : goal.returns
returns c = wrote_field c.args.tag c.put_head-a.ensures c.put_bytes.ensures
