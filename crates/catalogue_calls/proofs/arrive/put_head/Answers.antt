-- `arrive::put_head` meets its contract: five writes, one behind the other. Assumes nothing.
use native.Mathlib.Omega.{arith}
use Rattle.field.specs.Number.{big_endian}
use Rattle.field.proofs.PutLaws.{wrote_then}
use Rattle.catalogue.proofs.Parts.{be_length}
use Rattle.catalogue_calls.proofs.arrive.put_head.Goals as goal

pub put_byte-at-requires-2 : goal.put_byte-at-requires-2
put_byte-at-requires-2 c = omega (arith, c.put_byte-at.ensures.end_is, c.put_four-at.ensures.end_is, be_length c.args.name)

pub put_four-at-requires-2 : goal.put_four-at-requires-2
put_four-at-requires-2 c = omega (arith, c.put_byte-at.ensures.end_is, c.put_four-at.ensures.end_is, c.put_byte-at-2.ensures.end_is, be_length c.args.name)

pub put_four-requires : goal.put_four-requires
put_four-requires c =
    omega (arith, c.put_byte-at.ensures.end_is, c.put_four-at.ensures.end_is, c.put_byte-at-2.ensures.end_is, c.put_four-at-2.ensures.end_is, be_length c.args.name, be_length c.args.templates)

pub returns : goal.returns
unfolding big_endian
returns c = (wrote_then (wrote_then (wrote_then (wrote_then c.put_byte-at.ensures c.put_four-at.ensures) c.put_byte-at-2.ensures) c.put_four-at-2.ensures) c.put_four.ensures).out_is
