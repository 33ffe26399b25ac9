-- Where all bytes fit they are stored one by one; else they are clipped. Assumes nothing.
use mathlib.Core.Path.{refl}
use Prim.Native.Nat.{◌/◌, ◌%◌}
use Rattle.field.specs.Number.{big_endian}
use Rattle.field.proofs.PutLaws.{wrote_then, store_two}
use Rattle.field.proofs.writer.put_two.Goals as goal

pub returns-then-at-out : goal.returns-then-at-out
unfolding big_endian
returns-then-at-out c = let args = c.args in rw c.two_bytes.ensures (record { out_is = store_two args.out.now args.at (args.n / 256 % 256) (args.n % 256) c.if-at-out.true; end_is = refl })

pub returns : goal.returns
unfolding big_endian
returns c = rw c.two_bytes.ensures at (wrote_then c.put_byte-a.ensures c.put_byte.ensures)
