-- `printing::quoted::put_quoted_bytes` meets its contract. The loop's invariant: the first bytes are written, quoted. Assumes nothing.
use native.Mathlib.Omega.{arith}
use Prim.Native.Nat.{◌+◌, ◌^◌}
use lib.ListN.{get_or}
use Rattle.field.proofs.PutLaws.{wrote_none}
use Rattle.text.proofs.WriteLaws.{room_for, wrote_more}
use Rattle.printing.specs.Card.{quoted_byte, quoted_bytes}
use Rattle.printing.proofs.QuotedLaws.{quoted_more, quoted_le}
use Rattle.printing.proofs.quoted.put_quoted_bytes.Goals as goal

pub loop-c-init : goal.loop-c-init
unfolding quoted_bytes
loop-c-init c = wrote_none _ _

pub put_quoted_byte-a-requires : goal.put_quoted_byte-a-requires
put_quoted_byte-a-requires c = let args = c.args in let s = args.s.now in
    let i = c.loop-c.c-index in room_for {k = 2 ^ 63} (quoted_byte (get_or s i 0)) c.loop-c.invariant (quoted_more s i (omega arith)) (quoted_le s (i + 1)) c.requires

pub loop-c-preserved : goal.loop-c-preserved
loop-c-preserved c = let args = c.args in wrote_more c.loop-c.invariant (quoted_more args.s.now c.loop-c.c-index (omega arith)) c.put_quoted_byte-a.ensures
