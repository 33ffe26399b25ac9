-- `put_small_escaped` meets its contract. The loop's invariant: the letters so far are written.
use mathlib.Core.Path.{ap}
use mathlib.Core.List.{◌∷◌, []}
use Prim.Native.Nat.{◌+◌}
use native.Mathlib.Omega.{arith}
use lib.ListN.{length, take, length-append}
use borrow.Author.Rules.{rules}
use Rattle.field.proofs.PutLaws.{wrote_is, wrote_then}
use Rattle.text.specs.Escape.{escape_html}
use Rattle.names.specs.Names.{small_letters}
use Rattle.names.proofs.EscapedLaws.{escaped_next, escaped_bound}
use Rattle.names.proofs.escaped.put_small_escaped.Goals as goal

pub put_escaped-a-requires : goal.put_escaped-a-requires
put_escaped-a-requires c = let n = c.args.name.now in let x = c.small_letter.result in let e = ap length (escaped_next n c.loop-c.c-index x (search rules) c.small_letter.ensures) in
    let k = length-append (escape_html (small_letters (take c.loop-c.c-index n))) (escape_html (x ∷ [])) in
    omega (arith, c.loop-c.invariant.end_is, e, k, escaped_bound n (c.loop-c.c-index + 1))

pub loop-c-preserved : goal.loop-c-preserved
loop-c-preserved c = let n = c.args.name.now in (wrote_is (escaped_next n c.loop-c.c-index c.small_letter.result (search rules) c.small_letter.ensures) (wrote_then c.loop-c.invariant c.put_escaped-a.ensures))
