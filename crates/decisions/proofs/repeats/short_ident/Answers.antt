-- Its first two bytes are the tag and a zero.
use native.Mathlib.Omega.{arith}
use Rattle.decisions.proofs.RepeatLaws.{short_named}
use Rattle.decisions.proofs.repeats.short_ident.Goals as goal

pub returns-then-n-rest : goal.returns-then-n-rest
returns-then-n-rest c =
    let e = c.from_be_bytes.ensures in
    let f = c.if-from_be_bytes-ne-SHORT_IDENT.false in
    short_named c.args.a.now _ c.in-len3-up.len_at_least (omega (arith, e, f, c.type_inv.a 1)) (omega (arith, e, f, c.type_inv.a 1)) c.from-n.ensures c.if-n-rest.true
