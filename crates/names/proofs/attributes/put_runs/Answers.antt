-- The places say where the runs begin and end.
use mathlib.Core.Path.{ap, ◌∙◌}
use Prim.Native.Nat.{◌+◌, ◌-◌}
use native.Mathlib.Omega.{arith}
use lib.ListN.{length, take, drop, length-drop}
use Rattle.std.proofs.lemmas.List.{take_rest}
use Rattle.field.proofs.PutLaws.{wrote_is, wrote_then, wrote_length}
use Rattle.names.proofs.MarkLaws.{length_front, places_one, places_two}
use Rattle.names.proofs.attributes.put_runs.Goals as goal

pub put_run-requires : goal.put_run-requires
put_run-requires c = let n = c.args.name.now in let k = c.args.first in
    let l = ap length (take_rest n (k + 1)) ∙ length-drop (k + 1) n in
    (omega (arith, l, length_front k n (omega arith), wrote_length c.put_front-a.ensures, c.put_front-a.ensures.end_is), omega (arith, l))

pub put_front-b-requires : goal.put_front-b-requires
put_front-b-requires c = let n = c.args.name.now in let k = c.args.first in
    let l = ap length (take_rest n (k + 1)) ∙ length-drop (k + 1) n in
    (omega (arith, length_front k n (omega arith), wrote_length c.put_front-a.ensures, c.put_front-a.ensures.end_is), omega (arith, l), omega arith)

pub put_run-requires-2 : goal.put_run-requires-2
put_run-requires-2 c = let n = c.args.name.now in let k = c.args.first in let d = c.args.more in
    let m = take (length n - (k + 1)) (drop (k + 1) n) in
    let l = ap length (take_rest n (k + 1)) ∙ length-drop (k + 1) n in
    let r = ap length (take_rest m d) ∙ length-drop d m in
    (omega (arith, l, r, length_front k n (omega arith), length_front (d - 1) m (omega (arith, l)), wrote_length c.put_front-a.ensures, c.put_front-a.ensures.end_is, wrote_length c.put_front-b.ensures, c.put_front-b.ensures.end_is), omega (arith, l, r))

pub returns-then-more-eq0 : goal.returns-then-more-eq0
returns-then-more-eq0 c = let a = c.args in wrote_is (places_one a.first a.more a.name.now c.if-more-eq0.true) (wrote_then c.put_front-a.ensures c.put_run.ensures)

pub returns : goal.returns
returns c = let a = c.args in
    wrote_is (places_two a.first a.more a.name.now _ c.if-more-eq0.false (take_rest a.name.now _)) (wrote_then (wrote_then c.put_front-a.ensures c.put_front-b.ensures) c.put_run-2.ensures)
