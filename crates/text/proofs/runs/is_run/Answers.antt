-- `is_run` meets its contract. The invariant: all bytes pass exactly if those behind the blocks passed do. Assumes nothing.
use native.Mathlib.Omega.{arith}
use mathlib.Core.Path.{sym, ap, ◌∙◌}
use Prim.Native.Nat.{◌*◌}
use lib.ListN.{length}
use Rattle.std.proofs.Common.{rules, tests}
use Rattle.std.proofs.lemmas.Iterator.{YieldsList-from_slice}
use Rattle.std.proofs.lemmas.Iterator.Search.{all_from_yields_List}
use Rattle.text.specs.Runs.{all}
use Rattle.text.proofs.RunLaws.{all_on, all_refused, each_is, chunk_is, behind_chunk, chunks_last, last_is}
use Rattle.text.proofs.runs.is_run.Goals as goal

pub returns-then-s : goal.returns-then-s
returns-then-s g c = all_from_yields_List (λ b. g.C.Class.holds c.args.class.now b) _ _ _ c.all.ensures.ran (YieldsList-from_slice c.args.s.now cc) (λ x b q k. search (rules, tests)) ∙ each_is _ _

pub returns-then-not-is_all : goal.returns-then-not-is_all
returns-then-not-is_all g c = let f = c.as_chunks.ensures in let p = g.C.Class.holds c.args.class.now in
    let e = sym (c.is_all.ensures ∙ ap (all p) (c.block-item.is ∙ chunk_is c.args.s.now c.block-item.result c.as_chunks.result.0.now g.row.N _ c.loop-block.block-index f.front f.front_len (omega arith))) ∙ c.if-not-is_all.true in
    all_refused p c.args.s.now (g.row.N * c.loop-block.block-index) g.row.N c.loop-block.invariant e

pub loop-block-preserved : goal.loop-block-preserved
loop-block-preserved g c = let f = c.as_chunks.ensures in let p = g.C.Class.holds c.args.class.now in
    let e = sym (c.is_all.ensures ∙ ap (all p) (c.block-item.is ∙ chunk_is c.args.s.now c.block-item.result c.as_chunks.result.0.now g.row.N _ c.loop-block.block-index f.front f.front_len (omega arith))) ∙ c.if-not-is_all.false in
    rw (behind_chunk g.row.N c.loop-block.block-index) (all_on p c.args.s.now (g.row.N * c.loop-block.block-index) g.row.N c.loop-block.invariant e)

pub returns : goal.returns
returns g c = last_is (g.C.Class.holds c.args.class.now) c.args.s.now g.row.N (omega arith) c.is_all-2.ensures
    ∙ chunks_last (g.C.Class.holds c.args.class.now) c.args.s.now g.row.N c.loop-block.block-index (length c.as_chunks.result.0.now) c.requires (omega arith) (omega arith) c.as_chunks.ensures.front_len c.loop-block.invariant
