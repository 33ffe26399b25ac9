-- `field::writer::copy_blocks` meets its contract: what the blocks so far have written is as it is in `from`, and the last one ends with it.
-- Assumes nothing.
use native.Mathlib.Omega.{arith}
use mathlib.Core.Path.{◌≡◌, refl, sym, ap, ◌∙◌}
use Prim.Native.Nat.{ℕ, ◌+◌, ◌-◌, ◌≤◌}
use mathlib.Core.List.{◌++◌, [], append-nil}
use lib.ListN.{length, take, drop, length-drop, drop_of_length-le, take-append-drop}
use lib.Seq.{take-add, take-take, take_all, length-take-le}
use borrow.Rule.Slice.PartMut.{put_mid}
use Rattle.std.proofs.lemmas.Slice.{take-put_mid}
use Rattle.field.specs.Bytes.{Bytes}
use Rattle.field.proofs.writer.copy_blocks.Goals as goal
use Rattle.field.proofs.writer.copy_blocks.Goals.{After-copy_block-2, else-loop-i-test, then-loop-i-test+else-last-i-gt16}

-- a block of k bytes behind the first i
block_more : {w : Bytes} (to from : Bytes) (i k n : ℕ) → length to ≡ length from → n ≡ i + k → n ≤ length from → take i to ≡ take i from → w ≡ take k (drop i from) → take n (put_mid i k to w) ≡ take n from
block_more {w} to from i k n l q h done e =
    let m : length w ≡ k = ap length e ∙ length-take-le k (drop i from) (omega (arith, length-drop i from)) in
    take-put_mid i k to w n (omega (arith, m)) (omega (arith, l)) ∙ rw (done, e) (sym (take-add i k from)) ∙ ap {B = Bytes} (λ j. take j from) (sym q)

-- of a front, a front
less : (to from : Bytes) (i j : ℕ) → i ≤ j → take j to ≡ take j from → take i to ≡ take i from
less to from i j h e = sym (take-take i j to h) ∙ ap {B = Bytes} (take i) e ∙ take-take i j from h

-- the block that ends with all of it
ending : {w : Bytes} (to from : Bytes) (i k m : ℕ) → length to ≡ length from → i ≤ length from → k ≡ length to - i → m ≡ length from - i → take i to ≡ take i from → w ≡ take m (drop i from) → put_mid i k to w ≡ from
ending {w} to from i k m l h p q done e =
    let rest : w ≡ drop i from = e ∙ take_all m (drop i from) (omega (arith, length-drop i from)) in
    let none : drop k (drop i to) ≡ [] = drop_of_length-le (drop i to) {i = k} (omega (arith, length-drop i to)) in
    rw (done, rest, none) (ap (λ r. take i from ++ r) (append-nil (drop i from)) ∙ take-append-drop i from)

pub loop-i-preserved : goal.loop-i-preserved
loop-i-preserved c = let i = c.loop-i.i in block_more _ _ i (i + 16 - i) (i + 16) (omega (arith, c.loop-i.auto.to)) (omega arith) (omega arith) c.loop-i.invariant c.copy_block.ensures

begun : (c : After-copy_block-2) → take (length c.args.from.now - 16) c.loop-i-test.to ≡ take (length c.args.from.now - 16) c.args.from.now
begun c =
    let from = c.args.from.now in
    let last = length from - 16 in
    let i = c.loop-i.i in
    elim c.loop-i-test.branch [
      | else-loop-i-test w ↦ less _ from last i (omega (arith, w.loop-i-test)) (rw w.to-is c.loop-i.invariant)
      | then-loop-i-test+else-last-i-gt16 w ↦ less _ from last (i + 16) (omega arith) (rw w.to-is (block_more _ from i (i + 16 - i) (i + 16) (omega (arith, c.loop-i.auto.to)) (omega arith) (omega (arith, w.loop-i-test.true)) c.loop-i.invariant w.copy_block.ensures))
    ]

pub returns : goal.returns
returns c = let from = c.args.from.now in let to = c.loop-i-test.to in let last = length from - 16 in
    let l : length to ≡ length from = omega (arith, c.loop-i-test.auto.to, c.loop-i.auto.to) in
    ending to from last (length to - last) (length from - last) l (omega arith) refl refl (begun (goal.at.returns c).After-copy_block-2) c.copy_block-2.ensures
