-- `utf8::is_ascii` meets its contract. The invariant: the words tested so far are ASCII. Assumes nothing.
use mathlib.Core.Path.{refl}
use native.Mathlib.Omega.{arith}
use Rattle.utf8.specs.Utf8.{all_ascii}
use Rattle.utf8.proofs.Words.{words_on}
use Rattle.utf8.proofs.is_ascii.Goals as goal

pub loop-word-init : goal.loop-word-init
unfolding all_ascii
loop-word-init c = refl

pub loop-word-preserved : goal.loop-word-preserved
loop-word-preserved c = let f = c.as_chunks.ensures in words_on c.args.block.now c.as_chunks.result.0.now _ c.loop-word.word-index c.from_le_bytes.result (λ k. omega (arith, c.type_inv.block k)) f.front (omega arith) (omega (arith, f.front_len)) c.from_le_bytes.ensures c.loop-word.invariant
