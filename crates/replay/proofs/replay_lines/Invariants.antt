-- What is left gets shorter; a line takes at least a byte, and has one difference at most.
use Rattle.std.proofs.Common.{ℕ, ◌+◌, ◌≤◌, length}
use Rattle.std.specs.Slice.Iter.{split_inclusive_rest}
use Rattle.replay.proofs.replay_lines.Given as goal

pub record Counted (whole left lines differences : ℕ) : Type 0 where
  pub taken : lines + left ≤ whole
  pub each : differences ≤ lines

abbrev pub invariant-loop-ended : goal.invariant-loop-ended
invariant-loop-ended l = Counted (length l.text) (length (split_inclusive_rest l.ended-iterator)) l.lines l.differences
