-- What is put is what was consumed, at least a byte for each read.
use Rattle.std.proofs.Common.{ℕ, ◌≤◌, ◌≡◌, List, length, take}
use Rattle.std.specs.Io.KnownBytes.{Consumes}
use Rattle.std.specs.declared.option.Option.{Option}
use Rattle.input.proofs.read_full.Given as goal

pub record Filling (left now : Option (List ℕ)) (buf : List ℕ) (size done turn : ℕ) : Type 0 where
  pub size_is : length buf ≡ size
  pub within : done ≤ size
  pub each : turn ≤ done
  pub bytes : Consumes left now (take done buf)

abbrev pub invariant-loop : goal.invariant-loop
invariant-loop g l =
    Filling (g.R.Read.remaining l.initial.reader) (g.R.Read.remaining l.reader) l.buf l.end l.done l.counter
