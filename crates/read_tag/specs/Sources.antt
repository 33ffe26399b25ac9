-- What a scan of source text answers, by what the grammar's reader does there. Assumes nothing: these are definitions.
use Rattle.std.specs.Prelude.{ℕ, zero, ◌+◌, ◌-◌, ◌≤◌, ◌<◌, ◌≡◌, [], length, take, drop, Option, Some, None}
use Rattle.field.specs.Bytes.{Bytes}
use Rattle.grammar.specs.Known.{known_of}
use Rattle.grammar.specs.Reader.{Braces, Stack, in_source, filled_if, no_reading, outcome}

-- whatever stands around the braces: no reading; or what they hold ends at e, where the matching brace stands
unfoldable pub Sourced : Bytes → ℕ → Option ℕ → Type 0
Sourced s i None = (h : Braces) (K : Stack) → outcome (in_source zero [] h K) (drop i s) ≡ no_reading
Sourced s i (Some e) = (i ≤ e) × (e < length s) × ((h : Braces) (K : Stack) → outcome (in_source zero [] h K) (drop i s) ≡ outcome (filled_if (known_of (take (e - i) (drop i s))) h K) (drop (e + 1) s))
