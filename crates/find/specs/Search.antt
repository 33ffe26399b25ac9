-- The table that numbers are searched in: those asked for, and the greatest there is behind them. Assumes nothing: these are definitions.
use Rattle.std.specs.Prelude.{ℕ, ◌-◌, ◌^◌, List, ◌++◌, length, replicate}

abbrev pub padded : List ℕ → List ℕ
padded ns = ns ++ replicate (256 - length ns) (2 ^ 32 - 1)
