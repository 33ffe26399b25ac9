-- The version that the library answers. Assumes nothing: these are definitions.
use Rattle.std.specs.Prelude.{ℕ}

-- major * 10,000 + minor * 100 + patch: 0.2.0, as CHANGELOG.md counts
abbrev pub version : ℕ
version = 200
