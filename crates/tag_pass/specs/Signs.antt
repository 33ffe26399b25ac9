-- The sign behind white space. Main definition: `SignBehind`. Assumes nothing: these are definitions.
use Rattle.std.specs.Prelude.{ℕ, ◌≤◌, ◌<◌, ◌≡◌, Option, Some, None, length, get_or}
use Rattle.field.specs.Bytes.{Bytes}
use Rattle.grammar.specs.Signs.{space}
use Rattle.read_tag.specs.Runs.{Ran}
use Rattle.tag_pass.specs.declared.sign.Sign.{Sign}

-- white space from i to j, and there the byte c
pub record SignAt (s : Bytes) (i j c : ℕ) : Type 0 where
  pub ran : Ran space s i j
  pub inside : j < length s
  pub byte_is : c ≡ get_or s j 0

-- nothing but white space from i on
pub record Blank (s : Bytes) (i : ℕ) : Type 0 where
  pub j : ℕ
  pub ran : Ran space s i j
  pub out : length s ≤ j

abbrev pub SignBehind : Bytes → ℕ → Option Sign → Type 0
SignBehind s i None = Blank s i
SignBehind s i (Some x) = SignAt s i x.place x.byte
