-- The fields of a row one after the other: what stands in front before each step, and what is left behind it. Assumes nothing: these are
-- definitions.
use Rattle.std.specs.Prelude.{ℕ, ◌≡◌, ◌<◌, ◌+◌, Option, Some, None, length}
use Rattle.field.specs.Bytes.{Bytes}
use Rattle.field.specs.Row.{read, Ended}
use Rattle.field.specs.Front.{tag_of_front, body_of, behind_of}
use Rattle.field.specs.declared.reader.Field.{Field}
use Rattle.field.specs.declared.reader.Fields.{Fields}

-- a field of tag t and body w stands in front of s, and r lies behind it
pub record IsFront (s : Bytes) (t : ℕ) (w r : Bytes) : Type 0 where
  pub tag_is : t ≡ tag_of_front s
  pub tag_below : t < 256
  pub body_is : w ≡ body_of s
  pub behind_is : r ≡ behind_of s
  pub sizes : 3 + length w + length r ≡ length s

-- no field stands in front of s, and all of it stays
pub record IsEnd (s r : Bytes) : Type 0 where
  pub ended : Ended (read s)
  pub no_tag : 256 ≡ tag_of_front s
  pub stays : r ≡ s

-- a step from s, which leaves r
abbrev pub Steps : Bytes → Option Field → Bytes → Type 0
Steps s None r = IsEnd s r
Steps s (Some f) r = IsFront s f.tag f.body.now r

abbrev pub GivesField : Fields → Option Field → Fields → Type 0
GivesField x f y = Steps x.0.now f y.0.now

abbrev pub FieldAt : Bytes → Option Field → Type 0
FieldAt s None = IsEnd s s
FieldAt s (Some f) = IsFront s f.tag f.body.now (behind_of s)
