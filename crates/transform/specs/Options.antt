-- What the code finds of options by a tag: the first field with it, or that there is none. Assumes nothing: these are definitions.
use Rattle.std.specs.Prelude.{ℕ, ◌≤◌, true, false, [], ◌≡◌, length}
use Rattle.field.specs.Bytes.{Bytes, ascii}
use Rattle.field.specs.Row.{read, inside, fields_after}
use Rattle.page.specs.Tree.{texts_in, listed_in, source_in, works_sums}

-- no field of the options has the tag
pub record LacksTag (tag : ℕ) (options : Bytes) : Type 0 where
  pub no_names : texts_in 0x20 (read []) ≡ listed_in tag (read options)
  pub no_source : tag ≡ 0x04 → ascii "react" ≡ source_in (read options)
  pub no_sums : tag ≡ 0x05 → false ≡ works_sums (read options)

-- the first field of the options that has the tag holds b
pub record HasTag (tag : ℕ) (options b : Bytes) : Type 0 where
  pub names : inside tag ≡ fields_after 0 → texts_in 0x20 (read b) ≡ listed_in tag (read options)
  pub source : tag ≡ 0x04 → b ≡ source_in (read options)
  pub sums : tag ≡ 0x05 → true ≡ works_sums (read options)
  pub short : length b ≤ length options
