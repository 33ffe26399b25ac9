-- What a catalogue holds, as the code counts it. Assumes nothing: these are definitions.
use Rattle.std.specs.Prelude.{ℕ, ◌≡◌, List, length, Option, Some, None}
use Rattle.field.specs.Bytes.{Bytes}
use Rattle.catalogue.specs.Page.{Page}
use Rattle.catalogue.specs.Catalogue as C
use Rattle.catalogue.specs.Catalogue.{no_row, read_catalogue, row_size, forms_of}
use Rattle.catalogue_calls.specs.Standing.{housed}
use Rattle.catalogue_calls.specs.declared.read.Held.{Held}

-- bytes read as these pages, which are so many and have so many bytes and templates
pub record Holding (b : Bytes) (used count forms : ℕ) : Type 0 where
  pub pages : List Page
  pub reads : read_catalogue housed b ≡ C.pages pages
  pub used_is : used ≡ row_size housed pages
  pub pages_is : count ≡ length pages
  pub forms_is : forms ≡ forms_of housed pages

-- nothing where the bytes are no catalogue
abbrev pub Reads : Bytes → Option Held → Type 0
Reads b None = read_catalogue housed b ≡ no_row
Reads b (Some h) = Holding b h.used h.pages h.forms
