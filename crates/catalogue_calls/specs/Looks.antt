-- What a page is found by, where it stands in a catalogue. Nothing here needs belief. Assumes nothing: these are definitions.
use Rattle.std.specs.Prelude.{ℕ, ◌+◌, ◌≡◌, true, false, List, Option, Some, None}
use Rattle.field.specs.Bytes.{Bytes}
use Rattle.catalogue.specs.Page.{Page}
use Rattle.catalogue.specs.Catalogue.{row_size, forms_of, present, Holds}
use Rattle.catalogue.specs.Calls.{before, without}
use Rattle.catalogue_calls.specs.Standing.{housed}
use Rattle.catalogue_calls.specs.declared.lookup.Found.{Found}

-- the page of this name among the pages ps: where it begins, where it ends, and how many templates it has
pub record FoundAt (x : ℕ) (ps : List Page) (at last forms : ℕ) : Type 0 where
  pub is_present : present x ps ≡ true
  pub at_is : at ≡ row_size housed (before x ps)
  pub last_is : last + row_size housed (without x ps) ≡ at + row_size housed ps
  pub forms_is : forms + forms_of housed (without x ps) ≡ forms_of housed ps

abbrev pub FindsIn : ℕ → List Page → Option Found → Type 0
FindsIn x ps None = present x ps ≡ false
FindsIn x ps (Some f) = FoundAt x ps f.at f.end f.forms

-- whatever pages the catalogue holds
abbrev pub LooksUp : Bytes → ℕ → Option Found → Type 0
LooksUp b x r = (ps : List Page) → Holds housed b ps → FindsIn x ps r
