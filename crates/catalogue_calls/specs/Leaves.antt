-- What the parts of a leaving promise each other. Nothing here needs belief. Assumes nothing: these are definitions.
use Rattle.std.specs.Prelude.{ℕ, ◌+◌, ◌≤◌, ◌≡◌, true, false, List, [], ◌∷◌, ◌++◌, replicate, length, Option, Some, None, Result, Ok, Err}
use Rattle.field.specs.Bytes.{Bytes, AllBytes}
use Rattle.field.specs.Number.{big_endian}
use Rattle.catalogue.specs.Page.{Page, A14, house_bytes}
use Rattle.catalogue.specs.Catalogue.{most_bytes, lengths, row, size, AllSound}
use Rattle.catalogue.specs.Calls.{refused}
use Rattle.catalogue.specs.Words.{lowered}
use Rattle.catalogue_calls.specs.Answer.{leaving}
use Rattle.catalogue_calls.specs.Standing.{housed, framed}
use Rattle.catalogue_calls.specs.Judges.{unkept_number}
use Rattle.catalogue_calls.specs.Reads.{Holding}
use Rattle.catalogue_calls.specs.Looks.{FoundAt}
use Rattle.catalogue_calls.specs.declared.answer.Unkept.{Unkept}
use Rattle.catalogue_calls.specs.declared.lookup.Found.{Found}
use Rattle.catalogue_calls.specs.declared.read.Held.{Held}

-- pages stand here behind n templates, and zeros behind them
pub record Rowed (b : Bytes) (n : ℕ) (ps : List Page) (zeros : ℕ) : Type 0 where
  pub short : length b ≤ most_bytes
  pub all_sound : AllSound housed ps
  pub row_is : b ≡ row housed n ps (replicate zeros 0)

-- some pages do
pub record Later (b : Bytes) : Type 0 where
  pub before : ℕ
  pub pages : List Page
  pub zeros : ℕ
  pub rowed : Rowed b before pages zeros

-- whatever pages stand here, the numbers of each are f lower
abbrev pub Lowers : (b : Bytes) (f : ℕ) (b' : Bytes) → Type 0
Lowers b f b' = (n : ℕ) (ps : List Page) (z : ℕ) → Rowed b n ps z → b' ≡ lowered housed f n ps (replicate z 0)

-- a page with its numbers f lower
abbrev pub lowered_page : (f n : ℕ) (p : Page) (r : Bytes) → Bytes
lowered_page f n p r = 0x97 ∷ (big_endian 4 p.name [] ++ (house_bytes A14 p.house ++ lengths (housed.down f (housed.up n p.body)) r))

-- the page in front is lowered, and ends there
pub record FrontLowered (b : Bytes) (f last : ℕ) (b' : Bytes) : Type 0 where
  pub is_page : framed b ≡ true
  pub lowered_is : (n : ℕ) (p : Page) (ps : List Page) (z : ℕ) → Rowed b n (p ∷ ps) z
      → (last ≡ size housed p) × (b' ≡ lowered_page f n p (row housed (n + housed.forms p.body) ps (replicate z 0)))

abbrev pub LowersFront : (b : Bytes) (f : ℕ) → Option ℕ → (b' : Bytes) → Type 0
LowersFront b f None b' = (framed b ≡ false) × (b' ≡ b)
LowersFront b f (Some last) b' = FrontLowered b f last b'

-- the page is there
pub record Leaver (b : Bytes) (x used count forms at last its : ℕ) : Type 0 where
  pub of_bytes : AllBytes b
  pub holding : Holding b used count forms
  pub found : FoundAt x holding.pages at last its

abbrev pub Finds : Bytes → ℕ → Result (Held × Found) Unkept → Type 0
Finds b x (Ok r) = Leaver b x r.0.used r.0.pages r.0.forms r.1.at r.1.end r.1.forms
Finds b x (Err e) = leaving b x ≡ refused (unkept_number e)
