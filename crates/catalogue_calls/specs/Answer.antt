-- The answers of an arrival and of a leaving, with every byte of the catalogue. Assumes nothing: these are definitions.
use Rattle.std.specs.Prelude.{ℕ, ◌+◌, ◌-◌, ◌≡◌, List, eqb, length, get_or}
use Rattle.field.specs.Bytes.{Bytes, pick}
use Rattle.catalogue.specs.Shares.{Shares}
use Rattle.catalogue.specs.Calls.{arrives, leaves, Outcome, number, used_after, pages_after, left_by, outcome}
use Rattle.catalogue_calls.specs.Standing.{housed}

-- A14: for each house a guaranteed number of bytes and a most, house by house; any count but 32 is no shares, as is a guarantee above its most
unfoldable pub shares_of : List ℕ → Shares
shares_of ns =
    pick (eqb (length ns) 32)
    (record { guarantee = λ h. get_or ns (h + h - 2) 0; most = λ h. get_or ns (h + h - 1) 0 })
    (record { guarantee = λ h. 1; most = λ h. 0 })

-- what is answered, and what the lent buffer holds behind the call
pub record Catalogues (o : Outcome) (b : Bytes) (number_given used pages : ℕ) (b' : Bytes) : Type 0 where
  pub number_is : number_given ≡ number o
  pub used_is : used ≡ used_after housed o
  pub pages_is : pages ≡ pages_after o
  pub bytes_are : b' ≡ left_by housed b o

abbrev pub arriving : (catalogue : Bytes) (name house : ℕ) (shares : List ℕ) (templates page_out : Bytes) → Outcome
arriving b name house shares t p = outcome housed (shares_of shares) (arrives (record { name = name; house = house; body = record { templates = t; page_out = p } })) b

-- a leaving has no shares to look at
abbrev pub leaving : (catalogue : Bytes) (name : ℕ) → Outcome
leaving b name = outcome housed (record { guarantee = λ h. 0; most = λ h. 0 }) (leaves name) b
