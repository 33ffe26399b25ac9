-- What the tests of an arrival answer. Nothing here needs belief. Assumes nothing: these are definitions.
use Rattle.std.specs.Prelude.{ℕ, ◌+◌, ◌-◌, ◌≡◌, [], ◌∷◌, ◌++◌, leb, length, Result, Ok, Err}
use Rattle.field.specs.Bytes.{Bytes, AllBytes}
use Rattle.field.specs.Number.{big_endian}
use Rattle.catalogue.specs.Page.{Page}
use Rattle.catalogue.specs.Shares.{Shares, total, but}
use Rattle.catalogue.specs.Calls.{Outcome, refused, remain, unless, arrives, outcome}
use Rattle.catalogue_calls.specs.Standing.{housed, used_in}
use Rattle.catalogue_calls.specs.Judges.{unkept_number}
use Rattle.catalogue_calls.specs.Reads.{Holding}
use Rattle.catalogue_calls.specs.declared.answer.Unkept.{Unkept}
use Rattle.catalogue_calls.specs.declared.read.Held.{Held}

-- the page that is handed over
abbrev pub page_of : (name house : ℕ) (templates page_out : Bytes) → Page
page_of name house t p = record { name = name; house = house; body = record { templates = t; page_out = p } }

-- what stands before a page's parts
abbrev pub head_of : (name house templates_long page_long : ℕ) → Bytes
head_of name house lt lp = 0x97 ∷ (big_endian 4 name [] ++ (house ∷ (big_endian 4 lt [] ++ big_endian 4 lp [])))

-- refused, or whatever comes of what is not
abbrev pub passed : Result (Unit {0}) Unkept → Outcome → Outcome
passed (Ok u) o = o
passed (Err e) o = refused (unkept_number e)

-- A14: a page of the house h and of so many bytes, where all pages have n: 24 and 25 in place of what would come of it
abbrev pub RoomIn : (b : Bytes) (n h : ℕ) (s : Shares) (size : ℕ) → Result (Unit {0}) Unkept → Type 0
RoomIn b n h s size r =
    (o : Outcome) →
    unless (leb (used_in h b + size) (s.most h)) 24
    (unless (leb (n + size + total (but h (λ k. s.guarantee k - used_in k b)) 16) (length b)) 25 o)
    ≡ passed r o

-- no test refuses the page: it will stand behind those that are held
pub record Admitted (b : Bytes) (p : Page) (s : Shares) (used count forms : ℕ) : Type 0 where
  pub of_bytes : AllBytes b
  pub holding : Holding b used count forms
  pub outcome_is : outcome housed s (arrives p) b ≡ remain (holding.pages ++ (p ∷ []))

abbrev pub Admits : Bytes → Page → Shares → Result Held Unkept → Type 0
Admits b p s (Ok h) = Admitted b p s h.used h.pages h.forms
Admits b p s (Err e) = outcome housed s (arrives p) b ≡ refused (unkept_number e)
