-- What a caller knows of a catalogue from the answers of `add` and `remove` alone. Assumes nothing: these are definitions.
use Rattle.std.specs.Prelude.{ℕ, ◌≡◌, List, [], eqb, length, replicate}
use Rattle.field.specs.Bytes.{Bytes, pick}
use Rattle.catalogue.specs.Page.{Page}
use Rattle.catalogue.specs.Catalogue.{row_size, Holds}
use Rattle.catalogue.specs.Shares.{others}
use Rattle.catalogue.specs.Calls.{Call, arrives, leaves, Handed}
use Rattle.catalogue.specs.Words.{remaining, Kept}
use Rattle.catalogue_calls.specs.Standing.{housed}
use Rattle.catalogue_calls.specs.Answer.{Catalogues, arriving, leaving}

-- the three numbers that a call answers
pub record Answer : Type 0 where
  pub number : ℕ
  pub used : ℕ
  pub pages : ℕ

-- what the two calls promise. An arrival brings the shares, a leaving none
abbrev pub Answered : (shares : List ℕ) → Call → Bytes → Answer → Bytes → Type 0
Answered ns (arrives p) b a b' = Catalogues (arriving b p.name p.house ns p.body.templates p.body.page_out) b a.number a.used a.pages b'
Answered ns (leaves x) b a b' = Catalogues (leaving b x) b a.number a.used a.pages b'

-- A13: a call that is taken, at the one list of pages that the buffer held: the buffer equals one built afresh of the pages that remain, and only
-- what follows the place was touched. The other two numbers are those of the pages that remain
pub record Accepted (c : Call) (b : Bytes) (a : Answer) (b' : Bytes) : Type 0 where
  pub before : List Page
  pub held : Holds housed b before
  pub held_alone : (qs : List Page) → Holds housed b qs → qs ≡ before
  pub kept : Kept housed c b before b'
  pub used_is : a.used ≡ row_size housed (remaining c before)
  pub pages_is : a.pages ≡ length (remaining c before)

-- A13: a refused call leaves the catalogue as it found it
pub record Untouched (b : Bytes) (a : Answer) (b' : Bytes) : Type 0 where
  pub as_found : b' ≡ b
  pub used_is : a.used ≡ 0
  pub pages_is : a.pages ≡ 0

-- A13: a buffer that holds no list of pages is no catalogue
abbrev pub NoCatalogue : Bytes → Type 0
NoCatalogue b = (ps : List Page) → Holds housed b ps → ⊥

-- the caller's own list of the pages that arrived and have not left: a call that answers 0 is carried out, any other changes nothing
abbrev pub noted : Call → Answer → List Page → List Page
noted c a ps = pick (eqb a.number 0) (remaining c ps) ps

-- A14: a buffer of n bytes since it was empty, under the same shares and with no other writer: each call, of any house, finds the bytes that the one
-- before it left
pub data History (ns : List ℕ) (n : ℕ) : List Page → Bytes → Type 0 where
  empty : History ns n [] (replicate n 0)
  then : (ps : List Page) (b : Bytes) (c : Call) (a : Answer) (b' : Bytes) → History ns n ps b → Handed housed c → Answered ns c b a b' → History ns n (noted c a ps) b'

-- the buffer holds the pages that the caller noted, and is as long as it was
abbrev pub Noted : ℕ → List Page → Bytes → Type 0
Noted n ps b = Holds housed b ps × (length b ≡ n)

-- A14: the pages of the houses other than g are alike in two buffers, form numbers apart: a page of a list has its own, from 1
pub record AlikeToOthers (g : ℕ) (b₁ b₂ : Bytes) : Type 0 where
  pub pages₁ : List Page
  pub pages₂ : List Page
  pub held₁ : Holds housed b₁ pages₁
  pub held₂ : Holds housed b₂ pages₂
  pub alike : others g pages₁ ≡ others g pages₂
