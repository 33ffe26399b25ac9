-- The words of the theorems on the catalogue. Assumes nothing: these are definitions.
use Rattle.std.specs.Prelude.{ℕ, ◌+◌, ◌-◌, ◌≤◌, ◌≡◌, Bool, true, false, List, [], ◌∷◌, ◌++◌, eqb, length, take, replicate}
use Rattle.field.specs.Bytes.{Bytes, pick}
use Rattle.field.specs.Number.{big_endian}
use Rattle.catalogue.specs.Page.{Page, house_bytes, Format}
use Rattle.catalogue.specs.Catalogue.{lengths, build, size, row_size, Holds}
use Rattle.catalogue.specs.Shares.{Shares, used, unused_of_others, others}
use Rattle.catalogue.specs.Calls.{Call, arrives, leaves, without, before, after_calls}

-- the pages that remain, in order of arrival
abbrev pub remaining : Call → List Page → List Page
remaining (arrives p) ps = ps ++ (p ∷ [])
remaining (leaves x) ps = without x ps

-- the place of a call: where the page that arrives will stand, or the one that leaves stood
abbrev pub place : Format → Call → List Page → ℕ
place F (arrives p) ps = row_size F ps
place F (leaves x) ps = row_size F (before x ps)

-- A13: what is promised of a call that is taken: all is as if built anew of the pages that remain, and holds them; in front of the place of the
-- call not a byte is changed
pub record Kept (F : Format) (c : Call) (b : Bytes) (ps : List Page) (b' : Bytes) : Type 0 where
  pub built_afresh : b' ≡ build F (length b) (remaining c ps)
  pub holds_them : Holds F b' (remaining c ps)
  pub untouched_before : take (place F c ps) b' ≡ take (place F c ps) b
  pub length_kept : length b' ≡ length b

-- the pages as they stand behind n templates, with the numbers of each lowered by f; heads and lengths stay
unfoldable pub lowered : Format → ℕ → ℕ → List Page → Bytes → Bytes
lowered F f n [] r = r
lowered F f n (p ∷ ps) r =
    0x97 ∷ (big_endian 4 p.name [] ++ (house_bytes F.request p.house ++ lengths (F.down f (F.up n p.body)) (lowered F f (n + F.forms p.body) ps r)))

-- a catalogue of n bytes that was empty, and then the calls, under the same shares and with no other writer
abbrev pub since_empty : Format → Shares → ℕ → List Call → Bytes
since_empty F s n cs = after_calls F s cs (replicate n 0)

-- A14: there is room for a page: its house has no more than it may, the page fits, and of the bytes that are free then there are enough for what
-- the other houses are sure of and have not used
pub record Room (F : Format) (s : Shares) (n : ℕ) (ps : List Page) (p : Page) : Type 0 where
  pub within_most : used F p.house ps + size F p ≤ s.most p.house
  pub fits : row_size F ps + size F p ≤ n
  pub covers : unused_of_others F s ps p.house ≤ n - (row_size F ps + size F p)

-- the name that a call asks for
abbrev pub asked : Call → ℕ
asked (arrives p) = p.name
asked (leaves x) = x

-- a page of the house g has this name
unfoldable pub named_in : ℕ → ℕ → List Page → Bool
named_in g x [] = false
named_in g x (p ∷ ps) = pick (eqb g p.house) (pick (eqb x p.name) true (named_in g x ps)) (named_in g x ps)

-- a call of another house: what arrives is another's; what leaves is, as its name is on none of the house's pages
abbrev pub OfAnother : ℕ → Call → Type 0
OfAnother g (arrives p) = p.house ≡ g → ⊥
OfAnother g (leaves x) = Unit {0}

-- A14: two catalogues as long as each other which only the pages of the house g tell apart: none of these has the name that the call asks for,
-- and both have as many bytes of them beyond what g is sure of
pub record Alike (F : Format) (s : Shares) (g : ℕ) (c : Call) (b₁ : Bytes) (ps₁ : List Page) (b₂ : Bytes) (ps₂ : List Page) : Type 0 where
  pub sound₁ : Holds F b₁ ps₁
  pub sound₂ : Holds F b₂ ps₂
  pub one_length : length b₁ ≡ length b₂
  pub others_alike : others g ps₁ ≡ others g ps₂
  pub above_alike : used F g ps₁ - s.guarantee g ≡ used F g ps₂ - s.guarantee g
  pub on_none₁ : named_in g (asked c) ps₁ ≡ false
  pub on_none₂ : named_in g (asked c) ps₂ ≡ false
