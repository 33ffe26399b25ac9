-- A14's shares: how many bytes each house is sure of, and how many it may have at the most. Assumes nothing: these are definitions.
use Rattle.std.specs.Prelude.{ℕ, zero, suc, ◌+◌, ◌-◌, Bool, true, ◌&&◌, List, [], ◌∷◌, leb, eqb}
use Rattle.field.specs.Bytes.{pick}
use Rattle.catalogue.specs.Page.{Page, Format}
use Rattle.catalogue.specs.Catalogue.{size}

-- by the number of the house
pub record Shares : Type 0 where
  pub guarantee : ℕ → ℕ
  pub most : ℕ → ℕ

-- houses 1 to k together
unfoldable pub total : (ℕ → ℕ) → ℕ → ℕ
total f zero = 0
total f (suc k) = total f k + f (suc k)

-- each of the houses 1 to k
unfoldable pub each : (ℕ → Bool) → ℕ → Bool
each f zero = true
each f (suc k) = each f k && f (suc k)

-- A14: no house is sure of more than it may have, and the catalogue has room for all guarantees together
unfoldable pub shares_right : ℕ → Shares → Bool
shares_right n s = each (λ h. leb (s.guarantee h) (s.most h)) 16 && leb (total s.guarantee 16) n

-- the bytes of a house's pages
unfoldable pub used : Format → ℕ → List Page → ℕ
used F h [] = 0
used F h (p ∷ ps) = pick (eqb h p.house) (size F p) 0 + used F h ps

unfoldable pub unused : Format → Shares → List Page → ℕ → ℕ
unused F s ps h = s.guarantee h - used F h ps

-- the same for each house but h, which counts nothing
unfoldable pub but : ℕ → (ℕ → ℕ) → ℕ → ℕ
but h f k = pick (eqb k h) 0 (f k)

-- the unused guarantees of the houses other than h
abbrev pub unused_of_others : Format → Shares → List Page → ℕ → ℕ
unused_of_others F s ps h = total (but h (unused F s ps)) 16

-- the pages of the houses other than h, in order of arrival
unfoldable pub others : ℕ → List Page → List Page
others h [] = []
others h (p ∷ ps) = pick (eqb h p.house) (others h ps) (p ∷ others h ps)
