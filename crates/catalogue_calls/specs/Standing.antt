-- A page where it stands in the catalogue, and what the walks over pages answer. Assumes nothing: these are definitions.
use Rattle.std.specs.Prelude.{ℕ, zero, suc, ◌+◌, ◌≡◌, Bool, true, false, ◌&&◌, not, List, [], ◌∷◌, eqb, leb, length, drop, get_or, Option, Some, None}
use Rattle.field.specs.Bytes.{Bytes, pick}
use Rattle.catalogue.specs.Page.{A14, Format, house_right}
use Rattle.catalogue.specs.Catalogue.{four, within, body_in, behind_body}
use Rattle.catalogue.specs.Judged.{project}
use Rattle.catalogue_calls.specs.declared.standing.Pages.{Pages}
use Rattle.catalogue_calls.specs.declared.standing.Standing.{Standing}

-- the catalogue of this project, each page with its house
abbrev pub housed : Format
housed = project A14

-- a page's frame stands in front: its 97, a name, a house from 1 to 16, two lengths, and the parts that these say
unfoldable pub framed : Bytes → Bool
framed [] = false
framed (c ∷ b) = eqb c 0x97 && (leb 5 (length b) && (within (drop 5 b) && house_right A14 (get_or b 4 0)))

-- the parts of the page in front, and what lies behind it
pub record IsPage (s : Bytes) (name house : ℕ) (templates page_out r : Bytes) : Type 0 where
  pub is_framed : framed s ≡ true
  pub name_is : name ≡ four (drop 1 s)
  pub house_is : house ≡ get_or s 5 0
  pub templates_is : templates ≡ (body_in (drop 6 s)).templates
  pub page_out_is : page_out ≡ (body_in (drop 6 s)).page_out
  pub behind_is : r ≡ behind_body (drop 6 s)
  pub sizes : 14 + length templates + length page_out + length r ≡ length s

abbrev pub StandsAt : Bytes → Option Standing → Type 0
StandsAt s None = framed s ≡ false
StandsAt s (Some p) = IsPage s p.name p.house p.templates.now p.page.now p.behind.now

-- a step over the pages from the front on, and the bytes that it leaves
abbrev pub GivesPage : Pages → Option Standing → Pages → Type 0
GivesPage x None y = (framed x.0.now ≡ false) × (y.0.now ≡ x.0.now)
GivesPage x (Some p) y = IsPage x.0.now p.name p.house p.templates.now p.page.now y.0.now

-- the frames from the front on, by the names of their pages; so many steps
unfoldable pub names_from : ℕ → Bytes → List ℕ
names_from zero b = []
names_from (suc k) b = pick (framed b) (four (drop 1 b) ∷ names_from k (behind_body (drop 6 b))) []

unfoldable pub names_in : Bytes → List ℕ
names_in b = names_from (suc (length b)) b

-- no number stands twice
unfoldable pub among : ℕ → List ℕ → Bool
among n [] = false
among n (m ∷ ms) = pick (eqb n m) true (among n ms)

unfoldable pub all_differ : List ℕ → Bool
all_differ [] = true
all_differ (n ∷ ns) = not (among n ns) && all_differ ns

-- the bytes of the pages of a house, counted from their 97; so many steps
unfoldable pub used_from : ℕ → ℕ → Bytes → ℕ
used_from zero h b = 0
used_from (suc k) h b = pick (framed b) (pick (eqb h (get_or b 5 0)) (14 + four (drop 6 b) + four (drop 10 b)) 0 + used_from k h (behind_body (drop 6 b))) 0

unfoldable pub used_in : ℕ → Bytes → ℕ
used_in h b = used_from (suc (length b)) h b
