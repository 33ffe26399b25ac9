-- What a house has used of a catalogue that is read, as its bytes are walked, is what its pages take. Main statement: `used_are`. Assumes nothing.
use Prim.Native.Nat.{ℕ, ◌+◌}
use mathlib.Core.Path.{◌≡◌, ap, ap₂, ◌∙◌}
use mathlib.Core.List.{List, [], ◌∷◌}
use native.Mathlib.Omega.{arith}
use lib.Dec.{eqb}
use lib.ListN.{length, drop}
use Rattle.field.specs.Bytes.{Bytes, AllBytes, pick}
use Rattle.catalogue.specs.Page.{A14, Body, Page}
use Rattle.catalogue.specs.Catalogue.{pages, read_catalogue, size, row_size, body_in, behind_body}
use Rattle.catalogue.specs.Shares.{used}
use Rattle.catalogue.specs.Judged.{project}
use Rattle.catalogue.proofs.Project.{read_exactly}
use Rattle.catalogue.proofs.Rows.{up_templates, up_page_out}
use Rattle.catalogue_calls.specs.Standing.{housed, framed, used_in}
use Rattle.catalogue_calls.specs.Leaves.{Rowed}
use Rattle.catalogue_calls.proofs.FrameLaws.{counted, used_framed, used_end}
use Rattle.catalogue_calls.proofs.RowedLaws.{front, row_none, holds_row}

-- the page in front counts with its size
counts : (g n : ℕ) (p : Page) → counted g p.house (housed.up n p.body) ≡ pick (eqb g p.house) (size housed p) 0
unfolding size project
counts g n p = ap (λ (k : ℕ). pick (eqb g p.house) k 0) (omega (arith, up_templates n p.body, up_page_out n p.body))

used_row : (g : ℕ) (ps : List Page) {s : Bytes} {n z : ℕ} → Rowed s n ps z → used_in g s ≡ used housed g ps
unfolding used
used_row g [] {s} w = used_end s (row_none w) g
used_row g (p ∷ ps) {s} {n} w =
    let f = front w in
    used_framed s f.is_framed g
    ∙ ap₂ (λ (k : ℕ) (x : Body). counted g k x + used_in g (behind_body (drop 6 s))) f.house_is f.body_is
    ∙ ap₂ (λ (k m : ℕ). k + m) (counts g n p) (used_row g ps f.left)

pub used_are : (b : Bytes) (ps : List Page) → AllBytes b → read_catalogue housed b ≡ pages ps → (g : ℕ) → used_in g b ≡ used housed g ps
used_are b ps a e g = used_row g ps (holds_row b ps ((read_exactly A14 b ps a).0 e))
