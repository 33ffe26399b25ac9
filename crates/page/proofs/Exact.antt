-- On bytes: a page is accepted exactly from its own bytes, and no two pages have the same.
-- Main statements: `read_exactly`, `accepted_exactly`, `within_exactly`, `page_read`, `encode_injective`; `options_exactly`, `options_read`.
-- Assumes nothing.
use mathlib.Core.Path.{◌≡◌, refl, sym, ap, ◌∙◌, subst}
use mathlib.Core.Bool.{Bool, false, not}
use mathlib.Core.Logic.{◌↔◌}
use Prim.Native.Nat.{◌≤◌}
use native.Mathlib.Omega.{arith}
use lib.Dec.{T, leb→le, le→leb}
use lib.ListN.{length}
use Rattle.field.specs.Bytes.{Bytes, AllBytes}
use Rattle.field.specs.Row.{Row, bytes, long_body, read}
use Rattle.field.proofs.RowLaws.{Shaped, Sane, read_back, bytes_read, read_sane, not_long, sane_bytes}
use Rattle.page.specs.Page.{Page, Options}
use Rattle.page.specs.Tree.{page_in, options_in, works_sums}
use Rattle.page.specs.Check.{check_page, check_options}
use Rattle.page.specs.Encode.{page_row, encode, options_row, encode_options}
use Rattle.page.specs.Limits.{ModuleItemsOk, WithinLimits, OptionsOk}
use Rattle.refusal.specs.Refusal.{Fine}
use Rattle.page.proofs.Sound.{page_sound}
use Rattle.page.proofs.Complete.{page_complete}
use Rattle.page.specs.Given.{Given, given_row, GivenOk, options_of, ShortBodies}
use Rattle.page.proofs.Options.{options_sound, given_complete, given_of, given_of_row, given_of_ok, options_complete}
use Rattle.page.proofs.PageRow.{page_shaped, page_sane, given_shaped, given_sane, short_row}

fits : (x : Row) → long_body x ≡ false → ShortBodies x
fits x e = subst (λ (b : Bool). T (not b)) (sym e) tt

-- ---- the page

-- what is written of a page is its row again, and is bytes
pub read_encode : (p : Page) → ModuleItemsOk p → ShortBodies (page_row p) → read (encode p) ≡ page_row p
unfolding encode
read_encode p h l = read_back (page_row p) (page_shaped p h) l

pub encode_bytes : (p : Page) → ModuleItemsOk p → AllBytes (encode p)
unfolding encode
encode_bytes p h = sane_bytes (page_row p) (page_sane p h)

-- bytes are accepted, and read as p, exactly if they are p's and p is within the limits
pub read_exactly : (b : Bytes) (p : Page) → AllBytes b → ((check_page (read b) ≡ Fine) × (page_in (read b) ≡ p)) ↔ ((b ≡ encode p) × ModuleItemsOk p × ShortBodies (page_row p))
unfolding encode
read_exactly b p a = (
  λ e.
      let s = page_sound (read b) (read_sane b a) e.0 in
      let is : page_row p ≡ read b = ap page_row (sym e.1) ∙ s.0 in
      (sym (bytes_read b a) ∙ ap bytes (sym is), subst ModuleItemsOk e.1 s.1, subst ShortBodies (sym is) (fits (read b) (not_long b a))),
  λ q.
      let c = page_complete p q.1 in
      let is : read b ≡ page_row p = ap read q.0 ∙ read_encode p q.1 q.2 in
      (ap check_page is ∙ c.0, ap page_in is ∙ c.1),
)

-- so exactly the bytes of such pages are accepted
pub accepted_exactly : (b : Bytes) → AllBytes b → check_page (read b) ≡ Fine ↔ ((p : Page) × (b ≡ encode p) × ModuleItemsOk p × ShortBodies (page_row p))
accepted_exactly b a = (
  λ e. let q = (read_exactly b (page_in (read b)) a).0 (e, refl) in (page_in (read b), q.0, q.1, q.2),
  λ q. ((read_exactly b q.0 a).1 (q.1, q.2, q.3)).0,
)

-- ---- within 01's length

short_page : (p : Page) → length (encode p) ≤ 32768 → ShortBodies (page_row p)
unfolding encode
short_page p l = short_row (page_row p) (omega arith)

pub within_exactly : (b : Bytes) (p : Page) → AllBytes b → length b ≤ 32768 → ((check_page (read b) ≡ Fine) × (page_in (read b) ≡ p)) ↔ ((b ≡ encode p) × WithinLimits p)
unfolding WithinLimits
within_exactly b p a l = (
  λ e.
      let q = (read_exactly b p a).0 e in
      (q.0, (q.1, le→leb (length (encode p)) 32768 (subst (λ (x : Bytes). length x ≤ 32768) q.0 l))),
  λ q. (read_exactly b p a).1 (q.0, q.1.0, short_page p (leb→le (length (encode p)) 32768 q.1.1)),
)

-- every page within the limits is accepted from its bytes and read back
pub page_read : (p : Page) → WithinLimits p → (check_page (read (encode p)) ≡ Fine) × (page_in (read (encode p)) ≡ p) × AllBytes (encode p)
unfolding WithinLimits
page_read p h =
    let a = encode_bytes p h.0 in
    let q = (within_exactly (encode p) p a (leb→le (length (encode p)) 32768 h.1)).1 (refl, h) in
    (q.0, q.1, a)

pub encode_injective : (p q : Page) → ModuleItemsOk p → ShortBodies (page_row p) → ModuleItemsOk q → ShortBodies (page_row q) → encode p ≡ encode q → p ≡ q
encode_injective p q h k i l e =
    sym (page_complete p h).1 ∙ ap page_in (sym (read_encode p h k) ∙ ap read e ∙ read_encode q i l) ∙ (page_complete q i).1

-- ---- options

pub options_exactly : (b : Bytes) → AllBytes b → check_options (read b) ≡ Fine ↔ ((g : Given) × (b ≡ bytes (given_row g)) × GivenOk g × ShortBodies (given_row g) × (options_in (read b) ≡ options_of g) × (works_sums (read b) ≡ g.sums))
options_exactly b a = (
  λ e.
      let s = options_sound (read b) (read_sane b a) e in
      (s.0, sym (bytes_read b a) ∙ ap bytes (sym s.1), s.2, subst ShortBodies (sym s.1) (fits (read b) (not_long b a)), s.3, s.4),
  λ q.
      let g = q.0 in
      let is : read b ≡ given_row g = ap read q.1 ∙ read_back (given_row g) (given_shaped g q.2) q.3 in
      ap check_options is ∙ (given_complete g q.2).0,
)

pub options_read : (o : Options) → OptionsOk o → (check_options (read (encode_options o)) ≡ Fine) × (options_in (read (encode_options o)) ≡ o) × (works_sums (read (encode_options o)) ≡ false) × AllBytes (encode_options o)
unfolding encode_options OptionsOk
options_read o h =
    let g = given_of o in
    let k = given_of_ok o h in
    let r = given_of_row o in
    let l : length (bytes (options_row o)) ≤ 4096 = leb→le (length (encode_options o)) 4096 h.4 in
    let is : read (encode_options o) ≡ options_row o = read_back (options_row o) (subst Shaped r (given_shaped g k)) (short_row (options_row o) (omega arith)) in
    let c = options_complete o h in
    (ap check_options is ∙ c.0, ap options_in is ∙ c.1, ap works_sums is ∙ c.2, sane_bytes (options_row o) (subst Sane r (given_sane g k)))
