-- What the writing goes by: a record in its parts, HTML by the bytes of an order, and what the check and the index say of these bytes. Nothing here
-- needs belief. Assumes nothing: these are definitions.
use Rattle.std.specs.Prelude.{ℕ, suc, ◌≡◌, ◌≤◌, Bool, ◌&&◌, not, T, eqb, length, take, drop, Option, Some, None}
use Rattle.std.specs.List.{All}
use Rattle.std.proofs.Math.Option as M
use Rattle.field.specs.Bytes.{Bytes, pick}
use Rattle.field.specs.Number.{number_of}
use Rattle.field.specs.Row.{Row, read}
use Rattle.refusal.specs.Refusal.{Fine}
use Rattle.page.specs.Tree.{choose}
use Rattle.outs.specs.Templates.{check_strings}
use Rattle.spec.specs.Demand.{strings_in}
use Rattle.spec.specs.Words.{free}
use Rattle.fill.specs.Order.{read_order, is_filling, asked}
use Rattle.fill.specs.Html.{template_of, text_filling, fill_gaps}
use Rattle.fill.specs.Located.{template_in}
use Rattle.fill.specs.Indexed.{Checked}

-- the place behind what is written is not past m
abbrev pub EndsBy : ℕ → Option ℕ → Type 0
EndsBy m None = Unit {0}
EndsBy m (Some e) = e ≤ m

-- the kinds and the strings of a record's body
pub record PartsAre (w kinds strings : Bytes) : Type 0 where
  pub kinds_are : kinds ≡ (template_in w).kinds
  pub strings_are : strings_in (read strings) ≡ (template_in w).strings
  pub one_more : check_strings (suc (length kinds)) (read strings) ≡ Fine
  pub short : length strings ≤ length w

-- a byte that the text of an attribute may have
unfoldable pub no_sign : ℕ → Bool
no_sign c = not (eqb c 60) && not (eqb c 62)

-- a byte that escaping leaves alone, and no `#`
unfoldable pub unmarked : ℕ → Bool
unmarked c = not (eqb c 34) && not (eqb c 35) && not (eqb c 38) && not (eqb c 39) && not (eqb c 60) && not (eqb c 62)

abbrev pub free_text : Bytes → M.Option Bytes
free_text b = pick (free b) (M.some b) M.none

-- the HTML of an 85, by its body
unfoldable pub html_of_body : Row → Bytes → M.Option Bytes
html_of_body ts w = elim (template_of ts (number_of (take 4 w))) [ M.none ↦ M.none | M.some m ↦ fill_gaps ts m.kinds m.strings (read_order (drop 4 w)) ]

-- of a filling for a gap of kind k, by its tag and body
unfoldable pub html_of_filling : Row → (k t : ℕ) → Bytes → M.Option Bytes
html_of_filling ts k t w = choose (eqb t 0x85) (λ _. choose (eqb k 2) (λ _. html_of_body ts w) λ _. M.none) λ _. text_filling k t w

-- fillings that are checked, and whose numbers are all found
pub record FillingsFit (found : ℕ → Type 0) (s : Bytes) : Type 0 where
  pub checked : Checked s
  pub all_found : All found (asked (read_order s))

-- the same of an 85's body, and of a filling
pub record OrderFits (found : ℕ → Type 0) (w : Bytes) : Type 0 where
  pub long_enough : 4 ≤ length w
  pub number_found : found (number_of (take 4 w))
  pub within : FillingsFit found (drop 4 w)

pub record FillingFits (found : ℕ → Type 0) (t : ℕ) (w : Bytes) : Type 0 where
  pub tag_is : T (is_filling t)
  pub if_order : t ≡ 0x85 → OrderFits found w
