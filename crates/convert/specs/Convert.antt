-- 02, A7: templates out and page out from the old form into the new and back, with the whole answer at every input. Assumes nothing: these are
-- definitions.
use Rattle.std.specs.Prelude.{ℕ, Bool, true, false, ◌&&◌, ◌||◌, not, List, [], leb, eqb, length, take, replicate}
use Rattle.std.proofs.Math.Option.{Option, none, some}
use Rattle.field.specs.Bytes.{Bytes, pick, same}
use Rattle.field.specs.Number.{number_of}
use Rattle.field.specs.Row.{Row, end, loose, field, bytes, long_body, read}
use Rattle.field.specs.Put.{put}
use Rattle.refusal.specs.Refusal.{verdict_number}
use Rattle.spec.specs.Output.{kind_bytes, layout_80, layout_84, record_row}
use Rattle.spec.specs.Demand.{strings_in, kinds_behind}
use Rattle.outs.specs.Held.{read_out}
use Rattle.outs.specs.PageOut.{check_page_out}
use Rattle.outs.specs.Templates.{check_templates}
use Rattle.outs.specs.Renumber.{renumbered, has_wide}
use Rattle.outs.specs.declared.Kind.TheVariants.{Old, New}
use Rattle.convert.specs.Kinds.{kinds_by_strings}

-- ---- templates

-- one row in front of another, where both are
abbrev pub before : (Row → Row) → Option Row → Option Row
before f none = none
before f (some r) = some (f r)

-- up: the kinds are worked out from the strings
unfoldable pub raised : Row → Option Row
raised end = some end
raised (loose b) = some (loose b)
raised (field t f i r) = elim (kinds_by_strings (strings_in i)) [ none ↦ none | some ks ↦ before (record_row layout_84 (number_of f) ks (strings_in i)) (raised r) ]

-- down: they are dropped, if they are those of the strings and two bytes can say the number
unfoldable pub agrees : Bytes → List Bytes → Bool
agrees f ss = elim (kinds_by_strings ss) [ none ↦ false | some ks ↦ same (kinds_behind f) (kind_bytes ks) ]

unfoldable pub lowered : Row → Option Row
lowered end = some end
lowered (loose b) = some (loose b)
lowered (field t f i r) = pick (leb (number_of (take 4 f)) 65535 && agrees f (strings_in i)) (before (record_row layout_80 (number_of (take 4 f)) [] (strings_in i)) (lowered r)) none

-- ---- the answer

pub record Written : Type 0 where
  pub templates_out : Bytes
  pub page_out : Bytes

pub data Outcome : Type 0 where
  refused : ℕ → Outcome
  converted : Written → Outcome

-- one number, and the next where it is 0
unfoldable pub past : ℕ → (Unit {0} → Outcome) → Outcome
past n v = elim (eqb n 0) [ true ↦ v tt | false ↦ refused n ]

abbrev pub number_unless : Bool → ℕ → ℕ
number_unless true n = 0
number_unless false n = n

-- 17, then 11, 12 and 13
unfoldable pub written : (templates_room page_room : ℕ) → Option Row → (narrow : Bool) → Row → Outcome
written tr pr none narrow y = refused 17
written tr pr (some x) narrow y =
    past (number_unless narrow 17) λ _.
    past (number_unless (not (long_body x || long_body y)) 11) λ _.
    past (number_unless (leb (length (bytes x)) tr) 12) λ _.
    past (number_unless (leb (length (bytes y)) pr) 13) λ _.
    converted (record { templates_out = bytes x; page_out = bytes y })

unfoldable pub upgraded : (templates page : Bytes) (templates_room page_room : ℕ) → Outcome
upgraded t p tr pr =
    past (verdict_number (check_templates Old t)) λ _.
    past (verdict_number (check_page_out 2 p)) λ _.
    written tr pr (raised (read t)) true (renumbered 4 (read_out 2 p))

unfoldable pub downgraded : (templates page : Bytes) (templates_room page_room : ℕ) → Outcome
downgraded t p tr pr =
    past (verdict_number (check_templates New t)) λ _.
    past (verdict_number (check_page_out 4 p)) λ _.
    written tr pr (lowered (read t)) (not (has_wide (read_out 4 p))) (renumbered 2 (read_out 4 p))

-- ---- the number, the counts, and every byte lent

unfoldable pub number : Outcome → ℕ
number (refused n) = n
number (converted w) = 0

unfoldable pub bytes_of_templates : Outcome → ℕ
bytes_of_templates (refused n) = 0
bytes_of_templates (converted w) = length w.templates_out

unfoldable pub bytes_of_page : Outcome → ℕ
bytes_of_page (refused n) = 0
bytes_of_page (converted w) = length w.page_out

-- refused: all zero; else the bytes behind the written end stay
unfoldable pub templates_left : Outcome → Bytes → Bytes
templates_left (refused n) b = replicate (length b) 0
templates_left (converted w) b = put b 0 w.templates_out

unfoldable pub page_left : Outcome → Bytes → Bytes
page_left (refused n) b = replicate (length b) 0
page_left (converted w) b = put b 0 w.page_out
