-- What the steps of the check of templates out promise each other. Nothing here needs belief. Assumes nothing: these are definitions.
use Rattle.std.specs.Prelude.{ℕ, ◌≡◌, eqb, take, drop}
use Rattle.field.specs.Bytes.{Bytes}
use Rattle.field.specs.Row.{Row, counted_front, read}
use Rattle.field.specs.Fields.{IsFront, IsEnd}
use Rattle.page.specs.Check.{check_nothing_after}
use Rattle.refusal.specs.Refusal.{Verdict, after, unless}
use Rattle.refusal.specs.declared.Refusal.TheVariants as R
use Rattle.outs.specs.Templates.{front_of_record, check_strings_of}
use Rattle.outs.specs.declared.Kind.{Kind}
use Rattle.outs.specs.declared.Kind.TheVariants.{Old, New}

-- a check of rows that goes field by field: of each its tag, and then its body
pub record Rowwise (tag : ℕ) (right : Bytes → Verdict) (rows : Row → Verdict) : Type 0 where
  pub field_by_field : {s : Bytes} {t : ℕ} {w r : Bytes} → IsFront s t w r → rows (read s) ≡ after (unless (eqb t tag) R.Misplaced) λ _. after (right w) λ _. rows (read r)
  pub then_nothing : {s r : Bytes} → IsEnd s r → check_nothing_after (read r) ≡ rows (read s)

-- a record's body by its bytes: what stands before the strings, and the strings
abbrev pub front_then : Kind → Bytes → Row → Verdict
front_then k f i = after (unless (front_of_record k f) R.Misplaced) λ _. check_strings_of k f i

abbrev pub record_body : Kind → Bytes → Verdict
record_body Old w = front_then Old (take 2 w) (read (drop 2 w))
record_body New w = front_then New (take (counted_front 4 w) w) (read (drop (counted_front 4 w) w))
