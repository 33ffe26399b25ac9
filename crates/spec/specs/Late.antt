-- The answers that may follow the reading of a page and its options, each with what decides it. Assumes nothing: these are definitions.
use Rattle.std.specs.Prelude.{ℕ, ◌≤◌, ◌<◌, Bool, ◌||◌, not, T, length}
use Rattle.field.specs.Row.{Row, bytes, long_body}
use Rattle.page.specs.Page.{Options}
use Rattle.refusal.specs.declared.Refusal.TheVariants as R
use Rattle.spec.specs.declared.Flags.{Flags}
use Rattle.spec.specs.Pass.{Done}
use Rattle.spec.specs.Transform.{templates_row, page_out_row}
use Rattle.spec.specs.Answer.{Written, Outcome, refused, accepted}

-- both outputs, and how many bytes each needs
abbrev pub written : Options → Done Row → Written
written o d = record { templates_out = bytes (templates_row d.templates); page_out = bytes (page_out_row o d); templates = length d.templates }

abbrev pub templates_need : Done Row → ℕ
templates_need d = length (bytes (templates_row d.templates))

abbrev pub page_need : Options → Done Row → ℕ
page_need o d = length (bytes (page_out_row o d))

-- 01, 11: a merged run, or a body of either output, over 65,535
abbrev pub over_long : Options → Done Row → Bool
over_long o d = d.flags.long || (long_body (templates_row d.templates) || long_body (page_out_row o d))

-- none of 10, 16 and 19
pub record Unmarked (f : Flags) : Type 0 where
  pub not_left : T (not f.left)
  pub not_repeated : T (not f.repeated)
  pub not_mixed : T (not f.mixed)

-- 10, 16 (02, A4), 19 (A10), 11, 12 and 13, each over the whole, in this order; taken where none is given
pub data Late (templates_room page_room : ℕ) (o : Options) (d : Done Row) : Outcome → Type 0 where
  tag_left : T d.flags.left → Late templates_room page_room o d (refused R.TagLeft)
  repeated : T (not d.flags.left) → T d.flags.repeated → Late templates_room page_room o d (refused R.RepeatedAttribute)
  mixed : T (not d.flags.left) → T (not d.flags.repeated) → T d.flags.mixed → Late templates_room page_room o d (refused R.MixedCaseVoid)
  too_long : Unmarked d.flags → T (over_long o d) → Late templates_room page_room o d (refused R.OutputTooLong)
  templates_small : Unmarked d.flags → T (not (over_long o d)) → templates_room < templates_need d → Late templates_room page_room o d (refused R.TemplatesTooSmall)
  page_small : Unmarked d.flags → T (not (over_long o d)) → templates_need d ≤ templates_room → page_room < page_need o d → Late templates_room page_room o d (refused R.PageTooSmall)
  taken : Unmarked d.flags → T (not (over_long o d)) → templates_need d ≤ templates_room → page_need o d ≤ page_room → Late templates_room page_room o d (accepted (written o d))
