-- The whole answer of the reader: `tag_outcome` in the numbers and bytes of a call. Main definitions: `TagAnswers`, `unread_number`.
-- Assumes nothing: these are definitions.
use Rattle.std.specs.Prelude.{ℕ, ◌≡◌, Bool, true, false, Result, Ok, Err, not, ltb, length}
use Rattle.field.specs.Bytes.{Bytes}
use Rattle.field.specs.Put.{put}
use Rattle.page.specs.Page as P
use Rattle.refusal.specs.Refusal.{refusal_number}
use Rattle.refusal.specs.declared.Refusal.TheVariants as R
use Rattle.tag_tree.specs.TagAnswer.{TagRefusal, TagOutcome, tag_refused, tag_accepted, tag_refusal_number, tag_encode, tag_outcome, tag_number, bytes_of_tag, tag_left}
use Rattle.tag_pass.specs.declared.answer.TagAnswer.{TagAnswer}
use Rattle.tag_pass.specs.declared.answer.Unread.{Unread}
use Rattle.tag_pass.specs.declared.answer.Unread.TheVariants as U
use Rattle.tag_pass.specs.declared.state.Reading.{Reading}

-- the number, the count, and every byte lent
pub record TagAnswers (text out : Bytes) (r : TagAnswer) (out' : Bytes) : Type 0 where
  pub number_is : r.number ≡ tag_number (tag_outcome text (length out))
  pub bytes_is : r.tag_bytes ≡ bytes_of_tag (tag_outcome text (length out))
  pub out_is : out' ≡ tag_left (tag_outcome text (length out)) out

-- ---- the reasons of the code

-- the number of each: of a refusal its own, and 02, A3's 14 and 15
unfoldable pub unread_number : Unread → ℕ
unread_number (U.Refused r) = refusal_number r
unread_number U.NoReading = 14
unread_number U.NamesDiffer = 15

-- the outcome is a refusal under that number
pub record RefusedAs (o : TagOutcome) (n : ℕ) : Type 0 where
  pub refusal : TagRefusal
  pub refused : o ≡ tag_refused refusal
  pub number : tag_refusal_number refusal ≡ n

unfoldable pub refused_if : Bool → Unread → Result ℕ Unread → Result ℕ Unread
refused_if true e r = Err e
refused_if false e r = r

-- what is refused of a text that was read, in this order, or how much was written
unfoldable pub checked : Reading → ℕ → Result ℕ Unread
checked st room =
    refused_if (not st.names) U.NamesDiffer
    (refused_if (not st.numbers) (U.Refused R.NumberTooLarge)
    (refused_if (not st.shallow) (U.Refused R.TooDeep) (refused_if (ltb 65538 st.at) (U.Refused R.OutputTooLong) (refused_if (ltb room st.at) (U.Refused R.PageTooSmall) (Ok st.at)))))

-- the tag's field stands in front, or there is a reason
pub record FieldPut (text out : Bytes) (n : ℕ) (out' : Bytes) : Type 0 where
  pub tag : P.Tag
  pub accepted : tag_outcome text (length out) ≡ tag_accepted tag
  pub count : n ≡ length (tag_encode tag)
  pub out_is : out' ≡ put out 0 (tag_encode tag)

abbrev pub FieldRead : Bytes → Bytes → Result ℕ Unread → Bytes → Type 0
FieldRead text out (Ok n) out' = FieldPut text out n out'
FieldRead text out (Err e) out' = RefusedAs (tag_outcome text (length out)) (unread_number e)
