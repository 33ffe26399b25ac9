-- 02, A8, from answers and buffers alone: whoever fills an accepted page's templates gets well-nested HTML. Main statement: `filled_of_answers`.
-- Assumes nothing.
use Prim.Native.Nat.{ℕ}
use mathlib.Core.Path.{◌≡◌}
use lib.ListN.{length, take}
use Rattle.field.specs.Bytes.{Bytes, AllBytes}
use Rattle.spec.specs.Answer.{outcome}
use Rattle.spec.specs.Words.{by_bytes, WellNestedBy, WellNested}
use Rattle.fill.specs.Answer as F
use Rattle.fill.proofs.Answered.{nested_of_answer}
use Rattle.transform.specs.declared.Answer.{Answer}
use Rattle.transform.specs.Run.{Answers}
use Rattle.jsx_precompile.proofs.Demand.{demand3_of_answer}

-- the answer and the buffers behind a call of the transform, and those behind a call of the filler with its templates out and an order
module _ (page options scratch templates_out page_out : Bytes) (a : Answer) (scratch' templates_out' page_out' : Bytes)
    (x : Answers (outcome page options (length scratch) (length templates_out) (length page_out)) scratch templates_out page_out a scratch' templates_out' page_out')
    (order html_out : Bytes) (n html_bytes : ℕ) (html_out' : Bytes)
    (y : F.Answered (F.outcome (take a.templates_bytes templates_out') order (length html_out)) html_out n html_bytes html_out') where
  -- both numbers are 0: well nested, in small letters and by bytes
  pub filled_of_answers : AllBytes page → a.number ≡ 0 → n ≡ 0 → WellNested (take html_bytes html_out') × WellNestedBy by_bytes (take html_bytes html_out')
  filled_of_answers all z w =
      nested_of_answer (take a.templates_bytes templates_out') order html_out n html_bytes html_out' y (take a.page_bytes page_out') a.templates
      (demand3_of_answer page options scratch templates_out page_out a scratch' templates_out' page_out' x all z) w
