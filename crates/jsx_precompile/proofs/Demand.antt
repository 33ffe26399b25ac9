-- What a caller of the export knows from its answer and its buffers alone. Main statements: `demand3_of_answer`, `kept_of_answer`,
-- `behind_of_answer`, `refused_of_answer`. Assumes nothing.
use mathlib.Core.Path.{◌≡◌}
use lib.ListN.{length, take, drop}
use Rattle.field.specs.Bytes.{Bytes, AllBytes}
use Rattle.spec.specs.Answer.{outcome, zeros, Answered}
use Rattle.spec.specs.Demand.{Demand3Bytes}
use Rattle.spec.specs.Kept.{KeptBytes}
use Rattle.spec.proofs.Export.{export_demand3, export_kept, export_behind, export_refused}
use Rattle.transform.specs.declared.Answer.{Answer}
use Rattle.transform.specs.Run.{Answers}

-- the answer and the buffers behind a call, by the contract of `jsx_precompile_transform`
module _ (page options scratch templates_out page_out : Bytes) (a : Answer) (scratch' templates_out' page_out' : Bytes)
    (x : Answers (outcome page options (length scratch) (length templates_out) (length page_out)) scratch templates_out page_out a scratch' templates_out' page_out') where
  pub answered :
      Answered (outcome page options (length scratch) (length templates_out) (length page_out)) templates_out page_out a.number a.templates_bytes a.page_bytes
      a.templates templates_out' page_out'
  answered =
      record {
        number_is = x.number_is;
        templates_bytes_is = x.templates_bytes_is;
        page_bytes_is = x.page_bytes_is;
        templates_is = x.templates_is;
        templates_out_is = x.templates_out_is;
        page_out_is = x.page_out_is;
      }

  -- number 0: all of demand 3, of the bytes up to the written ends
  pub demand3_of_answer : AllBytes page → a.number ≡ 0 → Demand3Bytes (take a.templates_bytes templates_out') (take a.page_bytes page_out') a.templates
  demand3_of_answer all z =
      export_demand3 page options (length scratch) templates_out page_out a.number a.templates_bytes a.page_bytes a.templates templates_out' page_out' answered all z

  -- and 02's A9: each 74 and 79 of the page, outside the four places, stands in page out as often
  pub kept_of_answer : AllBytes page → a.number ≡ 0 → KeptBytes page options (take a.page_bytes page_out')
  kept_of_answer all z =
      export_kept page options (length scratch) templates_out page_out a.number a.templates_bytes a.page_bytes a.templates templates_out' page_out' answered all z

  -- and the bytes behind them stay
  pub behind_of_answer : a.number ≡ 0 →
      (drop a.templates_bytes templates_out' ≡ drop a.templates_bytes templates_out) × (drop a.page_bytes page_out' ≡ drop a.page_bytes page_out)
  behind_of_answer z =
      export_behind page options (length scratch) templates_out page_out a.number a.templates_bytes a.page_bytes a.templates templates_out' page_out' answered z

  -- any other number: zeros
  pub refused_of_answer : (a.number ≡ 0 → ⊥) →
      (a.templates_bytes ≡ 0) × (a.page_bytes ≡ 0) × (a.templates ≡ 0) × (templates_out' ≡ zeros templates_out) × (page_out' ≡ zeros page_out)
  refused_of_answer z =
      export_refused page options (length scratch) templates_out page_out a.number a.templates_bytes a.page_bytes a.templates templates_out' page_out' answered z
