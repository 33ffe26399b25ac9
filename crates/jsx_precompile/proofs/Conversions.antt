-- What a caller of the transform knows, from its answer and buffers alone, of what `jsx_precompile_downgrade` and `jsx_precompile_upgrade` make of
-- its outputs. Main statements: `kinds_of_answer`, `down_and_up_of_answer`. Assumes nothing.
use mathlib.Core.Path.{◌≡◌}
use lib.ListN.{length, take}
use Prim.Native.Nat.{ℕ}
use Rattle.field.specs.Bytes.{Bytes, AllBytes}
use Rattle.field.specs.Row.{read}
use Rattle.field.proofs.NumberLaws.{all_take}
use Rattle.spec.specs.Answer.{outcome}
use Rattle.spec.specs.Demand.{Each84}
use Rattle.spec.proofs.Export.{export_written}
use Rattle.convert.specs.Words.{DownAndUp}
use Rattle.convert.proofs.KindsInPlace.{KindsInPlace, kinds_of_accepted}
use Rattle.convert.proofs.Accepted.{down_and_up_of_accepted}
use Rattle.transform.specs.declared.Answer.{Answer}
use Rattle.transform.specs.Run.{Answers}
use Rattle.jsx_precompile.proofs.Demand.{answered}

module _ (page options scratch templates_out page_out : Bytes) (a : Answer) (scratch' templates_out' page_out' : Bytes)
    (x : Answers (outcome page options (length scratch) (length templates_out) (length page_out)) scratch templates_out page_out a scratch' templates_out' page_out') (all : AllBytes page) where
  -- number 0: the strings of each template give a kind for each gap, which is that of its place
  pub kinds_of_answer : a.number ≡ 0 → Each84 KindsInPlace (read (take a.templates_bytes templates_out'))
  kinds_of_answer z =
      export_written page options (length scratch) templates_out page_out a.number a.templates_bytes a.page_bytes a.templates templates_out' page_out'
      (answered page options scratch templates_out page_out a scratch' templates_out' page_out' x) (λ t p. Each84 KindsInPlace (read t))
      (λ w e. kinds_of_accepted page options (length scratch) (length templates_out) (length page_out) w all e) z

  -- and both outputs go down, wherever there is room, and come up unchanged
  pub down_and_up_of_answer : AllBytes options → AllBytes page_out' → a.number ≡ 0 → (templates_room page_room : ℕ) → DownAndUp (take a.templates_bytes templates_out') (take a.page_bytes page_out') templates_room page_room
  down_and_up_of_answer all_options all_page z tr pr =
      export_written page options (length scratch) templates_out page_out a.number a.templates_bytes a.page_bytes a.templates templates_out' page_out'
      (answered page options scratch templates_out page_out a scratch' templates_out' page_out' x) (λ t p. AllBytes p → DownAndUp t p tr pr)
      (λ w e b. down_and_up_of_accepted page options (length scratch) (length templates_out) (length page_out) w all all_options e b tr pr) z (all_take a.page_bytes page_out' all_page)
