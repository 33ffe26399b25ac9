-- A tag that `jsx_precompile_read_tag` accepts is one that `jsx_precompile_transform` takes: a page of one statement that holds its field as it stands
-- in the buffer is refused for nothing that is read, only for what would be written. Main statement: `transform_takes`. Assumes nothing.
use Prim.Native.Nat.{ℕ, ◌≤◌}
use mathlib.Core.Path.{◌≡◌, refl, sym, ◌∙◌, ap, subst}
use mathlib.Core.Logic.{◌⊎◌, inl, inr}
use lib.ListN.{length, take}
use Rattle.field.specs.Bytes.{Bytes}
use Rattle.field.specs.Row.{read}
use Rattle.page.specs.Check.{check_options}
use Rattle.refusal.specs.Refusal.{Fine, refusal_number}
use Rattle.refusal.specs.declared.Refusal.{Refusal}
use Rattle.spec.specs.Answer.{Outcome, refused, accepted, outcome, number}
use Rattle.spec.proofs.Accept.{never_early}
use Rattle.tag_tree.specs.PageTag.{page_tag}
use Rattle.tag_tree.proofs.TagExact.{tag_page}
use Rattle.tag_pass.specs.Answers.{TagAnswers}
use Rattle.tag_pass.specs.declared.answer.TagAnswer.{TagAnswer}
use Rattle.tag_pass.proofs.Caller.{page_of_field, answers_0_exactly, page_written, page_within}
use Rattle.transform.specs.declared.Answer.{Answer}
use Rattle.transform.specs.Run.{Answers}

late : (x : Outcome) → ((n : Refusal) → x ≡ refused n → 10 ≤ refusal_number n) → (number x ≡ 0) ⊎ (10 ≤ number x)
unfolding number
late (refused n) h = inr (h n refl)
late (accepted w) h = inl refl

-- the answer and the buffer behind a call, by the contract of `jsx_precompile_read_tag`, and those behind a call of the transform with that page and
-- options that are taken
module _ (text out : Bytes) (a : TagAnswer) (out' : Bytes) (x : TagAnswers text out a out')
    (options scratch templates_out page_out : Bytes) (b : Answer) (scratch' templates_out' page_out' : Bytes)
    (y : Answers (outcome (page_of_field (take a.tag_bytes out')) options (length scratch) (length templates_out) (length page_out)) scratch templates_out page_out b scratch' templates_out' page_out') where
  -- none of 1 to 9
  pub transform_takes : a.number ≡ 0 → length (page_of_field (take a.tag_bytes out')) ≤ 32768 → length options ≤ 4096 → check_options (read options) ≡ Fine → 65536 ≤ length scratch → (b.number ≡ 0) ⊎ (10 ≤ b.number)
  transform_takes z l short fine enough =
      let w = (answers_0_exactly text out a out' x).0 z in
      let e = page_written text out a out' x w.0 w.1 in
      let h = page_within text out a out' x w.0 w.1 l in
      let o : Outcome = outcome (page_of_field (take a.tag_bytes out')) options (length scratch) (length templates_out) (length page_out) in
      subst (λ (k : ℕ). (k ≡ 0) ⊎ (10 ≤ k)) (sym y.number_is)
      (late o
      (λ n q.
      never_early (tag_page (page_tag w.0)) h options short fine (length scratch) enough (length templates_out) (length page_out) n
      (ap (λ (p : Bytes). outcome p options (length scratch) (length templates_out) (length page_out)) e ∙ q)))
