-- What the tests of the code say of an import. Main statements: `import_other`, `import_text`, `import_missing`. Assumes nothing.
use mathlib.Core.Path.{◌≡◌, refl, sym, ap, ◌∙◌, subst}
use Prim.Native.Nat.{ℕ}
use native.Mathlib.Omega.{arith}
use lib.Dec.{eqb}
use borrow.Author.Tests.{eq-eqb, ne_eqb}
use Rattle.field.specs.Bytes.{Bytes}
use Rattle.field.specs.Row.{Inside, only_bytes, fields_after, counted, inside, Next, nothing, no_field, next, next_of, opened, built, read, Ended}
use Rattle.field.specs.Fields.{IsFront, IsEnd}
use Rattle.field.proofs.FrontLaws.{next_at}
use Rattle.field.proofs.RowLaws.{read_step}
use Rattle.page.specs.Check.{check_text}
use Rattle.page.specs.CheckField.{check_missing}
use Rattle.refusal.specs.Refusal.{Refused, after, unless}
use Rattle.refusal.specs.declared.Refusal.TheVariants as R
use Rattle.page.proofs.Steps.{Then}
use Rattle.outs.specs.PageOut.{check_sum, check_import}

module _ {s : Bytes} {t : ℕ} {w r : Bytes} (f : IsFront s t w r) where
  import_is : check_import (next_of s) ≡ after (unless (eqb t 0x81) R.Misplaced) λ _. after (check_text w) λ _. check_sum r
  unfolding check_import
  import_is = ap check_import (next_at s t f.tag_is (λ z. omega (arith, f.tag_below))) ∙ rw (f.body_is, f.behind_is) refl

  pub import_other : (t ≡ 0x81 → ⊥) → Refused R.Misplaced ≡ check_import (next_of s)
  unfolding after
  import_other n = sym (import_is ∙ rw (ne_eqb t 0x81 n))

  pub import_text : t ≡ 0x81 → Then (check_import (next_of s)) (check_text w) (check_sum r)
  unfolding after
  import_text k = record { then_is = import_is ∙ rw (eq-eqb t 0x81 k) refl }

pub import_missing : {s r : Bytes} → IsEnd s r → check_missing (read s) ≡ check_import (next_of s)
unfolding check_missing check_import built opened
import_missing {s} e = ap check_missing (read_step s) ∙ on (next_of s) (subst Ended (read_step s) e.ended)
  where
    absent : (t : ℕ) (w r : Bytes) (c : Inside) → Ended (opened c read t w r) → ⊥
    absent t w r only_bytes x = x
    absent t w r (fields_after n) x = x
    absent t w r (counted n) x = x

    on : (n : Next) → Ended (built read s n) → check_missing (built read s n) ≡ check_import n
    on nothing x = refl
    on no_field x = refl
    on (next t w r) x = absurd (absent t w r (inside t) x)
