-- Where no field stands in front: the row has ended, or is torn. Main statements: `ended_there`, `torn_there`. Assumes nothing.
use mathlib.Core.Path.{◌≡◌, sym, ap, ◌∙◌}
use mathlib.Core.Logic.{◌⊎◌, inl, inr}
use Prim.Native.Nat.{ℕ, ◌≤◌}
use native.Mathlib.Omega.{arith}
use native.Mathlib.Decide.{dec_le}
use lib.ListN.{length}
use Rattle.std.specs.Prelude.{Option, None}
use Rattle.field.specs.Bytes.{Bytes}
use Rattle.field.specs.Row.{end, loose, inside, read}
use Rattle.field.specs.Header.{header_of}
use Rattle.field.specs.declared.reader.Header.{Header}
use Rattle.page.specs.Check.{check_nothing_after}
use Rattle.refusal.specs.Refusal.{Verdict, Fine, Refused}
use Rattle.refusal.specs.declared.Refusal.{Refusal}
use Rattle.refusal.specs.declared.Refusal.TheVariants as R
use Rattle.loops.proofs.Headers.{read_empty, read_torn}

module _ (b : Bytes) {v : Option Header} (q : v ≡ header_of b) (x : v ≡ None) where
  -- what the row reads as
  pub unread : ((length b ≡ 0) × (read b ≡ end)) ⊎ ((length b ≡ 0 → ⊥) × (read b ≡ loose b))
  unfolding read
  unread = on (dec_le 1 (length b))
    where
      on : Dec (1 ≤ length b) → ((length b ≡ 0) × (read b ≡ end)) ⊎ ((length b ≡ 0 → ⊥) × (read b ≡ loose b))
      on (yes l) = let z : length b ≡ 0 → ⊥ = λ e. omega arith in inr (z, read_torn inside b q x z)
      on (no l) = let z : length b ≡ 0 = omega arith in inl (z, read_empty inside b z)

  module _ {r : Verdict} (g : r ≡ check_nothing_after (read b)) where
    pub ended_there : r ≡ Fine → length b ≡ 0
    unfolding check_nothing_after
    ended_there f = on unread
      where
        on : ((length b ≡ 0) × (read b ≡ end)) ⊎ ((length b ≡ 0 → ⊥) × (read b ≡ loose b)) → length b ≡ 0
        on (inl z) = z.0
        on (inr z) = absurd (let e : Fine ≡ Refused R.Truncated = sym f ∙ g ∙ ap check_nothing_after z.1 in let k : ◌≡◌ {A = ℕ} 0 1 = cc in omega arith)

    pub torn_there : {n : Refusal} → r ≡ Refused n → (length b ≡ 0 → ⊥) × (n ≡ R.Truncated)
    unfolding check_nothing_after
    torn_there {n} f = on unread
      where
        on : ((length b ≡ 0) × (read b ≡ end)) ⊎ ((length b ≡ 0 → ⊥) × (read b ≡ loose b)) → (length b ≡ 0 → ⊥) × (n ≡ R.Truncated)
        on (inl z) = absurd (let e : Fine ≡ Refused n = sym (sym f ∙ g ∙ ap check_nothing_after z.1) in let k : ◌≡◌ {A = ℕ} 0 1 = cc in omega arith)
        on (inr z) = let e : Refused n ≡ Refused R.Truncated = sym f ∙ g ∙ ap check_nothing_after z.1 in (z.0, cc)
