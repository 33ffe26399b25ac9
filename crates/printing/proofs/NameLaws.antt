-- Names with points between, and the number in a template's name.
-- Main statements: `pointed_on`, `pointed_more_on`, `pointed_end`, `pointed_more_end`, `four_in`. Assumes nothing.
use mathlib.Core.Path.{◌≡◌, refl, sym, ap, ◌∙◌}
use Prim.Native.Nat.{ℕ, ◌≤◌, ◌<◌}
use native.Mathlib.Omega.{arith}
use mathlib.Core.List.{[], ◌∷◌, ◌++◌}
use lib.ListN.{length, take}
use lib.Seq.{take_all, length-take-le}
use mathlib.Core.Logic.{◌⊎◌, inl, inr}
use denote.Ref.{Bor}
use Rattle.std.specs.Prelude.{Option, Some, None}
use Rattle.std.specs.Option.{unwrap_or}
use Rattle.std.specs.Slice.{IsGetRangeResult}
use Rattle.field.specs.Bytes.{Bytes}
use Rattle.field.specs.Number.{number_of}
use Rattle.field.specs.Row.{Row, end, loose, field, read, Ended}
use Rattle.field.specs.Fields.{IsFront}
use Rattle.printing.specs.Front.{front_in, inner_in}
use Rattle.printing.specs.Card.{pointed, pointed_more}
use Rattle.printing.proofs.FrontLaws.{row_here}

module _ {s : Bytes} {t : ℕ} {w r : Bytes} (g : IsFront s t w r) {f : Bytes} (e : f ≡ front_in t w) where
  row_is : read s ≡ field t f (read (inner_in t w)) (read r)
  row_is = row_here s g.tag_is g.body_is (λ z. omega (arith, g.tag_below, z)) g.behind_is ∙ ap (λ (x : Bytes). field t x (read (inner_in t w)) (read r)) (sym e)

  pub pointed_on : pointed (read s) ≡ f ++ pointed_more (read r)
  unfolding pointed
  pointed_on = ap pointed row_is

  pub pointed_more_on : pointed_more (read s) ≡ (46 ∷ f) ++ pointed_more (read r)
  unfolding pointed_more
  pointed_more_on = ap pointed_more row_is

pub pointed_end : (x : Row) → Ended x → pointed x ≡ []
unfolding pointed
pointed_end end i = refl
pointed_end (loose b) i = refl
pointed_end (field t f y r) i = absurd i

pub pointed_more_end : (x : Row) → Ended x → pointed_more x ≡ []
unfolding pointed_more
pointed_more_end end i = refl
pointed_more_end (loose b) i = refl
pointed_more_end (field t f y r) i = absurd i

-- the number of a front of four bytes and more, and of a shorter one
four_long : (f : Bytes) → 4 ≤ length f → number_of (take 8 (take 4 f)) ≡ number_of (take 4 f)
four_long f h = ap number_of (take_all 8 (take 4 f) (omega (arith, length-take-le 4 f h)))

four_short : (f : Bytes) → length f < 4 → number_of (take 8 f) ≡ number_of (take 4 f)
four_short f h = ap number_of (take_all 8 f (omega arith) ∙ sym (take_all 4 f (omega arith)))

-- as the code takes them: the first four, or all where there are fewer
pub four_in : (b : Bor Bytes) (o : Option (Bor Bytes)) → IsGetRangeResult b.now 0 4 o → number_of (take 8 (unwrap_or o b).now) ≡ number_of (take 4 b.now)
four_in b None m = four_short b.now (short m.0)
  where
    short : (4 < 0) ⊎ (length b.now < 4) → length b.now < 4
    short (inl h) = absurd (omega (arith, h))
    short (inr h) = h
four_in b (Some p) m = ap (λ (w : Bytes). number_of (take 8 w)) m.0.2 ∙ four_long b.now m.0.1
