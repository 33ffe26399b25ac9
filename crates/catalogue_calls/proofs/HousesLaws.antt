-- What houses have used, added up page by page. Main statements: `house_below`, `using_one`, `using_all`. Assumes nothing.
use Prim.Native.Nat.{ℕ, ◌+◌, ◌≤◌, ◌<◌}
use mathlib.Core.Path.{◌≡◌, ap, ◌∙◌}
use mathlib.Core.Bool.{Bool, true, false}
use mathlib.Core.List.{List}
use mathlib.Core.Logic.{◌⊎◌, inl, inr}
use native.Mathlib.Omega.{arith}
use lib.Dec.{eqb}
use lib.ListN.{length, get_or, set}
use Rattle.std.proofs.Math.ListN.{length-set}
use Rattle.std.proofs.lemmas.List.{get_or-set_same, get_or-set_other}
use Rattle.std.proofs.lemmas.Bool.{cases_Bool}
use borrow.Author.Tests.{eqb-true, eqb-false}
use Rattle.field.specs.Bytes.{Bytes, pick}
use Rattle.catalogue_calls.specs.Houses.{UsedIn}
use Rattle.catalogue_calls.specs.Standing.{framed, IsPage, used_in}
use Rattle.catalogue_calls.proofs.FrameLaws.{used_next, used_end}
use Rattle.catalogue_calls.proofs.PageLaws.{frame}

-- so far, with r left
pub record Using (s : Bytes) (used : List ℕ) (r : Bytes) : Type 0 where
  pub houses : length used ≡ 17
  pub so_far : (h : ℕ) → h ≤ 16 → used_in h s ≡ get_or used h 0 + used_in h r
  pub bounded : (h : ℕ) → get_or used h 0 + length r ≤ length s

pub house_below : {s t p r : Bytes} {m h : ℕ} → IsPage s m h t p r → h < 17
house_below {s} i = let f = frame s i.is_framed in omega (arith, f.house_most, i.house_is)

pub using_one : {s t p rest r : Bytes} {used : List ℕ} {m h : ℕ} → Using s used rest → IsPage rest m h t p r → (n : ℕ) → n ≡ get_or used h 0 + (14 + length t + length p) → Using s (set used h n) r
using_one {s} {t} {p} {rest} {r} {used} {m} {h} u i n e =
    let l : h < length used = omega (arith, house_below i, u.houses) in
    record {
      houses = length-set used h n ∙ u.houses;
      so_far = λ g k. omega (arith, u.so_far g k, used_next i g, at g l (cases_Bool (eqb g h)));
      bounded = λ g. bound g l (cases_Bool (eqb g h));
    }
  where
    at : (g : ℕ) → h < length used → (eqb g h ≡ true) ⊎ (eqb g h ≡ false) → get_or (set used h n) g 0 ≡ get_or used g 0 + pick (eqb g h) (14 + length t + length p) 0
    at g l (inl q) =
        let f : g ≡ h = eqb-true g h q in
        rw q (rw f (get_or-set_same used h n 0 l ∙ e))
    at g l (inr q) = rw q (get_or-set_other used h g n 0 (eqb-false g h q) ∙ omega arith)

    bound : (g : ℕ) → h < length used → (eqb g h ≡ true) ⊎ (eqb g h ≡ false) → get_or (set used h n) g 0 + length r ≤ length s
    bound g l (inl q) =
        let a : get_or (set used h n) g 0 ≡ get_or used g 0 + (14 + length t + length p) = at g l (inl q) ∙ ap (λ (b : Bool). get_or used g 0 + pick b (14 + length t + length p) 0) q in
        omega (arith, a, u.bounded g, i.sizes)
    bound g l (inr q) =
        let a : get_or (set used h n) g 0 ≡ get_or used g 0 = get_or-set_other used h g n 0 (eqb-false g h q) in
        omega (arith, a, u.bounded g, i.sizes)

pub using_all : {s r : Bytes} {used : List ℕ} → Using s used r → framed r ≡ false → UsedIn s used
using_all {s} {r} u e h l = omega (arith, u.so_far h l, used_end r e h)
