-- The two tests of room, by the bytes that the houses have used. Main statements: `others_are`, `others_same`, `most_is`, `shares_long`, `over`,
-- `uncovered`, `covered`. Assumes nothing.
use Prim.Native.Nat.{ℕ, zero, suc, ◌+◌, ◌-◌, ◌*◌, ◌≤◌, ◌<◌}
use mathlib.Core.Path.{◌≡◌, refl, sym, ap, ◌∙◌}
use mathlib.Core.Bool.{Bool, true, false}
use mathlib.Core.List.{List}
use mathlib.Core.Logic.{◌⊎◌, inl, inr}
use native.Mathlib.Omega.{arith}
use lib.Dec.{leb, eqb}
use lib.ListN.{length, get_or}
use Rattle.std.specs.Prelude.{Ok, Err}
use Rattle.std.proofs.lemmas.Bool.{cases_Bool}
use borrow.Author.Tests.{le-leb, leb-true, eq-eqb, eqb-true, lt-leb}
use Rattle.field.specs.Bytes.{Bytes, AllBytes, pick}
use Rattle.catalogue.specs.Page.{Page}
use Rattle.catalogue.specs.Catalogue.{pages, read_catalogue}
use Rattle.catalogue.specs.Shares.{Shares, total, each, but, used, unused, unused_of_others, shares_right}
use Rattle.catalogue.specs.Calls.{Outcome, unless}
use Rattle.catalogue.proofs.Tests.{not_both}
use Rattle.catalogue.proofs.Sums.{total_but_same}
use Rattle.catalogue_calls.specs.Standing.{housed, used_in}
use Rattle.catalogue_calls.specs.Answer.{shares_of}
use Rattle.catalogue_calls.specs.Houses.{UsedIn, unused_by}
use Rattle.catalogue_calls.specs.Arrives.{RoomIn}
use Rattle.catalogue_calls.specs.declared.answer.Unkept.TheVariants as U
use Rattle.catalogue_calls.proofs.UsedLaws.{used_are}

-- ---- used

pub others_are : (b : Bytes) (ps : List Page) → AllBytes b → read_catalogue housed b ≡ pages ps → (s : Shares) (h : ℕ) → unused_of_others housed s ps h ≡ total (but h (λ k. s.guarantee k - used_in k b)) 16
unfolding unused
others_are b ps a e s h = total_but_same h (unused housed s ps) (λ k. s.guarantee k - used_in k b) 16 (λ i n. ap (λ (j : ℕ). s.guarantee i - j) (sym (used_are b ps a e i)))

-- ---- the shares that are handed over

total_up_to : (f g : ℕ → ℕ) (k : ℕ) → ((i : ℕ) → i ≤ k → f i ≡ g i) → total f k ≡ total g k
unfolding total
total_up_to f g zero e = refl
total_up_to f g (suc k) e = omega (arith, total_up_to f g k (λ i l. e i (omega arith)), e (suc k) (omega arith))

pub others_same : (b : Bytes) (ns used : List ℕ) (h : ℕ) → UsedIn b used → total (but h (unused_by ns used)) 16 ≡ total (but h (λ k. (shares_of ns).guarantee k - used_in k b)) 16
unfolding but
others_same b ns used h u = total_up_to (but h (unused_by ns used)) (but h (λ k. (shares_of ns).guarantee k - used_in k b)) 16 (λ i l. ap (λ (j : ℕ). pick (eqb i h) 0 ((shares_of ns).guarantee i - j)) (u i l))

pub most_is : (ns : List ℕ) (h : ℕ) → length ns ≡ 32 → (shares_of ns).most h ≡ get_or ns (2 * h - 1) 0
unfolding shares_of
most_is ns h l =
    let i : h + h - 1 ≡ 2 * h - 1 = omega arith in
    ap (λ (t : Bool). (pick {A = Shares} t (record { guarantee = λ k. get_or ns (k + k - 2) 0; most = λ k. get_or ns (k + k - 1) 0 }) (record { guarantee = λ k. 1; most = λ k. 0 })).most h) (eq-eqb (length ns) 32 l)
    ∙ ap (λ (j : ℕ). get_or ns j 0) i

-- shares that are right are 32 numbers
pub shares_long : (n : ℕ) (ns : List ℕ) → shares_right n (shares_of ns) ≡ true → length ns ≡ 32
unfolding shares_right shares_of each
shares_long n ns e = on (cases_Bool (eqb (length ns) 32))
  where
    none : Shares
    none = record { guarantee = λ k. 1; most = λ k. 0 }

    some : Shares
    some = record { guarantee = λ k. get_or ns (k + k - 2) 0; most = λ k. get_or ns (k + k - 1) 0 }

    on : (eqb (length ns) 32 ≡ true) ⊎ (eqb (length ns) 32 ≡ false) → length ns ≡ 32
    on (inl t) = eqb-true (length ns) 32 t
    on (inr t) = not_both (shares_right n none) (sym (ap (λ (b : Bool). shares_right n (pick b some none)) t) ∙ e) refl

-- ---- the tests

module _ (b : Bytes) (n h size : ℕ) (s : Shares) where
  abbrev others : ℕ
  others = total (but h (λ k. s.guarantee k - used_in k b)) 16

  abbrev second : Outcome → Outcome
  second o = unless (leb (n + size + others) (length b)) 25 o

  pub over : s.most h < used_in h b + size → RoomIn b n h s size (Err U.OverMost)
  unfolding unless
  over l o = ap (λ (t : Bool). unless t 24 (second o)) (lt-leb (used_in h b + size) (s.most h) l)

  module _ (f : used_in h b + size ≤ s.most h) where
    first : (o : Outcome) → unless (leb (used_in h b + size) (s.most h)) 24 o ≡ o
    unfolding unless
    first o = ap (λ (t : Bool). unless t 24 o) (le-leb (used_in h b + size) (s.most h) f)

    pub uncovered : length b < n + size + others → RoomIn b n h s size (Err U.Uncovered)
    unfolding unless
    uncovered l o = first (second o) ∙ ap (λ (t : Bool). unless t 25 o) (lt-leb (n + size + others) (length b) l)

    pub covered : n + size + others ≤ length b → RoomIn b n h s size (Ok tt)
    unfolding unless
    covered l o = first (second o) ∙ ap (λ (t : Bool). unless t 25 o) (le-leb (n + size + others) (length b) l)
