-- What both outs' trees want of rows, names and numbers. Main statements: `sayable`, `members_of`, `parts_of`, `number_below`, `number_back`,
-- `two_first`, `two_fifth`, `four_first`, `front_at`. Assumes nothing.
use mathlib.Core.Path.{◌≡◌, sym, ap, ◌∙◌, subst}
use mathlib.Core.Bool.{Bool, false, not}
use Prim.Native.Nat.{ℕ, ◌+◌, ◌^◌, ◌%◌, ◌≤◌, ◌<◌}
use native.Mathlib.Omega.{arith}
use native.Mathlib.Nat.{one-le-pow, zero-lt-suc}
use mathlib.Core.List.{List, [], ◌∷◌}
use lib.Dec.{T}
use lib.ListN.{length, take, drop, get_or}
use Rattle.std.specs.Int.{w16, w32, from_be_bytes}
use Rattle.std.proofs.lemmas.Nat.{mod_below}
use Rattle.field.specs.Bytes.{Bytes, AllBytes}
use Rattle.field.specs.Number.{big_endian, number_of, number_from}
use Rattle.field.specs.Row.{Row, long_body, counted_front}
use Rattle.field.proofs.NumberLaws.{big_endian_read, big_endian_back}
use Rattle.page.specs.Limits.{MembersOk}
use Rattle.outs.specs.Tree.{PartsOk}
use Rattle.outs.specs.Encode.{Sayable}

-- ---- lengths

pub sayable : (x : Row) → long_body x ≡ false → Sayable x
sayable x e = subst (λ (b : Bool). T (not b)) (sym e) tt

-- ---- the 40s of a 41, whose depth in a page out is 1

pub members_of : (ns : List Bytes) → PartsOk ns → MembersOk 1 ns
unfolding PartsOk MembersOk
members_of [] h = tt
members_of (n ∷ ns) h = (tt, h.0, members_of ns h.1)

pub parts_of : (ns : List Bytes) (d : ℕ) → MembersOk d ns → PartsOk ns
unfolding PartsOk MembersOk
parts_of [] d h = tt
parts_of (n ∷ ns) d h = (h.1, parts_of ns d h.2)

-- ---- numbers

pub number_below : (f : Bytes) (k : ℕ) → AllBytes f → length f ≡ k → number_of f < 256 ^ k
number_below f k a l =
    let e : number_of f % 256 ^ length f ≡ number_of f = sym (big_endian_read (length f) (number_of f)) ∙ ap number_of (big_endian_back f a) in
    subst (λ (m : ℕ). number_of f < 256 ^ m) l (subst (λ (n : ℕ). n < 256 ^ length f) e (mod_below (number_of f) (256 ^ length f) (one-le-pow (length f) 256 (zero-lt-suc 255))))

pub number_back : (f : Bytes) (k : ℕ) → AllBytes f → length f ≡ k → big_endian k (number_of f) [] ≡ f
number_back f k a l = subst (λ (m : ℕ). big_endian m (number_of f) [] ≡ f) l (big_endian_back f a)

-- of the first bytes, as code takes them one by one
pub two_first : (s : Bytes) → 2 ≤ length s → {n : ℕ} → n ≡ from_be_bytes w16 (get_or s 0 0 ∷ get_or s 1 0 ∷ []) → n ≡ number_of (take 2 s)
unfolding number_from
two_first (a ∷ b ∷ s) l e = omega arith
two_first _ l e = absurd (omega arith)

pub two_fifth : (s : Bytes) → 6 ≤ length s → {n : ℕ} → n ≡ from_be_bytes w16 (get_or s 4 0 ∷ get_or s 5 0 ∷ []) → n ≡ number_of (take 2 (drop 4 s))
two_fifth (a ∷ b ∷ c ∷ d ∷ s) l e = two_first s (omega arith) e
two_fifth _ l e = absurd (omega arith)

pub four_first : (s : Bytes) → 4 ≤ length s → {n : ℕ} → n ≡ from_be_bytes w32 (get_or s 0 0 ∷ get_or s 1 0 ∷ get_or s 2 0 ∷ get_or s 3 0 ∷ []) → n ≡ number_of (take 4 s)
unfolding number_from
four_first (a ∷ b ∷ c ∷ d ∷ s) l e = omega arith
four_first _ l e = absurd (omega arith)

pub front_at : (w : Bytes) → 6 ≤ length w → {n : ℕ} → n ≡ from_be_bytes w16 (get_or w 4 0 ∷ get_or w 5 0 ∷ []) → 6 + n ≡ counted_front 4 w
front_at w l e = ap (λ (x : ℕ). 6 + x) (two_fifth w l e)
