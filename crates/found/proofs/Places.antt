-- Bytes that stand within others, and where; what the code found in front. Main statements: `stands_part`, `stands_in`, `stands_of`,
-- `tail_of`, `body_in`, `stands_body`, `stands_behind`; `front_is`, `front_none`. Assumes nothing.
use Rattle.std.specs.Prelude.{Option, Some, None}
use mathlib.Core.Path.{◌≡◌, refl, sym, ap, ◌∙◌, subst}
use Prim.Native.Nat.{ℕ, ◌+◌, ◌-◌, ◌≤◌}
use native.Mathlib.Omega.{arith}
use mathlib.Core.List.{[], ◌∷◌, ◌++◌, append_assoc, append-nil}
use mathlib.Core.Bool.{Bool, true, false, false≢true}
use lib.Dec.{eqb}
use borrow.Author.Tests.{eqb-true, eq-eqb}
use lib.ListN.{length, take, drop, length-append, length-drop, take-append-drop}
use lib.Seq.{take_at, drop_at, take_all, length-take-le}
use Rattle.field.specs.Bytes.{Bytes}
use Rattle.field.specs.Front.{tag_of_front, body_of, behind_of}
use Rattle.field.specs.Fields.{IsFront, IsEnd, FieldAt}
use Rattle.field.specs.declared.reader.Field.{Field}
use Rattle.field.proofs.RowLaws.{next_parts}
use Rattle.field.proofs.FrontLaws.{next_at}

-- b stands in s from n on
pub record Stands (s : Bytes) (n : ℕ) (b : Bytes) : Type 0 where
  pub front : Bytes
  pub back : Bytes
  pub all_is : s ≡ front ++ (b ++ back)
  pub front_is : length front ≡ n

-- and up to the end
abbrev pub Tail : Bytes → Bytes → Type 0
Tail s t = Stands s (length s - length t) t

pub stands_all : (s : Bytes) → Stands s 0 s
stands_all s = record { front = []; back = []; all_is = sym (append-nil s); front_is = refl }

module _ (s : Bytes) (n : ℕ) (b : Bytes) (a : Stands s n b) where
  pub stands_room : n + length b ≤ length s
  stands_room = omega (arith, ap length a.all_is, length-append a.front (b ++ a.back), length-append b a.back, a.front_is)

  pub stands_part : take (length b) (drop n s) ≡ b
  stands_part =
      ap (λ (x : Bytes). take (length b) (drop n x)) a.all_is
      ∙ (ap (take (length b)) (drop_at a.front (b ++ a.back) n a.front_is) ∙ take_at b a.back (length b) refl)

  pub stands_in : (m : ℕ) (c : Bytes) → Stands b m c → Stands s (n + m) c
  stands_in m c d =
      record {
        front = a.front ++ d.front;
        back = d.back ++ a.back;
        all_is =
            a.all_is
            ∙ (ap (λ (x : Bytes). a.front ++ (x ++ a.back)) d.all_is
            ∙ (ap (λ (x : Bytes). a.front ++ x) (append_assoc d.front (c ++ d.back) a.back ∙ ap (λ (x : Bytes). d.front ++ x) (append_assoc c d.back a.back))
            ∙ sym (append_assoc a.front d.front (c ++ (d.back ++ a.back)))));
        front_is = omega (arith, length-append a.front d.front, a.front_is, d.front_is);
      }

-- a place, and its bytes
module _ (s : Bytes) (n m : ℕ) (h : n + m ≤ length s) where
  pub length_part : length (take m (drop n s)) ≡ m
  length_part = length-take-le m (drop n s) (omega (arith, length-drop n s))

  pub stands_of : Stands s n (take m (drop n s))
  stands_of =
      record {
        front = take n s;
        back = drop m (drop n s);
        all_is = sym (ap (λ (x : Bytes). take n s ++ x) (take-append-drop m (drop n s)) ∙ take-append-drop n s);
        front_is = length-take-le n s (omega arith);
      }

-- what stands at a place
pub part_is : (s : Bytes) (n m : ℕ) (b : Bytes) → Stands s n b → length b ≡ m → take m (drop n s) ≡ b
part_is s n m b a e = ap (λ (k : ℕ). take k (drop n s)) (sym e) ∙ stands_part s n b a

-- ---- a field in front

-- what the code found, and where it found none
pub front_is : {s : Bytes} {o : Option Field} {f : Field} → FieldAt s o → o ≡ Some f → IsFront s f.tag f.body.now (behind_of s)
front_is {s} h e = subst (FieldAt s) e h

pub front_none : {s : Bytes} {o : Option Field} → FieldAt s o → o ≡ None → IsEnd s s
front_none {s} h e = subst (FieldAt s) e h

-- a tag is a byte
pub not_none : {t b r : Bytes} {u : ℕ} → IsFront t u b r → u ≡ 256 → ⊥
not_none f z = omega (arith, f.tag_below)

module _ (t : Bytes) (u : ℕ) (e : u ≡ tag_of_front t) (h : u ≡ 256 → ⊥) where
  pub body_here : Stands t 3 (body_of t)
  body_here =
      let p = next_parts t u (body_of t) (behind_of t) (next_at t u e h) in
      record { front = u ∷ p.high ∷ p.low ∷ []; back = behind_of t; all_is = p.all_is; front_is = refl }

  pub behind_here : Stands t (3 + length (body_of t)) (behind_of t)
  behind_here =
      let p = next_parts t u (body_of t) (behind_of t) (next_at t u e h) in
      record {
        front = u ∷ p.high ∷ p.low ∷ body_of t;
        back = [];
        all_is = p.all_is ∙ ap (λ (x : Bytes). u ∷ p.high ∷ p.low ∷ (body_of t ++ x)) (sym (append-nil (behind_of t)));
        front_is = omega arith;
      }

-- the body of a field that stands at a place
pub body_in : (s : Bytes) (n : ℕ) (t : Bytes) → Stands s n t → {u : ℕ} {b r : Bytes} → IsFront t u b r → Stands s (n + 3) b
body_in s n t a {u} {b} f = subst (Stands s (n + 3)) (sym f.body_is) (stands_in s n t a 3 (body_of t) (body_here t u f.tag_is (not_none f)))

-- ---- what is left of a series

pub tail_all : (s : Bytes) → Tail s s
tail_all s = subst (λ (n : ℕ). Stands s n s) (let k : 0 ≡ length s - length s = omega arith in k) (stands_all s)

module _ (s t : Bytes) (a : Tail s t) where
  pub tail_room : length t ≤ length s
  tail_room = omega (arith, stands_room s (length s - length t) t a)

  module _ {u : ℕ} {b r : Bytes} (f : IsFront t u b r) where
    pub stands_body : Stands s ((length s - length t) + 3) b
    stands_body = body_in s (length s - length t) t a f

    pub stands_behind : Tail s r
    stands_behind =
        let k : (length s - length t) + (3 + length (body_of t)) ≡ length s - length (behind_of t) = omega (arith, tail_room, f.sizes, ap length f.body_is, ap length f.behind_is) in
        subst (λ (x : Bytes). Tail s x) (sym f.behind_is) (subst (λ (n : ℕ). Stands s n (behind_of t)) k (stands_in s (length s - length t) t a (3 + length (body_of t)) (behind_of t) (behind_here t u f.tag_is (not_none f))))

-- the rest from a place on
pub tail_of : (s t : Bytes) → t ≡ drop (length s - length t) s → Tail s t
tail_of s t p =
    let n : ℕ = length s - length t in
    subst (Stands s n) (take_all (length s - n) (drop n s) (omega (arith, length-drop n s)) ∙ sym p) (stands_of s n (length s - n) (omega arith))

-- ---- the test for no bytes

pub no_bytes : {b : Bool} {n : ℕ} → b ≡ eqb n 0 → b ≡ true → n ≡ 0
no_bytes {b} {n} e h = eqb-true n 0 (sym e ∙ h)

pub some_bytes : {b : Bool} {n : ℕ} → b ≡ eqb n 0 → b ≡ false → n ≡ 0 → ⊥
some_bytes {b} {n} e h z = false≢true (sym h ∙ e ∙ eq-eqb n 0 z)
