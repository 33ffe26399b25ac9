-- What writing a row does: to the buffer, to the place behind what is written, and to whether a body was too long or a number too wide.
-- Main statements: `does_end`, `does_loose`, `does_leaf`, `does_field`, `does_all`. Assumes nothing.
use mathlib.Core.Path.{◌≡◌, refl, sym, ap, ap₂, ◌∙◌}
use mathlib.Core.Bool.{Bool, true, false, ◌&&◌, ◌||◌}
use Prim.Native.Nat.{ℕ, ◌+◌, ◌-◌, ◌≤◌}
use native.Mathlib.Omega.{arith}
use mathlib.Core.List.{◌++◌}
use lib.Dec.{ltb, eqb}
use lib.ListN.{length, length-append}
use borrow.Author.Tests.{ne_eqb, le-ltb}
use Rattle.std.proofs.Math.Bool.{or-false}
use Rattle.field.specs.Bytes.{Bytes}
use Rattle.field.specs.Row.{Row, end, loose, field, field_bytes, bytes, long_body}
use Rattle.field.specs.Number.{big_endian, number_of}
use Rattle.field.specs.Put.{put, head}
use Rattle.field.proofs.PutLaws.{put_nil, put_put, put_back, length_field_bytes}
use Rattle.outs.specs.Renumber.{renumbered_front, renumbered, has_wide, Renumbers}

pub record World : Type 0 where
  pub out : Bytes
  pub at : ℕ
  pub long : Bool
  pub wide : Bool

world_is : {o o' : Bytes} {n n' : ℕ} {l l' v v' : Bool} → o ≡ o' → n ≡ n' → l ≡ l' → v ≡ v'
    → ◌≡◌ {A = World} (record { out = o; at = n; long = l; wide = v }) (record { out = o'; at = n'; long = l'; wide = v' })
world_is e f g h = cc

-- the number of a call is over 65,535
abbrev pub over : ℕ → Bytes → Bool
over t f = eqb t 0x90 && ltb 65535 (number_of f)

-- what the row x does
unfoldable pub does : ℕ → Row → World → World
does to x w =
    record {
      out = put w.out w.at (bytes (renumbered to x));
      at = w.at + length (bytes (renumbered to x));
      long = w.long || long_body (renumbered to x);
      wide = w.wide || has_wide x;
    }

-- some bytes are written
unfoldable pub writes : Bytes → World → World
writes b w = record { out = put w.out w.at b; at = w.at + length b; long = w.long; wide = w.wide }

-- a field begins: room is left for its head
unfoldable pub enters : ℕ → ℕ → Bytes → World → World
enters to t f w =
    record {
      out = put w.out (w.at + 3) (renumbered_front to t f);
      at = w.at + 3 + length (renumbered_front to t f);
      long = w.long;
      wide = w.wide || over t f;
    }

-- its body has ended: its head is put in at m
unfoldable pub leaves : ℕ → ℕ → World → World
leaves t m w =
    record {
      out = put w.out m (head t (w.at - m - 3));
      at = w.at;
      long = w.long || ltb 65535 (w.at - m - 3);
      wide = w.wide;
    }

-- ---- tests

or_row : (l a b c : Bool) → l || (a || (b || c)) ≡ ((l || b) || a) || c
or_row true a b c = refl
or_row false true true c = refl
or_row false true false c = refl
or_row false false true c = refl
or_row false false false c = refl

or_four : (l a b c : Bool) → l || (a || (b || c)) ≡ ((l || a) || b) || c
or_four true a b c = refl
or_four false true b c = refl
or_four false false true c = refl
or_four false false false c = refl

-- ---- rows

pub does_end : (to : ℕ) (w : World) → does to end w ≡ w
unfolding does renumbered bytes long_body has_wide
does_end to w = world_is (put_nil w.out w.at) (omega arith) (or-false w.long) (or-false w.wide)

pub does_loose : (to : ℕ) (b : Bytes) (w : World) → does to (loose b) w ≡ writes b w
unfolding does writes renumbered bytes long_body has_wide
does_loose to b w = world_is refl refl (or-false w.long) (or-false w.wide)

-- a field, whatever its body: entered, its fields, left, and what follows
pub does_field : (to t : ℕ) (f : Bytes) (i r : Row) (w : World) → does to (field t f i r) w ≡ does to r (leaves t w.at (does to i (enters to t f w)))
unfolding does renumbered bytes long_body has_wide enters leaves field_bytes big_endian
does_field to t f i r w =
    let g : Bytes = renumbered_front to t f in
    let j : Bytes = bytes (renumbered to i) in
    let q : Bytes = bytes (renumbered to r) in
    let b : Bytes = g ++ j in
    let o : Bytes = w.out in
    let n : ℕ = w.at in
    let l : n + 3 + length g + length j - n - 3 ≡ length b = omega (arith, length-append g j) in
    let body : put (put o (n + 3) g) (n + 3 + length g) j ≡ put o (n + 3) b = put_put o (n + 3) g j in
    let whole : put (put o (n + 3) b) n (head t (length b)) ≡ put o n (field_bytes t b) = put_back o n (head t (length b)) b in
    let left : put (put (put o (n + 3) g) (n + 3 + length g) j) n (head t (n + 3 + length g + length j - n - 3)) ≡ put o n (field_bytes t b) = rw (body, l) whole in
    let k : n + length (field_bytes t b) ≡ n + 3 + length g + length j = omega (arith, length_field_bytes t b, length-append g j) in
    world_is (sym (put_put o n (field_bytes t b) q) ∙ ap₂ (λ (x : Bytes) (y : ℕ). put x y q) (sym left) k)
    (omega (arith, length-append (field_bytes t b) q, length_field_bytes t b, length-append g j))
    (or_row w.long (ltb 65535 (length b)) (long_body (renumbered to i)) (long_body (renumbered to r)) ∙ ap (λ (x : ℕ). ((w.long || long_body (renumbered to i)) || ltb 65535 x) || long_body (renumbered to r)) (sym l))
    (or_four w.wide (over t f) (has_wide i) (has_wide r))

-- a field of bytes alone is written at once
pub does_leaf : (to t : ℕ) (b : Bytes) (r : Row) (w : World) → (t ≡ 0x90 → ⊥) → length b ≤ 65535 → does to (field t b end r) w ≡ does to r (writes (field_bytes t b) w)
unfolding enters leaves writes field_bytes big_endian
does_leaf to t b r w q s =
    let o : Bytes = w.out in
    let n : ℕ = w.at in
    let no : eqb t 0x90 ≡ false = ne_eqb t 0x90 q in
    let l : n + 3 + length b - n - 3 ≡ length b = omega arith in
    let e : enters to t b w ≡ record { out = put o (n + 3) b; at = n + 3 + length b; long = w.long; wide = w.wide } = rw no (world_is refl refl refl (or-false w.wide)) in
    let a : leaves t n (enters to t b w) ≡ writes (field_bytes t b) w =
    ap (leaves t n) e
    ∙ world_is (ap (λ (x : ℕ). put (put o (n + 3) b) n (head t x)) l ∙ put_back o n (head t (length b)) b)
    (omega (arith, length_field_bytes t b))
    (ap (λ (x : ℕ). w.long || ltb 65535 x) l ∙ ap (λ (x : Bool). w.long || x) (le-ltb 65535 (length b) s) ∙ or-false w.long) refl in
    does_field to t b end r w ∙ ap (λ (x : World). does to r (leaves t n x)) (does_end to (enters to t b w)) ∙ ap (does to r) a

-- all is done
pub does_all : {to : ℕ} {x : Row} {o o' : Bytes} {n : ℕ} {l v : Bool} → ◌≡◌ {A = World} (record { out = o'; at = n; long = l; wide = v }) (does to x (record { out = o; at = 0; long = false; wide = false })) → Renumbers to x o o' n l v
unfolding does
does_all e =
    let a = ap (λ (w : World). w.at) e in
    record {
      out_is = ap (λ (w : World). w.out) e;
      bytes_is = omega arith;
      long_is = ap (λ (w : World). w.long) e;
      wide_is = ap (λ (w : World). w.wide) e;
    }
