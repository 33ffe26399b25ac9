-- A worked page is at most eleven sevenths as long: the shortest sum is a 79 of seven bytes, and a number has eleven.
-- Main statements: `worked_size`, `worked_room`, `field_room`. Assumes nothing.
use Prim.Native.Nat.{ℕ, ◌+◌, ◌*◌, ◌≤◌}
use mathlib.Core.Path.{◌≡◌, refl, sym, ◌∙◌, ap}
use mathlib.Core.Bool.{Bool, true, false}
use mathlib.Core.List.{[], ◌∷◌}
use native.Mathlib.Omega.{arith}
use lib.Dec.{eqb}
use lib.ListN.{length, take, drop, length-append, take-append-drop}
use Rattle.field.specs.Bytes.{Bytes, pick}
use Rattle.field.specs.Number.{big_endian}
use Rattle.field.specs.Row.{Row, end, loose, field, bytes, Inside, only_bytes, fields_after, counted, counted_front, inside, opened, read}
use Rattle.field.proofs.NumberLaws.{length_big_endian}
use Rattle.field.proofs.RowLaws.{read_ind, next_nothing, next_sizes, length_bytes}
use Rattle.page.specs.Number.{whole, number_bytes}
use Rattle.page.specs.Page.{Pieces, no_pieces, source_piece, tag_piece}
use Rattle.page.specs.Tree.{pieces_in}
use Rattle.page.proofs.TightRows.{part_size, length_read}
use Rattle.sums.specs.Machine.{sum_of, found, outcome, at_end}
use Rattle.sums.specs.Value.{Worked}
use Rattle.sums.specs.declared.value.Sum.TheVariants.{Plus, Minus}
use Rattle.std.specs.Prelude.{Some, None}
use Rattle.worked.specs.Worked.{pieces_sum}
use Rattle.worked.specs.Row.{holds, field_sum, number_or, worked_row, worked_bytes, worked_field}
use Rattle.worked.proofs.Tests.{chosen, passed}

-- ---- how long a field is, whatever is in front of its fields

opened_size : (c : Inside) (t : ℕ) (w r : Bytes) → length (bytes (opened c read t w r)) ≡ 3 + length w + length r
unfolding opened bytes
opened_size only_bytes t w r = omega (arith, length_bytes t w end (read r), length_read r)
opened_size (fields_after n) t w r = omega (arith, length_bytes t (take n w) (read (drop n w)) (read r), length_read r, length_read (drop n w), part_size n w)
opened_size (counted n) t w r = omega (arith, length_bytes t (take (counted_front n w) w) (read (drop (counted_front n w) w)) (read r), length_read r, length_read (drop (counted_front n w) w), part_size (counted_front n w) w)

-- ---- a sum has at least four bytes with its header

no_text : (ps : Pieces) → pieces_sum (source_piece [] ps) ≡ None
unfolding pieces_sum sum_of found outcome at_end
no_text no_pieces = refl
no_text (source_piece s ps) = refl
no_text (tag_piece t ps) = refl

some_text : (f : Bytes) (ps : Pieces) → (pieces_sum (source_piece f ps) ≡ None → ⊥) → 1 ≤ length f
some_text [] ps n = absurd (n (no_text ps))
some_text (c ∷ f) ps n = omega arith

sum_size : (i : Row) → (pieces_sum (pieces_in i) ≡ None → ⊥) → 4 ≤ length (bytes i)
unfolding pieces_in pieces_sum
sum_size end n = absurd (n refl)
sum_size (loose b) n = absurd (n refl)
sum_size (field t f i r) n = on (eqb t 0x20) refl (sum_size r)
  where
    size : length (bytes (field t f i r)) ≡ 3 + length f + length (bytes i) + length (bytes r)
    size = length_bytes t f i r

    Behind : Type 0
    Behind = (pieces_sum (pieces_in r) ≡ None → ⊥) → 4 ≤ length (bytes r)

    last : (b : Bool) → eqb t 0x20 ≡ false → eqb t 0x30 ≡ false → eqb t 0x31 ≡ b → Behind → 4 ≤ length (bytes (field t f i r))
    last true e d k h = absurd (n (ap pieces_sum (passed (eqb t 0x20) _ _ e ∙ passed (eqb t 0x30) _ _ d ∙ chosen (eqb t 0x31) _ _ k)))
    last false e d k h =
        let z : pieces_in (field t f i r) ≡ pieces_in r = passed (eqb t 0x20) _ _ e ∙ passed (eqb t 0x30) _ _ d ∙ passed (eqb t 0x31) _ _ k in
        omega (arith, size, h (λ y. n (ap pieces_sum z ∙ y)))

    next_on : (b : Bool) → eqb t 0x20 ≡ false → eqb t 0x30 ≡ b → Behind → 4 ≤ length (bytes (field t f i r))
    next_on true e d h = absurd (n (ap pieces_sum (passed (eqb t 0x20) _ _ e ∙ chosen (eqb t 0x30) _ _ d)))
    next_on false e d h = last (eqb t 0x31) e d refl h

    on : (b : Bool) → eqb t 0x20 ≡ b → Behind → 4 ≤ length (bytes (field t f i r))
    on true e h = omega (arith, size, some_text f (pieces_in r) (λ y. n (ap pieces_sum (chosen (eqb t 0x20) _ _ e) ∙ y)))
    on false e h = next_on (eqb t 0x30) e refl h

field_sum_size : (t : ℕ) (i : Row) → (field_sum t i ≡ None → ⊥) → 4 ≤ length (bytes i)
unfolding field_sum
field_sum_size t i n = on (eqb t 0x79) refl
  where
    on : (b : Bool) → eqb t 0x79 ≡ b → 4 ≤ length (bytes i)
    on true e = sum_size i (λ y. n (chosen (eqb t 0x79) _ _ e ∙ y))
    on false e = absurd (n (passed (eqb t 0x79) _ _ e))

-- ---- the bound

number_size : (t n : ℕ) (r : Row) → length (bytes (field t (number_bytes (whole n)) end r)) ≡ 11 + length (bytes r)
unfolding number_bytes bytes
number_size t n r = omega (arith, length_bytes t (big_endian 8 n []) end r, length_big_endian 8 n [])

kept_size : (b : Bool) (i j : Row) → 7 * length (bytes j) ≤ 11 * length (bytes i) → 7 * length (bytes (pick b j i)) ≤ 11 * length (bytes i)
kept_size true i j h = h
kept_size false i j h = omega arith

number_or_size : (x : Worked) (t : ℕ) (f : Bytes) (i j r q : Row) → ((x ≡ None → ⊥) → 4 ≤ length (bytes i)) → 7 * length (bytes j) ≤ 11 * length (bytes i) → 7 * length (bytes q) ≤ 11 * length (bytes r) → 7 * length (bytes (number_or x t f j q)) ≤ 11 * length (bytes (field t f i r))
unfolding number_or
number_or_size None t f i j r q n a b = omega (arith, length_bytes t f j q, length_bytes t f i r)
number_or_size (Some (Plus k)) t f i j r q n a b = omega (arith, number_size 0x71 k q, length_bytes t f i r, n (λ e. let z : ◌≡◌ {A = ℕ} 0 1 = cc in omega arith))
number_or_size (Some (Minus k)) t f i j r q n a b = omega (arith, number_size 0x75 k q, length_bytes t f i r, n (λ e. let z : ◌≡◌ {A = ℕ} 0 1 = cc in omega arith))

pub worked_size : (x : Row) → 7 * length (bytes (worked_row x)) ≤ 11 * length (bytes x)
unfolding worked_row
worked_size end = omega arith
worked_size (loose b) = omega arith
worked_size (field t f i r) =
    number_or_size (field_sum t i) t f i (pick (holds t) (worked_row i) i) r (worked_row r) (field_sum_size t i) (kept_size (holds t) i (worked_row i) (worked_size i)) (worked_size r)

pub worked_room : (s : Bytes) → 7 * length (worked_bytes s) ≤ 11 * length s
unfolding worked_bytes
worked_room s = omega (arith, worked_size (read s), length_read s)

pub field_room : (t : ℕ) (w : Bytes) → 7 * length (worked_field t w) ≤ 11 * (3 + length w)
unfolding worked_field
field_room t w = omega (arith, worked_size (opened (inside t) read t w []), opened_size (inside t) t w [])
