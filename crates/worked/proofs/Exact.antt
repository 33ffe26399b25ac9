-- What is written reads as the worked page. Main statements: `read_worked`, `bytes_worked`, `worked_bound`, and of the lent buffer
-- `buffer_fits`, `buffer_bytes`, `buffer_worked`.
-- Assumes nothing.
use Prim.Native.Nat.{ℕ, ◌+◌, ◌≤◌, ◌<◌}
use mathlib.Core.Path.{◌≡◌, refl, sym, ◌∙◌, ap, subst}
use mathlib.Core.Bool.{Bool, true, false}
use mathlib.Core.List.{[], ◌++◌}
use native.Mathlib.Omega.{arith}
use lib.ListN.{length, take, drop}
use lib.Seq.{take_at, length-take-le}
use Rattle.field.specs.Bytes.{Bytes, AllBytes, pick}
use Rattle.field.specs.Row.{Row, end, loose, field, bytes, Inside, fields_after, inside, read}
use Rattle.field.specs.Put.{Wrote}
use Rattle.field.proofs.PutLaws.{put_fits, wrote_length}
use Rattle.field.proofs.NumberLaws.{all_big_endian}
use Rattle.field.proofs.RowLaws.{FrontFits, Shaped, Sane, read_shaped, read_sane, sane_bytes, read_back}
use Rattle.page.specs.Number.{number_bytes}
use Rattle.page.specs.Tree.{page_in}
use Rattle.page.proofs.PageRow.{short_row}
use Rattle.sums.specs.Value.{Worked}
use Rattle.sums.specs.declared.value.Sum.TheVariants.{Plus, Minus}
use Rattle.std.specs.Prelude.{Some, None}
use Rattle.worked.specs.Worked.{worked}
use Rattle.worked.specs.Row.{holds, field_sum, number_or, worked_row, worked_bytes}
use Rattle.worked.proofs.Fields.{holds_fields}
use Rattle.worked.proofs.Sizes.{worked_room}
use Rattle.worked.proofs.Tree.{page_worked}

-- ---- a worked row is one that bytes may read as

-- where an expression may stand the front is empty, whatever lies behind it
held_fits : (t : ℕ) (f : Bytes) (i j : Row) → holds t ≡ true → FrontFits (inside t) f i → FrontFits (inside t) f j
unfolding FrontFits
held_fits t f i j h a =
    let b : FrontFits (fields_after 0) f i = subst (λ (c : Inside). FrontFits c f i) (holds_fields t h) a in
    subst (λ (c : Inside). FrontFits c f j) (sym (holds_fields t h)) b

picked_fits : (t : ℕ) (f : Bytes) (i j : Row) (b : Bool) → holds t ≡ b → FrontFits (inside t) f i → FrontFits (inside t) f (pick b j i)
picked_fits t f i j true h a = held_fits t f i j h a
picked_fits t f i j false h a = a

picked_row : (P : Row → Type 0) (b : Bool) (i j : Row) → P i → P j → P (pick b j i)
picked_row P true i j p q = q
picked_row P false i j p q = p

shaped_or : (w : Worked) (t : ℕ) (f : Bytes) (i r : Row) → FrontFits (inside t) f i → Shaped i → Shaped r → Shaped (number_or w t f i r)
unfolding number_or Shaped FrontFits inside
shaped_or None t f i r a p q = (a, p, q)
shaped_or (Some (Plus n)) t f i r a p q = (tt, tt, q)
shaped_or (Some (Minus n)) t f i r a p q = (tt, tt, q)

shaped_worked : (x : Row) → Shaped x → Shaped (worked_row x)
unfolding worked_row Shaped
shaped_worked end s = s
shaped_worked (loose b) s = s
shaped_worked (field t f i r) s =
    shaped_or (field_sum t i) t f (pick (holds t) (worked_row i) i) (worked_row r) (picked_fits t f i (worked_row i) (holds t) refl s.0) (picked_row Shaped (holds t) i (worked_row i) s.1 (shaped_worked i s.1))
    (shaped_worked r s.2)

-- and of nothing but bytes
sane_or : (w : Worked) (t : ℕ) (f : Bytes) (i r : Row) → FrontFits (inside t) f i → AllBytes f → Sane i → Sane r → t < 256 → Sane (number_or w t f i r)
unfolding number_or Sane FrontFits inside number_bytes AllBytes
sane_or None t f i r a b p q l = (a, b, p, q, l)
sane_or (Some (Plus n)) t f i r a b p q l = (tt, all_big_endian 8 n [] tt, tt, q, omega arith)
sane_or (Some (Minus n)) t f i r a b p q l = (tt, all_big_endian 8 n [] tt, tt, q, omega arith)

sane_worked : (x : Row) → Sane x → Sane (worked_row x)
unfolding worked_row Sane
sane_worked end s = s
sane_worked (loose b) s = s
sane_worked (field t f i r) s =
    sane_or (field_sum t i) t f (pick (holds t) (worked_row i) i) (worked_row r) (picked_fits t f i (worked_row i) (holds t) refl s.0) s.1 (picked_row Sane (holds t) i (worked_row i) s.2 (sane_worked i s.2))
    (sane_worked r s.3) s.4

pub all_worked : (s : Bytes) → AllBytes s → AllBytes (worked_bytes s)
unfolding worked_bytes
all_worked s a = sane_bytes (worked_row (read s)) (sane_worked (read s) (read_sane s a))

-- ---- what is written

-- 01 and 02: a page of at most 32,768 bytes becomes one of at most 51,492
pub worked_bound : (s : Bytes) → length s ≤ 32768 → length (worked_bytes s) ≤ 51492
worked_bound s h = omega (arith, worked_room s)

pub read_worked : (s : Bytes) → length s ≤ 32768 → read (worked_bytes s) ≡ worked_row (read s)
unfolding worked_bytes
read_worked s h =
    let l : length (bytes (worked_row (read s))) ≤ 65535 = omega (arith, worked_room s) in
    read_back (worked_row (read s)) (shaped_worked (read s) (read_shaped s)) (short_row (worked_row (read s)) l)

-- the page that the written bytes are read as is the worked page
pub bytes_worked : (s : Bytes) → length s ≤ 32768 → page_in (read (worked_bytes s)) ≡ worked (page_in (read s))
bytes_worked s h = ap page_in (read_worked s h) ∙ page_worked (read s)

-- ---- the same of a lent buffer that is long enough, as far as it was written: o before, o' and n after

module _ (page : Bytes) {o o' : Bytes} {n : ℕ} (h : length page ≤ 32768) (l : 51492 ≤ length o) (u : Wrote o 0 (worked_bytes page) o' n) where
  size : n ≡ length (worked_bytes page)
  size = omega (arith, u.end_is)

  pub buffer_fits : n ≤ length o'
  buffer_fits = omega (arith, size, worked_bound page h, wrote_length u)

  pub buffer_part : n ≡ length (take n o')
  buffer_part = sym (length-take-le n o' buffer_fits)

  pub buffer_bytes : take n o' ≡ worked_bytes page
  buffer_bytes =
      let w : Bytes = worked_bytes page in
      let f : o' ≡ take 0 o ++ (w ++ drop (0 + length w) o) = u.out_is ∙ put_fits o 0 w (omega (arith, worked_bound page h)) in
      ap (take n) f ∙ take_at w (drop (0 + length w) o) n (sym size)

  pub buffer_worked : page_in (read (take n o')) ≡ worked (page_in (read page))
  buffer_worked = ap (λ (x : Bytes). page_in (read x)) buffer_bytes ∙ bytes_worked page h
