-- Where a field stands in front, by the header as the code reads it. Main statements: `three`, `header`, `none_left`, `filling_there`, `string_stands`. Assumes
-- nothing.
use mathlib.Core.Path.{◌≡◌, refl, sym}
use Prim.Native.Nat.{ℕ, suc, ◌+◌, ◌-◌, ◌*◌, ◌≤◌}
use native.Mathlib.Omega.{arith}
use native.Mathlib.Decide.{dec_le}
use lib.ListN.{length, get_or, take, drop}
use Rattle.std.specs.Prelude.{Some, None}
use Rattle.field.specs.Bytes.{Bytes}
use Rattle.field.specs.Row.{read}
use Rattle.field.specs.Fields.{IsEnd}
use Rattle.field.specs.Header.{header_of}
use Rattle.field.proofs.HeaderLaws.{header_short, header_is, header_long, no_tag, no_field_read}
use Rattle.refusal.specs.Refusal.{Fine}
use Rattle.outs.specs.Templates.{check_strings}
use Rattle.fill.specs.Indexed.{Checked}
use Rattle.fill.specs.Writing.{FillingsFit}
use Rattle.fill.proofs.FillingLaws.{row_end}
use Rattle.fill.proofs.PartLaws.{string_there}
use Rattle.fill.proofs.WholeLaws.{no_bytes}

module _ (s : Bytes) (f : header_of s ≡ None → ⊥) where
  pub three : 3 ≤ length s
  three = on (dec_le 3 (length s))
    where
      on : Dec (3 ≤ length s) → 3 ≤ length s
      on (yes l) = l
      on (no l) = absurd (f (sym (header_short s (omega (arith, l)))))

  module _ {n : ℕ} (e : n ≡ get_or s 1 0 * 256 + get_or s 2 0) where
    abbrev rest : Bytes
    rest = take (length s - 3) (drop 3 s)

    fits : n ≤ length rest
    fits = on (dec_le n (length rest))
      where
        on : Dec (n ≤ length rest) → n ≤ length rest
        on (yes l) = l
        on (no l) = absurd (f (sym (header_long s n three e (omega (arith, l)))))

    pub header : (Some (record { tag = get_or s 0 0; end = 3 + n }) ≡ header_of s) × ((3 ≤ 3 + n) × (3 + n ≤ length s))
    header = header_is s n three e fits

-- no header, no field
is_end : (s : Bytes) → header_of s ≡ None → IsEnd s s
is_end s h = record { ended = no_field_read s refl h; no_tag = no_tag s refl h; stays = refl }

pub none_left : (s : Bytes) → length s ≡ 0 → IsEnd s s
none_left s z = is_end s (sym (header_short s (omega (arith, z))))

-- behind the last filling nothing is loose
pub filling_there : {found : ℕ → Type 0} {s : Bytes} → FillingsFit found s → (length s ≡ 0 → ⊥) → header_of s ≡ None → ⊥
filling_there {found} {s} g z h = z (no_bytes s (row_end g (is_end s h)))

-- strings are one more than the kinds
pub string_stands : (n : ℕ) (s : Bytes) → check_strings (suc n) (read s) ≡ Fine → header_of s ≡ None → ⊥
string_stands n s e h = string_there n e (is_end s h)
