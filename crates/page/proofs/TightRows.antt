-- Rows that are read back from their bytes, whatever fronts their fields have: no loose bytes, fronts as the tags want them, and nothing but
-- bytes. And which fields have a body that its length can say.
-- Main statements: `tight_shaped`, `tight_sane`, `length_read_by`, `short_field`, `short_parts`.
-- Assumes nothing.
use mathlib.Core.Path.{◌≡◌, refl, sym, ap, ◌∙◌}
use mathlib.Core.Bool.{◌||◌, not}
use Prim.Native.Nat.{ℕ, ◌+◌, ◌≤◌}
use native.Mathlib.Omega.{arith}
use mathlib.Core.List.{◌++◌}
use lib.Dec.{T, ltb, ltb→lt, nltb→le}
use lib.ListN.{length, take, drop, length-append, take-append-drop}
use Rattle.std.proofs.Math.Facts.{or_no, no_ltb}
use Rattle.field.specs.Bytes.{Bytes, AllBytes}
use Rattle.field.specs.Row.{Inside, Row, end, loose, field, bytes, long_body, inside, read_by, read}
use Rattle.field.proofs.Reading.{FrontFits, ShapedBy, SaneBy, next_nothing, next_sizes, length_bytes, along}
use Rattle.page.proofs.Booleans.{not_either}

-- no loose bytes, fronts as the tags want them, and nothing but bytes
unfoldable pub Tight : (ℕ → Inside) → Row → Type 0
Tight held end = Unit {0}
Tight held (loose b) = ⊥
Tight held (field t f i r) = FrontFits (held t) f i × AllBytes f × T (ltb t 256) × Tight held i × Tight held r

module _ (held : ℕ → Inside) where
  pub tight_shaped : (x : Row) → Tight held x → ShapedBy held x
  unfolding Tight
  tight_shaped end h = tt
  tight_shaped (loose b) h = absurd h
  tight_shaped (field t f i r) h = (h.0, tight_shaped i h.3, tight_shaped r h.4)

  pub tight_sane : (x : Row) → Tight held x → SaneBy held x
  unfolding Tight
  tight_sane end h = tt
  tight_sane (loose b) h = absurd h
  tight_sane (field t f i r) h = (h.0, h.1, tight_sane i h.3, tight_sane r h.4, ltb→lt t 256 h.2)

-- ---- lengths

pub part_size : (n : ℕ) (w : Bytes) → length (take n w) + length (drop n w) ≡ length w
part_size n w = sym (length-append (take n w) (drop n w)) ∙ ap length (take-append-drop n w)

-- bytes are as many as those of the row that they read as
pub length_read_by : (held : ℕ → Inside) (s : Bytes) → length (bytes (read_by held s)) ≡ length s
unfolding bytes
length_read_by held =
    along held (λ s x. length (bytes x) ≡ length s) (λ s e. ap length (sym (next_nothing s e))) (λ s e. refl)
    (λ s t w r e q hr. omega (arith, length_bytes t w end (read_by held r), hr, next_sizes s t w r e))
    (λ s t w r n e q hi hr. omega (arith, length_bytes t (take n w) (read_by held (drop n w)) (read_by held r), hi, hr, part_size n w, next_sizes s t w r e))

pub length_read : (s : Bytes) → length (bytes (read s)) ≡ length s
unfolding read
length_read s = length_read_by inside s

pub short_field : (t : ℕ) (f : Bytes) (i r : Row) → length (f ++ bytes i) ≤ 65535 → T (not (long_body i)) → T (not (long_body r)) → T (not (long_body (field t f i r)))
unfolding long_body
short_field t f i r h p q = not_either (ltb 65535 (length (f ++ bytes i))) (long_body i || long_body r) (no_ltb h) (not_either (long_body i) (long_body r) p q)

pub short_parts : (t : ℕ) (f : Bytes) (i r : Row) → T (not (long_body (field t f i r))) → (length (f ++ bytes i) ≤ 65535) × T (not (long_body i)) × T (not (long_body r))
unfolding long_body
short_parts t f i r h =
    let p = or_no (ltb 65535 (length (f ++ bytes i))) (long_body i || long_body r) h in
    let q = or_no (long_body i) (long_body r) p.1 in
    (nltb→le 65535 (length (f ++ bytes i)) p.0, q.0, q.1)
