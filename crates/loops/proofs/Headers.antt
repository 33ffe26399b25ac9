-- What the header at the front of bytes says of the row that they read as, whatever a tag's body is said to hold.
-- Main statements: `tag_first`, `header_short`, `next_torn`, `read_empty`, `read_torn`, `field_is`, `length_body`. Assumes nothing.
use mathlib.Core.Path.{◌≡◌, refl, sym, ap, ◌∙◌}
use mathlib.Core.Bool.{Bool, true, false}
use Prim.Native.Nat.{ℕ, ◌+◌, ◌-◌, ◌*◌, ◌≤◌, ◌<◌}
use native.Mathlib.Omega.{arith}
use mathlib.Core.List.{[], ◌∷◌}
use lib.Dec.{leb}
use lib.ListN.{length, take, drop, get_or, length-drop}
use lib.Seq.{take_all, length-take-le}
use Rattle.field.specs.Bytes.{Bytes, pick}
use Rattle.field.specs.Row.{Row, end, loose, field, Inside, only_bytes, fields_after, counted, counted_front, nothing, no_field, next, next_of, opened, built_by, read_by}
use Rattle.field.specs.Header.{header_of, Within}
use Rattle.field.specs.declared.reader.Header.{Header}
use Rattle.std.specs.Prelude.{Option, Some, None}
use Rattle.std.proofs.lemmas.Option.{none-some, same_Some}
use Rattle.field.proofs.HeaderLaws.{next_field, within_field}
use Rattle.field.proofs.Reading.{step, nil}

-- ---- the bytes of a header

abbrev some : ℕ → ℕ → Option Header
some t e = Some (record { tag = t; end = e })

first_by : (t n : ℕ) (b : Bool) (h : Header) → pick b (some t n) None ≡ Some h → (t ≡ h.tag) × (n ≡ h.end)
first_by t n true h p = let q = same_Some _ h p in (ap (λ (x : Header). x.tag) q, ap (λ (x : Header). x.end) q)
first_by t n false h p = absurd (none-some _ p)

pub tag_first : (s : Bytes) (h : Header) → header_of s ≡ Some h → get_or s 0 0 ≡ h.tag
unfolding header_of
tag_first [] h p = absurd (none-some _ p)
tag_first (x ∷ []) h p = absurd (none-some _ p)
tag_first (x ∷ y ∷ []) h p = absurd (none-some _ p)
tag_first (x ∷ y ∷ z ∷ w) h p = (first_by x (3 + (y * 256 + z)) (leb (y * 256 + z) (length w)) h p).0

-- a length has two bytes
pub header_short : (s : Bytes) (h : Header) → header_of s ≡ Some h → get_or s 1 0 < 256 → get_or s 2 0 < 256 → h.end ≤ 65538
unfolding header_of
header_short [] h p i j = absurd (none-some _ p)
header_short (x ∷ []) h p i j = absurd (none-some _ p)
header_short (x ∷ y ∷ []) h p i j = absurd (none-some _ p)
header_short (x ∷ y ∷ z ∷ w) h p i j = omega (arith, (first_by x (3 + (y * 256 + z)) (leb (y * 256 + z) (length w)) h p).1)

-- ---- no field stands in front

torn_by : (t n : ℕ) (w r : Bytes) (b : Bool) → pick b (some t n) None ≡ None → pick b (next t w r) no_field ≡ no_field
torn_by t n w r true p = absurd (none-some _ (sym p))
torn_by t n w r false p = refl

pub next_torn : (s : Bytes) → header_of s ≡ None → (length s ≡ 0 → ⊥) → next_of s ≡ no_field
unfolding header_of next_of
next_torn [] p n = absurd (n refl)
next_torn (x ∷ []) p n = refl
next_torn (x ∷ y ∷ []) p n = refl
next_torn (x ∷ y ∷ z ∷ w) p n = torn_by x (3 + (y * 256 + z)) (take (y * 256 + z) w) (drop (y * 256 + z) w) (leb (y * 256 + z) (length w)) p

pub next_empty : (s : Bytes) → length s ≡ 0 → next_of s ≡ nothing
unfolding next_of
next_empty [] h = refl
next_empty (x ∷ s) h = absurd (omega arith)

pub read_empty : (held : ℕ → Inside) (b : Bytes) → length b ≡ 0 → read_by held b ≡ end
read_empty held [] h = nil held
read_empty held (x ∷ b) h = absurd (omega arith)

pub read_torn : (held : ℕ → Inside) (b : Bytes) {v : Option Header} → v ≡ header_of b → v ≡ None → (length b ≡ 0 → ⊥) → read_by held b ≡ loose b
read_torn held b q h z = step held b ∙ ap (built_by held (read_by held) b) (next_torn b (sym q ∙ h) z)

-- ---- a field stands in front

-- its front and its fields, by what its body holds
abbrev pub front_of : Inside → Bytes → Bytes
front_of only_bytes w = w
front_of (fields_after n) w = take n w
front_of (counted n) w = take (counted_front n w) w

abbrev pub inner_of : (ℕ → Inside) → Inside → Bytes → Row
inner_of held only_bytes w = end
inner_of held (fields_after n) w = read_by held (drop n w)
inner_of held (counted n) w = read_by held (drop (counted_front n w) w)

opened_is : (held : ℕ → Inside) (k : Inside) (t : ℕ) (w r : Bytes) → opened k (read_by held) t w r ≡ field t (front_of k w) (inner_of held k w) (read_by held r)
unfolding opened
opened_is held only_bytes t w r = refl
opened_is held (fields_after n) t w r = refl
opened_is held (counted n) t w r = refl

abbrev pub body : Bytes → ℕ → Bytes
body b e = take (e - 3) (drop 3 b)

module _ (b : Bytes) {v : Option Header} (q : v ≡ header_of b) (i : Within (length b) v) {h : Header} (is : v ≡ Some h) where
  pub next_is : next_of b ≡ next h.tag (body b h.end) (drop h.end b)
  next_is =
      next_field b h (sym q ∙ is)
      ∙ ap (next h.tag (body b h.end)) (take_all (length b - h.end) (drop h.end b) (omega (arith, length-drop h.end b)))

  pub field_is : (held : ℕ → Inside) → read_by held b ≡ field h.tag (front_of (held h.tag) (body b h.end)) (inner_of held (held h.tag) (body b h.end)) (read_by held (drop h.end b))
  field_is held = step held b ∙ ap (built_by held (read_by held) b) next_is ∙ opened_is held (held h.tag) h.tag (body b h.end) (drop h.end b)

  pub length_body : length (body b h.end) ≡ h.end - 3
  length_body =
      let p : (3 ≤ h.end) × (h.end ≤ length b) = within_field i is in
      length-take-le (h.end - 3) (drop 3 b) (omega (arith, length-drop 3 b))
