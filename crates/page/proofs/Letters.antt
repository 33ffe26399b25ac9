-- Texts and names are bytes: no number of 256 or more is UTF-8 or a name.
-- Main statements: `utf8_bytes`, `name_bytes`.
-- Assumes nothing.
use mathlib.Core.Path.{◌≡◌, refl, sym, subst}
use mathlib.Core.Bool.{Bool, true, false, ◌&&◌, ◌||◌, cond}
use mathlib.Core.Option.{Option, none, some}
use Prim.Native.Nat.{ℕ, ◌<◌}
use native.Mathlib.Omega.{arith}
use mathlib.Core.List.{List, [], ◌∷◌}
use lib.Dec.{T, leb, eqb, leb→le, eqb→eq}
use lib.ListN.{length}
use Rattle.field.specs.Bytes.{Bytes, AllBytes}
use Rattle.utf8.specs.Utf8.{Range, ◌to◌, within, Form, ◌then◌, forms, begun, utf8_behind, utf8}
use Rattle.page.specs.Check.{name_start, name_part, name_parts, is_name}
use Rattle.page.specs.Limits.{Utf8Ok, NameOk}
use Rattle.page.proofs.Booleans.{and_both, or_either}

-- ---- texts

abbrev LowRange : Range → Type 0
LowRange (low to high) = T (leb high 255)

unfoldable LowRanges : List Range → Type 0
LowRanges [] = Unit {0}
LowRanges (r ∷ rs) = LowRange r × LowRanges rs

unfoldable LowForms : List Form → Type 0
LowForms [] = Unit {0}
LowForms (r then rs ∷ fs) = LowRange r × LowRanges rs × LowForms fs

within_low : (r : Range) (b : ℕ) → LowRange r → T (within r b) → b < 256
within_low (low to high) b h w = let p = and_both (leb low b) (leb b high) w in omega (arith, leb→le high 255 h, leb→le b high p.1)

begun_low : (b : ℕ) (fs : List Form) (rs : List Range) → LowForms fs → begun b fs ≡ some rs → (b < 256) × LowRanges rs
unfolding LowForms begun
begun_low b [] rs h e = absurd (let z : ◌≡◌ {A = ℕ} 0 1 = cc in omega arith)
begun_low b (r then qs ∷ fs) rs h e = on (within r b) refl e (begun_low b fs rs h.2)
  where
    on : (c : Bool) → within r b ≡ c → cond c (some qs) (begun b fs) ≡ some rs → (begun b fs ≡ some rs → (b < 256) × LowRanges rs) → (b < 256) × LowRanges rs
    on true w k next = (within_low r b h.0 (subst T (sym w) tt), subst LowRanges (let z : qs ≡ rs = cc in z) h.1)
    on false w k next = next k

forms_low : LowForms forms
unfolding LowForms LowRanges forms
forms_low = omega arith

behind_bytes : (bs : Bytes) (rs : List Range) → LowRanges rs → T (utf8_behind rs bs) → AllBytes bs
unfolding utf8_behind AllBytes LowRanges LowForms forms
behind_bytes [] [] l h = tt
behind_bytes [] (r ∷ rs) l h = tt
behind_bytes (b ∷ bs) (r ∷ rs) l h =
    let p = and_both (within r b) (utf8_behind rs bs) h in
    (within_low r b l.0 p.0, behind_bytes bs rs l.1 p.1)
behind_bytes (b ∷ bs) [] l h = on (begun b forms) refl h (behind_bytes bs)
  where
    on : (o : Option (List Range)) → begun b forms ≡ o → T (elim o as (λ _. Bool) [ none ↦ false | some rs ↦ utf8_behind rs bs ]) → ((rs : List Range) → LowRanges rs → T (utf8_behind rs bs) → AllBytes bs) → (b < 256) × AllBytes bs
    on none e h next = absurd h
    on (some rs) e h next = let p = begun_low b forms rs forms_low e in (p.0, next rs p.1 h)

pub utf8_bytes : (b : Bytes) → Utf8Ok b → AllBytes b
unfolding utf8 LowRanges
utf8_bytes b h = behind_bytes b [] tt h

-- ---- names

start_low : (c : ℕ) → T (name_start c) → c < 256
start_low c h =
    or_either ((leb 65 c && leb c 90) || (leb 97 c && leb c 122) || eqb c 95) (eqb c 36) h
    (λ h. or_either ((leb 65 c && leb c 90) || (leb 97 c && leb c 122)) (eqb c 95) h
    (λ h. or_either (leb 65 c && leb c 90) (leb 97 c && leb c 122) h (below 65 90 tt) (below 97 122 tt)) (λ h. omega (arith, eqb→eq c 95 h))) (λ h. omega (arith, eqb→eq c 36 h))
  where
    below : (a b : ℕ) → T (leb b 255) → T (leb a c && leb c b) → c < 256
    below a b l h = let p = and_both (leb a c) (leb c b) h in omega (arith, leb→le b 255 l, leb→le c b p.1)

part_low : (c : ℕ) → T (name_part c) → c < 256
part_low c h =
    or_either (name_start c || (leb 48 c && leb c 57)) (eqb c 45) h
    (λ h. or_either (name_start c) (leb 48 c && leb c 57) h (start_low c) (λ h. let p = and_both (leb 48 c) (leb c 57) h in omega (arith, leb→le c 57 p.1))) (λ h. omega (arith, eqb→eq c 45 h))

parts_bytes : (b : Bytes) → T (name_parts b) → AllBytes b
unfolding name_parts AllBytes
parts_bytes [] h = tt
parts_bytes (c ∷ b) h = let p = and_both (name_part c) (name_parts b) h in (part_low c p.0, parts_bytes b p.1)

pub name_bytes : (b : Bytes) → NameOk b → AllBytes b
unfolding is_name AllBytes
name_bytes [] h = tt
name_bytes (c ∷ b) h =
    let p = and_both (leb (length (c ∷ b)) 128) (name_start c && name_parts b) h in
    let q = and_both (name_start c) (name_parts b) p.1 in
    (start_low c q.0, parts_bytes b q.1)
