-- The place of a dynamic expression, found byte by byte instead of by the last `<`. Main statement: `spot_inside`. Assumes nothing.
use Prim.Native.Nat.{ℕ}
use mathlib.Core.Path.{◌≡◌, refl, sym, ◌∙◌, ap}
use mathlib.Core.Bool.{Bool, true, false, ◌&&◌, ◌||◌, not, and-false, and-true}
use mathlib.Core.List.{[], ◌∷◌, ◌++◌}
use mathlib.Core.Option.{Option, none, some}
use lib.Dec.{T, eqb}
use Rattle.field.specs.Bytes.{Bytes, pick}
use Rattle.page.specs.Check.{is_name}
use Rattle.spec.specs.Words.{free, behind_last, holds, starts_with, opening, inside_opening_tag}
use Rattle.spec.proofs.Markup.{free_front, not_name_byte, name_has_parts, name_front, name_free}

-- right behind a `<` nothing says yet whether the tag opens or closes
pub data Spot : Type 0 where
  out_of_tags behind_less in_opening in_closing : Spot

abbrev pub spot_of_tag : Spot → Bool → Spot
spot_of_tag out_of_tags slash = out_of_tags
spot_of_tag behind_less true = in_closing
spot_of_tag behind_less false = in_opening
spot_of_tag in_opening slash = in_opening
spot_of_tag in_closing slash = in_closing

abbrev pub spot_by : Spot → (less greater slash : Bool) → Spot
spot_by z less greater slash = pick less behind_less (pick greater out_of_tags (spot_of_tag z slash))

abbrev pub next_spot : Spot → ℕ → Spot
next_spot z c = spot_by z (eqb c 60) (eqb c 62) (eqb c 47)

abbrev pub spot_after : Spot → Bytes → Spot
spot_after z [] = z
spot_after z (c ∷ cs) = spot_after (next_spot z c) cs

abbrev pub inside : Spot → Bool
inside out_of_tags = false
inside behind_less = true
inside in_opening = true
inside in_closing = false

pub spot_append : (z : Spot) (x y : Bytes) → spot_after z (x ++ y) ≡ spot_after (spot_after z x) y
spot_append z [] y = refl
spot_append z (c ∷ x) y = spot_append (next_spot z c) x y

-- ---- against the last `<`

-- behind a text without `<`: by where it began, by whether it holds a `>`, and by whether it begins with a `/`
inside_by : Spot → (holds_greater starts_slash : Bool) → Bool
inside_by out_of_tags g s = false
inside_by behind_less g s = not g && not s
inside_by in_opening g s = not g
inside_by in_closing g s = false

by_last : Option Bytes → Bool → Bool
by_last none r = r
by_last (some t) r = opening (some t)

last_step : (l : Option Bytes) (less greater slash : Bool) (z : Spot) (cs : Bytes) →
    by_last l (inside_by (spot_by z less greater slash) (holds 62 cs) (starts_with 47 cs)) ≡
    by_last (elim l [ some t ↦ some t | none ↦ pick less (some cs) none ]) (inside_by z (greater || holds 62 cs) slash)
unfolding by_last inside_by opening
last_step (some t) a b d z cs = refl
last_step none true b d z cs = refl
last_step none false true d out_of_tags cs = refl
last_step none false true d behind_less cs = refl
last_step none false true d in_opening cs = refl
last_step none false true d in_closing cs = refl
last_step none false false d out_of_tags cs = refl
last_step none false false true behind_less cs = sym (and-false (not (holds 62 cs)))
last_step none false false false behind_less cs = sym (and-true (not (holds 62 cs)))
last_step none false false d in_opening cs = refl
last_step none false false d in_closing cs = refl

spot_by_last : (z : Spot) (w : Bytes) → inside (spot_after z w) ≡ by_last (behind_last w) (inside_by z (holds 62 w) (starts_with 47 w))
unfolding behind_last holds starts_with by_last inside_by
spot_by_last out_of_tags [] = refl
spot_by_last behind_less [] = refl
spot_by_last in_opening [] = refl
spot_by_last in_closing [] = refl
spot_by_last z (c ∷ cs) = spot_by_last (next_spot z c) cs ∙ last_step (behind_last cs) (eqb c 60) (eqb c 62) (eqb c 47) z cs

pub spot_inside : (w : Bytes) → inside (spot_after out_of_tags w) ≡ inside_opening_tag w
unfolding inside_opening_tag by_last inside_by opening
spot_inside w = spot_by_last out_of_tags w ∙ began_outside (behind_last w)
  where
    began_outside : (l : Option Bytes) → by_last l (inside_by out_of_tags (holds 62 w) (starts_with 47 w)) ≡ opening l
    began_outside none = refl
    began_outside (some t) = refl

-- ---- over texts with neither sign, over names and closing tags

pub spot_free : (z : Spot) → ((slash : Bool) → spot_of_tag z slash ≡ z) → (x : Bytes) → T (free x) → spot_after z x ≡ z
spot_free z e [] h = refl
spot_free z e (c ∷ x) h = let f = free_front c x h in rw (f.not_less, f.not_greater, e) (spot_free z e x f.rest)

pub spot_name : (n : Bytes) → T (is_name n) → spot_after behind_less n ≡ in_opening
unfolding is_name
spot_name [] h = absurd h
spot_name (c ∷ n) h =
    let f = name_front c n (name_has_parts (c ∷ n) h) in
    rw (not_name_byte 60 (λ x. x) c f.part, not_name_byte 62 (λ x. x) c f.part, not_name_byte 47 (λ x. x) c f.part)
    (spot_free in_opening (λ slash. refl) n (name_free n f.rest))

pub spot_closing_tag : (n : Bytes) → T (is_name n) → spot_after out_of_tags (60 ∷ 47 ∷ (n ++ (62 ∷ []))) ≡ out_of_tags
spot_closing_tag n h =
    spot_append in_closing n (62 ∷ []) ∙
    ap (λ (z : Spot). spot_after z (62 ∷ [])) (spot_free in_closing (λ slash. refl) n (name_free n (name_has_parts n h)))
