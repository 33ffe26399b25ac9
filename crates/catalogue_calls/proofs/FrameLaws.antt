-- A walk over the frames takes a step at each and ends where none stands. Main statements: `names_next`, `names_end`, `used_framed`,
-- `used_next`, `used_end`. Assumes nothing.
use Prim.Native.Nat.{ℕ, zero, suc, ◌+◌, ◌<◌}
use mathlib.Core.Path.{◌≡◌, refl, sym, ap, ap₂, ◌∙◌}
use mathlib.Core.Bool.{Bool, true, false, true≢false}
use mathlib.Core.List.{List, [], ◌∷◌}
use native.Mathlib.Omega.{arith}
use lib.Dec.{eqb}
use lib.ListN.{length, drop, get_or, length-drop, length-take}
use lib.Seq.{drop-drop}
use Rattle.field.specs.Bytes.{Bytes, pick}
use Rattle.catalogue.specs.Page.{Body}
use Rattle.catalogue.specs.Catalogue.{four, body_in, behind_body}
use Rattle.catalogue_calls.specs.Standing.{framed, IsPage, names_from, names_in, used_from, used_in}
use Rattle.catalogue_calls.proofs.PageLaws.{frame}

-- ---- any walk

abbrev following : Bytes → Bytes
following b = behind_body (drop 6 b)

following_shorter : (b : Bytes) → framed b ≡ true → length (following b) < length b
unfolding framed
following_shorter [] e = absurd (true≢false (sym e))
following_shorter (c ∷ b) e =
    let d : Bytes = drop 4 (drop 4 (drop 5 b)) in
    let n : ℕ = four (drop 5 b) in
    omega (arith, length-drop (four (drop 4 (drop 5 b))) (drop n d), length-drop n d, length-drop 4 (drop 4 (drop 5 b)), length-drop 4 (drop 5 b), length-drop 5 b)

module _ {A : Type 0} (walk : ℕ → Bytes → A) (seen : Bytes → A → A) (none : A) (start : (b : Bytes) → walk zero b ≡ none)
    (step : (k : ℕ) (b : Bytes) → walk (suc k) b ≡ pick (framed b) (seen b (walk k (following b))) none) where
  enough : (j k : ℕ) (b : Bytes) → length b < j → length b < k → walk j b ≡ walk k b
  enough zero k b l m = absurd (omega arith)
  enough (suc j) zero b l m = absurd (omega arith)
  enough (suc j) (suc k) b l m = step j b ∙ on (framed b) refl (enough j k (following b)) ∙ sym (step k b)
    where
      on : (t : Bool) → framed b ≡ t → (length (following b) < j → length (following b) < k → walk j (following b) ≡ walk k (following b))
          → pick t (seen b (walk j (following b))) none ≡ pick t (seen b (walk k (following b))) none
      on true e h = let s = following_shorter b e in ap (seen b) (h (omega arith) (omega arith))
      on false e h = refl

  walk_next : (b : Bytes) → framed b ≡ true → walk (suc (length b)) b ≡ seen b (walk (suc (length (following b))) (following b))
  walk_next b e =
      let s = following_shorter b e in
      step (length b) b
      ∙ ap (λ (t : Bool). pick t (seen b (walk (length b) (following b))) none) e
      ∙ ap (seen b) (enough (length b) (suc (length (following b))) (following b) s (omega arith))

  walk_end : (b : Bytes) → framed b ≡ false → walk (suc (length b)) b ≡ none
  walk_end b e = step (length b) b ∙ ap (λ (t : Bool). pick t (seen b (walk (length b) (following b))) none) e

-- ---- names

seen_name : Bytes → List ℕ → List ℕ
seen_name b ns = four (drop 1 b) ∷ ns

name_step : (k : ℕ) (b : Bytes) → names_from (suc k) b ≡ pick (framed b) (seen_name b (names_from k (following b))) []
unfolding names_from seen_name
name_step k b = refl

name_start : (b : Bytes) → names_from zero b ≡ []
unfolding names_from
name_start b = refl

pub names_next : {s t p r : Bytes} {m h : ℕ} → IsPage s m h t p r → names_in s ≡ m ∷ names_in r
unfolding names_in seen_name
names_next {s} {t} {p} {r} {m} {h} i =
    walk_next names_from seen_name [] name_start name_step s i.is_framed
    ∙ ap (λ (x : ℕ). x ∷ names_in (following s)) (sym i.name_is)
    ∙ ap (λ (x : Bytes). m ∷ names_in x) (sym i.behind_is)

pub names_end : (s : Bytes) → framed s ≡ false → names_in s ≡ []
unfolding names_in
names_end s e = walk_end names_from seen_name [] name_start name_step s e

-- ---- bytes used

seen_bytes : ℕ → Bytes → ℕ → ℕ
seen_bytes h b n = pick (eqb h (get_or b 5 0)) (14 + four (drop 6 b) + four (drop 10 b)) 0 + n

bytes_step : (h k : ℕ) (b : Bytes) → used_from (suc k) h b ≡ pick (framed b) (seen_bytes h b (used_from k h (following b))) 0
unfolding used_from seen_bytes
bytes_step h k b = refl

bytes_start : (h : ℕ) (b : Bytes) → used_from zero h b ≡ 0
unfolding used_from
bytes_start h b = refl

-- the parts are as long as the lengths say
lengths : (s : Bytes) → framed s ≡ true → 14 + four (drop 6 s) + four (drop 10 s) ≡ 14 + length (body_in (drop 6 s)).templates + length (body_in (drop 6 s)).page_out
lengths s e =
    let f = frame s e in
    let d : Bytes = drop 6 s in
    let x : Bytes = drop 4 (drop 4 d) in
    omega (
      arith,
      f.inside,
      ap four (drop-drop 4 6 s),
      length-take (four d) x,
      length-take (four (drop 4 d)) (drop (four d) x),
      length-drop (four d) x,
      length-drop 4 (drop 4 d),
      length-drop 4 d,
      length-drop 6 s,
    )

-- a page's bytes count for its house
abbrev pub counted : (g h : ℕ) → Body → ℕ
counted g h x = pick (eqb g h) (14 + length x.templates + length x.page_out) 0

pub used_framed : (s : Bytes) → framed s ≡ true → (g : ℕ) → used_in g s ≡ counted g (get_or s 5 0) (body_in (drop 6 s)) + used_in g (behind_body (drop 6 s))
unfolding used_in seen_bytes
used_framed s e g =
    walk_next (λ k. used_from k g) (seen_bytes g) 0 (bytes_start g) (bytes_step g) s e
    ∙ ap (λ (n : ℕ). pick (eqb g (get_or s 5 0)) n 0 + used_in g (following s)) (lengths s e)

pub used_next : {s t p r : Bytes} {m h : ℕ} → IsPage s m h t p r → (g : ℕ) → used_in g s ≡ pick (eqb g h) (14 + length t + length p) 0 + used_in g r
used_next {s} {t} {p} {r} {m} {h} i g =
    let x : Bytes = drop 6 s in
    used_framed s i.is_framed g
    ∙ ap₂ (λ (k : ℕ) (b : Bytes). pick (eqb g k) (14 + length (body_in x).templates + length (body_in x).page_out) 0 + used_in g b) (sym i.house_is) (sym i.behind_is)
    ∙ ap₂ (λ (b c : Bytes). pick (eqb g h) (14 + length b + length c) 0 + used_in g r) (sym i.templates_is) (sym i.page_out_is)

pub used_end : (s : Bytes) → framed s ≡ false → (g : ℕ) → used_in g s ≡ 0
unfolding used_in
used_end s e g = walk_end (λ k. used_from k g) (seen_bytes g) 0 (bytes_start g) (bytes_step g) s e
