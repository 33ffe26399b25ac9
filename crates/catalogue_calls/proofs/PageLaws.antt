-- A page's frame, and what it says of the page that is read there. Main statements: `frame`, `framed_by`, `unframed`, `stands`, `page_in_is`, `behind_is`,
-- `right_is`. Assumes nothing.
use Prim.Native.Nat.{ℕ, ◌+◌, ◌≤◌}
use mathlib.Core.Path.{◌≡◌, refl, sym, ap, ap₂, ◌∙◌}
use mathlib.Core.Bool.{Bool, true, false, ◌&&◌, true≢false}
use mathlib.Core.List.{[], ◌∷◌}
use mathlib.Core.Logic.{◌⊎◌, inl, inr}
use native.Mathlib.Omega.{arith}
use lib.Dec.{leb, eqb}
use lib.ListN.{length, take, drop, get_or, length-drop}
use lib.Seq.{drop-drop, get_or-drop}
use Rattle.std.specs.Int.{w32, from_be_bytes}
use Rattle.std.specs.List.{IsFirstAndRest, IsSplitAt}
use Rattle.std.proofs.lemmas.Bool.{and_from, cases_Bool}
use borrow.Author.Tests.{le-leb, leb-true, eq-eqb, eqb-true}
use Rattle.field.specs.Bytes.{Bytes}
use Rattle.field.specs.Number.{number_from}
use Rattle.catalogue.specs.Page.{Page, A14, house_right}
use Rattle.catalogue.specs.Catalogue.{four, at_lengths, body_in, page_in, behind_body, behind, within, page_right}
use Rattle.catalogue.specs.Judged.{project}
use Rattle.catalogue.proofs.Tests.{and_left, and_right}
use Rattle.catalogue_calls.specs.Standing.{housed, framed, IsPage}

-- ---- the frame, as numbers

pub record Frame (s : Bytes) : Type 0 where
  pub begins : get_or s 0 0 ≡ 0x97
  pub house_least : 1 ≤ get_or s 5 0
  pub house_most : get_or s 5 0 ≤ 16
  pub inside : 14 + four (drop 6 s) + four (drop 10 s) ≤ length s

ten : (s : Bytes) → drop 4 (drop 6 s) ≡ drop 10 s
ten s = drop-drop 4 6 s

length_six : (c : ℕ) (b : Bytes) → 5 ≤ length b → length (drop 5 b) + 6 ≡ length (c ∷ b)
length_six c b h = omega (arith, length-drop 5 b)

pub frame : (s : Bytes) → framed s ≡ true → Frame s
unfolding framed
frame [] e = absurd (true≢false (sym e))
frame (c ∷ b) e =
    let d : Bytes = drop 5 b in
    let h : ℕ = get_or b 4 0 in
    let e₁ = and_right (eqb c 0x97) (leb 5 (length b) && (within d && house_right A14 h)) e in
    let e₂ = and_right (leb 5 (length b)) (within d && house_right A14 h) e₁ in
    let w = and_left (within d) (house_right A14 h) e₂ in
    let r = and_right (within d) (house_right A14 h) e₂ in
    let l : 5 ≤ length b = leb-true 5 (length b) (and_left (leb 5 (length b)) (within d && house_right A14 h) e₁) in
    let m : 8 + four d + four (drop 4 d) ≤ length d = leb-true (8 + four d + four (drop 4 d)) (length d) (and_right (leb 8 (length d)) (leb (8 + four d + four (drop 4 d)) (length d)) w) in
    record {
      begins = eqb-true c 0x97 (and_left (eqb c 0x97) (leb 5 (length b) && (within d && house_right A14 h)) e);
      house_least = leb-true 1 h (and_left (leb 1 h) (leb h 16) r);
      house_most = leb-true h 16 (and_right (leb 1 h) (leb h 16) r);
      inside = omega (arith, length_six c b l, ap four (ten (c ∷ b)));
    }

pub framed_by : (s : Bytes) → Frame s → framed s ≡ true
unfolding framed
framed_by [] f = absurd (let z = f.inside in omega arith)
framed_by (c ∷ b) f =
    let d : Bytes = drop 5 b in
    let h : ℕ = get_or b 4 0 in
    let l : 5 ≤ length b = omega (arith, f.inside) in
    let m : 8 + four d + four (drop 4 d) ≤ length d = omega (arith, f.inside, length_six c b l, ap four (ten (c ∷ b))) in
    and_from (eqb c 0x97) (leb 5 (length b) && (within d && house_right A14 h)) (eq-eqb c 0x97 f.begins)
    (and_from (leb 5 (length b)) (within d && house_right A14 h) (le-leb 5 (length b) l)
    (and_from (within d) (house_right A14 h)
    (and_from (leb 8 (length d)) (leb (8 + four d + four (drop 4 d)) (length d)) (le-leb 8 (length d) (omega arith)) (le-leb (8 + four d + four (drop 4 d)) (length d) m))
    (and_from (leb 1 h) (leb h 16) (le-leb 1 h f.house_least) (le-leb h 16 f.house_most))))

pub unframed : (s : Bytes) → (Frame s → ⊥) → framed s ≡ false
unframed s f = on (cases_Bool (framed s))
  where
    on : (framed s ≡ true) ⊎ (framed s ≡ false) → framed s ≡ false
    on (inl t) = absurd (f (frame s t))
    on (inr t) = t

pub no_house : (s : Bytes) (h : ℕ) {b : Bool} → b ≡ house_right A14 h → b ≡ false → h ≡ get_or s 5 0 → Frame s → ⊥
no_house s h e t k f = true≢false (sym (and_from (leb 1 h) (leb h 16) (le-leb 1 h (omega (arith, f.house_least))) (le-leb h 16 (omega (arith, f.house_most)))) ∙ sym e ∙ t)

pub house_within : (h : ℕ) {b : Bool} → b ≡ house_right A14 h → b ≡ true → (1 ≤ h) × (h ≤ 16)
house_within h e t = let r : (leb 1 h && leb h 16) ≡ true = sym e ∙ t in (leb-true 1 h (and_left (leb 1 h) (leb h 16) r), leb-true h 16 (and_right (leb 1 h) (leb h 16) r))

-- ---- the parts, one behind the other

-- a number in front of s, with r behind it
abbrev Number : Bytes → ℕ → Bytes → Type 0
Number s n r = (n ≡ four s) × (r ≡ drop 4 s) × (length r + 4 ≡ length s)

pub four_read : (s w r : Bytes) → w ≡ take 4 s → r ≡ drop 4 s → length r + 4 ≡ length s → {n : ℕ} → n ≡ from_be_bytes w32 (get_or w 0 0 ∷ get_or w 1 0 ∷ get_or w 2 0 ∷ get_or w 3 0 ∷ []) → Number s n r
unfolding number_from
four_read (c ∷ d ∷ e ∷ f ∷ s) w r a k l b = (b ∙ ap (λ (x : Bytes). from_be_bytes w32 (get_or x 0 0 ∷ get_or x 1 0 ∷ get_or x 2 0 ∷ get_or x 3 0 ∷ [])) a ∙ omega arith, k, l)
four_read _ w r a k l b = absurd (omega arith)

pub at_tag : (s r : Bytes) (tag : ℕ) → s ≡ tag ∷ r → (tag ≡ get_or s 0 0) × (r ≡ drop 1 s)
at_tag s r tag e = (ap (λ (x : Bytes). get_or x 0 0) (sym e), ap (λ (x : Bytes). drop 1 x) (sym e))

module _ {s r₁ r₂ r₃ : Bytes} {tag name house : ℕ} (a : IsFirstAndRest s tag r₁) (n : Number r₁ name r₂) (h : IsFirstAndRest r₂ house r₃) where
  behind_name : house ∷ r₃ ≡ drop 4 r₁
  behind_name = sym h.0 ∙ n.1

  pub house_at : house ≡ get_or s 5 0
  house_at = ap (λ (x : Bytes). get_or x 0 0) behind_name ∙ get_or-drop 4 r₁ 0 0 ∙ ap (λ (x : Bytes). get_or x 5 0) (sym a.0)

  lengths_at : r₃ ≡ drop 6 s
  lengths_at = ap (λ (x : Bytes). drop 1 x) behind_name ∙ drop-drop 1 4 r₁ ∙ ap (λ (x : Bytes). drop 6 x) (sym a.0)

  module _ {r₄ r₅ : Bytes} {lt lp : ℕ} (t : Number r₃ lt r₄) (p : Number r₄ lp r₅) where
    second : r₄ ≡ drop 4 (drop 6 s)
    second = t.1 ∙ ap (λ (x : Bytes). drop 4 x) lengths_at

    parts : r₅ ≡ drop 4 (drop 4 (drop 6 s))
    parts = p.1 ∙ ap (λ (x : Bytes). drop 4 x) second

    pub templates_long : lt ≡ four (drop 6 s)
    templates_long = t.0 ∙ ap four lengths_at

    page_out_long : lp ≡ four (drop 4 (drop 6 s))
    page_out_long = p.0 ∙ ap four second

    pub page_out_ten : lp ≡ four (drop 10 s)
    page_out_ten = page_out_long ∙ ap four (ten s)

    pub stands : tag ≡ 0x97 → {q : Bool} → q ≡ house_right A14 house → q ≡ true → {w x r₆ r : Bytes} → IsSplitAt r₅ lt w r₆ → IsSplitAt r₆ lp x r → IsPage s name house w x r
    stands g e q {w} {x} {r₆} {r} b c =
        let k = house_within house e q in
        let f₆ : drop (four (drop 6 s)) (drop 4 (drop 4 (drop 6 s))) ≡ r₆ = ap₂ (λ (n : ℕ) (x : Bytes). drop n x) (sym templates_long) (sym parts) ∙ sym b.2 in
        record {
          is_framed =
              framed_by s (record {
                begins = sym (at_tag s r₁ tag a.0).0 ∙ g;
                house_least = omega (arith, house_at, k.0);
                house_most = omega (arith, house_at, k.1);
                inside = omega (arith, templates_long, page_out_ten, a.1, n.2, h.1, t.2, p.2, b.0, b.4, c.0);
              });
          name_is = n.0 ∙ ap four (at_tag s r₁ tag a.0).1;
          house_is = house_at;
          templates_is = b.1 ∙ ap₂ (λ (n : ℕ) (x : Bytes). take n x) templates_long parts;
          page_out_is = c.1 ∙ ap₂ (λ (n : ℕ) (x : Bytes). take n x) page_out_long (sym f₆);
          behind_is = c.2 ∙ ap₂ (λ (n : ℕ) (x : Bytes). drop n x) page_out_long (sym f₆);
          sizes = omega (arith, a.1, n.2, h.1, t.2, p.2, b.3, b.4, c.3, c.4);
        }

-- ---- the page that is read there

pub at_six : (s : Bytes) → at_lengths housed (drop 1 s) ≡ drop 6 s
unfolding project
at_six s = drop-drop 1 4 (drop 1 s) ∙ drop-drop 5 1 s

pub house_five : (s : Bytes) → get_or (drop 4 (drop 1 s)) 0 0 ≡ get_or s 5 0
house_five s = get_or-drop 4 (drop 1 s) 0 0 ∙ get_or-drop 1 s 4 0

-- n templates stand before it
abbrev pub page_of : ℕ → Bytes → Page
page_of n s = record { name = four (drop 1 s); house = get_or s 5 0; body = housed.down n (body_in (drop 6 s)) }

pub page_in_is : (n : ℕ) (s : Bytes) → page_in housed n (drop 1 s) ≡ page_of n s
unfolding page_in project
page_in_is n s = ap₂ (λ (h : ℕ) (b : Bytes). record { name = four (drop 1 s); house = h; body = housed.down n (body_in b) }) (house_five s) (at_six s)

pub behind_is : (s : Bytes) → behind housed (drop 1 s) ≡ behind_body (drop 6 s)
behind_is s = ap behind_body (at_six s)

regroup : (l w h j : Bool) → (l && (w && (h && j))) ≡ ((l && (w && h)) && j)
regroup true true h j = refl
regroup true false h j = refl
regroup false w h j = refl

-- it is right where the frame stands and the judge refuses nothing
pub right_is : (n c : ℕ) (b : Bytes) → eqb c 0x97 ≡ true → page_right housed b (page_in housed n b) ≡ (framed (c ∷ b) && eqb (housed.judge (page_of n (c ∷ b)).body) 0)
unfolding page_right framed page_in project
right_is n c b t =
    let j : ℕ → Bytes → Bool = λ (k : ℕ) (d : Bytes). leb 5 (length b) && (within d && (house_right A14 k && eqb (housed.judge (housed.down n (body_in d))) 0)) in
    ap₂ j (house_five (c ∷ b)) (at_six (c ∷ b))
    ∙ regroup (leb 5 (length b)) (within (drop 5 b)) (house_right A14 (get_or b 4 0)) (eqb (housed.judge (housed.down n (body_in (drop 5 b)))) 0)
    ∙ ap (λ (q : Bool). (q && (leb 5 (length b) && (within (drop 5 b) && house_right A14 (get_or b 4 0)))) && eqb (housed.judge (housed.down n (body_in (drop 5 b)))) 0) (sym t)
