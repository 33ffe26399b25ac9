-- What the code counts decides whether a name is one of 01's. Main statement: `shape_is`. Assumes nothing.
use Prim.Native.Nat.{ℕ, suc}
use mathlib.Core.Path.{◌≡◌, refl, sym, ◌∙◌, ap, subst}
use mathlib.Core.Bool.{Bool, true, false, ◌&&◌, ◌||◌, not}
use mathlib.Core.List.{[], ◌∷◌}
use mathlib.Core.Logic.{◌⊎◌, inl, inr}
use native.Mathlib.Omega.{arith}
use borrow.Author.Tests.{le-leb, lt-leb, ne_eqb}
use lib.Dec.{T, leb, eqb, leb→le, nleb→lt}
use lib.ListN.{length}
use Rattle.std.specs.Prelude.{Option, Some, None}
use Rattle.field.specs.Bytes.{Bytes}
use Rattle.grammar.specs.Signs.{choose, separator}
use Rattle.grammar.specs.Syntax.{Part, part, Name, short, no_hyphen, member_parts, attribute_name_fits, member_fits, tag_name_fits}
use Rattle.grammar.proofs.Tests.{or_cases, at_eq}
use Rattle.read_tag.specs.Shapes.{name_tag, all_short, all_plain, all_points, Separated, shape_tag}

shuffle : (p s h q t g : Bool) → (((p && s) && h) && (q && (t && g))) ≡ ((p && q) && ((s && t) && (h && g)))
shuffle true true true q t g = refl
shuffle true true false true true g = refl
shuffle true true false true false g = refl
shuffle true true false false t g = refl
shuffle true false h true t g = refl
shuffle true false h false t g = refl
shuffle false s h q t g = refl

members_are : (ps : Name) → member_parts ps ≡ (all_points ps && (all_short ps && all_plain ps))
unfolding member_parts all_points all_short all_plain
members_are [] = refl
members_are (part d w ∷ ps) =
    ap (λ (z : Bool). ((eqb d 46 && short w) && no_hyphen w) && z) (members_are ps) ∙
    shuffle (eqb d 46) (short w) (no_hyphen w) (all_points ps) (all_short ps) (all_plain ps)

-- a member: the test as the grammar has it and as the code has it
member_bits : (s h l p t g : Bool) → ◌≡◌ {A = Option ℕ} (choose (s && t) (choose p (choose ((h && g) && l) (Some 0x41) None) None) None) (choose (((s && h) && l) && (p && (t && g))) (Some 0x41) None)
unfolding choose
member_bits true true true true true true = refl
member_bits true true true true true false = refl
member_bits true true true true false g = refl
member_bits true true true false true g = refl
member_bits true true true false false g = refl
member_bits true true false true true true = refl
member_bits true true false true true false = refl
member_bits true true false true false g = refl
member_bits true true false false true g = refl
member_bits true true false false false g = refl
member_bits true false l true true g = refl
member_bits true false l true false g = refl
member_bits true false l false true g = refl
member_bits true false l false false g = refl
member_bits false h l p t g = refl

one_bits : (s : Bool) → ◌≡◌ {A = Option ℕ} (choose (s && true) (Some 0x40) None) (choose (s || false) (Some 0x40) None)
unfolding choose
one_bits true = refl
one_bits false = refl

-- two parts and a colon
colon_bits : (s t : Bool) (x : Bool) → ◌≡◌ {A = Option ℕ} (choose (s && (t && true)) (Some 0x42) None) (choose (((true && s) && t) || (x && (false && true))) (Some 0x42) None)
unfolding choose
colon_bits true true x = refl
colon_bits true false true = refl
colon_bits true false false = refl
colon_bits false t true = refl
colon_bits false t false = refl

-- two parts and a point
point_bits : (s t h g : Bool) → ◌≡◌ {A = Option ℕ} (choose (s && (t && true)) (choose ((h && (g && true)) && true) (Some 0x41) None) None) (choose (((false && s) && t) || (((s && h) && true) && (((true && t) && g) && true))) (Some 0x41) None)
unfolding choose
point_bits true true true true = refl
point_bits true true true false = refl
point_bits true true false g = refl
point_bits true false true g = refl
point_bits true false false g = refl
point_bits false t h g = refl

two_points : (a : ℕ) (w v : Bytes) → shape_tag 2 (all_short (part a w ∷ part 46 v ∷ [])) (all_plain (part a w ∷ part 46 v ∷ [])) (all_points (part 46 v ∷ [])) ≡ choose (tag_name_fits (part a w ∷ part 46 v ∷ [])) (Some (name_tag (part a w ∷ part 46 v ∷ []))) None
unfolding shape_tag all_short all_plain all_points tag_name_fits attribute_name_fits member_fits member_parts name_tag choose
two_points a w v = point_bits (short w) (short v) (no_hyphen w) (no_hyphen v)

two_colon : (a : ℕ) (w v : Bytes) → shape_tag 2 (all_short (part a w ∷ part 58 v ∷ [])) (all_plain (part a w ∷ part 58 v ∷ [])) (all_points (part 58 v ∷ [])) ≡ choose (tag_name_fits (part a w ∷ part 58 v ∷ [])) (Some (name_tag (part a w ∷ part 58 v ∷ []))) None
unfolding shape_tag all_short all_plain all_points tag_name_fits attribute_name_fits member_fits member_parts name_tag choose
two_colon a w v = colon_bits (short w) (short v) ((short w && no_hyphen w) && true)

-- a separator is a point or a colon
by_sign : (e : ℕ) → T (separator e) → (P : ℕ → Type 0) → P 46 → P 58 → P e
unfolding separator
by_sign e t P a b = on (or_cases (eqb e 46) (eqb e 58) t)
  where
    on : T (eqb e 46) ⊎ T (eqb e 58) → P e
    on (inl u) = at_eq P e 46 u a
    on (inr u) = at_eq P e 58 u b

-- three parts or more
six_eight : (k : ℕ) → leb (suc (suc (suc k))) 8 ≡ leb (suc k) 6
six_eight k = on (leb (suc k) 6) refl
  where
    on : (b : Bool) → leb (suc k) 6 ≡ b → leb (suc (suc (suc k))) 8 ≡ leb (suc k) 6
    on true e = let l = leb→le (suc k) 6 (subst T (sym e) tt) in le-leb (suc (suc (suc k))) 8 (omega arith) ∙ sym e
    on false e = let l = nleb→lt (suc k) 6 (subst (λ (b : Bool). T (not b)) (sym e) tt) in lt-leb (suc (suc (suc k))) 8 (omega arith) ∙ sym e

counted : (k : ℕ) (s h p : Bool) → shape_tag (suc (suc (suc k))) s h p ≡ choose s (choose p (choose (h && leb (suc k) 6) (Some 0x41) None) None) None
unfolding shape_tag choose
counted k s h p =
    ap (λ (z : Bool). choose s (choose z (Some 0x40) (choose p (choose (h && leb (suc (suc (suc k))) 8) (Some 0x41) None) (choose (eqb (suc (suc (suc k))) 2) (Some 0x42) None))) None) (ne_eqb (suc (suc (suc k))) 1 (λ z. omega arith)) ∙
    ap (λ (z : Bool). choose s (choose p (choose (h && leb (suc (suc (suc k))) 8) (Some 0x41) None) (choose z (Some 0x42) None)) None) (ne_eqb (suc (suc (suc k))) 2 (λ z. omega arith)) ∙
    ap (λ (z : Bool). choose s (choose p (choose (h && z) (Some 0x41) None) None) None) (six_eight k)

more_points : (a : ℕ) (w v : Bytes) (q : Part) (qs : Name) → shape_tag (suc (suc (suc (length qs)))) (all_short (part a w ∷ part 46 v ∷ q ∷ qs)) (all_plain (part a w ∷ part 46 v ∷ q ∷ qs)) (all_points (part 46 v ∷ q ∷ qs)) ≡ choose (tag_name_fits (part a w ∷ part 46 v ∷ q ∷ qs)) (Some (name_tag (part a w ∷ part 46 v ∷ q ∷ qs))) None
unfolding tag_name_fits attribute_name_fits member_fits name_tag choose all_short all_plain
more_points a w v q qs =
    let L : Name = part 46 v ∷ q ∷ qs in
    counted (length qs) (all_short (part a w ∷ L)) (all_plain (part a w ∷ L)) (all_points L) ∙
    member_bits (short w) (no_hyphen w) (leb (suc (length qs)) 6) (all_points L) (all_short L) (all_plain L) ∙
    ap (λ (z : Bool). choose (((short w && no_hyphen w) && leb (suc (length qs)) 6) && z) (Some 0x41) None) (sym (members_are L))

more_colons : (a : ℕ) (w v : Bytes) (q : Part) (qs : Name) → shape_tag (suc (suc (suc (length qs)))) (all_short (part a w ∷ part 58 v ∷ q ∷ qs)) (all_plain (part a w ∷ part 58 v ∷ q ∷ qs)) (all_points (part 58 v ∷ q ∷ qs)) ≡ choose (tag_name_fits (part a w ∷ part 58 v ∷ q ∷ qs)) (Some (name_tag (part a w ∷ part 58 v ∷ q ∷ qs))) None
unfolding tag_name_fits attribute_name_fits member_fits name_tag choose all_points
more_colons a w v q qs =
    let L : Name = part 58 v ∷ q ∷ qs in
    let c : ◌≡◌ {A = Option ℕ} (choose (all_short (part a w ∷ L)) None None) None = same_both (all_short (part a w ∷ L)) in
    let d : member_parts L ≡ (all_points L && (all_short L && all_plain L)) = members_are L in
    counted (length qs) (all_short (part a w ∷ L)) (all_plain (part a w ∷ L)) (all_points L) ∙ c ∙
    sym (nothing ((short w && no_hyphen w) && leb (suc (length qs)) 6)) ∙
    ap (λ (z : Bool). choose (((short w && no_hyphen w) && leb (suc (length qs)) 6) && z) (Some 0x42) None) (sym d)
  where
    same_both : (b : Bool) → ◌≡◌ {A = Option ℕ} (choose b None None) None
    same_both true = refl
    same_both false = refl

    nothing : (b : Bool) → ◌≡◌ {A = Option ℕ} (choose (b && false) (Some 0x42) None) None
    nothing true = refl
    nothing false = refl

-- whatever name was counted: its tag where it is one of 01's, else none
pub shape_is : (p : Part) (ps : Name) → Separated ps → shape_tag (length (p ∷ ps)) (all_short (p ∷ ps)) (all_plain (p ∷ ps)) (all_points ps) ≡ choose (tag_name_fits (p ∷ ps)) (Some (name_tag (p ∷ ps))) None
unfolding Separated
shape_is (part a w) [] h = unfold shape_tag all_short all_plain all_points tag_name_fits attribute_name_fits member_fits name_tag choose in one_bits (short w)
shape_is (part a w) (part e v ∷ []) h =
    by_sign e h.0 (λ (d : ℕ). shape_tag 2 (all_short (part a w ∷ part d v ∷ [])) (all_plain (part a w ∷ part d v ∷ [])) (all_points (part d v ∷ [])) ≡ choose (tag_name_fits (part a w ∷ part d v ∷ [])) (Some (name_tag (part a w ∷ part d v ∷ []))) None) (two_points a w v) (two_colon a w v)
shape_is (part a w) (part e v ∷ q ∷ qs) h =
    by_sign e h.0 (λ (d : ℕ). shape_tag (suc (suc (suc (length qs)))) (all_short (part a w ∷ part d v ∷ q ∷ qs)) (all_plain (part a w ∷ part d v ∷ q ∷ qs)) (all_points (part d v ∷ q ∷ qs)) ≡ choose (tag_name_fits (part a w ∷ part d v ∷ q ∷ qs)) (Some (name_tag (part a w ∷ part d v ∷ q ∷ qs))) None) (more_points a w v q qs) (more_colons a w v q qs)

-- ---- of one identifier alone
pub shape_one : (h p : Bool) → ◌≡◌ {A = Option ℕ} (shape_tag 1 true h p) (Some 0x40)
unfolding shape_tag choose
shape_one h p = refl

pub shape_long : (n : ℕ) (h p : Bool) → ◌≡◌ {A = Option ℕ} (shape_tag n false h p) None
unfolding shape_tag choose
shape_long n h p = refl
