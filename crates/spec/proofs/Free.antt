-- Texts with neither `<` nor `>`: what 000 writes into static strings beside its tags. Assumes nothing.
use Prim.Native.Nat.{ℕ}
use mathlib.Core.Path.{◌≡◌, refl, sym, ap, ◌∙◌, subst}
use mathlib.Core.Bool.{Bool, true, false, ◌&&◌, ◌||◌, not, false≢true}
use mathlib.Core.List.{List, [], ◌∷◌, ◌++◌}
use lib.Dec.{T, eqb, eqb→eq}
use Rattle.std.proofs.Math.Facts.{and_yes}
use Rattle.field.specs.Bytes.{Bytes, same, among}
use Rattle.names.specs.Names.{is_boolean_attr, boolean_names, is_void_element, void_names, small_letter, small_letters}
use Rattle.text.specs.Escape.{escape_byte, escape_html}
use Rattle.text.specs.Text.{escape_if, jsx_text_to_str}
use Rattle.page.specs.Number.{Number, render}
use Rattle.page.specs.Check.{name_part, name_parts, is_name}
use Rattle.page.proofs.NumberLaws.{render_escaped}
use Rattle.spec.specs.Attributes.{serialize_attr, void_when_lowered}
use Rattle.spec.specs.Words.{Comparison, in_small_letters, by_bytes, compared, WellNestedBy, free}
use Rattle.spec.proofs.Markup.{NameFront, read_free_outside, free_front, not_name_byte, name_has_parts, name_front}

-- 01, Well nested: text with neither sign is well nested, the empty text too
pub free_nested : (how : Comparison) (b : Bytes) → T (free b) → WellNestedBy how b
unfolding WellNestedBy
free_nested how b h = read_free_outside how [] b h

pub free_append : (a b : Bytes) → T (free a) → T (free b) → T (free (a ++ b))
unfolding free
free_append [] b g h = h
free_append (c ∷ a) b g h = let f = free_front c a g in rw (f.not_less, f.not_greater) (free_append a b f.rest h)

-- ---- escapes

escape_byte_free : (c : ℕ) → T (free (escape_byte c))
unfolding escape_byte free
escape_byte_free c = on (eqb c 38) (eqb c 60) (eqb c 62) (eqb c 39) (eqb c 34) refl refl refl refl refl
  where
    on : (amp less greater apos quot : Bool) →
        eqb c 38 ≡ amp → eqb c 60 ≡ less → eqb c 62 ≡ greater → eqb c 39 ≡ apos → eqb c 34 ≡ quot → T (free (escape_byte c))
    on true less greater apos quot e f g h i = rw e tt
    on false true greater apos quot e f g h i = rw (e, f) tt
    on false false true apos quot e f g h i = rw (e, f, g) tt
    on false false false true quot e f g h i = rw (e, f, g, h) tt
    on false false false false true e f g h i = rw (e, f, g, h, i) tt
    on false false false false false e f g h i = rw (e, f, g, h, i) (rw (f, g) tt)

pub escape_free : (b : Bytes) → T (free (escape_html b))
unfolding escape_html free
escape_free [] = tt
escape_free (c ∷ b) = free_append (escape_byte c) (escape_html b) (escape_byte_free c) (escape_free b)

-- no sign that is escaped stands in a name
escape_name_parts : (n : Bytes) → T (name_parts n) → escape_html n ≡ n
unfolding escape_html escape_byte
escape_name_parts [] h = refl
escape_name_parts (c ∷ n) h =
    let p = name_front c n h in
    rw (differs 38 (λ x. x) p, differs 60 (λ x. x) p, differs 62 (λ x. x) p, differs 39 (λ x. x) p, differs 34 (λ x. x) p)
    (ap (λ (l : Bytes). c ∷ l) (escape_name_parts n p.rest))
  where
    differs : (k : ℕ) → (T (name_part k) → ⊥) → NameFront c n → eqb c k ≡ false
    differs k f p = not_name_byte k f c p.part

pub escape_name : (n : Bytes) → T (is_name n) → escape_html n ≡ n
escape_name n h = escape_name_parts n (name_has_parts n h)

pub text_free : (t : Bytes) (trim : Bool) → T (free (jsx_text_to_str t true trim))
unfolding jsx_text_to_str escape_if
text_free t trim = escape_free _

-- ---- numbers

pub render_free : (n : Number) → T (free (render n))
render_free n = subst (λ (b : Bytes). T (free b)) (render_escaped n) (escape_free (render n))

-- ---- boolean attributes: the 24 are free

same_equal : (x y : Bytes) → T (same x y) → x ≡ y
unfolding same
same_equal [] [] h = refl
same_equal [] (d ∷ y) h = absurd h
same_equal (c ∷ x) [] h = absurd h
same_equal (c ∷ x) (d ∷ y) h =
    let f = and_yes (eqb c d) (same x y) h in
    let e = eqb→eq c d f.0 in
    let g = same_equal x y f.1 in
    cc

all_free : List Bytes → Bool
all_free [] = true
all_free (y ∷ ys) = free y && all_free ys

among_free : (x : Bytes) (ys : List Bytes) → T (all_free ys) → among x ys ≡ true → T (free x)
unfolding among all_free
among_free x [] h e = absurd (false≢true e)
among_free x (y ∷ ys) h e = let f = and_yes (free y) (all_free ys) h in on (same x y) (same_equal x y) f.0 (among_free x ys f.1) e
  where
    on : (b : Bool) → (T b → x ≡ y) → T (free y) → (among x ys ≡ true → T (free x)) → (b || among x ys) ≡ true → T (free x)
    on true g first rest e = rw (g tt) first
    on false g first rest e = rest e

pub boolean_free : (n : Bytes) → is_boolean_attr n ≡ true → T (free n)
unfolding is_boolean_attr boolean_names all_free free
boolean_free n h = among_free n boolean_names tt h

-- ---- the 14 are in small letters

all_small : List Bytes → Bool
all_small [] = true
all_small (y ∷ ys) = same (small_letters y) y && all_small ys

among_small : (x : Bytes) (ys : List Bytes) → T (all_small ys) → among x ys ≡ true → small_letters x ≡ x
unfolding among all_small
among_small x [] h e = absurd (false≢true e)
among_small x (y ∷ ys) h e = let f = and_yes (same (small_letters y) y) (all_small ys) h in on (same x y) (same_equal x y) (same_equal (small_letters y) y f.0) (among_small x ys f.1) e
  where
    on : (b : Bool) → (T b → x ≡ y) → small_letters y ≡ y → (among x ys ≡ true → small_letters x ≡ x) → (b || among x ys) ≡ true → small_letters x ≡ x
    on true g first rest e = rw (g tt) first
    on false g first rest e = rest e

void_small : (n : Bytes) → is_void_element n ≡ true → small_letters n ≡ n
unfolding is_void_element void_names all_small small_letters small_letter same
void_small n h = among_small n void_names tt h

pub void_compared : (n : Bytes) → is_void_element n ≡ true → (how : Comparison) → is_void_element (compared how n) ≡ true
unfolding compared
void_compared n h in_small_letters = ap is_void_element (void_small n h) ∙ h
void_compared n h by_bytes = h

-- what is not void stays so in small letters, unless it is marked
pub unmixed_compared : (n : Bytes) → is_void_element n ≡ false → T (not (void_when_lowered n)) → (how : Comparison) → is_void_element (compared how n) ≡ false
unfolding compared void_when_lowered
unmixed_compared n e h by_bytes = e
unmixed_compared n e h in_small_letters = on (is_void_element (small_letters n)) (is_void_element n) e h
  where
    on : (a b : Bool) → b ≡ false → T (not (a && not b)) → a ≡ false
    on true true e h = absurd (false≢true (sym e))
    on true false e h = absurd h
    on false b e h = refl

-- ---- an attribute with its value, behind the space

pub attr_free : (n v : Bytes) → (b : Bytes) → serialize_attr n v ≡ 32 ∷ b → T (free b)
unfolding serialize_attr free
attr_free n v b h =
    let e : escape_html n ++ (61 ∷ 34 ∷ (escape_html v ++ (34 ∷ []))) ≡ b = cc in
    subst (λ (l : Bytes). T (free l)) e
    (free_append (escape_html n) (61 ∷ 34 ∷ (escape_html v ++ (34 ∷ []))) (escape_free n) (free_append (escape_html v) (34 ∷ []) (escape_free v) tt))
