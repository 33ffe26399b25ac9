-- Markup read byte by byte, as `WellNested` reads it: texts with neither sign, names, tags, markup within open names.
-- Main statements: `read_append`, `read_free_outside`, `read_free_inside`, `read_nested`, `end_named_tag`, `read_closing_tag`. Assumes nothing.
use Prim.Native.Nat.{ℕ}
use mathlib.Core.Path.{◌≡◌, refl, sym, ◌∙◌, ap}
use mathlib.Core.Bool.{Bool, true, false, ◌&&◌, not}
use mathlib.Core.List.{List, [], ◌∷◌, ◌++◌, append_assoc, append-nil}
use mathlib.Core.Logic.{◌⊎◌, inl, inr}
use lib.Dec.{T, leb, eqb, eqb→eq, eqb_refl}
use lib.ListN.{length}
use native.Mathlib.Omega.{arith}
use Rattle.std.proofs.Math.Facts.{and_yes}
use borrow.Author.Tests.{ne_eqb}
use Rattle.page.proofs.Booleans.{is_true, is_false}
use Rattle.field.specs.Bytes.{Bytes, pick, same}
use Rattle.names.specs.Names.{is_void_element}
use Rattle.page.specs.Check.{name_start, name_part, name_parts, is_name}
use Rattle.spec.specs.Words.{Reading, outside, inside_tag, ill, Comparison, compared, to_space, close_tag, open_tag, end_tag, read_byte, read_markup, WellNestedBy, free}

pub read_append : (how : Comparison) (m : Reading) (x y : Bytes) → read_markup how m (x ++ y) ≡ read_markup how (read_markup how m x) y
unfolding read_markup
read_append how m [] y = refl
read_append how m (c ∷ x) y = read_append how (read_byte how m c) x y

-- ---- tests

pub same_refl : (x : Bytes) → same x x ≡ true
unfolding same
same_refl [] = refl
same_refl (c ∷ x) = rw (is_true (eqb c c) (eqb_refl c)) (same_refl x)

-- ---- texts with neither sign

pub record FreeFront (c : ℕ) (x : Bytes) : Type 0 where
  pub not_less : eqb c 60 ≡ false
  pub not_greater : eqb c 62 ≡ false
  pub rest : T (free x)

pub free_front : (c : ℕ) (x : Bytes) → T (free (c ∷ x)) → FreeFront c x
unfolding free
free_front c x h =
    let f = and_yes (not (eqb c 60)) (not (eqb c 62) && free x) h in
    let g = and_yes (not (eqb c 62)) (free x) f.1 in
    record { not_less = is_false (eqb c 60) f.0; not_greater = is_false (eqb c 62) g.0; rest = g.1 }

pub read_free_outside : (how : Comparison) (ns : List Bytes) (x : Bytes) → T (free x) → read_markup how (outside ns) x ≡ outside ns
unfolding read_markup read_byte
read_free_outside how ns [] h = refl
read_free_outside how ns (c ∷ x) h = let f = free_front c x h in rw (f.not_less, f.not_greater) (read_free_outside how ns x f.rest)

pub read_free_inside : (how : Comparison) (ns : List Bytes) (b x : Bytes) → T (free x) → read_markup how (inside_tag ns b) x ≡ inside_tag ns (b ++ x)
unfolding read_markup read_byte
read_free_inside how ns b [] h = rw append-nil
read_free_inside how ns b (c ∷ x) h =
    let f = free_front c x h in
    rw (f.not_less, f.not_greater) (read_free_inside how ns (b ++ (c ∷ [])) x f.rest ∙ ap (inside_tag ns) (append_assoc b (c ∷ []) x))

-- ---- markup within open names: what is well nested by itself is so within any open names, which it leaves open

with_open : List Bytes → Reading → Reading
with_open os (outside ns) = outside (ns ++ os)
with_open os (inside_tag ns b) = inside_tag (ns ++ os) b
with_open os ill = ill

-- a reading by itself, and the same within open names, unless it fails by itself
abbrev Within : List Bytes → Reading → Reading → Type 0
Within os m k = (m ≡ ill) ⊎ (k ≡ with_open os m)

close_within : (os ns : List Bytes) (n : Bytes) → Within os (close_tag ns n) (close_tag (ns ++ os) n)
unfolding with_open close_tag
close_within os [] n = inl refl
close_within os (m ∷ ns) n = on (same m n)
  where
    on : (b : Bool) → Within os (pick b (outside ns) ill) (pick b (outside (ns ++ os)) ill)
    on true = inr refl
    on false = inl refl

open_within : (os ns : List Bytes) (n : Bytes) → Within os (open_tag ns n) (open_tag (ns ++ os) n)
unfolding with_open open_tag
open_within os ns n = on (is_void_element n)
  where
    on : (b : Bool) → Within os (pick b (outside ns) (outside (n ∷ ns))) (pick b (outside (ns ++ os)) (outside (n ∷ (ns ++ os))))
    on true = inr refl
    on false = inr refl

-- where a test decides, both ways are within
pick_within : (os : List Bytes) (b : Bool) {m m' k k' : Reading} → Within os m k → Within os m' k' → Within os (pick b m m') (pick b k k')
pick_within os true h h' = h
pick_within os false h h' = h'

end_within : (how : Comparison) (os ns : List Bytes) (b : Bytes) → Within os (end_tag how ns b) (end_tag how (ns ++ os) b)
unfolding end_tag
end_within how os ns [] = open_within os ns []
end_within how os ns (c ∷ cs) = pick_within os (eqb c 47) (close_within os ns _) (open_within os ns _)

byte_within : (how : Comparison) (os : List Bytes) (m : Reading) (c : ℕ) → Within os (read_byte how m c) (read_byte how (with_open os m) c)
unfolding read_byte with_open
byte_within how os (outside ns) c = pick_within os (eqb c 60) (inr refl) (pick_within os (eqb c 62) (inl refl) (inr refl))
byte_within how os (inside_tag ns b) c = pick_within os (eqb c 60) (inl refl) (pick_within os (eqb c 62) (end_within how os ns b) (inr refl))
byte_within how os ill c = inl refl

pub read_ill : (how : Comparison) (w : Bytes) → read_markup how ill w ≡ ill
unfolding read_markup read_byte
read_ill how [] = refl
read_ill how (c ∷ w) = read_ill how w

read_within : (how : Comparison) (os : List Bytes) (w : Bytes) (m : Reading) → Within os (read_markup how m w) (read_markup how (with_open os m) w)
unfolding read_markup
read_within how os [] m = inr refl
read_within how os (c ∷ w) m = on (byte_within how os m c) (read_within how os w (read_byte how m c))
  where
    on : Within os (read_byte how m c) (read_byte how (with_open os m) c) →
        Within os (read_markup how (read_byte how m c) w) (read_markup how (with_open os (read_byte how m c)) w) →
        Within os (read_markup how (read_byte how m c) w) (read_markup how (read_byte how (with_open os m) c) w)
    on (inl e) h = inl (ap (λ (k : Reading). read_markup how k w) e ∙ read_ill how w)
    on (inr e) h = rw e h

pub read_nested : (how : Comparison) (ns : List Bytes) (w : Bytes) → WellNestedBy how w → read_markup how (outside ns) w ≡ outside ns
unfolding WellNestedBy with_open
read_nested how ns w h = on (read_within how ns w (outside []))
  where
    on : Within ns (read_markup how (outside []) w) (read_markup how (outside ns) w) → read_markup how (outside ns) w ≡ outside ns
    on (inl e) = let z : ◌≡◌ {A = ℕ} 0 1 = cc in absurd (omega arith)
    on (inr e) = e ∙ ap (with_open ns) h

-- ---- names

-- a byte that no name has is not in a name
pub not_name_byte : (k : ℕ) → (T (name_part k) → ⊥) → (c : ℕ) → T (name_part c) → eqb c k ≡ false
not_name_byte k f c h = ne_eqb c k (λ e. f (rw e at h))

pub name_has_parts : (n : Bytes) → T (is_name n) → T (name_parts n)
unfolding is_name name_parts
name_has_parts [] h = absurd h
name_has_parts (c ∷ n) h =
    let f = and_yes (name_start c) (name_parts n) (and_yes (leb (length (c ∷ n)) 128) (name_start c && name_parts n) h).1 in
    rw (is_true (name_start c) f.0) f.1

pub record NameFront (c : ℕ) (n : Bytes) : Type 0 where
  pub part : T (name_part c)
  pub rest : T (name_parts n)

pub name_front : (c : ℕ) (n : Bytes) → T (name_parts (c ∷ n)) → NameFront c n
unfolding name_parts
name_front c n h = let f = and_yes (name_part c) (name_parts n) h in record { part = f.0; rest = f.1 }

pub name_free : (n : Bytes) → T (name_parts n) → T (free n)
unfolding free
name_free [] h = tt
name_free (c ∷ n) h =
    let f = name_front c n h in
    rw (not_name_byte 60 (λ x. x) c f.part, not_name_byte 62 (λ x. x) c f.part) (name_free n f.rest)

-- ---- tags

-- nothing, or a space in front
unfoldable pub space_first : Bytes → Bool
space_first [] = true
space_first (c ∷ cs) = eqb c 32

pub space_first_append : (t x : Bytes) → T (space_first t) → T (space_first x) → T (space_first (t ++ x))
unfolding space_first
space_first_append [] x h k = k
space_first_append (c ∷ t) x h k = h

name_to_space : (n t : Bytes) → T (name_parts n) → T (space_first t) → to_space (n ++ t) ≡ n
unfolding to_space space_first
name_to_space [] [] h k = refl
name_to_space [] (c ∷ t) h k = rw (is_true (eqb c 32) k)
name_to_space (c ∷ n) t h k =
    let f = name_front c n h in
    rw (not_name_byte 32 (λ x. x) c f.part) (ap (λ (l : Bytes). c ∷ l) (name_to_space n t f.rest k))

-- the text of an opening tag: a name, and what stands behind it
pub end_named_tag : (how : Comparison) (ns : List Bytes) (n t : Bytes) → T (is_name n) → T (space_first t) → end_tag how ns (n ++ t) ≡ open_tag ns (compared how n)
unfolding end_tag is_name
end_named_tag how ns [] t h k = absurd h
end_named_tag how ns (c ∷ n) t h k =
    let p = name_has_parts (c ∷ n) h in
    rw (not_name_byte 47 (λ x. x) c (name_front c n p).part, name_to_space (c ∷ n) t p k)

pub read_closing_tag : (how : Comparison) (ns : List Bytes) (n : Bytes) → T (is_name n) → read_markup how (outside (compared how n ∷ ns)) (60 ∷ 47 ∷ (n ++ (62 ∷ []))) ≡ outside ns
unfolding read_markup read_byte end_tag close_tag space_first
read_closing_tag how ns n h =
    read_append how (inside_tag (compared how n ∷ ns) (47 ∷ [])) n (62 ∷ []) ∙
    ap (λ (m : Reading). read_markup how m (62 ∷ [])) (read_free_inside how (compared how n ∷ ns) (47 ∷ []) n (name_free n p)) ∙
    closing
  where
    p : T (name_parts n)
    p = name_has_parts n h

    named : to_space n ≡ n
    named = ap to_space (sym (append-nil n)) ∙ name_to_space n [] p tt

    closing : read_markup how (inside_tag (compared how n ∷ ns) (47 ∷ n)) (62 ∷ []) ≡ outside ns
    closing = rw (named, same_refl)
