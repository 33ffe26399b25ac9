-- Laws of namespaced names: `xlink:href` is the one that the table has, and all others go to small letters on both sides of the colon.
-- Main statements: `namespaced_xlink`, `namespaced_other`, `namespaced_same`.
-- Assumes nothing.
use mathlib.Core.Path.{◌≡◌, refl, sym, ap, ap₂, ◌∙◌}
use mathlib.Core.Bool.{Bool, true, false, ◌&&◌, ◌||◌, not, false≢true, and-false, and_assoc}
use mathlib.Core.List.{[], ◌∷◌, ◌++◌}
use Prim.Native.Nat.{suc, ◌+◌, ◌≤◌, ◌<◌}
use native.Mathlib.Nat.{not-suc-le-zero, le_of_suc-le-suc}
use native.Mathlib.Numerals.{add-one}
use native.Mathlib.Omega.{arith}
use lib.Dec.{eqb}
use lib.ListN.{length, get_or, take, drop, length-append}
use borrow.Author.Tests.{not-true}
use Rattle.field.specs.Bytes.{Bytes, ascii, same, among}
use Rattle.names.specs.Names.{hyphenated_names, kept_names, renamed, small_letter, small_letters, parted, rename_in, normalize_dom_attr_name}
use Rattle.names.proofs.CompareLaws.{same_eq, same_other, length_small}
use Rattle.names.proofs.ListLaws.{and_left, and_right, refuted}
use Rattle.names.proofs.NormalizeLaws.{listed, over_lists, normalize_listed, normalize_unlisted}

unfoldable pub colon_free : Bytes → Bool
colon_free [] = true
colon_free (c ∷ cs) = not (eqb 58 c) && colon_free cs

pub has_colon : (a b : Bytes) → colon_free (a ++ (58 ∷ b)) ≡ false
unfolding colon_free
has_colon [] b = refl
has_colon (c ∷ a) b = rw (has_colon a b) (and-false (not (eqb 58 c)))

-- a text without a colon is no text with one
no_colon : (a b d : Bytes) → colon_free d ≡ true → same (a ++ (58 ∷ b)) d ≡ false
unfolding same colon_free
no_colon [] b [] h = refl
no_colon [] b (y ∷ d) h = rw (not-true (eqb 58 y) (and_left (not (eqb 58 y)) (colon_free d) h))
no_colon (x ∷ a) b [] h = refl
no_colon (x ∷ a) b (y ∷ d) h = rw (no_colon a b d (and_right (not (eqb 58 y)) (colon_free d) h)) (and-false (eqb x y))

-- texts of one colon are the same when both their parts are
same_joined : (a b c d : Bytes) → colon_free c ≡ true → colon_free d ≡ true → same (a ++ (58 ∷ b)) (c ++ (58 ∷ d)) ≡ (same a c && same b d)
unfolding same colon_free
same_joined [] b [] d p q = refl
same_joined [] b (y ∷ c) d p q = rw (not-true (eqb 58 y) (and_left (not (eqb 58 y)) (colon_free c) p))
same_joined (x ∷ a) b [] d p q = rw (no_colon a b d q) (and-false (eqb x 58))
same_joined (x ∷ a) b (y ∷ c) d p q =
    rw (same_joined a b c d (and_right (not (eqb 58 y)) (colon_free c) p) q) (sym (and_assoc (eqb x y) (same a c) (same b d)))

-- ---- xlink:href

pub namespaced_xlink : (ns n : Bytes) → (same ns (ascii "xlink") && same n (ascii "href")) ≡ true → normalize_dom_attr_name (ns ++ (58 ∷ n)) ≡ ascii "href"
unfolding normalize_dom_attr_name rename_in renamed same among hyphenated_names kept_names small_letter small_letters parted
namespaced_xlink ns n h =
    let a = same_eq ns (ascii "xlink") (and_left (same ns (ascii "xlink")) (same n (ascii "href")) h) in
    let b = same_eq n (ascii "href") (and_right (same ns (ascii "xlink")) (same n (ascii "href")) h) in
    ap₂ (λ (x y : Bytes). normalize_dom_attr_name (x ++ (58 ∷ y))) a b

one_colon : over_lists (λ w v. colon_free w || same w (ascii "xlink:href")) ≡ true
unfolding colon_free same renamed hyphenated_names kept_names parted
one_colon = refl

namespaced_unlisted : (ns n : Bytes) → (same ns (ascii "xlink") && same n (ascii "href")) ≡ false → listed (ns ++ (58 ∷ n)) ≡ false
unfolding colon_free
namespaced_unlisted ns n h =
    refuted (listed (ns ++ (58 ∷ n)))
    (λ e.
    let t = normalize_listed (λ w v. colon_free w || same w (ascii "xlink:href")) one_colon (ns ++ (58 ∷ n)) e in
    false≢true (sym h ∙ (sym (same_joined ns n (ascii "xlink") (ascii "href") refl refl) ∙ rw (has_colon ns n) at t)))

-- ---- all others

pub small_append : (a b : Bytes) → small_letters (a ++ b) ≡ small_letters a ++ small_letters b
unfolding small_letters
small_append [] b = refl
small_append (c ∷ a) b = ap (λ (l : Bytes). small_letter c ∷ l) (small_append a b)

pub namespaced_other : (ns n : Bytes) → (same ns (ascii "xlink") && same n (ascii "href")) ≡ false → normalize_dom_attr_name (ns ++ (58 ∷ n)) ≡ small_letters ns ++ (58 ∷ small_letters n)
unfolding small_letters small_letter
namespaced_other ns n h = normalize_unlisted (ns ++ (58 ∷ n)) (namespaced_unlisted ns n h) ∙ small_append ns (58 ∷ n)

pub namespaced_length : (ns n : Bytes) → (same ns (ascii "xlink") && same n (ascii "href")) ≡ false → length (normalize_dom_attr_name (ns ++ (58 ∷ n))) ≡ length ns + suc (length n)
namespaced_length ns n h =
    ap length (namespaced_other ns n h) ∙ (length-append (small_letters ns) (58 ∷ small_letters n) ∙ rw (length_small ns, length_small n))

-- ---- compared with a text

same_split : (x y b : Bytes) → length x < length b → same (x ++ (58 ∷ y)) b ≡ (same x (take (length x) b) && (eqb 58 (get_or b (length x) 0) && same y (drop (suc (length x)) b)))
unfolding same
same_split x y [] h = absurd (not-suc-le-zero h)
same_split [] y (d ∷ b) h = refl
same_split (c ∷ x) y (d ∷ b) h =
    rw (same_split x y b (le_of_suc-le-suc h)) (sym (and_assoc (eqb c d) (same x (take (length x) b)) (eqb 58 (get_or b (length x) 0) && same y (drop (suc (length x)) b))))

-- part by part
pub namespaced_same : (ns n b : Bytes) → (same ns (ascii "xlink") && same n (ascii "href")) ≡ false → length ns < length b → same (normalize_dom_attr_name (ns ++ (58 ∷ n))) b ≡ (same (small_letters ns) (take (length ns) b) && (eqb 58 (get_or b (length ns) 0) && same (small_letters n) (drop (length ns + 1) b)))
namespaced_same ns n b h l =
    rw (namespaced_other ns n h, add-one, ← length_small ns) (same_split (small_letters ns) (small_letters n) b (omega (arith, length_small ns)))

-- a text too short for the namespace and the colon
pub namespaced_short : (ns n b : Bytes) → (same ns (ascii "xlink") && same n (ascii "href")) ≡ false → length b ≤ length ns → same (normalize_dom_attr_name (ns ++ (58 ∷ n))) b ≡ false
namespaced_short ns n b h l = same_other (normalize_dom_attr_name (ns ++ (58 ∷ n))) b (λ e. omega (arith, e, namespaced_length ns n h))
