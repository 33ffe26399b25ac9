-- What the crates above may know of a normalised name: how long it is, which bytes it has, and what it never is.
-- Main statements: `normalize_length`, `normalize_name_bytes`, `normalize_escaped`, `normalize_quiet`,
-- `normalize_all_bytes`, `namespaced_never_boolean`, `namespaced_never_key`, `namespaced_never_ref`.
-- Assumes nothing.
use mathlib.Core.Path.{◌≡◌, refl, sym, ap, ◌∙◌}
use mathlib.Core.Bool.{Bool, true, false, ◌&&◌, not, false≢true, or-false}
use mathlib.Core.List.{List, [], ◌∷◌, ◌++◌}
use Prim.Native.Nat.{ℕ, ◌+◌, ◌*◌, ◌≤◌, ◌<◌}
use native.Mathlib.Omega.{arith}
use lib.Dec.{leb, ltb, eqb}
use lib.ListN.{length}
use borrow.Author.Tests.{leb-true, le-leb, ltb-true, lt-ltb, ne_eqb}
use Rattle.field.specs.Bytes.{Bytes, AllBytes, ascii, pick, same, among}
use Rattle.text.specs.Escape.{escape_html}
use Rattle.text.specs.Runs.{all, plain}
use Rattle.text.proofs.EscapeLaws.{escape_plain_run}
use Rattle.names.specs.Names.{void_names, boolean_names, hyphenated_names, kept_names, renamed, capital, small_letter, small_letters, parted, normalize_dom_attr_name, is_boolean_attr, name_byte}
use Rattle.names.proofs.CompareLaws.{length_small}
use Rattle.names.proofs.ListLaws.{and_left, and_right, refuted, every, every_at}
use Rattle.names.proofs.NormalizeLaws.{over_lists, normalize_ind}
use Rattle.names.proofs.NamespacedLaws.{colon_free, has_colon, namespaced_xlink, namespaced_other}

-- ---- how many names there are

pub void_count : length void_names ≡ 14
unfolding void_names
void_count = refl

pub boolean_count : length boolean_names ≡ 24
unfolding boolean_names
boolean_count = refl

pub hyphenated_count : length hyphenated_names ≡ 76
unfolding hyphenated_names
hyphenated_count = refl

pub kept_count : length kept_names ≡ 59
unfolding kept_names
kept_count = refl

pub renamed_count : length renamed ≡ 15
unfolding renamed
renamed_count = refl

-- ---- how long a name becomes

lengths : over_lists (λ w v. leb (length v) (length w + 2) && leb (length v) (2 * length w)) ≡ true
unfolding renamed hyphenated_names kept_names parted
lengths = refl

bounds : (n : Bytes) → (leb (length (normalize_dom_attr_name n)) (length n + 2) && leb (length (normalize_dom_attr_name n)) (2 * length n)) ≡ true
bounds n =
    normalize_ind (λ w v. leb (length v) (length w + 2) && leb (length v) (2 * length w)) lengths n
    (λ e.
    let l = length_small n in
    rw (le-leb (length (small_letters n)) (length n + 2) (omega (arith, l)), le-leb (length (small_letters n)) (2 * length n) (omega (arith, l))))

-- no name has more than two capitals that are parted from it
pub normalize_longer : (n : Bytes) → length (normalize_dom_attr_name n) ≤ length n + 2
normalize_longer n =
    let v = length (normalize_dom_attr_name n) in
    leb-true v (length n + 2) (and_left (leb v (length n + 2)) (leb v (2 * length n)) (bounds n))

pub normalize_length : (n : Bytes) → length (normalize_dom_attr_name n) ≤ 2 * length n
normalize_length n =
    let v = length (normalize_dom_attr_name n) in
    leb-true v (2 * length n) (and_right (leb v (length n + 2)) (leb v (2 * length n)) (bounds n))

-- ---- which bytes it has

small_name_byte : (c : ℕ) → name_byte c ≡ true → name_byte (small_letter c) ≡ true
unfolding name_byte small_letter
small_name_byte c h = on (capital c) refl
  where
    on : (b : Bool) → capital c ≡ b → name_byte (pick b (c + 32) c) ≡ true
    on true e =
        let low = leb-true 65 c (and_left (leb 65 c) (leb c 90) e) in
        let high = leb-true c 90 (and_right (leb 65 c) (leb c 90) e) in
        rw (le-leb 97 (c + 32) (omega arith), le-leb (c + 32) 122 (omega arith))
    on false e = h

small_name_bytes : (n : Bytes) → all name_byte n ≡ true → all name_byte (small_letters n) ≡ true
unfolding all small_letters
small_name_bytes [] h = refl
small_name_bytes (c ∷ cs) h =
    rw (small_name_byte c (and_left (name_byte c) (all name_byte cs) h)) (small_name_bytes cs (and_right (name_byte c) (all name_byte cs) h))

listed_name_bytes : over_lists (λ w v. all name_byte v) ≡ true
unfolding all name_byte renamed hyphenated_names kept_names parted
listed_name_bytes = refl

-- a name becomes a name
pub normalize_name_bytes : (n : Bytes) → all name_byte n ≡ true → all name_byte (normalize_dom_attr_name n) ≡ true
normalize_name_bytes n h = normalize_ind (λ w v. all name_byte v) listed_name_bytes n (λ e. small_name_bytes n h)

other_byte : (c k : ℕ) → name_byte k ≡ false → name_byte c ≡ true → eqb c k ≡ false
other_byte c k f h = ne_eqb c k (λ e. false≢true (sym f ∙ (ap name_byte (sym e) ∙ h)))

-- none of the five signs, and no space
pub name_byte_plain : (c : ℕ) → name_byte c ≡ true → plain c ≡ true
unfolding plain name_byte
name_byte_plain c h =
    rw (other_byte c 34 refl h, other_byte c 38 refl h, other_byte c 39 refl h, other_byte c 60 refl h, other_byte c 62 refl h)

-- a byte that ends neither a tag nor its name
unfoldable pub quiet : ℕ → Bool
quiet c = not (eqb c 32) && (not (eqb c 60) && not (eqb c 62))

pub name_byte_quiet : (c : ℕ) → name_byte c ≡ true → quiet c ≡ true
unfolding quiet name_byte
name_byte_quiet c h = rw (other_byte c 32 refl h, other_byte c 60 refl h, other_byte c 62 refl h)

all_by : (p q : ℕ → Bool) → ((c : ℕ) → p c ≡ true → q c ≡ true) → (n : Bytes) → all p n ≡ true → all q n ≡ true
unfolding all
all_by p q f [] h = refl
all_by p q f (c ∷ cs) h = rw (f c (and_left (p c) (all p cs) h)) (all_by p q f cs (and_right (p c) (all p cs) h))

-- escaping leaves a name as it is
pub name_bytes_escaped : (n : Bytes) → all name_byte n ≡ true → escape_html n ≡ n
name_bytes_escaped n h = escape_plain_run n (all_by name_byte plain name_byte_plain n h)

pub normalize_escaped : (n : Bytes) → all name_byte n ≡ true → escape_html (normalize_dom_attr_name n) ≡ normalize_dom_attr_name n
normalize_escaped n h = name_bytes_escaped (normalize_dom_attr_name n) (normalize_name_bytes n h)

pub normalize_quiet : (n : Bytes) → all name_byte n ≡ true → all quiet (normalize_dom_attr_name n) ≡ true
normalize_quiet n h = all_by name_byte quiet name_byte_quiet (normalize_dom_attr_name n) (normalize_name_bytes n h)

abbrev below_256 : ℕ → Bool
below_256 c = ltb c 256

all_below : (n : Bytes) → all below_256 n ≡ true → AllBytes n
unfolding all AllBytes
all_below [] h = tt
all_below (c ∷ cs) h = (ltb-true c 256 (and_left (ltb c 256) (all below_256 cs) h), all_below cs (and_right (ltb c 256) (all below_256 cs) h))

small_below : (c : ℕ) → c < 256 → ltb (small_letter c) 256 ≡ true
unfolding small_letter
small_below c h = on (capital c) refl
  where
    on : (b : Bool) → capital c ≡ b → ltb (pick b (c + 32) c) 256 ≡ true
    on true e = lt-ltb (c + 32) 256 (omega (arith, leb-true c 90 (and_right (leb 65 c) (leb c 90) e)))
    on false e = lt-ltb c 256 h

small_all_below : (n : Bytes) → AllBytes n → all below_256 (small_letters n) ≡ true
unfolding all AllBytes small_letters
small_all_below [] h = refl
small_all_below (c ∷ cs) h = rw (small_below c h.0) (small_all_below cs h.1)

listed_below : over_lists (λ w v. all below_256 v) ≡ true
unfolding all renamed hyphenated_names kept_names parted
listed_below = refl

-- bytes stay bytes
pub normalize_all_bytes : (n : Bytes) → AllBytes n → AllBytes (normalize_dom_attr_name n)
normalize_all_bytes n h =
    all_below (normalize_dom_attr_name n) (normalize_ind (λ w v. all below_256 v) listed_below n (λ e. small_all_below n h))

-- ---- what a namespaced name never is

namespaced_never : (xs : List Bytes) → every colon_free xs ≡ true → among (ascii "href") xs ≡ false → (ns n : Bytes) → among (normalize_dom_attr_name (ns ++ (58 ∷ n))) xs ≡ false
namespaced_never xs q h ns n = on (same ns (ascii "xlink") && same n (ascii "href")) refl
  where
    on : (b : Bool) → (same ns (ascii "xlink") && same n (ascii "href")) ≡ b → among (normalize_dom_attr_name (ns ++ (58 ∷ n))) xs ≡ false
    on true e = ap (λ (v : Bytes). among v xs) (namespaced_xlink ns n e) ∙ h
    on false e =
        let v = normalize_dom_attr_name (ns ++ (58 ∷ n)) in
        refuted (among v xs)
        (λ a. false≢true (sym (has_colon (small_letters ns) (small_letters n)) ∙ (ap colon_free (sym (namespaced_other ns n e)) ∙ every_at colon_free xs q v a)))

pub namespaced_never_boolean : (ns n : Bytes) → is_boolean_attr (normalize_dom_attr_name (ns ++ (58 ∷ n))) ≡ false
unfolding is_boolean_attr boolean_names among same colon_free
namespaced_never_boolean ns n = namespaced_never boolean_names refl refl ns n

-- no name without a colon, `href` apart
pub namespaced_never_is : (b : Bytes) → colon_free b ≡ true → same (ascii "href") b ≡ false → (ns n : Bytes) → same (normalize_dom_attr_name (ns ++ (58 ∷ n))) b ≡ false
unfolding among
namespaced_never_is b q h ns n = sym (or-false (same (normalize_dom_attr_name (ns ++ (58 ∷ n))) b)) ∙ namespaced_never (b ∷ []) (rw q) (rw h) ns n

pub namespaced_never_key : (ns n : Bytes) → same (normalize_dom_attr_name (ns ++ (58 ∷ n))) (ascii "key") ≡ false
unfolding same colon_free
namespaced_never_key ns n = namespaced_never_is (ascii "key") refl refl ns n

pub namespaced_never_ref : (ns n : Bytes) → same (normalize_dom_attr_name (ns ++ (58 ∷ n))) (ascii "ref") ≡ false
unfolding same colon_free
namespaced_never_ref ns n = namespaced_never_is (ascii "ref") refl refl ns n
