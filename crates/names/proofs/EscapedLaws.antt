-- Laws of an attribute's name that is normalised and then escaped.
-- Main statements: `plain_escaped`, `signs_unlisted`, `escaped_normalize`, `namespaced_escaped`.
-- Assumes nothing.
use mathlib.Core.Path.{◌≡◌, refl, sym, ap, ◌∙◌}
use mathlib.Core.Bool.{Bool, true, false, ◌&&◌, ◌||◌, false≢true}
use mathlib.Core.List.{[], ◌∷◌, ◌++◌, append_assoc}
use Prim.Native.Nat.{ℕ, ◌+◌, ◌≤◌, ◌<◌}
use native.Mathlib.Numerals.{add-one}
use native.Mathlib.Omega.{arith}
use lib.Dec.{leb, eqb}
use lib.ListN.{length, get_or, take, drop, length-append, take-append-drop}
use lib.Seq.{take-suc, take-length}
use borrow.Author.Tests.{eqb-true, ne_eqb, leb-true}
use Rattle.field.specs.Bytes.{Bytes, ascii, pick, same}
use Rattle.text.specs.Escape.{escape_byte, escape_html}
use Rattle.text.specs.Runs.{run, all, plain}
use Rattle.text.proofs.RunLaws.{run_all}
use Rattle.text.proofs.EscapeLaws.{escape_append, escape_plain_run, is_escaped_by_run}
use Rattle.names.specs.Names.{hyphenated_names, kept_names, renamed, capital, small_letter, small_letters, parted, normalize_dom_attr_name}
use Rattle.names.specs.Table.{plain_name}
use Rattle.names.proofs.CompareLaws.{same_eq, same_refl}
use Rattle.names.proofs.ListLaws.{and_left, and_right, refuted}
use Rattle.names.proofs.NormalizeLaws.{listed, over_lists, normalize_listed, normalize_unlisted, normalize_ind}
use Rattle.names.proofs.NamespacedLaws.{small_append, namespaced_other}

-- ---- plain bytes

-- the five signs are `>` and below
plain_above : (c : ℕ) → 62 < c → plain c ≡ true
unfolding plain
plain_above c h =
    rw (ne_eqb c 34 (λ e. omega (arith, e)), ne_eqb c 38 (λ e. omega (arith, e)), ne_eqb c 39 (λ e. omega (arith, e)), ne_eqb c 60 (λ e. omega (arith, e)), ne_eqb c 62 (λ e. omega (arith, e)))

plain_name_byte : (c : ℕ) → (eqb c 45 || leb 91 c) ≡ true → plain c ≡ true
unfolding plain
plain_name_byte c h = on (eqb c 45) refl h
  where
    on : (b : Bool) → eqb c 45 ≡ b → (b || leb 91 c) ≡ true → plain c ≡ true
    on true e k = ap plain (eqb-true c 45 e)
    on false e k = plain_above c (omega (arith, leb-true 91 c k))

plain_name_all : (n : Bytes) → plain_name n ≡ true → all plain n ≡ true
unfolding plain_name all
plain_name_all [] h = refl
plain_name_all (c ∷ cs) h =
    let a = eqb c 45 || leb 91 c in
    rw (plain_name_byte c (and_left a (plain_name cs) h)) (plain_name_all cs (and_right a (plain_name cs) h))

pub plain_escaped : (n : Bytes) → plain_name n ≡ true → escape_html n ≡ n
plain_escaped n h = escape_plain_run n (plain_name_all n h)

plain_small : (c : ℕ) → plain c ≡ true → plain (small_letter c) ≡ true
unfolding small_letter
plain_small c h = on (capital c) refl
  where
    on : (b : Bool) → capital c ≡ b → plain (pick b (c + 32) c) ≡ true
    on true e = plain_above (c + 32) (omega (arith, leb-true 65 c (and_left (leb 65 c) (leb c 90) e)))
    on false e = h

all_small : (n : Bytes) → all plain n ≡ true → all plain (small_letters n) ≡ true
unfolding all small_letters
all_small [] h = refl
all_small (c ∷ cs) h = rw (plain_small c (and_left (plain c) (all plain cs) h)) (all_small cs (and_right (plain c) (all plain cs) h))

-- ---- a name that escaping leaves as it is

escaped_all : (n : Bytes) → same n (escape_html n) ≡ true → all plain n ≡ true
escaped_all n h =
    let e = eqb-true (run plain n) (length n) (is_escaped_by_run n ∙ h) in
    sym (ap (all plain) (ap (λ (k : ℕ). take k n) e ∙ take-length n)) ∙ run_all plain n

no_signs_listed : over_lists (λ w v. same w (escape_html w) && same v (escape_html v)) ≡ true
unfolding same escape_html escape_byte renamed hyphenated_names kept_names parted
no_signs_listed = refl

-- no listed name has a sign that is escaped
pub signs_unlisted : (n : Bytes) → same n (escape_html n) ≡ false → normalize_dom_attr_name n ≡ small_letters n
signs_unlisted n h =
    normalize_unlisted n
    (refuted (listed n)
    (λ e.
    let v = normalize_dom_attr_name n in
    let t = normalize_listed (λ w v. same w (escape_html w) && same v (escape_html v)) no_signs_listed n e in
    false≢true (sym h ∙ and_left (same n (escape_html n)) (same v (escape_html v)) t)))

-- and a name without one becomes a name without one
pub escaped_normalize : (n : Bytes) → same n (escape_html n) ≡ true → escape_html (normalize_dom_attr_name n) ≡ normalize_dom_attr_name n
escaped_normalize n h =
    let v = normalize_dom_attr_name n in
    let s = small_letters n in
    let u : same s (escape_html s) ≡ true = rw (escape_plain_run s (all_small n (escaped_all n h))) (same_refl s) in
    let t = normalize_ind (λ w v. same w (escape_html w) && same v (escape_html v)) no_signs_listed n (λ e. rw (h, u)) in
    sym (same_eq v (escape_html v) (and_right (same n (escape_html n)) (same v (escape_html v)) t))

-- ---- letter by letter

-- one letter more
pub escaped_next : (n : Bytes) (i x : ℕ) → i < length n → x ≡ small_letter (get_or n i 0) → escape_html (small_letters (take i n)) ++ escape_html (x ∷ []) ≡ escape_html (small_letters (take (i + 1) n))
unfolding small_letters
escaped_next n i x h e =
    sym
    (rw (add-one, take-suc n i 0 h, small_append (take i n) (get_or n i 0 ∷ []), e)
    (escape_append (small_letters (take i n)) (small_letter (get_or n i 0) ∷ [])))

-- the letters so far are no longer than all
pub escaped_bound : (n : Bytes) (i : ℕ) → length (escape_html (small_letters (take i n))) ≤ length (escape_html (small_letters n))
escaped_bound n i =
    let a = small_letters (take i n) in
    let b = small_letters (drop i n) in
    let e = ap (λ (l : Bytes). length (escape_html (small_letters l))) (take-append-drop i n) in
    let f = ap (λ (l : Bytes). length (escape_html l)) (small_append (take i n) (drop i n)) in
    let g = ap length (escape_append a b) in
    omega (arith, e, f, g, length-append (escape_html a) (escape_html b))

-- both sides of the colon
escaped_parts : (ns n : Bytes) → escape_html (small_letters ns ++ (58 ∷ small_letters n)) ≡ (escape_html (small_letters ns) ++ (58 ∷ [])) ++ escape_html (small_letters n)
unfolding escape_html escape_byte
escaped_parts ns n =
    escape_append (small_letters ns) (58 ∷ small_letters n) ∙ sym (append_assoc (escape_html (small_letters ns)) (58 ∷ []) (escape_html (small_letters n)))

pub namespaced_escaped : (ns n : Bytes) → (same ns (ascii "xlink") && same n (ascii "href")) ≡ false → escape_html (normalize_dom_attr_name (ns ++ (58 ∷ n))) ≡ (escape_html (small_letters ns) ++ (58 ∷ [])) ++ escape_html (small_letters n)
namespaced_escaped ns n h = ap escape_html (namespaced_other ns n h) ∙ escaped_parts ns n

pub namespaced_escaped_length : (ns n : Bytes) → (same ns (ascii "xlink") && same n (ascii "href")) ≡ false → length (escape_html (normalize_dom_attr_name (ns ++ (58 ∷ n)))) ≡ (length (escape_html (small_letters ns)) + 1) + length (escape_html (small_letters n))
namespaced_escaped_length ns n h =
    let a = escape_html (small_letters ns) in
    let b = escape_html (small_letters n) in
    ap length (namespaced_escaped ns n h) ∙ omega (arith, length-append (a ++ (58 ∷ [])) b, length-append a (58 ∷ []))
