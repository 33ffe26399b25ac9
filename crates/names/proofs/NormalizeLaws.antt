-- Laws of normalize-dom-attr-name: what holds of each listed name and of what it becomes, and what becomes of all others.
-- Main statements: `normalize_listed`, `normalize_unlisted`, `normalize_ind`, `small_enough`, `normalize_plain`.
-- Assumes nothing.
use mathlib.Core.Path.{◌≡◌, refl, sym, ap, ap₂, ◌∙◌}
use mathlib.Core.Bool.{Bool, true, false, ◌&&◌, ◌||◌, not, false≢true}
use mathlib.Core.List.{List, [], ◌∷◌}
use lib.Dec.{leb, eqb}
use borrow.Author.Tests.{not-true, leb-true, lt-leb, ne_eqb}
use native.Mathlib.Omega.{arith}
use Prim.Native.Nat.{ℕ, ◌+◌}
use Rattle.field.specs.Bytes.{Bytes, ascii, pick, same, among}
use Rattle.names.specs.Names.{hyphenated_names, kept_names, renamed, capital, small_letter, small_letters, parted, hyphenate, rename_in, normalize_dom_attr_name}
use Rattle.names.specs.Table.{plain_name}
use Rattle.names.proofs.CompareLaws.{same_eq}
use Rattle.names.proofs.ListLaws.{and_left, and_right, or_left, or_right, every, every_at, refuted}

abbrev pub every_pair : (Bytes → Bytes → Bool) → List (Bytes × Bytes) → Bool
every_pair f [] = true
every_pair f (p ∷ ps) = f p.0 p.1 && every_pair f ps

unfoldable pub among_pairs : Bytes → List (Bytes × Bytes) → Bool
among_pairs n [] = false
among_pairs n (p ∷ ps) = same n p.0 || among_pairs n ps

-- the name is one of the 150
abbrev pub listed : Bytes → Bool
listed n = among_pairs n renamed || (among n hyphenated_names || among n kept_names)

-- the test passes at each of the 150 and what it becomes
abbrev pub over_lists : (Bytes → Bytes → Bool) → Bool
over_lists f = every_pair f renamed && (every (λ w. f w (hyphenate w)) hyphenated_names && every (λ w. f w w) kept_names)

-- ---- by the lists

rename_head : (f : Bytes → Bytes → Bool) (n w v other : Bytes) (b : Bool) → same n w ≡ b → f w v ≡ true → (b ≡ false → f n other ≡ true) → f n (pick b v other) ≡ true
rename_head f n w v other true e t k = ap (λ (x : Bytes). f x v) (same_eq n w e) ∙ t
rename_head f n w v other false e t k = k refl

rename_ind : (f : Bytes → Bytes → Bool) (ps : List (Bytes × Bytes)) → every_pair f ps ≡ true → (n other : Bytes) → (among_pairs n ps ≡ false → f n other ≡ true) → f n (rename_in ps n other) ≡ true
unfolding among_pairs rename_in
rename_ind f [] t n other k = k refl
rename_ind f (p ∷ ps) t n other k =
    rename_head f n p.0 p.1 (rename_in ps n other) (same n p.0) refl (and_left (f p.0 p.1) (every_pair f ps) t)
    (λ e. rename_ind f ps (and_right (f p.0 p.1) (every_pair f ps) t) n other (λ h. k (rw (e, h))))

in_list : (f : Bytes → Bytes → Bool) (n v other : Bytes) (b : Bool) → (b ≡ true → f n v ≡ true) → (b ≡ false → f n other ≡ true) → f n (pick b v other) ≡ true
in_list f n v other true t k = t refl
in_list f n v other false t k = k refl

-- what passes at the 150, and at each other name and its small letters, holds of every name and what it becomes
pub normalize_ind : (f : Bytes → Bytes → Bool) → over_lists f ≡ true → (n : Bytes) → (listed n ≡ false → f n (small_letters n) ≡ true) → f n (normalize_dom_attr_name n) ≡ true
unfolding normalize_dom_attr_name
normalize_ind f t n k =
    let r = and_left (every_pair f renamed) (every (λ w. f w (hyphenate w)) hyphenated_names && every (λ w. f w w) kept_names) t in
    let s = and_right (every_pair f renamed) (every (λ w. f w (hyphenate w)) hyphenated_names && every (λ w. f w w) kept_names) t in
    let h = and_left (every (λ w. f w (hyphenate w)) hyphenated_names) (every (λ w. f w w) kept_names) s in
    let q = and_right (every (λ w. f w (hyphenate w)) hyphenated_names) (every (λ w. f w w) kept_names) s in
    rename_ind f renamed r n (pick (among n hyphenated_names) (hyphenate n) (pick (among n kept_names) n (small_letters n)))
    (λ a.
    in_list f n (hyphenate n) (pick (among n kept_names) n (small_letters n)) (among n hyphenated_names)
    (λ e. every_at (λ w. f w (hyphenate w)) hyphenated_names h n e)
    (λ b. in_list f n n (small_letters n) (among n kept_names) (λ e. every_at (λ w. f w w) kept_names q n e) (λ d. k (rw (a, b, d)))))

-- of a listed name
pub normalize_listed : (f : Bytes → Bytes → Bool) → over_lists f ≡ true → (n : Bytes) → listed n ≡ true → f n (normalize_dom_attr_name n) ≡ true
normalize_listed f t n h = normalize_ind f t n (λ e. absurd (false≢true (sym e ∙ h)))

-- ---- of all others

rename_none : (ps : List (Bytes × Bytes)) (n other : Bytes) → among_pairs n ps ≡ false → rename_in ps n other ≡ other
unfolding among_pairs rename_in
rename_none [] n other h = refl
rename_none (p ∷ ps) n other h =
    rw (or_left (same n p.0) (among_pairs n ps) h) (rename_none ps n other (or_right (same n p.0) (among_pairs n ps) h))

-- all others go to small letters
pub normalize_unlisted : (n : Bytes) → listed n ≡ false → normalize_dom_attr_name n ≡ small_letters n
unfolding normalize_dom_attr_name
normalize_unlisted n h =
    let r = or_left (among_pairs n renamed) (among n hyphenated_names || among n kept_names) h in
    let s = or_right (among_pairs n renamed) (among n hyphenated_names || among n kept_names) h in
    rename_none renamed n (pick (among n hyphenated_names) (hyphenate n) (pick (among n kept_names) n (small_letters n))) r ∙ rw (or_left (among n hyphenated_names) (among n kept_names) s, or_right (among n hyphenated_names) (among n kept_names) s)

-- no listed name becomes what the test is for, nor do its small letters: then small letters are enough
pub small_enough : (g : Bytes → Bool) → over_lists (λ w v. not (g v) && not (g (small_letters w))) ≡ true → (n : Bytes) → g (normalize_dom_attr_name n) ≡ g (small_letters n)
small_enough g t n = on (listed n) refl
  where
    on : (b : Bool) → listed n ≡ b → g (normalize_dom_attr_name n) ≡ g (small_letters n)
    on false e = ap g (normalize_unlisted n e)
    on true e =
        let h = normalize_listed (λ w v. not (g v) && not (g (small_letters w))) t n e in
        let a = not (g (normalize_dom_attr_name n)) in
        let b = not (g (small_letters n)) in
        not-true (g (normalize_dom_attr_name n)) (and_left a b h) ∙ sym (not-true (g (small_letters n)) (and_right a b h))

-- ---- plain names

plain_letter : (c : ℕ) → (eqb c 45 || leb 91 c) ≡ true → small_letter c ≡ c
unfolding small_letter
plain_letter c h =
    ap (λ (b : Bool). pick b (c + 32) c)
    (refuted (capital c)
    (λ e.
    let low = leb-true 65 c (and_left (leb 65 c) (leb c 90) e) in
    let high = leb-true c 90 (and_right (leb 65 c) (leb c 90) e) in
    false≢true (sym (rw (ne_eqb c 45 (λ d. omega (arith, d, low)), lt-leb 91 c (omega arith)) refl) ∙ h)))

pub small_plain : (n : Bytes) → plain_name n ≡ true → small_letters n ≡ n
unfolding plain_name small_letters
small_plain [] h = refl
small_plain (c ∷ cs) h =
    let a = eqb c 45 || leb 91 c in
    ap₂ (λ (x : ℕ) (l : Bytes). x ∷ l) (plain_letter c (and_left a (plain_name cs) h)) (small_plain cs (and_right a (plain_name cs) h))

-- no listed name is plain
no_plain : over_lists (λ w v. not (plain_name w)) ≡ true
unfolding renamed hyphenated_names kept_names parted plain_name
no_plain = refl

-- so a plain name stays as it is
pub normalize_plain : (n : Bytes) → plain_name n ≡ true → normalize_dom_attr_name n ≡ n
normalize_plain n h =
    let u = refuted (listed n) (λ e. false≢true (sym (not-true (plain_name n) (normalize_listed (λ w v. not (plain_name w)) no_plain n e)) ∙ h)) in
    normalize_unlisted n u ∙ small_plain n h

-- the name that is asked for before the table
pub normalize_class_name : (n : Bytes) → same n (ascii "className") ≡ true → normalize_dom_attr_name n ≡ ascii "class"
unfolding normalize_dom_attr_name rename_in renamed same among hyphenated_names kept_names small_letter small_letters parted
normalize_class_name n h = ap normalize_dom_attr_name (same_eq n (ascii "className") h)
