-- Names as they are read for HTML, letter by letter. Main statements: `left_starts`, `reads_sign`, `reads_letter`, `ident_whole`, `pair_other`,
-- `names_50`, `repeats_more`, `keyed`; what the loops over attributes keep, `Passed`, `noted_more`. Assumes nothing.
use Rattle.std.specs.Prelude.{Option, Some, None, option_map, MatchOption, IfSome}
use Rattle.std.specs.Option.{is_some}
use Rattle.std.specs.Iterator.{YieldsFirst, YieldsThen}
use Rattle.std.specs.List.{list_any, AllZip}
use Rattle.std.proofs.lemmas.Iterator.{YieldsList}
use Rattle.std.proofs.lemmas.Iterator.Consumers.{YieldsList-from_shown}
use denote.Ref.{Bor}
use Rattle.std.specs.Char.{is_ascii_uppercase}
use mathlib.Core.Path.{◌≡◌, refl, sym, ap, subst, ◌∙◌}
use mathlib.Core.Bool.{Bool, true, false, ◌&&◌, ◌||◌, not, and-false, and-eq-true_iff, or-false, false≢true}
use Prim.Native.Nat.{ℕ, suc, ◌+◌, ◌-◌, ◌*◌, ◌/◌, ◌%◌, ◌≤◌, ◌<◌, ◌^◌}
use native.Mathlib.Nat.{mod-lt, mul-le-mul_right, add-mul}
use native.Mathlib.Omega.{arith}
use mathlib.Core.List.{List, [], ◌∷◌, ◌++◌, append-nil, append_assoc}
use lib.Dec.{eqb, leb, ltb}
use Rattle.std.specs.Int.{w64, bit_at}
use Rattle.std.specs.Int.RustNames.{bit_or}
use Rattle.std.proofs.Common.{bit_and}
use Rattle.std.proofs.lemmas.Nat.Bits.{shr_and_one, bit_at_set_same, bit_at_set_other}
use lib.ListN.{length, get_or, set, take, drop, length-drop}
use lib.Seq.{take_all, take_at, get_or-set_same, get_or-set_other}
use borrow.Author.Tests.{eqb-true, eqb-false, leb-true, eq-eqb, ne_eqb, le-ltb}
use Rattle.field.specs.Bytes.{Bytes, ascii, pick, same, among}
use Rattle.field.specs.Row.{read, Ended}
use Rattle.field.specs.Fields.{GivesField, Steps, IsFront}
use Rattle.field.specs.declared.reader.Field.{Field}
use Rattle.field.specs.declared.reader.Fields.{Fields}
use Rattle.field.specs.Front.{tag_of_front, body_of, behind_of}
use Rattle.page.specs.Page as P
use Rattle.decisions.specs.declared.attribute.Attributes.{Attributes}
use Rattle.decisions.specs.At.{written, IsAttribute, NoAttribute, GivesAttribute}
use Rattle.names.specs.Names.{ident, namespaced, get_attr_name, normalize_dom_attr_name, renamed, hyphenated_names, kept_names, parted, capital, small_letter, small_letters}
use Rattle.names.specs.Table.{signed, spelled_letter, spelled}
use Rattle.names.proofs.MarkLaws.{spelled_none}
use Rattle.names.proofs.NormalizeLaws.{over_lists, normalize_ind}
use Rattle.names.proofs.CompareLaws.{same_eq, capital_above, length_small, letter_at}
use Rattle.decisions.specs.Repeats.{joined, IsPlain, letters, sign_read, behind, left_in, html_name, html_names, name_in, names_in, repeats, hash_on, name_hash, low_half, high_half, key_by, last_letter, letter_key, ends_key_by, ends_key, inner_html_key}
use Rattle.decisions.specs.declared.repeats.Spelled.{Spelled}
use Rattle.names.proofs.NamespacedLaws.{namespaced_xlink, namespaced_other}
use Rattle.page.specs.Tree.{attributes_in, attr_name_in}
use Rattle.decisions.proofs.IndexLaws.{among_append}
use Rattle.decisions.proofs.Series.{tested, attributes_none, attributes_50, attributes_53, attributes_other, attr_name_40}
use Rattle.field.proofs.HeaderLaws.{header_is, tag_is, body_is}

-- ---- the sign before a letter

is_capital : (c : ℕ) → is_ascii_uppercase c ≡ capital c
is_capital c = refl

pub sign_next : (s : Option ℕ) (c : ℕ) {b : Bool} → b ≡ false → is_ascii_uppercase c ≡ true → s ≡ sign_read s c b
unfolding sign_read
sign_next s c e h = sym (rw (e, sym (is_capital c) ∙ h))

pub sign_none : (s : Option ℕ) (c : ℕ) (b : Bool) → is_ascii_uppercase c ≡ false → None ≡ sign_read s c b
unfolding sign_read
sign_none s c b h = sym (rw (sym (is_capital c) ∙ h) (rw (and-false (not b))))

pub sign_passed : (s : Option ℕ) (c : ℕ) {b : Bool} → b ≡ true → None ≡ sign_read s c b
unfolding sign_read
sign_passed s c e = sym (rw e)

-- ---- what is left of a name

joined_letter : (s : Option ℕ) (c : ℕ) (p : Bytes) (q : Option Bytes) → joined s (c ∷ p) q ≡ spelled_letter s c ++ joined s p q
unfolding joined spelled
joined_letter s c p None = refl
joined_letter s c p (Some q) = append_assoc (spelled_letter s c) (spelled s p) (58 ∷ q)

-- a capital's small letter is no capital
small_capital : (c : ℕ) → capital c ≡ true → small_letter (c + 32) ≡ c + 32
unfolding small_letter
small_capital c e = rw (capital_above (c + 32) (let h = (and-eq-true_iff (leb 65 c) (leb c 90)).0 e in let k : 65 ≤ c = leb-true 65 c h.0 in omega (arith, k)))

-- from its start on it is the name in small letters
pub left_starts : (s : Option ℕ) (p : Bytes) (q : Option Bytes) → left_in s p q false ≡ small_letters (joined s p q)
unfolding left_in joined spelled spelled_letter small_letters small_letter sign_read
left_starts s [] None = refl
left_starts s [] (Some q) = refl
left_starts s (c ∷ p) q = rw (joined_letter s c p q, left_starts s p q) (on s (capital c) refl)
  where
    on : (t : Option ℕ) (k : Bool) → capital c ≡ k → behind (pick k t None) (pick k (c + 32) c ∷ small_letters (joined s p q)) ≡ small_letters (pick k (signed t (c + 32)) (c ∷ []) ++ joined s p q)
    on None true e = rw (small_capital c e)
    on (Some g) true e = rw (small_capital c e)
    on None false e = rw e
    on (Some g) false e = rw e

pub left_plain : (p : Bytes) → left_in None p None false ≡ small_letters p
unfolding left_in small_letters sign_read
left_plain [] = refl
left_plain (c ∷ p) = rw (left_plain p) (on (capital c))
  where
    on : (k : Bool) → behind (pick k None None) (small_letter c ∷ small_letters p) ≡ small_letter c ∷ small_letters p
    on true = refl
    on false = refl

-- with no sign and no second part it is the first in small letters
no_some : {A : Type 0} (o : Option A) → is_some o ≡ false → o ≡ None
no_some None e = refl
no_some (Some x) e = absurd (false≢true (sym e))

pub unsigned_letters : (x : Spelled) → is_some x.sign ≡ false → is_some x.second ≡ false → x.behind_sign ≡ false → letters x ≡ small_letters x.first.now
unsigned_letters x s q b =
    let e : letters x ≡ left_in None x.first.now None false = rw (no_some x.sign s, no_some x.second q, b) in
    e ∙ left_plain x.first.now

-- a name as it stands, and one that has a sign or a second part besides
module _ {n : Bytes} {x : Spelled} (p : IsPlain n x) where
  pub plain_letters : letters x ≡ left_in None n None false
  plain_letters = rw (p.sign, p.first, p.second, p.behind_sign)

  pub plain_signed : (s : Option ℕ) → left_in s x.first.now (option_map (λ q. q.now) x.second) x.behind_sign ≡ left_in s n None false
  plain_signed s = rw (p.first, p.second, p.behind_sign)

  pub plain_paired : (q : Bytes) → left_in x.sign x.first.now (Some q) x.behind_sign ≡ left_in None n (Some q) false
  plain_paired q = rw (p.sign, p.first, p.behind_sign)

-- ---- one letter further

module _ (s : Option ℕ) (q : Option Bytes) (b : Bool) where
  pub reads_none : (p : Bytes) → length p ≡ 0 → q ≡ None → left_in s p q b ≡ []
  unfolding left_in
  reads_none [] h e = rw e
  reads_none (c ∷ p) h e = absurd (omega (arith, h))

  pub reads_colon : (p : Bytes) → length p ≡ 0 → {w : Bytes} → q ≡ Some w → {l : Bytes} → l ≡ small_letters w → left_in s p q b ≡ 58 ∷ l
  unfolding left_in
  reads_colon [] h e k = rw (e, k)
  reads_colon (c ∷ p) h e k = absurd (omega (arith, h))

  pub reads_sign : (p : Bytes) → (length p ≡ 0 → ⊥) → {g : ℕ} → sign_read s (get_or p 0 0) b ≡ Some g → left_in s p q b ≡ small_letter g ∷ left_in s p q true
  unfolding left_in sign_read
  reads_sign [] h e = absurd (h refl)
  reads_sign (c ∷ p) h e = ap (λ (t : Option ℕ). behind t (small_letter c ∷ left_in s p q false)) e

  pub reads_letter : (p : Bytes) → (length p ≡ 0 → ⊥) → sign_read s (get_or p 0 0) b ≡ None → left_in s p q b ≡ small_letter (get_or p 0 0) ∷ left_in s (drop 1 p) q false
  unfolding left_in
  reads_letter [] h e = absurd (h refl)
  reads_letter (c ∷ p) h e = ap (λ (t : Option ℕ). behind t (small_letter c ∷ left_in s p q false)) e

pub shorter : {x : Bytes} {a : ℕ} {l : Bytes} → x ≡ a ∷ l → length l < length x
shorter e = rw e (omega arith)

-- ---- two names, letter by letter

abbrev Reads : Spelled → Option ℕ → Spelled → Type 0
Reads = YieldsFirst letters

-- o and p: what was read last
ends_same : (eq : ℕ → ℕ → Bool) → ((a b : ℕ) → eq a b ≡ eqb a b) → (x y : Spelled) (o p : Option ℕ) (u v : Spelled) → Reads x o u → Reads y p v →
    {r : Bool} → MatchOption o (MatchOption p (r ≡ true) (λ _. r ≡ false)) (λ a. (r ≡ false) × IfSome p (λ b. eq a b ≡ false)) → r ≡ same (letters x) (letters y)
unfolding same
ends_same eq q x y None None u v e f h = rw (e.0, f.0) h
ends_same eq q x y None (Some b) u v e f h = rw (e.0, f) h
ends_same eq q x y (Some a) None u v e f h = rw (e, f.0) h.0
ends_same eq q x y (Some a) (Some b) u v e f h = rw (e, f, sym (q a b) ∙ h.1) h.0

pub reads_same : (eq : ℕ → ℕ → Bool) → ((a b : ℕ) → eq a b ≡ eqb a b) → (xs ys : List ℕ) (x y : Spelled) (o p : Option ℕ) (u v : Spelled) → YieldsThen Reads x xs o u → YieldsThen Reads y ys p v → AllZip (λ a b. eq a b ≡ true) xs ys →
    {r : Bool} → MatchOption o (MatchOption p (r ≡ true) (λ _. r ≡ false)) (λ a. (r ≡ false) × IfSome p (λ b. eq a b ≡ false)) → r ≡ same (letters x) (letters y)
unfolding same
reads_same eq q [] [] x y o p u v e f z h = ends_same eq q x y o p u v (subst (λ t. Reads t o u) (sym e.1) e.2) (subst (λ t. Reads t p v) (sym f.1) f.2) h
reads_same eq q [] (b ∷ ys) x y o p u v e f z h = absurd z
reads_same eq q (a ∷ xs) [] x y o p u v e f z h = absurd z
reads_same eq q (a ∷ xs) (b ∷ ys) x y o p u v e f z h = rw (e.1.1, f.1.1, sym (q a b) ∙ z.0) (reads_same eq q xs ys e.1.0 f.1.0 o p u v (e.0, e.1.2, e.2) (f.0, f.1.2, f.2) z.1 h)

-- ---- its hash, one letter further

pub hash_goes : {x : Bytes} {a : ℕ} {l : Bytes} (h : ℕ) → x ≡ a ∷ l → a < 256 → hash_on ((h * 37 + a + 1) % 4294967296) l ≡ hash_on h x
unfolding hash_on
hash_goes {a = a} {l} h e k = sym (rw e (ap (λ (n : ℕ). hash_on (n % 4294967296) l) (let z : h * 37 + suc a % 65536 ≡ h * 37 + a + 1 = omega (arith, k) in z)))

pub hash_ends : {x : Bytes} (h : ℕ) → x ≡ [] → h ≡ hash_on h x
unfolding hash_on
hash_ends h e = rw e

-- ---- which name is read

small_twice : (w : Bytes) → small_letters (small_letters w) ≡ small_letters w
unfolding small_letters small_letter
small_twice [] = refl
small_twice (c ∷ w) = rw (small_twice w) (ap (λ (d : ℕ). d ∷ small_letters w) (on (capital c) refl))
  where
    on : (k : Bool) → capital c ≡ k → small_letter (small_letter c) ≡ small_letter c
    on true e = rw e (small_capital c e)
    on false e = rw e (rw e)

-- an identifier, by how it is spelled
module _ (n : Bytes) where
  pub ident_whole : {w : Bytes} → w ≡ normalize_dom_attr_name n → {l : Bytes} → l ≡ left_in None w None false → l ≡ html_name (ident n)
  unfolding html_name get_attr_name
  ident_whole {w} h e = e ∙ left_plain w ∙ ap small_letters h

  pub ident_signed : (s : ℕ) → spelled (Some s) n ≡ normalize_dom_attr_name n → {l : Bytes} → l ≡ left_in (Some s) n None false → l ≡ html_name (ident n)
  unfolding html_name get_attr_name joined
  ident_signed s h e = e ∙ left_starts (Some s) n None ∙ ap small_letters h

  pub ident_small : spelled None n ≡ normalize_dom_attr_name n → {l : Bytes} → l ≡ left_in None n None false → l ≡ html_name (ident n)
  unfolding html_name get_attr_name
  ident_small h e = e ∙ left_plain n ∙ sym (small_twice n) ∙ ap small_letters (sym (spelled_none n) ∙ h)

-- ns:name
small_behind : (a b : Bytes) → small_letters (a ++ (58 ∷ b)) ≡ small_letters (a ++ (58 ∷ small_letters b))
unfolding small_letters
small_behind [] b = rw (small_twice b)
small_behind (c ∷ a) b = ap (λ (y : Bytes). small_letter c ∷ y) (small_behind a b)

module _ (ns n : Bytes) {v : Bool} (e : v ≡ (same ns (ascii "xlink") && same n (ascii "href"))) where
  pub pair_xlink : v ≡ true → {l : Bytes} → l ≡ left_in None (ascii "href") None false → l ≡ html_name (namespaced ns n)
  unfolding html_name get_attr_name
  pair_xlink t h = h ∙ left_plain (ascii "href") ∙ ap small_letters (sym (namespaced_xlink ns n (sym e ∙ t)))

  pub pair_other : v ≡ false → {l : Bytes} → l ≡ left_in None ns (Some n) false → l ≡ html_name (namespaced ns n)
  unfolding html_name get_attr_name joined
  pair_other t h = h ∙ left_starts None ns (Some n) ∙ rw (spelled_none ns, namespaced_other ns n (sym e ∙ t)) (small_behind (small_letters ns) n)

-- ---- attributes in a row

module _ (s : Bytes) (t : ℕ) (e : t ≡ tag_of_front s) where
  pub names_50 : t ≡ 0x50 → html_names (attributes_in (read s)) ≡ html_name (attr_name_in (read (body_of s))) ∷ html_names (attributes_in (read (behind_of s)))
  unfolding html_names
  names_50 k = ap html_names (attributes_50 s t e k)

  pub names_53 : t ≡ 0x53 → html_names (attributes_in (read s)) ≡ html_names (attributes_in (read (behind_of s)))
  unfolding html_names
  names_53 k = ap html_names (attributes_53 s t e k)

  pub names_none : (t ≡ 0x50 → ⊥) → (t ≡ 0x53 → ⊥) → html_names (attributes_in (read s)) ≡ []
  unfolding html_names
  names_none k l = ap html_names (attributes_other s t e k l)

-- the same by what the code has read
module _ (s : Bytes) (t : ℕ) (e : t ≡ tag_of_front s) where
  pub names_at_50 : t ≡ 0x50 → {b r : Bytes} → b ≡ body_of s → r ≡ behind_of s → html_names (attributes_in (read s)) ≡ html_name (attr_name_in (read b)) ∷ html_names (attributes_in (read r))
  names_at_50 k p q = names_50 s t e k ∙ rw (p, q)

  pub names_at_53 : t ≡ 0x53 → {r : Bytes} → r ≡ behind_of s → html_names (attributes_in (read s)) ≡ html_names (attributes_in (read r))
  names_at_53 k q = names_53 s t e k ∙ rw q

-- ---- repeats, an attribute further

on_true : (b : Bool) → (b || true) ≡ true
on_true true = refl
on_true false = refl

eqb_turned : (c d : ℕ) → eqb c d ≡ eqb d c
eqb_turned c d = on (eqb c d) refl
  where
    on : (b : Bool) → eqb c d ≡ b → b ≡ eqb d c
    on true e = sym (eq-eqb d c (sym (eqb-true c d e)))
    on false e = sym (ne_eqb d c (λ h. eqb-false c d e (sym h)))

same_turned : (x y : Bytes) → same x y ≡ same y x
unfolding same
same_turned [] [] = refl
same_turned [] (d ∷ y) = refl
same_turned (c ∷ x) [] = refl
same_turned (c ∷ x) (d ∷ y) = rw (eqb_turned c d, same_turned x y)

pub repeats_more : (ns : List Bytes) (x : Bytes) → repeats (ns ++ (x ∷ [])) ≡ (among x ns || repeats ns)
unfolding repeats among
repeats_more [] x = refl
repeats_more (n ∷ ns) x = rw (among_append n ns (x ∷ []), repeats_more ns x, same_turned n x) (on (among n ns) (same x n) (among x ns) (repeats ns))
  where
    on : (a b c d : Bool) → ((a || (b || false)) || (c || d)) ≡ ((b || c) || (a || d))
    on true true c d = refl
    on true false true d = refl
    on true false false d = refl
    on false true c d = refl
    on false false c d = refl

pub repeats_found : (ns : List Bytes) (x : Bytes) (ms : List Bytes) → among x ns ≡ true → repeats (ns ++ (x ∷ ms)) ≡ true
unfolding repeats among
repeats_found [] x ms h = absurd (false≢true h)
repeats_found (n ∷ ns) x ms h = rw (among_append n ns (x ∷ ms), same_turned n x) (on (among n ns) (same x n) h (repeats_found ns x ms))
  where
    on : (a b : Bool) → (b || among x ns) ≡ true → (among x ns ≡ true → repeats (ns ++ (x ∷ ms)) ≡ true) → ((a || (b || among n ms)) || repeats (ns ++ (x ∷ ms))) ≡ true
    on true b k f = refl
    on false true k f = refl
    on false false k f = rw (f k) (on_true (among n ms))

-- P are in front of what is left of N, and no two of them are one
pub record Passed (N P left : List Bytes) : Type 0 where
  pub all : N ≡ P ++ left
  pub once : repeats P ≡ false

pub passed_none : (N : List Bytes) → Passed N [] N
unfolding repeats
passed_none N = record { all = refl; once = refl }

pub passed_all : {N P left : List Bytes} → Passed N P left → left ≡ [] → false ≡ repeats N
passed_all {N} {P} {left} p e = sym (ap repeats (p.all ∙ ap (λ (l : List Bytes). P ++ l) e ∙ append-nil P) ∙ p.once)

module _ {N P left : List Bytes} (p : Passed N P left) {x : Bytes} {r : List Bytes} (e : left ≡ x ∷ r) where
  pub passed_found : {b : Bool} → b ≡ among x P → b ≡ true → true ≡ repeats N
  passed_found h t = sym (ap repeats (p.all ∙ ap (λ (l : List Bytes). P ++ l) e) ∙ repeats_found P x r (sym h ∙ t))

  pub passed_one : among x P ≡ false → Passed N (P ++ (x ∷ [])) r
  passed_one h = record { all = p.all ∙ ap (λ (l : List Bytes). P ++ l) e ∙ sym (append_assoc P (x ∷ []) r); once = repeats_more P x ∙ rw (h, p.once) }

  -- the first of N, as many as P
  pub passed_front : {k : ℕ} → k ≡ length P → take k N ≡ P
  passed_front {k} h = ap (take k) p.all ∙ take_at P left k (sym h)

-- ---- names that are noted

-- each of ns is noted in a table under its key
abbrev pub Noted : (Bytes → ℕ) → List Bool → List Bytes → Type 0
Noted key seen ns = (x : Bytes) → among x ns ≡ true → get_or seen (key x) false ≡ true

pub noted_none : (key : Bytes → ℕ) (seen : List Bool) → Noted key seen []
unfolding among
noted_none key seen x h = absurd (false≢true h)

pub noted_more : (key : Bytes → ℕ) (seen : List Bool) (ns : List Bytes) (y : Bytes) {i : ℕ} → i ≡ key y → i < length seen → Noted key seen ns → Noted key (set seen i true) (ns ++ (y ∷ []))
unfolding among
noted_more key seen ns y {i} e l k x h = on (eqb (key x) i) refl
  where
    kept_name : eqb (key x) i ≡ false → (b : Bool) → same x y ≡ b → (among x ns || (b || false)) ≡ true → among x ns ≡ true
    kept_name f true g m = absurd (eqb-false (key x) i f (ap key (same_eq x y g) ∙ sym e))
    kept_name f false g m = sym (or-false (among x ns)) ∙ m

    on : (b : Bool) → eqb (key x) i ≡ b → get_or (set seen i true) (key x) false ≡ true
    on true f = rw (eqb-true (key x) i f) (get_or-set_same seen i true false l)
    on false f = get_or-set_other seen i (key x) true false (eqb-false (key x) i f) ∙ k x (kept_name f (same x y) refl (sym (among_append x ns (y ∷ [])) ∙ h))

pub not_noted : (key : Bytes → ℕ) (seen : List Bool) (ns : List Bytes) (y : Bytes) {i : ℕ} → i ≡ key y → get_or seen i false ≡ false → Noted key seen ns → among y ns ≡ false
not_noted key seen ns y {i} e f k = on (among y ns) refl
  where
    on : (b : Bool) → among y ns ≡ b → b ≡ false
    on false g = refl
    on true g = absurd (false≢true (sym f ∙ rw e (k y g)))

-- under both halves of its hash, in tables of n places
abbrev pub low_key : ℕ → Bytes → ℕ
low_key n x = low_half n (name_hash x)

abbrev pub high_key : ℕ → Bytes → ℕ
high_key n x = high_half n (name_hash x)

-- ---- keys

small_mod : (c : ℕ) → small_letter c % 32 ≡ c % 32
unfolding small_letter
small_mod c = on (capital c)
  where
    on : (b : Bool) → pick b (c + 32) c % 32 ≡ c % 32
    on true = omega arith
    on false = refl

small_high : (d : ℕ) → 97 ≤ d → small_letter d ≡ d
unfolding small_letter
small_high d h = rw (capital_above d (omega (arith, h)))

letter_mod : (n : Bytes) (i : ℕ) → i < length n → get_or (small_letters n) i 0 % 32 ≡ get_or n i 0 % 32
letter_mod n i h = ap (λ (c : ℕ). c % 32) (letter_at true n i h) ∙ small_mod (get_or n i 0)

last_small : (n : Bytes) → 97 ≤ last_letter n → last_letter (small_letters n) ≡ last_letter n
unfolding small_letters
last_small [] h = refl
last_small (c ∷ cs) h =
    ap (λ (l : ℕ). get_or (small_letters (c ∷ cs)) (l - 1) 0) (length_small (c ∷ cs))
    ∙ letter_at true (c ∷ cs) (length (c ∷ cs) - 1) (omega arith)
    ∙ small_high (last_letter (c ∷ cs)) h

-- the key, by letters modulo 32
abbrev key_of_three : ℕ → ℕ → ℕ → ℕ
key_of_three a b d = ((a * 4 + 27) * (d + 14) + b * 5) % 64

letter_key_small : (n : Bytes) → 97 ≤ last_letter n → letter_key (small_letters n) ≡ letter_key n
unfolding letter_key small_letters small_letter
letter_key_small [] h = refl
letter_key_small (c ∷ cs) h =
    let n = c ∷ cs in
    let p = get_or (1 ∷ small_letters n) (length (small_letters n) - 1) 0 in
    ap (λ (a : ℕ). key_of_three a (p % 32) (last_letter (small_letters n))) (letter_mod n 0 (omega arith))
    ∙ ap (λ (d : ℕ). key_of_three (get_or n 0 0 % 32) (p % 32) d) (last_small n h)
    ∙ ap (λ (l : ℕ). key_of_three (get_or n 0 0 % 32) (get_or (1 ∷ small_letters n) (l - 1) 0 % 32) (last_letter n)) (length_small n)
    ∙ ap (λ (b : ℕ). key_of_three (get_or n 0 0 % 32) b (last_letter n)) (letter_mod (1 ∷ n) (length n - 1) (omega arith))

-- the rule over all names that do not simply go to small letters
key_listed : over_lists (λ w v. ltb (last_letter w) 97 || eqb (letter_key (small_letters v)) (letter_key w)) ≡ true
unfolding letter_key renamed hyphenated_names kept_names parted small_letters small_letter
key_listed = refl

key_normal : (n : Bytes) → 97 ≤ last_letter n → letter_key (html_name (ident n)) ≡ letter_key n
unfolding html_name get_attr_name
key_normal n h = eqb-true (letter_key (small_letters (normalize_dom_attr_name n))) (letter_key n) (ap (λ (b : Bool). b || eqb (letter_key (small_letters (normalize_dom_attr_name n))) (letter_key n)) (sym high) ∙ normalize_ind f key_listed n (λ l. other))
  where
    high : ltb (last_letter n) 97 ≡ false
    high = le-ltb (last_letter n) 97 h

    f : Bytes → Bytes → Bool
    f w v = ltb (last_letter w) 97 || eqb (letter_key (small_letters v)) (letter_key w)

    lowered : 97 ≤ last_letter (small_letters n)
    lowered = rw (last_small n h) h

    other : f n (small_letters n) ≡ true
    other = ap (λ (b : Bool). b || eqb (letter_key (small_letters (small_letters n))) (letter_key n)) high ∙ eq-eqb (letter_key (small_letters (small_letters n))) (letter_key n) (letter_key_small (small_letters n) lowered ∙ letter_key_small n h)

key_low : (n : Bytes) → letter_key n < 64
unfolding letter_key
key_low n = mod-lt ((get_or n 0 0 % 32 * 4 + 27) * (last_letter n + 14) + get_or (1 ∷ n) (length n - 1) 0 % 32 * 5) (let l : 0 < 64 = omega arith in l)

-- the numbers that make it are small
small_room : (n m : ℕ) → n ≤ m → m ≤ 40770 → n < 2 ^ 64
small_room n m h k = omega (arith, h, k)

pub key_room : {x y : ℕ} → x ≤ 151 → y ≤ 270 → x * y < 2 ^ 64
key_room {x} {y} h k = small_room (x * y) (151 * y) (mul-le-mul_right y h) (omega (arith, k))

-- of one letter, and of more
pub last_of_one : (n : Bytes) → length n ≡ 1 → last_letter n ≡ get_or n 0 0
last_of_one n h = ap (λ (i : ℕ). get_or n i 0) (let z : length n - 1 ≡ 0 = omega (arith, h) in z)

pub key_of_one : (n : Bytes) → length n ≡ 1 → letter_key n ≡ key_by (get_or n 0 0) 1 (get_or n 0 0)
unfolding letter_key
key_of_one [] h = absurd (omega (arith, h))
key_of_one (c ∷ []) h = refl
key_of_one (c ∷ d ∷ cs) h = absurd (omega (arith, h))

pub key_of_more : (n : Bytes) → 2 ≤ length n → letter_key n ≡ key_by (get_or n 0 0) (get_or n (length n - 2) 0) (last_letter n)
unfolding letter_key
key_of_more [] h = absurd (omega (arith, h))
key_of_more (c ∷ []) h = absurd (omega (arith, h))
key_of_more (c ∷ d ∷ cs) h =
    let n = c ∷ d ∷ cs in
    let e : length n - 1 ≡ suc (length n - 2) = omega arith in
    ap (λ (i : ℕ). key_by c (get_or (1 ∷ n) i 0) (last_letter n)) e

-- dangerouslySetInnerHTML has a capital at its end
low_last : (n : Bytes) → 97 ≤ last_letter n → same n (ascii "dangerouslySetInnerHTML") ≡ false
low_last n h = on (same n (ascii "dangerouslySetInnerHTML")) refl
  where
    on : (b : Bool) → same n (ascii "dangerouslySetInnerHTML") ≡ b → b ≡ false
    on false e = refl
    on true e = absurd (let z : 97 ≤ 76 = subst (λ (m : Bytes). 97 ≤ last_letter m) (same_eq n (ascii "dangerouslySetInnerHTML") e) h in omega (arith, z))

pub keyed : (a b : Bytes) → attr_name_in (read a) ≡ ident b → 97 ≤ last_letter b → (m : ℕ) → m ≡ letter_key b →
    (m < 64) × (m ≡ letter_key (name_in a)) × (same (get_attr_name (attr_name_in (read a)) false) (ascii "dangerouslySetInnerHTML") ≡ false)
unfolding get_attr_name
keyed a b e h m g = (
  subst (λ (x : ℕ). x < 64) (sym g) (key_low b),
  g ∙ sym (key_normal b h) ∙ ap (λ n. letter_key (html_name n)) (sym e),
  ap (λ n. same (get_attr_name n false) (ascii "dangerouslySetInnerHTML")) e ∙ low_last b h,
)

-- ---- an identifier whose length fits a byte

pub short_named : (a : Bytes) (n : ℕ) → 3 ≤ length a → get_or a 0 0 ≡ 0x40 → get_or a 1 0 ≡ 0 → n ≡ get_or a 2 0 → n ≤ length (take (length a - 3) (drop 3 a)) →
    attr_name_in (read a) ≡ ident (take n (take (length a - 3) (drop 3 a)))
short_named a n h t z i j =
    let q = (header_is a n h (let k : n ≡ get_or a 1 0 * 256 + get_or a 2 0 = omega (arith, z, i) in k) j).0 in
    attr_name_40 a (get_or a 0 0) (tag_is a q refl) t
    ∙ ap ident (sym (body_is a q refl))
    ∙ ap ident (ap (λ (m : ℕ). take m (drop 3 a)) (let k : 3 + n - 3 ≡ n = omega arith in k))
    ∙ ap (λ (w : Bytes). ident (take n w)) (sym (take_all (length a - 3) (drop 3 a) (omega (arith, length-drop 3 a))))

-- ---- the key by both ends

-- 32 more at the first letter
wide : (y b : ℕ) → (y + 512 * b) / 8 % 64 ≡ y / 8 % 64
wide y b = omega arith

first_raised : (c b : ℕ) → ((c + 32) * 16 + 135) * b / 8 % 64 ≡ (c * 16 + 135) * b / 8 % 64
first_raised c b =
    ap (λ (n : ℕ). n * b / 8 % 64) (let z : (c + 32) * 16 + 135 ≡ c * 16 + 135 + 512 = omega arith in z)
    ∙ ap (λ (n : ℕ). n / 8 % 64) (add-mul (c * 16 + 135) 512 b)
    ∙ wide ((c * 16 + 135) * b) b

first_small : (c b : ℕ) → (small_letter c * 16 + 135) * b / 8 % 64 ≡ (c * 16 + 135) * b / 8 % 64
unfolding small_letter
first_small c b = on (capital c)
  where
    on : (k : Bool) → (pick k (c + 32) c * 16 + 135) * b / 8 % 64 ≡ (c * 16 + 135) * b / 8 % 64
    on true = first_raised c b
    on false = refl

ends_key_small : (n : Bytes) → ends_key (small_letters n) ≡ ends_key n
unfolding ends_key small_letters
ends_key_small [] = refl
ends_key_small (c ∷ cs) =
    let n = c ∷ cs in
    ap (λ (a : ℕ). (a * 16 + 135) * (last_letter (small_letters n) % 32 + 14) / 8 % 64) (letter_at true n 0 (omega arith))
    ∙ first_small (get_or n 0 0) (last_letter (small_letters n) % 32 + 14)
    ∙ ap (λ (l : ℕ). (get_or n 0 0 * 16 + 135) * (get_or (small_letters n) (l - 1) 0 % 32 + 14) / 8 % 64) (length_small n)
    ∙ ap (λ (d : ℕ). (get_or n 0 0 * 16 + 135) * (d + 14) / 8 % 64) (letter_mod n (length n - 1) (omega arith))

-- the rule over all names that do not simply go to small letters
ends_key_listed : over_lists (λ w v. eqb (ends_key (small_letters v)) (ends_key w)) ≡ true
unfolding ends_key renamed hyphenated_names kept_names parted small_letters small_letter
ends_key_listed = refl

ends_key_normal : (n : Bytes) → ends_key (html_name (ident n)) ≡ ends_key n
unfolding html_name get_attr_name
ends_key_normal n = eqb-true (ends_key (small_letters (normalize_dom_attr_name n))) (ends_key n) (normalize_ind f ends_key_listed n (λ l. other))
  where
    f : Bytes → Bytes → Bool
    f w v = eqb (ends_key (small_letters v)) (ends_key w)

    other : f n (small_letters n) ≡ true
    other = eq-eqb (ends_key (small_letters (small_letters n))) (ends_key n) (ends_key_small (small_letters n) ∙ ends_key_small n)

pub ends_key_is : (n : Bytes) → ends_key_by (get_or n 0 0) (last_letter n) ≡ ends_key n
unfolding ends_key
ends_key_is n = refl

ends_key_low : (n : Bytes) → ends_key n < 64
unfolding ends_key
ends_key_low n = mod-lt ((get_or n 0 0 * 16 + 135) * (last_letter n % 32 + 14) / 8) (let l : 0 < 64 = omega arith in l)

inner_html_key_is : ends_key (ascii "dangerouslySetInnerHTML") ≡ inner_html_key
unfolding ends_key
inner_html_key_is = refl

-- a name of another key is another name
another_key : (n : Bytes) → (ends_key n ≡ inner_html_key → ⊥) → same n (ascii "dangerouslySetInnerHTML") ≡ false
another_key n h = on (same n (ascii "dangerouslySetInnerHTML")) refl
  where
    on : (b : Bool) → same n (ascii "dangerouslySetInnerHTML") ≡ b → b ≡ false
    on false e = refl
    on true e = absurd (h (ap ends_key (same_eq n (ascii "dangerouslySetInnerHTML") e) ∙ inner_html_key_is))

pub ends_keyed : (a b : Bytes) → attr_name_in (read a) ≡ ident b → (m : ℕ) → m ≡ ends_key b →
    (m < 64) × (m ≡ ends_key (name_in a)) × ((m ≡ inner_html_key → ⊥) → same (get_attr_name (attr_name_in (read a)) false) (ascii "dangerouslySetInnerHTML") ≡ false)
unfolding get_attr_name
ends_keyed a b e m g = (
  subst (λ (x : ℕ). x < 64) (sym g) (ends_key_low b),
  g ∙ sym (ends_key_normal b) ∙ ap (λ n. ends_key (html_name n)) (sym e),
  λ h. ap (λ n. same (get_attr_name n false) (ascii "dangerouslySetInnerHTML")) e ∙ another_key b (λ z. h (g ∙ z)),
)

-- ---- keys that are seen, each a bit

abbrev Bits : (Bytes → ℕ) → ℕ → List Bytes → Type 0
Bits key seen ns = (x : Bytes) → among x ns ≡ true → bit_at seen (key x) ≡ 1

-- some names are passed, no two of them one, and the key of each is seen
pub record SeenSoFar (key : Bytes → ℕ) (N : List Bytes) (seen : ℕ) (left : List Bytes) : Type 0 where
  pub names : List Bytes
  pub passed : Passed N names left
  pub bits : Bits key seen names

pub seen_none : (key : Bytes → ℕ) (N : List Bytes) (seen : ℕ) → SeenSoFar key N seen N
unfolding among
seen_none key N seen = record { names = []; passed = passed_none N; bits = λ x h. absurd (false≢true h) }

abbrev marked : ℕ → ℕ → ℕ
marked seen k = bit_or seen (1 * 2 ^ k % 2 ^ 64)

clear : (seen k : ℕ) → (bit_and (seen / 2 ^ k) 1 ≡ 1 → ⊥) → bit_at seen k ≡ 1 → ⊥
clear seen k h f = h (shr_and_one seen k ∙ f)

-- dangerouslySetInnerHTML's is seen from the start
pub not_inner : (seen k : ℕ) → bit_at seen inner_html_key ≡ 1 → (bit_and (seen / 2 ^ k) 1 ≡ 1 → ⊥) → k ≡ inner_html_key → ⊥
not_inner seen k i h e = clear seen k h (ap (bit_at seen) e ∙ i)

pub inner_more : (seen k : ℕ) → k < 64 → bit_at seen inner_html_key ≡ 1 → (bit_and (seen / 2 ^ k) 1 ≡ 1 → ⊥) → bit_at (marked seen k) inner_html_key ≡ 1
inner_more seen k l i h = bit_at_set_other w64 seen k l inner_html_key (λ z. not_inner seen k i h (sym z)) ∙ i

module _ {key : Bytes → ℕ} {N : List Bytes} {seen : ℕ} {left : List Bytes} (p : SeenSoFar key N seen left) where
  pub seen_all : left ≡ [] → repeats N ≡ false
  seen_all e = sym (passed_all p.passed e)

  module _ {y : Bytes} {r : List Bytes} (e : left ≡ y ∷ r) {k : ℕ} (l : k < 64) (g : k ≡ key y) (h : bit_and (seen / 2 ^ k) 1 ≡ 1 → ⊥) where
    new : among y p.names ≡ false
    new = on (among y p.names) refl
      where
        on : (b : Bool) → among y p.names ≡ b → b ≡ false
        on false f = refl
        on true f = absurd (clear seen k h (ap (bit_at seen) g ∙ p.bits y f))

    more_bits : Bits key (marked seen k) (p.names ++ (y ∷ []))
    unfolding among
    more_bits x m = on (eqb (key x) k) refl
      where
        kept : eqb (key x) k ≡ false → (b : Bool) → same x y ≡ b → (among x p.names || (b || false)) ≡ true → among x p.names ≡ true
        kept f true q z = absurd (eqb-false (key x) k f (ap key (same_eq x y q) ∙ sym g))
        kept f false q z = sym (or-false (among x p.names)) ∙ z

        on : (b : Bool) → eqb (key x) k ≡ b → bit_at (marked seen k) (key x) ≡ 1
        on true f = ap (bit_at (marked seen k)) (eqb-true (key x) k f) ∙ bit_at_set_same w64 seen k l
        on false f = bit_at_set_other w64 seen k l (key x) (eqb-false (key x) k f) ∙ p.bits x (kept f (same x y) refl (sym (among_append x p.names (y ∷ [])) ∙ m))

    pub seen_more : SeenSoFar key N (marked seen k) r
    seen_more = record { names = p.names ++ (y ∷ []); passed = passed_one p.passed e new; bits = more_bits }

-- ---- the attributes in front

pub names_end : (s : Bytes) → Ended (read s) → names_in s ≡ []
unfolding html_names
names_end s i = ap html_names (attributes_none (read s) i)

-- of a row of which no attribute is the second field
one_front : (s : Bytes) (t : ℕ) {w r : Bytes} → IsFront s t w r → names_in r ≡ [] → false ≡ repeats (names_in s)
unfolding repeats among
one_front s t f e =
    tested t 0x50 (λ k. rw (names_at_50 s t f.tag_is k f.body_is f.behind_is, e)) λ a.
    tested t 0x53 (λ k. rw (names_at_53 s t f.tag_is k f.behind_is, e)) λ b.
    rw (names_none s t f.tag_is a b)

no_second : (s : Bytes) (o : Option Field) (r : Bytes) → Steps s o r → ((f : Field) → o ≡ Some f → (f.tag ≡ 0x50 → ⊥) × (f.tag ≡ 0x53 → ⊥)) → names_in s ≡ []
no_second s None r e h = names_end s e.ended
no_second s (Some f) r e h = names_none s f.tag e.tag_is (h f refl).0 (h f refl).1

pub one_only : (s : Fields) (xs : List Field) (o : Option Field) (u : Fields) → YieldsThen GivesField s xs o u → MatchOption o (length xs ≤ 1) (λ _. length xs ≡ 1) →
    ((f : Field) → o ≡ Some f → (f.tag ≡ 0x50 → ⊥) × (f.tag ≡ 0x53 → ⊥)) → false ≡ repeats (names_in s.0.now)
unfolding repeats
one_only s [] None u e l h = rw (names_end s.0.now (subst (λ (t : Fields). GivesField t None u) (sym e.1) e.2).ended)
one_only s [] (Some f) u e l h = absurd (omega (arith, l))
one_only s (x ∷ []) o u e l h = one_front s.0.now x.tag e.1.1 (no_second e.1.0.0.now o u.0.now (subst (λ (t : Fields). GivesField t o u) (sym e.1.2) e.2) h)
one_only s (x ∷ y ∷ xs) None u e l h = absurd (omega (arith, l))
one_only s (x ∷ y ∷ xs) (Some f) u e l h = absurd (omega (arith, l))

-- ---- the names of the attributes that are written, one after the other

names_written : (as' : P.Attributes) → html_names (written as') ≡ html_names as'
unfolding html_names written
names_written P.no_attributes = refl
names_written (P.attribute n v as') = ap (λ ns. html_name n ∷ ns) (names_written as')
names_written (P.spread_attribute e as') = names_written as'

pub names_gone : {s t : Bytes} → NoAttribute s t → names_in s ≡ []
unfolding html_names
names_gone {s} g = sym (names_written (attributes_in (read s))) ∙ ap html_names g.none_written

pub names_step : {s a t : Bytes} → IsAttribute s a t → names_in s ≡ name_in a ∷ names_in t
unfolding html_names
names_step {s} {a} {t} g = sym (names_written (attributes_in (read s))) ∙ ap html_names g.written_is ∙ ap (λ ns. name_in a ∷ ns) (names_written (attributes_in (read t)))

pub attributes_yield : (s : Attributes) → YieldsList GivesAttribute (λ (a : Bor Bytes). name_in a.now) s (names_in s.0.now)
attributes_yield s = YieldsList-from_shown GivesAttribute (λ (a : Bor Bytes). name_in a.now) (λ (row : Attributes). names_in row.0.now) (λ t u g. ap length (names_gone g)) (λ t a u g. names_step g) s

pub any_among : (x : Bytes) (ns : List Bytes) → list_any (same x) ns ≡ among x ns
unfolding among
any_among x [] = refl
any_among x (n ∷ ns) = ap (λ (b : Bool). same x n || b) (any_among x ns)
