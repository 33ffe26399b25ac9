-- Laws of names held as a series or as an index. Main statements: `listed_plain`, `listed_indexed`; below them `among_append`,
-- `among_hashed`, `hash_low`, `among_gathered`; for the loops of the code `hash_on`, `small_on`, `chain_here`, `chain_on` and the like; `two_within`, `name_here`.
-- Assumes nothing.
use Rattle.names.specs.Table.{read_as}
use mathlib.Core.Path.{◌≡◌, refl, sym, ap, ◌∙◌}
use mathlib.Core.Bool.{Bool, true, false, ◌&&◌, ◌||◌, false≢true, and-false, or-false, or_assoc}
use Rattle.std.specs.Prelude.{Option, Some, None}
use Rattle.std.proofs.lemmas.List.{drop_min}
use Prim.Native.Nat.{ℕ, zero, suc, min, ◌+◌, ◌-◌, ◌*◌, ◌%◌, ◌≤◌, ◌<◌}
use native.Mathlib.Numerals.{add-one}
use native.Mathlib.Omega.{arith}
use mathlib.Core.List.{List, [], ◌∷◌, ◌++◌}
use lib.Dec.{eqb, ltb, leb-suc-zero}
use lib.ListN.{length, get_or, take, drop, length-drop, drop_of_length-le}
use lib.Seq.{take_all, drop-cons}
use borrow.Author.Tests.{ltb-true, ltb-false, eqb-true, eqb-false, lt-ltb, le-ltb, le-leb, lt-leb}
use Rattle.field.specs.Bytes.{Bytes, ascii, pick, same, among}
use Rattle.field.specs.Row.{read}
use Rattle.field.specs.Front.{body_of}
use Rattle.field.proofs.FrontLaws.{read_empty}
use Rattle.names.specs.Names.{small_letter, small_letters, normalize_dom_attr_name}
use Rattle.names.proofs.CompareLaws.{same_eq, same_refl}
use Rattle.names.proofs.ListLaws.{refuted}
use Rattle.names.proofs.NamespacedLaws.{namespaced_xlink, namespaced_other}
use Rattle.page.specs.Tree.{texts_in}
use Rattle.decisions.specs.Index.{before_at, link_of, hash_from, hash, two_at, name_at, chain, hashed, gathered, names_of}

pub among_append : (n : Bytes) (xs ys : List Bytes) → among n (xs ++ ys) ≡ (among n xs || among n ys)
unfolding among
among_append n [] ys = refl
among_append n (x ∷ xs) ys = rw (among_append n xs ys) (sym (or_assoc (same n x) (among n xs) (among n ys)))

-- a name is looked for under its own hash alone
pub among_hashed : (n : Bytes) (h : ℕ) (xs : List Bytes) → among n (hashed h xs) ≡ (eqb (hash n) h && among n xs)
unfolding among hashed
among_hashed n h [] = sym (and-false (eqb (hash n) h))
among_hashed n h (x ∷ xs) = on (eqb (hash x) h) refl (same n x) refl (among_hashed n h xs)
  where
    as_of : same n x ≡ true → eqb (hash n) h ≡ eqb (hash x) h
    as_of e = ap (λ (y : Bytes). eqb (hash y) h) (same_eq n x e)

    on : (b : Bool) → eqb (hash x) h ≡ b → (s : Bool) → same n x ≡ s → among n (hashed h xs) ≡ (eqb (hash n) h && among n xs) →
        among n (pick b (x ∷ hashed h xs) (hashed h xs)) ≡ (eqb (hash n) h && (s || among n xs))
    on true p true q r = rw (q, as_of q, p)
    on true p false q r = rw q r
    on false p true q r = r ∙ rw (as_of q, p)
    on false p false q r = r

pub hash_low : (h : ℕ) (b : Bytes) → h < 1024 → hash_from h b < 1024
unfolding hash_from
hash_low h [] l = l
hash_low h (c ∷ cs) l = hash_low ((h * 31 + c) % 1024) cs (omega arith)

one_more : (f : ℕ → Bool) (m k : ℕ) → ((ltb m k && f m) || (eqb m k && f k)) ≡ (ltb m (suc k) && f m)
one_more f m k = on (ltb m k) refl (eqb m k) refl
  where
    on : (a : Bool) → ltb m k ≡ a → (b : Bool) → eqb m k ≡ b → ((a && f m) || (b && f k)) ≡ (ltb m (suc k) && f m)
    on true p true q = absurd (omega (arith, ltb-true m k p, eqb-true m k q))
    on true p false q = rw (lt-ltb m (suc k) (omega (arith, ltb-true m k p))) (or-false (f m))
    on false p true q = rw (lt-ltb m (suc k) (omega (arith, eqb-true m k q))) (ap f (sym (eqb-true m k q)))
    on false p false q = rw (le-ltb m (suc k) (omega (arith, ltb-false m k p, eqb-false m k q)))

pub among_gathered : (n : Bytes) (k : ℕ) (b : Bytes) → among n (gathered k b) ≡ (ltb (hash n) k && among n (chain 1366 b (two_at b (2 * hash n))))
unfolding among gathered
among_gathered n zero b = rw (leb-suc-zero (hash n))
among_gathered n (suc k) b =
    among_append n (gathered k b) (hashed k (chain 1366 b (two_at b (2 * k)))) ∙
    rw (among_gathered n k b, among_hashed n k (chain 1366 b (two_at b (2 * k)))) (one_more (λ h. among n (chain 1366 b (two_at b (2 * h)))) (hash n) k)

-- ---- what the code looks at

pub listed_plain : (b : Bytes) → length b ≤ 4096 → names_of b ≡ texts_in 0x20 (read b)
unfolding names_of
listed_plain b h = rw (le-leb (length b) 4096 h)

pub listed_empty : (n b : Bytes) → length b ≡ 0 → among n (names_of b) ≡ false
unfolding among texts_in
listed_empty n b h = ap (λ (l : List Bytes). among n l) (listed_plain b (omega (arith, h)) ∙ ap (texts_in 0x20) (read_empty b h))

pub listed_indexed : (n b : Bytes) → 4096 < length b → among n (names_of b) ≡ among n (chain 1366 b (two_at b (2 * hash n)))
unfolding names_of
listed_indexed n b h = rw (lt-leb (length b) 4096 h, among_gathered n 1024 b, lt-ltb (hash n) 1024 (hash_low 0 n (omega arith)))

-- ---- a hash, byte by byte: i bytes of s are passed

module _ (x : ℕ) (s : Bytes) (i : ℕ) where
  pub hash_on : i < length s → hash_from ((x * 31 + get_or s i 0) % 1024) (drop (i + 1) s) ≡ hash_from x (drop i s)
  unfolding hash_from
  hash_on h = rw (add-one, drop-cons s i 0)

  pub hash_end : length s ≤ i → hash_from x (drop i s) ≡ x
  unfolding hash_from
  hash_end h = rw (drop_of_length-le s h)

  pub small_on : {c : ℕ} → c ≡ small_letter (get_or s i 0) → i < length s → hash_from ((x * 31 + c) % 1024) (small_letters (drop (i + 1) s)) ≡ hash_from x (small_letters (drop i s))
  unfolding hash_from small_letters
  small_on {c} e h = rw (add-one, drop-cons s i 0, e)

  pub small_end : length s ≤ i → hash_from x (small_letters (drop i s)) ≡ x
  unfolding hash_from small_letters
  small_end h = rw (drop_of_length-le s h)

  -- either, as the code reads it
  pub read_on : (small : Bool) {c : ℕ} → c ≡ pick small (small_letter (get_or s i 0)) (get_or s i 0) → i < length s → hash_from ((x * 31 + c) % 1024) (read_as small (drop (i + 1) s)) ≡ hash_from x (read_as small (drop i s))
  read_on true e h = small_on e h
  read_on false e h = ap (λ (c : ℕ). hash_from ((x * 31 + c) % 1024) (drop (i + 1) s)) e ∙ hash_on h

  pub read_end : (small : Bool) → length s ≤ i → hash_from x (read_as small (drop i s)) ≡ x
  read_end true h = small_end h
  read_end false h = hash_end h

-- ---- a chain, entry by entry: f entries may be left

chain_front : (f k : ℕ) (b : Bytes) → 0 < f → chain f b (suc k) ≡ name_at b k ∷ chain (f - 1) b (before_at b k)
unfolding chain
chain_front zero k b g = absurd (omega arith)
chain_front (suc f) k b g = let l : suc f - 1 ≡ f = omega arith in rw l

chain_zero : (n b : Bytes) (f : ℕ) → false ≡ among n (chain f b 0)
unfolding among chain
chain_zero n b zero = refl
chain_zero n b (suc f) = refl

module _ (n b : Bytes) (f : ℕ) where
  pub chain_spent : (k : ℕ) → f ≤ 0 → false ≡ among n (chain f b k)
  unfolding among chain
  chain_spent k h =
      let z : f ≡ 0 = omega arith in
      rw z

  pub chain_none : {o : Option ℕ} → o ≡ None → false ≡ among n (chain f b (link_of o))
  chain_none z = rw z (chain_zero n b f)

  module _ {o : Option ℕ} {k : ℕ} (z : o ≡ Some k) (g : 0 < f) {m : Bytes} (q : m ≡ name_at b k) {v : Bool} (e : v ≡ same n m) where
    in_front : among n (chain f b (link_of o)) ≡ (v || among n (chain (f - 1) b (before_at b k)))
    unfolding among
    in_front = rw z (ap (among n) (chain_front f k b g) ∙ rw (e, q))

    pub chain_here : v ≡ true → true ≡ among n (chain f b (link_of o))
    chain_here h = sym (in_front ∙ rw h)

    pub chain_on : v ≡ false → (p : Option ℕ) → link_of p ≡ before_at b k → among n (chain (f - 1) b (link_of p)) ≡ among n (chain f b (link_of o))
    chain_on h p u = sym (in_front ∙ rw (h, u))

-- ---- two bytes

module _ (b : Bytes) (i : ℕ) where
  pub two_within : i + 1 < length b → get_or b i 0 * 256 + get_or b (i + 1) 0 ≡ two_at b i
  unfolding two_at
  two_within u = rw (lt-ltb (i + 1) (length b) u)

  pub two_past : length b ≤ i + 1 → 0 ≡ two_at b i
  unfolding two_at
  two_past u = rw (le-ltb (i + 1) (length b) u)

-- an entry's name, from its place on, where that is within
pub name_here : (b : Bytes) (k : ℕ) {w : ℕ} → w ≡ two_at b (2050 + 4 * k) → {p : ℕ} → p ≡ min (7512 + w) (length b) → body_of (take (length b - p) (drop p b)) ≡ name_at b k
unfolding name_at
name_here b k {w} q {p} e =
    ap body_of (take_all (length b - p) (drop p b) (omega (arith, length-drop p b)) ∙ ap (λ (n : ℕ). drop n b) e ∙ drop_min (7512 + w) b ∙ ap (λ (n : ℕ). drop (7512 + n) b) q)

-- ---- what the code finds

pub hash_is : (m w : Bytes) {v : Bool} → v ≡ same m w → v ≡ true → {h : ℕ} → h ≡ hash w → h ≡ hash m
hash_is m w e t q = q ∙ ap hash (sym (same_eq m w (sym e ∙ t)))

hash_append : (h : ℕ) (a b : Bytes) → hash_from h (a ++ b) ≡ hash_from (hash_from h a) b
unfolding hash_from
hash_append h [] b = refl
hash_append h (c ∷ a) b = hash_append ((h * 31 + c) % 1024) a b

-- namespaced and not `href`: small letters on both sides of the colon
pub hash_other : (ns n : Bytes) {v : Bool} → v ≡ same (normalize_dom_attr_name (ns ++ (58 ∷ n))) (ascii "href") → v ≡ false →
    {a : ℕ} → a ≡ hash (small_letters ns) → {b : ℕ} → b ≡ hash_from a (58 ∷ []) → {h : ℕ} → h ≡ hash_from b (small_letters n) → h ≡ hash (normalize_dom_attr_name (ns ++ (58 ∷ n)))
unfolding hash_from
hash_other ns n e f {a} p {b} q {h} r =
    let x = same ns (ascii "xlink") && same n (ascii "href") in
    let o : x ≡ false =
    refuted x (λ t. false≢true (sym f ∙ e ∙ ap (λ (m : Bytes). same m (ascii "href")) (namespaced_xlink ns n t) ∙ same_refl (ascii "href"))) in
    r ∙ rw (q, p) (sym (ap hash (namespaced_other ns n o) ∙ hash_append 0 (small_letters ns) (58 ∷ small_letters n)))

module _ (n b : Bytes) where
  pub listed_series : length b ≤ 4096 → {v : Bool} → v ≡ among n (texts_in 0x20 (read b)) → v ≡ among n (names_of b)
  listed_series h e = e ∙ ap (among n) (sym (listed_plain b h))

  pub listed_chain : 4096 < length b → {v : Bool} → v ≡ among n (chain 1366 b (two_at b (2 * hash n))) → v ≡ among n (names_of b)
  listed_chain g e = e ∙ sym (listed_indexed n b g)
