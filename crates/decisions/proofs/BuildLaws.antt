-- The index as it is built: so many entries, and what is left of the series. Main statements: `built_none`, `built_more`, `built_past`,
-- `built_all`. Assumes nothing.
use mathlib.Core.Path.{◌≡◌, refl, sym, ap, ap₂, ◌∙◌, subst}
use mathlib.Core.Bool.{Bool, true, false, ◌||◌, or-false}
use Prim.Native.Nat.{ℕ, zero, suc, ◌+◌, ◌*◌, ◌≤◌, ◌<◌}
use native.Mathlib.Numerals.{add-one}
use native.Mathlib.Omega.{arith}
use mathlib.Core.List.{List, [], ◌∷◌, ◌++◌, append_assoc}
use lib.Dec.{ltb}
use lib.ListN.{length, take, drop, get_or, length-append}
use lib.Seq.{take_at, drop_at, drop-drop, length-take-le}
use borrow.Author.Tests.{le-leb}
use Rattle.field.specs.Bytes.{Bytes, pick, same, among}
use Rattle.field.specs.Row.{read, Ended, next, next_of}
use Rattle.field.specs.Front.{tag_of_front, body_of, behind_of, body_by}
use Rattle.field.specs.Put.{put}
use Rattle.field.proofs.PutLaws.{length_put, put_fits}
use Rattle.field.proofs.RowLaws.{Parts, next_parts}
use Rattle.field.proofs.FrontLaws.{next_at, sizes}
use Rattle.names.proofs.CompareLaws.{same_eq}
use Rattle.page.specs.Tree.{texts_in}
use Rattle.decisions.specs.Index.{hash, two_at, name_at, before_at, chain, names_of, linked}
use Rattle.decisions.proofs.Series.{tested, texts_none, texts_20, texts_past}
use Rattle.decisions.proofs.IndexLaws.{hash_low, listed_indexed}
use Rattle.decisions.proofs.LinkLaws.{front_kept, Links, links}

-- ---- the names of an entry and of those before it

-- every entry below k is behind the one that it names
module _ (b : Bytes) (k : ℕ) (falls : (j : ℕ) → j < k → before_at b j ≤ j) where
  -- the first argument does not matter, if it is enough
  chain_enough : (f g j : ℕ) → j ≤ k → j ≤ f → j ≤ g → chain f b j ≡ chain g b j
  unfolding chain
  chain_enough zero zero j h u v = refl
  chain_enough zero (suc g) zero h u v = refl
  chain_enough zero (suc g) (suc j) h u v = absurd (omega arith)
  chain_enough (suc f) zero zero h u v = refl
  chain_enough (suc f) zero (suc j) h u v = absurd (omega arith)
  chain_enough (suc f) (suc g) zero h u v = refl
  chain_enough (suc f) (suc g) (suc j) h u v =
      let l : before_at b j ≤ j = falls j (omega arith) in
      ap (λ (x : List Bytes). name_at b j ∷ x) (chain_enough f g (before_at b j) (omega arith) (omega arith) (omega arith))

  -- with one entry more
  module _ {h p : ℕ} {o : Bytes} (l : Links b h k p o) where
    name_kept : (j : ℕ) → j < k → name_at o j ≡ name_at b j
    unfolding name_at
    name_kept j i =
        ap body_of
        (ap (λ (x : ℕ). drop (7512 + x) o) (l.places j i)
        ∙ sym (drop-drop (two_at b (2050 + 4 * j)) 7512 o)
        ∙ ap (drop (two_at b (2050 + 4 * j))) l.series
        ∙ drop-drop (two_at b (2050 + 4 * j)) 7512 b)

    chain_kept : (f j : ℕ) → j ≤ k → chain f o j ≡ chain f b j
    unfolding chain
    chain_kept zero j i = refl
    chain_kept (suc f) zero i = refl
    chain_kept (suc f) (suc j) i =
        let u : j < k = omega arith in
        let v : before_at b j ≤ j = falls j u in
        ap₂ (λ (x : Bytes) (y : List Bytes). x ∷ y) (name_kept j u) (ap (chain f o) (l.befores j u) ∙ chain_kept f (before_at b j) (omega arith))

    chain_linked : (f : ℕ) → k ≤ f → two_at b (2 * h) ≤ k → chain (suc f) o (two_at o (2 * h)) ≡ name_at o k ∷ chain (suc f) b (two_at b (2 * h))
    unfolding chain
    chain_linked f u v =
        ap (chain (suc f) o) (l.head_new ∙ add-one k)
        ∙ ap (λ (x : ℕ). name_at o k ∷ chain f o x) l.before_new
        ∙ ap (λ (x : List Bytes). name_at o k ∷ x) (chain_kept f (two_at b (2 * h)) v ∙ chain_enough f (suc f) (two_at b (2 * h)) v (omega arith) (omega arith))

-- ---- the name that stands in front, whatever follows

next_followed : (s : Bytes) (t : ℕ) (w r x : Bytes) → next_of s ≡ next t w r → next_of (s ++ x) ≡ next t w (r ++ x)
unfolding next_of
next_followed s t w r x e =
    let p = next_parts s t w r e in
    ap (λ (y : Bytes). next_of (y ++ x)) p.all_is
    ∙ ap (λ (y : Bytes). next_of (t ∷ p.high ∷ p.low ∷ y)) (append_assoc w r x)
    ∙ rw (p.length_is, le-leb (length w) (length (w ++ (r ++ x))) (omega (arith, length-append w (r ++ x))), take_at w (r ++ x) (length w) refl, drop_at w (r ++ x) (length w) refl)

body_followed : (s x : Bytes) (t : ℕ) → t ≡ tag_of_front s → (t ≡ 256 → ⊥) → body_of (s ++ x) ≡ body_of s
unfolding body_of
body_followed s x t e h = ap body_by (next_followed s t (body_of s) (behind_of s) x (next_at s t e h))

-- ---- the index as it is built

-- b has k entries, for what stands in front of left
pub record Built (b list : Bytes) (k : ℕ) (left : Bytes) : Type 0 where
  pub size : length b ≡ 11608
  pub short : length list ≤ 4096
  pub passed : Bytes
  pub list_is : list ≡ passed ++ left
  pub rest : Bytes
  pub series : drop 7512 b ≡ list ++ rest
  pub room : 3 * k + length left ≤ length list
  pub heads : (h : ℕ) → h < 1024 → two_at b (2 * h) ≤ k
  pub falls : (j : ℕ) → j < k → before_at b j ≤ j
  pub listed : (n : Bytes) → (among n (chain 1366 b (two_at b (2 * hash n))) || among n (texts_in 0x20 (read left))) ≡ among n (texts_in 0x20 (read list))

-- of zeros and the series
two_zero : (o : Bytes) → ((i : ℕ) → get_or o i 0 ≡ 0) → (j : ℕ) → two_at o j ≡ 0
unfolding two_at
two_zero o z j = on (ltb (j + 1) (length o)) (get_or o j 0) (get_or o (j + 1) 0) (z j) (z (j + 1))
  where
    on : (c : Bool) (x y : ℕ) → x ≡ 0 → y ≡ 0 → pick c (x * 256 + y) 0 ≡ 0
    on true x y u v = omega arith
    on false x y u v = refl

two_front : (o : Bytes) (n : ℕ) (w : Bytes) (j : ℕ) → j + 1 < n → two_at (put o n w) j ≡ two_at o j
unfolding two_at
two_front o n w j h = rw (length_put, front_kept o n w j (omega arith), front_kept o n w (j + 1) h)

none_listed : (n : Bytes) (f : ℕ) (b : Bytes) (x : Bool) → (among n (chain f b 0) || x) ≡ x
unfolding among chain
none_listed n zero b x = refl
none_listed n (suc f) b x = refl

pub built_none : (list o : Bytes) → length list ≤ 4096 → length o ≡ 11608 → ((i : ℕ) → get_or o i 0 ≡ 0) → {b : Bytes} → b ≡ put o 7512 list → Built b list 0 list
built_none list o l s z {b} e = subst (λ (x : Bytes). Built x list 0 list) (sym e)
    record {
      size = length_put o 7512 list ∙ s;
      short = l;
      passed = [];
      list_is = refl;
      rest = drop (7512 + length list) o;
      series = ap (drop 7512) (put_fits o 7512 list (omega arith)) ∙ drop_at (take 7512 o) (list ++ drop (7512 + length list) o) 7512 (length-take-le 7512 o (omega arith));
      room = omega arith;
      heads = λ h i. omega (arith, head_zero h i);
      falls = λ j i. absurd (omega arith);
      listed = λ n. ap (λ (x : ℕ). among n (chain 1366 (put o 7512 list) x) || among n (texts_in 0x20 (read list))) (head_zero (hash n) (hash_low 0 n (omega arith))) ∙ none_listed n 1366 (put o 7512 list) (among n (texts_in 0x20 (read list)));
    }
  where
    head_zero : (h : ℕ) → h < 1024 → two_at (put o 7512 list) (2 * h) ≡ 0
    head_zero h i = two_front o 7512 list (2 * h) (omega arith) ∙ two_zero o z (2 * h)

-- at the end
pub built_all : (b list : Bytes) (k : ℕ) (left : Bytes) → Built b list k left → Ended (read left) → (n : Bytes) → among n (names_of b) ≡ among n (texts_in 0x20 (read list))
unfolding among
built_all b list k left u e n =
    listed_indexed n b (omega (arith, u.size))
    ∙ sym (or-false (among n (chain 1366 b (two_at b (2 * hash n)))))
    ∙ ap (λ (x : List Bytes). among n (chain 1366 b (two_at b (2 * hash n))) || among n x) (sym (texts_none (read left) e 0x20))
    ∙ u.listed n

-- ---- what lies behind a field

or_swap : (a b c : Bool) → (a || b || c) ≡ (b || (a || c))
or_swap true true c = refl
or_swap true false c = refl
or_swap false b c = refl

-- names of two hashes are two names
other_hash : (n m : Bytes) → (hash n ≡ hash m → ⊥) → same n m ≡ false
other_hash n m h = on (same n m) refl
  where
    on : (b : Bool) → same n m ≡ b → b ≡ false
    on true q = absurd (h (ap hash (same_eq n m q)))
    on false q = refl

-- there is room for one entry more
pub few : (b list : Bytes) (k : ℕ) (left : Bytes) → Built b list k left → (t : ℕ) → t ≡ tag_of_front left → (t ≡ 256 → ⊥) → k < 1366
few b list k left u t e f = omega (arith, u.room, u.short, sizes left t e f)

module _ (b list : Bytes) (k : ℕ) (left : Bytes) (u : Built b list k left) (t : ℕ) (e : t ≡ tag_of_front left) (f : t ≡ 256 → ⊥) {r : Bytes} (q : r ≡ behind_of left) where
  parts : Parts left t (body_of left) r
  parts = next_parts left t (body_of left) r (next_at left t e f ∙ ap (next t (body_of left)) (sym q))

  abbrev passed_more : Bytes
  passed_more = u.passed ++ (t ∷ parts.high ∷ parts.low ∷ body_of left)

  list_more : list ≡ passed_more ++ r
  list_more = u.list_is ∙ ap (λ (x : Bytes). u.passed ++ x) parts.all_is ∙ sym (append_assoc u.passed (t ∷ parts.high ∷ parts.low ∷ body_of left) r)

  less : 3 + length r ≤ length left
  less = omega (arith, sizes left t e f, ap length q)

  -- one that is no name
  pub built_past : (t ≡ 0x20 → ⊥) → Built b list k r
  built_past m =
      record {
        size = u.size;
        short = u.short;
        passed = passed_more;
        list_is = list_more;
        rest = u.rest;
        series = u.series;
        room = omega (arith, u.room, less);
        heads = u.heads;
        falls = u.falls;
        listed = λ n. ap (λ (x : List Bytes). among n (chain 1366 b (two_at b (2 * hash n))) || among n x) (ap (λ (x : Bytes). texts_in 0x20 (read x)) q ∙ sym (texts_past left t e 0x20 f m)) ∙ u.listed n;
      }

  -- a name, of which an entry is made
  module _ (m : t ≡ 0x20) {h : ℕ} (d : h ≡ hash (body_of left)) (p : ℕ) (y : p + length left ≡ length list) {o : Bytes} (w : o ≡ linked b h k p) where
    head_low : h < 1024
    head_low = subst (λ (x : ℕ). x < 1024) (sym d) (hash_low 0 (body_of left) (omega arith))

    link_more : Links b h k p o
    link_more = subst (Links b h k p) (sym w) (links b h k p u.size head_low (few b list k left u t e f) (omega (arith, u.short, y)) (omega (arith, u.heads h head_low, few b list k left u t e f)))

    name_new : name_at o k ≡ body_of left
    unfolding name_at
    name_new =
        let z : length u.passed ≡ p = omega (arith, ap length u.list_is, length-append u.passed left, y) in
        ap body_of
        (ap (λ (x : ℕ). drop (7512 + x) o) link_more.place_new
        ∙ sym (drop-drop p 7512 o)
        ∙ ap (drop p) (link_more.series ∙ u.series ∙ ap (λ (x : Bytes). x ++ u.rest) u.list_is ∙ append_assoc u.passed left u.rest)
        ∙ drop_at u.passed (left ++ u.rest) p z)
        ∙ body_followed left u.rest t e f

    chain_new : chain 1366 o (two_at o (2 * h)) ≡ body_of left ∷ chain 1366 b (two_at b (2 * h))
    chain_new = chain_linked b k u.falls link_more 1365 (omega (arith, few b list k left u t e f)) (u.heads h head_low) ∙ ap (λ (x : Bytes). x ∷ chain 1366 b (two_at b (2 * h))) name_new

    chain_old : (g : ℕ) → g < 1024 → (g ≡ h → ⊥) → chain 1366 o (two_at o (2 * g)) ≡ chain 1366 b (two_at b (2 * g))
    chain_old g i n = ap (chain 1366 o) (link_more.heads g i n) ∙ chain_kept b k u.falls link_more 1366 (two_at b (2 * g)) (u.heads g i)

    texts_more : texts_in 0x20 (read left) ≡ body_of left ∷ texts_in 0x20 (read r)
    texts_more = texts_20 left t e m ∙ ap (λ (x : Bytes). body_of left ∷ texts_in 0x20 (read x)) (sym q)

    listed_more : (n : Bytes) → (among n (chain 1366 o (two_at o (2 * hash n))) || among n (texts_in 0x20 (read r))) ≡ (among n (chain 1366 b (two_at b (2 * hash n))) || among n (texts_in 0x20 (read left)))
    unfolding among
    listed_more n =
        let x : Bool = among n (texts_in 0x20 (read r)) in
        tested (hash n) h
        (λ z.
        ap (λ (g : ℕ). among n (chain 1366 o (two_at o (2 * g))) || x) z
        ∙ ap (λ (l : List Bytes). among n l || x) chain_new
        ∙ or_swap (same n (body_of left)) (among n (chain 1366 b (two_at b (2 * h)))) x
        ∙ ap (λ (g : ℕ). among n (chain 1366 b (two_at b (2 * g))) || (same n (body_of left) || x)) (sym z)
        ∙ ap (λ (x : List Bytes). among n (chain 1366 b (two_at b (2 * hash n))) || among n x) (sym texts_more))
        (λ z.
        ap (λ (l : List Bytes). among n l || x) (chain_old (hash n) (hash_low 0 n (omega arith)) z)
        ∙ ap (λ (v : Bool). among n (chain 1366 b (two_at b (2 * hash n))) || (v || x)) (sym (other_hash n (body_of left) (λ a. z (a ∙ sym d))))
        ∙ ap (λ (x : List Bytes). among n (chain 1366 b (two_at b (2 * hash n))) || among n x) (sym texts_more))

    pub built_more : Built o list (k + 1) r
    built_more =
        record {
          size = link_more.size ∙ u.size;
          short = u.short;
          passed = passed_more;
          list_is = list_more;
          rest = u.rest;
          series = link_more.series ∙ u.series;
          room = omega (arith, u.room, less);
          heads = λ g i. tested g h (λ z. omega (arith, ap (λ (x : ℕ). two_at o (2 * x)) z, link_more.head_new)) (λ z. omega (arith, link_more.heads g i z, u.heads g i));
          falls = λ j i. tested j k (λ z. omega (arith, ap (before_at o) z, link_more.before_new, u.heads h head_low)) (λ z. omega (arith, link_more.befores j (omega arith), u.falls j (omega arith)));
          listed = λ n. listed_more n ∙ u.listed n;
        }
