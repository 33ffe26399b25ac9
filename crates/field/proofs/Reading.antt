-- Reading bytes as a row and writing a row as bytes are each other's inverses, whatever a tag's body is said to hold; one step of reading, and
-- induction along it. RowLaws has the same of the reading that the transform's outputs want.
-- Main statements: `step`, `along`, `back`, `shaped`, `written`, `sane`, `short`.
-- Assumes nothing.
use mathlib.Core.Path.{◌≡◌, refl, sym, ap, ap₂, ◌∙◌, subst}
use mathlib.Core.Bool.{Bool, true, false, ◌||◌, not}
use Prim.Native.Nat.{ℕ, zero, suc, ◌+◌, ◌*◌, ◌/◌, ◌%◌, ◌≤◌, ◌<◌}
use native.Mathlib.Omega.{arith}
use native.Mathlib.Decide.{dec_le}
use mathlib.Core.List.{[], ◌∷◌, ◌++◌, append-nil}
use lib.Dec.{T, leb, ltb, eqb, leb→le, le→leb, eqb→eq, eqb_refl, nltb→le}
use lib.ListN.{length, take, drop, length-append, length-take, length-drop, take-append-drop, drop_of_length-le}
use lib.Seq.{take_at, drop_at, take_all, length-take-le}
use borrow.Author.Tests.{le-ltb}
use Rattle.field.specs.Bytes.{Bytes, AllBytes, pick}
use Rattle.field.specs.Number.{big_endian, number_of}
use Rattle.field.specs.Row.{Row, end, loose, field, field_bytes, bytes, long_body, Inside, only_bytes, fields_after, Next, nothing, no_field, next, next_of, opened, built_by, read_from, read_by, counted, counted_front}
use Rattle.field.proofs.NumberLaws.{all_append, all_take, all_drop, all_big_endian}

-- ---- the rows that bytes read as

-- a front as the tag wants it: a text has no fields, and a front that is short has none behind it
unfoldable pub FrontFits : Inside → Bytes → Row → Type 0
FrontFits only_bytes f end = Unit {0}
FrontFits only_bytes f (loose b) = ⊥
FrontFits only_bytes f (field t g i r) = ⊥
FrontFits (fields_after zero) f i = T (eqb (length f) 0)
FrontFits (fields_after (suc n)) f end = T (leb (length f) (suc n))
FrontFits (fields_after (suc n)) f (loose b) = T (eqb (length f) (suc n))
FrontFits (fields_after (suc n)) f (field t g i r) = T (eqb (length f) (suc n))
FrontFits (counted n) f end = T (leb (length f) (counted_front n f))
FrontFits (counted n) f (loose b) = T (eqb (length f) (counted_front n f))
FrontFits (counted n) f (field t g i r) = T (eqb (length f) (counted_front n f))

-- n bytes stand in front of the fields of a body
abbrev pub Opens : Inside → Bytes → ℕ → Type 0
Opens only_bytes w n = ⊥
Opens (fields_after m) w n = m ≡ n
Opens (counted m) w n = counted_front m w ≡ n

-- a row that bytes may read as: fronts as the tags want them, and loose bytes that are no field
abbrev pub ShapedBy : (ℕ → Inside) → Row → Type 0
ShapedBy held end = Unit {0}
ShapedBy held (loose b) = next_of b ≡ no_field
ShapedBy held (field t f i r) = FrontFits (held t) f i × ShapedBy held i × ShapedBy held r

-- fronts as the tags want them, and nothing but bytes anywhere
abbrev pub SaneBy : (ℕ → Inside) → Row → Type 0
SaneBy held end = Unit {0}
SaneBy held (loose b) = AllBytes b
SaneBy held (field t f i r) = FrontFits (held t) f i × AllBytes f × SaneBy held i × SaneBy held r × (t < 256)

-- ---- what stands in front

-- the field in front of s, byte by byte
pub record Parts (s : Bytes) (t : ℕ) (w r : Bytes) : Type 0 where
  pub high : ℕ
  pub low : ℕ
  pub all_is : s ≡ t ∷ high ∷ low ∷ (w ++ r)
  pub length_is : high * 256 + low ≡ length w

parts_by : (t h l : ℕ) (v : Bytes) (b : Bool) (u : ℕ) (w r : Bytes) → leb (h * 256 + l) (length v) ≡ b → pick b (next t (take (h * 256 + l) v) (drop (h * 256 + l) v)) no_field ≡ next u w r → Parts (t ∷ h ∷ l ∷ v) u w r
parts_by t h l v false u w r q e = absurd (let k : no_field ≡ next u w r = e in let z : ◌≡◌ {A = ℕ} 0 1 = cc in omega arith)
parts_by t h l v true u w r q e =
    let a : t ≡ u = cc in
    let b : take (h * 256 + l) v ≡ w = cc in
    let c : drop (h * 256 + l) v ≡ r = cc in
    let d : h * 256 + l ≤ length v = leb→le (h * 256 + l) (length v) (subst T (sym q) tt) in
    let f : v ≡ w ++ r = sym (take-append-drop (h * 256 + l) v) ∙ ap₂ (λ (x y : Bytes). x ++ y) b c in
    record {
      high = h;
      low = l;
      all_is = ap₂ (λ (x : ℕ) (y : Bytes). x ∷ h ∷ l ∷ y) a f;
      length_is = sym (length-take-le (h * 256 + l) v d) ∙ ap length b;
    }

pub next_parts : (s : Bytes) (t : ℕ) (w r : Bytes) → next_of s ≡ next t w r → Parts s t w r
unfolding next_of
next_parts [] t w r e = absurd (let z : ◌≡◌ {A = ℕ} 0 1 = cc in omega arith)
next_parts (x ∷ []) t w r e = absurd (let z : ◌≡◌ {A = ℕ} 0 1 = cc in omega arith)
next_parts (x ∷ y ∷ []) t w r e = absurd (let z : ◌≡◌ {A = ℕ} 0 1 = cc in omega arith)
next_parts (x ∷ y ∷ z ∷ v) t w r e = parts_by x y z v (leb (y * 256 + z) (length v)) t w r refl e

-- a field is its header, its body and what lies behind
pub next_sizes : (s : Bytes) (t : ℕ) (w r : Bytes) → next_of s ≡ next t w r → 3 + length w + length r ≡ length s
next_sizes s t w r e =
    let p = next_parts s t w r e in
    omega (arith, ap length p.all_is, length-append w r)

-- only of no bytes at all does nothing stand in front
pub next_nothing : (s : Bytes) → next_of s ≡ nothing → s ≡ []
unfolding next_of
next_nothing [] e = refl
next_nothing (x ∷ []) e = absurd (let z : ◌≡◌ {A = ℕ} 0 1 = cc in omega arith)
next_nothing (x ∷ y ∷ []) e = absurd (let z : ◌≡◌ {A = ℕ} 0 1 = cc in omega arith)
next_nothing (x ∷ y ∷ z ∷ v) e = on (leb (y * 256 + z) (length v)) e
  where
    on : (b : Bool) → pick b (next x (take (y * 256 + z) v) (drop (y * 256 + z) v)) no_field ≡ nothing → x ∷ y ∷ z ∷ v ≡ []
    on true k = absurd (let q : next x (take (y * 256 + z) v) (drop (y * 256 + z) v) ≡ nothing = k in let z : ◌≡◌ {A = ℕ} 0 1 = cc in omega arith)
    on false k = absurd (let q : no_field ≡ nothing = k in let z : ◌≡◌ {A = ℕ} 0 1 = cc in omega arith)

-- ---- a field that is written

-- a field that is written stands in front
pub next_written : (t : ℕ) (b r : Bytes) → length b ≤ 65535 → next_of (field_bytes t b ++ r) ≡ next t b r
unfolding next_of field_bytes big_endian
next_written t b r h =
    let n : (length b / 256 % 256) * 256 + length b % 256 ≡ length b = omega arith in
    subst (λ (n : ℕ). pick (leb n (length (b ++ r))) (next t (take n (b ++ r)) (drop n (b ++ r))) no_field ≡ next t b r) (sym n)
    (on (leb (length b) (length (b ++ r))) (le→leb (length b) (length (b ++ r)) (omega (arith, length-append b r))))
  where
    on : (c : Bool) → T c → pick c (next t (take (length b) (b ++ r)) (drop (length b) (b ++ r))) no_field ≡ next t b r
    on true u = ap₂ (λ (x y : Bytes). next t x y) (take_at b r (length b) refl) (drop_at b r (length b) refl)
    on false u = absurd u

not_or : (a b : Bool) → T (not (a || b)) → T (not a) × T (not b)
not_or true b t = absurd t
not_or false b t = (tt, t)

-- the bytes of a field, and of its parts
pub record AllParts (s : Bytes) (t : ℕ) (w r : Bytes) : Type 0 where
  pub tag_all : t < 256
  pub body_all : AllBytes w
  pub behind_all : AllBytes r
  pub body_short : length w ≤ 65535
  pub written : field_bytes t w ++ r ≡ s

pub all_parts : (s : Bytes) (t : ℕ) (w r : Bytes) → next_of s ≡ next t w r → AllBytes s → AllParts s t w r
unfolding AllBytes field_bytes big_endian
all_parts s t w r e a =
    let p = next_parts s t w r e in
    let h = p.high in
    let l = p.low in
    let b : AllBytes (t ∷ h ∷ l ∷ (w ++ r)) = subst AllBytes p.all_is a in
    let i : length w / 256 % 256 ≡ h = omega (arith, p.length_is, b.1.0, b.1.1.0) in
    let j : length w % 256 ≡ l = omega (arith, p.length_is, b.1.0, b.1.1.0) in
    record {
      tag_all = b.0;
      body_all = subst AllBytes (take_at w r (length w) refl) (all_take (length w) (w ++ r) b.1.1.1);
      behind_all = subst AllBytes (drop_at w r (length w) refl) (all_drop (length w) (w ++ r) b.1.1.1);
      body_short = omega (arith, p.length_is, b.1.0, b.1.1.0);
      written = ap₂ (λ (x y : ℕ). t ∷ x ∷ y ∷ (w ++ r)) i j ∙ sym p.all_is;
    }

pub all_field_bytes : (t : ℕ) (b : Bytes) → t < 256 → AllBytes b → AllBytes (field_bytes t b)
unfolding field_bytes AllBytes
all_field_bytes t b h a = (h, all_append (big_endian 2 (length b) []) b (all_big_endian 2 (length b) [] tt) a)

-- how long a row is
pub length_bytes : (t : ℕ) (f : Bytes) (i r : Row) → length (bytes (field t f i r)) ≡ 3 + length f + length (bytes i) + length (bytes r)
unfolding bytes field_bytes big_endian
length_bytes t f i r = omega (arith, length-append (f ++ bytes i) (bytes r), length-append f (bytes i))

-- ---- lists

drop_front : (n : ℕ) (a b : Bytes) → n ≤ length a → drop n (a ++ b) ≡ drop n a ++ b
drop_front zero a b h = refl
drop_front (suc n) [] b h = absurd (omega arith)
drop_front (suc n) (x ∷ a) b h = drop_front n a b (omega arith)

take_front : (n : ℕ) (a b : Bytes) → n ≤ length a → take n (a ++ b) ≡ take n a
take_front zero a b h = refl
take_front (suc n) [] b h = absurd (omega arith)
take_front (suc n) (x ∷ a) b h = ap (λ (y : Bytes). x ∷ y) (take_front n a b (omega arith))

-- ---- a front behind which fields stand

counted_kept : (n : ℕ) (f b : Bytes) → n + 2 ≤ length f → counted_front n (f ++ b) ≡ counted_front n f
counted_kept n f b h =
    let a : drop n (f ++ b) ≡ drop n f ++ b = drop_front n f b (omega arith) in
    let c : take 2 (drop n f ++ b) ≡ take 2 (drop n f) = take_front 2 (drop n f) b (omega (arith, length-drop n f)) in
    ap (λ (x : Bytes). n + 2 + number_of x) (ap (take 2) a ∙ c)

counted_taken : (n m : ℕ) (w : Bytes) → n + 2 ≤ m → counted_front n (take m w) ≡ counted_front n w
counted_taken n m w h = on (dec_le m (length w))
  where
    on : Dec (m ≤ length w) → counted_front n (take m w) ≡ counted_front n w
    on (yes q) = sym (counted_kept n (take m w) (drop m w) (omega (arith, length-take-le m w q))) ∙ ap (counted_front n) (take-append-drop m w)
    on (no q) = ap (counted_front n) (take_all m w (omega arith))

-- a front of its full length fits, whatever lies behind it
pub front_full : (n : ℕ) (f : Bytes) (i : Row) → length f ≡ n → FrontFits (fields_after n) f i
unfolding FrontFits
front_full zero f i e = subst (λ (x : ℕ). T (eqb (length f) x)) e (eqb_refl (length f))
front_full (suc n) f end e = le→leb (length f) (suc n) (omega arith)
front_full (suc n) f (loose b) e = subst (λ (x : ℕ). T (eqb (length f) x)) e (eqb_refl (length f))
front_full (suc n) f (field t g i r) e = subst (λ (x : ℕ). T (eqb (length f) x)) e (eqb_refl (length f))

pub front_counted : (n : ℕ) (f : Bytes) (i : Row) → length f ≡ counted_front n f → FrontFits (counted n) f i
unfolding FrontFits
front_counted n f end e = le→leb (length f) (counted_front n f) (omega arith)
front_counted n f (loose b) e = subst (λ (x : ℕ). T (eqb (length f) x)) e (eqb_refl (length f))
front_counted n f (field t g i r) e = subst (λ (x : ℕ). T (eqb (length f) x)) e (eqb_refl (length f))

front_short : (n : ℕ) (f : Bytes) → length f ≤ n → FrontFits (fields_after n) f end
unfolding FrontFits
front_short zero f h = front_full zero f end (omega arith)
front_short (suc n) f h = le→leb (length f) (suc n) h

module _ (held : ℕ → Inside) where
  -- ---- one step of reading

  built_same : (f g : Bytes → Row) (s : Bytes) (n : Next) → next_of s ≡ n → ((b : Bytes) → length b < length s → f b ≡ g b) → built_by held f s n ≡ built_by held g s n
  unfolding opened
  built_same f g s nothing e h = refl
  built_same f g s no_field e h = refl
  built_same f g s (next t w r) e h = on (held t)
    where
      nest : (n : ℕ) → field t (take n w) (f (drop n w)) (f r) ≡ field t (take n w) (g (drop n w)) (g r)
      nest n = ap₂ (λ (x y : Row). field t (take n w) x y) (h (drop n w) (omega (arith, next_sizes s t w r e, length-drop n w))) (h r (omega (arith, next_sizes s t w r e)))

      on : (c : Inside) → opened c f t w r ≡ opened c g t w r
      on only_bytes = ap (λ (x : Row). field t w end x) (h r (omega (arith, next_sizes s t w r e)))
      on (fields_after n) = nest n
      on (counted n) = nest (counted_front n w)

  -- the count does not matter, if it is enough
  enough : (k j : ℕ) (s : Bytes) → length s < k → length s < j → read_from held k s ≡ read_from held j s
  unfolding read_from
  enough zero j s h i = absurd (omega arith)
  enough (suc k) zero s h i = absurd (omega arith)
  enough (suc k) (suc j) s h i = built_same (read_from held k) (read_from held j) s (next_of s) refl (λ b l. enough k j b (omega arith) (omega arith))

  pub step : (s : Bytes) → read_by held s ≡ built_by held (read_by held) s (next_of s)
  unfolding read_from
  step s = built_same (read_from held (length s)) (read_by held) s (next_of s) refl (λ b l. enough (length s) (suc (length b)) b l (omega arith))

  pub nil : read_by held [] ≡ end
  unfolding next_of
  nil = step []

  -- ---- induction along reading

  module _ (P : Bytes → Row → Type 0)
      (at_end : (s : Bytes) → next_of s ≡ nothing → P s end)
      (at_loose : (s : Bytes) → next_of s ≡ no_field → P s (loose s))
      (at_leaf : (s : Bytes) (t : ℕ) (w r : Bytes) → next_of s ≡ next t w r → held t ≡ only_bytes → P r (read_by held r) → P s (field t w end (read_by held r)))
      (at_nest : (s : Bytes) (t : ℕ) (w r : Bytes) (n : ℕ) → next_of s ≡ next t w r → Opens (held t) w n → P (drop n w) (read_by held (drop n w)) → P r (read_by held r) → P s (field t (take n w) (read_by held (drop n w)) (read_by held r))) where
    by_inside : (s : Bytes) (t : ℕ) (w r : Bytes) (c : Inside) → next_of s ≡ next t w r → held t ≡ c → ((b : Bytes) → length b < length s → P b (read_by held b)) → P s (opened c (read_by held) t w r)
    unfolding opened
    by_inside s t w r only_bytes e q h = at_leaf s t w r e q (h r (omega (arith, next_sizes s t w r e)))
    by_inside s t w r (fields_after n) e q h =
        at_nest s t w r n e (subst (λ (c : Inside). Opens c w n) (sym q) refl) (h (drop n w) (omega (arith, next_sizes s t w r e, length-drop n w))) (h r (omega (arith, next_sizes s t w r e)))
    by_inside s t w r (counted m) e q h =
        let n : ℕ = counted_front m w in
        at_nest s t w r n e (subst (λ (c : Inside). Opens c w n) (sym q) refl) (h (drop n w) (omega (arith, next_sizes s t w r e, length-drop n w))) (h r (omega (arith, next_sizes s t w r e)))

    by_next : (s : Bytes) (n : Next) → next_of s ≡ n → ((b : Bytes) → length b < length s → P b (read_by held b)) → P s (built_by held (read_by held) s n)
    by_next s nothing e h = at_end s e
    by_next s no_field e h = at_loose s e
    by_next s (next t w r) e h = by_inside s t w r (held t) e refl h

    by_length : (k : ℕ) (s : Bytes) → length s < k → P s (read_by held s)
    by_length zero s h = absurd (omega arith)
    by_length (suc k) s h = subst (P s) (sym (step s)) (by_next s (next_of s) refl (λ b l. by_length k b (omega arith)))

    pub along : (s : Bytes) → P s (read_by held s)
    along s = by_length (suc (length s)) s (omega arith)

  -- ---- what is written reads back

  pub one_written : (t : ℕ) (b r : Bytes) → length b ≤ 65535 → read_by held (field_bytes t b ++ r) ≡ opened (held t) (read_by held) t b r
  one_written t b r h = step (field_bytes t b ++ r) ∙ ap (built_by held (read_by held) (field_bytes t b ++ r)) (next_written t b r h)

  -- a front of its full length, and the fields behind it
  split_full : (n t : ℕ) (f : Bytes) (i r : Row) → length f ≡ n → read_by held (bytes i) ≡ i → read_by held (bytes r) ≡ r →
      field t (take n (f ++ bytes i)) (read_by held (drop n (f ++ bytes i))) (read_by held (bytes r)) ≡ field t f i r
  split_full n t f i r e ri rr =
      let a : take n (f ++ bytes i) ≡ f = take_at f (bytes i) n e in
      let b : drop n (f ++ bytes i) ≡ bytes i = drop_at f (bytes i) n e in
      ap₂ (λ (x y : Bytes). field t x (read_by held y) (read_by held (bytes r))) a b ∙ ap₂ (λ (x y : Row). field t f x y) ri rr

  -- a front behind which nothing stands
  split_short : (n t : ℕ) (f : Bytes) (r : Row) → length f ≤ n → read_by held [] ≡ end → read_by held (bytes r) ≡ r → field t (take n (f ++ [])) (read_by held (drop n (f ++ []))) (read_by held (bytes r)) ≡ field t f end r
  split_short n t f r l ri rr =
      let a : take n (f ++ []) ≡ f = ap (take n) (append-nil f) ∙ take_all n f l in
      let b : drop n (f ++ []) ≡ [] = ap (drop n) (append-nil f) ∙ drop_of_length-le f l in
      ap₂ (λ (x y : Bytes). field t x (read_by held y) (read_by held (bytes r))) a b ∙ ap₂ (λ (x y : Row). field t f x y) ri rr

  -- the front says by itself how long it is
  split_counted : (n t : ℕ) (f : Bytes) (i r : Row) → length f ≡ counted_front n f → read_by held (bytes i) ≡ i → read_by held (bytes r) ≡ r → opened (counted n) (read_by held) t (f ++ bytes i) (bytes r) ≡ field t f i r
  unfolding opened
  split_counted n t f i r e ri rr =
      let k : counted_front n (f ++ bytes i) ≡ counted_front n f = counted_kept n f (bytes i) (omega arith) in
      split_full (counted_front n (f ++ bytes i)) t f i r (e ∙ sym k) ri rr

  open_back : (c : Inside) (t : ℕ) (f : Bytes) (i r : Row) → FrontFits c f i → read_by held (bytes i) ≡ i → read_by held (bytes r) ≡ r → opened c (read_by held) t (f ++ bytes i) (bytes r) ≡ field t f i r
  unfolding FrontFits bytes opened
  open_back only_bytes t f end r s ri rr = ap₂ (λ (b : Bytes) (x : Row). field t b end x) (append-nil f) rr
  open_back only_bytes t f (loose b) r s ri rr = absurd s
  open_back only_bytes t f (field u g j q) r s ri rr = absurd s
  open_back (fields_after zero) t f i r s ri rr = split_full zero t f i r (eqb→eq (length f) zero s) ri rr
  open_back (fields_after (suc n)) t f end r s ri rr = split_short (suc n) t f r (leb→le (length f) (suc n) s) ri rr
  open_back (fields_after (suc n)) t f (loose b) r s ri rr = split_full (suc n) t f (loose b) r (eqb→eq (length f) (suc n) s) ri rr
  open_back (fields_after (suc n)) t f (field u g j q) r s ri rr = split_full (suc n) t f (field u g j q) r (eqb→eq (length f) (suc n) s) ri rr
  open_back (counted n) t f end r s ri rr =
      let k : counted_front n (f ++ []) ≡ counted_front n f = ap (counted_front n) (append-nil f) in
      split_short (counted_front n (f ++ [])) t f r (subst (λ (x : ℕ). length f ≤ x) (sym k) (leb→le (length f) (counted_front n f) s)) ri rr
  open_back (counted n) t f (loose b) r s ri rr = split_counted n t f (loose b) r (eqb→eq (length f) (counted_front n f) s) ri rr
  open_back (counted n) t f (field u g j q) r s ri rr = split_counted n t f (field u g j q) r (eqb→eq (length f) (counted_front n f) s) ri rr

  pub back : (x : Row) → ShapedBy held x → T (not (long_body x)) → read_by held (bytes x) ≡ x
  unfolding bytes next_of long_body
  back end s l = nil
  back (loose b) s l = step b ∙ ap (built_by held (read_by held) b) s
  back (field t f i r) s l =
      let body : Bytes = f ++ bytes i in
      let p = not_or (ltb 65535 (length body)) (long_body i || long_body r) l in
      let q = not_or (long_body i) (long_body r) p.1 in
      one_written t body (bytes r) (nltb→le 65535 (length body) p.0)
      ∙ open_back (held t) t f i r s.0 (back i s.1 q.0) (back r s.2 q.1)

  -- no two rows are written alike
  pub injective : (x y : Row) → ShapedBy held x → T (not (long_body x)) → ShapedBy held y → T (not (long_body y)) → bytes x ≡ bytes y → x ≡ y
  injective x y s l s' l' e = sym (back x s l) ∙ ap (read_by held) e ∙ back y s' l'

  -- ---- whatever the bytes: their row is shaped, and is written as they are

  front_read : (n : ℕ) (w : Bytes) → FrontFits (fields_after n) (take n w) (read_by held (drop n w))
  front_read n w = on (dec_le n (length w))
    where
      on : Dec (n ≤ length w) → FrontFits (fields_after n) (take n w) (read_by held (drop n w))
      on (yes q) = front_full n (take n w) (read_by held (drop n w)) (length-take-le n w q)
      on (no q) =
          let l : length w ≤ n = omega arith in
          let e : read_by held (drop n w) ≡ end = ap (read_by held) (drop_of_length-le w l) ∙ nil in
          subst (FrontFits (fields_after n) (take n w)) (sym e) (front_short n (take n w) (omega (arith, length-take n w)))

  counted_read : (m : ℕ) (w : Bytes) → FrontFits (counted m) (take (counted_front m w) w) (read_by held (drop (counted_front m w) w))
  unfolding FrontFits
  counted_read m w = on (dec_le (counted_front m w) (length w))
    where
      n : ℕ
      n = counted_front m w

      same_count : counted_front m (take n w) ≡ n
      same_count = counted_taken m n w (omega arith)

      short : length w ≤ n → FrontFits (counted m) (take n w) end
      short l = unfold FrontFits in le→leb (length (take n w)) (counted_front m (take n w)) (subst (λ (x : ℕ). length (take n w) ≤ x) (sym same_count) (omega (arith, length-take n w)))

      on : Dec (n ≤ length w) → FrontFits (counted m) (take n w) (read_by held (drop n w))
      on (yes q) = front_counted m (take n w) (read_by held (drop n w)) (length-take-le n w q ∙ sym same_count)
      on (no q) =
          let l : length w ≤ n = omega arith in
          let e : read_by held (drop n w) ≡ end = ap (read_by held) (drop_of_length-le w l) ∙ nil in
          subst (FrontFits (counted m) (take n w)) (sym e) (short l)

  leaf_fits : (t : ℕ) (w : Bytes) → held t ≡ only_bytes → FrontFits (held t) w end
  unfolding FrontFits
  leaf_fits t w q = subst (λ (c : Inside). FrontFits c w end) (sym q) tt

  nest_fits : (t n : ℕ) (w : Bytes) → Opens (held t) w n → FrontFits (held t) (take n w) (read_by held (drop n w))
  nest_fits t n w = on (held t)
    where
      on : (c : Inside) → Opens c w n → FrontFits c (take n w) (read_by held (drop n w))
      on only_bytes o = absurd o
      on (fields_after m) o = subst (λ (x : ℕ). FrontFits (fields_after m) (take x w) (read_by held (drop x w))) o (front_read m w)
      on (counted m) o = subst (λ (x : ℕ). FrontFits (counted m) (take x w) (read_by held (drop x w))) o (counted_read m w)

  pub shaped : (b : Bytes) → ShapedBy held (read_by held b)
  shaped =
      along (λ s x. ShapedBy held x) (λ s e. tt) (λ s e. e) (λ s t w r e q hr. (leaf_fits t w q, tt, hr)) (λ s t w r n e q hi hr. (nest_fits t n w q, hi, hr))

  pub written : (b : Bytes) → AllBytes b → bytes (read_by held b) ≡ b
  unfolding bytes
  written =
      along (λ s x. AllBytes s → bytes x ≡ s) (λ s e a. sym (next_nothing s e)) (λ s e a. refl)
      (λ s t w r e q hr a.
      let p = all_parts s t w r e a in
      ap₂ (λ (x y : Bytes). field_bytes t x ++ y) (append-nil w) (hr p.behind_all) ∙ p.written)
      (λ s t w r n e q hi hr a.
      let p = all_parts s t w r e a in
      let k : take n w ++ bytes (read_by held (drop n w)) ≡ w = ap (λ (x : Bytes). take n w ++ x) (hi (all_drop n w p.body_all)) ∙ take-append-drop n w in
      ap₂ (λ (x y : Bytes). field_bytes t x ++ y) k (hr p.behind_all) ∙ p.written)

  pub sane : (b : Bytes) → AllBytes b → SaneBy held (read_by held b)
  sane =
      along (λ s x. AllBytes s → SaneBy held x) (λ s e a. tt) (λ s e a. a)
      (λ s t w r e q hr a.
      let p = all_parts s t w r e a in
      (leaf_fits t w q, p.body_all, tt, hr p.behind_all, p.tag_all))
      (λ s t w r n e q hi hr a.
      let p = all_parts s t w r e a in
      (nest_fits t n w q, all_take n w p.body_all, hi (all_drop n w p.body_all), hr p.behind_all, p.tag_all))

  -- a length of two bytes says no more than 65,535
  pub short : (b : Bytes) → AllBytes b → long_body (read_by held b) ≡ false
  unfolding long_body bytes
  short =
      along (λ s x. AllBytes s → long_body x ≡ false) (λ s e a. refl) (λ s e a. refl)
      (λ s t w r e q hr a.
      let p = all_parts s t w r e a in
      rw (append-nil w, le-ltb 65535 (length w) p.body_short) (hr p.behind_all))
      (λ s t w r n e q hi hr a.
      let p = all_parts s t w r e a in
      let k : take n w ++ bytes (read_by held (drop n w)) ≡ w = ap (λ (x : Bytes). take n w ++ x) (written (drop n w) (all_drop n w p.body_all)) ∙ take-append-drop n w in
      rw (k, le-ltb 65535 (length w) p.body_short, hi (all_drop n w p.body_all)) (hr p.behind_all))

  -- what is written of a sane row is bytes
  pub all_bytes : (x : Row) → SaneBy held x → AllBytes (bytes x)
  unfolding bytes AllBytes
  all_bytes end s = tt
  all_bytes (loose b) s = s
  all_bytes (field t f i r) s =
      all_append (field_bytes t (f ++ bytes i)) (bytes r) (all_field_bytes t (f ++ bytes i) s.4 (all_append f (bytes i) s.1 (all_bytes i s.2))) (all_bytes r s.3)
