-- A check of a row in the form of the code: a verdict behind a header, a verdict and then another, and the row in front by its tag and its body.
-- Main statements: `on_at`, `refused_at`, `exit_at`, `last_at`, `row_at`, `one_field`, `same_body`, `ended`. Assumes nothing.
use mathlib.Core.Path.{◌≡◌, refl, sym, ap, ◌∙◌, subst}
use mathlib.Core.Bool.{Bool, true, false, ◌&&◌, ◌||◌}
use Prim.Native.Nat.{ℕ, ◌≤◌}
use native.Mathlib.Omega.{arith}
use lib.Dec.{leb, eqb}
use lib.ListN.{take, drop}
use borrow.Author.Tests.{leb-true, eqb-true, eqb-false}
use Rattle.field.specs.Bytes.{Bytes}
use Rattle.field.specs.Row.{Row, end, loose, field, read, Ended, Inside, only_bytes, fields_after, counted, counted_front, inside, opened}
use Rattle.field.specs.Front.{body_of, behind_of}
use Rattle.field.specs.Fields.{IsFront, IsEnd}
use Rattle.field.proofs.FrontLaws.{read_at}
use Rattle.std.specs.Prelude.{IsErr, IsErrAnd}
use Rattle.std.proofs.lemmas.Result.{err_from_is_err_and}
use Rattle.refusal.specs.Refusal.{Verdict, Fine, Refused, after}
use Rattle.page.specs.Check.{check_header, is_name_tag, is_tag, is_expr, is_child}
use Rattle.refusal.specs.declared.Refusal.{Refusal}

-- ---- a verdict in the form of the code

-- y is v and then k
pub record Then (y v k : Verdict) : Type 0 where
  pub then_is : y ≡ after v λ _. k

-- y is v behind a header that may stand
abbrev pub Checked : Verdict → ℕ → Verdict → Type 0
Checked y depth v = Then y (check_header true depth) v

-- x is what a `?` returns for the refusal n
abbrev pub Handed : Verdict → Refusal → Type 0
Handed x n = IsErr x × IsErrAnd x (λ (m : Refusal). m ≡ n)

pub handed : {x : Verdict} {n : Refusal} → Handed x n → x ≡ Refused n
handed h = let p = err_from_is_err_and _ h.1 in p.1 ∙ ap Refused p.2

module _ {y v k : Verdict} (e : Then y v k) {r : Verdict} (h : r ≡ v) where
  pub on_at : r ≡ Fine → y ≡ k
  unfolding after
  on_at f = e.then_is ∙ rw (← h, f)

  pub refused_at : {n : Refusal} → r ≡ Refused n → Refused n ≡ y
  unfolding after
  refused_at f = sym (e.then_is ∙ rw (← h, f))

  pub exit_at : {n : Refusal} → r ≡ Refused n → {x : Verdict} → Handed x n → x ≡ y
  exit_at f g = handed g ∙ refused_at f

  -- what comes behind is what another check found
  pub last_at : r ≡ Fine → {x : Verdict} → x ≡ k → x ≡ y
  last_at f {x} g = g ∙ sym (on_at f)

-- past the first of three
pub next_at : {y a v k : Verdict} → Then y a (after v λ _. k) → {r : Verdict} → r ≡ a → r ≡ Fine → Then y v k
next_at e h f = record { then_is = on_at e h f }

-- ---- the row in front by its tag and its body

-- what the tag leaves in front of a body, and what it reads as fields
abbrev pub front : Inside → Bytes → Bytes
front only_bytes w = w
front (fields_after n) w = take n w
front (counted n) w = take (counted_front n w) w

abbrev pub inner : Inside → Bytes → Row
inner only_bytes w = end
inner (fields_after n) w = read (drop n w)
inner (counted n) w = read (drop (counted_front n w) w)

pub row_at : {s : Bytes} {t : ℕ} {w r : Bytes} → IsFront s t w r → read s ≡ field t (front (inside t) w) (inner (inside t) w) (read r)
unfolding opened
row_at {s} {t} {w} {r} f = read_at s t f.tag_is (λ z. omega (arith, f.tag_below)) ∙ on (inside t)
  where
    on : (c : Inside) → opened c read t (body_of s) (behind_of s) ≡ field t (front c w) (inner c w) (read r)
    on only_bytes = rw (f.body_is, f.behind_is)
    on (fields_after n) = rw (f.body_is, f.behind_is)
    on (counted n) = rw (f.body_is, f.behind_is)

-- no field stands in front, and nothing is taken
pub rests : {s r : Bytes} → IsEnd s r → IsEnd s s
rests e = record { ended = e.ended; no_tag = e.no_tag; stays = refl }

-- two ways to write what a body is checked by, the same where the tag may stand
module _ (ok : Bool) (depth : ℕ) (b b' k : Verdict) (h : ok ≡ true → b ≡ b') where
  pub same_body : after (check_header ok depth) (λ _. after b λ _. k) ≡ after (check_header ok depth) λ _. after b' λ _. k
  unfolding check_header after
  same_body = on ok refl
    where
      on : (o : Bool) → ok ≡ o → after (check_header o depth) (λ _. after b λ _. k) ≡ after (check_header o depth) λ _. after b' λ _. k
      on true q = ap (λ (x : Verdict). after (check_header true depth) λ _. after x λ _. k) (h q)
      on false q = refl

  pub one_field : after (check_header ok depth) (λ _. after b λ _. k) ≡ after (after (check_header ok depth) λ _. b') λ _. k
  unfolding after
  one_field = same_body ∙ on (check_header ok depth)
    where
      on : (a : Verdict) → after a (λ _. after b' λ _. k) ≡ after (after a λ _. b') λ _. k
      on Fine = refl
      on (Refused n) = refl

-- two checks that agree where no field stands
pub ended : (v w : Row → Verdict) → v end ≡ w end → ((b : Bytes) → v (loose b) ≡ w (loose b)) → {s r : Bytes} → IsEnd s r → v (read r) ≡ w (read s)
ended v w e l {s} {r} f = ap (λ (x : Bytes). v (read x)) f.stays ∙ on (read s) f.ended
  where
    on : (x : Row) → Ended x → v x ≡ w x
    on end i = e
    on (loose b) i = l b
    on (field t g j x) i = absurd i

-- ---- which tag it is

pub either : {A : Type 0} (a b : Bool) → (a ≡ true → A) → (b ≡ true → A) → (a || b) ≡ true → A
either true b f g h = f refl
either false b f g h = g h

-- equal or not
pub tested : {A : Type 0} (t k : ℕ) → (t ≡ k → A) → ((t ≡ k → ⊥) → A) → A
tested {A} t k f g = on (eqb t k) refl
  where
    on : (b : Bool) → eqb t k ≡ b → A
    on true q = f (eqb-true t k q)
    on false q = g (eqb-false t k q)

-- the literals from 70 to 76
pub seventies : {A : Type 0} (t : ℕ) → 0x70 ≤ t → t ≤ 0x76 → (t ≡ 0x70 → A) → (t ≡ 0x71 → A) → (t ≡ 0x72 → A) → (t ≡ 0x73 → A) → (t ≡ 0x74 → A) → (t ≡ 0x75 → A) → (t ≡ 0x76 → A) → A
seventies t l u a b c d e f g =
    tested t 0x70 a λ n0. tested t 0x71 b λ n1. tested t 0x72 c λ n2. tested t 0x73 d λ n3. tested t 0x74 e λ n4. tested t 0x75 f λ n5. g (omega arith)

module _ (P : ℕ → Type 0) (t : ℕ) where
  pub at : (k : ℕ) → P k → t ≡ k → P t
  at k p h = subst P (sym h) p

  pub is_one : (k : ℕ) → P k → eqb t k ≡ true → P t
  is_one k p h = at k p (eqb-true t k h)

  pub between : (a b : ℕ) → (leb a t && leb t b) ≡ true → (a ≤ t → t ≤ b → P t) → P t
  between a b h f = on (leb a t) refl h
    where
      on : (x : Bool) → leb a t ≡ x → (x && leb t b) ≡ true → P t
      on true q z = f (leb-true a t q) (leb-true t b z)
      on false q z = absurd (let k : ◌≡◌ {A = ℕ} 0 1 = cc in omega arith)

  pub tag_cases : P 0x30 → P 0x31 → is_tag t ≡ true → P t
  tag_cases a b h = either (eqb t 0x30) (eqb t 0x31) (is_one 0x30 a) (is_one 0x31 b) h

  pub name_tag_cases : P 0x40 → P 0x41 → P 0x42 → is_name_tag t ≡ true → P t
  name_tag_cases a b c h = between 0x40 0x42 h λ l u. tested t 0x40 (at 0x40 a) λ n. tested t 0x41 (at 0x41 b) λ m. at 0x42 c (omega arith)

  pub child_cases : P 0x60 → P 0x52 → P 0x30 → P 0x31 → P 0x61 → is_child t ≡ true → P t
  child_cases a b c d e h = either _ _ (either _ _ (either _ _ (is_one 0x60 a) (is_one 0x52 b)) (tag_cases c d)) (is_one 0x61 e) h

  pub value_cases : P 0x51 → P 0x52 → P 0x30 → P 0x31 → (eqb t 0x51 || eqb t 0x52 || is_tag t) ≡ true → P t
  value_cases a b c d h = either _ _ (either _ _ (is_one 0x51 a) (is_one 0x52 b)) (tag_cases c d) h

  pub piece_cases : P 0x20 → P 0x30 → P 0x31 → (eqb t 0x20 || is_tag t) ≡ true → P t
  piece_cases a c d h = either _ _ (is_one 0x20 a) (tag_cases c d) h

  pub expr_cases : P 0x70 → P 0x71 → P 0x72 → P 0x73 → P 0x74 → P 0x75 → P 0x76 → P 0x79 → P 0x7a → P 0x7b → P 0x30 → P 0x31 → is_expr t ≡ true → P t
  expr_cases a b c d e f g i x y j k h =
      either _ _
      (either _ _
      (λ z. between 0x70 0x76 z λ l u. seventies t l u (at 0x70 a) (at 0x71 b) (at 0x72 c) (at 0x73 d) (at 0x74 e) (at 0x75 f) (at 0x76 g))
      (λ z. between 0x79 0x7b z λ l u. tested t 0x79 (at 0x79 i) λ n. tested t 0x7a (at 0x7a x) λ m. at 0x7b y (omega arith)))
      (tag_cases j k) h

  pub item_cases : P 0x70 → P 0x71 → P 0x72 → P 0x73 → P 0x74 → P 0x75 → P 0x76 → P 0x79 → P 0x7a → P 0x7b → P 0x30 → P 0x31 → P 0x77 → P 0x78 → (is_expr t || eqb t 0x77 || eqb t 0x78) ≡ true → P t
  item_cases a b c d e f g i x y j k m n h = either _ _ (either _ _ (expr_cases a b c d e f g i x y j k) (is_one 0x77 m)) (is_one 0x78 n) h
