-- The texts of the row that bytes read as, by what the readers hand back: its first expression by the tag, and the others one by one.
-- Main statements: `first_at`, `first_other`, `front_first`, `front_second`, `text_second`, `all_on`, `parted_on`, `behind_on`, `inner_less`, `behind_within`.
-- Assumes nothing.
use mathlib.Core.Path.{◌≡◌, refl, sym, ap, ◌∙◌}
use Prim.Native.Nat.{ℕ, ◌≤◌}
use native.Mathlib.Omega.{arith}
use mathlib.Core.List.{[], ◌∷◌, ◌++◌}
use mathlib.Core.Logic.{◌⊎◌, inl, inr, ⊎_elim}
use lib.ListN.{length}
use borrow.Author.Tests.{ne_eqb}
use Rattle.field.specs.Bytes.{Bytes, ascii}
use Rattle.field.specs.Row.{Row, end, loose, field, inside, Next, nothing, no_field, next, next_of, read, Ended}
use Rattle.field.specs.Front.{tag_of_front, body_of, behind_of, behind_by}
use Rattle.field.proofs.RowLaws.{next_sizes}
use Rattle.page.specs.Tree.{choose}
use Rattle.page.specs.Number.{number_in, render}
use Rattle.printing.specs.Card.{quoted, first_front, second_front, text_by, all_text, parted_text, behind_text, first_text, second_text, text_of, field_text}
use Rattle.printing.specs.Front.{front_in, inner_in, front_of, inner_of}
use Rattle.printing.proofs.FrontLaws.{read_by, inner_within, row_here}
use Rattle.field.specs.Fields.{IsFront}

-- ---- the first expression

-- 256 prints nothing, so this holds whatever the bytes
first_by : (s : Bytes) → first_text (read s) ≡ field_text (tag_of_front s) (body_of s)
unfolding first_text text_by choose front_of inner_of
first_by = read_by first_text refl (λ b. refl)

pub first_here : (s : Bytes) {t : ℕ} {w : Bytes} → t ≡ tag_of_front s → w ≡ body_of s → first_text (read s) ≡ field_text t w
first_here s et ew = first_by s ∙ rw (et, ew)

-- the parts as the code hands them on
module _ (t : ℕ) (w : Bytes) {f i : Bytes} (p : f ≡ front_in t w) (q : i ≡ inner_in t w) where
  -- g is a numeral, at which the right side computes
  pub first_at : (g : ℕ) → t ≡ g → field_text t w ≡ text_of g f (read i)
  first_at g k =
      ap (λ (x : ℕ). text_of x (front_in t w) (read (inner_in t w))) k
      ∙ ap (λ (x : Bytes). text_of g x (read (inner_in t w))) (sym p)
      ∙ ap (λ (x : Bytes). text_of g f (read x)) (sym q)

  pub first_bytes : (t ≡ 0x20) ⊎ ((t ≡ 0x40) ⊎ (t ≡ 0x74)) → field_text t w ≡ f
  unfolding text_by choose
  first_bytes = ⊎_elim (first_at 0x20) (⊎_elim (first_at 0x40) (first_at 0x74))

  pub first_quoted : (t ≡ 0x70) ⊎ (t ≡ 0x81) → field_text t w ≡ quoted f
  unfolding text_by choose
  first_quoted = ⊎_elim (first_at 0x70) (first_at 0x81)

  pub first_number : (t ≡ 0x71) ⊎ (t ≡ 0x7a) → field_text t w ≡ render (number_in t f)
  unfolding text_by choose
  first_number = ⊎_elim (λ z. first_at 0x71 z ∙ ap (λ (x : ℕ). render (number_in x f)) (sym z)) (λ z. first_at 0x7a z ∙ ap (λ (x : ℕ). render (number_in x f)) (sym z))

  pub first_minus : (t ≡ 0x75) ⊎ (t ≡ 0x7b) → field_text t w ≡ 45 ∷ render (number_in t f)
  unfolding text_by choose
  first_minus = ⊎_elim (λ z. first_at 0x75 z ∙ ap (λ (x : ℕ). 45 ∷ render (number_in x f)) (sym z)) (λ z. first_at 0x7b z ∙ ap (λ (x : ℕ). 45 ∷ render (number_in x f)) (sym z))

  pub first_spread : (t ≡ 0x53) ⊎ (t ≡ 0x77) → field_text t w ≡ ascii "..." ++ first_text (read i)
  unfolding text_by choose
  first_spread = ⊎_elim (first_at 0x53) (first_at 0x77)

  pub inner_less : length i ≤ length w
  inner_less = omega (arith, ap length q, inner_within (inside t) w)

-- any other tag: nothing
module _ (t : ℕ) (w : Bytes) where
  pub first_other : ((t ≡ 0x20) ⊎ ((t ≡ 0x40) ⊎ (t ≡ 0x74)) → ⊥) → (t ≡ 0x41 → ⊥) → ((t ≡ 0x70) ⊎ (t ≡ 0x81) → ⊥) → ((t ≡ 0x71) ⊎ (t ≡ 0x7a) → ⊥) → (t ≡ 0x72 → ⊥) → (t ≡ 0x73 → ⊥) → ((t ≡ 0x75) ⊎ (t ≡ 0x7b) → ⊥) → (t ≡ 0x76 → ⊥) → ((t ≡ 0x53) ⊎ (t ≡ 0x77) → ⊥) → (t ≡ 0x79 → ⊥) → (t ≡ 0x90 → ⊥) → (t ≡ 0x91 → ⊥) → (t ≡ 0x92 → ⊥) → (t ≡ 0x93 → ⊥) → (t ≡ 0x94 → ⊥) → (t ≡ 0x95 → ⊥) → (t ≡ 0x96 → ⊥) → field_text t w ≡ []
  unfolding text_by choose
  first_other n20 n41 n70 n71 n72 n73 n75 n76 n53 n79 n90 n91 n92 n93 n94 n95 n96 = rw (ne_eqb t 0x20 (λ z. n20 (inl z)), ne_eqb t 0x40 (λ z. n20 (inr (inl z))), ne_eqb t 0x74 (λ z. n20 (inr (inr z))), ne_eqb t 0x41 n41, ne_eqb t 0x70 (λ z. n70 (inl z)), ne_eqb t 0x81 (λ z. n70 (inr z)), ne_eqb t 0x71 (λ z. n71 (inl z)), ne_eqb t 0x7a (λ z. n71 (inr z)), ne_eqb t 0x72 n72, ne_eqb t 0x73 n73, ne_eqb t 0x75 (λ z. n75 (inl z)), ne_eqb t 0x7b (λ z. n75 (inr z)), ne_eqb t 0x76 n76, ne_eqb t 0x53 (λ z. n53 (inl z)), ne_eqb t 0x77 (λ z. n53 (inr z)), ne_eqb t 0x79 n79, ne_eqb t 0x90 n90, ne_eqb t 0x91 n91, ne_eqb t 0x92 n92, ne_eqb t 0x93 n93, ne_eqb t 0x94 n94, ne_eqb t 0x95 n95, ne_eqb t 0x96 n96) refl

-- ---- the front of the first field and of the second

pub front_first : (s : Bytes) → first_front (read s) ≡ front_of s
front_first = read_by first_front refl (λ b. refl)

pub front_second : (s : Bytes) → second_front (read s) ≡ front_of (behind_of s)
front_second s = read_by second_front refl (λ b. refl) s ∙ front_first (behind_of s)

pub text_second : (s : Bytes) → second_text (read s) ≡ first_text (read (behind_of s))
unfolding first_text second_text
text_second = read_by second_text refl (λ b. refl)

-- ---- the expressions one by one

module _ {s : Bytes} {t : ℕ} {w r : Bytes} (f : IsFront s t w r) where
  row_is : read s ≡ field t (front_in t w) (read (inner_in t w)) (read r)
  row_is = row_here s f.tag_is f.body_is (λ z. omega (arith, f.tag_below, z)) f.behind_is

  pub all_on : all_text (read s) ≡ field_text t w ++ all_text (read r)
  unfolding all_text
  all_on = ap all_text row_is

  pub parted_on : parted_text (read s) ≡ field_text t w ++ behind_text (read r)
  unfolding parted_text
  parted_on = ap parted_text row_is

  pub behind_on : behind_text (read s) ≡ ascii ", " ++ (field_text t w ++ behind_text (read r))
  unfolding behind_text
  behind_on = ap behind_text row_is

pub first_ended : (x : Row) → Ended x → first_text x ≡ []
unfolding first_text
first_ended end i = refl
first_ended (loose b) i = refl
first_ended (field t f j r) i = absurd i

pub all_ended : (x : Row) → Ended x → all_text x ≡ []
unfolding all_text
all_ended end i = refl
all_ended (loose b) i = refl
all_ended (field t f j r) i = absurd i

pub parted_ended : (x : Row) → Ended x → parted_text x ≡ []
unfolding parted_text
parted_ended end i = refl
parted_ended (loose b) i = refl
parted_ended (field t f j r) i = absurd i

pub behind_ended : (x : Row) → Ended x → behind_text x ≡ []
unfolding behind_text
behind_ended end i = refl
behind_ended (loose b) i = refl
behind_ended (field t f j r) i = absurd i

-- ---- what lies behind is no longer

within_next : (s : Bytes) (n : Next) → next_of s ≡ n → length (behind_by n) ≤ length s
within_next s nothing q = omega arith
within_next s no_field q = omega arith
within_next s (next t w r) q = omega (arith, next_sizes s t w r q)

pub behind_within : (s : Bytes) → {b : Bytes} → b ≡ behind_of s → length b ≤ length s
unfolding behind_of
behind_within s {b} q = omega (arith, ap length q, within_next s (next_of s) refl)
