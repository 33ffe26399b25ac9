-- Templates counted on the rows of both outputs, and numbers that four bytes hold. Main statements: `span_up_to`, `begins_four`,
-- `recorded_row`, `recorded_numbered`, `called_begins`. Assumes nothing.
use Prim.Native.Nat.{ℕ, zero, suc, ◌+◌, ◌≤◌, ◌<◌}
use mathlib.Core.Path.{◌≡◌, refl, ap, ap₂, ◌∙◌}
use mathlib.Core.Bool.{Bool, true, false, ◌&&◌}
use mathlib.Core.List.{List, [], ◌∷◌}
use native.Mathlib.Omega.{arith}
use native.Mathlib.Decide.{dec_le}
use lib.Dec.{T, eqb, eqb→eq, eqb_refl}
use Rattle.field.specs.Number.{big_endian}
use Rattle.field.specs.Row.{Row, end, loose, field}
use Rattle.field.proofs.NumberLaws.{four_read}
use borrow.Author.Tests.{ne_eqb}
use Rattle.spec.specs.Pass.{Template}
use Rattle.spec.specs.Output.{template_row, record_row}
use Rattle.spec.specs.Words.{places}
use Rattle.spec.specs.Transform.{bit, templates_row}
use Rattle.spec.specs.Demand.{begins, recorded_in, called_in, up_to}
use Rattle.spec.proofs.Ledger.{Test, recorded, called_row, numbered, span}
use Rattle.spec.proofs.Records.{front_number}

-- ---- a test counted as 1 or 0

pub bit_true : (b : Bool) → T b → bit b 1 ≡ 1
bit_true true t = refl
bit_true false t = absurd t

pub bit_low : (b : Bool) → bit b 1 ≤ 1
bit_low true = omega arith
bit_low false = omega arith

pub bit_and : (a b : Bool) → bit (a && b) 1 ≤ bit a 1
bit_and true b = bit_low b
bit_and false b = omega arith

pub bit_no : (b : Bool) → bit b 1 ≡ 0 → T b → ⊥
bit_no true e t = omega arith
bit_no false e t = t

pub bit_not : (a b : ℕ) → (a ≡ b → ⊥) → bit (eqb a b) 1 ≡ 0
bit_not a b f = ap (λ (x : Bool). bit x 1) (ne_eqb a b f)

-- ---- the numbers that are taken, each once

span_below : (n k m : ℕ) → m < n → span n k m ≡ 0
unfolding span
span_below n zero m h = refl
span_below n (suc k) m h = omega (arith, bit_not n m (λ e. omega arith), span_below (suc n) k m (omega arith))

pub span_above : (n k m : ℕ) → n + k ≤ m → span n k m ≡ 0
unfolding span
span_above n zero m h = refl
span_above n (suc k) m h = omega (arith, bit_not n m (λ e. omega arith), span_above (suc n) k m (omega arith))

pub span_once : (n k m : ℕ) → span n k m ≤ 1
unfolding span
span_once n zero m = omega arith
span_once n (suc k) m = on (dec_le (suc n) m) (span_once (suc n) k m)
  where
    on : Dec (suc n ≤ m) → span (suc n) k m ≤ 1 → bit (eqb n m) 1 + span (suc n) k m ≤ 1
    on (yes q) h = omega (arith, bit_not n m (λ e. omega arith))
    on (no q) h = omega (arith, bit_low (eqb n m), span_below (suc n) k m (omega arith))

span_last : (n k m : ℕ) → span n (suc k) m ≡ bit (eqb (n + k) m) 1 + span n k m
unfolding span
span_last n zero m =
    let e : n ≡ n + 0 = omega arith in
    ap (λ (x : ℕ). bit (eqb x m) 1 + 0) e
span_last n (suc k) m =
    let e : suc n + k ≡ n + suc k = omega arith in
    let h : span (suc n) (suc k) m ≡ bit (eqb (n + suc k) m) 1 + span (suc n) k m = span_last (suc n) k m ∙ ap (λ (x : ℕ). bit (eqb x m) 1 + span (suc n) k m) e in
    omega (arith, h)

-- the k numbers from 1 on
pub span_up_to : (k m : ℕ) → span 1 k m ≡ up_to m k
unfolding span up_to
span_up_to zero m = refl
span_up_to (suc k) m =
    let e : 1 + k ≡ suc k = omega arith in
    span_last 1 k m ∙ ap₂ (λ (x y : ℕ). bit (eqb x m) 1 + y) e (span_up_to k m)

-- ---- four bytes

pub begins_four : (m n : ℕ) → n ≤ 65535 → begins m (big_endian 4 n []) ≡ eqb n m
unfolding begins big_endian
begins_four m n h = ap (λ (x : ℕ). eqb x m) (four_read n (omega arith))

-- no number over F
unfoldable pub AllWithin : ℕ → List Template → Type 0
AllWithin F [] = Unit {0}
AllWithin F (t ∷ ts) = (t.number ≤ F) × AllWithin F ts

pub all_within : (F : ℕ) (ts : List Template) → ((m : ℕ) → F < m → numbered m ts ≡ 0) → AllWithin F ts
unfolding AllWithin numbered
all_within F [] h = tt
all_within F (t ∷ ts) h = (on (dec_le t.number F), all_within F ts (λ m l. omega (arith, h m l)))
  where
    on : Dec (t.number ≤ F) → t.number ≤ F
    on (yes q) = q
    on (no q) = absurd (omega (arith, h t.number (omega arith), bit_true (eqb t.number t.number) (eqb_refl t.number)))

-- ---- on rows

-- the test for the number m
abbrev pub has_number : ℕ → Test
has_number m f ks = begins m f

pub recorded_row : (m : ℕ) (ts : List Template) → recorded_in m (templates_row ts) ≡ recorded (has_number m) ts
unfolding recorded_in templates_row template_row record_row recorded
recorded_row m [] = refl
recorded_row m (t ∷ ts) = ap₂ (λ (b : Bool) (x : ℕ). bit b 1 + x) (front_number t.number (places t.strings) m) (recorded_row m ts)

pub recorded_numbered : (m F : ℕ) (ts : List Template) → F ≤ 65535 → AllWithin F ts → recorded (has_number m) ts ≡ numbered m ts
unfolding AllWithin recorded numbered
recorded_numbered m F [] l h = refl
recorded_numbered m F (t ∷ ts) l h =
    let a = h.0 in
    ap₂ (λ (b : Bool) (x : ℕ). bit b 1 + x) (begins_four m t.number (omega arith)) (recorded_numbered m F ts l h.1)

pub called_begins : (m : ℕ) (r : Row) → called_in m r ≡ called_row (has_number m) r
unfolding called_in called_row
called_begins m end = refl
called_begins m (loose b) = refl
called_begins m (field t f i r) = ap₂ (λ (x y : ℕ). bit (eqb t 0x90 && begins m f) 1 + (x + y)) (called_begins m i) (called_begins m r)
