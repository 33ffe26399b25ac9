-- Templates recorded, called and numbered: what is counted, and its laws for two rows and for two passes in a row.
-- Main statements: `recorded_append`, `called_append`, `span_add`, `one_behind`, `kept_then`.
-- Assumes nothing.
use Prim.Native.Nat.{ℕ, zero, suc, ◌+◌}
use native.Mathlib.Omega.{arith}
use mathlib.Core.Path.{◌≡◌, refl, ap}
use mathlib.Core.Bool.{Bool, true, false, ◌&&◌, ◌||◌, not}
use mathlib.Core.List.{List, [], ◌∷◌, ◌++◌}
use lib.Dec.{T, eqb}
use Rattle.std.proofs.lemmas.Bool.{or_from}
use Rattle.std.proofs.Math.Facts.{or_no}
use Rattle.page.proofs.Booleans.{is_false}
use Rattle.field.specs.Bytes.{Bytes}
use Rattle.field.specs.Number.{big_endian}
use Rattle.field.specs.Row.{Row, end, loose, field}
use Rattle.field.proofs.RowLaws.{Shaped}
use Rattle.spec.specs.declared.Flags.{Flags}
use Rattle.spec.specs.Pass.{Template, Done, pure, join, Mid, none, node, raw, ◌+++◌, ◌⧺◌}
use Rattle.spec.specs.Output.{kinds_of}
use Rattle.spec.specs.Transform.{bit, stands}
use Rattle.spec.specs.Demand.{kinds_in}
use Rattle.spec.proofs.Good.{AllSound, OneField, Kept}

-- ---- tests

pub or_either : {C : Type 0} (a b : Bool) → (T a → C) → (T b → C) → T (a || b) → C
or_either true b f g t = f tt
or_either false b f g t = g t

-- a flag that is down is not up
pub never : (b : Bool) → T (not b) → T b → ⊥
never true l t = l
never false l t = t

-- ---- templates recorded, templates called

-- a test on a number's bytes and on kinds
abbrev pub Test : Type 0
Test = Bytes → List Bool → Bool

unfoldable pub recorded : Test → List Template → ℕ
recorded p [] = 0
recorded p (t ∷ ts) = bit (p (big_endian 4 t.number []) t.kinds) 1 + recorded p ts

unfoldable pub called : Test → Mid → ℕ
called p none = 0
called p (node t f i r) = bit (eqb t 0x90 && p f (kinds_of i)) 1 + (called p i + called p r)
called p (raw t r) = called p r

unfoldable pub called_row : Test → Row → ℕ
called_row p end = 0
called_row p (loose b) = 0
called_row p (field t f i r) = bit (eqb t 0x90 && p f (kinds_in i)) 1 + (called_row p i + called_row p r)

-- how many templates have the number m
unfoldable pub numbered : ℕ → List Template → ℕ
numbered m [] = 0
numbered m (t ∷ ts) = bit (eqb t.number m) 1 + numbered m ts

-- 1 for the k numbers from n on, 0 for the others
unfoldable pub span : (n k m : ℕ) → ℕ
span n zero m = 0
span n (suc k) m = bit (eqb n m) 1 + span (suc n) k m

-- ---- two lists of templates

pub recorded_append : (p : Test) (ts us : List Template) → recorded p (ts ++ us) ≡ recorded p ts + recorded p us
unfolding recorded
recorded_append p [] us = omega arith
recorded_append p (t ∷ ts) us = omega (arith, recorded_append p ts us)

pub numbered_append : (m : ℕ) (ts us : List Template) → numbered m (ts ++ us) ≡ numbered m ts + numbered m us
unfolding numbered
numbered_append m [] us = omega arith
numbered_append m (t ∷ ts) us = omega (arith, numbered_append m ts us)

pub sound_append : (ts us : List Template) → AllSound ts → AllSound us → AllSound (ts ++ us)
unfolding AllSound
sound_append [] us s u = u
sound_append (t ∷ ts) us s u = (s.0, sound_append ts us s.1 u)

-- ---- numbers in a row

pub span_add : (n a b m : ℕ) → span n (a + b) m ≡ span n a m + span (n + a) b m
unfolding span
span_add n zero b m =
    let e : zero + b ≡ b = omega arith in
    let g : n + zero ≡ n = omega arith in
    omega (arith, ap (λ (x : ℕ). span n x m) e, ap (λ (x : ℕ). span x b m) g)
span_add n (suc a) b m =
    let e : suc a + b ≡ suc (a + b) = omega arith in
    let g : n + suc a ≡ suc n + a = omega arith in
    omega (arith, ap (λ (x : ℕ). span n x m) e, ap (λ (x : ℕ). span x b m) g, span_add (suc n) a b m)

-- the first of them, counted last
pub span_first : (n k m : ℕ) → span n (1 + k) m ≡ span (n + 1) k m + bit (eqb n m) 1
unfolding span
span_first n k m =
    let e : 1 + k ≡ suc k = omega arith in
    let g : n + 1 ≡ suc n = omega arith in
    omega (arith, ap (λ (x : ℕ). span n x m) e, ap (λ (x : ℕ). span x k m) g)

-- ---- two rows

pub called_append : (p : Test) (x y : Mid) → called p (x +++ y) ≡ called p x + called p y
unfolding called ◌+++◌
called_append p none y = omega arith
called_append p (node t f i r) y = omega (arith, called_append p r y)
called_append p (raw q r) y = called_append p r y

pub kinds_append : (x y : Mid) → kinds_of (x +++ y) ≡ kinds_of x ++ kinds_of y
unfolding kinds_of ◌+++◌
kinds_append none y = refl
kinds_append (node t f i r) y = ap (λ (k : List Bool). (eqb t 0x91 || eqb t 0x93) ∷ k) (kinds_append r y)
kinds_append (raw q r) y = ap (λ (k : List Bool). false ∷ k) (kinds_append r y)

pub stands_node : (u t : ℕ) (f : Bytes) (x y : Row) → T (not (eqb t u)) → stands u x ≡ false → stands u y ≡ false → stands u (field t f x y) ≡ false
unfolding stands
stands_node u t f x y k p q = or_from (eqb t u) (stands u x || stands u y) (is_false (eqb t u) k) (or_from (stands u x) (stands u y) p q)

-- a row behind one field
pub record Behind (x y : Row) : Type 0 where
  pub called_both : (p : Test) → called_row p (x ⧺ y) ≡ called_row p x + called_row p y
  pub kinds : kinds_in (x ⧺ y) ≡ false ∷ kinds_in y
  pub shaped : Shaped x → Shaped y → Shaped (x ⧺ y)
  pub stands_not : (u : ℕ) → stands u x ≡ false → stands u y ≡ false → stands u (x ⧺ y) ≡ false

or_behind : (a b c : Bool) → a || (b || false) ≡ false → c ≡ false → a || (b || c) ≡ false
or_behind true b c p q = p
or_behind false true c p q = p
or_behind false false c p q = q

pub one_behind : (x y : Row) → OneField x → Behind x y
unfolding OneField ◌⧺◌ called_row kinds_in Shaped stands
one_behind end y o = absurd o
one_behind (loose b) y o = absurd o
one_behind (field t f i end) y o =
    record {
      called_both = λ p. omega arith;
      kinds = ap (λ (k : Bool). k ∷ kinds_in y) o;
      shaped = λ s z. (s.0, s.1, z);
      stands_not = λ u s z. or_behind (eqb t u) (stands u i) (stands u y) s z;
    }
one_behind (field t f i (loose b)) y o = absurd o
one_behind (field t f i (field u g j r)) y o = absurd o

-- ---- passes

-- what two passes in a row leave, with a value made of theirs
abbrev pub then : {A B C : Type 0} → C → Done A → Done B → Done C
then v d e = record { value = v; taken = d.taken + e.taken; templates = d.templates ++ e.templates; flags = join d.flags e.flags }

-- the same with another value, and with flags raised
abbrev pub valued : {A B : Type 0} → B → Done A → Done B
valued v d = record { value = v; taken = d.taken; templates = d.templates; flags = d.flags }

abbrev pub raised : {A : Type 0} → Flags → Done A → Done A
raised f d = record { value = d.value; taken = d.taken; templates = d.templates; flags = join f d.flags }

module _ (Fragments : Type 0) where
  pub kept_pure : {A : Type 0} (v : A) (n : ℕ) → Kept Fragments (pure v n)
  unfolding pure AllSound
  kept_pure v n = record { sound = λ m. tt; fragments = λ t. absurd t }

  pub kept_valued : {A B : Type 0} (v : B) (d : Done A) → Kept Fragments d → Kept Fragments (valued v d)
  kept_valued v d k = record { sound = k.sound; fragments = k.fragments }

  pub kept_raised : {A : Type 0} (f : Flags) (d : Done A) → (T f.left → Fragments) → Kept Fragments d → Kept Fragments (raised f d)
  kept_raised f d r k = record { sound = λ m. k.sound (or_no f.mixed d.flags.mixed m).1; fragments = or_either f.left d.flags.left r k.fragments }

  pub kept_then : {A B C : Type 0} (v : C) (d : Done A) (e : Done B) → Kept Fragments d → Kept Fragments e → Kept Fragments (then v d e)
  kept_then v d e k l =
      record {
        sound = λ m. let u = or_no d.flags.mixed e.flags.mixed m in sound_append d.templates e.templates (k.sound u.0) (l.sound u.1);
        fragments = or_either d.flags.left e.flags.left k.fragments l.fragments;
      }
