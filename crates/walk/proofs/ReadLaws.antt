-- The key: the last attribute that reads `key` and has a value. Main statements: `key_here`, `other_passed`, `key_answer`. Assumes nothing.
use Rattle.std.specs.Option.{option_or}
use Rattle.std.proofs.Common.{Option, Some, None}
use mathlib.Core.Path.{◌≡◌, refl, sym, ap, ◌∙◌}
use Prim.Native.Nat.{ℕ, ◌≤◌}
use native.Mathlib.Omega.{arith}
use mathlib.Core.Bool.{Bool, true, false}
use lib.ListN.{length}
use Rattle.field.specs.Bytes.{Bytes, ascii, pick, same}
use Rattle.field.specs.Row.{read}
use Rattle.field.specs.Front.{tag_of_front, body_of, behind_of}
use Rattle.field.proofs.FrontLaws.{sizes}
use Rattle.names.specs.Names.{get_attr_name}
use Rattle.page.specs.Page as P
use Rattle.page.specs.Page.{Options}
use Rattle.page.specs.Tree.{Contained, nothing_contained, contained, contained_value, contained_in, element_in, fragment_in, attributes_in, attr_name_in, value_in, value_behind}
use Rattle.page.proofs.CheckLaws.{behind_short}
use Rattle.spec.specs.Pass.{Mid, none}
use Rattle.spec.specs.Attributes.{key_from, key_of}
use Rattle.spec.specs.Transform.{value, attributes}
use Rattle.decisions.specs.At.{opts, attributes_at, Holds, written, IsAttribute, NoAttribute}
use Rattle.decisions.specs.Becomes.{contained_mid}
use Rattle.decisions.proofs.Series.{tested, value_in_at, value_51, value_52, value_30, value_31, value_other}
use Rattle.decisions.specs.declared.attribute.Value.{Value}
use Rattle.decisions.specs.declared.attribute.Value.TheVariants as V
use Rattle.walk.specs.Plan.{key_given, key_braces}

module _ (o : Options) where
  contained_key : (x : Contained) (k : Mid) → key_from (value o (contained_value x)) k ≡ contained_mid o x
  unfolding key_from value contained_value contained_mid
  contained_key nothing_contained k = refl
  contained_key (contained e) k = refl

-- a value decides it, where one stands
key_step : (o : Options) (a : Bytes) (h : Option Value) → Holds a h → (key : Option Value) → key_from (value o (value_in (read a))) (key_given o key) ≡ key_given o (option_or h key)
unfolding key_from value
key_step o a None e key = ap (λ (v : P.Value). key_from (value o v) (key_given o key)) e
key_step o a (Some (V.String b)) e key = ap (λ (v : P.Value). key_from (value o v) (key_given o key)) e
key_step o a (Some (V.Container c)) e key =
    ap (λ (v : P.Value). key_from (value o v) (key_given o key)) e.0 ∙ contained_key o (contained_in (read c.now)) (key_given o key)
key_step o a (Some (V.Tag t)) e key = ap (λ (v : P.Value). key_from (value o v) (key_given o key)) e.0.value_is

-- only a 51 behind the name is a string, and it lies in the attribute
string_behind : (s b : Bytes) → value_behind (read s) ≡ P.string_value b → length b ≤ length s
unfolding contained_value
string_behind s b e =
    tested (tag_of_front s) 0x51 (λ k. let q : P.string_value (body_of s) ≡ P.string_value b = sym (value_51 s _ refl k) ∙ e in let j : body_of s ≡ b = cc in omega (arith, sizes s _ refl (λ z. omega (arith, k, z)), ap length j)) λ n1.
    tested (tag_of_front s) 0x52 (λ k. absurd (held (contained_in (read (body_of s))) (sym (value_52 s _ refl k) ∙ e))) λ n2.
    tested (tag_of_front s) 0x30 (λ k. let q : P.tag_value (element_in (read (body_of s))) ≡ P.string_value b = sym (value_30 s _ refl k) ∙ e in let x : ◌≡◌ {A = ℕ} 0 1 = cc in omega arith) λ n3.
    tested (tag_of_front s) 0x31 (λ k. let q : P.tag_value (fragment_in (read (body_of s))) ≡ P.string_value b = sym (value_31 s _ refl k) ∙ e in let x : ◌≡◌ {A = ℕ} 0 1 = cc in omega arith) λ n4.
    let q : P.absent ≡ P.string_value b = sym (value_other s _ refl n1 n2 n3 n4) ∙ e in let x : ◌≡◌ {A = ℕ} 0 1 = cc in omega arith
  where
    held : (x : Contained) → contained_value x ≡ P.string_value b → ⊥
    held nothing_contained q = let x : ◌≡◌ {A = ℕ} 0 1 = cc in omega arith
    held (contained e) q = let x : ◌≡◌ {A = ℕ} 0 1 = cc in omega arith

string_room : (a b : Bytes) → value_in (read a) ≡ P.string_value b → length b ≤ length a
string_room a b e = omega (arith, string_behind (behind_of a) b (sym (value_in_at a) ∙ e), behind_short a)

key_room : (a : Bytes) (h : Option Value) → Holds a h → {n : ℕ} → length a ≤ n → (key : Option Value) → length (key_braces key) ≤ n → length (key_braces (option_or h key)) ≤ n
key_room a None e l key q = q
key_room a (Some (V.String b)) e l key q = omega (arith, string_room a b.now e)
key_room a (Some (V.Container c)) e l key q = omega (arith, e.1)
key_room a (Some (V.Tag t)) e l key q = omega (arith, e.1)

-- the key after the attributes in s, from k on
module _ (skip props : Bytes) (norm : Bool) where
  abbrev pub key_in : Bytes → Mid → Mid
  key_in s k = key_of norm (attributes_at skip props (read s)) k

  key_written : (as' : P.Attributes) (k : Mid) → key_of norm (attributes (opts skip props) (written as')) k ≡ key_of norm (attributes (opts skip props) as') k
  unfolding key_of attributes written
  key_written P.no_attributes k = refl
  key_written (P.attribute n v as') k = key_written as' (pick (same (get_attr_name n norm) (ascii "key")) (key_from (value (opts skip props) v) k) k)
  key_written (P.spread_attribute e as') k = key_written as' k

  -- behind an attribute
  key_behind : {s a r : Bytes} → IsAttribute s a r → (k : Mid) →
      key_in r (pick (same (get_attr_name (attr_name_in (read a)) norm) (ascii "key")) (key_from (value (opts skip props) (value_in (read a))) k) k) ≡ key_in s k
  unfolding key_of attributes
  key_behind {s} {a} {r} f k =
      sym (
      sym (key_written (attributes_in (read s)) k) ∙ ap (λ (x : P.Attributes). key_of norm (attributes (opts skip props) x) k) f.written_is
      ∙ key_written (attributes_in (read r)) (pick (same (get_attr_name (attr_name_in (read a)) norm) (ascii "key")) (key_from (value (opts skip props) (value_in (read a))) k) k))

  key_ended : {s r : Bytes} → NoAttribute s r → (k : Mid) → key_in s k ≡ k
  unfolding key_of attributes
  key_ended {s} f k = sym (key_written (attributes_in (read s)) k) ∙ ap (λ (x : P.Attributes). key_of norm (attributes (opts skip props) x) k) f.none_written

-- t is left of s, and the last key before it was found
pub record Keying (norm : Bool) (s t : Bytes) (key : Option Value) : Type 0 where
  pub same_key : (skip props : Bytes) → key_in skip props norm t (key_given (opts skip props) key) ≡ key_in skip props norm s none
  pub left : length t ≤ length s
  pub inside : length (key_braces key) ≤ length s

module _ (norm : Bool) (s t : Bytes) (key : Option Value) (i : Keying norm s t key) where
  module _ (a : Bytes) {r : Bytes} (f : IsAttribute t a r) {y : Bool} (e : y ≡ same (get_attr_name (attr_name_in (read a)) norm) (ascii "key")) where
    on_key : (skip props : Bytes) (x : Bool) → y ≡ x →
        key_in skip props norm r (pick x (key_from (value (opts skip props) (value_in (read a))) (key_given (opts skip props) key)) (key_given (opts skip props) key))
        ≡ key_in skip props norm s none
    on_key skip props x z =
        ap
        (λ (b : Bool). key_in skip props norm r (pick b (key_from (value (opts skip props) (value_in (read a))) (key_given (opts skip props) key)) (key_given (opts skip props) key)))
        (sym z ∙ e)
        ∙ key_behind skip props norm f (key_given (opts skip props) key) ∙ i.same_key skip props

    pub other_passed : y ≡ false → Keying norm s r key
    other_passed z = record { same_key = λ skip props. on_key skip props false z; left = omega (arith, i.left, f.sizes); inside = i.inside }

    pub key_here : y ≡ true → (h : Option Value) → Holds a h → Keying norm s r (option_or h key)
    key_here z h k = record {
      same_key = λ skip props. ap (key_in skip props norm r) (sym (key_step (opts skip props) a h k key)) ∙ on_key skip props true z;
      left = omega (arith, i.left, f.sizes);
      inside = key_room a h k (omega (arith, i.left, f.sizes)) key i.inside;
    }

  -- no attribute is left
  pub key_answer : {r : Bytes} → NoAttribute t r → ((skip props : Bytes) → key_in skip props norm s none ≡ key_given (opts skip props) key) × (length (key_braces key) ≤ length s)
  key_answer n = (λ skip props. sym (i.same_key skip props) ∙ key_ended skip props norm n (key_given (opts skip props) key), i.inside)
