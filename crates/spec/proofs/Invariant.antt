-- What a walk over 000's functions asks of an invariant: a predicate for expressions between the passes, for first passes, for parts of a
-- template and for visits, each with the weight of the page's part that it came from, closed under what passes are made of. `EveryPass`
-- walks once for all of them. Main definition: `Invariant`. Assumes nothing.
use Prim.Native.Nat.{ℕ, ◌+◌}
use mathlib.Core.Path.{◌≡◌}
use mathlib.Core.Bool.{Bool, true, false, ◌||◌, not}
use mathlib.Core.List.{List, [], ◌∷◌, ◌++◌}
use lib.Dec.{T, eqb}
use Rattle.field.specs.Bytes.{Bytes, pick}
use Rattle.field.specs.Row.{Row, end, field, inside}
use Rattle.text.specs.Escape.{escape_html}
use Rattle.names.specs.Names.{is_void_element}
use Rattle.spec.specs.declared.Flags.{Flags}
use Rattle.spec.specs.Pass.{Pass, pure, map, both, raise, long_if, Raw, Mid, none, node, raw, ◌+++◌, Part, chars, gap, mark}
use Rattle.spec.specs.Output.{gen_template}
use Rattle.spec.specs.Attributes.{Attribute, tag_flags}
use Rattle.spec.specs.Visit.{visit_after, leave}
use Rattle.spec.specs.Words.{free}
use Rattle.spec.proofs.Good.{FormedBy, OneNode}

-- a weight that is shared between two, with what may be spared
pub record Split (Spare P Q : ℕ → Type 0) (w : ℕ) : Type 0 where
  pub first : ℕ
  pub second : ℕ
  pub spared : ℕ
  pub sum : first + second + spared ≡ w
  pub spare : Spare spared
  pub one : P first
  pub rest : Q second

-- one field or one tag: no source piece, no jsxAttr call and no choice
abbrev pub standing : ℕ → Bool
standing t = not (eqb t 0x20 || (eqb t 0x91 || eqb t 0x93))

unfoldable pub Alone : Mid → Type 0
Alone none = ⊥
Alone (node t f i none) = T (standing t)
Alone (node t f i (node u g j r)) = ⊥
Alone (node t f i (raw q r)) = ⊥
Alone (raw q none) = Unit {0}
Alone (raw q (node t f i r)) = ⊥
Alone (raw q (raw s r)) = ⊥

-- and no tag still to be visited
unfoldable pub AloneField : Mid → Type 0
AloneField none = ⊥
AloneField (node t f i none) = T (standing t)
AloneField (node t f i (node u g j r)) = ⊥
AloneField (node t f i (raw q r)) = ⊥
AloneField (raw q r) = ⊥

-- the bodies of the source pieces of a row
unfoldable pub sources : Mid → List Bytes
sources none = []
sources (node t f i r) = pick (eqb t 0x20) (f ∷ sources r) (sources r)
sources (raw q r) = sources r

-- a field that is no tag and no template call, and does not count by itself
abbrev pub plain : ℕ → Bool
plain t = not ((eqb t 0x30 || eqb t 0x31) || (eqb t 0x90 || (eqb t 0x74 || eqb t 0x79)))

pub record Invariant : Type 1 where
  -- what a 74 weighs by its body, a 79 by its own source pieces, a serialized element by its flags, and a tag; what may be spared
  pub literal : Bytes → ℕ
  pub other : List Bytes → ℕ
  pub own : Flags → ℕ
  pub tag : ℕ
  pub Spare : ℕ → Type 0
  -- a tag may be left, and what names of serialized elements are
  pub Left : Type 0
  pub NameOk : Bytes → Type 0
  -- expressions with so many template calls, a first pass, parts as content and in an opening tag, the visit of a tag; the last number is the weight
  pub MidOk : ℕ → Mid → ℕ → Type 0
  pub PassOk : Pass Mid → ℕ → Type 0
  pub Content : List Part → ℕ → Type 0
  pub Opening : List Part → ℕ → Type 0
  pub VisitOk : Pass Row → ℕ → Type 0
  pub spare_sum : {a b w : ℕ} → a + b ≡ w → Spare a → Spare b → Spare w
  pub spare_none : Spare 0
  pub spare_tag : Spare tag
  pub mid_spare : {m : Mid} {k a b w : ℕ} → a + b ≡ w → Spare a → MidOk k m b → MidOk k m w
  pub pass_spare : {p : Pass Mid} {a b w : ℕ} → a + b ≡ w → Spare a → PassOk p b → PassOk p w
  pub content_spare : {ps : List Part} {a b w : ℕ} → a + b ≡ w → Spare a → Content ps b → Content ps w
  pub visit_spare : {p : Pass Row} {a b w : ℕ} → a + b ≡ w → Spare a → VisitOk p b → VisitOk p w
  -- expressions
  pub mid_none : MidOk 0 none 0
  pub mid_node : (t : ℕ) (f : Bytes) {i r : Mid} {j k l a b w : ℕ} → T (plain t) → FormedBy (inside t) f i → j + k ≡ l → a + b ≡ w → MidOk j i a → MidOk k r b → MidOk l (node t f i r) w
  pub mid_literal : (b : Bytes) {r : Mid} {v w : ℕ} → literal b + v ≡ w → MidOk 0 r v → MidOk 0 (node 0x74 b none r) w
  pub mid_other : (i : Mid) {r : Mid} {a b w : ℕ} → other (sources i) + (a + b) ≡ w → MidOk 0 i a → MidOk 0 r b → MidOk 0 (node 0x79 [] i r) w
  pub mid_raw : {q : Raw} {r : Mid} {a b w : ℕ} → a + b ≡ w → VisitOk q a → MidOk 0 r b → MidOk 0 (raw q r) w
  pub mid_append : {x y : Mid} {j k l a b w : ℕ} → j + k ≡ l → a + b ≡ w → MidOk j x a → MidOk k y b → MidOk l (x +++ y) w
  -- and taken apart again, where a call's children are an array
  pub mid_nothing : {w : ℕ} → MidOk 0 none w → Spare w
  pub mid_inner : {t : ℕ} {f : Bytes} {i : Mid} {w : ℕ} → T (eqb t 0x76 || eqb t 0x77) → MidOk 0 (node t f i none) w → MidOk 0 i w
  pub mid_field : {t : ℕ} {f : Bytes} {i r : Mid} {w : ℕ} → MidOk 0 (node t f i r) w → Split Spare (MidOk 0 (node t f i none)) (MidOk 0 r) w
  pub mid_tag : {q : Raw} {r : Mid} {w : ℕ} → MidOk 0 (raw q r) w → Split Spare (MidOk 0 (raw q none)) (MidOk 0 r) w
  -- first passes
  pub pass_pure : {m : Mid} {w : ℕ} → MidOk 0 m w → PassOk (pure m) w
  pub pass_both : {p q : Pass Mid} {a b w : ℕ} → a + b ≡ w → PassOk p a → PassOk q b → PassOk (both ◌+++◌ p q) w
  pub pass_map : {p : Pass Mid} {v w : ℕ} (f : Mid → Mid) (a : ℕ) → ((m : Mid) (k b c : ℕ) → a + b ≡ c → MidOk k m b → MidOk k (f m) c) → a + v ≡ w → PassOk p v → PassOk (map f p) w
  pub pass_raise : {p : Pass Mid} {w : ℕ} (b : Bool) → PassOk p w → PassOk (raise (long_if b) p) w
  pub pass_template : (ps : List Part) {v w : ℕ} → tag + v ≡ w → Content ps v → PassOk (gen_template ps) w
  -- parts
  pub content_none : Content [] 0
  pub content_text : (t : Bytes) {ps : List Part} {w : ℕ} → T (free t) → Content ps w → Content (chars t ∷ ps) w
  pub content_gap : {p : Pass Mid} {ps : List Part} {a b w : ℕ} → a + b ≡ w → PassOk p a → ((n : ℕ) → AloneField (p n).value) → Content ps b → Content (gap p ∷ ps) w
  pub content_append : {ps qs : List Part} {a b w : ℕ} → a + b ≡ w → Content ps a → Content qs b → Content (ps ++ qs) w
  pub content_void : {ps : List Part} {v w : ℕ} (n : Bytes) (as' : List Attribute) → NameOk n → is_void_element n ≡ true → own (tag_flags n as') + v ≡ w → Opening ps v → Content (mark (tag_flags n as') ∷ chars (60 ∷ escape_html n) ∷ (ps ++ (chars (62 ∷ []) ∷ []))) w
  pub content_element : {ps qs : List Part} {a b w : ℕ} (n : Bytes) (as' : List Attribute) → NameOk n → is_void_element n ≡ false → own (tag_flags n as') + (a + b) ≡ w → Opening ps a → Content qs b →
      Content (mark (tag_flags n as') ∷ chars (60 ∷ escape_html n) ∷ (ps ++ (chars (62 ∷ []) ∷ (qs ++ (chars (60 ∷ 47 ∷ (n ++ (62 ∷ []))) ∷ []))))) w
  pub opening_none : {w : ℕ} → Spare w → Opening [] w
  pub opening_text : (b : Bytes) {w : ℕ} → Spare w → T (free b) → Opening (chars (32 ∷ b) ∷ []) w
  pub opening_gap : {p : Pass Mid} {w : ℕ} → PassOk p w → ((n : ℕ) → OneNode true (p n).value) → Opening (chars (32 ∷ []) ∷ gap p ∷ []) w
  pub opening_append : {ps qs : List Part} {a b c w : ℕ} → a + b + c ≡ w → Spare c → Opening ps a → Opening qs b → Opening (ps ++ qs) w
  -- visits
  pub visit_done : {p : Pass Mid} {w : ℕ} → PassOk p w → ((n : ℕ) → AloneField (p n).value) → VisitOk (visit_after p) w
  pub visit_any : {p : Pass Mid} {w : ℕ} → Left → PassOk p w → ((n : ℕ) → Alone (p n).value) → VisitOk (visit_after p) w
  pub visit_left : Left → VisitOk leave 0
  pub visit_null : VisitOk (pure (field 0x73 [] end end)) 0
