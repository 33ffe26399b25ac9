-- What is read is in the grammar: a step back over a byte keeps what a state means. Assumes nothing.
use Prim.Native.Nat.{ℕ, zero, suc}
use mathlib.Core.Path.{◌≡◌, refl, sym, ◌∙◌, ap, subst}
use mathlib.Core.Bool.{Bool, true, false, not}
use mathlib.Core.List.{[], ◌∷◌, ◌++◌, append-nil, append_assoc}
use mathlib.Core.Logic.{◌⊎◌, inl, inr}
use native.Mathlib.Omega.{arith}
use lib.Dec.{T, eqb}
use Rattle.std.specs.Prelude.{Option, None, Some}
use Rattle.field.specs.Bytes.{Bytes}
use Rattle.grammar.specs.Signs.{snoc, letter, name_byte, separator, space, name_goes_on, equals_sign, text_byte, string_byte, entity_byte, quote, quoted_byte, source_byte, source_start}
use Rattle.grammar.specs.Known.{Known, known_of, entity_of}
use Rattle.grammar.specs.Syntax.{part, Name, tag_name_fits, attribute_name_fits, Tag, tag, Attributes, no_attributes, Attribute, no_value, string_value, Children, no_children, Child, text_child, Expr, tag_expr, known_expr, join_attributes, join_children, add_attribute, add_child}
use Rattle.grammar.specs.Grammar.{Ends, Run, run_ends, run_on, decoded_ends, decoded_on, entity, Spaces, no_space, space_on, IsIdent, ident, IsParts, no_parts, one_part, IsName, is_name, IsSource, source_ends, source_on, quotes, braces, Closing, closing_name, closing_fragment, IsTag, is_alone, is_around, is_fragment, are_no_attributes, are_attributes, IsAttribute, is_no_value, is_string_value, is_container_value, is_tag_value, is_spread_attribute, are_no_children, are_children, IsChild, is_text_child, is_tag_child, is_empty_child, is_container_child, is_spread_child, IsExpr, is_tag_expr, is_known_expr}
use Rattle.grammar.specs.Reader.{Braces, child_braces, spread_child_braces, value_braces, spread_braces, within, value_of, in_braces, Stack, For, for_tag, for_attribute, for_closing, Of, of_text, of_string, State, start, opened, in_ident, behind_ident, behind_sep, in_tag, slashed, attribute_named, equals, in_string, in_entity, spread_opened, one_point, two_points, braces_opened, in_source, in_quotes, behind_tag, in_children, in_text, closing, close_named, done, refused, closed, filled, filled_if, emptied, pointed, close_of, brace_ends, resumed, resumed_if, fits, step_tag, step_attribute_named, step_close_named, step_of_named, step_behind, step_source, step_children, step, read, no_reading, at_end, outcome}
use Rattle.grammar.proofs.Tests.{at_eq, chosen, clash, nor, end_quote, end_string, join_attributes_none, join_attributes_one, join_children_none, join_children_one}
use Rattle.grammar.proofs.Meaning.{AfterChildren, after_children, InTag, tag_alone, tag_around, SpacedTag, spaced, Filled, Emptied, Pointed, ClosedBy, by_name, by_nothing, CloseNamed, close_spaced, Opened, opens_named, opens_fragment, opens_closing, BehindIdent, behind, InIdent, ident_goes, BehindSep, sep_goes, InString, string_on, InEntity, entity_goes, Equals, equals_string, equals_container, equals_tag, AttributeNamed, named_no_value, named_value, BracesOpened, braces_expr, braces_empty, braces_points, TwoPoints, OnePoint, SpreadOpened, spread_goes, SourceUp, InSource, in_the_source, InQuotes, in_the_quotes, BehindTag, braces_ends, InText, text_on, Slashed, slash_spaced, TagThen, tag_then, Rest, CloseOf, Named, Resumed, Means}

-- ---- one production more in front
module _ (P : Tag → Bytes → Type 0) where
  one_child : {n : Name} {ps : Attributes} {ks : Children} {k : Child} {s r : Bytes} → IsChild s k r → AfterChildren P n ps (add_child ks k) r → AfterChildren P n ps ks s
  one_child {n} {ps} {ks} {k} i (after_children {qs} {r = r} {m} is c p) =
      after_children (are_children i is) c (subst (λ (z : Children). P (tag n ps z m) r) (join_children_one ks k qs) p)

  no_child : {n m : Name} {ps : Attributes} {ks : Children} {s r : Bytes} → Closing s m r → P (tag n ps ks m) r → AfterChildren P n ps ks s
  no_child {n} {m} {ps} {ks} {r = r} c p = after_children are_no_children c (subst (λ (z : Children). P (tag n ps z m) r) (sym (join_children_none ks)) p)

  one_attribute : {n : Name} {ps : Attributes} {a : Attribute} {s r : Bytes} → IsAttribute s a r → InTag P n (add_attribute ps a) r → InTag P n ps s
  one_attribute {n} {ps} {a} i (tag_alone {qs} {r = r} is e p) = tag_alone (are_attributes i is) e (subst (λ (z : Attributes). P (tag n z no_children n) r) (join_attributes_one ps a qs) p)
  one_attribute {n} {ps} {a} i (tag_around {qs} {s₁} is p) = tag_around (are_attributes i is) (subst (λ (z : Attributes). AfterChildren P n z no_children s₁) (join_attributes_one ps a qs) p)

  no_attribute_alone : {n : Name} {ps : Attributes} {s : Bytes} → Slashed P (tag n ps no_children n) s → InTag P n ps (47 ∷ s)
  no_attribute_alone {n} {ps} (slash_spaced {r} e p) = tag_alone are_no_attributes e (subst (λ (z : Attributes). P (tag n z no_children n) r) (sym (join_attributes_none ps)) p)

  no_attribute_around : {n : Name} {ps : Attributes} {s : Bytes} → AfterChildren P n ps no_children s → InTag P n ps (62 ∷ s)
  no_attribute_around {n} {ps} {s} p = tag_around are_no_attributes (subst (λ (z : Attributes). AfterChildren P n z no_children s) (sym (join_attributes_none ps)) p)

  attribute_value : {a n : Name} {ps : Attributes} {s s₁ : Bytes} → IsName s a (61 ∷ s₁) → T (attribute_name_fits a) → Equals P a n ps s₁ → InTag P n ps s
  attribute_value nm f (equals_string q u (string_on k (spaced e t))) = one_attribute (is_string_value nm f q u k e) t
  attribute_value nm f (equals_container q b (spaced e t)) = one_attribute (is_container_value nm f q b e) t
  attribute_value nm f (equals_tag q x (spaced e t)) = one_attribute (is_tag_value nm f q x e) t

  attribute_from : {a n : Name} {ps : Attributes} {s s₁ : Bytes} → IsName s a s₁ → T (attribute_name_fits a) → AttributeNamed P a n ps s₁ → InTag P n ps s
  attribute_from nm f (named_no_value e (spaced p t)) = one_attribute (is_no_value nm f e p) t
  attribute_from nm f (named_value q) = attribute_value nm f q

  spread_from : {n : Name} {ps : Attributes} {s : Bytes} → SpreadOpened P n ps s → InTag P n ps (123 ∷ s)
  spread_from (spread_goes p i (spaced e t)) = one_attribute (is_spread_attribute p i e) t

  tag_from : {s s₁ s₂ s₃ : Bytes} {n : Name} → Spaces s s₁ → IsName s₁ n s₂ → T (tag_name_fits n) → Spaces s₂ s₃ → InTag P n no_attributes s₃ → TagThen P (60 ∷ s)
  unfolding join_attributes join_children
  tag_from p nm f q (tag_alone is e k) = tag_then (is_alone p nm f q is e) k
  tag_from p nm f q (tag_around is (after_children ks c k)) = tag_then (is_around p nm f q is ks c) k

  fragment_from : {s s₁ : Bytes} → Spaces s (62 ∷ s₁) → AfterChildren P [] no_attributes no_children s₁ → TagThen P (60 ∷ s)
  unfolding join_children
  fragment_from p (after_children ks c k) = tag_then (is_fragment p ks c) k

  closing_from : {n : Name} {ps : Attributes} {ks : Children} {s s₁ : Bytes} → Spaces s (47 ∷ s₁) → ClosedBy P n ps ks s₁ → AfterChildren P n ps ks (60 ∷ s)
  closing_from p (by_name q nm f (close_spaced e k)) = no_child (closing_name p q nm f e) k
  closing_from p (by_nothing q k) = no_child (closing_fragment p q) k

  -- ---- white space in front
  space_opened : (C : Bytes → Type 0) (c : ℕ) {s : Bytes} → T (space c) → Opened P C s → Opened P C (c ∷ s)
  space_opened C c u (opens_named p nm f t) = opens_named (space_on u p) nm f t
  space_opened C c u (opens_fragment p t) = opens_fragment (space_on u p) t
  space_opened C c u (opens_closing p t) = opens_closing (space_on u p) t

  space_tag : (c : ℕ) {n : Name} {ps : Attributes} {s : Bytes} → T (space c) → SpacedTag P n ps s → SpacedTag P n ps (c ∷ s)
  space_tag c u (spaced p t) = spaced (space_on u p) t

  space_slashed : (c : ℕ) {x : Tag} {s : Bytes} → T (space c) → Slashed P x s → Slashed P x (c ∷ s)
  space_slashed c u (slash_spaced p t) = slash_spaced (space_on u p) t

  space_equals : (c : ℕ) {a n : Name} {ps : Attributes} {s : Bytes} → T (space c) → Equals P a n ps s → Equals P a n ps (c ∷ s)
  space_equals c u (equals_string p q t) = equals_string (space_on u p) q t
  space_equals c u (equals_container p b t) = equals_container (space_on u p) b t
  space_equals c u (equals_tag p b t) = equals_tag (space_on u p) b t

  space_spread : (c : ℕ) {n : Name} {ps : Attributes} {s : Bytes} → T (space c) → SpreadOpened P n ps s → SpreadOpened P n ps (c ∷ s)
  space_spread c u (spread_goes p i t) = spread_goes (space_on u p) i t

  space_behind_tag : (c : ℕ) {x : Tag} {h : Braces} {s : Bytes} → T (space c) → BehindTag P x h s → BehindTag P x h (c ∷ s)
  space_behind_tag c u (braces_ends p f) = braces_ends (space_on u p) f

  space_closing : (c : ℕ) {n : Name} {ps : Attributes} {ks : Children} {s : Bytes} → T (space c) → ClosedBy P n ps ks s → ClosedBy P n ps ks (c ∷ s)
  space_closing c u (by_name p nm f t) = by_name (space_on u p) nm f t
  space_closing c u (by_nothing p t) = by_nothing (space_on u p) t

  space_close_named : (c : ℕ) {m n : Name} {ps : Attributes} {ks : Children} {s : Bytes} → T (space c) → CloseNamed P m n ps ks s → CloseNamed P m n ps ks (c ∷ s)
  space_close_named c u (close_spaced p t) = close_spaced (space_on u p) t

space_expr : (c : ℕ) {s r : Bytes} {b : Expr} → T (space c) → IsExpr s b r → IsExpr (c ∷ s) b r
space_expr c u (is_tag_expr p i q) = is_tag_expr (space_on u p) i q
space_expr c u (is_known_expr p x k e) = is_known_expr (space_on u p) x k e

space_parts : (c : ℕ) {s r : Bytes} {ps : Name} → T (space c) → IsParts s ps r → IsParts (c ∷ s) ps r
space_parts c u (no_parts p e) = no_parts (space_on u p) e
space_parts c u (one_part p d q i k) = one_part (space_on u p) d q i k

module _ (P : Tag → Bytes → Type 0) where
  space_braces : (c : ℕ) {h : Braces} {s : Bytes} → T (space c) → BracesOpened P h s → BracesOpened P h (c ∷ s)
  space_braces c u (braces_expr r b i f) = braces_expr r b (space_expr c u i) f
  space_braces c u (braces_empty r p f) = braces_empty r (space_on u p) f
  space_braces c u (braces_points r b p i f) = braces_points r b (space_on u p) i f

  -- ---- strings and texts
  string_goes : (c : ℕ) {q : ℕ} {w : Bytes} {a n : Name} {ps : Attributes} {s : Bytes} → T (string_byte q c) → T (not (eqb c 38)) → InString P q (snoc w c) a n ps s → InString P q w a n ps (c ∷ s)
  string_goes c {q} {w} {a} {n} {ps} u m (string_on {v} {s₁} k t) = string_on (decoded_on u m k) (subst (λ (z : Bytes). SpacedTag P n (add_attribute ps (string_value a z)) s₁) (append_assoc w (c ∷ []) v) t)

  string_entity : {q : ℕ} {w e s s₁ : Bytes} {d : ℕ} {a n : Name} {ps : Attributes} → Run entity_byte s e (59 ∷ s₁) → entity_of e ≡ Some d → InString P q (snoc w d) a n ps s₁ → InString P q w a n ps (38 ∷ s)
  string_entity {q} {w} {d = d} {a} {n} {ps} r i (string_on {v} {s₁} k t) = string_on (entity r i k) (subst (λ (z : Bytes). SpacedTag P n (add_attribute ps (string_value a z)) s₁) (append_assoc w (d ∷ []) v) t)

  string_stops : {q : ℕ} {w : Bytes} {a n : Name} {ps : Attributes} {s : Bytes} → SpacedTag P n (add_attribute ps (string_value a w)) s → InString P q w a n ps (q ∷ s)
  unfolding Ends
  string_stops {q} {w} {a} {n} {ps} {s} t = string_on (decoded_ends (end_string q)) (subst (λ (z : Bytes). SpacedTag P n (add_attribute ps (string_value a z)) s) (sym (append-nil w)) t)

  text_goes : (c : ℕ) {w : Bytes} {n : Name} {ps : Attributes} {ks : Children} {s : Bytes} → T (text_byte c) → T (not (eqb c 38)) → InText P (snoc w c) n ps ks s → InText P w n ps ks (c ∷ s)
  text_goes c {w} {n} {ps} {ks} u m (text_on {v} {s₁} q t) = text_on (decoded_on u m q) (subst (λ (z : Bytes). AfterChildren P n ps (add_child ks (text_child z)) s₁) (append_assoc w (c ∷ []) v) t)

  text_entity : {w e s s₁ : Bytes} {d : ℕ} {n : Name} {ps : Attributes} {ks : Children} → Run entity_byte s e (59 ∷ s₁) → entity_of e ≡ Some d → InText P (snoc w d) n ps ks s₁ → InText P w n ps ks (38 ∷ s)
  text_entity {w} {d = d} {n} {ps} {ks} r i (text_on {v} {s₁} q t) = text_on (entity r i q) (subst (λ (z : Bytes). AfterChildren P n ps (add_child ks (text_child z)) s₁) (append_assoc w (d ∷ []) v) t)

  text_ends : (c : ℕ) {w : Bytes} {n : Name} {ps : Attributes} {ks : Children} {s : Bytes} → T (not (text_byte c)) → AfterChildren P n ps (add_child ks (text_child w)) (c ∷ s) → InText P w n ps ks (c ∷ s)
  unfolding Ends
  text_ends c {w} {n} {ps} {ks} {s} u t = text_on (decoded_ends u) (subst (λ (z : Bytes). AfterChildren P n ps (add_child ks (text_child z)) (c ∷ s)) (sym (append-nil w)) t)

  text_begins : (c : ℕ) {n : Name} {ps : Attributes} {ks : Children} {s : Bytes} → T (text_byte c) → T (not (eqb c 38)) → InText P (c ∷ []) n ps ks s → AfterChildren P n ps ks (c ∷ s)
  text_begins c u m (text_on q t) = one_child P (is_text_child (decoded_on u m q)) t

  entity_begins : {e s s₁ : Bytes} {d : ℕ} {n : Name} {ps : Attributes} {ks : Children} → Run entity_byte s e (59 ∷ s₁) → entity_of e ≡ Some d → InText P (d ∷ []) n ps ks s₁ → AfterChildren P n ps ks (38 ∷ s)
  entity_begins r i (text_on q t) = one_child P (is_text_child (entity r i q)) t

module _ (R : ℕ → Bytes → Type 0) where
  entity_on : (c : ℕ) {e s : Bytes} → T (not (eqb c 59)) → InEntity R (snoc e c) s → InEntity R e (c ∷ s)
  unfolding entity_byte
  entity_on c {e} u (entity_goes {f} {d = d} q i k) = entity_goes (run_on u q) (subst (λ (z : Bytes). entity_of z ≡ Some d) (append_assoc e (c ∷ []) f) i) k

  entity_stops : {d : ℕ} (e s : Bytes) → entity_of e ≡ Some d → R d s → InEntity R e (59 ∷ s)
  unfolding Ends entity_byte
  entity_stops {d} e s i k = entity_goes (run_ends tt) (subst (λ (z : Bytes). entity_of z ≡ Some d) (sym (append-nil e)) i) k

-- ---- names
module _ (N : Name → Bytes → Type 0) (F : Name → Bool) where
  space_behind : (c : ℕ) {m : Name} {s : Bytes} → T (space c) → BehindIdent N F m s → BehindIdent N F m (c ∷ s)
  space_behind c u (behind k f n) = behind (space_parts c u k) f n

  space_sep : (c : ℕ) {m : Name} {d : ℕ} {s : Bytes} → T (space c) → BehindSep N F m d s → BehindSep N F m d (c ∷ s)
  space_sep c u (sep_goes p i k) = sep_goes (space_on u p) i k

  part_on : {m : Name} {d : ℕ} {w s s₁ s₂ : Bytes} → T (separator d) → Spaces s s₁ → IsIdent s₁ w s₂ → BehindIdent N F (m ++ (part d w ∷ [])) s₂ → BehindIdent N F m (d ∷ s)
  part_on {m} {d} {w} u p i (behind {ps} {r} k f n) =
      behind (one_part no_space u p i k) (subst (λ (z : Name). T (F z)) (append_assoc m (part d w ∷ []) ps) f) (subst (λ (z : Name). N z r) (append_assoc m (part d w ∷ []) ps) n)

  sep_on : (c : ℕ) {m : Name} {s : Bytes} → T (separator c) → BehindSep N F m c s → BehindIdent N F m (c ∷ s)
  sep_on c u (sep_goes p i k) = part_on u p i k

  name_stops : (c : ℕ) (m : Name) (s : Bytes) → T (not (space c)) → T (not (separator c)) → T (F m) → N m (c ∷ s) → BehindIdent N F m (c ∷ s)
  unfolding Ends name_goes_on
  name_stops c m s a b f n =
      behind (no_parts no_space (nor (space c) (separator c) a b)) (subst (λ (z : Name). T (F z)) (sym (append-nil m)) f) (subst (λ (z : Name). N z (c ∷ s)) (sym (append-nil m)) n)

  ident_on : (c : ℕ) {m : Name} {d : ℕ} {w s : Bytes} → T (name_byte c) → InIdent N F m d (snoc w c) s → InIdent N F m d w (c ∷ s)
  ident_on c {m} {d} {w} u (ident_goes {v} {s₁} q k) = ident_goes (run_on u q) (subst (λ (z : Bytes). BehindIdent N F (m ++ (part d z ∷ [])) s₁) (append_assoc w (c ∷ []) v) k)

  ident_stops : (c : ℕ) {m : Name} {d : ℕ} {w s : Bytes} → T (not (name_byte c)) → BehindIdent N F (m ++ (part d w ∷ [])) (c ∷ s) → InIdent N F m d w (c ∷ s)
  unfolding Ends
  ident_stops c {m} {d} {w} {s} u k = ident_goes (run_ends u) (subst (λ (z : Bytes). BehindIdent N F (m ++ (part d z ∷ [])) (c ∷ s)) (sym (append-nil w)) k)

  part_from : (c : ℕ) {m : Name} {d : ℕ} {s : Bytes} → T (letter c) → InIdent N F m d (c ∷ []) s → BehindSep N F m d (c ∷ s)
  part_from c u (ident_goes q k) = sep_goes no_space (ident u q) k

  -- the whole name
  name_of : (c : ℕ) {s : Bytes} → T (letter c) → InIdent N F [] 0 (c ∷ []) s → (m : Name) × (r : Bytes) × IsName (c ∷ s) m r × T (F m) × N m r
  name_of c u (ident_goes {v} q (behind {ps} {r} k f n)) = (part 0 (c ∷ v) ∷ ps, r, is_name (ident u q) k, f, n)

-- ---- source text
up_on : (d c : ℕ) (s v r : Bytes) → T (source_byte c) → SourceUp d s v r → SourceUp d (c ∷ s) (c ∷ v) r
unfolding SourceUp
up_on zero c s v r u k = source_on u k
up_on (suc d) c s v r u k = (c ∷ k.0, k.1, k.2, source_on u k.3, k.4, ap (λ (z : Bytes). c ∷ z) k.5)

regroup : (q b : ℕ) (v u x : Bytes) → q ∷ (v ++ (b ∷ (u ++ x))) ≡ (q ∷ (v ++ (b ∷ u))) ++ x
regroup q b v u x = ap (λ (z : Bytes). q ∷ z) (sym (append_assoc v (b ∷ u) x))

up_quotes : (d : ℕ) (v r : Bytes) {q : ℕ} {s w s' : Bytes} → T (quote q) → Run (quoted_byte q) s w (q ∷ s') → SourceUp d s' v r → SourceUp d (q ∷ s) (q ∷ (w ++ (q ∷ v))) r
unfolding SourceUp
up_quotes zero v r u p k = quotes u p k
up_quotes (suc d) v r {q} {w = w} u p k =
    (q ∷ (w ++ (q ∷ k.0)), k.1, k.2, quotes u p k.3, k.4, ap (λ (z : Bytes). q ∷ (w ++ (q ∷ z))) k.5 ∙ regroup q q w k.0 (125 ∷ k.2))

up_braces : (d : ℕ) (v r : Bytes) {s w s' : Bytes} → IsSource s w (125 ∷ s') → SourceUp d s' v r → SourceUp d (123 ∷ s) (123 ∷ (w ++ (125 ∷ v))) r
unfolding SourceUp
up_braces zero v r p k = braces p k
up_braces (suc d) v r {w = w} p k =
    (123 ∷ (w ++ (125 ∷ k.0)), k.1, k.2, braces p k.3, k.4, ap (λ (z : Bytes). 123 ∷ (w ++ (125 ∷ z))) k.5 ∙ regroup 123 125 w k.0 (125 ∷ k.2))

module _ (P : Tag → Bytes → Type 0) where
  source_goes : (c d : ℕ) {w : Bytes} {h : Braces} {s : Bytes} → T (source_byte c) → InSource P d (snoc w c) h s → InSource P d w h (c ∷ s)
  source_goes c d {w} {h} {s} u (in_the_source v r k p e f) =
      in_the_source (c ∷ v) r k (up_on d c s v r u p) (subst (λ (z : Bytes). known_of z ≡ Some k) (append_assoc w (c ∷ []) v) e) f

  source_quotes : (c d : ℕ) {w : Bytes} {h : Braces} {s : Bytes} → T (quote c) → InQuotes P c d (snoc w c) h s → InSource P d w h (c ∷ s)
  source_quotes c d {w} {h} u (in_the_quotes {v} p (in_the_source x r k q e f)) =
      in_the_source (c ∷ (v ++ (c ∷ x))) r k (up_quotes d x r u p q) (subst (λ (z : Bytes). known_of z ≡ Some k) (simp append_assoc) e) f

  source_braces : (d : ℕ) {w : Bytes} {h : Braces} {s : Bytes} → InSource P (suc d) (snoc w 123) h s → InSource P d w h (123 ∷ s)
  unfolding SourceUp
  source_braces d {w} {h} {s} (in_the_source v r k p e f) =
      let i : v ≡ p.0 ++ (125 ∷ p.2) = p.5 in
      in_the_source (123 ∷ v) r k (subst (λ (z : Bytes). SourceUp d (123 ∷ s) (123 ∷ z) r) (sym i) (up_braces d p.2 r p.3 p.4)) (subst (λ (z : Bytes). known_of z ≡ Some k) (append_assoc w (123 ∷ []) v) e) f

  source_stops : (w : Bytes) (s : Bytes) (h : Braces) (k : Known) → known_of w ≡ Some k → Filled P h (known_expr k) s → InSource P zero w h (125 ∷ s)
  unfolding SourceUp
  source_stops w s h k e f = in_the_source [] s k source_ends (subst (λ (z : Bytes). known_of z ≡ Some k) (sym (append-nil w)) e) f

  brace_stops : (d : ℕ) {w : Bytes} {h : Braces} {s : Bytes} → InSource P d (snoc w 125) h s → InSource P (suc d) w h (125 ∷ s)
  unfolding SourceUp
  brace_stops d {w} {h} {s} (in_the_source v r k p e f) =
      in_the_source (125 ∷ v) r k ([], s, v, source_ends, p, refl) (subst (λ (z : Bytes). known_of z ≡ Some k) (append_assoc w (125 ∷ []) v) e) f

  quotes_go : (c : ℕ) {q d : ℕ} {w : Bytes} {h : Braces} {s : Bytes} → T (quoted_byte q c) → InQuotes P q d (snoc w c) h s → InQuotes P q d w h (c ∷ s)
  quotes_go c {q} {d} {w} {h} u (in_the_quotes {v} {s₁} k t) = in_the_quotes (run_on u k) (subst (λ (z : Bytes). InSource P d (snoc z q) h s₁) (append_assoc w (c ∷ []) v) t)

  quotes_stop : (q d : ℕ) {w : Bytes} {h : Braces} {s : Bytes} → InSource P d (snoc w q) h s → InQuotes P q d w h (q ∷ s)
  unfolding Ends
  quotes_stop q d {w} {h} {s} t = in_the_quotes (run_ends (end_quote q)) (subst (λ (z : Bytes). InSource P d (snoc z q) h s) (sym (append-nil w)) t)

-- what source text begins with
data First : Bytes → Bytes → Bytes → Type 0 where
  nothing_of : {s : Bytes} → First s [] s
  some_of : {c : ℕ} {s v r : Bytes} → First (c ∷ s) (c ∷ v) r

first_of : {s v r : Bytes} → IsSource s v r → First s v r
first_of source_ends = nothing_of
first_of (source_on u p) = some_of
first_of (quotes u p k) = some_of
first_of (braces p k) = some_of

not_not_T : (b : Bool) → T (not (not b)) → T b
not_not_T true t = tt
not_not_T false t = t

only_quote : (q c : ℕ) → T (not (string_byte q c)) → T (eqb c q)
unfolding string_byte
only_quote q c u = not_not_T (eqb c q) u

-- ---- what a state that ends something means
module _ (t : Tag) where
  closed_means : (x : Tag) (K : Stack) (s : Bytes) → Means t (closed x K) s → Rest t K x s
  unfolding closed Means Rest
  closed_means x [] s p = p
  closed_means x (within n ps ks ∷ K) s p = p
  closed_means x (value_of a n ps ∷ K) s p = p
  closed_means x (in_braces h ∷ K) s p = p

  filled_means : (b : Expr) (h : Braces) (K : Stack) (s : Bytes) → Means t (filled b h K) s → Filled (Rest t K) h b s
  unfolding filled Means Filled
  filled_means b (child_braces n ps ks) K s p = p
  filled_means b (spread_child_braces n ps ks) K s p = p
  filled_means b (value_braces a n ps) K s p = p
  filled_means b (spread_braces n ps) K s p = p

  emptied_means : (h : Braces) (K : Stack) (s : Bytes) → Means t (emptied h K) s → Emptied (Rest t K) h s
  unfolding emptied Means Emptied
  emptied_means (child_braces n ps ks) K s p = p
  emptied_means (spread_child_braces n ps ks) K s p = p
  emptied_means (value_braces a n ps) K s p = p
  emptied_means (spread_braces n ps) K s p = p

  close_of_means : (K : Stack) (s : Bytes) → Means t (close_of K) s → CloseOf t K s
  unfolding close_of Means CloseOf
  close_of_means [] s p = p
  close_of_means (within n ps ks ∷ K) s p = p
  close_of_means (value_of a n ps ∷ K) s p = p
  close_of_means (in_braces h ∷ K) s p = p

  resumed_means : (x : Of) (d : ℕ) (s : Bytes) → Means t (resumed x d) s → Resumed t x d s
  unfolding resumed Means Resumed
  resumed_means (of_text w n ps ks K) d s p = p
  resumed_means (of_string q w a n ps K) d s p = p

  resumed_if_means : (x : Of) (e s : Bytes) → Means t (resumed_if x (entity_of e)) s → InEntity (Resumed t x) e (59 ∷ s)
  unfolding resumed_if Means
  resumed_if_means x e s p = on (entity_of e) refl p
    where
      on : (f : Option ℕ) → entity_of e ≡ f → Means t (resumed_if x f) s → InEntity (Resumed t x) e (59 ∷ s)
      on None i q = absurd q
      on (Some d) i q = entity_stops (Resumed t x) e s i (resumed_means x d s q)

  filled_if_means : (w : Bytes) (h : Braces) (K : Stack) (s : Bytes) → Means t (filled_if (known_of w) h K) s → InSource (Rest t K) zero w h (125 ∷ s)
  unfolding filled_if Means
  filled_if_means w h K s p = on (known_of w) refl p
    where
      on : (f : Option Known) → known_of w ≡ f → Means t (filled_if f h K) s → InSource (Rest t K) zero w h (125 ∷ s)
      on None i q = absurd q
      on (Some k) i q = source_stops (Rest t K) w s h k i (filled_means (known_expr k) h K s q)

  brace_ends_means : (d : ℕ) (w : Bytes) (h : Braces) (K : Stack) (s : Bytes) → Means t (brace_ends d w h K) s → InSource (Rest t K) d w h (125 ∷ s)
  unfolding brace_ends Means
  brace_ends_means zero w h K s p = filled_if_means w h K s p
  brace_ends_means (suc d) w h K s p = brace_stops (Rest t K) d p

  -- ---- a step back
  opened_back : (K : Stack) (c : ℕ) (s : Bytes) → Means t (step (opened K) c) s → Means t (opened K) (c ∷ s)
  unfolding step Means fits Named
  opened_back K c s =
      chosen (λ z. Means t z s) (space c) _ _ (λ u p. space_opened (Rest t K) (CloseOf t K) c u p)
      (λ _. chosen (λ z. Means t z s) (letter c) _ _ (λ u p. let m = name_of (Named t (for_tag K)) (fits (for_tag K)) c u p in opens_named no_space m.2 m.3 m.4)
      (λ _. chosen (λ z. Means t z s) (eqb c 62) _ _ (λ u p. at_eq (λ d. Opened (Rest t K) (CloseOf t K) (d ∷ s)) c 62 u (opens_fragment no_space p))
      (λ _. chosen (λ z. Means t z s) (eqb c 47) _ _ (λ u p. at_eq (λ d. Opened (Rest t K) (CloseOf t K) (d ∷ s)) c 47 u (opens_closing no_space (close_of_means K s p)))
      (λ _ p. absurd p))))

  tag_back : (n : Name) (ps : Attributes) (K : Stack) (c : ℕ) (s : Bytes) → T (not (space c)) → Means t (step_tag n ps K c) s → InTag (Rest t K) n ps (c ∷ s)
  unfolding step_tag Means fits Named
  tag_back n ps K c s ns =
      chosen (λ z. Means t z s) (space c) _ _ (λ u p. clash (space c) u ns)
      (λ _. chosen (λ z. Means t z s) (letter c) _ _ (λ u p. let m = name_of (Named t (for_attribute n ps K)) (fits (for_attribute n ps K)) c u p in attribute_from (Rest t K) m.2 m.3 m.4)
      (λ _. chosen (λ z. Means t z s) (eqb c 123) _ _ (λ u p. at_eq (λ d. InTag (Rest t K) n ps (d ∷ s)) c 123 u (spread_from (Rest t K) p))
      (λ _. chosen (λ z. Means t z s) (eqb c 47) _ _ (λ u p. at_eq (λ d. InTag (Rest t K) n ps (d ∷ s)) c 47 u (no_attribute_alone (Rest t K) p))
      (λ _. chosen (λ z. Means t z s) (eqb c 62) _ _ (λ u p. at_eq (λ d. InTag (Rest t K) n ps (d ∷ s)) c 62 u (no_attribute_around (Rest t K) p))
      (λ _ p. absurd p)))))

  spaced_back : (n : Name) (ps : Attributes) (K : Stack) (c : ℕ) (s : Bytes) → Means t (step_tag n ps K c) s → SpacedTag (Rest t K) n ps (c ∷ s)
  unfolding step_tag Means
  spaced_back n ps K c s p =
      chosen (λ z. Means t z s) (space c) _ _ (λ u q. space_tag (Rest t K) c u q) (λ ns q. spaced no_space (tag_back n ps K c s ns p)) p

  attribute_named_back : (a n : Name) (ps : Attributes) (K : Stack) (c : ℕ) (s : Bytes) → Means t (step_attribute_named a n ps K c) s → AttributeNamed (Rest t K) a n ps (c ∷ s)
  unfolding step_attribute_named Means Ends equals_sign
  attribute_named_back a n ps K c s =
      chosen (λ z. Means t z s) (eqb c 61) _ _ (λ u p. at_eq (λ d. AttributeNamed (Rest t K) a n ps (d ∷ s)) c 61 u (named_value p))
      (λ ne p. named_no_value ne (spaced_back n (add_attribute ps (no_value a)) K c s p))

  close_named_back : (m n : Name) (ps : Attributes) (ks : Children) (K : Stack) (c : ℕ) (s : Bytes) → Means t (step_close_named m n ps ks K c) s → CloseNamed (Rest t K) m n ps ks (c ∷ s)
  unfolding step_close_named Means
  close_named_back m n ps ks K c s =
      chosen (λ z. Means t z s) (space c) _ _ (λ u p. space_close_named (Rest t K) c u p)
      (λ _. chosen (λ z. Means t z s) (eqb c 62) _ _ (λ u p. at_eq (λ e. CloseNamed (Rest t K) m n ps ks (e ∷ s)) c 62 u (close_spaced no_space (closed_means (tag n ps ks m) K s p)))
      (λ _ p. absurd p))

  named_back : (x : For) (m : Name) (c : ℕ) (s : Bytes) → Means t (step_of_named x m c) s → Named t x m (c ∷ s)
  unfolding step_of_named Named
  named_back (for_tag K) m c s p = spaced_back m no_attributes K c s p
  named_back (for_attribute n ps K) m c s p = attribute_named_back m n ps K c s p
  named_back (for_closing n ps ks K) m c s p = close_named_back m n ps ks K c s p

  behind_back : (m : Name) (x : For) (c : ℕ) (s : Bytes) → Means t (step_behind m x c) s → BehindIdent (Named t x) (fits x) m (c ∷ s)
  unfolding step_behind Means
  behind_back m x c s =
      chosen (λ z. Means t z s) (space c) _ _ (λ u p. space_behind (Named t x) (fits x) c u p)
      (λ a. chosen (λ z. Means t z s) (separator c) _ _ (λ u p. sep_on (Named t x) (fits x) c u p)
      (λ b. chosen (λ z. Means t z s) (fits x m) _ _ (λ f p. name_stops (Named t x) (fits x) c m s a b f (named_back x m c s p))
      (λ _ p. absurd p)))

  ident_back : (m : Name) (d : ℕ) (w : Bytes) (x : For) (c : ℕ) (s : Bytes) → Means t (step (in_ident m d w x) c) s → InIdent (Named t x) (fits x) m d w (c ∷ s)
  unfolding step Means
  ident_back m d w x c s =
      chosen (λ z. Means t z s) (name_byte c) _ _ (λ u p. ident_on (Named t x) (fits x) c u p)
      (λ u p. ident_stops (Named t x) (fits x) c u (behind_back (m ++ (part d w ∷ [])) x c s p))

  sep_back : (m : Name) (d : ℕ) (x : For) (c : ℕ) (s : Bytes) → Means t (step (behind_sep m d x) c) s → BehindSep (Named t x) (fits x) m d (c ∷ s)
  unfolding step Means
  sep_back m d x c s =
      chosen (λ z. Means t z s) (space c) _ _ (λ u p. space_sep (Named t x) (fits x) c u p)
      (λ _. chosen (λ z. Means t z s) (letter c) _ _ (λ u p. part_from (Named t x) (fits x) c u p)
      (λ _ p. absurd p))

  -- behind `<`: a tag, or the end of the tag around
  tag_or_closing : (K : Stack) (s : Bytes) → Opened (Rest t K) (CloseOf t K) s → TagThen (Rest t K) (60 ∷ s) ⊎ ((r : Bytes) × Spaces s (47 ∷ r) × CloseOf t K r)
  tag_or_closing K s (opens_named p nm f (spaced q i)) = inl (tag_from (Rest t K) p nm f q i)
  tag_or_closing K s (opens_fragment p k) = inl (fragment_from (Rest t K) p k)
  tag_or_closing K s (opens_closing {s₁} p c) = inr (s₁, p, c)

  opened_child : (n : Name) (ps : Attributes) (ks : Children) (K : Stack) (s : Bytes) → Means t (opened (within n ps ks ∷ K)) s → AfterChildren (Rest t K) n ps ks (60 ∷ s)
  unfolding Means Rest CloseOf
  opened_child n ps ks K s p = on (tag_or_closing (within n ps ks ∷ K) s p)
    where
      one : TagThen (Rest t (within n ps ks ∷ K)) (60 ∷ s) → AfterChildren (Rest t K) n ps ks (60 ∷ s)
      one (tag_then i k) = one_child (Rest t K) (is_tag_child i) k

      on : TagThen (Rest t (within n ps ks ∷ K)) (60 ∷ s) ⊎ ((r : Bytes) × Spaces s (47 ∷ r) × CloseOf t (within n ps ks ∷ K) r) → AfterChildren (Rest t K) n ps ks (60 ∷ s)
      on (inl x) = one x
      on (inr x) = closing_from (Rest t K) x.1 x.2

  opened_value : (a n : Name) (ps : Attributes) (K : Stack) (s : Bytes) → Means t (opened (value_of a n ps ∷ K)) s → Equals (Rest t K) a n ps (60 ∷ s)
  unfolding Means Rest CloseOf
  opened_value a n ps K s p = on (tag_or_closing (value_of a n ps ∷ K) s p)
    where
      one : TagThen (Rest t (value_of a n ps ∷ K)) (60 ∷ s) → Equals (Rest t K) a n ps (60 ∷ s)
      one (tag_then i k) = equals_tag no_space i k

      on : TagThen (Rest t (value_of a n ps ∷ K)) (60 ∷ s) ⊎ ((r : Bytes) × Spaces s (47 ∷ r) × CloseOf t (value_of a n ps ∷ K) r) → Equals (Rest t K) a n ps (60 ∷ s)
      on (inl x) = one x
      on (inr x) = absurd x.2

  opened_braces : (h : Braces) (K : Stack) (s : Bytes) → Means t (opened (in_braces h ∷ K)) s → BracesOpened (Rest t K) h (60 ∷ s)
  unfolding Means Rest CloseOf
  opened_braces h K s p = on (tag_or_closing (in_braces h ∷ K) s p)
    where
      two : {x : Tag} {r : Bytes} → IsTag (60 ∷ s) x r → BehindTag (Rest t K) x h r → BracesOpened (Rest t K) h (60 ∷ s)
      two {x} i (braces_ends {r} e f) = braces_expr r (tag_expr x) (is_tag_expr no_space i e) f

      one : TagThen (Rest t (in_braces h ∷ K)) (60 ∷ s) → BracesOpened (Rest t K) h (60 ∷ s)
      one (tag_then i k) = two i k

      on : TagThen (Rest t (in_braces h ∷ K)) (60 ∷ s) ⊎ ((r : Bytes) × Spaces s (47 ∷ r) × CloseOf t (in_braces h ∷ K) r) → BracesOpened (Rest t K) h (60 ∷ s)
      on (inl x) = one x
      on (inr x) = absurd x.2

  opened_start : (s : Bytes) → Means t (opened []) s → TagThen (Rest t []) (60 ∷ s)
  unfolding Means CloseOf
  opened_start s p = on (tag_or_closing [] s p)
    where
      on : TagThen (Rest t []) (60 ∷ s) ⊎ ((r : Bytes) × Spaces s (47 ∷ r) × CloseOf t [] r) → TagThen (Rest t []) (60 ∷ s)
      on (inl x) = x
      on (inr x) = absurd x.2

  braces_value : (a n : Name) (ps : Attributes) (K : Stack) (s : Bytes) → BracesOpened (Rest t K) (value_braces a n ps) s → Equals (Rest t K) a n ps (123 ∷ s)
  unfolding Filled Emptied Pointed
  braces_value a n ps K s (braces_expr r b i f) = equals_container no_space i f
  braces_value a n ps K s (braces_empty r p f) = absurd f
  braces_value a n ps K s (braces_points r b p i f) = absurd f

  braces_child : (n : Name) (ps : Attributes) (ks : Children) (K : Stack) (s : Bytes) → BracesOpened (Rest t K) (child_braces n ps ks) s → AfterChildren (Rest t K) n ps ks (123 ∷ s)
  unfolding Filled Emptied Pointed
  braces_child n ps ks K s (braces_expr r b i f) = one_child (Rest t K) (is_container_child i) f
  braces_child n ps ks K s (braces_empty r p f) = one_child (Rest t K) (is_empty_child p) f
  braces_child n ps ks K s (braces_points r b p i f) = one_child (Rest t K) (is_spread_child p i) f

  -- behind three points: an expression
  spread_child_expr : (n : Name) (ps : Attributes) (ks : Children) (K : Stack) (s : Bytes) → BracesOpened (Rest t K) (spread_child_braces n ps ks) s → (b : Expr) × (r : Bytes) × IsExpr s b r × Filled (Rest t K) (spread_child_braces n ps ks) b r
  unfolding Emptied Pointed
  spread_child_expr n ps ks K s (braces_expr r b i f) = (b, r, i, f)
  spread_child_expr n ps ks K s (braces_empty r p f) = absurd f
  spread_child_expr n ps ks K s (braces_points r b p i f) = absurd f

  spread_braces_expr : (n : Name) (ps : Attributes) (K : Stack) (s : Bytes) → BracesOpened (Rest t K) (spread_braces n ps) s → (b : Expr) × (r : Bytes) × IsExpr s b r × Filled (Rest t K) (spread_braces n ps) b r
  unfolding Emptied Pointed
  spread_braces_expr n ps K s (braces_expr r b i f) = (b, r, i, f)
  spread_braces_expr n ps K s (braces_empty r p f) = absurd f
  spread_braces_expr n ps K s (braces_points r b p i f) = absurd f

  three_points : (s r : Bytes) → s ≡ 46 ∷ 46 ∷ r → Spaces (46 ∷ s) (46 ∷ 46 ∷ 46 ∷ r)
  three_points s r e = subst (λ (z : Bytes). Spaces (46 ∷ z) (46 ∷ 46 ∷ 46 ∷ r)) (sym e) no_space

  pointed_means : (h : Braces) (K : Stack) (s : Bytes) → Means t (pointed h K) s → BracesOpened (Rest t K) h (46 ∷ s)
  unfolding pointed Means Pointed
  pointed_means (child_braces n ps ks) K s p =
      let i = spread_child_expr n ps ks K p.0 p.2 in
      braces_points i.1 i.0 (three_points s p.0 p.1) i.2 i.3
  pointed_means (spread_child_braces n ps ks) K s p = absurd p
  pointed_means (value_braces a n ps) K s p = absurd p
  pointed_means (spread_braces n ps) K s p = absurd p

  spread_back : (n : Name) (ps : Attributes) (K : Stack) (c : ℕ) (s : Bytes) → Means t (step (spread_opened n ps K) c) s → SpreadOpened (Rest t K) n ps (c ∷ s)
  unfolding step Means Filled
  spread_back n ps K c s =
      chosen (λ z. Means t z s) (space c) _ _ (λ u p. space_spread (Rest t K) c u p)
      (λ _. chosen (λ z. Means t z s) (eqb c 46) _ _ (λ u p. let i = spread_braces_expr n ps K p.0 p.2 in at_eq (λ d. SpreadOpened (Rest t K) n ps (d ∷ s)) c 46 u (spread_goes (three_points s p.0 p.1) i.2 i.3))
      (λ _ p. absurd p))

  one_point_back : (h : Braces) (K : Stack) (c : ℕ) (s : Bytes) → Means t (step (one_point h K) c) s → OnePoint (Rest t K) h (c ∷ s)
  unfolding step Means
  one_point_back h K c s =
      chosen (λ z. Means t z s) (eqb c 46) _ _ (λ u p. at_eq (λ d. OnePoint (Rest t K) h (d ∷ s)) c 46 u (p.0, ap (λ (z : Bytes). 46 ∷ z) p.1, p.2))
      (λ _ p. absurd p)

  two_points_back : (h : Braces) (K : Stack) (c : ℕ) (s : Bytes) → Means t (step (two_points h K) c) s → TwoPoints (Rest t K) h (c ∷ s)
  unfolding step Means
  two_points_back h K c s =
      chosen (λ z. Means t z s) (eqb c 46) _ _ (λ u p. at_eq (λ d. TwoPoints (Rest t K) h (d ∷ s)) c 46 u (s, refl, p))
      (λ _ p. absurd p)

  equals_back : (a n : Name) (ps : Attributes) (K : Stack) (c : ℕ) (s : Bytes) → Means t (step (equals a n ps K) c) s → Equals (Rest t K) a n ps (c ∷ s)
  unfolding step Means
  equals_back a n ps K c s =
      chosen (λ z. Means t z s) (space c) _ _ (λ u p. space_equals (Rest t K) c u p)
      (λ _. chosen (λ z. Means t z s) (quote c) _ _ (λ u p. equals_string no_space u p)
      (λ _. chosen (λ z. Means t z s) (eqb c 123) _ _ (λ u p. at_eq (λ d. Equals (Rest t K) a n ps (d ∷ s)) c 123 u (braces_value a n ps K s p))
      (λ _. chosen (λ z. Means t z s) (eqb c 60) _ _ (λ u p. at_eq (λ d. Equals (Rest t K) a n ps (d ∷ s)) c 60 u (opened_value a n ps K s p))
      (λ _ p. absurd p))))

  string_back : (q : ℕ) (w : Bytes) (a n : Name) (ps : Attributes) (K : Stack) (c : ℕ) (s : Bytes) → Means t (step (in_string q w a n ps K) c) s → InString (Rest t K) q w a n ps (c ∷ s)
  unfolding step Means
  string_back q w a n ps K c s =
      chosen (λ z. Means t z s) (eqb c 38) _ _ (λ u p. at_eq (λ d. InString (Rest t K) q w a n ps (d ∷ s)) c 38 u (on p))
      (λ m. chosen (λ z. Means t z s) (string_byte q c) _ _ (λ u p. string_goes (Rest t K) c u m p)
      (λ u p. at_eq (λ d. InString (Rest t K) q w a n ps (d ∷ s)) c q (only_quote q c u) (string_stops (Rest t K) p)))
    where
      on : InEntity (Resumed t (of_string q w a n ps K)) [] s → InString (Rest t K) q w a n ps (38 ∷ s)
      on (entity_goes r i k) = string_entity (Rest t K) r i (unfold Resumed in k)

  entity_back : (e : Bytes) (x : Of) (c : ℕ) (s : Bytes) → Means t (step (in_entity e x) c) s → InEntity (Resumed t x) e (c ∷ s)
  unfolding step Means
  entity_back e x c s =
      chosen (λ z. Means t z s) (eqb c 59) _ _ (λ u p. at_eq (λ d. InEntity (Resumed t x) e (d ∷ s)) c 59 u (resumed_if_means x e s p))
      (λ u p. entity_on (Resumed t x) c u p)

  source_back : (d : ℕ) (w : Bytes) (h : Braces) (K : Stack) (c : ℕ) (s : Bytes) → Means t (step_source d w h K c) s → InSource (Rest t K) d w h (c ∷ s)
  unfolding step_source Means
  source_back d w h K c s =
      chosen (λ z. Means t z s) (source_byte c) _ _ (λ u p. source_goes (Rest t K) c d u p)
      (λ _. chosen (λ z. Means t z s) (quote c) _ _ (λ u p. source_quotes (Rest t K) c d u p)
      (λ _. chosen (λ z. Means t z s) (eqb c 123) _ _ (λ u. at_eq (λ e. InSource (Rest t K) (suc d) (snoc w e) h s → InSource (Rest t K) d w h (e ∷ s)) c 123 u (λ p. source_braces (Rest t K) d p))
      (λ _. chosen (λ z. Means t z s) (eqb c 125) _ _ (λ u p. at_eq (λ e. InSource (Rest t K) d w h (e ∷ s)) c 125 u (brace_ends_means d w h K s p))
      (λ _ p. absurd p))))

  braces_from : (c : ℕ) {s v r : Bytes} (h : Braces) (K : Stack) (k : Known) → T (source_start c) → T (not (eqb c 125)) → First (c ∷ s) v (125 ∷ r) → IsSource (c ∷ s) v (125 ∷ r) → known_of v ≡ Some k → Filled (Rest t K) h (known_expr k) r → BracesOpened (Rest t K) h (c ∷ s)
  braces_from c h K k u n nothing_of i e f = absurd n
  braces_from c {r = r} h K k u n some_of i e f = braces_expr r (known_expr k) (is_known_expr no_space u i e) f

  braces_source_back : (h : Braces) (K : Stack) (c : ℕ) (s : Bytes) → T (source_start c) → T (not (eqb c 125)) → InSource (Rest t K) zero [] h (c ∷ s) → BracesOpened (Rest t K) h (c ∷ s)
  unfolding SourceUp
  braces_source_back h K c s u n (in_the_source v r k p e f) = braces_from c h K k u n (first_of p) p e f

  braces_back : (h : Braces) (K : Stack) (c : ℕ) (s : Bytes) → Means t (step (braces_opened h K) c) s → BracesOpened (Rest t K) h (c ∷ s)
  unfolding step Means
  braces_back h K c s =
      chosen (λ z. Means t z s) (space c) _ _ (λ u p. space_braces (Rest t K) c u p)
      (λ _. chosen (λ z. Means t z s) (eqb c 60) _ _ (λ u p. at_eq (λ e. BracesOpened (Rest t K) h (e ∷ s)) c 60 u (opened_braces h K s p))
      (λ _. chosen (λ z. Means t z s) (eqb c 125) _ _ (λ u p. at_eq (λ e. BracesOpened (Rest t K) h (e ∷ s)) c 125 u (braces_empty s no_space (emptied_means h K s p)))
      (λ nb. chosen (λ z. Means t z s) (eqb c 46) _ _ (λ u p. at_eq (λ e. BracesOpened (Rest t K) h (e ∷ s)) c 46 u (pointed_means h K s p))
      (λ _. chosen (λ z. Means t z s) (source_start c) _ _ (λ u p. braces_source_back h K c s u nb (source_back zero [] h K c s p))
      (λ _ p. absurd p)))))

  quotes_back : (q d : ℕ) (w : Bytes) (h : Braces) (K : Stack) (c : ℕ) (s : Bytes) → Means t (step (in_quotes q d w h K) c) s → InQuotes (Rest t K) q d w h (c ∷ s)
  unfolding step Means
  quotes_back q d w h K c s =
      chosen (λ z. Means t z s) (quoted_byte q c) _ _ (λ u p. quotes_go (Rest t K) c u p)
      (λ _. chosen (λ z. Means t z s) (eqb c q) _ _ (λ u. at_eq (λ e. InSource (Rest t K) d (snoc w e) h s → InQuotes (Rest t K) q d w h (e ∷ s)) c q u (λ p. quotes_stop (Rest t K) q d p))
      (λ _ p. absurd p))

  behind_tag_back : (x : Tag) (h : Braces) (K : Stack) (c : ℕ) (s : Bytes) → Means t (step (behind_tag x h K) c) s → BehindTag (Rest t K) x h (c ∷ s)
  unfolding step Means
  behind_tag_back x h K c s =
      chosen (λ z. Means t z s) (space c) _ _ (λ u p. space_behind_tag (Rest t K) c u p)
      (λ _. chosen (λ z. Means t z s) (eqb c 125) _ _ (λ u p. at_eq (λ e. BehindTag (Rest t K) x h (e ∷ s)) c 125 u (braces_ends no_space (filled_means (tag_expr x) h K s p)))
      (λ _ p. absurd p))

  children_back : (n : Name) (ps : Attributes) (ks : Children) (K : Stack) (c : ℕ) (s : Bytes) → Means t (step_children n ps ks K c) s → AfterChildren (Rest t K) n ps ks (c ∷ s)
  unfolding step_children Means Resumed
  children_back n ps ks K c s =
      chosen (λ z. Means t z s) (eqb c 38) _ _ (λ u p. at_eq (λ e. AfterChildren (Rest t K) n ps ks (e ∷ s)) c 38 u (on p))
      (λ m. chosen (λ z. Means t z s) (text_byte c) _ _ (λ u p. text_begins (Rest t K) c u m p)
      (λ _. chosen (λ z. Means t z s) (eqb c 60) _ _ (λ u p. at_eq (λ e. AfterChildren (Rest t K) n ps ks (e ∷ s)) c 60 u (opened_child n ps ks K s p))
      (λ _. chosen (λ z. Means t z s) (eqb c 123) _ _ (λ u p. at_eq (λ e. AfterChildren (Rest t K) n ps ks (e ∷ s)) c 123 u (braces_child n ps ks K s p))
      (λ _ p. absurd p))))
    where
      on : InEntity (Resumed t (of_text [] n ps ks K)) [] s → AfterChildren (Rest t K) n ps ks (38 ∷ s)
      on (entity_goes r i k) = entity_begins (Rest t K) r i k

  text_back : (w : Bytes) (n : Name) (ps : Attributes) (ks : Children) (K : Stack) (c : ℕ) (s : Bytes) → Means t (step (in_text w n ps ks K) c) s → InText (Rest t K) w n ps ks (c ∷ s)
  unfolding step Means Resumed
  text_back w n ps ks K c s =
      chosen (λ z. Means t z s) (eqb c 38) _ _ (λ u p. at_eq (λ e. InText (Rest t K) w n ps ks (e ∷ s)) c 38 u (on p))
      (λ m. chosen (λ z. Means t z s) (text_byte c) _ _ (λ u p. text_goes (Rest t K) c u m p)
      (λ u p. text_ends (Rest t K) c u (children_back n ps (add_child ks (text_child w)) K c s p)))
    where
      on : InEntity (Resumed t (of_text w n ps ks K)) [] s → InText (Rest t K) w n ps ks (38 ∷ s)
      on (entity_goes r i k) = text_entity (Rest t K) r i k

  closing_back : (n : Name) (ps : Attributes) (ks : Children) (K : Stack) (c : ℕ) (s : Bytes) → Means t (step (closing n ps ks K) c) s → ClosedBy (Rest t K) n ps ks (c ∷ s)
  unfolding step Means fits Named
  closing_back n ps ks K c s =
      chosen (λ z. Means t z s) (space c) _ _ (λ u p. space_closing (Rest t K) c u p)
      (λ _. chosen (λ z. Means t z s) (letter c) _ _ (λ u p. let m = name_of (Named t (for_closing n ps ks K)) (fits (for_closing n ps ks K)) c u p in by_name no_space m.2 m.3 m.4)
      (λ _. chosen (λ z. Means t z s) (eqb c 62) _ _ (λ u p. at_eq (λ e. ClosedBy (Rest t K) n ps ks (e ∷ s)) c 62 u (by_nothing no_space (closed_means (tag n ps ks []) K s p)))
      (λ _ p. absurd p)))

  slashed_back : (n : Name) (ps : Attributes) (K : Stack) (c : ℕ) (s : Bytes) → Means t (step (slashed n ps K) c) s → Slashed (Rest t K) (tag n ps no_children n) (c ∷ s)
  unfolding step Means
  slashed_back n ps K c s =
      chosen (λ z. Means t z s) (space c) _ _ (λ u p. space_slashed (Rest t K) c u p)
      (λ _. chosen (λ z. Means t z s) (eqb c 62) _ _ (λ u p. at_eq (λ e. Slashed (Rest t K) (tag n ps no_children n) (e ∷ s)) c 62 u (slash_spaced no_space (closed_means (tag n ps no_children n) K s p)))
      (λ _ p. absurd p))

  start_back : (c : ℕ) (s : Bytes) → Means t (step start c) s → TagThen (Rest t []) (c ∷ s)
  unfolding step Means
  start_back c s = chosen (λ z. Means t z s) (eqb c 60) _ _ (λ u p. at_eq (λ e. TagThen (Rest t []) (e ∷ s)) c 60 u (opened_start s p)) (λ _ p. absurd p)

  back : (x : State) (c : ℕ) (s : Bytes) → Means t (step x c) s → Means t x (c ∷ s)
  unfolding Means step
  back start c s p = start_back c s p
  back (opened K) c s p = opened_back K c s p
  back (in_ident m d w x) c s p = ident_back m d w x c s p
  back (behind_ident m x) c s p = behind_back m x c s p
  back (behind_sep m d x) c s p = sep_back m d x c s p
  back (in_tag n ps K) c s p = spaced_back n ps K c s p
  back (slashed n ps K) c s p = slashed_back n ps K c s p
  back (attribute_named a n ps K) c s p = attribute_named_back a n ps K c s p
  back (equals a n ps K) c s p = equals_back a n ps K c s p
  back (in_string q w a n ps K) c s p = string_back q w a n ps K c s p
  back (in_entity e x) c s p = entity_back e x c s p
  back (spread_opened n ps K) c s p = spread_back n ps K c s p
  back (one_point h K) c s p = one_point_back h K c s p
  back (two_points h K) c s p = two_points_back h K c s p
  back (braces_opened h K) c s p = braces_back h K c s p
  back (in_source d w h K) c s p = source_back d w h K c s p
  back (in_quotes q d w h K) c s p = quotes_back q d w h K c s p
  back (behind_tag x h K) c s p = behind_tag_back x h K c s p
  back (in_children n ps ks K) c s p = children_back n ps ks K c s p
  back (in_text w n ps ks K) c s p = text_back w n ps ks K c s p
  back (closing n ps ks K) c s p = closing_back n ps ks K c s p
  back (close_named m n ps ks K) c s p = close_named_back m n ps ks K c s p
  back (done x) c s p = absurd p
  back refused c s p = absurd p

  -- at the end of the text
  not_ended : {A : Type 0} → no_reading ≡ read t → A
  not_ended e = let z : ◌≡◌ {A = ℕ} 0 1 = cc in absurd (omega arith)

  ended : (x : State) → at_end x ≡ read t → Means t x []
  unfolding Means at_end
  ended start e = not_ended e
  ended (opened K) e = not_ended e
  ended (in_ident m d w x) e = not_ended e
  ended (behind_ident m x) e = not_ended e
  ended (behind_sep m d x) e = not_ended e
  ended (in_tag n ps K) e = not_ended e
  ended (slashed n ps K) e = not_ended e
  ended (attribute_named a n ps K) e = not_ended e
  ended (equals a n ps K) e = not_ended e
  ended (in_string q w a n ps K) e = not_ended e
  ended (in_entity f x) e = not_ended e
  ended (spread_opened n ps K) e = not_ended e
  ended (one_point h K) e = not_ended e
  ended (two_points h K) e = not_ended e
  ended (braces_opened h K) e = not_ended e
  ended (in_source d w h K) e = not_ended e
  ended (in_quotes q d w h K) e = not_ended e
  ended (behind_tag x h K) e = not_ended e
  ended (in_children n ps ks K) e = not_ended e
  ended (in_text w n ps ks K) e = not_ended e
  ended (closing n ps ks K) e = not_ended e
  ended (close_named m n ps ks K) e = not_ended e
  ended (done x) e = (refl, cc)
  ended refused e = not_ended e

  means : (s : Bytes) (x : State) → outcome x s ≡ read t → Means t x s
  unfolding outcome
  means [] x e = ended x e
  means (c ∷ s) x e = back x c s (means s (step x c) e)

  pub sound : (s : Bytes) → outcome start s ≡ read t → IsTag s t []
  unfolding Means Rest
  sound s e = on (means s start e)
    where
      on : TagThen (Rest t []) s → IsTag s t []
      on (tag_then {x} {r} i k) = subst (λ (z : Bytes). IsTag s t z) k.0 (subst (λ (y : Tag). IsTag s y r) k.1 i)
