-- Whatever the grammar has is read, and read as the grammar has it: each production leads the reader from one state to another, whatever
-- stands around it. Main statements: `tag_read`, `attribute_one`, `child_one`, `expr_read`, `complete`. Assumes nothing.
use Prim.Native.Nat.{ℕ, zero, suc}
use mathlib.Core.Path.{◌≡◌, refl, sym, ◌∙◌, ap, subst}
use mathlib.Core.Bool.{Bool, ◌||◌, not}
use mathlib.Core.List.{[], ◌∷◌, ◌++◌, append-nil, append_assoc}
use lib.Dec.{T, eqb, eqb_refl, not_T}
use Rattle.std.specs.Prelude.{Option}
use Rattle.field.specs.Bytes.{Bytes}
use Rattle.grammar.specs.Signs.{snoc, choose, letter, name_byte, separator, space, name_goes_on, equals_sign, text_byte, string_byte, entity_byte, quote, quoted_byte, source_byte, source_start}
use Rattle.grammar.specs.Known.{Known, known_of, entity_of}
use Rattle.grammar.specs.Syntax.{part, Name, tag_name_fits, attribute_name_fits, Tag, tag, Attributes, no_attributes, Attribute, no_value, string_value, container_value, tag_value, spread_attribute, Children, no_children, Child, text_child, empty_child, Expr, tag_expr, join_attributes, join_children, add_attribute, add_child}
use Rattle.grammar.specs.Grammar.{Ends, Run, run_ends, run_on, Decoded, decoded_ends, decoded_on, entity, Spaces, no_space, space_on, IsIdent, ident, IsParts, no_parts, one_part, IsName, is_name, IsSource, source_ends, source_on, quotes, braces, Closing, closing_name, closing_fragment, IsTag, is_alone, is_around, is_fragment, IsAttributes, are_no_attributes, are_attributes, IsAttribute, is_no_value, is_string_value, is_container_value, is_tag_value, is_spread_attribute, IsChildren, are_no_children, are_children, IsChild, is_text_child, is_tag_child, is_empty_child, is_container_child, is_spread_child, IsExpr, is_tag_expr, is_known_expr}
use Rattle.grammar.specs.Reader.{Braces, child_braces, spread_child_braces, value_braces, spread_braces, within, value_of, in_braces, Stack, For, for_tag, for_attribute, for_closing, Of, of_text, of_string, State, start, opened, in_ident, behind_ident, behind_sep, in_tag, slashed, attribute_named, equals, in_string, in_entity, spread_opened, braces_opened, in_source, in_quotes, behind_tag, in_children, in_text, closing, close_named, refused, closed, filled, filled_if, emptied, pointed, close_of, brace_ends, resumed, resumed_if, fits, named, step_tag, step_attribute_named, step_close_named, step_of_named, step_behind, step_source, step_children, step, read, no_reading, at_end, outcome}
use Rattle.grammar.proofs.Tests.{at_eq, chose, passed, not_or, letter_no_space, quote_is, quote_no_source, quote_no_space, quote_no_amp, separator_no_space, end_quote, end_string, no_text_no_amp, join_attributes_none, join_attributes_one, join_children_none, join_children_one}

-- ---- one byte, white space, a run, a run with entities

pub go : (x y : State) (c : ℕ) (s : Bytes) → step x c ≡ y → outcome x (c ∷ s) ≡ outcome y s
unfolding outcome
go x y c s e = ap (λ (z : State). outcome z s) e

pub skip : (x : State) → ((c : ℕ) → T (space c) → step x c ≡ x) → {s r : Bytes} → Spaces s r → outcome x s ≡ outcome x r
skip x k no_space = refl
skip x k (space_on {c} {s} u p) = go x x c s (k c u) ∙ skip x k p

-- a run through the states x, left as y would have it
module _ (p : ℕ → Bool) (x y : Bytes → State) (off : (w : Bytes) (c : ℕ) → T (not (p c)) → step (x w) c ≡ step (y w) c) (stop : (w : Bytes) → at_end (x w) ≡ at_end (y w)) where
  left : (s w : Bytes) → Ends p s → outcome (x w) s ≡ outcome (y w) s
  unfolding Ends outcome
  left [] w e = stop w
  left (c ∷ s) w e = ap (λ (z : State). outcome z s) (off w c e)

  pub through : ((w : Bytes) (c : ℕ) → T (p c) → step (x w) c ≡ x (snoc w c)) → {s w r : Bytes} → Run p s w r → (v : Bytes) → outcome (x v) s ≡ outcome (y (v ++ w)) r
  through on (run_ends {s} e) v = left s v e ∙ ap (λ (z : Bytes). outcome (y z) s) (sym (append-nil v))
  through on (run_on {c} {s} {w} {r} u q) v = go (x v) (x (snoc v c)) c s (on v c u) ∙ through on q (snoc v c) ∙ ap (λ (z : Bytes). outcome (y z) r) (append_assoc v (c ∷ []) w)

pub entity_read : (x : Of) {s e r : Bytes} → Run entity_byte s e r → outcome (in_entity [] x) s ≡ outcome (in_entity e x) r
unfolding step entity_byte
entity_read x q = through entity_byte (λ v. in_entity v x) (λ v. in_entity v x) (λ v c t. refl) (λ v. refl) (λ v c t. passed (eqb c 59) _ _ t) q []

pub entity_ends : (x : Of) (e s : Bytes) → outcome (in_entity e x) (59 ∷ s) ≡ outcome (resumed_if x (entity_of e)) s
unfolding outcome step choose
entity_ends x e s = refl

module _ (p : ℕ → Bool) (x y : Bytes → State) (z : Bytes → Of) (off : (w : Bytes) (c : ℕ) → T (not (p c)) → step (x w) c ≡ step (y w) c) (stop : (w : Bytes) → at_end (x w) ≡ at_end (y w)) (on : (w : Bytes) (c : ℕ) → T (p c) → T (not (eqb c 38)) → step (x w) c ≡ x (snoc w c)) (amp : (w : Bytes) → step (x w) 38 ≡ in_entity [] (z w)) (resumes : (w : Bytes) (d : ℕ) → resumed (z w) d ≡ x (snoc w d)) where
  decode : {s w r : Bytes} → Decoded p s w r → (v : Bytes) → outcome (x v) s ≡ outcome (y (v ++ w)) r
  unfolding resumed_if
  decode (decoded_ends {s} e) v = left p x y off stop s v e ∙ ap (λ (z : Bytes). outcome (y z) s) (sym (append-nil v))
  decode (decoded_on {c} {s} {w} {r} u n q) v = go (x v) (x (snoc v c)) c s (on v c u n) ∙ decode q (snoc v c) ∙ ap (λ (z : Bytes). outcome (y z) r) (append_assoc v (c ∷ []) w)
  decode (entity {s} {e} {s'} {w} {r} {d} q i k) v =
      go (x v) (in_entity [] (z v)) 38 s (amp v) ∙
      entity_read (z v) q ∙
      entity_ends (z v) e s' ∙
      ap (λ (f : Option ℕ). outcome (resumed_if (z v) f) s') i ∙
      ap (λ (f : State). outcome f s') (resumes v d) ∙
      decode k (snoc v d) ∙
      ap (λ (z : Bytes). outcome (y z) r) (append_assoc v (d ∷ []) w)

pub refused_never : (s : Bytes) → outcome refused s ≡ no_reading
unfolding outcome at_end step
refused_never [] = refl
refused_never (c ∷ s) = refused_never s

-- ---- white space at each place
pub skip_opened : (K : Stack) {s r : Bytes} → Spaces s r → outcome (opened K) s ≡ outcome (opened K) r
unfolding step
skip_opened K = skip (opened K) (λ c u. chose (space c) _ _ u)

pub skip_behind : (m : Name) (x : For) {s r : Bytes} → Spaces s r → outcome (behind_ident m x) s ≡ outcome (behind_ident m x) r
unfolding step step_behind
skip_behind m x = skip (behind_ident m x) (λ c u. chose (space c) _ _ u)

pub skip_sep : (m : Name) (d : ℕ) (x : For) {s r : Bytes} → Spaces s r → outcome (behind_sep m d x) s ≡ outcome (behind_sep m d x) r
unfolding step
skip_sep m d x = skip (behind_sep m d x) (λ c u. chose (space c) _ _ u)

pub skip_tag : (n : Name) (ps : Attributes) (K : Stack) {s r : Bytes} → Spaces s r → outcome (in_tag n ps K) s ≡ outcome (in_tag n ps K) r
unfolding step step_tag
skip_tag n ps K = skip (in_tag n ps K) (λ c u. chose (space c) _ _ u)

pub skip_slashed : (n : Name) (ps : Attributes) (K : Stack) {s r : Bytes} → Spaces s r → outcome (slashed n ps K) s ≡ outcome (slashed n ps K) r
unfolding step
skip_slashed n ps K = skip (slashed n ps K) (λ c u. chose (space c) _ _ u)

pub skip_equals : (a n : Name) (ps : Attributes) (K : Stack) {s r : Bytes} → Spaces s r → outcome (equals a n ps K) s ≡ outcome (equals a n ps K) r
unfolding step
skip_equals a n ps K = skip (equals a n ps K) (λ c u. chose (space c) _ _ u)

pub skip_spread : (n : Name) (ps : Attributes) (K : Stack) {s r : Bytes} → Spaces s r → outcome (spread_opened n ps K) s ≡ outcome (spread_opened n ps K) r
unfolding step
skip_spread n ps K = skip (spread_opened n ps K) (λ c u. chose (space c) _ _ u)

pub skip_braces : (h : Braces) (K : Stack) {s r : Bytes} → Spaces s r → outcome (braces_opened h K) s ≡ outcome (braces_opened h K) r
unfolding step
skip_braces h K = skip (braces_opened h K) (λ c u. chose (space c) _ _ u)

pub skip_behind_tag : (t : Tag) (h : Braces) (K : Stack) {s r : Bytes} → Spaces s r → outcome (behind_tag t h K) s ≡ outcome (behind_tag t h K) r
unfolding step
skip_behind_tag t h K = skip (behind_tag t h K) (λ c u. chose (space c) _ _ u)

pub skip_closing : (n : Name) (ps : Attributes) (ks : Children) (K : Stack) {s r : Bytes} → Spaces s r → outcome (closing n ps ks K) s ≡ outcome (closing n ps ks K) r
unfolding step
skip_closing n ps ks K = skip (closing n ps ks K) (λ c u. chose (space c) _ _ u)

pub skip_close_named : (m n : Name) (ps : Attributes) (ks : Children) (K : Stack) {s r : Bytes} → Spaces s r → outcome (close_named m n ps ks K) s ≡ outcome (close_named m n ps ks K) r
unfolding step step_close_named
skip_close_named m n ps ks K = skip (close_named m n ps ks K) (λ c u. chose (space c) _ _ u)

-- ---- names
pub ident_read : (m : Name) (d : ℕ) (x : For) (y : State) → ((c : ℕ) → T (letter c) → step y c ≡ in_ident m d (c ∷ []) x) → {s w r : Bytes} → IsIdent s w r → outcome y s ≡ outcome (behind_ident (m ++ (part d w ∷ [])) x) r
unfolding step
ident_read m d x y o (ident {c} {s} u q) =
    go y (in_ident m d (c ∷ []) x) c s (o c u) ∙
    through name_byte (λ v. in_ident m d v x) (λ v. behind_ident (m ++ (part d v ∷ [])) x) (λ v e t. passed (name_byte e) _ _ t) (λ v. unfold at_end in refl) (λ v e t. chose (name_byte e) _ _ t) q (c ∷ [])

step_named : (x : For) (m : Name) (c : ℕ) → step_of_named x m c ≡ step (named x m) c
unfolding step step_of_named named
step_named (for_tag K) m c = refl
step_named (for_attribute n ps K) m c = refl
step_named (for_closing n ps ks K) m c = refl

end_named : (x : For) (m : Name) → no_reading ≡ at_end (named x m)
unfolding at_end named
end_named (for_tag K) m = refl
end_named (for_attribute n ps K) m = refl
end_named (for_closing n ps ks K) m = refl

pub name_leaves : (s : Bytes) (m : Name) (x : For) → T (fits x m) → Ends name_goes_on s → outcome (behind_ident m x) s ≡ outcome (named x m) s
unfolding Ends outcome step step_behind name_goes_on at_end
name_leaves [] m x f e = end_named x m
name_leaves (c ∷ s) m x f e =
    let g = not_or (space c) (separator c) e in
    ap (λ (z : State). outcome z s) (passed (space c) _ _ g.0 ∙ passed (separator c) _ _ g.1 ∙ chose (fits x m) _ _ f ∙ step_named x m c)

separator_goes : (m : Name) (d : ℕ) (x : For) → T (separator d) → step (behind_ident m x) d ≡ behind_sep m d x
unfolding step step_behind
separator_goes m d x u = passed (space d) _ _ (separator_no_space d u) ∙ chose (separator d) _ _ u

part_begins : (m : Name) (d : ℕ) (x : For) (c : ℕ) → T (letter c) → step (behind_sep m d x) c ≡ in_ident m d (c ∷ []) x
unfolding step
part_begins m d x c u = passed (space c) _ _ (letter_no_space c u) ∙ chose (letter c) _ _ u

pub parts_read : {s r : Bytes} {ps : Name} → IsParts s ps r → (m : Name) (x : For) → T (fits x (m ++ ps)) → outcome (behind_ident m x) s ≡ outcome (named x (m ++ ps)) r
parts_read (no_parts {r = r} p e) m x f =
    skip_behind m x p ∙ name_leaves r m x (subst (λ (z : Name). T (fits x z)) (append-nil m) f) e ∙ ap (λ (z : Name). outcome (named x z) r) (sym (append-nil m))
parts_read (one_part {s₁ = s₁} {w = w} {r = r} {d} {ps} p u q i k) m x f =
    skip_behind m x p ∙
    go (behind_ident m x) (behind_sep m d x) d s₁ (separator_goes m d x u) ∙
    skip_sep m d x q ∙
    ident_read m d x (behind_sep m d x) (part_begins m d x) i ∙
    parts_read k (m ++ (part d w ∷ [])) x (subst (λ (z : Name). T (fits x z)) (sym (append_assoc m (part d w ∷ []) ps)) f) ∙
    ap (λ (z : Name). outcome (named x z) r) (append_assoc m (part d w ∷ []) ps)

pub name_read : (x : For) (y : State) → ((c : ℕ) → T (letter c) → step y c ≡ in_ident [] 0 (c ∷ []) x) → {s r : Bytes} {n : Name} → IsName s n r → T (fits x n) → outcome y s ≡ outcome (named x n) r
name_read x y o (is_name {w = w} i k) f = ident_read [] 0 x y o i ∙ parts_read k (part 0 w ∷ []) x f

pub tag_named : (K : Stack) {s r : Bytes} {n : Name} → IsName s n r → T (tag_name_fits n) → outcome (opened K) s ≡ outcome (in_tag n no_attributes K) r
unfolding step fits named
tag_named K = name_read (for_tag K) (opened K) (λ c u. passed (space c) _ _ (letter_no_space c u) ∙ chose (letter c) _ _ u)

pub attribute_read : (n : Name) (ps : Attributes) (K : Stack) {s r : Bytes} {a : Name} → IsName s a r → T (attribute_name_fits a) → outcome (in_tag n ps K) s ≡ outcome (attribute_named a n ps K) r
unfolding step step_tag fits named
attribute_read n ps K = name_read (for_attribute n ps K) (in_tag n ps K) (λ c u. passed (space c) _ _ (letter_no_space c u) ∙ chose (letter c) _ _ u)

pub close_read : (n : Name) (ps : Attributes) (ks : Children) (K : Stack) {s r : Bytes} {m : Name} → IsName s m r → T (tag_name_fits m) → outcome (closing n ps ks K) s ≡ outcome (close_named m n ps ks K) r
unfolding step fits named
close_read n ps ks K = name_read (for_closing n ps ks K) (closing n ps ks K) (λ c u. passed (space c) _ _ (letter_no_space c u) ∙ chose (letter c) _ _ u)

-- ---- single bytes
module _ (n : Name) (ps : Attributes) (K : Stack) (s : Bytes) where
  at_slash : outcome (in_tag n ps K) (47 ∷ s) ≡ outcome (slashed n ps K) s
  unfolding outcome step step_tag choose space letter
  at_slash = refl

  at_greater : outcome (in_tag n ps K) (62 ∷ s) ≡ outcome (in_children n ps no_children K) s
  unfolding outcome step step_tag choose space letter
  at_greater = refl

  at_brace : outcome (in_tag n ps K) (123 ∷ s) ≡ outcome (spread_opened n ps K) s
  unfolding outcome step step_tag choose space letter
  at_brace = refl

  slash_greater : outcome (slashed n ps K) (62 ∷ s) ≡ outcome (closed (tag n ps no_children n) K) s
  unfolding outcome step choose space
  slash_greater = refl

  spread_points : outcome (spread_opened n ps K) (46 ∷ 46 ∷ 46 ∷ s) ≡ outcome (braces_opened (spread_braces n ps) K) s
  unfolding outcome step choose space
  spread_points = refl

  at_equals : (a : Name) → outcome (attribute_named a n ps K) (61 ∷ s) ≡ outcome (equals a n ps K) s
  unfolding outcome step step_attribute_named choose
  at_equals a = refl

  equals_brace : (a : Name) → outcome (equals a n ps K) (123 ∷ s) ≡ outcome (braces_opened (value_braces a n ps) K) s
  unfolding outcome step choose space quote
  equals_brace a = refl

  children_brace : (ks : Children) → outcome (in_children n ps ks K) (123 ∷ s) ≡ outcome (braces_opened (child_braces n ps ks) K) s
  unfolding outcome step step_children choose text_byte
  children_brace ks = refl

  child_points : (ks : Children) → outcome (braces_opened (child_braces n ps ks) K) (46 ∷ 46 ∷ 46 ∷ s) ≡ outcome (braces_opened (spread_child_braces n ps ks) K) s
  unfolding outcome step choose space pointed
  child_points ks = refl

  close_begins : (ks : Children) → outcome (in_children n ps ks K) (60 ∷ s) ≡ outcome (opened (within n ps ks ∷ K)) s
  unfolding outcome step step_children choose text_byte
  close_begins ks = refl

  close_goes : (ks : Children) → outcome (opened (within n ps ks ∷ K)) (47 ∷ s) ≡ outcome (closing n ps ks K) s
  unfolding outcome step choose close_of space letter
  close_goes ks = refl

  close_ends : (ks : Children) (m : Name) → outcome (close_named m n ps ks K) (62 ∷ s) ≡ outcome (closed (tag n ps ks m) K) s
  unfolding outcome step step_close_named choose space
  close_ends ks m = refl

  close_ends_empty : (ks : Children) → outcome (closing n ps ks K) (62 ∷ s) ≡ outcome (closed (tag n ps ks []) K) s
  unfolding outcome step choose space letter
  close_ends_empty ks = refl

  braces_empty : (ks : Children) → outcome (braces_opened (child_braces n ps ks) K) (125 ∷ s) ≡ outcome (in_children n ps (add_child ks empty_child) K) s
  unfolding outcome step choose space emptied
  braces_empty ks = refl

pub fragment_opens : (K : Stack) (s : Bytes) → outcome (opened K) (62 ∷ s) ≡ outcome (in_children [] no_attributes no_children K) s
unfolding outcome step choose space letter
fragment_opens K s = refl

pub tag_braces_ends : (t : Tag) (h : Braces) (K : Stack) (s : Bytes) → outcome (behind_tag t h K) (125 ∷ s) ≡ outcome (filled (tag_expr t) h K) s
unfolding outcome step choose space
tag_braces_ends t h K s = refl

pub source_ends_at : (w : Bytes) (h : Braces) (K : Stack) (s : Bytes) → outcome (in_source zero w h K) (125 ∷ s) ≡ outcome (filled_if (known_of w) h K) s
unfolding outcome step step_source choose source_byte quote brace_ends
source_ends_at w h K s = refl

pub brace_opens : (d : ℕ) (w : Bytes) (h : Braces) (K : Stack) (s : Bytes) → outcome (in_source d w h K) (123 ∷ s) ≡ outcome (in_source (suc d) (snoc w 123) h K) s
unfolding outcome step step_source choose source_byte quote
brace_opens d w h K s = refl

pub brace_closes : (d : ℕ) (w : Bytes) (h : Braces) (K : Stack) (s : Bytes) → outcome (in_source (suc d) w h K) (125 ∷ s) ≡ outcome (in_source d (snoc w 125) h K) s
unfolding outcome step step_source choose source_byte quote brace_ends
brace_closes d w h K s = refl

-- ---- source text
pub sourced : {s w r : Bytes} → IsSource s w r → (d : ℕ) (v : Bytes) (h : Braces) (K : Stack) → outcome (in_source d v h K) s ≡ outcome (in_source d (v ++ w) h K) r
unfolding step step_source
sourced (source_ends {s}) d v h K = ap (λ (z : Bytes). outcome (in_source d z h K) s) (sym (append-nil v))
sourced (source_on {c} {s} {w} {r} u p) d v h K =
    go (in_source d v h K) (in_source d (snoc v c) h K) c s (chose (source_byte c) _ _ u) ∙
    sourced p d (snoc v c) h K ∙
    ap (λ (z : Bytes). outcome (in_source d z h K) r) (append_assoc v (c ∷ []) w)
sourced (quotes {q} {s} {w} {s'} {v = x} {r} u p k) d v h K =
    go (in_source d v h K) (in_quotes q d (snoc v q) h K) q s (passed (source_byte q) _ _ (quote_no_source q u) ∙ chose (quote q) _ _ u) ∙
    through (quoted_byte q) (λ z. in_quotes q d z h K) (λ z. in_quotes q d z h K) (λ z c t. refl) (λ z. refl) (λ z c t. chose (quoted_byte q c) _ _ t) p (snoc v q) ∙
    go (in_quotes q d (snoc v q ++ w) h K) (in_source d (snoc (snoc v q ++ w) q) h K) q s' (passed (quoted_byte q q) _ _ (end_quote q) ∙ chose (eqb q q) _ _ (eqb_refl q)) ∙
    sourced k d (snoc (snoc v q ++ w) q) h K ∙
    ap (λ (z : Bytes). outcome (in_source d z h K) r) (simp append_assoc)
sourced (braces {s} {w} {s'} {v = x} {r} p k) d v h K =
    brace_opens d v h K s ∙
    sourced p (suc d) (snoc v 123) h K ∙
    brace_closes d (snoc v 123 ++ w) h K s' ∙
    sourced k d (snoc (snoc v 123 ++ w) 125) h K ∙
    ap (λ (z : Bytes). outcome (in_source d z h K) r) (simp append_assoc)

pub closing_read : {s r : Bytes} {m : Name} → Closing s m r → (n : Name) (ps : Attributes) (ks : Children) (K : Stack) → outcome (in_children n ps ks K) s ≡ outcome (closed (tag n ps ks m) K) r
closing_read (closing_name {s} {s₁} {r = r} {m} p q nm f e) n ps ks K =
    close_begins n ps K s ks ∙ skip_opened (within n ps ks ∷ K) p ∙ close_goes n ps K s₁ ks ∙ skip_closing n ps ks K q ∙ close_read n ps ks K nm f ∙ skip_close_named m n ps ks K e ∙ close_ends n ps K r ks m
closing_read (closing_fragment {s} {s₁} {r} p q) n ps ks K =
    close_begins n ps K s ks ∙ skip_opened (within n ps ks ∷ K) p ∙ close_goes n ps K s₁ ks ∙ skip_closing n ps ks K q ∙ close_ends_empty n ps K r ks

-- ---- an attribute without a value: what follows is read as in the tag
pub no_value_leaves : (s : Bytes) (a n : Name) (ps : Attributes) (K : Stack) → Ends equals_sign s → outcome (attribute_named a n ps K) s ≡ outcome (in_tag n (add_attribute ps (no_value a)) K) s
unfolding Ends outcome at_end step step_attribute_named equals_sign
no_value_leaves [] a n ps K e = refl
no_value_leaves (c ∷ s) a n ps K e = ap (λ (z : State). outcome z s) (passed (eqb c 61) _ _ e)

-- ---- source text begins neither with `<` nor with `}`
NotEmpty : Bytes → Type 0
NotEmpty [] = ⊥
NotEmpty (c ∷ w) = Unit {0}

unfoldable pub Begins : Bytes → Type 0
Begins [] = Unit {0}
Begins (c ∷ s) = T (not (eqb c 60)) × T (not (eqb c 125))

source_byte_begins : (c : ℕ) → T (source_byte c) → T (not (eqb c 60)) × T (not (eqb c 125))
unfolding source_byte
source_byte_begins c u =
    (not_T (eqb c 60) (λ t. at_eq (λ (d : ℕ). T (source_byte d) → ⊥) c 60 t (λ x. x) u), not_T (eqb c 125) (λ t. at_eq (λ (d : ℕ). T (source_byte d) → ⊥) c 125 t (λ x. x) u))

source_begins : {s w r : Bytes} → IsSource s w r → NotEmpty w → Begins s
unfolding NotEmpty Begins
source_begins source_ends e = absurd e
source_begins (source_on {c} u p) e = source_byte_begins c u
source_begins (quotes {q} u p k) e = quote_is (λ (d : ℕ). T (not (eqb d 60)) × T (not (eqb d 125))) q u (tt, tt) (tt, tt)
source_begins (braces p k) e = (tt, tt)

pub braces_source : (c : ℕ) (s : Bytes) (h : Braces) (K : Stack) → T (source_start c) → Begins (c ∷ s) → outcome (braces_opened h K) (c ∷ s) ≡ outcome (in_source zero [] h K) (c ∷ s)
unfolding outcome step Begins
braces_source c s h K u b =
    let f = starts c u in
    ap (λ (z : State). outcome z s) (passed (space c) _ _ f.0 ∙ passed (eqb c 60) _ _ b.0 ∙ passed (eqb c 125) _ _ b.1 ∙ passed (eqb c 46) _ _ f.1 ∙ chose (source_start c) _ _ u)
  where
    starts : (c : ℕ) → T (source_start c) → T (not (space c)) × T (not (eqb c 46))
    starts c u =
        let a = not_or (space c || eqb c 46) (eqb c 91) (unfold source_start in u) in
        not_or (space c) (eqb c 46) a.0

children_as_text : {s v r : Bytes} → Decoded text_byte s v r → NotEmpty v → (n : Name) (ps : Attributes) (ks : Children) (K : Stack) → outcome (in_children n ps ks K) s ≡ outcome (in_text [] n ps ks K) s
unfolding outcome step step_children NotEmpty choose
children_as_text (decoded_ends e) u n ps ks K = absurd u
children_as_text (decoded_on {c} {s} t a q) u n ps ks K = ap (λ (z : State). outcome z s) (passed (eqb c 38) _ _ a ∙ chose (text_byte c) _ _ t ∙ sym (passed (eqb c 38) _ _ a ∙ chose (text_byte c) _ _ t))
children_as_text (entity q i k) u n ps ks K = refl

pub text_read : (n : Name) (ps : Attributes) (ks : Children) (K : Stack) (c : ℕ) {s w r : Bytes} → Decoded text_byte s (c ∷ w) r → outcome (in_children n ps ks K) s ≡ outcome (in_children n ps (add_child ks (text_child (c ∷ w))) K) r
unfolding step NotEmpty
text_read n ps ks K c q =
    children_as_text q tt n ps ks K ∙
    decode text_byte (λ v. in_text v n ps ks K) (λ v. in_children n ps (add_child ks (text_child v)) K) (λ v. of_text v n ps ks K) (λ v d t. passed (eqb d 38) _ _ (no_text_no_amp d t) ∙ passed (text_byte d) _ _ t) (λ v. unfold at_end in refl) (λ v d t a. passed (eqb d 38) _ _ a ∙ chose (text_byte d) _ _ t) (λ v. unfold choose in refl) (λ v d. unfold resumed in refl) q []

pub string_read : (q : ℕ) (a n : Name) (ps : Attributes) (K : Stack) {s w r : Bytes} → Decoded (string_byte q) s w r → outcome (in_string q [] a n ps K) s ≡ outcome (in_string q w a n ps K) r
unfolding step
string_read q a n ps K k =
    decode (string_byte q) (λ v. in_string q v a n ps K) (λ v. in_string q v a n ps K) (λ v. of_string q v a n ps K) (λ v d t. refl) (λ v. refl) (λ v d t u. passed (eqb d 38) _ _ u ∙ chose (string_byte q d) _ _ t) (λ v. unfold choose in refl) (λ v d. unfold resumed in refl) k []

pub string_opens : (q : ℕ) (a n : Name) (ps : Attributes) (K : Stack) → T (quote q) → step (equals a n ps K) q ≡ in_string q [] a n ps K
unfolding step
string_opens q a n ps K u = passed (space q) _ _ (quote_no_space q u) ∙ chose (quote q) _ _ u

pub string_ends : (q : ℕ) (w : Bytes) (a n : Name) (ps : Attributes) (K : Stack) → T (quote q) → step (in_string q w a n ps K) q ≡ in_tag n (add_attribute ps (string_value a w)) K
unfolding step
string_ends q w a n ps K u = passed (eqb q 38) _ _ (quote_no_amp q u) ∙ passed (string_byte q q) _ _ (end_string q)

equals_tag : (a n : Name) (ps : Attributes) (K : Stack) → step (equals a n ps K) 60 ≡ opened (value_of a n ps ∷ K)
unfolding step choose space quote
equals_tag a n ps K = refl

children_tag : (n : Name) (ps : Attributes) (ks : Children) (K : Stack) → step (in_children n ps ks K) 60 ≡ opened (within n ps ks ∷ K)
unfolding step step_children choose text_byte
children_tag n ps ks K = refl

braces_tag : (h : Braces) (K : Stack) → step (braces_opened h K) 60 ≡ opened (in_braces h ∷ K)
unfolding step choose space
braces_tag h K = refl

-- ---- the grammar
mutual
  unfolding closed filled filled_if join_attributes join_children NotEmpty

  pub tag_read : {s r : Bytes} {t : Tag} → IsTag s t r → (x : State) (K : Stack) → step x 60 ≡ opened K → outcome x s ≡ outcome (closed t K) r
  tag_read (is_alone {s} {s₄ = s₄} {r} {n} {ps} p nm f q a e) x K o =
      go x (opened K) 60 s o ∙ skip_opened K p ∙ tag_named K nm f ∙ skip_tag n no_attributes K q ∙ attributes_read a n no_attributes K ∙ at_slash n ps K s₄ ∙ skip_slashed n ps K e ∙ slash_greater n ps K r
  tag_read (is_around {s} {s₄ = s₄} {n = n} {ps = ps} {ks} p nm f q a k c) x K o =
      go x (opened K) 60 s o ∙ skip_opened K p ∙ tag_named K nm f ∙ skip_tag n no_attributes K q ∙ attributes_read a n no_attributes K ∙ at_greater n ps K s₄ ∙ children_read k n ps no_children K ∙ closing_read c n ps ks K
  tag_read (is_fragment {s} {s₁} {ks = ks} p k c) x K o =
      go x (opened K) 60 s o ∙ skip_opened K p ∙ fragment_opens K s₁ ∙ children_read k [] no_attributes no_children K ∙ closing_read c [] no_attributes ks K

  pub attributes_read : {s r : Bytes} {qs : Attributes} → IsAttributes s qs r → (n : Name) (ps : Attributes) (K : Stack) → outcome (in_tag n ps K) s ≡ outcome (in_tag n (join_attributes ps qs) K) r
  attributes_read (are_no_attributes {s}) n ps K = ap (λ (z : Attributes). outcome (in_tag n z K) s) (sym (join_attributes_none ps))
  attributes_read (are_attributes {r = r} {a} {ps = qs} p q) n ps K =
      attribute_one p n ps K ∙ attributes_read q n (add_attribute ps a) K ∙ ap (λ (z : Attributes). outcome (in_tag n z K) r) (join_attributes_one ps a qs)

  pub attribute_one : {s r : Bytes} {a : Attribute} → IsAttribute s a r → (n : Name) (ps : Attributes) (K : Stack) → outcome (in_tag n ps K) s ≡ outcome (in_tag n (add_attribute ps a) K) r
  attribute_one (is_no_value {s₁ = s₁} {a = a} nm f e p) n ps K = attribute_read n ps K nm f ∙ no_value_leaves s₁ a n ps K e ∙ skip_tag n (add_attribute ps (no_value a)) K p
  attribute_one (is_string_value {s₁ = s₁} {s₂} {w} {s₃} {q = q} {a} nm f p u k e) n ps K =
      attribute_read n ps K nm f ∙ at_equals n ps K s₁ a ∙ skip_equals a n ps K p ∙ go (equals a n ps K) (in_string q [] a n ps K) q s₂ (string_opens q a n ps K u) ∙ string_read q a n ps K k ∙ go (in_string q w a n ps K) (in_tag n (add_attribute ps (string_value a w)) K) q s₃ (string_ends q w a n ps K u) ∙ skip_tag n (add_attribute ps (string_value a w)) K e
  attribute_one (is_container_value {s₁ = s₁} {s₂} {a = a} {b} nm f p i e) n ps K =
      attribute_read n ps K nm f ∙ at_equals n ps K s₁ a ∙ skip_equals a n ps K p ∙ equals_brace n ps K s₂ a ∙ expr_read i (value_braces a n ps) K ∙ skip_tag n (add_attribute ps (container_value a b)) K e
  attribute_one (is_tag_value {s₁ = s₁} {a = a} {t} nm f p i e) n ps K =
      attribute_read n ps K nm f ∙ at_equals n ps K s₁ a ∙ skip_equals a n ps K p ∙ tag_read i (equals a n ps K) (value_of a n ps ∷ K) (equals_tag a n ps K) ∙ skip_tag n (add_attribute ps (tag_value a t)) K e
  attribute_one (is_spread_attribute {s} {s₁} {b = b} p i e) n ps K =
      at_brace n ps K s ∙ skip_spread n ps K p ∙ spread_points n ps K s₁ ∙ expr_read i (spread_braces n ps) K ∙ skip_tag n (add_attribute ps (spread_attribute b)) K e

  pub children_read : {s r : Bytes} {qs : Children} → IsChildren s qs r → (n : Name) (ps : Attributes) (ks : Children) (K : Stack) → outcome (in_children n ps ks K) s ≡ outcome (in_children n ps (join_children ks qs) K) r
  children_read (are_no_children {s}) n ps ks K = ap (λ (z : Children). outcome (in_children n ps z K) s) (sym (join_children_none ks))
  children_read (are_children {r = r} {k} {ks = qs} p q) n ps ks K =
      child_one p n ps ks K ∙ children_read q n ps (add_child ks k) K ∙ ap (λ (z : Children). outcome (in_children n ps z K) r) (join_children_one ks k qs)

  pub child_one : {s r : Bytes} {k : Child} → IsChild s k r → (n : Name) (ps : Attributes) (ks : Children) (K : Stack) → outcome (in_children n ps ks K) s ≡ outcome (in_children n ps (add_child ks k) K) r
  child_one (is_text_child {c = c} q) n ps ks K = text_read n ps ks K c q
  child_one (is_tag_child t) n ps ks K = tag_read t (in_children n ps ks K) (within n ps ks ∷ K) (children_tag n ps ks K)
  child_one (is_empty_child {s} {r} p) n ps ks K = children_brace n ps K s ks ∙ skip_braces (child_braces n ps ks) K p ∙ braces_empty n ps K r ks
  child_one (is_container_child {s} b) n ps ks K = children_brace n ps K s ks ∙ expr_read b (child_braces n ps ks) K
  child_one (is_spread_child {s} {s₁} p b) n ps ks K = children_brace n ps K s ks ∙ skip_braces (child_braces n ps ks) K p ∙ child_points n ps K s₁ ks ∙ expr_read b (spread_child_braces n ps ks) K

  pub expr_read : {s r : Bytes} {b : Expr} → IsExpr s b r → (h : Braces) (K : Stack) → outcome (braces_opened h K) s ≡ outcome (filled b h K) r
  expr_read (is_tag_expr {r = r} {t} p q e) h K =
      skip_braces h K p ∙ tag_read q (braces_opened h K) (in_braces h ∷ K) (braces_tag h K) ∙ skip_behind_tag t h K e ∙ tag_braces_ends t h K r
  expr_read (is_known_expr {s₁ = s₁} {w} {r} {c} p u k i) h K =
      skip_braces h K p ∙ braces_source c s₁ h K u (source_begins k tt) ∙ sourced k zero [] h K ∙ source_ends_at (c ∷ w) h K r ∙ ap (λ (f : Option Known). outcome (filled_if f h K) r) i

-- the whole text
pub complete : {s : Bytes} {t : Tag} → IsTag s t [] → outcome start s ≡ read t
unfolding outcome at_end closed
complete p = tag_read p start [] (unfold step choose in refl)
