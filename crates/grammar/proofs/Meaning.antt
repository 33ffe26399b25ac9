-- What a state still waits for, in the words of the grammar: `Means t x s` says that the text s, read from the state x, ends the tag t. Assumes nothing.
use Prim.Native.Nat.{ℕ, zero, suc}
use mathlib.Core.Path.{◌≡◌}
use mathlib.Core.Bool.{Bool}
use mathlib.Core.List.{[], ◌∷◌, ◌++◌}
use lib.Dec.{T}
use Rattle.std.specs.Prelude.{Some}
use Rattle.field.specs.Bytes.{Bytes}
use Rattle.grammar.specs.Signs.{snoc, name_byte, equals_sign, text_byte, string_byte, entity_byte, quote, quoted_byte}
use Rattle.grammar.specs.Known.{Known, known_of, entity_of}
use Rattle.grammar.specs.Syntax.{part, Name, tag_name_fits, Tag, tag, Attributes, no_attributes, no_value, string_value, container_value, tag_value, spread_attribute, Children, no_children, text_child, tag_child, empty_child, container_child, spread_child, Expr, tag_expr, known_expr, join_attributes, join_children, add_attribute, add_child}
use Rattle.grammar.specs.Grammar.{Ends, Run, Decoded, Spaces, IsIdent, IsParts, IsName, IsSource, Closing, IsTag, IsAttributes, IsChildren, IsExpr}
use Rattle.grammar.specs.Reader.{Braces, child_braces, spread_child_braces, value_braces, spread_braces, within, value_of, in_braces, Stack, For, for_tag, for_attribute, for_closing, Of, of_text, of_string, State, start, opened, in_ident, behind_ident, behind_sep, in_tag, slashed, attribute_named, equals, in_string, in_entity, spread_opened, one_point, two_points, braces_opened, in_source, in_quotes, behind_tag, in_children, in_text, closing, close_named, done, refused, fits}

-- behind some children of an open tag
pub data AfterChildren (P : Tag → Bytes → Type 0) (n : Name) (ps : Attributes) (ks : Children) (s : Bytes) : Type 0 where
  after_children : {qs : Children} {s₁ r : Bytes} {m : Name} → IsChildren s qs s₁ → Closing s₁ m r → P (tag n ps (join_children ks qs) m) r → AfterChildren P n ps ks s

-- behind some attributes
pub data InTag (P : Tag → Bytes → Type 0) (n : Name) (ps : Attributes) (s : Bytes) : Type 0 where
  tag_alone : {qs : Attributes} {s₁ r : Bytes} → IsAttributes s qs (47 ∷ s₁) → Spaces s₁ (62 ∷ r) → P (tag n (join_attributes ps qs) no_children n) r → InTag P n ps s
  tag_around : {qs : Attributes} {s₁ : Bytes} → IsAttributes s qs (62 ∷ s₁) → AfterChildren P n (join_attributes ps qs) no_children s₁ → InTag P n ps s

pub data SpacedTag (P : Tag → Bytes → Type 0) (n : Name) (ps : Attributes) (s : Bytes) : Type 0 where
  spaced : {r : Bytes} → Spaces s r → InTag P n ps r → SpacedTag P n ps s

unfoldable pub Filled : (P : Tag → Bytes → Type 0) → Braces → Expr → Bytes → Type 0
Filled P (child_braces n ps ks) b s = AfterChildren P n ps (add_child ks (container_child b)) s
Filled P (spread_child_braces n ps ks) b s = AfterChildren P n ps (add_child ks (spread_child b)) s
Filled P (value_braces a n ps) b s = SpacedTag P n (add_attribute ps (container_value a b)) s
Filled P (spread_braces n ps) b s = SpacedTag P n (add_attribute ps (spread_attribute b)) s

unfoldable pub Emptied : (P : Tag → Bytes → Type 0) → Braces → Bytes → Type 0
Emptied P (child_braces n ps ks) s = AfterChildren P n ps (add_child ks empty_child) s
Emptied P (spread_child_braces n ps ks) s = ⊥
Emptied P (value_braces a n ps) s = ⊥
Emptied P (spread_braces n ps) s = ⊥

unfoldable pub Pointed : (P : Tag → Bytes → Type 0) → Braces → Expr → Bytes → Type 0
Pointed P (child_braces n ps ks) b s = Filled P (spread_child_braces n ps ks) b s
Pointed P (spread_child_braces n ps ks) b s = ⊥
Pointed P (value_braces a n ps) b s = ⊥
Pointed P (spread_braces n ps) b s = ⊥

-- behind the closing name
pub data CloseNamed (P : Tag → Bytes → Type 0) (m n : Name) (ps : Attributes) (ks : Children) (s : Bytes) : Type 0 where
  close_spaced : {r : Bytes} → Spaces s (62 ∷ r) → P (tag n ps ks m) r → CloseNamed P m n ps ks s

-- behind `<` `/`
pub data ClosedBy (P : Tag → Bytes → Type 0) (n : Name) (ps : Attributes) (ks : Children) (s : Bytes) : Type 0 where
  by_name : {s₁ s₂ : Bytes} {m : Name} → Spaces s s₁ → IsName s₁ m s₂ → T (tag_name_fits m) → CloseNamed P m n ps ks s₂ → ClosedBy P n ps ks s
  by_nothing : {r : Bytes} → Spaces s (62 ∷ r) → P (tag n ps ks []) r → ClosedBy P n ps ks s

-- behind `<`; C is what is left behind `<` `/`
pub data Opened (P : Tag → Bytes → Type 0) (C : Bytes → Type 0) (s : Bytes) : Type 0 where
  opens_named : {s₁ s₂ : Bytes} {n : Name} → Spaces s s₁ → IsName s₁ n s₂ → T (tag_name_fits n) → SpacedTag P n no_attributes s₂ → Opened P C s
  opens_fragment : {s₁ : Bytes} → Spaces s (62 ∷ s₁) → AfterChildren P [] no_attributes no_children s₁ → Opened P C s
  opens_closing : {s₁ : Bytes} → Spaces s (47 ∷ s₁) → C s₁ → Opened P C s

-- in a name that has to fit F; N is what is left behind it
pub data BehindIdent (N : Name → Bytes → Type 0) (F : Name → Bool) (m : Name) (s : Bytes) : Type 0 where
  behind : {ps : Name} {r : Bytes} → IsParts s ps r → T (F (m ++ ps)) → N (m ++ ps) r → BehindIdent N F m s

pub data InIdent (N : Name → Bytes → Type 0) (F : Name → Bool) (m : Name) (d : ℕ) (w : Bytes) (s : Bytes) : Type 0 where
  ident_goes : {v s₁ : Bytes} → Run name_byte s v s₁ → BehindIdent N F (m ++ (part d (w ++ v) ∷ [])) s₁ → InIdent N F m d w s

pub data BehindSep (N : Name → Bytes → Type 0) (F : Name → Bool) (m : Name) (d : ℕ) (s : Bytes) : Type 0 where
  sep_goes : {s₁ w s₂ : Bytes} → Spaces s s₁ → IsIdent s₁ w s₂ → BehindIdent N F (m ++ (part d w ∷ [])) s₂ → BehindSep N F m d s

pub data InString (P : Tag → Bytes → Type 0) (q : ℕ) (w : Bytes) (a n : Name) (ps : Attributes) (s : Bytes) : Type 0 where
  string_on : {v s₁ : Bytes} → Decoded (string_byte q) s v (q ∷ s₁) → SpacedTag P n (add_attribute ps (string_value a (w ++ v))) s₁ → InString P q w a n ps s

pub data InText (P : Tag → Bytes → Type 0) (w : Bytes) (n : Name) (ps : Attributes) (ks : Children) (s : Bytes) : Type 0 where
  text_on : {v s₁ : Bytes} → Decoded text_byte s v s₁ → AfterChildren P n ps (add_child ks (text_child (w ++ v))) s₁ → InText P w n ps ks s

-- in an entity; R is what is left behind it
pub data InEntity (R : ℕ → Bytes → Type 0) (e : Bytes) (s : Bytes) : Type 0 where
  entity_goes : {f s₁ : Bytes} {d : ℕ} → Run entity_byte s f (59 ∷ s₁) → entity_of (e ++ f) ≡ Some d → R d s₁ → InEntity R e s

pub data Equals (P : Tag → Bytes → Type 0) (a n : Name) (ps : Attributes) (s : Bytes) : Type 0 where
  equals_string : {q : ℕ} {s₁ : Bytes} → Spaces s (q ∷ s₁) → T (quote q) → InString P q [] a n ps s₁ → Equals P a n ps s
  equals_container : {s₁ r : Bytes} {b : Expr} → Spaces s (123 ∷ s₁) → IsExpr s₁ b r → SpacedTag P n (add_attribute ps (container_value a b)) r → Equals P a n ps s
  equals_tag : {s₁ r : Bytes} {x : Tag} → Spaces s s₁ → IsTag s₁ x r → SpacedTag P n (add_attribute ps (tag_value a x)) r → Equals P a n ps s

pub data AttributeNamed (P : Tag → Bytes → Type 0) (a n : Name) (ps : Attributes) : Bytes → Type 0 where
  named_no_value : {s : Bytes} → Ends equals_sign s → SpacedTag P n (add_attribute ps (no_value a)) s → AttributeNamed P a n ps s
  named_value : {s : Bytes} → Equals P a n ps s → AttributeNamed P a n ps (61 ∷ s)

-- in a brace with nothing read of it but white space
pub data BracesOpened (P : Tag → Bytes → Type 0) (h : Braces) (s : Bytes) : Type 0 where
  braces_expr : (r : Bytes) (b : Expr) → IsExpr s b r → Filled P h b r → BracesOpened P h s
  braces_empty : (r : Bytes) → Spaces s (125 ∷ r) → Emptied P h r → BracesOpened P h s
  braces_points : {s₁ : Bytes} (r : Bytes) (b : Expr) → Spaces s (46 ∷ 46 ∷ 46 ∷ s₁) → IsExpr s₁ b r → Pointed P h b r → BracesOpened P h s

abbrev pub TwoPoints : (P : Tag → Bytes → Type 0) → Braces → Bytes → Type 0
TwoPoints P h s = (r : Bytes) × (s ≡ 46 ∷ r) × BracesOpened P h r

abbrev pub OnePoint : (P : Tag → Bytes → Type 0) → Braces → Bytes → Type 0
OnePoint P h s = (r : Bytes) × (s ≡ 46 ∷ 46 ∷ r) × BracesOpened P h r

pub data SpreadOpened (P : Tag → Bytes → Type 0) (n : Name) (ps : Attributes) (s : Bytes) : Type 0 where
  spread_goes : {s₁ r : Bytes} {b : Expr} → Spaces s (46 ∷ 46 ∷ 46 ∷ s₁) → IsExpr s₁ b r → SpacedTag P n (add_attribute ps (spread_attribute b)) r → SpreadOpened P n ps s

-- source text that closes d braces more than it opens, and then the brace
unfoldable pub SourceUp : ℕ → Bytes → Bytes → Bytes → Type 0
SourceUp zero s w r = IsSource s w (125 ∷ r)
SourceUp (suc d) s w r = (u s' v : Bytes) × IsSource s u (125 ∷ s') × SourceUp d s' v r × (w ≡ u ++ (125 ∷ v))

pub data InSource (P : Tag → Bytes → Type 0) (d : ℕ) (w : Bytes) (h : Braces) (s : Bytes) : Type 0 where
  in_the_source : (v r : Bytes) (k : Known) → SourceUp d s v r → known_of (w ++ v) ≡ Some k → Filled P h (known_expr k) r → InSource P d w h s

pub data InQuotes (P : Tag → Bytes → Type 0) (q d : ℕ) (w : Bytes) (h : Braces) (s : Bytes) : Type 0 where
  in_the_quotes : {v s₁ : Bytes} → Run (quoted_byte q) s v (q ∷ s₁) → InSource P d (snoc (w ++ v) q) h s₁ → InQuotes P q d w h s

pub data BehindTag (P : Tag → Bytes → Type 0) (x : Tag) (h : Braces) (s : Bytes) : Type 0 where
  braces_ends : {r : Bytes} → Spaces s (125 ∷ r) → Filled P h (tag_expr x) r → BehindTag P x h s

pub data Slashed (P : Tag → Bytes → Type 0) (x : Tag) (s : Bytes) : Type 0 where
  slash_spaced : {r : Bytes} → Spaces s (62 ∷ r) → P x r → Slashed P x s

pub data TagThen (P : Tag → Bytes → Type 0) (s : Bytes) : Type 0 where
  tag_then : {x : Tag} {r : Bytes} → IsTag s x r → P x r → TagThen P s

-- ---- a stack, a state
unfoldable pub Rest : Tag → Stack → Tag → Bytes → Type 0
Rest t [] x s = (s ≡ []) × (x ≡ t)
Rest t (within n ps ks ∷ K) x s = AfterChildren (λ y r. Rest t K y r) n ps (add_child ks (tag_child x)) s
Rest t (value_of a n ps ∷ K) x s = SpacedTag (λ y r. Rest t K y r) n (add_attribute ps (tag_value a x)) s
Rest t (in_braces h ∷ K) x s = BehindTag (λ y r. Rest t K y r) x h s

unfoldable pub CloseOf : Tag → Stack → Bytes → Type 0
CloseOf t [] s = ⊥
CloseOf t (within n ps ks ∷ K) s = ClosedBy (Rest t K) n ps ks s
CloseOf t (value_of a n ps ∷ K) s = ⊥
CloseOf t (in_braces h ∷ K) s = ⊥

unfoldable pub Named : Tag → For → Name → Bytes → Type 0
Named t (for_tag K) m s = SpacedTag (Rest t K) m no_attributes s
Named t (for_attribute n ps K) m s = AttributeNamed (Rest t K) m n ps s
Named t (for_closing n ps ks K) m s = CloseNamed (Rest t K) m n ps ks s

unfoldable pub Resumed : Tag → Of → ℕ → Bytes → Type 0
Resumed t (of_text w n ps ks K) d s = InText (Rest t K) (snoc w d) n ps ks s
Resumed t (of_string q w a n ps K) d s = InString (Rest t K) q (snoc w d) a n ps s

unfoldable pub Means : Tag → State → Bytes → Type 0
Means t start s = TagThen (Rest t []) s
Means t (opened K) s = Opened (Rest t K) (CloseOf t K) s
Means t (in_ident m d w x) s = InIdent (Named t x) (fits x) m d w s
Means t (behind_ident m x) s = BehindIdent (Named t x) (fits x) m s
Means t (behind_sep m d x) s = BehindSep (Named t x) (fits x) m d s
Means t (in_tag n ps K) s = SpacedTag (Rest t K) n ps s
Means t (slashed n ps K) s = Slashed (Rest t K) (tag n ps no_children n) s
Means t (attribute_named a n ps K) s = AttributeNamed (Rest t K) a n ps s
Means t (equals a n ps K) s = Equals (Rest t K) a n ps s
Means t (in_string q w a n ps K) s = InString (Rest t K) q w a n ps s
Means t (in_entity e x) s = InEntity (Resumed t x) e s
Means t (spread_opened n ps K) s = SpreadOpened (Rest t K) n ps s
Means t (one_point h K) s = OnePoint (Rest t K) h s
Means t (two_points h K) s = TwoPoints (Rest t K) h s
Means t (braces_opened h K) s = BracesOpened (Rest t K) h s
Means t (in_source d w h K) s = InSource (Rest t K) d w h s
Means t (in_quotes q d w h K) s = InQuotes (Rest t K) q d w h s
Means t (behind_tag x h K) s = BehindTag (Rest t K) x h s
Means t (in_children n ps ks K) s = AfterChildren (Rest t K) n ps ks s
Means t (in_text w n ps ks K) s = InText (Rest t K) w n ps ks s
Means t (closing n ps ks K) s = ClosedBy (Rest t K) n ps ks s
Means t (close_named m n ps ks K) s = CloseNamed (Rest t K) m n ps ks s
Means t (done x) s = (s ≡ []) × (x ≡ t)
Means t refused s = ⊥
