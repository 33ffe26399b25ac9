-- The grammar of tag text: JSX's (facebook.github.io/jsx) as 02, A3 has it, a constructor for each production. `IsX s x r` says that the
-- text s begins with an X that reads as x, and that r is what follows it; so a production is a chain of places in the text.
-- White space may part the signs of a tag. Main definitions: `ReadsAs`, and `Reads`, where closing names agree besides.
-- Assumes nothing: these are definitions.
use Rattle.std.specs.Prelude.{ℕ, ◌≡◌, Bool, not, [], ◌∷◌, ◌++◌, T, eqb, Some}
use Rattle.field.specs.Bytes.{Bytes}
use Rattle.grammar.specs.Signs.{letter, name_byte, separator, space, name_goes_on, equals_sign, text_byte, string_byte, entity_byte, quote, quoted_byte, source_byte, source_start}
use Rattle.grammar.specs.Known.{Known, known_of, entity_of}
use Rattle.grammar.specs.Syntax.{part, Name, tag_name_fits, attribute_name_fits, Tag, tag, Attributes, no_attributes, attribute, Attribute, no_value, string_value, container_value, tag_value, spread_attribute, Children, no_children, child, Child, text_child, tag_child, empty_child, container_child, spread_child, Expr, tag_expr, known_expr, matched}

-- no byte of the sort p follows
unfoldable pub Ends : (ℕ → Bool) → Bytes → Type 0
Ends p [] = Unit {0}
Ends p (c ∷ s) = T (not (p c))

-- A3: 'each as long as it runs'. Bytes of the sort p, to the first that is none
pub data Run (p : ℕ → Bool) : Bytes → Bytes → Bytes → Type 0 where
  run_ends : {s : Bytes} → Ends p s → Run p s [] s
  run_on : {c : ℕ} {s w r : Bytes} → T (p c) → Run p s w r → Run p (c ∷ s) (c ∷ w) r

-- the same, decoded. A3: 'in text and attribute strings it decodes `&amp;` `&lt;` `&gt;` `&quot;` `&#39;`, and another `&` is not read'
pub data Decoded (p : ℕ → Bool) : Bytes → Bytes → Bytes → Type 0 where
  decoded_ends : {s : Bytes} → Ends p s → Decoded p s [] s
  decoded_on : {c : ℕ} {s w r : Bytes} → T (p c) → T (not (eqb c 38)) → Decoded p s w r → Decoded p (c ∷ s) (c ∷ w) r
  -- `&` name `;`, decoded once
  entity : {s e s' w r : Bytes} {d : ℕ} → Run entity_byte s e (59 ∷ s') → entity_of e ≡ Some d → Decoded p s' w r → Decoded p (38 ∷ s) (d ∷ w) r

-- white space or nothing
pub data Spaces : Bytes → Bytes → Type 0 where
  no_space : {s : Bytes} → Spaces s s
  space_on : {c : ℕ} {s r : Bytes} → T (space c) → Spaces s r → Spaces (c ∷ s) r

-- JSXIdentifier, as 01's 40: a letter, `_` or `$`, then also digits and `-`, as long as they run
pub data IsIdent : Bytes → Bytes → Bytes → Type 0 where
  ident : {c : ℕ} {s w r : Bytes} → T (letter c) → Run name_byte s w r → IsIdent (c ∷ s) (c ∷ w) r

-- further identifiers, each behind `.` or `:`, as long as they run, and the white space behind them
pub data IsParts : Bytes → Name → Bytes → Type 0 where
  no_parts : {s r : Bytes} → Spaces s r → Ends name_goes_on r → IsParts s [] r
  one_part : {s s₁ s₂ w s₃ r : Bytes} {d : ℕ} {ps : Name} → Spaces s (d ∷ s₁) → T (separator d) → Spaces s₁ s₂ → IsIdent s₂ w s₃ → IsParts s₃ ps r → IsParts s (part d w ∷ ps) r

-- JSXElementName, JSXAttributeName: JSXIdentifier, JSXNamespacedName or JSXMemberExpression; which of them fit is `tag_name_fits`, `attribute_name_fits`
pub data IsName : Bytes → Name → Bytes → Type 0 where
  is_name : {s w s₁ r : Bytes} {ps : Name} → IsIdent s w s₁ → IsParts s₁ ps r → IsName s (part 0 w ∷ ps) r

-- A3: 'up to the matching brace, braces in quotes not counted. In it a backquote, backslash, slash, `<` or a quote not closed on its line is
-- not read'. (Within quotes the first four are looked for by `rest_of`.)
pub data IsSource : Bytes → Bytes → Bytes → Type 0 where
  source_ends : {s : Bytes} → IsSource s [] s
  source_on : {c : ℕ} {s w r : Bytes} → T (source_byte c) → IsSource s w r → IsSource (c ∷ s) (c ∷ w) r
  quotes : {q : ℕ} {s w s' v r : Bytes} → T (quote q) → Run (quoted_byte q) s w (q ∷ s') → IsSource s' v r → IsSource (q ∷ s) (q ∷ (w ++ (q ∷ v))) r
  -- `{` source text `}`
  braces : {s w s' v r : Bytes} → IsSource s w (125 ∷ s') → IsSource s' v r → IsSource (123 ∷ s) (123 ∷ (w ++ (125 ∷ v))) r

-- JSXClosingElement, `<` `/` name `>`; of a fragment `<` `/` `>`. Its name is not yet compared
pub data Closing : Bytes → Name → Bytes → Type 0 where
  closing_name : {s s₁ s₂ s₃ r : Bytes} {m : Name} → Spaces s (47 ∷ s₁) → Spaces s₁ s₂ → IsName s₂ m s₃ → T (tag_name_fits m) → Spaces s₃ (62 ∷ r) → Closing (60 ∷ s) m r
  closing_fragment : {s s₁ r : Bytes} → Spaces s (47 ∷ s₁) → Spaces s₁ (62 ∷ r) → Closing (60 ∷ s) [] r

mutual
  pub data IsTag : Bytes → Tag → Bytes → Type 0 where
    -- JSXSelfClosingElement: `<` name attributes `/` `>`
    is_alone : {s s₁ s₂ s₃ s₄ r : Bytes} {n : Name} {ps : Attributes} → Spaces s s₁ → IsName s₁ n s₂ → T (tag_name_fits n) → Spaces s₂ s₃ → IsAttributes s₃ ps (47 ∷ s₄) → Spaces s₄ (62 ∷ r) → IsTag (60 ∷ s) (tag n ps no_children n) r
    -- JSXOpeningElement JSXChildren JSXClosingElement: `<` name attributes `>` children closing
    is_around : {s s₁ s₂ s₃ s₄ s₅ r : Bytes} {n m : Name} {ps : Attributes} {ks : Children} → Spaces s s₁ → IsName s₁ n s₂ → T (tag_name_fits n) → Spaces s₂ s₃ → IsAttributes s₃ ps (62 ∷ s₄) → IsChildren s₄ ks s₅ → Closing s₅ m r → IsTag (60 ∷ s) (tag n ps ks m) r
    -- JSXFragment: `<` `>` children closing
    is_fragment : {s s₁ s₂ r : Bytes} {m : Name} {ks : Children} → Spaces s (62 ∷ s₁) → IsChildren s₁ ks s₂ → Closing s₂ m r → IsTag (60 ∷ s) (tag [] no_attributes ks m) r

  -- JSXAttributes
  pub data IsAttributes : Bytes → Attributes → Bytes → Type 0 where
    are_no_attributes : {s : Bytes} → IsAttributes s no_attributes s
    are_attributes : {s s₁ r : Bytes} {a : Attribute} {ps : Attributes} → IsAttribute s a s₁ → IsAttributes s₁ ps r → IsAttributes s (attribute a ps) r

  -- JSXAttribute and JSXSpreadAttribute, and the white space behind them
  pub data IsAttribute : Bytes → Attribute → Bytes → Type 0 where
    -- name, and no `=` behind it
    is_no_value : {s s₁ r : Bytes} {a : Name} → IsName s a s₁ → T (attribute_name_fits a) → Ends equals_sign s₁ → Spaces s₁ r → IsAttribute s (no_value a) r
    -- name `=` JSXStringCharacters in `"` or `'`
    is_string_value : {s s₁ s₂ w s₃ r : Bytes} {q : ℕ} {a : Name} → IsName s a (61 ∷ s₁) → T (attribute_name_fits a) → Spaces s₁ (q ∷ s₂) → T (quote q) → Decoded (string_byte q) s₂ w (q ∷ s₃) → Spaces s₃ r → IsAttribute s (string_value a w) r
    -- name `=` `{` expression `}`; empty braces are no value
    is_container_value : {s s₁ s₂ s₃ r : Bytes} {a : Name} {b : Expr} → IsName s a (61 ∷ s₁) → T (attribute_name_fits a) → Spaces s₁ (123 ∷ s₂) → IsExpr s₂ b s₃ → Spaces s₃ r → IsAttribute s (container_value a b) r
    -- name `=` tag
    is_tag_value : {s s₁ s₂ s₃ r : Bytes} {a : Name} {t : Tag} → IsName s a (61 ∷ s₁) → T (attribute_name_fits a) → Spaces s₁ s₂ → IsTag s₂ t s₃ → Spaces s₃ r → IsAttribute s (tag_value a t) r
    -- A3: 'three points first make a spread, 53 in a tag'. `{` `...` expression `}`
    is_spread_attribute : {s s₁ s₂ r : Bytes} {b : Expr} → Spaces s (46 ∷ 46 ∷ 46 ∷ s₁) → IsExpr s₁ b s₂ → Spaces s₂ r → IsAttribute (123 ∷ s) (spread_attribute b) r

  -- JSXChildren
  pub data IsChildren : Bytes → Children → Bytes → Type 0 where
    are_no_children : {s : Bytes} → IsChildren s no_children s
    are_children : {s s₁ r : Bytes} {k : Child} {ks : Children} → IsChild s k s₁ → IsChildren s₁ ks r → IsChildren s (child k ks) r

  -- JSXChild
  pub data IsChild : Bytes → Child → Bytes → Type 0 where
    -- JSXText. A3: 'a whole run of text is one 60', so it is not empty
    is_text_child : {s w r : Bytes} {c : ℕ} → Decoded text_byte s (c ∷ w) r → IsChild s (text_child (c ∷ w)) r
    -- JSXElement or JSXFragment
    is_tag_child : {s r : Bytes} {t : Tag} → IsTag s t r → IsChild s (tag_child t) r
    -- A3: 'among children, white space or nothing between braces is the empty container'. `{` `}`
    is_empty_child : {s r : Bytes} → Spaces s (125 ∷ r) → IsChild (123 ∷ s) empty_child r
    -- `{` expression `}`
    is_container_child : {s r : Bytes} {b : Expr} → IsExpr s b r → IsChild (123 ∷ s) (container_child b) r
    -- A3: 'and 61 among children'. `{` `...` expression `}`
    is_spread_child : {s s₁ r : Bytes} {b : Expr} → Spaces s (46 ∷ 46 ∷ 46 ∷ s₁) → IsExpr s₁ b r → IsChild (123 ∷ s) (spread_child b) r

  -- what stands in braces, and the `}` behind it. A3: 'white space at both ends dropped'
  pub data IsExpr : Bytes → Expr → Bytes → Type 0 where
    -- A3: 'a tag alone'
    is_tag_expr : {s s₁ s₂ r : Bytes} {t : Tag} → Spaces s s₁ → IsTag s₁ t s₂ → Spaces s₂ (125 ∷ r) → IsExpr s (tag_expr t) r
    -- A3: numbers, strings, `true`, `false`, `null` and 'the rest, not empty', but no text 'that starts with `[`'
    is_known_expr : {s s₁ w r : Bytes} {c : ℕ} {k : Known} → Spaces s (c ∷ s₁) → T (source_start c) → IsSource (c ∷ s₁) (c ∷ w) (125 ∷ r) → known_of (c ∷ w) ≡ Some k → IsExpr s (known_expr k) r

-- the text is one tag, with 'nothing around' it; closing names are not compared
abbrev pub ReadsAs : Bytes → Tag → Type 0
ReadsAs s t = IsTag s t []

-- the same, and closing names are those of their tags
abbrev pub Reads : Bytes → Tag → Type 0
Reads s t = ReadsAs s t × T (matched t)
