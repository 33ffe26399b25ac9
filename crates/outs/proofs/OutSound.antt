-- What the check takes of a body within a page out is the row of a proper tree. Main statements: `sound`, for each place of a body; `good_field`;
-- `nothing_is`. Assumes nothing.
use mathlib.Core.Path.{◌≡◌, refl, sym, ap, ap₂, ◌∙◌, subst}
use mathlib.Core.Bool.{Bool, true, false, ◌&&◌}
use Prim.Native.Nat.{ℕ, zero, suc, ◌≤◌}
use native.Mathlib.Omega.{arith}
use mathlib.Core.List.{List, [], ◌∷◌}
use lib.Dec.{T, leb, eqb, leb→le, eqb→eq}
use lib.ListN.{length}
use borrow.Author.Tests.{eqb-true, eqb-false}
use Rattle.field.specs.Bytes.{Bytes, AllBytes}
use Rattle.field.specs.Number.{number_of}
use Rattle.field.specs.Row.{Row, end, loose, field, bytes, inside, read}
use Rattle.field.proofs.Reading.{FrontFits, SaneBy}
use Rattle.field.proofs.RowLaws.{Sane, bytes_read, read_sane}
use Rattle.page.specs.Number.{number_tag, minus_tag, number_in}
use Rattle.page.specs.Tree.{choose, texts_in, boolean_in}
use Rattle.page.specs.Check.{check_boolean, check_name_by, check_name, check_members, at_least, is_name, no_hyphen}
use Rattle.page.specs.Encode.{boolean_byte, texts_row}
use Rattle.page.specs.Limits.{Utf8Ok}
use Rattle.refusal.specs.Refusal.{Verdict, Fine, after, unless}
use Rattle.refusal.specs.declared.Refusal.TheVariants as R
use Rattle.refusal.proofs.Verdicts.{refused, after_fine, unless_fine}
use Rattle.page.proofs.Headers.{header_fine}
use Rattle.page.proofs.NumberLaws.{whole_sound, scaled_sound}
use Rattle.page.proofs.Bodies.{leaf_row, node_row, text_ok, empty_is, boolean_sound, member_sound}
use Rattle.outs.specs.Held.{nests, held}
use Rattle.outs.specs.PageOut.{allowed, left, within, front_right, check_leaf, good}
use Rattle.outs.specs.Tree.{Callee, tag_name, identifier, member, Expr, string_literal, number_literal, boolean_literal, null_literal, other_literal, minus_literal, array_literal, other_expr, template_call, attr_call, escape_call, boolean_choice, jsx_call, Exprs, no_exprs, expr, Elements, no_elements, element, spread_element, hole, Pieces, no_pieces, source_piece, expr_piece, Props, null_props, object, Properties, no_properties, property, spread_property, Key, no_key, key, PartsOk, CalleeOk, ExprOk, ExprsOk, ElementsOk, PiecesOk, PropsOk, PropertiesOk, KeyOk}
use Rattle.outs.specs.Encode.{callee_row, expr_row, exprs_row, elements_row, pieces_row, props_row, properties_row, key_row}
use Rattle.outs.specs.declared.Expect.{Expect}
use Rattle.outs.specs.declared.Expect.TheVariants as E
use Rattle.outs.proofs.Parts.{parts_of, number_below, number_back}
use Rattle.outs.proofs.OutTags.{ExprTag, string_tag, whole_tag, boolean_tag, null_tag, other_literal_tag, minus_whole_tag, array_tag, other_expr_tag, scaled_tag, minus_scaled_tag, template_tag, attr_tag, escape_tag, choice_tag, jsx_tag, ElementTag, expr_element_tag, spread_element_tag, hole_tag, PieceTag, source_tag, expr_piece_tag, PropertyTag, property_tag, spread_property_tag, CalleeTag, tag_name_tag, identifier_tag, member_tag, PropsTag, null_props_tag, object_tag, expr_tag, element_tag, piece_tag, a_property_tag, callee_tag, props_tag}

-- ---- a field that is taken

-- the body by its tag
abbrev pub body : ℕ → ℕ → Bytes → Row → Verdict
body width t f i = choose (nests t) (λ _. after (unless (front_right width t f) R.Misplaced) λ _. good width (within t) i) λ _. check_leaf t f

pub good_field : (width : ℕ) (c : Expect) (t : ℕ) (f : Bytes) (i r : Row) → good width c (field t f i r) ≡ Fine → T (allowed c t) × (body width t f i ≡ Fine) × (good width (left c t) r ≡ Fine)
unfolding good
good_field width c t f i r e =
    let a = after_fine _ _ e in
    let b = after_fine _ _ a.1 in
    (unless_fine (allowed c t) R.Misplaced a.0, b.0, b.1)

nothing_is : (width : ℕ) (x : Row) → good width E.Nothing x ≡ Fine → end ≡ x
nothing_is width end e = refl
nothing_is width (loose b) e = refused R.Truncated (unfold good in e)
nothing_is width (field t f i r) e = absurd (good_field width E.Nothing t f i r e).0

module _ (width : ℕ) where
  -- an 81 where no other field may come
  text_at : (t : ℕ) (f : Bytes) (i : Row) → T (eqb t 0x81) → FrontFits (held width t) f i → body width t f i ≡ Fine → ((r : Row) → field 0x81 f end r ≡ field t f i r) × Utf8Ok f
  text_at t f i k = subst (λ (u : ℕ). FrontFits (held width u) f i → body width u f i ≡ Fine → ((r : Row) → field 0x81 f end r ≡ field u f i r) × Utf8Ok f) (sym (eqb→eq t 0x81 k)) here
    where
      here : FrontFits (held width 0x81) f i → body width 0x81 f i ≡ Fine → ((r : Row) → field 0x81 f end r ≡ field 0x81 f i r) × Utf8Ok f
      here h e = unfold held choose check_leaf in (λ r. leaf_row 0x81 f i r h, text_ok f e)

  -- ---- what a row is, in each of its places

  pub record Sound (x : Row) : Type 0 where
    pub exprs_are : good width E.Exprs x ≡ Fine → (es : Exprs) × (exprs_row es width ≡ x) × ExprsOk es width
    pub elements_are : good width E.Elements x ≡ Fine → (es : Elements) × (elements_row es width ≡ x) × ElementsOk es width
    pub pieces_are : good width E.Pieces x ≡ Fine → (ps : Pieces) × (pieces_row ps width ≡ x) × PiecesOk ps width
    pub properties_are : good width E.Properties x ≡ Fine → (ps : Properties) × (properties_row ps width ≡ x) × PropertiesOk ps width
    pub one_is : good width E.One x ≡ Fine → (e : Expr) × (expr_row e width end ≡ x) × ExprOk e width
    pub just_name_is : good width E.JustName x ≡ Fine → (b : Bytes) × (field 0x81 b end end ≡ x) × Utf8Ok b
    pub name_then_one_is : good width E.NameThenOne x ≡ Fine → (b : Bytes) × (e : Expr) × (field 0x81 b end (expr_row e width end) ≡ x) × Utf8Ok b × ExprOk e width
    pub one_then_name_is : good width E.OneThenName x ≡ Fine → (e : Expr) × (b : Bytes) × (expr_row e width (field 0x81 b end end) ≡ x) × ExprOk e width × Utf8Ok b
    pub key_is : good width E.Key x ≡ Fine → (k : Key) × (key_row k width ≡ x) × KeyOk k width
    pub props_are : good width E.Props x ≡ Fine → (ps : Props) × (k : Key) × (props_row ps width (key_row k width) ≡ x) × PropsOk ps width × KeyOk k width
    pub callee_is : good width E.Callee x ≡ Fine → (c : Callee) × (ps : Props) × (k : Key) × (callee_row c (props_row ps width (key_row k width)) ≡ x) × CalleeOk c × PropsOk ps width × KeyOk k width

  -- ---- a field by its tag, where what it holds is known

  abbrev ExprAt : ℕ → Bytes → Row → Type 0
  ExprAt t f i = (e : Expr) × ((r : Row) → expr_row e width r ≡ field t f i r) × ExprOk e width

  expr_sound : (t : ℕ) (f : Bytes) (i : Row) → ExprTag t → FrontFits (held width t) f i → AllBytes f → Sound i → body width t f i ≡ Fine → ExprAt t f i
  unfolding held choose after within check_leaf expr_row ExprOk number_tag minus_tag number_in
  expr_sound t f i string_tag h a s e = (string_literal f, λ r. leaf_row 0x70 f i r h, text_ok f e)
  expr_sound t f i whole_tag h a s e = let n = whole_sound 0x71 f a e refl in (number_literal (number_in 0x71 f), λ r. ap (λ (x : Bytes). field 0x71 x end r) n.0 ∙ leaf_row 0x71 f i r h, n.1)
  expr_sound t f i boolean_tag h a s e = (boolean_literal (boolean_in f), λ r. ap (λ (x : Bytes). field 0x72 x end r) (boolean_sound f e) ∙ leaf_row 0x72 f i r h, tt)
  expr_sound t f i null_tag h a s e = (null_literal, λ r. ap (λ (x : Bytes). field 0x73 x end r) (empty_is f e) ∙ leaf_row 0x73 f i r h, tt)
  expr_sound t f i other_literal_tag h a s e = (other_literal f, λ r. leaf_row 0x74 f i r h, text_ok f e)
  expr_sound t f i minus_whole_tag h a s e = let n = whole_sound 0x75 f a e refl in (minus_literal (number_in 0x75 f), λ r. ap (λ (x : Bytes). field 0x75 x end r) n.0 ∙ leaf_row 0x75 f i r h, n.1)
  expr_sound t f i array_tag h a s e = let n = s.elements_are e in (array_literal n.0, λ r. ap (λ (x : Row). field 0x76 [] x r) n.1 ∙ node_row 0x76 f i r h, n.2)
  expr_sound t f i other_expr_tag h a s e = let n = s.pieces_are e in (other_expr n.0, λ r. ap (λ (x : Row). field 0x79 [] x r) n.1 ∙ node_row 0x79 f i r h, n.2)
  expr_sound t f i scaled_tag h a s e = let n = scaled_sound 0x7a f a e refl in (number_literal (number_in 0x7a f), λ r. ap (λ (x : Bytes). field 0x7a x end r) n.0 ∙ leaf_row 0x7a f i r h, n.1)
  expr_sound t f i minus_scaled_tag h a s e = let n = scaled_sound 0x7b f a e refl in (minus_literal (number_in 0x7b f), λ r. ap (λ (x : Bytes). field 0x7b x end r) n.0 ∙ leaf_row 0x7b f i r h, n.1)
  expr_sound t f i template_tag h a s e =
      let p = after_fine (unless (eqb (length f) width) R.Misplaced) (λ _. good width E.Exprs i) e in
      let l : length f ≡ width = eqb→eq (length f) width (unless_fine (eqb (length f) width) R.Misplaced p.0) in
      let n = s.exprs_are p.1 in
      (template_call (number_of f) n.0, λ r. ap₂ (λ (x : Bytes) (y : Row). field 0x90 x y r) (number_back f width a l) n.1, (number_below f width a l, n.2))
  expr_sound t f i attr_tag h a s e = let n = s.name_then_one_is e in (attr_call n.0 n.1, λ r. ap (λ (x : Row). field 0x91 [] x r) n.2 ∙ node_row 0x91 f i r h, (n.3, n.4))
  expr_sound t f i escape_tag h a s e = let n = s.one_is e in (escape_call n.0, λ r. ap (λ (x : Row). field 0x92 [] x r) n.1 ∙ node_row 0x92 f i r h, n.2)
  expr_sound t f i choice_tag h a s e = let n = s.one_then_name_is e in (boolean_choice n.0 n.1, λ r. ap (λ (x : Row). field 0x93 [] x r) n.2 ∙ node_row 0x93 f i r h, (n.3, n.4))
  expr_sound t f i jsx_tag h a s e = let n = s.callee_is e in (jsx_call n.0 n.1 n.2, λ r. ap (λ (x : Row). field 0x94 [] x r) n.3 ∙ node_row 0x94 f i r h, (n.4, n.5, n.6))

  element_sound : (t : ℕ) (f : Bytes) (i : Row) → ElementTag t → FrontFits (held width t) f i → AllBytes f → Sound i → body width t f i ≡ Fine → (es : Elements) → ElementsOk es width →
      (fs : Elements) × (elements_row fs width ≡ field t f i (elements_row es width)) × ElementsOk fs width
  unfolding held choose after within check_leaf elements_row ElementsOk
  element_sound t f i (expr_element_tag x) h a s e es k = let n = expr_sound t f i x h a s e in (element n.0 es, n.1 (elements_row es width), (n.2, k))
  element_sound t f i spread_element_tag h a s e es k = let n = s.one_is e in (spread_element n.0 es, ap (λ (x : Row). field 0x77 [] x (elements_row es width)) n.1 ∙ node_row 0x77 f i (elements_row es width) h, (n.2, k))
  element_sound t f i hole_tag h a s e es k = (hole es, ap (λ (x : Bytes). field 0x78 x end (elements_row es width)) (empty_is f e) ∙ leaf_row 0x78 f i (elements_row es width) h, k)

  piece_sound : (t : ℕ) (f : Bytes) (i : Row) → PieceTag t → FrontFits (held width t) f i → AllBytes f → Sound i → body width t f i ≡ Fine → (ps : Pieces) → PiecesOk ps width →
      (qs : Pieces) × (pieces_row qs width ≡ field t f i (pieces_row ps width)) × PiecesOk qs width
  unfolding held choose check_leaf pieces_row PiecesOk
  piece_sound t f i source_tag h a s e ps k = (source_piece f ps, leaf_row 0x20 f i (pieces_row ps width) h, (text_ok f e, k))
  piece_sound t f i (expr_piece_tag x) h a s e ps k = let n = expr_sound t f i x h a s e in (expr_piece n.0 ps, n.1 (pieces_row ps width), (n.2, k))

  property_sound : (t : ℕ) (f : Bytes) (i : Row) → PropertyTag t → FrontFits (held width t) f i → Sound i → body width t f i ≡ Fine → (ps : Properties) → PropertiesOk ps width →
      (qs : Properties) × (properties_row qs width ≡ field t f i (properties_row ps width)) × PropertiesOk qs width
  unfolding held choose after within properties_row PropertiesOk
  property_sound t f i property_tag h s e ps k =
      let n = s.name_then_one_is e in
      (property n.0 n.1 ps, ap (λ (x : Row). field 0x96 [] x (properties_row ps width)) n.2 ∙ node_row 0x96 f i (properties_row ps width) h, (n.3, n.4, k))
  property_sound t f i spread_property_tag h s e ps k =
      let n = s.one_is e in
      (spread_property n.0 ps, ap (λ (x : Row). field 0x53 [] x (properties_row ps width)) n.1 ∙ node_row 0x53 f i (properties_row ps width) h, (n.2, k))

  props_sound : (t : ℕ) (f : Bytes) (i : Row) → PropsTag t → FrontFits (held width t) f i → Sound i → body width t f i ≡ Fine → (ps : Props) × ((r : Row) → props_row ps width r ≡ field t f i r) × PropsOk ps width
  unfolding held choose after within check_leaf props_row PropsOk
  props_sound t f i null_props_tag h s e = (null_props, λ r. ap (λ (x : Bytes). field 0x73 x end r) (empty_is f e) ∙ leaf_row 0x73 f i r h, tt)
  props_sound t f i object_tag h s e = let n = s.properties_are e in (object n.0, λ r. ap (λ (x : Row). field 0x95 [] x r) n.1 ∙ node_row 0x95 f i r h, n.2)

  callee_sound : (t : ℕ) (f : Bytes) (i : Row) → CalleeTag t → FrontFits (held width t) f i → AllBytes f → body width t f i ≡ Fine → (c : Callee) × ((r : Row) → callee_row c r ≡ field t f i r) × CalleeOk c
  unfolding held choose check_leaf check_name_by check_name callee_row CalleeOk
  callee_sound t f i tag_name_tag h a e = (tag_name f, λ r. leaf_row 0x81 f i r h, text_ok f e)
  callee_sound t f i identifier_tag h a e = (identifier f, λ r. leaf_row 0x40 f i r h, unless_fine (is_name f) R.BadName e)
  callee_sound t f i member_tag h a e =
      let x : Row = read f in
      let ns : List Bytes = texts_in 0x40 x in
      let m = member_sound 1 f x (read_sane f a) e in
      (member ns, λ r. ap (λ (y : Bytes). field 0x41 y end r) (ap bytes m.0 ∙ bytes_read f a) ∙ leaf_row 0x41 f i r h, (m.1, m.2, parts_of ns 1 m.3))

  -- ---- a field in each of its places: header, body, then what follows

  module _ (t : ℕ) (f : Bytes) (i r : Row) (fits : FrontFits (held width t) f i) (all : AllBytes f) (inner : Sound i) (rest : Sound r) where
    exprs_at : good width E.Exprs (field t f i r) ≡ Fine → (es : Exprs) × (exprs_row es width ≡ field t f i r) × ExprsOk es width
    unfolding exprs_row ExprsOk
    exprs_at e =
        let p = good_field width E.Exprs t f i r e in
        let n = expr_sound t f i (expr_tag t p.0) fits all inner p.1 in
        let m = rest.exprs_are p.2 in
        (expr n.0 m.0, n.1 (exprs_row m.0 width) ∙ ap (λ (x : Row). field t f i x) m.1, (n.2, m.2))

    elements_at : good width E.Elements (field t f i r) ≡ Fine → (es : Elements) × (elements_row es width ≡ field t f i r) × ElementsOk es width
    elements_at e =
        let p = good_field width E.Elements t f i r e in
        let m = rest.elements_are p.2 in
        let n = element_sound t f i (element_tag t p.0) fits all inner p.1 m.0 m.2 in
        (n.0, n.1 ∙ ap (λ (x : Row). field t f i x) m.1, n.2)

    pieces_at : good width E.Pieces (field t f i r) ≡ Fine → (ps : Pieces) × (pieces_row ps width ≡ field t f i r) × PiecesOk ps width
    pieces_at e =
        let p = good_field width E.Pieces t f i r e in
        let m = rest.pieces_are p.2 in
        let n = piece_sound t f i (piece_tag t p.0) fits all inner p.1 m.0 m.2 in
        (n.0, n.1 ∙ ap (λ (x : Row). field t f i x) m.1, n.2)

    properties_at : good width E.Properties (field t f i r) ≡ Fine → (ps : Properties) × (properties_row ps width ≡ field t f i r) × PropertiesOk ps width
    properties_at e =
        let p = good_field width E.Properties t f i r e in
        let m = rest.properties_are p.2 in
        let n = property_sound t f i (a_property_tag t p.0) fits inner p.1 m.0 m.2 in
        (n.0, n.1 ∙ ap (λ (x : Row). field t f i x) m.1, n.2)

    one_at : good width E.One (field t f i r) ≡ Fine → (e : Expr) × (expr_row e width end ≡ field t f i r) × ExprOk e width
    one_at e =
        let p = good_field width E.One t f i r e in
        let n = expr_sound t f i (expr_tag t p.0) fits all inner p.1 in
        (n.0, n.1 end ∙ ap (λ (x : Row). field t f i x) (nothing_is width r p.2), n.2)

    just_name_at : good width E.JustName (field t f i r) ≡ Fine → (b : Bytes) × (field 0x81 b end end ≡ field t f i r) × Utf8Ok b
    just_name_at e =
        let p = good_field width E.JustName t f i r e in
        let n = text_at t f i p.0 fits p.1 in
        (f, n.0 end ∙ ap (λ (x : Row). field t f i x) (nothing_is width r p.2), n.1)

    name_then_one_at : good width E.NameThenOne (field t f i r) ≡ Fine → (b : Bytes) × (e : Expr) × (field 0x81 b end (expr_row e width end) ≡ field t f i r) × Utf8Ok b × ExprOk e width
    name_then_one_at e =
        let p = good_field width E.NameThenOne t f i r e in
        let n = text_at t f i p.0 fits p.1 in
        let m = rest.one_is p.2 in
        (f, m.0, n.0 (expr_row m.0 width end) ∙ ap (λ (x : Row). field t f i x) m.1, n.1, m.2)

    one_then_name_at : good width E.OneThenName (field t f i r) ≡ Fine → (e : Expr) × (b : Bytes) × (expr_row e width (field 0x81 b end end) ≡ field t f i r) × ExprOk e width × Utf8Ok b
    one_then_name_at e =
        let p = good_field width E.OneThenName t f i r e in
        let n = expr_sound t f i (expr_tag t p.0) fits all inner p.1 in
        let m = rest.just_name_is p.2 in
        (n.0, m.0, n.1 (field 0x81 m.0 end end) ∙ ap (λ (x : Row). field t f i x) m.1, n.2, m.2)

    key_at : good width E.Key (field t f i r) ≡ Fine → (k : Key) × (key_row k width ≡ field t f i r) × KeyOk k width
    unfolding key_row KeyOk
    key_at e =
        let p = good_field width E.Key t f i r e in
        let n = expr_sound t f i (expr_tag t p.0) fits all inner p.1 in
        (key n.0, n.1 end ∙ ap (λ (x : Row). field t f i x) (nothing_is width r p.2), n.2)

    props_at : good width E.Props (field t f i r) ≡ Fine → (ps : Props) × (k : Key) × (props_row ps width (key_row k width) ≡ field t f i r) × PropsOk ps width × KeyOk k width
    props_at e =
        let p = good_field width E.Props t f i r e in
        let n = props_sound t f i (props_tag t p.0) fits inner p.1 in
        let m = rest.key_is p.2 in
        (n.0, m.0, n.1 (key_row m.0 width) ∙ ap (λ (x : Row). field t f i x) m.1, n.2, m.2)

    callee_at : good width E.Callee (field t f i r) ≡ Fine → (c : Callee) × (ps : Props) × (k : Key) × (callee_row c (props_row ps width (key_row k width)) ≡ field t f i r) × CalleeOk c × PropsOk ps width × KeyOk k width
    callee_at e =
        let p = good_field width E.Callee t f i r e in
        let n = callee_sound t f i (callee_tag t p.0) fits all p.1 in
        let m = rest.props_are p.2 in
        (n.0, m.0, m.1, n.1 (props_row m.0 width (key_row m.1 width)) ∙ ap (λ (x : Row). field t f i x) m.2, n.2, m.3, m.4)

  pub sound : (x : Row) → SaneBy (held width) x → Sound x
  unfolding good exprs_row ExprsOk elements_row ElementsOk pieces_row PiecesOk properties_row PropertiesOk key_row KeyOk
  sound end s =
      record {
        exprs_are = λ e. (no_exprs, refl, tt);
        elements_are = λ e. (no_elements, refl, tt);
        pieces_are = λ e. (no_pieces, refl, tt);
        properties_are = λ e. (no_properties, refl, tt);
        one_is = λ e. refused R.Misplaced e;
        just_name_is = λ e. refused R.Misplaced e;
        name_then_one_is = λ e. refused R.Misplaced e;
        one_then_name_is = λ e. refused R.Misplaced e;
        key_is = λ e. (no_key, refl, tt);
        props_are = λ e. refused R.Misplaced e;
        callee_is = λ e. refused R.Misplaced e;
      }
  sound (loose b) s =
      record {
        exprs_are = λ e. refused R.Truncated e;
        elements_are = λ e. refused R.Truncated e;
        pieces_are = λ e. refused R.Truncated e;
        properties_are = λ e. refused R.Truncated e;
        one_is = λ e. refused R.Truncated e;
        just_name_is = λ e. refused R.Truncated e;
        name_then_one_is = λ e. refused R.Truncated e;
        one_then_name_is = λ e. refused R.Truncated e;
        key_is = λ e. refused R.Truncated e;
        props_are = λ e. refused R.Truncated e;
        callee_is = λ e. refused R.Truncated e;
      }
  sound (field t f i r) s =
      let inner = sound i s.2 in
      let rest = sound r s.3 in
      record {
        exprs_are = exprs_at t f i r s.0 s.1 inner rest;
        elements_are = elements_at t f i r s.0 s.1 inner rest;
        pieces_are = pieces_at t f i r s.0 s.1 inner rest;
        properties_are = properties_at t f i r s.0 s.1 inner rest;
        one_is = one_at t f i r s.0 s.1 inner rest;
        just_name_is = just_name_at t f i r s.0 s.1 inner rest;
        name_then_one_is = name_then_one_at t f i r s.0 s.1 inner rest;
        one_then_name_is = one_then_name_at t f i r s.0 s.1 inner rest;
        key_is = key_at t f i r s.0 s.1 inner rest;
        props_are = props_at t f i r s.0 s.1 inner rest;
        callee_is = callee_at t f i r s.0 s.1 inner rest;
      }
