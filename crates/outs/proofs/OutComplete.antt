-- Every proper body within a page out is taken, and is read back from its row as it was written.
-- Main statements: `pieces_whole`, and the same for the other places of a body; `field_good`. Assumes nothing.
use mathlib.Core.Path.{◌≡◌, refl, sym, ap, ap₂, ◌∙◌, subst}
use mathlib.Core.Bool.{Bool, true, false, ◌&&◌, ◌||◌}
use Prim.Native.Nat.{ℕ, zero, suc, ◌≤◌}
use native.Mathlib.Omega.{arith}
use mathlib.Core.List.{List, [], ◌∷◌}
use lib.Dec.{T, eqb, eqb_refl}
use lib.ListN.{length}
use borrow.Author.Tests.{ne_eqb}
use Rattle.field.specs.Bytes.{Bytes}
use Rattle.field.specs.Number.{big_endian}
use Rattle.field.specs.Row.{Row, end, field, bytes, read}
use Rattle.field.proofs.NumberLaws.{length_big_endian, number_read}
use Rattle.field.proofs.RowLaws.{read_back}
use Rattle.page.specs.Number.{Number, whole, scaled, number_tag, minus_tag, number_bytes, number_in}
use Rattle.page.specs.Tree.{choose, texts_in, boolean_in}
use Rattle.page.specs.Check.{check_boolean, check_empty, check_name, check_name_by, check_members, at_least, is_name, no_hyphen}
use Rattle.page.specs.Encode.{boolean_byte, texts_row}
use Rattle.page.specs.Limits.{Utf8Ok}
use Rattle.refusal.specs.Refusal.{Fine, after}
use Rattle.refusal.specs.declared.Refusal.TheVariants as R
use Rattle.refusal.proofs.Verdicts.{fine_after, fine_unless}
use Rattle.page.proofs.Headers.{fine_header}
use Rattle.page.proofs.Booleans.{or_left}
use Rattle.page.proofs.NumberLaws.{whole_back, scaled_back}
use Rattle.page.proofs.Bodies.{fine_text, boolean_whole, texts_back, member_fine, members_read}
use Rattle.outs.specs.PageOut.{expression, allowed, left, within, check_leaf, good}
use Rattle.outs.specs.Tree.{Callee, tag_name, identifier, member, Expr, string_literal, number_literal, boolean_literal, null_literal, other_literal, minus_literal, array_literal, other_expr, template_call, attr_call, escape_call, boolean_choice, jsx_call, Exprs, no_exprs, expr, Elements, no_elements, element, spread_element, hole, Pieces, no_pieces, source_piece, expr_piece, Props, null_props, object, Properties, no_properties, property, spread_property, Key, no_key, key, PartsOk, CalleeOk, ExprOk, ExprsOk, ElementsOk, PiecesOk, PropsOk, PropertiesOk, KeyOk}
use Rattle.outs.specs.Encode.{callee_row, expr_row, exprs_row, elements_row, pieces_row, props_row, properties_row, key_row}
use Rattle.outs.specs.declared.Expect.{Expect}
use Rattle.outs.specs.declared.Expect.TheVariants as E
use Rattle.outs.proofs.OutReading.{callee_by, front_in, front_behind, expr_by, exprs_in, elements_in, pieces_in, properties_in, expr_in, second_in, call_in, props_in, key_behind, key_in}
use Rattle.outs.proofs.OutSound.{body}
use Rattle.outs.proofs.Parts.{members_of}

-- ---- a field that is taken

pub field_good : (width : ℕ) (c : Expect) (t : ℕ) (f : Bytes) (i r : Row) → T (allowed c t) → body width t f i ≡ Fine → good width (left c t) r ≡ Fine → good width c (field t f i r) ≡ Fine
unfolding good
field_good width c t f i r a b e = fine_after _ _ (fine_unless (allowed c t) R.Misplaced a) (fine_after _ _ b e)

module _ (width : ℕ) where
  text_good : (c : Expect) (b : Bytes) (r : Row) → T (allowed c 0x81) → Utf8Ok b → good width (left c 0x81) r ≡ Fine → good width c (field 0x81 b end r) ≡ Fine
  text_good c b r a h e = field_good width c 0x81 b end r a (unfold choose check_leaf in fine_text b h) e

  -- an expression, taken and read back wherever it stands
  record Whole (e : Expr) : Type 0 where
    tag : ℕ
    front : Bytes
    inner : Row
    row_is : (r : Row) → field tag front inner r ≡ expr_row e width r
    tag_ok : T (expression tag)
    fine : body width tag front inner ≡ Fine
    back : expr_in (field tag front inner end) ≡ e

  module _ (e : Expr) (q : Whole e) where
    good_at : (c : Expect) (r : Row) → T (allowed c q.tag) → good width (left c q.tag) r ≡ Fine → good width c (expr_row e width r) ≡ Fine
    good_at c r a g = subst (λ (x : Row). good width c x ≡ Fine) (q.row_is r) (field_good width c q.tag q.front q.inner r a q.fine g)

    -- neither a spread nor a hole nor source text
    other_tag : (u : ℕ) → (T (expression u) → ⊥) → eqb q.tag u ≡ false
    other_tag u k = ne_eqb q.tag u λ z. k (subst (λ (x : ℕ). T (expression x)) z q.tag_ok)

    exprs_more : (r : Row) → good width E.Exprs r ≡ Fine → (good width E.Exprs (expr_row e width r) ≡ Fine) × (exprs_in (expr_row e width r) ≡ expr e (exprs_in r))
    unfolding exprs_in expr_in
    exprs_more r g = (good_at E.Exprs r q.tag_ok g, ap exprs_in (sym (q.row_is r)) ∙ ap (λ (x : Expr). expr x (exprs_in r)) q.back)

    elements_more : (r : Row) → good width E.Elements r ≡ Fine → (good width E.Elements (expr_row e width r) ≡ Fine) × (elements_in (expr_row e width r) ≡ element e (elements_in r))
    unfolding elements_in expr_in choose
    elements_more r g =
        let t = q.tag in
        let x = other_tag 0x77 (λ x. x) in
        let y = other_tag 0x78 (λ x. x) in (
          good_at E.Elements r (or_left (expression t || eqb t 0x77) (eqb t 0x78) (or_left (expression t) (eqb t 0x77) q.tag_ok)) g,
          ap elements_in (sym (q.row_is r)) ∙ rw (x, y) (ap (λ (x : Expr). element x (elements_in r)) q.back),
        )

    pieces_more : (r : Row) → good width E.Pieces r ≡ Fine → (good width E.Pieces (expr_row e width r) ≡ Fine) × (pieces_in (expr_row e width r) ≡ expr_piece e (pieces_in r))
    unfolding pieces_in expr_in choose
    pieces_more r g =
        let t = q.tag in
        let x = other_tag 0x20 (λ x. x) in (
          good_at E.Pieces r (subst (λ (b : Bool). T (b || expression t)) (sym x) q.tag_ok) g,
          ap pieces_in (sym (q.row_is r)) ∙ rw x (ap (λ (x : Expr). expr_piece x (pieces_in r)) q.back),
        )

    -- in front of anything
    first_back : (r : Row) → expr_in (expr_row e width r) ≡ e
    unfolding expr_in
    first_back r = ap expr_in (sym (q.row_is r)) ∙ q.back

    alone : (good width E.One (expr_row e width end) ≡ Fine) × (expr_in (expr_row e width end) ≡ e)
    alone = (good_at E.One end q.tag_ok (unfold good in refl), first_back end)

    behind_name : (b : Bytes) → Utf8Ok b → (good width E.NameThenOne (field 0x81 b end (expr_row e width end)) ≡ Fine) × (second_in (field 0x81 b end (expr_row e width end)) ≡ e)
    behind_name b h = (text_good E.NameThenOne b (expr_row e width end) tt h alone.0, unfold second_in in first_back end)

    before_name : (b : Bytes) → Utf8Ok b → (good width E.OneThenName (expr_row e width (field 0x81 b end end)) ≡ Fine) × (front_behind (expr_row e width (field 0x81 b end end)) ≡ b)
    before_name b h = (
      good_at E.OneThenName (field 0x81 b end end) q.tag_ok (text_good E.JustName b end tt h (unfold good in refl)),
      ap front_behind (sym (q.row_is (field 0x81 b end end))) ∙ unfold front_behind front_in in refl,
    )

    as_key : (good width E.Key (expr_row e width end) ≡ Fine) × (key_in (expr_row e width end) ≡ key e)
    unfolding key_in expr_in
    as_key = (good_at E.Key end q.tag_ok (unfold good in refl), ap key_in (sym (q.row_is end)) ∙ ap (λ (x : Expr). key x) q.back)

  callee_whole : (c : Callee) (r : Row) → CalleeOk c → good width E.Props r ≡ Fine → (good width E.Callee (callee_row c r) ≡ Fine) × (call_in (callee_row c r) ≡ jsx_call c (props_in r) (key_behind r))
  unfolding callee_row CalleeOk call_in callee_by choose check_leaf check_name_by check_name
  callee_whole (tag_name b) r h e = (text_good E.Callee b r tt h e, refl)
  callee_whole (identifier n) r h e = (field_good width E.Callee 0x40 n end r tt (fine_unless (is_name n) R.BadName h) e, refl)
  callee_whole (member ns) r h e =
      let f : Bytes = bytes (texts_row 0x40 ns) in
      let k = members_of ns h.2 in
      let i = members_read ns 1 k in (
        field_good width E.Callee 0x41 f end r tt (ap (check_name_by 0x41 1 f) i ∙ member_fine 1 f ns h.0 h.1 k) e,
        ap (λ (x : List Bytes). jsx_call (member x) (props_in r) (key_behind r)) (ap (texts_in 0x40) i ∙ texts_back 0x40 ns),
      )

  -- ---- every proper tree

  mutual
    unfolding good expr_row ExprOk choose after within check_leaf check_empty exprs_in expr_by front_in number_tag minus_tag number_in

    expr_whole : (e : Expr) → ExprOk e width → Whole e
    expr_whole (string_literal b) h = record { tag = 0x70; front = b; inner = end; row_is = λ r. refl; tag_ok = tt; fine = fine_text b h; back = refl }
    expr_whole (number_literal (whole n)) h =
        let w = whole_back 0x71 n refl h in
        record { tag = 0x71; front = number_bytes (whole n); inner = end; row_is = λ r. refl; tag_ok = tt; fine = w.0; back = ap (λ (x : Number). number_literal x) w.1 }
    expr_whole (number_literal (scaled n p)) h =
        let w = scaled_back 0x7a n p refl h in
        record { tag = 0x7a; front = number_bytes (scaled n p); inner = end; row_is = λ r. refl; tag_ok = tt; fine = w.0; back = ap (λ (x : Number). number_literal x) w.1 }
    expr_whole (boolean_literal b) h =
        let w = boolean_whole b in
        record { tag = 0x72; front = boolean_byte b ∷ []; inner = end; row_is = λ r. refl; tag_ok = tt; fine = w.0; back = ap (λ (x : Bool). boolean_literal x) w.1 }
    expr_whole null_literal h = record { tag = 0x73; front = []; inner = end; row_is = λ r. refl; tag_ok = tt; fine = refl; back = refl }
    expr_whole (other_literal b) h = record { tag = 0x74; front = b; inner = end; row_is = λ r. refl; tag_ok = tt; fine = fine_text b h; back = refl }
    expr_whole (minus_literal (whole n)) h =
        let w = whole_back 0x75 n refl h in
        record { tag = 0x75; front = number_bytes (whole n); inner = end; row_is = λ r. refl; tag_ok = tt; fine = w.0; back = ap (λ (x : Number). minus_literal x) w.1 }
    expr_whole (minus_literal (scaled n p)) h =
        let w = scaled_back 0x7b n p refl h in
        record { tag = 0x7b; front = number_bytes (scaled n p); inner = end; row_is = λ r. refl; tag_ok = tt; fine = w.0; back = ap (λ (x : Number). minus_literal x) w.1 }
    expr_whole (array_literal es) h =
        let w = elements_whole es h in
        record { tag = 0x76; front = []; inner = elements_row es width; row_is = λ r. refl; tag_ok = tt; fine = w.0; back = ap (λ (x : Elements). array_literal x) w.1 }
    expr_whole (other_expr ps) h =
        let w = pieces_whole ps h in
        record { tag = 0x79; front = []; inner = pieces_row ps width; row_is = λ r. refl; tag_ok = tt; fine = w.0; back = ap (λ (x : Pieces). other_expr x) w.1 }
    expr_whole (template_call n es) h =
        let w = exprs_whole es h.1 in
        let f : Bytes = big_endian width n [] in
        let l : length f ≡ width = omega (arith, length_big_endian width n []) in
        record {
          tag = 0x90;
          front = f;
          inner = exprs_row es width;
          row_is = λ r. refl;
          tag_ok = tt;
          fine = fine_after _ _ (fine_unless (eqb (length f) width) R.Misplaced (subst (λ (x : ℕ). T (eqb x width)) (sym l) (eqb_refl width))) w.0;
          back = ap₂ (λ (x : ℕ) (y : Exprs). template_call x y) (number_read width n h.0) w.1;
        }
    expr_whole (attr_call b e) h =
        let w = behind_name e (expr_whole e h.1) b h.0 in
        record { tag = 0x91; front = []; inner = field 0x81 b end (expr_row e width end); row_is = λ r. refl; tag_ok = tt; fine = w.0; back = ap (λ (x : Expr). attr_call b x) w.1 }
    expr_whole (escape_call e) h =
        let w = alone e (expr_whole e h) in
        record { tag = 0x92; front = []; inner = expr_row e width end; row_is = λ r. refl; tag_ok = tt; fine = w.0; back = ap (λ (x : Expr). escape_call x) w.1 }
    expr_whole (boolean_choice e b) h =
        let q = expr_whole e h.0 in
        let w = before_name e q b h.1 in
        record { tag = 0x93; front = []; inner = expr_row e width (field 0x81 b end end); row_is = λ r. refl; tag_ok = tt; fine = w.0; back = ap₂ (λ (x : Expr) (y : Bytes). boolean_choice x y) (first_back e q (field 0x81 b end end)) w.1 }
    expr_whole (jsx_call c ps k) h =
        let y = key_whole k h.2 in
        let p = props_whole ps (key_row k width) h.1 y.0 in
        let w = callee_whole c (props_row ps width (key_row k width)) h.0 p.0 in
        record {
          tag = 0x94;
          front = [];
          inner = callee_row c (props_row ps width (key_row k width));
          row_is = λ r. refl;
          tag_ok = tt;
          fine = w.0;
          back = w.1 ∙ ap₂ (λ (x : Props) (z : Key). jsx_call c x z) p.1 (p.2 ∙ y.1);
        }

    exprs_whole : (es : Exprs) → ExprsOk es width → (good width E.Exprs (exprs_row es width) ≡ Fine) × (exprs_in (exprs_row es width) ≡ es)
    exprs_whole no_exprs h = (refl, refl)
    exprs_whole (expr e es) h =
        let m = exprs_whole es h.1 in
        let w = exprs_more e (expr_whole e h.0) (exprs_row es width) m.0 in
        (w.0, w.1 ∙ ap (λ (x : Exprs). expr e x) m.1)

    elements_whole : (es : Elements) → ElementsOk es width → (good width E.Elements (elements_row es width) ≡ Fine) × (elements_in (elements_row es width) ≡ es)
    elements_whole no_elements h = (refl, refl)
    elements_whole (element e es) h =
        let m = elements_whole es h.1 in
        let w = elements_more e (expr_whole e h.0) (elements_row es width) m.0 in
        (w.0, w.1 ∙ ap (λ (x : Elements). element e x) m.1)
    elements_whole (spread_element e es) h =
        let m = elements_whole es h.1 in
        let w = alone e (expr_whole e h.0) in
        (field_good width E.Elements 0x77 [] (expr_row e width end) (elements_row es width) tt w.0 m.0, ap₂ (λ (x : Expr) (y : Elements). spread_element x y) w.1 m.1)
    elements_whole (hole es) h =
        let m = elements_whole es h in
        (field_good width E.Elements 0x78 [] end (elements_row es width) tt refl m.0, ap (λ (x : Elements). hole x) m.1)

    pub pieces_whole : (ps : Pieces) → PiecesOk ps width → (good width E.Pieces (pieces_row ps width) ≡ Fine) × (pieces_in (pieces_row ps width) ≡ ps)
    pieces_whole no_pieces h = (refl, refl)
    pieces_whole (source_piece b ps) h =
        let m = pieces_whole ps h.1 in
        (field_good width E.Pieces 0x20 b end (pieces_row ps width) tt (fine_text b h.0) m.0, ap (λ (x : Pieces). source_piece b x) m.1)
    pieces_whole (expr_piece e ps) h =
        let m = pieces_whole ps h.1 in
        let w = pieces_more e (expr_whole e h.0) (pieces_row ps width) m.0 in
        (w.0, w.1 ∙ ap (λ (x : Pieces). expr_piece e x) m.1)

    props_whole : (ps : Props) (r : Row) → PropsOk ps width → good width E.Key r ≡ Fine → (good width E.Props (props_row ps width r) ≡ Fine) × (props_in (props_row ps width r) ≡ ps) × (key_behind (props_row ps width r) ≡ key_in r)
    props_whole null_props r h e = (field_good width E.Props 0x73 [] end r tt refl e, refl, refl)
    props_whole (object ps) r h e =
        let m = properties_whole ps h in
        (field_good width E.Props 0x95 [] (properties_row ps width) r tt m.0 e, ap (λ (x : Properties). object x) m.1, refl)

    properties_whole : (ps : Properties) → PropertiesOk ps width → (good width E.Properties (properties_row ps width) ≡ Fine) × (properties_in (properties_row ps width) ≡ ps)
    properties_whole no_properties h = (refl, refl)
    properties_whole (property b e ps) h =
        let m = properties_whole ps h.2 in
        let w = behind_name e (expr_whole e h.1) b h.0 in
        (field_good width E.Properties 0x96 [] (field 0x81 b end (expr_row e width end)) (properties_row ps width) tt w.0 m.0, ap₂ (λ (x : Expr) (y : Properties). property b x y) w.1 m.1)
    properties_whole (spread_property e ps) h =
        let m = properties_whole ps h.1 in
        let w = alone e (expr_whole e h.0) in
        (field_good width E.Properties 0x53 [] (expr_row e width end) (properties_row ps width) tt w.0 m.0, ap₂ (λ (x : Expr) (y : Properties). spread_property x y) w.1 m.1)

    key_whole : (k : Key) → KeyOk k width → (good width E.Key (key_row k width) ≡ Fine) × (key_in (key_row k width) ≡ k)
    key_whole no_key h = (refl, refl)
    key_whole (key e) h = as_key e (expr_whole e h)
