-- Every page within the limits is accepted, and is read back from its own row as it was written.
-- Main statements: `page_complete`; `tag_whole`, `children_whole`, `expr_whole` and their like for each series within a page.
-- (Options: `Options`.)
-- Assumes nothing.
use mathlib.Core.Path.{◌≡◌, refl, sym, ap, ap₂, ◌∙◌, subst}
use mathlib.Core.Bool.{Bool, true, false, ◌&&◌, ◌||◌}
use Prim.Native.Nat.{ℕ, zero, suc, ◌≤◌}
use native.Mathlib.Omega.{arith}
use mathlib.Core.List.{List, [], ◌∷◌}
use lib.Dec.{T, eqb, eqb_refl, leb→le}
use lib.ListN.{length}
use borrow.Author.Tests.{ne_eqb}
use Rattle.field.specs.Bytes.{Bytes}
use Rattle.field.specs.Row.{Row, end, loose, field}
use Rattle.utf8.specs.Utf8.{utf8}
use Rattle.names.specs.Names as A
use Rattle.names.specs.Names.{AttrName}
use Rattle.page.specs.Number.{Number, whole, scaled, number_tag, minus_tag, number_bytes, number_in}
use Rattle.page.specs.Page.{Name, identifier, member, namespaced, Tag, element, fragment, Attributes, no_attributes, attribute, spread_attribute, Value, absent, string_value, empty_value, container_value, tag_value, Children, no_children, text_child, empty_child, container_child, tag_child, spread_child, Expr, string_literal, number_literal, boolean_literal, null_literal, other_literal, minus_literal, array_literal, other_expr, tag_expr, Items, no_items, item, spread_item, hole_item, Pieces, no_pieces, source_piece, tag_piece, export_item, declaration_item, statement_item, empty_item, Page}
use Rattle.page.specs.Tree.{choose, texts_in, first_in, second_in, name_by, attr_name_by, boolean_in, expr_by, contained, contained_value, contained_child, value_by, child_by, element_in, fragment_in, attributes_in, attr_name_in, value_in, value_behind, children_in, contained_in, expr_in, items_in, pieces_in, module_item_by, module_items_in, page_in}
use Rattle.page.specs.Check.{check_end, check_text, check_empty, check_boolean, is_name, no_hyphen, check_name, check_members, at_least, check_ident, check_name_by, is_expr, is_child, check_expr_by, check_child_by, check_element, check_attributes, check_attribute, check_value, check_children, check_container, check_expr, check_items, check_pieces, check_module_items, check_nothing_after, check_page}
use Rattle.page.specs.Encode.{boolean_byte, texts_row, name_row, attr_name_row, tag_row, attributes_row, value_row, children_row, expr_row, items_row, pieces_row, module_items_row, page_row}
use Rattle.page.specs.Limits.{Deep, NameOk, Utf8Ok, MembersOk, ElementNameOk, AttrNameOk, TagOk, AttributesOk, ValueOk, ChildrenOk, ExprOk, ItemsOk, PiecesOk, ModuleItemsOk}
use Rattle.refusal.specs.declared.Refusal.TheVariants as R
use Rattle.refusal.specs.Refusal.{Fine}
use Rattle.page.proofs.NumberLaws.{whole_back, scaled_back}
use Rattle.refusal.proofs.Verdicts.{refused, after_fine, fine_after, fine_unless}
use Rattle.page.proofs.Headers.{header_fine, fine_header}
use Rattle.page.proofs.Booleans.{or_left}
use Rattle.page.proofs.Tags.{ChildTag, text_tag, container_tag, element_child_tag, fragment_child_tag, spread_child_tag, child_tag}
use Rattle.page.proofs.Bodies.{fine_text, boolean_whole, texts_back, member_fine}
use Rattle.page.proofs.Sound.{expr_of, check_expr_of, fragment_children}

-- ---- names

pair_fine : (n m : Bytes) (d : ℕ) → Deep d → NameOk n → NameOk m → check_ident d (texts_row 0x40 (n ∷ m ∷ [])) (λ r. check_ident d r check_end) ≡ Fine
unfolding check_ident check_name check_end texts_row
pair_fine n m d h p q =
    fine_after _ _ (fine_header true d tt h) (fine_after _ _ (fine_unless (is_name n) R.BadName p)
    (fine_after _ _ (fine_header true d tt h) (fine_after _ _ (fine_unless (is_name m) R.BadName q) refl)))

-- a name in front of attributes and children
name_whole : (n : Name) (d : ℕ) (x : Row) → ElementNameOk d n → check_attributes d x ≡ Fine →
    (check_element d (name_row n x) ≡ Fine) × (element_in (name_row n x) ≡ element n (attributes_in x) (children_in x))
unfolding check_element element_in name_row ElementNameOk check_name_by check_name name_by choose
name_whole (identifier n) d x h e = (fine_after _ _ (fine_header true d tt h.0) (fine_after _ _ (fine_unless (is_name n) R.BadName h.1) e), refl)
name_whole (member ns) d x h e = (
  fine_after _ _ (fine_header true d tt h.0) (fine_after _ _ (member_fine (suc d) [] ns (leb→le 2 (length ns) h.1) (leb→le (length ns) 8 h.2) h.3) e),
  ap (λ (y : List Bytes). element (member y) (attributes_in x) (children_in x)) (texts_back 0x40 ns),
)
name_whole (namespaced n m) d x h e = (
  fine_after _ _ (fine_header true d tt h.0) (fine_after _ _ (pair_fine n m (suc d) h.1 h.2 h.3) e),
  unfold texts_row texts_in first_in second_in in refl,
)

-- the same in front of a value
attr_name_whole : (n : AttrName) (d : ℕ) (x : Row) → AttrNameOk d n → check_value d x ≡ Fine →
    (check_attribute d (attr_name_row n x) ≡ Fine) × (attr_name_in (attr_name_row n x) ≡ n) × (value_in (attr_name_row n x) ≡ value_behind x)
unfolding check_attribute attr_name_in value_in attr_name_row AttrNameOk check_name_by check_name attr_name_by choose
attr_name_whole (A.ident n) d x h e = (fine_after _ _ (fine_header true d tt h.0) (fine_after _ _ (fine_unless (is_name n) R.BadName h.1) e), refl, refl)
attr_name_whole (A.namespaced n m) d x h e = (
  fine_after _ _ (fine_header true d tt h.0) (fine_after _ _ (pair_fine n m (suc d) h.1 h.2 h.3) e),
  unfold texts_row texts_in first_in second_in in refl,
  refl,
)

-- ---- children behind attributes

-- what is taken as children is taken behind a name too, and holds no attribute
pub children_behind : (x : Row) (d : ℕ) → check_children d x ≡ Fine → (check_attributes d x ≡ Fine) × (attributes_in x ≡ no_attributes)
unfolding check_children attributes_in choose
children_behind end d e = (refl, refl)
children_behind (loose b) d e = refused R.Truncated e
children_behind (field t f i r) d e =
    let a = after_fine _ _ e in
    let h = header_fine (is_child t) d a.0 in
    on t (child_tag t h.0) e
  where
    on : (t : ℕ) → ChildTag t → check_children d (field t f i r) ≡ Fine → (check_attributes d (field t f i r) ≡ Fine) × (attributes_in (field t f i r) ≡ no_attributes)
    on t text_tag e = (e, refl)
    on t container_tag e = (e, refl)
    on t element_child_tag e = (e, refl)
    on t fragment_child_tag e = (e, refl)
    on t spread_child_tag e = (e, refl)

-- attributes are passed over where children are read
children_past : (as' : Attributes) (x : Row) → children_in (attributes_row as' x) ≡ children_in x
unfolding attributes_row children_in child_by choose
children_past no_attributes x = refl
children_past (attribute n v as') x = children_past as' x
children_past (spread_attribute e as') x = children_past as' x

-- ---- a tag and an expression, taken and read back wherever they stand

unfoldable pub TagWhole : Tag → ℕ → Type 0
TagWhole (element n as' cs) d =
    Deep d × (check_element (suc d) (name_row n (attributes_row as' (children_row cs))) ≡ Fine) × (element_in (name_row n (attributes_row as' (children_row cs))) ≡ element n as' cs)
TagWhole (fragment cs) d = Deep d × (check_children (suc d) (children_row cs) ≡ Fine) × (fragment_in (children_row cs) ≡ fragment cs)

pub record ExprWhole (e : Expr) (d : ℕ) : Type 0 where
  pub tag : ℕ
  pub front : Bytes
  pub inner : Row
  pub row_is : (r : Row) → field tag front inner r ≡ expr_row e r
  pub tag_ok : T (is_expr tag)
  pub deep : Deep d
  pub fine : check_expr_of tag (suc d) front inner ≡ Fine
  pub back : expr_of tag front inner ≡ e

tag_as_expr : (t : Tag) (d : ℕ) → TagWhole t d → ExprWhole (tag_expr t) d
unfolding TagWhole expr_row check_expr_by expr_by choose
tag_as_expr (element n as' cs) d w = record { tag = 0x30; front = []; inner = name_row n (attributes_row as' (children_row cs)); row_is = λ r. refl; tag_ok = tt; deep = w.0; fine = w.1; back = ap (λ (x : Tag). tag_expr x) w.2 }
tag_as_expr (fragment cs) d w = record { tag = 0x31; front = []; inner = children_row cs; row_is = λ r. refl; tag_ok = tt; deep = w.0; fine = w.1; back = ap (λ (x : Tag). tag_expr x) w.2 }

tag_as_child : (t : Tag) (d : ℕ) (r : Row) → TagWhole t d → check_children d r ≡ Fine → (check_children d (tag_row t r) ≡ Fine) × (children_in (tag_row t r) ≡ tag_child t (children_in r))
unfolding TagWhole tag_row check_children check_child_by children_in child_by choose
tag_as_child (element n as' cs) d r w e = (fine_after _ _ (fine_header true d tt w.0) (fine_after _ _ w.1 e), ap (λ (x : Tag). tag_child x (children_in r)) w.2)
tag_as_child (fragment cs) d r w e = (fine_after _ _ (fine_header true d tt w.0) (fine_after _ _ w.1 e), ap (λ (x : Tag). tag_child x (children_in r)) w.2)

tag_as_piece : (t : Tag) (d : ℕ) (r : Row) → TagWhole t d → check_pieces d r ≡ Fine → (check_pieces d (tag_row t r) ≡ Fine) × (pieces_in (tag_row t r) ≡ tag_piece t (pieces_in r))
unfolding TagWhole tag_row check_pieces pieces_in choose
tag_as_piece (element n as' cs) d r w e = (fine_after _ _ (fine_header true d tt w.0) (fine_after _ _ w.1 e), ap (λ (x : Tag). tag_piece x (pieces_in r)) w.2)
tag_as_piece (fragment cs) d r w e = (fine_after _ _ (fine_header true d tt w.0) (fine_after _ _ w.1 e), ap (λ (x : Tag). tag_piece x (pieces_in r)) w.2)

tag_as_value : (t : Tag) (d : ℕ) → TagWhole t d → (check_value d (tag_row t end) ≡ Fine) × (value_behind (tag_row t end) ≡ tag_value t)
unfolding TagWhole tag_row check_value check_end value_behind value_by choose
tag_as_value (element n as' cs) d w = (fine_after _ _ (fine_header true d tt w.0) (fine_after _ _ w.1 refl), ap (λ (x : Tag). tag_value x) w.2)
tag_as_value (fragment cs) d w = (fine_after _ _ (fine_header true d tt w.0) (fine_after _ _ w.1 refl), ap (λ (x : Tag). tag_value x) w.2)

expr_alone : (e : Expr) (d : ℕ) → ExprWhole e d → (check_expr d (expr_row e end) ≡ Fine) × (expr_in (expr_row e end) ≡ e)
unfolding check_expr expr_in check_end
expr_alone e d w =
    subst (λ (x : Row). (check_expr d x ≡ Fine) × (expr_in x ≡ e)) (w.row_is end)
    (fine_after _ _ (fine_header (is_expr w.tag) d w.tag_ok w.deep) (fine_after _ _ w.fine refl), w.back)

expr_contained : (e : Expr) (d : ℕ) → ExprWhole e d → (check_container d (expr_row e end) ≡ Fine) × (contained_in (expr_row e end) ≡ contained e)
unfolding check_container contained_in check_end
expr_contained e d w =
    subst (λ (x : Row). (check_container d x ≡ Fine) × (contained_in x ≡ contained e)) (w.row_is end)
    (fine_after _ _ (fine_header (is_expr w.tag) d w.tag_ok w.deep) (fine_after _ _ w.fine refl), ap (λ (x : Expr). contained x) w.back)

-- an expression is neither a spread nor a hole
no_expr : (t u : ℕ) → T (is_expr t) → (T (is_expr u) → ⊥) → eqb t u ≡ false
no_expr t u h k = ne_eqb t u λ e. k (subst (λ (x : ℕ). T (is_expr x)) e h)

expr_as_item : (e : Expr) (d : ℕ) (r : Row) → ExprWhole e d → check_items d r ≡ Fine → (check_items d (expr_row e r) ≡ Fine) × (items_in (expr_row e r) ≡ item e (items_in r))
unfolding check_items items_in choose
expr_as_item e d r w g =
    let t = w.tag in
    let p = no_expr t 0x77 w.tag_ok (λ x. x) in
    let q = no_expr t 0x78 w.tag_ok (λ x. x) in
    subst (λ (x : Row). (check_items d x ≡ Fine) × (items_in x ≡ item e (items_in r))) (w.row_is r) (
      fine_after _ _ (fine_header (is_expr t || eqb t 0x77 || eqb t 0x78) d (or_left (is_expr t || eqb t 0x77) (eqb t 0x78) (or_left (is_expr t) (eqb t 0x77) w.tag_ok)) w.deep)
          (fine_after _ _ (rw (p, q) w.fine) g),
      rw (p, q) (ap (λ (x : Expr). item x (items_in r)) w.back),
    )

-- ---- every tree within the limits

mutual
  unfolding tag_row TagOk TagWhole check_attributes check_child_by check_expr_by check_end check_empty attributes_in child_by expr_by value_by contained_value contained_child choose number_tag minus_tag number_in

  pub tag_whole : (t : Tag) (d : ℕ) → TagOk t d → TagWhole t d
  tag_whole (element n as' cs) d h =
      let c = children_whole cs (suc d) h.3 in
      let b = children_behind (children_row cs) (suc d) c.0 in
      let a = attributes_whole as' (suc d) (children_row cs) h.2 b.0 b.1 in
      let k = name_whole n (suc d) (attributes_row as' (children_row cs)) h.1 a.0 in
      (h.0, k.0, k.1 ∙ ap₂ (λ (x : Attributes) (y : Children). element n x y) a.1 (children_past as' (children_row cs) ∙ c.1))
  tag_whole (fragment cs) d h =
      let c = children_whole cs (suc d) h.1 in
      (h.0, c.0, sym (fragment_children (children_row cs)) ∙ ap (λ (x : Children). fragment x) c.1)

  pub attributes_whole : (as' : Attributes) (d : ℕ) (x : Row) → AttributesOk as' d → check_attributes d x ≡ Fine → attributes_in x ≡ no_attributes →
      (check_attributes d (attributes_row as' x) ≡ Fine) × (attributes_in (attributes_row as' x) ≡ as')
  attributes_whole no_attributes d x h e g = (e, g)
  attributes_whole (attribute n v as') d x h e g =
      let w = value_whole v (suc d) h.2 in
      let k = attr_name_whole n (suc d) (value_row v) h.1 w.0 in
      let m = attributes_whole as' d x h.3 e g in (
        fine_after _ _ (fine_header true d tt h.0) (fine_after _ _ k.0 m.0),
        ap₂ (λ (y : AttrName) (z : Value). attribute y z (attributes_in (attributes_row as' x))) k.1 (k.2 ∙ w.1) ∙ ap (λ (y : Attributes). attribute n v y) m.1,
      )
  attributes_whole (spread_attribute y as') d x h e g =
      let w = expr_alone y (suc d) (expr_whole y (suc d) h.1) in
      let m = attributes_whole as' d x h.2 e g in
      (fine_after _ _ (fine_header true d tt h.0) (fine_after _ _ w.0 m.0), ap₂ (λ (z : Expr) (q : Attributes). spread_attribute z q) w.1 m.1)

  pub value_whole : (v : Value) (d : ℕ) → ValueOk v d → (check_value d (value_row v) ≡ Fine) × (value_behind (value_row v) ≡ v)
  value_whole absent d h = (refl, refl)
  value_whole (string_value b) d h = (fine_after _ _ (fine_header true d tt h.0) (fine_after _ _ (fine_text b h.1) refl), refl)
  value_whole empty_value d h = (fine_after _ _ (fine_header true d tt h) (fine_after _ _ refl refl), refl)
  value_whole (container_value e) d h =
      let w = expr_contained e (suc d) (expr_whole e (suc d) h.1) in
      (fine_after _ _ (fine_header true d tt h.0) (fine_after _ _ w.0 refl), ap contained_value w.1)
  value_whole (tag_value t) d h = tag_as_value t d (tag_whole t d h)

  pub children_whole : (cs : Children) (d : ℕ) → ChildrenOk cs d → (check_children d (children_row cs) ≡ Fine) × (children_in (children_row cs) ≡ cs)
  children_whole no_children d h = (refl, refl)
  children_whole (text_child b cs) d h =
      let m = children_whole cs d h.2 in
      (fine_after _ _ (fine_header true d tt h.0) (fine_after _ _ (fine_text b h.1) m.0), ap (λ (x : Children). text_child b x) m.1)
  children_whole (empty_child cs) d h =
      let m = children_whole cs d h.1 in
      (fine_after _ _ (fine_header true d tt h.0) (fine_after _ _ refl m.0), ap (λ (x : Children). empty_child x) m.1)
  children_whole (container_child e cs) d h =
      let w = expr_contained e (suc d) (expr_whole e (suc d) h.1) in
      let m = children_whole cs d h.2 in
      (fine_after _ _ (fine_header true d tt h.0) (fine_after _ _ w.0 m.0), ap₂ contained_child w.1 m.1)
  children_whole (tag_child t cs) d h =
      let m = children_whole cs d h.1 in
      let w = tag_as_child t d (children_row cs) (tag_whole t d h.0) m.0 in
      (w.0, w.1 ∙ ap (λ (x : Children). tag_child t x) m.1)
  children_whole (spread_child e cs) d h =
      let w = expr_alone e (suc d) (expr_whole e (suc d) h.1) in
      let m = children_whole cs d h.2 in
      (fine_after _ _ (fine_header true d tt h.0) (fine_after _ _ w.0 m.0), ap₂ (λ (x : Expr) (y : Children). spread_child x y) w.1 m.1)

  pub expr_whole : (e : Expr) (d : ℕ) → ExprOk e d → ExprWhole e d
  expr_whole (string_literal b) d h = record { tag = 0x70; front = b; inner = end; row_is = λ r. refl; tag_ok = tt; deep = h.0; fine = fine_text b h.1; back = refl }
  expr_whole (number_literal (whole n)) d h =
      let w = whole_back 0x71 n refl h.1 in
      record { tag = 0x71; front = number_bytes (whole n); inner = end; row_is = λ r. refl; tag_ok = tt; deep = h.0; fine = w.0; back = ap (λ (x : Number). number_literal x) w.1 }
  expr_whole (number_literal (scaled n p)) d h =
      let w = scaled_back 0x7a n p refl h.1 in
      record { tag = 0x7a; front = number_bytes (scaled n p); inner = end; row_is = λ r. refl; tag_ok = tt; deep = h.0; fine = w.0; back = ap (λ (x : Number). number_literal x) w.1 }
  expr_whole (boolean_literal b) d h =
      let w = boolean_whole b in
      record { tag = 0x72; front = boolean_byte b ∷ []; inner = end; row_is = λ r. refl; tag_ok = tt; deep = h; fine = w.0; back = ap (λ (x : Bool). boolean_literal x) w.1 }
  expr_whole null_literal d h = record { tag = 0x73; front = []; inner = end; row_is = λ r. refl; tag_ok = tt; deep = h; fine = refl; back = refl }
  expr_whole (other_literal b) d h = record { tag = 0x74; front = b; inner = end; row_is = λ r. refl; tag_ok = tt; deep = h.0; fine = fine_text b h.1; back = refl }
  expr_whole (minus_literal (whole n)) d h =
      let w = whole_back 0x75 n refl h.1 in
      record { tag = 0x75; front = number_bytes (whole n); inner = end; row_is = λ r. refl; tag_ok = tt; deep = h.0; fine = w.0; back = ap (λ (x : Number). minus_literal x) w.1 }
  expr_whole (minus_literal (scaled n p)) d h =
      let w = scaled_back 0x7b n p refl h.1 in
      record { tag = 0x7b; front = number_bytes (scaled n p); inner = end; row_is = λ r. refl; tag_ok = tt; deep = h.0; fine = w.0; back = ap (λ (x : Number). minus_literal x) w.1 }
  expr_whole (array_literal is) d h =
      let w = items_whole is (suc d) h.1 in
      record { tag = 0x76; front = []; inner = items_row is; row_is = λ r. refl; tag_ok = tt; deep = h.0; fine = w.0; back = ap (λ (x : Items). array_literal x) w.1 }
  expr_whole (other_expr ps) d h =
      let w = pieces_whole ps (suc d) h.1 in
      record { tag = 0x79; front = []; inner = pieces_row ps; row_is = λ r. refl; tag_ok = tt; deep = h.0; fine = w.0; back = ap (λ (x : Pieces). other_expr x) w.1 }
  expr_whole (tag_expr t) d h = tag_as_expr t d (tag_whole t d h)

  pub items_whole : (is : Items) (d : ℕ) → ItemsOk is d → (check_items d (items_row is) ≡ Fine) × (items_in (items_row is) ≡ is)
  items_whole no_items d h = (refl, refl)
  items_whole (item e is) d h =
      let m = items_whole is d h.1 in
      let w = expr_as_item e d (items_row is) (expr_whole e d h.0) m.0 in
      (w.0, w.1 ∙ ap (λ (x : Items). item e x) m.1)
  items_whole (spread_item e is) d h =
      let w = expr_alone e (suc d) (expr_whole e (suc d) h.1) in
      let m = items_whole is d h.2 in
      (fine_after _ _ (fine_header true d tt h.0) (fine_after _ _ w.0 m.0), ap₂ (λ (x : Expr) (y : Items). spread_item x y) w.1 m.1)
  items_whole (hole_item is) d h =
      let m = items_whole is d h.1 in
      (fine_after _ _ (fine_header true d tt h.0) (fine_after _ _ refl m.0), ap (λ (x : Items). hole_item x) m.1)

  pub pieces_whole : (ps : Pieces) (d : ℕ) → PiecesOk ps d → (check_pieces d (pieces_row ps) ≡ Fine) × (pieces_in (pieces_row ps) ≡ ps)
  pieces_whole no_pieces d h = (refl, refl)
  pieces_whole (source_piece b ps) d h =
      let m = pieces_whole ps d h.2 in
      (fine_after _ _ (fine_header true d tt h.0) (fine_after _ _ (fine_text b h.1) m.0), ap (λ (x : Pieces). source_piece b x) m.1)
  pieces_whole (tag_piece t ps) d h =
      let m = pieces_whole ps d h.1 in
      let w = tag_as_piece t d (pieces_row ps) (tag_whole t d h.0) m.0 in
      (w.0, w.1 ∙ ap (λ (x : Pieces). tag_piece t x) m.1)

-- ---- the page

module_items_whole : (is : Page) → ModuleItemsOk is → (check_module_items (module_items_row is) ≡ Fine) × (module_items_in (module_items_row is) ≡ is)
unfolding check_module_items module_items_in module_item_by choose module_items_row ModuleItemsOk check_empty
module_items_whole [] h = (refl, refl)
module_items_whole (export_item ps ∷ is) h =
    let w = pieces_whole ps 3 h.0 in
    let m = module_items_whole is h.1 in
    (fine_after _ _ (fine_header true 2 tt tt) (fine_after _ _ w.0 m.0), ap₂ (λ (x : Pieces) (y : Page). export_item x ∷ y) w.1 m.1)
module_items_whole (declaration_item ps ∷ is) h =
    let w = pieces_whole ps 3 h.0 in
    let m = module_items_whole is h.1 in
    (fine_after _ _ (fine_header true 2 tt tt) (fine_after _ _ w.0 m.0), ap₂ (λ (x : Pieces) (y : Page). declaration_item x ∷ y) w.1 m.1)
module_items_whole (statement_item ps ∷ is) h =
    let w = pieces_whole ps 3 h.0 in
    let m = module_items_whole is h.1 in
    (fine_after _ _ (fine_header true 2 tt tt) (fine_after _ _ w.0 m.0), ap₂ (λ (x : Pieces) (y : Page). statement_item x ∷ y) w.1 m.1)
module_items_whole (empty_item ∷ is) h =
    let m = module_items_whole is h in
    (fine_after _ _ (fine_header true 2 tt tt) (fine_after _ _ refl m.0), ap (λ (y : Page). empty_item ∷ y) m.1)

pub page_complete : (p : Page) → ModuleItemsOk p → (check_page (page_row p) ≡ Fine) × (page_in (page_row p) ≡ p)
unfolding check_page page_in page_row check_nothing_after choose
page_complete p h = let m = module_items_whole p h in (fine_after _ _ (fine_header true 1 tt tt) (fine_after _ _ m.0 refl), m.1)
