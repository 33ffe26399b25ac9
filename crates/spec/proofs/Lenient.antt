-- Bytes that need not be a page, as the page walk meets them: what they are read as is written again in at most four times their length,
-- so that the law of growth holds of them too. A name or an expression that is missing is made up in three bytes, and a number of one
-- byte is written in eight; what has no place is passed over.
-- Main statements: `fits`, `lenient_growth`, `nothing_growth`. Assumes nothing.
use Prim.Native.Nat.{ℕ, ◌+◌, ◌*◌, ◌≤◌}
use native.Mathlib.Omega.{arith}
use mathlib.Core.Path.{◌≡◌, refl, sym, ap, subst}
use mathlib.Core.Bool.{Bool, true, false}
use mathlib.Core.List.{List, [], ◌∷◌}
use lib.Dec.{eqb}
use lib.ListN.{length, take, drop, length-append, take-append-drop}
use borrow.Author.Tests.{eqb-true}
use Rattle.field.specs.Bytes.{Bytes}
use Rattle.field.specs.Row.{Row, end, loose, field, bytes, read}
use Rattle.field.proofs.RowLaws.{length_bytes, next_sizes, next_nothing, read_ind}
use Rattle.names.specs.Names.{AttrName}
use Rattle.page.specs.Number.{is_number, is_minus, number_tag, minus_tag, number_bytes, number_in}
use Rattle.page.proofs.NumberLaws.{number_size}
use Rattle.page.specs.Page as P
use Rattle.page.specs.Page.{Options}
use Rattle.page.specs.Encode.{boolean_byte, texts_row, name_row, attr_name_row, tag_row, attributes_row, value_row, children_row, expr_row, items_row, pieces_row}
use Rattle.page.specs.Tree.{choose, texts_in, first_in, second_in, name_by, attr_name_by, boolean_in, expr_by, Contained, nothing_contained, contained, contained_value, contained_child, value_by, child_by, element_in, fragment_in, attributes_in, attr_name_in, value_in, value_behind, children_in, contained_in, expr_in, items_in, pieces_in}
pub use Rattle.page.proofs.TightRows.{length_read}
use Rattle.page.proofs.Tags.{tag_or}
use Rattle.spec.specs.Pass.{none}
use Rattle.spec.specs.Visit.{visit_exprs}
use Rattle.spec.specs.Transform.{templates_row, expr}
use Rattle.spec.proofs.Cost.{templates_size, written_size, none_costs, visit_costs}
use Rattle.spec.proofs.Growth.{size, tag_body, tag_front, expr_front, two_names, expr_growth}

-- ---- by a tag

-- whichever is taken
pub chosen : {A : Type 0} (P : A → Type 0) (b : Bool) (f g : Unit {0} → A) → P (f tt) → P (g tt) → P (choose b f g)
unfolding choose
chosen P true f g x y = x
chosen P false f g x y = y

-- ---- names

texts_fit : (u : ℕ) (x : Row) → size (texts_row 0x40 (texts_in u x)) ≤ size x
unfolding texts_row texts_in bytes
texts_fit u end = omega arith
texts_fit u (loose b) = omega arith
texts_fit u (field t f i r) =
    chosen (λ (ns : List Bytes). size (texts_row 0x40 ns) ≤ size (field t f i r)) (eqb t u) _ _
    (omega (arith, texts_fit u r, length_bytes 0x40 f end (texts_row 0x40 (texts_in u r)), length_bytes t f i r)) (omega (arith, texts_fit u r, length_bytes t f i r))

two_fit : (ns : List Bytes) → length (first_in ns) + length (second_in ns) ≤ size (texts_row 0x40 ns)
unfolding first_in second_in texts_row bytes
two_fit [] = omega arith
two_fit (n ∷ []) = omega (arith, length_bytes 0x40 n end end)
two_fit (n ∷ m ∷ ns) = omega (arith, length_bytes 0x40 n end (field 0x40 m end (texts_row 0x40 ns)), length_bytes 0x40 m end (texts_row 0x40 ns))

pair_fits : (i r : Row) → let n = first_in (texts_in 0x40 i) in let m = second_in (texts_in 0x40 i) in size (field 0x42 [] (texts_row 0x40 (n ∷ m ∷ [])) r) ≤ 9 + size i + size r
pair_fits i r =
    let n = first_in (texts_in 0x40 i) in
    let m = second_in (texts_in 0x40 i) in
    omega (arith, length_bytes 0x42 [] (texts_row 0x40 (n ∷ m ∷ [])) r, two_names n m, two_fit (texts_in 0x40 i), texts_fit 0x40 i)

name_fits : (t : ℕ) (f : Bytes) (i r : Row) → size (name_row (name_by t f i) r) ≤ 9 + length f + size i + size r
unfolding name_by name_row bytes
name_fits t f i r =
    let fit : P.Name → Type 0 = λ n. size (name_row n r) ≤ 9 + length f + size i + size r in
    chosen fit (eqb t 0x40) _ _ (omega (arith, length_bytes 0x40 f end r))
    (chosen fit (eqb t 0x41) _ _ (omega (arith, length_bytes 0x41 [] (texts_row 0x40 (texts_in 0x40 i)) r, texts_fit 0x40 i))
    (chosen fit (eqb t 0x42) _ _ (omega (arith, pair_fits i r)) (omega (arith, length_bytes 0x40 [] end r))))

attr_name_fits : (t : ℕ) (f : Bytes) (i r : Row) → size (attr_name_row (attr_name_by t f i) r) ≤ 9 + length f + size i + size r
unfolding attr_name_by attr_name_row bytes
attr_name_fits t f i r =
    let fit : AttrName → Type 0 = λ n. size (attr_name_row n r) ≤ 9 + length f + size i + size r in
    chosen fit (eqb t 0x40) _ _ (omega (arith, length_bytes 0x40 f end r)) (chosen fit (eqb t 0x42) _ _ (omega (arith, pair_fits i r)) (omega (arith, length_bytes 0x40 [] end r)))

-- ---- a row: every reading of it

unfoldable pub contained_size : Contained → ℕ
contained_size nothing_contained = 0
contained_size (contained e) = size (expr_row e end)

-- attributes and children are read from one row, and have its length once
pub record SmallTree (x : Row) : Type 0 where
  pub element_fits : size (tag_body (element_in x)) ≤ 4 * size x + 3
  pub fragment_fits : size (tag_body (fragment_in x)) ≤ 4 * size x
  pub body_fits : size (attributes_row (attributes_in x) (children_row (children_in x))) ≤ 4 * size x
  pub children_fit : size (children_row (children_in x)) ≤ 4 * size x
  pub attribute_fits : size (attr_name_row (attr_name_in x) (value_row (value_in x))) ≤ 4 * size x + 3
  pub value_fits : size (value_row (value_behind x)) ≤ 4 * size x
  pub contained_fits : contained_size (contained_in x) ≤ 4 * size x
  pub expr_fits : size (expr_row (expr_in x) end) ≤ 4 * size x + 3
  pub items_fit : size (items_row (items_in x)) ≤ 4 * size x
  pub pieces_fit : size (pieces_row (pieces_in x)) ≤ 4 * size x

-- ---- a field, by what it holds and what lies behind it

module _ (t : ℕ) (f : Bytes) (i r : Row) (a : SmallTree i) (b : SmallTree r) where
  all : size (field t f i r) ≡ 3 + length f + size i + size r
  all = length_bytes t f i r

  element_front : (y : Row) → size (tag_row (element_in i) y) ≤ 6 + 4 * size i + size y
  element_front y = omega (arith, tag_front (element_in i) y, a.element_fits)

  fragment_front : (y : Row) → size (tag_row (fragment_in i) y) ≤ 6 + 4 * size i + size y
  fragment_front y = omega (arith, tag_front (fragment_in i) y, a.fragment_fits)

  abbrev this_expr : P.Expr
  this_expr = expr_by t f (λ _. items_in i) (λ _. pieces_in i) (λ _. element_in i) (λ _. fragment_in i)

  this_expr_fits : size (expr_row this_expr end) ≤ 12 + 4 * length f + 4 * size i
  unfolding expr_by expr_row bytes
  this_expr_fits =
      let fit : P.Expr → Type 0 = λ e. size (expr_row e end) ≤ 12 + 4 * length f + 4 * size i in
      chosen fit (eqb t 0x70) _ _ (omega (arith, length_bytes 0x70 f end end))
      (chosen fit (is_number t) _ _ (omega (arith, length_bytes (number_tag (number_in t f)) (number_bytes (number_in t f)) end end, number_size (number_in t f)))
      (chosen fit (eqb t 0x72) _ _ (omega (arith, length_bytes 0x72 (boolean_byte (boolean_in f) ∷ []) end end))
      (chosen fit (eqb t 0x74) _ _ (omega (arith, length_bytes 0x74 f end end))
      (chosen fit (is_minus t) _ _ (omega (arith, length_bytes (minus_tag (number_in t f)) (number_bytes (number_in t f)) end end, number_size (number_in t f)))
      (chosen fit (eqb t 0x76) _ _ (omega (arith, length_bytes 0x76 [] (items_row (items_in i)) end, a.items_fit))
      (chosen fit (eqb t 0x79) _ _ (omega (arith, length_bytes 0x79 [] (pieces_row (pieces_in i)) end, a.pieces_fit))
      (chosen fit (eqb t 0x30) _ _ (omega (arith, element_front end))
      (chosen fit (eqb t 0x31) _ _ (omega (arith, fragment_front end)) (omega (arith, length_bytes 0x73 [] end end))))))))))

  -- braces around it
  braces_value : (c : Contained) → contained_size c ≤ 4 * size i → size (value_row (contained_value c)) ≤ 3 + 4 * size i
  unfolding contained_size contained_value value_row bytes
  braces_value nothing_contained h = omega (arith, length_bytes 0x52 [] end end)
  braces_value (contained e) h = omega (arith, length_bytes 0x52 [] (expr_row e end) end)

  braces_child : (c : Contained) (cs : P.Children) → contained_size c ≤ 4 * size i → size (children_row (contained_child c cs)) ≤ 3 + 4 * size i + size (children_row cs)
  unfolding contained_size contained_child children_row bytes
  braces_child nothing_contained cs h = omega (arith, length_bytes 0x52 [] end (children_row cs))
  braces_child (contained e) cs h = omega (arith, length_bytes 0x52 [] (expr_row e end) (children_row cs))

  this_value_fits : size (value_row (value_behind (field t f i r))) ≤ 4 * size (field t f i r)
  unfolding value_behind value_by value_row bytes
  this_value_fits =
      let fit : P.Value → Type 0 = λ v. size (value_row v) ≤ 4 * size (field t f i r) in
      chosen fit (eqb t 0x51) _ _ (omega (arith, all, length_bytes 0x51 f end end))
      (chosen fit (eqb t 0x52) _ _ (omega (arith, all, braces_value (contained_in i) a.contained_fits))
      (chosen fit (eqb t 0x30) _ _ (omega (arith, all, element_front end)) (chosen fit (eqb t 0x31) _ _ (omega (arith, all, fragment_front end)) (omega arith))))

  this_children_fit : size (children_row (children_in (field t f i r))) ≤ 4 * size (field t f i r)
  unfolding children_in child_by children_row bytes
  this_children_fit =
      let fit : P.Children → Type 0 = λ cs. size (children_row cs) ≤ 4 * size (field t f i r) in
      let cs = children_in r in
      chosen fit (eqb t 0x60) _ _ (omega (arith, all, length_bytes 0x60 f end (children_row cs), b.children_fit))
      (chosen fit (eqb t 0x52) _ _ (omega (arith, all, braces_child (contained_in i) cs a.contained_fits, b.children_fit))
      (chosen fit (eqb t 0x30) _ _ (omega (arith, all, element_front (children_row cs), b.children_fit))
      (chosen fit (eqb t 0x31) _ _ (omega (arith, all, fragment_front (children_row cs), b.children_fit))
      (chosen fit (eqb t 0x61) _ _ (omega (arith, all, length_bytes 0x61 [] (expr_row (expr_in i) end) (children_row cs), a.expr_fits, b.children_fit)) (omega (arith, all, b.children_fit))))))

  this_items_fit : size (items_row (items_in (field t f i r))) ≤ 4 * size (field t f i r)
  unfolding items_in items_row bytes
  this_items_fit =
      let fit : P.Items → Type 0 = λ is. size (items_row is) ≤ 4 * size (field t f i r) in
      let is = items_in r in
      chosen fit (eqb t 0x77) _ _ (omega (arith, all, length_bytes 0x77 [] (expr_row (expr_in i) end) (items_row is), a.expr_fits, b.items_fit))
      (chosen fit (eqb t 0x78) _ _ (omega (arith, all, length_bytes 0x78 [] end (items_row is), b.items_fit)) (omega (arith, all, expr_front this_expr (items_row is), this_expr_fits, b.items_fit)))

  this_pieces_fit : size (pieces_row (pieces_in (field t f i r))) ≤ 4 * size (field t f i r)
  unfolding pieces_in pieces_row bytes
  this_pieces_fit =
      let fit : P.Pieces → Type 0 = λ ps. size (pieces_row ps) ≤ 4 * size (field t f i r) in
      let ps = pieces_in r in
      chosen fit (eqb t 0x20) _ _ (omega (arith, all, length_bytes 0x20 f end (pieces_row ps), b.pieces_fit))
      (chosen fit (eqb t 0x30) _ _ (omega (arith, all, element_front (pieces_row ps), b.pieces_fit))
      (chosen fit (eqb t 0x31) _ _ (omega (arith, all, fragment_front (pieces_row ps), b.pieces_fit)) (omega (arith, all, b.pieces_fit))))

-- a 50 and a 53 are no children, and a child ends the attributes
body_at : (t : ℕ) (f : Bytes) (i r : Row) → SmallTree i → SmallTree r → size (attributes_row (attributes_in (field t f i r)) (children_row (children_in (field t f i r)))) ≤ 4 * size (field t f i r)
unfolding attributes_in children_in child_by choose attributes_row bytes
body_at t f i r a b =
    let fit : ℕ → Type 0 = λ t. size (attributes_row (attributes_in (field t f i r)) (children_row (children_in (field t f i r)))) ≤ 4 * size (field t f i r) in
    let rest = attributes_row (attributes_in r) (children_row (children_in r)) in
    tag_or fit t 0x50 (omega (arith, all 0x50 f i r a b, length_bytes 0x50 [] (attr_name_row (attr_name_in i) (value_row (value_in i))) rest, a.attribute_fits, b.body_fits)) λ p.
    tag_or fit t 0x53 (omega (arith, all 0x53 f i r a b, length_bytes 0x53 [] (expr_row (expr_in i) end) rest, a.expr_fits, b.body_fits)) λ q.
    rw (p, q) (this_children_fit t f i r a b)

-- ---- every row

pub fits : (x : Row) → SmallTree x
unfolding element_in fragment_in attributes_in attr_name_in value_in value_behind children_in contained_in expr_in items_in pieces_in contained_size tag_body name_row attr_name_row attributes_row value_row children_row expr_row items_row pieces_row bytes
fits end =
    record {
      element_fits = omega (arith, length_bytes 0x40 [] end end);
      fragment_fits = omega arith;
      body_fits = omega arith;
      children_fit = omega arith;
      attribute_fits = omega (arith, length_bytes 0x40 [] end end);
      value_fits = omega arith;
      contained_fits = omega arith;
      expr_fits = omega (arith, length_bytes 0x73 [] end end);
      items_fit = omega arith;
      pieces_fit = omega arith;
    }
fits (loose b) =
    record {
      element_fits = omega (arith, length_bytes 0x40 [] end end);
      fragment_fits = omega arith;
      body_fits = omega arith;
      children_fit = omega arith;
      attribute_fits = omega (arith, length_bytes 0x40 [] end end);
      value_fits = omega arith;
      contained_fits = omega arith;
      expr_fits = omega (arith, length_bytes 0x73 [] end end);
      items_fit = omega arith;
      pieces_fit = omega arith;
    }
fits (field t f i r) =
    let a = fits i in
    let b = fits r in
    let l = length_bytes t f i r in
    record {
      element_fits = omega (arith, l, name_fits t f i (attributes_row (attributes_in r) (children_row (children_in r))), b.body_fits);
      fragment_fits = this_children_fit t f i r a b;
      body_fits = body_at t f i r a b;
      children_fit = this_children_fit t f i r a b;
      attribute_fits = omega (arith, l, attr_name_fits t f i (value_row (value_behind r)), b.value_fits);
      value_fits = this_value_fits t f i r a b;
      contained_fits = omega (arith, l, this_expr_fits t f i r a b);
      expr_fits = omega (arith, l, this_expr_fits t f i r a b);
      items_fit = this_items_fit t f i r a b;
      pieces_fit = this_pieces_fit t f i r a b;
    }

-- ---- the law

-- what braces hold
pub lenient_growth : (o : Options) (c : Bytes) (e : P.Expr) (n : ℕ) → contained_in (read c) ≡ contained e →
    let d = visit_exprs (expr o e none) n in length (bytes (templates_row d.templates)) + length (bytes d.value) + d.taken ≤ 2048 * length c
unfolding contained_size written_size templates_size
lenient_growth o c e n h =
    let k : contained_size (contained e) ≤ 4 * size (read c) = subst (λ (x : Contained). contained_size x ≤ 4 * size (read c)) h (fits (read c)).contained_fits in
    omega (arith, k, length_read c, expr_growth o e n)

pub nothing_growth : (c : Bytes) (n : ℕ) → let d = visit_exprs none n in length (bytes (templates_row d.templates)) + length (bytes d.value) + d.taken ≤ 2048 * length c
unfolding written_size templates_size
nothing_growth c n = let k : written_size (visit_exprs none n) ≤ 0 = visit_costs none_costs n in omega (arith, k)
