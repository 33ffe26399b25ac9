-- What is written grows by what is read, and a field that ends gets its length. Main statements: `attributes_more`, `children_more`,
-- `head_last`, `field_closed`, `tag_field`. Assumes nothing.
use Prim.Native.Nat.{ℕ, zero, suc, ◌+◌, ◌-◌, ◌≤◌}
use mathlib.Core.Path.{◌≡◌, refl, sym, ◌∙◌, ap}
use mathlib.Core.List.{[], ◌∷◌, ◌++◌, append-nil, append_assoc}
use native.Mathlib.Omega.{arith}
use lib.ListN.{length, length-append}
use Rattle.field.specs.Bytes.{Bytes}
use Rattle.field.specs.Row.{Row, end, field, field_bytes, bytes}
use Rattle.field.specs.Put.{put, head}
use Rattle.field.proofs.PutLaws.{put_put, put_back, length_head}
use Rattle.names.specs.Names as A
use Rattle.page.specs.Page as P
use Rattle.page.specs.Encode.{texts_row, name_row, attr_name_row, tag_row, attributes_row, value_row, children_row, expr_row}
use Rattle.grammar.specs.Syntax as S
use Rattle.grammar.specs.Syntax.{Name, no_attributes, join_attributes, join_children}
use Rattle.tag_tree.specs.PageTag.{page_name, page_attr_name, page_tag, page_tag_by, page_attributes, page_attribute, page_children, page_child, page_expr}
use Rattle.read_tag.specs.Progress.{tag_code, name_bytes, attr_name_bytes, attribute_bytes, attributes_bytes, child_bytes, children_bytes, bytes_of_tag, begun, Plain}

-- ---- rows one behind the other

name_behind : (n : P.Name) (x : Row) → bytes (name_row n x) ≡ bytes (name_row n end) ++ bytes x
unfolding name_row bytes
name_behind (P.identifier w) x = ap (λ (z : Bytes). z ++ bytes x) (sym (append-nil (field_bytes 0x40 (w ++ []))))
name_behind (P.member ns) x = ap (λ (z : Bytes). z ++ bytes x) (sym (append-nil (field_bytes 0x41 (bytes (texts_row 0x40 ns)))))
name_behind (P.namespaced w v) x = ap (λ (z : Bytes). z ++ bytes x) (sym (append-nil (field_bytes 0x42 (bytes (texts_row 0x40 (w ∷ v ∷ []))))))

tag_behind : (t : P.Tag) (x : Row) → bytes (tag_row t x) ≡ bytes (tag_row t end) ++ bytes x
unfolding tag_row bytes
tag_behind (P.element n as' cs) x = ap (λ (z : Bytes). z ++ bytes x) (sym (append-nil (field_bytes 0x30 (bytes (name_row n (attributes_row as' (children_row cs)))))))
tag_behind (P.fragment cs) x = ap (λ (z : Bytes). z ++ bytes x) (sym (append-nil (field_bytes 0x31 (bytes (children_row cs)))))

pub one_field : (t : ℕ) (f : Bytes) (i r : Row) → bytes (field t f i r) ≡ bytes (field t f i end) ++ bytes r
unfolding bytes
one_field t f i r = ap (λ (z : Bytes). z ++ bytes r) (sym (append-nil (field_bytes t (f ++ bytes i))))

attributes_behind : (as' : P.Attributes) (x : Row) → bytes (attributes_row as' x) ≡ bytes (attributes_row as' end) ++ bytes x
unfolding tag_row bytes
attributes_behind P.no_attributes x = refl
attributes_behind (P.attribute n v as') x =
    ap (λ (z : Bytes). field_bytes 0x50 (bytes (attr_name_row n (value_row v))) ++ z) (attributes_behind as' x) ∙
    sym (append_assoc (field_bytes 0x50 (bytes (attr_name_row n (value_row v)))) (bytes (attributes_row as' end)) (bytes x))
attributes_behind (P.spread_attribute e as') x =
    ap (λ (z : Bytes). field_bytes 0x53 (bytes (expr_row e end)) ++ z) (attributes_behind as' x) ∙
    sym (append_assoc (field_bytes 0x53 (bytes (expr_row e end))) (bytes (attributes_row as' end)) (bytes x))

-- ---- one more at the end

attribute_front : (a : S.Attribute) (as' : P.Attributes) → bytes (attributes_row (page_attribute a as') end) ≡ attribute_bytes a ++ bytes (attributes_row as' end)
unfolding attribute_bytes page_tag tag_row
attribute_front (S.no_value n) as' = one_field 0x50 [] (attr_name_row (page_attr_name n) end) (attributes_row as' end)
attribute_front (S.string_value n w) as' = one_field 0x50 [] (attr_name_row (page_attr_name n) (value_row (P.string_value w))) (attributes_row as' end)
attribute_front (S.container_value n b) as' = one_field 0x50 [] (attr_name_row (page_attr_name n) (value_row (P.container_value (page_expr b)))) (attributes_row as' end)
attribute_front (S.tag_value n t) as' = one_field 0x50 [] (attr_name_row (page_attr_name n) (value_row (P.tag_value (page_tag t)))) (attributes_row as' end)
attribute_front (S.spread_attribute b) as' = one_field 0x53 [] (expr_row (page_expr b) end) (attributes_row as' end)

pub attributes_more : (ps : S.Attributes) (a : S.Attribute) → attributes_bytes (S.add_attribute ps a) ≡ attributes_bytes ps ++ attribute_bytes a
unfolding attributes_bytes join_attributes page_tag
attributes_more S.no_attributes a = unfold attribute_bytes tag_row bytes in refl
attributes_more (S.attribute b ps) a =
    attribute_front b (page_attributes (join_attributes ps (S.attribute a S.no_attributes))) ∙
    ap (λ (z : Bytes). attribute_bytes b ++ z) (attributes_more ps a) ∙
    sym (append_assoc (attribute_bytes b) (attributes_bytes ps) (attribute_bytes a)) ∙
    ap (λ (z : Bytes). z ++ attribute_bytes a) (sym (attribute_front b (page_attributes ps)))

child_front : (k : S.Child) (cs : P.Children) → bytes (children_row (page_child k cs)) ≡ child_bytes k ++ bytes (children_row cs)
unfolding child_bytes page_tag tag_row
child_front (S.text_child w) cs = one_field 0x60 w end (children_row cs)
child_front (S.tag_child t) cs = tag_behind (page_tag t) (children_row cs)
child_front S.empty_child cs = one_field 0x52 [] end (children_row cs)
child_front (S.container_child b) cs = one_field 0x52 [] (expr_row (page_expr b) end) (children_row cs)
child_front (S.spread_child b) cs = one_field 0x61 [] (expr_row (page_expr b) end) (children_row cs)

pub children_more : (ks : S.Children) (k : S.Child) → children_bytes (S.add_child ks k) ≡ children_bytes ks ++ child_bytes k
unfolding children_bytes join_children page_tag
children_more S.no_children k = unfold child_bytes tag_row bytes in refl
children_more (S.child j ks) k =
    child_front j (page_children (join_children ks (S.child k S.no_children))) ∙
    ap (λ (z : Bytes). child_bytes j ++ z) (children_more ks k) ∙
    sym (append_assoc (child_bytes j) (children_bytes ks) (child_bytes k)) ∙
    ap (λ (z : Bytes). z ++ child_bytes k) (sym (child_front j (page_children ks)))

-- ---- fields whole

-- a tag with a name; a fragment has no attributes
pub tag_whole : (p : S.Part) (n : Name) (ps : S.Attributes) (ks : S.Children) (m : Name) → bytes_of_tag (S.tag (p ∷ n) ps ks m) ≡ field_bytes 0x30 (name_bytes (p ∷ n) ++ (attributes_bytes ps ++ children_bytes ks))
unfolding bytes_of_tag name_bytes attributes_bytes children_bytes page_tag page_tag_by tag_row bytes
tag_whole p n ps ks m =
    append-nil (field_bytes 0x30 (bytes (name_row (page_name (p ∷ n)) (attributes_row (page_attributes ps) (children_row (page_children ks)))))) ∙
    ap (field_bytes 0x30)
    (name_behind (page_name (p ∷ n)) (attributes_row (page_attributes ps) (children_row (page_children ks))) ∙
    ap (λ (z : Bytes). bytes (name_row (page_name (p ∷ n)) end) ++ z) (attributes_behind (page_attributes ps) (children_row (page_children ks))))

pub fragment_whole : (ks : S.Children) (m : Name) → bytes_of_tag (S.tag [] S.no_attributes ks m) ≡ field_bytes 0x31 (children_bytes ks)
unfolding bytes_of_tag children_bytes page_tag page_tag_by tag_row bytes
fragment_whole ks m = append-nil (field_bytes 0x31 (bytes (children_row (page_children ks))))

-- ---- the head of a field that ends, over the one without a length

put_again : (o : Bytes) (n : ℕ) (x z : Bytes) → length x ≤ length z → put (put o n x) n z ≡ put o n z
unfolding put
put_again [] n x z h = refl
put_again (c ∷ o) (suc n) x z h = ap (λ (y : Bytes). c ∷ y) (put_again o n x z h)
put_again (c ∷ o) zero [] z h = refl
put_again (c ∷ o) zero (a ∷ x) [] h = absurd (omega arith)
put_again (c ∷ o) zero (a ∷ x) (b ∷ z) h = ap (λ (y : Bytes). b ∷ y) (put_again o zero x z (omega arith))

-- the front of what stands at n, put there anew
put_front : (o : Bytes) (n : ℕ) (x y b : Bytes) → length x ≡ length y → put (put o n (x ++ b)) n y ≡ put o n (y ++ b)
put_front o n x y b e =
    ap (λ (z : Bytes). put z n y) (sym (put_put o n x b)) ∙
    ap (λ (k : ℕ). put (put (put o n x) (n + k) b) n y) e ∙
    put_back (put o n x) n y b ∙
    put_again o n x (y ++ b) (omega (arith, e, length-append y b))

put_split : (o w y : Bytes) → put (put o 0 w) (length w) y ≡ put o 0 (w ++ y)
put_split o w y =
    let z : length w ≡ 0 + length w = omega arith in
    ap (λ (k : ℕ). put (put o 0 w) k y) z ∙ put_put o 0 w y

pub head_last : (o w b : Bytes) (t : ℕ) → put (put o 0 (w ++ (head t 0 ++ b))) (length w) (head t (length b)) ≡ put o 0 (w ++ field_bytes t b)
unfolding field_bytes
head_last o w b t =
    ap (λ (z : Bytes). put z (length w) (head t (length b))) (sym (put_split o w (head t 0 ++ b))) ∙
    put_front (put o 0 w) (length w) (head t 0) (head t (length b)) b (length_head t 0 ∙ sym (length_head t (length b))) ∙
    put_split o w (head t (length b) ++ b)

-- ---- a tag, and any field

pub body_of : (w : Bytes) (n : Name) (ps : S.Attributes) (ks : S.Children) → begun w n ps ++ children_bytes ks ≡ w ++ (head (tag_code n) 0 ++ (name_bytes n ++ (attributes_bytes ps ++ children_bytes ks)))
unfolding begun
body_of w n ps ks = simp append_assoc

bare : (ks : S.Children) → attributes_bytes S.no_attributes ++ children_bytes ks ≡ children_bytes ks
unfolding attributes_bytes page_tag tag_row bytes
bare ks = refl

pub tag_field : (n : Name) (ps : S.Attributes) (ks : S.Children) (m : Name) → Plain n ps → field_bytes (tag_code n) (name_bytes n ++ (attributes_bytes ps ++ children_bytes ks)) ≡ bytes_of_tag (S.tag n ps ks m)
unfolding Plain tag_code name_bytes
tag_field [] ps ks m e =
    ap (λ (z : S.Attributes). field_bytes 0x31 (attributes_bytes z ++ children_bytes ks)) e ∙
    ap (field_bytes 0x31) (bare ks) ∙
    sym (fragment_whole ks m) ∙
    ap (λ (z : S.Attributes). bytes_of_tag (S.tag [] z ks m)) (sym e)
tag_field (p ∷ n) ps ks m e = sym (tag_whole p n ps ks m)

-- any field that ends, its head standing behind w
pub field_closed : (o w b : Bytes) (t : ℕ) → put (put o 0 ((w ++ head t 0) ++ b)) (length w) (head t (length ((w ++ head t 0) ++ b) - (length w + 3))) ≡ put o 0 (w ++ field_bytes t b)
field_closed o w b t =
    let e : (w ++ head t 0) ++ b ≡ w ++ (head t 0 ++ b) = append_assoc w (head t 0) b in
    let l : length (w ++ (head t 0 ++ b)) - (length w + 3) ≡ length b = omega (arith, length-append w (head t 0 ++ b), length-append (head t 0) b, length_head t 0) in
    ap (λ (z : Bytes). put (put o 0 z) (length w) (head t (length z - (length w + 3)))) e ∙
    ap (λ (k : ℕ). put (put o 0 (w ++ (head t 0 ++ b))) (length w) (head t k)) l ∙
    head_last o w b t

pub begun_more : (w : Bytes) (n : Name) (ps : S.Attributes) (a : S.Attribute) → begun w n (S.add_attribute ps a) ≡ begun w n ps ++ attribute_bytes a
unfolding begun
begun_more w n ps a =
    ap (λ (z : Bytes). w ++ (head (tag_code n) 0 ++ (name_bytes n ++ z))) (attributes_more ps a) ∙ simp append_assoc

-- ---- each attribute and child as a field

pub attr_name_behind : (n : A.AttrName) (x : Row) → bytes (attr_name_row n x) ≡ bytes (attr_name_row n end) ++ bytes x
unfolding attr_name_row
attr_name_behind (A.ident w) x = one_field 0x40 w end x
attr_name_behind (A.namespaced w v) x = one_field 0x42 [] (texts_row 0x40 (w ∷ v ∷ [])) x

pub field_alone : (t : ℕ) (i : Row) → bytes (field t [] i end) ≡ field_bytes t (bytes i)
unfolding bytes
field_alone t i = append-nil (field_bytes t (bytes i))

pub leaf_alone : (t : ℕ) (w : Bytes) → bytes (field t w end end) ≡ field_bytes t w
unfolding bytes
leaf_alone t w = append-nil (field_bytes t (w ++ [])) ∙ ap (field_bytes t) (append-nil w)

-- 50: its name, and the row of its value
pub attribute_alone : (n : Name) (x : Row) → bytes (field 0x50 [] (attr_name_row (page_attr_name n) x) end) ≡ field_bytes 0x50 (attr_name_bytes n ++ bytes x)
unfolding attr_name_bytes
attribute_alone n x = field_alone 0x50 (attr_name_row (page_attr_name n) x) ∙ ap (field_bytes 0x50) (attr_name_behind (page_attr_name n) x)

pub text_child_bytes : (w : Bytes) → child_bytes (S.text_child w) ≡ field_bytes 0x60 w
unfolding child_bytes page_tag tag_row
text_child_bytes w = leaf_alone 0x60 w

pub empty_child_bytes : child_bytes S.empty_child ≡ field_bytes 0x52 []
unfolding child_bytes page_tag tag_row
empty_child_bytes = leaf_alone 0x52 []
