-- What is made grows by what is read, and a field that ends gets its length. Main statements: `made_more`, `made_closed`, `child_more`,
-- `attribute_ended`, `braces_ended`, `tag_ended`. Assumes nothing.
use Prim.Native.Nat.{ℕ, suc, ◌+◌, ◌-◌}
use mathlib.Core.Path.{◌≡◌, refl, sym, ◌∙◌, ap, ap₂}
use mathlib.Core.Bool.{Bool, true, false, ◌&&◌, false≢true}
use mathlib.Core.List.{[], ◌∷◌, ◌++◌, append-nil, append_assoc}
use native.Mathlib.Omega.{arith}
use lib.Dec.{leb}
use lib.ListN.{length, length-append}
use Rattle.field.specs.Bytes.{Bytes}
use Rattle.field.specs.Row.{Row, end, field, field_bytes, bytes}
use Rattle.field.specs.Put.{put, head}
use Rattle.field.proofs.PutLaws.{put_put, length_head, length_field_bytes}
use Rattle.names.specs.Names as AN
use Rattle.page.specs.Page as P
use Rattle.page.specs.Encode.{texts_row, name_row, attr_name_row, tag_row, attributes_row, value_row, children_row, expr_row}
use Rattle.grammar.specs.Syntax as S
use Rattle.grammar.specs.Syntax.{Name, Attributes, Children, same_name, every_tag, every_attributes, every_attribute, every_children, every_child}
use Rattle.tag_tree.specs.PageTag.{page_name, page_attr_name, page_tag, page_tag_by, page_attributes, page_attribute, page_children, page_child}
use Rattle.tag_tree.specs.TagAnswer.{shallow, known_in_range}
use Rattle.read_tag.specs.Progress.{tag_code, name_bytes, attr_name_bytes, attribute_bytes, attributes_bytes, child_bytes, children_bytes, begun, attribute_begun, Plain}
use Rattle.read_tag.proofs.ProgressLaws as L
use Rattle.read_tag.proofs.FlagLaws.{and_assoc, and_true, every_attributes_more, every_children_more, shallow_attributes_more, shallow_children_more}
use Rattle.tag_pass.specs.Worlds.{World, more, any_known, any_names, shallow_name, tag_world, children_world, value_world, ended_world, Made}

pub world_is : {b b' : Bytes} {x x' y y' z z' : Bool} → b ≡ b' → x ≡ x' → y ≡ y' → z ≡ z' → ◌≡◌ {A = World} (record { bytes = b; names = x; numbers = y; shallow = z }) (record { bytes = b'; names = x'; numbers = y'; shallow = z' })
world_is e f g h = cc

-- ---- tests joined

and_left : (a b : Bool) → a && b ≡ true → a ≡ true
and_left true b e = refl
and_left false b e = absurd (false≢true e)

and_right : (a b : Bool) → a && b ≡ true → b ≡ true
and_right true b e = e
and_right false b e = absurd (false≢true e)

-- what stands behind a field's own test and its inner row
and_split : (a b c : Bool) → a && (b && c) ≡ (a && (b && true)) && c
and_split true true c = refl
and_split true false c = refl
and_split false b c = refl

-- a closing name is compared last
and_turn : (k a c s : Bool) → ((k && a) && c) && s ≡ k && (s && (a && c))
and_turn false a c s = refl
and_turn true true true true = refl
and_turn true true true false = refl
and_turn true true false true = refl
and_turn true true false false = refl
and_turn true false c true = refl
and_turn true false c false = refl

and_four : (k a b c e : Bool) → (k && (a && (b && c))) && e ≡ k && (a && (b && (c && e)))
and_four false a b c e = refl
and_four true false b c e = refl
and_four true true false c e = refl
and_four true true true c e = refl

-- ---- what is made, in the buffer

over : {out : Bytes} {at : ℕ} (o w v : Bytes) → out ≡ put o 0 w → at ≡ length w → put out at v ≡ put o 0 (w ++ v)
over {out} {at} o w v e l =
    let z : at ≡ 0 + length w = omega arith in
    ap₂ (λ (x : Bytes) (k : ℕ). put x k v) e z ∙ put_put o 0 w v

pub made_more : {o out out' : Bytes} {W : World} {at at' : ℕ} {a b d : Bool} (w : Bytes) (x y z : Bool) → Made o W out at a b d → at' ≡ at + length w → (y ≡ true → out' ≡ put out at w) → Made o (more W w x y z) out' at' (a && x) (b && y) (d && z)
made_more {o} {out} {out'} {W} {at} w x y z m e p =
    record {
      at_is = omega (arith, m.at_is, length-append W.bytes w);
      out_is = λ q. p (and_right W.numbers y q) ∙ over o W.bytes w (m.out_is (and_left W.numbers y q)) m.at_is;
      names_is = ap (λ (k : Bool). k && x) m.names_is;
      numbers_is = ap (λ (k : Bool). k && y) m.numbers_is;
      shallow_is = ap (λ (k : Bool). k && z) m.shallow_is;
    }

-- a field whose head stands behind w ends; its bytes are b
pub made_closed : {o out out' : Bytes} {W W' : World} {at p : ℕ} {a x d a' x' d' : Bool} (w b : Bytes) (t : ℕ) → Made o W out at a x d → p ≡ length w → out' ≡ put out p (head t (at - p - 3)) → W.bytes ≡ (w ++ head t 0) ++ b → W'.bytes ≡ w ++ field_bytes t b → (W'.numbers ≡ true → W.numbers ≡ true) → a' ≡ W'.names → x' ≡ W'.numbers → d' ≡ W'.shallow → Made o W' out' at a' x' d'
made_closed {o} {out} {out'} {W} {W'} {at} {p} w b t m e f g h n i j k =
    let v : Bytes = (w ++ head t 0) ++ b in
    let l : length W.bytes ≡ length W'.bytes = ap length g ∙ omega (arith, length-append (w ++ head t 0) b, length-append w (head t 0), length_head t 0, length-append w (field_bytes t b), length_field_bytes t b) ∙ ap length (sym h) in
    let q : at - p - 3 ≡ length v - (length w + 3) = omega (arith, m.at_is, e, ap length g) in
    record {
      at_is = m.at_is ∙ l;
      out_is =
          λ y.
          f ∙
          ap₂ (λ (z : Bytes) (r : ℕ). put z r (head t (at - p - 3))) (m.out_is (n y) ∙ ap (put o 0) g) e ∙
          ap (λ (r : ℕ). put (put o 0 v) (length w) (head t r)) q ∙
          L.field_closed o w b t ∙
          ap (put o 0) (sym h);
      names_is = i;
      numbers_is = j;
      shallow_is = k;
    }

-- nothing more
pub more_none : (W : World) → more W [] true true true ≡ W
more_none W = world_is (append-nil W.bytes) (and_true W.names) (and_true W.numbers) (and_true W.shallow)

-- ---- children

pub no_children_yet : (W : World) (d : ℕ) (n : Name) (ps : Attributes) → children_world W d n ps S.no_children ≡ tag_world W d n ps
unfolding children_world every_tag children_bytes page_tag tag_row bytes shallow
no_children_yet W d n ps = more_none (tag_world W d n ps)

pub child_more : (W : World) (d : ℕ) (n : Name) (ps : Attributes) (ks : Children) (k : S.Child) → more (children_world W d n ps ks) (child_bytes k) (every_child k same_name any_known) (every_child k any_names known_in_range) (shallow (suc d) (children_row (page_child k P.no_children))) ≡ children_world W d n ps (S.add_child ks k)
unfolding children_world
child_more W d n ps ks k =
    let B : World = tag_world W d n ps in
    sym
    (world_is (ap (λ (z : Bytes). B.bytes ++ z) (L.children_more ks k) ∙ sym (append_assoc B.bytes (children_bytes ks) (child_bytes k)))
    (ap (λ (z : Bool). B.names && z) (every_children_more same_name any_known ks k) ∙ sym (and_assoc B.names (every_children ks same_name any_known) (every_child k same_name any_known)))
    (ap (λ (z : Bool). B.numbers && z) (every_children_more any_names known_in_range ks k) ∙ sym (and_assoc B.numbers (every_children ks any_names known_in_range) (every_child k any_names known_in_range)))
    (ap (λ (z : Bool). B.shallow && z) (shallow_children_more (suc d) ks k) ∙ sym (and_assoc B.shallow (shallow (suc d) (children_row (page_children ks))) (shallow (suc d) (children_row (page_child k P.no_children))))))

-- ---- attributes

attr_name_then : (e : ℕ) (a : AN.AttrName) (x : Row) → shallow e (attr_name_row a x) ≡ shallow e (attr_name_row a end) && shallow e x
unfolding attr_name_row shallow
attr_name_then e (AN.ident w) x = and_split (leb e 48) true (shallow e x)
attr_name_then e (AN.namespaced w v) x = and_split (leb e 48) (shallow (suc e) (texts_row 0x40 (w ∷ v ∷ []))) (shallow e x)

-- a 50 with the row x for its value
fifty_shallow : (d : ℕ) (a : AN.AttrName) (x : Row) → shallow (suc d) (field 0x50 [] (attr_name_row a x) end) ≡ (leb (suc d) 48 && shallow (suc (suc d)) (attr_name_row a end)) && shallow (suc (suc d)) x
unfolding shallow
fifty_shallow d a x =
    ap (λ (z : Bool). leb (suc d) 48 && z) (and_true (shallow (suc (suc d)) (attr_name_row a x)) ∙ attr_name_then (suc (suc d)) a x) ∙
    sym (and_assoc (leb (suc d) 48) (shallow (suc (suc d)) (attr_name_row a end)) (shallow (suc (suc d)) x))

-- tests of attributes, and of one more
tests_more : (k e b f : Bool) → f ≡ e && b → ((k && e) && true) && b ≡ k && f
tests_more k e b f q = ap (λ (z : Bool). z && b) (and_true (k && e)) ∙ and_assoc k e b ∙ ap (λ (z : Bool). k && z) (sym q)

pub attribute_more : (W : World) (d : ℕ) (n : Name) (ps : Attributes) (b : S.Attribute) → more (tag_world W d n ps) (attribute_bytes b) (every_attribute b same_name any_known) (every_attribute b any_names known_in_range) (shallow (suc d) (attributes_row (page_attribute b P.no_attributes) end)) ≡ tag_world W d n (S.add_attribute ps b)
unfolding tag_world
attribute_more W d n ps b =
    let H : Bool = shallow (suc d) (attributes_row (page_attributes ps) end) in
    let X : Bool = shallow (suc d) (attributes_row (page_attribute b P.no_attributes) end) in
    sym
    (world_is (L.begun_more W.bytes n ps b)
    (ap (λ (z : Bool). W.names && z) (every_attributes_more same_name any_known ps b) ∙ sym (and_assoc W.names (every_attributes ps same_name any_known) (every_attribute b same_name any_known)))
    (ap (λ (z : Bool). W.numbers && z) (every_attributes_more any_names known_in_range ps b) ∙ sym (and_assoc W.numbers (every_attributes ps any_names known_in_range) (every_attribute b any_names known_in_range)))
    (ap (λ (z : Bool). W.shallow && (leb d 48 && (shallow_name (suc d) n && z))) (shallow_attributes_more (suc d) ps b) ∙ sym (and_four W.shallow (leb d 48) (shallow_name (suc d) n) H X)))

-- it ends: its name was written behind its head, and then its value
pub attribute_ended : {o out out' : Bytes} {at p : ℕ} {u v w : Bool} (W : World) (d : ℕ) (a n : Name) (ps : Attributes) (b : S.Attribute) (x : Row) → attributes_row (page_attribute b P.no_attributes) end ≡ field 0x50 [] (attr_name_row (page_attr_name a) x) end → Made o (more (value_world W d a n ps) (bytes x) (every_attribute b same_name any_known) (every_attribute b any_names known_in_range) (shallow (suc (suc d)) x)) out at u v w → p ≡ length (begun W.bytes n ps) → out' ≡ put out p (head 0x50 (at - p - 3)) → Made o (tag_world W d n (S.add_attribute ps b)) out' at u v w
unfolding value_world tag_world attribute_begun attribute_bytes
attribute_ended W d a n ps b x r m e f =
    let w : Bytes = begun W.bytes n ps in
    let H : Bool = shallow (suc d) (attributes_row (page_attributes ps) end) in
    let G : Bool = leb (suc d) 48 && shallow (suc (suc d)) (attr_name_row (page_attr_name a) end) in
    let X : Bool = shallow (suc (suc d)) x in
    let names = tests_more W.names (every_attributes ps same_name any_known) (every_attribute b same_name any_known) (every_attributes (S.add_attribute ps b) same_name any_known) (every_attributes_more same_name any_known ps b) in
    let numbers = tests_more W.numbers (every_attributes ps any_names known_in_range) (every_attribute b any_names known_in_range) (every_attributes (S.add_attribute ps b) any_names known_in_range) (every_attributes_more any_names known_in_range ps b) in
    let one : shallow (suc d) (attributes_row (page_attribute b P.no_attributes) end) ≡ G && X = ap (shallow (suc d)) r ∙ fifty_shallow d (page_attr_name a) x in
    let depth : W.shallow && (leb d 48 && (shallow_name (suc d) n && shallow (suc d) (attributes_row (page_attributes (S.add_attribute ps b)) end))) ≡ ((W.shallow && (leb d 48 && (shallow_name (suc d) n && H))) && G) && X =
    ap (λ (z : Bool). W.shallow && (leb d 48 && (shallow_name (suc d) n && z))) (shallow_attributes_more (suc d) ps b ∙ ap (λ (z : Bool). H && z) one) ∙
    sym (and_four W.shallow (leb d 48) (shallow_name (suc d) n) H (G && X)) ∙
    sym (and_assoc (W.shallow && (leb d 48 && (shallow_name (suc d) n && H))) G X) in
    made_closed w (attr_name_bytes a ++ bytes x) 0x50 m e f (simp append_assoc)
    (L.begun_more W.bytes n ps b ∙ ap (λ (z : Bytes). w ++ z) (ap bytes r ∙ L.attribute_alone a x))
    (λ z. numbers ∙ z)
    (m.names_is ∙ names)
    (m.numbers_is ∙ numbers)
    (m.shallow_is ∙ sym depth)

-- ---- braces

-- behind B their head was written, and then what they hold
pub braces_ended : {o out out' : Bytes} {at p : ℕ} {u v w : Bool} (B : World) (e t : ℕ) (x : Row) (a b : Bool) → Made o (more (more B (head t 0) true true (leb e 48)) (bytes x) a b (shallow (suc e) x)) out at u v w → p ≡ length B.bytes → out' ≡ put out p (head t (at - p - 3)) → Made o (more B (bytes (field t [] x end)) a b (shallow e (field t [] x end))) out' at u v w
unfolding shallow
braces_ended B e t x a b m q f =
    made_closed B.bytes (bytes x) t m q f refl (ap (λ (z : Bytes). B.bytes ++ z) (L.field_alone t x))
    (λ z. ap (λ (y : Bool). y && b) (and_true B.numbers) ∙ z)
    (m.names_is ∙ ap (λ (y : Bool). y && a) (and_true B.names))
    (m.numbers_is ∙ ap (λ (y : Bool). y && b) (and_true B.numbers))
    (m.shallow_is ∙ and_assoc B.shallow (leb e 48) (shallow (suc e) x) ∙ ap (λ (y : Bool). B.shallow && (leb e 48 && y)) (sym (and_true (shallow (suc e) x))))

-- ---- tags

name_then : (e : ℕ) (n : P.Name) (x : Row) → shallow e (name_row n x) ≡ shallow e (name_row n end) && shallow e x
unfolding name_row shallow
name_then e (P.identifier w) x = and_split (leb e 48) true (shallow e x)
name_then e (P.member ns) x = and_split (leb e 48) (shallow (suc e) (texts_row 0x40 ns)) (shallow e x)
name_then e (P.namespaced w v) x = and_split (leb e 48) (shallow (suc e) (texts_row 0x40 (w ∷ v ∷ []))) (shallow e x)

attributes_then : (e : ℕ) (bs : P.Attributes) (x : Row) → shallow e (attributes_row bs x) ≡ shallow e (attributes_row bs end) && shallow e x
unfolding tag_row shallow
attributes_then e P.no_attributes x = refl
attributes_then e (P.attribute n v bs) x =
    ap (λ (z : Bool). leb e 48 && (shallow (suc e) (attr_name_row n (value_row v)) && z)) (attributes_then e bs x) ∙
    ap (λ (z : Bool). leb e 48 && z) (sym (and_assoc (shallow (suc e) (attr_name_row n (value_row v))) (shallow e (attributes_row bs end)) (shallow e x))) ∙
    sym (and_assoc (leb e 48) (shallow (suc e) (attr_name_row n (value_row v)) && shallow e (attributes_row bs end)) (shallow e x))
attributes_then e (P.spread_attribute b bs) x =
    ap (λ (z : Bool). leb e 48 && (shallow (suc e) (expr_row b end) && z)) (attributes_then e bs x) ∙
    ap (λ (z : Bool). leb e 48 && z) (sym (and_assoc (shallow (suc e) (expr_row b end)) (shallow e (attributes_row bs end)) (shallow e x))) ∙
    sym (and_assoc (leb e 48) (shallow (suc e) (expr_row b end) && shallow e (attributes_row bs end)) (shallow e x))

tag_shallow : (d : ℕ) (n : Name) (ps : Attributes) (ks : Children) (m : Name) → Plain n ps → leb d 48 && (shallow_name (suc d) n && (shallow (suc d) (attributes_row (page_attributes ps) end) && shallow (suc d) (children_row (page_children ks)))) ≡ shallow d (tag_row (page_tag (S.tag n ps ks m)) end)
unfolding Plain shallow_name page_tag page_tag_by tag_row shallow
tag_shallow d [] ps ks m e =
    ap (λ (z : Attributes). leb d 48 && (shallow (suc d) (attributes_row (page_attributes z) end) && shallow (suc d) (children_row (page_children ks)))) e ∙
    ap (λ (z : Bool). leb d 48 && z) (sym (and_true (shallow (suc d) (children_row (page_children ks)))))
tag_shallow d (p ∷ n) ps ks m e =
    ap (λ (z : Bool). leb d 48 && z)
    (ap (λ (z : Bool). shallow (suc d) (name_row (page_name (p ∷ n)) end) && z) (sym (attributes_then (suc d) (page_attributes ps) (children_row (page_children ks)))) ∙
    sym (name_then (suc d) (page_name (p ∷ n)) (attributes_row (page_attributes ps) (children_row (page_children ks)))) ∙
    sym (and_true (shallow (suc d) (name_row (page_name (p ∷ n)) (attributes_row (page_attributes ps) (children_row (page_children ks)))))))

-- it ends: its name, attributes and children were written behind its head
pub tag_ended : {o out out' : Bytes} {at p : ℕ} {u v w : Bool} (W : World) (d : ℕ) (n : Name) (ps : Attributes) (ks : Children) (m : Name) (b : Bool) → Plain n ps → b ≡ same_name n m → Made o (children_world W d n ps ks) out at u v w → p ≡ length W.bytes → out' ≡ put out p (head (tag_code n) (at - p - 3)) → Made o (ended_world W d (S.tag n ps ks m)) out' at (u && b) v w
unfolding children_world tag_world ended_world every_tag
tag_ended W d n ps ks m b h c r e f =
    let body : Bytes = name_bytes n ++ (attributes_bytes ps ++ children_bytes ks) in
    let q : begun W.bytes n ps ++ children_bytes ks ≡ (W.bytes ++ head (tag_code n) 0) ++ body = L.body_of W.bytes n ps ks ∙ sym (append_assoc W.bytes (head (tag_code n) 0) body) in
    made_closed W.bytes body (tag_code n) r e f q (ap (λ (z : Bytes). W.bytes ++ z) (sym (L.tag_field n ps ks m h)))
    (λ z. and_assoc W.numbers (every_attributes ps any_names known_in_range) (every_children ks any_names known_in_range) ∙ z)
    (ap₂ (λ (x y : Bool). x && y) r.names_is c ∙ and_turn W.names (every_attributes ps same_name any_known) (every_children ks same_name any_known) (same_name n m))
    (r.numbers_is ∙ and_assoc W.numbers (every_attributes ps any_names known_in_range) (every_children ks any_names known_in_range))
    (r.shallow_is ∙ and_four W.shallow (leb d 48) (shallow_name (suc d) n) (shallow (suc d) (attributes_row (page_attributes ps) end)) (shallow (suc d) (children_row (page_children ks))) ∙ ap (λ (z : Bool). W.shallow && z) (tag_shallow d n ps ks m h))
