-- What an arm of the page walk's writers writes, by the tag, the test or the gap that it is for: literals, names, the `children` property, the
-- end of properties, both ends of what an attribute leaves. Main statements: `literal_bytes` and the like, `names_on`, `namespaced_wrote`,
-- `name_expr_members` and the like, `stands_is`, `props_is`, `front_done`, `front_room`, `back_plain` and the like. Assumes nothing.
use Rattle.std.specs.Prelude.{Option, Some, None}
use Rattle.std.specs.Option.{unwrap_or}
use mathlib.Core.Path.{◌≡◌, refl, sym, ap, ◌∙◌, subst}
use mathlib.Core.Logic.{◌⊎◌, ⊎_elim}
use mathlib.Core.Bool.{Bool, true, false, true≢false, false≢true}
use mathlib.Core.List.{List, [], ◌∷◌, ◌++◌}
use Prim.Native.Nat.{ℕ, ◌+◌, ◌≤◌, ◌<◌, ◌^◌}
use native.Mathlib.Omega.{arith}
use lib.Dec.{eqb}
use lib.ListN.{length, length-append}
use borrow.Author.Tests.{eq-eqb, ne_eqb}
use Rattle.field.specs.Bytes.{Bytes, pick}
use Rattle.field.specs.Row.{read, Ended}
use Rattle.field.specs.Front.{tag_of_front, body_of, behind_of}
use Rattle.field.specs.Fields.{IsFront, FieldAt}
use Rattle.field.specs.declared.reader.Field.{Field}
use mir.Val.{bool_byte}
use Rattle.field.specs.Put.{Wrote}
use Rattle.field.proofs.PutLaws.{wrote_then}
use Rattle.names.specs.Names.{AttrName, get_attr_name}
use Rattle.page.specs.Number.{number_tag, minus_tag, number_in, number_bytes}
use Rattle.page.specs.Tree.{boolean_in, texts_in, expr_in, attr_name_in}
use Rattle.page.specs.Page.{Name, identifier, member, namespaced}
use Rattle.page.specs.Encode.{boolean_byte}
use Rattle.spec.specs.Pass.{Mid, none, node}
use Rattle.spec.specs.Output.{leaf, string_node, true_node, null_node}
use Rattle.spec.specs.Attributes.{first_upper}
use Rattle.spec.specs.Children.{members_row, name_expr}
use Rattle.decisions.specs.At.{number_at}
use Rattle.decisions.proofs.Series.{tested, texts_none, texts_40, texts_past, expr_none, expr_70, expr_71, expr_72, expr_74, expr_75, expr_76, expr_79, expr_7a, expr_7b, expr_30, expr_31, expr_other}
use Rattle.decisions.specs.declared.becomes.Gap.{Gap}
use Rattle.decisions.specs.declared.becomes.Gap.TheVariants as G
use denote.Ref.{Bor}
use Rattle.walk.specs.declared.state.Walk.{Walk}
use Rattle.walk.specs.See.{World, at, see, to_page, begun, wrap, props_closed, literal, Low}
use Rattle.walk.specs.Plan.{front, back}
use Rattle.walk.proofs.SeeLaws.{see_none, see_grows}
use Rattle.walk.proofs.LeafLaws.{low_world, low_seen, pick_true, pick_false, leaf_room, low_as, done_as, front_low, rest_is}

-- ---- an expression in which no tag stands, by its tag

module _ (s : Bytes) {t : ℕ} {b r : Bytes} (f : IsFront s t b r) where
  -- bytes as they stand
  pub literal_bytes : (t ≡ 0x70) ⊎ (t ≡ 0x74) → literal (expr_in (read s)) ≡ leaf t b
  unfolding literal
  literal_bytes d =
      ⊎_elim (λ k. ap literal (expr_70 s t f.tag_is k) ∙ under k) (λ k. ap literal (expr_74 s t f.tag_is k) ∙ under k) d
    where
      under : {u : ℕ} → t ≡ u → leaf u (body_of s) ≡ leaf t b
      under k = λ i. leaf (sym k i) (sym f.body_is i)

  pub literal_boolean : t ≡ 0x72 → {w : Bool} → w ≡ boolean_in b → {v : ℕ} → v ≡ bool_byte w → literal (expr_in (read s)) ≡ leaf 0x72 (v ∷ [])
  unfolding literal
  literal_boolean k {w} e q = ap literal (expr_72 s t f.tag_is k) ∙ ap (λ (x : Bytes). leaf 0x72 (boolean_byte (boolean_in x) ∷ [])) (sym f.body_is) ∙ ap (λ (x : Bool). leaf 0x72 (boolean_byte x ∷ [])) (sym e) ∙ ap (λ (x : ℕ). leaf 0x72 (x ∷ [])) (on w ∙ sym q)
    where
      on : (x : Bool) → boolean_byte x ≡ bool_byte x
      on true = refl
      on false = refl

  -- a number under its tag
  pub literal_number : ((t ≡ 0x71 → ⊥) → (t ≡ 0x75 → ⊥) → (t ≡ 0x7a → ⊥) → t ≡ 0x7b) → literal (expr_in (read s)) ≡ leaf t (number_bytes (number_at s))
  unfolding literal number_tag minus_tag number_in
  literal_number d =
      tested t 0x71 (λ z. ap literal (expr_71 s t f.tag_is z) ∙ plain (sym f.tag_is ∙ z) z refl) λ a.
      tested t 0x75 (λ z. ap literal (expr_75 s t f.tag_is z) ∙ minus (sym f.tag_is ∙ z) z refl) λ b.
      tested t 0x7a (λ z. ap literal (expr_7a s t f.tag_is z) ∙ plain (sym f.tag_is ∙ z) z refl) λ c.
      ap literal (expr_7b s t f.tag_is (d a b c)) ∙ minus (sym f.tag_is ∙ d a b c) (d a b c) refl
    where
      plain : {u : ℕ} → tag_of_front s ≡ u → t ≡ u → number_tag (number_in u (body_of s)) ≡ u → leaf (number_tag (number_at s)) (number_bytes (number_at s)) ≡ leaf t (number_bytes (number_at s))
      plain g h q = ap (λ (x : ℕ). leaf x (number_bytes (number_at s))) (ap (λ (x : ℕ). number_tag (number_in x (body_of s))) g ∙ q ∙ sym h)

      minus : {u : ℕ} → tag_of_front s ≡ u → t ≡ u → minus_tag (number_in u (body_of s)) ≡ u → leaf (minus_tag (number_at s)) (number_bytes (number_at s)) ≡ leaf t (number_bytes (number_at s))
      minus g h q = ap (λ (x : ℕ). leaf x (number_bytes (number_at s))) (ap (λ (x : ℕ). minus_tag (number_in x (body_of s))) g ∙ q ∙ sym h)

  -- any other is null, or not written here
  pub literal_other : (t ≡ 0x70 → ⊥) → (t ≡ 0x71 → ⊥) → (t ≡ 0x72 → ⊥) → (t ≡ 0x74 → ⊥) → (t ≡ 0x75 → ⊥) → (t ≡ 0x7a → ⊥) → (t ≡ 0x7b → ⊥) → literal (expr_in (read s)) ≡ null_node
  unfolding literal
  literal_other a b c d e g h =
      tested t 0x76 (λ k. ap literal (expr_76 s t f.tag_is k)) λ l.
      tested t 0x79 (λ k. ap literal (expr_79 s t f.tag_is k)) λ m.
      tested t 0x30 (λ k. ap literal (expr_30 s t f.tag_is k)) λ i.
      tested t 0x31 (λ k. ap literal (expr_31 s t f.tag_is k)) λ j.
      ap literal (expr_other s t f.tag_is (λ z. omega (arith, z, f.tag_below)) a (⊎_elim b g) c d (⊎_elim e h) l m i j)

pub literal_none : (s : Bytes) → Ended (read s) → literal (expr_in (read s)) ≡ null_node
unfolding literal
literal_none s e = ap literal (expr_none (read s) e)

-- the field in front is read, and where none stands g, which is under a 73
module _ (s : Bytes) (r : Option Field) (h : FieldAt s r) {f : Field} (g : Field) (z : g.tag ≡ 0x73) (e : f ≡ unwrap_or r g) where
  pub front_is : (f.tag ≡ 0x73 → ⊥) → IsFront s f.tag f.body.now (behind_of s)
  front_is n = on r h e
    where
      on : (r : Option Field) → FieldAt s r → f ≡ unwrap_or r g → IsFront s f.tag f.body.now (behind_of s)
      on None h e = absurd (n (ap (λ (x : Field). x.tag) e ∙ z))
      on (Some x) h e = subst (λ (y : Field). IsFront s y.tag y.body.now (behind_of s)) (sym e) h

  pub literal_null : (f.tag ≡ 0x70 → ⊥) → (f.tag ≡ 0x71 → ⊥) → (f.tag ≡ 0x72 → ⊥) → (f.tag ≡ 0x74 → ⊥) → (f.tag ≡ 0x75 → ⊥) → (f.tag ≡ 0x7a → ⊥) → (f.tag ≡ 0x7b → ⊥) →
      literal (expr_in (read s)) ≡ null_node
  literal_null a b c d k l m = on r h e
    where
      on : (r : Option Field) → FieldAt s r → f ≡ unwrap_or r g → literal (expr_in (read s)) ≡ null_node
      on None h e = literal_none s h.ended
      on (Some x) h e = literal_other s (subst (λ (y : Field). IsFront s y.tag y.body.now (behind_of s)) (sym e) h) a b c d k l m

-- ---- member names: the names that are left are seen, and all is done

abbrev pub names_at : Bytes → Mid
names_at s = members_row (texts_in 0x40 (read s))

pub names_end : (s : Bytes) (w : World) {total : World} → Ended (read s) → see (names_at s) w ≡ total → w ≡ total
unfolding members_row
names_end s w i g = sym (ap (λ (ns : List Bytes). see (members_row ns) w) (texts_none (read s) i 0x40) ∙ see_none w) ∙ g

module _ (s : Bytes) {t : ℕ} {b r : Bytes} (f : IsFront s t b r) (w : World) {total : World} (g : see (names_at s) w ≡ total) where
  pub names_past : (t ≡ 0x40 → ⊥) → see (names_at r) w ≡ total
  names_past k =
      ap (λ (x : Bytes). see (names_at x) w) f.behind_is ∙ ap (λ (ns : List Bytes). see (members_row ns) w) (sym (texts_past s t f.tag_is 0x40 (λ z. omega (arith, z, f.tag_below)) k)) ∙ g

  module _ (k : t ≡ 0x40) where
    names_40 : names_at s ≡ node 0x40 b none (names_at (behind_of s))
    unfolding members_row
    names_40 = ap members_row (texts_40 s t f.tag_is k) ∙ ap (λ (x : Bytes). node 0x40 x none (names_at (behind_of s))) (sym f.body_is)

    pub names_low : Low total.st → Low (see (leaf 0x40 b) w).st
    names_low l = front_low 0x40 b (names_at (behind_of s)) w (low_as w names_40 (low_world (sym g) l))

    pub names_on : {w' : World} → w' ≡ see (leaf 0x40 b) w → see (names_at r) w' ≡ total
    names_on {w'} e = ap (λ (x : Bytes). see (names_at x) w') f.behind_is ∙ done_as w names_40 (rest_is 0x40 b (names_at (behind_of s)) w e refl) ∙ g

-- ---- a namespaced name

module _ (o : Bytes) (st : Walk) (x y : Bytes) where
  pub namespaced_room : Low (see (leaf 0x81 (x ++ (58 ∷ y))) (at [] o st)).st → st.page + 3 + length x + 1 + length y < 2 ^ 63
  namespaced_room l = omega (arith, leaf_room o st 0x81 (x ++ (58 ∷ y)) l, length-append x (58 ∷ y))

  module _ {o₁ o₂ o₃ : Bytes} {e₁ e₂ e₃ : ℕ} (u : Wrote o (st.page + 3) x o₁ e₁) (v : Wrote o₁ e₁ (58 ∷ []) o₂ e₂) (z : Wrote o₂ e₂ y o₃ e₃) where
    pub namespaced_wrote : Wrote o (st.page + 3) (x ++ (58 ∷ y)) o₃ e₃
    namespaced_wrote = wrote_then u (wrote_then v z)

-- ---- the first argument of a call, by the name

module _ {m : Name} where
  module _ {n : Bytes} (e : identifier n ≡ m) {b : Bool} (u : b ≡ first_upper n) where
    pub name_expr_upper : b ≡ true → name_expr m ≡ leaf 0x40 n
    unfolding name_expr
    name_expr_upper t = ap name_expr (sym e) ∙ pick_true (first_upper n) (leaf 0x40 n) (leaf 0x81 n) (sym u ∙ t)

    pub name_expr_small : b ≡ false → name_expr m ≡ leaf 0x81 n
    unfolding name_expr
    name_expr_small t = ap name_expr (sym e) ∙ pick_false (first_upper n) (leaf 0x40 n) (leaf 0x81 n) (sym u ∙ t)

  pub name_expr_members : {ns : List Bytes} → member ns ≡ m → name_expr m ≡ node 0x41 [] (members_row ns) none
  unfolding name_expr
  name_expr_members e = ap name_expr (sym e)

  pub name_expr_pair : {n k : Bytes} → namespaced n k ≡ m → name_expr m ≡ leaf 0x81 (n ++ (58 ∷ k))
  unfolding name_expr
  name_expr_pair e = ap name_expr (sym e)

-- ---- the `children` property begins

module _ (b : Bool) (m : Mid) (o : Bytes) (st : Walk) where
  pub stands_low : b ≡ true → Low (pick b (see m (begun (at [] o st))) (at [] o st)).st → Low (see m (begun (at [] o st))).st
  stands_low h l = low_world (pick_true b (see m (begun (at [] o st))) (at [] o st) h) l

  pub stands_is : b ≡ true → {w : World} → w ≡ see m (begun (at [] o st)) → w ≡ pick b (see m (begun (at [] o st))) (at [] o st)
  stands_is h g = g ∙ sym (pick_true b (see m (begun (at [] o st))) (at [] o st) h)

  pub stands_not : b ≡ false → at [] o st ≡ pick b (see m (begun (at [] o st))) (at [] o st)
  stands_not h = sym (pick_false b (see m (begun (at [] o st))) (at [] o st) h)

-- ---- the properties end

module _ (q : ℕ) (o : Bytes) (st : Walk) where
  module _ (h : st.page ≡ q + 3) where
    props_none : props_closed q (at [] o st) ≡ see null_node (at [] o (to_page q st))
    props_none = pick_true (eqb st.page (q + 3)) (see null_node (at [] o (to_page q st))) (wrap 0x95 q (at [] o st)) (eq-eqb st.page (q + 3) h)

    module _ {r : Walk} (e : r ≡ to_page q st) where
      pub props_null_low : Low (props_closed q (at [] o st)).st → Low (see null_node (at [] o r)).st
      props_null_low l = low_world (props_none ∙ ap (λ (x : Walk). see null_node (at [] o x)) (sym e)) l

      pub props_null_is : {w : World} → w ≡ see null_node (at [] o r) → w ≡ props_closed q (at [] o st)
      props_null_is g = g ∙ ap (λ (x : Walk). see null_node (at [] o x)) e ∙ sym props_none

  module _ (h : st.page ≡ q + 3 → ⊥) where
    props_some : props_closed q (at [] o st) ≡ wrap 0x95 q (at [] o st)
    props_some = pick_false (eqb st.page (q + 3)) (see null_node (at [] o (to_page q st))) (wrap 0x95 q (at [] o st)) (ne_eqb st.page (q + 3) h)

    pub props_low : Low (props_closed q (at [] o st)).st → Low st
    props_low l = low_seen (low_world props_some l)

    pub props_is : {w : World} → w ≡ wrap 0x95 q (at [] o st) → w ≡ props_closed q (at [] o st)
    props_is g = g ∙ sym props_some

-- ---- what stands before the expression, by the gap

abbrev pub front_by : (turn : Bytes → Bytes) → Gap → AttrName → World → World
front_by turn (G.True norm) n w = see (node 0x81 (get_attr_name n norm) none true_node) (begun w)
front_by turn (G.String norm b) n w = see (node 0x81 (get_attr_name n norm) none (string_node (turn b.now))) (begun w)
front_by turn G.Null n w = see (node 0x81 (get_attr_name n false) none null_node) (begun w)
front_by turn (G.Attr norm c) n w = see (leaf 0x81 (get_attr_name n norm)) (begun w)
front_by turn (G.Choice c) n w = begun w

module _ (turn : Bytes → Bytes) (a : Bytes) (w : World) where
  pub gap_front_is : (g : Gap) → front turn a g w ≡ front_by turn g (attr_name_in (read a)) w
  gap_front_is (G.True norm) = refl
  gap_front_is (G.String norm b) = refl
  gap_front_is G.Null = refl
  gap_front_is (G.Attr norm c) = refl
  gap_front_is (G.Choice c) = see_none (begun w)

  module _ {g h : Gap} (e : g ≡ h) where
    pub front_done : front turn a g w ≡ front_by turn h (attr_name_in (read a)) w
    front_done = gap_front_is g ∙ ap (λ (x : Gap). front_by turn x (attr_name_in (read a)) w) e

    pub front_room : Low (front turn a g w).st → Low (front_by turn h (attr_name_in (read a)) w).st
    front_room l = low_world front_done l

-- in an opening tag and in a call it is the same, but for a string
abbrev pub is_string : Gap → Bool
is_string (G.True norm) = false
is_string (G.String norm b) = true
is_string G.Null = false
is_string (G.Attr norm c) = false
is_string (G.Choice c) = false

pub fronts_agree : (turn turn' : Bytes → Bytes) (a : Bytes) (w : World) (g : Gap) → is_string g ≡ false → front turn a g w ≡ front turn' a g w
fronts_agree turn turn' a w (G.True norm) h = refl
fronts_agree turn turn' a w (G.String norm b) h = absurd (true≢false h)
fronts_agree turn turn' a w G.Null h = refl
fronts_agree turn turn' a w (G.Attr norm c) h = refl
fronts_agree turn turn' a w (G.Choice c) h = refl

-- ---- what stands behind it, by the gap

-- a field whose head alone is written
abbrev pub is_plain : Gap → Bool
is_plain (G.True norm) = true
is_plain (G.String norm b) = true
is_plain G.Null = true
is_plain (G.Attr norm c) = true
is_plain (G.Choice c) = false

abbrev back_by : Gap → ℕ → AttrName → ℕ → World → World
back_by (G.True norm) t n p w = wrap t p w
back_by (G.String norm b) t n p w = wrap t p w
back_by G.Null t n p w = wrap t p w
back_by (G.Attr norm c) t n p w = wrap t p w
back_by (G.Choice c) t n p w = wrap 0x93 p (see (leaf 0x81 (get_attr_name n true)) w)

module _ (t : ℕ) (a : Bytes) (p : ℕ) (w : World) where
  abbrev name : AttrName
  name = attr_name_in (read a)

  back_is : (g : Gap) → back_by g t name p w ≡ back t a g p w
  back_is (G.True norm) = ap (wrap t p) (sym (see_none w))
  back_is (G.String norm b) = ap (wrap t p) (sym (see_none w))
  back_is G.Null = ap (wrap t p) (sym (see_none w))
  back_is (G.Attr norm c) = ap (wrap t p) (sym (see_none w))
  back_is (G.Choice c) = refl

  plain_by : (g : Gap) → is_plain g ≡ true → wrap t p w ≡ back_by g t name p w
  plain_by (G.True norm) h = refl
  plain_by (G.String norm b) h = refl
  plain_by G.Null h = refl
  plain_by (G.Attr norm c) h = refl
  plain_by (G.Choice c) h = absurd (false≢true h)

  module _ (g : Gap) where
    pub back_plain : is_plain g ≡ true → wrap t p w ≡ back t a g p w
    back_plain h = plain_by g h ∙ back_is g

    pub back_choice : {c : Bor Bytes} → g ≡ G.Choice c → wrap 0x93 p (see (leaf 0x81 (get_attr_name name true)) w) ≡ back t a g p w
    back_choice e = sym (ap (λ (x : Gap). back_by x t name p w) e) ∙ back_is g

    module _ (l : (p + 3 ≤ w.st.page) × Low (back t a g p w).st) where
      pub plain_room : is_plain g ≡ true → (p + 3 ≤ w.st.page) × Low w.st
      plain_room h = (l.0, low_seen (low_world (sym (back_plain h)) l.1))

      module _ {c : Bor Bytes} (e : g ≡ G.Choice c) where
        pub choice_room : Low (see (leaf 0x81 (get_attr_name name true)) w).st
        choice_room = low_seen (low_world (sym (back_choice e)) l.1)

        -- the name was seen before the head is written
        pub choice_close : {o : Bytes} {r : Walk} → at [] o r ≡ see (leaf 0x81 (get_attr_name name true)) w → (p + 3 ≤ r.page) × Low r
        choice_close q =
            let x = see_grows (leaf 0x81 (get_attr_name name true)) w in
            (omega (arith, x.g_page, l.0, ap (λ (x : World). x.st.page) q), low_world (sym q) choice_room)
