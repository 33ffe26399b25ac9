-- The expression in front of bytes, the elements of an array and the pieces of source, by the tag in front: what they read as, and each
-- step of a visit to them. b is the body of the field in front, r what lies behind it; total is where a loop is to end.
-- Main statements: `array_*`, `source_*`, `see_element`, `see_fragment`, `literal_*`, `held_*`, `spread_*`, `hole_*`, `item_*`, `piece_*`.
-- Assumes nothing.
use mathlib.Core.Path.{◌≡◌, refl, sym, ap, ◌∙◌, subst}
use mathlib.Core.Bool.{true}
use mathlib.Core.Logic.{⊎_elim}
use Prim.Native.Nat.{ℕ, ◌+◌, ◌≤◌, ◌<◌, ◌^◌}
use mathlib.Core.List.{[]}
use Rattle.field.specs.Bytes.{Bytes}
use Rattle.field.specs.Row.{read, Ended}
use Rattle.field.specs.Front.{tag_of_front, body_of, behind_of}
use Rattle.page.specs.Page as P
use Rattle.page.specs.Page.{Options}
use Rattle.page.specs.Tree.{Contained, expr_in}
use Rattle.spec.specs.Pass.{Raw, Mid, none, node, raw, ◌+++◌}
use Rattle.spec.specs.Output.{leaf}
use Rattle.spec.specs.Transform.{expr, items, pieces}
use Rattle.decisions.specs.At.{opts}
use Rattle.decisions.proofs.Series.{tested, contained_none, contained_field, expr_none, items_none, pieces_none, expr_70, expr_71, expr_72, expr_74, expr_75, expr_76, expr_79, expr_7a, expr_7b, expr_30, expr_31, expr_other, items_77, items_78, items_other, pieces_20, pieces_30, pieces_31, pieces_other}
use Rattle.decisions.proofs.Laws.{raw_element, raw_fragment}
use Rattle.walk.specs.declared.state.Walk.{Walk}
use Rattle.decisions.specs.Becomes.{contained_mid}
use Rattle.walk.specs.See.{World, at, see, to_page, begun, wrap, literal, Low}
use Rattle.walk.proofs.SeeLaws.{see_none, see_node, see_grows, lift, plain}
use Rattle.visits.specs.Visiting.{expr_at, held_at, items_at, pieces_at, element_mid, fragment_mid}
use Rattle.visits.proofs.FieldLaws.{turn_low, turn_on, page_low, field_begin, field_inner, field_close, field_done}

-- ---- an expression that is no array, source or tag

literal_plain : (x : P.Expr) → plain (literal x) ≡ true
unfolding literal
literal_plain (P.string_literal b) = refl
literal_plain (P.number_literal n) = refl
literal_plain (P.boolean_literal b) = refl
literal_plain P.null_literal = refl
literal_plain (P.other_literal b) = refl
literal_plain (P.minus_literal n) = refl
literal_plain (P.array_literal is) = refl
literal_plain (P.other_expr ps) = refl
literal_plain (P.tag_expr t) = refl

-- an expression in front of others
expr_rest : (o : Options) (x : P.Expr) (r : Mid) → expr o x r ≡ expr o x none +++ r
unfolding expr ◌+++◌
expr_rest o (P.string_literal b) r = refl
expr_rest o (P.number_literal n) r = refl
expr_rest o (P.boolean_literal b) r = refl
expr_rest o P.null_literal r = refl
expr_rest o (P.other_literal b) r = refl
expr_rest o (P.minus_literal n) r = refl
expr_rest o (P.array_literal is) r = refl
expr_rest o (P.other_expr ps) r = refl
expr_rest o (P.tag_expr t) r = refl

module _ (k p : Bytes) where
  -- ---- one expression

  module _ (s : Bytes) (n : ℕ) (e : n ≡ tag_of_front s) where
    is_literal : (x : P.Expr) → expr_in (read s) ≡ x → expr (opts k p) x none ≡ literal x → expr_at k p s ≡ literal (expr_in (read s))
    is_literal x q h = ap (λ (y : P.Expr). expr (opts k p) y none) q ∙ h ∙ ap literal (sym q)

    pub expr_literal : (n ≡ 256 → Ended (read s)) → (n ≡ 0x76 → ⊥) → (n ≡ 0x79 → ⊥) → (n ≡ 0x30 → ⊥) → (n ≡ 0x31 → ⊥) →
        expr_at k p s ≡ literal (expr_in (read s))
    unfolding expr literal
    expr_literal i j l x y =
        tested n 0x70 (λ q. is_literal _ (expr_70 s n e q) refl) λ a.
        tested n 0x71 (λ q. is_literal _ (expr_71 s n e q) refl) λ b.
        tested n 0x72 (λ q. is_literal _ (expr_72 s n e q) refl) λ c.
        tested n 0x74 (λ q. is_literal _ (expr_74 s n e q) refl) λ d.
        tested n 0x75 (λ q. is_literal _ (expr_75 s n e q) refl) λ f.
        tested n 0x7a (λ q. is_literal _ (expr_7a s n e q) refl) λ u.
        tested n 0x7b (λ q. is_literal _ (expr_7b s n e q) refl) λ v.
        tested n 256 (λ q. is_literal _ (expr_none (read s) (i q)) refl) λ g.
        is_literal _ (expr_other s n e g a (⊎_elim b u) c d (⊎_elim f v) j l x y) refl

    module _ {b : Bytes} (v : b ≡ body_of s) where
      pub expr_array : n ≡ 0x76 → expr_at k p s ≡ node 0x76 [] (items_at k p b) none
      unfolding expr
      expr_array h = ap (λ (x : P.Expr). expr (opts k p) x none) (expr_76 s n e h) ∙ rw v

      pub expr_source : n ≡ 0x79 → expr_at k p s ≡ node 0x79 [] (pieces_at k p b) none
      unfolding expr
      expr_source h = ap (λ (x : P.Expr). expr (opts k p) x none) (expr_79 s n e h) ∙ rw v

      pub expr_element : n ≡ 0x30 → expr_at k p s ≡ element_mid k p b
      unfolding expr
      expr_element h = ap (λ (x : P.Expr). expr (opts k p) x none) (expr_30 s n e h) ∙ ap (λ (x : Raw). raw x none) (raw_element k p (body_of s)) ∙ rw v

      pub expr_fragment : n ≡ 0x31 → expr_at k p s ≡ fragment_mid k p b
      unfolding expr
      expr_fragment h = ap (λ (x : P.Expr). expr (opts k p) x none) (expr_31 s n e h) ∙ ap (λ (x : Raw). raw x none) (raw_fragment k p (body_of s)) ∙ rw v

      module _ (w : World) where
        see_array : n ≡ 0x76 → see (expr_at k p s) w ≡ wrap 0x76 w.st.page (see (items_at k p b) (begun w))
        see_array h = ap (λ (x : Mid). see x w) (expr_array h) ∙ see_node 0x76 (items_at k p b) w

        see_source : n ≡ 0x79 → see (expr_at k p s) w ≡ wrap 0x79 w.st.page (see (pieces_at k p b) (begun w))
        see_source h = ap (λ (x : Mid). see x w) (expr_source h) ∙ see_node 0x79 (pieces_at k p b) w

        pub see_element : n ≡ 0x30 → see (element_mid k p b) w ≡ see (expr_at k p s) w
        see_element h = ap (λ (x : Mid). see x w) (sym (expr_element h))

        pub see_fragment : n ≡ 0x31 → see (fragment_mid k p b) w ≡ see (expr_at k p s) w
        see_fragment h = ap (λ (x : Mid). see x w) (sym (expr_fragment h))

      -- an array: its elements between `begin` and `close`
      module _ (h : n ≡ 0x76) (o q : Bytes) (st : Walk) where
        pub array_begin : Low (see (expr_at k p s) (at o q st)).st → st.page + 3 < 2 ^ 63
        array_begin = field_begin 0x76 (see (items_at k p b)) (see_grows (items_at k p b)) o q st (see (expr_at k p s) (at o q st)) (see_array (at o q st) h)

        module _ {x : Walk} (e₁ : x ≡ to_page (st.page + 3) st) where
          pub array_inner : Low (see (expr_at k p s) (at o q st)).st → Low (see (items_at k p b) (at o q x)).st
          array_inner = field_inner 0x76 (see (items_at k p b)) (see_grows (items_at k p b)) o q st (see (expr_at k p s) (at o q st)) (see_array (at o q st) h) x e₁

          module _ {o' q' : Bytes} {y : Walk} (e₂ : at o' q' y ≡ see (items_at k p b) (at o q x)) where
            pub array_close : Low (see (expr_at k p s) (at o q st)).st → (st.page + 3 ≤ y.page) × Low y
            array_close = field_close 0x76 (see (items_at k p b)) (see_grows (items_at k p b)) o q st (see (expr_at k p s) (at o q st)) (see_array (at o q st) h) x e₁ o' q' y e₂

            pub array_done : {q'' : Bytes} {z : Walk} → at [] q'' z ≡ wrap 0x76 st.page (at [] q' y) → at o' q'' z ≡ see (expr_at k p s) (at o q st)
            array_done {q''} {z} = field_done 0x76 (see (items_at k p b)) (see_grows (items_at k p b)) o q st (see (expr_at k p s) (at o q st)) (see_array (at o q st) h) x e₁ o' q' y e₂ q'' z

      -- source: its pieces between them
      module _ (h : n ≡ 0x79) (o q : Bytes) (st : Walk) where
        pub source_begin : Low (see (expr_at k p s) (at o q st)).st → st.page + 3 < 2 ^ 63
        source_begin = field_begin 0x79 (see (pieces_at k p b)) (see_grows (pieces_at k p b)) o q st (see (expr_at k p s) (at o q st)) (see_source (at o q st) h)

        module _ {x : Walk} (e₁ : x ≡ to_page (st.page + 3) st) where
          pub source_inner : Low (see (expr_at k p s) (at o q st)).st → Low (see (pieces_at k p b) (at o q x)).st
          source_inner = field_inner 0x79 (see (pieces_at k p b)) (see_grows (pieces_at k p b)) o q st (see (expr_at k p s) (at o q st)) (see_source (at o q st) h) x e₁

          module _ {o' q' : Bytes} {y : Walk} (e₂ : at o' q' y ≡ see (pieces_at k p b) (at o q x)) where
            pub source_close : Low (see (expr_at k p s) (at o q st)).st → (st.page + 3 ≤ y.page) × Low y
            source_close = field_close 0x79 (see (pieces_at k p b)) (see_grows (pieces_at k p b)) o q st (see (expr_at k p s) (at o q st)) (see_source (at o q st) h) x e₁ o' q' y e₂

            pub source_done : {q'' : Bytes} {z : Walk} → at [] q'' z ≡ wrap 0x79 st.page (at [] q' y) → at o' q'' z ≡ see (expr_at k p s) (at o q st)
            source_done {q''} {z} = field_done 0x79 (see (pieces_at k p b)) (see_grows (pieces_at k p b)) o q st (see (expr_at k p s) (at o q st)) (see_source (at o q st) h) x e₁ o' q' y e₂ q'' z

    -- what `literal_leaf` writes
    module _ (q : expr_at k p s ≡ literal (expr_in (read s))) (o c : Bytes) (st : Walk) where
      pub literal_room : Low (see (expr_at k p s) (at o c st)).st → Low (see (literal (expr_in (read s))) (at [] c st)).st
      literal_room l = page_low (literal (expr_in (read s))) o c st (subst (λ (m : Mid). Low (see m (at o c st)).st) q l)

      pub literal_done : {c' : Bytes} {x : Walk} → at [] c' x ≡ see (literal (expr_in (read s))) (at [] c st) → at o c' x ≡ see (expr_at k p s) (at o c st)
      literal_done {c'} {x} d = lift o c c' st x (literal (expr_in (read s))) (literal_plain (expr_in (read s))) d ∙ ap (λ (m : Mid). see m (at o c st)) (sym q)

  -- ---- what braces hold

  module _ (s : Bytes) (w : World) where
    pub held_nothing : Ended (read s) → w ≡ see (held_at k p s) w
    unfolding contained_mid
    held_nothing i = sym (ap (λ (x : Contained). see (contained_mid (opts k p) x) w) (contained_none (read s) i) ∙ see_none w)

    pub held_expr : (n : ℕ) → n ≡ tag_of_front s → (n ≡ 256 → ⊥) → see (expr_at k p s) w ≡ see (held_at k p s) w
    unfolding contained_mid
    held_expr n e h = ap (λ (x : Contained). see (contained_mid (opts k p) x) w) (sym (contained_field s n e h))

  -- ---- a turn over the elements of an array

  module _ (t : Bytes) (n : ℕ) (e : n ≡ tag_of_front t) where
    module _ {r : Bytes} (u : r ≡ behind_of t) where
      items_spread : {b : Bytes} → b ≡ body_of t → n ≡ 0x77 → items_at k p t ≡ node 0x77 [] (expr_at k p b) none +++ items_at k p r
      unfolding items ◌+++◌
      items_spread v h = ap (items (opts k p)) (items_77 t n e h) ∙ rw (v, u)

      items_hole : n ≡ 0x78 → items_at k p t ≡ leaf 0x78 [] +++ items_at k p r
      unfolding items ◌+++◌
      items_hole h = ap (items (opts k p)) (items_78 t n e h) ∙ rw u

      items_item : (n ≡ 256 → ⊥) → (n ≡ 0x77 → ⊥) → (n ≡ 0x78 → ⊥) → items_at k p t ≡ expr_at k p t +++ items_at k p r
      unfolding items
      items_item h a c = ap (items (opts k p)) (items_other t n e h a c) ∙ expr_rest (opts k p) (expr_in (read t)) (items_at k p (behind_of t)) ∙ rw u

    module _ (w : World) {total : World} (g : see (items_at k p t) w ≡ total) where
      -- an expression in front of the others, where x starts
      module _ (h : n ≡ 256 → ⊥) (a : n ≡ 0x77 → ⊥) (c : n ≡ 0x78 → ⊥) where
        module _ {x : Bytes} (y : x ≡ t) where
          pub item_room : Low total.st → Low (see (expr_at k p x) w).st
          item_room l = subst (λ (z : Bytes). Low (see (expr_at k p z) w).st) (sym y) (turn_low (expr_at k p t) (items_at k p (behind_of t)) (items_item refl h a c) w g l)

          pub item_on : {r : Bytes} → r ≡ behind_of t → {w' : World} → w' ≡ see (expr_at k p x) w → see (items_at k p r) w' ≡ total
          item_on {r} u e' = turn_on (expr_at k p t) (items_at k p r) (items_item u h a c) w g (e' ∙ ap (λ (z : Bytes). see (expr_at k p z) w) y)

      pub items_end : Ended (read t) → w ≡ total
      unfolding items
      items_end i = sym (see_none w) ∙ ap (λ (x : P.Items). see (items (opts k p) x) w) (sym (items_none (read t) i)) ∙ g

    module _ (o q : Bytes) (st : Walk) {total : World} (g : see (items_at k p t) (at o q st) ≡ total) where
      -- a hole
      module _ (h : n ≡ 0x78) where
        pub hole_room : Low total.st → Low (see (leaf 0x78 []) (at [] q st)).st
        hole_room l = page_low (leaf 0x78 []) o q st (turn_low (leaf 0x78 []) (items_at k p (behind_of t)) (items_hole refl h) (at o q st) g l)

        pub hole_on : {r : Bytes} → r ≡ behind_of t → {q' : Bytes} {y : Walk} → at [] q' y ≡ see (leaf 0x78 []) (at [] q st) → see (items_at k p r) (at o q' y) ≡ total
        hole_on {r} u {q'} {y} d = turn_on (leaf 0x78 []) (items_at k p r) (items_hole u h) (at o q st) g (lift o q q' st y (leaf 0x78 []) refl d)

      -- a spread: its expression between `begin` and `close`
      module _ (h : n ≡ 0x77) {b : Bytes} (v : b ≡ body_of t) where
        abbrev spread : World
        spread = see (node 0x77 [] (expr_at k p b) none) (at o q st)

        spread_low : Low total.st → Low spread.st
        spread_low = turn_low (node 0x77 [] (expr_at k p b) none) (items_at k p (behind_of t)) (items_spread refl v h) (at o q st) g

        spread_is : spread ≡ wrap 0x77 st.page (see (expr_at k p b) (begun (at o q st)))
        spread_is = see_node 0x77 (expr_at k p b) (at o q st)

        pub spread_begin : Low total.st → st.page + 3 < 2 ^ 63
        spread_begin l = field_begin 0x77 (see (expr_at k p b)) (see_grows (expr_at k p b)) o q st spread spread_is (spread_low l)

        module _ {x : Walk} (e₁ : x ≡ to_page (st.page + 3) st) where
          pub spread_inner : Low total.st → Low (see (expr_at k p b) (at o q x)).st
          spread_inner l = field_inner 0x77 (see (expr_at k p b)) (see_grows (expr_at k p b)) o q st spread spread_is x e₁ (spread_low l)

          module _ {o' q' : Bytes} {y : Walk} (e₂ : at o' q' y ≡ see (expr_at k p b) (at o q x)) where
            pub spread_close : Low total.st → (st.page + 3 ≤ y.page) × Low y
            spread_close l = field_close 0x77 (see (expr_at k p b)) (see_grows (expr_at k p b)) o q st spread spread_is x e₁ o' q' y e₂ (spread_low l)

            pub spread_on : {r : Bytes} → r ≡ behind_of t → {q'' : Bytes} {z : Walk} → at [] q'' z ≡ wrap 0x77 st.page (at [] q' y) → see (items_at k p r) (at o' q'' z) ≡ total
            spread_on {r} u {q''} {z} d =
                turn_on (node 0x77 [] (expr_at k p b) none) (items_at k p r) (items_spread u v h) (at o q st) g
                (field_done 0x77 (see (expr_at k p b)) (see_grows (expr_at k p b)) o q st spread spread_is x e₁ o' q' y e₂ q'' z d)

  -- ---- a turn over pieces

  module _ (t : Bytes) (n : ℕ) (e : n ≡ tag_of_front t) where
    module _ {r : Bytes} (u : r ≡ behind_of t) where
      module _ {b : Bytes} (v : b ≡ body_of t) where
        pieces_source : n ≡ 0x20 → pieces_at k p t ≡ leaf 0x20 b +++ pieces_at k p r
        unfolding pieces ◌+++◌
        pieces_source h = ap (pieces (opts k p)) (pieces_20 t n e h) ∙ rw (v, u)

        pieces_element : n ≡ 0x30 → pieces_at k p t ≡ element_mid k p b +++ pieces_at k p r
        unfolding pieces ◌+++◌
        pieces_element h =
            ap (pieces (opts k p)) (pieces_30 t n e h) ∙ ap (λ (x : Raw). raw x (pieces_at k p (behind_of t))) (raw_element k p (body_of t)) ∙ rw (v, u)

        pieces_fragment : n ≡ 0x31 → pieces_at k p t ≡ fragment_mid k p b +++ pieces_at k p r
        unfolding pieces ◌+++◌
        pieces_fragment h =
            ap (pieces (opts k p)) (pieces_31 t n e h) ∙ ap (λ (x : Raw). raw x (pieces_at k p (behind_of t))) (raw_fragment k p (body_of t)) ∙ rw (v, u)

    module _ (w : World) {total : World} (g : see (pieces_at k p t) w ≡ total) where
      module _ {b : Bytes} (v : b ≡ body_of t) where
        pub piece_element_room : n ≡ 0x30 → Low total.st → Low (see (element_mid k p b) w).st
        piece_element_room h = turn_low (element_mid k p b) (pieces_at k p (behind_of t)) (pieces_element refl v h) w g

        pub piece_element_on : n ≡ 0x30 → {r : Bytes} → r ≡ behind_of t → {w' : World} → w' ≡ see (element_mid k p b) w → see (pieces_at k p r) w' ≡ total
        piece_element_on h {r} u = turn_on (element_mid k p b) (pieces_at k p r) (pieces_element u v h) w g

        pub piece_fragment_room : n ≡ 0x31 → Low total.st → Low (see (fragment_mid k p b) w).st
        piece_fragment_room h = turn_low (fragment_mid k p b) (pieces_at k p (behind_of t)) (pieces_fragment refl v h) w g

        pub piece_fragment_on : n ≡ 0x31 → {r : Bytes} → r ≡ behind_of t → {w' : World} → w' ≡ see (fragment_mid k p b) w → see (pieces_at k p r) w' ≡ total
        piece_fragment_on h {r} u = turn_on (fragment_mid k p b) (pieces_at k p r) (pieces_fragment u v h) w g

      -- what is no piece is passed over
      pub pieces_past : (n ≡ 256 → ⊥) → (n ≡ 0x20 → ⊥) → (n ≡ 0x30 → ⊥) → (n ≡ 0x31 → ⊥) → {r : Bytes} → r ≡ behind_of t → see (pieces_at k p r) w ≡ total
      pieces_past h a b c u = ap (λ (x : Bytes). see (pieces_at k p x) w) u ∙ ap (λ (x : P.Pieces). see (pieces (opts k p) x) w) (sym (pieces_other t n e h a b c)) ∙ g

      pub pieces_end : Ended (read t) → w ≡ total
      unfolding pieces
      pieces_end i = sym (see_none w) ∙ ap (λ (x : P.Pieces). see (pieces (opts k p) x) w) (sym (pieces_none (read t) i)) ∙ g

    -- source
    module _ (o q : Bytes) (st : Walk) {total : World} (g : see (pieces_at k p t) (at o q st) ≡ total) (h : n ≡ 0x20) {b : Bytes} (v : b ≡ body_of t) where
      pub piece_room : Low total.st → Low (see (leaf 0x20 b) (at [] q st)).st
      piece_room l = page_low (leaf 0x20 b) o q st (turn_low (leaf 0x20 b) (pieces_at k p (behind_of t)) (pieces_source refl v h) (at o q st) g l)

      pub piece_on : {r : Bytes} → r ≡ behind_of t → {q' : Bytes} {y : Walk} → at [] q' y ≡ see (leaf 0x20 b) (at [] q st) → see (pieces_at k p r) (at o q' y) ≡ total
      piece_on {r} u {q'} {y} d = turn_on (leaf 0x20 b) (pieces_at k p r) (pieces_source u v h) (at o q st) g (lift o q q' st y (leaf 0x20 b) refl d)
