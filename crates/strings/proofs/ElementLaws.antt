-- Elements and children as they are written: a name byte by byte, the loop over children, and an element piece by piece.
-- Main statements: `last_child`, `Left`, `text_on` and the like, `left_end`, `gap_end`, `void_end`, `no_kids`, `close_end`.
-- Assumes nothing.
use mathlib.Core.Path.{◌≡◌, sym, ap, ◌∙◌, subst}
use Prim.Native.Nat.{ℕ, ◌+◌, ◌*◌, ◌≤◌, ◌<◌}
use native.Mathlib.Omega.{arith}
use mathlib.Core.Bool.{Bool, true, false, ◌&&◌}
use mathlib.Core.List.{List, [], ◌∷◌, ◌++◌}
use lib.Dec.{eqb}
use lib.ListN.{length}
use Rattle.field.specs.Bytes.{Bytes, pick}
use Rattle.field.specs.Row.{read, Ended}
use Rattle.field.specs.Front.{behind_of}
use Rattle.field.specs.Fields.{IsFront}
use Rattle.field.proofs.Actions.{by, on, finish, room}
use Rattle.field.proofs.FrontLaws.{read_empty}
use Rattle.text.specs.Text.{jsx_text_to_str}
use Rattle.names.specs.Names.{is_void_element}
use Rattle.page.specs.Tree.{children_in, contained_in}
use Rattle.spec.specs.Pass.{Part, chars}
use Rattle.spec.specs.Children.{children_to_string}
use Rattle.decisions.specs.At.{opts, element_name, identifier_bytes, element_at, serializable, is_none, FirstChild}
use Rattle.decisions.specs.Becomes.{as_child}
use Rattle.strings.specs.Carve.{Carved, close, carve, contained_parts, opening, put_child, Low}
use Rattle.strings.proofs.CarveLaws.{carving, lows}
use Rattle.strings.proofs.MergeLaws.{to_string_direct}
use Rattle.strings.proofs.ShapeLaws.{parts_contained}
use Rattle.strings.proofs.TreeLaws.{kids, attrs_at, parts_at, parts_60, parts_52, parts_30, parts_31, parts_none, parts_other, no_child_left, inner, void, not_void, element_gap, element_open}

-- ---- whether a child follows

pub last_child : {par : Bool} → par ≡ true → {s r : Bytes} → FirstChild s r → eqb (length r) 0 ≡ (par && is_none (children_in (read s)))
last_child h {s} {r} f = no_child_left s r f ∙ sym (ap (λ (p : Bool). p && is_none (children_in (read s))) h)

-- ---- the loop over children

-- t is left of the series s, and the open string stands at w
pub record Left (skip props : Bytes) (par : Bool) (s : Bytes) (start : Carved) (t : Bytes) (w : Carved) : Type 0 where
  pub shorter : length t ≤ length s
  pub left : carve (parts_at skip props par t) w ≡ carve (children_to_string par (kids skip props s)) start

pub left_start : (skip props : Bytes) (par : Bool) (s : Bytes) (start : Carved) → Left skip props par s start s start
left_start skip props par s start = record { shorter = omega arith; left = sym (to_string_direct par (kids skip props s) start) }

module _ {skip props : Bytes} {par : Bool} {s : Bytes} {start : Carved} {t : Bytes} {w : Carved} (m : Left skip props par s start t w) where
  abbrev total : Carved
  total = carve (children_to_string par (kids skip props s)) start

  -- no child is left
  pub left_end : Ended (read t) → w ≡ total
  left_end i = finish carving (by carving (parts_none skip props par t i) m.left)

  -- the field in front has the tag k and the body b, and r lies behind it
  module _ {k : ℕ} {b r : Bytes} (f : IsFront t k b r) where
    pub body_falls : 8 * length b + 1 < 8 * length s
    body_falls = omega (arith, m.shorter, f.sizes)

    -- ps are the parts of the child in front
    module _ (ps : List Part) (z : parts_at skip props par t ≡ ps ++ parts_at skip props par r) where
      front_room : Low total → Low (carve ps w)
      front_room l = room carving lows ps (by carving z m.left) l

      front_on : {w' : Carved} → w' ≡ carve ps w → Left skip props par s start r w'
      front_on v = record { shorter = omega (arith, m.shorter, f.sizes); left = on carving ps (by carving z m.left) v }

    module _ (g : k ≡ 0x60) {y : Bool} (h : y ≡ (par && is_none (children_in (read r)))) where
      pub text_room : Low total → Low (carve (chars (jsx_text_to_str b true y) ∷ []) w)
      text_room l = front_room (chars (jsx_text_to_str b true y) ∷ []) (parts_60 skip props par t k f.tag_is f.body_is f.behind_is g h) l

      pub text_on : {w' : Carved} → w' ≡ carve (chars (jsx_text_to_str b true y) ∷ []) w → Left skip props par s start r w'
      text_on v = front_on (chars (jsx_text_to_str b true y) ∷ []) (parts_60 skip props par t k f.tag_is f.body_is f.behind_is g h) v

    module _ (g : k ≡ 0x52) where
      pub container_room : Low total → Low (put_child (as_child (contained_in (read b))) w)
      container_room l =
          subst Low (parts_contained (opts skip props) (contained_in (read b)) w)
          (front_room (contained_parts (opts skip props) (contained_in (read b))) (parts_52 skip props par t k f.tag_is f.body_is f.behind_is g) l)

      pub container_on : {w' : Carved} → w' ≡ put_child (as_child (contained_in (read b))) w → Left skip props par s start r w'
      container_on v =
          front_on (contained_parts (opts skip props) (contained_in (read b))) (parts_52 skip props par t k f.tag_is f.body_is f.behind_is g)
          (v ∙ sym (parts_contained (opts skip props) (contained_in (read b)) w))

    module _ (g : k ≡ 0x30) where
      pub element_room : Low total → Low (carve (element_at skip props b).to_string_vec w)
      element_room l = front_room (element_at skip props b).to_string_vec (parts_30 skip props par t k f.tag_is f.body_is f.behind_is g) l

      pub element_on : {w' : Carved} → w' ≡ carve (element_at skip props b).to_string_vec w → Left skip props par s start r w'
      element_on v = front_on (element_at skip props b).to_string_vec (parts_30 skip props par t k f.tag_is f.body_is f.behind_is g) v

    module _ (g : k ≡ 0x31) where
      pub fragment_room : Low total → Low (carve (children_to_string false (kids skip props b)) w)
      fragment_room l = front_room (children_to_string false (kids skip props b)) (parts_31 skip props par t k f.tag_is f.body_is f.behind_is g) l

      pub fragment_on : {w' : Carved} → w' ≡ carve (children_to_string false (kids skip props b)) w → Left skip props par s start r w'
      fragment_on v = front_on (children_to_string false (kids skip props b)) (parts_31 skip props par t k f.tag_is f.body_is f.behind_is g) v

    pub other_on : (k ≡ 0x60 → ⊥) → (k ≡ 0x52 → ⊥) → (k ≡ 0x30 → ⊥) → (k ≡ 0x31 → ⊥) → Left skip props par s start r w
    other_on a b' c d =
        record {
          shorter = omega (arith, m.shorter, f.sizes);
          left = by carving (parts_other skip props par t k f.tag_is f.behind_is (λ z. omega (arith, f.tag_below, z)) a b' c d) m.left;
        }

-- ---- an element

-- nothing behind its name leaves the open string
pub no_kids : (skip props r : Bytes) (w : Carved) → length r ≡ 0 → w ≡ carve (children_to_string true (kids skip props r)) w
no_kids skip props r w z = left_end (left_start skip props true r w) (subst Ended (sym (read_empty r z)) tt)

module _ (skip props b : Bytes) (w : Carved) {l : Bool} (e : l ≡ serializable skip b) where
  abbrev whole : Carved
  whole = carve (element_at skip props b).to_string_vec w

  -- it leaves a gap
  module _ (h : l ≡ false) where
    pub gap_room : Low whole → Low (close w)
    gap_room z = subst Low (element_gap skip props b e h w) z

    pub gap_end : {w₁ : Carved} → w₁ ≡ close w → w₁ ≡ whole
    gap_end q = q ∙ sym (element_gap skip props b e h w)

  -- n is its name, and r what lies behind it
  module _ (h : l ≡ true) {n r : Bytes} (p : n ≡ identifier_bytes (element_name (read b))) (q : r ≡ behind_of b) where
    at_name : carve (opening n r ++ (attrs_at skip props r ++ (chars (62 ∷ []) ∷ pick (is_void_element n) [] (inner skip props n r)))) w ≡ whole
    at_name = ap (λ (x : List Part). carve x w) (sym (element_open skip props b e h p q))

    pub open_room : Low whole → Low (carve (opening n r) w)
    open_room z = room carving lows (opening n r) at_name z

    module _ {w₁ : Carved} (e₁ : w₁ ≡ carve (opening n r) w) where
      at_attrs : carve (attrs_at skip props r ++ (chars (62 ∷ []) ∷ pick (is_void_element n) [] (inner skip props n r))) w₁ ≡ whole
      at_attrs = on carving (opening n r) at_name e₁

      pub attrs_room : Low whole → Low (carve (attrs_at skip props r) w₁)
      attrs_room z = room carving lows (attrs_at skip props r) at_attrs z

      module _ {w₂ : Carved} (e₂ : w₂ ≡ carve (attrs_at skip props r) w₁) where
        at_end : carve (chars (62 ∷ []) ∷ pick (is_void_element n) [] (inner skip props n r)) w₂ ≡ whole
        at_end = on carving (attrs_at skip props r) at_attrs e₂

        pub end_room : Low whole → Low (carve (chars (62 ∷ []) ∷ []) w₂)
        end_room z = room carving lows (chars (62 ∷ []) ∷ []) at_end z

        -- v tells whether it is void
        module _ {w₃ : Carved} (e₃ : w₃ ≡ carve (chars (62 ∷ []) ∷ []) w₂) {v : Bool} (f : v ≡ is_void_element n) where
          pub void_end : v ≡ true → w₃ ≡ whole
          void_end y = finish carving (by carving (void skip props n r f y) (on carving (chars (62 ∷ []) ∷ []) at_end e₃))

          module _ (y : v ≡ false) where
            at_kids : carve (inner skip props n r) w₃ ≡ whole
            at_kids = by carving (not_void skip props n r f y) (on carving (chars (62 ∷ []) ∷ []) at_end e₃)

            pub kids_room : Low whole → Low (carve (children_to_string true (kids skip props r)) w₃)
            kids_room z = room carving lows (children_to_string true (kids skip props r)) at_kids z

            module _ {w₄ : Carved} (e₄ : w₄ ≡ carve (children_to_string true (kids skip props r)) w₃) where
              at_close : carve (chars (60 ∷ 47 ∷ (n ++ (62 ∷ []))) ∷ []) w₄ ≡ whole
              at_close = on carving (children_to_string true (kids skip props r)) at_kids e₄

              pub close_room : Low whole → Low (carve (chars (60 ∷ 47 ∷ (n ++ (62 ∷ []))) ∷ []) w₄)
              close_room z = subst Low (sym at_close) z

              pub close_end : {w₅ : Carved} → w₅ ≡ carve (chars (60 ∷ 47 ∷ (n ++ (62 ∷ []))) ∷ []) w₄ → w₅ ≡ whole
              close_end e₅ = e₅ ∙ at_close
