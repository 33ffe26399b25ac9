-- A jsx call step by step, over what its functions answer: at each step what is left of the call does, from here on, what the whole does from the
-- start (`.._left`), and what the next function asks for (`.._asked`). Each law stands once; an answer of the code cites it with the answers
-- that the code has so far.
-- Main statements: `bare_done`, `string_done`, `keyed_done`, `keyless_done`. Assumes nothing.
use Rattle.std.proofs.Common.{Some}
use mathlib.Core.Path.{◌≡◌, refl, sym, ap, ◌∙◌, subst}
use Prim.Native.Nat.{ℕ, ◌+◌, ◌≤◌, ◌<◌, ◌^◌}
use native.Mathlib.Omega.{arith}
use mathlib.Core.Bool.{Bool, true, false, not}
use mathlib.Core.List.{[]}
use lib.ListN.{length}
use Rattle.field.specs.Bytes.{Bytes}
use Rattle.field.specs.Row.{read}
use Rattle.field.specs.Front.{behind_of}
use Rattle.spec.specs.Pass.{Mid, none}
use Rattle.spec.specs.Output.{null_node, string_node}
use Rattle.spec.specs.Attributes.{is_component, props_of, key_of}
use Rattle.spec.specs.Children.{name_expr, children_to_expr}
use Rattle.page.specs.Page.{Options}
use Rattle.decisions.specs.declared.attribute.Value.{Value}
use Rattle.decisions.specs.At.{element_name, element_at, attributes_at, children_at}
use Rattle.found.specs.Finds.{Finds}
use Rattle.found.specs.declared.Kind.{Kind}
use Rattle.walk.specs.declared.state.Walk.{Walk}
use Rattle.walk.specs.See.{World, at, see, act, to_page, wrap, wrap_if, props_closed, Low}
use Rattle.walk.specs.Plan.{key_given, key_braces}
use Rattle.walk.proofs.SeeLaws.{see_grows, see_none, lift}
use Rattle.walk.proofs.ActLaws.{act_grows, is_none}
use Rattle.visits.specs.Visiting.{is_found, found_out}
use Rattle.visits.proofs.CallLaws.{stands_by, lacks_by, found_stands, Call, call_of, call_is, name_plain, key_left, props_left, child_left, found_left, children_left, attributes_left, named_left, name_left, call_left, children_front, grew, front_grew, front_past, child_grew, closed_grew, begin_room, name_room, props_begin_room, props_room, front_room, found_room, child_room, closed_room, begun_on, name_on, props_begun_on, front_on, child_on, closed_on, props_on, found_on, see_low, held_room, bare_lacks, bare_room, bare_on, call_low, call_done}

-- what the value of the key gives, once it is known which it is
module _ {v w : Value} (e : v ≡ w) where
  pub key_as : (o : Options) {m : Mid} → m ≡ key_given o (Some v) → m ≡ key_given o (Some w)
  key_as o g = g ∙ ap (λ (x : Value). key_given o (Some x)) e

  pub braces_as : {n : ℕ} → length (key_braces (Some v)) ≤ n → length (key_braces (Some w)) ≤ n
  braces_as {n} l = subst (λ (x : Value). length (key_braces (Some x)) ≤ n) e l

-- b is the element, rest what lies behind its name; z is whether it is a component, s whether `children` stands
module _ (skip props b o p : Bytes) (st : Walk) {rest : Bytes} (q : rest ≡ behind_of b) {z : Bool} (e : z ≡ is_component (element_name (read b))) where
  abbrev whole : World
  whole = act (element_at skip props b).to_call_expr (at o p st)

  abbrev call : Bool → Call
  call s = call_of skip props b rest (not z) s

  -- what the first pass over the children gives
  abbrev given : Mid
  given = ((call true).found st.first).value

  call_starts : (s : Bool) → is_none given ≡ not s → call_left (call s) (at o p st) ≡ whole
  call_starts s h = call_is skip props b q e (at o p st) s h

  pub begin_asked : Low whole.st → st.page + 3 < 2 ^ 63
  begin_asked l = begin_room _ _ _ _ _ l (call_starts (stands_by given) (lacks_by given))

  module _ {y₁ : Walk} (e₁ : y₁ ≡ to_page (st.page + 3) st) where
    name_begins : (s : Bool) → is_none given ≡ not s → name_left (call s) st.page (at o p y₁) ≡ whole
    name_begins s h = begun_on (call s) _ _ _ _ _ e₁ (call_starts s h)

    pub name_asked : Low whole.st → Low (see (name_expr (element_name (read b))) (at [] p y₁)).st
    name_asked l = name_room _ _ _ _ _ l _ (name_begins (stands_by given) (lacks_by given))

    module _ {p₂ : Bytes} {y₂ : Walk} (e₂ : at [] p₂ y₂ ≡ see (name_expr (element_name (read b))) (at [] p y₁)) where
      name_ends : (s : Bool) → is_none given ≡ not s → named_left (call s) st.page (at o p₂ y₂) ≡ whole
      name_ends s h = name_on (call s) _ _ _ _ _ _ _ (name_plain _) e₂ (name_begins s h)

      named_past : st.page + 3 ≤ y₂.page
      named_past = omega (arith, ap (λ (x : Walk). x.page) e₁, grew (see_grows _ _) e₂)

      -- nothing stands behind the name
      module _ (h : length rest ≡ 0) where
        name_bare : named_left (call false) st.page (at o p₂ y₂) ≡ whole
        name_bare = name_ends false (bare_lacks skip props b rest (not z) h st.first)

        pub bare_asked : Low whole.st → Low (see null_node (at [] p₂ y₂)).st
        bare_asked l = bare_room skip props b rest (not z) h _ _ _ _ _ name_bare l

        module _ {p₃ : Bytes} {y₃ : Walk} (e₃ : at [] p₃ y₃ ≡ see null_node (at [] p₂ y₂)) where
          null_ends : key_left st.page none (at o p₃ y₃) ≡ whole
          null_ends = bare_on skip props b rest (not z) h _ _ _ _ _ name_bare _ _ e₃

          pub bare_close_asked : Low whole.st → (st.page + 3 ≤ y₃.page) × Low y₃
          bare_close_asked l = (omega (arith, named_past, grew (see_grows _ _) e₃), call_low _ _ _ refl _ _ null_ends _ _ _ (sym (see_none _)) l)

          pub bare_done : {p₄ : Bytes} {y₄ : Walk} → at [] p₄ y₄ ≡ wrap 0x94 st.page (at [] p₃ y₃) → at o p₄ y₄ ≡ whole
          bare_done e₄ = call_done _ _ _ refl _ _ null_ends _ _ _ (sym (see_none _)) _ _ e₄

      pub props_begin_asked : Low whole.st → y₂.page + 3 < 2 ^ 63
      props_begin_asked l = props_begin_room _ _ _ _ _ l _ (name_ends (stands_by given) (lacks_by given))

      module _ {y₃ : Walk} (e₃ : y₃ ≡ to_page (y₂.page + 3) y₂) where
        props_begin : (s : Bool) → is_none given ≡ not s → attributes_left (call s) st.page y₂.page (at o p₂ y₃) ≡ whole
        props_begin s h = props_begun_on (call s) _ _ _ _ _ _ e₃ (name_ends s h)

        pub props_asked : Low whole.st → Low (see (props_of (not z) (attributes_at skip props (read rest))) (at o p₂ y₃)).st
        props_asked l = props_room _ _ _ _ _ l _ _ (props_begin (stands_by given) (lacks_by given))

        module _ {o₄ p₄ : Bytes} {y₄ : Walk} (e₄ : at o₄ p₄ y₄ ≡ see (props_of (not z) (attributes_at skip props (read rest))) (at o p₂ y₃)) where
          props_end : (s : Bool) → is_none given ≡ not s → children_left (call s) st.page y₂.page (at o₄ p₄ y₄) ≡ whole
          props_end s h = props_on (call s) _ _ _ _ _ e₄ (props_begin s h)

          filled_past : y₂.page + 3 ≤ y₄.page
          filled_past = omega (arith, ap (λ (x : Walk). x.page) e₃, grew (see_grows _ _) e₄)

          -- `children`: what is found tells whether it stands
          module _ (k : Kind) (u : Bytes) (f : Finds skip props (children_to_expr (children_at skip props (read rest))) k u) {s : Bool} (d : s ≡ is_found k) where
            children_stand : is_none given ≡ not s
            children_stand = found_stands skip props _ _ k _ f ∙ ap not (sym d)

            pub front_asked : Low whole.st → Low (children_front s (at [] p₄ y₄)).st
            front_asked l = front_room (call s) _ _ _ _ l _ _ (props_end s children_stand)

            module _ {p₅ : Bytes} {y₅ : Walk} (e₅ : at [] p₅ y₅ ≡ children_front s (at [] p₄ y₄)) where
              children_begin : found_left (call s) st.page y₂.page y₄.page (at o₄ p₅ y₅) ≡ whole
              children_begin = front_on (call s) _ _ _ _ _ _ _ _ e₅ (props_end s children_stand)

              pub found_asked : Low whole.st → Low (act (found_out false (children_to_expr (children_at skip props (read rest)))) (at o₄ p₅ y₅)).st
              found_asked l = found_room _ _ _ _ _ l _ _ _ children_begin

              module _ {o₆ p₆ : Bytes} {y₆ : Walk} (e₆ : at o₆ p₆ y₆ ≡ act (found_out false (children_to_expr (children_at skip props (read rest)))) (at o₄ p₅ y₅)) where
                children_found : child_left (call s) st.page y₂.page y₄.page (at o₆ p₆ y₆) ≡ whole
                children_found = found_on (call s) _ _ _ _ _ _ e₆ children_begin

                found_past : y₄.page ≤ y₆.page
                found_past = omega (arith, front_grew s _ _ _ _ e₅, grew (act_grows _ _) e₆)

                pub child_asked : Low whole.st → (s ≡ true → y₄.page + 3 ≤ y₆.page) × Low y₆
                child_asked l = (λ h. omega (arith, front_past s _ _ _ _ e₅ h, grew (act_grows _ _) e₆), child_room _ _ _ _ _ l _ _ _ children_found)

                module _ {p₇ : Bytes} {y₇ : Walk} (e₇ : at [] p₇ y₇ ≡ wrap_if s 0x96 y₄.page (at [] p₆ y₆)) where
                  children_end : props_left (call s) st.page y₂.page (at o₆ p₇ y₇) ≡ whole
                  children_end = child_on (call s) _ _ _ _ _ _ _ _ _ e₇ children_found

                  childed_past : y₂.page + 3 ≤ y₇.page
                  childed_past = omega (arith, filled_past, found_past, child_grew s _ _ _ _ y₆ _ e₇)

                  pub closed_asked : Low whole.st → (y₂.page + 3 ≤ y₇.page) × Low (props_closed y₂.page (at [] p₇ y₇)).st
                  closed_asked l = (childed_past, closed_room _ _ _ _ _ l _ _ children_end)

                  module _ {p₈ : Bytes} {y₈ : Walk} (e₈ : at [] p₈ y₈ ≡ props_closed y₂.page (at [] p₇ y₇)) where
                    props_close : key_left st.page (call s).key (at o₆ p₈ y₈) ≡ whole
                    props_close = closed_on (call s) _ _ _ _ _ _ _ _ e₈ children_end

                    closed_past : st.page + 3 ≤ y₈.page
                    closed_past = omega (arith, named_past, childed_past, closed_grew y₂.page _ _ y₇ _ e₈)

                    -- m is the key
                    module _ {m : Mid} (g : key_of (not z) (attributes_at skip props (read rest)) none ≡ m) where
                      pub key_asked : Low whole.st → Low (see m (at o₆ p₈ y₈)).st
                      key_asked l = held_room _ _ _ (sym g) _ _ props_close l

                      module _ {o₁ p₁ : Bytes} {x₁ : Walk} (k₁ : at o₁ p₁ x₁ ≡ see m (at o₆ p₈ y₈)) where
                        pub keyed_asked : Low whole.st → (st.page + 3 ≤ x₁.page) × Low x₁
                        keyed_asked l = (omega (arith, closed_past, grew (see_grows _ _) k₁), call_low _ _ _ (sym g) _ _ props_close _ _ _ k₁ l)

                        pub keyed_done : {p₀ : Bytes} {x₀ : Walk} → at [] p₀ x₀ ≡ wrap 0x94 st.page (at [] p₁ x₁) → at o₁ p₀ x₀ ≡ whole
                        keyed_done k₀ = call_done _ _ _ (sym g) _ _ props_close _ _ _ k₁ _ _ k₀

                    -- it is a string, of which the walk writes a leaf
                    module _ {w : Bytes} (g : key_of (not z) (attributes_at skip props (read rest)) none ≡ string_node w) where
                      pub string_asked : Low whole.st → Low (see (string_node w) (at [] p₈ y₈)).st
                      string_asked l = see_low (string_node w) _ _ _ (key_asked g l)

                      module _ {p₉ : Bytes} {y₉ : Walk} (e₉ : at [] p₉ y₉ ≡ see (string_node w) (at [] p₈ y₈)) where
                        string_seen : at o₆ p₉ y₉ ≡ see (string_node w) (at o₆ p₈ y₈)
                        string_seen = lift o₆ p₈ p₉ y₈ y₉ (string_node w) refl e₉

                        pub string_closed : Low whole.st → (st.page + 3 ≤ y₉.page) × Low y₉
                        string_closed = keyed_asked g string_seen

                        pub string_done : {p₀ : Bytes} {x₀ : Walk} → at [] p₀ x₀ ≡ wrap 0x94 st.page (at [] p₉ y₉) → at o₆ p₀ x₀ ≡ whole
                        string_done = keyed_done g string_seen

                    -- there is none
                    module _ (g : key_of (not z) (attributes_at skip props (read rest)) none ≡ none) where
                      pub keyless_asked : Low whole.st → (st.page + 3 ≤ y₈.page) × Low y₈
                      keyless_asked = keyed_asked g (sym (see_none _))

                      pub keyless_done : {p₉ : Bytes} {y₉ : Walk} → at [] p₉ y₉ ≡ wrap 0x94 st.page (at [] p₈ y₈) → at o₆ p₉ y₉ ≡ whole
                      keyless_done = keyed_done g (sym (see_none _))
