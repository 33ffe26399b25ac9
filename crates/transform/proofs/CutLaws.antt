-- The items in two parts, before the first 10 or 12 and from it on: their bytes are all bytes, and the place of the templates stands between
-- them. Main statements: `front_parts`, `front_page`, `cut_between`, `cut_before`. Assumes nothing.
use Prim.Native.Nat.{ℕ, ◌+◌, ◌≤◌}
use native.Mathlib.Omega.{arith}
use native.Mathlib.Nat.{zero-add}
use mathlib.Core.Path.{◌≡◌, refl, sym, ap, ap₂, ◌∙◌}
use mathlib.Core.Bool.{Bool, true, false, false≢true}
use mathlib.Core.List.{List, [], ◌∷◌, ◌++◌, append_assoc}
use lib.ListN.{length}
use Rattle.field.specs.Bytes.{Bytes, pick}
use Rattle.field.specs.Row.{Row, end, field, field_bytes, bytes}
use Rattle.field.specs.Number.{big_endian}
use Rattle.field.specs.Put.{head}
use Rattle.page.specs.Page as P
use Rattle.page.specs.Page.{Options, Page}
use Rattle.spec.specs.Pass.{Template, Done, pure, both, Mid, none, node, ◌+++◌}
use Rattle.spec.specs.Visit.{visit_exprs}
use Rattle.spec.specs.Transform as Row
use Rattle.spec.specs.Transform.{with_templates, before_statement, pieces, module_items}
use Rattle.walk.specs.See.{World, at, see}
use Rattle.walk.proofs.SeeLaws.{see_none}
use Rattle.transform.specs.Run.{module_mid, page_has_statement, items_before, items_from, started}
use Rattle.transform.proofs.RunLaws.{not_due, statement_same}

-- the bytes of a row are a and then b; and with the place of the templates, where there are any, it stands between them
pub record Cut (ts : List Template) (v : Row) (a b : Bytes) : Type 0 where
  pub whole : bytes v ≡ a ++ b
  pub placed : 1 ≤ length ts → bytes (with_templates ts v) ≡ a ++ (head 0x83 0 ++ b)

-- behind a field
cut_behind : (t : ℕ) (i x u : Row) (y : Bytes) → bytes x ≡ bytes u ++ y → bytes (field t [] i x) ≡ bytes (field t [] i u) ++ y
unfolding bytes
cut_behind t i x u y h = let f = field_bytes t (bytes i) in ap (λ (z : Bytes). f ++ z) h ∙ sym (append_assoc f (bytes u) y)

module _ (o : Options) where
  parts : (is : Page) → module_mid o false is ≡ module_mid o false (items_before is) +++ module_mid o false (items_from is)
  unfolding module_mid items_before items_from ◌+++◌
  parts [] = refl
  parts (P.export_item ps ∷ is) = refl
  parts (P.declaration_item ps ∷ is) = ap (node 0x11 [] (pieces o ps)) (parts is)
  parts (P.statement_item ps ∷ is) = refl
  parts (P.empty_item ∷ is) = ap (node 0x13 [] none) (parts is)

  -- whether one stands or not
  pub front_parts : (is : Page) (b : Bool) → module_mid o false is ≡ module_mid o false (pick b (items_before is) []) +++ module_mid o false (pick b (items_from is) is)
  unfolding module_mid ◌+++◌
  front_parts is true = parts is
  front_parts is false = refl

  abbrev pub first_part : Page → ℕ → Done Row
  first_part is n = visit_exprs (module_mid o false (items_before is)) n

  -- from number k on
  abbrev part_from : Page → ℕ → Bytes
  part_from is k = bytes (visit_exprs (module_mid o false (items_from is)) k).value

  abbrev pub second_part : Page → ℕ → Bytes
  second_part is n = part_from is (n + (first_part is n).taken)

  -- all of it, with nothing in front
  all_from : (is : Page) (n k : ℕ) → n ≡ k → bytes (visit_exprs (module_items o is) n).value ≡ bytes (visit_exprs (module_mid o false is) k).value
  all_from is n k e = ap₂ (λ (m : Mid) (j : ℕ). bytes (visit_exprs m j).value) (sym (not_due o is)) e

  cut_whole : (is : Page) (n : ℕ) → bytes (visit_exprs (module_items o is) n).value ≡ bytes (first_part is n).value ++ second_part is n
  unfolding module_mid items_before items_from module_items visit_exprs both pure bytes
  cut_whole [] n = refl
  cut_whole (P.export_item ps ∷ is) n = all_from (P.export_item ps ∷ is) n (n + 0) (omega arith)
  cut_whole (P.declaration_item ps ∷ is) n =
      let d = visit_exprs (pieces o ps) n in
      let m = n + d.taken in
      let z : m + (first_part is m).taken ≡ n + (d.taken + (first_part is m).taken) = omega arith in
      cut_behind 0x11 d.value (visit_exprs (module_items o is) m).value (first_part is m).value _ (cut_whole is m ∙ ap (λ (k : ℕ). bytes (first_part is m).value ++ part_from is k) z)
  cut_whole (P.statement_item ps ∷ is) n = all_from (P.statement_item ps ∷ is) n (n + 0) (omega arith)
  cut_whole (P.empty_item ∷ is) n =
      let m = n + 0 in
      let z : m + (first_part is m).taken ≡ n + (0 + (first_part is m).taken) = omega arith in
      cut_behind 0x13 end (visit_exprs (module_items o is) m).value (first_part is m).value _ (cut_whole is m ∙ ap (λ (k : ℕ). bytes (first_part is m).value ++ part_from is k) z)

  cut_placed : (is : Page) (n : ℕ) → page_has_statement is ≡ true → bytes (before_statement (visit_exprs (module_items o is) n).value) ≡ bytes (first_part is n).value ++ (head 0x83 0 ++ second_part is n)
  unfolding page_has_statement module_mid items_before items_from module_items before_statement visit_exprs both pure bytes field_bytes big_endian
  cut_placed [] n h = absurd (false≢true h)
  cut_placed (P.export_item ps ∷ is) n h = ap (λ (x : Bytes). head 0x83 0 ++ x) (all_from (P.export_item ps ∷ is) n (n + 0) (omega arith))
  cut_placed (P.declaration_item ps ∷ is) n h =
      let d = visit_exprs (pieces o ps) n in
      let m = n + d.taken in
      let z : m + (first_part is m).taken ≡ n + (d.taken + (first_part is m).taken) = omega arith in
      cut_behind 0x11 d.value (before_statement (visit_exprs (module_items o is) m).value) (first_part is m).value _
      (cut_placed is m h ∙ ap (λ (k : ℕ). bytes (first_part is m).value ++ (head 0x83 0 ++ part_from is k)) z)
  cut_placed (P.statement_item ps ∷ is) n h = ap (λ (x : Bytes). head 0x83 0 ++ x) (all_from (P.statement_item ps ∷ is) n (n + 0) (omega arith))
  cut_placed (P.empty_item ∷ is) n h =
      let m = n + 0 in
      let z : m + (first_part is m).taken ≡ n + (0 + (first_part is m).taken) = omega arith in
      cut_behind 0x13 end (before_statement (visit_exprs (module_items o is) m).value) (first_part is m).value _
      (cut_placed is m h ∙ ap (λ (k : ℕ). bytes (first_part is m).value ++ (head 0x83 0 ++ part_from is k)) z)

  module _ (is : Page) (n : ℕ) (ts : List Template) where
    abbrev row : Row
    row = (visit_exprs (module_items o is) n).value

    placed_row : (b : Bool) (us : List Template) → Row.has_statement row ≡ b → 1 ≤ length us → with_templates us row ≡ pick b (before_statement row) (field 0x83 [] end row)
    unfolding with_templates
    placed_row b [] e l = absurd (omega arith)
    placed_row b (t ∷ us) e l = ap (λ (c : Bool). pick c (before_statement row) (field 0x83 [] end row)) e

    pub cut_between : page_has_statement is ≡ true → Cut ts row (bytes (first_part is n).value) (second_part is n)
    cut_between h = record { whole = cut_whole is n; placed = λ l. ap bytes (placed_row true ts (statement_same o is n ∙ h) l) ∙ cut_placed is n h }

    pub cut_before : page_has_statement is ≡ false → Cut ts row [] (bytes row)
    unfolding bytes field_bytes big_endian
    cut_before h = record { whole = refl; placed = λ l. ap bytes (placed_row false ts (statement_same o is n ∙ h) l) }

-- the first part alone ends behind its bytes
first_page : (o : Options) (is : Page) (t p : Bytes) → (see (module_mid o false (items_before is)) (at t p (started 0))).st.page ≡ length (bytes (first_part o is 1).value)
unfolding see
first_page o is t p = zero-add (length (bytes (first_part o is 1).value))

-- or where no part stands in front, at once
pub front_page : (o : Options) (is : Page) (b : Bool) (t p : Bytes) → (see (module_mid o false (pick b (items_before is) [])) (at t p (started 0))).st.page ≡ pick b (length (bytes (first_part o is 1).value)) 0
unfolding module_mid
front_page o is true t p = first_page o is t p
front_page o is false t p = ap (λ (w : World). w.st.page) (see_none (at t p (started 0)))
