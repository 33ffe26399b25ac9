-- A row that keeps the grammar of a page out: its bytes are read back for conversion as that row, with its leaves by their bytes, and nothing is
-- refused of it; the import and the place of the templates put in. Main statements: `flat_read`, `flat_good`, `whole_formed`. Assumes nothing.
use Prim.Native.Nat.{ℕ, ◌+◌, ◌≤◌}
use native.Mathlib.Omega.{arith}
use mathlib.Core.Path.{◌≡◌, refl, sym, ap, ap₂, ◌∙◌, subst}
use mathlib.Core.Bool.{Bool, true, false, ◌&&◌, ◌||◌, not}
use mathlib.Core.List.{List, [], ◌∷◌, ◌++◌, append-nil}
use lib.Dec.{T, eqb, leb, ltb, nltb→le}
use lib.ListN.{length}
use borrow.Author.Tests.{eqb-true, eqb-false, eq-eqb, leb-true, le-leb, ne_eqb}
use Rattle.std.proofs.Math.Facts.{or_no}
use Rattle.std.proofs.lemmas.Bool.{or_parts, or_right}
use Rattle.field.specs.Bytes.{Bytes, ascii, pick}
use Rattle.field.specs.Row.{Row, end, loose, field, field_bytes, bytes, long_body, Inside, only_bytes, fields_after, next}
use Rattle.field.proofs.Reading.{FrontFits, ShapedBy, front_full, back, next_written}
use Rattle.utf8.specs.Utf8 as U
use Rattle.utf8.proofs.Laws.{ascii_utf8}
use Rattle.page.specs.Check.{check_empty}
use Rattle.page.specs.Page.{Options}
use Rattle.refusal.specs.Refusal.{Fine, after, unless}
use Rattle.page.specs.Tree.{choose}
use Rattle.refusal.specs.declared.Refusal.TheVariants as R
use Rattle.refusal.proofs.Verdicts.{fine_after}
use Rattle.page.proofs.TightRows.{short_field, short_parts}
use Rattle.outs.specs.Held.{nests, held, read_out}
use Rattle.outs.specs.PageOut.{statement, declaration, allowed, left, within, front_right, check_sum, check_import, check_leaf, good}
use Rattle.outs.specs.declared.Expect.{Expect}
use Rattle.outs.specs.declared.Expect.TheVariants as E
use Rattle.spec.specs.Pass.{Template, Done}
use Rattle.spec.specs.Transform.{bit, stands, is_statement, has_statement, before_statement, with_templates, helper_sum, with_import, page_out_row}
use Rattle.spec.proofs.Characters.{Text}
use Rattle.spec.proofs.Texts.{text_append}
use Rattle.convert.proofs.Formed.{true_never, false_never, front_size, FormedRow}
use Rattle.convert.proofs.EveryTag.{text_fine}
use Rattle.convert.proofs.PageLaws.{leaf_held}

-- ---- leaves by their bytes

unfoldable pub flat : Row → Row
flat end = end
flat (loose b) = loose b
flat (field t f i r) = pick (nests t) (field t f (flat i) (flat r)) (field t (f ++ bytes i) end (flat r))

pub flat_nest : (t : ℕ) (f : Bytes) (i r : Row) → nests t ≡ true → flat (field t f i r) ≡ field t f (flat i) (flat r)
unfolding flat
flat_nest t f i r q = rw q

pub flat_leaf : (t : ℕ) (f : Bytes) (i r : Row) → nests t ≡ false → flat (field t f i r) ≡ field t (f ++ bytes i) end (flat r)
unfolding flat
flat_leaf t f i r q = rw q

pub flat_bytes : (x : Row) → bytes (flat x) ≡ bytes x
unfolding bytes
flat_bytes end = unfold flat in refl
flat_bytes (loose b) = unfold flat in refl
flat_bytes (field t f i r) = on (nests t) refl (flat_bytes i) (flat_bytes r)
  where
    on : (b : Bool) → nests t ≡ b → bytes (flat i) ≡ bytes i → bytes (flat r) ≡ bytes r → bytes (flat (field t f i r)) ≡ bytes (field t f i r)
    on true q h g = ap bytes (flat_nest t f i r q) ∙ ap₂ (λ (x y : Bytes). field_bytes t (f ++ x) ++ y) h g
    on false q h g = ap bytes (flat_leaf t f i r q) ∙ ap₂ (λ (x y : Bytes). field_bytes t x ++ y) (append-nil (f ++ bytes i)) g

pub flat_short : (x : Row) → T (not (long_body x)) → T (not (long_body (flat x)))
unfolding bytes long_body
flat_short end l = unfold flat in l
flat_short (loose b) l = unfold flat in l
flat_short (field t f i r) l =
    let p = short_parts t f i r l in
    on (nests t) refl p.0 (flat_short i p.1) (flat_short r p.2)
  where
    on : (b : Bool) → nests t ≡ b → length (f ++ bytes i) ≤ 65535 → T (not (long_body (flat i))) → T (not (long_body (flat r))) → T (not (long_body (flat (field t f i r))))
    on true q s h g =
        let e : length (f ++ bytes (flat i)) ≤ 65535 = subst (λ (x : Bytes). length (f ++ x) ≤ 65535) (sym (flat_bytes i)) s in
        subst (λ (x : Row). T (not (long_body x))) (sym (flat_nest t f i r q)) (short_field t f (flat i) (flat r) e h g)
    on false q s h g =
        let e : length ((f ++ bytes i) ++ bytes end) ≤ 65535 = subst (λ (x : Bytes). length x ≤ 65535) (sym (append-nil (f ++ bytes i))) s in
        subst (λ (x : Row). T (not (long_body x))) (sym (flat_leaf t f i r q)) (short_field t (f ++ bytes i) end (flat r) e tt g)

held_nest : (t : ℕ) → nests t ≡ true → held 4 t ≡ fields_after (front_size t)
unfolding held
held_nest t q = on (eqb t 0x90)
  where
    on : (b : Bool) → pick b (fields_after 4) (pick (nests t) (fields_after 0) only_bytes) ≡ fields_after (pick b 4 0)
    on true = refl
    on false = rw q

pub flat_shaped : (c : Expect) (x : Row) → FormedRow c x → ShapedBy (held 4) (flat x)
unfolding FormedRow
flat_shaped c end h = unfold flat in tt
flat_shaped c (loose b) h = absurd h
flat_shaped c (field t f i r) h = on (nests t) refl (λ q. flat_shaped (within t) i (h.1 q).1) (flat_shaped (left c t) r h.3)
  where
    on : (b : Bool) → nests t ≡ b → (nests t ≡ true → ShapedBy (held 4) (flat i)) → ShapedBy (held 4) (flat r) → ShapedBy (held 4) (flat (field t f i r))
    on true q k g =
        let e : FrontFits (held 4 t) f (flat i) = subst (λ (y : Inside). FrontFits y f (flat i)) (sym (held_nest t q)) (front_full (front_size t) f (flat i) (h.1 q).0) in
        subst (ShapedBy (held 4)) (sym (flat_nest t f i r q)) (e, k q, g)
    on false q k g =
        let e : FrontFits (held 4 t) (f ++ bytes i) end = subst (λ (y : Inside). FrontFits y (f ++ bytes i) end) (sym (leaf_held 4 t q)) (unfold FrontFits in tt) in
        subst (ShapedBy (held 4)) (sym (flat_leaf t f i r q)) (e, tt, g)

front_fine : (t : ℕ) (f : Bytes) → length f ≡ front_size t → front_right 4 t f ≡ true
front_fine t f h = on (eqb t 0x90) h
  where
    on : (b : Bool) → length f ≡ pick b 4 0 → pick b (eqb (length f) 4) true ≡ true
    on true h = eq-eqb (length f) 4 h
    on false h = refl

pub unless_true : {b : Bool} → b ≡ true → unless b R.Misplaced ≡ Fine
unless_true h = ap (λ (x : Bool). unless x R.Misplaced) h

good_nest : (c : Expect) (t : ℕ) (f : Bytes) (i r : Row) → nests t ≡ true → allowed c t ≡ true → length f ≡ front_size t → good 4 (within t) i ≡ Fine → good 4 (left c t) r ≡ Fine → good 4 c (field t f i r) ≡ Fine
unfolding good choose
good_nest c t f i r q a l h g =
    fine_after _ _ (unless_true a)
    (fine_after _ _ (ap (λ (b : Bool). choose b (λ _. after (unless (front_right 4 t f) R.Misplaced) λ _. good 4 (within t) i) (λ _. check_leaf t f)) q ∙ fine_after _ _ (unless_true (front_fine t f l)) h) g)

good_leaf : (c : Expect) (t : ℕ) (f : Bytes) (i r : Row) → nests t ≡ false → allowed c t ≡ true → check_leaf t f ≡ Fine → good 4 (left c t) r ≡ Fine → good 4 c (field t f i r) ≡ Fine
unfolding good choose
good_leaf c t f i r q a h g =
    fine_after _ _ (unless_true a)
    (fine_after _ _ (ap (λ (b : Bool). choose b (λ _. after (unless (front_right 4 t f) R.Misplaced) λ _. good 4 (within t) i) (λ _. check_leaf t f)) q ∙ h) g)

pub flat_good : (c : Expect) (x : Row) → FormedRow c x → good 4 c (flat x) ≡ Fine
unfolding FormedRow
flat_good c end h = unfold flat good in h
flat_good c (loose b) h = absurd h
flat_good c (field t f i r) h = on (nests t) refl (λ q. flat_good (within t) i (h.1 q).1) (flat_good (left c t) r h.3)
  where
    on : (b : Bool) → nests t ≡ b → (nests t ≡ true → good 4 (within t) (flat i) ≡ Fine) → good 4 (left c t) (flat r) ≡ Fine → good 4 c (flat (field t f i r)) ≡ Fine
    on true q k g = ap (good 4 c) (flat_nest t f i r q) ∙ good_nest c t f (flat i) (flat r) q h.0 (h.1 q).0 (k q) g
    on false q k g = ap (good 4 c) (flat_leaf t f i r q) ∙ good_leaf c t (f ++ bytes i) end (flat r) q h.0 (h.2 q) g

pub flat_read : (c : Expect) (x : Row) → FormedRow c x → T (not (long_body x)) → read_out 4 (bytes x) ≡ flat x
unfolding read_out
flat_read c x h l = ap (λ (b : Bytes). read_out 4 b) (sym (flat_bytes x)) ∙ back (held 4) (flat x) (flat_shaped c x h) (flat_short x l)

-- ---- the place of the templates

-- an item is none of the two that are put in
record Item (t : ℕ) : Type 0 where
  no_import : eqb t 0x82 ≡ false
  no_place : eqb t 0x83 ≡ false

item_low : (t : ℕ) → allowed E.Rest t ≡ true → t ≤ 0x13
item_low t h = on (leb 0x10 t) (leb t 0x13) refl h
  where
    on : (a b : Bool) → leb t 0x13 ≡ b → (a && b) ≡ true → t ≤ 0x13
    on true true q h = leb-true t 0x13 q
    on true false q h = false_never h
    on false b q h = false_never h

item_of : (t : ℕ) → allowed E.Rest t ≡ true → Item t
item_of t h = let l = item_low t h in record { no_import = ne_eqb t 0x82 (λ e. omega arith); no_place = ne_eqb t 0x83 (λ e. omega arith) }

-- the field in front, where the same may come and what follows it is as well
front_in : (c d : Expect) (t : ℕ) (f : Bytes) (i r : Row) → FormedRow c (field t f i r) → allowed d t ≡ true → FormedRow (left d t) r → FormedRow d (field t f i r)
unfolding FormedRow
front_in c d t f i r h a g = (a, h.1, h.2, g)

front_of : (t : ℕ) (f : Bytes) (i r : Row) → FormedRow E.Rest (field t f i r) → (allowed E.Rest t ≡ true) × FormedRow E.Rest r
unfolding FormedRow
front_of t f i r h = (h.0, h.3)

place_fine : check_leaf 0x83 ([] ++ bytes end) ≡ Fine
unfolding check_leaf choose check_empty bytes
place_fine = refl

placed : (c : Expect) (r : Row) → allowed c 0x83 ≡ true → FormedRow (left c 0x83) r → FormedRow c (field 0x83 [] end r)
unfolding FormedRow
placed c r a h = (a, (λ q. false_never q), (λ q. place_fine), h)

-- which of two may follow
chosen : (b : Bool) (c d : Expect) (r : Row) → (b ≡ true → FormedRow c r) → (b ≡ false → FormedRow d r) → FormedRow (pick b c d) r
chosen true c d r h g = h refl
chosen false c d r h g = g refl

as_declarations : (r : Row) → FormedRow E.Rest r → FormedRow E.Declarations r
as_declarations end h = unfold FormedRow in refl
as_declarations (loose b) h = absurd (unfold FormedRow in h)
as_declarations (field t f i r) h =
    let p = front_of t f i r h in
    let k = item_of t p.0 in
    let next : FormedRow (pick (eqb t 0x83) E.Statement (pick (statement t) E.Rest E.Declarations)) r = chosen (eqb t 0x83) E.Statement _ r (λ q. true_never (sym q ∙ k.no_place)) (λ _. chosen (statement t) E.Rest E.Declarations r (λ _. p.1) (λ _. as_declarations r p.1)) in
    front_in E.Rest E.Declarations t f i r h (or_right (eqb t 0x83) (allowed E.Rest t) p.0) next

-- items from the front on
as_items : (r : Row) → FormedRow E.Rest r → FormedRow E.Items r
as_items end h = unfold FormedRow in refl
as_items (loose b) h = absurd (unfold FormedRow in h)
as_items (field t f i r) h =
    let p = front_of t f i r h in
    let k = item_of t p.0 in
    let next : FormedRow (pick (eqb t 0x83) E.Placed (pick (statement t) E.Rest E.Declarations)) r = chosen (eqb t 0x83) E.Placed _ r (λ q. true_never (sym q ∙ k.no_place)) (λ _. chosen (statement t) E.Rest E.Declarations r (λ _. p.1) (λ _. as_declarations r p.1)) in
    front_in E.Rest E.Items t f i r h (or_right (eqb t 0x83) (allowed E.Rest t) p.0) next

-- an item that is no statement
declared : (t : ℕ) → allowed E.Rest t ≡ true → is_statement t ≡ false → declaration t ≡ true
declared t h s = on (leb 0x10 t) refl (leb t 0x13) refl (eqb t 0x10) refl (eqb t 0x12) refl (eqb t 0x11) refl (eqb t 0x13) refl h s
  where
    on : (a : Bool) → leb 0x10 t ≡ a → (b : Bool) → leb t 0x13 ≡ b → (u : Bool) → eqb t 0x10 ≡ u → (v : Bool) → eqb t 0x12 ≡ v → (x : Bool) → eqb t 0x11 ≡ x → (y : Bool) → eqb t 0x13 ≡ y → (a && b) ≡ true → (u || v) ≡ false → (x || y) ≡ true
    on a pa b pb u pu v pv true px y py h s = refl
    on a pa b pb u pu v pv false px true py h s = refl
    on a pa b pb true pu v pv false px false py h s = true_never s
    on a pa b pb false pu true pv false px false py h s = true_never s
    on false pa b pb false pu false pv false px false py h s = false_never h
    on true pa false pb false pu false pv false px false py h s = false_never h
    on true pa true pb false pu false pv false px false py h s = absurd (let e : (t ≡ 0x10 → ⊥) = eqb-false t 0x10 pu in let g : (t ≡ 0x11 → ⊥) = eqb-false t 0x11 px in let k : (t ≡ 0x12 → ⊥) = eqb-false t 0x12 pv in let m : (t ≡ 0x13 → ⊥) = eqb-false t 0x13 py in omega (arith, leb-true 0x10 t pa, leb-true t 0x13 pb))

-- no statement stands there
as_no_statement : (r : Row) → has_statement r ≡ false → FormedRow E.Rest r → FormedRow E.NoStatement r
unfolding has_statement
as_no_statement end s h = unfold FormedRow in refl
as_no_statement (loose b) s h = absurd (unfold FormedRow in h)
as_no_statement (field t f i r) s h =
    let p = front_of t f i r h in
    let n = or_parts (is_statement t) (has_statement r) s in
    front_in E.Rest E.NoStatement t f i r h (declared t p.0 n.0) (as_no_statement r n.1 p.1)

-- behind the place of the templates
as_placed : (r : Row) → has_statement r ≡ false → FormedRow E.Rest r → FormedRow E.Placed r
unfolding has_statement
as_placed end s h = unfold FormedRow in refl
as_placed (loose b) s h = absurd (unfold FormedRow in h)
as_placed (field t f i r) s h =
    let p = front_of t f i r h in
    let n = or_parts (is_statement t) (has_statement r) s in
    front_in E.Rest E.Placed t f i r h p.0 (chosen (statement t) E.Rest E.NoStatement r (λ _. p.1) (λ _. as_no_statement r n.1 p.1))

-- the place in front of a statement
statement_first : (c d : Expect) (t : ℕ) (f : Bytes) (i r : Row) → FormedRow E.Rest (field t f i r) → allowed c 0x83 ≡ true → left c 0x83 ≡ d → allowed d t ≡ true → left d t ≡ E.Rest → FormedRow c (field 0x83 [] end (field t f i r))
statement_first c d t f i r h a e b g =
    let p = front_of t f i r h in
    placed c (field t f i r) a (subst (λ (x : Expect). FormedRow x (field t f i r)) (sym e) (front_in E.Rest d t f i r h b (subst (λ (x : Expect). FormedRow x r) (sym g) p.1)))

before_declarations : (r : Row) → FormedRow E.Rest r → FormedRow E.Declarations (before_statement r)
unfolding before_statement
before_declarations end h = unfold FormedRow in refl
before_declarations (loose b) h = absurd (unfold FormedRow in h)
before_declarations (field t f i r) h = on (is_statement t) refl (before_declarations r (front_of t f i r h).1)
  where
    on : (b : Bool) → is_statement t ≡ b → FormedRow E.Declarations (before_statement r) → FormedRow E.Declarations (pick b (field 0x83 [] end (field t f i r)) (field t f i (before_statement r)))
    on true q g = statement_first E.Declarations E.Statement t f i r h refl refl q refl
    on false q g =
        let p = front_of t f i r h in
        let k = item_of t p.0 in
        let next : FormedRow (pick (eqb t 0x83) E.Statement (pick (statement t) E.Rest E.Declarations)) (before_statement r) = chosen (eqb t 0x83) E.Statement _ (before_statement r) (λ z. true_never (sym z ∙ k.no_place)) (λ _. chosen (statement t) E.Rest E.Declarations (before_statement r) (λ z. true_never (sym z ∙ q)) (λ _. g)) in
        behind h (or_right (eqb t 0x83) (allowed E.Rest t) p.0) next
      where
        behind : FormedRow E.Rest (field t f i r) → allowed E.Declarations t ≡ true → FormedRow (left E.Declarations t) (before_statement r) → FormedRow E.Declarations (field t f i (before_statement r))
        behind h a g = unfold FormedRow in (a, h.1, h.2, g)

before_items : (r : Row) → FormedRow E.Rest r → FormedRow E.Items (before_statement r)
unfolding before_statement
before_items end h = unfold FormedRow in refl
before_items (loose b) h = absurd (unfold FormedRow in h)
before_items (field t f i r) h = on (is_statement t) refl (before_declarations r (front_of t f i r h).1)
  where
    on : (b : Bool) → is_statement t ≡ b → FormedRow E.Declarations (before_statement r) → FormedRow E.Items (pick b (field 0x83 [] end (field t f i r)) (field t f i (before_statement r)))
    on true q g = statement_first E.Items E.Placed t f i r h refl refl (front_of t f i r h).0 (ap (λ (b : Bool). pick b E.Rest E.NoStatement) q)
    on false q g =
        let p = front_of t f i r h in
        let k = item_of t p.0 in
        let next : FormedRow (pick (eqb t 0x83) E.Placed (pick (statement t) E.Rest E.Declarations)) (before_statement r) = chosen (eqb t 0x83) E.Placed _ (before_statement r) (λ z. true_never (sym z ∙ k.no_place)) (λ _. chosen (statement t) E.Rest E.Declarations (before_statement r) (λ z. true_never (sym z ∙ q)) (λ _. g)) in
        behind h (or_right (eqb t 0x83) (allowed E.Rest t) p.0) next
      where
        behind : FormedRow E.Rest (field t f i r) → allowed E.Items t ≡ true → FormedRow (left E.Items t) (before_statement r) → FormedRow E.Items (field t f i (before_statement r))
        behind h a g = unfold FormedRow in (a, h.1, h.2, g)

templates_formed : (ts : List Template) (r : Row) → FormedRow E.Rest r → FormedRow E.Items (with_templates ts r)
unfolding with_templates
templates_formed [] r h = as_items r h
templates_formed (t ∷ ts) r h = on (has_statement r) refl
  where
    on : (b : Bool) → has_statement r ≡ b → FormedRow E.Items (pick b (before_statement r) (field 0x83 [] end r))
    on true q = before_items r h
    on false q = placed E.Items r refl (as_placed r q h)

-- ---- the import

-- where no import comes first
items_whole : (r : Row) → FormedRow E.Items r → FormedRow E.Whole r
unfolding FormedRow
items_whole end h = refl
items_whole (loose b) h = absurd h
items_whole (field t f i r) h =
    let n : eqb t 0x82 ≡ false = no_import t h.0 in
    let a : allowed E.Whole t ≡ true = ap (λ (b : Bool). b || eqb t 0x83 || (leb 0x10 t && leb t 0x13)) n ∙ h.0 in
    (a, h.1, h.2, subst (λ (b : Bool). FormedRow (pick b E.Items (pick (eqb t 0x83) E.Placed (pick (statement t) E.Rest E.Declarations))) r) (sym n) h.3)
  where
    no_import : (t : ℕ) → allowed E.Items t ≡ true → eqb t 0x82 ≡ false
    no_import t h = on (eqb t 0x82) refl
      where
        on : (b : Bool) → eqb t 0x82 ≡ b → b ≡ false
        on true q = false_never (ap (allowed E.Items) (sym (eqb-true t 0x82 q)) ∙ h)
        on false q = refl

sum_small : (r : Row) → helper_sum r ≤ 15
unfolding helper_sum
sum_small r = on (stands 0x94 r) (stands 0x90 r) (stands 0x91 r) (stands 0x92 r)
  where
    on : (a b c d : Bool) → bit a 1 + bit b 2 + bit c 4 + bit d 8 ≤ 15
    on true true true true = omega arith
    on true true true false = omega arith
    on true true false true = omega arith
    on true true false false = omega arith
    on true false true true = omega arith
    on true false true false = omega arith
    on true false false true = omega arith
    on true false false false = omega arith
    on false true true true = omega arith
    on false true true false = omega arith
    on false true false true = omega arith
    on false true false false = omega arith
    on false false true true = omega arith
    on false false true false = omega arith
    on false false false true = omega arith
    on false false false false = omega arith

import_fine : (source : Bytes) (sum : ℕ) → Text source → length (source ++ []) ≤ 65535 → 1 ≤ sum → sum ≤ 15 → check_leaf 0x82 ([] ++ bytes (field 0x81 source end (loose (sum ∷ [])))) ≡ Fine
unfolding check_leaf choose bytes
import_fine source sum h l low high =
    ap check_import (next_written 0x81 (source ++ []) (sum ∷ []) l) ∙ imported
  where
    imported : check_import (next 0x81 (source ++ []) (sum ∷ [])) ≡ Fine
    imported =
        unfold check_import check_sum in
        (fine_after _ _ refl (fine_after _ _ (text_fine (source ++ []) (subst Text (sym (append-nil source)) h)) (rw (le-leb 1 sum low, le-leb sum 15 high) refl)))

import_formed : (source : Bytes) (sum : ℕ) (r : Row) → Text source → 1 ≤ sum → sum ≤ 15 → T (not (long_body (field 0x82 [] (field 0x81 source end (loose (sum ∷ []))) r))) → FormedRow E.Items r → FormedRow E.Whole (field 0x82 [] (field 0x81 source end (loose (sum ∷ []))) r)
unfolding FormedRow bytes
import_formed source sum r h low high l g = (refl, (λ q. false_never q), (λ q. import_fine source sum h (source_short l) low high), g)
  where
    source_short : T (not (long_body (field 0x82 [] (field 0x81 source end (loose (sum ∷ []))) r))) → length (source ++ []) ≤ 65535
    source_short l =
        let i : Row = field 0x81 source end (loose (sum ∷ [])) in
        (short_parts 0x81 source end (loose (sum ∷ [])) (short_parts 0x82 [] i r l).1).0

pub whole_formed : (o : Options) (d : Done Row) → Text o.import_source → T (not (long_body (page_out_row o d))) → FormedRow E.Rest d.value → FormedRow E.Whole (page_out_row o d)
unfolding page_out_row with_import
whole_formed o d h l g = on (eqb (helper_sum d.value) 0) refl l
  where
    r : Row
    r = with_templates d.templates d.value

    source : Bytes
    source = o.import_source ++ ascii "/jsx-runtime"

    source_text : Text source
    source_text = text_append o.import_source (ascii "/jsx-runtime") h (ascii_utf8 (ascii "/jsx-runtime") (unfold U.all_ascii in refl))

    on : (b : Bool) → eqb (helper_sum d.value) 0 ≡ b → T (not (long_body (pick b r (field 0x82 [] (field 0x81 source end (loose (helper_sum d.value ∷ []))) r)))) → FormedRow E.Whole (pick b r (field 0x82 [] (field 0x81 source end (loose (helper_sum d.value ∷ []))) r))
    on true q l = items_whole r (templates_formed d.templates d.value g)
    on false q l =
        let n : (helper_sum d.value ≡ 0 → ⊥) = eqb-false (helper_sum d.value) 0 q in
        import_formed source (helper_sum d.value) r source_text (omega arith) (sum_small d.value) l (templates_formed d.templates d.value g)
