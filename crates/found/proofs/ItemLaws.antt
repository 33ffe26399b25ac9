-- The elements of an array literal, and expressions that are none. Main statements: `count_none`, `count_one`, `count_more`;
-- `stills_none`, `stills_one`, `stills_more`; `sole_of`, `plain_expr`, `array_expr`; `item_77`, `item_78`, `item_other`. Assumes nothing.
use mathlib.Core.Path.{◌≡◌, refl, sym, ap, ◌∙◌}
use mathlib.Core.Bool.{Bool, true, false}
use Prim.Native.Nat.{ℕ, suc, ◌≤◌}
use native.Mathlib.Omega.{arith}
use mathlib.Core.List.{[], ◌∷◌}
use lib.Dec.{eqb}
use lib.ListN.{length}
use borrow.Author.Tests.{ne_eqb}
use Rattle.field.specs.Bytes.{Bytes}
use Rattle.field.specs.Row.{Row, end, loose, field, read, Ended, inside}
use Rattle.field.specs.Front.{tag_of_front, body_of, behind_of}
use Rattle.field.proofs.FrontLaws.{leaf_at, nest_at}
use Rattle.page.specs.Page as P
use Rattle.page.specs.Page.{Options, Expr, Items, Pieces, Tag}
use Rattle.page.specs.Number.{Number, whole, scaled, number_tag, minus_tag, is_number, is_minus, number_in}
use Rattle.page.specs.Tree.{choose, expr_by, expr_in, items_in}
use Rattle.spec.specs.Pass as S
use Rattle.spec.specs.Pass.{Mid, node}
use Rattle.spec.specs.Merge.{still, array_found, one_found}
use Rattle.spec.specs.Children.{found_of, sole_mid, stills}
use Rattle.spec.specs.Transform.{expr, items}
use Rattle.decisions.specs.At.{opts}
use Rattle.decisions.proofs.Series.{any_field, any_front, expr_76}
use Rattle.decisions.specs.declared.children.Count.{Count}
use Rattle.decisions.specs.declared.children.Count.TheVariants.{Zero, One, More}
use Rattle.found.specs.Finds.{expr_at, first_item, hole_node, item_count}

-- whichever is chosen
pub choose_all : {A : Type 0} (P : A → Type 0) (b : Bool) (f g : Unit {0} → A) → P (f tt) → P (g tt) → P (choose b f g)
unfolding choose
choose_all P true f g x y = x
choose_all P false f g x y = y

pub choose_second : {A : Type 0} (P : A → Type 0) (b : Bool) (f g : Unit {0} → A) → b ≡ false → P (g tt) → P (choose b f g)
unfolding choose
choose_second P b f g h y = rw h y

-- ---- how many

abbrev pub how_many : Count → ℕ
how_many Zero = 0
how_many One = 1
how_many More = 2

one_by : (t : ℕ) (f : Bytes) (i r : Row) → Ended r → One ≡ item_count (field t f i r)
unfolding item_count
one_by t f i end h = refl
one_by t f i (loose b) h = refl
one_by t f i (field u g j r) h = absurd h

none_by : (r : Row) → Ended r → Zero ≡ item_count r
unfolding item_count
none_by end h = refl
none_by (loose b) h = refl
none_by (field u g j r) h = absurd h

pub count_none : (s : Bytes) → Ended (read s) → Zero ≡ item_count (read s)
count_none s h = none_by (read s) h

pub count_one : (s : Bytes) → (tag_of_front s ≡ 256 → ⊥) → Ended (read (behind_of s)) → One ≡ item_count (read s)
count_one s n h = any_field (λ (x : Row). One ≡ item_count x) s (tag_of_front s) refl n λ g i. one_by (tag_of_front s) g i (read (behind_of s)) h

pub count_more : (s : Bytes) → (tag_of_front s ≡ 256 → ⊥) → (tag_of_front (behind_of s) ≡ 256 → ⊥) → More ≡ item_count (read s)
unfolding item_count
count_more s n m =
    any_field (λ (x : Row). More ≡ item_count x) s (tag_of_front s) refl n λ h i.
    any_field (λ (x : Row). More ≡ item_count (field (tag_of_front s) h i x)) (behind_of s) (tag_of_front (behind_of s)) refl m λ j l. refl

-- ---- the elements as entries

module _ (o : Options) where
  stills_expr : (e : Expr) (m : Mid) → length (stills (expr o e m)) ≡ suc (length (stills m))
  unfolding stills expr
  stills_expr (P.string_literal b) m = refl
  stills_expr (P.number_literal n) m = refl
  stills_expr (P.boolean_literal b) m = refl
  stills_expr P.null_literal m = refl
  stills_expr (P.other_literal b) m = refl
  stills_expr (P.minus_literal n) m = refl
  stills_expr (P.array_literal is) m = refl
  stills_expr (P.other_expr ps) m = refl
  stills_expr (P.tag_expr t) m = refl

  still_expr : (e : Expr) → stills (expr o e S.none) ≡ still (expr o e S.none) ∷ []
  unfolding stills expr
  still_expr (P.string_literal b) = refl
  still_expr (P.number_literal n) = refl
  still_expr (P.boolean_literal b) = refl
  still_expr P.null_literal = refl
  still_expr (P.other_literal b) = refl
  still_expr (P.minus_literal n) = refl
  still_expr (P.array_literal is) = refl
  still_expr (P.other_expr ps) = refl
  still_expr (P.tag_expr t) = refl

  -- one more than behind it
  stills_item : (t : ℕ) (f : Bytes) (i r : Row) → length (stills (items o (items_in (field t f i r)))) ≡ suc (length (stills (items o (items_in r))))
  unfolding items_in expr_in items stills
  stills_item t f i r =
      let Q : Items → Type 0 = λ (is : Items). length (stills (items o is)) ≡ suc (length (stills (items o (items_in r)))) in
      choose_all Q (eqb t 0x77) _ _ refl (choose_all Q (eqb t 0x78) _ _ refl (stills_expr (expr_in (field t f i r)) (items o (items_in r))))

  -- alone it stands as it is
  still_item : (t : ℕ) (f : Bytes) (i : Row) → stills (items o (items_in (field t f i end))) ≡ still (items o (items_in (field t f i end))) ∷ []
  unfolding items_in expr_in items stills
  still_item t f i =
      let Q : Items → Type 0 = λ (is : Items). stills (items o is) ≡ still (items o is) ∷ [] in
      choose_all Q (eqb t 0x77) _ _ refl (choose_all Q (eqb t 0x78) _ _ refl (still_expr (expr_in (field t f i end))))

  last_item : (t : ℕ) (f : Bytes) (i r : Row) → Ended r → items_in (field t f i r) ≡ items_in (field t f i end)
  unfolding items_in
  last_item t f i end h = refl
  last_item t f i (loose b) h = refl
  last_item t f i (field u g j r) h = absurd h

module _ (skip props : Bytes) where
  abbrev pub listed : Row → Mid
  listed r = items (opts skip props) (items_in r)

  pub stills_none : (r : Row) → item_count r ≡ Zero → stills (listed r) ≡ []
  unfolding item_count items_in items stills
  stills_none end h = refl
  stills_none (loose b) h = refl
  stills_none (field t f i end) h = absurd (omega (arith, ap how_many h))
  stills_none (field t f i (loose b)) h = absurd (omega (arith, ap how_many h))
  stills_none (field t f i (field u g j r)) h = absurd (omega (arith, ap how_many h))

  pub stills_one : (r : Row) → item_count r ≡ One → stills (listed r) ≡ still (first_item skip props r) ∷ []
  unfolding item_count first_item
  stills_one end h = absurd (omega (arith, ap how_many h))
  stills_one (loose b) h = absurd (omega (arith, ap how_many h))
  stills_one (field t f i end) h = still_item (opts skip props) t f i
  stills_one (field t f i (loose b)) h = ap (λ (is : Items). stills (items (opts skip props) is)) (last_item (opts skip props) t f i (loose b) tt) ∙ still_item (opts skip props) t f i
  stills_one (field t f i (field u g j r)) h = absurd (omega (arith, ap how_many h))

  pub stills_more : (r : Row) → item_count r ≡ More → 2 ≤ length (stills (listed r))
  unfolding item_count
  stills_more end h = absurd (omega (arith, ap how_many h))
  stills_more (loose b) h = absurd (omega (arith, ap how_many h))
  stills_more (field t f i end) h = absurd (omega (arith, ap how_many h))
  stills_more (field t f i (loose b)) h = absurd (omega (arith, ap how_many h))
  stills_more (field t f i (field u g j r)) h = omega (arith, stills_item (opts skip props) t f i (field u g j r), stills_item (opts skip props) u g j r)

-- ---- expressions

module _ (o : Options) where
  pub sole_of : (e : Expr) → sole_mid (expr o e S.none) ≡ found_of (expr o e S.none)
  unfolding sole_mid found_of expr number_tag minus_tag
  sole_of (P.string_literal b) = refl
  sole_of (P.number_literal (whole n)) = refl
  sole_of (P.number_literal (scaled n p)) = refl
  sole_of (P.boolean_literal b) = refl
  sole_of P.null_literal = refl
  sole_of (P.other_literal b) = refl
  sole_of (P.minus_literal (whole n)) = refl
  sole_of (P.minus_literal (scaled n p)) = refl
  sole_of (P.array_literal is) = refl
  sole_of (P.other_expr ps) = refl
  sole_of (P.tag_expr t) = refl

  -- no array
  abbrev Plain : Expr → Type 0
  Plain e = found_of (expr o e S.none) ≡ one_found (still (expr o e S.none))

  plain_number : (n : Number) → Plain (P.number_literal n)
  unfolding found_of expr number_tag
  plain_number (whole n) = refl
  plain_number (scaled n p) = refl

  plain_minus : (n : Number) → Plain (P.minus_literal n)
  unfolding found_of expr minus_tag
  plain_minus (whole n) = refl
  plain_minus (scaled n p) = refl

  plain_by : (t : ℕ) (f : Bytes) (is : Unit {0} → Items) (ps : Unit {0} → Pieces) (el fr : Unit {0} → Tag) → (t ≡ 0x76 → ⊥) → Plain (expr_by t f is ps el fr)
  unfolding found_of expr expr_by
  plain_by t f is ps el fr n =
      choose_all Plain (eqb t 0x70) _ _ refl
      (choose_all Plain (is_number t) _ _ (plain_number (number_in t f))
      (choose_all Plain (eqb t 0x72) _ _ refl
      (choose_all Plain (eqb t 0x74) _ _ refl
      (choose_all Plain (is_minus t) _ _ (plain_minus (number_in t f))
      (choose_second Plain (eqb t 0x76) _ _ (ne_eqb t 0x76 n)
      (choose_all Plain (eqb t 0x79) _ _ refl
      (choose_all Plain (eqb t 0x30) _ _ refl
      (choose_all Plain (eqb t 0x31) _ _ refl refl))))))))

module _ (skip props : Bytes) (s : Bytes) (t : ℕ) (e : t ≡ tag_of_front s) where
  -- an expression among entries, and what a fragment adds
  pub plain_expr : (t ≡ 0x76 → ⊥) → found_of (expr_at skip props s) ≡ one_found (still (expr_at skip props s))
  unfolding expr_in found_of expr
  plain_expr n =
      let o : Options = opts skip props in
      any_front (λ (r : Row). found_of (expr o (expr_in r) S.none) ≡ one_found (still (expr o (expr_in r) S.none))) s t e refl (λ b. refl) λ f i. plain_by o t f _ _ _ _ n

  pub array_expr : t ≡ 0x76 → {b : Bytes} → b ≡ body_of s → found_of (expr_at skip props s) ≡ array_found (stills (listed skip props (read b)))
  unfolding found_of expr
  array_expr k {b} q =
      let o : Options = opts skip props in
      ap (λ (x : Expr). found_of (expr o x S.none)) (expr_76 s t e k) ∙ ap (λ (x : Bytes). array_found (stills (items o (items_in (read x))))) (sym q)

  -- the element in front
  pub item_77 : t ≡ 0x77 → {b : Bytes} → b ≡ body_of s → first_item skip props (read s) ≡ node 0x77 [] (expr_at skip props b) S.none
  unfolding first_item items_in items choose inside
  item_77 k {b} q = ap (first_item skip props) (nest_at s t e 0x77 k tt refl) ∙ ap (λ (x : Bytes). node 0x77 [] (expr_at skip props x) S.none) (sym q)

  pub item_78 : t ≡ 0x78 → first_item skip props (read s) ≡ hole_node
  unfolding first_item items_in items choose inside
  item_78 k = ap (first_item skip props) (leaf_at s t e 0x78 k tt refl)

  pub item_other : (t ≡ 0x77 → ⊥) → (t ≡ 0x78 → ⊥) → first_item skip props (read s) ≡ expr_at skip props s
  unfolding first_item items_in items expr_in expr choose
  item_other a b =
      any_front (λ (r : Row). first_item skip props r ≡ expr (opts skip props) (expr_in r) S.none) s t e refl (λ x. refl) λ f i. rw (ne_eqb t 0x77 a, ne_eqb t 0x78 b)
