-- What expressions and merged texts look like, whatever they hold: expressions stand alone, and merged texts are free of `<` and `>`.
-- Main statements: `merge_free`, `expr_alone`, `expr_bare`, `expr_items`. Assumes nothing.
use Prim.Native.Nat.{ℕ}
use native.Mathlib.Omega.{arith}
use mathlib.Core.Path.{◌≡◌, refl, ap, subst}
use mathlib.Core.Bool.{Bool, true, false, ◌&&◌, ◌||◌}
use mathlib.Core.List.{List, [], ◌∷◌, ◌++◌}
use mathlib.Core.Option.{Option}
use mathlib.Core.Option as O
use lib.Dec.{T, eqb}
use Rattle.field.specs.Bytes.{Bytes, pick}
use Rattle.text.specs.Escape.{escape_html}
use Rattle.page.specs.Number.{whole, scaled, number_tag, minus_tag, render}
use Rattle.page.specs.Page as P
use Rattle.page.specs.Page.{Options}
use Rattle.spec.specs.Pass.{Mid, none, node, raw}
use Rattle.spec.specs.Merge.{Shape, string_shape, number_shape, boolean_shape, null_shape, literal_shape, minus_shape, other_shape, Child, text, empty, container, element, fragment, spread, is_last, flush, joined_text, merge}
use Rattle.spec.specs.Transform.{shape_of, expr, items, pieces}
use Rattle.spec.specs.Kept.{own_pieces}
use Rattle.spec.specs.Words.{free}
use Rattle.spec.proofs.Nested.{escape_free, text_free, render_free, free_append}
use Rattle.spec.proofs.Invariant.{standing, Alone, AloneField, sources}

-- ---- tests

-- one of two by a test, which the first may use
pub chosen : {A : Type 0} (Q : A → Type 0) (b : Bool) {x y : A} → (T b → Q x) → Q y → Q (pick b x y)
chosen Q true g h = g tt
chosen Q false g h = h

pub and_right : (a b : Bool) → T (a && b) → T b
and_right true b h = h
and_right false b h = absurd h

-- ---- the shape of expressions

-- expressions that become text, and hold nothing that counts
unfoldable pub is_text : Shape → Bool
is_text (string_shape b) = true
is_text (number_shape n) = true
is_text (boolean_shape b) = true
is_text null_shape = false
is_text literal_shape = false
is_text (minus_shape n) = true
is_text other_shape = false

-- expressions, spreads and holes; a spread holds one expression, and what an array or a spread holds is of the same sort
unfoldable pub Items : Mid → Type 0
Items none = Unit {0}
Items (node t f i r) = T (standing t) × (T (eqb t 0x76 || eqb t 0x77) → Items i) × (T (eqb t 0x77) → Alone i) × Items r
Items (raw q r) = Items r

-- shapes whose expression may stand in a template as it is
unfoldable pub is_bare : Shape → Bool
is_bare (string_shape b) = true
is_bare (number_shape n) = true
is_bare (boolean_shape b) = true
is_bare null_shape = true
is_bare literal_shape = true
is_bare (minus_shape n) = false
is_bare other_shape = false

pub field_alone : (m : Mid) → AloneField m → Alone m
unfolding AloneField Alone
field_alone none h = absurd h
field_alone (node t f i none) h = h
field_alone (node t f i (node u g j r)) h = absurd h
field_alone (node t f i (raw q r)) h = absurd h
field_alone (raw q r) h = absurd h

-- ---- merged texts are free of `<` and `>`

unfoldable pub FreeTexts : List Child → Type 0
FreeTexts [] = Unit {0}
FreeTexts (text t ∷ cs) = T (free t) × FreeTexts cs
FreeTexts (empty ∷ cs) = FreeTexts cs
FreeTexts (container s m ∷ cs) = FreeTexts cs
FreeTexts (element e ∷ cs) = FreeTexts cs
FreeTexts (fragment f ∷ cs) = FreeTexts cs
FreeTexts (spread m ∷ cs) = FreeTexts cs

flush_free : (buf : Bytes) (cs : List Child) → T (free buf) → FreeTexts cs → FreeTexts (flush buf cs)
unfolding flush FreeTexts
flush_free [] cs h g = g
flush_free (b ∷ buf) cs h g = (h, g)

joined_text_free : (s : Shape) (b : Bytes) → joined_text s ≡ O.some b → T (free b)
unfolding joined_text free
joined_text_free (string_shape x) b e = let q : escape_html x ≡ b = cc in subst (λ (y : Bytes). T (free y)) q (escape_free x)
joined_text_free (number_shape n) b e = let q : render n ≡ b = cc in subst (λ (y : Bytes). T (free y)) q (render_free n)
joined_text_free (boolean_shape x) [] e = tt
joined_text_free (boolean_shape x) (c ∷ cs) e = absurd (let z : ◌≡◌ {A = ℕ} 0 1 = cc in omega arith)
joined_text_free null_shape b e = absurd (let z : ◌≡◌ {A = ℕ} 0 1 = cc in omega arith)
joined_text_free literal_shape b e = absurd (let z : ◌≡◌ {A = ℕ} 0 1 = cc in omega arith)
joined_text_free (minus_shape n) b e = absurd (let z : ◌≡◌ {A = ℕ} 0 1 = cc in omega arith)
joined_text_free other_shape b e = absurd (let z : ◌≡◌ {A = ℕ} 0 1 = cc in omega arith)

container_free : (buf : Bytes) (s : Shape) (c : Child) (more : Bytes → List Child) (j : Option Bytes) → joined_text s ≡ j → T (free buf) → ((b : Bytes) → T (free b) → FreeTexts (more b)) → FreeTexts (c ∷ more []) →
    FreeTexts (elim j as (λ _. List Child) [ O.some b ↦ more (buf ++ b) | O.none ↦ flush buf (c ∷ more []) ])
container_free buf s c more (O.some b) e h g k = g (buf ++ b) (free_append buf b h (joined_text_free s b e))
container_free buf s c more O.none e h g k = flush_free buf (c ∷ more []) h k

pub free_nil : T (free [])
unfolding free
free_nil = tt

pub merge_free : (par : Bool) (buf : Bytes) (cs : List Child) → T (free buf) → FreeTexts (merge true par buf cs)
unfolding merge FreeTexts
merge_free par buf [] h = flush_free buf [] h tt
merge_free par buf (text t ∷ cs) h = merge_free par _ cs (free_append buf _ h (text_free t (par && is_last cs)))
merge_free par buf (empty ∷ cs) h = merge_free par buf cs h
merge_free par buf (container s m ∷ cs) h = container_free buf s (container s m) (λ b. merge true par b cs) (joined_text s) refl h (λ b k. merge_free par b cs k) (merge_free par [] cs free_nil)
merge_free par buf (element e ∷ cs) h = flush_free buf _ h (merge_free par [] cs free_nil)
merge_free par buf (fragment f ∷ cs) h = flush_free buf _ h (merge_free par [] cs free_nil)
merge_free par buf (spread m ∷ cs) h = merge_free par buf cs h

-- ---- the page's expressions

module _ (o : Options) where
  pub expr_alone : (e : P.Expr) → Alone (expr o e none)
  unfolding expr Alone number_tag minus_tag
  expr_alone (P.string_literal b) = tt
  expr_alone (P.number_literal (whole n)) = tt
  expr_alone (P.number_literal (scaled n p)) = tt
  expr_alone (P.boolean_literal b) = tt
  expr_alone P.null_literal = tt
  expr_alone (P.other_literal b) = tt
  expr_alone (P.minus_literal (whole n)) = tt
  expr_alone (P.minus_literal (scaled n p)) = tt
  expr_alone (P.array_literal is) = tt
  expr_alone (P.other_expr ps) = tt
  expr_alone (P.tag_expr t) = tt

  -- no tag but where the shape says so
  pub expr_bare : (e : P.Expr) → T (is_bare (shape_of e)) → AloneField (expr o e none)
  unfolding expr shape_of is_bare AloneField number_tag minus_tag
  expr_bare (P.string_literal b) h = tt
  expr_bare (P.number_literal (whole n)) h = tt
  expr_bare (P.number_literal (scaled n p)) h = tt
  expr_bare (P.boolean_literal b) h = tt
  expr_bare P.null_literal h = tt
  expr_bare (P.other_literal b) h = tt
  expr_bare (P.minus_literal (whole n)) h = absurd h
  expr_bare (P.minus_literal (scaled n p)) h = absurd h
  expr_bare (P.array_literal is) h = absurd h
  expr_bare (P.other_expr ps) h = absurd h
  expr_bare (P.tag_expr t) h = absurd h

  mutual
    unfolding expr Items number_tag minus_tag

    pub expr_items : (e : P.Expr) (r : Mid) → Items r → Items (expr o e r)
    expr_items (P.string_literal b) r h = (tt, (λ k. absurd k), (λ k. absurd k), h)
    expr_items (P.number_literal (whole n)) r h = (tt, (λ k. absurd k), (λ k. absurd k), h)
    expr_items (P.number_literal (scaled n p)) r h = (tt, (λ k. absurd k), (λ k. absurd k), h)
    expr_items (P.boolean_literal b) r h = (tt, (λ k. absurd k), (λ k. absurd k), h)
    expr_items P.null_literal r h = (tt, (λ k. absurd k), (λ k. absurd k), h)
    expr_items (P.other_literal b) r h = (tt, (λ k. absurd k), (λ k. absurd k), h)
    expr_items (P.minus_literal (whole n)) r h = (tt, (λ k. absurd k), (λ k. absurd k), h)
    expr_items (P.minus_literal (scaled n p)) r h = (tt, (λ k. absurd k), (λ k. absurd k), h)
    expr_items (P.array_literal is) r h = (tt, (λ k. items_items is), (λ k. absurd k), h)
    expr_items (P.other_expr ps) r h = (tt, (λ k. absurd k), (λ k. absurd k), h)
    expr_items (P.tag_expr t) r h = h

    items_items : (is : P.Items) → Items (items o is)
    items_items P.no_items = tt
    items_items (P.item e is) = expr_items e (items o is) (items_items is)
    items_items (P.spread_item e is) = (tt, (λ k. expr_items e none tt), (λ k. expr_alone e), items_items is)
    items_items (P.hole_item is) = (tt, (λ k. absurd k), (λ k. absurd k), items_items is)

  pub pieces_sources : (ps : P.Pieces) → sources (pieces o ps) ≡ own_pieces ps
  unfolding pieces sources own_pieces
  pieces_sources P.no_pieces = refl
  pieces_sources (P.source_piece b ps) = ap (λ (bs : List Bytes). b ∷ bs) (pieces_sources ps)
  pieces_sources (P.tag_piece t ps) = pieces_sources ps
