-- The page's own expressions are kept: of a page that is not refused each 74 and 79 stands in page out as often as in the page outside the
-- four places where 000 loses them. An instance of `Counting`. Main statements: `kept`, `kept_bytes`. Assumes nothing.
use Prim.Native.Nat.{ℕ, ◌+◌}
use native.Mathlib.Omega.{arith}
use mathlib.Core.Path.{◌≡◌, refl, sym, ap, ap₂, ◌∙◌, subst}
use mathlib.Core.Bool.{Bool, true, false, ◌||◌, not}
use mathlib.Core.List.{List, [], ◌∷◌, ◌++◌}
use lib.Dec.{T, eqb, eqb→eq}
use Rattle.std.proofs.Math.Facts.{or_no}
use Rattle.field.specs.Bytes.{Bytes, AllBytes, ascii, pick, same}
use Rattle.field.specs.Row.{Row, end, loose, field, read}
use Rattle.page.specs.Page.{Options, Page}
use Rattle.page.specs.Tree.{texts_in, choose, options_in}
use Rattle.spec.specs.declared.Flags.{Flags}
use Rattle.spec.specs.Pass.{Done, Pass, pure, map, bind, both, raise, join, Raw, Mid, none, node, raw, ◌+++◌, ◌⧺◌, marks}
use Rattle.spec.specs.Output.{dynamic_exprs, gen_template}
use Rattle.spec.specs.Visit.{visit_exprs, visit_inside, visit_after, leave}
use Rattle.spec.specs.Transform.{transform, bit, helper_sum, with_templates, page_out_row}
use Rattle.spec.specs.Answer.{Written, accepted, page_given, outcome}
use Rattle.spec.specs.Kept.{at_field, in_row, in_page, same_pieces, KeptBytes}
use Rattle.spec.proofs.PageOut.{templates_related, import_row, import_related}
use Rattle.spec.proofs.Answers.{accepted_says}
use Rattle.spec.proofs.Lent.{page_read}
use Rattle.spec.proofs.Invariant.{Alone, sources}
use Rattle.spec.proofs.Counting.{uncounted, nothing_marked, Counting, every_page}
use Rattle.spec.proofs.Weighed.{Holds, none_holds, node_holds, raw_holds, holds_node, holds_append, nothing_holds, inner_holds, field_holds, tag_holds}

-- ---- pages in which no tag is left

abbrev pub Unflagged : Flags → Type 0
Unflagged f = T (not f.left)

pub unflagged_left : (f g : Flags) → Unflagged (join f g) → Unflagged f
unflagged_left f g c = (or_no f.left g.left c).0

pub unflagged_right : (f g : Flags) → Unflagged (join f g) → Unflagged g
unflagged_right f g c = (or_no f.left g.left c).1

-- ---- source pieces of a row

pieces_append : (x y : Row) → texts_in 0x20 (x ⧺ y) ≡ texts_in 0x20 x ++ texts_in 0x20 y
unfolding texts_in ◌⧺◌ choose
pieces_append end y = refl
pieces_append (loose b) y = refl
pieces_append (field t f i r) y = on (eqb t 0x20) (pieces_append r y)
  where
    on : (c : Bool) → texts_in 0x20 (r ⧺ y) ≡ texts_in 0x20 r ++ texts_in 0x20 y →
        choose c (λ _. f ∷ texts_in 0x20 (r ⧺ y)) (λ _. texts_in 0x20 (r ⧺ y)) ≡ choose c (λ _. f ∷ texts_in 0x20 r) (λ _. texts_in 0x20 r) ++ texts_in 0x20 y
    on true e = ap (λ (bs : List Bytes). f ∷ bs) e
    on false e = e

module _ (literal : Bytes → ℕ) (other : List Bytes → ℕ) where
  plain_counts : (t : ℕ) (f : Bytes) (bs : List Bytes) → T (uncounted t) → at_field literal other t f bs ≡ 0
  plain_counts t f bs = on (eqb t 0x90) (eqb t 0x74) (eqb t 0x79)
    where
      on : (a b c : Bool) → T (not (a || (b || c))) → pick b (literal f) (pick c (other bs) 0) ≡ 0
      on true b c h = absurd h
      on false true c h = absurd h
      on false false true h = absurd h
      on false false false h = refl

  array_counts : (t : ℕ) (f : Bytes) (bs : List Bytes) → T (eqb t 0x76 || eqb t 0x77) → at_field literal other t f bs ≡ 0
  array_counts t f bs = on (eqb t 0x76) (eqb t 0x77) (eqb→eq t 0x76) (eqb→eq t 0x77)
    where
      on : (a b : Bool) → (T a → t ≡ 0x76) → (T b → t ≡ 0x77) → T (a || b) → at_field literal other t f bs ≡ 0
      on true b x y h = rw (x tt)
      on false true x y h = rw (y tt)
      on false false x y h = absurd h

  row_append : (x y : Row) → in_row literal other (x ⧺ y) ≡ in_row literal other x + in_row literal other y
  unfolding in_row ◌⧺◌
  row_append end y = omega arith
  row_append (loose b) y = omega arith
  row_append (field t f i r) y = omega (arith, row_append r y)

  -- ---- what holds of visits and of expressions

  record Visited (w : ℕ) (d : Done Row) : Type 0 where
    count : in_row literal other d.value ≡ w
    no_pieces : texts_in 0x20 d.value ≡ []

  Visits : Pass Row → ℕ → Type 0
  Visits p w = (n : ℕ) → Unflagged (p n).flags → Visited w (p n)

  abbrev Held : Mid → ℕ → Type 0
  Held = Holds (λ t f i. at_field literal other t f (sources i)) (λ q w. (n : ℕ) → Unflagged (q n).flags → Visited w (q n))

  -- ---- visits

  record RowVisited (m : Mid) (w : ℕ) (d : Done Row) : Type 0 where
    count : in_row literal other d.value ≡ w
    pieces : texts_in 0x20 d.value ≡ sources m

  pieces_behind : (t : ℕ) (f : Bytes) {bs cs : List Bytes} → bs ≡ cs → choose (eqb t 0x20) (λ _. f ∷ bs) (λ _. bs) ≡ pick (eqb t 0x20) (f ∷ cs) cs
  unfolding choose
  pieces_behind t f {bs} {cs} e = on (eqb t 0x20)
    where
      on : (b : Bool) → choose b (λ _. f ∷ bs) (λ _. bs) ≡ pick b (f ∷ cs) cs
      on true = ap (λ (xs : List Bytes). f ∷ xs) e
      on false = e

  visits : {m : Mid} {w : ℕ} → Held m w → (n : ℕ) → Unflagged (visit_exprs m n).flags → RowVisited m w (visit_exprs m n)
  unfolding visit_exprs both pure in_row texts_in sources
  visits (none_holds e) n c = record { count = sym e; pieces = refl }
  visits (node_holds {t = t} {f = f} {i = i} {r = r} a b e x y) n c =
      let d = visit_exprs i n in
      let s = visit_exprs r (n + d.taken) in
      let u = visits x n (unflagged_left d.flags s.flags c) in
      let v = visits y (n + d.taken) (unflagged_right d.flags s.flags c) in
      let k = ap (at_field literal other t f) u.pieces in
      record { count = omega (arith, e, k, u.count, v.count); pieces = pieces_behind t f v.pieces }
  visits (raw_holds {q = q} {r = r} a b e x y) n c =
      let d = q n in
      let s = visit_exprs r (n + d.taken) in
      let u = x n (unflagged_left d.flags s.flags c) in
      let v = visits y (n + d.taken) (unflagged_right d.flags s.flags c) in
      record { count = omega (arith, e, row_append d.value s.value, u.count, v.count); pieces = pieces_append d.value s.value ∙ ap₂ (λ (a b : List Bytes). a ++ b) u.no_pieces v.pieces }

  -- where a tag is left the page is refused
  inside : (m : Mid) {w : ℕ} → Held m w → Alone m → (n : ℕ) → Unflagged (visit_inside m n).flags → Visited w (visit_inside m n)
  unfolding visit_inside visit_exprs leave raise Alone sources
  inside none x a n c = absurd a
  inside (node t f i none) x a n c =
      let v = visits x n c in
      record { count = v.count; no_pieces = v.pieces ∙ on (eqb t 0x20) (or_no (eqb t 0x20) (eqb t 0x91 || eqb t 0x93) a).0 }
    where
      on : (b : Bool) → T (not b) → pick b (f ∷ []) [] ≡ []
      on true h = absurd h
      on false h = refl
  inside (node t f i (node u g j r)) x a n c = absurd a
  inside (node t f i (raw q r)) x a n c = absurd a
  inside (raw q r) x a n c = absurd c

  counting : Counting
  counting =
      record {
        literal = literal;
        other = other;
        own = λ f. 0;
        MidOk = λ k m w. Held m w;
        PassOk = λ p w. (n : ℕ) → Unflagged (p n).flags → Held (p n).value w;
        VisitOk = λ p w. (n : ℕ) → Unflagged (p n).flags → Visited w (p n);
        mid_none = none_holds refl;
        mid_node = λ t f {i} {r} {j} {k} {l} {a} {b} h d e x y. holds_node a b (omega (arith, e, plain_counts t f (sources i) h)) x y;
        mid_literal = λ b {r} {v} e x. holds_node 0 v (omega (arith, e)) (none_holds refl) x;
        mid_other = λ i {r} {a} {b} e x y. holds_node a b e x y;
        mid_raw = λ {q} {r} {a} {b} e x y. raw_holds a b e x y;
        mid_append = λ d e x y. holds_append e x y;
        mid_nothing = nothing_holds;
        mid_inner = λ {t} {f} {i} h x. inner_holds (array_counts t f (sources i) h) x;
        mid_field = field_holds;
        mid_tag = tag_holds;
        pass_pure = λ x. unfold pure in λ n c. x;
        pass_both = λ {p} {q} e g h. unfold both in λ n c. let d = p n in let s = q (n + d.taken) in holds_append e (g n (unflagged_left d.flags s.flags c)) (h (n + d.taken) (unflagged_right d.flags s.flags c));
        pass_map = λ {p} {v} {w} f a k e g. unfold map in λ n c. k (p n).value 0 v w e (g n c);
        pass_raise = λ b g. unfold raise in λ n c. g n c;
        pass_template = λ ps {v} l e g. unfold gen_template in λ n c. holds_node v 0 (omega (arith, e, nothing_marked ps)) (g (n + 1) (unflagged_right (marks ps) (dynamic_exprs ps (n + 1)).flags c)) (none_holds refl);
        visit_done = λ {p} g a. unfold visit_after bind in λ n c. let d = p n in let s = visit_inside d.value (n + d.taken) in let v = inside d.value (g n (unflagged_left d.flags s.flags c)) (a n) (n + d.taken) (unflagged_right d.flags s.flags c) in record { count = v.count; no_pieces = v.no_pieces };
        visit_left = unfold leave raise in λ n c. absurd c;
        visit_null = unfold pure in_row texts_in choose in λ n c. record { count = refl; no_pieces = refl };
      }

  -- ---- page out

  page_out_counts : (o : Options) (d : Done Row) → in_row literal other (page_out_row o d) ≡ in_row literal other d.value
  unfolding page_out_row
  page_out_counts o d =
      let e = templates_related (λ r s. in_row literal other s ≡ in_row literal other r) (λ r. refl) past behind d.templates d.value in
      import_related (λ r. in_row literal other r ≡ in_row literal other d.value) o.import_source (helper_sum d.value) (with_templates d.templates d.value) e
      (import (o.import_source ++ ascii "/jsx-runtime") (helper_sum d.value) (with_templates d.templates d.value) ∙ e)
    where
      past : (r : Row) → in_row literal other (field 0x83 [] end r) ≡ in_row literal other r
      past r = unfold in_row in omega arith

      import : (source : Bytes) (sum : ℕ) (r : Row) → in_row literal other (import_row source sum r) ≡ in_row literal other r
      import source sum r = unfold in_row in omega arith

      behind : (t : ℕ) (f : Bytes) (i r s : Row) → in_row literal other s ≡ in_row literal other r → in_row literal other (field t f i s) ≡ in_row literal other (field t f i r)
      behind t f i r s e = unfold in_row in omega (arith, e)

  pub kept : (o : Options) (p : Page) → Unflagged (transform o p).flags → in_row literal other (page_out_row o (transform o p)) ≡ in_page literal other (λ f. 0) o p
  unfolding transform counting
  kept o p c = page_out_counts o (transform o p) ∙ (visits (every_page counting o p) 1 c).count

-- ---- accepted pages

pub kept_bytes : (page options : Bytes) (scratch templates_room page_room : ℕ) (w : Written) → AllBytes page → outcome page options scratch templates_room page_room ≡ accepted w → KeptBytes page options w.page_out
unfolding KeptBytes
kept_bytes page options scratch tr pr w all e =
    let o = options_in (read options) in
    let p = page_given page options in
    let says = accepted_says page options scratch tr pr w e in
    let out = sym (page_read page options scratch tr pr w all e) in
    let both_ways : (l : Bytes → ℕ) (x : List Bytes → ℕ) → in_row l x (read w.page_out) ≡ in_page l x (λ f. 0) o p = λ l x. subst (λ (r : Row). in_row l x r ≡ in_page l x (λ f. 0) o p) out (kept l x o p says.outputs.none_left) in
    record { literals = λ b. both_ways (λ c. bit (same b c) 1) (λ cs. 0); others = λ bs. both_ways (λ c. 0) (λ cs. bit (same_pieces bs cs) 1) }
