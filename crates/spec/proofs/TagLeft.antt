-- 10 is given only where a tag is left: the flag is raised only together with a 30, which stays in the result. An instance of `Counting` in
-- which nothing weighs. Main statement: `left_stands`. Assumes nothing.
use Prim.Native.Nat.{ℕ, ◌+◌}
use native.Mathlib.Omega.{arith}
use mathlib.Core.Path.{◌≡◌, refl, sym, subst}
use mathlib.Core.Bool.{Bool, true, false, ◌||◌, not}
use lib.Dec.{T, eqb}
use Rattle.page.proofs.Booleans.{or_left, not_either, or_right}
use Rattle.field.specs.Bytes.{Bytes}
use Rattle.field.specs.Row.{Row, end, loose, field}
use Rattle.page.specs.Page.{Options, Page}
use Rattle.spec.specs.Pass.{Done, Pass, pure, map, bind, both, raise, Mid, none, node, raw, ◌+++◌, ◌⧺◌, marks}
use Rattle.spec.specs.Output.{dynamic_exprs, gen_template}
use Rattle.spec.specs.Visit.{visit_exprs, visit_inside, visit_after, leave}
use Rattle.spec.specs.Transform.{transform, stands, page_out_row, module_items}
use Rattle.spec.proofs.PageOut.{page_stands}
use Rattle.spec.proofs.Ledger.{or_either}
use Rattle.spec.proofs.Invariant.{Split}
use Rattle.spec.proofs.Counting.{None, nothing_marked, Counting, every_page}
use Rattle.spec.proofs.Weighed.{Raws, raws_append}

-- ---- flags and rows

-- of a flag that is up one part is up, and it is not the one that is down
up_right : (a b : Bool) → T (not a) → T (a || b) → T b
up_right true b x t = absurd x
up_right false b x t = t

stands_in : (u t : ℕ) (f : Bytes) (i r : Row) → T (stands u i) → T (stands u (field t f i r))
unfolding stands
stands_in u t f i r h = or_right (eqb t u) (stands u i || stands u r) (or_left (stands u i) (stands u r) h)

stands_behind : (u t : ℕ) (f : Bytes) (i r : Row) → T (stands u r) → T (stands u (field t f i r))
unfolding stands
stands_behind u t f i r h = or_right (eqb t u) (stands u i || stands u r) (or_right (stands u i) (stands u r) h)

stands_first : (u : ℕ) (x y : Row) → T (stands u x) → T (stands u (x ⧺ y))
unfolding stands ◌⧺◌
stands_first u end y h = absurd h
stands_first u (loose b) y h = absurd h
stands_first u (field t f i r) y h =
    or_either (eqb t u) (stands u i || stands u r) (or_left (eqb t u) (stands u i || stands u (r ⧺ y)))
    (or_either (stands u i) (stands u r)
    (λ g. or_right (eqb t u) (stands u i || stands u (r ⧺ y)) (or_left (stands u i) (stands u (r ⧺ y)) g))
    λ g. or_right (eqb t u) (stands u i || stands u (r ⧺ y)) (or_right (stands u i) (stands u (r ⧺ y)) (stands_first u r y g)))
    h

stands_last : (u : ℕ) (x y : Row) → T (stands u y) → T (stands u (x ⧺ y))
unfolding stands ◌⧺◌
stands_last u end y h = h
stands_last u (loose b) y h = h
stands_last u (field t f i r) y h = or_right (eqb t u) (stands u i || stands u (r ⧺ y)) (or_right (stands u i) (stands u (r ⧺ y)) (stands_last u r y h))

-- ---- visits, expressions and first passes

-- where the flag is up a 30 stands
abbrev Left : Done Row → Type 0
Left d = T d.flags.left → T (stands 0x30 d.value)

abbrev Tags : Mid → Type 0
Tags = Raws (λ q. (n : ℕ) → Left (q n))

record Holds (m : Mid) (w : ℕ) : Type 0 where
  weightless : w ≡ 0
  raws : Tags m

-- a first pass leaves no tag
record First (d : Done Mid) : Type 0 where
  down : T (not d.flags.left)
  raws : Tags d.value

visits : (m : Mid) → Tags m → (n : ℕ) → Left (visit_exprs m n)
unfolding Raws visit_exprs both pure
visits none g n h = absurd h
visits (node t f i r) g n h =
    let d = visit_exprs i n in
    let e = visit_exprs r (n + d.taken) in
    or_either d.flags.left e.flags.left (λ x. stands_in 0x30 t f d.value e.value (visits i g.0 n x)) (λ x. stands_behind 0x30 t f d.value e.value (visits r g.1 (n + d.taken) x)) h
visits (raw q r) g n h =
    let d = q n in
    let e = visit_exprs r (n + d.taken) in
    or_either d.flags.left e.flags.left (λ x. stands_first 0x30 d.value e.value (g.0 n x)) (λ x. stands_last 0x30 d.value e.value (visits r g.1 (n + d.taken) x)) h

inside : (m : Mid) → Tags m → (n : ℕ) → Left (visit_inside m n)
unfolding visit_inside visit_exprs leave raise pure stands
inside none g n h = absurd h
inside (node t f i r) g n h = visits (node t f i r) g n h
inside (raw q r) g n h = tt

after : {p : Pass Mid} → ((n : ℕ) → First (p n)) → (n : ℕ) → Left (visit_after p n)
unfolding visit_after bind
after {p} g n h =
    let d = p n in
    let e = visit_inside d.value (n + d.taken) in
    inside d.value (g n).raws (n + d.taken) (up_right d.flags.left e.flags.left (g n).down h)

part : {P Q : ℕ → Type 0} {w : ℕ} → w ≡ 0 → P 0 → Q 0 → Split None P Q w
part e x y = record { first = 0; second = 0; spared = 0; sum = sym e; spare = refl; one = x; rest = y }

counting : Counting
unfolding Raws
counting =
    record {
      literal = λ b. 0;
      other = λ bs. 0;
      own = λ f. 0;
      MidOk = λ k m w. Holds m w;
      PassOk = λ p w. (w ≡ 0) × ((n : ℕ) → First (p n));
      VisitOk = λ p w. (w ≡ 0) × ((n : ℕ) → Left (p n));
      mid_none = record { weightless = refl; raws = tt };
      mid_node = λ t f h d e x y. record { weightless = omega (arith, e, x.weightless, y.weightless); raws = (x.raws, y.raws) };
      mid_literal = λ b e x. record { weightless = omega (arith, e, x.weightless); raws = (tt, x.raws) };
      mid_other = λ i e x y. record { weightless = omega (arith, e, x.weightless, y.weightless); raws = (x.raws, y.raws) };
      mid_raw = λ e x y. record { weightless = omega (arith, e, x.0, y.weightless); raws = (x.1, y.raws) };
      mid_append = λ {x} {y} d e g h. record { weightless = omega (arith, e, g.weightless, h.weightless); raws = raws_append _ x y g.raws h.raws };
      mid_nothing = λ x. x.weightless;
      mid_inner = λ h x. record { weightless = x.weightless; raws = x.raws.0 };
      mid_field = λ x. part x.weightless (record { weightless = refl; raws = (x.raws.0, tt) }) (record { weightless = refl; raws = x.raws.1 });
      mid_tag = λ x. part x.weightless (record { weightless = refl; raws = (x.raws.0, tt) }) (record { weightless = refl; raws = x.raws.1 });
      pass_pure = λ x. unfold pure in (x.weightless, λ n. record { down = tt; raws = x.raws });
      pass_both = λ {p} {q} e g h. unfold both in (omega (arith, e, g.0, h.0), λ n. let d = p n in let s = q (n + d.taken) in record { down = not_either d.flags.left s.flags.left (g.1 n).down (h.1 (n + d.taken)).down; raws = raws_append _ d.value s.value (g.1 n).raws (h.1 (n + d.taken)).raws });
      pass_map = λ {p} {v} {w} f a k e g. unfold map in ((k (p 0).value 0 v w e (record { weightless = g.0; raws = (g.1 0).raws })).weightless, λ n. record { down = (g.1 n).down; raws = (k (p n).value 0 v w e (record { weightless = g.0; raws = (g.1 n).raws })).raws });
      pass_raise = λ b g. unfold raise in (g.0, λ n. record { down = (g.1 n).down; raws = (g.1 n).raws });
      pass_template = λ ps l e g. unfold gen_template in (omega (arith, e, g.0, nothing_marked ps), λ n. record { down = not_either (marks ps).left (dynamic_exprs ps (n + 1)).flags.left l (g.1 (n + 1)).down; raws = ((g.1 (n + 1)).raws, tt) });
      visit_done = λ g a. (g.0, after g.1);
      visit_left = unfold leave raise pure stands in (refl, λ n h. tt);
      visit_null = unfold pure in (refl, λ n h. absurd h);
    }

-- ---- page out

pub left_stands : (o : Options) (p : Page) → T (transform o p).flags.left → T (stands 0x30 (page_out_row o (transform o p)))
unfolding transform counting
left_stands o p h = subst T (sym (page_stands 0x30 refl refl refl o (transform o p))) (visits (module_items o p) (every_page counting o p).raws 1 h)
