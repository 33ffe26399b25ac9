-- Demand 3's counts, of every page, whatever its names: templates recorded and called alike, by any test of their numbers and kinds, and
-- each number that is taken recorded once. Main statements: `counted`, `numbers`, `balance`, `called`. Assumes nothing.
use Prim.Native.Nat.{ℕ, zero, suc, ◌+◌}
use native.Mathlib.Omega.{arith}
use mathlib.Core.Path.{◌≡◌, refl, sym, ap, ap₂, ◌∙◌}
use mathlib.Core.Bool.{Bool, true, false, ◌&&◌, ◌||◌, not}
use mathlib.Core.List.{List, [], ◌∷◌}
use lib.Dec.{T, eqb, ltb}
use lib.ListN.{length, length-append}
use borrow.Author.Tests.{lt-ltb}
use Rattle.std.proofs.Math.Facts.{or_no}
use Rattle.page.proofs.Booleans.{is_false}
use Rattle.field.specs.Bytes.{Bytes}
use Rattle.field.specs.Row.{Row, end, loose, field}
use Rattle.page.specs.Page.{Options, Page}
use Rattle.spec.specs.Pass.{Template, Done, Pass, pure, map, bind, both, raise, Raw, Mid, none, node, raw, ◌+++◌, ◌⧺◌, Part}
use Rattle.spec.specs.Output.{strings_after, dynamic_exprs, kinds_of, gen_template}
use Rattle.spec.specs.Visit.{visit_exprs, visit_inside, visit_after, leave}
use Rattle.spec.specs.Transform.{transform, bit, stands, module_items}
use Rattle.spec.specs.Demand.{kinds_in}
use Rattle.spec.proofs.Good.{OneField}
use Rattle.spec.proofs.Ledger as G
use Rattle.spec.proofs.Ledger.{Test, recorded, called_row, numbered, span, recorded_append, numbered_append, span_add, span_first, called_append, one_behind, then}
use Rattle.spec.proofs.Invariant.{Split, Alone}
use Rattle.spec.proofs.Counting.{None, nothing_marked, Counting, every_page}
use Rattle.spec.proofs.Weighed.{Raws, raws_append}

-- ---- numbers: as many templates as numbers taken, each number once

record Numbered {A : Type 0} (n : ℕ) (d : Done A) : Type 0 where
  count : length d.templates ≡ d.taken
  each : (m : ℕ) → numbered m d.templates ≡ span n d.taken m

none_numbered : {A : Type 0} (v : A) (n : ℕ) → Numbered n (pure v n)
unfolding pure numbered span
none_numbered v n = record { count = refl; each = λ m. refl }

then_numbered : {A B C : Type 0} (v : C) (n : ℕ) (d : Done A) (e : Done B) → Numbered n d → Numbered (n + d.taken) e → Numbered n (then v d e)
then_numbered v n d e x y =
    record {
      count = omega (arith, length-append d.templates e.templates, x.count, y.count);
      each = λ m. omega (arith, numbered_append m d.templates e.templates, span_add n d.taken e.taken m, x.each m, y.each m);
    }

module _ (p : Test) where
  -- ---- visits, expressions and first passes

  -- the visit of a row with k calls: one for each template recorded besides
  record Visited (k n : ℕ) (d : Done Row) : Type 0 where
    ledger : Numbered n d
    balance : called_row p d.value ≡ k + recorded p d.templates

  -- the visit of a tag gives one field
  record TagVisited (n : ℕ) (d : Done Row) : Type 0 where
    visited : Visited 0 n d
    one : OneField d.value

  abbrev Tags : Mid → Type 0
  Tags = Raws (λ q. (n : ℕ) → TagVisited n (q n))

  -- expressions with k calls; nothing in them weighs
  record Holds (k : ℕ) (m : Mid) (w : ℕ) : Type 0 where
    weightless : w ≡ 0
    balance : G.called p m ≡ k
    raws : Tags m

  record First (n : ℕ) (d : Done Mid) (w : ℕ) : Type 0 where
    ledger : Numbered n d
    held : Holds (recorded p d.templates) d.value w

  -- ---- expressions

  uncalled : (t : ℕ) (f : Bytes) (i r : Mid) → T (not (eqb t 0x90)) → G.called p (node t f i r) ≡ G.called p i + G.called p r
  unfolding G.called
  uncalled t f i r h = rw (is_false (eqb t 0x90) h) (omega arith)

  holds_node : (t : ℕ) (f : Bytes) {i r : Mid} {j k l a b w : ℕ} → T (not (eqb t 0x90)) → j + k ≡ l → a + b ≡ w → Holds j i a → Holds k r b → Holds l (node t f i r) w
  unfolding Raws
  holds_node t f {i} {r} h d e x y = record { weightless = omega (arith, e, x.weightless, y.weightless); balance = omega (arith, d, uncalled t f i r h, x.balance, y.balance); raws = (x.raws, y.raws) }

  holds_none : Holds 0 none 0
  unfolding G.called Raws
  holds_none = record { weightless = refl; balance = refl; raws = tt }

  holds_append : {x y : Mid} {j k l a b w : ℕ} → j + k ≡ l → a + b ≡ w → Holds j x a → Holds k y b → Holds l (x +++ y) w
  holds_append {x} {y} d e g h =
      record { weightless = omega (arith, e, g.weightless, h.weightless); balance = omega (arith, d, called_append p x y, g.balance, h.balance); raws = raws_append _ x y g.raws h.raws }

  -- a part that holds no call, of a row that holds none
  part : {m : Mid} → G.called p m ≡ 0 → Tags m → Holds 0 m 0
  part e g = record { weightless = refl; balance = e; raws = g }

  inner_holds : {t : ℕ} {f : Bytes} {i : Mid} {w : ℕ} → Holds 0 (node t f i none) w → Holds 0 i w
  unfolding G.called Raws
  inner_holds x = record { weightless = x.weightless; balance = omega (arith, x.balance); raws = x.raws.0 }

  field_holds : {t : ℕ} {f : Bytes} {i r : Mid} {w : ℕ} → Holds 0 (node t f i r) w → Split None (Holds 0 (node t f i none)) (Holds 0 r) w
  unfolding G.called Raws
  field_holds x = record { first = 0; second = 0; spared = 0; sum = sym x.weightless; spare = refl; one = part (omega (arith, x.balance)) (x.raws.0, tt); rest = part (omega (arith, x.balance)) x.raws.1 }

  tag_holds : {q : Raw} {r : Mid} {w : ℕ} → Holds 0 (raw q r) w → Split None (Holds 0 (raw q none)) (Holds 0 r) w
  unfolding G.called Raws
  tag_holds x = record { first = 0; second = 0; spared = 0; sum = sym x.weightless; spare = refl; one = part refl (x.raws.0, tt); rest = part x.balance x.raws.1 }

  raw_holds : {q : Raw} {r : Mid} {a b w : ℕ} → a + b ≡ w → (a ≡ 0) × ((n : ℕ) → TagVisited n (q n)) → Holds 0 r b → Holds 0 (raw q r) w
  unfolding G.called Raws
  raw_holds e x y = record { weightless = omega (arith, e, x.0, y.weightless); balance = y.balance; raws = (x.1, y.raws) }

  -- ---- visits

  -- a call keeps its kinds
  record RowVisited (m : Mid) (n : ℕ) (d : Done Row) : Type 0 where
    visited : Visited (G.called p m) n d
    kinds : kinds_in d.value ≡ kinds_of m

  visits : (m : Mid) → Tags m → (n : ℕ) → RowVisited m n (visit_exprs m n)
  unfolding Raws G.called called_row recorded visit_exprs both pure kinds_in kinds_of
  visits none g n = record { visited = record { ledger = none_numbered end n; balance = refl }; kinds = refl }
  visits (node t f i r) g n =
      let d = visit_exprs i n in
      let e = visit_exprs r (n + d.taken) in
      let x = visits i g.0 n in
      let y = visits r g.1 (n + d.taken) in
      let k = ap (λ (z : List Bool). bit (eqb t 0x90 && p f z) 1) x.kinds in
      record {
        visited = record { ledger = then_numbered (field t f d.value e.value) n d e x.visited.ledger y.visited.ledger; balance = omega (arith, k, recorded_append p d.templates e.templates, x.visited.balance, y.visited.balance) };
        kinds = ap (λ (z : List Bool). (eqb t 0x91 || eqb t 0x93) ∷ z) y.kinds;
      }
  visits (raw q r) g n =
      let d = q n in
      let e = visit_exprs r (n + d.taken) in
      let x = g.0 n in
      let y = visits r g.1 (n + d.taken) in
      let o = one_behind d.value e.value x.one in
      record {
        visited = record { ledger = then_numbered (d.value ⧺ e.value) n d e x.visited.ledger y.visited.ledger; balance = omega (arith, o.called_both p, recorded_append p d.templates e.templates, x.visited.balance, y.visited.balance) };
        kinds = o.kinds ∙ ap (λ (z : List Bool). false ∷ z) y.kinds;
      }

  -- a tag that is left has no calls behind it
  inside : (m : Mid) → Tags m → Alone m → (n : ℕ) → Visited (G.called p m) n (visit_inside m n) × OneField (visit_inside m n).value
  unfolding visit_inside visit_exprs both leave raise pure G.called called_row recorded Alone OneField
  inside none g a n = absurd a
  inside (node t f i none) g a n = ((visits (node t f i none) g n).visited, is_false (eqb t 0x91 || eqb t 0x93) (or_no (eqb t 0x20) (eqb t 0x91 || eqb t 0x93) a).1)
  inside (node t f i (node u h j r)) g a n = absurd a
  inside (node t f i (raw q r)) g a n = absurd a
  inside (raw q none) g a n = (record { ledger = record { count = (none_numbered end n).count; each = (none_numbered end n).each }; balance = refl }, refl)
  inside (raw q (node t f i r)) g a n = absurd a
  inside (raw q (raw s r)) g a n = absurd a

  -- ---- first passes

  pure_first : {m : Mid} {w : ℕ} → Holds 0 m w → (n : ℕ) → First n (pure m n) w
  unfolding pure recorded
  pure_first {m} x n = record { ledger = none_numbered m n; held = x }

  both_first : (q r : Pass Mid) {a b w : ℕ} → a + b ≡ w → (n : ℕ) → First n (q n) a → First (n + (q n).taken) (r (n + (q n).taken)) b → First n (both ◌+++◌ q r n) w
  unfolding both
  both_first q r e n x y =
      let d = q n in
      let s = r (n + d.taken) in
      record { ledger = then_numbered (d.value +++ s.value) n d s x.ledger y.ledger; held = holds_append (sym (recorded_append p d.templates s.templates)) e x.held y.held }

  -- one more number, one more template, one more call
  template_first : (ps : List Part) {v w : ℕ} → v ≡ w → (n : ℕ) → First (n + 1) (dynamic_exprs ps (n + 1)) v → First n (gen_template ps n) w
  unfolding gen_template G.called Raws recorded numbered
  template_first ps e n x =
      let d = dynamic_exprs ps (n + 1) in
      let t : Template = record { number = n; strings = strings_after [] ps; kinds = kinds_of d.value } in
      record {
        ledger =
            record {
              count = omega (arith, length-append d.templates (t ∷ []), x.ledger.count);
              each = λ m. omega (arith, numbered_append m d.templates (t ∷ []), span_first n d.taken m, x.ledger.each m);
            };
        held = record { weightless = omega (arith, e, x.held.weightless); balance = omega (arith, recorded_append p d.templates (t ∷ []), x.held.balance); raws = (x.held.raws, tt) };
      }

  after : {q : Pass Mid} {w : ℕ} → ((n : ℕ) → First n (q n) w) → ((n : ℕ) → Alone (q n).value) → (n : ℕ) → TagVisited n (visit_after q n)
  unfolding visit_after bind
  after {q} g a n =
      let d = q n in
      let s = visit_inside d.value (n + d.taken) in
      let y = inside d.value (g n).held.raws (a n) (n + d.taken) in
      record {
        visited = record { ledger = then_numbered s.value n d s (g n).ledger y.0.ledger; balance = omega (arith, recorded_append p d.templates s.templates, y.0.balance, (g n).held.balance) };
        one = y.1;
      }

  leaf_visited : (t : ℕ) → (eqb t 0x91 || eqb t 0x93) ≡ false → T (not (eqb t 0x90)) → (n : ℕ) → TagVisited n (pure (field t [] end end) n)
  unfolding pure called_row recorded OneField
  leaf_visited t e h n = record { visited = record { ledger = none_numbered (field t [] end end) n; balance = rw (is_false (eqb t 0x90) h) }; one = e }

  -- ---- the counting

  counting : Counting
  counting =
      record {
        literal = λ b. 0;
        other = λ bs. 0;
        own = λ f. 0;
        MidOk = Holds;
        PassOk = λ q w. (n : ℕ) → First n (q n) w;
        VisitOk = λ q w. (w ≡ 0) × ((n : ℕ) → TagVisited n (q n));
        mid_none = holds_none;
        mid_node = λ t f h d e x y. holds_node t f (or_no (eqb t 0x90) (eqb t 0x74 || eqb t 0x79) h).0 d e x y;
        mid_literal = λ b e x. holds_node 0x74 b tt (omega arith) e holds_none x;
        mid_other = λ i e x y. holds_node 0x79 [] tt (omega arith) (omega (arith, e)) x y;
        mid_raw = raw_holds;
        mid_append = holds_append;
        mid_nothing = λ x. x.weightless;
        mid_inner = λ h x. inner_holds x;
        mid_field = field_holds;
        mid_tag = tag_holds;
        pass_pure = pure_first;
        pass_both = λ {p = q} {q = r} e g h n. both_first q r e n (g n) (h (n + (q n).taken));
        pass_map = λ {p = q} {v} {w} f a k e g. unfold map in λ n. record { ledger = record { count = (g n).ledger.count; each = (g n).ledger.each }; held = k (q n).value (recorded p (q n).templates) v w e (g n).held };
        pass_raise = λ b g. unfold raise in λ n. record { ledger = record { count = (g n).ledger.count; each = (g n).ledger.each }; held = (g n).held };
        pass_template = λ ps l e g n. template_first ps (omega (arith, e, nothing_marked ps)) n (g (n + 1));
        visit_done = λ g a. ((g 0).held.weightless, after g a);
        visit_left = unfold leave raise in (refl, λ n. let v = leaf_visited 0x30 refl tt n in record { visited = record { ledger = record { count = v.visited.ledger.count; each = v.visited.ledger.each }; balance = v.visited.balance }; one = v.one });
        visit_null = (refl, leaf_visited 0x73 refl tt);
      }

  page_visited : (o : Options) (q : Page) → Visited 0 1 (transform o q)
  unfolding transform counting
  page_visited o q =
      let h = every_page counting o q in
      let v = (visits (module_items o q) h.raws 1).visited in
      record { ledger = v.ledger; balance = omega (arith, v.balance, h.balance) }

-- ---- the laws

-- every template
abbrev any : Test
any f ks = true

-- as many templates as numbers
pub counted : (o : Options) (q : Page) → length (transform o q).templates ≡ (transform o q).taken
counted o q = (page_visited any o q).ledger.count

-- the numbers from 1 on, each once
pub numbers : (o : Options) (q : Page) (m : ℕ) → numbered m (transform o q).templates ≡ span 1 (transform o q).taken m
numbers o q = (page_visited any o q).ledger.each

-- as many calls as templates, by any test
pub balance : (p : Test) (o : Options) (q : Page) → called_row p (transform o q).value ≡ recorded p (transform o q).templates
balance p o q = omega (arith, (page_visited p o q).balance)

some_sum : (a b : ℕ) → (ltb 0 a || ltb 0 b) ≡ ltb 0 (a + b)
some_sum zero b = ap (ltb 0) (let e : b ≡ zero + b = omega arith in e)
some_sum (suc a) b = ap (λ (c : Bool). c || ltb 0 b) (lt-ltb 0 (suc a) (omega arith)) ∙ sym (lt-ltb 0 (suc a + b) (omega arith))

some_bit : (b : Bool) → b ≡ ltb 0 (bit (b && true) 1)
some_bit true = refl
some_bit false = refl

-- a call stands where one is counted
stands_counted : (r : Row) → stands 0x90 r ≡ ltb 0 (called_row any r)
unfolding stands called_row
stands_counted end = refl
stands_counted (loose b) = refl
stands_counted (field t f i r) =
    ap₂ (λ (a b : Bool). a || b) (some_bit (eqb t 0x90)) (ap₂ (λ (a b : Bool). a || b) (stands_counted i) (stands_counted r) ∙ some_sum (called_row any i) (called_row any r))
    ∙ some_sum (bit (eqb t 0x90 && true) 1) (called_row any i + called_row any r)

recorded_any : (ts : List Template) → recorded any ts ≡ length ts
unfolding recorded
recorded_any [] = refl
recorded_any (t ∷ ts) = omega (arith, recorded_any ts)

-- a template is called exactly where a number was taken
pub called : (o : Options) (q : Page) → stands 0x90 (transform o q).value ≡ ltb 0 (transform o q).taken
called o q = stands_counted (transform o q).value ∙ ap (ltb 0) (balance any o q ∙ recorded_any (transform o q).templates ∙ counted o q)
