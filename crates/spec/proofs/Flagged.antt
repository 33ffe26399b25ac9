-- 02, A4 and A10, exact: where no tag is left, a pass has found two attributes of one name, or a name that is void only in small letters,
-- exactly where an element of the page that is serialized has them, outside the places where 000 loses what stands there. An instance of
-- `Counting`. Main statements: `repeated_exactly`, `mixed_exactly`. Assumes nothing.
use Prim.Native.Nat.{ℕ, ◌+◌, ◌≤◌}
use native.Mathlib.Omega.{arith}
use mathlib.Core.Path.{◌≡◌, refl, sym, subst}
use mathlib.Core.Bool.{Bool, true, false, ◌||◌, not}
use mathlib.Core.List.{List, [], ◌∷◌}
use lib.Dec.{T, ltb, ltb→lt, lt→ltb}
use Rattle.std.proofs.Math.Facts.{or_no}
use Rattle.field.specs.Bytes.{Bytes}
use Rattle.field.specs.Row.{Row}
use Rattle.page.specs.Page.{Options, Page}
use Rattle.spec.specs.declared.Flags.{Flags}
use Rattle.spec.specs.Pass.{Done, Pass, pure, map, bind, both, raise, long_if, join, Raw, Mid, none, node, raw, ◌+++◌, Part, chars, gap, mark, marks}
use Rattle.spec.specs.Output.{dynamic_exprs, gen_template}
use Rattle.spec.specs.Visit.{visit_exprs, visit_inside, visit_after, leave}
use Rattle.spec.specs.Transform.{transform, bit}
use Rattle.spec.specs.Kept.{in_page, Repeated, Mixed}
use Rattle.spec.proofs.Ledger.{or_either}
use Rattle.spec.proofs.Invariant.{Alone}
use Rattle.spec.proofs.Counting.{marked, Counting, every_page}
use Rattle.spec.proofs.Weighed.{Holds, none_holds, node_holds, raw_holds, holds_node, holds_append, nothing_holds, inner_holds, field_holds, tag_holds}
use Rattle.spec.proofs.Kept.{Unflagged, unflagged_left, unflagged_right}

-- ---- a flag that is up exactly where something is counted

record Exact (b : Bool) (w : ℕ) : Type 0 where
  up : T b → 1 ≤ w
  down : T (not b) → w ≡ 0

exact_none : Exact false 0
exact_none = record { up = λ t. absurd t; down = λ t. refl }

exact_bit : (b : Bool) → Exact b (bit b 1)
exact_bit true = record { up = λ t. omega arith; down = λ t. absurd t }
exact_bit false = exact_none

exact_either : (b c : Bool) (v w u : ℕ) → v + w ≡ u → Exact b v → Exact c w → Exact (b || c) u
exact_either b c v w u e x y =
    record {
      up = or_either b c (λ t. let k = x.up t in omega (arith, e, k)) (λ t. let k = y.up t in omega (arith, e, k));
      down = λ t. let k = or_no b c t in omega (arith, e, x.down k.0, y.down k.1);
    }

exactly : (b : Bool) (w : ℕ) → Exact b w → (T b → T (ltb 0 w)) × (T (ltb 0 w) → T b)
exactly true w x = (λ t. lt→ltb 0 w (x.up tt), λ t. tt)
exactly false w x = (λ t. absurd t, λ t. absurd (let k = ltb→lt 0 w t in omega (arith, k, x.down tt)))

-- ---- one flag: that of two passes is that of either, and no long run raises it

module _ (flag : Flags → Bool) (joined : (f g : Flags) → flag (join f g) ≡ (flag f || flag g)) (not_long : (b : Bool) → flag (long_if b) ≡ false) where
  exact_join : (f g : Flags) (v w u : ℕ) → v + w ≡ u → Exact (flag f) v → Exact (flag g) w → Exact (flag (join f g)) u
  exact_join f g v w u e x y = subst (λ (b : Bool). Exact b u) (sym (joined f g)) (exact_either (flag f) (flag g) v w u e x y)

  exact_long : (b : Bool) → Exact (flag (long_if b)) 0
  exact_long b = subst (λ (c : Bool). Exact c 0) (sym (not_long b)) exact_none

  abbrev own : Flags → ℕ
  own f = bit (flag f) 1

  exact_marks : (ps : List Part) → Exact (flag (marks ps)) (marked own ps)
  unfolding marks marked
  exact_marks [] = exact_long false
  exact_marks (chars b ∷ ps) = exact_marks ps
  exact_marks (gap p ∷ ps) = exact_marks ps
  exact_marks (mark f ∷ ps) = exact_join f (marks ps) (own f) (marked own ps) _ refl (exact_bit (flag f)) (exact_marks ps)

  -- ---- expressions: what the visits of their tags find

  abbrev Visits : Pass Row → ℕ → Type 0
  Visits p w = (n : ℕ) → Unflagged (p n).flags → Exact (flag (p n).flags) w

  abbrev Held : Mid → ℕ → Type 0
  Held = Holds (λ t f i. 0) (λ q w. (n : ℕ) → Unflagged (q n).flags → Exact (flag (q n).flags) w)

  visits : {m : Mid} {w : ℕ} → Held m w → (n : ℕ) → Unflagged (visit_exprs m n).flags → Exact (flag (visit_exprs m n).flags) w
  unfolding visit_exprs both pure
  visits (none_holds e) n c = subst (Exact (flag (long_if false))) (sym e) (exact_long false)
  visits (node_holds {i = i} {r = r} {w = w} a b e x y) n c =
      let d = visit_exprs i n in
      let s = visit_exprs r (n + d.taken) in
      exact_join d.flags s.flags a b w (omega (arith, e)) (visits x n (unflagged_left d.flags s.flags c)) (visits y (n + d.taken) (unflagged_right d.flags s.flags c))
  visits (raw_holds {q = q} {r = r} {w = w} a b e x y) n c =
      let d = q n in
      let s = visit_exprs r (n + d.taken) in
      exact_join d.flags s.flags a b w e (x n (unflagged_left d.flags s.flags c)) (visits y (n + d.taken) (unflagged_right d.flags s.flags c))

  -- where a tag is left the page is refused as 10
  inside : (m : Mid) {w : ℕ} → Held m w → Alone m → (n : ℕ) → Unflagged (visit_inside m n).flags → Exact (flag (visit_inside m n).flags) w
  unfolding visit_inside visit_exprs leave raise Alone
  inside none x a n c = absurd a
  inside (node t f i r) x a n c = visits x n c
  inside (raw q r) x a n c = absurd c

  -- ---- first passes: what is found at once, and what the visits find

  record First (d : Done Mid) (w : ℕ) : Type 0 where
    found : ℕ
    later : ℕ
    sum : found + later ≡ w
    exact : Exact (flag d.flags) found
    held : Held d.value later

  abbrev Firsts : Pass Mid → ℕ → Type 0
  Firsts p w = (n : ℕ) → Unflagged (p n).flags → First (p n) w

  both_first : {p q : Pass Mid} {a b w : ℕ} → a + b ≡ w → Firsts p a → Firsts q b → Firsts (both ◌+++◌ p q) w
  unfolding both
  both_first {p} {q} e g h n c =
      let d = p n in
      let s = q (n + d.taken) in
      let x = g n (unflagged_left d.flags s.flags c) in
      let y = h (n + d.taken) (unflagged_right d.flags s.flags c) in
      record {
        found = x.found + y.found;
        later = x.later + y.later;
        sum = omega (arith, e, x.sum, y.sum);
        exact = exact_join d.flags s.flags x.found y.found _ refl x.exact y.exact;
        held = holds_append refl x.held y.held;
      }

  map_first : {p : Pass Mid} {v w : ℕ} (f : Mid → Mid) (a : ℕ) → ((m : Mid) (k b c : ℕ) → a + b ≡ c → Held m b → Held (f m) c) → a + v ≡ w → Firsts p v → Firsts (map f p) w
  unfolding map
  map_first {p} f a k e g n c = let x = g n c in record { found = x.found; later = a + x.later; sum = omega (arith, e, x.sum); exact = x.exact; held = k (p n).value 0 x.later _ refl x.held }

  raise_first : {p : Pass Mid} {w : ℕ} (b : Bool) → Firsts p w → Firsts (raise (long_if b) p) w
  unfolding raise
  raise_first {p} b g n c = let x = g n c in record { found = x.found; later = x.later; sum = x.sum; exact = exact_join (long_if b) (p n).flags 0 x.found x.found (omega arith) (exact_long b) x.exact; held = x.held }

  template_first : (ps : List Part) {v w : ℕ} → marked own ps + v ≡ w → Firsts (dynamic_exprs ps) v → Firsts (gen_template ps) w
  unfolding gen_template
  template_first ps e g n c =
      let d = dynamic_exprs ps (n + 1) in
      let x = g (n + 1) (unflagged_right (marks ps) d.flags c) in
      record {
        found = marked own ps + x.found;
        later = x.later;
        sum = omega (arith, e, x.sum);
        exact = exact_join (marks ps) d.flags (marked own ps) x.found _ refl (exact_marks ps) x.exact;
        held = holds_node x.later 0 (omega arith) x.held (none_holds refl);
      }

  after : {p : Pass Mid} {w : ℕ} → Firsts p w → ((n : ℕ) → Alone (p n).value) → Visits (visit_after p) w
  unfolding visit_after bind
  after {p} {w} g a n c =
      let d = p n in
      let s = visit_inside d.value (n + d.taken) in
      let x = g n (unflagged_left d.flags s.flags c) in
      exact_join d.flags s.flags x.found x.later w x.sum x.exact (inside d.value x.held (a n) (n + d.taken) (unflagged_right d.flags s.flags c))

  counting : Counting
  counting =
      record {
        literal = λ b. 0;
        other = λ bs. 0;
        own = own;
        MidOk = λ k m w. Held m w;
        PassOk = Firsts;
        VisitOk = Visits;
        mid_none = none_holds refl;
        mid_node = λ t f {i} {r} {j} {k} {l} {a} {b} h d e x y. holds_node a b (omega (arith, e)) x y;
        mid_literal = λ b {r} {v} e x. holds_node 0 v (omega (arith, e)) (none_holds refl) x;
        mid_other = λ i {r} {a} {b} e x y. holds_node a b (omega (arith, e)) x y;
        mid_raw = λ {q} {r} {a} {b} e x y. raw_holds a b e x y;
        mid_append = λ d e x y. holds_append e x y;
        mid_nothing = nothing_holds;
        mid_inner = λ h x. inner_holds refl x;
        mid_field = field_holds;
        mid_tag = tag_holds;
        pass_pure = λ {m} {w} x. unfold pure in λ n c. record { found = 0; later = w; sum = omega arith; exact = exact_long false; held = x };
        pass_both = both_first;
        pass_map = map_first;
        pass_raise = raise_first;
        pass_template = λ ps l e g. template_first ps e g;
        visit_done = after;
        visit_left = unfold leave raise in λ n c. absurd c;
        visit_null = unfold pure in λ n c. exact_long false;
      }

  page_exact : (o : Options) (p : Page) → Unflagged (transform o p).flags → Exact (flag (transform o p).flags) (in_page (λ b. 0) (λ bs. 0) (λ f. bit (flag f) 1) o p)
  unfolding transform counting
  page_exact o p c = visits (every_page counting o p) 1 c

-- ---- 16 and 19

pub repeated_exactly : (o : Options) (p : Page) → Unflagged (transform o p).flags → (T (transform o p).flags.repeated → Repeated o p) × (Repeated o p → T (transform o p).flags.repeated)
repeated_exactly o p c = exactly (transform o p).flags.repeated _ (page_exact (λ f. f.repeated) (λ f g. refl) (λ b. refl) o p c)

pub mixed_exactly : (o : Options) (p : Page) → Unflagged (transform o p).flags → (T (transform o p).flags.mixed → Mixed o p) × (Mixed o p → T (transform o p).flags.mixed)
mixed_exactly o p c = exactly (transform o p).flags.mixed _ (page_exact (λ f. f.mixed) (λ f g. refl) (λ b. refl) o p c)
