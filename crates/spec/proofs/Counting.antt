-- Invariants that count, of every page: weights are exact, texts and names do not matter, and nothing is asked of flags. What such an
-- invariant has to show, and that every page keeps it. Main definition: `Counting`; main statement: `every_page`. Assumes nothing.
use Prim.Native.Nat.{ℕ, ◌+◌}
use native.Mathlib.Omega.{arith}
use mathlib.Core.Path.{◌≡◌, refl, sym, subst}
use mathlib.Core.Bool.{Bool, ◌||◌, not}
use mathlib.Core.List.{List, [], ◌∷◌, ◌++◌}
use lib.Dec.{T, eqb}
use Rattle.std.proofs.Math.Facts.{or_no}
use Rattle.page.proofs.Booleans.{not_either}
use Rattle.field.specs.Bytes.{Bytes}
use Rattle.field.specs.Row.{Row, end, field}
use Rattle.page.specs.Page.{Options, Page}
use Rattle.spec.specs.declared.Flags.{Flags}
use Rattle.spec.specs.Pass.{Pass, pure, map, both, raise, long_if, Raw, Mid, none, node, raw, ◌+++◌, Part, chars, gap, mark, marks}
use Rattle.spec.specs.Output.{dynamic_exprs, gen_template}
use Rattle.spec.specs.Attributes.{Attribute, tag_flags}
use Rattle.spec.specs.Visit.{visit_after, leave}
use Rattle.spec.specs.Transform.{module_items}
use Rattle.spec.specs.Kept.{in_page}
use Rattle.spec.proofs.Invariant.{Split, Alone, sources, Invariant}
use Rattle.spec.proofs.Shapes.{field_alone}
use Rattle.spec.proofs.EveryPage.{page_ok}

abbrev pub None : ℕ → Type 0
None w = w ≡ 0

-- neither a template call nor a field that counts by itself
abbrev pub uncounted : ℕ → Bool
uncounted t = not (eqb t 0x90 || (eqb t 0x74 || eqb t 0x79))

-- what the marks among parts weigh
unfoldable pub marked : (Flags → ℕ) → List Part → ℕ
marked own [] = 0
marked own (chars b ∷ ps) = marked own ps
marked own (gap p ∷ ps) = marked own ps
marked own (mark f ∷ ps) = own f + marked own ps

pub nothing_marked : (ps : List Part) → marked (λ f. 0) ps ≡ 0
unfolding marked
nothing_marked [] = refl
nothing_marked (chars b ∷ ps) = nothing_marked ps
nothing_marked (gap p ∷ ps) = nothing_marked ps
nothing_marked (mark f ∷ ps) = omega (arith, nothing_marked ps)

pub record Counting : Type 1 where
  pub literal : Bytes → ℕ
  pub other : List Bytes → ℕ
  pub own : Flags → ℕ
  pub MidOk : ℕ → Mid → ℕ → Type 0
  pub PassOk : Pass Mid → ℕ → Type 0
  pub VisitOk : Pass Row → ℕ → Type 0
  -- expressions, put together and taken apart
  pub mid_none : MidOk 0 none 0
  pub mid_node : (t : ℕ) (f : Bytes) {i r : Mid} {j k l a b w : ℕ} → T (uncounted t) → j + k ≡ l → a + b ≡ w → MidOk j i a → MidOk k r b → MidOk l (node t f i r) w
  pub mid_literal : (b : Bytes) {r : Mid} {v w : ℕ} → literal b + v ≡ w → MidOk 0 r v → MidOk 0 (node 0x74 b none r) w
  pub mid_other : (i : Mid) {r : Mid} {a b w : ℕ} → other (sources i) + (a + b) ≡ w → MidOk 0 i a → MidOk 0 r b → MidOk 0 (node 0x79 [] i r) w
  pub mid_raw : {q : Raw} {r : Mid} {a b w : ℕ} → a + b ≡ w → VisitOk q a → MidOk 0 r b → MidOk 0 (raw q r) w
  pub mid_append : {x y : Mid} {j k l a b w : ℕ} → j + k ≡ l → a + b ≡ w → MidOk j x a → MidOk k y b → MidOk l (x +++ y) w
  pub mid_nothing : {w : ℕ} → MidOk 0 none w → w ≡ 0
  pub mid_inner : {t : ℕ} {f : Bytes} {i : Mid} {w : ℕ} → T (eqb t 0x76 || eqb t 0x77) → MidOk 0 (node t f i none) w → MidOk 0 i w
  pub mid_field : {t : ℕ} {f : Bytes} {i r : Mid} {w : ℕ} → MidOk 0 (node t f i r) w → Split None (MidOk 0 (node t f i none)) (MidOk 0 r) w
  pub mid_tag : {q : Raw} {r : Mid} {w : ℕ} → MidOk 0 (raw q r) w → Split None (MidOk 0 (raw q none)) (MidOk 0 r) w
  -- passes and visits
  pub pass_pure : {m : Mid} {w : ℕ} → MidOk 0 m w → PassOk (pure m) w
  pub pass_both : {p q : Pass Mid} {a b w : ℕ} → a + b ≡ w → PassOk p a → PassOk q b → PassOk (both ◌+++◌ p q) w
  pub pass_map : {p : Pass Mid} {v w : ℕ} (f : Mid → Mid) (a : ℕ) → ((m : Mid) (k b c : ℕ) → a + b ≡ c → MidOk k m b → MidOk k (f m) c) → a + v ≡ w → PassOk p v → PassOk (map f p) w
  pub pass_raise : {p : Pass Mid} {w : ℕ} (b : Bool) → PassOk p w → PassOk (raise (long_if b) p) w
  pub pass_template : (ps : List Part) {v w : ℕ} → T (not (marks ps).left) → marked own ps + v ≡ w → PassOk (dynamic_exprs ps) v → PassOk (gen_template ps) w
  pub visit_done : {p : Pass Mid} {w : ℕ} → PassOk p w → ((n : ℕ) → Alone (p n).value) → VisitOk (visit_after p) w
  pub visit_left : VisitOk leave 0
  pub visit_null : VisitOk (pure (field 0x73 [] end end)) 0

module _ (C : Counting) where
  open C use {literal, other, own, MidOk, PassOk, VisitOk, mid_none, mid_node, mid_literal, mid_other, mid_raw, mid_append, mid_nothing, mid_inner, mid_field, mid_tag, pass_pure, pass_both, pass_map, pass_raise, pass_template, visit_done, visit_left, visit_null}

  -- with nothing to spare, a weight is another's
  exactly : (P : ℕ → Type 0) {a b w : ℕ} → a + b ≡ w → a ≡ 0 → P b → P w
  exactly P {a} {b} {w} e z x = subst P (let k : b ≡ w = omega (arith, e, z) in k) x

  -- parts: only the passes of their gaps and the flags of their marks matter
  unfoldable PartsOk : List Part → ℕ → Type 0
  PartsOk [] w = w ≡ 0
  PartsOk (chars b ∷ ps) w = PartsOk ps w
  PartsOk (gap p ∷ ps) w = Split None (PassOk p) (PartsOk ps) w
  PartsOk (mark f ∷ ps) w = T (not f.left) × Split None (λ v. v ≡ own f) (PartsOk ps) w

  gap_parts : {p : Pass Mid} (ps : List Part) (a b w : ℕ) → a + b ≡ w → PassOk p a → PartsOk ps b → PartsOk (gap p ∷ ps) w
  unfolding PartsOk
  gap_parts ps a b w e x y = record { first = a; second = b; spared = 0; sum = omega (arith, e); spare = refl; one = x; rest = y }

  parts_append : (ps qs : List Part) (a b w : ℕ) → a + b ≡ w → PartsOk ps a → PartsOk qs b → PartsOk (ps ++ qs) w
  unfolding PartsOk
  parts_append [] qs a b w e g h = exactly (PartsOk qs) e g h
  parts_append (chars c ∷ ps) qs a b w e g h = parts_append ps qs a b w e g h
  parts_append (gap p ∷ ps) qs a b w e g h = record { first = g.first; second = g.second + b; spared = g.spared; sum = omega (arith, g.sum, e); spare = g.spare; one = g.one; rest = parts_append ps qs g.second b _ refl g.rest h }
  parts_append (mark f ∷ ps) qs a b w e g h = (g.0, record { first = g.1.first; second = g.1.second + b; spared = g.1.spared; sum = omega (arith, g.1.sum, e); spare = g.1.spare; one = g.1.one; rest = parts_append ps qs g.1.second b _ refl g.1.rest h })

  -- what the parts weigh is shared between the marks and the dynamic expressions
  record Shared (ps : List Part) (w : ℕ) : Type 0 where
    rest : ℕ
    sum : marked own ps + rest ≡ w
    exprs : PassOk (dynamic_exprs ps) rest
    none_left : T (not (marks ps).left)

  shared : (ps : List Part) (w : ℕ) → PartsOk ps w → Shared ps w
  unfolding PartsOk dynamic_exprs marked marks
  shared [] w g = record { rest = 0; sum = sym g; exprs = pass_pure mid_none; none_left = tt }
  shared (chars b ∷ ps) w g = let r = shared ps w g in record { rest = r.rest; sum = r.sum; exprs = r.exprs; none_left = r.none_left }
  shared (gap p ∷ ps) w g =
      let r = shared ps g.second g.rest in
      record { rest = g.first + r.rest; sum = omega (arith, g.sum, g.spare, r.sum); exprs = pass_both refl g.one r.exprs; none_left = r.none_left }
  shared (mark f ∷ ps) w g =
      let r = shared ps g.1.second g.1.rest in
      record { rest = r.rest; sum = omega (arith, g.1.sum, g.1.spare, g.1.one, r.sum); exprs = r.exprs; none_left = not_either f.left (marks ps).left g.0 r.none_left }

  -- an element's parts behind its mark
  mark_parts : (n : Bytes) (as' : List Attribute) (ps : List Part) (v w : ℕ) → own (tag_flags n as') + v ≡ w → PartsOk ps v → PartsOk (mark (tag_flags n as') ∷ ps) w
  unfolding PartsOk
  mark_parts n as' ps v w e x = (unfold tag_flags in tt, record { first = own (tag_flags n as'); second = v; spared = 0; sum = omega (arith, e); spare = refl; one = refl; rest = x })

  invariant : Invariant
  unfolding PartsOk
  invariant =
      record {
        literal = literal;
        other = other;
        own = own;
        tag = 0;
        Spare = None;
        Left = Unit {0};
        NameOk = λ n. Unit {0};
        MidOk = MidOk;
        PassOk = PassOk;
        Content = PartsOk;
        Opening = PartsOk;
        VisitOk = VisitOk;
        spare_sum = λ e x y. omega (arith, e, x, y);
        spare_none = refl;
        spare_tag = refl;
        mid_spare = λ {m} {k} e s x. exactly (MidOk k m) e s x;
        pass_spare = λ {p} e s x. exactly (PassOk p) e s x;
        content_spare = λ {ps} e s x. exactly (PartsOk ps) e s x;
        visit_spare = λ {p} e s x. exactly (VisitOk p) e s x;
        mid_none = mid_none;
        mid_node = λ t f h g d e x y. mid_node t f (or_no (eqb t 0x30 || eqb t 0x31) (eqb t 0x90 || (eqb t 0x74 || eqb t 0x79)) h).1 d e x y;
        mid_literal = mid_literal;
        mid_other = mid_other;
        mid_raw = mid_raw;
        mid_append = mid_append;
        mid_nothing = mid_nothing;
        mid_inner = mid_inner;
        mid_field = mid_field;
        mid_tag = mid_tag;
        pass_pure = pass_pure;
        pass_both = pass_both;
        pass_map = pass_map;
        pass_raise = pass_raise;
        pass_template = λ ps {v} {w} e x. let s = shared ps v x in pass_template ps s.none_left (omega (arith, s.sum, e)) s.exprs;
        content_none = refl;
        content_text = λ t h x. x;
        content_gap = λ {p} {ps} {a} {b} {w} e x k y. gap_parts ps a b w e x y;
        content_append = λ {ps} {qs} {a} {b} {w} e x y. parts_append ps qs a b w e x y;
        content_void = λ {ps} {v} {w} n as' ok e d x. mark_parts n as' (ps ++ (chars (62 ∷ []) ∷ [])) v w d (parts_append ps (chars (62 ∷ []) ∷ []) v 0 v (omega arith) x refl);
        content_element = λ {ps} {qs} {a} {b} {w} n as' ok e d x y. let behind : List Part = chars (62 ∷ []) ∷ (qs ++ (chars (60 ∷ 47 ∷ (n ++ (62 ∷ []))) ∷ [])) in mark_parts n as' (ps ++ behind) (a + b) w d (parts_append ps behind a b (a + b) refl x (parts_append qs (chars (60 ∷ 47 ∷ (n ++ (62 ∷ []))) ∷ []) b 0 b (omega arith) y refl));
        opening_none = λ s. s;
        opening_text = λ b s h. s;
        opening_gap = λ {p} {w} x k. gap_parts [] w 0 w (omega arith) x refl;
        opening_append = λ {ps} {qs} {a} {b} {c} {w} e s x y. parts_append ps qs a b w (omega (arith, e, s)) x y;
        visit_done = λ {p} x a. visit_done x λ n. field_alone (p n).value (a n);
        visit_any = λ l x a. visit_done x a;
        visit_left = λ l. visit_left;
        visit_null = visit_null;
      }

  pub every_page : (o : Options) (p : Page) → MidOk 0 (module_items o p) (in_page literal other own o p)
  unfolding invariant
  every_page o p = page_ok invariant refl (λ w e. e) tt (λ n. tt) o p
