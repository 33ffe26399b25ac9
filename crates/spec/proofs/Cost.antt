-- How many bytes a pass may write, in templates out and in page out together, and how many numbers it may take besides. A predicate for
-- each thing that 000's functions handle, with a budget: a field costs its header and its front, a tag still to be visited what its visit
-- writes and takes, a template its record and its number. Closed under what passes are made of. Main statements: `template_costs`, `visit_costs`, `after_costs`.
--
-- `EveryPass` has weights too, but texts, names and fields weigh nothing there. Here each byte is paid for, and budgets fall at each field
-- and grow at each merge. So it is a walk of its own, over sizes alone.
-- Assumes nothing.
use Prim.Native.Nat.{ℕ, suc, ◌+◌, ◌≤◌}
use native.Mathlib.Omega.{arith}
use mathlib.Core.Path.{◌≡◌, refl, ap}
use mathlib.Core.List.{List, [], ◌∷◌, ◌++◌}
use lib.ListN.{length, length-append}
use Rattle.field.specs.Bytes.{Bytes}
use Rattle.field.specs.Row.{Row, end, loose, field, bytes}
use Rattle.field.proofs.NumberLaws.{length_big_endian}
use Rattle.field.proofs.RowLaws.{length_bytes}
use Rattle.spec.specs.declared.Flags.{Flags}
use Rattle.spec.specs.Pass.{Template, Done, Pass, pure, map, bind, both, raise, Raw, Mid, none, node, raw, ◌+++◌, ◌⧺◌, Part, chars, gap, mark}
use Rattle.spec.specs.Output.{strings_after, dynamic_exprs, kinds_of, strings_row, template_row, record_row, record_front, layout_84, gen_template}
use Rattle.spec.specs.Words.{places, places_after}
use Rattle.spec.specs.Visit.{visit_exprs, visit_inside, visit_after, leave}
use Rattle.spec.specs.Transform.{templates_row}
use Rattle.spec.proofs.Records.{front_length}

-- ---- what is counted

-- the bytes of templates in templates out
unfoldable pub templates_size : List Template → ℕ
templates_size ts = length (bytes (templates_row ts))

-- both outputs of a visit, and the numbers that it took
unfoldable pub written_size : Done Row → ℕ
written_size d = templates_size d.templates + length (bytes d.value) + d.taken

-- ---- budgets

-- the visit of a tag; one that is left costs the three bytes of its field
pub record RawCosts (w : ℕ) (q : Raw) : Type 0 where
  pub left_costs : 3 ≤ w
  pub visits_cost : (n : ℕ) → written_size (q n) ≤ w

-- expressions between the passes
pub data Costs : Mid → ℕ → Type 0 where
  none_costs : {w : ℕ} → Costs none w
  node_costs : {t : ℕ} {f : Bytes} {i r : Mid} {w : ℕ} (a b : ℕ) → 3 + length f + a + b ≤ w → Costs i a → Costs r b → Costs (node t f i r) w
  raw_costs : {q : Raw} {r : Mid} {w : ℕ} (a b : ℕ) → a + b ≤ w → RawCosts a q → Costs r b → Costs (raw q r) w

-- a first pass: its templates, its numbers, and what the visits of its value may write
pub record DoneCosts (w : ℕ) (d : Done Mid) : Type 0 where
  pub left_over : ℕ
  pub bound : templates_size d.templates + d.taken + left_over ≤ w
  pub value_costs : Costs d.value left_over

abbrev pub PassCosts : ℕ → Pass Mid → Type 0
PassCosts w p = (n : ℕ) → DoneCosts w (p n)

-- parts of a template: a gap costs its kind and the header of the string behind it
pub data PartsCosts : List Part → ℕ → Type 0 where
  no_parts : {w : ℕ} → PartsCosts [] w
  chars_cost : {b : Bytes} {ps : List Part} {w : ℕ} (c : ℕ) → length b + c ≤ w → PartsCosts ps c → PartsCosts (chars b ∷ ps) w
  gap_costs : {p : Pass Mid} {ps : List Part} {w : ℕ} (a b : ℕ) → 4 + a + b ≤ w → PassCosts a p → PartsCosts ps b → PartsCosts (gap p ∷ ps) w
  mark_costs : {f : Flags} {ps : List Part} {w : ℕ} → PartsCosts ps w → PartsCosts (mark f ∷ ps) w

-- ---- expressions

-- the constructors as functions: there the budget is known before its bound is proved
pub costs_node : {t : ℕ} {f : Bytes} {i r : Mid} {w : ℕ} (a b : ℕ) → 3 + length f + a + b ≤ w → Costs i a → Costs r b → Costs (node t f i r) w
costs_node a b h x y = node_costs a b h x y

pub costs_raw : {q : Raw} {r : Mid} {w : ℕ} (a b : ℕ) → a + b ≤ w → RawCosts a q → Costs r b → Costs (raw q r) w
costs_raw a b h x y = raw_costs a b h x y

pub raw_weaken : {q : Raw} {v w : ℕ} → v ≤ w → RawCosts v q → RawCosts w q
raw_weaken h x = record { left_costs = omega (arith, x.left_costs); visits_cost = λ n. omega (arith, x.visits_cost n) }

pub costs_weaken : {m : Mid} {v w : ℕ} → v ≤ w → Costs m v → Costs m w
costs_weaken h none_costs = none_costs
costs_weaken h (node_costs a b k x y) = costs_node a b (omega arith) x y
costs_weaken h (raw_costs a b k x y) = costs_raw a b (omega arith) x y

-- a field that holds no field, one behind which nothing stands besides, and one with fields alone
pub costs_leaf : {t : ℕ} {f : Bytes} {r : Mid} {w : ℕ} (b : ℕ) → 3 + length f + b ≤ w → Costs r b → Costs (node t f none r) w
costs_leaf b h y = costs_node 0 b (omega arith) none_costs y

pub costs_alone : {t : ℕ} {f : Bytes} {w : ℕ} → 3 + length f ≤ w → Costs (node t f none none) w
costs_alone h = costs_leaf 0 (omega arith) none_costs

pub costs_nest : {t : ℕ} {i : Mid} {w : ℕ} (a : ℕ) → 3 + a ≤ w → Costs i a → Costs (node t [] i none) w
costs_nest a h x = costs_node a 0 (omega arith) x none_costs

pub costs_append : {x y : Mid} {a b w : ℕ} → a + b ≤ w → Costs x a → Costs y b → Costs (x +++ y) w
unfolding ◌+++◌
costs_append h none_costs d = costs_weaken (omega arith) d
costs_append {b = b} h (node_costs u v k x r) d = costs_node u (v + b) (omega arith) x (costs_append (omega arith) r d)
costs_append {b = b} h (raw_costs u v k x r) d = costs_raw u (v + b) (omega arith) x (costs_append (omega arith) r d)

-- ---- templates

pub templates_append : (ts us : List Template) → templates_size (ts ++ us) ≡ templates_size ts + templates_size us
unfolding templates_size templates_row template_row record_row bytes
templates_append [] us = omega arith
templates_append (t ∷ ts) us =
    let f = record_front layout_84 t.number (places t.strings) in
    let i = strings_row t.strings in
    omega (arith, templates_append ts us, length_bytes 0x84 f i (templates_row (ts ++ us)), length_bytes 0x84 f i (templates_row ts))

no_templates : templates_size [] ≡ 0
unfolding templates_size templates_row bytes
no_templates = refl

one_template : (t : Template) → templates_size (t ∷ []) ≡ 9 + length (places t.strings) + length (bytes (strings_row t.strings))
unfolding templates_size templates_row template_row record_row bytes
one_template t =
    let ks = places t.strings in
    omega (arith, length_bytes 0x84 (record_front layout_84 t.number ks) (strings_row t.strings) end, front_length t.number ks)

-- ---- first passes

pub pass_weaken : {p : Pass Mid} {v w : ℕ} → v ≤ w → PassCosts v p → PassCosts w p
pass_weaken h g n = let d = g n in record { left_over = d.left_over; bound = omega arith; value_costs = d.value_costs }

pub pure_costs : {m : Mid} {w : ℕ} → Costs m w → PassCosts w (pure m)
unfolding pure
pure_costs {w = w} c n = record { left_over = w; bound = omega (arith, no_templates); value_costs = c }

pub both_costs : {p q : Pass Mid} {a b : ℕ} → PassCosts a p → PassCosts b q → PassCosts (a + b) (both ◌+++◌ p q)
unfolding both
both_costs {p} {q} g h n =
    let d = p n in
    let e = q (n + d.taken) in
    let x = g n in
    let y = h (n + d.taken) in
    record {
      left_over = x.left_over + y.left_over;
      bound = omega (arith, templates_append d.templates e.templates);
      value_costs = costs_append (omega arith) x.value_costs y.value_costs;
    }

pub raise_costs : {p : Pass Mid} {w : ℕ} (f : Flags) → PassCosts w p → PassCosts w (raise f p)
unfolding raise
raise_costs f g n = let d = g n in record { left_over = d.left_over; bound = d.bound; value_costs = d.value_costs }

-- what a value is wrapped in costs c more
pub map_costs : {p : Pass Mid} {a : ℕ} (f : Mid → Mid) (c : ℕ) → ((m : Mid) (w : ℕ) → Costs m w → Costs (f m) (c + w)) → PassCosts a p → PassCosts (c + a) (map f p)
unfolding map
map_costs {p} f c k g n = let d = g n in record { left_over = c + d.left_over; bound = omega arith; value_costs = k (p n).value d.left_over d.value_costs }

-- ---- parts and templates

pub parts_chars : {b : Bytes} {ps : List Part} {w : ℕ} (c : ℕ) → length b + c ≤ w → PartsCosts ps c → PartsCosts (chars b ∷ ps) w
parts_chars c h x = chars_cost c h x

pub parts_gap : {p : Pass Mid} {ps : List Part} {w : ℕ} (a b : ℕ) → 4 + a + b ≤ w → PassCosts a p → PartsCosts ps b → PartsCosts (gap p ∷ ps) w
parts_gap a b h x y = gap_costs a b h x y

pub parts_mark : {f : Flags} {ps : List Part} {w : ℕ} → PartsCosts ps w → PartsCosts (mark f ∷ ps) w
parts_mark x = mark_costs x

pub parts_weaken : {ps : List Part} {v w : ℕ} → v ≤ w → PartsCosts ps v → PartsCosts ps w
parts_weaken h no_parts = no_parts
parts_weaken h (chars_cost c k x) = parts_chars c (omega arith) x
parts_weaken h (gap_costs a b k x y) = parts_gap a b (omega arith) x y
parts_weaken h (mark_costs x) = mark_costs (parts_weaken h x)

pub parts_append : {ps qs : List Part} {a b w : ℕ} → a + b ≤ w → PartsCosts ps a → PartsCosts qs b → PartsCosts (ps ++ qs) w
parts_append h no_parts y = parts_weaken (omega arith) y
parts_append {b = b} h (chars_cost c k x) y = parts_chars (c + b) (omega arith) (parts_append (omega arith) x y)
parts_append {b = b} h (gap_costs u v k p x) y = parts_gap u (v + b) (omega arith) p (parts_append (omega arith) x y)
parts_append h (mark_costs x) y = mark_costs (parts_append h x y)

-- one gap less than strings
gaps_fewer : (joined s : Bytes) (ss : List Bytes) → length (places_after joined (s ∷ ss)) ≡ length ss
unfolding places_after
gaps_fewer joined s [] = refl
gaps_fewer joined s (t ∷ ss) = ap suc (gaps_fewer (joined ++ s) t ss)

gaps_in : (ss : List Bytes) → 1 ≤ length ss → suc (length (places ss)) ≡ length ss
gaps_in [] h = absurd (omega arith)
gaps_in (s ∷ ss) h = ap suc (gaps_fewer [] s ss)

some_string : (ps : List Part) (last : Bytes) → 1 ≤ length (strings_after last ps)
unfolding strings_after
some_string [] last = omega arith
some_string (chars b ∷ ps) last = some_string ps (last ++ b)
some_string (gap p ∷ ps) last = omega arith
some_string (mark f ∷ ps) last = some_string ps last

-- what the dynamic expressions cost, and the static strings with a byte for each
record PartsGive (ps : List Part) (w : ℕ) : Type 0 where
  exprs : ℕ
  texts : ℕ
  within : exprs + texts ≤ w
  dynamic : PassCosts exprs (dynamic_exprs ps)
  static : (last : Bytes) → length (bytes (strings_row (strings_after last ps))) + length (strings_after last ps) ≤ 4 + length last + texts

parts_give : {ps : List Part} {w : ℕ} → PartsCosts ps w → PartsGive ps w
unfolding dynamic_exprs strings_after strings_row bytes
parts_give no_parts = record { exprs = 0; texts = 0; within = omega arith; dynamic = pure_costs none_costs; static = λ last. omega (arith, length_bytes 0x81 last end end) }
parts_give (chars_cost {b = b} c k x) =
    let r = parts_give x in
    record { exprs = r.exprs; texts = length b + r.texts; within = omega arith; dynamic = r.dynamic; static = λ last. omega (arith, r.static (last ++ b), length-append last b) }
parts_give (gap_costs {ps = ps} u v k p x) =
    let r = parts_give x in
    record {
      exprs = u + r.exprs;
      texts = 4 + r.texts;
      within = omega arith;
      dynamic = both_costs p r.dynamic;
      static = λ last. omega (arith, r.static [], length_bytes 0x81 last end (strings_row (strings_after [] ps)));
    }
parts_give (mark_costs x) = let r = parts_give x in record { exprs = r.exprs; texts = r.texts; within = r.within; dynamic = r.dynamic; static = r.static }

-- the record has a header, a number, a count and one string more than gaps; the call a header and a number; and one number is taken
pub template_costs : {ps : List Part} {w : ℕ} → PartsCosts ps w → PassCosts (20 + w) (gen_template ps)
unfolding gen_template
template_costs {ps} {w} g n =
    let all = parts_give g in
    let r = dynamic_exprs ps (n + 1) in
    let d = all.dynamic (n + 1) in
    let t : Template = record { number = n; strings = strings_after [] ps; kinds = kinds_of r.value } in
    record {
      left_over = 7 + d.left_over;
      bound = omega (arith, templates_append r.templates (t ∷ []), one_template t, all.static [], gaps_in t.strings (some_string ps []));
      value_costs = costs_node d.left_over 0 (omega (arith, length_big_endian 4 n [])) d.value_costs none_costs;
    }

-- ---- visits

row_append : (x y : Row) → length (bytes (x ⧺ y)) ≤ length (bytes x) + length (bytes y)
unfolding ◌⧺◌ bytes
row_append end y = omega arith
row_append (loose b) y = omega arith
row_append (field t f i r) y = omega (arith, row_append r y, length_bytes t f i (r ⧺ y), length_bytes t f i r)

pub visit_costs : {m : Mid} {w : ℕ} → Costs m w → (n : ℕ) → written_size (visit_exprs m n) ≤ w
unfolding visit_exprs both pure written_size bytes
visit_costs none_costs n = omega (arith, no_templates)
visit_costs (node_costs {t = t} {f = f} {i = i} {r = r} a b k x y) n =
    let d = visit_exprs i n in
    let e = visit_exprs r (n + d.taken) in
    omega (arith, visit_costs x n, visit_costs y (n + d.taken), templates_append d.templates e.templates, length_bytes t f d.value e.value)
visit_costs (raw_costs {q = q} {r = r} a b k x y) n =
    let d = q n in
    let e = visit_exprs r (n + d.taken) in
    omega (arith, x.visits_cost n, visit_costs y (n + d.taken), templates_append d.templates e.templates, row_append d.value e.value)

pub leave_costs : {w : ℕ} → 3 ≤ w → (n : ℕ) → written_size (leave n) ≤ w
unfolding leave raise pure written_size bytes
leave_costs h n = omega (arith, no_templates, length_bytes 0x30 [] end end)

pub null_costs : {w : ℕ} (n : ℕ) → 3 ≤ w → written_size (pure (field 0x73 [] end end) n) ≤ w
unfolding pure written_size bytes
null_costs n h = omega (arith, no_templates, length_bytes 0x73 [] end end)

inside_costs : {m : Mid} {w : ℕ} → Costs m w → (n : ℕ) → written_size (visit_inside m n) ≤ w
unfolding visit_inside visit_exprs
inside_costs none_costs n = visit_costs none_costs n
inside_costs (node_costs a b k x y) n = visit_costs (node_costs a b k x y) n
inside_costs (raw_costs {q = q} a b k x y) n = leave_costs (omega (arith, x.left_costs)) n

-- the second pass right after the first
pub after_costs : {p : Pass Mid} {w : ℕ} → PassCosts w p → (n : ℕ) → written_size (visit_after p n) ≤ w
unfolding visit_after bind written_size
after_costs {p} g n =
    let d = p n in
    let x = g n in
    let e = visit_inside d.value (n + d.taken) in
    omega (arith, inside_costs x.value_costs (n + d.taken), templates_append d.templates e.templates)
