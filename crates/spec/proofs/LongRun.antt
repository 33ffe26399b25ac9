-- A run of the last merge needs no flag: where it is over 65,535 bytes, so is a body of an output, in which it stands whole. In a template that
-- is a static string, wherever the run stands among the template's parts; in a call it is a 70.
-- Main statements: `run_in_template`, `run_in_call`. Assumes nothing.
use Prim.Native.Nat.{ℕ, ◌+◌}
use native.Mathlib.Omega.{arith}
use mathlib.Core.Path.{◌≡◌, refl, sym, ap, subst}
use mathlib.Core.Bool.{Bool, false, ◌||◌}
use mathlib.Core.List.{List, [], ◌∷◌, ◌++◌, append-nil}
use lib.Dec.{T, ltb, ltb→lt, lt→ltb}
use lib.ListN.{length, length-append}
use Rattle.page.proofs.Booleans.{or_left, or_right}
use Rattle.field.specs.Bytes.{Bytes}
use Rattle.field.specs.Row.{Row, end, loose, field, bytes, long_body}
use Rattle.spec.specs.Pass.{Template, pure, both, Mid, none, node, raw, ◌+++◌, ◌⧺◌, Part, chars, gap, mark, over}
use Rattle.spec.specs.Output.{string_node, strings_after, dynamic_exprs, strings_row, template_row, record_row, record_front, layout_84, gen_template}
use Rattle.spec.specs.Merge.{Child, text, empty, container, element, fragment, spread, long_run}
use Rattle.spec.specs.Children.{merged_parts, serialize_jsx, spliced, entries, entry_pass, entries_pass}
use Rattle.spec.specs.Merge as M
use Rattle.spec.specs.Words.{places}
use Rattle.spec.specs.Visit.{visit_exprs}
use Rattle.spec.specs.Transform.{templates_row}
use Rattle.spec.proofs.Ledger.{or_either}

-- ---- in a template

-- some string is over
unfoldable some_over : List Bytes → Bool
some_over [] = false
some_over (s ∷ ss) = over s || some_over ss

longer : (a b : Bytes) → T (over a) → T (over (a ++ b))
longer a b h = lt→ltb 65535 (length (a ++ b)) (omega (arith, ltb→lt 65535 (length a) h, length-append a b))

behind : (a b : Bytes) → T (over b) → T (over (a ++ b))
behind a b h = lt→ltb 65535 (length (a ++ b)) (omega (arith, ltb→lt 65535 (length b) h, length-append a b))

-- the open string only grows
open_over : (ps : List Part) (last : Bytes) → T (over last) → T (some_over (strings_after last ps))
unfolding strings_after some_over
open_over [] last h = or_left (over last) false h
open_over (chars b ∷ ps) last h = open_over ps (last ++ b) (longer last b h)
open_over (gap p ∷ ps) last h = or_left (over last) (some_over (strings_after [] ps)) h
open_over (mark f ∷ ps) last h = open_over ps last h

-- and what stands behind other parts is not looked at differently
past : (ps qs : List Part) → ((last : Bytes) → T (some_over (strings_after last qs))) → (last : Bytes) → T (some_over (strings_after last (ps ++ qs)))
unfolding strings_after some_over
past [] qs h last = h last
past (chars b ∷ ps) qs h last = past ps qs h (last ++ b)
past (gap p ∷ ps) qs h last = or_right (over last) (some_over (strings_after [] (ps ++ qs))) (past ps qs h [])
past (mark f ∷ ps) qs h last = past ps qs h last

append_parts : (ps qs rs : List Part) → (ps ++ qs) ++ rs ≡ ps ++ (qs ++ rs)
append_parts [] qs rs = refl
append_parts (p ∷ ps) qs rs = ap (λ (xs : List Part). p ∷ xs) (append_parts ps qs rs)

run_over : (ms : List Child) (qs : List Part) → T (long_run ms) → (last : Bytes) → T (some_over (strings_after last (merged_parts ms ++ qs)))
unfolding long_run merged_parts strings_after some_over
run_over [] qs h last = absurd h
run_over (text t ∷ cs) qs h last = or_either (over t) (long_run cs) (λ g. open_over (merged_parts cs ++ qs) (last ++ t) (behind last t g)) (λ g. run_over cs qs g (last ++ t)) h
run_over (empty ∷ cs) qs h last = run_over cs qs h last
run_over (container s m ∷ cs) qs h last = or_right (over last) _ (run_over cs qs h [])
run_over (element e ∷ cs) qs h last = subst (λ (ps : List Part). T (some_over (strings_after last ps))) (sym (append_parts e.to_string_vec (merged_parts cs) qs)) (past e.to_string_vec (merged_parts cs ++ qs) (run_over cs qs h) last)
run_over (fragment f ∷ cs) qs h last = subst (λ (ps : List Part). T (some_over (strings_after last ps))) (sym (append_parts f.to_string (merged_parts cs) qs)) (past f.to_string (merged_parts cs ++ qs) (run_over cs qs h) last)
run_over (spread m ∷ cs) qs h last = run_over cs qs h last

-- a field whose own bytes are over
own_long : (t : ℕ) (f : Bytes) (r : Row) → T (over f) → T (long_body (field t f end r))
unfolding long_body bytes
own_long t f r h = or_left (ltb 65535 (length (f ++ []))) _ (subst (λ (b : Bytes). T (over b)) (sym (append-nil f)) h)

inner_long : (t : ℕ) (f : Bytes) (i r : Row) → T (long_body i) → T (long_body (field t f i r))
unfolding long_body
inner_long t f i r h = or_right (ltb 65535 (length (f ++ bytes i))) (long_body i || long_body r) (or_left (long_body i) (long_body r) h)

rest_long : (t : ℕ) (f : Bytes) (i r : Row) → T (long_body r) → T (long_body (field t f i r))
unfolding long_body
rest_long t f i r h = or_right (ltb 65535 (length (f ++ bytes i))) (long_body i || long_body r) (or_right (long_body i) (long_body r) h)

strings_long : (ss : List Bytes) → T (some_over ss) → T (long_body (strings_row ss))
unfolding some_over strings_row
strings_long [] h = absurd h
strings_long (s ∷ ss) h = or_either (over s) (some_over ss) (own_long 0x81 s (strings_row ss)) (λ g. rest_long 0x81 s end (strings_row ss) (strings_long ss g)) h

last_long : (ts : List Template) (t : Template) → T (some_over t.strings) → T (long_body (templates_row (ts ++ (t ∷ []))))
unfolding templates_row template_row record_row
last_long [] t h = inner_long 0x84 (record_front layout_84 t.number (places t.strings)) (strings_row t.strings) end (strings_long t.strings h)
last_long (u ∷ ts) t h = rest_long 0x84 (record_front layout_84 u.number (places u.strings)) (strings_row u.strings) (templates_row (ts ++ (t ∷ []))) (last_long ts t h)

-- merged children anywhere among the parts of a template: a run over 65,535 makes a body of templates out too long
pub run_in_template : (ps : List Part) (ms : List Child) (qs : List Part) → T (long_run ms) → (n : ℕ) → T (long_body (templates_row (gen_template (ps ++ (merged_parts ms ++ qs)) n).templates))
unfolding gen_template
run_in_template ps ms qs h n = last_long (dynamic_exprs (ps ++ (merged_parts ms ++ qs)) (n + 1)).templates _ (past ps (merged_parts ms ++ qs) (run_over ms qs h) [])

-- ---- in a call

append_long : (x y : Row) → T (long_body y) → T (long_body (x ⧺ y))
unfolding ◌⧺◌
append_long end y h = h
append_long (loose b) y h = h
append_long (field t f i r) y h = rest_long t f i (r ⧺ y) (append_long r y h)

-- a row of expressions, whose visit has a long body whatever the next number
pub Long : Mid → Type 0
Long m = (n : ℕ) → T (long_body (visit_exprs m n).value)

long_behind : (x y : Mid) → Long y → Long (x +++ y)
unfolding Long visit_exprs both ◌+++◌
long_behind none y h n = h n
long_behind (node t f i r) y h n = rest_long t f _ _ (long_behind r y h (n + (visit_exprs i n).taken))
long_behind (raw q r) y h n = append_long (q n).value _ (long_behind r y h (n + (q n).taken))

own_run : (t : Bytes) (r : Mid) → T (over t) → Long (node 0x70 t none r)
unfolding Long visit_exprs both pure
own_run t r h n = own_long 0x70 t _ h

entries_append : (xs ys : List M.Entry) → ((n : ℕ) → Long (entries_pass ys n).value) → (n : ℕ) → Long (entries_pass (xs ++ ys) n).value
unfolding entries_pass both
entries_append [] ys h n = h n
entries_append (x ∷ xs) ys h n = long_behind (entry_pass x n).value _ (entries_append xs ys h (n + (entry_pass x n).taken))

-- the elements of merged children in a call: a run over 65,535 makes a body of page out too long
pub run_in_call : (ms : List Child) → T (long_run ms) → (n : ℕ) → Long (entries_pass (entries ms) n).value
unfolding long_run entries entries_pass entry_pass both pure ◌+++◌
run_in_call [] h n = absurd h
run_in_call (text t ∷ cs) h n = or_either (over t) (long_run cs) (λ g. own_run t _ g) (λ g. long_behind (string_node t) _ (run_in_call cs g (n + 0))) h
run_in_call (empty ∷ cs) h n = run_in_call cs h n
run_in_call (container s m ∷ cs) h n = long_behind m _ (run_in_call cs h (n + 0))
run_in_call (element e ∷ cs) h n = long_behind (serialize_jsx e n).value _ (run_in_call cs h (n + (serialize_jsx e n).taken))
run_in_call (fragment f ∷ cs) h n = entries_append (spliced f.to_expr) (entries cs) (run_in_call cs h) n
run_in_call (spread m ∷ cs) h n = run_in_call cs h n
