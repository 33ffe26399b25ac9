-- What the steps of the check of a page out promise each other. Nothing here needs belief. Assumes nothing: these are definitions.
use Rattle.std.specs.Prelude.{ℕ, ◌-◌, ◌≤◌, ◌≡◌, eqb, length, take, drop, Option, Some, None, Result, Ok, Err}
use Rattle.field.specs.Bytes.{Bytes, pick}
use Rattle.field.specs.Row.{Inside, only_bytes, fields_after}
use Rattle.refusal.specs.Refusal.{after}
use Rattle.refusal.specs.Refusal as W
use Rattle.refusal.specs.declared.Refusal.{Refusal}
use Rattle.outs.specs.Held.{read_out}
use Rattle.outs.specs.PageOut.{among_items, good}
use Rattle.outs.specs.declared.Expect.{Expect}
use Rattle.outs.specs.declared.Expect.TheVariants as E
use Rattle.outs.specs.declared.page_out.Front.{Front}
use Rattle.outs.specs.declared.page_out.Front.TheVariants.{End, Leaf, Open}

-- what an item leaves where the place of the templates has not come: that place, or what the item makes of what is expected
abbrev pub left_unplaced : Expect → ℕ → Expect
left_unplaced place t = pick (eqb t 0x83) place (among_items E.Declarations t)

-- what a body holds, as the code's option has it
abbrev pub Holding : Inside → Option ℕ → Type 0
Holding k None = k ≡ only_bytes
Holding k (Some n) = k ≡ fields_after n

-- a field behind which, where n is expected, the rest is as good as the whole
pub record LeafIs (width : ℕ) (c : Expect) (b : Bytes) (e : ℕ) (n : Expect) : Type 0 where
  pub header : 3 ≤ e
  pub ends : e ≤ length b
  pub is : good width c (read_out width b) ≡ good width n (read_out width (drop e b))

-- a field whose fields go from k up to e
pub record OpenIs (width : ℕ) (c : Expect) (b : Bytes) (k e : ℕ) (i n : Expect) : Type 0 where
  pub header : 3 ≤ k
  pub starts : k ≤ e
  pub ends : e ≤ length b
  pub short : e ≤ 65538
  pub is : good width c (read_out width b) ≡ after (good width i (read_out width (take (e - k) (drop k b)))) λ _. good width n (read_out width (drop e b))

abbrev pub Stepped : ℕ → Expect → Bytes → Result Front Refusal → Type 0
Stepped width c b (Err n) = good width c (read_out width b) ≡ W.Refused n
Stepped width c b (Ok End) = (length b ≡ 0) × (good width c (read_out width b) ≡ W.Fine)
Stepped width c b (Ok (Leaf e n)) = LeafIs width c b e n
Stepped width c b (Ok (Open k e i n)) = OpenIs width c b k e i n
