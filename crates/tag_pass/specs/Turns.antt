-- What each function of the pass promises: whatever the grammar's reader is in, if the pass stands there then it stands at the next turn.
-- Assumes nothing: these are definitions.
use Rattle.std.specs.Prelude.{ℕ, suc, ◌+◌, ◌-◌, ◌*◌, ◌%◌, ◌≤◌, ◌<◌, ◌≡◌, Bool, true, ◌&&◌, List, [], ◌∷◌, Option, Some, None, length, drop, take, get_or}
use Rattle.field.specs.Bytes.{Bytes}
use Rattle.field.specs.Row.{end}
use Rattle.field.specs.Put.{put, head}
use Rattle.page.specs.Encode.{expr_row}
use Rattle.grammar.specs.Known.{known_of}
use Rattle.grammar.specs.Syntax.{Name, same_name, Tag, Attributes, no_attributes, Children, no_children, Expr, every_expr}
use Rattle.grammar.specs.Grammar.{IsName}
use Rattle.grammar.specs.Reader.{Braces, child_braces, in_braces, behind_tag, Frame, Stack, State, for_attribute, for_tag, in_ident, opened, in_tag, slashed, attribute_named, equals, in_string, spread_opened, one_point, braces_opened, in_children, closing, closed, filled, filled_if}
use Rattle.tag_tree.specs.PageTag.{page_expr}
use Rattle.tag_tree.specs.TagAnswer.{shallow, known_in_range}
use Rattle.read_tag.specs.Progress.{begun, expr_bytes, Plain}
use Rattle.read_tag.specs.Flags.{depth_of}
use Rattle.read_tag.specs.Names.{NameAt}
use Rattle.tag_pass.specs.declared.frames.Waiting.{Waiting}
use Rattle.tag_pass.specs.declared.state.Braced.{Braced}
use Rattle.tag_pass.specs.declared.state.Braced.TheVariants as B
use Rattle.tag_pass.specs.declared.state.Holder.{Holder}
use Rattle.tag_pass.specs.declared.state.Holder.TheVariants as H
use Rattle.tag_pass.specs.declared.state.Mode.{Mode}
use Rattle.tag_pass.specs.declared.state.Mode.TheVariants as M
use Rattle.tag_pass.specs.Worlds.{World, more, any_known, any_names, tag_world, children_world, value_world, before_world, braces_at, braces_world, world_of, ended_world}
use Rattle.tag_pass.specs.States.{Named, braces_kind, kind_of, braces_name, frame_name, PlainBraces, PlainFrame, BracesFifty, Fifty, TagName, Stacked, Stands, OpensIn, Next, Going, Passed}
use Rattle.tag_pass.specs.declared.state.Reading.{Reading}

-- ---- the numbers of the pass, some of them changed

abbrev pub at_mode : Reading → Mode → ℕ → Reading
at_mode st m i = record st { mode = m; place = i }

-- something more was written, up to a; whether its number is in range, and whether it is not too deep
abbrev pub at_more : Reading → ℕ → Bool → Bool → Reading
at_more st a y z = record st { at = a; numbers = st.numbers && y; shallow = st.shallow && z }

abbrev pub fresh_reading : Reading
fresh_reading = record { mode = M.InTag; place = 0; at = 0; height = 0; head = 0; name = None; depth = 3; fifty = 0; names = true; numbers = true; shallow = true }

-- an attribute begins there
abbrev pub at_fifty : Reading → ℕ → Reading
at_fifty st f = record st { fifty = f }

-- a tag begins where the pass writes, with that name
abbrev pub at_begin : Reading → ℕ → Option ℕ → Reading
at_begin st h p = record st { head = h; name = p }

-- a tag has ended
abbrev pub at_end_of : Reading → Bool → ℕ → Reading
at_end_of st b i = record st { mode = M.Ended; place = i; names = st.names && b }

-- ---- kinds of braces

-- the tag of their field
unfoldable pub kind_code : Braced → ℕ
kind_code B.Child = 0x52
kind_code B.SpreadChild = 0x61
kind_code B.Spread = 0x53
kind_code B.Value = 0x52

-- how much deeper than the tag their field is
unfoldable pub kind_depth : Braced → ℕ
kind_depth B.Child = 1
kind_depth B.SpreadChild = 1
kind_depth B.Spread = 1
kind_depth B.Value = 2

-- ---- turns

abbrev pub Turn : Bytes → Reading → ℕ → Bytes → Option Reading → Bytes → State → World → Name → Stack → Type 0
Turn s st i out r out' x W n K = (o : Bytes) (h : ℕ) → Stands s o x W n K h st i out → Next s o K h i r out'

-- in a tag, behind its name or an attribute
abbrev pub TagTurn : Bytes → Reading → ℕ → Bytes → Option Reading → Bytes → Type 0
TagTurn s st i out r out' = (n : Name) (ps : Attributes) (K : Stack) → Named n → Turn s st i out r out' (in_tag n ps K) (tag_world (world_of K) (depth_of K) n ps) n K

-- behind the `/` of `/` `>`
abbrev pub SlashedTurn : Bytes → Reading → ℕ → Bytes → Option Reading → Bytes → Type 0
SlashedTurn s st i out r out' = (n : Name) (ps : Attributes) (K : Stack) → Named n → Turn s st i out r out' (slashed n ps K) (tag_world (world_of K) (depth_of K) n ps) n K

-- behind the `{` of a spread
abbrev pub SpreadTurn : Bytes → Reading → ℕ → Bytes → Option Reading → Bytes → Type 0
SpreadTurn s st i out r out' = (n : Name) (ps : Attributes) (K : Stack) → Named n → Turn s st i out r out' (spread_opened n ps K) (tag_world (world_of K) (depth_of K) n ps) n K

-- at the first letter of an attribute's name; behind the name, at i
abbrev pub AttributeTurn : Bytes → Reading → ℕ → Bytes → Option Reading → Bytes → Type 0
AttributeTurn s st i out r out' = (n : Name) (ps : Attributes) (K : Stack) → Named n → (o : Bytes) (h : ℕ) → Stands s o (in_ident [] 0 (get_or s i 0 ∷ []) (for_attribute n ps K)) (tag_world (world_of K) (depth_of K) n ps) n K h st (i + 1) out → Next s o K h i r out'

abbrev pub NoValueTurn : Bytes → Reading → ℕ → Bytes → Option Reading → Bytes → Type 0
NoValueTurn s st e out r out' = (a n : Name) (ps : Attributes) (K : Stack) → Named n → st.fifty ≡ length (begun (world_of K).bytes n ps) → (o : Bytes) (h i : ℕ) → i < e → Stands s o (attribute_named a n ps K) (value_world (world_of K) (depth_of K) a n ps) n K h st e out → Next s o K h i r out'

-- in a string, behind its quote
abbrev pub StringTurn : Bytes → Reading → ℕ → ℕ → Bytes → Option Reading → Bytes → Type 0
StringTurn s st i q out r out' = (a n : Name) (ps : Attributes) (K : Stack) → Named n → st.fifty ≡ length (begun (world_of K).bytes n ps) → Turn s st i out r out' (in_string q [] a n ps K) (value_world (world_of K) (depth_of K) a n ps) n K

-- behind `=`
abbrev pub ValueTurn : Bytes → Reading → ℕ → Bytes → Option Reading → Bytes → Type 0
ValueTurn s st i out r out' = (a n : Name) (ps : Attributes) (K : Stack) → Named n → st.fifty ≡ length (begun (world_of K).bytes n ps) → Turn s st i out r out' (equals a n ps K) (value_world (world_of K) (depth_of K) a n ps) n K

-- in braces, behind `{` or three points; behind the first point
abbrev pub BracesTurn : Bytes → Reading → Braced → ℕ → Bytes → Option Reading → Bytes → Type 0
BracesTurn s st k i out r out' = (g : Braces) (K : Stack) → k ≡ braces_kind g → PlainBraces g → BracesFifty (world_of K).bytes g st.fifty → Turn s st i out r out' (braces_opened g K) (before_world (world_of K) (depth_of K) g) (braces_name g) K

abbrev pub PointTurn : Bytes → Reading → Braced → ℕ → Bytes → Option Reading → Bytes → Type 0
PointTurn s st k i out r out' = (g : Braces) (K : Stack) → k ≡ braces_kind g → PlainBraces g → BracesFifty (world_of K).bytes g st.fifty → Turn s st i out r out' (one_point g K) (before_world (world_of K) (depth_of K) g) (braces_name g) K

-- braces hold what stands from j to e
abbrev pub KnownTurn : Bytes → Reading → Braced → ℕ → ℕ → Bytes → Option Reading → Bytes → Type 0
KnownTurn s st k j e out r out' = (g : Braces) (K : Stack) → k ≡ braces_kind g → PlainBraces g → BracesFifty (world_of K).bytes g st.fifty → (o : Bytes) (h : ℕ) → Stands s o (filled_if (known_of (take (e - j) (drop j s))) g K) (before_world (world_of K) (depth_of K) g) (braces_name g) K h st (e + 1) out → Next s o K h j r out'

-- an expression was written in braces whose head stands at b, and the reader is behind them at i
abbrev pub FilledTurn : Reading → Braced → ℕ → ℕ → Bytes → Option Reading → Bytes → Type 0
FilledTurn st k b i out r out' = (s o : Bytes) (e : Expr) (g : Braces) (K : Stack) (h j : ℕ) → j < i → k ≡ braces_kind g → b ≡ length (before_world (world_of K) (depth_of K) g).bytes → PlainBraces g → BracesFifty (world_of K).bytes g st.fifty → Stands s o (filled e g K) (more (braces_world (world_of K) (depth_of K) g) (expr_bytes e) (every_expr e same_name any_known) (every_expr e any_names known_in_range) (shallow (suc (braces_at g (depth_of K))) (expr_row (page_expr e) end))) (braces_name g) K h st i out → Next s o K h j r out'

-- among children
abbrev pub ChildrenTurn : Bytes → Reading → ℕ → Bytes → Option Reading → Bytes → Type 0
ChildrenTurn s st i out r out' = (n : Name) (ps : Attributes) (ks : Children) (K : Stack) → Plain n ps → Turn s st i out r out' (in_children n ps ks K) (children_world (world_of K) (depth_of K) n ps ks) n K

-- behind the `{` of a child
abbrev pub ChildBracesTurn : Bytes → Reading → ℕ → Bytes → Option Reading → Bytes → Type 0
ChildBracesTurn s st i out r out' = (n : Name) (ps : Attributes) (ks : Children) (K : Stack) → Plain n ps → Turn s st i out r out' (braces_opened (child_braces n ps ks) K) (children_world (world_of K) (depth_of K) n ps ks) n K

-- behind `<` and `/`
abbrev pub ClosingTurn : Bytes → Reading → ℕ → Bytes → Option Reading → Bytes → Type 0
ClosingTurn s st i out r out' = (n : Name) (ps : Attributes) (ks : Children) (K : Stack) → Plain n ps → Turn s st i out r out' (closing n ps ks K) (children_world (world_of K) (depth_of K) n ps ks) n K

-- ---- tags

-- the reader is behind the `<` of a tag in K, and the first letter of its name, at i; behind the `>` of a fragment
abbrev pub NamedTurn : Bytes → Reading → ℕ → Bytes → Option Reading → Bytes → Type 0
NamedTurn s st i out r out' = (K : Stack) (o : Bytes) (h : ℕ) → OpensIn s o (in_ident [] 0 (get_or s i 0 ∷ []) (for_tag K)) (world_of K) K h st (i + 1) out → Next s o K h i r out'

abbrev pub FragmentTurn : Reading → ℕ → Bytes → Option Reading → Bytes → Type 0
FragmentTurn st i out r out' = (s : Bytes) (K : Stack) (o : Bytes) (h j : ℕ) → j < i → st.at + 3 ≤ 16 * i → OpensIn s o (in_children [] no_attributes no_children K) (world_of K) K h st i out → Next s o K h j r out'

-- a field whose head stands at p got its length, where it has a head
abbrev pub Patched : Bytes → ℕ → ℕ → ℕ → Bytes → Type 0
Patched o p t at o' = p + 3 ≤ at → o' ≡ put o p (head t (at - p - 3))

-- a 50 got its length
pub record AttributeEnded (o : Bytes) (st : Reading) (i : ℕ) (r : Reading) (o' : Bytes) : Type 0 where
  pub is : r ≡ at_mode st M.InTag i
  pub patched : Patched o st.fifty 0x50 st.at o'

-- 30, or 31 where there is no name
unfoldable pub name_code : Option ℕ → ℕ
name_code (Some p) = 0x30
name_code None = 0x31

-- a tag got its length; its closing name agrees or not
pub record TagEnded (o : Bytes) (st : Reading) (b : Bool) (i : ℕ) (r : Reading) (o' : Bytes) : Type 0 where
  pub is : r ≡ at_end_of st b i
  pub patched : Patched o st.head (name_code st.name) st.at o'

-- ---- the stack

-- how much deeper than the tag an inner one is
unfoldable pub inner_depth : Holder → ℕ
inner_depth H.Children = 1
inner_depth H.Value = 2
inner_depth (H.Braces k) = kind_depth k + 1

-- a place in four bytes
unfoldable pub low_name : Option ℕ → Option ℕ
low_name (Some p) = Some (p % 4294967296)
low_name None = None

-- a tag that waits
abbrev pub waits : Reading → Holder → Waiting
waits st k = record { head = st.head % 4294967296; name = low_name st.name; fifty = st.fifty % 4294967296; holder = k }

abbrev pub pushed : Reading → Holder → Reading
pushed st k = record st { height = st.height + 1; depth = st.depth + inner_depth k }

abbrev pub popped : Waiting → Reading → Reading
popped x st = record st { height = st.height - 1; head = x.head; name = x.name; fifty = x.fifty; depth = st.depth - inner_depth x.holder }

-- no name, or the place of one
abbrev pub NamePlace : Bytes → Option ℕ → Type 0
NamePlace s p = (q : ℕ) → p ≡ Some q → NameAt s q

-- whether a closing name at j is that of the tag
abbrev pub ClosingCompared : Bytes → Option ℕ → ℕ → Bool → Type 0
ClosingCompared s p j b = (n m : Name) (r : Bytes) → TagName s p n → IsName (drop j s) m r → b ≡ same_name n m

-- ---- turns with the stack

-- behind the `<` of a tag in f
abbrev pub InnerTurn : Bytes → List Waiting → Reading → Holder → Bytes → Option Reading → List Waiting → Bytes → Type 0
InnerTurn s fs st k out r fs' out' = (o : Bytes) (f : Frame) (K : Stack) (h : ℕ) → length s ≤ 32768 → Stacked s fs h K → 2 * h + 3 ≤ st.place → k ≡ kind_of f → PlainFrame f → Fifty (world_of K).bytes f st.fifty → Stands s o (opened (f ∷ K)) (world_of (f ∷ K)) (frame_name f) K h st st.place out → Going s o fs' st.place r out'

-- a tag has ended
abbrev pub EndedTurn : Bytes → List Waiting → Reading → Bytes → Option Reading → Bytes → Type 0
EndedTurn s fs st out r out' = (o : Bytes) (n : Name) (t : Tag) (K : Stack) (h i : ℕ) → Stacked s fs h K → 2 * h + 1 ≤ i → i < st.place → Stands s o (closed t K) (ended_world (world_of K) (depth_of K) t) n K h st st.place out → Going s o fs i r out'

-- behind a tag in braces, whose head stands at p
abbrev pub BehindTurn : Bytes → Reading → Braced → ℕ → Bytes → Option Reading → Bytes → Type 0
BehindTurn s st k p out r out' = (o : Bytes) (t : Tag) (g : Braces) (K : Stack) (h i : ℕ) → i < st.place → k ≡ braces_kind g → p ≡ length (world_of (in_braces g ∷ K)).bytes → PlainBraces g → BracesFifty (world_of K).bytes g st.fifty → Stands s o (behind_tag t g K) (ended_world (world_of (in_braces g ∷ K)) (depth_of (in_braces g ∷ K)) t) (braces_name g) K h st st.place out → Next s o K h i r out'

-- a turn in the mode m, which leaves the stack as it is; none where the pass stands in another
pub data Turned (m : Mode) (s o : Bytes) (fs : List Waiting) (st : Reading) (out : Bytes) : Option Reading → Bytes → Type 0 where
  turned : {r : Option Reading} {out' : Bytes} → st.mode ≡ m → Going s o fs st.place r out' → Turned m s o fs st out r out'
  stayed : (st.mode ≡ m → ⊥) → Turned m s o fs st out (Some st) out

abbrev pub ModeTurn : Mode → Bytes → Reading → Bytes → Option Reading → Bytes → Type 0
ModeTurn m s st out r out' = (fs : List Waiting) (o : Bytes) (i : ℕ) → Going s o fs i (Some st) out → Turned m s o fs st out r out'

-- where the pass is behind both: further on, or before an inner tag
pub record Front (s o : Bytes) (fs : List Waiting) (st : Reading) (r : Option Reading) (out : Bytes) : Type 0 where
  pub from : ℕ
  pub going : Going s o fs from r out
  pub passed : ((w : Reading) (k : Holder) → r ≡ Some w → w.mode ≡ M.Inner k → ⊥) → st.place ≤ from
  pub reached : (w : Reading) (k : Holder) → r ≡ Some w → w.mode ≡ M.Inner k → st.place ≤ w.place

abbrev pub FrontTurn : Bytes → Reading → Bytes → Option Reading → Bytes → Type 0
FrontTurn s st out r out' = (fs : List Waiting) (o : Bytes) (i : ℕ) → Going s o fs i (Some st) out → Front s o fs st r out'

-- any turn: the pass is further on than i
pub record Onward (s o : Bytes) (fs : List Waiting) (i : ℕ) (r : Option Reading) (out : Bytes) : Type 0 where
  pub from : ℕ
  pub after : i ≤ from
  pub going : Going s o fs from r out

abbrev pub StepTurn : Bytes → List Waiting → Reading → Bytes → Option Reading → List Waiting → Bytes → Type 0
StepTurn s fs st out r fs' out' = (length fs' ≡ length fs) × ((o : Bytes) (i : ℕ) → Going s o fs i (Some st) out → Onward s o fs' st.place r out')

-- the pass from its first turn on
abbrev pub PassTurn : Bytes → List Waiting → Reading → Bytes → Option Reading → Bytes → Type 0
PassTurn s fs first out r out' = (o : Bytes) (i : ℕ) → Going s o fs i (Some first) out → Passed s o r out'

-- up to the first turn, whatever the stack
abbrev pub OuterTurn : Bytes → Bytes → Option Reading → Bytes → Type 0
OuterTurn s out r out' = (fs : List Waiting) → Going s out fs 1 r out'
