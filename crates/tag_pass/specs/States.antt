-- What holds of the pass between its parts: where the grammar's reader is, what was made, and what the pass's numbers and its stack say of it.
-- Main definitions: `Stands`, `Next`, `Stacked`. Assumes nothing: these are definitions.
use Rattle.std.specs.Prelude.{ℕ, ◌+◌, ◌*◌, ◌≤◌, ◌<◌, ◌≡◌, Bool, true, false, List, [], ◌∷◌, Option, Some, None, T, length, drop, get_or}
use Rattle.field.specs.Bytes.{Bytes}
use Rattle.grammar.specs.Syntax.{Name, tag_name_fits, Tag, Attributes, Children}
use Rattle.grammar.specs.Grammar.{IsName}
use Rattle.grammar.specs.Reader.{Braces, child_braces, spread_child_braces, value_braces, spread_braces, Frame, within, value_of, in_braces, Stack, State, start, in_tag, in_children, opened, closed, outcome, read, no_reading}
use Rattle.read_tag.specs.Progress.{begun, Plain}
use Rattle.read_tag.specs.Flags.{depth_of}
use Rattle.tag_pass.specs.declared.frames.Waiting.{Waiting}
use Rattle.tag_pass.specs.declared.state.Braced.{Braced}
use Rattle.tag_pass.specs.declared.state.Braced.TheVariants as B
use Rattle.tag_pass.specs.declared.state.Holder.{Holder}
use Rattle.tag_pass.specs.declared.state.Holder.TheVariants as H
use Rattle.tag_pass.specs.declared.state.Mode.{Mode}
use Rattle.tag_pass.specs.declared.state.Mode.TheVariants as M
use Rattle.tag_pass.specs.Worlds.{World, nothing_made, tag_world, children_world, world_of, ended_world, Made}
use Rattle.tag_pass.specs.declared.state.Reading.{Reading}

-- ---- names by their places

-- a fragment has none
pub data TagName (s : Bytes) : Option ℕ → Name → Type 0 where
  no_name : TagName s None []
  name_at : {p : ℕ} {n : Name} (r : Bytes) → IsName (drop p s) n r → T (tag_name_fits n) → TagName s (Some p) n

unfoldable pub Named : Name → Type 0
Named [] = ⊥
Named (p ∷ n) = Unit {0}

-- ---- what an inner tag stands in

unfoldable pub braces_kind : Braces → Braced
braces_kind (child_braces n ps ks) = B.Child
braces_kind (spread_child_braces n ps ks) = B.SpreadChild
braces_kind (value_braces a n ps) = B.Value
braces_kind (spread_braces n ps) = B.Spread

unfoldable pub kind_of : Frame → Holder
kind_of (within n ps ks) = H.Children
kind_of (value_of a n ps) = H.Value
kind_of (in_braces h) = H.Braces (braces_kind h)

-- the tag that waits for the inner one
unfoldable pub braces_name : Braces → Name
braces_name (child_braces n ps ks) = n
braces_name (spread_child_braces n ps ks) = n
braces_name (value_braces a n ps) = n
braces_name (spread_braces n ps) = n

unfoldable pub frame_name : Frame → Name
frame_name (within n ps ks) = n
frame_name (value_of a n ps) = n
frame_name (in_braces h) = braces_name h

-- a tag with attributes or values has a name
unfoldable pub PlainBraces : Braces → Type 0
PlainBraces (child_braces n ps ks) = Plain n ps
PlainBraces (spread_child_braces n ps ks) = Plain n ps
PlainBraces (value_braces a n ps) = Named n
PlainBraces (spread_braces n ps) = Named n

unfoldable pub PlainFrame : Frame → Type 0
PlainFrame (within n ps ks) = Plain n ps
PlainFrame (value_of a n ps) = Named n
PlainFrame (in_braces h) = PlainBraces h

-- the head of the attribute around it, where there is one, in what was written behind w
unfoldable pub BracesFifty : Bytes → Braces → ℕ → Type 0
BracesFifty w (child_braces n ps ks) f = Unit {0}
BracesFifty w (spread_child_braces n ps ks) f = Unit {0}
BracesFifty w (value_braces a n ps) f = f ≡ length (begun w n ps)
BracesFifty w (spread_braces n ps) f = Unit {0}

unfoldable pub Fifty : Bytes → Frame → ℕ → Type 0
Fifty w (within n ps ks) f = Unit {0}
Fifty w (value_of a n ps) f = f ≡ length (begun w n ps)
Fifty w (in_braces h) f = BracesFifty w h f

-- ---- the stack

-- what stands where nothing was put
abbrev pub idle : Waiting
idle = record { head = 0; name = None; fifty = 0; holder = H.Children }

pub record Framed (s : Bytes) (x : Waiting) (f : Frame) (K : Stack) : Type 0 where
  pub head_is : x.head ≡ length (world_of K).bytes
  pub name_is : TagName s x.name (frame_name f)
  pub kind_is : x.holder ≡ kind_of f
  pub fifty_is : Fifty (world_of K).bytes f x.fifty
  pub plain : PlainFrame f

pub data Stacked (s : Bytes) (fs : List Waiting) : ℕ → Stack → Type 0 where
  empty : Stacked s fs 0 []
  frame : {h : ℕ} {f : Frame} {K : Stack} → Framed s (get_or fs h idle) f K → Stacked s fs h K → Stacked s fs (h + 1) (f ∷ K)

-- ---- the pass at a place

-- there is more to read of a tag
unfoldable pub goes_on : Mode → Bool
goes_on M.InTag = true
goes_on M.InChildren = true
goes_on (M.Inner k) = true
goes_on M.Ended = false
goes_on M.Done = false

-- numbers that need no reader: so that sums do not wrap
pub record Bounded (n : ℕ) (st : Reading) (i : ℕ) : Type 0 where
  pub small : n ≤ 32768
  pub inside : i ≤ n
  pub grown : st.at ≤ 16 * i
  pub deep : st.depth ≤ 65560

-- the reader is in the state x, W was made, and the pass knows the tag of that name in K
pub record Stands (s o : Bytes) (x : State) (W : World) (n : Name) (K : Stack) (h : ℕ) (st : Reading) (i : ℕ) (out : Bytes) : Type 0 where
  pub reads : outcome start s ≡ outcome x (drop i s)
  pub inside : i ≤ length s
  pub grown : st.at ≤ 16 * i
  pub head_is : st.head ≡ length (world_of K).bytes
  pub name_is : TagName s st.name n
  pub depth_is : st.depth ≡ depth_of K
  pub height_is : st.height ≡ h
  pub made : Made o W out st.at st.names st.numbers st.shallow

-- the same before the tag has a name and a head
pub record OpensIn (s o : Bytes) (x : State) (W : World) (K : Stack) (h : ℕ) (st : Reading) (i : ℕ) (out : Bytes) : Type 0 where
  pub reads : outcome start s ≡ outcome x (drop i s)
  pub inside : i ≤ length s
  pub grown : st.at ≤ 16 * i
  pub depth_is : st.depth ≡ depth_of K
  pub height_is : st.height ≡ h
  pub made : Made o W out st.at st.names st.numbers st.shallow

-- what a turn leaves, by its mode; it has read something, or it was the last. None: no reading
pub data Next (s o : Bytes) (K : Stack) (h i : ℕ) : Option Reading → Bytes → Type 0 where
  next_tag : {n : Name} {ps : Attributes} {r : Reading} {out : Bytes} → r.mode ≡ M.InTag → i < r.place → Named n → Stands s o (in_tag n ps K) (tag_world (world_of K) (depth_of K) n ps) n K h r r.place out → Next s o K h i (Some r) out
  next_children : {n : Name} {ps : Attributes} {ks : Children} {r : Reading} {out : Bytes} → r.mode ≡ M.InChildren → i < r.place → Plain n ps → Stands s o (in_children n ps ks K) (children_world (world_of K) (depth_of K) n ps ks) n K h r r.place out → Next s o K h i (Some r) out
  next_inner : {f : Frame} {r : Reading} {out : Bytes} → r.mode ≡ M.Inner (kind_of f) → i < r.place → PlainFrame f → Fifty (world_of K).bytes f r.fifty → Stands s o (opened (f ∷ K)) (world_of (f ∷ K)) (frame_name f) K h r r.place out → Next s o K h i (Some r) out
  next_ended : {n : Name} {r : Reading} {out : Bytes} (t : Tag) → r.mode ≡ M.Ended → i < r.place → Stands s o (closed t K) (ended_world (world_of K) (depth_of K) t) n K h r r.place out → Next s o K h i (Some r) out
  next_done : {t : Tag} {r : Reading} {out : Bytes} → r.mode ≡ M.Done → outcome start s ≡ read t → Made o (ended_world nothing_made 3 t) out r.at r.names r.numbers r.shallow → Next s o K h i (Some r) out
  next_none : {out : Bytes} → outcome start s ≡ no_reading → Next s o K h i None out

-- the stack and the pass together; a turn began at i. A tag that waits costs two bytes of text
pub record Going (s o : Bytes) (fs : List Waiting) (i : ℕ) (r : Option Reading) (out : Bytes) : Type 0 where
  pub K : Stack
  pub h : ℕ
  pub stacked : Stacked s fs h K
  pub room : 2 * h + 1 ≤ i
  pub inner_room : (w : Reading) (k : Holder) → r ≡ Some w → w.mode ≡ M.Inner k → 2 * h + 2 ≤ i
  pub next : Next s o K h i r out

-- whatever was lent
pub record Lent (s : Bytes) (fs : List Waiting) (r : Reading) (out : Bytes) : Type 0 where
  pub o : Bytes
  pub i : ℕ
  pub small : length s ≤ 32768
  pub frames : length s ≤ 2 * length fs
  pub going : Going s o fs i (Some r) out

-- the whole text was read, or has no reading
pub data Passed (s o : Bytes) : Option Reading → Bytes → Type 0 where
  passed_none : {out : Bytes} → outcome start s ≡ no_reading → Passed s o None out
  passed_tag : {t : Tag} {r : Reading} {out : Bytes} → r.mode ≡ M.Done → outcome start s ≡ read t → Made o (ended_world nothing_made 3 t) out r.at r.names r.numbers r.shallow → Passed s o (Some r) out

-- no tag has ended
abbrev pub Unended : Option Reading → Type 0
Unended r = (w : Reading) → r ≡ Some w → w.mode ≡ M.Ended → ⊥

-- a tag that was opened is neither behind another `<` nor at its end
pub record Settled (r : Option Reading) : Type 0 where
  pub not_inner : (w : Reading) (k : Holder) → r ≡ Some w → w.mode ≡ M.Inner k → ⊥
  pub not_ended : Unended r
