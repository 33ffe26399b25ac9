-- What the pass has made when the grammar's reader is in a state: the bytes that are written, heads of open fields without a length, and whether
-- closing names agree, numbers are in range and nothing is too deep so far. Main definition: `world_of`. Assumes nothing: these are definitions.
use Rattle.std.specs.Prelude.{ℕ, suc, ◌≡◌, Bool, true, ◌&&◌, [], ◌∷◌, ◌++◌, leb, length}
use Rattle.field.specs.Bytes.{Bytes}
use Rattle.field.specs.Row.{end}
use Rattle.field.specs.Put.{put, head}
use Rattle.page.specs.Encode.{name_row, attr_name_row, tag_row, attributes_row, children_row}
use Rattle.grammar.specs.Known.{Known}
use Rattle.grammar.specs.Syntax.{Name, same_name, Tag, Attributes, Children, every_tag, every_attributes, every_children}
use Rattle.grammar.specs.Reader.{Braces, child_braces, spread_child_braces, value_braces, spread_braces, Frame, within, value_of, in_braces, Stack}
use Rattle.tag_tree.specs.PageTag.{page_name, page_attr_name, page_tag, page_attributes, page_children}
use Rattle.tag_tree.specs.TagAnswer.{shallow, known_in_range}
use Rattle.read_tag.specs.Progress.{bytes_of_tag, children_bytes, begun, attribute_begun, braces_code}
use Rattle.read_tag.specs.Flags.{depth_of}

pub record World : Type 0 where
  pub bytes : Bytes
  pub names : Bool
  pub numbers : Bool
  pub shallow : Bool

abbrev pub nothing_made : World
nothing_made = record { bytes = []; names = true; numbers = true; shallow = true }

-- some bytes more, and what their fields say
abbrev pub more : World → Bytes → Bool → Bool → Bool → World
more W b x y z = record { bytes = W.bytes ++ b; names = W.names && x; numbers = W.numbers && y; shallow = W.shallow && z }

abbrev pub any_known : Known → Bool
any_known k = true

abbrev pub any_names : Name → Name → Bool
any_names n m = true

-- the row of a tag's name, of which a fragment has none
unfoldable pub shallow_name : ℕ → Name → Bool
shallow_name d [] = true
shallow_name d (p ∷ n) = shallow d (name_row (page_name (p ∷ n)) end)

-- a tag at that depth, its name and attributes
unfoldable pub tag_world : World → ℕ → Name → Attributes → World
tag_world W d n ps =
    record {
      bytes = begun W.bytes n ps;
      names = W.names && every_attributes ps same_name any_known;
      numbers = W.numbers && every_attributes ps any_names known_in_range;
      shallow = W.shallow && (leb d 48 && (shallow_name (suc d) n && shallow (suc d) (attributes_row (page_attributes ps) end)));
    }

-- then children
unfoldable pub children_world : World → ℕ → Name → Attributes → Children → World
children_world W d n ps ks =
    more (tag_world W d n ps) (children_bytes ks) (every_children ks same_name any_known) (every_children ks any_names known_in_range) (shallow (suc d) (children_row (page_children ks)))

-- or a 50 that has its name
unfoldable pub value_world : World → ℕ → Name → Name → Attributes → World
value_world W d a n ps = more (tag_world W d n ps) (attribute_begun a) true true (leb (suc d) 48 && shallow (suc (suc d)) (attr_name_row (page_attr_name a) end))

-- before braces, and with their head
unfoldable pub before_world : World → ℕ → Braces → World
before_world W d (child_braces n ps ks) = children_world W d n ps ks
before_world W d (spread_child_braces n ps ks) = children_world W d n ps ks
before_world W d (value_braces a n ps) = value_world W d a n ps
before_world W d (spread_braces n ps) = tag_world W d n ps

-- the depth of their field
unfoldable pub braces_at : Braces → ℕ → ℕ
braces_at (child_braces n ps ks) d = suc d
braces_at (spread_child_braces n ps ks) d = suc d
braces_at (value_braces a n ps) d = suc (suc d)
braces_at (spread_braces n ps) d = suc d

unfoldable pub braces_world : World → ℕ → Braces → World
braces_world W d h = more (before_world W d h) (head (braces_code h) 0) true true (leb (braces_at h d) 48)

unfoldable pub frame_world : World → ℕ → Frame → World
frame_world W d (within n ps ks) = children_world W d n ps ks
frame_world W d (value_of a n ps) = value_world W d a n ps
frame_world W d (in_braces h) = braces_world W d h

unfoldable pub world_of : Stack → World
world_of [] = nothing_made
world_of (f ∷ K) = frame_world (world_of K) (depth_of K) f

-- a tag that has ended, behind what stands around it
unfoldable pub ended_world : World → ℕ → Tag → World
ended_world W d t = more W (bytes_of_tag t) (every_tag t same_name any_known) (every_tag t any_names known_in_range) (shallow d (tag_row (page_tag t) end))

-- the same in a lent buffer that was o, and in the pass's own numbers. Once a number is out of range its bytes do not matter
pub record Made (o : Bytes) (W : World) (out : Bytes) (at : ℕ) (names numbers shallow : Bool) : Type 0 where
  pub at_is : at ≡ length W.bytes
  pub out_is : W.numbers ≡ true → out ≡ put o 0 W.bytes
  pub names_is : names ≡ W.names
  pub numbers_is : numbers ≡ W.numbers
  pub shallow_is : shallow ≡ W.shallow
