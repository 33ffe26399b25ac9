-- What stands in page out for an attribute in an opening tag, and for a property of a call: a field with a front, an expression that is held
-- in the page and visited, and what is written behind it. Assumes nothing: these are definitions.
use Rattle.std.specs.Prelude.{ℕ, Option, Some, None, []}
use Rattle.field.specs.Bytes.{Bytes}
use Rattle.field.specs.Row.{read}
use Rattle.text.specs.Text.{normalize_lit_str}
use Rattle.page.specs.Page.{Options}
use Rattle.page.specs.Tree.{attr_name_in, contained_in}
use Rattle.spec.specs.Pass.{Mid, none}
use Rattle.spec.specs.Output.{string_node}
use Rattle.decisions.specs.Becomes.{gap_case, gap_tag, gap_front, gap_behind, contained_mid}
use Rattle.decisions.specs.declared.attribute.Value.{Value}
use Rattle.decisions.specs.declared.attribute.Value.TheVariants as V
use Rattle.decisions.specs.declared.becomes.Gap.{Gap}
use Rattle.walk.specs.See.{World, see, begun, wrap}

-- both ends of the field that the attribute with the fields a leaves: t is its tag, but for a choice; `turn` turns a string
abbrev pub front : (turn : Bytes → Bytes) → Bytes → Gap → World → World
front turn a g w = see (gap_front turn (attr_name_in (read a)) (gap_case g)) (begun w)

abbrev pub back : ℕ → Bytes → Gap → ℕ → World → World
back t a g q w = wrap (gap_tag t (gap_case g)) q (see (gap_behind (attr_name_in (read a)) (gap_case g)) w)

-- ---- the key, by the value that decides it: a string, what is held in braces, or nothing

abbrev pub key_given : Options → Option Value → Mid
key_given o None = none
key_given o (Some (V.String b)) = string_node (normalize_lit_str b.now)
key_given o (Some (V.Container c)) = contained_mid o (contained_in (read c.now))
key_given o (Some (V.Tag t)) = none

-- its bytes, whatever decides it: a string's text, what stands in braces, or a tag
abbrev pub key_braces : Option Value → Bytes
key_braces None = []
key_braces (Some (V.String b)) = b.now
key_braces (Some (V.Container c)) = c.now
key_braces (Some (V.Tag t)) = t.now
