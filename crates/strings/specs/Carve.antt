-- Writing static strings: the buffer with an open string, and what the parts of a template do to it. The open string's head is written when
-- it is closed. Assumes nothing: these are definitions.
use Rattle.std.specs.Prelude.{ℕ, ◌+◌, ◌-◌, ◌<◌, ◌^◌, true, false, List, [], ◌∷◌, ltb, length}
use Rattle.std.proofs.Math.Option.{none, some}
use Rattle.field.specs.Bytes.{Bytes, pick}
use Rattle.field.specs.Row.{read}
use Rattle.field.specs.Put.{put, head}
use Rattle.text.specs.Escape.{escape_html}
use Rattle.text.specs.Text.{jsx_text_to_str}
use Rattle.names.specs.Names.{get_attr_name}
use Rattle.page.specs.Page.{Options}
use Rattle.page.specs.Tree.{attr_name_in, attributes_in, Contained, nothing_contained, contained}
use Rattle.spec.specs.Pass as P
use Rattle.spec.specs.Pass.{Part, chars, gap, mark, Mid, pure}
use Rattle.spec.specs.Merge as M
use Rattle.spec.specs.Merge.{joined_text}
use Rattle.spec.specs.Children.{maybe_wrap}
use Rattle.spec.specs.Attributes.{tag_flags}
use Rattle.spec.specs.Transform.{attributes, shape_of, expr}
use Rattle.spec.specs.declared.Flags.{Flags}
use Rattle.decisions.specs.At.{opts}
use Rattle.decisions.specs.Becomes.{Among, joins, leaves}
use Rattle.strings.specs.declared.due.Due.{Due}
use Rattle.strings.specs.Due.{graver, long_due, grave}
use Rattle.strings.specs.declared.writer.Open.{Open}

pub record Carved : Type 0 where
  pub out : Bytes
  pub st : Open

abbrev pub at : Bytes → Open → Carved
at o s = record { out = o; st = s }

-- the place behind the open string
abbrev pub end : Open → ℕ
end s = s.head + 3 + s.len

abbrev pub put_on : Bytes → Carved → Carved
put_on b w = record { out = put w.out (end w.st) b; st = record { head = w.st.head; len = w.st.len + length b; gaps = w.st.gaps; due = w.st.due } }

-- the open string is closed, and another opened behind it, with a gap between
abbrev pub close : Carved → Carved
close w = record { out = put w.out w.st.head (head 0x81 w.st.len); st = record { head = end w.st; len = 0; gaps = w.st.gaps + 1; due = graver w.st.due (long_due (ltb 65535 w.st.len)) } }

-- something more is due
abbrev pub flagged : Due → Carved → Carved
flagged d w = record { out = w.out; st = record { head = w.st.head; len = w.st.len; gaps = w.st.gaps; due = graver w.st.due d } }

unfoldable pub carve : List Part → Carved → Carved
carve [] w = w
carve (chars b ∷ ps) w = carve ps (put_on b w)
carve (gap p ∷ ps) w = carve ps (close w)
carve (mark f ∷ ps) w = carve ps (flagged (grave f) w)

-- room for the open string, and for a kind for each gap before it
abbrev pub Low : Carved → Type 0
Low w = end w.st + w.st.gaps < 2 ^ 63

-- ---- what the helper functions answer

-- the open string when it ends at that place
abbrev pub ended_at : Open → ℕ → Open
ended_at s e = record { head = s.head; len = e - (s.head + 3); gaps = s.gaps; due = s.due }

-- what is found of the element with that name, with these fields behind it; the options do not matter to it
abbrev pub flags_at : Bytes → Bytes → Flags
flags_at n r = tag_flags n (attributes (opts [] []) (attributes_in (read r)))

-- and `<name`
abbrev pub opening : Bytes → Bytes → List Part
opening n r = mark (flags_at n r) ∷ chars (60 ∷ escape_html n) ∷ []

-- the normalised name of the attribute with these fields
abbrev pub name_at : Bytes → Bytes
name_at a = get_attr_name (attr_name_in (read a)) true

-- a container among children: what joins the run, or a gap
unfoldable pub child_parts : M.Shape → Mid → List Part
child_parts s m = elim (joined_text s) [ some b ↦ chars b ∷ [] | none ↦ gap (pure (maybe_wrap s m)) ∷ [] ]

unfoldable pub contained_parts : Options → Contained → List Part
contained_parts o nothing_contained = []
contained_parts o (contained e) = child_parts (shape_of e) (expr o e P.none)

-- the same written: the options do not matter to it
abbrev pub put_child : Among → Carved → Carved
put_child (joins t) w = put_on (escape_html t) w
put_child (leaves z) w = close w

-- a run of n bytes is merged a second time, or was too long
unfoldable pub put_again : ℕ → Bytes → Carved → Carved
put_again n t w = pick (ltb 65535 n) (flagged (long_due true) w) (put_on (jsx_text_to_str t true false) w)
