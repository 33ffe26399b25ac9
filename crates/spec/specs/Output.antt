-- The fields of the outputs that 000's expressions become, and the making of a template. Assumes nothing: these are definitions.
use Rattle.std.specs.Prelude.{ℕ, ◌+◌, Bool, true, false, ◌||◌, List, [], ◌∷◌, ◌++◌, eqb, length}
use Rattle.field.specs.Bytes.{Bytes, pick}
use Rattle.field.specs.Number.{big_endian}
use Rattle.field.specs.Row.{Row, end, field}
use Rattle.spec.specs.Words.{places}
use Rattle.spec.specs.Pass.{join, Template, Pass, pure, both, Mid, none, node, raw, ◌+++◌, Part, chars, gap, mark, marks}

-- ---- 01, Form and call: the calls and literals, each in front of nothing

abbrev pub leaf : ℕ → Bytes → Mid
leaf t b = node t b none none

abbrev pub string_node : Bytes → Mid
string_node b = leaf 0x70 b

abbrev pub true_node : Mid
true_node = leaf 0x72 (1 ∷ [])

abbrev pub null_node : Mid
null_node = leaf 0x73 []

-- 91: the name, the expression
abbrev pub attr_node : Bytes → Mid → Mid
attr_node n e = node 0x91 [] (node 0x81 n none e) none

-- 92
abbrev pub escape_node : Mid → Mid
escape_node e = node 0x92 [] e none

-- 93: the expression, the name
abbrev pub choice_node : Mid → Bytes → Mid
choice_node e n = node 0x93 [] (e +++ leaf 0x81 n) none

-- 96: the name, the value
abbrev pub prop_node : Bytes → Mid → Mid
prop_node n e = node 0x96 [] (node 0x81 n none e) none

-- 76
abbrev pub array_node : Mid → Mid
array_node es = node 0x76 [] es none

-- ---- gen_template

-- the strings: `last` is the open one
unfoldable pub strings_after : Bytes → List Part → List Bytes
strings_after last [] = last ∷ []
strings_after last (chars b ∷ ps) = strings_after (last ++ b) ps
strings_after last (gap p ∷ ps) = last ∷ strings_after [] ps
strings_after last (mark f ∷ ps) = strings_after last ps

-- the dynamic expressions, one pass after the other
unfoldable pub dynamic_exprs : List Part → Pass Mid
dynamic_exprs [] = pure none
dynamic_exprs (chars b ∷ ps) = dynamic_exprs ps
dynamic_exprs (gap p ∷ ps) = both ◌+++◌ p (dynamic_exprs ps)
dynamic_exprs (mark f ∷ ps) = dynamic_exprs ps

-- whether each field of a row is a jsxAttr call or a choice
unfoldable pub kinds_of : Mid → List Bool
kinds_of none = []
kinds_of (node t f i r) = (eqb t 0x91 || eqb t 0x93) ∷ kinds_of r
kinds_of (raw t r) = false ∷ kinds_of r

unfoldable pub strings_row : List Bytes → Row
strings_row [] = end
strings_row (s ∷ ss) = field 0x81 s end (strings_row ss)

-- 02, A6: 1 for a dynamic expression inside an opening tag, an attribute; 2 elsewhere, a child
abbrev pub kind_byte : Bool → ℕ
kind_byte true = 1
kind_byte false = 2

unfoldable pub kind_bytes : List Bool → Bytes
kind_bytes [] = []
kind_bytes (k ∷ ks) = kind_byte k ∷ kind_bytes ks

-- a template's record: its tag, the width of its number, and whether the number is followed by a count of the gaps and a kind for each
pub record Layout : Type 0 where
  pub tag : ℕ
  pub width : ℕ
  pub kinded : Bool

-- 01's record, and 02's, A6, which replaces it
abbrev pub layout_80 : Layout
layout_80 = record { tag = 0x80; width = 2; kinded = false }

abbrev pub layout_84 : Layout
layout_84 = record { tag = 0x84; width = 4; kinded = true }

-- what stands before the strings
unfoldable pub record_front : Layout → ℕ → List Bool → Bytes
record_front l n ks = big_endian l.width n (pick l.kinded (big_endian 2 (length ks) (kind_bytes ks)) [])

unfoldable pub record_row : Layout → ℕ → List Bool → List Bytes → Row → Row
record_row l n ks ss r = field l.tag (record_front l n ks) (strings_row ss) r

-- 84: its number, for each dynamic expression the kind of its place, its strings
unfoldable pub template_row : Template → Row → Row
template_row t r = record_row layout_84 t.number (places t.strings) t.strings r

-- a template takes its number before its dynamic expressions and is recorded after them
unfoldable pub gen_template : List Part → Pass Mid
gen_template ps n =
    let r = dynamic_exprs ps (n + 1) in
    record {
      value = node 0x90 (big_endian 4 n []) r.value none;
      taken = 1 + r.taken;
      templates = r.templates ++ (record { number = n; strings = strings_after [] ps; kinds = kinds_of r.value } ∷ []);
      flags = join (marks ps) r.flags;
    }
