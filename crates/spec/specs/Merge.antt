-- A child as its parent sees it, and merge_serializable_children. Assumes nothing: these are definitions.
use Rattle.std.specs.Prelude.{ℕ, ◌+◌, Bool, true, false, ◌&&◌, ◌||◌, List, [], ◌∷◌, ◌++◌, leb, eqb}
use Rattle.std.proofs.Math.Option.{Option, none, some}
use Rattle.field.specs.Bytes.{Bytes, pick, null?}
use Rattle.text.specs.Escape.{escape_html}
use Rattle.text.specs.Text.{jsx_text_to_str}
use Rattle.page.specs.Number.{Number, render}
use Rattle.spec.specs.Pass.{Pass, Mid, Part, over}

-- the expressions that 000's matches tell apart
pub data Shape : Type 0 where
  string_shape : Bytes → Shape
  number_shape : Number → Shape
  boolean_shape : Bool → Shape
  null_shape : Shape
  literal_shape : Shape
  minus_shape : Number → Shape
  other_shape : Shape

-- an element of an array: as it stands, or by a pass, whose value is a call
pub data Entry : Type 0 where
  still : Mid → Entry
  passed : Pass Mid → Entry

-- what serialize_jsx_children_to_expr gives: None, an expression, or an array
pub data Found : Type 0 where
  nothing_found : Found
  one_found : Entry → Found
  array_found : List Entry → Found

-- an element: is_serializable, serialize_jsx_element_to_string_vec, serialize_jsx_to_call_expr
pub record Element : Type 0 where
  pub serializable : Bool
  pub to_string_vec : List Part
  pub to_call_expr : Pass Mid

-- a fragment: serialize_jsx_children_to_string, serialize_jsx_children_to_expr
pub record Fragment : Type 0 where
  pub to_string : List Part
  pub to_expr : Found

pub data Child : Type 0 where
  text : Bytes → Child
  empty : Child
  container : Shape → Mid → Child
  element : Element → Child
  fragment : Fragment → Child
  spread : Mid → Child

abbrev pub is_last : List Child → Bool
is_last [] = true
is_last (c ∷ cs) = false

unfoldable pub flush : Bytes → List Child → List Child
flush [] cs = cs
flush (b ∷ buf) cs = text (b ∷ buf) ∷ cs

-- what joins the run of texts: a string, always escaped, and a number; a boolean is dropped
unfoldable pub joined_text : Shape → Option Bytes
joined_text (string_shape b) = some (escape_html b)
joined_text (number_shape n) = some (render n)
joined_text (boolean_shape b) = some []
joined_text null_shape = none
joined_text literal_shape = none
joined_text (minus_shape n) = none
joined_text other_shape = none

-- `buf` is the run so far
unfoldable pub merge : (escape parent : Bool) → Bytes → List Child → List Child
merge esc par buf [] = flush buf []
merge esc par buf (text t ∷ cs) = merge esc par (buf ++ jsx_text_to_str t esc (par && is_last cs)) cs
merge esc par buf (empty ∷ cs) = merge esc par buf cs
merge esc par buf (container s m ∷ cs) = elim (joined_text s) [ some b ↦ merge esc par (buf ++ b) cs | none ↦ flush buf (container s m ∷ merge esc par [] cs) ]
merge esc par buf (element e ∷ cs) = flush buf (element e ∷ merge esc par [] cs)
merge esc par buf (fragment f ∷ cs) = flush buf (fragment f ∷ merge esc par [] cs)
merge esc par buf (spread m ∷ cs) = merge esc par buf cs

-- after a merge each text is a flushed run: whether one of them is over 65,535 bytes
unfoldable pub long_run : List Child → Bool
long_run [] = false
long_run (text t ∷ cs) = over t || long_run cs
long_run (empty ∷ cs) = long_run cs
long_run (container s m ∷ cs) = long_run cs
long_run (element e ∷ cs) = long_run cs
long_run (fragment f ∷ cs) = long_run cs
long_run (spread m ∷ cs) = long_run cs

-- what is merged a second time: a run that is too long is not, since 11 is then the answer whatever becomes of it, and no buffer has to hold it
unfoldable pub short_runs : List Child → List Child
short_runs [] = []
short_runs (text t ∷ cs) = pick (over t) (short_runs cs) (text t ∷ short_runs cs)
short_runs (empty ∷ cs) = empty ∷ short_runs cs
short_runs (container s m ∷ cs) = container s m ∷ short_runs cs
short_runs (element e ∷ cs) = element e ∷ short_runs cs
short_runs (fragment f ∷ cs) = fragment f ∷ short_runs cs
short_runs (spread m ∷ cs) = spread m ∷ short_runs cs

-- text_count: only texts count, and only where the line rule leaves something
unfoldable pub text_count : List Child → ℕ
text_count [] = 0
text_count (text t ∷ cs) = pick (null? (jsx_text_to_str t false false)) 0 1 + text_count cs
text_count (empty ∷ cs) = text_count cs
text_count (container s m ∷ cs) = text_count cs
text_count (element e ∷ cs) = text_count cs
text_count (fragment f ∷ cs) = text_count cs
text_count (spread m ∷ cs) = text_count cs

-- serializable_count
unfoldable pub serializable_count : List Child → ℕ
serializable_count [] = 0
serializable_count (text t ∷ cs) = serializable_count cs
serializable_count (empty ∷ cs) = serializable_count cs
serializable_count (container s m ∷ cs) = serializable_count cs
serializable_count (element e ∷ cs) = pick e.serializable 1 0 + serializable_count cs
serializable_count (fragment f ∷ cs) = serializable_count cs
serializable_count (spread m ∷ cs) = serializable_count cs

-- whether several children of a call become one template
unfoldable pub becomes_template : List Child → Bool
becomes_template cs = leb 2 (serializable_count cs) || (eqb (serializable_count cs) 1 && leb 1 (text_count cs))
