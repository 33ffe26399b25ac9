-- What the children of a call give, by a kind and a place in the bytes that hold them. Assumes nothing: these are definitions.
use Rattle.std.specs.Prelude.{ℕ, zero, suc, ◌+◌, ◌≤◌, Bool, true, false, ◌&&◌, List, [], ◌∷◌, ◌≡◌, eqb, ltb, length, take, drop}
use Rattle.std.proofs.Math.Option.{Option, none, some}
use Rattle.field.specs.Bytes.{Bytes, pick, null?}
use Rattle.field.specs.Row.{Row, end, loose, field, read}
use Rattle.field.specs.Front.{tag_of_front, body_of, behind_of}
use Rattle.text.specs.Text.{jsx_text_to_str}
use Rattle.page.specs.Tree.{expr_in, items_in, Contained, nothing_contained, contained}
use Rattle.spec.specs.Pass as S
use Rattle.spec.specs.Pass.{Pass, Mid, raise, long_if}
use Rattle.spec.specs.Output.{leaf, string_node, null_node, gen_template}
use Rattle.spec.specs.Merge as M
use Rattle.spec.specs.Merge.{Entry, still, passed, nothing_found, one_found, array_found, Child, merge, long_run, short_runs, joined_text}
use Rattle.spec.specs.Children as C
use Rattle.spec.specs.Children.{serialize_jsx, found_of, entries, children_to_expr, children_to_string}
use Rattle.spec.specs.Transform.{expr, items, shape_of}
use Rattle.decisions.specs.declared.children.Count.{Count}
use Rattle.decisions.specs.declared.children.Count.TheVariants.{Zero, One, More}
use Rattle.decisions.specs.At.{opts, element_at, children_at}
use Rattle.found.specs.declared.Kind.{Kind}
use Rattle.found.specs.declared.Kind.TheVariants as K
use Rattle.found.specs.declared.Joined.{Joined}
use Rattle.found.specs.declared.Joined.TheVariants as J
use Rattle.found.specs.declared.Found.{Found}

-- a place lies in the bytes, and what stands there
abbrev pub Within : Found → Bytes → Type 0
Within f s = f.from + f.len ≤ length s

abbrev pub part : Bytes → Found → Bytes
part s f = take f.len (drop f.from s)

abbrev pub placed : Kind → ℕ → ℕ → Found
placed k n m = record { kind = k; from = n; len = m }

abbrev pub hole_node : Mid
hole_node = leaf 0x78 []

-- ---- what stands in bytes

module _ (skip props : Bytes) where
  abbrev pub kids : Bytes → List Child
  kids s = children_at skip props (read s)

  -- the entries of the merged children
  abbrev pub entries_at : Bytes → List Entry
  entries_at s = entries (merge false false [] (kids s))

  abbrev pub found_at : Bytes → M.Found
  found_at s = children_to_expr (kids s)

-- ---- what is known of fragments, whatever 03 lists

-- what is left behind so many fields
unfoldable pub behind_fields : ℕ → Bytes → Bytes
behind_fields zero s = s
behind_fields (suc n) s = behind_fields n (behind_of s)

-- of the body of each fragment among the fields of s
abbrev pub EachFragment : (Bytes → Type 0) → Bytes → Type 0
EachFragment P s = (n : ℕ) → tag_of_front (behind_fields n s) ≡ 0x31 → P (body_of (behind_fields n s))

-- children give several entries, their own
abbrev pub Several : Bytes → Bytes → Type 0
Several skip s = (props : Bytes) → (found_at skip props s ≡ array_found (entries_at skip props s)) × (2 ≤ length (entries_at skip props s))

-- more than half of n bytes
abbrev pub is_most : ℕ → ℕ → Bool
is_most n m = ltb n (m + m)

-- so many levels deep: a fragment that is more than half of n bytes gives several, and this is known of those in it
unfoldable pub KnownOf : ℕ → Bytes → ℕ → Bytes → Type 0
KnownOf zero skip n b = Unit {0}
KnownOf (suc k) skip n b = is_most n (length b) ≡ true → Several skip b × EachFragment (KnownOf k skip (length b)) b

abbrev pub Known : ℕ → Bytes → Bytes → Type 0
Known k skip s = EachFragment (KnownOf k skip (length s)) s

-- by the k levels that are known of a fragment of m bytes, which gives what stands in l of them, those that are known of the n bytes around it
abbrev pub known_around : ℕ → ℕ → ℕ → ℕ → ℕ
known_around n m l k = pick (eqb l m && (is_most n m && ltb k n)) (suc k) 0

-- ---- what kinds and places say

module _ (skip props : Bytes) where
  -- the expression in front
  abbrev pub expr_at : Bytes → Mid
  expr_at s = expr (opts skip props) (expr_in (read s)) S.none

  -- the element of an array literal in front; where none stands, what `expr_at` says
  unfoldable pub first_item : Row → Mid
  first_item end = null_node
  first_item (loose b) = null_node
  first_item (field t f i r) = items (opts skip props) (items_in (field t f i end))

  -- a template of children that are merged twice
  abbrev pub template_pass : List Child → Pass Mid
  template_pass cs = raise (long_if (long_run (merge false false [] cs))) (gen_template (children_to_string false (short_runs (merge false false [] cs))))

  abbrev pub text_entry : Bytes → Entry
  text_entry b = still (string_node (jsx_text_to_str (body_of b) false true))

  abbrev pub element_entry : Bytes → Entry
  element_entry b = passed (serialize_jsx (element_at skip props (body_of b)))

  abbrev pub template_entry : Bytes → Entry
  template_entry b = passed (template_pass (kids skip props b))

  -- a run is all that the children in b give
  pub record Runs (es : List Entry) (b : Bytes) : Type 0 where
    pub run : Bytes
    pub alone : es ≡ still (string_node run) ∷ []
    pub among_all : entries_at skip props b ≡ still (string_node run) ∷ []

  -- entries are what a kind and the bytes of its place say; a run by R; several are those of the children in the place, where it has bytes
  abbrev pub Enters : (R : List Entry → Bytes → Type 0) → List Entry → Kind → Bytes → Type 0
  Enters R es K.Nothing b = ⊥
  Enters R es K.Empty b = es ≡ []
  Enters R es (K.Many k) b = (2 ≤ length es) × ((length b ≡ 0 → ⊥) → (es ≡ entries_at skip props b) × Known k skip b)
  Enters R es K.Run b = R es b
  Enters R es K.Text b = es ≡ text_entry b ∷ []
  Enters R es K.Element b = (es ≡ element_entry b ∷ []) × (tag_of_front b ≡ 0x30)
  Enters R es K.Template b = es ≡ template_entry b ∷ []
  Enters R es K.Expr b = es ≡ still (expr_at b) ∷ []
  Enters R es K.Item b = es ≡ still (first_item (read b)) ∷ []
  Enters R es K.Hole b = es ≡ still hole_node ∷ []

  pub record RunFound (f : M.Found) (b : Bytes) : Type 0 where
    pub run : Bytes
    pub found_is : f ≡ one_found (still (string_node run))
    pub among_all : entries_at skip props b ≡ still (string_node run) ∷ []

  -- what children give is what a kind and the bytes of its place say
  abbrev pub Finds : M.Found → Kind → Bytes → Type 0
  Finds f K.Nothing b = f ≡ nothing_found
  Finds f K.Empty b = f ≡ array_found []
  Finds f (K.Many k) b = (f ≡ array_found (entries_at skip props b)) × ((2 ≤ length (entries_at skip props b)) × Known k skip b)
  Finds f K.Run b = RunFound f b
  Finds f K.Text b = f ≡ one_found (text_entry b)
  Finds f K.Element b = (f ≡ one_found (element_entry b)) × (tag_of_front b ≡ 0x30)
  Finds f K.Template b = f ≡ one_found (template_entry b)
  Finds f K.Expr b = f ≡ found_of (expr_at b)
  Finds f K.Item b = ⊥
  Finds f K.Hole b = f ≡ array_found (still hole_node ∷ [])

-- ---- what the small functions do

-- from the entries of the children in s to what these give
abbrev pub Flattened : Bytes → Found → Found → Type 0
Flattened s f r =
    (skip props : Bytes) → Enters skip props (Runs skip props) (entries_at skip props s) f.kind (part s f) →
    Finds skip props (C.flattened (entries_at skip props s)) r.kind (part s r)

-- from what a fragment's children in s give to the entries of its parent
abbrev pub Spliced : Bytes → Found → Found → Type 0
Spliced s f r =
    (skip props : Bytes) (x : M.Found) → Finds skip props x f.kind (part s f) → Enters skip props (Runs skip props) (C.spliced x) r.kind (part s r)

-- from several entries, of which k levels are known, of the children in s to the same in a place in s
abbrev pub Narrowed : ℕ → Bytes → Found → Type 0
Narrowed k s r = (skip props : Bytes) (x : M.Found) → Finds skip props x (K.Many k) s → Finds skip props x r.kind (part s r)

unfoldable pub item_count : Row → Count
item_count end = Zero
item_count (loose b) = Zero
item_count (field t f i end) = One
item_count (field t f i (loose b)) = One
item_count (field t f i (field u g j r)) = More

-- no entries
unfoldable pub is_empty : Kind → Bool
is_empty K.Nothing = false
is_empty K.Empty = true
is_empty (K.Many k) = false
is_empty K.Run = false
is_empty K.Text = false
is_empty K.Element = false
is_empty K.Template = false
is_empty K.Expr = false
is_empty K.Item = false
is_empty K.Hole = false

-- entries, and others behind them
abbrev pub then_found : Found → Found → Found
then_found a b = pick (is_empty a.kind) b (pick (is_empty b.kind) a (placed (K.Many 0) 0 0))

-- several, in a place of n bytes: none
unfoldable pub is_settled : Kind → ℕ → Bool
is_settled K.Nothing n = false
is_settled K.Empty n = false
is_settled (K.Many k) n = eqb n 0
is_settled K.Run n = false
is_settled K.Text n = false
is_settled K.Element n = false
is_settled K.Template n = false
is_settled K.Expr n = false
is_settled K.Item n = false
is_settled K.Hole n = false

-- the run among n bytes of children, behind the entries
abbrev pub run_found : Found → Bool → ℕ → Found
run_found a true n = then_found a (placed K.Run 0 n)
run_found a false n = a

-- what a container adds to a run
unfoldable pub joined_by_text : Option Bytes → Joined
joined_by_text none = J.Apart
joined_by_text (some b) = pick (null? b) J.Nothing J.Something

unfoldable pub joined_of : Contained → Joined
joined_of nothing_contained = J.Nothing
joined_of (contained e) = joined_by_text (joined_text (shape_of e))
