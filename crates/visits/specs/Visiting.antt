-- The page walk's cycle: what stands in bytes, and how a visit begins with the record walk. Assumes nothing: these are definitions.
use Rattle.std.specs.Prelude.{ℕ, ◌≤◌, ◌<◌, ◌^◌, Bool, true, false, ◌||◌, ◌≡◌, eqb, length}
use Rattle.field.specs.Bytes.{Bytes}
use Rattle.field.specs.Row.{read}
use Rattle.field.specs.Front.{tag_of_front, body_of}
use Rattle.page.specs.Tree.{expr_in, items_in, pieces_in, contained_in}
use Rattle.spec.specs.Pass as S
use Rattle.spec.specs.Pass.{Pass, Mid, raw}
use Rattle.spec.specs.Merge.{Found}
use Rattle.spec.specs.Output.{gen_template}
use Rattle.spec.specs.Children.{children_to_string, spliced, entries_pass, found_pass, children_to_expr}
use Rattle.spec.specs.Visit.{visit_after, visit_found, visit_fragment}
use Rattle.spec.specs.Transform.{expr, items, pieces, element_raw}
use Rattle.decisions.specs.At.{opts, element_at, children_at}
use Rattle.found.specs.Finds as Finds
use Rattle.found.specs.declared.Found as D
use Rattle.found.specs.declared.Kind.{Kind}
use Rattle.found.specs.declared.Kind.TheVariants as F
use Rattle.records.specs.declared.Records.{Records}
use Rattle.records.specs.Keep as K
use Rattle.walk.specs.declared.state.Walk.{Walk}
use Rattle.decisions.specs.Becomes.{contained_mid}
use Rattle.walk.specs.See.{World, at, Low}

abbrev pub Place : Type 0
Place = D.Found

-- ---- what stands in bytes

module _ (skip props : Bytes) where
  -- the expression in front, and one in braces
  abbrev pub expr_at : Bytes → Mid
  expr_at s = expr (opts skip props) (expr_in (read s)) S.none

  abbrev pub held_at : Bytes → Mid
  held_at c = contained_mid (opts skip props) (contained_in (read c))

  abbrev pub items_at : Bytes → Mid
  items_at s = items (opts skip props) (items_in (read s))

  abbrev pub pieces_at : Bytes → Mid
  pieces_at s = pieces (opts skip props) (pieces_in (read s))

  -- an element and a fragment, by the fields of it, as an expression
  abbrev pub element_mid : Bytes → Mid
  element_mid b = raw (element_raw (element_at skip props b)) S.none

  abbrev pub fragment_mid : Bytes → Mid
  fragment_mid s = raw (visit_fragment (children_at skip props (read s))) S.none

  -- a fragment's children as a template; what they give, where they stand in a fragment
  abbrev pub template_mid : Bytes → Mid
  template_mid s = raw (visit_after (gen_template (children_to_string false (children_at skip props (read s))))) S.none

  abbrev pub found_mid : Bytes → Mid
  found_mid s = raw (visit_found (children_to_expr (children_at skip props (read s)))) S.none

-- what children give, as one expression, or spliced into an array
unfoldable pub found_out : (splice : Bool) → Found → Pass Mid
found_out true f = entries_pass (spliced f)
found_out false f = found_pass f

abbrev pub is_found : Kind → Bool
is_found F.Nothing = false
is_found F.Empty = true
is_found (F.Many k) = true
is_found F.Run = true
is_found F.Text = true
is_found F.Element = true
is_found F.Template = true
is_found F.Expr = true
is_found F.Item = true
is_found F.Hole = true

-- a fragment leaves what its children give: nothing, or a tag
abbrev pub is_left : Kind → Bytes → Bool
is_left F.Nothing b = true
is_left F.Empty b = false
is_left (F.Many k) b = false
is_left F.Run b = false
is_left F.Text b = false
is_left F.Element b = false
is_left F.Template b = false
is_left F.Expr b = eqb (tag_of_front b) 0x30 || eqb (tag_of_front b) 0x31
is_left F.Item b = false
is_left F.Hole b = false

-- w holds the elements of the array literal in front, which is spliced
pub record Spliced (u : Bytes) (splice : Bool) (w : Bytes) : Type 0 where
  pub asked : splice ≡ true
  pub tag_is : tag_of_front u ≡ 0x76
  pub body_is : w ≡ body_of u

-- ---- a visit

-- it begins with the record walk
abbrev pub recording : Walk → Records
recording s = record { next = s.later; place = s.templates; due = s.seen.due }

-- and its first pass takes the later numbers
abbrev pub entered : Records → Walk → Walk
entered k s =
    record {
      first = s.later;
      later = k.next;
      templates = k.place;
      page = s.page;
      seen = record { jsx = s.seen.jsx; attr = s.seen.attr; escape = s.seen.escape; due = k.due };
    }

abbrev pub enter : K.Kept → World → World
enter k w = at k.out w.page (entered k.st w.st)

-- the first pass around it goes on
abbrev pub with_first : ℕ → Walk → Walk
with_first n s = record { first = n; later = s.later; templates = s.templates; page = s.page; seen = s.seen }

abbrev pub returned : ℕ → World → World
returned n w = at w.templates w.page (with_first n w.st)

-- what found_of answers for the children in s
pub record Given (skip props s : Bytes) (f : Place) : Type 0 where
  pub within : Finds.Within f s
  pub finds : Finds.Finds skip props (children_to_expr (children_at skip props (read s))) f.kind (Finds.part s f)

-- ---- room: for the desk, for the record walk over s, and for all that is written
pub record Room (scratch s : Bytes) (w : World) : Type 0 where
  pub desk : 65536 ≤ length scratch
  pub short : length s < 2 ^ 32
  pub low : Low w.st
