-- The page walk: both outs with the places in them, and what both passes do to them. Assumes nothing: these are definitions.
use Rattle.std.specs.Prelude.{ℕ, ◌+◌, ◌-◌, ◌<◌, ◌^◌, Bool, true, false, ◌||◌, [], ◌∷◌, eqb, ltb, length}
use Rattle.field.specs.Bytes.{Bytes, pick}
use Rattle.field.specs.Number.{big_endian}
use Rattle.field.specs.Row.{Row, bytes, long_body}
use Rattle.field.specs.Put.{put, head}
use Rattle.page.specs.Page as P
use Rattle.page.specs.Number.{number_tag, minus_tag, number_bytes}
use Rattle.page.specs.Encode.{boolean_byte}
use Rattle.spec.specs.Pass.{Done, Pass, Mid, none, node}
use Rattle.spec.specs.Output.{leaf, null_node}
use Rattle.spec.specs.Visit as W
use Rattle.spec.specs.Visit.{visit_exprs}
use Rattle.spec.specs.Transform.{templates_row, stands}
use Rattle.strings.specs.Due.{graver, long_due, grave}
use Rattle.strings.specs.Recorded.{recorded}
use Rattle.walk.specs.declared.state.Walk.{Walk}
use Rattle.walk.specs.declared.state.Seen.{Seen}

pub record World : Type 0 where
  pub templates : Bytes
  pub page : Bytes
  pub st : Walk

abbrev pub at : Bytes → Bytes → Walk → World
at t p s = record { templates = t; page = p; st = s }

-- ---- what the passes do

-- what a visit comes upon: the helpers it calls, and what is due by its flags and by bodies that are too long
abbrev pub noted : Done Row → Seen → Seen
noted d s =
    record {
      jsx = s.jsx || stands 0x94 d.value;
      attr = s.attr || stands 0x91 d.value;
      escape = s.escape || stands 0x92 d.value;
      due = graver s.due (graver (grave d.flags) (long_due (long_body (templates_row d.templates) || long_body d.value)));
    }

-- the templates and the row of a visit, written
abbrev pub wrote : Done Row → World → World
wrote d w =
    record {
      templates = recorded d.templates w.templates w.st.templates;
      page = put w.page w.st.page (bytes d.value);
      st =
          record {
            first = w.st.first;
            later = w.st.later + d.taken;
            templates = w.st.templates + length (bytes (templates_row d.templates));
            page = w.st.page + length (bytes d.value);
            seen = noted d w.st.seen;
          };
    }

-- the second pass over expressions
unfoldable pub see : Mid → World → World
see m w = wrote (visit_exprs m w.st.later) w

-- numbers of a first pass; its templates are the record walk's, and so is what is due by them and by its flags
abbrev pub passed : Done Mid → World → World
passed d w =
    record {
      templates = w.templates;
      page = w.page;
      st = record { first = w.st.first + d.taken; later = w.st.later; templates = w.st.templates; page = w.st.page; seen = w.st.seen };
    }

-- a first pass with numbers from `first` on, and the second over what it leaves
unfoldable pub act : Pass Mid → World → World
act p w = let d = p w.st.first in passed d (see d.value w)

-- ---- fields

-- another place in page out
abbrev pub to_page : ℕ → Walk → Walk
to_page n s = record { first = s.first; later = s.later; templates = s.templates; page = n; seen = s.seen }

-- so many bytes on
abbrev pub along : ℕ → World → World
along n w = at w.templates w.page (to_page (w.st.page + n) w.st)

-- a field's head is left open
abbrev pub begun : World → World
begun w = along 3 w

-- a call of a template, whose head is left open: it takes the next number of the first pass
abbrev pub numbered : World → World
numbered w =
    record {
      templates = w.templates;
      page = put w.page (w.st.page + 3) (big_endian 4 w.st.first []);
      st = record { first = w.st.first + 1; later = w.st.later; templates = w.st.templates; page = w.st.page + 7; seen = w.st.seen };
    }

abbrev pub marked : ℕ → ℕ → Seen → Seen
marked t n s =
    record {
      jsx = s.jsx || eqb t 0x94;
      attr = s.attr || eqb t 0x91;
      escape = s.escape || eqb t 0x92;
      due = graver s.due (long_due (ltb 65535 n));
    }

-- the head at p of a field that ends here
abbrev pub wrap : ℕ → ℕ → World → World
wrap t p w =
    record {
      templates = w.templates;
      page = put w.page p (head t (w.st.page - (p + 3)));
      st = record { first = w.st.first; later = w.st.later; templates = w.st.templates; page = w.st.page; seen = marked t (w.st.page - (p + 3)) w.st.seen };
    }

abbrev pub begun_if : Bool → World → World
begun_if b w = pick b (begun w) w

abbrev pub wrap_if : Bool → ℕ → ℕ → World → World
wrap_if b t p w = pick b (wrap t p w) w

-- a tag is left
unfoldable pub left : World → World
left w = wrote (W.leave w.st.later) w

-- a run of n bytes that stands behind an open head becomes a 70, where it holds something
abbrev pub flushed : ℕ → World → World
flushed n w = pick (eqb n 0) w (wrap 0x70 w.st.page (along (3 + n) w))

-- the properties that began at q end: null for none
abbrev pub props_closed : ℕ → World → World
props_closed q w = pick (eqb w.st.page (q + 3)) (see null_node (at w.templates w.page (to_page q w.st))) (wrap 0x95 q w)

-- an expression in which no tag stands
unfoldable pub literal : P.Expr → Mid
literal (P.string_literal b) = leaf 0x70 b
literal (P.number_literal n) = leaf (number_tag n) (number_bytes n)
literal (P.boolean_literal b) = leaf 0x72 (boolean_byte b ∷ [])
literal P.null_literal = null_node
literal (P.other_literal b) = leaf 0x74 b
literal (P.minus_literal n) = leaf (minus_tag n) (number_bytes n)
literal (P.array_literal is) = null_node
literal (P.other_expr ps) = null_node
literal (P.tag_expr t) = null_node

-- an array of a hole, or the hole alone
abbrev pub hole_mid : Bool → Mid
hole_mid true = leaf 0x78 []
hole_mid false = node 0x76 [] (leaf 0x78 []) none

-- ---- room

pub record Low (st : Walk) : Type 0 where
  pub low_first : st.first < 2 ^ 63
  pub low_later : st.later < 2 ^ 63
  pub low_templates : st.templates + 8 < 2 ^ 63
  pub low_page : st.page + 8 < 2 ^ 63
