-- The export: the items with the place of the templates among them, the import, and the whole answer. Assumes nothing: these are definitions.
use Rattle.std.specs.Prelude.{ℕ, ◌+◌, ◌≤◌, Bool, true, false, ◌||◌, not, [], ◌∷◌, ◌++◌, ◌≡◌, eqb, leb, ltb, length}
use Rattle.field.specs.Bytes.{Bytes, among, ascii, pick}
use Rattle.field.specs.Row.{Row, end, loose, field, bytes, read, long_body}
use Rattle.field.specs.Put.{put, head}
use Rattle.page.specs.Page as P
use Rattle.page.specs.Page.{Options, Page}
use Rattle.decisions.specs.Index.{names_of}
use Rattle.page.specs.Tree.{pieces_in, module_items_in, listed_in, options_in}
use Rattle.refusal.specs.Refusal.{Verdict, Fine, Refused, unless, after}
use Rattle.refusal.specs.declared.Refusal.TheVariants as R
use Rattle.spec.specs.Pass.{Done, Mid, none, node}
use Rattle.spec.specs.Transform as T
use Rattle.spec.specs.Transform.{pieces, templates_row, page_out_row, stands}
use Rattle.spec.specs.Answer.{Outcome, number, bytes_of_templates, bytes_of_page, templates, templates_left, page_left, scratch_left}
use Rattle.strings.specs.Due.{graver, long_due, grave}
use Rattle.strings.specs.declared.due.Due.{Due}
use Rattle.strings.specs.declared.due.Due.TheVariants as D
use Rattle.strings.specs.Recorded.{recorded}
use Rattle.walk.specs.declared.state.Walk.{Walk}
use Rattle.walk.specs.See.{World, at, to_page}
use Rattle.transform.specs.declared.Answer.{Answer}

-- ---- items

-- one with that tag, by the fields of it
abbrev pub item_mid : Options → ℕ → Row → Mid
item_mid o t r = node t [] (pieces o (pieces_in r)) none

-- the place of the templates, in front of others
abbrev pub placed_before : Bool → Mid → Mid
placed_before true m = node 0x83 [] none m
placed_before false m = m

-- where it is due the place of the templates stands before the first 10 or 12
unfoldable pub module_mid : Options → (due : Bool) → Page → Mid
module_mid o due [] = none
module_mid o due (P.export_item ps ∷ is) = placed_before due (node 0x10 [] (pieces o ps) (module_mid o false is))
module_mid o due (P.declaration_item ps ∷ is) = node 0x11 [] (pieces o ps) (module_mid o due is)
module_mid o due (P.statement_item ps ∷ is) = placed_before due (node 0x12 [] (pieces o ps) (module_mid o false is))
module_mid o due (P.empty_item ∷ is) = node 0x13 [] none (module_mid o due is)

unfoldable pub page_has_statement : Page → Bool
page_has_statement [] = false
page_has_statement (P.export_item ps ∷ is) = true
page_has_statement (P.declaration_item ps ∷ is) = page_has_statement is
page_has_statement (P.statement_item ps ∷ is) = true
page_has_statement (P.empty_item ∷ is) = page_has_statement is

-- the items before the first 10 or 12
unfoldable pub items_before : Page → Page
items_before [] = []
items_before (P.export_item ps ∷ is) = []
items_before (P.declaration_item ps ∷ is) = P.declaration_item ps ∷ items_before is
items_before (P.statement_item ps ∷ is) = []
items_before (P.empty_item ∷ is) = P.empty_item ∷ items_before is

-- that one and what follows
unfoldable pub items_from : Page → Page
items_from [] = []
items_from (P.export_item ps ∷ is) = P.export_item ps ∷ is
items_from (P.declaration_item ps ∷ is) = items_from is
items_from (P.statement_item ps ∷ is) = P.statement_item ps ∷ is
items_from (P.empty_item ∷ is) = items_from is

-- what stands in front of the place of the templates, and what follows it: where there is no 10 and no 12, nothing, and all
abbrev pub front_items : Page → Page
front_items is = pick (page_has_statement is) (items_before is) []

abbrev pub back_items : Page → Page
back_items is = pick (page_has_statement is) (items_from is) is

-- s is cut there into a and b
pub record Splits (s a b : Bytes) : Type 0 where
  pub sizes : length a + length b ≡ length s
  pub before : module_items_in (read a) ≡ front_items (module_items_in (read s))
  pub from : module_items_in (read b) ≡ back_items (module_items_in (read s))

-- with the place of the templates before the first 10 or 12; none stands: before all items
abbrev pub items_mid : Options → Page → Mid
items_mid o is = placed_before (not (page_has_statement is)) (module_mid o (page_has_statement is) is)

-- ---- what shows that templates are recorded: an element among the pieces that becomes one

unfoldable pub tag_html : Options → P.Tag → Bool
tag_html o (P.element n as' cs) = (T.element_of o n (T.attributes o as') (T.children o cs)).serializable
tag_html o (P.fragment cs) = false

unfoldable pub piece_html : Options → P.Pieces → Bool
piece_html o P.no_pieces = false
piece_html o (P.source_piece b ps) = piece_html o ps
piece_html o (P.tag_piece t ps) = tag_html o t || piece_html o ps

unfoldable pub has_html : Options → Page → Bool
has_html o [] = false
has_html o (P.export_item ps ∷ is) = piece_html o ps || has_html o is
has_html o (P.declaration_item ps ∷ is) = piece_html o ps || has_html o is
has_html o (P.statement_item ps ∷ is) = piece_html o ps || has_html o is
has_html o (P.empty_item ∷ is) = has_html o is

-- ---- the walk over the page

abbrev pub started : ℕ → Walk
started p = record { first = 1; later = 1; templates = 0; page = p; seen = record { jsx = false; attr = false; escape = false; due = D.Nothing } }

-- the sum of the helpers called; a template was called where a number was taken
abbrev pub sum_of : Walk → ℕ
sum_of w = pick w.seen.jsx 1 0 + pick (ltb 1 w.later) 2 0 + pick w.seen.attr 4 0 + pick w.seen.escape 8 0

unfoldable pub import_bytes : Bytes → ℕ → Bytes
import_bytes source sum = bytes (field 0x82 [] (field 0x81 (source ++ ascii "/jsx-runtime") end (loose (sum ∷ []))) end)

-- the import before a, and the place of the templates between a and b, where the state says that they are due
unfoldable pub headed : (source : Bytes) → Walk → (a b : Bytes) → Bytes
headed source w a b =
    pick (ltb 1 w.later) (import_bytes source (sum_of w) ++ (a ++ (head 0x83 0 ++ b)))
    (pick (eqb (sum_of w) 0) (a ++ b) (import_bytes source (sum_of w) ++ (a ++ b)))

-- it is written into o, and the state is the one behind it
pub record Headed (source : Bytes) (w : Walk) (o a b page : Bytes) (w' : Walk) : Type 0 where
  pub page_is : page ≡ put o 0 (headed source w a b)
  pub state_is : w' ≡ to_page (length (headed source w a b)) w

-- both outputs of a result, as the walk leaves them, and the state behind them
abbrev pub written_page : Options → Done Row → (templates page : Bytes) → World
written_page o d t p =
    at (recorded d.templates t 0) (put p 0 (bytes (page_out_row o d)))
    (record {
      first = 1;
      later = 1 + length d.templates;
      templates = length (bytes (templates_row d.templates));
      page = length (bytes (page_out_row o d));
      seen =
          record {
            jsx = stands 0x94 d.value;
            attr = stands 0x91 d.value;
            escape = stands 0x92 d.value;
            due = graver (grave d.flags) (long_due (long_body (templates_row d.templates) || long_body d.value));
          };
    })

-- the same of a page that is transformed under these options
abbrev pub transformed_page : (options : Bytes) → Page → (templates page : Bytes) → World
transformed_page options p = written_page (options_in (read options)) (T.transform (options_in (read options)) p)

-- names list what 02 and 03 of the options do
abbrev pub Lists : (skip props options : Bytes) → Type 0
Lists skip props options =
    ((n : Bytes) → among n (names_of skip) ≡ among n (listed_in 2 (read options))) × ((n : Bytes) → among n (names_of props) ≡ among n (listed_in 3 (read options)))

-- a 01 stands in front
abbrev pub fronted : Row → Bool
fronted end = false
fronted (loose b) = false
fronted (field t f i r) = eqb t 0x01

-- what the walks ask of a page, as it came or with its sums worked out, of its options and of scratch
pub record Ready (page options : Bytes) (scratch : ℕ) : Type 0 where
  pub scratch_enough : 65536 ≤ scratch
  pub page_short : length page ≤ 65536
  pub page_fronted : fronted (read page) ≡ true
  pub options_short : length options ≤ 4096

-- the refusal that is due
abbrev pub due_verdict : Due → Verdict
due_verdict D.Nothing = Fine
due_verdict D.Long = Refused R.OutputTooLong
due_verdict D.Mixed = Refused R.MixedCaseVoid
due_verdict D.Repeated = Refused R.RepeatedAttribute
due_verdict D.Left = Refused R.TagLeft

-- 10, 16, 19, 11, 12 and 13 by the state
abbrev pub verdict_of : Walk → (templates_room page_room : ℕ) → Verdict
verdict_of w tr pr =
    after (due_verdict w.seen.due) λ _.
    after (unless (leb w.templates tr) R.TemplatesTooSmall) λ _.
    unless (leb w.page pr) R.PageTooSmall

-- ---- the whole answer: 01's number and values, and every byte lent

pub record Answers (x : Outcome) (scratch templates_out page_out : Bytes) (a : Answer) (scratch' templates_out' page_out' : Bytes) : Type 0 where
  pub number_is : a.number ≡ number x
  pub templates_bytes_is : a.templates_bytes ≡ bytes_of_templates x
  pub page_bytes_is : a.page_bytes ≡ bytes_of_page x
  pub templates_is : a.templates ≡ templates x
  pub scratch_is : scratch' ≡ scratch_left x scratch
  pub templates_out_is : templates_out' ≡ templates_left x templates_out
  pub page_out_is : page_out' ≡ page_left x page_out
