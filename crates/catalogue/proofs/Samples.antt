-- Calls of the project's catalogue with their answers, by computation. Assumes nothing.
use Prim.Native.Nat.{ℕ}
use mathlib.Core.Path.{◌≡◌, refl}
use mathlib.Core.List.{List, [], ◌∷◌, ◌++◌}
use lib.Dec.{eqb}
use lib.ListN.{replicate}
use Rattle.field.specs.Bytes.{Bytes, pick, same}
use Rattle.field.specs.Number.{big_endian, number_from}
use Rattle.field.specs.Row.{field_bytes, bytes, inside, next_of, opened, read_from, read}
use Rattle.utf8.specs.Utf8 as U
use Rattle.page.specs.Tree.{choose}
use Rattle.refusal.specs.Refusal.{refusal_number, verdict_number}
use Rattle.refusal.specs.Refusal as V
use Rattle.page.specs.Check.{check_text, check_empty}
use Rattle.outs.specs.Held.{held, read_out}
use Rattle.outs.specs.PageOut.{within, check_leaf, good, check_page_out}
use Rattle.outs.specs.Templates.{all_kinds, front_of_record, check_strings, check_strings_of, check_records, check_templates}
use Rattle.spec.specs.Output.{kind_bytes}
use Rattle.spec.specs.Demand.{templates_in, strings_in}
use Rattle.convert.specs.Kinds.{passed, all_passed, kind_there, kinds_from}
use Rattle.convert.specs.Convert.{agrees}
use Rattle.catalogue.specs.Page.{Page, A14}
use Rattle.catalogue.specs.Catalogue.{page_then, row, size, row_size, build, add, all_zero, page_in, page_right, read_page, read_row, present, names_differ, no_name_twice, read_catalogue}
use Rattle.catalogue.specs.Shares.{Shares, total, each, shares_right, used, unused, but}
use Rattle.catalogue.specs.Calls.{unless, room, arrival, without, leaving, Call, arrives, leaves, called, judged, outcome, number, left_by, answer, after_calls}
use Rattle.catalogue.specs.Numbers.{changed, raised, opposite, up, down}
use Rattle.catalogue.specs.Judged.{all_agree, recorded_numbers, called_numbers, occurrences, once, each_once, forms, numbered, first_of, judge, project}

-- a record of number n with the strings `<p>` and `</p>` and one gap of that kind, 2 where a child comes
template : (n kind : ℕ) → Bytes
template n kind = 0x84 ∷ 0 ∷ 20 ∷ 0 ∷ 0 ∷ 0 ∷ n ∷ 0 ∷ 1 ∷ kind ∷ 0x81 ∷ 0 ∷ 3 ∷ 0x3c ∷ 0x70 ∷ 0x3e ∷ 0x81 ∷ 0 ∷ 4 ∷ 0x3c ∷ 0x2f ∷ 0x70 ∷ 0x3e ∷ []

-- a statement that calls it with null
statement : ℕ → Bytes
statement n = 0x12 ∷ 0 ∷ 10 ∷ 0x90 ∷ 0 ∷ 7 ∷ 0 ∷ 0 ∷ 0 ∷ n ∷ 0x73 ∷ 0 ∷ 0 ∷ []

page : (name house : ℕ) → (templates page_out : Bytes) → Page
page x h t p = record { name = x; house = h; body = record { templates = t; page_out = p } }

-- house 1 is guaranteed 60 bytes; no house may have more than 120
shares : Shares
shares = record { guarantee = λ h. pick (eqb h 1) 60 0; most = λ h. 120 }

two_pages : List Call
two_pages = arrives (page 7 1 (template 1 2) (statement 1)) ∷ arrives (page 8 2 (template 2 2 ++ template 1 2) (statement 1 ++ statement 2)) ∷ []

-- what a call computes with
unfoldable answer_of : Call → Bytes → ℕ
unfolding same big_endian number_from field_bytes bytes inside next_of opened read_from read choose refusal_number V.after check_text check_empty held read_out within check_leaf good check_page_out all_kinds front_of_record check_strings check_strings_of check_records check_templates kind_bytes templates_in strings_in passed all_passed kind_there kinds_from agrees verdict_number page_then row size row_size build add all_zero page_in page_right read_page read_row present names_differ no_name_twice read_catalogue total each shares_right used unused but unless room arrival without leaving called judged outcome number left_by after_calls changed raised opposite up down all_agree recorded_numbers called_numbers occurrences once each_once forms numbered first_of judge project U.forms U.begun U.utf8_behind U.utf8
answer_of c b = answer (project A14) shares c b

-- the calls one after the other, at 160 bytes of zeros
after : List Call → Bytes
after cs = after_calls (project A14) shares cs (replicate 160 0)

-- the second page's numbers 2 and 1 are 3 and 2 of the catalogue, behind one template
stand_together : after two_pages
    ≡ (0x97 ∷ 0 ∷ 0 ∷ 0 ∷ 7 ∷ 1 ∷ 0 ∷ 0 ∷ 0 ∷ 23 ∷ 0 ∷ 0 ∷ 0 ∷ 13 ∷ []) ++ (template 1 2 ++ (statement 1
    ++ ((0x97 ∷ 0 ∷ 0 ∷ 0 ∷ 8 ∷ 2 ∷ 0 ∷ 0 ∷ 0 ∷ 46 ∷ 0 ∷ 0 ∷ 0 ∷ 26 ∷ []) ++ (template 3 2 ++ (template 2 2 ++ (statement 2 ++ (statement 3 ++ replicate 24 0)))))))
unfolding after template statement page shares two_pages answer_of
stand_together = refl

-- the first page left: the second closes up and has its own numbers
closed_up : after (two_pages ++ (leaves 7 ∷ []))
    ≡ (0x97 ∷ 0 ∷ 0 ∷ 0 ∷ 8 ∷ 2 ∷ 0 ∷ 0 ∷ 0 ∷ 46 ∷ 0 ∷ 0 ∷ 0 ∷ 26 ∷ []) ++ (template 2 2 ++ (template 1 2 ++ (statement 1 ++ (statement 2 ++ replicate 74 0))))
unfolding after template statement page shares two_pages answer_of
closed_up = refl

answers : List Call → Bytes → List ℕ
answers [] b = []
answers (c ∷ cs) b = answer_of c b ∷ answers cs b

-- at 110 bytes of zeros, of which house 1 has 60: a sound page; a kind that is not its string's; a number that is not 1; called twice, or not at all; recorded
-- twice; an import where a template is; a house 17
numbers : answers
    (arrives (page 7 2 (template 1 2) (statement 1))
    ∷ arrives (page 7 2 (template 1 1) (statement 1))
    ∷ arrives (page 7 2 (template 2 2) (statement 2))
    ∷ arrives (page 7 2 (template 1 2) (statement 1 ++ statement 1))
    ∷ arrives (page 7 2 (template 1 2 ++ template 2 2) (statement 1 ++ statement 1))
    ∷ arrives (page 7 2 (template 1 2) [])
    ∷ arrives (page 7 2 (template 1 2 ++ template 1 2) (statement 1 ++ statement 1))
    ∷ arrives (page 7 2 (statement 1) [])
    ∷ arrives (page 7 17 [] [])
    ∷ leaves 7 ∷ [])
    (replicate 110 0)
    ≡ 0 ∷ 17 ∷ 17 ∷ 17 ∷ 17 ∷ 17 ∷ 17 ∷ 4 ∷ 26 ∷ 22 ∷ []
unfolding after template statement page shares two_pages answer_of answers
numbers = refl
