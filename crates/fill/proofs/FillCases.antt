-- Orders and what they come to, by computation: filled, each cause of 18, and 3, 4, 6 and 13. Main statement: `cases`. Assumes nothing.
use Prim.Native.Nat.{ℕ}
use mathlib.Core.Path.{◌≡◌, refl}
use mathlib.Core.List.{[], ◌∷◌, ◌++◌}
use lib.ListN.{length}
use Rattle.field.specs.Bytes.{Bytes, ascii}
use Rattle.field.specs.Number.{big_endian, number_from}
use Rattle.field.specs.Row.{read, read_from, inside, next_of, opened, built}
use Rattle.text.specs.Escape.{escape_html, escape_byte}
use Rattle.utf8.specs.Utf8.{utf8, utf8_behind, begun, forms}
use Rattle.page.specs.Tree.{choose}
use Rattle.page.specs.Check.{check_header, check_text, check_end, check_empty, check_nothing_after}
use Rattle.refusal.specs.Refusal.{after, refusal_number}
use Rattle.outs.specs.Templates.{check_templates, check_records, check_strings_of, check_strings, front_of_record, all_kinds}
use Rattle.spec.specs.Demand.{strings_in}
use Rattle.spec.specs.Words.{free}
use Rattle.fill.specs.Order.{read_order, held_in_order, check_order, check_fillings}
use Rattle.fill.specs.Html.{recorded, first_with, template_of, text_filling, in_turn, last_string, fill_gaps, html_of}
use Rattle.fill.specs.Answer.{Outcome, refused, filled, past, html_written, outcome}

-- a field, and the number of a record
abbrev a_field : ℕ → Bytes → Bytes
unfolding big_endian
a_field t b = t ∷ (big_endian 2 (length b) [] ++ b)

abbrev numbered : ℕ → Bytes
numbered k = 0 ∷ 0 ∷ 0 ∷ k ∷ []

-- a record with an attribute and a child to be filled, and one without a gap
abbrev link : Bytes
link = a_field 0x84 (numbered 1 ++ ((0 ∷ 2 ∷ 1 ∷ 2 ∷ []) ++ (a_field 0x81 (ascii "<a ") ++ (a_field 0x81 (ascii ">") ++ a_field 0x81 (ascii "</a>")))))

abbrev line : Bytes
line = a_field 0x84 (numbered 2 ++ ((0 ∷ 0 ∷ []) ++ a_field 0x81 (ascii "<br>")))

abbrev order : ℕ → Bytes → Bytes
order k fillings = a_field 0x85 (numbered k ++ fillings)

abbrev attribute : Bytes → Bytes
attribute t = a_field 0x86 t

abbrev text : Bytes → Bytes
text t = a_field 0x87 t

abbrev run : Bytes → Bytes → ℕ → Outcome
unfolding big_endian number_from begun forms read read_from inside next_of opened built escape_html escape_byte utf8 utf8_behind choose check_header check_text check_end check_empty check_nothing_after after refusal_number check_templates check_records check_strings_of check_strings front_of_record all_kinds strings_in free read_order held_in_order check_order check_fillings recorded first_with template_of text_filling in_turn last_string fill_gaps html_of past html_written outcome
run ts o room = outcome ts o room

pub record Cases : Type 0 where
  in_turn_is : run (link ++ line) (order 1 (attribute (ascii "x=1") ++ text (ascii "<"))) 99 ≡ filled (ascii "<a x=1>&lt;</a>")
  inner_order : run (link ++ line) (order 1 (attribute [] ++ order 2 [])) 12 ≡ filled (ascii "<a ><br></a>")
  no_room : run (link ++ line) (order 1 (attribute [] ++ order 2 [])) 11 ≡ refused 13
  one_too_few : run (link ++ line) (order 1 (attribute [])) 99 ≡ refused 18
  one_too_many : run (link ++ line) (order 2 (text [])) 99 ≡ refused 18
  text_in_a_tag : run (link ++ line) (order 1 (text [] ++ text [])) 99 ≡ refused 18
  attribute_outside : run (link ++ line) (order 1 (attribute [] ++ attribute [])) 99 ≡ refused 18
  order_in_a_tag : run (link ++ line) (order 1 (order 2 [] ++ text [])) 99 ≡ refused 18
  sign_in_a_tag : run (link ++ line) (order 1 (attribute (ascii ">") ++ text [])) 99 ≡ refused 18
  unknown : run (link ++ line) (order 3 []) 99 ≡ refused 18
  recorded_twice : run (link ++ (line ++ line)) (order 2 []) 99 ≡ refused 18
  others_twice : run (link ++ (line ++ line)) (order 1 (attribute [] ++ text [])) 99 ≡ filled (ascii "<a ></a>")
  no_order : run (link ++ line) [] 99 ≡ refused 3
  no_85 : run (link ++ line) (attribute []) 99 ≡ refused 4
  not_alone : run (link ++ line) (order 2 [] ++ order 2 []) 99 ≡ refused 3
  no_number : run (link ++ line) (a_field 0x85 (0 ∷ [])) 99 ≡ refused 4
  no_text : run (link ++ line) (order 3 (text (255 ∷ []))) 99 ≡ refused 6

pub cases : Cases
unfolding run
cases =
    record {
      in_turn_is = refl;
      inner_order = refl;
      no_room = refl;
      one_too_few = refl;
      one_too_many = refl;
      text_in_a_tag = refl;
      attribute_outside = refl;
      order_in_a_tag = refl;
      sign_in_a_tag = refl;
      unknown = refl;
      recorded_twice = refl;
      others_twice = refl;
      no_order = refl;
      no_85 = refl;
      not_alone = refl;
      no_number = refl;
      no_text = refl;
    }
