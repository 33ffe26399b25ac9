-- Texts and their whole answers, by computation: numbers, and fields with their bytes as 01 and 02 have them. Bytes lent are 109.
-- Assumes nothing.
use Prim.Native.Nat.{ℕ}
use mathlib.Core.Path.{◌≡◌, refl}
use mathlib.Core.List.{[], ◌∷◌}
use lib.ListN.{replicate}
use Rattle.field.specs.Bytes.{Bytes}
use Rattle.field.specs.Bytes as B
use Rattle.tag_tree.specs.TagAnswer.{TagOutcome}
use Rattle.field.specs.Bytes.{same, among}
use Rattle.field.specs.Number.{big_endian, number_from}
use Rattle.field.specs.Row.{field_bytes, bytes, long_body, inside, next_of, opened, built, read_from, read}
use Rattle.field.specs.Put.{put}
use Rattle.utf8.specs.Utf8.{forms, begun, utf8_behind, utf8, all_ascii}
use Rattle.page.specs.Number.{number_tag, minus_tag, at_most_15, render, number_bytes, number_in, number_length, in_range}
use Rattle.page.specs.Encode.{texts_row, name_row, attr_name_row, module_items_row, page_row, encode, list_row, options_row, encode_options, tag_row}
use Rattle.grammar.specs.Signs.{choose, each, letter, digit, name_byte, separator, space, name_goes_on, equals_sign, text_byte, string_byte, entity_byte, quote, quoted_byte, source_byte, source_start}
use Rattle.grammar.specs.Known.{trimmed_front, kept, trimmed_end, value_from, is_whole, before_point, after_point, is_empty_text, is_decimal, number_of, unsigned, has_minus, string_from, string_of, digit_or_point, of_a_number, not_read, rest_of, or_else, known_trimmed, known_of, entity_of}
use Rattle.grammar.specs.Syntax.{short, no_hyphen, member_parts, attribute_name_fits, member_fits, tag_name_fits, same_name, matched, join_attributes, join_children, every_tag}
use Rattle.grammar.specs.Reader.{closed, filled, filled_if, emptied, pointed, close_of, brace_ends, resumed, resumed_if, fits, named, step_tag, step_attribute_named, step_close_named, step_of_named, step_behind, step_source, step_children, step, at_end, outcome, judged, answer}
use Rattle.tag_tree.specs.PageTag.{idents, page_name, page_attr_name, page_known, page_tag_by, page_tag}
use Rattle.tag_tree.specs.TagAnswer.{tag_refusal_number, known_in_range, numbers_in_range, shallow, tag_field, tag_encode, given, within, answered, tag_outcome, tag_number, bytes_of_tag, tag_left}

record Reply : Type 0 where
  number : ℕ
  written : ℕ
  out : Bytes

unfoldable reply : TagOutcome → Bytes → Reply
unfolding same among big_endian number_from field_bytes bytes long_body inside next_of opened built read_from read put forms begun utf8_behind utf8 all_ascii number_tag minus_tag at_most_15 render number_bytes number_in number_length in_range texts_row name_row attr_name_row module_items_row page_row encode list_row options_row encode_options tag_row choose each letter digit name_byte separator space name_goes_on equals_sign text_byte string_byte entity_byte quote quoted_byte source_byte source_start trimmed_front kept trimmed_end value_from is_whole before_point after_point is_empty_text is_decimal number_of unsigned has_minus string_from string_of digit_or_point of_a_number not_read rest_of or_else known_trimmed known_of entity_of short no_hyphen member_parts attribute_name_fits member_fits tag_name_fits same_name matched join_attributes join_children every_tag closed filled filled_if emptied pointed close_of brace_ends resumed resumed_if fits named step_tag step_attribute_named step_close_named step_of_named step_behind step_source step_children step at_end outcome judged answer idents page_name page_attr_name page_known page_tag_by page_tag tag_refusal_number known_in_range numbers_in_range shallow tag_field tag_encode given within answered tag_outcome tag_number bytes_of_tag tag_left
reply o b = record { number = tag_number o; written = bytes_of_tag o; out = tag_left o b }

unfoldable computed : Bytes → ℕ → TagOutcome
unfolding same among big_endian number_from field_bytes bytes long_body inside next_of opened built read_from read put forms begun utf8_behind utf8 all_ascii number_tag minus_tag at_most_15 render number_bytes number_in number_length in_range texts_row name_row attr_name_row module_items_row page_row encode list_row options_row encode_options tag_row choose each letter digit name_byte separator space name_goes_on equals_sign text_byte string_byte entity_byte quote quoted_byte source_byte source_start trimmed_front kept trimmed_end value_from is_whole before_point after_point is_empty_text is_decimal number_of unsigned has_minus string_from string_of digit_or_point of_a_number not_read rest_of or_else known_trimmed known_of entity_of short no_hyphen member_parts attribute_name_fits member_fits tag_name_fits same_name matched join_attributes join_children every_tag closed filled filled_if emptied pointed close_of brace_ends resumed resumed_if fits named step_tag step_attribute_named step_close_named step_of_named step_behind step_source step_children step at_end outcome judged answer idents page_name page_attr_name page_known page_tag_by page_tag tag_refusal_number known_in_range numbers_in_range shallow tag_field tag_encode given within answered tag_outcome tag_number bytes_of_tag tag_left
computed s room = tag_outcome s room

tag_of_demo : reply (tag_outcome (B.ascii "<p class=\"t\">Hi {n}</p>") 40) (replicate 40 109) ≡ record { number = 0; written = 38; out = (48 ∷ 0 ∷ 35 ∷ 64 ∷ 0 ∷ 1 ∷ 112 ∷ 80 ∷ 0 ∷ 12 ∷ 64 ∷ 0 ∷ 5 ∷ 99 ∷ 108 ∷ 97 ∷ 115 ∷ 115 ∷ 81 ∷ 0 ∷ 1 ∷ 116 ∷ 96 ∷ 0 ∷ 3 ∷ 72 ∷ 105 ∷ 32 ∷ 82 ∷ 0 ∷ 7 ∷ 121 ∷ 0 ∷ 4 ∷ 32 ∷ 0 ∷ 1 ∷ 110 ∷ 109 ∷ 109 ∷ []) }
unfolding computed reply
tag_of_demo = refl

fragment_with_prices : reply (tag_outcome (B.ascii "<>{12.50}{- 0.05}{-7}{0}</>") 63) (replicate 63 109) ≡ record { number = 0; written = 61; out = (49 ∷ 0 ∷ 58 ∷ 82 ∷ 0 ∷ 12 ∷ 122 ∷ 0 ∷ 9 ∷ 0 ∷ 0 ∷ 0 ∷ 0 ∷ 0 ∷ 0 ∷ 4 ∷ 226 ∷ 2 ∷ 82 ∷ 0 ∷ 12 ∷ 123 ∷ 0 ∷ 9 ∷ 0 ∷ 0 ∷ 0 ∷ 0 ∷ 0 ∷ 0 ∷ 0 ∷ 5 ∷ 2 ∷ 82 ∷ 0 ∷ 11 ∷ 117 ∷ 0 ∷ 8 ∷ 0 ∷ 0 ∷ 0 ∷ 0 ∷ 0 ∷ 0 ∷ 0 ∷ 7 ∷ 82 ∷ 0 ∷ 11 ∷ 113 ∷ 0 ∷ 8 ∷ 0 ∷ 0 ∷ 0 ∷ 0 ∷ 0 ∷ 0 ∷ 0 ∷ 0 ∷ 109 ∷ 109 ∷ []) }
unfolding computed reply
fragment_with_prices = refl

member_and_namespaced : reply (tag_outcome (B.ascii "<a . b c:d {...e}>{...f}{}</a.b>") 53) (replicate 53 109) ≡ record { number = 0; written = 51; out = (48 ∷ 0 ∷ 48 ∷ 65 ∷ 0 ∷ 8 ∷ 64 ∷ 0 ∷ 1 ∷ 97 ∷ 64 ∷ 0 ∷ 1 ∷ 98 ∷ 80 ∷ 0 ∷ 11 ∷ 66 ∷ 0 ∷ 8 ∷ 64 ∷ 0 ∷ 1 ∷ 99 ∷ 64 ∷ 0 ∷ 1 ∷ 100 ∷ 83 ∷ 0 ∷ 7 ∷ 121 ∷ 0 ∷ 4 ∷ 32 ∷ 0 ∷ 1 ∷ 101 ∷ 97 ∷ 0 ∷ 7 ∷ 121 ∷ 0 ∷ 4 ∷ 32 ∷ 0 ∷ 1 ∷ 102 ∷ 82 ∷ 0 ∷ 0 ∷ 109 ∷ 109 ∷ []) }
unfolding computed reply
member_and_namespaced = refl

strings_and_tags : reply (tag_outcome (B.ascii "<a b='&quot;'c=<i/>>{ 'x' }{true}{null}{ <i/> }</a>") 64) (replicate 64 109) ≡ record { number = 0; written = 62; out = (48 ∷ 0 ∷ 59 ∷ 64 ∷ 0 ∷ 1 ∷ 97 ∷ 80 ∷ 0 ∷ 8 ∷ 64 ∷ 0 ∷ 1 ∷ 98 ∷ 81 ∷ 0 ∷ 1 ∷ 34 ∷ 80 ∷ 0 ∷ 11 ∷ 64 ∷ 0 ∷ 1 ∷ 99 ∷ 48 ∷ 0 ∷ 4 ∷ 64 ∷ 0 ∷ 1 ∷ 105 ∷ 82 ∷ 0 ∷ 4 ∷ 112 ∷ 0 ∷ 1 ∷ 120 ∷ 82 ∷ 0 ∷ 4 ∷ 114 ∷ 0 ∷ 1 ∷ 1 ∷ 82 ∷ 0 ∷ 3 ∷ 115 ∷ 0 ∷ 0 ∷ 82 ∷ 0 ∷ 7 ∷ 48 ∷ 0 ∷ 4 ∷ 64 ∷ 0 ∷ 1 ∷ 105 ∷ 109 ∷ 109 ∷ []) }
unfolding computed reply
strings_and_tags = refl

entity_once : reply (tag_outcome (B.ascii "<a>&amp;lt;</a>") 16) (replicate 16 109) ≡ record { number = 0; written = 14; out = (48 ∷ 0 ∷ 11 ∷ 64 ∷ 0 ∷ 1 ∷ 97 ∷ 96 ∷ 0 ∷ 4 ∷ 38 ∷ 108 ∷ 116 ∷ 59 ∷ 109 ∷ 109 ∷ []) }
unfolding computed reply
entity_once = refl

fifteen_places : reply (tag_outcome (B.ascii "<a>{0.000000000000001}</a>") 24) (replicate 24 109) ≡ record { number = 0; written = 22; out = (48 ∷ 0 ∷ 19 ∷ 64 ∷ 0 ∷ 1 ∷ 97 ∷ 82 ∷ 0 ∷ 12 ∷ 122 ∷ 0 ∷ 9 ∷ 0 ∷ 0 ∷ 0 ∷ 0 ∷ 0 ∷ 0 ∷ 0 ∷ 1 ∷ 15 ∷ 109 ∷ 109 ∷ []) }
unfolding computed reply
fifteen_places = refl

sixteen_places : reply (tag_outcome (B.ascii "<a>{0.0000000000000010}</a>") 9) (replicate 9 109) ≡ record { number = 7; written = 0; out = (0 ∷ 0 ∷ 0 ∷ 0 ∷ 0 ∷ 0 ∷ 0 ∷ 0 ∷ 0 ∷ []) }
unfolding computed reply
sixteen_places = refl

no_reading_at_all : reply (tag_outcome (B.ascii "<a b={}/>") 9) (replicate 9 109) ≡ record { number = 14; written = 0; out = (0 ∷ 0 ∷ 0 ∷ 0 ∷ 0 ∷ 0 ∷ 0 ∷ 0 ∷ 0 ∷ []) }
unfolding computed reply
no_reading_at_all = refl

other_closing_name : reply (tag_outcome (B.ascii "<a.b></a:b>") 9) (replicate 9 109) ≡ record { number = 15; written = 0; out = (0 ∷ 0 ∷ 0 ∷ 0 ∷ 0 ∷ 0 ∷ 0 ∷ 0 ∷ 0 ∷ []) }
unfolding computed reply
other_closing_name = refl

no_room : reply (tag_outcome (B.ascii "<a/>") 6) (replicate 6 109) ≡ record { number = 13; written = 0; out = (0 ∷ 0 ∷ 0 ∷ 0 ∷ 0 ∷ 0 ∷ []) }
unfolding computed reply
no_room = refl

forty_eight_deep : reply (tag_outcome (60 ∷ 62 ∷ 60 ∷ 62 ∷ 60 ∷ 62 ∷ 60 ∷ 62 ∷ 60 ∷ 62 ∷ 60 ∷ 62 ∷ 60 ∷ 62 ∷ 60 ∷ 62 ∷ 60 ∷ 62 ∷ 60 ∷ 62 ∷ 60 ∷ 62 ∷ 60 ∷ 62 ∷ 60 ∷ 62 ∷ 60 ∷ 62 ∷ 60 ∷ 62 ∷ 60 ∷ 62 ∷ 60 ∷ 62 ∷ 60 ∷ 62 ∷ 60 ∷ 62 ∷ 60 ∷ 62 ∷ 60 ∷ 62 ∷ 60 ∷ 62 ∷ 60 ∷ 62 ∷ 60 ∷ 62 ∷ 60 ∷ 62 ∷ 60 ∷ 62 ∷ 60 ∷ 62 ∷ 60 ∷ 62 ∷ 60 ∷ 62 ∷ 60 ∷ 62 ∷ 60 ∷ 62 ∷ 60 ∷ 62 ∷ 60 ∷ 62 ∷ 60 ∷ 62 ∷ 60 ∷ 62 ∷ 60 ∷ 62 ∷ 60 ∷ 62 ∷ 60 ∷ 62 ∷ 60 ∷ 62 ∷ 60 ∷ 62 ∷ 60 ∷ 62 ∷ 60 ∷ 62 ∷ 60 ∷ 62 ∷ 60 ∷ 62 ∷ 60 ∷ 62 ∷ 97 ∷ 60 ∷ 47 ∷ 62 ∷ 60 ∷ 47 ∷ 62 ∷ 60 ∷ 47 ∷ 62 ∷ 60 ∷ 47 ∷ 62 ∷ 60 ∷ 47 ∷ 62 ∷ 60 ∷ 47 ∷ 62 ∷ 60 ∷ 47 ∷ 62 ∷ 60 ∷ 47 ∷ 62 ∷ 60 ∷ 47 ∷ 62 ∷ 60 ∷ 47 ∷ 62 ∷ 60 ∷ 47 ∷ 62 ∷ 60 ∷ 47 ∷ 62 ∷ 60 ∷ 47 ∷ 62 ∷ 60 ∷ 47 ∷ 62 ∷ 60 ∷ 47 ∷ 62 ∷ 60 ∷ 47 ∷ 62 ∷ 60 ∷ 47 ∷ 62 ∷ 60 ∷ 47 ∷ 62 ∷ 60 ∷ 47 ∷ 62 ∷ 60 ∷ 47 ∷ 62 ∷ 60 ∷ 47 ∷ 62 ∷ 60 ∷ 47 ∷ 62 ∷ 60 ∷ 47 ∷ 62 ∷ 60 ∷ 47 ∷ 62 ∷ 60 ∷ 47 ∷ 62 ∷ 60 ∷ 47 ∷ 62 ∷ 60 ∷ 47 ∷ 62 ∷ 60 ∷ 47 ∷ 62 ∷ 60 ∷ 47 ∷ 62 ∷ 60 ∷ 47 ∷ 62 ∷ 60 ∷ 47 ∷ 62 ∷ 60 ∷ 47 ∷ 62 ∷ 60 ∷ 47 ∷ 62 ∷ 60 ∷ 47 ∷ 62 ∷ 60 ∷ 47 ∷ 62 ∷ 60 ∷ 47 ∷ 62 ∷ 60 ∷ 47 ∷ 62 ∷ 60 ∷ 47 ∷ 62 ∷ 60 ∷ 47 ∷ 62 ∷ 60 ∷ 47 ∷ 62 ∷ 60 ∷ 47 ∷ 62 ∷ 60 ∷ 47 ∷ 62 ∷ 60 ∷ 47 ∷ 62 ∷ 60 ∷ 47 ∷ 62 ∷ 60 ∷ 47 ∷ 62 ∷ []) 141) (replicate 141 109) ≡ record { number = 0; written = 139; out = (49 ∷ 0 ∷ 136 ∷ 49 ∷ 0 ∷ 133 ∷ 49 ∷ 0 ∷ 130 ∷ 49 ∷ 0 ∷ 127 ∷ 49 ∷ 0 ∷ 124 ∷ 49 ∷ 0 ∷ 121 ∷ 49 ∷ 0 ∷ 118 ∷ 49 ∷ 0 ∷ 115 ∷ 49 ∷ 0 ∷ 112 ∷ 49 ∷ 0 ∷ 109 ∷ 49 ∷ 0 ∷ 106 ∷ 49 ∷ 0 ∷ 103 ∷ 49 ∷ 0 ∷ 100 ∷ 49 ∷ 0 ∷ 97 ∷ 49 ∷ 0 ∷ 94 ∷ 49 ∷ 0 ∷ 91 ∷ 49 ∷ 0 ∷ 88 ∷ 49 ∷ 0 ∷ 85 ∷ 49 ∷ 0 ∷ 82 ∷ 49 ∷ 0 ∷ 79 ∷ 49 ∷ 0 ∷ 76 ∷ 49 ∷ 0 ∷ 73 ∷ 49 ∷ 0 ∷ 70 ∷ 49 ∷ 0 ∷ 67 ∷ 49 ∷ 0 ∷ 64 ∷ 49 ∷ 0 ∷ 61 ∷ 49 ∷ 0 ∷ 58 ∷ 49 ∷ 0 ∷ 55 ∷ 49 ∷ 0 ∷ 52 ∷ 49 ∷ 0 ∷ 49 ∷ 49 ∷ 0 ∷ 46 ∷ 49 ∷ 0 ∷ 43 ∷ 49 ∷ 0 ∷ 40 ∷ 49 ∷ 0 ∷ 37 ∷ 49 ∷ 0 ∷ 34 ∷ 49 ∷ 0 ∷ 31 ∷ 49 ∷ 0 ∷ 28 ∷ 49 ∷ 0 ∷ 25 ∷ 49 ∷ 0 ∷ 22 ∷ 49 ∷ 0 ∷ 19 ∷ 49 ∷ 0 ∷ 16 ∷ 49 ∷ 0 ∷ 13 ∷ 49 ∷ 0 ∷ 10 ∷ 49 ∷ 0 ∷ 7 ∷ 49 ∷ 0 ∷ 4 ∷ 96 ∷ 0 ∷ 1 ∷ 97 ∷ 109 ∷ 109 ∷ []) }
unfolding computed reply
forty_eight_deep = refl

forty_nine_deep : reply (tag_outcome (60 ∷ 62 ∷ 60 ∷ 62 ∷ 60 ∷ 62 ∷ 60 ∷ 62 ∷ 60 ∷ 62 ∷ 60 ∷ 62 ∷ 60 ∷ 62 ∷ 60 ∷ 62 ∷ 60 ∷ 62 ∷ 60 ∷ 62 ∷ 60 ∷ 62 ∷ 60 ∷ 62 ∷ 60 ∷ 62 ∷ 60 ∷ 62 ∷ 60 ∷ 62 ∷ 60 ∷ 62 ∷ 60 ∷ 62 ∷ 60 ∷ 62 ∷ 60 ∷ 62 ∷ 60 ∷ 62 ∷ 60 ∷ 62 ∷ 60 ∷ 62 ∷ 60 ∷ 62 ∷ 60 ∷ 62 ∷ 60 ∷ 62 ∷ 60 ∷ 62 ∷ 60 ∷ 62 ∷ 60 ∷ 62 ∷ 60 ∷ 62 ∷ 60 ∷ 62 ∷ 60 ∷ 62 ∷ 60 ∷ 62 ∷ 60 ∷ 62 ∷ 60 ∷ 62 ∷ 60 ∷ 62 ∷ 60 ∷ 62 ∷ 60 ∷ 62 ∷ 60 ∷ 62 ∷ 60 ∷ 62 ∷ 60 ∷ 62 ∷ 60 ∷ 62 ∷ 60 ∷ 62 ∷ 60 ∷ 62 ∷ 60 ∷ 62 ∷ 60 ∷ 62 ∷ 60 ∷ 62 ∷ 97 ∷ 60 ∷ 47 ∷ 62 ∷ 60 ∷ 47 ∷ 62 ∷ 60 ∷ 47 ∷ 62 ∷ 60 ∷ 47 ∷ 62 ∷ 60 ∷ 47 ∷ 62 ∷ 60 ∷ 47 ∷ 62 ∷ 60 ∷ 47 ∷ 62 ∷ 60 ∷ 47 ∷ 62 ∷ 60 ∷ 47 ∷ 62 ∷ 60 ∷ 47 ∷ 62 ∷ 60 ∷ 47 ∷ 62 ∷ 60 ∷ 47 ∷ 62 ∷ 60 ∷ 47 ∷ 62 ∷ 60 ∷ 47 ∷ 62 ∷ 60 ∷ 47 ∷ 62 ∷ 60 ∷ 47 ∷ 62 ∷ 60 ∷ 47 ∷ 62 ∷ 60 ∷ 47 ∷ 62 ∷ 60 ∷ 47 ∷ 62 ∷ 60 ∷ 47 ∷ 62 ∷ 60 ∷ 47 ∷ 62 ∷ 60 ∷ 47 ∷ 62 ∷ 60 ∷ 47 ∷ 62 ∷ 60 ∷ 47 ∷ 62 ∷ 60 ∷ 47 ∷ 62 ∷ 60 ∷ 47 ∷ 62 ∷ 60 ∷ 47 ∷ 62 ∷ 60 ∷ 47 ∷ 62 ∷ 60 ∷ 47 ∷ 62 ∷ 60 ∷ 47 ∷ 62 ∷ 60 ∷ 47 ∷ 62 ∷ 60 ∷ 47 ∷ 62 ∷ 60 ∷ 47 ∷ 62 ∷ 60 ∷ 47 ∷ 62 ∷ 60 ∷ 47 ∷ 62 ∷ 60 ∷ 47 ∷ 62 ∷ 60 ∷ 47 ∷ 62 ∷ 60 ∷ 47 ∷ 62 ∷ 60 ∷ 47 ∷ 62 ∷ 60 ∷ 47 ∷ 62 ∷ 60 ∷ 47 ∷ 62 ∷ 60 ∷ 47 ∷ 62 ∷ 60 ∷ 47 ∷ 62 ∷ 60 ∷ 47 ∷ 62 ∷ 60 ∷ 47 ∷ 62 ∷ 60 ∷ 47 ∷ 62 ∷ []) 9) (replicate 9 109) ≡ record { number = 8; written = 0; out = (0 ∷ 0 ∷ 0 ∷ 0 ∷ 0 ∷ 0 ∷ 0 ∷ 0 ∷ 0 ∷ []) }
unfolding computed reply
forty_nine_deep = refl
