-- Texts and their answers, by computation. Assumes nothing.
use mathlib.Core.Path.{◌≡◌, refl}
use mathlib.Core.List.{List, [], ◌∷◌}
use mathlib.Core.Bool.{true, false}
use Prim.Native.String.{String}
use Rattle.field.specs.Bytes.{ascii, same}
use Rattle.grammar.specs.Signs.{choose, each, letter, digit, name_byte, separator, space, name_goes_on, equals_sign, text_byte, string_byte, entity_byte, quote, quoted_byte, source_byte, source_start}
use Rattle.grammar.specs.Known.{Known, whole, minus_whole, decimal, minus_decimal, quoted, boolean, null, other, trimmed_front, kept, trimmed_end, value_from, is_whole, before_point, after_point, is_empty_text, is_decimal, number_of, unsigned, has_minus, string_from, string_of, digit_or_point, of_a_number, not_read, rest_of, or_else, known_trimmed, known_of, entity_of}
use Rattle.grammar.specs.Syntax.{part, Name, short, no_hyphen, member_parts, attribute_name_fits, member_fits, tag_name_fits, same_name, Tag, tag, no_attributes, attribute, Attribute, no_value, string_value, container_value, tag_value, spread_attribute, Children, no_children, child, text_child, tag_child, empty_child, container_child, spread_child, tag_expr, known_expr, every_tag, matched, join_attributes, join_children}
use Rattle.grammar.specs.Reader.{closed, filled, filled_if, emptied, pointed, close_of, brace_ends, resumed, resumed_if, fits, named, step_tag, step_attribute_named, step_close_named, step_of_named, step_behind, step_source, step_children, step, at_end, outcome, Answer, taken, refused_14, refused_15, judged, answer}

abbrev a : Name
a = part 0 (ascii "a") ∷ []

abbrev b : Name
b = part 0 (ascii "b") ∷ []

abbrev leaf : Tag
leaf = tag b no_attributes no_children b

-- `<a>` .. `</a>` with these children
abbrev with_children : Children → Answer
with_children ks = taken (tag a no_attributes ks a)

abbrev with_child : Known → Answer
with_child k = with_children (child (container_child (known_expr k)) no_children)

abbrev with_attribute : Attribute → Answer
with_attribute x = taken (tag a (attribute x no_attributes) no_children a)

abbrev Answers : List (String × Answer) → Type 0
Answers [] = Unit {0}
Answers (x ∷ xs) = (answer (ascii x.0) ≡ x.1) × Answers xs

pub samples_1 : Answers
    (("<a/>", with_children no_children)
    ∷ ("< a >< / a >", with_children no_children)
    ∷ ("<></>", taken (tag [] no_attributes no_children []))
    ∷ ("<a></>", refused_15)
    ∷ ("<></a>", refused_15)
    ∷ ("<a><b></a></b>", refused_15)
    ∷ ("<a>", refused_14)
    ∷ (" <a/>", refused_14)
    ∷ ("<a/> ", refused_14)
    ∷ ("", refused_14)
    ∷ ("<a . b/>", taken (tag (part 0 (ascii "a") ∷ part 46 (ascii "b") ∷ []) no_attributes no_children (part 0 (ascii "a") ∷ part 46 (ascii "b") ∷ [])))
    ∷ ("<a:b></a :b>", taken (tag (part 0 (ascii "a") ∷ part 58 (ascii "b") ∷ []) no_attributes no_children (part 0 (ascii "a") ∷ part 58 (ascii "b") ∷ [])))
    ∷ [])
unfolding choose same each letter digit name_byte separator space name_goes_on equals_sign text_byte string_byte entity_byte quote quoted_byte source_byte source_start trimmed_front kept trimmed_end value_from is_whole before_point after_point is_empty_text is_decimal number_of unsigned has_minus string_from string_of digit_or_point of_a_number not_read rest_of or_else known_trimmed known_of entity_of short no_hyphen member_parts attribute_name_fits member_fits tag_name_fits same_name every_tag matched join_attributes join_children closed filled filled_if emptied pointed close_of brace_ends resumed resumed_if fits named step_tag step_attribute_named step_close_named step_of_named step_behind step_source step_children step at_end outcome judged answer
samples_1 = (refl, (refl, (refl, (refl, (refl, (refl, (refl, (refl, (refl, (refl, (refl, (refl, tt))))))))))))

pub samples_2 : Answers
    (("<a-c.b/>", refused_14)
    ∷ ("<a:b.c/>", refused_14)
    ∷ ("<a b.c/>", refused_14)
    ∷ ("<a.a.a.a.a.a.a.a.a/>", refused_14)
    ∷ ("<a b/>", with_attribute (no_value b))
    ∷ ("<a b = 'x\"&lt;'/>", with_attribute (string_value b (ascii "x\"<")))
    ∷ ("<a b=<b/>/>", with_attribute (tag_value b leaf))
    ∷ ("<a b={ <b/> }/>", with_attribute (container_value b (tag_expr leaf)))
    ∷ ("<a {... 5 }/>", with_attribute (spread_attribute (known_expr (whole 5))))
    ∷ ("<a b={...x}/>", refused_14)
    ∷ ("<a b={}/>", refused_14)
    ∷ ("<a {x}/>", refused_14)
    ∷ [])
unfolding choose same each letter digit name_byte separator space name_goes_on equals_sign text_byte string_byte entity_byte quote quoted_byte source_byte source_start trimmed_front kept trimmed_end value_from is_whole before_point after_point is_empty_text is_decimal number_of unsigned has_minus string_from string_of digit_or_point of_a_number not_read rest_of or_else known_trimmed known_of entity_of short no_hyphen member_parts attribute_name_fits member_fits tag_name_fits same_name every_tag matched join_attributes join_children closed filled filled_if emptied pointed close_of brace_ends resumed resumed_if fits named step_tag step_attribute_named step_close_named step_of_named step_behind step_source step_children step at_end outcome judged answer
samples_2 = (refl, (refl, (refl, (refl, (refl, (refl, (refl, (refl, (refl, (refl, (refl, (refl, tt))))))))))))

pub samples_3 : Answers
    (("<a {...}/>", refused_14)
    ∷ ("<a> x&amp;&#39;y </a>", with_children (child (text_child (ascii " x&'y ")) no_children))
    ∷ ("<a>x & y</a>", refused_14)
    ∷ ("<a>&nbsp;</a>", refused_14)
    ∷ ("<a>></a>", refused_14)
    ∷ ("<a>{ }</a>", with_children (child empty_child no_children))
    ∷ ("<a>{...b}</a>", with_children (child (spread_child (known_expr (other (ascii "b")))) no_children))
    ∷ ("<a>{.5}</a>", refused_14)
    ∷ ("<a>{....5}</a>", refused_14)
    ∷ ("<a>{ 12 }</a>", with_child (whole 12))
    ∷ ("<a>{0}</a>", with_child (whole 0))
    ∷ ("<a>{- 0}</a>", with_child (minus_whole 0))
    ∷ [])
unfolding choose same each letter digit name_byte separator space name_goes_on equals_sign text_byte string_byte entity_byte quote quoted_byte source_byte source_start trimmed_front kept trimmed_end value_from is_whole before_point after_point is_empty_text is_decimal number_of unsigned has_minus string_from string_of digit_or_point of_a_number not_read rest_of or_else known_trimmed known_of entity_of short no_hyphen member_parts attribute_name_fits member_fits tag_name_fits same_name every_tag matched join_attributes join_children closed filled filled_if emptied pointed close_of brace_ends resumed resumed_if fits named step_tag step_attribute_named step_close_named step_of_named step_behind step_source step_children step at_end outcome judged answer
samples_3 = (refl, (refl, (refl, (refl, (refl, (refl, (refl, (refl, (refl, (refl, (refl, (refl, tt))))))))))))

pub samples_4 : Answers
    (("<a>{12.50}</a>", with_child (decimal 1250 2))
    ∷ ("<a>{-0.05}</a>", with_child (minus_decimal 5 2))
    ∷ ("<a>{007}</a>", with_child (other (ascii "007")))
    ∷ ("<a>{00.5}</a>", refused_14)
    ∷ ("<a>{1.}</a>", refused_14)
    ∷ ("<a>{1e5}</a>", refused_14)
    ∷ ("<a>{- 1_0}</a>", refused_14)
    ∷ ("<a>{1 + 2}</a>", with_child (other (ascii "1 + 2")))
    ∷ ("<a>{\"</a>\"}</a>", with_child (quoted (ascii "</a>")))
    ∷ ("<a>{''}</a>", with_child (quoted []))
    ∷ ("<a>{\"x\" + 'y'}</a>", with_child (other (ascii "\"x\" + 'y'")))
    ∷ ("<a>{\"x/\" + y}</a>", refused_14)
    ∷ [])
unfolding choose same each letter digit name_byte separator space name_goes_on equals_sign text_byte string_byte entity_byte quote quoted_byte source_byte source_start trimmed_front kept trimmed_end value_from is_whole before_point after_point is_empty_text is_decimal number_of unsigned has_minus string_from string_of digit_or_point of_a_number not_read rest_of or_else known_trimmed known_of entity_of short no_hyphen member_parts attribute_name_fits member_fits tag_name_fits same_name every_tag matched join_attributes join_children closed filled filled_if emptied pointed close_of brace_ends resumed resumed_if fits named step_tag step_attribute_named step_close_named step_of_named step_behind step_source step_children step at_end outcome judged answer
samples_4 = (refl, (refl, (refl, (refl, (refl, (refl, (refl, (refl, (refl, (refl, (refl, (refl, tt))))))))))))

pub samples_5 : Answers
    (("<a>{\"x\\n\"}</a>", refused_14)
    ∷ ("<a>{\"x}</a>", refused_14)
    ∷ ("<a>{true}{ false }{null}</a>", with_children (child (container_child (known_expr (boolean true))) (child (container_child (known_expr (boolean false))) (child (container_child (known_expr null)) no_children))))
    ∷ ("<a>{truer}</a>", with_child (other (ascii "truer")))
    ∷ ("<a>{ f({\"}\"}) }</a>", with_child (other (ascii "f({\"}\"})")))
    ∷ ("<a>{[1]}</a>", refused_14)
    ∷ ("<a>{x / y}</a>", refused_14)
    ∷ ("<a>{x < y}</a>", refused_14)
    ∷ ("<a>{`x`}</a>", refused_14)
    ∷ ("<a>{<b/> x}</a>", refused_14)
    ∷ ("<a>{x <b/>}</a>", refused_14)
    ∷ ("<a>x<b/>{<b/>}</a>", with_children (child (text_child (ascii "x")) (child (tag_child leaf) (child (container_child (tag_expr leaf)) no_children))))
    ∷ [])
unfolding choose same each letter digit name_byte separator space name_goes_on equals_sign text_byte string_byte entity_byte quote quoted_byte source_byte source_start trimmed_front kept trimmed_end value_from is_whole before_point after_point is_empty_text is_decimal number_of unsigned has_minus string_from string_of digit_or_point of_a_number not_read rest_of or_else known_trimmed known_of entity_of short no_hyphen member_parts attribute_name_fits member_fits tag_name_fits same_name every_tag matched join_attributes join_children closed filled filled_if emptied pointed close_of brace_ends resumed resumed_if fits named step_tag step_attribute_named step_close_named step_of_named step_behind step_source step_children step at_end outcome judged answer
samples_5 = (refl, (refl, (refl, (refl, (refl, (refl, (refl, (refl, (refl, (refl, (refl, (refl, tt))))))))))))
