-- The table of marks, by computation. Main statement: `k_table`. Written by tools/marks.py. Assumes nothing.
use Prim.Native.Nat.{ℕ}
use mathlib.Core.Path.{refl}
use Rattle.field.specs.Bytes.{Bytes}
use Rattle.spec.specs.Answer.{Outcome}
use Rattle.spec.specs.Marks as K
use Rattle.spec.specs.Marks.{AllHold, reply}
use Rattle.field.specs.Bytes.{same, among}
use Rattle.field.specs.Number.{big_endian, number_from}
use Rattle.field.specs.Row.{field_bytes, bytes, long_body, inside, next_of, opened, built, read_from, read}
use Rattle.field.specs.Put.{put}
use Rattle.utf8.specs.Utf8.{forms, begun, utf8_behind, utf8, all_ascii}
use Rattle.text.specs.Escape.{escape_byte, escape_html, replace}
use Rattle.text.specs.Lines.{lines, line_length, line_width, line_at}
use Rattle.text.specs.Trim.{one_byte_space, two_byte_space, three_byte_space, space_by, front_space, back_space, trim_by, trim_start, trim_end}
use Rattle.text.specs.Text.{trimmed, trimmed_lines, kept, spaced, joined, escape_if, jsx_text_to_str, normalize_lit_str}
use Rattle.text.specs.Decimal.{digits, decimal, last_digits, pointed, shortest}
use Rattle.names.specs.Names.{void_names, boolean_names, hyphenated_names, kept_names, renamed, small_letter, small_letters, parted, rename_in, normalize_dom_attr_name, get_attr_name, is_void_element, is_boolean_attr, name_byte}
use Rattle.page.specs.Number.{number_tag, minus_tag, at_most_15, render, number_bytes, number_in, number_length, in_range}
use Rattle.page.specs.Tree.{choose, texts_in, first_in, second_in, name_by, attr_name_by, boolean_in, expr_by, contained_value, contained_child, value_by, child_by, module_item_by, module_items_in, page_in, listed_in, source_in, works_sums, options_in, element_in}
use Rattle.refusal.specs.Refusal.{refusal_number, after}
use Rattle.page.specs.Check.{check_header, check_end, check_text, check_empty, check_number, check_boolean, name_parts, no_hyphen, is_name, check_name, check_members, at_least, check_ident, check_name_by, check_expr_by, check_child_by, check_module_items, check_nothing_after, check_page, check_texts, check_source, check_options_from, check_options, check_element}
use Rattle.page.specs.Encode.{texts_row, name_row, attr_name_row, module_items_row, page_row, encode, list_row, options_row, encode_options, tag_row}
use Rattle.sums.specs.Choice as Choice
use Rattle.sums.specs.Value as Value
use Rattle.sums.specs.Machine as Machine
use Rattle.worked.specs.Worked.{pieces_sum, literal_or, worked_item, worked, worked_tag}
use Rattle.spec.specs.Pass.{pure, map, bind, both, raise, ◌+++◌, ◌⧺◌, marks}
use Rattle.spec.specs.Output.{strings_after, dynamic_exprs, kinds_of, strings_row, kind_bytes, record_front, record_row, template_row, gen_template}
use Rattle.spec.specs.Merge.{flush, joined_text, merge, long_run, short_runs, text_count, serializable_count, becomes_template}
use Rattle.spec.specs.Attributes.{keeps_from_serializing, is_serializable, serialize_attr, listed_attr, dynamic_attr, container_attr, plain_attr, attr_parts, attrs_parts, html_names, repeats, void_when_lowered, tag_flags, is_component, prop_of, props_of, key_from, key_of}
use Rattle.spec.specs.Children.{maybe_wrap, merged_parts, children_to_string, serialize_jsx, stills, found_of, sole_mid, sole, flattened, spliced, entries, one_child, many_children, children_to_expr, entry_pass, entries_pass, found_pass, children_prop, props_node, members_row, name_expr, call_node, to_call_expr, open_close, element_to_string_vec}
use Rattle.spec.specs.Visit.{visit_exprs, leave, visit_inside, visit_after, visit_found, visit_only_child, visit_fragment}
use Rattle.spec.specs.Transform.{element_of, fragment_of, element_raw, shape_of, module_items, transform, templates_row, has_statement, before_statement, with_templates, stands, helper_sum, with_import, page_out_row, child}
use Rattle.spec.specs.Answer.{check_outputs, decided, transformed, check_inputs, worked_if, page_given, outcome, number, bytes_of_templates, bytes_of_page, templates, templates_left, page_left, scratch_left}
use Rattle.spec.specs.Words.{compared, to_space, close_tag, open_tag, end_tag, read_byte, read_markup, free, behind_last, holds, starts_with, opening, inside_opening_tag, places_after, filled}

-- all that an answer computes with
unfoldable pub computed : Bytes → Bytes → ℕ → ℕ → ℕ → Outcome
unfolding same among big_endian number_from field_bytes bytes long_body inside next_of opened built read_from read put forms begun utf8_behind utf8 all_ascii escape_byte escape_html replace lines line_length line_width line_at one_byte_space two_byte_space three_byte_space space_by front_space back_space trim_by trim_start trim_end trimmed trimmed_lines kept spaced joined escape_if jsx_text_to_str normalize_lit_str digits decimal last_digits pointed shortest void_names boolean_names hyphenated_names kept_names renamed small_letter small_letters parted rename_in normalize_dom_attr_name get_attr_name is_void_element is_boolean_attr name_byte number_tag minus_tag at_most_15 render number_bytes number_in number_length in_range choose texts_in first_in second_in name_by attr_name_by boolean_in expr_by contained_value contained_child value_by child_by module_item_by module_items_in page_in listed_in source_in works_sums options_in element_in refusal_number after check_header check_end check_text check_empty check_number check_boolean name_parts no_hyphen is_name check_name check_members at_least check_ident check_name_by check_expr_by check_child_by check_module_items check_nothing_after check_page check_texts check_source check_options_from check_options check_element texts_row name_row attr_name_row module_items_row page_row encode list_row options_row encode_options tag_row Choice.choose Choice.digit Value.upward Value.downward Value.difference Value.added Value.taken Value.multiplied Value.value Machine.sum_with Machine.product_with Machine.closed Machine.step_behind Machine.step Machine.whole Machine.at_end Machine.outcome Machine.found Machine.sum_of pieces_sum literal_or worked_item worked worked_tag pure map bind both raise ◌+++◌ ◌⧺◌ marks strings_after dynamic_exprs kinds_of strings_row kind_bytes record_front record_row template_row gen_template flush joined_text merge long_run short_runs text_count serializable_count becomes_template keeps_from_serializing is_serializable serialize_attr listed_attr dynamic_attr container_attr plain_attr attr_parts attrs_parts html_names repeats void_when_lowered tag_flags is_component prop_of props_of key_from key_of maybe_wrap merged_parts children_to_string serialize_jsx stills found_of sole_mid sole flattened spliced entries one_child many_children children_to_expr entry_pass entries_pass found_pass children_prop props_node members_row name_expr call_node to_call_expr open_close element_to_string_vec visit_exprs leave visit_inside visit_after visit_found visit_only_child visit_fragment element_of fragment_of element_raw shape_of module_items transform templates_row has_statement before_statement with_templates stands helper_sum with_import page_out_row child check_outputs decided transformed check_inputs worked_if page_given outcome number bytes_of_templates bytes_of_page templates templates_left page_left scratch_left compared to_space close_tag open_tag end_tag read_byte read_markup free behind_last holds starts_with opening inside_opening_tag places_after filled
computed p o d s q = outcome p o d s q

pub k_table : AllHold K.marks
unfolding AllHold computed reply
k_table = (refl, (refl, (refl, (refl, (refl, (refl, (refl, (refl, (refl, (refl, (refl, (refl, (refl, (refl, (refl, (refl, (refl, (refl, (refl, (refl, (refl, (refl, (refl, (refl, (refl, (refl, (refl, (refl, (refl, (refl, (refl, (refl, (refl, (refl, (refl, (refl, (refl, (refl, (refl, (refl, (refl, (refl, (refl, (refl, (refl, (refl, (refl, (refl, (refl, (refl, (refl, (refl, (refl, (refl, (refl, (refl, (refl, (refl, (refl, (refl, (refl, (refl, (refl, (refl, (refl, (refl, (refl, (refl, (refl, (refl, (refl, (refl, (refl, (refl, (refl, (refl, (refl, (refl, (refl, (refl, (refl, (refl, (refl, (refl, (refl, (refl, (refl, (refl, (refl, (refl, (refl, (refl, (refl, tt)))))))))))))))))))))))))))))))))))))))))))))))))))))))))))))))))))))))))))))))))))))))))))))
