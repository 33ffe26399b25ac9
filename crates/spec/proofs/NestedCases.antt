-- What is well nested and what is not, a case for each way of comparing names. Main statement: `nested_cases`. Assumes nothing.
use mathlib.Core.Path.{◌≡◌, refl}
use mathlib.Core.List.{[], ◌∷◌}
use Rattle.field.specs.Bytes.{Bytes, ascii, same, among}
use Rattle.names.specs.Names.{small_letter, small_letters, is_void_element, void_names}
use Rattle.spec.specs.Words.{Reading, outside, ill, Comparison, in_small_letters, by_bytes, compared, to_space, close_tag, open_tag, end_tag, read_byte, read_markup}

abbrev ends : Comparison → Bytes → Reading
unfolding same among small_letter small_letters is_void_element void_names compared to_space close_tag open_tag end_tag read_byte read_markup
ends how w = read_markup how (outside []) w

record NestedCases : Type 0 where
  -- names that differ in capitals alone, and one of the 14
  closed : ends in_small_letters (ascii "<a></A>") ≡ outside []
  unclosed : ends by_bytes (ascii "<a></A>") ≡ ill
  void : ends in_small_letters (ascii "<bR>") ≡ outside []
  not_void : ends by_bytes (ascii "<bR>") ≡ outside (ascii "bR" ∷ [])
  -- either way
  other_name : ends in_small_letters (ascii "<a></b>") ≡ ill
  crossed : ends in_small_letters (ascii "<a><b></a></b>") ≡ ill
  same_name : ends by_bytes (ascii "<a b=\"\"><i></i></a>") ≡ outside []

nested_cases : NestedCases
unfolding ends
nested_cases = record { closed = refl; unclosed = refl; void = refl; not_void = refl; other_name = refl; crossed = refl; same_name = refl }
