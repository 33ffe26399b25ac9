-- What is lost and what is kept, a case for each place: each 74 counts 1. Main statement: `cases`. Assumes nothing.
use Prim.Native.Nat.{ℕ}
use mathlib.Core.Path.{◌≡◌, refl}
use mathlib.Core.List.{[], ◌∷◌}
use Rattle.field.specs.Bytes.{ascii, same, among}
use Rattle.names.specs.Names.{ident, get_attr_name, normalize_dom_attr_name, renamed, rename_in, hyphenated_names, kept_names, small_letter, small_letters, parted, is_void_element, void_names}
use Rattle.page.specs.Page.{Tag, element, fragment, identifier, Attributes, no_attributes, attribute, spread_attribute, Value, absent, empty_value, container_value, tag_value, Children, no_children, container_child, tag_child, spread_child, Expr, other_literal}
use Rattle.spec.specs.Attributes.{keeps_from_serializing, is_serializable, is_component}
use Rattle.spec.specs.Transform.{child}
use Rattle.spec.specs.Kept.{key_follows, in_tag}

abbrev literal : Expr
literal = other_literal (ascii "/a/")

abbrev named : ℕ → Attributes → Children → Tag
named c as' cs = element (identifier (c ∷ [])) as' cs

-- `<i>{/a/}</i>`
abbrev inner : Tag
inner = named 105 no_attributes (container_child literal no_children)

abbrev key : Value → Attributes → Attributes
key v as' = attribute (ident (ascii "key")) v as'

counted : Tag → ℕ
unfolding in_tag same among get_attr_name normalize_dom_attr_name renamed rename_in hyphenated_names kept_names small_letter small_letters parted is_void_element void_names keeps_from_serializing is_serializable is_component child key_follows
counted t = in_tag (λ b. 1) (λ bs. 0) (λ f. 0) (record { skip_serialize = []; skip_prop_serialize = ascii "b" ∷ []; import_source = [] }) t

record Cases : Type 0 where
  child_kept : counted inner ≡ 1
  void_children_lost : counted (element (identifier (ascii "br")) no_attributes (container_child literal no_children)) ≡ 0
  void_name_in_a_call : counted (element (identifier (ascii "br")) (spread_attribute literal no_attributes) (container_child literal no_children)) ≡ 2
  spread_child_lost : counted (fragment (spread_child literal (tag_child inner no_children))) ≡ 1
  tag_value_lost : counted (named 112 (attribute (ident (ascii "a")) (tag_value inner) no_attributes) no_children) ≡ 0
  listed_tag_value : counted (named 112 (attribute (ident (ascii "b")) (tag_value inner) no_attributes) no_children) ≡ 1
  listed_in_a_call : counted (named 80 (attribute (ident (ascii "b")) (tag_value inner) no_attributes) no_children) ≡ 0
  last_key_taken : counted (named 80 (key (container_value literal) (key (container_value literal) no_attributes)) no_children) ≡ 1
  empty_key_taken : counted (named 80 (key (container_value literal) (key empty_value no_attributes)) no_children) ≡ 0
  tag_key_taken : counted (named 80 (key (container_value literal) (key (tag_value inner) no_attributes)) no_children) ≡ 0
  bare_key_not_taken : counted (named 80 (key (container_value literal) (key absent no_attributes)) no_children) ≡ 1
  keys_in_a_template : counted (named 112 (key (container_value literal) (key (container_value literal) no_attributes)) no_children) ≡ 2

cases : Cases
unfolding counted
cases =
    record {
      child_kept = refl;
      void_children_lost = refl;
      void_name_in_a_call = refl;
      spread_child_lost = refl;
      tag_value_lost = refl;
      listed_tag_value = refl;
      listed_in_a_call = refl;
      last_key_taken = refl;
      empty_key_taken = refl;
      tag_key_taken = refl;
      bare_key_not_taken = refl;
      keys_in_a_template = refl;
    }
