use mathlib.Core.Bool.{false}
use mathlib.Core.Path.{ap, ◌∙◌}
use Rattle.field.specs.Bytes.{among}
use Rattle.names.specs.Names.{get_attr_name}
use Rattle.decisions.specs.Index.{names_of}
use Rattle.decisions.proofs.attribute.is_among.Goals as goal

pub returns-in-Ident : goal.returns-in-Ident
unfolding get_attr_name
returns-in-Ident c = c.lists.ensures ∙ ap (λ n. among (get_attr_name n false) (names_of c.args.props.now)) c.in-Ident.ensures

pub returns-in-Namespaced : goal.returns-in-Namespaced
unfolding get_attr_name
returns-in-Namespaced c = c.lists_namespaced.ensures ∙ ap (λ n. among (get_attr_name n false) (names_of c.args.props.now)) c.in-Namespaced.ensures
