-- As put_name, each part by the function that escapes it.
use mathlib.Core.Path.{sym, ap, subst}
use mathlib.Core.Bool.{true}
use Prim.Native.Nat.{◌+◌, ◌<◌, ◌^◌}
use lib.ListN.{length}
use Rattle.field.proofs.PutLaws.{wrote_is}
use Rattle.text.specs.Escape.{escape_html}
use Rattle.names.specs.Names.{AttrName, get_attr_name}
use Rattle.strings.proofs.attributes.put_escaped_name.Goals as goal

pub put_attr_name-requires : goal.put_attr_name-requires
unfolding get_attr_name
put_attr_name-requires c = subst (λ (n : AttrName). c.args.at + length (escape_html (get_attr_name n true)) < 2 ^ 63) (sym c.in-Ident.ensures) c.requires

pub put_namespaced-requires : goal.put_namespaced-requires
unfolding get_attr_name
put_namespaced-requires c = subst (λ (n : AttrName). c.args.at + length (escape_html (get_attr_name n true)) < 2 ^ 63) (sym c.in-Namespaced.ensures) c.requires

pub returns-in-Ident : goal.returns-in-Ident
unfolding get_attr_name
returns-in-Ident c = wrote_is (ap (λ (n : AttrName). escape_html (get_attr_name n true)) c.in-Ident.ensures) c.put_attr_name.ensures

pub returns-in-Namespaced : goal.returns-in-Namespaced
unfolding get_attr_name
returns-in-Namespaced c = wrote_is (ap (λ (n : AttrName). escape_html (get_attr_name n true)) c.in-Namespaced.ensures) c.put_namespaced.ensures
