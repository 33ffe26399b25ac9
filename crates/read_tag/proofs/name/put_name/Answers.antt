-- `read_tag::name::put_name` meets its contract. Assumes nothing.
use mathlib.Core.Path.{refl}
use Rattle.field.proofs.PutLaws.{wrote_is, wrote_behind}
use Rattle.read_tag.specs.Names.{PartsPut, NamePut}
use Rattle.read_tag.proofs.IdentLaws.{ident_name}
use Rattle.read_tag.proofs.NameWalkLaws.{parts_end}
use Rattle.read_tag.proofs.NameFieldLaws.{name_many}
use Rattle.read_tag.proofs.name.put_name.Goals as goal

pub returns-then-tag-eq-IDENT : goal.returns-then-tag-eq-IDENT
unfolding NamePut
returns-then-tag-eq-IDENT c n u f g = let pre = c.requires in wrote_is (ident_name _ _ _ _ _ n pre.1 pre.2 u f g c.if-tag-eq-IDENT.true c.trim_end.ensures.value) c.put_field.ensures

pub overflow_sub-o : goal.overflow_sub-o
overflow_sub-o c = parts_end _ _ _ _ _ _ c.put_parts-o.ensures c.requires.0

pub returns-else-tag-eq-IDENT : goal.returns-else-tag-eq-IDENT
unfolding PartsPut NamePut
returns-else-tag-eq-IDENT c n u f g = wrote_is (name_many n _ f g c.if-tag-eq-IDENT.false) (wrote_behind _ refl (c.put_parts-o.ensures n _ u) c.put_head.ensures)
