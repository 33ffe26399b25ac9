-- `tag_pass::attributes::name_depth` meets its contract. Assumes nothing.
use borrow.Author.Tests.{ne_eqb}
use Rattle.grammar.specs.Signs.{choose}
use Rattle.read_tag.specs.Names.{name_depth}
use Rattle.tag_pass.proofs.attributes.name_depth.Goals as goal

pub returns-then-tag-eq-IDENT : goal.returns-then-tag-eq-IDENT
unfolding name_depth choose
returns-then-tag-eq-IDENT c = rw c.if-tag-eq-IDENT.true

pub returns-else-tag-eq-IDENT : goal.returns-else-tag-eq-IDENT
unfolding name_depth choose
returns-else-tag-eq-IDENT c = simp (ne_eqb _ 0x40 c.if-tag-eq-IDENT.false)
