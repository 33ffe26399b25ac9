-- `outs::templates::check_templates` meets its contract: a row of records of the kind. Assumes nothing.
use Rattle.outs.specs.Templates.{check_templates}
use Rattle.outs.specs.declared.Kind.TheVariants.{Old, New}
use Rattle.outs.proofs.TemplateLaws.{record_rowwise}
use Rattle.outs.proofs.templates.check_templates.Goals as goal

pub check_row-requires : goal.check_row-requires
check_row-requires c = record_rowwise Old

pub check_row-requires-in-New : goal.check_row-requires-in-New
check_row-requires-in-New c = record_rowwise New

pub returns-in-Old : goal.returns-in-Old
unfolding check_templates
returns-in-Old c = rw c.in-Old.is c.check_row.ensures

pub returns-in-New : goal.returns-in-New
unfolding check_templates
returns-in-New c = rw c.in-New.is c.check_row-in-New.ensures
