-- `is_boolean` meets its contract: its table has the boolean names and no others, by tests that antt computes over the whole table.
use mathlib.Core.Path.{refl, sym, ◌∙◌}
use Rattle.field.specs.Bytes.{same, among}
use Rattle.names.specs.Names.{boolean_names, is_boolean_attr}
use Rattle.names.specs.Table.{read_as, fits_in, has_name, mark_from}
use Rattle.names.proofs.CompareLaws.{length_read_as}
use Rattle.names.proofs.FitsLaws.{fits_length, fits_read_as}
use Rattle.names.proofs.TableLaws.{entries, table_has, table_lacks, table_row}
use Rattle.names.specs.declared.booleans.TheConstants.{FIRSTS}
use Rattle.names.proofs.booleans.is_boolean.Goals as goal

-- the name's length is one that the table has, and the row of each length lies within the table
pub has_name-requires : goal.has_name-requires
has_name-requires c = let l = fits_length _ c.args.name.now (sym c.fits.ensures ∙ c.if-fits.true) in (table_row _ _ 16 refl refl _ l.1, l.0)

-- each entry is one of the names, and each of the names has an entry
pub returns-then-fits : goal.returns-then-fits
unfolding is_boolean_attr boolean_names has_name entries mark_from among same
returns-then-fits c = let a = c.args in let n = read_as a.small a.name.now in
    let h = fits_read_as FIRSTS a.small a.name.now ∙ sym c.fits.ensures ∙ c.if-fits.true in
    c.has_name.ensures ∙ table_has _ _ FIRSTS boolean_names n refl (length_read_as a.small a.name.now) refl h refl refl

-- each of the names has a length and a first letter that fit
pub returns-else-fits : goal.returns-else-fits
unfolding is_boolean_attr boolean_names fits_in
returns-else-fits c = let a = c.args in let n = read_as a.small a.name.now in
    let h = fits_read_as FIRSTS a.small a.name.now ∙ sym c.fits.ensures ∙ c.if-fits.false in
    c.if-fits.false ∙ sym (table_lacks FIRSTS boolean_names n h refl)
