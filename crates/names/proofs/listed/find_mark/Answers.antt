-- `find_mark` meets its contract: the rule of the table is proved once, by tests that antt computes over the whole table.
use mathlib.Core.Path.{◌≡◌, refl}
use mathlib.Core.Bool.{true, ◌&&◌}
use native.Mathlib.Omega.{arith}
use lib.Dec.{leb}
use lib.ListN.{length}
use borrow.Author.Tests.{lt-leb}
use Rattle.std.specs.Prelude.{Some}
use Rattle.field.specs.Bytes.{same, among}
use Rattle.text.specs.Escape.{escape_byte, escape_html}
use Rattle.names.specs.Names.{hyphenated_names, kept_names, renamed, small_letter, small_letters, parted, rename_in, normalize_dom_attr_name}
use Rattle.names.specs.Table.{mark_from, spelled_letter, spelled, by_mark, front, by_places, places_are, told}
use Rattle.names.proofs.NormalizeLaws.{over_lists}
use Rattle.names.proofs.TableLaws.{entries, all_slots, has_slot, table_row}
use Rattle.names.proofs.MarkLaws.{mark_says, mark_none, told_none}
use Rattle.names.specs.declared.listed.TheConstants.{NAMES, STARTS}
use Rattle.names.proofs.listed.find_mark.Goals as goal

-- at each entry the mark says what the name becomes, and no entry has a sign that is escaped
every_entry : all_slots (λ w m. same (by_mark (Some m) w) (normalize_dom_attr_name w) && told (Some m) w) NAMES STARTS 864 ≡ true
unfolding entries same among by_mark told front by_places places_are spelled_letter spelled escape_byte escape_html renamed hyphenated_names kept_names parted small_letter small_letters rename_in normalize_dom_attr_name
every_entry = refl

-- and each of the 150 names has an entry
every_name : over_lists (λ w v. has_slot NAMES STARTS w) ≡ true
unfolding mark_from same parted hyphenated_names kept_names renamed
every_name = refl

-- each of them has 26 letters at most
every_length : over_lists (λ w v. leb (length w) 26) ≡ true
unfolding renamed hyphenated_names kept_names parted
every_length = refl

-- and one at least
every_some : over_lists (λ w v. leb 1 (length w)) ≡ true
unfolding renamed hyphenated_names kept_names parted
every_some = refl

-- ---- the code

pub returns-in_default : goal.returns-in_default
returns-in_default c = let n = c.args.name.now in
    (mark_none (λ w. leb 1 (length w)) n (lt-leb 1 (length n) (omega (arith, c.in_default.len_below))) every_some, told_none n)

pub returns-then-n-gt-MOST : goal.returns-then-n-gt-MOST
returns-then-n-gt-MOST c = let n = c.args.name.now in
    (mark_none (λ w. leb (length w) 26) n (lt-leb (length n) 26 (omega arith)) every_length, told_none n)

pub row_of-row-requires : goal.row_of-row-requires
row_of-row-requires c = table_row 1977 STARTS 864 refl refl _ (omega (arith, c.from.ensures))

pub returns-then-n-lt8 : goal.returns-then-n-lt8
returns-then-n-lt8 c = mark_says NAMES STARTS 864 c.args.name.now c.find_in.ensures (omega (arith, c.from.ensures)) c.row_of-row.ensures (omega (arith, c.from.ensures)) every_entry every_name

pub returns-else-n-lt8 : goal.returns-else-n-lt8
returns-else-n-lt8 c = mark_says NAMES STARTS 864 c.args.name.now c.find_long.ensures (omega (arith, c.from.ensures)) c.row_of-row.ensures (omega (arith, c.from.ensures)) every_entry every_name
