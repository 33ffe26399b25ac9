-- `find_long` meets its contract. The outer invariant: what is left of the row decides. The inner one: behind the eight letters that are next the
-- two names are the same.
use mathlib.Core.Path.{refl, sym, ap, ◌∙◌}
use Prim.Native.Nat.{◌+◌, ◌-◌}
use native.Mathlib.Omega.{arith}
use lib.ListN.{length, take, drop}
use Rattle.field.specs.Bytes.{same}
use Rattle.names.proofs.CompareLaws.{same_refl}
use Rattle.names.proofs.RowLaws.{row_found, row_passed, row_ended}
use Rattle.names.proofs.WordLaws.{word_on, word_off, from_later}
use Rattle.names.proofs.table.find_long.Goals as goal

pub loop-mark-preserved-then-i-lt8 : goal.loop-mark-preserved-then-i-lt8
loop-mark-preserved-then-i-lt8 c =
    let row = c.args.row.now in let n = c.args.name.now in let p = c.names.p in let i = c.loop-mark.i in
    let e = word_on row n p (length n) i _ _ c.loop-mark.invariant.0 (omega arith) (omega arith) (sym c.same_word.ensures ∙ c.loop-mark-test.true) c.loop-mark.invariant.1.1 in
    (omega arith, (c.loop-mark.invariant.1.0, from_later (take (length n) (drop p row)) n i 8 (omega arith) e))

pub loop-mark-preserved : goal.loop-mark-preserved
loop-mark-preserved c =
    let row = c.args.row.now in let n = c.args.name.now in let p = c.names.p in let i = c.loop-mark.i in
    let e = word_on row n p (length n) i _ _ c.loop-mark.invariant.0 (omega arith) (omega arith) (sym c.same_word.ensures ∙ c.loop-mark-test.true) c.loop-mark.invariant.1.1 in
    (omega arith, (c.loop-mark.invariant.1.0, from_later (take (length n) (drop p row)) n i (i - 8 + 8) (omega arith) e))

pub names-preserved : goal.names-preserved
names-preserved c =
    let row = c.args.row.now in let n = c.args.name.now in let p = c.names.p in
    let d = word_off row n p (length n) c.loop-mark.i _ _ c.loop-mark.invariant.0 (omega arith) (omega arith) (sym c.same_word.ensures ∙ c.loop-mark-test.false) in
    (omega arith, (c.loop-mark.invariant.1.0, sym (row_passed row n p (length n) refl (omega arith) d) ∙ c.names.invariant.1.1))

pub returns-after-names : goal.returns-after-names
returns-after-names c =
    let row = c.args.row.now in let n = c.args.name.now in
    c.names.invariant.1.0 ∙ (sym (row_ended row n c.names.p (length n) refl (omega arith)) ∙ c.names.invariant.1.1)

pub returns-then-i-eq0 : goal.returns-then-i-eq0
returns-then-i-eq0 c =
    let row = c.args.row.now in let n = c.args.name.now in let p = c.names.p in let i = c.loop-mark.i in
    let e = word_on row n p (length n) i _ _ c.loop-mark.invariant.0 (omega arith) (omega arith) (sym c.same_word.ensures ∙ c.loop-mark-test.true) c.loop-mark.invariant.1.1 in
    let x = from_later (take (length n) (drop p row)) n i 0 (omega arith) e in
    sym (row_found row n p (length n) refl (omega arith) (ap (same (take (length n) (drop p row))) (sym x) ∙ same_refl (take (length n) (drop p row)))) ∙ c.names.invariant.1.1
