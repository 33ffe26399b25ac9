-- `find_in` meets its contract. The outer invariant: what is left of the row decides. The inner one: what is left of the two names
-- decides whether they are the same.
use mathlib.Core.Path.{sym, ◌∙◌}
use Prim.Native.Nat.{◌+◌}
use native.Mathlib.Omega.{arith}
use lib.ListN.{length, take, drop}
use Rattle.names.specs.Table.{read_as}
use Rattle.names.proofs.CompareLaws.{same_on, same_off, same_end, length_read_as, letter_at}
use Rattle.names.proofs.RowLaws.{length_entry, entry_letter, row_found, row_passed, row_ended}
use Rattle.names.proofs.table.find_in.Goals as goal

-- the letter of the row and the letter of the name, as the inner loop's test has them
pub loop-i-preserved : goal.loop-i-preserved
loop-i-preserved c = let a = c.args in let p = c.names.p in let w = length a.name.now in
    let le = length_entry a.row.now p w (omega arith) in
    let ln = length_read_as a.small a.name.now in
    let e = entry_letter a.row.now p w c.loop-i.i c.loop-i.invariant.0 ∙ (c.loop-i-test.true ∙ (c.letter.ensures ∙ sym (letter_at a.small a.name.now c.loop-i.i c.loop-i.invariant.0))) in
    (omega arith, (c.loop-i.invariant.1.0, same_on (take w (drop p a.row.now)) (read_as a.small a.name.now) c.loop-i.i (omega (arith, le)) (omega (arith, ln)) e c.loop-i.invariant.1.1))

pub names-preserved : goal.names-preserved
names-preserved c = let a = c.args in let w = length a.name.now in
    let le = length_entry a.row.now c.names.p w (omega arith) in
    let ln = length_read_as a.small a.name.now in
    let x = take w (drop c.names.p a.row.now) in
    let y = read_as a.small a.name.now in
    let e = entry_letter a.row.now c.names.p w c.loop-i.i c.loop-i.invariant.0 in
    let f = c.letter.ensures ∙ sym (letter_at a.small a.name.now c.loop-i.i c.loop-i.invariant.0) in
    let d = same_off x y c.loop-i.i (omega (arith, le)) (omega (arith, ln)) (λ h. c.loop-i-test.false (sym e ∙ (h ∙ sym f))) c.loop-i.invariant.1.1 in
    (omega arith, (c.loop-i.invariant.1.0, sym (row_passed a.row.now y c.names.p w ln (omega arith) d) ∙ c.names.invariant.1.1))

pub returns-after-names : goal.returns-after-names
returns-after-names c = let a = c.args in let y = read_as a.small a.name.now in
    c.names.invariant.1.0 ∙ (sym (row_ended a.row.now y c.names.p (length a.name.now) (length_read_as a.small a.name.now) (omega arith)) ∙ c.names.invariant.1.1)

pub returns-then-i-n : goal.returns-then-i-n
returns-then-i-n c = let a = c.args in let w = length a.name.now in
    let le = length_entry a.row.now c.names.p w (omega arith) in
    let ln = length_read_as a.small a.name.now in
    let x = take w (drop c.names.p a.row.now) in
    let y = read_as a.small a.name.now in
    let e = entry_letter a.row.now c.names.p w c.loop-i.i c.loop-i.invariant.0 ∙ (c.loop-i-test.true ∙ (c.letter.ensures ∙ sym (letter_at a.small a.name.now c.loop-i.i c.loop-i.invariant.0))) in
    let s = same_on x y c.loop-i.i (omega (arith, le)) (omega (arith, ln)) e c.loop-i.invariant.1.1 in
    let t = sym s ∙ same_end x y (c.loop-i.i + 1) (omega (arith, le)) (omega (arith, ln)) in
    sym (row_found a.row.now y c.names.p w ln (omega arith) t) ∙ c.names.invariant.1.1
