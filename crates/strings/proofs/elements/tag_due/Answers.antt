use mathlib.Core.Path.{refl}
use borrow.Author.Rules.{rules}
use Rattle.names.proofs.VoidLaws.{lowered_by_kind, not_lowered_by_kind}
use Rattle.strings.proofs.TagLaws.{repeated_due, mixed_due, no_due}
use Rattle.strings.proofs.elements.tag_due.Goals as goal

pub returns-then-repeats : goal.returns-then-repeats
returns-then-repeats c n k = let a = c.args in repeated_due a.due n a.rest.now c.repeats.ensures c.if-repeats.true c.graver.ensures

pub returns-in-Some-InSmallLetters : goal.returns-in-Some-InSmallLetters
returns-in-Some-InSmallLetters c n k = let a = c.args in mixed_due a.due n a.rest.now c.repeats.ensures c.if-repeats.false refl (lowered_by_kind n k (search rules)) c.graver-in-Some-InSmallLetters.ensures

pub returns-in-Some-AsWritten : goal.returns-in-Some-AsWritten
returns-in-Some-AsWritten c n k = let a = c.args in no_due a.due n a.rest.now c.repeats.ensures c.if-repeats.false refl (not_lowered_by_kind n k (search rules))

pub returns-in-Some-AsWritten-2 : goal.returns-in-Some-AsWritten-2
returns-in-Some-AsWritten-2 c n k = let a = c.args in no_due a.due n a.rest.now c.repeats.ensures c.if-repeats.false refl (not_lowered_by_kind n k (search rules))
