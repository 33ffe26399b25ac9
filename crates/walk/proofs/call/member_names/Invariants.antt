use mathlib.Core.Path.{◌≡◌}
use mathlib.Core.List.{[]}
use Rattle.walk.specs.See.{at, see}
use Rattle.walk.proofs.ArmLaws.{names_at}
use Rattle.walk.proofs.call.member_names.Given as goal

abbrev pub invariant-loop-field : goal.invariant-loop-field
invariant-loop-field l = see (names_at l.field-iterator.0.now) (at [] l.page l.cur) ≡ see (names_at l.s) (at [] l.initial.page l.initial.cur)
