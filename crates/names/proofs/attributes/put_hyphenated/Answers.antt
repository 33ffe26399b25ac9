-- The places that a mark says are those of the capitals.
use mathlib.Core.Path.{ap₂, ◌∙◌}
use Prim.Native.Nat.{ℕ, ◌/◌, ◌%◌}
use native.Mathlib.Omega.{arith}
use Rattle.std.specs.Prelude.{Some}
use Rattle.field.proofs.PutLaws.{wrote_is}
use Rattle.names.specs.Table.{by_places}
use Rattle.names.proofs.MarkLaws.{places_within, places_spelled}
use Rattle.names.proofs.SpellLaws.{spelled_least}
use Rattle.names.proofs.attributes.put_hyphenated.Goals as goal

pub overflow_add-at-2 : goal.overflow_add-at-2
overflow_add-at-2 c = omega (arith, spelled_least (Some 45) c.args.name.now)

pub put_runs-requires : goal.put_runs-requires
put_runs-requires c = let a = c.args in let p = places_within (a.mark / 16) (a.mark % 16) a.name.now c.requires.1 in
    (omega arith, omega (arith, p.0, c.from.ensures, c.from-then-at-name.ensures), omega (arith, p.1, c.from.ensures, c.from-then-at-name.ensures), omega (arith, c.from.ensures), omega (arith, c.from-then-at-name.ensures))

pub returns-then-at-name : goal.returns-then-at-name
returns-then-at-name c = let a = c.args in
    wrote_is (ap₂ (λ (k d : ℕ). by_places k d a.name.now) c.from.ensures c.from-then-at-name.ensures ∙ places_spelled (a.mark / 16) (a.mark % 16) a.name.now c.requires.1) c.put_runs.ensures
