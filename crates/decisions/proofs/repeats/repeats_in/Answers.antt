use mathlib.Core.Path.{◌≡◌, ap}
use native.Mathlib.Omega.{arith}
use Rattle.decisions.proofs.RepeatLaws.{one_only}
use Rattle.decisions.proofs.repeats.repeats_in.Goals as goal

pub returns-in_default : goal.returns-in_default
returns-in_default c = let r = c.nth.ensures.ran in one_only (record { 0 = c.args.s }) r.0 c.nth.result c.nth.new.self r.1 r.2 (λ f e. let q : c.in_default.field-0 ≡ f = cc in let t = ap (λ g. g.tag) q in (λ z. grind (arith, t, z), λ z. grind (arith, t, z)))

pub returns-in_default-2 : goal.returns-in_default-2
returns-in_default-2 c = let r = c.nth.ensures.ran in one_only (record { 0 = c.args.s }) r.0 c.nth.result c.nth.new.self r.1 r.2 (λ f e. cc)
