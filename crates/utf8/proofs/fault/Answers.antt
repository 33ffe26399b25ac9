-- `utf8::fault` meets its contract: its highest bit is set where one of its parts has that bit. Assumes nothing.
use native.Mathlib.Omega.{arith}
use lib.Bits.{bit_or}
use Rattle.std.proofs.Common.{◌<◌, ◌-◌}
use Rattle.utf8.specs.Parts.{Closed}
use Rattle.utf8.proofs.Rows.{or_low, or_small, or_least, xor_even, xors_even, only_low}
use Rattle.utf8.proofs.fault.Goals as goal

pub returns : goal.returns
returns c e =
    let two = bit_or c.saturating_sub.result c.saturating_sub-2.result in
    let two_small = or_small c.saturating_sub.result c.saturating_sub-2.result (omega arith) (omega arith) in
    let goes_on = bit_or two c.saturating_sub-3.result in
    let small = or_small two c.saturating_sub-3.result two_small (omega arith) in
    let by_f4 = or_low _ _ e in
    let by_f0 = or_low _ _ by_f4.0 in
    let by_ed = or_low _ _ by_f0.0 in
    let by_e0 = or_low _ _ by_ed.0 in
    let by_size = or_low _ _ by_e0.0 in
    let by_kind = or_low _ _ by_size.0 in
    let kind = xors_even c.args.b c.saturating_sub-begins.result goes_on (omega arith) (omega arith) small by_kind.0 in
    let begins = xor_even c.saturating_sub-begins.result c.saturating_sub-4.result (omega arith) (omega arith) by_kind.1 in
    let closed : goes_on < 128 → Closed c.args.third c.args.second c.args.last = λ h.
    let p = or_low two c.saturating_sub-3.result h in
    let q = or_low c.saturating_sub.result c.saturating_sub-2.result p.0 in
    omega arith
    in
    let left_open : Closed c.args.third c.args.second c.args.last → goes_on < 128 = λ k. or_least two c.saturating_sub-3.result (or_least c.saturating_sub.result c.saturating_sub-2.result (omega arith) (omega arith)) (omega arith) in
    record {
      begins = λ h. omega arith;
      largest = omega arith;
      ascii = λ h. closed (omega arith);
      starts = λ h. closed (omega arith);
      inner = λ l h k. (let g = left_open k in omega arith);
      after_e0 = λ h. (let k = only_low c.args.last 0xE0 (255 - c.saturating_sub-from_a0.result) c.only_if.ensures by_e0.1 h in omega arith);
      after_ed = λ h. (let k = only_low c.args.last 0xED c.saturating_sub-from_a0.result c.only_if-2.ensures by_ed.1 h in omega arith);
      after_f0 = λ h. (let k = only_low c.args.last 0xF0 (255 - c.saturating_sub-from_90.result) c.only_if-3.ensures by_f0.1 h in omega arith);
      after_f4 = λ h. (let k = only_low c.args.last 0xF4 c.saturating_sub-from_90.result c.only_if-4.ensures by_f4.1 h in omega arith);
    }
