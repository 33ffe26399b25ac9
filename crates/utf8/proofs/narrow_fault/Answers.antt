-- `utf8::narrow_fault` meets its contract, as `fault` does. Assumes nothing.
use native.Mathlib.Omega.{arith}
use Rattle.utf8.proofs.Rows.{or_low, xor_even, xors_even}
use Rattle.utf8.proofs.narrow_fault.Goals as goal

pub returns : goal.returns
returns c e =
    let by_size = or_low _ _ e in
    let by_kind = or_low _ _ by_size.0 in
    let kind = xors_even c.args.b c.saturating_sub-begins.result c.saturating_sub-2.result (omega arith) (omega arith) (omega arith) by_kind.1 in
    let begins = xor_even c.saturating_sub-begins.result c.saturating_sub.result (omega arith) (omega arith) by_kind.0 in
    record {
      narrow = omega arith;
      follows = λ x y m n o.
          record {
            begins = λ h. omega arith;
            largest = omega arith;
            ascii = λ h. omega arith;
            starts = λ h. omega arith;
            inner = λ l h k. omega arith;
            after_e0 = λ h. omega arith;
            after_ed = λ h. omega arith;
            after_f0 = λ h. omega arith;
            after_f4 = λ h. omega arith;
          };
    }
