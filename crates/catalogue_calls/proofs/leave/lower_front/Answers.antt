-- `leave::lower_front` meets its contract: the numbers of both parts are raised to the other side of 2 to the 32. Assumes nothing.
use Prim.Native.Nat.{◌+◌, ◌-◌, ◌%◌}
use mathlib.Core.Path.{◌≡◌, refl, subst}
use mathlib.Core.List.{List, ◌∷◌}
use native.Mathlib.Omega.{arith}
use lib.ListN.{length}
use Rattle.catalogue.specs.Page.{Page}
use Rattle.catalogue_calls.specs.Leaves.{Rowed}
use Rattle.catalogue_calls.proofs.RowedLaws.{first_of}
use Rattle.catalogue_calls.proofs.LowerLaws.{size_of, fine_first, fine_second, page_lowered}
use Rattle.catalogue_calls.proofs.leave.lower_front.Goals as goal

pub raise_records-requires : goal.raise_records-requires
raise_records-requires c =
    let g = c.in_ok-p.ensures in
    let o = first_of c.requires.pages c.requires.rowed g.is_framed in
    let w : Rowed c.args.s.now c.requires.before (o.page ∷ o.later) c.requires.zeros = subst (λ (l : List Page). Rowed c.args.s.now c.requires.before l c.requires.zeros) o.all_is c.requires.rowed in
    fine_first g w _ (length c.in_ok-p.p.page.now) (omega arith) refl

pub raise_calls-requires : goal.raise_calls-requires
raise_calls-requires c =
    let g = c.in_ok-p.ensures in
    let o = first_of c.requires.pages c.requires.rowed g.is_framed in
    let w : Rowed c.args.s.now c.requires.before (o.page ∷ o.later) c.requires.zeros = subst (λ (l : List Page). Rowed c.args.s.now c.requires.before l c.requires.zeros) o.all_is c.requires.rowed in
    fine_second g w _ _ (omega arith) (omega arith) _ c.raise_records.ensures

pub returns : goal.returns
returns c =
    let e : (0 + (4294967296 - c.args.forms)) % 4294967296 ≡ (4294967296 - c.args.forms) % 4294967296 = omega arith in
    record {
      is_page = (c.in_ok-p.ensures).is_framed;
      lowered_is = λ n p ps z w. (
        size_of c.in_ok-p.ensures w,
        page_lowered c.in_ok-p.ensures w _ _ (omega arith) (omega arith) _ c.raise_records.ensures c.raise_calls.ensures c.args.forms c.ranges.forms.fits e,
      );
    }
