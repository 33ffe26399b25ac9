-- `arrive::check_room` meets its contract: 24, then 25. Assumes nothing.
use Prim.Native.Nat.{◌+◌, ◌-◌, ◌*◌}
use native.Mathlib.Omega.{arith}
use lib.ListN.{length}
use Rattle.catalogue_calls.specs.Answer.{shares_of}
use Rattle.catalogue_calls.proofs.RoomLaws.{most_is, others_same, over, uncovered, covered}
use Rattle.catalogue_calls.proofs.arrive.check_room.Goals as goal

pub returns-then-saturating_add-shares : goal.returns-then-saturating_add-shares
returns-then-saturating_add-shares c =
    over c.args.catalogue.now c.args.used c.args.house (14 + length c.args.templates.now + length c.args.page.now) (shares_of c.args.shares.now)
    (omega (arith, most_is c.args.shares.now c.args.house c.requires.2, c.used_in-of_houses.ensures c.args.house c.requires.1, c.saturating_add.ensures, c.saturating_add-size.ensures, c.saturating_add-2.ensures, c.if-saturating_add-shares.true))

pub returns-then-saturating_add-catalogue : goal.returns-then-saturating_add-catalogue
returns-then-saturating_add-catalogue c =
    let m = most_is c.args.shares.now c.args.house c.requires.2 in
    let u = c.used_in-of_houses.ensures c.args.house c.requires.1 in
    let s = (c.type_inv.shares (2 * c.args.house - 1)).fits in
    let o = others_same c.args.catalogue.now c.args.shares.now c.used_in-of_houses.result c.args.house c.used_in-of_houses.ensures in
    uncovered c.args.catalogue.now c.args.used c.args.house (14 + length c.args.templates.now + length c.args.page.now) (shares_of c.args.shares.now)
    (omega (arith, m, u, s, c.saturating_add.ensures, c.saturating_add-size.ensures, c.saturating_add-2.ensures, c.if-saturating_add-shares.false))
    (omega (arith, m, u, s, o, c.saturating_add.ensures, c.saturating_add-size.ensures, c.saturating_add-2.ensures, c.if-saturating_add-shares.false, c.unused_of_others-others.ensures, c.saturating_add-3.ensures, c.if-saturating_add-catalogue.true))

pub returns : goal.returns
returns c =
    let m = most_is c.args.shares.now c.args.house c.requires.2 in
    let u = c.used_in-of_houses.ensures c.args.house c.requires.1 in
    let s = (c.type_inv.shares (2 * c.args.house - 1)).fits in
    let o = others_same c.args.catalogue.now c.args.shares.now c.used_in-of_houses.result c.args.house c.used_in-of_houses.ensures in
    covered c.args.catalogue.now c.args.used c.args.house (14 + length c.args.templates.now + length c.args.page.now) (shares_of c.args.shares.now)
    (omega (arith, m, u, s, c.saturating_add.ensures, c.saturating_add-size.ensures, c.saturating_add-2.ensures, c.if-saturating_add-shares.false))
    (omega (arith, m, u, s, o, c.saturating_add.ensures, c.saturating_add-size.ensures, c.saturating_add-2.ensures, c.if-saturating_add-shares.false, c.unused_of_others-others.ensures, c.saturating_add-3.ensures, c.if-saturating_add-catalogue.false))
