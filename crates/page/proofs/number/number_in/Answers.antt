-- `page::number::number_in` meets its contract. Assumes nothing.
use mathlib.Core.Path.{ap, ◌∙◌}
use lib.ListN.{length}
use lib.Seq.{length-take-le}
use Rattle.field.specs.Bytes.{Bytes}
use Rattle.field.specs.Number.{number_of}
use Rattle.page.proofs.LeafLaws.{number_eight}
use Rattle.page.proofs.number.number_in.Goals as goal

pub returns-in-Some : goal.returns-in-Some
returns-in-Some c =
    let e = c.in-Some.ensures.cases in
    number_eight _ (ap (λ (x : Bytes). length x) e.same ∙ length-take-le 8 c.args.s.now e.enough) c.from_be_bytes.ensures ∙ ap number_of e.same
