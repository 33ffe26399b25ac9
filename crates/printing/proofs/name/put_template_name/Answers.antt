-- `put_template_name` meets its contract: of a body that is not longer than four bytes the number is all of it.
use mathlib.Core.Path.{ap, ◌∙◌}
use denote.Ref.{Bor}
use lib.ListN.{take}
use Rattle.field.specs.Bytes.{Bytes}
use Rattle.field.specs.Number.{number_of}
use Rattle.field.proofs.PutLaws.{wrote_is, wrote_then}
use Rattle.text.specs.Decimal.{decimal}
use Rattle.printing.proofs.NameLaws.{four_in}
use Rattle.printing.proofs.name.put_template_name.Goals as goal

pub returns : goal.returns
returns c =
    let n = c.number_in.ensures ∙ ap (λ (b : Bor Bytes). number_of (take 8 b.now)) c.unwrap_or.ensures ∙ four_in c.args.f _ c.get.ensures.lookup in
    wrote_then c.put_bytes-a.ensures (wrote_is (ap decimal n) c.put_decimal.ensures)
