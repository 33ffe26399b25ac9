-- `print_templates` meets its contract. The loop's invariant: the text of the templates behind is left to write.
use mathlib.Core.Path.{refl}
use native.Mathlib.Omega.{arith}
use Rattle.field.proofs.PutLaws.{wrote_then}
use Rattle.printing.proofs.LineLaws.{templates_on, templates_turn, templates_end}
use Rattle.printing.proofs.RoomLaws.{left_on, left_done}
use Rattle.printing.proofs.lines.print_templates.Goals as goal

pub put_template_name-c-requires : goal.put_template_name-c-requires
put_template_name-c-requires c = omega (arith, c.put_bytes-b.ensures.end_is, templates_turn c.in-Some.ensures.steps c.parts.ensures.front refl c.loop-template.invariant)

pub put_bytes-d-requires : goal.put_bytes-d-requires
put_bytes-d-requires c = omega (arith, c.put_bytes-b.ensures.end_is, c.put_template_name-c.ensures.end_is, templates_turn c.in-Some.ensures.steps c.parts.ensures.front refl c.loop-template.invariant)

pub print_parted-e-requires : goal.print_parted-e-requires
print_parted-e-requires c = omega (arith, c.put_bytes-b.ensures.end_is, c.put_template_name-c.ensures.end_is, c.put_bytes-d.ensures.end_is, templates_turn c.in-Some.ensures.steps c.parts.ensures.front c.parts.ensures.inner c.loop-template.invariant)

pub put_bytes-a-requires : goal.put_bytes-a-requires
put_bytes-a-requires c =
    omega (arith, c.put_bytes-b.ensures.end_is, c.put_template_name-c.ensures.end_is, c.put_bytes-d.ensures.end_is, c.print_parted-e.ensures.end_is, templates_turn c.in-Some.ensures.steps c.parts.ensures.front c.parts.ensures.inner c.loop-template.invariant)

pub loop-template-preserved : goal.loop-template-preserved
loop-template-preserved c = left_on c.loop-template.invariant (templates_on c.in-Some.ensures.steps c.parts.ensures.front c.parts.ensures.inner) (wrote_then c.put_bytes-b.ensures (wrote_then c.put_template_name-c.ensures (wrote_then c.put_bytes-d.ensures (wrote_then c.print_parted-e.ensures c.put_bytes-a.ensures))))

pub returns : goal.returns
returns c = left_done c.loop-template.invariant (templates_end _ c.in-None.ensures.steps.ended)
