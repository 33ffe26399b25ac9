use mathlib.Core.Path.{refl, sym, ◌∙◌}
use Rattle.field.proofs.PutLaws.{put_one, put_out}
use Rattle.field.proofs.writer.put_byte.Goals.{then-at-out, else-at-out}
use Rattle.field.proofs.writer.put_byte.Goals as goal

pub returns : goal.returns
returns c = let a = c.args in record {
  out_is =
      elim c.if-at-out.branch [
        | then-at-out w ↦ w.out-is ∙ sym (put_one a.out.now a.at a.b w.if-at-out.true)
        | else-at-out w ↦ w.out-is ∙ sym (put_out a.out.now a.at _ w.if-at-out.false)
      ];
  end_is = refl;
}
