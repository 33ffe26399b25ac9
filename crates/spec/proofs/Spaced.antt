-- In each template of an accepted page a space comes right before each dynamic expression inside an opening tag. Main statement:
-- `gaps_spaced`. Assumes nothing.
use Prim.Native.Nat.{ℕ}
use mathlib.Core.Path.{◌≡◌, sym, subst}
use mathlib.Core.Bool.{false}
use mathlib.Core.List.{List, [], ◌∷◌}
use Rattle.field.specs.Bytes.{Bytes, AllBytes}
use Rattle.field.specs.Row.{Row, read}
use Rattle.spec.specs.Pass.{Template}
use Rattle.spec.specs.Output.{template_row, record_row}
use Rattle.spec.specs.Transform.{templates_row}
use Rattle.spec.specs.Answer.{Written, accepted, outcome}
use Rattle.spec.specs.Words.{places}
use Rattle.spec.specs.Demand.{strings_in, Each84}
use Rattle.spec.proofs.Good.{Spaced, Sound, AllSound}
use Rattle.spec.proofs.RowDemand.{strings_back}
use Rattle.spec.proofs.Lent.{made, good, says, templates_read}

abbrev pub SpacedGaps : Bytes → Row → Type 0
SpacedGaps front strings = Spaced false (strings_in strings) (places (strings_in strings))

pub sound_spaced : (t : Template) → Sound t → Spaced false t.strings (places t.strings)
sound_spaced t s = subst (Spaced false t.strings) (sym s.placed) s.spaced

each_spaced : (ts : List Template) → AllSound ts → Each84 SpacedGaps (templates_row ts)
unfolding AllSound Each84 templates_row template_row record_row
each_spaced [] h = tt
each_spaced (t ∷ ts) h = (λ e. subst (λ (ss : List Bytes). Spaced false ss (places ss)) (sym (strings_back t.strings)) (sound_spaced t h.0), each_spaced ts h.1)

module _ (page options : Bytes) (scratch tr pr : ℕ) (w : Written) (all : AllBytes page) (e : outcome page options scratch tr pr ≡ accepted w) where
  pub gaps_spaced : Each84 SpacedGaps (read w.templates_out)
  gaps_spaced =
      let s = says page options scratch tr pr w all e in
      subst (Each84 SpacedGaps) (sym (templates_read page options scratch tr pr w all e))
      (each_spaced (made page options).templates ((good page options scratch tr pr w all e).kept.sound s.outputs.none_mixed))
