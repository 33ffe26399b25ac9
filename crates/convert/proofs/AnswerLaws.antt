-- Where a record cannot be said that is why. Main statement: `not_said`. Assumes nothing.
use mathlib.Core.Path.{◌≡◌, refl}
use Rattle.std.specs.Prelude.{Option, Some, None, Err}
use Rattle.std.specs.Option.{ok_or}
use Rattle.convert.specs.declared.Unconverted.{Unconverted}
use Rattle.convert.specs.declared.Unconverted.TheVariants as U
use Rattle.convert.specs.declared.templates.Rewritten.{Rewritten}

-- the other form cannot say some record
pub not_said : (r : Option Rewritten) (e : Unconverted) → ok_or r U.Unsayable ≡ Err e → (r ≡ None) × (e ≡ U.Unsayable)
not_said None e h = (refl, cc)
not_said (Some x) e h = absurd (cc)
