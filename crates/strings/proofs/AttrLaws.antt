-- serialize_attr, piece by piece. Assumes nothing.
use mathlib.Core.Path.{◌≡◌, refl}
use mathlib.Core.List.{[], ◌∷◌, ◌++◌}
use Rattle.field.specs.Bytes.{Bytes}
use Rattle.text.specs.Escape.{escape_html}
use Rattle.spec.specs.Attributes.{serialize_attr}

pub serialized : (n v : Bytes) → 32 ∷ (escape_html n ++ (61 ∷ 34 ∷ (escape_html v ++ (34 ∷ [])))) ≡ serialize_attr n v
unfolding serialize_attr
serialized n v = refl
