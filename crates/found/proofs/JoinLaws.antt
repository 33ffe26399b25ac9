-- What a container adds to a run, by the shape of what it holds. Main statement: `joined_shape`. Assumes nothing.
use mathlib.Core.Path.{◌≡◌, refl, ap}
use mathlib.Core.Bool.{Bool}
use Rattle.field.specs.Bytes.{Bytes, pick, null?}
use Rattle.field.specs.Row.{read}
use Rattle.field.specs.Front.{tag_of_front, body_of}
use Rattle.text.proofs.EscapeLaws.{null_escape_html}
use Rattle.page.specs.Number.{number_in}
use Rattle.page.proofs.NumberLaws.{render_some}
use Rattle.page.specs.Tree.{Contained, contained_in}
use Rattle.spec.specs.Merge as M
use Rattle.spec.specs.Merge.{joined_text}
use Rattle.spec.specs.Transform.{shape_of}
use Rattle.decisions.specs.At.{shape_of_contained}
use Rattle.decisions.specs.declared.expr.Shape.{Shape}
use Rattle.decisions.specs.declared.expr.Shape.TheVariants as Form
use Rattle.decisions.proofs.Laws.{ContainedAt, is_empty, is_text, is_number, is_boolean, is_null, is_literal, is_minus, is_other, contained_view}
use Rattle.found.specs.Finds.{joined_of, joined_by_text}
use Rattle.found.specs.declared.Joined.{Joined}
use Rattle.found.specs.declared.Joined.TheVariants as J

-- a string by its bytes
abbrev pub joined_by : Shape → Bytes → Joined
joined_by Form.Empty b = J.Nothing
joined_by Form.String b = pick (null? b) J.Nothing J.Something
joined_by Form.Number b = J.Something
joined_by (Form.Boolean v) b = J.Nothing
joined_by Form.Null b = J.Apart
joined_by Form.Literal b = J.Apart
joined_by Form.Minus b = J.Apart
joined_by Form.Other b = J.Apart

shaped : {c : Bytes} {x : Contained} {r : Shape} → ContainedAt c x r → joined_of x ≡ joined_by r (body_of c)
unfolding joined_of joined_by_text joined_text shape_of
shaped is_empty = refl
shaped {c} is_text = ap (λ (x : Bool). pick x J.Nothing J.Something) (null_escape_html (body_of c))
shaped {c} is_number = ap (λ (x : Bool). pick x J.Nothing J.Something) (render_some (number_in (tag_of_front c) (body_of c)))
shaped is_boolean = refl
shaped is_null = refl
shaped is_literal = refl
shaped is_minus = refl
shaped (is_other h) = ap (λ (s : M.Shape). joined_by_text (joined_text s)) h

pub joined_shape : (c : Bytes) → joined_of (contained_in (read c)) ≡ joined_by (shape_of_contained (contained_in (read c))) (body_of c)
joined_shape c = shaped (contained_view c)
