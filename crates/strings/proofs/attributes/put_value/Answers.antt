-- A string is escaped, and a number as it is, with or without its minus.
use Rattle.std.proofs.Common.{◌≡◌, ℕ, List, ◌∷◌, Bor}
use mathlib.Core.Path.{sym, ap, ◌∙◌}
use native.Mathlib.Omega.{arith}
use lib.ListN.{length}
use Rattle.field.proofs.PutLaws.{wrote_then, wrote_is}
use Rattle.text.specs.Escape.{escape_html}
use Rattle.page.proofs.NumberLaws.{render_escaped, minus_escaped}
use Rattle.decisions.specs.At.{number_at, number_text}
use Rattle.decisions.specs.Becomes.{text}
use Rattle.decisions.specs.declared.becomes.Text.{Text}
use Rattle.decisions.specs.declared.becomes.Text.TheVariants as T
use Rattle.strings.proofs.attributes.put_value.Goals as goal

-- what is written for each
as_number : {value : Text} {c : Bor (List ℕ)} → value ≡ T.Number c → escape_html (text value) ≡ number_text c.now
as_number {value} {c} e = ap (λ (x : Text). escape_html (text x)) e ∙ render_escaped (number_at c.now)

as_minus : {value : Text} {c : Bor (List ℕ)} → value ≡ T.Minus c → escape_html (text value) ≡ 45 ∷ number_text c.now
as_minus {value} {c} e = ap (λ (x : Text). escape_html (text x)) e ∙ minus_escaped (number_at c.now)

pub put_number_at-requires : goal.put_number_at-requires
put_number_at-requires c = omega (arith, c.requires, ap length (as_number c.in-Number.is))

pub put_number_at-requires-in-Minus : goal.put_number_at-requires-in-Minus
put_number_at-requires-in-Minus c = omega (arith, c.requires, c.put_byte-p.ensures.end_is, ap length (as_minus c.in-Minus.is))

pub returns-in-Number : goal.returns-in-Number
returns-in-Number c = wrote_is (sym (as_number c.in-Number.is)) c.put_number_at.ensures

pub returns-in-Minus : goal.returns-in-Minus
returns-in-Minus c = wrote_is (sym (as_minus c.in-Minus.is)) (wrote_then c.put_byte-p.ensures c.put_number_at-in-Minus.ensures)
