-- `printing::quoted::put_quoted_byte` meets its contract: each arm writes what the definition gives for its byte. Assumes nothing.
use mathlib.Core.Path.{◌≡◌, sym, ap₂, ◌∙◌}
use mathlib.Core.List.{[], ◌∷◌}
use Prim.Native.Nat.{ℕ}
use Rattle.std.proofs.Common.{rules}
use mathlib.Core.Bool.{true, false}
use Rattle.std.specs.Char.{is_ascii_control}
use Rattle.field.specs.Bytes.{Bytes}
use Rattle.field.proofs.PutLaws.{wrote_is}
use Rattle.printing.specs.Card.{quoted_byte}
use Rattle.printing.proofs.QuotedLaws.{quoted_escaped, quoted_hex, quoted_plain}
use Rattle.printing.proofs.quoted.put_quoted_byte.Goals as goal

pub returns-in-34 : goal.returns-in-34
returns-in-34 c = wrote_is (quoted_escaped _ c.in-34.is) c.put_bytes.ensures

pub returns-in-10 : goal.returns-in-10
unfolding quoted_byte
returns-in-10 c = rw c.in-10.is c.put_bytes-in-10.ensures

pub returns-in-13 : goal.returns-in-13
unfolding quoted_byte
returns-in-13 c = rw c.in-13.is c.put_bytes-in-13.ensures

pub returns-in_default : goal.returns-in_default
returns-in_default c =
    let digits = ap₂ {C = Bytes} (λ (x y : ℕ). 92 ∷ 120 ∷ x ∷ y ∷ []) c.hex_digit.ensures c.hex_digit-in_default.ensures in
    let control : is_ascii_control c.args.c ≡ true = sym c.is_ascii_control.ensures.value ∙ c.if-is_ascii_control.true in
    wrote_is (digits ∙ quoted_hex c.args.c (search rules) (search rules) (search rules) (search rules) control) c.put_bytes-in_default.ensures

pub returns-in_default-2 : goal.returns-in_default-2
returns-in_default-2 c =
    let control : is_ascii_control c.args.c ≡ false = sym c.is_ascii_control.ensures.value ∙ c.if-is_ascii_control.false in
    wrote_is (quoted_plain c.args.c (search rules) (search rules) (search rules) (search rules) control) c.put_byte.ensures
