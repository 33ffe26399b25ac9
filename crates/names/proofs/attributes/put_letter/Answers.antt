-- A capital with a sign.
use mathlib.Core.Path.{sym, ap, ◌∙◌}
use mathlib.Core.List.{◌∷◌, []}
use Prim.Native.Nat.{ℕ}
use Rattle.std.specs.Prelude.{Option}
use Rattle.field.proofs.PutLaws.{wrote_is, wrote_then}
use Rattle.names.specs.Table.{spelled_letter}
use Rattle.names.proofs.SpellLaws.{letter_signed}
use Rattle.names.proofs.attributes.put_letter.Goals as goal

pub returns-in-Some : goal.returns-in-Some
returns-in-Some c = let a = c.args in
    let b = wrote_is (ap (λ (x : ℕ). x ∷ []) c.small_letter.ensures) c.put_byte.ensures in
    let e = letter_signed c.in-Some.s a.c (sym c.is_ascii_uppercase.ensures.value ∙ c.if-is_ascii_uppercase.true) in
    wrote_is (e ∙ ap (λ (o : Option ℕ). spelled_letter o a.c) (sym c.in-Some.is)) (wrote_then c.put_byte-a.ensures b)
