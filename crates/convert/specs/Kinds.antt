-- 02, A7: the kind of a gap from the strings before it, joined. Assumes nothing: these are definitions.
use Rattle.std.specs.Prelude.{ℕ, Bool, true, false, List, [], ◌∷◌, eqb}
use Rattle.std.proofs.Math.Option.{Option, none, some}
use Rattle.field.specs.Bytes.{Bytes, pick}
use Rattle.convert.specs.declared.kinds.Markup.{Markup}
use Rattle.convert.specs.declared.kinds.Markup.TheVariants as M

-- ---- `<` and `>` in turn, `<` first

-- a byte of an opening tag
abbrev pub in_opening : ℕ → Markup
in_opening c = pick (eqb c 60) M.Crossed (pick (eqb c 62) M.Outside (pick (eqb c 32) M.Spaced M.Opening))

unfoldable pub passed : Markup → ℕ → Markup
passed M.Outside c = pick (eqb c 60) M.Entered (pick (eqb c 62) M.Crossed M.Outside)
passed M.Entered c = pick (eqb c 47) M.Closing (in_opening c)
passed M.Opening c = in_opening c
passed M.Spaced c = in_opening c
passed M.Closing c = pick (eqb c 60) M.Crossed (pick (eqb c 62) M.Outside M.Closing)
passed M.Crossed c = M.Crossed

unfoldable pub all_passed : Markup → Bytes → Markup
all_passed m [] = m
all_passed m (c ∷ cs) = all_passed (passed m c) cs

-- ---- kinds

-- an opening tag is left open and a space comes last: an attribute; no tag is left open: a child; else it is neither
unfoldable pub kind_there : Markup → Option Bool
kind_there M.Outside = some false
kind_there M.Entered = none
kind_there M.Opening = none
kind_there M.Spaced = some true
kind_there M.Closing = none
kind_there M.Crossed = none

-- for each gap, or none where one is neither
unfoldable pub kinds_from : Markup → List Bytes → Option (List Bool)
kinds_from m [] = some []
kinds_from m (s ∷ []) = some []
kinds_from m (s ∷ t ∷ ss) =
    elim (kind_there (all_passed m s)) [
      | none ↦ none
      | some k ↦ elim (kinds_from (all_passed m s) (t ∷ ss)) [ none ↦ none | some ks ↦ some (k ∷ ks) ]
    ]

abbrev pub kinds_by_strings : List Bytes → Option (List Bool)
kinds_by_strings ss = kinds_from M.Outside ss
