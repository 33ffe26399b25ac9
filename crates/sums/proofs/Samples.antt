-- Texts and what they come to, by computation. Assumes nothing.
use mathlib.Core.Path.{◌≡◌, refl}
use mathlib.Core.List.{List, [], ◌∷◌}
use Rattle.field.specs.Bytes.{Bytes, ascii}
use Rattle.sums.specs.Choice.{choose, digit}
use Rattle.sums.specs.Value.{upward, downward, difference, added, taken, multiplied, value}
use Rattle.sums.specs.Machine.{sum_with, product_with, closed, step_behind, step, whole, at_end, outcome, found, sum_of}
use Rattle.sums.specs.Value.{Worked}
use Rattle.sums.specs.declared.value.Sum.TheVariants as W
use Rattle.std.specs.Prelude.{Some, None}

-- each row: a text, and what it comes to
rows : List (Bytes × Worked)
rows =
    (ascii "2 * 12 + 3", Some (W.Plus 27)) ∷
    (ascii "7", Some (W.Plus 7)) ∷
    (ascii " 0 ", Some (W.Plus 0)) ∷
    (ascii "007", None) ∷
    (ascii "1 - 2 - 3", Some (W.Minus 4)) ∷
    (ascii "2*(3+4)", Some (W.Plus 14)) ∷
    (ascii "-1", None) ∷
    (ascii "2 - -1", None) ∷
    (ascii "1 2", None) ∷
    (ascii "", None) ∷
    (ascii "()", None) ∷
    (ascii "(1", None) ∷
    (ascii "9007199254740991", Some (W.Plus 9007199254740991)) ∷
    (ascii "9007199254740992", None) ∷
    (ascii "9007199254740991+1-1", None) ∷
    (ascii "0-9007199254740991", Some (W.Minus 9007199254740991)) ∷
    (ascii "0*(1-2)", None) ∷
    (ascii "(1-2)*0", None) ∷
    (ascii "5+0*(1-2)", None) ∷
    (ascii "0*0", Some (W.Plus 0)) ∷
    (ascii "(1-2)*(1-2)", Some (W.Plus 1)) ∷
    ((49 ∷ 9 ∷ 43 ∷ 50 ∷ []), None) ∷
    []

texts : List (Bytes × Worked) → List Worked
texts [] = []
texts ((s, w) ∷ rs) = sum_of s ∷ texts rs

answers : List (Bytes × Worked) → List Worked
answers [] = []
answers ((s, w) ∷ rs) = w ∷ answers rs

rows_hold : texts rows ≡ answers rows
unfolding rows texts answers sum_of found outcome at_end whole step step_behind closed sum_with product_with value upward downward difference added taken multiplied choose digit
rows_hold = refl
