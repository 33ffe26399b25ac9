-- The definition on the examples of RFC 3629: those of section 7 are UTF-8, and the sequences that it forbids are not.
-- Assumes nothing.
use mathlib.Core.Path.{◌≡◌, refl}
use mathlib.Core.Bool.{true, false}
use mathlib.Core.List.{[], ◌∷◌}
use Rattle.utf8.specs.Utf8.{forms, begun, utf8_behind, utf8}

-- U+0041 U+2262 U+0391 U+002E
not_identical_to_alpha : utf8 (0x41 ∷ 0xE2 ∷ 0x89 ∷ 0xA2 ∷ 0xCE ∷ 0x91 ∷ 0x2E ∷ []) ≡ true
unfolding utf8 utf8_behind forms begun
not_identical_to_alpha = refl

-- U+D55C U+AD6D U+C5B4
hangugeo : utf8 (0xED ∷ 0x95 ∷ 0x9C ∷ 0xEA ∷ 0xB5 ∷ 0xAD ∷ 0xEC ∷ 0x96 ∷ 0xB4 ∷ []) ≡ true
unfolding utf8 utf8_behind forms begun
hangugeo = refl

-- U+65E5 U+672C U+8A9E
nihongo : utf8 (0xE6 ∷ 0x97 ∷ 0xA5 ∷ 0xE6 ∷ 0x9C ∷ 0xAC ∷ 0xE8 ∷ 0xAA ∷ 0x9E ∷ []) ≡ true
unfolding utf8 utf8_behind forms begun
nihongo = refl

-- U+FEFF U+233B4
stump_of_tree : utf8 (0xEF ∷ 0xBB ∷ 0xBF ∷ 0xF0 ∷ 0xA3 ∷ 0x8E ∷ 0xB4 ∷ []) ≡ true
unfolding utf8 utf8_behind forms begun
stump_of_tree = refl

-- U+0000 in two bytes: section 10 warns of it
long_zero : utf8 (0xC0 ∷ 0x80 ∷ []) ≡ false
unfolding utf8 utf8_behind forms begun
long_zero = refl

-- the surrogates of U+233B4, three bytes each
surrogates : utf8 (0xED ∷ 0xA1 ∷ 0x8C ∷ 0xED ∷ 0xBE ∷ 0xB4 ∷ []) ≡ false
unfolding utf8 utf8_behind forms begun
surrogates = refl

-- U+110000, one over the last
over_the_last : utf8 (0xF4 ∷ 0x90 ∷ 0x80 ∷ 0x80 ∷ []) ≡ false
unfolding utf8 utf8_behind forms begun
over_the_last = refl
