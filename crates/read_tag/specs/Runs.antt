-- Runs of bytes at places of a text. Assumes nothing: these are definitions.
use Rattle.std.specs.Prelude.{ℕ, ◌-◌, ◌≤◌, Bool, ◌&&◌, not, eqb, length, take, drop}
use Rattle.field.specs.Bytes.{Bytes}
use Rattle.grammar.specs.Signs.{text_byte, string_byte}
use Rattle.grammar.specs.Grammar.{Run}

-- bytes of the sort p from i on, as long as they run, end at r
pub record Ran (p : ℕ → Bool) (s : Bytes) (i r : ℕ) : Type 0 where
  pub after : i ≤ r
  pub inside : r ≤ length s
  pub run : Run p (drop i s) (take (r - i) (drop i s)) (drop r s)

-- text, and the characters of a string, up to an entity
unfoldable pub plain_text : ℕ → Bool
plain_text c = text_byte c && not (eqb c 38)

unfoldable pub plain_string : ℕ → ℕ → Bool
plain_string q c = string_byte q c && not (eqb c 38)
