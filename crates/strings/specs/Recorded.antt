-- Templates as they stand in templates out while a page is walked: a record is written whole once its strings stand, since the kinds are found in
-- them. Assumes nothing: these are definitions.
use Rattle.std.specs.Prelude.{ℕ, ◌+◌, Bool, ◌&&◌, List, [], ◌∷◌, ◌++◌, leb, length}
use Rattle.field.specs.Bytes.{Bytes, pick}
use Rattle.field.specs.Number.{big_endian}
use Rattle.field.specs.Row.{end, bytes}
use Rattle.field.specs.Put.{put, head}
use Rattle.spec.specs.Pass.{Template}
use Rattle.spec.specs.Output.{strings_row, template_row}
use Rattle.spec.specs.Words.{places}

abbrev pub gaps_of : Template → ℕ
gaps_of t = length (places t.strings)

-- how long a template's body is; a head of three bytes stands before it
abbrev pub body_size : Template → ℕ
body_size t = 6 + gaps_of t + length (bytes (strings_row t.strings))

-- the record without its kinds: what is left where it does not fit or is too long. The page is refused then, and the buffer cleared
abbrev pub unkinded : Template → Bytes
unkinded t = head 0x84 (body_size t) ++ big_endian 4 t.number (big_endian 2 (gaps_of t) (bytes (strings_row t.strings)))

-- the strings stand in the buffer, each with a length that two bytes can say, and so does what comes before them
abbrev pub standing : Template → Bytes → ℕ → Bool
standing t o p = leb (body_size t) 65535 && leb (p + (3 + body_size t)) (length o)

unfoldable pub recorded_one : Template → Bytes → ℕ → Bytes
recorded_one t o p = put o p (pick (standing t o p) (bytes (template_row t end)) (unkinded t))

-- one behind the other
unfoldable pub recorded : List Template → Bytes → ℕ → Bytes
recorded [] o p = o
recorded (t ∷ ts) o p = recorded ts (recorded_one t o p) (p + (3 + body_size t))
