-- What the program prints of tag text: of a refusal its number, of a tag that is read the card of its page. Main definition: `tag_card`.
-- Assumes nothing: these are definitions.
use Rattle.std.specs.Prelude.{ℕ, ◌-◌, [], ◌∷◌, ◌++◌, eqb, length, take, get_or}
use Rattle.field.specs.Bytes.{Bytes, pick}
use Rattle.text.specs.Decimal.{decimal}
use Rattle.page.specs.Page as P
use Rattle.page.specs.Encode.{encode}
use Rattle.tag_tree.specs.TagAnswer.{TagOutcome, tag_refused, tag_accepted, tag_refusal_number, tag_outcome}
use Rattle.spec.specs.Answer.{outcome}
use Rattle.printing.specs.Card.{card_text}

-- one LF at the very end is dropped: a text file ends with it, and A3 has nothing around the tag
unfoldable pub without_end : Bytes → Bytes
without_end s = pick (eqb (get_or s (length s - 1) 0) 10) (take (length s - 1) s) s

-- a page of one item 12 that holds the tag alone
abbrev pub page_of : P.Tag → P.Page
page_of t = P.statement_item (P.tag_piece t P.no_pieces) ∷ []

-- a page over 32,768 bytes is refused by the transform, as 2
unfoldable pub tag_text : (scratch templates_room page_room : ℕ) → TagOutcome → Bytes
tag_text scratch tr pr (tag_refused n) = decimal (tag_refusal_number n) ++ (10 ∷ [])
tag_text scratch tr pr (tag_accepted t) = card_text (outcome (encode (page_of t)) [] scratch tr pr)

-- the program: no options, 65,536 bytes for each out, room for any field
unfoldable pub tag_card : Bytes → Bytes
tag_card s = tag_text 65536 65536 65536 (tag_outcome (without_end s) 65538)
