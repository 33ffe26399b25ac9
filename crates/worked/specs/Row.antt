-- The same on rows of fields, whatever the fields: a 79 goes by the tree that its pieces are read as. Assumes nothing: these are
-- definitions.
use Rattle.std.specs.Prelude.{ℕ, ◌≡◌, ◌+◌, ◌≤◌, Bool, true, ◌&&◌, ◌||◌, [], leb, eqb, length, Option}
use Rattle.field.specs.Bytes.{Bytes, pick}
use Rattle.field.specs.Row.{Row, end, loose, field, bytes, inside, opened, read}
use Rattle.page.specs.Number.{whole, number_bytes}
use Rattle.field.specs.Fields.{IsEnd}
use Rattle.field.specs.declared.reader.Field.{Field}
use Rattle.page.specs.Page.{Pieces, no_pieces, source_piece, tag_piece}
use Rattle.page.specs.Tree.{choose, pieces_in, element_in, fragment_in}
use Rattle.sums.specs.Value.{Worked}
use Rattle.sums.specs.declared.value.Sum.TheVariants.{Plus, Minus}
use Rattle.std.specs.Prelude.{Some, None}
use Rattle.worked.specs.Worked.{pieces_sum}

-- the tags of a page below which an expression may stand
unfoldable pub holds : ℕ → Bool
holds t =
    eqb t 0x01 || ((leb 0x10 t && leb t 0x12) || (eqb t 0x30 || (eqb t 0x31 || (eqb t 0x50 || (eqb t 0x52 || (eqb t 0x53 || (eqb t 0x61 || (eqb t 0x76 || (eqb t 0x77 || eqb t 0x79)))))))))

unfoldable pub field_sum : ℕ → Row → Worked
field_sum t i = choose (eqb t 0x79) (λ _. pieces_sum (pieces_in i)) λ _. None

unfoldable pub number_or : Worked → ℕ → Bytes → Row → Row → Row
number_or None t f i r = field t f i r
number_or (Some (Plus n)) t f i r = field 0x71 (number_bytes (whole n)) end r
number_or (Some (Minus n)) t f i r = field 0x75 (number_bytes (whole n)) end r

unfoldable pub worked_row : Row → Row
worked_row end = end
worked_row (loose b) = loose b
worked_row (field t f i r) = number_or (field_sum t i) t f (pick (holds t) (worked_row i) i) (worked_row r)

-- ---- as the code writes it: a row, and one field by its tag and body

unfoldable pub worked_bytes : Bytes → Bytes
worked_bytes s = bytes (worked_row (read s))

unfoldable pub worked_field : ℕ → Bytes → Bytes
worked_field t w = bytes (worked_row (opened (inside t) read t w []))

-- a 20, 30 or 31
unfoldable pub is_piece : ℕ → Bool
is_piece t = eqb t 0x20 || (eqb t 0x30 || eqb t 0x31)

-- such a field in front of other pieces
unfoldable pub piece_before : ℕ → Bytes → Pieces → Pieces
piece_before t w ps = choose (eqb t 0x20) (λ _. source_piece w ps) λ _. choose (eqb t 0x30) (λ _. tag_piece (element_in (read w)) ps) λ _. tag_piece (fragment_in (read w)) ps

-- the next piece of a row, a 20, 30 or 31, and the row behind it, both within the row
pub record IsPiece (s : Bytes) (t : ℕ) (w r : Bytes) : Type 0 where
  pub pieces_are : pieces_in (read s) ≡ piece_before t w (pieces_in (read r))
  pub tag_is : is_piece t ≡ true
  pub sizes : 3 + length w + length r ≤ length s

-- no piece is left, and no field in the rest, which is no longer than the row
pub record NoPiece (s r : Bytes) : Type 0 where
  pub pieces_are : pieces_in (read s) ≡ no_pieces
  pub at_end : IsEnd r r
  pub rest_within : length r ≤ length s

abbrev pub NextPiece : Bytes → Option Field → Bytes → Type 0
NextPiece s None r = NoPiece s r
NextPiece s (Some f) r = IsPiece s f.tag f.body.now r
