-- Templates as the code goes over them, record by record: what is written of each, whether it may be, and the strings by their bytes.
-- Nothing here needs belief. Assumes nothing: these are definitions.
use Rattle.std.specs.Prelude.{ℕ, zero, suc, ◌-◌, ◌≤◌, ◌≡◌, Bool, true, false, ◌&&◌, ◌||◌, not, [], ◌∷◌, ◌++◌, eqb, leb, ltb, length, take, drop, Option, Some, None, Result, Ok, Err}
use Rattle.field.specs.Bytes.{Bytes, same}
use Rattle.field.specs.Number.{number_of, big_endian}
use Rattle.field.specs.Row.{Row, end, loose, field, field_bytes, bytes, counted_front, read}
use Rattle.field.specs.Front.{body_of, behind_of}
use Rattle.field.specs.Put.{put, Wrote}
use Rattle.outs.specs.declared.Kind.{Kind}
use Rattle.outs.specs.declared.Kind.TheVariants.{Old, New}
use Rattle.convert.specs.Kinds.{all_passed}
use Rattle.convert.specs.Convert.{Outcome, refused, upgraded, downgraded, number, bytes_of_templates, bytes_of_page, templates_left, page_left}
use Rattle.refusal.specs.Refusal.{refusal_number}
use Rattle.convert.specs.declared.Unconverted.{Unconverted}
use Rattle.convert.specs.declared.Unconverted.TheVariants.{Refused, Unsayable}
use Rattle.convert.specs.declared.Converted.{Converted}
use Rattle.convert.specs.declared.templates.Rewritten.{Rewritten}
use Rattle.convert.specs.declared.kinds.Gaps.{Gaps}
use Rattle.convert.specs.declared.kinds.Markup.{Markup}
use Rattle.convert.specs.declared.kinds.Markup.TheVariants as M

-- ---- texts

-- neither `<` nor `>` is among these
unfoldable pub plain : Bytes → Bool
plain [] = true
plain (c ∷ cs) = (not (eqb c 60) && not (eqb c 62)) && plain cs

-- from m on, t leaves us where s does
pub record PassesOver (m : Markup) (s t : Bytes) : Type 0 where
  pub same_end : all_passed m s ≡ all_passed m t
  pub no_longer : length t ≤ length s

-- so of c and s on one side, d and t on the other, unless we stand right behind a `<`; d is no sign
pub record EndsRun (c : ℕ) (s : Bytes) (d : ℕ) (t : Bytes) : Type 0 where
  pub last_is : plain (d ∷ []) ≡ true
  pub passes : (m : Markup) → (m ≡ M.Entered → ⊥) → PassesOver m (c ∷ s) (d ∷ t)

-- ---- kinds

-- 1 or 2, or 0 where a gap is neither
unfoldable pub kind_number : Markup → ℕ
kind_number M.Outside = 2
kind_number M.Entered = 0
kind_number M.Opening = 0
kind_number M.Spaced = 1
kind_number M.Closing = 0
kind_number M.Crossed = 0

-- the same of an Option
abbrev pub KindIs : Option ℕ → Markup → Type 0
KindIs None m = kind_number m ≡ 0
KindIs (Some k) m = (kind_number m ≡ k) × (1 ≤ k)

-- behind each of so many strings
unfoldable pub kind_marks : ℕ → Markup → Bytes → Bytes
kind_marks zero m s = []
kind_marks (suc k) m s = kind_number (all_passed m (body_of s)) ∷ kind_marks k (all_passed m (body_of s)) (behind_of s)

-- a step over a gap: the strings that are left mark as those behind the first do
pub record NextKind (x : Gaps) (o : Option ℕ) (y : Gaps) : Type 0 where
  pub markup_is : y.markup ≡ all_passed x.markup (body_of x.strings.0.now)
  pub left_is : (k : ℕ) → kind_marks k y.markup y.strings.0.now ≡ kind_marks k y.markup (behind_of x.strings.0.now)
  pub kind_is : KindIs o y.markup

unfoldable pub all_clear : Bytes → Bool
all_clear [] = true
all_clear (k ∷ ks) = leb 1 k && all_clear ks

-- the same kinds, of which none is 0
unfoldable pub same_kinds : Bytes → Bytes → Bool
same_kinds ks ms = all_clear ms && same ks ms

-- how many fields a row has
unfoldable pub fields_in : Row → ℕ
fields_in end = 0
fields_in (loose b) = 0
fields_in (field t f i r) = suc (fields_in r)

-- ---- the body of a record, by the body that it is made from

abbrev pub gaps_in : Bytes → ℕ
gaps_in s = fields_in (read s) - 1

-- 80 to 84
abbrev pub raised_front : Bytes → Bytes
raised_front w = big_endian 4 (number_of (take 2 w)) (big_endian 2 (gaps_in (drop 2 w)) (kind_marks (gaps_in (drop 2 w)) M.Outside (drop 2 w)))

-- 84 to 80
abbrev pub strings_at : Bytes → Bytes
strings_at w = drop (counted_front 4 w) w

abbrev pub kinds_at : Bytes → Bytes
kinds_at w = take (counted_front 4 w - 6) (drop 6 w)

-- the kinds of an 84 are those of its strings
abbrev pub body_agrees : Bytes → Bool
body_agrees w = same_kinds (kinds_at w) (kind_marks (length (kinds_at w)) M.Outside (strings_at w))

unfoldable pub rewritten_body : Kind → Bytes → Bytes
rewritten_body Old w = raised_front w ++ drop 2 w
rewritten_body New w = big_endian 2 (number_of (take 4 w)) [] ++ strings_at w

unfoldable pub body_clear : Kind → Bytes → Bool
body_clear Old w = all_clear (kind_marks (gaps_in (drop 2 w)) M.Outside (drop 2 w))
body_clear New w = leb (number_of (take 4 w)) 65535 && body_agrees w

abbrev pub rewritten_tag : Kind → ℕ
rewritten_tag Old = 0x84
rewritten_tag New = 0x80

-- what the check says of a body: its front is all there
abbrev pub BodyFits : Kind → Bytes → Type 0
BodyFits Old w = 2 ≤ length w
BodyFits New w = (6 ≤ length w) × (counted_front 4 w ≤ length w)

-- ---- all records

unfoldable pub rewritten_bytes : Kind → Row → Bytes
rewritten_bytes k end = []
rewritten_bytes k (loose b) = []
rewritten_bytes k (field t f i r) = field_bytes (rewritten_tag k) (rewritten_body k (f ++ bytes i)) ++ rewritten_bytes k r

unfoldable pub all_bodies_clear : Kind → Row → Bool
all_bodies_clear k end = true
all_bodies_clear k (loose b) = true
all_bodies_clear k (field t f i r) = body_clear k (f ++ bytes i) && all_bodies_clear k r

unfoldable pub some_body_long : Kind → Row → Bool
some_body_long k end = false
some_body_long k (loose b) = false
some_body_long k (field t f i r) = ltb 65535 (length (rewritten_body k (f ++ bytes i))) || some_body_long k r

-- what the kinds of gaps leave in a lent buffer, and what is answered: nothing where a gap is of none
abbrev pub Marks : Bytes → (o : Bytes) (at : ℕ) (o' : Bytes) → Option ℕ → Type 0
Marks ks o at o' None = all_clear ks ≡ false
Marks ks o at o' (Some e) = Wrote o at ks o' e × (all_clear ks ≡ true)

-- the same of a record
pub record WroteBody (k : Kind) (w o : Bytes) (n : ℕ) (o' : Bytes) (r : Rewritten) : Type 0 where
  pub wrote : Wrote o n (field_bytes (rewritten_tag k) (rewritten_body k w)) o' r.place
  pub long_is : r.long ≡ ltb 65535 (length (rewritten_body k w))
  pub clear_is : body_clear k w ≡ true

abbrev pub RewritesBody : Kind → (w o : Bytes) (n : ℕ) (o' : Bytes) → Option Rewritten → Type 0
RewritesBody k w o n o' None = body_clear k w ≡ false
RewritesBody k w o n o' (Some r) = WroteBody k w o n o' r

-- the same of all records, from the front of the buffer on
pub record WroteAll (k : Kind) (x : Row) (o o' : Bytes) (r : Rewritten) : Type 0 where
  pub out_is : o' ≡ put o 0 (rewritten_bytes k x)
  pub bytes_is : r.place ≡ length (rewritten_bytes k x)
  pub long_is : r.long ≡ some_body_long k x
  pub clear_is : all_bodies_clear k x ≡ true

abbrev pub Rewrites : Kind → Row → (o o' : Bytes) → Option Rewritten → Type 0
Rewrites k x o o' None = all_bodies_clear k x ≡ false
Rewrites k x o o' (Some r) = WroteAll k x o o' r

-- ---- the answer

abbrev pub other : Kind → Kind
other Old = New
other New = Old

-- how many bytes the number of a call has
abbrev pub width : Kind → ℕ
width Old = 2
width New = 4

-- from one form into the other
abbrev pub turned : Kind → (templates page : Bytes) (templates_room page_room : ℕ) → Outcome
turned Old t p tr pr = upgraded t p tr pr
turned New t p tr pr = downgraded t p tr pr

-- the number of a reason: of a refusal its own, and 17 where the other form cannot say it
abbrev pub unconverted_number : Unconverted → ℕ
unconverted_number (Refused r) = refusal_number r
unconverted_number Unsayable = 17

-- an outcome as it is answered and left in both lent buffers
pub record Converts (o : Outcome) (t p : Bytes) (a : Converted) (t' p' : Bytes) : Type 0 where
  pub number_is : a.number ≡ number o
  pub templates_bytes_is : a.templates_bytes ≡ bytes_of_templates o
  pub page_bytes_is : a.page_bytes ≡ bytes_of_page o
  pub templates_is : t' ≡ templates_left o t
  pub page_is : p' ≡ page_left o p

-- why there is none
pub record Fails (o : Outcome) (t p : Bytes) (e : Unconverted) (t' p' : Bytes) : Type 0 where
  pub reason_is : o ≡ refused (unconverted_number e)
  pub templates_size : length t' ≡ length t
  pub page_size : length p' ≡ length p

abbrev pub Attempts : Outcome → (t p : Bytes) → Result Converted Unconverted → (t' p' : Bytes) → Type 0
Attempts o t p (Ok a) t' p' = Converts o t p a t' p'
Attempts o t p (Err e) t' p' = Fails o t p e t' p'
