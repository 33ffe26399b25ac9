-- What is promised of text and of strings: by what the grammar's reader does there, whatever stands around them. Main definitions:
-- `TextRead`, `StringRead`. Assumes nothing: these are definitions.
use Rattle.std.specs.Prelude.{ℕ, ◌+◌, ◌≤◌, ◌<◌, ◌≡◌, Bool, [], T, length, drop, Option, Some, None}
use Rattle.field.specs.Bytes.{Bytes}
use Rattle.field.specs.Row.{field_bytes}
use Rattle.field.specs.Put.{Wrote}
use Rattle.grammar.specs.Signs.{text_byte, string_byte, quote}
use Rattle.grammar.specs.Syntax.{Name, Attributes, string_value, Children, text_child, add_attribute, add_child}
use Rattle.grammar.specs.Grammar.{Ends}
use Rattle.grammar.specs.Reader.{Stack, Of, of_text, of_string, State, in_tag, in_string, in_entity, in_children, in_text, resumed, no_reading, outcome}
use Rattle.read_tag.specs.Runs.{plain_text, plain_string}
use Rattle.read_tag.specs.declared.texts.Around.{Around}
use Rattle.read_tag.specs.declared.texts.Around.TheVariants.{Tags, Quotes}
use Rattle.read_tag.specs.declared.texts.Run.{Run}
use Rattle.read_tag.specs.declared.texts.Entity.{Entity}

-- ---- one run for both, told apart by what it stands in

-- all that the run goes on with, and up to an entity
unfoldable pub run_byte : Around → ℕ → Bool
run_byte Tags = text_byte
run_byte (Quotes q) = string_byte q

unfoldable pub plain : Around → ℕ → Bool
plain Tags = plain_text
plain (Quotes q) = plain_string q

unfoldable pub Signed : Around → Of → Type 0
Signed Tags (of_text w n ps ks K) = Unit {0}
Signed Tags (of_string p w a n ps K) = ⊥
Signed (Quotes q) (of_text w n ps ks K) = ⊥
Signed (Quotes q) (of_string p w a n ps K) = (q ≡ p) × T (quote p)

-- what a run stands in, with the bytes w read of it
unfoldable pub holding : Of → Bytes → Of
holding (of_text v n ps ks K) w = of_text w n ps ks K
holding (of_string q v a n ps K) w = of_string q w a n ps K

unfoldable pub running : Of → State
running (of_text w n ps ks K) = in_text w n ps ks K
running (of_string q w a n ps K) = in_string q w a n ps K

-- ---- answers

-- behind `&`
unfoldable pub Entered : Bytes → ℕ → Option Entity → Type 0
Entered s i None = (x : Of) → outcome (in_entity [] x) (drop i s) ≡ no_reading
Entered s i (Some r) = (i < r.end) × (r.end ≤ length s) × ((x : Of) → outcome (in_entity [] x) (drop i s) ≡ outcome (resumed x r.code) (drop r.end s))

-- a run that begins at i and ends at e, its bytes decoded and written
pub record Decoded (q : Around) (s : Bytes) (i e : ℕ) (o : Bytes) (at : ℕ) (o' : Bytes) (at' : ℕ) : Type 0 where
  pub text : Bytes
  pub inside : e ≤ length s
  pub stops : Ends (run_byte q) (drop e s)
  pub leads : (x : Of) → Signed q x → outcome (running (holding x [])) (drop i s) ≡ outcome (running (holding x text)) (drop e s)
  pub wrote : Wrote o at text o' at'
  pub short : i + length text ≤ e

unfoldable pub Decodes : Around → Bytes → ℕ → Bytes → ℕ → Bytes → Option Run → Type 0
Decodes q s i o at o' None = (length o' ≡ length o) × ((x : Of) → Signed q x → outcome (running (holding x [])) (drop i s) ≡ no_reading)
Decodes q s i o at o' (Some r) = Decoded q s i r.end o at o' r.at

-- a text child
pub record TextEnds (s : Bytes) (i e : ℕ) (o : Bytes) (at : ℕ) (o' : Bytes) (at' : ℕ) : Type 0 where
  pub text : Bytes
  pub after : i < e
  pub inside : e ≤ length s
  pub short : i + length text ≤ e
  pub leads : (n : Name) (ps : Attributes) (ks : Children) (K : Stack) → outcome (in_children n ps ks K) (drop i s) ≡ outcome (in_children n ps (add_child ks (text_child text)) K) (drop e s)
  pub wrote : Wrote o at (field_bytes 0x60 text) o' at'

unfoldable pub TextRead : Bytes → ℕ → Bytes → ℕ → Bytes → Option Run → Type 0
TextRead s i o at o' None = (length o' ≡ length o) × ((n : Name) (ps : Attributes) (ks : Children) (K : Stack) → outcome (in_children n ps ks K) (drop i s) ≡ no_reading)
TextRead s i o at o' (Some r) = TextEnds s i r.end o at o' r.at

-- a string of an attribute, behind its quote q
pub record StringEnds (q : ℕ) (s : Bytes) (i e : ℕ) (o : Bytes) (at : ℕ) (o' : Bytes) (at' : ℕ) : Type 0 where
  pub text : Bytes
  pub after : i < e
  pub inside : e ≤ length s
  pub short : i + length text < e
  pub leads : (a n : Name) (ps : Attributes) (K : Stack) → outcome (in_string q [] a n ps K) (drop i s) ≡ outcome (in_tag n (add_attribute ps (string_value a text)) K) (drop e s)
  pub wrote : Wrote o at (field_bytes 0x51 text) o' at'

unfoldable pub StringRead : ℕ → Bytes → ℕ → Bytes → ℕ → Bytes → Option Run → Type 0
StringRead q s i o at o' None = (length o' ≡ length o) × ((a n : Name) (ps : Attributes) (K : Stack) → outcome (in_string q [] a n ps K) (drop i s) ≡ no_reading)
StringRead q s i o at o' (Some r) = StringEnds q s i r.end o at o' r.at
