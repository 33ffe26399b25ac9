-- What the index of an order promises: what is asked for, sorted, and where the record with each number stands. Nothing here needs belief. Assumes
-- nothing: these are definitions.
use Rattle.std.specs.Prelude.{ℕ, ◌≡◌, ◌+◌, ◌*◌, ◌<◌, ◌≤◌, ◌⊎◌, List, [], ◌∷◌, Option, Some, None, Result, Ok, Err, eqb, length, take, drop, slice_index}
use Rattle.std.specs.List.{All, Contains}
use Rattle.std.specs.List.Sorted.{IsNonDecreasing}
use Rattle.std.proofs.Math.Option as M
use denote.Ref.{Bor}
use Rattle.field.specs.Bytes.{Bytes}
use Rattle.field.specs.Front.{body_of}
use Rattle.field.specs.Number.{number_of}
use Rattle.field.specs.Put.{Wrote}
use Rattle.field.specs.Row.{Row, read}
use Rattle.page.specs.Tree.{choose}
use Rattle.refusal.specs.Refusal.{Verdict, Fine, Refused}
use Rattle.refusal.specs.declared.Refusal.{Refusal}
use Rattle.find.specs.Find.{absent, index_of}
use Rattle.fill.specs.declared.index.Index.{Index}
use Rattle.fill.specs.Html.{template_of}
use Rattle.fill.specs.Located.{RecordIs}
use Rattle.fill.specs.Order.{read_order, check_fillings, asked}

-- a row of fillings that is checked, at some depth
pub record Checked (s : Bytes) : Type 0 where
  pub depth : ℕ
  pub fine : check_fillings depth (read_order s) ≡ Fine

-- an order has seven bytes for each number that it asks for, and as one field 65,538 at the most
abbrev pub HasRoom : Bytes → ℕ → Type 0
HasRoom s n = (length s < 7 * n + 7) ⊎ (9362 ≤ n)

-- what the body of an 85 asks for, and what a filling does
abbrev pub asked_in : Bytes → List ℕ
asked_in w = number_of (take 4 w) ∷ asked (read_order (drop 4 w))

unfoldable pub asked_by : ℕ → Bytes → List ℕ
asked_by t w = choose (eqb t 0x85) (λ _. asked_in w) λ _. []

-- so many bytes of an order are checked, and what they ask for stands in o' from a place on
pub record Gathers (o : List ℕ) (at : ℕ) (ns : List ℕ) (bytes : ℕ) (o' : List ℕ) (end : ℕ) : Type 0 where
  pub wrote : Wrote o at ns o' end
  pub few : 7 * end ≤ 7 * at + bytes

-- the first index of a number among sorted ones, or that it is not there
abbrev pub FirstIndex : List ℕ → ℕ → Option ℕ → Type 0
FirstIndex ns n None = length ns ≤ index_of n ns
FirstIndex ns n (Some i) = (i < length ns) × (i ≡ index_of n ns)

-- the place of the one record with a number; or absent, where none has it
abbrev pub Placed : Bytes → ℕ → ℕ → Type 0
Placed t n p = ((p ≡ absent) × (template_of (read t) n ≡ M.none)) ⊎ ((p < length t) × RecordIs (read t) n (body_of (drop p t)))

-- what a walk over the records leaves of the places
abbrev pub Located : Bytes → List ℕ → List ℕ → Option (Unit {0}) → Type 0
Located t ns places None = (n : ℕ) × (index_of n ns < length ns) × (template_of (read t) n ≡ M.none)
Located t ns places (Some u) = (n : ℕ) → index_of n ns < length ns → Placed t n (slice_index places (index_of n ns))

-- a number among sorted ones, and the place of its record
pub record Served (t : Bytes) (numbers places : List ℕ) (n : ℕ) : Type 0 where
  pub sorted : IsNonDecreasing numbers
  pub asked_for : index_of n numbers < length numbers
  pub has_place : length numbers ≤ length places
  pub place : Placed t n (slice_index places (index_of n numbers))

-- what the index answers: some number that has no template, or that each is served by those at the front, so many
abbrev pub Indexed : {N : ℕ} → (templates order : Bytes) → Index N → Option (Unit {0}) → Type 0
Indexed t o x None = (n : ℕ) × Contains (asked (read_order o)) n × (template_of (read t) n ≡ M.none)
Indexed t o x (Some u) = (x.count ≤ length x.numbers) × All (Served t (take x.count x.numbers) x.places) (asked (read_order o))

-- the same behind a check of the order
abbrev pub IndexedIf : {N : ℕ} → Verdict → (templates order : Bytes) → Index N → Result (Option (Unit {0})) Refusal → Type 0
IndexedIf v t o x (Ok r) = (v ≡ Fine) × Indexed t o x r
IndexedIf v t o x (Err e) = v ≡ Refused e

-- what is answered for a number: its record, or that it has no template
abbrev pub Looked : Row → ℕ → Option (Bor Bytes) → Type 0
Looked ts n None = template_of ts n ≡ M.none
Looked ts n (Some w) = RecordIs ts n w.now
