-- Templates with texts and kinds in place: they are fine as templates out, go down and come up as they were. Main statements: `records_fine`,
-- `lowered_given`, `old_fine`, `raised_back`. Assumes nothing.
use Prim.Native.Nat.{ℕ, suc, ◌+◌, ◌≤◌}
use native.Mathlib.Omega.{arith}
use mathlib.Core.Path.{◌≡◌, refl, sym, ap, ap₂, ◌∙◌, subst}
use mathlib.Core.Bool.{Bool, true, false, ◌&&◌, ◌||◌, not}
use mathlib.Core.Option.{Option, none, some}
use mathlib.Core.List.{List, [], ◌∷◌, ◌++◌}
use lib.Dec.{T, leb, ltb, nltb→le}
use lib.ListN.{length, take, drop, length-append}
use borrow.Author.Tests.{eq-eqb, le-leb, le-ltb}
use Rattle.std.proofs.Math.Facts.{or_no}
use Rattle.field.specs.Bytes.{Bytes, pick, same}
use Rattle.field.specs.Number.{big_endian, number_of}
use Rattle.field.specs.Row.{Row, end, field, bytes, long_body, inside, read}
use Rattle.field.proofs.NumberLaws.{length_big_endian, two_read, four_read}
use Rattle.field.proofs.RowLaws.{Shaped, read_back}
use Rattle.refusal.specs.Refusal.{Fine}
use Rattle.refusal.proofs.Verdicts.{fine_after}
use Rattle.page.proofs.TightRows.{short_field, short_parts}
use Rattle.outs.specs.Templates.{count_of, all_kinds, front_of_record, check_strings, check_any_strings, check_some_strings, check_strings_of, check_records}
use Rattle.outs.specs.declared.Kind.TheVariants.{Old, New}
use Rattle.spec.specs.Pass.{Template}
use Rattle.spec.specs.Output.{kind_bytes, layout_80, layout_84, strings_row, record_front, record_row, template_row}
use Rattle.spec.specs.Words.{places}
use Rattle.spec.specs.Transform.{templates_row}
use Rattle.spec.specs.Demand.{strings_in, kinds_behind}
use Rattle.spec.proofs.Markup.{same_refl}
use Rattle.spec.proofs.Records.{kinds_few, rest_short, record_shaped, front_length, front_count, front_kinds}
use Rattle.spec.proofs.RowDemand.{strings_back}
use Rattle.spec.proofs.Characters.{AllText}
use Rattle.convert.specs.Kinds.{kinds_by_strings}
use Rattle.convert.specs.Convert.{before, raised, agrees, lowered}
use Rattle.convert.proofs.EveryTag.{text_fine}
use Rattle.convert.proofs.RowFormed.{unless_true}

-- a template whose strings are texts, give the kinds of their places and are one more than those, and whose number two bytes hold
pub record Lowers (t : Template) : Type 0 where
  pub texts : AllText t.strings
  pub one_more : length t.strings ≡ suc (length (places t.strings))
  pub kinds : kinds_by_strings t.strings ≡ some (places t.strings)
  pub low : t.number ≤ 65535

unfoldable pub AllLower : List Template → Type 0
AllLower [] = Unit {0}
AllLower (t ∷ ts) = Lowers t × AllLower ts

abbrev pub Short : Row → Type 0
Short x = T (not (long_body x))

front_of : Template → Bytes
front_of t = record_front layout_84 t.number (places t.strings)

few : (t : Template) (ts : List Template) → Short (templates_row (t ∷ ts)) → length (places t.strings) ≤ 65535
unfolding templates_row template_row
few t ts l = kinds_few layout_84 t.number (places t.strings) t.strings (templates_row ts) l tt

rest : (t : Template) (ts : List Template) → Short (templates_row (t ∷ ts)) → Short (templates_row ts)
unfolding templates_row template_row
rest t ts l = rest_short layout_84 t.number (places t.strings) t.strings (templates_row ts) l

-- ---- as they are

kinds_fine : (ks : List Bool) → all_kinds (kind_bytes ks) ≡ true
unfolding all_kinds kind_bytes
kinds_fine [] = refl
kinds_fine (true ∷ ks) = kinds_fine ks
kinds_fine (false ∷ ks) = kinds_fine ks

front_fine : (t : Template) → length (places t.strings) ≤ 65535 → front_of_record New (front_of t) ≡ true
unfolding front_of_record front_of
front_fine t l =
    let ks = places t.strings in
    let f = record_front layout_84 t.number ks in
    let n : length f ≡ 6 + length ks = front_length t.number ks in
    let c : count_of f ≡ length ks = front_count t.number ks l in
    let k : all_kinds (drop 6 f) ≡ true = ap all_kinds (front_kinds t.number ks) ∙ kinds_fine ks in
    rw (le-leb 6 (length f) (omega arith), eq-eqb (length f) (6 + count_of f) (omega arith), k)

strings_fine : (ss : List Bytes) → AllText ss → check_strings (length ss) (strings_row ss) ≡ Fine
unfolding check_strings strings_row AllText
strings_fine [] h = refl
strings_fine (s ∷ ss) h = fine_after _ _ refl (fine_after _ _ (text_fine s h.0) (strings_fine ss h.1))

any_fine : (ss : List Bytes) → AllText ss → check_any_strings (strings_row ss) ≡ Fine
unfolding check_any_strings strings_row AllText
any_fine [] h = refl
any_fine (s ∷ ss) h = fine_after _ _ refl (fine_after _ _ (text_fine s h.0) (any_fine ss h.1))

some_fine : (ss : List Bytes) (k : ℕ) → length ss ≡ suc k → AllText ss → check_some_strings (strings_row ss) ≡ Fine
unfolding check_some_strings strings_row
some_fine [] k l h = absurd (omega arith)
some_fine (s ∷ ss) k l h = some_any (any_fine (s ∷ ss) h)
  where
    some_any : check_any_strings (strings_row (s ∷ ss)) ≡ Fine → check_any_strings (field 0x81 s end (strings_row ss)) ≡ Fine
    some_any h = unfold strings_row in h

pub records_fine : (ts : List Template) → AllLower ts → Short (templates_row ts) → check_records New (templates_row ts) ≡ Fine
unfolding check_records templates_row template_row record_row AllLower check_strings_of
records_fine [] h l = refl
records_fine (t ∷ ts) h l =
    let k = few t ts l in
    let c : count_of (record_front layout_84 t.number (places t.strings)) ≡ length (places t.strings) = front_count t.number (places t.strings) k in
    let s : check_strings (suc (count_of (record_front layout_84 t.number (places t.strings)))) (strings_row t.strings) ≡ Fine =
    ap (λ (n : ℕ). check_strings n (strings_row t.strings)) (ap suc c ∙ sym h.0.one_more) ∙ strings_fine t.strings h.0.texts in
    fine_after _ _ refl (fine_after _ _ (unless_true (front_fine' t k)) (fine_after _ _ s (records_fine ts h.1 (rest t ts l))))
  where
    front_fine' : (t : Template) → length (places t.strings) ≤ 65535 → front_of_record New (record_front layout_84 t.number (places t.strings)) ≡ true
    front_fine' t k = unfold front_of in front_fine t k

-- ---- down

pub low_row : List Template → Row
low_row [] = end
low_row (t ∷ ts) = record_row layout_80 t.number [] t.strings (low_row ts)

number_is : (t : Template) → t.number ≤ 65535 → number_of (take 4 (record_front layout_84 t.number (places t.strings))) ≡ t.number
unfolding record_front big_endian
number_is t l = four_read t.number (omega arith)

agreed : (t : Template) → Lowers t → agrees (record_front layout_84 t.number (places t.strings)) (strings_in (strings_row t.strings)) ≡ true
unfolding agrees
agreed t h =
    let ks = places t.strings in
    let f = record_front layout_84 t.number ks in
    let k : kinds_by_strings (strings_in (strings_row t.strings)) ≡ some ks = ap kinds_by_strings (strings_back t.strings) ∙ h.kinds in
    ap (λ (o : Option (List Bool)). elim o as (λ _. Bool) [ none ↦ false | some ks ↦ same (kinds_behind f) (kind_bytes ks) ]) k
    ∙ ap (λ (x : Bytes). same x (kind_bytes ks)) (front_kinds t.number ks) ∙ same_refl (kind_bytes ks)

pub lowered_given : (ts : List Template) → AllLower ts → lowered (templates_row ts) ≡ some (low_row ts)
unfolding lowered templates_row template_row record_row low_row AllLower
lowered_given [] h = refl
lowered_given (t ∷ ts) h =
    let n = number_is t h.0.low in
    let l : leb (number_of (take 4 (record_front layout_84 t.number (places t.strings)))) 65535 ≡ true = ap (λ (x : ℕ). leb x 65535) n ∙ le-leb t.number 65535 h.0.low in
    let g : (leb (number_of (take 4 (record_front layout_84 t.number (places t.strings)))) 65535 && agrees (record_front layout_84 t.number (places t.strings)) (strings_in (strings_row t.strings))) ≡ true = ap₂ (λ (a b : Bool). a && b) l (agreed t h.0) in
    ap (λ (b : Bool). pick b (before (lower (number_of (take 4 (record_front layout_84 t.number (places t.strings)))) (strings_in (strings_row t.strings))) (lowered (templates_row ts))) none) g
    ∙ ap₂ (λ (k : ℕ) (ss : List Bytes). before (lower k ss) (lowered (templates_row ts))) n (strings_back t.strings)
    ∙ ap (before (lower t.number t.strings)) (lowered_given ts h.1)
  where
    lower : ℕ → List Bytes → Row → Row
    lower k ss r = field 0x80 (record_front layout_80 k []) (strings_row ss) r

-- ---- what went down

low_shaped : (ts : List Template) → Shaped (low_row ts)
unfolding low_row Shaped inside
low_shaped [] = tt
low_shaped (t ∷ ts) = record_shaped inside refl layout_80 refl t.number [] t.strings (low_row ts) (λ h. absurd h) (low_shaped ts)

-- each body is shorter by the count, the kinds and two bytes of the number
pub low_short : (ts : List Template) → Short (templates_row ts) → Short (low_row ts)
unfolding low_row templates_row template_row record_row long_body
low_short [] l = tt
low_short (t ∷ ts) l =
    let i : Row = strings_row t.strings in
    let f : Bytes = record_front layout_84 t.number (places t.strings) in
    let g : Bytes = record_front layout_80 t.number [] in
    let p = short_parts 0x84 f i (templates_row ts) l in
    let n : length (f ++ bytes i) ≤ 65535 = p.0 in
    let m : length g ≡ 2 = low_front t in
    short_field 0x80 g i (low_row ts) (omega (arith, length-append f (bytes i), length-append g (bytes i), front_length t.number (places t.strings))) p.1 (low_short ts p.2)
  where
    low_front : (t : Template) → length (record_front layout_80 t.number []) ≡ 2
    low_front t = unfold record_front in (length_big_endian 2 t.number [] ∙ omega arith)

pub low_read : (ts : List Template) → Short (templates_row ts) → read (bytes (low_row ts)) ≡ low_row ts
low_read ts l = read_back (low_row ts) (low_shaped ts) (low_short ts l)

pub old_fine : (ts : List Template) → AllLower ts → check_records Old (low_row ts) ≡ Fine
unfolding check_records low_row record_row AllLower check_strings_of
old_fine [] h = refl
old_fine (t ∷ ts) h =
    fine_after _ _ refl (fine_after _ _ (unless_true (old_front t)) (fine_after _ _ (some_fine t.strings (length (places t.strings)) h.0.one_more h.0.texts) (old_fine ts h.1)))
  where
    old_front : (t : Template) → front_of_record Old (record_front layout_80 t.number []) ≡ true
    old_front t = unfold front_of_record record_front in eq-eqb (length (big_endian 2 t.number [])) 2 (length_big_endian 2 t.number [] ∙ omega arith)

-- ---- and up again

pub raised_back : (ts : List Template) → AllLower ts → raised (low_row ts) ≡ some (templates_row ts)
unfolding raised low_row record_row templates_row template_row AllLower
raised_back [] h = refl
raised_back (t ∷ ts) h =
    let ks = places t.strings in
    let f : Bytes = record_front layout_80 t.number [] in
    let ss : List Bytes = strings_in (strings_row t.strings) in
    let e : ss ≡ t.strings = strings_back t.strings in
    let k : kinds_by_strings ss ≡ some ks = ap kinds_by_strings e ∙ h.0.kinds in
    ap (λ (o : Option (List Bool)). elim o as (λ _. Option Row) [ none ↦ none | some ks ↦ before (raise (number_of f) ks ss) (raised (low_row ts)) ]) k
    ∙ ap₂ (λ (n : ℕ) (ss : List Bytes). before (raise n ks ss) (raised (low_row ts))) (low_number t h.0.low) e
    ∙ ap (before (raise t.number ks t.strings)) (raised_back ts h.1)
  where
    raise : ℕ → List Bool → List Bytes → Row → Row
    raise n ks ss r = field 0x84 (record_front layout_84 n ks) (strings_row ss) r

    low_number : (t : Template) → t.number ≤ 65535 → number_of (record_front layout_80 t.number []) ≡ t.number
    low_number t l = unfold record_front in two_read t.number l
