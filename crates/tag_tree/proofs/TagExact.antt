-- What is answered is what the grammar says, in one way only, and a tag that is accepted stands in a page without 3 to 8.
-- Main statements: `answered_exactly`, `one_answer`, `accepted_ok`, `stands_in_page`. Assumes nothing.
use Prim.Native.Nat.{ℕ}
use mathlib.Core.Path.{◌≡◌, refl, sym, ◌∙◌, ap, subst}
use mathlib.Core.Bool.{Bool, true, false, not}
use mathlib.Core.List.{[], ◌∷◌}
use mathlib.Core.Logic.{◌↔◌}
use lib.Dec.{T, leb}
use lib.ListN.{length}
use Rattle.field.specs.Bytes.{Bytes, AllBytes}
use Rattle.field.specs.Row.{long_body, read}
use Rattle.utf8.specs.Utf8.{utf8}
use Rattle.page.specs.Page as P
use Rattle.page.specs.Tree.{page_in}
use Rattle.page.specs.Check.{check_page}
use Rattle.page.specs.Encode.{encode}
use Rattle.page.specs.Limits.{TagOk, ModuleItemsOk, WithinLimits}
use Rattle.refusal.specs.Refusal.{Fine}
use Rattle.page.proofs.Exact.{page_read}
use Rattle.grammar.specs.Syntax.{Tag}
use Rattle.grammar.specs.Grammar.{Reads}
use Rattle.grammar.specs.Reader.{Answer, taken, refused_14, refused_15, answer}
use Rattle.grammar.proofs.Exact.{taken_exactly, fourteen_exactly, fifteen_exactly}
use Rattle.tag_tree.specs.PageTag.{page_tag}
use Rattle.tag_tree.specs.TagAnswer.{TagRefusal, input_too_long, not_utf8, number_too_large, too_deep, output_too_long, tag_too_small, TagOutcome, tag_refused, tag_accepted, numbers_in_range, shallow, tag_field, tag_encode, IsAnswered, is_long, is_no_utf8, has_no_reading, has_other_names, has_number_over, is_deep, has_long_body, has_no_room, is_read, given, within, answered, tag_outcome}
use Rattle.tag_tree.proofs.TagLimits.{tag_ok}

-- ---- a test and what follows it

holds : (b : Bool) (n : TagRefusal) (f : Unit {0} → TagOutcome) → T b → given b n f ≡ f tt
unfolding given
holds true n f t = refl
holds false n f t = absurd t

fails : (b : Bool) (n : TagRefusal) (f : Unit {0} → TagOutcome) → T (not b) → given b n f ≡ tag_refused n
unfolding given
fails true n f t = absurd t
fails false n f t = refl

-- what holds in both cases
test : (Q : TagOutcome → Type 0) (b : Bool) (n : TagRefusal) (f : Unit {0} → TagOutcome) → (T (not b) → Q (tag_refused n)) → (T b → Q (f tt)) → Q (given b n f)
unfolding given
test Q true n f x y = y tt
test Q false n f x y = x tt

no_long : (b : Bool) → T (not (not b)) → T b
no_long true t = tt
no_long false t = absurd t

-- ---- what is computed is answered

module _ (s : Bytes) (room : ℕ) (l : T (leb (length s) 32768)) (u : T (utf8 s)) where
  within_answered : (t : Tag) → Reads s t → IsAnswered s room (within room t)
  unfolding within
  within_answered t r =
      test (IsAnswered s room) (numbers_in_range t) number_too_large _ (λ n. has_number_over l u r n)
      (λ a. test (IsAnswered s room) (shallow 3 (tag_field (page_tag t))) too_deep _ (λ n. is_deep l u r a n)
      (λ b. test (IsAnswered s room) (not (long_body (tag_field (page_tag t)))) output_too_long _ (λ n. has_long_body l u r a b (no_long (long_body (tag_field (page_tag t))) n))
      (λ c. test (IsAnswered s room) (leb (length (tag_encode (page_tag t))) room) tag_too_small _ (λ n. has_no_room l u r a b c n)
      (λ d. is_read l u r a b c d))))

  answer_answered : (a : Answer) → answer s ≡ a → IsAnswered s room (answered room a)
  unfolding answered
  answer_answered (taken t) e = within_answered t ((taken_exactly s t).0 e)
  answer_answered refused_14 e = has_no_reading l u ((fourteen_exactly s).0 e)
  answer_answered refused_15 e = let p = (fifteen_exactly s).0 e in has_other_names l u p.1 p.2

pub computed : (s : Bytes) (room : ℕ) → IsAnswered s room (tag_outcome s room)
unfolding tag_outcome
computed s room =
    test (IsAnswered s room) (leb (length s) 32768) input_too_long _ (λ n. is_long n)
    (λ l. test (IsAnswered s room) (utf8 s) not_utf8 _ (λ n. is_no_utf8 l n) (λ u. answer_answered s room l u (answer s) refl))

-- ---- what is answered is computed

yes_no : (b : Bool) → T b → T (not (not b))
yes_no true t = tt
yes_no false t = absurd t

front : (s : Bytes) (room : ℕ) → T (leb (length s) 32768) → T (utf8 s) → tag_outcome s room ≡ answered room (answer s)
unfolding tag_outcome
front s room l u = holds (leb (length s) 32768) input_too_long _ l ∙ holds (utf8 s) not_utf8 _ u

taken_front : (s : Bytes) (room : ℕ) (t : Tag) → T (leb (length s) 32768) → T (utf8 s) → Reads s t → tag_outcome s room ≡ within room t
unfolding answered
taken_front s room t l u r = front s room l u ∙ ap (answered room) ((taken_exactly s t).1 r)

pub is_computed : (s : Bytes) (room : ℕ) (o : TagOutcome) → IsAnswered s room o → tag_outcome s room ≡ o
unfolding answered within
is_computed s room o (is_long n) = unfold tag_outcome in fails (leb (length s) 32768) input_too_long _ n
is_computed s room o (is_no_utf8 l n) = unfold tag_outcome in (holds (leb (length s) 32768) input_too_long _ l ∙ fails (utf8 s) not_utf8 _ n)
is_computed s room o (has_no_reading l u n) = front s room l u ∙ ap (answered room) ((fourteen_exactly s).1 n)
is_computed s room o (has_other_names {t} l u r n) = front s room l u ∙ ap (answered room) ((fifteen_exactly s).1 (t, r, n))
is_computed s room o (has_number_over {t} l u r n) = taken_front s room t l u r ∙ fails (numbers_in_range t) number_too_large _ n
is_computed s room o (is_deep {t} l u r a n) =
    taken_front s room t l u r ∙ holds (numbers_in_range t) number_too_large _ a ∙ fails (shallow 3 (tag_field (page_tag t))) too_deep _ n
is_computed s room o (has_long_body {t} l u r a b n) =
    taken_front s room t l u r ∙ holds (numbers_in_range t) number_too_large _ a ∙ holds (shallow 3 (tag_field (page_tag t))) too_deep _ b ∙
    fails (not (long_body (tag_field (page_tag t)))) output_too_long _ (yes_no (long_body (tag_field (page_tag t))) n)
is_computed s room o (has_no_room {t} l u r a b c n) =
    taken_front s room t l u r ∙ holds (numbers_in_range t) number_too_large _ a ∙ holds (shallow 3 (tag_field (page_tag t))) too_deep _ b ∙
    holds (not (long_body (tag_field (page_tag t)))) output_too_long _ c ∙ fails (leb (length (tag_encode (page_tag t))) room) tag_too_small _ n
is_computed s room o (is_read {t} l u r a b c d) =
    taken_front s room t l u r ∙ holds (numbers_in_range t) number_too_large _ a ∙ holds (shallow 3 (tag_field (page_tag t))) too_deep _ b ∙
    holds (not (long_body (tag_field (page_tag t)))) output_too_long _ c ∙ holds (leb (length (tag_encode (page_tag t))) room) tag_too_small _ d

pub answered_exactly : (s : Bytes) (room : ℕ) (o : TagOutcome) → (tag_outcome s room ≡ o) ↔ IsAnswered s room o
answered_exactly s room o = (λ e. subst (IsAnswered s room) e (computed s room), is_computed s room o)

-- every text and room has one answer
pub one_answer : (s : Bytes) (room : ℕ) (o p : TagOutcome) → IsAnswered s room o → IsAnswered s room p → o ≡ p
one_answer s room o p a b = sym (is_computed s room o a) ∙ is_computed s room p b

-- ---- a tag that is accepted stands in a page

Stands : TagOutcome → Type 0
Stands (tag_refused n) = Unit {0}
Stands (tag_accepted t) = TagOk t 3

utf8_is : (b : Bool) → T b → b ≡ true
utf8_is true t = refl
utf8_is false t = absurd t

stands : (s : Bytes) (room : ℕ) (o : TagOutcome) → IsAnswered s room o → Stands o
unfolding Stands numbers_in_range tag_field
stands s room o (is_long n) = tt
stands s room o (is_no_utf8 l n) = tt
stands s room o (has_no_reading l u n) = tt
stands s room o (has_other_names l u r n) = tt
stands s room o (has_number_over l u r n) = tt
stands s room o (is_deep l u r a n) = tt
stands s room o (has_long_body l u r a b n) = tt
stands s room o (has_no_room l u r a b c n) = tt
stands s room o (is_read l u r a b c d) = (tag_ok r.0 3 b a (utf8_is (utf8 s) u)).0

-- within the limits of a page's tag at depth 3, where the pieces of an item stand
pub accepted_ok : (s : Bytes) (room : ℕ) (t : P.Tag) → tag_outcome s room ≡ tag_accepted t → TagOk t 3
unfolding Stands
accepted_ok s room t e = stands s room (tag_accepted t) ((answered_exactly s room (tag_accepted t)).0 e)

-- a page of one statement that is the tag
abbrev pub tag_page : P.Tag → P.Page
tag_page t = P.statement_item (P.tag_piece t P.no_pieces) ∷ []

-- where it fits the page's 32,768 bytes, it is accepted there and read back as it was
pub stands_in_page : (s : Bytes) (room : ℕ) (t : P.Tag) → tag_outcome s room ≡ tag_accepted t → T (leb (length (encode (tag_page t))) 32768) → (check_page (read (encode (tag_page t))) ≡ Fine) × (page_in (read (encode (tag_page t))) ≡ tag_page t) × AllBytes (encode (tag_page t))
stands_in_page s room t e l = page_read (tag_page t) (unfold WithinLimits ModuleItemsOk TagOk in (((accepted_ok s room t e, tt), tt), l))
