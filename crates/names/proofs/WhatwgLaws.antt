-- The two tests of 000 beside WHATWG's lists: `param` is void besides, and five newer boolean attributes are not boolean.
-- Main statements: `void_is`, `void_in_any_case`, `boolean_is`.
-- Assumes nothing.
use mathlib.Core.Path.{◌≡◌, refl, sym, ap, ◌∙◌}
use mathlib.Core.Bool.{Bool, true, false, ◌&&◌, ◌||◌, not, false≢true}
use lib.ListN.{length}
use borrow.Author.Tests.{not-true}
use Rattle.field.specs.Bytes.{Bytes, ascii, same, among}
use Rattle.names.specs.Names.{small_letters, void_names, boolean_names, is_void_element, is_boolean_attr}
use Rattle.names.specs.Whatwg.{whatwg_void, whatwg_is_void, whatwg_boolean, newer_boolean}
use Rattle.names.proofs.CompareLaws.{same_eq}
use Rattle.names.proofs.ListLaws.{and_left, and_right, both_ways, every_at, among_within}

or_cases : {C : Type 0} (a b : Bool) → (a || b) ≡ true → (a ≡ true → C) → (b ≡ true → C) → C
or_cases true b h f g = f refl
or_cases false b h f g = g h

pub void_is : (n : Bytes) → is_void_element n ≡ (among n whatwg_void || same n (ascii "param"))
unfolding is_void_element void_names whatwg_void among same
void_is n =
    both_ways (among n void_names) (among n whatwg_void || same n (ascii "param"))
    (λ a. every_at (λ w. among w whatwg_void || same w (ascii "param")) void_names refl n a)
    (λ o.
    or_cases (among n whatwg_void) (same n (ascii "param")) o (λ a. among_within whatwg_void void_names refl n a)
    (λ e. ap (λ (w : Bytes). among w void_names) (same_eq n (ascii "param") e)))

-- 02, A10: a name that is one of the 14 once it goes to small letters is one that HTML takes for void, `param` apart
pub void_in_any_case : (n : Bytes) → is_void_element (small_letters n) ≡ (whatwg_is_void n || same (small_letters n) (ascii "param"))
unfolding whatwg_is_void
void_in_any_case n = void_is (small_letters n)

pub boolean_is : (n : Bytes) → is_boolean_attr n ≡ (among n whatwg_boolean && not (among n newer_boolean))
unfolding is_boolean_attr boolean_names whatwg_boolean newer_boolean among same
boolean_is n =
    both_ways (among n boolean_names) (among n whatwg_boolean && not (among n newer_boolean))
    (λ a. every_at (λ w. among w whatwg_boolean && not (among w newer_boolean)) boolean_names refl n a)
    (λ o.
    let a = and_left (among n whatwg_boolean) (not (among n newer_boolean)) o in
    let b = not-true (among n newer_boolean) (and_right (among n whatwg_boolean) (not (among n newer_boolean)) o) in
    or_cases (among n newer_boolean) (among n boolean_names) (every_at (λ w. among w newer_boolean || among w boolean_names) whatwg_boolean refl n a)
    (λ e. absurd (false≢true (sym b ∙ e))) (λ e. e))

pub whatwg_void_count : length whatwg_void ≡ 13
unfolding whatwg_void
whatwg_void_count = refl

pub whatwg_boolean_count : length whatwg_boolean ≡ 29
unfolding whatwg_boolean
whatwg_boolean_count = refl
