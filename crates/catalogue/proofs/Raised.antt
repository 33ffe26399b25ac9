-- What raising does to the numbers of a page: each record's and each call's is so many further, and there are no others. Main statements:
-- `recorded_checked`, `called_checked`, `recorded_up`, `called_up`. Assumes nothing.
use Prim.Native.Nat.{ℕ, ◌+◌, ◌%◌, ◌^◌, ◌≤◌, ◌<◌}
use mathlib.Core.Path.{◌≡◌, refl, sym, ap, ap₂, ◌∙◌, subst}
use mathlib.Core.Bool.{Bool, true, false, ◌&&◌}
use mathlib.Core.List.{List, [], ◌∷◌, ◌++◌, map}
use mathlib.Core.Logic.{◌⊎◌, inl, inr}
use native.Mathlib.Omega.{arith}
use lib.Dec.{eqb}
use lib.ListN.{length, drop}
use Rattle.std.proofs.lemmas.List.{map-append}
use Rattle.std.proofs.lemmas.Bool.{cases_Bool}
use borrow.Author.Tests.{le-leb, eq-eqb, eqb-true}
use Rattle.field.specs.Bytes.{Bytes, pick}
use Rattle.field.specs.Number.{big_endian}
use Rattle.field.specs.Row.{Row, end, loose, field, read}
use Rattle.field.proofs.Reading.{ShapedBy, shaped}
use Rattle.refusal.specs.Refusal.{Fine}
use Rattle.outs.specs.Held.{nests, held, read_out}
use Rattle.outs.specs.PageOut.{left, within, good, check_page_out}
use Rattle.outs.specs.Templates.{check_records, check_templates}
use Rattle.outs.specs.declared.Expect.{Expect}
use Rattle.outs.specs.declared.Expect.TheVariants as E
use Rattle.outs.specs.declared.Kind.TheVariants.{New}
use Rattle.convert.proofs.RecordLaws.{record_of, new_front}
use Rattle.convert.proofs.PageLaws.{leaf_alone, rest_fine, nest_fine}
use Rattle.catalogue.specs.Page.{Body, IsBytes}
use Rattle.catalogue.specs.Catalogue.{four}
use Rattle.catalogue.specs.Numbers.{full_turn, changed, raised, up}
use Rattle.catalogue.specs.Judged.{recorded_numbers, called_numbers, judge}
use Rattle.catalogue.proofs.Parts.{read_four}
use Rattle.catalogue.proofs.Rows.{read_up}
use Rattle.catalogue.proofs.Numbered.{nests_call, judge_exactly}

module _ (n : ℕ) where
  further : ℕ → ℕ
  further k = (k + n) % full_turn

  -- a number that is raised
  four_raised : (tag t : ℕ) (f : Bytes) → eqb t tag ≡ true → 4 ≤ length f → four (raised tag n t f) ≡ further (four f)
  unfolding raised further
  four_raised tag t f e l =
      let h : (four f + n) % full_turn < 2 ^ 32 = omega arith in
      ap₂ (λ (a b : Bool). four (pick (a && b) (big_endian 4 ((four f + n) % full_turn) [] ++ drop 4 f) f)) e (le-leb 4 (length f) l)
      ∙ read_four ((four f + n) % full_turn) (drop 4 f) h

  recorded_changed : (x : Row) → check_records New x ≡ Fine → recorded_numbers (changed (raised 0x84 n) x) ≡ map further (recorded_numbers x)
  unfolding recorded_numbers changed
  recorded_changed end h = refl
  recorded_changed (loose b) h = refl
  recorded_changed (field t f i r) h =
      let d = record_of New t f i r h in
      let e : eqb t 0x84 ≡ true = eq-eqb t 0x84 d.tag_is in
      let l : 4 ≤ length f = omega (arith, (new_front f d.front_is).long_enough) in
      ap (λ (b : Bool). pick b (four (raised 0x84 n t f) ∷ recorded_numbers (changed (raised 0x84 n) r)) (recorded_numbers (changed (raised 0x84 n) r))) e
      ∙ ap₂ (λ (k : ℕ) (ks : List ℕ). k ∷ ks) (four_raised 0x84 t f e l) (recorded_changed r d.rest_is)
      ∙ ap (λ (b : Bool). map further (pick b (four f ∷ recorded_numbers r) (recorded_numbers r))) (sym e)

  -- the number of one call
  one_call : (t : ℕ) (f : Bytes) → (eqb t 0x90 ≡ true → 4 ≤ length f) → pick (eqb t 0x90) (four (raised 0x90 n t f) ∷ []) [] ≡ map further (pick (eqb t 0x90) (four f ∷ []) [])
  one_call t f l = on (cases_Bool (eqb t 0x90))
    where
      on : (eqb t 0x90 ≡ true) ⊎ (eqb t 0x90 ≡ false) → pick (eqb t 0x90) (four (raised 0x90 n t f) ∷ []) [] ≡ map further (pick (eqb t 0x90) (four f ∷ []) [])
      on (inl e) =
          ap (λ (b : Bool). pick b (four (raised 0x90 n t f) ∷ []) []) e ∙ ap (λ (k : ℕ). k ∷ []) (four_raised 0x90 t f e (l e))
          ∙ ap (λ (b : Bool). map further (pick b (four f ∷ []) [])) (sym e)
      on (inr e) = ap (λ (b : Bool). pick b (four (raised 0x90 n t f) ∷ []) []) e ∙ ap (λ (b : Bool). map further (pick b (four f ∷ []) [])) (sym e)

  no_calls : called_numbers (changed (raised 0x90 n) end) ≡ map further (called_numbers end)
  unfolding called_numbers changed
  no_calls = refl

  called_changed : (c : Expect) (x : Row) → ShapedBy (held 4) x → good 4 c x ≡ Fine → called_numbers (changed (raised 0x90 n) x) ≡ map further (called_numbers x)
  unfolding called_numbers changed
  called_changed c end s h = refl
  called_changed c (loose b) s h = refl
  called_changed c (field t f i r) s h =
      on (cases_Bool (nests t)) (λ z. called_changed (within t) i s.1 z) (called_changed (left c t) r s.2 (rest_fine 4 c t f i r h))
    where
      is_call : Bytes → List ℕ
      is_call g = pick (eqb t 0x90) (four g ∷ []) []

      Goal : Type 0
      Goal = is_call (raised 0x90 n t f) ++ (called_numbers (changed (raised 0x90 n) i) ++ called_numbers (changed (raised 0x90 n) r)) ≡ map further (is_call f ++ (called_numbers i ++ called_numbers r))

      together : (eqb t 0x90 ≡ true → 4 ≤ length f) → called_numbers (changed (raised 0x90 n) i) ≡ map further (called_numbers i) → called_numbers (changed (raised 0x90 n) r) ≡ map further (called_numbers r) → Goal
      together l e g =
          ap₂ (λ (a b : List ℕ). a ++ b) (one_call t f l) (ap₂ (λ (a b : List ℕ). a ++ b) e g ∙ sym (map-append further (called_numbers i) (called_numbers r)))
          ∙ sym (map-append further (is_call f) (called_numbers i ++ called_numbers r))

      on : (nests t ≡ true) ⊎ (nests t ≡ false) → (good 4 (within t) i ≡ Fine → called_numbers (changed (raised 0x90 n) i) ≡ map further (called_numbers i)) → called_numbers (changed (raised 0x90 n) r) ≡ map further (called_numbers r) → Goal
      on (inl q) ih g =
          let p = nest_fine 4 c t f i r h q in
          together (λ e. omega (arith, eqb-true (length f) 4 (sym (ap (λ (b : Bool). pick b (eqb (length f) 4) true) e) ∙ p.0))) (ih p.1) g
      on (inr q) ih g =
          let e : i ≡ end = leaf_alone 4 t f i q s.0 in
          together (λ z. absurd (nests_call t q z)) (subst (λ (y : Row). called_numbers (changed (raised 0x90 n) y) ≡ map further (called_numbers y)) (sym e) no_calls) g

  module _ (x : Body) (a : IsBytes x) where
    -- of templates that are checked
    pub recorded_checked : check_templates New x.templates ≡ Fine → recorded_numbers (read (up n x).templates) ≡ map (λ k. (k + n) % full_turn) (recorded_numbers (read x.templates))
    unfolding check_templates further
    recorded_checked h = ap recorded_numbers (read_up n x a).0 ∙ recorded_changed (read x.templates) h

    -- and of a page out that is
    pub called_checked : check_page_out 4 x.page_out ≡ Fine → called_numbers (read_out 4 (up n x).page_out) ≡ map (λ k. (k + n) % full_turn) (called_numbers (read_out 4 x.page_out))
    unfolding check_page_out read_out further
    called_checked h = ap called_numbers (read_up n x a).1 ∙ called_changed E.Whole (read_out 4 x.page_out) (shaped (held 4) x.page_out) h

    -- A13: of a page that is sound, the number of each record is n further
    pub recorded_up : judge x ≡ 0 → recorded_numbers (read (up n x).templates) ≡ map (λ k. (k + n) % full_turn) (recorded_numbers (read x.templates))
    recorded_up h = recorded_checked ((judge_exactly x).0 h).templates_are

    -- and that of each call
    pub called_up : judge x ≡ 0 → called_numbers (read_out 4 (up n x).page_out) ≡ map (λ k. (k + n) % full_turn) (called_numbers (read_out 4 x.page_out))
    called_up h = called_checked ((judge_exactly x).0 h).page_out_is
