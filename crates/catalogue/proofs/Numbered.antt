-- Numbers that are 1 up to a count, each once, by lists and in the words of demand 3. Main statements: `each_once_means`, `recorded_is`,
-- `called_is`, `judge_exactly`, `forms_few`. Assumes nothing.
use Prim.Native.Nat.{ℕ, zero, suc, ◌+◌, ◌≤◌, ◌<◌}
use mathlib.Core.Path.{◌≡◌, refl, sym, ap, ap₂, ◌∙◌, subst}
use mathlib.Core.Bool.{Bool, true, false, ◌&&◌}
use mathlib.Core.List.{List, [], ◌∷◌, ◌++◌}
use mathlib.Core.Logic.{◌⊎◌, inl, inr, ◌↔◌}
use native.Mathlib.Omega.{arith}
use lib.Dec.{eqb}
use lib.ListN.{length}
use Rattle.std.proofs.lemmas.Float.{T_from_true}
use Rattle.std.proofs.lemmas.Bool.{and_from, cases_Bool}
use borrow.Author.Tests.{le-leb, eq-eqb, eqb-true, eqb-false}
use Rattle.field.specs.Bytes.{Bytes, pick}
use Rattle.field.specs.Row.{Row, end, loose, field, bytes, read}
use Rattle.field.proofs.Reading.{ShapedBy, shaped, length_bytes}
use Rattle.refusal.specs.Refusal.{Verdict, Fine, verdict_number}
use Rattle.refusal.proofs.Verdicts.{verdict_fine}
use Rattle.page.specs.Tree.{choose}
use Rattle.page.proofs.TightRows.{length_read}
use Rattle.spec.proofs.Counts.{bit_not, bit_low}
use Rattle.outs.specs.Held.{nests, held, read_out}
use Rattle.outs.specs.PageOut.{left, within, good, check_page_out}
use Rattle.outs.specs.Templates.{check_records, check_templates}
use Rattle.outs.specs.declared.Expect.{Expect}
use Rattle.outs.specs.declared.Expect.TheVariants as E
use Rattle.outs.specs.declared.Kind.TheVariants.{New}
use Rattle.spec.specs.Transform.{bit}
use Rattle.spec.specs.Demand.{begins, recorded_in, templates_in, called_in, up_to, strings_in, Each84}
use Rattle.convert.specs.Convert.{agrees, number_unless}
use Rattle.convert.proofs.RecordLaws.{record_of, new_front}
use Rattle.convert.proofs.PageLaws.{leaf_alone, rest_fine, nest_fine}
use Rattle.catalogue.specs.Page.{Body}
use Rattle.catalogue.specs.Catalogue.{four}
use Rattle.catalogue.specs.Judged.{all_agree, recorded_numbers, called_numbers, occurrences, once, each_once, forms, numbered, first_of, judge, Meets}
use Rattle.catalogue.proofs.Tests.{and_left, and_right}

-- ---- one number taken out

drop_one : ℕ → List ℕ → List ℕ
drop_one m [] = []
drop_one m (k ∷ ks) = pick (eqb k m) ks (k ∷ drop_one m ks)

record Dropped (m : ℕ) (ks : List ℕ) : Type 0 where
  one_less : length ks ≡ suc (length (drop_one m ks))
  others : (j : ℕ) → occurrences j ks ≡ bit (eqb m j) 1 + occurrences j (drop_one m ks)

dropped : (m : ℕ) (ks : List ℕ) → 1 ≤ occurrences m ks → Dropped m ks
unfolding occurrences drop_one
dropped m [] h = absurd (omega arith)
dropped m (k ∷ ks) h = on (cases_Bool (eqb k m)) (dropped m ks)
  where
    on : (eqb k m ≡ true) ⊎ (eqb k m ≡ false) → (1 ≤ occurrences m ks → Dropped m ks) → Dropped m (k ∷ ks)
    on (inl t) ih =
        let e : k ≡ m = eqb-true k m t in
        let d : pick (eqb k m) ks (k ∷ drop_one m ks) ≡ ks = ap (λ (b : Bool). pick b ks (k ∷ drop_one m ks)) t in
        record {
          one_less = ap (λ (l : List ℕ). suc (length l)) (sym d);
          others = λ j. ap₂ (λ (i : ℕ) (l : List ℕ). bit (eqb i j) 1 + occurrences j l) e (sym d);
        }
    on (inr t) ih =
        let i : Dropped m ks = ih (omega (arith, h, ap (λ (b : Bool). bit b 1) t)) in
        let d : pick (eqb k m) ks (k ∷ drop_one m ks) ≡ k ∷ drop_one m ks = ap (λ (b : Bool). pick b ks (k ∷ drop_one m ks)) t in
        record {
          one_less = ap suc i.one_less ∙ ap (λ (l : List ℕ). suc (length l)) (sym d);
          others = λ j.
              let a : bit (eqb k j) 1 + occurrences j ks ≡ bit (eqb m j) 1 + (bit (eqb k j) 1 + occurrences j (drop_one m ks)) = omega (arith, i.others j) in
              a ∙ ap (λ (l : List ℕ). bit (eqb m j) 1 + occurrences j l) (sym d);
        }

-- ---- 1 up to n

bit_same : (a b : ℕ) → a ≡ b → bit (eqb a b) 1 ≡ 1
bit_same a b e = ap (λ (x : Bool). bit x 1) (eq-eqb a b e)

up_to_above : (m n : ℕ) → n < m → up_to m n ≡ 0
unfolding up_to
up_to_above m zero h = refl
up_to_above m (suc n) h = omega (arith, bit_not (suc n) m (λ e. omega arith), up_to_above m n (omega arith))

up_to_within : (m n : ℕ) → 1 ≤ m → m ≤ n → up_to m n ≡ 1
unfolding up_to
up_to_within m zero h l = absurd (omega arith)
up_to_within m (suc n) h l = on (cases_Bool (eqb (suc n) m)) (up_to_within m n h)
  where
    on : (eqb (suc n) m ≡ true) ⊎ (eqb (suc n) m ≡ false) → (m ≤ n → up_to m n ≡ 1) → bit (eqb (suc n) m) 1 + up_to m n ≡ 1
    on (inl t) ih = let e : suc n ≡ m = eqb-true (suc n) m t in omega (arith, bit_same (suc n) m e, up_to_above m n (omega arith))
    on (inr t) ih = let f : suc n ≡ m → ⊥ = eqb-false (suc n) m t in omega (arith, bit_not (suc n) m f, ih (omega arith))

once_same : (k : ℕ) (ks js : List ℕ) → ((i : ℕ) → i ≤ k → occurrences i ks ≡ occurrences i js) → once k ks ≡ once k js
unfolding once
once_same zero ks js h = refl
once_same (suc k) ks js h = ap₂ (λ (x : ℕ) (b : Bool). eqb x 1 && b) (h (suc k) (omega arith)) (once_same k ks js (λ i l. h i (omega arith)))

counts_are : (n : ℕ) (ks : List ℕ) → length ks ≡ n → once n ks ≡ true → (m : ℕ) → occurrences m ks ≡ up_to m n
unfolding once up_to occurrences
counts_are zero [] e o m = refl
counts_are zero (k ∷ ks) e o m = absurd (omega arith)
counts_are (suc n) ks e o m =
    let a : occurrences (suc n) ks ≡ 1 = eqb-true (occurrences (suc n) ks) 1 (and_left (eqb (occurrences (suc n) ks) 1) (once n ks) o) in
    let d = dropped (suc n) ks (omega arith) in
    let s : once n ks ≡ once n (drop_one (suc n) ks) = once_same n ks (drop_one (suc n) ks) (λ i l. omega (arith, d.others i, bit_not (suc n) i (λ q. omega arith))) in
    let i = counts_are n (drop_one (suc n) ks) (omega (arith, d.one_less)) (sym s ∙ and_right (eqb (occurrences (suc n) ks) 1) (once n ks) o) m in
    omega (arith, d.others m)

once_are : (k n : ℕ) (ks : List ℕ) → k ≤ n → ((m : ℕ) → occurrences m ks ≡ up_to m n) → once k ks ≡ true
unfolding once
once_are zero n ks l h = refl
once_are (suc k) n ks l h =
    and_from (eqb (occurrences (suc k) ks) 1) (once k ks) (eq-eqb (occurrences (suc k) ks) 1 (h (suc k) ∙ up_to_within (suc k) n (omega arith) l)) (once_are k n ks (omega arith) h)

length_is : (n : ℕ) (ks : List ℕ) → ((m : ℕ) → occurrences m ks ≡ up_to m n) → length ks ≡ n
unfolding up_to occurrences
length_is zero [] h = refl
length_is zero (k ∷ ks) h = absurd (omega (arith, h k, bit_same k k refl))
length_is (suc n) ks h =
    let a : occurrences (suc n) ks ≡ 1 = h (suc n) ∙ omega (arith, bit_same (suc n) (suc n) refl, up_to_above (suc n) n (omega arith)) in
    let d = dropped (suc n) ks (omega arith) in
    let i = length_is n (drop_one (suc n) ks) (λ m. omega (arith, h m, d.others m)) in
    d.one_less ∙ ap suc i

-- by lists as by counts
pub each_once_means : (n : ℕ) (ks : List ℕ) → (each_once n ks ≡ true) ↔ ((m : ℕ) → occurrences m ks ≡ up_to m n)
unfolding each_once
each_once_means n ks = (
  λ e. counts_are n ks (eqb-true (length ks) n (and_left (eqb (length ks) n) (once n ks) e)) (and_right (eqb (length ks) n) (once n ks) e),
  λ h. and_from (eqb (length ks) n) (once n ks) (eq-eqb (length ks) n (length_is n ks h)) (once_are n n ks (omega arith) h),
)

-- ---- the numbers of a row

occurrences_append : (m : ℕ) (ks js : List ℕ) → occurrences m (ks ++ js) ≡ occurrences m ks + occurrences m js
unfolding occurrences
occurrences_append m [] js = omega arith
occurrences_append m (k ∷ ks) js = omega (arith, occurrences_append m ks js)

begins_long : (m : ℕ) (f : Bytes) → 4 ≤ length f → begins m f ≡ eqb (four f) m
unfolding begins
begins_long m f l = ap (λ (b : Bool). b && eqb (four f) m) (le-leb 4 (length f) l)

-- templates that are fine are recorded as demand 3 counts them
pub recorded_is : (m : ℕ) (x : Row) → check_records New x ≡ Fine → occurrences m (recorded_numbers x) ≡ recorded_in m x
unfolding recorded_numbers occurrences recorded_in
recorded_is m end h = refl
recorded_is m (loose b) h = refl
recorded_is m (field t f i r) h =
    let d = record_of New t f i r h in
    let l : 4 ≤ length f = omega (arith, (new_front f d.front_is).long_enough) in
    let e : eqb t 0x84 ≡ true = eq-eqb t 0x84 d.tag_is in
    ap (λ (b : Bool). occurrences m (pick b (four f ∷ recorded_numbers r) (recorded_numbers r))) e
    ∙ ap₂ (λ (b : Bool) (n : ℕ). bit b 1 + n) (sym (begins_long m f l)) (recorded_is m r d.rest_is)
    ∙ ap (λ (b : Bool). bit (b && begins m f) 1 + recorded_in m r) (sym e)

called_front : (m t : ℕ) (f : Bytes) → (eqb t 0x90 ≡ true → 4 ≤ length f) → occurrences m (pick (eqb t 0x90) (four f ∷ []) []) ≡ bit (eqb t 0x90 && begins m f) 1
unfolding occurrences
called_front m t f l = on (cases_Bool (eqb t 0x90))
  where
    on : (eqb t 0x90 ≡ true) ⊎ (eqb t 0x90 ≡ false) → occurrences m (pick (eqb t 0x90) (four f ∷ []) []) ≡ bit (eqb t 0x90 && begins m f) 1
    on (inl e) =
        let a : bit (eqb (four f) m) 1 + 0 ≡ bit (begins m f) 1 = omega (arith, ap (λ (b : Bool). bit b 1) (begins_long m f (l e))) in
        ap (λ (b : Bool). occurrences m (pick b (four f ∷ []) [])) e ∙ a ∙ ap (λ (b : Bool). bit (b && begins m f) 1) (sym e)
    on (inr e) = ap (λ (b : Bool). occurrences m (pick b (four f ∷ []) [])) e ∙ ap (λ (b : Bool). bit (b && begins m f) 1) (sym e)

pub nests_call : (t : ℕ) → nests t ≡ false → eqb t 0x90 ≡ true → ⊥
nests_call t n e = let k : ◌≡◌ {A = Bool} true false = sym (ap nests (eqb-true t 0x90 e)) ∙ n in let z : ◌≡◌ {A = ℕ} 0 1 = cc in omega arith

none : (m : ℕ) → occurrences m (called_numbers end) ≡ called_in m end
unfolding called_numbers occurrences called_in
none m = refl

-- and calls of a page out that is fine as demand 3 counts those
pub called_is : (m : ℕ) (c : Expect) (x : Row) → ShapedBy (held 4) x → good 4 c x ≡ Fine → occurrences m (called_numbers x) ≡ called_in m x
unfolding called_numbers occurrences called_in
called_is m c end s h = refl
called_is m c (loose b) s h = refl
called_is m c (field t f i r) s h =
    on (cases_Bool (nests t)) (λ z. called_is m (within t) i s.1 z) (called_is m (left c t) r s.2 (rest_fine 4 c t f i r h))
  where
    Goal : Type 0
    Goal = occurrences m (pick (eqb t 0x90) (four f ∷ []) [] ++ (called_numbers i ++ called_numbers r)) ≡ bit (eqb t 0x90 && begins m f) 1 + (called_in m i + called_in m r)

    together : (eqb t 0x90 ≡ true → 4 ≤ length f) → occurrences m (called_numbers i) ≡ called_in m i → occurrences m (called_numbers r) ≡ called_in m r → Goal
    together l e g =
        omega (arith, occurrences_append m (pick (eqb t 0x90) (four f ∷ []) []) (called_numbers i ++ called_numbers r), occurrences_append m (called_numbers i) (called_numbers r), called_front m t f l)

    on : (nests t ≡ true) ⊎ (nests t ≡ false) → (good 4 (within t) i ≡ Fine → occurrences m (called_numbers i) ≡ called_in m i) → occurrences m (called_numbers r) ≡ called_in m r → Goal
    on (inl n) ih g =
        let p = nest_fine 4 c t f i r h n in
        together (λ e. omega (arith, eqb-true (length f) 4 (sym (ap (λ (b : Bool). pick b (eqb (length f) 4) true) e) ∙ p.0))) (ih p.1) g
    on (inr n) ih g =
        let e : i ≡ end = leaf_alone 4 t f i n s.0 in
        together (λ q. absurd (nests_call t n q)) (subst (λ (y : Row). occurrences m (called_numbers y) ≡ called_in m y) (sym e) (none m)) g

-- ---- kinds

agree_each : (x : Row) → all_agree x ≡ true → Each84 (λ f i. agrees f (strings_in i) ≡ true) x
unfolding all_agree Each84
agree_each end h = tt
agree_each (loose b) h = tt
agree_each (field t f i r) h = (λ q. and_left (agrees f (strings_in i)) (all_agree r) h, agree_each r (and_right (agrees f (strings_in i)) (all_agree r) h))

each_agree : (x : Row) → check_records New x ≡ Fine → Each84 (λ f i. agrees f (strings_in i) ≡ true) x → all_agree x ≡ true
unfolding all_agree Each84
each_agree end c h = refl
each_agree (loose b) c h = refl
each_agree (field t f i r) c h =
    let d = record_of New t f i r c in
    and_from (agrees f (strings_in i)) (all_agree r) (h.0 (T_from_true (eqb t 0x84) (eq-eqb t 0x84 d.tag_is))) (each_agree r d.rest_is h.1)

-- ---- the judge

fine_verdict : (v : Verdict) → v ≡ Fine → verdict_number v ≡ 0
unfolding verdict_number
fine_verdict v e = ap verdict_number e

both_first : (n : ℕ) (f : Unit {0} → ℕ) → first_of n f ≡ 0 → (n ≡ 0) × (f tt ≡ 0)
unfolding first_of choose
both_first n f h = on (cases_Bool (eqb n 0))
  where
    on : (eqb n 0 ≡ true) ⊎ (eqb n 0 ≡ false) → (n ≡ 0) × (f tt ≡ 0)
    on (inl t) = (eqb-true n 0 t, sym (ap (λ (b : Bool). choose b f (λ _. n)) t) ∙ h)
    on (inr t) = absurd (eqb-false n 0 t (sym (ap (λ (b : Bool). choose b f (λ _. n)) t) ∙ h))

first_both : (n : ℕ) (f : Unit {0} → ℕ) → n ≡ 0 → f tt ≡ 0 → first_of n f ≡ 0
unfolding first_of choose
first_both n f e h = ap (λ (b : Bool). choose b f (λ _. n)) (eq-eqb n 0 e) ∙ h

unless_none : (b : Bool) → number_unless b 17 ≡ 0 → b ≡ true
unless_none true e = refl
unless_none false e = absurd (omega arith)

module _ (x : Body) where
  last : ℕ
  last = number_unless (all_agree (read x.templates) && numbered x) 17

  once_of : (ks : List ℕ) (count : ℕ → ℕ) → ((m : ℕ) → occurrences m ks ≡ count m) → each_once (forms x) ks ≡ true → (m : ℕ) → count m ≡ up_to m (forms x)
  once_of ks count e o m = sym (e m) ∙ (each_once_means (forms x) ks).0 o m

  of_once : (ks : List ℕ) (count : ℕ → ℕ) → ((m : ℕ) → occurrences m ks ≡ count m) → ((m : ℕ) → count m ≡ up_to m (forms x)) → each_once (forms x) ks ≡ true
  of_once ks count e h = (each_once_means (forms x) ks).1 (λ m. e m ∙ h m)

  records_are : check_templates New x.templates ≡ Fine → (m : ℕ) → occurrences m (recorded_numbers (read x.templates)) ≡ recorded_in m (read x.templates)
  unfolding check_templates
  records_are h m = recorded_is m (read x.templates) h

  calls_are : check_page_out 4 x.page_out ≡ Fine → (m : ℕ) → occurrences m (called_numbers (read_out 4 x.page_out)) ≡ called_in m (read_out 4 x.page_out)
  unfolding check_page_out read_out
  calls_are h m = called_is m E.Whole (read_out 4 x.page_out) (shaped (held 4) x.page_out) h

  met : judge x ≡ 0 → Meets x
  unfolding judge last numbered
  met h =
      let a = both_first (verdict_number (check_templates New x.templates)) (λ _. first_of (verdict_number (check_page_out 4 x.page_out)) λ _. last) h in
      let b = both_first (verdict_number (check_page_out 4 x.page_out)) (λ _. last) a.1 in
      let t = verdict_fine (check_templates New x.templates) a.0 in
      let p = verdict_fine (check_page_out 4 x.page_out) b.0 in
      let rs : List ℕ = recorded_numbers (read x.templates) in
      let cs : List ℕ = called_numbers (read_out 4 x.page_out) in
      let k = unless_none (all_agree (read x.templates) && numbered x) b.1 in
      let n = and_right (all_agree (read x.templates)) (numbered x) k in
      record {
        templates_are = t;
        page_out_is = p;
        kinds_are = agree_each (read x.templates) (and_left (all_agree (read x.templates)) (numbered x) k);
        recorded_once = once_of rs (λ m. recorded_in m (read x.templates)) (records_are t) (and_left (each_once (forms x) rs) (each_once (forms x) cs) n);
        called_once = once_of cs (λ m. called_in m (read_out 4 x.page_out)) (calls_are p) (and_right (each_once (forms x) rs) (each_once (forms x) cs) n);
      }

  agree : Meets x → all_agree (read x.templates) ≡ true
  unfolding check_templates
  agree w = each_agree (read x.templates) w.templates_are w.kinds_are

  meets : Meets x → judge x ≡ 0
  unfolding judge last numbered
  meets w =
      let rs : List ℕ = recorded_numbers (read x.templates) in
      let cs : List ℕ = called_numbers (read_out 4 x.page_out) in
      let r = of_once rs (λ m. recorded_in m (read x.templates)) (records_are w.templates_are) w.recorded_once in
      let c = of_once cs (λ m. called_in m (read_out 4 x.page_out)) (calls_are w.page_out_is) w.called_once in
      let n = and_from (each_once (forms x) rs) (each_once (forms x) cs) r c in
      first_both (verdict_number (check_templates New x.templates)) (λ _. first_of (verdict_number (check_page_out 4 x.page_out)) λ _. last)
      (fine_verdict (check_templates New x.templates) w.templates_are)
      (first_both (verdict_number (check_page_out 4 x.page_out)) (λ _. last) (fine_verdict (check_page_out 4 x.page_out) w.page_out_is)
      (ap (λ (b : Bool). number_unless b 17) (and_from (all_agree (read x.templates)) (numbered x) (agree w) n)))

  -- the number 0 says exactly what demand 3's words say
  pub judge_exactly : (judge x ≡ 0) ↔ Meets x
  judge_exactly = (met, meets)

-- ---- a page has no more templates than bytes of them

templates_few : (x : Row) → templates_in x ≤ length (bytes x)
unfolding templates_in bytes
templates_few end = omega arith
templates_few (loose b) = omega arith
templates_few (field t f i r) = omega (arith, bit_low (eqb t 0x84), templates_few r, length_bytes t f i r)

pub forms_few : (x : Body) → forms x ≤ length x.templates
unfolding forms read
forms_few x = omega (arith, templates_few (read x.templates), length_read x.templates)
