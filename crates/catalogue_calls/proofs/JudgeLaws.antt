-- The judge of a page that stands behind others. No check but that of the numbers sees a number that is changed, and the numbers of the page as it
-- arrived are those that stand there, each lowered. Main statements: `templates_down`, `page_out_down`, `agree_down`, `forms_down`,
-- `recorded_down`, `called_down`, `judged_down`; `templates_refused`, `page_refused`, `taken`, `kinds_differ`, `numbers_differ` at the exits; and for
-- the loop over records `agreeing_on`, `agreeing_stops`, `agreeing_ends`. Assumes nothing.
use Prim.Native.Nat.{ℕ, zero, suc, ◌+◌, ◌-◌, ◌%◌}
use mathlib.Core.Path.{◌≡◌, refl, sym, ap, ap₂, ◌∙◌, subst}
use mathlib.Core.Bool.{Bool, true, false, ◌&&◌}
use mathlib.Core.List.{List, [], ◌∷◌, ◌++◌}
use native.Mathlib.Omega.{arith}
use lib.Dec.{leb, eqb}
use Rattle.std.specs.Prelude.{Result, Ok, Err, IsErr, IsErrAnd}
use lib.ListN.{length, take, drop}
use lib.Seq.{drop-drop}
use borrow.Author.Tests.{eq-eqb, eqb-true, ne_eqb, eqb-false}
use Rattle.field.specs.Bytes.{Bytes, AllBytes, pick}
use Rattle.field.specs.Number.{big_endian, number_of}
use Rattle.field.specs.Row.{Row, end, loose, field, bytes, counted_front, read, Ended}
use Rattle.field.specs.Front.{behind_of}
use Rattle.field.specs.Fields.{IsFront}
use Rattle.field.proofs.FrontLaws.{parts_at}
use Rattle.page.specs.Check.{check_text}
use Rattle.refusal.specs.Refusal.{Verdict, Fine, Refused, refusal_number, after, unless, verdict_number}
use Rattle.page.specs.Tree.{choose}
use Rattle.refusal.specs.declared.Refusal.{Refusal}
use Rattle.refusal.specs.declared.Refusal.TheVariants as R
use Rattle.refusal.proofs.Verdicts.{number_some}
use Rattle.outs.specs.Held.{nests, read_out}
use Rattle.outs.specs.PageOut.{allowed, left, within, check_leaf, good, check_page_out}
use Rattle.outs.specs.Templates.{front_of_record, all_kinds, check_strings, check_any_strings, check_strings_of, check_records, check_templates}
use Rattle.outs.specs.declared.Expect.{Expect}
use Rattle.outs.specs.declared.Expect.TheVariants as E
use Rattle.outs.specs.declared.Kind.TheVariants.{New}
use Rattle.spec.specs.Transform.{bit}
use Rattle.spec.specs.Demand.{templates_in, strings_in}
use Rattle.convert.specs.Convert.{agrees, number_unless}
use Rattle.convert.specs.Flat.{kind_marks, same_kinds, fields_in, strings_at, kinds_at, body_agrees, BodyFits}
use Rattle.convert.specs.declared.kinds.Markup.TheVariants as M
use Rattle.convert.proofs.RecordLaws.{Sound, any_of, record_of, new_front, fits, by_marks, agrees_is, rest_sound, new_agrees, new_counts}
use Rattle.convert.proofs.TemplateLaws.{InFront, in_front, sound_read, part_rest}
use Rattle.catalogue.specs.Page.{Body, IsBytes}
use Rattle.catalogue.specs.Catalogue.{four}
use Rattle.catalogue.specs.Numbers.{full_turn, changed, raised, opposite, down}
use Rattle.catalogue.specs.Judged.{all_agree, recorded_numbers, called_numbers, each_once, forms, numbered, first_of, judge, project}
use Rattle.catalogue.proofs.Parts.{drop_four}
use Rattle.catalogue.proofs.Rows.{length_raised, read_up}
use Rattle.catalogue.proofs.Numbered.{nests_call}
use Rattle.catalogue.proofs.Raised.{recorded_checked, called_checked}
use Rattle.catalogue_calls.specs.Flat.{calls_in}
use Rattle.catalogue_calls.specs.Once.{lowered_by}
use Rattle.catalogue_calls.specs.Judges.{Judges}
use Rattle.catalogue_calls.specs.declared.answer.Unkept.{Unkept}
use Rattle.catalogue_calls.specs.declared.answer.Unkept.TheVariants as U
use Rattle.catalogue_calls.proofs.FlatLaws.{calls_are}

-- ---- a number that is raised, to what does not read it

-- where a test fails, what would come behind it is not looked at
if_passed : (b : Bool) (n : Refusal) (v w : Verdict) → (b ≡ true → v ≡ w) → after (unless b n) (λ _. v) ≡ after (unless b n) (λ _. w)
unfolding after
if_passed true n v w h = h refl
if_passed false n v w h = refl

choose_same : (b : Bool) (v v' w w' : Verdict) → v ≡ v' → (b ≡ false → w ≡ w') → choose b (λ _. v) (λ _. w) ≡ choose b (λ _. v') (λ _. w')
unfolding choose
choose_same true v v' w w' e h = e
choose_same false v v' w w' e h = h refl

module _ (n : ℕ) where
  raised_other : (tag t : ℕ) (f : Bytes) → eqb t tag ≡ false → raised tag n t f ≡ f
  unfolding raised
  raised_other tag t f e = ap (λ (b : Bool). pick (b && leb 4 (length f)) (big_endian 4 ((four f + n) % full_turn) [] ++ drop 4 f) f) e

  behind_raised : (tag t : ℕ) (f : Bytes) → drop 4 (raised tag n t f) ≡ drop 4 f
  unfolding raised
  behind_raised tag t f = on (eqb t tag && leb 4 (length f))
    where
      on : (b : Bool) → drop 4 (pick b (big_endian 4 ((four f + n) % full_turn) [] ++ drop 4 f) f) ≡ drop 4 f
      on true = drop_four ((four f + n) % full_turn) (drop 4 f)
      on false = refl

  kinds_raised : (tag t : ℕ) (f : Bytes) → drop 6 (raised tag n t f) ≡ drop 6 f
  kinds_raised tag t f = sym (drop-drop 2 4 (raised tag n t f)) ∙ ap (drop 2) (behind_raised tag t f) ∙ drop-drop 2 4 f

  -- ---- records

  front_raised : (t : ℕ) (f : Bytes) → front_of_record New (raised 0x84 n t f) ≡ front_of_record New f
  unfolding front_of_record
  front_raised t f =
      let of : ℕ → Bytes → Bytes → Bool = λ l b ks. leb 6 l && (eqb l (6 + number_of (take 2 b)) && all_kinds ks) in
      ap (λ (l : ℕ). of l (drop 4 (raised 0x84 n t f)) (drop 6 (raised 0x84 n t f))) (length_raised 0x84 n t f)
      ∙ ap₂ (of (length f)) (behind_raised 0x84 t f) (kinds_raised 0x84 t f)

  text_raised : (t : ℕ) (f : Bytes) → t ≡ 0x81 → raised 0x84 n t f ≡ f
  text_raised t f e = raised_other 0x84 t f (ap (λ (u : ℕ). eqb u 0x84) e)

  strings_raised : (k : ℕ) (x : Row) → check_strings k (changed (raised 0x84 n) x) ≡ check_strings k x
  unfolding check_strings changed
  strings_raised zero end = refl
  strings_raised zero (loose b) = refl
  strings_raised zero (field t f i r) = refl
  strings_raised (suc k) end = refl
  strings_raised (suc k) (loose b) = refl
  strings_raised (suc k) (field t f i r) =
      if_passed (eqb t 0x81) R.Misplaced (after (check_text (raised 0x84 n t f)) λ _. check_strings k (changed (raised 0x84 n) r)) (after (check_text f) λ _. check_strings k r)
      (λ e. ap₂ (λ (g : Bytes) (v : Verdict). after (check_text g) λ _. v) (text_raised t f (eqb-true t 0x81 e)) (strings_raised k r))

  records_raised : (x : Row) → check_records New (changed (raised 0x84 n) x) ≡ check_records New x
  unfolding check_records check_strings_of changed
  records_raised end = refl
  records_raised (loose b) = refl
  records_raised (field t f i r) =
      let of : Bool → Verdict → Verdict → Verdict = λ b s v. after (unless (eqb t 0x84) R.Misplaced) λ _. after (unless b R.Misplaced) λ _. after s λ _. v in
      let g : Bytes = raised 0x84 n t f in
      let s = strings_raised (suc (number_of (take 2 (drop 4 g)))) i ∙ ap (λ (b : Bytes). check_strings (suc (number_of (take 2 b))) i) (behind_raised 0x84 t f) in
      ap (λ (b : Bool). of b (check_strings (suc (number_of (take 2 (drop 4 g)))) (changed (raised 0x84 n) i)) (check_records New (changed (raised 0x84 n) r))) (front_raised t f)
      ∙ ap₂ (of (front_of_record New f)) s (records_raised r)

  texts_raised : (x : Row) → check_any_strings x ≡ Fine → strings_in (changed (raised 0x84 n) x) ≡ strings_in x
  unfolding strings_in changed
  texts_raised end h = refl
  texts_raised (loose b) h = refl
  texts_raised (field t f i r) h =
      let a = any_of t f i r h in
      ap₂ (λ (g : Bytes) (ss : List Bytes). g ∷ ss) (text_raised t f a.0) (texts_raised r a.1)

  agree_raised : (x : Row) → check_records New x ≡ Fine → all_agree (changed (raised 0x84 n) x) ≡ all_agree x
  unfolding all_agree changed
  agree_raised end h = refl
  agree_raised (loose b) h = refl
  agree_raised (field t f i r) h =
      let d = record_of New t f i r h in
      let ks : Bytes = by_marks M.Outside (strings_in i) in
      let e = ap (agrees (raised 0x84 n t f)) (texts_raised i d.strings_are) ∙ agrees_is (raised 0x84 n t f) (strings_in i)
      ∙ ap (λ (b : Bytes). same_kinds b ks) (kinds_raised 0x84 t f) ∙ sym (agrees_is f (strings_in i)) in
      ap₂ (λ (a b : Bool). a && b) e (agree_raised r d.rest_is)

  forms_raised : (x : Row) → templates_in (changed (raised 0x84 n) x) ≡ templates_in x
  unfolding templates_in changed
  forms_raised end = refl
  forms_raised (loose b) = refl
  forms_raised (field t f i r) = ap (λ (k : ℕ). bit (eqb t 0x84) 1 + k) (forms_raised r)

  -- ---- a page out

  page_raised : (c : Expect) (x : Row) → good 4 c (changed (raised 0x90 n) x) ≡ good 4 c x
  unfolding good changed
  page_raised c end = refl
  page_raised c (loose b) = refl
  page_raised c (field t f i r) =
      let g : Bytes = raised 0x90 n t f in
      let nest : ℕ → Verdict → Verdict = λ l v. after (unless (pick (eqb t 0x90) (eqb l 4) true) R.Misplaced) λ _. v in
      let e = choose_same (nests t) (nest (length g) (good 4 (within t) (changed (raised 0x90 n) i))) (nest (length f) (good 4 (within t) i)) (check_leaf t g) (check_leaf t f)
      (ap₂ nest (length_raised 0x90 n t f) (page_raised (within t) i))
      (λ q. ap (check_leaf t) (raised_other 0x90 t f (ne_eqb t 0x90 (λ z. nests_call t q (eq-eqb t 0x90 z))))) in
      ap₂ (λ (v w : Verdict). after (unless (allowed c t) R.Misplaced) λ _. after v λ _. w) e (page_raised (left c t) r)

-- ---- a page as it arrived, by what stands there

module _ (m : ℕ) (x : Body) (a : IsBytes x) where
  pub templates_down : check_templates New (down m x).templates ≡ check_templates New x.templates
  unfolding down check_templates
  templates_down = ap (check_records New) (read_up (opposite m) x a).0 ∙ records_raised (opposite m) (read x.templates)

  pub page_out_down : check_page_out 4 (down m x).page_out ≡ check_page_out 4 x.page_out
  unfolding down check_page_out
  page_out_down = ap (good 4 E.Whole) (read_up (opposite m) x a).1 ∙ page_raised (opposite m) E.Whole (read_out 4 x.page_out)

  pub forms_down : forms (down m x) ≡ forms x
  unfolding down forms
  forms_down = ap templates_in (read_up (opposite m) x a).0 ∙ forms_raised (opposite m) (read x.templates)

  module _ (h : check_templates New x.templates ≡ Fine) where
    pub agree_down : all_agree (read (down m x).templates) ≡ all_agree (read x.templates)
    unfolding down check_templates
    agree_down = ap all_agree (read_up (opposite m) x a).0 ∙ agree_raised (opposite m) (read x.templates) h

    pub recorded_down : recorded_numbers (read (down m x).templates) ≡ lowered_by m (recorded_numbers (read x.templates))
    unfolding down lowered_by
    recorded_down = recorded_checked (opposite m) x a h

  pub called_down : check_page_out 4 x.page_out ≡ Fine → called_numbers (read_out 4 (down m x).page_out) ≡ lowered_by m (called_numbers (read_out 4 x.page_out))
  unfolding down lowered_by
  called_down h = called_checked (opposite m) x a h

-- ---- the judge, at each exit

refused_first : (v : Verdict) (r : Refusal) (f : Unit {0} → ℕ) → v ≡ Refused r → first_of (verdict_number v) f ≡ refusal_number r
unfolding first_of choose verdict_number
refused_first v r f e = ap (λ (u : Verdict). first_of (verdict_number u) f) e ∙ ap (λ (b : Bool). choose b f (λ _. refusal_number r)) (number_some r)

fine_first : (v : Verdict) (f : Unit {0} → ℕ) → v ≡ Fine → first_of (verdict_number v) f ≡ f tt
unfolding first_of choose verdict_number
fine_first v f e = ap (λ (u : Verdict). first_of (verdict_number u) f) e

module _ (m : ℕ) (x : Body) (a : IsBytes x) where
  y : Body
  y = down m x

  last : Unit {0} → ℕ
  last _ = number_unless (all_agree (read y.templates) && numbered y) 17

  page_then : Unit {0} → ℕ
  page_then _ = first_of (verdict_number (check_page_out 4 y.page_out)) last

  pub templates_refused : {r : Refusal} → check_templates New x.templates ≡ Refused r → Judges x m (Err (U.Refused r))
  unfolding project judge y last page_then
  templates_refused {r} e = (refused_first (check_templates New y.templates) r page_then (templates_down m x a ∙ e), eqb-false (refusal_number r) 0 (number_some r))

  module _ (h : check_templates New x.templates ≡ Fine) where
    pub page_refused : {r : Refusal} → check_page_out 4 x.page_out ≡ Refused r → Judges x m (Err (U.Refused r))
    unfolding project judge y last page_then
    page_refused {r} e = (
      fine_first (check_templates New y.templates) page_then (templates_down m x a ∙ h) ∙ refused_first (check_page_out 4 y.page_out) r last (page_out_down m x a ∙ e),
      eqb-false (refusal_number r) 0 (number_some r),
    )

    module _ (p : check_page_out 4 x.page_out ≡ Fine) where
      -- the numbers of both parts, if there are n templates
      abbrev pub numbers_right : ℕ → Bool
      numbers_right n = each_once n (lowered_by m (recorded_numbers (read x.templates))) && each_once n (lowered_by m (calls_in x.page_out))

      pub judged_down : judge (down m x) ≡ number_unless (all_agree (read x.templates) && numbers_right (forms x)) 17
      unfolding judge numbered y last page_then
      judged_down =
          fine_first (check_templates New y.templates) page_then (templates_down m x a ∙ h) ∙ fine_first (check_page_out 4 y.page_out) last (page_out_down m x a ∙ p)
          ∙ ap₂ (λ (b c : Bool). number_unless (b && c) 17) (agree_down m x a h)
          (ap₂ (λ (b c : Bool). b && c) (ap₂ each_once (forms_down m x a) (recorded_down m x a h))
          (ap₂ each_once (forms_down m x a) (called_down m x a p ∙ ap (lowered_by m) (calls_are x.page_out p))))

      module _ {n : ℕ} (e : n ≡ forms x) where
        pub taken : all_agree (read x.templates) ≡ true → numbers_right n ≡ true → Judges x m (Ok n)
        unfolding project
        taken k r = (judged_down ∙ ap₂ (λ (b c : Bool). number_unless (b && c) 17) k (ap numbers_right (sym e) ∙ r), e)

        pub kinds_differ : all_agree (read x.templates) ≡ false → Judges x m (Err U.Disagreeing)
        unfolding project
        kinds_differ k = (judged_down ∙ ap (λ (b : Bool). number_unless (b && numbers_right (forms x)) 17) k, λ z. omega arith)

        pub numbers_differ : all_agree (read x.templates) ≡ true → numbers_right n ≡ false → Judges x m (Err U.Disagreeing)
        unfolding project
        numbers_differ k r = (judged_down ∙ ap₂ (λ (b c : Bool). number_unless (b && c) 17) k (ap numbers_right (sym e) ∙ r), λ z. omega arith)

-- a reason that is passed on
pub passed_on : (m : ℕ) (x : Body) (r : Result ℕ Unkept) (e : Unkept) → IsErr r × IsErrAnd r (λ u. u ≡ e) → Judges x m (Err e) → Judges x m r
passed_on m x (Ok n) e h j = absurd h.1
passed_on m x (Err u) e h j = subst (λ (v : Unkept). Judges x m (Err v)) (sym h.1) j

-- ---- the loop over records

-- the parts of a body by their places
pub parts_agree : (w : Bytes) (f : ℕ) → f ≡ counted_front 4 w → {b : Bool}
    → b ≡ same_kinds (take (f - 6) (drop 6 w)) (kind_marks (length (take (f - 6) (drop 6 w))) M.Outside (take (length w - f) (drop f w))) → b ≡ body_agrees w
parts_agree w f q e =
    let kk : take (f - 6) (drop 6 w) ≡ kinds_at w = ap (λ (k : ℕ). take (k - 6) (drop 6 w)) q in
    let ss : take (length w - f) (drop f w) ≡ strings_at w = part_rest f w ∙ ap (λ (k : ℕ). drop k w) q in
    e ∙ ap₂ (λ (k v : Bytes). same_kinds k (kind_marks (length k) M.Outside v)) kk ss

-- the kinds of those before t agree
pub record Agreeing (s t : Bytes) : Type 0 where
  pub all : AllBytes t
  pub fine : check_templates New t ≡ Fine
  pub left_is : all_agree (read t) ≡ all_agree (read s)

pub agreeing_begins : (s : Bytes) → AllBytes s → check_templates New s ≡ Fine → Agreeing s s
agreeing_begins s a h = record { all = a; fine = h; left_is = refl }

module _ {s t : Bytes} (g : Agreeing s t) where
  module _ {u : ℕ} {w r : Bytes} (f : IsFront t u w r) where
    has_tag : u ≡ 256 → ⊥
    has_tag z = omega (arith, f.tag_below, z)

    p : InFront t u
    p = in_front t u f.tag_is has_tag g.all

    sound : Sound New (field u p.front p.inner (read (behind_of t)))
    sound = subst (Sound New) p.read_is (sound_read New t g.all g.fine)

    body_is : p.front ++ bytes p.inner ≡ w
    body_is = p.body_is ∙ sym f.body_is

    pub body_fits : BodyFits New w
    body_fits = subst (BodyFits New) body_is (fits New u p.front p.inner (read (behind_of t)) sound.fine)

    agrees_here : body_agrees w ≡ agrees p.front (strings_in p.inner)
    agrees_here =
        ap body_agrees (sym body_is)
        ∙ new_agrees p.inner (rest_sound New u p.front p.inner (read (behind_of t)) sound).1 p.front (new_front p.front (record_of New u p.front p.inner (read (behind_of t)) sound.fine).front_is)
        (new_counts u p.front p.inner (read (behind_of t)) sound)

    next_is : all_agree (read t) ≡ (body_agrees w && all_agree (read (behind_of t)))
    unfolding all_agree
    next_is = ap all_agree p.read_is ∙ ap (λ (b : Bool). b && all_agree (read (behind_of t))) (sym agrees_here)

    rest_fine : check_templates New (behind_of t) ≡ Fine
    unfolding check_templates
    rest_fine = (record_of New u p.front p.inner (read (behind_of t)) sound.fine).rest_is

    pub agreeing_on : body_agrees w ≡ true → Agreeing s r
    agreeing_on k =
        subst (Agreeing s) (sym f.behind_is)
        (record { all = (parts_at t u f.tag_is has_tag g.all).behind_all; fine = rest_fine; left_is = ap (λ (b : Bool). b && all_agree (read (behind_of t))) (sym k) ∙ sym next_is ∙ g.left_is })

    pub agreeing_stops : body_agrees w ≡ false → all_agree (read s) ≡ false
    agreeing_stops k = sym g.left_is ∙ next_is ∙ ap (λ (b : Bool). b && all_agree (read (behind_of t))) k

  pub agreeing_ends : Ended (read t) → all_agree (read s) ≡ true
  agreeing_ends i = sym g.left_is ∙ on (read t) i
    where
      on : (z : Row) → Ended z → all_agree z ≡ true
      on end j = unfold all_agree in refl
      on (loose b) j = unfold all_agree in refl
      on (field t f k q) j = absurd j

-- every field is a record
all_records : (z : Row) → check_records New z ≡ Fine → templates_in z ≡ fields_in z
unfolding templates_in fields_in
all_records end h = refl
all_records (loose b) h = refl
all_records (field t f i r) h =
    let d = record_of New t f i r h in
    ap₂ (λ (b : Bool) (k : ℕ). bit b 1 + k) (eq-eqb t 0x84 d.tag_is) (all_records r d.rest_is) ∙ omega arith

pub forms_counted : (x : Body) → check_templates New x.templates ≡ Fine → fields_in (read x.templates) ≡ forms x
unfolding check_templates forms
forms_counted x h = sym (all_records (read x.templates) h)
