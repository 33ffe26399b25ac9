-- From one form into the other, whichever: the outcome at each exit of the code. Main statements: `templates_refused`, `page_refused`, `unclear`,
-- `too_wide`, `too_long`, `templates_full`, `page_full`, `both_written`, `passed_on`, `refusal_answered`. Assumes nothing.
use mathlib.Core.Path.{◌≡◌, refl, sym, ap, ap₂, ◌∙◌, subst}
use mathlib.Core.Logic.{◌⊎◌, inl, inr}
use mathlib.Core.Bool.{Bool, true, false, ◌||◌, not}
use mathlib.Core.Option.{Option, none, some}
use Prim.Native.Nat.{ℕ, ◌≤◌, ◌<◌, ◌^◌}
use native.Mathlib.Omega.{arith}
use lib.Dec.{eqb, leb}
use lib.ListN.{length, replicate}
use borrow.Author.Tests.{le-leb, lt-leb}
use Rattle.field.specs.Bytes.{Bytes, AllBytes, pick}
use Rattle.field.specs.Row.{Row, bytes, long_body, read}
use Rattle.field.specs.Put.{put}
use Rattle.field.proofs.PutLaws.{length_put}
use Rattle.field.proofs.Reading.{sane}
use Rattle.refusal.specs.Refusal.{Verdict, Fine, Refused, refusal_number, verdict_number}
use Rattle.refusal.specs.declared.Refusal.{Refusal}
use Rattle.refusal.proofs.Verdicts.{number_some}
use Rattle.outs.specs.Held.{held, read_out}
use Rattle.outs.specs.PageOut.{check_page_out}
use Rattle.outs.specs.Templates.{check_templates}
use Rattle.outs.specs.Renumber.{renumbered, has_wide, Renumbers}
use Rattle.outs.specs.declared.Kind.{Kind}
use Rattle.outs.specs.declared.Kind.TheVariants.{Old, New}
use Rattle.outs.specs.declared.Expect.TheVariants as E
use Rattle.convert.specs.Convert.{Outcome, refused, converted, past, number_unless, raised, lowered, written, upgraded, downgraded, number, bytes_of_templates, bytes_of_page, templates_left, page_left}
use Rattle.std.specs.Prelude.{Result, Ok, Err, IsErr, IsErrAnd}
use Rattle.convert.specs.Flat.{other, width, turned, unconverted_number, all_bodies_clear, WroteAll, Converts, Fails, Attempts}
use Rattle.convert.specs.declared.Unconverted.{Unconverted}
use Rattle.convert.specs.declared.Unconverted.TheVariants as U
use Rattle.convert.specs.declared.Converted.{Converted}
use Rattle.convert.specs.declared.templates.Rewritten.{Rewritten}
use Rattle.convert.proofs.RecordLaws.{Sound, rewritten, raised_is, lowered_is, bytes_are, long_is}
use Rattle.convert.proofs.TemplateLaws.{sound_read}
use Rattle.convert.proofs.PageLaws.{page_room}
use Rattle.convert.proofs.Return.{narrow}

-- ---- the checks come first

past_some : (n : ℕ) (f : Unit {0} → Outcome) → eqb n 0 ≡ false → past n f ≡ refused n
unfolding past
past_some n f h = rw (h, past)

refused_first : {v : Verdict} {r : Refusal} → v ≡ Refused r → (f : Unit {0} → Outcome) → past (verdict_number v) f ≡ refused (refusal_number r)
unfolding verdict_number
refused_first {v} {r} e f = ap (λ (x : Verdict). past (verdict_number x) f) e ∙ past_some (refusal_number r) f (number_some r)

fine_first : {v : Verdict} → v ≡ Fine → (f : Unit {0} → Outcome) → past (verdict_number v) f ≡ f tt
unfolding past verdict_number
fine_first {v} e f = ap (λ (x : Verdict). past (verdict_number x) f) e

-- ---- from one form into the other, whichever

abbrev pub made : Kind → Row → Option Row
made Old x = raised x
made New x = lowered x

made_is : (k : Kind) (x : Row) → Sound k x → made k x ≡ pick (all_bodies_clear k x) (some (rewritten k x)) none
made_is Old x s = raised_is x s
made_is New x s = lowered_is x s

-- two bytes say no number that is too wide for two bytes
abbrev pub fits_two : Kind → Row → Bool
fits_two Old y = true
fits_two New y = not (has_wide y)

abbrev decided : (narrow long t p : Bool) → Bytes → Bytes → Outcome
decided narrow long t p x y =
    past (number_unless narrow 17) λ _.
    past (number_unless (not long) 11) λ _.
    past (number_unless t 12) λ _.
    past (number_unless p 13) λ _.
    converted (record { templates_out = x; page_out = y })

decided_wide : (l t p : Bool) (x y : Bytes) → decided false l t p x y ≡ refused 17
unfolding past
decided_wide l t p x y = refl

decided_long : (t p : Bool) (x y : Bytes) → decided true true t p x y ≡ refused 11
unfolding past
decided_long t p x y = refl

decided_templates : (p : Bool) (x y : Bytes) → decided true false false p x y ≡ refused 12
unfolding past
decided_templates p x y = refl

decided_page : (x y : Bytes) → decided true false true false x y ≡ refused 13
unfolding past
decided_page x y = refl

decided_both : (x y : Bytes) → decided true false true true x y ≡ converted (record { templates_out = x; page_out = y })
unfolding past
decided_both x y = refl

-- numbers of two bytes are never too wide
in_two : (k : Kind) (y : Row) → has_wide y ≡ false → fits_two k y ≡ true
in_two Old y h = refl
in_two New y h = ap not h

not_two : (k : Kind) (p : Bytes) → has_wide (read_out (width k) p) ≡ true → check_page_out (width k) p ≡ Fine → AllBytes p → fits_two k (read_out (width k) p) ≡ false
unfolding read_out check_page_out
not_two Old p h g b = absurd (let z : false ≡ true = sym (narrow E.Whole (read_out 2 p) (sane (held 2) p b) g) ∙ h in let j : ◌≡◌ {A = ℕ} 0 1 = cc in omega arith)
not_two New p h g b = ap not h

module _ (k : Kind) (t p : Bytes) (tr pr : ℕ) where
  abbrev pub y : Row
  y = read_out (width k) p

  abbrev pub last : Unit {0} → Outcome
  last z = written tr pr (made k (read t)) (fits_two k y) (renumbered (width (other k)) y)

  turned_is : turned k t p tr pr ≡ past (verdict_number (check_templates k t)) (λ _. past (verdict_number (check_page_out (width k) p)) last)
  turned_is = on k
    where
      on : (k : Kind) → turned k t p tr pr ≡ past (verdict_number (check_templates k t)) (λ _. past (verdict_number (check_page_out (width k) p)) (λ _. written tr pr (made k (read t)) (fits_two k (read_out (width k) p)) (renumbered (width (other k)) (read_out (width k) p))))
      on Old = unfold upgraded in refl
      on New = unfold downgraded in refl

  pub templates_refused : {r : Refusal} → check_templates k t ≡ Refused r → turned k t p tr pr ≡ refused (refusal_number r)
  templates_refused e = turned_is ∙ refused_first e _

  module _ (fine : check_templates k t ≡ Fine) where
    pub page_refused : {r : Refusal} → check_page_out (width k) p ≡ Refused r → turned k t p tr pr ≡ refused (refusal_number r)
    page_refused e = turned_is ∙ fine_first fine _ ∙ refused_first e _

    module _ (page_fine : check_page_out (width k) p ≡ Fine) (a : AllBytes t) (b : AllBytes p) where
      abbrev pub x : Row
      x = read t

      both_fine : turned k t p tr pr ≡ written tr pr (pick (all_bodies_clear k x) (some (rewritten k x)) none) (fits_two k y) (renumbered (width (other k)) y)
      both_fine =
          turned_is
          ∙ fine_first fine _
          ∙ fine_first page_fine _
          ∙ ap (λ (o : Option Row). written tr pr o (fits_two k y) (renumbered (width (other k)) y)) (made_is k x (sound_read k t a fine))

      pub unclear : all_bodies_clear k x ≡ false → turned k t p tr pr ≡ refused 17
      unfolding written
      unclear h = both_fine ∙ ap (λ (c : Bool). written tr pr (pick c (some (rewritten k x)) none) (fits_two k y) (renumbered (width (other k)) y)) h

      -- both written
      module _ (clear : all_bodies_clear k x ≡ true) {o₁ o₂ out₁ out₂ : Bytes} {w : Rewritten} {pn : ℕ} {long wide : Bool} (r : WroteAll k x o₁ out₁ w) (q : Renumbers (width (other k)) y o₂ out₂ pn long wide) (er : tr ≡ length o₁) (ep : pr ≡ length o₂) where
        abbrev pub z : Row
        z = rewritten k x

        abbrev pub u : Row
        u = renumbered (width (other k)) y

        bytes_is : w.place ≡ length (bytes z)
        bytes_is = r.bytes_is ∙ ap length (sym (bytes_are k x (sound_read k t a fine)))

        templates_is : out₁ ≡ put o₁ 0 (bytes z)
        templates_is = r.out_is ∙ ap (put o₁ 0) (sym (bytes_are k x (sound_read k t a fine)))

        long_both : (w.long || long) ≡ (long_body z || long_body u)
        long_both = ap₂ (λ (c d : Bool). c || d) (r.long_is ∙ sym (long_is k x (sound_read k t a fine))) q.long_is

        decided_is : turned k t p tr pr ≡ decided (fits_two k y) (w.long || long) (leb w.place tr) (leb pn pr) (bytes z) (bytes u)
        unfolding written
        decided_is =
            both_fine
            ∙ ap (λ (c : Bool). written tr pr (pick c (some z) none) (fits_two k y) u) clear
            ∙ sym (ap₂ (λ (c : Bool) (n : ℕ). decided (fits_two k y) c (leb n tr) (leb pn pr) (bytes z) (bytes u)) long_both bytes_is
            ∙ ap (λ (n : ℕ). decided (fits_two k y) (long_body z || long_body u) (leb (length (bytes z)) tr) (leb n pr) (bytes z) (bytes u)) q.bytes_is)

        pub too_wide : wide ≡ true → turned k t p tr pr ≡ refused 17
        too_wide h = decided_is ∙ ap (λ (c : Bool). decided c (w.long || long) (leb w.place tr) (leb pn pr) (bytes z) (bytes u)) (not_two k p (sym q.wide_is ∙ h) page_fine b) ∙ decided_wide _ _ _ _ _

        module _ (h : wide ≡ false) where
          narrow_is : turned k t p tr pr ≡ decided true (w.long || long) (leb w.place tr) (leb pn pr) (bytes z) (bytes u)
          narrow_is = decided_is ∙ ap (λ (c : Bool). decided c (w.long || long) (leb w.place tr) (leb pn pr) (bytes z) (bytes u)) (in_two k y (sym q.wide_is ∙ h))

          pub too_long : (w.long || long) ≡ true → turned k t p tr pr ≡ refused 11
          too_long l = narrow_is ∙ ap (λ (c : Bool). decided true c (leb w.place tr) (leb pn pr) (bytes z) (bytes u)) l ∙ decided_long _ _ _ _

          module _ (l : (w.long || long) ≡ false) where
            short_is : turned k t p tr pr ≡ decided true false (leb w.place tr) (leb pn pr) (bytes z) (bytes u)
            short_is = narrow_is ∙ ap (λ (c : Bool). decided true c (leb w.place tr) (leb pn pr) (bytes z) (bytes u)) l

            pub templates_size : length out₁ ≡ length o₁
            templates_size = ap length templates_is ∙ length_put o₁ 0 (bytes z)

            pub page_size : length out₂ ≡ length o₂
            page_size = ap length q.out_is ∙ length_put o₂ 0 (bytes u)

            pub templates_full : length out₁ < w.place → turned k t p tr pr ≡ refused 12
            templates_full m = short_is ∙ ap (λ (c : Bool). decided true false c (leb pn pr) (bytes z) (bytes u)) (lt-leb w.place tr (omega (arith, templates_size, er))) ∙ decided_templates _ _ _

            module _ (m : w.place ≤ length out₁) where
              room_is : turned k t p tr pr ≡ decided true false true (leb pn pr) (bytes z) (bytes u)
              room_is = short_is ∙ ap (λ (c : Bool). decided true false c (leb pn pr) (bytes z) (bytes u)) (le-leb w.place tr (omega (arith, templates_size, er)))

              pub page_full : length out₂ < pn → turned k t p tr pr ≡ refused 13
              page_full n = room_is ∙ ap (λ (c : Bool). decided true false true c (bytes z) (bytes u)) (lt-leb pn pr (omega (arith, page_size, ep))) ∙ decided_page _ _

              pub both_written : pn ≤ length out₂ → Converts (turned k t p tr pr) o₁ o₂ (record { number = 0; templates_bytes = w.place; page_bytes = pn }) out₁ out₂
              unfolding number bytes_of_templates bytes_of_page templates_left page_left
              both_written n =
                  let e = room_is ∙ ap (λ (c : Bool). decided true false true c (bytes z) (bytes u)) (le-leb pn pr (omega (arith, page_size, ep))) ∙ decided_both _ _ in
                  record {
                    number_is = rw e;
                    templates_bytes_is = bytes_is ∙ rw e;
                    page_bytes_is = q.bytes_is ∙ rw e;
                    templates_is = templates_is ∙ rw e;
                    page_is = q.out_is ∙ rw e;
                  }

-- ---- what the code has at hand

pub renumbers_by : {m m' n n' : ℕ} (p : Bytes) {o o' : Bytes} {pn : ℕ} {long wide : Bool} → m ≡ m' → n ≡ n' → Renumbers m (read_out n p) o o' pn long wide → Renumbers m' (read_out n' p) o o' pn long wide
renumbers_by {m} {m'} {n} {n'} p {o} {o'} {pn} {long} {wide} em en q = subst (λ (x : ℕ). Renumbers x (read_out n' p) o o' pn long wide) em (subst (λ (x : ℕ). Renumbers m (read_out x p) o o' pn long wide) en q)

pub room_by : {m n : ℕ} (k : Kind) (p : Bytes) → m ≡ width (other k) → n ≡ width k → AllBytes p → check_page_out (width k) p ≡ Fine → length p < 2 ^ 63 → (n ≤ 4) × ((m ≡ 2) ⊎ (m ≡ 4)) × (length (bytes (renumbered m (read_out n p))) < 2 ^ 64)
room_by {m} {n} Old p em en b f l = (omega (arith, en), inr em, subst (λ (x : ℕ). length (bytes (renumbered m (read_out x p))) < 2 ^ 64) (sym en) (subst (λ (x : ℕ). length (bytes (renumbered x (read_out 2 p))) < 2 ^ 64) (sym em) (page_room 2 4 (omega arith) (omega arith) p b f l)))
room_by {m} {n} New p em en b f l = (omega (arith, en), inl em, subst (λ (x : ℕ). length (bytes (renumbered m (read_out x p))) < 2 ^ 64) (sym en) (subst (λ (x : ℕ). length (bytes (renumbered x (read_out 4 p))) < 2 ^ 64) (sym em) (page_room 4 2 (omega arith) (omega arith) p b f l)))

-- a reason that is passed on
pub passed_on : (o : Outcome) (t p t' p' : Bytes) (r : Result Converted Unconverted) (e : Unconverted) → IsErr r × IsErrAnd r (λ v. v ≡ e) → o ≡ refused (unconverted_number e) → length t' ≡ length t → length p' ≡ length p → Attempts o t p r t' p'
passed_on o t p t' p' (Ok a) e h q l m = absurd h.1
passed_on o t p t' p' (Err v) e h q l m = record { reason_is = q ∙ ap (λ (u : Unconverted). refused (unconverted_number u)) (sym h.1); templates_size = l; page_size = m }

-- what a test refuses
pub refused_on : (n m : Refusal) {o : Outcome} → n ≡ m → o ≡ refused (refusal_number n) → o ≡ refused (unconverted_number (U.Refused m))
refused_on n m e q = q ∙ ap (λ (x : Refusal). refused (refusal_number x)) e

-- a refusal as it is answered
pub refusal_answered : {o : Outcome} {t p t' p' t₂ p₂ : Bytes} {e : Unconverted} {n : ℕ} → Fails o t p e t' p' → n ≡ unconverted_number e → t₂ ≡ replicate (length t') 0 → p₂ ≡ replicate (length p') 0 → Converts o t p (record { number = n; templates_bytes = 0; page_bytes = 0 }) t₂ p₂
unfolding number bytes_of_templates bytes_of_page templates_left page_left
refusal_answered {o} {t} {p} {t'} {p'} {t₂} {p₂} {e} {n} f en et ep =
    let z = f.reason_is in
    record {
      number_is = en ∙ rw z;
      templates_bytes_is = rw z;
      page_bytes_is = rw z;
      templates_is = et ∙ ap (λ (m : ℕ). replicate m 0) f.templates_size ∙ rw z;
      page_is = ep ∙ ap (λ (m : ℕ). replicate m 0) f.page_size ∙ rw z;
    }
