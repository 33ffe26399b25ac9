-- The places of the records that are asked for, record by record. Main statements: `locating_begins`, `locating_found`, `locating_passed`,
-- `locating_ends`, `twice_none`. Assumes nothing.
use mathlib.Core.Path.{◌≡◌, refl, sym, ap, ap₂, ◌∙◌, subst}
use mathlib.Core.Logic.{◌⊎◌, inl, inr}
use mathlib.Core.Bool.{Bool, true, false}
use Prim.Native.Nat.{ℕ, suc, ◌+◌, ◌-◌, ◌^◌, ◌≤◌, ◌<◌}
use native.Mathlib.Omega.{arith}
use native.Mathlib.Decide.{dec_le}
use mathlib.Core.List.{List}
use lib.Dec.{eqb}
use lib.ListN.{length, take, drop, get_or, set, replicate, length-set, length-replicate, get_or-replicate}
use lib.Seq.{drop-append_seam, take-take, drop-drop, get_or-set_same, get_or-set_other}
use borrow.Author.Tests.{eq-eqb, ne_eqb, eqb-true}
use Rattle.std.proofs.Math.Option as M
use Rattle.field.specs.Bytes.{Bytes, AllBytes, pick}
use Rattle.field.specs.Number.{number_of}
use Rattle.field.specs.Row.{Row, end, loose, field, counted_front, inside, read, Ended}
use Rattle.field.specs.Front.{body_of, behind_of}
use Rattle.field.specs.Fields.{IsFront, IsEnd}
use Rattle.field.proofs.FrontLaws.{next_at, parts_at}
use Rattle.field.proofs.NumberLaws.{all_drop}
use Rattle.field.proofs.Reading.{Parts, next_parts}
use Rattle.refusal.specs.Refusal.{Fine, after, unless}
use Rattle.refusal.specs.declared.Refusal.TheVariants as R
use Rattle.page.proofs.Steps.{front, inner, row_at, tested}
use Rattle.refusal.proofs.Verdicts.{after_fine, refused}
use Rattle.outs.specs.Passed.{record_body}
use Rattle.outs.specs.Templates.{check_templates, check_records}
use Rattle.outs.specs.declared.Kind.TheVariants.{New}
use Rattle.outs.proofs.TemplateLaws.{new_short, record_rowwise}
use Rattle.find.specs.Find.{absent, index_of}
use Rattle.find.proofs.Firsts.{index_hits}
use Rattle.fill.specs.Html.{recorded, first_with, template_of}
use Rattle.fill.specs.Indexed.{Placed}
use Rattle.fill.specs.Located.{template_in}

-- ---- the record in front

module _ {s : Bytes} {t : ℕ} {w r : Bytes} (f : IsFront s t w r) (fine : check_records New (read s) ≡ Fine) where
  behind_tag : (t ≡ 0x84) × (record_body New w ≡ Fine) × (check_records New (read r) ≡ Fine)
  behind_tag =
      let a = after_fine (unless (eqb t 0x84) R.Misplaced) (λ _. after (record_body New w) λ _. check_records New (read r)) (sym ((record_rowwise New).field_by_field f) ∙ fine) in
      let b = after_fine (record_body New w) (λ _. check_records New (read r)) a.1 in
      (is_one (eqb t 0x84) refl a.0, b.0, b.1)
    where
      is_one : (b : Bool) → eqb t 0x84 ≡ b → unless b R.Misplaced ≡ Fine → t ≡ 0x84
      is_one true q e = eqb-true t 0x84 q
      is_one false q e = refused R.Misplaced e

  pub body_fine : record_body New w ≡ Fine
  body_fine = behind_tag.1

  pub rest_fine : check_records New (read r) ≡ Fine
  rest_fine = behind_tag.2

  pub has_six : 6 ≤ length w
  has_six = on (dec_le 6 (length w))
    where
      on : Dec (6 ≤ length w) → 6 ≤ length w
      on (yes l) = l
      on (no l) = refused R.Misplaced (new_short w (omega arith) ∙ behind_tag.1)

  abbrev head : Bytes
  head = take (counted_front 4 w) w

  abbrev strings : Row
  strings = read (drop (counted_front 4 w) w)

  record_at : read s ≡ field 0x84 head strings (read r)
  unfolding inside
  record_at = row_at f ∙ ap (λ (k : ℕ). field k (front (inside k) w) (inner (inside k) w) (read r)) behind_tag.0

  number_at : number_of (take 4 head) ≡ number_of (take 4 w)
  number_at = ap number_of (take-take 4 (counted_front 4 w) w (omega arith))

  module _ {n : ℕ} where
    module _ (e : n ≡ number_of (take 4 w)) where
      one : eqb (number_of (take 4 head)) n ≡ true
      one = eq-eqb (number_of (take 4 head)) n (number_at ∙ sym e)

      recorded_here : recorded n (read s) ≡ 1 + recorded n (read r)
      unfolding recorded
      recorded_here = ap (recorded n) record_at ∙ ap (λ (b : Bool). pick b 1 0 + recorded n (read r)) one

      first_here : first_with n (read s) ≡ M.some (template_in w)
      unfolding first_with
      first_here = ap (first_with n) record_at ∙ ap (λ (b : Bool). pick b (M.some (template_in w)) (first_with n (read r))) one

    module _ (d : n ≡ number_of (take 4 w) → ⊥) where
      other : eqb (number_of (take 4 head)) n ≡ false
      other = ne_eqb (number_of (take 4 head)) n (λ z. d (sym z ∙ number_at))

      recorded_other : recorded n (read s) ≡ recorded n (read r)
      unfolding recorded
      recorded_other = let z : 0 + recorded n (read r) ≡ recorded n (read r) = omega arith in ap (recorded n) record_at ∙ ap (λ (b : Bool). pick b 1 0 + recorded n (read r)) other ∙ z

      first_other : first_with n (read s) ≡ first_with n (read r)
      unfolding first_with
      first_other = ap (first_with n) record_at ∙ ap (λ (b : Bool). pick b (M.some (template_in w)) (first_with n (read r))) other

-- what lies behind it
dropped_by : {s : Bytes} {t : ℕ} {w r : Bytes} → Parts s t w r → drop (3 + length w) s ≡ r
dropped_by {s} {t} {w} {r} p =
    let z : 3 + length w ≡ suc (suc (suc (length w))) = omega arith in
    ap₂ drop z p.all_is ∙ drop-append_seam w r

dropped : {s : Bytes} {t : ℕ} {w r : Bytes} → IsFront s t w r → drop (3 + length w) s ≡ r
dropped {s} {t} {w} {r} f =
    ap (λ (x : Bytes). drop (3 + length x) s) f.body_is
    ∙ dropped_by (next_parts s t (body_of s) (behind_of s) (next_at s t f.tag_is (λ z. omega (arith, f.tag_below))))
    ∙ sym f.behind_is

-- ---- what is known of a number, when the bytes s of the templates t are left

-- no record with it was met
pub record Waits (t s : Bytes) (n p : ℕ) : Type 0 where
  pub no_place : p ≡ absent
  pub recorded_is : recorded n (read t) ≡ recorded n (read s)
  pub first_is : first_with n (read t) ≡ first_with n (read s)

-- one was met
pub record Met (t s : Bytes) (n p : ℕ) : Type 0 where
  pub within : p < length t
  pub recorded_is : recorded n (read t) ≡ 1 + recorded n (read s)
  pub first_is : first_with n (read t) ≡ M.some (template_in (body_of (drop p t)))
  pub right : record_body New (body_of (drop p t)) ≡ Fine
  pub short : length (body_of (drop p t)) ≤ 65535

abbrev pub Stands : Bytes → Bytes → ℕ → ℕ → Type 0
Stands t s n p = Waits t s n p ⊎ Met t s n p

pub record Locating (t : Bytes) (ns ps : List ℕ) (s : Bytes) : Type 0 where
  pub fine : check_records New (read s) ≡ Fine
  pub size : length s ≤ length t
  pub rest_is : drop (length t - length s) t ≡ s
  pub room : length ns ≤ length ps
  pub each : (n : ℕ) → index_of n ns < length ns → Stands t s n (get_or ps (index_of n ns) 0)

pub locating_begins : (t : Bytes) (ns : List ℕ) {ps : List ℕ} {m : ℕ} → check_templates New t ≡ Fine → length ns ≤ m → ps ≡ replicate m absent → Locating t ns ps t
unfolding check_templates
locating_begins t ns {ps} {m} e l q =
    let z : length t - length t ≡ 0 = omega arith in
    record {
      fine = e;
      size = omega arith;
      rest_is = ap (λ (k : ℕ). drop k t) z;
      room = omega (arith, ap length q, length-replicate m absent);
      each = λ n i. inl record { no_place = ap (λ (x : List ℕ). get_or x (index_of n ns) 0) q ∙ get_or-replicate m (index_of n ns) absent 0 (omega arith); recorded_is = refl; first_is = refl };
    }

-- a template is none where the number is not recorded once
not_once : (n : ℕ) (x : Row) → (recorded n x ≡ 1 → ⊥) → template_of x n ≡ M.none
unfolding template_of
not_once n x h = ap (λ (b : Bool). pick b (first_with n x) M.none) (ne_eqb (recorded n x) 1 h)

once : (n : ℕ) (x : Row) → recorded n x ≡ 1 → template_of x n ≡ first_with n x
unfolding template_of
once n x e = ap (λ (b : Bool). pick b (first_with n x) M.none) (eq-eqb (recorded n x) 1 e)

none_left : (n : ℕ) (x : Row) → Ended x → recorded n x ≡ 0
unfolding recorded
none_left n end i = refl
none_left n (loose b) i = refl
none_left n (field t f i r) e = absurd e

module _ {t : Bytes} {ns ps : List ℕ} {s : Bytes} (a : Locating t ns ps s) where
  pub locating_ends : {r : Bytes} → IsEnd s r → (n : ℕ) → index_of n ns < length ns → Placed t n (get_or ps (index_of n ns) 0)
  locating_ends e n l = on (get_or ps (index_of n ns) 0) (a.each n l)
    where
      on : (p : ℕ) → Stands t s n p → Placed t n p
      on p (inl w) = inl (w.no_place, not_once n (read t) (λ z. omega (arith, z, w.recorded_is, none_left n (read s) e.ended)))
      on p (inr m) = inr (m.within, record { is = once n (read t) (omega (arith, m.recorded_is, none_left n (read s) e.ended)) ∙ m.first_is; right = m.right; short = m.short })

  module _ {k : ℕ} {w r : Bytes} (f : IsFront s k w r) where
    abbrev at : ℕ
    at = length t - length s

    pub locating_six : 6 ≤ length w
    locating_six = has_six f a.fine

    behind_drop : drop (length t - length r) t ≡ r
    behind_drop =
        let q : length t - length r ≡ at + (3 + length w) = omega (arith, a.size, f.sizes) in
        ap (λ (x : ℕ). drop x t) q ∙ sym (drop-drop (3 + length w) at t) ∙ ap (drop (3 + length w)) a.rest_is ∙ dropped f

    -- ---- the record's number is not asked for, or was not met yet

    away : {ps' : List ℕ} → length ps' ≡ length ps → ((n : ℕ) → index_of n ns < length ns → Stands t r n (get_or ps' (index_of n ns) 0)) → Locating t ns ps' r
    away {ps'} l h = record { fine = rest_fine f a.fine; size = omega (arith, a.size, f.sizes); rest_is = behind_drop; room = omega (arith, a.room); each = h }

    -- a record with another number
    stays : (n p : ℕ) → (n ≡ number_of (take 4 w) → ⊥) → Stands t s n p → Stands t r n p
    stays n p d (inl x) = inl record { no_place = x.no_place; recorded_is = x.recorded_is ∙ recorded_other f a.fine d; first_is = x.first_is ∙ first_other f a.fine d }
    stays n p d (inr m) = inr record { within = m.within; recorded_is = m.recorded_is ∙ ap (λ (x : ℕ). 1 + x) (recorded_other f a.fine d); first_is = m.first_is; right = m.right; short = m.short }

    module _ {n : ℕ} (e : n ≡ number_of (take 4 w)) where
      pub locating_passed : length ns ≤ index_of n ns → Locating t ns ps r
      locating_passed l = away refl (λ m i. stays m (get_or ps (index_of m ns) 0) (λ z. let q : m ≡ n = z ∙ sym e in omega (arith, ap (λ (x : ℕ). index_of x ns) q)) (a.each m i))

      module _ {i : ℕ} (l : i < length ns) (j : i ≡ index_of n ns) where
        asked_for : index_of n ns < length ns
        asked_for = omega arith

        pub twice_none : (get_or ps i 0 ≡ absent → ⊥) → (m : ℕ) × (index_of m ns < length ns) × (template_of (read t) m ≡ M.none)
        twice_none d = (n, asked_for, on (get_or ps (index_of n ns) 0) refl (a.each n asked_for))
          where
            on : (p : ℕ) → get_or ps (index_of n ns) 0 ≡ p → Stands t s n p → template_of (read t) n ≡ M.none
            on p q (inl x) = absurd (d (ap (λ (y : ℕ). get_or ps y 0) j ∙ q ∙ x.no_place))
            on p q (inr m) = not_once n (read t) (λ z. omega (arith, z, m.recorded_is, recorded_here f a.fine e))

        module _ (all : AllBytes t) (long : length t < 2 ^ 64) (free : get_or ps i 0 ≡ absent) where
          body_there : w ≡ body_of (drop at t)
          body_there = f.body_is ∙ ap body_of (sym a.rest_is)

          body_short : length w ≤ 65535
          body_short =
              let b : AllBytes s = subst AllBytes a.rest_is (all_drop at t all) in
              omega (arith, (parts_at s k f.tag_is (λ z. omega (arith, f.tag_below)) b).body_short, ap length f.body_is)

          waited : Waits t s n (get_or ps (index_of n ns) 0)
          waited = on (get_or ps (index_of n ns) 0) refl (a.each n asked_for)
            where
              on : (p : ℕ) → get_or ps (index_of n ns) 0 ≡ p → Stands t s n p → Waits t s n p
              on p q (inl x) = x
              on p q (inr m) = absurd (let z : absent ≡ p = sym free ∙ ap (λ (y : ℕ). get_or ps y 0) j ∙ q in omega (arith, m.within))

          met_now : Met t r n at
          met_now =
              record {
                within = omega (arith, a.size, f.sizes);
                recorded_is = waited.recorded_is ∙ recorded_here f a.fine e;
                first_is = waited.first_is ∙ first_here f a.fine e ∙ ap (λ (x : Bytes). M.some (template_in x)) body_there;
                right = ap (record_body New) (sym body_there) ∙ body_fine f a.fine;
                short = omega (arith, body_short, ap length body_there);
              }

          pub locating_found : Locating t ns (set ps i at) r
          locating_found = away (length-set ps i at) (λ m h. tested m n (same m) (apart m h))
            where
              same : (m : ℕ) → m ≡ n → Stands t r m (get_or (set ps i at) (index_of m ns) 0)
              same m q =
                  let g : get_or (set ps i at) (index_of n ns) 0 ≡ at = ap (λ (y : ℕ). get_or (set ps i at) y 0) (sym j) ∙ get_or-set_same ps i at 0 (omega (arith, a.room)) in
                  subst (λ (x : ℕ). Stands t r x (get_or (set ps i at) (index_of x ns) 0)) (sym q) (subst (λ (p : ℕ). Stands t r n p) (sym g) (inr met_now))

              apart : (m : ℕ) → index_of m ns < length ns → (m ≡ n → ⊥) → Stands t r m (get_or (set ps i at) (index_of m ns) 0)
              apart m h d =
                  let g : get_or (set ps i at) (index_of m ns) 0 ≡ get_or ps (index_of m ns) 0 = get_or-set_other ps i (index_of m ns) at 0 (λ z. d (sym (index_hits m ns h) ∙ ap (λ (y : ℕ). get_or ns y 0) (z ∙ j) ∙ index_hits n ns asked_for)) in
                  subst (λ (p : ℕ). Stands t r m p) (sym g) (stays m (get_or ps (index_of m ns) 0) (λ z. d (z ∙ sym e)) (a.each m h))
