-- The numbers that a row of fillings asks for, field by field, and what is gathered of them. Main statements: `asked_order`, `asked_text`,
-- `asked_none`, `checked_order`, `checked_behind`, `gather_begins`, `gather_step`, `gather_ends`, `gather_body`, `gather_text`. Assumes nothing.
use mathlib.Core.Path.{◌≡◌, refl, sym, ap, ap₂, ◌∙◌, subst}
use Prim.Native.Nat.{ℕ, suc, ◌+◌, ◌*◌, ◌≤◌, ◌<◌}
use native.Mathlib.Omega.{arith}
use mathlib.Core.Logic.{◌⊎◌, inl, inr}
use mathlib.Core.List.{List, [], ◌∷◌, ◌++◌, append-nil}
use lib.ListN.{length, take, drop, set, length-append, length-take, length-drop}
use borrow.Author.Tests.{ne_eqb}
use Rattle.std.specs.Prelude.{Result, Ok, Err, OnOk}
use Rattle.field.specs.Bytes.{Bytes, AllBytes}
use Rattle.field.specs.Number.{number_of}
use Rattle.field.specs.Row.{Row, end, loose, field, read}
use Rattle.field.specs.Fields.{IsFront, IsEnd}
use Rattle.field.specs.Put.{put, Wrote}
use Rattle.field.proofs.PutLaws.{length_put, put_nil, put_one, put_put}
use Rattle.loops.proofs.Headers.{front_of, inner_of}
use Rattle.fill.specs.Order.{held_in_order, read_order, check_fillings, asked}
use Rattle.page.specs.Tree.{choose}
use Rattle.page.proofs.Steps.{tested}
use Rattle.fill.specs.Indexed.{Checked, asked_in, asked_by, Gathers, HasRoom}
use Rattle.field.proofs.FrontLaws.{parts_at}
use Rattle.refusal.specs.Refusal.{Verdict}
use Rattle.page.specs.Check.{check_nothing_after}
use Rattle.fill.proofs.OrderLaws.{row_is, row_end, nothing_after}
use Rattle.fill.proofs.AskedLaws.{FillingParts, filling_parts, asked_85, asked_behind}

-- ---- the field in front

module _ {s : Bytes} {t : ℕ} {w r : Bytes} (f : IsFront s t w r) where
  pub form_at : t ≡ 0x85 → read_order s ≡ field 0x85 (take 4 w) (read_order (drop 4 w)) (read_order r)
  unfolding held_in_order read_order
  form_at e = row_is f ∙ ap (λ (k : ℕ). field k (front_of (held_in_order k) w) (inner_of held_in_order (held_in_order k) w) (read_order r)) e

  pub asked_order : t ≡ 0x85 → asked (read_order s) ≡ number_of (take 4 w) ∷ (asked (read_order (drop 4 w)) ++ asked (read_order r))
  asked_order e = ap asked (form_at e) ∙ asked_85 0x85 (take 4 w) (read_order (drop 4 w)) (read_order r) refl

  pub asked_text : (t ≡ 0x85 → ⊥) → asked (read_order s) ≡ asked (read_order r)
  asked_text n = ap asked (row_is f) ∙ asked_behind t (front_of (held_in_order t) w) (inner_of held_in_order (held_in_order t) w) (read_order r) n

  module _ (c : Checked s) where
    pub checked_behind : Checked r
    checked_behind =
        record {
          depth = c.depth;
          fine = (filling_parts c.depth t (front_of (held_in_order t) w) (inner_of held_in_order (held_in_order t) w) (read_order r) (ap (check_fillings c.depth) (sym (row_is f)) ∙ c.fine)).rest_fine;
        }

    module _ (e : t ≡ 0x85) where
      parts : FillingParts c.depth 0x85 (take 4 w) (read_order (drop 4 w)) (read_order r)
      parts = filling_parts c.depth 0x85 (take 4 w) (read_order (drop 4 w)) (read_order r) (ap (check_fillings c.depth) (sym (form_at e)) ∙ c.fine)

      pub has_number : 4 ≤ length w
      has_number = omega (arith, parts.number_whole refl, length-take 4 w)

      pub checked_within : {v : Bytes} → v ≡ drop 4 w → Checked v
      checked_within {v} q = record { depth = suc c.depth; fine = ap (λ (x : Bytes). check_fillings (suc c.depth) (read_order x)) q ∙ parts.inner_fine refl }

pub asked_none : {s r : Bytes} → IsEnd s r → asked (read_order s) ≡ []
unfolding asked
asked_none i = sym (row_end (λ _. []) asked refl (λ b. refl) i)

-- ---- what is gathered

-- a check that finds nothing
pub on_ok : {T E : Type 0} {A B : Type 0} (r : Result T E) → (A → B) → OnOk r A → OnOk r B
on_ok (Ok x) f a = f a
on_ok (Err e) f a = tt

pub ok_is : {T E : Type 0} {A : Type 0} {x : T} {r : Result T E} → r ≡ Ok x → OnOk r A → A
ok_is {T} {E} {A} {x} {r} e a = subst (λ (y : Result T E). OnOk y A) e a

pub always : {T E : Type 0} {A : Type 0} (r : Result T E) → A → OnOk r A
always (Ok x) a = a
always (Err e) a = tt

-- so many numbers of the row s stand in o' from a place on, up to end; what is left of the row is r
pub record Gathered (o : List ℕ) (at : ℕ) (s : Bytes) (o' : List ℕ) (end : ℕ) (r : Bytes) : Type 0 where
  pub size : length r ≤ length s
  pub room : length o' ≡ length o
  pub few : 7 * end + length r ≤ 7 * at + length s
  pub count : at + length (asked (read_order s)) ≡ end + length (asked (read_order r))
  pub same : put o at (asked (read_order s)) ≡ put o' end (asked (read_order r))

pub gather_begins : (o : List ℕ) (at : ℕ) (s : Bytes) → Gathered o at s o at s
gather_begins o at s = record { size = omega arith; room = refl; few = omega arith; count = refl; same = refl }

module _ {o : List ℕ} {at : ℕ} {s : Bytes} {o' : List ℕ} {end : ℕ} {b : Bytes} (g : Gathered o at s o' end b) where
  module _ {t : ℕ} {w r : Bytes} (f : IsFront b t w r) where
    all_are : asked (read_order b) ≡ asked_by t w ++ asked (read_order r)
    unfolding asked_by choose
    all_are = tested t 0x85 (λ k. asked_order f k ∙ rw k refl) (λ n. asked_text f n ∙ rw (ne_eqb t 0x85 n) refl)

    pub gather_step : {o₂ : List ℕ} {end₂ : ℕ} → Gathers o' end (asked_by t w) (3 + length w) o₂ end₂ → Gathered o at s o₂ end₂ r
    gather_step {o₂} {end₂} h =
        record {
          size = omega (arith, g.size, f.sizes);
          room = ap length h.wrote.out_is ∙ length_put o' end (asked_by t w) ∙ g.room;
          few = omega (arith, g.few, h.few, f.sizes);
          count = omega (arith, g.count, ap length all_are, length-append (asked_by t w) (asked (read_order r)), h.wrote.end_is);
          same =
              g.same
              ∙ ap (put o' end) all_are
              ∙ sym (put_put o' end (asked_by t w) (asked (read_order r)))
              ∙ ap₂ (λ (x : List ℕ) (y : ℕ). put x y (asked (read_order r))) (sym h.wrote.out_is) (sym h.wrote.end_is);
        }

  pub gather_ends : {r : Bytes} → IsEnd b r → Gathers o at (asked (read_order s)) (length s) o' end
  gather_ends i =
      let q : asked (read_order b) ≡ [] = asked_none i in
      record { wrote = record { out_is = sym (g.same ∙ ap (put o' end) q ∙ put_nil o' end); end_is = omega (arith, g.count, ap length q) }; few = omega (arith, g.few) }

-- a number, and what comes behind it
pub gather_body : {o : List ℕ} {at : ℕ} (w : Bytes) {v : Bytes} {n : ℕ} {o' : List ℕ} {end : ℕ} → 4 ≤ length w → v ≡ drop 4 w → n ≡ number_of (take 4 w) → at < length o → Gathers (set o at n) (at + 1) (asked (read_order v)) (length v) o' end →
    Gathers o at (asked_in w) (3 + length w) o' end
gather_body {o} {at} w {v} {n} {o'} {end} c q k l h =
    let inner : List ℕ = asked (read_order v) in
    let e : n ∷ inner ≡ asked_in w = ap₂ (λ (x : ℕ) (y : Bytes). x ∷ asked (read_order y)) k q in
    record {
      wrote =
          record {
            out_is = h.wrote.out_is ∙ ap (λ (x : List ℕ). put x (at + 1) inner) (sym (put_one o at n l)) ∙ put_put o at (n ∷ []) inner ∙ ap (put o at) e;
            end_is = omega (arith, h.wrote.end_is, ap length e);
          };
      few = omega (arith, h.few, ap length q, length-drop 4 w);
    }

-- a text asks for nothing
pub gather_text : (o : List ℕ) (at : ℕ) (t : ℕ) (w : Bytes) → (t ≡ 0x85 → ⊥) → Gathers o at (asked_by t w) (3 + length w) o at
unfolding asked_by choose
gather_text o at t w n = rw (ne_eqb t 0x85 n) record { wrote = record { out_is = sym (put_nil o at); end_is = omega arith }; few = omega arith }

pub gather_inner : {o : List ℕ} {at t : ℕ} (w : Bytes) {o' : List ℕ} {end : ℕ} → t ≡ 0x85 → Gathers o at (asked_in w) (3 + length w) o' end → Gathers o at (asked_by t w) (3 + length w) o' end
unfolding asked_by choose
gather_inner w k h = rw k h

-- ---- the whole order

-- nothing stands behind it
pub asked_alone : (r : Bytes) {x : Verdict} → x ≡ check_nothing_after (read r) → OnOk x (asked (read_order r) ≡ [])
unfolding asked check_nothing_after
asked_alone r {x} e = subst (λ (v : Verdict). OnOk v (asked (read_order r) ≡ [])) (sym (e ∙ nothing_after r)) (on (read_order r))
  where
    on : (y : Row) → OnOk (check_nothing_after y) (asked y ≡ [])
    on end = refl
    on (loose b) = tt
    on (field t f i x) = tt

module _ {s : Bytes} {t : ℕ} {w r : Bytes} (f : IsFront s t w r) where
  pub body_room : {n : ℕ} → AllBytes s → HasRoom s n → length w + 3 < 7 * n + 7
  body_room a (inl l) = omega (arith, f.sizes, l)
  body_room a (inr m) = omega (arith, (parts_at s t f.tag_is (λ z. omega (arith, f.tag_below)) a).body_short, ap length f.body_is, m)

  pub gather_whole : {o : List ℕ} {at : ℕ} {o' : List ℕ} {end : ℕ} → t ≡ 0x85 → at ≡ 0 → length w + 3 < 7 * length o + 7 → Gathers o at (asked_in w) (3 + length w) o' end → asked (read_order r) ≡ [] → Gathers o 0 (asked (read_order s)) (7 * length o) o' end
  gather_whole {o} {at} {o'} {end} k z l h e =
      let q : asked_in w ≡ asked (read_order s) = sym (asked_order f k ∙ ap (λ (x : List ℕ). number_of (take 4 w) ∷ (asked (read_order (drop 4 w)) ++ x)) e ∙ ap (λ (x : List ℕ). number_of (take 4 w) ∷ x) (append-nil (asked (read_order (drop 4 w))))) in
      record {
        wrote = record { out_is = h.wrote.out_is ∙ ap₂ (put o) z q; end_is = omega (arith, h.wrote.end_is, ap length q, z) };
        few = omega (arith, h.few, z, l);
      }
