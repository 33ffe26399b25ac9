-- What the loops over strings and kinds stand on. Main statements: `passes_on`, `fields_drained`, `marks_on`, `put_on`, `Marking`, `Comparing`.
-- Assumes nothing.
use mathlib.Core.Path.{◌≡◌, refl, sym, ap, ap₂, ◌∙◌, subst}
use mathlib.Core.Bool.{Bool, true, false, not, ◌&&◌}
use Prim.Native.Nat.{ℕ, zero, suc, ◌+◌, ◌-◌, ◌≤◌, ◌<◌}
use native.Mathlib.Omega.{arith}
use native.Mathlib.Numerals.{add-one}
use mathlib.Core.List.{List, [], ◌∷◌, ◌++◌}
use lib.Dec.{eqb, leb}
use lib.ListN.{length, drop, get_or, drop_of_length-le}
use lib.Seq.{drop-cons}
use borrow.Author.Tests.{eq-eqb, ne_eqb, le-leb, eqb-true, eqb-false}
use Rattle.field.specs.Bytes.{Bytes, same}
use Rattle.field.specs.Row.{Row, end, loose, field, Inside, only_bytes, fields_after, counted, inside, Next, nothing, no_field, next, next_of, opened, built, read, Ended}
use Rattle.field.specs.Front.{tag_of_front, body_of, behind_of, body_by, behind_by}
use Rattle.field.specs.Put.{put, Wrote}
use Rattle.field.proofs.RowLaws.{read_step, read_nil}
use Rattle.field.proofs.FrontLaws.{read_at}
use Rattle.field.proofs.PutLaws.{put_put, put_nil, wrote_length}
use Rattle.convert.specs.Kinds.{passed, all_passed}
use Rattle.convert.specs.Flat.{KindIs, NextKind, kind_number, kind_marks, all_clear, same_kinds, fields_in}
use Rattle.convert.specs.declared.kinds.Gaps.{Gaps}
use Rattle.field.specs.Fields.{IsFront, IsEnd, GivesField}
use Rattle.field.specs.declared.reader.Field.{Field}
use Rattle.field.specs.declared.reader.Fields.{Fields}
use Rattle.std.specs.Iterator.{Drains}
use Rattle.std.specs.Prelude.{Option, Some, None}
use Rattle.std.specs.Option.{option_eq}
use Rattle.std.proofs.Math.Bool.{and-false}
use Rattle.convert.specs.declared.kinds.Markup.{Markup}
use Rattle.convert.specs.declared.kinds.Markup.TheVariants as M

-- ---- a text, byte by byte

module _ (q : Markup) (s : Bytes) (i : ℕ) where
  pub passes_on : i < length s → {m : Markup} → m ≡ passed q (get_or s i 0) → all_passed q (drop i s) ≡ all_passed m (drop (i + 1) s)
  unfolding all_passed
  passes_on l {m} e = rw (add-one, drop-cons s i 0 l, e)

  pub passes_all : length s ≤ i → all_passed q (drop i s) ≡ q
  unfolding all_passed
  passes_all h = ap (all_passed q) (drop_of_length-le s h)

-- ---- how many fields

fields_opened : (c : Inside) (t : ℕ) (w r : Bytes) → fields_in (opened c read t w r) ≡ suc (fields_in (read r))
unfolding fields_in opened
fields_opened only_bytes t w r = refl
fields_opened (fields_after n) t w r = refl
fields_opened (counted n) t w r = refl

pub fields_more : (s : Bytes) {t : ℕ} → t ≡ tag_of_front s → (t ≡ 256 → ⊥) → {r : Bytes} → r ≡ behind_of s → fields_in (read s) ≡ suc (fields_in (read r))
fields_more s {t} e h {r} q = ap fields_in (read_at s t e h) ∙ fields_opened (inside t) t (body_of s) (behind_of s) ∙ ap (λ (x : Bytes). suc (fields_in (read x))) (sym q)

pub fields_none : (x : Row) → Ended x → fields_in x ≡ 0
unfolding fields_in
fields_none end i = refl
fields_none (loose b) i = refl
fields_none (field t f j r) i = absurd i

pub fields_drained : (s : Fields) (xs : List Field) → Drains GivesField s xs → fields_in (read s.0.now) ≡ length xs
fields_drained s [] (u, (t, y, e)) = fields_none _ (subst (λ (z : Fields). Ended (read z.0.now)) (sym y) e.ended)
fields_drained s (x ∷ xs) (u, (t, (j, g, y), e)) = fields_more _ g.tag_is (λ z. omega (arith, g.tag_below, z)) g.behind_is ∙ ap suc (fields_drained j xs (u, (t, y, e)))

-- ---- kinds, string by string

pub length_marks : (k : ℕ) (m : Markup) (s : Bytes) → length (kind_marks k m s) ≡ k
unfolding kind_marks
length_marks zero m s = refl
length_marks (suc k) m s = ap suc (length_marks k (all_passed m (body_of s)) (behind_of s))

pub marks_none : (k i : ℕ) → k ≤ i → (m : Markup) (t : Bytes) → kind_marks (k - i) m t ≡ []
unfolding kind_marks
marks_none k i h m t = let z : k - i ≡ zero = omega arith in ap (λ (x : ℕ). kind_marks x m t) z

pub marks_on : (k i : ℕ) → i < k → {x y : Gaps} {o : Option ℕ} → NextKind x o y → kind_marks (k - i) x.markup x.strings.0.now ≡ kind_number y.markup ∷ kind_marks (k - (i + 1)) y.markup y.strings.0.now
unfolding kind_marks
marks_on k i h {x} {y} n =
    let z : k - i ≡ suc (k - (i + 1)) = omega arith in
    ap (λ (j : ℕ). kind_marks j x.markup x.strings.0.now) z
    ∙ ap (λ (m : Markup). kind_number m ∷ kind_marks (k - (i + 1)) m (behind_of x.strings.0.now)) (sym n.markup_is)
    ∙ ap (λ (w : Bytes). kind_number y.markup ∷ w) (sym (n.left_is (k - (i + 1))))

-- a string is taken, or none is left
module _ {x y : Gaps} {o : Option ℕ} where
  pub kind_next : {t : ℕ} {w r : Bytes} → IsFront x.strings.0.now t w r → y.strings.0.now ≡ r → y.markup ≡ all_passed x.markup w → KindIs o y.markup → NextKind x o y
  kind_next f e m k = record { markup_is = m ∙ ap (all_passed x.markup) f.body_is; left_is = λ j. ap (kind_marks j y.markup) (e ∙ f.behind_is); kind_is = k }

no_string : (s : Bytes) → Ended (read s) → (body_of s ≡ []) × (behind_of s ≡ [])
unfolding body_of behind_of built opened
no_string s i = on (next_of s) (subst Ended (read_step s) i)
  where
    on : (n : Next) → Ended (built read s n) → (body_by n ≡ []) × (behind_by n ≡ [])
    on nothing e = (refl, refl)
    on no_field e = (refl, refl)
    on (next t w r) e = absurd (in_field (inside t) e)
      where
        in_field : (c : Inside) → Ended (opened c read t w r) → ⊥
        in_field only_bytes e = e
        in_field (fields_after n) e = e
        in_field (counted n) e = e

marks_ended : (k : ℕ) (m : Markup) (s : Bytes) → Ended (read s) → kind_marks k m s ≡ kind_marks k m (behind_of s)
unfolding kind_marks
marks_ended zero m s e = refl
marks_ended (suc k) m s e =
    let n = no_string s e in
    let u = no_string [] (subst Ended (sym read_nil) tt) in
    let step : (b r : Bytes) → Bytes = λ b r. kind_number (all_passed m b) ∷ kind_marks k (all_passed m b) r in
    ap₂ step (n.0 ∙ sym u.0) (n.1 ∙ sym u.1) ∙ ap (kind_marks (suc k) m) (sym n.1)

pub kind_stays : {x y : Gaps} {o : Option ℕ} {r : Bytes} → IsEnd x.strings.0.now r → y.strings.0.now ≡ r → y.markup ≡ x.markup → KindIs o y.markup → NextKind x o y
unfolding all_passed
kind_stays {x} {y} f e m k =
    record {
      markup_is = m ∙ sym (ap (all_passed x.markup) (no_string _ f.ended).0);
      left_is = λ j. ap (kind_marks j y.markup) (e ∙ f.stays) ∙ marks_ended j y.markup _ f.ended;
      kind_is = k;
    }

-- a gap of no kind
pub not_clear : {k i : ℕ} → i < k → {x y : Gaps} → NextKind x None y → all_clear (kind_marks (k - i) x.markup x.strings.0.now) ≡ false
unfolding all_clear
not_clear {k} {i} h {x} {y} n = ap all_clear (marks_on k i h n) ∙ ap (λ (j : ℕ). leb 1 j && all_clear (kind_marks (k - (i + 1)) y.markup y.strings.0.now)) n.kind_is

-- what is written, and what is left to write
pub put_on : {o o' a : Bytes} {n n' : ℕ} → Wrote o n a o' n' → (b : Bytes) → put o' n' b ≡ put o n (a ++ b)
put_on {o} {o'} {a} {n} {n'} w b = ap₂ (λ (x : Bytes) (y : ℕ). put x y b) w.out_is w.end_is ∙ put_put o n a b

-- what is written and what is left to write are all
pub record Marking (o : Bytes) (at gaps : ℕ) (s out : Bytes) (x : Gaps) (i a : ℕ) : Type 0 where
  pub within : i ≤ gaps
  pub place_is : a ≡ at + i
  pub same_size : length out ≡ length o
  pub left_is : put out a (kind_marks (gaps - i) x.markup x.strings.0.now) ≡ put o at (kind_marks gaps M.Outside s)
  pub clear_left : all_clear (kind_marks (gaps - i) x.markup x.strings.0.now) ≡ all_clear (kind_marks gaps M.Outside s)

module _ {o s out : Bytes} {at gaps i a : ℕ} {x : Gaps} (k : Marking o at gaps s out x i a) where
  module _ (h : i < gaps) {y : Gaps} where
    pub marking_on : {v : ℕ} → NextKind x (Some v) y → {out' : Bytes} {a' : ℕ} → Wrote out a (v ∷ []) out' a' → Marking o at gaps s out' y (i + 1) a'
    unfolding all_clear
    marking_on {v} n {out'} {a'} w =
        let rest : Bytes = kind_marks (gaps - (i + 1)) y.markup y.strings.0.now in
        let e : kind_marks (gaps - i) x.markup x.strings.0.now ≡ v ∷ rest = marks_on gaps i h n ∙ ap (λ (j : ℕ). j ∷ rest) n.kind_is.0 in
        let c : all_clear (v ∷ rest) ≡ all_clear rest = ap (λ (b : Bool). b && all_clear rest) (le-leb 1 v n.kind_is.1) in
        record {
          within = omega arith;
          place_is = omega (arith, w.end_is, k.place_is);
          same_size = wrote_length w ∙ k.same_size;
          left_is = put_on w rest ∙ ap (put out a) (sym e) ∙ k.left_is;
          clear_left = sym c ∙ ap all_clear (sym e) ∙ k.clear_left;
        }

    -- a gap of no kind
    pub marking_stops : NextKind x None y → all_clear (kind_marks gaps M.Outside s) ≡ false
    marking_stops n = sym k.clear_left ∙ not_clear h n

  pub marking_ends : gaps ≤ i → Wrote o at (kind_marks gaps M.Outside s) out a × (all_clear (kind_marks gaps M.Outside s) ≡ true)
  unfolding all_clear
  marking_ends h =
      let e : kind_marks (gaps - i) x.markup x.strings.0.now ≡ [] = marks_none gaps i h x.markup x.strings.0.now in
      let l : i ≡ gaps = omega (arith, k.within) in (
        record {
          out_is = sym (put_nil out a) ∙ ap (put out a) (sym e) ∙ k.left_is;
          end_is = k.place_is ∙ ap (λ (j : ℕ). at + j) (l ∙ sym (length_marks gaps M.Outside s));
        },
        sym k.clear_left ∙ ap all_clear e,
      )

-- ---- kinds compared

denied : (c b : Bool) → c ≡ not b → b ≡ not c
denied true true e = e
denied true false e = refl
denied false true e = refl
denied false false e = e

module _ (a : Bytes) (i : ℕ) (l : i < length a) (v : ℕ) (w : Bytes) where
  same_kinds_on : get_or a i 0 ≡ v → 1 ≤ v → same_kinds (drop i a) (v ∷ w) ≡ same_kinds (drop (i + 1) a) w
  unfolding same_kinds all_clear same
  same_kinds_on e h = rw (add-one, drop-cons a i 0 l, eq-eqb (get_or a i 0) v e, le-leb 1 v h)

  same_kinds_off : (get_or a i 0 ≡ v → ⊥) → same_kinds (drop i a) (v ∷ w) ≡ false
  unfolding same_kinds same
  same_kinds_off e = rw (drop-cons a i 0 l, ne_eqb (get_or a i 0) v e) (and-false (all_clear (v ∷ w)))

-- the kinds before i are those of the strings
pub record Comparing (a s : Bytes) (x : Gaps) (i : ℕ) : Type 0 where
  pub within : i ≤ length a
  pub left_is : same_kinds a (kind_marks (length a) M.Outside s) ≡ same_kinds (drop i a) (kind_marks (length a - i) x.markup x.strings.0.now)

module _ {a s : Bytes} {x : Gaps} {i : ℕ} (k : Comparing a s x i) where
  module _ (h : i < length a) {y : Gaps} where
    pub comparing_off : {o : Option ℕ} → NextKind x o y → true ≡ not (option_eq eqb o (Some (get_or a i 0))) → false ≡ same_kinds a (kind_marks (length a) M.Outside s)
    unfolding same_kinds
    comparing_off {o = None} n z = sym (k.left_is ∙ ap (λ (b : Bool). b && same (drop i a) (kind_marks (length a - i) x.markup x.strings.0.now)) (not_clear h n))
    comparing_off {o = Some v} n z =
        let rest : Bytes = kind_marks (length a - (i + 1)) y.markup y.strings.0.now in
        let e : kind_marks (length a - i) x.markup x.strings.0.now ≡ v ∷ rest = marks_on (length a) i h n ∙ ap (λ (j : ℕ). j ∷ rest) n.kind_is.0 in
        sym (k.left_is ∙ ap (same_kinds (drop i a)) e ∙ same_kinds_off a i h v rest (λ q. eqb-false v (get_or a i 0) (denied _ _ z) (sym q)))

    pub comparing_on : {o : Option ℕ} → NextKind x o y → false ≡ not (option_eq eqb o (Some (get_or a i 0))) → Comparing a s y (i + 1)
    comparing_on {o = None} n z = absurd (let q : false ≡ true = z in let j : ◌≡◌ {A = ℕ} 0 1 = cc in omega arith)
    comparing_on {o = Some v} n z =
        let rest : Bytes = kind_marks (length a - (i + 1)) y.markup y.strings.0.now in
        let e : kind_marks (length a - i) x.markup x.strings.0.now ≡ v ∷ rest = marks_on (length a) i h n ∙ ap (λ (j : ℕ). j ∷ rest) n.kind_is.0 in
        let q : v ≡ get_or a i 0 = eqb-true v (get_or a i 0) (denied _ _ z) in
        record { within = omega arith; left_is = k.left_is ∙ ap (same_kinds (drop i a)) e ∙ same_kinds_on a i h v rest (sym q) n.kind_is.1 }

  pub comparing_ends : length a ≤ i → true ≡ same_kinds a (kind_marks (length a) M.Outside s)
  unfolding same_kinds all_clear same
  comparing_ends h = sym (k.left_is ∙ ap (same_kinds (drop i a)) (marks_none (length a) i h x.markup x.strings.0.now) ∙ ap (λ (z : Bytes). same_kinds z []) (drop_of_length-le a h))
