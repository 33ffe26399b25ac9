-- The writing of HTML, turn by turn. Main statements: of a filling `order_filling`, `free_filling`, `plain_filling`, `no_filling`; of the loop
-- `Turning`, `turns_begin`, `turn_fits`, `turn_on`, `turn_stops`, `turns_end`. Assumes nothing.
use mathlib.Core.Path.{◌≡◌, refl, sym, ap, ap₂, ◌∙◌, subst}
use mathlib.Core.Option.{Option, none, some}
use Prim.Native.Nat.{ℕ, suc, ◌+◌, ◌-◌, ◌*◌, ◌≤◌}
use native.Mathlib.Omega.{arith}
use mathlib.Core.List.{List, [], ◌∷◌}
use lib.Dec.{T, leb, leb→le}
use lib.ListN.{length, take, drop, length-drop}
use lib.Seq.{take_all}
use borrow.Author.Tests.{ne_eqb}
use Rattle.std.specs.Prelude as S
use Rattle.field.specs.Bytes.{Bytes}
use Rattle.field.specs.Number.{number_of}
use Rattle.field.specs.Row.{Row, read}
use Rattle.field.specs.Fields.{IsFront, IsEnd}
use Rattle.field.specs.Put.{Wrote}
use Rattle.field.proofs.PutLaws.{wrote_none, wrote_then}
use Rattle.text.specs.Escape.{escape_html}
use Rattle.refusal.specs.Refusal.{Fine}
use Rattle.page.specs.Tree.{choose}
use Rattle.page.proofs.Steps.{tested}
use Rattle.page.proofs.Booleans.{and_both}
use Rattle.outs.specs.Templates.{check_strings}
use Rattle.spec.specs.Demand.{strings_in}
use Rattle.fill.specs.Html.{template_of, text_filling, in_turn, last_string, fill_gaps}
use Rattle.fill.specs.Order.{read_order, is_filling}
use Rattle.fill.specs.Located.{RecordIs, Fills}
use Rattle.fill.specs.Writing.{PartsAre, FillingsFit, OrderFits, FillingFits, free_text, html_of_body, html_of_filling}
use Rattle.fill.proofs.FillingLaws.{order_front, text_front, this_fits, rest_fits, row_end}
use Rattle.fill.proofs.PartLaws.{strings_left, string_front, string_there, string_last}

module _ (o : Bytes) (n : ℕ) (o' : Bytes) (r : S.Option ℕ) where
  pub fills_is : {x y : Option Bytes} → x ≡ y → Fills y o n o' r → Fills x o n o' r
  fills_is {x} {y} e f = subst (λ (z : Option Bytes). Fills z o n o' r) (sym e) f

pub wrote_empty : (o : Bytes) (n : ℕ) (s : Bytes) → length s ≡ 0 → Wrote o n s o n
wrote_empty o n [] z = wrote_none o n
wrote_empty o n (c ∷ s) z = absurd (omega arith)

-- ---- a filling, by its kind, its tag and its body

module _ (ts : Row) {k t : ℕ} (w : Bytes) where
  pub order_filling : k ≡ 2 → t ≡ 0x85 → html_of_filling ts k t w ≡ html_of_body ts w
  unfolding html_of_filling choose
  order_filling e h = rw (e, h)

  pub free_filling : k ≡ 1 → t ≡ 0x86 → html_of_filling ts k t w ≡ free_text w
  unfolding html_of_filling choose text_filling
  free_filling e h = rw (e, h)

  pub plain_filling : k ≡ 2 → t ≡ 0x87 → html_of_filling ts k t w ≡ some (escape_html w)
  unfolding html_of_filling choose text_filling
  plain_filling e h = rw (e, h)

  pub no_filling : T (is_filling t) → (k ≡ 2 → t ≡ 0x85 → ⊥) → (k ≡ 1 → t ≡ 0x86 → ⊥) → (k ≡ 2 → t ≡ 0x87 → ⊥) → html_of_filling ts k t w ≡ none
  unfolding html_of_filling choose text_filling
  no_filling i a b c =
      tested t 0x85 (λ h. rw (h, ne_eqb k 2 (λ e. a e h))) λ x.
      tested t 0x86 (λ h. rw (h, ne_eqb k 1 (λ e. b e h))) λ y.
      let u = and_both (leb 0x85 t) (leb t 0x87) i in
      let h : t ≡ 0x87 = omega (arith, leb→le 0x85 t u.0, leb→le t 0x87 u.1, x, y) in
      rw (h, ne_eqb k 2 (λ e. c e h))

-- ---- a string and a filling in turn

module _ (ts : Row) where
  gaps_on : (k : ℕ) (ks c : Bytes) (cs : List Bytes) {s : Bytes} {t : ℕ} {w r : Bytes} → IsFront s t w r → fill_gaps ts (k ∷ ks) (c ∷ cs) (read_order s) ≡ in_turn c (html_of_filling ts k t w) (fill_gaps ts ks cs (read_order r))
  unfolding fill_gaps html_of_filling html_of_body choose
  gaps_on k ks c cs {s} {t} {w} {r} f = tested t 0x85 order text
    where
      order : t ≡ 0x85 → fill_gaps ts (k ∷ ks) (c ∷ cs) (read_order s) ≡ in_turn c (html_of_filling ts k t w) (fill_gaps ts ks cs (read_order r))
      order e = ap (fill_gaps ts (k ∷ ks) (c ∷ cs)) (order_front f e) ∙ rw e refl

      text : (t ≡ 0x85 → ⊥) → fill_gaps ts (k ∷ ks) (c ∷ cs) (read_order s) ≡ in_turn c (html_of_filling ts k t w) (fill_gaps ts ks cs (read_order r))
      text n = ap (fill_gaps ts (k ∷ ks) (c ∷ cs)) (text_front f n) ∙ rw (ne_eqb t 0x85 n) refl

  no_gap : (ss : List Bytes) {s : Bytes} {t : ℕ} {w r : Bytes} → IsFront s t w r → fill_gaps ts [] ss (read_order s) ≡ none
  unfolding fill_gaps
  no_gap ss {s} {t} {w} {r} f = tested t 0x85 (λ e. ap (fill_gaps ts [] ss) (order_front f e)) (λ n. ap (fill_gaps ts [] ss) (text_front f n))

module _ {o o₁ c : Bytes} {n n₁ : ℕ} (u : Wrote o n c o₁ n₁) (o₂ : Bytes) (n₂ : ℕ) where
  turn_fills : (x y : Option Bytes) (o' : Bytes) (r : S.Option ℕ) → Fills x o₁ n₁ o₂ (S.Some n₂) → Fills y o₂ n₂ o' r → Fills (in_turn c x y) o n o' r
  unfolding in_turn
  turn_fills none y o' r f g = absurd f
  turn_fills (some x) none o' S.None f g = tt
  turn_fills (some x) none o' (S.Some e) f g = g
  turn_fills (some x) (some y) o' S.None f g = g
  turn_fills (some x) (some y) o' (S.Some e) f g = wrote_then u (wrote_then f g)

turn_none : (c : Bytes) (x y : Option Bytes) (o o₁ o₂ o' : Bytes) (n n₁ : ℕ) → Fills x o₁ n₁ o₂ S.None → Fills (in_turn c x y) o n o' S.None
unfolding in_turn
turn_none c none y o o₁ o₂ o' n n₁ f = tt
turn_none c (some x) y o o₁ o₂ o' n n₁ f = absurd f

cons_not : {k : ℕ} {ks : Bytes} → [] ≡ k ∷ ks → ⊥
cons_not i = cc

-- ---- the loop

-- what is left, written from here on, makes the whole from the start
pub record Turning (found : ℕ → Type 0) (ts : Row) (body o : Bytes) (at : ℕ) (ks ss s out : Bytes) (n : ℕ) : Type 0 where
  pub left : FillingsFit found s
  pub one_more : check_strings (suc (length ks)) (read ss) ≡ Fine
  pub short : 4 + length s ≤ length body
  pub room : n + length ss + 65536 * length s ≤ at + 65536 * length body
  pub later : (o' : Bytes) (r : S.Option ℕ) → Fills (fill_gaps ts ks (strings_in (read ss)) (read_order s)) out n o' r → Fills (html_of_body ts body) o at o' r

-- a record with the number
module _ (ts : Row) (body : Bytes) {m : ℕ} (e : m ≡ number_of (take 4 body)) where
  pub record_none : template_of ts m ≡ none → html_of_body ts body ≡ none
  unfolding html_of_body
  record_none h = rw (← e, h, html_of_body)

  module _ {w : Bytes} (i : RecordIs ts m w) {k₀ ss : Bytes} (p : PartsAre w k₀ ss) where
    body_is : html_of_body ts body ≡ fill_gaps ts k₀ (strings_in (read ss)) (read_order (drop 4 body))
    unfolding html_of_body
    body_is = rw (← e, i.is, html_of_body) (sym (ap₂ (λ (x : Bytes) (y : List Bytes). fill_gaps ts x y (read_order (drop 4 body))) p.kinds_are p.strings_are))

    pub turns_begin : {found : ℕ → Type 0} → OrderFits found body → (o : Bytes) (at : ℕ) {ks s : Bytes} → ks ≡ k₀ → s ≡ take (length body - 4) (drop 4 body) → Turning found ts body o at ks ss s o at
    turns_begin {found} f o at {ks} {s} q g =
        let d : s ≡ drop 4 body = g ∙ take_all (length body - 4) (drop 4 body) (omega (arith, length-drop 4 body)) in
        let l : length s ≡ length body - 4 = ap length d ∙ length-drop 4 body in
        record {
          left = subst (FillingsFit found) (sym d) f.within;
          one_more = ap (λ (x : Bytes). check_strings (suc (length x)) (read ss)) q ∙ p.one_more;
          short = omega (arith, l, f.long_enough);
          room = omega (arith, l, f.long_enough, p.short, i.short);
          later = λ o' r h. fills_is o at o' r (body_is ∙ ap₂ (λ (x y : Bytes). fill_gaps ts x (strings_in (read ss)) (read_order y)) (sym q) (sym d)) h;
        }

module _ {found : ℕ → Type 0} {ts : Row} {body o : Bytes} {at : ℕ} {ks ss s out : Bytes} {n : ℕ} (p : Turning found ts body o at ks ss s out n) where
  -- a filling is left
  module _ {t : ℕ} {w s' : Bytes} (f : IsFront s t w s') where
    pub turn_fits : FillingFits found t w
    turn_fits = this_fits f p.left

    pub no_kind : length ks ≡ 0 → (o' : Bytes) → Fills (html_of_body ts body) o at o' S.None
    no_kind z o' = p.later o' S.None (fills_is out n o' S.None (on ks z) tt)
      where
        on : (x : Bytes) → length x ≡ 0 → fill_gaps ts x (strings_in (read ss)) (read_order s) ≡ none
        on [] e = no_gap ts (strings_in (read ss)) f
        on (x ∷ xs) e = absurd (omega arith)

    module _ {k : ℕ} {ks' : Bytes} (q : ks ≡ k ∷ ks') where
      counted : check_strings (suc (suc (length ks'))) (read ss) ≡ Fine
      counted = ap (λ (x : Bytes). check_strings (suc (length x)) (read ss)) (sym q) ∙ p.one_more

      pub no_string : {r : Bytes} → IsEnd ss r → ⊥
      no_string e = string_there (suc (length ks')) counted e

      module _ {u : ℕ} {c ss' : Bytes} (g : IsFront ss u c ss') where
        whole_is : fill_gaps ts ks (strings_in (read ss)) (read_order s) ≡ in_turn c (html_of_filling ts k t w) (fill_gaps ts ks' (strings_in (read ss')) (read_order s'))
        whole_is = ap₂ (λ (x : Bytes) (y : List Bytes). fill_gaps ts x y (read_order s)) q (string_front (suc (length ks')) counted g) ∙ gaps_on ts k ks' c (strings_in (read ss')) f

        module _ {o₁ : Bytes} {n₁ : ℕ} (v : Wrote out n c o₁ n₁) where
          pub turn_stops : (o₂ : Bytes) → Fills (html_of_filling ts k t w) o₁ n₁ o₂ S.None → Fills (html_of_body ts body) o at o₂ S.None
          turn_stops o₂ h = p.later o₂ S.None (fills_is out n o₂ S.None whole_is (turn_none c (html_of_filling ts k t w) (fill_gaps ts ks' (strings_in (read ss')) (read_order s')) out o₁ o₂ o₂ n n₁ h))

          pub turn_on : {o₂ : Bytes} {n₂ : ℕ} → Fills (html_of_filling ts k t w) o₁ n₁ o₂ (S.Some n₂) → n₂ ≤ n₁ + 65536 * length w → Turning found ts body o at ks' ss' s' o₂ n₂
          turn_on {o₂} {n₂} h l =
              record {
                left = rest_fits f p.left;
                one_more = strings_left (suc (length ks')) counted g;
                short = omega (arith, p.short, f.sizes);
                room = omega (arith, p.room, f.sizes, g.sizes, v.end_is, l);
                later = λ o' r i. p.later o' r (fills_is out n o' r whole_is (turn_fills v o₂ n₂ (html_of_filling ts k t w) (fill_gaps ts ks' (strings_in (read ss')) (read_order s')) o' r h i));
              }

  -- none is left
  module _ {r : Bytes} (e : IsEnd s r) where
    last_is : fill_gaps ts ks (strings_in (read ss)) (read_order s) ≡ last_string ks (strings_in (read ss))
    unfolding fill_gaps
    last_is = ap (fill_gaps ts ks (strings_in (read ss))) (row_end p.left e)

    pub kind_left : {k : ℕ} {ks' : Bytes} → ks ≡ k ∷ ks' → (o' : Bytes) → Fills (html_of_body ts body) o at o' S.None
    kind_left {k} {ks'} q o' = p.later o' S.None (fills_is out n o' S.None (last_is ∙ on ks q) tt)
      where
        on : (x : Bytes) → x ≡ k ∷ ks' → last_string x (strings_in (read ss)) ≡ none
        on [] i = absurd (cons_not i)
        on (y ∷ ys) i = unfold last_string in refl

    module _ (z : length ks ≡ 0) where
      one_left : check_strings 1 (read ss) ≡ Fine
      one_left = ap (λ (x : ℕ). check_strings (suc x) (read ss)) (sym z) ∙ p.one_more

      pub string_missing : {q : Bytes} → IsEnd ss q → ⊥
      string_missing i = string_there 0 one_left i

      pub turns_end : {u : ℕ} {c ss' : Bytes} → IsFront ss u c ss' → {o₁ : Bytes} {n₁ : ℕ} → Wrote out n c o₁ n₁ → Fills (html_of_body ts body) o at o₁ (S.Some n₁)
      turns_end {u} {c} {ss'} g {o₁} {n₁} v = p.later o₁ (S.Some n₁) (fills_is out n o₁ (S.Some n₁) (last_is ∙ ap (last_string ks) (string_last one_left g) ∙ on ks z) v)
        where
          on : (x : Bytes) → length x ≡ 0 → last_string x (c ∷ []) ≡ some c
          on [] e = unfold last_string in refl
          on (x ∷ xs) e = absurd (omega arith)
