-- The items before the first 10 or 12 by the bytes before it: a row cut behind some of its fields reads as those. t is what is left of the items
-- in s, n how many bytes were passed. Main statements: `next_cut`, `passing_begins`, `passing_on`, `splits`, `splits_all`. Assumes nothing.
use mathlib.Core.Path.{◌≡◌, refl, sym, ap, ap₂, ◌∙◌, subst}
use mathlib.Core.Bool.{Bool, true, false}
use mathlib.Core.Logic.{◌⊎◌, inl, inr}
use mathlib.Core.List.{[], ◌∷◌, ◌++◌, append_assoc}
use Prim.Native.Nat.{ℕ, suc, ◌+◌, ◌*◌}
use native.Mathlib.Omega.{arith}
use native.Mathlib.Nat.{zero-add}
use lib.Dec.{T, eqb, leb, le→leb}
use lib.ListN.{length, take, drop, length-append, length-drop}
use lib.Seq.{take_at, drop_at, length-take-le}
use Rattle.std.proofs.lemmas.List.{drop-drop}
use borrow.Author.Tests.{ne_eqb}
use Rattle.field.specs.Bytes.{Bytes, pick}
use Rattle.field.specs.Row.{read, Ended, next, no_field, next_of}
use Rattle.field.specs.Front.{tag_of_front, body_of, behind_of, tag_by, body_by, behind_by}
use Rattle.field.specs.Fields.{IsFront}
use Rattle.field.proofs.RowLaws.{next_parts, read_nil}
use Rattle.field.proofs.FrontLaws.{next_at}
use Rattle.page.specs.Page as P
use Rattle.page.specs.Page.{Page}
use Rattle.page.specs.Tree.{pieces_in, module_items_in}
use Rattle.decisions.proofs.Series.{tested}
use Rattle.transform.specs.Run.{page_has_statement, items_before, items_from, Splits}
use Rattle.transform.proofs.ExportLaws.{items_none, items_10, items_11, items_12, items_other}

-- ---- a field in front stays one, however the bytes behind it are cut

take_past : (w r : Bytes) (k : ℕ) → take (length w + k) (w ++ r) ≡ w ++ take k r
take_past [] r k = ap (λ (n : ℕ). take n r) (zero-add k)
take_past (x ∷ w) r k =
    let e : length (x ∷ w) + k ≡ suc (length w + k) = omega arith in
    ap (λ (n : ℕ). take n (x ∷ (w ++ r))) e ∙ ap (λ (y : Bytes). x ∷ y) (take_past w r k)

front_of : (t h l : ℕ) (w r : Bytes) → h * 256 + l ≡ length w → next_of (t ∷ h ∷ l ∷ (w ++ r)) ≡ next t w r
unfolding next_of
front_of t h l w r e =
    subst (λ (n : ℕ). pick (leb n (length (w ++ r))) (next t (take n (w ++ r)) (drop n (w ++ r))) no_field ≡ next t w r) (sym e)
    (on (leb (length w) (length (w ++ r))) (le→leb (length w) (length (w ++ r)) (omega (arith, length-append w r))))
  where
    on : (c : Bool) → T c → pick c (next t (take (length w) (w ++ r)) (drop (length w) (w ++ r))) no_field ≡ next t w r
    on true u = ap₂ (λ (x y : Bytes). next t x y) (take_at w r (length w) refl) (drop_at w r (length w) refl)
    on false u = absurd u

pub next_cut : (s : Bytes) (t : ℕ) (w r : Bytes) → next_of s ≡ next t w r → (k : ℕ) → next_of (take (3 + length w + k) s) ≡ next t w (take k r)
next_cut s t w r e k =
    let p = next_parts s t w r e in
    let n : 3 + length w + k ≡ suc (suc (suc (length w + k))) = omega arith in
    ap next_of (ap₂ (λ (m : ℕ) (x : Bytes). take m x) n p.all_is ∙ ap (λ (x : Bytes). t ∷ p.high ∷ p.low ∷ x) (take_past w r k))
    ∙ front_of t p.high p.low w (take k r) p.length_is

-- ---- an item that is no statement

abbrev item_of : ℕ → Bytes → P.ModuleItem
item_of t b = pick (eqb t 0x11) (P.declaration_item (pieces_in (read b))) P.empty_item

module _ (t : ℕ) (h : t ≡ 256 → ⊥) (a : t ≡ 0x10 → ⊥) (c : t ≡ 0x12 → ⊥) where
  items_past : (s : Bytes) → t ≡ tag_of_front s → module_items_in (read s) ≡ item_of t (body_of s) ∷ module_items_in (read (behind_of s))
  items_past s e = tested t 0x11 (λ k. items_11 s t e k ∙ rw k) λ n. items_other s t e h a n c ∙ rw (ne_eqb t 0x11 n)

  -- cut behind it and k bytes more
  module _ (s : Bytes) (e : t ≡ tag_of_front s) (k : ℕ) where
    front : next_of (take (3 + length (body_of s) + k) s) ≡ next t (body_of s) (take k (behind_of s))
    front = next_cut s t (body_of s) (behind_of s) (next_at s t e h) k

    items_cut : module_items_in (read (take (3 + length (body_of s) + k) s)) ≡ item_of t (body_of s) ∷ module_items_in (read (take k (behind_of s)))
    unfolding tag_of_front body_of behind_of
    items_cut =
        items_past (take (3 + length (body_of s) + k) s) (sym (ap tag_by front))
        ∙ ap₂ (λ (b r : Bytes). item_of t b ∷ module_items_in (read r)) (ap body_by front) (ap behind_by front)

  module _ (b : Bytes) (is : Page) where
    before_past : items_before (item_of t b ∷ is) ≡ item_of t b ∷ items_before is
    unfolding items_before
    before_past = on (eqb t 0x11)
      where
        on : (x : Bool) → items_before (pick x (P.declaration_item (pieces_in (read b))) P.empty_item ∷ is) ≡ pick x (P.declaration_item (pieces_in (read b))) P.empty_item ∷ items_before is
        on true = refl
        on false = refl

    from_past : items_from (item_of t b ∷ is) ≡ items_from is
    unfolding items_from
    from_past = on (eqb t 0x11)
      where
        on : (x : Bool) → items_from (pick x (P.declaration_item (pieces_in (read b))) P.empty_item ∷ is) ≡ items_from is
        on true = refl
        on false = refl

    statement_past : page_has_statement (item_of t b ∷ is) ≡ page_has_statement is
    unfolding page_has_statement
    statement_past = on (eqb t 0x11)
      where
        on : (x : Bool) → page_has_statement (pick x (P.declaration_item (pieces_in (read b))) P.empty_item ∷ is) ≡ page_has_statement is
        on true = refl
        on false = refl

-- ---- the loop: t is left of s behind n bytes, which hold no statement

pub record Passing (s t : Bytes) (n : ℕ) : Type 0 where
  pub sizes : n + length t ≡ length s
  pub rest_is : t ≡ drop n s
  pub stands : page_has_statement (module_items_in (read s)) ≡ page_has_statement (module_items_in (read t))
  pub from : items_from (module_items_in (read s)) ≡ items_from (module_items_in (read t))
  pub passed : Page
  pub before : items_before (module_items_in (read s)) ≡ passed ++ items_before (module_items_in (read t))
  pub cut : (k : ℕ) → module_items_in (read (take (n + k) s)) ≡ passed ++ module_items_in (read (take k t))

behind_drop : (s : Bytes) (t : ℕ) (w r : Bytes) → next_of s ≡ next t w r → drop (3 + length w) s ≡ r
behind_drop s t w r e =
    let p = next_parts s t w r e in
    let n : 3 + length w ≡ suc (suc (suc (length w))) = omega arith in
    ap₂ (λ (m : ℕ) (x : Bytes). drop m x) n p.all_is ∙ drop_at w r (length w) refl

module _ {s t : Bytes} {n : ℕ} (p : Passing s t n) where
  module _ {u : ℕ} {b r : Bytes} (f : IsFront t u b r) where
    pub passing_on : (u ≡ 0x10 → ⊥) → (u ≡ 0x12 → ⊥) → Passing s r (n + (3 + length b))
    passing_on a c =
        let h : u ≡ 256 → ⊥ = λ z. omega (arith, f.tag_below, z) in
        let i = item_of u (body_of t) in
        let l : length b ≡ length (body_of t) = ap length f.body_is in
        let e = items_past u h a c t f.tag_is in
        record {
          sizes = omega (arith, p.sizes, f.sizes);
          rest_is =
              f.behind_is ∙ sym (behind_drop t u (body_of t) (behind_of t) (next_at t u f.tag_is h))
              ∙ ap₂ (λ (m : ℕ) (x : Bytes). drop (3 + m) x) (sym l) p.rest_is ∙ drop-drop (3 + length b) n s;
          stands = p.stands ∙ ap page_has_statement e ∙ statement_past u h a c (body_of t) _ ∙ ap (λ (x : Bytes). page_has_statement (module_items_in (read x))) (sym f.behind_is);
          from = p.from ∙ ap items_from e ∙ from_past u h a c (body_of t) _ ∙ ap (λ (x : Bytes). items_from (module_items_in (read x))) (sym f.behind_is);
          passed = p.passed ++ (i ∷ []);
          before =
              p.before
              ∙ ap (λ (x : Page). p.passed ++ x) (ap items_before e ∙ before_past u h a c (body_of t) _)
              ∙ sym (append_assoc p.passed (i ∷ []) _)
              ∙ ap (λ (x : Bytes). (p.passed ++ (i ∷ [])) ++ items_before (module_items_in (read x))) (sym f.behind_is);
          cut = λ k.
              let m : n + (3 + length b) + k ≡ n + (3 + length (body_of t) + k) = omega (arith, l) in
              ap (λ (x : ℕ). module_items_in (read (take x s))) m
              ∙ p.cut (3 + length (body_of t) + k)
              ∙ ap (λ (x : Page). p.passed ++ x) (items_cut u h a c t f.tag_is k)
              ∙ sym (append_assoc p.passed (i ∷ []) _)
              ∙ ap (λ (x : Bytes). (p.passed ++ (i ∷ [])) ++ module_items_in (read (take k x))) (sym f.behind_is);
        }

  -- a statement stands in front: s is cut there into a and b
  module _ {a b : Bytes} (q : a ≡ take n s) (v : b ≡ drop n s) where
    splits_by : (i : P.ModuleItem) (is : Page) → module_items_in (read t) ≡ i ∷ is → page_has_statement (i ∷ is) ≡ true → items_before (i ∷ is) ≡ [] → items_from (i ∷ is) ≡ i ∷ is → Splits s a b
    splits_by i is e h x y =
        let z : n + 0 ≡ n = omega arith in
        let is = module_items_in (read s) in
        let one : page_has_statement is ≡ true = p.stands ∙ ap page_has_statement e ∙ h in
        record {
          sizes = omega (arith, ap length q, ap length v, length-take-le n s (omega (arith, p.sizes)), length-drop n s, p.sizes);
          before =
              ap (λ (x : Bytes). module_items_in (read x)) q
              ∙ ap (λ (x : ℕ). module_items_in (read (take x s))) (sym z) ∙ p.cut 0 ∙ ap (λ (x : Page). p.passed ++ x) (items_none [] (subst Ended (sym read_nil) tt))
              ∙ ap (λ (x : Page). p.passed ++ x) (sym (ap items_before e ∙ x)) ∙ sym p.before
              ∙ sym (ap (λ (b : Bool). pick b (items_before is) []) one);
          from =
              ap (λ (x : Bytes). module_items_in (read x)) (v ∙ sym p.rest_is) ∙ e ∙ sym (p.from ∙ ap items_from e ∙ y)
              ∙ sym (ap (λ (b : Bool). pick b (items_from is) is) one);
        }

    pub splits : {u : ℕ} → u ≡ tag_of_front t → (u ≡ 0x10) ⊎ (u ≡ 0x12) → Splits s a b
    unfolding page_has_statement items_before items_from
    splits {u} f (inl h) = splits_by _ _ (items_10 t u f h) refl refl refl
    splits {u} f (inr h) = splits_by _ _ (items_12 t u f h) refl refl refl

  -- none stands: all of s is the second part
  pub splits_all : Ended (read t) → Splits s [] s
  unfolding page_has_statement
  splits_all i =
      let is = module_items_in (read s) in
      let none : page_has_statement is ≡ false = p.stands ∙ ap page_has_statement (items_none t i) in
      record {
        sizes = zero-add (length s);
        before = items_none [] (subst Ended (sym read_nil) tt) ∙ sym (ap (λ (b : Bool). pick b (items_before is) []) none);
        from = sym (ap (λ (b : Bool). pick b (items_from is) is) none);
      }
