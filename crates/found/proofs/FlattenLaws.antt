-- The only entry taken out of its array: what `flattened` returns. Main statements: `flat_all`, `flat_77`, `flat_78`, `flat_other`,
-- `flat_many`, `flat_placed`, `flat_rest`. Assumes nothing.
use mathlib.Core.Path.{◌≡◌, refl, sym, ap, ◌∙◌, subst}
use Prim.Native.Nat.{ℕ, ◌+◌, ◌≤◌}
use native.Mathlib.Omega.{arith}
use mathlib.Core.List.{List, [], ◌∷◌}
use lib.ListN.{length, take}
use lib.Seq.{take_all}
use Rattle.field.specs.Bytes.{Bytes}
use Rattle.field.specs.Row.{read}
use Rattle.field.specs.Front.{tag_of_front}
use Rattle.field.specs.Fields.{IsFront}
use Rattle.page.specs.Tree.{expr_in}
use Rattle.spec.specs.Merge.{Entry, array_found}
use Rattle.spec.specs.Children as C
use Rattle.spec.specs.Children.{found_of, sole_mid, sole}
use Rattle.decisions.specs.At.{opts}
use Rattle.found.specs.Finds.{Within, part, placed, entries_at, expr_at, first_item, Runs, Enters, Finds, Known, Flattened}
use Rattle.found.specs.declared.Kind.{Kind}
use Rattle.found.specs.declared.Kind.TheVariants as K
use Rattle.found.specs.declared.Found.{Found}
use Rattle.found.proofs.Places.{Stands, stands_room, stands_part, stands_of, length_part, body_in}
use Rattle.found.proofs.KnownLaws.{known_none}
use Rattle.found.proofs.ItemLaws.{item_77, item_78, item_other, sole_of}

several : (es : List Entry) → 2 ≤ length es → C.flattened es ≡ array_found es
unfolding C.flattened
several [] h = absurd (omega arith)
several (e ∷ []) h = absurd (omega arith)
several (e ∷ e' ∷ es) h = refl

-- several entries of the children in s: all of s is their place
pub flat_all : (skip props s : Bytes) → 2 ≤ length (entries_at skip props s) → Finds skip props (C.flattened (entries_at skip props s)) (K.Many 0) (take (length s) s)
flat_all skip props s l =
    let es : List Entry = entries_at skip props s in
    let e : take (length s) s ≡ s = take_all (length s) s (omega arith) in
    subst (λ (b : Bytes). Finds skip props (C.flattened es) (K.Many 0) b) (sym e) (several es l, (l, known_none skip s))

-- where nothing is to be done
kept : (skip props : Bytes) (es : List Entry) (k : Kind) (b : Bytes) → ((n : ℕ) → k ≡ K.Many n → ⊥) → (k ≡ K.Item → ⊥) → Enters skip props (Runs skip props) es k b →
    Finds skip props (C.flattened es) k b
unfolding C.flattened sole sole_mid found_of
kept skip props es K.Nothing b h i x = absurd x
kept skip props es K.Empty b h i x = ap C.flattened x
kept skip props es (K.Many k) b h i x = absurd (h k refl)
kept skip props es K.Run b h i x = record { run = x.run; found_is = ap C.flattened x.alone; among_all = x.among_all }
kept skip props es K.Text b h i x = ap C.flattened x
kept skip props es K.Element b h i x = (ap C.flattened x.0, x.1)
kept skip props es K.Template b h i x = ap C.flattened x
kept skip props es K.Expr b h i x = ap C.flattened x ∙ sole_of (opts skip props) (expr_in (read b))
kept skip props es K.Item b h i x = absurd (i refl)
kept skip props es K.Hole b h i x = ap C.flattened x

module _ (s : Bytes) (f : Found) (w : Within f s) where
  pub flat_rest : ((n : ℕ) → f.kind ≡ K.Many n → ⊥) → (f.kind ≡ K.Item → ⊥) → Within f s × Flattened s f f
  flat_rest h i = (w, λ skip props x. kept skip props (entries_at skip props s) f.kind (part s f) h i x)

  pub flat_many : {n : ℕ} → f.kind ≡ K.Many n → {r : Found} → r ≡ placed (K.Many 0) 0 (length s) → Within r s × Flattened s f r
  flat_many h {r} q =
      subst (λ (r : Found). Within r s × Flattened s f r) (sym q) (
        omega arith,
        λ skip props x.
            flat_all skip props s (subst (λ (k : Kind). Enters skip props (Runs skip props) (entries_at skip props s) k (part s f)) h x).0,
      )

  -- one fragment alone gives them: its place stays
  pub flat_placed : {k : ℕ} → f.kind ≡ K.Many k → (f.len ≡ 0 → ⊥) → Within f s × Flattened s f f
  flat_placed {k} h n = (
    w,
    λ skip props x.
        let es : List Entry = entries_at skip props s in
        let b : Bytes = part s f in
        let m : (2 ≤ length es) × ((length b ≡ 0 → ⊥) → (es ≡ entries_at skip props b) × Known k skip b) = subst (λ (k : Kind). Enters skip props (Runs skip props) es k b) h x in
        let l : (es ≡ entries_at skip props b) × Known k skip b = m.1 (λ z. n (sym (length_part s f.from f.len w) ∙ z)) in
        subst (λ (k : Kind). Finds skip props (C.flattened es) k b) (sym h)
        (several es m.0 ∙ ap array_found l.0, (subst (λ (z : List Entry). 2 ≤ length z) l.0 m.0, l.1)),
  )

  module _ (h : f.kind ≡ K.Item) {t : Bytes} (q : t ≡ part s f) where
    item_alone : (skip props : Bytes) → Enters skip props (Runs skip props) (entries_at skip props s) f.kind (part s f) → C.flattened (entries_at skip props s) ≡ sole_mid (first_item skip props (read t))
    unfolding C.flattened sole
    item_alone skip props x =
        ap C.flattened (subst (λ (k : Kind). Enters skip props (Runs skip props) (entries_at skip props s) k (part s f)) h x)
        ∙ ap (λ (b : Bytes). sole_mid (first_item skip props (read b))) (sym q)

    stands_here : Stands s f.from t
    stands_here = subst (Stands s f.from) (sym q) (stands_of s f.from f.len w)

    pub flat_77 : {u : ℕ} {b r : Bytes} → IsFront t u b r → u ≡ 0x77 → {v : Found} → v ≡ placed K.Expr (f.from + 3) (length b) → Within v s × Flattened s f v
    unfolding sole_mid
    flat_77 {u} {b} g k d =
        let st : Stands s (f.from + 3) b = body_in s f.from t stands_here g in
        subst (λ (v : Found). Within v s × Flattened s f v) (sym d) (
          stands_room s (f.from + 3) b st,
          λ skip props x.
              item_alone skip props x
              ∙ (ap sole_mid (item_77 skip props t u g.tag_is k g.body_is) ∙ ap (λ (y : Bytes). found_of (expr_at skip props y)) (sym (stands_part s (f.from + 3) b st))),
        )

    pub flat_78 : {u : ℕ} → u ≡ tag_of_front t → u ≡ 0x78 → Within (placed K.Hole f.from f.len) s × Flattened s f (placed K.Hole f.from f.len)
    unfolding sole_mid
    flat_78 {u} e k = (w, λ skip props x. item_alone skip props x ∙ ap sole_mid (item_78 skip props t u e k))

    pub flat_other : {u : ℕ} → u ≡ tag_of_front t → (u ≡ 0x77 → ⊥) → (u ≡ 0x78 → ⊥) → Within (placed K.Expr f.from f.len) s × Flattened s f (placed K.Expr f.from f.len)
    flat_other {u} e a b = (
      w,
      λ skip props x.
          item_alone skip props x
          ∙ (ap sole_mid (item_other skip props t u e a b) ∙ (sole_of (opts skip props) (expr_in (read t)) ∙ ap (λ (y : Bytes). found_of (expr_at skip props y)) q)),
    )
