-- What a fragment adds to the entries of its parent: what `spliced` returns. Main statements: `splice_nothing`, `splice_none`, `splice_one`,
-- `splice_more`, `splice_plain`, `splice_rest`. Assumes nothing.
use mathlib.Core.Path.{◌≡◌, refl, sym, ap, ◌∙◌, subst}
use Prim.Native.Nat.{ℕ, ◌+◌, ◌≤◌}
use native.Mathlib.Omega.{arith}
use mathlib.Core.List.{List, [], ◌∷◌}
use lib.ListN.{length}
use Rattle.field.specs.Bytes.{Bytes}
use Rattle.field.specs.Row.{read}
use Rattle.field.specs.Front.{tag_of_front}
use Rattle.field.specs.Fields.{IsFront}
use Rattle.spec.specs.Merge as M
use Rattle.spec.specs.Merge.{Entry, still}
use Rattle.spec.specs.Children as C
use Rattle.spec.specs.Children.{found_of, stills}
use Rattle.decisions.specs.declared.children.Count.TheVariants.{Zero, One, More}
use Rattle.found.specs.Finds.{Within, part, placed, expr_at, first_item, item_count, Runs, Enters, Finds, Spliced}
use Rattle.found.specs.declared.Kind.{Kind}
use Rattle.found.specs.declared.Kind.TheVariants as K
use Rattle.found.specs.declared.Found.{Found}
use Rattle.found.proofs.Places.{Stands, stands_room, stands_part, stands_of, body_in}
use Rattle.found.proofs.ItemLaws.{listed, stills_none, stills_one, stills_more, plain_expr, array_expr}

-- where nothing is to be done
kept : (skip props : Bytes) (x : M.Found) (k : Kind) (b : Bytes) → (k ≡ K.Nothing → ⊥) → (k ≡ K.Expr → ⊥) → Finds skip props x k b →
    Enters skip props (Runs skip props) (C.spliced x) k b
unfolding C.spliced
kept skip props x K.Nothing b h i z = absurd (h refl)
kept skip props x K.Empty b h i z = ap C.spliced z
kept skip props x (K.Many k) b h i z = (subst (λ (y : M.Found). 2 ≤ length (C.spliced y)) (sym z.0) z.1.0, λ n. (ap C.spliced z.0, z.1.1))
kept skip props x K.Run b h i z = record { run = z.run; alone = ap C.spliced z.found_is; among_all = z.among_all }
kept skip props x K.Text b h i z = ap C.spliced z
kept skip props x K.Element b h i z = (ap C.spliced z.0, z.1)
kept skip props x K.Template b h i z = ap C.spliced z
kept skip props x K.Expr b h i z = absurd (i refl)
kept skip props x K.Item b h i z = absurd z
kept skip props x K.Hole b h i z = ap C.spliced z

module _ (s : Bytes) (f : Found) (w : Within f s) where
  pub splice_rest : (f.kind ≡ K.Nothing → ⊥) → (f.kind ≡ K.Expr → ⊥) → Within f s × Spliced s f f
  splice_rest h i = (w, λ skip props x z. kept skip props x f.kind (part s f) h i z)

  pub splice_nothing : f.kind ≡ K.Nothing → {r : Found} → r ≡ placed K.Empty 0 0 → Within r s × Spliced s f r
  unfolding C.spliced
  splice_nothing h {r} q =
      subst (λ (r : Found). Within r s × Spliced s f r) (sym q)
      (omega arith, λ skip props x z. ap C.spliced (subst (λ (k : Kind). Finds skip props x k (part s f)) h z))

  module _ (h : f.kind ≡ K.Expr) {t : Bytes} (q : t ≡ part s f) where
    spliced_here : (skip props : Bytes) (x : M.Found) → Finds skip props x f.kind (part s f) → C.spliced x ≡ C.spliced (found_of (expr_at skip props t))
    spliced_here skip props x z =
        ap C.spliced (subst (λ (k : Kind). Finds skip props x k (part s f)) h z ∙ ap (λ (b : Bytes). found_of (expr_at skip props b)) (sym q))

    -- no array
    pub splice_plain : {u : ℕ} → u ≡ tag_of_front t → (u ≡ 0x76 → ⊥) → Within f s × Spliced s f f
    unfolding C.spliced
    splice_plain {u} e n = (
      w,
      λ skip props x z.
          subst (λ (k : Kind). Enters skip props (Runs skip props) (C.spliced x) k (part s f)) (sym h)
          (spliced_here skip props x z ∙ (ap C.spliced (plain_expr skip props t u e n) ∙ ap (λ (b : Bytes). still (expr_at skip props b) ∷ []) q)),
    )

    module _ {u : ℕ} {b r : Bytes} (g : IsFront t u b r) (k : u ≡ 0x76) where
      spliced_array : (skip props : Bytes) (x : M.Found) → Finds skip props x f.kind (part s f) → C.spliced x ≡ stills (listed skip props (read b))
      unfolding C.spliced
      spliced_array skip props x z = spliced_here skip props x z ∙ ap C.spliced (array_expr skip props t u g.tag_is k g.body_is)

      pub splice_none : Zero ≡ item_count (read b) → {r : Found} → r ≡ placed K.Empty 0 0 → Within r s × Spliced s f r
      splice_none o {r} d =
          subst (λ (r : Found). Within r s × Spliced s f r) (sym d)
          (omega arith, λ skip props x z. spliced_array skip props x z ∙ stills_none skip props (read b) (sym o))

      pub splice_one : One ≡ item_count (read b) → {r : Found} → r ≡ placed K.Item (f.from + 3) (length b) → Within r s × Spliced s f r
      splice_one o d =
          let a : Stands s f.from t = subst (Stands s f.from) (sym q) (stands_of s f.from f.len w) in
          let st : Stands s (f.from + 3) b = body_in s f.from t a g in
          subst (λ (r : Found). Within r s × Spliced s f r) (sym d) (
            stands_room s (f.from + 3) b st,
            λ skip props x z.
                spliced_array skip props x z
                ∙ (stills_one skip props (read b) (sym o) ∙ ap (λ (y : Bytes). still (first_item skip props (read y)) ∷ []) (sym (stands_part s (f.from + 3) b st))),
          )

      pub splice_more : More ≡ item_count (read b) → {r : Found} → r ≡ placed (K.Many 0) 0 0 → Within r s × Spliced s f r
      splice_more o {r} d =
          subst (λ (r : Found). Within r s × Spliced s f r) (sym d) (
            omega arith,
            λ skip props x z. (
              subst (λ (es : List Entry). 2 ≤ length es) (sym (spliced_array skip props x z)) (stills_more skip props (read b) (sym o)),
              λ m. absurd (m refl),
            ),
          )
