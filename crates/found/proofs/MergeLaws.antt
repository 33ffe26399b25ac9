-- The entries of merged children, by the tag of the field in front: `buf` is the run so far. Main statements: `left_60`, `left_joined`,
-- `left_more`, `left_apart`, `left_30`, `left_31`, `left_other`, `left_end`. Assumes nothing.
use mathlib.Core.Path.{◌≡◌, refl, sym, ap, ap₂, ◌∙◌}
use mathlib.Core.Bool.{true, false, false≢true}
use mathlib.Core.Logic.{◌⊎◌, ⊎_elim, inl, inr}
use mathlib.Core.Option.{Option, none, some}
use Prim.Native.Nat.{ℕ}
use native.Mathlib.Omega.{arith}
use mathlib.Core.List.{List, [], ◌∷◌, ◌++◌, append-nil}
use Rattle.field.specs.Bytes.{Bytes, null?}
use Rattle.field.specs.Row.{Row, end, loose, field, read, Ended}
use Rattle.field.specs.Front.{body_of, behind_of}
use Rattle.field.specs.Fields.{IsFront}
use Rattle.text.specs.Text.{jsx_text_to_str}
use Rattle.page.specs.Page as P
use Rattle.page.specs.Tree.{Contained, nothing_contained, contained, contained_child, children_in, contained_in, expr_in}
use Rattle.spec.specs.Pass.{Mid}
use Rattle.spec.specs.Output.{string_node}
use Rattle.spec.specs.Merge as M
use Rattle.spec.specs.Merge.{Entry, still, Child, Shape, container, flush, merge, joined_text}
use Rattle.spec.specs.Children as C
use Rattle.spec.specs.Children.{entries}
use Rattle.spec.specs.Transform.{shape_of, children, fragment_of}
use Rattle.decisions.specs.At.{opts, element_at}
use Rattle.decisions.proofs.Series.{tested, children_none, children_60, children_52, children_30, children_31, children_61, children_other}
use Rattle.decisions.proofs.Laws.{child_element, child_fragment}
use Rattle.found.specs.Finds.{kids, found_at, expr_at, element_entry, joined_of, joined_by_text}
use Rattle.found.specs.declared.Joined.{Joined}
use Rattle.found.specs.declared.Joined.TheVariants as J

-- ---- a run, and what it is cut off by

unfoldable pub run_entries : Bytes → List Entry
run_entries [] = []
run_entries (c ∷ buf) = still (string_node (c ∷ buf)) ∷ []

flushed : (buf : Bytes) (cs : List Child) → entries (flush buf cs) ≡ run_entries buf ++ entries cs
unfolding flush entries run_entries
flushed [] cs = refl
flushed (c ∷ buf) cs = refl

-- ---- what a container joins, by the answer

joins_nothing : (x : Option Bytes) → J.Nothing ≡ joined_by_text x → x ≡ some []
unfolding joined_by_text
joins_nothing none h = absurd (let z : ◌≡◌ {A = ℕ} 0 1 = cc in omega arith)
joins_nothing (some []) h = refl
joins_nothing (some (c ∷ b)) h = absurd (let z : ◌≡◌ {A = ℕ} 0 1 = cc in omega arith)

-- a text that is not empty
record Some (x : Option Bytes) : Type 0 where
  text : Bytes
  is_it : x ≡ some text
  not_null : null? text ≡ false

joins_something : (x : Option Bytes) → J.Something ≡ joined_by_text x → Some x
unfolding joined_by_text
joins_something none h = absurd (let z : ◌≡◌ {A = ℕ} 0 1 = cc in omega arith)
joins_something (some []) h = absurd (let z : ◌≡◌ {A = ℕ} 0 1 = cc in omega arith)
joins_something (some (c ∷ b)) h = record { text = c ∷ b; is_it = refl; not_null = refl }

joins_apart : (x : Option Bytes) → J.Apart ≡ joined_by_text x → x ≡ none
unfolding joined_by_text
joins_apart none h = refl
joins_apart (some []) h = absurd (let z : ◌≡◌ {A = ℕ} 0 1 = cc in omega arith)
joins_apart (some (c ∷ b)) h = absurd (let z : ◌≡◌ {A = ℕ} 0 1 = cc in omega arith)

module _ (buf : Bytes) (s : Shape) (m : Mid) (cs : List Child) where
  merge_some : (b : Bytes) → joined_text s ≡ some b → merge false false buf (container s m ∷ cs) ≡ merge false false (buf ++ b) cs
  unfolding merge
  merge_some b h = rw (merge, h)

  merge_none : joined_text s ≡ none → merge false false buf (container s m ∷ cs) ≡ flush buf (container s m ∷ merge false false [] cs)
  unfolding merge
  merge_none h = rw (merge, h)

-- what a container holds
held : (r : Row) → (contained_in r ≡ nothing_contained) ⊎ (contained_in r ≡ contained (expr_in r))
unfolding contained_in expr_in
held end = inl refl
held (loose b) = inl refl
held (field t f i r) = inr refl

-- ---- what is left of children

module _ (skip props : Bytes) where
  abbrev pub left_entries : Bytes → Bytes → List Entry
  left_entries buf t = entries (merge false false buf (kids skip props t))

  -- the run grows by a text
  pub record Grows (buf t r : Bytes) : Type 0 where
    pub more : Bytes
    pub not_null : null? more ≡ false
    pub grown : left_entries buf t ≡ left_entries (buf ++ more) r

  module _ (t : Bytes) {u : ℕ} {b r : Bytes} (f : IsFront t u b r) (buf : Bytes) where
    abbrev over : P.Children → List Entry
    over cs = entries (merge false false buf (children (opts skip props) cs))

    -- a text
    module _ (k : u ≡ 0x60) where
      left_60 : left_entries buf t ≡ left_entries (buf ++ jsx_text_to_str b false false) r
      unfolding merge children
      left_60 = ap over (children_60 t u f.tag_is k) ∙ rw (f.body_is, f.behind_is)

      pub left_blank : null? (jsx_text_to_str b false false) ≡ true → left_entries buf t ≡ left_entries buf r
      left_blank h = left_60 ∙ ap (λ (x : Bytes). left_entries x r) (on (jsx_text_to_str b false false) h)
        where
          on : (x : Bytes) → null? x ≡ true → buf ++ x ≡ buf
          on [] z = append-nil buf
          on (c ∷ x) z = absurd (false≢true z)

      pub left_text : null? (jsx_text_to_str b false false) ≡ false → Grows buf t r
      left_text h = record { more = jsx_text_to_str b false false; not_null = h; grown = left_60 }

    -- a container
    module _ (k : u ≡ 0x52) where
      holds : (c : Contained) → contained_in (read b) ≡ c → left_entries buf t ≡ over (contained_child c (children_in (read r)))
      holds c h =
          ap over (children_52 t u f.tag_is k)
          ∙ ap₂ (λ (c : Contained) (x : Bytes). over (contained_child c (children_in (read x)))) (ap (λ (x : Bytes). contained_in (read x)) (sym f.body_is) ∙ h) (sym f.behind_is)

      -- an expression
      over_held : contained_in (read b) ≡ contained (expr_in (read b)) → left_entries buf t ≡ entries (merge false false buf (container (shape_of (expr_in (read b))) (expr_at skip props b) ∷ kids skip props r))
      unfolding contained_child children
      over_held h = holds (contained (expr_in (read b))) h

      asked : {j : Joined} → j ≡ joined_of (contained_in (read b)) → contained_in (read b) ≡ contained (expr_in (read b)) → j ≡ joined_by_text (joined_text (shape_of (expr_in (read b))))
      unfolding joined_of
      asked g h = g ∙ ap joined_of h

      pub left_joined : J.Nothing ≡ joined_of (contained_in (read b)) → left_entries buf t ≡ left_entries buf r
      unfolding contained_child children merge
      left_joined g =
          ⊎_elim (λ h. holds nothing_contained h)
          (λ h. over_held h
          ∙ (ap entries (merge_some buf (shape_of (expr_in (read b))) (expr_at skip props b) (kids skip props r) [] (joins_nothing (joined_text (shape_of (expr_in (read b)))) (asked g h)))
          ∙ ap (λ (x : Bytes). left_entries x r) (append-nil buf)))
          (held (read b))

      pub left_more : J.Something ≡ joined_of (contained_in (read b)) → Grows buf t r
      unfolding joined_of
      left_more g =
          ⊎_elim (λ h. absurd (let y : J.Something ≡ J.Nothing = g ∙ ap joined_of h in let z : ◌≡◌ {A = ℕ} 0 1 = cc in omega arith))
          (λ h.
          let x = joins_something (joined_text (shape_of (expr_in (read b)))) (asked g h) in
          record {
            more = x.text;
            not_null = x.not_null;
            grown = over_held h ∙ ap entries (merge_some buf (shape_of (expr_in (read b))) (expr_at skip props b) (kids skip props r) x.text x.is_it);
          })
          (held (read b))

      pub left_apart : J.Apart ≡ joined_of (contained_in (read b)) → left_entries buf t ≡ run_entries buf ++ (still (expr_at skip props b) ∷ left_entries [] r)
      unfolding joined_of entries
      left_apart g =
          ⊎_elim (λ h. absurd (let y : J.Apart ≡ J.Nothing = g ∙ ap joined_of h in let z : ◌≡◌ {A = ℕ} 0 1 = cc in omega arith))
          (λ h.
          over_held h
          ∙ (ap entries (merge_none buf (shape_of (expr_in (read b))) (expr_at skip props b) (kids skip props r) (joins_apart (joined_text (shape_of (expr_in (read b)))) (asked g h)))
          ∙ flushed buf (container (shape_of (expr_in (read b))) (expr_at skip props b) ∷ merge false false [] (kids skip props r))))
          (held (read b))

    -- an element
    pub left_30 : u ≡ 0x30 → left_entries buf t ≡ run_entries buf ++ (element_entry skip props t ∷ left_entries [] r)
    unfolding children merge entries
    left_30 k =
        ap over (children_30 t u f.tag_is k)
        ∙ (ap (λ (c : Child). entries (merge false false buf (c ∷ kids skip props (behind_of t)))) (child_element skip props (body_of t))
        ∙ (flushed buf (M.element (element_at skip props (body_of t)) ∷ merge false false [] (kids skip props (behind_of t)))
        ∙ ap (λ (x : Bytes). run_entries buf ++ (element_entry skip props t ∷ left_entries [] x)) (sym f.behind_is)))

    -- a fragment
    pub left_31 : u ≡ 0x31 → left_entries buf t ≡ run_entries buf ++ (C.spliced (found_at skip props b) ++ left_entries [] r)
    unfolding children merge entries fragment_of
    left_31 k =
        ap over (children_31 t u f.tag_is k)
        ∙ (ap (λ (c : Child). entries (merge false false buf (c ∷ kids skip props (behind_of t)))) (child_fragment skip props (body_of t))
        ∙ (flushed buf (M.fragment (fragment_of (kids skip props (body_of t))) ∷ merge false false [] (kids skip props (behind_of t)))
        ∙ rw (f.body_is, f.behind_is)))

    -- a spread, and what is no child
    pub left_other : (u ≡ 0x60 → ⊥) → (u ≡ 0x52 → ⊥) → (u ≡ 0x30 → ⊥) → (u ≡ 0x31 → ⊥) → left_entries buf t ≡ left_entries buf r
    unfolding children merge
    left_other g h i j =
        tested u 0x61 (λ k. ap over (children_61 t u f.tag_is k)) (λ k. ap over (children_other t u f.tag_is (λ z. omega (arith, f.tag_below)) g h i j k)) ∙ ap (left_entries buf) (sym f.behind_is)

  -- none
  pub left_end : (t buf : Bytes) → Ended (read t) → left_entries buf t ≡ run_entries buf
  unfolding children merge entries run_entries
  left_end t buf i =
      ap (λ (cs : P.Children). entries (merge false false buf (children (opts skip props) cs))) (children_none (read t) i) ∙ (flushed buf [] ∙ append-nil (run_entries buf))
