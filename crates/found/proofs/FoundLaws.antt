-- What children give, by how many they are: what `found_of` returns. Main statements: `found_none`, `found_60`, `found_52`, `found_empty`,
-- `found_30`, `found_31`, `found_known`, `found_61`, `found_template`, `found_many`; `given_several`, `found_again`. Assumes nothing.
use mathlib.Core.Path.{◌≡◌, refl, sym, ap, ◌∙◌, subst}
use mathlib.Core.Bool.{Bool, true, false}
use Prim.Native.Nat.{ℕ, ◌+◌, ◌-◌, ◌≤◌, ◌<◌}
use native.Mathlib.Omega.{arith}
use mathlib.Core.List.{List, [], ◌∷◌, ◌++◌, append-nil}
use lib.Dec.{T}
use lib.ListN.{length, take, drop}
use lib.Seq.{take_all}
use borrow.Author.Tests.{ne_eqb}
use Rattle.field.specs.Bytes.{Bytes, pick}
use Rattle.field.specs.Row.{read, Ended}
use Rattle.field.specs.Front.{tag_of_front, body_of, behind_of}
use Rattle.field.specs.Fields.{IsFront}
use Rattle.field.proofs.RowLaws.{read_nil}
use Rattle.page.specs.Check.{is_child}
use Rattle.page.specs.Page as P
use Rattle.page.specs.Tree.{choose, Contained, nothing_contained, contained, contained_child, element_in, fragment_in, children_in, contained_in, expr_in}
use Rattle.spec.specs.Merge as M
use Rattle.spec.specs.Merge.{Entry, Child, merge, flush, becomes_template, nothing_found, array_found}
use Rattle.spec.specs.Children.{found_of, flattened, spliced, entries, one_child, many_children, children_to_expr}
use Rattle.spec.specs.Transform.{children, fragment_of}
use Rattle.decisions.specs.declared.children.Count.{Count}
use Rattle.decisions.specs.declared.children.Count.TheVariants.{One, More}
use Rattle.decisions.specs.At.{opts, few, is_none, becomes, FirstChild}
use Rattle.decisions.proofs.Series.{tested, children_none, children_60, children_52, children_30, children_31, children_61, contained_none, contained_field}
use Rattle.decisions.proofs.Laws.{child_element, child_fragment, becomes_is}
use Rattle.found.proofs.ItemLaws.{how_many}
use Rattle.found.specs.Finds.{Within, part, placed, kids, entries_at, found_at, expr_at, text_entry, element_entry, template_entry, Finds, Flattened, Narrowed, Several, is_most, KnownOf, Known, known_around}
use Rattle.found.specs.declared.Kind.{Kind}
use Rattle.found.specs.declared.Kind.TheVariants as K
use Rattle.found.specs.declared.Found.{Found}
use Rattle.found.proofs.Places.{Stands, Tail, tail_all, stands_room, stands_part, stands_body, tail_of, body_in}
use Rattle.found.proofs.KnownLaws.{reached_all, known_more, known_less, known_front}
use Rattle.found.proofs.MergeLaws.{run_entries, left_31, left_end}
use Rattle.found.proofs.EnterLaws.{moved}
use Rattle.found.proofs.WalkLaws.{Entered}

-- what `found_of` answers
abbrev pub Given : Bytes → Bytes → Found → Type 0
Given skip s r = Within r s × ((props : Bytes) → Finds skip props (found_at skip props s) r.kind (part s r))

-- several, where their place is all of the bytes
given_many : (skip b : Bytes) (y : Found) → Given skip b y → {n : ℕ} → y.kind ≡ K.Many n → (props : Bytes) → Finds skip props (found_at skip props b) (K.Many n) (part b y)
given_many skip b y g h props = subst (λ (k : Kind). Finds skip props (found_at skip props b) k (part b y)) h (g.1 props)

pub given_several : (skip b : Bytes) (y : Found) → Given skip b y → {n : ℕ} → y.kind ≡ K.Many n → y.len ≡ length b → Several skip b × Known n skip b
given_several skip b y g {n} h e =
    let from : y.from ≡ 0 = omega (arith, g.0, e) in
    let all : part b y ≡ b = ap (λ (m : ℕ). take y.len (drop m b)) from ∙ take_all y.len b (omega (arith, e)) in
    (λ props. let m = subst (Finds skip props (found_at skip props b) (K.Many n)) all (given_many skip b y g h props) in (m.0, m.1.0), subst (Known n skip) all (given_many skip b y g h []).1.1)

-- they are added to the entries around them
pub several_added : (skip b : Bytes) (y : Found) → Given skip b y → {n : ℕ} → y.kind ≡ K.Many n → (props : Bytes) →
    (spliced (found_at skip props b) ≡ entries_at skip props (part b y)) × (2 ≤ length (entries_at skip props (part b y)))
unfolding spliced
several_added skip b y g h props = let m = given_many skip b y g h props in (ap spliced m.0, m.1.0)

-- what is known need not be looked for
pub found_again : (skip b : Bytes) (n k : ℕ) → 0 < k → KnownOf k skip n b → is_most n (length b) ≡ true → (r : Found) → Within r b × Narrowed (k - 1) b r → Given skip b r
found_again skip b n k l h m r q = let d = known_less skip b n k l h m in (q.0, λ props. q.1 skip props (found_at skip props b) ((d.0 props).0, ((d.0 props).1, d.1)))

-- ---- down a chain of fragments

-- t is left of s, and has all that is known of s
pub record Inner (s : Bytes) (n : ℕ) (t : Bytes) (k : ℕ) : Type 0 where
  pub tail : Tail s t
  pub same_found : (skip props : Bytes) (x : M.Found) → Finds skip props x (K.Many n) s → Finds skip props x (K.Many k) t

pub inner_all : (s : Bytes) (n : ℕ) → Inner s n s n
inner_all s n = record { tail = tail_all s; same_found = λ skip props x h. h }

no_entries : (skip props r : Bytes) → length r ≡ 0 → entries_at skip props r ≡ []
unfolding run_entries
no_entries skip props [] h = left_end skip props [] [] (subst Ended (sym read_nil) tt)
no_entries skip props (c ∷ r) h = absurd (omega (arith, h))

-- a fragment that is all there is in t, and more than half of it
pub inner_step : {s : Bytes} {n : ℕ} {t : Bytes} {k : ℕ} → Inner s n t k → {u : ℕ} {b r : Bytes} → IsFront t u b r → u ≡ 0x31 → length r ≡ 0 → 0 < k → is_most (length t) (length b) ≡ true →
    Inner s n b (k - 1)
unfolding run_entries spliced
inner_step {s} {n} {t} {k} i {u} {b} {r} f g e l m = record {
  tail =
      subst (λ (m : ℕ). Stands s m b) (let z : (length s - length t) + 3 ≡ length s - length b = omega (arith, stands_room s (length s - length t) t i.tail, f.sizes, e) in z)
      (stands_body s t i.tail f);
  same_found = λ skip props x h.
      let j = i.same_found skip props x h in
      let d = known_less skip b (length t) k l (known_front f k skip (length t) j.1.1 g) m in
      let all : entries_at skip props t ≡ entries_at skip props b =
      left_31 skip props t f [] g
      ∙ (ap (λ (es : List Entry). spliced (found_at skip props b) ++ es) (no_entries skip props r e)
      ∙ (append-nil (spliced (found_at skip props b)) ∙ ap spliced (d.0 props).0)) in
      (j.0 ∙ ap array_found all, ((d.0 props).1, d.1));
}

-- ---- none, one, or more

abbrev one_or_more : P.Children → Count
one_or_more cs = pick (is_none cs) One More

-- none is behind the only one
lone : (cs : P.Children) → one_or_more cs ≡ One → cs ≡ P.no_children
unfolding is_none
lone P.no_children h = refl
lone (P.text_child b cs) h = absurd (omega (arith, ap how_many h))
lone (P.empty_child cs) h = absurd (omega (arith, ap how_many h))
lone (P.container_child e cs) h = absurd (omega (arith, ap how_many h))
lone (P.tag_child t cs) h = absurd (omega (arith, ap how_many h))
lone (P.spread_child e cs) h = absurd (omega (arith, ap how_many h))

-- a child in front of others
several : (o : P.Options) (c : Child) (cs : P.Children) → one_or_more cs ≡ More → children_to_expr (c ∷ children o cs) ≡ many_children (c ∷ children o cs)
unfolding is_none children children_to_expr
several o c P.no_children h = absurd (omega (arith, ap how_many h))
several o c (P.text_child b cs) h = refl
several o c (P.empty_child cs) h = refl
several o c (P.container_child e cs) h = refl
several o c (P.tag_child t cs) h = refl
several o c (P.spread_child e cs) h = refl

more_few : (o : P.Options) (cs : P.Children) → few cs ≡ More → children_to_expr (children o cs) ≡ many_children (children o cs)
unfolding few children
more_few o P.no_children h = absurd (omega (arith, ap how_many h))
more_few o (P.text_child b cs) h = several o (M.text b) cs h
more_few o (P.empty_child cs) h = several o M.empty cs h
more_few o (P.container_child e cs) h = several o _ cs h
more_few o (P.tag_child t cs) h = several o _ cs h
more_few o (P.spread_child e cs) h = several o _ cs h

few_held : (c : Contained) (cs : P.Children) → few (contained_child c cs) ≡ one_or_more cs
unfolding few contained_child
few_held nothing_contained cs = refl
few_held (contained e) cs = refl

-- no place
nowhere_given : (skip s : Bytes) → ((props : Bytes) → found_at skip props s ≡ nothing_found) → {r : Found} → r ≡ placed K.Nothing 0 0 → Given skip s r
nowhere_given skip s h {r} e = subst (Given skip s) (sym e) (omega arith, h)

-- no child: nothing stands from the first one on
pub found_none : (skip s a : Bytes) → FirstChild s a → Ended (read a) → {r : Found} → r ≡ placed K.Nothing 0 0 → Given skip s r
unfolding children children_to_expr
found_none skip s a f e q =
    nowhere_given skip s (λ props. ap (λ (cs : P.Children). children_to_expr (children (opts skip props) cs)) (sym f.same_children ∙ children_none (read a) e)) q

-- the only child of s: a is the bytes from there on, and a field of tag u and body b stands in front of it
pub record Only (s a : Bytes) (u : ℕ) (b : Bytes) : Type 0 where
  pub rest : Bytes
  pub one : One ≡ few (children_in (read s))
  pub first : FirstChild s a
  pub place : a ≡ drop (length s - length a) s
  pub front : IsFront a u b rest

module _ (skip s : Bytes) where
  module _ {a : Bytes} {u : ℕ} {b : Bytes} (o : Only s a u b) where
    abbrev at : ℕ
    at = length s - length a

    stands_at : Stands s at a
    stands_at = tail_of s a o.place

    same : children_in (read s) ≡ children_in (read a)
    same = sym o.first.same_children

    -- nothing lies behind it
    only : (cs : P.Children → P.Children) → children_in (read a) ≡ cs (children_in (read (behind_of a))) → few (cs (children_in (read (behind_of a)))) ≡ one_or_more (children_in (read (behind_of a))) →
        children_in (read s) ≡ cs P.no_children
    only cs p k = same ∙ (p ∙ ap cs (lone (children_in (read (behind_of a))) (sym k ∙ (sym (ap few (same ∙ p)) ∙ sym o.one))))

    alone : (props : Bytes) (cs : P.Children) → children_in (read s) ≡ cs → found_at skip props s ≡ children_to_expr (children (opts skip props) cs)
    alone props cs p = ap (λ (x : P.Children). children_to_expr (children (opts skip props) x)) p

    pub found_60 : u ≡ 0x60 → {r : Found} → r ≡ placed K.Text at (length a) → Given skip s r
    unfolding few children children_to_expr one_child
    found_60 k d = subst (Given skip s) (sym d) (
      stands_room s at a stands_at,
      λ props.
          alone props (P.text_child (body_of a) P.no_children) (only (P.text_child (body_of a)) (children_60 a u o.front.tag_is k) refl)
          ∙ ap (λ (x : Bytes). M.one_found (text_entry skip props x)) (sym (stands_part s at a stands_at)),
    )

    pub found_30 : u ≡ 0x30 → {r : Found} → r ≡ placed K.Element at (length a) → Given skip s r
    unfolding few children children_to_expr one_child
    found_30 k d = subst (Given skip s) (sym d) (
      stands_room s at a stands_at,
      λ props. (
        alone props (P.tag_child (element_in (read (body_of a))) P.no_children) (only (P.tag_child (element_in (read (body_of a)))) (children_30 a u o.front.tag_is k) refl)
            ∙ (ap one_child (child_element skip props (body_of a))
            ∙ ap (λ (x : Bytes). M.one_found (element_entry skip props x)) (sym (stands_part s at a stands_at))),
        ap tag_of_front (stands_part s at a stands_at) ∙ sym o.front.tag_is ∙ k,
      ),
    )

    -- a spread is dropped
    pub found_61 : (u ≡ 0x60 → ⊥) → (u ≡ 0x52 → ⊥) → (u ≡ 0x30 → ⊥) → (u ≡ 0x31 → ⊥) → {r : Found} → r ≡ placed K.Nothing 0 0 → Given skip s r
    unfolding few children children_to_expr one_child
    found_61 i j k l w =
        nowhere_given skip s (λ props.
        tested u 0x61
        (λ z. alone props (P.spread_child (expr_in (read (body_of a))) P.no_children) (only (P.spread_child (expr_in (read (body_of a)))) (children_61 a u o.front.tag_is z) refl))
        (λ m.
        let y : is_child u ≡ false = rw (ne_eqb u 0x60 i, ne_eqb u 0x52 j, ne_eqb u 0x30 k, ne_eqb u 0x31 l, ne_eqb u 0x61 m) in
        absurd (subst T (ap is_child (sym o.front.tag_is) ∙ y) (o.first.child_first (λ z. omega (arith, z, o.front.sizes)))))) w

    pub stands_inside : Stands s (at + 3) b
    stands_inside = body_in s at a stands_at o.front

    module _ (k : u ≡ 0x52) where
      holds : (props : Bytes) (d : Contained) → contained_in (read b) ≡ d → found_at skip props s ≡ children_to_expr (children (opts skip props) (contained_child d P.no_children))
      holds props d g =
          alone props (contained_child d P.no_children)
          (only (contained_child (contained_in (read (body_of a)))) (children_52 a u o.front.tag_is k) (few_held (contained_in (read (body_of a))) (children_in (read (behind_of a))))
          ∙ ap (λ (x : Contained). contained_child x P.no_children) (ap (λ (y : Bytes). contained_in (read y)) (sym o.front.body_is) ∙ g))

      pub found_empty : Ended (read b) → {r : Found} → r ≡ placed K.Nothing 0 0 → Given skip s r
      unfolding contained_child children children_to_expr one_child
      found_empty i w = nowhere_given skip s (λ props. holds props nothing_contained (contained_none (read b) i)) w

      pub found_52 : (tag_of_front b ≡ 256 → ⊥) → {r : Found} → r ≡ placed K.Expr (at + 3) (length b) → Given skip s r
      unfolding contained_child children children_to_expr one_child
      found_52 g d =
          let st : Stands s (at + 3) b = stands_inside in
          subst (Given skip s) (sym d) (
            stands_room s (at + 3) b st,
            λ props.
                holds props (contained (expr_in (read b))) (contained_field b (tag_of_front b) refl g) ∙ ap (λ (x : Bytes). found_of (expr_at skip props x)) (sym (stands_part s (at + 3) b st)),
          )

    -- a fragment gives what its own children give
    same_found : u ≡ 0x31 → (props : Bytes) → found_at skip props s ≡ found_at skip props b
    unfolding few children children_to_expr one_child fragment_of
    same_found k props =
        alone props (P.tag_child (fragment_in (read (body_of a))) P.no_children) (only (P.tag_child (fragment_in (read (body_of a)))) (children_31 a u o.front.tag_is k) refl)
        ∙ (ap one_child (child_fragment skip props (body_of a)) ∙ ap (found_at skip props) (sym o.front.body_is))

    pub found_31 : u ≡ 0x31 → (y : Found) → Given skip b y → {r : Found} → r ≡ placed y.kind (at + 3 + y.from) y.len → Given skip s r
    found_31 k y g {r} w =
        let st : Stands s (at + 3) b = stands_inside in
        let m = moved s (at + 3) b st y g.0 (λ (d : Kind) (x : Bytes). (props : Bytes) → Finds skip props (found_at skip props b) d x) g.1 w in (
          m.0,
          λ props. subst (λ (x : M.Found). Finds skip props x r.kind (part s r)) (sym (same_found k props)) (m.1 props),
        )

    -- with its own children's entries, where they are several
    module _ (k : u ≡ 0x31) where
      none_behind : children_in (read (behind_of a)) ≡ P.no_children
      unfolding few
      none_behind = lone (children_in (read (behind_of a))) (sym (ap few (same ∙ children_31 a u o.front.tag_is k)) ∙ sym o.one)

      entries_31 : (props : Bytes) → entries_at skip props a ≡ spliced (found_at skip props b)
      unfolding run_entries children merge flush entries
      entries_31 props =
          left_31 skip props a o.front [] k
          ∙ (ap (λ (x : Bytes). spliced (found_at skip props b) ++ entries_at skip props x) o.front.behind_is
          ∙ (ap (λ (cs : P.Children). spliced (found_at skip props b) ++ entries (merge false false [] (children (opts skip props) cs))) none_behind
          ∙ append-nil (spliced (found_at skip props b))))

      pub found_known : (y : Found) → Given skip b y → {n : ℕ} → y.kind ≡ K.Many n → {m : ℕ} → m ≡ known_around (length a) (length b) y.len n →
          {r : Found} → r ≡ placed (K.Many m) at (length a) → Given skip s r
      found_known y g {n} h {m} e w =
          subst (Given skip s) (sym w) (
            stands_room s at a stands_at,
            λ props.
                let l = given_many skip b y g h props in
                let d = several_added skip b y g h props in
                let all : entries_at skip props a ≡ entries_at skip props (part b y) = entries_31 props ∙ d.0 in
                subst (Finds skip props (found_at skip props s) (K.Many m)) (sym (stands_part s at a stands_at)) (
                  same_found k props ∙ l.0 ∙ ap array_found (sym all),
                  (subst (λ (es : List Entry). 2 ≤ length es) (sym all) d.1, known_more skip a (reached_all a) o.front k y.len n (given_several skip b y g h) e),
                ),
          )

  -- several
  module _ (h : More ≡ few (children_in (read s))) {t : Bool} (b : t ≡ becomes skip (children_in (read s))) where
    many : (props : Bytes) {x : Bool} → t ≡ x → (found_at skip props s ≡ many_children (kids skip props s)) × (becomes_template (kids skip props s) ≡ x)
    many props {x} z =
        (more_few (opts skip props) (children_in (read s)) (sym h), becomes_is skip props (children_in (read s)) ∙ (sym b ∙ z))

    pub found_template : t ≡ true → {r : Found} → r ≡ placed K.Template 0 (length s) → Given skip s r
    unfolding many_children choose
    found_template z {r} q =
        subst (Given skip s) (sym q) (
          omega arith,
          λ props.
              let m = many props z in
              m.0 ∙ (rw (many_children, m.1) (ap (λ (x : Bytes). M.one_found (template_entry skip props x)) (sym (take_all (length s) s (omega arith))))),
        )

    -- no template
    flat_found : t ≡ false → (props : Bytes) → found_at skip props s ≡ flattened (entries_at skip props s)
    unfolding many_children choose
    flat_found z props = let m = many props z in m.0 ∙ rw (many_children, m.1)

    pub found_many : t ≡ false → (y : Found) → Entered skip s y → (r : Found) → Within r s × Flattened s y r → Given skip s r
    found_many z y g r q =
        (q.0, λ props. subst (λ (x : M.Found). Finds skip props x r.kind (part s r)) (sym (flat_found z props)) (q.1 skip props (g.1 props)))
