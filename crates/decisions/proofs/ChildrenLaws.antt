-- What the code of src/children.rt learns. Main statements: `first_child`, `no_child`, `few_ended`, `few_one`, `few_more`, `text_front`,
-- `no_text`, `tag_counted`, `tag_passed`, `tag_other`, `no_tag`, `becomes_none`, `becomes_one`, `becomes_two`.
-- Assumes nothing.
use mathlib.Core.Path.{◌≡◌, refl, sym, ap, ◌∙◌, subst}
use mathlib.Core.Bool.{Bool, true, false, ◌||◌, ◌&&◌, not, true≢false}
use Prim.Native.Nat.{ℕ, ◌+◌, ◌-◌, ◌≤◌}
use native.Mathlib.Omega.{arith}
use native.Mathlib.Nat.{zero-add}
use mathlib.Core.List.{[], ◌∷◌}
use lib.Dec.{T, leb, eqb}
use lib.ListN.{length, drop}
use lib.Seq.{drop-drop, drop-append_seam}
use borrow.Author.Tests.{le-leb, eq-eqb, ne_eqb}
use Rattle.field.specs.Bytes.{Bytes, pick, null?}
use Rattle.field.specs.Row.{read, Ended}
use Rattle.field.specs.Front.{tag_of_front, body_of, behind_of}
use Rattle.field.specs.Fields.{IsFront}
use Rattle.field.specs.declared.reader.Field.{Field}
use Rattle.field.proofs.RowLaws.{read_nil, next_parts}
use Rattle.field.proofs.FrontLaws.{sizes, next_at}
use Rattle.text.specs.Text.{jsx_text_to_str}
use Rattle.page.specs.Check.{is_child}
use Rattle.page.specs.Page as P
use Rattle.page.specs.Tree.{Contained, nothing_contained, contained, contained_child, children_in}
use Rattle.spec.specs.Merge as M
use Rattle.spec.specs.Merge.{text_count, serializable_count, becomes_template}
use Rattle.spec.specs.Transform.{child, children}
use Rattle.decisions.specs.declared.children.Count.TheVariants.{Zero, One, More}
use Rattle.decisions.specs.At.{opts, serializable, is_none, few, some_text, becomes, FirstChild}
use Rattle.decisions.proofs.Series.{tested, children_none, children_60, children_52, children_30, children_31, children_61, children_other}
use Rattle.decisions.proofs.Laws.{child_element, child_fragment, element_serializable}

-- ---- the first child: t is what is left of the series s

module _ (s t : Bytes) (inv : children_in (read t) ≡ children_in (read s)) where
  module _ (n : ℕ) (e : n ≡ tag_of_front t) where
    pub first_child : is_child n ≡ true → (n ≡ 256 → ⊥) → FirstChild s t
    first_child i h =
        record {
          same_children = inv;
          none_left = λ z. absurd (omega (arith, sizes t n e h, z));
          child_first = λ z. subst T (sym (sym (ap is_child e) ∙ i)) tt;
        }

    -- a field that is no child
    pub passed_by : is_child n ≡ false → (n ≡ 256 → ⊥) → {r : Bytes} → r ≡ behind_of t → children_in (read r) ≡ children_in (read s)
    passed_by i h q =
        let other : (g : ℕ) → is_child g ≡ true → n ≡ g → ⊥ = λ g y k. true≢false (sym y ∙ (ap is_child (sym k) ∙ i)) in
        ap (λ (x : Bytes). children_in (read x)) q
        ∙ sym (children_other t n e h (other 0x60 refl) (other 0x52 refl) (other 0x30 refl) (other 0x31 refl) (other 0x61 refl)) ∙ inv

  pub no_child : Ended (read t) → FirstChild s []
  no_child i =
      record {
        same_children = ap children_in read_nil ∙ (children_none _ tt ∙ sym (children_none (read t) i) ∙ inv);
        none_left = λ z. sym inv ∙ children_none (read t) i;
        child_first = λ z. absurd (z refl);
      }

-- a child's tag is not the one that stands for none
pub child_tag : {n : ℕ} → is_child n ≡ true → n ≡ 256 → ⊥
child_tag i k = true≢false (sym i ∙ ap is_child k)

-- ---- where it stands

pub stands_all : (s : Bytes) → s ≡ drop (length s - length s) s
stands_all s = ap (λ (n : ℕ). drop n s) (let q : 0 ≡ length s - length s = omega arith in q)

-- what lies behind the field in front of t stands at the end of the whole, where t does
behind_drop : (t : Bytes) (u : ℕ) → u ≡ tag_of_front t → (u ≡ 256 → ⊥) → drop (3 + length (body_of t)) t ≡ behind_of t
behind_drop t u e h =
    let p = next_parts t u (body_of t) (behind_of t) (next_at t u e h) in
    ap (λ (k : ℕ). drop k t) (let f = u ∷ p.high ∷ p.low ∷ body_of t in let q : 3 + length (body_of t) ≡ length f = omega arith in q) ∙ ap (drop (length (u ∷ p.high ∷ p.low ∷ body_of t))) p.all_is ∙ drop-append_seam (u ∷ p.high ∷ p.low ∷ body_of t) (behind_of t)

pub stands_behind : (s t : Bytes) → length t ≤ length s → t ≡ drop (length s - length t) s → (u : ℕ) → u ≡ tag_of_front t → (u ≡ 256 → ⊥) → {r : Bytes} → r ≡ behind_of t →
    r ≡ drop (length s - length r) s
stands_behind s t l p u e h {r} q =
    let n = length s - length t in
    let k = 3 + length (body_of t) in
    q ∙ sym (behind_drop t u e h) ∙ ap (drop k) p ∙ drop-drop k n s ∙ ap (λ (j : ℕ). drop j s) (omega (arith, l, sizes t u e h, ap length q))

-- ---- none, one, or more

module _ (s : Bytes) (Q : P.Children → Type 0) where
  -- a child in front, whichever it is
  at_child : ((b : Bytes) → Q (P.text_child b (children_in (read (behind_of s))))) → ((c : Contained) → Q (contained_child c (children_in (read (behind_of s))))) →
      ((t : P.Tag) → Q (P.tag_child t (children_in (read (behind_of s))))) → ((x : P.Expr) → Q (P.spread_child x (children_in (read (behind_of s))))) → T (is_child (tag_of_front s)) → Q (children_in (read s))
  at_child f g h j i =
      let t = tag_of_front s in
      tested t 0x60 (λ k. subst Q (sym (children_60 s t refl k)) (f _)) λ a.
      tested t 0x52 (λ k. subst Q (sym (children_52 s t refl k)) (g _)) λ b.
      tested t 0x30 (λ k. subst Q (sym (children_30 s t refl k)) (h _)) λ c.
      tested t 0x31 (λ k. subst Q (sym (children_31 s t refl k)) (h _)) λ d.
      tested t 0x61 (λ k. subst Q (sym (children_61 s t refl k)) (j _)) λ e.
      absurd (subst T (let z : is_child t ≡ false = rw (ne_eqb t 0x60 a, ne_eqb t 0x52 b, ne_eqb t 0x30 c, ne_eqb t 0x31 d, ne_eqb t 0x61 e) in z) i)

few_contained : (c : Contained) (cs : P.Children) → few (contained_child c cs) ≡ pick (is_none cs) One More
unfolding few contained_child
few_contained nothing_contained cs = refl
few_contained (contained e) cs = refl

some_contained : (c : Contained) (cs : P.Children) → is_none (contained_child c cs) ≡ false
unfolding is_none contained_child
some_contained nothing_contained cs = refl
some_contained (contained e) cs = refl

few_here : (s : Bytes) → T (is_child (tag_of_front s)) → few (children_in (read s)) ≡ pick (is_none (children_in (read (behind_of s)))) One More
unfolding few
few_here s i =
    at_child s (λ (cs : P.Children). few cs ≡ pick (is_none (children_in (read (behind_of s)))) One More) (λ b. refl) (λ c. few_contained c _) (λ t. refl) (λ x. refl) i

some_here : (s : Bytes) → T (is_child (tag_of_front s)) → is_none (children_in (read s)) ≡ false
unfolding is_none
some_here s i = at_child s (λ (cs : P.Children). is_none cs ≡ false) (λ b. refl) (λ c. some_contained c _) (λ t. refl) (λ x. refl) i

-- a is the series from its first child on, and b what lies behind that child, from its first child on
module _ (s a : Bytes) (f : FirstChild s a) where
  pub few_ended : Ended (read a) → Zero ≡ few (children_in (read s))
  unfolding few
  few_ended e = sym (ap few (sym f.same_children ∙ children_none (read a) e))

  module _ (n : length a ≡ 0 → ⊥) {r : Bytes} (q : r ≡ behind_of a) (b : Bytes) (g : FirstChild r b) where
    few_by : few (children_in (read s)) ≡ pick (is_none (children_in (read r))) One More
    few_by = ap few (sym f.same_children) ∙ (few_here a (f.child_first n) ∙ ap (λ (x : Bytes). pick (is_none (children_in (read x))) One More) (sym q))

    pub few_one : length b ≡ 0 → One ≡ few (children_in (read s))
    unfolding is_none
    few_one h = sym (few_by ∙ ap (λ (cs : P.Children). pick (is_none cs) One More) (g.none_left h))

    pub few_more : (length b ≡ 0 → ⊥) → More ≡ few (children_in (read s))
    few_more h = sym (few_by ∙ ap (λ (x : Bool). pick x One More) (ap is_none (sym g.same_children) ∙ some_here b (g.child_first h)))

-- ---- whether the text rule leaves something of a text

contained_silent : (c : Contained) (cs : P.Children) → some_text (contained_child c cs) ≡ some_text cs
unfolding some_text contained_child
contained_silent nothing_contained cs = refl
contained_silent (contained e) cs = refl

-- no field is left
pub no_text : (s : Bytes) → Ended (read s) → false ≡ some_text (children_in (read s))
unfolding some_text
no_text s i = sym (ap some_text (children_none (read s) i))

-- a text of which something is left, or what lies behind
pub text_front : (s : Bytes) (f : Field) (r : Bytes) → IsFront s f.tag f.body.now r →
    some_text (children_in (read s)) ≡ ((eqb f.tag 0x60 && not (null? (jsx_text_to_str f.body.now false false))) || some_text (children_in (read r)))
unfolding some_text
text_front s f r k =
    let t = f.tag in
    let e = k.tag_is in
    tested t 0x60 (λ z. ap some_text (children_60 s t e z) ∙ rw (sym k.body_is, sym k.behind_is, eq-eqb t 0x60 z)) λ a.
    (tested t 0x52 (λ z. ap some_text (children_52 s t e z) ∙ contained_silent _ _) λ c.
    tested t 0x30 (λ z. ap some_text (children_30 s t e z)) λ b.
    tested t 0x31 (λ z. ap some_text (children_31 s t e z)) λ d.
    tested t 0x61 (λ z. ap some_text (children_61 s t e z)) λ g.
    ap some_text (children_other s t e (λ y. omega (arith, k.tag_below, y)) a c b d g)) ∙ rw (sym k.behind_is, ne_eqb t 0x60 a)

-- ---- how many serializable tags are left; the second list plays no part

abbrev pub tags_in : Bytes → P.Children → ℕ
tags_in k cs = serializable_count (children (opts k []) cs)

-- of those that were passed, at most one
abbrev pub passed : Bool → ℕ
passed tagged = pick tagged 1 0

contained_passed : (k : Bytes) (c : Contained) (cs : P.Children) → tags_in k (contained_child c cs) ≡ tags_in k cs
unfolding children serializable_count contained_child
contained_passed k nothing_contained cs = refl
contained_passed k (contained e) cs = refl

pub no_tag : (k s : Bytes) → Ended (read s) → tags_in k (children_in (read s)) ≡ 0
unfolding children serializable_count
no_tag k s i = ap (tags_in k) (children_none (read s) i)

module _ (k s : Bytes) (t : ℕ) (e : t ≡ tag_of_front s) {r : Bytes} (u : r ≡ behind_of s) where
  module _ {b : Bytes} (q : b ≡ body_of s) (h : t ≡ 0x30) {v : Bool} (g : v ≡ serializable k b) where
    tag_here : tags_in k (children_in (read s)) ≡ pick v 1 0 + tags_in k (children_in (read r))
    unfolding children serializable_count
    tag_here = rw (children_30 s t e h, child_element k [] (body_of s), element_serializable k [] (body_of s), g, q, u)

    pub tag_counted : v ≡ true → tags_in k (children_in (read s)) ≡ 1 + tags_in k (children_in (read r))
    tag_counted z = tag_here ∙ rw z

    pub tag_passed : v ≡ false → tags_in k (children_in (read s)) ≡ tags_in k (children_in (read r))
    tag_passed z = tag_here ∙ rw (z, zero-add (tags_in k (children_in (read r))))

  pub tag_other : (t ≡ 256 → ⊥) → (t ≡ 0x30 → ⊥) → tags_in k (children_in (read s)) ≡ tags_in k (children_in (read r))
  unfolding children child serializable_count
  tag_other h b =
      (tested t 0x60 (λ z. ap (tags_in k) (children_60 s t e z)) λ a.
      tested t 0x52 (λ z. ap (tags_in k) (children_52 s t e z) ∙ contained_passed k _ _) λ c.
      tested t 0x31 (λ z. ap (tags_in k) (children_31 s t e z) ∙ ap (λ (x : M.Child). serializable_count (x ∷ children (opts k []) (children_in (read (behind_of s))))) (child_fragment k [] (body_of s))) λ d.
      tested t 0x61 (λ z. ap (tags_in k) (children_61 s t e z)) λ f.
      ap (tags_in k) (children_other s t e h a c b d f)) ∙
      ap (λ (x : Bytes). tags_in k (children_in (read x))) (sym u)

-- ---- whether they become a template

some_more : (v : Bool) (n : ℕ) → leb 1 (pick v 0 1 + n) ≡ (not v || leb 1 n)
some_more true n = rw zero-add
some_more false n = le-leb 1 (1 + n) (omega arith)

texts_some : (k : Bytes) (cs : P.Children) → leb 1 (text_count (children (opts k []) cs)) ≡ some_text cs
unfolding some_text text_count children child
texts_some k P.no_children = refl
texts_some k (P.text_child b cs) =
    let v = null? (jsx_text_to_str b false false) in
    some_more v _ ∙ ap (λ (x : Bool). not v || x) (texts_some k cs)
texts_some k (P.empty_child cs) = texts_some k cs
texts_some k (P.container_child e cs) = texts_some k cs
texts_some k (P.tag_child (P.element n as' ds) cs) = texts_some k cs
texts_some k (P.tag_child (P.fragment ds) cs) = texts_some k cs
texts_some k (P.spread_child e cs) = texts_some k cs

module _ (k : Bytes) (cs : P.Children) where
  pub becomes_none : tags_in k cs ≡ 0 → false ≡ becomes k cs
  unfolding becomes becomes_template
  becomes_none h = rw h

  pub becomes_one : tags_in k cs ≡ 1 → some_text cs ≡ becomes k cs
  unfolding becomes becomes_template
  becomes_one h = rw h (sym (texts_some k cs))

  pub becomes_two : 2 ≤ tags_in k cs → true ≡ becomes k cs
  unfolding becomes becomes_template
  becomes_two h = rw (le-leb 2 (tags_in k cs) h)
