-- Children: text, braces and tags among them. Main statements: `child_empty`, `child_pointed`, `text_some`. Assumes nothing.
use Prim.Native.Nat.{ℕ, suc, ◌+◌, ◌*◌, ◌≤◌, ◌<◌}
use mathlib.Core.Path.{◌≡◌, refl, sym, ◌∙◌, ap, ap₂}
use mathlib.Core.Bool.{Bool, true, ◌&&◌}
use mathlib.Core.List.{◌∷◌}
use mathlib.Core.Logic.{◌⊎◌, inl, inr}
use native.Mathlib.Omega.{arith}
use borrow.Author.Tests.{ne_eqb}
use lib.Dec.{leb}
use lib.ListN.{length, get_or}
use Rattle.std.specs.Prelude.{Option, Some, None}
use Rattle.field.specs.Bytes.{Bytes}
use Rattle.field.specs.Number.{big_endian}
use Rattle.field.specs.Row.{field_bytes}
use Rattle.field.specs.Put.{head, Wrote}
use Rattle.field.proofs.PutLaws.{length_head, length_field_bytes}
use Rattle.page.specs.Page as P
use Rattle.page.specs.Encode.{tag_row, children_row}
use Rattle.grammar.specs.Signs.{choose, space, text_byte}
use Rattle.grammar.specs.Syntax as S
use Rattle.grammar.specs.Syntax.{Name, Attributes, Children, every_tag}
use Rattle.grammar.specs.Reader.{child_braces, spread_child_braces, within, Stack, opened, braces_opened, one_point, in_children, emptied, pointed, step, step_children, at_end, refused}
use Rattle.grammar.proofs.Complete.{skip_braces}
use Rattle.tag_tree.specs.PageTag.{page_tag, page_child}
use Rattle.tag_tree.specs.TagAnswer.{shallow}
use Rattle.read_tag.specs.Progress.{child_bytes}
use Rattle.read_tag.specs.Flags.{depth_of}
use Rattle.read_tag.specs.Texts.{TextRead, TextEnds}
use Rattle.read_tag.specs.declared.texts.Run.{Run}
use Rattle.read_tag.proofs.FlagLaws.{and_true}
use Rattle.read_tag.proofs.ProgressLaws as L
use Rattle.tag_pass.specs.declared.state.Braced.TheVariants as B
use Rattle.tag_pass.specs.declared.state.Holder.TheVariants as H
use Rattle.tag_pass.specs.declared.state.Mode.TheVariants as M
use Rattle.tag_pass.specs.Signs.{SignAt, Blank}
use Rattle.tag_pass.specs.Worlds.{World, more, children_world, before_world, frame_world, world_of, Made}
use Rattle.tag_pass.specs.States.{braces_kind, kind_of, braces_name, frame_name, PlainBraces, PlainFrame, BracesFifty, Fifty}
use Rattle.tag_pass.specs.Turns.{at_mode, at_more, BracesTurn, PointTurn, ChildBracesTurn, ChildrenTurn}
use Rattle.tag_pass.specs.declared.state.Reading.{Reading}
use Rattle.tag_pass.proofs.Machine.{reads, spaces, steps, stuck, out_of}
use Rattle.tag_pass.proofs.WorldLaws.{child_more}
use Rattle.tag_pass.proofs.Standing.{made_as, made_wrote, made_is, move, refuses, later, to_children, to_inner}

-- ---- braces

pub child_out : {s out out' : Bytes} {st : Reading} {i : ℕ} → Blank s i → ChildBracesTurn s st i out None out'
unfolding at_end
child_out {s} {i = i} at n ps ks K plain o h stands = refuses stands (skip_braces (child_braces n ps ks) K (spaces at.ran) ∙ out_of (braces_opened (child_braces n ps ks) K) s at.j at.out refl)

empty_bytes : head 0x52 0 ≡ child_bytes S.empty_child
unfolding field_bytes big_endian
empty_bytes = sym L.empty_child_bytes

empty_shallow : (d : ℕ) → leb (suc d) 48 ≡ shallow (suc d) (children_row (page_child S.empty_child P.no_children))
unfolding page_tag tag_row shallow
empty_shallow d = sym (and_true (leb (suc d) 48))

empty_more : (W : World) (d : ℕ) (n : Name) (ps : Attributes) (ks : Children) → more (children_world W d n ps ks) (head 0x52 0) true true (leb (suc d) 48) ≡ children_world W d n ps (S.add_child ks S.empty_child)
unfolding every_tag
empty_more W d n ps ks =
    ap₂ (λ (b : Bytes) (z : Bool). more (children_world W d n ps ks) b true true z) empty_bytes (empty_shallow d) ∙ child_more W d n ps ks S.empty_child

pub child_empty : {s out out₁ : Bytes} {st w r : Reading} {i j a x : ℕ} {c : ℕ} → st.at ≤ 16 * i → SignAt s i j c → c ≡ 125 → Wrote out st.at (head 0x52 0) out₁ a → x ≡ st.depth + 1 → w ≡ at_more st a true (leb x 48) → r ≡ at_mode w M.InChildren (j + 1) → ChildBracesTurn s st i out (Some r) out₁
unfolding step choose space emptied
child_empty {s} {out} {out₁} {st} {w} {r} {i} {j} {a} {x} grown at sign wr xs ws rs n ps ks K plain o h stands =
    let d : ℕ = depth_of K in
    let dx : x ≡ suc d = xs ∙ ap (λ (z : ℕ). z + 1) stands.depth_is ∙ omega arith in
    let m₁ : Made o (more (children_world (world_of K) d n ps ks) (head 0x52 0) true true (leb (suc d) 48)) out₁ a st.names (st.numbers && true) (st.shallow && leb (suc d) 48) = made_wrote (head 0x52 0) true (leb (suc d) 48) stands.made wr.end_is (λ z. wr.out_is) in
    let m₂ : Made o (children_world (world_of K) d n ps (S.add_child ks S.empty_child)) out₁ a st.names (st.numbers && true) (st.shallow && leb x 48) = made_is (empty_more (world_of K) d n ps ks) (made_as m₁ refl refl (ap (λ (z : ℕ). st.shallow && leb z 48) dx)) in
    to_children {st = at_more st a true (leb x 48)}
    (record {
      reads = stands.reads ∙ (skip_braces (child_braces n ps ks) K (spaces at.ran) ∙ steps (braces_opened (child_braces n ps ks) K) (in_children n ps (S.add_child ks S.empty_child) K) s j at.inside (ap (step (braces_opened (child_braces n ps ks) K)) (reads at sign)));
      inside = omega arith;
      grown = omega (arith, at.ran.after, wr.end_is, length_head 0x52 0);
      head_is = stands.head_is;
      name_is = stands.name_is;
      depth_is = stands.depth_is;
      height_is = stands.height_is;
      made = m₂;
    })
    plain (omega (arith, at.ran.after)) (rs ∙ ap (λ (z : Reading). at_mode z M.InChildren (j + 1)) ws)

pub child_pointed : {s out out' : Bytes} {st : Reading} {r : Option Reading} {i j : ℕ} {c : ℕ} → SignAt s i j c → c ≡ 46 → PointTurn s st B.SpreadChild (j + 1) out r out' → ChildBracesTurn s st i out r out'
unfolding step choose space pointed braces_kind PlainBraces BracesFifty before_world braces_name
child_pointed {s} {i = i} {j} at sign turn n ps ks K plain o h stands =
    later (omega (arith, at.ran.after))
    (turn (spread_child_braces n ps ks) K refl plain tt o h
    (move stands
    (skip_braces (child_braces n ps ks) K (spaces at.ran) ∙ steps (braces_opened (child_braces n ps ks) K) (one_point (spread_child_braces n ps ks) K) s j at.inside (ap (step (braces_opened (child_braces n ps ks) K)) (reads at sign))) (omega (arith, at.ran.after)) (omega arith)))

pub child_filled : {s out out' : Bytes} {st : Reading} {r : Option Reading} {i j c : ℕ} → SignAt s i j c → BracesTurn s st B.Child j out r out' → ChildBracesTurn s st i out r out'
unfolding braces_kind PlainBraces BracesFifty before_world braces_name
child_filled at turn n ps ks K plain o h stands =
    later at.ran.after (turn (child_braces n ps ks) K refl plain tt o h (move stands (skip_braces (child_braces n ps ks) K (spaces at.ran)) at.ran.after at.ran.inside))

-- ---- text

pub text_none : {s out out₁ : Bytes} {st : Reading} {i : ℕ} → TextRead s i out st.at out₁ None → ChildrenTurn s st i out None out₁
unfolding TextRead
text_none unread n ps ks K plain o h stands = refuses stands (unread.1 n ps ks K)

text_shallow : (d : ℕ) (w : Bytes) → leb (suc d) 48 ≡ shallow (suc d) (children_row (page_child (S.text_child w) P.no_children))
unfolding page_tag tag_row shallow
text_shallow d w = sym (and_true (leb (suc d) 48))

text_more : (W : World) (d : ℕ) (n : Name) (ps : Attributes) (ks : Children) (w : Bytes) → more (children_world W d n ps ks) (field_bytes 0x60 w) true true (leb (suc d) 48) ≡ children_world W d n ps (S.add_child ks (S.text_child w))
unfolding every_tag
text_more W d n ps ks w =
    ap₂ (λ (b : Bytes) (z : Bool). more (children_world W d n ps ks) b true true z) (sym (L.text_child_bytes w)) (text_shallow d w) ∙ child_more W d n ps ks (S.text_child w)

pub text_some : {s out out₁ : Bytes} {st w r : Reading} {i x : ℕ} {run : Run} → st.at ≤ 16 * i → TextRead s i out st.at out₁ (Some run) → x ≡ st.depth + 1 → w ≡ at_more st run.at true (leb x 48) → r ≡ at_mode w M.InChildren run.end → ChildrenTurn s st i out (Some r) out₁
unfolding TextRead
text_some {s} {out} {out₁} {st} {w} {r} {i} {x} {run} grown t xs ws rs n ps ks K plain o h stands =
    let a : ℕ = run.at in
    let u : TextEnds s i run.end out st.at out₁ a = t in
    let d : ℕ = depth_of K in
    let v : Bytes = u.text in
    let dx : x ≡ suc d = xs ∙ ap (λ (z : ℕ). z + 1) stands.depth_is ∙ omega arith in
    let m₁ : Made o (more (children_world (world_of K) d n ps ks) (field_bytes 0x60 v) true true (leb (suc d) 48)) out₁ a st.names (st.numbers && true) (st.shallow && leb (suc d) 48) = made_wrote (field_bytes 0x60 v) true (leb (suc d) 48) stands.made u.wrote.end_is (λ z. u.wrote.out_is) in
    let m₂ : Made o (children_world (world_of K) d n ps (S.add_child ks (S.text_child v))) out₁ a st.names (st.numbers && true) (st.shallow && leb x 48) = made_is (text_more (world_of K) d n ps ks v) (made_as m₁ refl refl (ap (λ (z : ℕ). st.shallow && leb z 48) dx)) in
    to_children {st = at_more st a true (leb x 48)}
    (record {
      reads = stands.reads ∙ u.leads n ps ks K;
      inside = u.inside;
      grown = omega (arith, u.after, u.short, u.wrote.end_is, length_field_bytes 0x60 v);
      head_is = stands.head_is;
      name_is = stands.name_is;
      depth_is = stands.depth_is;
      height_is = stands.height_is;
      made = m₂;
    })
    plain u.after (rs ∙ ap (λ (z : Reading). at_mode z M.InChildren run.end) ws)

-- ---- any child

pub children_out : {s out out' : Bytes} {st : Reading} {i : ℕ} → length s ≤ i → ChildrenTurn s st i out None out'
unfolding at_end
children_out {s} {i = i} hi n ps ks K plain o h stands = refuses stands (out_of (in_children n ps ks K) s i hi refl)

pub children_tag : {s out : Bytes} {st r : Reading} {i : ℕ} → i < length s → get_or s i 0 ≡ 60 → r ≡ at_mode st (M.Inner H.Children) (i + 1) → ChildrenTurn s st i out (Some r) out
unfolding step step_children choose text_byte world_of frame_world frame_name kind_of PlainFrame Fifty
children_tag {s} {i = i} lo sign rs n ps ks K plain o h stands =
    to_inner {f = within n ps ks} (move stands (steps (in_children n ps ks K) (opened (within n ps ks ∷ K)) s i lo (ap (step (in_children n ps ks K)) sign)) (omega arith) (omega arith)) refl plain tt (omega arith) rs

pub children_braces : {s out out' : Bytes} {st : Reading} {r : Option Reading} {i : ℕ} → i < length s → get_or s i 0 ≡ 123 → ChildBracesTurn s st (i + 1) out r out' → ChildrenTurn s st i out r out'
unfolding step step_children choose text_byte
children_braces {s} {i = i} lo sign turn n ps ks K plain o h stands =
    later (omega arith)
    (turn n ps ks K plain o h (move stands (steps (in_children n ps ks K) (braces_opened (child_braces n ps ks) K) s i lo (ap (step (in_children n ps ks K)) sign)) (omega arith) (omega arith)))

gt_barred : (n : Name) (ps : Attributes) (ks : Children) (K : Stack) → step_children n ps ks K 62 ≡ refused
unfolding step_children choose text_byte
gt_barred n ps ks K = refl

brace_barred : (n : Name) (ps : Attributes) (ks : Children) (K : Stack) → step_children n ps ks K 125 ≡ refused
unfolding step_children choose text_byte
brace_barred n ps ks K = refl

pub children_barred : {s out out' : Bytes} {st : Reading} {i c : ℕ} → i < length s → get_or s i 0 ≡ c → (c ≡ 62) ⊎ (c ≡ 125) → ChildrenTurn s st i out None out'
unfolding step
children_barred {s} {i = i} {c} lo sign sort n ps ks K plain o h stands = refuses stands (stuck (in_children n ps ks K) s i lo (ap (step_children n ps ks K) sign ∙ on sort))
  where
    on : (c ≡ 62) ⊎ (c ≡ 125) → step_children n ps ks K c ≡ refused
    on (inl e) = ap (step_children n ps ks K) e ∙ gt_barred n ps ks K
    on (inr e) = ap (step_children n ps ks K) e ∙ brace_barred n ps ks K

-- what is no text
pub text_first : (c : ℕ) → (c ≡ 60 → ⊥) → (c ≡ 123 → ⊥) → (c ≡ 62 → ⊥) → (c ≡ 125 → ⊥) → text_byte c ≡ true
unfolding text_byte
text_first c a b d e = simp (ne_eqb c 60 a, ne_eqb c 62 d, ne_eqb c 123 b, ne_eqb c 125 e)
