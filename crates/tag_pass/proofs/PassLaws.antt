-- Turns with the stack. Main statements: `inner_letter`, `inner_fragment`, `inner_close`, `ended_within`, `ended_value`, `ended_braces`,
-- `behind_filled`. Assumes nothing.
use Prim.Native.Nat.{ℕ, suc, ◌+◌, ◌-◌, ◌*◌, ◌%◌, ◌≤◌, ◌<◌}
use mathlib.Core.Path.{◌≡◌, refl, sym, ◌∙◌, ap, subst}
use mathlib.Core.Bool.{Bool, true, false, false≢true}
use mathlib.Core.List.{List, [], ◌∷◌, ◌++◌, append-nil}
use native.Mathlib.Omega.{arith}
use borrow.Author.Tests.{ne_eqb}
use lib.Dec.{eqb}
use lib.ListN.{length, drop, get_or, set, length-append, drop_of_length-le}
use Rattle.std.specs.Prelude.{Option, Some, None}
use Rattle.std.proofs.lemmas.Option.{none-some}
use Rattle.field.specs.Bytes.{Bytes, pick}
use Rattle.field.specs.Row.{end}
use Rattle.field.specs.Put.{head}
use Rattle.field.proofs.PutLaws.{length_head, put_nil}
use Rattle.page.specs.Encode.{tag_row, expr_row}
use Rattle.grammar.specs.Signs.{choose, letter, space}
use Rattle.grammar.specs.Syntax as S
use Rattle.grammar.specs.Syntax.{Name, Tag, Attributes, no_attributes, no_children, same_name, every_tag}
use Rattle.grammar.specs.Reader.{Braces, child_braces, spread_child_braces, value_braces, spread_braces, Frame, within, value_of, in_braces, Stack, State, start, for_tag, in_ident, opened, behind_tag, in_children, closed, close_of, done, filled, refused, step, at_end, no_reading, outcome}
use Rattle.grammar.proofs.Shortest.{short_unread}
use Rattle.grammar.proofs.Complete.{skip_opened, skip_behind_tag, refused_never}
use Rattle.tag_tree.specs.PageTag.{page_tag, page_expr}
use Rattle.tag_tree.specs.TagAnswer.{shallow, known_in_range}
use Rattle.read_tag.specs.Progress.{tag_code, name_bytes, attributes_bytes, children_bytes, begun, bytes_of_tag, expr_bytes, child_bytes, attribute_begun, braces_code}
use Rattle.read_tag.specs.Flags.{depth_of, braces_depth}
use Rattle.read_tag.specs.Names.{NameAt}
use Rattle.read_tag.proofs.NameWalkLaws.{name_inside}
use Rattle.tag_pass.specs.declared.frames.Waiting.{Waiting}
use Rattle.tag_pass.specs.declared.state.Braced.{Braced}
use Rattle.tag_pass.specs.declared.state.Holder.{Holder}
use Rattle.tag_pass.specs.declared.state.Holder.TheVariants as H
use Rattle.tag_pass.specs.declared.state.Mode.{Mode}
use Rattle.tag_pass.specs.declared.state.Mode.TheVariants as M
use Rattle.tag_pass.specs.Signs.{SignAt, Blank}
use Rattle.tag_pass.specs.Worlds.{World, more, any_known, any_names, tag_world, children_world, value_world, before_world, braces_at, braces_world, frame_world, world_of, ended_world, nothing_made, Made}
use Rattle.tag_pass.specs.States.{goes_on, TagName, no_name, name_at, braces_kind, kind_of, frame_name, PlainFrame, BracesFifty, Fifty, idle, Framed, Stacked, empty, frame, Bounded, Stands, OpensIn, Next, next_tag, next_children, next_inner, next_ended, next_done, next_none, Going, Lent, Passed, passed_none, passed_tag, Unended, Settled}
use Rattle.tag_pass.specs.Turns.{at_mode, low_name, waits, pushed, popped, inner_depth, AttributeEnded, FilledTurn, TagTurn, ChildrenTurn, ClosingTurn, NamedTurn, FragmentTurn, InnerTurn, EndedTurn, BehindTurn, Turned, turned, stayed, ModeTurn, FrontTurn, StepTurn, OuterTurn, fresh_reading, NamePlace, Front, Onward}
use Rattle.tag_pass.specs.declared.state.Reading.{Reading}
use Rattle.tag_pass.proofs.Machine.{reads, differs, told, spaces, not_space, steps, stuck, out_of}
use Rattle.tag_pass.proofs.WorldLaws.{child_more}
use Rattle.tag_pass.proofs.BracesLaws.{value_room}
use Rattle.tag_pass.proofs.AttributeLaws.{value_done}
use Rattle.tag_pass.proofs.Standing.{made_is, remade, move, refuses, later, to_children, unended_none}
use Rattle.tag_pass.proofs.FrameLaws.{inner_depth_small, added_of, stacked_push, stacked_depth, low_is}

-- ---- names by their places

pub name_place : {s : Bytes} {p : Option ℕ} {n : Name} → TagName s p n → NamePlace s p
name_place no_name q e = cc
name_place {s} (name_at {p} {n} r i t) q e =
    let z : p ≡ q = cc in
    subst (NameAt s) z (record { name = n; rest = r; is = i })

-- the place of a name in four bytes is itself
name_low : {s : Bytes} {p : Option ℕ} {n : Name} → length s ≤ 32768 → TagName s p n → low_name p ≡ p
unfolding low_name
name_low l no_name = refl
name_low {s} l (name_at {p} {n} r i t) =
    let at : NameAt s p = record { name = n; rest = r; is = i } in
    ap (λ (z : ℕ). Some z) (low_is p (omega (arith, name_inside s p at)))

longer : (w : Bytes) (n : Name) (ps : Attributes) → length w ≤ length (begun w n ps)
unfolding begun
longer w n ps = omega (arith, length-append w (head (tag_code n) 0 ++ (name_bytes n ++ attributes_bytes ps)))

-- ---- behind the `<` of an inner tag

going_refused : {s o : Bytes} {fs : List Waiting} {h i : ℕ} {K : Stack} {out : Bytes} → Stacked s fs h K → 2 * h + 3 ≤ i → outcome start s ≡ no_reading → Going s o fs i None out
going_refused {h = h} {K = K} st l e = record { K = K; h = h; stacked = st; room = omega arith; inner_room = λ w k q z. omega arith; next = next_none e }

pub inner_out : {s out out' : Bytes} {fs : List Waiting} {st : Reading} {k : Holder} → Blank s st.place → InnerTurn s fs st k out None fs out'
unfolding at_end
inner_out {s} at o f K h small stacked room kind plain fifty stands =
    going_refused stacked room (stands.reads ∙ (skip_opened (f ∷ K) (spaces at.ran) ∙ out_of (opened (f ∷ K)) s at.j at.out refl))

nil_behind : (w : Bytes) → length w ≡ length (w ++ [])
nil_behind w = ap length (sym (append-nil w))

-- what stands before the inner tag is longer than what stands before the outer one
frame_grows : (f : Frame) (K : Stack) → length (world_of K).bytes ≤ length (world_of (f ∷ K)).bytes
unfolding world_of frame_world braces_world before_world children_world value_world tag_world begun
frame_grows (within n ps ks) K = omega (arith, longer (world_of K).bytes n ps, length-append (begun (world_of K).bytes n ps) (children_bytes ks))
frame_grows (value_of a n ps) K = omega (arith, longer (world_of K).bytes n ps, length-append (begun (world_of K).bytes n ps) (attribute_begun a))
frame_grows (in_braces (child_braces n ps ks)) K =
    omega (arith, longer (world_of K).bytes n ps, length-append (begun (world_of K).bytes n ps) (children_bytes ks), length-append (begun (world_of K).bytes n ps ++ children_bytes ks) (head (braces_code (child_braces n ps ks)) 0))
frame_grows (in_braces (spread_child_braces n ps ks)) K =
    omega (arith, longer (world_of K).bytes n ps, length-append (begun (world_of K).bytes n ps) (children_bytes ks), length-append (begun (world_of K).bytes n ps ++ children_bytes ks) (head (braces_code (spread_child_braces n ps ks)) 0))
frame_grows (in_braces (value_braces a n ps)) K =
    omega (arith, longer (world_of K).bytes n ps, length-append (begun (world_of K).bytes n ps) (attribute_begun a), length-append (begun (world_of K).bytes n ps ++ attribute_begun a) (head (braces_code (value_braces a n ps)) 0))
frame_grows (in_braces (spread_braces n ps)) K =
    omega (arith, longer (world_of K).bytes n ps, length-append (begun (world_of K).bytes n ps) (head (braces_code (spread_braces n ps)) 0))

fifty_low : (f : Frame) (K : Stack) (at x : ℕ) → at ≡ length (world_of (f ∷ K)).bytes → at < 4294967296 → Fifty (world_of K).bytes f x → Fifty (world_of K).bytes f (x % 4294967296)
unfolding Fifty BracesFifty world_of frame_world braces_world before_world
fifty_low (within n ps ks) K at x e l p = tt
fifty_low (value_of a n ps) K at x e l p =
    let r = value_room (world_of K) (depth_of K) a n ps [] at x (e ∙ nil_behind (value_world (world_of K) (depth_of K) a n ps).bytes) p in
    low_is x (omega arith) ∙ p
fifty_low (in_braces (child_braces n ps ks)) K at x e l p = tt
fifty_low (in_braces (spread_child_braces n ps ks)) K at x e l p = tt
fifty_low (in_braces (value_braces a n ps)) K at x e l p =
    let r = value_room (world_of K) (depth_of K) a n ps (head (braces_code (value_braces a n ps)) 0) at x e p in
    low_is x (omega arith) ∙ p
fifty_low (in_braces (spread_braces n ps)) K at x e l p = tt

-- the outer tag goes onto the stack
pushes : {s o out : Bytes} {fs fs' : List Waiting} {st : Reading} {k : Holder} {K : Stack} {h : ℕ} (f : Frame) → length s ≤ 32768 → st.height < length fs → Stacked s fs h K → fs' ≡ set fs st.height (waits st k) → k ≡ kind_of f → PlainFrame f → Fifty (world_of K).bytes f st.fifty → Stands s o (opened (f ∷ K)) (world_of (f ∷ K)) (frame_name f) K h st st.place out → Stacked s fs' (h + 1) (f ∷ K)
pushes {s} {o} {out} {fs} {fs'} {st} {k} {K} {h} f small enough stacked put_in kind plain fifty stands =
    stacked_push f stacked (omega (arith, stands.height_is)) (subst (λ (z : ℕ). fs' ≡ set fs z (waits st k)) stands.height_is put_in)
    (record {
      head_is = low_is st.head (omega (arith, stands.grown, stands.inside, stands.head_is, stands.made.at_is, frame_grows f K)) ∙ stands.head_is;
      name_is = subst (λ (z : Option ℕ). TagName s z (frame_name f)) (sym (name_low small stands.name_is)) stands.name_is;
      kind_is = kind;
      fifty_is = fifty_low f K st.at st.fifty stands.made.at_is (omega (arith, stands.grown, stands.inside)) fifty;
      plain = plain;
    })

pub pushed_bounded : {n i : ℕ} {st w : Reading} (k : Holder) → Bounded n st st.place → st.depth ≤ 65550 → w ≡ pushed st k → st.place ≤ i → i ≤ n → Bounded n w i
pushed_bounded {n} {i} {st} {w} k b l e m p =
    let at : w.at ≡ st.at = ap (λ (z : Reading). z.at) e in
    let depth : w.depth ≡ st.depth + inner_depth k = ap (λ (z : Reading). z.depth) e in
    record { small = b.small; inside = p; grown = omega (arith, b.grown); deep = omega (arith, inner_depth_small k) }

-- the numbers of the pass behind it
opens_in : {s o out : Bytes} {st : Reading} {k : Holder} {K : Stack} {h i : ℕ} (f : Frame) (x : State) → k ≡ kind_of f → Stands s o (opened (f ∷ K)) (world_of (f ∷ K)) (frame_name f) K h st st.place out → outcome (opened (f ∷ K)) (drop st.place s) ≡ outcome x (drop i s) → st.place ≤ i → i ≤ length s → OpensIn s o x (world_of (f ∷ K)) (f ∷ K) (h + 1) (pushed st k) i out
opens_in {st = st} {k} {K} f x kind stands e l m =
    record {
      reads = stands.reads ∙ e;
      inside = m;
      grown = omega (arith, stands.grown);
      depth_is = ap (λ (z : ℕ). z + inner_depth k) stands.depth_is ∙ sym (added_of f K k kind);
      height_is = ap (λ (z : ℕ). z + 1) stands.height_is;
      made = stands.made;
    }

pub inner_letter : {s out out' : Bytes} {fs fs' : List Waiting} {st w : Reading} {r : Option Reading} {k : Holder} {i : ℕ} {c : ℕ} → SignAt s st.place i c → true ≡ letter c → st.height < length fs → (w ≡ pushed st k) × (fs' ≡ set fs st.height (waits st k)) → NamedTurn s w i out r out' × Settled r → InnerTurn s fs st k out r fs' out'
unfolding step choose
inner_letter {s} {out} {out'} {fs} {fs'} {st} {w} {r} {k} {i} at is enough put_in turn o f K h small stacked room kind plain fifty stands =
    let yes_letter : letter (get_or s i 0) ≡ true = told letter at is in
    let turn' : NamedTurn s (pushed st k) i out r out' = subst (λ (z : Reading). NamedTurn s z i out r out') put_in.0 turn.0 in
    let e : outcome (opened (f ∷ K)) (drop st.place s) ≡ outcome (in_ident [] 0 (get_or s i 0 ∷ []) (for_tag (f ∷ K))) (drop (i + 1) s) =
    skip_opened (f ∷ K) (spaces at.ran) ∙ steps (opened (f ∷ K)) (in_ident [] 0 (get_or s i 0 ∷ []) (for_tag (f ∷ K))) s i at.inside (simp (not_space at.ran at.inside, yes_letter)) in
    record {
      K = f ∷ K;
      h = h + 1;
      stacked = pushes f small enough stacked put_in.1 kind plain fifty stands;
      room = omega arith;
      inner_room = λ x k q z. absurd (turn.1.not_inner x k q z);
      next = later at.ran.after (turn' (f ∷ K) o (h + 1) (opens_in f (in_ident [] 0 (get_or s i 0 ∷ []) (for_tag (f ∷ K))) kind stands e (omega (arith, at.ran.after)) (omega arith)));
    }

pub inner_fragment : {s out out' : Bytes} {fs fs' : List Waiting} {st w : Reading} {r : Option Reading} {k : Holder} {i : ℕ} {c : ℕ} → SignAt s st.place i c → c ≡ 62 → st.height < length fs → (w ≡ pushed st k) × (fs' ≡ set fs st.height (waits st k)) → FragmentTurn w (i + 1) out r out' × Settled r → InnerTurn s fs st k out r fs' out'
unfolding step choose space letter
inner_fragment {s} {out} {out'} {fs} {fs'} {st} {w} {r} {k} {i} at sign enough put_in turn o f K h small stacked room kind plain fifty stands =
    let turn' : FragmentTurn (pushed st k) (i + 1) out r out' = subst (λ (z : Reading). FragmentTurn z (i + 1) out r out') put_in.0 turn.0 in
    let e : outcome (opened (f ∷ K)) (drop st.place s) ≡ outcome (in_children [] no_attributes no_children (f ∷ K)) (drop (i + 1) s) =
    skip_opened (f ∷ K) (spaces at.ran) ∙ steps (opened (f ∷ K)) (in_children [] no_attributes no_children (f ∷ K)) s i at.inside (ap (step (opened (f ∷ K))) (reads at sign)) in
    record {
      K = f ∷ K;
      h = h + 1;
      stacked = pushes f small enough stacked put_in.1 kind plain fifty stands;
      room = omega arith;
      inner_room = λ x k q z. absurd (turn.1.not_inner x k q z);
      next = turn' s (f ∷ K) o (h + 1) st.place (omega (arith, at.ran.after)) (omega (arith, at.ran.after, stands.grown)) (opens_in f (in_children [] no_attributes no_children (f ∷ K)) kind stands e (omega (arith, at.ran.after)) (omega arith));
    }

pub inner_barred : {s out out' : Bytes} {fs : List Waiting} {st : Reading} {k : Holder} {i : ℕ} {c : ℕ} → SignAt s st.place i c → false ≡ letter c → (c ≡ 62 → ⊥) → (c ≡ 47 → ⊥) → InnerTurn s fs st k out None fs out'
unfolding step choose
inner_barred {s} {i = i} at is p q o f K h small stacked room kind plain fifty stands =
    let no_letter : letter (get_or s i 0) ≡ false = told letter at is in
    going_refused stacked room (stands.reads ∙ (skip_opened (f ∷ K) (spaces at.ran) ∙ stuck (opened (f ∷ K)) s i at.inside (simp (not_space at.ran at.inside, no_letter, ne_eqb (get_or s i 0) 62 (differs at p), ne_eqb (get_or s i 0) 47 (differs at q)))))

slash : (s : Bytes) (i j : ℕ) (K : Stack) {c : ℕ} → SignAt s i j c → c ≡ 47 → outcome (opened K) (drop i s) ≡ outcome (close_of K) (drop (j + 1) s)
unfolding step choose space letter
slash s i j K at sign = skip_opened K (spaces at.ran) ∙ steps (opened K) (close_of K) s j at.inside (ap (step (opened K)) (reads at sign))

pub inner_close : {s out out' : Bytes} {fs : List Waiting} {st : Reading} {r : Option Reading} {k : Holder} {i : ℕ} {c : ℕ} → SignAt s st.place i c → c ≡ 47 → k ≡ H.Children → ClosingTurn s st (i + 1) out r out' → InnerTurn s fs st k out r fs out'
unfolding kind_of braces_kind close_of world_of frame_world frame_name PlainFrame
inner_close {s} {st = st} {i = i} at sign child turn o (within n ps ks) K h small stacked room kind plain fifty stands =
    record {
      K = K;
      h = h;
      stacked = stacked;
      room = omega arith;
      inner_room = λ w k q z. omega arith;
      next = later (omega (arith, at.ran.after)) (turn n ps ks K plain o h (move stands (slash s st.place i (within n ps ks ∷ K) at sign) (omega (arith, at.ran.after)) (omega arith)));
    }
inner_close at sign child turn o (value_of a n ps) K h small stacked room kind plain fifty stands = cc
inner_close at sign child turn o (in_braces g) K h small stacked room kind plain fifty stands = cc

closes_nothing : (f : Frame) (K : Stack) → (kind_of f ≡ H.Children → ⊥) → close_of (f ∷ K) ≡ refused
unfolding kind_of close_of
closes_nothing (within n ps ks) K l = absurd (l refl)
closes_nothing (value_of a n ps) K l = refl
closes_nothing (in_braces g) K l = refl

pub inner_unclosed : {s out out' : Bytes} {fs : List Waiting} {st : Reading} {k : Holder} {i : ℕ} {c : ℕ} → SignAt s st.place i c → c ≡ 47 → (k ≡ H.Children → ⊥) → InnerTurn s fs st k out None fs out'
inner_unclosed {s} {st = st} {i = i} at sign no_child o f K h small stacked room kind plain fifty stands =
    going_refused stacked room
    (stands.reads ∙ (slash s st.place i (f ∷ K) at sign ∙ (ap (λ (x : State). outcome x (drop (i + 1) s)) (closes_nothing f K (λ z. no_child (kind ∙ z))) ∙ refused_never (drop (i + 1) s))))

-- ---- behind a tag in braces

pub behind_out : {s out out' : Bytes} {st : Reading} {k : Braced} {p : ℕ} → Blank s st.place → BehindTurn s st k p out None out'
unfolding at_end
behind_out {s} at o t g K h i l kind len plain fifty stands = refuses stands (skip_behind_tag t g K (spaces at.ran) ∙ out_of (behind_tag t g K) s at.j at.out refl)

pub behind_barred : {s out out' : Bytes} {st : Reading} {k : Braced} {p j : ℕ} {c : ℕ} → SignAt s st.place j c → (c ≡ 125 → ⊥) → BehindTurn s st k p out None out'
unfolding step choose
behind_barred {s} {j = j} at q o t g K h i l kind len plain fifty stands = refuses stands (skip_behind_tag t g K (spaces at.ran) ∙ stuck (behind_tag t g K) s j at.inside (simp (not_space at.ran at.inside, ne_eqb (get_or s j 0) 125 (differs at q))))

braces_deep : (g : Braces) (d : ℕ) → braces_depth g d ≡ suc (braces_at g d)
unfolding braces_depth braces_at
braces_deep (child_braces n ps ks) d = refl
braces_deep (spread_child_braces n ps ks) d = refl
braces_deep (value_braces a n ps) d = refl
braces_deep (spread_braces n ps) d = refl

tag_in_braces : (K : Stack) (g : Braces) (t : Tag) → ended_world (world_of (in_braces g ∷ K)) (depth_of (in_braces g ∷ K)) t ≡ more (braces_world (world_of K) (depth_of K) g) (expr_bytes (S.tag_expr t)) (S.every_expr (S.tag_expr t) same_name any_known) (S.every_expr (S.tag_expr t) any_names known_in_range) (shallow (suc (braces_at g (depth_of K))) (expr_row (page_expr (S.tag_expr t)) end))
unfolding ended_world world_of frame_world depth_of expr_bytes bytes_of_tag every_tag page_tag tag_row
tag_in_braces K g t =
    ap (λ (d : ℕ). more (braces_world (world_of K) (depth_of K) g) (bytes_of_tag t) (every_tag t same_name any_known) (every_tag t any_names known_in_range) (shallow d (tag_row (page_tag t) end))) (braces_deep g (depth_of K))

before_head : (K : Stack) (g : Braces) (p : ℕ) → p ≡ length (world_of (in_braces g ∷ K)).bytes → p - 3 ≡ length (before_world (world_of K) (depth_of K) g).bytes
unfolding world_of frame_world braces_world
before_head K g p e = omega (arith, length-append (before_world (world_of K) (depth_of K) g).bytes (head (braces_code g) 0), length_head (braces_code g) 0)

pub behind_filled : {s out out' : Bytes} {st : Reading} {r : Option Reading} {k : Braced} {p j q : ℕ} {c : ℕ} → SignAt s st.place j c → c ≡ 125 → q ≡ p - 3 → FilledTurn st k q (j + 1) out r out' → BehindTurn s st k p out r out'
unfolding step choose space
behind_filled {s} {st = st} {p = p} {j} {q} at sign qs turn o t g K h i l kind len plain fifty stands =
    turn s o (S.tag_expr t) g K h i (omega (arith, at.ran.after)) kind (qs ∙ before_head K g p len) plain fifty
    (remade (move stands (skip_behind_tag t g K (spaces at.ran) ∙ steps (behind_tag t g K) (filled (S.tag_expr t) g K) s j at.inside (ap (step (behind_tag t g K)) (reads at sign))) (omega (arith, at.ran.after)) (omega arith)) (made_is (tag_in_braces K g t) stands.made))

-- ---- a tag has ended

pub ended_more : {s out out' : Bytes} {fs : List Waiting} {st : Reading} → st.height ≡ 0 → st.place < length s → EndedTurn s fs st out None out'
unfolding closed step
ended_more {s} {st = st} z lo o n t K h i empty room l stands =
    record { K = []; h = 0; stacked = empty; room = room; inner_room = λ w k q y. absurd (none-some w q); next = next_none (stands.reads ∙ stuck (done t) s st.place lo refl) }
ended_more z lo o n t K h i (frame u below) room l stands = absurd (omega (arith, stands.height_is))

pub ended_all : {s out : Bytes} {fs : List Waiting} {st r : Reading} → st.height ≡ 0 → length s ≤ st.place → r ≡ at_mode st M.Done st.place → EndedTurn s fs st out (Some r) out
unfolding closed outcome at_end world_of depth_of
ended_all {s} {out} {fs} {st} {r} z hi rs o n t K h i empty room l stands =
    record {
      K = [];
      h = 0;
      stacked = empty;
      room = room;
      inner_room = λ w k q y. (let e = ap (λ (x : Reading). x.mode) rs in cc);
      next = subst (λ (x : Reading). Next s o [] 0 i (Some x) out) (sym rs) (next_done refl (stands.reads ∙ ap (outcome (done t)) (drop_of_length-le s hi)) stands.made);
    }
ended_all z hi rs o n t K h i (frame u below) room l stands = absurd (omega (arith, stands.height_is))

-- the tag that waited last
framed_top : {s : Bytes} {f : Frame} {K : Stack} (fs : List Waiting) (h : ℕ) (st : Reading) → Framed s (get_or fs h idle) f K → st.height ≡ h + 1 → Framed s (get_or fs (st.height - 1) idle) f K
framed_top {s} {f} {K} fs h st u e =
    let z : h ≡ st.height - 1 = omega arith in
    subst (λ (y : ℕ). Framed s (get_or fs y idle) f K) z u

-- it is read again
pops : {s o out : Bytes} {x : State} {W : World} {n : Name} {y : Waiting} {K : Stack} {h : ℕ} {st : Reading} (f : Frame) → Framed s y f K → Stands s o x W n (f ∷ K) (h + 1) st st.place out → Stands s o x W (frame_name f) K h (popped y st) st.place out
pops {y = y} {K} {h} {st} f u stands =
    record {
      reads = stands.reads;
      inside = stands.inside;
      grown = stands.grown;
      head_is = u.head_is;
      name_is = u.name_is;
      depth_is = omega (arith, stands.depth_is, added_of f K y.holder u.kind_is);
      height_is = omega (arith, stands.height_is);
      made = stands.made;
    }

then_goes : {s o : Bytes} {fs : List Waiting} {K : Stack} {h i : ℕ} {r : Option Reading} {out : Bytes} → Stacked s fs h K → 2 * (h + 1) + 1 ≤ i → Next s o K h i r out → Going s o fs i r out
then_goes {K = K} {h} st l n = record { K = K; h = h; stacked = st; room = omega arith; inner_room = λ w k q z. omega arith; next = n }

-- what holds it tells the frame
within_next : {s o out : Bytes} {n : Name} {y : Waiting} {K : Stack} {h i : ℕ} {st r : Reading} (t : Tag) (f : Frame) → Framed s y f K → Stands s o (closed t (f ∷ K)) (ended_world (world_of (f ∷ K)) (depth_of (f ∷ K)) t) n (f ∷ K) (h + 1) st st.place out → y.holder ≡ H.Children → i < st.place → r ≡ at_mode (popped y st) M.InChildren st.place → Next s o K h i (Some r) out
unfolding closed kind_of braces_kind PlainFrame ended_world world_of frame_world depth_of child_bytes bytes_of_tag every_tag page_tag tag_row frame_name
within_next {K = K} t (within n ps ks) u g k l rs =
    let v = pops (within n ps ks) u g in
    to_children (remade v (made_is (child_more (world_of K) (depth_of K) n ps ks (S.tag_child t)) v.made)) u.plain l rs
within_next t (value_of a n ps) u g k l rs = let e = u.kind_is in cc
within_next t (in_braces g) u v k l rs = let e = u.kind_is in cc

pub ended_within : {s out : Bytes} {fs : List Waiting} {st w r : Reading} → (st.height ≡ 0 → ⊥) → w ≡ popped (get_or fs (st.height - 1) idle) st → (get_or fs (st.height - 1) idle).holder ≡ H.Children → r ≡ at_mode w M.InChildren w.place → EndedTurn s fs st out (Some r) out
ended_within hz ws k rs o n t K h i empty room l stands = absurd (hz stands.height_is)
ended_within {s} {out} {fs} {st} {w} {r} hz ws k rs o n t K h i (frame {h = h'} {f = f} {K = K'} u below) room l stands =
    then_goes below room (within_next t f (framed_top fs h' st u stands.height_is) stands k l (rs ∙ ap (λ (y : Reading). at_mode y M.InChildren y.place) ws))

value_next : {s o out out' : Bytes} {n : Name} {y : Waiting} {K : Stack} {h i : ℕ} {st r : Reading} (t : Tag) (f : Frame) → Framed s y f K → Stands s o (closed t (f ∷ K)) (ended_world (world_of (f ∷ K)) (depth_of (f ∷ K)) t) n (f ∷ K) (h + 1) st st.place out → y.holder ≡ H.Value → i < st.place → AttributeEnded out (popped y st) st.place r out' → Next s o K h i (Some r) out'
unfolding closed kind_of braces_kind PlainFrame Fifty ended_world world_of frame_world depth_of bytes_of_tag every_tag page_tag tag_row frame_name
value_next t (value_of a n ps) u g k l ended = value_done a n ps (S.tag_value a t) (tag_row (page_tag t) end) refl (pops (value_of a n ps) u g) u.plain u.fifty_is ended l
value_next t (within n ps ks) u g k l ended = let e = u.kind_is in cc
value_next t (in_braces g) u v k l ended = let e = u.kind_is in cc

pub ended_value : {s out out' : Bytes} {fs : List Waiting} {st w r : Reading} → (st.height ≡ 0 → ⊥) → w ≡ popped (get_or fs (st.height - 1) idle) st → (get_or fs (st.height - 1) idle).holder ≡ H.Value → AttributeEnded out w w.place r out' → EndedTurn s fs st out (Some r) out'
ended_value hz ws k ended o n t K h i empty room l stands = absurd (hz stands.height_is)
ended_value {s} {out} {out'} {fs} {st} {w} {r} hz ws k ended o n t K h i (frame {h = h'} {f = f} {K = K'} u below) room l stands =
    then_goes below room (value_next t f (framed_top fs h' st u stands.height_is) stands k l (subst (λ (y : Reading). AttributeEnded out y y.place r out') ws ended))

braces_next : {s o out out' : Bytes} {n : Name} {y : Waiting} {k : Braced} {K : Stack} {h i : ℕ} {st : Reading} {r : Option Reading} (t : Tag) (f : Frame) → Framed s y f K → Stands s o (closed t (f ∷ K)) (ended_world (world_of (f ∷ K)) (depth_of (f ∷ K)) t) n (f ∷ K) (h + 1) st st.place out → y.holder ≡ H.Braces k → i < st.place → BehindTurn s (popped y st) k st.head out r out' → Next s o K h i r out'
unfolding closed kind_of PlainFrame Fifty frame_name
braces_next {k = k} {K} {h} {i} t (in_braces g) u v kind l turn =
    let e = u.kind_is in
    let same : k ≡ braces_kind g = cc in
    turn _ t g K h i l same v.head_is u.plain u.fifty_is (pops (in_braces g) u v)
braces_next t (within n ps ks) u v kind l turn = let e = u.kind_is in cc
braces_next t (value_of a n ps) u v kind l turn = let e = u.kind_is in cc

pub ended_braces : {s out out' : Bytes} {fs : List Waiting} {k : Braced} {st w : Reading} {r : Option Reading} → (st.height ≡ 0 → ⊥) → w ≡ popped (get_or fs (st.height - 1) idle) st → (get_or fs (st.height - 1) idle).holder ≡ H.Braces k → BehindTurn s w k st.head out r out' → EndedTurn s fs st out r out'
ended_braces hz ws kind turn o n t K h i empty room l stands = absurd (hz stands.height_is)
ended_braces {s} {out} {out'} {fs} {k} {st} {w} {r} hz ws kind turn o n t K h i (frame {h = h'} {f = f} {K = K'} u below) room l stands =
    then_goes below room (braces_next t f (framed_top fs h' st u stands.height_is) stands kind l (subst (λ (y : Reading). BehindTurn s y k st.head out r out') ws turn))

-- ---- any turn

-- where the pass is not done it stands somewhere
pub record Somewhere (s o : Bytes) (K : Stack) (h i : ℕ) (r : Reading) (out : Bytes) : Type 0 where
  pub x : State
  pub W : World
  pub n : Name
  pub after : i < r.place
  pub stands : Stands s o x W n K h r r.place out

unfoldable pub stands_at : Mode → Bool
stands_at M.InTag = true
stands_at M.InChildren = true
stands_at (M.Inner k) = true
stands_at M.Ended = true
stands_at M.Done = false

pub on_stands : (m : Mode) → goes_on m ≡ true → stands_at m ≡ true
unfolding goes_on stands_at
on_stands M.InTag e = refl
on_stands M.InChildren e = refl
on_stands (M.Inner k) e = refl
on_stands M.Ended e = cc
on_stands M.Done e = cc

inner_left : (m : Mode) → goes_on m ≡ true → (m ≡ M.InTag → ⊥) → (m ≡ M.InChildren → ⊥) → (k : Holder) × (m ≡ M.Inner k)
unfolding goes_on
inner_left M.InTag e x y = absurd (x refl)
inner_left M.InChildren e x y = absurd (y refl)
inner_left (M.Inner k) e x y = (k, refl)
inner_left M.Ended e x y = cc
inner_left M.Done e x y = cc

pub somewhere : {s o : Bytes} {K : Stack} {h i : ℕ} {r : Reading} {out : Bytes} → Next s o K h i (Some r) out → stands_at r.mode ≡ true → Somewhere s o K h i r out
unfolding stands_at
somewhere (next_tag m l nm g) lt = record { x = _; W = _; n = _; after = l; stands = g }
somewhere (next_children m l p g) lt = record { x = _; W = _; n = _; after = l; stands = g }
somewhere (next_inner m l p f g) lt = record { x = _; W = _; n = _; after = l; stands = g }
somewhere (next_ended t m l g) lt = record { x = _; W = _; n = _; after = l; stands = g }
somewhere (next_done m e g) lt = absurd (false≢true (ap stands_at (sym m) ∙ lt))

pub going_bounded : {s o : Bytes} {fs : List Waiting} {i : ℕ} {r : Reading} {out : Bytes} → length s ≤ 32768 → Going s o fs i (Some r) out → stands_at r.mode ≡ true → Bounded (length s) r r.place
going_bounded small g lt =
    let w = somewhere g.next lt in
    record { small = small; inside = w.stands.inside; grown = w.stands.grown; deep = omega (arith, w.stands.depth_is, stacked_depth g.stacked, g.room, w.after, w.stands.inside) }

pub step_in_tag : {s out out' : Bytes} {fs : List Waiting} {st : Reading} {r : Option Reading} → st.mode ≡ M.InTag → TagTurn s st st.place out r out' → (o : Bytes) (i : ℕ) → Going s o fs i (Some st) out → Going s o fs st.place r out'
step_in_tag {s} {out} {out'} {fs} {st} {r} m turn o i g = on g.next
  where
    on : Next s o g.K g.h i (Some st) out → Going s o fs st.place r out'
    on (next_tag {n} {ps} k l nm v) = record { K = g.K; h = g.h; stacked = g.stacked; room = omega (arith, g.room); inner_room = λ w k q z. omega (arith, g.room); next = turn n ps g.K nm o g.h v }
    on (next_children k l p v) = cc
    on (next_inner k l p f v) = cc
    on (next_ended t k l v) = cc
    on (next_done k e v) = cc

pub step_in_children : {s out out' : Bytes} {fs : List Waiting} {st : Reading} {r : Option Reading} → st.mode ≡ M.InChildren → ChildrenTurn s st st.place out r out' → (o : Bytes) (i : ℕ) → Going s o fs i (Some st) out → Going s o fs st.place r out'
step_in_children {s} {out} {out'} {fs} {st} {r} m turn o i g = on g.next
  where
    on : Next s o g.K g.h i (Some st) out → Going s o fs st.place r out'
    on (next_tag k l nm v) = cc
    on (next_children {n} {ps} {ks} k l p v) = record { K = g.K; h = g.h; stacked = g.stacked; room = omega (arith, g.room); inner_room = λ w k q z. omega (arith, g.room); next = turn n ps ks g.K p o g.h v }
    on (next_inner k l p f v) = cc
    on (next_ended t k l v) = cc
    on (next_done k e v) = cc

pub step_inner : {s out out' : Bytes} {fs fs' : List Waiting} {k : Holder} {st : Reading} {r : Option Reading} → length s ≤ 32768 → st.mode ≡ M.Inner k → InnerTurn s fs st k out r fs' out' → (o : Bytes) (i : ℕ) → Going s o fs i (Some st) out → Going s o fs' st.place r out'
step_inner {s} {out} {out'} {fs} {fs'} {k} {st} {r} small m turn o i g = on g.next
  where
    on : Next s o g.K g.h i (Some st) out → Going s o fs' st.place r out'
    on (next_tag q l nm v) = cc
    on (next_children q l p v) = cc
    on (next_inner {f} q l p y v) =
        let e : k ≡ kind_of f = cc in
        turn o f g.K g.h small g.stacked (omega (arith, g.inner_room st k refl m)) e p y v
    on (next_ended t q l v) = cc
    on (next_done q e v) = cc

-- a turn that goes on
pub front_on : {s o : Bytes} {fs : List Waiting} {st : Reading} {r : Option Reading} {out : Bytes} → Going s o fs st.place r out → Front s o fs st r out
unfolding stands_at
front_on {s} {o} {fs} {st} {r} {out} g = record { from = st.place; going = g; passed = λ z. omega arith; reached = λ w k q m. omega (arith, (somewhere (subst (λ (x : Option Reading). Next s o g.K g.h st.place x out) q g.next) (ap stands_at m)).after) }

-- and none before an inner tag
pub front_inner : {s o : Bytes} {fs : List Waiting} {i : ℕ} {st : Reading} {out : Bytes} → goes_on st.mode ≡ true → (st.mode ≡ M.InTag → ⊥) → (st.mode ≡ M.InChildren → ⊥) → Going s o fs i (Some st) out → Front s o fs st (Some st) out
front_inner {i = i} {st} m x y g =
    let left = inner_left st.mode m x y in
    record { from = i; going = g; passed = λ z. absurd (z st left.0 refl left.1); reached = λ w k q z. (let same : st ≡ w = cc in omega (arith, ap (λ (v : Reading). v.place) same)) }

-- a turn in a tag, and then one among children
pub turned_bounded : {s o : Bytes} {fs : List Waiting} {i : ℕ} {st v : Reading} {out out' : Bytes} → length s ≤ 32768 → Going s o fs i (Some st) out → Turned M.InTag s o fs st out (Some v) out' → v.mode ≡ M.InChildren → Bounded (length s) v v.place
unfolding stands_at
turned_bounded small g (turned k p) m = going_bounded small p (ap stands_at m)
turned_bounded small g (stayed k) m = going_bounded small g (ap stands_at m)

pub turned_none : {m : Mode} {s out out' : Bytes} {st : Reading} → ModeTurn m s st out None out' → FrontTurn s st out None out'
turned_none {m} {s} {out} {out'} {st} t fs o i g = on (t fs o i g)
  where
    on : Turned m s o fs st out None out' → Front s o fs st None out'
    on (turned k p) = front_on p

-- the second began behind the first, which went on from st
front_later : {s o : Bytes} {fs : List Waiting} {st v : Reading} {r : Option Reading} {out : Bytes} → st.place ≤ v.place → Front s o fs v r out → Front s o fs st r out
front_later l f = record { from = f.from; going = f.going; passed = λ z. omega (arith, l, f.passed z); reached = λ w k q m. omega (arith, l, f.reached w k q m) }

second : {s o : Bytes} {fs : List Waiting} {i : ℕ} {st : Reading} {r : Option Reading} {out out' : Bytes} → goes_on st.mode ≡ true → (st.mode ≡ M.InTag → ⊥) → Going s o fs i (Some st) out → Turned M.InChildren s o fs st out r out' → Front s o fs st r out'
second m n g (turned k q) = front_on q
second m n g (stayed k) = front_inner m n k g

further : {s o : Bytes} {fs : List Waiting} {st v : Reading} {r : Option Reading} {out out' : Bytes} → Going s o fs st.place (Some v) out → Turned M.InChildren s o fs v out r out' → Front s o fs st r out'
unfolding stands_at
further {v = v} p (turned k q) = front_later {v = v} (omega (arith, (somewhere p.next (ap stands_at k)).after)) (front_on q)
further p (stayed k) = front_on p

first : {s o : Bytes} {fs : List Waiting} {i : ℕ} {st v : Reading} {r : Option Reading} {out out₁ out' : Bytes} → goes_on st.mode ≡ true → ModeTurn M.InChildren s v out₁ r out' → Going s o fs i (Some st) out → Turned M.InTag s o fs st out (Some v) out₁ → Front s o fs st r out'
first m u g (turned k p) = further p (u _ _ _ p)
first m u g (stayed k) = second m k g (u _ _ _ g)

pub turned_both : {s out out₁ out' : Bytes} {st v : Reading} {r : Option Reading} → goes_on st.mode ≡ true → ModeTurn M.InTag s st out (Some v) out₁ → ModeTurn M.InChildren s v out₁ r out' → FrontTurn s st out r out'
turned_both m t u fs o i g = first m u g (t fs o i g)

-- a step that is all of the turn
pub step_none : {s out out' : Bytes} {fs : List Waiting} {st : Reading} → FrontTurn s st out None out' → StepTurn s fs st out None fs out'
step_none turn = (
  refl,
  λ o i g.
      let front = turn _ o i g in
      record { from = front.from; after = front.passed (λ w k q z. none-some w q); going = front.going },
)

pub step_kept : {s out out' : Bytes} {fs : List Waiting} {st r : Reading} → FrontTurn s st out (Some r) out' → ((k : Holder) → r.mode ≡ M.Inner k → ⊥) → StepTurn s fs st out (Some r) fs out'
step_kept {r = r} turn no_inner = (
  refl,
  λ o i g.
      let front = turn _ o i g in
      record { from = front.from; after = front.passed (λ w k q z. (let same : r ≡ w = cc in no_inner k (ap (λ (x : Reading). x.mode) same ∙ z))); going = front.going },
)

-- what the stack is asked for
pub inner_needs : {s o : Bytes} {fs : List Waiting} {i : ℕ} {k : Holder} {st : Reading} {out : Bytes} → length s ≤ 32768 → length s ≤ 2 * length fs → Going s o fs i (Some st) out → st.mode ≡ M.Inner k → Bounded (length s) st st.place × NamePlace s st.name × (st.height < length fs) × (st.depth ≤ 65550) × (st.height ≤ 65536)
unfolding stands_at
inner_needs {k = k} {st} small enough g m =
    let lt = g.inner_room st k refl m in
    let at : stands_at st.mode ≡ true = ap stands_at m in
    let w = somewhere g.next at in
    let v = w.stands in (
      going_bounded small g at,
      name_place v.name_is,
      omega (arith, v.height_is, w.after, v.inside),
      omega (arith, v.depth_is, stacked_depth g.stacked, w.after, v.inside),
      omega (arith, v.height_is, w.after, v.inside),
    )

pub ended_needs : {s o : Bytes} {fs : List Waiting} {i : ℕ} {st : Reading} {out : Bytes} → length s ≤ 32768 → length s ≤ 2 * length fs → Going s o fs i (Some st) out → st.mode ≡ M.Ended → Bounded (length s) st st.place × (st.height ≤ length fs)
unfolding stands_at
ended_needs {st = st} small enough g m =
    let at : stands_at st.mode ≡ true = ap stands_at m in
    let w = somewhere g.next at in
    let v = w.stands in
    (going_bounded small g at, omega (arith, v.height_is, g.room, w.after, v.inside))

pub turn_ended : {s o : Bytes} {fs : List Waiting} {i : ℕ} {st : Reading} {r : Option Reading} {out out' : Bytes} → st.mode ≡ M.Ended → EndedTurn s fs st out r out' → Going s o fs i (Some st) out → Going s o fs i r out'
turn_ended {s} {o} {fs} {i} {st} {r} {out} {out'} m turn g = on g.next
  where
    on : Next s o g.K g.h i (Some st) out → Going s o fs i r out'
    on (next_tag k l nm v) = cc
    on (next_children k l p v) = cc
    on (next_inner k l p y v) = cc
    on (next_ended {n} t k l v) = turn o n t g.K g.h i g.stacked g.room l v
    on (next_done k e v) = cc

pub turn_none : {s out out' : Bytes} {fs fs' : List Waiting} {st : Reading} → StepTurn s fs st out None fs' out' → StepTurn s fs st out None fs' out' × Unended None
turn_none turn = (turn, unended_none)

-- ---- the outermost tag

pub outer_none : {s o out : Bytes} → outcome start s ≡ no_reading → OuterTurn s o None out × Unended None
outer_none e = ((λ fs. record { K = []; h = 0; stacked = empty; room = omega arith; inner_room = λ w k q z. absurd (none-some w q); next = next_none e }), unended_none)

pub outer_empty : (s : Bytes) → length s ≤ 0 → outcome start s ≡ no_reading
unfolding at_end
outer_empty s e = out_of start s 0 e refl

pub outer_other : (s : Bytes) → 0 < length s → (get_or s 0 0 ≡ 60 → ⊥) → outcome start s ≡ no_reading
unfolding step choose
outer_other s lo p = stuck start s 0 lo (rw (ne_eqb (get_or s 0 0) 60 p))

outer_opens : (s : Bytes) → 0 < length s → get_or s 0 0 ≡ 60 → outcome start s ≡ outcome (opened []) (drop 1 s)
unfolding step choose
outer_opens s lo p = steps start (opened []) s 0 lo (ap (step start) p)

pub outer_out : {s : Bytes} → 0 < length s → get_or s 0 0 ≡ 60 → Blank s 1 → outcome start s ≡ no_reading
unfolding at_end
outer_out {s} l p at = outer_opens s l p ∙ (skip_opened [] (spaces at.ran) ∙ out_of (opened []) s at.j at.out refl)

-- nothing is closed there
barred_outside : (c : ℕ) → space c ≡ false → letter c ≡ false → (c ≡ 62 → ⊥) → step (opened []) c ≡ refused
unfolding step choose close_of
barred_outside c x y z = simp (x, y, ne_eqb c 62 z) (on (eqb c 47))
  where
    on : (b : Bool) → choose b refused refused ≡ refused
    on true = refl
    on false = refl

pub outer_barred : {s : Bytes} {i c : ℕ} → 0 < length s → get_or s 0 0 ≡ 60 → SignAt s 1 i c → false ≡ letter c → (c ≡ 62 → ⊥) → outcome start s ≡ no_reading
outer_barred {s} {i} l p at is q =
    outer_opens s l p ∙ (skip_opened [] (spaces at.ran) ∙ stuck (opened []) s i at.inside (barred_outside (get_or s i 0) (not_space at.ran at.inside) (told letter at is) (differs at q)))

nothing_yet : (out : Bytes) → Made out nothing_made out 0 true true true
nothing_yet out = record { at_is = refl; out_is = λ z. sym (put_nil out 0); names_is = refl; numbers_is = refl; shallow_is = refl }

opens_outer : {s out : Bytes} {i : ℕ} {st : Reading} (x : State) → st ≡ fresh_reading → outcome start s ≡ outcome x (drop i s) → i ≤ length s → OpensIn s out x (world_of []) [] 0 st i out
unfolding world_of depth_of
opens_outer {s} {out} {i} {st} x e r l =
    subst (λ (z : Reading). OpensIn s out x nothing_made [] 0 z i out) (sym e) (record { reads = r; inside = l; grown = omega arith; depth_is = refl; height_is = refl; made = nothing_yet out })

pub outer_letter : {s out out' : Bytes} {i c : ℕ} {st : Reading} {r : Option Reading} → st ≡ fresh_reading → 0 < length s → get_or s 0 0 ≡ 60 → SignAt s 1 i c → true ≡ letter c → NamedTurn s st i out r out' × Settled r → OuterTurn s out r out' × Unended r
unfolding step choose
outer_letter {s} {out} {out'} {i} {c} {st} {r} e l p at is turn =
    let yes_letter : letter (get_or s i 0) ≡ true = told letter at is in
    let x : State = in_ident [] 0 (get_or s i 0 ∷ []) (for_tag []) in
    let q : outcome start s ≡ outcome x (drop (i + 1) s) = outer_opens s l p ∙ (skip_opened [] (spaces at.ran) ∙ steps (opened []) x s i at.inside (simp (not_space at.ran at.inside, yes_letter))) in (
      λ fs.
          record {
            K = [];
            h = 0;
            stacked = empty;
            room = omega arith;
            inner_room = λ w k y z. absurd (turn.1.not_inner w k y z);
            next = later at.ran.after (turn.0 [] out 0 (opens_outer x e q (omega arith)));
          },
      turn.1.not_ended,
    )

pub outer_fragment : {s out out' : Bytes} {i c : ℕ} {st : Reading} {r : Option Reading} → st ≡ fresh_reading → 0 < length s → get_or s 0 0 ≡ 60 → SignAt s 1 i c → c ≡ 62 → FragmentTurn st (i + 1) out r out' × Settled r → OuterTurn s out r out' × Unended r
unfolding step choose space letter
outer_fragment {s} {out} {out'} {i} {c} {st} {r} e l p at sign turn =
    let x : State = in_children [] no_attributes no_children [] in
    let q : outcome start s ≡ outcome x (drop (i + 1) s) = outer_opens s l p ∙ (skip_opened [] (spaces at.ran) ∙ steps (opened []) x s i at.inside (ap (step (opened [])) (reads at sign))) in
    let grown : st.at ≡ 0 = ap (λ (z : Reading). z.at) e in (
      λ fs.
          record {
            K = [];
            h = 0;
            stacked = empty;
            room = omega arith;
            inner_room = λ w k y z. absurd (turn.1.not_inner w k y z);
            next = turn.0 s [] out 0 1 (omega (arith, at.ran.after)) (omega (arith, at.ran.after)) (opens_outer x e q (omega arith));
          },
      turn.1.not_ended,
    )

-- ---- the loop

-- what is still to read
unfoldable pub still : ℕ → Reading → ℕ
still n r = pick (stands_at r.mode) (1 + (n - r.place)) 0

pub turn_less : {s o : Bytes} {fs fs' : List Waiting} {i : ℕ} {st r : Reading} {out out' : Bytes} → goes_on st.mode ≡ true → Going s o fs i (Some st) out → Onward s o fs' st.place (Some r) out' → still (length s) r < still (length s) st
unfolding still
turn_less {s} {o} {fs} {fs'} {i} {st} {r} {out} {out'} lt g v =
    let w = somewhere g.next (on_stands st.mode lt) in
    subst (λ (b : Bool). pick (stands_at r.mode) (1 + (length s - r.place)) 0 < pick b (1 + (length s - st.place)) 0) (sym (on_stands st.mode lt)) (on (stands_at r.mode) refl)
  where
    on : (b : Bool) → stands_at r.mode ≡ b → pick b (1 + (length s - r.place)) 0 < 1 + (length s - st.place)
    on true e =
        let u = somewhere v.going.next e in
        omega (arith, v.after, u.after, u.stands.inside)
    on false e = omega arith

pub record Anywhere (s o : Bytes) (fs : List Waiting) (r : Reading) (out : Bytes) : Type 0 where
  pub i : ℕ
  pub going : Going s o fs i (Some r) out

-- what the loop knows: a turn may be asked for, and whatever was lent, the pass is on its way
pub record Passing (s o₀ : Bytes) (fs₀ : List Waiting) (st₀ : Reading) (o : Bytes) (fs : List Waiting) (st : Reading) : Type 0 where
  pub lent : Lent s fs st o
  pub not_ended : st.mode ≡ M.Ended → ⊥
  pub out_size : length o ≡ length o₀
  pub frames_size : length fs ≡ length fs₀
  pub tracks : (b : Bytes) (i : ℕ) → Going s b fs₀ i (Some st₀) o₀ → Anywhere s b fs st o

pub passing_more : {s o₀ o o' : Bytes} {fs₀ fs fs' : List Waiting} {st₀ st r : Reading} → Passing s o₀ fs₀ st₀ o fs st → StepTurn s fs st o (Some r) fs' o' × Unended (Some r) → length o' ≡ length o → Passing s o₀ fs₀ st₀ o' fs' r
passing_more {r = r} p turn size =
    let l = p.lent in
    let next = turn.0.1 l.o l.i l.going in
    record {
      lent = record { o = l.o; i = next.from; small = l.small; frames = omega (arith, l.frames, turn.0.0); going = next.going };
      not_ended = turn.1 r refl;
      out_size = size ∙ p.out_size;
      frames_size = turn.0.0 ∙ p.frames_size;
      tracks =
          λ b i g.
          let next = turn.0.1 b (p.tracks b i g).i (p.tracks b i g).going in
          record { i = next.from; going = next.going };
    }

none_read : {s o : Bytes} {K : Stack} {h i : ℕ} {out : Bytes} → Next s o K h i None out → outcome start s ≡ no_reading
none_read (next_none e) = e

-- a text that no tag is as short as
pub too_short : {s o : Bytes} → length s < 4 → Passed s o None o
too_short {s} l = passed_none (short_unread s l)

-- without a reading
pub passes_none : {s o : Bytes} {fs : List Waiting} {i : ℕ} {out : Bytes} → Going s o fs i None out → Passed s o None out
passes_none g = passed_none (none_read g.next)

pub passes : {s o : Bytes} {fs : List Waiting} {r : Reading} {out : Bytes} → Anywhere s o fs r out → goes_on r.mode ≡ false → (r.mode ≡ M.Ended → ⊥) → Passed s o (Some r) out
unfolding goes_on
passes {s} {o} {fs} {r} {out} a l m = on a.going.next
  where
    on : Next s o a.going.K a.going.h a.i (Some r) out → Passed s o (Some r) out
    on (next_tag k x nm v) = absurd (false≢true (sym l ∙ ap goes_on k))
    on (next_children k x p v) = absurd (false≢true (sym l ∙ ap goes_on k))
    on (next_inner k x p y v) = absurd (false≢true (sym l ∙ ap goes_on k))
    on (next_ended t k x v) = absurd (m k)
    on (next_done k e v) = passed_tag k e v

pub outer_lent : {s out out' : Bytes} {r : Reading} (fs : List Waiting) → length s ≤ 32768 → length s ≤ 2 * length fs → OuterTurn s out (Some r) out' × Unended (Some r) → Lent s fs r out' × (r.mode ≡ M.Ended → ⊥)
outer_lent {out = out} {r = r} fs small enough turn = (record { o = out; i = 1; small = small; frames = enough; going = turn.0 fs }, turn.1 r refl)
