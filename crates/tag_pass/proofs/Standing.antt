-- How the pass goes from one state of the reader to the next. Main statements: `move`, `refuses`, `later`, `to_tag`, `to_children`, `to_inner`.
-- Assumes nothing.
use Prim.Native.Nat.{ℕ, ◌+◌, ◌≤◌, ◌<◌}
use mathlib.Core.Path.{◌≡◌, refl, sym, ◌∙◌, ap, subst}
use mathlib.Core.Bool.{Bool, true, false, ◌&&◌}
use mathlib.Core.List.{◌∷◌}
use native.Mathlib.Omega.{arith}
use borrow.Author.Tests.{leb-true, le-leb}
use lib.Dec.{leb}
use lib.ListN.{length, drop}
use Rattle.std.specs.Prelude.{Option, Some, None}
use Rattle.std.proofs.lemmas.Option.{none-some}
use Rattle.field.specs.Bytes.{Bytes}
use Rattle.field.specs.Put.{put}
use Rattle.grammar.specs.Syntax.{Name, Attributes, Children}
use Rattle.grammar.specs.Reader.{Frame, Stack, State, opened, in_tag, in_children, no_reading, outcome}
use Rattle.read_tag.specs.Progress.{Plain}
use Rattle.read_tag.specs.Flags.{depth_of}
use Rattle.read_tag.proofs.FlagLaws.{and_true}
use Rattle.tag_pass.specs.declared.state.Holder.{Holder}
use Rattle.tag_pass.specs.declared.state.Mode.{Mode}
use Rattle.tag_pass.specs.declared.state.Mode.TheVariants as M
use Rattle.tag_pass.specs.Worlds.{World, more, tag_world, children_world, world_of, Made}
use Rattle.tag_pass.specs.States.{Named, kind_of, frame_name, PlainFrame, Fifty, Stands, Next, next_tag, next_children, next_inner, next_ended, next_done, next_none, Unended, Settled}
use Rattle.tag_pass.specs.Turns.{at_mode}
use Rattle.tag_pass.specs.declared.state.Reading.{Reading}
use Rattle.tag_pass.proofs.WorldLaws.{made_more}

-- ---- tests of depth: the deeper one decides

and_none : (t : Bool) → t && false ≡ false
and_none true = refl
and_none false = refl

pub deeper_decides : (a b : ℕ) → a ≤ b → leb a 48 && leb b 48 ≡ leb b 48
deeper_decides a b l = on (leb b 48) refl
  where
    on : (t : Bool) → leb b 48 ≡ t → leb a 48 && leb b 48 ≡ leb b 48
    on true e =
        let h : a ≤ 48 = omega (arith, leb-true b 48 e) in
        ap (λ (z : Bool). z && leb b 48) (le-leb a 48 h)
    on false e = ap (λ (z : Bool). leb a 48 && z) e ∙ and_none (leb a 48) ∙ sym e

-- ---- what is made

pub made_as : {o out : Bytes} {W : World} {at : ℕ} {a b d a' b' d' : Bool} → Made o W out at a b d → a' ≡ a → b' ≡ b → d' ≡ d → Made o W out at a' b' d'
made_as m e f g = record { at_is = m.at_is; out_is = m.out_is; names_is = e ∙ m.names_is; numbers_is = f ∙ m.numbers_is; shallow_is = g ∙ m.shallow_is }

-- something without names is written
pub made_wrote : {o out out' : Bytes} {W : World} {at at' : ℕ} {a b d : Bool} (w : Bytes) (y z : Bool) → Made o W out at a b d → at' ≡ at + length w → (y ≡ true → out' ≡ put out at w) → Made o (more W w true y z) out' at' a (b && y) (d && z)
made_wrote {a = a} {b = b} {d = d} w y z m e p = made_as (made_more w true y z m e p) (sym (and_true a)) refl refl

pub made_is : {o out : Bytes} {W W' : World} {at : ℕ} {a b d : Bool} → W ≡ W' → Made o W out at a b d → Made o W' out at a b d
made_is {o} {out} {W} {W'} {at} {a} {b} {d} e m = subst (λ (z : World). Made o z out at a b d) e m

-- ---- where the pass stands

pub move : {s o : Bytes} {x y : State} {W : World} {n : Name} {K : Stack} {h i j : ℕ} {st : Reading} {out : Bytes} → Stands s o x W n K h st i out → outcome x (drop i s) ≡ outcome y (drop j s) → i ≤ j → j ≤ length s → Stands s o y W n K h st j out
move g e l m = record { reads = g.reads ∙ e; inside = m; grown = omega (arith, g.grown); head_is = g.head_is; name_is = g.name_is; depth_is = g.depth_is; height_is = g.height_is; made = g.made }

pub refuses : {s o : Bytes} {x : State} {W : World} {n : Name} {K : Stack} {h i j : ℕ} {st : Reading} {out out' : Bytes} → Stands s o x W n K h st i out → outcome x (drop i s) ≡ no_reading → Next s o K h j None out'
refuses g e = next_none (g.reads ∙ e)

pub later : {s o : Bytes} {K : Stack} {h i j : ℕ} {r : Option Reading} {out : Bytes} → i ≤ j → Next s o K h j r out → Next s o K h i r out
later l (next_tag m p n g) = next_tag m (omega arith) n g
later l (next_children m p n g) = next_children m (omega arith) n g
later l (next_inner m p n f g) = next_inner m (omega arith) n f g
later l (next_ended t m p g) = next_ended t m (omega arith) g
later l (next_done m e g) = next_done m e g
later l (next_none e) = next_none e

-- a state whose world was made anew
pub remade : {s o : Bytes} {x : State} {W W' : World} {n : Name} {K : Stack} {h i : ℕ} {st : Reading} {out out' : Bytes} → Stands s o x W n K h st i out → Made o W' out' st.at st.names st.numbers st.shallow → Stands s o x W' n K h st i out'
remade g m = record { reads = g.reads; inside = g.inside; grown = g.grown; head_is = g.head_is; name_is = g.name_is; depth_is = g.depth_is; height_is = g.height_is; made = m }

pub to_tag : {s o : Bytes} {n : Name} {ps : Attributes} {K : Stack} {h i j : ℕ} {st r : Reading} {out : Bytes} → Stands s o (in_tag n ps K) (tag_world (world_of K) (depth_of K) n ps) n K h st i out → Named n → j < i → r ≡ at_mode st M.InTag i → Next s o K h j (Some r) out
to_tag {s} {o} {n} {ps} {K} {h} {i} {j} {st} {r} {out} g m l e =
    subst (λ (z : Reading). Next s o K h j (Some z) out) (sym e)
    (next_tag refl l m
    (record { reads = g.reads; inside = g.inside; grown = g.grown; head_is = g.head_is; name_is = g.name_is; depth_is = g.depth_is; height_is = g.height_is; made = g.made }))

pub to_children : {s o : Bytes} {n : Name} {ps : Attributes} {ks : Children} {K : Stack} {h i j : ℕ} {st r : Reading} {out : Bytes} → Stands s o (in_children n ps ks K) (children_world (world_of K) (depth_of K) n ps ks) n K h st i out → Plain n ps → j < i → r ≡ at_mode st M.InChildren i → Next s o K h j (Some r) out
to_children {s} {o} {n} {ps} {ks} {K} {h} {i} {j} {st} {r} {out} g m l e =
    subst (λ (z : Reading). Next s o K h j (Some z) out) (sym e)
    (next_children refl l m
    (record { reads = g.reads; inside = g.inside; grown = g.grown; head_is = g.head_is; name_is = g.name_is; depth_is = g.depth_is; height_is = g.height_is; made = g.made }))

pub to_inner : {s o : Bytes} {f : Frame} {K : Stack} {h i j : ℕ} {k : Holder} {st r : Reading} {out : Bytes} → Stands s o (opened (f ∷ K)) (world_of (f ∷ K)) (frame_name f) K h st i out → k ≡ kind_of f → PlainFrame f → Fifty (world_of K).bytes f st.fifty → j < i → r ≡ at_mode st (M.Inner k) i → Next s o K h j (Some r) out
to_inner {s} {o} {f} {K} {h} {i} {j} {k} {st} {r} {out} g q m p l e =
    subst (λ (z : Reading). Next s o K h j (Some z) out) (sym e)
    (next_inner (ap (λ (z : Holder). M.Inner z) q) l m p
    (record { reads = g.reads; inside = g.inside; grown = g.grown; head_is = g.head_is; name_is = g.name_is; depth_is = g.depth_is; height_is = g.height_is; made = g.made }))

-- ---- modes that a turn does not leave

some_mode : {r w : Reading} (m : Mode) → r.mode ≡ m → Some r ≡ Some w → w.mode ≡ m
some_mode {r} {w} m is e =
    let z : r ≡ w = cc in
    sym (ap (λ (x : Reading). x.mode) z) ∙ is

pub unended : {r : Reading} (m : Mode) → r.mode ≡ m → (m ≡ M.Ended → ⊥) → Unended (Some r)
unended m is p w e z = p (sym (some_mode m is e) ∙ z)

pub unended_none : Unended None
unended_none w e z = none-some w e

pub settled : {r : Reading} (m : Mode) → r.mode ≡ m → ((k : Holder) → m ≡ M.Inner k → ⊥) → (m ≡ M.Ended → ⊥) → Settled (Some r)
settled m is p q = record { not_inner = λ w k e z. p k (sym (some_mode m is e) ∙ z); not_ended = unended m is q }

pub settled_none : Settled None
settled_none = record { not_inner = λ w k e z. none-some w e; not_ended = unended_none }
