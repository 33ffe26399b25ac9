-- The stack of the pass: tags put on it and found there. Main statements: `stacked_push`, `stacked_depth`, `waited_last`. Assumes nothing.
use Prim.Native.Nat.{ℕ, ◌+◌, ◌-◌, ◌*◌, ◌%◌, ◌≤◌, ◌<◌}
use mathlib.Core.Path.{◌≡◌, refl, sym, ◌∙◌, ap, subst}
use mathlib.Core.List.{List, ◌∷◌}
use native.Mathlib.Omega.{arith}
use lib.ListN.{length, take, get_or, set}
use lib.Seq.{get_or-set_same, get_or-set_other}
use Rattle.std.specs.Prelude.{Some}
use Rattle.std.specs.List.{slice_get}
use Rattle.std.proofs.lemmas.List.{length-take-le, get_or-take}
use Rattle.std.proofs.lemmas.Option.{slice_get_within, get_or_from_slice_get}
use Rattle.field.specs.Bytes.{Bytes}
use Rattle.grammar.specs.Reader.{child_braces, spread_child_braces, value_braces, spread_braces, Frame, within, value_of, in_braces, Stack}
use Rattle.read_tag.specs.Flags.{depth_of, braces_depth}
use Rattle.tag_pass.specs.declared.frames.Waiting.{Waiting}
use Rattle.tag_pass.specs.declared.state.Braced.{Braced}
use Rattle.tag_pass.specs.declared.state.Braced.TheVariants as B
use Rattle.tag_pass.specs.declared.state.Holder.{Holder}
use Rattle.tag_pass.specs.declared.state.Holder.TheVariants as H
use Rattle.tag_pass.specs.States.{kind_of, braces_kind, idle, Framed, Stacked, empty, frame}
use Rattle.tag_pass.specs.Turns.{kind_depth, inner_depth}

pub kind_depth_small : (k : Braced) → kind_depth k ≤ 2
unfolding kind_depth
kind_depth_small B.Child = omega arith
kind_depth_small B.SpreadChild = omega arith
kind_depth_small B.Spread = omega arith
kind_depth_small B.Value = omega arith

pub inner_depth_small : (k : Holder) → inner_depth k ≤ 3
unfolding inner_depth
inner_depth_small H.Children = omega arith
inner_depth_small H.Value = omega arith
inner_depth_small (H.Braces k) = omega (arith, kind_depth_small k)

depth_added : (f : Frame) (K : Stack) → depth_of (f ∷ K) ≡ depth_of K + inner_depth (kind_of f)
unfolding kind_of braces_kind kind_depth inner_depth depth_of braces_depth
depth_added (within n ps ks) K = omega arith
depth_added (value_of a n ps) K = omega arith
depth_added (in_braces (child_braces n ps ks)) K = omega arith
depth_added (in_braces (spread_child_braces n ps ks)) K = omega arith
depth_added (in_braces (value_braces a n ps)) K = omega arith
depth_added (in_braces (spread_braces n ps)) K = omega arith

pub added_of : (f : Frame) (K : Stack) (k : Holder) → k ≡ kind_of f → depth_of (f ∷ K) ≡ depth_of K + inner_depth k
added_of f K k e = depth_added f K ∙ ap (λ (z : Holder). depth_of K + inner_depth z) (sym e)

-- ---- frames

-- what stands below a height alone matters
agree : {s : Bytes} {fs fs' : List Waiting} {h : ℕ} {K : Stack} → ((j : ℕ) → j < h → get_or fs' j idle ≡ get_or fs j idle) → Stacked s fs h K → Stacked s fs' h K
agree p empty = empty
agree {s} p (frame {h} {f} {K} u st) = frame (subst (λ (x : Waiting). Framed s x f K) (sym (p h (omega arith))) u) (agree (λ j l. p j (omega arith)) st)

pub stacked_push : {s : Bytes} {fs fs' : List Waiting} {h : ℕ} {x : Waiting} {K : Stack} (f : Frame) → Stacked s fs h K → h < length fs → fs' ≡ set fs h x → Framed s x f K → Stacked s fs' (h + 1) (f ∷ K)
stacked_push {s} {fs} {fs'} {h} {x} {K} f st l e u =
    subst (λ (z : List Waiting). Stacked s z (h + 1) (f ∷ K)) (sym e)
    (frame (subst (λ (y : Waiting). Framed s y f K) (sym (get_or-set_same fs h x idle l)) u) (agree (λ j m. get_or-set_other fs h j x idle (λ z. omega arith)) st))

pub stacked_depth : {s : Bytes} {fs : List Waiting} {h : ℕ} {K : Stack} → Stacked s fs h K → depth_of K ≤ 3 + 3 * h
unfolding depth_of
stacked_depth empty = omega arith
stacked_depth (frame {h} {f} {K} u st) = omega (arith, added_of f K (kind_of f) refl, inner_depth_small (kind_of f), stacked_depth st)

pub low_is : (x : ℕ) → x < 4294967296 → x % 4294967296 ≡ x
low_is x l = omega arith

-- ---- the tag that waited last

pub none_waits : (fs : List Waiting) (h : ℕ) → h ≤ length fs → length (take h fs) ≤ 0 → h ≡ 0
none_waits fs h l z = omega (arith, length-take-le h fs l, z)

pub waited_last : (fs : List Waiting) (h : ℕ) (x : Waiting) → h ≤ length fs → Some x ≡ slice_get (take h fs) (length (take h fs) - 1) → (h ≡ 0 → ⊥) × (x ≡ get_or fs (h - 1) idle)
waited_last fs h x l e =
    let n = length-take-le h fs l in
    let k = slice_get_within (take h fs) (length (take h fs) - 1) x (sym e) in
    (λ z. omega (arith, n, k, z), sym (get_or_from_slice_get (take h fs) (length (take h fs) - 1) x idle (sym e)) ∙ (get_or-take h fs (length (take h fs) - 1) idle (omega (arith, n, k)) ∙ ap (λ (m : ℕ). get_or fs (m - 1) idle) n))
