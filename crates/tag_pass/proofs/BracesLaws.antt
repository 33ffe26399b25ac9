-- Braces: what they hold is written, and they end. Main statements: `filled_value`, `filled_spread`, `filled_child`, `known_none`, `known_some`.
-- Assumes nothing.
use Prim.Native.Nat.{ℕ, zero, suc, ◌+◌, ◌-◌, ◌*◌, ◌≤◌, ◌<◌}
use mathlib.Core.Path.{◌≡◌, refl, sym, ◌∙◌, ap, ap₂, subst}
use mathlib.Core.Bool.{Bool, true, false, ◌&&◌, false≢true}
use mathlib.Core.List.{[], ◌∷◌, ◌++◌}
use mathlib.Core.Logic.{◌⊎◌, inl, inr}
use native.Mathlib.Omega.{arith}
use lib.Dec.{leb, eqb}
use Rattle.std.specs.List.{starts_with}
use Rattle.std.proofs.lemmas.Bool.{eqb-true}
use Rattle.std.proofs.lemmas.Bool.Decides.{Decides-eqb}
use Rattle.std.proofs.lemmas.Slice.Eq.{starts_is}
use lib.ListN.{length, drop, take, get_or, length-append, length-take, length-drop}
use lib.Seq.{take_all, drop-drop}
use borrow.Author.Tests.{ne_eqb, leb-true}
use Rattle.std.specs.Prelude.{Option, None, Some}
use Rattle.field.specs.Bytes.{Bytes}
use Rattle.field.specs.Row.{end, field, bytes}
use Rattle.field.specs.Put.{put, head, Wrote}
use Rattle.field.proofs.PutLaws.{length_head}
use Rattle.page.specs.Encode.{tag_row, expr_row}
use Rattle.grammar.specs.Known.{Known, whole, minus_whole, decimal, minus_decimal, quoted, boolean, null, other, known_of}
use Rattle.grammar.specs.Syntax as S
use Rattle.grammar.specs.Syntax.{Name, Attributes, Expr, same_name, every_tag, every_expr}
use Rattle.grammar.specs.Reader.{Braces, child_braces, spread_child_braces, value_braces, spread_braces, in_braces, Stack, filled, filled_if, opened, in_source, one_point, two_points, braces_opened, refused, emptied, pointed, step, at_end, no_reading, outcome}
use Rattle.grammar.proofs.Complete.{refused_never, skip_braces}
use Rattle.grammar.specs.Signs.{choose, space, source_start}
use Rattle.tag_tree.specs.PageTag.{page_tag, page_known, page_expr}
use Rattle.tag_tree.specs.TagAnswer.{shallow, known_in_range}
use Rattle.read_tag.specs.Progress.{begun, expr_bytes, child_bytes, attribute_bytes, attribute_begun, attr_name_bytes, braces_code}
use Rattle.read_tag.specs.Flags.{depth_of}
use Rattle.read_tag.proofs.FlagLaws.{and_assoc}
use Rattle.read_tag.specs.Knowns.{Holding, Holds}
use Rattle.read_tag.specs.declared.known.Held.{Held}
use Rattle.tag_pass.specs.declared.state.Braced.{Braced}
use Rattle.tag_pass.specs.declared.state.Braced.TheVariants as B
use Rattle.tag_pass.specs.declared.state.Holder.TheVariants as H
use Rattle.tag_pass.specs.declared.state.Mode.TheVariants as M
use Rattle.tag_pass.specs.Signs.{SignAt, Blank}
use Rattle.tag_pass.specs.Worlds.{World, more, any_known, any_names, tag_world, value_world, before_world, braces_at, braces_world, frame_world, world_of, Made}
use Rattle.tag_pass.specs.States.{braces_kind, kind_of, braces_name, frame_name, PlainBraces, PlainFrame, BracesFifty, Fifty, Bounded, Stands, Next}
use Rattle.tag_pass.specs.Turns.{at_mode, at_more, kind_code, kind_depth, Patched, AttributeEnded, FilledTurn, KnownTurn, BracesTurn, PointTurn}
use Rattle.read_tag.specs.Sources.{Sourced}
use Rattle.tag_pass.proofs.Machine.{reads, spaces, steps, stuck, out_of}
use Rattle.tag_pass.specs.declared.state.Reading.{Reading}
use Rattle.tag_pass.proofs.WorldLaws.{child_more, attribute_more, attribute_ended, braces_ended}
use Rattle.tag_pass.proofs.Sizes.{known_size}
use Rattle.tag_pass.proofs.Standing.{deeper_decides, made_as, made_wrote, made_is, remade, move, refuses, later, to_tag, to_children, to_inner}

-- ---- kinds

code_of_kind : (g : Braces) (k : Braced) → k ≡ braces_kind g → kind_code k ≡ braces_code g
unfolding kind_code braces_kind braces_code
code_of_kind (child_braces n ps ks) k e = ap kind_code e
code_of_kind (spread_child_braces n ps ks) k e = ap kind_code e
code_of_kind (value_braces a n ps) k e = ap kind_code e
code_of_kind (spread_braces n ps) k e = ap kind_code e

depth_in : (g : Braces) (d : ℕ) → d + kind_depth (braces_kind g) ≡ braces_at g d
unfolding kind_depth braces_kind braces_at
depth_in (child_braces n ps ks) d = omega arith
depth_in (spread_child_braces n ps ks) d = omega arith
depth_in (value_braces a n ps) d = omega arith
depth_in (spread_braces n ps) d = omega arith

depth_of_kind : (g : Braces) (k : Braced) (d : ℕ) → k ≡ braces_kind g → d + kind_depth k ≡ braces_at g d
depth_of_kind g k d e = ap (λ (z : Braced). d + kind_depth z) e ∙ depth_in g d

-- ---- bounds at a later place

pub bounded_on : {n i j : ℕ} {st : Reading} → Bounded n st i → i ≤ j → j ≤ n → Bounded n st j
bounded_on b l m = record { small = b.small; inside = m; grown = omega (arith, b.grown); deep = b.deep }

-- ---- what the leaves answer, as numbers

shallow_known : (k : Known) → shallow 0 (expr_row (page_expr (S.known_expr k)) end) ≡ true
unfolding page_tag page_known tag_row shallow
shallow_known (whole n) = refl
shallow_known (minus_whole n) = refl
shallow_known (decimal n p) = refl
shallow_known (minus_decimal n p) = refl
shallow_known (quoted w) = refl
shallow_known (boolean b) = refl
shallow_known null = refl
shallow_known (other w) = refl

held_known : (f : Option Known) (o : Bytes) (a : ℕ) (o' : Bytes) {q : Held} → Holds f o a o' (Some q) → (k : Known) × (f ≡ Some k) × Holding k o a o' q
unfolding Holds
held_known None o a o' held = absurd held
held_known (Some k) o a o' held = (k, refl, held)

pub held_deep : (f : Option Known) (o : Bytes) (a : ℕ) (o' : Bytes) (q : Held) → Holds f o a o' (Some q) → q.deep ≤ 48
held_deep f o a o' q held =
    let h = held_known f o a o' held in
    let l = leb-true (0 + q.deep) 48 (sym (h.2.depth 0) ∙ shallow_known h.0) in
    omega arith

held_small : (s : Bytes) (j e : ℕ) (o : Bytes) (a : ℕ) (o' : Bytes) (q : Held) → Holds (known_of (take (e - j) (drop j s))) o a o' (Some q) → q.at ≤ a + 12 + (e - j)
held_small s j e o a o' q held =
    let h = held_known (known_of (take (e - j) (drop j s))) o a o' held in
    omega (arith, h.2.place, known_size (take (e - j) (drop j s)) h.0 h.1, length-take (e - j) (drop j s))

pub source_bounds : {e : ℕ} (s : Bytes) (j : ℕ) → Sourced s j (Some e) → (j ≤ e) × (e < length s)
unfolding Sourced
source_bounds s j ends = (ends.0, ends.1)

-- ---- their field ends

-- what stands behind the braces' own world once they have ended
abbrev filled_world : World → ℕ → Braces → Expr → World
filled_world W d g e =
    more (before_world W d g) (bytes (field (braces_code g) [] (expr_row (page_expr e) end) end)) (every_expr e same_name any_known) (every_expr e any_names known_in_range)
    (shallow (braces_at g d) (field (braces_code g) [] (expr_row (page_expr e) end) end))

room_for : (B : World) (t at b : ℕ) (w : Bytes) → at ≡ length ((B.bytes ++ head t 0) ++ w) → b ≡ length B.bytes → b + 3 ≤ at
room_for B t at b w e f = omega (arith, length-append (B.bytes ++ head t 0) w, length-append B.bytes (head t 0), length_head t 0)

filled_made : {o out out' : Bytes} {at b t : ℕ} {k : Braced} {u v w : Bool} (W : World) (d : ℕ) (g : Braces) (e : Expr) → k ≡ braces_kind g → t ≡ kind_code k → b ≡ length (before_world W d g).bytes → Made o (more (braces_world W d g) (expr_bytes e) (every_expr e same_name any_known) (every_expr e any_names known_in_range) (shallow (suc (braces_at g d)) (expr_row (page_expr e) end))) out at u v w → Patched out b t at out' → Made o (filled_world W d g e) out' at u v w
unfolding braces_world expr_bytes
filled_made {out = out} {out'} {at} {b} {t} {k} W d g e q c l m p =
    let B : World = before_world W d g in
    let f : out' ≡ put out b (head t (at - b - 3)) = p (room_for B (braces_code g) at b (bytes (expr_row (page_expr e) end)) m.at_is l) in
    braces_ended B (braces_at g d) (braces_code g) (expr_row (page_expr e) end) (every_expr e same_name any_known) (every_expr e any_names known_in_range) m l
    (f ∙ ap (λ (z : ℕ). put out b (head z (at - b - 3))) (c ∙ code_of_kind g k q))

-- the head of the attribute lies before what its value was written to
pub value_room : (W : World) (d : ℕ) (a n : Name) (ps : Attributes) (w : Bytes) (at f : ℕ) → at ≡ length ((value_world W d a n ps).bytes ++ w) → f ≡ length (begun W.bytes n ps) → f + 3 ≤ at
unfolding value_world tag_world attribute_begun
value_room W d a n ps w at f e q =
    let u : Bytes = begun W.bytes n ps in
    omega (arith, length-append (u ++ (head 0x50 0 ++ attr_name_bytes a)) w, length-append u (head 0x50 0 ++ attr_name_bytes a), length-append (head 0x50 0) (attr_name_bytes a), length_head 0x50 0)

-- a value: the attribute ends too
pub filled_value : {out out₁ out₂ : Bytes} {st r : Reading} {k : Braced} {b i t : ℕ} → Patched out b t st.at out₁ → t ≡ kind_code k → k ≡ B.Value → AttributeEnded out₁ st i r out₂ → FilledTurn st k b i out (Some r) out₂
unfolding braces_kind braces_code filled PlainBraces BracesFifty braces_name before_world braces_at every_tag page_tag tag_row
filled_value {out} {out₁} {out₂} {st} {r} {k} {b} {i} {t} p c is a s o e (value_braces x n ps) K h j l q len plain fifty g =
    let W : World = world_of K in
    let d : ℕ = depth_of K in
    let m : Made o (filled_world W d (value_braces x n ps) e) out₁ st.at st.names st.numbers st.shallow = filled_made W d (value_braces x n ps) e q c len g.made p in
    let room : st.fifty + 3 ≤ st.at = value_room W d x n ps (bytes (field 0x52 [] (expr_row (page_expr e) end) end)) st.at st.fifty m.at_is fifty in
    to_tag (remade g (attribute_ended W d x n ps (S.container_value x e) (field 0x52 [] (expr_row (page_expr e) end) end) refl m fifty (a.patched room))) plain l a.is
filled_value p c is a s o e (child_braces n ps ks) K h j l q len plain fifty g = cc
filled_value p c is a s o e (spread_child_braces n ps ks) K h j l q len plain fifty g = cc
filled_value p c is a s o e (spread_braces n ps) K h j l q len plain fifty g = cc

-- a spread in a tag
pub filled_spread : {out out₁ : Bytes} {st r : Reading} {k : Braced} {b i t : ℕ} → Patched out b t st.at out₁ → t ≡ kind_code k → k ≡ B.Spread → r ≡ at_mode st M.InTag i → FilledTurn st k b i out (Some r) out₁
unfolding braces_kind braces_code filled PlainBraces BracesFifty braces_name before_world braces_at every_tag page_tag tag_row attribute_bytes
filled_spread {out} {out₁} {st} {r} {k} {b} {i} {t} p c is a s o e (spread_braces n ps) K h j l q len plain fifty g =
    let W : World = world_of K in
    let d : ℕ = depth_of K in
    let m : Made o (filled_world W d (spread_braces n ps) e) out₁ st.at st.names st.numbers st.shallow = filled_made W d (spread_braces n ps) e q c len g.made p in
    to_tag (remade g (made_is (attribute_more W d n ps (S.spread_attribute e)) m)) plain l a
filled_spread p c is a s o e (child_braces n ps ks) K h j l q len plain fifty g = cc
filled_spread p c is a s o e (spread_child_braces n ps ks) K h j l q len plain fifty g = cc
filled_spread p c is a s o e (value_braces x n ps) K h j l q len plain fifty g = cc

pub child_kind : {k : Braced} → (k ≡ B.Child) ⊎ (k ≡ B.SpreadChild) → (k ≡ B.Value → ⊥) × (k ≡ B.Spread → ⊥)
child_kind (inl e) = (λ z. cc, λ z. cc)
child_kind (inr e) = (λ z. cc, λ z. cc)

-- a child
pub filled_child : {out out₁ : Bytes} {st r : Reading} {k : Braced} {b i t : ℕ} → Patched out b t st.at out₁ → t ≡ kind_code k → (k ≡ B.Value → ⊥) → (k ≡ B.Spread → ⊥) → r ≡ at_mode st M.InChildren i → FilledTurn st k b i out (Some r) out₁
unfolding braces_kind braces_code filled PlainBraces BracesFifty braces_name before_world braces_at every_tag page_tag tag_row child_bytes
filled_child {out} {out₁} {st} {r} {k} {b} {i} {t} p c value spread a s o e (child_braces n ps ks) K h j l q len plain fifty g =
    let W : World = world_of K in
    let d : ℕ = depth_of K in
    let m : Made o (filled_world W d (child_braces n ps ks) e) out₁ st.at st.names st.numbers st.shallow = filled_made W d (child_braces n ps ks) e q c len g.made p in
    to_children (remade g (made_is (child_more W d n ps ks (S.container_child e)) m)) plain l a
filled_child {out} {out₁} {st} {r} {k} {b} {i} {t} p c value spread a s o e (spread_child_braces n ps ks) K h j l q len plain fifty g =
    let W : World = world_of K in
    let d : ℕ = depth_of K in
    let m : Made o (filled_world W d (spread_child_braces n ps ks) e) out₁ st.at st.names st.numbers st.shallow = filled_made W d (spread_child_braces n ps ks) e q c len g.made p in
    to_children (remade g (made_is (child_more W d n ps ks (S.spread_child e)) m)) plain l a
filled_child p c value spread a s o e (spread_braces n ps) K h j l q len plain fifty g = absurd (spread q)
filled_child p c value spread a s o e (value_braces x n ps) K h j l q len plain fifty g = absurd (value q)

braces_made : {o out : Bytes} {at : ℕ} {a b c : Bool} (W : World) (D : ℕ) (g : Braces) (w : Bytes) (x y z : Bool) → Made o (more (more (before_world W D g) (head (braces_code g) 0) true true (leb (braces_at g D) 48)) w x y z) out at a b c → Made o (more (braces_world W D g) w x y z) out at a b c
unfolding braces_world
braces_made W D g w x y z m = m

-- ---- what they hold is no tag

pub known_none : {s out out' : Bytes} {st : Reading} {k : Braced} {j : ℕ} (e : ℕ) (o₁ o₂ : Bytes) (a : ℕ) → Holds (known_of (take (e - j) (drop j s))) o₁ a o₂ None → KnownTurn s st k j e out None out'
unfolding Holds filled_if
known_none {s} {out} {out'} {st} {k} {j} e o₁ o₂ a unread g K kind plain fifty o h = on (known_of (take (e - j) (drop j s))) unread
  where
    on : (f : Option Known) → Holds f o₁ a o₂ None → Stands s o (filled_if f g K) (before_world (world_of K) (depth_of K) g) (braces_name g) K h st (e + 1) out → Next s o K h j None out'
    on None held stands = refuses stands (refused_never (drop (e + 1) s))
    on (Some x) held stands = absurd held

-- the number of the world, and the depth, as the pass counts them
known_flags : (a y : Bool) → a && y ≡ (a && true) && y
known_flags true y = refl
known_flags false y = refl

known_depths : (a b c : Bool) → b && c ≡ c → a && c ≡ (a && b) && c
known_depths a b c e = ap (λ (z : Bool). a && z) (sym e) ∙ sym (and_assoc a b c)

pub known_bound : {out out₁ : Bytes} {st w : Reading} {j e a t : ℕ} (s out₂ : Bytes) (x : Bool) (q : Held) → Bounded (length s) st j → j ≤ e → e < length s → Wrote out st.at (head t 0) out₁ a → Holds (known_of (take (e - j) (drop j s))) out₁ a out₂ (Some q) → w ≡ at_more st q.at q.fits x → w.at < 4611686018427387904
known_bound {out} {out₁} {st} {w} {j} {e} {a} {t} s out₂ x q k lo hi wr held ws =
    let at : w.at ≡ q.at = ap (λ (z : Reading). z.at) ws in
    omega (arith, k.small, k.grown, wr.end_is, length_head t 0, held_small s j e out₁ a out₂ q held)

pub known_some : {s out out₁ out₂ out₃ : Bytes} {st w : Reading} {r : Option Reading} {k : Braced} {j e a t d x : ℕ} (q : Held) → j ≤ e → e < length s → st.at ≤ 16 * j → Wrote out st.at (head t 0) out₁ a → t ≡ kind_code k → Holds (known_of (take (e - j) (drop j s))) out₁ a out₂ (Some q) → d ≡ kind_depth k → x ≡ st.depth + d + 1 + q.deep → w ≡ at_more st q.at q.fits (leb x 48) → FilledTurn w k st.at (e + 1) out₂ r out₃ → KnownTurn s st k j e out r out₃
unfolding Holds filled_if every_tag
known_some {s} {out} {out₁} {out₂} {out₃} {st} {w} {r} {k} {j} {e} {a} {t} {d} {x} q lo hi grown wr code held dep xs ws f g K kind plain fifty o h = on (known_of (take (e - j) (drop j s))) refl held
  where
    on : (y : Option Known) → known_of (take (e - j) (drop j s)) ≡ y → Holds y out₁ a out₂ (Some q) → Stands s o (filled_if y g K) (before_world (world_of K) (depth_of K) g) (braces_name g) K h st (e + 1) out → Next s o K h j r out₃
    on None eq held stands = absurd held
    on (Some y) eq held stands =
        let W : World = world_of K in
        let B : World = before_world W (depth_of K) g in
        let E : ℕ = braces_at g (depth_of K) in
        let c : t ≡ braces_code g = code ∙ code_of_kind g k kind in
        let m₁ : Made o (more B (head t 0) true true (leb E 48)) out₁ a st.names (st.numbers && true) (st.shallow && leb E 48) = made_wrote (head t 0) true (leb E 48) stands.made wr.end_is (λ z. wr.out_is) in
        let m₂ = made_wrote (expr_bytes (S.known_expr y)) (known_in_range y) (shallow (suc E) (expr_row (page_expr (S.known_expr y)) end)) m₁ held.place (λ z. (held.wrote (held.in_limit ∙ z)).out_is) in
        let de : st.depth + d ≡ E = ap₂ (λ (u v : ℕ). u + v) stands.depth_is dep ∙ depth_of_kind g k (depth_of K) kind in
        let dx : x ≡ suc E + q.deep = omega arith in
        let sh : shallow (suc E) (expr_row (page_expr (S.known_expr y)) end) ≡ leb x 48 = held.depth (suc E) ∙ ap (λ (z : ℕ). leb z 48) (sym dx) in
        let len : length (take (e - j) (drop j s)) ≤ e - j = omega (arith, length-take (e - j) (drop j s)) in
        let sz : q.at ≤ 16 * (e + 1) = omega (arith, held.place, wr.end_is, length_head t 0, known_size (take (e - j) (drop j s)) y eq) in
        let flags : st.shallow && leb x 48 ≡ (st.shallow && leb E 48) && shallow (suc E) (expr_row (page_expr (S.known_expr y)) end) =
        known_depths st.shallow (leb E 48) (leb x 48) (deeper_decides E x (omega arith)) ∙ ap (λ (z : Bool). (st.shallow && leb E 48) && z) (sym sh) in
        let m₃ = made_as m₂ refl (ap (λ (z : Bool). st.numbers && z) held.in_limit ∙ known_flags st.numbers (known_in_range y)) flags in
        let m₄ : Made o (more (more B (head (braces_code g) 0) true true (leb E 48)) (expr_bytes (S.known_expr y)) true (known_in_range y) (shallow (suc E) (expr_row (page_expr (S.known_expr y)) end))) out₂ q.at st.names (st.numbers && q.fits) (st.shallow && leb x 48) =
        subst (λ (z : ℕ). Made o (more (more B (head z 0) true true (leb E 48)) (expr_bytes (S.known_expr y)) true (known_in_range y) (shallow (suc E) (expr_row (page_expr (S.known_expr y)) end))) out₂ q.at st.names (st.numbers && q.fits) (st.shallow && leb x 48)) c m₃ in
        let f' : FilledTurn (at_more st q.at q.fits (leb x 48)) k st.at (e + 1) out₂ r out₃ = subst (λ (z : Reading). FilledTurn z k st.at (e + 1) out₂ r out₃) ws f in
        f' s o (S.known_expr y) g K h j (omega arith) kind stands.made.at_is plain fifty
        (record { reads = stands.reads; inside = stands.inside; grown = sz; head_is = stands.head_is; name_is = stands.name_is; depth_is = stands.depth_is; height_is = stands.height_is; made = braces_made W (depth_of K) g (expr_bytes (S.known_expr y)) true (known_in_range y) (shallow (suc E) (expr_row (page_expr (S.known_expr y)) end)) m₄ })

-- ---- a tag in them

pub braces_tag : {s out out₁ : Bytes} {st w r : Reading} {k : Braced} {j a t d x : ℕ} → j < length s → get_or s j 0 ≡ 60 → st.at ≤ 16 * j → Wrote out st.at (head t 0) out₁ a → t ≡ kind_code k → d ≡ kind_depth k → x ≡ st.depth + d → w ≡ at_more st a true (leb x 48) → r ≡ at_mode w (M.Inner (H.Braces k)) (j + 1) → BracesTurn s st k j out (Some r) out₁
unfolding step choose space world_of frame_world frame_name kind_of PlainFrame Fifty braces_world
braces_tag {s} {out} {out₁} {st} {w} {r} {k} {j} {a} {t} {d} {x} lo sign grown wr code dep xs ws rs g K kind plain fifty o h stands =
    let W : World = world_of K in
    let B : World = before_world W (depth_of K) g in
    let E : ℕ = braces_at g (depth_of K) in
    let c : t ≡ braces_code g = code ∙ code_of_kind g k kind in
    let m₁ : Made o (more B (head t 0) true true (leb E 48)) out₁ a st.names (st.numbers && true) (st.shallow && leb E 48) = made_wrote (head t 0) true (leb E 48) stands.made wr.end_is (λ z. wr.out_is) in
    let de : x ≡ E = xs ∙ ap₂ (λ (u v : ℕ). u + v) stands.depth_is dep ∙ depth_of_kind g k (depth_of K) kind in
    let m₂ : Made o (more B (head t 0) true true (leb E 48)) out₁ a st.names (st.numbers && true) (st.shallow && leb x 48) = made_as m₁ refl refl (ap (λ (z : ℕ). st.shallow && leb z 48) de) in
    let m₃ : Made o (more B (head (braces_code g) 0) true true (leb E 48)) out₁ a st.names (st.numbers && true) (st.shallow && leb x 48) = subst (λ (z : ℕ). Made o (more B (head z 0) true true (leb E 48)) out₁ a st.names (st.numbers && true) (st.shallow && leb x 48)) c m₂ in
    let one : step (braces_opened g K) (get_or s j 0) ≡ opened (in_braces g ∷ K) = ap (step (braces_opened g K)) sign in
    to_inner {f = in_braces g} {st = at_more st a true (leb x 48)}
    (record { reads = stands.reads ∙ steps (braces_opened g K) (opened (in_braces g ∷ K)) s j lo one; inside = omega arith; grown = omega (arith, wr.end_is, length_head t 0); head_is = stands.head_is; name_is = stands.name_is; depth_is = stands.depth_is; height_is = stands.height_is; made = m₃ })
    (ap (λ (z : Braced). H.Braces z) kind) plain fifty (omega arith) (rs ∙ ap (λ (z : Reading). at_mode z (M.Inner (H.Braces k)) (j + 1)) ws)

-- ---- signs that they do not begin with

pub bracket_barred : {s out out' : Bytes} {st : Reading} {k : Braced} {j : ℕ} → j < length s → get_or s j 0 ≡ 91 → BracesTurn s st k j out None out'
unfolding step choose space source_start
bracket_barred {s} {out} {out'} {st} {k} {j} lo sign g K kind plain fifty o h stands = refuses stands (stuck (braces_opened g K) s j lo (ap (step (braces_opened g K)) sign))

-- the reader of source text takes over
source_takes : (c : ℕ) (g : Braces) (K : Stack) → space c ≡ false → (c ≡ 60 → ⊥) → (c ≡ 125 → ⊥) → (c ≡ 46 → ⊥) → (c ≡ 91 → ⊥) → step (braces_opened g K) c ≡ step (in_source zero [] g K) c
unfolding step source_start choose
source_takes c g K a b d e f = simp (a, ne_eqb c 60 b, ne_eqb c 125 d, ne_eqb c 46 e, ne_eqb c 91 f)

takes_over : (s : Bytes) (j : ℕ) (g : Braces) (K : Stack) → j < length s → space (get_or s j 0) ≡ false → (get_or s j 0 ≡ 60 → ⊥) → (get_or s j 0 ≡ 125 → ⊥) → (get_or s j 0 ≡ 46 → ⊥) → (get_or s j 0 ≡ 91 → ⊥) → outcome (braces_opened g K) (drop j s) ≡ outcome (in_source zero [] g K) (drop j s)
takes_over s j g K lo a b d e f =
    steps (braces_opened g K) (step (in_source zero [] g K) (get_or s j 0)) s j lo (source_takes (get_or s j 0) g K a b d e f) ∙
    sym (steps (in_source zero [] g K) (step (in_source zero [] g K) (get_or s j 0)) s j lo refl)

pub source_none : {s out out' : Bytes} {st : Reading} {k : Braced} {j : ℕ} → j < length s → space (get_or s j 0) ≡ false → (get_or s j 0 ≡ 60 → ⊥) → (get_or s j 0 ≡ 125 → ⊥) → (get_or s j 0 ≡ 46 → ⊥) → (get_or s j 0 ≡ 91 → ⊥) → Sourced s j None → BracesTurn s st k j out None out'
unfolding Sourced
source_none {s} {out} {out'} {st} {k} {j} lo a b d e f unread g K kind plain fifty o h stands =
    refuses stands (takes_over s j g K lo a b d e f ∙ unread g K)

pub source_some : {s out out' : Bytes} {st : Reading} {r : Option Reading} {k : Braced} {j : ℕ} (e : ℕ) → j < length s → space (get_or s j 0) ≡ false → (get_or s j 0 ≡ 60 → ⊥) → (get_or s j 0 ≡ 125 → ⊥) → (get_or s j 0 ≡ 46 → ⊥) → (get_or s j 0 ≡ 91 → ⊥) → Sourced s j (Some e) → KnownTurn s st k j e out r out' → BracesTurn s st k j out r out'
unfolding Sourced
source_some {s} {out} {out'} {st} {r} {k} {j} e lo a b d p f ends turn g K kind plain fifty o h stands =
    turn g K kind plain fifty o h (move stands (takes_over s j g K lo a b d p f ∙ ends.2 g K) (omega (arith, ends.0)) (omega (arith, ends.1)))

-- ---- white space first

pub braces_out : {s out out' : Bytes} {st : Reading} {k : Braced} {i : ℕ} → Blank s i → BracesTurn s st k i out None out'
unfolding at_end
braces_out {s} {out} {out'} {st} {k} {i} at g K kind plain fifty o h stands = refuses stands (skip_braces g K (spaces at.ran) ∙ out_of (braces_opened g K) s at.j at.out refl)

-- braces that are not a child's are not empty, and begin with no point
braces_empty : {s out out' : Bytes} {st : Reading} {k : Braced} {i j : ℕ} {c : ℕ} → (k ≡ B.Child → ⊥) → SignAt s i j c → c ≡ 125 → BracesTurn s st k i out None out'
unfolding step choose space braces_kind emptied
braces_empty {s} {out} {out'} {st} {k} {i} {j} not_child at sign g K kind plain fifty o h stands =
    refuses stands (skip_braces g K (spaces at.ran) ∙ stuck (braces_opened g K) s j at.inside (ap (step (braces_opened g K)) (reads at sign) ∙ on g kind))
  where
    on : (g : Braces) → k ≡ braces_kind g → emptied g K ≡ refused
    on (child_braces n ps ks) e = absurd (not_child e)
    on (spread_child_braces n ps ks) e = refl
    on (value_braces a n ps) e = refl
    on (spread_braces n ps) e = refl

braces_pointed : {s out out' : Bytes} {st : Reading} {k : Braced} {i j : ℕ} {c : ℕ} → (k ≡ B.Child → ⊥) → SignAt s i j c → c ≡ 46 → BracesTurn s st k i out None out'
unfolding step choose space braces_kind pointed
braces_pointed {s} {out} {out'} {st} {k} {i} {j} not_child at sign g K kind plain fifty o h stands =
    refuses stands (skip_braces g K (spaces at.ran) ∙ stuck (braces_opened g K) s j at.inside (ap (step (braces_opened g K)) (reads at sign) ∙ on g kind))
  where
    on : (g : Braces) → k ≡ braces_kind g → pointed g K ≡ refused
    on (child_braces n ps ks) e = absurd (not_child e)
    on (spread_child_braces n ps ks) e = refl
    on (value_braces a n ps) e = refl
    on (spread_braces n ps) e = refl

pub braces_barred : {s out out' : Bytes} {st : Reading} {k : Braced} {i j c : ℕ} → (k ≡ B.Child → ⊥) → SignAt s i j c → (c ≡ 46) ⊎ (c ≡ 125) → BracesTurn s st k i out None out'
braces_barred x at (inl e) = braces_pointed x at e
braces_barred x at (inr e) = braces_empty x at e

pub braces_behind : {s out out' : Bytes} {st : Reading} {r : Option Reading} {k : Braced} {i j c : ℕ} → SignAt s i j c → BracesTurn s st k j out r out' → BracesTurn s st k i out r out'
braces_behind at turn g K kind plain fifty o h stands = later at.ran.after (turn g K kind plain fifty o h (move stands (skip_braces g K (spaces at.ran)) at.ran.after at.ran.inside))

-- ---- points

-- without two points more, whatever follows
no_points : (w : Bytes) (g : Braces) (K : Stack) → ((u : Bytes) → w ≡ 46 ∷ 46 ∷ u → ⊥) → outcome (one_point g K) w ≡ no_reading
unfolding outcome at_end step choose
no_points [] g K never = refl
no_points (a ∷ []) g K never = on (eqb a 46)
  where
    on : (x : Bool) → outcome (choose x (two_points g K) refused) [] ≡ no_reading
    on true = refl
    on false = refl
no_points (a ∷ b ∷ w) g K never = on (eqb a 46) refl (eqb b 46) refl
  where
    on : (x : Bool) → eqb a 46 ≡ x → (y : Bool) → eqb b 46 ≡ y → outcome (choose x (two_points g K) refused) (b ∷ w) ≡ no_reading
    on false p y q = refused_never (b ∷ w)
    on true p false q = ap (λ (z : Bool). outcome (choose z (braces_opened g K) refused) w) q ∙ refused_never w
    on true p true q = absurd (never w (ap₂ (λ (x y : ℕ). x ∷ y ∷ w) (eqb-true a 46 p) (eqb-true b 46 q)))

-- what the test for them says
begins : (s : Bytes) (i : ℕ) (b : Bool) → b ≡ starts_with eqb (take (length s - i) (drop i s)) (46 ∷ 46 ∷ []) → (b ≡ true → drop i s ≡ 46 ∷ 46 ∷ drop 2 (drop i s)) × ((u : Bytes) → drop i s ≡ 46 ∷ 46 ∷ u → b ≡ true)
begins s i b e =
    let whole : take (length s - i) (drop i s) ≡ drop i s = take_all (length s - i) (drop i s) (omega (arith, length-drop i s)) in
    starts_is Decides-eqb (drop i s) (46 ∷ 46 ∷ []) b (e ∙ ap (λ (x : Bytes). starts_with eqb x (46 ∷ 46 ∷ [])) whole)

pub points_none : {s out out' : Bytes} {st : Reading} {k : Braced} {i : ℕ} {b : Bool} → b ≡ starts_with eqb (take (length s - i) (drop i s)) (46 ∷ 46 ∷ []) → b ≡ false → PointTurn s st k i out None out'
points_none {s} {i = i} {b} e f g K kind plain fifty o h stands = refuses stands (no_points (drop i s) g K (λ u p. false≢true (sym f ∙ (begins s i b e).1 u p)))

two_on : (u : Bytes) (g : Braces) (K : Stack) → outcome (one_point g K) (46 ∷ 46 ∷ u) ≡ outcome (braces_opened g K) u
unfolding outcome step choose
two_on u g K = refl

pub points_three : {s out out' : Bytes} {st : Reading} {r : Option Reading} {k : Braced} {i : ℕ} {b : Bool} → b ≡ starts_with eqb (take (length s - i) (drop i s)) (46 ∷ 46 ∷ []) → b ≡ true → BracesTurn s st k (i + 2) out r out' → PointTurn s st k i out r out'
points_three {s} {i = i} {b} e t turn g K kind plain fifty o h stands =
    let p : drop i s ≡ 46 ∷ 46 ∷ drop 2 (drop i s) = (begins s i b e).0 t in
    let q : drop 2 (drop i s) ≡ drop (i + 2) s = drop-drop 2 i s in
    let room : i + 2 ≤ length s = omega (arith, ap length p, length-drop i s, length-drop 2 (drop i s)) in
    later (omega arith)
    (turn g K kind plain fifty o h
    (move stands (ap (outcome (one_point g K)) p ∙ two_on (drop 2 (drop i s)) g K ∙ ap (outcome (braces_opened g K)) q) (omega arith) room))
