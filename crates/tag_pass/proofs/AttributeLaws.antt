-- Attributes: a name, its value, and a spread. Main statements: `attribute_found`, `value_done`. Assumes nothing.
use Prim.Native.Nat.{ℕ, suc, ◌+◌, ◌*◌, ◌≤◌, ◌<◌}
use mathlib.Core.Path.{◌≡◌, refl, sym, ◌∙◌, ap, ap₂, subst}
use mathlib.Core.Bool.{Bool, true, false, ◌&&◌, not}
use mathlib.Core.List.{[], ◌∷◌, ◌++◌}
use native.Mathlib.Omega.{arith}
use borrow.Author.Tests.{eq-eqb, ne_eqb}
use lib.Dec.{T, leb, eqb}
use lib.ListN.{length, drop, get_or, length-drop}
use Rattle.std.specs.Prelude.{Option, Some, None}
use Rattle.field.specs.Bytes.{Bytes}
use Rattle.field.specs.Row.{Row, end, field, field_bytes, bytes}
use Rattle.field.specs.Put.{head, Wrote}
use Rattle.field.proofs.PutLaws.{length_head, length_field_bytes, wrote_then}
use Rattle.page.specs.Page as P
use Rattle.page.specs.Encode.{attr_name_row, tag_row, attributes_row}
use Rattle.grammar.specs.Signs.{choose, space, quote, equals_sign}
use Rattle.grammar.specs.Syntax as S
use Rattle.grammar.specs.Syntax.{Name, Attributes, attribute_name_fits, same_name, every_tag, every_attribute}
use Rattle.grammar.specs.Grammar.{Ends}
use Rattle.grammar.specs.Reader.{value_braces, spread_braces, value_of, Stack, for_attribute, in_tag, attribute_named, equals, in_string, spread_opened, one_point, braces_opened, opened, fits, named, refused, step, step_attribute_named, at_end, outcome}
use Rattle.grammar.proofs.Complete.{skip_equals, skip_spread, no_value_leaves, string_opens, refused_never}
use Rattle.tag_tree.specs.PageTag.{page_attr_name, page_tag, page_attribute}
use Rattle.tag_tree.specs.TagAnswer.{shallow, known_in_range}
use Rattle.read_tag.specs.Progress.{name_bytes, attr_name_bytes, begun, attribute_begun}
use Rattle.read_tag.specs.Flags.{depth_of}
use Rattle.read_tag.specs.Shapes.{name_tag}
use Rattle.read_tag.specs.Names.{named_if, NameAt, FoundName, Scanned, NamePut, name_depth}
use Rattle.read_tag.specs.Texts.{StringRead, StringEnds}
use Rattle.read_tag.specs.declared.name.ScannedName.{ScannedName}
use Rattle.read_tag.specs.declared.texts.Run.{Run}
use Rattle.read_tag.proofs.FlagLaws.{and_true}
use Rattle.read_tag.proofs.NameFieldLaws.{attr_name_same, member_tag}
use Rattle.read_tag.proofs.NameLimitLaws.{shallow_attr_name}
use Rattle.read_tag.proofs.ProgressLaws as L
use Rattle.tag_pass.specs.declared.state.Braced.TheVariants as B
use Rattle.tag_pass.specs.declared.state.Holder.TheVariants as H
use Rattle.tag_pass.specs.declared.state.Mode.TheVariants as M
use Rattle.tag_pass.specs.Signs.{SignAt, Blank}
use Rattle.tag_pass.specs.Worlds.{World, more, any_known, any_names, tag_world, value_world, before_world, frame_world, world_of, Made}
use Rattle.tag_pass.specs.States.{Named, braces_kind, kind_of, braces_name, frame_name, PlainBraces, PlainFrame, BracesFifty, Fifty, Bounded, Stands, Next}
use Rattle.tag_pass.specs.Turns.{at_mode, at_more, at_fifty, BracesTurn, PointTurn, AttributeTurn, NoValueTurn, StringTurn, ValueTurn, SpreadTurn, AttributeEnded}
use Rattle.tag_pass.specs.declared.state.Reading.{Reading}
use Rattle.read_tag.proofs.RunLaws.{next}
use Rattle.tag_pass.proofs.Machine.{reads, differs, told, spaces, not_space, steps, stuck, out_of}
use Rattle.tag_pass.proofs.WorldLaws.{more_none, attribute_ended}
use Rattle.tag_pass.proofs.Sizes.{name_size}
use Rattle.tag_pass.proofs.BracesLaws.{value_room}
use Rattle.tag_pass.proofs.Standing.{deeper_decides, made_as, made_wrote, made_is, remade, move, refuses, later, to_tag, to_inner}

-- ---- an attribute ends

pub value_done : {s o out out' : Bytes} {K : Stack} {h i j : ℕ} {st r : Reading} (a n : Name) (ps : Attributes) (b : S.Attribute) (x : Row) → attributes_row (page_attribute b P.no_attributes) end ≡ field 0x50 [] (attr_name_row (page_attr_name a) x) end → Stands s o (in_tag n (S.add_attribute ps b) K) (more (value_world (world_of K) (depth_of K) a n ps) (bytes x) (every_attribute b same_name any_known) (every_attribute b any_names known_in_range) (shallow (suc (suc (depth_of K))) x)) n K h st i out → Named n → st.fifty ≡ length (begun (world_of K).bytes n ps) → AttributeEnded out st i r out' → j < i → Next s o K h j (Some r) out'
value_done {K = K} {st = st} a n ps b x row g m fifty ended l =
    to_tag
    (remade g
    (attribute_ended (world_of K) (depth_of K) a n ps b x row g.made fifty
    (ended.patched (value_room (world_of K) (depth_of K) a n ps (bytes x) st.at st.fifty g.made.at_is fifty))))
    m l ended.is

-- ---- strings

pub string_none : {s out out₁ : Bytes} {st : Reading} {i q : ℕ} → StringRead q s i out st.at out₁ None → StringTurn s st i q out None out₁
unfolding StringRead
string_none unread a n ps K nm fifty o h stands = refuses stands (unread.1 a n ps K)

string_shallow : (d : ℕ) (w : Bytes) → leb (suc (suc d)) 48 ≡ shallow (suc (suc d)) (field 0x51 w end end)
unfolding shallow
string_shallow d w = sym (and_true (leb (suc (suc d)) 48))

string_row : (a : Name) (w : Bytes) → attributes_row (page_attribute (S.string_value a w) P.no_attributes) end ≡ field 0x50 [] (attr_name_row (page_attr_name a) (field 0x51 w end end)) end
unfolding page_tag tag_row
string_row a w = refl

string_world : (B : World) (d : ℕ) (a : Name) (w : Bytes) → more B (field_bytes 0x51 w) true true (leb (suc (suc d)) 48) ≡ more B (bytes (field 0x51 w end end)) (every_attribute (S.string_value a w) same_name any_known) (every_attribute (S.string_value a w) any_names known_in_range) (shallow (suc (suc d)) (field 0x51 w end end))
unfolding every_tag
string_world B d a w = ap₂ (λ (b : Bytes) (z : Bool). more B b true true z) (sym (L.leaf_alone 0x51 w)) (string_shallow d w)

pub string_some : {s out out₁ out₂ : Bytes} {st w r : Reading} {i q x : ℕ} {run : Run} → st.at ≤ 16 * i → StringRead q s i out st.at out₁ (Some run) → x ≡ st.depth + 2 → w ≡ at_more st run.at true (leb x 48) → AttributeEnded out₁ w run.end r out₂ → StringTurn s st i q out (Some r) out₂
unfolding StringRead
string_some {s} {out} {out₁} {out₂} {st} {w} {r} {i} {q} {x} {run} grown t xs ws ended a n ps K nm fifty o h stands =
    let e : ℕ = run.end in
    let a' : ℕ = run.at in
    let u : StringEnds q s i e out st.at out₁ a' = t in
    let d : ℕ = depth_of K in
    let v : Bytes = u.text in
    let B : World = value_world (world_of K) d a n ps in
    let dx : x ≡ suc (suc d) = xs ∙ ap (λ (z : ℕ). z + 2) stands.depth_is ∙ omega arith in
    let m₁ : Made o (more B (field_bytes 0x51 v) true true (leb (suc (suc d)) 48)) out₁ a' st.names (st.numbers && true) (st.shallow && leb (suc (suc d)) 48) = made_wrote (field_bytes 0x51 v) true (leb (suc (suc d)) 48) stands.made u.wrote.end_is (λ z. u.wrote.out_is) in
    let ended' : AttributeEnded out₁ (at_more st a' true (leb x 48)) e r out₂ = subst (λ (z : Reading). AttributeEnded out₁ z e r out₂) ws ended in
    value_done a n ps (S.string_value a v) (field 0x51 v end end) (string_row a v)
    (record {
      reads = stands.reads ∙ u.leads a n ps K;
      inside = u.inside;
      grown = omega (arith, u.short, u.wrote.end_is, length_field_bytes 0x51 v);
      head_is = stands.head_is;
      name_is = stands.name_is;
      depth_is = stands.depth_is;
      height_is = stands.height_is;
      made = made_is (string_world B d a v) (made_as m₁ refl refl (ap (λ (z : ℕ). st.shallow && leb z 48) dx));
    })
    nm fifty ended' u.after

pub string_small : (run : Run) (s out out₁ : Bytes) (i q at : ℕ) → StringRead q s i out at out₁ (Some run) → run.at ≤ at + 3 + length s
unfolding StringRead
string_small run s out out₁ i q at t =
    let u : StringEnds q s i run.end out at out₁ run.at = t in
    omega (arith, u.wrote.end_is, length_field_bytes 0x51 u.text, u.short, u.inside)

-- ---- behind `=`

pub value_out : {s out out' : Bytes} {st : Reading} {i : ℕ} → Blank s i → ValueTurn s st i out None out'
unfolding at_end
value_out {s} {i = i} at a n ps K nm fifty o h stands = refuses stands (skip_equals a n ps K (spaces at.ran) ∙ out_of (equals a n ps K) s at.j at.out refl)

is_T : (b : Bool) → b ≡ true → T b
is_T b e = subst T (sym e) tt

pub value_string : {s out out' : Bytes} {st : Reading} {r : Option Reading} {i j : ℕ} {c : ℕ} → SignAt s i j c → true ≡ quote c → StringTurn s st (j + 1) c out r out' → ValueTurn s st i out r out'
value_string {s} {i = i} {j} {c} at is turn a n ps K nm fifty o h stands =
    later (omega (arith, at.ran.after))
    (turn a n ps K nm fifty o h
    (move stands (skip_equals a n ps K (spaces at.ran) ∙ steps (equals a n ps K) (in_string c [] a n ps K) s j at.inside (ap (step (equals a n ps K)) (sym at.byte_is) ∙ string_opens c a n ps K (is_T (quote c) (sym is)))) (omega (arith, at.ran.after)) (omega arith)))

pub value_braced : {s out out' : Bytes} {st : Reading} {r : Option Reading} {i j : ℕ} {c : ℕ} → SignAt s i j c → c ≡ 123 → BracesTurn s st B.Value (j + 1) out r out' → ValueTurn s st i out r out'
unfolding step choose space quote braces_kind PlainBraces BracesFifty before_world braces_name
value_braced {s} {i = i} {j} at sign turn a n ps K nm fifty o h stands =
    later (omega (arith, at.ran.after))
    (turn (value_braces a n ps) K refl nm fifty o h
    (move stands (skip_equals a n ps K (spaces at.ran) ∙ steps (equals a n ps K) (braces_opened (value_braces a n ps) K) s j at.inside (ap (step (equals a n ps K)) (reads at sign))) (omega (arith, at.ran.after)) (omega arith)))

pub value_tag : {s out : Bytes} {st r : Reading} {i j : ℕ} {c : ℕ} → SignAt s i j c → c ≡ 60 → r ≡ at_mode st (M.Inner H.Value) (j + 1) → ValueTurn s st i out (Some r) out
unfolding step choose space quote world_of frame_world frame_name kind_of PlainFrame Fifty
value_tag {s} {i = i} {j} at sign rs a n ps K nm fifty o h stands =
    to_inner {f = value_of a n ps}
    (move stands (skip_equals a n ps K (spaces at.ran) ∙ steps (equals a n ps K) (opened (value_of a n ps ∷ K)) s j at.inside (ap (step (equals a n ps K)) (reads at sign))) (omega (arith, at.ran.after)) (omega arith)) refl nm fifty (omega (arith, at.ran.after)) rs

pub value_barred : {s out out' : Bytes} {st : Reading} {i j : ℕ} {c : ℕ} → SignAt s i j c → false ≡ quote c → (c ≡ 123 → ⊥) → (c ≡ 60 → ⊥) → ValueTurn s st i out None out'
unfolding step choose
value_barred {s} {i = i} {j} at is p q a n ps K nm fifty o h stands =
    let no_quote : quote (get_or s j 0) ≡ false = told quote at is in
    refuses stands (skip_equals a n ps K (spaces at.ran) ∙ stuck (equals a n ps K) s j at.inside (simp (not_space at.ran at.inside, no_quote, ne_eqb (get_or s j 0) 123 (differs at p), ne_eqb (get_or s j 0) 60 (differs at q))))

-- ---- behind the name

pub named_out : {s out out' : Bytes} {st : Reading} {e : ℕ} → length s ≤ e → NoValueTurn s st e out None out'
unfolding at_end
named_out {s} {e = e} hi a n ps K nm fifty o h i l stands = refuses stands (out_of (attribute_named a n ps K) s e hi refl)

pub named_equals : {s out out' : Bytes} {st : Reading} {r : Option Reading} {e : ℕ} → e < length s → get_or s e 0 ≡ 61 → ValueTurn s st (e + 1) out r out' → NoValueTurn s st e out r out'
unfolding step step_attribute_named choose
named_equals {s} {e = e} lo sign turn a n ps K nm fifty o h i l stands =
    later (omega arith) (turn a n ps K nm fifty o h (move stands (steps (attribute_named a n ps K) (equals a n ps K) s e lo (ap (step (attribute_named a n ps K)) sign)) (omega arith) (omega arith)))

no_equals : (s : Bytes) (e : ℕ) → e < length s → (get_or s e 0 ≡ 61 → ⊥) → Ends equals_sign (drop e s)
unfolding Ends equals_sign
no_equals s e lo p = subst (Ends equals_sign) (sym (next s e lo)) (is_T (not (eqb (get_or s e 0) 61)) (ap not (ne_eqb (get_or s e 0) 61 p)))

no_value_row : (a : Name) → attributes_row (page_attribute (S.no_value a) P.no_attributes) end ≡ field 0x50 [] (attr_name_row (page_attr_name a) end) end
unfolding page_tag tag_row
no_value_row a = refl

no_value_world : (B : World) (d : ℕ) (a : Name) → B ≡ more B (bytes end) (every_attribute (S.no_value a) same_name any_known) (every_attribute (S.no_value a) any_names known_in_range) (shallow (suc (suc d)) end)
unfolding every_tag bytes shallow
no_value_world B d a = sym (more_none B)

pub named_alone : {s out out' : Bytes} {st r : Reading} {e : ℕ} → e < length s → (get_or s e 0 ≡ 61 → ⊥) → AttributeEnded out st e r out' → NoValueTurn s st e out (Some r) out'
named_alone {s} {st = st} {e = e} lo sign ended a n ps K nm fifty o h i l stands =
    value_done a n ps (S.no_value a) end (no_value_row a)
    (remade (move stands (no_value_leaves (drop e s) a n ps K (no_equals s e lo sign)) (omega arith) (omega arith)) (made_is (no_value_world (value_world (world_of K) (depth_of K) a n ps) (depth_of K) a) stands.made))
    nm fifty ended l

-- ---- the name

pub attribute_none : {s out out' : Bytes} {st : Reading} {i : ℕ} → Scanned s i None → AttributeTurn s st i out None out'
unfolding Scanned
attribute_none unread n ps K nm o h stands = refuses stands (unread (for_attribute n ps K))

pub found : {s : Bytes} {i : ℕ} {x : ScannedName} → Scanned s i (Some x) → FoundName s i x.tag x.end
unfolding Scanned
found t = t

pub attribute_member : {s out out' : Bytes} {st : Reading} {i : ℕ} (x : ScannedName) → Scanned s i (Some x) → x.tag ≡ 0x41 → AttributeTurn s st i out None out'
unfolding named_if fits choose
attribute_member {s} {i = i} x t is_member n ps K nm o h stands =
    let f : FoundName s i x.tag x.end = found t in
    let bad : attribute_name_fits f.name ≡ false = member_tag f.name f.fits_tag ∙ ap not (eq-eqb (name_tag f.name) 0x41 (sym f.tag_is ∙ is_member)) in
    refuses stands (f.leads (for_attribute n ps K) ∙ ap (λ (b : Bool). outcome (choose b (named (for_attribute n ps K) f.name) refused) (drop x.end s)) bad ∙ refused_never (drop x.end s))

pub deep_enough : (t d : ℕ) → d ≤ name_depth t d
unfolding name_depth choose
deep_enough t d = on (eqb t 0x40)
  where
    on : (b : Bool) → d ≤ choose b d (d + 1)
    on true = omega arith
    on false = omega arith

pub attribute_found : {s out out₁ out₂ out₃ : Bytes} {st w v : Reading} {r : Option Reading} {i a b d y : ℕ} {x : ScannedName} → st.at ≤ 16 * i → Scanned s i (Some x) → (x.tag ≡ 0x41 → ⊥) → Wrote out st.at (head 0x50 0) out₁ a → NamePut s i x.tag x.end out₁ a out₂ b → y ≡ st.depth + 2 → d ≡ name_depth x.tag y → w ≡ at_more st b true (leb d 48) → v ≡ at_fifty w st.at → NoValueTurn s v x.end out₂ r out₃ → AttributeTurn s st i out r out₃
unfolding NamePut named_if fits named choose attribute_begun value_world tag_world
attribute_found {s} {out} {out₁} {out₂} {out₃} {st} {w} {v} {r} {i} {a} {b} {d} {y} {x} grown t no_member wr put_name ys ds ws vs turn n ps K nm o h stands =
    let e : ℕ = x.end in
    let f : FoundName s i x.tag e = found t in
    let N : Name = f.name in
    let D : ℕ = depth_of K in
    let good : attribute_name_fits N ≡ true = member_tag N f.fits_tag ∙ ap not (ne_eqb (name_tag N) 0x41 (λ z. no_member (f.tag_is ∙ z))) in
    let tgood : T (attribute_name_fits N) = is_T (attribute_name_fits N) good in
    let wn = put_name N f.is f.fits_tag f.tag_is in
    let same : attr_name_bytes N ≡ name_bytes N = attr_name_same N tgood in
    let both : Wrote out st.at (head 0x50 0 ++ attr_name_bytes N) out₂ b = subst (λ (z : Bytes). Wrote out st.at (head 0x50 0 ++ z) out₂ b) (sym same) (wrote_then wr wn) in
    let yd : y ≡ suc (suc D) = ys ∙ ap (λ (z : ℕ). z + 2) stands.depth_is ∙ omega arith in
    let dd : d ≡ name_depth (name_tag N) (suc (suc D)) = ds ∙ ap₂ name_depth f.tag_is yd in
    let G : Bool = leb (suc D) 48 && shallow (suc (suc D)) (attr_name_row (page_attr_name N) end) in
    let deep : suc D ≤ d = omega (arith, dd, deep_enough (name_tag N) (suc (suc D))) in
    let flag : leb d 48 ≡ G = sym (deeper_decides (suc D) d deep) ∙ ap (λ (z : Bool). leb (suc D) 48 && z) (ap (λ (z : ℕ). leb z 48) dd ∙ sym (shallow_attr_name N (suc (suc D)) tgood)) in
    let m₁ = made_wrote (head 0x50 0 ++ attr_name_bytes N) true G stands.made both.end_is (λ z. both.out_is) in
    let turn' : NoValueTurn s (at_fifty (at_more st b true (leb d 48)) st.at) e out₂ r out₃ = subst (λ (z : Reading). NoValueTurn s z e out₂ r out₃) (vs ∙ ap (λ (z : Reading). at_fifty z st.at) ws) turn in
    let size = name_size f.is in
    turn' N n ps K nm stands.made.at_is o h i f.after
    (record {
      reads = stands.reads ∙ (f.leads (for_attribute n ps K) ∙ ap (λ (z : Bool). outcome (choose z (named (for_attribute n ps K) N) refused) (drop e s)) good);
      inside = f.inside;
      grown = omega (arith, wr.end_is, wn.end_is, length_head 0x50 0, size, f.after, f.inside, length-drop i s, length-drop e s);
      head_is = stands.head_is;
      name_is = stands.name_is;
      depth_is = stands.depth_is;
      height_is = stands.height_is;
      made = made_as m₁ refl refl (ap (λ (z : Bool). st.shallow && z) flag);
    })

pub name_found : (x : ScannedName) (s : Bytes) (i : ℕ) → Scanned s i (Some x) → NameAt s i
name_found x s i t =
    let f : FoundName s i x.tag x.end = found t in
    record { name = f.name; rest = drop x.end s; is = f.is }

pub name_span : (x : ScannedName) (s : Bytes) (i : ℕ) → Scanned s i (Some x) → (i ≤ x.end) × (x.end ≤ length s)
name_span x s i t =
    let f : FoundName s i x.tag x.end = found t in
    (omega (arith, f.after), f.inside)

pub attribute_bounded : {out out₁ : Bytes} {st w v : Reading} {i a b c : ℕ} (x : ScannedName) (s out₂ : Bytes) (z : Bool) → Bounded (length s) st i → Scanned s i (Some x) → Wrote out st.at (head c 0) out₁ a → NamePut s i x.tag x.end out₁ a out₂ b → w ≡ at_more st b true z → v ≡ at_fifty w st.at → Bounded (length s) v x.end
unfolding NamePut
attribute_bounded {out} {out₁} {st} {w} {v} {i} {a} {b} {c} x s out₂ z k t wr put_name ws vs =
    let e : ℕ = x.end in
    let f : FoundName s i x.tag e = found t in
    let wn = put_name f.name f.is f.fits_tag f.tag_is in
    let size = name_size f.is in
    let at : v.at ≡ b = ap (λ (y : Reading). y.at) vs ∙ ap (λ (y : Reading). y.at) ws in
    let depth : v.depth ≡ st.depth = ap (λ (y : Reading). y.depth) vs ∙ ap (λ (y : Reading). y.depth) ws in
    record {
      small = k.small;
      inside = f.inside;
      grown = omega (arith, k.grown, wr.end_is, wn.end_is, length_head c 0, size, f.after, f.inside, length-drop i s, length-drop e s);
      deep = omega (arith, k.deep);
    }

-- ---- spreads

pub spread_out : {s out out' : Bytes} {st : Reading} {i : ℕ} → Blank s i → SpreadTurn s st i out None out'
unfolding at_end
spread_out {s} {i = i} at n ps K nm o h stands = refuses stands (skip_spread n ps K (spaces at.ran) ∙ out_of (spread_opened n ps K) s at.j at.out refl)

pub spread_barred : {s out out' : Bytes} {st : Reading} {i j : ℕ} {c : ℕ} → SignAt s i j c → (c ≡ 46 → ⊥) → SpreadTurn s st i out None out'
unfolding step choose
spread_barred {s} {i = i} {j} at p n ps K nm o h stands = refuses stands (skip_spread n ps K (spaces at.ran) ∙ stuck (spread_opened n ps K) s j at.inside (simp (not_space at.ran at.inside, ne_eqb (get_or s j 0) 46 (differs at p))))

pub spread_pointed : {s out out' : Bytes} {st : Reading} {r : Option Reading} {i j : ℕ} {c : ℕ} → SignAt s i j c → c ≡ 46 → PointTurn s st B.Spread (j + 1) out r out' → SpreadTurn s st i out r out'
unfolding step choose space braces_kind PlainBraces BracesFifty before_world braces_name
spread_pointed {s} {i = i} {j} at sign turn n ps K nm o h stands =
    later (omega (arith, at.ran.after))
    (turn (spread_braces n ps) K refl nm tt o h
    (move stands (skip_spread n ps K (spaces at.ran) ∙ steps (spread_opened n ps K) (one_point (spread_braces n ps) K) s j at.inside (ap (step (spread_opened n ps K)) (reads at sign))) (omega (arith, at.ran.after)) (omega arith)))
