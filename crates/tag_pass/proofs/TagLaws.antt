-- Tags: how they open, and how they end. Main statements: `tag_done`, `named_found`, `fragment_opens`, `closing_named`. Assumes nothing.
use Prim.Native.Nat.{ℕ, suc, ◌+◌, ◌-◌, ◌*◌, ◌≤◌, ◌<◌}
use mathlib.Core.Path.{◌≡◌, refl, sym, ◌∙◌, ap, ap₂, subst}
use mathlib.Core.Bool.{Bool, true, false, ◌&&◌, ◌||◌, not}
use mathlib.Core.List.{[], ◌∷◌, ◌++◌, append-nil}
use native.Mathlib.Omega.{arith}
use borrow.Author.Tests.{eq-eqb, ne_eqb}
use lib.Dec.{T, leb}
use lib.ListN.{length, drop, get_or, length-drop, length-append}
use Rattle.std.specs.Prelude.{Option, Some, None, is_some}
use Rattle.field.specs.Bytes.{Bytes, same}
use Rattle.field.specs.Row.{bytes}
use Rattle.field.specs.Put.{put, head, Wrote}
use Rattle.field.proofs.PutLaws.{length_head, wrote_then}
use Rattle.names.proofs.CompareLaws.{same_refl}
use Rattle.page.specs.Encode.{tag_row}
use Rattle.grammar.specs.Signs.{choose, letter, space, name_goes_on}
use Rattle.grammar.specs.Syntax as S
use Rattle.grammar.specs.Syntax.{part, Name, Attributes, no_attributes, Children, no_children, tag, tag_name_fits, attribute_name_fits, member_fits, same_name, every_tag}
use Rattle.grammar.specs.Grammar.{Ends, IsParts, no_parts, one_part, IsName, is_name}
use Rattle.grammar.specs.Reader.{Stack, State, for_tag, for_attribute, for_closing, in_ident, in_tag, slashed, spread_opened, in_children, closing, close_named, closed, fits, named, refused, step, step_tag, step_close_named, at_end, outcome}
use Rattle.grammar.proofs.Tests.{chose}
use Rattle.grammar.proofs.Complete.{skip_tag, skip_slashed, skip_closing}
use Rattle.tag_tree.specs.PageTag.{page_tag}
use Rattle.tag_tree.specs.TagAnswer.{shallow}
use Rattle.read_tag.specs.Progress.{tag_code, name_bytes, attributes_bytes, children_bytes, begun, Plain}
use Rattle.read_tag.specs.Flags.{depth_of}
use Rattle.read_tag.specs.Shapes.{name_tag}
use Rattle.read_tag.specs.Names.{named_if, FoundName, Scanned, NamePut, NamesCompared, name_depth}
use Rattle.read_tag.specs.declared.name.ScannedName.{ScannedName}
use Rattle.read_tag.proofs.FlagLaws.{and_true}
use Rattle.read_tag.proofs.NameLimitLaws as NL
use Rattle.tag_pass.specs.declared.state.Mode.TheVariants as M
use Rattle.tag_pass.specs.Signs.{SignAt, Blank}
use Rattle.tag_pass.specs.Worlds.{World, more, shallow_name, tag_world, children_world, world_of, Made}
use Rattle.tag_pass.specs.States.{TagName, no_name, name_at, Named, Stands, Next, next_ended, next_none}
use Rattle.tag_pass.specs.Turns.{at_mode, at_more, at_begin, name_code, AttributeTurn, SlashedTurn, SpreadTurn, TagTurn, ClosingTurn, NamedTurn, FragmentTurn, TagEnded, ClosingCompared}
use Rattle.tag_pass.specs.declared.state.Reading.{Reading}
use Rattle.read_tag.proofs.RunLaws.{next}
use Rattle.tag_pass.proofs.Machine.{reads, differs, told, spaces, not_space, steps, stuck, out_of}
use Rattle.tag_pass.proofs.WorldLaws.{world_is, no_children_yet, tag_ended}
use Rattle.tag_pass.proofs.Sizes.{name_size}
use Rattle.tag_pass.proofs.AttributeLaws.{found, deep_enough}
use Rattle.tag_pass.proofs.Standing.{deeper_decides, made_as, made_wrote, made_is, remade, move, refuses, later, to_tag, to_children}

-- ---- names

same_self : (n : Name) → same_name n n ≡ true
unfolding same_name
same_self [] = refl
same_self (part d w ∷ ps) = simp (eq-eqb d d refl, same_refl w, same_self ps)

named_plain : (n : Name) (ps : Attributes) → Named n → Plain n ps
unfolding Named Plain
named_plain [] ps m = absurd m
named_plain (p ∷ n) ps m = tt

fits_named : (n : Name) → T (tag_name_fits n) → Named n
unfolding tag_name_fits attribute_name_fits member_fits Named
fits_named [] t = absurd t
fits_named (p ∷ n) t = tt

not_letter : (b : Bool) → not b ≡ true → b ≡ false
not_letter true e = sym e
not_letter false e = refl

pub is_letter : (b : Bool) → not b ≡ false → b ≡ true
is_letter true e = refl
is_letter false e = sym e

-- the code and the comparison with an empty name go by the place
code_named : (p : ℕ) (n : Name) → T (tag_name_fits n) → name_code (Some p) ≡ tag_code n
unfolding name_code tag_code Named
code_named p [] t = absurd (fits_named [] t)
code_named p (q ∷ n) t = refl

code_at : {s : Bytes} {p : Option ℕ} {n : Name} → TagName s p n → name_code p ≡ tag_code n
unfolding name_code tag_code
code_at no_name = refl
code_at (name_at {p} {n} r i t) = code_named p n t

empty_named : (b : Bool) (n : Name) → T (tag_name_fits n) → true ≡ not b → b ≡ same_name n []
unfolding same_name Named
empty_named b [] t e = absurd (fits_named [] t)
empty_named b (q ∷ n) t e = not_letter b (sym e)

empty_at : {s : Bytes} {p : Option ℕ} {n : Name} {b : Bool} → TagName s p n → is_some p ≡ not b → b ≡ same_name n []
unfolding same_name
empty_at {b = b} no_name e = is_letter b (sym e)
empty_at {b = b} (name_at {p} {n} r i t) e = empty_named b n t e

pub same_none : {s : Bytes} {p : Option ℕ} (j : ℕ) → p ≡ None → ClosingCompared s p j false
unfolding same_name
same_none {s} {p} j e n m r no_name (is_name i q) = refl
same_none {s} {p} j e n m r (name_at x i t) q = cc

pub same_some : (s : Bytes) (p : Option ℕ) (q j : ℕ) (b : Bool) → NamesCompared s q j b → p ≡ Some q → ClosingCompared s p j b
unfolding NamesCompared
same_some s p q j b compared e n m r no_name x = cc
same_some s p q j b compared e n m r (name_at {p = place} y i t) x =
    let z : place ≡ q = cc in
    compared n m y r (subst (λ (k : ℕ). IsName (drop k s) n y) z i) x

first : (a b : Bool) → T (not (a || b)) → a ≡ false
first true b t = absurd t
first false b t = refl

name_shallow : (n : Name) (d : ℕ) → T (tag_name_fits n) → shallow_name d n ≡ leb (name_depth (name_tag n) d) 48
unfolding shallow_name Named
name_shallow [] d t = absurd (fits_named [] t)
name_shallow (p ∷ n) d t = NL.shallow_name (p ∷ n) d t

-- ---- a tag ends

head_room : (W : World) (d : ℕ) (n : Name) (ps : Attributes) (ks : Children) (at h : ℕ) → at ≡ length (children_world W d n ps ks).bytes → h ≡ length W.bytes → h + 3 ≤ at
unfolding children_world tag_world begun
head_room W d n ps ks at h e f =
    omega (arith, length-append (W.bytes ++ (head (tag_code n) 0 ++ (name_bytes n ++ attributes_bytes ps))) (children_bytes ks), length-append W.bytes (head (tag_code n) 0 ++ (name_bytes n ++ attributes_bytes ps)), length-append (head (tag_code n) 0) (name_bytes n ++ attributes_bytes ps), length_head (tag_code n) 0)

pub tag_done : {s o out out' : Bytes} {n : Name} {K : Stack} {h i j : ℕ} {b : Bool} {st r : Reading} (m : Name) (ps : Attributes) (ks : Children) → Stands s o (closed (tag n ps ks m) K) (children_world (world_of K) (depth_of K) n ps ks) n K h st i out → Plain n ps → b ≡ same_name n m → TagEnded out st b i r out' → j < i → Next s o K h j (Some r) out'
tag_done {s} {o} {out} {out'} {n} {K} {h} {i} {j} {b} {st} {r} m ps ks g plain same ended l =
    let f : out' ≡ put out st.head (head (name_code st.name) (st.at - st.head - 3)) = ended.patched (head_room (world_of K) (depth_of K) n ps ks st.at st.head g.made.at_is g.head_is) in
    let f' = f ∙ ap (λ (z : ℕ). put out st.head (head z (st.at - st.head - 3))) (code_at g.name_is) in
    subst (λ (z : Reading). Next s o K h j (Some z) out') (sym ended.is)
    (next_ended (tag n ps ks m) refl l
    (record {
      reads = g.reads;
      inside = g.inside;
      grown = g.grown;
      head_is = g.head_is;
      name_is = g.name_is;
      depth_is = g.depth_is;
      height_is = g.height_is;
      made = tag_ended (world_of K) (depth_of K) n ps ks m b plain same g.made g.head_is f';
    }))

-- ---- behind `/`

pub slashed_out : {s out out' : Bytes} {st : Reading} {i : ℕ} → Blank s i → SlashedTurn s st i out None out'
unfolding at_end
slashed_out {s} {i = i} at n ps K nm o h stands = refuses stands (skip_slashed n ps K (spaces at.ran) ∙ out_of (slashed n ps K) s at.j at.out refl)

pub slashed_barred : {s out out' : Bytes} {st : Reading} {i j : ℕ} {c : ℕ} → SignAt s i j c → (c ≡ 62 → ⊥) → SlashedTurn s st i out None out'
unfolding step choose
slashed_barred {s} {i = i} {j} at p n ps K nm o h stands = refuses stands (skip_slashed n ps K (spaces at.ran) ∙ stuck (slashed n ps K) s j at.inside (simp (not_space at.ran at.inside, ne_eqb (get_or s j 0) 62 (differs at p))))

pub slashed_ends : {s out out' : Bytes} {st r : Reading} {i j : ℕ} {c : ℕ} → SignAt s i j c → c ≡ 62 → TagEnded out st true (j + 1) r out' → SlashedTurn s st i out (Some r) out'
unfolding step choose space
slashed_ends {s} {i = i} {j} at sign ended n ps K nm o h stands =
    tag_done n ps no_children
    (remade (move stands (skip_slashed n ps K (spaces at.ran) ∙ steps (slashed n ps K) (closed (tag n ps no_children n) K) s j at.inside (ap (step (slashed n ps K)) (reads at sign))) (omega (arith, at.ran.after)) (omega arith)) (made_is (sym (no_children_yet (world_of K) (depth_of K) n ps)) stands.made))
    (named_plain n ps nm) (sym (same_self n)) ended (omega (arith, at.ran.after))

-- ---- in a tag

pub tag_out : {s out out' : Bytes} {st : Reading} {i : ℕ} → Blank s i → TagTurn s st i out None out'
unfolding at_end
tag_out {s} {i = i} at n ps K nm o h stands = refuses stands (skip_tag n ps K (spaces at.ran) ∙ out_of (in_tag n ps K) s at.j at.out refl)

pub tag_letter : {s out out' : Bytes} {st : Reading} {r : Option Reading} {i j : ℕ} {c : ℕ} → SignAt s i j c → true ≡ letter c → AttributeTurn s st j out r out' → TagTurn s st i out r out'
unfolding step step_tag choose
tag_letter {s} {i = i} {j} at is turn n ps K nm o h stands =
    let yes_letter : letter (get_or s j 0) ≡ true = told letter at is in
    later at.ran.after
    (turn n ps K nm o h
    (move stands (skip_tag n ps K (spaces at.ran) ∙ steps (in_tag n ps K) (in_ident [] 0 (get_or s j 0 ∷ []) (for_attribute n ps K)) s j at.inside (simp (not_space at.ran at.inside, yes_letter))) (omega (arith, at.ran.after)) (omega arith)))

pub tag_children : {s out : Bytes} {st r : Reading} {i j : ℕ} {c : ℕ} → SignAt s i j c → c ≡ 62 → r ≡ at_mode st M.InChildren (j + 1) → TagTurn s st i out (Some r) out
unfolding step step_tag choose space letter
tag_children {s} {i = i} {j} at sign rs n ps K nm o h stands =
    to_children {ks = no_children}
    (remade (move stands (skip_tag n ps K (spaces at.ran) ∙ steps (in_tag n ps K) (in_children n ps no_children K) s j at.inside (ap (step (in_tag n ps K)) (reads at sign))) (omega (arith, at.ran.after)) (omega arith)) (made_is (sym (no_children_yet (world_of K) (depth_of K) n ps)) stands.made))
    (named_plain n ps nm) (omega (arith, at.ran.after)) rs

pub tag_slashed : {s out out' : Bytes} {st : Reading} {r : Option Reading} {i j : ℕ} {c : ℕ} → SignAt s i j c → c ≡ 47 → SlashedTurn s st (j + 1) out r out' → TagTurn s st i out r out'
unfolding step step_tag choose space letter
tag_slashed {s} {i = i} {j} at sign turn n ps K nm o h stands =
    later (omega (arith, at.ran.after))
    (turn n ps K nm o h (move stands (skip_tag n ps K (spaces at.ran) ∙ steps (in_tag n ps K) (slashed n ps K) s j at.inside (ap (step (in_tag n ps K)) (reads at sign))) (omega (arith, at.ran.after)) (omega arith)))

pub tag_spread : {s out out' : Bytes} {st : Reading} {r : Option Reading} {i j : ℕ} {c : ℕ} → SignAt s i j c → c ≡ 123 → SpreadTurn s st (j + 1) out r out' → TagTurn s st i out r out'
unfolding step step_tag choose space letter
tag_spread {s} {i = i} {j} at sign turn n ps K nm o h stands =
    later (omega (arith, at.ran.after))
    (turn n ps K nm o h (move stands (skip_tag n ps K (spaces at.ran) ∙ steps (in_tag n ps K) (spread_opened n ps K) s j at.inside (ap (step (in_tag n ps K)) (reads at sign))) (omega (arith, at.ran.after)) (omega arith)))

pub tag_barred : {s out out' : Bytes} {st : Reading} {i j : ℕ} {c : ℕ} → SignAt s i j c → false ≡ letter c → (c ≡ 62 → ⊥) → (c ≡ 47 → ⊥) → (c ≡ 123 → ⊥) → TagTurn s st i out None out'
unfolding step step_tag choose
tag_barred {s} {i = i} {j} at is p q x n ps K nm o h stands =
    let no_letter : letter (get_or s j 0) ≡ false = told letter at is in
    refuses stands (skip_tag n ps K (spaces at.ran) ∙ stuck (in_tag n ps K) s j at.inside (simp (not_space at.ran at.inside, no_letter, ne_eqb (get_or s j 0) 62 (differs at p), ne_eqb (get_or s j 0) 47 (differs at q), ne_eqb (get_or s j 0) 123 (differs at x))))

-- ---- closing tags

pub closing_out : {s out out' : Bytes} {st : Reading} {i : ℕ} → Blank s i → ClosingTurn s st i out None out'
unfolding at_end
closing_out {s} {i = i} at n ps ks K plain o h stands = refuses stands (skip_closing n ps ks K (spaces at.ran) ∙ out_of (closing n ps ks K) s at.j at.out refl)

pub closing_fragment : {s out out' : Bytes} {st r : Reading} {i j : ℕ} {b : Bool} {c : ℕ} → SignAt s i j c → c ≡ 62 → is_some st.name ≡ not b → TagEnded out st b (j + 1) r out' → ClosingTurn s st i out (Some r) out'
unfolding step choose space letter
closing_fragment {s} {i = i} {j} at sign nameless ended n ps ks K plain o h stands =
    tag_done [] ps ks
    (move stands (skip_closing n ps ks K (spaces at.ran) ∙ steps (closing n ps ks K) (closed (tag n ps ks []) K) s j at.inside (ap (step (closing n ps ks K)) (reads at sign))) (omega (arith, at.ran.after)) (omega arith))
    plain (empty_at stands.name_is nameless) ended (omega (arith, at.ran.after))

pub closing_barred : {s out out' : Bytes} {st : Reading} {i j : ℕ} {c : ℕ} → SignAt s i j c → (c ≡ 62 → ⊥) → false ≡ letter c → ClosingTurn s st i out None out'
unfolding step choose
closing_barred {s} {i = i} {j} at p is n ps ks K plain o h stands =
    let no_letter : letter (get_or s j 0) ≡ false = told letter at is in
    refuses stands (skip_closing n ps ks K (spaces at.ran) ∙ stuck (closing n ps ks K) s j at.inside (simp (not_space at.ran at.inside, no_letter, ne_eqb (get_or s j 0) 62 (differs at p))))

-- at the first letter of the name
to_name : {s : Bytes} {i j c : ℕ} (n : Name) (ps : Attributes) (ks : Children) (K : Stack) → SignAt s i j c → true ≡ letter c → outcome (closing n ps ks K) (drop i s) ≡ outcome (in_ident [] 0 (get_or s j 0 ∷ []) (for_closing n ps ks K)) (drop (j + 1) s)
unfolding step choose
to_name {s} {i} {j} n ps ks K at is =
    let yes_letter : letter (get_or s j 0) ≡ true = told letter at is in
    skip_closing n ps ks K (spaces at.ran) ∙ steps (closing n ps ks K) (in_ident [] 0 (get_or s j 0 ∷ []) (for_closing n ps ks K)) s j at.inside (simp (not_space at.ran at.inside, yes_letter))

pub closing_none : {s out out' : Bytes} {st : Reading} {i j c : ℕ} → SignAt s i j c → true ≡ letter c → Scanned s j None → ClosingTurn s st i out None out'
unfolding Scanned
closing_none at is unread n ps ks K plain o h stands = refuses stands (to_name n ps ks K at is ∙ unread (for_closing n ps ks K))

behind : {s : Bytes} {i j c tag e : ℕ} (n : Name) (ps : Attributes) (ks : Children) (K : Stack) → SignAt s i j c → true ≡ letter c → (f : FoundName s j tag e) → outcome (closing n ps ks K) (drop i s) ≡ outcome (close_named f.name n ps ks K) (drop e s)
unfolding named_if fits named
behind {s} {e = e} n ps ks K at is f =
    to_name n ps ks K at is ∙ f.leads (for_closing n ps ks K) ∙ ap (λ (x : State). outcome x (drop e s)) (chose (tag_name_fits f.name) (close_named f.name n ps ks K) refused f.fits_tag)

pub closing_named_out : {s out out' : Bytes} {st : Reading} {i j c : ℕ} (x : ScannedName) → SignAt s i j c → true ≡ letter c → Scanned s j (Some x) → length s ≤ x.end → ClosingTurn s st i out None out'
unfolding at_end
closing_named_out {s} x at is t hi n ps ks K plain o h stands =
    let f : FoundName _ _ x.tag x.end = found t in
    refuses stands (behind n ps ks K at is f ∙ out_of (close_named f.name n ps ks K) s x.end hi refl)

-- no white space follows a name that was read whole
parts_end : {s r : Bytes} {ps : Name} → IsParts s ps r → Ends name_goes_on r
parts_end (no_parts u e) = e
parts_end (one_part a b c i p) = parts_end p

name_end : {s r : Bytes} {n : Name} → IsName s n r → Ends name_goes_on r
name_end (is_name i p) = parts_end p

behind_no_space : {s : Bytes} {j tag e : ℕ} → FoundName s j tag e → e < length s → space (get_or s e 0) ≡ false
unfolding Ends name_goes_on
behind_no_space {s} {j} {tag} {e} f lo = first (space (get_or s e 0)) _ (subst (Ends name_goes_on) (next s e lo) (name_end f.is))

pub closing_named_barred : {s out out' : Bytes} {st : Reading} {i j c : ℕ} (x : ScannedName) → SignAt s i j c → true ≡ letter c → Scanned s j (Some x) → x.end < length s → (get_or s x.end 0 ≡ 62 → ⊥) → ClosingTurn s st i out None out'
unfolding step step_close_named choose
closing_named_barred {s} x at is t lo p n ps ks K plain o h stands =
    let f : FoundName _ _ x.tag x.end = found t in
    refuses stands (behind n ps ks K at is f ∙ stuck (close_named f.name n ps ks K) s x.end lo (simp (behind_no_space f lo, ne_eqb (get_or s x.end 0) 62 p)))

pub closing_named : {s out out' : Bytes} {st r : Reading} {i j c : ℕ} {b : Bool} (x : ScannedName) → SignAt s i j c → true ≡ letter c → Scanned s j (Some x) → x.end < length s → get_or s x.end 0 ≡ 62 → ClosingCompared s st.name j b → TagEnded out st b (x.end + 1) r out' → ClosingTurn s st i out (Some r) out'
unfolding step step_close_named choose space
closing_named {s} x at is t lo sign compared ended n ps ks K plain o h stands =
    let f : FoundName _ _ x.tag x.end = found t in
    tag_done f.name ps ks
    (move stands (behind n ps ks K at is f ∙ steps (close_named f.name n ps ks K) (closed (S.tag n ps ks f.name) K) s x.end lo (ap (step (close_named f.name n ps ks K)) sign)) (omega (arith, at.ran.after, f.after)) (omega arith))
    plain (compared n f.name (drop x.end s) stands.name_is f.is) ended (omega (arith, at.ran.after, f.after))

-- ---- a tag opens

pub named_none : {s out out' : Bytes} {st : Reading} {i : ℕ} → Scanned s i None → NamedTurn s st i out None out'
unfolding Scanned
named_none unread K o h opens = next_none (opens.reads ∙ unread (for_tag K))

name_world : (W : World) (d : ℕ) (n : Name) → Named n → more W (head 0x30 0 ++ name_bytes n) true true (leb d 48 && shallow_name (suc d) n) ≡ tag_world W d n no_attributes
unfolding Named tag_world begun tag_code attributes_bytes every_tag page_tag tag_row bytes shallow
name_world W d [] m = absurd m
name_world W d (p ∷ n) m =
    world_is (ap (λ (z : Bytes). W.bytes ++ (head 0x30 0 ++ z)) (sym (append-nil (name_bytes (p ∷ n))))) refl refl
    (ap (λ (z : Bool). W.shallow && (leb d 48 && z)) (sym (and_true (shallow_name (suc d) (p ∷ n)))))

pub named_found : {s out out₁ out₂ : Bytes} {st w v r : Reading} {i a b d y : ℕ} (x : ScannedName) → st.at ≤ 16 * i → Scanned s i (Some x) → Wrote out st.at (head 0x30 0) out₁ a → NamePut s i x.tag x.end out₁ a out₂ b → y ≡ st.depth + 1 → d ≡ name_depth x.tag y → w ≡ at_more st b true (leb d 48) → v ≡ at_begin w st.at (Some i) → r ≡ at_mode v M.InTag x.end → NamedTurn s st i out (Some r) out₂
unfolding NamePut named_if fits named
named_found {s} {out} {out₁} {out₂} {st} {w} {v} {r} {i} {a} {b} {d} {y} x grown t wr put_name ys ds ws vs rs K o h opens =
    let e : ℕ = x.end in
    let f : FoundName s i x.tag e = found t in
    let N : Name = f.name in
    let D : ℕ = depth_of K in
    let wn = put_name N f.is f.fits_tag f.tag_is in
    let both : Wrote out st.at (head 0x30 0 ++ name_bytes N) out₂ b = wrote_then wr wn in
    let yd : y ≡ suc D = ys ∙ ap (λ (z : ℕ). z + 1) opens.depth_is ∙ omega arith in
    let dd : d ≡ name_depth (name_tag N) (suc D) = ds ∙ ap₂ name_depth f.tag_is yd in
    let G : Bool = leb D 48 && shallow_name (suc D) N in
    let deep : D ≤ d = omega (arith, dd, deep_enough (name_tag N) (suc D)) in
    let flag : leb d 48 ≡ G = sym (deeper_decides D d deep) ∙ ap (λ (z : Bool). leb D 48 && z) (ap (λ (z : ℕ). leb z 48) dd ∙ sym (name_shallow N (suc D) f.fits_tag)) in
    let m₁ : Made o (more (world_of K) (head 0x30 0 ++ name_bytes N) true true G) out₂ b st.names (st.numbers && true) (st.shallow && G) = made_wrote (head 0x30 0 ++ name_bytes N) true G opens.made both.end_is (λ z. both.out_is) in
    let size = name_size f.is in
    to_tag {st = at_begin (at_more st b true (leb d 48)) st.at (Some i)}
    (record {
      reads = opens.reads ∙ (f.leads (for_tag K) ∙ ap (λ (x : State). outcome x (drop e s)) (chose (tag_name_fits N) (in_tag N no_attributes K) refused f.fits_tag));
      inside = f.inside;
      grown = omega (arith, wr.end_is, wn.end_is, length_head 0x30 0, size, f.after, f.inside, length-drop i s, length-drop e s);
      head_is = opens.made.at_is;
      name_is = name_at (drop e s) f.is f.fits_tag;
      depth_is = opens.depth_is;
      height_is = opens.height_is;
      made = made_is (name_world (world_of K) D N (fits_named N f.fits_tag)) (made_as m₁ refl refl (ap (λ (z : Bool). st.shallow && z) flag));
    })
    (fits_named N f.fits_tag) f.after (rs ∙ ap (λ (z : Reading). at_mode z M.InTag e) (vs ∙ ap (λ (z : Reading). at_begin z st.at (Some i)) ws))

fragment_world : (W : World) (d : ℕ) → more W (head 0x31 0) true true (leb d 48) ≡ children_world W d [] no_attributes no_children
unfolding tag_world begun tag_code name_bytes attributes_bytes every_tag page_tag tag_row bytes shallow shallow_name
fragment_world W d = world_is (ap (λ (z : Bytes). W.bytes ++ z) (sym (append-nil (head 0x31 0)))) refl refl (ap (λ (z : Bool). W.shallow && z) (sym (and_true (leb d 48)))) ∙ sym (no_children_yet W d [] no_attributes)

pub fragment_opens : {out out₁ : Bytes} {st w v r : Reading} {i a : ℕ} → Wrote out st.at (head 0x31 0) out₁ a → w ≡ at_more st a true (leb st.depth 48) → v ≡ at_begin w st.at None → r ≡ at_mode v M.InChildren i → FragmentTurn st i out (Some r) out₁
unfolding Plain
fragment_opens {out} {out₁} {st} {w} {v} {r} {i} {a} wr ws vs rs s K o h j l grown opens =
    let D : ℕ = depth_of K in
    let m₁ : Made o (more (world_of K) (head 0x31 0) true true (leb D 48)) out₁ a st.names (st.numbers && true) (st.shallow && leb D 48) = made_wrote (head 0x31 0) true (leb D 48) opens.made wr.end_is (λ z. wr.out_is) in
    to_children {st = at_begin (at_more st a true (leb st.depth 48)) st.at None}
    (record {
      reads = opens.reads;
      inside = opens.inside;
      grown = omega (arith, wr.end_is, length_head 0x31 0);
      head_is = opens.made.at_is;
      name_is = no_name;
      depth_is = opens.depth_is;
      height_is = opens.height_is;
      made = made_is (fragment_world (world_of K) D) (made_as m₁ refl refl (ap (λ (z : ℕ). st.shallow && leb z 48) opens.depth_is));
    })
    refl l (rs ∙ ap (λ (z : Reading). at_mode z M.InChildren i) (vs ∙ ap (λ (z : Reading). at_begin z st.at None) ws))
