-- The grammar of a page out, kept between the passes: of a row that is written, of expressions in which tags are still to be visited, of a pass,
-- and of the parts of a template. Main statements: `visits_row`, `visit_formed`, `template_formed`. Assumes nothing.
use Prim.Native.Nat.{ℕ, ◌+◌}
use native.Mathlib.Omega.{arith}
use mathlib.Core.Path.{◌≡◌, refl, sym, ap, ◌∙◌, subst}
use mathlib.Core.Bool.{Bool, true, false, ◌||◌, not}
use mathlib.Core.List.{List, [], ◌∷◌, ◌++◌, append-nil}
use lib.Dec.{T, eqb}
use lib.ListN.{length}
use Rattle.std.proofs.Math.Facts.{or_no}
use Rattle.std.proofs.lemmas.Bool.{or_right, or_left}
use Rattle.field.specs.Bytes.{Bytes, pick}
use Rattle.field.specs.Row.{Row, end, loose, field, bytes}
use Rattle.field.proofs.NumberLaws.{length_big_endian}
use Rattle.page.specs.Tree.{choose}
use Rattle.page.specs.Check.{check_empty}
use Rattle.refusal.specs.Refusal.{Fine, Refused}
use Rattle.refusal.specs.declared.Refusal.{Refusal}
use Rattle.refusal.proofs.Verdicts.{refused}
use Rattle.outs.specs.Held.{nests}
use Rattle.outs.specs.PageOut.{expression, allowed, left, closed, within, check_leaf}
use Rattle.outs.specs.declared.Expect.{Expect}
use Rattle.outs.specs.declared.Expect.TheVariants as E
use Rattle.spec.specs.Pass.{Template, Done, Pass, pure, both, bind, raise, map, long_if, Raw, Mid, none, node, raw, ◌+++◌, ◌⧺◌, Part, chars, gap, mark}
use Rattle.spec.specs.Output.{gen_template, dynamic_exprs, strings_after}
use Rattle.spec.specs.Visit.{visit_exprs, visit_inside, visit_after, leave}
use Rattle.spec.proofs.Characters.{Text, AllText}
use Rattle.spec.proofs.Texts.{text_append, text_nil}

pub true_never : {C : Type 0} → true ≡ false → C
true_never h = absurd (let z : ◌≡◌ {A = ℕ} 0 1 = cc in omega arith)

pub false_never : {C : Type 0} → false ≡ true → C
false_never h = absurd (let z : ◌≡◌ {A = ℕ} 0 1 = cc in omega arith)

-- how long the front of a field that holds fields is
abbrev pub front_size : ℕ → ℕ
front_size t = pick (eqb t 0x90) 4 0

-- ---- rows

unfoldable pub FormedRow : Expect → Row → Type 0
FormedRow c end = closed c ≡ Fine
FormedRow c (loose b) = ⊥
FormedRow c (field t f i r) = (allowed c t ≡ true) × (nests t ≡ true → (length f ≡ front_size t) × FormedRow (within t) i) × (nests t ≡ false → check_leaf t (f ++ bytes i) ≡ Fine) × FormedRow (left c t) r

-- ---- strings of the templates that are recorded

unfoldable pub AllTexts : List Template → Type 0
AllTexts [] = Unit {0}
AllTexts (t ∷ ts) = AllText t.strings × AllTexts ts

pub texts_append : (ts us : List Template) → AllTexts ts → AllTexts us → AllTexts (ts ++ us)
unfolding AllTexts
texts_append [] us g h = h
texts_append (t ∷ ts) us g h = (g.0, texts_append ts us g.1 h)

-- ---- expressions between the passes

-- the visit of a tag: one expression, unless a tag is left
pub record FormedRaw (q : Raw) : Type 0 where
  pub texts : (n : ℕ) → AllTexts (q n).templates
  pub row : (n : ℕ) → T (not (q n).flags.left) → FormedRow E.One (q n).value

-- a leaf: what it holds is not changed by a visit, and is as its tag wants it
pub record Leaf (t : ℕ) (f : Bytes) (i : Mid) : Type 0 where
  pub row : Row
  pub still : (n : ℕ) → visit_exprs i n ≡ pure row n
  pub fine : check_leaf t (f ++ bytes row) ≡ Fine

-- any expression may come, and all leave the same
abbrev pub Takes : Expect → Type 0
Takes c = (u : ℕ) → expression u ≡ true → (allowed c u ≡ true) × (left c u ≡ left c 0x90)

unfoldable pub Formed : Expect → Mid → Type 0
Formed c none = closed c ≡ Fine
Formed c (node t f i r) = (allowed c t ≡ true) × (nests t ≡ true → (length f ≡ front_size t) × Formed (within t) i) × (nests t ≡ false → Leaf t f i) × Formed (left c t) r
Formed c (raw q r) = Takes c × FormedRaw q × Formed (left c 0x90) r

-- as a record, which shows what is expected and the row
pub record Stands (c : Expect) (m : Mid) : Type 0 where
  pub formed : Formed c m

pub leaf_alone : (t : ℕ) (f : Bytes) → check_leaf t f ≡ Fine → Leaf t f none
unfolding visit_exprs bytes
leaf_alone t f h = record { row = end; still = λ n. refl; fine = ap (check_leaf t) (append-nil f) ∙ h }

pub formed_none : {c : Expect} → closed c ≡ Fine → Stands c none
unfolding Formed
formed_none h = record { formed = h }

pub formed_leaf : {c : Expect} (t : ℕ) (f : Bytes) {r : Mid} → allowed c t ≡ true → nests t ≡ false → check_leaf t f ≡ Fine → Stands (left c t) r → Stands c (node t f none r)
unfolding Formed
formed_leaf t f a n h x = record { formed = (a, (λ k. true_never (sym k ∙ n)), (λ k. leaf_alone t f h), x.formed) }

pub formed_nest : {c : Expect} (t : ℕ) {i r : Mid} → allowed c t ≡ true → nests t ≡ true → front_size t ≡ 0 → Stands (within t) i → Stands (left c t) r → Stands c (node t [] i r)
unfolding Formed
formed_nest t a n z x y = record { formed = (a, (λ k. (sym z, x.formed)), (λ k. true_never (sym n ∙ k)), y.formed) }

one_by : (c : Expect) → Takes c → (m y : Mid) → Formed E.One m → Formed (left c 0x90) y → Formed c (m +++ y)
unfolding Formed ◌+++◌
one_by c k none y h g = refused _ h
one_by c k (node t f i none) y h g = let e = k t h.0 in (e.0, h.1, h.2, subst (λ (x : Expect). Formed x y) (sym e.1) g)
one_by c k (node t f i (node u f' i' r)) y h g = false_never h.3.0
one_by c k (node t f i (raw q r)) y h g = false_never (h.3.0 0x90 refl).0
one_by c k (raw q none) y h g = (k, h.1, g)
one_by c k (raw q (node u f' i' r)) y h g = false_never h.2.0
one_by c k (raw q (raw s r)) y h g = false_never (h.2.0 0x90 refl).0

alone_by : (c : Expect) → Takes c → closed (left c 0x90) ≡ Fine → (m : Mid) → Formed E.One m → Formed c m
unfolding Formed
alone_by c k z none h = refused _ h
alone_by c k z (node t f i none) h = let e = k t h.0 in (e.0, h.1, h.2, ap closed e.1 ∙ z)
alone_by c k z (node t f i (node u f' i' r)) h = false_never h.3.0
alone_by c k z (node t f i (raw q r)) h = false_never (h.3.0 0x90 refl).0
alone_by c k z (raw q none) h = (k, h.1, z)
alone_by c k z (raw q (node u f' i' r)) h = false_never h.2.0
alone_by c k z (raw q (raw s r)) h = false_never (h.2.0 0x90 refl).0

-- one expression, and what comes behind it
pub one_then : {c : Expect} {m y : Mid} → Takes c → Stands E.One m → Stands (left c 0x90) y → Stands c (m +++ y)
one_then {c} {m} {y} k h g = record { formed = one_by c k m y h.formed g.formed }

pub one_alone : {c : Expect} {m : Mid} → Takes c → closed (left c 0x90) ≡ Fine → Stands E.One m → Stands c m
one_alone {c} {m} k z h = record { formed = alone_by c k z m h.formed }

pub takes_pieces : Takes E.Pieces
takes_pieces u h = (or_right (eqb u 0x20) (expression u) h, refl)

pub takes_exprs : Takes E.Exprs
takes_exprs u h = (h, refl)

pub takes_elements : Takes E.Elements
takes_elements u h = (or_left (expression u || eqb u 0x77) (eqb u 0x78) (or_left (expression u) (eqb u 0x77) h), refl)

pub takes_one : Takes E.One
takes_one u h = (h, refl)

pub takes_first : Takes E.OneThenName
takes_first u h = (h, refl)

pub takes_key : Takes E.Key
takes_key u h = (h, refl)

-- where any number may come, one row behind another
append_by : (c : Expect) → ((t : ℕ) → left c t ≡ c) → (x y : Mid) → Formed c x → Formed c y → Formed c (x +++ y)
unfolding Formed ◌+++◌
append_by c k none y h g = g
append_by c k (node t f i r) y h g = (h.0, h.1, h.2, subst (λ (x : Expect). Formed x (r +++ y)) (sym (k t)) (append_by c k r y (subst (λ (x : Expect). Formed x r) (k t) h.3) g))
append_by c k (raw q r) y h g = (h.0, h.1, subst (λ (x : Expect). Formed x (r +++ y)) (sym (k 0x90)) (append_by c k r y (subst (λ (x : Expect). Formed x r) (k 0x90) h.2) g))

pub formed_append : {c : Expect} {x y : Mid} → ((t : ℕ) → left c t ≡ c) → Stands c x → Stands c y → Stands c (x +++ y)
formed_append {c} {x} {y} k h g = record { formed = append_by c k x y h.formed g.formed }

-- ---- passes

pub record FormedPass (c : Expect) (p : Pass Mid) : Type 0 where
  pub texts : (n : ℕ) → AllTexts (p n).templates
  pub value : (n : ℕ) → Stands c (p n).value

pub pass_pure : {c : Expect} {m : Mid} → Stands c m → FormedPass c (pure m)
unfolding pure AllTexts
pass_pure h = record { texts = λ n. tt; value = λ n. h }

pub pass_map : {c d : Expect} {p : Pass Mid} (f : Mid → Mid) → ((m : Mid) → Stands c m → Stands d (f m)) → FormedPass c p → FormedPass d (map f p)
unfolding map
pass_map {p = p} f k g = record { texts = λ n. g.texts n; value = λ n. k (p n).value (g.value n) }

pub pass_raise : {c : Expect} {p : Pass Mid} (b : Bool) → FormedPass c p → FormedPass c (raise (long_if b) p)
unfolding raise
pass_raise b g = record { texts = λ n. g.texts n; value = λ n. g.value n }

pub pass_both : {c d e : Expect} {p q : Pass Mid} → ((x y : Mid) → Stands c x → Stands d y → Stands e (x +++ y)) → FormedPass c p → FormedPass d q → FormedPass e (both ◌+++◌ p q)
unfolding both
pass_both {p = p} {q} k g h =
    record {
      texts = λ n. texts_append (p n).templates (q (n + (p n).taken)).templates (g.texts n) (h.texts (n + (p n).taken));
      value = λ n. k (p n).value (q (n + (p n).taken)).value (g.value n) (h.value (n + (p n).taken));
    }

-- ---- the second pass

record VisitedRow (c : Expect) (d : Done Row) : Type 0 where
  texts : AllTexts d.templates
  row : T (not d.flags.left) → FormedRow c d.value

one_row : (c : Expect) → Takes c → (x y : Row) → FormedRow E.One x → FormedRow (left c 0x90) y → FormedRow c (x ⧺ y)
unfolding FormedRow ◌⧺◌
one_row c k end y h g = refused _ h
one_row c k (loose b) y h g = absurd h
one_row c k (field t f i end) y h g = let e = k t h.0 in (e.0, h.1, h.2, subst (λ (x : Expect). FormedRow x y) (sym e.1) g)
one_row c k (field t f i (loose b)) y h g = absurd h.3
one_row c k (field t f i (field u f' i' r)) y h g = false_never h.3.0

-- a field by its rows, once they are visited
visited_node : (c : Expect) (t : ℕ) (f : Bytes) (i : Mid) (d e : Done Row) → allowed c t ≡ true → (nests t ≡ true → (length f ≡ front_size t) × VisitedRow (within t) d) → (nests t ≡ false → (l : Leaf t f i) × (d.value ≡ l.row) × (d.templates ≡ [])) → VisitedRow (left c t) e →
    (n : ℕ) → VisitedRow c (record { value = field t f d.value e.value; taken = d.taken + e.taken; templates = d.templates ++ e.templates; flags = record { left = d.flags.left || e.flags.left; long = d.flags.long || e.flags.long; repeated = d.flags.repeated || e.flags.repeated; mixed = d.flags.mixed || e.flags.mixed } })
unfolding FormedRow
visited_node c t f i d e a nest leaf v n =
    record {
      texts = texts_append d.templates e.templates (inner_texts (nests t) refl) v.texts;
      row =
          λ h.
          let p = or_no d.flags.left e.flags.left h in
          (a, (λ k. ((nest k).0, (nest k).1.row p.0)), (λ k. ap (λ (x : Row). check_leaf t (f ++ bytes x)) (leaf k).1 ∙ (leaf k).0.fine), v.row p.1);
    }
  where
    nothing : AllTexts []
    nothing = unfold AllTexts in tt

    inner_texts : (b : Bool) → nests t ≡ b → AllTexts d.templates
    inner_texts true q = (nest q).1.texts
    inner_texts false q = subst AllTexts (sym (leaf q).2) nothing

leaf_visited : (t : ℕ) (f : Bytes) (i : Mid) (n : ℕ) → Leaf t f i → (l : Leaf t f i) × ((visit_exprs i n).value ≡ l.row) × ((visit_exprs i n).templates ≡ [])
unfolding pure
leaf_visited t f i n l = (l, ap (λ (d : Done Row). d.value) (l.still n), ap (λ (d : Done Row). d.templates) (l.still n))

visited_mid : (c : Expect) (m : Mid) → Formed c m → (n : ℕ) → VisitedRow c (visit_exprs m n)
unfolding Formed visit_exprs both pure FormedRow AllTexts
visited_mid c none h n = record { texts = tt; row = λ k. h }
visited_mid c (node t f i r) h n =
    let d = visit_exprs i n in
    visited_node c t f i d (visit_exprs r (n + d.taken)) h.0 (λ k. ((h.1 k).0, visited_mid (within t) i (h.1 k).1 n)) (λ k. leaf_visited t f i n (h.2 k)) (visited_mid (left c t) r h.3 (n + d.taken)) n
visited_mid c (raw q r) h n =
    let d = q n in
    let e = visit_exprs r (n + d.taken) in
    let v = visited_mid (left c 0x90) r h.2 (n + d.taken) in
    record {
      texts = texts_append d.templates e.templates (h.1.texts n) v.texts;
      row = λ k. let p = or_no d.flags.left e.flags.left k in one_row c h.0 d.value e.value (h.1.row n p.0) (v.row p.1);
    }

-- a row of expressions, visited
pub visits_texts : {c : Expect} {m : Mid} → Stands c m → (n : ℕ) → AllTexts (visit_exprs m n).templates
visits_texts {c} {m} h n = (visited_mid c m h.formed n).texts

pub visits_row : {c : Expect} {m : Mid} → Stands c m → (n : ℕ) → T (not (visit_exprs m n).flags.left) → FormedRow c (visit_exprs m n).value
visits_row {c} {m} h n = (visited_mid c m h.formed n).row

pub raw_leave : FormedRaw leave
unfolding leave raise pure AllTexts
raw_leave = record { texts = λ n. tt; row = λ n k. absurd k }

pub raw_null : FormedRaw (pure (field 0x73 [] end end))
unfolding pure AllTexts FormedRow bytes check_leaf check_empty choose
raw_null = record { texts = λ n. tt; row = λ n k. (refl, (λ q. false_never q), (λ q. refl), refl) }

inside_visited : (m : Mid) → Formed E.One m → (n : ℕ) → VisitedRow E.One (visit_inside m n)
unfolding Formed visit_inside both visit_exprs
inside_visited none h n = refused _ h
inside_visited (node t f i r) h n = visited_mid E.One (node t f i r) h n
inside_visited (raw q r) h n = record { texts = raw_leave.texts n; row = raw_leave.row n }

-- the second pass after the first
pub visit_formed : {p : Pass Mid} → FormedPass E.One p → FormedRaw (visit_after p)
unfolding visit_after bind
visit_formed {p} g =
    record {
      texts = λ n. texts_append (p n).templates (visit_inside (p n).value (n + (p n).taken)).templates (g.texts n) (inside_visited (p n).value (g.value n).formed (n + (p n).taken)).texts;
      row = λ n k. (inside_visited (p n).value (g.value n).formed (n + (p n).taken)).row (or_no (p n).flags.left (visit_inside (p n).value (n + (p n).taken)).flags.left k).1;
    }

-- ---- templates

unfoldable pub FormedParts : List Part → Type 0
FormedParts [] = Unit {0}
FormedParts (chars b ∷ ps) = Text b × FormedParts ps
FormedParts (gap p ∷ ps) = FormedPass E.One p × FormedParts ps
FormedParts (mark f ∷ ps) = FormedParts ps

pub parts_append : (ps qs : List Part) → FormedParts ps → FormedParts qs → FormedParts (ps ++ qs)
unfolding FormedParts
parts_append [] qs g h = h
parts_append (chars b ∷ ps) qs g h = (g.0, parts_append ps qs g.1 h)
parts_append (gap p ∷ ps) qs g h = (g.0, parts_append ps qs g.1 h)
parts_append (mark f ∷ ps) qs g h = parts_append ps qs g h

strings_text : (ps : List Part) (last : Bytes) → FormedParts ps → Text last → AllText (strings_after last ps)
unfolding FormedParts strings_after AllText
strings_text [] last g h = (h, tt)
strings_text (chars b ∷ ps) last g h = strings_text ps (last ++ b) g.1 (text_append last b h g.0)
strings_text (gap p ∷ ps) last g h = (h, strings_text ps [] g.1 text_nil)
strings_text (mark f ∷ ps) last g h = strings_text ps last g h

gaps_formed : (ps : List Part) → FormedParts ps → FormedPass E.Exprs (dynamic_exprs ps)
unfolding FormedParts dynamic_exprs Formed
gaps_formed [] g = pass_pure (formed_none refl)
gaps_formed (chars b ∷ ps) g = gaps_formed ps g.1
gaps_formed (gap p ∷ ps) g = pass_both (λ x y h k. one_then takes_exprs h k) g.0 (gaps_formed ps g.1)
gaps_formed (mark f ∷ ps) g = gaps_formed ps g

pub template_formed : (ps : List Part) → FormedParts ps → FormedPass E.One (gen_template ps)
unfolding gen_template AllTexts Formed within
template_formed ps g =
    let d = gaps_formed ps g in
    record {
      texts = λ n. texts_append (dynamic_exprs ps (n + 1)).templates _ (d.texts (n + 1)) (strings_text ps [] g text_nil, tt);
      value = λ n. record { formed = (refl, (λ k. (length_big_endian 4 n [], (d.value (n + 1)).formed)), (λ k. true_never k), refl) };
    }
