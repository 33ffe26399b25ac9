-- What the arms of `entries_of` leave. Main statements: `step_text`, `step_joined`, `step_more`,
-- `adds_expr`, `adds_element`, `adds_fragment`, `step_apart`, `step_several`, `step_other`. Assumes nothing.
use mathlib.Core.Path.{◌≡◌, refl, sym, ap, ◌∙◌, subst}
use mathlib.Core.Bool.{Bool, true, false, not, ◌||◌}
use Prim.Native.Nat.{ℕ, ◌+◌, ◌-◌, ◌≤◌}
use native.Mathlib.Omega.{arith}
use mathlib.Core.List.{List, [], ◌∷◌, ◌++◌}
use lib.ListN.{length, take, drop, length-append}
use lib.Seq.{take_all}
use Rattle.field.specs.Bytes.{Bytes, null?}
use Rattle.field.specs.Row.{read}
use Rattle.field.specs.Front.{tag_of_front}
use Rattle.field.specs.Fields.{IsFront}
use Rattle.text.specs.Text.{jsx_text_to_str}
use Rattle.page.specs.Tree.{contained_in}
use Rattle.spec.specs.Merge.{Entry, still}
use Rattle.spec.specs.Children as C
use Rattle.found.specs.Finds.{Within, part, placed, entries_at, found_at, expr_at, element_entry, Runs, Enters, Spliced, Known, known_around, then_found, run_found, joined_of}
use Rattle.found.specs.declared.Kind.{Kind}
use Rattle.found.specs.declared.Kind.TheVariants as K
use Rattle.found.specs.declared.Joined.TheVariants as J
use Rattle.found.specs.declared.Found.{Found}
use Rattle.found.proofs.Places.{Stands, Tail, length_part, tail_room, stands_room, stands_part, stands_body, stands_behind}
use Rattle.found.proofs.KnownLaws.{Reached, reached_behind, known_more}
use Rattle.found.proofs.MergeLaws.{run_entries, left_entries, left_blank, left_text, left_joined, left_more, left_apart, left_30, left_31, left_other}
use Rattle.found.proofs.EnterLaws.{Here, theirs, enters_by, moved}
use Rattle.found.proofs.WalkLaws.{Looked, Adds, Entered, looked_past, looked_more, looked_apart}
use Rattle.found.proofs.FoundLaws.{Given, given_several, several_added}

-- the field in front of t, which is left of s: its place by what is left behind it
module _ (skip s t : Bytes) (a : Tail s t) {u : ℕ} {b r : Bytes} (f : IsFront t u b r) where
  abbrev pub here : ℕ
  here = length s - length r - length b - 3

  here_is : length s - length t ≡ here
  here_is = omega (arith, f.sizes, tail_room s t a)

  pub body_stands : Stands s (here + 3) b
  body_stands = subst (λ (n : ℕ). Stands s (n + 3) b) here_is (stands_body s t a f)

  field_stands : Stands s here t
  field_stands = subst (λ (n : ℕ). Stands s n t) here_is a

  -- the rest of s from there on
  rest_is : part s (placed K.Element here (length s - here)) ≡ t
  rest_is = ap (λ (n : ℕ). part s (placed K.Element here n)) (omega (arith, here_is, tail_room s t a)) ∙ stands_part s here t field_stands

  pub adds_expr : u ≡ 0x52 → J.Apart ≡ joined_of (contained_in (read b)) → {x : Found} → x ≡ placed K.Expr (here + 3) (length b) → Adds skip s t r x
  adds_expr h g e =
      subst (Adds skip s t r) (sym e)
      record {
        inside = stands_room s (here + 3) b body_stands;
        es = λ props. still (expr_at skip props b) ∷ [];
        joins = λ props buf. left_apart skip props t f buf h g;
        says = λ props. ap (λ (x : Bytes). still (expr_at skip props x) ∷ []) (sym (stands_part s (here + 3) b body_stands));
      }

  pub adds_element : u ≡ 0x30 → {x : Found} → x ≡ placed K.Element here (length (take (length s - here) (drop here s))) → Adds skip s t r x
  adds_element h e =
      subst (Adds skip s t r) (sym (e ∙ ap (placed K.Element here) (length_part s here (length s - here) (omega (arith, here_is, tail_room s t a)))))
      record {
        inside = omega (arith, here_is);
        es = λ props. element_entry skip props t ∷ [];
        joins = λ props buf. left_30 skip props t f buf h;
        says = λ props. (ap (λ (x : Bytes). element_entry skip props x ∷ []) (sym rest_is), ap tag_of_front rest_is ∙ sym f.tag_is ∙ h);
      }

  pub adds_fragment : u ≡ 0x31 → (y : Found) → Given skip b y → (z : Found) → Within z b × Spliced b y z → {x : Found} → x ≡ placed z.kind (here + 3 + z.from) z.len → Adds skip s t r x
  adds_fragment h y g z v {x} d =
      let Q : Kind → Bytes → Type 0 = λ (d : Kind) (y : Bytes). (props : Bytes) → Enters skip props (Runs skip props) (C.spliced (found_at skip props b)) d y in
      let m : Within x s × Q x.kind (part s x) = moved s (here + 3) b body_stands z v.0 Q (λ props. v.1 skip props (found_at skip props b) (g.1 props)) d in
      record {
        inside = m.0;
        es = λ props. C.spliced (found_at skip props b);
        joins = λ props buf. left_31 skip props t f buf h;
        says = λ props. enters_by skip props (Runs skip props) (Here skip props s) (C.spliced (found_at skip props b)) (part s x) (λ y. theirs y) x.kind (m.1 props);
      }

module _ (skip s t : Bytes) (run : Bool) (cur : Found) (k : Looked skip s t run cur) {u : ℕ} {b r : Bytes} (f : IsFront t u b r) where
  behind : Tail s r
  behind = stands_behind s t k.tail f

  reached : Reached s r
  reached = reached_behind k.reached f

  pub step_other : (u ≡ 0x60 → ⊥) → (u ≡ 0x52 → ⊥) → (u ≡ 0x30 → ⊥) → (u ≡ 0x31 → ⊥) → Looked skip s r run cur
  step_other g h i j = looked_past skip s t run cur k r behind reached λ props buf. left_other skip props t f buf g h i j

  -- a text: a run that has something has it still
  step_blank : u ≡ 0x60 → null? (jsx_text_to_str b false false) ≡ true → Looked skip s r run cur
  step_blank h z = looked_past skip s t run cur k r behind reached λ props buf. left_blank skip props t f buf h z

  step_more_text : u ≡ 0x60 → null? (jsx_text_to_str b false false) ≡ false → Looked skip s r true cur
  step_more_text h z = looked_more skip s t run cur k r behind reached λ props buf. left_text skip props t f buf h z

  pub step_text : u ≡ 0x60 → {now : Bool} → now ≡ (run || not (null? (jsx_text_to_str b false false))) → Looked skip s r now cur
  step_text h e = subst (λ (x : Bool). Looked skip s r x cur) (sym e) (on (null? (jsx_text_to_str b false false)) refl run refl)
    where
      on : (v : Bool) → null? (jsx_text_to_str b false false) ≡ v → (x : Bool) → run ≡ x → Looked skip s r (x || not v) cur
      on true z true g = subst (λ (y : Bool). Looked skip s r y cur) g (step_blank h z)
      on true z false g = subst (λ (y : Bool). Looked skip s r y cur) g (step_blank h z)
      on false z true g = step_more_text h z
      on false z false g = step_more_text h z

  -- a container
  pub step_joined : u ≡ 0x52 → J.Nothing ≡ joined_of (contained_in (read b)) → Looked skip s r run cur
  step_joined h g = looked_past skip s t run cur k r behind reached λ props buf. left_joined skip props t f buf h g

  pub step_more : u ≡ 0x52 → J.Something ≡ joined_of (contained_in (read b)) → Looked skip s r true cur
  step_more h g = looked_more skip s t run cur k r behind reached λ props buf. left_more skip props t f buf h g

  -- what stands apart from a run
  pub step_apart : {x : Found} → Adds skip s t r x → {w : Found} → w ≡ run_found cur run (length s) → {y : Found} → y ≡ then_found w x → Looked skip s r false y
  step_apart m c d = looked_apart skip s t run cur k r behind reached m c d

  -- a fragment that gives several
  module _ (h : u ≡ 0x31) (y : Found) (g : Given skip b y) {n : ℕ} (e : y.kind ≡ K.Many n) where
    two : (props : Bytes) → 2 ≤ length (entries_at skip props s)
    two props =
        let l = k.found props in
        let d = several_added skip b y g e props in
        let rest : List Entry = left_entries skip props [] r in
        omega (
          arith,
          ap length l.all_is,
          length-append l.so_far (left_entries skip props l.buf t),
          ap length (left_31 skip props t f l.buf h),
          length-append (run_entries l.buf) (C.spliced (found_at skip props b) ++ rest),
          length-append (C.spliced (found_at skip props b)) rest,
          ap length d.0,
          d.1,
        )

    pub step_several : {m : ℕ} → m ≡ known_around (length s) (length b) y.len n → {z : Found} → z ≡ placed (K.Many m) 0 (length s) → Entered skip s z
    step_several {m} p q =
        let all : take (length s) s ≡ s = take_all (length s) s (omega arith) in
        let known : Known m skip s = known_more skip s k.reached f h y.len n (given_several skip b y g e) p in
        subst (Entered skip s) (sym q)
        (omega arith, λ props. (two props, λ z. (ap (entries_at skip props) (sym all), subst (Known m skip) (sym all) known)))
