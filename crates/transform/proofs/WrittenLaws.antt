-- Both outputs, written: the walk over the items, with the import in front or what is due put in, is the answer's; and so is the verdict of its
-- state. Main statements: `written_import`, `written_moved`, `verdict_is`. Assumes nothing.
use Prim.Native.Nat.{ℕ, ◌+◌, ◌≤◌}
use native.Mathlib.Omega.{arith}
use mathlib.Core.Path.{◌≡◌, refl, sym, ap, ap₂, ◌∙◌}
use mathlib.Core.Bool.{Bool, true, false, ◌||◌, not}
use mathlib.Core.List.{[], ◌∷◌, ◌++◌}
use lib.Dec.{eqb, leb, ltb}
use lib.ListN.{length, length-append}
use borrow.Author.Tests.{lt-ltb, le-ltb, ne_eqb}
use Rattle.field.specs.Bytes.{Bytes, ascii, pick, among}
use Rattle.field.specs.Row.{Row, end, loose, field, bytes, long_body}
use Rattle.field.specs.Put.{put}
use Rattle.field.proofs.RowLaws.{length_bytes}
use Rattle.page.specs.Page.{Options, Page}
use Rattle.refusal.specs.Refusal.{Verdict, unless, after}
use Rattle.refusal.specs.declared.Refusal.TheVariants as R
use Rattle.page.specs.Tree.{listed_in, source_in, options_in}
use Rattle.spec.specs.Pass.{Done}
use Rattle.spec.specs.Transform.{stands, helper_sum, with_import, with_templates, templates_row, page_out_row, transform}
use Rattle.spec.specs.Answer.{check_outputs}
use Rattle.spec.proofs.PageOut.{import_row, import_related}
use Rattle.decisions.specs.At.{opts}
use Rattle.decisions.specs.Index.{names_of}
use Rattle.strings.specs.Due.{graver, gravity, due_if, long_due, grave}
use Rattle.strings.specs.declared.due.Due.{Due}
use Rattle.strings.specs.declared.due.Due.TheVariants as D
use Rattle.strings.specs.Recorded.{recorded}
use Rattle.strings.proofs.DueLaws.{graver_left, none_graver, graver_assoc, long_then}
use Rattle.walk.specs.declared.state.Walk.{Walk}
use Rattle.walk.specs.See.{World, at, see, to_page}
use Rattle.transform.specs.Run.{module_mid, page_has_statement, items_mid, started, sum_of, import_bytes, headed, Headed, written_page, due_verdict, verdict_of}
use Rattle.transform.proofs.RunLaws.{called_sum, import_free, walked, world, items_walked, module_walked, walked_sum, import_length, import_first, page_put, place_long}
use Rattle.transform.proofs.CutLaws.{Cut, first_part, second_part, cut_between, cut_before}
use Rattle.transform.proofs.HeadLaws.{headed_row}

-- ---- the page behind the walk, by what stands in front of it

-- the row of page out without the import
abbrev placed_row : Done Row → Row
placed_row d = with_templates d.templates d.value

world_is : (o : Options) (d : Done Row) (r : Row) (q n : ℕ) (t p p' : Bytes) → length d.templates ≡ d.taken → p' ≡ put p 0 (bytes (page_out_row o d)) → n ≡ length (bytes (page_out_row o d)) →
    at (recorded d.templates t 0) p' (to_page n (walked d r q)) ≡ written_page o d t p
world_is o d r q n t p p' counted e k = ap (λ (x : Bytes). out x d.taken n) e ∙ ap₂ (out (put p 0 (bytes (page_out_row o d)))) (sym counted) k
  where
    out : Bytes → ℕ → ℕ → World
    out x l n =
        at (recorded d.templates t 0) x
        (record { first = 1; later = 1 + l; templates = length (bytes (templates_row d.templates)); page = n; seen = (walked d r q).seen })

-- ---- the options are those that 02 and 03 list; the last premises are `counted` and `called` of spec

module _ (skip props : Bytes) (r : Row) (is : Page) (e : (n : Bytes) → among n (names_of skip) ≡ among n (listed_in 2 r)) (f : (n : Bytes) → among n (names_of props) ≡ among n (listed_in 3 r))
    (counted : length (transform (opts skip props) is).templates ≡ (transform (opts skip props) is).taken) (called : stands 0x90 (transform (opts skip props) is).value ≡ ltb 0 (transform (opts skip props) is).taken) where
  abbrev made : Done Row
  made = transform (opts skip props) is

  abbrev sum : ℕ
  sum = helper_sum made.value

  -- the same transform
  free : (t p : Bytes) → written_page (options_in r) made t p ≡ written_page (options_in r) (transform (options_in r) is) t p
  free t p = ap (λ (d : Done Row). written_page (options_in r) d t p) (import_free skip props r is e f)

  called_due : 1 ≤ made.taken → 1 ≤ sum
  called_due h = called_sum made.value (called ∙ lt-ltb 0 made.taken h)

  -- the items were written behind room for the import: it is written in front
  pub written_import : (q : ℕ) (t p : Bytes) (w : World) → 1 ≤ made.taken → q ≡ 19 + length (source_in r) → w ≡ see (items_mid (opts skip props) is) (at t p (started q)) →
      at w.templates (put w.page 0 (import_bytes (source_in r) (sum_of w.st))) w.st ≡ written_page (options_in r) (transform (options_in r) is) t p
  unfolding page_out_row options_in
  written_import q t p w h k g =
      let d = made in
      let some : 1 ≤ sum = called_due h in
      let due : eqb sum 0 ≡ false = ne_eqb sum 0 (λ z. omega (arith, z, some)) in
      let in_front : bytes (with_import (source_in r) sum (placed_row d)) ≡ import_bytes (source_in r) sum ++ bytes (placed_row d) = import_first (source_in r) sum (placed_row d) due in
      ap (λ (x : World). at x.templates (put x.page 0 (import_bytes (source_in r) (sum_of x.st))) x.st) (g ∙ items_walked (opts skip props) is q t p (omega arith))
      ∙ world_is (options_in r) d (placed_row d) q (q + length (bytes (placed_row d))) t p _ counted
      (ap (λ (n : ℕ). put (put p q (bytes (placed_row d))) 0 (import_bytes (source_in r) n)) (walked_sum d (placed_row d) q called) ∙ page_put p (source_in r) sum (placed_row d) q k due)
      (omega (arith, ap length in_front, length-append (import_bytes (source_in r) sum) (bytes (placed_row d)), import_length (source_in r) sum))
      ∙ free t p

  -- the items alone were written, and what is due was put in; z is the state behind them
  module _ (t p : Bytes) {t' p' : Bytes} {z : Walk} (g : at t' p' z ≡ see (module_mid (opts skip props) false is) (at t p (started 0))) {q : ℕ} {p'' : Bytes} {y : Walk}
      (put_in : (o a b : Bytes) → p' ≡ put o 0 (a ++ b) → q ≡ length a → z.page ≡ length a + length b → Headed (source_in r) z o a b p'' y) where
    left : at t' p' z ≡ world made made.value 0 t p
    left = g ∙ module_walked (opts skip props) is 0 t p

    state : z ≡ walked made made.value 0
    state = ap (λ (w : World). w.st) left

    written_cut : (a b : Bytes) → Cut made.templates made.value a b → q ≡ length a → at t' p'' y ≡ written_page (options_in r) (transform (options_in r) is) t p
    unfolding page_out_row options_in
    written_cut a b c k =
        let d = made in
        let end : z.page ≡ length a + length b = omega (arith, ap (λ (s : Walk). s.page) state, ap length c.whole, length-append a b) in
        let later : 1 + d.taken ≡ 1 + length d.templates = omega arith in
        let h = put_in p a b (ap (λ (w : World). w.page) left ∙ ap (put p 0) c.whole) k end in
        let row : headed (source_in r) z a b ≡ bytes (page_out_row (options_in r) d) =
        ap (λ (s : Walk). headed (source_in r) s a b) state ∙ headed_row (source_in r) (walked d d.value 0) d.templates d.value a b later (walked_sum d d.value 0 called) (λ l. called_due (omega arith)) c in
        let ts : t' ≡ recorded d.templates t 0 = ap (λ (w : World). w.templates) left in
        let st : y ≡ to_page (length (bytes (page_out_row (options_in r) d))) (walked d d.value 0) = h.state_is ∙ ap₂ to_page (ap length row) state in
        ap₂ (λ (x : Bytes) (s : Walk). at x p'' s) ts st
        ∙ world_is (options_in r) d d.value 0 (length (bytes (page_out_row (options_in r) d))) t p p'' counted (h.page_is ∙ ap (put p 0) row) refl
        ∙ free t p

    pub written_moved : (b : Bool) → page_has_statement is ≡ b → q ≡ pick b (length (bytes (first_part (opts skip props) is 1).value)) 0 → at t' p'' y ≡ written_page (options_in r) (transform (options_in r) is) t p
    unfolding transform
    written_moved true h k = written_cut (bytes (first_part (opts skip props) is 1).value) (second_part (opts skip props) is 1) (cut_between (opts skip props) is 1 made.templates h) k
    written_moved false h k = written_cut [] (bytes made.value) (cut_before (opts skip props) is 1 made.templates h) k

-- ---- the verdict

-- no import is too long
import_short : (source : Bytes) (sum : ℕ) (r : Row) → length source ≤ 65000 → long_body (with_import source sum r) ≡ long_body r
import_short source sum r h = import_related (λ (x : Row). long_body x ≡ long_body r) source sum r refl short
  where
    s : Bytes
    s = source ++ ascii "/jsx-runtime"

    short : long_body (import_row (source ++ ascii "/jsx-runtime") sum r) ≡ long_body r
    short =
        unfold long_body bytes in
        ap₂ (λ (a b : Bool). a || ((b || false) || long_body r))
        (le-ltb 65535 (length (bytes (field 0x81 s end (loose (sum ∷ []))))) (omega (arith, length_bytes 0x81 s end (loose (sum ∷ [])), length-append source (ascii "/jsx-runtime"))))
        (le-ltb 65535 (length (s ++ [])) (omega (arith, length-append s [], length-append source (ascii "/jsx-runtime"))))

pub page_long : (o : Options) (d : Done Row) → length o.import_source ≤ 65000 → long_body (page_out_row o d) ≡ long_body d.value
unfolding page_out_row
page_long o d h = import_short o.import_source (helper_sum d.value) (placed_row d) h ∙ place_long d.templates d.value

-- what is due, the gravest first: the first flag that is raised
above : (k : Due) (x : Bool) (n : Due) → gravity n ≤ gravity k → graver (due_if k x) n ≡ pick x k n
above k true n h = graver_left k n h
above k false n h = none_graver n

within : (x : Bool) (j n : Due) {k : ℕ} → gravity j ≤ k → gravity n ≤ k → gravity (pick x j n) ≤ k
within true j n p q = p
within false j n p q = q

module _ (x r m l : Bool) where
  abbrev gravest : Due
  gravest = pick x D.Left (pick r D.Repeated (pick m D.Mixed (long_due l)))

  gravest_is : graver (due_if D.Left x) (graver (due_if D.Repeated r) (graver (due_if D.Mixed m) (long_due l))) ≡ gravest
  gravest_is =
      ap (λ (n : Due). graver (due_if D.Left x) (graver (due_if D.Repeated r) n)) (above D.Mixed m (long_due l) (within l D.Long D.Nothing (omega arith) (omega arith)))
      ∙ ap (graver (due_if D.Left x)) (above D.Repeated r (pick m D.Mixed (long_due l)) (within m D.Mixed (long_due l) (omega arith) (within l D.Long D.Nothing (omega arith) (omega arith))))
      ∙ above D.Left x (pick r D.Repeated (pick m D.Mixed (long_due l))) (within r D.Repeated (pick m D.Mixed (long_due l)) (omega arith) (within m D.Mixed (long_due l) (omega arith) (within l D.Long D.Nothing (omega arith) (omega arith))))

-- the checks by what is due are the checks by the flags
abbrev by_due : Verdict → Due → Verdict
by_due v n = after (due_verdict n) λ _. v

abbrev by_flags : Verdict → (x r m l : Bool) → Verdict
by_flags v x r m l =
    after (unless (not x) R.TagLeft) λ _.
    after (unless (not r) R.RepeatedAttribute) λ _.
    after (unless (not m) R.MixedCaseVoid) λ _.
    after (unless (not l) R.OutputTooLong) λ _. v

due_told : (v : Verdict) (x r m l : Bool) → by_due v (gravest x r m l) ≡ by_flags v x r m l
unfolding after
due_told v true r m l = refl
due_told v false true m l = refl
due_told v false false true l = refl
due_told v false false false true = refl
due_told v false false false false = refl

pub verdict_is : (o : Options) (d : Done Row) (t p : Bytes) (tr pr : ℕ) → length o.import_source ≤ 65000 → verdict_of (written_page o d t p).st tr pr ≡ check_outputs tr pr d.flags (templates_row d.templates) (page_out_row o d)
unfolding check_outputs
verdict_is o d t p tr pr h =
    let f = d.flags in
    let l = long_body (templates_row d.templates) in
    let v = after (unless (leb (length (bytes (templates_row d.templates))) tr) R.TemplatesTooSmall) (λ _. unless (leb (length (bytes (page_out_row o d))) pr) R.PageTooSmall) in
    let z = l || long_body d.value in
    let c = due_if D.Mixed f.mixed in
    let b = due_if D.Repeated f.repeated in
    let e : graver (grave f) (long_due z) ≡ gravest f.left f.repeated f.mixed (f.long || z) =
    graver_assoc (due_if D.Left f.left) (graver b (graver c (long_due f.long))) (long_due z)
    ∙ ap (graver (due_if D.Left f.left)) (graver_assoc b (graver c (long_due f.long)) (long_due z) ∙ ap (graver b) (long_then c f.long z))
    ∙ gravest_is f.left f.repeated f.mixed (f.long || z) in
    ap (by_due v) e ∙ due_told v f.left f.repeated f.mixed (f.long || z)
    ∙ ap (λ (x : Bool). by_flags v f.left f.repeated f.mixed (f.long || (l || x))) (sym (page_long o d h))
