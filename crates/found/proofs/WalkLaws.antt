-- The walk over children that are merged: what was found so far and what is left. Main statements: `looked_start`, `looked_past`,
-- `looked_more`, `looked_apart`, `looked_many`, `looked_end`. Assumes nothing.
use mathlib.Core.Path.{◌≡◌, refl, sym, ap, ◌∙◌, subst}
use mathlib.Core.Bool.{Bool, true, false, not, false≢true}
use Prim.Native.Nat.{ℕ, ◌≤◌}
use borrow.Author.Tests.{eqb-true}
use native.Mathlib.Omega.{arith}
use mathlib.Core.List.{List, [], ◌∷◌, ◌++◌, append_assoc}
use lib.ListN.{length, length-append}
use Rattle.field.specs.Bytes.{Bytes, null?}
use Rattle.field.specs.Row.{read, Ended}
use Rattle.spec.specs.Merge.{Entry}
use Rattle.found.specs.Finds.{Within, part, placed, entries_at, Runs, Enters, then_found, run_found, is_settled}
use Rattle.found.specs.declared.Kind.{Kind}
use Rattle.found.specs.declared.Kind.TheVariants as K
use Rattle.found.specs.declared.Found.{Found}
use Rattle.found.proofs.Places.{Tail, tail_all, length_part}
use Rattle.found.proofs.KnownLaws.{Reached, reached_all}
use Rattle.found.proofs.MergeLaws.{run_entries, left_entries, Grows, left_end}
use Rattle.found.proofs.EnterLaws.{Here, here_some, here_runs, enters_by, then_enters, then_within, run_enters, run_within}

-- `buf` is the run so far, which is not yet an entry
pub record Left (skip props s t : Bytes) (run : Bool) (cur : Found) : Type 0 where
  pub buf : Bytes
  pub so_far : List Entry
  pub run_is : run ≡ not (null? buf)
  pub all_is : entries_at skip props s ≡ so_far ++ left_entries skip props buf t
  pub enters : Enters skip props (Here skip props s) so_far cur.kind (part s cur)

-- t is left of s
pub record Looked (skip s t : Bytes) (run : Bool) (cur : Found) : Type 0 where
  pub tail : Tail s t
  pub reached : Reached s t
  pub within : Within cur s
  pub found : (props : Bytes) → Left skip props s t run cur

-- what the field in front of t adds apart from a run: the entries es, which are what x says; r is left
pub record Adds (skip s t r : Bytes) (x : Found) : Type 0 where
  pub inside : Within x s
  pub es : Bytes → List Entry
  pub joins : (props buf : Bytes) → left_entries skip props buf t ≡ run_entries buf ++ (es props ++ left_entries skip props [] r)
  pub says : (props : Bytes) → Enters skip props (Here skip props s) (es props) x.kind (part s x)

-- what `entries_of` answers
abbrev pub Entered : Bytes → Bytes → Found → Type 0
Entered skip s r = Within r s × ((props : Bytes) → Enters skip props (Runs skip props) (entries_at skip props s) r.kind (part s r))

-- several, and no place
record Settled (k : Kind) (n : ℕ) : Type 0 where
  levels : ℕ
  kind_is : k ≡ K.Many levels
  no_place : n ≡ 0

settled : (k : Kind) (n : ℕ) → is_settled k n ≡ true → Settled k n
unfolding is_settled
settled K.Nothing n h = absurd (false≢true h)
settled K.Empty n h = absurd (false≢true h)
settled (K.Many m) n h = record { levels = m; kind_is = refl; no_place = eqb-true n 0 h }
settled K.Run n h = absurd (false≢true h)
settled K.Text n h = absurd (false≢true h)
settled K.Element n h = absurd (false≢true h)
settled K.Template n h = absurd (false≢true h)
settled K.Expr n h = absurd (false≢true h)
settled K.Item n h = absurd (false≢true h)
settled K.Hole n h = absurd (false≢true h)

pub looked_start : (skip s : Bytes) {cur : Found} → cur ≡ placed K.Empty 0 0 → Looked skip s s false cur
looked_start skip s {cur} e =
    subst (Looked skip s s false) (sym e)
    record { tail = tail_all s; reached = reached_all s; within = omega arith; found = λ props. record { buf = []; so_far = []; run_is = refl; all_is = refl; enters = refl } }

pub not_null : (b c : Bytes) → null? c ≡ false → null? (b ++ c) ≡ false
not_null [] c h = h
not_null (x ∷ b) c h = refl

module _ (skip s t : Bytes) (run : Bool) (cur : Found) (k : Looked skip s t run cur) where
  module _ (r : Bytes) (a : Tail s r) (b : Reached s r) where
    -- nothing comes of the field in front
    pub looked_past : ((props buf : Bytes) → left_entries skip props buf t ≡ left_entries skip props buf r) → Looked skip s r run cur
    looked_past h =
        record {
          tail = a;
          reached = b;
          within = k.within;
          found = λ props.
              let l = k.found props in
              record { buf = l.buf; so_far = l.so_far; run_is = l.run_is; all_is = l.all_is ∙ ap (λ (es : List Entry). l.so_far ++ es) (h props l.buf); enters = l.enters };
        }

    -- the run grows
    pub looked_more : ((props buf : Bytes) → Grows skip props buf t r) → Looked skip s r true cur
    looked_more h =
        record {
          tail = a;
          reached = b;
          within = k.within;
          found = λ props.
              let l = k.found props in
              let g = h props l.buf in
              record {
                buf = l.buf ++ g.more;
                so_far = l.so_far;
                run_is = sym (ap not (not_null l.buf g.more g.not_null));
                all_is = l.all_is ∙ ap (λ (es : List Entry). l.so_far ++ es) g.grown;
                enters = l.enters;
              };
        }

    -- the run ends, and what the field adds follows
    pub looked_apart : {x : Found} → Adds skip s t r x → {w : Found} → w ≡ run_found cur run (length s) → {y : Found} → y ≡ then_found w x → Looked skip s r false y
    looked_apart {x} m {w} p {y} q =
        record {
          tail = a;
          reached = b;
          within = then_within s w x (run_within s cur k.within run p) m.inside q;
          found = λ props.
              let l = k.found props in
              let R : List Entry → Bytes → Type 0 = Here skip props s in
              let rest : List Entry = left_entries skip props [] r in
              record {
                buf = [];
                so_far = (l.so_far ++ run_entries l.buf) ++ m.es props;
                run_is = refl;
                all_is =
                    l.all_is
                    ∙ (ap (λ (z : List Entry). l.so_far ++ z) (m.joins props l.buf)
                    ∙ (sym (append_assoc l.so_far (run_entries l.buf) (m.es props ++ rest))
                    ∙ sym (append_assoc (l.so_far ++ run_entries l.buf) (m.es props) rest)));
                enters =
                    then_enters skip props R (here_some skip props s) s w x (l.so_far ++ run_entries l.buf) (m.es props)
                    (run_enters skip props s cur l.so_far l.enters l.buf run l.run_is p) (m.says props) q;
              };
        }

  -- several: the rest does not matter
  pub looked_many : {b : Bool} → b ≡ is_settled cur.kind cur.len → b ≡ true → Entered skip s cur
  looked_many e z = (
    k.within,
    λ props.
        let d = settled cur.kind cur.len (sym e ∙ z) in
        let l = k.found props in
        let rest : List Entry = left_entries skip props l.buf t in
        let n : 2 ≤ length l.so_far = (subst (λ (c : Kind). Enters skip props (Here skip props s) l.so_far c (part s cur)) d.kind_is l.enters).0 in
        subst (λ (c : Kind). Enters skip props (Runs skip props) (entries_at skip props s) c (part s cur)) (sym d.kind_is)
        (omega (arith, ap length l.all_is, length-append l.so_far rest), λ m. absurd (m (length_part s cur.from cur.len k.within ∙ d.no_place))),
  )

  -- nothing is left
  pub looked_end : Ended (read t) → {r : Found} → r ≡ run_found cur run (length s) → Entered skip s r
  looked_end i {r} e = (
    run_within s cur k.within run e,
    λ props.
        let l = k.found props in
        let es : List Entry = l.so_far ++ run_entries l.buf in
        let all : entries_at skip props s ≡ es = l.all_is ∙ ap (λ (z : List Entry). l.so_far ++ z) (left_end skip props t l.buf i) in
        subst (λ (z : List Entry). Enters skip props (Runs skip props) z r.kind (part s r)) (sym all)
        (enters_by skip props (Here skip props s) (Runs skip props) es (part s r) (here_runs skip props s es (part s r) all) r.kind
        (run_enters skip props s cur l.so_far l.enters l.buf run l.run_is e)),
  )
