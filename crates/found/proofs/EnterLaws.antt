-- What kinds and places say of entries, and how it joins. Main statements: `enters_by`, `then_enters`, `then_within`, `run_enters`,
-- `run_within`, `moved`. Assumes nothing.
use mathlib.Core.Path.{◌≡◌, refl, sym, ap, ◌∙◌, subst}
use mathlib.Core.Bool.{Bool, true, false, not, true≢false, false≢true}
use Prim.Native.Nat.{ℕ, ◌+◌, ◌≤◌}
use native.Mathlib.Omega.{arith}
use mathlib.Core.List.{List, [], ◌∷◌, ◌++◌, append-nil}
use lib.ListN.{length, take, drop, length-append}
use lib.Seq.{take_all}
use Rattle.field.specs.Bytes.{Bytes, pick, null?}
use Rattle.spec.specs.Output.{string_node}
use Rattle.spec.specs.Merge.{Entry, still}
use Rattle.found.specs.Finds.{Within, part, placed, entries_at, Runs, Enters, is_empty, then_found, run_found}
use Rattle.found.specs.declared.Kind.{Kind}
use Rattle.found.specs.declared.Kind.TheVariants as K
use Rattle.found.specs.declared.Found.{Found}
use Rattle.found.proofs.Places.{Stands, stands_room, stands_in, stands_of, length_part, part_is}
use Rattle.found.proofs.MergeLaws.{run_entries}

-- a place in bytes that stand in others, as a place in these; Q is what is said of it
module _ (s : Bytes) (n : ℕ) (b : Bytes) (a : Stands s n b) (y : Found) (w : Within y b) where
  pub moved : (Q : Kind → Bytes → Type 0) → Q y.kind (part b y) → {x : Found} → x ≡ placed y.kind (n + y.from) y.len → Within x s × Q x.kind (part s x)
  moved Q h {x} e =
      let c : Bytes = take y.len (drop y.from b) in
      let l : length c ≡ y.len = length_part b y.from y.len w in
      let st : Stands s (n + y.from) c = stands_in s n b a y.from c (stands_of b y.from y.len w) in
      subst (λ (x : Found). Within x s × Q x.kind (part s x)) (sym e)
      (omega (arith, stands_room s (n + y.from) c st, l), subst (Q y.kind) (sym (part_is s (n + y.from) y.len c st l)) h)

module _ (skip props : Bytes) where
  -- the same entries, a run by what is said of it
  pub enters_by : (R R' : List Entry → Bytes → Type 0) (es : List Entry) (b : Bytes) → (R es b → R' es b) → (k : Kind) → Enters skip props R es k b → Enters skip props R' es k b
  enters_by R R' es b f K.Nothing x = x
  enters_by R R' es b f K.Empty x = x
  enters_by R R' es b f (K.Many k) x = x
  enters_by R R' es b f K.Run x = f x
  enters_by R R' es b f K.Text x = x
  enters_by R R' es b f K.Element x = x
  enters_by R R' es b f K.Template x = x
  enters_by R R' es b f K.Expr x = x
  enters_by R R' es b f K.Item x = x
  enters_by R R' es b f K.Hole x = x

  module _ (R : List Entry → Bytes → Type 0) (some : (es : List Entry) (b : Bytes) → R es b → 1 ≤ length es) where
    enters_none : (es : List Entry) (b : Bytes) (k : Kind) → is_empty k ≡ true → Enters skip props R es k b → es ≡ []
    unfolding is_empty
    enters_none es b K.Nothing h x = absurd x
    enters_none es b K.Empty h x = x
    enters_none es b (K.Many k) h x = absurd (false≢true h)
    enters_none es b K.Run h x = absurd (false≢true h)
    enters_none es b K.Text h x = absurd (false≢true h)
    enters_none es b K.Element h x = absurd (false≢true h)
    enters_none es b K.Template h x = absurd (false≢true h)
    enters_none es b K.Expr h x = absurd (false≢true h)
    enters_none es b K.Item h x = absurd (false≢true h)
    enters_none es b K.Hole h x = absurd (false≢true h)

    one : (es : List Entry) (e : Entry) → es ≡ e ∷ [] → 1 ≤ length es
    one es e h = omega (arith, ap length h)

    enters_some : (es : List Entry) (b : Bytes) (k : Kind) → is_empty k ≡ false → Enters skip props R es k b → 1 ≤ length es
    unfolding is_empty
    enters_some es b K.Nothing h x = absurd x
    enters_some es b K.Empty h x = absurd (true≢false h)
    enters_some es b (K.Many k) h x = omega (arith, x.0)
    enters_some es b K.Run h x = some es b x
    enters_some es b K.Text h x = one es _ x
    enters_some es b K.Element h x = one es _ x.0
    enters_some es b K.Template h x = one es _ x
    enters_some es b K.Expr h x = one es _ x
    enters_some es b K.Item h x = one es _ x
    enters_some es b K.Hole h x = one es _ x

    -- entries and others behind them
    module _ (s : Bytes) (a b : Found) (xs ys : List Entry) (x : Enters skip props R xs a.kind (part s a)) (y : Enters skip props R ys b.kind (part s b)) where
      joined : (p q : Bool) → is_empty a.kind ≡ p → is_empty b.kind ≡ q →
          let f : Found = pick p b (pick q a (placed (K.Many 0) 0 0)) in
          Enters skip props R (xs ++ ys) f.kind (part s f)
      joined true q h k =
          subst (λ (es : List Entry). Enters skip props R (es ++ ys) b.kind (part s b)) (sym (enters_none xs (part s a) a.kind h x)) y
      joined false true h k =
          subst (λ (es : List Entry). Enters skip props R es a.kind (part s a))
          (sym (ap (λ (es : List Entry). xs ++ es) (enters_none ys (part s b) b.kind k y) ∙ append-nil xs)) x
      joined false false h k =
          (omega (arith, length-append xs ys, enters_some xs (part s a) a.kind h x, enters_some ys (part s b) b.kind k y), λ n. absurd (n refl))

      pub then_enters : {r : Found} → r ≡ then_found a b → Enters skip props R (xs ++ ys) r.kind (part s r)
      then_enters {r} e =
          subst (λ (f : Found). Enters skip props R (xs ++ ys) f.kind (part s f)) (sym e) (joined (is_empty a.kind) (is_empty b.kind) refl refl)

pub then_within : (s : Bytes) (a b : Found) → Within a s → Within b s → {r : Found} → r ≡ then_found a b → Within r s
then_within s a b v w {r} e = subst (λ (f : Found). Within f s) (sym e) (on (is_empty a.kind) (is_empty b.kind))
  where
    on : (p q : Bool) → Within (pick p b (pick q a (placed (K.Many 0) 0 0))) s
    on true q = w
    on false true = v
    on false false = omega arith

-- ---- a run of the children in s: all of them are its place, until it is known to be alone

pub data Here (skip props s : Bytes) (es : List Entry) (b : Bytes) : Type 0 where
  own : (run : Bytes) → es ≡ still (string_node run) ∷ [] → b ≡ s → Here skip props s es b
  theirs : Runs skip props es b → Here skip props s es b

module _ (skip props s : Bytes) where
  pub here_some : (es : List Entry) (b : Bytes) → Here skip props s es b → 1 ≤ length es
  here_some es b (own run e q) = omega (arith, ap length e)
  here_some es b (theirs x) = omega (arith, ap length x.alone)

  pub here_runs : (es : List Entry) (b : Bytes) → entries_at skip props s ≡ es → Here skip props s es b → Runs skip props es b
  here_runs es b h (own run e q) = record { run = run; alone = e; among_all = ap (entries_at skip props) q ∙ (h ∙ e) }
  here_runs es b h (theirs x) = x

  module _ (a : Found) (xs : List Entry) (x : Enters skip props (Here skip props s) xs a.kind (part s a)) where
    run_by : (buf : Bytes) (run : Bool) → run ≡ not (null? buf) → Enters skip props (Here skip props s) (xs ++ run_entries buf) (run_found a run (length s)).kind (part s (run_found a run (length s)))
    unfolding run_entries
    run_by [] true h = absurd (true≢false h)
    run_by [] false h = subst (λ (es : List Entry). Enters skip props (Here skip props s) es a.kind (part s a)) (sym (append-nil xs)) x
    run_by (c ∷ buf) false h = absurd (false≢true h)
    run_by (c ∷ buf) true h =
        then_enters skip props (Here skip props s) here_some s a (placed K.Run 0 (length s)) xs (still (string_node (c ∷ buf)) ∷ []) x
        (own (c ∷ buf) refl (take_all (length s) s (omega arith))) refl

    pub run_enters : (buf : Bytes) (run : Bool) → run ≡ not (null? buf) → {r : Found} → r ≡ run_found a run (length s) → Enters skip props (Here skip props s) (xs ++ run_entries buf) r.kind (part s r)
    run_enters buf run h {r} e =
        subst (λ (f : Found). Enters skip props (Here skip props s) (xs ++ run_entries buf) f.kind (part s f)) (sym e) (run_by buf run h)

pub run_within : (s : Bytes) (a : Found) → Within a s → (run : Bool) → {r : Found} → r ≡ run_found a run (length s) → Within r s
run_within s a w run {r} e = subst (λ (f : Found). Within f s) (sym e) (on run)
  where
    on : (run : Bool) → Within (run_found a run (length s)) s
    on true = then_within s a (placed K.Run 0 (length s)) w (omega arith) refl
    on false = w
