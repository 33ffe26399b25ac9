-- Source text, a byte or a string in quotes further; its matching brace; and what is not read. Main statements: `sourcing_none`,
-- `sourcing_byte`, `sourcing_up`, `sourcing_down`, `sourcing_quotes`, `source_found`, `source_barred`, `source_open`, `source_broken`, `source_out`.
-- Assumes nothing.
use Prim.Native.Nat.{ℕ, zero, suc, ◌+◌, ◌-◌, ◌≤◌, ◌<◌}
use mathlib.Core.Path.{◌≡◌, refl, sym, ◌∙◌, ap, subst}
use mathlib.Core.Bool.{Bool, true, false, not, false≢true}
use mathlib.Core.List.{[], ◌∷◌, ◌++◌, append_assoc}
use native.Mathlib.Omega.{arith}
use native.Mathlib.Numerals.{add-one}
use lib.Dec.{T, eqb, eqb→eq, not_T}
use lib.ListN.{length, take, drop, get_or, length-append, length-drop, drop_of_length-le}
use lib.Seq.{drop-cons, take_at, length-take-le}
use Rattle.std.specs.Prelude.{Some, None}
use Rattle.field.specs.Bytes.{Bytes}
use Rattle.grammar.specs.Signs.{snoc, quote, quoted_byte, source_byte}
use Rattle.grammar.specs.Known.{known_of}
use Rattle.grammar.specs.Grammar.{Ends, Run, run_ends, run_on, source_ends, source_on, quotes}
use Rattle.grammar.specs.Reader.{Braces, Stack, in_source, in_quotes, refused, filled_if, at_end, step, step_source, brace_ends, outcome}
use Rattle.grammar.proofs.Tests.{chose, passed, quote_no_source}
use Rattle.grammar.proofs.Complete.{go, sourced, brace_opens, brace_closes, source_ends_at, through, refused_never}
use Rattle.grammar.proofs.Letters.{run_is}
use Rattle.read_tag.specs.Runs.{Ran}
use Rattle.read_tag.specs.Sources.{Sourced}

pub record Sourcing (s : Bytes) (i k d : ℕ) : Type 0 where
  pub after : i ≤ k
  pub inside : k ≤ length s
  pub small : d ≤ k
  pub read : Bytes
  pub parts : drop i s ≡ read ++ drop k s
  pub counted : i + length read ≡ k
  pub leads : (h : Braces) (K : Stack) → outcome (in_source zero [] h K) (drop i s) ≡ outcome (in_source d read h K) (drop k s)

module _ (s : Bytes) (i : ℕ) where
  next : (k : ℕ) → k < length s → drop k s ≡ get_or s k 0 ∷ drop (k + 1) s
  next k h = rw (add-one k) (drop-cons s k 0 h)

  pub sourcing_none : i ≤ length s → Sourcing s i i 0
  sourcing_none h = record { after = omega arith; inside = h; small = omega arith; read = []; parts = refl; counted = omega arith; leads = λ h K. refl }

  -- further to the place e, by what was read in between
  further : (k d e f : ℕ) (v : Bytes) → Sourcing s i k d → e ≤ length s → f ≤ e → drop k s ≡ v ++ drop e s → k + length v ≡ e → ((w : Bytes) (h : Braces) (K : Stack) → outcome (in_source d w h K) (drop k s) ≡ outcome (in_source f (w ++ v) h K) (drop e s)) → Sourcing s i e f
  further k d e f v u l m p c o =
      record {
        after = omega (arith, u.after, c);
        inside = l;
        small = m;
        read = u.read ++ v;
        parts = u.parts ∙ ap (λ (z : Bytes). u.read ++ z) p ∙ sym (append_assoc u.read v (drop e s));
        counted = omega (arith, u.counted, c, length-append u.read v);
        leads = λ h K. u.leads h K ∙ o u.read h K;
      }

  pub sourcing_byte : (k d : ℕ) (b : Bool) → Sourcing s i k d → k < length s → b ≡ source_byte (get_or s k 0) → b ≡ true → Sourcing s i (k + 1) d
  sourcing_byte k d b u l e t =
      let n = next k l in
      further k d (k + 1) d (get_or s k 0 ∷ []) u (omega arith) (omega (arith, u.small)) n (omega arith)
      (λ w h K. ap (outcome (in_source d w h K)) n ∙ sourced (source_on (subst T (sym t ∙ e) tt) source_ends) d w h K)

  pub sourcing_up : (k d : ℕ) → Sourcing s i k d → k < length s → get_or s k 0 ≡ 123 → Sourcing s i (k + 1) (d + 1)
  sourcing_up k d u l e =
      let n : drop k s ≡ 123 ∷ drop (k + 1) s = next k l ∙ ap (λ (z : ℕ). z ∷ drop (k + 1) s) e in
      further k d (k + 1) (d + 1) (123 ∷ []) u (omega arith) (omega (arith, u.small)) n (omega arith)
      (λ w h K. ap (outcome (in_source d w h K)) n ∙ brace_opens d w h K (drop (k + 1) s) ∙ ap (λ (z : ℕ). outcome (in_source z (snoc w 123) h K) (drop (k + 1) s)) (sym (add-one d)))

  pub sourcing_down : (k d : ℕ) → Sourcing s i k d → k < length s → get_or s k 0 ≡ 125 → (d ≡ 0 → ⊥) → Sourcing s i (k + 1) (d - 1)
  sourcing_down k zero u l e m = absurd (m refl)
  sourcing_down k (suc d) u l e m =
      let n : drop k s ≡ 125 ∷ drop (k + 1) s = next k l ∙ ap (λ (z : ℕ). z ∷ drop (k + 1) s) e in
      let z : d ≡ suc d - 1 = omega arith in
      further k (suc d) (k + 1) (suc d - 1) (125 ∷ []) u (omega arith) (omega (arith, u.small)) n (omega arith)
      (λ w h K. ap (outcome (in_source (suc d) w h K)) n ∙ brace_closes d w h K (drop (k + 1) s) ∙ ap (λ (y : ℕ). outcome (in_source y (snoc w 125) h K) (drop (k + 1) s)) z)

  pub source_found : (k d : ℕ) → Sourcing s i k d → k < length s → get_or s k 0 ≡ 125 → d ≡ 0 → Sourced s i (Some k)
  unfolding Sourced
  source_found k d u l e z =
      let n : drop k s ≡ 125 ∷ drop (k + 1) s = next k l ∙ ap (λ (y : ℕ). y ∷ drop (k + 1) s) e in
      let q : take (k - i) (drop i s) ≡ u.read = ap (take (k - i)) u.parts ∙ take_at u.read (drop k s) (k - i) (omega (arith, u.counted)) in (
        u.after,
        l,
        λ h K.
            u.leads h K ∙
            ap (λ (y : ℕ). outcome (in_source y u.read h K) (drop k s)) z ∙
            ap (outcome (in_source zero u.read h K)) n ∙
            source_ends_at u.read h K (drop (k + 1) s) ∙
            ap (λ (y : Bytes). outcome (filled_if (known_of y) h K) (drop (k + 1) s)) (sym q),
      )

  -- the text ends
  pub source_out : (k d : ℕ) → Sourcing s i k d → length s ≤ k → Sourced s i None
  unfolding Sourced
  source_out k d u l h K = u.leads h K ∙ ap (outcome (in_source d u.read h K)) (drop_of_length-le s l) ∙ (unfold outcome at_end in refl)

  -- ---- a byte that is not read

  barred : (c d : ℕ) (w : Bytes) (h : Braces) (K : Stack) → T (not (source_byte c)) → T (not (quote c)) → T (not (eqb c 123)) → T (not (eqb c 125)) → step (in_source d w h K) c ≡ refused
  unfolding step step_source
  barred c d w h K a b e f =
      passed (source_byte c) (in_source d (snoc w c) h K) _ a ∙ passed (quote c) (in_quotes c d (snoc w c) h K) _ b ∙ passed (eqb c 123) (in_source (suc d) (snoc w c) h K) _ e ∙ passed (eqb c 125) (brace_ends d w h K) refused f

  other : (c e : ℕ) → (c ≡ e → ⊥) → T (not (eqb c e))
  other c e n = not_T (eqb c e) (λ t. n (eqb→eq c e t))

  pub source_barred : (k d : ℕ) (a b : Bool) → Sourcing s i k d → k < length s → a ≡ source_byte (get_or s k 0) → a ≡ false → (get_or s k 0 ≡ 125 → ⊥) → (get_or s k 0 ≡ 123 → ⊥) → b ≡ quote (get_or s k 0) → not b ≡ true → Sourced s i None
  unfolding Sourced
  source_barred k d a b u l e t x y f g h K =
      let c : ℕ = get_or s k 0 in
      u.leads h K ∙
      ap (outcome (in_source d u.read h K)) (next k l) ∙
      go (in_source d u.read h K) refused c (drop (k + 1) s) (barred c d u.read h K (subst (λ (z : Bool). T (not z)) (sym t ∙ e) tt) (subst T (sym (ap not (sym f) ∙ g)) tt) (other c 123 y) (other c 125 x)) ∙
      refused_never (drop (k + 1) s)

  -- ---- a string in quotes

  quote_opens : (q d : ℕ) (w : Bytes) (h : Braces) (K : Stack) → T (quote q) → step (in_source d w h K) q ≡ in_quotes q d (snoc w q) h K
  unfolding step step_source
  quote_opens q d w h K t = passed (source_byte q) (in_source d (snoc w q) h K) _ (quote_no_source q t) ∙ chose (quote q) (in_quotes q d (snoc w q) h K) _ t

  quote_goes : (q d : ℕ) (z : Bytes) (h : Braces) (K : Stack) (c : ℕ) → T (quoted_byte q c) → step (in_quotes q d z h K) c ≡ in_quotes q d (snoc z c) h K
  unfolding step
  quote_goes q d z h K c v = chose (quoted_byte q c) (in_quotes q d (snoc z c) h K) _ v

  quoted_led : (k d e : ℕ) (w : Bytes) (h : Braces) (K : Stack) → k < length s → T (quote (get_or s k 0)) → Ran (quoted_byte (get_or s k 0)) s (k + 1) e → outcome (in_source d w h K) (drop k s) ≡ outcome (in_quotes (get_or s k 0) d (snoc w (get_or s k 0) ++ take (e - (k + 1)) (drop (k + 1) s)) h K) (drop e s)
  quoted_led k d e w h K l t r =
      let q : ℕ = get_or s k 0 in
      ap (outcome (in_source d w h K)) (next k l) ∙
      go (in_source d w h K) (in_quotes q d (snoc w q) h K) q (drop (k + 1) s) (quote_opens q d w h K t) ∙
      through (quoted_byte q) (λ z. in_quotes q d z h K) (λ z. in_quotes q d z h K) (λ z c v. refl) (λ z. refl) (λ z c v. quote_goes q d z h K c v) r.run (snoc w q)

  yes : (b c : Bool) → b ≡ c → not b ≡ false → T c
  yes true true e f = tt
  yes true false e f = absurd (false≢true (sym e))
  yes false c e f = absurd (false≢true (sym f))

  -- not closed where the text ends
  pub source_open : (k d e : ℕ) (b : Bool) → Sourcing s i k d → k < length s → b ≡ quote (get_or s k 0) → not b ≡ false → Ran (quoted_byte (get_or s k 0)) s (k + 1) e → length s ≤ e → Sourced s i None
  unfolding Sourced
  source_open k d e b u l f g r m h K =
      let x : Bytes = snoc u.read (get_or s k 0) ++ take (e - (k + 1)) (drop (k + 1) s) in
      u.leads h K ∙ quoted_led k d e u.read h K l (yes b (quote (get_or s k 0)) f g) r ∙ ap (outcome (in_quotes (get_or s k 0) d x h K)) (drop_of_length-le s m) ∙ (unfold outcome at_end in refl)

  run_end : {p : ℕ → Bool} {x w r : Bytes} → Run p x w r → Ends p r
  run_end (run_ends e) = e
  run_end (run_on t q) = run_end q

  stopped : (q d c : ℕ) (z : Bytes) (h : Braces) (K : Stack) → T (not (quoted_byte q c)) → T (not (eqb c q)) → step (in_quotes q d z h K) c ≡ refused
  unfolding step
  stopped q d c z h K a b = passed (quoted_byte q c) (in_quotes q d (snoc z c) h K) _ a ∙ passed (eqb c q) (in_source d (snoc z c) h K) refused b

  ended_at : (e : ℕ) (p : ℕ → Bool) → e < length s → Ends p (drop e s) → T (not (p (get_or s e 0)))
  unfolding Ends
  ended_at e p m x = subst (Ends p) (next e m) x

  -- not closed on its line, or a backslash
  pub source_broken : (k d e : ℕ) (b : Bool) → Sourcing s i k d → k < length s → b ≡ quote (get_or s k 0) → not b ≡ false → Ran (quoted_byte (get_or s k 0)) s (k + 1) e → e < length s → (get_or s e 0 ≡ get_or s k 0 → ⊥) → Sourced s i None
  unfolding Sourced
  source_broken k d e b u l f g r m n h K =
      let q : ℕ = get_or s k 0 in
      let x : Bytes = snoc u.read q ++ take (e - (k + 1)) (drop (k + 1) s) in
      u.leads h K ∙
      quoted_led k d e u.read h K l (yes b (quote q) f g) r ∙
      ap (outcome (in_quotes q d x h K)) (next e m) ∙
      go (in_quotes q d x h K) refused (get_or s e 0) (drop (e + 1) s) (stopped q d (get_or s e 0) x h K (ended_at e (quoted_byte q) m (run_end r.run)) (other (get_or s e 0) q n)) ∙
      refused_never (drop (e + 1) s)

  pub sourcing_quotes : (k d e : ℕ) (b : Bool) → Sourcing s i k d → k < length s → b ≡ quote (get_or s k 0) → not b ≡ false → Ran (quoted_byte (get_or s k 0)) s (k + 1) e → e < length s → get_or s e 0 ≡ get_or s k 0 → Sourcing s i (e + 1) d
  sourcing_quotes k d e b u l f g r m n =
      let q : ℕ = get_or s k 0 in
      let v : Bytes = take (e - (k + 1)) (drop (k + 1) s) in
      let at : drop e s ≡ q ∷ drop (e + 1) s = next e m ∙ ap (λ (z : ℕ). z ∷ drop (e + 1) s) n in
      let p : drop (k + 1) s ≡ v ++ (q ∷ drop (e + 1) s) = run_is r.run ∙ ap (λ (z : Bytes). v ++ z) at in
      let c : length v ≡ e - (k + 1) = length-take-le (e - (k + 1)) (drop (k + 1) s) (omega (arith, length-drop (k + 1) s)) in
      let y : Run (quoted_byte q) (drop (k + 1) s) v (q ∷ drop (e + 1) s) = subst (Run (quoted_byte q) (drop (k + 1) s) v) at r.run in
      further k d (e + 1) d (q ∷ (v ++ (q ∷ []))) u (omega arith) (omega (arith, u.small, r.after))
      (next k l ∙ ap (λ (z : Bytes). q ∷ z) (p ∙ sym (append_assoc v (q ∷ []) (drop (e + 1) s))))
      (omega (arith, c, length-append v (q ∷ []), r.after))
      (λ w h K. ap (outcome (in_source d w h K)) (next k l) ∙ sourced (quotes (yes b (quote q) f g) y source_ends) d w h K)
