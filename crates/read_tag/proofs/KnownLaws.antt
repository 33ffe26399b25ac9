-- What braces hold, test by test: its minus, its quotes. Main statements: `minus_front`, `behind_minus`, `no_minus`, `string_stands`,
-- `string_unclosed`, `string_parted`. Assumes nothing.
use Prim.Native.Nat.{ℕ, suc, ◌-◌, ◌≤◌, ◌<◌}
use mathlib.Core.Path.{◌≡◌, refl, sym, ◌∙◌, ap, ap₂, subst}
use mathlib.Core.Bool.{Bool, true, false, ◌||◌, not}
use mathlib.Core.List.{[], ◌∷◌, ◌++◌, append-nil, append_assoc}
use native.Mathlib.Omega.{arith}
use borrow.Author.Tests.{eq-eqb, ne_eqb}
use lib.Dec.{T, eqb}
use lib.ListN.{length, take, drop, get_or, length-drop}
use lib.Seq.{take-suc, take_all}
use Rattle.std.specs.Prelude.{Option, None, Some}
use Rattle.std.specs.List.{list_any}
use Rattle.field.specs.Bytes.{Bytes}
use Rattle.grammar.specs.Signs.{choose, space, quote}
use Rattle.grammar.specs.Known.{Known, quoted, trimmed_front, unsigned, has_minus, string_from, string_of}
use Rattle.grammar.specs.Grammar.{Ends, Run, run_ends, run_on}
use Rattle.grammar.proofs.Tests.{chose, passed}
use Rattle.read_tag.specs.Runs.{Ran}
use Rattle.read_tag.proofs.TextLaws.{other}

-- ---- a minus

pub minus_front : (s : Bytes) → get_or s 0 0 ≡ 45 → true ≡ has_minus s
unfolding has_minus
minus_front [] e = absurd (omega arith)
minus_front (c ∷ s) e = sym (eq-eqb c 45 e)

stays : (s : Bytes) → Ends space s → trimmed_front s ≡ s
unfolding Ends trimmed_front
stays [] e = refl
stays (c ∷ s) e = passed (space c) (trimmed_front s) (c ∷ s) e

trimmed_run : {s w r : Bytes} → Run space s w r → trimmed_front s ≡ r
unfolding trimmed_front
trimmed_run (run_ends {s} e) = stays s e
trimmed_run (run_on {c} {s} t q) = chose (space c) (trimmed_front s) (c ∷ s) t ∙ trimmed_run q

-- w is behind it
pub behind_minus : (s w : Bytes) (r : ℕ) → get_or s 0 0 ≡ 45 → w ≡ drop 1 s → Ran space w 0 r → take (length w - r) (drop r w) ≡ unsigned s
unfolding unsigned
behind_minus [] w r e f u = absurd (omega arith)
behind_minus (c ∷ s) w r e f u =
    let t : T (eqb c 45) = subst (λ (z : ℕ). T (eqb z 45)) (sym e) tt in
    take_all (length w - r) (drop r w) (omega (arith, length-drop r w)) ∙ sym (trimmed_run u.run) ∙ ap trimmed_front f ∙ sym (chose (eqb c 45) (trimmed_front s) (c ∷ s) t)

pub no_minus : (s : Bytes) → (get_or s 0 0 ≡ 45 → ⊥) → (false ≡ has_minus s) × (s ≡ unsigned s)
unfolding has_minus unsigned
no_minus [] n = (refl, refl)
no_minus (c ∷ s) n = (sym (ne_eqb c 45 n), sym (passed (eqb c 45) (trimmed_front s) (c ∷ s) (other c 45 n)))

pub no_first : (s : Bytes) → length s < 1 → get_or s 0 0 ≡ 45 → ⊥
no_first [] l e = omega arith
no_first (c ∷ s) l e = omega arith

-- ---- a string

-- without two bytes; without a quote
pub string_short : (s : Bytes) → length s < 2 → string_of s ≡ None
unfolding string_of string_from
string_short [] l = refl
string_short (c ∷ []) l = on (quote c)
  where
    on : (b : Bool) → choose {A = Option Known} b None None ≡ None
    on true = unfold choose in refl
    on false = unfold choose in refl
string_short (c ∷ d ∷ s) l = absurd (omega arith)

pub string_no_quote : (s : Bytes) (b : Bool) → b ≡ quote (get_or s 0 0) → b ≡ false → string_of s ≡ None
unfolding string_of
string_no_quote [] b e f = refl
string_no_quote (c ∷ s) b e f = passed (quote c) (string_from c [] s) None (subst (λ (z : Bool). T (not z)) (sym f ∙ e) tt)

-- further by a byte that is not the quote; at the quote, where it is not the last
one_more : (q c : ℕ) (v r : Bytes) → T (not (eqb c q)) → string_from q v (c ∷ r) ≡ string_from q (v ++ (c ∷ [])) r
unfolding string_from
one_more q c v [] t = passed (eqb c q) (Some (quoted v)) None t
one_more q c v (d ∷ r) t = passed (eqb c q) None _ t

not_last : (q c d : ℕ) (v u : Bytes) → T (eqb c q) → string_from q v (c ∷ (u ++ (d ∷ []))) ≡ None
unfolding string_from
not_last q c d v [] t = chose (eqb c q) None _ t
not_last q c d v (e ∷ u) t = chose (eqb c q) None _ t

module _ (q d : ℕ) where
  first_of : (a b : Bool) → (a || b) ≡ false → T (not a) × (b ≡ false)
  first_of true b e = cc
  first_of false b e = (tt, e)

  -- the bytes u, and d behind them: it is the quote, or not, or the quote stands among u
  closes : (u v : Bytes) → list_any (λ c. eqb c q) u ≡ false → d ≡ q → string_from q v (u ++ (d ∷ [])) ≡ Some (quoted (v ++ u))
  closes [] v a e = unfold string_from in (chose (eqb d q) (Some (quoted v)) None (subst (λ (z : ℕ). T (eqb d z)) e (subst T (sym (eq-eqb d d refl)) tt)) ∙ ap (λ (w : Bytes). Some (quoted w)) (sym (append-nil v)))
  closes (c ∷ u) v a e =
      let f = first_of (eqb c q) (list_any (λ c. eqb c q) u) a in
      one_more q c v (u ++ (d ∷ [])) f.0 ∙ closes u (v ++ (c ∷ [])) f.1 e ∙ ap (λ (w : Bytes). Some (quoted w)) (append_assoc v (c ∷ []) u)

  by_byte : (c : ℕ) (u v : Bytes) → (eqb c q ≡ false → string_from q (v ++ (c ∷ [])) (u ++ (d ∷ [])) ≡ None) → string_from q v (c ∷ (u ++ (d ∷ []))) ≡ None
  by_byte c u v h = on (eqb c q) refl
    where
      on : (b : Bool) → eqb c q ≡ b → string_from q v (c ∷ (u ++ (d ∷ []))) ≡ None
      on true e = not_last q c d v u (subst T (sym e) tt)
      on false e = one_more q c v (u ++ (d ∷ [])) (subst (λ (z : Bool). T (not z)) (sym e) tt) ∙ h e

  unclosed : (u v : Bytes) → (d ≡ q → ⊥) → string_from q v (u ++ (d ∷ [])) ≡ None
  unclosed [] v n = unfold string_from in passed (eqb d q) (Some (quoted v)) None (other d q n)
  unclosed (c ∷ u) v n = by_byte c u v (λ e. unclosed u (v ++ (c ∷ [])) n)

  parted : (u v : Bytes) → list_any (λ c. eqb c q) u ≡ true → string_from q v (u ++ (d ∷ [])) ≡ None
  parted [] v a = cc
  parted (c ∷ u) v a = by_byte c u v (λ e. parted u (v ++ (c ∷ [])) (sym (ap (λ (b : Bool). b || list_any (λ c. eqb c q) u) e) ∙ a))

-- the last byte apart; the first and the last
last_apart : (s : Bytes) → 1 ≤ length s → s ≡ take (length s - 1) s ++ (get_or s (length s - 1) 0 ∷ [])
last_apart s l =
    let n : suc (length s - 1) ≡ length s = omega arith in
    sym (take_all (length s) s (omega arith)) ∙ ap (λ (k : ℕ). take k s) (sym n) ∙ take-suc s (length s - 1) 0 (omega arith)

abbrev inner : Bytes → Bytes
inner s = take (length s - 1 - 1) (drop 1 s)

ends_apart : (s : Bytes) → 2 ≤ length s → s ≡ get_or s 0 0 ∷ (inner s ++ (get_or s (length s - 1) 0 ∷ []))
ends_apart [] l = absurd (omega arith)
ends_apart (c ∷ s) l =
    let m : length s - 1 ≡ length (c ∷ s) - 1 - 1 = omega arith in
    let n : length (c ∷ s) - 1 ≡ suc (length s - 1) = omega arith in
    ap (λ (w : Bytes). c ∷ w) (last_apart s (omega arith) ∙ ap₂ (λ (j k : ℕ). take j s ++ (get_or (c ∷ s) k 0 ∷ [])) m (sym n))

module _ (s : Bytes) (l : 2 ≤ length s) (b : Bool) (e : b ≡ quote (get_or s 0 0)) (t : b ≡ true) where
  string_by : {r : Option Known} → string_from (get_or s 0 0) [] (inner s ++ (get_or s (length s - 1) 0 ∷ [])) ≡ r → string_of s ≡ r
  unfolding string_of
  string_by h = ap string_of (ends_apart s l) ∙ chose (quote (get_or s 0 0)) _ None (subst T (sym (sym e ∙ t)) tt) ∙ h

  pub string_unclosed : (get_or s (length s - 1) 0 ≡ get_or s 0 0 → ⊥) → string_of s ≡ None
  string_unclosed n = string_by (unclosed (get_or s 0 0) (get_or s (length s - 1) 0) (inner s) [] n)

  pub string_parted : list_any (λ c. eqb c (get_or s 0 0)) (inner s) ≡ true → string_of s ≡ None
  string_parted a = string_by (parted (get_or s 0 0) (get_or s (length s - 1) 0) (inner s) [] a)

  pub string_stands : get_or s (length s - 1) 0 ≡ get_or s 0 0 → list_any (λ c. eqb c (get_or s 0 0)) (inner s) ≡ false → string_of s ≡ Some (quoted (inner s))
  string_stands f a = string_by (closes (get_or s 0 0) (get_or s (length s - 1) 0) (inner s) [] a f)
