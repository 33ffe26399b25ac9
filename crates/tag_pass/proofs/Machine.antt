-- The grammar's reader at places of a text: white space, a sign behind it, and the text's end. Main statements: `spaces`, `reads`, `told`, `steps`,
-- `stuck`, `out_of`.
-- Assumes nothing.
use Prim.Native.Nat.{ℕ, ◌+◌, ◌≤◌, ◌<◌}
use mathlib.Core.Path.{◌≡◌, refl, sym, ◌∙◌, ap, subst}
use mathlib.Core.Bool.{Bool, true, false, not}
use lib.Dec.{T}
use lib.ListN.{length, drop, get_or, drop_of_length-le}
use Rattle.field.specs.Bytes.{Bytes}
use Rattle.grammar.specs.Signs.{space}
use Rattle.grammar.specs.Grammar.{Ends, Run, run_ends, run_on, Spaces, no_space, space_on}
use Rattle.grammar.specs.Reader.{State, refused, no_reading, at_end, step, outcome}
use Rattle.grammar.proofs.Complete.{go, refused_never}
use Rattle.read_tag.specs.Runs.{Ran}
use Rattle.read_tag.proofs.RunLaws.{next}
use Rattle.tag_pass.specs.Signs.{SignAt}

run_spaces : {s w r : Bytes} → Run space s w r → Spaces s r
run_spaces (run_ends e) = no_space
run_spaces (run_on t u) = space_on t (run_spaces u)

pub spaces : {s : Bytes} {i j : ℕ} → Ran space s i j → Spaces (drop i s) (drop j s)
spaces r = run_spaces r.run

run_stops : {p : ℕ → Bool} {s w r : Bytes} → Run p s w r → Ends p r
run_stops (run_ends e) = e
run_stops (run_on t u) = run_stops u

is_false : (b : Bool) → T (not b) → b ≡ false
is_false true t = absurd t
is_false false t = refl

-- what stands behind white space is none
pub not_space : {s : Bytes} {i j : ℕ} → Ran space s i j → j < length s → space (get_or s j 0) ≡ false
unfolding Ends
not_space {s} {i} {j} r h = is_false (space (get_or s j 0)) (subst (Ends space) (next s j h) (run_stops r.run))

-- the byte of a sign is that of the text
pub reads : {s : Bytes} {i j c d : ℕ} → SignAt s i j c → c ≡ d → get_or s j 0 ≡ d
reads at e = sym at.byte_is ∙ e

pub differs : {s : Bytes} {i j c d : ℕ} → SignAt s i j c → (c ≡ d → ⊥) → get_or s j 0 ≡ d → ⊥
differs at e y = e (at.byte_is ∙ y)

pub told : {s : Bytes} {i j c : ℕ} {v : Bool} (f : ℕ → Bool) → SignAt s i j c → v ≡ f c → f (get_or s j 0) ≡ v
told f at e = sym (e ∙ ap f at.byte_is)

-- a byte further
pub steps : (x y : State) (s : Bytes) (k : ℕ) → k < length s → step x (get_or s k 0) ≡ y → outcome x (drop k s) ≡ outcome y (drop (k + 1) s)
steps x y s k h e = ap (outcome x) (next s k h) ∙ go x y (get_or s k 0) (drop (k + 1) s) e

pub stuck : (x : State) (s : Bytes) (k : ℕ) → k < length s → step x (get_or s k 0) ≡ refused → outcome x (drop k s) ≡ no_reading
stuck x s k h e = steps x refused s k h e ∙ refused_never (drop (k + 1) s)

pub out_of : (x : State) (s : Bytes) (k : ℕ) → length s ≤ k → at_end x ≡ no_reading → outcome x (drop k s) ≡ no_reading
unfolding outcome
out_of x s k h e = ap (outcome x) (drop_of_length-le s h) ∙ e
