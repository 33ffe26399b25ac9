-- The turns of the loop. What it holds: the words below `top` are the open brackets' frames, and the small machine, going on from here over
-- the bytes left, answers what the text is answered. Main statements: `begins`, `finishes`, `unfinished`, `refuses`, `goes`, `opens`,
-- `too_deep`, `opens_alone`, `closes_nothing`, `closes`, `closes_alone`, `again`, `over`. Assumes nothing.
use Prim.Native.Nat.{ℕ, zero, suc, ◌+◌, ◌-◌, ◌*◌, ◌/◌, ◌%◌, ◌≤◌, ◌<◌}
use mathlib.Core.Path.{◌≡◌, refl, sym, ◌∙◌, ap, subst}
use mathlib.Core.Bool.{Bool, true, false}
use mathlib.Core.List.{List, [], ◌∷◌}
use native.Mathlib.Omega.{arith}
use native.Mathlib.Numerals.{add-one}
use lib.Dec.{eqb}
use lib.ListN.{length, get_or, drop, set, length-drop, length-set}
use borrow.Author.Tests.{eqb-true}
use lib.Seq.{drop-cons, drop-length, get_or-set_same, get_or-set_other}
use Rattle.sums.specs.Choice.{choose, digit}
use Rattle.field.specs.Bytes.{Bytes}
use Rattle.sums.specs.Value.{upward}
use Rattle.sums.specs.Machine.{sum_of}
use Rattle.sums.proofs.Tests.{either}
use Rattle.sums.specs.Value.{Worked}
use Rattle.std.specs.Prelude.{Some, None}
use Rattle.sums.specs.declared.reader.Before.{Before}
use Rattle.sums.specs.declared.reader.Before.TheVariants.{NoSum, SumPlus, SumMinus}
use Rattle.sums.specs.Small.{Factor, Waiting, State, Awaits, Digits, Behind, Act, On, Open, Close, Refused}
use Rattle.sums.specs.Small.{finished, times_by, act_behind, act_awaits, act_digits, awaits, act, Stack, stands, stopped, moved, small_step, ended, small_end, result}
use Rattle.sums.specs.Packed.{before_tag, before_of, factor_tag, factor_of, words}
use Rattle.sums.proofs.Packs.{factor_low, words_low, before_none, factor_none}
use Rattle.sums.proofs.Sim.{result_is}

-- ---- nothing comes of what is refused, and of too few bytes
none_stopped : (s : Bytes) → None ≡ result stopped s
unfolding result small_end small_step
none_stopped [] = refl
none_stopped (c ∷ s) = none_stopped s

short_moved : (s : Bytes) → ((x : State) (K : Stack) → length s < length K → None ≡ result (stands x K) s) → (a : Act) (K : Stack) → suc (length s) < length K → None ≡ result (moved a K) s
unfolding moved
short_moved s ih (On x) K h = ih x K (omega arith)
short_moved s ih (Open w) K h = ih (awaits NoSum) (w ∷ K) (omega arith)
short_moved s ih (Close y) [] h = none_stopped s
short_moved s ih (Close y) (w ∷ K) h = ih (Behind w.before (times_by w.factor y)) K (omega arith)
short_moved s ih Refused K h = none_stopped s

short : (s : Bytes) (x : State) (K : Stack) → length s < length K → None ≡ result (stands x K) s
unfolding result small_end small_step
short [] x [] h = absurd (omega arith)
short [] x (g ∷ K) h = refl
short (c ∷ s) x K h = short_moved s (short s) (act x c) K h

-- ---- each word that waits has cost two bytes, and each bracket one
pub weight : State → ℕ
weight (Awaits w) = 2 * words (before_tag w.before) + 2 * words (factor_tag w.factor)
weight (Digits n w) = 2 * words (before_tag w.before) + 2 * words (factor_tag w.factor) + 1
weight (Behind b y) = 2 * words (before_tag b) + 1

Light : ℕ → Act → Type 0
Light n (On x) = weight x ≤ n + 1
Light n (Open w) = 2 * words (before_tag w.before) + 2 * words (factor_tag w.factor) ≤ n
Light n (Close y) = Unit {0}
Light n Refused = Unit {0}

light_behind : (n : ℕ) (b : Before) (y : Worked) (c : ℕ) → 2 * words (before_tag b) + 1 ≤ n → Light n (act_behind b y c)
unfolding act_behind Light weight
light_behind n b y c h =
    let p = words_low (before_tag (SumPlus (finished b y))) in
    let m = words_low (before_tag (SumMinus (finished b y))) in
    let q = words_low (factor_tag (Some y)) in
    let z : words (factor_tag None) ≡ 0 = unfold words factor_tag choose in refl in
    either (Light n) (eqb c 32) _ _ (λ _. omega arith)
    (λ _. either (Light n) (eqb c 43) _ _ (λ _. omega arith)
    (λ _. either (Light n) (eqb c 45) _ _ (λ _. omega arith)
    (λ _. either (Light n) (eqb c 42) _ _ (λ _. omega arith)
    (λ _. either (Light n) (eqb c 41) _ _ (λ _. tt) (λ _. tt)))))

light : (x : State) (c : ℕ) → Light (weight x) (act x c)
unfolding act act_awaits act_digits Light weight
light (Awaits w) c =
    let n : ℕ = 2 * words (before_tag w.before) + 2 * words (factor_tag w.factor) in
    either (Light n) (eqb c 32) _ _ (λ _. omega arith)
    (λ _. either (Light n) (eqb c 48) _ _ (λ _. omega arith)
    (λ _. either (Light n) (digit c) _ _ (λ _. omega arith)
    (λ _. either (Light n) (eqb c 40) _ _ (λ _. omega arith) (λ _. tt))))
light (Digits k w) c =
    let n : ℕ = 2 * words (before_tag w.before) + 2 * words (factor_tag w.factor) + 1 in
    either (Light n) (digit c) _ _ (λ _. omega arith) (λ _. light_behind n w.before (times_by w.factor (upward k)) c (omega arith))
light (Behind b y) c = light_behind (2 * words (before_tag b) + 1) b y c (omega arith)

-- ---- the frames
abbrev at_of : ℕ → Before → ℕ
at_of t b = t + words (before_tag b)

abbrev last_of : ℕ → Before → Factor → ℕ
last_of t b f = t + words (before_tag b) + words (factor_tag f)

pub data Frames (fs : List ℕ) : ℕ → Stack → Type 0 where
  none : {n : ℕ} → n ≡ 0 → Frames fs n []
  more : {n : ℕ} {K : Stack} (t : ℕ) (w : Waiting) → Frames fs t K → n ≡ last_of t w.before w.factor + 1 → before_of (before_tag w.before) (get_or fs t 0) ≡ w.before → factor_of (factor_tag w.factor) (get_or fs (at_of t w.before) 0) ≡ w.factor
      → get_or fs (last_of t w.before w.factor) 0 ≡ before_tag w.before * 4 + factor_tag w.factor → Frames fs n (w ∷ K)

kept : {fs : List ℕ} (gs : List ℕ) {n : ℕ} {K : Stack} → ((i : ℕ) → i < n → get_or gs i 0 ≡ get_or fs i 0) → Frames fs n K → Frames gs n K
kept gs x (none z) = none z
kept gs x (more t w h e p q r) =
    let l = words_low (before_tag w.before) in
    more t w (kept gs (λ i y. x i (omega arith)) h) e
    (ap (before_of (before_tag w.before)) (x t (omega arith)) ∙ p)
    (ap (factor_of (factor_tag w.factor)) (x (at_of t w.before) (omega arith)) ∙ q)
    (x (last_of t w.before w.factor) (omega arith) ∙ r)

pub record Going (s : Bytes) (fs : List ℕ) (top i : ℕ) (x : State) : Type 0 where
  pub within : i ≤ length s
  pub high : top ≤ 16384
  pub frames : Stack
  pub held : Frames fs top frames
  pub paid : 2 * top + weight x ≤ i + length frames
  pub total : result (stands x frames) (drop i s) ≡ sum_of s

pub begins : (s : Bytes) (fs : List ℕ) → Going s fs 0 0 (awaits NoSum)
unfolding weight words before_tag factor_tag choose
begins s fs = record { within = omega arith; high = omega arith; frames = []; held = none refl; paid = omega arith; total = result_is s }

at_bottom : {fs : List ℕ} {n : ℕ} {K : Stack} → Frames fs n K → n ≡ 0 → K ≡ []
at_bottom (none z) e = refl
at_bottom (more t w h z p q r) e = absurd (omega arith)

no_bottom : {fs : List ℕ} {n : ℕ} {K : Stack} → Frames fs n K → (n ≡ 0 → ⊥) → (x : State) → None ≡ small_end (stands x K)
unfolding small_end
no_bottom (none z) e x = absurd (e z)
no_bottom (more t w h z p q r) e x = refl

module _ {s : Bytes} {fs : List ℕ} {top i : ℕ} {x : State} (g : Going s fs top i x) where
  ends : i ≡ length s → small_end (stands x g.frames) ≡ sum_of s
  unfolding result
  ends e = ap (result (stands x g.frames)) (sym (ap (λ (n : ℕ). drop n s) e ∙ drop-length s)) ∙ g.total

  pub finishes : {r : Worked} → r ≡ ended x → i ≡ length s → top ≡ 0 → r ≡ sum_of s
  unfolding small_end
  finishes q e z = q ∙ ap (λ (K : Stack). small_end (stands x K)) (sym (at_bottom g.held z)) ∙ ends e

  pub unfinished : i ≡ length s → (top ≡ 0 → ⊥) → None ≡ sum_of s
  unfinished e z = no_bottom g.held z x ∙ ends e

  module _ (l : i < length s) {a : Act} (q : a ≡ act x (get_or s i 0)) where
    turn : result (moved a g.frames) (drop (i + 1) s) ≡ sum_of s
    unfolding result small_step
    turn =
        let e : drop i s ≡ get_or s i 0 ∷ drop (i + 1) s = rw (add-one, drop-cons s i 0) in
        ap (λ (z : Act). result (moved z g.frames) (drop (i + 1) s)) q ∙ ap (result (stands x g.frames)) (sym e) ∙ g.total

    weighs : Light (weight x) a
    weighs = subst (Light (weight x)) (sym q) (light x (get_or s i 0))

    pub refuses : a ≡ Refused → None ≡ sum_of s
    unfolding moved
    refuses h = none_stopped (drop (i + 1) s) ∙ ap (λ (z : Act). result (moved z g.frames) (drop (i + 1) s)) (sym h) ∙ turn

    pub goes : {y : State} → a ≡ On y → Going s fs top (i + 1) y
    unfolding moved Light
    goes {y} h =
        let w : weight y ≤ weight x + 1 = subst (Light (weight x)) h weighs in
        record {
          within = omega arith;
          high = g.high;
          frames = g.frames;
          held = g.held;
          paid = omega (arith, g.paid);
          total = ap (λ (z : Act). result (moved z g.frames) (drop (i + 1) s)) (sym h) ∙ turn;
        }

    module _ {w : Waiting} (h : a ≡ Open w) where
      heavy : 2 * words (before_tag w.before) + 2 * words (factor_tag w.factor) ≤ weight x
      unfolding Light
      heavy = subst (Light (weight x)) h weighs

      opened : result (stands (awaits NoSum) (w ∷ g.frames)) (drop (i + 1) s) ≡ sum_of s
      unfolding moved
      opened = ap (λ (z : Act). result (moved z g.frames) (drop (i + 1) s)) (sym h) ∙ turn

      pub too_deep : 16384 ≤ last_of top w.before w.factor → length s ≤ 32768 → None ≡ sum_of s
      too_deep d m = short (drop (i + 1) s) (awaits NoSum) (w ∷ g.frames) (omega (arith, heavy, g.paid, length-drop (i + 1) s)) ∙ opened

      pub opens : (gs : List ℕ) → ((j : ℕ) → j < top → get_or gs j 0 ≡ get_or fs j 0) → before_of (before_tag w.before) (get_or gs top 0) ≡ w.before → factor_of (factor_tag w.factor) (get_or gs (at_of top w.before) 0) ≡ w.factor
          → get_or gs (last_of top w.before w.factor) 0 ≡ before_tag w.before * 4 + factor_tag w.factor → last_of top w.before w.factor < 16384 → Going s gs (last_of top w.before w.factor + 1) (i + 1) (awaits NoSum)
      unfolding weight words before_tag factor_tag choose
      opens gs below p o r d =
          record {
            within = omega arith;
            high = omega arith;
            frames = w ∷ g.frames;
            held = more top w (kept gs below g.held) refl p o r;
            paid = omega (arith, heavy, g.paid);
            total = opened;
          }

    pub closes_nothing : {w : Worked} → a ≡ Close w → top ≡ 0 → None ≡ sum_of s
    unfolding moved
    closes_nothing {w} h z =
        none_stopped (drop (i + 1) s) ∙ ap (λ (K : Stack). result (moved (Close w) K) (drop (i + 1) s)) (sym (at_bottom g.held z))
        ∙ ap (λ (z : Act). result (moved z g.frames) (drop (i + 1) s)) (sym h) ∙ turn

-- a bracket that nothing waits for
pub opens_alone : {s : Bytes} {fs : List ℕ} {top i : ℕ} {x : State} → Going s fs top i x → i < length s → {a : Act} → a ≡ act x (get_or s i 0) → a ≡ Open (record { before = NoSum; factor = None }) → length fs ≡ 16384 → top < 16384
    → Going s (set fs top 0) (top + 1) (i + 1) (awaits NoSum)
unfolding before_tag factor_tag words before_of factor_of choose
opens_alone {s} {fs} {top} {i} g l q h n d =
    let e : top + 0 + 0 ≡ top = omega arith in
    subst (λ (k : ℕ). Going s (set fs top 0) (k + 1) (i + 1) (awaits NoSum)) e
    (opens g l q h (set fs top 0) (λ j k. get_or-set_other fs top j 0 0 (λ z. omega (arith, z, k))) refl refl (ap (λ (k : ℕ). get_or (set fs top 0) k 0) e ∙ get_or-set_same fs top 0 0 (omega arith)) (omega arith))

pub too_high_alone : {s : Bytes} {fs : List ℕ} {top i : ℕ} {x : State} → Going s fs top i x → i < length s → {a : Act} → a ≡ act x (get_or s i 0) → a ≡ Open (record { before = NoSum; factor = None }) → 16384 ≤ top → length s ≤ 32768 → None ≡ sum_of s
unfolding before_tag factor_tag words choose
too_high_alone g l q h d m = too_deep g l q h (omega arith) m

-- ---- a frame is stored
words_of_none : (t : ℕ) → words t ≡ 0 → t ≡ 0
unfolding words choose
words_of_none t e = on (eqb t 0) refl e
  where
    on : (b : Bool) → eqb t 0 ≡ b → ◌≡◌ {A = ℕ} (choose b 0 1) 0 → t ≡ 0
    on true q e' = eqb-true t 0 q
    on false q e' = absurd (omega arith)

module _ (fs : List ℕ) (t : ℕ) (b : Before) (f : Factor) (sb sf g : ℕ) (n : length fs ≡ 16384) (d : last_of t b f < 16384) where
  stored : List ℕ
  stored = set (set (set fs t sb) (at_of t b) sf) (last_of t b f) g

  stored_below : (j : ℕ) → j < t → get_or stored j 0 ≡ get_or fs j 0
  unfolding stored
  stored_below j h =
      get_or-set_other (set (set fs t sb) (at_of t b) sf) (last_of t b f) j g 0 (λ z. omega arith) ∙ get_or-set_other (set fs t sb) (at_of t b) j sf 0 (λ z. omega arith)
      ∙ get_or-set_other fs t j sb 0 (λ z. omega arith)

  stored_tag : get_or stored (last_of t b f) 0 ≡ g
  unfolding stored
  stored_tag = get_or-set_same (set (set fs t sb) (at_of t b) sf) (last_of t b f) g 0 (simp length-set (omega arith))

  stored_before : before_of (before_tag b) sb ≡ b → before_of (before_tag b) (get_or stored t 0) ≡ b
  unfolding stored
  stored_before e = on (words (before_tag b)) refl
    where
      on : (k : ℕ) → words (before_tag b) ≡ k → before_of (before_tag b) (get_or stored t 0) ≡ b
      on zero z =
          let v : before_tag b ≡ 0 = words_of_none (before_tag b) z in
          ap (λ (k : ℕ). before_of k (get_or stored t 0)) v ∙ before_none (get_or stored t 0) sb ∙ ap (λ (k : ℕ). before_of k sb) (sym v) ∙ e
      on (suc k) z =
          ap (before_of (before_tag b))
          (get_or-set_other (set (set fs t sb) (at_of t b) sf) (last_of t b f) t g 0 (λ y. omega arith) ∙ get_or-set_other (set fs t sb) (at_of t b) t sf 0 (λ y. omega arith)
          ∙ get_or-set_same fs t sb 0 (omega arith))
          ∙ e

  stored_factor : factor_of (factor_tag f) sf ≡ f → factor_of (factor_tag f) (get_or stored (at_of t b) 0) ≡ f
  unfolding stored
  stored_factor e = on (words (factor_tag f)) refl
    where
      on : (k : ℕ) → words (factor_tag f) ≡ k → factor_of (factor_tag f) (get_or stored (at_of t b) 0) ≡ f
      on zero z =
          let v : factor_tag f ≡ 0 = words_of_none (factor_tag f) z in
          ap (λ (k : ℕ). factor_of k (get_or stored (at_of t b) 0)) v ∙ factor_none (get_or stored (at_of t b) 0) sf ∙ ap (λ (k : ℕ). factor_of k sf) (sym v) ∙ e
      on (suc k) z =
          ap (factor_of (factor_tag f))
          (get_or-set_other (set (set fs t sb) (at_of t b) sf) (last_of t b f) (at_of t b) g 0 (λ y. omega arith)
          ∙ get_or-set_same (set fs t sb) (at_of t b) sf 0 (simp length-set (omega arith)))
          ∙ e

-- the same, as the code has its numbers
module _ {s : Bytes} {fs : List ℕ} {top i : ℕ} {x : State} (p : Going s fs top i x) (l : i < length s) {a : Act} (q : a ≡ act x (get_or s i 0)) {w : Waiting} (h : a ≡ Open w) {bt ft w₁ w₂ : ℕ} (e₁ : bt ≡ before_tag w.before) (e₂ : ft ≡ factor_tag w.factor) (u₁ : w₁ ≡ words bt) (u₂ : w₂ ≡ words ft) where
  one_word : w₁ ≡ words (before_tag w.before)
  one_word = u₁ ∙ ap words e₁

  two_words : w₂ ≡ words (factor_tag w.factor)
  two_words = u₂ ∙ ap words e₂

  pub too_high : 16384 ≤ top + w₁ + w₂ → length s ≤ 32768 → None ≡ sum_of s
  too_high d m = too_deep p l q h (omega (arith, one_word, two_words)) m

  pub pushes : (sb sf : ℕ) → before_of bt sb ≡ w.before → factor_of ft sf ≡ w.factor → length fs ≡ 16384 → top + w₁ + w₂ < 16384
      → Going s (set (set (set fs top sb) (top + w₁) sf) (top + w₁ + w₂) (bt * 4 + ft)) (top + w₁ + w₂ + 1) (i + 1) (awaits NoSum)
  unfolding stored
  pushes sb sf y z n d =
      let o : last_of top w.before w.factor < 16384 = omega (arith, one_word, two_words) in
      let c : Going s (stored fs top w.before w.factor sb sf (bt * 4 + ft) n o) (last_of top w.before w.factor + 1) (i + 1) (awaits NoSum) =
      opens p l q h (stored fs top w.before w.factor sb sf (bt * 4 + ft) n o) (stored_below fs top w.before w.factor sb sf (bt * 4 + ft) n o) (stored_before fs top w.before w.factor sb sf (bt * 4 + ft) n o (ap (λ (k : ℕ). before_of k sb) (sym e₁) ∙ y))
      (stored_factor fs top w.before w.factor sb sf (bt * 4 + ft) n o (ap (λ (k : ℕ). factor_of k sf) (sym e₂) ∙ z)) (stored_tag fs top w.before w.factor sb sf (bt * 4 + ft) n o ∙ omega (arith, e₁, e₂)) o in
      subst (λ (v : ℕ). Going s (set (set (set fs top sb) (top + w₁) sf) (top + w₁ + v) (bt * 4 + ft)) (top + w₁ + v + 1) (i + 1) (awaits NoSum)) (sym two_words)
      (subst (λ (v : ℕ). Going s (set (set (set fs top sb) (top + v) sf) (top + v + words (factor_tag w.factor)) (bt * 4 + ft)) (top + v + words (factor_tag w.factor) + 1) (i + 1) (awaits NoSum)) (sym one_word) c)

-- ---- a frame is taken back
record Popped (fs : List ℕ) (n : ℕ) (K : Stack) : Type 0 where
  t : ℕ
  w : Waiting
  rest : Stack
  is : K ≡ w ∷ rest
  held : Frames fs t rest
  up : n ≡ last_of t w.before w.factor + 1
  one : before_of (before_tag w.before) (get_or fs t 0) ≡ w.before
  two : factor_of (factor_tag w.factor) (get_or fs (at_of t w.before) 0) ≡ w.factor
  tag : get_or fs (last_of t w.before w.factor) 0 ≡ before_tag w.before * 4 + factor_tag w.factor

popped : {fs : List ℕ} {n : ℕ} {K : Stack} → Frames fs n K → (n ≡ 0 → ⊥) → Popped fs n K
popped (none z) e = absurd (e z)
popped (more {K = K} t w h z p q r) e = record { t = t; w = w; rest = K; is = refl; held = h; up = z; one = p; two = q; tag = r }

module _ {s : Bytes} {fs : List ℕ} {top i : ℕ} {x : State} (g : Going s fs top i x) (z : top ≡ 0 → ⊥) {tag : ℕ} (e : tag ≡ get_or fs (top - 1) 0) where
  top_frame : Popped fs top g.frames
  top_frame = popped g.held z

  tag_is : tag ≡ before_tag top_frame.w.before * 4 + factor_tag top_frame.w.factor
  tag_is =
      let u = top_frame.up in
      let m : top - 1 ≡ last_of top_frame.t top_frame.w.before top_frame.w.factor = omega arith in
      e ∙ ap (λ (k : ℕ). get_or fs k 0) m ∙ top_frame.tag

  low_is : tag % 4 ≡ factor_tag top_frame.w.factor
  low_is = let h = factor_low top_frame.w.factor in let k = tag_is in omega arith

  high_is : tag / 4 ≡ before_tag top_frame.w.before
  high_is = let h = factor_low top_frame.w.factor in let k = tag_is in omega arith

  module _ {w₃ : ℕ} (u₃ : w₃ ≡ words (tag % 4)) where
    third : w₃ ≡ words (factor_tag top_frame.w.factor)
    third = u₃ ∙ ap words low_is

    pub closes_low : w₃ ≤ top - 1
    closes_low = let u = top_frame.up in let v = third in omega arith

    module _ {w₄ : ℕ} (u₄ : w₄ ≡ words (tag / 4)) where
      fourth : w₄ ≡ words (before_tag top_frame.w.before)
      fourth = u₄ ∙ ap words high_is

      pub closes_lower : w₄ ≤ top - 1 - w₃
      closes_lower = let u = top_frame.up in let v = third in let y = fourth in omega arith

      at_is : top - 1 - w₃ ≡ at_of top_frame.t top_frame.w.before
      at_is = let u = top_frame.up in let v = third in omega arith

      t_is : top - 1 - w₃ - w₄ ≡ top_frame.t
      t_is = let u = at_is in let y = fourth in omega arith

      pub closes : i < length s → {a : Act} {w : Worked} → a ≡ act x (get_or s i 0) → a ≡ Close w → {b' : Before} {f' : Factor} {y : Worked} → b' ≡ before_of (tag / 4) (get_or fs (top - 1 - w₃ - w₄) 0)
          → f' ≡ factor_of (tag % 4) (get_or fs (top - 1 - w₃) 0) → y ≡ times_by f' w → Going s fs (top - 1 - w₃ - w₄) (i + 1) (Behind b' y)
      unfolding moved weight
      closes l {w = w} q h {b'} {f'} {y} p o r =
          let k = top_frame in
          let bs : b' ≡ k.w.before = p ∙ ap (λ (n : ℕ). before_of (tag / 4) (get_or fs n 0)) t_is ∙ ap (λ (n : ℕ). before_of n (get_or fs k.t 0)) high_is ∙ k.one in
          let ks : f' ≡ k.w.factor = o ∙ ap (λ (n : ℕ). factor_of (tag % 4) (get_or fs n 0)) at_is ∙ ap (λ (n : ℕ). factor_of n (get_or fs (at_of k.t k.w.before) 0)) low_is ∙ k.two in
          let ys : y ≡ times_by k.w.factor w = r ∙ ap (λ (j : Factor). times_by j w) ks in
          let m : length g.frames ≡ length k.rest + 1 = ap length k.is ∙ sym (add-one (length k.rest)) in
          let c : Going s fs k.t (i + 1) (Behind k.w.before (times_by k.w.factor w)) = record {
            within = omega arith;
            high = omega (arith, k.up, g.high);
            frames = k.rest;
            held = k.held;
            paid = omega (arith, k.up, g.paid, m);
            total =
                ap (λ (K : Stack). result (moved (Close w) K) (drop (i + 1) s)) (sym k.is) ∙ ap (λ (j : Act). result (moved j g.frames) (drop (i + 1) s)) (sym h)
                ∙ turn g l q;
          } in
          subst (λ (n : ℕ). Going s fs n (i + 1) (Behind b' y)) (sym t_is)
          (subst (λ (j : Before). Going s fs k.t (i + 1) (Behind j y)) (sym bs) (subst (λ (j : Worked). Going s fs k.t (i + 1) (Behind k.w.before j)) (sym ys) c))

  -- a bracket that nothing waited for
  pub closes_alone : tag ≡ 0 → i < length s → {a : Act} {w : Worked} → a ≡ act x (get_or s i 0) → a ≡ Close w → Going s fs (top - 1) (i + 1) (Behind NoSum w)
  unfolding words before_of factor_of times_by choose
  closes_alone h l {w = w} q k =
      let m : top - 1 - 0 - 0 ≡ top - 1 = omega arith in
      subst (λ (n : ℕ). Going s fs n (i + 1) (Behind NoSum w)) m (closes {w₃ = 0} (ap (λ (n : ℕ). words (n % 4)) (sym h)) {w₄ = 0} (ap (λ (n : ℕ). words (n / 4)) (sym h)) l q k (ap (λ (n : ℕ). before_of (n / 4) (get_or fs (top - 1 - 0 - 0) 0)) (sym h)) (ap (λ (n : ℕ). factor_of (n % 4) (get_or fs (top - 1 - 0) 0)) (sym h)) refl)

-- another state that does the same with the next byte
pub again : {s : Bytes} {fs : List ℕ} {top i : ℕ} {x : State} → Going s fs top i x → i < length s → (y : State) → act y (get_or s i 0) ≡ act x (get_or s i 0) → weight y ≤ weight x → Going s fs top i y
unfolding result small_step
again {s} {fs} {top} {i} {x} g l y q w =
    let e : drop i s ≡ get_or s i 0 ∷ drop (i + 1) s = rw (add-one, drop-cons s i 0) in
    record {
      within = g.within;
      high = g.high;
      frames = g.frames;
      held = g.held;
      paid = omega (arith, g.paid);
      total = ap (result (stands y g.frames)) e ∙ ap (λ (z : Act). result (moved z g.frames) (drop (i + 1) s)) q ∙ ap (result (stands x g.frames)) (sym e) ∙ g.total;
    }

same_end : (y x : State) (K : Stack) → ended y ≡ ended x → small_end (stands y K) ≡ small_end (stands x K)
unfolding small_end
same_end y x [] q = q
same_end y x (w ∷ K) q = refl

-- another state that comes to the same at the end
pub over : {s : Bytes} {fs : List ℕ} {top i : ℕ} {x : State} → Going s fs top i x → i ≡ length s → (y : State) → ended y ≡ ended x → weight y ≤ weight x → Going s fs top i y
unfolding result
over {s} {fs} {top} {i} {x} g e y q w =
    let d : drop i s ≡ [] = ap (λ (n : ℕ). drop n s) e ∙ drop-length s in
    record {
      within = g.within;
      high = g.high;
      frames = g.frames;
      held = g.held;
      paid = omega (arith, g.paid);
      total = ap (result (stands y g.frames)) d ∙ same_end y x g.frames q ∙ sym (ap (result (stands x g.frames)) d) ∙ g.total;
    }

pub lighter : (n : ℕ) (w : Waiting) (y : Worked) → weight (Behind w.before y) ≤ weight (Digits n w)
unfolding weight
lighter n w y = omega arith
