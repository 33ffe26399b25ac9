-- Expressions between the passes and what is counted in them: each field by its weight, each tag still to be visited by what is known of its
-- visit. Main statements: `holds_append`, `nothing_holds`, `inner_holds`, `field_holds`, `tag_holds`; `raws_append`. Assumes nothing.
use Prim.Native.Nat.{ℕ, ◌+◌}
use native.Mathlib.Omega.{arith}
use mathlib.Core.Path.{◌≡◌, refl, subst}
use Rattle.field.specs.Bytes.{Bytes}
use Rattle.spec.specs.Pass.{Raw, Mid, none, node, raw, ◌+++◌}
use Rattle.spec.proofs.Invariant.{Split}
use Rattle.spec.proofs.Counting.{None}

pub data Holds (weight : ℕ → Bytes → Mid → ℕ) (Seen : Raw → ℕ → Type 0) : Mid → ℕ → Type 0 where
  none_holds : {w : ℕ} → w ≡ 0 → Holds weight Seen none w
  node_holds : {t : ℕ} {f : Bytes} {i r : Mid} {w : ℕ} (a b : ℕ) → weight t f i + (a + b) ≡ w → Holds weight Seen i a → Holds weight Seen r b → Holds weight Seen (node t f i r) w
  raw_holds : {q : Raw} {r : Mid} {w : ℕ} (a b : ℕ) → a + b ≡ w → Seen q a → Holds weight Seen r b → Holds weight Seen (raw q r) w

module _ {weight : ℕ → Bytes → Mid → ℕ} {Seen : Raw → ℕ → Type 0} where
  pub holds_append : {x y : Mid} {a b w : ℕ} → a + b ≡ w → Holds weight Seen x a → Holds weight Seen y b → Holds weight Seen (x +++ y) w
  unfolding ◌+++◌
  holds_append {y = y} {b = b} {w = w} e (none_holds h) z = subst (Holds weight Seen y) (let k : b ≡ w = omega arith in k) z
  holds_append {b = b} e (node_holds u v h x r) z = node_holds u (v + b) (omega arith) x (holds_append refl r z)
  holds_append {b = b} e (raw_holds u v h x r) z = raw_holds u (v + b) (omega arith) x (holds_append refl r z)

  -- as the constructor, but with its arguments known before its equation is asked for
  pub holds_node : {t : ℕ} {f : Bytes} {i r : Mid} {w : ℕ} (a b : ℕ) → weight t f i + (a + b) ≡ w → Holds weight Seen i a → Holds weight Seen r b → Holds weight Seen (node t f i r) w
  holds_node a b e x y = node_holds a b e x y

  pub nothing_holds : {w : ℕ} → Holds weight Seen none w → w ≡ 0
  nothing_holds (none_holds e) = e

  -- a field that weighs nothing
  pub inner_holds : {t : ℕ} {f : Bytes} {i : Mid} {w : ℕ} → weight t f i ≡ 0 → Holds weight Seen (node t f i none) w → Holds weight Seen i w
  inner_holds {i = i} {w = w} z (node_holds a b e x y) = subst (Holds weight Seen i) (let k : a ≡ w = omega (arith, e, z, nothing_holds y) in k) x

  pub field_holds : {t : ℕ} {f : Bytes} {i r : Mid} {w : ℕ} → Holds weight Seen (node t f i r) w → Split None (Holds weight Seen (node t f i none)) (Holds weight Seen r) w
  field_holds {t} {f} {i} (node_holds a b e x y) = record { first = weight t f i + a; second = b; spared = 0; sum = omega arith; spare = refl; one = node_holds a 0 (omega arith) x (none_holds refl); rest = y }

  pub tag_holds : {q : Raw} {r : Mid} {w : ℕ} → Holds weight Seen (raw q r) w → Split None (Holds weight Seen (raw q none)) (Holds weight Seen r) w
  tag_holds (raw_holds a b e x y) = record { first = a; second = b; spared = 0; sum = omega arith; spare = refl; one = raw_holds a 0 (omega arith) x (none_holds refl); rest = y }

-- ---- what holds of the visits of all tags

unfoldable pub Raws : (Raw → Type 0) → Mid → Type 0
Raws Seen none = Unit {0}
Raws Seen (node t f i r) = Raws Seen i × Raws Seen r
Raws Seen (raw q r) = Seen q × Raws Seen r

pub raws_append : (Seen : Raw → Type 0) (x y : Mid) → Raws Seen x → Raws Seen y → Raws Seen (x +++ y)
unfolding Raws ◌+++◌
raws_append Seen none y g h = h
raws_append Seen (node t f i r) y g h = (g.0, raws_append Seen r y g.1 h)
raws_append Seen (raw q r) y g h = (g.0, raws_append Seen r y g.1 h)
