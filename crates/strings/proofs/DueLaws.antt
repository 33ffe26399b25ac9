-- Laws of `graver`: the order in which reasons are found does not matter, nor how often. Main statements: `graver_assoc`, `graver_comm`,
-- `graver_none`, `graver_swap`, `graver_cross`, `due_or`, `grave_join`, `due_then`. Assumes nothing.
use mathlib.Core.Path.{◌≡◌, refl, sym, ap, ap₂, ◌∙◌}
use Prim.Native.Nat.{ℕ, zero, suc, ◌≤◌, ◌<◌}
use native.Mathlib.Omega.{arith}
use mathlib.Core.Bool.{Bool, true, false, ◌||◌}
use lib.Dec.{ltb}
use borrow.Author.Tests.{lt-ltb, le-ltb, ltb-true, ltb-false}
use Rattle.field.specs.Bytes.{pick}
use Rattle.spec.specs.Pass.{no_flags, join, long_if}
use Rattle.spec.specs.declared.Flags.{Flags}
use Rattle.strings.specs.declared.due.Due.{Due}
use Rattle.strings.specs.declared.due.Due.TheVariants.{Nothing, Long, Mixed, Repeated, Left}
use Rattle.strings.specs.Due.{gravity, graver, due_if, long_due, grave}

-- ---- two

abbrev of_gravity : ℕ → Due
of_gravity zero = Nothing
of_gravity (suc zero) = Long
of_gravity (suc (suc zero)) = Mixed
of_gravity (suc (suc (suc zero))) = Repeated
of_gravity (suc (suc (suc (suc n)))) = Left

back : (a : Due) → of_gravity (gravity a) ≡ a
back Nothing = refl
back Long = refl
back Mixed = refl
back Repeated = refl
back Left = refl

one_gravity : (a b : Due) → gravity a ≡ gravity b → a ≡ b
one_gravity a b e = sym (back a) ∙ ap of_gravity e ∙ back b

pub graver_right : (a b : Due) → gravity a ≤ gravity b → graver a b ≡ b
unfolding graver
graver_right a b h = on (ltb (gravity a) (gravity b)) refl
  where
    on : (x : Bool) → ltb (gravity a) (gravity b) ≡ x → pick x b a ≡ b
    on true e = refl
    on false e = one_gravity a b (omega (arith, h, ltb-false (gravity a) (gravity b) e))

pub graver_left : (a b : Due) → gravity b ≤ gravity a → graver a b ≡ a
unfolding graver
graver_left a b h = ap (λ (x : Bool). pick x b a) (le-ltb (gravity a) (gravity b) h)

-- ---- as a join

data Order (a b : Due) : Type 0 where
  less : gravity a ≤ gravity b → Order a b
  more : gravity b ≤ gravity a → Order a b

order : (a b : Due) → Order a b
order a b = on (ltb (gravity a) (gravity b)) refl
  where
    on : (x : Bool) → ltb (gravity a) (gravity b) ≡ x → Order a b
    on true e = less (omega (arith, ltb-true (gravity a) (gravity b) e))
    on false e = more (ltb-false (gravity a) (gravity b) e)

pub graver_none : (a : Due) → graver a Nothing ≡ a
graver_none a = graver_left a Nothing (omega arith)

pub none_graver : (a : Due) → graver Nothing a ≡ a
none_graver a = graver_right Nothing a (omega arith)

pub graver_self : (a : Due) → graver a a ≡ a
graver_self a = graver_left a a (omega arith)

pub graver_comm : (a b : Due) → graver a b ≡ graver b a
graver_comm a b = on (order a b)
  where
    on : Order a b → graver a b ≡ graver b a
    on (less h) = graver_right a b h ∙ sym (graver_left b a h)
    on (more h) = graver_left a b h ∙ sym (graver_right b a h)

pub graver_assoc : (a b c : Due) → graver (graver a b) c ≡ graver a (graver b c)
graver_assoc a b c = on (order a b) (order b c)
  where
    on : Order a b → Order b c → graver (graver a b) c ≡ graver a (graver b c)
    on (less h) (less k) = ap (λ (x : Due). graver x c) (graver_right a b h) ∙ graver_right b c k ∙ sym (ap (graver a) (graver_right b c k) ∙ graver_right a c (omega (arith, h, k)))
    on (less h) (more k) = ap (λ (x : Due). graver x c) (graver_right a b h) ∙ graver_left b c k ∙ sym (ap (graver a) (graver_left b c k) ∙ graver_right a b h)
    on (more h) (less k) = ap (λ (x : Due). graver x c) (graver_left a b h) ∙ ap (graver a) (sym (graver_right b c k))
    on (more h) (more k) = ap (λ (x : Due). graver x c) (graver_left a b h) ∙ graver_left a c (omega (arith, h, k)) ∙ sym (ap (graver a) (graver_left b c k) ∙ graver_left a b h)

pub graver_swap : (a b c : Due) → graver (graver a b) c ≡ graver (graver a c) b
graver_swap a b c = graver_assoc a b c ∙ ap (graver a) (graver_comm b c) ∙ sym (graver_assoc a c b)

pub graver_cross : (a b c d : Due) → graver (graver a b) (graver c d) ≡ graver (graver a c) (graver b d)
graver_cross a b c d = sym (graver_assoc (graver a b) c d) ∙ ap (λ (x : Due). graver x d) (graver_swap a b c) ∙ graver_assoc (graver a c) b d

-- ---- by tests

pub due_or : (k : Due) (a b : Bool) → due_if k (a || b) ≡ graver (due_if k a) (due_if k b)
due_or k true true = sym (graver_self k)
due_or k true false = sym (graver_none k)
due_or k false true = sym (none_graver k)
due_or k false false = sym (graver_self Nothing)

-- a body of so many bytes
module _ (d : Due) (n : ℕ) where
  pub body_long : 65535 < n → {r : Due} → r ≡ graver d Long → r ≡ graver d (long_due (ltb 65535 n))
  body_long h e = e ∙ ap (λ (x : Bool). graver d (long_due x)) (sym (lt-ltb 65535 n h))

  pub body_short : n ≤ 65535 → d ≡ graver d (long_due (ltb 65535 n))
  body_short h = sym (ap (λ (x : Bool). graver d (long_due x)) (le-ltb 65535 n h) ∙ graver_none d)

-- bodies, one after the other
pub long_then : (d : Due) (a b : Bool) → graver (graver d (long_due a)) (long_due b) ≡ graver d (long_due (a || b))
long_then d a b = graver_assoc d (long_due a) (long_due b) ∙ ap (graver d) (sym (due_or Long a b))

pub grave_join : (f g : Flags) → grave (join f g) ≡ graver (grave f) (grave g)
grave_join f g =
    two Left f.left g.left _ _ (two Repeated f.repeated g.repeated _ _ (two Mixed f.mixed g.mixed (long_due f.long) (long_due g.long) (due_or Long f.long g.long)))
  where
    two : (k : Due) (a b : Bool) (x y : Due) {z : Due} → z ≡ graver x y → graver (due_if k (a || b)) z ≡ graver (graver (due_if k a) x) (graver (due_if k b) y)
    two k a b x y e = ap₂ graver (due_or k a b) e ∙ graver_cross (due_if k a) (due_if k b) x y

pub none_grave : grave no_flags ≡ Nothing
unfolding graver
none_grave = refl

pub left_grave : grave (record { left = true; long = false; repeated = false; mixed = false }) ≡ Left
unfolding graver
left_grave = refl

pub long_grave : (b : Bool) → grave (long_if b) ≡ long_due b
unfolding graver
long_grave true = refl
long_grave false = refl

-- what is found of an element by itself
pub tag_grave : (a b : Bool) → grave (record { left = false; long = false; repeated = a; mixed = b }) ≡ pick a Repeated (due_if Mixed b)
unfolding graver
tag_grave true true = refl
tag_grave true false = refl
tag_grave false true = refl
tag_grave false false = refl

-- ---- flags and bodies, as a state takes them over

-- nothing more
pub due_none : (d : Due) → graver d (graver (grave no_flags) (long_due false)) ≡ d
due_none d = ap (graver d) (graver_none (grave no_flags) ∙ none_grave) ∙ graver_none d

-- one body more
pub due_more : (d k : Due) (a b : Bool) → graver d (graver k (long_due (a || b))) ≡ graver (graver d (graver k (long_due a))) (long_due b)
due_more d k a b =
    ap (λ (x : Due). graver d (graver k x)) (due_or Long a b) ∙ ap (graver d) (sym (graver_assoc k (long_due a) (long_due b))) ∙ sym (graver_assoc d (graver k (long_due a)) (long_due b))

-- a body before flags, and flags before others
pub due_body : (d k : Due) (a b : Bool) → graver (graver d (long_due a)) (graver k (long_due b)) ≡ graver d (graver k (long_due (a || b)))
due_body d k a b =
    graver_assoc d (long_due a) (graver k (long_due b))
    ∙ ap (graver d) (graver_comm (long_due a) (graver k (long_due b)) ∙ graver_assoc k (long_due b) (long_due a) ∙ ap (graver k) (graver_comm (long_due b) (long_due a) ∙ sym (due_or Long a b)))

pub due_front : (d : Due) (f g : Flags) (x : Due) → graver (graver d (grave f)) (graver (grave g) x) ≡ graver d (graver (grave (join f g)) x)
due_front d f g x =
    graver_assoc d (grave f) (graver (grave g) x) ∙ ap (graver d) (sym (graver_assoc (grave f) (grave g) x) ∙ ap (λ (y : Due). graver y x) (sym (grave_join f g)))

-- no flags
pub due_plain : (d x : Due) → graver d (graver (grave no_flags) x) ≡ graver d x
due_plain d x = ap (graver d) (ap (λ (y : Due). graver y x) none_grave ∙ none_graver x)

-- a template takes over its dynamic expressions first, and raises what is due by itself last
pub due_template : (d m f : Due) (run a b : Bool) →
    graver d (graver (graver (long_due run) (graver m f)) (long_due (a || b))) ≡ graver (graver d (graver f (long_due a))) (graver m (long_due (run || b)))
due_template d m f run a b =
    let r = long_due run in
    let x = long_due a in
    let y = long_due b in
    ap₂ (λ (p q : Due). graver d (graver p q)) (sym (graver_assoc r m f) ∙ graver_comm (graver r m) f ∙ ap (graver f) (graver_comm r m)) (due_or Long a b)
    ∙ ap (graver d) (graver_cross f (graver m r) x y ∙ ap (graver (graver f x)) (graver_assoc m r y ∙ ap (graver m) (sym (due_or Long run b))))
    ∙ sym (graver_assoc d (graver f x) (graver m (long_due (run || b))))

-- flags that are raised first, or last
pub due_raised : (d : Due) {f g k : Due} → f ≡ k → g ≡ Nothing → (x : Due) → graver d (graver f x) ≡ graver (graver d (graver g x)) k
due_raised d {f} {g} {k} e z x =
    ap (λ (y : Due). graver d (graver y x)) e ∙ ap (graver d) (graver_comm k x) ∙ sym (graver_assoc d x k)
    ∙ ap (λ (y : Due). graver (graver d y) k) (sym (ap (λ (y : Due). graver y x) z ∙ none_graver x))

-- flags and long bodies of two, one after the other
pub due_then : (d : Due) (f g : Flags) (a b : Bool) {c : Bool} → c ≡ (a || b) →
    graver d (graver (grave (join f g)) (long_due c)) ≡ graver (graver d (graver (grave f) (long_due a))) (graver (grave g) (long_due b))
due_then d f g a b e =
    ap₂ (λ (x y : Due). graver d (graver x y)) (grave_join f g) (ap long_due e ∙ due_or Long a b)
    ∙ ap (graver d) (graver_cross (grave f) (grave g) (long_due a) (long_due b))
    ∙ sym (graver_assoc d (graver (grave f) (long_due a)) (graver (grave g) (long_due b)))
