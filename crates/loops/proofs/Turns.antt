-- Any loop with a stack that does what a recursion over nested rows does. The loop stands in a body's rest, with the bodies around it waiting;
-- what it has still to do is the recursion over that rest, and then, from the top of the stack down, what each waiting body asks: leave the
-- field in it, and go on behind. That total never changes. No induction over rows is needed: each turn is one step of the recursion.
-- How the stack is held is left open: a list of frames, or bytes.
-- Main statements: `start`, `on_stop`, `on_leaf`, `on_open`, `on_end`, `on_done`. Assumes nothing.
use mathlib.Core.Path.{◌≡◌, refl, sym, ap, ◌∙◌, subst}
use mathlib.Core.Logic.{inl, inr}
use Prim.Native.Nat.{ℕ, zero, suc, ◌+◌, ◌*◌, ◌-◌, ◌%◌, ◌≤◌, ◌<◌}
use native.Mathlib.Omega.{arith}
use native.Mathlib.Numerals.{add-one}
use mathlib.Core.List.{List}
use lib.ListN.{length, get_or, take, drop, set}
use lib.Seq.{take_all, get_or-set_other}
use Rattle.field.specs.Bytes.{Bytes}
use Rattle.field.specs.Row.{Row}
use Rattle.loops.specs.Until.{until, HighEnough}
use Rattle.loops.proofs.Parts.{part, Room, length_part, part_back, part_part, room_on, room_in, room_left, low, stored_until}

-- a recursion over rows: `does c x w` is the world when the row x is done, where c is expected and the world was w. Of a frame, the bytes of its
-- body behind the field that was entered, what is expected there, and what leaving that field does
pub record Walk : Type 1 where
  pub World : Type 0
  pub Expects : Type 0
  pub Frame : Type 0
  pub Stack : Type 0
  pub reads : Bytes → Row
  pub frame : Stack → ℕ → Frame
  pub does : Expects → Row → World → World
  pub rest : Frame → ℕ
  pub next : Frame → Expects
  pub leave : Frame → World → World

-- where the body of the frame at h ends, if the field in it ends at e
abbrev pub ends_at : (k : Walk) → Bytes → k.Stack → ℕ → ℕ → ℕ
ends_at k s fs h e = until h e (k.rest (k.frame fs h)) (length s)

-- h bodies wait until e, and what they do from there on
pub data Waits (k : Walk) (s : Bytes) (fs : k.Stack) : ℕ → ℕ → (k.World → k.World) → Type 0 where
  bottom : {e : ℕ} → e ≡ length s → Waits k s fs zero e (λ w. w)
  under : {h e : ℕ} {l : k.World → k.World} (g : ℕ) (f : k.Frame) → k.frame fs h ≡ f → until h e (k.rest f) (length s) ≡ g → e ≤ g → g ≤ length s → Room h e g → Waits k s fs h g l
      → Waits k s fs (suc h) e (λ w. l (k.does (k.next f) (k.reads (part s e g)) (k.leave f w)))

-- what holds at each turn: the loop stands at `at` in a body that ends at e, h deep; c is expected, the world is w, and will be t
pub record Going (k : Walk) (s : Bytes) (fs : k.Stack) (h at e : ℕ) (c : k.Expects) (w t : k.World) : Type 0 where
  pub ordered : at ≤ e
  pub ends : e ≤ length s
  pub room : Room h at e
  pub entered : 3 * h ≤ at
  pub later : k.World → k.World
  pub waits : Waits k s fs h e later
  pub total : later (k.does c (k.reads (part s at e)) w) ≡ t

-- a world in which nothing more is done, such as a refusal
pub record Stops (k : Walk) (w : k.World) : Type 0 where
  pub does_no : (c : k.Expects) (x : Row) → k.does c x w ≡ w
  pub leaves_no : (f : k.Frame) → k.leave f w ≡ w

-- ---- the stack

-- a store above its height changes nothing below
kept : {k : Walk} {s : Bytes} {fs : k.Stack} {h e : ℕ} {l : k.World → k.World} (gs : k.Stack) → ((i : ℕ) → i < h → k.frame gs i ≡ k.frame fs i) → Waits k s fs h e l → Waits k s gs h e l
kept gs x (bottom z) = bottom z
kept gs x (under {h = h} g f q d a c r v) = under g f (x h (omega arith) ∙ q) d a c r (kept gs (λ i y. x i (omega arith)) v)

at_top : {k : Walk} {s : Bytes} {fs : k.Stack} {h e : ℕ} {l : k.World → k.World} → Waits k s fs h e l → h ≡ 0 → e ≡ length s
at_top (bottom e) z = e
at_top (under g b q d a c r v) z = absurd (omega arith)

at_bottom : {k : Walk} {s : Bytes} {fs : k.Stack} {h e : ℕ} {l : k.World → k.World} (w : k.World) → Waits k s fs h e l → h ≡ 0 → l w ≡ w
at_bottom w (bottom e) z = refl
at_bottom w (under g b q d a c r v) z = absurd (omega arith)

stopped : {k : Walk} {s : Bytes} {fs : k.Stack} {h e : ℕ} {l : k.World → k.World} {w : k.World} → Stops k w → Waits k s fs h e l → l w ≡ w
stopped z (bottom e) = refl
stopped {k = k} {s = s} z (under {e = e} {l = l} g f q d a c r v) =
    ap (λ x. l (k.does (k.next f) (k.reads (part s e g)) x)) (z.leaves_no f) ∙ ap l (z.does_no (k.next f) (k.reads (part s e g))) ∙ stopped z v

-- ---- a stack that is a list

pub set_below : {A : Type 0} (fs : List A) (h : ℕ) (f d : A) (i : ℕ) → i < h → get_or (set fs h f) i d ≡ get_or fs i d
set_below fs h f d i x = get_or-set_other fs h i f d (λ z. omega arith)

-- ---- the turns

pub start : (k : Walk) (s : Bytes) (fs : k.Stack) (c : k.Expects) (w : k.World) → Going k s fs 0 0 (length s) c w (k.does c (k.reads s) w)
start k s fs c w =
    record {
      ordered = omega arith;
      ends = omega arith;
      room = tt;
      entered = omega arith;
      later = λ x. x;
      waits = bottom refl;
      total = ap (λ (b : Bytes). k.does c (k.reads b) w) (take_all (length s - 0) s (omega arith));
    }

module _ {k : Walk} {s : Bytes} {fs : k.Stack} {h at e : ℕ} {c : k.Expects} {w t : k.World} (p : Going k s fs h at e c w t) where
  -- the bytes left of the body
  pub left_is : length (part s at e) ≡ e - at
  left_is = length_part s at e p.ordered p.ends

  -- a stack that is high enough is so for a field that begins here, and for what waits
  pub deep : {n : ℕ} → HighEnough n (length s) → at + 3 ≤ e → h < n
  deep (inl z) x = omega (arith, room_left h at e p.room x, z)
  deep (inr z) x = omega (arith, z, p.entered, p.ends)

  pub high : {n : ℕ} → HighEnough n (length s) → h ≤ n
  high (inl z) = omega (arith, low h at e p.room p.ordered, z)
  high (inr z) = omega (arith, z, p.entered, p.ordered, p.ends)

  -- nothing more is done, whatever waits
  pub on_stop : {w' : k.World} → k.does c (k.reads (part s at e)) w ≡ w' → Stops k w' → w' ≡ t
  on_stop q z = sym (stopped z p.waits) ∙ ap p.later (sym q) ∙ p.total

  -- the outermost row has ended
  pub on_done : {w' : k.World} → k.does c (k.reads (part s at e)) w ≡ w' → h ≡ 0 → w' ≡ t
  on_done {w'} q z = sym (at_bottom w' p.waits z) ∙ ap p.later (sym q) ∙ p.total

  -- n bytes are done with
  pub on_leaf : (n : ℕ) {c' : k.Expects} {w' : k.World} → n ≤ length (part s at e) → k.does c (k.reads (part s at e)) w ≡ k.does c' (k.reads (drop n (part s at e))) w' → Going k s fs h (at + n) e c' w' t
  on_leaf n {c'} {w'} l q =
      let b = left_is in
      record {
        ordered = omega (arith, p.ordered);
        ends = p.ends;
        room = room_on h at (at + n) e p.room (omega arith);
        entered = omega (arith, p.entered);
        later = p.later;
        waits = p.waits;
        total = ap p.later (ap (λ (x : Bytes). k.does c' (k.reads x) w') (sym (part_back s at e p.ordered p.ends n)) ∙ sym q) ∙ p.total;
      }

  -- a field is entered whose fields go from j up to n, and f is stored
  pub on_open : (gs : k.Stack) (f : k.Frame) → k.frame gs h ≡ f → ((i : ℕ) → i < h → k.frame gs i ≡ k.frame fs i) → (j n : ℕ) {o : k.Expects} {w' : k.World} → 3 ≤ j → j ≤ n → n ≤ length (part s at e) → n ≤ 65538 → k.rest f ≡ (e - at - n) % 65536
      → k.does c (k.reads (part s at e)) w ≡ k.does (k.next f) (k.reads (drop n (part s at e))) (k.leave f (k.does o (k.reads (take (n - j) (drop j (part s at e)))) w'))
      → Going k s gs (h + 1) (at + j) (at + n) o w' t
  on_open gs f same below j n {o} {w'} a b d u y q =
      let l = left_is in
      let inner : Bytes = part s (at + j) (at + n) in
      let behind : Bytes = part s (at + n) e in
      let within : at + n ≤ e = omega (arith, p.ordered) in
      let i = part_part s at e p.ordered p.ends j n (omega arith) in
      let r = part_back s at e p.ordered p.ends n in
      let z : k.does c (k.reads (part s at e)) w ≡ k.does (k.next f) (k.reads behind) (k.leave f (k.does o (k.reads inner) w')) =
      q ∙ ap (λ (x : Bytes). k.does (k.next f) (k.reads x) (k.leave f (k.does o (k.reads (take (n - j) (drop j (part s at e)))) w'))) r
      ∙ ap (λ (x : Bytes). k.does (k.next f) (k.reads behind) (k.leave f (k.does o (k.reads x) w'))) i in
      let v : e - at - n ≡ e - (at + n) = omega arith in
      let g : until h (at + n) (k.rest f) (length s) ≡ e =
      ap (λ (x : ℕ). until h (at + n) x (length s)) (y ∙ ap (λ (x : ℕ). x % 65536) v) ∙ stored_until h at e (at + n) (length s) p.room (at_top p.waits) (omega arith) within in
      record {
        ordered = omega arith;
        ends = omega (arith, p.ends);
        room = rw (add-one h) (room_in h at e j n p.room a u within);
        entered = omega (arith, p.entered);
        later = λ x. p.later (k.does (k.next f) (k.reads behind) (k.leave f x));
        waits = rw (add-one h) (under e f same g within p.ends (room_on h at (at + n) e p.room (omega arith)) (kept gs below p.waits));
        total = ap p.later (sym z) ∙ p.total;
      }

popped : {k : Walk} {s : Bytes} {fs : k.Stack} {h at e : ℕ} {l : k.World → k.World} {w t : k.World} → at ≡ e → 3 * suc h ≤ at → Waits k s fs (suc h) e l → l w ≡ t
    → Going k s fs h at (ends_at k s fs h at) (k.next (k.frame fs h)) (k.leave (k.frame fs h) w) t
popped {k = k} {s = s} {fs = fs} {h = h} {at = at} {w = w} {t = t} x z (under {l = l} g f q d a b r v) go =
    let y : g ≡ until h at (k.rest f) (length s) = sym d ∙ ap (λ (j : ℕ). until h j (k.rest f) (length s)) (sym x) in
    let p : Going k s fs h at g (k.next f) (k.leave f w) t = record {
      ordered = omega arith;
      ends = b;
      room = rw x r;
      entered = omega arith;
      later = l;
      waits = v;
      total = ap (λ (j : ℕ). l (k.does (k.next f) (k.reads (part s j g)) (k.leave f w))) x ∙ go;
    } in
    subst (λ (j : k.Frame). Going k s fs h at (until h at (k.rest j) (length s)) (k.next j) (k.leave j w) t) (sym q)
    (subst (λ (j : ℕ). Going k s fs h at j (k.next f) (k.leave f w) t) y p)

-- the body has ended, and the one around it goes on
pub on_end : {k : Walk} {s : Bytes} {fs : k.Stack} (h : ℕ) {at e : ℕ} {c : k.Expects} {w t w' : k.World} → Going k s fs h at e c w t → length (part s at e) ≡ 0 → k.does c (k.reads (part s at e)) w ≡ w' → (h ≡ 0 → ⊥)
    → Going k s fs (h - 1) at (ends_at k s fs (h - 1) at) (k.next (k.frame fs (h - 1))) (k.leave (k.frame fs (h - 1)) w') t
on_end zero p b q z = absurd (z refl)
on_end {k = k} {s = s} {fs = fs} (suc h) {at = at} {e = e} {t = t} {w' = w'} p b q z =
    let l = left_is p in
    let x : at ≡ e = omega (arith, p.ordered) in
    let m : h ≡ suc h - 1 = omega arith in
    subst (λ (j : ℕ). Going k s fs j at (ends_at k s fs j at) (k.next (k.frame fs j)) (k.leave (k.frame fs j) w') t) m
    (popped x p.entered p.waits (ap p.later (sym q) ∙ p.total))
