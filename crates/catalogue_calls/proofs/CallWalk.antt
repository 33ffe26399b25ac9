-- The walk from call to call, and a page out whose numbers are raised on the way.
-- Main statements: `begins`, `calls_end`, `call_found`, `enters`, `passes`; `raising`, `fits`, `raises_one`, `all_raised`.
-- Assumes nothing.
use mathlib.Core.Path.{◌≡◌, refl, sym, ap, ap₂, ◌∙◌, subst}
use mathlib.Core.Bool.{Bool, true, false}
use mathlib.Core.Logic.{◌⊎◌, inl, inr}
use Prim.Native.Nat.{ℕ, zero, suc, ◌+◌, ◌-◌, ◌%◌, ◌≤◌, ◌<◌}
use native.Mathlib.Omega.{arith}
use mathlib.Core.List.{[], ◌∷◌, ◌++◌}
use lib.Dec.{eqb}
use lib.ListN.{length, take, drop, get_or, length-append, length-drop, take-append-drop}
use lib.Seq.{take-add, drop-drop, length-take-le}
use Rattle.std.specs.Prelude.{Option, Some, None}
use Rattle.std.proofs.lemmas.List.{append_assoc}
use Rattle.std.proofs.lemmas.Bool.{cases_Bool}
use borrow.Author.Tests.{ne_eqb, eqb-false}
use Rattle.field.specs.Bytes.{Bytes, pick}
use Rattle.field.specs.Row.{bytes, only_bytes, fields_after, Next, next, next_of}
use Rattle.field.specs.Header.{header_of, Within}
use Rattle.field.specs.declared.reader.Header.{Header}
use Rattle.field.proofs.HeaderLaws.{within_field}
use Rattle.field.proofs.NumberLaws.{all_from, length_big_endian}
use Rattle.loops.proofs.Headers.{next_torn, next_empty, next_is, body, length_body}
use Rattle.refusal.specs.Refusal.{Fine}
use Rattle.outs.specs.Held.{nests, held, read_out}
use Rattle.outs.specs.PageOut.{check_page_out}
use Rattle.outs.proofs.StepLaws.{FrontIs, held_front, held_none}
use Rattle.catalogue.specs.Catalogue.{four}
use Rattle.catalogue.specs.Numbers.{changed, raised, full_turn}
use Rattle.catalogue_calls.specs.Flat.{calls_by, calls_in, further, raised_at, raised_by, calls_raised}
use Rattle.catalogue_calls.specs.Next.{CallAt, NoCall}
use Rattle.catalogue_calls.proofs.Four.{left_from, left_is, front_raised, behind_raised, length_raised_at}
use Rattle.catalogue_calls.proofs.FlatLaws.{calls_step, raised_step, raised_are, length_raised}

-- ---- to the next call

-- no call stands before this place: what is told of all is told of what is left
pub record Walked (s : Bytes) (at : ℕ) : Type 0 where
  pub within : at ≤ length s
  pub numbers_are : calls_in s ≡ calls_in (drop at s)
  pub raised_is : (n : ℕ) → calls_raised n s ≡ take at s ++ calls_raised n (drop at s)

-- these bytes are left
pub record Left (s rest : Bytes) : Type 0 where
  pub at : ℕ
  pub rest_is : rest ≡ drop at s
  pub walked : Walked s at

pub begins : (s : Bytes) → Left s s
begins s = record { at = 0; rest_is = refl; walked = record { within = omega arith; numbers_are = refl; raised_is = λ n. refl } }

module _ {s rest : Bytes} {at : ℕ} (p : Walked s at) (rest_is : rest ≡ drop at s) {v : Option Header} (q : v ≡ header_of rest) where
  header_is : v ≡ header_of (drop at s)
  header_is = q ∙ ap header_of rest_is

  stop : {y : Next} → next_of (drop at s) ≡ y → calls_by calls_in (drop at s) y ≡ [] → ((n : ℕ) → raised_by (calls_raised n) n (drop at s) y ≡ drop at s) → NoCall s
  stop e c r =
      record {
        no_numbers = p.numbers_are ∙ calls_step (drop at s) ∙ ap (calls_by calls_in (drop at s)) e ∙ c;
        as_it_was = λ n. p.raised_is n ∙ ap (λ (y : Bytes). take at s ++ y) (raised_step n (drop at s) ∙ ap (raised_by (calls_raised n) n (drop at s)) e ∙ r n) ∙ take-append-drop at s;
      }

  pub calls_end : v ≡ None → NoCall s
  calls_end x = on (length (drop at s)) refl
    where
      on : (k : ℕ) → length (drop at s) ≡ k → NoCall s
      on zero z = stop (next_empty (drop at s) z) refl (λ n. refl)
      on (suc k) z = stop (next_torn (drop at s) (sym header_is ∙ x) (λ y. omega arith)) refl (λ n. refl)

  module _ (i : Within (length rest) v) {h : Header} (x : v ≡ Some h) where
    inside : Within (length (drop at s)) v
    inside = subst (λ (y : Bytes). Within (length y) v) rest_is i

    ends : (3 ≤ h.end) × (at + h.end ≤ length s)
    ends =
        let w : (3 ≤ h.end) × (h.end ≤ length (drop at s)) = within_field inside x in
        (w.0, omega (arith, w.1, length-drop at s, p.within))

    b : Bytes
    b = drop at s

    in_front : next_of b ≡ next h.tag (body b h.end) (drop h.end b)
    unfolding b
    in_front = next_is (drop at s) header_is inside x

    numbers_by : (y z : Bool) → eqb h.tag 0x90 ≡ y → nests h.tag ≡ z → calls_in s ≡ pick y (four (drop 3 b) ∷ calls_in (drop 7 b)) (pick z (calls_in (drop 3 b)) (calls_in (drop h.end b)))
    unfolding b
    numbers_by y z e f =
        p.numbers_are ∙ calls_step b ∙ ap (calls_by calls_in b) in_front
        ∙ ap₂ (λ (y z : Bool). pick y (four (drop 3 b) ∷ calls_in (drop 7 b)) (pick z (calls_in (drop 3 b)) (calls_in (drop h.end b)))) e f

    bytes_by : (n : ℕ) (y z : Bool) → eqb h.tag 0x90 ≡ y → nests h.tag ≡ z
        → calls_raised n s ≡ take at s ++ pick y (take 3 b ++ (further n (drop 3 b) ++ calls_raised n (drop 7 b))) (pick z (take 3 b ++ calls_raised n (drop 3 b)) (take (3 + length (body b h.end)) b ++ calls_raised n (drop h.end b)))
    unfolding b
    bytes_by n y z e f =
        p.raised_is n ∙ ap (λ (c : Bytes). take at s ++ c) (raised_step n b ∙ ap (raised_by (calls_raised n) n b) in_front)
        ∙ ap₂ (λ (y z : Bool). take at s ++ pick y (take 3 b ++ (further n (drop 3 b) ++ calls_raised n (drop 7 b))) (pick z (take 3 b ++ calls_raised n (drop 3 b)) (take (3 + length (body b h.end)) b ++ calls_raised n (drop h.end b)))) e f

    -- k bytes are walked
    further_on : (k : ℕ) (c : Bytes) → take at s ++ (take k b ++ c) ≡ take (at + k) s ++ c
    unfolding b
    further_on k c = sym (append_assoc (take at s) (take k (drop at s)) c) ∙ ap (λ (y : Bytes). y ++ c) (sym (take-add at k s))

    dropped : (k : ℕ) → drop k b ≡ drop (at + k) s
    unfolding b
    dropped k = drop-drop k at s

    -- so many bytes more are walked
    left_after : (k : ℕ) → Walked s (at + k) → Left s (left_from rest k)
    left_after k w = record { at = at + k; rest_is = left_is rest k ∙ ap (drop k) rest_is ∙ drop-drop k at s; walked = w }

    pub call_found : {j : ℕ} → held 4 h.tag ≡ fields_after j → j ≡ 4 → CallAt s (length s - length rest + 3)
    call_found {j} k q = subst (λ (a : ℕ). CallAt s (a + 3)) (let z : at ≡ length s - length rest = omega (arith, ap length rest_is, length-drop at s, p.within) in z) (on (cases_Bool (eqb h.tag 0x90)))
      where
        f : FrontIs 4 h.tag j
        f = held_front 4 h.tag j k

        g : drop 7 b ≡ drop (at + 3 + 4) s
        g = dropped 7 ∙ ap (λ (j : ℕ). drop j s) (let z : at + 7 ≡ at + 3 + 4 = omega arith in z)

        on : (eqb h.tag 0x90 ≡ true) ⊎ (eqb h.tag 0x90 ≡ false) → CallAt s (at + 3)
        on (inl y) = record {
          header = omega arith;
          inside = omega (arith, ends);
          numbers_are = numbers_by true true y f.nests_is ∙ ap₂ (λ (c d : Bytes). four c ∷ calls_in d) (dropped 3) g;
          raised_is = λ n. bytes_by n true true y f.nests_is ∙ further_on 3 (further n (drop 3 b) ++ calls_raised n (drop 7 b)) ∙ ap₂ (λ (c d : Bytes). take (at + 3) s ++ (further n c ++ calls_raised n d)) (dropped 3) g;
        }
        on (inr y) = absurd (let z : j ≡ 0 = f.of_other (eqb-false h.tag 0x90 y) in omega arith)

    pub enters : {j : ℕ} → held 4 h.tag ≡ fields_after j → (j ≡ 4 → ⊥) → Left s (left_from rest 3)
    enters {j} k o =
        let f : FrontIs 4 h.tag j = held_front 4 h.tag j k in
        let y : eqb h.tag 0x90 ≡ false = ne_eqb h.tag 0x90 (λ c. o (f.of_call c)) in
        left_after 3 (record {
          within = omega (arith, ends);
          numbers_are = numbers_by false true y f.nests_is ∙ ap calls_in (dropped 3);
          raised_is = λ n. bytes_by n false true y f.nests_is ∙ further_on 3 (calls_raised n (drop 3 b)) ∙ ap (λ (c : Bytes). take (at + 3) s ++ calls_raised n c) (dropped 3);
        })

    whole : 3 + length (body b h.end) ≡ h.end
    unfolding b
    whole = omega (arith, length_body (drop at s) header_is inside x, ends)

    pub passes : held 4 h.tag ≡ only_bytes → Left s (left_from rest h.end)
    passes k =
        let f = held_none 4 h.tag k in
        let y : eqb h.tag 0x90 ≡ false = ne_eqb h.tag 0x90 f.0 in
        left_after h.end (record {
          within = omega (arith, ends);
          numbers_are = numbers_by false false y f.1 ∙ ap calls_in (dropped h.end);
          raised_is = λ n.
              bytes_by n false false y f.1 ∙ ap (λ (j : ℕ). take at s ++ (take j b ++ calls_raised n (drop h.end b))) whole ∙ further_on h.end (calls_raised n (drop h.end b))
              ∙ ap (λ (c : Bytes). take (at + h.end) s ++ calls_raised n c) (dropped h.end);
        })

-- ---- the numbers raised on the way

-- what it comes to
abbrev pub all_further : ℕ → Bytes → Bytes
all_further by s = bytes (changed (raised 0x90 by) (read_out 4 s))

-- all before this place is raised, and nothing behind it
pub record Raising (by : ℕ) (s₀ s : Bytes) (at : ℕ) : Type 0 where
  pub within : at ≤ length s
  pub kept : length s ≡ length s₀
  pub size : length (all_further by s₀) ≡ length s₀
  pub total : take at s ++ calls_raised by (drop at s) ≡ all_further by s₀

pub raising : (by : ℕ) (s : Bytes) → ((i : ℕ) → get_or s i 0 < 256) → check_page_out 4 s ≡ Fine → Raising by s s 0
raising by s a g =
    let e : all_further by s ≡ calls_raised by s = raised_are by s (all_from s a) g in
    record { within = omega arith; kept = refl; size = ap length e ∙ length_raised by s (all_from s a) g; total = sym e }

module _ {by : ℕ} {s₀ s : Bytes} {at : ℕ} (p : Raising by s₀ s at) where
  pub all_raised : NoCall (left_from s at) → s ≡ all_further by s₀
  all_raised n = sym (sym p.total ∙ ap (λ (y : Bytes). take at s ++ y) ((subst NoCall (left_is s at) n).as_it_was by) ∙ take-append-drop at s)

  module _ {k : ℕ} (c : CallAt (left_from s at) k) where
    here : CallAt (drop at s) k
    here = subst (λ (y : Bytes). CallAt y k) (left_is s at) c

    -- all of it, up to the number and behind it
    apart : (take (at + k) s ++ further by (drop (at + k) s)) ++ calls_raised by (drop (at + k + 4) s) ≡ all_further by s₀
    apart =
        let b : Bytes = drop at s in
        let j : at + (k + 4) ≡ at + k + 4 = omega arith in
        append_assoc (take (at + k) s) (further by (drop (at + k) s)) (calls_raised by (drop (at + k + 4) s))
        ∙ ap₂ (λ (x y : Bytes). x ++ (further by (drop (at + k) s) ++ calls_raised by y)) (take-add at k s) (ap (λ (i : ℕ). drop i s) (sym j) ∙ sym (drop-drop (k + 4) at s))
        ∙ append_assoc (take at s) (take k b) (further by (drop (at + k) s) ++ calls_raised by (drop (k + 4) b))
        ∙ ap (λ (x : Bytes). take at s ++ (take k b ++ (further by x ++ calls_raised by (drop (k + 4) b)))) (sym (drop-drop k at s))
        ∙ ap (λ (x : Bytes). take at s ++ x) (sym (here.raised_is by)) ∙ p.total

    -- the number lies within
    pub fits : at + k + 4 ≤ length s
    fits =
        let w : Bytes = further by (drop (at + k) s) in
        let r : Bytes = calls_raised by (drop (at + k + 4) s) in
        omega (arith, ap length apart, p.size, p.kept, length-append (take (at + k) s ++ w) r, length-append (take (at + k) s) w, length_big_endian 4 ((four (drop (at + k) s) + by) % full_turn) [], length-take-le (at + k) s (omega (arith, here.inside, length-drop at s, p.within)))

    pub raises_one : {s' : Bytes} → s' ≡ raised_at (at + k) by s → Raising by s₀ s' (at + (k + 4))
    raises_one {s'} e = subst (λ (y : Bytes). Raising by s₀ y (at + (k + 4))) (sym e) (subst (Raising by s₀ (raised_at (at + k) by s)) (let z : at + k + 4 ≡ at + (k + 4) = omega arith in z) (record {
      within = omega (arith, fits, length_raised_at (at + k) by s fits);
      kept = length_raised_at (at + k) by s fits ∙ p.kept;
      size = p.size;
      total = ap₂ (λ (x y : Bytes). x ++ calls_raised by y) (front_raised (at + k) by s fits) (behind_raised (at + k) by s fits) ∙ apart;
    }))
