-- Later bytes moved down over a page, and zeros where they ended. Main statements: `tail_put`, `moved`, `closed`, `put_there`. Assumes nothing.
use Prim.Native.Nat.{ℕ, ◌+◌, ◌-◌}
use mathlib.Core.Path.{◌≡◌, refl, sym, ap, ap₂, ◌∙◌}
use mathlib.Core.List.{[], ◌++◌, append_assoc, append-nil}
use native.Mathlib.Omega.{arith}
use lib.ListN.{length, take, drop, replicate, length-append, length-drop, length-replicate, drop_of_length-le}
use lib.Seq.{take_at, drop_at, drop-drop, length-take-le}
use borrow.Rule.Slice.PartMut.{put_mid}
use Rattle.std.specs.List.{copy_within}
use Rattle.field.specs.Bytes.{Bytes}
use Rattle.field.specs.Put.{put}
use Rattle.field.proofs.PutLaws.{put_fits}

-- from the end of the page on, all else in place of the bytes that stood there
pub tail_put : (b v : Bytes) (n : ℕ) → put_mid n (length b - n) b v ≡ take n b ++ v
tail_put b v n =
    let nothing : drop (length b - n) (drop n b) ≡ [] = drop_of_length-le (drop n b) {i = length b - n} (omega (arith, length-drop n b)) in
    ap (λ (x : Bytes). take n b ++ (v ++ x)) nothing ∙ ap (λ (x : Bytes). take n b ++ x) (append-nil v)

-- in front, the page, what stood behind it, what is to stand there, and the bytes behind all
module _ (f p l m z : Bytes) (at last used : ℕ) (e₁ : at ≡ length f) (e₂ : last ≡ length f + length p) (e₃ : used ≡ last + length l) (e₄ : length m ≡ length l) where
  abbrev pub lowered_there : Bytes
  lowered_there = (f ++ p) ++ (m ++ z)

  abbrev pub zeros : Bytes
  zeros = replicate (length p) 0

  page_end : length (f ++ p) ≡ last
  page_end = omega (arith, length-append f p)

  at_front : take at lowered_there ≡ f
  at_front = ap (take at) (append_assoc f p (m ++ z)) ∙ take_at f (p ++ (m ++ z)) at (sym e₁)

  pub moved : copy_within lowered_there last used at ≡ (f ++ m) ++ drop (at + length m) lowered_there
  moved =
      let i : used - last ≡ length m = omega arith in
      let x : take (used - last) (drop last lowered_there) ≡ m = ap₂ (λ (n : ℕ) (y : Bytes). take n y) i (drop_at (f ++ p) (m ++ z) last page_end) ∙ take_at m z (length m) refl in
      ap₂ (λ (y w : Bytes). (y ++ w) ++ drop (at + (used - last)) lowered_there) at_front x
      ∙ ap (λ (n : ℕ). (f ++ m) ++ drop (at + n) lowered_there) i

  -- what is left of the room, as it is cleared
  pub cleared_long : length (take (used - (used - (last - at))) (drop (used - (last - at)) ((f ++ m) ++ drop (at + length m) lowered_there))) ≡ length p
  cleared_long =
      let r : Bytes = drop (at + length m) lowered_there in
      let l₁ : length (f ++ m) ≡ used - (last - at) = omega (arith, length-append f m) in
      let lr : length r ≡ length p + length z = omega (arith, length-drop (at + length m) lowered_there, length-append (f ++ p) (m ++ z), length-append f p, length-append m z) in
      ap (λ (x : Bytes). length (take (used - (used - (last - at))) x)) (drop_at (f ++ m) r (used - (last - at)) l₁)
      ∙ length-take-le (used - (used - (last - at))) r (omega arith) ∙ omega arith

  pub closed : (v : Bytes) → v ≡ zeros → put_mid (used - (last - at)) (used - (used - (last - at))) ((f ++ m) ++ drop (at + length m) lowered_there) v ≡ f ++ ((m ++ zeros) ++ z)
  closed v e =
      let n₁ : used - (last - at) ≡ at + length m = omega arith in
      let n₂ : used - (used - (last - at)) ≡ length p = omega arith in
      let r : Bytes = drop (at + length m) lowered_there in
      let l₁ : length (f ++ m) ≡ used - (last - at) = omega (arith, length-append f m) in
      let l₂ : length ((f ++ p) ++ m) ≡ at + length m + length p = omega (arith, length-append (f ++ p) m, length-append f p) in
      let d : drop (used - (used - (last - at))) r ≡ z =
      ap (λ (n : ℕ). drop n r) n₂ ∙ drop-drop (length p) (at + length m) lowered_there
      ∙ ap (drop (at + length m + length p)) (sym (append_assoc (f ++ p) m z)) ∙ drop_at ((f ++ p) ++ m) z (at + length m + length p) l₂ in
      ap₂ (λ (x y : Bytes). x ++ (v ++ drop (used - (used - (last - at))) y)) (take_at (f ++ m) r (used - (last - at)) l₁) (drop_at (f ++ m) r (used - (last - at)) l₁)
      ∙ ap₂ (λ (x y : Bytes). (f ++ m) ++ (x ++ y)) e d
      ∙ simp append_assoc

  -- the same in the words of the theorem
  pub put_there : put (f ++ (p ++ (l ++ z))) at (m ++ zeros) ≡ f ++ ((m ++ zeros) ++ z)
  put_there =
      let b : Bytes = f ++ (p ++ (l ++ z)) in
      let w : Bytes = m ++ replicate (length p) 0 in
      let lw : length w ≡ length p + length l = length-append m (replicate (length p) 0) ∙ omega (arith, length-replicate {A = ℕ} (length p) 0) in
      let lb : length b ≡ length f + (length p + (length l + length z)) = length-append f (p ++ (l ++ z)) ∙ omega (arith, length-append p (l ++ z), length-append l z) in
      let l₂ : length ((f ++ p) ++ l) ≡ at + length w = omega (arith, length-append (f ++ p) l, length-append f p) in
      let g : b ≡ ((f ++ p) ++ l) ++ z = simp append_assoc in
      put_fits b at w (omega arith)
      ∙ ap₂ (λ (x y : Bytes). x ++ (w ++ y)) (take_at f (p ++ (l ++ z)) at (sym e₁)) (ap (drop (at + length w)) g ∙ drop_at ((f ++ p) ++ l) z (at + length w) l₂)
