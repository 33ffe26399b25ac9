-- The walk from record to record in which their numbers are raised. Main statements: `raising`, `fits`, `raises_one`, `all_raised`.
-- Assumes nothing.
use mathlib.Core.Path.{◌≡◌, refl, sym, ap, ap₂, ◌∙◌, subst}
use Prim.Native.Nat.{ℕ, zero, suc, ◌+◌, ◌-◌, ◌%◌, ◌≤◌, ◌<◌}
use native.Mathlib.Omega.{arith}
use mathlib.Core.List.{[], ◌++◌}
use lib.ListN.{length, take, drop, get_or, length-drop, take-append-drop}
use lib.Seq.{take-add, take_at, drop_at, drop-drop}
use Rattle.std.proofs.lemmas.List.{append_assoc, take-append-le, drop-append-le, nil_from_length}
use Rattle.field.specs.Bytes.{Bytes, AllBytes}
use Rattle.field.specs.Number.{big_endian, number_of}
use Rattle.field.specs.Row.{Row, field_bytes, bytes, next, next_of, built, read}
use Rattle.field.specs.Put.{head}
use Rattle.field.specs.Header.{header_of, Within}
use Rattle.field.specs.declared.reader.Header.{Header}
use Rattle.std.specs.Prelude.{Option, Some, None}
use Rattle.field.proofs.HeaderLaws.{within_field}
use Rattle.loops.proofs.Headers.{next_torn, next_empty, next_is, body, length_body}
use Rattle.field.proofs.NumberLaws.{all_from}
use Rattle.field.proofs.RowLaws.{read_step, all_parts}
use Rattle.refusal.specs.Refusal.{Fine}
use Rattle.outs.specs.Templates.{check_templates}
use Rattle.outs.specs.declared.Kind.TheVariants.{New}
use Rattle.catalogue.specs.Catalogue.{four}
use Rattle.catalogue.specs.Numbers.{changed, raised}
use Rattle.catalogue_calls.specs.Flat.{further, raised_at}
use Rattle.catalogue_calls.proofs.Four.{left_from, left_is, front_raised, behind_raised, length_raised_at}
use Rattle.catalogue_calls.proofs.RecordLaws.{RecordFront, raised_front}

module _ (n : ℕ) where
  abbrev m : ℕ → Bytes → Bytes
  m = raised 0x84 n

  -- what it comes to
  abbrev pub all_further : Bytes → Bytes
  all_further s = bytes (changed m (read s))

  -- the records before this place are raised, and nothing behind it is
  pub record Raising (s₀ s : Bytes) (at : ℕ) : Type 0 where
    pub within : at ≤ length s
    pub kept : length s ≡ length s₀
    pub all_left : AllBytes (drop at s)
    pub right : check_templates New (drop at s) ≡ Fine
    pub total : take at s ++ all_further (drop at s) ≡ all_further s₀

  pub raising : (s : Bytes) → ((i : ℕ) → get_or s i 0 < 256) → check_templates New s ≡ Fine → Raising s s 0
  raising s a g = record { within = omega arith; kept = refl; all_left = all_from s a; right = g; total = refl }

  module _ {s₀ s : Bytes} {at : ℕ} (p : Raising s₀ s at) {v : Option Header} (q : v ≡ header_of (left_from s at)) where
    header_is : v ≡ header_of (drop at s)
    header_is = q ∙ ap header_of (left_is s at)

    pub all_raised : v ≡ None → s ≡ all_further s₀
    unfolding changed bytes built
    all_raised x = sym (sym p.total ∙ ap (λ (y : Bytes). take at s ++ y) (on (length (drop at s)) refl) ∙ take-append-drop at s)
      where
        on : (k : ℕ) → length (drop at s) ≡ k → all_further (drop at s) ≡ drop at s
        on zero z = ap (λ (y : Row). bytes (changed m y)) (read_step (drop at s) ∙ ap (built read (drop at s)) (next_empty (drop at s) z)) ∙ sym (nil_from_length (drop at s) z)
        on (suc k) z = ap (λ (y : Row). bytes (changed m y)) (read_step (drop at s) ∙ ap (built read (drop at s)) (next_torn (drop at s) (sym header_is ∙ x) (λ y. omega arith)))

    module _ (i : Within (length (left_from s at)) v) {h : Header} (x : v ≡ Some h) where
      b : Bytes
      b = drop at s

      w : Bytes
      w = body b h.end

      r : Bytes
      r = drop h.end b

      in_front : next_of b ≡ next h.tag w r
      unfolding b w r
      in_front = next_is (drop at s) header_is (subst (λ (y : Bytes). Within (length y) v) (left_is s at) i) x

      found : RecordFront n b h.tag w r
      unfolding b
      found = raised_front n b h.tag w r in_front p.all_left p.right

      sizes : (3 + length w ≡ h.end) × (h.end ≤ length b)
      unfolding b w
      sizes =
          let i' : Within (length (drop at s)) v = subst (λ (y : Bytes). Within (length y) v) (left_is s at) i in
          let e : (3 ≤ h.end) × (h.end ≤ length (drop at s)) = within_field i' x in
          (omega (arith, length_body (drop at s) header_is i' x, e.0), e.1)

      -- the field lies within, and its number does
      pub ends : (3 ≤ h.end) × (at + h.end ≤ length s)
      unfolding b
      ends = (omega (arith, sizes.0), omega (arith, sizes.1, length-drop at s, p.within))

      pub fits : at + 3 + 4 ≤ length s
      fits = omega (arith, ends.1, sizes.0, found.number_there)

      -- its parts by their places
      header_there : take (at + 3) s ≡ take at s ++ head h.tag (length w)
      unfolding b field_bytes big_endian
      header_there = take-add at 3 s ∙ ap (λ (y : Bytes). take at s ++ y) (ap (take 3) (sym (all_parts b h.tag w r in_front p.all_left).written))

      number_there : drop (at + 3) s ≡ w ++ r
      unfolding b field_bytes big_endian
      number_there = sym (drop-drop 3 at s) ∙ ap (drop 3) (sym (all_parts b h.tag w r in_front p.all_left).written)

      behind_there : drop (at + 3 + 4) s ≡ drop 4 w ++ r
      behind_there = sym (drop-drop 4 (at + 3) s) ∙ ap (drop 4) number_there ∙ drop-append-le 4 w r found.number_there

      further_there : further n (drop (at + 3) s) ≡ further n w
      further_there = ap (λ (j : ℕ). big_endian 4 ((j + n) % 4294967296) []) (ap four number_there ∙ ap number_of (take-append-le 4 w r found.number_there))

      k : ℕ
      k = length w - 4

      left_size : length (drop 4 w) ≡ k
      unfolding k
      left_size = length-drop 4 w

      module _ {s' : Bytes} (e : s' ≡ raised_at (at + 3) n s) where
        behind_is : drop (at + 3 + 4) s' ≡ drop 4 w ++ r
        behind_is = ap (drop (at + 3 + 4)) e ∙ behind_raised (at + 3) n s fits ∙ behind_there

        front_is : take (at + 3 + 4 + k) s' ≡ ((take at s ++ head h.tag (length w)) ++ further n w) ++ drop 4 w
        front_is =
            take-add (at + 3 + 4) k s'
            ∙ ap₂ (λ (c d : Bytes). c ++ take k d) (ap (take (at + 3 + 4)) e ∙ front_raised (at + 3) n s fits ∙ ap₂ (λ (c d : Bytes). c ++ d) header_there further_there) behind_is
            ∙ ap (λ (c : Bytes). ((take at s ++ head h.tag (length w)) ++ further n w) ++ c) (take_at (drop 4 w) r k left_size)

        rest_is : drop (at + 3 + 4 + k) s' ≡ r
        rest_is = sym (drop-drop k (at + 3 + 4) s') ∙ ap (drop k) behind_is ∙ drop_at (drop 4 w) r k left_size

        pub raises_one : Raising s₀ s' (at + h.end)
        unfolding b k
        raises_one =
            let j : at + 3 + 4 + k ≡ at + h.end = omega (arith, sizes.0, found.number_there) in
            let l : length s' ≡ length s = ap length e ∙ length_raised_at (at + 3) n s fits in
            subst (Raising s₀ s') j (record {
              within = omega (arith, j, l, ends.1);
              kept = l ∙ p.kept;
              all_left = subst AllBytes (sym rest_is) (all_parts b h.tag w r in_front p.all_left).behind_all;
              right = ap (check_templates New) rest_is ∙ found.rest_right;
              total =
                  ap₂ (λ (c d : Bytes). c ++ all_further d) front_is rest_is
                  ∙ simp append_assoc (ap (λ (c : Bytes). take at s ++ c) (sym found.bytes_are) ∙ p.total);
            })
