-- A page that is written: its head, its parts, and their numbers raised where they stand. Main statements: `records_fine`, `calls_fine`,
-- `page_written`. Assumes nothing.
use Prim.Native.Nat.{ℕ, ◌+◌, ◌≤◌}
use mathlib.Core.Path.{◌≡◌, refl, sym, ap, ap₂, ◌∙◌}
use mathlib.Core.List.{[], ◌++◌, append_assoc, append-nil}
use native.Mathlib.Omega.{arith}
use lib.ListN.{length, take, drop, length-append}
use lib.Seq.{length-take-le}
use borrow.Rule.Slice.PartMut.{put_mid}
use Rattle.field.specs.Bytes.{Bytes}
use Rattle.field.specs.Put.{put, Wrote}
use Rattle.field.proofs.PutLaws.{put_put, put_fits}
use Rattle.refusal.specs.Refusal.{Fine}
use Rattle.outs.specs.PageOut.{check_page_out}
use Rattle.outs.specs.Templates.{check_templates}
use Rattle.outs.specs.declared.Kind.TheVariants.{New}
use Rattle.catalogue.specs.Page.{Page}
use Rattle.catalogue.specs.Catalogue.{page_then}
use Rattle.catalogue.specs.Numbers.{up}
use Rattle.catalogue.specs.Judged.{project}
use Rattle.catalogue_calls.specs.Standing.{housed}
use Rattle.catalogue_calls.specs.Arrives.{page_of, head_of}
use Rattle.catalogue_calls.proofs.RowedLaws.{length_head, page_parts}
use Rattle.catalogue_calls.proofs.LowerLaws.{records_raised, calls_raised, records_long, calls_long}
use Rattle.catalogue_calls.proofs.PartLaws.{part_is, part_put, second_is, second_put}

module _ (o : Bytes) (at name house : ℕ) {o₁ o₂ o₃ : Bytes} {n₂ n₃ : ℕ} {t q : Bytes} (fits : at + 14 + length t + length q ≤ length o)
    (e₁ : o₁ ≡ put o at (head_of name house (length t) (length q))) (e₂ : Wrote o₁ (at + 14) t o₂ n₂) (e₃ : Wrote o₂ (at + 14 + length t) q o₃ n₃) where
  abbrev h : Bytes
  h = head_of name house (length t) (length q)

  h_long : length h ≡ 14
  h_long = length_head name house (length t) (length q)

  abbrev front : Bytes
  front = take at o ++ h

  front_long : length front ≡ at + 14
  front_long = omega (arith, length-append (take at o) h, length-take-le at o (omega arith), h_long)

  abbrev rest : Bytes
  rest = drop (at + 14 + length t + length q) o

  -- parts of these lengths, with what stands around them
  whole : (v u : Bytes) → length v ≡ length t → length u ≡ length q → put o at (h ++ (v ++ u)) ≡ front ++ (v ++ (u ++ rest))
  whole v u lv lu =
      let l : at + length (h ++ (v ++ u)) ≡ at + 14 + length t + length q = omega (arith, length-append h (v ++ u), length-append v u, h_long) in
      put_fits o at (h ++ (v ++ u)) (omega arith)
      ∙ ap (λ (n : ℕ). take at o ++ ((h ++ (v ++ u)) ++ drop n o)) l
      ∙ simp append_assoc

  three : o₃ ≡ put o at (h ++ (t ++ q))
  three =
      let i : at + 14 ≡ at + length h = omega (arith, h_long) in
      let j : at + 14 + length t ≡ at + length (h ++ t) = omega (arith, h_long, length-append h t) in
      e₃.out_is
      ∙ ap₂ (λ (x : Bytes) (n : ℕ). put x n q) (e₂.out_is ∙ ap₂ (λ (x : Bytes) (n : ℕ). put x n t) e₁ i ∙ put_put o at h t) j
      ∙ put_put o at (h ++ t) q ∙ ap (put o at) (append_assoc h t q)

  there : o₃ ≡ front ++ (t ++ (q ++ rest))
  there = three ∙ whole t q refl refl

  module _ (k₁ k₂ : ℕ) (i₁ : k₁ ≡ length t) (i₂ : k₂ ≡ length q) where
    records_there : take k₁ (drop (at + 14) o₃) ≡ t
    records_there = ap (λ (b : Bytes). take k₁ (drop (at + 14) b)) there ∙ part_is front t (q ++ rest) (at + 14) k₁ front_long i₁

    pub records_fine : check_templates New t ≡ Fine → check_templates New (take k₁ (drop (at + 14) o₃)) ≡ Fine
    records_fine f = ap (check_templates New) records_there ∙ f

    module _ (n : ℕ) {v : Bytes} (v_is : v ≡ records_raised n (take k₁ (drop (at + 14) o₃))) where
      v_there : v ≡ records_raised n t
      v_there = v_is ∙ ap (records_raised n) records_there

      v_long : length v ≡ length t
      v_long = ap length v_there ∙ records_long n t

      first_put : put_mid (at + 14) k₁ o₃ v ≡ front ++ (v ++ (q ++ rest))
      first_put = ap (λ (b : Bytes). put_mid (at + 14) k₁ b v) there ∙ part_put front t (q ++ rest) (at + 14) k₁ front_long i₁ v

      calls_there : take k₂ (drop (at + 14 + length t) (put_mid (at + 14) k₁ o₃ v)) ≡ q
      calls_there = ap (λ (b : Bytes). take k₂ (drop (at + 14 + length t) b)) first_put ∙ second_is front v q rest (at + 14) (at + 14 + length t) k₂ front_long (omega (arith, v_long)) i₂

      pub calls_fine : check_page_out 4 q ≡ Fine → check_page_out 4 (take k₂ (drop (at + 14 + length t) (put_mid (at + 14) k₁ o₃ v))) ≡ Fine
      calls_fine f = ap (check_page_out 4) calls_there ∙ f

      pub page_written : {u : Bytes} → u ≡ calls_raised n (take k₂ (drop (at + 14 + length t) (put_mid (at + 14) k₁ o₃ v)))
          → put_mid (at + 14 + length t) k₂ (put_mid (at + 14) k₁ o₃ v) u ≡ put o at (page_then housed n (page_of name house t q) [])
      unfolding project up
      page_written {u} u_is =
          let e : u ≡ calls_raised n q = u_is ∙ ap (calls_raised n) calls_there in
          let lu : length u ≡ length q = ap length e ∙ calls_long n q in
          let p : Page = page_of name house t q in
          ap (λ (b : Bytes). put_mid (at + 14 + length t) k₂ b u) first_put
          ∙ second_put front v q rest (at + 14) (at + 14 + length t) k₂ front_long (omega (arith, v_long)) i₂ u
          ∙ sym (whole v u v_long lu)
          ∙ ap₂ (λ (x y : Bytes). put o at (h ++ (x ++ y))) v_there e
          ∙ ap₂ (λ (i j : ℕ). put o at (head_of name house i j ++ (records_raised n t ++ calls_raised n q))) (sym (records_long n t)) (sym (calls_long n q))
          ∙ ap (λ (x : Bytes). put o at (head_of name house (length (records_raised n t)) (length (calls_raised n q)) ++ (records_raised n t ++ x))) (sym (append-nil (calls_raised n q)))
          ∙ ap (put o at) (sym (page_parts n p []))
