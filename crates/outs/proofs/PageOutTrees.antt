-- A page out is accepted exactly from the bytes of a tree, and no two trees have the same.
-- Main statements: `page_out_exactly`, `page_out_accepted`, `encode_page_out_injective`. Assumes nothing.
use mathlib.Core.Path.{◌≡◌, refl, sym, ap, ◌∙◌, subst}
use mathlib.Core.Logic.{◌↔◌}
use Prim.Native.Nat.{ℕ}
use Rattle.field.specs.Bytes.{Bytes, AllBytes}
use Rattle.field.specs.Row.{bytes}
use Rattle.field.proofs.Reading as Q
use Rattle.refusal.specs.Refusal.{Fine}
use Rattle.outs.specs.Held.{held, read_out}
use Rattle.outs.specs.PageOut.{good, check_page_out}
use Rattle.outs.specs.Tree.{PageOut}
use Rattle.outs.specs.Encode.{Sayable, page_out_row, encode_page_out, PageOutOk}
use Rattle.outs.specs.declared.Expect.TheVariants as E
use Rattle.outs.proofs.Parts.{sayable}
use Rattle.outs.proofs.OutItems.{page_out_sound}
use Rattle.outs.proofs.OutRow.{page_out_shaped, page_out_sane}
use Rattle.outs.proofs.OutWhole.{page_out_in, page_out_whole, page_out_back}

-- the width of a call's number
module _ (width : ℕ) where
  -- exactly the bytes of trees are accepted
  pub page_out_exactly : (b : Bytes) → AllBytes b → (check_page_out width b ≡ Fine) ↔ ((p : PageOut) × (b ≡ encode_page_out width p) × PageOutOk width p)
  unfolding check_page_out read_out encode_page_out PageOutOk
  page_out_exactly b a = (
    λ e.
        let m = page_out_sound width (read_out width b) (Q.sane (held width) b a) e in
        (m.0, sym (Q.written (held width) b a) ∙ ap bytes (sym m.1), (m.2, subst Sayable (sym m.1) (sayable (read_out width b) (Q.short (held width) b a)))),
    λ q.
        let h = q.2 in
        let is : read_out width b ≡ page_out_row width q.0 = ap (read_out width) q.1 ∙ Q.back (held width) (page_out_row width q.0) (page_out_shaped width q.0 h.0) h.1 in
        ap (good width E.Whole) is ∙ page_out_whole width q.0 h.0 h.1,
  )

  -- a tree's bytes are bytes, and accepted
  pub page_out_accepted : (p : PageOut) → PageOutOk width p → AllBytes (encode_page_out width p) × (check_page_out width (encode_page_out width p) ≡ Fine)
  page_out_accepted p h =
      let a : AllBytes (encode_page_out width p) = unfold encode_page_out PageOutOk in Q.all_bytes (held width) (page_out_row width p) (page_out_sane width p h.0) in
      (a, (page_out_exactly (encode_page_out width p) a).1 (p, refl, h))

  -- accepted bytes have one tree
  pub encode_page_out_injective : (p q : PageOut) → PageOutOk width p → PageOutOk width q → encode_page_out width p ≡ encode_page_out width q → p ≡ q
  unfolding encode_page_out PageOutOk
  encode_page_out_injective p q h i e =
      let rows : page_out_row width p ≡ page_out_row width q = Q.injective (held width) (page_out_row width p) (page_out_row width q) (page_out_shaped width p h.0) h.1 (page_out_shaped width q i.0) i.1 e in
      sym (page_out_back width p h.0 h.1) ∙ ap page_out_in rows ∙ page_out_back width q i.0 i.1
