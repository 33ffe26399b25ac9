-- An order that is fine is one 85 alone, with all that its writing needs. Main statements: `order_is`, `body_short`, `entries_fit`,
-- `order_html`. Assumes nothing.
use mathlib.Core.Path.{◌≡◌, refl, sym, ap, ◌∙◌, subst}
use Prim.Native.Nat.{ℕ, ◌≤◌}
use native.Mathlib.Omega.{arith}
use mathlib.Core.List.{List}
use lib.Dec.{lit<}
use lib.ListN.{length, take, drop}
use Rattle.std.specs.List.{All}
use Rattle.field.specs.Bytes.{Bytes, AllBytes}
use Rattle.field.specs.Row.{Row, end, Inside, only_bytes, fields_after, counted, counted_front, Next, nothing, no_field, next, next_of, opened, built_by}
use Rattle.field.specs.Front.{tag_of_front, body_of, behind_of, tag_by, behind_by}
use Rattle.field.specs.Fields.{IsFront}
use Rattle.field.proofs.FrontLaws.{sizes, parts_at}
use Rattle.field.proofs.Reading.{step}
use Rattle.field.proofs.RowLaws.{next_nothing}
use Rattle.refusal.specs.Refusal.{Fine}
use Rattle.refusal.specs.declared.Refusal.TheVariants as R
use Rattle.refusal.proofs.Verdicts.{refused}
use Rattle.fill.specs.Html.{html_of}
use Rattle.fill.specs.Order.{held_in_order, read_order, check_order, asked}
use Rattle.fill.specs.Writing.{FillingsFit, OrderFits, html_of_body}
use Rattle.fill.specs.Indexed.{Served}
use Rattle.fill.proofs.AskedLaws.{order_parts}
use Rattle.fill.proofs.Served.{checked_whole}
use Rattle.fill.proofs.FillingLaws.{order_front, this_fits}

row_step : (s : Bytes) → read_order s ≡ built_by held_in_order read_order s (next_of s)
unfolding read_order
row_step s = step held_in_order s

-- the tag, and what lies behind
record Alone (t : ℕ) (r : Bytes) : Type 0 where
  tag_is : t ≡ 0x85
  none_behind : read_order r ≡ end

alone_by : (h : Inside) (t : ℕ) (w r : Bytes) → check_order (opened h read_order t w r) ≡ Fine → Alone t r
unfolding opened
alone_by only_bytes t w r e =
    let p = order_parts t w end (read_order r) e in
    record { tag_is = p.tag_is; none_behind = p.alone }
alone_by (fields_after n) t w r e =
    let p = order_parts t (take n w) (read_order (drop n w)) (read_order r) e in
    record { tag_is = p.tag_is; none_behind = p.alone }
alone_by (counted n) t w r e =
    let p = order_parts t (take (counted_front n w) w) (read_order (drop (counted_front n w) w)) (read_order r) e in
    record { tag_is = p.tag_is; none_behind = p.alone }

-- nothing but no bytes reads as no field
pub no_bytes : (s : Bytes) → read_order s ≡ end → length s ≡ 0
no_bytes s e = on (next_of s) refl (sym (row_step s) ∙ e)
  where
    not_field : (h : Inside) (t : ℕ) (w r : Bytes) → opened h read_order t w r ≡ end → ⊥
    not_field only_bytes t w r z = unfold opened in cc
    not_field (fields_after n) t w r z = unfold opened in cc
    not_field (counted n) t w r z = unfold opened in cc

    on : (n : Next) → next_of s ≡ n → built_by held_in_order read_order s n ≡ end → length s ≡ 0
    on nothing q z = ap length (next_nothing s q)
    on no_field q z = absurd (cc)
    on (next t w r) q z = absurd (not_field (held_in_order t) t w r z)

module _ (s : Bytes) (c : check_order (read_order s) ≡ Fine) where
  alone : (0x85 ≡ tag_of_front s) × (read_order (behind_of s) ≡ end)
  unfolding tag_of_front behind_of
  alone = on (next_of s) (ap check_order (sym (row_step s)) ∙ c)
    where
      on : (n : Next) → check_order (built_by held_in_order read_order s n) ≡ Fine → (0x85 ≡ tag_by n) × (read_order (behind_by n) ≡ end)
      on nothing e = refused R.Truncated (unfold check_order in e)
      on no_field e = refused R.Truncated (unfold check_order in e)
      on (next t w r) e =
          let a = alone_by (held_in_order t) t w r e in
          (sym a.tag_is, a.none_behind)

  not_none : ◌≡◌ {A = ℕ} 0x85 256 → ⊥
  not_none z = omega arith

  pub order_is : IsFront s 0x85 (body_of s) (behind_of s)
  order_is = record { tag_is = alone.0; tag_below = lit< tt; body_is = refl; behind_is = refl; sizes = sizes s 0x85 alone.0 not_none }

  pub body_short : AllBytes s → length (body_of s) ≤ 65535
  body_short a = (parts_at s 0x85 alone.0 not_none a).body_short

  pub order_fits : {found : ℕ → Type 0} → All found (asked (read_order s)) → OrderFits found (body_of s)
  order_fits {found} a =
      let g : FillingsFit found s = record { checked = checked_whole c; all_found = a } in
      (this_fits order_is g).if_order refl

  -- by the entries of an index, and by the body as the code has them
  pub entries_fit : {t t' w : Bytes} {ns ns' ps ps' : List ℕ} → (ns ≡ ns') × (ps ≡ ps') × (t ≡ t') → All (Served t' ns' ps') (asked (read_order s)) → w ≡ body_of s → OrderFits (Served t ns ps) w
  entries_fit {t} {t'} {w} {ns} {ns'} {ps} {ps'} e a q =
      subst (λ (x : List ℕ). OrderFits (Served t x ps) w) (sym e.0)
      (subst (λ (x : List ℕ). OrderFits (Served t ns' x) w) (sym e.1)
      (subst (λ (x : Bytes). OrderFits (Served x ns' ps') w) (sym e.2) (subst (OrderFits (Served t' ns' ps')) (sym q) (order_fits a))))

  pub order_html : (ts : Row) → html_of ts (read_order s) ≡ html_of_body ts (body_of s)
  unfolding html_of html_of_body
  order_html ts = ap (html_of ts) (order_front order_is refl)
