-- The measures of the cycle: the bytes left, three a byte, and within one slice a rank. Assumes nothing.
use borrow.Author.Rules.{rules}
use lib.ListN.{length, length-append}
use Rattle.printing.specs.Front.{front_of}
use mathlib.Core.Path.{refl, sym, ap, ◌∙◌}
use native.Mathlib.Omega.{arith}
use Rattle.field.specs.Row.{read}
use Rattle.field.proofs.PutLaws.{wrote_then, wrote_is, wrote_none}
use Rattle.printing.specs.Card.{first_text, quoted, text_by, prop_name}
use Rattle.printing.proofs.RoomLaws.{left_room, left_on, left_done, room_is}
use Rattle.printing.proofs.ByTag.{all_on, all_ended, behind_on, behind_ended, front_second, first_here, first_ended, first_at, first_bytes, first_quoted, first_number, first_minus, first_spread, first_other, inner_less, parted_on, parted_ended, front_first, text_second, behind_within}
use Rattle.field.specs.Bytes.{Bytes}
use Rattle.page.specs.Tree.{choose}
use Rattle.printing.proofs.expression.+print.Goals as goal

pub print_between-returns : goal.print_between-returns
print_between-returns t c = wrote_then c.put_bytes-a.ensures (wrote_then c.print_parted-b.ensures c.put_bytes.ensures)

pub print_choice-put_quoted-c-requires : goal.print_choice-put_quoted-c-requires
print_choice-put_quoted-c-requires t c = let q = c.first_front.ensures ∙ ap front_of c.behind.ensures ∙ sym (front_second _) in
    simp length-append
    (omega (arith, simp length-append at c.requires, simp length-append at (ap (λ (f : Bytes). length (quoted f)) q), c.print_first-a.ensures.end_is, c.put_bytes-b.ensures.end_is))

pub print_choice-put_bytes-requires : goal.print_choice-put_bytes-requires
print_choice-put_bytes-requires t c = let q = c.first_front.ensures ∙ ap front_of c.behind.ensures ∙ sym (front_second _) in
    let w = wrote_is (ap quoted q) c.put_quoted-c.ensures in
    omega (arith, simp length-append at c.requires, c.print_first-a.ensures.end_is, c.put_bytes-b.ensures.end_is, simp length-append at w.end_is)

pub print_choice-returns : goal.print_choice-returns
print_choice-returns t c = let q = c.first_front.ensures ∙ ap front_of c.behind.ensures ∙ sym (front_second _) in
    let w = wrote_is (ap quoted q) c.put_quoted-c.ensures in
    wrote_then c.print_first-a.ensures (wrote_then c.put_bytes-b.ensures (wrote_then w c.put_bytes.ensures))

pub print_field-put_pointed-requires : goal.print_field-put_pointed-requires
unfolding text_by choose
print_field-put_pointed-requires t c = room_is _ (first_at _ _ c.parts.ensures.front c.parts.ensures.inner 0x41 c.in-65.is) c.requires

pub print_field-put_quoted-requires : goal.print_field-put_quoted-requires
print_field-put_quoted-requires t c = room_is _ (first_quoted _ _ c.parts.ensures.front c.parts.ensures.inner c.in-112.is) c.requires

pub print_field-put_number-requires : goal.print_field-put_number-requires
unfolding text_by choose
print_field-put_number-requires t c = room_is _ (first_number _ _ c.parts.ensures.front c.parts.ensures.inner c.in-113.is) c.requires

pub print_field-put_minus-requires : goal.print_field-put_minus-requires
unfolding text_by choose
print_field-put_minus-requires t c = room_is _ (first_minus _ _ c.parts.ensures.front c.parts.ensures.inner c.in-117.is) c.requires

pub print_field-print_between-requires : goal.print_field-print_between-requires
unfolding text_by choose
print_field-print_between-requires t c = (omega (arith, inner_less _ _ c.parts.ensures.front c.parts.ensures.inner, c.decreases), room_is _ (first_at _ _ c.parts.ensures.front c.parts.ensures.inner 0x76 c.in-118.is) c.requires)

pub print_field-print_spread-requires : goal.print_field-print_spread-requires
print_field-print_spread-requires t c = (omega (arith, inner_less _ _ c.parts.ensures.front c.parts.ensures.inner, c.decreases), room_is _ (first_spread _ _ c.parts.ensures.front c.parts.ensures.inner c.in-83.is) c.requires)

pub print_field-print_all-requires : goal.print_field-print_all-requires
unfolding text_by choose
print_field-print_all-requires t c = (omega (arith, inner_less _ _ c.parts.ensures.front c.parts.ensures.inner, c.decreases), room_is _ (first_at _ _ c.parts.ensures.front c.parts.ensures.inner 0x79 c.in-121.is) c.requires)

pub print_field-print_template-requires : goal.print_field-print_template-requires
unfolding text_by choose
print_field-print_template-requires t c = (omega (arith, inner_less _ _ c.parts.ensures.front c.parts.ensures.inner, c.decreases), room_is _ (first_at _ _ c.parts.ensures.front c.parts.ensures.inner 0x90 c.in-144.is) c.requires)

pub print_field-print_between-requires-in-145 : goal.print_field-print_between-requires-in-145
unfolding text_by choose
print_field-print_between-requires-in-145 t c = (omega (arith, inner_less _ _ c.parts.ensures.front c.parts.ensures.inner, c.decreases), room_is _ (first_at _ _ c.parts.ensures.front c.parts.ensures.inner 0x91 c.in-145.is) c.requires)

pub print_field-print_between-requires-in-146 : goal.print_field-print_between-requires-in-146
unfolding text_by choose
print_field-print_between-requires-in-146 t c = (omega (arith, inner_less _ _ c.parts.ensures.front c.parts.ensures.inner, c.decreases), room_is _ (first_at _ _ c.parts.ensures.front c.parts.ensures.inner 0x92 c.in-146.is) c.requires)

pub print_field-print_choice-requires : goal.print_field-print_choice-requires
unfolding text_by choose
print_field-print_choice-requires t c = (omega (arith, inner_less _ _ c.parts.ensures.front c.parts.ensures.inner, c.decreases), room_is _ (first_at _ _ c.parts.ensures.front c.parts.ensures.inner 0x93 c.in-147.is) c.requires)

pub print_field-print_between-requires-in-148 : goal.print_field-print_between-requires-in-148
unfolding text_by choose
print_field-print_between-requires-in-148 t c = (omega (arith, inner_less _ _ c.parts.ensures.front c.parts.ensures.inner, c.decreases), room_is _ (first_at _ _ c.parts.ensures.front c.parts.ensures.inner 0x94 c.in-148.is) c.requires)

pub print_field-print_between-requires-in-149 : goal.print_field-print_between-requires-in-149
unfolding text_by choose
print_field-print_between-requires-in-149 t c = (omega (arith, inner_less _ _ c.parts.ensures.front c.parts.ensures.inner, c.decreases), room_is _ (first_at _ _ c.parts.ensures.front c.parts.ensures.inner 0x95 c.in-149.is) c.requires)

pub print_field-print_prop-requires : goal.print_field-print_prop-requires
unfolding text_by choose
print_field-print_prop-requires t c = (omega (arith, inner_less _ _ c.parts.ensures.front c.parts.ensures.inner, c.decreases), room_is _ (first_at _ _ c.parts.ensures.front c.parts.ensures.inner 0x96 c.in-150.is) c.requires)

pub print_field-returns-in-32 : goal.print_field-returns-in-32
print_field-returns-in-32 t c = wrote_is (sym (first_bytes _ _ c.parts.ensures.front c.parts.ensures.inner c.in-32.is)) c.put_bytes.ensures

pub print_field-returns-in-65 : goal.print_field-returns-in-65
unfolding text_by choose
print_field-returns-in-65 t c = wrote_is (sym (first_at _ _ c.parts.ensures.front c.parts.ensures.inner 0x41 c.in-65.is)) c.put_pointed.ensures

pub print_field-returns-in-112 : goal.print_field-returns-in-112
print_field-returns-in-112 t c = wrote_is (sym (first_quoted _ _ c.parts.ensures.front c.parts.ensures.inner c.in-112.is)) c.put_quoted.ensures

pub print_field-returns-in-113 : goal.print_field-returns-in-113
unfolding text_by choose
print_field-returns-in-113 t c = wrote_is (sym (first_number _ _ c.parts.ensures.front c.parts.ensures.inner c.in-113.is)) c.put_number.ensures

pub print_field-returns-in-114 : goal.print_field-returns-in-114
unfolding text_by choose
print_field-returns-in-114 t c = wrote_is (sym (first_at _ _ c.parts.ensures.front c.parts.ensures.inner 0x72 c.in-114.is)) c.put_boolean.ensures

pub print_field-returns-in-115 : goal.print_field-returns-in-115
unfolding text_by choose
print_field-returns-in-115 t c = wrote_is (sym (first_at _ _ c.parts.ensures.front c.parts.ensures.inner 0x73 c.in-115.is)) c.put_bytes-in-115.ensures

pub print_field-returns-in-117 : goal.print_field-returns-in-117
unfolding text_by choose
print_field-returns-in-117 t c = wrote_is (sym (first_minus _ _ c.parts.ensures.front c.parts.ensures.inner c.in-117.is)) c.put_minus.ensures

pub print_field-returns-in-118 : goal.print_field-returns-in-118
unfolding text_by choose
print_field-returns-in-118 t c = wrote_is (sym (first_at _ _ c.parts.ensures.front c.parts.ensures.inner 0x76 c.in-118.is)) c.print_between.ensures

pub print_field-returns-in-83 : goal.print_field-returns-in-83
print_field-returns-in-83 t c = wrote_is (sym (first_spread _ _ c.parts.ensures.front c.parts.ensures.inner c.in-83.is)) c.print_spread.ensures

pub print_field-returns-in-121 : goal.print_field-returns-in-121
unfolding text_by choose
print_field-returns-in-121 t c = wrote_is (sym (first_at _ _ c.parts.ensures.front c.parts.ensures.inner 0x79 c.in-121.is)) c.print_all.ensures

pub print_field-returns-in-144 : goal.print_field-returns-in-144
unfolding text_by choose
print_field-returns-in-144 t c = wrote_is (sym (first_at _ _ c.parts.ensures.front c.parts.ensures.inner 0x90 c.in-144.is)) c.print_template.ensures

pub print_field-returns-in-145 : goal.print_field-returns-in-145
unfolding text_by choose
print_field-returns-in-145 t c = wrote_is (sym (first_at _ _ c.parts.ensures.front c.parts.ensures.inner 0x91 c.in-145.is)) c.print_between-in-145.ensures

pub print_field-returns-in-146 : goal.print_field-returns-in-146
unfolding text_by choose
print_field-returns-in-146 t c = wrote_is (sym (first_at _ _ c.parts.ensures.front c.parts.ensures.inner 0x92 c.in-146.is)) c.print_between-in-146.ensures

pub print_field-returns-in-147 : goal.print_field-returns-in-147
unfolding text_by choose
print_field-returns-in-147 t c = wrote_is (sym (first_at _ _ c.parts.ensures.front c.parts.ensures.inner 0x93 c.in-147.is)) c.print_choice.ensures

pub print_field-returns-in-148 : goal.print_field-returns-in-148
unfolding text_by choose
print_field-returns-in-148 t c = wrote_is (sym (first_at _ _ c.parts.ensures.front c.parts.ensures.inner 0x94 c.in-148.is)) c.print_between-in-148.ensures

pub print_field-returns-in-149 : goal.print_field-returns-in-149
unfolding text_by choose
print_field-returns-in-149 t c = wrote_is (sym (first_at _ _ c.parts.ensures.front c.parts.ensures.inner 0x95 c.in-149.is)) c.print_between-in-149.ensures

pub print_field-returns-in-150 : goal.print_field-returns-in-150
unfolding text_by choose
print_field-returns-in-150 t c = wrote_is (sym (first_at _ _ c.parts.ensures.front c.parts.ensures.inner 0x96 c.in-150.is)) c.print_prop.ensures

pub print_field-returns-in_default : goal.print_field-returns-in_default
print_field-returns-in_default t c = wrote_is (sym (first_other _ _ (λ z. search rules) (λ z. search rules) (λ z. search rules) (λ z. search rules) (λ z. search rules) (λ z. search rules) (λ z. search rules) (λ z. search rules) (λ z. search rules) (λ z. search rules) (λ z. search rules) (λ z. search rules) (λ z. search rules) (λ z. search rules) (λ z. search rules) (λ z. search rules) (λ z. search rules))) (wrote_none _ _)

pub print_prop-put_prop_name-a-requires : goal.print_prop-put_prop_name-a-requires
print_prop-put_prop_name-a-requires t c = let q = ap (λ (f : Bytes). length (prop_name f)) (c.first_front.ensures ∙ sym (front_first _)) in
    omega (arith, simp length-append at c.requires, q)

pub print_prop-put_bytes-b-requires : goal.print_prop-put_bytes-b-requires
print_prop-put_bytes-b-requires t c = let w = wrote_is (ap prop_name (c.first_front.ensures ∙ sym (front_first _))) c.put_prop_name-a.ensures in
    omega (arith, simp length-append at c.requires, w.end_is)

pub print_prop-print_first-requires : goal.print_prop-print_first-requires
print_prop-print_first-requires t c = let w = wrote_is (ap prop_name (c.first_front.ensures ∙ sym (front_first _))) c.put_prop_name-a.ensures in
    let q = c.behind.ensures in let l = ap length (ap (λ (b : Bytes). first_text (read b)) q ∙ sym (text_second _)) in
    (omega (arith, behind_within _ q, c.decreases), omega (arith, simp length-append at c.requires, l, w.end_is, c.put_bytes-b.ensures.end_is))

pub print_prop-returns : goal.print_prop-returns
print_prop-returns t c = let w = wrote_is (ap prop_name (c.first_front.ensures ∙ sym (front_first _))) c.put_prop_name-a.ensures in
    let v = wrote_is (ap (λ (b : Bytes). first_text (read b)) c.behind.ensures ∙ sym (text_second _)) c.print_first.ensures in
    wrote_then w (wrote_then c.put_bytes-b.ensures v)

pub print_spread-returns : goal.print_spread-returns
print_spread-returns t c = wrote_then c.put_bytes-a.ensures c.print_first.ensures

pub print_template-returns : goal.print_template-returns
print_template-returns t c = wrote_then c.put_bytes-a.ensures (wrote_then c.put_template_name-b.ensures (wrote_then c.print_behind-c.ensures c.put_byte.ensures))

pub print_first-print_field-requires : goal.print_first-print_field-requires
print_first-print_field-requires t c = let f = c.in-Some.ensures in (omega (arith, c.decreases, f.sizes), room_is _ (first_here _ f.tag_is f.body_is) c.requires)

pub print_first-returns-in-Some : goal.print_first-returns-in-Some
print_first-returns-in-Some t c = let f = c.in-Some.ensures in wrote_is (sym (first_here _ f.tag_is f.body_is)) c.print_field.ensures

pub print_first-returns-in-None : goal.print_first-returns-in-None
print_first-returns-in-None t c = wrote_is (sym (first_ended _ c.in-None.ensures.ended)) (wrote_none _ _)

pub print_all-print_field-a-requires : goal.print_all-print_field-a-requires
print_all-print_field-a-requires t c = let i = c.loop-field.invariant in let f = c.in-Some.ensures.steps in (omega (arith, i.0, f.sizes, c.decreases), left_room i.1 _ _ (all_on f))

pub print_all-loop-field-preserved : goal.print_all-loop-field-preserved
print_all-loop-field-preserved t c = let i = c.loop-field.invariant in let f = c.in-Some.ensures.steps in (omega (arith, i.0, f.sizes), left_on i.1 (all_on f) c.print_field-a.ensures)

pub print_all-returns : goal.print_all-returns
print_all-returns t c = left_done c.loop-field.invariant.1 (all_ended _ c.in-None.ensures.steps.ended)

pub print_behind-print_field-a-requires : goal.print_behind-print_field-a-requires
print_behind-print_field-a-requires t c =
    let i = c.loop-field.invariant in
    let f = c.in-Some.ensures.steps in
    (omega (arith, i.0, f.sizes, c.decreases), left_room (left_on i.1 (behind_on f) c.put_bytes-b.ensures) _ _ refl)

pub print_behind-loop-field-preserved : goal.print_behind-loop-field-preserved
print_behind-loop-field-preserved t c =
    let i = c.loop-field.invariant in
    let f = c.in-Some.ensures.steps in
    (omega (arith, i.0, f.sizes), left_on (left_on i.1 (behind_on f) c.put_bytes-b.ensures) refl c.print_field-a.ensures)

pub print_behind-returns : goal.print_behind-returns
print_behind-returns t c = left_done c.loop-field.invariant.1 (behind_ended _ c.in-None.ensures.steps.ended)

pub print_parted-returns-in_default : goal.print_parted-returns-in_default
print_parted-returns-in_default t c = wrote_is (sym (parted_ended _ c.in_default.ensures.steps.ended)) (wrote_none _ _)

pub print_parted-print_field-a-requires : goal.print_parted-print_field-a-requires
print_parted-print_field-a-requires t c = let f = c.in-Some.ensures.steps in (omega (arith, f.sizes, c.decreases), omega (arith, simp length-append at (room_is _ (parted_on f) c.requires)))

pub print_parted-print_behind-requires : goal.print_parted-print_behind-requires
print_parted-print_behind-requires t c = let f = c.in-Some.ensures.steps in (omega (arith, f.sizes, c.decreases), omega (arith, simp length-append at (room_is _ (parted_on f) c.requires), c.print_field-a.ensures.end_is))

pub print_parted-returns : goal.print_parted-returns
print_parted-returns t c = wrote_is (sym (parted_on c.in-Some.ensures.steps)) (wrote_then c.print_field-a.ensures c.print_behind.ensures)
