-- 01's worked card, from the page to the text, and other texts by computation.
-- Main statements: `worked`, `calls`, `quotes`, `refusals`. Assumes nothing.
use mathlib.Core.Path.{◌≡◌, refl, sym, ap, ◌∙◌}
use mathlib.Core.List.{[], ◌∷◌, ◌++◌}
use Rattle.field.specs.Bytes.{ascii}
use Rattle.field.specs.Number.{big_endian, number_from}
use Rattle.field.specs.Row.{field_bytes, inside, next_of, opened, built, read_from, read}
use Rattle.page.specs.Number.{render, number_in}
use Rattle.text.specs.Decimal.{digits, decimal}
use Rattle.page.specs.Tree.{choose, boolean_in}
use Rattle.refusal.specs.Refusal.{refusal_number}
use Rattle.refusal.specs.declared.Refusal.TheVariants as R
use Rattle.spec.specs.Answer.{Outcome, refused, accepted, number}
use Rattle.spec.specs.Marks.{Reply, reply, fld, AllHold}
use Rattle.spec.proofs.Export.{zero_written}
use Rattle.spec.proofs.Marks.{k_table}
use Rattle.printing.specs.Card.{quoted_byte, quoted_bytes, quoted, goes_on, is_identifier, pointed_more, pointed, text_by, all_text, parted_text, behind_text, first_text, second_text, helper_text, helpers_text, import_text, templates_text, page_text, card_text, card}

-- the text of both outputs of the worked page
worked_text :
    page_text (read (fld 0x84 ((0 ∷ 0 ∷ 0 ∷ 1 ∷ []) ++ ((0 ∷ 1 ∷ 2 ∷ []) ++ (fld 0x81 (ascii "<p class=\"t\">Hi ") ++ fld 0x81 (ascii "</p>"))))))
    (read (fld 0x82 (fld 0x81 (ascii "react/jsx-runtime") ++ (10 ∷ [])) ++ (fld 0x83 [] ++ fld 0x12 (fld 0x20 (ascii "const a = ") ++ (fld 0x90 ((0 ∷ 0 ∷ 0 ∷ 1 ∷ []) ++ fld 0x92 (fld 0x79 (fld 0x20 (ascii "n")))) ++ fld 0x20 (ascii ";"))))))
    ≡ (ascii "import { jsxTemplate as _jsxTemplate, jsxEscape as _jsxEscape } from \"react/jsx-runtime\";" ++ (10 ∷ (ascii "const $$_tpl_1 = [\"<p class=\\\"t\\\">Hi \", \"</p>\"];" ++ (10 ∷ (ascii "const a = _jsxTemplate($$_tpl_1, _jsxEscape(n));" ++ (10 ∷ []))))))
unfolding big_endian number_from field_bytes inside next_of opened built read_from read digits decimal render number_in choose boolean_in quoted_byte quoted_bytes goes_on is_identifier pointed_more pointed text_by all_text parted_text behind_text first_text second_text helper_text helpers_text import_text templates_text page_text
worked_text = refl

-- a row of the table of marks with number 0 says what is printed of its page
reply_text : (x : Outcome) (m : Reply) → reply x ≡ m → m.number ≡ 0 → card_text x ≡ page_text (read m.templates_out) (read m.page_out)
unfolding reply card_text
reply_text x m e z =
    let k = zero_written x (reply_number x ∙ ap (λ (r : Reply). r.number) e ∙ z) in
    ap card_text k.1 ∙ ap (λ (r : Reply). page_text (read r.templates_out) (read r.page_out)) (sym (ap reply k.1) ∙ e)
  where
    reply_number : (x : Outcome) → number x ≡ (reply x).number
    reply_number (refused n) = refl
    reply_number (accepted w) = refl

-- 01's worked card: const a = <p class="t">Hi {n}</p>; by its row of the table of marks, the eighteenth, so that the transform is not
-- computed again
pub worked :
    card (fld 0x01 (fld 0x12 (fld 0x20 (ascii "const a = ") ++ (fld 0x30 (fld 0x40 (ascii "p") ++ (fld 0x50 (fld 0x40 (ascii "class") ++ fld 0x51 (ascii "t")) ++ (fld 0x60 (ascii "Hi ") ++ fld 0x52 (fld 0x79 (fld 0x20 (ascii "n")))))) ++ fld 0x20 (ascii ";")))))
    ≡ (ascii "import { jsxTemplate as _jsxTemplate, jsxEscape as _jsxEscape } from \"react/jsx-runtime\";" ++ (10 ∷ (ascii "const $$_tpl_1 = [\"<p class=\\\"t\\\">Hi \", \"</p>\"];" ++ (10 ∷ (ascii "const a = _jsxTemplate($$_tpl_1, _jsxEscape(n));" ++ (10 ∷ []))))))
unfolding card AllHold
worked = reply_text _ _ k_table.1.1.1.1.1.1.1.1.1.1.1.1.1.1.1.1.1.0 refl ∙ worked_text

-- a call with properties, a spread, a hole, a member and a key; a choice and an attribute
pub calls :
    all_text
    (read
    (fld 0x94 (fld 0x41 (fld 0x40 (ascii "a") ++ fld 0x40 (ascii "b")) ++ (fld 0x95 (fld 0x96 (fld 0x81 (ascii "class") ++ fld 0x72 (1 ∷ [])) ++ (fld 0x96 (fld 0x81 (ascii "data-x") ++ fld 0x75 (0 ∷ 0 ∷ 0 ∷ 0 ∷ 0 ∷ 0 ∷ 1 ∷ 0 ∷ [])) ++ (fld 0x53 (fld 0x74 (ascii "/r/")) ++ fld 0x96 (fld 0x81 (ascii "children") ++ fld 0x76 (fld 0x78 [] ++ fld 0x77 (fld 0x79 (fld 0x20 (ascii "z")))))))) ++ fld 0x70 (ascii "k")))
    ++ (fld 0x93 (fld 0x79 (fld 0x20 (ascii "f")) ++ fld 0x81 (ascii "disabled")) ++ fld 0x91 (fld 0x81 (ascii "id") ++ fld 0x73 []))))
    ≡ ascii "_jsx(a.b, { class: true, \"data-x\": -256, .../r/, children: [, ...z] }, \"k\")f ? \"disabled\" : \"\"_jsxAttr(\"id\", null)"
unfolding big_endian number_from field_bytes inside next_of opened built read_from read digits decimal render number_in choose boolean_in quoted_byte quoted_bytes goes_on is_identifier pointed_more pointed text_by all_text parted_text behind_text first_text second_text
calls = refl

-- `\"`, `\\`, `\n`, `\r`, and other bytes as `\x` and two small hex digits
pub quotes : quoted (34 ∷ 92 ∷ 10 ∷ 13 ∷ 0 ∷ 31 ∷ 127 ∷ 32 ∷ 195 ∷ []) ≡ (34 ∷ (ascii "\\\"\\\\\\n\\r\\x00\\x1f\\x7f " ++ (195 ∷ 34 ∷ [])))
unfolding quoted_byte quoted_bytes
quotes = refl

-- a refusal prints its number and LF
pub refusals : card_text (refused R.PageTooSmall) ≡ (ascii "13" ++ (10 ∷ []))
unfolding card_text refusal_number digits decimal
refusals = refl
