-- `put_attr_name` meets its contract: className, plain names, those of the table, and all others, with a sign and without.
use mathlib.Core.Path.{◌≡◌, sym, ap, ◌∙◌}
use mathlib.Core.Bool.{true}
use native.Mathlib.Omega.{arith}
use lib.ListN.{length}
use Prim.Native.Nat.{ℕ}
use Rattle.std.specs.Prelude.{Option, Some}
use Rattle.field.specs.Bytes.{Bytes}
use Rattle.field.proofs.PutLaws.{wrote_is}
use Rattle.text.specs.Escape.{escape_byte, escape_html}
use Rattle.names.specs.Names.{normalize_dom_attr_name}
use Rattle.names.specs.Table.{plain_name, by_mark, told}
use Rattle.names.proofs.NormalizeLaws.{normalize_class_name, normalize_plain}
use Rattle.names.proofs.MarkLaws.{told_some, unmarked}
use Rattle.names.proofs.EscapedLaws.{plain_escaped, escaped_normalize}
use Rattle.names.proofs.escaped.put_attr_name.Goals as goal

-- a plain name stays as it is
plain_is : (n : Bytes) → plain_name n ≡ true → n ≡ escape_html (normalize_dom_attr_name n)
plain_is n h = sym (ap escape_html (normalize_plain n h) ∙ plain_escaped n h)

-- a name of the table becomes what its mark says
marked_is : (o : Option ℕ) (m : ℕ) (n : Bytes) → o ≡ Some m → by_mark o n ≡ normalize_dom_attr_name n → told o n ≡ true → by_mark (Some m) n ≡ escape_html (normalize_dom_attr_name n)
marked_is o m n h e t =
    ap (λ (x : Option ℕ). by_mark x n) (sym h) ∙ e ∙ sym (escaped_normalize n (told_some m n (ap (λ (x : Option ℕ). told x n) (sym h) ∙ t)))

pub put_short-requires : goal.put_short-requires
put_short-requires c = omega (arith, ap length (plain_is c.args.name.now (sym c.is_plain.ensures ∙ c.if-is_plain.true)))

pub put_short-requires-then-is_plain-2 : goal.put_short-requires-then-is_plain-2
put_short-requires-then-is_plain-2 c = omega (arith, ap length (plain_is c.args.name.now (sym c.is_plain-in-None.ensures ∙ c.if-is_plain-2.true)))

pub put_marked-requires : goal.put_marked-requires
put_marked-requires c =
    (omega (arith, ap length (marked_is _ c.in-Some.mark c.args.name.now c.in-Some.is c.find_mark.ensures.0 c.find_mark.ensures.1)), ap (λ (x : Option ℕ). told x c.args.name.now) (sym c.in-Some.is) ∙ c.find_mark.ensures.1)

pub put_spelled-requires : goal.put_spelled-requires
put_spelled-requires c = let n = c.args.name.now in
    omega (arith, ap length (unmarked _ n c.in-None.is c.find_mark.ensures.0 ∙ sym (escaped_normalize n (sym c.is_escaped.ensures ∙ c.if-is_escaped.true))))

pub returns-then-same_bytes : goal.returns-then-same_bytes
unfolding escape_html escape_byte
returns-then-same_bytes c = let e = normalize_class_name c.args.name.now (sym c.same_bytes.ensures ∙ c.if-same_bytes.true) in
    wrote_is (sym (ap escape_html e)) c.put_bytes.ensures

pub returns-then-is_plain : goal.returns-then-is_plain
returns-then-is_plain c = wrote_is (plain_is c.args.name.now (sym c.is_plain.ensures ∙ c.if-is_plain.true)) c.put_short.ensures

pub returns-then-is_plain-2 : goal.returns-then-is_plain-2
returns-then-is_plain-2 c = wrote_is (plain_is c.args.name.now (sym c.is_plain-in-None.ensures ∙ c.if-is_plain-2.true)) c.put_short-then-is_plain-2.ensures

pub returns-in-Some : goal.returns-in-Some
returns-in-Some c = wrote_is (marked_is _ c.in-Some.mark c.args.name.now c.in-Some.is c.find_mark.ensures.0 c.find_mark.ensures.1) c.put_marked.ensures

pub returns-then-is_escaped : goal.returns-then-is_escaped
returns-then-is_escaped c = let n = c.args.name.now in
    wrote_is (unmarked _ n c.in-None.is c.find_mark.ensures.0 ∙ sym (escaped_normalize n (sym c.is_escaped.ensures ∙ c.if-is_escaped.true))) c.put_spelled.ensures
