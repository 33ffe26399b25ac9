-- `html::put_low` meets its contract: each arm writes what the definition gives for its byte. Assumes nothing.
use mathlib.Core.Path.{refl, sym, ap}
use native.Mathlib.Omega.{arith}
use borrow.Author.Tests.{ne_eqb}
use Rattle.field.specs.Bytes.{Bytes}
use Rattle.field.proofs.PutLaws.{wrote_is, put_one}
use Rattle.text.specs.Escape.{escape_byte}
use Rattle.text.proofs.EscapeLaws.{escape_other}
use Rattle.fill.proofs.html.put_low.Goals as goal

pub returns-in-38 : goal.returns-in-38
unfolding escape_byte
returns-in-38 c = wrote_is (sym (ap {B = Bytes} escape_byte c.in-38.is)) c.put_string.ensures

pub returns-in-60 : goal.returns-in-60
unfolding escape_byte
returns-in-60 c = wrote_is (sym (ap {B = Bytes} escape_byte c.in-60.is)) c.put_string-in-60.ensures

pub returns-in-62 : goal.returns-in-62
unfolding escape_byte
returns-in-62 c = wrote_is (sym (ap {B = Bytes} escape_byte c.in-62.is)) c.put_string-in-62.ensures

pub returns-in-39 : goal.returns-in-39
unfolding escape_byte
returns-in-39 c = wrote_is (sym (ap {B = Bytes} escape_byte c.in-39.is)) c.put_string-in-39.ensures

pub returns-in-34 : goal.returns-in-34
unfolding escape_byte
returns-in-34 c = wrote_is (sym (ap {B = Bytes} escape_byte c.in-34.is)) c.put_string-in-34.ensures

pub returns-in_default : goal.returns-in_default
returns-in_default c =
    let m = c.in_default.in_default-own in
    wrote_is (sym (escape_other c.args.b (ne_eqb _ _ m.rest.0.0.0.0.1) (ne_eqb _ _ m.rest.0.0.0.1) (ne_eqb _ _ m.rest.0.0.1) (ne_eqb _ _ m.rest.0.1) (ne_eqb _ _ m.rest.1)))
    record { out_is = sym (put_one c.args.out.now c.args.at c.args.b (omega (arith, c.requires))); end_is = refl }
