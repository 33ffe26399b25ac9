-- `text::escape::put_escape` meets its contract: each arm writes what the definition gives for its byte. Assumes nothing.
use native.Mathlib.Omega.{arith}
use mathlib.Core.Path.{◌≡◌, sym, ap}
use Prim.Native.Nat.{ℕ}
use lib.ListN.{length}
use borrow.Author.Tests.{ne_eqb}
use Rattle.field.specs.Bytes.{Bytes}
use Rattle.field.proofs.PutLaws.{wrote_is}
use Rattle.text.specs.Escape.{escape_byte}
use Rattle.text.proofs.EscapeLaws.{escape_other}
use Rattle.text.proofs.escape.put_escape.Goals as goal

pub put_array-requires : goal.put_array-requires
unfolding escape_byte
put_array-requires c = let args = c.args in let e : length (escape_byte args.b) ≡ 5 = ap (λ (x : ℕ). length (escape_byte x)) c.in-38.is in
    omega arith

pub put_array-requires-in-60 : goal.put_array-requires-in-60
unfolding escape_byte
put_array-requires-in-60 c = let args = c.args in let e : length (escape_byte args.b) ≡ 4 = ap (λ (x : ℕ). length (escape_byte x)) c.in-60.is in
    omega arith

pub put_array-requires-in-62 : goal.put_array-requires-in-62
unfolding escape_byte
put_array-requires-in-62 c = let args = c.args in let e : length (escape_byte args.b) ≡ 4 = ap (λ (x : ℕ). length (escape_byte x)) c.in-62.is in
    omega arith

pub put_array-requires-in-39 : goal.put_array-requires-in-39
unfolding escape_byte
put_array-requires-in-39 c = let args = c.args in let e : length (escape_byte args.b) ≡ 5 = ap (λ (x : ℕ). length (escape_byte x)) c.in-39.is in
    omega arith

pub put_array-requires-in-34 : goal.put_array-requires-in-34
unfolding escape_byte
put_array-requires-in-34 c = let args = c.args in let e : length (escape_byte args.b) ≡ 6 = ap (λ (x : ℕ). length (escape_byte x)) c.in-34.is in
    omega arith

pub put_byte-requires : goal.put_byte-requires
put_byte-requires c = let args = c.args in let match = c.in_default.in_default-own in let e : length (escape_byte args.b) ≡ 1 = ap {B = ℕ} length (escape_other args.b (ne_eqb _ _ match.rest.0.0.0.0.1) (ne_eqb _ _ match.rest.0.0.0.1) (ne_eqb _ _ match.rest.0.0.1) (ne_eqb _ _ match.rest.0.1) (ne_eqb _ _ match.rest.1)) in
    omega arith

pub returns-in-38 : goal.returns-in-38
unfolding escape_byte
returns-in-38 c = wrote_is (sym (ap {B = Bytes} escape_byte c.in-38.is)) c.put_array.ensures

pub returns-in-60 : goal.returns-in-60
unfolding escape_byte
returns-in-60 c = wrote_is (sym (ap {B = Bytes} escape_byte c.in-60.is)) c.put_array-in-60.ensures

pub returns-in-62 : goal.returns-in-62
unfolding escape_byte
returns-in-62 c = wrote_is (sym (ap {B = Bytes} escape_byte c.in-62.is)) c.put_array-in-62.ensures

pub returns-in-39 : goal.returns-in-39
unfolding escape_byte
returns-in-39 c = wrote_is (sym (ap {B = Bytes} escape_byte c.in-39.is)) c.put_array-in-39.ensures

pub returns-in-34 : goal.returns-in-34
unfolding escape_byte
returns-in-34 c = wrote_is (sym (ap {B = Bytes} escape_byte c.in-34.is)) c.put_array-in-34.ensures

pub returns-in_default : goal.returns-in_default
returns-in_default c = let args = c.args in let match = c.in_default.in_default-own in wrote_is (sym (escape_other args.b (ne_eqb _ _ match.rest.0.0.0.0.1) (ne_eqb _ _ match.rest.0.0.0.1) (ne_eqb _ _ match.rest.0.0.1) (ne_eqb _ _ match.rest.0.1) (ne_eqb _ _ match.rest.1))) c.put_byte.ensures
