-- `read_tag::texts::decode` meets its contract. Assumes nothing.
use native.Mathlib.Omega.{arith}
use borrow.Author.Rules.{rules}
use mathlib.Core.Path.{sym, ◌∙◌}
use Rattle.read_tag.proofs.TextLaws.{decoding_none, decoding_plain, entity_further, decoding_entity, decoding_barred, decoding_ends, decoding_out}
use Rattle.read_tag.proofs.texts.decode.Goals as goal

pub loop-entity-init : goal.loop-entity-init
loop-entity-init c = decoding_none _ _ _ _ _ (search rules)

pub returns-in_default : goal.returns-in_default
returns-in_default c =
    let u = decoding_plain _ _ _ _ _ c.loop-entity.invariant c.plain_end-e.ensures c.put_bytes-b.ensures in
    let h = rw c.in_default.is at c.get.ensures.lookup in
    decoding_ends _ _ _ _ _ u c.plain_end-e.ensures h.3.0 (λ z. c.in_default.field-0-test.1 (let p = h.3.1 0 ∙ z in search (rules, p)))

pub returns-in_default-2 : goal.returns-in_default-2
returns-in_default-2 c =
    let u = decoding_plain _ _ _ _ _ c.loop-entity.invariant c.plain_end-e.ensures c.put_bytes-b.ensures in
    let h = rw c.in_default.is at c.get.ensures.lookup in
    decoding_out _ _ _ _ _ u h.3

pub returns-in_err-entity : goal.returns-in_err-entity
returns-in_err-entity c = rw c.from_residual.ensures (decoding_barred _ _ _ _ _ (decoding_plain _ _ _ _ _ c.loop-entity.invariant c.plain_end-e.ensures c.put_bytes-b.ensures) c.in-Some-eq38.ensures.lookup.3.0 (sym (c.in-Some-eq38.ensures.lookup.3.1 0) ∙ c.in-Some-eq38.field-0-test) _ c.read_entity.ensures c.in_err-entity.was)

pub loop-entity-smaller : goal.loop-entity-smaller
loop-entity-smaller c = let f = entity_further _ _ _ c.read_entity.ensures c.in_ok-entity.was in
    omega (arith, f.0, f.1, c.plain_end-e.ensures.after)

pub loop-entity-preserved : goal.loop-entity-preserved
loop-entity-preserved c = decoding_entity _ _ _ _ _ (decoding_plain _ _ _ _ _ c.loop-entity.invariant c.plain_end-e.ensures c.put_bytes-b.ensures) c.in-Some-eq38.ensures.lookup.3.0 (sym (c.in-Some-eq38.ensures.lookup.3.1 0) ∙ c.in-Some-eq38.field-0-test) _ c.read_entity.ensures c.in_ok-entity.was c.put_byte-a.ensures
