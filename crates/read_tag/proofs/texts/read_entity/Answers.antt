-- `read_tag::texts::read_entity` meets its contract. Assumes nothing.
use borrow.Author.Rules.{rules}
use Rattle.std.proofs.lemmas.List.{take_rest}
use Rattle.read_tag.proofs.TextLaws.{entity_none, entity_unread, entity_read_as}
use Rattle.read_tag.proofs.texts.read_entity.Goals as goal

pub returns-in_err-n : goal.returns-in_err-n
returns-in_err-n c = rw c.from_residual.ensures (entity_none _ _ _ (take_rest c.args.text.now c.args.i) c.requires (search rules))

pub returns-in_err-code : goal.returns-in_err-code
returns-in_err-code c = rw c.from_residual-in_err-code.ensures (entity_unread _ _ _ (take_rest c.args.text.now c.args.i) c.requires c.in_ok-n.n (search rules) (search rules) (search rules) _ c.entity_code.ensures c.in_err-code.was)

pub returns : goal.returns
returns c = entity_read_as _ _ _ (take_rest c.args.text.now c.args.i) c.requires c.in_ok-n.n (search rules) (search rules) (search rules) _ c.entity_code.ensures c.in_ok-code.was
