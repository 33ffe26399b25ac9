-- `visit_item` meets its contract: the pieces are visited between the head left open and the head written. Assumes nothing.
use mathlib.Core.Path.{refl}
use native.Mathlib.Nat.{le_refl}
use Rattle.visits.proofs.FieldLaws.{room_part}
use Rattle.transform.proofs.ItemLaws.{item_begin, item_inner, item_close, item_done}
use Rattle.transform.proofs.module.visit_item.Goals as goal

pub begin-requires : goal.begin-requires
begin-requires c = item_begin _ _ _ _ _ _ _ c.requires.low

pub on_pieces-x-requires : goal.on_pieces-x-requires
on_pieces-x-requires c = room_part _ _ _ _ c.requires refl (le_refl _) (item_inner _ _ _ _ _ _ _ c.begin.ensures c.requires.low)

pub close-requires : goal.close-requires
close-requires c = item_close _ _ _ _ _ _ _ c.begin.ensures c.on_pieces-x.ensures c.requires.low

pub returns : goal.returns
returns c = item_done _ _ _ _ _ _ _ c.begin.ensures c.on_pieces-x.ensures c.close.ensures
