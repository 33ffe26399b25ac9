-- `write_listed` meets its contract: an element shows both heads, and the items are written behind room for the import; or the items are
-- written without them, and what is due is put in. Assumes nothing.
use native.Mathlib.Omega.{arith}
use mathlib.Core.Path.{ap}
use lib.ListN.{length}
use Rattle.transform.proofs.PageLaws.{page_body, source_short, items_room, before_room, from_room, heads_room, import_short, html_takes, page_shown, page_moved}
use Rattle.transform.proofs.module.write_listed.Goals as goal

pub import_len-requires : goal.import_len-requires
import_len-requires c = omega (arith, ap length c.source-source.ensures, source_short c.args.options.now c.requires.ready.options_short)

pub visit_items-w-requires : goal.visit_items-w-requires
visit_items-w-requires c = let i = c.requires.ready in let b = page_body _ i.page_fronted c.body-s.ensures in
    record {
      desk = i.scratch_enough;
      short = omega (arith, b.body_short, i.page_short);
      low = items_room _ _ _ (omega (arith, b.body_short, i.page_short)) _ _ (html_takes _ _ _ c.has_html.ensures c.if-has_html.true) c.start-first.ensures
          (import_short _ c.import_len.ensures (omega (arith, ap length c.source-source.ensures, source_short _ i.options_short)));
    }

pub put_import-requires : goal.put_import-requires
put_import-requires c = omega (arith, ap length c.source-source.ensures, source_short c.args.options.now c.requires.ready.options_short)

pub returns-then-has_html : goal.returns-then-has_html
returns-then-has_html c = let i = c.requires.ready in
    let b = page_body _ i.page_fronted c.body-s.ensures in
    page_shown _ _ _ c.requires.props_value.0 c.requires.props_value.1 _ b.body_items c.source-source.ensures _ _ (html_takes _ _ _ c.has_html.ensures c.if-has_html.true) c.import_len.ensures c.start-first.ensures c.visit_items-w.ensures c.helper_sum.ensures c.put_import.ensures

pub visit_module-a-requires : goal.visit_module-a-requires
visit_module-a-requires c = let i = c.requires.ready in let b = page_body _ i.page_fronted c.body-s.ensures in let p = c.split_items.ensures in
    record { desk = i.scratch_enough; short = omega (arith, p.sizes, b.body_short, i.page_short); low = before_room _ _ _ (omega (arith, b.body_short, i.page_short)) _ _ c.start.ensures p }

pub visit_module-w-requires : goal.visit_module-w-requires
visit_module-w-requires c = let i = c.requires.ready in let b = page_body _ i.page_fronted c.body-s.ensures in let p = c.split_items.ensures in
    record {
      desk = omega (arith, i.scratch_enough, c.visit_module-a.auto.scratch);
      short = omega (arith, p.sizes, b.body_short, i.page_short);
      low = from_room _ _ _ (omega (arith, b.body_short, i.page_short)) _ _ c.start.ensures p c.visit_module-a.ensures;
    }

pub put_heads-requires : goal.put_heads-requires
put_heads-requires c = let i = c.requires.ready in let b = page_body _ i.page_fronted c.body-s.ensures in
    let h = heads_room _ _ _ (omega (arith, b.body_short, i.page_short)) _ _ c.start.ensures c.split_items.ensures c.visit_module-a.ensures c.visit_module-w.ensures in
    (h.0, (h.1, omega (arith, ap length c.source-source.ensures, source_short c.args.options.now i.options_short)))

pub returns : goal.returns
returns c = let i = c.requires.ready in let b = page_body _ i.page_fronted c.body-s.ensures in
    page_moved _ _ _ c.requires.props_value.0 c.requires.props_value.1 _ b.body_items c.source-source.ensures _ _ (omega (arith, b.body_short, i.page_short)) c.split_items.ensures c.start.ensures c.visit_module-a.ensures c.visit_module-w.ensures c.put_heads.ensures
