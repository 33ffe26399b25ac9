-- `arrive::put_page` meets its contract. Assumes nothing.
use mathlib.Core.Path.{refl}
use lib.ListN.{length}
use native.Mathlib.Omega.{arith}
use Rattle.catalogue_calls.proofs.WriteLaws.{records_fine, calls_fine, page_written}
use Rattle.catalogue_calls.proofs.arrive.put_page.Goals as goal

pub raise_records-requires : goal.raise_records-requires
raise_records-requires c =
    records_fine c.args.catalogue.now c.args.held.now.used c.args.name c.args.house c.requires.fits c.put_head.ensures c.put_bytes.ensures c.put_bytes-2.ensures _ (length c.args.page.now) (omega arith) refl c.requires.templates_fine

pub raise_calls-requires : goal.raise_calls-requires
raise_calls-requires c =
    calls_fine c.args.catalogue.now c.args.held.now.used c.args.name c.args.house c.requires.fits c.put_head.ensures c.put_bytes.ensures c.put_bytes-2.ensures _ _ (omega arith) (omega arith) c.args.held.now.forms c.raise_records.ensures c.requires.page_fine

pub returns : goal.returns
returns c =
    page_written c.args.catalogue.now c.args.held.now.used c.args.name c.args.house c.requires.fits c.put_head.ensures c.put_bytes.ensures c.put_bytes-2.ensures _ _ (omega arith) (omega arith) c.args.held.now.forms c.raise_records.ensures c.raise_calls.ensures
