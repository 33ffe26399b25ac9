-- `put_import` meets its contract: each head is put before what was written behind it. Assumes nothing.
use Rattle.transform.proofs.ItemLaws.{import_written}
use Rattle.transform.proofs.module.put_import.Goals as goal

pub returns : goal.returns
returns c = import_written c.put_bytes-a.ensures c.put_bytes-b.ensures c.put_head.ensures c.put_byte-c.ensures c.put_head-2.ensures
