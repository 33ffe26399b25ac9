use Rattle.std.proofs.Common.{◌+◌, arith, length, refl}
use Rattle.field.proofs.PutLaws.{length_head}
use Rattle.tag.proofs.TagCardLaws.{page_written}
use Rattle.tag.proofs.tag_card.put_page.Goals as goal

pub put_head-b-requires : goal.put_head-b-requires
put_head-b-requires c =
    omega (arith, c.put_head-a.ensures.end_is, length_head 0x01 (3 + length c.args.tag.now))

pub put_bytes-requires : goal.put_bytes-requires
put_bytes-requires c =
    let n = length c.args.tag.now in
    omega (arith, c.put_head-a.ensures.end_is, length_head 0x01 (3 + n), c.put_head-b.ensures.end_is, length_head 0x12 n, c.requires)

pub returns : goal.returns
returns c = page_written refl c.put_head-a.ensures c.put_head-b.ensures c.put_bytes.ensures
