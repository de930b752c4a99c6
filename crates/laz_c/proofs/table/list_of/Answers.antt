use Rattle.std.proofs.Common.{◌≡◌, length, subst}
use Rattle.laz_c.proofs.Causes.{if_ok_of}
use Rattle.laz_table.specs.declared.chunks.Blocks.{Blocks}
use Rattle.laz_table.specs.Chunks.{IsAccepted, IsFirstFault}
use Rattle.laz_c.specs.Tables.{chunks_at_most}
use Rattle.laz_c.proofs.TableLists.{sizes_are}
use Rattle.laz_c.proofs.table.list_of.Goals as goal

pub returns-clause-sizes : goal.returns-clause-sizes
returns-clause-sizes c =
    if_ok_of (λ list. IsAccepted c.args.bytes.now c.blocks_of.result c.args.total list.sizes.items list.counts.items)
    (λ list. length list.sizes.items ≡ chunks_at_most c.args.bytes.now c.args.chunk c.args.points)
    (λ fault. IsFirstFault c.args.bytes.now c.blocks_of.result c.args.total fault) c.read_table.result
    (λ list is. sizes_are c.args.bytes.now c.args.chunk c.args.points c.args.total list.sizes.items list.counts.items c.requires
    (subst (λ (b : Blocks). IsAccepted c.args.bytes.now b c.args.total list.sizes.items list.counts.items) c.blocks_of.ensures.blocks is)) c.read_table.ensures
