use Rattle.laz_c.specs.Tables.{table_blocks}
use Rattle.laz_c.proofs.TableLists.{refused_is}
use Rattle.laz_c.proofs.table.laz_c_table.Goals as goal

pub returns-in-Err-clause-refused : goal.returns-in-Err-clause-refused
returns-in-Err-clause-refused c = λ bad.
    refused_is c.args.bytes.now (table_blocks c.args.chunk c.args.points) c.args.total c.refused.new.refusal c.in-Err.fault c.in-Err.ensures.read (c.refused.ensures.cause bad)
