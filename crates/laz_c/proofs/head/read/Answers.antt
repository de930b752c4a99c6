use Rattle.laz_c.proofs.Reading.{read_done, read_refused}
use Rattle.laz_c.proofs.head.read.Goals as goal

pub returns-in-Ok-clause-done : goal.returns-in-Ok-clause-done
returns-in-Ok-clause-done c = λ is. read_done c.args.bytes.items c.args.size c.in-Ok.head c.put_head.new.out c.in-Ok.ensures.0 c.in-Ok.ensures.1 (c.put_head.ensures.done is)

pub returns-in-Ok-clause-refused : goal.returns-in-Ok-clause-refused
returns-in-Ok-clause-refused c = λ is. read_refused c.args.bytes.items c.args.size c.in-Ok.head c.put_head.new.out c.in-Ok.ensures.0 c.in-Ok.ensures.1 (c.put_head.ensures.refused is)
