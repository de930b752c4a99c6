use Rattle.laz_reader.proofs.reader.Reader.fail.Goals as goal

pub returns-clause-failed : goal.returns-clause-failed
returns-clause-failed c = cc
