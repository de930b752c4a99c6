use Rattle.las_run.proofs.Running.{missing_inputs_end, packed_forms_end, plain_inputs_end, wrong_words_end}
use Rattle.las_run.proofs.laws.endings_are_defined.Goals as goal

pub returns-clause-wrong : goal.returns-clause-wrong
returns-clause-wrong c = wrong_words_end

pub returns-clause-missing : goal.returns-clause-missing
returns-clause-missing c = missing_inputs_end

pub returns-clause-plain : goal.returns-clause-plain
returns-clause-plain c = plain_inputs_end

pub returns-clause-packed : goal.returns-clause-packed
returns-clause-packed c = packed_forms_end
