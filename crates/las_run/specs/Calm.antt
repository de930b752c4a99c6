-- Runs in which no call failed.
use Rattle.las_run.specs.declared.stop.Stop.{Stop}
use Rattle.las_run.specs.declared.stop.Stop.TheVariants as stop

-- Neither memory nor a failed call ended the run: the words, the files, or the inputs together did.
abbrev pub IsNoFailure : Stop → Type 0
IsNoFailure stop.Memory = ⊥
IsNoFailure (stop.Usage index) = Unit {0}
IsNoFailure (stop.Read number) = ⊥
IsNoFailure stop.Write = ⊥
IsNoFailure (stop.Refused number cause) = Unit {0}
IsNoFailure (stop.Differs number field) = Unit {0}
IsNoFailure (stop.TooMany surplus) = Unit {0}
