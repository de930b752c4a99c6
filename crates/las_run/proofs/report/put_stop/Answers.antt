use Rattle.std.proofs.Common.{List, ℕ, [], ◌∷◌, codes, refl, ◌∙◌, ap}
use Rattle.std.specs.List.{concat}
use Rattle.las_run.specs.Lines.{line_feed}
use Rattle.las_run.specs.Ends.{names_read}
use Rattle.las_run.proofs.Endings.{says}
use Rattle.las_run.proofs.report.put_stop.Goals as goal

pub returns-in-Memory : goal.returns-in-Memory
returns-in-Memory g c = record { line = says (names_read c.args.said.now) c.args.stop.now _ _ _ _ c.in-Memory.is refl c.put_all.ensures.puts }

pub returns-in-Usage : goal.returns-in-Usage
returns-in-Usage g c =
    record { line = says (names_read c.args.said.now) c.args.stop.now _ _ _ _ c.in-Usage.is (ap (λ (d : List ℕ). concat (codes "usage: word " ∷ d ∷ line_feed ∷ [])) (c.as_bytes-index.ensures.value ∙ c.format.ensures.text)) c.put_all-in-Usage.ensures.puts }

pub returns-in-Read : goal.returns-in-Read
returns-in-Read g c =
    record { line = says (names_read c.args.said.now) c.args.stop.now _ _ _ _ c.in-Read.is (ap (λ (n : List ℕ). concat (codes "read fault: " ∷ n ∷ line_feed ∷ [])) (c.as_bytes-name.ensures.value ∙ c.name_read.ensures)) c.put_all-in-Read.ensures.puts }

pub returns-in-Write : goal.returns-in-Write
returns-in-Write g c = record { line = says (names_read c.args.said.now) c.args.stop.now _ _ _ _ c.in-Write.is refl c.put_all-in-Write.ensures.puts }

pub returns-in-TooMany : goal.returns-in-TooMany
returns-in-TooMany g c =
    record { line = says (names_read c.args.said.now) c.args.stop.now _ _ _ _ c.in-TooMany.is (ap (λ (n : List ℕ). concat (codes "too many " ∷ n ∷ line_feed ∷ [])) (c.as_bytes-name-in-TooMany.ensures.value ∙ c.surplus_name.ensures)) c.put_all-in-TooMany.ensures.puts }
