use Rattle.std.proofs.Common.{false, refl}
use Rattle.laz_range.proofs.Public.{Takes-empty}
use Rattle.laz_integer.specs.Fields.{IsWord, word_cuts}
use Rattle.laz_integer.proofs.Spellings.{fixed-reads}
use Rattle.laz_integer.proofs.Words.{word-pos, word-value}
use Rattle.laz_integer.proofs.fields.take_word.Goals as goal

pub returns-then-marked-clause-reads : goal.returns-then-marked-clause-reads
returns-then-marked-clause-reads c =
    let read = fixed-reads 16 _ _ _ _ _ _ _ _ c.requires.ints.bits c.in_ok-value.ensures.reads in
    rw c.if-marked.true (record {
      corrector = (c.in_ok-value.field-0-1, read.v);
      takes = read.takes;
      makes = word-value c.args.pred _ c.in_ok-value.field-0-1 read.v c.in_ok-value.value (word-pos c.args.pred c.ranges.pred.fits) read.makes;
      counts = read.counts;
    })

pub returns-clause-reads : goal.returns-clause-reads
returns-clause-reads c =
    rw c.if-marked.false (record {
      corrector = (0, 0);
      takes = Takes-empty (IsWord false) (word_cuts false c.args.model.now c.args.ctx) c.args.decoder.now (0, 0) refl refl (λ y p. p) c.requires.within c.requires.good;
      makes = refl;
      counts = refl;
    })
