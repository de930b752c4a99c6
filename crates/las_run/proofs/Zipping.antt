-- What the calls that pack and unpack say of their outcome, as what `laszip` makes of its input.
use Rattle.std.proofs.Common.{◌≡◌, ℕ, Bool, true, false, cond, List, Option, Some, None, Result, Ok, Err, refl, sym, ◌∙◌, ap, subst}
use Rattle.std.specs.Prelude.{IsErrOf, IsSome}
use Rattle.std.proofs.lemmas.Option.{none-some}
use Rattle.las_header.specs.declared.refusal.Refusal.{Refusal}
use Rattle.las_header.specs.declared.refusal.Refusal.TheVariants.{BadChunk}
use Rattle.las_header.specs.Fields.{head_of, is_packed}
use Rattle.las_outside.specs.Files.{WhereKnown}
use Rattle.las_outside.specs.Outside.{Outside}
use Rattle.las_outside.specs.Sinks.{SinkView}
use Rattle.laz_table.specs.VlrCauses.{chunk_size_of}
use Rattle.laz_forms.specs.declared.fault.Fault.{Fault}
use Rattle.laz_forms.specs.declared.fault.Fault.TheVariants.{Refused}
use Rattle.laz_forms.proofs.Public.{known_then}
use Rattle.laz_reader.specs.Reading.{ReaderSeen, StandsFor}
use Rattle.laz_file.specs.Copying.{Packs, Unpacks}
use Rattle.laz_file.specs.Endings.{EndsMaking}
use Rattle.laz_file.proofs.Public.{ends_same}
use Rattle.las_run.specs.Endings.{ComesAtOpening}
use Rattle.las_run.specs.Tools.{Zips, ZipsIf, ZipsTo}
use Rattle.las_run.specs.Ends.{EndsCommand, quiet, stopped_by}
use Rattle.las_run.proofs.Making.{by_product, chunk_late, ends_done, ends_stopped}

-- ---- what is known of a reader's file

plain_by : (packed : Bool) (n : ℕ) → cond packed (Some n) None ≡ None → packed ≡ false
plain_by true n e = absurd (none-some n (sym e))
plain_by false n e = refl

packed_by : (packed : Bool) (n : ℕ) → IsSome (cond packed (Some n) None) → packed ≡ true
packed_by true n e = refl
packed_by false n e = absurd (cc)

is_plain : (reader : ReaderSeen) (file : List ℕ) → reader.chunk ≡ None → StandsFor reader file → is_packed (head_of file) ≡ false
is_plain reader file none stands = plain_by (is_packed (head_of file)) (chunk_size_of (head_of file)) (sym stands.chunk ∙ none)

is_packed_file : (reader : ReaderSeen) (file : List ℕ) → IsSome reader.chunk → StandsFor reader file → is_packed (head_of file) ≡ true
is_packed_file reader file some stands = packed_by (is_packed (head_of file)) (chunk_size_of (head_of file)) (subst (λ (o : Option ℕ). IsSome o) stands.chunk some)

-- ---- what `laszip` makes of the file of a reader
module _ (reader : ReaderSeen) (output : List ℕ) (chunk : ℕ) (old new : Outside) (out : SinkView) (stands : WhereKnown old.held reader.name (StandsFor reader)) where
  ends_zipping : (outcome : Result (Unit {0}) Fault)
      → ((cause : Refusal) → IsErrOf outcome (Refused cause) → ComesAtOpening cause → ⊥)
      → EndsMaking (ZipsTo output chunk) reader.name old new outcome
      → EndsCommand (Zips reader.name output chunk) reader.name (quiet old new out) (stopped_by 0 outcome)
  ends_zipping (Ok done) later ends = ends_done (by_product (ZipsTo output chunk) reader.name) (quiet old new out)
      (Unit {0}) done tt refl ends
  ends_zipping (Err fault) later ends = ends_stopped (by_product (ZipsTo output chunk) reader.name) (quiet old new out)
      (Unit {0}) fault (λ cause. tt) refl (λ cause is. later cause (ap Err is)) ends

  zips_if : (packed : Bool) → ((file : List ℕ) → StandsFor reader file → is_packed (head_of file) ≡ packed)
      → (outcome : Result (Unit {0}) Fault) → EndsMaking (ZipsIf packed output chunk) reader.name old new outcome
      → EndsMaking (ZipsTo output chunk) reader.name old new outcome
  zips_if packed is outcome ends = ends_same (ZipsIf packed output chunk) (ZipsTo output chunk) reader.name old new
      (known_then old.held reader.name (StandsFor reader) _
      (λ file s product. (subst (λ (b : Bool). ZipsIf b output chunk file product) (sym (is file s)), subst (λ (b : Bool). ZipsIf b output chunk file product) (is file s))) stands) outcome ends

  pub ends_packing : reader.chunk ≡ None → (outcome : Result (Unit {0}) Fault)
      → ((cause : Refusal) → IsErrOf outcome (Refused cause) → ⊥)
      → EndsMaking (Packs output chunk) reader.name old new outcome
      → EndsCommand (Zips reader.name output chunk) reader.name (quiet old new out) (stopped_by 0 outcome)
  ends_packing plain outcome never ends = ends_zipping outcome (λ cause is first. never cause is) (zips_if false (λ file s. is_plain reader file plain s) outcome ends)

  pub ends_unpacking : IsSome reader.chunk → (outcome : Result (Unit {0}) Fault)
      → ((cause : Refusal) → IsErrOf outcome (Refused cause) → (i : ℕ) × (cause ≡ BadChunk i))
      → EndsMaking (Unpacks output) reader.name old new outcome
      → EndsCommand (Zips reader.name output chunk) reader.name (quiet old new out) (stopped_by 0 outcome)
  ends_unpacking packed outcome bad ends =
      ends_zipping outcome (λ cause is first. chunk_late cause (bad cause is) first) (zips_if true (λ file s. is_packed_file reader file packed s) outcome ends)
