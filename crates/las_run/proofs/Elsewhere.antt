-- Names that a command does not write are as before, and what is left is left of some ending.
use Rattle.std.proofs.Common.{◌≡◌, inl, inr, ℕ, zero, suc, Bool, true, false, List, [], ◌∷◌, map, take, Option, Some, None, cond, refl, sym, ◌∙◌, ap, subst}
use Rattle.std.specs.Prelude.{is_some}
use Rattle.std.specs.FinMap as finmap
use Rattle.std.specs.List.{concat}
use Rattle.las_header.specs.Fields.{head_of, is_packed}
use Rattle.las_header.specs.Plain.{plain_head}
use Rattle.las_info.specs.Tallies.{TapSeen}
use Rattle.las_outside.specs.Files.{FileMap}
use Rattle.las_outside.specs.Outside.{Later}
use Rattle.las_outside.proofs.Public.{get-with_value, same_other}
use Rattle.las_words.specs.Asked.{LasmergeOptions, OneInput, Work, laszip, las2las, lasinfo, lassplit, lasmerge, make, reads}
use Rattle.las_words.specs.Says.{Said, asks, usage}
use Rattle.las_convert.specs.Converting.{converted_output, has_output}
use Rattle.las_split.specs.Outputs.{part_output_under}
use Rattle.las_split.specs.Parts.{numbers_of_parts, part}
use Rattle.laz_file.specs.Endings.{OutputFile, named, output_file, with_all, Product}
use Rattle.las_run.specs.EndingLaws.{SomeEndingIsDefined}
use Rattle.las_run.specs.Endings.{Ending, IsLeft}
use Rattle.las_run.specs.Runs.{Accepts, Does, IsWritten, IsWrittenBy, Makes, Opens, RunOf, RunsAs, Task}
use Rattle.las_run.specs.Seen.{IsAsBefore, IsDue, Leaves, RunSeen}
use Rattle.las_run.specs.Tools.{MergesIf, ZipsIf, chunk_if}

-- ---- the names of outputs
-- P holds of the name of each output
abbrev AreNamed : (P : List ℕ → Type 0) → List OutputFile → Type 0
AreNamed P [] = Unit {0}
AreNamed P (o ∷ os) = P o.name × AreNamed P os

first_named : (P : List ℕ → Type 0) (k : ℕ) (os : List OutputFile) → AreNamed P os → AreNamed P (take k os)
first_named P zero os all = tt
first_named P (suc k) [] all = tt
first_named P (suc k) (o ∷ os) all = (all.0, first_named P k os all.1)

-- a name that is no output's keeps what it has
beside : (files : FileMap) (name other bytes : List ℕ) → ((other ≡ name) → ⊥) → finmap.get (finmap.insert files name bytes) other ≡ finmap.get files other
beside files name other bytes ne = get-with_value files name (Some bytes) other ∙ ap (λ (b : Bool). cond b (Some bytes) (finmap.get files other)) (same_other other name ne)

stays : (P : List ℕ → Type 0) (os : List OutputFile) (texts : List (List ℕ)) (files : FileMap) (name : List ℕ) → (P name → ⊥) → AreNamed P os → finmap.get (with_all files (named os texts)) name ≡ finmap.get files name
stays P [] texts files name not all = refl
stays P (o ∷ os) [] files name not all = refl
stays P (o ∷ os) (t ∷ ts) files name not all =
    stays P os ts (finmap.insert files o.name t) name not all.1 ∙ beside files o.name name t (λ e. not (subst P (sym e) all.0))

-- ---- the outputs of each command have names that it writes
numbers_named : (P : List ℕ → Type 0) (part_of : ℕ → OutputFile) (numbers : List ℕ) → ((n : ℕ) → P (part_of n).name) → AreNamed P (map part_of numbers)
numbers_named P part_of [] is = tt
numbers_named P part_of (n ∷ ns) is = (is n, numbers_named P part_of ns is)

if_named : (P : List ℕ → Type 0) (b : Bool) (o : OutputFile) → P o.name → AreNamed P (cond b (o ∷ []) [])
if_named P true o p = (p, tt)
if_named P false o p = tt

-- an ending that is another one
as_named : (P : List ℕ → Type 0) (one other : Ending) → one ≡ other → AreNamed P other.outputs → AreNamed P one.outputs
as_named P one other is named = subst (λ (e : Ending). AreNamed P e.outputs) (sym is) named

zips_named : (P : List ℕ → Type 0) (packed : Bool) (output : List ℕ) (chunk : ℕ) (file : List ℕ) (product : Product) → P output → ZipsIf packed output chunk file product → AreNamed P product.files
zips_named P true output chunk file product p makes = subst (λ (x : Product). AreNamed P x.files) (sym makes.3) (p, tt)
zips_named P false output chunk file product p makes = subst (λ (x : Product). AreNamed P x.files) (sym makes) (p, tt)

makes_named : (taps : List TapSeen) (input : List ℕ) (own : OneInput) (file : List ℕ) (ending : Ending) → Makes taps input own file ending → AreNamed (IsWrittenBy (reads input own)) ending.outputs
makes_named taps input (laszip options) file ending makes =
    let P = IsWrittenBy (reads input (laszip options)) in
    as_named P ending _ makes.2 (zips_named P (is_packed (head_of file)) options.output options.chunk file makes.0 refl makes.1)
makes_named taps input (las2las options) file ending makes =
    let P = IsWrittenBy (reads input (las2las options)) in
    let out = output_file (converted_output options.output file (chunk_if options.packed options.chunk)) makes.0 in
    as_named P ending _ makes.3 (if_named P (has_output options.sieve.pick makes.1) out refl)
makes_named taps input (lasinfo options) file ending makes =
    let P = IsWrittenBy (reads input (lasinfo options)) in
    as_named P ending _ makes.5 tt
makes_named taps input (lassplit options) file ending makes =
    let P = IsWrittenBy (reads input (lassplit options)) in
    let parts = makes.1 in
    let part_of : ℕ → OutputFile = λ number. output_file (part_output_under options.stem options.end (plain_head file) number) (concat (part options.rule parts.0 number)) in
    as_named P ending _ makes.2
    (subst (λ (p : Product). AreNamed P p.files) (sym parts.3) (numbers_named P part_of (numbers_of_parts options.rule parts.0) (λ n. (n, refl))))

accepts_named : (P : List ℕ → Type 0) (input file : List ℕ) (Makes : Ending → Type 0) (ending : Ending) → ((e : Ending) → Makes e → AreNamed P e.outputs) → Accepts input file Makes ending → AreNamed P ending.outputs
accepts_named P input file Makes ending named (inl refused) = as_named P ending _ refused.2 tt
accepts_named P input file Makes ending named (inr made) = named ending made.1

opens_named : (P : List ℕ → Type 0) (input : List ℕ) (held : Option (List ℕ)) (Makes : List ℕ → Ending → Type 0) (ending : Ending) → ((file : List ℕ) (e : Ending) → Makes file e → AreNamed P e.outputs) → Opens input held Makes ending → AreNamed P ending.outputs
opens_named P input None Makes ending named is = as_named P ending _ is tt
opens_named P input (Some file) Makes ending named is = accepts_named P input file (Makes file) ending (named file) is

merges_named : (P : List ℕ → Type 0) (copy : Bool) (options : LasmergeOptions) (files : FileMap) (ending : Ending) → P options.output → MergesIf copy options files ending → AreNamed P ending.outputs
merges_named P true options files ending p (inl kept) = as_named P ending _ kept.2 tt
merges_named P true options files ending p (inr made) = as_named P ending _ made.3 (p, tt)
merges_named P false options files ending p (inl kept) = as_named P ending _ kept.2 tt
merges_named P false options files ending p (inr made) = as_named P ending _ made.5 (p, tt)

does_named : (taps : List TapSeen) (work : Work) (files : FileMap) (ending : Ending) → Does taps work files ending → AreNamed (IsWrittenBy work) ending.outputs
does_named taps (reads input own) files ending is =
    opens_named (IsWrittenBy (reads input own)) input (finmap.get files input) (Makes taps input own) ending (makes_named taps input own) is
does_named taps (lasmerge options) files ending is = merges_named (IsWrittenBy (lasmerge options)) options.copy options files ending refl is
does_named taps (make options) files ending is = as_named (IsWrittenBy (make options)) ending _ is (inl refl, (inr refl, tt))

runs_named : (taps : List TapSeen) (said : Said) (files : FileMap) (ending : Ending) → RunsAs taps said files ending → AreNamed (IsWritten said) ending.outputs
runs_named taps (usage index) files ending is = as_named (IsWritten (usage index)) ending _ is tt
runs_named taps (asks asked) files ending is = does_named taps asked.work files ending is

-- a name that is not written keeps what it has
kept : (task : Task) (files now : FileMap) (ending : Ending) (name : List ℕ) → RunOf task files ending → IsLeft ending.outputs files now → (IsWritten task.said name → ⊥) → finmap.get now name ≡ finmap.get files name
kept task files now ending name run left not =
    let all = first_named (IsWritten task.said) left.0 ending.outputs (runs_named task.taps task.said files ending run) in
    ap (λ (m : FileMap). finmap.get m name) left.3 ∙ stays (IsWritten task.said) (take left.0 ending.outputs) left.1 files name not all

-- ---- what is left, without an ending that is given

-- files that stay known
still : (old now : Option FileMap) (known : FileMap) → is_some now ≡ is_some old → old ≡ Some known → (after : FileMap) × (now ≡ Some after)
still old None known same held = absurd (let clash : false ≡ true = same ∙ ap (λ (o : Option FileMap). is_some o) held in cc)
still old (Some after) known same held = (after, refl)

module _ (run : RunSeen) (known : FileMap) (some : SomeEndingIsDefined) (all_left : (known : FileMap) (ending : Ending) → IsDue run known ending → Leaves run known ending)
    (held : run.files.held ≡ Some known) where
  pub left_always : (ending : Ending) × IsDue run known ending × Leaves run known ending
  left_always =
      let e = some run.task known in
      let due : IsDue run known e.0 = record { known_is = held; defined = e.1 } in
      (e.0, due, all_left known e.0 due)

  pub others : (name : List ℕ) → Later run.files run.files_now → (IsWritten run.task.said name → ⊥) → IsAsBefore run known name
  others name later not =
      let now = still run.files.held run.files_now.held known later.known held in
      let l = left_always in
      let same : l.2.0 ≡ now.0 = let both : Some l.2.0 ≡ Some now.0 = sym l.2.1 ∙ now.1 in cc in
      (now.0, now.1, kept run.task known now.0 l.0 name l.1.defined (subst (λ (m : FileMap). IsLeft l.0.outputs known m) same l.2.2) not)
