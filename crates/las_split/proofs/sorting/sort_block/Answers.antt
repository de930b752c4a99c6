use Rattle.laz_file.proofs.Public.{cause_since}
use Rattle.std.proofs.lemmas.Result.{IfOk-from_err}
use Rattle.std.proofs.Common.{◌≡◌, ℕ, List, [], ◌+◌, ◌*◌, ◌%◌, ◌<◌, ◌≤◌, ◌/◌, ◌++◌, length, refl, sym, ap, subst, ◌∙◌, append_assoc, length-append, arith}
use Rattle.std.proofs.lemmas.List.{append-nil}
use Rattle.las_outside.proofs.Public.{calm-refl, calm-trans, only_writes-refl, only_writes-trans, on_err}
use Rattle.laz_forms.proofs.Public.{whole_both, if_err}
use Rattle.laz_writer.proofs.Public.{cut-append}
use Rattle.laz_forms.specs.declared.fault.Fault.TheVariants.{Write, Memory}
use Rattle.las_split.specs.Sorting.{PartsHaveRoom, SplitTask, task_in}
use Rattle.las_split.specs.Steps.{HaveTheirParts}
use Rattle.las_split.proofs.BatchesTaken.{none_yet}
use Rattle.las_split.proofs.Blocks.{next_fits}
use Rattle.las_split.proofs.PushedParts.{no_bytes}
use Rattle.las_split.proofs.Runs.{block_done, cut_three, group_done, group_joined, group_left, group_less, group_room, group_whole, none_whole, whole_further}
use Rattle.las_split.proofs.SortingPoints.{left_none, sorted_none}
use Rattle.las_split.proofs.sorting.sort_block.Given.{Over}
use Rattle.las_split.proofs.sorting.sort_block.Goals.{After-split_at}
use Rattle.las_split.proofs.sorting.sort_block.Goals as goal
use Rattle.las_header.specs.Plain.{cut_all}
use Rattle.las_header.proofs.Public.{cut_length, cut_none}

pub returns-in_err-begin-clause-left : goal.returns-in_err-begin-clause-left
returns-in_err-begin-clause-left g c was records i at =
    on_err c.from_residual.result (left_none (task_in c.args.splitter.now) was (g.F.Files.seen c.args.files.now).held c.args.parts.now.numbers c.args.parts.now.writers.items records (cut_all c.args.splitter.now.size c.args.block.now) i)

pub groups-init : goal.groups-init
groups-init g c =
    let size = c.args.splitter.now.size in
    let some : 0 < size = omega (arith, c.requires.room.some) in
    let parts = c.args.parts.now in
    let held = (g.F.Files.seen c.args.files.now).held in
    record {
      whole = c.requires.whole;
      sorts = (
        [],
        refl,
        none_whole size,
        none_yet size some,
        λ was records i at.
            let task = task_in c.args.splitter.now in
            let count : c.len-open.result ≡ length parts.writers.items = omega (arith, c.len-open.ensures) in
            let z = sorted_none task was held parts.numbers parts.writers.items c.begin.new.self c.len-open.result records [] i count c.in_ok-begin.ensures in
            subst (λ (b : List (List ℕ)). HaveTheirParts task was held (record { numbers = parts.numbers; writers = parts.writers; gathered = c.begin.new.self }) records b) (sym (cut_none size some)) (z.parts, z.gathered),
      );
      calm = calm-refl _;
      writes = only_writes-refl _;
    }

-- what stands when a group was split off
module _ (g : Over) (c : After-split_at g) where
  abbrev size : ℕ
  size = c.args.splitter.now.size

  abbrev task : SplitTask
  task = task_in c.args.splitter.now

  abbrev block : List ℕ
  block = c.args.block.now

  abbrev done : List ℕ
  done = c.groups.invariant.sorts.0

  abbrev group : List ℕ
  group = c.split_at.result.0.now

  abbrev further : List ℕ
  further = c.split_at.result.1.now

  abbrev xs : List (List ℕ)
  xs = cut_all size done

  abbrev ys : List (List ℕ)
  ys = cut_all size group

  abbrev zs : List (List ℕ)
  zs = cut_all size further

  some : 0 < size
  some = omega (arith, c.requires.room.some)

  joined : c.groups.rest.now ≡ group ++ further
  joined =
      group_joined (c.min.result * size) c.groups.rest.now group further c.split_at.ensures.front
      c.split_at.ensures.back

  are : block ≡ done ++ (group ++ further)
  are = c.groups.invariant.sorts.1 ∙ ap (λ (b : List ℕ). done ++ b) joined

  whole : length group % size ≡ 0
  whole = group_whole size c.min.result group c.split_at.ensures.front_len

  room : PartsHaveRoom task size (c.args.index + c.groups.taken) (length group)
  room =
      group_room task size c.args.index c.groups.taken block done group further c.requires.room are
      c.groups.invariant.sorts.2 c.groups.invariant.sorts.3

  long : length (cut_all size block) ≡ length xs + length (ys ++ zs)
  long =
      ap (λ (b : List (List ℕ)). length b)
      (cut_three size some block done group further are c.groups.invariant.sorts.2 whole) ∙ length-append xs (ys ++ zs)

  place : (records : List (List ℕ)) → c.args.index ≡ length records
      → c.args.index + c.groups.taken ≡ length records + length xs
  place records at = omega (arith, at, c.groups.invariant.sorts.3)

pub overflow_add-place : goal.overflow_add-place
overflow_add-place g c =
    let k = (goal.at.overflow_add-place g c).After-split_at in
    omega (arith, next_fits (task g k) (size g k) (c.args.index + c.groups.taken) (group g k) (room g k))

pub sort_group-requires-clause-room : goal.sort_group-requires-clause-room
sort_group-requires-clause-room g c = room g (goal.at.sort_group-requires-clause-room g c).After-split_at

pub sort_group-requires-clause-whole : goal.sort_group-requires-clause-whole
sort_group-requires-clause-whole g c = whole g (goal.at.sort_group-requires-clause-whole g c).After-split_at

pub returns-in_err-more-clause-left : goal.returns-in_err-more-clause-left
returns-in_err-more-clause-left g c was records i at =
    let k = (goal.at.returns-in_err-more-clause-left g c).After-split_at in
    let d = c.groups.invariant.sorts in
    on_err c.from_residual-in_err-more.result
    (group_left (size g k) (some g k) (block g k) d.0 (group g k) (further g k) (are g k) d.2 (whole g k) (task g k) was
    (g.F.Files.seen c.sort_group.new.files).held records
    (c.in_err-more.ensures.left was records (xs g k) (d.4 was records i at) (place g k records at)))

pub returns-in_err-more-clause-some : goal.returns-in_err-more-clause-some
returns-in_err-more-clause-some g c =
    let k = (goal.at.returns-in_err-more-clause-some g c).After-split_at in
    if_err (λ fault. fault ≡ Write → 1 ≤ length (cut_all (size g k) (block g k))) c.from_residual-in_err-more.result _
    c.from_residual-in_err-more.ensures.1
    (λ is.
    let one : 1 ≤ length (ys g k) = c.in_err-more.ensures.some is in
    omega (arith, one, long g k, length-append (ys g k) (zs g k)))

pub overflow_add-taken : goal.overflow_add-taken
overflow_add-taken g c =
    let k = (goal.at.overflow_add-taken g c).After-split_at in
    let d = c.groups.invariant.sorts in
    let q = c.requires.parts in
    let n = size g k in
    let bytes = block g k in
    let s = c.in_ok-more.ensures.sorts q.0 q.1 (xs g k) (d.4 q.0 q.1 q.2 q.3) (place g k q.1 q.3) in
    let count = cut_length n (length bytes / n) bytes in
    let fits = next_fits (task g k) n c.args.index bytes c.requires.room in
    omega (arith, s.within, d.3, long g k, length-append (ys g k) (zs g k), count, fits)

pub returns-then-more-group-clause-sorts : goal.returns-then-more-group-clause-sorts
returns-then-more-group-clause-sorts g c was records i at =
    let k = (goal.at.returns-then-more-group-clause-sorts g c).After-split_at in
    let d = c.groups.invariant.sorts in
    let n = size g k in
    let bytes = group g k in
    group_less n (some g k) (block g k) d.0 bytes (further g k) (are g k) d.2 (whole g k) (task g k) was
    (g.F.Files.seen c.sort_group.new.files).held c.sort_group.new.parts records c.groups.taken d.3 c.in_ok-more.more
    (omega (arith, c.if-more-group.true, cut_length n (length bytes / n) bytes))
    (c.in_ok-more.ensures.sorts was records (xs g k) (d.4 was records i at) (place g k records at))

pub groups-preserved : goal.groups-preserved
groups-preserved g c =
    let k = (goal.at.groups-preserved g c).After-split_at in
    let new = g.F.Files.seen c.sort_group.new.files in
    let n = size g k in
    let bytes = group g k in
    let d = c.groups.invariant.sorts in
    let q = c.requires.parts in
    let m = c.in_ok-more.more in
    let first = c.in_ok-more.ensures.sorts q.0 q.1 (xs g k) (d.4 q.0 q.1 q.2 q.3) (place g k q.1 q.3) in
    let end : length bytes / n ≤ m = omega (arith, c.if-more-group.false) in
    let both : length (cut_all n (d.0 ++ bytes)) ≡ length (xs g k) + length (ys g k) =
    ap (λ (b : List (List ℕ)). length b) (cut-append n d.0 bytes (some g k) d.2) ∙ length-append (xs g k) (ys g k) in
    record {
      whole = whole_further n bytes (further g k) c.groups.rest.now (joined g k) c.groups.invariant.whole (whole g k);
      sorts = (
        d.0 ++ bytes,
        are g k ∙ sym (append_assoc d.0 bytes (further g k)),
        ap (λ (l : ℕ). l % n) (length-append d.0 bytes) ∙ whole_both n (length d.0) (length bytes) d.2 (whole g k),
        omega (arith, both, d.3, end, first.within, cut_length n (length bytes / n) bytes),
        λ was records i at.
            group_done (task g k) was new.held c.sort_group.new.parts records n (some g k) d.0 bytes m d.2 end
            (c.in_ok-more.ensures.sorts was records (xs g k) (d.4 was records i at) (place g k records at)),
      );
      calm = calm-trans _ _ _ c.groups.invariant.calm c.in_ok-more.ensures.calm;
      writes = only_writes-trans _ _ _ c.groups.invariant.writes c.sort_group.ensures.writes;
    }

pub returns-clause-sorts : goal.returns-clause-sorts
returns-clause-sorts g c was records i at =
    let d = c.groups.invariant.sorts in
    let none : c.groups.rest.now ≡ [] = no_bytes c.groups.rest.now (sym c.is_empty.ensures ∙ c.groups-test.false) in
    let all : c.args.block.now ≡ d.0 = d.1 ∙ ap (λ (b : List ℕ). d.0 ++ b) none ∙ append-nil d.0 in
    block_done (task_in c.args.splitter.now) was (g.F.Files.seen c.groups.files).held c.groups.parts records c.args.splitter.now.size c.groups.taken c.args.block.now d.0 all d.3 (d.4 was records i at)

pub returns-in_err-begin-clause-sorts : goal.returns-in_err-begin-clause-sorts
returns-in_err-begin-clause-sorts g c was records i at =
    IfOk-from_err c.from_residual.result _ c.from_residual.ensures.0

pub returns-in_err-begin-clause-some : goal.returns-in_err-begin-clause-some
returns-in_err-begin-clause-some g c = if_err _ c.from_residual.result Memory c.from_residual.ensures.1 (λ is. cc)

pub returns-in_err-begin-clause-cause : goal.returns-in_err-begin-clause-cause
returns-in_err-begin-clause-cause g c = if_err _ c.from_residual.result Memory c.from_residual.ensures.1 tt

pub returns-in_err-begin-clause-calm : goal.returns-in_err-begin-clause-calm
returns-in_err-begin-clause-calm g c = IfOk-from_err c.from_residual.result _ c.from_residual.ensures.0

pub returns-in_err-begin-clause-writes : goal.returns-in_err-begin-clause-writes
returns-in_err-begin-clause-writes g c = only_writes-refl _

pub sort_group-requires-clause-parts : goal.sort_group-requires-clause-parts
sort_group-requires-clause-parts g c =
    let k = (goal.at.sort_group-requires-clause-parts g c).After-split_at in
    let q = c.requires.parts in
    (q.0, q.1, xs g k, c.groups.invariant.sorts.4 q.0 q.1 q.2 q.3, place g k q.1 q.3)

pub returns-in_err-more-clause-sorts : goal.returns-in_err-more-clause-sorts
returns-in_err-more-clause-sorts g c was records i at =
    IfOk-from_err c.from_residual-in_err-more.result _ c.from_residual-in_err-more.ensures.0

pub returns-in_err-more-clause-cause : goal.returns-in_err-more-clause-cause
returns-in_err-more-clause-cause g c =
    if_err _ c.from_residual-in_err-more.result _ c.from_residual-in_err-more.ensures.1
    (cause_since (g.F.Files.seen c.args.files.now) (g.F.Files.seen c.groups.files)
    (g.F.Files.seen c.sort_group.new.files) c.in_err-more.field-0.0 c.groups.invariant.calm.reads
    c.groups.invariant.calm.writes c.in_err-more.ensures.cause)

pub returns-in_err-more-clause-calm : goal.returns-in_err-more-clause-calm
returns-in_err-more-clause-calm g c =
    IfOk-from_err c.from_residual-in_err-more.result _ c.from_residual-in_err-more.ensures.0

pub returns-in_err-more-clause-writes : goal.returns-in_err-more-clause-writes
returns-in_err-more-clause-writes g c = only_writes-trans _ _ _ c.groups.invariant.writes c.sort_group.ensures.writes

pub returns-then-more-group-clause-calm : goal.returns-then-more-group-clause-calm
returns-then-more-group-clause-calm g c = calm-trans _ _ _ c.groups.invariant.calm c.in_ok-more.ensures.calm

pub returns-then-more-group-clause-writes : goal.returns-then-more-group-clause-writes
returns-then-more-group-clause-writes g c =
    only_writes-trans _ _ _ c.groups.invariant.writes c.sort_group.ensures.writes

pub returns-clause-calm : goal.returns-clause-calm
returns-clause-calm g c = c.groups.invariant.calm

pub returns-clause-writes : goal.returns-clause-writes
returns-clause-writes g c = c.groups.invariant.writes
