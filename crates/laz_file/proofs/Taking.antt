-- Records that a writer takes while a reader reads.
use Rattle.std.proofs.Common.{◌≡◌, ◌≢◌, ◌⊎◌, inl, inr, Result, Ok, Err, ℕ, Bool, cond, List, [], ◌++◌, length, take, Option, Some, None, IsSomeAnd, refl, sym, ◌∙◌, ap, subst, append_assoc, arith}
use Rattle.std.specs.FinMap as maps
use Rattle.std.specs.Prelude.{IfErr, OnErr, OnOk}
use Rattle.std.proofs.lemmas.List.{append-nil, take_all}
use Rattle.las_outside.specs.Faults.{Rose}
use Rattle.las_outside.specs.Files.{FileMap, WhereKnown, with_file}
use Rattle.las_outside.specs.Outside.{Outside, with_bytes}
use Rattle.las_outside.proofs.Public.{get-with_value, same_other}
use Rattle.laz_forms.specs.declared.fault.Fault.{Fault}
use Rattle.laz_forms.specs.declared.fault.Fault.TheVariants.{Refused, Read, Write, Memory}
use Rattle.laz_file.specs.Copying.{LeavesPart, Takes, with_reads}
use Rattle.laz_forms.specs.FileFaults.{HasCause}
use Rattle.laz_forms.specs.Outputs.{Output, front, stopped}
use Rattle.laz_reader.specs.Turns.{file_at}
use Rattle.laz_writer.specs.Writing.{PackingSeen, PointsStand, Stands, Stops, WriterSeen, all_chunks}
use Rattle.laz_writer.proofs.Public.{held_text, kept_part, packed_form, plain_stopped}

-- ---- reads between writes

-- what only reads have changed
with_same : (now : Outside) (held : Option FileMap) (writes : ℕ) → now.held ≡ held → now.write_faults ≡ writes → now ≡ record now { held = held; write_faults = writes }
with_same now held writes h w =
    ap (λ (x : Option FileMap). let o : Outside = record now { held = x } in o) h
    ∙ ap (λ (n : ℕ). let o : Outside = record now { held = held; write_faults = n } in o) w

-- an output stands as it did, as the outside is seen after reads
text_read : (before now later : Outside) (name text : List ℕ) → now ≡ with_bytes before name text → later.held ≡ now.held → later.write_faults ≡ now.write_faults → later ≡ with_bytes (with_reads before later) name text
text_read before now later name text is held writes =
    with_same later (with_file before.held name text) before.write_faults (held ∙ ap (λ (o : Outside). o.held) is) (writes ∙ ap (λ (o : Outside). o.write_faults) is)

points_read : (chunk : Option ℕ) (before now later : Outside) (out : Output) (most : ℕ) (packing : Option PackingSeen) (records : List ℕ) → later.held ≡ now.held → later.write_faults ≡ now.write_faults → PointsStand chunk before now out most packing records
    → PointsStand chunk (with_reads before later) later out most packing records
points_read None before now later out most None records held writes s = text_read before now later out.name (front out ++ records) s held writes
points_read None before now later out most (Some p) records held writes s = absurd s
points_read (Some k) before now later out most None records held writes s = absurd s
points_read (Some k) before now later out most (Some p) records held writes s = record {
  plan = s.plan;
  few = s.few;
  stands = record {
    done = s.stands.done;
    file = text_read before now later out.name (front out ++ all_chunks p.plan.format s.stands.done) s.stands.file held writes;
    whole = s.stands.whole;
    full = s.stands.full;
    short = s.stands.short;
    lengths = s.stands.lengths;
    within = s.stands.within;
    numbers = s.stands.numbers;
  };
}

pub stands_read : (before now later : Outside) (w : WriterSeen) (out : Output) (bytes : List ℕ) → later.held ≡ now.held → later.write_faults ≡ now.write_faults → Stands before now w out bytes → Stands (with_reads before later) later w out bytes
stands_read before now later w out bytes held writes s = record {
  head = s.head;
  named = s.named;
  start = s.start;
  size = s.size;
  few = s.few;
  taken = s.taken;
  whole = s.whole;
  within = s.within;
  long = s.long;
  tally = s.tally;
  points = points_read out.chunk before now later out w.most w.packing bytes held writes s.points;
}

-- no read has changed what an output stands on
pub reads_are : (before now : Outside) (w : WriterSeen) (out : Output) (bytes : List ℕ) → Stands before now w out bytes → with_reads before now ≡ before
reads_are before now w out bytes s = ap (λ (o : Outside). with_reads before o) (held_text before now w out bytes s).1

-- ---- a writer that takes records, from call to call

pub takes_none : (now : Outside) (w : WriterSeen) → Takes now now w w []
takes_none now w before out bytes s =
    subst (λ (o : Outside). Stands o now w out (bytes ++ [])) (sym (reads_are before now w out bytes s))
    (subst (λ (t : List ℕ). Stands before now w out t) (sym (append-nil bytes)) s)

pub takes_read : (old now later : Outside) (w v : WriterSeen) (records : List ℕ) → later.held ≡ now.held → later.write_faults ≡ now.write_faults → Takes old now w v records → Takes old later w v records
takes_read old now later w v records held writes t before out bytes s =
    stands_read (with_reads before now) now later v out (bytes ++ records) held writes (t before out bytes s)

pub takes_then : (old mid new : Outside) (w v u : WriterSeen) (xs ys : List ℕ) → Takes old mid w v xs → Takes mid new v u ys → Takes old new w u (xs ++ ys)
takes_then old mid new w v u xs ys one two before out bytes s =
    subst (λ (t : List ℕ). Stands (with_reads before new) new u out t) (append_assoc bytes xs ys)
    (two (with_reads before mid) out (bytes ++ xs) (one before out bytes s))

pub takes_push : (old new : Outside) (w v : WriterSeen) (records : List ℕ) → ((before : Outside) (out : Output) (bytes : List ℕ) → Stands before old w out bytes → Stands before new v out (bytes ++ records)) → Takes old new w v records
takes_push old new w v records to before out bytes s =
    let u = to before out bytes s in
    subst (λ (o : Outside). Stands o new v out (bytes ++ records)) (sym (reads_are before new v out (bytes ++ records) u)) u

-- ---- what is left after a failed call

-- what stands at any time is a prefix of what stands if the output is stopped
pub stands_part : (before now : Outside) (w : WriterSeen) (out : Output) (bytes : List ℕ) → Stands before now w out bytes → (n : ℕ) × (now ≡ with_bytes before out.name (take n (stopped out bytes)))
stands_part before now w out bytes s = by w.packing refl
  where
    by : (p : Option PackingSeen) → w.packing ≡ p → (n : ℕ) × (now ≡ with_bytes before out.name (take n (stopped out bytes)))
    by None is =
        let text = stopped out bytes in
        (length text, plain_stopped before now w out bytes s is ∙ ap (with_bytes before out.name) (sym (take_all (length text) text (omega arith))))
    by (Some p) is =
        let form = packed_form before now w out bytes p s is in
        let m = kept_part before now w out bytes p s is 0 in
        (m.0, form.2.stands.file ∙ ap (with_bytes before out.name) (sym (append-nil (front out ++ all_chunks p.plan.format form.2.stands.done)) ∙ m.1))

pub part_stands : (old now later : Outside) (w v : WriterSeen) (records : List ℕ) → later.held ≡ now.held → Takes old now w v records → LeavesPart old later w records
part_stands old now later w v records held t before out bytes s =
    let p = stands_part (with_reads before now) now v out (bytes ++ records) (t before out bytes s) in
    (p.0, held ∙ ap (λ (o : Outside). o.held) p.1)

pub part_then : (old mid new : Outside) (w v : WriterSeen) (xs ys : List ℕ) → Takes old mid w v xs → LeavesPart mid new v ys → LeavesPart old new w (xs ++ ys)
part_then old mid new w v xs ys one two before out bytes s =
    let p = two (with_reads before mid) out (bytes ++ xs) (one before out bytes s) in
    (p.0, p.1 ∙ ap (λ (t : List ℕ). with_file before.held out.name (take p.0 (stopped out t))) (append_assoc bytes xs ys))

-- what a call that failed left of the files
pub held_after : (fault : Fault) (made now : Outside) → Stops fault made now → now.held ≡ made.held
held_after Memory made now s = ap (λ (o : Outside). o.held) s
held_after Write made now s = ap (λ (o : Outside). o.held) s
held_after Read made now s = absurd s
held_after (Refused cause) made now s = absurd s

-- a call of a writer that failed
pub part_push : (old new : Outside) (w : WriterSeen) (records : List ℕ) (fault : Fault) → ((before : Outside) (out : Output) (bytes : List ℕ) → Stands before old w out bytes → (n : ℕ) × Stops fault (with_bytes before out.name (take n (stopped out (bytes ++ records)))) new)
    → LeavesPart old new w records
part_push old new w records fault to before out bytes s =
    let p = to before out bytes s in
    (p.0, held_after fault (with_bytes before out.name (take p.0 (stopped out (bytes ++ records)))) new p.1)

-- the cause of a fault of a writer
pub cause_push : (old mid new : Outside) (fault : Fault) → (fault ≡ Memory) ⊎ (fault ≡ Write) → (fault ≡ Write → Rose mid.write_faults new.write_faults) → mid.write_faults ≡ old.write_faults → HasCause old new fault
cause_push old mid new fault (inl memory) rose same = subst (HasCause old new) (sym memory) tt
cause_push old mid new fault (inr write) rose same = subst (HasCause old new) (sym write) (subst (λ (n : ℕ). Rose n new.write_faults) same (rose write))

-- a fault after calls that moved no count
pub cause_since : (old mid new : Outside) (fault : Fault) → mid.read_faults ≡ old.read_faults → mid.write_faults ≡ old.write_faults → HasCause mid new fault → HasCause old new fault
cause_since old mid new (Refused cause) reads writes h = h
cause_since old mid new Read reads writes h = subst (λ (n : ℕ). Rose n new.read_faults) reads h
cause_since old mid new Write reads writes h = subst (λ (n : ℕ). Rose n new.write_faults) writes h
cause_since old mid new Memory reads writes h = h

-- ---- a call of a writer, whatever it answers

pub push_takes : {T E : Type 0} (r : Result T E) (old new : Outside) (w v : WriterSeen) (records : List ℕ) → ((before : Outside) (out : Output) (bytes : List ℕ) → Stands before old w out bytes → OnOk r (Stands before new v out (bytes ++ records)))
    → OnOk r (Takes old new w v records)
push_takes (Ok x) old new w v records to = takes_push old new w v records to
push_takes (Err e) old new w v records to = tt

pub push_part : {T : Type 0} (r : Result T Fault) (old new : Outside) (w : WriterSeen) (records : List ℕ)
    → ((before : Outside) (out : Output) (bytes : List ℕ) → Stands before old w out bytes → IfErr r (λ fault. (n : ℕ) × Stops fault (with_bytes before out.name (take n (stopped out (bytes ++ records)))) new))
    → OnErr r (LeavesPart old new w records)
push_part (Ok x) old new w records to = tt
push_part (Err e) old new w records to = part_push old new w records e to

-- ---- what is known of another name

known_beside : (files : FileMap) (other text name : List ℕ) → name ≢ other → maps.get (maps.insert files other text) name ≡ maps.get files name
known_beside files other text name ne =
    get-with_value files other (Some text) name ∙ ap (λ (b : Bool). cond b (Some text) (maps.get files name)) (same_other name other ne)

pub file_beside : (held : Option FileMap) (other text name : List ℕ) → name ≢ other → file_at (with_file held other text) name ≡ file_at held name
file_beside None other text name ne = refl
file_beside (Some files) other text name ne = ap Some (known_beside files other text name ne)

pub known_before : (held : Option FileMap) (other text name : List ℕ) (P : List ℕ → Type 0) → name ≢ other → WhereKnown (with_file held other text) name P → WhereKnown held name P
known_before None other text name P ne k = tt
known_before (Some files) other text name P ne k = subst (λ (o : Option (List ℕ)). IsSomeAnd o P) (known_beside files other text name ne) k

pub known_after : (held : Option FileMap) (other text name : List ℕ) (P : List ℕ → Type 0) → name ≢ other → WhereKnown held name P → WhereKnown (with_file held other text) name P
known_after None other text name P ne k = tt
known_after (Some files) other text name P ne k = subst (λ (o : Option (List ℕ)). IsSomeAnd o P) (sym (known_beside files other text name ne)) k

-- what is known of the reader's file while a writer takes records
pub known_taken : (old now : Outside) (w v : WriterSeen) (records : List ℕ) (before : Outside) (out : Output) (bytes : List ℕ) → Stands before old w out bytes → Takes old now w v records → (name : List ℕ) → name ≢ w.name → (P : List ℕ → Type 0)
    → (WhereKnown old.held name P → WhereKnown now.held name P) × (WhereKnown now.held name P → WhereKnown old.held name P)
known_taken old now w v records before out bytes s t name ne P =
    let one = held_text before old w out bytes s in
    let two = held_text (with_reads before now) now v out (bytes ++ records) (t before out bytes s) in
    let was : old.held ≡ with_file before.held out.name one.0 = ap (λ (o : Outside). o.held) one.1 in
    let is : now.held ≡ with_file before.held out.name two.0 = ap (λ (o : Outside). o.held) two.1 in
    let other : name ≢ out.name = λ e. ne (e ∙ sym s.named) in
    let K : Option FileMap → Type 0 = λ h. WhereKnown h name P in (
      λ k. subst K (sym is) (known_after before.held out.name two.0 name P other (known_before before.held out.name one.0 name P other (subst K was k))),
      λ k. subst K (sym was) (known_after before.held out.name one.0 name P other (known_before before.held out.name two.0 name P other (subst K is k))),
    )
