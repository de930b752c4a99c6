use Rattle.las_outside.proofs.Public.{calm-refl}
use Rattle.laz_reader.proofs.Exits.{only_reads-refl}
use Rattle.std.proofs.Common.{rules, ◌≡◌, Bool, true, false, sym, ◌∙◌, subst, List, [], ℕ, refl}
use Rattle.std.specs.Prelude.{Some, None}
use Rattle.std.proofs.lemmas.Bool.{true≢false}
use Rattle.las_header.specs.declared.refusal.Refusal.{Refusal}
use Rattle.laz_forms.specs.Refusing.{IsRefusal}
use Rattle.laz_reader.specs.Reading.{ListsPieces}
use Rattle.las_header.specs.Refusals.{first_cause}
use Rattle.laz_table.specs.VlrCauses.{chunk_size_of, vlr_causes}
use Rattle.laz_forms.proofs.Public.{if_ok, known_then, ok_no_fault}
use Rattle.laz_reader.proofs.Heads.{cause_of_err, none_of_ok, same_cause}
use Rattle.laz_reader.proofs.Accepting.{accepted_plain, one_vlr, plain_lies, refused_vlr}
use Rattle.laz_reader.proofs.listing.read_list.Goals as goal

pub returns-then-not-packed-clause-stands : goal.returns-then-not-packed-clause-stands
returns-then-not-packed-clause-stands g c =
    let plain = sym c.packed.ensures ∙ c.if-not-packed.true in
    let head = c.args.head.now in
    known_then _ _ _ _ (λ file h.
    let both = accepted_plain file head h plain in
    let lists : ListsPieces file None head.bytes [] [] = record { accepted = both.0; are = both.1; lie = plain_lies file head h plain } in
    subst (λ (l : List ℕ). ListsPieces file None head.bytes l c.new-then-not-packed.result.items) (sym c.new.ensures.items) (subst (λ (l : List ℕ). ListsPieces file None head.bytes [] l) (sym c.new-then-not-packed.ensures.items) lists)) c.requires.head

pub read_packed-requires-clause-chunk : goal.read_packed-requires-clause-chunk
read_packed-requires-clause-chunk g c =
    (none_of_ok (first_cause (vlr_causes c.args.head.now.bytes)) c.read_vlr.result (chunk_size_of c.args.head.now.bytes) c.in-Ok.chunk c.read_vlr.ensures.chunk c.read_vlr.ensures.refused c.in-Ok.is).1

pub returns-then-not-packed-clause-vlr : goal.returns-then-not-packed-clause-vlr
returns-then-not-packed-clause-vlr g c = λ packed.
    let plain = sym c.packed.ensures ∙ c.if-not-packed.true in
    absurd (true≢false (sym packed ∙ plain))

pub read_packed-requires-clause-vlr : goal.read_packed-requires-clause-vlr
read_packed-requires-clause-vlr g c =
    (none_of_ok (first_cause (vlr_causes c.args.head.now.bytes)) c.read_vlr.result (chunk_size_of c.args.head.now.bytes) c.in-Ok.chunk c.read_vlr.ensures.chunk c.read_vlr.ensures.refused c.in-Ok.is).0

pub returns-then-not-packed-clause-ends : goal.returns-then-not-packed-clause-ends
returns-then-not-packed-clause-ends g c = tt

pub returns-then-not-packed-clause-reads : goal.returns-then-not-packed-clause-reads
returns-then-not-packed-clause-reads g c = only_reads-refl (g.F.Files.seen c.args.files.now)

pub returns-then-not-packed-clause-calm : goal.returns-then-not-packed-clause-calm
returns-then-not-packed-clause-calm g c = calm-refl (g.F.Files.seen c.args.files.now)

pub returns-then-not-packed-clause-refused : goal.returns-then-not-packed-clause-refused
returns-then-not-packed-clause-refused g c = λ cause is. ok_no_fault _ _ is

pub returns-in-Ok : goal.returns-in-Ok
returns-in-Ok g c =
    record {
      chunk = search rules;
      vlr = let head = c.args.head.now.bytes in
          let none =
          none_of_ok (first_cause (vlr_causes head)) c.read_vlr.result (chunk_size_of head) c.in-Ok.chunk
          c.read_vlr.ensures.chunk c.read_vlr.ensures.refused c.in-Ok.is in
          if_ok c.read_packed.result (λ _. one_vlr head none.0);
      points = search rules;
      lists = c.read_packed.ensures.lists;
      some = c.read_packed.ensures.some;
      near = c.read_packed.ensures.near;
      plain = search rules;
      stands = c.read_packed.ensures.stands;
      refused = c.read_packed.ensures.refused;
      reads = c.read_packed.ensures.reads;
      calm = c.read_packed.ensures.calm;
      ends = c.read_packed.ensures.ends;
      asked = search rules;
      asked_of = c.read_packed.ensures.asked_of;
    }

pub returns-in-Err : goal.returns-in-Err
returns-in-Err g c =
    record {
      chunk = tt;
      vlr = tt;
      points = tt;
      lists = tt;
      some = tt;
      near = tt;
      plain = tt;
      stands = tt;
      refused = λ cause is.
          let packed = sym c.packed.ensures ∙ c.if-not-packed.false in
          known_then _ _ _ _ (λ file h. subst (λ (x : Refusal). IsRefusal file (Some x)) (same_cause c.in-Err.cause
          cause is) (refused_vlr file c.args.head.now h c.in-Err.cause packed
          (cause_of_err (first_cause (vlr_causes c.args.head.now.bytes)) c.read_vlr.result
          (chunk_size_of c.args.head.now.bytes) c.in-Err.cause c.read_vlr.ensures.chunk c.read_vlr.ensures.refused
          c.in-Err.is))) c.requires.head;
      reads = only_reads-refl (g.F.Files.seen c.args.files.now);
      calm = tt;
      ends = refl;
      asked = tt;
      asked_of = search rules;
    }
