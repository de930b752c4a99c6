use Rattle.std.proofs.Common.{◌≡◌, ℕ, ◌-◌, List, ◌++◌, length, ◌∙◌, ap, arith}
use Rattle.las_header.specs.Fields.{format_size}
use Rattle.las_make.specs.Records.{base_fields, colour_fields, extra_bytes, record_bytes, time_field}
use Rattle.las_make.proofs.records.put_record.Goals as goal

pub returns : goal.returns
unfolding record_bytes
returns c =
    let k = c.args.k in
    let f = c.args.format in
    let d = c.args.draws in
    let time = c.put_time-at.ensures.put ∙ ap (λ (h : List ℕ). h ++ time_field f k) c.put_base.ensures in
    let colours = c.put_colours-at.ensures.put ∙ ap (λ (h : List ℕ). h ++ colour_fields f d) time in
    let rest : length c.put_colours-at.new.place - c.put_colours-at.result ≡ length c.args.place.now - format_size f = omega arith in
    c.put_extra.ensures ∙ ap (λ (h : List ℕ). h ++ extra_bytes (length c.put_colours-at.new.place - c.put_colours-at.result) k) colours
    ∙ ap (λ (n : ℕ). base_fields k d ++ time_field f k ++ colour_fields f d ++ extra_bytes n k) rest
