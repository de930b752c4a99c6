use Rattle.std.proofs.Common.{arith}
use Rattle.laz_models.proofs.Lookups.{search_bits-sum, counts-one, counts-none}
use Rattle.laz_models.proofs.bank_cells.search_bits.Goals as goal

pub returns-in-0-to-8 : goal.returns-in-0-to-8
returns-in-0-to-8 c =
    let n = c.args.size in
    omega (arith, search_bits-sum n, counts-none 8 n (omega arith), counts-none 16 n (omega arith), counts-none 32 n (omega arith), counts-none 64 n (omega arith), counts-none 128 n (omega arith), counts-none 256 n (omega arith), counts-none 512 n (omega arith), counts-none 1024 n (omega arith))

pub returns-in-0-to-16 : goal.returns-in-0-to-16
returns-in-0-to-16 c =
    let n = c.args.size in
    omega (arith, search_bits-sum n, counts-one 8 n (omega arith), counts-none 16 n (omega arith), counts-none 32 n (omega arith), counts-none 64 n (omega arith), counts-none 128 n (omega arith), counts-none 256 n (omega arith), counts-none 512 n (omega arith), counts-none 1024 n (omega arith))

pub returns-in-0-to-32 : goal.returns-in-0-to-32
returns-in-0-to-32 c =
    let n = c.args.size in
    omega (arith, search_bits-sum n, counts-one 8 n (omega arith), counts-one 16 n (omega arith), counts-none 32 n (omega arith), counts-none 64 n (omega arith), counts-none 128 n (omega arith), counts-none 256 n (omega arith), counts-none 512 n (omega arith), counts-none 1024 n (omega arith))

pub returns-in-0-to-64 : goal.returns-in-0-to-64
returns-in-0-to-64 c =
    let n = c.args.size in
    omega (arith, search_bits-sum n, counts-one 8 n (omega arith), counts-one 16 n (omega arith), counts-one 32 n (omega arith), counts-none 64 n (omega arith), counts-none 128 n (omega arith), counts-none 256 n (omega arith), counts-none 512 n (omega arith), counts-none 1024 n (omega arith))

pub returns-in-0-to-128 : goal.returns-in-0-to-128
returns-in-0-to-128 c =
    let n = c.args.size in
    omega (arith, search_bits-sum n, counts-one 8 n (omega arith), counts-one 16 n (omega arith), counts-one 32 n (omega arith), counts-one 64 n (omega arith), counts-none 128 n (omega arith), counts-none 256 n (omega arith), counts-none 512 n (omega arith), counts-none 1024 n (omega arith))

pub returns-in-0-to-256 : goal.returns-in-0-to-256
returns-in-0-to-256 c =
    let n = c.args.size in
    omega (arith, search_bits-sum n, counts-one 8 n (omega arith), counts-one 16 n (omega arith), counts-one 32 n (omega arith), counts-one 64 n (omega arith), counts-one 128 n (omega arith), counts-none 256 n (omega arith), counts-none 512 n (omega arith), counts-none 1024 n (omega arith))

pub returns-in-0-to-512 : goal.returns-in-0-to-512
returns-in-0-to-512 c =
    let n = c.args.size in
    omega (arith, search_bits-sum n, counts-one 8 n (omega arith), counts-one 16 n (omega arith), counts-one 32 n (omega arith), counts-one 64 n (omega arith), counts-one 128 n (omega arith), counts-one 256 n (omega arith), counts-none 512 n (omega arith), counts-none 1024 n (omega arith))

pub returns-in-0-to-1024 : goal.returns-in-0-to-1024
returns-in-0-to-1024 c =
    let n = c.args.size in
    omega (arith, search_bits-sum n, counts-one 8 n (omega arith), counts-one 16 n (omega arith), counts-one 32 n (omega arith), counts-one 64 n (omega arith), counts-one 128 n (omega arith), counts-one 256 n (omega arith), counts-one 512 n (omega arith), counts-none 1024 n (omega arith))

pub returns-in_default : goal.returns-in_default
returns-in_default c =
    let n = c.args.size in
    omega (arith, search_bits-sum n, counts-one 8 n (omega arith), counts-one 16 n (omega arith), counts-one 32 n (omega arith), counts-one 64 n (omega arith), counts-one 128 n (omega arith), counts-one 256 n (omega arith), counts-one 512 n (omega arith), counts-one 1024 n (omega arith))
