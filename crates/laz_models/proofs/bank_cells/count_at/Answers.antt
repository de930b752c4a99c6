use Rattle.std.proofs.Common.{◌+◌, ◌<◌, length, arith}
use Rattle.std.proofs.lemmas.List.{get_or_read}
use Rattle.laz_models.proofs.Places.{adds_at, count-fits-at}
use Rattle.laz_models.proofs.bank_cells.count_at.Goals as goal

pub overflow_add-index_mut : goal.overflow_add-index_mut
overflow_add-index_mut c =
    let place = c.args.place.now in
    let within : place.start + c.args.s < length c.args.cells.now.items = omega (arith, c.requires.placed.within, c.requires.placed.model.shape.extent) in
    let read = get_or_read c.args.cells.now.items (place.start + c.args.s) _ within c.index_mut.ensures.value 0 in
    omega (arith, count-fits-at place c.args.cells.now.items c.args.s _ c.requires.placed c.requires.symbol (omega arith) read)

pub returns-clause-after_symbol : goal.returns-clause-after_symbol
returns-clause-after_symbol c =
    let place = c.args.place.now in
    let within : place.start + c.args.s < length c.args.cells.now.items = omega (arith, c.requires.placed.within, c.requires.placed.model.shape.extent) in
    let read = get_or_read c.args.cells.now.items (place.start + c.args.s) _ within c.index_mut.ensures.value 0 in
    (adds_at place c.args.cells.now.items c.args.s _ c.requires.placed c.requires.symbol (omega arith) read).after_symbol

pub returns-clause-good : goal.returns-clause-good
returns-clause-good c =
    let place = c.args.place.now in
    let within : place.start + c.args.s < length c.args.cells.now.items = omega (arith, c.requires.placed.within, c.requires.placed.model.shape.extent) in
    let read = get_or_read c.args.cells.now.items (place.start + c.args.s) _ within c.index_mut.ensures.value 0 in
    (adds_at place c.args.cells.now.items c.args.s _ c.requires.placed c.requires.symbol (omega arith) read).placed
