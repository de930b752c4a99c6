use Rattle.std.proofs.Common.{◌≡◌, List, ◌<◌, length, slice_index_or, refl, sym, subst}
use Rattle.las_outside.specs.declared.known_files.KnownFile.{KnownFile}
use Rattle.las_outside.proofs.known_files.KnownFiles.has_output.Goals as goal

pub returns-then-is_output_named : goal.returns-then-is_output_named
returns-then-is_output_named c _ =
    let found = c.file-item.result in
    let index = c.loop-file.file-index in
    let same = c.deref-file-items.ensures.value in (
      index,
      found,
      subst (λ (files : List KnownFile). index < length files) same c.loop-file-test.true,
      subst (λ (files : List KnownFile). slice_index_or files index found ≡ found) same (sym c.file-item.is),
      c.if-is_output_named.ensures refl,
    )
