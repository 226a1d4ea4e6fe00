-- To write the cells from the index on, and LF, is to write the row.
use Rattle.format.specs.Bytes.{hex_line}
use mathlib.Core.List.{flat_map}
use Rattle.generator.specs.Promises.{cell_bytes}
use Rattle.generator.proofs.Rows.{Left, cells_from}
use Rattle.generator.proofs.row.Given as goal

abbrev pub invariant-loop-x : goal.invariant-loop-x
invariant-loop-x l = Left l.fn.out l.fn.at (hex_line (flat_map (cell_bytes l.i) l.xs)) l.out l.at (cells_from l.i l.xs l.x-index)
