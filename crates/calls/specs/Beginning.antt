-- The words where a list of calls begins: no inferred record, no unknown, nothing logged.
use Rattle.std.specs.Prelude.{List, ℕ, set}
use Rattle.work.specs.Layout.{RECORD-COUNT, RECORD-FIELD-COUNT, UNKNOWNS, UNDO-LEN}

unfoldable pub begun_w : List ℕ → List ℕ
begun_w w = set (set (set (set w RECORD-COUNT 0) RECORD-FIELD-COUNT 0) UNKNOWNS 0) UNDO-LEN 0
