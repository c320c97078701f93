use Rattle.pfair_desk.proofs.Common.{cell_name, ◌≡◌, map, take, replicate, None}
use Rattle.pfair_desk.proofs.board.Notes.of.Given as goal

abbrev pub invariant-loop-cell : goal.invariant-loop-cell
invariant-loop-cell l = record {
  names : map (λ n. n.cell) l.notes.items ≡ take l.cell-index (map cell_name l.cells);
  blank : map (λ n. n.known) l.notes.items ≡ replicate l.cell-index None;
}
