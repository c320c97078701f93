use Rattle.pfair_desk.proofs.Common.{Logged, KnowMore, ◌≡◌, ◌<◌, ℕ, None, Some, slice_index_or}
use Rattle.pfair_desk.proofs.NotedLemmas.{says}
use Rattle.pfair_desk.proofs.board.Notes.share.Given as goal

-- what the other list knows of the cells so far is known
abbrev pub invariant-loop-place : goal.invariant-loop-place
invariant-loop-place l = record {
  mine : KnowMore l.fn.self (says l.self-inside.notes.items);
  theirs : (p : ℕ) (e : Logged) → p < l.place → slice_index_or l.other.known p None ≡ Some e → slice_index_or (says l.self-inside.notes.items).known p None ≡ Some e;
}
