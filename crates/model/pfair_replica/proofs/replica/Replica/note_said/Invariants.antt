use Rattle.pfair_replica.proofs.Common.{replica_of, said_behind, ℕ, ◌≡◌, ◌++◌, List, Said, said_at}
use Rattle.pfair_replica.proofs.replica.Replica.note_said.Given as goal

abbrev pub invariant-loop-place : goal.invariant-loop-place
invariant-loop-place l = (t : ℕ) → (came : List Said) × (said_at l.agenda t ≡ said_at l.initial.agenda t ++ came) × (came ++ said_behind (replica_of l.self) t l.proc l.place ≡ said_behind (replica_of l.self) t l.proc l.from)
