use Rattle.pfair_replica.proofs.Common.{entry_eq, held, held_in, held_join, only, replica_of, arith, below_itself, common_steps, get, inr, nat_cmp, rules, sym, ℕ, ◌∙◌, ◌≡◌, ◌∷◌, [], None, IsReplicaRows, IsSome, One, FlatJoins, MapJoins}
use Rattle.pfair_replica.proofs.Merging.{between_below, full_set, on_err_here, put_held, replica_taken, set_refused}
use Rattle.pfair_replica.proofs.Following.{before_entry}
use Rattle.pfair_replica.specs.Faults.{IsTakenAs}
use Rattle.pfair_replica.proofs.replica.Replica.take.Goals.{After-get_mut, After-put}
use Rattle.pfair_replica.proofs.replica.Replica.take.Goals as goal

-- what the entry meets at its key, from what was known before its row was borrowed
answer : (c : After-get_mut) → IsTakenAs (held c.args.self.now c.args.proc c.args.number) c.args.entry c.match-get.taken
answer c = search rules

module _ (c : After-put) where
  -- the rows, if their row refuses the entry
  refused : (IsSome (get nat_cmp c.in-Some-get_mut.row.now c.args.number) → ⊥) → (get nat_cmp c.in-Some-get_mut.row.now c.args.number ≡ None → c.put.new.self ≡ c.in-Some-get_mut.row.now)
      → c.get_mut.follows.lender c.put.new.self ≡ c.self.inside.rows
  refused = rw (rw c.in-Some-get_mut.is at (c.get_mut.follows.holds c.put.new.self)) (set_refused c.self.inside.rows c.args.proc c.in-Some-get_mut.row.now c.put.new.self (sym c.in-Some-get_mut.ensures.value) c.args.number)

  module _ (j : MapJoins nat_cmp FlatJoins c.in-Some-get_mut.row.now ((c.args.number, One c.args.entry) ∷ []) c.put.new.self) where
    joined : (k n : ℕ) → held_in (c.get_mut.follows.lender c.put.new.self) k n ≡ held_join entry_eq (held_in c.self.inside.rows k n) (only c.args.proc c.args.number c.args.entry k n)
    joined = rw (rw c.in-Some-get_mut.is at (c.get_mut.follows.holds c.put.new.self)) (put_held c.self.inside.rows c.args.proc c.in-Some-get_mut.row.now c.put.new.self (sym c.in-Some-get_mut.ensures.value) c.args.number c.args.entry j)

    rows : IsReplicaRows (record { processors = c.self.inside.processors; capacity = c.self.inside.capacity; rows = c.get_mut.follows.lender c.put.new.self })
    rows = record {
      shape = c.self.invariant.rows.shape;
      full = rw (rw c.in-Some-get_mut.is at (c.get_mut.follows.holds c.put.new.self))
          (full_set c.self.inside.processors c.args.proc c.self.inside.rows c.in-Some-get_mut.row.now c.put.new.self (sym c.in-Some-get_mut.ensures.value) c.put.ensures.ordered c.self.invariant.rows.full);
      entries = replica_taken (replica_of (record { processors = c.self.inside.processors; capacity = c.self.inside.capacity; rows = c.self.inside.rows })) c.args.proc c.args.number c.args.entry _
          c.self.invariant.rows.entries c.floor.ensures.entry (omega arith) (omega arith) (omega arith) joined;
    }

pub invariant_of-self : goal.invariant_of-self
invariant_of-self c = rw (refused (goal.at.invariant_of-self c).After-put c.in_err-put.ensures.memory c.in_err-put.ensures.absent) c.self.invariant

pub returns-in_err-put-clause-unchanged : goal.returns-in_err-put-clause-unchanged
returns-in_err-put-clause-unchanged c = rw (refused (goal.at.returns-in_err-put-clause-unchanged c).After-put c.in_err-put.ensures.memory c.in_err-put.ensures.absent) (on_err_here c.from_residual.result c.self.view_is)

pub returns-in_err-put-clause-grows : goal.returns-in_err-put-clause-grows
returns-in_err-put-clause-grows c = rw (refused (goal.at.returns-in_err-put-clause-grows c).After-put c.in_err-put.ensures.memory c.in_err-put.ensures.absent, ← c.self.view_is) (λ k n. below_itself (held_in c.self.inside.rows k n))

pub follow_entry-requires-clause-before : goal.follow_entry-requires-clause-before
follow_entry-requires-clause-before c =
    let put = (goal.at.follow_entry-requires-clause-before c).After-put in
    before_entry (replica_of (record { processors = c.self.inside.processors; capacity = c.self.inside.capacity; rows = c.self.inside.rows })) c.self.inside.counters.beginnings.items c.self.inside.counters.torn
    c.self.invariant.counters c.args.proc c.args.number c.args.entry _ (omega arith) (rows put c.in_ok-put.ensures.joined).entries (joined put c.in_ok-put.ensures.joined)

pub invariant_of-self-2 : goal.invariant_of-self-2
invariant_of-self-2 c = record { rows = rows (goal.at.invariant_of-self-2 c).After-put c.in_ok-put.ensures.joined; so_many = c.follow_entry.ensures.so_many ∙ c.self.invariant.so_many; counters = c.follow_entry.ensures.counters }

pub returns-clause-taken : goal.returns-clause-taken
returns-clause-taken c = rw (← c.self.view_is) (λ i. record {
  processors = c.self.inside.processors;
  capacity = c.self.inside.capacity;
  at = λ k n. joined (goal.at.returns-clause-taken c).After-put c.in_ok-put.ensures.joined k n i;
})

pub returns-clause-answer : goal.returns-clause-answer
returns-clause-answer c = answer (goal.at.returns-clause-answer c).After-get_mut

pub returns-clause-offered : goal.returns-clause-offered
returns-clause-offered c = λ ok. returns-clause-taken c ∙ rw (← c.self.view_is) (grind (arith, common_steps))

pub returns-clause-grows : goal.returns-clause-grows
returns-clause-grows c = rw (← c.self.view_is) (λ k n. between_below (held_in c.self.inside.rows k n) (only c.args.proc c.args.number c.args.entry k n) _ (inr (joined (goal.at.returns-clause-grows c).After-put c.in_ok-put.ensures.joined k n)))
