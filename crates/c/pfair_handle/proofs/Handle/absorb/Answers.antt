use Rattle.pfair_handle.proofs.Handle.absorb.Goals as goal

pub returns-clause-fault : goal.returns-clause-fault
returns-clause-fault c = rw (c.take-served.ensures.taken, c.take-from.ensures.taken, ← c.deref_mut.ensures.value, ← c.deref.ensures, ← c.replica.ensures.value) c.absorb-answer.ensures.fault
