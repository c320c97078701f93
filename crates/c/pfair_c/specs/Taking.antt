-- Entries of one log, taken one after another.
use Rattle.std.specs.Prelude.{ℕ, suc, ⊤, ◌≡◌, ◌+◌, ◌≤◌, ◌<◌, ◌⊎◌, true, if◌then◌else◌, List, [], ◌∷◌, length, take, slice_get}
use Rattle.std.specs.declared.option.Option.TheVariants.{None, Some}
use Rattle.pfair_lattice.specs.declared.join_map.Flat.TheVariants.{One, Torn as TornContent}
use Rattle.pfair_lattice.specs.Held.{Held}
use Rattle.pfair_entry.specs.Entry.{Logged, entry_eq}
use Rattle.pfair_replica.specs.Replica.{ReplicaRows, held, replica_of, Replica, has_key, taken}
use Rattle.pfair_replica.specs.Faults.{IsTakeFaultOf, take_fault_number}
use Rattle.pfair_replica.specs.declared.answer.Taken.{Taken}
use Rattle.pfair_replica.specs.declared.answer.Taken.TheVariants.{New, Known, Torn}
use Rattle.pfair_replica.specs.declared.answer.TakeFault.{TakeFault}
use Rattle.pfair_table.specs.Refinement.{Dispatch}
use Rattle.pfair_c.specs.Entries.{logged_of, IsMeant, IsEntryFault}
use Rattle.pfair_c.specs.RowsGiven.{key_answer}
use Rattle.pfair_c.specs.declared.answer.TheConstants.{DONE}
use Rattle.pfair_c.specs.declared.entry.PfairEntry.{PfairEntry}
use Rattle.pfair_c.specs.declared.take.PfairTakenLog.{PfairTakenLog}

-- what an entry meets if this is held
abbrev pub met : Held Logged → Logged → Taken
met None e = New
met (Some (One f)) e = if entry_eq f e then Known else Torn
met (Some TornContent) e = Torn

-- one more is taken, which met this
abbrev pub one_more : Taken → PfairTakenLog → PfairTakenLog
one_more New t = record t { taken = suc t.taken; fresh = suc t.fresh }
one_more Known t = record t { taken = suc t.taken; known = suc t.known }
one_more Torn t = record t { taken = suc t.taken; torn = suc t.torn }

-- the contents, and what was counted
pub record Taking : Type 0 where
  pub replica : Replica
  pub counted : PfairTakenLog

-- entry n of the log of k is taken
abbrev pub one_taken : (k n : ℕ) → PfairEntry → Taking → Taking
one_taken k n e s = record { replica = taken s.replica k n (logged_of e); counted = one_more (met (s.replica.at k n) (logged_of e)) s.counted }

-- these are, from number n on
abbrev pub all_taken : (k n : ℕ) → List PfairEntry → Taking → Taking
all_taken k n [] s = s
all_taken k n (e ∷ more) s = all_taken k (suc n) more (one_taken k n e s)

-- each is an entry, and its number is one of the log
abbrev pub AreOfLog : Replica → (k n : ℕ) → List PfairEntry → Type 0
AreOfLog x k n [] = ⊤
AreOfLog x k n (e ∷ more) = IsMeant e × (has_key x k n ≡ true) × AreOfLog x k (suc n) more

-- nothing was taken yet
abbrev pub untaken : Replica → Taking
untaken x = record { replica = x; counted = record { taken = 0; fresh = 0; known = 0; torn = 0 } }

-- the dispatcher d took the first of these entries, as many as are counted, from number n on, and is e then
pub record IsTakenTo (k n : ℕ) (entries : List PfairEntry) (counted : PfairTakenLog) (d e : Dispatch) : Type 0 where
  pub no_more : counted.taken ≤ length entries
  pub sound : AreOfLog (replica_of d.replica) k n (take counted.taken entries)
  pub after : record { replica = replica_of e.replica; counted = counted } ≡ all_taken k n (take counted.taken entries) (untaken (replica_of d.replica))
  pub rest : e ≡ record d { replica = e.replica }

-- why this isn't taken for entry n of the log of k: the first that applies, by its number
abbrev pub IsRefusal : ReplicaRows → (k n : ℕ) → PfairEntry → ℕ → Type 0
IsRefusal x k n e answer =
    IsEntryFault e answer ⊎ (IsMeant e × (f : TakeFault) × (answer ≡ take_fault_number f) × IsTakeFaultOf x k n f)

-- the entry at a place isn't taken, as number n
abbrev pub IsRefusedAt : ReplicaRows → (k n : ℕ) → List PfairEntry → (place answer : ℕ) → Type 0
IsRefusedAt x k n entries place answer =
    (place < length entries) × ((e : PfairEntry) → slice_get entries place ≡ Some e → IsRefusal x k n e answer)

-- ---- what the calls answer

-- how an entry was taken, as C has it
abbrev pub how_number : Taken → ℕ
how_number New = 0
how_number Known = 1
how_number Torn = 2

-- the dispatcher d takes this for entry n of the log of k, and is e then
pub record IsTakenFor (k n : ℕ) (entry : PfairEntry) (how : ℕ) (d e : Dispatch) : Type 0 where
  pub meant : IsMeant entry
  pub key : has_key (replica_of d.replica) k n ≡ true
  pub how_met : how ≡ how_number (met (held d.replica k n) (logged_of entry))
  pub offered : replica_of e.replica ≡ taken (replica_of d.replica) k n (logged_of entry)
  pub rest : e ≡ record d { replica = e.replica }

-- the answer is 0 and it is taken, or why it is refused, and nothing changes
pub record IsTakeAnswer (k n : ℕ) (entry : PfairEntry) (d e : Dispatch) (answer how how' : ℕ) : Type 0 where
  pub done : answer ≡ DONE → IsTakenFor k n entry how' d e
  pub refused : (answer ≡ DONE → ⊥) → IsRefusal d.replica k n entry answer
  pub unchanged : (answer ≡ DONE → ⊥) → (e ≡ d) × (how' ≡ how)

-- the first of these entries are taken and counted, up to the first that is refused: all of them exactly if the answer is 0, else it says why
-- that one is refused, or that there is no log of k or no number n in it
pub record IsTakeLogAnswer (k n : ℕ) (entries : List PfairEntry) (d e : Dispatch) (answer : ℕ) (old new : PfairTakenLog) : Type 0 where
  pub first : IsTakenTo k n entries new d e
  pub no_key : (key_answer d.replica k n ≡ DONE → ⊥) → (answer ≡ key_answer d.replica k n) × (new.taken ≡ 0)
  pub all : answer ≡ DONE → new.taken ≡ length entries
  pub refused : (answer ≡ DONE → ⊥) → key_answer e.replica k n ≡ DONE → IsRefusedAt e.replica k (n + new.taken) entries new.taken answer
