-- The laws of members, over every machine, slot and list of members.
use Rattle.std.specs.Prelude.{ℕ, ◌≡◌, ◌≢◌, ◌+◌, ◌-◌, ◌*◌, ◌%◌, ◌<◌, ◌≤◌, true, false, List, [], ◌∷◌, ◌++◌, length, map, AllPairs, Some}
use Rattle.std.specs.List.{AllByRecursion}
use Rattle.pfair_weight.specs.Name.{NamesApart}
use Rattle.pfair_weight.specs.Window.{IsWeight, release_of, deadline_of, b_bit_of, group_deadline_of, starts_job_of}
use Rattle.pfair_entry.specs.declared.entry.Announcement.{Announcement}
use Rattle.pfair_admission.specs.declared.decision.Decision.TheVariants.{Refused}
use Rattle.pfair_admission.specs.declared.decision.Refusal.{Refusal}
use Rattle.pfair_admission.specs.Member.{Member, theta, busy_until, freeing_slot, is_delayed_at, eligible_from, next_key}
use Rattle.pfair_admission.specs.Admission.{Machine, claimed, with_delay, decision, decided, boundary, boundary_decisions, ran, IsNotBefore, NoneFreed}
use Rattle.pfair_admission.specs.Carried.{carried, jobs_done, subtasks_done, CanBeCarried, CanBeRestored, IsLeftAt}

-- a name stands once among the members
pub record NamesStayApart : Type 0 where
  pub boundaries : (machine : Machine) (t : ℕ) (members : List Member) (announced : List Announcement) → NamesApart (λ m. m.name) members → NamesApart (λ m. m.name) (boundary machine t members announced)
  pub quanta : (name : List ℕ) (members : List Member) → NamesApart (λ m. m.name) members → NamesApart (λ m. m.name) (ran name members)

-- the members' weights add to no more than the processors
abbrev pub HaveRoom : Machine → List Member → Type 0
HaveRoom machine members = claimed machine.frame members ≤ machine.processors * machine.frame

pub record MembersKeepRoom : Type 0 where
  pub boundaries : (machine : Machine) (t : ℕ) (members : List Member) (announced : List Announcement) → HaveRoom machine members → HaveRoom machine (boundary machine t members announced)
  pub quanta : (machine : Machine) (name : List ℕ) (members : List Member) → HaveRoom machine members → HaveRoom machine (ran name members)
  pub carrying : (machine : Machine) (members : List Member) → HaveRoom machine members → HaveRoom machine (map carried members)

-- a refused announcement changes nothing
abbrev pub RefusalsChangeNothing : Type 0
RefusalsChangeNothing = (machine : Machine) (t : ℕ) (members : List Member) (a : Announcement) (refusal : Refusal) → NoneFreed t members → decision machine t members a ≡ Refused refusal → decided machine t members a ≡ members

-- the members stand in the order in which they joined, all of them by slot t
pub record JoinedInOrder (t : ℕ) (members : List Member) : Type 0 where
  pub in_order : AllPairs (λ m n. m.joined ≤ n.joined) members
  pub by_now : AllByRecursion (λ m. m.joined ≤ t) members

abbrev pub OrderIsKept : Type 0
OrderIsKept = (machine : Machine) (t : ℕ) (members : List Member) (announced : List Announcement) → JoinedInOrder t members → JoinedInOrder t (boundary machine t members announced)

-- each announcement gets one decision
abbrev pub OneDecisionEach : Type 0
OneDecisionEach = (machine : Machine) (t : ℕ) (members : List Member) (announced : List Announcement) → length (boundary_decisions machine t members announced) ≡ length announced

-- an accepted delay moves its subtask and all later ones, and none before
pub record DelaysMoveLaterSubtasks : Type 0 where
  pub later : (m : Member) (index by i : ℕ) → index ≤ i → theta (with_delay index by m) i ≡ theta m i + by
  pub earlier : (m : Member) (index by i : ℕ) → i < index → theta (with_delay index by m) i ≡ theta m i

-- a leaver is freed at its stamp if it never ran, and else neither before it nor before the claim of its last subtask ends
pub record LeaversHoldTheirClaim : Type 0 where
  pub never_ran : (m : Member) (t : ℕ) → m.next ≡ 1 → freeing_slot m t ≡ t
  pub stamp : (m : Member) (t : ℕ) → t ≤ freeing_slot m t
  pub claim : (m : Member) (t : ℕ) → m.next ≢ 1 → busy_until m (m.next - 1) ≤ freeing_slot m t

-- a subtask may run before its release only if the task is early, the subtask doesn't start a job, and no accepted delay has
-- exactly its index, and never before the task has joined
pub record EarlyReleaseKeepsBorders : Type 0 where
  pub not_early : (m : Member) (i : ℕ) → m.early ≡ false → eligible_from m i ≡ release_of m.weight i (theta m i)
  pub at_a_job : (m : Member) (i : ℕ) → starts_job_of m.weight i ≡ true → eligible_from m i ≡ release_of m.weight i (theta m i)
  pub at_a_delay : (m : Member) (i : ℕ) → is_delayed_at m i ≡ true → eligible_from m i ≡ release_of m.weight i (theta m i)
  pub else_joined : (m : Member) (i : ℕ) → m.early ≡ true → starts_job_of m.weight i ≡ false → is_delayed_at m i ≡ false → eligible_from m i ≡ m.joined
  pub no_later : (m : Member) (i : ℕ) → eligible_from m i ≤ release_of m.weight i (theta m i)
  pub joined : (m : Member) (i : ℕ) → m.joined ≤ eligible_from m i

-- a member that is carried has run if it had, starts within its first job and the subtask after, and is carried again as it is
pub record CarriedMembersStay : Type 0 where
  pub ran : (m : Member) → 2 ≤ m.next → 2 ≤ (carried m).next
  pub first_job : (m : Member) → 1 ≤ m.weight.cost → 1 ≤ m.next → (carried m).next ≤ m.weight.cost + 1
  pub again : (m : Member) → carried (carried m) ≡ carried m
  pub able : (m : Member) → CanBeCarried m → CanBeCarried (carried m)

-- what is not over yet of a member that is carried stands where it stood: its last subtask that ran, and all later ones, are as
-- many subtasks earlier as are done, and their windows lie in the same slots
pub record CarryingKeepsWindows : Type 0 where
  pub offsets : (m : Member) (j : ℕ) → 1 ≤ j → m.next ≤ j + subtasks_done m + 1 → theta (carried m) j ≡ theta m (j + subtasks_done m) + jobs_done m * m.weight.period
  pub releases : (m : Member) (j : ℕ) → IsWeight m.weight.cost m.weight.period → 1 ≤ j → m.next ≤ j + subtasks_done m + 1 → release_of m.weight j (theta (carried m) j) ≡ release_of m.weight (j + subtasks_done m) (theta m (j + subtasks_done m))
  pub deadlines : (m : Member) (j : ℕ) → IsWeight m.weight.cost m.weight.period → 1 ≤ j → m.next ≤ j + subtasks_done m + 1 → deadline_of m.weight j (theta (carried m) j) ≡ deadline_of m.weight (j + subtasks_done m) (theta m (j + subtasks_done m))
  pub group_deadlines : (m : Member) (j : ℕ) → IsWeight m.weight.cost m.weight.period → 1 ≤ j → m.next ≤ j + subtasks_done m + 1 → group_deadline_of m.weight j (theta (carried m) j) ≡ group_deadline_of m.weight (j + subtasks_done m) (theta m (j + subtasks_done m))
  pub b_bits : (m : Member) (j : ℕ) → IsWeight m.weight.cost m.weight.period → b_bit_of m.weight j ≡ b_bit_of m.weight (j + subtasks_done m)
  pub starts : (m : Member) (j : ℕ) → 1 ≤ j → starts_job_of m.weight j ≡ starts_job_of m.weight (j + subtasks_done m)
  pub delayed : (m : Member) (j : ℕ) → 2 ≤ j → m.next ≤ j + subtasks_done m → is_delayed_at (carried m) j ≡ is_delayed_at m (j + subtasks_done m)
  pub next : (m : Member) → IsWeight m.weight.cost m.weight.period → 1 ≤ m.next → next_key (carried m) ≡ next_key m
  pub busy : (m : Member) → IsWeight m.weight.cost m.weight.period → 2 ≤ m.next → busy_until (carried m) ((carried m).next - 1) ≡ busy_until m (m.next - 1)
  pub freed : (m : Member) (t : ℕ) → IsWeight m.weight.cost m.weight.period → 1 ≤ m.next → freeing_slot (carried m) t ≡ freeing_slot m t

-- each member's period divides the frame
abbrev pub AreInFrame : Machine → List Member → Type 0
AreInFrame machine members = AllByRecursion (λ m. machine.frame % m.weight.period ≡ 0) members

pub record PeriodsStayInFrame : Type 0 where
  pub boundaries : (machine : Machine) (t : ℕ) (members : List Member) (announced : List Announcement) → AreInFrame machine members → AreInFrame machine (boundary machine t members announced)
  pub quanta : (machine : Machine) (name : List ℕ) (members : List Member) → AreInFrame machine members → AreInFrame machine (ran name members)
  pub carrying : (machine : Machine) (members : List Member) → AreInFrame machine members → AreInFrame machine (map carried members)

-- members that are restored one behind the other have distinct names, room and periods that divide the frame, and carrying leaves each
-- of them as it is
pub record RestoredMembersAreCarried : Type 0 where
  pub named : (machine : Machine) (t : ℕ) (members : List Member) (m : Member) → CanBeRestored machine t members m → NamesApart (λ m. m.name) members → NamesApart (λ m. m.name) (members ++ m ∷ [])
  pub room : (machine : Machine) (t : ℕ) (members : List Member) (m : Member) → CanBeRestored machine t members m → HaveRoom machine (members ++ m ∷ [])
  pub in_frame : (machine : Machine) (t : ℕ) (members : List Member) (m : Member) → CanBeRestored machine t members m → AreInFrame machine members → AreInFrame machine (members ++ m ∷ [])
  pub left : (machine : Machine) (t : ℕ) (members : List Member) (m : Member) → CanBeRestored machine t members m → AllByRecursion (IsLeftAt t) members → AllByRecursion (IsLeftAt t) (members ++ m ∷ [])
  pub again : (t : ℕ) (members : List Member) → AllByRecursion (IsLeftAt t) members → map carried members ≡ members
  pub able : (t : ℕ) (members : List Member) → AllByRecursion (IsLeftAt t) members → AllByRecursion CanBeCarried members

-- carried members that had joined and weren't freed before slot t can be restored, each behind those before it
pub record CarriedMembersAreRestored : Type 0 where
  pub left : (t : ℕ) (m : Member) → IsWeight m.weight.cost m.weight.period → CanBeCarried m → 1 ≤ m.next → (carried m).joined < t → IsNotBefore (Some t) m.freed_at → IsLeftAt t (carried m)
  pub in_turn : (machine : Machine) (t : ℕ) (before after : List Member) (m : Member) → NamesApart (λ m. m.name) (before ++ m ∷ after) → HaveRoom machine (before ++ m ∷ after) → machine.frame % m.weight.period ≡ 0 → IsLeftAt t m → CanBeRestored machine t before m
