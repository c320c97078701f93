-- What the calls of the C library answer.
use Rattle.std.specs.Prelude.{ℕ, ⊤, ◌≡◌, true, ◌+◌, ◌≤◌, ◌⊎◌, false, ◌&&◌, nat_eq, nat_lt, nat_le, if◌then◌else◌, length, max, min, zero, suc, ◌<◌, List, Option, Some, MatchOption}
use Rattle.std.specs.declared.option.Option.TheVariants.{None}
use Rattle.pfair_table.specs.Refinement.{Dispatch, course_of, IsStepOf, IsPlanFault, after_fault, plan_fault_number, next_run_fault_number}
use Rattle.pfair_handle.specs.Kept.{Kept, is_kept}
use Rattle.pfair_handle.specs.Behind.{Of, Between, IsAbsorbedTo, IsPartlyAbsorbedTo}
use Rattle.pfair_c.specs.declared.answer.TheConstants.{DONE, NOT_OPEN, MEMORY, NO_ROOM, OPEN_ALREADY, OUT_OF_RANGE}
use Rattle.std.specs.Fn.{Once}
use Rattle.std.specs.List.{AllByRecursion}
use Rattle.pfair_weight.specs.declared.weight.TheConstants.Weight.{MAX_PERIOD}
use Rattle.pfair_weight.specs.declared.window.TheConstants.{MAX_OFFSET}
use Rattle.pfair_replica.specs.Replica.{replica_of, SameShape, has_torn}
use Rattle.pfair_replica.specs.Faults.{IsMergeFaultOf}
use Rattle.pfair_replica.specs.declared.answer.MergeFault.TheVariants.{Memory as OutOfMemory}
use Rattle.pfair_admission.specs.declared.members.TheConstants.Members.{LAST_SLOT}
use Rattle.pfair_admission.specs.Carried.{CanBeCarried}
use Rattle.pfair_table.specs.NextRun.{IsFinished, IsNextRunFault, end_of, members_left, start_after}
use Rattle.pfair_table.specs.declared.answer.NextRunFault.{NextRunFault}
use Rattle.pfair_table.specs.declared.answer.Step.{Step}
use Rattle.pfair_table.specs.declared.answer.Step.TheVariants.{Planned, Waiting, Done}
use Rattle.pfair_table.specs.declared.answer.PlanFault.TheVariants.{Torn}
use Rattle.pfair_table.specs.declared.answer.PlanFault.{PlanFault}
use Rattle.pfair_table.specs.declared.run.Event.TheVariants.{Plan}
use Rattle.pfair_table.specs.declared.script.TheConstants.Script.{LONGEST_LOG}
use Rattle.pfair_table.specs.declared.settings.TheConstants.Settings.{MAX_SLOTS}
use Rattle.pfair_table.specs.Table.{Settings}
use Rattle.pfair_table.specs.Places.{IsSettings}
use Rattle.pfair_table.specs.Events.{begin_at, happens, Course}
use Rattle.pfair_c.specs.declared.plan.PfairStep.{PfairStep}
use Rattle.pfair_c.specs.declared.window.TheConstants.{LAST_SUBTASK}
use Rattle.pfair_weight.specs.Window.{Share}
use Rattle.pfair_lag.specs.Lag.{ArePicks, IsFaultOf, pick_fault_number}
use Rattle.pfair_lag.specs.declared.fault.PickFault.{PickFault}
use Rattle.pfair_lag.specs.declared.fault.PickFault.TheVariants.{PicksNotRising, PickPastHorizon}
use Rattle.pfair_lag.specs.declared.windows.Miss.{Miss}
use Rattle.pfair_lag.specs.declared.windows.Miss.TheVariants.{Early, Tardy, Unserved}
use Rattle.pfair_lag.specs.declared.TheConstants.{MAX_HORIZON}
use Rattle.pfair_c.specs.declared.misses.PfairMiss.{PfairMiss}
use denote.Ref.{Bor, MutBor}

-- What an export answers, by what its handle has.

-- the outputs of a call that has none
abbrev pub nothing : ⊤
nothing = tt

-- a call reads: with no dispatcher it answers 102, and its outputs are untouched; with one, this holds of the dispatcher, the answer, and the
-- outputs before and after. In both cases what the handle has is unchanged
pub record Reads {A : Type 0} (before after : Kept) (answer : ℕ) (old new : A) (Says : Dispatch → ℕ → A → A → Type 0) : Type 0 where
  pub closed : before ≡ None → (answer ≡ NOT_OPEN) × (new ≡ old)
  pub opened : is_kept before ≡ true → Of before (λ d. Says d answer old new)
  pub unchanged : after ≡ before

-- a call changes: with no dispatcher it answers 102, none is there afterwards, and its outputs are untouched; with one it answers anything else,
-- and this holds of the dispatcher before and after, the answer, and the outputs before and after
pub record Changes {A : Type 0} (before after : Kept) (answer : ℕ) (old new : A) (Makes : Dispatch → Dispatch → ℕ → A → A → Type 0) : Type 0 where
  pub closed : before ≡ None → (answer ≡ NOT_OPEN) × (after ≡ None) × (new ≡ old)
  pub opened : is_kept before ≡ true → (answer ≡ NOT_OPEN → ⊥) × Between before after (λ d e. Makes d e answer old new)

-- the call answers 0 and writes this of the dispatcher
abbrev pub IsGiven : {A : Type 0} → (Dispatch → A) → Dispatch → (answer : ℕ) → (old new : A) → Type 0
IsGiven f d answer old new = (answer ≡ DONE) × (new ≡ f d)

-- the call answers this of the dispatcher, and if that is 0 it writes this over what stood there; else its outputs are untouched
abbrev pub IsGivenIf : {A : Type 0} → (Dispatch → ℕ) → (Dispatch → A → A) → Dispatch → (answer : ℕ) → (old new : A) → Type 0
IsGivenIf answered f d answer old new = (answer ≡ answered d) × (answer ≡ DONE → new ≡ f d old) × ((answer ≡ DONE → ⊥) → new ≡ old)

-- f at the dispatcher d and the output a may give this answer, and leave e and a'
pub record Writes {F A : Type 0}
    (g : Once F (MutBor Dispatch × (MutBor A × Unit {0})) (ℕ × (MutBor Dispatch × (MutBor A × Unit {0}))))
    (f : F) (d e : Dispatch) (answer : ℕ) (a a' : A) : Type 0 where
  pub shown : MutBor Dispatch
  pub shown_a : MutBor A
  pub left : MutBor Dispatch
  pub left_a : MutBor A
  pub met : g.post f (shown, (shown_a, tt)) (answer, (left, (left_a, tt)))
  pub shows : (shown.now ≡ d) × (shown_a.now ≡ a)
  pub leaves : (left.now ≡ e) × (left_a.now ≡ a')

-- f at the dispatcher d, a and b may give this answer, and leave a' and b'
pub record GivesRows {F A B : Type 0}
    (g : Once F (Bor Dispatch × (MutBor A × (MutBor B × Unit {0}))) (ℕ × (MutBor A × (MutBor B × Unit {0}))))
    (f : F) (d : Dispatch) (a : A) (b : B) (answer : ℕ) (a' : A) (b' : B) : Type 0 where
  pub shown : Bor Dispatch
  pub shown_a : MutBor A
  pub shown_b : MutBor B
  pub left_a : MutBor A
  pub left_b : MutBor B
  pub met : g.post f (shown, (shown_a, (shown_b, tt))) (answer, (left_a, (left_b, tt)))
  pub shows : (shown.now ≡ d) × (shown_a.now ≡ a) × (shown_b.now ≡ b)
  pub leaves : (left_a.now ≡ a') × (left_b.now ≡ b')

-- the answer of a call on the weight cost/period: 4 to 6 if there is no such weight, else this
abbrev pub weight_answer : (cost period answer : ℕ) → ℕ
weight_answer cost period answer =
    if nat_eq cost 0 then 4 else (if nat_lt period cost then 5 else (if nat_lt MAX_PERIOD period then 6 else answer))

-- the answer of `pfair_window`: 100 if the subtask or the offset is out of its range
abbrev pub window_answer : (cost period index theta : ℕ) → ℕ
window_answer cost period index theta =
    weight_answer cost period (if nat_le 1 index && nat_le index LAST_SUBTASK && nat_le theta MAX_OFFSET then DONE else OUT_OF_RANGE)

-- the answer of `pfair_windows`: 100 if a subtask or the offset is out of its range, 103 if there are fewer rows than windows
abbrev pub windows_answer : (cost period first count theta room : ℕ) → ℕ
windows_answer cost period first count theta room =
    weight_answer cost period
    (if nat_le 1 first && nat_le (first + count) (LAST_SUBTASK + 1) && nat_le theta MAX_OFFSET
    then (if nat_le count room then DONE else NO_ROOM) else OUT_OF_RANGE)

-- settings and a capacity that a dispatcher can have
abbrev pub IsOpenable : Settings → ℕ → Type 0
IsOpenable s capacity = IsSettings s × (1 ≤ capacity) × (capacity ≤ LONGEST_LOG)

-- a new dispatcher
abbrev pub IsStarted : Settings → ℕ → Dispatch → Type 0
IsStarted s capacity d = (course_of d ≡ begin_at None s capacity) × (d.spent ≡ false) × (d.settings ≡ s)

-- what `pfair_open` answers
pub record IsOpenAnswer (s : Settings) (capacity : ℕ) (before after : Kept) (answer : ℕ) : Type 0 where
  pub already : is_kept before ≡ true → answer ≡ OPEN_ALREADY
  pub started : answer ≡ DONE → IsOpenable s capacity × Of after (IsStarted s capacity)
  pub memory : answer ≡ MEMORY → IsOpenable s capacity
  pub out_of_range : answer ≡ OUT_OF_RANGE → IsOpenable s capacity → ⊥
  pub only : (answer ≡ DONE → ⊥) → (answer ≡ MEMORY → ⊥) → (answer ≡ OUT_OF_RANGE → ⊥) → (answer ≡ OPEN_ALREADY) × (is_kept before ≡ true)
  pub unchanged : (answer ≡ DONE → ⊥) → after ≡ before

-- ---- the next run

-- the run after that of d has begun, with so many slots, and e is its dispatcher
pub record IsNextRunOf (slots : ℕ) (d e : Dispatch) : Type 0 where
  pub settings : IsSettings (record d.settings { slots = slots }) × (e.settings ≡ record d.settings { slots = slots })
  pub finished : IsFinished d
  pub within : end_of d + slots ≤ LAST_SLOT
  pub able : AllByRecursion CanBeCarried (members_left d)
  pub course : course_of e ≡ start_after d
  pub whole : (e.forgotten ≡ 0) × (e.spent ≡ false)

-- the next run of the dispatcher d has begun, and e is its dispatcher; or the answer is why none begins, and nothing changes
pub record IsNextRunAnswer (slots : ℕ) (d e : Dispatch) (answer : ℕ) : Type 0 where
  pub out_of_range : answer ≡ OUT_OF_RANGE → (1 ≤ slots) × (slots ≤ MAX_SLOTS) → ⊥
  pub begun : answer ≡ DONE → IsNextRunOf slots d e
  pub refused : (answer ≡ DONE → ⊥) → (answer ≡ OUT_OF_RANGE → ⊥) →
      (1 ≤ slots) × (slots ≤ MAX_SLOTS) × (f : NextRunFault) × (answer ≡ next_run_fault_number f) × IsNextRunFault d slots f
  pub unchanged : (answer ≡ DONE → ⊥) → e ≡ d

-- ---- the contents

-- the dispatchers x and o have logs alike, and x takes all that o holds, and is y then
abbrev pub IsJoinedTo : (x o y : Kept) → Type 0
IsJoinedTo x o y = Between x o (λ d e. SameShape d.replica e.replica) × IsAbsorbedTo x o y

-- an allocation failed as x took what o holds; it took a part of that, and is y then
abbrev pub IsPartlyJoinedTo : (x o y : Kept) → Type 0
IsPartlyJoinedTo x o y = Between x o (λ d e. IsMergeFaultOf d.replica e.replica OutOfMemory) × IsPartlyAbsorbedTo x o y

-- ---- plans

-- what so many plans leave, one after another
abbrev pub plans : ℕ → Settings → Course → Course
plans zero s c = c
plans (suc n) s c = happens s (plans n s c) Plan

-- some plans made d into e, and none of them planned a slot that is not below `until`
pub record IsPlannedOn (until : ℕ) (d e : Dispatch) : Type 0 where
  pub count : ℕ
  pub course : course_of e ≡ plans count d.settings (course_of d)
  pub rest : e ≡ record d { tables = e.tables; decided = e.decided }
  pub no_more : length e.tables ≤ max (length d.tables) until

-- nothing that is held is torn, and no plan was refused memory
abbrev pub IsWhole : Dispatch → Type 0
IsWhole d = (has_torn (replica_of d.replica) ≡ false) × (d.spent ≡ false)

-- why the plans ended: all slots below `until` are planned; or fewer are, and of a dispatcher that could plan the next one it is not settled,
-- or none is left
abbrev pub IsStopOf : ℕ → Dispatch → Step → Type 0
IsStopOf until e (Planned slot) = (suc slot ≡ until) × (until ≤ length e.tables)
IsStopOf until e step = (length e.tables < until) × IsWhole e × IsStepOf e step

-- some plans, and then one that was refused
pub record IsStoppedBy (until : ℕ) (fault : PlanFault) (d e : Dispatch) : Type 0 where
  pub before : Dispatch
  pub planned : IsPlannedOn until d before
  pub early : length before.tables < until
  pub cause : IsPlanFault before fault
  pub after : e ≡ after_fault before fault

-- a step as C has it: by its kind and its slot, with no torn entry
abbrev pub step_row : Step → PfairStep
step_row (Planned slot) = record { kind = 0; slot = slot; processor = 0; number = 0 }
step_row (Waiting from) = record { kind = 1; slot = from; processor = 0; number = 0 }
step_row Done = record { kind = 2; slot = 0; processor = 0; number = 0 }

-- a fault as C has it: a torn entry, over what stood there, and else what stood there
abbrev pub fault_row : PlanFault → PfairStep → PfairStep
fault_row (Torn processor number) row = record row { processor = processor; number = number }
fault_row _ row = row

-- the row is that of a step of which this holds
abbrev pub IsStepAs : PfairStep → (Step → Type 0) → Type 0
IsStepAs row P = (s : Step) × (row ≡ step_row s) × P s

-- the answer and the row, before and after, are those of a fault of which this holds
abbrev pub IsFaultAs : (answer : ℕ) → (old new : PfairStep) → (PlanFault → Type 0) → Type 0
IsFaultAs answer old new P = (f : PlanFault) × (answer ≡ plan_fault_number f) × (new ≡ fault_row f old) × P f

-- the dispatcher d planned as this step says, and is e then
pub record IsPlannedTo (row : PfairStep) (d e : Dispatch) : Type 0 where
  pub step : IsStepAs row (IsStepOf d)
  pub whole : IsWhole d
  pub course : course_of e ≡ happens d.settings (course_of d) Plan
  pub rest : e ≡ record d { tables = e.tables; decided = e.decided }

-- what `pfair_plan_next` answers, and what the dispatcher d is then
pub record IsPlanAnswer (d e : Dispatch) (answer : ℕ) (old new : PfairStep) : Type 0 where
  pub planned : answer ≡ DONE → IsPlannedTo new d e
  pub refused : (answer ≡ DONE → ⊥) → IsFaultAs answer old new (λ f. IsPlanFault d f × (e ≡ after_fault d f))

-- what `pfair_plan_to` answers: it planned on to slot `until` - 1 or as far as it could, or refused a plan before that slot was planned
pub record IsPlanToAnswer (until : ℕ) (d e : Dispatch) (answer : ℕ) (old new : PfairStep) : Type 0 where
  pub out_of_range : answer ≡ OUT_OF_RANGE → (until ≡ 0) × (e ≡ d) × (new ≡ old)
  pub planned : answer ≡ DONE → IsPlannedOn until d e × IsStepAs new (IsStopOf until e)
  pub refused : (answer ≡ DONE → ⊥) → (answer ≡ OUT_OF_RANGE → ⊥) → IsFaultAs answer old new (λ f. IsStoppedBy until f d e)

-- the planned slots below `slots` are forgotten
abbrev pub forgetting : (slots : ℕ) → Dispatch → Dispatch
forgetting slots d = record d { forgotten = max d.forgotten (min slots (length d.tables)) }

-- what `pfair_reopen` answers: 0, 30 if something held is torn, or 90
pub record IsReopened (d e : Dispatch) (answer : ℕ) : Type 0 where
  pub only : (answer ≡ DONE) ⊎ ((answer ≡ 30) ⊎ (answer ≡ MEMORY))
  pub torn : answer ≡ 30 → (has_torn (replica_of d.replica) ≡ true) × (e ≡ d)
  pub whole : (answer ≡ 30 → ⊥) → has_torn (replica_of d.replica) ≡ false
  pub done : answer ≡ DONE → e ≡ record d { spent = false }
  pub memory : answer ≡ MEMORY → e ≡ record d { spent = true }

-- What the calls answer that look for the first subtask out of its window.

-- a miss by its kind, its subtask and the slot in which that ran, or none
abbrev pub miss_row : Option Miss → PfairMiss
miss_row None = record { kind = 0; index = 0; slot = 0 }
miss_row (Some (Early index slot)) = record { kind = 1; index = index; slot = slot }
miss_row (Some (Tardy index slot)) = record { kind = 2; index = index; slot = slot }
miss_row (Some (Unserved index)) = record { kind = 3; index = index; slot = 0 }

-- the answer before the picks are read: 4 to 6 if there is no such weight, 100 if the horizon is too far, else 0
abbrev pub asked_answer : (cost period horizon : ℕ) → ℕ
asked_answer cost period horizon = weight_answer cost period (if nat_le horizon MAX_HORIZON then DONE else OUT_OF_RANGE)

-- the place at which a list of picks is at fault
abbrev pub fault_place : PickFault → ℕ
fault_place (PicksNotRising at) = at
fault_place (PickPastHorizon at) = at

-- what is answered about the picks of a weight cost/period up to a horizon: that all is well, or the first miss, in the row `miss`, and then
-- the picks rise and end before the horizon; or why the weight and the horizon are refused, or the picks, and these with the place at fault
pub record IsMissAnswer (AllIsWell : Share → List ℕ → ℕ → Type 0) (IsFirst : Share → List ℕ → ℕ → Miss → Type 0) (cost period horizon : ℕ) (picks : List ℕ)
    (answer : ℕ) (miss miss' : PfairMiss) (place place' : ℕ) : Type 0 where
  pub valid : answer ≡ 0 → ArePicks picks horizon
  pub asked : (asked_answer cost period horizon ≡ 0 → ⊥) → answer ≡ asked_answer cost period horizon
  pub found : answer ≡ 0 → (found : Option Miss) × (miss' ≡ miss_row found)
      × MatchOption found (AllIsWell (record { cost = cost; period = period }) picks horizon) (IsFirst (record { cost = cost; period = period }) picks horizon)
  pub fault : asked_answer cost period horizon ≡ 0 → (answer ≡ 0 → ⊥)
      → (f : PickFault) × (answer ≡ pick_fault_number f) × (place' ≡ fault_place f) × IsFaultOf picks horizon f
  pub unchanged : (answer ≡ 0 → ⊥) → miss' ≡ miss
  pub unread : (answer ≡ 40 → ⊥) → (answer ≡ 41 → ⊥) → place' ≡ place
