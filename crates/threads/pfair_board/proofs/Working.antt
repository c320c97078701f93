-- What desks hold and plan while workers run, and the faults with which a run may end.
use Rattle.pfair_board.proofs.Common.{held, One, ◌+◌, Settings, ℕ, refl, List, None, AllByRecursion, Table, DeskView, GrownDesk, HasLearned, IsAtWork, arith, ◌∙◌, sym, subst, inl, inr, ⊎_elim, Logged, Dispatch, as_tables, plan, LoggedRun, replica_of_logs, Worked, IsWorkOf, has_kept, ◌≡◌, ◌<◌, [], ◌∷◌, length, slice_get, slice_index_or, Some, Ok, Err, IsOk, IfOk, ap, true≢false, Below, RunFault, BoardFrame, IsGood, ReplicaRows, replica_of, AreWorks, SomeEndsIn, Holds, IsFirstFault, Option, Result, IfErr, IsWorkerFault, Torn, HasPublished, IsTaken, log_of, Replica, IsFit, ◌⊎◌, Bool, HoldsScript, IsRunFaultOf}
use Rattle.pfair_table.specs.Events.{IsOf, OnePlan, OneTable}
use Rattle.pfair_desk.specs.Steps.{Step, IsStep, empty_board, after_steps, desk_replica, DesksAgree, DesksHoldReplicas}
use Rattle.pfair_board.specs.Laws.{DesksPlanAlike, DesksShareAPlan}
use Rattle.pfair_replica.specs.Laws.{IsLeastJoin}
use Rattle.pfair_table.specs.declared.answer.RunFault.TheVariants.{Memory, GateGaveUp, Astray, Stalled}

-- What desks plan follows from what they hold.

-- what a desk holds after steps of this shape is a replica for these settings
desk_is_of : DesksHoldReplicas → (s : Settings) (capacity : ℕ) (steps : List Step) → AllByRecursion (IsStep s.processors capacity) steps → (c : ℕ)
    → IsOf s (desk_replica s.processors capacity (after_steps steps empty_board) c)
desk_is_of replicas s capacity steps all c = record { replica = replicas s.processors capacity steps all c; processors = refl }

pub desks_plan_alike : DesksAgree → DesksHoldReplicas → OneTable → DesksPlanAlike
desks_plan_alike agree replicas one_table s capacity steps all c d t h g =
    let b = after_steps steps empty_board in
    (one_table None s (desk_replica s.processors capacity b c) (desk_replica s.processors capacity b d)
    (desk_is_of replicas s capacity steps all c) (desk_is_of replicas s capacity steps all d)
    (agree steps c d s.processors capacity) t h g).0

pub desks_share_a_plan : DesksAgree → DesksHoldReplicas → OnePlan → DesksShareAPlan
desks_share_a_plan agree replicas one_plan s capacity steps all c d =
    let b = after_steps steps empty_board in
    one_plan None s (desk_replica s.processors capacity b c) (desk_replica s.processors capacity b d)
    (desk_is_of replicas s capacity steps all c) (desk_is_of replicas s capacity steps all d)
    (agree steps c d s.processors capacity)

-- What desks hold while a worker runs.

pub grown_trans : (a b c : DeskView) → GrownDesk a b → GrownDesk b c → GrownDesk a c
grown_trans a b c p q = grind (arith)

pub learned_trans : (a b c : DeskView) → HasLearned a b → HasLearned b c → HasLearned a c
learned_trans a b c p q = record { grown = grown_trans a b c p.grown q.grown; next = q.next ∙ p.next }

-- with one more entry of a log published, that many are held
pub held_more : (first old now : DeskView) (log : List Logged) (n : ℕ) (e : Logged) → GrownDesk first old → GrownDesk old now → old.next_number ≡ first.next_number + n → slice_get log n ≡ Some e
    → held now.replica old.processor old.next_number ≡ Some (One e) → ((i : ℕ) (f : Logged) → i < n → slice_get log i ≡ Some f → held old.replica first.processor (first.next_number + i) ≡ Some (One f))
    → (i : ℕ) (f : Logged) → i < n + 1 → slice_get log i ≡ Some f → held now.replica first.processor (first.next_number + i) ≡ Some (One f)
held_more first old now log n e grown more next at there before i f lt is = grind arith

-- a log that is published is published later, when more was learned
pub published_later : (a b c : DeskView) (log : List Logged) → HasPublished a b log → HasLearned b c → HasPublished a c log
published_later a b c log published learned = grind (arith)

-- what is at work at a desk is at work at what it grows to
pub at_work_later : {K : Type 0} (has : K → ℕ → List Table → Type 0) (a : Dispatch) (sink : K) (d e : DeskView) → IsAtWork has a sink d → GrownDesk d e → IsAtWork has a sink e
at_work_later has a sink d e at_work grown = record {
  first = at_work.first;
  able = at_work.able;
  shape = (at_work.shape.0 ∙ sym grown.processors, at_work.shape.1 ∙ sym grown.capacity);
  below = λ k n c is. ⊎_elim (λ same. inl (grown.kept k n c same)) (λ torn. inr (grown.kept k n Torn torn)) (at_work.below k n c is);
  given = subst (λ row. has sink row a.tables) (sym grown.processor) at_work.given;
}

-- Facts of the works of a run, row by row.

-- the same work of a row that is known by other names
pub work_moves : {K : Type 0} (has : K → ℕ → List Table → Type 0) (m : _) (b b' : BoardFrame) (r r' : LoggedRun) (k k' : ℕ) (w : Worked K) → b ≡ b' → r ≡ r' → k ≡ k' → IsWorkOf has m b r k w → IsWorkOf has m b' r' k' w
work_moves has m b b' r r' k k' w eb er ek h = grind (arith)

-- nothing stands in an empty list
pub none_in_empty : {A : Type 0} (xs : List A) (k : ℕ) (x : A) → xs ≡ [] → slice_get xs k ≡ Some x → ⊥
none_in_empty xs k x empty at = let none : slice_get [] k ≡ Some x = subst (λ ys. slice_get ys k ≡ Some x) empty at in cc none

-- what good work keeps has the plan of the script's replica
pub kept_plan : {K : Type 0} (has : K → ℕ → List Table → Type 0) (r : LoggedRun) (b : BoardFrame) (k : ℕ) (w : Worked K) (kept : K) → IsGood has r b k w → w.kept ≡ Ok kept → has kept k (plan None r.settings (replica_of_logs r.logs))
kept_plan has r b k w kept good is = subst (λ x. IfOk x (λ y. has y k (plan None r.settings (replica_of_logs r.logs)))) is good.plan

-- good work has come to its end
pub not_failed : {K : Type 0} (has : K → ℕ → List Table → Type 0) (r : LoggedRun) (b : BoardFrame) (k : ℕ) (w : Worked K) (f : RunFault) → IsGood has r b k w → w.kept ≡ Err f → ⊥
not_failed {K} has r b k w f good is = let none : IsOk {T = K} (Err f) = subst IsOk is good.kept in true≢false (sym none)

-- tables that are kept fit a run
pub kept_fit : (kept : _) (row : ℕ) (tables : List Table) → has_kept kept row tables → AllByRecursion (IsFit 64) (as_tables kept)
kept_fit kept row tables has = subst (AllByRecursion (IsFit 64)) (sym has.0) has.1

-- the first of a list that isn't empty
pub first_is : {A : Type 0} (xs : List A) (x : A) → 0 < length xs → x ≡ slice_index_or xs 0 x → slice_get xs 0 ≡ Some x
first_is [] x some same = absurd (omega (arith, some))
first_is (y ∷ ys) x some same = ap Some (sym same)

-- replicas of one shape that hold the same are one
pub same_replica : (laws : IsLeastJoin) (x y : Replica) → x.processors ≡ y.processors → x.capacity ≡ y.capacity → Below x y → Below y x → x ≡ y
same_replica laws x y rows row there back = λ i. record { processors = rows i; capacity = row i; at = laws.antisym x y there back i }

-- The first fault of a run's workers is one that the run may end with.

-- a worker that doesn't hold the script's replica, while none failed in another way, is astray
astray : {K : Type 0} (has : K → ℕ → List Table → Type 0) (m : Bool) (r : LoggedRun) (b : BoardFrame) (ws : List (Worked K)) (k : ℕ) (w : Worked K)
    → slice_get ws k ≡ Some w → IsWorkOf has m b r k w → ¬ (SomeEndsIn ws Memory) → ¬ (SomeEndsIn ws GateGaveUp) → ¬ (Holds w (replica_of_logs r.logs))
    → (kept : Result K RunFault) → w.kept ≡ kept → IsTaken w.desk 1 (log_of r k) ⊎ ¬ (HoldsScript r w)
astray has m r b ws k w at work memory gate stray (Ok y) same = inr (λ holds. stray (subst IsOk (sym same) refl, holds.0, holds.1))
astray has m r b ws k w at work memory gate stray (Err Memory) same = absurd (memory (k, w, at, same))
astray has m r b ws k w at work memory gate stray (Err GateGaveUp) same = absurd (gate (k, w, at, same))
astray has m r b ws k w at work memory gate stray (Err Astray) same = inl (subst (λ x. IfErr x (IsWorkerFault m w.desk 1 (log_of r k))) same work.fault)
astray has m r b ws k w at work memory gate stray (Err (Stalled slot)) same = absurd (subst (λ x. IfErr x (IsWorkerFault m w.desk 1 (log_of r k))) same work.fault)

-- the first fault by what a replica in hand is, and by the number of slots, is that by the script
pub first_of : {K : Type 0} {ws ws' : List (Worked K)} {whole taken : ReplicaRows} {n : ℕ} {s : Settings} {f f' : Option RunFault} (r : LoggedRun)
    → ws ≡ ws' → whole ≡ taken → replica_of taken ≡ replica_of_logs r.logs → n ≡ s.slots → s ≡ r.settings → f ≡ f'
    → IsFirstFault ws (replica_of whole) n f → IsFirstFault ws' (replica_of_logs r.logs) r.settings.slots f'
first_of {ws' = ws'} {whole = whole} {n = n} {f = f} r workers taken held slots settings faults is =
    let x = replica_of_logs r.logs in
    subst (IsFirstFault ws' x r.settings.slots) faults
    (subst (λ m. IsFirstFault ws' x m f) (slots ∙ ap (λ (s : Settings). s.slots) settings)
    (subst (λ y. IsFirstFault ws' y n f) (ap replica_of taken ∙ held) (subst (λ v. IsFirstFault v (replica_of whole) n f) workers is)))

pub run_fault : {K : Type 0} (has : K → ℕ → List Table → Type 0) (m : Bool) (r : LoggedRun) (b : BoardFrame) (ws : List (Worked K)) (f : RunFault)
    → AreWorks has m b r ws → IsFirstFault ws (replica_of_logs r.logs) r.settings.slots (Some f) → IsRunFaultOf has m r f
run_fault has m r b ws Memory works is = tt
run_fault has m r b ws GateGaveUp works is =
    let k = is.1.0 in
    let w = is.1.1 in
    (subst (λ x. IfErr x (IsWorkerFault m w.desk 1 (log_of r k))) is.1.3 (works.each k w is.1.2).fault, (b, ws, works, is))
run_fault has m r b ws Astray works is =
    let k = is.2.0 in
    let w = is.2.1 in
    let at = is.2.2 in
    (b, ws, works, (is.0, is.1, (k, w, at, astray has m r b ws k w at (works.each k w at) is.0 is.1 is.2.3 w.kept refl)))
run_fault has m r b ws (Stalled slot) works is = (is.1, is.2, (b, ws, works, is))
