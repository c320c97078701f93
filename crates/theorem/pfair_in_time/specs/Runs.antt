-- That no admitted task misses its deadline, in a first run and in each one that follows.
use Rattle.std.specs.Prelude.{ℕ, ◌≡◌, ◌<◌, ◌≤◌, false, suc, ◌-◌, nat_lt, List, [], ◌∷◌, Some, None, if◌then◌else◌, length, map, slice_get, ℤ, filter, pos, neg_ℤ, ◌<ℤ◌, ◌+◌}
use Rattle.pfair_weight.specs.Window.{release_of, deadline_of, Share, IsWeight}
use Rattle.pfair_admission.specs.Member.{Member, theta, is_departing, lag_at}
use Rattle.pfair_table.specs.declared.slot.Pick.{Pick}
use Rattle.std.specs.List.{AllByRecursion}
use Rattle.pfair_replica.specs.Laws.{Among}
use Rattle.pfair_replica.specs.Replica.{Replica, IsReplica, said, replica_of, Untorn, numbers_below}
use Rattle.pfair_table.specs.NextRun.{left_over, left_by}
use Rattle.pfair_table.specs.Table.{Settings, Origin, Story, Table, slot_of, history, world, table, decisions, names_task}
use Rattle.pfair_table.specs.declared.run.Event.{Event}
use Rattle.pfair_table.specs.Events.{IsEvent, begin_at, run}
use Rattle.pfair_table.specs.Places.{IsSettings}
use Rattle.pfair_table.specs.Refinement.{Dispatch, HavePlannedAlike}
use Rattle.pfair_weight.specs.Name.{NameValue}
use Rattle.pfair_lag.specs.Book.{Tally, lag_of}
use Rattle.pfair_output.specs.Lags.{is_staying, all_slots_booked, first_book}
use Rattle.pfair_lag.specs.Lag.{ArePicks, InWindows, MeetsDeadlines}

-- A row that is in time.

-- a row is that of a member's next subtask, in a slot before its deadline and, unless the task is early, from its release on
pub record IsInTime (t : ℕ) (p : Pick) (m : Member) : Type 0 where
  pub name : p.name ≡ m.name
  pub index : p.index ≡ m.next
  pub before_deadline : t < deadline_of m.weight m.next (theta m m.next)
  pub released : m.early ≡ false → release_of m.weight m.next (theta m m.next) ≤ t

-- a run that is over: how many slots it had, and what was held of its logs
pub record Past : Type 0 where
  pub slots : ℕ
  pub contents : Replica

-- where the run after these begins, of which the last one stands first; all have the processors and the frame of the settings
abbrev pub origin_after : Settings → List Past → Origin
origin_after s [] = None
origin_after s (r ∷ earlier) = Some (left_over (origin_after s earlier) s (said r.contents) r.slots)

-- A run by what a replica holds, after these: replicas hold what their contracts say.
pub record IsRunAfter (earlier : List Past) (s : Settings) (x : Replica) : Type 0 where
  pub frame : 0 < s.frame
  pub replica : IsReplica x
  pub replicas : AllByRecursion (λ r. IsReplica r.contents) earlier

-- Each row of slot t of a run is in time, and after it the next subtask of each member that isn't departing is due after the slot's end.
pub record IsServed (o : Origin) (s : Settings) (story : Story) (t : ℕ) : Type 0 where
  pub rows_in_time : (p : Pick) → Among (table o s story t) p → (m : Member) × Among (world o s story t) m × IsInTime (slot_of o t) p m
  pub none_misses : (m : Member) → Among (history o s story (suc t)).members m → is_departing m ≡ false → suc (slot_of o t) < deadline_of m.weight m.next (theta m m.next)

-- None misses: so it is in each slot of each run.
abbrev pub NoneMisses : Type 0
NoneMisses = (earlier : List Past) (s : Settings) (x : Replica) → IsRunAfter earlier s x → (t : ℕ) → IsServed (origin_after s earlier) s (said x) t

-- the table of a slot that is counted from the first run's first slot, in whichever run it lies
abbrev pub table_through : Settings → List Past → Story → ℕ → Table
table_through s [] story u = table None s story u
table_through s (r ∷ earlier) story u =
    let o = origin_after s (r ∷ earlier) in
    if nat_lt u (slot_of o 0) then table_through s earlier (said r.contents) u else table o s story (u - slot_of o 0)

-- That no admitted task misses by what a dispatcher has planned, in whichever run it is.

-- slot t was planned by the contents, and no member misses in it
pub record IsServedSlot (o : Origin) (s : Settings) (x : Replica) (tables : List Table) (t : ℕ) : Type 0 where
  pub table_is : slice_get tables t ≡ Some (table o s (said x) t)
  pub served : IsServed o s (said x) t

-- Dispatchers never miss: after any runs, of settings with a frame, after any events, while nothing that is held is torn, so is each slot
-- that was planned.
abbrev pub DispatchersNeverMiss : Type 0
DispatchersNeverMiss =
    (earlier : List Past) (s : Settings) (capacity : ℕ) (events : List Event) → 0 < s.frame → AllByRecursion (λ r. IsReplica r.contents) earlier → AllByRecursion IsEvent events
    → let o = origin_after s earlier in let c = run s (begin_at o s capacity) events in
    Untorn c.replica → (t : ℕ) → t < length c.tables → IsServedSlot o s c.replica c.tables t

-- what the calls of a dispatcher in hand ensure
pub record IsInHand (d : Dispatch) : Type 0 where
  pub settings : IsSettings d.settings  -- Settings::frame
  pub replica : IsReplica (replica_of d.replica)  -- Replica::processors
  pub alike : HavePlannedAlike d d  -- Dispatcher::plans_alike, with itself

-- `next_run` of e made the dispatcher that is d now, and all else that it ensures is what every call keeps
pub record IsHandedOn (e d : Dispatch) : Type 0 where
  pub settings : d.settings ≡ record e.settings { slots = d.settings.slots }  -- next_run's clause `settings`
  pub origin : d.origin ≡ Some (left_by e)  -- and its clause `course`
  pub replica : IsReplica (replica_of e.replica)

-- d is in its first run, or was handed on from one dispatcher to the next, of which the last one stands first
abbrev pub HandedOn : List Dispatch → Dispatch → Type 0
HandedOn [] d = d.origin ≡ None
HandedOn (e ∷ earlier) d = IsHandedOn e d × HandedOn earlier e

-- Of a dispatcher in hand in any run, whatever was called on it: while nothing that it holds is torn, so is each slot that it has planned.
abbrev pub NeverMisses : Type 0
NeverMisses =
    (earlier : List Dispatch) (d : Dispatch) → IsInHand d → HandedOn earlier d → Untorn (replica_of d.replica) → (t : ℕ) → t < length d.tables
    → IsServedSlot d.origin d.settings (replica_of d.replica) d.tables t

-- the run of a dispatcher, once it is over
abbrev pub past_of : Dispatch → Past
past_of e = record { slots = e.settings.slots; contents = replica_of e.replica }

-- What was handed on from run to run is a run after those runs, so that all laws of runs speak of it.
abbrev pub DispatchersRunOn : Type 0
DispatchersRunOn = (earlier : List Dispatch) (d : Dispatch) → HandedOn earlier d → (d.origin ≡ origin_after d.settings (map past_of earlier)) × AllByRecursion (λ r. IsReplica r.contents) (map past_of earlier)

-- How far the lags of members go.

-- a member's lag at a time is below one quantum and, unless the task is early, above minus one
pub record IsWithinOne (time : ℕ) (m : Member) : Type 0 where
  pub below : lag_at time m <ℤ pos m.weight.period
  pub above : m.early ≡ false → neg_ℤ (pos m.weight.period) <ℤ lag_at time m

-- Lags stay within one, in any run: after each slot, those of members that aren't departing and have no delay.
abbrev pub LagsStayWithinOne : Type 0
LagsStayWithinOne =
    (earlier : List Past) (s : Settings) (x : Replica) → IsRunAfter earlier s x → (t : ℕ)
    → let o = origin_after s earlier in
    (m : Member) → Among (history o s (said x) (suc t)).members m → is_departing m ≡ false → m.delays ≡ []
    → IsWithinOne (suc (slot_of o t)) m

-- what a book has of a task, and what it is of a member: the name, the lag and the period
abbrev pub lag_shown : NameValue × Tally → NameValue × ℤ × ℕ
lag_shown e = (e.0, (lag_of e.1).0, (lag_of e.1).1)

abbrev pub member_lag : ℕ → Member → NameValue × ℤ × ℕ
member_lag time m = (m.name, lag_at time m, m.weight.period)

-- Books show lags: one that begins as a run does, and is notified of the decisions and the tables of its first slots, has the members that
-- stay, in their order, each with its lag and its period.
abbrev pub BooksShowLags : Type 0
BooksShowLags =
    (earlier : List Past) (s : Settings) (x : Replica) → IsRunAfter earlier s x → (t : ℕ)
    → let o = origin_after s earlier in
    map lag_shown (all_slots_booked (first_book o) (map (decisions o s (said x)) (numbers_below t)) (map (table o s (said x)) (numbers_below t))).entered
    ≡ map (member_lag (slot_of o t)) (filter is_staying (history o s (said x) t).members)

-- Where the slots are in which a member runs, over all runs.

-- how many slots there are from the slot from which a member counts its subtasks to the end of a slot
abbrev pub slots_since : ℕ → Member → ℕ
slots_since slot m = suc slot - m.joined

-- those of them in which it ran, counted from there
abbrev pub slots_run : Settings → List Past → Story → ℕ → Member → List ℕ
slots_run s earlier story slot m = filter (λ k. names_task m.name (table_through s earlier story (m.joined + k))) (numbers_below (slots_since slot m))

-- each of the picks is in its window, and no subtask that was due is missing
pub record KeepsWindows (w : Share) (picks : List ℕ) (horizon : ℕ) : Type 0 where
  pub weight : IsWeight w.cost w.period
  pub are_picks : ArePicks picks horizon
  pub windows : InWindows w picks horizon

-- each of the picks is before its deadline, and no subtask that was due is missing
pub record KeepsDeadlines (w : Share) (picks : List ℕ) (horizon : ℕ) : Type 0 where
  pub weight : IsWeight w.cost w.period
  pub are_picks : ArePicks picks horizon
  pub deadlines : MeetsDeadlines w picks horizon

-- Deadlines are kept, in any run: of a member that isn't departing and has no delay, early or not.
abbrev pub DeadlinesAreKept : Type 0
DeadlinesAreKept =
    (earlier : List Past) (s : Settings) (x : Replica) → IsRunAfter earlier s x → (t : ℕ)
    → let o = origin_after s earlier in
    (m : Member) → Among (world o s (said x) t) m → is_departing m ≡ false → m.delays ≡ []
    → KeepsDeadlines m.weight (slots_run s earlier (said x) (slot_of o t) m) (slots_since (slot_of o t) m)

-- Windows are kept: the same of one that isn't early, and none of its subtasks ran before its release.
abbrev pub WindowsAreKept : Type 0
WindowsAreKept =
    (earlier : List Past) (s : Settings) (x : Replica) → IsRunAfter earlier s x → (t : ℕ)
    → let o = origin_after s earlier in
    (m : Member) → Among (world o s (said x) t) m → is_departing m ≡ false → m.delays ≡ [] → m.early ≡ false
    → KeepsWindows m.weight (slots_run s earlier (said x) (slot_of o t) m) (slots_since (slot_of o t) m)
