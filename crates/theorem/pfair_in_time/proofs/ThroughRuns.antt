-- The slots of all runs in which a member runs are in its windows.
use Rattle.pfair_in_time.proofs.Common.{cases_lt, release_of, deadline_of, starts_job_of, Among, Replica, said, Member, theta, is_departing, theta_rises, Settings, Story, names_task, slot_of, world, table, Past, origin_after, table_through, IsRunAfter, IsServed, NoneMisses, Pick, Key, name_eq, name_itself, among_map, next_key, pick, chosen, index_of, named_from, history, counted, counted_on, slot_more, Origin, IsWeighedStory, lt-ltb, le_refl, among_filter, among_below, numbers_below, lag_at, HasBegun, counted_one, members_before, all_among, entry_exact, entry_eq, Untorn, Agree, last_places, last_table, left_over, machine, slot_after, ◌≡◌, ℕ, zero, suc, ◌+◌, ◌-◌, ◌*◌, ◌<◌, ◌≤◌, Bool, true, false, cond, List, [], length, get_or, max, None, arith, ap, sym, ◌∙◌, subst, inl, inr, is_some, pos, neg_ℤ, ◌<ℤ◌, nat_lt, ◌∷◌, map, Some, refl, ◌⊎◌, deadline_repeats, job_due, job_released, release_repeats, starts_after_jobs, InWindows, MeetsDeadlines, lag_numerator, LagsKeepWindows, LagsKeepDeadlines, said_weighed, slots_since, slots_run, KeepsDeadlines, KeepsWindows, DeadlinesAreKept, WindowsAreKept, IsInTime, BooksShowLags, IsWithinOne, LagsStayWithinOne, DispatchersNeverMiss, DispatchersRunOn, NeverMisses, past_of, found_own, map-map, all_counted, replica_of, carried}
use Rattle.pfair_in_time.proofs.AsRun.{back_to}
use Rattle.pfair_in_time.proofs.LongRun.{HasLater, IsLater, long_story, long_weights, runs_long, world_long, each_weight, begun_after, history_long, runs_in_long}
use Rattle.pfair_in_time.proofs.Windows.{passing, one_more, at_place, passing_rise, fewer_before, runs_at, IsKept, IsUndelayed, kept_at, no_offset_all, served, quanta_passing, slots_of}
use Rattle.pfair_in_time.proofs.Worlds.{here, HaveWeights, any_from_among, chosen_member, on, tables_before}
use Rattle.pfair_in_time.proofs.Executive.{none, in_time, open_from}
use Rattle.pfair_admission.proofs.MemberLists.{each}
use Rattle.pfair_output.specs.Lags.{first_book}
use Rattle.pfair_output.proofs.WorldFacts.{HasJoined, after_all, begins_after, over_slots}
use Rattle.pfair_lattice.specs.declared.join_map.Flat.TheVariants.{Torn}
use Rattle.pfair_lattice.specs.Held.{join_least, below_itself}
use Rattle.pfair_table.specs.Events.{begin_at, run, OneSchedule}
use Rattle.pfair_table.proofs.Runs.{sound_run, sound_start}

-- ---- a member, and the one of the long run that it is

-- if it has no delays, that one has none
pub long_undelayed : (slot k : ℕ) (l m : Member) → IsLater slot k l m → IsUndelayed m → IsUndelayed l
long_undelayed slot k l m later undelayed i =
    let j = max (max 1 m.next) i in
    let far = later.offsets j (omega arith) (omega arith) in
    grind (arith, here, theta_rises)

module _ (s : Settings) (x : Story) (frame : 0 < s.frame) (weights : HaveWeights x) (t k : ℕ) (l : Member) (among : Among (world None s x t) l) (active : is_departing l ≡ false) (undelayed : IsUndelayed l) where
  some : 0 < l.weight.cost
  some = (here s x weights t l among).sound.weight.some_cost

  -- the slots of k jobs, and those behind them
  abbrev before : ℕ
  before = k * l.weight.period

  abbrev pub ran_in : ℕ → ℕ
  ran_in slots = length (passing (runs_at s x l) slots)

  module _ (horizon : ℕ) (until : before + horizon ≡ slots_since t l) where
    kept_in : (slot : ℕ) → slot < slots_since t l → runs_at s x l slot ≡ true → IsKept l slot (1 + ran_in slot)
    kept_in slot less ran =
        let joined = (here s x weights t l among).by_now in
        let p = back_to s x weights t (l.joined + slot) l among (omega arith) (omega (arith, less, joined)) in
        kept_at s x frame weights t slot l p.0 p.1 p.2 undelayed ran

    -- no more than the subtasks of those jobs ran in them, since the next one starts a job
    no_more : ran_in before ≤ k * l.weight.cost
    no_more = elim (cases_lt (k * l.weight.cost) (ran_in before)) [
      | inr enough ↦ enough
      | inl more ↦ absurd (
          let p = at_place (runs_at s x l) before (k * l.weight.cost) more in
          let slot = get_or (passing (runs_at s x l) before) (k * l.weight.cost) 0 in
          let kept = kept_in slot (let below = p.below in omega (arith, below, until)) p.passes in
          let index : 1 + ran_in slot ≡ k * l.weight.cost + 1 = (let had = p.before in omega (arith, had)) in
          let from = kept.released (inr (ap (starts_job_of l.weight) index ∙ starts_after_jobs l.weight k)) in
          let released = ap (λ i. release_of l.weight i 0) index ∙ job_released l.weight k 0 some in
          grind arith)
    ]

    -- and no fewer, since the last one is due where they end
    no_fewer : k * l.weight.cost ≤ ran_in before
    no_fewer = elim (cases_lt (ran_in before) (k * l.weight.cost)) [
      | inr enough ↦ enough
      | inl few ↦ absurd (
          let due = job_due l.weight k 0 some in
          let many = served s x frame weights t l among active undelayed (k * l.weight.cost) (omega (arith, few)) (omega (arith, due, until)) in
          let p = at_place (runs_at s x l) (slots_since t l) (k * l.weight.cost - 1) (omega (arith, few, many)) in
          let slot = get_or (passing (runs_at s x l) (slots_since t l)) (k * l.weight.cost - 1) 0 in
          let kept = (kept_in slot p.below p.passes).before_deadline in
          let had = p.before in
          let index : 1 + ran_in slot ≡ k * l.weight.cost = omega (arith, few, had) in
          let same = ap (λ i. deadline_of l.weight i 0) index in
          let more = one_more (runs_at s x l) slot in
          let one = ap (λ b. cond {A = ℕ} b 1 0) p.passes in
          let rise = fewer_before (runs_at s x l) (suc slot) before (omega (arith, kept, same, due)) in
          omega (arith, few, index, more, one, rise))
    ]

    pub exactly : ran_in before ≡ k * l.weight.cost
    exactly = (let most = no_more in let least = no_fewer in omega (arith, most, least))

    -- the slots from there on
    module _ (f : ℕ → Bool) (same : (slot : ℕ) → f slot ≡ runs_at s x l (before + slot)) where
      ran_behind : (slots : ℕ) → ran_in (before + slots) ≡ k * l.weight.cost + length (passing f slots)
      ran_behind zero = (let at : before + 0 ≡ before = omega arith in let now = ap ran_in at in let is = exactly in omega (arith, now, is))
      ran_behind (suc slots) =
          let at : before + suc slots ≡ suc (before + slots) = omega arith in
          let now = ap ran_in at in
          let long = one_more (runs_at s x l) (before + slots) in
          let short = one_more f slots in
          grind (arith, ran_behind slots, same)

      kept_on : (i : ℕ) → 1 ≤ i → i ≤ length (passing f horizon) → IsKept l (before + get_or (passing f horizon) (i - 1) 0) (i + k * l.weight.cost)
      kept_on i first inside =
          let p = at_place f horizon (i - 1) (omega (arith, first, inside)) in
          let slot = get_or (passing f horizon) (i - 1) 0 in
          let kept = kept_in (before + slot) (let below = p.below in omega (arith, below, until)) (sym (same slot) ∙ p.passes) in
          grind (arith, ran_behind)

      pub meets : MeetsDeadlines l.weight (passing f horizon) horizon
      meets = record {
        in_time = λ i first inside.
            (let due = (kept_on i first inside).before_deadline in
            let repeats = deadline_repeats l.weight i k 0 some in
            omega (arith, due, repeats));
        served = λ i first due.
            (let repeats = deadline_repeats l.weight i k 0 some in
            let many = served s x frame weights t l among active undelayed (i + k * l.weight.cost) (omega (arith, first)) (omega (arith, due, repeats, until)) in
            grind (arith, ran_behind, until));
      }

      pub within : l.early ≡ false → InWindows l.weight (passing f horizon) horizon
      within early = record {
        releases = λ i first inside.
            (let from = (kept_on i first inside).released (inl early) in
            let repeats = release_repeats l.weight i k 0 some first in
            omega (arith, from, repeats));
        deadlines = meets;
      }

-- ---- runs by what replicas hold

module _ (earlier : List Past) (s : Settings) (x : Replica) (run : IsRunAfter earlier s x) (t : ℕ) where
  abbrev o : Origin
  o = origin_after s earlier

  abbrev slot : ℕ
  slot = slot_of o t

  abbrev long : Story
  long = long_story s earlier (said x)

  weighed : IsWeighedStory (said x)
  weighed = said_weighed x run.replica

  pub weights : HaveWeights long
  weights = each_weight long (long_weights s earlier (said x) run.replicas weighed)

  -- a member in the long run, before the slot's quanta and after them
  has : (m : Member) → Among (world o s (said x) t) m → HasLater slot (world None s long slot) m
  has = world_long s earlier (said x) run.replicas weighed t

  pub has_after : (m : Member) → Among (history o s (said x) (suc t)).members m
      → HasLater (suc slot) (counted (tables_before s long (suc slot)) (world None s long slot)) m
  has_after m h = subst (λ ms. HasLater (suc slot) ms m) (counted_on s long slot)
      (subst (λ u. HasLater u (history None s long u).members m) (slot_more o t) (history_long s earlier (said x) run.replicas weighed (suc t) m h))

  -- ---- no admitted task misses

  rows : (p : Pick) → Among (table o s (said x) t) p → (m : Member) × Among (world o s (said x) t) m × IsInTime slot p m
  rows p h =
      let S = world o s (said x) t in
      let apart = named_from o s (begun_after s earlier run.replicas).named (said x) t in
      let key = among_map (pick S) (chosen s slot S) p h in
      let (m, among, able, key_is) = chosen_member s slot S apart key.0 key.1 in
      let is : p ≡ pick S (next_key m) = key.2 ∙ ap (pick S) key_is in
      let named : names_task m.name (table o s (said x) t) ≡ true =
      any_from_among (λ (r : Pick). name_eq m.name r.name) (table o s (said x) t) p h
      (subst (λ (r : Pick). name_eq m.name r.name ≡ true) (sym is) (name_itself m.name)) in
      let l = has m among in
      let due = in_time s long run.frame weights slot l.long l.among
      ((λ i. names_task (sym l.later.name i) (table None s long slot)) ∙ sym (runs_in_long s earlier (said x) run.replicas weighed m.name t) ∙ named) in (
        m,
        among,
        record {
          name = ap (λ (r : Pick). r.name) is;
          index = ap (λ (r : Pick). r.index) is ∙ ap index_of (found_own S apart m among);
          before_deadline = subst (λ (k : Key). slot < k.d) (sym l.later.key) due;
          released = λ early. open_from slot m able (inl early);
        },
      )

  late : (m : Member) → Among (history o s (said x) (suc t)).members m → is_departing m ≡ false → suc slot < deadline_of m.weight m.next (theta m m.next)
  late m h active =
      let l = has_after m h in
      let was = among_map (on s long slot) (world None s long slot) l.long l.among in
      let due = none s long run.frame weights slot was.0 was.1 (sym (ap is_departing was.2) ∙ ap is_some (sym l.later.freed) ∙ active) in
      subst (λ (k : Key). suc slot < k.d) (sym (l.later.key ∙ ap next_key was.2)) due

  pub served_after : IsServed o s (said x) t
  served_after = record { rows_in_time = rows; none_misses = late }

  -- ---- windows

  module _ (m : Member) (among : Among (world o s (said x) t) m) (active : is_departing m ≡ false) (undelayed : m.delays ≡ []) where
    abbrev l : HasLater slot (world None s long slot) m
    l = has m among

    abbrev ran : ℕ → Bool
    ran k = names_task m.name (table_through s earlier (said x) (m.joined + k))

    same : (k : ℕ) → ran k ≡ runs_at s long l.long (l.jobs * l.long.weight.period + k)
    same k = grind (arith, runs_long, weighed)

    until : l.jobs * l.long.weight.period + slots_since slot m ≡ slots_since slot l.long
    until = (let joined = l.later.joined in let by = l.later.by_now in omega (arith, joined, by))

    staying : is_departing l.long ≡ false
    staying = ap is_some (sym l.later.freed) ∙ active

    still : IsUndelayed l.long
    still = long_undelayed slot l.jobs l.long m l.later (no_offset_all m undelayed)

    pub deadlines_kept : KeepsDeadlines m.weight (slots_run s earlier (said x) slot m) (slots_since slot m)
    deadlines_kept = grind (arith, here, weights, passing_rise, meets, staying, still, until, same)

    pub windows_kept : m.early ≡ false → KeepsWindows m.weight (slots_run s earlier (said x) slot m) (slots_since slot m)
    windows_kept early = grind (arith, deadlines_kept, within, weights, staying, still, until, same)

pub none_misses : NoneMisses
none_misses earlier s x run t = served_after earlier s x run t

pub deadlines_are_kept : DeadlinesAreKept
deadlines_are_kept earlier s x run t m among active undelayed = deadlines_kept earlier s x run t m among active undelayed

pub windows_are_kept : WindowsAreKept
windows_are_kept earlier s x run t m among active undelayed early = windows_kept earlier s x run t m among active undelayed early

-- The lags of members stay within one.

-- ---- in a first run

module _ (s : Settings) (x : Story) (weights : HaveWeights x) (t : ℕ) (m : Member) (h : Among (world None s x t) m) where
  -- the lag after the slot's quanta is that of the slots in which the member ran
  same_lag : lag_numerator m.weight (slots_of s x t m) (slots_since t m) ≡ lag_at (suc t) (counted_one (tables_before s x (suc t)) m)
  same_lag =
      let joined = (here s x weights t m h).by_now in
      let all = all_counted (λ slot. nat_lt slot (slots_since t m)) (slots_of s x t m)
      (all_among (λ slot. nat_lt slot (slots_since t m) ≡ true) (slots_of s x t m)
      (λ k among. lt-ltb k (slots_since t m) (among_below (slots_since t m) k (among_filter (runs_at s x m) (numbers_below (slots_since t m)) k among).0))) in
      let ran = quanta_passing s x m (slots_since t m) in
      let now : m.joined + slots_since t m ≡ suc t = omega arith in
      grind (arith, pos)

  first_within : LagsKeepWindows → LagsKeepDeadlines → 0 < s.frame → is_departing m ≡ false → IsUndelayed m → IsWithinOne (suc t) (on s x t m)
  first_within by_windows by_deadlines frame active undelayed =
      let weight = (here s x weights t m h).sound.weight in
      let picks = passing_rise (runs_at s x m) (slots_since t m) in
      let far = slots_since t m in
      let at : (slot : ℕ) → runs_at s x m slot ≡ runs_at s x m (0 * m.weight.period + slot) = λ slot. ap (runs_at s x m) (omega arith) in
      record {
        below = (let kept = meets s x frame weights t 0 m h active undelayed far (omega arith) (runs_at s x m) at in
            subst (λ n. n <ℤ pos m.weight.period) same_lag ((by_deadlines m.weight (slots_of s x t m) far weight picks).0 kept far (le_refl far)));
        above = λ early. (let kept = within s x frame weights t 0 m h active undelayed far (omega arith) (runs_at s x m) at early in
            subst (λ n. neg_ℤ (pos m.weight.period) <ℤ n) same_lag (((by_windows m.weight (slots_of s x t m) far weight picks).0 kept).above far (le_refl far)));
      }

-- ---- in any run

pub lags_stay_within_one : LagsKeepWindows → LagsKeepDeadlines → LagsStayWithinOne
lags_stay_within_one by_windows by_deadlines earlier s x run t m among active undelayed =
    let o = origin_after s earlier in
    let long = long_story s earlier (said x) in
    let has = has_after earlier s x run t m among in
    let later = has.later in
    let before = among_map (on s long (slot_of o t)) (world None s long (slot_of o t)) has.long has.among in
    let still = subst IsUndelayed before.2 (long_undelayed (suc (slot_of o t)) has.jobs has.long m later (no_offset_all m undelayed)) in
    grind (arith, first_within, weights, le_refl, pos, neg_ℤ)

-- ---- in books

begun_joined : (slot : ℕ) (m : Member) → HasBegun slot m → HasJoined slot m
begun_joined slot m b = (let joined = b.joined in let first = b.first in (omega (arith, joined), first))

pub books_show_lags : BooksShowLags
books_show_lags earlier s x run t =
    let o = origin_after s earlier in
    let is = begun_after s earlier run.replicas in
    let joined = each (HasBegun (slot_of o 0)) (HasJoined (slot_of o 0)) (begun_joined (slot_of o 0)) (members_before o) is.begun in
    let after = after_all o s (said x) is.named joined (first_book o) (begins_after o s (said x) is.named joined) t in
    grind (arith, over_slots, map-map)

-- What a dispatcher has planned is in time, in whichever run it is, and whatever events have come.

-- what isn't torn agrees with itself
agrees_alone : (x : Replica) → Untorn x → Agree x x
agrees_alone x untorn k n torn = by (join_least entry_eq entry_exact (x.at k n) (x.at k n) (x.at k n) (below_itself (x.at k n)) (below_itself (x.at k n)) Torn torn)
  where
    by : (x.at k n ≡ Some Torn) ⊎ (x.at k n ≡ Some Torn) → ⊥
    by (inl h) = untorn k n h
    by (inr h) = untorn k n h

-- a dispatcher has planned what one that is the same has planned
pub dispatchers_never_miss : OneSchedule → DispatchersNeverMiss
dispatchers_never_miss one earlier s capacity events frame replicas are untorn t planned =
    let o = origin_after s earlier in
    let c = run s (begin_at o s capacity) events in
    let is_of = (sound_run s events (begin_at o s capacity) are (sound_start o s capacity)).is_of in
    record {
      table_is = (one o s capacity capacity events events are are (agrees_alone c.replica untorn) t planned planned).0;
      served = none_misses earlier s c.replica (record { frame = frame; replica = is_of.replica; replicas = replicas }) t;
    }

-- ---- runs of other numbers of slots

same_history : (o : Origin) (s : Settings) (slots : ℕ) (story : Story) (t : ℕ) → history o s story t ≡ history o (record s { slots = slots }) story t
same_history o s slots story zero = refl
same_history o s slots story (suc t) = ap (slot_after s (slot_of o t) (story t)) (same_history o s slots story t)

same_left : (o : Origin) (s : Settings) (slots : ℕ) (story : Story) (n : ℕ) → left_over o s story n ≡ left_over o (record s { slots = slots }) story n
same_left o s slots story n =
    ap (λ h. record { slot = slot_of o n; machine = machine s; members = map carried h.members; table = last_table o h; places = last_places o h }) (same_history o s slots story n)

same_after : (s : Settings) (slots : ℕ) (earlier : List Past) → origin_after s earlier ≡ origin_after (record s { slots = slots }) earlier
same_after s slots [] = refl
same_after s slots (r ∷ earlier) =
    ap (λ o. Some (left_over o s (said r.contents) r.slots)) (same_after s slots earlier)
    ∙ ap Some (same_left (origin_after (record s { slots = slots }) earlier) s slots (said r.contents) r.slots)

-- ---- from one dispatcher to the next

pub dispatchers_run_on : DispatchersRunOn
dispatchers_run_on [] d on = (on, tt)
dispatchers_run_on (e ∷ earlier) d (on, before) =
    let r = dispatchers_run_on earlier e before in (
      on.origin
          ∙ ap (λ o. Some (left_over o e.settings (said (replica_of e.replica)) e.settings.slots)) r.0
          ∙ same_after e.settings d.settings.slots (past_of e ∷ map past_of earlier)
          ∙ ap (λ s. origin_after s (past_of e ∷ map past_of earlier)) (sym on.settings),
      (on.replica, r.1),
    )

pub never_misses : NeverMisses
never_misses earlier d hand on untorn t planned =
    let runs = dispatchers_run_on earlier d on in
    let x = replica_of d.replica in
    record {
      table_is = (hand.alike refl refl (agrees_alone x untorn) t planned planned).0;
      served = subst (λ o. IsServed o d.settings (said x) t) (sym runs.0) (none_misses (map past_of earlier) d.settings x (record { frame = hand.settings.frame.0; replica = hand.replica; replicas = runs.1 }) t);
    }
