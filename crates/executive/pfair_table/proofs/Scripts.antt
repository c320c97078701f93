-- Logs as a run has them.
use Rattle.pfair_table.proofs.Common.{none-some, same_Some, slice_get_within, get_or_from_slice_get, leb-true, lt-ltb, le-leb, and_from, and_parts, One, Torn, entry_eq, Untorn, only, taken, list_all, length-map, take_more, length-take-le, take-length, Logged, Settings, IsLoggedRun, is_short, lists_of, entry_of, contents_of, held_of, replica_of_logs, capacity_of, common_steps, ℕ, zero, suc, ◌+◌, ◌<◌, ◌≤◌, ◌≡◌, true, refl, sym, ap, ◌∙◌, arith, List, [], ◌∷◌, ◌++◌, take, Some, None, Vec, Global, length, slice_get, ◌≢◌, ◌==◌, if◌then◌else◌, Dispatch, LoggedRun, false, replica_of, slice_index_or, held_join, join_none}
use Rattle.std.proofs.Math.Dec.{eqb-suc-zero, eqb-zero-suc, eqb-suc-suc}
use Rattle.std.proofs.lemmas.List.Folds.{list_all-map}

pub logged_run : (s : Settings) (logs : List (Vec Logged Global)) → length logs ≡ s.processors → list_all (λ log. is_short log.items) logs ≡ true → IsLoggedRun (record { settings = s; logs = lists_of logs })
logged_run s logs count short = grind (arith, length-map, list_all-map)

pub logs_short : (s : Settings) (logs : List (Vec Logged Global)) → IsLoggedRun (record { settings = s; logs = lists_of logs }) → list_all (λ log. is_short log.items) logs ≡ true
logs_short s logs run = sym (list_all-map is_short (λ log. log.items) logs) ∙ run.short

-- ---- entries taken one after another

-- one entry more of a log
entry_more : (log : List Logged) (i : ℕ) (e : Logged) → slice_get log i ≡ Some e → (n : ℕ) → held_join entry_eq (entry_of (take i log) n) (if n == suc i then Some (One e) else None) ≡ entry_of (take (suc i) log) n
entry_more [] i e h n = absurd (cc)
entry_more (f ∷ log) zero e h zero = refl
entry_more (f ∷ log) zero e h (suc zero) = ap (λ (x : Logged). Some (One x)) (sym (same_Some f e h))
entry_more (f ∷ log) zero e h (suc (suc n)) = grind arith
entry_more (f ∷ log) (suc i) e h zero = grind arith
entry_more (f ∷ log) (suc i) e h (suc zero) = grind arith
entry_more (f ∷ log) (suc i) e h (suc (suc n)) = grind (arith, eqb-suc-suc, entry_more log i e h (suc n))

-- behind the logs before it
one_more : (logs : List (List Logged)) (log : List Logged) (i : ℕ) (e : Logged) → slice_get log i ≡ Some e → (j n : ℕ)
    → held_join entry_eq (contents_of (logs ++ take i log ∷ []) j n) (only (length logs) (suc i) e j n) ≡ contents_of (logs ++ take (suc i) log ∷ []) j n
one_more [] log i e h zero n = entry_more log i e h n
one_more [] log i e h (suc j) n = ap (λ b. if b then (if n == suc i then Some (One e) else None) else None) (eqb-suc-zero j)
one_more (x ∷ logs) log i e h zero n = ap (λ b. held_join entry_eq (entry_of x n) (if b then (if n == suc i then Some (One e) else None) else None)) (eqb-zero-suc (length logs)) ∙ join_none (entry_of x n)
one_more (x ∷ logs) log i e h (suc j) n = grind (arith, eqb-suc-suc, one_more logs log i e h j n)

-- ---- the keys of a script's entries are in range

pub log_fits : (logs : List (List Logged)) (k : ℕ) (log : List Logged) → slice_get logs k ≡ Some log → length log ≤ capacity_of logs
log_fits [] k log h = absurd (cc)
log_fits (first ∷ logs) zero log h = omega (arith, ap length (same_Some first log h))
log_fits (first ∷ logs) (suc k) log h = omega (arith, log_fits logs k log h)

-- the log at a place, read where it stands
pub log_at : (logs : List (Vec Logged Global)) (k : ℕ) (log : Vec Logged Global) → k < length logs → log ≡ slice_index_or logs k log → slice_get (lists_of logs) k ≡ Some log.items
log_at [] k log h is = absurd (omega arith)
log_at (first ∷ logs) zero log h is = λ i. Some (sym is i).items
log_at (first ∷ logs) (suc k) log h is = log_at logs k log (omega arith) is

-- to take the next entry of a log is to hold one more
pub taken_next : (logs : List (List Logged)) (k i : ℕ) (log : List Logged) (e : Logged) → slice_get logs k ≡ Some log → slice_get log i ≡ Some e
    → taken (held_of logs (take k logs ++ take i log ∷ [])) k (i + 1) e ≡ held_of logs (take k logs ++ take (i + 1) log ∷ [])
taken_next logs k i log e at_k at_i = grind (arith, slice_get_within, log_fits, and_from, lt-ltb, le-leb, length-take-le, one_more, common_steps)

pub log_taken : (logs : List (List Logged)) (k : ℕ) (log : List Logged) → slice_get logs k ≡ Some log → held_of logs (take k logs ++ take (length log) log ∷ []) ≡ held_of logs (take (k + 1) logs)
log_taken logs k log at_k =
    ap (λ (l : List Logged). held_of logs (take k logs ++ l ∷ [])) (take-length log ∙ sym (get_or_from_slice_get logs k log log at_k))
    ∙ ap (held_of logs) (sym (take_more logs k log (slice_get_within logs k log at_k)))

-- nothing is planned of a first run, and so much of its logs is taken
pub record HasTaken (r : LoggedRun) (begun : List (List Logged)) (d : Dispatch) : Type 0 where
  pub settings : d.settings ≡ r.settings
  pub origin : d.origin ≡ None
  pub tables : d.tables ≡ []
  pub decided : d.decided ≡ []
  pub forgotten : d.forgotten ≡ 0
  pub spent : d.spent ≡ false
  pub replica : replica_of d.replica ≡ held_of r.logs begun

pub taken_more : (r : LoggedRun) (begun more : List (List Logged)) (d after : Dispatch) → HasTaken r begun d → after ≡ record d { replica = after.replica } → replica_of after.replica ≡ held_of r.logs more → HasTaken r more after
taken_more r begun more d after has rest held = record {
  settings = ap (λ (e : Dispatch). e.settings) rest ∙ has.settings;
  origin = ap (λ (e : Dispatch). e.origin) rest ∙ has.origin;
  tables = ap (λ (e : Dispatch). e.tables) rest ∙ has.tables;
  decided = ap (λ (e : Dispatch). e.decided) rest ∙ has.decided;
  forgotten = ap (λ (e : Dispatch). e.forgotten) rest ∙ has.forgotten;
  spent = ap (λ (e : Dispatch). e.spent) rest ∙ has.spent;
  replica = held;
}

-- ---- the capacity of a script

pub capacity_some : (logs : List (List Logged)) → 1 ≤ capacity_of logs
capacity_some [] = omega arith
capacity_some (log ∷ logs) = let some = capacity_some logs in omega (arith, some)

pub capacity_short : (logs : List (List Logged)) → list_all is_short logs ≡ true → capacity_of logs ≤ 4096
capacity_short [] h = omega arith
capacity_short (log ∷ logs) h = grind (arith, and_parts, leb-true, capacity_short logs)

-- ---- nothing in a script is torn

entry_whole : (log : List Logged) (n : ℕ) → entry_of log n ≢ Some Torn
entry_whole [] n h = absurd (none-some Torn h)
entry_whole (e ∷ log) zero h = absurd (none-some Torn h)
entry_whole (e ∷ log) (suc zero) h = absurd (cc)
entry_whole (e ∷ log) (suc (suc n)) h = entry_whole log (suc n) h

pub script_whole : (logs : List (List Logged)) → Untorn (replica_of_logs logs)
script_whole logs k n h = grind (arith, none-some, entry_whole)
