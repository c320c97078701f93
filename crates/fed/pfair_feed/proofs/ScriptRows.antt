-- The entries of logs: their rows, and where they stand.
use Rattle.std.proofs.Common.{flat_map, filter}
use Rattle.pfair_feed.proofs.Common.{AllByRecursion, list_all, and_parts, leb-true, append-nil, map-append, lines_text, Logged, IsLoggable, entries_text, log_rows, numbered_from, AreLines, IsOneLine, ended, Among, IsPlaced, IsScript, Placed, placed_from, placed_in, row_of, rows_of, ℕ, zero, suc, ◌+◌, ◌<◌, ◌≤◌, ◌≡◌, inl, inr, refl, ap, arith, true, List, [], ◌∷◌, ◌++◌, length, map, Some, None, take, slice_get, ◌⊎◌, flat_map-append, lines_text-append, One, slots_from, LoggedRun, capacity_of, contents_of, Replica, frontier, goes_on, last_floor, numbers_below, run_from, run_on, said, said_in, sound_beginning, Settings, decisions, history, plan, table, Output, HasScheduleOf, replica_with_room, min, fold, Held, replica_of_logs, Tables, PlacedTables, Decisions, Lags, text_of, ◌≢◌, sym, ◌∙◌, append_assoc, take_more, get_or_from_slice_get, among_append, among_left, among_right, entry_of, is_short, decisions_text, placed_replay_text, replay_text, is_staying, lag_row, lags_header, LinesAreOne}
use Rattle.pfair_entry_row.proofs.Refused.{rows_are_lines}

-- ---- their rows

log_text : (processor number : ℕ) (log : List Logged) → lines_text (numbered_from processor number log) ≡ flat_map ended (map row_of (placed_from processor number log))
log_text processor number [] = refl
log_text processor number (e ∷ log) = ap (λ text. ended (row_of (processor, number, e)) ++ text) (log_text processor (suc number) log)

logs_text : (processor : ℕ) (logs : List (List Logged)) → lines_text (slots_from log_rows processor logs) ≡ flat_map ended (map row_of (placed_in processor logs))
logs_text processor [] = refl
logs_text processor (log ∷ logs) = grind (arith, lines_text-append, log_text, flat_map-append, map-append, logs_text (suc processor) logs)

pub all_append : {A : Type 0} (P : A → Type 0) (xs ys : List A) → AllByRecursion P xs → AllByRecursion P ys → AllByRecursion P (xs ++ ys)
all_append P [] ys a b = b
all_append P (x ∷ xs) ys a b = (a.0, all_append P xs ys a.1 b)

-- entries that a log may have, each with its number
log_placed : (processor number : ℕ) (log : List Logged) → processor < 64 → number + length log ≤ 4097 → AllByRecursion IsLoggable log → AllByRecursion IsPlaced (placed_from processor number log)
log_placed processor number [] p n all = tt
log_placed processor number (e ∷ log) p n all = grind (arith, log_placed processor (suc number) log p)

logs_placed : (processor : ℕ) (logs : List (List Logged)) → processor + length logs ≤ 64 → list_all is_short logs ≡ true → AllByRecursion (λ log. AllByRecursion IsLoggable log) logs → AllByRecursion IsPlaced (placed_in processor logs)
logs_placed processor [] p short all = tt
logs_placed processor (log ∷ logs) p short all = grind (arith, and_parts, leb-true, all_append, log_placed, logs_placed (suc processor) logs)

pub all_placed : (run : LoggedRun) → IsScript run → AllByRecursion IsPlaced (placed_in 0 run.logs)
all_placed run script = logs_placed 0 run.logs (let e = script.logged.one_each in let h = script.few in omega (arith, e, h)) script.logged.short script.loggable

rows_whole : (es : List Placed) → AllByRecursion IsPlaced es → AllByRecursion IsOneLine (map row_of es)
rows_whole [] all = tt
rows_whole (e ∷ es) all = (rows_are_lines e.0 e.1 e.2 all.0, rows_whole es all.1)

pub entries_are_lines : (run : LoggedRun) → IsScript run → AreLines (entries_text run.logs) (rows_of run.logs) []
entries_are_lines run script = grind (arith, logs_text, append-nil, rows_whole, all_placed)

-- ---- where they stand

-- an entry of one log, by its place there
in_log : (processor number : ℕ) (log : List Logged) (k n : ℕ) (e : Logged) → Among (placed_from processor number log) (k, n, e)
    → (i : ℕ) × (k ≡ processor) × (n ≡ number + i) × (i < length log) × (entry_of log (suc i) ≡ Some (One e))
in_log processor number [] k n e i = absurd i
in_log processor number (f ∷ log) k n e (inl same) = grind arith
in_log processor number (f ∷ log) k n e (inr i) =
    let h = in_log processor (suc number) log k n e i in
    (suc h.0, h.1, (let s = h.2 in omega (arith, s)), (let l = h.3 in omega (arith, l)), h.4)

-- an entry of the logs stands at its number
pub in_logs : (processor : ℕ) (logs : List (List Logged)) (k n : ℕ) (e : Logged) → Among (placed_in processor logs) (k, n, e)
    → (j : ℕ) × (k ≡ processor + j) × (j < length logs) × (1 ≤ n) × (n ≤ capacity_of logs) × (contents_of logs j n ≡ Some (One e))
in_logs processor [] k n e i = absurd i
in_logs processor (log ∷ logs) k n e i = elim (among_append (placed_from processor 1 log) (placed_in (suc processor) logs) (k, n, e) i) [
  | inl here ↦ grind (arith, in_log)
  | inr there ↦
      (let h = in_logs (suc processor) logs k n e there in
      let k_is = h.1 in
      let inside = h.2 in
      let small = h.4 in
      (suc h.0, omega (arith, k_is), omega (arith, inside), h.3, omega (arith, small), h.5))
]

-- what stands at a number of one log
at_log : (processor number : ℕ) (log : List Logged) (i : ℕ) → (entry_of log (suc i) ≡ None)
    ⊎ ((e : Logged) × (entry_of log (suc i) ≡ Some (One e)) × (i < length log) × Among (placed_from processor number log) (processor, number + i, e))
at_log processor number [] i = inl refl
at_log processor number (f ∷ log) zero = grind arith
at_log processor number (f ∷ log) (suc i) = grind (arith, at_log processor (suc number) log)

none_at_0 : (log : List Logged) → entry_of log 0 ≡ None
none_at_0 [] = refl
none_at_0 (e ∷ log) = refl

-- what stands at a number of the logs
pub at_logs : (processor : ℕ) (logs : List (List Logged)) (j n : ℕ) → (contents_of logs j n ≡ None)
    ⊎ ((e : Logged) × (contents_of logs j n ≡ Some (One e)) × (j < length logs) × (1 ≤ n) × (n ≤ capacity_of logs) × Among (placed_in processor logs) (processor + j, n, e))
at_logs processor [] j n = inl refl
at_logs processor (log ∷ logs) zero zero = inl (none_at_0 log)
at_logs processor (log ∷ logs) zero (suc n) = elim (at_log processor 1 log n) [
  | inl none ↦ inl none
  | inr some ↦ grind (arith, among_left)
]
at_logs processor (log ∷ logs) (suc j) n = grind (arith, among_right, at_logs (suc processor) logs j n)

-- the first ones, with one more
pub all_next : {A : Type 0} (P : A → Type 0) (xs : List A) (index : ℕ) (x : A) → index < length xs → slice_get xs index ≡ Some x → AllByRecursion P (take index xs) → P x → AllByRecursion P (take (index + 1) xs)
all_next P xs index x inside here all p =
    rw (take_more xs index x inside, get_or_from_slice_get xs index x x here) (all_append P (take index xs) (x ∷ []) all (p, tt))

-- More room in the logs doesn't change the schedule of the contents.

-- ---- the same sound beginnings

-- a run ends where nothing is held
none_on : (row : ℕ → Held Logged) (room n floor : ℕ) → row n ≡ None → run_from row room n floor ≡ []
none_on row zero n floor none = refl
none_on row (suc room) n floor none = ap (λ (h : Held Logged). run_on (goes_on h floor) (run_from row room (suc n))) none

-- numbers at which nothing is held
run_longer : (row : ℕ → Held Logged) (more few n floor : ℕ) → few ≤ more → ((m : ℕ) → n + few ≤ m → row m ≡ None) → run_from row more n floor ≡ run_from row few n floor
run_longer row more zero n floor h none = none_on row more n floor (none n (omega arith))
run_longer row zero (suc few) n floor h none = absurd (omega arith)
run_longer row (suc more) (suc few) n floor h none = grind (arith, run_longer row more few (suc n))

module _ (run : LoggedRun) (capacity : ℕ) (room : capacity_of run.logs ≤ capacity) where
  none_past : (k n : ℕ) → capacity_of run.logs < n → contents_of run.logs k n ≡ None
  none_past k n past = elim (at_logs 0 run.logs k n) [
    | inl none ↦ none
    | inr some ↦ absurd (let l = some.4 in omega (arith, l, past))
  ]

  same_beginning : (k : ℕ) → sound_beginning (replica_with_room capacity run) k ≡ sound_beginning (replica_of_logs run.logs) k
  same_beginning k = run_longer (contents_of run.logs k) capacity (capacity_of run.logs) 1 0 room (λ m l. none_past k m (omega (arith, l)))

-- ---- the same schedules

module _ (x y : Replica) (processors : x.processors ≡ y.processors) (beginnings : (k : ℕ) → sound_beginning x k ≡ sound_beginning y k) where
  same_frontier : frontier x ≡ frontier y
  same_frontier i = fold min (last_floor 0 (beginnings 0 i)) (map (λ k. last_floor 0 (beginnings k i)) (numbers_below (processors i)))

  same_said : said x ≡ said y
  same_said = λ i t. flat_map (λ k. said_in t k 1 (beginnings k i)) (numbers_below (processors i))

  module _ (s : Settings) where
    same_plan : plan None s x ≡ plan None s y
    same_plan = λ i. map (table None s (same_said i)) (numbers_below (min (same_frontier i) s.slots))

    same_decisions : (t : ℕ) → decisions None s (said x) t ≡ decisions None s (said y) t
    same_decisions t = λ i. decisions None s (same_said i) t

    same_text : (output : Output) → text_of output s x ≡ text_of output s y
    same_text Tables = ap replay_text same_plan
    same_text PlacedTables = ap placed_replay_text same_plan
    same_text Decisions = λ i. decisions_text (map (decisions None s (same_said i)) (numbers_below (min (same_frontier i) s.slots)))
    same_text Lags = λ i. lines_text (lags_header ∷ flat_map (λ t. map (lag_row (t + 1)) (filter is_staying (history None s (same_said i) (suc t)).members)) (numbers_below (min (same_frontier i) s.slots)))

-- a script's own schedule, whatever the room
pub schedule_with_room : (run : LoggedRun) (capacity : ℕ) → capacity_of run.logs ≤ capacity → HasScheduleOf run (replica_with_room capacity run)
schedule_with_room run capacity room = grind (arith, same_beginning, same_frontier, same_plan, same_decisions, same_text)

-- Bytes are lines in one way.

-- the head and the tail of equal lists
pub heads : {A : Type 0} (x y : A) (xs ys : List A) → x ∷ xs ≡ y ∷ ys → (x ≡ y) × (xs ≡ ys)
heads x y xs ys e = grind arith

-- a line's end comes first where the line ends
one_end : (a b xs ys : List ℕ) → IsOneLine a → IsOneLine b → a ++ 10 ∷ xs ≡ b ++ 10 ∷ ys → (a ≡ b) × (xs ≡ ys)
one_end [] [] xs ys p q e = (refl, (heads 10 10 xs ys e).1)
one_end [] (y ∷ b) xs ys p q e = absurd (q.0 (sym (heads 10 y xs (b ++ 10 ∷ ys) e).0))
one_end (x ∷ a) [] xs ys p q e = absurd (p.0 (heads x 10 (a ++ 10 ∷ xs) ys e).0)
one_end (x ∷ a) (y ∷ b) xs ys p q e = grind (arith, heads, one_end a b xs ys p.1 q.1)

-- no line ends in what is none
no_end : (a rest xs : List ℕ) → IsOneLine rest → rest ≢ a ++ 10 ∷ xs
no_end a [] xs q e = none a e
  where
    none : (a : List ℕ) → [] ≢ a ++ 10 ∷ xs
    none [] e = absurd (cc e)
    none (x ∷ a) e = absurd (cc e)
no_end [] (y ∷ rest) xs q e = absurd (q.0 (heads y 10 rest xs e).0)
no_end (x ∷ a) (y ∷ rest) xs q e = no_end a rest xs q.1 (heads y x rest (a ++ 10 ∷ xs) e).1

-- the first line, and what is behind it
first_line : (l : List ℕ) (lines : List (List ℕ)) (rest : List ℕ) → flat_map ended (l ∷ lines) ++ rest ≡ l ++ 10 ∷ (flat_map ended lines ++ rest)
first_line l lines rest = append_assoc (ended l) (flat_map ended lines) rest ∙ append_assoc l (10 ∷ []) (flat_map ended lines ++ rest)

pub lines_are_one : LinesAreOne
lines_are_one bytes [] [] rest rest' a b = (refl, sym a.bytes_are ∙ b.bytes_are)
lines_are_one bytes [] (m ∷ lines') rest rest' a b = absurd (no_end m rest (flat_map ended lines' ++ rest') a.open_end (sym a.bytes_are ∙ b.bytes_are ∙ first_line m lines' rest'))
lines_are_one bytes (l ∷ lines) [] rest rest' a b = absurd (no_end l rest' (flat_map ended lines ++ rest) b.open_end (sym b.bytes_are ∙ a.bytes_are ∙ first_line l lines rest))
lines_are_one bytes (l ∷ lines) (m ∷ lines') rest rest' a b = grind (arith, one_end, first_line, lines_are_one (flat_map ended lines ++ rest) lines lines' rest rest')
