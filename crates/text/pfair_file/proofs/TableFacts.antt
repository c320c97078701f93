-- The tables of an array, one after the other.
use Rattle.std.proofs.Common.{is_some, append_assoc, append-nil, length-append}
use Rattle.pfair_file.proofs.Common.{Data, Items, Members, as_table, item, items_view, view, Logs, tables_of, with_entries, with_entry, with_items, FileFault, arith, ℕ, List, [], ◌∷◌, refl, sym, true, Option, None, ◌∙◌, Some, Err, ◌≡◌, ◌+◌, ◌<◌, length, drop, get_or, list_all, length-set, get_or-set_same, get_or-set_other, Logged, empty_logs, logs_after, longer_log, ◌++◌, Result, Ok, ap, common_steps, Made, is_short, lists_of, close_all, closed, Vec, Global, ◌≤◌, vec_len, All, LogsAreInFileOrder, entries_for, entry_for, entry_list, IsOfFirstTable, FirstTableIsAtFault}
use Rattle.toml.specs.declared.value.Value.{Value}
use Rattle.toml.proofs.Views.{items_view-drop}
use Rattle.pfair_entry.specs.Kinds.{and_then}
use Rattle.pfair_entry.specs.declared.notice.NoticeFault.{NoticeFault}
use Rattle.std.proofs.lemmas.Bool.{and_from}
use Rattle.std.proofs.lemmas.List.Elements.{All-head, All-tail}
use Rattle.std.proofs.lemmas.Bool.Decides.{nat_tests}
use Rattle.std.proofs.lemmas.Str.{IsUtf8-from_is_utf8, is_utf8-from_IsUtf8}

-- whether bytes are a text
pub ruleset texts = (IsUtf8-from_is_utf8, is_utf8-from_IsUtf8)

-- what is left to do at the i-th value, if all are tables
pub record IsLeft (version : ℕ) (start now : Logs) (items : List Value) (i : ℕ) : Type 0 where
  pub tables : List Members
  pub are_tables : tables_of (items_view (drop i items)) ≡ Some tables
  pub same : with_items version start (items_view items) ≡ with_entries version (i + 1) now tables

-- whether all values are tables
pub all_tables : (vs : List Value) → list_all (λ v. is_some (as_table (view v))) vs ≡ is_some (tables_of (items_view vs))
all_tables [] = refl
all_tables (v ∷ vs) = grind (arith, all_tables vs)

-- if they all are, all are left at first
pub left_all : (version : ℕ) (logs : Logs) (items : List Value) → list_all (λ v. is_some (as_table (view v))) items ≡ true → IsLeft version logs logs items 0
left_all version logs items h = go (tables_of (items_view items)) refl (sym (all_tables items) ∙ h)
  where
    go : (o : Option (List Members)) → tables_of (items_view items) ≡ o → is_some (tables_of (items_view items)) ≡ true → IsLeft version logs logs items 0
    go (Some ts) is some = record { tables = ts; are_tables = is; same = rw is refl }
    go None is some = grind arith

-- a table before others
pub tables-first : (d : Data) (rest : Items) (t : Members) (ts : List Members) → as_table d ≡ Some t → tables_of (item d rest) ≡ Some ts
    → (more : List Members) × (tables_of rest ≡ Some more) × (ts ≡ t ∷ more)
tables-first d rest t ts table h = grind (arith)

-- a table that is refused
pub left-refused : (version : ℕ) (start now : Logs) (items : List Value) (i : ℕ) (v : Value) (t : Members) (f : FileFault) → i < length items → get_or items i v ≡ v → as_table (view v) ≡ Some t
    → with_entry version (i + 1) now t ≡ Err f → IsLeft version start now items i → with_items version start (items_view items) ≡ Err f
left-refused version start now items i v t f within at table done left = grind (arith, items_view-drop, tables-first)

-- What each table adds to the logs.

-- a longer log has the entry at its end
longer-is : (p : ℕ) (log new : List Logged) (made : Result Logged NoticeFault) → longer_log p log made ≡ Ok new → new ≡ log ++ entry_list made
longer-is p log new (Ok entry) h = grind (arith)
longer-is p log new (Err fault) h = grind (arith)

-- the logs after one table, in the words of order
record IsAfter (logs after : Logs) (found : Result Made FileFault) : Type 0 where
  pub same_many : length after ≡ length logs
  pub longer : (p : ℕ) → p < length logs → get_or after p [] ≡ get_or logs p [] ++ entry_for p found

after-found : (logs after : Logs) (found : Result Made FileFault) → and_then (λ made. logs_after logs made) found ≡ Ok after → IsAfter logs after found
after-found logs after found h = grind (arith, longer-is, length-set, get_or-set_same, get_or-set_other, append-nil)

-- the logs after some tables
pub after-tables : (version processors place : ℕ) (logs after : Logs) (tables : List Members) → length logs ≡ processors → with_entries version place logs tables ≡ Ok after
    → (p : ℕ) → p < processors → get_or after p [] ≡ get_or logs p [] ++ entries_for version processors p place tables
after-tables version processors place logs after [] size h p within = (let same : logs ≡ after = cc h in ap (λ (ls : Logs). get_or ls p []) (sym same) ∙ sym (append-nil (get_or logs p [])))
after-tables version processors place logs after (table ∷ tables) size h p within =
    go (with_entry version place logs table) refl h (λ next many g. after-tables version processors (place + 1) next after tables many g p within)
  where
    go : (r : Result Logs FileFault) → with_entry version place logs table ≡ r → with_entries version place logs (table ∷ tables) ≡ Ok after
        → ((next : Logs) → length next ≡ processors → with_entries version (place + 1) next tables ≡ Ok after → get_or after p [] ≡ get_or next p [] ++ entries_for version processors p (place + 1) tables)
        → get_or after p [] ≡ get_or logs p [] ++ entries_for version processors p place (table ∷ tables)
    go (Err f) e g ih = absurd (let bad = rw e at g in cc bad)
    go (Ok next) e g ih = grind (arith, after-found, append_assoc)

-- from empty logs on
pub in_file_order : LogsAreInFileOrder
in_file_order version processors tables logs h p within =
    let size : length (empty_logs processors) ≡ processors = grind (arith, common_steps) in
    let bare : get_or (empty_logs processors) p [] ≡ [] = grind (arith, common_steps, within) in
    after-tables version processors 1 (empty_logs processors) logs tables size h p within ∙ ap (λ (xs : List Logged). xs ++ entries_for version processors p 1 tables) bare

-- The lengths of logs.

-- a log that is closed has at most one entry more
closed-short : (slots : ℕ) (log : List Logged) → length log ≤ 4095 → is_short (closed slots log) ≡ true
closed-short slots log h = grind (arith, length-append, nat_tests)

-- so that closed logs are as short as a run's may be
pub closed-all-short : (slots : ℕ) (logs : List (Vec Logged Global)) → All (λ log. vec_len log ≤ 4095) logs → list_all is_short (close_all slots (lists_of logs)) ≡ true
closed-all-short slots [] h = refl
closed-all-short slots (log ∷ logs) h =
    and_from _ _ (closed-short slots log.items (omega (arith, log.ok.0, All-head (λ (log : Vec Logged Global). vec_len log ≤ 4095) log logs h))) (closed-all-short slots logs (All-tail (λ (log : Vec Logged Global). vec_len log ≤ 4095) log logs h))

-- The first table that has a fault.

-- a fault of some tables is the fault of one of them
first_of : (version place : ℕ) (logs : Logs) (tables : List Members) (f : FileFault) → with_entries version place logs tables ≡ Err f → IsOfFirstTable version place logs tables f
first_of version place logs [] f h = absurd (cc h)
first_of version place logs (table ∷ tables) f h = go (with_entry version place logs table) refl h (λ next g. first_of version (place + 1) next tables f g)
  where
    go : (r : Result Logs FileFault) → with_entry version place logs table ≡ r → with_entries version place logs (table ∷ tables) ≡ Err f
        → ((next : Logs) → with_entries version (place + 1) next tables ≡ Err f → IsOfFirstTable version (place + 1) next tables f)
        → IsOfFirstTable version place logs (table ∷ tables) f
    go (Err e) is g ih =
        let same : Err e ≡ Err f = rw is at g in
        let here : place + 0 ≡ place = omega arith in
        record { before = []; table = table; after = tables; more = logs; tables_are = refl; no_fault_before = refl; fault = rw here (is ∙ same) }
    go (Ok next) is g ih =
        let found = ih next (rw is at g) in
        let shift : place + length (table ∷ found.before) ≡ place + 1 + length found.before = omega arith in
        record {
          before = table ∷ found.before;
          table = found.table;
          after = found.after;
          more = found.more;
          tables_are = ap (λ ts. table ∷ ts) found.tables_are;
          no_fault_before = rw is found.no_fault_before;
          fault = rw shift found.fault;
        }

-- and a table's fault is that of all that begin with tables without one
whole_of : (version place : ℕ) (logs more : Logs) (before after : List Members) (table : Members) (f : FileFault)
    → with_entries version place logs before ≡ Ok more → with_entry version (place + length before) more table ≡ Err f
    → with_entries version place logs (before ++ table ∷ after) ≡ Err f
whole_of version place logs more [] after table f none is =
    let same : logs ≡ more = cc none in
    let here : place + 0 ≡ place = omega arith in
    grind arith
whole_of version place logs more (first ∷ before) after table f none is =
    let shift : place + length (first ∷ before) ≡ place + 1 + length before = omega arith in
    go (with_entry version place logs first) refl none (λ next g. whole_of version (place + 1) next more before after table f g (rw shift at is))
  where
    go : (r : Result Logs FileFault) → with_entry version place logs first ≡ r → with_entries version place logs (first ∷ before) ≡ Ok more
        → ((next : Logs) → with_entries version (place + 1) next before ≡ Ok more → with_entries version (place + 1) next (before ++ table ∷ after) ≡ Err f)
        → with_entries version place logs (first ∷ (before ++ table ∷ after)) ≡ Err f
    go (Err e) eq g ih = absurd (let bad = rw eq at g in cc bad)
    go (Ok next) eq g ih = rw eq (ih next (rw eq at g))

pub first_table_is_at_fault : FirstTableIsAtFault
first_table_is_at_fault version place logs tables f = (
  first_of version place logs tables f,
  (λ first. rw first.tables_are (whole_of version place logs first.more first.before first.after first.table f first.no_fault_before first.fault)),
)
