-- The names that many of these proofs cite, passed on from one place. Declares nothing.
pub use Rattle.csv.proofs.WriteFacts.{appends-more}
pub use Rattle.pfair_entry.specs.Entry.{Logged, entry_exact, entry_eq}
pub use Rattle.pfair_entry.specs.Notice.{IsLoggable}
pub use Rattle.pfair_entry_row.specs.Laws.{RowsAreLines, EachEntryHasItsRow, RowsAreShort}
pub use Rattle.pfair_feed.specs.Feeding.{AreFedBytes, AreLines, AreTakenFrom, AreWelcome, HasFailed, HasGoneOn, HasStood, IsCaughtUp, IsFedLine, IsFedTo, IsLeft, IsOneLine, IsStopped, IsTakenFrom, IsWelcome, ended, question, dropped_line, dropped_of, is_past, key_line, missing_lines}
pub use Rattle.pfair_feed.specs.Follow.{Follow, HaveWrittenAlike, IsGrown, IsPlannedOut, IsSameRun, IsStopOf, missing_of, news, IsBookIfAny, IsBookOf, KeepsUnwritten, book_before, header_of, rows_in}
pub use Rattle.pfair_feed.specs.Laws.{entries_text, log_rows, numbered_from, AreAmong, BringsNothing, HasScheduleOf, HaveTheRows, IsBegun, IsPlaced, IsScript, Placed, placed_from, placed_in, replica_with_room, row_of, rows_of, WholeRows, text_of, RowsGoOn, RunsWriteAlike, LinesAreOne, EntriesAreTheirRows, EntriesGiveTheirSchedule, OrderIsNothing, WholeText, FedEntriesGiveTheirText}
pub use Rattle.pfair_feed.specs.declared.output.Output.{Output}
pub use Rattle.pfair_feed.specs.declared.output.Output.TheVariants.{Lags, Tables, PlacedTables, Decisions}
pub use Rattle.pfair_file.specs.ProgramFaults.{is_refusal}
pub use Rattle.pfair_file.specs.declared.program_fault.ProgramFault.{ProgramFault}
pub use Rattle.pfair_file.specs.declared.program_fault.ProgramFault.TheVariants.{WriteFailed, Memory, NoSuchProcessor, NumberOutOfRange, Row, ReadFailed}
pub use Rattle.pfair_lag.specs.Book.{Book}
pub use Rattle.pfair_lattice.specs.Held.{Held, HeldBelow, below_antisym}
pub use Rattle.pfair_lattice.specs.declared.join_map.Flat.TheVariants.{One}
pub use Rattle.pfair_output.specs.Lags.{rows_booked, first_book, all_slots_booked, slot_booked, is_staying, lag_row, lags_header}
pub use Rattle.pfair_output.specs.Replay.{slots_from, placed_table_rows, table_rows, decided_rows, decisions_text, placed_replay_text, replay_text}
pub use Rattle.pfair_replica.specs.Laws.{Among, among_append, among_left, among_right, all_among, among_all, among_map, map_among, held_after}
pub use Rattle.pfair_replica.specs.Replica.{taken, Below, Replica, empty_replica, frontier, goes_on, has_torn, last_floor, mark, numbers_below, only, run_from, run_on, said, said_in, sound_beginning, with_entry, ReplicaRows, SameShape, held, replica_of, has_key}
pub use Rattle.pfair_table.proofs.Runs.{length_numbers, get_numbers, taken_of}
pub use Rattle.pfair_table.specs.Events.{Course, begin_at, run, run_of, IsOf, IsPrefixOf, OneTable, EventsLeaveTheLeast, IsBroughtBelow}
pub use Rattle.pfair_table.specs.Places.{places_after, places_from, places_in, settings_from}
pub use Rattle.pfair_table.specs.Refinement.{Dispatch, HavePlannedAlike, IsWholePlan, course_of}
pub use Rattle.pfair_table.specs.Script.{LoggedRun, capacity_of, contents_of, replica_of_logs, entry_of, is_short}
pub use Rattle.pfair_table.specs.Table.{Origin, Settings, Table, decided_at, decisions, history, members_at, plan, plan_decisions, slot_after, table, table_of, world}
pub use Rattle.pfair_table.specs.declared.slot.Decided.{Decided}
pub use Rattle.pfair_text.proofs.RowFacts.{lines_text-append}
pub use Rattle.pfair_text.specs.Rows.{TakesPrefix, IsOpen, line, lines_text, text_so_far}
pub use Rattle.std.proofs.Common.{◌≡◌, ◌∙◌, arith, sym, ap, ℕ, length, List, [], ◌++◌, refl, subst, ◌<◌, ◌∷◌, ◌≤◌, ◌+◌, Some, None, inl, inr, suc, drop, append_assoc, take, Option, true, Ok, Err, zero, slice_get, map, ◌⊎◌, Result, min, max, ◌≢◌, Bool, rules, OnErr, OnOk, fold, ◌-◌, false, if◌then◌else◌, get_or, ◌&&◌, not, nat_lt, drop-cons, IfErr, codes, decimal}
pub use Rattle.std.proofs.KnownBytes.{Keeps-refl, Consumes-nil, Consumes-trans}
pub use Rattle.std.proofs.Math.Seq.{take-add, drop-append_seam, take-append-add}
pub use Rattle.std.proofs.lemmas.Bool.{and_parts, cases_lt, cases_order, eqb-true, leb-true, ltb-true}
pub use Rattle.std.proofs.lemmas.Grind.{flat_map-append}
pub use Rattle.std.proofs.lemmas.List.{append-nil, drop-append-le, drop_all, length-append, length-drop, length-map, length-take, map-append, take-append-drop, take-append-le, take_all, take_more}
pub use Rattle.std.proofs.lemmas.Option.{same_Some, slice_get_read, get_or_from_slice_get}
pub use Rattle.std.specs.Io.KnownBytes.{Appends, Consumes, IsAtEnd, Keeps}
pub use Rattle.std.specs.List.{AllByRecursion, flat_map, list_all}
pub use Rattle.std.specs.Result.{IsErrAnd}
