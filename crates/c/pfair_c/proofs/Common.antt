-- The names that many of these proofs cite, passed on from one place. Declares nothing.
pub use Rattle.pfair_c.specs.Answers.{IsPlannedOn}
pub use Rattle.pfair_c.specs.Rows.{rows_of, written_over, quanta_at, slot_of, decision_row, windows_of, quanta_in, key_row, decisions_at, pick_row, window_row, quantum_row}
pub use Rattle.pfair_c.specs.RowsGiven.{lags_at, lag_row, book_after, book_rows, member_row}
pub use Rattle.pfair_c.specs.Taking.{all_taken, untaken, AreOfLog, met, one_more, Taking, one_taken, IsRefusal, IsRefusedAt}
pub use Rattle.pfair_c.specs.declared.quanta.PfairQuantum.{PfairQuantum}
pub use Rattle.pfair_file.specs.declared.input.TheConstants.{LONGEST_FILE}
pub use Rattle.pfair_handle.specs.Kept.{is_kept, Kept}
pub use Rattle.pfair_lag.specs.Book.{Book}
pub use Rattle.pfair_output.proofs.WorldFacts.{first_time}
pub use Rattle.pfair_replica.specs.Replica.{Replica, replica_of, with_entry, ReplicaRows, has_key, taken}
pub use Rattle.pfair_table.specs.Refinement.{Dispatch, course_of, IsStepOf}
pub use Rattle.pfair_table.specs.Table.{Table, Origin, Settings}
pub use Rattle.pfair_table.specs.declared.slot.Decided.{Decided}
pub use Rattle.pfair_text.proofs.RowFacts.{first_left}
pub use Rattle.std.proofs.Common.{◌≡◌, length, arith, take, ◌<◌, ◌++◌, ◌∙◌, ◌+◌, ℕ, sym, ◌≤◌, drop, List, refl, ◌-◌, ap, map, rules, suc, add-one, zero, ◌∷◌, [], slice_get, false, get_or, subst, Some, min, true≢false, set, append_assoc, Bool, true, if◌then◌else◌, max, None, Result, Ok, ◌*◌}
pub use Rattle.std.proofs.lemmas.Grind.{common_steps}
pub use Rattle.std.proofs.lemmas.List.{length-map, length-append, drop-drop}
pub use Rattle.std.proofs.lemmas.Option.{none-some, get_or_from_slice_get, same_Some}
