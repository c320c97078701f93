-- The names that many of these proofs cite, passed on from one place. Declares nothing.
pub use Rattle.pfair_admission.specs.Member.{Member}
pub use Rattle.pfair_admission.specs.declared.decision.Decision.{Decision}
pub use Rattle.pfair_entry.specs.declared.entry.Announcement.{Announcement}
pub use Rattle.pfair_entry.specs.declared.entry.Announcement.TheVariants.{Arrive, Depart, Late}
pub use Rattle.pfair_lag.specs.Book.{Book, Tally, empty_book, entered_after, entered_with, has_run, lag_of, left, slot_more, tally_of}
pub use Rattle.pfair_output.specs.Lags.{all_booked, all_entered, all_slots_booked, book_rows, booked, entered_again, first_book, is_admitted, is_leave, rows_booked, slot_booked, tally_row, is_staying, lag_row, lag_rows, lags_header}
pub use Rattle.pfair_output.specs.Replay.{decided_rows, decision_row, decisions_header, decisions_text, placed_row, placed_rows_from, placed_table_rows, replay_header, table_rows, decided_below, slots_from, placed_header, places_at}
pub use Rattle.pfair_replica.specs.Replica.{Replica, frontier, numbers_below, said, replica_of}
pub use Rattle.pfair_table.specs.Places.{places_in}
pub use Rattle.pfair_table.specs.Refinement.{Dispatch, IsWholePlan}
pub use Rattle.pfair_table.specs.Script.{IsBySlot}
pub use Rattle.pfair_table.specs.Table.{Carried, Origin, Settings, Story, Table, decisions, history, machine, members_before, names_task, plan, slot_of, table, with_decisions, world}
pub use Rattle.pfair_table.specs.declared.slot.Decided.{Decided}
pub use Rattle.pfair_table.specs.declared.slot.Pick.{Pick}
pub use Rattle.pfair_text.proofs.RowFacts.{first_left, is_plain-decimal, lines_text-append}
pub use Rattle.pfair_text.specs.Rows.{IsOpen, TextWriter, is_mark, is_plain, line, lines_text, text_so_far}
pub use Rattle.pfair_weight.specs.Name.{NameValue, NamesApart, name_eq}
pub use Rattle.pfair_weight.specs.Window.{Share}
pub use Rattle.std.proofs.Common.{◌≡◌, arith, ap, ◌∙◌, ◌++◌, length, sym, ◌<◌, ◌≤◌, drop, ℕ, ◌+◌, List, refl, Some, ◌∷◌, suc, None, slice_get, [], map, append_assoc, take, min, ◌-◌, subst, to_z-of_z, true, ℤ, not, zero, pos, negsuc, FitsSigned, Bool, false, cond, filter, rules, SFits, w64, Vec, Option}
pub use Rattle.std.proofs.lemmas.Grind.{common_steps, flat_map-append}
pub use Rattle.std.proofs.lemmas.List.{append-nil, drop_all, length-drop, length-map, length-take, map-append}
pub use Rattle.std.proofs.lemmas.Option.{none-some, same_Some, slice_get-map, slice_get_read}
pub use Rattle.std.specs.Fmt.{decimal, signed_decimal}
pub use Rattle.std.specs.List.{AllByRecursion, flat_map, list_any}
pub use Rattle.std.specs.Option.{option_map}
