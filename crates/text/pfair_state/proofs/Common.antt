-- The names that many of these proofs cite, passed on from one place. Declares nothing.
pub use Rattle.pfair_admission.specs.Admission.{Machine, Roster}
pub use Rattle.pfair_admission.specs.Carried.{CanBeRestored, IsRestoreFault}
pub use Rattle.pfair_admission.specs.Member.{Member, Member as MemberOf}
pub use Rattle.pfair_admission.specs.declared.delay.Delay.{Delay}
pub use Rattle.pfair_entry_row.specs.Row.{parts, parts_at, truth, dash, HasNone}
pub use Rattle.pfair_state.specs.Reading.{AreSpelled, IsBehindMembers, IsSpelled, IsSpelledQuantum, IsWritable, StatesHaveOneText, as_late, as_member, as_quantum, fields_of, first_of, first_said, late_said, line_of, member_of, member_said, own_said, ran_said, row_of, said_before_end, said_of}
pub use Rattle.pfair_state.specs.Rows.{end_row, first_row, late_row, member_row, member_rows, ran_row, ran_rows, rows_before_end, slot_field, state_rows, state_text}
pub use Rattle.pfair_state.specs.declared.rows.MemberRow.{MemberRow}
pub use Rattle.pfair_state.specs.declared.rows.Row.{Row}
pub use Rattle.pfair_state.specs.declared.rows.Row.TheVariants.{End, First, Late, Ran, Member as MemberIn}
pub use Rattle.pfair_table.specs.Places.{AreLeftAt, IsState, can_add_row, with_row, ArePlacesOf, IsFit, AllDiffer, is_used}
pub use Rattle.pfair_table.specs.Table.{Carried, Table, names_task}
pub use Rattle.pfair_table.specs.declared.slot.Pick.{Pick}
pub use Rattle.pfair_text.proofs.NameFacts.{is_plain-name}
pub use Rattle.pfair_text.proofs.RowFacts.{first_left, is_plain-decimal, lines_text-append}
pub use Rattle.pfair_text.specs.Rows.{IsOpen, is_plain, line, lines_text, text_so_far}
pub use Rattle.pfair_weight.specs.Name.{IsTaskName, NamesApart, name_eq, IsFaultOf as IsNameFaultOf}
pub use Rattle.std.proofs.Common.{◌≡◌, length, arith, ap, ◌∙◌, sym, ◌++◌, Some, List, ℕ, [], ◌+◌, ◌∷◌, None, refl, drop, slice_get, ◌<◌, subst, map, append_assoc, ◌≤◌, rules, min, Option, true, take, ◌^◌, ◌≢◌, false, Result, Err, ◌-◌, IfSome, not, zero, suc, Bool, Ok, OnOk, ◌==◌, ◌%◌, codes, MatchResult, slice_index, cond}
pub use Rattle.std.proofs.lemmas.Bool.{ne_eqb, and_parts, and_from}
pub use Rattle.std.proofs.lemmas.Fmt.{decimal_by_steps, decimal_digit, decimal_injective}
pub use Rattle.std.proofs.lemmas.Grind.{common_steps}
pub use Rattle.std.proofs.lemmas.List.{append-nil, append_cancel_right, drop_all, length-append, length-drop, length-map, map-append, take_more}
pub use Rattle.std.proofs.lemmas.List.Splits.{join_with_byte-slice_split, slice_split_at, length-slice_split}
pub use Rattle.std.proofs.lemmas.Option.{get_or_from_slice_get, slice_get-get_or, slice_get_read, slice_get_within}
pub use Rattle.std.specs.Cmp.Lexicographic.{nat_list_eq_equiv}
pub use Rattle.std.specs.Fmt.{decimal}
pub use Rattle.std.specs.List.{AllByRecursion, flat_map, join_with_byte, list_all, list_any}
