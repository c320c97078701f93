-- The names that many of these proofs cite, passed on from one place. Declares nothing.
pub use Rattle.pfair_admission.proofs.Boundaries.{by_boundary, by_effect, each_change, apart_boundary, apart_effect, apart_present, apart_ran, frame_boundary, frame_carried, frame_ran, none_freed_boundary, room_boundary, room_carried, room_ran, eligible_at_job, one_each}
pub use Rattle.pfair_admission.proofs.Carrying.{next_fits, done_low, next_ran, none_done, carried_lowered}
pub use Rattle.pfair_admission.proofs.MemberLists.{both, each, each_filter, each_map}
pub use Rattle.pfair_admission.proofs.Restoring.{left_carried, all_again}
pub use Rattle.pfair_admission.specs.Admission.{Machine, all_decided, announcements, boundary, boundary_decisions, change, effect, is_freed, is_named, member_named, newcomer, present, quantum_of, ran, running, seatless, with_delay, with_freeing, with_quantum, Roster, IsNotBefore}
pub use Rattle.pfair_admission.specs.Carried.{CanBeCarried, IsFirstLeft, all_raised, carried, carried_delays, jobs_done, subtasks_done, subtasks_of, taken_off, IsLeftAt}
pub use Rattle.pfair_admission.specs.Member.{Member, eligible_from, is_departing, next_key, theta}
pub use Rattle.pfair_admission.specs.declared.decision.Decision.{Decision}
pub use Rattle.pfair_admission.specs.declared.members.Quantum.{Quantum}
pub use Rattle.pfair_admission.specs.declared.members.TheConstants.Members.{LAST_SLOT}
pub use Rattle.pfair_entry.specs.Entry.{IsEntry, IsWeighed, IsWithinLimits, Logged, entry_exact, name_exact, name_itself, entry_eq, name_eq, name_of}
pub use Rattle.pfair_entry.specs.declared.entry.Announcement.{Announcement}
pub use Rattle.pfair_entry.specs.declared.entry.Said.{Said}
pub use Rattle.pfair_lattice.specs.Held.{join_second, join_least, below_itself, below_trans, join_first, HeldBelow, none_below, held_join}
pub use Rattle.pfair_lattice.specs.declared.join_map.Flat.TheVariants.{One, Torn}
pub use Rattle.pfair_order.proofs.InOrder.{first_names, by_rank_first, by_rank_of_same, once_from_names}
pub use Rattle.pfair_order.specs.Order.{GoesBefore, pd2_cmp, AreFirst}
pub use Rattle.pfair_order.specs.declared.Key.{Key}
pub use Rattle.pfair_ready.proofs.Names.{tied_names, names_exact}
pub use Rattle.pfair_ready.specs.Queue.{name_cmp, NameValue as Name, Queue, released, without}
pub use Rattle.pfair_ready.specs.declared.Seated.{Seated}
pub use Rattle.pfair_replica.proofs.Marks.{below_agree, frontier_le, mark_le, same_said, beginnings_grow, held_within, read_by_number, some_at}
pub use Rattle.pfair_replica.proofs.Merging.{offered_stays}
pub use Rattle.pfair_replica.proofs.TornKeys.{test_by_untorn, untorn_by_test}
pub use Rattle.pfair_replica.specs.Laws.{Among, all_among, among_all, among_below, among_contains, among_filter, among_map, among_right, contains_among, filter_among, map_among, map_same, only_here, join_none}
pub use Rattle.pfair_replica.specs.Replica.{absorbed, has_key, has_shape, taken, Agree, Below, IsReplica, Replica, Untorn, empty_replica, frontier, has_torn, join, numbers_below, only, said, said_behind, said_by, said_in, sound_beginning, sound_total, with_entry, IsShape, ReplicaRows, SameShape, replica_of}
pub use Rattle.pfair_table.specs.Events.{Course, IsEvent, begin_at, happens, is_plannable, run, run_of, with_next_slot, IsOf, IsPrefixOf, OnePlan, OneSchedule, OneTable, PlanSoFar, PlansGoOn, RunsAreCounted, TablesAreOrdered, IsBroughtBelow, EventsLeaveTheLeast}
pub use Rattle.pfair_table.specs.NextRun.{CanBeFollowed, IsFinished, IsNextRunFault, IsResumeFault, LeaveAlike, end_of, left_by, members_left, HasBegun, IsBegun, IsWeighedStory, last_places, last_table, IsSlotOf, RunsGoOn, both_stories, left_over, raised_rows}
pub use Rattle.pfair_table.specs.Places.{AreLeftAt, IsCarried, IsOrigin, IsSettings, IsState, can_add_row, with_row, AllDiffer, ArePlacesOf, IsFit, all_kept, filled, free_place, is_used, kept_places, place_of, places_after, places_before, places_from, places_in, table_before, AreInUse, bucket, AreBucketsOf, settings_from, taken_over}
pub use Rattle.pfair_table.specs.Planned.{AreKept, IsNext, PlannedSlots, as_places, as_tables, decided_to, last_or, tables_to, with_next}
pub use Rattle.pfair_table.specs.Planning.{IsNotifiedOf, IsQueue, IsQueueBesides, IsQueueBut, IsQueueWithout, IsSteady, MayRun, has_key_of, is_of_some, is_said, keys_of, queued, AreReadFrom, AreReadingsOf, AreSilentAfter, AreWhole, IsReadingOf, entries_read, said_by_all, rows_at}
pub use Rattle.pfair_table.specs.Refinement.{Dispatch, HavePlannedAlike, IsInStep, IsKept, IsNextStep, IsPlanFault, IsPlanOf, IsWholePlan, course_of, heard_before, members_after, KeepPlace, PlacesAreKept, PlacesFollowTables, IsNextPlan, after_plan, OnePlacing, seeing, HavePlacedAlike}
pub use Rattle.pfair_table.specs.Script.{IsLoggedRun, LoggedRun, capacity_of, contents_of, entry_of, held_of, is_short, lists_of, replica_of_logs, row_of}
pub use Rattle.pfair_table.specs.Table.{first_by_rank, Carried, History, Origin, Settings, Story, Table, all_ran, chosen, counted, counted_one, decisions, eligible, history, index_of, is_eligible, machine, members_at, members_before, names_task, next_index, pick, plan, plan_decisions, quanta, slot_of, table, with_decisions, world}
pub use Rattle.pfair_table.specs.declared.answer.Step.{Step}
pub use Rattle.pfair_table.specs.declared.answer.Step.TheVariants.{Done, Planned, Waiting}
pub use Rattle.pfair_table.specs.declared.planned.PlannedSlot.{PlannedSlot}
pub use Rattle.pfair_table.specs.declared.planner.Reading.{Reading}
pub use Rattle.pfair_table.specs.declared.planner.Readings.{Readings}
pub use Rattle.pfair_table.specs.declared.run.Event.{Event}
pub use Rattle.pfair_table.specs.declared.run.Event.TheVariants.{Take, Absorb, Plan}
pub use Rattle.pfair_table.specs.declared.slot.Decided.{Decided}
pub use Rattle.pfair_table.specs.declared.slot.Pick.{Pick}
pub use Rattle.pfair_table.specs.declared.slot.SlotPlan.{SlotPlan}
pub use Rattle.pfair_weight.proofs.NamesApart.{apart_cons, apart_filter, apart_head, apart_map, apart_nil, apart_push, apart_tail}
pub use Rattle.pfair_weight.specs.Name.{NamesApart}
pub use Rattle.pfair_weight.specs.Window.{Share, IsWeight, release_of, starts_job_of}
pub use Rattle.pfair_weight.specs.declared.window.TheConstants.{MAX_INDEX}
pub use Rattle.std.proofs.Common.{◌≡◌, sym, arith, ◌∙◌, ap, subst, List, ℕ, length, [], ◌∷◌, ◌<◌, refl, Some, None, ◌+◌, false, ◌≤◌, ◌++◌, suc, Bool, map, zero, drop, Option, slice_get, if◌then◌else◌, true, take, inl, inr, not, ◌≢◌, ◌-◌, cond, ◌||◌, Result, nat_lt, get_or, Ok, IfErr, min, ◌&&◌, ◌==◌, ◌*◌, IfOk, Err, is_some, IsTrue, ◌%◌, Vec, Global, OnOk, AllPairs, ◌⊎◌, slice_index, set, ◌^◌, bit_or, ⊎_elim, flat_map, nat_le, Bor, IfSome, add-one, w64, replicate, slice_index_or, ◌/◌, Iter, rules, vec_len, max}
pub use Rattle.std.proofs.Math.Seq.{drop-nil, take-length, take-suc}
pub use Rattle.std.proofs.SliceLists.{all_by_recursion_push}
pub use Rattle.std.proofs.lemmas.Bool.{and_from, and_parts, cases_Bool, cases_eq, cases_lt, cases_order, eq-eqb, eqb-true, false_from_ne_true, false≢true, le-leb, le-ltb, leb-true, lt-ltb, ltb-true, ne_eqb, not-true, or_cases, or_left, or_parts, or_right, true≢false}
pub use Rattle.std.proofs.lemmas.Bool.Decides.{nat_tests}
pub use Rattle.std.proofs.lemmas.Cmp.{nat_list_cmp_total}
pub use Rattle.std.proofs.lemmas.Grind.{common_steps, flat_map-append, get_or-set_at}
pub use Rattle.std.proofs.lemmas.List.{append-nil, append_assoc, drop-append-le, drop-map, drop_all, drop_more, get_or-map, get_or-set_other, get_or-set_same, length-append, length-drop, length-map, length-replicate, length-set, length-take-le, map-append, map-id, nil_from_length, take-append-drop, take-append-le, take-map, take_more}
pub use Rattle.std.proofs.lemmas.List.Sums.{sum_by_push, length-filter, count_by-le-length}
pub use Rattle.std.proofs.lemmas.Nat.{or_lt, div-add-mod'}
pub use Rattle.std.proofs.lemmas.Option.{get_or_from_slice_get, none-some, same_Some, slice_get-get_or, slice_get-map, slice_get_past, slice_get_read, slice_get_within}
pub use Rattle.std.proofs.lemmas.Simd.{map-map}
pub use Rattle.std.specs.Cmp.Lexicographic.{nat_list_eq_equiv}
pub use Rattle.std.specs.List.{AllByRecursion, filter, list_all, list_any}
pub use Rattle.std.specs.Option.{ForSome, option_copied, option_map}
pub use Rattle.std.specs.Ordering.{eq_by_cmp, is_lt}
pub use Rattle.std.specs.Result.{IsErrAnd}
