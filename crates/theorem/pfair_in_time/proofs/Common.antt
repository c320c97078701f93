-- The names that many of these proofs cite, passed on from one place. Declares nothing.
pub use Rattle.pfair_admission.proofs.Boundaries.{eligible_at_job, eligible_no_later, eligible_not_early, one_each, room_boundary, theta_earlier, by_effect, apart_effect, apart_present, admitted_in_frame, theta_later}
pub use Rattle.pfair_admission.proofs.Carrying.{theta_rises, next_key_same}
pub use Rattle.pfair_admission.specs.Admission.{Machine, all_decided, all_decisions, announcements, arrival, boundary, change, claimed, decided, decision, departure, effect, is_freed, is_named, late_release, member_named, newcomer, present, with_delay, with_freeing}
pub use Rattle.pfair_admission.specs.Carried.{carried, all_raised, raised}
pub use Rattle.pfair_admission.specs.Member.{Member, busy_until, eligible_from, freeing_slot, is_departing, lag_at, next_key, theta}
pub use Rattle.pfair_admission.specs.declared.decision.Decision.TheVariants.{Departing, Delayed, Admitted}
pub use Rattle.pfair_entry.specs.Entry.{entry_exact, name_exact, name_itself, entry_eq, name_eq, IsWeighed}
pub use Rattle.pfair_entry.specs.declared.entry.Announcement.{Announcement}
pub use Rattle.pfair_entry.specs.declared.entry.Said.{Said}
pub use Rattle.pfair_in_time.specs.Laws.{Descends, IsNew, IsSound, AllSound, AllHaveWeights, IsFreed, BoundariesKeepMembers}
pub use Rattle.pfair_in_time.specs.Runs.{IsRunAfter, IsServed, NoneMisses, Past, origin_after, table_through, slots_since, slots_run, KeepsDeadlines, KeepsWindows, DeadlinesAreKept, WindowsAreKept, IsInTime, BooksShowLags, IsWithinOne, LagsStayWithinOne, DispatchersNeverMiss, DispatchersRunOn, NeverMisses, past_of}
pub use Rattle.pfair_in_time.specs.Schedules.{Arrival, SaysOnly, IsCommonMultiple, quanta_in, later_row, TablesRepeat, RepeatsByPeriods, quanta_before, NoneServesMore}
pub use Rattle.pfair_lag.specs.Lag.{InWindows, MeetsDeadlines, lag_numerator, LagsKeepWindows, LagsKeepDeadlines, ArePicks}
pub use Rattle.pfair_optimal.proofs.Past.{task_exact, subtask_exact, ran_at, ran_by, ran_more}
pub use Rattle.pfair_optimal.specs.Schedule.{Task, Subtask, Schedule, is_among, NoneTwice, same_task, same_subtask, is_row, has_run, busy_bound_of, release, deadline, b_bit, group_deadline, busy_bound, IsNext, GoesFirst, IsRunBelow}
pub use Rattle.pfair_order.proofs.InOrder.{first_names, by_rank_first, once_from_names}
pub use Rattle.pfair_order.proofs.KeyLaws.{keys_total, group_later, key_later, filter_mapped, first_later, goes_before}
pub use Rattle.pfair_order.proofs.RankLemmas.{place_of, all_counted, at_place, less_by_rank, first_within}
pub use Rattle.pfair_order.specs.declared.Key.{Key}
pub use Rattle.pfair_replica.specs.Laws.{Among, all_among, among_all, among_append, among_below, among_contains, among_filter, among_left, among_map, contains_among, filter_among, map_among, map_same}
pub use Rattle.pfair_replica.specs.Replica.{Agree, IsReplica, Replica, Untorn, numbers_below, said, replica_of}
pub use Rattle.pfair_table.proofs.NextRuns.{said_weighed}
pub use Rattle.pfair_table.proofs.QueueKept.{found_own}
pub use Rattle.pfair_table.proofs.RunsOn.{any_among, begun_over, left_begun, long_early, members_paired, names_of, names_same, slot_more, slot_on, world_at}
pub use Rattle.pfair_table.proofs.TableLaws.{label, named_from, named_world, IsCounted, counted_on, counted_world, long_history, world_counted, eligible_apart, same_history}
pub use Rattle.pfair_table.specs.NextRun.{HasBegun, IsBegun, IsWeighedStory, both_stories, last_places, last_table, left_over}
pub use Rattle.pfair_table.specs.Table.{Origin, Settings, Story, Table, chosen, counted, counted_one, decisions, eligible, history, index_of, is_eligible, machine, members_before, names_task, next_index, pick, quanta, slot_after, slot_of, table, table_of, with_decisions, world, first_by_rank}
pub use Rattle.pfair_table.specs.declared.slot.Pick.{Pick}
pub use Rattle.pfair_weight.proofs.NamesApart.{apart_filter, apart_head, apart_map, apart_nil, apart_tail}
pub use Rattle.pfair_weight.specs.Name.{NamesApart}
pub use Rattle.pfair_weight.specs.Window.{IsWeight, Share, units_of, b_bit_of, deadline_of, group_deadline_of, release_of, starts_job_of}
pub use Rattle.pfair_weight.specs.WindowFacts.{b_bit_at_most_one, deadline_rises, deadline_rises_strictly, window_not_empty, of_released, released, deadline_repeats, job_due, job_released, release_repeats, starts_after_jobs, group_deadline_light, group_deadline_not_before, b_bit_repeats, group_deadline_repeats, starts_job_repeats, group_deadline_whole, group_deadline_heavy, group_deadline_rises, by_kind}
pub use Rattle.std.proofs.Common.{◌≡◌, ℕ, zero, suc, ◌<◌, ◌≤◌, true, cond, Some, arith, ap, refl, sym, ◌∙◌, subst, inl, inr, ◌⊎◌, None, Bool, false, List, [], ◌∷◌, Option, not, ◌&&◌, map, ◌↔◌, ◌≢◌, ◌-◌, ◌%◌, ◌++◌, ⊎_elim, is_some, if◌then◌else◌, ◌+◌, filter, count_by, ◌*◌, length, get_or, max, pos, neg_ℤ, ◌<ℤ◌, nat_lt, ◌/◌, ◌||◌, nat_le, option_map, drop, sum_by}
pub use Rattle.std.proofs.Math.Nat.{div-mul-le_self, le_refl, mod-eq-sub-div-mul, mul-mod_left, mul-suc, mul_comm}
pub use Rattle.std.proofs.lemmas.Bool.{and_from, and_parts, cases_Bool, cases_eq, cases_lt, cases_order, eq-eqb, false≢true, le-leb, le-ltb, leb-true, lt-ltb, ltb-false, not-true, not_from_false, or_left, or_parts, or_right, true≢false, false_from_ne_true}
pub use Rattle.std.proofs.lemmas.Bool.Decides.{nat_tests}
pub use Rattle.std.proofs.lemmas.List.{append-nil, append_assoc, drop-append-le, drop_all, get_or_append_left, get_or_push, length-append, length-map, map-id}
pub use Rattle.std.proofs.lemmas.List.Sums.{sum_by-cons, sum_by_push, length-filter, sum_by-le}
pub use Rattle.std.proofs.lemmas.Nat.{mul-le, div-add-mod'}
pub use Rattle.std.proofs.lemmas.Option.{same_Some, slice_get-get_or, slice_get_within}
pub use Rattle.std.proofs.lemmas.Simd.{map-map}
pub use Rattle.std.specs.List.{AllByRecursion, Contains, find, list_any}
