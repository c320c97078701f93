-- The names that many of these proofs cite, passed on from one place. Declares nothing.
pub use Rattle.indexmap.proofs.CallerLemmas.{filter-RetainsPairs, insert_entry-new}
pub use Rattle.indexmap.specs.IndexMap.{insert_entry, set_value_at, with_value_at}
pub use Rattle.pfair_admission.specs.Admission.{Machine, all_decided, all_decisions, announcements, arrival, boundary, boundary_decisions, change, claimed, decided, decision, departure, effect, is_freed, is_named, late_release, member_named, newcomer, present, quantum_of, ran, running, seatless, with_delay, with_freeing, with_quantum, Membership, IsNotBefore, NoneFreed, NoneFreedBefore, earlier_of, EachBounded, EachHasRoom, IsCutShort, Roster, after_boundary, after_departure, after_late_release, after_quantum}
pub use Rattle.pfair_admission.specs.Carried.{CanBeCarried, all_raised, as_one, carried, carried_delays, coming_delays, delays_from, jobs_done, lowered, passed_delays, raised, subtasks_done, subtasks_of, taken_off, CanBeRestored, IsLeftAt, is_left_at, is_summed_up, member_in}
pub use Rattle.pfair_admission.specs.Incarnation.{IsIncarnation, StandsAtNext, member_of, own_delay}
pub use Rattle.pfair_admission.specs.Laws.{AreInFrame, HaveRoom, JoinedInOrder}
pub use Rattle.pfair_admission.specs.Ledger.{IsDecided, IsFound, IsLedger, IsNamedIn, IsNumberOf, IsOnly, IsPlace, IsRegister, IsUnswept, CanJoin, Numbered, after_all, decisions_on, has_number, is_there, listed, membership, whole, roster_of}
pub use Rattle.pfair_admission.specs.Member.{IsMember, Member, busy_until, eligible_from, freeing_slot, is_delayed_at, is_departing, lag_at, last_offset, next_key, theta}
pub use Rattle.pfair_admission.specs.declared.decision.Decision.{Decision}
pub use Rattle.pfair_admission.specs.declared.decision.Decision.TheVariants.{Admitted, Delayed, Departing, Refused}
pub use Rattle.pfair_admission.specs.declared.decision.Refusal.{Refusal}
pub use Rattle.pfair_admission.specs.declared.decision.Refusal.TheVariants.{NameTaken, NoSuchTask}
pub use Rattle.pfair_admission.specs.declared.delay.Delay.{Delay}
pub use Rattle.pfair_admission.specs.declared.incarnation.Incarnation.TheInside.{Inside}
pub use Rattle.pfair_admission.specs.declared.ledger.Ledger.{Ledger}
pub use Rattle.pfair_admission.specs.declared.members.TheConstants.Members.{LAST_SLOT, MAX_FRAME, MAX_HEARD, MAX_PROCESSORS}
pub use Rattle.pfair_entry.specs.declared.entry.Announcement.{Announcement}
pub use Rattle.pfair_entry.specs.declared.entry.Announcement.TheVariants.{Arrive, Depart, Late}
pub use Rattle.pfair_entry.specs.declared.entry.Said.{Said}
pub use Rattle.pfair_entry.specs.declared.entry.TheConstants.Entry.{LAST_INDEX, LONGEST_DELAY}
pub use Rattle.pfair_weight.proofs.NamesApart.{apart_head, apart_push, apart_tail, apart_filter, apart_map}
pub use Rattle.pfair_weight.specs.Name.{NameValue, NamesApart, name_eq}
pub use Rattle.pfair_weight.specs.Window.{Position, IsWeight, Share, units_of, release_of, starts_job_of, nothing, deadline_of, b_bit_of, group_deadline_of}
pub use Rattle.pfair_weight.specs.WindowFacts.{starts_job_repeats, by_kind, group_deadline_light, group_deadline_whole, group_deadline_heavy, release_repeats, deadline_repeats, b_bit_repeats, group_deadline_repeats, starts_after_jobs}
pub use Rattle.pfair_weight.specs.declared.window.TheConstants.{MAX_INDEX, MAX_OFFSET}
pub use Rattle.std.proofs.Common.{arith, ◌≡◌, ap, ◌∙◌, sym, ◌+◌, ℕ, List, [], ◌∷◌, ◌≤◌, Some, refl, true, ◌++◌, cond, subst, ◌<◌, Bool, false, None, ◌*◌, map, length, take, ◌-◌, Option, not, get_or, slice_get, if◌then◌else◌, nat_eq, rules, Result, Ok, Err, OnOk, suc, IfOk, OnErr, zero, ◌%◌, length-append, IfSome, ◌≢◌, min}
pub use Rattle.std.proofs.Math.Bool.{or-true}
pub use Rattle.std.proofs.Math.Nat.{div-eq_of_lt, mul-add, mul_assoc, mul_comm, div-mul-le_self, div-zero}
pub use Rattle.std.proofs.SliceLists.{all_by_recursion_push}
pub use Rattle.std.proofs.lemmas.Bool.{cases_lt}
pub use Rattle.std.proofs.lemmas.Bool.Decides.{nat_tests}
pub use Rattle.std.proofs.lemmas.Grind.{common_steps}
pub use Rattle.std.proofs.lemmas.List.{append-nil, map-append, take_more}
pub use Rattle.std.proofs.lemmas.List.Elements.{filter-append}
pub use Rattle.std.proofs.lemmas.List.Folds.{list_any-append}
pub use Rattle.std.proofs.lemmas.List.Quantifiers.{all_pairs_push, position-Some}
pub use Rattle.std.proofs.lemmas.List.Sums.{sum_by-append, sum_by-cons, sum_by_more_le, sum_by_push}
pub use Rattle.std.proofs.lemmas.Option.{none-some, same_Some, slice_get-get_or, slice_get_within}
pub use Rattle.std.specs.BTreeMap.{BTreeMap}
pub use Rattle.std.specs.Cmp.Lexicographic.{nat_list_eq_equiv, bytes_decides}
pub use Rattle.std.specs.List.{AllByRecursion, filter, find, list_all, list_any, sum_by}
unfoldable pub use Rattle.std.specs.List.{IsDistinct}
pub use Rattle.std.specs.Map.{keys_of, lookup, values_of}
pub use Rattle.std.specs.Option.{option_copied, option_map}
pub use Rattle.std.specs.Ordering.{nat_cmp}
pub use Rattle.std.specs.Prelude.{is_some, nat_le, nat_lt, unwrap_or, ◌==◌, ◌||◌}
