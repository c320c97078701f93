-- The names that many of these proofs cite, passed on from one place. Declares nothing.
pub use Rattle.pfair_optimal.specs.Schedule.{busy_bound_of, fluid_of, share_of, total_before, GoesFirst, IsFirstMiss, IsMiss, IsRunBelow, NoneTwice, Schedule, Subtask, Task, b_bit, busy_bound, deadline, has_run, is_among, is_row, next_of, previous_of, release, same_subtask, same_task, IsRunBelow}
pub use Rattle.pfair_weight.specs.Window.{IsHeavy, IsWeight, Share, units_of, b_bit_of, cascade_end, deadline_of, group_deadline_of, release_of}
pub use Rattle.pfair_weight.specs.WindowFacts.{group_deadline_heavy, div_ceil_le, div_ceil_of_multiple, le_div_ceil, lt_of_mul, mul_le_of_div, one_less, release_rises, deadline_rises_strictly, windows_overlap, b_bit_at_most_one, window_not_empty, group_deadline_light}
pub use Rattle.std.proofs.Common.{◌≡◌, arith, ℕ, ◌<◌, ◌≤◌, ◌+◌, sym, ◌-◌, ap, suc, true, ◌∙◌, inl, inr, zero, false, refl, subst, ◌*◌, [], ◌∷◌, Bool, ⊎_elim, ◌⊎◌, cond, ◌↔◌, List, length, ◌/◌, ◌&&◌, filter, nat_lt, min, ◌++◌, not, sum_by, ◌%◌, ◌||◌, ◌==◌, nat_le}
pub use Rattle.std.proofs.Math.Logic.{⊎_map}
pub use Rattle.std.proofs.Math.Nat.{div-lt_iff_lt-mul, le_refl, lt_of_not-le}
pub use Rattle.std.proofs.lemmas.Bool.{and_from, and_parts, cases_Bool, cases_eq, cases_lt, cases_order, eq-eqb, eqb-true, false_from_ne_true, false≢true, le-leb, le-ltb, leb-true, lt-ltb, not_from_false, or_cases, or_left, or_right, true_from_ne_false, true≢false}
pub use Rattle.std.proofs.lemmas.Nat.{mul-le, div-add-mod'}
pub use Rattle.std.specs.Int.{div_ceil}
pub use Rattle.std.specs.List.{list_any}
