-- The names that many of these proofs cite, passed on from one place. Declares nothing.
pub use Rattle.pfair_lag.specs.Book.{EachFits, IsKept, IsSound, counted_at, entered_shown, tally_shown, with_quanta, with_quantum, Book, Tally, entered_after, has_run, lag_of, left, recorded, slot_more, tally_of, Enter, Leave, Record, Stay, slot_passed, tally_in, CountsSinceEntering}
pub use Rattle.pfair_lag.specs.Lag.{LagAboveMinusOne, LagBelowOne, LagWithin, quanta_before, ArePicks, InWindows, IsPick, KeepsReleases, MeetsDeadlines, Rises, pick_of, miss_index, IsMiss, IsFirstMiss, IsLate, IsFirstLate, OneFirstMiss, OneFirstLate, MissesAreOut, LateMissDeadlines}
pub use Rattle.pfair_lag.specs.declared.book.Account.{Account}
pub use Rattle.pfair_lag.specs.declared.book.TheConstants.{START}
pub use Rattle.pfair_weight.specs.Name.{NameValue, name_eq, NamesApart, name_at}
pub use Rattle.pfair_weight.specs.Window.{nothing, IsWeight, Share, deadline_of, release_of}
pub use Rattle.std.proofs.Common.{arith, ◌≡◌, ℕ, sym, ◌<◌, ap, ◌∙◌, ◌+◌, ◌≤◌, List, length, Some, refl, is_some, ◌*◌, not, Option, ◌-◌, get_or, subst, Bool, true, false, [], ◌∷◌, map, None, zero, suc, inl, inr, cond, ◌++◌, filter, take, slice_get, ◌^◌, ◌||◌, position, ◌&&◌, count_by, below_more}
pub use Rattle.std.proofs.lemmas.Bool.{cases_lt, true≢false}
pub use Rattle.std.proofs.lemmas.Grind.{common_steps}
pub use Rattle.std.proofs.lemmas.List.Sums.{count_by-le-length, sum_by-cons}
pub use Rattle.std.proofs.lemmas.Nat.{mul-le}
pub use Rattle.std.specs.Cmp.Lexicographic.{bytes_decides, nat_list_eq_equiv}
pub use Rattle.std.specs.Map.{lookup, keys_of, values_of, remove_entry}
pub use Rattle.std.specs.Option.{option_copied, option_map}
pub use Rattle.std.specs.Prelude.{IsTrue, ◌↔◌}
