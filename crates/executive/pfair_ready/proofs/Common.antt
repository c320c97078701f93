-- The names that many of these proofs cite, passed on from one place. Declares nothing.
pub use Rattle.indexmap.proofs.CallerLemmas.{keys-with_value_at, updates-with_value_at, filter-RetainsPairs}
pub use Rattle.itertools.specs.Extremes.{IsKLeast, by_cmp}
pub use Rattle.pfair_order.proofs.InOrder.{by_rank_of_split, once_from_names, each_trivial, by_rank_first}
pub use Rattle.pfair_order.proofs.KeyLaws.{keys_exact, keys_total}
pub use Rattle.pfair_order.proofs.RankLemmas.{IsSplit, at_place, first_within, less_of, place_of, split_from_least, split_more, split_of_permutation, all_map}
pub use Rattle.pfair_order.specs.Order.{pd2_cmp, first_by_rank}
pub use Rattle.pfair_order.specs.declared.Key.{Key}
pub use Rattle.pfair_ready.specs.Queue.{NameValue, name_cmp, name_eq, Content, Queue, released, without}
pub use Rattle.pfair_ready.specs.Waiting.{IsAmong, IsCovered, IsNear, IsNoted, Keeps, Moves, in_bucket, later_cmp, under, first_named, queue_of, AreTurns, HasTurn, KeepsTurns, turn_cmp, turn_of, Entries, IsEntryOf, IsKeyIn, held_under, is_due, is_turn_of, key_under, live, queue_in, with_entry}
pub use Rattle.pfair_ready.specs.declared.calendar.Calendar.{Calendar}
pub use Rattle.pfair_ready.specs.declared.calendar.Date.{Date}
pub use Rattle.pfair_ready.specs.declared.heap.Turn.{Turn}
pub use Rattle.pfair_ready.specs.declared.plain.PlainEntry.{PlainEntry}
pub use Rattle.pfair_ready.specs.declared.waiting.Entry.{Entry}
pub use Rattle.pfair_ready.specs.declared.waiting.HeldKey.{HeldKey}
pub use Rattle.pfair_weight.proofs.ByteOrder.{is_number, name_back, numbers_order}
pub use Rattle.pfair_weight.proofs.NamesApart.{apart_filter, apart_head, apart_map, apart_nil, apart_push, apart_tail}
pub use Rattle.pfair_weight.specs.Name.{IsTaskName, name_of, IsNumber, number_of, NamesApart}
pub use Rattle.pfair_weight.specs.Window.{nothing}
pub use Rattle.std.proofs.Common.{◌≡◌, ◌∙◌, ap, sym, refl, arith, List, subst, ◌≤◌, Some, ℕ, length, ◌∷◌, [], ◌<◌, map, Option, false, None, rules, true, inl, inr, Contains, slice_get, not, is_some, ◌+◌, ◌⊎◌, cond, Bool, ◌++◌, IfSome, slice_index_or, nat_le, min, vec_capacity, Ok, Err, ◌&&◌, zero, suc, Vec, Global, ◌%◌, IfNone, take, OnErr, nat_eq, slice_set, get_or, position, ◌||◌, T, length-append}
pub use Rattle.std.proofs.lemmas.Bool.{and_parts, cases_order, leb-false, leb-true, true≢false}
pub use Rattle.std.proofs.lemmas.Fn.{filter_same}
pub use Rattle.std.proofs.lemmas.Grind.{common_steps}
pub use Rattle.std.proofs.lemmas.List.{length-map, length-take, map-append, map_push, nil_from_length, take_all, take_more}
pub use Rattle.std.proofs.lemmas.List.Elements.{All-contains, All-from_recursion, Contains-append_left, Contains-append_right, All-tail, All-cons}
pub use Rattle.std.proofs.lemmas.List.Sorted.{All-permutation, Contains-permutation, IsPermutation-refl, IsPermutation-cons, IsPermutation-trans, IsPermutation-middle, IsPermutation-sym, length_permutation}
pub use Rattle.std.proofs.lemmas.Option.{none-some, same_Some, slice_get-get_or, slice_get-map, slice_get_past, slice_get_read}
pub use Rattle.std.specs.BinaryHeap.{IsHeap, KeepsHeap, PopsGreatest, heap_items}
pub use Rattle.std.specs.Cmp.{Equal-is, IsTotalOrder, both_ways, eq_by_cmp_equiv, tied_itself}
pub use Rattle.std.specs.Cmp.Lexicographic.{bytes_decides, nat_list_cmp_total, nat_list_eq_equiv}
pub use Rattle.std.specs.FinMap.{IsAntisymmetric, entries-insert, entries_sorted, find, from_entries_push, get-empty, get-entries, get-from_entries, get-insert, get-remove, get-retain_keys, is_sorted, nat_cmp-IsAntisymmetric, put, same_map, slice_cmp-IsAntisymmetric}
pub use Rattle.std.specs.List.{AllByRecursion, filter, list_any}
pub use Rattle.std.specs.List.Sorted.{IsPermutation}
pub use Rattle.std.specs.Option.{option_map}
pub use Rattle.std.specs.Ordering.{eq_by_cmp, is_eq, is_lt, nat_cmp, ordering_reverse, ordering_then}
pub use Rattle.std.specs.Vec.{with_item}
pub use Rattle.std.specs.declared.cmp.Ordering.{Ordering}
pub use Rattle.std.specs.declared.cmp.Ordering.TheVariants.{Equal, Greater, Less}
pub use Rattle.std.specs.declared.cmp.Reverse.{Reverse}
