-- The names that many of these proofs cite, passed on from one place. Declares nothing.
pub use Rattle.pfair_order.specs.Order.{GoesBefore, earlier_deadline, greater_b_bit, later_group, pd2_cmp, smaller_group, smaller_name, tie_group_of, AreFirst, EachOnce, first_by_rank, of_rank, rank}
pub use Rattle.pfair_order.specs.declared.Key.{Key}
pub use Rattle.pfair_weight.specs.Name.{name_eq, NamesApart, tied_names}
pub use Rattle.std.proofs.Common.{◌≡◌, sym, ◌∙◌, arith, ℕ, ◌<◌, List, refl, [], ◌∷◌, ap, suc, ◌+◌, ◌≤◌, inl, inr, true, false, cond, length, subst, zero, Bool, ◌++◌, Some, ◌⊎◌, take, get_or, ◌≢◌, ◌==◌, drop, AllPairs, append_assoc, nat_le, rules, nat_eq, ◌&&◌, map, filter}
pub use Rattle.std.proofs.lemmas.Bool.{cases_lt, cases_order, eq-eqb, eqb-true, false_from_ne_true, leb-false, leb-true, true≢false}
pub use Rattle.std.proofs.lemmas.Grind.{common_steps}
pub use Rattle.std.proofs.lemmas.List.{nil_from_length, append-nil, take_all, take-append-drop, length-take, drop_all, map-append}
pub use Rattle.std.proofs.lemmas.List.Elements.{All-contains, All-contains_itself, All-filter, All-from_get_or, All-from_recursion, Contains-append_cases, Contains-append_left, Contains-get_or, filter_agree, filter_passes, recursion_from_All}
pub use Rattle.std.proofs.lemmas.List.Sorted.{Contains-permutation, sum_by-IsPermutation, All-permutation, IsPermutation-sym, IsPermutation-trans, IsPermutation-refl, IsPermutation-cons, IsPermutation-middle, IsPermutation-append_right, sorted_far, ranks_by}
pub use Rattle.std.proofs.lemmas.List.Sums.{sum_by-cons, sum_by-append, length-filter}
pub use Rattle.std.proofs.lemmas.Option.{get_or_from_slice_get, none-some, same_Some, slice_get-get_or, slice_get_within}
pub use Rattle.std.specs.Cmp.{Equal-is, IsTotalOrder, nat_cmp_is, tied_itself}
pub use Rattle.std.specs.Cmp.Lexicographic.{bytes_decides, pointwise, slice_cmp}
pub use Rattle.std.specs.List.{All, AllByRecursion, Contains, count_by, slice_get}
pub use Rattle.std.specs.List.Sorted.{IsPermutation, IsSortedBy}
pub use Rattle.std.specs.Ordering.{is_eq, is_lt, nat_cmp, ordering_reverse, ordering_then}
pub use Rattle.std.specs.declared.cmp.Ordering.{Ordering}
pub use Rattle.std.specs.declared.cmp.Ordering.TheVariants.{Equal, Greater, Less}
