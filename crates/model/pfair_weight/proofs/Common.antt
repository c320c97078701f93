-- The names that many of these proofs cite, passed on from one place. Declares nothing.
pub use Rattle.pfair_weight.specs.Name.{IsTaskName, NameValue, NamesApart, may_stand, name_eq, IsPadded, before_zero, with_zeros}
pub use Rattle.pfair_weight.specs.Window.{Close, Ratio, Share, Position}
pub use Rattle.pfair_weight.specs.WindowFacts.{div_ceil_rises, rounded_twice}
pub use Rattle.pfair_weight.specs.declared.window.TheConstants.{MAX_CLOSE, MAX_INDEX}
pub use Rattle.std.proofs.Common.{◌≡◌, ap, ◌∙◌, arith, ◌+◌, ◌<◌, ◌≤◌, ◌-◌, length, ◌*◌, ℕ, sym, List, [], ◌∷◌, ◌++◌, subst, ◌/◌, zero, suc, true, replicate, slice_index, ◌^◌, false, get_or, take, refl, ◌==◌, drop, ◌≢◌, Bool, cond, map, filter, AllPairs, Option, Some, ◌%◌, length-append}
pub use Rattle.std.proofs.Math.Nat.{le_refl, pow-suc}
pub use Rattle.std.proofs.lemmas.Bool.Decides.{nat_tests}
pub use Rattle.std.proofs.lemmas.Cmp.{nat_list_cmp_total, tied_itself, ranked}
pub use Rattle.std.proofs.lemmas.Grind.{common_steps, div_ceil_times}
pub use Rattle.std.proofs.lemmas.List.{drop-replicate, get_or-map, length-map, map_push, length-replicate}
pub use Rattle.std.proofs.lemmas.Nat.{div-mul-add, leading_top, mul-add-lt, mul-le, pow_pos}
pub use Rattle.std.specs.Cmp.Lexicographic.{bytes_decides, slice_cmp}
pub use Rattle.std.specs.Int.{byte_at, byte_worth, bytes_high_first, div_ceil, from_be_bytes, from_le_bytes, leading_zeros, sum_through, to_be_bytes, w128}
pub use Rattle.std.specs.Ordering.{MatchOrdering, nat_cmp, ordering_then}
pub use Rattle.std.specs.declared.cmp.Ordering.TheVariants.{Equal, Greater}
