-- The names that many of these proofs cite, passed on from one place. Declares nothing.
pub use base.Fml.{Fml, flft}
pub use base.Logic.{fst∗}
pub use denote.RattleType.{RattleType}
pub use mir.Val.{Val}
pub use types.Kit.{‵, ◌⊛◌, ◌$◌, ◌∵◌, !, qed, move, keep, use1, split, fsplit, fjoin}
pub use types.Logic.{sem}
pub use Rattle.once_cell.specs.Once.{Agrees, cell_name, noted}
pub use Rattle.pfair_desk.specs.Desks.{BoardFrame, IsKey, place_of, DeskState, DeskView, Keeps, fresh_desk, learned, state_of, NoGapInRow, SameDesk, gained_in_row, gained_in_rows, is_gained}
pub use Rattle.pfair_desk.specs.Noted.{Knowledge, knowing, shared, AllNoted, Grows, IsInOrder, IsNoted, KnowMore}
pub use Rattle.pfair_entry.specs.Entry.{IsEntry, Logged, entry_exact, entry_eq}
pub use Rattle.pfair_lattice.specs.Held.{Held, HeldBelow, join_least, none_below, below_trans, held_join}
pub use Rattle.pfair_lattice.specs.declared.join_map.Flat.{Flat}
pub use Rattle.pfair_lattice.specs.declared.join_map.Flat.TheVariants.{One, Torn}
pub use Rattle.pfair_replica.specs.Faults.{HoldsMore, IsMergeFaultOf, IsPartlyMerged}
pub use Rattle.pfair_replica.specs.Laws.{held_after, IsReadByNumber}
pub use Rattle.pfair_replica.specs.Replica.{Below, Contents, Replica, Untorn, contents_join, empty_replica, join, only, sound_beginning, with_entry, IsShape, ReplicaRows, SameShape, held, replica_of}
pub use Rattle.std.proofs.Common.{◌≡◌, arith, ℕ, ap, ◌∙◌, sym, Some, None, refl, subst, length, List, ◌+◌, ◌<◌, ◌≤◌, [], ◌∷◌, slice_index_or, replicate, ◌-◌, true, false, IsSome, inl, ◌++◌, map, Option, IfSome, zero, suc, Bool, cond, is_some, is_none, inr, take, slice_set, ⊎_elim, ◌*◌, slice_get, rules, Ok, not, ◌&&◌, Result, Err, OnOk, OnErr}
pub use Rattle.std.proofs.lemmas.Grind.{common_steps, get_or-set_at}
pub use Rattle.std.proofs.lemmas.List.{get_or-map, get_or-set_other, get_or-set_same, get_or_past, length-map, length-replicate, length-set, map-append, map-set, replicate_more, take_more}
