-- The names that many of these proofs cite, passed on from one place. Declares nothing.
pub use Rattle.pfair_board.specs.RunFaults.{IsGood, IsFullDesk, IsRunOf, Holds, IsFirstFault, SomeEndsIn, HoldsScript, IsRunFaultOf}
pub use Rattle.pfair_board.specs.Works.{has_first, has_kept, IsWorkerFault, AreWorks, HasLearned, IsAtWork, IsWorkOf, IsWorkplaceOf, HasPublished, IsTaken, log_of, HoldsLog}
pub use Rattle.pfair_board.specs.declared.threads.Worked.{Worked}
pub use Rattle.pfair_desk.proofs.Following.{each_snoc}
pub use Rattle.pfair_desk.specs.Desks.{BoardFrame, DeskState, DeskView, GrownDesk, IsDeskOf}
pub use Rattle.pfair_entry.specs.Entry.{Logged}
pub use Rattle.pfair_lattice.specs.declared.join_map.Flat.TheVariants.{Torn, One}
pub use Rattle.pfair_replica.specs.Replica.{Below, ReplicaRows, held, replica_of, Replica}
pub use Rattle.pfair_table.specs.Places.{IsFit, places_in}
pub use Rattle.pfair_table.specs.Planned.{as_tables}
pub use Rattle.pfair_table.specs.Refinement.{Dispatch}
pub use Rattle.pfair_table.specs.Script.{LoggedRun, capacity_of, replica_of_logs}
pub use Rattle.pfair_table.specs.Table.{Settings, Table, plan}
pub use Rattle.pfair_table.specs.declared.answer.RunFault.{RunFault}
pub use Rattle.std.proofs.Common.{◌≡◌, Some, slice_get, arith, ℕ, subst, ◌∙◌, sym, vec_len, [], None, ap, length, ◌+◌, Err, ◌<◌, List, refl, Ok, ◌∷◌, IfOk, ◌≤◌, vec_capacity, rules, add-one, inl, inr, ⊎_elim, Option, Result, IsOk, IfErr, slice_index_or, OnOk, ◌⊎◌, Bool, map, ◌++◌}
pub use Rattle.std.proofs.lemmas.Bool.{true≢false, cases_lt}
pub use Rattle.std.proofs.lemmas.Grind.{common_steps}
pub use Rattle.std.proofs.lemmas.Option.{get_or_from_slice_get, slice_get_read, slice_get_within}
pub use Rattle.std.specs.List.{AllByRecursion}
pub use Rattle.std.specs.Vec.Iter.{into_iter_items, into_iter_len}
