-- The names that many of these proofs cite, passed on from one place. Declares nothing.
pub use Rattle.pfair_entry.specs.Entry.{IsEntry, IsStamped, Logged, entry_exact, entry_eq}
pub use Rattle.pfair_entry.specs.declared.entry.Announcement.{Announcement}
pub use Rattle.pfair_entry.specs.declared.entry.Said.{Said}
pub use Rattle.pfair_lattice.specs.Entries.{IsOrdered, MapBelow, MapJoins, MapOutgrows, MapPartly, get, same_entries}
pub use Rattle.pfair_lattice.specs.Held.{FlatJoins, Held, HeldBelow, held_join, below_antisym, below_held, below_itself, below_trans, held_below, join_assoc, join_comm, join_first, join_idem, join_least, join_second, joins_held, none_below, FlatBelow}
pub use Rattle.pfair_lattice.specs.declared.join_map.Flat.{Flat}
pub use Rattle.pfair_lattice.specs.declared.join_map.Flat.TheVariants.{One, Torn}
pub use Rattle.pfair_replica.specs.Counters.{said_at, AreCounters, ComesFirst, IsEarlier, IsFirst, IsFirstTornIn, IsLeftAt, IsPart, IsRunBefore, IsTornAt, WereApart, WereBefore, beginning_in, first_mark, least_mark, total_count}
pub use Rattle.pfair_replica.specs.Faults.{IsPartlyMerged, HoldsMore}
pub use Rattle.pfair_replica.specs.Laws.{Among, among_append, among_at, among_below, among_contains, among_filter, among_flat, among_left, among_map, among_right, below_among, contains_among, filter_among, flat_among, flat_same, map_among, join_none, BeginningsGrow, IsAgreement, IsLeastJoin, IsLeastMark, IsListed, IsLongestRun, IsReadByNumber, IsRun, OfferedStays, held_after}
pub use Rattle.pfair_replica.specs.Replica.{EntryKey, Agree, Below, Contents, IsLeastMissing, IsReplica, Replica, Untorn, contents_join, entry_key, fallen_at, fallen_in, fallen_keys, frontier, goes_on, has_torn, is_torn, join, last_floor, mark, missing, numbers_below, numbers_to, only, run_from, said, said_behind, said_by, said_in, sound_beginning, sound_total, torn_in, torn_keys, torn_to, with_entry, AreEmptyRows, IsFull, IsKnownByHeld, IsReplicaRows, IsShape, Row, held, held_in, replica_of, IsSaidAt, ComesBefore, key_of, IsSaid, has_key, has_shape, taken, absorbed}
pub use Rattle.pfair_replica.specs.declared.rows.Beginning.{Beginning}
pub use Rattle.std.proofs.Common.{◌≡◌, arith, ◌∙◌, ℕ, ap, Some, sym, refl, subst, ◌+◌, ◌≤◌, List, ◌<◌, [], length, None, inr, suc, ◌∷◌, zero, ◌++◌, ⊎_elim, inl, Option, slice_get, true, ◌≢◌, ◌⊎◌, map, cond, Bool, flat_map, find, ◌-◌, min, fold, false, IsSomeAnd, rules, ◌==◌, replicate, filter, IsSome, Result, OnErr, ◌↔◌, is_some, append_assoc, take, is_none, set, ◌||◌, get_or, AllPairs, drop, OnOk, ◌&&◌, nat_lt, nat_le, if◌then◌else◌, IsTrue, nat_eq, ◌*◌, ◌^◌}
pub use Rattle.std.proofs.Math.Numerals.{add-one}
pub use Rattle.std.proofs.lemmas.Bool.{and_parts, cases_Bool, cases_eq, cases_lt, eq-eqb, eqb-true, false≢true, le-leb, leb-true, lt-ltb, ltb-true, ne_eqb, or_parts, true≢false}
pub use Rattle.std.proofs.lemmas.Grind.{common_steps, flat_map-append, get_or-set_at}
pub use Rattle.std.proofs.lemmas.List.{append-nil, drop_all, drop_more, get_or-replicate, get_or-set_other, length-replicate, length-set, length_push, map-append}
pub use Rattle.std.proofs.lemmas.List.Folds.{fold-map, sum_by-replicate, find-append}
pub use Rattle.std.proofs.lemmas.Map.Lookups.{exact_unsigned}
pub use Rattle.std.proofs.lemmas.Option.{cond_some, get_or_from_slice_get, none-some, slice_get-get_or, slice_get_read, slice_get_within}
pub use Rattle.std.specs.BTreeMap.{is_at}
pub use Rattle.std.specs.Cmp.{nat_cmp_total, Equal-is, eq_by_cmp_equiv, tied_itself}
pub use Rattle.std.specs.List.{Contains, list_any}
pub use Rattle.std.specs.Option.{option_and_then, option_map, option_or}
pub use Rattle.std.specs.Ordering.{eq_by_cmp, is_eq, nat_cmp}
