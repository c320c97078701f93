-- The names that many of these proofs cite, passed on from one place. Declares nothing.
pub use Rattle.pfair_entry.specs.Entry.{Logged}
pub use Rattle.pfair_file.specs.Documents.{close_all, closed, document, empty_logs, Logs, logs_after, longer_log, tables_of, with_entries, with_entry, with_items, LogsAreInFileOrder, entries_for, entry_for, entry_list, IsOfFirstTable, FirstTableIsAtFault, entries_at}
pub use Rattle.pfair_file.specs.Tables.{Made, made_at, notice_at}
pub use Rattle.pfair_file.specs.declared.fault.FileFault.{FileFault}
pub use Rattle.pfair_file.specs.declared.fault.FileFault.TheVariants.{Memory}
pub use Rattle.pfair_table.specs.Script.{is_short, lists_of}
pub use Rattle.std.proofs.Common.{◌≡◌, arith, ℕ, List, length, Err, ◌∙◌, [], ◌≤◌, refl, vec_len, sym, ◌∷◌, ◌++◌, Result, Ok, ◌<◌, get_or, Vec, Global, All, ◌+◌, ap, Option, Some, true, subst, None, drop, rules, ◌≢◌, set, take, ◌-◌, IfSome, IsErrAnd}
pub use Rattle.std.proofs.lemmas.Grind.{common_steps}
pub use Rattle.std.proofs.lemmas.List.{append_assoc, get_or-map, get_or-set_other, get_or-set_same, length-append, length-map, length-set, map-set}
pub use Rattle.std.specs.Io.KnownBytes.{Consumes, Appends, Keeps}
pub use Rattle.std.specs.List.{list_all}
pub use Rattle.toml.specs.Data.{Data, Items, Members, as_table, item}
pub use Rattle.toml.specs.View.{items_view, table_view, view}
