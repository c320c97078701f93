-- The names that many of these proofs cite, passed on from one place. Declares nothing.
pub use Rattle.pfair_entry.specs.Entry.{IsEntry, IsWeighed, Logged}
pub use Rattle.pfair_entry.specs.Notice.{IsNamed, IsWellSaid, noticed}
pub use Rattle.pfair_entry.specs.declared.entry.Announcement.{Announcement}
pub use Rattle.pfair_entry.specs.declared.entry.Announcement.TheVariants.{Arrive, Depart, Late}
pub use Rattle.pfair_entry_row.specs.Laws.{RowsAreLines, TextsAreRows, RowsAreReadOneWay, RowsAreShort}
pub use Rattle.pfair_entry_row.specs.Line.{said_texts, Notes, logged}
pub use Rattle.pfair_entry_row.specs.Row.{SaysNothing, parts, HasNoComma, HasNone, IsEntryAt, IsSayable, IsSpelled, IsSpelledOut, announced_fields, dash, entry_fields, entry_row, said_fields, truth, keyed, IsRowFaultOf, SaysWhatIsRefused, parts_at, texts}
pub use Rattle.pfair_text.proofs.NameFacts.{is_plain-name}
pub use Rattle.pfair_text.proofs.RowFacts.{is_plain-decimal}
pub use Rattle.pfair_text.specs.Rows.{is_plain, is_mark}
pub use Rattle.std.proofs.Common.{arith, ℕ, ◌≡◌, List, Some, None, Option, ◌<◌, length, sym, ◌∙◌, ◌∷◌, ◌^◌, true, [], ◌==◌, Ok, refl, ap, ◌≢◌, Bool, false, ◌≤◌, ◌+◌, cond, ltb, Err, ◌++◌, zero, suc, append_assoc, not, ◌⊎◌, inl, inr, length-append, ◌-◌, take, drop, subst, Result, MatchResult, option_map, rules, tests}
pub use Rattle.std.proofs.lemmas.Bool.{and_from, and_parts, eqb-false, ne_eqb, not-true, or_parts, both_ways}
pub use Rattle.std.proofs.lemmas.Bool.Decides.{nat_tests}
pub use Rattle.std.proofs.lemmas.Fmt.{length-decimal-le, IsAscii-decimal, parse-decimal, decimal_injective}
pub use Rattle.std.proofs.lemmas.Grind.{common_steps}
pub use Rattle.std.proofs.lemmas.List.Splits.{join_with_byte-slice_split, length-slice_split, slice_split_at, slice_split_first, slice_split_none}
pub use Rattle.std.proofs.lemmas.List.Sums.{fails_before_first}
pub use Rattle.std.specs.Fmt.{decimal}
pub use Rattle.std.specs.List.{All, AllByRecursion, join_with_byte, list_all, list_any, position_or_len}
