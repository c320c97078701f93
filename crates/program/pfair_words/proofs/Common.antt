-- The names that many of these proofs cite, passed on from one place. Declares nothing.
pub use Rattle.clap.proofs.WalkLemmas.{first_value-rows, one_text-rows, walk_stopped}
pub use Rattle.clap.specs.Faults.{step_fault, turn_fault}
pub use Rattle.clap.specs.Kinds.{or_else}
pub use Rattle.clap.specs.Lexer.{long_of, short_of}
pub use Rattle.clap.specs.ValueTests.{accepts}
pub use Rattle.clap.specs.Walk.{idle, nothing_held, one_of, subcommand_met}
pub use Rattle.clap.specs.Words.{App, HasMatchesOf, IsAmong, Kinds, Row, Rule, Text, app_of, fault_of, first_of, found_of, is_simple, is_simple_and_free, kind_of, subcommand_of, subcommand_rows_of}
pub use Rattle.clap.specs.declared.error.kind.ErrorKind.{ErrorKind}
pub use Rattle.clap.specs.declared.error.kind.ErrorKind.TheVariants.{DisplayHelp, DisplayVersion, MissingSubcommand, ValueValidation}
pub use Rattle.pfair_file.specs.declared.program_fault.ProgramFault.{ProgramFault}
pub use Rattle.pfair_file.specs.declared.program_fault.ProgramFault.TheVariants.{CommandLine, Memory, Weight}
pub use Rattle.pfair_words.specs.Parse.{IsFlag, IsParsed, Named, Spells, SpellsIfAny, texts, ToAny, ToWords, ToUntaken, IsTextKind}
pub use Rattle.pfair_words.specs.ScheduleAsked.{AskNumbers, Begins, HasCount, IsDecisionsAnswer, IsLagsAnswer, IsNamedFirst, IsPlain, IsPlainAnswer, IsRefusal, IsReplayAnswer, IsTextAnswer, IsWindowsAnswer, IsAnswer, IsAnswerTo, IsAnswerToAny, IsText, cost, count, decisions, lags, line, period, replay, windows, AskWindows}
pub use Rattle.pfair_words.specs.declared.command.Parsed.TheVariants.{Help, Matches}
pub use Rattle.pfair_words.specs.declared.schedule.Asked.{Asked}
pub use Rattle.std.proofs.Common.{List, Ok, refl, ap, ◌≡◌, subst, Result, sym, inl, inr, Err, ◌∙◌, ℕ, Bool, true, false, [], ◌∷◌, Some, codes, arith, None, Option, IfOk, ◌≢◌, cond, ap₂, nat_eq, rules, zero, suc, true≢false, is_some, length, IsErrAnd, ◌↔◌, ◌≤◌}
pub use Rattle.std.specs.Str.{bytes_eq}
