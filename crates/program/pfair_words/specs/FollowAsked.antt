-- What the words of `pfair_follow` ask for, by the name of their command and the words under the names of its arguments.
use Rattle.std.specs.Prelude.{ℕ, true, List, [], ◌∷◌, Some, codes, ◌≡◌, ◌≤◌, ◌⊎◌, ⊤, Option, None, Result, Ok, Err, string_bytes}
use Rattle.clap.specs.Words.{App, Rule, new_app, new_rule, with_rule, with_subcommand, Row, Text, first_of}
use Rattle.clap.specs.declared.builder.value_parser.ValueParser.TheVariants.{Unsigned}
use Rattle.pfair_table.specs.declared.settings.TheConstants.Settings.{MAX_PROCESSORS, MAX_FRAME, MAX_SLOTS}
use Rattle.pfair_words.specs.Parse.{affinity, file, flag, program, ToAny, ToWords, AskFile, IsFlag, IsNumber, IsNumberIfAny, IsTextIfAny, Named}
use Rattle.clap.specs.Walk.{one_of}
use Rattle.pfair_table.specs.Places.{IsSettings}
use Rattle.pfair_table.specs.Table.{Settings}
use Rattle.pfair_words.specs.declared.follow.Feed.{Feed}
use Rattle.pfair_words.specs.declared.follow.Resumed.{Resumed}
use Rattle.pfair_words.specs.declared.follow.Start.{Start}
use Rattle.pfair_words.specs.declared.follow.Start.TheVariants.{First, Later}
use Rattle.pfair_words.specs.declared.follow.Asked.{Asked}
use Rattle.pfair_words.specs.declared.follow.Asked.TheVariants.{Entries, Replay, Decisions, Lags, Help}
use Rattle.pfair_file.specs.declared.program_fault.ProgramFault.{ProgramFault}
use Rattle.pfair_file.specs.declared.program_fault.ProgramFault.TheVariants.{CommandLine, Memory}

-- The command line of `pfair_follow` as the parser reads it: the commands, and the words of each by their names.

-- an option of this name, behind which stands a number from `least` to `most`
abbrev pub option : List ℕ → (least most : ℕ) → Rule
option name least most = record (new_rule name) { long = Some name; value_names = 1; parser = Some (Unsigned least most) }

-- the first slot whose rows are written: 0 if it isn't given
abbrev pub from : Rule
from = record (option (codes "from") 0 MAX_SLOTS) { defaults = codes "0" ∷ [] }

-- an option of this name, behind which stands the name of a file
abbrev pub worded : List ℕ → Rule
worded name = record (new_rule name) { long = Some name; value_names = 1 }

-- a command with the options of settings
abbrev pub with_settings : App → App
with_settings a =
    with_rule (with_rule (with_rule a (option (codes "processors") 1 MAX_PROCESSORS)) (option (codes "frame") 1 MAX_FRAME)) (record (option (codes "slots") 1 MAX_SLOTS) { required = true })

-- a command with the options of a run
abbrev pub with_run : App → App
with_run a = with_rule (with_rule (with_rule (with_rule (with_settings a) from) (flag (codes "strict"))) (worded (codes "resume"))) (worded (codes "save"))

abbrev pub entries : App
entries = with_rule (new_app (codes "entries")) file

abbrev pub replay : App
replay = with_rule (with_run (new_app (codes "replay"))) affinity

abbrev pub decisions : App
decisions = with_run (new_app (codes "decisions"))

abbrev pub lags : App
lags = with_run (new_app (codes "lags"))

-- the command line whole
abbrev pub line : App
line = with_subcommand (with_subcommand (with_subcommand (with_subcommand (program (codes "pfair_follow")) entries.top) replay.top) decisions.top) lags.top

-- settings within their limits
pub record AskSettings (rows : List Row) (settings : Settings) : Type 0 where
  pub processors : IsNumber rows (codes "processors") settings.processors
  pub frame : IsNumber rows (codes "frame") settings.frame
  pub slots : IsNumber rows (codes "slots") settings.slots
  pub in_range : IsSettings settings

abbrev pub AsksNoSettings : List Row → Type 0
AsksNoSettings rows = (settings : Settings) → ¬ AskSettings rows settings

-- a first slot within its range
pub record AskFrom (rows : List Row) (from : ℕ) : Type 0 where
  pub number : IsNumber rows (codes "from") from
  pub in_range : from ≤ MAX_SLOTS

-- a run that begins with the state of a file, by all but the file
pub record AskResumed (rows : List Row) (resumed : Resumed) : Type 0 where
  pub slots : IsNumber rows (codes "slots") resumed.slots
  pub processors : IsNumberIfAny rows (codes "processors") resumed.processors
  pub frame : IsNumberIfAny rows (codes "frame") resumed.frame

-- where a run begins: with a file's state if one is named, and else as a first run
abbrev pub AskStart : List Row → Start → Type 0
AskStart rows (First settings) = (first_of (codes "resume") rows ≡ None) × AskSettings rows settings
AskStart rows (Later resumed) = (first_of (codes "resume") rows ≡ Some (string_bytes resumed.file)) × AskResumed rows resumed

abbrev pub AsksNoStart : List Row → Type 0
AsksNoStart rows =
    ((first_of (codes "resume") rows ≡ None) × AsksNoSettings rows)
    ⊎ ((file : Text) × (first_of (codes "resume") rows ≡ Some file) × ((slots : ℕ) → ¬ IsNumber rows (codes "slots") slots))

-- a run
pub record AskFeed (rows : List Row) (feed : Feed) : Type 0 where
  pub start : AskStart rows feed.start
  pub from : AskFrom rows feed.from
  pub strict : IsFlag (one_of (codes "strict") rows) feed.is_strict
  pub save : IsTextIfAny rows (codes "save") feed.save

abbrev pub AsksNoFeed : List Row → Type 0
AsksNoFeed rows = AsksNoStart rows ⊎ ((from : ℕ) → ¬ AskFrom rows from)

-- a command over a run
abbrev pub AskFed : Text → Named → Feed → Type 0
AskFed command named feed = (named.0 ≡ command) × AskFeed named.1 feed

-- what a command asks for
abbrev pub Ask : Named → Asked → Type 0
Ask named (Entries file) = AskFile (codes "entries") named (string_bytes file)
Ask named (Replay feed affinity) = AskFed (codes "replay") named feed × IsFlag (one_of (codes "affinity") named.1) affinity
Ask named (Decisions feed) = AskFed (codes "decisions") named feed
Ask named (Lags feed) = AskFed (codes "lags") named feed
Ask named (Help text) = ⊥

-- a text about the program
abbrev pub IsText : Asked → Type 0
IsText (Help text) = ⊤
IsText _ = ⊥

-- no command asks for anything
pub record AskNothing (named : Named) : Type 0 where
  pub no_entries : (file : Text) → ¬ AskFile (codes "entries") named file
  pub no_replay : named.0 ≡ codes "replay" → AsksNoFeed named.1
  pub no_decisions : named.0 ≡ codes "decisions" → AsksNoFeed named.1
  pub no_lags : named.0 ≡ codes "lags" → AsksNoFeed named.1

-- what is answered to a command
abbrev pub IsAnswerTo : Named → Result Asked ProgramFault → Type 0
IsAnswerTo named (Ok asked) = Ask named asked
IsAnswerTo named (Err Memory) = ⊤
IsAnswerTo named (Err CommandLine) = AskNothing named
IsAnswerTo named (Err _) = ⊥

abbrev pub IsAnswerToAny : Option Named → Result Asked ProgramFault → Type 0
IsAnswerToAny = ToAny line IsAnswerTo IsText

-- what is answered to words
abbrev pub IsAnswer : List Text → Result Asked ProgramFault → Type 0
IsAnswer = ToWords line IsAnswerTo IsText
