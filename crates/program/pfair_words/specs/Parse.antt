-- What the parser makes of words, and what stands under the names of arguments.
use Rattle.std.specs.Prelude.{ℕ, ◌≡◌, ◌≢◌, ◌<◌, ◌^◌, ◌⊎◌, true, false, List, [], map, Option, Some, None, MatchOption, Result, Ok, Err, ⊤, codes, String, string_bytes}
use Rattle.std.specs.declared.alloc.Global.{Global}
use Rattle.std.specs.Option.{option_map}
use Rattle.std.specs.Str.Parse.{IsNumeral, digits_value, without_leading_plus}
use Rattle.clap.specs.Words.{App, IsAmong, Row, Text, fault_of, first_of, subcommand_of, subcommand_rows_of, Rule, app_of, new_app, new_rule, with_rule}
use Rattle.clap.specs.Walk.{one_of}
use Rattle.clap.specs.declared.error.kind.ErrorKind.{ErrorKind}
use Rattle.clap.specs.declared.error.kind.ErrorKind.TheVariants.{DisplayHelp, DisplayVersion, OutOfMemory}
use Rattle.pfair_words.specs.declared.command.Parsed.{Parsed}
use Rattle.pfair_words.specs.declared.command.Parsed.TheVariants.{Matches, Help}
use Rattle.pfair_file.specs.declared.program_fault.ProgramFault.{ProgramFault}
use Rattle.pfair_file.specs.declared.program_fault.ProgramFault.TheVariants.{CommandLine, Memory}
use Rattle.clap.specs.declared.builder.action.ArgAction.TheVariants.{SetTrue, Version}
use Rattle.clap.specs.declared.builder.command.Command.{Command}
use Rattle.clap.specs.declared.builder.command.Command.TheViews.{out-Command}

abbrev pub texts : List (String Global) → List Text
texts words = map string_bytes words

-- a command: its name, and what its words are
abbrev pub Named : Type 0
Named = Text × List Row

-- ---- what stands under a name

-- the word spells a number below 2^64: decimal digits, behind one plus at most
abbrev pub Spells : Text → ℕ → Type 0
Spells word n = let digits = without_leading_plus word in (IsNumeral 10 digits × (digits_value 10 digits < 2 ^ 64)) × (n ≡ digits_value 10 digits)

abbrev pub SpellsIfAny : Option Text → ℕ → Type 0
SpellsIfAny None n = ⊥
SpellsIfAny (Some word) n = Spells word n

-- the number under a name
abbrev pub IsNumber : List Row → Text → ℕ → Type 0
IsNumber rows name n = SpellsIfAny (one_of name rows) n

-- the number under a name if it is one, and none if no word stands there or it spells no number
abbrev pub IsNumberIfAny : List Row → Text → Option ℕ → Type 0
IsNumberIfAny rows name found = MatchOption found ((n : ℕ) → ¬ IsNumber rows name n) (IsNumber rows name)

-- the word under a name, and none if none stands there
abbrev pub IsTextIfAny : List Row → Text → Option (String Global) → Type 0
IsTextIfAny rows name found = first_of name rows ≡ option_map string_bytes found

-- set if the flag's value is `true`, and not if it is `false` or there is none
pub record IsFlag (value : Option Text) (set : _) : Type 0 where
  pub on : value ≡ Some (codes "true") → set ≡ true
  pub off : value ≡ Some (codes "false") → set ≡ false
  pub absent : value ≡ None → set ≡ false

-- a command over a file
abbrev pub AskFile : Text → Named → Text → Type 0
AskFile command named file = (named.0 ≡ command) × (first_of (codes "file") named.1 ≡ Some file)

-- ---- what the parser makes of words

-- the error's kind asks for a text about the program
abbrev pub IsTextKind : ErrorKind → Type 0
IsTextKind kind = (kind ≡ DisplayHelp) ⊎ (kind ≡ DisplayVersion)

-- it refuses the words
abbrev pub IsRefusalKind : ErrorKind → Type 0
IsRefusalKind kind = (kind ≢ DisplayHelp) × (kind ≢ DisplayVersion) × (kind ≢ OutOfMemory)

-- a parser of this line takes the words, and P holds of the command that they name
abbrev pub IsTaken : App → List Text → (Option Named → Type 0) → Type 0
IsTaken line words P = (fault_of line words ≡ []) × P (subcommand_of line words)

-- it doesn't take them, and P holds of one of the kinds of its error
abbrev pub IsUntaken : App → List Text → (ErrorKind → Type 0) → Type 0
IsUntaken line words P = (kind : ErrorKind) × IsAmong kind (fault_of line words) × P kind

-- what is made of words
abbrev pub IsParsed : App → List Text → Result Parsed ProgramFault → Type 0
IsParsed line words (Ok (Matches matches)) = IsTaken line words (λ named. subcommand_rows_of matches ≡ named)
IsParsed line words (Ok (Help text)) = IsUntaken line words IsTextKind
IsParsed line words (Err CommandLine) = IsUntaken line words IsRefusalKind
IsParsed line words (Err Memory) = ⊤
IsParsed line words (Err _) = ⊥

-- What is answered to the words of a program, of whose commands each asks for something.

-- given what is answered to a command, and which answers are a text about the program
module _ {A : Type 0} (line : App) (to_command : Named → Result A ProgramFault → Type 0) (is_text : A → Type 0) where
  -- to words that may name no command
  abbrev pub ToAny : Option Named → Result A ProgramFault → Type 0
  ToAny (Some named) result = to_command named result
  ToAny None result = result ≡ Err CommandLine

  -- the parser takes the words, and the answer is that to the command that they name
  abbrev pub ToTaken : List Text → Result A ProgramFault → Type 0
  ToTaken words result = IsTaken line words (λ named. ToAny named result)

  -- to an error of this kind: a text about the program, or a refusal
  abbrev pub ToKind : Result A ProgramFault → ErrorKind → Type 0
  ToKind (Ok asked) kind = is_text asked × IsTextKind kind
  ToKind (Err CommandLine) kind = IsRefusalKind kind
  ToKind (Err _) kind = ⊥

  -- the parser doesn't take them, and the answer is that to one of the kinds of its error
  abbrev pub ToUntaken : List Text → Result A ProgramFault → Type 0
  ToUntaken words result = IsUntaken line words (ToKind result)

  -- to words; an allocation may always fail
  abbrev pub ToWords : List Text → Result A ProgramFault → Type 0
  ToWords words (Err Memory) = ⊤
  ToWords words result = ToTaken words result ⊎ ToUntaken words result

-- What the command lines of both programs are made of, as the parser reads it.

-- a word of this name that has to be there
abbrev pub required : List ℕ → Rule
required name = record (new_rule name) { value_names = 1; required = true }

-- the task file
abbrev pub file : Rule
file = required (codes "file")

abbrev pub flag : List ℕ → Rule
flag name = record (new_rule name) { long = Some name; action = Some SetTrue }

-- the flag by which rows get their places
abbrev pub affinity : Rule
affinity = flag (codes "affinity")

-- the request for the version
abbrev pub version : Rule
version = record (new_rule (codes "version")) { long = Some (codes "version"); action = Some Version }

-- a program without its commands: no name stands before its words, a command has to be named, and help is a flag alone
abbrev pub program : List ℕ → App
program name = with_rule (record (new_app name) {
  top = record (new_app name).top {
    no_binary_name = true;
    subcommand_required = true;
    disable_help_subcommand = true;
    disable_version_flag = true;
    has_version = true;
  };
}) version

-- the parser reads this of a command
abbrev pub IsRead : App → Command → Type 0
IsRead app c = (app_of c ≡ app) × ((out-Command c).has_globals ≡ false)
