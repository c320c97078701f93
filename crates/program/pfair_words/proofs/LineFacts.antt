-- What the parser makes of words of which none is a flag.
use Rattle.pfair_words.proofs.Common.{first_value-rows, one_text-rows, App, Kinds, Row, Rule, Text, fault_of, first_of, subcommand_of, walk_stopped, line, cost, count, decisions, lags, period, replay, windows, IsPlain, ◌≡◌, ◌∙◌, ℕ, Bool, true, false, refl, subst, sym, ap, List, [], ◌∷◌, Some, None, codes, arith, bytes_eq, long_of, short_of, idle, nothing_held, one_of, subcommand_met, or_else, step_fault, turn_fault, accepts, IsAmong, ErrorKind, DisplayHelp, DisplayVersion, Named, Begins, IsNamedFirst, ProgramFault, CommandLine, Memory, Option, inl, inr, Result, Ok, Err, IsAnswer, IsAnswerTo, IsAnswerToAny, Asked, ◌≢◌, cond, ap₂, nat_eq, rules, zero, suc, true≢false, is_some, length, MissingSubcommand, ValueValidation}
use Rattle.std.proofs.lemmas.Bool.Decides.{nat_tests}
use Rattle.clap.specs.Walk.{Names, Walk, arg_by_index, finished, rows_after, settled, to_positional, value, walk_from, walked, Held, Outcome, after_flag, arg_by_long, bundle_met, long_met, plain}
use Rattle.clap.specs.Simple.{Shape, built, built_leaf, entered, inherited, names_of}
use Rattle.clap.specs.Faults.{check_fault, defaults_fault, level_fault, settle_fault, walk_fault, flags_fault, long_fault}
use Rattle.clap.specs.Facts.{parser_of_value}
use Rattle.clap.proofs.OnLiterals.{clap_on_literals}
use Rattle.std.proofs.lemmas.Slice.Eq.{bytes_eq-Decides}
use Rattle.pfair_words.specs.declared.schedule.Asked.TheVariants.{Help}

-- What the matches read, by their rows.

pub ruleset by_rows = (first_value-rows, one_text-rows)

-- the word is one that the parser of the argument takes
abbrev pub passes : Rule → Text → Bool
passes a word = accepts false (parser_of_value a.parser) word

abbrev pub top : Shape
top = (built line).top

abbrev pub names : Names
names = names_of (built line)

abbrev pub start : Walk
start = walk_from nothing_held

-- a command and its words, whatever they are
pub named : (name : Text) (rest : List Text) → subcommand_met names idle name ≡ Some name → subcommand_of line (name ∷ rest) ≡ entered (built line) (Some (name, rest))
unfolding walked
named name rest e = rw e (ap (λ w. entered (built line) w.stopped) (sym (walk_stopped top.rules names start name [] rest)))

-- ---- one plain word

no_hyphen : (c : ℕ) → c ≢ 45 → nat_eq c 45 ≡ false
no_hyphen c h = grind (arith, nat_tests)

is_no_flag : (word : Text) → IsPlain word → (bytes_eq word (45 ∷ 45 ∷ []) ≡ false) × (long_of word ≡ None) × (short_of word ≡ None)
is_no_flag [] h = (refl, refl, refl)
is_no_flag (c ∷ rest) h = rw (no_hyphen c h) (refl, refl, refl)

-- no option waits for a value and no `--` stood before
abbrev IsIdle : Walk → Type 0
IsIdle w = w ≡ record w { waiting = idle; is_trailing = false; stopped = None }

-- a plain word is the value of the next positional
abbrev gone : Shape → Walk → Text → Walk
gone s w word = to_positional s.rules (arg_by_index s.rules w.position) word w w.held

abbrev stepped : Shape → Walk → Kinds
stepped s w = step_fault s w.position w.held value

goes : (s : Shape) (w : Walk) (word : Text) → IsPlain word → IsIdle w → walked s.rules [] w word ≡ gone s w word
unfolding walked
goes s w word h e = let no = is_no_flag word h in rw (e, no.0, no.1, no.2) refl

turns : (s : Shape) (w : Walk) (word : Text) → IsPlain word → IsIdle w → turn_fault s [] w word ≡ stepped s w
unfolding walked
turns s w word h e = let no = is_no_flag word h in rw (e, no.0, no.1, no.2) refl

-- ---- the words of a command

abbrev pub leaf_of : App → Shape
leaf_of a = built_leaf (inherited line.top a.top)

abbrev pub rows_of : App → List Text → List Row
rows_of a words = rows_after (leaf_of a).rules [] words

abbrev level : Shape → List Text → Kinds
level s words = level_fault s [] nothing_held words false []

-- the faults after the turns, by where the walk ends
abbrev ended : Shape → Kinds → Walk → Kinds
ended s turns w = or_else turns (or_else [] (or_else (settle_fault s.rules s.args_override_self w.held)
    (or_else (defaults_fault (settled s.rules w.held).rows s.rules) (check_fault s (finished s.rules w.held) false))))

-- ---- a file alone

module _ (f : Text) (h : IsPlain f) where
  pub file_rows : (a : App) → rows_of a (f ∷ []) ≡ finished (leaf_of a).rules (gone (leaf_of a) start f).held
  file_rows a = ap (λ w. finished (leaf_of a).rules w.held) (goes (leaf_of a) start f h refl)

  file_level : (s : Shape) → level s (f ∷ []) ≡ ended s (or_else (stepped s start) []) (gone s start f)
  unfolding walk_fault
  file_level s = ap₂ (λ t w. ended s (or_else t []) w) (turns s start f h refl) (goes s start f h refl)

  pub file_taken : (fault_of line (codes "replay" ∷ f ∷ []) ≡ []) × (fault_of line (codes "decisions" ∷ f ∷ []) ≡ []) × (fault_of line (codes "lags" ∷ f ∷ []) ≡ [])
  unfolding clap_on_literals
  file_taken = let none = λ (a : App). ap (λ k. or_else k []) (file_level (leaf_of a)) in (none replay, none decisions, none lags)

-- ---- replay with its flag

abbrev pub flag : Text
flag = codes "--affinity"

-- the rows name this file, and the flag is set
abbrev pub IsFlagged : Text → List Row → Type 0
IsFlagged f rows = (first_of (codes "file") rows ≡ Some f) × (one_of (codes "affinity") rows ≡ Some (codes "true"))

module _ (f : Text) (h : IsPlain f) where
  abbrev leaf : Shape
  leaf = leaf_of replay

  abbrev flagged : Walk
  flagged = walked leaf.rules [] start flag

  pub flag_rows : IsFlagged f (rows_of replay (flag ∷ f ∷ []))
  unfolding walked
  flag_rows = subst (λ w. IsFlagged f (finished leaf.rules w.held)) (sym (goes leaf flagged f h refl)) (refl, refl)

  pub after_rows : IsFlagged f (rows_of replay (f ∷ flag ∷ []))
  unfolding walked
  after_rows = subst (λ w. IsFlagged f (finished leaf.rules (walked leaf.rules [] w flag).held)) (sym (goes leaf start f h refl)) (refl, refl)

  pub flag_taken : fault_of line (codes "replay" ∷ flag ∷ f ∷ []) ≡ []
  unfolding clap_on_literals
  flag_taken = ap₂ (λ t w. or_else (ended leaf (or_else t []) w) []) (turns leaf flagged f h refl) (goes leaf flagged f h refl)

  pub after_taken : fault_of line (codes "replay" ∷ f ∷ flag ∷ []) ≡ []
  unfolding clap_on_literals
  after_taken = ap₂ (λ t w. or_else (ended leaf (or_else t (or_else (turn_fault leaf [] w flag) [])) (walked leaf.rules [] w flag)) []) (turns leaf start f h refl) (goes leaf start f h refl)

-- ---- windows

abbrev pub refused : Kinds
refused = ValueValidation ∷ []

-- by which of the three words are numbers in range
abbrev pub kinds_by : Bool → Bool → Bool → Kinds
kinds_by true true true = []
kinds_by _ _ _ = refused

abbrev checked : Bool → Kinds
checked pass = or_else (cond pass [] refused) []

in_turn : (a b c : Bool) → or_else (or_else (or_else (checked a) (or_else (checked b) [])) (or_else [] (or_else (checked c) []))) [] ≡ kinds_by a b c
in_turn a b c = grind arith

pub among_refused : (a b c : Bool) (kind : ErrorKind) → IsAmong kind (kinds_by a b c) → kind ≡ ValueValidation
among_refused a b c kind h = grind arith

module _ (e p n : Text) (he : IsPlain e) (hp : IsPlain p) (hn : IsPlain n) where
  abbrev words : List Text
  words = e ∷ p ∷ n ∷ []

  abbrev shape : Shape
  shape = leaf_of windows

  abbrev one : Walk
  one = gone shape start e

  abbrev two : Walk
  two = gone shape one p

  pub windows_read : (one_of (codes "cost") (rows_of windows words) ≡ Some e) × (one_of (codes "period") (rows_of windows words) ≡ Some p) × (one_of (codes "count") (rows_of windows words) ≡ Some n)
  windows_read = rw (goes shape start e he refl, goes shape one p hp refl, goes shape two n hn refl) (refl, refl, refl)

  windows_level : level shape words ≡ ended shape (or_else (stepped shape start) (or_else (stepped shape one) (or_else (stepped shape two) []))) (gone shape two n)
  unfolding walk_fault
  windows_level = rw (turns shape start e he refl, goes shape start e he refl, turns shape one p hp refl, goes shape one p hp refl, turns shape two n hn refl, goes shape two n hn refl) refl

  windows_whole : fault_of line (codes "windows" ∷ words) ≡ or_else (level shape words) []
  unfolding clap_on_literals
  windows_whole = refl

  pub windows_taken : fault_of line (codes "windows" ∷ words) ≡ kinds_by (passes cost e) (passes period p) (passes count n)
  unfolding defaults_fault
  windows_taken = windows_whole ∙ ap (λ below. or_else below []) windows_level ∙ in_turn (passes cost e) (passes period p) (passes count n)

-- ---- texts

pub help_faults : fault_of line (codes "--help" ∷ []) ≡ DisplayHelp ∷ []
unfolding clap_on_literals
help_faults = refl

pub version_faults : fault_of line (codes "--version" ∷ []) ≡ DisplayVersion ∷ []
unfolding clap_on_literals
version_faults = refl

pub no_words_faults : fault_of line [] ≡ MissingSubcommand ∷ []
unfolding clap_on_literals
no_words_faults = refl

-- Words that the parser takes begin with the name of the command that they are answered by.

no_more : (a b : Kinds) → or_else a b ≡ [] → a ≡ []
no_more [] b h = refl
no_more (k ∷ ks) b h = h

some : {k : _} {ks : Kinds} → k ∷ ks ≡ [] → ⊥
some e = absurd (search rules)

-- ---- a first word that is no command

-- the word ends the flags
dashes_alone : (n : Named) → subcommand_of line ((45 ∷ 45 ∷ []) ∷ []) ≡ Some n → ⊥
unfolding clap_on_literals
dashes_alone n e = grind (arith, e)

-- and no positional takes the next one
dashes_fail : (r : Text) (rest : List Text) → fault_of line ((45 ∷ 45 ∷ []) ∷ r ∷ rest) ≡ [] → ⊥
unfolding clap_on_literals
dashes_fail r rest h = some h

abbrev fault_with : Kinds → Held × Outcome → Text → Kinds
fault_with flags met word = or_else flags (step_fault top 1 (after_flag top.rules idle word met.0 met.1).0 (after_flag top.rules idle word met.0 met.1).1)

-- a bundle of flags that is no help is an unknown flag, or a word that no positional takes
bundle_fails : (k : ℕ) (word flags : Text) → fault_with (flags_fault top.rules false k flags 0 nothing_held) (bundle_met top.rules k flags 0 plain nothing_held) word ≡ [] → ⊥
unfolding flags_fault bundle_met
bundle_fails zero word flags h = some h
bundle_fails (suc k) word flags h = grind arith

-- a word with two hyphens at its head asks for a text, or is an unknown flag
long_fails : (name : Text) (given : Option Text) (word : Text) → fault_with (long_fault top.rules false (arg_by_long top.rules name) given nothing_held) (long_met top.rules (arg_by_long top.rules name) given nothing_held) word ≡ [] → ⊥
long_fails name given word h = grind arith

-- a first word that names no command and isn't `--` fails
word_fails : (word : Text) → subcommand_met names idle word ≡ None → bytes_eq word (45 ∷ 45 ∷ []) ≡ false → turn_fault top names start word ≡ [] → ⊥
word_fails word e d h = by (long_of word) refl (short_of word) refl
  where
    by : (l : Option (Text × Option Text)) → long_of word ≡ l → (s : Option Text) → short_of word ≡ s → ⊥
    by (Some p) f s g = long_fails p.0 p.1 word (rw (e, d, f) at h)
    by None f (Some flags) g = bundle_fails (length flags) word flags (rw (e, d, f, g) at h)
    by None f None g = some (rw (e, d, f, g) at h)

no_command : (word : Text) (rest : List Text) (n : Named) → subcommand_met names idle word ≡ None → fault_of line (word ∷ rest) ≡ [] → subcommand_of line (word ∷ rest) ≡ Some n → ⊥
unfolding walk_fault
no_command word rest n e none is = by (bytes_eq word (45 ∷ 45 ∷ [])) refl
  where
    dashes : (rest : List Text) → fault_of line ((45 ∷ 45 ∷ []) ∷ rest) ≡ [] → subcommand_of line ((45 ∷ 45 ∷ []) ∷ rest) ≡ Some n → ⊥
    dashes [] none is = dashes_alone n is
    dashes (r ∷ rest) none is = dashes_fail r rest none

    by : (b : Bool) → bytes_eq word (45 ∷ 45 ∷ []) ≡ b → ⊥
    by true d =
        let word_is : word ≡ 45 ∷ 45 ∷ [] = (bytes_eq-Decides word (45 ∷ 45 ∷ [])).0 d in
        dashes rest (subst (λ w. fault_of line (w ∷ rest) ≡ []) word_is none) (subst (λ w. subcommand_of line (w ∷ rest) ≡ Some n) word_is is)
    by false d = word_fails word e d (no_more _ _ (no_more _ _ none))

-- ---- a first word that is one

begins_with : (name word : Text) (rest : List Text) (rows : List Row) (n : Named) → name ≡ word → Some (name, rows) ≡ Some n → Begins n.0 (word ∷ rest)
begins_with name word rest rows n same is = (rest, cc)

-- words that the parser takes begin with the name of their command
pub begins : (words : List Text) (n : Named) → fault_of line words ≡ [] → subcommand_of line words ≡ Some n → Begins n.0 words
begins [] n none is = absurd (true≢false (sym (ap is_some is)))
begins (word ∷ rest) n none is =
    by (bytes_eq (codes "windows") word) refl (bytes_eq (codes "replay") word) refl (bytes_eq (codes "decisions") word) refl (bytes_eq (codes "lags") word) refl
  where
    -- if the word is this name, it is the one that is answered
    first : (name : Text) (rows : List Row) → bytes_eq name word ≡ true → subcommand_of line (name ∷ rest) ≡ Some (name, rows) → Begins n.0 (word ∷ rest)
    first name rows same at =
        let word_is : name ≡ word = (bytes_eq-Decides name word).0 same in
        begins_with name word rest rows n word_is (sym at ∙ subst (λ w. subcommand_of line (w ∷ rest) ≡ Some n) (sym word_is) is)

    by : (a : Bool) → bytes_eq (codes "windows") word ≡ a → (b : Bool) → bytes_eq (codes "replay") word ≡ b → (c : Bool) → bytes_eq (codes "decisions") word ≡ c
        → (d : Bool) → bytes_eq (codes "lags") word ≡ d → Begins n.0 (word ∷ rest)
    by true e b f c g d h = first (codes "windows") _ e (named (codes "windows") rest refl)
    by false e true f c g d h = first (codes "replay") _ f (named (codes "replay") rest refl)
    by false e false f true g d h = first (codes "decisions") _ g (named (codes "decisions") rest refl)
    by false e false f false g true h = first (codes "lags") _ h (named (codes "lags") rest refl)
    by false e false f false g false h = absurd (no_command word rest n (rw (e, f, g, h) refl) none is)

named_first : (words : List Text) (r : Result Asked ProgramFault) (o : Option Named) → subcommand_of line words ≡ o → fault_of line words ≡ [] → IsAnswerToAny o r → IsNamedFirst words r
named_first words r None is none h = grind arith
named_first words r (Some n) is none h = after n (begins words n none is) r h
  where
    after : (n : Named) → Begins n.0 words → (r : Result Asked ProgramFault) → IsAnswerTo n r → IsNamedFirst words r
    after n first r h = grind arith

-- so what is answered is what the first word names
pub first_answer : (words : List Text) (r : Result Asked ProgramFault) → IsAnswer words r → IsNamedFirst words r
first_answer words (Ok (Help text)) h = tt
first_answer words (Err Memory) h = tt
first_answer words (Err CommandLine) h = tt
first_answer words r (inl h) = named_first words r (subcommand_of line words) refl h.0 h.1
first_answer words r (inr h) = absurd (grind arith)
