-- What is answered to the forms of the commands.
use Rattle.pfair_words.proofs.Common.{App, Text, subcommand_rows_of, IsParsed, Named, Help, Matches, ProgramFault, CommandLine, Memory, ◌≡◌, subst, sym, inl, inr, List, Result, Ok, Err, IsAmong, Row, fault_of, first_of, subcommand_of, IsFlag, Spells, line, windows, replay, decisions, lags, AskNumbers, HasCount, IsDecisionsAnswer, IsLagsAnswer, IsPlain, IsPlainAnswer, IsRefusal, IsReplayAnswer, IsTextAnswer, IsWindowsAnswer, Weight, ℕ, Bool, true, false, refl, ap, ◌∙◌, arith, [], ◌∷◌, Option, Some, IfOk, codes, one_of, ErrorKind, DisplayHelp, DisplayVersion, accepts, IsAnswer, IsAnswerTo, IsAnswerToAny, IsText, Asked, IsErrAnd, ◌↔◌, ◌≤◌, ToAny, ToWords, ToUntaken, IsTextKind, AskWindows}
use Rattle.pfair_words.specs.declared.command.Parsed.{Parsed}
use Rattle.clap.specs.declared.builder.value_parser.ValueParser.TheVariants.{Unsigned}
use Rattle.clap.proofs.ValueTestLemmas.{Accepts-accepts}
use Rattle.pfair_words.specs.declared.schedule.Asked.TheVariants.{Windows}
use Rattle.pfair_words.proofs.LineFacts.{first_answer}
use Rattle.pfair_words.proofs.LineFacts as line

-- What the parser makes of the words of a program gives what is answered.

module _ {A : Type 0} (line app : App) (to_command : Named → Result A ProgramFault → Type 0) (is_text : A → Type 0) (words : List Text) (e : app ≡ line) where
  parsed : (p q : Result Parsed ProgramFault) → IsParsed app words p → p ≡ q → IsParsed line words q
  parsed p q is same = subst (λ a. IsParsed a words q) e (subst (IsParsed app words) same is)

  pub taken : (p : Result Parsed ProgramFault) (m : _) → IsParsed app words p → p ≡ Ok (Matches m) → (r : Result A ProgramFault) → ToAny line to_command is_text (subcommand_rows_of m) r → ToWords line to_command is_text words r
  taken p m is at (Err Memory) h = tt
  taken p m is at r h = let took = parsed p (Ok (Matches m)) is at in inl (took.0, subst (λ n. ToAny line to_command is_text n r) took.1 h)

  pub text : (p : Result Parsed ProgramFault) (t : _) → IsParsed app words p → p ≡ Ok (Help t) → (asked : A) → is_text asked → ToWords line to_command is_text words (Ok asked)
  text p t is at asked h = let told = parsed p (Ok (Help t)) is at in inr (told.0, told.1, (h, told.2))

  pub refused : (p : Result Parsed ProgramFault) (fault : ProgramFault) → IsParsed app words p → p ≡ Err fault → (r : Result A ProgramFault) → IsErrAnd r (λ f. f ≡ fault) → ToWords line to_command is_text words r
  refused p fault is at (Ok asked) own = absurd own
  refused p fault is at (Err f) own = subst (λ f. ToWords line to_command is_text words (Err f)) (sym own) (by fault (parsed p (Err fault) is at))
    where
      by : (f : ProgramFault) → IsParsed line words (Err f) → ToWords line to_command is_text words (Err f)
      by Memory h = tt
      by CommandLine h = inr h
      by _ h = absurd h

abbrev Answer : Type 0
Answer = Result Asked ProgramFault

-- words that the parser takes are answered by the command that they name
given : (words ws : List Text) (named : Named) (r : Answer) → IsAnswer ws r → ws ≡ words → fault_of line words ≡ [] → subcommand_of line words ≡ Some named → IsAnswerTo named r
given words ws named r h same none is = grind arith

-- ---- decisions, lags and replay

module _ (rows : List Row) (f : Text) (file : first_of (codes "file") rows ≡ Some f) where
  decisions_answer : (r : Answer) → IsAnswerTo (codes "decisions", rows) r → IsDecisionsAnswer f r
  decisions_answer r h = grind arith

  lags_answer : (r : Answer) → IsAnswerTo (codes "lags", rows) r → IsLagsAnswer f r
  lags_answer r h = grind arith

  replay_answer : (set : Bool) → ((flag : Bool) → IsFlag (one_of (codes "affinity") rows) flag → flag ≡ set) → (r : Answer) → IsAnswerTo (codes "replay", rows) r → IsReplayAnswer f set r
  replay_answer set is r h = grind arith

-- ---- windows

-- a word that spells a number up to `most` passes
spelled : (word : Text) (n most : ℕ) → Spells word n → n ≤ most → accepts false (Unsigned 0 most) word ≡ true
spelled word n most h below =
    Accepts-accepts false (Unsigned 0 most) word (h.0.0, h.0.1, omega arith, omega (arith, h.1))

module _ (e p n : Text) (he : IsPlain e) (hp : IsPlain p) (hn : IsPlain n) where
  abbrev words : List Text
  words = codes "windows" ∷ e ∷ p ∷ n ∷ []

  asked : (a b c : ℕ) → AskWindows (codes "windows", line.rows_of windows (e ∷ p ∷ n ∷ [])) a b c ↔ AskNumbers e p n a b c
  asked a b c = let read = line.windows_read e p n he hp hn in grind (arith, read)

  -- numbers are taken
  numbers_taken : (a b c : ℕ) → AskNumbers e p n a b c → fault_of line words ≡ []
  numbers_taken a b c h =
      let low = spelled e a 18446744073709551615 h.spells_cost (omega (arith, h.spells_cost.0.1, h.spells_cost.1)) in
      let mid = spelled p b 18446744073709551615 h.spells_period (omega (arith, h.spells_period.0.1, h.spells_period.1)) in
      line.windows_taken e p n he hp hn ∙ rw (low, mid, spelled n c 1000000 h.spells_count h.in_range) refl

  windows_answer : (r : Answer) → IsAnswerTo (codes "windows", line.rows_of windows (e ∷ p ∷ n ∷ [])) r → IsWindowsAnswer e p n r
  windows_answer (Ok (Windows w count)) h = (asked w.cost w.period count).0 h
  windows_answer (Err CommandLine) h = λ a b c k. h.no_windows a b c ((asked a b c).1 k)
  windows_answer (Err (Weight fault)) h = (h.0, h.1, h.2, (asked h.0 h.1 h.2).0 h.3, h.4)
  windows_answer r h = grind arith

  windows_refusal : (r : Answer) → ToUntaken line IsAnswerTo IsText words r → IsWindowsAnswer e p n r
  windows_refusal (Ok asked) h = let kind = line.among_refused _ _ _ h.0 (subst (IsAmong h.0) (line.windows_taken e p n he hp hn) h.1) in grind (arith, kind)
  windows_refusal (Err CommandLine) h = λ a b c k. subst (IsAmong h.0) (numbers_taken a b c k) h.1
  windows_refusal r h = grind arith

  windows_any : (r : Answer) → IsAnswer words r → IsWindowsAnswer e p n r
  windows_any (Err Memory) h = tt
  windows_any r (inl h) = windows_answer r (subst (λ m. IsAnswerToAny m r) (line.named (codes "windows") (e ∷ p ∷ n ∷ []) refl) h.1)
  windows_any r (inr h) = windows_refusal r h

-- ---- texts, and no words

text_answer : (words : List Text) (kind : ErrorKind) (r : Answer) → fault_of line words ≡ kind ∷ [] → IsTextKind kind → IsAnswer words r → IsTextAnswer r
text_answer words kind r is text h = grind arith

none_answer : (r : Answer) → IsAnswer [] r → IsRefusal r
none_answer r h = grind (arith, line.no_words_faults)

-- ---- together

pub plain_answer : (words : List Text) (r : Answer) → IsAnswer words r → IsPlainAnswer words r
plain_answer _ r h = record {
  windows = λ e p n he hp hn is. windows_any e p n he hp hn r (subst (λ ws. IsAnswer ws r) is h);
  replay = λ f hf is. replay_answer _ f (ap (first_of (codes "file")) (line.file_rows f hf replay)) false (λ set on. on.off (ap (one_of (codes "affinity")) (line.file_rows f hf replay))) r (given _ _ _ r h is (line.file_taken f hf).0 (line.named (codes "replay") (f ∷ []) refl));
  places = λ f hf is. replay_answer _ f (line.flag_rows f hf).0 true (λ set on. on.on (line.flag_rows f hf).1) r (given _ _ _ r h is (line.flag_taken f hf) (line.named (codes "replay") (line.flag ∷ f ∷ []) refl));
  places_after = λ f hf is. replay_answer _ f (line.after_rows f hf).0 true (λ set on. on.on (line.after_rows f hf).1) r (given _ _ _ r h is (line.after_taken f hf) (line.named (codes "replay") (f ∷ line.flag ∷ []) refl));
  decisions = λ f hf is. decisions_answer _ f (ap (first_of (codes "file")) (line.file_rows f hf decisions)) r (given _ _ _ r h is (line.file_taken f hf).1 (line.named (codes "decisions") (f ∷ []) refl));
  lags = λ f hf is. lags_answer _ f (ap (first_of (codes "file")) (line.file_rows f hf lags)) r (given _ _ _ r h is (line.file_taken f hf).2 (line.named (codes "lags") (f ∷ []) refl));
  help = λ is. text_answer _ DisplayHelp r line.help_faults (inl refl) (subst (λ ws. IsAnswer ws r) is h);
  version = λ is. text_answer _ DisplayVersion r line.version_faults (inr refl) (subst (λ ws. IsAnswer ws r) is h);
  none = λ is. none_answer r (subst (λ ws. IsAnswer ws r) is h);
  first = first_answer _ r h;
}

pub has_count : (words : List Text) (r : Answer) → IsAnswer words r → IfOk r HasCount
has_count words (Ok asked) (inl h) = counted (subcommand_of line words) asked h.1
  where
    counted : (n : Option Named) (asked : Asked) → IsAnswerToAny n (Ok asked) → HasCount asked
    counted n asked h = grind arith
has_count words (Ok asked) (inr h) = grind arith
has_count words (Err fault) h = tt
