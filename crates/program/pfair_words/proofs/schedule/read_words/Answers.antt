-- What the parser makes of the words, at the line of `pfair`.
use Rattle.pfair_words.proofs.Common.{Text, texts, HasCount, IsPlainAnswer, line, ProgramFault, ap, refl, List, IfOk, Result, Ok, IsAnswer, IsAnswerTo, IsText, Asked}
use Rattle.pfair_words.proofs.PlainFacts.{refused, taken, text, has_count, plain_answer}
use Rattle.pfair_words.proofs.schedule.read_words.Goals as goal

together : (words : List Text) (r : Result Asked ProgramFault) → IsAnswer words r → record { parsed : IsAnswer words r; plain : IsPlainAnswer words r; count : IfOk r HasCount }
together words r h = record { parsed = h; plain = plain_answer words r h; count = has_count words r h }

pub returns-in_err-matches : goal.returns-in_err-matches
returns-in_err-matches c = together _ _ (refused line _ IsAnswerTo IsText (texts c.args.words.now) c.in_ok-command_line.ensures.0 _ _ c.in_err-matches.ensures refl _ c.from_residual-in_err-matches.ensures.1)

pub returns-in-Matches : goal.returns-in-Matches
returns-in-Matches c = together _ _ (taken line _ IsAnswerTo IsText (texts c.args.words.now) c.in_ok-command_line.ensures.0 _ _ c.in_ok-matches.ensures (ap Ok c.in-Matches.is) _ c.read_matches.ensures)

pub returns-in-Help : goal.returns-in-Help
returns-in-Help c = together _ _ (text line _ IsAnswerTo IsText (texts c.args.words.now) c.in_ok-command_line.ensures.0 _ _ c.in_ok-matches.ensures (ap Ok c.in-Help.is) _ tt)
