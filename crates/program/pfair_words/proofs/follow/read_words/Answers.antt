-- What the parser makes of the words, at the line of `pfair_follow`.
use Rattle.pfair_words.proofs.Common.{texts, ap, refl, Ok}
use Rattle.pfair_words.specs.FollowAsked.{IsAnswerTo, IsText, line}
use Rattle.pfair_words.proofs.PlainFacts.{refused, taken, text}
use Rattle.pfair_words.proofs.follow.read_words.Goals as goal

pub returns-in_err-matches : goal.returns-in_err-matches
returns-in_err-matches c = refused line _ IsAnswerTo IsText (texts c.args.words.now) c.in_ok-command_line.ensures.0 _ _ c.in_err-matches.ensures refl _ c.from_residual-in_err-matches.ensures.1

pub returns-in-Matches : goal.returns-in-Matches
returns-in-Matches c = taken line _ IsAnswerTo IsText (texts c.args.words.now) c.in_ok-command_line.ensures.0 _ _ c.in_ok-matches.ensures (ap Ok c.in-Matches.is) _ c.read_matches.ensures

pub returns-in-Help : goal.returns-in-Help
returns-in-Help c = text line _ IsAnswerTo IsText (texts c.args.words.now) c.in_ok-command_line.ensures.0 _ _ c.in_ok-matches.ensures (ap Ok c.in-Help.is) _ tt
