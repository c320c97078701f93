use Rattle.pfair_feed.proofs.Common.{length-take, Appends, TakesPrefix, ℕ, List, Option, Result, ◌≤◌, length, arith, OnErr, OnOk}
use Rattle.pfair_text.specs.declared.rows.WriteFailed.{WriteFailed}
use Rattle.pfair_feed.proofs.Writing.{all_or_cut}
use Rattle.pfair_feed.proofs.complaint.report_refused.Goals as goal

-- a short text that was sent, whole or in part
short : (text : List ℕ) (sent : Result (Unit {0}) WriteFailed) (o n : Option (List ℕ)) → length text ≤ 512 → OnOk sent (Appends o n text) → OnErr sent (TakesPrefix o n text)
    → (t : List ℕ) × (length t ≤ 512) × TakesPrefix o n t
short text sent o n few few_sent cut = (text, few, all_or_cut sent o n text few_sent cut)

pub returns : goal.returns
returns g c = grind (arith, short, length-take)
