use Rattle.pfair_output.proofs.Common.{all_booked, ◌≡◌, drop}
use Rattle.pfair_output.proofs.lags.book_slot.Given as goal

-- booking what is left makes the whole
abbrev pub invariant-loop-one : goal.invariant-loop-one
invariant-loop-one l = all_booked (drop l.one-index l.decided) l.book ≡ all_booked l.decided l.fn.book
