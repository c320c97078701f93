use Rattle.pfair_output.proofs.Common.{empty_book, all_entered, ◌≡◌, take}
use Rattle.pfair_output.proofs.lags.first_book.Given as goal

abbrev pub invariant-loop-place : goal.invariant-loop-place
invariant-loop-place g l = l.book ≡ all_entered l.slot (take l.place l.members.members) empty_book
