use Rattle.pfair_feed.proofs.Common.{Keeps-refl, refl, sym, ◌∙◌, arith}
use Rattle.pfair_feed.proofs.Lines.{long_line, fed_none}
use Rattle.pfair_feed.proofs.input.feed_line.Goals as goal
use Rattle.pfair_feed.proofs.input.feed_line.Goals.{then-line-gt-LONGEST_ROW, else-line-gt-LONGEST_ROW+in-Err}

pub returns-else-is_strict-clause-fed : goal.returns-else-is_strict-clause-fed
returns-else-is_strict-clause-fed g c = elim c.if-line-gt-LONGEST_ROW.branch [
  | then-line-gt-LONGEST_ROW w ↦ rw (w.follower-is, w.writer-is)
      (fed_none _ _ _ _ _ c.requires refl (Keeps-refl _) (long_line c.rows_are_short.ensures.rows _ _ (omega (arith, w.if-line-gt-LONGEST_ROW.true, c.rows_are_short.ensures.bytes))))
  | else-line-gt-LONGEST_ROW+in-Err w ↦ rw (w.follower-is, w.writer-is) (w.in-Err.ensures.refused (sym w.is_refusal.ensures ∙ w.if-is_refusal.true)).1
]
