use Rattle.pfair_feed.proofs.Common.{[], drop}
use Rattle.pfair_feed.proofs.Lines.{IsFedBut}
use Rattle.pfair_feed.proofs.input.follow.Given as goal

-- all that was read so far is fed
abbrev pub invariant-loop : goal.invariant-loop
invariant-loop g l = IsFedBut l.is_strict [] (g.I.Read.remaining l.fn.reader) (g.I.Read.remaining l.reader) l.kept.items l.fn.follower l.follower (g.W.Write.contents l.fn.writer) (g.W.Write.contents l.writer)

-- all but the rest of the piece is fed
abbrev pub invariant-loop-byte : goal.invariant-loop-byte
invariant-loop-byte g l =
    IsFedBut l.is_strict (drop l.byte-index l.byte-items) (g.I.Read.remaining l.fn.reader) (g.I.Read.remaining l.reader) l.kept.items l.fn.follower l.follower (g.W.Write.contents l.fn.writer) (g.W.Write.contents l.writer)
