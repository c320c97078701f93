use Rattle.std.proofs.Common.{inl, inr}
use Rattle.pfair_feed.proofs.Lines.{if_err}
use Rattle.pfair_follow.specs.Runs.{IsFedEndOf}
use Rattle.pfair_follow.proofs.rows.feed_rows.Goals as goal

-- the header was written, and bytes were fed up to the fault
pub returns-in_err-follow-clause-ended : goal.returns-in_err-follow-clause-ended
returns-in_err-follow-clause-ended g c =
    let stopped = c.in_err-follow.ensures.stopped in
    if_err (IsFedEndOf c.args.is_strict c.args.to_last c.args.follower.now c.follow.new.follower (g.I.Read.remaining c.args.reader.now) (g.I.Read.remaining c.follow.new.reader) (g.W.Write.contents c.args.writer.now) (g.W.Write.contents c.follow.new.writer))
    c.from_residual-in_err-follow.result c.in_err-follow.field-0.0 c.from_residual-in_err-follow.ensures.1
    (inr (inl (record {
      bytes = stopped.0;
      begun = g.W.Write.contents c.begin.new.writer;
      head = c.in_ok-begin.ensures.written;
      consumed = stopped.1;
      stopped = stopped.2;
    })))
