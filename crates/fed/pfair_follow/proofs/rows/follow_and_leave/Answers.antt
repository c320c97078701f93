-- The state that is left is that of what was brought.
use Rattle.std.proofs.Common.{◌≡◌, true, false, refl, inl}
use Rattle.pfair_feed.proofs.Lines.{if_err}
use Rattle.pfair_follow.specs.declared.fault.FollowFault.TheVariants.{Program}
use Rattle.pfair_follow.specs.Runs.{is_refused, IsEndOfLeaving}
use Rattle.pfair_follow.proofs.Ends.{caught_up, ended, has_left, has_left_none, no_refusal}
use Rattle.pfair_follow.proofs.rows.follow_and_leave.Goals as goal

pub feed_rows-requires : goal.feed_rows-requires
feed_rows-requires g c = caught_up c.args.follower.now c.requires

pub returns-in_err-feed_rows-clause-lenient : goal.returns-in_err-feed_rows-clause-lenient
returns-in_err-feed_rows-clause-lenient g c =
    if_err (λ e. c.args.is_strict ≡ false → is_refused e ≡ false) c.from_residual.result (Program c.in_err-feed_rows.field-0.0) c.from_residual.ensures.1 c.in_err-feed_rows.ensures.lenient

pub returns-in_err-feed_rows-clause-ended : goal.returns-in_err-feed_rows-clause-ended
returns-in_err-feed_rows-clause-ended g c =
    if_err (IsEndOfLeaving c.args.follower.now c.args.is_strict (g.I.Read.remaining c.args.reader.now) (g.I.Read.remaining c.feed_rows.new.reader) (g.W.Write.contents c.args.writer.now) (g.W.Write.contents c.feed_rows.new.writer))
    c.from_residual.result (Program c.in_err-feed_rows.field-0.0) c.from_residual.ensures.1
    (inl (
      c.in_err-feed_rows.field-0.0,
      refl,
      ended c.args.follower.now c.requires c.text_is_whole.ensures c.args.is_strict true c.feed_rows.new.follower (g.I.Read.remaining c.args.reader.now) (g.I.Read.remaining c.feed_rows.new.reader)
          (g.W.Write.contents c.args.writer.now) (g.W.Write.contents c.feed_rows.new.writer) c.in_err-feed_rows.field-0.0 c.in_err-feed_rows.ensures.ended,
    ))

pub returns-clause-left : goal.returns-clause-left
returns-clause-left g c =
    has_left c.text_is_whole.ensures c.args.follower.now c.requires c.feed_rows.new.follower c.args.is_strict (g.I.Read.remaining c.args.reader.now) (g.I.Read.remaining c.feed_rows.new.reader)
    (g.W.Write.contents c.args.writer.now) (g.W.Write.contents c.feed_rows.new.writer) c.in_ok-feed_rows.ensures.fed c.dispatcher.result.now c.dispatcher.ensures
    _ c.left_text.result c.in_ok-feed_rows.ensures.settled c.left_text.ensures.text

pub returns-clause-lenient : goal.returns-clause-lenient
returns-clause-lenient g c = no_refusal c.dispatcher.result.now c.args.is_strict c.left_text.result c.left_text.ensures.fault

pub returns-clause-ended : goal.returns-clause-ended
returns-clause-ended g c =
    has_left_none c.text_is_whole.ensures c.args.follower.now c.requires c.feed_rows.new.follower c.args.is_strict (g.I.Read.remaining c.args.reader.now) (g.I.Read.remaining c.feed_rows.new.reader)
    (g.W.Write.contents c.args.writer.now) (g.W.Write.contents c.feed_rows.new.writer) c.in_ok-feed_rows.ensures.fed c.dispatcher.result.now c.dispatcher.ensures
    c.left_text.result c.left_text.ensures.fault
