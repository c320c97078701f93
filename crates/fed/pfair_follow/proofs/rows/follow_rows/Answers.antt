-- What the follower comes to is that of what it holds.
use Rattle.std.proofs.Common.{false, refl}
use Rattle.pfair_file.specs.declared.program_fault.ProgramFault.TheVariants.{Stalled}
use Rattle.pfair_follow.proofs.Ends.{all_settled, caught_up, ended, err_as, if_err_then, on_both, on_ok_then, taken_all, stalls, writes_its_script}
use Rattle.pfair_follow.proofs.rows.follow_rows.Goals as goal

pub feed_rows-requires : goal.feed_rows-requires
feed_rows-requires g c = caught_up c.args.follower.now c.requires

pub returns-clause-settled : goal.returns-clause-settled
returns-clause-settled g c =
    on_both c.feed_rows.result c.feed_rows.ensures.fed c.feed_rows.ensures.settled (λ fed many.
    all_settled c.args.follower.now c.requires c.text_is_whole.ensures c.args.is_strict false c.feed_rows.new.follower (g.I.Read.remaining c.args.reader.now) (g.I.Read.remaining c.feed_rows.new.reader)
    (g.W.Write.contents c.args.writer.now) (g.W.Write.contents c.feed_rows.new.writer) fed refl many)

pub returns-clause-ended : goal.returns-clause-ended
returns-clause-ended g c =
    if_err_then c.feed_rows.result c.feed_rows.ensures.ended
    (ended c.args.follower.now c.requires c.text_is_whole.ensures c.args.is_strict false c.feed_rows.new.follower (g.I.Read.remaining c.args.reader.now) (g.I.Read.remaining c.feed_rows.new.reader)
    (g.W.Write.contents c.args.writer.now) (g.W.Write.contents c.feed_rows.new.writer))

pub returns-clause-strict : goal.returns-clause-strict
returns-clause-strict g c =
    on_ok_then c.feed_rows.result c.feed_rows.ensures.fed (λ fed is.
    taken_all c.args.follower.now c.requires c.text_is_whole.ensures c.args.is_strict false c.feed_rows.new.follower (g.I.Read.remaining c.args.reader.now) (g.I.Read.remaining c.feed_rows.new.reader)
    (g.W.Write.contents c.args.writer.now) (g.W.Write.contents c.feed_rows.new.writer) fed refl is)

pub returns-clause-script : goal.returns-clause-script
returns-clause-script g c =
    on_both c.feed_rows.result c.feed_rows.ensures.fed c.feed_rows.ensures.settled (λ fed many.
    writes_its_script c.entries_give_their_schedule.ensures c.lines_are_one.ensures c.args.follower.now (g.I.Read.remaining c.args.reader.now) (g.I.Read.remaining c.feed_rows.new.reader)
    (g.W.Write.contents c.args.writer.now) (g.W.Write.contents c.feed_rows.new.writer)
    (all_settled c.args.follower.now c.requires c.text_is_whole.ensures c.args.is_strict false c.feed_rows.new.follower (g.I.Read.remaining c.args.reader.now) (g.I.Read.remaining c.feed_rows.new.reader)
    (g.W.Write.contents c.args.writer.now) (g.W.Write.contents c.feed_rows.new.writer) fed refl many))

pub returns-clause-stalled : goal.returns-clause-stalled
returns-clause-stalled g c slot same =
    err_as c.feed_rows.result (Stalled slot) same c.feed_rows.ensures.ended (λ fault end is.
    stalls c.entries_give_their_schedule.ensures c.lines_are_one.ensures c.args.follower.now (g.I.Read.remaining c.args.reader.now) (g.I.Read.remaining c.feed_rows.new.reader)
    (g.W.Write.contents c.args.writer.now) (g.W.Write.contents c.feed_rows.new.writer) fault
    (ended c.args.follower.now c.requires c.text_is_whole.ensures c.args.is_strict false c.feed_rows.new.follower (g.I.Read.remaining c.args.reader.now) (g.I.Read.remaining c.feed_rows.new.reader)
    (g.W.Write.contents c.args.writer.now) (g.W.Write.contents c.feed_rows.new.writer) fault end) slot is)
