use Rattle.pfair_feed.proofs.Common.{Consumes, drop_all, IsStopped, IsPlannedOut, refl, ◌≡◌, ◌≤◌, ◌++◌, ◌∷◌, [], ℕ, List, arith, inl, inr, length, take, get_or, rules, Keeps-refl}
use Rattle.pfair_feed.proofs.Lines.{fed_byte, fed_line, fed_nothing, fed_to, few_taken, if_err, kept_full, kept_pushed, next_left, read_more, same_more, stopped_in}
use Rattle.pfair_feed.proofs.input.follow.Goals as goal
use Rattle.pfair_feed.proofs.input.follow.Goals.{then-byte-eq10+in_ok-feed_line+else-to_last, else-byte-eq10+else-len-le-LONGEST_ROW, else-len-le-LONGEST_ROW-via-then-len-le-LONGEST_ROW+else-is_err, else-len-le-LONGEST_ROW-via-else-len-le-LONGEST_ROW}

pub loop-init : goal.loop-init
loop-init g c = fed_nothing _ _ _ _ _ c.requires c.new-kept.ensures.items

pub loop-byte-init : goal.loop-byte-init
loop-byte-init g c = read_more _ _ _ _ _ _ _ _ _ _ c.loop.invariant c.in-Ok.ensures.bytes.0

pub loop-preserved : goal.loop-preserved
loop-preserved g c = same_more _ _ _ _ _ _ _ _ _ _ (drop_all c.loop-byte.byte-index (take c.in-Ok.count c.read.new.buf) c.loop-byte-test.false) c.loop-byte.invariant

pub loop-byte-preserved : goal.loop-byte-preserved
loop-byte-preserved g c =
    let piece : List ℕ = take c.in-Ok.count c.read.new.buf in
    let byte : ℕ = get_or piece c.loop-byte.byte-index 0 in
    let now = same_more _ _ _ _ _ _ _ _ _ _ (next_left piece c.loop-byte.byte-index c.loop-byte-test.true) c.loop-byte.invariant in
    elim c.if-byte-eq10.branch [
      | then-byte-eq10+in_ok-feed_line+else-to_last w ↦
          rw (w.follower-is, w.writer-is, w.kept-is)
          (fed_line _ _ _ _ _ _ _ _ c.rows_are_short.ensures.rows byte _ w.as_slice.result.now _ _ _ w.if-byte-eq10.true w.as_slice.ensures.value w.clear.ensures.items now
          w.in_ok-feed_line.ensures.fed w.in_ok-feed_line.ensures.shape w.in_ok-feed_line.ensures.strict)
      | else-byte-eq10+else-len-le-LONGEST_ROW w ↦
          rw (w.follower-is, w.writer-is, w.kept-is)
          (fed_byte _ _ _ _ _ _ _ _ byte _ _ w.if-byte-eq10.false now (λ rest is. elim w.else-len-le-LONGEST_ROW.branch [
            | else-len-le-LONGEST_ROW-via-then-len-le-LONGEST_ROW+else-is_err w' ↦
                (let pushed : w'.push.new.self.items ≡ c.loop-byte.kept.items ++ byte ∷ [] = search rules in
                let few : length c.loop-byte.kept.items ≤ 256 = omega (arith, w.len.ensures, w'.if-len-le-LONGEST_ROW.true, c.loop-byte.kept.ok.0, c.rows_are_short.ensures.bytes) in
                rw w'.kept-is (kept_pushed rest c.loop-byte.kept.items w'.push.new.self.items byte is few pushed))
            | else-len-le-LONGEST_ROW-via-else-len-le-LONGEST_ROW w' ↦
                rw w'.kept-is (kept_full rest c.loop-byte.kept.items byte is (omega (arith, w.len.ensures, w'.if-len-le-LONGEST_ROW.false, c.loop-byte.kept.ok.0, c.rows_are_short.ensures.bytes)))
          ]))
    ]

pub returns-in_err-feed_line-clause-stopped : goal.returns-in_err-feed_line-clause-stopped
returns-in_err-feed_line-clause-stopped g c =
    let room : length c.read.new.buf ≤ 4096 = search rules in
    if_err
    (λ e. (bytes : List ℕ) × Consumes (g.I.Read.remaining c.args.reader.now) (g.I.Read.remaining c.read.new.self) bytes
    × IsStopped bytes e c.args.follower.now c.feed_line.new.follower (g.W.Write.contents c.args.writer.now) (g.W.Write.contents c.feed_line.new.writer))
    c.from_residual.result c.in_err-feed_line.field-0.0 c.from_residual.ensures.1
    (stopped_in _ _ _ _ _ _ _ _ (take c.in-Ok.count c.read.new.buf) c.as_slice.result.now c.loop-byte.byte-index 10 c.in_err-feed_line.field-0.0 c.feed_line.new.follower (g.W.Write.contents c.feed_line.new.writer)
    c.loop-byte-test.true (few_taken c.in-Ok.count c.read.new.buf room) c.if-byte-eq10.true c.as_slice.ensures.value c.loop-byte.invariant c.in_err-feed_line.ensures.left c.in_err-feed_line.ensures.asked)

pub returns-then-is_err-clause-stopped : goal.returns-then-is_err-clause-stopped
returns-then-is_err-clause-stopped g c =
    let room : length c.read.new.buf ≤ 4096 = search rules in
    stopped_in _ _ _ _ _ _ _ _ (take c.in-Ok.count c.read.new.buf) c.loop-byte.kept.items c.loop-byte.byte-index _ _ c.loop-byte.follower (g.W.Write.contents c.loop-byte.writer)
    c.loop-byte-test.true (few_taken c.in-Ok.count c.read.new.buf room) refl refl c.loop-byte.invariant (inl (inr (inl (refl, _, refl, c.if-byte-eq10.false)), refl, Keeps-refl (g.W.Write.contents c.loop-byte.writer))) (λ refused. absurd (cc refused))

pub returns-then-next_slot-slots-clause-fed : goal.returns-then-next_slot-slots-clause-fed
returns-then-next_slot-slots-clause-fed g c =
    let piece : List ℕ = take c.in-Ok.count c.read.new.buf in
    let byte : ℕ = get_or piece c.loop-byte.byte-index 0 in
    let now = same_more _ _ _ _ _ _ _ _ _ _ (next_left piece c.loop-byte.byte-index c.loop-byte-test.true) c.loop-byte.invariant in
    let planned : IsPlannedOut c.feed_line.new.follower = search rules in
    fed_to c.args.is_strict c.args.to_last _ _ _ _ _ _ _ _
    (fed_line _ _ _ _ _ _ _ _ c.rows_are_short.ensures.rows byte _ c.as_slice.result.now _ _ _ c.if-byte-eq10.true c.as_slice.ensures.value c.clear.ensures.items now
    c.in_ok-feed_line.ensures.fed c.in_ok-feed_line.ensures.shape c.in_ok-feed_line.ensures.strict)
    (inr (c.if-to_last.true, planned))
