use Rattle.pfair_c.proofs.Common.{rules, add-one, ◌≡◌, ◌<◌, ◌+◌, length, arith, replica_of, Replica, one_more}
use Rattle.pfair_c.proofs.TakingFacts.{next-taking, of-log-more, same-key, counted-more, refused-at}
use Rattle.pfair_c.proofs.take.take_log.Goals as goal
use Rattle.pfair_c.proofs.take.take_log.Goals.{in-New, in-Known, in-Torn}

pub returns-in-Err-clause-answer : goal.returns-in-Err-clause-answer
returns-in-Err-clause-answer c =
    let i = c.loop-entry.entry-index in
    let taken = c.loop-entry.invariant.1 in
    let inside : i < length c.args.entries.now = omega (arith, c.loop-entry-test.true, c.loop-entry.auto.entry-index-end) in
    let at : c.loop-entry.number ≡ c.args.first + c.loop-entry.counted.taken = omega (arith, c.loop-entry.invariant.0, taken) in
    let refused = refused-at c.loop-entry.dispatcher.replica c.args.processor (c.args.first + c.loop-entry.counted.taken) c.args.entries.now i c.loop-entry.number c.loop-entry.counted.taken c.in-Err.refusal _ inside at taken c.in-Err.ensures.refused in
    record {
      first = record { no_more = omega (arith, inside, taken); sound = grind arith; after = grind arith; rest = grind arith };
      no_key = λ none. absurd (none (search rules));
      all = λ is. absurd (c.in-Err.ensures.numbered.0 is);
      refused = λ failed key. rw c.in-Err.ensures.unchanged refused;
    }

pub loop-entry-preserved : goal.loop-entry-preserved
loop-entry-preserved c =
    let i = c.loop-entry.entry-index in
    let j = c.loop-entry.number in
    let x : Replica = replica_of c.args.dispatcher.now.replica in
    let now : Replica = replica_of c.loop-entry.dispatcher.replica in
    let next : Replica = replica_of c.take_one.new.dispatcher.replica in
    let number : j ≡ c.args.first + i = c.loop-entry.invariant.0 in
    let inside : i < length c.args.entries.now = omega (arith, c.loop-entry-test.true, c.loop-entry.auto.entry-index-end) in
    let state = c.loop-entry.invariant.4 in
    let key = same-key c.args.processor c.args.first i j c.args.entries.now x now c.loop-entry.counted state c.in-Ok.ensures.meant.1 in
    let more : c.match-how.counted ≡ one_more c.in-Ok.how c.loop-entry.counted = elim c.match-how.branch [ in-New w ↦ search rules | in-Known w ↦ search rules | in-Torn w ↦ search rules ] in
    let counts = counted-more c.in-Ok.how c.loop-entry.counted c.match-how.counted i more c.loop-entry.invariant.1 c.loop-entry.invariant.2 in (
      omega arith,
      counts.0,
      counts.1,
      rw add-one (of-log-more x c.args.processor c.args.first c.args.entries.now i j _ inside number c.loop-entry.invariant.3 c.in-Ok.ensures.meant.0 key),
      next-taking c.args.processor c.args.first i j c.args.entries.now _ x now next c.loop-entry.counted c.match-how.counted c.in-Ok.how inside number state c.in-Ok.ensures.offered c.in-Ok.ensures.answer more,
      search rules,
    )
