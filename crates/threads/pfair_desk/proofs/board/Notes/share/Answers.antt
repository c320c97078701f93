use Rattle.pfair_desk.proofs.Common.{get_or_past, length-map, KnowMore, slice_set, ⊎_elim, arith}
use Rattle.std.proofs.lemmas.Bool.{cases_lt}
use Rattle.pfair_desk.proofs.NotedLemmas.{more_refl, more_trans, says, more_shared, shared_at, alike_at, seen_at}
use Rattle.pfair_desk.proofs.board.Notes.share.Goals as goal

pub loop-place-init : goal.loop-place-init
loop-place-init c = rw c.self.view_is (record { mine = more_refl c.args.self.now; theirs = λ p e below at. absurd (omega arith) })

pub learn-requires : goal.learn-requires
learn-requires c = grind (arith, length-map, alike_at)

pub loop-place-preserved : goal.loop-place-preserved
loop-place-preserved c =
    let notes = c.loop-place.self-inside.notes.items in
    let more : KnowMore (says notes) (says (slice_set notes c.loop-place.place c.learn.new.mine)) = grind (arith, length-map, more_shared) in
    record {
      mine = grind (arith, more_trans);
      theirs = λ p e below at. ⊎_elim (λ before. more.grows p e (c.loop-place.invariant.theirs p e before at)) (λ last. grind (arith, length-map, seen_at, get_or_past, shared_at)) (cases_lt p c.loop-place.place);
    }

pub returns-clause-theirs : goal.returns-clause-theirs
returns-clause-theirs c = grind (arith, length-map, get_or_past)
