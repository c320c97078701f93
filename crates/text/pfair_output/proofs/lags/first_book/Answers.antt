use Rattle.pfair_output.proofs.Common.{option_map, empty_book, all_entered, Carried, Origin, ◌<◌, ◌≡◌, ◌∙◌, List, Some, length, take, ap, arith, Member}
use Rattle.std.proofs.Math.Seq.{take-length}
use Rattle.pfair_output.proofs.WorldFacts.{begun_with, entered_next}
use Rattle.pfair_output.proofs.lags.first_book.Goals as goal

pub loop-place-preserved : goal.loop-place-preserved
loop-place-preserved g c =
    let ms : List Member = c.members-members.result.now.members in
    let inside : c.loop-place.place < length ms = omega (arith, c.loop-place-test.true, c.loop-place.auto.place-end, c.len-place-end.ensures) in
    entered_next c.slot-slot.result ms c.loop-place.place c.loop-place.book c.enter_at.new.book inside c.loop-place.invariant c.in_ok-enter_at.ensures

pub returns : goal.returns
returns g c =
    let ms : List Member = c.members-members.result.now.members in
    let all : c.loop-place.place ≡ length ms = omega (arith, c.loop-place-test.false, c.loop-place.auto.place-end, c.len-place-end.ensures) in
    let began : Some c.in-Some.state.now ≡ c.args.dispatcher.now.origin = c.in-Some.ensures in
    begun_with c.args.dispatcher.now.origin c.slot-slot.result ms c.loop-place.book
    (ap Some c.members-members.ensures.value ∙ ap (λ (o : Origin). option_map (λ (s : Carried). s.members) o) began)
    (ap Some c.slot-slot.ensures.value ∙ ap (λ (o : Origin). option_map (λ (s : Carried). s.slot) o) began)
    (c.loop-place.invariant ∙ ap (λ l. all_entered c.slot-slot.result l empty_book) (ap (λ n. take n ms) all ∙ take-length ms))
