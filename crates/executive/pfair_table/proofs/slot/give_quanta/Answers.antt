use Rattle.pfair_table.proofs.Common.{option_map, none-some, same_Some, ran, seatless, without, pick, keys_of, ◌≡◌, ◌∙◌, sym, ap, map, List, Option, is_some, if◌then◌else◌, Quantum, Seated, arith, length, length-map, take, take-length}
use Rattle.pfair_table.proofs.QueueKept.{first_of_queue, key_inside, key_item, may_run, runs_next, notified_on, run_start, run_turn}
use Rattle.pfair_table.proofs.slot.give_quanta.Goals as goal

pub loop-seated-init : goal.loop-seated-init
loop-seated-init g c = (
  run_start c.args.slot c.args.processors c.args.members.now (g.R.Ready.held c.args.ready.now) c.requires.named c.requires.queue c.requires.few (keys_of c.deref-seated-items.result.now)
      (ap keys_of c.deref-seated-items.ensures.value ∙ c.in_ok-keys.ensures.first) (c.reserve.ensures.items ∙ c.clear.ensures.items)
      (c.in_ok-keys.ensures.removed ∙ sym (ap (λ (ss : List Seated). without (keys_of ss) (g.R.Ready.held c.args.ready.now)) c.deref-seated-items.ensures.value)),
  c.take_seated.ensures.time,
)

pub ran_on-requires : goal.ran_on-requires
ran_on-requires g c =
    may_run c.loop-seated.invariant.0 (key_inside c.deref-seated-items.result.now c.loop-seated-test.true) (key_item c.deref-seated-items.result.now c.loop-seated.seated-index c.seated-item.result c.seated-item.is)

pub loop-seated-preserved-in_default : goal.loop-seated-preserved-in_default
loop-seated-preserved-in_default g c =
    let inside = key_inside c.deref-seated-items.result.now c.loop-seated-test.true in
    let item = key_item c.deref-seated-items.result.now c.loop-seated.seated-index c.seated-item.result c.seated-item.is in
    absurd (none-some _ (ap (option_map seatless) (sym c.in_default.is) ∙ c.ran_on.ensures.quantum ∙ runs_next c.loop-seated.invariant.0 inside item))

pub loop-seated-preserved : goal.loop-seated-preserved
loop-seated-preserved g c =
    let so = c.loop-seated.invariant.0 in
    let inside = key_inside c.deref-seated-items.result.now c.loop-seated-test.true in
    let item = key_item c.deref-seated-items.result.now c.loop-seated.seated-index c.seated-item.result c.seated-item.is in
    let key = c.seated-item.result.key in
    let quantum_is = same_Some (seatless c.in-Some.quantum) _ (ap (option_map seatless) (sym c.in-Some.is) ∙ c.ran_on.ensures.quantum ∙ runs_next so inside item) in
    let after_is : c.ran_on.new.self ≡ record c.loop-seated.members { members = ran key.name c.loop-seated.members.members } =
    c.ran_on.ensures.members ∙ ap (λ (o : Option Quantum). if is_some o then record c.loop-seated.members { members = ran key.name c.loop-seated.members.members } else c.loop-seated.members) c.in-Some.is in (
      run_turn so inside item (ap (λ (q : Quantum). q.index) quantum_is) after_is c.in_ok-push.ensures.items
          (notified_on so inside item c.in-Some.quantum quantum_is after_is c.in_ok-insert_seated.ensures.answer c.in_ok-insert_seated.ensures.content),
      c.insert_seated.ensures.time ∙ c.loop-seated.invariant.1,
    )

pub returns-clause-table : goal.returns-clause-table
returns-clause-table g c =
    let members = c.args.members.now.members in
    let seated = c.deref-seated-items.result.now in
    let done : c.loop-seated.seated-index ≡ length (keys_of seated) = omega (arith, c.loop-seated-test.false, c.loop-seated.auto.seated-index-end, length-map seated (λ (s : Seated). s.key)) in
    c.loop-seated.invariant.0.rows ∙ ap (λ n. map (pick members) (take n (keys_of seated))) done
    ∙ ap (map (pick members)) (take-length (keys_of seated) ∙ ap keys_of c.deref-seated-items.ensures.value ∙ c.in_ok-keys.ensures.first
    ∙ first_of_queue c.args.slot members (g.R.Ready.held c.args.ready.now) c.requires.named c.requires.queue c.args.processors)
