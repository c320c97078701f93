use Rattle.pfair_table.proofs.Common.{take-length, slice_get_read, empty_replica, taken, Settings, Course, held_of, refl, ◌≡◌, ◌<◌, ◌+◌, ◌++◌, ◌∷◌, [], ◌∙◌, sym, ap, arith, length, take, Some, slice_get}
use Rattle.pfair_table.proofs.Scripts.{log_taken, taken_more, taken_next}
use Rattle.pfair_table.proofs.single.take_script.Goals as goal

pub loop-processor-init : goal.loop-processor-init
loop-processor-init g c =
    let settings_are = c.settings-settings.ensures.value in
    let run = c.settings-settings.ensures.run in
    let count : c.settings-settings.result.processors ≡ length c.args.script.now.logs = ap (λ (s : Settings). s.processors) settings_are ∙ sym run.one_each in
    let course = c.in_ok-dispatcher.ensures.course in
    record {
      settings = c.in_ok-dispatcher.ensures.settings ∙ settings_are;
      origin = ap (λ (x : Course). x.origin) course;
      tables = ap (λ (x : Course). x.tables) course;
      decided = ap (λ (x : Course). x.decided) course;
      forgotten = c.in_ok-dispatcher.ensures.unforgotten;
      spent = c.in_ok-dispatcher.ensures.spent;
      replica = ap (λ (x : Course). x.replica) course ∙ (λ i. empty_replica (count i) (c.capacity.ensures.value i));
    }

pub loop-index-preserved : goal.loop-index-preserved
loop-index-preserved g c =
    let r = c.args.script.now in
    let k = c.loop-processor.processor in
    let log = c.log-log.result.now in
    let inside : c.loop-index.index < length log = omega (arith, c.loop-index-test.true, c.loop-index.auto.index-end) in
    let here : slice_get log c.loop-index.index ≡ Some c.index-log-index.result = slice_get_read log (length log) c.loop-index.index c.index-log-index.result refl inside c.index-log-index.is in
    taken_more r (take k r.logs ++ take c.loop-index.index log ∷ []) (take k r.logs ++ take (c.loop-index.index + 1) log ∷ []) c.loop-index.dispatcher c.offer.new.dispatcher c.loop-index.invariant c.in_ok-offer.ensures.rest
    (c.in_ok-offer.ensures.held ∙ ap (λ x. taken x k (c.loop-index.index + 1) c.index-log-index.result) c.loop-index.invariant.replica ∙ taken_next r.logs k c.loop-index.index log c.index-log-index.result c.log-log.ensures.value here)

pub loop-processor-preserved : goal.loop-processor-preserved
loop-processor-preserved g c =
    let r = c.args.script.now in
    let k = c.loop-processor.processor in
    let log = c.log-log.result.now in
    let all : c.loop-index.index ≡ length log = omega (arith, c.loop-index-test.false, c.loop-index.auto.index-end) in
    taken_more r (take k r.logs ++ take c.loop-index.index log ∷ []) (take (k + 1) r.logs) c.loop-index.dispatcher c.loop-index.dispatcher c.loop-index.invariant refl
    (c.loop-index.invariant.replica ∙ ap (λ n. held_of r.logs (take k r.logs ++ take n log ∷ [])) all ∙ log_taken r.logs k log c.log-log.ensures.value)

pub returns-clause-held : goal.returns-clause-held
returns-clause-held g c =
    let logs = c.args.script.now.logs in
    let settings_are = c.settings-settings.ensures.value in
    let count : c.settings-settings.result.processors ≡ length logs = ap (λ (s : Settings). s.processors) settings_are ∙ sym c.settings-settings.ensures.run.one_each in
    let all : c.loop-processor.processor ≡ length logs = omega (arith, c.loop-processor-test.false, c.loop-processor.auto.processor-end, c.processors-processor-end.ensures.value, count) in
    c.loop-processor.invariant.replica ∙ ap (λ k. held_of logs (take k logs)) all ∙ ap (held_of logs) (take-length logs)
