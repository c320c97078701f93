use Rattle.pfair_feed.proofs.Common.{AllByRecursion, take_all, drop_all, same_Some, Logged, lines_text, text_so_far, Settings, IsLoggable, log_rows, List, ◌≡◌, ◌<◌, ◌++◌, ◌∙◌, sym, ap, arith, length, subst, append_assoc, numbered_from, slots_from, drop, ◌+◌, ◌≤◌}
use Rattle.pfair_output.proofs.SlotFacts.{slot_more, slots_done}
use Rattle.pfair_feed.proofs.ScriptRows.{all_next}
use Rattle.pfair_feed.proofs.entries.entries_of.Goals as goal

pub returns-clause-text : goal.returns-clause-text
returns-clause-text c = grind (arith, slots_done)

pub returns-clause-script : goal.returns-clause-script
returns-clause-script c = grind (arith, take_all)

pub loop-index-init : goal.loop-index-init
loop-index-init c =
    let processor = c.loop-processor.processor in
    let logs : List (List Logged) = c.args.script.now.logs in
    let all : c.processors-processor-end.result ≡ length logs = c.processors-processor-end.ensures.value ∙ ap (λ (s : Settings). s.processors) c.settings.ensures.value ∙ sym c.settings.ensures.run.one_each in
    let inside : processor < length logs = omega (arith, all, c.loop-processor-test.true) in (
      c.loop-processor.invariant.0,
      sym (append_assoc (text_so_far c.loop-processor.writer) (lines_text (log_rows processor c.log-log.result.now)) (lines_text (slots_from log_rows (processor + 1) (drop (processor + 1) logs)))) ∙ slot_more log_rows logs processor _ _ inside (λ log at. ap (λ (l : List Logged). text_so_far c.loop-processor.writer ++ lines_text (log_rows processor l)) (same_Some _ _ (sym c.log-log.ensures.value ∙ at)))
          ∙ c.loop-processor.invariant.1,
      c.loop-processor.invariant.2,
      tt,
    )

pub loop-processor-preserved : goal.loop-processor-preserved
loop-processor-preserved c =
    let processor = c.loop-processor.processor in
    let log : List Logged = c.log-log.result.now in
    let all : c.processors-processor-end.result ≡ length c.args.script.now.logs = c.processors-processor-end.ensures.value ∙ ap (λ (s : Settings). s.processors) c.settings.ensures.value ∙ sym c.settings.ensures.run.one_each in
    let inside : processor < length c.args.script.now.logs = omega (arith, all, c.loop-processor-test.true) in
    let past : length log ≤ c.loop-index.index = c.loop-index-test.false in (
      c.loop-index.invariant.0,
      sym (ap (λ (l : List Logged). text_so_far c.loop-index.writer ++ (lines_text (numbered_from processor (c.loop-index.index + 1) l) ++ lines_text (slots_from log_rows (processor + 1) (drop (processor + 1) c.args.script.now.logs)))) (drop_all c.loop-index.index log past))
          ∙ c.loop-index.invariant.1,
      all_next (λ l. AllByRecursion IsLoggable l) c.args.script.now.logs processor log inside c.log-log.ensures.value c.loop-index.invariant.2 (subst (λ (l : List Logged). AllByRecursion IsLoggable l) (take_all c.loop-index.index log past) c.loop-index.invariant.3),
    )
