use Rattle.pfair_feed.proofs.Common.{replica_of, Dispatch, Settings, missing_of, key_line, missing_lines, ℕ, ◌≡◌, ◌<◌, sym, ap, ◌∙◌, arith, codes}
use Rattle.pfair_feed.proofs.Writing.{on_err, cut_short}
use Rattle.pfair_feed.proofs.complaint.report_missing.Goals as goal

pub returns-in_err-report_key-clause-cut : goal.returns-in_err-report_key-clause-cut
returns-in_err-report_key-clause-cut g c =
    let d : Dispatch = c.args.follower.now.dispatch in
    let processor : ℕ = c.loop-processor.processor in
    let all : c.processors-processor-end.result ≡ d.settings.processors =
    c.processors-processor-end.ensures.value ∙ ap (λ (s : Settings). s.processors) (c.settings.ensures ∙ ap (λ (x : Dispatch). x.settings) c.dispatcher.ensures) in
    let inside : processor < d.settings.processors = omega (arith, all, c.loop-processor-test.true) in
    let line : missing_lines processor (missing_of d.settings (replica_of d.replica) processor) ≡ key_line (codes "missing ") processor c.in-Some.number =
    ap (missing_lines processor) (sym c.missing.ensures.value ∙ c.in-Some.is) in
    on_err c.from_residual.result
    (cut_short (λ k. missing_lines k (missing_of d.settings (replica_of d.replica) k)) processor d.settings.processors (g.E.Write.contents c.args.complaints.now) (g.E.Write.contents c.loop-processor.complaints)
    (g.E.Write.contents c.report_key.new.complaints) (key_line (codes "missing ") processor c.in-Some.number) inside line c.loop-processor.invariant c.in_err-report_key.ensures.cut)
