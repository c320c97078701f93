use Rattle.pfair_feed.proofs.Common.{rules, ◌≡◌, ◌∷◌, [], decimal}
use Rattle.std.proofs.lemmas.Result.{on_err_weaker}
use Rattle.pfair_feed.proofs.Writing.{on_err, prefix_behind, prefix_first}
use Rattle.pfair_feed.proofs.complaint.report_key.Goals as goal

pub returns-in_err-send-clause-cut : goal.returns-in_err-send-clause-cut
returns-in_err-send-clause-cut g c = on_err _ (prefix_first _ _ _ _ c.in_err-send.ensures.failed)

pub returns-in_err-send-2-clause-cut : goal.returns-in_err-send-2-clause-cut
returns-in_err-send-2-clause-cut g c =
    let p : c.as_bytes.result.now ≡ decimal c.args.processor = search rules in
    on_err _ (prefix_behind _ _ _ _ _ c.in_ok-send.ensures.ok (prefix_first _ _ _ _ (rw p at c.in_err-send-2.ensures.failed)))

pub returns-in_err-send-3-clause-cut : goal.returns-in_err-send-3-clause-cut
returns-in_err-send-3-clause-cut g c =
    let p : c.as_bytes.result.now ≡ decimal c.args.processor = search rules in
    on_err _ (prefix_behind _ _ _ _ _ c.in_ok-send.ensures.ok (prefix_behind _ _ _ _ _ (rw p at c.in_ok-send-2.ensures.ok) (prefix_first _ _ (44 ∷ []) _ c.in_err-send-3.ensures.failed)))

pub returns-in_err-send-4-clause-cut : goal.returns-in_err-send-4-clause-cut
returns-in_err-send-4-clause-cut g c =
    let p : c.as_bytes.result.now ≡ decimal c.args.processor = search rules in
    let n : c.as_bytes-2.result.now ≡ decimal c.args.number = search rules in
    on_err _ (prefix_behind _ _ _ _ _ c.in_ok-send.ensures.ok (prefix_behind _ _ _ _ _ (rw p at c.in_ok-send-2.ensures.ok)
    (prefix_behind _ _ _ (44 ∷ []) _ c.in_ok-send-3.ensures.ok (prefix_first _ _ _ _ (rw n at c.in_err-send-4.ensures.failed)))))

pub returns-clause-cut : goal.returns-clause-cut
returns-clause-cut g c =
    let p : c.as_bytes.result.now ≡ decimal c.args.processor = search rules in
    let n : c.as_bytes-2.result.now ≡ decimal c.args.number = search rules in
    on_err_weaker c.send-5.result (λ failed. prefix_behind _ _ _ _ _ c.in_ok-send.ensures.ok (prefix_behind _ _ _ _ _ (rw p at c.in_ok-send-2.ensures.ok)
    (prefix_behind _ _ _ (44 ∷ []) _ c.in_ok-send-3.ensures.ok (prefix_behind _ _ _ _ _ (rw n at c.in_ok-send-4.ensures.ok) failed)))) c.send-5.ensures.failed
