use Rattle.pfair_feed.proofs.Common.{Appends, ReplicaRows, Settings, held, replica_of, sound_beginning, Dispatch, dropped_line, dropped_of, is_past, key_line, ℕ, List, ◌+◌, ◌≡◌, Bool, true, [], ap, ◌∙◌, arith, length, refl, sym, subst, if◌then◌else◌, codes}
use Rattle.pfair_feed.proofs.Writing.{on_err, all_inside, cut_inside}
use Rattle.pfair_feed.proofs.complaint.report_dropped.Goals as goal

pub returns-in_err-report_key-clause-cut : goal.returns-in_err-report_key-clause-cut
returns-in_err-report_key-clause-cut g c =
    let d : Dispatch = c.args.follower.now.dispatch in
    let k : ℕ = c.loop-processor.processor in
    let n : ℕ = c.loop-index.index in
    let all : c.processors-processor-end.result ≡ d.settings.processors =
    c.processors-processor-end.ensures.value ∙ ap (λ (s : Settings). s.processors) (c.settings.ensures ∙ ap (λ (x : Dispatch). x.settings) c.dispatcher.ensures) in
    let count : c.sound_count-index-end.result ≡ length (sound_beginning (replica_of d.replica) k) =
    c.sound_count-index-end.ensures.value ∙ ap (λ (x : ReplicaRows). length (sound_beginning (replica_of x) k)) (c.replica.ensures.value ∙ ap (λ (x : Dispatch). x.replica) c.dispatcher-in-loop-processor.ensures) in
    let past : is_past d.settings.slots (held d.replica k (n + 1)) ≡ true = sym c.is_dropped.ensures ∙ c.if-is_dropped.true in
    let line : dropped_line c.args.follower.now k (n + 1) ≡ key_line (codes "dropped ") k (n + 1) = ap (λ (b : Bool). if b then key_line (codes "dropped ") k (n + 1) else []) past in
    on_err c.from_residual.result
    (cut_inside (dropped_of c.args.follower.now) (λ m. dropped_line c.args.follower.now k (m + 1)) k n (length (sound_beginning (replica_of d.replica) k)) refl d.settings.processors (g.E.Write.contents c.args.complaints.now)
    (g.E.Write.contents c.loop-index.complaints) (g.E.Write.contents c.report_key.new.complaints) (key_line (codes "dropped ") k (n + 1)) (omega (arith, all, c.loop-processor-test.true)) (omega (arith, count, c.loop-index-test.true)) line
    c.loop-index.invariant c.in_err-report_key.ensures.cut)

pub loop-processor-preserved : goal.loop-processor-preserved
loop-processor-preserved g c =
    let d : Dispatch = c.args.follower.now.dispatch in
    let k : ℕ = c.loop-processor.processor in
    let count : c.sound_count-index-end.result ≡ length (sound_beginning (replica_of d.replica) k) =
    c.sound_count-index-end.ensures.value ∙ ap (λ (x : ReplicaRows). length (sound_beginning (replica_of x) k)) (c.replica.ensures.value ∙ ap (λ (x : Dispatch). x.replica) c.dispatcher-in-loop-processor.ensures) in
    subst (λ (text : List ℕ). Appends (g.E.Write.contents c.args.complaints.now) (g.E.Write.contents c.loop-index.complaints) text)
    (all_inside (dropped_of c.args.follower.now) (λ m. dropped_line c.args.follower.now k (m + 1)) k c.loop-index.index (length (sound_beginning (replica_of d.replica) k)) refl (omega (arith, count, c.loop-index-test.false, c.loop-index.auto.index-end)))
    c.loop-index.invariant
