use Rattle.pfair_feed.proofs.Common.{HasFailed, IsFedLine, ◌≡◌, ap, Ok, Err, rules, true, is_refusal, Memory}
use Rattle.pfair_feed.proofs.Lines.{if_err, failed_at, refused_line, repeat_wants_none}
use Rattle.pfair_feed.proofs.Going.{own_err}
use Rattle.pfair_feed.proofs.input.feed.Goals as goal

pub returns-in_err-take-clause-refused : goal.returns-in_err-take-clause-refused
returns-in_err-take-clause-refused g c =
    let ok : c.read_row.result ≡ Ok (c.in_ok-processor.processor, c.in_ok-processor.number, c.in_ok-processor.entry) = search rules in
    if_err (λ e. is_refusal e ≡ true → (c.take.new.self ≡ c.args.follower.now) × IsFedLine c.args.line.now c.args.follower.now c.take.new.self (g.W.Write.contents c.args.writer.now) (g.W.Write.contents c.take.new.writer))
    c.from_residual-in_err-take.result c.in_err-take.field-0.0 c.from_residual-in_err-take.ensures.1
    (λ refused. refused_line _ _ _ _ _ _ _ _ ok c.read_row.ensures.reading c.read_row.ensures.back c.in_err-take.ensures.stopped _ _ c.requires refused
    (λ ne. c.in_err-take.ensures.offered (λ e. ne (cc e))) c.in_err-take.ensures.nothing)

pub returns-in_err-take-clause-failed : goal.returns-in_err-take-clause-failed
returns-in_err-take-clause-failed g c =
    let ok : c.read_row.result ≡ Ok (c.in_ok-processor.processor, c.in_ok-processor.number, c.in_ok-processor.entry) = search rules in
    if_err (λ e. HasFailed c.args.line.now e c.args.follower.now c.take.new.self (g.W.Write.contents c.args.writer.now) (g.W.Write.contents c.take.new.writer))
    c.from_residual-in_err-take.result c.in_err-take.field-0.0 c.from_residual-in_err-take.ensures.1
    (failed_at _ _ _ _ _ _ _ _ ok c.read_row.ensures.reading c.read_row.ensures.back c.in_err-take.ensures.stopped _ _ c.in_err-take.ensures.run c.in_err-take.ensures.stands.0
    (λ ne. c.in_err-take.ensures.offered (λ e. ne (cc e))) c.in_err-take.ensures.nothing (λ same. c.in_err-take.ensures.cut (ap Err same)))

pub returns-in_err-take-clause-repeat : goal.returns-in_err-take-clause-repeat
returns-in_err-take-clause-repeat g c q m d at row here same =
    let ok : c.read_row.result ≡ Ok (c.in_ok-processor.processor, c.in_ok-processor.number, c.in_ok-processor.entry) = search rules in
    repeat_wants_none _ _ _ _ _ _ _ _ ok c.read_row.ensures.reading c.read_row.ensures.back c.in_err-take.ensures.stopped c.requires c.in_err-take.ensures.run.grown q m d at row here
    (own_err c.from_residual-in_err-take.result c.in_err-take.field-0.0 Memory c.from_residual-in_err-take.ensures.1 same)

pub returns-clause-row : goal.returns-clause-row
returns-clause-row g c =
    let ok : c.read_row.result ≡ Ok (c.in_ok-processor.processor, c.in_ok-processor.number, c.in_ok-processor.entry) = search rules in
    let reading = rw ok at c.read_row.ensures.reading in
    record {
      processor = c.in_ok-processor.processor;
      number = c.in_ok-processor.number;
      entry = c.in_ok-processor.entry;
      is_entry = reading.ok.0;
      row_is = reading.ok.1;
      key = c.in_ok-take.ensures.followed.key;
    }
