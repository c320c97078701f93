use Rattle.std.proofs.Common.{◌≢◌, ◌<◌, length, map}
use Rattle.std.proofs.lemmas.List.{length-map}
use Rattle.csv.specs.declared.writer.QuoteStyle.TheVariants as style
use Rattle.pfair_text.proofs.RowFacts.{row_text-plain}
use Rattle.pfair_text.proofs.rows.add_row.Goals as goal
use Rattle.pfair_text.proofs.rows.add_row.Goals.{in-Ok, in-Err}

pub returns-clause-text : goal.returns-clause-text
returns-clause-text c =
    let plain : c.args.writer.now.cfg.style ≢ style.NonNumeric = rw c.requires.open.0 (λ e. cc e) in
    let some : 0 < length (map (λ f. f.now) c.args.fields.now) = rw length-map c.requires.some in
    let row = row_text-plain (map (λ f. f.now) c.args.fields.now) some c.requires.plain in
    elim c.match-write_fields.branch [
      | in-Ok w ↦ rw w.result-is (rw (c.requires.open.0, row) at (w.in-Ok.ensures.bytes c.requires.open.1 c.requires.open.2 plain))
      | in-Err w ↦ rw w.result-is tt
    ]
