use Rattle.pfair_output.proofs.Common.{lines_text, text_so_far, replay_header, table_rows, slots_from, ◌∙◌, sym, ap, arith, [], ◌∷◌}
use Rattle.std.proofs.lemmas.Result.{on_ok_weaker}
use Rattle.pfair_output.proofs.WorldFacts.{slots_more, text_more}
use Rattle.pfair_output.proofs.replay.add_table_rows.Goals as goal

pub returns-clause-more : goal.returns-clause-more
returns-clause-more c =
    on_ok_weaker c.add_table.result
    (λ booked tables long had.
    text_more [] (text_so_far c.args.writer.now) (text_so_far c.add_table.new.writer) (replay_header ∷ slots_from table_rows 0 tables) (table_rows c.args.slot c.args.table.now) had booked
    ∙ ap (λ rows. lines_text (replay_header ∷ rows)) (sym (slots_more table_rows 0 c.args.slot tables c.args.table.now (omega (arith, long)))))
    c.add_table.ensures.text
