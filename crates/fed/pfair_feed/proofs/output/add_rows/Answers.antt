use Rattle.pfair_feed.proofs.Common.{IsBookOf, lines_text, text_so_far, rows_in, Output, ◌++◌, ◌∙◌, sym, ap, arith}
use Rattle.pfair_feed.proofs.Going.{book_first, book_whole, rows_on}
use Rattle.pfair_feed.proofs.output.add_rows.Goals as goal
use Rattle.pfair_feed.proofs.output.add_rows.Goals.{in-Some, in-None+in_ok-known-in-None}

pub book_slots-requires-clause-to : goal.book_slots-requires-clause-to
book_slots-requires-clause-to g c =
    let d = c.args.dispatcher.now in
    elim c.match-book-4.branch [ in-Some w ↦ grind arith | in-None+in_ok-known-in-None w ↦ (book_first d.origin c.args.from d.tables d.decided c.match-book-4.known (w.known-is ∙ w.in_ok-known-in-None.ensures)).early ]

pub returns-in-Lags-clause-book : goal.returns-in-Lags-clause-book
returns-in-Lags-clause-book g c =
    let d = c.args.dispatcher.now in
    let known : IsBookOf d.origin c.args.from d.tables d.decided c.match-book-4.known =
    elim c.match-book-4.branch [ in-Some w ↦ rw w.known-is (rw w.in-Some.is at c.requires.book) | in-None+in_ok-known-in-None w ↦ book_first d.origin c.args.from d.tables d.decided c.match-book-4.known (w.known-is ∙ w.in_ok-known-in-None.ensures) ] in
    book_whole d.origin d.decided d.tables (sym c.next_slot.ensures.value ∙ c.next_slot.ensures.decided) c.args.from c.match-book-4.known c.book_slots.new.book c.add_lags_from.new.book
    known c.in_ok-book_slots-in-Lags.ensures c.in_ok-add_lags_from-in-Lags.ensures.book

pub returns-in-Lags-clause-text : goal.returns-in-Lags-clause-text
returns-in-Lags-clause-text g c =
    let d = c.args.dispatcher.now in
    let known : IsBookOf d.origin c.args.from d.tables d.decided c.match-book-4.known =
    elim c.match-book-4.branch [ in-Some w ↦ rw w.known-is (rw w.in-Some.is at c.requires.book) | in-None+in_ok-known-in-None w ↦ book_first d.origin c.args.from d.tables d.decided c.match-book-4.known (w.known-is ∙ w.in_ok-known-in-None.ensures) ] in
    c.in_ok-add_lags_from-in-Lags.ensures.text
    ∙ ap (λ rows. text_so_far c.args.text.now ++ lines_text rows)
    (rows_on d.origin d.decided d.tables (sym c.next_slot.ensures.value ∙ c.next_slot.ensures.decided) c.args.from c.match-book-4.known c.book_slots.new.book
    known c.in_ok-book_slots-in-Lags.ensures)
    ∙ ap (λ (o : Output). text_so_far c.args.text.now ++ lines_text (rows_in d.origin o c.args.from d.tables d.decided)) (sym c.in-Lags.is)
