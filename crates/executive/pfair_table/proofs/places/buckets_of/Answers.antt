use Rattle.pfair_table.proofs.Common.{slice_get-get_or, ap, sym, ◌∙◌, Some}
use Rattle.pfair_table.proofs.Filling.{one_more, no_rows_yet}
use Rattle.pfair_table.proofs.places.buckets_of.Goals as goal

pub loop-row-init : goal.loop-row-init
loop-row-init c = no_rows_yet c.args.table.now

pub loop-row-preserved : goal.loop-row-preserved
loop-row-preserved c =
    one_more c.args.table.now c.loop-row.ends c.loop-row.row c.bucket_of.result c.index-table-row.result c.loop-row.invariant
    (slice_get-get_or c.args.table.now c.loop-row.row c.index-table-row.result c.loop-row-test.true ∙ ap Some (sym c.index-table-row.is)) c.bucket_of.ensures.value c.bucket_of.ensures.within
