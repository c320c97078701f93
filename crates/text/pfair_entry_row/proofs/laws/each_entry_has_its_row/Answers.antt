use Rattle.pfair_entry_row.proofs.RowFields.{entry_row_injective}
use Rattle.pfair_entry_row.proofs.Refused.{sayable}
use Rattle.pfair_entry_row.proofs.laws.each_entry_has_its_row.Goals as goal

pub returns : goal.returns
returns c p n e q m f h k is =
    let same = entry_row_injective p n e q m f (sayable p n e h) (sayable q m f k) is in
    (same.processor, same.number, same.entry)
