use Rattle.std.proofs.Common.{◌≡◌, true, rules, refl}
use Rattle.pfair_text.specs.Rows.{is_plain}
use Rattle.pfair_text.proofs.RowFacts.{is_plain-decimal}
use Rattle.pfair_reports.proofs.window_rows.add_window.Goals as goal

pub add_row-requires-clause-plain : goal.add_row-requires-clause-plain
add_row-requires-clause-plain c =
    let number : is_plain c.as_bytes.result.now ≡ true = search (rules, is_plain-decimal) in
    let released : is_plain c.as_bytes-2.result.now ≡ true = search (rules, is_plain-decimal) in
    let due : is_plain c.as_bytes-3.result.now ≡ true = search (rules, is_plain-decimal) in
    let bit : is_plain c.as_bytes-4.result.now ≡ true = search (rules, is_plain-decimal) in
    let group : is_plain c.as_bytes-5.result.now ≡ true = search (rules, is_plain-decimal) in
    rw (number, released, due, bit, group) refl
