use Rattle.std.proofs.Common.{ℕ, List, Option, ◌≡◌, ◌≤◌, ◌+◌, ◌-◌, length, take, drop, arith}
use Rattle.std.proofs.Math.Seq.{take-add}
use Rattle.std.proofs.lemmas.List.{length-drop, length-take, take_all}
use Rattle.std.specs.Io.KnownBytes.{Appends}
use Rattle.csv.proofs.WriteFacts.{appends-more}
use Rattle.pfair_text.proofs.rows.send.Goals as goal

-- one more piece of a text was taken
sent-more : (old mid new : Option (List ℕ)) (text : List ℕ) (sent taken : ℕ) → sent + taken ≤ length text
    → Appends old mid (take sent text) → Appends mid new (take taken (take (length text - sent) (drop sent text)))
    → Appends old new (take (sent + taken) text)
sent-more old mid new text sent taken fits first more =
    let size = length-drop sent text in
    let whole : take (length text - sent) (drop sent text) ≡ drop sent text = take_all (length text - sent) (drop sent text) (omega arith) in
    rw (take-add sent taken text) (appends-more old mid new (take sent text) (take taken (drop sent text)) first (rw whole at more))

within : (text : List ℕ) (sent taken : ℕ) → sent ≤ length text → taken ≤ length (take (length text - sent) (drop sent text)) → sent + taken ≤ length text
within text sent taken start bound =
    let size = length-drop sent text in
    let cut = length-take (length text - sent) (drop sent text) in
    omega arith

pub pieces-preserved : goal.pieces-preserved
pieces-preserved g c =
    let fits : c.pieces.sent + c.in-Ok.taken ≤ length c.args.text.now = within c.args.text.now c.pieces.sent c.in-Ok.taken c.pieces.invariant.0 c.in-Ok.ensures.bound in
    (fits, sent-more _ _ _ c.args.text.now c.pieces.sent c.in-Ok.taken fits c.pieces.invariant.1 c.in-Ok.ensures.bytes)
