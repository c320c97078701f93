use Rattle.pfair_replica.proofs.Common.{◌≡◌, common_steps, replica_of, Replica, sound_beginning, said_behind, said_by, ◌+◌, ◌<◌, ◌++◌, refl, sym, ap, ◌∙◌, arith, length, append_assoc, Some, said_at, IsSome}
use Rattle.pfair_replica.proofs.Merging.{on_err_here}
use Rattle.pfair_replica.proofs.Marks.{entry_there, entry_is}
use Rattle.pfair_replica.proofs.SaidListed.{all_noted, noted_next, some_behind}
use Rattle.pfair_replica.proofs.replica.Replica.note_said.Goals as goal
use Rattle.pfair_replica.proofs.replica.Replica.note_said.Goals.{in_default-via-in-Some+in_default, in_default-via-in_default, in-Some+in_ok-push, in_default-said}

pub unreachable-requires : goal.unreachable-requires
unreachable-requires c =
    let x : Replica = replica_of c.args.self.now in
    let room : c.loop-place.place < length (sound_beginning x c.args.proc) = omega arith in
    let held = (entry_there x c.args.proc c.loop-place.place room).2 in
    elim c.in_default.branch [ in_default-via-in-Some+in_default w ↦ (cc) | in_default-via-in_default w ↦ (cc) ]

pub loop-place-preserved : goal.loop-place-preserved
loop-place-preserved c = λ t.
    (let x : Replica = replica_of c.args.self.now in
    let is = entry_is x c.args.proc c.loop-place.place c.in-Some-One.entry (omega arith) (sym c.get.ensures.value ∙ c.in-Some-One.is ∙ ap Some c.in-Some-One.field-0-is) in
    let so_far = c.loop-place.invariant t in
    let next = said_by t c.args.proc (c.loop-place.place + 1) c.in-Some-One.entry.said in
    let noted : said_at c.match-said.agenda t ≡ said_at c.loop-place.agenda t ++ next = elim c.match-said.branch [ in-Some+in_ok-push w ↦ grind (arith, common_steps) | in_default-said w ↦ grind (arith, common_steps) ] in (
      so_far.0 ++ next,
      noted ∙ ap (λ xs. xs ++ next) so_far.1 ∙ append_assoc (said_at c.args.agenda.now t) so_far.0 next,
      noted_next x c.args.proc c.loop-place.place t c.in-Some-One.entry (said_behind x t c.args.proc c.args.from) so_far.0 (so_far.0 ++ next) is refl so_far.2,
    ))

pub returns-clause-noted : goal.returns-clause-noted
returns-clause-noted c = λ t.
    (let x : Replica = replica_of c.args.self.now in
    let so_far = c.loop-place.invariant t in
    so_far.1 ∙ ap (λ xs. said_at c.args.agenda.now t ++ xs) (all_noted x c.args.proc c.loop-place.place t so_far.0 (said_behind x t c.args.proc c.args.from) (omega arith) so_far.2))

pub returns-in_err-push-clause-wanted : goal.returns-in_err-push-clause-wanted
returns-in_err-push-clause-wanted c =
    let x : Replica = replica_of c.args.self.now in
    let is = entry_is x c.args.proc c.loop-place.place c.in-Some-One.entry (omega arith) (sym c.get.ensures.value ∙ c.in-Some-One.is ∙ ap Some c.in-Some-One.field-0-is) in
    let says : IsSome c.in-Some-One.entry.said = grind (arith, common_steps) in
    on_err_here c.from_residual.result (some_behind x c.args.proc c.args.from c.loop-place.place c.in-Some-One.entry (omega arith) is says)

pub returns-in_err-push-clause-part : goal.returns-in_err-push-clause-part
returns-in_err-push-clause-part c =
    let x : Replica = replica_of c.args.self.now in
    on_err_here c.from_residual.result (λ t.
    let so_far = c.loop-place.invariant t in
    (so_far.0, said_behind x t c.args.proc c.loop-place.place, c.in_err-push.ensures.err t ∙ so_far.1, so_far.2))
