use Rattle.pfair_table.proofs.Common.{Logged, IsLoggedRun, is_short, lists_of, list_all, length-map, refl, true≢false, ◌∙◌, sym, ap, arith, Vec, Global}
use Rattle.pfair_table.proofs.Scripts.{logged_run, logs_short}
use Rattle.pfair_table.proofs.script.Script.new.Goals.{Then-are_short, else-len-processors-via-then-len-processors+else-are_short, else-len-processors-via-else-len-processors}
use Rattle.pfair_table.proofs.script.Script.new.Goals as goal

logged : (c : Then-are_short) → IsLoggedRun (record { settings = c.args.settings; logs = lists_of c.args.logs.items })
logged c =
    logged_run c.args.settings c.args.logs.items (omega (arith, c.if-len-processors.true, c.len.ensures, c.args.logs.ok, c.processors.ensures.value))
    (ap (list_all (λ (log : Vec Logged Global). is_short log.items)) (sym c.deref.ensures.value) ∙ sym c.are_short.ensures ∙ c.if-are_short.true)

pub invariant_of-result : goal.invariant_of-result
invariant_of-result c = logged c

pub returns-then-are_short-clause-ok : goal.returns-then-are_short-clause-ok
returns-then-are_short-clause-ok c = (refl, logged c)

pub returns-else-len-processors-clause-back : goal.returns-else-len-processors-clause-back
returns-else-len-processors-clause-back c = (
  refl,
  λ run. elim c.else-len-processors.branch [
    | else-len-processors-via-then-len-processors+else-are_short w ↦ true≢false (sym (logs_short c.args.settings c.args.logs.items run) ∙ ap (list_all (λ (log : Vec Logged Global). is_short log.items)) (sym w.deref.ensures.value) ∙ sym w.are_short.ensures ∙ w.if-are_short.false)
    | else-len-processors-via-else-len-processors w ↦ omega (arith, w.if-len-processors.false, c.len.ensures, c.args.logs.ok, c.processors.ensures.value, run.one_each, length-map c.args.logs.items (λ (log : Vec Logged Global). log.items))
  ],
)
