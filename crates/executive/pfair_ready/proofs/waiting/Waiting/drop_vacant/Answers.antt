use Rattle.pfair_ready.proofs.Common.{queue_in, rules, ap, ◌∙◌, filter-RetainsPairs}
use Rattle.std.specs.FinMap as finmap
use Rattle.pfair_ready.proofs.WaitingLemmas.{live_kept}
use Rattle.pfair_ready.proofs.waiting.Waiting.drop_vacant.Goals as goal

pub returns-then-self-len : goal.returns-then-self-len
returns-then-self-len c =
    ap queue_in (filter-RetainsPairs _ _ _ (λ k v b w g call. search rules) _ _ c.retain.ensures.filtered)
    ∙ ap finmap.from_entries (live_kept c.self.inside.entries.entries)
    ∙ c.self.view_is
