use Rattle.pfair_ready.proofs.heap.HeapReadyReady.take_seated.Given as goal

abbrev pub ghost-select : goal.ghost-select
ghost-select a = λ s. s.key
