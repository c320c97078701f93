use Rattle.pfair_ready.proofs.heap.HeapReadyReady.take_first.Given as goal

abbrev pub ghost-select : goal.ghost-select
ghost-select a = λ k. k
