use Rattle.std.proofs.Common.{subst}
use Rattle.st_index.specs.declared.storage.Storage.{Storage}
use Rattle.st_index.specs.inner.Storages.{IsStored}
use Rattle.st_index.proofs.Places.{key_in}
use Rattle.st_index.proofs.storage.into_rows.Goals as goal

pub at-requires-in-Heap-clause-bin : goal.at-requires-in-Heap-clause-bin
at-requires-in-Heap-clause-bin g c = (subst (λ (s : Storage g.row.A.Denot). IsStored s) c.in-Heap.is c.requires.stored).0

pub at-requires-in-Heap-clause-address : goal.at-requires-in-Heap-clause-address
at-requires-in-Heap-clause-address g c = (subst (λ (s : Storage g.row.A.Denot). IsStored s) c.in-Heap.is c.requires.stored).1

pub returns-in-Heap-clause-key : goal.returns-in-Heap-clause-key
returns-in-Heap-clause-key g c = key_in _ _ _ _ _ c.at-in-Heap.result c.in-Heap.is c.at-in-Heap.ensures.bin c.at-in-Heap.ensures.address
