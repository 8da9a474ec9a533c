use Rattle.dd_ports.proofs.Stored.{fetches_of_fill}
use Rattle.dd_ports.proofs.sure_store.SureStoreStore.fetch.Goals as goal

pub returns-in_ok-fill-in-Some-clause-bytes : goal.returns-in_ok-fill-in-Some-clause-bytes
returns-in_ok-fill-in-Some-clause-bytes c = λ _. fetches_of_fill _ _ _ _ _ c.in-Some.ensures c.in_ok-fill-in-Some.ensures
