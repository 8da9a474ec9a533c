use Rattle.dd_canon.proofs.OrbitLemmas.{numbering_kept, automorphism_found}
use Rattle.dd_canon.proofs.automorphism_laws.automorphisms_keep_codes.Goals as goal

pub returns-clause-kept : goal.returns-clause-kept
returns-clause-kept c = numbering_kept

pub returns-clause-found : goal.returns-clause-found
returns-clause-found c = automorphism_found
