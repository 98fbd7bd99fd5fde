-- `claim_recovery::three_come` meets its contract. Assumes nothing.
use Rattle.claim_recovery.proofs.Claims.{three_come}
use Rattle.claim_recovery.proofs.three_come.Goals as goal

pub returns : goal.returns
returns c = three_come
