-- `claim_recovery::recovers_alone` meets its contract. Assumes nothing.
use Rattle.claim_recovery.proofs.Claims.{recovers_alone}
use Rattle.claim_recovery.proofs.recovers_alone.Goals as goal

pub returns : goal.returns
returns c = recovers_alone
