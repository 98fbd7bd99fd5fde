-- `claim_interface::as_claimed` meets its contract. Assumes nothing.
use Rattle.claim_interface.proofs.Claimed.{as_claimed}
use Rattle.claim_interface.proofs.as_claimed.Goals as goal

pub returns : goal.returns
returns c = as_claimed
