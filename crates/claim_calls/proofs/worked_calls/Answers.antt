-- `claim_calls::worked_calls` meets its contract. Assumes nothing.
use Rattle.claim_calls.proofs.Worked.{worked_seen}
use Rattle.claim_calls.proofs.worked_calls.Goals as goal

pub returns : goal.returns
returns c = worked_seen
