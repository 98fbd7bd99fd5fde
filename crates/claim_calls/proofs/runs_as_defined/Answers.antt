-- `claim_calls::runs_as_defined` meets its contract. Assumes nothing.
use Rattle.claim_calls.proofs.Observed.{as_defined}
use Rattle.claim_calls.proofs.runs_as_defined.Goals as goal

pub returns : goal.returns
returns c = as_defined
