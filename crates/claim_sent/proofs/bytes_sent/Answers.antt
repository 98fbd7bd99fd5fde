-- `claim_sent::bytes_sent` meets its contract. Assumes nothing.
use Rattle.claim_sent.proofs.Sent.{bytes_sent}
use Rattle.claim_sent.proofs.bytes_sent.Goals as goal

pub returns : goal.returns
returns c = bytes_sent
