-- The rate keeper's replies as the plain numbers that C and Rust see. Assumes nothing.
use Rattle.std.specs.Prelude.{ℕ}
use Rattle.refusals.specs.Table.{Answer, accepted, refused}
use Rattle.gmp_keeper.specs.Keeper.{Kept}
use Rattle.c_keeper.specs.declared.KeeperReply.{KeeperReply}

-- the refusal's number of an answer, 0 where it was accepted
abbrev pub refusal_of : Answer ℕ → ℕ
refusal_of (accepted n) = 0
refusal_of (refused k) = k

-- the count of an answer, 0 where it was refused
abbrev pub count_of : Answer ℕ → ℕ
count_of (accepted n) = n
count_of (refused k) = 0

-- a keeper call
abbrev pub keeper_reply : Kept → KeeperReply
keeper_reply k = record { refusal = refusal_of k.answer; count = count_of k.answer; remainder = k.remainder }
