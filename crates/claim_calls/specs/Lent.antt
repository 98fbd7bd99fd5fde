-- What the clause of the call that is lent the tallies, `card_sink::sink_call`, says of a call, of
-- its result r and of what it left, e, is the promise that an observed call keeps. It speaks of the
-- clause itself, so it is larger than what a contract can hold; its proof is in proofs/, and
-- `sink_call_kept` has the promise as its contract. Assumes nothing.
use Rattle.std.specs.Prelude.{◌≡◌}
use seplogic.Ra.Ura.{Ura}
use base.Logic.{SProp}
use prog.Memory.{Memory}
use prog.Routine.{Routine}
use types.Logic.{Logic}
use contract.Monad.{Fun, fact}
use contract.Lifetimes.{Lfts}
use denote.Triple.Entry.{Args}
use denote.Triple.Clauses.{AtExit}
use Rattle.gmp_sink.specs.declared.SinkResult.{SinkResult}
use Rattle.card_promise.specs.Card.{CardPromise}
use Rattle.card_sink.specs.contracts.sink_call as call

abbrev pub LentPromises : Type 2
LentPromises =
    (M : Type 1) (𝓤 : Ura M) (𝓛 : Logic 𝓤) (mem : Memory → SProp 𝓤) (run : Routine → Fun 𝓤) (κs : Lfts 3)
    (a : Args call.signature κs) (r : SinkResult) (e : AtExit call.ended κs)
    → (call.clauses 𝓛 mem run κs a).ensures tt r e
    ≡ fact 𝓤 (CardPromise a.0 a.1.0 a.1.1.0 a.1.1.1.0.now a.1.1.1.1.0.now a.1.1.1.1.1.0 a.1.1.1.1.1.1.0.now r e.1.1.1.1.0.now e.1.1.1.1.1.1.0.now)
