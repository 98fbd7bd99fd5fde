-- The clause of the call that is lent the tallies is the promise. Assumes nothing.
use mathlib.Core.Path.{refl}
use Rattle.claim_calls.specs.Lent.{LentPromises}

pub lent_tallies_promises : LentPromises
lent_tallies_promises M 𝓤 𝓛 mem run κs a r e = refl
