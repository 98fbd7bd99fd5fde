-- Runs as a caller of the C interface sees them: of each call the numbers that it was given, those
-- that it returned, and what it left in the lent buffers. All that is known of a call is the
-- promise of its contract: the functions named `.._kept` promise that of the real calls. What the
-- toolchain reads off their contracts is stated in proofs/Contracts.antt, since no clause may cite
-- it. Such runs are those that the claims are about. Assumes nothing.
use Rattle.std.specs.Prelude.{◌≡◌, cond, List, [], ◌∷◌, ◌++◌, ℕ, ◌<◌, eqb, length}
use Rattle.gmp_keeper.specs.Keeper.{keeper_call, first_remainder}
use Rattle.gmp_keeper.specs.Sum.{KeeperCall, counts_from, sum}
use Rattle.gmp_keeper.specs.Nearest.{Nearest}
use Rattle.gmp_source.specs.declared.SourceState.{SourceState}
use Rattle.gmp_source.specs.Source.{source_frame}
use Rattle.gmp_payload_type.specs.declared.Expected.{Expected}
use Rattle.claim_recovery.specs.Runs.{Bytes, SourceCall, SinkCall, SourceStep, SinkStep, refusal_of, source_steps, sink_steps, sink_end, frame_of, answer_of, mended_of, handed_of, out_of}
use Rattle.claim_recovery.specs.Tallied.{tallies_end}
use Rattle.c_settings.specs.declared.SettingsNumbers.{SettingsNumbers}
use Rattle.c_settings.specs.Numbers.{settings_from}
use Rattle.c_source.specs.declared.SourceReply.{SourceReply}
use Rattle.c_source.specs.Numbers.{source_reply}
use Rattle.c_keeper.specs.declared.KeeperReply.{KeeperReply}
use Rattle.c_keeper.specs.Numbers.{keeper_reply}
use Rattle.c_sink_numbers.specs.declared.SinkNumbers.{SinkNumbers}
use Rattle.c_sink_numbers.specs.declared.SinkReply.{SinkReply}
use Rattle.c_sink_numbers.specs.Numbers.{state_from, tallies_from, tallies_numbers, InterfacePromise}
use Rattle.c_sink_numbers.specs.Lossless.{answer_from, mended_from}

-- what a caller chooses: of `odu0_source_call`, of `odu0_sink_call`, whose frame has bytes, and of
-- `odu0_keeper_call`
pub record SourceGiven : Type 0 where
  pub settings : SettingsNumbers
  pub next : ℕ
  pub client : List ℕ
  pub buffer : List ℕ

pub record SinkGiven : Type 0 where
  pub settings : SettingsNumbers
  pub expected : Expected
  pub frame : List ℕ
  pub bytes : Bytes frame
  pub out : List ℕ
  pub port : ℕ

pub record KeeperGiven : Type 0 where
  pub settings : SettingsNumbers
  pub p : ℕ
  pub q : ℕ

-- a call: what it was given, with the state or the remainder; what it returned and left; and that
-- it kept its promise
pub record SourceSeen : Type 0 where
  pub given : SourceGiven
  pub state : SourceState
  pub reply : SourceReply
  pub frame : List ℕ
  pub reply_kept : reply ≡ source_reply (settings_from given.settings) state given.next given.client given.buffer
  pub frame_kept : frame ≡ source_frame (settings_from given.settings) state given.next given.client given.buffer

pub record SinkSeen : Type 0 where
  pub given : SinkGiven
  pub state : SinkNumbers
  pub tallies : List ℕ
  pub reply : SinkReply
  pub out : List ℕ
  pub tallies_then : List ℕ
  pub kept : InterfacePromise (settings_from given.settings) state given.expected given.frame given.out given.port tallies reply out tallies_then

pub record KeeperSeen : Type 0 where
  pub given : KeeperGiven
  pub remainder : ℕ
  pub reply : KeeperReply
  pub kept : reply ≡ keeper_reply (keeper_call (settings_from given.settings) given.p given.q remainder)

-- "Each call gets the state that the call before it in its list returned", the first one z; of a
-- sink the last call returned the numbers e; of a keeper it is the remainder
abbrev pub SourcePassed : SourceState → List SourceSeen → Type 0
SourcePassed z [] = Unit {0}
SourcePassed z (x ∷ xs) = (x.state ≡ z) × SourcePassed x.reply.state xs

abbrev pub SinkPassed : SinkNumbers → List SinkSeen → SinkNumbers → Type 0
SinkPassed z [] e = e ≡ z
SinkPassed z (y ∷ ys) e = (y.state ≡ z) × SinkPassed y.reply.state ys e

abbrev pub KeeperPassed : ℕ → List KeeperSeen → Type 0
KeeperPassed r [] = Unit {0}
KeeperPassed r (x ∷ xs) = (x.remainder ≡ r) × KeeperPassed x.reply.remainder xs

-- The 24 numbers of a card's tallies go through the calls of all its sinks: each call gets those
-- that the call before it left, the first one l, and the last one left t.
abbrev pub TalliesPassed : List ℕ → List SinkSeen → List ℕ → Type 0
TalliesPassed l [] t = t ≡ l
TalliesPassed l (y ∷ ys) t = (y.tallies ≡ l) × TalliesPassed y.tallies_then ys t

-- the accepted calls of a keeper have this p and this q
abbrev pub KeeperShares : ℕ → ℕ → List KeeperSeen → Type 0
KeeperShares p q [] = Unit {0}
KeeperShares p q (x ∷ xs) = (x.reply.refusal ≡ 0 → (x.given.p ≡ p) × (x.given.q ≡ q)) × KeeperShares p q xs

-- the call that the claims speak of, and the step that it is
abbrev pub source_call : SourceGiven → SourceCall
source_call g = record { settings = settings_from g.settings; next = g.next; client = g.client; buffer = g.buffer }

abbrev pub source_step : SourceSeen → SourceStep
source_step x = record { call = source_call x.given; state = x.state }

abbrev pub sink_call : SinkGiven → SinkCall
sink_call g = record { settings = settings_from g.settings; expected = g.expected; frame = g.frame; bytes = g.bytes; out = g.out; port = g.port }

abbrev pub sink_step : SinkSeen → SinkStep
sink_step y = record { call = sink_call y.given; state = state_from y.state }

abbrev pub keeper_of : KeeperGiven → KeeperCall
keeper_of g = record { settings = settings_from g.settings; p = g.p; q = g.q }

-- the calls that were made, and the steps of those whose reply has the refusal 0
abbrev pub source_calls : List SourceSeen → List SourceCall
source_calls [] = []
source_calls (x ∷ xs) = source_call x.given ∷ source_calls xs

abbrev pub source_taken : List SourceSeen → List SourceStep
source_taken [] = []
source_taken (x ∷ xs) = cond (eqb x.reply.refusal 0) (source_step x ∷ source_taken xs) (source_taken xs)

abbrev pub sink_calls : List SinkSeen → List SinkCall
sink_calls [] = []
sink_calls (y ∷ ys) = sink_call y.given ∷ sink_calls ys

abbrev pub sink_taken : List SinkSeen → List SinkStep
sink_taken [] = []
sink_taken (y ∷ ys) = cond (eqb y.reply.refusal 0) (sink_step y ∷ sink_taken ys) (sink_taken ys)

-- all calls, each with the state that it was given
abbrev pub sink_made : List SinkSeen → List SinkStep
sink_made [] = []
sink_made (y ∷ ys) = sink_step y ∷ sink_made ys

abbrev pub keeper_calls : List KeeperSeen → List KeeperCall
keeper_calls [] = []
keeper_calls (x ∷ xs) = keeper_of x.given ∷ keeper_calls xs

-- the counts that replies with the refusal 0 give
abbrev pub keeper_counts : List KeeperSeen → List ℕ
keeper_counts [] = []
keeper_counts (x ∷ xs) = cond (eqb x.reply.refusal 0) (x.reply.count ∷ []) [] ++ keeper_counts xs

-- what callers chose in these calls
abbrev pub source_given : List SourceSeen → List SourceGiven
source_given [] = []
source_given (x ∷ xs) = x.given ∷ source_given xs

abbrev pub sink_given : List SinkSeen → List SinkGiven
sink_given [] = []
sink_given (y ∷ ys) = y.given ∷ sink_given ys

abbrev pub keeper_given : List KeeperSeen → List KeeperGiven
keeper_given [] = []
keeper_given (x ∷ xs) = x.given ∷ keeper_given xs

-- Each list of calls can be made: there is a run of it from each state, remainder and tallies.
pub record RunsThere : Type 0 where
  pub source : (z : SourceState) (calls : List SourceGiven) → (seen : List SourceSeen) × SourcePassed z seen × (source_given seen ≡ calls)
  pub sink : (z : SinkNumbers) (l : List ℕ) (calls : List SinkGiven)
      → (seen : List SinkSeen) × (e : SinkNumbers) × (t : List ℕ) × SinkPassed z seen e × TalliesPassed l seen t × (sink_given seen ≡ calls)
  pub keeper : (r : ℕ) (calls : List KeeperGiven) → (seen : List KeeperSeen) × KeeperPassed r seen × (keeper_given seen ≡ calls)

-- What a caller sees is what the claims speak of: the accepted calls of a run are its steps; each
-- reply stands for what the step answers, mends and hands out; each buffer is as the step leaves
-- it; the last state, the 24 numbers and the counts are those of the run.
pub record AsClaimed : Type 0 where
  pub runs : RunsThere
  pub source : (z : SourceState) (seen : List SourceSeen) → SourcePassed z seen → source_taken seen ≡ source_steps z (source_calls seen)
  pub refusal : (x : SourceSeen) → x.reply.refusal ≡ refusal_of (source_step x)
  pub frame : (x : SourceSeen) → x.frame ≡ frame_of (source_step x)
  pub sink : (z : SinkNumbers) (seen : List SinkSeen) (e : SinkNumbers) → SinkPassed z seen e → sink_taken seen ≡ sink_steps (state_from z) (sink_calls seen)
  pub end : (z : SinkNumbers) (seen : List SinkSeen) (e : SinkNumbers) → SinkPassed z seen e → state_from e ≡ sink_end (state_from z) (sink_calls seen)
  pub answer : (y : SinkSeen) → answer_from y.reply ≡ answer_of (sink_step y)
  pub mended : (y : SinkSeen) → mended_from y.reply ≡ mended_of (sink_step y)
  pub handed : (y : SinkSeen) → y.reply.handed ≡ length (handed_of (sink_step y))
  pub out : (y : SinkSeen) → y.out ≡ out_of (sink_step y)
  pub tallies : (l : List ℕ) → length l ≡ 24 → (seen : List SinkSeen) (t : List ℕ) → TalliesPassed l seen t → t ≡ tallies_numbers (tallies_end (tallies_from l) (sink_made seen))
  pub counts : (r : ℕ) (seen : List KeeperSeen) → KeeperPassed r seen → keeper_counts seen ≡ counts_from r (keeper_calls seen)
  -- the counts of a new keeper add up to the number nearest to t × p / q, exact halves going up
  pub nearest : (p q : ℕ) (seen : List KeeperSeen) → 0 < q → KeeperPassed (first_remainder q) seen → KeeperShares p q seen
      → Nearest (length (keeper_counts seen)) p q (sum (keeper_counts seen))
