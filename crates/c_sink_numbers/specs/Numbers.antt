-- The sink's values as the plain numbers that C and Rust see, and back. What may be missing is a
-- flag, 0 for none, beside a number. Assumes nothing.
use Rattle.std.specs.Prelude.{◌≡◌, Bool, not, cond, Option, is_some, List, [], ◌∷◌, ◌++◌, ℕ, zero, suc, ◌+◌, ◌*◌, eqb, length, get_or}
use Rattle.gmp_settings.specs.declared.Settings.{Settings}
use Rattle.refusals.specs.Table.{Answer, accepted, refused}
use Rattle.gmp_standing.specs.declared.Count.{Count}
use Rattle.gmp_standing.specs.declared.Count.TheVariants.{Known, Unknown}
use Rattle.gmp_standing.specs.Standing.{Finding, standing_number}
use Rattle.std.specs.Option.{unwrap_or}
use Rattle.std.specs.Bool.{then_some}
use Rattle.ports.specs.Port.{ports}
use Rattle.gmp_payload_type.specs.declared.Seen.{Seen}
use Rattle.gmp_payload_type.specs.declared.Seen.TheVariants.{Never, Once, Twice}
use Rattle.gmp_payload_type.specs.declared.Expected.{Expected}
use Rattle.card_tally.specs.declared.Tally.{Tally}
use Rattle.card_tally.specs.declared.Tallies.{Tallies}
use Rattle.card_tally.specs.Ports.{tally_of}
use Rattle.gmp_sink.specs.declared.SinkState.{SinkState}
use Rattle.gmp_sink.specs.Sink.{sink_answer, sink_state, sink_mended, sink_handed, sink_out}
use Rattle.card_promise.specs.Card.{tallies_after}
use Rattle.c_sink_numbers.specs.declared.SinkNumbers.{SinkNumbers}
use Rattle.c_sink_numbers.specs.declared.SinkReply.{SinkReply}

-- a flag, 0 for no
abbrev pub flag_of : Bool → ℕ
flag_of b = cond b 1 0

-- a count or none
abbrev pub count_from : ℕ → ℕ → Count
count_from flag n = cond (eqb flag 0) Unknown (Known n)

abbrev pub count_flag : Count → ℕ
count_flag (Known n) = 1
count_flag Unknown = 0

abbrev pub count_value : Count → ℕ
count_value (Known n) = n
count_value Unknown = 0

-- a value that may be missing: a remembered word, and an accepted payload type
abbrev pub value_from : ℕ → ℕ → Option ℕ
value_from flag n = then_some (not (eqb flag 0)) n

abbrev pub accepted_from : ℕ → ℕ → Option ℕ
accepted_from flag k = value_from flag k

-- the type that was seen last, and how often: never, once, or, for any other number, twice or more
abbrev pub seen_from : ℕ → ℕ → Seen
seen_from times k = cond (eqb times 0) Never (cond (eqb times 1) (Once k) (Twice k))

abbrev pub seen_times : Seen → ℕ
seen_times Never = 0
seen_times (Once k) = 1
seen_times (Twice k) = 2

abbrev pub seen_type : Seen → ℕ
seen_type Never = 0
seen_type (Once k) = k
seen_type (Twice k) = k

-- the sink's state that any eight numbers stand for, and the eight numbers of a state
abbrev pub state_from : SinkNumbers → SinkState
state_from x =
    record {
      count = count_from x.known x.count;
      word = value_from x.remembered x.word;
      types = record { accepted = accepted_from x.accepted x.accepted_type; seen = seen_from x.seen x.seen_type };
    }

abbrev pub state_numbers : SinkState → SinkNumbers
state_numbers z =
    record {
      known = count_flag z.count;
      count = count_value z.count;
      remembered = flag_of (is_some z.word);
      word = unwrap_or z.word 0;
      accepted = flag_of (is_some z.types.accepted);
      seen = seen_times z.types.seen;
      accepted_type = unwrap_or z.types.accepted 0;
      seen_type = seen_type z.types.seen;
    }

-- The reply of a sink call from the numbers x. A refused call returns the very numbers that it was
-- given.
abbrev pub sink_reply_by : SinkNumbers → Answer Finding → ℕ → Bool → SinkState → SinkReply
sink_reply_by x (accepted f) handed mended z =
    record {
      refusal = 0;
      standing = standing_number f.name;
      found = count_flag f.count;
      count = count_value f.count;
      handed = handed;
      mended = flag_of mended;
      state = state_numbers z;
    }
sink_reply_by x (refused n) handed mended z =
    record { refusal = n; standing = 0; found = 0; count = 0; handed = handed; mended = flag_of mended; state = x }

-- a sink call from the numbers x, over the lists of its buffers
abbrev pub sink_reply : Settings → SinkNumbers → SinkState → Expected → List ℕ → List ℕ → ℕ → SinkReply
sink_reply s x z e frame out port =
    sink_reply_by x (sink_answer s z frame out port) (length (sink_handed s z e frame out port)) (sink_mended s frame out port) (sink_state s z e frame out port)

-- a tally as three numbers in a row, from this place on
abbrev pub tally_at : List ℕ → ℕ → Tally
tally_at l i = record { frames = get_or l i 0; badcheck = get_or l (i + 1) 0; bytes = get_or l (i + 2) 0 }

abbrev pub tally_numbers : Tally → List ℕ
tally_numbers y = y.frames ∷ y.badcheck ∷ y.bytes ∷ []

-- The tallies as 24 numbers: those of port 1, of port 2, and so on. Of the first n ports, and of
-- all.
abbrev pub tallies_in : ℕ → List ℕ → List Tally
tallies_in zero l = []
tallies_in (suc n) l = tallies_in n l ++ (tally_at l (3 * n) ∷ [])

abbrev pub tallies_from : List ℕ → Tallies
tallies_from l = record { ports = tallies_in ports l }

abbrev pub numbers_of : ℕ → Tallies → List ℕ
numbers_of zero y = []
numbers_of (suc n) y = numbers_of n y ++ tally_numbers (tally_of y (suc n))

abbrev pub tallies_numbers : Tallies → List ℕ
tallies_numbers y = numbers_of ports y

-- What the sink call promises: its reply, every byte of the output buffer, and the 24 numbers of
-- the tallies.
pub record InterfacePromise (s : Settings) (x : SinkNumbers) (e : Expected) (frame out : List ℕ) (port : ℕ) (tallies : List ℕ) (r : SinkReply) (out-after tallies_then : List ℕ) : Type 0 where
  pub reply : r ≡ sink_reply s x (state_from x) e frame out port
  pub out_buffer : out-after ≡ sink_out s (state_from x) e frame out port
  pub numbers_then : tallies_then ≡ tallies_numbers (tallies_after s (state_from x) e frame out port (tallies_from tallies))
