-- The payload type that a sink accepts, and whether it lets the client bytes pass (02, P4: "The
-- payload type must count"). Assumes nothing.
use Rattle.std.specs.Prelude.{Bool, true, false, cond, ◌&&◌, ℕ, ◌%◌, eqb}
use Rattle.std.specs.Prelude.{Option, Some, None}
use Rattle.gmp_payload_type.specs.declared.Seen.{Seen}
use Rattle.gmp_payload_type.specs.declared.Seen.TheVariants.{Never, Once, Twice}
use Rattle.gmp_payload_type.specs.declared.Types.{Types}
use Rattle.gmp_payload_type.specs.declared.Expected.{Expected}

-- a new sink has accepted no type and has seen none
abbrev pub new_types : Types
new_types = record { accepted = None; seen = Never }

-- the last frame numbered 0 had this type
abbrev pub is_last : Seen → ℕ → Bool
is_last Never k = false
is_last (Once j) k = eqb j k
is_last (Twice j) k = eqb j k

-- how many frames numbered 0 running, the last one among them, had this type: none, one or at least
-- two
abbrev pub times_seen : Seen → ℕ → ℕ
times_seen Never k = 0
times_seen (Once j) k = cond (eqb j k) 1 0
times_seen (Twice j) k = cond (eqb j k) 2 0

-- what was seen last, after one more: another type begins a new run
abbrev pub seen_after : Seen → ℕ → Seen
seen_after n k = cond (is_last n k) (Twice k) (Once k)

-- "the same type in three such frames running .. becomes the accepted type, and until then the
-- earlier one, or none, stands"
abbrev pub accepted_after : Seen → Option ℕ → ℕ → Option ℕ
accepted_after Never a k = a
accepted_after (Once j) a k = a
accepted_after (Twice j) a k = cond (eqb j k) (Some k) a

unfoldable pub judged : Types → ℕ → Types
judged t k = record { accepted = accepted_after t.seen t.accepted k; seen = seen_after t.seen k }

-- the multiframe number that a call is told: a larger one than 255 is taken modulo 256, as the
-- source takes it
abbrev pub number_told : Expected → ℕ
number_told e = e.multiframe % 256

-- a frame numbered 0
abbrev pub numbered_zero : Expected → Bool
numbered_zero e = eqb (number_told e) 0

-- "In frames numbered 0 the PSI byte is read"; "off, .. what is remembered of types stays"
unfoldable pub types_after : Bool → Types → Expected → ℕ → Types
types_after check t e psi = cond (check && numbered_zero e) (judged t psi) t

-- the accepted type is this one
abbrev pub is_accepted : Option ℕ → ℕ → Bool
is_accepted (Some j) k = eqb j k
is_accepted None k = false

-- "While the accepted type is none or not the expected one, no bytes are handed out"; "off, all is
-- as before"
unfoldable pub gate_open : Bool → Types → Expected → Bool
gate_open check t e = cond check (is_accepted t.accepted e.payload_type) true
