-- The starred cases of 01, "Worked frames", as one table; the last is that of 02, P7, in the place
-- of 01's. Assumes nothing.
use Rattle.std.specs.Prelude.{◌≡◌, cond, List, [], ◌∷◌, ◌++◌, ℕ, zero, suc}
use Rattle.gmp_settings.specs.declared.Settings.{Settings}
use Rattle.gmp_settings.specs.Settings.{new_settings, opu0}
use Rattle.gmp_standing.specs.declared.Count.TheVariants.{Known, Unknown}
use Rattle.gmp_standing.specs.Standing.{Finding, finding, READ, TRACKED, PAIRED, BADCHECK, WAITING, OUTSIDE}
use Rattle.std.specs.Prelude.{None}
use Rattle.gmp_control.specs.Worked.{wide}
use Rattle.gmp_places.specs.Places.{carries}
use Rattle.gmp_frame.specs.declared.Control.{Control}
use Rattle.gmp_payload_type.specs.Types.{new_types}
use Rattle.gmp_keeper.specs.Keeper.{first_remainder}
use Rattle.gmp_keeper.specs.Sum.{counts_from}
use Rattle.gmp_keeper.specs.Worked.{gigabit}
use Rattle.gmp_source.specs.Source.{control_bytes}
use Rattle.gmp_sink.specs.declared.SinkState.{SinkState}
use Rattle.gmp_sink.specs.Sink.{new_sink, standing_after, state_after}

-- a case: what the definitions give, and what the paper says
pub data Case : Type 0 where
  numbers : List ℕ → List ℕ → Case
  standings : List Finding → List Finding → Case

abbrev pub Holds : Case → Type 0
Holds (numbers got want) = got ≡ want
Holds (standings got want) = got ≡ want

abbrev pub AllHold : List Case → Type 0
AllHold [] = Unit {0}
AllHold (c ∷ cs) = Holds c × AllHold cs

-- the control bytes in an OPU0 frame of count old that announce the count next
abbrev pub announces : ℕ → ℕ → List ℕ
announces old next = let c = control_bytes opu0 old next in c.jc1 ∷ c.jc2 ∷ c.jc3 ∷ []

-- the standings of a sink that reads these control bytes, one frame after the other
abbrev pub control : ℕ → ℕ → ℕ → Control
control a b c = record { jc1 = a; jc2 = b; jc3 = c }

unfoldable pub reads : Settings → SinkState → List Control → List Finding
reads s z [] = []
reads s z (c ∷ cs) = standing_after s z c ∷ reads s (state_after s z c) cs

-- the payload bytes 1 to n that carry client bytes
unfoldable pub carrying : ℕ → ℕ → ℕ → List ℕ
carrying C S zero = []
carrying C S (suc n) = carrying C S n ++ cond (carries C S (suc n)) (suc n ∷ []) []

-- the window 0 to 8 on OPU0's grid
abbrev pub narrow : Settings
narrow = new_settings 3808 0 8

-- a sink that knows a false count
abbrev pub false_count : SinkState
false_count = record { count = Known 2932; word = None; types = new_types }

abbrev pub starred : List Case
starred =
    -- "Old 14407: next 14407 E1 1C 6E; 14408 4B B6 38; 14409 87 7A A7; 14406 B4 49 45; 14405 78 85
    -- DA. Old 14405, next 14409: E1 27 6C."
    numbers (announces 14407 14407) (0xE1 ∷ 0x1C ∷ 0x6E ∷ [])
    ∷ numbers (announces 14407 14408) (0x4B ∷ 0xB6 ∷ 0x38 ∷ [])
    ∷ numbers (announces 14407 14409) (0x87 ∷ 0x7A ∷ 0xA7 ∷ [])
    ∷ numbers (announces 14407 14406) (0xB4 ∷ 0x49 ∷ 0x45 ∷ [])
    ∷ numbers (announces 14407 14405) (0x78 ∷ 0x85 ∷ 0xDA ∷ [])
    ∷ numbers (announces 14405 14409) (0xE1 ∷ 0x27 ∷ 0x6C ∷ [])
    -- "A new OPU0 sink reads 4B B6 38 (WAITING), then 4B 8A 19: PAIRED, 14409."
    ∷ standings (reads opu0 new_sink (control 0x4B 0xB6 0x38 ∷ control 0x4B 0x8A 0x19 ∷ [])) (finding WAITING Unknown ∷ finding PAIRED (Known 14409) ∷ [])
    -- "Window 0 to 15232, known count 2932 (false), no word: 4B B6 38 is TRACKED to 2934; then 4B
    -- 8A 19 is PAIRED, 14409."
    ∷ standings (reads wide false_count (control 0x4B 0xB6 0x38 ∷ control 0x4B 0x8A 0x19 ∷ [])) (finding TRACKED (Known 2934) ∷ finding PAIRED (Known 14409) ∷ [])
    -- "00 00 00 passes the check: OPU0 says OUTSIDE; window 0 to 8 says READ, 0. FF FF FF:
    -- BADCHECK."
    ∷ standings (reads opu0 new_sink (control 0x00 0x00 0x00 ∷ [])) (finding OUTSIDE Unknown ∷ [])
    ∷ standings (reads narrow new_sink (control 0x00 0x00 0x00 ∷ [])) (finding READ (Known 0) ∷ [])
    ∷ standings (reads opu0 new_sink (control 0xFF 0xFF 0xFF ∷ [])) (finding BADCHECK Unknown ∷ [])
    -- "S = 8, C = 3: places 3, 6, 8. C = 0: none. C = 8: all."
    ∷ numbers (carrying 3 8 8) (3 ∷ 6 ∷ 8 ∷ [])
    ∷ numbers (carrying 0 8 8) []
    ∷ numbers (carrying 8 8 8) (1 ∷ 2 ∷ 3 ∷ 4 ∷ 5 ∷ 6 ∷ 7 ∷ 8 ∷ [])
    -- 02, P7: "For 18671875 over 1296 the first counts become 14407, 14408, 14407, 14407, 14408."
    -- It replaces 01's "p = 18671875, q = 1296 (1000BASE-X): 14407, 14407, 14407, 14408."
    ∷ numbers (counts_from (first_remainder 1296) (gigabit ∷ gigabit ∷ gigabit ∷ gigabit ∷ gigabit ∷ [])) (14407 ∷ 14408 ∷ 14407 ∷ 14407 ∷ 14408 ∷ [])
    ∷ []
