-- The rule in numbers (02, P4). Assumes nothing.
use Rattle.std.specs.Prelude.{◌≡◌, refl, true, false, [], ◌∷◌, ℕ}
use Rattle.std.specs.Prelude.{Some, None}
use Rattle.gmp_payload_type.specs.declared.Seen.TheVariants.{Once, Twice}
use Rattle.gmp_payload_type.specs.declared.Types.{Types}
use Rattle.gmp_payload_type.specs.declared.Expected.{Expected}
use Rattle.gmp_payload_type.specs.Types.{new_types, judged, numbered_zero, types_after, gate_open}
use Rattle.gmp_payload_type.specs.Claims.{judged_all}

-- after the types 7, 7 none is accepted, after 7, 7, 7 type 7 is, and after 7, 7, 5, 7 none is (the
-- last stands first)
pub three :
    ((judged_all (7 ∷ 7 ∷ [])).accepted ≡ None)
    × ((judged_all (7 ∷ 7 ∷ 7 ∷ [])).accepted ≡ Some 7)
    × ((judged_all (7 ∷ 5 ∷ 7 ∷ 7 ∷ [])).accepted ≡ None)
unfolding judged
three = (refl, refl, refl)

-- type 7 stands while 5 has come twice, and goes with the third 5; type 0 is a type
pub stands :
    ((judged_all (5 ∷ 5 ∷ 7 ∷ 7 ∷ 7 ∷ [])).accepted ≡ Some 7)
    × ((judged_all (5 ∷ 5 ∷ 5 ∷ 7 ∷ 7 ∷ 7 ∷ [])).accepted ≡ Some 5)
    × ((judged_all (0 ∷ 0 ∷ 0 ∷ 7 ∷ 7 ∷ 7 ∷ [])).accepted ≡ Some 0)
unfolding judged
stands = (refl, refl, refl)

-- a frame of this number where type 7 is expected
abbrev pub expects7 : ℕ → Expected
expects7 n = record { multiframe = n; payload_type = 7 }

-- frames numbered 0: 0, 256 and so on
pub zero_frames_lem :
    (numbered_zero (expects7 0) ≡ true)
    × (numbered_zero (expects7 255) ≡ false)
    × (numbered_zero (expects7 256) ≡ true)
    × (numbered_zero (expects7 257) ≡ false)
zero_frames_lem = (refl, refl, refl, refl)

-- what is remembered where type 7 was accepted and came last, and the same with 5 accepted
abbrev pub seven : Types
seven = record { accepted = Some 7; seen = Twice 7 }

abbrev pub five : Types
five = record { accepted = Some 5; seen = Twice 7 }

-- with the type check off all bytes pass; with it on those at a sink that has accepted the expected
-- type
pub gate :
    (gate_open false new_types (expects7 0) ≡ true)
    × (gate_open false five (expects7 0) ≡ true)
    × (gate_open true new_types (expects7 0) ≡ false)
    × (gate_open true seven (expects7 0) ≡ true)
    × (gate_open true five (expects7 0) ≡ false)
unfolding gate_open
gate = (refl, refl, refl, refl, refl)

-- the PSI byte 7 has type 7 accepted in a frame numbered 0 with the type check on, and only there
pub read :
    (types_after true five (expects7 0) 7 ≡ seven)
    × (types_after true five (expects7 1) 7 ≡ five)
    × (types_after false five (expects7 0) 7 ≡ five)
    × (types_after true new_types (expects7 0) 7 ≡ record { accepted = None; seen = Once 7 })
unfolding types_after judged
read = (refl, refl, refl, refl)
