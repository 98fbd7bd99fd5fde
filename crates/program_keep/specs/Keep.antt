-- A part of a block goes to its front. Assumes nothing.
use Rattle.std.specs.Prelude.{◌≡◌, List, ◌++◌, ℕ, ◌-◌, length, take, drop}

-- what a block has from place `at` up to place `end`
abbrev pub between : ℕ → ℕ → List ℕ → List ℕ
between at end block = take (end - at) (drop at block)

-- A part of a block goes to its front, and the places behind it are as they were.
pub record Keeps (block : List ℕ) (at end n : ℕ) (after : List ℕ) : Type 0 where
  pub number : n ≡ length (between at end block)
  pub bytes : after ≡ between at end block ++ drop n block
