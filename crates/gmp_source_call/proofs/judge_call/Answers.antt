-- `gmp_source_call::judge_call` meets its contract, line by line. Assumes nothing.
use mathlib.Core.Path.{refl, ap}
use mathlib.Core.Bool.{not}
use Prim.Native.Nat.{ℕ}
use lib.Dec.{eqb}
use Rattle.refusals.proofs.Laws.{line}
use Rattle.gmp_settings.specs.Grid.{frame_bytes}
use Rattle.gmp_settings.specs.Settings.{outside}
use Rattle.gmp_settings.specs.Patterns.{bad_patterns}
use Rattle.gmp_source.specs.Source.{source_refusal}
use Rattle.gmp_source.proofs.Laws.{state_judged}
use Rattle.gmp_source_call.proofs.judge_call.Goals as goal

pub returns : goal.returns
unfolding source_refusal
returns c =
    let g = c.args in
    let state = state_judged g.settings g.state.count c.judge_grid_window_and_state-state.ensures in
    let count = line state 6 (outside g.settings g.next) refl c.is_outside-is_outside.ensures c.refuse_if-count.ensures in
    let client = line count 7 (not (eqb g.client_length g.state.count)) refl refl c.refuse_if-client.ensures in
    let same = ap (λ (n : ℕ). not (eqb g.frame_length n)) c.frame_length-length.ensures in
    let frame = line client 8 (not (eqb g.frame_length (frame_bytes g.settings.k))) refl same c.refuse_if-frame.ensures in
    (line frame 14 (bad_patterns g.settings) refl c.is_bad_patterns-bad_patterns.ensures c.refuse_if.ensures).by
