-- The source's calls, as a caller of the C interface sees them. Assumes nothing.
use mathlib.Core.Path.{◌≡◌, refl, ap, ◌∙◌}
use mathlib.Core.Bool.{cond}
use mathlib.Core.List.{List, [], ◌∷◌}
use Prim.Native.Nat.{ℕ}
use lib.Dec.{eqb}
use Rattle.gmp_source.specs.declared.SourceState.{SourceState}
use Rattle.gmp_source.specs.Source.{source_frame}
use Rattle.claim_recovery.specs.Runs.{SourceStep, refusal_of, source_takes, source_after, source_steps}
use Rattle.c_settings.specs.Numbers.{settings_from}
use Rattle.c_source.specs.declared.SourceReply.{SourceReply}
use Rattle.c_source.specs.Numbers.{source_reply}
use Rattle.claim_interface.specs.Observed.{SourceGiven, SourceSeen, SourcePassed, source_step, source_call, source_calls, source_taken, source_given}

pub refusal_is : (x : SourceSeen) → x.reply.refusal ≡ refusal_of (source_step x)
refusal_is x = ap (λ (r : SourceReply). r.refusal) x.reply_kept

state_is : (x : SourceSeen) → x.reply.state ≡ source_after (source_step x)
state_is x = ap (λ (r : SourceReply). r.state) x.reply_kept

pub source_is : (z : SourceState) (seen : List SourceSeen) → SourcePassed z seen → source_taken seen ≡ source_steps z (source_calls seen)
unfolding source_steps
source_is z [] h = refl
source_is z (x ∷ xs) h =
    ap (λ (l : List SourceStep). cond (eqb x.reply.refusal 0) (source_step x ∷ l) l) (source_is x.reply.state xs h.1)
    ∙ ap (λ (n : ℕ). cond (eqb n 0) (source_step x ∷ source_steps x.reply.state (source_calls xs)) (source_steps x.reply.state (source_calls xs))) (refusal_is x)
    ∙ ap (λ (q : SourceState). cond (source_takes (source_step x)) (source_step x ∷ source_steps q (source_calls xs)) (source_steps q (source_calls xs))) (state_is x)
    ∙ ap (λ (q : SourceState). source_steps q (source_call x.given ∷ source_calls xs)) h.0

-- a call is seen as its contract says
abbrev seen_of : SourceGiven → SourceState → SourceSeen
seen_of g z =
    record {
      given = g;
      state = z;
      reply = source_reply (settings_from g.settings) z g.next g.client g.buffer;
      frame = source_frame (settings_from g.settings) z g.next g.client g.buffer;
      reply_kept = refl;
      frame_kept = refl;
    }

pub source_runs : (z : SourceState) (calls : List SourceGiven) → (seen : List SourceSeen) × SourcePassed z seen × (source_given seen ≡ calls)
source_runs z [] = ([], tt, refl)
source_runs z (g ∷ gs) =
    let x = seen_of g z in
    let rest = source_runs x.reply.state gs in
    (x ∷ rest.0, (refl, rest.1), ap (λ (l : List SourceGiven). g ∷ l) rest.2)
