-- The sink's calls, as a caller of the C interface sees them. Assumes nothing.
use mathlib.Core.Path.{◌≡◌, refl, sym, ap, ◌∙◌, subst⁻¹}
use mathlib.Core.Bool.{Bool, true, false, cond}
use mathlib.Core.List.{List, [], ◌∷◌}
use Prim.Native.Nat.{ℕ}
use lib.Dec.{eqb}
use lib.ListN.{length}
use borrow.Author.Tests.{eqb-true, eqb-false}
use Rattle.refusals.specs.Table.{Answer, accepted, refused}
use Rattle.gmp_settings.specs.declared.Settings.{Settings}
use Rattle.gmp_standing.specs.Standing.{Finding}
use Rattle.gmp_frame.specs.Frame.{control_of}
use Rattle.gmp_sink.specs.declared.SinkState.{SinkState}
use Rattle.gmp_sink.specs.Sink.{standing_after, sink_refusal, sink_answer, sink_out}
use Rattle.gmp_sink.proofs.Laws.{state_refused}
use Rattle.card_tally.specs.declared.Tallies.{Tallies}
use Rattle.ports.specs.Port.{ports}
use Rattle.card_promise.specs.Card.{bad_frames, tallies_by, tallies_after}
use Rattle.card_tally.proofs.Ports.{own_port_only}
use Rattle.claim_recovery.specs.Runs.{SinkStep, sink_takes, sink_after, answer_of, mended_of, handed_of, sink_steps, sink_end}
use Rattle.claim_recovery.specs.Tallied.{tallies_end}
use Rattle.c_settings.specs.Numbers.{settings_from}
use Rattle.c_sink_numbers.specs.declared.SinkNumbers.{SinkNumbers}
use Rattle.c_sink_numbers.specs.declared.SinkReply.{SinkReply}
use Rattle.c_sink_numbers.specs.Numbers.{state_from, sink_reply_by, sink_reply, tallies_from, tallies_numbers}
use Rattle.c_sink_numbers.specs.Lossless.{answer_from, mended_from}
use Rattle.c_sink_numbers.proofs.Laws.{lossless}
use Rattle.claim_interface.specs.Observed.{SinkGiven, SinkSeen, SinkPassed, TalliesPassed, sink_call, sink_step, sink_calls, sink_taken, sink_made, sink_given}
use Rattle.claim_interface.proofs.Named.{Named, named}

-- the number by which a call is turned back
abbrev refusal_of : SinkSeen → ℕ
refusal_of y = sink_refusal (settings_from y.given.settings) (length y.given.frame) (length y.given.out) y.given.port

-- what the frame of a call leads to
abbrev finding_of : SinkSeen → Finding
finding_of y = let s : Settings = settings_from y.given.settings in standing_after s (state_from y.state) (control_of s.k y.given.frame)

-- The reply of a call with the number n that finds f, by whether n is 0.
module _ (x : SinkNumbers) (n : ℕ) (f : Finding) (handed : ℕ) (b : Bool) (z : SinkState) where
  abbrev reply-by : Bool → SinkReply
  reply-by c = sink_reply_by x (cond c (accepted f) (refused n)) handed b z

  refusal_by : (c : Bool) → eqb n 0 ≡ c → (reply-by c).refusal ≡ n
  refusal_by true e = sym (eqb-true n 0 e)
  refusal_by false e = refl

  handed_by : (c : Bool) → (reply-by c).handed ≡ handed
  handed_by true = refl
  handed_by false = refl

  answer_by_lem : Named f → (c : Bool) → answer_from (reply-by c) ≡ cond c (accepted f) (refused n)
  answer_by_lem g true = subst⁻¹ (λ (v : Finding). answer_from (sink_reply_by x (accepted v) handed b z) ≡ accepted v) g.1 (lossless.standing x g.0 handed b z)
  answer_by_lem g false = lossless.refusal x n handed b z

  -- the numbers of the state that a refused call was given stand for that state
  state_by : (c : Bool) → eqb n 0 ≡ c → ((n ≡ 0 → ⊥) → z ≡ state_from x) → state_from (reply-by c).state ≡ z
  state_by true e h = lossless.state z
  state_by false e h = sym (h (eqb-false n 0 e))

module _ (y : SinkSeen) where
  pub refusal_is : y.reply.refusal ≡ refusal_of y
  unfolding sink_answer
  refusal_is =
      ap (λ (r : SinkReply). r.refusal) y.kept.reply
      ∙ refusal_by y.state (refusal_of y) (finding_of y) (length (handed_of (sink_step y))) (mended_of (sink_step y)) (sink_after (sink_step y)) (sink_takes (sink_step y)) refl

  pub answer_is : answer_from y.reply ≡ answer_of (sink_step y)
  unfolding sink_answer
  answer_is =
      ap answer_from y.kept.reply
      ∙ answer_by_lem y.state (refusal_of y) (finding_of y) (length (handed_of (sink_step y))) (mended_of (sink_step y)) (sink_after (sink_step y)) (named _ _ _) (sink_takes (sink_step y))

  pub mended_is : mended_from y.reply ≡ mended_of (sink_step y)
  mended_is =
      ap mended_from y.kept.reply
      ∙ lossless.mended y.state (answer_of (sink_step y)) (length (handed_of (sink_step y))) (mended_of (sink_step y)) (sink_after (sink_step y))

  pub handed_is : y.reply.handed ≡ length (handed_of (sink_step y))
  unfolding sink_answer
  handed_is =
      ap (λ (r : SinkReply). r.handed) y.kept.reply
      ∙ handed_by y.state (refusal_of y) (finding_of y) (length (handed_of (sink_step y))) (mended_of (sink_step y)) (sink_after (sink_step y)) (sink_takes (sink_step y))

  pub state_is : state_from y.reply.state ≡ sink_after (sink_step y)
  unfolding sink_answer
  state_is =
      ap (λ (r : SinkReply). state_from r.state) y.kept.reply
      ∙ state_by y.state (refusal_of y) (finding_of y) (length (handed_of (sink_step y))) (mended_of (sink_step y)) (sink_after (sink_step y)) (sink_takes (sink_step y)) refl
      (state_refused _ (state_from y.state) y.given.frame y.given.expected y.given.out y.given.port)

pub sink_is : (z : SinkNumbers) (seen : List SinkSeen) (e : SinkNumbers) → SinkPassed z seen e → sink_taken seen ≡ sink_steps (state_from z) (sink_calls seen)
unfolding sink_steps
sink_is z [] e h = refl
sink_is z (y ∷ ys) e h =
    ap (λ (l : List SinkStep). cond (eqb y.reply.refusal 0) (sink_step y ∷ l) l) (sink_is y.reply.state ys e h.1)
    ∙ ap (λ (n : ℕ). cond (eqb n 0) (sink_step y ∷ sink_steps (state_from y.reply.state) (sink_calls ys)) (sink_steps (state_from y.reply.state) (sink_calls ys))) (refusal_is y)
    ∙ ap (λ (q : SinkState). cond (sink_takes (sink_step y)) (sink_step y ∷ sink_steps q (sink_calls ys)) (sink_steps q (sink_calls ys))) (state_is y)
    ∙ ap (λ (q : SinkNumbers). sink_steps (state_from q) (sink_call y.given ∷ sink_calls ys)) h.0

pub end_is : (z : SinkNumbers) (seen : List SinkSeen) (e : SinkNumbers) → SinkPassed z seen e → state_from e ≡ sink_end (state_from z) (sink_calls seen)
unfolding sink_end
end_is z [] e h = ap state_from h
end_is z (y ∷ ys) e h =
    end_is y.reply.state ys e h.1
    ∙ ap (λ (q : SinkState). sink_end q (sink_calls ys)) (state_is y)
    ∙ ap (λ (q : SinkNumbers). sink_end (state_from q) (sink_call y.given ∷ sink_calls ys)) h.0

-- the tallies after a call, of eight ports as those before it
abbrev after_call : SinkSeen → Tallies → Tallies
after_call y t =
    tallies_after (settings_from y.given.settings) (state_from y.state) y.given.expected y.given.frame y.given.out y.given.port t

as_many : (a : Answer Finding) (port bytes : ℕ) (t : Tallies) → length (tallies_by a port bytes t).ports ≡ length t.ports
as_many (accepted f) port bytes t = own_port_only.as_many t port 1 (bad_frames f) bytes
as_many (refused n) port bytes t = refl

eight_after : (y : SinkSeen) (t : Tallies) → length t.ports ≡ ports → length (after_call y t).ports ≡ ports
unfolding tallies_after
eight_after y t h = as_many (answer_of (sink_step y)) y.given.port (length (handed_of (sink_step y))) t ∙ h

-- from the numbers of eight tallies on
tallies_from_lem : (u : Tallies) → length u.ports ≡ ports → (l : List ℕ) → l ≡ tallies_numbers u → (seen : List SinkSeen) (t : List ℕ) → TalliesPassed l seen t
    → t ≡ tallies_numbers (tallies_end u (sink_made seen))
unfolding tallies_end
tallies_from_lem u eight l e [] t h = h ∙ e
tallies_from_lem u eight l e (y ∷ ys) t h =
    tallies_from_lem (after_call y u) (eight_after y u eight) y.tallies_then
    (y.kept.numbers_then ∙ ap (λ (k : List ℕ). tallies_numbers (after_call y (tallies_from k))) (h.0 ∙ e) ∙ ap (λ (v : Tallies). tallies_numbers (after_call y v)) (lossless.tallies u eight))
    ys t h.1

pub tallies_are : (l : List ℕ) → length l ≡ 24 → (seen : List SinkSeen) (t : List ℕ) → TalliesPassed l seen t → t ≡ tallies_numbers (tallies_end (tallies_from l) (sink_made seen))
tallies_are l many seen t h = tallies_from_lem (tallies_from l) refl l (sym (lossless.numbers l many)) seen t h

-- a call is seen as its contract says
abbrev seen_of : SinkGiven → SinkNumbers → List ℕ → SinkSeen
seen_of g x l =
    let s : Settings = settings_from g.settings in
    let z : SinkState = state_from x in
    record {
      given = g;
      state = x;
      tallies = l;
      reply = sink_reply s x z g.expected g.frame g.out g.port;
      out = sink_out s z g.expected g.frame g.out g.port;
      tallies_then = tallies_numbers (tallies_after s z g.expected g.frame g.out g.port (tallies_from l));
      kept = record { reply = refl; out_buffer = refl; numbers_then = refl };
    }

pub sink_runs : (z : SinkNumbers) (l : List ℕ) (calls : List SinkGiven)
    → (seen : List SinkSeen) × (e : SinkNumbers) × (t : List ℕ) × SinkPassed z seen e × TalliesPassed l seen t × (sink_given seen ≡ calls)
sink_runs z l [] = ([], z, l, refl, refl, refl)
sink_runs z l (g ∷ gs) =
    let y = seen_of g z l in
    let rest = sink_runs y.reply.state y.tallies_then gs in
    (y ∷ rest.0, rest.1, rest.2, (refl, rest.3), (refl, rest.4), ap (λ (k : List SinkGiven). g ∷ k) rest.5)
