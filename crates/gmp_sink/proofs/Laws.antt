-- What an accepted call of the sink knows, and the cases of its definitions. Assumes nothing.
use mathlib.Core.Path.{◌≡◌, refl, sym, ap, ap₂, ◌∙◌, subst⁻¹}
use mathlib.Core.Bool.{Bool, true, false, true≢false, not, cond}
use mathlib.Core.List.{List, [], ◌++◌}
use Prim.Native.Nat.{ℕ, ◌≤◌}
use native.Mathlib.Omega.{arith}
use lib.Dec.{eqb, ltb, lit<}
use lib.ListN.{length, drop}
use borrow.Author.Tests.{eqb-true, eqb-false, ltb-false, not-false, eq-eqb, ne_eqb}
use Rattle.math.specs.Choice.{same_list}
use Rattle.gmp_crc8.specs.declared.CheckedWord.{CheckedWord}
use Rattle.gmp_crc8.specs.declared.CheckedWord.TheVariants.{Whole, Mended, Bad}
use Rattle.gmp_crc8.specs.Check.{passes}
use Rattle.gmp_crc8.specs.Checked.{read_word, checked_word}
use Rattle.gmp_crc8.proofs.Laws.{off_by_check}
use Rattle.gmp_settings.specs.declared.Settings.{Settings}
use Rattle.gmp_refusal.specs.declared.Refusal.{Refusal}
use Rattle.gmp_settings.specs.Grid.{frame_bytes}
use Rattle.refusals.specs.Table.{accepted, refused, answer_by}
use Rattle.gmp_refusal.specs.Refusal.{refusal_number}
use Rattle.gmp_settings.specs.Settings.{Fit, with_type_check, outside}
use Rattle.gmp_settings.specs.Patterns.{bad_patterns}
use Rattle.ports.specs.Port.{bad_port}
use Rattle.refusals.proofs.Laws.{none_applies}
use Rattle.gmp_settings.proofs.Laws.{all_passed, settings_fit, inside_window}
use Rattle.gmp_standing.specs.declared.Count.{Count}
use Rattle.gmp_standing.specs.declared.Count.TheVariants.{Known, Unknown}
use Rattle.gmp_standing.specs.declared.Standing.{Standing}
use Rattle.gmp_standing.specs.Standing.{Finding, finding, BADCHECK, standing_meaning}
use Rattle.gmp_standing.specs.Known.{in_window}
use Rattle.std.specs.Prelude.{Option, Some, None, Ok, Err}
use Rattle.gmp_control.specs.Word.{word_by}
use Rattle.gmp_control.specs.Follow.{usable, reached, windowed_by, windowed, found_by, found}
use Rattle.gmp_control.specs.Pattern.{table_of}
use Rattle.gmp_control.proofs.Named.{never_bad_check}
use Rattle.gmp_frame.specs.declared.Control.{Control}
use Rattle.gmp_frame.specs.Frame.{control_of, psi_of, client_bytes}
use Rattle.gmp_payload_type.specs.declared.Types.{Types}
use Rattle.gmp_payload_type.specs.declared.Expected.{Expected}
use Rattle.gmp_payload_type.specs.Types.{types_after, gate_open}
use Rattle.gmp_payload_type.proofs.Laws.{open_off, types_off}
use Rattle.gmp_sink.specs.declared.SinkState.{SinkState}
use Rattle.gmp_sink.specs.declared.SinkResult.{SinkResult}
use Rattle.gmp_sink.specs.Sink.{new_sink, sink_reasons, sink_refusal, NumbersAscend, handed, released, checked_in, standing_by, standing_after, word_after, state_after, with_types, frame_after, is_mended, mended_in, answer_meaning, sink_answer, sink_state, sink_mended, sink_handed, sink_out, SinkPromise, UncheckedAsBefore, CountsFollowed, AnyPort, OffAsBefore}

pub numbers_ascend : NumbersAscend
unfolding sink_refusal
numbers_ascend s f o p = (refl, refl)

-- What is known of a call that no number turns back. Its port is not among it: nothing that is done
-- then looks at the port.
pub record Accepted (s : Settings) (frameLength outLength : ℕ) : Type 0 where
  pub fit : Fit s
  pub frame : frameLength ≡ frame_bytes s.k
  pub space : s.hi ≤ outLength
  pub patterns : bad_patterns s ≡ false

-- a call that no number turns back, and its port
accepted_all : (s : Settings) (f o p : ℕ) → sink_refusal s f o p ≡ 0 → Accepted s f o × (bad_port p ≡ false)
unfolding sink_refusal
accepted_all s f o p e =
    let all = all_passed s (sink_reasons s f o p) e in
    let eight = none_applies 8 (not (eqb f (frame_bytes s.k))) _ (lit< tt) all.1 in
    let nine = none_applies 9 (ltb o s.hi) _ (lit< tt) eight.1 in
    let ten = none_applies 10 (bad_port p) _ (lit< tt) nine.1 in
    let fourteen = none_applies 14 (bad_patterns s) _ (lit< tt) ten.1 in
    let knows : Accepted s f o = record { fit = settings_fit s all.0; frame = eqb-true _ _ (not-false _ eight.0); space = ltb-false _ _ nine.0; patterns = fourteen.0 } in
    (knows, ten.0)

pub accepted_knows : (s : Settings) (f o p : ℕ) → sink_refusal s f o p ≡ 0 → Accepted s f o
accepted_knows s f o p e = (accepted_all s f o p e).0

pub accepted_port : (s : Settings) (f o p : ℕ) → sink_refusal s f o p ≡ 0 → bad_port p ≡ false
accepted_port s f o p e = (accepted_all s f o p e).1

-- a count that counts is at most hi
pub known_le : (s : Settings) (c : Count) (n : ℕ) → in_window s c ≡ Known n → n ≤ s.hi
unfolding in_window
known_le s (Known m) n e = by (outside s m) refl e
  where
    by : (b : Bool) → outside s m ≡ b → cond b Unknown (Known m) ≡ Known n → n ≤ s.hi
    by true o e' = let z : ◌≡◌ {A = ℕ} 0 1 = cc in absurd (omega arith)
    by false o e' = let d : m ≡ n = cc in omega (arith, inside_window s m o)
known_le s Unknown n e = let z : ◌≡◌ {A = ℕ} 0 1 = cc in absurd (omega arith)

module _ (s : Settings) (z : SinkState) (frame : List ℕ) where
  -- the bytes handed out, by the count that was known
  pub handed_known : (n : ℕ) → in_window s z.count ≡ Known n → handed s z frame ≡ client_bytes s.k n frame
  unfolding handed
  handed_known n e = rw e

  pub handed_none : in_window s z.count ≡ Unknown → handed s z frame ≡ []
  unfolding handed
  handed_none e = rw e

  -- an accepted call, and a refused one: what it answers and mends
  module _ (out : List ℕ) (p : ℕ) where
    pub answer_accepted : sink_refusal s (length frame) (length out) p ≡ 0 → sink_answer s z frame out p ≡ accepted (standing_after s z (control_of s.k frame))
    unfolding sink_answer
    answer_accepted e = simp (eq-eqb _ _ e)

    pub mended_accepted : sink_refusal s (length frame) (length out) p ≡ 0 → sink_mended s frame out p ≡ mended_in s (control_of s.k frame)
    unfolding sink_mended
    mended_accepted e = simp (eq-eqb _ _ e)

    pub answer_refused : (sink_refusal s (length frame) (length out) p ≡ 0 → ⊥) → sink_answer s z frame out p ≡ refused (sink_refusal s (length frame) (length out) p)
    unfolding sink_answer
    answer_refused h = simp (ne_eqb _ _ h)

    pub mended_refused : (sink_refusal s (length frame) (length out) p ≡ 0 → ⊥) → sink_mended s frame out p ≡ false
    unfolding sink_mended
    mended_refused h = simp (ne_eqb _ _ h)

  module _ (w : Expected) where
    -- the gate over them: open, or shut
    pub released_open : gate_open s.type_check z.types w ≡ true → released s z w frame ≡ handed s z frame
    unfolding released
    released_open e = rw e

    pub released_shut : gate_open s.type_check z.types w ≡ false → released s z w frame ≡ []
    unfolding released
    released_shut e = rw e

    -- with the type check off it is open, and the types stay
    pub released_off : s.type_check ≡ false → released s z w frame ≡ handed s z frame
    released_off off = released_open (ap (λ (b : Bool). gate_open b z.types w) off ∙ open_off z.types w)

    pub frame_off : s.type_check ≡ false → frame_after s z w frame ≡ state_after s z (control_of s.k frame)
    unfolding state_after
    frame_off off =
        ap (with_types (state_after s z (control_of s.k frame)))
        (ap (λ (b : Bool). types_after b z.types w (psi_of s.k frame)) off ∙ types_off z.types w (psi_of s.k frame))

    -- an accepted call, and a refused one: the state and what is handed out
    module _ (out : List ℕ) (p : ℕ) where
      pub state_accepted : sink_refusal s (length frame) (length out) p ≡ 0 → sink_state s z w frame out p ≡ frame_after s z w frame
      unfolding sink_state
      state_accepted e = simp (eq-eqb _ _ e)

      pub handed_accepted : sink_refusal s (length frame) (length out) p ≡ 0 → sink_handed s z w frame out p ≡ released s z w frame
      unfolding sink_handed
      handed_accepted e = simp (eq-eqb _ _ e)

      pub out_accepted : sink_refusal s (length frame) (length out) p ≡ 0 → sink_out s z w frame out p ≡ released s z w frame ++ drop (length (released s z w frame)) out
      unfolding sink_out
      out_accepted e = ap (λ (l : List ℕ). l ++ drop (length l) out) (handed_accepted e)

      pub state_refused : (sink_refusal s (length frame) (length out) p ≡ 0 → ⊥) → sink_state s z w frame out p ≡ z
      unfolding sink_state
      state_refused h = simp (ne_eqb _ _ h)

      pub handed_refused : (sink_refusal s (length frame) (length out) p ≡ 0 → ⊥) → sink_handed s z w frame out p ≡ []
      unfolding sink_handed
      handed_refused h = simp (ne_eqb _ _ h)

      pub out_refused : (sink_refusal s (length frame) (length out) p ≡ 0 → ⊥) → sink_out s z w frame out p ≡ out
      unfolding sink_out
      out_refused h = ap (λ (l : List ℕ). l ++ drop (length l) out) (handed_refused h)

      -- a part of the state that a call leaves
      part_of_call : {A : Type 0} (f : SinkState → A)
          → f (sink_state s z w frame out p) ≡ cond (eqb (sink_refusal s (length frame) (length out) p) 0) (f (frame_after s z w frame)) (f z)
      unfolding sink_state
      part_of_call {A} f = by (eqb (sink_refusal s (length frame) (length out) p) 0)
        where
          by : (b : Bool) → f (cond b (frame_after s z w frame) z) ≡ cond b (f (frame_after s z w frame)) (f z)
          by true = refl
          by false = refl

      unchecked_state : s.type_check ≡ false
          → sink_state s z w frame out p ≡ cond (eqb (sink_refusal s (length frame) (length out) p) 0) (state_after s z (control_of s.k frame)) z
      unfolding sink_state
      unchecked_state off = ap (λ (x : SinkState). cond (eqb (sink_refusal s (length frame) (length out) p) 0) x z) (frame_off off)

      unchecked_handed : s.type_check ≡ false
          → sink_handed s z w frame out p ≡ cond (eqb (sink_refusal s (length frame) (length out) p) 0) (handed s z frame) []
      unfolding sink_handed
      unchecked_handed off = ap (λ (l : List ℕ). cond (eqb (sink_refusal s (length frame) (length out) p) 0) l []) (released_off off)

      same_types : (b : Bool) → (cond b (state_after s z (control_of s.k frame)) z).types ≡ z.types
      unfolding state_after
      same_types true = refl
      same_types false = refl

pub unchecked_as_before : UncheckedAsBefore
unchecked_as_before =
    record {
      state = λ s z w frame out p off. unchecked_state s z frame w out p off;
      types = λ s z w frame out p off. ap (λ (x : SinkState). x.types) (unchecked_state s z frame w out p off) ∙ same_types s z frame w out p (eqb (sink_refusal s (length frame) (length out) p) 0);
      handed_bytes = λ s z w frame out p off. unchecked_handed s z frame w out p off;
    }

module _ (s : Settings) (z : SinkState) (c : Control) (r : CheckedWord) (e : checked_in s c ≡ r) where
  -- control bytes lead where what they read as leads
  pub standing_read : standing_after s z c ≡ standing_by s z r
  unfolding standing_after
  standing_read = ap (standing_by s z) e

  pub word_read : (state_after s z c).word ≡ word_after r
  unfolding state_after
  word_read = ap word_after e

  pub mended_read : mended_in s c ≡ is_mended r
  unfolding mended_in
  mended_read = ap is_mended e

module _ (s : Settings) (z : SinkState) (c : Control) where
  -- the new count is what was found
  pub count_after_lem : (state_after s z c).count ≡ (standing_after s z c).count
  unfolding state_after
  count_after_lem = refl

-- a state by its three parts
pub state_of_parts : (count : Count) (word : Option ℕ) (types : Types) (x : SinkState) → count ≡ x.count → word ≡ x.word → types ≡ x.types
    → record { count = count; word = word; types = types } ≡ x
state_of_parts count word types x e f g =
    ap₂ (λ (c : Count) (w : Option ℕ). record { count = c; word = w; types = types }) e f ∙ ap (with_types x) g

-- A call that no number turns back is not refused, and its standing is what the control bytes lead
-- to.
module _ {s : Settings} {z : SinkState} {w : Expected} {frame out : List ℕ} {port : ℕ} (none : sink_refusal s (length frame) (length out) port ≡ 0) {r : SinkResult}
    {after : List ℕ} (p : SinkPromise s z w frame out port r after) where
  answered : answer_meaning r.answer ≡ accepted (standing_after s z (control_of s.k frame))
  answered = p.answer ∙ answer_accepted s z frame out port none

  pub never_refused : (x : Refusal) → r.answer ≡ Err x → ⊥
  never_refused x e =
      let o : refused (refusal_number x) ≡ accepted (standing_after s z (control_of s.k frame)) = sym (ap answer_meaning e) ∙ answered in
      let zero : ◌≡◌ {A = ℕ} 0 1 = cc in
      omega arith

  pub done_says : (x : Standing) → r.answer ≡ Ok x → standing_meaning x ≡ standing_after s z (control_of s.k frame)
  done_says x e =
      let o : accepted (standing_meaning x) ≡ accepted (standing_after s z (control_of s.k frame)) = sym (ap answer_meaning e) ∙ answered in
      cc

-- A call that mended a bit was accepted, and has another standing than BADCHECK.
module _ (s : Settings) (z : SinkState) where
  other_by : (r : CheckedWord) → is_mended r ≡ true → same_list (standing_by s z r).name BADCHECK ≡ false
  other_by (Whole w) e = absurd (true≢false (sym e))
  other_by (Mended w) e = never_bad_check (table_of s) s z.count z.word (word_by w.jc1 w.jc2)
  other_by Bad e = absurd (true≢false (sym e))

  module _ (frame out : List ℕ) (p : ℕ) (m : sink_mended s frame out p ≡ true) where
    mended_by : (b : Bool) → eqb (sink_refusal s (length frame) (length out) p) 0 ≡ b → sink_refusal s (length frame) (length out) p ≡ 0
    mended_by true e = eqb-true _ 0 e
    mended_by false e = absurd (true≢false (sym m ∙ mended_refused s z frame out p (eqb-false _ 0 e)))

    pub mended_answers : (f : Finding) × (sink_answer s z frame out p ≡ accepted f) × (same_list f.name BADCHECK ≡ false)
    mended_answers =
        let none = mended_by _ refl in
        let c = control_of s.k frame in
        let r = checked_in s c in (
          standing_after s z c,
          answer_accepted s z frame out p none,
          ap (λ (f : Finding). same_list f.name BADCHECK) (standing_read s z c r refl)
              ∙ other_by r (sym (mended_read s z c r refl) ∙ sym (mended_accepted s z frame out p none) ∙ m),
        )

-- The port is looked at by number 10 alone.
module _ (s : Settings) (p q : ℕ) (e : bad_port p ≡ bad_port q) where
  any_refusal : (f o : ℕ) → sink_refusal s f o p ≡ sink_refusal s f o q
  unfolding sink_refusal
  any_refusal f o = rw e

  any_mended : (frame out : List ℕ) → sink_mended s frame out p ≡ sink_mended s frame out q
  unfolding sink_mended
  any_mended frame out = rw (any_refusal (length frame) (length out))

  module _ (z : SinkState) (frame out : List ℕ) where
    any_answer : sink_answer s z frame out p ≡ sink_answer s z frame out q
    unfolding sink_answer
    any_answer = rw (any_refusal (length frame) (length out))

    module _ (w : Expected) where
      any_state : sink_state s z w frame out p ≡ sink_state s z w frame out q
      unfolding sink_state
      any_state = rw (any_refusal (length frame) (length out))

      any_handed : sink_handed s z w frame out p ≡ sink_handed s z w frame out q
      unfolding sink_handed
      any_handed = rw (any_refusal (length frame) (length out))

      any_out : sink_out s z w frame out p ≡ sink_out s z w frame out q
      unfolding sink_out
      any_out = ap (λ (l : List ℕ). l ++ drop (length l) out) any_handed

pub any_port : AnyPort
any_port =
    record {
      refusal = λ s f o p q e. any_refusal s p q e f o;
      answer = λ s z frame out p q e. any_answer s p q e z frame out;
      state = λ s z w frame out p q e. any_state s p q e z frame out w;
      mended = λ s frame out p q e. any_mended s p q e frame out;
      handed_bytes = λ s z w frame out p q e. any_handed s p q e z frame out w;
      out_buffer = λ s z w frame out p q e. any_out s p q e z frame out w;
    }

-- The type check is not looked at where a count is followed.
module _ (s : Settings) (b : Bool) where
  unchecked_window : (c : Count) → in_window (with_type_check s b) c ≡ in_window s c
  unfolding in_window outside
  unchecked_window (Known n) = refl
  unchecked_window Unknown = refl

  unchecked_windowed : (f : Finding) (c : Count) → windowed_by (with_type_check s b) f c ≡ windowed_by s f c
  unfolding outside
  unchecked_windowed f (Known n) = refl
  unchecked_windowed f Unknown = refl

  unchecked_found : (c : Count) (before : Option ℕ) (w : ℕ) → found (with_type_check s b) c before w ≡ found s c before w
  unfolding found_by table_of
  unchecked_found c before w =
      let f : Finding = reached (table_of s) (in_window s c) (usable before) w in
      ap (λ (k : Count). windowed (with_type_check s b) (reached (table_of s) k (usable before) w)) (unchecked_window c) ∙ unchecked_windowed f f.count

  module _ (z : SinkState) (t : Types) where
    followed_by : (r : CheckedWord) → standing_by (with_type_check s b) (with_types z t) r ≡ standing_by s z r
    followed_by (Whole w) = unchecked_found z.count z.word (word_by w.jc1 w.jc2)
    followed_by (Mended w) = unchecked_found z.count z.word (word_by w.jc1 w.jc2)
    followed_by Bad = refl

    followed_standing : (c : Control) → standing_after (with_type_check s b) (with_types z t) c ≡ standing_after s z c
    unfolding standing_after
    followed_standing c = followed_by (checked_in s c)

  followed_refusal : (f o p : ℕ) → sink_refusal (with_type_check s b) f o p ≡ sink_refusal s f o p
  unfolding sink_refusal
  followed_refusal f o p = refl

  followed_mended : (frame out : List ℕ) (p : ℕ) → sink_mended (with_type_check s b) frame out p ≡ sink_mended s frame out p
  unfolding sink_mended mended_in
  followed_mended frame out p = ap (λ (n : ℕ). cond (eqb n 0) (mended_in s (control_of s.k frame)) false) (followed_refusal (length frame) (length out) p)

  module _ (z : SinkState) (t : Types) (frame out : List ℕ) (p : ℕ) where
    followed_answer : sink_answer (with_type_check s b) (with_types z t) frame out p ≡ sink_answer s z frame out p
    unfolding sink_answer
    followed_answer = ap₂ answer_by (followed_refusal (length frame) (length out) p) (followed_standing z t (control_of s.k frame))

    -- a part of the state is that without the types, where the part after the frame is
    followed_part : {A : Type 0} (f : SinkState → A) (w v : Expected) → f (with_types z t) ≡ f z
        → f (frame_after (with_type_check s b) (with_types z t) w frame) ≡ f (frame_after s z v frame)
        → f (sink_state (with_type_check s b) (with_types z t) w frame out p) ≡ f (sink_state s z v frame out p)
    followed_part {A} f w v before after =
        part_of_call (with_type_check s b) (with_types z t) frame w out p f
        ∙ ap (λ (n : ℕ). cond (eqb n 0) (f (frame_after (with_type_check s b) (with_types z t) w frame)) (f (with_types z t))) (followed_refusal (length frame) (length out) p)
        ∙ ap₂ (cond (eqb (sink_refusal s (length frame) (length out) p) 0)) after before
        ∙ sym (part_of_call s z frame v out p f)

    followed_count : (w v : Expected) → (sink_state (with_type_check s b) (with_types z t) w frame out p).count ≡ (sink_state s z v frame out p).count
    unfolding state_after
    followed_count w v = followed_part (λ (q : SinkState). q.count) w v refl (ap (λ (f : Finding). f.count) (followed_standing z t (control_of s.k frame)))

    followed_word : (w v : Expected) → (sink_state (with_type_check s b) (with_types z t) w frame out p).word ≡ (sink_state s z v frame out p).word
    unfolding state_after
    followed_word w v = followed_part (λ (q : SinkState). q.word) w v refl refl

pub counts_followed : CountsFollowed
counts_followed =
    record {
      refusal = followed_refusal;
      answer = followed_answer;
      mended = followed_mended;
      count = λ s b z t w v frame out p. followed_count s b z t frame out p w v;
      word = λ s b z t w v frame out p. followed_word s b z t frame out p w v;
    }

-- With mending off a reading goes by the check alone.
off_reading : (P : CheckedWord → Type 0) (s : Settings) (c : Control) → s.mending ≡ false → (passes c.jc1 c.jc2 c.jc3 ≡ true → P (Whole (read_word c.jc1 c.jc2)))
    → (passes c.jc1 c.jc2 c.jc3 ≡ false → P Bad) → P (checked_in s c)
off_reading P s c off whole bad =
    subst⁻¹ (λ (b : Bool). P (checked_word b c.jc1 c.jc2 c.jc3)) off (off_by_check P c.jc1 c.jc2 c.jc3 whole bad)

pub off_as_before : OffAsBefore
off_as_before =
    record {
      standing = λ s z c off. standing_read s z c (checked_in s c) refl
          ∙ off_reading (λ (r : CheckedWord). standing_by s z r ≡ cond (passes c.jc1 c.jc2 c.jc3) (found s z.count z.word (word_by c.jc1 c.jc2)) (finding BADCHECK Unknown))
          s c off (λ e. rw e) (λ e. rw e);
      word = λ s z c off. word_read s z c (checked_in s c) refl
          ∙ off_reading (λ (r : CheckedWord). word_after r ≡ cond (passes c.jc1 c.jc2 c.jc3) (usable (Some (word_by c.jc1 c.jc2))) None)
          s c off (λ e. rw e) (λ e. rw e);
      none_mended = λ s c off. mended_read s new_sink c (checked_in s c) refl ∙ off_reading (λ (r : CheckedWord). is_mended r ≡ false) s c off (λ e. refl) (λ e. refl);
    }
