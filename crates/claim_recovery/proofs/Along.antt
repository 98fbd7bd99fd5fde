-- Along a source run: a sink that holds the true count keeps it and delivers each frame that the
-- payload type lets pass; two frames bring any sink to it; no frame with few wrong control bits
-- makes it false. A frame goes for the one that was written where it is unharmed, and where one
-- wrong control bit is mended. Assumes nothing.
use mathlib.Core.Path.{◌≡◌, refl, sym, ap, ◌∙◌, subst, subst⁻¹}
use mathlib.Core.Logic.{◌⊎◌, inl, inr, ⊎_elim}
use mathlib.Core.Bool.{Bool, true, false, not, cond}
use mathlib.Core.List.{List, [], ◌∷◌, ◌++◌}
use Prim.Native.Nat.{ℕ, zero, suc, ◌+◌, ◌*◌, ◌≤◌, ◌<◌}
use native.Mathlib.Omega.{arith}
use lib.Dec.{eqb, lit<}
use lib.ListN.{length, drop, get_or}
use Rattle.gmp_crc8.specs.declared.WordBytes.{WordBytes}
use Rattle.gmp_crc8.specs.declared.CheckedWord.{CheckedWord}
use Rattle.gmp_crc8.specs.declared.CheckedWord.TheVariants.{Whole, Mended, Bad}
use Rattle.gmp_crc8.specs.Checked.{read_word, checked_word}
use Rattle.gmp_crc8.specs.Claims.{budget, IsOrBad}
use Rattle.gmp_crc8.proofs.Laws.{passed_whole, reads_as_itself, mends_one_bit}
use Rattle.gmp_settings.specs.declared.Settings.{Settings}
use Rattle.refusals.specs.Table.{accepted}
use Rattle.gmp_settings.specs.Grid.{frame_bytes}
use Rattle.gmp_settings.specs.Settings.{outside}
use Rattle.gmp_standing.specs.declared.Count.{Count}
use Rattle.gmp_standing.specs.declared.Count.TheVariants.{Known}
use Rattle.gmp_standing.specs.Standing.{Finding, finding, READ, TRACKED}
use Rattle.gmp_standing.specs.Known.{in_window}
use Rattle.std.specs.Prelude.{Option, Some, None}
use Rattle.gmp_control.specs.Word.{equal_indicators, word_by}
use Rattle.gmp_control.specs.Pattern.{table_of}
use Rattle.gmp_control.specs.Announce.{announced}
use Rattle.gmp_control.specs.Follow.{usable, found}
use Rattle.gmp_control.proofs.Tables.{rule_of}
use Rattle.gmp_control.proofs.Reached.{NoneOr}
use Rattle.gmp_control.proofs.Laws.{in_window_known, Safe, safe_none, follows_true_count, recovers_in_two, stays_safe}
use Rattle.gmp_frame.specs.declared.Control.{Control}
use Rattle.gmp_frame.specs.Frame.{control_of, psi_of, client_bytes}
use Rattle.gmp_frame.proofs.Laws.{others_client, others_psi}
use Rattle.gmp_payload_type.specs.Types.{gate_open}
use Rattle.gmp_source.specs.Source.{control_bytes, written}
use Rattle.gmp_source.proofs.Laws as source
use Rattle.gmp_sink.specs.declared.SinkState.{SinkState}
use Rattle.gmp_sink.specs.Sink.{new_sink, handed, released, checked_in, standing_by, standing_after, word_after, state_after, is_mended, mended_in}
use Rattle.gmp_sink.proofs.Laws as sink
use Rattle.claim_recovery.specs.Runs.{Bytes, SourceStep, SinkStep, sink_after, frame_of, load_of, count_of, answer_of, mended_of, handed_of}
use Rattle.claim_recovery.specs.Demand.{Unharmed, wrong_control_bits, AtMostWrong, equal_frame, Hands}
use Rattle.claim_recovery.specs.Mended.{OneWrong}
use Rattle.claim_recovery.proofs.Lists.{Each}
use Rattle.claim_recovery.proofs.Threads.{Link, Chain, Told, followed, Thread}

-- An accepted source call, with the settings of all and the count that it began with.
module _ (s : Settings) (old : ℕ) (x : SourceStep) (link : Link s old x) where
  knows : source.Accepted s x.state (count_of x) (length (load_of x)) (length x.call.buffer)
  knows =
      subst (λ (u : Settings). source.Accepted u x.state (count_of x) (length (load_of x)) (length x.call.buffer)) link.settings
      (source.accepted_knows x.call.settings x.state (count_of x) (length (load_of x)) (length x.call.buffer) link.taken)

  old_inside : outside s old ≡ false
  old_inside = subst (λ (n : ℕ). outside s n ≡ false) link.from knows.present_inside

  next_inside : outside s (count_of x) ≡ false
  next_inside = knows.next_inside

  -- frame n is what the definition writes
  pub frame_is : frame_of x ≡ written s x.state (count_of x) (load_of x)
  frame_is =
      source.frame_accepted x.call.settings x.state (count_of x) (load_of x) x.call.buffer link.taken
      ∙ ap (λ (u : Settings). written u x.state (count_of x) (load_of x)) link.settings

  -- and its control bytes announce count n
  control_is : control_of s.k (frame_of x) ≡ control_bytes s old (count_of x)
  control_is =
      ap (control_of s.k) frame_is ∙ source.control_of_written s x.state (count_of x) (load_of x)
      ∙ ap (λ (n : ℕ). control_bytes s n (count_of x)) link.from

  equal_is : equal_frame x ≡ equal_indicators (announced (table_of s) old (count_of x))
  equal_is =
      ap (λ (u : Settings). let c = control_of u.k (frame_of x) in equal_indicators (word_by c.jc1 c.jc2)) link.settings
      ∙ ap (λ (c : Control). equal_indicators (word_by c.jc1 c.jc2)) control_is
      ∙ ap equal_indicators (source.control_word s old (count_of x))

-- What the written control bytes do to a sink in any state: they read as whole.
module _ (s : Settings) (old next : ℕ) where
  abbrev writtenWord : WordBytes
  writtenWord = let c = control_bytes s old next in read_word c.jc1 c.jc2

  whole_written : checked_in s (control_bytes s old next) ≡ Whole writtenWord
  whole_written = let c = control_bytes s old next in passed_whole s.mending c.jc1 c.jc2 c.jc3 (source.control_passes s old next)

  standing_written : (z : SinkState) → standing_after s z (control_bytes s old next) ≡ found s z.count z.word (announced (table_of s) old next)
  standing_written z =
      sink.standing_read s z (control_bytes s old next) (Whole writtenWord) whole_written ∙ ap (found s z.count z.word) (source.control_word s old next)

  word_written : (z : SinkState) → (state_after s z (control_bytes s old next)).word ≡ usable (Some (announced (table_of s) old next))
  word_written z =
      sink.word_read s z (control_bytes s old next) (Whole writtenWord) whole_written ∙ ap (λ (w : ℕ). usable (Some w)) (source.control_word s old next)

-- A frame that leads a sink where the written one does,
pub record SameWord (s : Settings) (x : SourceStep) (y : SinkStep) : Type 0 where
  pub standing : (z : SinkState) → standing_after s z (control_of s.k y.call.frame) ≡ standing_after s z (control_of s.k (frame_of x))
  pub word : (z : SinkState) → (followed s z y).word ≡ (state_after s z (control_of s.k (frame_of x))).word

-- and has its client bytes and its PSI byte.
pub record AsWritten (s : Settings) (x : SourceStep) (y : SinkStep) : Type 0 where
  pub leads : SameWord s x y
  pub client : (n : ℕ) → client_bytes s.k n y.call.frame ≡ client_bytes s.k n (frame_of x)
  pub psi : psi_of s.k y.call.frame ≡ psi_of s.k (frame_of x)

-- An unharmed frame is one.
pub unharmed : (s : Settings) (x : SourceStep) (y : SinkStep) → Unharmed x y → AsWritten s x y
unharmed s x y e =
    record {
      leads =
          record {
            standing = λ z. ap (λ (f : List ℕ). standing_after s z (control_of s.k f)) e;
            word = λ z. ap (λ (f : List ℕ). (state_after s z (control_of s.k f)).word) e;
          };
      client = λ n. ap (client_bytes s.k n) e;
      psi = ap (psi_of s.k) e;
    }

-- Where such a frame leads a sink in any state.
module _ (s : Settings) (old : ℕ) (x : SourceStep) (y : SinkStep) (link : Link s old x) (same : SameWord s x y) (z : SinkState) where
  lent_standing : standing_after s z (control_of s.k y.call.frame) ≡ found s z.count z.word (announced (table_of s) old (count_of x))
  lent_standing = same.standing z ∙ ap (standing_after s z) (control_is s old x link) ∙ standing_written s old (count_of x) z

  lent_count : (followed s z y).count ≡ (found s z.count z.word (announced (table_of s) old (count_of x))).count
  lent_count = sink.count_after_lem s z (control_of s.k y.call.frame) ∙ ap (λ (f : Finding). f.count) lent_standing

  lent_word : (followed s z y).word ≡ usable (Some (announced (table_of s) old (count_of x)))
  lent_word = same.word z ∙ ap (λ (c : Control). (state_after s z c).word) (control_is s old x link) ∙ word_written s old (count_of x) z

-- A frame at a sink with the true count: the answer, and its load where the gate of the payload
-- type is open, and nothing where it is shut.
pub record Kept (s : Settings) (x : SourceStep) (y : SinkStep) : Type 0 where
  pub answers : answer_of y ≡ accepted (finding (cond (equal_frame x) READ TRACKED) (Known (count_of x)))
  pub opened : gate_open s.type_check y.state.types y.call.expected ≡ true → Hands (load_of x) y
  pub closed : gate_open s.type_check y.state.types y.call.expected ≡ false → Hands [] y

-- what an accepted call hands out, and where
module _ (s : Settings) (z : SinkState) (y : SinkStep) (told : Told s z y) where
  handed_is : handed_of y ≡ released s z y.call.expected y.call.frame
  handed_is =
      sink.handed_accepted y.call.settings y.state y.call.frame y.call.expected y.call.out y.call.port told.taken
      ∙ ap (λ (u : Settings). released u y.state y.call.expected y.call.frame) told.settings
      ∙ ap (λ (q : SinkState). released s q y.call.expected y.call.frame) told.from

  hands : (bytes : List ℕ) → handed_of y ≡ bytes → Hands bytes y
  hands bytes e =
      record {
        handed = e;
        buffer = sink.out_accepted y.call.settings y.state y.call.frame y.call.expected y.call.out y.call.port told.taken
            ∙ ap (λ (l : List ℕ). l ++ drop (length l) y.call.out)
            (sym (sink.handed_accepted y.call.settings y.state y.call.frame y.call.expected y.call.out y.call.port told.taken) ∙ e);
      }

-- One frame, lent so to a sink that holds the true count.
module _ (s : Settings) (old : ℕ) (x : SourceStep) (z : SinkState) (y : SinkStep) (link : Link s old x) (told : Told s z y) (whole : AsWritten s x y) (held : z.count ≡ Known old) where
  step_standing : standing_after s z (control_of s.k y.call.frame)
      ≡ finding (cond (equal_indicators (announced (table_of s) old (count_of x))) READ TRACKED) (Known (count_of x))
  step_standing =
      lent_standing s old x y link whole.leads z
      ∙ ap (λ (c : Count). found s c z.word (announced (table_of s) old (count_of x))) held
      ∙ follows_true_count (table_of s) (rule_of s (knows s old x link).patterns) s (knows s old x link).fit old (count_of x) z.word (old_inside s old x link) (next_inside s old x link)

  step_count : (followed s z y).count ≡ Known (count_of x)
  step_count = sink.count_after_lem s z (control_of s.k y.call.frame) ∙ ap (λ (f : Finding). f.count) step_standing

  step_holds : (sink_after y).count ≡ Known (count_of x)
  step_holds =
      ap (λ (q : SinkState). q.count)
      (sink.state_accepted y.call.settings y.state y.call.frame y.call.expected y.call.out y.call.port told.taken
      ∙ ap (λ (u : Settings). followed u y.state y) told.settings
      ∙ ap (λ (q : SinkState). followed s q y) told.from)
      ∙ step_count

  step_load : handed s z y.call.frame ≡ load_of x
  step_load =
      let a = knows s old x link in
      let n : length (load_of x) ≡ old = a.client ∙ link.from in
      sink.handed_known s z y.call.frame old (ap (in_window s) held ∙ in_window_known s old (old_inside s old x link))
      ∙ whole.client old ∙ ap (client_bytes s.k old) (frame_is s old x link)
      ∙ ap (λ (c : ℕ). client_bytes s.k c (written s x.state (count_of x) (load_of x))) (sym n)
      ∙ source.client_of_written s x.state (count_of x) (load_of x)
      (source.client_fits s x.state (count_of x) (length (load_of x)) (length x.call.buffer) a)

  step_kept : Kept s x y
  step_kept =
      let gate = ap (λ (q : SinkState). gate_open s.type_check q.types y.call.expected) told.from in
      record {
        answers = sink.answer_accepted y.call.settings y.state y.call.frame y.call.out y.call.port told.taken
            ∙ ap (λ (u : Settings). accepted (standing_after u y.state (control_of u.k y.call.frame))) told.settings
            ∙ ap (λ (q : SinkState). accepted (standing_after s q (control_of s.k y.call.frame))) told.from
            ∙ ap accepted step_standing
            ∙ ap (λ (b : Bool). accepted (finding (cond b READ TRACKED) (Known (count_of x)))) (sym (equal_is s old x link));
        opened = λ o. hands s z y told (load_of x) (handed_is s z y told ∙ sink.released_open s z y.call.frame y.call.expected (sym gate ∙ o) ∙ step_load);
        closed = λ o. hands s z y told [] (handed_is s z y told ∙ sink.released_shut s z y.call.frame y.call.expected (sym gate ∙ o));
      }

-- the count of the last frame read
abbrev pub count_after : ℕ → List SourceStep → List SinkStep → ℕ
count_after old xs [] = old
count_after old [] (y ∷ ys) = old
count_after old (x ∷ xs) (y ∷ ys) = count_after (count_of x) xs ys

-- what comes of a frame that goes for the written one: it is kept, and its count is held
abbrev pub Went : Settings → (SourceStep → SinkStep → Type 0) → SourceStep → SinkStep → Type 0
Went s Lent x y = Kept s x y × ((sink_after y).count ≡ Known (count_of x)) × Lent x y

-- A sink with the true count, over any number of frames that go for the written ones.
module _ (s : Settings) (Lent : SourceStep → SinkStep → Type 0) (goes : (x : SourceStep) (y : SinkStep) → Lent x y → AsWritten s x y) where
  pub in_step : (old : ℕ) (xs : List SourceStep) (z : SinkState) (ys : List SinkStep) (end : SinkState) → Chain s old xs → Thread s z ys end → Each Lent xs ys
      → z.count ≡ Known old → (end.count ≡ Known (count_after old xs ys)) × Each (Went s Lent) xs ys
  in_step old xs z [] end c h r held = (ap (λ (q : SinkState). q.count) h ∙ held, tt)
  in_step old [] z (y ∷ ys) end c h r held = absurd r
  in_step old (x ∷ xs) z (y ∷ ys) end c h r held =
      let a = goes x y r.0 in
      let later = in_step (count_of x) xs (followed s z y) ys end c.1 h.1 r.1 (step_count s old x z y c.0 h.0 a held) in
      (later.0, ((step_kept s old x z y c.0 h.0 a held, step_holds s old x z y c.0 h.0 a held, r.0), later.1))

  -- Two frames bring a sink in any state to the true count.
  two_frames : (old : ℕ) (x x₂ : SourceStep) (z : SinkState) (y y₂ : SinkStep) → Link s old x → Link s (count_of x) x₂ → SameWord s x y → SameWord s x₂ y₂
      → (followed s (followed s z y) y₂).count ≡ Known (count_of x₂)
  two_frames old x x₂ z y y₂ a b e e₂ =
      let t = table_of s in
      lent_count s (count_of x) x₂ y₂ b e₂ (followed s z y)
      ∙ ap (λ (n : Count). (found s n (followed s z y).word (announced t (count_of x) (count_of x₂))).count) (lent_count s old x y a e z)
      ∙ ap (λ (r : Option ℕ). (found s (found s z.count z.word (announced t old (count_of x))).count r (announced t (count_of x) (count_of x₂))).count)
      (lent_word s old x y a e z)
      ∙ recovers_in_two t (rule_of s (knows s old x a).patterns) s (knows s old x a).fit old (count_of x) (count_of x₂) z.count z.word
      (old_inside s old x a) (next_inside s old x a) (next_inside s (count_of x) x₂ b)

  -- A sink in any state, over two frames or more: it holds the count of the last, and delivers each
  -- frame after the first two.
  pub recovers : (old : ℕ) (xs : List SourceStep) (z : SinkState) (ys : List SinkStep) (end : SinkState) → Chain s old xs → Thread s z ys end → Each Lent xs ys
      → 2 ≤ length ys → (end.count ≡ Known (count_after old xs ys)) × Each (Went s Lent) (drop 2 xs) (drop 2 ys)
  recovers old xs z [] end c h r l = absurd (omega arith)
  recovers old xs z (y ∷ []) end c h r l = absurd (omega arith)
  recovers old [] z (y ∷ y₂ ∷ ys) end c h r l = absurd r
  recovers old (x ∷ []) z (y ∷ y₂ ∷ ys) end c h r l = absurd r.1
  recovers old (x ∷ x₂ ∷ xs) z (y ∷ y₂ ∷ ys) end c h r l =
      in_step (count_of x₂) xs (followed s (followed s z y) y₂) ys end c.1.1 h.1.1 r.1.1
      (two_frames old x x₂ z y y₂ c.0 c.1.0 (goes x y r.0).leads (goes x₂ y₂ r.1.0).leads)

-- a lent byte is below 256
byte_at : (l : List ℕ) → Bytes l → (i : ℕ) → get_or l i 0 < 256
byte_at [] h i = lit< tt
byte_at (b ∷ l) h zero = h.0
byte_at (b ∷ l) h (suc i) = byte_at l h.1 i

control_lt : (k : ℕ) (l : List ℕ) → Bytes l → ((control_of k l).jc1 < 256) × ((control_of k l).jc2 < 256) × ((control_of k l).jc3 < 256)
unfolding control_of
control_lt k l h = (byte_at l h 1, byte_at l h (k + 3), byte_at l h (2 * k + 5))

-- What the written control bytes read as after some wrong bits, where that is their own word,
-- whole or mended, or bad.
module _ (s : Settings) (old : ℕ) (x : SourceStep) (y : SinkStep) (link : Link s old x) where
  abbrev lent : Control
  lent = control_of s.k y.call.frame

  -- the wrong bits, counted from what was to be written
  wrong_is : wrong_control_bits (control_of s.k (frame_of x)) lent ≡ wrong_control_bits (control_bytes s old (count_of x)) lent
  wrong_is = ap (λ (c : Control). wrong_control_bits c lent) (control_is s old x link)

  -- a reading that leads where the written word does
  as_word : (r : CheckedWord) → checked_in s lent ≡ r → ((z : SinkState) → standing_by s z r ≡ standing_by s z (Whole (writtenWord s old (count_of x))))
      → word_after r ≡ word_after (Whole (writtenWord s old (count_of x))) → SameWord s x y
  as_word r e f g =
      let c = control_bytes s old (count_of x) in
      let whole = whole_written s old (count_of x) in
      record {
        standing = λ z. sink.standing_read s z lent r e ∙ f z
            ∙ sym (ap (standing_after s z) (control_is s old x link) ∙ sink.standing_read s z c (Whole (writtenWord s old (count_of x))) whole);
        word = λ z. sink.word_read s z lent r e ∙ g
            ∙ sym (ap (λ (q : Control). (state_after s z q).word) (control_is s old x link) ∙ sink.word_read s z c (Whole (writtenWord s old (count_of x))) whole);
      }

  itself : (r : CheckedWord) → checked_in s lent ≡ r → (let c = control_bytes s old (count_of x) in IsOrBad c.jc1 c.jc2 r) → (checked_in s lent ≡ Bad) ⊎ SameWord s x y
  itself (Whole w) e h = inr (as_word (Whole w) e (λ z. ap (λ (v : WordBytes). standing_by s z (Whole v)) h) (ap (λ (v : WordBytes). word_after (Whole v)) h))
  itself (Mended w) e h = inr (as_word (Mended w) e (λ z. ap (λ (v : WordBytes). standing_by s z (Mended v)) h) (ap (λ (v : WordBytes). word_after (Mended v)) h))
  itself Bad e h = inl e

  -- A frame with at most the budget's wrong control bits is bad or leads where the written one
  -- does.
  few_wrong : (mending : Bool) → s.mending ≡ mending → AtMostWrong (budget mending) s x y → (checked_in s lent ≡ Bad) ⊎ SameWord s x y
  few_wrong mending m h =
      let c = control_bytes s old (count_of x) in
      itself (checked_in s lent) refl
      (subst (λ (b : Bool). IsOrBad c.jc1 c.jc2 (checked_word b lent.jc1 lent.jc2 lent.jc3)) (sym m)
      (reads_as_itself mending c.jc1 c.jc2 c.jc3 lent.jc1 lent.jc2 lent.jc3 (source.control_bytes_lt s old (count_of x))
      (control_lt s.k y.call.frame y.call.bytes) (source.control_passes s old (count_of x)) (subst (λ (n : ℕ). n ≤ budget mending) wrong_is h)))

-- never false, as a sink's state
abbrev SafeState : Settings → ℕ → ℕ → SinkState → Type 0
SafeState s old count z = Safe (table_of s) old count z.count z.word

safe_by : (s : Settings) (before old : ℕ) (x : SourceStep) (z : SinkState) (y : SinkStep) → Link s old x
    → outside s before ≡ false → SafeState s before old z → (checked_in s (control_of s.k y.call.frame) ≡ Bad) ⊎ SameWord s x y
    → SafeState s old (count_of x) (followed s z y)
safe_by s before old x z y link in-window-before safe (inr same) =
    let t = table_of s in
    subst⁻¹ (λ (r : Option ℕ). Safe t old (count_of x) (followed s z y).count r) (lent_word s old x y link same z)
    (subst⁻¹ (λ (n : Count). Safe t old (count_of x) n (usable (Some (announced t old (count_of x))))) (lent_count s old x y link same z)
    (stays_safe t (rule_of s (knows s old x link).patterns) s (knows s old x link).fit before old (count_of x) z.count z.word in-window-before (old_inside s old x link)
    (next_inside s old x link) safe))
safe_by s before old x z y link in-window-before safe (inl bad) =
    let t = table_of s in
    let c = control_of s.k y.call.frame in
    subst⁻¹ (λ (r : Option ℕ). Safe t old (count_of x) (followed s z y).count r) (sink.word_read s z c Bad bad)
    (subst⁻¹ (λ (n : Count). Safe t old (count_of x) n None)
    (sink.count_after_lem s z c ∙ ap (λ (f : Finding). f.count) (sink.standing_read s z c Bad bad)) (safe_none t old (count_of x)))

module _ (s : Settings) (mending : Bool) (m : s.mending ≡ mending) where
  safe_along : (before old : ℕ) (xs : List SourceStep) (z : SinkState) (ys : List SinkStep) (end : SinkState) → Chain s old xs → Thread s z ys end
      → Each (AtMostWrong (budget mending) s) xs ys → outside s before ≡ false → SafeState s before old z → NoneOr (λ (n : ℕ). n ≡ count_after old xs ys) end.count
  safe_along before old xs z [] end c h r in-window-before safe = subst (λ (q : SinkState). NoneOr (λ (n : ℕ). n ≡ old) q.count) (sym h) safe.count_true
  safe_along before old [] z (y ∷ ys) end c h r in-window-before safe = absurd r
  safe_along before old (x ∷ xs) z (y ∷ ys) end c h r in-window-before safe =
      safe_along old (count_of x) xs (followed s z y) ys end c.1 h.1 r.1 (old_inside s old x c.0)
      (safe_by s before old x z y c.0 in-window-before safe (few_wrong s old x y c.0 mending m r.0))

  -- A new sink over any number of frames with few wrong control bits: its count is none, or that of
  -- the last frame.
  pub never_false : (old : ℕ) (xs : List SourceStep) (ys : List SinkStep) (end : SinkState) → Chain s old xs → Thread s new_sink ys end
      → Each (AtMostWrong (budget mending) s) xs ys → NoneOr (λ (n : ℕ). n ≡ count_after old xs ys) end.count
  never_false old xs [] end c h r = subst (λ (q : SinkState). NoneOr (λ (n : ℕ). n ≡ old) q.count) (sym h) tt
  never_false old [] (y ∷ ys) end c h r = absurd r
  never_false old (x ∷ xs) (y ∷ ys) end c h r =
      safe_along old old (x ∷ xs) new_sink (y ∷ ys) end c h r (old_inside s old x c.0) (safe_none (table_of s) old old)

-- One wrong control bit at most, with mending on: the frame goes for the written one, and is told
-- as mended where a bit was wrong.
pub record Good (s : Settings) (x : SourceStep) (y : SinkStep) : Type 0 where
  pub goes : AsWritten s x y
  pub told : mended_of y ≡ not (eqb (wrong_control_bits (control_of s.k (frame_of x)) (control_of s.k y.call.frame)) 0)

module _ (s : Settings) (on : s.mending ≡ true) (old : ℕ) (x : SourceStep) (z : SinkState) (y : SinkStep) (link : Link s old x) (told : Told s z y) (one : OneWrong s x y) where
  abbrev got : Control
  got = control_of s.k y.call.frame

  abbrev sent : Control
  sent = control_bytes s old (count_of x)

  -- by the number of wrong bits: the word is whole, or mended
  reading_by : (n : ℕ) → wrong_control_bits sent got ≡ n → n ≤ 1 → (r : CheckedWord) × (checked_in s got ≡ r) × IsOrBad sent.jc1 sent.jc2 r × (is_mended r ≡ not (eqb n 0)) × (r ≡ Bad → ⊥)
  reading_by zero e h = (
    Whole (writtenWord s old (count_of x)),
    mends_one_bit.none s.mending sent.jc1 sent.jc2 sent.jc3 got.jc1 got.jc2 got.jc3 (source.control_bytes_lt s old (count_of x))
        (control_lt s.k y.call.frame y.call.bytes) (source.control_passes s old (count_of x)) e,
    refl,
    refl,
    λ bad. let z : ◌≡◌ {A = ℕ} 0 1 = cc in omega arith,
  )
  reading_by (suc zero) e h = (
    Mended (writtenWord s old (count_of x)),
    ap (λ (b : Bool). checked_word b got.jc1 got.jc2 got.jc3) on
        ∙ mends_one_bit.one sent.jc1 sent.jc2 sent.jc3 got.jc1 got.jc2 got.jc3 (source.control_bytes_lt s old (count_of x))
        (control_lt s.k y.call.frame y.call.bytes) (source.control_passes s old (count_of x)) e,
    refl,
    refl,
    λ bad. let z : ◌≡◌ {A = ℕ} 0 1 = cc in omega arith,
  )
  reading_by (suc (suc n)) e h = absurd (omega arith)

  pub good : Good s x y
  good =
      let few = subst (λ (n : ℕ). n ≤ 1) (wrong_is s old x y link) one.control in
      let r = reading_by (wrong_control_bits sent got) refl few in
      let a = sink.accepted_knows y.call.settings (length y.call.frame) (length y.call.out) y.call.port told.taken in
      let long = a.frame ∙ ap (λ (u : Settings). frame_bytes u.k) told.settings ∙ sym (ap length (frame_is s old x link) ∙ source.length_of_written s x.state (count_of x) (load_of x)) in
      record {
        goes =
            record {
              leads = ⊎_elim (λ bad. absurd (r.4 (sym r.1 ∙ bad))) (λ same. same) (itself s old x y link r.0 r.1 r.2);
              client = λ n. others_client s.k n y.call.frame (frame_of x) long one.others;
              psi = others_psi s.k y.call.frame (frame_of x) one.others;
            };
        told = sink.mended_accepted y.call.settings y.state y.call.frame y.call.out y.call.port told.taken
            ∙ ap (λ (u : Settings). mended_in u (control_of u.k y.call.frame)) told.settings
            ∙ sink.mended_read s z got r.0 r.1 ∙ r.3
            ∙ ap (λ (n : ℕ). not (eqb n 0)) (sym (wrong_is s old x y link));
      }

pub all_good : (s : Settings) → s.mending ≡ true → (old : ℕ) (xs : List SourceStep) (z : SinkState) (ys : List SinkStep) (end : SinkState)
    → Chain s old xs → Thread s z ys end → Each (OneWrong s) xs ys → Each (Good s) xs ys
all_good s on old xs z [] end c h r = tt
all_good s on old [] z (y ∷ ys) end c h r = absurd r
all_good s on old (x ∷ xs) z (y ∷ ys) end c h r =
    (good s on old x z y c.0 h.0 r.0, all_good s on (count_of x) xs (followed s z y) ys end c.1 h.1 r.1)
