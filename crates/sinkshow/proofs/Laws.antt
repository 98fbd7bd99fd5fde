-- Text put into a line, and numbers in decimal. Assumes nothing.
use mathlib.Core.Path.{◌≡◌, refl, sym, ap, ◌∙◌}
use mathlib.Core.Bool.{cond}
use mathlib.Core.List.{List, [], ◌∷◌, ◌++◌, append_assoc}
use Prim.Native.Nat.{ℕ, zero, suc, ◌+◌, ◌-◌, ◌*◌, ◌/◌, ◌%◌, ◌^◌, ◌≤◌, ◌<◌}
use native.Mathlib.Nat.{le_of_suc-le-suc, lt_of_not-le, pow-suc, pow-le-pow_right, one-le-pow, le-div_iff_mul-le, div-lt_iff_lt-mul}
use native.Mathlib.Numerals.{unary_clauses}
use native.Mathlib.Omega.{arith}
use lib.Dec.{ltb, lit<}
use lib.ListN.{length, take, set, length-append, length-set}
use lib.Seq.{take-length, take_at, take-suc-set, length-take-le}
use borrow.Author.Rules.{rules}
use borrow.Author.Tests.{lt-ltb, le-ltb}
use borrow.Rule.Slice.PartMut.{mid_of, post_of, put_mid, same_len_mid}
use Rattle.io.specs.Digits.{hex_digit_ascii, last_digits, IsDigitCount}
use Rattle.math.proofs.Choice.{cond_elim}
use Rattle.gmp_standing.specs.declared.Count.{Count}
use Rattle.gmp_standing.specs.declared.Count.TheVariants.{Known, Unknown}
use Rattle.gmp_standing.specs.declared.Standing.{Standing}
use Rattle.gmp_standing.specs.declared.Standing.TheVariants.{Read, Tracked, Paired, BadCheck, Waiting, Outside}
use Rattle.gmp_standing.specs.Standing.{standing_meaning}
use Rattle.sinkshow.specs.Lines.{last_digits_of, decimal, count_text, numbers_text}
use Rattle.sinkshow.specs.Show.{Puts}

-- one text behind the other
pub puts_append : {line mid after : List ℕ} {at r s : ℕ} {x y : List ℕ} → Puts line at x r mid → Puts mid r y s after → Puts line at (x ++ y) s after
puts_append {line} {mid} {after} {at} {r} {s} {x} {y} p q =
    record {
      next = omega (arith, p.next, q.next, length-append x y);
      kept = q.kept ∙ p.kept;
      within = q.within;
      content = q.content ∙ ap (λ (l : List ℕ). l ++ y) p.content ∙ append_assoc (take at line) x y;
    }

-- and one byte behind it
pub puts_byte : {line mid : List ℕ} {at r : ℕ} {text : List ℕ} → Puts line at text r mid → (b : ℕ) → r < length mid
    → Puts line at (text ++ (b ∷ [])) (r + 1) (set mid r b)
puts_byte {line} {mid} {at} {r} {text} p b room =
    let one : r + 1 ≡ suc r = omega arith in
    let same = length-set mid r b in
    let le : r + 1 ≤ length (set mid r b) = omega (arith, same, room) in
    record {
      next = omega (arith, p.next, length-append text (b ∷ []));
      kept = same ∙ p.kept;
      within = (le, sym (length-take-le (r + 1) (set mid r b) le));
      content = ap (λ (k : ℕ). take k (set mid r b)) one ∙ take-suc-set mid r b room ∙ ap (λ (l : List ℕ). l ++ (b ∷ [])) p.content
          ∙ append_assoc (take at line) text (b ∷ []);
    }

-- text copied to the start of the rest of a line
pub puts_copied : (line text new : List ℕ) (at n : ℕ) → at + length text ≤ length line → n ≡ length text
    → length new ≡ length (mid_of at (length line - at) line)
    → (behind : List ℕ) → new ≡ take (length text) text ++ behind
    → Puts line at text (at + n) (put_mid at (length line - at) line new)
puts_copied line text new at n fits all same behind copied =
    let post = post_of at (length line - at) line in
    let whole : take at line ++ (new ++ post) ≡ (take at line ++ text) ++ (behind ++ post) = rw (copied, take-length text) (simp append_assoc) in
    let l = length-take-le at line (omega arith) in
    let kept = same_len_mid at (length line - at) line new same in
    let room : at + n ≤ length (put_mid at (length line - at) line new) = omega arith in
    record {
      next = ap (◌+◌ at) all;
      kept = kept;
      within = (room, sym (length-take-le (at + n) (put_mid at (length line - at) line new) room));
      content = ap (take (at + n)) whole ∙ take_at (take at line ++ text) (behind ++ post) (at + n) (omega (arith, length-append (take at line) text));
    }

-- the fewest digits that hold a number are its digits in decimal
digits_are : (most n k : ℕ) → IsDigitCount 10 1 n k → k ≤ most → last_digits 10 k n ≡ last_digits_of most n
unfolding last_digits_of
digits_are most n zero few le = absurd (omega arith)
digits_are zero n (suc k) few le = absurd (omega arith)
digits_are (suc most) n (suc zero) few le = rw (lt-ltb n 10 (omega arith))
digits_are (suc most) n (suc (suc k)) few le =
    let lower : 10 ^ k * 10 ≤ n = simp unary_clauses at (few.2 (omega arith)) in
    let ten : 10 ≤ n = omega (arith, one-le-pow k 10 (lit< tt)) in
    let tenth : IsDigitCount 10 1 (n / 10) (suc k) = (
      omega arith,
      (div-lt_iff_lt-mul {k = 10} {x = n} {y = 10 ^ suc k} (lit< tt)).1 (omega (arith, pow-suc 10 (suc k))),
      λ _. simp unary_clauses ((le-div_iff_mul-le {k = 10} {x = 10 ^ k} {y = n} (lit< tt)).1 lower),
    ) in
    rw (le-ltb n 10 ten, digits_are most (n / 10) (suc k) tenth (omega arith))

-- and 20 digits hold every number of 64 bits
pub decimal_is : (n k : ℕ) → n < 2 ^ 64 → IsDigitCount 10 1 n k → last_digits 10 k n ≡ decimal n
decimal_is n k small few = digits_are 20 n k few (le_of_suc-le-suc (lt_of_not-le not_more))
  where
    not_more : 20 < k → ⊥
    not_more over =
        let lower : 10 ^ (k - 1) ≤ n = few.2 (omega arith) in
        let more : 10 ^ 20 ≤ 10 ^ (k - 1) = pow-le-pow_right {n = 10} (lit< tt) {i = 20} {j = k - 1} (omega arith) in
        omega arith

-- at most as many digits as asked
last_digits_within : (most n : ℕ) → length (last_digits_of most n) ≤ most
unfolding last_digits_of
last_digits_within zero n = omega arith
last_digits_within (suc most) n =
    let tenth = cond (ltb n 10) [] (last_digits_of most (n / 10)) in
    let fewer : length (last_digits_of most (n / 10)) ≤ most = last_digits_within most (n / 10) in
    let within : length tenth ≤ most = cond_elim (λ (l : List ℕ). length l ≤ most) (ltb n 10) [] (last_digits_of most (n / 10)) (λ _. omega arith) (λ _. fewer) in
    omega (arith, length-append tenth (hex_digit_ascii (n % 10) ∷ []))

-- the widths of a line's parts
pub decimal_within : (n : ℕ) → length (decimal n) ≤ 20
decimal_within n = last_digits_within 20 n

pub count_within : (c : Count) → length (count_text c) ≤ 20
count_within (Known n) = decimal_within n
count_within Unknown = omega arith

pub name_within : (x : Standing) → length (standing_meaning x).name ≤ 8
name_within (Read n) = omega arith
name_within (Tracked n) = omega arith
name_within (Paired n) = omega arith
name_within BadCheck = omega arith
name_within Waiting = omega arith
name_within Outside = omega arith

pub numbers_within : (frameNumber handed : ℕ) → length (numbers_text frameNumber handed) ≤ 42
numbers_within frameNumber handed = simp length-append (omega (arith, decimal_within frameNumber, decimal_within handed))

-- nothing put into a line
pub puts_nothing : (line : List ℕ) → Puts line 0 [] 0 line
puts_nothing line = record { next = refl; kept = refl; within = search rules; content = refl }
