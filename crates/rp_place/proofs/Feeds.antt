-- What stands behind the last line feed.
use Rattle.std.proofs.Common.{◌≡◌, ◌≢◌, ◌<◌, ◌+◌, ◌-◌, ℕ, true, false, not, List, length, drop, get_or, sym, ap, ◌∙◌, arith}
use Rattle.std.specs.List.{suffix_len}
use Rattle.std.proofs.lemmas.Bool.Decides.{nat_tests}
use Rattle.std.proofs.lemmas.List.Sums.{suffix_len_is}
use Rattle.rp_place.specs.Lines.{is_line_feed, last_line}

no_feed : (byte : ℕ) → byte ≢ 10 → not (is_line_feed byte) ≡ true
no_feed byte other = grind (arith, nat_tests)

feed : (byte : ℕ) → byte ≡ 10 → not (is_line_feed byte) ≡ false
feed byte same = grind (arith, nat_tests)

pub last_line-none : (text : List ℕ) → ((i : ℕ) → i < length text → get_or text i 0 ≢ 10) → text ≡ last_line text
last_line-none text none =
    let all : suffix_len (λ b. not (is_line_feed b)) text ≡ length text - 0 =
    suffix_len_is (λ b. not (is_line_feed b)) text 0 0 (omega arith) (λ k from below. no_feed (get_or text k 0) (none k below)) (λ h. absurd (omega arith)) in
    let whole : length text - suffix_len (λ b. not (is_line_feed b)) text ≡ 0 = omega (arith, all) in
    sym (ap (λ n. drop n text) whole)

pub last_line-some : (text : List ℕ) (k : ℕ) → k < length text → get_or text k 0 ≡ 10
    → ((i : ℕ) → k < i → i < length text → get_or text i 0 ≢ 10) → drop (k + 1) text ≡ last_line text
last_line-some text k within here none =
    let rest : suffix_len (λ b. not (is_line_feed b)) text ≡ length text - (k + 1) =
    suffix_len_is (λ b. not (is_line_feed b)) text (k + 1) 0 (omega arith)
    (λ i from below. no_feed (get_or text i 0) (none i (omega arith) below))
    (λ h. let same : k + 1 - 1 ≡ k = omega arith in feed (get_or text (k + 1 - 1) 0) (ap (λ n. get_or text n 0) same ∙ here)) in
    let start : length text - suffix_len (λ b. not (is_line_feed b)) text ≡ k + 1 = omega (arith, rest) in
    sym (ap (λ n. drop n text) start)
