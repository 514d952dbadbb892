-- What is left of a search, over what answers the same.
use Rattle.std.proofs.Common.{◌≡◌, ℕ, ◌+◌, ◌≤◌, length, Option, Some, None, refl, sym, ap, ◌∙◌, arith}
use Rattle.rp_words.specs.declared.word.End.{End}
use Rattle.rp_words.specs.declared.word.End.TheVariants.{Open as OpenEnd, Closed as ClosedEnd}
use Rattle.rp_words.specs.declared.word.Seen.{Seen}
use Rattle.rp_words.specs.declared.word.Seen.TheVariants.{True, NotTrue, Open as OpenTest}
use Rattle.rp_pattern.specs.declared.choices.Choices.{Choices}
use Rattle.rp_pattern.specs.Choices.{start_of, entered, turns_left, turns_left_below}
use Rattle.rp_pattern.specs.declared.outlook.Outlook.{Outlook}
use Rattle.rp_pattern.specs.Outlooks.{turns_ahead}
use Rattle.rp_search.specs.declared.search.Search.{Search}
use Rattle.rp_search.specs.Asked.{Asked, AskedExtend, rows_from}
use Rattle.rp_search.specs.Found.{Test}
use Rattle.rp_search.specs.SeenStays.{SeenStays}
use Rattle.rp_search.specs.Fits.{unless_open, left_given}

same_seen : (a b : Seen) → SeenStays a b → SeenStays b a → b ≡ a
same_seen True b h k = h
same_seen NotTrue b h k = h
same_seen OpenTest True h k = sym k
same_seen OpenTest NotTrue h k = sym k
same_seen OpenTest OpenTest h k = refl

same_end : (a b : End) → (a ≡ ClosedEnd → b ≡ ClosedEnd) → (b ≡ ClosedEnd → a ≡ ClosedEnd) → b ≡ a
same_end OpenEnd OpenEnd h k = refl
same_end OpenEnd ClosedEnd h k = sym (k refl)
same_end ClosedEnd b h k = h refl

same_left : (outlook : Option Outlook) (c : Choices) (n n' : ℕ) (e e' : End) (test test' : Test) → n' ≡ n → e' ≡ e → test' (entered c) ≡ test (entered c) → left_given outlook c n' e' test' ≡ left_given outlook c n e test
same_left None c n n' e e' test test' known end seen = ap (λ k. turns_left c k e') known ∙ ap (λ i. turns_left c n i) end
same_left (Some outlook) c n n' e e' test test' known end seen =
    ap (λ s. unless_open s (turns_left c n' e') (turns_left_below c n' e' + turns_ahead outlook n' e')) seen
    ∙ ap (λ k. unless_open (test (entered c)) (turns_left c k e') (turns_left_below c k e' + turns_ahead outlook k e')) known
    ∙ ap (λ i. unless_open (test (entered c)) (turns_left c n i) (turns_left_below c n i + turns_ahead outlook n i)) end

pub left_alike : (s : Search) (old new : Asked) → AskedExtend (start_of s.choices) old new → AskedExtend (start_of s.choices) new old → length (entered s.choices) ≤ rows_from (start_of s.choices) old.known →
    left_given s.outlook s.choices new.known new.end (new.outcome (start_of s.choices)) ≡ left_given s.outlook s.choices old.known old.end (old.outcome (start_of s.choices))
left_alike s old new on back short =
    let known : new.known ≡ old.known = omega (arith, on.later.0, back.later.0) in
    let labels = entered s.choices in
    let still : length labels ≤ rows_from (start_of s.choices) new.known = omega (arith, short, known) in
    same_left s.outlook s.choices old.known new.known old.end new.end (old.outcome (start_of s.choices)) (new.outcome (start_of s.choices)) known
    (same_end old.end new.end (λ h. (on.later.1 h).1) (λ h. (back.later.1 h).1))
    (same_seen (old.outcome (start_of s.choices) labels) (new.outcome (start_of s.choices) labels) (on.stay labels short) (back.stay labels still))
