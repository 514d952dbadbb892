-- What is written for a line, by what its search comes to.
use Rattle.std.proofs.Common.{◌≡◌, ℕ, ◌<◌, List, [], ◌∷◌, length, All, ap, sym, ◌∙◌, subst, arith}
use Rattle.std.specs.List.{AllByRecursion}
use Rattle.std.proofs.lemmas.List.Elements.{All-from_recursion}
use Rattle.rp_words.specs.declared.word.Label.{Label}
use Rattle.rp_words.specs.declared.word.End.TheVariants.{Closed}
use Rattle.rp_words.specs.declared.form.Form.{Form}
use Rattle.rp_words.specs.LabelLaws.{IsBelow}
use Rattle.rp_words.specs.Mapping.{Mapping, labels_of}
use Rattle.rp_words.specs.Words.{words}
use Rattle.rp_search.specs.Found.{Test, Found, Match, found, tested, status, unless_refused, Status, Good, Refused, Undecided}
use Rattle.rp_search.specs.declared.search.Search.{Search}
use Rattle.rp_search.specs.Search.{IsForSamePattern, IsSearchFor}
use Rattle.rp_trace.specs.LetterTest.{letter_test}
use Rattle.rp_trace.specs.Replies.{search_text, found_text}

-- the labels of a match are those of one of the words
unless_refused-below : (k : ℕ) (w : Mapping) (s : Status) (later : Found) (ls : List Label) → IsBelow k w → (later ≡ Match ls → AllByRecursion (λ l. l.var < k) ls)
    → unless_refused w s later ≡ Match ls → AllByRecursion (λ l. l.var < k) ls
unless_refused-below k w Good later ls below next is =
    let same : labels_of w ≡ ls = cc in
    let P : List Label → Type 0 = λ t. AllByRecursion (λ l. l.var < k) t in
    subst P same below
unless_refused-below k w Refused later ls below next is = next is
unless_refused-below k w Undecided later ls below next is = cc

found-below : (k : ℕ) (test : Test) (ws : List Mapping) (ls : List Label) → AllByRecursion (IsBelow k) ws → found test ws ≡ Match ls → AllByRecursion (λ l. l.var < k) ls
found-below k test [] ls below is = cc
found-below k test (w ∷ ws) ls below is = unless_refused-below k w (status test w) (found test ws) ls below.0 (found-below k test ws ls below.1) is

pub match-below : (k : ℕ) (test : Test) (ws ws' : List Mapping) (ls : List Label) → ws' ≡ ws → AllByRecursion (IsBelow k) ws → found test ws' ≡ Match ls → All (λ l. l.var < k) ls
match-below k test ws ws' ls same below is = All-from_recursion (λ l. l.var < k) ls (found-below k test ws ls below (sym (ap (found test) same) ∙ is))

-- what is written where the search has ended so
pub search-text : (form : Form) (line tested : List ℕ) (start : ℕ) (ws : List Mapping) (end : Found) → 0 < length line → tested ≡ line → start ≡ 1 → ws ≡ words (length tested) Closed form 1
    → found (letter_test tested start) ws ≡ end → search_text form line ≡ found_text end
search-text form [] tested start ws end some same first is ends = absurd (omega arith)
search-text form (letter ∷ letters) tested start ws end some same first is ends =
    ap (λ t. found_text (found (letter_test t 1) (words (length t) Closed form 1))) (sym same) ∙ ap (λ u. found_text (found (letter_test tested 1) u)) (sym is)
    ∙ ap (λ i. found_text (found (letter_test tested i) ws)) (sym first) ∙ ap found_text ends

-- a search stays one for its pattern
pub still_for : (form : Form) (old new : Search) → IsSearchFor form old → IsForSamePattern old new → IsSearchFor form new
still_for form old new is same = record {
  same_words = λ n e row. same.words n e row ∙ is.same_words n e row;
  same_turns = λ n e row. same.turns n e row ∙ is.same_turns n e row;
}
