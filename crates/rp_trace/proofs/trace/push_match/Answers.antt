use Rattle.std.proofs.Common.{◌∙◌, ap, arith, rules, length, subst, sym}
use Rattle.std.specs.List.{AllByRecursion}
use Rattle.rp_words.specs.LabelLaws.{IsBelow}
use Rattle.rp_words.specs.PatternForm.{form_of}
use Rattle.rp_words.specs.Words.{words}
use Rattle.rp_words.specs.declared.word.End.TheVariants.{Closed}
use Rattle.rp_search.specs.Found.{Match, NoMatch}
use Rattle.rp_search.specs.Search.{IsSearchFor, labels_of_search, start_of_search, words_from}
use Rattle.rp_trace.specs.LetterTest.{letter_test}
use Rattle.rp_trace.proofs.LineReplies.{match-below, search-text, still_for}
use Rattle.rp_io.proofs.Cutting.{when_true, when_false}
use Rattle.rp_trace.proofs.trace.push_match.Goals as goal

pub returns-then-not-branch-clause-added : goal.returns-then-not-branch-clause-added
returns-then-not-branch-clause-added g c =
    let form = form_of c.args.pattern.now in
    let line = c.new-letters.result.line.now in
    let begun = c.restart.new.self in
    let is_for : IsSearchFor form begun = still_for form c.args.search.now begun c.requires.is_for c.restart.ensures.pattern in
    let start = c.restart.ensures.start in
    let none = when_false _ _ c.in_ok-find.field-0 c.if-not-branch.true c.in_ok-find.ensures.found in
    rw (search-text form c.args.line.now line (start_of_search begun) (words_from begun (length line) Closed (start_of_search begun)) NoMatch c.requires.some c.new-letters.ensures.line
    start (is_for.same_words (length line) Closed (start_of_search begun) ∙ ap (words (length line) Closed form) start) none)
    (search rules)

pub push_labels-requires : goal.push_labels-requires
push_labels-requires g c =
    let form = form_of c.args.pattern.now in
    let line = c.new-letters.result.line.now in
    let begun = c.restart.new.self in
    let is_for : IsSearchFor form begun = still_for form c.args.search.now begun c.requires.is_for c.restart.ensures.pattern in
    let found' = when_true _ _ c.in_ok-find.field-0 c.if-not-branch.false c.in_ok-find.ensures.found in
    rw c.labels.ensures
    (match-below 26 (letter_test line (start_of_search begun)) (words (length line) Closed form (start_of_search begun)) (words_from begun (length line) Closed (start_of_search begun)) (labels_of_search c.find.new.search)
    (is_for.same_words (length line) Closed (start_of_search begun)) (c.law_labels.ensures 26 form c.requires.lettered (length line) Closed (start_of_search begun)) found')

pub returns-clause-added : goal.returns-clause-added
returns-clause-added g c =
    let form = form_of c.args.pattern.now in
    let line = c.new-letters.result.line.now in
    let begun = c.restart.new.self in
    let is_for : IsSearchFor form begun = still_for form c.args.search.now begun c.requires.is_for c.restart.ensures.pattern in
    let start = c.restart.ensures.start in
    let found' = when_true _ _ c.in_ok-find.field-0 c.if-not-branch.false c.in_ok-find.ensures.found in
    rw (search-text form c.args.line.now line (start_of_search begun) (words_from begun (length line) Closed (start_of_search begun)) (Match (labels_of_search c.find.new.search)) c.requires.some c.new-letters.ensures.line
    start (is_for.same_words (length line) Closed (start_of_search begun) ∙ ap (words (length line) Closed form) start) found')
    (rw c.labels.ensures at c.push_labels.ensures)

pub find-requires-clause-can_run : goal.find-requires-clause-can_run
find-requires-clause-can_run g c =
    let form = form_of c.args.pattern.now in
    let begun = c.restart.new.self in
    let is_for : IsSearchFor form begun = still_for form c.args.search.now begun c.requires.is_for c.restart.ensures.pattern in
    record {
      known = omega (arith, c.restart.ensures.start, ap length c.new-letters.ensures.line, c.requires.some);
      variables = λ n e row. subst (λ ws. AllByRecursion (IsBelow 26) ws) (sym (is_for.same_words n e row)) (c.law_labels.ensures 26 form c.requires.lettered n e row);
      pattern = subst (λ f. IsSearchFor f begun) (sym c.new-letters.ensures.form) is_for;
      fits = c.restart.ensures.at_start.fits _;
      entered = tt;
    }
