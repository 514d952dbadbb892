-- What the tables of reserved words and marks have, and what a search in them finds.
use Rattle.std.proofs.Common.{◌≡◌, ℕ, ◌<◌, ◌≤◌, ◌⊎◌, Bool, true, false, ◌&&◌, ◌||◌, leb, Option, Some, None, MatchOption, List, [], ◌∷◌, length, map, take, sym, refl, ap, ◌∙◌, subst, inl, inr, ⊎_elim, arith}
use Rattle.std.proofs.lemmas.Bool.{true≢false, cond-true, cond-false, cases_Bool, and_parts, leb-true, both_ways, and_from, le-leb}
use Rattle.std.proofs.lemmas.Slice.Eq.{bytes_eq-Decides}
use Rattle.std.specs.List.{list_all}
use Rattle.std.specs.Char.{to_ascii_lowercase}
use Rattle.std.specs.Str.{bytes_eq, str_eq_ignore_ascii_case}
use Rattle.rp_lexer.specs.Spelling.{keyword_spelling, mark_spelling}
use Rattle.rp_lexer.specs.Forms.{SpellsAlike}
use Rattle.rp_lexer.specs.Scan.{word_in, begins_with, mark_in, BeginsWithMark, IsLongestMark, BeginsNoMark}
use Rattle.rp_lexer.specs.declared.kind.Keyword.{Keyword}
use Rattle.rp_lexer.specs.declared.kind.Keyword.TheVariants as keyword
use Rattle.rp_lexer.specs.declared.kind.Mark.{Mark}
use Rattle.rp_lexer.specs.declared.kind.Mark.TheVariants as mark
use Rattle.rp_lexer.specs.declared.kind.TheConstants.{KEYWORDS, MARKS}

-- an entry of the table has this spelling
abbrev Has : {X : Type 0} → List (List ℕ × X) → List ℕ → Type 0
Has [] spelling = ⊥
Has (e ∷ table) spelling = (e.0 ≡ spelling) ⊎ Has table spelling

abbrev has : {X : Type 0} → List (List ℕ × X) → List ℕ → Bool
has [] spelling = false
has (e ∷ table) spelling = bytes_eq e.0 spelling || has table spelling

has_from : {X : Type 0} (table : List (List ℕ × X)) (spelling : List ℕ) → has table spelling ≡ true → Has table spelling
has_from [] spelling h = absurd (true≢false (sym h))
has_from (e ∷ table) spelling h = ⊎_elim
    (λ here. inl ((bytes_eq-Decides e.0 spelling).0 here))
    (λ other. inr (has_from table spelling (sym (ap (λ b. b || has table spelling) other) ∙ h)))
    (cases_Bool (bytes_eq e.0 spelling))

-- each entry has its value's spelling
abbrev Spelled : {X : Type 0} → (X → List ℕ) → List (List ℕ × X) → Type 0
Spelled spelling [] = Unit {0}
Spelled spelling (e ∷ table) = (e.0 ≡ spelling e.1) × Spelled spelling table

unfoldable words : List (List ℕ × Keyword)
words = map (λ e. (e.0.now, e.1)) KEYWORDS

unfoldable signs : List (List ℕ × Mark)
signs = map (λ e. (e.0.now, e.1)) MARKS

words_spelled : Spelled keyword_spelling words
unfolding words
words_spelled = (refl, (refl, (refl, (refl, (refl, (refl, (refl, (refl, (refl, (refl, (refl, (refl, (refl, (refl, (refl, (refl, (refl, (refl, (refl, (refl, (refl, (refl, (refl, (refl, (refl, (refl, (refl, (refl, (refl, (refl, (refl, (refl, (refl, (refl, (refl, (refl, (refl, (refl, (refl, (refl, (refl, (refl, (refl, (refl, (refl, tt)))))))))))))))))))))))))))))))))))))))))))))

signs_spelled : Spelled mark_spelling signs
unfolding signs
signs_spelled = (refl, (refl, (refl, (refl, (refl, (refl, (refl, (refl, (refl, (refl, (refl, (refl, (refl, (refl, (refl, (refl, (refl, (refl, (refl, (refl, (refl, tt)))))))))))))))))))))

words_have : (word : Keyword) → Has words (keyword_spelling word)
unfolding words
words_have keyword.After = has_from words (keyword_spelling keyword.After) refl
words_have keyword.All = has_from words (keyword_spelling keyword.All) refl
words_have keyword.And = has_from words (keyword_spelling keyword.And) refl
words_have keyword.As = has_from words (keyword_spelling keyword.As) refl
words_have keyword.Asc = has_from words (keyword_spelling keyword.Asc) refl
words_have keyword.By = has_from words (keyword_spelling keyword.By) refl
words_have keyword.Classifier = has_from words (keyword_spelling keyword.Classifier) refl
words_have keyword.Count = has_from words (keyword_spelling keyword.Count) refl
words_have keyword.Define = has_from words (keyword_spelling keyword.Define) refl
words_have keyword.Desc = has_from words (keyword_spelling keyword.Desc) refl
words_have keyword.Empty = has_from words (keyword_spelling keyword.Empty) refl
words_have keyword.Final = has_from words (keyword_spelling keyword.Final) refl
words_have keyword.First = has_from words (keyword_spelling keyword.First) refl
words_have keyword.Is = has_from words (keyword_spelling keyword.Is) refl
words_have keyword.Last = has_from words (keyword_spelling keyword.Last) refl
words_have keyword.Match = has_from words (keyword_spelling keyword.Match) refl
words_have keyword.Matches = has_from words (keyword_spelling keyword.Matches) refl
words_have keyword.MatchNumber = has_from words (keyword_spelling keyword.MatchNumber) refl
words_have keyword.MatchRecognize = has_from words (keyword_spelling keyword.MatchRecognize) refl
words_have keyword.Max = has_from words (keyword_spelling keyword.Max) refl
words_have keyword.Measures = has_from words (keyword_spelling keyword.Measures) refl
words_have keyword.Min = has_from words (keyword_spelling keyword.Min) refl
words_have keyword.Next = has_from words (keyword_spelling keyword.Next) refl
words_have keyword.Not = has_from words (keyword_spelling keyword.Not) refl
words_have keyword.Null = has_from words (keyword_spelling keyword.Null) refl
words_have keyword.Omit = has_from words (keyword_spelling keyword.Omit) refl
words_have keyword.One = has_from words (keyword_spelling keyword.One) refl
words_have keyword.Or = has_from words (keyword_spelling keyword.Or) refl
words_have keyword.Order = has_from words (keyword_spelling keyword.Order) refl
words_have keyword.Partition = has_from words (keyword_spelling keyword.Partition) refl
words_have keyword.Past = has_from words (keyword_spelling keyword.Past) refl
words_have keyword.Pattern = has_from words (keyword_spelling keyword.Pattern) refl
words_have keyword.Per = has_from words (keyword_spelling keyword.Per) refl
words_have keyword.Permute = has_from words (keyword_spelling keyword.Permute) refl
words_have keyword.Prev = has_from words (keyword_spelling keyword.Prev) refl
words_have keyword.Row = has_from words (keyword_spelling keyword.Row) refl
words_have keyword.Rows = has_from words (keyword_spelling keyword.Rows) refl
words_have keyword.Running = has_from words (keyword_spelling keyword.Running) refl
words_have keyword.Show = has_from words (keyword_spelling keyword.Show) refl
words_have keyword.Skip = has_from words (keyword_spelling keyword.Skip) refl
words_have keyword.Subset = has_from words (keyword_spelling keyword.Subset) refl
words_have keyword.Sum = has_from words (keyword_spelling keyword.Sum) refl
words_have keyword.To = has_from words (keyword_spelling keyword.To) refl
words_have keyword.Unmatched = has_from words (keyword_spelling keyword.Unmatched) refl
words_have keyword.With = has_from words (keyword_spelling keyword.With) refl

signs_have : (m : Mark) → Has signs (mark_spelling m)
unfolding signs
signs_have mark.LeftBraceMinus = has_from signs (mark_spelling mark.LeftBraceMinus) refl
signs_have mark.RightBraceMinus = has_from signs (mark_spelling mark.RightBraceMinus) refl
signs_have mark.NotEquals = has_from signs (mark_spelling mark.NotEquals) refl
signs_have mark.LessThanOrEquals = has_from signs (mark_spelling mark.LessThanOrEquals) refl
signs_have mark.GreaterThanOrEquals = has_from signs (mark_spelling mark.GreaterThanOrEquals) refl
signs_have mark.LeftParenthesis = has_from signs (mark_spelling mark.LeftParenthesis) refl
signs_have mark.RightParenthesis = has_from signs (mark_spelling mark.RightParenthesis) refl
signs_have mark.Comma = has_from signs (mark_spelling mark.Comma) refl
signs_have mark.Period = has_from signs (mark_spelling mark.Period) refl
signs_have mark.Asterisk = has_from signs (mark_spelling mark.Asterisk) refl
signs_have mark.Plus = has_from signs (mark_spelling mark.Plus) refl
signs_have mark.Minus = has_from signs (mark_spelling mark.Minus) refl
signs_have mark.QuestionMark = has_from signs (mark_spelling mark.QuestionMark) refl
signs_have mark.LeftBrace = has_from signs (mark_spelling mark.LeftBrace) refl
signs_have mark.RightBrace = has_from signs (mark_spelling mark.RightBrace) refl
signs_have mark.VerticalBar = has_from signs (mark_spelling mark.VerticalBar) refl
signs_have mark.Circumflex = has_from signs (mark_spelling mark.Circumflex) refl
signs_have mark.DollarSign = has_from signs (mark_spelling mark.DollarSign) refl
signs_have mark.Equals = has_from signs (mark_spelling mark.Equals) refl
signs_have mark.LessThan = has_from signs (mark_spelling mark.LessThan) refl
signs_have mark.GreaterThan = has_from signs (mark_spelling mark.GreaterThan) refl

-- ---- reserved words

word_found : (table : List (List ℕ × Keyword)) (name : List ℕ) → Spelled keyword_spelling table → MatchOption (word_in table name) ((word : Keyword) → Has table (keyword_spelling word) → SpellsAlike name (keyword_spelling word) → ⊥) (λ word. SpellsAlike name (keyword_spelling word))
word_found [] name spelled = λ word has alike. has
word_found (e ∷ table) name spelled =
    let test = str_eq_ignore_ascii_case e.0 name in
    let decides = bytes_eq-Decides (map to_ascii_lowercase e.0) (map to_ascii_lowercase name) in
    let Q : Option Keyword → Type 0 = λ r. MatchOption r ((word : Keyword) → Has (e ∷ table) (keyword_spelling word) → SpellsAlike name (keyword_spelling word) → ⊥) (λ word. SpellsAlike name (keyword_spelling word)) in
    let rest = word_found table name spelled.1 in
    ⊎_elim
    (λ yes'. subst Q (sym (cond-true test (Some e.1) (word_in table name) yes')) (sym (decides.0 yes') ∙ ap (λ l. map to_ascii_lowercase l) spelled.0))
    (λ no'. subst Q (sym (cond-false test (Some e.1) (word_in table name) no')) (later (word_in table name) no' rest))
    (cases_Bool test)
  where
    later : (r : Option Keyword) → str_eq_ignore_ascii_case e.0 name ≡ false → MatchOption r ((word : Keyword) → Has table (keyword_spelling word) → SpellsAlike name (keyword_spelling word) → ⊥) (λ word. SpellsAlike name (keyword_spelling word)) → MatchOption r ((word : Keyword) → Has (e ∷ table) (keyword_spelling word) → SpellsAlike name (keyword_spelling word) → ⊥) (λ word. SpellsAlike name (keyword_spelling word))
    later (Some word) no' h = h
    later None no' h = λ word has alike. ⊎_elim
        (λ here. both_ways _ no' ((bytes_eq-Decides (map to_ascii_lowercase e.0) (map to_ascii_lowercase name)).1 (ap (λ l. map to_ascii_lowercase l) here ∙ sym alike)))
        (λ there. h word there alike) has

no_word_at : (r : Option Keyword) (name : List ℕ) → MatchOption r ((word : Keyword) → Has words (keyword_spelling word) → SpellsAlike name (keyword_spelling word) → ⊥) (λ word. SpellsAlike name (keyword_spelling word)) → MatchOption r ((word : Keyword) → SpellsAlike name (keyword_spelling word) → ⊥) (λ word. SpellsAlike name (keyword_spelling word))
no_word_at None name h = λ word alike. h word (words_have word) alike
no_word_at (Some word) name h = h

pub keyword_found : (name : List ℕ) (r : Option Keyword) → r ≡ word_in (map (λ e. (e.0.now, e.1)) KEYWORDS) name → MatchOption r ((word : Keyword) → SpellsAlike name (keyword_spelling word) → ⊥) (λ word. SpellsAlike name (keyword_spelling word))
unfolding words
keyword_found name r is = no_word_at r name (subst (λ o. MatchOption o ((word : Keyword) → Has words (keyword_spelling word) → SpellsAlike name (keyword_spelling word) → ⊥) (λ word. SpellsAlike name (keyword_spelling word))) (sym is) (word_found words name words_spelled))

-- ---- marks

-- no entry is longer than an earlier one
abbrev descends : List (List ℕ × Mark) → Bool
descends [] = true
descends (e ∷ table) = list_all (λ later. leb (length later.0) (length e.0)) table && descends table

signs_descend : descends signs ≡ true
unfolding signs
signs_descend = refl

no_longer : (table : List (List ℕ × Mark)) (n : ℕ) (m : Mark) → list_all (λ later. leb (length later.0) n) table ≡ true → Has table (mark_spelling m) → length (mark_spelling m) ≤ n
no_longer [] n m all has = absurd has
no_longer (e ∷ table) n m all has =
    let parts = and_parts (leb (length e.0) n) (list_all (λ later. leb (length later.0) n) table) all in
    ⊎_elim
    (λ here. omega (arith, leb-true (length e.0) n parts.0, ap length here))
    (λ there. no_longer table n m parts.1 there)
    has

abbrev FoundIn : List (List ℕ × Mark) → List ℕ → Option (Mark × ℕ) → Type 0
FoundIn table rest r = MatchOption r ((m : Mark) → Has table (mark_spelling m) → BeginsWithMark rest m → ⊥)
    (λ found. (found.1 ≡ length (mark_spelling found.0)) × BeginsWithMark rest found.0 × ((other : Mark) → Has table (mark_spelling other) → found.1 < length (mark_spelling other) → BeginsWithMark rest other → ⊥))

not_begun : (front rest : List ℕ) (m : Mark) → begins_with rest front ≡ false → front ≡ mark_spelling m → BeginsWithMark rest m → ⊥
not_begun front rest m no' spelled begun =
    both_ways _ no' ((bytes_eq-Decides front (take (length front) rest)).1 (spelled ∙ sym begun ∙ ap (λ l. take (length l) rest) (sym spelled)))

later_mark : (e : List ℕ × Mark) (table : List (List ℕ × Mark)) (rest : List ℕ) (r : Option (Mark × ℕ)) → e.0 ≡ mark_spelling e.1 → begins_with rest e.0 ≡ false → FoundIn table rest r → FoundIn (e ∷ table) rest r
later_mark e table rest None spelled no' h = λ m has begun. ⊎_elim (λ here. not_begun e.0 rest m no' here begun) (λ there. h m there begun) has
later_mark e table rest (Some found) spelled no' h =
    (h.0, h.1, λ other has longer begun. ⊎_elim (λ here. not_begun e.0 rest other no' here begun) (λ there. h.2 other there longer begun) has)

mark_found_in : (table : List (List ℕ × Mark)) (rest : List ℕ) → Spelled mark_spelling table → descends table ≡ true → FoundIn table rest (mark_in table rest)
mark_found_in [] rest spelled descending = λ m has begun. has
mark_found_in (e ∷ table) rest spelled descending =
    let parts = and_parts _ _ descending in
    ⊎_elim
    (λ yes'. subst (FoundIn (e ∷ table) rest) (sym (cond-true (begins_with rest e.0) (Some (e.1, length e.0)) (mark_in table rest) yes')) (
      ap length spelled.0,
      ap (λ l. take (length l) rest) (sym spelled.0) ∙ sym ((bytes_eq-Decides e.0 (take (length e.0) rest)).0 yes') ∙ spelled.0,
      λ other has longer begun. let short = no_longer (e ∷ table) (length e.0) other (and_from _ _ (le-leb (length e.0) (length e.0) (omega arith)) parts.0) has in omega arith,
    ))
    (λ no'. subst (FoundIn (e ∷ table) rest) (sym (cond-false (begins_with rest e.0) (Some (e.1, length e.0)) (mark_in table rest) no'))
    (later_mark e table rest (mark_in table rest) spelled.0 no' (mark_found_in table rest spelled.1 parts.1)))
    (cases_Bool (begins_with rest e.0))

mark_of_signs : (rest : List ℕ) (r : Option (Mark × ℕ)) → FoundIn signs rest r → MatchOption r (BeginsNoMark rest) (λ found. IsLongestMark rest found.0 found.1)
mark_of_signs rest None h = λ m begun. h m (signs_have m) begun
mark_of_signs rest (Some found) h = record { len_is = h.0; begins = h.1; longest = λ other longer begun. h.2 other (signs_have other) longer begun }

pub mark_found : (rest : List ℕ) (r : Option (Mark × ℕ)) → r ≡ mark_in (map (λ e. (e.0.now, e.1)) MARKS) rest → MatchOption r (BeginsNoMark rest) (λ found. IsLongestMark rest found.0 found.1)
unfolding signs
mark_found rest r is = mark_of_signs rest r (subst (FoundIn signs rest) (sym is) (mark_found_in signs rest signs_spelled signs_descend))
