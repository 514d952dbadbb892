-- What is read of patterns is derived, and what is derived is read.
use Rattle.std.proofs.Common.{◌≡◌, ◌∙◌, ℕ, zero, suc, List, [], ◌∷◌, Option, Some, None, true, false, refl, sym, inl, inr}
use Rattle.rp_lexer.specs.declared.token.Token.{Token}
use Rattle.rp_lexer.specs.declared.kind.TokenKind.TheVariants as kind
use Rattle.rp_lexer.specs.declared.kind.Mark.TheVariants as mark
use Rattle.rp_lexer.specs.declared.kind.Keyword.TheVariants as keyword
use Rattle.rp_tree.specs.declared.tree.Quantifier.{Quantifier}
use Rattle.rp_grammar.specs.Names.{name, name_kinds, name_in}
use Rattle.rp_tree.specs.Tree.{Tree, Variable, PartitionStart, PartitionEnd, Concatenation, Alternation, Permute, Beside, Exclusion, joined, joined_all}
use Rattle.rp_grammar.specs.Grammar.{Grammar, word, ◌then◌, ◌or◌, gives, optional, many, never, opening, second, listed, apart}
use Rattle.rp_patterns.specs.PatternGrammar.{repeated, from_lower, bound, bounds, quantifier, with_quantifier, or_empty, group, permute, exclusion, primary, factor, sequence, alternatives, as_pattern, deeper, inside, pattern_kinds, after_pattern}
use Rattle.rp_grammar.proofs.Laws.{Lawful, here_lawful, number_lawful, one_lawful, word_lawful, then_lawful, or_lawful, gives_lawful, optional_lawful, many_lawful, never_lawful, opening_lawful, listed_lawful, under_lawful}

pub bounds_lawful : (text : List ℕ) → Lawful text bounds
unfolding bounds bound
bounds_lawful text =
    let digits : Lawful text bound = gives_lawful _ _ (then_lawful _ _ here_lawful number_lawful refl) in
    let comma = word_lawful (kind.Mark mark.Comma) in
    let right = word_lawful (kind.Mark mark.RightBrace) in
    or_lawful _ _
    (gives_lawful _ _ (then_lawful _ _ digits (then_lawful _ _ (optional_lawful _ (then_lawful _ _ comma (optional_lawful _ digits refl) refl) refl) right refl) refl))
    (gives_lawful _ _ (then_lawful _ _ comma (then_lawful _ _ digits right refl) refl))
    refl refl

pub quantifier_lawful : (text : List ℕ) → Lawful text quantifier
unfolding quantifier bounds bound
quantifier_lawful text =
    or_lawful _ _ (gives_lawful _ _ (word_lawful (kind.Mark mark.Asterisk)))
    (or_lawful _ _ (gives_lawful _ _ (word_lawful (kind.Mark mark.Plus)))
    (or_lawful _ _ (gives_lawful _ _ (word_lawful (kind.Mark mark.QuestionMark)))
    (gives_lawful _ _ (then_lawful _ _ (word_lawful (kind.Mark mark.LeftBrace)) (bounds_lawful text) refl)) refl refl) refl refl) refl refl

pub group_lawful : {text : List ℕ} (room : ℕ) (g : Grammar Tree) → Lawful text (as_pattern g) → Lawful text (group room (as_pattern g))
unfolding group
group_lawful room g inner =
    gives_lawful _ _ (then_lawful _ _ (opening_lawful room (kind.Mark mark.LeftParenthesis)) (then_lawful _ _ (optional_lawful _ inner refl) (word_lawful (kind.Mark mark.RightParenthesis)) refl) refl)

pub permute_lawful : {text : List ℕ} (room : ℕ) (g : Grammar Tree) → Lawful text (as_pattern g) → Lawful text (permute room (as_pattern g))
unfolding permute
permute_lawful room g inner =
    gives_lawful _ _ (then_lawful _ _ (word_lawful (kind.Keyword keyword.Permute)) (then_lawful _ _ (opening_lawful room (kind.Mark mark.LeftParenthesis))
    (then_lawful _ _ (listed_lawful _ inner refl refl) (word_lawful (kind.Mark mark.RightParenthesis)) refl) refl) refl)

pub exclusion_lawful : {text : List ℕ} (room : ℕ) (g : Grammar Tree) → Lawful text (as_pattern g) → Lawful text (exclusion room (as_pattern g))
unfolding exclusion
exclusion_lawful room g inner =
    gives_lawful _ _ (then_lawful _ _ (opening_lawful room (kind.Mark mark.LeftBraceMinus)) (then_lawful _ _ inner (word_lawful (kind.Mark mark.RightBraceMinus)) refl) refl)

pub primary_lawful : (text : List ℕ) (room : ℕ) (g : Grammar Tree) → Lawful text (as_pattern g) → Lawful text (primary room (as_pattern g))
unfolding primary group permute exclusion
primary_lawful text room g inner =
    let names : Lawful text name = one_lawful name_kinds name_in in
    or_lawful _ _ (gives_lawful _ _ names)
    (or_lawful _ _ (gives_lawful _ _ (word_lawful (kind.Mark mark.Circumflex)))
    (or_lawful _ _ (gives_lawful _ _ (word_lawful (kind.Mark mark.DollarSign)))
    (or_lawful _ _ (group_lawful room g inner)
    (or_lawful _ _ (permute_lawful room g inner) (exclusion_lawful room g inner) refl refl) refl refl) refl refl) refl refl) refl refl

pub factor_lawful : (text : List ℕ) (room : ℕ) (g : Grammar Tree) → Lawful text (as_pattern g) → Lawful text (factor room (as_pattern g))
unfolding factor quantifier bounds bound primary group permute exclusion
factor_lawful text room g inner =
    gives_lawful _ _ (then_lawful _ _ (primary_lawful text room g inner)
    (optional_lawful _ (gives_lawful _ _ (then_lawful _ _ (quantifier_lawful text) (optional_lawful _ (word_lawful (kind.Mark mark.QuestionMark)) refl) refl)) refl) refl)

pub sequence_lawful : (text : List ℕ) (room : ℕ) (g : Grammar Tree) → Lawful text (as_pattern g) → Lawful text (sequence room (as_pattern g))
unfolding sequence factor quantifier bounds bound primary group permute exclusion
sequence_lawful text room g inner =
    let one = factor_lawful text room g inner in
    gives_lawful _ _ (then_lawful _ _ one (many_lawful _ one refl refl) refl)

pub alternatives_lawful : (text : List ℕ) (room : ℕ) (g : Grammar Tree) → Lawful text (as_pattern g) → Lawful text (alternatives room (as_pattern g))
unfolding alternatives sequence factor quantifier bounds bound primary group permute exclusion
alternatives_lawful text room g inner =
    let one = sequence_lawful text room g inner in
    gives_lawful _ _ (then_lawful _ _ one (many_lawful _ (gives_lawful _ _ (then_lawful _ _ (word_lawful (kind.Mark mark.VerticalBar)) one refl)) refl refl) refl)

pub deeper_lawful : (text : List ℕ) (room : ℕ) → Lawful text (as_pattern (deeper room))
unfolding deeper alternatives sequence factor quantifier bounds bound primary group permute exclusion
deeper_lawful text zero = under_lawful pattern_kinds after_pattern never never_lawful refl refl refl
deeper_lawful text (suc room) = under_lawful pattern_kinds after_pattern (alternatives room (inside room)) (alternatives_lawful text room (deeper room) (deeper_lawful text room)) refl refl refl
