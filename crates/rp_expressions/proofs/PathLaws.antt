-- What is read of navigations is derived, and what is derived is read.
use Rattle.std.proofs.Common.{ℕ, zero, suc, List, [], ◌∷◌, refl}
use Rattle.rp_lexer.specs.declared.kind.TokenKind.TheVariants as kind
use Rattle.rp_lexer.specs.declared.kind.Mark.TheVariants as mark
use Rattle.rp_lexer.specs.declared.kind.Keyword.TheVariants as keyword
use Rattle.rp_tree.specs.Paths.{Path}
use Rattle.rp_grammar.specs.Names.{name, name_kinds, name_in}
use Rattle.rp_grammar.specs.Grammar.{Grammar, never}
use Rattle.rp_expressions.specs.NavigationGrammar.{argument, as_path, column, deeper_path, edge, ending, inside_path, key, offset, path, path_kinds, plain, scope}
use Rattle.rp_grammar.proofs.Laws.{Lawful, here_lawful, number_lawful, one_lawful, word_lawful, then_lawful, or_lawful, gives_lawful, optional_lawful, opening_lawful, never_lawful, under_lawful}

pub name_lawful : (text : List ℕ) → Lawful text name
name_lawful text = one_lawful name_kinds name_in

pub column_lawful : (text : List ℕ) → Lawful text column
unfolding column
column_lawful text = gives_lawful _ _ (then_lawful _ _ (name_lawful text) (optional_lawful _ (gives_lawful _ _ (then_lawful _ _ (word_lawful (kind.Mark mark.Period)) (name_lawful text) refl)) refl) refl)

pub scope_lawful : {text : List ℕ} → Lawful text scope
unfolding scope
scope_lawful = or_lawful _ _ (gives_lawful _ _ (word_lawful (key keyword.Running))) (gives_lawful _ _ (word_lawful (key keyword.Final))) refl refl

ending_lawful : (text : List ℕ) → Lawful text ending
unfolding ending offset
ending_lawful text =
    gives_lawful _ _ (then_lawful _ _ (optional_lawful _ (gives_lawful _ _ (then_lawful _ _ (word_lawful (kind.Mark mark.Comma)) (gives_lawful _ _ (then_lawful _ _ here_lawful number_lawful refl)) refl)) refl) (word_lawful (kind.Mark mark.RightParenthesis)) refl)

pub argument_lawful : (text : List ℕ) (room : ℕ) (g : Grammar Path) → Lawful text (as_path g) → Lawful text (argument room (as_path g))
unfolding argument ending offset
argument_lawful text room g inner =
    gives_lawful _ _ (then_lawful _ _ (opening_lawful room (kind.Mark mark.LeftParenthesis)) (then_lawful _ _ inner (ending_lawful text) refl) refl)

pub plain_lawful : (text : List ℕ) (room : ℕ) (g : Grammar Path) → Lawful text (as_path g) → Lawful text (plain room (as_path g))
unfolding plain column argument ending offset
plain_lawful text room g inner =
    or_lawful _ _ (gives_lawful _ _ (column_lawful text))
    (or_lawful _ _ (gives_lawful _ _ (then_lawful _ _ (word_lawful (key keyword.Prev)) (argument_lawful text room g inner) refl))
    (gives_lawful _ _ (then_lawful _ _ (word_lawful (key keyword.Next)) (argument_lawful text room g inner) refl)) refl refl) refl refl

pub edge_lawful : (text : List ℕ) (room : ℕ) (g : Grammar Path) → Lawful text (as_path g) → Lawful text (edge room (as_path g))
unfolding edge argument ending offset
edge_lawful text room g inner =
    or_lawful _ _ (gives_lawful _ _ (then_lawful _ _ (word_lawful (key keyword.First)) (argument_lawful text room g inner) refl))
    (gives_lawful _ _ (then_lawful _ _ (word_lawful (key keyword.Last)) (argument_lawful text room g inner) refl)) refl refl

pub path_lawful : (text : List ℕ) (room : ℕ) (g : Grammar Path) → Lawful text (as_path g) → Lawful text (path room (as_path g))
unfolding path plain column edge scope argument ending offset
path_lawful text room g inner =
    or_lawful _ _ (plain_lawful text room g inner) (gives_lawful _ _ (then_lawful _ _ (optional_lawful _ scope_lawful refl) (edge_lawful text room g inner) refl)) refl refl

pub deeper_path_lawful : (text : List ℕ) (room : ℕ) → Lawful text (as_path (deeper_path room))
unfolding deeper_path path plain column edge scope argument ending offset
deeper_path_lawful text zero = under_lawful path_kinds (kind.Mark mark.Period ∷ []) never never_lawful refl refl refl
deeper_path_lawful text (suc room) = under_lawful path_kinds (kind.Mark mark.Period ∷ []) (path room (inside_path room)) (path_lawful text room (deeper_path room) (deeper_path_lawful text room)) refl refl refl
