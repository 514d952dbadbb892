use Rattle.std.proofs.Common.{sym, ◌∙◌, arith}
use Rattle.rp_lexer.proofs.Doubled.{enclosed_same}
use Rattle.rp_lexer.proofs.Readings.{one_token_list, one_first_fault, no_tokens_with_fault, each_stands}
use Rattle.rp_lexer.specs.Laws.{OneNameMeaning}
use Rattle.rp_lexer.specs.declared.kind.TokenKind.TheVariants as kind
use Rattle.rp_lexer.proofs.laws.law_lexes.Goals as goal

pub returns-clause-one_list : goal.returns-clause-one_list
returns-clause-one_list c = one_token_list

pub returns-clause-one_fault : goal.returns-clause-one_fault
returns-clause-one_fault c = one_first_fault

pub returns-clause-exclusive : goal.returns-clause-exclusive
returns-clause-exclusive c = no_tokens_with_fault

pub returns-clause-each_stands : goal.returns-clause-each_stands
returns-clause-each_stands c = each_stands

one_name_meaning : OneNameMeaning
one_name_meaning kind.Name bytes name other a b = a ∙ sym b
one_name_meaning (kind.Keyword word) bytes name other a b = absurd a
one_name_meaning kind.Quoted bytes name other a b = enclosed_same 34 name other (λ e. omega arith) (sym a ∙ b)
one_name_meaning kind.Text bytes name other a b = absurd a
one_name_meaning kind.Number bytes name other a b = absurd a
one_name_meaning (kind.Mark mark) bytes name other a b = absurd a

pub returns-clause-one_name : goal.returns-clause-one_name
returns-clause-one_name c = one_name_meaning

pub returns-clause-one_text : goal.returns-clause-one_text
returns-clause-one_text c = λ bytes text other a b. enclosed_same 39 text other (λ e. omega arith) (sym a ∙ b)
