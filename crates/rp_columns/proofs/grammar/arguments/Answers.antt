use Rattle.std.proofs.Common.{rules, sym}
use Rattle.rp_lexer.specs.declared.kind.TokenKind.TheVariants as kind
use Rattle.rp_lexer.specs.declared.kind.Mark.TheVariants as mark
use Rattle.rp_grammar.specs.Grammar.{◌then◌, gives, second, word}
use Rattle.rp_grammar.proofs.Loops.{list_ends, list_goes_on, list_refused, many_starts}
use Rattle.rp_columns.specs.ColumnsGrammar.{argument}
use Rattle.rp_columns.proofs.grammar.arguments.Goals as goal

pub items-init : goal.items-init
items-init c = record {
  stands = search rules;
  no_longer = search rules;
  reads = rw c.new-items.ensures.items (many_starts c.args.text.now (gives second (word (kind.Mark mark.Comma) then argument)) c.args.tokens.now);
}

pub items-preserved : goal.items-preserved
items-preserved c = record {
  stands = search rules;
  no_longer = search rules;
  reads = list_goes_on c.args.text.now argument c.in_ok-push.ensures.items c.in-Some.ensures.exact c.in_ok-item.ensures.exact (search rules) c.items.invariant.reads;
}

pub returns-in_err-item : goal.returns-in_err-item
returns-in_err-item c =
    let none = list_refused c.args.text.now argument c.in_err-item.field-0.0 c.in-Some.ensures.exact c.in_err-item.ensures.exact c.items.invariant.reads in
    search (rules, none)

pub returns : goal.returns
returns c = record {
  exact = list_ends c.args.text.now argument (sym c.in_default.ensures.starts) c.items.invariant.reads;
  stands = c.items.invariant.stands;
  no_longer = c.items.invariant.no_longer;
}
