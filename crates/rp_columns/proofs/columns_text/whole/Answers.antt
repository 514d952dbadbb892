use Rattle.std.proofs.Common.{◌≡◌, map, length, arith}
use Rattle.rp_grammar.proofs.Texts.{text_deep, text_derived, text_left, text_misplaced}
use Rattle.rp_columns.specs.ColumnsGrammar.{columns, written_tree}
use Rattle.rp_columns.proofs.ColumnsLaws.{columns_lawful}
use Rattle.rp_columns.proofs.columns_text.whole.Goals as goal

pub returns-then-not-is_empty-clause-fault : goal.returns-then-not-is_empty-clause-fault
returns-then-not-is_empty-clause-fault c =
    let some : length c.in-Ok.rest.now ≡ 0 → ⊥ = λ none. grind arith in
    rw c.place.ensures (text_left columns (columns_lawful c.args.text.now) c.law_lexes.ensures.one_list c.args.tokens.now c.in-Ok.rest.now (map written_tree c.in-Ok.written.items) c.requires.lexed some c.in-Ok.ensures.exact)

pub returns-else-not-is_empty-clause-written : goal.returns-else-not-is_empty-clause-written
returns-else-not-is_empty-clause-written c =
    let none : length c.in-Ok.rest.now ≡ 0 = grind arith in
    text_derived columns (columns_lawful c.args.text.now) c.args.tokens.now c.in-Ok.rest.now (map written_tree c.in-Ok.written.items) c.requires.lexed none c.in-Ok.ensures.exact

pub returns-in-Err-Expected-clause-fault : goal.returns-in-Err-Expected-clause-fault
returns-in-Err-Expected-clause-fault c =
    text_misplaced columns (columns_lawful c.args.text.now) c.law_lexes.ensures.one_list c.args.tokens.now c.in-Err-Expected.at c.requires.lexed (rw c.in-Err-Expected.field-0-is at c.in-Err-Expected.ensures.exact)

pub returns-in-Err-Deep-clause-fault : goal.returns-in-Err-Deep-clause-fault
returns-in-Err-Deep-clause-fault c =
    text_deep columns (columns_lawful c.args.text.now) c.law_lexes.ensures.one_list c.args.tokens.now c.in-Err-Deep.at c.requires.lexed (rw c.in-Err-Deep.field-0-is at c.in-Err-Deep.ensures.exact)
