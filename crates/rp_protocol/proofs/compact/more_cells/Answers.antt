use Rattle.std.proofs.Common.{◌≡◌, ◌∙◌, ◌++◌, [], ◌∷◌, ap, sym, drop, rules, subst, true}
use Rattle.std.specs.Prelude.{codes}
use Rattle.std.specs.Result.{is_ok}
use Rattle.std.proofs.lemmas.List.Elements.{All-append, All-cons, All-nil}
use Rattle.rp_protocol.specs.ReplyLines.{value_text, values_text}
use Rattle.rp_protocol.specs.Within.{AreCells, IsCell}
use Rattle.rp_protocol.proofs.CellTexts.{later_more, later_values, whole_list}
use Rattle.rp_protocol.proofs.compact.more_cells.Goals as goal

pub returns-in-Some : goal.returns-in-Some
returns-in-Some c =
    let first = c.args.first in
    let later = drop 1 c.loop.cells.items in
    let end = c.in-Some.end.now in (
      ap (λ t. codes "[" ++ (value_text first ++ t)) (c.loop.invariant.text ∙ ap (λ t. later_values later ++ t) c.in-Some.ensures)
          ∙ whole_list first later end
          ∙ ap (λ vs. values_text vs ++ end) (sym (c.new.ensures ∙ c.loop.invariant.first)),
      subst AreCells (sym c.new.ensures) c.loop.invariant.within,
    )

pub loop-preserved : goal.loop-preserved
loop-preserved c =
    let v = c.in-Some-2.cell in
    let end = c.in-Some-2.end.now in
    let cells = c.loop.cells.items in
    let later = drop 1 cells in
    let good : is_ok c.push-in-loop.result ≡ true = search rules in
    let items : c.push-in-loop.new.self.items ≡ cells ++ v ∷ [] = rw good at c.push-in-loop.ensures.items in
    let read : (c.in-Some-after.next.now ≡ value_text v ++ end) × IsCell v = search rules in
    let grown : c.push-in-loop.new.self.items ≡ c.args.first ∷ (later ++ v ∷ []) = items ∙ ap (λ t. t ++ v ∷ []) c.loop.invariant.first in
    let one_more : drop 1 c.push-in-loop.new.self.items ≡ later ++ v ∷ [] = ap (λ t. drop 1 t) grown in
    record {
      first = grown ∙ ap (λ t. c.args.first ∷ t) (sym one_more);
      text = c.loop.invariant.text
          ∙ ap (λ t. later_values later ++ t) (c.in-Some-after.ensures ∙ ap (λ t. codes "," ++ t) read.0)
          ∙ later_more later v end
          ∙ ap (λ t. later_values t ++ end) (sym one_more);
      within = subst AreCells (sym items) (All-append IsCell cells (v ∷ []) c.loop.invariant.within (All-cons IsCell v [] read.1 (All-nil IsCell)));
    }
