use Rattle.std.proofs.Common.{rules, ◌≡◌, ◌∙◌, ◌++◌, ◌∷◌, [], map, ap, sym}
use Rattle.std.proofs.lemmas.List.{map_push}
use Rattle.rp_columns.specs.ColumnsGrammar.{column, columns, written_tree}
use Rattle.rp_grammar.proofs.Loops.{list_ends}
use Rattle.rp_columns.proofs.Items.{first_item, item_behind}
use Rattle.rp_columns.proofs.grammar.columns.Goals as goal

pub items-init : goal.items-init
items-init c = record {
  stands = search rules;
  no_longer = search rules;
  reads = rw c.new-items.ensures.items (first_item c.args.text.now column c.args.tokens.now);
}

pub items-preserved : goal.items-preserved
items-preserved c =
    let before = c.items.items.items in
    let item = c.in_ok-item.item in
    let seen : map written_tree c.push.new.self.items ≡ map written_tree before ++ written_tree item ∷ [] = ap (map written_tree) c.in_ok-push.ensures.items ∙ map_push written_tree before item in
    record {
      stands = search rules;
      no_longer = search rules;
      reads = rw seen (item_behind c.args.text.now column (map written_tree before) c.items.rest.now c.in_ok-item.left.now c.in-Some.next.now _ (written_tree item) (columns.read c.args.text.now c.args.tokens.now)
          c.in_ok-item.ensures.exact c.in_ok-item.ensures.shorter c.in-Some.ensures.exact c.in-Some.ensures.shorter c.items.invariant.reads);
    }

pub returns-in_err-item : goal.returns-in_err-item
returns-in_err-item c =
    let none = c.items.invariant.reads.refused c.in_err-item.field-0.0 c.in_err-item.ensures.exact in
    search (rules, none)

pub returns-in-None : goal.returns-in-None
returns-in-None c =
    let before = c.items.items.items in
    let item = c.in_ok-item.item in
    let seen : map written_tree c.push.new.self.items ≡ map written_tree before ++ written_tree item ∷ [] = ap (map written_tree) c.in_ok-push.ensures.items ∙ map_push written_tree before item in
    let read = c.items.invariant.reads.taken (written_tree item) c.in_ok-item.left.now c.in_ok-item.ensures.exact c.in_ok-item.ensures.shorter in
    record {
      exact = rw seen (list_ends c.args.text.now column (sym c.in-None.ensures.starts) read);
      stands = c.in_ok-item.ensures.stands;
      shorter = search rules;
    }
