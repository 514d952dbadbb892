use Rattle.std.proofs.Common.{sym, ◌∙◌, option_map, subst}
use Rattle.rp_node.specs.GoingBack.{HasSaved}
use Rattle.rp_node.specs.Restarting.{RestartsTo}
use Rattle.rp_node.proofs.requests.NodeKeeps.go_back.Goals as goal

pub returns-in_default : goal.returns-in_default
returns-in_default c = record {
  query = c.new.ensures.query ∙ c.into_query-query.ensures;
  records = subst (λ o. HasSaved c.args.self.query (option_map (λ bytes. bytes.items) o) c.new.result.records) (sym c.in_default.is) c.new.ensures.none;
  bounded = c.new.ensures.bounded;
}

pub returns-in-Ok : goal.returns-in-Ok
returns-in-Ok c =
    let records = c.in-Ok.node.records in
    let read = subst (λ bytes. RestartsTo c.into_query-query.result bytes records) c.as_slice.ensures.value c.in-Ok.ensures.restarts in
    let restarts = subst (λ q. RestartsTo q c.in-Some.bytes.items records) c.into_query-query.ensures read in
    record {
      query = c.in-Ok.ensures.query ∙ c.into_query-query.ensures;
      records = subst (λ o. HasSaved c.args.self.query (option_map (λ bytes. bytes.items) o) records) (sym c.in-Some.is) restarts;
      bounded = c.in-Ok.ensures.bounded;
    }
