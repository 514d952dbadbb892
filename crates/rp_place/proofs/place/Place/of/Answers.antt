use Rattle.std.proofs.Common.{◌≡◌, ◌++◌, ◌-◌, take, drop, rules, take-append-drop}
use Rattle.rp_place.proofs.Cuts.{cut_at_is}
use Rattle.rp_place.specs.Places.{cut_at, rest}
use Rattle.rp_place.proofs.place.Place.of.Goals as goal

pub returns : goal.returns
returns c =
    let text = c.args.text.now in
    let begin = c.floor_char_boundary-start in
    let last = c.floor_char_boundary-length in
    let line = c.first_line-rest.result.now in
    let start : cut_at text c.args.span.start ≡ begin.result =
    cut_at_is text c.args.span.start begin.result begin.ensures.bound begin.ensures.boundary begin.ensures.nearest in
    let end : cut_at line c.saturating_sub.result ≡ last.result =
    cut_at_is line c.saturating_sub.result last.result last.ensures.bound last.ensures.boundary last.ensures.nearest in
    let same : line ≡ rest text c.args.span = rw start (search rules) in
    let length : c.saturating_sub.result ≡ c.args.span.end - begin.result = search rules in
    let front : c.split_at-2.result.0.now ≡ take last.result line = search rules in
    let back : c.split_at-2.result.1.now ≡ drop last.result line = search rules in
    let whole : take last.result line ++ drop last.result line ≡ line = take-append-drop last.result line in
    record { line = rw start (search rules); front = rw start (search rules); part = cc; rest = cc }
