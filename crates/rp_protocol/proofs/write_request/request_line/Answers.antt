use Rattle.std.proofs.Common.{◌≡◌, ◌≤◌, ap, ◌∙◌, false}
use Rattle.std.proofs.lemmas.Result.{IfOk-weaker}
use Rattle.serde_json.specs.Data.{depth}
use Rattle.serde_json.specs.View.{view}
use Rattle.serde_json.specs.Written.{compact_text, has_float}
use Rattle.rp_json.proofs.Reading.{ok-both}
use Rattle.rp_protocol.proofs.LineTexts.{request_written}
use Rattle.rp_protocol.proofs.RequestObjects.{asked_line, request_depth, request_has_no_float}
use Rattle.rp_protocol.proofs.write_request.request_line.Goals as goal

pub returns-clause-text : goal.returns-clause-text
returns-clause-text c =
    let whole : has_float (view c.in_ok-json.json) ≡ false = rw c.in_ok-json.ensures.data (request_has_no_float c.args.request.now) in
    IfOk-weaker c.to_vec.result _ _ (λ b h. h whole ∙ ap compact_text c.in_ok-json.ensures.data ∙ request_written c.args.request.now) c.to_vec.ensures.text

pub returns-clause-back : goal.returns-clause-back
returns-clause-back c =
    let shallow : depth (view c.in_ok-json.json) ≤ 127 = rw c.in_ok-json.ensures.data (request_depth c.args.request.now) in
    let d = view c.in_ok-json.json in
    ok-both c.to_vec.result _ _ _ (λ b text read. asked_line b.items d c.args.request.now text (read shallow) c.in_ok-json.ensures.data c.in_ok-json.ensures.back) c.to_vec.ensures.utf8 c.to_vec.ensures.reads_back
