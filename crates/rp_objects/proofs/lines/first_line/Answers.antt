use Rattle.std.proofs.Common.{◌≡◌, ◌<◌, ◌+◌, ◌-◌, ◌∷◌, ◌∙◌, drop, length, take, ap, subst, arith}
use Rattle.std.proofs.lemmas.Bool.Decides.{nat_tests}
use Rattle.std.proofs.lemmas.List.{length-drop, take_all}
use Rattle.rp_io.proofs.Cutting.{lines-front, lines-last}
use Rattle.rp_io.specs.Lines.{IsLfFree, lines_of}
use Rattle.rp_objects.proofs.lines.first_line.Goals as goal

pub returns-then-end-text-clause-some : goal.returns-then-end-text-clause-some
returns-then-end-text-clause-some c =
    let text = c.args.text.now in
    let all : take c.line_length-end.result text ≡ text = take_all c.line_length-end.result text (omega arith) in
    let free : IsLfFree text = subst IsLfFree all c.line_length-end.ensures.before in
    let some : 0 < length text = grind (arith, nat_tests) in
    (lines-last text free (λ none. omega arith), some)

pub returns-clause-some : goal.returns-clause-some
returns-clause-some c =
    let text = c.args.text.now in
    let end = c.line_length-end.result in
    let low : end < length text = omega arith in
    let rest : take (length text - (end + 1)) (drop (end + 1) text) ≡ drop (end + 1) text = take_all (length text - (end + 1)) (drop (end + 1) text) (omega (arith, length-drop (end + 1) text)) in
    let lines : lines_of text ≡ take end text ∷ lines_of (drop (end + 1) text) = ap lines_of (c.line_length-end.ensures.found low) ∙ lines-front (take end text) (drop (end + 1) text) c.line_length-end.ensures.before in
    let fewer : length (drop (end + 1) text) < length text = omega (arith, length-drop (end + 1) text) in
    rw rest (lines, fewer)
