use Rattle.std.proofs.Common.{◌≡◌, ◌++◌, ◌∙◌, [], append_assoc, ap, codes, encode_utf8_all, string_bytes, sym, rules}
use Rattle.rp_place.specs.Drawn.{before_marks, heading, marks, place_line, said}
use Rattle.rp_place.proofs.Aligned.{encodes-marks_line}
use Rattle.rp_place.proofs.Seams.{joined}
use Rattle.rp_place.proofs.drawing.drawing_of.Goals as goal

pub returns : goal.returns
returns c =
    let place = c.args.place.now in
    let told = heading c.args.name.now place in
    let marked = encode_utf8_all (before_marks place.line place.front.now ++ marks place.part.now) in
    let first : string_bytes c.push_heading.new.out ≡ [] ++ told = search rules in
    let second : string_bytes c.push_line.new.out ≡ string_bytes c.push_heading.new.out ++ place_line place = search rules in
    let third : string_bytes c.push_marks.new.out ≡ string_bytes c.push_line.new.out ++ marked =
    rw (encodes-marks_line place.line place.front.now place.part.now, ← c.in_ok-widths.ensures.number, ← c.in_ok-widths.ensures.front, ← c.in_ok-widths.ensures.part)
    (search rules) in
    let last : string_bytes c.push_said.new.out ≡ string_bytes c.push_marks.new.out ++ (said c.args.what.now ++ codes "\n") = search rules in
    joined [] told (place_line place) marked (said c.args.what.now ++ codes "\n") _ _ _ _ first second third last
    ∙ ap (λ bs. told ++ place_line place ++ bs) (sym (append_assoc marked (said c.args.what.now) (codes "\n")))
