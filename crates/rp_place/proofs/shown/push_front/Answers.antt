use Rattle.std.proofs.Common.{◌∙◌, ap, string_bytes, rules, false}
use Rattle.std.proofs.lemmas.Str.{IsUtf8-string_bytes}
use Rattle.unicode_width.specs.Width.{str_width}
use Rattle.rp_place.specs.Shown.{shown_front}
use Rattle.rp_place.proofs.Seams.{chars-seam, cut_at_seam}
use Rattle.rp_place.proofs.shown.push_front.Goals as goal

pub width_from-requires : goal.width_from-requires
width_from-requires c =
    let old = c.args.out.now in
    cut_at_seam (string_bytes old) c.as_str.result.now (shown_front c.args.front.now) c.len-start.result
    (search rules) (search rules) (IsUtf8-string_bytes old) c.as_str.utf8

pub returns-clause-width : goal.returns-clause-width
returns-clause-width c =
    let old = c.args.out.now in
    let seam = chars-seam (string_bytes old) c.as_str.result.now (shown_front c.args.front.now) c.len-start.result
    (search rules) (search rules) (IsUtf8-string_bytes old) c.as_str.utf8 in
    c.width_from.ensures ∙ ap (str_width false) seam
