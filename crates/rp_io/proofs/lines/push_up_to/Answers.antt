use Rattle.std.proofs.Common.{◌≡◌, ℕ, ◌+◌, ◌-◌, ◌≤◌, List, ◌++◌, length, take, arith, ap, ◌∙◌, sym, min, vec_len, rules}
use Rattle.std.proofs.Math.Seq.{take-append-add}
use Rattle.std.proofs.lemmas.List.{take_min}
use Rattle.rp_io.proofs.lines.push_up_to.Goals as goal

room : (kept n : ℕ) (old bytes : List ℕ) → n ≡ length old → n ≤ kept → old ++ take (min (kept - n) (length bytes)) bytes ≡ take kept (old ++ bytes)
room kept n old bytes is fits =
    let all : kept ≡ length old + (kept - n) = omega arith in
    ap (λ t. old ++ t) (take_min (kept - n) bytes) ∙ sym (take-append-add old bytes (kept - n)) ∙ ap (λ k. take k (old ++ bytes)) (sym all)

pub returns-clause-front : goal.returns-clause-front
returns-clause-front c =
    let shorter : c.min.result ≡ min (c.args.kept - vec_len c.args.line.now) (length c.args.bytes.now) = search rules in
    c.in_ok-extend_from_slice.ensures.items ∙ ap (λ n. c.args.line.now.items ++ take n c.args.bytes.now) shorter
    ∙ room c.args.kept (vec_len c.args.line.now) c.args.line.now.items c.args.bytes.now c.args.line.now.ok.0 c.requires
