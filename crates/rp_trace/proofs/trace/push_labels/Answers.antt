use Rattle.std.proofs.Common.{◌≡◌, ℕ, ◌+◌, ◌<◌, List, [], ◌∷◌, ◌++◌, length, get_or, map, take, append_assoc, arith}
use Rattle.std.proofs.lemmas.List.{map_more}
use Rattle.rp_words.specs.declared.word.Label.{Label}
use Rattle.rp_trace.proofs.trace.push_labels.Goals as goal

-- one more letter, for the label at k
lettered-more : (labels : List Label) (k : ℕ) (d : Label) (start old new : List ℕ) → k < length labels → old ≡ start ++ map (λ label. label.var + 65) (take k labels)
    → new ≡ old ++ (65 + (get_or labels k d).var) ∷ [] → new ≡ start ++ map (λ label. label.var + 65) (take (k + 1) labels)
lettered-more labels k d start old new below is more =
    let swapped : 65 + (get_or labels k d).var ≡ (get_or labels k d).var + 65 = omega arith in
    rw (more, is, swapped, map_more (λ (label : Label). label.var + 65) labels k d below)
    (append_assoc start (map (λ label. label.var + 65) (take k labels)) (((get_or labels k d).var + 65) ∷ []))

pub loop-label-preserved : goal.loop-label-preserved
loop-label-preserved c =
    lettered-more c.args.labels.now c.loop-label.label-index _ c.args.text.now.items c.loop-label.text.items c.push.new.self.items c.loop-label-test.true c.loop-label.invariant c.in_ok-push.ensures.items
