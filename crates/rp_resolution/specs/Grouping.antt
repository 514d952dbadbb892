-- Inside: chains of AND and OR, which are grouped from the right.
use Rattle.std.specs.Prelude.{◌≡◌, List, [], ◌∷◌, ◌++◌}
use Rattle.rp_tree.specs.declared.tree.Operation.{Operation}
use Rattle.rp_tree.specs.Terms.{Term, Operate}
use Rattle.rp_resolution.specs.declared.resolved.Resolved.{Resolved}
use Rattle.rp_query.specs.Formulas.{PlainTotal}
use Rattle.rp_resolution.specs.Context.{Context}
use Rattle.rp_resolution.specs.Checked.{Resolves}

-- what stands left of a term, the nearest first, and the term
abbrev pub wrapped : List (Term × Operation) → Term → Term
wrapped [] t = t
wrapped (p ∷ ps) t = wrapped ps (Operate p.0 p.1 t)

-- what stands left is resolved, in a list that has the nearest last
abbrev pub AreLefts : Context → List PlainTotal → List (Term × Operation) → List (Resolved × Operation)
    → List PlainTotal → Type 0
AreLefts x before [] lefts now = (lefts ≡ []) × (now ≡ before)
AreLefts x before (p ∷ ps) lefts now =
    (others : List (Resolved × Operation)) × (r : Resolved) × (mid : List PlainTotal)
    × (lefts ≡ others ++ (r, p.1) ∷ []) × AreLefts x before ps others mid × Resolves x mid p.0 r now
