-- Expressions that are resolved one after another.
use Rattle.std.proofs.Common.{◌≡◌, ◌∙◌, List, [], ◌∷◌, ◌++◌, refl, sym, append_assoc}
use Rattle.std.proofs.lemmas.List.{append-nil}
use Rattle.rp_tree.specs.Terms.{Term}
use Rattle.rp_resolution.specs.Context.{Context}
use Rattle.rp_query.specs.Formulas.{Formula, PlainTotal}
use Rattle.rp_resolution.specs.Queries.{formulas, totals_of}
use Rattle.rp_resolution.specs.Resolved.{resolved, totals}

-- so many are resolved, and the rest is still to be
pub record AreDone (x : Context) (before : List PlainTotal) (all : List Term) (done : List Formula) (now : List PlainTotal) (rest : List Term) : Type 0 where
  pub formulas : done ++ formulas x now rest ≡ formulas x before all
  pub totals : now ++ totals_of x rest ≡ before ++ totals_of x all

pub none_done : (x : Context) (before : List PlainTotal) (all : List Term) → AreDone x before all [] before all
none_done x before all = record { formulas = refl; totals = refl }

pub one_done : (x : Context) (before : List PlainTotal) (all : List Term) (done : List Formula) (now later : List PlainTotal) (t : Term) (ts : List Term) (f : Formula)
    → AreDone x before all done now (t ∷ ts) → f ≡ resolved x now t → later ≡ now ++ totals x t → AreDone x before all (done ++ f ∷ []) later ts
one_done x before all done now later t ts f a is grown = record {
  formulas = rw (grown, is) (append_assoc done (resolved x now t ∷ []) (formulas x (now ++ totals x t) ts) ∙ a.formulas);
  totals = rw grown (append_assoc now (totals x t) (totals_of x ts) ∙ a.totals);
}

pub all_done : (x : Context) (before : List PlainTotal) (all : List Term) (done : List Formula) (now : List PlainTotal) → AreDone x before all done now [] → (done ≡ formulas x before all) × (now ≡ before ++ totals_of x all)
all_done x before all done now a = (sym (append-nil done) ∙ a.formulas, sym (append-nil now) ∙ a.totals)
