-- What is seen of a search after a poll, once rows are dropped.
use Rattle.std.proofs.Common.{◌≡◌, ℕ, Bool, true, false, Option, Some, None, refl, sym, ◌∙◌, ap, subst, arith}
use Rattle.std.specs.Prelude.{IfSome}
use Rattle.rp_query.specs.declared.query.QueryData.{QueryData}
use Rattle.rp_known.specs.Known.{Known, count}
use Rattle.rp_walker.specs.declared.poll.Poll.{Poll}
use Rattle.rp_walker.specs.declared.poll.Poll.TheVariants.{Paused as PausedPoll}
use Rattle.rp_walker.specs.declared.record.MatcherState.{MatcherState}
use Rattle.rp_walker.specs.Bound.{IsSeenAs, SearchSeen, SeenWorks, left_before}

module _ (taken : ℕ) (q : QueryData) (p : Known) (o n n' : Option SearchSeen) (r r' r'' : MatcherState) (answer : Poll) (matches : r''.matches ≡ r'.matches) where
  goes_on : n' ≡ n → SeenWorks taken q p o n r r' answer → SeenWorks taken q p o n' r r'' answer
  goes_on same works = record {
    same = λ f s is some. works.same f s (sym same ∙ is) some;
    falls = λ f s is some equal. works.falls f s (sym same ∙ is) some (sym matches ∙ equal);
  }

  let_go : n' ≡ None → SeenWorks taken q p o n' r r'' answer
  let_go none = record {
    same = λ f s is some. absurd (let e : None ≡ Some s = sym none ∙ is in cc);
    falls = λ f s is some equal. absurd (let e : None ≡ Some s = sym none ∙ is in cc);
  }

  -- once the answer is over, the search is let go of
  pub dropped_works : (r'.over ≡ false → n' ≡ n) → (r'.over ≡ true → n' ≡ None) → SeenWorks taken q p o n r r' answer → SeenWorks taken q p o n' r r'' answer
  dropped_works stays gone works = go r'.over refl
    where
      go : (b : Bool) → r'.over ≡ b → SeenWorks taken q p o n' r r'' answer
      go true e = let_go (gone e)
      go false e = goes_on (stays e) works

-- no turn was taken
pub none_works : (taken : ℕ) (q : QueryData) (p : Known) (o : Option SearchSeen) (r : MatcherState) → taken ≡ 0 → SeenWorks taken q p o o r r PausedPoll
none_works taken q p o r none = record {
  same = λ f s is some. subst (λ z. IfSome z (IsSeenAs s)) (sym is) (refl, refl);
  falls = λ f s is some equal. (let left : left_before o s (count p) r ≡ s.left = ap (λ z. left_before z s (count p) r) is in omega (arith, left, none));
}
