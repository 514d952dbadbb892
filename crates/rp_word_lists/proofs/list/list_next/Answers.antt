use Rattle.std.proofs.Common.{◌≡◌, ◌∷◌, ◌++◌, [], arith, sym, ap, ◌∙◌, refl, subst, append_assoc, rules}
use Rattle.rp_words.specs.Mapping.{Open}
use Rattle.rp_words.specs.Later.{IsLater}
use Rattle.rp_pattern.specs.Choices.{IsOpenWord, entered, remaining, below}
use Rattle.rp_pattern.specs.Ways.{IsNumbered}
use Rattle.rp_word_lists.proofs.list.list_next.Goals as goal

pub returns-in_ok-list_word-in-Open-clause-lists : goal.returns-in_ok-list_word-in-Open-clause-lists
returns-in_ok-list_word-in-Open-clause-lists c =
    let a = c.args in
    let n = a.last in
    let e = a.end in
    let old = a.choices.now in
    let mid = c.take_up.new.self in
    let new = c.list_word-in-Open.new.choices in
    let listed = a.list.now.items in
    let taken : IsOpenWord old mid n e = search rules in
    let now : IsLater n e n e = (omega arith, λ h. (refl, h)) in
    let none : taken.more ≡ [] = taken.alone (λ h. c.requires.linked (subst IsNumbered c.in_ok-take_up.ensures.keeps h)) in
    let first : remaining old n e ≡ Open (entered mid) ∷ below mid n e =
    sym (taken.same.words n e now) ∙ taken.first ∙ ap (λ z. Open (entered mid) ∷ z ++ below mid n e) none in
    let list = c.in_ok-list_word-in-Open.ensures in
    record {
      words = ap (λ z. z ++ remaining new n e) list.list ∙ ap (λ z. (listed ++ Open (entered mid) ∷ []) ++ z) (list.remaining n e)
          ∙ append_assoc listed (Open (entered mid) ∷ []) (below mid n e) ∙ ap (λ z. listed ++ z) (sym first);
      turns = omega (arith, list.left n e, taken.less_below n e now, taken.same.turns n e now);
    }
