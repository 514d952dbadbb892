use Rattle.std.proofs.Common.{◌+◌, ◌≤◌, ℕ, Option, Some, None, arith, subst, sym}
use Rattle.std.specs.Prelude.{IsSome, OnSome}
use Rattle.std.specs.List.{AllByRecursion}
use Rattle.rp_words.specs.LabelLaws.{IsBelow}
use Rattle.rp_words.specs.declared.word.End.{End}
use Rattle.rp_words.specs.declared.word.Seen.{Seen}
use Rattle.rp_words.specs.declared.word.Seen.TheVariants.{True, NotTrue, Open as OpenTest}
use Rattle.rp_pattern.specs.declared.choices.Choices.{Choices}
use Rattle.rp_pattern.specs.Choices.{start_of, entered, turns_left, whole_turns, whole_turns_from, turns_left_below}
use Rattle.rp_pattern.specs.declared.outlook.Outlook.{Outlook}
use Rattle.rp_pattern.specs.Outlooks.{turns_ahead}
use Rattle.rp_search.specs.Found.{Test}
use Rattle.rp_search.specs.Asked.{Asked, AskedExtend, AreBelow, StayFromEach, rows_from}
use Rattle.rp_search.specs.Search.{start_of_search, turns_from}
use Rattle.rp_search.specs.Fits.{ChoicesFit, AreAdmitted, unless_open, left_given, left_by, ChoicesStand, LabelsStand, LabelsBelow, MarksStand, MemoStands}
use Rattle.rp_search.proofs.ChoiceSteps.{now_later, stands_later, true_later, explores_later}
use Rattle.rp_search.proofs.LeftAlike.{left_alike}
use Rattle.rp_search.proofs.Marks.{remembers_later}
use Rattle.rp_search.proofs.Spending.{less_later}
use Rattle.rp_search.proofs.Moving.{work_grows}
use Rattle.rp_search.proofs.laws.law_search.Goals as goal

admitted_later : (outlook : Option Outlook) (c : Choices) (old new : Asked) → AskedExtend (start_of c) old new → ChoicesFit c old.known old.end (old.outcome (start_of c)) → AreAdmitted outlook c old.known old.end (old.outcome (start_of c)) → AreAdmitted outlook c new.known new.end (new.outcome (start_of c))
admitted_later None c old new x s a = true_later old.known new.known old.end new.end (old.outcome (start_of c)) (new.outcome (start_of c)) x.later (entered c) (rows_from (start_of c) old.known) x.stay s.known a
admitted_later (Some outlook) c old new x s a = explores_later old.known new.known old.end new.end (old.outcome (start_of c)) (new.outcome (start_of c)) x.later c outlook x.stay s.known a

pub returns-clause-stays : goal.returns-clause-stays
unfolding start_of_search ChoicesStand LabelsStand LabelsBelow MemoStands MarksStand
returns-clause-stays c = λ s old new x f.
    record {
      stands = stands_later old.known new.known old.end new.end (old.outcome (start_of s.choices)) (new.outcome (start_of s.choices)) x.later s.choices x.stay f.stands;
      labels = admitted_later s.outlook s.choices old new x f.stands f.labels;
      below = subst (λ k. AreBelow k (entered s.choices)) (sym x.variables) f.below;
      memo = remembers_later s.choices old new x s.memo f.memo;
      marks = less_later s.choices old new s.memo.marks x f.marks;
    }

either_bounded : (seen : Seen) (standing exploring most : ℕ) → standing ≤ most → exploring ≤ most → unless_open seen standing exploring ≤ most
either_bounded True standing exploring most h k = h
either_bounded NotTrue standing exploring most h k = h
either_bounded OpenTest standing exploring most h k = k

bounded : (outlook : Option Outlook) (c : Choices) (n : ℕ) (e : End) (test : Test) → ChoicesFit c n e test → AreAdmitted outlook c n e test → left_given outlook c n e test ≤ whole_turns c n e
bounded None c n e test s a = s.turns n e (now_later n e)
bounded (Some outlook) c n e test s a =
    either_bounded (test (entered c)) (turns_left c n e) (turns_left_below c n e + turns_ahead outlook n e) (whole_turns c n e) (s.turns n e (now_later n e))
    (omega (arith, s.turns n e (now_later n e), a.row.divides.turns n e (now_later n e), a.turns n e (now_later n e)))

pub returns-clause-bounded : goal.returns-clause-bounded
unfolding left_by turns_from start_of_search ChoicesStand LabelsStand whole_turns whole_turns_from start_of
returns-clause-bounded c = λ s asked f. bounded s.outlook s.choices asked.known asked.end (asked.outcome (start_of s.choices)) f.stands f.labels

pub returns-clause-same : goal.returns-clause-same
unfolding left_by start_of_search ChoicesStand LabelsStand
returns-clause-same c = λ s old new on back f. left_alike s old new on back f.stands.known

pub returns-clause-variables : goal.returns-clause-variables
returns-clause-variables c = λ form s k is below n e row.
    subst (λ ws. AllByRecursion (IsBelow k) ws) (sym (is.same_words n e row)) (c.law_labels.ensures k form below n e row)

pub returns-clause-work : goal.returns-clause-work
returns-clause-work c = work_grows

pub returns-clause-unnamed : goal.returns-clause-unnamed
returns-clause-unnamed c = λ start old new none later stay variables.
    record { later = later; stay = stay; variables = variables; remembered = subst (λ p. OnSome p (IsSome new.pattern × StayFromEach start old new)) (sym none) tt }
