use Rattle.std.proofs.Common.{◌<◌, length}
use Rattle.rp_words.specs.Numbers.{most_u64}
use Rattle.rp_pattern.specs.Choices.{kept, start_of}
use Rattle.rp_search.specs.Memo.{StillRemembers}
use Rattle.rp_search.specs.Work.{LastsAll, NoneOrEver, NotesAll, TakeLess}
use Rattle.rp_search.proofs.memo.Memo.note_marks.Given as goal

abbrev pub invariant-marks : goal.invariant-marks
invariant-marks g l =
    StillRemembers l.self l.choices (g.T.Tests.asked (g.T.Tests.subject l.tests))
    × (TakeLess l.choices (g.T.Tests.asked (g.T.Tests.subject l.tests)) l.fn.self.marks → TakeLess l.choices (g.T.Tests.asked (g.T.Tests.subject l.tests)) l.self.marks)
    × NotesAll (kept l.choices) (start_of l.choices) l.fn.self l.self
    × (start_of l.choices < most_u64 → NoneOrEver l.fn.self.marks l.until → LastsAll l.fn.self → LastsAll l.self)

abbrev pub decreases-marks : goal.decreases-marks
decreases-marks g l = length l.self.marks
