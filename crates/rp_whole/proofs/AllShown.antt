-- A whole answer is shown.
use Rattle.std.proofs.Common.{◌≡◌, ℕ, Option, None, length, take, arith}
use Rattle.std.proofs.lemmas.List.{take_all}
use Rattle.rp_query.specs.declared.query.QueryData.{QueryData}
use Rattle.rp_known.specs.Walk.{known}
use Rattle.rp_numbering.specs.Partitions.{Part}
use Rattle.rp_whole.specs.Answers.{IsShown, Shown, closed}
use Rattle.rp_whole.specs.Writing.{shown_of}

abbrev pub part_shown : Shown → Part
part_shown s = s.part

-- all of a partition's answer
abbrev pub all_of : QueryData → Part → Shown
all_of q part = shown_of part (length (known q (closed part.1))) None

pub all_taken : (q : QueryData) (part : Part) → take (length (known q (closed part.1))) (known q (closed part.1)) ≡ known q (closed part.1)
all_taken q part = take_all (length (known q (closed part.1))) (known q (closed part.1)) (omega arith)

pub all_is_shown : (limit : Option ℕ) (q : QueryData) (part : Part) → IsShown limit q (all_of q part)
all_is_shown limit q part = record { all = λ none. all_taken q part; by_limit = tt }
