-- A buffer that is filled.
use Rattle.std.proofs.Common.{◌≡◌, ℕ, arith, List, [], ◌++◌, length, take, drop}
use Rattle.std.proofs.lemmas.List.{append-nil, drop_all, take_all}

-- a buffer that was filled in place
pub whole_of : (len : ℕ) (buf items : List ℕ) → length buf ≡ len → length items ≡ len → take len (buf ++ drop (length buf) items) ≡ buf
whole_of len buf items a b =
    let none : drop (length buf) items ≡ [] = drop_all (length buf) items (omega arith) in
    let all : take len buf ≡ buf = take_all len buf (omega arith) in
    rw (none, append-nil buf) all
