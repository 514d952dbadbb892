-- Calls that each gave a byte.
use Rattle.std.proofs.Common.{◌≡◌, ℕ, ◌+◌, ◌<◌, ◌≤◌, List, length, Option, Some, None, IfSome, ap, ◌∙◌, arith, length-append}
use Rattle.std.specs.Io.KnownBytes.{Consumes}
use Rattle.rp_io.specs.Devices.{AsManyBytesAsReads}

pub AsManyBytesAsReads-start : (reads : ℕ) (old : Option (List ℕ)) → AsManyBytesAsReads reads reads old old
AsManyBytesAsReads-start reads None = tt
AsManyBytesAsReads-start reads (Some xs) = omega arith

pub AsManyBytesAsReads-same : (reads : ℕ) (old new : Option (List ℕ)) → new ≡ old → AsManyBytesAsReads reads reads old new
AsManyBytesAsReads-same reads old new same = rw same (AsManyBytesAsReads-start reads old)

pub AsManyBytesAsReads-trans : (a b c : ℕ) (old now new : Option (List ℕ)) → AsManyBytesAsReads a b old now → AsManyBytesAsReads b c now new → AsManyBytesAsReads a c old new
AsManyBytesAsReads-trans a b c None now new first second = tt
AsManyBytesAsReads-trans a b c (Some xs) None new first second = absurd first
AsManyBytesAsReads-trans a b c (Some xs) (Some ys) None first second = absurd second
AsManyBytesAsReads-trans a b c (Some xs) (Some ys) (Some zs) first second = omega arith

pub AsManyBytesAsReads-read : (before after : ℕ) (old new : Option (List ℕ)) (bytes : List ℕ) → before ≤ after + 1 → Consumes old new bytes → 0 < length bytes → AsManyBytesAsReads before after old new
AsManyBytesAsReads-read before after None new bytes one takes some = tt
AsManyBytesAsReads-read before after (Some xs) None bytes one takes some = absurd takes
AsManyBytesAsReads-read before after (Some xs) (Some ys) bytes one takes some =
    let all : length xs ≡ length bytes + length ys = ap length takes ∙ length-append bytes ys in
    omega arith

pub AsManyBytesAsReads-all : (reads left : ℕ) (old new : Option (List ℕ)) → left ≡ 0 → AsManyBytesAsReads reads left old new → IfSome old (λ input. reads ≤ length input)
AsManyBytesAsReads-all reads left None new none gives = tt
AsManyBytesAsReads-all reads left (Some xs) None none gives = absurd gives
AsManyBytesAsReads-all reads left (Some xs) (Some ys) none gives = omega arith
