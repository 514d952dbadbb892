-- What a session did. Where the bytes of an input aren't known, some lines came; where those written aren't known, some were written.
use Rattle.std.specs.Prelude.{◌≡◌, ◌⊎◌, ℕ, List, [], ◌∷◌, ◌++◌, length, Option, IfSome}
use Rattle.std.specs.Io.KnownBytes.{Appends}
use Rattle.rp_protocol.specs.declared.reply.Reply.{Reply}
use Rattle.rp_io.specs.Devices.{AppendsFront}
use Rattle.rp_io.specs.Lines.{lines_of}
use Rattle.rp_protocol.specs.declared.request.Request.{Request}
use Rattle.rp_serve.specs.Served.{LeavesLine, Serves, reply_lines}
use Rattle.rp_serve.specs.declared.fault.ServeFault.{ServeFault}
use Rattle.rp_serve.specs.declared.fault.ServeFault.TheVariants.{Read, Write, Turns, OutOfMemory}

-- these are the first lines of an input
abbrev pub AreFirst : Option (List ℕ) → List (List ℕ) → Type 0
AreFirst input lines = IfSome input (λ bytes. (later : List (List ℕ)) × (lines_of bytes ≡ lines ++ later))

-- All lines were answered, and their replies written.
pub record ServesAll {X : Type 0} (step : X → Request → Reply → X → Type 0) (input : Option (List ℕ)) (old new : X) (w w' : Option (List ℕ)) (count : ℕ) : Type 0 where
  pub lines : List (List ℕ)
  pub replies : List Reply
  pub all : IfSome input (λ bytes. lines ≡ lines_of bytes)
  pub serves : Serves step old lines replies new
  pub written : Appends w w' (reply_lines replies)
  pub counted : count ≡ length lines

-- The first lines were answered, and their replies written.
pub record ServesFirst {X : Type 0} (step : X → Request → Reply → X → Type 0) (input : Option (List ℕ)) (old new : X) (w w' : Option (List ℕ)) (count : ℕ) : Type 0 where
  pub lines : List (List ℕ)
  pub replies : List Reply
  pub first : AreFirst input lines
  pub serves : Serves step old lines replies new
  pub written : Appends w w' (reply_lines replies)
  pub counted : count ≡ length lines

-- The first lines were answered, and a front of their replies written.
pub record ServesInPart {X : Type 0} (step : X → Request → Reply → X → Type 0) (input : Option (List ℕ)) (old new : X) (w w' : Option (List ℕ)) (count : ℕ) : Type 0 where
  pub lines : List (List ℕ)
  pub replies : List Reply
  pub first : AreFirst input lines
  pub serves : Serves step old lines replies new
  pub written : AppendsFront w w' (reply_lines replies)
  pub counted : count ≡ length lines

-- The first lines were answered, and a front of their replies written; memory was refused while one more was answered.
pub record IsCutShort {X : Type 0} (step : X → Request → Reply → X → Type 0) (cut_short : X → Request → X → Type 0) (input : Option (List ℕ)) (old new : X) (w w' : Option (List ℕ)) (count : ℕ) : Type 0 where
  pub lines : List (List ℕ)
  pub replies : List Reply
  pub line : List ℕ
  pub first : AreFirst input (lines ++ line ∷ [])
  pub mid : X
  pub serves : Serves step old lines replies mid
  pub leaves : LeavesLine step cut_short mid line new
  pub written : AppendsFront w w' (reply_lines replies)
  pub counted : count ≡ length lines

-- What a fault says of a session that answered so many lines. Where a read failed or is one too many, no reply is missing.
abbrev pub StopsAfter : {X : Type 0} → (X → Request → Reply → X → Type 0) → (X → Request → X → Type 0) → ServeFault → Option (List ℕ) → X → X → Option (List ℕ) → Option (List ℕ) → ℕ → Type 0
StopsAfter step cut_short Read input old new w w' count = ServesFirst step input old new w w' count
StopsAfter step cut_short Turns input old new w w' count = ServesFirst step input old new w w' count
StopsAfter step cut_short Write input old new w w' count = ServesInPart step input old new w w' count
StopsAfter step cut_short OutOfMemory input old new w w' count =
    ServesInPart step input old new w w' count ⊎ IsCutShort step cut_short input old new w w' count

-- What it says whatever their number.
abbrev pub StopsServing : {X : Type 0} → (X → Request → Reply → X → Type 0) → (X → Request → X → Type 0) → ServeFault → Option (List ℕ) → X → X → Option (List ℕ) → Option (List ℕ) → Type 0
StopsServing step cut_short fault input old new w w' = (count : ℕ) × StopsAfter step cut_short fault input old new w w' count

-- What a fault of reading or writing says of what was gathered: where a read failed or is one too many, all of it was written.
abbrev pub IsWrittenBefore : ServeFault → Option (List ℕ) → Option (List ℕ) → List ℕ → Type 0
IsWrittenBefore Read w w' text = Appends w w' text
IsWrittenBefore Turns w w' text = Appends w w' text
IsWrittenBefore Write w w' text = AppendsFront w w' text
IsWrittenBefore OutOfMemory w w' text = AppendsFront w w' text
