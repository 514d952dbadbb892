-- What a connection leaves: a session, and then a save, or what was saved before.
use Rattle.std.specs.Prelude.{◌≡◌, ℕ, List, Option, Some, None, option_map}
use Rattle.std.specs.declared.vec.Vec.{Vec}
use Rattle.std.specs.declared.alloc.Global.{Global}
use Rattle.rp_protocol.specs.declared.reply.Reply.{Reply}
use Rattle.rp_protocol.specs.declared.request.Request.{Request}
use Rattle.rp_serve.specs.Sessions.{ServesAll, StopsAfter}
use Rattle.rp_serve.specs.declared.connection.RoundEnd.{RoundEnd}
use Rattle.rp_serve.specs.declared.fault.ServeFault.{ServeFault}
use Rattle.rp_serve.specs.declared.fault.ServeFault.TheVariants.{Read, Write, Turns, OutOfMemory}

-- the bytes that are kept, if any are
abbrev pub kept_bytes : Option (Vec ℕ Global) → Option (List ℕ)
kept_bytes saved = option_map (λ bytes. bytes.items) saved

-- The session went to the end of its input, or stopped by a fault, after so many lines.
abbrev pub Session : {X : Type 0} → (X → Request → Reply → X → Type 0) → (X → Request → X → Type 0) → Option ServeFault → ℕ → Option (List ℕ) → X → X → Option (List ℕ) → Option (List ℕ) → Type 0
Session step cut_short None count input old left w w' = ServesAll step input old left w w' count
Session step cut_short (Some fault) count input old left w w' = StopsAfter step cut_short fault input old left w w' count

-- It was saved as the session left it.
abbrev pub IsSavedAs : {X : Type 0} → (X → List ℕ → Type 0) → X → Option (List ℕ) → Type 0
IsSavedAs is_saved node None = ⊥
IsSavedAs is_saved node (Some bytes) = is_saved node bytes

-- What the session left is saved, unless the writer failed or memory was refused: then it goes back to what was saved before, which stays
-- saved.
abbrev pub Keeping : {X : Type 0} → (X → List ℕ → Type 0) → (X → Option (List ℕ) → X → Type 0) → Option ServeFault → X → X → Option (List ℕ) → Option (List ℕ) → Type 0
Keeping is_saved goes_back None left new saved saved' = (new ≡ left) × IsSavedAs is_saved left saved'
Keeping is_saved goes_back (Some Read) left new saved saved' = (new ≡ left) × IsSavedAs is_saved left saved'
Keeping is_saved goes_back (Some Turns) left new saved saved' = (new ≡ left) × IsSavedAs is_saved left saved'
Keeping is_saved goes_back (Some Write) left new saved saved' = goes_back left saved new × (saved' ≡ saved)
Keeping is_saved goes_back (Some OutOfMemory) left new saved saved' = goes_back left saved new × (saved' ≡ saved)

-- One connection: a session, by its fault if it had one, and what is kept after it.
pub record IsRound {X : Type 0} (step : X → Request → Reply → X → Type 0) (cut_short : X → Request → X → Type 0) (is_saved : X → List ℕ → Type 0) (goes_back : X → Option (List ℕ) → X → Type 0)
    (fault : Option ServeFault) (count : ℕ) (input : Option (List ℕ)) (old new : X) (w w' saved saved' : Option (List ℕ)) : Type 0 where
  pub left : X
  pub session : Session step cut_short fault count input old left w w'
  pub keeping : Keeping is_saved goes_back fault left new saved saved'

-- One connection from what answered and was saved before: how it ended.
abbrev pub EndsRound : {X : Type 0} → (X → Request → Reply → X → Type 0) → (X → Request → X → Type 0) → (X → List ℕ → Type 0)
    → (X → Option (List ℕ) → X → Type 0) → Option (List ℕ) → X → Option (Vec ℕ Global) → (w w' : Option (List ℕ)) → RoundEnd X → Type 0
EndsRound step cut_short is_saved goes_back input old saved w w' end =
    IsRound step cut_short is_saved goes_back end.fault end.lines input old end.node w w' (kept_bytes saved) (kept_bytes end.saved)
