-- Inside: what is cut off the bytes that were read last.
use Rattle.std.specs.Prelude.{◌≡◌, ◌<◌, ◌≤◌, List, ℕ, [], ◌∷◌, ◌++◌, take, Bool, MatchBool}
use Rattle.rp_io.specs.Lines.{IsLfFree, line_feed}
use Rattle.rp_io.specs.Pending.{pending_of}
use Rattle.rp_io.specs.declared.lines.Lines.{Lines}

-- the bytes up to a LF are put behind those of the line, and the LF is passed over
abbrev pub CutsLine : Lines → Lines → List ℕ → List ℕ → Type 0
CutsLine old new line line' =
    (part : List ℕ) × IsLfFree part × (pending_of old ≡ part ++ line_feed ∷ pending_of new) × (line' ≡ take old.kept (line ++ part))

-- all bytes are put behind those of the line, and none is a LF
abbrev pub CutsRest : Lines → Lines → List ℕ → List ℕ → Type 0
CutsRest old new line line' = IsLfFree (pending_of old) × (pending_of new ≡ []) × (line' ≡ take old.kept (line ++ pending_of old))

-- what is cut off, by whether there was a LF
abbrev pub CutsOff : Bool → Lines → Lines → List ℕ → List ℕ → Type 0
CutsOff had_lf old new line line' = MatchBool had_lf (CutsLine old new line line') (CutsRest old new line line')

-- the place in the chunk moves on, where there was a LF by a byte at least
abbrev pub Advances : Bool → Lines → Lines → Type 0
Advances had_lf old new = MatchBool had_lf (old.taken < new.taken) (old.taken ≤ new.taken)
