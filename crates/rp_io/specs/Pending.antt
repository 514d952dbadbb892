-- Inside: what is read and not yet cut into lines.
use Rattle.std.specs.Prelude.{◌≡◌, ℕ, ◌+◌, ◌-◌, ◌*◌, List, ◌∷◌, ◌++◌, drop, vec_len, Option}
use Rattle.std.specs.Io.KnownBytes.{prepend_known}
use Rattle.rp_io.specs.declared.lines.Lines.{Lines}
use Rattle.rp_io.specs.Lines.{line_feed}
use Rattle.rp_io.specs.State.{IntakeState}
use Rattle.rp_io.specs.declared.lines.TheConstants.{CHUNK}

-- the bytes that are read and not yet cut into lines
abbrev pub pending_of : Lines → List ℕ
pending_of lines = drop lines.taken lines.chunk.items

-- the bytes of the lines to come: those pending and those that the reader has still to give, where these are known
abbrev pub coming : Lines → IntakeState → Option (List ℕ)
coming lines reader = prepend_known (pending_of lines) reader.remaining

-- No more lines than this can still come: each takes a byte at least, of those pending or of those that the reads still allowed
-- can give, which is CHUNK each at most.
abbrev pub most_lines_to_come : Lines → ℕ
most_lines_to_come lines = lines.reads * CHUNK + (vec_len lines.chunk - lines.taken)

-- A line with its line feed stands among the bytes that are read and not yet cut into lines.
abbrev pub HasLine : Lines → Type 0
HasLine lines = (front : List ℕ) × (rest : List ℕ) × (pending_of lines ≡ front ++ line_feed ∷ rest)
