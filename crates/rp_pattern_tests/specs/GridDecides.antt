-- Over a closed end the tests' own device answers each row. It stands here and not in proofs/, since a ghost item of an
-- impl can only name what stands in specs/.
use Rattle.std.specs.Prelude.{◌≡◌, ℕ, ◌+◌, ◌-◌, Bool, true, false, ◌==◌, List, length, Option, Some, None, if◌then◌else◌, slice_get}
use Rattle.rp_words.specs.declared.word.Label.{Label}
use Rattle.rp_words.specs.declared.word.End.{End}
use Rattle.rp_words.specs.declared.word.End.TheVariants.{Open as OpenEnd, Closed as ClosedEnd}
use Rattle.rp_words.specs.declared.word.Seen.{Seen}
use Rattle.rp_words.specs.declared.word.Seen.TheVariants.{True, NotTrue, Open as OpenTest}
use Rattle.rp_pattern_tests.specs.Grid.{written, row_answer, last_answer, grid_outcome}

written_decides : (cell : Option Seen) → written false cell ≡ OpenTest → ⊥
written_decides None h = cc
written_decides (Some True) h = cc
written_decides (Some NotTrue) h = cc
written_decides (Some OpenTest) h = cc

either_decides : (is_first : Bool) (x y : Option Seen) → (if is_first then written false x else written false y) ≡ OpenTest → ⊥
either_decides true x y h = written_decides x h
either_decides false x y h = written_decides y h

last_decides : (answer : ℕ → Seen) → ((v : ℕ) → answer v ≡ OpenTest → ⊥) → (l : Option Label) → last_answer answer l ≡ OpenTest → ⊥
last_decides answer h None k = cc
last_decides answer h (Some l) k = h l.var k

pub grid_decides : (first second : List Seen) (reach known : ℕ) (e : End) (start : ℕ) (labels : List Label) → e ≡ ClosedEnd → grid_outcome first second reach known e start labels ≡ OpenTest → ⊥
grid_decides first second reach known OpenEnd start labels c h = cc
grid_decides first second reach known ClosedEnd start labels c h =
    let row : ℕ = start + length labels - 1 in
    last_decides (row_answer first second reach known ClosedEnd row) (λ v k. either_decides (v == 0) (slice_get first row) (slice_get second row) k) (slice_get labels (length labels - 1)) h
