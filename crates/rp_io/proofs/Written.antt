-- What was written of some bytes.
use Rattle.std.proofs.Common.{◌≡◌, ℕ, zero, suc, ◌+◌, ◌-◌, min, ◌<◌, ◌≤◌, arith, List, [], ◌++◌, length, take, drop, Option, Some, None, refl, ap, ◌∙◌, sym, append_assoc, append-nil}
use Rattle.std.proofs.lemmas.List.{length-drop, length-take, take-append-drop, take_all}
use Rattle.std.specs.Io.KnownBytes.{Appends, Keeps}
use Rattle.rp_io.specs.Devices.{AppendsFront, MakesCalls, Moves, after_calls}
use Rattle.rp_io.specs.Counts.{raised}

-- a front of the bytes was written, and the rest was not
abbrev pub WroteFront : Option (List ℕ) → Option (List ℕ) → List ℕ → List ℕ → Type 0
WroteFront None now bytes rest = Unit {0}
WroteFront (Some xs) None bytes rest = ⊥
WroteFront (Some xs) (Some ys) bytes rest = (front : List ℕ) × (ys ≡ xs ++ front) × (bytes ≡ front ++ rest)

pub WroteFront-start : (old : Option (List ℕ)) (bytes : List ℕ) → WroteFront old old bytes bytes
WroteFront-start None bytes = tt
WroteFront-start (Some xs) bytes = ([], sym (append-nil xs), refl)

pub WroteFront-more : (old now new : Option (List ℕ)) (bytes rest : List ℕ) (n : ℕ) → WroteFront old now bytes rest → Appends now new (take n rest) → WroteFront old new bytes (drop n rest)
WroteFront-more None now new bytes rest n wrote more = tt
WroteFront-more (Some xs) None new bytes rest n wrote more = absurd wrote
WroteFront-more (Some xs) (Some ys) None bytes rest n wrote more = absurd more
WroteFront-more (Some xs) (Some ys) (Some zs) bytes rest n wrote more = (
  wrote.0 ++ take n rest,
  more ∙ ap (λ t. t ++ take n rest) wrote.1 ∙ append_assoc xs wrote.0 (take n rest),
  wrote.2 ∙ ap (λ t. wrote.0 ++ t) (sym (take-append-drop n rest)) ∙ sym (append_assoc wrote.0 (take n rest) (drop n rest)),
)

pub WroteFront-rest : (old now new : Option (List ℕ)) (bytes rest : List ℕ) (n : ℕ) → WroteFront old now bytes rest → Appends now new (take n rest) → WroteFront old new bytes (take (length rest - n) (drop n rest))
WroteFront-rest old now new bytes rest n wrote more =
    let all : take (length rest - n) (drop n rest) ≡ drop n rest = take_all (length rest - n) (drop n rest) (let size = length-drop n rest in omega arith) in
    rw all (WroteFront-more old now new bytes rest n wrote more)

pub WroteFront-end : (old now : Option (List ℕ)) (bytes rest : List ℕ) → rest ≡ [] → WroteFront old now bytes rest → Appends old now bytes
WroteFront-end None now bytes rest none wrote = tt
WroteFront-end (Some xs) None bytes rest none wrote = absurd wrote
WroteFront-end (Some xs) (Some ys) bytes rest none wrote =
    wrote.1 ∙ ap (λ t. xs ++ t) (sym (wrote.2 ∙ ap (λ t. wrote.0 ++ t) none ∙ append-nil wrote.0))

pub WroteFront-fault : (old now new : Option (List ℕ)) (bytes rest : List ℕ) → WroteFront old now bytes rest → Keeps now new → AppendsFront old new bytes
WroteFront-fault None now new bytes rest wrote keeps = tt
WroteFront-fault (Some xs) None new bytes rest wrote keeps = absurd wrote
WroteFront-fault (Some xs) (Some ys) None bytes rest wrote keeps = absurd keeps
WroteFront-fault (Some xs) (Some ys) (Some zs) bytes rest wrote keeps = (wrote.0, rest, wrote.2, keeps ∙ wrote.1)

pub Moves-none : (old : Option (List ℕ)) (text : List ℕ) → Moves old text old text
Moves-none None text = tt
Moves-none (Some xs) text = ([], refl, sym (append-nil xs))

pub Moves-all : (old new : Option (List ℕ)) (text rest : List ℕ) → rest ≡ [] → Appends old new text → Moves old text new rest
Moves-all None new text rest none wrote = tt
Moves-all (Some xs) None text rest none wrote = absurd wrote
Moves-all (Some xs) (Some ys) text rest none wrote = (text, sym (append-nil text) ∙ ap (λ t. text ++ t) (sym none), wrote)

after_one : (made count : ℕ) → raised (after_calls made count) ≡ after_calls (suc made) count
after_one zero count = refl
after_one (suc made) count = after_one made (raised count)

-- calls were made, each of which took a byte at least
abbrev pub Called : List ℕ → List ℕ → ℕ → ℕ → Type 0
Called bytes rest old now = (made : ℕ) × (made + length rest ≤ length bytes) × (now ≡ after_calls made old)

pub Called-start : (bytes : List ℕ) (old : ℕ) → Called bytes bytes old old
Called-start bytes old = (0, omega arith, refl)

pub Called-more : (bytes rest : List ℕ) (n old now new : ℕ) → Called bytes rest old now → 0 < n → n ≤ length rest → new ≡ raised now → Called bytes (take (length rest - n) (drop n rest)) old new
Called-more bytes rest n old now new called some within is =
    let size : length (take (length rest - n) (drop n rest)) ≡ min (length rest - n) (length (drop n rest)) = length-take (length rest - n) (drop n rest) in
    (suc called.0, omega arith, is ∙ ap raised called.2 ∙ after_one called.0 old)

pub Called-end : (bytes rest : List ℕ) (old now : ℕ) → Called bytes rest old now → MakesCalls 0 (length bytes) old now
Called-end bytes rest old now called = (called.0, omega arith, omega arith, called.2)

pub Called-fault : (bytes rest : List ℕ) (old now new : ℕ) → Called bytes rest old now → 0 < length rest → new ≡ raised now → MakesCalls 1 (length bytes) old new
Called-fault bytes rest old now new called some is = (suc called.0, omega arith, omega arith, is ∙ ap raised called.2 ∙ after_one called.0 old)

pub MakesCalls-none : (most old : ℕ) → MakesCalls 0 most old old
MakesCalls-none most old = (0, omega arith, omega arith, refl)
