-- Bytes that are gathered and written, one part after another.
use Rattle.std.proofs.Common.{◌≡◌, ◌∙◌, ℕ, List, [], ◌++◌, Option, Some, None, refl, sym, ap, append_assoc, append-nil}
use Rattle.std.specs.Io.KnownBytes.{Appends}
use Rattle.rp_io.specs.Devices.{AppendsFront, Moves}

-- ---- all of a text

pub appends_none : (old : Option (List ℕ)) → Appends old old []
appends_none None = tt
appends_none (Some xs) = sym (append-nil xs)

pub appends_both : (a b c : Option (List ℕ)) (first second : List ℕ) → Appends a b first → Appends b c second → Appends a c (first ++ second)
appends_both None b c first second one two = tt
appends_both (Some xs) None c first second one two = absurd one
appends_both (Some xs) (Some ys) None first second one two = absurd two
appends_both (Some xs) (Some ys) (Some zs) first second one two = two ∙ ap (λ t. t ++ second) one ∙ append_assoc xs first second

-- ---- a front of it

pub front_none : (old : Option (List ℕ)) (text : List ℕ) → AppendsFront old old text
front_none None text = tt
front_none (Some xs) text = ([], text, refl, sym (append-nil xs))

pub front_all : (old new : Option (List ℕ)) (text : List ℕ) → Appends old new text → AppendsFront old new text
front_all None new text wrote = tt
front_all (Some xs) None text wrote = absurd wrote
front_all (Some xs) (Some ys) text wrote = (text, [], sym (append-nil text), wrote)

-- a front of a text is one of a longer text
pub front_longer : (old new : Option (List ℕ)) (text more : List ℕ) → AppendsFront old new text → AppendsFront old new (text ++ more)
front_longer None new text more wrote = tt
front_longer (Some xs) None text more wrote = absurd wrote
front_longer (Some xs) (Some ys) text more wrote = (wrote.0, wrote.1 ++ more, ap (λ t. t ++ more) wrote.2 ∙ append_assoc wrote.0 wrote.1 more, wrote.3)

-- all of a first text, and then a front of a second one
pub front_after : (a b c : Option (List ℕ)) (first second : List ℕ) → Appends a b first → AppendsFront b c second → AppendsFront a c (first ++ second)
front_after None b c first second one two = tt
front_after (Some xs) None c first second one two = absurd one
front_after (Some xs) (Some ys) None first second one two = absurd two
front_after (Some xs) (Some ys) (Some zs) first second one two = (
  first ++ two.0,
  two.1,
  ap (λ t. first ++ t) two.2 ∙ sym (append_assoc first two.0 two.1),
  two.3 ∙ ap (λ t. t ++ two.0) one ∙ append_assoc xs first two.0,
)

-- ---- a front of it, and the rest is kept

pub moves_none : (old : Option (List ℕ)) (text all : List ℕ) → all ≡ text → Moves old all old text
moves_none None text all is = tt
moves_none (Some xs) text all is = ([], is, sym (append-nil xs))

-- a front of the rest is written too
pub moves_both : (a b c : Option (List ℕ)) (text rest after : List ℕ) → Moves a text b rest → Moves b rest c after → Moves a text c after
moves_both None b c text rest after first second = tt
moves_both (Some xs) None c text rest after first second = absurd first
moves_both (Some xs) (Some ys) None text rest after first second = absurd second
moves_both (Some xs) (Some ys) (Some zs) text rest after first second = (
  first.0 ++ second.0,
  first.1 ∙ ap (λ t. first.0 ++ t) second.1 ∙ sym (append_assoc first.0 second.0 after),
  second.2 ∙ ap (λ t. t ++ second.0) first.2 ∙ append_assoc xs first.0 second.0,
)

-- more is gathered
pub moves_longer : (a b : Option (List ℕ)) (text rest more : List ℕ) → Moves a text b rest → Moves a (text ++ more) b (rest ++ more)
moves_longer None b text rest more first = tt
moves_longer (Some xs) None text rest more first = absurd first
moves_longer (Some xs) (Some ys) text rest more first = (first.0, ap (λ t. t ++ more) first.1 ∙ append_assoc first.0 rest more, first.2)

-- more is gathered after a text of which a front was written, and then a front of that is written
pub moves_more : (a b c : Option (List ℕ)) (text rest more after : List ℕ) → Moves a text b rest → Moves b (rest ++ more) c after → Moves a (text ++ more) c after
moves_more a b c text rest more after first second = moves_both a b c (text ++ more) (rest ++ more) after (moves_longer a b text rest more first) second

-- all of the rest is written
pub moves_end : (a b c : Option (List ℕ)) (text rest : List ℕ) → Moves a text b rest → Appends b c rest → Appends a c text
moves_end None b c text rest first second = tt
moves_end (Some xs) None c text rest first second = absurd first
moves_end (Some xs) (Some ys) None text rest first second = absurd second
moves_end (Some xs) (Some ys) (Some zs) text rest first second = second ∙ ap (λ t. t ++ rest) first.2 ∙ append_assoc xs first.0 rest ∙ ap (λ t. xs ++ t) (sym first.1)

-- a front of the rest is written, and no more is known of it
pub moves_part : (a b c : Option (List ℕ)) (text rest : List ℕ) → Moves a text b rest → AppendsFront b c rest → AppendsFront a c text
moves_part None b c text rest first second = tt
moves_part (Some xs) None c text rest first second = absurd first
moves_part (Some xs) (Some ys) None text rest first second = absurd second
moves_part (Some xs) (Some ys) (Some zs) text rest first second = (
  first.0 ++ second.0,
  second.1,
  first.1 ∙ ap (λ t. first.0 ++ t) second.2 ∙ sym (append_assoc first.0 second.0 second.1),
  second.3 ∙ ap (λ t. t ++ second.0) first.2 ∙ append_assoc xs first.0 second.0,
)

-- the same where more was gathered before
pub moves_front : (a b c : Option (List ℕ)) (text rest more : List ℕ) → Moves a text b rest → AppendsFront b c (rest ++ more) → AppendsFront a c (text ++ more)
moves_front a b c text rest more first second = moves_part a b c (text ++ more) (rest ++ more) (moves_longer a b text rest more first) second
