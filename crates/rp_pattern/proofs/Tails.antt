-- What stands behind a list of later parts.
use Rattle.std.proofs.Common.{◌≡◌, ℕ, ◌<◌, List, ◌∷◌, drop, Option, Some, None, refl, sym, ap, ◌∙◌}
use Rattle.std.specs.List.{flat_map}
use Rattle.std.specs.declared.rc.Rc.{Rc}
use Rattle.std.specs.declared.alloc.Global.{Global}
use Rattle.rp_pattern.specs.declared.machine.link.Part.{Part}
use Rattle.rp_pattern.specs.declared.machine.link.Link.{Link}
use Rattle.rp_pattern.specs.declared.machine.link.Link.TheViews.{out-Link}
use Rattle.rp_pattern.specs.declared.machine.link.Link.TheFolds.{map-Link, fold_out-Link}
use Rattle.rp_pattern.specs.declared.machine.continuation.Continuation.TheVariants.{Reached}
use Rattle.rp_words.specs.declared.word.End.{End}
use Rattle.rp_words.specs.Words.{followed}
use Rattle.rp_words.specs.Turns.{WordsAndTurns, chain_turns}
use Rattle.rp_pattern.specs.Continuations.{part_as, link_step, links_from, reached_parts, tail_links, tail_parts, links_parts, guarded, chain_words}
use Rattle.rp_pattern.specs.Splits.{StandsFor}
use Rattle.rp_words.proofs.TurnsTaken.{past_reached, past_there}

pub links_out : (l : Link) → links_from l ≡ ((out-Link l).since, (out-Link l).part) ∷ tail_links (out-Link l).then
links_out l = fold_out-Link (List (Option ℕ × Part)) link_step l ∙ go (out-Link l).since (out-Link l).part (out-Link l).then
  where
    go : (since : Option ℕ) (part : Part) (t : Option (Rc Link Global)) →
        link_step (map-Link Link (List (Option ℕ × Part)) links_from (record { since = since; part = part; then = t })) ≡ (since, part) ∷ tail_links t
    go since part None = refl
    go since part (Some p) = refl

-- the row is past the one that a part is reached past, if any
abbrev pub IsPassed : Option ℕ → ℕ → Type 0
IsPassed None i = Unit {0}
IsPassed (Some since) i = since < i

guarded_words : (since : Option ℕ) (p : WordsAndTurns) (ps : List WordsAndTurns) (i : ℕ) → IsPassed since i → chain_words (p ∷ ps) i ≡ chain_words (guarded since p ∷ ps) i
guarded_words None p ps i h = refl
guarded_words (Some since) p ps i h = ap (flat_map (followed (chain_words ps) i)) (sym (past_there since p i h).0)

guarded_turns : (since : Option ℕ) (p : WordsAndTurns) (ps : List WordsAndTurns) (i : ℕ) → IsPassed since i → chain_turns (p ∷ ps) i ≡ chain_turns (guarded since p ∷ ps) i
guarded_turns None p ps i h = refl
guarded_turns (Some since) p ps i h = sym (past_reached since p ps i h)

-- the first of later parts, with those after it
pub reached_out : (n : ℕ) (e : End) (l : Link) → reached_parts n e (links_from l) ≡ part_as n e (out-Link l).part ∷ tail_parts n e (out-Link l).then
reached_out n e l = ap (reached_parts n e) (links_out l)

pub tail_out : (n : ℕ) (e : End) (l : Link) → links_parts n e (links_from l) ≡ guarded (out-Link l).since (part_as n e (out-Link l).part) ∷ tail_parts n e (out-Link l).then
tail_out n e l = ap (links_parts n e) (links_out l)

pub follow_stands : (n : ℕ) (e : End) (i : ℕ) (l : Link) (copy : Rc Link Global) → copy.value ≡ l → IsPassed (out-Link l).since i → StandsFor n e i (links_parts n e (links_from l)) (Some (Reached copy))
follow_stands n e i l copy is h =
    let p = part_as n e (out-Link l).part in
    let later = tail_parts n e (out-Link l).then in
    let mine : reached_parts n e (links_from copy.value) ≡ p ∷ later = ap (λ k. reached_parts n e (links_from k)) is ∙ reached_out n e l in
    record {
      words = ap (λ ps. chain_words ps i) mine ∙ guarded_words (out-Link l).since p later i h ∙ ap (λ ps. chain_words ps i) (sym (tail_out n e l));
      turns = ap (λ ps. chain_turns ps i) mine ∙ guarded_turns (out-Link l).since p later i h ∙ ap (λ ps. chain_turns ps i) (sym (tail_out n e l));
    }

pub later_out : (n : ℕ) (e : End) (l : Link) → links_parts n e (drop 1 (links_from l)) ≡ tail_parts n e (out-Link l).then
later_out n e l = ap (λ ls. links_parts n e (drop 1 ls)) (links_out l)

-- the same by what the parts are known as
pub reached_as : (n : ℕ) (e : End) (l a b : Link) (part : Part) → a ≡ l → b ≡ l → (out-Link a).part ≡ part → part_as n e part ∷ tail_parts n e (out-Link b).then ≡ reached_parts n e (links_from l)
reached_as n e l a b part h k is =
    ap (λ p. part_as n e p ∷ tail_parts n e (out-Link b).then) (sym is ∙ ap (λ z. (out-Link z).part) h)
    ∙ ap (λ z. part_as n e (out-Link l).part ∷ tail_parts n e (out-Link z).then) k ∙ sym (reached_out n e l)
