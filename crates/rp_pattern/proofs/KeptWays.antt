-- Patterns as they are kept.
use Rattle.std.proofs.Common.{◌≡◌, ℕ, ◌≤◌, List, [], ◌∷◌, Option, refl, ap, ◌∙◌, arith}
use Rattle.std.specs.declared.rc.Rc.{Rc}
use Rattle.std.specs.declared.alloc.Global.{Global}
use Rattle.rp_words.specs.declared.form.Form.{Form}
use Rattle.rp_words.specs.Turns.{chain_turns}
use Rattle.rp_words.specs.declared.word.End.{End}
use Rattle.rp_program.specs.declared.program.Program.{Program}
use Rattle.rp_pattern.specs.declared.machine.continuation.Choice.{Choice}
use Rattle.rp_pattern.specs.declared.compiled.PlacedChoice.{PlacedChoice}
use Rattle.rp_pattern.specs.declared.ways.Ways.{Ways}
use Rattle.rp_pattern.specs.declared.ways.Ways.TheVariants.{Linked, Compiled}
use Rattle.rp_pattern.specs.Linked.{linked_ways}
use Rattle.rp_pattern.specs.Placed.{placed_ways}
use Rattle.rp_pattern.specs.declared.machine.link.Link.{Link}
use Rattle.rp_pattern.specs.Continuations.{tail_links, links_parts, chain_words}
use Rattle.rp_pattern.specs.Ways.{Keeps, Parts, kept_of, origin, most_turns}

-- going through it takes no more turns than its words take at most
pub fewer : (w : Ways) (n : ℕ) (e : End) (row : ℕ) → (origin (kept_of w) n e).1 row ≤ most_turns (kept_of w) n e row
fewer (Linked l) n e row = omega arith
fewer (Compiled c) n e row = c.turns n e row

-- no ways, no choices
pub no_linked : (cs : List Choice) → linked_ways cs ≡ [] → cs ≡ []
no_linked [] h = refl
no_linked (c ∷ cs) h = absurd cc

pub no_placed : (p : Program) (cs : List PlacedChoice) → placed_ways p cs ≡ [] → cs ≡ []
no_placed p [] h = refl
no_placed p (c ∷ cs) h = absurd cc

-- the same parts, shared
pub keeps_linked : (f : Form) (old copy : Option (Rc Link Global)) → tail_links copy ≡ tail_links old → Keeps f (Parts old) → Keeps f (Parts copy)
keeps_linked f old copy same k = record {
  words = λ n e row. ap (λ ls. chain_words (links_parts n e ls) row) same ∙ k.words n e row;
  turns = λ n e row. ap (λ ls. chain_turns (links_parts n e ls) row) same ∙ k.turns n e row;
}
