use Rattle.std.proofs.Common.{length, drop, Some, ◌-◌}
use Rattle.rp_words.specs.Words.{further}
use Rattle.rp_words.specs.Turns.{iterations, orders_from}
use Rattle.rp_program.specs.Parts.{form_part, form_parts, joined, chained, in_order}
use Rattle.rp_program.specs.Places.{at, parts}
use Rattle.rp_program.specs.Drafts.{LeadsInto, Puts}
use Rattle.rp_program.proofs.draft.Draft.+form.Given as goal

abbrev pub invariant-optional_from-loop-further : goal.invariant-optional_from-loop-further
invariant-optional_from-loop-further l =
    Puts (λ n e i. joined (iterations 0 l._further l.reluctant (form_part n e l.body.value l.excluded)) (at (parts n e l.fn.self.places.items) l.stop)) l.fn.self.places.items l.self.places.items (Some l.place)

abbrev pub invariant-quantified-loop-required : goal.invariant-quantified-loop-required
invariant-quantified-loop-required l =
    LeadsInto (λ n e. iterations l._required (further n l.fn.lower l.fn.upper) l.reluctant (form_part n e l.body.value l.excluded)) l.fn.next l.fn.self.places.items l.self.places.items l.after

abbrev pub invariant-each_order-loop-behind : goal.invariant-each_order-loop-behind
invariant-each_order-loop-behind l =
    LeadsInto (λ n e. orders_from (l.last - l.behind) (form_parts n e l.parts l.excluded)) l.next l.fn.self.places.items l.self.places.items l.orders

abbrev pub invariant-in_order-loop-taken : goal.invariant-in_order-loop-taken
invariant-in_order-loop-taken l =
    LeadsInto (λ n e. chained (in_order (form_parts n e l.parts l.excluded) (drop (length l.order - l.taken) l.order))) l.fn.next l.fn.self.places.items l.self.places.items l.after
