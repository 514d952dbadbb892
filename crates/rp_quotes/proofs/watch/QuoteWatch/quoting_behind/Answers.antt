use Rattle.std.proofs.Common.{rules, ◌≡◌}
use Rattle.rp_quotes.specs.declared.mark.Mark.TheVariants as mark
use Rattle.rp_quotes.proofs.Seen.{goes_further, mark_ends}
use Rattle.rp_quotes.proofs.watch.QuoteWatch.quoting_behind.Goals as goal
use Rattle.rp_quotes.proofs.watch.QuoteWatch.quoting_behind.Goals.{else-eq-via-then-eq+else-byte-eq191, else-eq-via-else-eq}

pub returns-then-byte-eq191 : goal.returns-then-byte-eq191
returns-then-byte-eq191 c = λ delimiter text seen.
    let second : c.args.self.now.mark ≡ mark.Second = search rules in
    mark_ends delimiter text c.args.byte c.args.self.now second c.if-byte-eq191.true seen

pub returns : goal.returns
returns c = λ delimiter text seen.
    let other : c.args.self.now.mark ≡ mark.Second → c.args.byte ≡ 0xBF → ⊥ = elim c.else-eq.branch [
      | else-eq-via-then-eq+else-byte-eq191 w ↦ (λ second last. w.if-byte-eq191.false last)
      | else-eq-via-else-eq w ↦ (λ second last. search rules)
    ] in
    goes_further delimiter text c.args.byte c.args.self.now c.led_by.result other c.led_by.ensures.at c.led_by.ensures.quoted seen
