use Rattle.std.proofs.Common.{◌≡◌, ◌<◌, ◌≤◌, Some, sym, ap, ◌∙◌, length, rules}
use Rattle.std.specs.Prelude.{is_some, option_copied}
use Rattle.rp_feed.specs.Fed.{Numbered}
use Rattle.rp_feed.specs.HeldRows.{entry_at, row_with}
use Rattle.rp_feed.proofs.Places.{entry_past, entry_read, other_number, same_number}
use Rattle.rp_feed.proofs.held_rows.row_in.Goals as goal

pub returns-in_err-held-clause-row : goal.returns-in_err-held-clause-row
returns-in_err-held-clause-row c =
    let past : length c.args.rows.now.items ≤ c.args.place = search rules in
    ap option_copied c.from_residual.ensures ∙ sym (ap (row_with c.args.number) (entry_past c.args.rows.now.items c.args.place past))

pub returns-in_err-held-clause-variant : goal.returns-in_err-held-clause-variant
returns-in_err-held-clause-variant c =
    let past : length c.args.rows.now.items ≤ c.args.place = search rules in
    ap is_some c.from_residual.ensures ∙ sym (ap (λ o. is_some (row_with c.args.number o)) (entry_past c.args.rows.now.items c.args.place past))

pub returns-then-held-number-clause-row : goal.returns-then-held-number-clause-row
returns-then-held-number-clause-row c =
    let within : c.args.place < length c.args.rows.now.items = search rules in
    let there : entry_at c.args.rows.now.items c.args.place ≡ Some c.in_ok-held.held.now =
    entry_read c.args.rows.now.items c.args.place c.in_ok-held.held.now within ∙ sym (ap (λ (e : Numbered). Some e) c.in_ok-held.ensures.lookup) in
    sym (ap (row_with c.args.number) there ∙ other_number c.args.number c.in_ok-held.held.now c.if-held-number.true)

pub returns-then-held-number-clause-variant : goal.returns-then-held-number-clause-variant
returns-then-held-number-clause-variant c =
    let within : c.args.place < length c.args.rows.now.items = search rules in
    let there : entry_at c.args.rows.now.items c.args.place ≡ Some c.in_ok-held.held.now =
    entry_read c.args.rows.now.items c.args.place c.in_ok-held.held.now within ∙ sym (ap (λ (e : Numbered). Some e) c.in_ok-held.ensures.lookup) in
    sym (ap is_some (ap (row_with c.args.number) there ∙ other_number c.args.number c.in_ok-held.held.now c.if-held-number.true))

pub returns-clause-row : goal.returns-clause-row
returns-clause-row c =
    let within : c.args.place < length c.args.rows.now.items = search rules in
    let there : entry_at c.args.rows.now.items c.args.place ≡ Some c.in_ok-held.held.now =
    entry_read c.args.rows.now.items c.args.place c.in_ok-held.held.now within ∙ sym (ap (λ (e : Numbered). Some e) c.in_ok-held.ensures.lookup) in
    sym (ap (row_with c.args.number) there ∙ same_number c.args.number c.in_ok-held.held.now c.if-held-number.false)

pub returns-clause-variant : goal.returns-clause-variant
returns-clause-variant c =
    let within : c.args.place < length c.args.rows.now.items = search rules in
    let there : entry_at c.args.rows.now.items c.args.place ≡ Some c.in_ok-held.held.now =
    entry_read c.args.rows.now.items c.args.place c.in_ok-held.held.now within ∙ sym (ap (λ (e : Numbered). Some e) c.in_ok-held.ensures.lookup) in
    sym (ap is_some (ap (row_with c.args.number) there ∙ same_number c.args.number c.in_ok-held.held.now c.if-held-number.false))
