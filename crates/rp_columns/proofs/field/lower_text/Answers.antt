use Rattle.std.proofs.Common.{refl, rules, IsUtf8}
use Rattle.std.proofs.lemmas.Str.{is_utf8-from_IsUtf8}
use Rattle.rp_columns.proofs.Utf8.{not_utf8}
use Rattle.rp_columns.proofs.field.lower_text.Goals as goal

pub returns-in_default : goal.returns-in_default
returns-in_default c = let bad : IsUtf8 c.args.field.now → ⊥ = search rules in rw (not_utf8 c.args.field.now bad) refl

pub returns : goal.returns
returns c =
    let good : IsUtf8 c.args.field.now = search rules in
    rw (is_utf8-from_IsUtf8 c.args.field.now good) (search rules)
