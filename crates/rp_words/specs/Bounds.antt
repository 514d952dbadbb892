-- Which patterns are allowed: those whose quantifiers have bounds in order, none above 1,000, and whose PERMUTEs have 1 to
-- 8 parts. That bounds are in order is the rule of ISO/IEC 9075-2:2016, 7.9. The two limits are this project's own: the
-- first keeps what is counted small, and 8 parts have 40,320 orders.
use Rattle.std.specs.Prelude.{ℕ, Bool, true, ◌&&◌, map, length, nat_le, Option, Some, None}
use Rattle.rp_words.specs.Variables.{all_true}
use Rattle.rp_words.specs.declared.form.Form.{Form}
use Rattle.rp_words.specs.declared.form.Form.TheOpen.{Form-F, Variable, Empty, Concatenation, Alternation, PartitionStart, PartitionEnd, Permute, Exclusion, Quantified}
use Rattle.rp_words.specs.declared.form.Form.TheFolds.{fold-Form}

-- the greatest bound of a quantifier
abbrev pub greatest_bound : ℕ
greatest_bound = 1000

-- the most parts of a PERMUTE
abbrev pub most_parts : ℕ
most_parts = 8

-- the bounds of a quantifier are in order, and none is above the greatest
abbrev pub bounds_hold : ℕ → Option ℕ → Bool
bounds_hold lower None = nat_le lower greatest_bound
bounds_hold lower (Some upper) = nat_le lower upper && nat_le upper greatest_bound

-- one layer of a pattern, with whether each part is allowed in its place
abbrev pub allowed_step : Form-F Bool → Bool
allowed_step (Variable v) = true
allowed_step Empty = true
allowed_step (Concatenation p q) = p.value && q.value
allowed_step (Alternation p q) = p.value && q.value
allowed_step PartitionStart = true
allowed_step PartitionEnd = true
allowed_step (Permute ps) =
    nat_le 1 (length ps.items) && nat_le (length ps.items) most_parts && all_true (map (λ p. p.value) ps.items)
allowed_step (Exclusion p) = p.value
allowed_step (Quantified p lower upper reluctant) = bounds_hold lower upper && p.value

-- each quantifier in a pattern has bounds that hold, and each PERMUTE in it has 1 to 8 parts
abbrev pub is_allowed : Form → Bool
is_allowed = fold-Form Bool allowed_step
