-- The quote that opened the last field, with one byte more.
use Rattle.std.proofs.Common.{◌≡◌, ℕ, ◌⊎◌, inl, inr, true, false, true≢false, List, [], ◌∷◌, ◌++◌, append_assoc, refl, sym, ap, ap₂, ◌∙◌, subst}
use Rattle.rp_quotes.specs.Quotes.{IsAt, IsQuotedFrom, begins_field, line_of_end, state_of}
use Rattle.rp_quotes.specs.Watching.{LeadsTo, is_quoted, opened_by}
use Rattle.rp_quotes.specs.declared.quoting.Quoting.{Quoting}
use Rattle.rp_quotes.specs.declared.quoting.Quoting.TheVariants as quoting
use Rattle.rp_quotes.proofs.Seen.{same_begin}

pub head_same : (a b : ℕ) (xs ys : List ℕ) → a ∷ xs ≡ b ∷ ys → a ≡ b
head_same a b xs ys e = cc

pub tail_same : (a b : ℕ) (xs ys : List ℕ) → a ∷ xs ≡ b ∷ ys → xs ≡ ys
tail_same a b xs ys e = cc

no_part : (part rest : List ℕ) → [] ≡ part ++ rest → part ≡ []
no_part [] rest e = refl
no_part (p ∷ part) rest e = absurd (true≢false cc)

-- a part of a list with one byte more is all of it, or a part of the list
abbrev Part : List ℕ → ℕ → List ℕ → Type 0
Part xs b part = (part ≡ xs ++ b ∷ []) ⊎ ((rest : List ℕ) × (xs ≡ part ++ rest))

part_of : (xs : List ℕ) (b : ℕ) (part rest : List ℕ) → xs ++ b ∷ [] ≡ part ++ rest → Part xs b part
part_of xs b [] rest e = inr (xs, refl)
part_of [] b (p ∷ part) rest e = inl (ap₂ (λ x xs. x ∷ xs) (sym (head_same b p [] (part ++ rest) e)) (no_part part rest (tail_same b p [] (part ++ rest) e)))
part_of (x ∷ xs) b (p ∷ part) rest e = go (part_of xs b part rest (tail_same x p (xs ++ b ∷ []) (part ++ rest) e))
  where
    same : x ≡ p
    same = head_same x p (xs ++ b ∷ []) (part ++ rest) e

    go : Part xs b part → Part (x ∷ xs) b (p ∷ part)
    go (inl whole) = inl (ap (λ y. y ∷ part) (sym same) ∙ ap (λ ys. x ∷ ys) whole)
    go (inr s) = inr (s.0, ap (λ y. y ∷ xs) same ∙ ap (λ ys. p ∷ ys) s.1)

-- a field that is open stays so with a byte behind which csv isn't before a field
stays_open : (d : ℕ) (text : List ℕ) (b line : ℕ) → begins_field (state_of d (text ++ b ∷ [])) ≡ false → IsQuotedFrom d text line → IsQuotedFrom d (text ++ b ∷ []) line
stays_open d text b line inside q = record {
  front = q.front;
  inside = q.inside ++ b ∷ [];
  parts = whole;
  begins = q.begins;
  within = λ part rest e. go part (part_of q.inside b part rest e);
  in_line = q.in_line;
}
  where
    whole : text ++ b ∷ [] ≡ q.front ++ 34 ∷ (q.inside ++ b ∷ [])
    whole = ap (λ t. t ++ b ∷ []) q.parts ∙ append_assoc q.front (34 ∷ q.inside) (b ∷ [])

    go : (part : List ℕ) → Part q.inside b part → begins_field (state_of d (q.front ++ 34 ∷ part)) ≡ false
    go part (inl all) = subst (λ t. begins_field (state_of d t) ≡ false) (whole ∙ ap (λ p. q.front ++ 34 ∷ p) (sym all)) inside
    go part (inr s) = q.within part s.0 s.1

opens : (d : ℕ) (text : List ℕ) → begins_field (state_of d text) ≡ true → begins_field (state_of d (text ++ 34 ∷ [])) ≡ false → IsQuotedFrom d (text ++ 34 ∷ []) (line_of_end text)
opens d text begins inside = record {
  front = text;
  inside = [];
  parts = refl;
  begins = begins;
  within = λ part rest e. subst (λ p. begins_field (state_of d (text ++ 34 ∷ p)) ≡ false) (sym (no_part part rest e)) inside;
  in_line = refl;
}

pub quoted_next : (d : ℕ) (text : List ℕ) (b : ℕ) (old new : Quoting) (opened : ℕ) → IsAt old (state_of d text) → LeadsTo d text b old new → (is_quoted old ≡ true → IsQuotedFrom d text opened)
    → is_quoted new ≡ true → IsQuotedFrom d (text ++ b ∷ []) (opened_by old new opened (line_of_end text))
quoted_next d text b quoting.Begin quoting.Inside opened at leads before is =
    let inside : begins_field (state_of d (text ++ b ∷ [])) ≡ false = same_begin quoting.Inside (state_of d (text ++ b ∷ [])) leads.at in
    subst (λ x. begins_field (state_of d (text ++ x ∷ [])) ≡ false → IsQuotedFrom d (text ++ x ∷ []) (line_of_end text)) (sym leads.quoted) (opens d text (same_begin quoting.Begin (state_of d text) at)) inside
quoted_next d text b quoting.Begin quoting.AtQuote opened at leads before is = absurd leads.quoted
quoted_next d text b quoting.Plain quoting.Inside opened at leads before is = absurd leads.quoted
quoted_next d text b quoting.Plain quoting.AtQuote opened at leads before is = absurd leads.quoted
quoted_next d text b quoting.Inside quoting.Inside opened at leads before is = stays_open d text b opened (same_begin quoting.Inside (state_of d (text ++ b ∷ [])) leads.at) (before refl)
quoted_next d text b quoting.Inside quoting.AtQuote opened at leads before is = stays_open d text b opened (same_begin quoting.AtQuote (state_of d (text ++ b ∷ [])) leads.at) (before refl)
quoted_next d text b quoting.AtQuote quoting.Inside opened at leads before is = stays_open d text b opened (same_begin quoting.Inside (state_of d (text ++ b ∷ [])) leads.at) (before refl)
quoted_next d text b quoting.AtQuote quoting.AtQuote opened at leads before is = stays_open d text b opened (same_begin quoting.AtQuote (state_of d (text ++ b ∷ [])) leads.at) (before refl)
quoted_next d text b old quoting.Begin opened at leads before is = absurd (true≢false (sym is))
quoted_next d text b old quoting.Plain opened at leads before is = absurd (true≢false (sym is))
