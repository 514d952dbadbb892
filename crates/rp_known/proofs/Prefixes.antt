-- Lists of items that begin others.
use Rattle.std.proofs.Common.{◌≡◌, ◌≤◌, List, [], ◌∷◌, ◌++◌, length, length-append, refl, sym, ap, ◌∙◌, append_assoc, arith}
use Rattle.rp_query.specs.declared.item.Item.{Item}
use Rattle.rp_known.specs.WalkLaws.{IsPrefixOf}

pub append_nil : (xs : List Item) → xs ++ [] ≡ xs
append_nil [] = refl
append_nil (x ∷ xs) = ap (λ z. x ∷ z) (append_nil xs)

pub prefix_nil : (ys : List Item) → IsPrefixOf [] ys
prefix_nil ys = record { rest = ys; is = refl }

pub prefix_same : (xs : List Item) → IsPrefixOf xs xs
prefix_same xs = record { rest = []; is = append_nil xs }

pub prefix_item : (x : Item) (xs ys : List Item) → IsPrefixOf xs ys → IsPrefixOf (x ∷ xs) (x ∷ ys)
prefix_item x xs ys h = record { rest = h.rest; is = ap (λ z. x ∷ z) h.is }

pub prefix_more : (xs ys zs : List Item) → IsPrefixOf xs ys → IsPrefixOf xs (ys ++ zs)
prefix_more xs ys zs h = record { rest = h.rest ++ zs; is = sym (append_assoc xs h.rest zs) ∙ ap (λ z. z ++ zs) h.is }

pub prefix_after : (xs ys zs : List Item) → IsPrefixOf ys zs → IsPrefixOf (xs ++ ys) (xs ++ zs)
prefix_after xs ys zs h = record { rest = h.rest; is = append_assoc xs ys h.rest ∙ ap (λ z. xs ++ z) h.is }

pub prefix_short : (xs ys : List Item) → IsPrefixOf xs ys → length xs ≤ length ys
prefix_short xs ys h = omega (arith, length-append xs h.rest, ap length h.is)
