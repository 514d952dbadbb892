-- Lists that are made one after another of the items of another list.
use Rattle.std.proofs.Common.{◌≡◌, ◌∙◌, ◌+◌, ◌<◌, ◌≤◌, ℕ, List, [], ◌∷◌, ◌++◌, length, get_or, take, map, sym, ap}
use Rattle.std.proofs.lemmas.List.{map_push, take_all, take_more}

-- what is made of those up to a place, and of the one that stands there
pub map_more : {A B : Type 0} (f : A → B) (xs : List A) (i : ℕ) (x : A) → i < length xs → x ≡ get_or xs i x → map f (take (i + 1) xs) ≡ map f (take i xs) ++ f x ∷ []
map_more f xs i x lt is = ap (map f) (take_more xs i x lt ∙ ap (λ y. take i xs ++ y ∷ []) (sym is)) ∙ map_push f (take i xs) x

-- one more was made
pub made_more : {A B : Type 0} (f : A → B) (xs : List A) (i : ℕ) (x : A) (y : B) (made longer : List B) → i < length xs → x ≡ get_or xs i x → y ≡ f x → longer ≡ made ++ y ∷ [] → made ≡ map f (take i xs)
    → longer ≡ map f (take (i + 1) xs)
made_more f xs i x y made longer lt is made_of pushed so_far = pushed ∙ (λ j. so_far j ++ made_of j ∷ []) ∙ sym (map_more f xs i x lt is)

-- all were made
pub made_all : {A B : Type 0} (f : A → B) (xs : List A) (i : ℕ) (made : List B) → length xs ≤ i → made ≡ map f (take i xs) → made ≡ map f xs
made_all f xs i made end so_far = so_far ∙ ap (map f) (take_all i xs end)
