-- Tests and places in the list that a function makes of another.
use Rattle.std.proofs.Common.{◌≡◌, ◌+◌, Bool, not, ◌||◌, cond, List, [], ◌∷◌, map, refl, ap}
use Rattle.std.specs.List.{list_any, prefix_len, position, zip}
use Rattle.std.proofs.lemmas.List.{length-map}

-- a test of the made elements is a test of the elements
pub list_any-map : {X Y : Type 0} (p : Y → Bool) (f : X → Y) (xs : List X) → list_any p (map f xs) ≡ list_any (λ x. p (f x)) xs
list_any-map p f [] = refl
list_any-map p f (x ∷ xs) = ap (λ b. p (f x) || b) (list_any-map p f xs)

-- a list beside a made list
pub zip-map : {X Y Z : Type 0} (f : X → Y) (xs : List X) (zs : List Z) → zip (map f xs) zs ≡ map (λ (q : X × Z). (f q.0, q.1)) (zip xs zs)
zip-map f [] zs = refl
zip-map f (x ∷ xs) [] = refl
zip-map f (x ∷ xs) (z ∷ zs) = ap (λ qs. (f x, z) ∷ qs) (zip-map f xs zs)

-- how many made elements pass from the front on
prefix_len-map : {X Y : Type 0} (p : Y → Bool) (f : X → Y) (xs : List X) → prefix_len p (map f xs) ≡ prefix_len (λ x. p (f x)) xs
prefix_len-map p f [] = refl
prefix_len-map p f (x ∷ xs) = ap (λ n. cond (p (f x)) (1 + n) 0) (prefix_len-map p f xs)

-- the first place of a made element that passes
pub position-map : {X Y : Type 0} (p : Y → Bool) (f : X → Y) (xs : List X) → position p (map f xs) ≡ position (λ x. p (f x)) xs
position-map p f xs = rw (prefix_len-map (λ y. not (p y)) f xs, length-map xs f)
