-- How a request of HTTP begins.
use Rattle.std.specs.Prelude.{Bool, ℕ, List, [], ◌∷◌, codes, nat_eq}
use Rattle.std.specs.List.{list_any, starts_with}

-- The words that a request of HTTP begins with, each with the blank behind it (RFC 9110, section 9.3; RFC 5789, section 2), and the
-- first line of a connection of HTTP/2 (RFC 9113, section 3.4).
abbrev pub beginnings : List (List ℕ)
beginnings = codes "GET " ∷ codes "HEAD " ∷ codes "POST " ∷ codes "PUT " ∷ codes "DELETE " ∷ codes "CONNECT " ∷ codes "OPTIONS " ∷ codes "TRACE "
    ∷ codes "PATCH " ∷ codes "PRI " ∷ []

-- The bytes begin with one of them.
abbrev pub begins_http : List ℕ → Bool
begins_http bytes = list_any (λ beginning. starts_with nat_eq bytes beginning) beginnings
