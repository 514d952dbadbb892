-- An object that is sealed is opened again.
use Rattle.std.proofs.Common.{◌≡◌, ◌≤◌, ℕ, List, ◌∷◌, ◌++◌, refl, length, take, drop, arith, length-append, subst}
use Rattle.std.specs.Prelude.{Some}
use Rattle.std.specs.Cmp.Lexicographic.{bytes_decides}
use Rattle.std.proofs.lemmas.Bool.{le-ltb}
use Rattle.std.proofs.Math.Seq.{take-append_seam, drop-append_seam}
use Rattle.sha2.specs.Sha256.{sha256}
use Rattle.sha2.proofs.Facts256.{length-sha256}
use Rattle.hex.specs.Hex.{encode_lower, lower_digits}
use Rattle.hex.proofs.HexLemmas.{length-encode_with}
use Rattle.rp_seal.specs.Sealed.{opened, sealed}

length-digits : (object : List ℕ) → length (encode_lower (sha256 object)) ≡ 64
length-digits object = let a = length-encode_with lower_digits (sha256 object) in let b = length-sha256 object in omega (arith, a, b)

seam : (digits object : List ℕ) → length digits ≡ 64 → (drop 64 (digits ++ 10 ∷ object) ≡ 10 ∷ object) × (take 64 (digits ++ 10 ∷ object) ≡ digits) × (65 ≤ length (digits ++ 10 ∷ object))
seam digits object n =
    let whole = length-append digits (10 ∷ object) in (
      subst (λ k. drop k (digits ++ 10 ∷ object) ≡ 10 ∷ object) n (drop-append_seam digits (10 ∷ object)),
      subst (λ k. take k (digits ++ 10 ∷ object) ≡ digits) n (take-append_seam digits (10 ∷ object)),
      omega (arith, whole, n),
    )

pub opened-sealed : (object : List ℕ) → opened (sealed object) ≡ Some object
opened-sealed object =
    let digits = encode_lower (sha256 object) in
    let s = seam digits object (length-digits object) in
    rw (le-ltb (length (sealed object)) 65 s.2, s.0, s.1, (bytes_decides digits digits).1 refl) refl
