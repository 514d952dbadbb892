-- What a front of some bytes stands for.
use Rattle.std.specs.Prelude.{ℕ, zero, suc, drop, ◌+◌, ◌-◌, ◌*◌, ◌==◌, ◌&&◌, ◌||◌, Bool, true, false, List, [], ◌∷◌, length, Result, Ok, Err, if◌then◌else◌}
use Rattle.std.specs.Borrow.{Bor}
use Rattle.std.specs.Char.{is_ascii_digit}
use Rattle.std.specs.Result.{result_map_both}
use Rattle.rp_columns.specs.declared.fault.ReadingFault.{ReadingFault}
use Rattle.rp_columns.specs.declared.fault.ReadingFault.TheVariants.{Form}

-- what a front of some bytes stands for and what follows it, or what is wrong
abbrev pub Front : Type 0 → Type 0
Front A = Result (A × List ℕ) ReadingFault

infixl 10 ◌>>=◌
abbrev pub ◌>>=◌ : {A B : Type 0} → Result A ReadingFault → (A → Result B ReadingFault) → Result B ReadingFault
(Ok x) >>= f = f x
(Err e) >>= f = Err e

-- what a function read, with the bytes behind the reference
abbrev pub front_view : {A : Type 0} → Result (A × Bor (List ℕ)) ReadingFault → Front A
front_view r = result_map_both (λ p. (p.0, p.1.now)) (λ e. e) r

abbrev pub rest_view : Result (Bor (List ℕ)) ReadingFault → Result (List ℕ) ReadingFault
rest_view r = result_map_both (λ s. s.now) (λ e. e) r

-- two digits, as their number
unfoldable pub two_digits : List ℕ → Front ℕ
two_digits (a ∷ b ∷ rest) = if is_ascii_digit a && is_ascii_digit b then Ok ((a - 48) * 10 + (b - 48), rest) else Err Form
two_digits _ = Err Form

-- four digits, as their number
unfoldable pub four_digits : List ℕ → Front ℕ
four_digits bytes = do
  a ← two_digits bytes
  b ← two_digits a.1
  Ok (a.0 * 100 + b.0, b.1)

-- the bytes begin with this one
abbrev pub begins_with : ℕ → List ℕ → Bool
begins_with byte [] = false
begins_with byte (b ∷ rest) = b == byte

abbrev pub begins_with_digit : List ℕ → Bool
begins_with_digit [] = false
begins_with_digit (b ∷ rest) = is_ascii_digit b

-- what follows this byte, which comes first
abbrev pub after : ℕ → List ℕ → Result (List ℕ) ReadingFault
after byte [] = Err Form
after byte (b ∷ rest) = if b == byte then Ok rest else Err Form

-- two digits, behind this byte where it has to come first
unfoldable pub two_digits_after : Bool → ℕ → List ℕ → Front ℕ
two_digits_after true byte bytes = after byte bytes >>= two_digits
two_digits_after false byte bytes = two_digits bytes

-- a space or a tab
abbrev pub is_blank : ℕ → Bool
is_blank b = b == 32 || b == 9

-- the bytes behind the blanks that they begin with
unfoldable pub without_blanks : List ℕ → List ℕ
without_blanks [] = []
without_blanks (b ∷ rest) = if is_blank b then without_blanks rest else b ∷ rest

-- blanks, or nothing
abbrev pub are_blanks : List ℕ → Bool
are_blanks bytes = length (without_blanks bytes) == 0

-- the value, where blanks alone follow it
abbrev pub whole : {A : Type 0} → Front A → Result A ReadingFault
whole read = read >>= (λ x. if are_blanks x.1 then Ok x.0 else Err Form)

-- the digits that the bytes begin with, as numbers from 0 to 9, and what follows them
unfoldable pub leading_digits : List ℕ → List ℕ × List ℕ
leading_digits [] = ([], [])
leading_digits (b ∷ rest) = if is_ascii_digit b then ((b - 48) ∷ (leading_digits rest).0, (leading_digits rest).1) else ([], b ∷ rest)

-- the first so many digits of a fraction, with zeros where it has fewer
unfoldable pub placed : ℕ → List ℕ → List ℕ
placed zero digits = []
placed (suc n) [] = 0 ∷ placed n []
placed (suc n) (d ∷ digits) = d ∷ placed n digits

-- the digit that comes first, or 0 where none does, and what follows it
abbrev pub next_place : List ℕ → ℕ × List ℕ
next_place [] = (0, [])
next_place (b ∷ rest) = if is_ascii_digit b then (b - 48, rest) else (0, b ∷ rest)

-- the digits behind so many places, and what follows them
abbrev pub behind_places : ℕ → List ℕ × List ℕ → List ℕ × List ℕ
behind_places places digits = (drop places digits.0, digits.1)
