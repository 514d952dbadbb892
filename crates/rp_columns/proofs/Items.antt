-- Reading a list with commas, each item before what follows it is looked at.
use Rattle.std.proofs.Common.{◌≡◌, ℕ, ◌<◌, List, [], ◌∷◌, ◌++◌, length, Result, Ok, refl, arith}
use Rattle.rp_lexer.specs.declared.token.Token.{Token}
use Rattle.rp_lexer.specs.declared.kind.TokenKind.TheVariants as kind
use Rattle.rp_lexer.specs.declared.kind.Mark.TheVariants as mark
use Rattle.rp_grammar.specs.declared.fault.ParseFault.{ParseFault}
use Rattle.rp_grammar.specs.declared.fault.ParseFault.TheVariants as fault
use Rattle.rp_grammar.specs.Grammar.{Grammar, listed, word}
use Rattle.rp_grammar.specs.Reading.{Refuses}
use Rattle.rp_grammar.proofs.Loops.{ListGoesOn, list_begins, list_goes_on, list_refused}

-- This front of the list is read, and an item has to follow.
pub record NextItem {A : Type 0} (text : List ℕ) (g : Grammar A) (front : List A) (rest : List Token) (whole : Result (List A × List Token) ParseFault) : Type 0 where
  pub taken : (x : A) (left : List Token) → g.read text rest ≡ Ok (x, left) → length left < length rest → ListGoesOn text g (front ++ x ∷ []) left whole
  pub refused : (e : ParseFault) → Refuses e (g.read text rest) → Refuses e whole

first_refused : {A : Type 0} (text : List ℕ) (g : Grammar A) (s : List Token) (e : ParseFault) → Refuses e (g.read text s) → Refuses e ((listed g).read text s)
first_refused text g s fault.OutOfMemory none = tt
first_refused text g s (fault.Expected at) none = rw none refl
first_refused text g s (fault.Deep at) none = rw none refl

pub first_item : {A : Type 0} (text : List ℕ) (g : Grammar A) (s : List Token) → NextItem text g [] s ((listed g).read text s)
first_item text g s = record {
  taken = λ x left first shorter. list_begins text g s left x first;
  refused = first_refused text g s;
}

pub item_behind : {A : Type 0} (text : List ℕ) (g : Grammar A) (front : List A) (rest left next : List Token) (at : ℕ) (x : A) (whole : Result (List A × List Token) ParseFault)
    → g.read text rest ≡ Ok (x, left) → length left < length rest → (word (kind.Mark mark.Comma)).read text left ≡ Ok (at, next) → length next < length left
    → NextItem text g front rest whole → NextItem text g (front ++ x ∷ []) next whole
item_behind text g front rest left next at x whole one shorter comma behind so_far = record {
  taken = λ y more other less. list_goes_on text g refl comma other (omega arith) (so_far.taken x left one shorter);
  refused = λ e none. list_refused text g e comma none (so_far.taken x left one shorter);
}
