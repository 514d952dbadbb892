-- Reading a list with commas by a loop, each turn of which begins with an item.
use Rattle.std.proofs.Common.{◌≡◌, ℕ, ◌<◌, List, [], ◌∷◌, ◌++◌, length, Result, Ok, map, refl, ap, ◌∙◌, arith}
use Rattle.std.proofs.lemmas.List.{map_push}
use Rattle.rp_lexer.specs.declared.token.Token.{Token}
use Rattle.rp_lexer.specs.declared.kind.TokenKind.TheVariants as kind
use Rattle.rp_lexer.specs.declared.kind.Mark.TheVariants as mark
use Rattle.rp_grammar.specs.declared.fault.ParseFault.{ParseFault}
use Rattle.rp_grammar.specs.declared.fault.ParseFault.TheVariants as fault
use Rattle.rp_grammar.specs.Reading.{Refuses}
use Rattle.rp_grammar.specs.Grammar.{Grammar, listed}
use Rattle.rp_grammar.proofs.Loops.{ListGoesOn, list_begins, list_goes_on, list_refused}
use Rattle.rp_syntax.proofs.Following.{Follows, shorter_after, word_after}

-- This front of a list is read, and an item is due.
pub record ItemDue {A : Type 0} (text : List ℕ) (g : Grammar A) (front : List A) (rest : List Token) (whole : Result (List A × List Token) ParseFault) : Type 0 where
  pub goes_on : (x : A) (left : List Token) → g.read text rest ≡ Ok (x, left) → length left < length rest → ListGoesOn text g (front ++ x ∷ []) left whole
  pub refused : (e : ParseFault) → Refuses e (g.read text rest) → Refuses e whole

first_refused : {A : Type 0} (text : List ℕ) (g : Grammar A) (s : List Token) (e : ParseFault) → Refuses e (g.read text s) → Refuses e ((listed g).read text s)
first_refused text g s fault.OutOfMemory none = tt
first_refused text g s (fault.Expected at) none = rw none refl
first_refused text g s (fault.Deep at) none = rw none refl

-- The first item of a list is due.
pub first_due : {A : Type 0} (text : List ℕ) (g : Grammar A) (s : List Token) → ItemDue text g [] s ((listed g).read text s)
first_due text g s = record {
  goes_on = λ x left first shorter. list_begins text g s left x first;
  refused = first_refused text g s;
}

-- An item is due behind a comma.
pub next_due : {A : Type 0} {front : List A} {rest left : List Token} {whole : Result (List A × List Token) ParseFault} (text : List ℕ) (g : Grammar A)
    → Follows (kind.Mark mark.Comma) rest left → ListGoesOn text g front rest whole → ItemDue text g front left whole
next_due {rest = rest} {left = left} text g comma so_far =
    let less : length left < length rest = shorter_after comma in
    record {
      goes_on = λ x behind one shorter. list_goes_on text g refl (word_after text comma) one (omega arith) so_far;
      refused = λ e none. list_refused text g e (word_after text comma) none so_far;
    }

-- An item is read where it is due, and put behind the others.
pub item_read : {A : Type 0} {front more : List A} {rest left : List Token} {x : A} {whole : Result (List A × List Token) ParseFault} (text : List ℕ) (g : Grammar A)
    → more ≡ front ++ x ∷ [] → g.read text rest ≡ Ok (x, left) → length left < length rest → ItemDue text g front rest whole → ListGoesOn text g more left whole
item_read {left = left} {x = x} text g is one shorter due = rw is (due.goes_on x left one shorter)

-- The same, where the items are seen by a view.
pub seen_item_read : {A X : Type 0} {more : List X} {rest left : List Token} {whole : Result (List A × List Token) ParseFault} (text : List ℕ) (g : Grammar A) (view : X → A) (items : List X) (item : X)
    → more ≡ items ++ item ∷ [] → g.read text rest ≡ Ok (view item, left) → length left < length rest → ItemDue text g (map view items) rest whole → ListGoesOn text g (map view more) left whole
seen_item_read text g view items item is one shorter due = item_read text g (ap (map view) is ∙ map_push view items item) one shorter due
