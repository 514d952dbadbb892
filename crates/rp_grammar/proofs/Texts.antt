-- A lawful grammar over a whole text, whose tokens are one list.
use Rattle.std.proofs.Common.{◌≡◌, ℕ, List, [], length, Ok, Err, refl, ap}
use Rattle.rp_lexer.specs.Laws.{OneTokenList}
use Rattle.rp_lexer.specs.Lexes.{Lexes}
use Rattle.rp_lexer.specs.declared.token.Token.{Token}
use Rattle.rp_grammar.specs.declared.fault.ParseFault.{ParseFault}
use Rattle.rp_grammar.specs.declared.fault.ParseFault.TheVariants as faults
use Rattle.rp_grammar.specs.Reading.{IsPlace, Refuses, place}
use Rattle.rp_grammar.specs.Grammar.{Grammar}
use Rattle.rp_grammar.specs.Texts.{IsMisplaced, TextDerives}
use Rattle.rp_grammar.proofs.Laws.{Lawful}
use Rattle.rp_grammar.proofs.Whole.{whole_derived, whole_only, whole_rest, whole_refused, whole_fault, whole_left}

module _ {A : Type 0} {text : List ℕ} (g : Grammar A) (gl : Lawful text g) where
  -- what is read of all tokens, the text derives
  pub text_derived : (tokens rest : List Token) (x : A) → Lexes text tokens → length rest ≡ 0 → g.read text tokens ≡ Ok (x, rest) → TextDerives g text x
  text_derived tokens rest x lexed none e = record { tokens = tokens; lexed = lexed; derived = whole_derived g gl tokens rest x none e }

  module _ (one : OneTokenList) where
    -- what the text derives, these tokens of it derive
    same_tokens : (tokens : List Token) (x : A) → Lexes text tokens → TextDerives g text x → g.derives text tokens x []
    same_tokens tokens x lexed is = let same : is.tokens ≡ tokens = one text is.tokens tokens is.lexed lexed in rw same at is.derived

    refused_at : (tokens : List Token) (fault : ParseFault) (at : ℕ) → Lexes text tokens → Refuses fault (g.read text tokens) → (fault ≡ faults.OutOfMemory → ⊥) → IsPlace text tokens at → IsMisplaced g text at
    refused_at tokens fault at lexed refused memory place = record {
      tokens = tokens;
      lexed = lexed;
      place = place;
      none = λ x is. whole_refused g gl tokens fault refused memory x (same_tokens tokens x lexed is);
    }

    -- a token that can't follow is misplaced
    pub text_misplaced : (tokens : List Token) (at : ℕ) → Lexes text tokens → g.read text tokens ≡ Err (faults.Expected at) → IsMisplaced g text at
    text_misplaced tokens at lexed refused = refused_at tokens (faults.Expected at) at lexed refused (λ e. absurd (cc)) (whole_fault g gl tokens (faults.Expected at) refused)

    -- and so is a bracket that is too deep
    pub text_deep : (tokens : List Token) (at : ℕ) → Lexes text tokens → g.read text tokens ≡ Err (faults.Deep at) → IsMisplaced g text at
    text_deep tokens at lexed refused = refused_at tokens (faults.Deep at) at lexed refused (λ e. absurd (cc)) (whole_fault g gl tokens (faults.Deep at) refused)

    -- and what is left behind a front that is read
    pub text_left : (tokens rest : List Token) (x : A) → Lexes text tokens → (length rest ≡ 0 → ⊥) → g.read text tokens ≡ Ok (x, rest) → IsMisplaced g text (place text rest)
    text_left tokens rest x lexed some e = record {
      tokens = tokens;
      lexed = lexed;
      place = whole_left g gl tokens rest x e;
      none = λ y is. some (ap length (whole_rest g gl tokens rest x y e (same_tokens tokens y lexed is)));
    }

    -- a text derives one thing
    pub text_only : (x y : A) → TextDerives g text x → TextDerives g text y → x ≡ y
    text_only x y is other = whole_only g gl is.tokens [] x y (gl.complete is.tokens x [] is.derived refl) (same_tokens is.tokens y is.lexed other)
