-- Reading one thing after the other, as a loop does.
use Rattle.std.proofs.Common.{◌≡◌, ℕ, zero, suc, ◌<◌, ◌≤◌, List, [], ◌∷◌, ◌++◌, length, Result, Ok, Err, true, false, map, refl, ap, sym, ◌∙◌, append_assoc, arith, if◌then◌else◌}
use Rattle.std.proofs.lemmas.List.{append-nil, map_push}
use Rattle.rp_lexer.specs.declared.token.Token.{Token}
use Rattle.rp_lexer.specs.declared.kind.TokenKind.{TokenKind}
use Rattle.rp_lexer.specs.declared.kind.TokenKind.TheVariants as kind
use Rattle.rp_lexer.specs.declared.kind.Mark.TheVariants as mark
use Rattle.rp_grammar.specs.declared.fault.ParseFault.{ParseFault}
use Rattle.rp_grammar.specs.declared.fault.ParseFault.TheVariants as fault
use Rattle.rp_grammar.specs.Reading.{◌>>=◌, Refuses, starts}
use Rattle.rp_grammar.specs.Grammar.{Grammar, many_at, many, gives, ◌then◌, word, second, listed}
use Rattle.rp_grammar.proofs.Laws.{word_lawful}

-- What was read before, and what is still to be read, is the whole.
pub record GoesOn {A B : Type 0} (kinds : List TokenKind) (read : List Token → Result (A × List Token) ParseFault) (k : List A → List Token → Result B ParseFault) (front : List A) (rest : List Token) (whole : Result B ParseFault) : Type 0 where
  pub fuel : ℕ
  pub enough : length rest ≤ fuel
  pub reads : whole ≡ (many_at kinds read fuel rest >>= λ xs. k (front ++ xs.0) xs.1)

none_starts : (kinds : List TokenKind) (rest : List Token) → starts kinds rest ≡ true → 1 ≤ length rest
none_starts kinds [] e = cc
none_starts kinds (t ∷ rest) e = omega arith

regroup : {A B : Type 0} (k : List A → List Token → Result B ParseFault) (front : List A) (x : A) (read : Result (List A × List Token) ParseFault)
    → (◌>>=◌ {A = List A × List Token} {B = List A × List Token} read (λ xs. Ok (x ∷ xs.0, xs.1)) >>= λ xs. k (front ++ xs.0) xs.1) ≡ (read >>= λ xs. k ((front ++ x ∷ []) ++ xs.0) xs.1)
regroup k front x (Err n) = refl
regroup k front x (Ok xs) = ap (λ ys. k ys xs.1) (sym (append_assoc front (x ∷ []) xs.0))

pub goes_on : {A B : Type 0} (kinds : List TokenKind) (read : List Token → Result (A × List Token) ParseFault) (k : List A → List Token → Result B ParseFault) (front : List A) (rest : List Token) (whole : Result B ParseFault) (x : A) (behind : List Token)
    → starts kinds rest ≡ true → read rest ≡ Ok (x, behind) → length behind < length rest → GoesOn kinds read k front rest whole → GoesOn kinds read k (front ++ x ∷ []) behind whole
goes_on kinds read k front rest whole x behind some one shorter so_far = go so_far.fuel so_far.enough so_far.reads
  where
    go : (n : ℕ) → length rest ≤ n → whole ≡ (many_at kinds read n rest >>= λ xs. k (front ++ xs.0) xs.1) → GoesOn kinds read k (front ++ x ∷ []) behind whole
    go zero enough reads = let l = none_starts kinds rest some in absurd (omega arith)
    go (suc n) enough reads = record {
      fuel = n;
      enough = omega arith;
      reads = reads ∙ rw (some, one) (regroup k front x (many_at kinds read n behind));
    }

pub ends : {A B : Type 0} (kinds : List TokenKind) (read : List Token → Result (A × List Token) ParseFault) (k : List A → List Token → Result B ParseFault) (front : List A) (rest : List Token) (whole : Result B ParseFault)
    → starts kinds rest ≡ false → GoesOn kinds read k front rest whole → whole ≡ k front rest
ends kinds read k front rest whole none so_far = go so_far.fuel so_far.reads
  where
    go : (n : ℕ) → whole ≡ (many_at kinds read n rest >>= λ xs. k (front ++ xs.0) xs.1) → whole ≡ k front rest
    go zero reads = reads ∙ ap (λ ys. k ys rest) (append-nil front)
    go (suc n) reads = reads ∙ rw none (ap (λ ys. k ys rest) (append-nil front))

stopped : {A B : Type 0} (e : ParseFault) (kinds : List TokenKind) (read : List Token → Result (A × List Token) ParseFault) (k : List A → List Token → Result B ParseFault) (front : List A) (rest : List Token) (whole : Result B ParseFault)
    → starts kinds rest ≡ true → read rest ≡ Err e → GoesOn kinds read k front rest whole → whole ≡ Err e
stopped e kinds read k front rest whole some none so_far = go so_far.fuel so_far.enough so_far.reads
  where
    go : (n : ℕ) → length rest ≤ n → whole ≡ (many_at kinds read n rest >>= λ xs. k (front ++ xs.0) xs.1) → whole ≡ Err e
    go zero enough reads = let l = none_starts kinds rest some in absurd (omega arith)
    go (suc n) enough reads = reads ∙ rw (some, none) refl

pub refused : {A B : Type 0} (e : ParseFault) (kinds : List TokenKind) (read : List Token → Result (A × List Token) ParseFault) (k : List A → List Token → Result B ParseFault) (front : List A) (rest : List Token) (whole : Result B ParseFault)
    → starts kinds rest ≡ true → Refuses e (read rest) → GoesOn kinds read k front rest whole → Refuses e whole
refused fault.OutOfMemory kinds read k front rest whole some none so_far = tt
refused (fault.Expected at) kinds read k front rest whole some none so_far = stopped (fault.Expected at) kinds read k front rest whole some none so_far
refused (fault.Deep at) kinds read k front rest whole some none so_far = stopped (fault.Deep at) kinds read k front rest whole some none so_far

-- The front is a first one and those after it.
pub begins : {A B : Type 0} (text : List ℕ) (c : A → List A → List Token → Result B ParseFault) (k : List A → List Token → Result B ParseFault) (g h : Grammar A) (s r : List Token) (x : A) (whole : Result B ParseFault)
    → ((xs : List A) (t : List Token) → c x xs t ≡ k (x ∷ xs) t) → g.read text s ≡ Ok (x, r) → whole ≡ ((many h).read text r >>= λ xs. c x xs.0 xs.1) → GoesOn h.first (h.read text) k (x ∷ []) r whole
begins {A = A} {B = B} text c k g h s r x whole same first is = record { fuel = length r; enough = omega arith; reads = is ∙ each ((many h).read text r) }
  where
    each : (read : Result (List A × List Token) ParseFault) → (read >>= λ xs. c x xs.0 xs.1) ≡ (read >>= λ xs. k (x ∷ xs.0) xs.1)
    each (Err n) = refl
    each (Ok xs) = same xs.0 xs.1

join : {A B : Type 0} (f : A → List A → B) (x : A) (read : Result (List A × List Token) ParseFault)
    → (◌>>=◌ {A = (A × List A) × List Token} {B = B × List Token} (◌>>=◌ {A = List A × List Token} {B = (A × List A) × List Token} read (λ y. Ok ((x, y.0), y.1))) (λ z. Ok (f z.0.0 z.0.1, z.1)))
    ≡ (◌>>=◌ {A = List A × List Token} {B = B × List Token} read (λ xs. Ok (f x xs.0, xs.1)))
join f x (Err n) = refl
join f x (Ok xs) = refl

-- The first of a chain is read, and the others may follow.
pub chain_begins : {A : Type 0} (text : List ℕ) (f : A → List A → A) (all : List A → A) (g h : Grammar A) (s r : List Token) (x : A) → ((xs : List A) → f x xs ≡ all (x ∷ xs)) → g.read text s ≡ Ok (x, r)
    → GoesOn h.first (h.read text) (λ xs t. Ok (all xs, t)) (x ∷ []) r ((gives (λ y. f y.0 y.1) (g then many h)).read text s)
chain_begins text f all g h s r x same first =
    begins text (λ y ys t. Ok (f y ys, t)) (λ ys t. Ok (all ys, t)) g h s r x ((gives (λ y. f y.0 y.1) (g then many h)).read text s) (λ ys t. ap (λ z. Ok (z, t)) (same ys)) first (rw first (join f x ((many h).read text r)))

-- what stands behind a mark
pub behind : {A : Type 0} (text : List ℕ) (k : TokenKind) (g : Grammar A) (s m r : List Token) (at : ℕ) (x : A) → (word k).read text s ≡ Ok (at, m) → g.read text m ≡ Ok (x, r) → (gives second (word k then g)).read text s ≡ Ok (x, r)
behind text k g s m r at x mark one = rw (mark, one) refl

pub behind_refused : {A : Type 0} (text : List ℕ) (e : ParseFault) (k : TokenKind) (g : Grammar A) (s m : List Token) (at : ℕ) → (word k).read text s ≡ Ok (at, m) → Refuses e (g.read text m) → Refuses e ((gives second (word k then g)).read text s)
behind_refused text fault.OutOfMemory k g s m at mark none = tt
behind_refused text (fault.Expected n) k g s m at mark none = rw (mark, none) refl
behind_refused text (fault.Deep n) k g s m at mark none = rw (mark, none) refl

list_join : {A : Type 0} (x : A) (read : Result (List A × List Token) ParseFault)
    → (◌>>=◌ {A = (A × List A) × List Token} {B = List A × List Token} (◌>>=◌ {A = List A × List Token} {B = (A × List A) × List Token} read (λ y. Ok ((x, y.0), y.1))) (λ z. Ok (z.0.0 ∷ z.0.1, z.1)))
    ≡ (◌>>=◌ {A = List A × List Token} {B = List A × List Token} read (λ xs. Ok (x ∷ xs.0, xs.1)))
list_join x (Err n) = refl
list_join x (Ok xs) = refl

-- A list with commas, of which this front is read.
abbrev pub ListGoesOn : {A : Type 0} → List ℕ → Grammar A → List A → List Token → Result (List A × List Token) ParseFault → Type 0
ListGoesOn text g front rest whole = GoesOn (kind.Mark mark.Comma ∷ []) ((gives second (word (kind.Mark mark.Comma) then g)).read text) (λ xs t. Ok (xs, t)) front rest whole

-- The first of a list with commas is read, and the others may follow.
pub list_begins : {A : Type 0} (text : List ℕ) (g : Grammar A) (s r : List Token) (x : A) → g.read text s ≡ Ok (x, r)
    → ListGoesOn text g (x ∷ []) r ((listed g).read text s)
list_begins text g s r x first =
    let rest = gives second (word (kind.Mark mark.Comma) then g) in
    begins text (λ y ys t. Ok (y ∷ ys, t)) (λ ys t. Ok (ys, t)) g rest s r x ((listed g).read text s) (λ ys t. refl) first (rw first (list_join x ((many rest).read text r)))

word_starts : (text : List ℕ) (k : TokenKind) (s r : List Token) (at : ℕ) → (word k).read text s ≡ Ok (at, r) → starts (k ∷ []) s ≡ true
word_starts text k s r at is = let d = (word_lawful {text = text} k).sound s at r is in rw d.tokens_are d.kind

-- One more item is read behind a comma.
pub list_goes_on : {A : Type 0} {front more : List A} {rest m left : List Token} {at : ℕ} {x : A} {whole : Result (List A × List Token) ParseFault} (text : List ℕ) (g : Grammar A)
    → more ≡ front ++ x ∷ [] → (word (kind.Mark mark.Comma)).read text rest ≡ Ok (at, m) → g.read text m ≡ Ok (x, left) → length left < length rest → ListGoesOn text g front rest whole → ListGoesOn text g more left whole
list_goes_on {front = front} {rest = rest} {m = m} {left = left} {at = at} {x = x} {whole = whole} text g is comma one shorter so_far =
    rw is (goes_on (kind.Mark mark.Comma ∷ []) ((gives second (word (kind.Mark mark.Comma) then g)).read text) (λ xs t. Ok (xs, t)) front rest whole x left (word_starts text (kind.Mark mark.Comma) rest m at comma)
    (behind text (kind.Mark mark.Comma) g rest m left at x comma one) shorter so_far)

-- The same, where the items are seen by a view.
pub seen_list_goes_on : {A X : Type 0} {more : List X} {rest m left : List Token} {at : ℕ} {whole : Result (List A × List Token) ParseFault} (text : List ℕ) (g : Grammar A) (view : X → A) (items : List X) (item : X)
    → more ≡ items ++ item ∷ [] → (word (kind.Mark mark.Comma)).read text rest ≡ Ok (at, m) → g.read text m ≡ Ok (view item, left) → length left < length rest → ListGoesOn text g (map view items) rest whole → ListGoesOn text g (map view more) left whole
seen_list_goes_on text g view items item is comma one shorter so_far = list_goes_on text g (ap (map view) is ∙ map_push view items item) comma one shorter so_far

-- The item behind a comma is refused.
pub list_refused : {A : Type 0} {front : List A} {rest m : List Token} {at : ℕ} {whole : Result (List A × List Token) ParseFault} (text : List ℕ) (g : Grammar A) (e : ParseFault)
    → (word (kind.Mark mark.Comma)).read text rest ≡ Ok (at, m) → Refuses e (g.read text m) → ListGoesOn text g front rest whole → Refuses e whole
list_refused {front = front} {rest = rest} {m = m} {at = at} {whole = whole} text g e comma none so_far =
    refused e (kind.Mark mark.Comma ∷ []) ((gives second (word (kind.Mark mark.Comma) then g)).read text) (λ xs t. Ok (xs, t)) front rest whole (word_starts text (kind.Mark mark.Comma) rest m at comma)
    (behind_refused text e (kind.Mark mark.Comma) g rest m at comma none) so_far

-- No comma follows.
pub list_ends : {A : Type 0} {front : List A} {rest : List Token} {whole : Result (List A × List Token) ParseFault} (text : List ℕ) (g : Grammar A)
    → starts (kind.Mark mark.Comma ∷ []) rest ≡ false → ListGoesOn text g front rest whole → whole ≡ Ok (front, rest)
list_ends {front = front} {rest = rest} {whole = whole} text g none so_far =
    ends (kind.Mark mark.Comma ∷ []) ((gives second (word (kind.Mark mark.Comma) then g)).read text) (λ xs t. Ok (xs, t)) front rest whole none so_far

every : {A : Type 0} (read : Result (List A × List Token) ParseFault) → read ≡ (◌>>=◌ {A = List A × List Token} {B = List A × List Token} read (λ xs. Ok (xs.0, xs.1)))
every (Err n) = refl
every (Ok xs) = refl

-- None is read as yet, and any number may follow.
pub many_starts : {A : Type 0} (text : List ℕ) (g : Grammar A) (s : List Token) → GoesOn g.first (g.read text) (λ xs t. Ok (xs, t)) [] s ((many g).read text s)
many_starts text g s = record { fuel = length s; enough = omega arith; reads = every ((many g).read text s) }
