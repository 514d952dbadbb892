-- The first field that goes on behind its quote, and the first quote behind blanks, with one byte more.
use Rattle.std.proofs.Common.{◌≡◌, ℕ, ◌⊎◌, inl, inr, Bool, true, false, true≢false, ◌||◌, ◌&&◌, ◌==◌, if◌then◌else◌, List, [], ◌∷◌, ◌++◌, append_assoc, Option, Some, None, MatchOption, refl, sym, ap, ◌∙◌, subst, arith}
use Rattle.std.proofs.lemmas.Bool.Decides.{nat_tests}
use Rattle.rp_quotes.specs.Quotes.{
  HasNoQuoteBehindBlanks,
  HasNoStray,
  IsAt,
  IsBlankField,
  IsFirstQuoteBehindBlanks,
  IsFirstStray,
  IsQuotedFrom,
  begins_field,
  goes_on,
  is_in_field,
  line_of_end,
  state_of,
}
use Rattle.rp_quotes.specs.Quotes.IsBlankField.{first, further}
use Rattle.rp_quotes.specs.Watching.{behind_blank_by, is_begin, is_blank_by, is_plain, is_quoted, is_stray, stray_behind}
use Rattle.rp_quotes.specs.declared.quoting.Quoting.{Quoting}
use Rattle.rp_quotes.specs.declared.quoting.Quoting.TheVariants as quoting
use Rattle.rp_quotes.specs.declared.watch.Stray.{Stray}
use Rattle.rp_quotes.proofs.Opened.{head_same, tail_same}
use Rattle.rp_quotes.proofs.Seen.{same_begin, same_plain, same_stray}

-- where a byte is in a text with one byte more: it is the last, or in the text
abbrev Place : List ℕ → ℕ → List ℕ → ℕ → Type 0
Place text b front x = ((front ≡ text) × (x ≡ b)) ⊎ ((rest : List ℕ) × (text ≡ front ++ x ∷ rest))

place_of : (text : List ℕ) (b : ℕ) (front : List ℕ) (x : ℕ) (rest : List ℕ) → text ++ b ∷ [] ≡ front ++ x ∷ rest → Place text b front x
place_of [] b [] x rest e = inl (refl, sym (head_same b x [] rest e))
place_of [] b (f ∷ []) x rest e = absurd (true≢false cc)
place_of [] b (f ∷ g ∷ front) x rest e = absurd (true≢false cc)
place_of (t ∷ text) b [] x rest e = inr (text, ap (λ y. y ∷ text) (head_same t x (text ++ b ∷ []) rest e))
place_of (t ∷ text) b (f ∷ front) x rest e = go (place_of text b front x rest (tail_same t f (text ++ b ∷ []) (front ++ x ∷ rest) e))
  where
    same : t ≡ f
    same = head_same t f (text ++ b ∷ []) (front ++ x ∷ rest) e

    go : Place text b front x → Place (t ∷ text) b (f ∷ front) x
    go (inl last) = inl (ap (λ y. y ∷ front) (sym same) ∙ ap (λ ys. t ∷ ys) last.0, last.1)
    go (inr s) = inr (s.0, ap (λ y. y ∷ text) same ∙ ap (λ ys. f ∷ ys) s.1)

not_empty : (front rest : List ℕ) (x : ℕ) → [] ≡ front ++ x ∷ rest → ⊥
not_empty [] rest x e = true≢false cc
not_empty (f ∷ front) rest x e = true≢false cc

pub none_at_start : (d : ℕ) → HasNoStray d []
none_at_start d front byte rest e goes = not_empty front rest byte e

pub no_quote_at_start : (d : ℕ) → HasNoQuoteBehindBlanks d []
no_quote_at_start d front rest e blanks = not_empty front rest 34 e

pub no_blank_at_start : (d : ℕ) → IsBlankField d [] → ⊥
no_blank_at_start d (first front parts begins inside) = not_empty front [] 32 parts
no_blank_at_start d (further front parts before inside) = not_empty front [] 32 parts

-- ---- fields that go on

stray_quoted : (old new : Quoting) → is_stray old new ≡ true → is_quoted old ≡ true
stray_quoted quoting.AtQuote new is = refl
stray_quoted quoting.Inside new is = refl
stray_quoted quoting.Begin new is = absurd (true≢false (sym is))
stray_quoted quoting.Plain new is = absurd (true≢false (sym is))

longer_stray : (d : ℕ) (text : List ℕ) (b : ℕ) (s : Stray) → IsFirstStray d text s → IsFirstStray d (text ++ b ∷ []) s
longer_stray d text b s has = record {
  front = has.front;
  byte = has.byte;
  rest = has.rest ++ b ∷ [];
  parts = ap (λ t. t ++ b ∷ []) has.parts ∙ append_assoc has.front (has.byte ∷ has.rest) (b ∷ []);
  goes = has.goes;
  first = has.first;
  begins = has.begins;
  in_line = has.in_line;
}

-- none is new where this one isn't
still_none : (d : ℕ) (text : List ℕ) (b : ℕ) → HasNoStray d text → goes_on (state_of d text) (state_of d (text ++ b ∷ [])) ≡ false → HasNoStray d (text ++ b ∷ [])
still_none d text b none stays front byte rest e goes = go (place_of text b front byte rest e)
  where
    go : Place text b front byte → ⊥
    go (inl last) = true≢false (sym goes ∙ ap (λ x. goes_on (state_of d front) (state_of d (front ++ x ∷ []))) last.1 ∙ ap (λ t. goes_on (state_of d t) (state_of d (t ++ b ∷ []))) last.0 ∙ stays)
    go (inr s) = none front byte s.0 s.1 goes

pub stray_next : (d : ℕ) (text : List ℕ) (b : ℕ) (old new : Quoting) (before : Option Stray) (here : Stray) → IsAt old (state_of d text) → IsAt new (state_of d (text ++ b ∷ []))
    → (is_quoted old ≡ true → IsQuotedFrom d text here.begins) → here.goes_on ≡ line_of_end text
    → MatchOption before (HasNoStray d text) (IsFirstStray d text) → MatchOption (stray_behind old new before here) (HasNoStray d (text ++ b ∷ [])) (IsFirstStray d (text ++ b ∷ []))
stray_next d text b old new (Some s) here at to quoted line has = longer_stray d text b s has
stray_next d text b old new None here at to quoted line none = noted (is_stray old new) refl
  where
    same : goes_on (state_of d text) (state_of d (text ++ b ∷ [])) ≡ is_stray old new
    same = same_stray old new (state_of d text) (state_of d (text ++ b ∷ [])) at to

    noted : (stray : Bool) → is_stray old new ≡ stray → MatchOption (if is_stray old new then Some here else None) (HasNoStray d (text ++ b ∷ [])) (IsFirstStray d (text ++ b ∷ []))
    noted true is = rw is record {
      front = text;
      byte = b;
      rest = [];
      parts = refl;
      goes = same ∙ is;
      first = none;
      begins = quoted (stray_quoted old new is);
      in_line = line;
    }
    noted false is = rw is (still_none d text b none (same ∙ is))

-- ---- quotes behind blanks

both : (x y : Bool) → x && y ≡ true → (x ≡ true) × (y ≡ true)
both true y is = (refl, is)
both false y is = absurd (true≢false (sym is))

either : (x y : Bool) → x || y ≡ true → (x ≡ true) ⊎ (y ≡ true)
either true y is = inl refl
either false y is = inr is

is_this : (b n : ℕ) → (b == n) ≡ true → b ≡ n
is_this b n is = grind (arith, nat_tests)

all_are : (x blank begin plain : Bool) → x ≡ true → (blank ≡ true) ⊎ (begin ≡ true) → plain ≡ true → x && ((blank || begin) && plain) ≡ true
all_are true true begin true x b p = refl
all_are true false true true x b p = refl
all_are true false false true x (inl b) p = absurd (true≢false (sym b))
all_are true false false true x (inr b) p = absurd (true≢false (sym b))
all_are false blank begin plain x b p = absurd (true≢false (sym x))
all_are true blank begin false x b p = absurd (true≢false (sym p))

pub blank_next : (d : ℕ) (text : List ℕ) (b : ℕ) (old new : Quoting) (blank : Bool) → IsAt old (state_of d text) → IsAt new (state_of d (text ++ b ∷ []))
    → (blank ≡ true → IsBlankField d text) → is_blank_by blank old b new ≡ true → IsBlankField d (text ++ b ∷ [])
blank_next d text b old new blank at to has is = go (either blank (is_begin old) (both (blank || is_begin old) (is_plain new) parts.1).0)
  where
    parts : ((b == 32) ≡ true) × ((blank || is_begin old) && is_plain new ≡ true)
    parts = both (b == 32) ((blank || is_begin old) && is_plain new) is

    whole : text ++ b ∷ [] ≡ text ++ 32 ∷ []
    whole = ap (λ x. text ++ x ∷ []) (is_this b 32 parts.0)

    inside : is_in_field (state_of d (text ++ b ∷ [])) ≡ true
    inside = same_plain new (state_of d (text ++ b ∷ [])) to ∙ (both (blank || is_begin old) (is_plain new) parts.1).1

    go : (blank ≡ true) ⊎ (is_begin old ≡ true) → IsBlankField d (text ++ b ∷ [])
    go (inl before) = further text whole (has before) inside
    go (inr begin) = first text whole (same_begin old (state_of d text) at ∙ begin) inside

no_more : (text : List ℕ) (b : ℕ) (front rest : List ℕ) (x : ℕ) → text ++ b ∷ [] ≡ front ++ x ∷ [] → text ≡ front ++ x ∷ rest → ⊥
no_more [] b [] rest x e s = true≢false cc
no_more [] b (f ∷ front) rest x e s = true≢false cc
no_more (t ∷ []) b [] rest x e s = true≢false cc
no_more (t ∷ u ∷ text) b [] rest x e s = true≢false cc
no_more (t ∷ text) b (f ∷ front) rest x e s = no_more text b front rest x (tail_same t f (text ++ b ∷ []) (front ++ x ∷ []) e) (tail_same t f text (front ++ x ∷ rest) s)

-- the last byte is that of a text with one byte more
last_same : (text : List ℕ) (b : ℕ) (front : List ℕ) (x : ℕ) → text ++ b ∷ [] ≡ front ++ x ∷ [] → (front ≡ text) × (x ≡ b)
last_same text b front x e = go (place_of text b front x [] e)
  where
    go : Place text b front x → (front ≡ text) × (x ≡ b)
    go (inl last) = last
    go (inr s) = absurd (no_more text b front s.0 x e s.1)

pub blank_only_next : (d : ℕ) (text : List ℕ) (b : ℕ) (old new : Quoting) (blank : Bool) → IsAt old (state_of d text) → IsAt new (state_of d (text ++ b ∷ []))
    → (IsBlankField d text → blank ≡ true) → IsBlankField d (text ++ b ∷ []) → is_blank_by blank old b new ≡ true
blank_only_next d text b old new blank at to has is = go is refl
  where
    plain : is_in_field (state_of d (text ++ b ∷ [])) ≡ true → is_plain new ≡ true
    plain inside = sym (same_plain new (state_of d (text ++ b ∷ [])) to) ∙ inside

    blanks : (x : ℕ) → 32 ≡ x → (x == 32) ≡ true
    blanks x same = ap (λ y. y == 32) (sym same)

    go : {whole : List ℕ} → IsBlankField d whole → whole ≡ text ++ b ∷ [] → is_blank_by blank old b new ≡ true
    go (first front parts begins inside) e =
        let last : (front ≡ text) × (32 ≡ b) = last_same text b front 32 (sym e ∙ parts) in
        all_are (b == 32) blank (is_begin old) (is_plain new) (blanks b last.1)
        (inr (sym (same_begin old (state_of d text) at) ∙ subst (λ t. begins_field (state_of d t) ≡ true) last.0 begins))
        (plain (subst (λ t. is_in_field (state_of d t) ≡ true) e inside))
    go (further front parts before inside) e =
        let last : (front ≡ text) × (32 ≡ b) = last_same text b front 32 (sym e ∙ parts) in
        all_are (b == 32) blank (is_begin old) (is_plain new) (blanks b last.1) (inl (has (subst (IsBlankField d) last.0 before))) (plain (subst (λ t. is_in_field (state_of d t) ≡ true) e inside))

longer_quote : (d : ℕ) (text : List ℕ) (b line : ℕ) → IsFirstQuoteBehindBlanks d text line → IsFirstQuoteBehindBlanks d (text ++ b ∷ []) line
longer_quote d text b line has = record {
  front = has.front;
  rest = has.rest ++ b ∷ [];
  parts = ap (λ t. t ++ b ∷ []) has.parts ∙ append_assoc has.front (34 ∷ has.rest) (b ∷ []);
  blanks = has.blanks;
  first = has.first;
  in_line = has.in_line;
}

pub quote_next : (d : ℕ) (text : List ℕ) (b : ℕ) (blank : Bool) (before : Option ℕ) (line : ℕ) → line ≡ line_of_end text → (blank ≡ true → IsBlankField d text) → (IsBlankField d text → blank ≡ true)
    → MatchOption before (HasNoQuoteBehindBlanks d text) (IsFirstQuoteBehindBlanks d text)
    → MatchOption (behind_blank_by blank b before line) (HasNoQuoteBehindBlanks d (text ++ b ∷ [])) (IsFirstQuoteBehindBlanks d (text ++ b ∷ []))
quote_next d text b blank (Some found) line same has only before = longer_quote d text b found before
quote_next d text b blank None line same has only none = noted (blank && (b == 34)) refl
  where
    noted : (is : Bool) → blank && (b == 34) ≡ is → MatchOption (if blank && (b == 34) then Some line else None) (HasNoQuoteBehindBlanks d (text ++ b ∷ [])) (IsFirstQuoteBehindBlanks d (text ++ b ∷ []))
    noted true is = rw is record {
      front = text;
      rest = [];
      parts = ap (λ x. text ++ x ∷ []) (is_this b 34 (both blank (b == 34) is).1);
      blanks = has (both blank (b == 34) is).0;
      first = none;
      in_line = same;
    }
    noted false is = rw is (λ front rest e blanks. go front blanks (place_of text b front 34 rest e))
      where
        quote : (x : ℕ) → 34 ≡ x → (x == 34) ≡ true
        quote x this = ap (λ y. y == 34) (sym this)

        go : (front : List ℕ) → IsBlankField d front → Place text b front 34 → ⊥
        go front blanks (inl last) = true≢false (sym (ap (λ x. x && (b == 34)) (only (subst (IsBlankField d) last.0 blanks)) ∙ quote b last.1) ∙ is)
        go front blanks (inr s) = none front s.0 s.1 blanks
