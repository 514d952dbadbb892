-- A text has one reading: one token list or one first fault.
use Rattle.std.proofs.Common.{◌≡◌, ◌≢◌, ℕ, ◌<◌, ◌≤◌, false, List, [], ◌∷◌, ◌++◌, length, get_or, drop, sym, refl, ap, ◌∙◌, subst, ⊎_elim, arith, length-append}
use Rattle.std.proofs.lemmas.List.{get_or_past, get_or-drop, drop_more, length-drop}
use Rattle.std.proofs.lemmas.Bool.{cases_order, cases_eq}
use Rattle.std.proofs.lemmas.List.Elements.{All-nil, All-cons}
use Rattle.std.specs.Prelude.{All}
use Rattle.std.specs.List.{slice_range}
use Rattle.rp_lexer.specs.Forms.{doubled, enclosed, HasForm}
use Rattle.rp_lexer.specs.Lexes.{is_separator, IsLongest, IsToken, IsInRange, LexesUpTo}
use Rattle.rp_lexer.specs.Scan.{Stops}
use Rattle.rp_lexer.specs.Faults.{IsStray, IsEmptyQuoted, IsUnclosed, IsFault, offset}
use Rattle.rp_lexer.specs.Laws.{OneTokenList, OneFirstFault, NoTokensWithFault, EachStands}
use Rattle.rp_lexer.proofs.Doubled.{doubled-quote, doubled-other, closed_not_open}
use Rattle.rp_lexer.proofs.FormLemmas.{class_of, class_of_kind, class_of_form, form_no_separator}
use Rattle.rp_lexer.proofs.OneAtPlace.{length_part, at_part, first_of_part, rest_first, part_to_end, one_end, one_longest_kind, one_token, token_stops, one_gap_end}
use Rattle.rp_lexer.specs.declared.fault.LexFault.{LexFault}
use Rattle.rp_lexer.specs.declared.fault.LexFault.TheVariants.{BadChar, OpenText, OpenName, NumberRange, OutOfMemory}
use Rattle.rp_lexer.specs.declared.kind.Mark.TheVariants.{Minus}
use Rattle.rp_lexer.specs.declared.kind.TokenKind.{TokenKind}
use Rattle.rp_lexer.specs.declared.kind.TokenKind.TheVariants as kind
use Rattle.rp_lexer.specs.declared.token.Token.{Token}

-- no token begins at the place, and no separator and no comment
pub record IsLast (text : List ℕ) (place : ℕ) : Type 0 where
  pub stops : Stops text place
  pub no_token : (token : Token) → IsToken text token → token.start ≡ place → ⊥

-- two lists of tokens that go on to a place where no token begins are one
pub one_reading : (text : List ℕ) (at : ℕ) (tokens others : List Token) (end end' : ℕ) → LexesUpTo text at tokens end → LexesUpTo text at others end' → IsLast text end → IsLast text end' → (tokens ≡ others) × (end ≡ end')
one_reading text at [] [] end end' h h' last last' = (refl, one_gap_end h h' last.stops last'.stops)
one_reading text at [] (u ∷ us) end end' h h' last last' =
    absurd (last.no_token u h'.1 (sym (one_gap_end h h'.0 last.stops (token_stops text u h'.1))))
one_reading text at (t ∷ ts) [] end end' h h' last last' =
    absurd (last'.no_token t h.1 (one_gap_end h.0 h' (token_stops text t h.1) last'.stops))
one_reading text at (t ∷ ts) (u ∷ us) end end' h h' last last' =
    let starts = one_gap_end h.0 h'.0 (token_stops text t h.1) (token_stops text u h'.1) in
    let same = one_token text t u h.1 h'.1 starts in
    let rest = one_reading text t.end ts us end end' h.2 (subst (λ (v : Token). LexesUpTo text v.end us end') (sym same) h'.2) last last' in
    ((λ i. same i ∷ rest.0 i), rest.1)

pub end_is_last : (text : List ℕ) → IsLast text (length text)
end_is_last text =
    let past : get_or text (length text) 0 ≡ 0 = get_or_past text (length text) 0 (omega arith) in
    record {
      stops = record { no_separator = ap is_separator past; no_comment = λ begins. omega (arith, past, begins.0) };
      no_token = λ token h starts. omega (arith, h.longest.order, h.longest.within, starts);
    }

-- the first byte of a token is of the class of its kind
token_class : (text : List ℕ) (token : Token) (at : ℕ) → IsToken text token → token.start ≡ at → class_of (get_or text at 0) ≡ class_of_kind token.kind
token_class text token at h starts =
    ap (λ s. class_of (get_or text s 0)) (sym starts) ∙ ap class_of (sym (first_of_part text token.start token.end h.longest.order))
    ∙ class_of_form token.kind (slice_range text token.start token.end) h.longest.form

-- a first byte at which no comment begins
stops_at : (text : List ℕ) (at b : ℕ) → get_or text at 0 ≡ b → is_separator b ≡ false → (b ≡ 45 → ⊥) → Stops text at
stops_at text at b is no_separator other = record {
  no_separator = ap is_separator is ∙ no_separator;
  no_comment = λ begins. other (sym is ∙ begins.0);
}

-- ---- a stray byte

part_cons : (text : List ℕ) (start end : ℕ) → start < end → end ≤ length text → (more : List ℕ) × (slice_range text start end ≡ get_or text start 0 ∷ more)
part_cons text start end lt within =
    let some : 0 < length (slice_range text start end) = omega (arith, length_part text start end within) in
    (drop 1 (slice_range text start end), drop_more (slice_range text start end) 0 0 some ∙ ap (λ b. b ∷ drop 1 (slice_range text start end)) (first_of_part text start end lt))

stray_is_last : (text : List ℕ) (at : ℕ) → IsStray (get_or text at 0) → IsLast text at
stray_is_last text at stray = record {
  stops = stops_at text at (get_or text at 0) refl stray.0 (λ is. stray.1 (kind.Mark Minus) [] (ap (λ b. b ∷ []) is));
  no_token = λ token h starts.
      let front = part_cons text token.start token.end h.longest.order h.longest.within in
      let form = subst (HasForm token.kind) (front.1 ∙ ap (λ s. get_or text s 0 ∷ front.0) starts) h.longest.form in
      stray.1 token.kind front.0 form;
}

-- ---- quotes

-- where only one kind begins with the byte, a token there is of that kind
kind_at_quote : (found : TokenKind) → class_of_kind found ≡ 2 → found ≡ kind.Quoted
kind_at_quote kind.Name e = absurd (omega arith)
kind_at_quote (kind.Keyword word) e = absurd (omega arith)
kind_at_quote kind.Quoted e = refl
kind_at_quote kind.Text e = absurd (omega arith)
kind_at_quote kind.Number e = absurd (omega arith)
kind_at_quote (kind.Mark mark) e = absurd (omega arith)

kind_at_single_quote : (found : TokenKind) → class_of_kind found ≡ 3 → found ≡ kind.Text
kind_at_single_quote kind.Name e = absurd (omega arith)
kind_at_single_quote (kind.Keyword word) e = absurd (omega arith)
kind_at_single_quote kind.Quoted e = absurd (omega arith)
kind_at_single_quote kind.Text e = refl
kind_at_single_quote kind.Number e = absurd (omega arith)
kind_at_single_quote (kind.Mark mark) e = absurd (omega arith)

-- the second byte of a quoted name is no quote, unless the third is one too
enclosed_third : (q : ℕ) (inside : List ℕ) → inside ≢ [] → get_or (enclosed q inside) 1 0 ≡ q → (get_or (enclosed q inside) 2 0 ≡ q) × (2 < length (enclosed q inside))
enclosed_third q [] some e = absurd (some refl)
enclosed_third q (b ∷ bytes) some e =
    ⊎_elim
    (λ is. let along : (c : ℕ) → c ≡ q → doubled q (c ∷ bytes) ≡ q ∷ q ∷ doubled q bytes = λ c is'. ap (λ d. doubled q (d ∷ bytes)) is' ∙ doubled-quote q bytes in
    let spelled : enclosed q (b ∷ bytes) ≡ q ∷ q ∷ q ∷ (doubled q bytes ++ q ∷ []) = ap (λ l. q ∷ (l ++ q ∷ [])) (along b is) in
    (ap (λ l. get_or l 2 0) spelled, omega (arith, ap length spelled)))
    (λ other. let spelled : enclosed q (b ∷ bytes) ≡ q ∷ b ∷ (doubled q bytes ++ q ∷ []) = ap (λ l. q ∷ (l ++ q ∷ [])) (doubled-other q b bytes other) in
    absurd (other (sym (ap (λ l. get_or l 1 0) spelled) ∙ e)))
    (cases_eq b q)

empty_no_quoted : (text : List ℕ) (at end : ℕ) → IsEmptyQuoted text at → IsLongest text kind.Quoted at end → ⊥
empty_no_quoted text at end empty h =
    let form = h.form in
    let bytes = slice_range text at end in
    let len = length_part text at end h.within in
    let third = λ (second : get_or (enclosed 34 form.0) 1 0 ≡ 34). enclosed_third 34 form.0 form.1 second in
    let long : 1 < length (enclosed 34 form.0) = omega (arith, length-append (doubled 34 form.0) (34 ∷ [])) in
    let lens = ap length form.2 in
    let second = third (ap (λ l. get_or l 1 0) (sym form.2) ∙ at_part text at end 1 (omega (arith, len, lens, long)) ∙ empty.1) in
    empty.2 (sym (at_part text at end 2 (omega (arith, len, lens, second.1))) ∙ ap (λ l. get_or l 2 0) form.2 ∙ second.0)

longest_of : (text : List ℕ) (token : Token) (kind : TokenKind) (at : ℕ) → IsToken text token → token.start ≡ at → token.kind ≡ kind → IsLongest text kind at token.end
longest_of text token kind at h starts is =
    subst (λ k. IsLongest text k at token.end) is (subst (λ s. IsLongest text token.kind s token.end) starts h.longest)

empty_is_last : (text : List ℕ) (at : ℕ) → IsEmptyQuoted text at → IsLast text at
empty_is_last text at empty = record {
  stops = stops_at text at 34 empty.0 refl (λ e. omega arith);
  no_token = λ token h starts.
      let is = kind_at_quote token.kind (sym (token_class text token at h starts) ∙ ap class_of empty.0) in
      empty_no_quoted text at token.end empty (longest_of text token kind.Quoted at h starts is);
}

-- what never closes begins no token: one that ends sooner isn't the longest, and one that ends with the text would close
open_no_token : (text : List ℕ) (q at end : ℕ) (kind : TokenKind) → (0 ≡ q → ⊥) → (open' : IsUnclosed q text at) → (inside : List ℕ) → IsLongest text kind at end → slice_range text at end ≡ enclosed q inside → HasForm kind (enclosed q open'.0) → ⊥
open_no_token text q at end kind some open' inside h spelled form =
    let rest = part_to_end text at ∙ open'.1 in
    ⊎_elim
    (λ all. closed_not_open q inside open'.0 [] some
    (let e : enclosed q inside ≡ q ∷ doubled q open'.0 = sym spelled ∙ ap (λ n. slice_range text at n) all ∙ rest in cc))
    (λ differ. ⊎_elim
    (λ sooner. h.longest (length text) sooner (omega arith) (record { kind = kind; more = q ∷ []; form = subst (λ l. HasForm kind (l ++ q ∷ [])) (sym rest) form }))
    (λ later. omega (arith, later, h.within))
    differ)
    (cases_order end (length text))

-- a single quote stays open, so it is no quoted name
open_some : (text : List ℕ) (q at end : ℕ) (open' : IsUnclosed q text at) → (inside : List ℕ) → IsLongest text kind.Quoted at end → slice_range text at end ≡ enclosed q inside → open'.0 ≢ []
open_some text q at end open' inside h spelled none' =
    let one : drop at text ≡ q ∷ [] = open'.1 ∙ ap (λ l. q ∷ doubled q l) none' in
    let long : 1 < length (enclosed q inside) = omega (arith, length-append (doubled q inside) (q ∷ [])) in
    omega (arith, ap length one, length-drop at text, h.within, length_part text at end h.within, ap length spelled, long)

open_name_is_last : (text : List ℕ) (at : ℕ) → IsUnclosed 34 text at → IsLast text at
open_name_is_last text at open' =
    let first : get_or text at 0 ≡ 34 = sym (rest_first text at) ∙ ap (λ l. get_or l 0 0) open'.1 in
    record {
      stops = stops_at text at 34 first refl (λ e. omega arith);
      no_token = λ token h starts.
          let is = kind_at_quote token.kind (sym (token_class text token at h starts) ∙ ap class_of first) in
          let longest = longest_of text token kind.Quoted at h starts is in
          let form = longest.form in
          open_no_token text 34 at token.end kind.Quoted (λ e. omega arith) open' form.0 longest form.2
          (open'.0, open_some text 34 at token.end open' form.0 longest form.2, refl);
    }

open_text_is_last : (text : List ℕ) (at : ℕ) → IsUnclosed 39 text at → IsLast text at
open_text_is_last text at open' =
    let first : get_or text at 0 ≡ 39 = sym (rest_first text at) ∙ ap (λ l. get_or l 0 0) open'.1 in
    record {
      stops = stops_at text at 39 first refl (λ e. omega arith);
      no_token = λ token h starts.
          let is = kind_at_single_quote token.kind (sym (token_class text token at h starts) ∙ ap class_of first) in
          let longest = longest_of text token kind.Text at h starts is in
          let form = longest.form in
          open_no_token text 39 at token.end kind.Text (λ e. omega arith) open' form.0 longest form.1 (open'.0, refl);
    }

-- ---- numbers out of range

number_is_last : (text : List ℕ) (at end : ℕ) → IsLongest text kind.Number at end → (IsInRange (slice_range text at end) → ⊥) → IsLast text at
number_is_last text at end h above =
    let first = first_of_part text at end h.order in
    let number_class = ap class_of (sym first) ∙ class_of_form kind.Number (slice_range text at end) h.form in
    record {
      stops = record {
        no_separator = ap is_separator (sym first) ∙ form_no_separator kind.Number (slice_range text at end) h.form;
        no_comment = λ begins. let e : 4 ≡ 1 = sym (ap class_of begins.0) ∙ number_class in omega (arith, e);
      };
      no_token = λ token t starts.
          let moved = subst (λ s. IsLongest text token.kind s token.end) starts t.longest in
          let kinds = one_longest_kind text at token.kind kind.Number token.end end moved h in
          let ends = one_end text at token.kind kind.Number token.end end moved h in
          above (subst (λ n. IsInRange (slice_range text at n)) ends (subst (λ s. IsInRange (slice_range text s token.end)) starts (t.in_range kinds)));
    }

pub fault_is_last : (text : List ℕ) (fault : LexFault) → IsFault text fault → IsLast text (offset fault)
fault_is_last text (BadChar at) h = ⊎_elim (stray_is_last text at) (empty_is_last text at) h.1
fault_is_last text (OpenText at) h = open_text_is_last text at h
fault_is_last text (OpenName at) h = open_name_is_last text at h
fault_is_last text (NumberRange at) h = number_is_last text at h.0 h.1 h.2
fault_is_last text OutOfMemory h = absurd h

-- ---- the laws

pub one_token_list : OneTokenList
one_token_list text tokens others h h' = (one_reading text 0 tokens others (length text) (length text) h h' (end_is_last text) (end_is_last text)).0

before_end : (text : List ℕ) (fault : LexFault) → IsFault text fault → offset fault ≡ length text → ⊥
before_end text (BadChar at) h e = omega (arith, h.0, e)
before_end text (OpenText at) h e = let lens = ap length h.1 in omega (arith, lens, length-drop at text, e)
before_end text (OpenName at) h e = let lens = ap length h.1 in omega (arith, lens, length-drop at text, e)
before_end text (NumberRange at) h e = omega (arith, h.1.order, h.1.within, e)
before_end text OutOfMemory h e = h

pub no_tokens_with_fault : NoTokensWithFault
no_tokens_with_fault text tokens fault h f =
    before_end text fault f.cause (sym (one_reading text 0 tokens f.tokens (length text) (offset fault) h f.before (end_is_last text) (fault_is_last text fault f.cause)).1)

pub each_stands_from : (text : List ℕ) (at : ℕ) (tokens : List Token) (end : ℕ) → LexesUpTo text at tokens end → All (IsToken text) tokens
each_stands_from text at [] end h = All-nil (IsToken text)
each_stands_from text at (t ∷ ts) end h = All-cons (IsToken text) t ts h.1 (each_stands_from text t.end ts end h.2)

pub each_stands : EachStands
each_stands text tokens h = each_stands_from text 0 tokens (length text) h

-- ---- one fault

open_first : (text : List ℕ) (q at : ℕ) → IsUnclosed q text at → get_or text at 0 ≡ q
open_first text q at open' = sym (rest_first text at) ∙ ap (λ l. get_or l 0 0) open'.1

number_first : (text : List ℕ) (at end : ℕ) → IsLongest text kind.Number at end → class_of (get_or text at 0) ≡ 1
number_first text at end h = ap class_of (sym (first_of_part text at end h.order)) ∙ class_of_form kind.Number (slice_range text at end) h.form

-- `""` with no third quote may not begin what never closes
empty_not_open : (text : List ℕ) (at : ℕ) → IsEmptyQuoted text at → IsUnclosed 34 text at → ⊥
empty_not_open text at empty ([], is) =
    let second : get_or (drop at text) 1 0 ≡ 34 = get_or-drop at text 1 0 ∙ empty.1 in
    let zero' : get_or (drop at text) 1 0 ≡ 0 = ap (λ l. get_or l 1 0) is in
    omega (arith, second, zero')
empty_not_open text at empty (b ∷ bytes, is) =
    let second : get_or (drop at text) 1 0 ≡ 34 = get_or-drop at text 1 0 ∙ empty.1 in
    ⊎_elim
    (λ quote. let spelled : drop at text ≡ 34 ∷ 34 ∷ 34 ∷ doubled 34 bytes = is ∙ ap (λ c. 34 ∷ doubled 34 (c ∷ bytes)) quote ∙ ap (λ l. 34 ∷ l) (doubled-quote 34 bytes) in
    empty.2 (sym (get_or-drop at text 2 0) ∙ ap (λ l. get_or l 2 0) spelled))
    (λ other. let spelled : drop at text ≡ 34 ∷ b ∷ doubled 34 bytes = is ∙ ap (λ l. 34 ∷ l) (doubled-other 34 b bytes other) in
    other (sym (ap (λ l. get_or l 1 0) spelled) ∙ second))
    (cases_eq b 34)

-- where a bad character stands, no quote stays open and no number begins
bad_not_text : (text : List ℕ) (at : ℕ) → IsFault text (BadChar at) → IsUnclosed 39 text at → ⊥
bad_not_text text at bad open' =
    let first = open_first text 39 at open' in
    ⊎_elim (λ stray. stray.1 kind.Text (39 ∷ []) ([], ap (λ c. c ∷ 39 ∷ []) first)) (λ empty. omega (arith, first, empty.0)) bad.1

bad_not_name : (text : List ℕ) (at : ℕ) → IsFault text (BadChar at) → IsUnclosed 34 text at → ⊥
bad_not_name text at bad open' =
    let first = open_first text 34 at open' in
    ⊎_elim (λ stray. stray.1 kind.Quoted (97 ∷ 34 ∷ []) (97 ∷ [], λ e. omega (arith, ap length e), ap (λ c. c ∷ 97 ∷ 34 ∷ []) first)) (λ empty. empty_not_open text at empty open') bad.1

bad_not_number : (text : List ℕ) (at end : ℕ) → IsFault text (BadChar at) → IsLongest text kind.Number at end → ⊥
bad_not_number text at end bad h =
    ⊎_elim (λ stray. let front = part_cons text at end h.order h.within in stray.1 kind.Number front.0 (subst (HasForm kind.Number) front.1 h.form))
    (λ empty. omega (arith, sym (ap class_of empty.0) ∙ number_first text at end h)) bad.1

-- faults in the order of their names
rank : LexFault → ℕ
rank (BadChar at) = 0
rank (OpenText at) = 1
rank (OpenName at) = 2
rank (NumberRange at) = 3
rank OutOfMemory = 4

not_before : (text : List ℕ) (fault other : LexFault) → rank fault < rank other → offset fault ≡ offset other → IsFault text fault → IsFault text other → ⊥
unfolding rank
not_before text (BadChar at) (BadChar at') lt e f g = absurd (omega arith)
not_before text (BadChar at) (OpenText at') lt e f g = bad_not_text text at f (subst (IsUnclosed 39 text) (sym e) g)
not_before text (BadChar at) (OpenName at') lt e f g = bad_not_name text at f (subst (IsUnclosed 34 text) (sym e) g)
not_before text (BadChar at) (NumberRange at') lt e f g = bad_not_number text at g.0 f (subst (λ s. IsLongest text kind.Number s g.0) (sym e) g.1)
not_before text (BadChar at) OutOfMemory lt e f g = g
not_before text (OpenText at) (BadChar at') lt e f g = absurd (omega arith)
not_before text (OpenText at) (OpenText at') lt e f g = absurd (omega arith)
not_before text (OpenText at) (OpenName at') lt e f g = omega (arith, open_first text 39 at f, open_first text 34 at' g, ap (λ s. get_or text s 0) e)
not_before text (OpenText at) (NumberRange at') lt e f g = omega (arith, sym (ap class_of (open_first text 39 at f)) ∙ ap (λ s. class_of (get_or text s 0)) e ∙ number_first text at' g.0 g.1)
not_before text (OpenText at) OutOfMemory lt e f g = g
not_before text (OpenName at) (BadChar at') lt e f g = absurd (omega arith)
not_before text (OpenName at) (OpenText at') lt e f g = absurd (omega arith)
not_before text (OpenName at) (OpenName at') lt e f g = absurd (omega arith)
not_before text (OpenName at) (NumberRange at') lt e f g = omega (arith, sym (ap class_of (open_first text 34 at f)) ∙ ap (λ s. class_of (get_or text s 0)) e ∙ number_first text at' g.0 g.1)
not_before text (OpenName at) OutOfMemory lt e f g = g
not_before text (NumberRange at) (BadChar at') lt e f g = absurd (omega arith)
not_before text (NumberRange at) (OpenText at') lt e f g = absurd (omega arith)
not_before text (NumberRange at) (OpenName at') lt e f g = absurd (omega arith)
not_before text (NumberRange at) (NumberRange at') lt e f g = absurd (omega arith)
not_before text (NumberRange at) OutOfMemory lt e f g = g
not_before text OutOfMemory (BadChar at') lt e f g = f
not_before text OutOfMemory (OpenText at') lt e f g = f
not_before text OutOfMemory (OpenName at') lt e f g = f
not_before text OutOfMemory (NumberRange at') lt e f g = f
not_before text OutOfMemory OutOfMemory lt e f g = f

same_rank : (fault other : LexFault) → rank fault ≡ rank other → offset fault ≡ offset other → fault ≡ other
unfolding rank
same_rank (BadChar at) (BadChar at') r e = ap BadChar e
same_rank (BadChar at) (OpenText at') r e = absurd (omega arith)
same_rank (BadChar at) (OpenName at') r e = absurd (omega arith)
same_rank (BadChar at) (NumberRange at') r e = absurd (omega arith)
same_rank (BadChar at) OutOfMemory r e = absurd (omega arith)
same_rank (OpenText at) (BadChar at') r e = absurd (omega arith)
same_rank (OpenText at) (OpenText at') r e = ap OpenText e
same_rank (OpenText at) (OpenName at') r e = absurd (omega arith)
same_rank (OpenText at) (NumberRange at') r e = absurd (omega arith)
same_rank (OpenText at) OutOfMemory r e = absurd (omega arith)
same_rank (OpenName at) (BadChar at') r e = absurd (omega arith)
same_rank (OpenName at) (OpenText at') r e = absurd (omega arith)
same_rank (OpenName at) (OpenName at') r e = ap OpenName e
same_rank (OpenName at) (NumberRange at') r e = absurd (omega arith)
same_rank (OpenName at) OutOfMemory r e = absurd (omega arith)
same_rank (NumberRange at) (BadChar at') r e = absurd (omega arith)
same_rank (NumberRange at) (OpenText at') r e = absurd (omega arith)
same_rank (NumberRange at) (OpenName at') r e = absurd (omega arith)
same_rank (NumberRange at) (NumberRange at') r e = ap NumberRange e
same_rank (NumberRange at) OutOfMemory r e = absurd (omega arith)
same_rank OutOfMemory (BadChar at') r e = absurd (omega arith)
same_rank OutOfMemory (OpenText at') r e = absurd (omega arith)
same_rank OutOfMemory (OpenName at') r e = absurd (omega arith)
same_rank OutOfMemory (NumberRange at') r e = absurd (omega arith)
same_rank OutOfMemory OutOfMemory r e = refl

one_fault_at : (text : List ℕ) (fault other : LexFault) → IsFault text fault → IsFault text other → offset fault ≡ offset other → fault ≡ other
one_fault_at text fault other f g e =
    ⊎_elim (λ same. same_rank fault other same e)
    (λ differ. absurd (⊎_elim (λ lt. not_before text fault other lt e f g) (λ lt. not_before text other fault lt (sym e) g f) differ))
    (cases_order (rank fault) (rank other))

pub one_first_fault : OneFirstFault
one_first_fault text fault other f g =
    one_fault_at text fault other f.cause g.cause
    (one_reading text 0 f.tokens g.tokens (offset fault) (offset other) f.before g.before (fault_is_last text fault f.cause) (fault_is_last text other g.cause)).1
