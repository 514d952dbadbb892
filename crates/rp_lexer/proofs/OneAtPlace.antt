-- Tokens, comments and gaps at a place of a text: no two of one sort begin there.
use Rattle.std.proofs.Common.{◌≡◌, ℕ, ◌+◌, ◌-◌, ◌<◌, ◌≤◌, true, List, [], ◌++◌, length, get_or, take, drop, sym, refl, ap, ◌∙◌, subst, ⊎_elim, arith, length-drop, get_or-drop, get_or-take, add-zero}
use Rattle.std.proofs.lemmas.List.{append-nil, length-take, take_rest}
use Rattle.std.proofs.lemmas.Bool.{cases_order, both_ways}
use Rattle.std.specs.List.{slice_range}
use Rattle.rp_lexer.specs.Forms.{HasForm}
use Rattle.rp_lexer.specs.Lexes.{is_separator, CommentBegins, IsComment, IsGap, nothing, separator, comment, IsLongest, IsToken}
use Rattle.rp_lexer.specs.Scan.{Stops}
use Rattle.rp_lexer.proofs.FormLemmas.{one_kind, form_no_separator}
use Rattle.rp_lexer.specs.declared.kind.TokenKind.{TokenKind}
use Rattle.rp_lexer.specs.declared.token.Token.{Token}

-- a part of a text is a front of what is left
pub part_is_front : (text : List ℕ) (start len : ℕ) → slice_range text start (start + len) ≡ take len (drop start text)
part_is_front text start len = let e : start + len - start ≡ len = omega arith in ap (λ n. take n (drop start text)) e

pub length_part : (text : List ℕ) (start end : ℕ) → end ≤ length text → length (slice_range text start end) ≡ end - start
length_part text start end within = omega (arith, length-take (end - start) (drop start text), length-drop start text)

pub at_part : (text : List ℕ) (start end i : ℕ) → i < end - start → get_or (slice_range text start end) i 0 ≡ get_or text (start + i) 0
at_part text start end i lt = get_or-take (end - start) (drop start text) i 0 lt ∙ get_or-drop start text i 0

pub first_of_part : (text : List ℕ) (start end : ℕ) → start < end → get_or (slice_range text start end) 0 0 ≡ get_or text start 0
first_of_part text start end lt = at_part text start end 0 (omega arith) ∙ ap (λ i. get_or text i 0) (add-zero start)

-- what is left of a text from the place of a byte on
pub rest_first : (text : List ℕ) (at : ℕ) → get_or (drop at text) 0 0 ≡ get_or text at 0
rest_first text at = get_or-drop at text 0 0 ∙ ap (λ i. get_or text i 0) (add-zero at)

pub part_to_end : (text : List ℕ) (start : ℕ) → slice_range text start (length text) ≡ drop start text
part_to_end text start = take_rest text start

-- the front of what is left is the longest that begins a token
pub record Longest (rest : List ℕ) (kind : TokenKind) (len : ℕ) : Type 0 where
  pub some : 0 < len
  pub within : len ≤ length rest
  pub form : HasForm kind (take len rest)
  pub longest : (more : ℕ) → len < more → more ≤ length rest → (other : TokenKind) (tail : List ℕ) → HasForm other (take more rest ++ tail) → ⊥

pub longest_at : (text : List ℕ) (start : ℕ) (kind : TokenKind) (len : ℕ) → start ≤ length text → Longest (drop start text) kind len → IsLongest text kind start (start + len)
longest_at text start kind len in' h =
    let room = length-drop start text in
    record {
      order = omega (arith, h.some);
      within = omega (arith, h.within, room);
      form = subst (HasForm kind) (sym (part_is_front text start len)) h.form;
      longest = λ more past within begins. h.longest (more - start) (omega arith) (omega (arith, room)) begins.kind begins.more begins.form;
    }

not_shorter : (text : List ℕ) (start : ℕ) (kind other : TokenKind) (end end' : ℕ) → IsLongest text kind start end → IsLongest text other start end' → end < end' → ⊥
not_shorter text start kind other end end' h h' lt =
    h.longest end' lt h'.within (record { kind = other; more = []; form = subst (HasForm other) (sym (append-nil (slice_range text start end'))) h'.form })

pub one_end : (text : List ℕ) (start : ℕ) (kind other : TokenKind) (end end' : ℕ) → IsLongest text kind start end → IsLongest text other start end' → end ≡ end'
one_end text start kind other end end' h h' =
    ⊎_elim (λ same. same)
    (λ differ. absurd (⊎_elim (not_shorter text start kind other end end' h h') (not_shorter text start other kind end' end h' h) differ))
    (cases_order end end')

pub one_longest_kind : (text : List ℕ) (start : ℕ) (kind other : TokenKind) (end end' : ℕ) → IsLongest text kind start end → IsLongest text other start end' → kind ≡ other
one_longest_kind text start kind other end end' h h' =
    one_kind kind other (slice_range text start end) h.form
    (subst (λ n. HasForm other (slice_range text start n)) (sym (one_end text start kind other end end' h h')) h'.form)

-- one token at most begins at a place
pub one_token : (text : List ℕ) (token other : Token) → IsToken text token → IsToken text other → token.start ≡ other.start → token ≡ other
one_token text token other h h' starts =
    let moved = subst (λ s. IsLongest text other.kind s other.end) (sym starts) h'.longest in
    let kinds = one_longest_kind text token.start token.kind other.kind token.end other.end h.longest moved in
    let ends = one_end text token.start token.kind other.kind token.end other.end h.longest moved in
    λ i. record { kind = kinds i; start = starts i; end = ends i }

-- neither a separator nor a comment begins where a token does
pub token_stops : (text : List ℕ) (token : Token) → IsToken text token → Stops text token.start
token_stops text token h = record {
  no_separator = ap is_separator (sym (first_of_part text token.start token.end h.longest.order)) ∙ form_no_separator token.kind (slice_range text token.start token.end) h.longest.form;
  no_comment = h.no_comment;
}

-- a comment ends at one place
comment_no_longer : (text : List ℕ) (start end end' : ℕ) → IsComment text start end → IsComment text start end' → end < end' → ⊥
comment_no_longer text start end end' h h' lt =
    ⊎_elim (λ all. omega (arith, all, h'.within)) (λ feed. h'.inside end h.order lt feed) h.ends

pub one_comment_end : (text : List ℕ) (start end end' : ℕ) → IsComment text start end → IsComment text start end' → end ≡ end'
one_comment_end text start end end' h h' =
    ⊎_elim (λ same. same)
    (λ differ. absurd (⊎_elim (comment_no_longer text start end end' h h') (comment_no_longer text start end' end h' h) differ))
    (cases_order end end')

no_separator_at_comment : (text : List ℕ) (at : ℕ) → CommentBegins text at → is_separator (get_or text at 0) ≡ true → ⊥
no_separator_at_comment text at begins separates = both_ways _ (ap is_separator begins.0) separates

-- separators and comments end at one place
pub one_gap_end : {text : List ℕ} {at end end' : ℕ} → IsGap text at end → IsGap text at end' → Stops text end → Stops text end' → end ≡ end'
one_gap_end nothing nothing stops stops' = refl
one_gap_end nothing (separator is h) stops stops' = absurd (both_ways _ stops.no_separator is)
one_gap_end nothing (comment next is h) stops stops' = absurd (stops.no_comment is.begins)
one_gap_end (separator is g) nothing stops stops' = absurd (both_ways _ stops'.no_separator is)
one_gap_end (separator is g) (separator is' h) stops stops' = one_gap_end g h stops stops'
one_gap_end {text} {at} (separator is g) (comment next is' h) stops stops' = absurd (no_separator_at_comment text at is'.begins is)
one_gap_end (comment next is g) nothing stops stops' = absurd (stops'.no_comment is.begins)
one_gap_end {text} {at} (comment next is g) (separator is' h) stops stops' = absurd (no_separator_at_comment text at is.begins is')
one_gap_end {text} {at} {end} {end'} (comment next is g) (comment next' is' h) stops stops' =
    one_gap_end g (subst (λ n. IsGap text n end') (sym (one_comment_end text at next next' is is')) h) stops stops'
