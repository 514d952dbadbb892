-- What a watch has of a text, with one byte more.
use Rattle.std.proofs.Common.{◌≡◌, ℕ, Bool, false, List, [], ◌∷◌, ◌++◌, Option, Some, None, refl, ap, ◌∙◌, sym, subst}
use Rattle.csv.specs.Machine.{step}
use Rattle.csv.specs.Reading.{strip_bom}
use Rattle.csv.specs.declared.parser.State.{State}
use Rattle.csv.specs.declared.parser.State.TheVariants as st
use Rattle.rp_input.specs.Layouts.{config_with}
use Rattle.rp_quotes.specs.Quotes.{IsAt, begins_field, goes_on, is_in_field, line_of_end, quoting_of, state_behind, state_of}
use Rattle.rp_quotes.specs.Watching.{HasMark, HasSeen, LeadsTo, LeadsToQuoted, is_begin, is_plain, is_stray, line_with}
use Rattle.rp_quotes.specs.declared.mark.Mark.TheVariants as mark
use Rattle.rp_quotes.specs.declared.quoting.Quoting.{Quoting}
use Rattle.rp_quotes.specs.declared.quoting.Quoting.TheVariants as quoting
use Rattle.rp_quotes.specs.declared.watch.QuoteWatch.{QuoteWatch}
use Rattle.rp_quotes.proofs.Marks.{stripped_last}
use Rattle.rp_quotes.proofs.Steps.{behind_last, last_line, line_last}

pub at_start : (d : ℕ) → IsAt quoting.Begin (state_of d [])
unfolding state_behind strip_bom
at_start d = refl

pub line_at_start : 1 ≡ line_of_end []
unfolding strip_bom
line_at_start = refl

-- a step of csv goes on behind a quote where that of the watch does
stray_of : Option Quoting → Option Quoting → Bool
stray_of (Some old) (Some new) = is_stray old new
stray_of _ _ = false

states_stray : (s t : State) → goes_on s t ≡ stray_of (quoting_of s) (quoting_of t)
unfolding stray_of
states_stray st.StartRecord st.StartRecord = refl
states_stray st.StartRecord st.StartField = refl
states_stray st.StartRecord st.InField = refl
states_stray st.StartRecord st.InQuoted = refl
states_stray st.StartRecord st.AfterQuote = refl
states_stray st.StartRecord st.InEscape = refl
states_stray st.StartRecord st.InComment = refl
states_stray st.StartRecord st.AfterCr = refl
states_stray st.StartField st.StartRecord = refl
states_stray st.StartField st.StartField = refl
states_stray st.StartField st.InField = refl
states_stray st.StartField st.InQuoted = refl
states_stray st.StartField st.AfterQuote = refl
states_stray st.StartField st.InEscape = refl
states_stray st.StartField st.InComment = refl
states_stray st.StartField st.AfterCr = refl
states_stray st.InField st.StartRecord = refl
states_stray st.InField st.StartField = refl
states_stray st.InField st.InField = refl
states_stray st.InField st.InQuoted = refl
states_stray st.InField st.AfterQuote = refl
states_stray st.InField st.InEscape = refl
states_stray st.InField st.InComment = refl
states_stray st.InField st.AfterCr = refl
states_stray st.InQuoted st.StartRecord = refl
states_stray st.InQuoted st.StartField = refl
states_stray st.InQuoted st.InField = refl
states_stray st.InQuoted st.InQuoted = refl
states_stray st.InQuoted st.AfterQuote = refl
states_stray st.InQuoted st.InEscape = refl
states_stray st.InQuoted st.InComment = refl
states_stray st.InQuoted st.AfterCr = refl
states_stray st.AfterQuote st.StartRecord = refl
states_stray st.AfterQuote st.StartField = refl
states_stray st.AfterQuote st.InField = refl
states_stray st.AfterQuote st.InQuoted = refl
states_stray st.AfterQuote st.AfterQuote = refl
states_stray st.AfterQuote st.InEscape = refl
states_stray st.AfterQuote st.InComment = refl
states_stray st.AfterQuote st.AfterCr = refl
states_stray st.InEscape st.StartRecord = refl
states_stray st.InEscape st.StartField = refl
states_stray st.InEscape st.InField = refl
states_stray st.InEscape st.InQuoted = refl
states_stray st.InEscape st.AfterQuote = refl
states_stray st.InEscape st.InEscape = refl
states_stray st.InEscape st.InComment = refl
states_stray st.InEscape st.AfterCr = refl
states_stray st.InComment st.StartRecord = refl
states_stray st.InComment st.StartField = refl
states_stray st.InComment st.InField = refl
states_stray st.InComment st.InQuoted = refl
states_stray st.InComment st.AfterQuote = refl
states_stray st.InComment st.InEscape = refl
states_stray st.InComment st.InComment = refl
states_stray st.InComment st.AfterCr = refl
states_stray st.AfterCr st.StartRecord = refl
states_stray st.AfterCr st.StartField = refl
states_stray st.AfterCr st.InField = refl
states_stray st.AfterCr st.InQuoted = refl
states_stray st.AfterCr st.AfterQuote = refl
states_stray st.AfterCr st.InEscape = refl
states_stray st.AfterCr st.InComment = refl
states_stray st.AfterCr st.AfterCr = refl

pub same_stray : (old new : Quoting) (s t : State) → IsAt old s → IsAt new t → goes_on s t ≡ is_stray old new
unfolding stray_of
same_stray old new s t at to = states_stray s t ∙ ap (λ q. stray_of q (quoting_of t)) at ∙ ap (stray_of (Some old)) to

-- csv is before a field, and in one without quotes, where the watch is
begin_of : Option Quoting → Bool
begin_of (Some at) = is_begin at
begin_of None = false

plain_of : Option Quoting → Bool
plain_of (Some at) = is_plain at
plain_of None = false

states_begin : (s : State) → begins_field s ≡ begin_of (quoting_of s)
unfolding begin_of
states_begin st.StartRecord = refl
states_begin st.StartField = refl
states_begin st.InField = refl
states_begin st.InQuoted = refl
states_begin st.AfterQuote = refl
states_begin st.InEscape = refl
states_begin st.InComment = refl
states_begin st.AfterCr = refl

states_plain : (s : State) → is_in_field s ≡ plain_of (quoting_of s)
unfolding plain_of
states_plain st.StartRecord = refl
states_plain st.StartField = refl
states_plain st.InField = refl
states_plain st.InQuoted = refl
states_plain st.AfterQuote = refl
states_plain st.InEscape = refl
states_plain st.InComment = refl
states_plain st.AfterCr = refl

pub same_begin : (at : Quoting) (s : State) → IsAt at s → begins_field s ≡ is_begin at
unfolding begin_of
same_begin at s is = states_begin s ∙ ap begin_of is

pub same_plain : (at : Quoting) (s : State) → IsAt at s → is_in_field s ≡ is_plain at
unfolding plain_of
same_plain at s is = states_plain s ∙ ap plain_of is

-- behind the mark
at_mark : (d : ℕ) → IsAt quoting.Begin (state_of d (0xEF ∷ 0xBB ∷ 0xBF ∷ []))
unfolding state_behind strip_bom
at_mark d = refl

line_of_mark : line_of_end (0xEF ∷ 0xBB ∷ []) ≡ 1
unfolding strip_bom
line_of_mark = refl

line_of_whole : line_of_end (0xEF ∷ 0xBB ∷ 0xBF ∷ []) ≡ 1
unfolding strip_bom
line_of_whole = refl

same_line : (line b : ℕ) → b ≡ 0xBF → line ≡ line_with line b
same_line line b last = ap (λ x. line_with line x) (sym last)

to_begin : (old : Quoting) (b : ℕ) → LeadsToQuoted old b quoting.Begin
to_begin quoting.Begin b = tt
to_begin quoting.Plain b = tt
to_begin quoting.Inside b = tt
to_begin quoting.AtQuote b = tt

pub mark_ends : (d : ℕ) (text : List ℕ) (b : ℕ) (w : QuoteWatch) → w.mark ≡ mark.Second → b ≡ 0xBF → HasSeen d text w → LeadsTo d text b w.quoting quoting.Begin
mark_ends d text b w is last seen =
    let two : text ≡ 0xEF ∷ 0xBB ∷ [] = subst (λ n. HasMark n text) is seen.mark in
    let whole : text ++ b ∷ [] ≡ 0xEF ∷ 0xBB ∷ 0xBF ∷ [] = ap (λ t. t ++ b ∷ []) two ∙ ap (λ x. 0xEF ∷ 0xBB ∷ x ∷ []) last in
    record {
      at = subst (λ t. IsAt quoting.Begin (state_of d t)) (sym whole) (at_mark d);
      quoted = to_begin w.quoting b;
      line = ap line_of_end whole ∙ line_of_whole ∙ sym line_of_mark ∙ ap line_of_end (sym two) ∙ same_line (line_of_end text) b last;
    }

-- anywhere else
pub goes_further : (d : ℕ) (text : List ℕ) (b : ℕ) (w : QuoteWatch) (new : Quoting) → (w.mark ≡ mark.Second → b ≡ 0xBF → ⊥) →
    ((s : State) → IsAt w.quoting s → IsAt new (step (config_with w.delimiter) s b).0) → LeadsToQuoted w.quoting b new → HasSeen d text w → LeadsTo d text b w.quoting new
goes_further d text b w new other leads quoted seen =
    let front : List ℕ = strip_bom text in
    let stripped : strip_bom (text ++ b ∷ []) ≡ front ++ b ∷ [] = stripped_last w.mark text b seen.mark other in
    let state : state_of d (text ++ b ∷ []) ≡ (step (config_with d) (state_of d text) b).0 = ap (state_behind (config_with d) st.StartRecord) stripped ∙ behind_last (config_with d) st.StartRecord front b in
    let to : IsAt new (step (config_with d) (state_of d text) b).0 = subst (λ e. IsAt new (step (config_with e) (state_of d text) b).0) seen.same (leads (state_of d text) seen.at) in
    record {
      at = subst (IsAt new) (sym state) to;
      quoted = quoted;
      line = ap last_line stripped ∙ line_last front b;
    }
