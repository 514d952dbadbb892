-- The replies so far.
use Rattle.std.proofs.Common.{◌≡◌, ℕ, suc, ◌<◌, ◌≤◌, List, [], ◌∷◌, ◌++◌, length, take, Option, Some, None, refl, ap, ◌∙◌, sym, append_assoc, append-nil, IfSome, arith, leb, false, ⊎_elim, min, codes}
use Rattle.std.specs.Io.KnownBytes.{Appends, prepend_known}
use Rattle.std.proofs.lemmas.Grind.{flat_map-append}
use Rattle.std.proofs.lemmas.List.{length-take, take_all}
use Rattle.std.proofs.lemmas.Bool.{cases_lt}
use Rattle.std.proofs.lemmas.Bool.Decides.{nat_tests}
use Rattle.rp_words.specs.declared.form.Form.{Form}
use Rattle.rp_io.specs.Devices.{AppendsFront, Moves}
use Rattle.rp_io.specs.Lines.{lines_of, IsLfFree, TakesLast, TakesLine}
use Rattle.rp_io.proofs.Cutting.{lines-front, lines-last}
use Rattle.rp_trace.specs.Replies.{last_reply, reply_to, replies_to}

-- What was written and what is gathered answer the lines that are taken, and the others are to come.
abbrev pub Replied : Form → Option (List ℕ) → Option (List ℕ) → Option (List ℕ) → Option (List ℕ) → List ℕ → Type 0
Replied form None now old new text = Unit {0}
Replied form (Some xs) None old new text = ⊥
Replied form (Some xs) (Some ys) None new text = Unit {0}
Replied form (Some xs) (Some ys) (Some a) None text = ⊥
Replied form (Some xs) (Some ys) (Some a) (Some b) text =
    (done : List (List ℕ)) × (front : List ℕ) × (lines_of xs ≡ done ++ lines_of ys) × (b ≡ a ++ front) × (front ++ text ≡ replies_to form done)

pub Replied-start : (form : Form) (input contents : Option (List ℕ)) (pending text : List ℕ) → pending ≡ [] → text ≡ [] → Replied form input (prepend_known pending input) contents contents text
Replied-start form None contents pending text none empty = tt
Replied-start form (Some xs) None pending text none empty = tt
Replied-start form (Some xs) (Some a) pending text none empty = ([], [], sym (ap (λ t. lines_of (t ++ xs)) none), sym (append-nil a), empty)

refused : (form : Form) (line : List ℕ) → 4096 < length line → reply_to form line ≡ codes "refused" ++ 10 ∷ []
refused form line many = let no : leb (length line) 4096 ≡ false = grind (arith, nat_tests) in rw no refl

short : (form : Form) (line whole : List ℕ) → line ≡ take 4097 whole → 4096 < length whole → reply_to form line ≡ reply_to form whole
short form line whole is many =
    let size : length line ≡ min 4097 (length whole) = ap length is ∙ length-take 4097 whole in
    refused form line (omega arith) ∙ sym (refused form whole many)

long : (form : Form) (line whole : List ℕ) → line ≡ take 4097 whole → length whole ≤ 4096 → reply_to form line ≡ reply_to form whole
long form line whole is few = ap (reply_to form) (is ∙ take_all 4097 whole (omega arith))

-- a long line is refused by its front
reply-kept : (form : Form) (line whole : List ℕ) → line ≡ take 4097 whole → reply_to form line ≡ reply_to form whole
reply-kept form line whole is = ⊎_elim (short form line whole is) (long form line whole is) (cases_lt 4096 (length whole))

replies-one : (form : Form) (done : List (List ℕ)) (line : List ℕ) → replies_to form (done ++ line ∷ []) ≡ replies_to form done ++ reply_to form line
replies-one form done line = flat_map-append (reply_to form) done (line ∷ []) ∙ ap (λ t. replies_to form done ++ t) (append-nil (reply_to form line))

pub Replied-more : (form : Form) (input now next old new : Option (List ℕ)) (text more line : List ℕ) → Replied form input now old new text
    → TakesLine 4097 now next line → more ≡ text ++ reply_to form line → Replied form input next old new more
Replied-more form None now next old new text more line replied takes is = tt
Replied-more form (Some xs) None next old new text more line replied takes is = absurd replied
Replied-more form (Some xs) (Some ys) None old new text more line replied takes is = absurd takes
Replied-more form (Some xs) (Some ys) (Some zs) None new text more line replied takes is = tt
Replied-more form (Some xs) (Some ys) (Some zs) (Some a) None text more line replied takes is = absurd replied
Replied-more form (Some xs) (Some ys) (Some zs) (Some a) (Some b) text more line replied takes is =
    let whole = takes.0 in
    let done = replied.0 in
    let front = replied.1 in (
      done ++ whole ∷ [],
      front,
      replied.2 ∙ ap (λ t. done ++ t) (ap lines_of takes.2 ∙ lines-front whole zs takes.1) ∙ sym (append_assoc done (whole ∷ []) (lines_of zs)),
      replied.3,
      ap (λ t. front ++ t) (is ∙ ap (λ t. text ++ t) (reply-kept form line whole takes.3)) ∙ sym (append_assoc front text (reply_to form whole))
          ∙ ap (λ t. t ++ reply_to form whole) replied.4 ∙ sym (replies-one form done whole),
    )

pub Replied-moved : (form : Form) (input now old new next : Option (List ℕ)) (text rest : List ℕ) → Replied form input now old new text → Moves new text next rest → Replied form input now old next rest
Replied-moved form None now old new next text rest replied moves = tt
Replied-moved form (Some xs) None old new next text rest replied moves = absurd replied
Replied-moved form (Some xs) (Some ys) None new next text rest replied moves = tt
Replied-moved form (Some xs) (Some ys) (Some a) None next text rest replied moves = absurd replied
Replied-moved form (Some xs) (Some ys) (Some a) (Some b) None text rest replied moves = absurd moves
Replied-moved form (Some xs) (Some ys) (Some a) (Some b) (Some c) text rest replied moves = (
  replied.0,
  replied.1 ++ moves.0,
  replied.2,
  moves.2 ∙ ap (λ t. t ++ moves.0) replied.3 ∙ append_assoc a replied.1 moves.0,
  append_assoc replied.1 moves.0 rest ∙ ap (λ t. replied.1 ++ t) (sym moves.1) ∙ replied.4,
)

replies-last : (form : Form) (done : List (List ℕ)) (whole line : List ℕ) → IsLfFree whole → line ≡ take 4097 whole → replies_to form (done ++ lines_of whole) ≡ replies_to form done ++ last_reply form line
replies-last form done [] line free is = rw is (ap (replies_to form) (append-nil done) ∙ sym (append-nil (replies_to form done)))
replies-last form done (b ∷ whole) [] free is = absurd (let none : 0 ≡ suc (length (take 4096 whole)) = ap length is in omega arith)
replies-last form done (b ∷ whole) (a ∷ line) free is =
    ap (λ t. replies_to form (done ++ t)) (lines-last (b ∷ whole) free (λ e. absurd (omega arith))) ∙ replies-one form done (b ∷ whole) ∙ ap (λ t. replies_to form done ++ t) (sym (reply-kept form (a ∷ line) (b ∷ whole) is))

-- the part behind the last LF is answered too
pub Replied-last : (form : Form) (input now next old new : Option (List ℕ)) (text more part : List ℕ) → Replied form input now old new text
    → TakesLast 4097 now next part → more ≡ text ++ last_reply form part → Replied form input next old new more
Replied-last form None now next old new text more part replied takes is = tt
Replied-last form (Some xs) None next old new text more part replied takes is = absurd replied
Replied-last form (Some xs) (Some ys) None old new text more part replied takes is = absurd takes
Replied-last form (Some xs) (Some ys) (Some zs) None new text more part replied takes is = tt
Replied-last form (Some xs) (Some ys) (Some zs) (Some a) None text more part replied takes is = absurd replied
Replied-last form (Some xs) (Some ys) (Some zs) (Some a) (Some b) text more part replied takes is =
    let done = replied.0 in
    let front = replied.1 in (
      done ++ lines_of ys,
      front,
      replied.2 ∙ sym (append-nil (done ++ lines_of ys)) ∙ ap (λ t. (done ++ lines_of ys) ++ lines_of t) (sym takes.1),
      replied.3,
      ap (λ t. front ++ t) is ∙ sym (append_assoc front text (last_reply form part)) ∙ ap (λ t. t ++ last_reply form part) replied.4 ∙ sym (replies-last form done ys part takes.0 takes.2),
    )

pub Replied-end : (form : Form) (input now next old new last : Option (List ℕ)) (text more part : List ℕ) → Replied form input now old new text → TakesLast 4097 now next part
    → more ≡ text ++ last_reply form part → Appends new last more → IfSome input (λ xs. Appends old last (replies_to form (lines_of xs)))
Replied-end form None now next old new last text more part replied takes is wrote = tt
Replied-end form (Some xs) None next old new last text more part replied takes is wrote = absurd replied
Replied-end form (Some xs) (Some ys) None old new last text more part replied takes is wrote = absurd takes
Replied-end form (Some xs) (Some ys) (Some zs) None new last text more part replied takes is wrote = tt
Replied-end form (Some xs) (Some ys) (Some zs) (Some a) None last text more part replied takes is wrote = absurd replied
Replied-end form (Some xs) (Some ys) (Some zs) (Some a) (Some b) None text more part replied takes is wrote = absurd wrote
Replied-end form (Some xs) (Some ys) (Some zs) (Some a) (Some b) (Some c) text more part replied takes is wrote =
    let done = Replied-last form (Some xs) (Some ys) (Some zs) (Some a) (Some b) text more part replied takes is in
    let all : lines_of xs ≡ done.0 = done.2 ∙ ap (λ t. done.0 ++ lines_of t) takes.1 ∙ append-nil done.0 in
    wrote ∙ ap (λ t. t ++ more) done.3 ∙ append_assoc a done.1 more ∙ ap (λ t. a ++ t) (done.4 ∙ ap (replies_to form) (sym all))

-- a fault leaves a front of the replies, whether it comes before a part of the text is written or then
pub Replied-fault : (form : Form) (input now old new last : Option (List ℕ)) (text : List ℕ) → Replied form input now old new text → AppendsFront new last text
    → IfSome input (λ xs. AppendsFront old last (replies_to form (lines_of xs)))
Replied-fault form None now old new last text replied wrote = tt
Replied-fault form (Some xs) None old new last text replied wrote = absurd replied
Replied-fault form (Some xs) (Some ys) None new last text replied wrote = tt
Replied-fault form (Some xs) (Some ys) (Some a) None last text replied wrote = absurd replied
Replied-fault form (Some xs) (Some ys) (Some a) (Some b) None text replied wrote = absurd wrote
Replied-fault form (Some xs) (Some ys) (Some a) (Some b) (Some c) text replied wrote =
    let done = replied.0 in
    let front = replied.1 in
    let first = wrote.0 in
    let rest = wrote.1 in (
      front ++ first,
      rest ++ replies_to form (lines_of ys),
      ap (replies_to form) replied.2 ∙ flat_map-append (reply_to form) done (lines_of ys) ∙ ap (λ t. t ++ replies_to form (lines_of ys)) (sym replied.4 ∙ ap (λ t. front ++ t) wrote.2)
          ∙ middle front first rest (replies_to form (lines_of ys)),
      wrote.3 ∙ ap (λ t. t ++ first) replied.3 ∙ append_assoc a front first,
    )
  where
    middle : (p q r s : List ℕ) → (p ++ (q ++ r)) ++ s ≡ (p ++ q) ++ (r ++ s)
    middle p q r s = simp append_assoc
