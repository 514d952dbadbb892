-- A session so far, and its end.
use Rattle.std.proofs.Common.{◌≡◌, ◌∙◌, ℕ, ◌+◌, ◌*◌, ◌-◌, append-nil, List, [], ◌∷◌, ◌++◌, length, drop, vec_len, Bool, true, false, Option, refl, sym, ap, subst, length-append, inl, inr, arith, ◌⊎◌, if◌then◌else◌, add-zero, length-drop, Result, Ok, Err, IfErr}
use Rattle.std.proofs.lemmas.Grind.{flat_map-append}
use Rattle.std.specs.Io.KnownBytes.{Appends, prepend_known}
use Rattle.rp_protocol.specs.declared.reply.Reply.{Reply}
use Rattle.rp_io.proofs.Writes.{front_all, front_none, moves_both, moves_end, moves_longer, moves_none, moves_part}
use Rattle.rp_io.specs.Devices.{AppendsFront, Moves}
use Rattle.rp_io.specs.Lines.{TakesLast}
use Rattle.rp_io.specs.Pending.{most_lines_to_come, pending_of}
use Rattle.rp_io.specs.declared.lines.LineFault.{LineFault}
use Rattle.rp_io.specs.declared.lines.LineFault.TheVariants.{OutOfMemory as LineMemory}
use Rattle.rp_io.specs.declared.lines.Lines.{Lines}
use Rattle.rp_protocol.specs.declared.request.Request.{Request}
use Rattle.rp_serve.specs.Served.{AnswersAsked, LeavesLine, LineDone, Serves, line_of, reply_lines}
use Rattle.rp_serve.specs.Sessions.{IsCutShort, IsWrittenBefore, ServesAll, ServesFirst, ServesInPart, StopsAfter}
use Rattle.rp_serve.specs.declared.fault.ServeFault.{ServeFault}
use Rattle.rp_serve.specs.declared.fault.ServeFault.TheVariants.{Read, Write, Turns, OutOfMemory}
use Rattle.rp_serve.proofs.Answered.{serves_one}
use Rattle.rp_serve.proofs.Taken.{HasTaken, IsTaken, all_taken, are_first, taken_none, takes_last, takes_none}

-- The lines that were taken are answered; of the replies some are written, and the rest is gathered.
pub record Serving {X : Type 0} (step : X → Request → Reply → X → Type 0) (input coming : Option (List ℕ)) (old now : X) (w w' : Option (List ℕ)) (text : List ℕ) (count : ℕ) : Type 0 where
  pub lines : List (List ℕ)
  pub replies : List Reply
  pub taken : HasTaken input coming lines
  pub serves : Serves step old lines replies now
  pub moves : Moves w (reply_lines replies) w' text
  pub counted : count ≡ length lines

module _ {X : Type 0} (step : X → Request → Reply → X → Type 0) (input : Option (List ℕ)) (old : X) (w : Option (List ℕ)) where
  pub serving_start : (pending text : List ℕ) → pending ≡ [] → text ≡ [] → Serving step input (prepend_known pending input) old old w w text 0
  serving_start pending text none empty = record {
    lines = [];
    replies = [];
    taken = taken_none input pending none;
    serves = refl;
    moves = moves_none w text [] (sym empty);
    counted = refl;
  }

  module _ (coming : Option (List ℕ)) (now : X) (w' : Option (List ℕ)) (text : List ℕ) (count : ℕ) (so_far : Serving step input coming old now w w' text count) where
    -- all that is gathered was written
    pub serving_first : (w'' : Option (List ℕ)) → Appends w' w'' text → ServesFirst step input old now w w'' count
    serving_first w'' wrote = record {
      lines = so_far.lines;
      replies = so_far.replies;
      first = are_first input coming so_far.lines so_far.taken;
      serves = so_far.serves;
      written = moves_end w w' w'' (reply_lines so_far.replies) text so_far.moves wrote;
      counted = so_far.counted;
    }

    pub serving_part : (w'' : Option (List ℕ)) → AppendsFront w' w'' text → ServesInPart step input old now w w'' count
    serving_part w'' front = record {
      lines = so_far.lines;
      replies = so_far.replies;
      first = are_first input coming so_far.lines so_far.taken;
      serves = so_far.serves;
      written = moves_part w w' w'' (reply_lines so_far.replies) text so_far.moves front;
      counted = so_far.counted;
    }

    -- before the next line came
    pub serving_stops : (cut_short : X → Request → X → Type 0) (fault : ServeFault) (w'' : Option (List ℕ)) → IsWrittenBefore fault w' w'' text → StopsAfter step cut_short fault input old now w w'' count
    serving_stops cut_short Read w'' wrote = serving_first w'' wrote
    serving_stops cut_short Turns w'' wrote = serving_first w'' wrote
    serving_stops cut_short Write w'' front = serving_part w'' front
    serving_stops cut_short OutOfMemory w'' front = inl (serving_part w'' front)

    module _ (coming' : Option (List ℕ)) (line : List ℕ) (is : IsTaken coming coming' line) (w'' : Option (List ℕ)) (text' : List ℕ) (moved : Moves w' text w'' text') where
      -- the line was answered
      pub serving_more : (new : X) (text'' : List ℕ) → LineDone step now line new text' text'' → Serving step input coming' old new w w'' text'' (count + 1)
      serving_more new text'' done = record {
        lines = so_far.lines ++ is.whole ∷ [];
        replies = so_far.replies ++ done.0 ∷ [];
        taken = is.more input so_far.lines so_far.taken;
        serves = serves_one step so_far.lines so_far.replies is.whole done.0 old now new so_far.serves (subst (λ a. AnswersAsked step now a done.0 new) is.same done.1);
        moves = subst (λ t. Moves w t w'' text'') (sym (flat_map-append line_of so_far.replies (done.0 ∷ []) ∙ ap (λ t. reply_lines so_far.replies ++ t) (append-nil (line_of done.0))))
            (subst (λ t. Moves w (reply_lines so_far.replies ++ line_of done.0) w'' t) (sym done.2)
            (moves_longer w w'' (reply_lines so_far.replies) text' (line_of done.0) (moves_both w w' w'' (reply_lines so_far.replies) text text' so_far.moves moved)));
        counted = ap (λ n. n + 1) so_far.counted ∙ sym (length-append so_far.lines (is.whole ∷ []));
      }

      -- memory was refused while it was
      pub serving_cut : (cut_short : X → Request → X → Type 0) (new : X) → LeavesLine step cut_short now line new → IsCutShort step cut_short input old new w w'' count
      serving_cut cut_short new leaves = record {
        lines = so_far.lines;
        replies = so_far.replies;
        line = is.whole;
        first = are_first input coming' (so_far.lines ++ is.whole ∷ []) (is.more input so_far.lines so_far.taken);
        mid = now;
        serves = so_far.serves;
        leaves = kept leaves;
        written = moves_part w w'' w'' (reply_lines so_far.replies) text' (moves_both w w' w'' (reply_lines so_far.replies) text text' so_far.moves moved) (front_none w'' text');
        counted = so_far.counted;
      }
        where
          kept : LeavesLine step cut_short now line new → LeavesLine step cut_short now is.whole new
          kept (inl same) = inl same
          kept (inr (inl cut)) = inr (inl (cut.0, sym is.same ∙ cut.1, cut.2))
          kept (inr (inr done)) = inr (inr (done.0, subst (λ a. AnswersAsked step now a done.0 new) is.same done.1))

    -- a block was written
    pub serving_moved : (w'' : Option (List ℕ)) (text' : List ℕ) → Moves w' text w'' text' → Serving step input coming old now w w'' text' count
    serving_moved w'' text' moved = record {
      lines = so_far.lines;
      replies = so_far.replies;
      taken = so_far.taken;
      serves = so_far.serves;
      moves = moves_both w w' w'' (reply_lines so_far.replies) text text' so_far.moves moved;
      counted = so_far.counted;
    }

-- ---- the end of the input

module _ {X : Type 0} (step : X → Request → Reply → X → Type 0) (input : Option (List ℕ)) (old : X) (w : Option (List ℕ)) where
  module _ (coming : Option (List ℕ)) (now : X) (w' : Option (List ℕ)) (text : List ℕ) (count : ℕ) (so_far : Serving step input coming old now w w' text count)
      (coming' : Option (List ℕ)) (part : List ℕ) (takes : TakesLast 65537 coming coming' part) (w'' : Option (List ℕ)) (text' : List ℕ) (moved : Moves w' text w'' text') where
    -- the part behind the last LF was answered, if it is a line
    pub serving_last : (b : Bool) (n : ℕ) (new : X) (text'' : List ℕ) → (b ≡ true → (length part ≡ 0 → ⊥) × LineDone step now part new text' text'')
        → (b ≡ false → (length part ≡ 0) × (new ≡ now) × (text'' ≡ text')) → n ≡ count + (if b then 1 else 0) → Serving step input coming' old new w w'' text'' n
    serving_last true n new text'' done none is =
        subst (λ m. Serving step input coming' old new w w'' text'' m) (sym is)
        (serving_more step input old w coming now w' text count so_far coming' part (takes_last coming coming' part takes (done refl).0) w'' text' moved new text'' (done refl).1)
    serving_last false n new text'' done none is =
        let nothing = none refl in
        record {
          lines = so_far.lines;
          replies = so_far.replies;
          taken = takes_none coming coming' part takes nothing.0 input so_far.lines so_far.taken;
          serves = subst (λ x. Serves step old so_far.lines so_far.replies x) (sym nothing.1) so_far.serves;
          moves = subst (λ t. Moves w (reply_lines so_far.replies) w'' t) (sym nothing.2) (moves_both w w' w'' (reply_lines so_far.replies) text text' so_far.moves moved);
          counted = is ∙ add-zero count ∙ so_far.counted;
        }

    pub serving_all : (n : ℕ) (new : X) (text'' : List ℕ) (w3 : Option (List ℕ)) → Serving step input coming' old new w w'' text'' n → Appends w'' w3 text'' → ServesAll step input old new w w3 n
    serving_all n new text'' w3 last wrote = record {
      lines = last.lines;
      replies = last.replies;
      all = all_taken coming coming' part takes input so_far.lines last.lines so_far.taken last.taken;
      serves = last.serves;
      written = moves_end w w'' w3 (reply_lines last.replies) text'' last.moves wrote;
      counted = last.counted;
    }

-- ---- faults and counts

pub if_err_is : {X : Type 0} (r : Result X ServeFault) (why : ServeFault) (P : ServeFault → Type 0) → r ≡ Err why → P why → IfErr r P
if_err_is r why P is h = subst (λ t. IfErr t P) (sym is) h

pub written_before : (why : ServeFault) (w w' : Option (List ℕ)) (text : List ℕ) → Appends w w' text → IsWrittenBefore why w w' text
written_before Read w w' text wrote = wrote
written_before Turns w w' text wrote = wrote
written_before Write w w' text wrote = front_all w w' text wrote
written_before OutOfMemory w w' text wrote = front_all w w' text wrote

pub only_memory : (e : LineFault) → (◌≡◌ {A = Result Bool LineFault} (Err e) (Ok true)) ⊎ (◌≡◌ {A = Result Bool LineFault} (Err e) (Err LineMemory)) → e ≡ LineMemory
only_memory e (inl is) = cc
only_memory e (inr is) = cc

pub none_pending : (lines : Lines) → pending_of lines ≡ [] → most_lines_to_come lines ≡ lines.reads * 65536
none_pending lines none =
    let size : length (drop lines.taken lines.chunk.items) ≡ length lines.chunk.items - lines.taken = length-drop lines.taken lines.chunk.items in
    let whole : vec_len lines.chunk ≡ length lines.chunk.items = lines.chunk.ok.0 in
    let empty : length (drop lines.taken lines.chunk.items) ≡ 0 = ap length none in
    omega arith
