-- Parts of a conversation, one after another.
use Rattle.std.proofs.Common.{◌≡◌, ◌∙◌, ℕ, List, [], ◌++◌, Option, Some, None, IfSome, refl, sym, ap, subst, append_assoc}
use Rattle.std.proofs.lemmas.Grind.{flat_map-append}
use Rattle.std.specs.Io.KnownBytes.{Appends}
use Rattle.rp_query.specs.declared.query.QueryData.{QueryData}
use Rattle.rp_protocol.specs.declared.refusal.Refusal.{Refusal}
use Rattle.rp_protocol.specs.declared.reply.Reply.{Reply}
use Rattle.rp_io.specs.Devices.{AppendsFront}
use Rattle.rp_protocol.specs.declared.request.Request.{Request}
use Rattle.rp_drive.specs.Exchanged.{ComeFirst, Ends, EndsInPart, EndsUnheard, GoesOn, KnownReplies, StopsBy}
use Rattle.rp_drive.specs.Lines.{item_line, item_lines, line_of, request_lines}
use Rattle.rp_drive.specs.Exchange.{Due, Ending, Exchange, WasRefused, onto, exchange}
use Rattle.rp_drive.specs.declared.fault.DriveFault.{DriveFault}
use Rattle.rp_drive.specs.declared.fault.DriveFault.TheVariants.{Read, Write, BadReply, Refused, Turns, OutOfMemory}
use Rattle.rp_io.proofs.Writes.{appends_both, appends_none, front_after, front_none}

onto_both : (a b : List Request) (g h : List Reply) (t : Exchange) → onto a g (onto b h t) ≡ onto (a ++ b) (g ++ h) t
onto_both a b g h t = rw (append_assoc, append_assoc) refl

come_none : (all left : KnownReplies) → all ≡ left → ComeFirst all left []
come_none None left same = tt
come_none (Some xs) None same = cc
come_none (Some xs) (Some ys) same = cc

come_both : (a b c : KnownReplies) (first second : List (Option Reply)) → ComeFirst a b first → ComeFirst b c second → ComeFirst a c (first ++ second)
come_both None b c first second one two = tt
come_both (Some xs) None c first second one two = absurd one
come_both (Some xs) (Some ys) None first second one two = absurd two
come_both (Some xs) (Some ys) (Some zs) first second one two = one ∙ ap (λ t. first ++ t) two ∙ sym (append_assoc first second zs)

are_both : (a b : KnownReplies) (first later : List (Option Reply)) → ComeFirst a b first → IfSome b (λ all. all ≡ later) → IfSome a (λ all. all ≡ first ++ later)
are_both None b first later one two = tt
are_both (Some xs) None first later one two = absurd one
are_both (Some xs) (Some ys) first later one two = one ∙ ap (λ t. first ++ t) two

begin_both : (a b : KnownReplies) (first second : List (Option Reply)) → ComeFirst a b first → IfSome b (λ all. (later : List (Option Reply)) × (all ≡ second ++ later))
    → IfSome a (λ all. (later : List (Option Reply)) × (all ≡ (first ++ second) ++ later))
begin_both None b first second one two = tt
begin_both (Some xs) None first second one two = absurd one
begin_both (Some xs) (Some ys) first second one two = (two.0, one ∙ ap (λ t. first ++ t) two.1 ∙ sym (append_assoc first second two.0))

-- the replies that are left, where they are known
abbrev pub all_left : KnownReplies → List (Option Reply)
all_left None = []
all_left (Some replies) = replies

pub are_left : (left : KnownReplies) → IfSome left (λ all. all ≡ all_left left)
are_left None = tt
are_left (Some replies) = refl

module _ (q : QueryData) (budget number : ℕ) where
  pub goes_none : (due : Due) (all left : KnownReplies) (w o : Option (List ℕ)) → all ≡ left → GoesOn q budget number due due all left w w o o
  goes_none due all left w o same = record {
    came = [];
    come = come_none all left same;
    asked = [];
    given = [];
    follow = λ later. refl;
    sent = appends_none w;
    told = appends_none o;
  }

  module _ (a b : Due) (all mid : KnownReplies) (w w1 o o1 : Option (List ℕ)) (first : GoesOn q budget number a b all mid w w1 o o1) where
    pub goes_both : (c : Due) (left : KnownReplies) (w2 o2 : Option (List ℕ)) → GoesOn q budget number b c mid left w1 w2 o1 o2 → GoesOn q budget number a c all left w w2 o o2
    goes_both c left w2 o2 second = record {
      came = first.came ++ second.came;
      come = come_both all mid left first.came second.came first.come second.come;
      asked = first.asked ++ second.asked;
      given = first.given ++ second.given;
      follow = λ later. ap (exchange q budget a) (append_assoc first.came second.came later) ∙ first.follow (second.came ++ later)
          ∙ ap (onto first.asked first.given) (second.follow later) ∙ onto_both first.asked second.asked first.given second.given (exchange q budget c later);
      sent = subst (Appends w w2) (sym (flat_map-append line_of first.asked second.asked))
          (appends_both w w1 w2 (request_lines first.asked) (request_lines second.asked) first.sent second.sent);
      told = subst (Appends o o2) (sym (flat_map-append (item_line number) first.given second.given))
          (appends_both o o1 o2 (item_lines number first.given) (item_lines number second.given) first.told second.told);
    }

    asked_lines : (later : List (Option Reply)) → request_lines (exchange q budget a (first.came ++ later)).asked ≡ request_lines first.asked ++ request_lines (exchange q budget b later).asked
    asked_lines later = ap (λ t. request_lines t.asked) (first.follow later) ∙ flat_map-append line_of first.asked (exchange q budget b later).asked

    given_lines : (later : List (Option Reply)) → item_lines number (exchange q budget a (first.came ++ later)).given ≡ item_lines number first.given ++ item_lines number (exchange q budget b later).given
    given_lines later = ap (λ t. item_lines number t.given) (first.follow later) ∙ flat_map-append (item_line number) first.given (exchange q budget b later).given

    pub goes_ends : (ending : Ending) (w2 o2 : Option (List ℕ)) → Ends q budget number ending b mid w1 w2 o1 o2 → Ends q budget number ending a all w w2 o o2
    goes_ends ending w2 o2 second = record {
      replies = first.came ++ second.replies;
      are = are_both all mid first.came second.replies first.come second.are;
      ends = ap (λ t. t.ending) (first.follow second.replies) ∙ second.ends;
      asked = subst (Appends w w2) (sym (asked_lines second.replies)) (appends_both w w1 w2 (request_lines first.asked) (request_lines (exchange q budget b second.replies).asked) first.sent second.asked);
      given = subst (Appends o o2) (sym (given_lines second.replies)) (appends_both o o1 o2 (item_lines number first.given) (item_lines number (exchange q budget b second.replies).given) first.told second.given);
    }

    pub goes_part : (w2 o2 : Option (List ℕ)) → EndsInPart q budget number b mid w1 w2 o1 o2 → EndsInPart q budget number a all w w2 o o2
    goes_part w2 o2 second = record {
      replies = first.came ++ second.replies;
      are = are_both all mid first.came second.replies first.come second.are;
      asked = subst (AppendsFront w w2) (sym (asked_lines second.replies)) (front_after w w1 w2 (request_lines first.asked) (request_lines (exchange q budget b second.replies).asked) first.sent second.asked);
      given = subst (AppendsFront o o2) (sym (given_lines second.replies)) (front_after o o1 o2 (item_lines number first.given) (item_lines number (exchange q budget b second.replies).given) first.told second.given);
    }

    pub goes_unheard : (w2 o2 : Option (List ℕ)) → EndsUnheard q budget number b mid w1 w2 o1 o2 → EndsUnheard q budget number a all w w2 o o2
    goes_unheard w2 o2 second = record {
      came = first.came ++ second.came;
      are = begin_both all mid first.came second.came first.come second.are;
      asked = subst (Appends w w2) (sym (asked_lines second.came)) (appends_both w w1 w2 (request_lines first.asked) (request_lines (exchange q budget b second.came).asked) first.sent second.asked);
      given = subst (Appends o o2) (sym (given_lines second.came)) (appends_both o o1 o2 (item_lines number first.given) (item_lines number (exchange q budget b second.came).given) first.told second.given);
    }

    pub goes_stops : (refusal : Option Refusal) (fault : DriveFault) (w2 o2 : Option (List ℕ)) → StopsBy q budget number refusal fault b mid w1 w2 o1 o2 → StopsBy q budget number refusal fault a all w w2 o o2
    goes_stops refusal Read w2 o2 second = goes_unheard w2 o2 second
    goes_stops refusal Write w2 o2 second = goes_part w2 o2 second
    goes_stops refusal BadReply w2 o2 second = goes_ends _ w2 o2 second
    goes_stops refusal Refused w2 o2 (why, is, second) = (why, is, goes_ends (WasRefused why) w2 o2 second)
    goes_stops refusal Turns w2 o2 second = goes_unheard w2 o2 second
    goes_stops refusal OutOfMemory w2 o2 second = goes_part w2 o2 second

  -- nothing more was written
  pub part_none : (due : Due) (left : KnownReplies) (w o : Option (List ℕ)) → EndsInPart q budget number due left w w o o
  part_none due left w o = record {
    replies = all_left left;
    are = are_left left;
    asked = front_none w (request_lines (exchange q budget due (all_left left)).asked);
    given = front_none o (item_lines number (exchange q budget due (all_left left)).given);
  }
