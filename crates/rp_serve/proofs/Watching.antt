-- A session of what answers is that of the same, watched; where it hasn't changed, it is as it was.
use Rattle.std.proofs.Common.{◌≡◌, ◌∙◌, ◌||◌, ℕ, Bool, true, false, List, [], ◌∷◌, Option, Result, Ok, Err, refl, sym, ap, subst, inl, inr, true≢false}
use Rattle.rp_protocol.specs.declared.reply.Reply.{Reply}
use Rattle.rp_protocol.specs.Requests.{asked}
use Rattle.rp_protocol.specs.declared.fault.LineFault.{LineFault}
use Rattle.rp_protocol.specs.declared.request.Request.{Request}
use Rattle.rp_serve.specs.Changes.{may_change}
use Rattle.rp_serve.specs.Served.{AnswersAsked, LeavesLine, Serves}
use Rattle.rp_serve.specs.Sessions.{IsCutShort, ServesAll, ServesFirst, ServesInPart, StopsAfter}
use Rattle.rp_serve.specs.declared.fault.ServeFault.{ServeFault}
use Rattle.rp_serve.specs.declared.fault.ServeFault.TheVariants.{Read, Write, Turns, OutOfMemory}

neither : (a b : Bool) → (a || b) ≡ false → (a ≡ false) × (b ≡ false)
neither true b e = absurd (true≢false e)
neither false b e = (refl, e)

module _ {X W : Type 0} (step : X → Request → Reply → X → Type 0) (cut_short : X → Request → X → Type 0) (node : W → X) (changed : W → Bool) where
  -- what a request does to what is watched
  abbrev pub watched : W → Request → Reply → W → Type 0
  watched old request reply new = step (node old) request reply (node new) × (changed new ≡ (changed old || may_change reply))

  abbrev pub watched_cut : W → Request → W → Type 0
  watched_cut old request new = cut_short (node old) request (node new)

  answers_same : (a : Result Request LineFault) (old new : W) (reply : Reply) → AnswersAsked watched old a reply new → AnswersAsked step (node old) a reply (node new)
  answers_same (Ok request) old new reply answers = answers.0
  answers_same (Err fault) old new reply answers = (answers.0, ap node answers.1)

  serves_same : (lines : List (List ℕ)) (replies : List Reply) (old new : W) → Serves watched old lines replies new → Serves step (node old) lines replies (node new)
  serves_same [] [] old new serves = ap node serves
  serves_same [] (r ∷ replies) old new serves = absurd serves
  serves_same (l ∷ lines) [] old new serves = absurd serves
  serves_same (l ∷ lines) (r ∷ replies) old new serves =
      (node serves.0, answers_same (asked l) old serves.0 r serves.1, serves_same lines replies serves.0 new serves.2)

  leaves_same : (line : List ℕ) (old new : W) → LeavesLine watched watched_cut old line new → LeavesLine step cut_short (node old) line (node new)
  leaves_same line old new (inl same) = inl (ap node same)
  leaves_same line old new (inr (inl cut)) = inr (inl cut)
  leaves_same line old new (inr (inr done)) = inr (inr (done.0, answers_same (asked line) old new done.0 done.1))

  pub all_same : (input : Option (List ℕ)) (old new : W) (w w' : Option (List ℕ)) (count : ℕ) → ServesAll watched input old new w w' count → ServesAll step input (node old) (node new) w w' count
  all_same input old new w w' count all = record {
    lines = all.lines;
    replies = all.replies;
    all = all.all;
    serves = serves_same all.lines all.replies old new all.serves;
    written = all.written;
    counted = all.counted;
  }

  first_same : (input : Option (List ℕ)) (old new : W) (w w' : Option (List ℕ)) (count : ℕ) → ServesFirst watched input old new w w' count → ServesFirst step input (node old) (node new) w w' count
  first_same input old new w w' count first = record {
    lines = first.lines;
    replies = first.replies;
    first = first.first;
    serves = serves_same first.lines first.replies old new first.serves;
    written = first.written;
    counted = first.counted;
  }

  part_same : (input : Option (List ℕ)) (old new : W) (w w' : Option (List ℕ)) (count : ℕ) → ServesInPart watched input old new w w' count → ServesInPart step input (node old) (node new) w w' count
  part_same input old new w w' count part = record {
    lines = part.lines;
    replies = part.replies;
    first = part.first;
    serves = serves_same part.lines part.replies old new part.serves;
    written = part.written;
    counted = part.counted;
  }

  cut_same : (input : Option (List ℕ)) (old new : W) (w w' : Option (List ℕ)) (count : ℕ) → IsCutShort watched watched_cut input old new w w' count → IsCutShort step cut_short input (node old) (node new) w w' count
  cut_same input old new w w' count cut = record {
    lines = cut.lines;
    replies = cut.replies;
    line = cut.line;
    first = cut.first;
    mid = node cut.mid;
    serves = serves_same cut.lines cut.replies old cut.mid cut.serves;
    leaves = leaves_same cut.line cut.mid new cut.leaves;
    written = cut.written;
    counted = cut.counted;
  }

  pub stops_same : (fault : ServeFault) (input : Option (List ℕ)) (old new : W) (w w' : Option (List ℕ)) (count : ℕ) → StopsAfter watched watched_cut fault input old new w w' count
      → StopsAfter step cut_short fault input (node old) (node new) w w' count
  stops_same Read input old new w w' count stops = first_same input old new w w' count stops
  stops_same Turns input old new w w' count stops = first_same input old new w w' count stops
  stops_same Write input old new w w' count stops = part_same input old new w w' count stops
  stops_same OutOfMemory input old new w w' count (inl part) = inl (part_same input old new w w' count part)
  stops_same OutOfMemory input old new w w' count (inr cut) = inr (cut_same input old new w w' count cut)

  module _ (unchanged : (old : X) (request : Request) (reply : Reply) (new : X) → step old request reply new → may_change reply ≡ false → new ≡ old) where
    answers_still : (a : Result Request LineFault) (old new : W) (reply : Reply) → AnswersAsked watched old a reply new → changed new ≡ false → (node new ≡ node old) × (changed old ≡ false)
    answers_still (Ok request) old new reply answers is =
        let both = neither (changed old) (may_change reply) (sym answers.1 ∙ is) in
        (unchanged (node old) request reply (node new) answers.0 both.1, both.0)
    answers_still (Err fault) old new reply answers is = (ap node answers.1, sym (ap changed answers.1) ∙ is)

    pub serves_still : (lines : List (List ℕ)) (replies : List Reply) (old new : W) → Serves watched old lines replies new → changed new ≡ false → (node new ≡ node old) × (changed old ≡ false)
    serves_still [] [] old new serves is = (ap node serves, sym (ap changed serves) ∙ is)
    serves_still [] (r ∷ replies) old new serves is = absurd serves
    serves_still (l ∷ lines) [] old new serves is = absurd serves
    serves_still (l ∷ lines) (r ∷ replies) old new serves is =
        let later = serves_still lines replies serves.0 new serves.2 is in
        let first = answers_still (asked l) old serves.0 r serves.1 later.1 in
        (later.0 ∙ first.0, first.1)

-- ---- a whole session, by how it left what is watched

module _ {X W : Type 0} (new : W) (step : X → Request → Reply → X → Type 0) (cut_short : X → Request → X → Type 0) (node : W → X) (changed : W → Bool)
    (input : Option (List ℕ)) (old : W) (w w' : Option (List ℕ)) (count : ℕ) where
  pub all_of_node : ServesAll (watched step cut_short node changed) input old new w w' count → ServesAll step input (node old) (node new) w w' count
  all_of_node all = all_same step cut_short node changed input old new w w' count all

  pub stops_of_node : (fault : ServeFault) → StopsAfter (watched step cut_short node changed) (watched_cut step cut_short node changed) fault input old new w w' count
      → StopsAfter step cut_short fault input (node old) (node new) w w' count
  stops_of_node fault stops = stops_same step cut_short node changed fault input old new w w' count stops

  -- the same, of a fault that is known
  pub stops_by : {why : ServeFault} (fault : ServeFault) → fault ≡ why → StopsAfter (watched step cut_short node changed) (watched_cut step cut_short node changed) fault input old new w w' count
      → StopsAfter step cut_short why input (node old) (node new) w w' count
  stops_by fault is stops = subst (λ f. StopsAfter step cut_short f input (node old) (node new) w w' count) is (stops_of_node fault stops)

  module _ (unchanged : (old : X) (request : Request) (reply : Reply) (new : X) → step old request reply new → may_change reply ≡ false → new ≡ old) where
    pub all_still : ServesAll (watched step cut_short node changed) input old new w w' count → changed new ≡ false → node new ≡ node old
    all_still all is = (serves_still step cut_short node changed unchanged all.lines all.replies old new all.serves is).0

    first_still : ServesFirst (watched step cut_short node changed) input old new w w' count → changed new ≡ false → node new ≡ node old
    first_still first is = (serves_still step cut_short node changed unchanged first.lines first.replies old new first.serves is).0

    -- the same, of a session that ended by a fault after which the lines that were read were all answered
    pub stopped_still : {why : ServeFault} (fault : ServeFault) → fault ≡ why
        → (StopsAfter (watched step cut_short node changed) (watched_cut step cut_short node changed) why input old new w w' count → ServesFirst (watched step cut_short node changed) input old new w w' count)
        → StopsAfter (watched step cut_short node changed) (watched_cut step cut_short node changed) fault input old new w w' count → changed new ≡ false → node new ≡ node old
    stopped_still fault is serves stops same =
        first_still (serves (subst (λ f. StopsAfter (watched step cut_short node changed) (watched_cut step cut_short node changed) f input old new w w' count) is stops)) same
