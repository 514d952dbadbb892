-- A session so far, and the next line that was taken: it was answered, or memory was refused while it was.
use Rattle.std.proofs.Common.{◌≡◌, ℕ, ◌+◌, List, length, Bool, true, false, Option, ap, subst, if◌then◌else◌}
use Rattle.rp_protocol.specs.declared.reply.Reply.{Reply}
use Rattle.rp_io.specs.Devices.{Moves}
use Rattle.rp_io.specs.Lines.{TakesLast, TakesLine}
use Rattle.rp_protocol.specs.declared.request.Request.{Request}
use Rattle.rp_serve.specs.Served.{LeavesLine, LineDone}
use Rattle.rp_serve.specs.Sessions.{IsCutShort}
use Rattle.rp_serve.proofs.Serving.{Serving, serving_cut, serving_last, serving_more}
use Rattle.rp_serve.proofs.Taken.{takes_last, takes_line}

module _ {X : Type 0} {step : X → Request → Reply → X → Type 0} {input : Option (List ℕ)} {old now : X} {w w' w'' before : Option (List ℕ)} {text line slice : List ℕ} {count : ℕ}
    (so_far : Serving step input before old now w w' text count) (after : Option (List ℕ)) (text' : List ℕ) (moved : Moves w' text w'' text') (same : slice ≡ line) where
  module _ (takes : TakesLine 65537 before after line) where
    pub line_answered : {new : X} {text'' : List ℕ} → LineDone step now slice new text' text'' → Serving step input after old new w w'' text'' (count + 1)
    line_answered {new} {text''} done =
        serving_more step input old w before now w' text count so_far after line (takes_line before after line takes) w'' text' moved new text''
        (subst (λ l. LineDone step now l new text' text'') same done)

    pub line_cut : {cut_short : X → Request → X → Type 0} {new : X} → LeavesLine step cut_short now slice new → IsCutShort step cut_short input old new w w'' count
    line_cut {cut_short} {new} leaves =
        serving_cut step input old w before now w' text count so_far after line (takes_line before after line takes) w'' text' moved cut_short new
        (subst (λ l. LeavesLine step cut_short now l new) same leaves)

  -- the part behind the last LF
  module _ (takes : TakesLast 65537 before after line) where
    pub last_answered : {new : X} {text'' : List ℕ} (b : Bool) (more : ℕ) → more ≡ (if b then 1 else 0) → (b ≡ true → (length slice ≡ 0 → ⊥) × LineDone step now slice new text' text'')
        → (b ≡ false → (length slice ≡ 0) × (new ≡ now) × (text'' ≡ text')) → Serving step input after old new w w'' text'' (count + more)
    last_answered {new} {text''} b more counted done none =
        serving_last step input old w before now w' text count so_far after line takes w'' text' moved b (count + more) new text''
        (λ yes. subst (λ l. (length l ≡ 0 → ⊥) × LineDone step now l new text' text'') same (done yes))
        (λ no_line. subst (λ l. (length l ≡ 0) × (new ≡ now) × (text'' ≡ text')) same (none no_line)) (ap (λ k. count + k) counted)

    pub last_cut : {cut_short : X → Request → X → Type 0} {new : X} → (length slice ≡ 0 → ⊥) × LeavesLine step cut_short now slice new → IsCutShort step cut_short input old new w w'' count
    last_cut {cut_short} {new} left =
        let whole = subst (λ l. (length l ≡ 0 → ⊥) × LeavesLine step cut_short now l new) same left in
        serving_cut step input old w before now w' text count so_far after line (takes_last before after line takes whole.0) w'' text' moved cut_short new whole.1
