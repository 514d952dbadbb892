-- What is taken up after the whole was put on the stack is taken up from before.
use Rattle.std.proofs.Common.{◌≡◌, ℕ, zero, suc, ◌<◌, List, [], ◌∷◌, ◌++◌, take, refl, ap, ◌∙◌, arith}
use Rattle.rp_words.specs.declared.word.End.{End}
use Rattle.rp_words.specs.declared.word.Label.{Label}
use Rattle.rp_pattern.specs.declared.choices.Choices.{Choices}
use Rattle.rp_pattern.specs.declared.choices.Taken.{Taken}
use Rattle.rp_pattern.specs.declared.choices.Taken.TheVariants.{Row, Split, Full as FullTaken, Open as OpenTaken, Nothing}
use Rattle.rp_pattern.specs.Choices.{entered, remaining, turns_left, height, above, AreFirstOf, AreFirstAndOne, IsSameRemaining, KeepsAbove, TakenAs}

takes : (k j : ℕ) (ls : List Label) → AreFirstOf (take k (take j ls)) ls
takes zero j ls = (0, refl)
takes (suc k) zero ls = (0, refl)
takes (suc k) (suc j) [] = (0, refl)
takes (suc k) (suc j) (l ∷ ls) = let r = takes k j ls in (suc r.0, ap (λ z. l ∷ z) r.1)

module _ (old mid new : Choices) (n : ℕ) (e : End) (cut : AreFirstOf (entered mid) (entered old))
    (words : (n : ℕ) (e : End) → remaining mid n e ≡ remaining old n e) (left : (n : ℕ) (e : End) → turns_left mid n e ≡ turns_left old n e)
    (high : (h : ℕ) → h < height old → h < height mid) (kept : (h n : ℕ) (e : End) → h < height old → above mid h n e ≡ above old h n e) where
  still_first : AreFirstOf (entered new) (entered mid) → AreFirstOf (entered new) (entered old)
  still_first f = let r = takes f.0 cut.0 (entered old) in (r.0, f.1 ∙ ap (take f.0) cut.1 ∙ r.1)

  still_one : AreFirstAndOne (entered new) (entered mid) → AreFirstAndOne (entered new) (entered old)
  still_one f =
      let r = takes f.depth cut.0 (entered old) in
      record { depth = r.0; label = f.label; is = f.is ∙ ap (λ z. z ++ f.label ∷ []) (ap (take f.depth) cut.1 ∙ r.1) }

  still_same : IsSameRemaining mid new n e → IsSameRemaining old new n e
  still_same s = record { words = λ n' e' h. s.words n' e' h ∙ words n' e'; turns = λ n' e' h. s.turns n' e' h ∙ left n' e' }

  still_keeps : KeepsAbove mid new n e → KeepsAbove old new n e
  still_keeps k h lt = let m = k h (high h lt) in (m.0, λ n' e' later. m.1 n' e' later ∙ kept h n' e' lt)

  pub taken_from : (t : Taken) → TakenAs mid new n e t → TakenAs old new n e t
  taken_from Row t =
      record {
        enters = still_one t.enters;
        known = t.known;
        at_row = t.at_row;
        has_top = t.has_top;
        same = still_same t.same;
        divides = t.divides;
        keeps = still_keeps t.keeps;
      }
  taken_from Split t =
      record {
        cut = still_first t.cut;
        same = λ n' e' h. t.same n' e' h ∙ words n' e';
        less = λ n' e' h. omega (arith, t.less n' e' h, left n' e');
        keeps = λ h lt. let m = t.keeps h (high h lt) in (m.0, λ n' e' later. m.1 n' e' later ∙ kept h n' e' lt);
      }
  taken_from FullTaken t =
      record { cut = still_first t.cut; has_top = t.has_top; same = still_same t.same; keeps = still_keeps t.keeps; first = t.first; less_below = t.less_below }
  taken_from OpenTaken t =
      record { end = t.end; cut = still_first t.cut; has_top = t.has_top; same = still_same t.same; keeps = still_keeps t.keeps; more = t.more; alone = t.alone; alike = t.alike; first = t.first; less_below = t.less_below }
  taken_from Nothing t = record { cut = still_first t.cut; keeps = still_keeps t.keeps; same = still_same t.same; none = t.none }
