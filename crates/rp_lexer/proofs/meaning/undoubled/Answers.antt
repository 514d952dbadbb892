use Rattle.std.proofs.Common.{◌≡◌, ℕ, ◌+◌, ◌-◌, ◌<◌, take, drop, Some, None, ◌++◌, length, get_or, sym, ap, ◌∙◌, subst, arith}
use Rattle.std.proofs.lemmas.Str.{IsCharBoundary-after_ascii}
use Rattle.std.proofs.lemmas.Str.Pattern.{find_char}
use Rattle.std.specs.Str.{IsCharBoundary}
use Rattle.std.specs.String.{string_bytes}
use Rattle.rp_lexer.specs.Forms.{doubled}
use Rattle.rp_lexer.proofs.Undoubling.{later_part, second_within, second_quote, left_more, so_far_more, all_undoubled}
use Rattle.rp_lexer.proofs.meaning.undoubled.Goals as goal
use Rattle.rp_lexer.proofs.meaning.undoubled.Goals.{In-Some}

-- the quote that was found, in the text and with none before it
found : (c : In-Some) → (c.in-Some.at < length c.loop-at.rest.now) × (get_or c.loop-at.rest.now c.in-Some.at 0 ≡ c.args.quote) × ((i : ℕ) → i < c.in-Some.at → get_or c.loop-at.rest.now i 0 ≡ c.args.quote → ⊥)
found c = find_char c.args.quote c.loop-at.rest.now (Some c.in-Some.at) c.in-Some.ensures.cases c.requires.ascii

pub range_from-rest-requires : goal.range_from-rest-requires
range_from-rest-requires c = λ some.
    let at = c.in-Some.at in
    let rest = c.loop-at.rest.now in
    let i = c.loop-at.invariant in
    let f = found (goal.at.range_from-rest-requires c).In-Some in
    let second = second_quote c.args.quote i.inside rest at i.left f.0 f.1 f.2 in
    subst (IsCharBoundary rest) (omega arith)
    (IsCharBoundary-after_ascii rest (at + 1) i.utf8 (second_within c.args.quote i.inside rest at i.left f.0 f.1 f.2) (omega (arith, second, c.requires.ascii)))

pub loop-at-preserved : goal.loop-at-preserved
loop-at-preserved c =
    let at = c.in-Some.at in
    let rest = c.loop-at.rest.now in
    let i = c.loop-at.invariant in
    let f = found (goal.at.loop-at-preserved c).In-Some in
    let after = c.range_from-rest.ensures.value in
    let all : at + 1 - 0 ≡ at + 1 = omega arith in
    let cut : c.range.result.now ≡ take (at + 1) rest = c.range.ensures.value ∙ ap (λ n. take n rest) all in
    let pushed : string_bytes c.push_str.new.self ≡ string_bytes c.loop-at.text ++ take (at + 1) rest = c.in_ok-push_str.ensures.bytes ∙ ap (λ l. string_bytes c.loop-at.text ++ l) cut in
    record {
      utf8 = c.range_from-rest.utf8;
      inside = later_part c.args.quote i.inside rest at i.left f.0 f.1 f.2;
      left = after ∙ left_more c.args.quote i.inside rest at i.left f.0 f.1 f.2;
      so_far = so_far_more c.args.quote i.inside rest at i.left f.0 f.1 f.2 c.args.rest.now (string_bytes c.loop-at.text) i.so_far
          ∙ ap (λ l. doubled c.args.quote l ++ drop (at + 2) rest) (sym pushed) ∙ ap (λ l. doubled c.args.quote (string_bytes c.push_str.new.self) ++ l) (sym after);
    }

pub returns : goal.returns
returns c =
    all_undoubled c.args.quote c.loop-at.rest.now c.args.rest.now (string_bytes c.loop-at.text)
    (find_char c.args.quote c.loop-at.rest.now None c.in_default.ensures.cases c.requires.ascii)
    c.loop-at.invariant.so_far ∙ ap (λ l. doubled c.args.quote l) (sym c.in_ok-push_str-2.ensures.bytes)
