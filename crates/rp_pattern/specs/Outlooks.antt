-- Inside: what would follow a row whose test is open: whether any word does, and how many turns are left to find out.
use Rattle.std.specs.Prelude.{◌≡◌, ◌↔◌, ℕ, ◌<◌}
use Rattle.rp_words.specs.declared.word.End.{End}
use Rattle.rp_pattern.specs.declared.outlook.Outlook.{Outlook}
use Rattle.rp_pattern.specs.declared.outlook.Sight.{Sight}
use Rattle.rp_pattern.specs.declared.outlook.Sight.TheVariants.{Further, Word, Nothing}
use Rattle.rp_words.specs.Later.{AtEachLater}
use Rattle.rp_pattern.specs.Rests.{stack_left, stack_count}
use Rattle.rp_pattern.specs.Ways.{stack_of}

-- how many words the choices give that aren't given up. While none is, these are all that would follow the row.
unfoldable pub words_ahead : Outlook → ℕ → End → ℕ
words_ahead o n e = stack_count n e o.start (stack_of o.ways)

-- how many turns these words take at most, and one more for each of them
unfoldable pub turns_ahead : Outlook → ℕ → End → ℕ
turns_ahead o n e = stack_left n e o.start (stack_of o.ways)

-- The preferred choice gave way to others, or was given up, since another serves: a word would follow exactly where one
-- did, and fewer turns are left.
pub record LooksFurther (old new : Outlook) (n : ℕ) (e : End) : Type 0 where
  pub same : AtEachLater n e (λ n' e'. (0 < words_ahead new n' e') ↔ (0 < words_ahead old n' e'))
  pub less : AtEachLater n e (λ n' e'. turns_ahead new n' e' < turns_ahead old n' e')

-- As many words would follow, and as many turns are left.
pub record LooksAlike (old new : Outlook) : Type 0 where
  pub words : (n : ℕ) (e : End) → words_ahead new n e ≡ words_ahead old n e
  pub turns : (n : ℕ) (e : End) → turns_ahead new n e ≡ turns_ahead old n e

-- what an outlook came to, over the rows 1 to n and that end: it looks further, or it stays, since a word follows
-- there, or since none follows whatever rows come
abbrev pub SeenAs : Outlook → Outlook → ℕ → End → Sight → Type 0
SeenAs old new n e Further = LooksFurther old new n e
SeenAs old new n e Word = LooksAlike old new × (0 < words_ahead old n e)
SeenAs old new n e Nothing = (new ≡ old) × ((n' : ℕ) (e' : End) → words_ahead old n' e' ≡ 0)
