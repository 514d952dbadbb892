-- One more record that a reader takes.
use Rattle.std.proofs.Common.{◌≡◌, ◌∙◌, ◌++◌, ◌∷◌, [], ℕ, List, Bool, true, false, Some, inl, Bor}
use Rattle.std.specs.Prelude.{MatchBool}
use Rattle.csv.specs.Reading.{ReadRecord, reader_state, strip_bom, took_first}
use Rattle.csv.specs.declared.parser.State.TheVariants as st
use Rattle.csv.specs.declared.reader.Reader.{Reader}
use Rattle.csv.proofs.ReadFacts.{rows-end, rows-more}
use Rattle.rp_input.specs.Layouts.{config_with}
use Rattle.rp_input.specs.Standing.{AreAll, Stands}

pub takes : (d : ℕ) (text : List ℕ) (before : List (List (List ℕ))) (a b : Reader (Bor (List ℕ))) (f : List (List ℕ)) (found : Bool) → Stands d text before a
    → ReadRecord (λ (s : Bor (List ℕ)). Some s.now) a b found f → took_first b ≡ true → MatchBool found (Stands d text (before ++ f ∷ []) b) (AreAll d text before)
takes d text before a b f true at r first =
    let m = rows-more (λ (s : Bor (List ℕ)). Some s.now) a b f (config_with d) st.StartRecord (strip_bom text) at.rest before at.config at.source at.reached r in
    record { trims = r.3 ∙ at.trims; ready = inl first; config = r.2 ∙ at.config; rest = m.0; source = m.1; reached = m.2 }
takes d text before a b f false at r first = (reader_state a, at.rest, at.reached, rows-end (λ (s : Bor (List ℕ)). Some s.now) a b f (config_with d) at.rest at.config at.source r)
