use Rattle.std.proofs.Common.{◌∙◌, MatchOption, [], ◌∷◌, ◌++◌, ap, sym, subst}
use Rattle.rp_quotes.specs.Quotes.{HasNoQuoteBehindBlanks, HasNoStray, IsFirstQuoteBehindBlanks, IsFirstStray, IsQuotedFrom}
use Rattle.rp_quotes.specs.Watching.{HasMark, behind_blank_by, is_blank_by, line_with, opened_by}
use Rattle.rp_quotes.proofs.Opened.{quoted_next}
use Rattle.rp_quotes.proofs.Firsts.{blank_next, blank_only_next, quote_next, stray_next}
use Rattle.rp_quotes.proofs.watch.QuoteWatch.take_byte.Goals as goal

pub returns : goal.returns
returns c = λ delimiter text seen.
    let leads : _ = c.quoting_behind-quoting.ensures delimiter text seen in
    record {
      same = ap (λ w. w.delimiter) c.note_blank.ensures ∙ ap (λ w. w.delimiter) c.note.ensures ∙ seen.same;
      mark = c.behind-self.ensures text (subst (λ m. HasMark m text) (sym (ap (λ w. w.mark) c.note_blank.ensures ∙ ap (λ w. w.mark) c.note.ensures)) seen.mark);
      at = leads.at;
      opened = λ is.
          subst (IsQuotedFrom delimiter (text ++ c.args.byte ∷ []))
          (sym (ap (λ w. w.opened) c.note_blank.ensures ∙ ap (λ w. w.opened) c.note.ensures ∙ ap (opened_by c.args.self.now.quoting c.quoting_behind-quoting.result c.args.self.now.opened) seen.line))
          (quoted_next delimiter text c.args.byte c.args.self.now.quoting c.quoting_behind-quoting.result c.args.self.now.opened seen.at leads seen.opened is);
      line =
          c.line_behind-self.ensures
          ∙ ap (λ w. line_with w.line c.args.byte) c.note_blank.ensures
          ∙ ap (λ w. line_with w.line c.args.byte) c.note.ensures
          ∙ ap (λ line. line_with line c.args.byte) seen.line
          ∙ sym leads.line;
      stray =
          subst (λ s. MatchOption s (HasNoStray delimiter (text ++ c.args.byte ∷ [])) (IsFirstStray delimiter (text ++ c.args.byte ∷ []))) (sym (ap (λ w. w.stray) c.note_blank.ensures ∙ ap (λ w. w.stray) c.note.ensures))
          (stray_next delimiter text c.args.byte c.args.self.now.quoting c.quoting_behind-quoting.result c.args.self.now.stray (record { begins = c.args.self.now.opened; goes_on = c.args.self.now.line })
          seen.at leads.at seen.opened seen.line seen.stray);
      blank = λ is.
          blank_next delimiter text c.args.byte c.args.self.now.quoting c.quoting_behind-quoting.result c.args.self.now.blank seen.at leads.at seen.blank
          (sym (ap (λ w. w.blank) c.note_blank.ensures ∙ ap (λ w. is_blank_by w.blank w.quoting c.args.byte c.quoting_behind-quoting.result) c.note.ensures) ∙ is);
      blank_only = λ has.
          ap (λ w. w.blank) c.note_blank.ensures
          ∙ ap (λ w. is_blank_by w.blank w.quoting c.args.byte c.quoting_behind-quoting.result) c.note.ensures
          ∙ blank_only_next delimiter text c.args.byte c.args.self.now.quoting c.quoting_behind-quoting.result c.args.self.now.blank seen.at leads.at seen.blank_only has;
      behind_blank =
          subst (λ line. MatchOption line (HasNoQuoteBehindBlanks delimiter (text ++ c.args.byte ∷ [])) (IsFirstQuoteBehindBlanks delimiter (text ++ c.args.byte ∷ [])))
          (sym (ap (λ w. w.behind_blank) c.note_blank.ensures ∙ ap (λ w. behind_blank_by w.blank c.args.byte w.behind_blank w.line) c.note.ensures))
          (quote_next delimiter text c.args.byte c.args.self.now.blank c.args.self.now.behind_blank c.args.self.now.line seen.line seen.blank seen.blank_only seen.behind_blank);
    }
