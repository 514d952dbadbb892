-- Inside: patterns made ready for searches.
use Rattle.rp_words.specs.declared.form.Form.{Form}
use Rattle.rp_pattern.specs.declared.prepared.Prepared.{Prepared}
use Rattle.rp_pattern.specs.Ways.{Keeps, kept_of}

-- this pattern has been made ready
abbrev pub Prepares : Form → Prepared → Type 0
Prepares f p = Keeps f (kept_of p.ways)
