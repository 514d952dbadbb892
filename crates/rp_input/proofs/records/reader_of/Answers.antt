use Rattle.std.proofs.Common.{◌≡◌, ◌∙◌, ap, sym, refl, inr}
use Rattle.csv.specs.Reading.{Reached, builder_config, default_config, strip_bom}
use Rattle.csv.specs.declared.parser.Config.{Config}
use Rattle.rp_input.specs.Layouts.{config_with}
use Rattle.rp_input.proofs.records.reader_of.Goals as goal

pub returns : goal.returns
unfolding Reached
returns c =
    let fr = c.from_reader.ensures in
    let e = c.has_headers.ensures in
    let config : builder_config c.new.result ≡ default_config = c.new.ensures.config in
    let plain : ◌≡◌ {A = Config} (record (builder_config c.new.result) { delimiter = c.args.delimiter }) (config_with c.args.delimiter) =
    ap {A = Config} (λ cfg. record cfg { delimiter = c.args.delimiter }) config in
    record {
      trims = rw (c.flexible.ensures, e, c.delimiter.ensures) at fr.trim ∙ c.new.ensures.trim;
      ready = inr (inr (rw (c.flexible.ensures, e) at fr.has_headers, fr.headers));
      config = rw (c.flexible.ensures, e, c.delimiter.ensures) at fr.config ∙ plain;
      rest = strip_bom c.args.text.now;
      source = fr.source;
      reached = (sym fr.state, refl);
    }
