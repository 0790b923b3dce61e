use Rattle.std.proofs.lemmas.Str.{is_utf8-from_IsUtf8}
use Rattle.zq_lines.proofs.fit.text_fits.Goals as goal

pub returns : goal.returns
returns c = record {
  small = rw (← c.as_bytes.ensures.value) c.bytes_fit.ensures;
  utf8 = is_utf8-from_IsUtf8 c.args.text.now c.utf8.text;
}
