-- What is read of a node whose parts have their forms is written.
use Rattle.std.proofs.Common.{ℕ}
use Rattle.rules_text.specs.nodes.Tree.{Tree}
use Rattle.rules_data.specs.types.Kind.{Kind}
use Rattle.rules_data.specs.values.Literals.{read}
use Rattle.laws_commands.specs.written.Written.{HasForm, HaveForms, IsWritten, AreWritten, EntriesAreWritten}
use Rattle.laws_commands.proofs.written_lemmas.values.Bytes.{bytes_from, text_bytes}
use Rattle.laws_commands.proofs.common.Parts.{HasParts}
use Rattle.laws_commands.proofs.common.Readings.{Gives, AreRead}
use Rattle.laws_commands.proofs.common.Readings as readings

pub written_parts : HasParts IsWritten AreWritten EntriesAreWritten
written_parts = record {
  unit = tt;
  truth = λ b. tt;
  number = λ z. tt;
  nothing = tt;
  some = λ x h. h;
  left = λ x h. h;
  right = λ x h. h;
  both = λ x y h g. (h, g);
  set = λ xs h. h;
  table = λ es h. h;
  big_table = λ es h. h;
  no_value = tt;
  value = λ x xs h g. (h, g);
  no_entry = tt;
  entry = λ x y es h g k. (h, g, k);
}

forms_read : AreRead IsWritten AreWritten HasForm HaveForms
forms_read = record {
  args = λ name annots ts h. h.2;
  items = λ ts h. h.0;
  first = λ t ts h. h.0;
  rest = λ t ts h. h.1;
  text = λ b h. text_bytes b h.0;
  bytes = λ b h short. bytes_from b h.0;
  list = λ ts xs h same each. each;
  lambda = λ ts recursive h. h;
}

pub reads : (a : Kind) (at : ℕ) (t : Tree) → HasForm t → Gives IsWritten (read a at t)
reads = readings.reads IsWritten AreWritten EntriesAreWritten HasForm HaveForms written_parts forms_read
