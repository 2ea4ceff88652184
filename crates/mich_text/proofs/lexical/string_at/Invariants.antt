use Rattle.std.proofs.Common.{◌≡◌, ◌≤◌, length, drop}
use Rattle.rules_text.specs.nodes.Limits.{byte_limit}
use Rattle.rules_text.specs.text.Lexical.{spelt}
use Rattle.mich_text.proofs.tokens.Strings.{prepend}
use Rattle.mich_text.proofs.lexical.string_at.Given as goal

abbrev pub invariant-units : goal.invariant-units
invariant-units l = record {
  whole : prepend l.spelt.items (spelt l.rest) ≡ spelt (drop 1 l.text);
  room : length l.spelt.items ≤ byte_limit;
}

abbrev pub decreases-units : goal.decreases-units
decreases-units l = length l.rest
