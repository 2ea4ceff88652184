use Rattle.std.proofs.Common.{◌+◌, ◌<◌, ◌∷◌, [], length, refl, sym, ap, ◌∙◌, arith}
use Rattle.std.proofs.lemmas.List.{length-append}
use Rattle.rules_text.specs.nodes.Limits.{byte_limit}
use Rattle.rules_text.specs.text.Lexical.{spelt, with_byte}
use Rattle.mich_text.proofs.tokens.Strings.{prepend, prepend_more, string_begins, string_ends, string_long}
use Rattle.mich_text.proofs.lexical.string_at.Goals as goal

pub units-init : goal.units-init
units-init c =
    record {
      whole = string_begins c.args.text.now c.new-spelt.result.items c.new-spelt.ensures.items;
      room = omega (arith, ap length c.new-spelt.ensures.items);
    }

pub returns-in-Bad : goal.returns-in-Bad
returns-in-Bad c =
    string_ends c.args.text.now c.units.spelt.items _
    (ap (prepend c.units.spelt.items) (sym c.in-Bad.ensures.step) ∙ c.units.invariant.whole) c.units.invariant.room refl

pub returns-in-Closed : goal.returns-in-Closed
returns-in-Closed c =
    rw c.in_ok-from_vec-in-Closed.ensures (string_ends c.args.text.now c.units.spelt.items _
    (ap (prepend c.units.spelt.items) (sym c.in-Closed.ensures.step) ∙ c.units.invariant.whole) c.units.invariant.room refl)

pub returns-then-len-eq-BYTE_LIMIT : goal.returns-then-len-eq-BYTE_LIMIT
returns-then-len-eq-BYTE_LIMIT c =
    let behind = spelt c.in-Byte.behind.now in
    let over : byte_limit < length c.units.spelt.items + length (with_byte c.in-Byte.byte behind).text = omega arith in
    rw c.flaw.ensures (string_long c.args.text.now c.units.spelt.items (with_byte c.in-Byte.byte behind)
    (ap (prepend c.units.spelt.items) (sym c.in-Byte.ensures.step) ∙ c.units.invariant.whole) over)

pub units-smaller : goal.units-smaller
units-smaller c = c.in-Byte.ensures.shorter

pub units-preserved : goal.units-preserved
units-preserved c = record {
  whole =
      rw c.in_ok-push-in-Byte.ensures.items (prepend_more c.units.spelt.items c.in-Byte.byte (spelt c.in-Byte.behind.now) _
      (ap (prepend c.units.spelt.items) (sym c.in-Byte.ensures.step) ∙ c.units.invariant.whole));
  room = omega (arith, ap length c.in_ok-push-in-Byte.ensures.items, length-append c.units.spelt.items (c.in-Byte.byte ∷ []));
}
