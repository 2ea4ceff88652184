-- What is certified is valid.
use Rattle.std.proofs.Common.{◌≡◌, ℕ, Bool, true, false, cond, Option, Some, None, refl, sym, ap}
use Rattle.std.specs.Prelude.{nat_le, length}
use Rattle.rules_text.specs.nodes.Limits.{statement_limit}
use Rattle.rules_text.specs.nodes.Tree.{Tree, depth}
use Rattle.rules_text.specs.text.Printed.{printed}
use Rattle.rules_code.specs.instructions.Arguments.{Found, found, fault}
use Rattle.rules_code.specs.typing.Scripts.{Script}
use Rattle.rules_code.specs.typing.Nodes.{script}
use Rattle.rules_code.specs.certificates.Derivation.{derivation}
use Rattle.rules_code.specs.certificates.Certificates.{Certifying, certified, ill_typed, too_deep, too_long, certificate, deep_entry, unless_deep, of_typing, certifying, script_levels, IsValid}

-- what is known where a script is certified
pub record Known (t n : Tree) : Type 0 where
  pub typed : Script
  pub accepted : script t ≡ found typed
  pub levels : nat_le (depth t) script_levels ≡ true
  pub flat : deep_entry (derivation t) ≡ None
  pub short : nat_le (length (printed (certificate t))) statement_limit ≡ true
  pub whole : n ≡ certificate t

abbrev certified_of : Certifying → Tree → Tree
certified_of (certified n) other = n
certified_of (ill_typed l) other = other
certified_of (too_deep l) other = other
certified_of too_long other = other

pub known : (t n : Tree) → certifying t ≡ certified n → Known t n
known t n e = by_script (script t) refl e
  where
    by_line : (s : Script) → script t ≡ found s → nat_le (depth t) script_levels ≡ true → deep_entry (derivation t) ≡ None
        → (b : Bool) → nat_le (length (printed (certificate t))) statement_limit ≡ b → cond b (certified (certificate t)) too_long ≡ certified n → Known t n
    by_line s a l f true h e = record { typed = s; accepted = a; levels = l; flat = f; short = h; whole = sym (ap (λ c. certified_of c n) e) }
    by_line s a l f false h e = absurd cc

    by_deep : (s : Script) → script t ≡ found s → nat_le (depth t) script_levels ≡ true
        → (o : Option ℕ) → deep_entry (derivation t) ≡ o → unless_deep o (certificate t) ≡ certified n → Known t n
    by_deep s a l (Some k) h e = absurd cc
    by_deep s a l None h e = by_line s a l h (nat_le (length (printed (certificate t))) statement_limit) refl e

    by_levels : (s : Script) → script t ≡ found s → (b : Bool) → nat_le (depth t) script_levels ≡ b
        → cond b (unless_deep (deep_entry (derivation t)) (certificate t)) (too_deep 0) ≡ certified n → Known t n
    by_levels s a true h e = by_deep s a h (deep_entry (derivation t)) refl e
    by_levels s a false h e = absurd cc

    by_script : (f : Found Script) → script t ≡ f → of_typing f t ≡ certified n → Known t n
    by_script (found s) a e = by_levels s a (nat_le (depth t) script_levels) refl e
    by_script (fault l) a e = absurd cc

pub valid : (t n : Tree) → certifying t ≡ certified n → IsValid n
valid t n e =
    let k = known t n e in
    record { script_node = t; accepted = k.typed; is_accepted = k.accepted; is_certificate = k.whole }
