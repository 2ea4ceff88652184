-- The bodies of lambdas in a literal are sequences.
use Rattle.std.proofs.Common.{◌≡◌, ℕ, ◌+◌, Bool, true, false, List, [], ◌∷◌, ◌++◌, refl}
use Rattle.std.specs.Prelude.{if◌then◌else◌}
use Rattle.rules_text.specs.nodes.Tree.{Tree, int, str, bytes, prim, seq, Trees, none, more}
use Rattle.rules_data.specs.types.Kind.{Kind}
use Rattle.rules_data.specs.types.Kind as k
use Rattle.rules_data.specs.values.Val.{Val}
use Rattle.rules_data.specs.values.Val as v
use Rattle.rules_data.specs.forms.Spelling.{is_address}
use Rattle.rules_data.specs.values.Literals.{Word, recursive_word, word_of_name, Pending, body, claim, Literal, good, bad, read_body, recursive_named, read_lambda, read_contract, read}
use Rattle.mich_check.specs.Pending.{AreSequences}
use Rattle.mich_check.proofs.Readings.{Leaves, read_keeps}

sequences_with : (ps qs : List Pending) → AreSequences ps → AreSequences qs → AreSequences (ps ++ qs)
sequences_with [] qs h g = g
sequences_with (body l a r b t ∷ ps) qs h g = (h.0, sequences_with ps qs h.1 g)
sequences_with (claim l b a ∷ ps) qs h g = sequences_with ps qs h g

abbrev Sequent : {A : Type 0} → Literal A → Type 0
Sequent (good x ps) = AreSequences ps
Sequent (bad l) = Unit {0}

body_sequent : (a b : Kind) (q : Bool) (at : ℕ) (t : Tree) → Sequent (read_body a b q at t)
body_sequent a b q at (seq ts) = (refl, tt)
body_sequent a b q at (int n) = tt
body_sequent a b q at (str s) = tt
body_sequent a b q at (bytes c) = tt
body_sequent a b q at (prim name annots args) = tt

recursive_sequent : (w : Word) (a b : Kind) (at : ℕ) (ts : Trees) → Sequent (recursive_named w a b at ts)
recursive_sequent recursive_word a b at (more t none) = body_sequent a b true (at + 1) t
recursive_sequent _ a b at _ = tt

lambda_sequent : (a b : Kind) (at : ℕ) (t : Tree) → Sequent (read_lambda a b at t)
lambda_sequent a b at (prim name annots args) = recursive_sequent (word_of_name name) a b at args
lambda_sequent a b at (int n) = tt
lambda_sequent a b at (str s) = tt
lambda_sequent a b at (bytes c) = tt
lambda_sequent a b at (seq ts) = (refl, tt)

contract_sequent : (a : Kind) (at : ℕ) (t : Tree) → Sequent (read_contract a at t)
contract_sequent a at (bytes b) = by (is_address b)
  where
    by : (q : Bool) → Sequent (if q then good (v.bytes b) (claim at b a ∷ []) else bad at)
    by true = tt
    by false = tt
contract_sequent a at (int n) = tt
contract_sequent a at (str s) = tt
contract_sequent a at (prim name annots args) = tt
contract_sequent a at (seq ts) = tt

leaves : (a : Kind) → Leaves AreSequences tt sequences_with a
leaves (k.simple s) = tt
leaves (k.option a) = leaves a
leaves (k.or a b) = (leaves a, leaves b)
leaves (k.pair a b) = (leaves a, leaves b)
leaves (k.list a) = leaves a
leaves (k.set a) = leaves a
leaves (k.map a b) = (leaves a, leaves b)
leaves (k.big_map a b) = (leaves a, leaves b)
leaves (k.lambda a b) = lambda_sequent a b
leaves (k.contract a) = contract_sequent a
leaves k.operation = tt
leaves (k.ticket a) = tt

pub read_sequences : (a : Kind) (at : ℕ) (t : Tree) (x : Val) (ps : List Pending) → read a at t ≡ good x ps → AreSequences ps
read_sequences a at t x ps e = read_keeps AreSequences tt sequences_with a at t x ps (leaves a) e
