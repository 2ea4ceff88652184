-- Packing and hashes (Michelson reference, "Serialization" and "Cryptographic primitives"; Octez "data encoding").
use Rattle.std.specs.Prelude.{ℕ, ◌==◌, ◌&&◌, Bool, List, [], ◌∷◌, Option, Some, None, Result, Ok, Err, if◌then◌else◌}
use Rattle.std.specs.List.{list_all}
use Rattle.sha2.specs.Sha256.{sha256}
use Rattle.sha2.specs.Sha512.{sha512}
use Rattle.rules_text.specs.nodes.Tree.{Tree}
use Rattle.rules_text.specs.binary.Spelling.{spelling}
use Rattle.rules_text.specs.binary.Reading.{Fault, decoded}
use Rattle.rules_text.specs.hash.Blake2b.{blake}
use Rattle.rules_data.specs.types.Kind.{Kind}
use Rattle.rules_data.specs.values.Val.{Val, bytes}
use Rattle.rules_data.specs.values.Canonical.{canonical}
use Rattle.rules_data.specs.values.Literals.{Pending, Literal, good, bad, read, bodies, claims}
use Rattle.rules_code.specs.instructions.Straight.{HashRow}
use Rattle.rules_code.specs.instructions.Straight as i
use Rattle.rules_code.specs.steps.Step.{Step, wrong, kept, optional}
use Rattle.rules_code.specs.steps.Texts.{within_size}

-- ---- packing

-- a packed value: 5 and the binary form of its canonical literal
abbrev pub packed : Val → List ℕ
packed v = 5 ∷ spelling (canonical v)

-- a test of what is still to be tried of a literal: the bodies of lambdas, and then the contracts that it claims
abbrev pub Trial : Type 0
Trial = Pending → Bool

abbrev pub tried : Trial → Literal Val → Option Val
tried passes (good v pending) = if list_all passes (bodies pending) && list_all passes (claims pending) then Some v else None
tried passes (bad location) = None

abbrev pub of_decoded : Trial → Kind → Result Tree Fault → Option Val
of_decoded passes a (Ok t) = tried passes (read a 0 t)
of_decoded passes a (Err fault) = None

-- the value of a type that bytes pack, in any spelling of its literal
abbrev pub unpacked : Trial → Kind → List ℕ → Option Val
unpacked passes a [] = None
unpacked passes a (c ∷ b) = if c == 5 then of_decoded passes a (decoded b) else None

-- ---- hashes

-- the hash of a key: its curve's tag, and the digest of 20 bytes of what stands behind the tag
abbrev pub key_hash : List ℕ → List ℕ
key_hash [] = []
key_hash (tag ∷ key) = tag ∷ blake 20 key

abbrev pub hash_step : Trial → HashRow → List Val → Step
hash_step passes i.pack (v ∷ V) = within_size bytes (packed v) V
hash_step passes (i.unpack a) (bytes b ∷ V) = kept (optional (unpacked passes a b) ∷ V)
hash_step passes i.blake2b (bytes b ∷ V) = kept (bytes (blake 32 b) ∷ V)
hash_step passes i.sha256 (bytes b ∷ V) = kept (bytes (sha256 b) ∷ V)
hash_step passes i.sha512 (bytes b ∷ V) = kept (bytes (sha512 b) ∷ V)
hash_step passes i.hash_key (bytes b ∷ V) = kept (bytes (key_hash b) ∷ V)
hash_step passes _ _ = wrong
