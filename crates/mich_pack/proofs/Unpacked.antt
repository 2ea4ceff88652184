-- What bytes pack, with a test of what is still to be tried.
use Rattle.std.proofs.Common.{◌≡◌, ℕ, List, [], ◌∷◌, Bool, true, false, cond, Option, Some, None, Result, Ok, Err, refl, ◌∙◌, nat_eq}
use Rattle.rules_text.specs.nodes.Tree.{Tree}
use Rattle.rules_text.specs.binary.Reading.{Fault, decoded}
use Rattle.rules_data.specs.types.Kind.{Kind}
use Rattle.rules_data.specs.values.Val.{Val}
use Rattle.rules_data.specs.values.Literals.{Literal, good, bad}
use Rattle.rules_code.specs.steps.Packing.{Trial, tried, of_decoded, unpacked}
use Rattle.mich_base.specs.declared.memory.Memory.{Memory}
use Rattle.mich_data.specs.declared.pending.Read.{Read}
use Rattle.mich_pack.specs.Answers.{literal_by, packed_literal, IsLiteral, IsUnpacked, passed, IsTried}

decoded_tried : (passes : Trial) (a : Kind) (r : Result Tree Fault) → of_decoded passes a r ≡ tried passes (literal_by a r)
decoded_tried passes a (Ok t) = refl
decoded_tried passes a (Err fault) = refl

begun_tried : (passes : Trial) (a : Kind) (begins : Bool) (b : List ℕ) →
    cond begins (of_decoded passes a (decoded b)) None ≡ tried passes (cond begins (literal_by a (decoded b)) (bad 0))
begun_tried passes a true b = decoded_tried passes a (decoded b)
begun_tried passes a false b = refl

literal_tried : (passes : Trial) (a : Kind) (b : List ℕ) → unpacked passes a b ≡ tried passes (packed_literal a b)
literal_tried passes a [] = refl
literal_tried passes a (c ∷ b) = begun_tried passes a (nat_eq c 5) b

passed_is : (passes : Trial) (l : Literal Val) (answer : Option Read) → IsLiteral l answer → tried passes l ≡ passed passes answer
passed_is passes (good x ps) (Some r) h = (λ i. tried passes (good (h.0 i) (h.1 i)))
passed_is passes (good x ps) None h = absurd h
passed_is passes (bad l) (Some r) h = absurd h
passed_is passes (bad l) None h = refl

pub unpacked_tried : (a : Kind) (b : List ℕ) (r : Result (Option Read) Memory) → IsUnpacked (packed_literal a b) r → IsTried a b r
unpacked_tried a b (Ok answer) h = λ passes. literal_tried passes a b ∙ passed_is passes (packed_literal a b) answer h
unpacked_tried a b (Err e) h = tt
