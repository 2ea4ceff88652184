-- Literals in a world fit their types, and hold no tickets.
use Rattle.std.proofs.Common.{◌≡◌, ◌<◌, ◌^◌, ℕ, List, [], ◌∷◌, Bool, true, false, Some, None, refl, ap, ◌∙◌}
use Rattle.std.specs.Prelude.{if◌then◌else◌}
use Rattle.std.specs.declared.option.Option.{Option}
use Rattle.rules_text.specs.nodes.Tree.{Tree, size}
use Rattle.rules_data.specs.types.Kind.{Kind}
use Rattle.rules_data.specs.types.Attributes.{comparable}
use Rattle.rules_data.specs.values.Val.{Val}
use Rattle.rules_data.specs.values.Tickets.{tickets}
use Rattle.rules_data.specs.values.Literals.{Literal, good, bad, Pending, body, claim, claims, read}
use Rattle.rules_code.specs.instructions.Arguments.{found}
use Rattle.rules_code.specs.typing.Literals.{checked, of_reading, fault_of_bodies}
use Rattle.rules_code.specs.evaluation.Contracts.{is_contract_of}
use Rattle.rules_world.specs.world.World.{World, contract_at}
use Rattle.rules_world.specs.world.Arguments.{false_claim, unless_false, with_claims, literal_in}
use Rattle.rules_world.specs.world.Good.{known_with, FitsIn}
use Rattle.laws_typing.specs.literals.Laws.{AllClaimed}
use Rattle.laws_typing.proofs.literals_lemmas.ForCallers.{fit, literals_hold_no_ticket}
use Rattle.laws_world.proofs.accounts.ComparedLiterals.{compared_tried}

-- contracts that are claimed are there, where none is missed
claims_true : (w : World) (ps : List Pending) → false_claim w (claims ps) ≡ None → AllClaimed (known_with w []) ps
claims_true w [] h = tt
claims_true w (body at a r recursive t ∷ ps) h = claims_true w ps h
claims_true w (claim at b a ∷ ps) h = by (is_contract_of (contract_at w) a b) refl h (claims_true w ps)
  where
    by : (c : Bool) → is_contract_of (contract_at w) a b ≡ c → (if c then false_claim w (claims ps) else Some at) ≡ None →
        (false_claim w (claims ps) ≡ None → AllClaimed (known_with w []) ps) →
        AllClaimed (known_with w []) (claim at b a ∷ ps)
    by true e g later = (e, later g)
    by false e g later = absurd cc

record IsReading (w : World) (a : Kind) (t : Tree) (x : Val) : Type 0 where
  pending : List Pending
  is : read a 0 t ≡ good x pending
  bodies : fault_of_bodies pending ≡ None
  claimed : AllClaimed (known_with w []) pending

reading : (w : World) (a : Kind) (t : Tree) (x : Val) → literal_in w a t ≡ found x → IsReading w a t x
reading w a t x h = by (read a 0 t) refl h
  where
    by_claims : (y : Val) (ps : List Pending) → read a 0 t ≡ good y ps → fault_of_bodies ps ≡ None → (o : Option ℕ) →
        false_claim w (claims ps) ≡ o → unless_false o y ≡ found x → IsReading w a t x
    by_claims y ps e f (Some l) c g = absurd cc
    by_claims y ps e f None c g =
        let same : y ≡ x = cc in
        record { pending = ps; is = e ∙ ap (λ z. good z ps) same; bodies = f; claimed = claims_true w ps c }

    by_bodies : (y : Val) (ps : List Pending) → read a 0 t ≡ good y ps → (o : Option ℕ) → fault_of_bodies ps ≡ o →
        with_claims w (checked y ps o) ≡ found x → IsReading w a t x
    by_bodies y ps e (Some l) f g = absurd cc
    by_bodies y ps e None f g = by_claims y ps e f (false_claim w (claims ps)) refl g

    by : (l : Literal Val) → read a 0 t ≡ l → with_claims w (of_reading l) ≡ found x → IsReading w a t x
    by (good y ps) e g = by_bodies y ps e (fault_of_bodies ps) refl g
    by (bad l) e g = absurd cc

pub literal_fits : (w : World) (a : Kind) (t : Tree) (x : Val) → literal_in w a t ≡ found x → size t < 2 ^ 32 → FitsIn w a x
literal_fits w a t x h small =
    let r = reading w a t x h in
    fit (known_with w []) a 0 t x r.pending r.is r.bodies r.claimed small

pub literal_empty : (w : World) (a : Kind) (t : Tree) (x : Val) → literal_in w a t ≡ found x → tickets x ≡ []
literal_empty w a t x h = let r = reading w a t x h in literals_hold_no_ticket a 0 t x r.pending r.is

-- a literal of a comparable type needs nothing more
pub compared_fits : (w : World) (a : Kind) (t : Tree) (x : Val) (ps : List Pending) → comparable a ≡ true →
    read a 0 t ≡ good x ps → size t < 2 ^ 32 → FitsIn w a x
compared_fits w a t x ps c e small =
    let none = compared_tried a 0 t x ps c e in
    fit (known_with w []) a 0 t x [] (e ∙ ap (good x) none) refl tt small
