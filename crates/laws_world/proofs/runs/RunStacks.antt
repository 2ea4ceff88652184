-- What is issued well, and the stack at the end of a run.
use Rattle.std.proofs.Common.{◌≡◌, List, [], ◌∷◌, refl, pos, flat_map}
use Rattle.std.specs.List.{All}
use Rattle.std.proofs.lemmas.List.Elements.{All-nil, All-cons, All-head, All-tail, All-append}
use Rattle.rules_data.specs.types.Kind.{Kind}
use Rattle.rules_data.specs.types.Kind as k
use Rattle.rules_data.specs.values.Val.{Val, Vals}
use Rattle.rules_data.specs.values.Val as v
use Rattle.rules_data.specs.values.Tickets.{Identity, Held}
use Rattle.rules_data.specs.values.Forms.{AllHave}
use Rattle.rules_code.specs.typing.Fits.{Known, Fits, AllFit}
use Rattle.rules_code.specs.steps.Changes.{burnt, burns, minted_in}
use Rattle.rules_code.specs.evaluation.Operations.{Operation, transfer, origination, event, Issued, operation_tickets}
use Rattle.rules_world.specs.world.World.{World, contract_at}
use Rattle.rules_world.specs.world.Forms.{IsTicket, IsChange}
use Rattle.rules_world.specs.world.Good.{known_with, IsGoodOperation}
use Rattle.laws_code.specs.evaluation.Laws.{known}
use Rattle.laws_code.specs.stacks.Sound.{IsSoundIssue}
use Rattle.laws_world.proofs.runs.Unissued.{SameContracts, passable_free, storable_free, unissued, pushed}
use Rattle.laws_world.proofs.runs.Codes.{script_code}
use Rattle.laws_world.proofs.runs.Waiting.{operation_good}

-- ---- what is left

-- what is issued well is a good operation, in which nothing is issued
pub known_before : (w : World) (is : List Issued) → SameContracts (known (contract_at w) is) (known_with w [])
known_before w is b a h = h

pub issue_good : (w : World) (op : Operation) → IsSoundIssue (contract_at w) op → IsGoodOperation w op
issue_good w (transfer argument amount destination) h = (
  h.0,
  h.3,
  unissued (known (contract_at w) h.1) (known_with w []) (known_before w h.1) h.0 argument h.2.1
      (passable_free h.0 h.2.0) h.4,
  h.5,
)
issue_good w (origination delegate amount t storage hash) h =
    let c = script_code t h.0 h.2 in (
      (
        h.0,
        h.2,
        h.3,
        unissued (known (contract_at w) h.1) (known_with w []) (known_before w h.1) h.0.storage storage c.formed
            (storable_free h.0.storage c.stored) h.4,
      ),
      h.5,
    )
issue_good w (event tag a x) h = (h.1, pushed (known (contract_at w) h.0) (known_with w []) a x h.1 h.2)

pub burns_good : (ts : List Held) → All IsTicket ts → All IsChange (burns ts)
burns_good [] h = All-nil IsChange
burns_good (t ∷ ts) h = All-cons IsChange (burnt t) (burns ts) (All-head IsTicket t ts h)
    (burns_good ts (All-tail IsTicket t ts h))

pub burns_mint : (id : Identity) (ts : List Held) → minted_in id (burns ts) ≡ pos 0
burns_mint id [] = refl
burns_mint id (t ∷ ts) = burns_mint id ts

pub tickets_of : (w : World) (is : List Issued) → All (λ i. IsGoodOperation w i.operation) is →
    All IsTicket (flat_map (λ (i : Issued). operation_tickets i.operation) is)
tickets_of w [] h = All-nil IsTicket
tickets_of w (i ∷ is) h =
    All-append IsTicket (operation_tickets i.operation) (flat_map (λ (i : Issued). operation_tickets i.operation) is)
    (operation_good w i.operation (All-head (λ i. IsGoodOperation w i.operation) i is h))
    (tickets_of w is (All-tail (λ i. IsGoodOperation w i.operation) i is h))

-- ---- the stack at the end

-- operations, and a storage
pub record IsEnd (w : Known) (a : Kind) (V : List Val) : Type 0 where
  pub operations : Vals
  pub storage : Val
  pub is : V ≡ v.both (v.list operations) storage ∷ []
  pub issued : AllHave (Fits w k.operation) operations
  pub fits : Fits w a storage

list_shape : (w : Known) (a : Kind) (x y : Val) → Fits w (k.list k.operation) x → Fits w a y → IsEnd w a (v.both x y ∷ [])
list_shape w a (v.list xs) y h g = record { operations = xs; storage = y; is = refl; issued = h; fits = g }
list_shape w a _ y h g = absurd h

pair_shape : (w : Known) (a : Kind) (x : Val) → Fits w (k.pair (k.list k.operation) a) x → IsEnd w a (x ∷ [])
pair_shape w a (v.both x y) h = list_shape w a x y h.0 h.1
pair_shape w a _ h = absurd h

pub end_shape : (w : Known) (a : Kind) (V : List Val) → AllFit w (k.pair (k.list k.operation) a ∷ []) V → IsEnd w a V
end_shape w a [] h = absurd h
end_shape w a (x ∷ []) h = pair_shape w a x h.0
end_shape w a (x ∷ y ∷ V) h = absurd h.1
