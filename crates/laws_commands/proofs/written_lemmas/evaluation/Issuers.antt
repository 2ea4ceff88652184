-- Tickets that are burnt have no issuer to be told.
use Rattle.std.proofs.Common.{ℕ, List, [], ◌∷◌}
use Rattle.std.specs.List.{AllByRecursion}
use Rattle.rules_data.specs.values.Tickets.{Held}
use Rattle.rules_code.specs.steps.Changes.{Change, minted, burnt, burns}
use Rattle.laws_commands.specs.written.Written.{HasIssuer}

pub burns_issued : (There : List ℕ → Type 0) (ts : List Held) → AllByRecursion (HasIssuer There) (burns ts)
burns_issued There [] = tt
burns_issued There (t ∷ ts) = (tt, burns_issued There ts)

-- what is there in one world is there in another
pub issuers_more : (There Later : List ℕ → Type 0) → ((hash : List ℕ) → There hash → Later hash) → (cs : List Change) →
    AllByRecursion (HasIssuer There) cs → AllByRecursion (HasIssuer Later) cs
issuers_more There Later more [] h = tt
issuers_more There Later more (minted t ∷ cs) h = ((h.0.0, h.0.1, more h.0.0 h.0.2), issuers_more There Later more cs h.1)
issuers_more There Later more (burnt t ∷ cs) h = (tt, issuers_more There Later more cs h.1)
