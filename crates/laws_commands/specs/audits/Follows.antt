-- The lines that are told of a run can follow one another.
use Rattle.std.specs.Prelude.{◌≡◌, not, true, List, [], ◌∷◌, map, reverse}
use Rattle.std.specs.List.{AllByRecursion, list_all}
use Rattle.rules_data.specs.values.Val.{is_comparable}
use Rattle.rules_data.specs.values.Tickets.{Held, tickets}
use Rattle.rules_code.specs.steps.Changes.{Change, minted, burnt}
use Rattle.rules_world.specs.world.Receipts.{Receipt}
use Rattle.rules_world.specs.world.World.{World}
use Rattle.rules_world.specs.world.Forms.{IsWorld}
use Rattle.rules_world.specs.world.Holdings.{identities}
use Rattle.rules_audit.specs.Fields.{Identity}
use Rattle.rules_audit.specs.Form.{same_identity, last_rank}
use Rattle.laws_commands.specs.audits.ToldLines.{identity_of, told_lines}
use Rattle.laws_commands.specs.audits.Written.{CanAllFollow}

-- ---- contents of comparable types

abbrev pub ticket_in : Change → Held
ticket_in (minted t) = t
ticket_in (burnt t) = t

abbrev pub IsPlain : Held → Type 0
IsPlain t = is_comparable t.content ≡ true

-- the contents of all tickets of a world are comparable
pub record IsPlainWorld (w : World) : Type 0 where
  pub log : AllByRecursion (λ c. IsPlain (ticket_in c)) w.log
  pub accounts : AllByRecursion (λ a. AllByRecursion (λ h. is_comparable h.0.content ≡ true) a.1.holdings) w.accounts
  pub contracts : AllByRecursion (λ c. AllByRecursion IsPlain (tickets c.1.storage)) w.contracts

-- ---- lines

-- no two of them are one
abbrev pub AreApart : List Identity → Type 0
AreApart [] = Unit {0}
AreApart (i ∷ is) = (list_all (λ j. not (same_identity j i)) is ≡ true) × AreApart is

-- the tickets that are told of a world are no two alike
abbrev pub ToldTicketsAreApart : Type 0
ToldTicketsAreApart = (w : World) → IsWorld w → IsPlainWorld w → AreApart (map identity_of (identities w.log))

-- the lines that are told of a run follow one another, and the supply is the last
abbrev pub ToldLinesFollow : Type 0
ToldLinesFollow = (rs : List Receipt) (w : World) → AreApart (map identity_of (identities w.log)) →
    CanAllFollow [] (told_lines rs w) × (last_rank (reverse (told_lines rs w)) ≡ 7)
