-- How a source gives tickets that it holds (this host's own operation, after Octez "Tickets", transfers of tickets). The tests are
-- tried in their order.
use Rattle.std.specs.Prelude.{ℕ, ℤ, int_lt, Bool, true, false, List, [], ◌∷◌, Option, Some, None, if◌then◌else◌}
use Rattle.std.specs.Str.{bytes_eq}
use Rattle.rules_text.specs.nodes.Tree.{Tree}
use Rattle.rules_data.specs.forms.Spelling.{default_name, implicit_place, spelled_address, is_implicit}
use Rattle.rules_data.specs.declared.gas.Kind.TheVariants as price
use Rattle.rules_code.specs.instructions.Same.{same_kind}
use Rattle.rules_data.specs.types.Kind.{Kind}
use Rattle.rules_data.specs.types.Kind as k
use Rattle.rules_data.specs.types.Attributes.{comparable}
use Rattle.rules_data.specs.types.Printing.{node_of}
use Rattle.rules_data.specs.types.Reading.{Reading, a_type, bad_type, too_large, type_at}
use Rattle.rules_data.specs.values.Val.{Val, ticket}
use Rattle.rules_data.specs.values.Tickets.{Held}
use Rattle.rules_data.specs.values.Literals.{Literal, good, bad, read}
use Rattle.rules_data.specs.values.Canonical.{canonical}
use Rattle.rules_code.specs.steps.Changes.{Change, identity_of}
use Rattle.rules_code.specs.steps.Failure.{no_entrypoint, bad_parameter, ticket_short}
use Rattle.rules_world.specs.world.Receipts.{Effect, Give}
use Rattle.rules_world.specs.world.World.{World, key_hash_in}
use Rattle.rules_code.specs.evaluation.Contracts.{hash_in}
use Rattle.rules_world.specs.world.Holdings.{held_by, credited, debited}
use Rattle.rules_world.specs.world.Outcomes.{Setting, Counts, Outcome, applied, failed, charged}
use Rattle.rules_world.specs.world.Targets.{Target, search, on_met}
use Rattle.rules_world.specs.world.Runs.{run}

-- ---- the ticket

-- what is given: the issuer's place, the nodes of the type and the content, and the amount
pub record Offer : Type 0 where
  pub issuer : List ℕ
  pub kind : Tree
  pub content : Tree
  pub amount : ℤ

abbrev pub ticket_with : Offer → Kind → Literal Val → Option Held
ticket_with o a (good v pending) = Some (record { issuer = o.issuer; kind = a; content = v; amount = o.amount })
ticket_with o a (bad location) = None

abbrev pub ticket_by : Offer → Reading → Option Held
ticket_by o (a_type a) = if comparable a then ticket_with o a (read a 0 o.content) else None
ticket_by o (bad_type location) = None
ticket_by o too_large = None

-- the ticket, where the type is a comparable one and the content a literal of it
abbrev pub offered : Offer → Option Held
offered o = ticket_by o (type_at 0 o.kind)

abbrev pub as_value : Held → Val
as_value t = ticket t.issuer t.kind t.content t.amount

-- ---- where it goes

pub record Gift : Type 0 where
  pub ticket : Held
  pub destination : List ℕ
  pub entrypoint : List ℕ

abbrev pub give_effect : Setting → Gift → List Change → Effect
give_effect s g changes =
    Give
    (implicit_place s.source)
    (spelled_address g.destination g.entrypoint)
    g.ticket.issuer (node_of g.ticket.kind) (canonical g.ticket.content) g.ticket.amount
    changes

-- the source holds less than is given
abbrev pub is_short : Setting → World → Gift → Bool
is_short s w g = int_lt (held_by w (identity_of g.ticket) (implicit_place s.source)) g.ticket.amount

-- to an account, which is made where it isn't there
abbrev pub given_to_account : Bool → Setting → World → Gift → ℕ → Counts → Outcome
given_to_account true s w g gas counts = failed ticket_short
given_to_account false s w g gas counts = applied (record {
  world = credited (debited w s.source g.ticket) (key_hash_in g.destination) g.ticket;
  emitted = [];
  effects = give_effect s g [] ∷ [];
  gas = gas;
  counts = counts;
})

abbrev pub give_account : Setting → World → Gift → ℕ → Counts → Outcome
give_account s w g gas counts =
    if bytes_eq g.entrypoint default_name then given_to_account (is_short s w g) s w g gas counts else failed no_entrypoint

-- to a contract, which runs with the ticket as its argument and no mutez
abbrev pub given_to_contract : Bool → Setting → World → Gift → Target → ℕ → Counts → Outcome
given_to_contract true s w g target gas counts = failed ticket_short
given_to_contract false s w g target gas counts =
    run s
    (debited w s.source g.ticket)
    (record { target = target; sender = implicit_place s.source; amount = 0; argument = as_value g.ticket })
    gas counts
    (give_effect s g)

abbrev pub if_wanted : Bool → Setting → World → Gift → Target → ℕ → Counts → Outcome
if_wanted true s w g target gas counts = given_to_contract (is_short s w g) s w g target gas counts
if_wanted false s w g target gas counts = failed (bad_parameter 0)

-- the entrypoint must take this kind of ticket
abbrev pub give_contract : Setting → World → Gift → ℕ → Counts → Outcome
give_contract s w g gas counts = on_met (search w (hash_in g.destination) g.entrypoint) (λ target.
    if_wanted (same_kind target.entry.kind (k.ticket g.ticket.kind)) s w g target gas counts)

abbrev pub handed : Bool → Setting → World → Gift → ℕ → Counts → Outcome
handed true s w g gas counts = give_account s w g gas counts
handed false s w g gas counts = give_contract s w g gas counts

-- ---- all gifts

abbrev pub with_offered : Option Held → Setting → World → List ℕ → List ℕ → ℕ → Counts → Outcome
with_offered (Some t) s w destination entrypoint gas counts =
    handed (is_implicit destination) s w (record { ticket = t; destination = destination; entrypoint = entrypoint }) gas counts
with_offered None s w destination entrypoint gas counts = failed (bad_parameter 0)

abbrev pub given : Setting → World → Offer → List ℕ → List ℕ → ℕ → Counts → Outcome
given s w o destination entrypoint gas counts =
    charged s.prices price.Transfer gas (λ left. with_offered (offered o) s w destination entrypoint left counts)
