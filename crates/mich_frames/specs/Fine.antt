-- What holds while typed code runs: the values on the stack and in what is pending fit their types, and their tickets, with those
-- of issued operations and those that were burnt, are within what was minted (Octez "Tickets").
use Rattle.std.specs.Prelude.{true, ◌≡◌, ◌+◌, ◌++◌, ℕ, suc, ℤ, pos, ◌+ℤ◌, ◌≤ℤ◌, List, [], ◌∷◌, length}
use Rattle.std.specs.List.{AllByRecursion}
use Rattle.rules_data.specs.types.Kind.{Kind}
use Rattle.rules_data.specs.types.Kind as k
use Rattle.rules_data.specs.types.Attributes.{packable}
use Rattle.rules_code.specs.instructions.Context.{Context}
use Rattle.rules_data.specs.values.Val.{Val}
use Rattle.rules_data.specs.values.Tickets.{Identity}
use Rattle.rules_code.specs.typing.Fits.{Known, Fits, AllFit}
use Rattle.rules_code.specs.steps.Changes.{Change, minted_in, burnt_in}
use Rattle.rules_code.specs.evaluation.Surroundings.{Surroundings}
use Rattle.rules_code.specs.evaluation.Operations.{Issued}
use Rattle.rules_code.specs.evaluation.Items.{with_items, rebuilt}
use Rattle.laws_code.specs.evaluation.Laws.{known, IsType, IsGood, most_tickets, amount_on, amount_issued}
use Rattle.laws_code.specs.stacks.Sound.{seen, AllTypes, IsWell}
use Rattle.mich_instr.specs.Typed.{IsMapped}
use Rattle.mich_frames.specs.Around.{Around, at}
use Rattle.mich_frames.specs.Pending.{Mapping, Pending}
use Rattle.mich_frames.specs.Pending as p
use Rattle.mich_frames.specs.Shapes.{items_in}

-- ---- tickets

-- the amount of an identity in what is pending, up to the view that runs
abbrev pub stock : Identity → List Pending → ℤ
stock id [] = pos 0
stock id (p.rest ts ∷ ps) = stock id ps
stock id (p.turns A ts ∷ ps) = stock id ps
stock id (p.left_turns a b A ts ∷ ps) = stock id ps
stock id (p.each a A ts xs ∷ ps) = amount_on id xs +ℤ stock id ps
stock id (p.mapping m ys xs ∷ ps) = amount_on id ys +ℤ amount_on id xs +ℤ stock id ps
stock id (p.making m ys xs ∷ ps) = amount_on id ys +ℤ amount_on id xs +ℤ stock id ps
stock id (p.under A W ∷ ps) = amount_on id W +ℤ stock id ps
stock id (p.call e r A W ∷ ps) = amount_on id W +ℤ stock id ps
stock id (p.viewing e burnt is cs b A W ∷ ps) = pos 0

-- what was minted of an identity by now, and what was burnt
abbrev pub minted_by : Around → List Change → Identity → ℤ
minted_by u cs id = u.minted id +ℤ minted_in id cs

abbrev pub burnt_by : Around → List Change → Identity → ℤ
burnt_by u cs id = u.burnt id +ℤ burnt_in id cs

-- ---- what is pending

-- MAP went over a collection of its type, which has an item for each result that is made and each that is still to come; what is kept
-- of it is rebuilt as the collection is
pub record IsMapping (w : Known) (m : Mapping) (left : ℕ) (ys xs : List Val) : Type 0 where
  pub kinds : IsMapped m.collection m.item m.result (with_items m.collection m.result)
  pub item : IsType m.item
  pub whole : IsType (with_items m.collection m.result)
  pub origin : Val
  pub fits : Fits w m.collection origin
  pub count : length ys + left ≡ length (items_in origin)
  pub alike : (zs : List Val) → length zs ≡ left → rebuilt origin (ys ++ zs) ≡ rebuilt m.over (ys ++ zs)
  pub results : AllByRecursion (Fits w m.result) ys
  pub items : AllByRecursion (Fits w m.item) xs

-- The caller of a view, whose stack and pending values stand apart while the view runs: an option of what the view gives comes
-- on top of it, and that holds no ticket and no operation.
pub record IsCaller (e : Surroundings) (burnt : Identity → ℤ) (is : List Issued) (cs : List Change) (b : Kind) (A : List Kind) (W : List Val) (held : Identity → ℤ) : Type 0 where
  pub good : IsGood e
  pub output : packable b ≡ true
  pub below : List Kind
  pub kinds : A ≡ k.option b ∷ below
  pub types : AllTypes A
  pub fits : AllFit (known e.contract_at is) below W
  pub well : IsWell (seen e) is cs
  pub mints : (id : Identity) → pos 0 ≤ℤ minted_in id cs
  pub most : (id : Identity) → (e.minted id +ℤ minted_in id cs) ≤ℤ most_tickets
  pub within_minted : (id : Identity) → (amount_on id W +ℤ held id) ≤ℤ (e.minted id +ℤ minted_in id cs)
  pub within : (id : Identity) → (amount_on id W +ℤ held id +ℤ amount_issued id is +ℤ (burnt id +ℤ burnt_in id cs)) ≤ℤ (e.minted id +ℤ minted_in id cs)

-- the values that are pending fit their types, and calls and views come from good surroundings
abbrev pub PendingFits : Known → List Pending → Type 0
PendingFits w [] = Unit {0}
PendingFits w (p.rest ts ∷ ps) = PendingFits w ps
PendingFits w (p.turns A ts ∷ ps) = PendingFits w ps
PendingFits w (p.left_turns a b A ts ∷ ps) = PendingFits w ps
PendingFits w (p.each a A ts xs ∷ ps) = IsType a × AllByRecursion (Fits w a) xs × PendingFits w ps
PendingFits w (p.mapping m ys xs ∷ ps) = IsMapping w m (length xs) ys xs × PendingFits w ps
PendingFits w (p.making m ys xs ∷ ps) = IsMapping w m (suc (length xs)) ys xs × PendingFits w ps
PendingFits w (p.under A W ∷ ps) = AllTypes A × AllFit w A W × PendingFits w ps
PendingFits w (p.call e r A W ∷ ps) = IsGood e × AllTypes A × AllFit w A W × PendingFits w ps
PendingFits w (p.viewing e burnt is cs b A W ∷ ps) = IsCaller e burnt is cs b A W (λ id. stock id ps) × PendingFits (known e.contract_at is) ps

-- ---- all of it

-- on a stack of these types, in front of what is pending, where these operations were issued and these changes made
pub record IsFine (u : Around) (c : Context) (ps : List Pending) (A : List Kind) (V : List Val) (is : List Issued) (cs : List Change) : Type 0 where
  pub good : IsGood (at u c)
  pub types : AllTypes A
  pub fits : AllFit (known u.contract_at is) A V
  pub pending : PendingFits (known u.contract_at is) ps
  -- operations hand over values of their types, and changes have their form
  pub well : IsWell (seen (at u c)) is cs
  pub mints : (id : Identity) → pos 0 ≤ℤ minted_in id cs
  pub most : (id : Identity) → minted_by u cs id ≤ℤ most_tickets
  -- no more tickets are held than were minted, and no more are held, handed over and burnt
  pub below : (id : Identity) → (amount_on id V +ℤ stock id ps) ≤ℤ minted_by u cs id
  pub within : (id : Identity) → (amount_on id V +ℤ stock id ps +ℤ amount_issued id is +ℤ burnt_by u cs id) ≤ℤ minted_by u cs id
