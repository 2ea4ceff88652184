-- What is kept of the lines so far, of which the last one is told first.
use Rattle.std.specs.Prelude.{◌≡◌, ◌⊎◌, ◌+◌, ◌<◌, ◌==◌, ℕ, Bool, true, false, not, if◌then◌else◌, List, [], ◌∷◌, length, is_some, Some, None, MatchOption}
use Rattle.std.specs.declared.option.Option.{Option}
use Rattle.std.specs.List.{list_all, list_any, AllByRecursion}
use Rattle.std.specs.Map.{lookup}
use Rattle.std.specs.Ordering.{nat_cmp}
use Rattle.std.specs.BTreeMap.{is_at}
use Rattle.std.specs.Cmp.Lexicographic.{slice_cmp}
use Rattle.rules_text.specs.text.Printed.{printed}
use Rattle.mich_text.specs.Written.{HasTextForm}
use Rattle.rules_audit.specs.Fields.{Identity, minted, burnt, held, Part}
use Rattle.rules_audit.specs.Lines.{Line, group, account, contract, tickets, fees, storage_burn, supply}
use Rattle.rules_audit.specs.Form.{Tells, can_follow, last_rank, has_fourth, same_identity, is_of}
use Rattle.rules_audit.specs.Verdicts.{all_mutez, all_parts, parts_in, tells_supply, ticket_agrees, total}
use Rattle.mich_audit.specs.Key.{identity_node}
use Rattle.mich_audit.specs.Sums.{AreSums, fitting}
use Rattle.mich_audit.specs.declared.sums.Sums.{Sums}
use Rattle.mich_audit.specs.declared.tally.Tally.{Tally}

-- ---- tickets

abbrev pub key : Identity → List ℕ
key id = printed (identity_node id)

-- its type and its content can be printed
abbrev pub HasForm : Identity → Type 0
HasForm id = HasTextForm (identity_node id)

abbrev pub Entries : Type 0
Entries = List (List ℕ × Sums)

abbrev pub found : List ℕ → Entries → Option Sums
found k es = lookup (is_at (slice_cmp nat_cmp k)) es

-- these are the sums at a key, or none
abbrev pub AreFound : Option Sums → Sums → Type 0
AreFound o r = MatchOption o (AreSums 0 0 0 false r) (λ s. r ≡ s)

-- what these parts and lines tell of a ticket
abbrev pub AreTold : List Part → List Line → Identity → Sums → Type 0
AreTold ps ls id s = AreSums (total minted id ps) (total burnt id ps) (total held id ps) (list_any (is_of id) ls) s

-- nothing is told of a ticket without an entry
abbrev pub IsTold : List Part → List Line → Identity → Option Sums → Type 0
IsTold ps ls id (Some s) = AreTold ps ls id s
IsTold ps ls id None = (total minted id ps ≡ 0) × (total burnt id ps ≡ 0) × (total held id ps ≡ 0) × (list_any (is_of id) ls ≡ false)

abbrev pub is_part_of : Identity → Part → Bool
is_part_of id p = same_identity id p.identity

-- a part or a line is of this ticket
abbrev pub IsNamed : List Part → List Line → Identity → Type 0
IsNamed ps ls id = (list_any (is_part_of id) ps ≡ true) ⊎ (list_any (is_of id) ls ≡ true)

-- the entries tell what parts and lines tell, each part has one, and there are no others than theirs
pub record AreKept (ps : List Part) (ls : List Line) (es : Entries) : Type 0 where
  pub told : (id : Identity) → HasForm id → IsTold ps ls id (found (key id) es)
  pub entered : AllByRecursion (λ p. HasForm p.identity × (is_some (found (key p.identity) es) ≡ true)) ps
  pub named : (k : List ℕ) → is_some (found k es) ≡ true → (id : Identity) × (key id ≡ k) × HasForm id × IsNamed ps ls id

-- ---- the numbers of the first wrong line

abbrev pub tickets_among : List Line → ℕ
tickets_among [] = 0
tickets_among (tickets id m b h ∷ ls) = tickets_among ls + 1
tickets_among (l ∷ ls) = tickets_among ls

abbrev pub unless_before : Option ℕ → Bool → ℕ → Option ℕ
unless_before (Some k) right n = Some k
unless_before None right n = if right then None else Some n

abbrev pub wrong_in : List Part → List Line → Option ℕ
wrong_in ps [] = None
wrong_in ps (tickets id m b h ∷ ls) = unless_before (wrong_in ps ls) (ticket_agrees ps id m b h) (tickets_among ls + 1)
wrong_in ps (l ∷ ls) = wrong_in ps ls

-- ---- contracts

-- whether contracts that have a fourth argument, or have none, can stand beside those that are known
abbrev pub fits : Bool → Option Bool → Bool
fits fourth None = true
fits true (Some known) = known
fits false (Some known) = not known

-- ---- all that is kept

-- what is kept of lines
pub record IsTally (before : List Line) (t : Tally) : Type 0 where
  pub count : t.count ≡ length before
  pub rank : t.rank ≡ last_rank before
  pub fourth : (b : Bool) → list_all (has_fourth b) before ≡ fits b t.fourth
  pub mutez : t.mutez ≡ fitting (all_mutez before)
  pub supply : (n : ℕ) → list_all (tells_supply n) before ≡ (if last_rank before == 7 then t.supply == n else true)
  pub tickets : t.tickets ≡ tickets_among before
  pub wrong : t.wrong ≡ wrong_in (all_parts before) before
  pub kept : AreKept (all_parts before) before t.book.entries
  -- no line of a ticket stands before the accounts and contracts have ended
  pub early : last_rank before < 4 → tickets_among before ≡ 0

-- a line of a kind was counted, of which so much counts towards the supply
pub record IsPassed (old : Tally) (rank mutez : ℕ) (new : Tally) : Type 0 where
  pub count : new.count ≡ old.count + 1
  pub ranked : new.rank ≡ rank
  pub added : (n : ℕ) → old.mutez ≡ fitting n → new.mutez ≡ fitting (n + mutez)

-- a line of a ticket was counted, and nothing else changed
pub record IsCounted (old new : Tally) : Type 0 where
  pub count : new.count ≡ old.count
  pub ranked : new.rank ≡ old.rank
  pub mutez : new.mutez ≡ old.mutez
  pub fourth : new.fourth ≡ old.fourth
  pub supply : new.supply ≡ old.supply
  pub book : new.book ≡ old.book

-- a line was taken where it can follow
abbrev pub IsTaken : List Line → Line → Tally → Bool → Type 0
IsTaken before l t true = (can_follow before l ≡ true) × IsTally (l ∷ before) t
IsTaken before l t false = (can_follow before l ≡ false) × (t.count ≡ length before)

-- the tickets of a line have their forms
abbrev pub HaveForms : Line → Type 0
HaveForms (tickets id m b h) = HasForm id
HaveForms l = AllByRecursion (λ p. HasForm p.identity) (parts_in l)

-- a ticket without a line got one, and this was told of it
abbrev pub IsLined : List Part → List Line → Identity → ℕ → ℕ → ℕ → Entries → Option Sums → Type 0
IsLined ps ls id m b h es (Some s) = (list_any (is_of id) ls ≡ false) × AreTold ps ls id s × AreKept ps (tickets id m b h ∷ ls) es
IsLined ps ls id m b h es None = list_any (is_of id) ls ≡ true

-- the line of a piece was taken, or the piece tells no line that can follow, and no lines more are counted
abbrev pub IsPieceTaken : List Line → List ℕ → Tally → Bool → Type 0
IsPieceTaken before piece t true = (l : Line) × Tells (Some piece) l × (can_follow before l ≡ true) × IsTally (l ∷ before) t
IsPieceTaken before piece t false = ((l : Line) → Tells (Some piece) l → can_follow before l ≡ false) × (t.count ≡ length before)
