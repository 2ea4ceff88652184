-- What is read of the fields of a line: amounts, and amounts of tickets by their identity.
use Rattle.std.specs.Prelude.{ℕ, ◌-◌, ◌^◌, ◌==◌, ◌&&◌, nat_le, Bool, if◌then◌else◌, pos, List, [], ◌∷◌, ◌++◌, length, codes, Some, None}
use Rattle.std.specs.declared.option.Option.{Option}
use Rattle.std.specs.Str.{bytes_eq}
use Rattle.rules_text.specs.nodes.Tree.{Tree, int, bytes, prim, seq, Trees, none, more}

infixl 10 ◌>>=◌
abbrev pub ◌>>=◌ : {A B : Type 0} → Option A → (A → Option B) → Option B
None >>= f = None
(Some x) >>= f = f x

abbrev pub only_if : {A : Type 0} → Bool → A → Option A
only_if test x = if test then Some x else None

-- an application of a name without annotations: what the arguments make
abbrev pub named : {A : Type 0} → (List ℕ → Trees → Option A) → Tree → Option A
named f (prim name [] ts) = f name ts
named f t = None

-- an amount, from the least on
abbrev pub amount_from : ℕ → Tree → Option ℕ
amount_from least (int (pos n)) = only_if (nat_le least n && nat_le n (2 ^ 127 - 1)) n
amount_from least t = None

-- the bytes of a place
abbrev pub is_issuer : List ℕ → Bool
is_issuer b = length b == 22

-- ---- tickets

-- the issuer of a ticket, and its type and content as nodes
pub record Identity : Type 0 where
  pub issuer : List ℕ
  pub kind : Tree
  pub content : Tree

pub data Sort : Type 0 where
  minted : Sort
  burnt : Sort
  held : Sort

-- so much of a ticket was minted, or burnt, or is held
pub record Part : Type 0 where
  pub sort : Sort
  pub identity : Identity
  pub amount : ℕ

abbrev pub identity : List ℕ → Tree → Tree → Identity
identity issuer kind content = record { issuer = issuer; kind = kind; content = content }

abbrev pub part : Sort → Identity → ℕ → Part
part sort id n = record { sort = sort; identity = id; amount = n }

-- issuer type content amount
abbrev pub part_of : Sort → Trees → Option (List Part)
part_of sort (more (bytes issuer) (more kind (more content (more n none)))) =
    only_if (is_issuer issuer) n >>= λ n. amount_from 1 n >>= λ n. Some (part sort (identity issuer kind content) n ∷ [])
part_of sort ts = None

-- what nodes tell, one after another
abbrev pub each : (Tree → Option (List Part)) → Trees → Option (List Part)
each f none = Some []
each f (more t ts) = f t >>= λ ps. each f ts >>= λ qs. Some (ps ++ qs)

abbrev pub in_sequence : (Tree → Option (List Part)) → Tree → Option (List Part)
in_sequence f (seq ts) = each f ts
in_sequence f t = None

-- `Minted` and `Burnt`, the changes of an effect; `Held`, what an account holds
abbrev pub change_by : List ℕ → Trees → Option (List Part)
change_by name ts =
    if bytes_eq name (codes "Minted") then part_of minted ts
    else if bytes_eq name (codes "Burnt") then part_of burnt ts
    else None

abbrev pub holding_by : List ℕ → Trees → Option (List Part)
holding_by name ts = if bytes_eq name (codes "Held") then part_of held ts else None

abbrev pub changes_of : Tree → Option (List Part)
changes_of t = in_sequence (named change_by) t

abbrev pub holdings_of : Tree → Option (List Part)
holdings_of t = in_sequence (named holding_by) t

-- ---- literals

-- an application `Ticket issuer type content amount`; another shape of that name tells nothing
abbrev pub ticket_of : Trees → Option (List Part)
ticket_of (more (bytes issuer) (more kind (more content (more n none)))) =
    if is_issuer issuer then part_of held (more (bytes issuer) (more kind (more content (more n none)))) else Some []
ticket_of ts = Some []

abbrev pub ticket_by : List ℕ → Trees → Option (List Part)
ticket_by name ts = if bytes_eq name (codes "Ticket") then ticket_of ts else Some []

abbrev mutual
  -- the tickets in a literal, at any depth
  pub tickets_in : Tree → Option (List Part)
  tickets_in (prim name annots ts) = ticket_by name ts >>= λ ps. tickets_within ts >>= λ qs. Some (ps ++ qs)
  tickets_in (seq ts) = tickets_within ts
  tickets_in t = Some []

  pub tickets_within : Trees → Option (List Part)
  tickets_within none = Some []
  tickets_within (more t ts) = tickets_in t >>= λ ps. tickets_within ts >>= λ qs. Some (ps ++ qs)
