-- What a line of the text tells: the receipt of a group, an account, a contract, a ticket, and the sums at the end.
use Rattle.std.specs.Prelude.{ℕ, ℤ, Bool, true, false, if◌then◌else◌, List, [], codes, Some, None}
use Rattle.std.specs.declared.option.Option.{Option}
use Rattle.std.specs.Str.{bytes_eq}
use Rattle.rules_text.specs.nodes.Tree.{Tree, int, bytes, seq, Trees, none, more}
use Rattle.rules_audit.specs.Fields.{◌>>=◌, only_if, named, amount_from, is_issuer, Identity, identity, Part, each, in_sequence, changes_of, holdings_of, tickets_in}

-- A contract's line may have a fourth argument. The other parts of a line may be any nodes.
pub data Line : Type 0 where
  group : (number : ℤ) → List Part → Line
  account : (balance : ℕ) → List Part → Line
  contract : (balance : ℕ) → List Part → (fourth : Bool) → Line
  tickets : Identity → (minted burnt held : ℕ) → Line
  fees : ℕ → Line
  storage_burn : ℕ → Line
  supply : ℕ → Line

-- ---- receipts

-- what nodes that tell nothing of tickets need: an amount
abbrev pub with_amount : Tree → Option (List Part)
with_amount n = amount_from 0 n >>= λ n. Some []

-- sender destination amount argument changes
abbrev pub transfer_of : Trees → Option (List Part)
transfer_of (more s (more d (more n (more x (more changes none))))) = with_amount n >>= λ n. changes_of changes
transfer_of ts = None

-- sender destination issuer type content amount changes
abbrev pub give_of : Trees → Option (List Part)
give_of (more s (more d (more (bytes issuer) (more k (more x (more n (more changes none))))))) =
    only_if (is_issuer issuer) n >>= λ n. with_amount n >>= λ n. changes_of changes
give_of ts = None

-- sender address amount; and address bytes amount
abbrev pub third_amount : Trees → Option (List Part)
third_amount (more a (more b (more n none))) = with_amount n
third_amount ts = None

-- sender tag type value
abbrev pub event_of : Trees → Option (List Part)
event_of (more s (more tag (more k (more x none)))) = Some []
event_of ts = None

abbrev pub effect_by : List ℕ → Trees → Option (List Part)
effect_by name ts =
    if bytes_eq name (codes "Transfer") then transfer_of ts
    else if bytes_eq name (codes "Give") then give_of ts
    else if bytes_eq name (codes "Origination") then third_amount ts
    else if bytes_eq name (codes "Event") then event_of ts
    else if bytes_eq name (codes "Storage") then third_amount ts
    else None

-- gas effects
abbrev pub applied_of : Trees → Option (List Part)
applied_of (more gas (more effects none)) = in_sequence (named effect_by) effects
applied_of ts = None

-- count failure
abbrev pub failed_of : Trees → Option (List Part)
failed_of (more count (more failure none)) = Some []
failed_of ts = None

abbrev pub alone : Trees → Option (List Part)
alone none = Some []
alone ts = None

abbrev pub status_by : List ℕ → Trees → Option (List Part)
status_by name ts =
    if bytes_eq name (codes "Applied") then applied_of ts
    else if bytes_eq name (codes "Backtracked") then alone ts
    else if bytes_eq name (codes "Failed") then failed_of ts
    else if bytes_eq name (codes "Skipped") then alone ts
    else None

-- a refused group tells nothing
abbrev pub refused_by : List ℕ → Trees → Option (List Part)
refused_by name (more fault none) = if bytes_eq name (codes "Refused") then Some [] else None
refused_by name ts = None

abbrev pub receipt_of : Tree → Option (List Part)
receipt_of (seq statuses) = each (named status_by) statuses
receipt_of t = named refused_by t

-- ---- lines

-- number receipt
abbrev pub group_of : Trees → Option Line
group_of (more (int n) (more receipt none)) = receipt_of receipt >>= λ ps. Some (group n ps)
group_of ts = None

-- key_hash balance holdings
abbrev pub account_of : Trees → Option Line
account_of (more who (more n (more holdings none))) = amount_from 0 n >>= λ n. holdings_of holdings >>= λ ps. Some (account n ps)
account_of ts = None

abbrev pub contract_with : Tree → Tree → Bool → Option Line
contract_with n storage fourth = amount_from 0 n >>= λ n. tickets_in storage >>= λ ps. Some (contract n ps fourth)

-- address balance storage, and maybe a size
abbrev pub contract_of : Trees → Option Line
contract_of (more address (more n (more storage none))) = contract_with n storage false
contract_of (more address (more n (more storage (more size none)))) = contract_with n storage true
contract_of ts = None

-- issuer type content minted burnt held
abbrev pub tickets_of : Trees → Option Line
tickets_of (more (bytes issuer) (more k (more x (more m (more b (more h none)))))) =
    only_if (is_issuer issuer) m >>= λ m. amount_from 0 m >>= λ m. amount_from 0 b >>= λ b. amount_from 0 h >>= λ h. Some (tickets (identity issuer k x) m b h)
tickets_of ts = None

abbrev pub amount_line : (ℕ → Line) → Trees → Option Line
amount_line made (more n none) = amount_from 0 n >>= λ n. Some (made n)
amount_line made ts = None

abbrev pub line_by : List ℕ → Trees → Option Line
line_by name ts =
    if bytes_eq name (codes "Group") then group_of ts
    else if bytes_eq name (codes "Account") then account_of ts
    else if bytes_eq name (codes "Contract") then contract_of ts
    else if bytes_eq name (codes "Tickets") then tickets_of ts
    else if bytes_eq name (codes "Fees") then amount_line fees ts
    else if bytes_eq name (codes "StorageBurn") then amount_line storage_burn ts
    else if bytes_eq name (codes "Supply") then amount_line supply ts
    else None

-- the line that a node is, or none
abbrev pub line_of : Tree → Option Line
line_of t = named line_by t
