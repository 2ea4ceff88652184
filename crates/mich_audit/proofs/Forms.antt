-- The tickets that a node tells can be printed where the node can.
use Rattle.std.proofs.Common.{◌≡◌, ℕ, ℤ, Bool, true, false, List, [], ◌∷◌, ◌++◌, refl, sym, ap, ◌∙◌, subst}
use Rattle.std.specs.Prelude.{if◌then◌else◌, codes, Some, None}
use Rattle.std.specs.declared.option.Option.{Option}
use Rattle.std.specs.List.{AllByRecursion}
use Rattle.std.specs.Str.{bytes_eq}
use Rattle.rules_text.specs.nodes.Tree.{Tree, int, str, bytes, prim, seq, Trees, none, more}
use Rattle.mich_text.specs.Written.{HasTextForm, HaveTextForms}
use Rattle.rules_audit.specs.Fields.{◌>>=◌, only_if, named, amount_from, is_issuer, identity, Sort, minted, burnt, held, Part, part, part_of, each, in_sequence, change_by, holding_by, changes_of, holdings_of, ticket_of, ticket_by, tickets_in, tickets_within}
use Rattle.rules_audit.specs.Lines.{Line, group, account, contract, tickets, fees, storage_burn, supply, with_amount, transfer_of, give_of, third_amount, event_of, effect_by, applied_of, failed_of, alone, status_by, refused_by, receipt_of, group_of, account_of, contract_with, contract_of, tickets_of, amount_line, line_by, line_of}
use Rattle.mich_audit.specs.Tallies.{HasForm, HaveForms}

-- what is told, if anything is, has its form
abbrev pub Fine : Option (List Part) → Type 0
Fine (Some ps) = AllByRecursion (λ p. HasForm p.identity) ps
Fine None = Unit {0}

first : (t : Tree) (ts : Trees) → HaveTextForms (more t ts) → HasTextForm t
first t ts h = h.0

rest : (t : Tree) (ts : Trees) → HaveTextForms (more t ts) → HaveTextForms ts
rest t ts h = h.1

fine_then : {A : Type 0} (o : Option A) (f : A → Option (List Part)) → ((x : A) → Fine (f x)) → Fine (o >>= f)
fine_then (Some x) f h = h x
fine_then None f h = tt

fine_if : (b : Bool) (o other : Option (List Part)) → Fine o → Fine other → Fine (if b then o else other)
fine_if true o other h g = h
fine_if false o other h g = g

all_both : (ps qs : List Part) → AllByRecursion (λ p. HasForm p.identity) ps → AllByRecursion (λ p. HasForm p.identity) qs → AllByRecursion (λ p. HasForm p.identity) (ps ++ qs)
all_both [] qs h g = g
all_both (p ∷ ps) qs h g = (h.0, all_both ps qs h.1 g)

fine_both : (o other : Option (List Part)) → Fine o → Fine other → Fine (o >>= λ ps. other >>= λ qs. Some (ps ++ qs))
fine_both None other h g = tt
fine_both (Some ps) None h g = tt
fine_both (Some ps) (Some qs) h g = all_both ps qs h g

-- ---- tickets

part_fine : (sort : Sort) (ts : Trees) → HaveTextForms ts → Fine (part_of sort ts)
part_fine sort none h = tt
part_fine sort (more (int n) ts) h = tt
part_fine sort (more (str s) ts) h = tt
part_fine sort (more (prim name annots us) ts) h = tt
part_fine sort (more (seq us) ts) h = tt
part_fine sort (more (bytes b) none) h = tt
part_fine sort (more (bytes b) (more k none)) h = tt
part_fine sort (more (bytes b) (more k (more x none))) h = tt
part_fine sort (more (bytes b) (more k (more x (more n (more t ts))))) h = tt
part_fine sort (more (bytes b) (more k (more x (more n none)))) h =
    let h1 : HaveTextForms (more k (more x (more n none))) = rest (bytes b) (more k (more x (more n none))) h in
    let h2 : HaveTextForms (more x (more n none)) = rest k (more x (more n none)) h1 in
    let form : HasForm (identity b k x) = (first (bytes b) (more k (more x (more n none))) h, (first k (more x (more n none)) h1, (first x (more n none) h2, tt))) in
    fine_then (only_if (is_issuer b) n) _ (λ n. fine_then (amount_from 1 n) _ (λ n. (form, tt)))

named_fine : (f : List ℕ → Trees → Option (List Part)) → ((name : List ℕ) (ts : Trees) → HaveTextForms ts → Fine (f name ts)) → (t : Tree) → HasTextForm t → Fine (named f t)
named_fine f h (int n) g = tt
named_fine f h (str s) g = tt
named_fine f h (bytes b) g = tt
named_fine f h (prim name [] ts) g = h name ts g.2
named_fine f h (prim name (a ∷ others) ts) g = tt
named_fine f h (seq ts) g = tt

each_fine : (f : Tree → Option (List Part)) → ((t : Tree) → HasTextForm t → Fine (f t)) → (ts : Trees) → HaveTextForms ts → Fine (each f ts)
each_fine f h none g = tt
each_fine f h (more t ts) g = fine_both (f t) (each f ts) (h t (first t ts g)) (each_fine f h ts (rest t ts g))

sequence_fine : (f : Tree → Option (List Part)) → ((t : Tree) → HasTextForm t → Fine (f t)) → (t : Tree) → HasTextForm t → Fine (in_sequence f t)
sequence_fine f h (int n) g = tt
sequence_fine f h (str s) g = tt
sequence_fine f h (bytes b) g = tt
sequence_fine f h (prim name annots ts) g = tt
sequence_fine f h (seq ts) g = each_fine f h ts g

change_fine : (name : List ℕ) (ts : Trees) → HaveTextForms ts → Fine (change_by name ts)
change_fine name ts h =
    fine_if (bytes_eq name (codes "Minted")) _ _ (part_fine minted ts h) (fine_if (bytes_eq name (codes "Burnt")) _ None (part_fine burnt ts h) tt)

changes_fine : (t : Tree) → HasTextForm t → Fine (changes_of t)
changes_fine t h = sequence_fine (named change_by) (named_fine change_by change_fine) t h

holdings_fine : (t : Tree) → HasTextForm t → Fine (holdings_of t)
holdings_fine t h = sequence_fine (named holding_by) (named_fine holding_by (λ name ts g. fine_if (bytes_eq name (codes "Held")) _ None (part_fine held ts g) tt)) t h

ticket_fine : (ts : Trees) → HaveTextForms ts → Fine (ticket_of ts)
ticket_fine none h = tt
ticket_fine (more (int n) ts) h = tt
ticket_fine (more (str s) ts) h = tt
ticket_fine (more (prim name annots us) ts) h = tt
ticket_fine (more (seq us) ts) h = tt
ticket_fine (more (bytes b) none) h = tt
ticket_fine (more (bytes b) (more k none)) h = tt
ticket_fine (more (bytes b) (more k (more x none))) h = tt
ticket_fine (more (bytes b) (more k (more x (more n (more t ts))))) h = tt
ticket_fine (more (bytes b) (more k (more x (more n none)))) h =
    fine_if (is_issuer b) (part_of held (more (bytes b) (more k (more x (more n none))))) (Some []) (part_fine held (more (bytes b) (more k (more x (more n none)))) h) tt

mutual
  literal_fine : (t : Tree) → HasTextForm t → Fine (tickets_in t)
  literal_fine (int n) h = tt
  literal_fine (str s) h = tt
  literal_fine (bytes b) h = tt
  literal_fine (prim name annots ts) h =
      fine_both (ticket_by name ts) (tickets_within ts) (fine_if (bytes_eq name (codes "Ticket")) (ticket_of ts) (Some []) (ticket_fine ts h.2) tt) (literals_fine ts h.2)
  literal_fine (seq ts) h = literals_fine ts h

  literals_fine : (ts : Trees) → HaveTextForms ts → Fine (tickets_within ts)
  literals_fine none h = tt
  literals_fine (more t ts) h = fine_both (tickets_in t) (tickets_within ts) (literal_fine t (first t ts h)) (literals_fine ts (rest t ts h))

-- ---- receipts

amount_fine : (n : Tree) → Fine (with_amount n)
amount_fine n = fine_then (amount_from 0 n) _ (λ n. tt)

transfer_fine : (ts : Trees) → HaveTextForms ts → Fine (transfer_of ts)
transfer_fine none h = tt
transfer_fine (more s none) h = tt
transfer_fine (more s (more d none)) h = tt
transfer_fine (more s (more d (more n none))) h = tt
transfer_fine (more s (more d (more n (more x none)))) h = tt
transfer_fine (more s (more d (more n (more x (more changes (more t ts)))))) h = tt
transfer_fine (more s (more d (more n (more x (more changes none))))) h =
    let h1 = rest s (more d (more n (more x (more changes none)))) h in
    let h2 = rest d (more n (more x (more changes none))) h1 in
    let h3 = rest n (more x (more changes none)) h2 in
    let h4 = rest x (more changes none) h3 in
    fine_then (with_amount n) _ (λ n. changes_fine changes (first changes none h4))

give_fine : (ts : Trees) → HaveTextForms ts → Fine (give_of ts)
give_fine none h = tt
give_fine (more s none) h = tt
give_fine (more s (more d none)) h = tt
give_fine (more s (more d (more (int n) ts))) h = tt
give_fine (more s (more d (more (str n) ts))) h = tt
give_fine (more s (more d (more (prim name annots us) ts))) h = tt
give_fine (more s (more d (more (seq us) ts))) h = tt
give_fine (more s (more d (more (bytes b) none))) h = tt
give_fine (more s (more d (more (bytes b) (more k none)))) h = tt
give_fine (more s (more d (more (bytes b) (more k (more x none))))) h = tt
give_fine (more s (more d (more (bytes b) (more k (more x (more n none)))))) h = tt
give_fine (more s (more d (more (bytes b) (more k (more x (more n (more changes (more t ts)))))))) h = tt
give_fine (more s (more d (more (bytes b) (more k (more x (more n (more changes none))))))) h =
    let h1 = rest s (more d (more (bytes b) (more k (more x (more n (more changes none)))))) h in
    let h2 = rest d (more (bytes b) (more k (more x (more n (more changes none))))) h1 in
    let h3 = rest (bytes b) (more k (more x (more n (more changes none)))) h2 in
    let h4 = rest k (more x (more n (more changes none))) h3 in
    let h5 = rest x (more n (more changes none)) h4 in
    let h6 = rest n (more changes none) h5 in
    fine_then (only_if (is_issuer b) n) _ (λ n. fine_then (with_amount n) _ (λ n. changes_fine changes (first changes none h6)))

third_fine : (ts : Trees) → Fine (third_amount ts)
third_fine none = tt
third_fine (more a none) = tt
third_fine (more a (more b none)) = tt
third_fine (more a (more b (more n none))) = amount_fine n
third_fine (more a (more b (more n (more t ts)))) = tt

event_fine : (ts : Trees) → Fine (event_of ts)
event_fine none = tt
event_fine (more a none) = tt
event_fine (more a (more b none)) = tt
event_fine (more a (more b (more c none))) = tt
event_fine (more a (more b (more c (more d none)))) = tt
event_fine (more a (more b (more c (more d (more t ts))))) = tt

effect_fine : (name : List ℕ) (ts : Trees) → HaveTextForms ts → Fine (effect_by name ts)
effect_fine name ts h =
    fine_if (bytes_eq name (codes "Transfer")) _ _ (transfer_fine ts h) (fine_if (bytes_eq name (codes "Give")) _ _ (give_fine ts h)
    (fine_if (bytes_eq name (codes "Origination")) _ _ (third_fine ts) (fine_if (bytes_eq name (codes "Event")) _ _ (event_fine ts)
    (fine_if (bytes_eq name (codes "Storage")) _ None (third_fine ts) tt))))

applied_fine : (ts : Trees) → HaveTextForms ts → Fine (applied_of ts)
applied_fine none h = tt
applied_fine (more gas none) h = tt
applied_fine (more gas (more effects (more t ts))) h = tt
applied_fine (more gas (more effects none)) h =
    sequence_fine (named effect_by) (named_fine effect_by effect_fine) effects (first effects none (rest gas (more effects none) h))

failed_fine : (ts : Trees) → Fine (failed_of ts)
failed_fine none = tt
failed_fine (more a none) = tt
failed_fine (more a (more b none)) = tt
failed_fine (more a (more b (more t ts))) = tt

alone_fine : (ts : Trees) → Fine (alone ts)
alone_fine none = tt
alone_fine (more t ts) = tt

status_fine : (name : List ℕ) (ts : Trees) → HaveTextForms ts → Fine (status_by name ts)
status_fine name ts h =
    fine_if (bytes_eq name (codes "Applied")) _ _ (applied_fine ts h) (fine_if (bytes_eq name (codes "Backtracked")) _ _ (alone_fine ts)
    (fine_if (bytes_eq name (codes "Failed")) _ _ (failed_fine ts) (fine_if (bytes_eq name (codes "Skipped")) _ None (alone_fine ts) tt)))

refused_fine : (name : List ℕ) (ts : Trees) → Fine (refused_by name ts)
refused_fine name none = tt
refused_fine name (more t none) = fine_if (bytes_eq name (codes "Refused")) (Some []) None tt tt
refused_fine name (more t (more u ts)) = tt

refused_all : (t : Tree) → HasTextForm t → Fine (named refused_by t)
refused_all t h = named_fine refused_by (λ name ts g. refused_fine name ts) t h

receipt_fine : (t : Tree) → HasTextForm t → Fine (receipt_of t)
receipt_fine (int n) h = refused_all (int n) h
receipt_fine (str s) h = refused_all (str s) h
receipt_fine (bytes b) h = refused_all (bytes b) h
receipt_fine (prim name annots ts) h = refused_all (prim name annots ts) h
receipt_fine (seq statuses) h = each_fine (named status_by) (named_fine status_by status_fine) statuses h

-- ---- lines

-- the line that is told, if one is, has tickets of their form
abbrev pub FineLine : Option Line → Type 0
FineLine (Some l) = HaveForms l
FineLine None = Unit {0}

line_then : {A : Type 0} (o : Option A) (f : A → Option Line) → ((x : A) → FineLine (f x)) → FineLine (o >>= f)
line_then (Some x) f h = h x
line_then None f h = tt

parts_then : (o : Option (List Part)) (f : List Part → Option Line) → Fine o → ((ps : List Part) → Fine (Some ps) → FineLine (f ps)) → FineLine (o >>= f)
parts_then (Some ps) f h g = g ps h
parts_then None f h g = tt

line_if : (b : Bool) (o other : Option Line) → FineLine o → FineLine other → FineLine (if b then o else other)
line_if true o other h g = h
line_if false o other h g = g

group_fine : (ts : Trees) → HaveTextForms ts → FineLine (group_of ts)
group_fine none h = tt
group_fine (more (int n) none) h = tt
group_fine (more (int n) (more receipt none)) h =
    parts_then (receipt_of receipt) _ (receipt_fine receipt (first receipt none (rest (int n) (more receipt none) h))) (λ ps g. g)
group_fine (more (int n) (more receipt (more t ts))) h = tt
group_fine (more (str s) ts) h = tt
group_fine (more (bytes b) ts) h = tt
group_fine (more (prim name annots us) ts) h = tt
group_fine (more (seq us) ts) h = tt

account_fine : (ts : Trees) → HaveTextForms ts → FineLine (account_of ts)
account_fine none h = tt
account_fine (more who none) h = tt
account_fine (more who (more n none)) h = tt
account_fine (more who (more n (more holdings (more t ts)))) h = tt
account_fine (more who (more n (more holdings none))) h =
    let h2 = rest n (more holdings none) (rest who (more n (more holdings none)) h) in
    line_then (amount_from 0 n) _ (λ n. parts_then (holdings_of holdings) _ (holdings_fine holdings (first holdings none h2)) (λ ps g. g))

with_fine : (n storage : Tree) (fourth : Bool) → HasTextForm storage → FineLine (contract_with n storage fourth)
with_fine n storage fourth h = line_then (amount_from 0 n) _ (λ n. parts_then (tickets_in storage) _ (literal_fine storage h) (λ ps g. g))

contract_fine : (ts : Trees) → HaveTextForms ts → FineLine (contract_of ts)
contract_fine none h = tt
contract_fine (more a none) h = tt
contract_fine (more a (more n none)) h = tt
contract_fine (more a (more n (more storage none))) h =
    with_fine n storage false (first storage none (rest n (more storage none) (rest a (more n (more storage none)) h)))
contract_fine (more a (more n (more storage (more size none)))) h =
    with_fine n storage true (first storage (more size none) (rest n (more storage (more size none)) (rest a (more n (more storage (more size none))) h)))
contract_fine (more a (more n (more storage (more size (more t ts))))) h = tt

tickets_fine : (ts : Trees) → HaveTextForms ts → FineLine (tickets_of ts)
tickets_fine none h = tt
tickets_fine (more (int n) ts) h = tt
tickets_fine (more (str s) ts) h = tt
tickets_fine (more (prim name annots us) ts) h = tt
tickets_fine (more (seq us) ts) h = tt
tickets_fine (more (bytes i) none) h = tt
tickets_fine (more (bytes i) (more k none)) h = tt
tickets_fine (more (bytes i) (more k (more x none))) h = tt
tickets_fine (more (bytes i) (more k (more x (more m none)))) h = tt
tickets_fine (more (bytes i) (more k (more x (more m (more b none))))) h = tt
tickets_fine (more (bytes i) (more k (more x (more m (more b (more n (more t ts))))))) h = tt
tickets_fine (more (bytes i) (more k (more x (more m (more b (more n none)))))) h =
    let h1 = rest (bytes i) (more k (more x (more m (more b (more n none))))) h in
    let h2 = rest k (more x (more m (more b (more n none)))) h1 in
    let form : HasForm (identity i k x) =
    (first (bytes i) (more k (more x (more m (more b (more n none))))) h, (first k (more x (more m (more b (more n none)))) h1, (first x (more m (more b (more n none))) h2, tt))) in
    line_then (only_if (is_issuer i) m) _ (λ m. line_then (amount_from 0 m) _ (λ m. line_then (amount_from 0 b) _ (λ b. line_then (amount_from 0 n) _ (λ n. form))))

amount_line_fine : (made : ℕ → Line) (ts : Trees) → ((n : ℕ) → HaveForms (made n)) → FineLine (amount_line made ts)
amount_line_fine made none h = tt
amount_line_fine made (more n none) h = line_then (amount_from 0 n) _ (λ n. h n)
amount_line_fine made (more n (more t ts)) h = tt

by_fine : (name : List ℕ) (ts : Trees) → HaveTextForms ts → FineLine (line_by name ts)
by_fine name ts h =
    line_if (bytes_eq name (codes "Group")) _ _ (group_fine ts h) (line_if (bytes_eq name (codes "Account")) _ _ (account_fine ts h)
    (line_if (bytes_eq name (codes "Contract")) _ _ (contract_fine ts h) (line_if (bytes_eq name (codes "Tickets")) _ _ (tickets_fine ts h)
    (line_if (bytes_eq name (codes "Fees")) _ _ (amount_line_fine fees ts (λ n. tt)) (line_if (bytes_eq name (codes "StorageBurn")) _ _ (amount_line_fine storage_burn ts (λ n. tt))
    (line_if (bytes_eq name (codes "Supply")) _ None (amount_line_fine supply ts (λ n. tt)) tt))))))

line_fine : (t : Tree) → HasTextForm t → FineLine (line_of t)
line_fine (int n) h = tt
line_fine (str s) h = tt
line_fine (bytes b) h = tt
line_fine (prim name [] ts) h = by_fine name ts h.2
line_fine (prim name (a ∷ others) ts) h = tt
line_fine (seq ts) h = tt

pub line_forms : (t : Tree) (l : Line) → HasTextForm t → Some l ≡ line_of t → HaveForms l
line_forms t l h e = subst FineLine (sym e) (line_fine t h)
