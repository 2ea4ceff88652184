-- Fields of another number than a form has.
use Rattle.std.proofs.Common.{◌≡◌, ◌≢◌, length, ℕ, List, [], ◌∷◌, Option, Some, None, refl, ◌<◌, ◌≤◌, get_or, arith}
use Rattle.std.specs.Prelude.{ℤ}
use Rattle.rules_text.specs.nodes.Tree.{Tree, int, str, bytes, prim, seq, Trees, none, more}
use Rattle.rules_audit.specs.Fields.{Sort, Part, part_of, ticket_of}
use Rattle.rules_audit.specs.Lines.{Line, group_of, account_of, contract_of, tickets_of, amount_line, transfer_of, give_of, third_amount, event_of, applied_of, failed_of, alone, refused_by}
use Rattle.mich_base.specs.Counted.{IsNotEmpty, IsNotOne, IsNotTwo, IsNotThree}
use Rattle.mich_base.specs.View.{tree, trees}
use Rattle.mich_base.specs.declared.node.Node.{Node}

-- ---- tickets

part_first : (sort : Sort) (t : Tree) (ts : Trees) → ((b : List ℕ) → part_of sort (more (bytes b) ts) ≡ None) → part_of sort (more t ts) ≡ None
part_first sort (int n) ts h = refl
part_first sort (str s) ts h = refl
part_first sort (bytes b) ts h = h b
part_first sort (prim name annots us) ts h = refl
part_first sort (seq us) ts h = refl

pub part_fields : (sort : Sort) (ns : List Node) → length ns ≢ 4 → part_of sort (trees ns) ≡ None
part_fields sort [] h = refl
part_fields sort (a ∷ []) h = part_first sort (tree a) _ (λ b. refl)
part_fields sort (a ∷ b ∷ []) h = part_first sort (tree a) _ (λ b. refl)
part_fields sort (a ∷ b ∷ c ∷ []) h = part_first sort (tree a) _ (λ b. refl)
part_fields sort (a ∷ b ∷ c ∷ d ∷ []) h = absurd (h refl)
part_fields sort (a ∷ b ∷ c ∷ d ∷ e ∷ ns) h = part_first sort (tree a) _ (λ b. refl)

ticket_first : (t : Tree) (ts : Trees) → ((b : List ℕ) → ticket_of (more (bytes b) ts) ≡ Some []) → ticket_of (more t ts) ≡ Some []
ticket_first (int n) ts h = refl
ticket_first (str s) ts h = refl
ticket_first (bytes b) ts h = h b
ticket_first (prim name annots us) ts h = refl
ticket_first (seq us) ts h = refl

pub ticket_fields : (ns : List Node) → length ns ≢ 4 → ticket_of (trees ns) ≡ Some []
ticket_fields [] h = refl
ticket_fields (a ∷ []) h = ticket_first (tree a) _ (λ b. refl)
ticket_fields (a ∷ b ∷ []) h = ticket_first (tree a) _ (λ b. refl)
ticket_fields (a ∷ b ∷ c ∷ []) h = ticket_first (tree a) _ (λ b. refl)
ticket_fields (a ∷ b ∷ c ∷ d ∷ []) h = absurd (h refl)
ticket_fields (a ∷ b ∷ c ∷ d ∷ e ∷ ns) h = ticket_first (tree a) _ (λ b. refl)

-- ---- receipts

pub transfer_fields : (ns : List Node) → length ns ≢ 5 → transfer_of (trees ns) ≡ None
transfer_fields [] h = refl
transfer_fields (a ∷ []) h = refl
transfer_fields (a ∷ b ∷ []) h = refl
transfer_fields (a ∷ b ∷ c ∷ []) h = refl
transfer_fields (a ∷ b ∷ c ∷ d ∷ []) h = refl
transfer_fields (a ∷ b ∷ c ∷ d ∷ e ∷ []) h = absurd (h refl)
transfer_fields (a ∷ b ∷ c ∷ d ∷ e ∷ f ∷ ns) h = refl

give_third : (s d t : Tree) (ts : Trees) → ((b : List ℕ) → give_of (more s (more d (more (bytes b) ts))) ≡ None) → give_of (more s (more d (more t ts))) ≡ None
give_third s d (int n) ts h = refl
give_third s d (str x) ts h = refl
give_third s d (bytes b) ts h = h b
give_third s d (prim name annots us) ts h = refl
give_third s d (seq us) ts h = refl

pub give_fields : (ns : List Node) → length ns ≢ 7 → give_of (trees ns) ≡ None
give_fields [] h = refl
give_fields (a ∷ []) h = refl
give_fields (a ∷ b ∷ []) h = refl
give_fields (a ∷ b ∷ c ∷ []) h = give_third (tree a) (tree b) (tree c) _ (λ b. refl)
give_fields (a ∷ b ∷ c ∷ d ∷ []) h = give_third (tree a) (tree b) (tree c) _ (λ b. refl)
give_fields (a ∷ b ∷ c ∷ d ∷ e ∷ []) h = give_third (tree a) (tree b) (tree c) _ (λ b. refl)
give_fields (a ∷ b ∷ c ∷ d ∷ e ∷ f ∷ []) h = give_third (tree a) (tree b) (tree c) _ (λ b. refl)
give_fields (a ∷ b ∷ c ∷ d ∷ e ∷ f ∷ g ∷ []) h = absurd (h refl)
give_fields (a ∷ b ∷ c ∷ d ∷ e ∷ f ∷ g ∷ i ∷ ns) h = give_third (tree a) (tree b) (tree c) _ (λ b. refl)

pub third_fields : (ns : List Node) → IsNotThree ns → third_amount (trees ns) ≡ None
third_fields [] h = refl
third_fields (a ∷ []) h = refl
third_fields (a ∷ b ∷ []) h = refl
third_fields (a ∷ b ∷ c ∷ []) h = absurd h
third_fields (a ∷ b ∷ c ∷ d ∷ ns) h = refl

pub event_fields : (ns : List Node) → length ns ≢ 4 → event_of (trees ns) ≡ None
event_fields [] h = refl
event_fields (a ∷ []) h = refl
event_fields (a ∷ b ∷ []) h = refl
event_fields (a ∷ b ∷ c ∷ []) h = refl
event_fields (a ∷ b ∷ c ∷ d ∷ []) h = absurd (h refl)
event_fields (a ∷ b ∷ c ∷ d ∷ e ∷ ns) h = refl

pub applied_fields : (ns : List Node) → IsNotTwo ns → applied_of (trees ns) ≡ None
applied_fields [] h = refl
applied_fields (a ∷ []) h = refl
applied_fields (a ∷ b ∷ []) h = absurd h
applied_fields (a ∷ b ∷ c ∷ ns) h = refl

pub failed_fields : (ns : List Node) → IsNotTwo ns → failed_of (trees ns) ≡ None
failed_fields [] h = refl
failed_fields (a ∷ []) h = refl
failed_fields (a ∷ b ∷ []) h = absurd h
failed_fields (a ∷ b ∷ c ∷ ns) h = refl

pub alone_fields : (ns : List Node) → IsNotEmpty ns → alone (trees ns) ≡ None
alone_fields [] h = absurd h
alone_fields (a ∷ ns) h = refl

pub refused_fields : (name : List ℕ) (ns : List Node) → IsNotOne ns → refused_by name (trees ns) ≡ None
refused_fields name [] h = refl
refused_fields name (a ∷ []) h = absurd h
refused_fields name (a ∷ b ∷ ns) h = refl

-- ---- lines

group_first : (t : Tree) (ts : Trees) → ((n : ℤ) → group_of (more (int n) ts) ≡ None) → group_of (more t ts) ≡ None
group_first (int n) ts h = h n
group_first (str s) ts h = refl
group_first (bytes b) ts h = refl
group_first (prim name annots us) ts h = refl
group_first (seq us) ts h = refl

pub group_fields : (ns : List Node) → IsNotTwo ns → group_of (trees ns) ≡ None
group_fields [] h = refl
group_fields (a ∷ []) h = group_first (tree a) _ (λ n. refl)
group_fields (a ∷ b ∷ []) h = absurd h
group_fields (a ∷ b ∷ c ∷ ns) h = group_first (tree a) _ (λ n. refl)

pub account_fields : (ns : List Node) → IsNotThree ns → account_of (trees ns) ≡ None
account_fields [] h = refl
account_fields (a ∷ []) h = refl
account_fields (a ∷ b ∷ []) h = refl
account_fields (a ∷ b ∷ c ∷ []) h = absurd h
account_fields (a ∷ b ∷ c ∷ d ∷ ns) h = refl

pub contract_fields : (ns : List Node) → IsNotThree ns → length ns ≢ 4 → contract_of (trees ns) ≡ None
contract_fields [] h g = refl
contract_fields (a ∷ []) h g = refl
contract_fields (a ∷ b ∷ []) h g = refl
contract_fields (a ∷ b ∷ c ∷ []) h g = absurd h
contract_fields (a ∷ b ∷ c ∷ d ∷ []) h g = absurd (g refl)
contract_fields (a ∷ b ∷ c ∷ d ∷ e ∷ ns) h g = refl

tickets_first : (t : Tree) (ts : Trees) → ((b : List ℕ) → tickets_of (more (bytes b) ts) ≡ None) → tickets_of (more t ts) ≡ None
tickets_first (int n) ts h = refl
tickets_first (str s) ts h = refl
tickets_first (bytes b) ts h = h b
tickets_first (prim name annots us) ts h = refl
tickets_first (seq us) ts h = refl

pub tickets_fields : (ns : List Node) → length ns ≢ 6 → tickets_of (trees ns) ≡ None
tickets_fields [] h = refl
tickets_fields (a ∷ []) h = tickets_first (tree a) _ (λ b. refl)
tickets_fields (a ∷ b ∷ []) h = tickets_first (tree a) _ (λ b. refl)
tickets_fields (a ∷ b ∷ c ∷ []) h = tickets_first (tree a) _ (λ b. refl)
tickets_fields (a ∷ b ∷ c ∷ d ∷ []) h = tickets_first (tree a) _ (λ b. refl)
tickets_fields (a ∷ b ∷ c ∷ d ∷ e ∷ []) h = tickets_first (tree a) _ (λ b. refl)
tickets_fields (a ∷ b ∷ c ∷ d ∷ e ∷ f ∷ []) h = absurd (h refl)
tickets_fields (a ∷ b ∷ c ∷ d ∷ e ∷ f ∷ g ∷ ns) h = tickets_first (tree a) _ (λ b. refl)

pub amount_fields : (made : ℕ → Line) (ns : List Node) → IsNotOne ns → amount_line made (trees ns) ≡ None
amount_fields made [] h = refl
amount_fields made (a ∷ []) h = absurd h
amount_fields made (a ∷ b ∷ ns) h = refl

-- ---- lists of so many

pub six_listed : (ns : List Node) (a b c d e f : Node) → 6 ≤ length ns → length ns < 7 → a ≡ get_or ns 0 a → b ≡ get_or ns 1 b → c ≡ get_or ns 2 c → d ≡ get_or ns 3 d
    → e ≡ get_or ns 4 e → f ≡ get_or ns 5 f → ns ≡ a ∷ b ∷ c ∷ d ∷ e ∷ f ∷ []
six_listed [] a b c d e f low high ia ib ic id ie if' = absurd (omega arith)
six_listed (n ∷ []) a b c d e f low high ia ib ic id ie if' = absurd (omega arith)
six_listed (n ∷ o ∷ []) a b c d e f low high ia ib ic id ie if' = absurd (omega arith)
six_listed (n ∷ o ∷ p ∷ []) a b c d e f low high ia ib ic id ie if' = absurd (omega arith)
six_listed (n ∷ o ∷ p ∷ q ∷ []) a b c d e f low high ia ib ic id ie if' = absurd (omega arith)
six_listed (n ∷ o ∷ p ∷ q ∷ r ∷ []) a b c d e f low high ia ib ic id ie if' = absurd (omega arith)
six_listed (n ∷ o ∷ p ∷ q ∷ r ∷ s ∷ []) a b c d e f low high ia ib ic id ie if' = cc
six_listed (n ∷ o ∷ p ∷ q ∷ r ∷ s ∷ t ∷ ns) a b c d e f low high ia ib ic id ie if' = absurd (omega arith)

pub seven_listed : (ns : List Node) (a b c d e f g : Node) → 7 ≤ length ns → length ns < 8 → a ≡ get_or ns 0 a → b ≡ get_or ns 1 b → c ≡ get_or ns 2 c → d ≡ get_or ns 3 d
    → e ≡ get_or ns 4 e → f ≡ get_or ns 5 f → g ≡ get_or ns 6 g → ns ≡ a ∷ b ∷ c ∷ d ∷ e ∷ f ∷ g ∷ []
seven_listed [] a b c d e f g low high ia ib ic id ie if' ig = absurd (omega arith)
seven_listed (n ∷ []) a b c d e f g low high ia ib ic id ie if' ig = absurd (omega arith)
seven_listed (n ∷ o ∷ []) a b c d e f g low high ia ib ic id ie if' ig = absurd (omega arith)
seven_listed (n ∷ o ∷ p ∷ []) a b c d e f g low high ia ib ic id ie if' ig = absurd (omega arith)
seven_listed (n ∷ o ∷ p ∷ q ∷ []) a b c d e f g low high ia ib ic id ie if' ig = absurd (omega arith)
seven_listed (n ∷ o ∷ p ∷ q ∷ r ∷ []) a b c d e f g low high ia ib ic id ie if' ig = absurd (omega arith)
seven_listed (n ∷ o ∷ p ∷ q ∷ r ∷ s ∷ []) a b c d e f g low high ia ib ic id ie if' ig = absurd (omega arith)
seven_listed (n ∷ o ∷ p ∷ q ∷ r ∷ s ∷ t ∷ []) a b c d e f g low high ia ib ic id ie if' ig = cc
seven_listed (n ∷ o ∷ p ∷ q ∷ r ∷ s ∷ t ∷ u ∷ ns) a b c d e f g low high ia ib ic id ie if' ig = absurd (omega arith)
