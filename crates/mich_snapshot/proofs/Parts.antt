-- The parts of a state as they are put.
use Rattle.std.proofs.Common.{◌≡◌, ℕ, ℤ, pos, Bool, true, false, ◌≤◌, List, [], ◌∷◌, ◌++◌, map, length, drop, Some, None, Ok, Err, refl, sym, ap, subst, ◌∙◌, append_assoc}
use Rattle.std.specs.Prelude.{suc, is_some, unwrap_or, ◌<ℤ◌, if◌then◌else◌}
use Rattle.std.specs.declared.option.Option.{Option}
use Rattle.std.specs.Ordering.{nat_cmp}
use Rattle.std.specs.Cmp.Lexicographic.{slice_cmp}
use Rattle.std.specs.Int.{w64}
use Rattle.std.specs.List.{AllByRecursion, flat_map}
use Rattle.std.specs.List.Sorted.{IsStrictlySortedBy}
use Rattle.std.specs.Map.{keys_of}
use Rattle.std.proofs.Math.ListN.{drop_of_length-le}
use Rattle.rules_text.specs.nodes.Tree.{Tree}
use Rattle.rules_code.specs.evaluation.Surroundings.{Contract as PlainContract}
use Rattle.rules_data.specs.values.Tickets.{Identity}
use Rattle.rules_world.specs.world.Holdings.{identities, minted_ever}
use Rattle.rules_world.specs.world.World.{World as PlainWorld, Account, account_at as plain_account_at}
use Rattle.rules_files.specs.snapshots.Course.{total_of}
use Rattle.rules_files.specs.snapshots.Spelling.{account_spelling, contract_spelling, costs_spelling, counted, eight, four, head_spelling, magic, profile, signed, state_spelling, sums_spelling, total_spelling}
use Rattle.mich_base.specs.View.{tree}
use Rattle.mich_bigmap.specs.Bases.{Bases}
use Rattle.mich_instr.specs.View.{instr_step, node_of, script_node, script_step, view_step}
use Rattle.mich_instr.specs.declared.instr.Script.{Script, out-Script}
use Rattle.mich_instr.specs.declared.instr.Instr.TheFolds.{fold_out-Script}
use Rattle.mich_instr.specs.Code.{Code, ScriptCode, ViewCode}
use Rattle.mich_world.specs.Holders.{account_at, contract_at}
use Rattle.mich_world.specs.Standing.{StandsFor, contract_in, plain}
use Rattle.mich_world.specs.World.{World}
use Rattle.mich_world.specs.declared.contract.Contract.{Contract}
use Rattle.mich_report.specs.Amounts.{Amounts, by_print, seen}
use Rattle.mich_report.specs.State.{IsAtRest, Mints}
use Rattle.mich_report.proofs.ForCallers.{balances, each_found, entries_told, keys_in, keys_purse}
use Rattle.mich_snapshot.specs.Puts.{IsPut, IsSaved}
use Rattle.mich_snapshot.specs.Saved.{account_seen, account_text, account_text_at, contract_nodes_at, contract_text_at, front_spelling, head_text, marks_text, nodes_of, on_list, total_in}
use Rattle.mich_snapshot.specs.Snapshots.{snapshot_of}
use Rattle.mich_snapshot.specs.declared.errors.SaveError.{SaveError}
use Rattle.mich_snapshot.specs.declared.errors.SaveError.TheVariants as errors
use Rattle.mich_snapshot.specs.declared.state.State.{State}
use Rattle.mich_snapshot.proofs.Putting.{put_three}

-- ---- lists of what is found at keys

-- what stands for all keys is what stands for all entries
pub keys_lists : {X Y A : Type 0} (whole : List ℕ → Option X) (f : List ℕ → X → List A) (g : List ℕ × Y → List A) (h : Y → X) (es : List (List ℕ × Y))
    → AllByRecursion (λ e. whole e.0 ≡ Some (h e.1)) es → AllByRecursion (λ e. f e.0 (h e.1) ≡ g e) es
    → flat_map (λ k. on_list (f k) (whole k)) (keys_of es) ≡ flat_map g es
keys_lists whole f g h [] there same = refl
keys_lists {X = X} {A = A} whole f g h (e ∷ es) there same =
    ap (λ (o : Option X). on_list (f e.0) o ++ flat_map (λ k. on_list (f k) (whole k)) (keys_of es)) there.0
    ∙ ap (λ (l : List A). l ++ flat_map (λ k. on_list (f k) (whole k)) (keys_of es)) same.0
    ∙ ap (λ (l : List A). g e ++ l) (keys_lists whole f g h es there.1 same.1)

-- nothing stands for the keys behind the last
pub none_left : {X A : Type 0} (f : List X → List A) (items : List X) (i : ℕ) → f [] ≡ [] → length items ≤ i → f (drop i items) ≡ []
none_left {X = X} f items i none past = ap f (drop_of_length-le items past) ∙ none

length_keys : {X : Type 0} (es : List (List ℕ × X)) → length (keys_of es) ≡ length es
length_keys [] = refl
length_keys (e ∷ es) = ap suc (length_keys es)

-- ---- the head

head_is : (m r s : List ℕ) (c f z : List ℕ) (p e : List ℕ) → (m ++ (c ++ (f ++ z))) ++ ((p ++ e) ++ s) ≡ m ++ (c ++ (f ++ (z ++ (p ++ (e ++ s)))))
head_is m r s c f z p e =
    append_assoc m (c ++ (f ++ z)) ((p ++ e) ++ s)
    ∙ ap (λ (l : List ℕ). m ++ l) (append_assoc c (f ++ z) ((p ++ e) ++ s)
    ∙ ap (λ (l : List ℕ). c ++ l) (append_assoc f z ((p ++ e) ++ s)
    ∙ ap (λ (l : List ℕ). f ++ (z ++ l)) (append_assoc p e s)))

-- the head by what the world of the code has
abbrev head_by : State → List ℕ → ℕ → ℤ → Option ℕ → List ℕ
head_by s chain level moment rate =
    magic ++ (chain ++ (four level ++ (signed w64 moment ++ (profile (is_some rate) ++ (eight (unwrap_or rate 0) ++ marks_text s)))))

pub head_same : (s : State) (w : PlainWorld) → StandsFor s.world w → head_text s ≡ head_spelling (snapshot_of s w)
head_same s w h =
    let v = s.world in
    let rate = v.funds.present.rate in
    head_is magic [] (marks_text s) v.chain (four v.level) (signed w64 v.moment) (profile (is_some rate)) (eight (unwrap_or rate 0))
    ∙ (λ i. head_by s (sym h.chain i) (sym h.level i) (sym h.moment i) (sym h.those.rate i))

pub sums_same : (s : State) (w : PlainWorld) → StandsFor s.world w
    → eight s.world.funds.present.fees ++ eight s.world.funds.present.storage_burn ≡ sums_spelling (snapshot_of s w)
sums_same s w h = λ i. eight (sym h.those.fees i) ++ eight (sym h.those.storage_burn i)

-- ---- accounts

abbrev pub accounts_text : World → PlainWorld → List (List ℕ) → List ℕ
accounts_text v w keys = flat_map (account_text_at v w) keys

accounts_same : (w : PlainWorld) (as' : List (List ℕ × Account)) → AllByRecursion (λ a. plain_account_at w a.0 ≡ Some a.1) as'
    → AllByRecursion (λ a. account_seen w a.0 a.1.balance ≡ account_spelling a) as'
accounts_same w [] h = tt
accounts_same w (a ∷ as') h =
    (ap (λ (o : Option Account). account_text a.0 a.1.balance (unwrap_or o (record { balance = 0; holdings = [] })).holdings) h.0, accounts_same w as' h.1)

account_keys : (v : World) (w : PlainWorld) → StandsFor v w → keys_of v.funds.present.accounts ≡ keys_of w.accounts
account_keys v w s = ap keys_of (sym s.those.accounts) ∙ keys_purse w.accounts

pub all_accounts : (v : World) (w : PlainWorld) (keys : List (List ℕ)) → IsAtRest v w → keys ≡ keys_of v.funds.present.accounts
    → eight (length keys) ++ accounts_text v w keys ≡ counted account_spelling w.accounts
all_accounts v w keys r e =
    let found = each_found w.accounts r.good.sound.form.accounts_in_order in
    let same : keys ≡ keys_of w.accounts = e ∙ account_keys v w r.stands in
    ap (λ (ks : List (List ℕ)). eight (length ks) ++ accounts_text v w ks) same
    ∙ ap (λ (n : ℕ). eight n ++ accounts_text v w (keys_of w.accounts)) (length_keys w.accounts)
    ∙ ap (λ (l : List ℕ). eight (length w.accounts) ++ l)
    (keys_lists (account_at v.funds.present) (account_seen w) account_spelling (λ (a : Account). a.balance) w.accounts
    (balances v w r.stands w.accounts found) (accounts_same w w.accounts found))

-- ---- contracts

abbrev pub contracts_text : World → List (List ℕ) → List ℕ
contracts_text v keys = flat_map (contract_text_at v) keys

abbrev pub contracts_nodes : World → List (List ℕ) → List Tree
contracts_nodes v keys = flat_map (contract_nodes_at v) keys

alike : {A : Type 0} (f : List ℕ × PlainContract → List A) (bs : Bases) (cs : List (List ℕ × Contract))
    → AllByRecursion (λ c. f (c.0, plain bs c.1) ≡ f (contract_in bs c)) cs
alike f bs [] = tt
alike f bs (c ∷ cs) = (refl, alike f bs cs)

over_plain : {A : Type 0} (f : List ℕ × PlainContract → List A) (bs : Bases) (cs : List (List ℕ × Contract))
    → flat_map (λ c. f (contract_in bs c)) cs ≡ flat_map f (map (contract_in bs) cs)
over_plain f bs [] = refl
over_plain {A = A} f bs (c ∷ cs) = ap (λ (l : List A). f (contract_in bs c) ++ l) (over_plain f bs cs)

-- what stands for the keys of all contracts is what stands for the contracts of the world
contracts_are : {A : Type 0} (f : List ℕ × PlainContract → List A) (v : World) (w : PlainWorld) → IsAtRest v w
    → flat_map (λ hash. on_list (λ c. f (hash, plain v.store.bases.present c)) (contract_at v.funds.present hash)) (keys_of v.funds.present.contracts)
    ≡ flat_map f w.contracts
contracts_are f v w r =
    keys_lists (contract_at v.funds.present) (λ hash c. f (hash, plain bs c)) (λ c. f (contract_in bs c)) (λ c. c) cs (each_found cs sorted) (alike f bs cs)
    ∙ over_plain f bs cs
    ∙ ap (flat_map f) (sym r.stands.those.contracts)
  where
    bs : Bases
    bs = v.store.bases.present

    cs : List (List ℕ × Contract)
    cs = v.funds.present.contracts

    sorted : IsStrictlySortedBy (slice_cmp nat_cmp) (keys_of cs)
    sorted = subst (IsStrictlySortedBy (slice_cmp nat_cmp)) (ap keys_of r.stands.those.contracts ∙ keys_in bs cs) r.good.sound.form.contracts_in_order

contract_count : (v : World) (w : PlainWorld) → StandsFor v w → length (keys_of v.funds.present.contracts) ≡ length w.contracts
contract_count v w s =
    ap length (sym (ap keys_of s.those.contracts ∙ keys_in v.store.bases.present v.funds.present.contracts)) ∙ length_keys w.contracts

pub all_contracts : (v : World) (w : PlainWorld) (keys : List (List ℕ)) → IsAtRest v w → keys ≡ keys_of v.funds.present.contracts
    → eight (length keys) ++ contracts_text v keys ≡ counted contract_spelling w.contracts
all_contracts v w keys r e =
    ap (λ (ks : List (List ℕ)). eight (length ks) ++ contracts_text v ks) e
    ∙ (λ i. eight (contract_count v w r.stands i) ++ contracts_are contract_spelling v w r i)

pub all_nodes : (v : World) (w : PlainWorld) (keys : List (List ℕ)) → IsAtRest v w → keys ≡ keys_of v.funds.present.contracts
    → contracts_nodes v keys ≡ flat_map (λ c. nodes_of c.1) w.contracts
all_nodes v w keys r e = ap (contracts_nodes v) e ∙ contracts_are (λ c. nodes_of c.1) v w r

-- the node of a script
pub script_tree : (s : Script) → tree (out-Script s).node ≡ script_node s
script_tree s = sym (ap node_of (fold_out-Script Code ScriptCode ViewCode instr_step script_step view_step s))

-- a contract behind its funds
pub contract_put : (h e p n s : List ℕ) → (h ++ (e ++ p)) ++ (n ++ s) ≡ h ++ (e ++ (p ++ (n ++ s)))
contract_put h e p n s = append_assoc h (e ++ p) (n ++ s) ∙ ap (λ (l : List ℕ). h ++ l) (append_assoc e p (n ++ s))

-- ---- tickets

totals_same : (v : World) (w : PlainWorld) → IsAtRest v w → (ids : List Identity)
    → map (λ (e : Identity × ℤ). total_in v.ledger.books.present e.0) (map (λ j. (j, minted_ever w j)) ids) ≡ map (total_of w) ids
totals_same v w r [] = refl
totals_same v w r (j ∷ ids) =
    λ i. record { identity = j; minted = r.stands.those.minted j i; burnt = r.stands.those.burnt j i } ∷ totals_same v w r ids i

pub all_totals : (v : World) (w : PlainWorld) (es : Amounts) → IsAtRest v w → Mints v.ledger.books.present.lines es
    → IsStrictlySortedBy by_print (keys_of es) → AllByRecursion (λ e. pos 0 <ℤ e.1) es
    → map (λ (e : Identity × ℤ). total_in v.ledger.books.present e.0) (map seen es) ≡ map (total_of w) (identities w.log)
all_totals v w es r m sorted positive =
    ap (map (λ (e : Identity × ℤ). total_in v.ledger.books.present e.0)) (entries_told v w es r m.0 m.1 sorted positive) ∙ totals_same v w r (identities w.log)

-- ---- all parts

-- the front, the contracts and the tickets
parts_are : (h k s a c t : List ℕ) → (h ++ (k ++ (s ++ a))) ++ (c ++ t) ≡ h ++ (k ++ (s ++ (a ++ (c ++ t))))
parts_are h k s a c t =
    append_assoc h (k ++ (s ++ a)) (c ++ t)
    ∙ ap (λ (l : List ℕ). h ++ l) (append_assoc k (s ++ a) (c ++ t) ∙ ap (λ (l : List ℕ). k ++ l) (append_assoc s a (c ++ t)))

pub state_put : (s : State) (w : PlainWorld) (a b c d : List ℕ) → b ≡ a ++ front_spelling (snapshot_of s w)
    → c ≡ b ++ counted contract_spelling w.contracts → d ≡ c ++ counted total_spelling (map (total_of w) (identities w.log))
    → d ≡ a ++ state_spelling (snapshot_of s w)
state_put s w a b c d p q r =
    let x = snapshot_of s w in
    put_three a b c d (front_spelling x) (counted contract_spelling w.contracts) (counted total_spelling (map (total_of w) (identities w.log))) p q r
    ∙ ap (λ (l : List ℕ). a ++ l) (parts_are (head_spelling x) (costs_spelling x) (sums_spelling x) (counted account_spelling w.accounts)
    (counted contract_spelling w.contracts) (counted total_spelling (map (total_of w) (identities w.log))))

-- ---- what is answered

pub is_saved : (text bytes : List ℕ) (long : Bool) → long ≡ false → bytes ≡ text → IsSaved (if long then None else Some text) (Ok bytes)
is_saved text bytes false h e = e
is_saved text bytes true h e = absurd cc

pub not_saved : (text old new : List ℕ) (long : Bool) (e : SaveError) → IsPut old new text long (Err e) → IsSaved (if long then None else Some text) (Err e)
not_saved text old new true errors.TooLong h = tt
not_saved text old new false errors.TooLong h = absurd cc
not_saved text old new true errors.Memory h = tt
not_saved text old new false errors.Memory h = tt
