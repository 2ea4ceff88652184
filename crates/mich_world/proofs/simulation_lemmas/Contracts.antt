-- Contracts that are made, and new storages.
use Rattle.std.proofs.Common.{◌≡◌, ℕ, ℤ, pos, ◌+ℤ◌, List, [], ◌∷◌, map, length, Bool, true, false, cond, option_map, is_some, None, Some, refl, sym, ap, ◌∙◌, subst, arith}
use Rattle.std.specs.Prelude.{neg_ℤ, if◌then◌else◌}
use Rattle.std.proofs.lemmas.Int.{ints}
use Rattle.std.specs.declared.option.Option.{Option}
use Rattle.std.specs.Ordering.{nat_cmp}
use Rattle.std.specs.Cmp.Lexicographic.{slice_cmp}
use Rattle.std.specs.Str.{bytes_eq}
use Rattle.std.specs.BTreeMap.{is_at, insert_entry}
use Rattle.std.specs.Map.{lookup}
use Rattle.std.specs.List.{AllByRecursion}
use Rattle.std.proofs.lemmas.Cmp.{nat_list_cmp_total}
use Rattle.std.proofs.lemmas.Slice.Eq.{bytes_eq-Decides}
use Rattle.rules_code.specs.evaluation.Surroundings.{Contract as PlainContract}
use Rattle.rules_data.specs.forms.Spelling.{contract_place, is_place}
use Rattle.rules_code.specs.steps.Changes.{amount_among, amount_in}
use Rattle.rules_data.specs.values.Tickets.{Identity, Held, tickets}
use Rattle.rules_data.specs.values.Val.{Val}
use Rattle.rules_world.specs.world.Forms.{IsWorld, IsTwentyBytes}
use Rattle.rules_world.specs.world.Holdings.{held_by, held_by_contract}
use Rattle.rules_world.specs.world.World.{World as PlainWorld, contract_at as plain_contract_at, with_contract as with_plain_contract}
use Rattle.mich_bigmap.specs.Bases.{Bases}
use Rattle.mich_bigmap.specs.Extended.{Extends}
use Rattle.mich_bigmap.specs.Standing.{val_in}
use Rattle.mich_bigmap.specs.Ticketless.{HoldNoTickets}
use Rattle.mich_bigmap.proofs.ForCallers.{tickets_in_store, val_later}
use Rattle.mich_forms.specs.declared.places.Place.{Place}
use Rattle.mich_forms.specs.declared.places.Place.TheVariants as place
use Rattle.mich_term.specs.Layers.{AreFormed}
use Rattle.mich_term.specs.ValueView.{val}
use Rattle.mich_term.specs.declared.value.Value.{Value}
use Rattle.mich_tickets.specs.Books.{Books}
use Rattle.mich_tickets.specs.Carrying.{Enters}
use Rattle.mich_tickets.specs.Effects.{listed_in}
use Rattle.mich_tickets.specs.Sums.{held_of, totals_of}
use Rattle.mich_tickets.specs.declared.totals.Totals.{Totals}
use Rattle.mich_base.specs.undo.Undone.{changed_at}
use Rattle.mich_world.specs.Holders.{Holders, by_bytes, contract_at, rebalanced, restored, with_balance, with_contract, with_change}
use Rattle.mich_world.specs.Standing.{plain, contract_in, AreThose}
use Rattle.mich_world.specs.Storages.{IsStored, Stands, Replaces, owner_of, stored_tickets}
use Rattle.mich_world.specs.declared.contract.Contract.{Contract}
use Rattle.mich_world.proofs.ForCallers.{seen_lookup, seen_insert, seen_changed, written_over}
use Rattle.laws_world.proofs.accounts.ForCallers.{all_found}
use Rattle.mich_world.proofs.simulation_lemmas.Owners.{found_same, hash_of, contract_holds}

-- ---- contracts over more bases

abbrev pub Same : Bases → Bases → List (List ℕ × Contract) → Type 0
Same bs ns cs = map (contract_in ns) cs ≡ map (contract_in bs) cs

one_same : (bs ns : Bases) (c : List ℕ × Contract) → val_in ns c.1.storage ≡ val_in bs c.1.storage → contract_in ns c ≡ contract_in bs c
one_same bs ns c e = ap (λ (v : Val). (c.0, record { balance = c.1.balance; paid = c.1.paid; script = Rattle.mich_instr.specs.View.script_node c.1.script; storage = v })) e

pub later : (bs ns : Bases) (cs : List (List ℕ × Contract)) → Extends bs ns → AllByRecursion (λ c. IsStored bs c.1) cs → Same bs ns cs
later bs ns [] x h = refl
later bs ns (c ∷ cs) x h =
    let first = one_same bs ns c (val_later bs ns c.1.storage x h.0.based) in
    let rest = later bs ns cs x h.1 in
    λ i. first i ∷ rest i

pub standing : (bs ns : Bases) (cs : List (List ℕ × Contract)) → AllByRecursion (Stands bs ns) cs → AllByRecursion (λ c. IsStored bs c.1) cs → Same bs ns cs
standing bs ns [] s h = refl
standing bs ns (c ∷ cs) s h =
    let first = one_same bs ns c (s.0 h.0.based).1 in
    let rest = standing bs ns cs s.1 h.1 in
    λ i. first i ∷ rest i

abbrev repriced : ℕ → PlainContract → PlainContract
repriced n c = record c { balance = n }

-- with another balance
pub balance_same : (bs ns : Bases) (h : Holders) (p : Place) (n : ℕ) → Same bs ns h.contracts → Same bs ns (with_balance h p n).contracts
balance_same bs ns h (place.Implicit who) n e = e
balance_same bs ns h (place.Contract hash) n e =
    let t = is_at (by_bytes hash) in
    seen_changed (plain ns) t (rebalanced n) (repriced n) (λ x. refl) h.contracts
    ∙ ap (λ (es : List (List ℕ × PlainContract)). changed_at t es (repriced n)) e
    ∙ sym (seen_changed (plain bs) t (rebalanced n) (repriced n) (λ x. refl) h.contracts)

-- ---- who is there

pub contract_is : (h : Holders) (bs : Bases) (b : Books) (w : PlainWorld) (hash : List ℕ) → AreThose h bs b w
    → plain_contract_at w hash ≡ option_map (plain bs) (contract_at h hash)
contract_is h bs b w hash t =
    ap (λ (es : List (List ℕ × PlainContract)). lookup (is_at (by_bytes hash)) es) t.contracts ∙ seen_lookup (plain bs) (is_at (by_bytes hash)) h.contracts

pub nobody : (h : Holders) (bs : Bases) (b : Books) (w : PlainWorld) (hash : List ℕ) → AreThose h bs b w → is_some (contract_at h hash) ≡ false
    → plain_contract_at w hash ≡ None
nobody h bs b w hash t n = contract_is h bs b w hash t ∙ by (contract_at h hash) n
  where
    by : (o : Option Contract) → is_some o ≡ false → option_map (plain bs) o ≡ None
    by None e = refl
    by (Some c) e = absurd cc

pub length_is : (w : PlainWorld) (hash : List ℕ) (c : PlainContract) → IsWorld w → plain_contract_at w hash ≡ Some c → length hash ≡ 20
length_is w hash c i e =
    let f = all_found (is_at (slice_cmp nat_cmp hash)) IsTwentyBytes w.contracts c i.contracts e in
    ap length (found_same hash f.0 f.2) ∙ f.1

all_at : {K X : Type 0} (P : X → Type 0) (t : K → Bool) (es : List (K × X)) (v : X) → AllByRecursion (λ e. P e.1) es → lookup t es ≡ Some v → P v
all_at P t [] v a h = absurd cc
all_at P t (e ∷ es) v a h = by (t e.0) h (all_at P t es v a.1)
  where
    by : (b : Bool) → cond b (Some e.1) (lookup t es) ≡ Some v → (lookup t es ≡ Some v → P v) → P v
    by true g rest = let s : e.1 ≡ v = cc in subst P s a.0
    by false g rest = rest g

pub stored_at : (h : Holders) (bs : Bases) (hash : List ℕ) (c : Contract) → AllByRecursion (λ (e : List ℕ × Contract). IsStored bs e.1) h.contracts
    → contract_at h hash ≡ Some c → IsStored bs c
stored_at h bs hash c a e = all_at (IsStored bs) (is_at (by_bytes hash)) h.contracts c a e

-- ---- what contracts hold

pub nothing_held : (w : PlainWorld) (hash : List ℕ) (id : Identity) → length hash ≡ 20 → plain_contract_at w hash ≡ None
    → held_by w id (contract_place hash) ≡ pos 0
nothing_held w hash id twenty none =
    ap (λ (q : List ℕ). held_by_contract (plain_contract_at w q) id) (hash_of hash twenty) ∙ ap (λ (o : Option PlainContract). held_by_contract o id) none

pub storage_held : (w : PlainWorld) (hash : List ℕ) (c : PlainContract) (id : Identity) → length hash ≡ 20 → plain_contract_at w hash ≡ Some c
    → held_by w id (contract_place hash) ≡ amount_in id c.storage
storage_held w hash c id twenty there =
    ap (λ (q : List ℕ). held_by_contract (plain_contract_at w q) id) (hash_of hash twenty) ∙ ap (λ (o : Option PlainContract). held_by_contract o id) there

-- the tickets of a value are those that it stands for
pub amounts : (bs : Bases) (v : Value) (id : Identity) → HoldNoTickets bs → AreFormed v → amount_among id (tickets (val v)) ≡ amount_in id (val_in bs v)
amounts bs v id n f = sym (ap (amount_among id) (tickets_in_store bs v n f))

-- the tickets in the storage of a contract that is there
pub stored_are : (h : Holders) (bs : Bases) (b : Books) (w : PlainWorld) (hash : List ℕ) (c : PlainContract) → AreThose h bs b w
    → AllByRecursion (λ (e : List ℕ × Contract). IsStored bs e.1) h.contracts → HoldNoTickets bs → plain_contract_at w hash ≡ Some c
    → stored_tickets (contract_at h hash) ≡ tickets c.storage
stored_are h bs b w hash c t a n there = by (contract_at h hash) refl
  where
    by : (o : Option Contract) → contract_at h hash ≡ o → stored_tickets o ≡ tickets c.storage
    by None e = let x : None ≡ Some c = sym (contract_is h bs b w hash t ∙ ap (option_map (plain bs)) e) ∙ there in absurd cc
    by (Some d) e =
        let x : Some (plain bs d) ≡ Some c = sym (contract_is h bs b w hash t ∙ ap (option_map (plain bs)) e) ∙ there in
        let s : plain bs d ≡ c = cc in
        sym (tickets_in_store bs d.storage n (stored_at h bs hash d a e).formed)
        ∙ ap (λ (z : PlainContract). tickets z.storage) s

pub before_held : (h : Holders) (bs : Bases) (b : Books) (w : PlainWorld) (hash : List ℕ) (c : PlainContract) (id : Identity) → AreThose h bs b w
    → AllByRecursion (λ (e : List ℕ × Contract). IsStored bs e.1) h.contracts → HoldNoTickets bs → plain_contract_at w hash ≡ Some c
    → amount_among id (stored_tickets (contract_at h hash)) ≡ amount_in id c.storage
before_held h bs b w hash c id t a n there = ap (amount_among id) (stored_are h bs b w hash c t a n there)

-- ---- a contract is set

pub contract_those : (h k : Holders) (bs ns : Bases) (b c : Books) (w : PlainWorld) (hash : List ℕ) (d : PlainContract) → length hash ≡ 20 → AreThose h bs b w
    → k.accounts ≡ h.accounts → k.fees ≡ h.fees → k.storage_burn ≡ h.storage_burn → k.granted ≡ h.granted → k.rate ≡ h.rate
    → (with_plain_contract w hash d).contracts ≡ map (contract_in ns) k.contracts
    → ((id : Identity) (o : List ℕ) → is_place o ≡ true → held_of c id o ≡ (if bytes_eq o (contract_place hash) then amount_in id d.storage else held_of b id o))
    → ((id : Identity) → totals_of c id ≡ totals_of b id) → listed_in c ≡ listed_in b
    → AreThose k ns c (with_plain_contract w hash d)
contract_those h k bs ns b c w hash d twenty t ea ef eb eg er ec eh et el = record {
  accounts = t.accounts ∙ sym ea;
  contracts = ec;
  fees = t.fees ∙ sym ef;
  storage_burn = t.storage_burn ∙ sym eb;
  granted = t.granted ∙ sym eg;
  rate = t.rate ∙ sym er;
  held = λ id o p. eh id o p
      ∙ ap (λ (z : ℤ). if bytes_eq o (contract_place hash) then amount_in id d.storage else z) (t.held id o p)
      ∙ sym (contract_holds w hash d twenty id o p);
  minted = λ id. ap (λ (x : Totals). x.minted) (et id) ∙ t.minted id;
  burnt = λ id. ap (λ (x : Totals). x.burnt) (et id) ∙ t.burnt id;
  listed = el ∙ t.listed;
}

-- made, where none was
pub made_held : (b c : Books) (w : PlainWorld) (hash : List ℕ) (ts : List Held) (x : Val) → length hash ≡ 20 → plain_contract_at w hash ≡ None
    → ((id : Identity) → held_of b id (contract_place hash) ≡ held_by w id (contract_place hash))
    → ((id : Identity) → amount_among id ts ≡ amount_in id x)
    → Enters (owner_of hash) ts b c
    → (id : Identity) (o : List ℕ) → held_of c id o ≡ (if bytes_eq o (contract_place hash) then amount_in id x else held_of b id o)
made_held b c w hash ts x twenty none held same enters id o = enters.held id o ∙ by (bytes_eq o (contract_place hash)) refl
  where
    sum : (a z n m : ℤ) → a ≡ z → z ≡ pos 0 → n ≡ m → a +ℤ n ≡ m
    sum a z n m e f g = omega (arith, ints, e, f, g)

    none_more : (a : ℤ) → a +ℤ pos 0 ≡ a
    none_more a = omega (arith, ints)

    by : (t : Bool) → bytes_eq o (contract_place hash) ≡ t
        → held_of b id o +ℤ (if t then amount_among id ts else pos 0) ≡ (if t then amount_in id x else held_of b id o)
    by true e =
        let is : o ≡ contract_place hash = (bytes_eq-Decides o (contract_place hash)).0 e in
        sum (held_of b id o) (held_by w id (contract_place hash)) (amount_among id ts) (amount_in id x)
        (ap (λ (q : List ℕ). held_of b id q) is ∙ held id) (nothing_held w hash id twenty none) (same id)
    by false e = none_more (held_of b id o)

-- in the place of another storage
pub replaced_held : (b c : Books) (w : PlainWorld) (hash : List ℕ) (before after : List Held) (d : PlainContract) (x : Val) → length hash ≡ 20
    → plain_contract_at w hash ≡ Some d
    → ((id : Identity) → held_of b id (contract_place hash) ≡ held_by w id (contract_place hash))
    → ((id : Identity) → amount_among id before ≡ amount_in id d.storage)
    → ((id : Identity) → amount_among id after ≡ amount_in id x)
    → Replaces (owner_of hash) before after b c
    → (id : Identity) (o : List ℕ) → held_of c id o ≡ (if bytes_eq o (contract_place hash) then amount_in id x else held_of b id o)
replaced_held b c w hash before after d x twenty there held old new r id o =
    r.entered.held id o
    ∙ ap (λ (z : ℤ). z +ℤ (if bytes_eq o (contract_place hash) then amount_among id after else pos 0)) (r.left.held id o)
    ∙ by (bytes_eq o (contract_place hash)) refl
  where
    sum : (a z p q n m : ℤ) → a ≡ z → z ≡ q → p ≡ q → n ≡ m → (a +ℤ neg_ℤ p) +ℤ n ≡ m
    sum a z p q n m e f g h = omega (arith, ints, e, f, g, h)

    none_more : (a : ℤ) → (a +ℤ pos 0) +ℤ pos 0 ≡ a
    none_more a = omega (arith, ints)

    by : (t : Bool) → bytes_eq o (contract_place hash) ≡ t
        → (held_of b id o +ℤ (if t then neg_ℤ (amount_among id before) else pos 0)) +ℤ (if t then amount_among id after else pos 0)
        ≡ (if t then amount_in id x else held_of b id o)
    by true e =
        let is : o ≡ contract_place hash = (bytes_eq-Decides o (contract_place hash)).0 e in
        sum (held_of b id o) (held_by w id (contract_place hash)) (amount_among id before) (amount_in id d.storage) (amount_among id after) (amount_in id x)
        (ap (λ (q : List ℕ). held_of b id q) is ∙ held id) (storage_held w hash d id twenty there) (old id) (new id)
    by false e = none_more (held_of b id o)

-- ---- contracts, as a world has them

pub made_contracts : (bs ns : Bases) (h : Holders) (es : List (List ℕ × PlainContract)) (hash : List ℕ) (c : Contract) (d : PlainContract)
    → es ≡ map (contract_in bs) h.contracts → Same bs ns h.contracts → plain ns c ≡ d
    → insert_entry by_bytes es hash d ≡ map (contract_in ns) (with_contract h hash c).contracts
made_contracts bs ns h es hash c d e s p =
    (λ i. insert_entry by_bytes ((e ∙ sym s) i) hash (sym p i))
    ∙ sym (seen_insert (plain ns) by_bytes h.contracts hash c)

abbrev stored_anew : Val → PlainContract → PlainContract
stored_anew x c = record c { storage = x }

pub replaced_contracts : (bs ns : Bases) (h : Holders) (b : Books) (w : PlainWorld) (hash : List ℕ) (d : PlainContract) (v : Value) (x : Val)
    → AreThose h bs b w → IsWorld w → plain_contract_at w hash ≡ Some d → Same bs ns h.contracts → val_in ns v ≡ x
    → (with_plain_contract w hash (record d { storage = x })).contracts ≡ map (contract_in ns) (with_change (restored v) h hash).contracts
replaced_contracts bs ns h b w hash d v x t i there s e =
    let test = is_at (by_bytes hash) in
    written_over nat_list_cmp_total hash (stored_anew x) w.contracts d i.contracts_in_order there
    ∙ ap (λ (es : List (List ℕ × PlainContract)). changed_at test es (stored_anew x)) (t.contracts ∙ sym s)
    ∙ sym (seen_changed (plain ns) test (restored v) (stored_anew x)
    (λ c. ap (λ (y : Val). record { balance = c.balance; paid = c.paid; script = Rattle.mich_instr.specs.View.script_node c.script; storage = y }) e) h.contracts)
