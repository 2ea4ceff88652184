-- The rules of a contract and of a total, one after the other.
use Rattle.std.proofs.Common.{◌≡◌, ℕ, Bool, true, false, ◌&&◌, List, Option, Some, None, refl, sym, ap, subst, ◌∙◌}
use Rattle.std.specs.Prelude.{pos, ◌-ℤ◌, int_le}
use Rattle.std.specs.List.{list_all, list_any}
use Rattle.std.specs.Ordering.{int_eq}
use Rattle.std.specs.Str.{bytes_eq}
use Rattle.rules_code.specs.evaluation.Contracts.{hash_in}
use Rattle.rules_code.specs.evaluation.Surroundings.{Contract}
use Rattle.rules_code.specs.instructions.Arguments.{Found, found, fault}
use Rattle.rules_code.specs.steps.Changes.{identity_of}
use Rattle.rules_code.specs.typing.Nodes.{script}
use Rattle.rules_code.specs.typing.Scripts.{Script}
use Rattle.rules_data.specs.types.Kind.{Kind}
use Rattle.rules_data.specs.values.Forms.{is_ticket_amount}
use Rattle.rules_data.specs.values.Tickets.{Identity, tickets}
use Rattle.rules_world.specs.world.World.{identity_order}
use Rattle.rules_files.specs.snapshots.Reading.{storage_kind}
use Rattle.rules_files.specs.snapshots.Rules.{amount_there, byte_order, has_storage, has_total, is_above, is_content, is_contract, is_hash, is_paid, is_stored, is_total}
use Rattle.rules_files.specs.snapshots.Spelt.{HasSpelling, IsSpeltContract}
use Rattle.rules_files.specs.snapshots.State.{State, Total}
use Rattle.mich_saved.specs.KeptStates.{IsKeptContract}
use Rattle.mich_saved.specs.Parts.{KeptContract}
use Rattle.mich_saved.specs.Sound.{IsKept}
use Rattle.mich_snapshot.specs.Holders.{is_whole_total, storage_rules}
use Rattle.mich_snapshot.proofs.Scripts.{storage_is}

third_fails : (a b c d e : Bool) → c ≡ false → a && b && c && d && e ≡ false
third_fails a b c d e h = ap (λ x. a && b && x && d && e) h ∙ by a b
  where
    by : (a b : Bool) → a && b && false && d && e ≡ false
    by true true = refl
    by true false = refl
    by false b = refl

first_fail : (a b c d e : Bool) → a && b ≡ false → a && b && c && d && e ≡ false
first_fail a b c d e h = ap (λ x. x && c && d && e) h

first_hold : (a b c d e : Bool) → a && b ≡ true → a && b && c && d && e ≡ c && d && e
first_hold a b c d e h = ap (λ x. x && c && d && e) h

-- the type by which the storage is told is that of the script
same_kind : (t : List ℕ × Contract) (a : Kind) (typed : Script) → storage_kind t.1.script ≡ Some a → script t.1.script ≡ found typed → a ≡ typed.storage
same_kind c a typed told e = let same : Some a ≡ Some typed.storage = sym told ∙ storage_is c.1.script typed e in cc

-- a storage that isn't kept isn't one of its type
pub no_storage : (s : State) (former : Option (List ℕ)) (c : List ℕ × Contract) (d : List ℕ × KeptContract) → IsKeptContract c d → d.1.storage ≡ None
    → is_contract s former c ≡ false
no_storage s former c d h none =
    let wrong : is_stored h.storage.0 c.1.storage ≡ false = subst (IsKept h.storage.0 c.1.storage) none h.storage.2 in
    third_fails (is_above byte_order former c.0) (is_hash s c.0) (has_storage (script c.1.script) c.1.storage) (is_paid s.pays c.1)
    (list_all (λ t. has_total s (identity_of t)) (tickets c.1.storage))
    (by (script c.1.script) refl wrong)
  where
    by : (r : Found Script) → script c.1.script ≡ r → is_stored h.storage.0 c.1.storage ≡ false → has_storage r c.1.storage ≡ false
    by (fault l) e g = refl
    by (found typed) e g = ap (λ (a : Kind). is_stored a c.1.storage) (sym (same_kind c h.storage.0 typed h.storage.1 e)) ∙ g

pub bad_hash : (s : State) (former : Option (List ℕ)) (c : List ℕ × Contract) → is_above byte_order former c.0 && is_hash s c.0 ≡ false
    → is_contract s former c ≡ false
bad_hash s former c h =
    first_fail (is_above byte_order former c.0) (is_hash s c.0) (has_storage (script c.1.script) c.1.storage) (is_paid s.pays c.1)
    (list_all (λ t. has_total s (identity_of t)) (tickets c.1.storage)) h

pub ill_typed : (s : State) (former : Option (List ℕ)) (c : List ℕ × Contract) (l : ℕ) → script c.1.script ≡ fault l → is_contract s former c ≡ false
ill_typed s former c l h =
    third_fails (is_above byte_order former c.0) (is_hash s c.0) (has_storage (script c.1.script) c.1.storage) (is_paid s.pays c.1)
    (list_all (λ t. has_total s (identity_of t)) (tickets c.1.storage))
    (ap (λ r. has_storage r c.1.storage) h)

pub storage_decides : (s : State) (former : Option (List ℕ)) (c : List ℕ × Contract) (typed : Script) → is_above byte_order former c.0 && is_hash s c.0 ≡ true
    → script c.1.script ≡ found typed → is_contract s former c ≡ storage_rules s s.pays typed.storage c.1
storage_decides s former c typed h e =
    first_hold (is_above byte_order former c.0) (is_hash s c.0) (has_storage (script c.1.script) c.1.storage) (is_paid s.pays c.1)
    (list_all (λ t. has_total s (identity_of t)) (tickets c.1.storage)) h
    ∙ ap (λ r. has_storage r c.1.storage && is_paid s.pays c.1 && list_all (λ t. has_total s (identity_of t)) (tickets c.1.storage)) e

-- the storage has a spelling of the type of the script
pub storage_spelt : (c : List ℕ × Contract) (typed : Script) → IsSpeltContract c → script c.1.script ≡ found typed → HasSpelling typed.storage c.1.storage
storage_spelt c typed spelt e = subst (λ (a : Kind). HasSpelling a c.1.storage) (same_kind c spelt.4.0 typed spelt.4.1 e) spelt.4.2

-- ---- totals

reordered : (a c i m b e : Bool) → a ≡ true → a && c && i && m && b && e ≡ i && (m && b && e) && c
reordered a c i m b e h = ap (λ x. x && c && i && m && b && e) h ∙ by c
  where
    grouped : (i : Bool) → i && m && b && e ≡ i && (m && b && e)
    grouped true = refl
    grouped false = refl

    with_true : (x : Bool) → x ≡ x && true
    with_true true = refl
    with_true false = refl

    with_false : (x : Bool) → false ≡ x && false
    with_false true = refl
    with_false false = refl

    by : (c : Bool) → true && c && i && m && b && e ≡ i && (m && b && e) && c
    by true = grouped i ∙ with_true (i && (m && b && e))
    by false = with_false (i && (m && b && e))

pub whole_total : (s : State) (former : Option Identity) (t : Total) (n : ℕ) → pos n ≡ amount_there s t.identity
    → is_above identity_order former t.identity ≡ true
    → is_total s former t ≡ is_whole_total s.contracts n t
whole_total s former t n reckoned h =
    ap
    (λ x. is_above identity_order former t.identity && is_content t.identity && list_any (λ c. bytes_eq c.0 (hash_in t.identity.issuer)) s.contracts
    && is_ticket_amount t.minted && int_le (pos 0) t.burnt && int_eq x (t.minted -ℤ t.burnt)) (sym reckoned)
    ∙ reordered (is_above identity_order former t.identity) (is_content t.identity) (list_any (λ c. bytes_eq c.0 (hash_in t.identity.issuer)) s.contracts)
    (is_ticket_amount t.minted)
    (int_le (pos 0) t.burnt) (int_eq (pos n) (t.minted -ℤ t.burnt)) h

pub not_above : (s : State) (former : Option Identity) (t : Total) → is_above identity_order former t.identity ≡ false → is_total s former t ≡ false
not_above s former t h =
    ap
    (λ x. x && is_content t.identity && list_any (λ c. bytes_eq c.0 (hash_in t.identity.issuer)) s.contracts && is_ticket_amount t.minted
    && int_le (pos 0) t.burnt && int_eq (amount_there s t.identity) (t.minted -ℤ t.burnt)) h
