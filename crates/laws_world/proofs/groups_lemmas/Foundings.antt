-- Contracts that are made.
use Rattle.std.proofs.Common.{◌≡◌, ◌≢◌, ◌≤◌, ◌<◌, ◌+◌, ◌^◌, ℕ, suc, List, ◌∷◌, length, Bool, true, false, Some, None, refl, sym, ap, ◌∙◌, subst, ℤ, pos, ◌+ℤ◌, unwrap_or, option_map, arith, le_refl, take}
use Rattle.std.specs.Prelude.{nat_lt}
use Rattle.std.specs.declared.option.Option.{Option}
use Rattle.std.proofs.lemmas.Cmp.{nat_list_cmp_total}
use Rattle.std.proofs.lemmas.Int.{ints}
use Rattle.std.proofs.lemmas.Bool.{ltb-false}
use Rattle.std.proofs.lemmas.List.Elements.{All-head, All-tail}
use Rattle.std.proofs.lemmas.Map.Entries.{sum_by-insert_entry}
use Rattle.rules_text.specs.nodes.Limits.{most_mutez}
use Rattle.rules_text.specs.nodes.Tree.{Tree}
use Rattle.rules_data.specs.declared.gas.Kind.TheVariants as price
use Rattle.rules_data.specs.forms.Spelling.{implicit_place}
use Rattle.rules_data.specs.values.Val.{Val}
use Rattle.rules_data.specs.values.Tickets.{Identity}
use Rattle.rules_code.specs.instructions.Arguments.{Found, found, fault}
use Rattle.rules_code.specs.typing.Scripts.{Script}
use Rattle.rules_code.specs.typing.Nodes.{script}
use Rattle.rules_code.specs.steps.Changes.{amount_in, amount_among}
use Rattle.rules_code.specs.evaluation.Surroundings.{Contract}
use Rattle.rules_code.specs.evaluation.Operations.{origination, new_contract}
use Rattle.rules_world.specs.world.World.{World, contract_at, with_contract}
use Rattle.rules_world.specs.world.Contents.{Originate}
use Rattle.rules_world.specs.world.Balances.{supply, balance_or_none, with_less}
use Rattle.rules_world.specs.world.Holdings.{held}
use Rattle.rules_world.specs.world.Outcomes.{Setting, Waiting, ordered, issued, Counts}
use Rattle.rules_world.specs.world.Arguments.{literal_in}
use Rattle.rules_world.specs.world.Originations.{Founding, founded, founding_outcome, one_more, founding_of, with_storage, with_script, originated, unless_delegated, originated_by_contract}
use Rattle.rules_world.specs.world.Good.{Stores, IsGoodWaiting, amount_waiting}
use Rattle.laws_world.specs.operations.Fresh.{made_by_waiting, IsFresh}
use Rattle.laws_world.specs.runs.Going.{IsGoing, KeepsGoing, IsKept}
use Rattle.laws_world.proofs.accounts.ForCallers.{one_in, Extends, extends_trans, stores_more, all_waiting_more, InOrder, contract_balance, less_supply, literal_fits, literal_empty}
use Rattle.laws_world.proofs.runs.ForCallers.{less_moves, in_order, IsOrderly, none_elsewhere, extends_new, orderly_contract, held_contract, orderly_of, sound_again, minted_again, kept_then, keeps_charged}
use Rattle.laws_world.proofs.operations.ForCallers.{new_length, take_group, fresh_made, fresh_next}
use Rattle.laws_world.proofs.groups_lemmas.Growth.{growing_keeps}

-- ---- one that comes to be

-- the world after it
pub record IsFounded (w x : World) (hash : List ℕ) (storage : Val) : Type 0 where
  pub orderly : IsOrderly x
  pub more : Extends (contract_at w) (contract_at x)
  pub none : (q : List ℕ) → q ≢ hash → contract_at w q ≡ None → contract_at x q ≡ None
  pub log : x.log ≡ w.log
  pub granted : x.granted ≡ w.granted
  pub mutez : supply x ≡ supply w
  pub tickets : (id : Identity) → held x id ≡ held w id +ℤ amount_in id storage

new_supply : (w : World) (hash : List ℕ) (d : Contract) → InOrder w → contract_at w hash ≡ None →
    supply (with_contract w hash d) ≡ supply w + d.balance
new_supply w hash d order none =
    let set = sum_by-insert_entry contract_balance nat_list_cmp_total w.contracts hash d order.contracts in
    let old : unwrap_or (option_map contract_balance (contract_at w hash)) 0 ≡ 0 = ap
    (λ (o : Option Contract). unwrap_or (option_map contract_balance o) 0) none in
    omega (arith, set, old)

none_held : (a b c d : ℤ) → a +ℤ pos 0 ≡ b +ℤ c → b ≡ d → a ≡ d +ℤ c
none_held a b c d e f = omega (arith, ints, e, f)

founds : (w : World) (f : Founding) → IsOrderly w → f.balance ≤ balance_or_none w f.sender → length f.hash ≡ 20 →
    contract_at w f.hash ≡ None → Stores w f.script f.storage → IsFounded w (founded w f) f.hash f.storage
founds w f o enough twenty absent stores =
    let d : Contract = record { balance = f.balance; paid = 0; script = f.script; storage = f.storage } in
    let x = with_less w f.sender f.balance in
    let less = less_moves w f.sender f.balance o in
    let none = less.none f.hash absent in
    let more = extends_new x f.hash d none in
    record {
      orderly = orderly_contract x f.hash d less.orderly twenty more (stores_more w x less.more f.script f.storage stores);
      more = extends_trans (contract_at w) (contract_at x) (contract_at (with_contract x f.hash d)) less.more more;
      none = λ q other h. none_elsewhere x f.hash d q other (less.none q h);
      log = less.log;
      granted = less.granted;
      mutez = let before = less_supply w f.sender f.balance (in_order w o) enough in
          let after = new_supply x f.hash d (in_order x less.orderly) none in omega (arith, before, after);
      tickets = λ id. none_held (held (with_contract x f.hash d) id) (held x id) (amount_in id f.storage) (held w id)
          (ap (λ o. held (with_contract x f.hash d) id +ℤ one_in (λ (c : Contract). amount_in id c.storage) o) (sym none)
          ∙ held_contract x f.hash d id less.orderly) (less.held id);
    }

-- ---- by a contract

moved_in : (h a r b x : ℤ) → x ≡ h +ℤ a → h +ℤ (a +ℤ r) ≡ b → x +ℤ r ≡ b
moved_in h a r b x e g = omega (arith, ints, e, g)

module _ (start : World) (s : Setting) (contents : ℕ) (w : World) (waiting : List Waiting) (counts : Counts)
    (few : contents ≤ 1000) where
  -- the contract is one of the group
  kept_founded : (x y : World) (hash : List ℕ) (storage : Val) → (i : ℕ) × (hash ≡ new_contract s.group i) →
      IsFounded x y hash storage → IsKept s.group x y
  kept_founded x y hash storage new is = record {
    mutez = is.mutez;
    granted = is.granted;
    others = λ q other h. is.none q (λ same. other (ap (take 8) (same ∙ new.1) ∙ take_group s.group new.0)) h;
  }

  founded_later : (sender : List ℕ) (delegate : Option (List ℕ)) (amount : ℕ) (t : Tree) (storage : Val) (hash : List ℕ)
      (gas : ℕ) (b : Bool) →
      let f : Founding = record { sender = sender; hash = hash; balance = amount; script = t; storage = storage } in
      IsGoing start s.group contents w (issued sender (origination delegate amount t storage hash) ∷ waiting) counts →
      nat_lt (balance_or_none w sender) amount ≡ b →
      KeepsGoing start s contents waiting (founding_outcome b w f gas counts)
  founded_later sender delegate amount t storage hash gas true g e = tt
  founded_later sender delegate amount t storage hash gas false g e =
      let f : Founding = record { sender = sender; hash = hash; balance = amount; script = t; storage = storage } in
      let first = All-head (IsGoodWaiting w) (issued sender (origination delegate amount t storage hash)) waiting g.good.waits in
      let new = g.fresh.waiting.0 in
      let twenty : length hash ≡ 20 = ap length new.3 ∙ new_length s.group new.0 in
      let enough : amount ≤ balance_or_none w sender = ltb-false (balance_or_none w sender) amount e in
      let is = founds w f (orderly_of w g.good.sound) enough twenty g.fresh.absent.0 first.1.0 in
      record {
        good = record {
          sound = sound_again w (founded w f) g.good.sound is.orderly (minted_again w (founded w f) g.good.sound is.log) is.mutez;
          waits = all_waiting_more w (founded w f) is.more waiting
              (All-tail (IsGoodWaiting w) (issued sender (origination delegate amount t storage hash)) waiting g.good.waits);
          tickets = λ id. rw is.log (moved_in (held w id) (amount_in id storage) (amount_waiting id waiting) _
              (held (founded w f) id) (is.tickets id) (g.good.tickets id));
        };
        operations = g.operations;
        originations = g.originations;
        fresh = fresh_made s.group w (founded w f) counts.originations hash (made_by_waiting waiting)
            (let a = g.operations in let b = g.originations in omega arith) is.none g.fresh;
        kept = kept_then s.group start w (founded w f) g.kept (kept_founded w (founded w f) hash storage (new.0, new.3) is);
      }

  pub issued_origination_keeps : (sender : List ℕ) (delegate : Option (List ℕ)) (amount : ℕ) (t : Tree) (storage : Val)
      (hash : List ℕ) (gas : ℕ) →
      IsGoing start s.group contents w (issued sender (origination delegate amount t storage hash) ∷ waiting) counts →
      KeepsGoing start s contents waiting (originated_by_contract s w delegate
      (record { sender = sender; hash = hash; balance = amount; script = t; storage = storage }) gas counts)
  issued_origination_keeps sender delegate amount t storage hash gas g =
      keeps_charged start s contents waiting s.prices price.Origination gas _ (by delegate g)
    where
      by : (delegate : Option (List ℕ)) → IsGoing start s.group contents w
          (issued sender (origination delegate amount t storage hash) ∷ waiting) counts → (left : ℕ) →
          KeepsGoing start s contents waiting (unless_delegated s delegate w
          (record { sender = sender; hash = hash; balance = amount; script = t; storage = storage }) left counts)
      by (Some d) g left = tt
      by None g left = growing_keeps start s contents hash waiting _
          (founded_later sender None amount t storage hash left (nat_lt (balance_or_none w sender) amount) g refl)

  -- ---- by a content

  founded_now : (balance : ℕ) (t u : Tree) (storage : Val) (gas : ℕ) (b : Bool) →
      IsGoing start s.group contents w (ordered (Originate balance t u) ∷ waiting) counts → Stores w t storage →
      ((id : Identity) → amount_in id storage ≡ pos 0) → nat_lt (balance_or_none w (implicit_place s.source)) balance ≡ b →
      KeepsGoing start s contents waiting (founding_outcome b w (founding_of s counts balance t storage) gas (one_more counts))
  founded_now balance t u storage gas true g stores empty e = tt
  founded_now balance t u storage gas false g stores empty e =
      let f : Founding = founding_of s counts balance t storage in
      let enough : balance ≤ balance_or_none w (implicit_place s.source) = ltb-false
      (balance_or_none w (implicit_place s.source)) balance e in
      let small : counts.originations < 2 ^ 32 = let a = g.operations in let b = g.originations in omega arith in
      let is = founds w f (orderly_of w g.good.sound) enough (new_length s.group counts.originations)
      (g.fresh.later counts.originations (le_refl counts.originations) small) stores in
      record {
        good = record {
          sound = sound_again w (founded w f) g.good.sound is.orderly (minted_again w (founded w f) g.good.sound is.log) is.mutez;
          waits = all_waiting_more w (founded w f) is.more waiting
              (All-tail (IsGoodWaiting w) (ordered (Originate balance t u)) waiting g.good.waits);
          tickets = λ id. rw is.log (none_in (held w id) (amount_in id storage) (amount_waiting id waiting) _
              (held (founded w f) id) (is.tickets id) (empty id) (g.good.tickets id));
        };
        operations = g.operations;
        originations = let b = g.originations in omega arith;
        fresh = fresh_next_one (founded w f) (fresh_next s.group w (founded w f) counts.originations
            (made_by_waiting waiting) small is.none g.fresh);
        kept = kept_then s.group start w (founded w f) g.kept
            (kept_founded w (founded w f) (new_contract s.group counts.originations) storage (counts.originations, refl) is);
      }
    where
      none_in : (h a r b x : ℤ) → x ≡ h +ℤ a → a ≡ pos 0 → h +ℤ r ≡ b → x +ℤ r ≡ b
      none_in h a r b x e f g = omega (arith, ints, e, f, g)

      fresh_next_one : (x : World) → IsFresh s.group (suc counts.originations) x (made_by_waiting waiting) →
          IsFresh s.group (counts.originations + 1) x (made_by_waiting waiting)
      fresh_next_one x h = let e : suc counts.originations ≡ counts.originations + 1 = omega arith in
          subst (λ n. IsFresh s.group n x (made_by_waiting waiting)) e h

  pub ordered_origination_keeps : (balance : ℕ) (t u : Tree) (gas : ℕ) →
      IsGoing start s.group contents w (ordered (Originate balance t u) ∷ waiting) counts →
      KeepsGoing start s contents waiting (originated s w balance t u gas counts)
  ordered_origination_keeps balance t u gas g = keeps_charged start s contents waiting s.prices price.Origination gas _
      (λ left. by_script left (script t) refl)
    where
      action : (balance ≤ most_mutez) × Rattle.rules_world.specs.world.Forms.IsSmall t × Rattle.rules_world.specs.world.Forms.IsSmall u
      action = All-head (IsGoodWaiting w) (ordered (Originate balance t u)) waiting g.good.waits

      by_storage : (left : ℕ) (accepted : Script) → script t ≡ found accepted → (o : Found Val) →
          literal_in w accepted.storage u ≡ o → KeepsGoing start s contents waiting (with_storage o s w balance t left counts)
      by_storage left accepted is (found x) e =
          growing_keeps start s contents (new_contract s.group counts.originations) waiting _
          (founded_now balance t u x left (nat_lt (balance_or_none w (implicit_place s.source)) balance) g
          (accepted, is, action.1, literal_fits w accepted.storage u x e action.2)
          (λ id. ap (amount_among id) (literal_empty w accepted.storage u x e)) refl)
      by_storage left accepted is (fault l) e = tt

      by_script : (left : ℕ) (o : Found Script) → script t ≡ o →
          KeepsGoing start s contents waiting (with_script o s w balance t u left counts)
      by_script left (found accepted) is = by_storage left accepted is (literal_in w accepted.storage u) refl
      by_script left (fault l) is = tt
