-- Worlds before and between groups.
use Rattle.std.proofs.Common.{◌≡◌, ◌≢◌, ◌≤◌, ◌+◌, ◌<◌, ◌^◌, ℕ, List, [], ◌∷◌, take, Bool, true, false, cond, Some, None, refl, sym, ap, ◌∙◌, subst, ℤ, pos, ◌+ℤ◌, arith, is_some}
use Rattle.std.specs.Prelude.{if◌then◌else◌, nat_le}
use Rattle.std.specs.declared.option.Option.{Option}
use Rattle.std.specs.Int.{w64, to_be_bytes, from_be_bytes}
use Rattle.std.specs.Ordering.{nat_cmp}
use Rattle.std.specs.Cmp.Lexicographic.{slice_cmp}
use Rattle.std.specs.BTreeMap.{is_at}
use Rattle.std.specs.Map.{lookup}
use Rattle.std.specs.List.{All}
use Rattle.std.proofs.lemmas.Bool.{leb-true}
use Rattle.std.proofs.lemmas.Int.{ints}
use Rattle.std.proofs.lemmas.Nat.{from_be_bytes-to_be_bytes_8}
use Rattle.std.proofs.lemmas.List.Elements.{All-nil, All-cons, All-weaker}
use Rattle.rules_text.specs.nodes.Limits.{most_mutez}
use Rattle.rules_data.specs.forms.Spelling.{is_chain_id, is_key_hash}
use Rattle.rules_code.specs.evaluation.Surroundings.{Contract}
use Rattle.rules_world.specs.world.World.{World, new_world, account_at, contract_at}
use Rattle.rules_world.specs.world.Balances.{supply, Granted, Repeated, TooMuch, endowed, granted_to}
use Rattle.rules_world.specs.world.Forms.{IsAccount, IsTwentyBytes, IsChange, is_moment}
use Rattle.rules_world.specs.world.Good.{IsGood, IsGoodContract, IsGoodWaiting, IsNewGroup}
use Rattle.laws_world.specs.runs.Going.{IsOther, IsKept}
use Rattle.laws_world.specs.runs.Worlds.{IsWhole, NewWorldsAreGood, GrantsKeepGood, GroupsKeepWhole}
use Rattle.laws_world.proofs.accounts.ForCallers.{all_found, grants_add_mutez}
use Rattle.laws_world.proofs.groups_lemmas.Groups.{group_kept}
use Rattle.laws_world.proofs.runs.ForCallers.{account_balance, orderly_of, sorted_nothing, found_same, at_itself}

-- ---- new worlds

new_good : (chain : List ℕ) (level : ℕ) (moment : ℤ) → is_chain_id chain ≡ true → level < 2 ^ 32 → is_moment moment ≡ true →
    IsGood (new_world chain level moment) []
new_good chain level moment c l m = record {
  sound = record {
    form = record {
      chain = c;
      level = l;
      moment = m;
      accounts = All-nil IsAccount;
      accounts_in_order = sorted_nothing (slice_cmp nat_cmp);
      contracts = All-nil IsTwentyBytes;
      contracts_in_order = sorted_nothing (slice_cmp nat_cmp);
      log = All-nil IsChange;
    };
    contracts = All-nil (IsGoodContract (new_world chain level moment));
    minted = λ id. omega (arith, ints);
    mutez = omega arith;
  };
  waits = All-nil (IsGoodWaiting (new_world chain level moment));
  tickets = λ id. refl;
}

pub new_worlds_are_good : NewWorldsAreGood
new_worlds_are_good chain level moment c l m = (
  record { good = new_good chain level moment c l m; mutez = refl },
  λ number. All-nil
      (λ c. ¬ (take 8 c.0 ≡ to_be_bytes w64 number)),
)

-- ---- grants

module _ (w : World) (who : List ℕ) (mutez : ℕ) (key : is_key_hash who ≡ true) (whole : IsWhole w) where
  endowed_whole : supply (endowed w who mutez) ≡ supply w + mutez → w.granted + mutez ≤ most_mutez → IsWhole (endowed w who mutez)
  endowed_whole added most =
      let m = account_balance w who mutez (orderly_of w whole.good.sound) key in
      let all = whole.mutez in
      record {
        good = record {
          sound = record {
            form = record {
              chain = m.orderly.form.chain;
              level = m.orderly.form.level;
              moment = m.orderly.form.moment;
              accounts = m.orderly.form.accounts;
              accounts_in_order = m.orderly.form.accounts_in_order;
              contracts = m.orderly.form.contracts;
              contracts_in_order = m.orderly.form.contracts_in_order;
              log = m.orderly.form.log;
            };
            contracts = m.orderly.contracts;
            minted = whole.good.sound.minted;
            mutez = omega (arith, added, all, most);
          };
          waits = All-nil (IsGoodWaiting (endowed w who mutez));
          tickets = λ id. ap (λ z. z +ℤ pos 0) (m.held id) ∙ whole.good.tickets id;
        };
        mutez = omega (arith, added, all);
      }

  granted_whole : (v : World) (there small : Bool) → nat_le (w.granted + mutez) most_mutez ≡ small →
      granted_to w who mutez ≡ Granted v →
      (if there then Repeated else if small then Granted (endowed w who mutez) else TooMuch) ≡ Granted v →
      IsWhole v × ((number : ℕ) → IsNewGroup number w → IsNewGroup number v)
  granted_whole v true small e h g = absurd cc
  granted_whole v false true e h g =
      let same : endowed w who mutez ≡ v = cc in
      let added : supply (endowed w who mutez) ≡ supply w + mutez = ap supply same
      ∙ grants_add_mutez w v who mutez whole.good h in
      subst (λ v. IsWhole v × ((number : ℕ) → IsNewGroup number w → IsNewGroup number v)) same
      (endowed_whole added (leb-true (w.granted + mutez) most_mutez e), λ number new. new)
  granted_whole v false false e h g = absurd cc

pub grants_keep_good : GrantsKeepGood
grants_keep_good w v who mutez key whole h =
    granted_whole w who mutez key whole v (is_some (account_at w who)) (nat_le (w.granted + mutez) most_mutez) refl h h

-- ---- groups

-- each entry is found by its key
entries_there : (es : List (List ℕ × Contract)) → All (λ e. is_some (lookup (is_at (slice_cmp nat_cmp e.0)) es) ≡ true) es
entries_there [] = All-nil _
entries_there (e ∷ es) =
    All-cons (λ f. is_some (lookup (is_at (slice_cmp nat_cmp f.0)) (e ∷ es)) ≡ true) e es
    (first (is_at (slice_cmp nat_cmp e.0) e.0) (at_itself e.0))
    (All-weaker (λ f. is_some (lookup (is_at (slice_cmp nat_cmp f.0)) es) ≡ true)
    (λ f. is_some (lookup (is_at (slice_cmp nat_cmp f.0)) (e ∷ es)) ≡ true)
    (λ f h. later (is_at (slice_cmp nat_cmp f.0) e.0) (lookup (is_at (slice_cmp nat_cmp f.0)) es) h) es (entries_there es))
  where
    first : (b : Bool) → b ≡ true → is_some (cond b (Some e.1) (lookup (is_at (slice_cmp nat_cmp e.0)) es)) ≡ true
    first true h = refl
    first false h = cc

    later : (b : Bool) (o : Option Contract) → is_some o ≡ true → is_some (cond b (Some e.1) o) ≡ true
    later true o h = refl
    later false o h = h

-- a group of a number has made no contract that begins with it
none_made : (number : ℕ) (w : World) (hash : List ℕ) → IsNewGroup number w → take 8 hash ≡ to_be_bytes w64 number →
    contract_at w hash ≡ None
none_made number w hash new begins = by (contract_at w hash) refl
  where
    by : (c : Option Contract) → contract_at w hash ≡ c → c ≡ None
    by None e = refl
    by (Some c) e =
        let f = all_found (is_at (slice_cmp nat_cmp hash)) (λ c. ¬ (take 8 c.0 ≡ to_be_bytes w64 number)) w.contracts c new e in
        absurd (f.1 (ap (take 8) (sym (found_same hash f.0 f.2)) ∙ begins))

bytes_apart : (m n : ℕ) → m < 2 ^ 64 → n < 2 ^ 64 → to_be_bytes w64 m ≡ to_be_bytes w64 n → m ≡ n
bytes_apart m n h g e = sym (from_be_bytes-to_be_bytes_8 m h) ∙ ap (from_be_bytes w64) e ∙ from_be_bytes-to_be_bytes_8 n g

others_new : (number other : ℕ) (w x : World) → number < 2 ^ 64 → other < 2 ^ 64 → other ≢ number → IsKept number w x →
    IsNewGroup other w → IsNewGroup other x
others_new number other w x small small_too apart kept new =
    All-weaker (λ e. is_some (contract_at x e.0) ≡ true) (λ c. ¬ (take 8 c.0 ≡ to_be_bytes w64 other))
    (λ c there begins. by c.0 there begins) x.contracts (entries_there x.contracts)
  where
    by : (hash : List ℕ) → is_some (contract_at x hash) ≡ true → take 8 hash ≡ to_be_bytes w64 other → ⊥
    by hash there begins =
        let foreign : IsOther number hash = λ own. apart (bytes_apart other number small_too small (sym begins ∙ own)) in
        let none : contract_at x hash ≡ None = kept.others hash foreign (none_made other w hash new begins) in
        let clash : true ≡ false = sym there ∙ ap is_some none in
        cc

pub groups_keep_whole : GroupsKeepWhole
groups_keep_whole prices number source contents w settled g e all =
    let k = group_kept prices number source contents w g settled e in (
      record { good = k.0; mutez = k.1.mutez ∙ all ∙ sym k.1.granted },
      λ other small apart new. others_new number other w settled.world g.small small apart k.1 new,
    )
