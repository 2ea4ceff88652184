-- Each content makes lists longer by no more items than the most gas that it may have.
use Rattle.std.proofs.Common.{◌≡◌, ◌≤◌, ◌<◌, ◌+◌, ◌-◌, ◌*◌, ◌^◌, ℕ, zero, suc, true, false, List, [], ◌∷◌, length, Option, Some, None, refl, arith}
use Rattle.std.specs.Prelude.{unsigned_abs}
use Rattle.std.specs.List.{All, list_any}
use Rattle.std.proofs.lemmas.List.Elements.{All-head, All-tail}
use Rattle.std.proofs.lemmas.Bool.{or_parts}
use Rattle.rules_text.specs.nodes.Limits.{byte_limit, most_gas}
use Rattle.rules_text.specs.nodes.Tree.{size}
use Rattle.rules_data.specs.forms.Spelling.{implicit_place, is_key_hash, is_contract}
use Rattle.rules_data.specs.gas.Prices.{Listed}
use Rattle.rules_world.specs.world.Contents.{Action, Originate, Call, Give, Content}
use Rattle.rules_world.specs.world.Forms.{IsAction, IsContent}
use Rattle.rules_world.specs.world.Groups.{all_fees, is_over_gas, refusal_of, Turn, all_applied, one_failed, stuck_turn, behind_applied, with_tree, in_turn, Settled, fees_taken, settled_by, setting_of, unless_refused, group}
use Rattle.rules_world.specs.world.Outcomes.{Setting, ordered, Counts, no_counts}
use Rattle.rules_world.specs.world.Receipts.{Status, GroupFault}
use Rattle.rules_world.specs.world.Trees.{Walk, completed, broken_off, stuck_walk, tree}
use Rattle.rules_world.specs.world.World.{World}
use Rattle.laws_code.specs.evaluation.Laws.{IsCharged}
use Rattle.laws_data.proofs.forms_lemmas.Places.{key_hash_length, contract_length}
use Rattle.laws_commands.proofs.reached_lemmas.Worlds.{WorldWithin, more_world, fee_within, ActionWithin}
use Rattle.laws_commands.proofs.reached_lemmas.Operations.{WalkWithin, walk_within}
use Rattle.laws_commands.proofs.written_lemmas.worlds.Groups.{within_gas, few_gas}
use Rattle.laws_commands.proofs.common.Numbers.{rises}

-- how many items lists may have behind so many contents
abbrev pub spare : ℕ → ℕ
spare zero = 2 ^ 32
spare (suc k) = spare k + most_gas

least_spare : (k : ℕ) → 2 ^ 32 ≤ spare k
least_spare zero = omega arith
least_spare (suc k) = let h : 2 ^ 32 ≤ spare k = least_spare k in omega (arith, h)

pub spare_rises : (k l : ℕ) → k ≤ l → spare k ≤ spare l
spare_rises zero l le = least_spare l
spare_rises (suc k) zero le = absurd (omega (arith, le))
spare_rises (suc k) (suc l) le = let h : spare k ≤ spare l = spare_rises k l (omega (arith, le)) in omega (arith, h)

pub spare_is : (k : ℕ) → spare k ≤ 2 ^ 32 + k * 10000000000
spare_is zero = omega arith
spare_is (suc k) = let h : spare k ≤ 2 ^ 32 + k * 10000000000 = spare_is k in omega (arith, h)

small_in : (a n : ℕ) → a < 2 ^ 32 → 2 ^ 32 ≤ n → a ≤ n
small_in a n h g = omega (arith, h, g)

issuer_small : (a n : ℕ) → a ≤ 22 → 2 ^ 32 ≤ n → a ≤ n
issuer_small a n h g = omega (arith, h, g)

contract_few : (b : List ℕ) → is_contract b ≡ true → length b ≤ 22
contract_few b h = let e = contract_length b h in omega (arith, e)

action_within : (n : ℕ) (a : Action) → 2 ^ 32 ≤ n → IsAction a → ActionWithin n a
action_within n (Originate balance script storage) big h = (small_in (size script) n h.1 big, small_in (size storage) n h.2 big)
action_within n (Call amount destination entrypoint argument) big h = small_in (size argument) n h.2 big
action_within n (Give issuer kind content amount destination entrypoint) big h =
    (issuer_small (length issuer) n (contract_few issuer h.0) big, small_in (size content) n h.3 big)

kept_room : (n g : ℕ) → n ≤ (n + g) - g
kept_room n g = omega arith

big_room : (n g : ℕ) → 2 ^ 32 ≤ n → byte_limit + g ≤ n + g
big_room n g h = omega (arith, h)

module _ (s : Setting) (prices : IsCharged s.prices) (key : length s.source ≤ 21) where
  abbrev TurnWithin : ℕ → Turn → Type 0
  TurnWithin n (all_applied w statuses) = WorldWithin n w
  TurnWithin n (one_failed statuses) = Unit {0}
  TurnWithin n stuck_turn = Unit {0}

  status_within : (n : ℕ) (status : Status) (t : Turn) → TurnWithin n t → TurnWithin n (behind_applied status t)
  status_within n status (all_applied w statuses) h = h
  status_within n status (one_failed statuses) h = tt
  status_within n status stuck_turn h = tt

  tree_within : (n g k j : ℕ) (t : Walk) (rest : List Content) (again : World → Counts → Turn) → g ≤ most_gas → n ≡ spare k →
      WalkWithin (n + g) s prices key g t →
      ((x : World) (counts : Counts) → WorldWithin (spare (suc k)) x → TurnWithin (spare j) (again x counts)) →
      TurnWithin (spare j) (with_tree g t rest again)
  tree_within n g k j (completed last) rest again few same h f =
      status_within (spare j) _ (again last.world last.counts)
      (f last.world last.counts (more_world ((n + g) - last.gas) (spare (suc k)) last.world (omega (arith, few, same)) h.1))
  tree_within n g k j (broken_off count failure) rest again few same h f = tt
  tree_within n g k j stuck_walk rest again few same h f = tt

  turn_within : (cs : List Content) (k j : ℕ) (w : World) (counts : Counts) → k + length cs ≤ j → All IsContent cs →
      list_any is_over_gas cs ≡ false → WorldWithin (spare k) w →
      TurnWithin (spare j) (in_turn s cs w counts)
  turn_within [] k j w counts le all over p = more_world (spare k) (spare j) w (spare_rises k j (omega (arith, le))) p
  turn_within (c ∷ cs) k j w counts le all over p =
      let no = or_parts (is_over_gas c) (list_any is_over_gas cs) over in
      let content = All-head IsContent c cs all in
      let g = unsigned_abs c.gas in
      let kept = kept_room (spare k) g in
      tree_within (spare k) g k j (tree s w (ordered c.action ∷ []) g counts) cs (in_turn s cs) (few_gas c content.1 no.0) refl
      (walk_within (spare k + g) s prices key g w (ordered c.action ∷ []) g counts (big_room (spare k) g (least_spare k)) (more_world
      (spare k) ((spare k + g) - g) w kept p)
      (action_within ((spare k + g) - g) c.action (rises (2 ^ 32) (spare k) ((spare k + g) - g) (least_spare k) kept) content.2, tt))
      (λ x counts h. turn_within cs (suc k) j x counts (omega (arith, le)) (All-tail IsContent c cs all) no.1 h)

-- ---- groups

abbrev pub SettledWithin : ℕ → Option Settled → Type 0
SettledWithin n (Some settled) = WorldWithin n settled.world
SettledWithin n None = Unit {0}

hash_few : (b : List ℕ) → is_key_hash b ≡ true → length b ≤ 21
hash_few b h = let e = key_hash_length b h in omega (arith, e)

pub group_within : (prices : Listed) (number : ℕ) (source : List ℕ) (cs : List Content) (w : World) (k j : ℕ) → IsCharged prices →
    is_key_hash source ≡ true → All IsContent cs →
    k + length cs ≤ j → WorldWithin (spare k) w → SettledWithin (spare j) (group prices number source cs w)
group_within prices number source cs w k j charged key all le p = by (refusal_of w source cs) refl
  where
    s : Setting
    s = setting_of prices number source

    later : (x : World) → WorldWithin (spare k) x → WorldWithin (spare j) x
    later x q = more_world (spare k) (spare j) x (spare_rises k j (omega (arith, le))) q

    less : WorldWithin (spare k) (fees_taken w source cs)
    less = fee_within (spare k) w (implicit_place source) (all_fees cs) p

    settled : (t : Turn) → TurnWithin s charged (hash_few source key) (spare j) t →
        SettledWithin (spare j) (settled_by (fees_taken w source cs) t)
    settled (all_applied x statuses) h = h
    settled (one_failed statuses) h = later (fees_taken w source cs) less
    settled stuck_turn h = tt

    by : (o : Option GroupFault) → refusal_of w source cs ≡ o → SettledWithin (spare j) (unless_refused o prices number source cs w)
    by (Some fault) e = later w p
    by None e =
        settled (in_turn s cs (fees_taken w source cs) no_counts)
        (turn_within s charged (hash_few source key) cs k j (fees_taken w source cs) no_counts le all (within_gas w source cs e) less)
