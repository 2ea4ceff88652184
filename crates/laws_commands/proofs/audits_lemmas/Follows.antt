-- The lines that are told follow one another.
use Rattle.std.proofs.Common.{◌≡◌, ◌≤◌, ◌+◌, ◌==◌, ℕ, Bool, true, false, not, Option, Some, None, is_some, ◌||◌, List, [], ◌∷◌, ◌++◌, map, length, refl, ap, ◌∙◌, subst, arith}
use Rattle.std.specs.Prelude.{ℤ, reverse, nat_le}
use Rattle.std.specs.List.{AllByRecursion, list_all}
use Rattle.std.specs.declared.cmp.Ordering.TheVariants.{Less, Equal, Greater}
use Rattle.std.specs.Ordering.{is_eq, ordering_reverse, match_ordering}
use Rattle.std.specs.declared.cmp.Ordering.{Ordering}
use Rattle.std.specs.List.Sorted.{IsStrictlySortedBy}
use Rattle.std.specs.Map.{keys_of}
use Rattle.std.proofs.lemmas.Bool.{and_from, and_parts}
use Rattle.std.proofs.lemmas.Bool.Decides.{nat_tests, Decides-eqb}
use Rattle.std.proofs.lemmas.List.{reverse-append}
use Rattle.rules_data.specs.values.Val.{is_comparable}
use Rattle.rules_data.specs.values.Tickets.{Identity}
use Rattle.rules_code.specs.evaluation.Surroundings.{Contract}
use Rattle.rules_code.specs.steps.Changes.{Change, minted, burnt}
use Rattle.rules_code.specs.steps.Changes as changes
use Rattle.rules_world.specs.world.Balances.{supply}
use Rattle.rules_world.specs.world.Receipts.{Receipt}
use Rattle.rules_world.specs.world.World.{World, Account, identity_order}
use Rattle.rules_world.specs.world.Holdings.{identities, with_identity, minted_ever}
use Rattle.rules_audit.specs.Fields.{Part}
use Rattle.rules_audit.specs.Form.{same_identity, last_rank, has_fourth, is_of}
use Rattle.rules_audit.specs.Lines.{Line}
use Rattle.rules_audit.specs.Lines as lines
use Rattle.laws_world.proofs.accounts.ForCallers.{alike_equal, identity_total}
use Rattle.laws_world.proofs.lines_lemmas.ForCallers.{told_in_order}
use Rattle.laws_commands.specs.audits.ToldLines.{identity_of, group_lines, account_line, contract_line, ticket_line, burn_lines, end_lines, told_lines}
use Rattle.laws_commands.specs.audits.Written.{CanAllFollow}
use Rattle.laws_commands.specs.audits.Follows.{ticket_in, IsPlain, AreApart, ToldTicketsAreApart, ToldLinesFollow}
use Rattle.laws_commands.proofs.audits_lemmas.Identities.{nodes_tell}

-- ---- lines before others

le_true : (a b : ℕ) → a ≤ b → nat_le a b ≡ true
le_true a b h = grind (arith, nat_tests)

-- contracts of them have a fourth argument all, or none has
abbrev AreRated : Bool → List Line → Type 0
AreRated rated before = list_all (has_fourth rated) before ≡ true

-- none of them is of the ticket
abbrev IsNotIn : List Line → Identity → Type 0
IsNotIn before id = list_all (λ l. not (is_of (identity_of id) l)) before ≡ true

module _ (w : World) (rated : Bool) (ls : List Line) where
  -- lines of other kinds leave that so, and so does a contract that is told alike
  other_rated : (l : Line) (before : List Line) → ((b : Bool) → has_fourth b l ≡ true) → AreRated rated before → AreRated rated (l ∷ before)
  other_rated l before h f = and_from (has_fourth rated l) (list_all (has_fourth rated) before) (h rated) f

  group_rated : (n : ℤ) (ps : List Part) (before : List Line) → AreRated rated before → AreRated rated (lines.group n ps ∷ before)
  group_rated n ps before f = other_rated (lines.group n ps) before (λ b. by b) f
    where
      by : (b : Bool) → has_fourth b (lines.group n ps) ≡ true
      by true = refl
      by false = refl

  account_rated : (x : List ℕ × Account) (before : List Line) → AreRated rated before → AreRated rated (account_line x ∷ before)
  account_rated x before f = other_rated (account_line x) before (λ b. by b) f
    where
      by : (b : Bool) → has_fourth b (account_line x) ≡ true
      by true = refl
      by false = refl

  contract_rated : (x : List ℕ × Contract) (before : List Line) → AreRated rated before → AreRated rated (contract_line rated x ∷ before)
  contract_rated x before f = and_from (has_fourth rated (contract_line rated x)) (list_all (has_fourth rated) before) (by rated) f
    where
      by : (b : Bool) → has_fourth b (contract_line b x) ≡ true
      by true = refl
      by false = refl

  ticket_rated : (id : Identity) (before : List Line) → AreRated rated before → AreRated rated (ticket_line w id ∷ before)
  ticket_rated id before f = other_rated (ticket_line w id) before (λ b. by b) f
    where
      by : (b : Bool) → has_fourth b (ticket_line w id) ≡ true
      by true = refl
      by false = refl

  groups_follow : (rs : List Receipt) (n : ℕ) (before : List Line) → n ≡ length before + 1 → last_rank before ≤ 1 → AreRated rated before → ((id : Identity) → IsNotIn before id) →
      ((b : List Line) → last_rank b ≤ 1 → AreRated rated b → ((id : Identity) → IsNotIn b id) → CanAllFollow b ls) → CanAllFollow before (group_lines n rs ++ ls)
  groups_follow [] n before e r f t k = k before r f t
  groups_follow (x ∷ rs) n before e r f t k = (
    and_from (nat_le (last_rank before) 1) (n == length before + 1) (le_true (last_rank before) 1 r) ((Decides-eqb n (length before + 1)).1 e),
    groups_follow rs (n + 1) _ (ap (λ m. m + 1) (e ∙ omega arith)) (omega arith) (group_rated _ _ before f) t k,
  )

  accounts_follow : (xs : List (List ℕ × Account)) (before : List Line) → last_rank before ≤ 2 → AreRated rated before → ((id : Identity) → IsNotIn before id) →
      ((b : List Line) → last_rank b ≤ 2 → AreRated rated b → ((id : Identity) → IsNotIn b id) → CanAllFollow b ls) → CanAllFollow before (map account_line xs ++ ls)
  accounts_follow [] before r f t k = k before r f t
  accounts_follow (x ∷ xs) before r f t k = (le_true (last_rank before) 2 r, accounts_follow xs (account_line x ∷ before) (omega arith) (account_rated x before f) t k)

  contracts_follow : (xs : List (List ℕ × Contract)) (before : List Line) → last_rank before ≤ 3 → AreRated rated before → ((id : Identity) → IsNotIn before id) →
      ((b : List Line) → last_rank b ≤ 3 → AreRated rated b → ((id : Identity) → IsNotIn b id) → CanAllFollow b ls) → CanAllFollow before (map (contract_line rated) xs ++ ls)
  contracts_follow [] before r f t k = k before r f t
  contracts_follow (x ∷ xs) before r f t k = (
    and_from (nat_le (last_rank before) 3) (list_all (has_fourth rated) before) (le_true (last_rank before) 3 r) f,
    contracts_follow xs (contract_line rated x ∷ before) (omega arith) (contract_rated x before f) t k,
  )

  still : (i : Identity) (is : List Identity) (before : List Line) → list_all (λ j. not (same_identity j (identity_of i))) (map identity_of is) ≡ true →
      AllByRecursion (IsNotIn before) is → AllByRecursion (IsNotIn (ticket_line w i ∷ before)) is
  still i [] before h g = tt
  still i (j ∷ is) before h g =
      let hs = and_parts (not (same_identity (identity_of j) (identity_of i))) (list_all (λ j. not (same_identity j (identity_of i))) (map identity_of is)) h in
      (and_from (not (same_identity (identity_of j) (identity_of i))) (list_all (λ l. not (is_of (identity_of j) l)) before) hs.0 g.0, still i is before hs.1 g.1)

  tickets_follow : (ids : List Identity) (before : List Line) → last_rank before ≤ 4 → AreRated rated before → AllByRecursion (IsNotIn before) ids → AreApart (map identity_of ids) →
      ((b : List Line) → last_rank b ≤ 4 → AreRated rated b → CanAllFollow b ls) → CanAllFollow before (map (ticket_line w) ids ++ ls)
  tickets_follow [] before r f t d k = k before r f
  tickets_follow (id ∷ ids) before r f t d k = (
    and_from (nat_le (last_rank before) 4) (list_all (λ l. not (is_of (identity_of id) l)) before) (le_true (last_rank before) 4 r) t.0,
    tickets_follow ids (ticket_line w id ∷ before) (omega arith) (ticket_rated id before f) (still id ids before d.0 t.1) d.1 k,
  )

each_not : (before : List Line) (ids : List Identity) → ((id : Identity) → IsNotIn before id) → AllByRecursion (IsNotIn before) ids
each_not before [] h = tt
each_not before (id ∷ ids) h = (h id, each_not before ids h)

end_follows : (w : World) (b : List Line) → last_rank b ≤ 4 → AreRated (is_some w.rate) b → CanAllFollow b (end_lines w)
end_follows w b r f = by w.rate f
  where
    by : (rate : Option ℕ) → AreRated (is_some rate) b → CanAllFollow b (lines.fees w.fees ∷ (burn_lines rate w.storage_burn ++ lines.supply (supply w) ∷ []))
    by (Some rate) f = (le_true (last_rank b) 4 r, (f, (refl, tt)))
    by None f = (le_true (last_rank b) 4 r, (ap (λ t. t || false) f, tt))

all_follow : (rs : List Receipt) (w : World) → AreApart (map identity_of (identities w.log)) → CanAllFollow [] (told_lines rs w)
all_follow rs w d =
    groups_follow w (is_some w.rate) _ rs 1 [] (omega arith) (omega arith) refl (λ id. refl) (λ b r f t.
    accounts_follow w (is_some w.rate) _ w.accounts b (omega (arith, r)) f t (λ b r f t.
    contracts_follow w (is_some w.rate) _ w.contracts b (omega (arith, r)) f t (λ b r f t.
    tickets_follow w (is_some w.rate) _ (identities w.log) b (omega (arith, r)) f (each_not b (identities w.log) t) d (end_follows w))))

-- ---- the last line

ends_with : (xs ys : List Line) (m : Line) (ms : List Line) → reverse ys ≡ m ∷ ms → reverse (xs ++ ys) ≡ m ∷ (ms ++ reverse xs)
ends_with xs ys m ms e = reverse-append xs ys ∙ ap (λ l. l ++ reverse xs) e

-- the lines before the supply, last first
before_supply : World → Option ℕ → List Line
before_supply w (Some rate) = lines.storage_burn w.storage_burn ∷ lines.fees w.fees ∷ []
before_supply w None = lines.fees w.fees ∷ []

supply_ends : (w : World) → reverse (end_lines w) ≡ lines.supply (supply w) ∷ before_supply w w.rate
unfolding before_supply
supply_ends w = by w.rate
  where
    by : (rate : Option ℕ) → reverse (lines.fees w.fees ∷ (burn_lines rate w.storage_burn ++ lines.supply (supply w) ∷ [])) ≡ lines.supply (supply w) ∷ before_supply w rate
    by (Some rate) = refl
    by None = refl

supply_last : (rs : List Receipt) (w : World) → last_rank (reverse (told_lines rs w)) ≡ 7
supply_last rs w =
    ap last_rank
    (ends_with (group_lines 1 rs) _ _ _
    (ends_with (map account_line w.accounts) _ _ _
    (ends_with (map (contract_line (is_some w.rate)) w.contracts) _ _ _ (ends_with (map (ticket_line w) (identities w.log)) (end_lines w) _ _ (supply_ends w)))))

pub lines_follow : ToldLinesFollow
lines_follow rs w d = (all_follow rs w d, supply_last rs w)

-- ---- tickets apart

pub head_below : (i : Identity) (is : List Identity) → IsStrictlySortedBy identity_order (i ∷ is) → AllByRecursion (λ j. identity_order i j ≡ Less) is
unfolding IsStrictlySortedBy
head_below i is h = h.0

pub tail_sorted : (i : Identity) (is : List Identity) → IsStrictlySortedBy identity_order (i ∷ is) → IsStrictlySortedBy identity_order is
unfolding IsStrictlySortedBy
tail_sorted i is h = h.1

abbrev pub ArePlain : List Identity → Type 0
ArePlain is = AllByRecursion (λ i. is_comparable i.content ≡ true) is

apart_from : (i : Identity) (is : List Identity) → is_comparable i.content ≡ true → ArePlain is → AllByRecursion (λ j. identity_order i j ≡ Less) is →
    list_all (λ j. not (same_identity j (identity_of i))) (map identity_of is) ≡ true
apart_from i [] c p h = refl
apart_from i (j ∷ is) c p h =
    let above : identity_order j i ≡ Greater = identity_total.antisymm j i ∙ ap ordering_reverse h.0 in
    let no : same_identity (identity_of j) (identity_of i) ≡ false = nodes_tell j i p.0 c ∙ alike_equal j i ∙ ap is_eq above in
    and_from (not (same_identity (identity_of j) (identity_of i))) _ (ap not no) (apart_from i is c p.1 h.1)

all_apart : (is : List Identity) → IsStrictlySortedBy identity_order is → ArePlain is → AreApart (map identity_of is)
all_apart [] s p = tt
all_apart (i ∷ is) s p = (apart_from i is p.0 p.1 (head_below i is s), all_apart is (tail_sorted i is s) p.1)

with_plain : (i : Identity) (is : List Identity) → is_comparable i.content ≡ true → ArePlain is → ArePlain (with_identity i is)
with_plain i [] c p = (c, tt)
with_plain i (j ∷ is) c p = by (identity_order i j) (with_plain i is c p.1)
  where
    by : (o : Ordering) → ArePlain (with_identity i is) → ArePlain (match_ordering o (i ∷ j ∷ is) (j ∷ is) (j ∷ with_identity i is))
    by Less h = (c, p)
    by Equal h = p
    by Greater h = (p.0, h)

pub identities_plain : (cs : List Change) → AllByRecursion (λ c. IsPlain (ticket_in c)) cs → ArePlain (identities cs)
identities_plain [] h = tt
identities_plain (minted t ∷ cs) h = with_plain (changes.identity_of t) (identities cs) h.0 (identities_plain cs h.1)
identities_plain (burnt t ∷ cs) h = identities_plain cs h.1

keys_told : (w : World) (is : List Identity) → keys_of (map (λ j. (j, minted_ever w j)) is) ≡ is
keys_told w [] = refl
keys_told w (i ∷ is) = ap (λ (js : List Identity). i ∷ js) (keys_told w is)

pub tickets_apart : ToldTicketsAreApart
tickets_apart w i p =
    all_apart (identities w.log) (subst (λ (is : List Identity). IsStrictlySortedBy identity_order is) (keys_told w (identities w.log)) (told_in_order w i).order)
    (identities_plain w.log p.log)
