-- The supply that is told is the sum of what is told.
use Rattle.std.proofs.Common.{◌≡◌, ℕ, ◌+◌, ◌==◌, Bool, true, Option, Some, None, is_some, List, [], ◌∷◌, ◌++◌, map, refl, sym, ap, ◌∙◌, arith}
use Rattle.std.specs.List.{list_all, sum_by, fold}
use Rattle.std.specs.Map.{values_of}
use Rattle.std.proofs.lemmas.Bool.{and_from, and_parts}
use Rattle.std.proofs.lemmas.Bool.Decides.{Decides-eqb}
use Rattle.rules_data.specs.values.Tickets as values
use Rattle.rules_code.specs.evaluation.Surroundings.{Contract}
use Rattle.rules_world.specs.world.Receipts.{Receipt}
use Rattle.rules_world.specs.world.World.{World, Account}
use Rattle.rules_world.specs.world.Balances.{supply}
use Rattle.rules_world.specs.world.Holdings.{identities}
use Rattle.rules_audit.specs.Lines.{Line}
use Rattle.rules_audit.specs.Lines as lines
use Rattle.rules_audit.specs.Verdicts.{all_mutez, tells_supply}
use Rattle.laws_commands.specs.audits.Changes.{BurnsAtRate}
use Rattle.laws_commands.specs.audits.ToldLines.{group_lines, account_line, contract_line, ticket_line, burn_lines, end_lines, told_lines, ToldSupplyAgrees}

mutez_append : (ls ms : List Line) → all_mutez (ls ++ ms) ≡ all_mutez ls + all_mutez ms
mutez_append [] ms = omega arith
mutez_append (l ∷ ls) ms = let e = mutez_append ls ms in omega (arith, e)

groups_mutez : (n : ℕ) (rs : List Receipt) → all_mutez (group_lines n rs) ≡ 0
groups_mutez n [] = refl
groups_mutez n (r ∷ rs) = let e = groups_mutez (n + 1) rs in omega (arith, e)

accounts_from : (k : ℕ) (xs : List (List ℕ × Account)) → fold (λ n a. n + a.balance) k (values_of xs) ≡ k + all_mutez (map account_line xs)
accounts_from k [] = omega arith
accounts_from k (x ∷ xs) = let e = accounts_from (k + x.1.balance) xs in e ∙ omega arith

pub accounts_mutez : (xs : List (List ℕ × Account)) → all_mutez (map account_line xs) ≡ sum_by (λ a. a.balance) (values_of xs)
accounts_mutez xs = let e = accounts_from 0 xs in sym (e ∙ omega arith)

contracts_from : (rated : Bool) (k : ℕ) (xs : List (List ℕ × Contract)) → fold (λ n c. n + c.balance) k (values_of xs) ≡ k + all_mutez (map (contract_line rated) xs)
contracts_from rated k [] = omega arith
contracts_from rated k (x ∷ xs) = let e = contracts_from rated (k + x.1.balance) xs in e ∙ omega arith

pub contracts_mutez : (rated : Bool) (xs : List (List ℕ × Contract)) → all_mutez (map (contract_line rated) xs) ≡ sum_by (λ c. c.balance) (values_of xs)
contracts_mutez rated xs = let e = contracts_from rated 0 xs in sym (e ∙ omega arith)

tickets_mutez : (w : World) (ids : List values.Identity) → all_mutez (map (ticket_line w) ids) ≡ 0
tickets_mutez w [] = refl
tickets_mutez w (id ∷ ids) = let e = tickets_mutez w ids in omega (arith, e)

end_mutez : (w : World) → BurnsAtRate w → all_mutez (end_lines w) ≡ w.fees + w.storage_burn
end_mutez w z = by w.rate z
  where
    by : (rate : Option ℕ) → (rate ≡ None → w.storage_burn ≡ 0) → all_mutez (lines.fees w.fees ∷ (burn_lines rate w.storage_burn ++ lines.supply (supply w) ∷ [])) ≡ w.fees + w.storage_burn
    by (Some rate) z = omega arith
    by None z = let e = z refl in omega (arith, e)

added : (g a c t e f b : ℕ) → g ≡ 0 → t ≡ 0 → e ≡ f + b → g + (a + (c + (t + e))) ≡ a + c + f + b
added g a c t e f b h i j = omega (arith, h, i, j)

mutez_told : (rs : List Receipt) (w : World) → BurnsAtRate w → all_mutez (told_lines rs w) ≡ supply w
mutez_told rs w z =
    mutez_append (group_lines 1 rs) (map account_line w.accounts ++ (map (contract_line (is_some w.rate)) w.contracts ++ (map (ticket_line w) (identities w.log) ++ end_lines w)))
    ∙ ap (λ n. all_mutez (group_lines 1 rs) + n) (mutez_append (map account_line w.accounts) (map (contract_line (is_some w.rate)) w.contracts ++ (map (ticket_line w) (identities w.log) ++ end_lines w))
    ∙ ap (λ n. all_mutez (map account_line w.accounts) + n) (mutez_append (map (contract_line (is_some w.rate)) w.contracts) (map (ticket_line w) (identities w.log) ++ end_lines w)
    ∙ ap (λ n. all_mutez (map (contract_line (is_some w.rate)) w.contracts) + n) (mutez_append (map (ticket_line w) (identities w.log)) (end_lines w))))
    ∙ added (all_mutez (group_lines 1 rs)) (all_mutez (map account_line w.accounts)) (all_mutez (map (contract_line (is_some w.rate)) w.contracts)) (all_mutez (map (ticket_line w) (identities w.log)))
    (all_mutez (end_lines w)) w.fees w.storage_burn (groups_mutez 1 rs) (tickets_mutez w (identities w.log)) (end_mutez w z)
    ∙ ap (λ n. n + all_mutez (map (contract_line (is_some w.rate)) w.contracts) + w.fees + w.storage_burn) (accounts_mutez w.accounts)
    ∙ ap (λ n. sum_by (λ a. a.balance) (values_of w.accounts) + n + w.fees + w.storage_burn) (contracts_mutez (is_some w.rate) w.contracts)

-- ---- the one line that tells it

tells_append : (n : ℕ) (ls ms : List Line) → list_all (tells_supply n) ls ≡ true → list_all (tells_supply n) ms ≡ true → list_all (tells_supply n) (ls ++ ms) ≡ true
tells_append n [] ms h g = g
tells_append n (l ∷ ls) ms h g =
    let hs = and_parts (tells_supply n l) (list_all (tells_supply n) ls) h in
    and_from (tells_supply n l) (list_all (tells_supply n) (ls ++ ms)) hs.0 (tells_append n ls ms hs.1 g)

groups_tell : (n k : ℕ) (rs : List Receipt) → list_all (tells_supply n) (group_lines k rs) ≡ true
groups_tell n k [] = refl
groups_tell n k (r ∷ rs) = groups_tell n (k + 1) rs

accounts_tell : (n : ℕ) (xs : List (List ℕ × Account)) → list_all (tells_supply n) (map account_line xs) ≡ true
accounts_tell n [] = refl
accounts_tell n (x ∷ xs) = accounts_tell n xs

contracts_tell : (n : ℕ) (rated : Bool) (xs : List (List ℕ × Contract)) → list_all (tells_supply n) (map (contract_line rated) xs) ≡ true
contracts_tell n rated [] = refl
contracts_tell n rated (x ∷ xs) = contracts_tell n rated xs

tickets_tell : (n : ℕ) (w : World) (ids : List values.Identity) → list_all (tells_supply n) (map (ticket_line w) ids) ≡ true
tickets_tell n w [] = refl
tickets_tell n w (id ∷ ids) = tickets_tell n w ids

end_tells : (n : ℕ) (w : World) → n ≡ supply w → list_all (tells_supply n) (end_lines w) ≡ true
end_tells n w e = by w.rate
  where
    last : list_all (tells_supply n) (lines.supply (supply w) ∷ []) ≡ true
    last = and_from (supply w == n) true ((Decides-eqb (supply w) n).1 (sym e)) refl

    by : (rate : Option ℕ) → list_all (tells_supply n) (lines.fees w.fees ∷ (burn_lines rate w.storage_burn ++ lines.supply (supply w) ∷ [])) ≡ true
    by (Some rate) = last
    by None = last

pub supply_told : ToldSupplyAgrees
supply_told rs w z =
    let n : ℕ = all_mutez (told_lines rs w) in (
      mutez_told rs w z,
      tells_append n (group_lines 1 rs) _ (groups_tell n 1 rs)
          (tells_append n (map account_line w.accounts) _ (accounts_tell n w.accounts)
          (tells_append n (map (contract_line (is_some w.rate)) w.contracts) _ (contracts_tell n (is_some w.rate) w.contracts)
          (tells_append n (map (ticket_line w) (identities w.log)) (end_lines w) (tickets_tell n w (identities w.log)) (end_tells n w (mutez_told rs w z))))),
    )
