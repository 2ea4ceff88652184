-- What is kept of lines when one more comes.
use Rattle.std.proofs.Common.{◌≡◌, ◌⊎◌, inl, inr, ℕ, ℤ, pos, ◌+◌, ◌<◌, ◌≤◌, ◌==◌, Bool, true, false, List, [], ◌∷◌, ◌++◌, length, refl, sym, ap, ◌∙◌, subst, arith}
use Rattle.std.specs.Prelude.{◌&&◌, ◌||◌, not, nat_le, if◌then◌else◌, Some, None}
use Rattle.std.specs.declared.option.Option.{Option}
use Rattle.std.specs.List.{list_all, list_any}
use Rattle.std.proofs.lemmas.Bool.Decides.{Decides-eqb}
use Rattle.rules_audit.specs.Same.{same_number}
use Rattle.rules_audit.specs.Fields.{Identity, Part}
use Rattle.rules_audit.specs.Lines.{Line, group, account, contract, tickets, fees, storage_burn, supply}
use Rattle.rules_audit.specs.Form.{rank, last_rank, has_fourth, can_follow, is_of}
use Rattle.rules_audit.specs.Verdicts.{mutez_in, all_mutez, parts_in, all_parts, tells_supply, ticket_agrees}
use Rattle.mich_audit.specs.Sums.{fitting}
use Rattle.mich_audit.specs.Tallies.{AreKept, tickets_among, unless_before, wrong_in, fits, IsTally, IsPassed, IsCounted}
use Rattle.mich_audit.specs.declared.tally.Tally.{Tally}
use Rattle.mich_audit.proofs.Kept.{other_kept}

-- ---- lemmas

-- without lines of tickets none is wrong
none_wrong : (ps : List Part) (ls : List Line) → tickets_among ls ≡ 0 → wrong_in ps ls ≡ None
none_wrong ps [] e = refl
none_wrong ps (group n qs ∷ ls) e = none_wrong ps ls e
none_wrong ps (account b qs ∷ ls) e = none_wrong ps ls e
none_wrong ps (contract b qs fourth ∷ ls) e = none_wrong ps ls e
none_wrong ps (tickets id m b h ∷ ls) e = let f : tickets_among ls + 1 ≡ 0 = e in absurd (omega (arith, f))
none_wrong ps (fees n ∷ ls) e = none_wrong ps ls e
none_wrong ps (storage_burn n ∷ ls) e = none_wrong ps ls e
none_wrong ps (supply n ∷ ls) e = none_wrong ps ls e

pub few_tickets : (ls : List Line) → tickets_among ls ≤ length ls
few_tickets [] = omega arith
few_tickets (group n qs ∷ ls) = let h = few_tickets ls in omega (arith, h)
few_tickets (account b qs ∷ ls) = let h = few_tickets ls in omega (arith, h)
few_tickets (contract b qs fourth ∷ ls) = let h = few_tickets ls in omega (arith, h)
few_tickets (tickets id m b h ∷ ls) = let g = few_tickets ls in omega (arith, g)
few_tickets (fees n ∷ ls) = let h = few_tickets ls in omega (arith, h)
few_tickets (storage_burn n ∷ ls) = let h = few_tickets ls in omega (arith, h)
few_tickets (supply n ∷ ls) = let h = few_tickets ls in omega (arith, h)

not_seven : (m : ℕ) → m ≤ 6 → (m == 7) ≡ false
not_seven m h = by (m == 7) refl where
  by : (b : Bool) → (m == 7) ≡ b → b ≡ false
  by false e = refl
  by true e = let seven : m ≡ 7 = (Decides-eqb m 7).0 e in absurd (omega (arith, h, seven))

and_true : (b : Bool) → b && true ≡ b
and_true true = refl
and_true false = refl

pub none_is : (f : Line → Bool) (ls : List Line) → list_all (λ l. not (f l)) ls ≡ not (list_any f ls)
none_is f [] = refl
none_is f (l ∷ ls) = by (f l) (none_is f ls) where
  by : (b : Bool) → list_all (λ l. not (f l)) ls ≡ not (list_any f ls) → not b && list_all (λ l. not (f l)) ls ≡ not (b || list_any f ls)
  by true e = refl
  by false e = e

module _ (before : List Line) (t : Tally) (it : IsTally before t) where
  early_supply : last_rank before ≤ 6 → (n : ℕ) → list_all (tells_supply n) before ≡ true
  early_supply h n = it.supply n ∙ ap (λ b. if b then t.supply == n else true) (not_seven (last_rank before) h)

  -- ---- which lines can follow

  pub group_follows : (n : ℤ) (ps : List Part) → (nat_le t.rank 1 && same_number n (pos (t.count + 1))) ≡ can_follow before (group n ps)
  group_follows n ps = λ i. nat_le (it.rank i) 1 && same_number n (pos (it.count i + 1))

  pub account_follows : (b : ℕ) (ps : List Part) → nat_le t.rank 2 ≡ can_follow before (account b ps)
  account_follows b ps = ap (λ r. nat_le r 2) it.rank

  pub contract_follows : (b : ℕ) (ps : List Part) (fourth : Bool) → (nat_le t.rank 3 && fits fourth t.fourth) ≡ can_follow before (contract b ps fourth)
  contract_follows b ps fourth = λ i. nat_le (it.rank i) 3 && sym (it.fourth fourth) i

  pub tickets_within : nat_le t.rank 4 ≡ nat_le (last_rank before) 4
  tickets_within = ap (λ r. nat_le r 4) it.rank

  pub burn_follows : (n : ℕ) → ((t.rank == 5) && fits true t.fourth) ≡ can_follow before (storage_burn n)
  burn_follows n = λ i. (it.rank i == 5) && sym (it.fourth true) i

  pub supply_follows : (n : ℕ) → (((t.rank == 5) && fits false t.fourth) || (t.rank == 6)) ≡ can_follow before (supply n)
  supply_follows n = λ i. ((it.rank i == 5) && sym (it.fourth false) i) || (it.rank i == 6)

  -- ---- what is kept of them

  module _ (u : Tally) where
    mutez_more : (r n : ℕ) → IsPassed t r n u → u.mutez ≡ fitting (n + all_mutez before)
    mutez_more r n p = p.added (all_mutez before) it.mutez ∙ ap fitting (omega arith)

    count_more : (l : Line) (r n : ℕ) → IsPassed t r n u → u.count ≡ length (l ∷ before)
    count_more l r n p = let e : t.count ≡ length before = it.count in let f : u.count ≡ t.count + 1 = p.count in omega (arith, e, f)

    fourth_as : u.fourth ≡ t.fourth → (b : Bool) → list_all (has_fourth b) before ≡ fits b u.fourth
    fourth_as e b = it.fourth b ∙ sym (ap (fits b) e)

    -- a line that tells parts stands before the lines of tickets
    no_tickets : last_rank before ≤ 3 → tickets_among before ≡ 0
    no_tickets h = it.early (omega (arith, h))

    wrong_as : (ps : List Part) → last_rank before ≤ 3 → u.wrong ≡ t.wrong → u.wrong ≡ wrong_in ps before
    wrong_as ps h e = e ∙ it.wrong ∙ none_wrong (all_parts before) before (no_tickets h) ∙ sym (none_wrong ps before (no_tickets h))

    fourth_group : (n : ℤ) (ps : List Part) → u.fourth ≡ t.fourth → (b : Bool) → list_all (has_fourth b) (group n ps ∷ before) ≡ fits b u.fourth
    fourth_group n ps e true = fourth_as e true
    fourth_group n ps e false = fourth_as e false

    fourth_account : (n : ℕ) (ps : List Part) → u.fourth ≡ t.fourth → (b : Bool) → list_all (has_fourth b) (account n ps ∷ before) ≡ fits b u.fourth
    fourth_account n ps e true = fourth_as e true
    fourth_account n ps e false = fourth_as e false

    fourth_contract : (n : ℕ) (ps : List Part) (fourth : Bool) → list_all (has_fourth fourth) before ≡ true → (b : Bool) → list_all (has_fourth b) (contract n ps fourth ∷ before) ≡ fits b (Some fourth)
    fourth_contract n ps true h true = h
    fourth_contract n ps true h false = refl
    fourth_contract n ps false h true = refl
    fourth_contract n ps false h false = h

    fourth_tickets : (id : Identity) (m n h : ℕ) → u.fourth ≡ t.fourth → (b : Bool) → list_all (has_fourth b) (tickets id m n h ∷ before) ≡ fits b u.fourth
    fourth_tickets id m n h e true = fourth_as e true
    fourth_tickets id m n h e false = fourth_as e false

    fourth_fees : (n : ℕ) → u.fourth ≡ t.fourth → (b : Bool) → list_all (has_fourth b) (fees n ∷ before) ≡ fits b u.fourth
    fourth_fees n e true = fourth_as e true
    fourth_fees n e false = fourth_as e false

    fourth_burn : (n : ℕ) → u.fourth ≡ t.fourth → (b : Bool) → list_all (has_fourth b) (storage_burn n ∷ before) ≡ fits b u.fourth
    fourth_burn n e true = fourth_as e true
    fourth_burn n e false = fourth_as e false

    fourth_supply : (n : ℕ) → u.fourth ≡ t.fourth → (b : Bool) → list_all (has_fourth b) (supply n ∷ before) ≡ fits b u.fourth
    fourth_supply n e true = fourth_as e true
    fourth_supply n e false = fourth_as e false

    pub group_taken : (n : ℤ) (ps : List Part) → last_rank before ≤ 1 → IsPassed t 1 0 u → u.fourth ≡ t.fourth → u.tickets ≡ t.tickets → u.wrong ≡ t.wrong
        → AreKept (ps ++ all_parts before) (group n ps ∷ before) u.book.entries → IsTally (group n ps ∷ before) u
    group_taken n ps h p ef et ew kept = record {
      count = count_more (group n ps) 1 0 p;
      rank = p.ranked;
      fourth = fourth_group n ps ef;
      mutez = mutez_more 1 0 p;
      supply = early_supply (omega (arith, h));
      tickets = et ∙ it.tickets;
      wrong = wrong_as (ps ++ all_parts before) (omega (arith, h)) ew;
      kept = kept;
      early = λ less. no_tickets (omega (arith, h));
    }

    pub account_taken : (n : ℕ) (ps : List Part) → last_rank before ≤ 2 → IsPassed t 2 n u → u.fourth ≡ t.fourth → u.tickets ≡ t.tickets → u.wrong ≡ t.wrong
        → AreKept (ps ++ all_parts before) (account n ps ∷ before) u.book.entries → IsTally (account n ps ∷ before) u
    account_taken n ps h p ef et ew kept = record {
      count = count_more (account n ps) 2 n p;
      rank = p.ranked;
      fourth = fourth_account n ps ef;
      mutez = mutez_more 2 n p;
      supply = early_supply (omega (arith, h));
      tickets = et ∙ it.tickets;
      wrong = wrong_as (ps ++ all_parts before) (omega (arith, h)) ew;
      kept = kept;
      early = λ less. no_tickets (omega (arith, h));
    }

    pub contract_taken : (n : ℕ) (ps : List Part) (fourth : Bool) → last_rank before ≤ 3 → list_all (has_fourth fourth) before ≡ true → IsPassed t 3 n u → u.fourth ≡ Some fourth
        → u.tickets ≡ t.tickets → u.wrong ≡ t.wrong → AreKept (ps ++ all_parts before) (contract n ps fourth ∷ before) u.book.entries → IsTally (contract n ps fourth ∷ before) u
    contract_taken n ps fourth h all p ef et ew kept = record {
      count = count_more (contract n ps fourth) 3 n p;
      rank = p.ranked;
      fourth = λ b. fourth_contract n ps fourth all b ∙ sym (ap (fits b) ef);
      mutez = mutez_more 3 n p;
      supply = early_supply (omega (arith, h));
      tickets = et ∙ it.tickets;
      wrong = wrong_as (ps ++ all_parts before) h ew;
      kept = kept;
      early = λ less. no_tickets h;
    }

    pub tickets_taken : (id : Identity) (m b h : ℕ) → last_rank before ≤ 4 → IsPassed t 4 0 u → u.fourth ≡ t.fourth → u.tickets ≡ t.tickets + 1
        → u.wrong ≡ unless_before t.wrong (ticket_agrees (all_parts before) id m b h) (t.tickets + 1)
        → AreKept (all_parts before) (tickets id m b h ∷ before) u.book.entries → IsTally (tickets id m b h ∷ before) u
    tickets_taken id m b h r p ef et ew kept = record {
      count = count_more (tickets id m b h) 4 0 p;
      rank = p.ranked;
      fourth = fourth_tickets id m b h ef;
      mutez = mutez_more 4 0 p;
      supply = early_supply (omega (arith, r));
      tickets = et ∙ ap (λ n. n + 1) it.tickets;
      wrong = ew ∙ (λ i. unless_before (it.wrong i) (ticket_agrees (all_parts before) id m b h) (it.tickets i + 1));
      kept = kept;
      early = λ less. absurd (omega (arith, less));
    }

    pub fees_taken : (n : ℕ) → last_rank before ≤ 4 → IsPassed t 5 n u → u.fourth ≡ t.fourth → u.tickets ≡ t.tickets → u.wrong ≡ t.wrong → u.book ≡ t.book → IsTally (fees n ∷ before) u
    fees_taken n h p ef et ew eb = record {
      count = count_more (fees n) 5 n p;
      rank = p.ranked;
      fourth = fourth_fees n ef;
      mutez = mutez_more 5 n p;
      supply = early_supply (omega (arith, h));
      tickets = et ∙ it.tickets;
      wrong = ew ∙ it.wrong;
      kept = subst (λ (book : _). AreKept (all_parts before) (fees n ∷ before) book.entries) (sym eb) (other_kept (all_parts before) before t.book.entries (fees n) (λ id. refl) it.kept);
      early = λ less. absurd (omega (arith, less));
    }

    pub burn_taken : (n : ℕ) → last_rank before ≤ 6 → IsPassed t 6 n u → u.fourth ≡ t.fourth → u.tickets ≡ t.tickets → u.wrong ≡ t.wrong → u.book ≡ t.book
        → IsTally (storage_burn n ∷ before) u
    burn_taken n h p ef et ew eb = record {
      count = count_more (storage_burn n) 6 n p;
      rank = p.ranked;
      fourth = fourth_burn n ef;
      mutez = mutez_more 6 n p;
      supply = early_supply h;
      tickets = et ∙ it.tickets;
      wrong = ew ∙ it.wrong;
      kept = subst (λ (book : _). AreKept (all_parts before) (storage_burn n ∷ before) book.entries) (sym eb) (other_kept (all_parts before) before t.book.entries (storage_burn n) (λ id. refl) it.kept);
      early = λ less. absurd (omega (arith, less));
    }

    pub supply_taken : (n : ℕ) → last_rank before ≤ 6 → IsPassed t 7 0 u → u.supply ≡ n → u.fourth ≡ t.fourth → u.tickets ≡ t.tickets → u.wrong ≡ t.wrong → u.book ≡ t.book
        → IsTally (supply n ∷ before) u
    supply_taken n h p es ef et ew eb = record {
      count = count_more (supply n) 7 0 p;
      rank = p.ranked;
      fourth = fourth_supply n ef;
      mutez = mutez_more 7 0 p;
      supply = λ m. ap (λ b. (n == m) && b) (early_supply h m) ∙ and_true (n == m) ∙ ap (λ k. k == m) (sym es);
      tickets = et ∙ it.tickets;
      wrong = ew ∙ it.wrong;
      kept = subst (λ (book : _). AreKept (all_parts before) (supply n ∷ before) book.entries) (sym eb) (other_kept (all_parts before) before t.book.entries (supply n) (λ id. refl) it.kept);
      early = λ less. absurd (omega (arith, less));
    }
