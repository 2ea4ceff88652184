-- What is kept of lines when the code takes one more.
use Rattle.std.proofs.Common.{◌≡◌, inl, inr, ℕ, ℤ, pos, ◌+◌, ◌≤◌, ◌==◌, Bool, true, false, List, [], ◌∷◌, ◌++◌, length, refl, sym, ap, ◌∙◌, subst, arith}
use Rattle.std.specs.Prelude.{◌&&◌, ◌||◌, not, nat_le, if◌then◌else◌, Some, None}
use Rattle.std.specs.declared.option.Option.{Option}
use Rattle.std.specs.List.{AllByRecursion, list_all, list_any}
use Rattle.std.proofs.lemmas.Bool.{and_parts, and_from}
use Rattle.std.proofs.lemmas.Bool.Decides.{Decides-eqb, leb_tells}
use Rattle.rules_audit.specs.Same.{same_number}
use Rattle.rules_audit.specs.Fields.{Identity, Part}
use Rattle.rules_audit.specs.Lines.{Line, group, account, contract, tickets, fees, storage_burn, supply}
use Rattle.rules_audit.specs.Form.{last_rank, has_fourth, can_follow, is_of, ended}
use Rattle.rules_audit.specs.Verdicts.{all_mutez, all_parts, tells_supply, ticket_agrees, has_line}
use Rattle.rules_audit.specs.Audits.{verdict_on}
use Rattle.mich_audit.specs.Sums.{AreSums}
use Rattle.mich_audit.specs.Tallies.{Entries, HasForm, AreTold, AreKept, IsLined, IsTally, IsPassed, IsTaken, fits, unless_before, wrong_in}
use Rattle.mich_audit.specs.declared.sums.Sums.{Sums}
use Rattle.mich_audit.specs.declared.tally.Tally.{Tally}
use Rattle.mich_audit.proofs.Kept.{other_kept}
use Rattle.mich_audit.proofs.Reversed.{verdict_from, verdict_is}
use Rattle.mich_audit.proofs.Tallied.{none_is, group_follows, account_follows, contract_follows, tickets_within, burn_follows, supply_follows, group_taken, account_taken, contract_taken, tickets_taken, fees_taken, burn_taken, supply_taken}

-- a line was counted, whatever became of the other fields
pub passed_as : (s t u v : Tally) (r n : ℕ) → s.count ≡ t.count → s.mutez ≡ t.mutez → u.count ≡ v.count → u.rank ≡ v.rank → u.mutez ≡ v.mutez → IsPassed s r n v → IsPassed t r n u
passed_as s t u v r n ec em fc fr fm p = record {
  count = fc ∙ p.count ∙ ap (λ k. k + 1) ec;
  ranked = fr ∙ p.ranked;
  added = λ k e. fm ∙ p.added k (em ∙ e);
}

within : (r m : ℕ) → nat_le r m ≡ true → r ≤ m
within r m e = elim (leb_tells r m) [ inl h ↦ h.1 | inr h ↦ let contrary : false ≡ true = sym h.0 ∙ e in absurd cc ]

and_false : (b : Bool) → b && false ≡ false
and_false true = refl
and_false false = refl

-- ---- lines that tell parts

-- all parts were added
abbrev pub Adds : List Part → Entries → Entries → Type 0
Adds ps es fs = (qs : List Part) (ls : List Line) → AreKept qs ls es → AllByRecursion (λ p. HasForm p.identity) ps → AreKept (ps ++ qs) ls fs

module _ (before : List Line) (t : Tally) (it : IsTally before t) where
  same_kept : (v : Tally) → v.book ≡ t.book → AreKept (all_parts before) before v.book.entries
  same_kept v e = subst (λ (book : _). AreKept (all_parts before) before book.entries) (sym e) it.kept

  module _ (u v : Tally) (ps qs : List Part) (same : qs ≡ ps) (forms : AllByRecursion (λ p. HasForm p.identity) ps) (eb : v.book ≡ t.book) (adds : Adds qs v.book.entries u.book.entries) where
    added : (l : Line) → ((id : Identity) → is_of id l ≡ false) → AreKept (ps ++ all_parts before) (l ∷ before) u.book.entries
    added l none =
        subst (λ (rs : List Part). Adds rs v.book.entries u.book.entries) same adds (all_parts before) (l ∷ before)
        (other_kept (all_parts before) before v.book.entries l none (same_kept v eb)) forms

    pub group_done : (n : ℤ) → (nat_le t.rank 1 && same_number n (pos (t.count + 1))) ≡ true → IsPassed t 1 0 u → u.fourth ≡ t.fourth → u.tickets ≡ t.tickets → u.wrong ≡ t.wrong
        → IsTaken before (group n ps) u true
    group_done n f p ef et ew =
        let follow : can_follow before (group n ps) ≡ true = sym (group_follows before t it n ps) ∙ f in
        (follow, group_taken before t it u n ps (within (last_rank before) 1 (and_parts _ _ follow).0) p ef et ew (added (group n ps) (λ id. refl)))

    pub account_done : (n : ℕ) → nat_le t.rank 2 ≡ true → IsPassed t 2 n u → u.fourth ≡ t.fourth → u.tickets ≡ t.tickets → u.wrong ≡ t.wrong → IsTaken before (account n ps) u true
    account_done n f p ef et ew =
        let follow : can_follow before (account n ps) ≡ true = sym (account_follows before t it n ps) ∙ f in
        (follow, account_taken before t it u n ps (within (last_rank before) 2 follow) p ef et ew (added (account n ps) (λ id. refl)))

    pub contract_done : (n : ℕ) (fourth : Bool) → (nat_le t.rank 3 && fits fourth t.fourth) ≡ true → IsPassed t 3 n u → u.fourth ≡ Some fourth → u.tickets ≡ t.tickets → u.wrong ≡ t.wrong
        → IsTaken before (contract n ps fourth) u true
    contract_done n fourth f p ef et ew =
        let follow : can_follow before (contract n ps fourth) ≡ true = sym (contract_follows before t it n ps fourth) ∙ f in
        let both : (nat_le (last_rank before) 3 ≡ true) × (list_all (has_fourth fourth) before ≡ true) = and_parts _ _ follow in
        (follow, contract_taken before t it u n ps fourth (within (last_rank before) 3 both.0) both.1 p ef et ew (added (contract n ps fourth) (λ id. refl)))

  -- ---- lines of tickets

  pub tickets_done : (u : Tally) (id : Identity) (m b h : ℕ) (s : Sums) (right : Bool) (es : Entries) → nat_le t.rank 4 ≡ true → IsLined (all_parts before) before id m b h es (Some s)
      → ((k c i : ℕ) (lined : Bool) → AreSums k c i lined s → right ≡ ((m == k) && ((b == c) && ((h == i) && (m == h + b)))))
      → IsPassed t 4 0 u → u.fourth ≡ t.fourth → u.tickets ≡ t.tickets + 1 → u.wrong ≡ unless_before t.wrong right (t.tickets + 1) → u.book.entries ≡ es → IsTaken before (tickets id m b h) u true
  tickets_done u id m b h s right es f lined agrees p ef et ew eb =
      let low : nat_le (last_rank before) 4 ≡ true = sym (tickets_within before t it) ∙ f in
      let alone : list_all (λ l. not (is_of id l)) before ≡ true = none_is (is_of id) before ∙ ap not lined.0 in
      let same : right ≡ ticket_agrees (all_parts before) id m b h = agrees _ _ _ _ lined.1 in (
        and_from _ _ low alone,
        tickets_taken before t it u id m b h (within (last_rank before) 4 low) p ef et (ew ∙ ap (λ r. unless_before t.wrong r (t.tickets + 1)) same)
            (subst (λ (fs : Entries). AreKept (all_parts before) (tickets id m b h ∷ before) fs) (sym eb) lined.2),
      )

  pub tickets_refused : (id : Identity) (m b h : ℕ) (es : Entries) → IsLined (all_parts before) before id m b h es None → can_follow before (tickets id m b h) ≡ false
  tickets_refused id m b h es lined =
      ap (λ r. nat_le (last_rank before) 4 && r) (none_is (is_of id) before ∙ ap not lined) ∙ and_false (nat_le (last_rank before) 4)

  -- ---- the sums at the end

  pub fees_done : (u : Tally) (n : ℕ) → nat_le t.rank 4 ≡ true → IsPassed t 5 n u → u.fourth ≡ t.fourth → u.tickets ≡ t.tickets → u.wrong ≡ t.wrong → u.book ≡ t.book → IsTaken before (fees n) u true
  fees_done u n f p ef et ew eb =
      let low : nat_le (last_rank before) 4 ≡ true = sym (tickets_within before t it) ∙ f in
      (low, fees_taken before t it u n (within (last_rank before) 4 low) p ef et ew eb)

  five : (r : Bool) → (last_rank before == 5) && r ≡ true → last_rank before ≤ 6
  five r e = let h : last_rank before ≡ 5 = (Decides-eqb (last_rank before) 5).0 (and_parts _ _ e).0 in omega (arith, h)

  five_or_six : (r : Bool) → ((last_rank before == 5) && r) || (last_rank before == 6) ≡ true → last_rank before ≤ 6
  five_or_six r e = by ((last_rank before == 5) && r) refl e where
    by : (b : Bool) → (last_rank before == 5) && r ≡ b → b || (last_rank before == 6) ≡ true → last_rank before ≤ 6
    by true f g = five r f
    by false f g = let h : last_rank before ≡ 6 = (Decides-eqb (last_rank before) 6).0 g in omega (arith, h)

  pub burn_done : (u : Tally) (n : ℕ) → ((t.rank == 5) && fits true t.fourth) ≡ true → IsPassed t 6 n u → u.fourth ≡ t.fourth → u.tickets ≡ t.tickets → u.wrong ≡ t.wrong → u.book ≡ t.book
      → IsTaken before (storage_burn n) u true
  burn_done u n f p ef et ew eb =
      let follow : can_follow before (storage_burn n) ≡ true = sym (burn_follows before t it n) ∙ f in
      (follow, burn_taken before t it u n (five (list_all (has_fourth true) before) follow) p ef et ew eb)

  pub supply_done : (u : Tally) (n : ℕ) → (((t.rank == 5) && fits false t.fourth) || (t.rank == 6)) ≡ true → IsPassed t 7 0 u → u.supply ≡ n → u.fourth ≡ t.fourth → u.tickets ≡ t.tickets
      → u.wrong ≡ t.wrong → u.book ≡ t.book → IsTaken before (supply n) u true
  supply_done u n f p es ef et ew eb =
      let follow : can_follow before (supply n) ≡ true = sym (supply_follows before t it n) ∙ f in
      (follow, supply_taken before t it u n (five_or_six (list_all (has_fourth false) before) follow) p es ef et ew eb)

  -- ---- the verdict

  pub judged : t.rank ≡ 7 → (right lined : Bool) → right ≡ (t.supply == all_mutez before) → lined ≡ list_all (has_line before) (all_parts before)
      → verdict_from right t.wrong lined ≡ verdict_on (ended before)
  judged e right lined er el =
      let last : last_rank before ≡ 7 = sym it.rank ∙ e in
      let told : list_all (tells_supply (all_mutez before)) before ≡ (t.supply == all_mutez before) =
      it.supply (all_mutez before) ∙ ap (λ b. if b then t.supply == all_mutez before else true) ((Decides-eqb (last_rank before) 7).1 last) in
      sym (verdict_is before last ∙ (λ i. verdict_from ((told ∙ sym er) i) (sym it.wrong i) (sym el i)))
