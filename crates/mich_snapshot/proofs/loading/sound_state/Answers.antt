use Rattle.std.proofs.Common.{◌+◌, length, refl, rules, subst, sym, ◌∙◌}
use Rattle.std.specs.Int.{w64}
use Rattle.std.specs.Prelude.{FitsSigned, List, ℤ, fold}
use Rattle.std.specs.List.{flat_map}
use Rattle.std.proofs.lemmas.Int.{to_z-of_z}
use Rattle.std.proofs.lemmas.Result.{err_from_is_err_and}
use Rattle.rules_files.specs.snapshots.Spelling.{account_spelling, contract_spelling}
use Rattle.mich_term.specs.declared.ticket.TicketId.{TicketId}
use Rattle.mich_tickets.specs.declared.totals.Totals.{Totals}
use Rattle.mich_world.specs.declared.restoring.SavedAccount.{SavedAccount}
use Rattle.mich_world.specs.declared.restoring.SavedContract.{SavedContract}
use Rattle.mich_snapshot.specs.Loaded.{IsSoundState}
use Rattle.mich_snapshot.specs.declared.loading.SoundState.{SoundState}
use Rattle.mich_snapshot.specs.Sums.{found_in, more_account, nothing}
use Rattle.mich_snapshot.proofs.AllParts.{accounts_told, all_stand, contracts_told, front_told, reckoned, tickets_fail}
use Rattle.mich_snapshot.proofs.Stages.{contracts_spelt, made_of, state_is_sound, tickets_kept}
use Rattle.mich_snapshot.proofs.loading.sound_state.Goals as goal

pub sound_contracts-requires : goal.sound_contracts-requires
sound_contracts-requires c =
    contracts_spelt c.requires.plain_state.contracts c.args.read.contracts c.requires.of.spelt.contracts.1 c.requires.of.kept.contracts

pub returns-in_err-try_heads-clause-tries : goal.returns-in_err-try_heads-clause-tries
returns-in_err-try_heads-clause-tries c = λ s of.
    let p = err_from_is_err_and c.from_residual.result c.from_residual.ensures.1 in
    rw (p.1, p.2) (front_told (Unit {0}) SoundState s _ (c.in_err-try_heads.ensures s of.spelt of.kept))

pub returns-in_err-accounts-clause-tries : goal.returns-in_err-accounts-clause-tries
returns-in_err-accounts-clause-tries c = λ s of.
    let front = c.in_ok-try_heads.ensures s of.spelt of.kept in
    let sums = c.in_ok-sums.ensures s (tickets_kept s.tickets c.args.read.tickets of.kept.tickets) in
    let p = err_from_is_err_and c.from_residual-in_err-accounts.result c.from_residual-in_err-accounts.ensures.1 in
    rw (p.1, p.2) (accounts_told (List SavedAccount) SoundState s _ of.spelt front (c.in_err-accounts.ensures.tries s nothing 851 sums of.placed.accounts))

pub returns-in_err-contracts-clause-tries : goal.returns-in_err-contracts-clause-tries
returns-in_err-contracts-clause-tries c = λ s of.
    let front = c.in_ok-try_heads.ensures s of.spelt of.kept in
    let sums = c.in_ok-sums.ensures s (tickets_kept s.tickets c.args.read.tickets of.kept.tickets) in
    let accounts = c.in_ok-accounts.ensures.tries s nothing 851 sums of.placed.accounts in
    let held = c.in_ok-accounts.ensures.saved s nothing 851 sums of.placed.accounts in
    let p = err_from_is_err_and c.from_residual-in_err-contracts.result c.from_residual-in_err-contracts.ensures.1 in
    rw (p.1, p.2) (contracts_told (List SavedContract) SoundState s _ of.spelt front accounts
    (c.in_err-contracts.ensures.tries s (fold more_account nothing s.accounts)
    (859 + length (flat_map account_spelling s.accounts)) of.kept.head held.1 of.placed.contracts))

pub returns-in_err-totals-clause-tries : goal.returns-in_err-totals-clause-tries
returns-in_err-totals-clause-tries c = λ s of.
    let n = length (flat_map account_spelling s.accounts) in
    let front = c.in_ok-try_heads.ensures s of.spelt of.kept in
    let sums = c.in_ok-sums.ensures s (tickets_kept s.tickets c.args.read.tickets of.kept.tickets) in
    let accounts = c.in_ok-accounts.ensures.tries s nothing 851 sums of.placed.accounts in
    let held = c.in_ok-accounts.ensures.saved s nothing 851 sums of.placed.accounts in
    let contracts = c.in_ok-contracts.ensures.tries s (fold more_account nothing s.accounts) (859 + n) of.kept.head held.1 of.placed.contracts in
    let stored = c.in_ok-contracts.ensures.saved s (fold more_account nothing s.accounts) (859 + n) of.kept.head held.1 of.placed.contracts in
    let p = err_from_is_err_and c.from_residual-in_err-totals.result c.from_residual-in_err-totals.ensures.1 in
    rw (p.1, p.2) (tickets_fail (List (TicketId × Totals)) SoundState s _ of.spelt front accounts contracts
    (c.in_err-totals.ensures.tries s (867 + n + length (flat_map contract_spelling s.contracts))
    (record {
      found = found_in s.accounts s.contracts;
      reckoned = reckoned s 851 (859 + n) of.spelt accounts contracts;
      sums = stored.1;
      contracts = stored.0;
      spelt = of.spelt.tickets.1;
    }) of.placed.tickets))

pub returns-clause-tries : goal.returns-clause-tries
returns-clause-tries c = λ s of.
    let n = length (flat_map account_spelling s.accounts) in
    let front = c.in_ok-try_heads.ensures s of.spelt of.kept in
    let sums = c.in_ok-sums.ensures s (tickets_kept s.tickets c.args.read.tickets of.kept.tickets) in
    let accounts = c.in_ok-accounts.ensures.tries s nothing 851 sums of.placed.accounts in
    let held = c.in_ok-accounts.ensures.saved s nothing 851 sums of.placed.accounts in
    let contracts = c.in_ok-contracts.ensures.tries s (fold more_account nothing s.accounts) (859 + n) of.kept.head held.1 of.placed.contracts in
    let stored = c.in_ok-contracts.ensures.saved s (fold more_account nothing s.accounts) (859 + n) of.kept.head held.1 of.placed.contracts in
    all_stand s of.spelt front accounts contracts
    (c.in_ok-totals.ensures.tries s (867 + n + length (flat_map contract_spelling s.contracts))
    (record {
      found = found_in s.accounts s.contracts;
      reckoned = reckoned s 851 (859 + n) of.spelt accounts contracts;
      sums = stored.1;
      contracts = stored.0;
      spelt = of.spelt.tickets.1;
    }) of.placed.tickets)

pub returns-clause-sound : goal.returns-clause-sound
returns-clause-sound c = λ s of.
    let n = length (flat_map account_spelling s.accounts) in
    let read = c.args.read in
    let sums = c.in_ok-sums.ensures s (tickets_kept s.tickets read.tickets of.kept.tickets) in
    let accounts = c.in_ok-accounts.ensures.tries s nothing 851 sums of.placed.accounts in
    let held = c.in_ok-accounts.ensures.saved s nothing 851 sums of.placed.accounts in
    let contracts = c.in_ok-contracts.ensures.tries s (fold more_account nothing s.accounts) (859 + n) of.kept.head held.1 of.placed.contracts in
    let stored = c.in_ok-contracts.ensures.saved s (fold more_account nothing s.accounts) (859 + n) of.kept.head held.1 of.placed.contracts in
    let fits : FitsSigned w64 read.head.moment.now = search rules in
    let now = to_z-of_z w64 read.head.moment.now fits in
    let made = λ (m : ℤ). made_of read m c.rate_of.result c.in_ok-accounts.accounts c.in_ok-contracts.contracts c.in_ok-totals.totals in (
      refl,
      subst (λ (m : ℤ). IsSoundState s read.prices (made m)) (sym now)
          (state_is_sound s read (made read.head.moment.now) of
          (record { chain = refl; level = refl; moment = refl; rate = c.rate_of.ensures; fees = refl; burned = refl })
          (record { accounts = held.0; contracts = stored.0; totals = c.in_ok-totals.ensures.saved ∙ tickets_kept s.tickets read.tickets of.kept.tickets })
          (reckoned s 851 (859 + n) of.spelt accounts contracts)
          (returns-clause-tries c s of)
          (c.in_ok-contracts.ensures.alone c.requires.alone)
          c.in_ok-contracts.ensures.typed),
    )
