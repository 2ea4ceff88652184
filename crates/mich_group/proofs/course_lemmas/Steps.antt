-- A course that follows one of the rules goes on following it.
use Rattle.std.proofs.Common.{◌≡◌, ◌<◌, ◌+◌, ◌^◌, ◌≢◌, ◌&&◌, ℕ, ℤ, int_le, nat_lt, Bool, true, false, List, [], ◌∷◌, Some, None, Ok, Err, refl, sym, ap, ◌∙◌, subst, arith}
use Rattle.std.specs.Prelude.{Result}
use Rattle.std.specs.declared.option.Option.{Option}
use Rattle.std.specs.List.{AllByRecursion}
use Rattle.rules_data.specs.gas.Prices.{nothing_listed}
use Rattle.rules_text.specs.nodes.Tree.{Tree}
use Rattle.rules_data.specs.gas.Tables.{table_of}
use Rattle.rules_data.specs.forms.Spelling.{is_chain_id, is_key_hash}
use Rattle.rules_world.specs.world.Balances.{Grant, Granted, Repeated, TooMuch, granted_to}
use Rattle.rules_world.specs.world.Contents.{Content}
use Rattle.rules_world.specs.world.Forms.{is_moment}
use Rattle.rules_world.specs.world.Groups.{Settled, group}
use Rattle.rules_world.specs.world.Laws.{IsGroup}
use Rattle.rules_world.specs.world.World.{World as PlainWorld, new_world}
use Rattle.rules_files.specs.course.Course.{Course as PlainCourse, started, is_later, block_step, profile_step, with_prices, costs_step, granting, group_step}
use Rattle.rules_files.specs.course.Ranges.{IsStatement}
use Rattle.rules_files.specs.statements.Statements.{Group}
use Rattle.laws_code.specs.evaluation.Laws.{IsCharged}
use Rattle.laws_world.specs.runs.Worlds.{IsWhole}
use Rattle.laws_world.proofs.groups_lemmas.ForCallers.{grants_keep_good, groups_keep_whole, new_worlds_are_good}
use Rattle.mich_bigmap.specs.Ticketless.{HoldNoTickets}
use Rattle.mich_gas.specs.View.{listed, reading}
use Rattle.mich_gas.specs.declared.costs.Costs.{Costs}
use Rattle.mich_gas.specs.declared.costs.BadCosts.{BadCosts}
use Rattle.mich_group.specs.Settled.{IsSettled}
use Rattle.mich_instr.specs.Scripts.{IsTypedScript}
use Rattle.mich_machine.specs.Calls.{IsHosting}
use Rattle.mich_ops.specs.declared.receipt.GroupReceipt.{GroupReceipt}
use Rattle.mich_world.specs.simulation.Laws.{Grants}
use Rattle.mich_world.proofs.simulation_lemmas.ForCallers.{new_worlds_agree, clocks_agree, rates_agree, grants_agree, keeping_agrees}
use Rattle.mich_base.specs.undo.History.{History, kept as without_past}
use Rattle.mich_world.specs.Answers.{IsGrant}
use Rattle.mich_world.specs.Holders.{Holders, with_rate}
use Rattle.mich_world.specs.Standing.{StandsFor}
use Rattle.mich_world.specs.Storages.{AreStored, IsStored, Stands}
use Rattle.mich_world.specs.declared.contract.Contract.{Contract}
use Rattle.mich_world.specs.World.{World, no_world, with_clock, with_funds}
use Rattle.mich_world.specs.declared.errors.GrantError.{GrantError}
use Rattle.mich_world.specs.declared.errors.GrantError.TheVariants as grant
use Rattle.mich_group.specs.declared.course.course.Course.{Course}
use Rattle.mich_group.specs.declared.course.error.CourseError.{CourseError}
use Rattle.mich_group.specs.declared.course.error.CourseError.TheVariants as error
use Rattle.mich_group.specs.course.Following.{Follows, Goes}
use Rattle.laws_files.proofs.ForCallers.{nothing_charged, table_charged}

-- ---- the beginning

pub begun : {c : Course} (id : List ℕ) (level : ℕ) (moment : ℤ) → is_chain_id id ≡ true → level < 2 ^ 32 → is_moment moment ≡ true →
    c.world ≡ no_world id level moment → listed c.costs ≡ nothing_listed → c.groups ≡ 0 → c.at_head ≡ true → Follows c (started id level moment)
begun id level moment i l m w p g o =
    let whole = new_worlds_are_good id level moment i l m in
    record {
      stands = subst (λ v. StandsFor v (new_world id level moment)) (sym w) (new_worlds_agree id level moment);
      prices = p;
      groups = g;
      at_head = o;
      nobody = λ e. subst (λ (v : World). (v.funds.present.accounts ≡ []) × (v.funds.present.contracts ≡ [])) (sym w) (refl, refl);
      hosting = subst IsHosting (sym w) (record { typed = tt; stored = tt; ticketless = tt });
      whole = whole.0;
      charged = nothing_charged;
      new = λ number more small. whole.1 number;
    }

hosting_funds : (v w : World) → w ≡ with_funds v w.funds → w.funds.present.contracts ≡ v.funds.present.contracts → IsHosting v → IsHosting w
hosting_funds v w e c h = subst IsHosting (sym e) (record {
  typed = subst (AllByRecursion (λ (x : List ℕ × Contract). IsTypedScript x.1.script)) (sym c) h.typed;
  stored = subst (AllByRecursion (λ (x : List ℕ × Contract). IsStored v.store.bases.present x.1)) (sym c) h.stored;
  ticketless = h.ticketless;
})

good_rated : (w : PlainWorld) (rate : Option ℕ) → IsWhole w → IsWhole (record w { rate = rate })
good_rated w rate h = record {
  good = record {
    sound = record {
      form = record {
        chain = h.good.sound.form.chain;
        level = h.good.sound.form.level;
        moment = h.good.sound.form.moment;
        accounts = h.good.sound.form.accounts;
        accounts_in_order = h.good.sound.form.accounts_in_order;
        contracts = h.good.sound.form.contracts;
        contracts_in_order = h.good.sound.form.contracts_in_order;
        log = h.good.sound.form.log;
      };
      contracts = h.good.sound.contracts;
      minted = h.good.sound.minted;
      mutez = h.good.sound.mutez;
    };
    waits = h.good.waits;
    tickets = h.good.tickets;
  };
  mutez = h.mutez;
}

-- a course is behind its head, or at it
behind_head : {b : Bool} → b ≡ false → b ≡ true → ⊥
behind_head e g = absurd cc

-- ---- the rate

pub profiled : {p : PlainCourse} (old new : Course) (rate : ℕ) → Follows old p → old.at_head ≡ true → old.world.funds.present.rate ≡ None →
    new.world ≡ with_funds old.world new.world.funds → new.world.funds.present ≡ with_rate old.world.funds.present (Some rate) →
    new.costs ≡ old.costs → new.groups ≡ old.groups → new.at_head ≡ old.at_head → Goes (profile_step p rate) new (Ok None)
profiled {p} old new rate f early unset others is c g o =
    let head : p.at_head ≡ true = sym f.at_head ∙ early in
    let none : p.world.rate ≡ None = f.stands.those.rate ∙ unset in
    rw (head, none) (
      record {
        stands = rates_agree old.world new.world p.world (Some rate) f.stands others is;
        prices = ap listed c ∙ f.prices;
        groups = g ∙ f.groups;
        at_head = o ∙ early;
        nobody = λ e. (ap (λ h. h.accounts) is ∙ (f.nobody early).0, ap (λ h. h.contracts) is ∙ (f.nobody early).1);
        hosting = hosting_funds old.world new.world others (ap (λ h. h.contracts) is) f.hosting;
        whole = good_rated p.world (Some rate) f.whole;
        charged = f.charged;
        new = f.new;
      },
      refl,
    )

-- ---- prices

pub priced : {p : PlainCourse} (old new : Course) (table : Tree) (r : Result Costs BadCosts) (costs : Costs) → Follows old p → r ≡ Ok costs → reading r ≡ table_of table →
    new.world ≡ old.world → new.costs ≡ costs → new.groups ≡ old.groups → new.at_head ≡ false →
    Goes (with_prices p (table_of table)) new (Ok None)
priced {p} old new table r costs f is read w c g o =
    let known : table_of table ≡ Ok (listed costs) = sym read ∙ ap reading is in
    rw known (
      record {
        stands = subst (λ v. StandsFor v p.world) (sym w) f.stands;
        prices = ap listed c;
        groups = g ∙ f.groups;
        at_head = o;
        nobody = λ e. absurd (behind_head o e);
        hosting = subst IsHosting (sym w) f.hosting;
        whole = f.whole;
        charged = table_charged table (listed costs) known;
        new = f.new;
      },
      refl,
    )

-- ---- accounts

pub granted : {p : PlainCourse} (old new : Course) (who : List ℕ) (mutez : ℕ) (r : Result (Unit {0}) GrantError) → Follows old p → is_key_hash who ≡ true →
    new.world ≡ with_funds old.world new.world.funds → IsGrant who mutez old.world.funds new.world.funds r → r ≡ Ok tt →
    new.costs ≡ old.costs → new.groups ≡ old.groups → new.at_head ≡ false →
    Goes (granting p (granted_to p.world who mutez)) new (Ok None)
granted {p} old new who mutez r f key others answer ok c g o = by (granted_to p.world who mutez) refl (subst (Grants new.world (granted_to p.world who mutez)) ok agrees)
  where
    agrees : Grants new.world (granted_to p.world who mutez) r
    agrees = grants_agree old.world new.world p.world who mutez r f.stands key others answer

    made : IsGrant {U = Unit {0}} who mutez old.world.funds new.world.funds (Ok tt)
    made = subst (IsGrant {U = Unit {0}} who mutez old.world.funds new.world.funds) ok answer

    by : (x : Grant) → granted_to p.world who mutez ≡ x → Grants new.world x (Ok tt) → Goes (granting p x) new (Ok None)
    by (Granted w) e s = (
      record {
        stands = s;
        prices = ap listed c ∙ f.prices;
        groups = g ∙ f.groups;
        at_head = o;
        nobody = λ e. absurd (behind_head o e);
        hosting = hosting_funds old.world new.world others (ap (λ h. h.contracts) made.2) f.hosting;
        whole = (grants_keep_good p.world w who mutez key f.whole e).0;
        charged = f.charged;
        new = λ number more small. (grants_keep_good p.world w who mutez key f.whole e).1 number (f.new number more small);
      },
      refl,
    )
    by Repeated e s = absurd s
    by TooMuch e s = absurd s

pub repeated : {p : PlainCourse} (old new : Course) (who : List ℕ) (mutez : ℕ) (r : Result (Unit {0}) GrantError) → Follows old p → is_key_hash who ≡ true →
    new.world ≡ with_funds old.world new.world.funds → IsGrant who mutez old.world.funds new.world.funds r → r ≡ Err grant.RepeatedAccount →
    Goes (granting p (granted_to p.world who mutez)) new (Err error.RepeatedAccount)
repeated {p} old new who mutez r f key others answer e =
    by (granted_to p.world who mutez) (subst (Grants new.world (granted_to p.world who mutez)) e (grants_agree old.world new.world p.world who mutez r f.stands key others answer))
  where
    by : (x : Grant) → Grants new.world x (Err grant.RepeatedAccount) → Goes (granting p x) new (Err error.RepeatedAccount)
    by (Granted w) s = absurd s
    by Repeated s = tt
    by TooMuch s = absurd s

pub too_much : {p : PlainCourse} (old new : Course) (who : List ℕ) (mutez : ℕ) (r : Result (Unit {0}) GrantError) → Follows old p → is_key_hash who ≡ true →
    new.world ≡ with_funds old.world new.world.funds → IsGrant who mutez old.world.funds new.world.funds r → r ≡ Err grant.SupplyLimit →
    Goes (granting p (granted_to p.world who mutez)) new (Err error.SupplyLimit)
too_much {p} old new who mutez r f key others answer e =
    by (granted_to p.world who mutez) (subst (Grants new.world (granted_to p.world who mutez)) e (grants_agree old.world new.world p.world who mutez r f.stands key others answer))
  where
    by : (x : Grant) → Grants new.world x (Err grant.SupplyLimit) → Goes (granting p x) new (Err error.SupplyLimit)
    by (Granted w) s = absurd s
    by Repeated s = absurd s
    by TooMuch s = tt

-- ---- the clock

good_timed : (w : PlainWorld) (level : ℕ) (moment : ℤ) → level < 2 ^ 32 → is_moment moment ≡ true → IsWhole w → IsWhole (record w { level = level; moment = moment })
good_timed w level moment l m h = record {
  good = record {
    sound = record {
      form = record {
        chain = h.good.sound.form.chain;
        level = l;
        moment = m;
        accounts = h.good.sound.form.accounts;
        accounts_in_order = h.good.sound.form.accounts_in_order;
        contracts = h.good.sound.form.contracts;
        contracts_in_order = h.good.sound.form.contracts_in_order;
        log = h.good.sound.form.log;
      };
      contracts = h.good.sound.contracts;
      minted = h.good.sound.minted;
      mutez = h.good.sound.mutez;
    };
    waits = h.good.waits;
    tickets = h.good.tickets;
  };
  mutez = h.mutez;
}

pub advanced : {p : PlainCourse} (old new : Course) (level : ℕ) (moment : ℤ) → Follows old p → level < 2 ^ 32 → is_moment moment ≡ true →
    is_later p.world level moment ≡ true → new.world ≡ with_clock old.world level moment → new.costs ≡ old.costs → new.groups ≡ old.groups → new.at_head ≡ false →
    Goes (block_step p level moment) new (Ok None)
advanced {p} old new level moment f l m later w c g o =
    rw later (
      record {
        stands = subst (λ v. StandsFor v (record (p.world) { level = level; moment = moment })) (sym w) (clocks_agree old.world p.world level moment f.stands);
        prices = ap listed c ∙ f.prices;
        groups = g ∙ f.groups;
        at_head = o;
        nobody = λ e. absurd (behind_head o e);
        hosting = subst IsHosting (sym w) (record { typed = f.hosting.typed; stored = f.hosting.stored; ticketless = f.hosting.ticketless });
        whole = good_timed p.world level moment l m f.whole;
        charged = f.charged;
        new = f.new;
      },
      refl,
    )

-- ---- groups

other_number : (n g h : ℕ) → h ≡ g → g + 1 < n → n ≢ h + 1
other_number n g h e more same = omega arith

later : (n g : ℕ) → g + 1 < n → g < n
later n g more = omega arith

pub may_apply : {p : PlainCourse} {c : Course} (source : List ℕ) (contents : List Content) → Follows c p → c.groups + 1 < 2 ^ 64 → IsStatement (Group source contents) →
    IsGroup (listed c.costs) (c.groups + 1) source contents p.world
may_apply {p} {c} source contents f few s = record {
  costs = subst IsCharged (sym f.prices) f.charged;
  small = few;
  key_hash = s.0;
  forms = s.1;
  few = s.2;
  good = f.whole.good;
  new = f.new (c.groups + 1) (subst (λ n. n < c.groups + 1) f.groups (omega arith)) few;
}

pub applied : {p : PlainCourse} (old new : Course) (source : List ℕ) (contents : List Content) (r : GroupReceipt) → Follows old p → old.groups + 1 < 2 ^ 64 →
    IsStatement (Group source contents) → IsSettled (group (listed old.costs) (old.groups + 1) source contents p.world) new.world r →
    IsHosting new.world → new.costs ≡ old.costs → new.groups ≡ old.groups + 1 → new.at_head ≡ false →
    Goes (group_step p source contents) new (Ok (Some r))
applied {p} old new source contents r f few s settled hosting c g o =
    let may = may_apply source contents f few s in
    let whole = groups_keep_whole (listed old.costs) (old.groups + 1) source contents p.world settled.settled may settled.same f.whole.mutez in
    let same : group p.prices (p.groups + 1) source contents p.world ≡ Some settled.settled =
    ap (λ prices. group prices (p.groups + 1) source contents p.world) (sym f.prices) ∙ ap (λ n. group (listed old.costs) (n + 1) source contents p.world) (sym f.groups) ∙ settled.same in
    rw same (
      record {
        stands = settled.stands;
        prices = ap listed c ∙ f.prices;
        groups = g ∙ ap (λ n. n + 1) f.groups;
        at_head = o;
        nobody = λ e. absurd (behind_head o e);
        hosting = hosting;
        whole = whole.0;
        charged = f.charged;
        new = λ number more small. whole.1 number small (other_number number p.groups old.groups f.groups more) (f.new number (later number p.groups more) small);
      },
      ap (λ t. t ∷ []) settled.told,
    )

-- behind the end of all marks
pub ended : {o : Option Settled} {r : GroupReceipt} (u v : World) → IsSettled o u r → IsHosting u → v.chain ≡ u.chain → v.level ≡ u.level → v.moment ≡ u.moment
    → v.funds ≡ without_past u.funds → v.ledger.books ≡ without_past u.ledger.books
    → AllByRecursion (Stands u.store.bases.present v.store.bases.present) u.funds.present.contracts
    → IsSettled o v r
ended u v s h chain level moment funds books stands = record {
  settled = s.settled;
  same = s.same;
  told = s.told;
  stands = keeping_agrees u v s.settled.world s.stands h.stored chain level moment funds books stands;
}

pub hosting_ended : (u v : World) → IsHosting u → v.funds ≡ without_past u.funds → (AreStored u → AreStored v)
    → (HoldNoTickets u.store.bases.present → HoldNoTickets v.store.bases.present) → IsHosting v
hosting_ended u v h funds stored ticketless = record {
  typed = subst (λ (f : History Holders). AllByRecursion (λ (x : List ℕ × Contract). IsTypedScript x.1.script) f.present.contracts) (sym funds) h.typed;
  stored = stored h.stored;
  ticketless = ticketless h.ticketless;
}

-- ---- what the code tells

-- a table that comes in time
pub in_time : {p : PlainCourse} (old new : Course) (table : Tree) (r : Result (Option GroupReceipt) CourseError) → Follows old p → old.at_head ≡ true →
    Goes (with_prices p (table_of table)) new r → Goes (costs_step p.at_head p table) new r
in_time {p} old new table r f early h = rw (sym f.at_head ∙ early) h

-- whether a block is later, as the world of the code tells it
pub later_told : {p : PlainCourse} (c : Course) (level : ℕ) (moment : ℤ) → Follows c p →
    is_later p.world level moment ≡ (nat_lt c.world.level level && int_le c.world.moment moment)
later_told c level moment f = λ i. nat_lt (f.stands.level i) level && int_le (f.stands.moment i) moment
