use Rattle.std.proofs.Common.{subst, ◌≡◌, true, false, Some, None, refl, sym, ap, ◌∙◌, is_some}
use Rattle.mich_base.specs.undo.History.{Keeps as KeepsBooks}
use Rattle.mich_interpreter.specs.Ends.{KeepsPast, KeepsState}
use Rattle.mich_interpreter.specs.Runs.{IsEnd, KeepsEnd}
use Rattle.mich_interpreter.specs.declared.machine.Ended.{Ended}
use Rattle.mich_state.specs.declared.state.State.{State}
use Rattle.mich_tickets.specs.Books.{fresh, no_books}
use Rattle.mich_world.proofs.ForCallers.{world_trans, ledger_lent}
use Rattle.mich_world.specs.Holders.{contract_at}
use Rattle.mich_world.specs.Marks.{KeepsWorld}
use Rattle.mich_world.specs.World.{World, with_ledger}
use Rattle.mich_machine.specs.Endings.{IsEnding}
use Rattle.mich_machine.proofs.Begun.{Asked, called_there, entry_some, sees_so, x, Z, o, begun, ending_so, state_is, opens_at, with_memory, finished_so, fails_as}
use Rattle.mich_machine.proofs.running.run.Goals as goal

pub unreachable-requires : goal.unreachable-requires
unreachable-requires c =
    let q : Asked = record {
      v = c.args.world.now;
      w = c.requires.called.0;
      costs = c.args.costs.now;
      counts = c.args.counts.now;
      to = c.args.to.now;
      name = c.args.name.now;
      argument = c.args.argument;
      env = c.args.env.now;
      t = c.requires.called.1;
      h = c.requires.hosting;
      formed = c.requires.formed;
      based = c.requires.based;
      c = c.requires.called.2;
    } in
    let none : None ≡ contract_at c.args.world.now.funds.present c.args.to.now = c.in_default.ensures in
    let off : false ≡ true = ap is_some none ∙ called_there q in cc

pub opening-requires : goal.opening-requires
opening-requires c =
    let q : Asked = record {
      v = c.args.world.now;
      w = c.requires.called.0;
      costs = c.args.costs.now;
      counts = c.args.counts.now;
      to = c.args.to.now;
      name = c.args.name.now;
      argument = c.args.argument;
      env = c.args.env.now;
      t = c.requires.called.1;
      h = c.requires.hosting;
      formed = c.requires.formed;
      based = c.requires.based;
      c = c.requires.called.2;
    } in
    entry_some q c.in-Some.contract.now (sym c.in-Some.ensures)

pub run_code-requires : goal.run_code-requires
run_code-requires c =
    let q : Asked = record {
      v = c.args.world.now;
      w = c.requires.called.0;
      costs = c.args.costs.now;
      counts = c.args.counts.now;
      to = c.args.to.now;
      name = c.args.name.now;
      argument = c.args.argument;
      env = c.args.env.now;
      t = c.requires.called.1;
      h = c.requires.hosting;
      formed = c.requires.formed;
      based = c.requires.based;
      c = c.requires.called.2;
    } in
    let k = c.in-Some.contract.now in
    let there : contract_at q.v.funds.present q.to ≡ Some k = sym c.in-Some.ensures in
    let value = c.in_ok-code.value in
    let seen_so = c.in_ok-code.ensures.value in
    let b = c.in_ok-begun.ensures in
    let same = state_is q k there value seen_so c.args.meter.now c.in_ok-begun.begun b.stack b.meter b.counts b.env b.ledger b.issued in (
      x q k there,
      Z q k there value seen_so c.args.meter.now,
      o q k there value seen_so c.args.meter.now,
      opens_at q k there value seen_so c.args.meter.now c.in_ok-code.code c.in_ok-begun.begun c.in_ok-code.ensures.code same,
      sees_so q k there c.state.new.world (fresh no_books) c.in_ok-begun.ensures.world,
    )

pub finish-requires : goal.finish-requires
finish-requires c =
    let q : Asked = record {
      v = c.args.world.now;
      w = c.requires.called.0;
      costs = c.args.costs.now;
      counts = c.args.counts.now;
      to = c.args.to.now;
      name = c.args.name.now;
      argument = c.args.argument;
      env = c.args.env.now;
      t = c.requires.called.1;
      h = c.requires.hosting;
      formed = c.requires.formed;
      based = c.requires.based;
      c = c.requires.called.2;
    } in
    let k = c.in-Some.contract.now in
    let there : contract_at q.v.funds.present q.to ≡ Some k = sym c.in-Some.ensures in
    let value = c.in_ok-code.value in
    let seen_so = c.in_ok-code.ensures.value in
    let gas = c.args.meter.now in
    let b = c.in_ok-begun.ensures in
    let left = c.in-Stack.left in
    let same = state_is q k there value seen_so gas c.in_ok-begun.begun b.stack b.meter b.counts b.env b.ledger b.issued in
    let keeps : KeepsState (begun q k there value seen_so gas) left =
    subst (λ (s : State). KeepsState s left) same (subst (λ (d : Ended). KeepsEnd d c.in_ok-begun.begun) c.in-Stack.is c.in_ok-left.ensures.keeps) in
    let ends = subst (λ (d : Ended). IsEnd d (x q k there) (Z q k there value seen_so gas) (o q k there value seen_so gas)) c.in-Stack.is
    (c.in_ok-left.ensures.ends (x q k there) (Z q k there value seen_so gas) (o q k there value seen_so gas)
    (opens_at q k there value seen_so gas c.in_ok-code.code c.in_ok-begun.begun c.in_ok-code.ensures.code same)
    (sees_so q k there c.state.new.world (fresh no_books) c.in_ok-begun.ensures.world)) in
    let world : c.put_ledger.new.world ≡ with_ledger q.v left.ledger = c.put_ledger.ensures ∙ ap (λ (w : World). with_ledger w left.ledger) c.in_ok-begun.ensures.world in
    subst (λ (w : World). IsEnding w q.to left.stack left.issued) (sym world) (ending_so q k there value seen_so gas left keeps ends)

pub returns-in-Stack-clause-ends : goal.returns-in-Stack-clause-ends
returns-in-Stack-clause-ends c = λ w t h.
    let q : Asked = record {
      v = c.args.world.now;
      w = w;
      costs = c.args.costs.now;
      counts = c.args.counts.now;
      to = c.args.to.now;
      name = c.args.name.now;
      argument = c.args.argument;
      env = c.args.env.now;
      t = t;
      h = c.requires.hosting;
      formed = c.requires.formed;
      based = c.requires.based;
      c = h;
    } in
    let k = c.in-Some.contract.now in
    let there : contract_at q.v.funds.present q.to ≡ Some k = sym c.in-Some.ensures in
    let value = c.in_ok-code.value in
    let seen_so = c.in_ok-code.ensures.value in
    let gas = c.args.meter.now in
    let b = c.in_ok-begun.ensures in
    let same = state_is q k there value seen_so gas c.in_ok-begun.begun b.stack b.meter b.counts b.env b.ledger b.issued in
    let ends = c.in_ok-left.ensures.ends (x q k there) (Z q k there value seen_so gas) (o q k there value seen_so gas)
    (opens_at q k there value seen_so gas c.in_ok-code.code c.in_ok-begun.begun c.in_ok-code.ensures.code same)
    (sees_so q k there c.state.new.world (fresh no_books) c.in_ok-begun.ensures.world) in
    let left = c.in-Stack.left in
    let keeps : KeepsState (begun q k there value seen_so gas) left =
    subst (λ (s : State). KeepsState s left) same (subst (λ (e : Ended). KeepsEnd e c.in_ok-begun.begun) c.in-Stack.is c.in_ok-left.ensures.keeps) in
    let end = subst (λ (e : Ended). IsEnd e (x q k there) (Z q k there value seen_so gas) (o q k there value seen_so gas)) c.in-Stack.is ends in
    let world : c.put_ledger.new.world ≡ with_ledger q.v left.ledger =
    c.put_ledger.ensures ∙ ap (λ (v : World). with_ledger v left.ledger) c.in_ok-begun.ensures.world in
    finished_so q k there value seen_so gas left keeps end c.put_ledger.new.world world c.finish.new.world c.finish.result c.finish.ensures.ends

pub returns-in_ok-tell-in-Failed-clause-ends : goal.returns-in_ok-tell-in-Failed-clause-ends
returns-in_ok-tell-in-Failed-clause-ends c = λ w t h.
    let q : Asked = record {
      v = c.args.world.now;
      w = w;
      costs = c.args.costs.now;
      counts = c.args.counts.now;
      to = c.args.to.now;
      name = c.args.name.now;
      argument = c.args.argument;
      env = c.args.env.now;
      t = t;
      h = c.requires.hosting;
      formed = c.requires.formed;
      based = c.requires.based;
      c = h;
    } in
    let k = c.in-Some.contract.now in
    let there : contract_at q.v.funds.present q.to ≡ Some k = sym c.in-Some.ensures in
    let value = c.in_ok-code.value in
    let seen_so = c.in_ok-code.ensures.value in
    let gas = c.args.meter.now in
    let b = c.in_ok-begun.ensures in
    let same = state_is q k there value seen_so gas c.in_ok-begun.begun b.stack b.meter b.counts b.env b.ledger b.issued in
    let ends = c.in_ok-left.ensures.ends (x q k there) (Z q k there value seen_so gas) (o q k there value seen_so gas)
    (opens_at q k there value seen_so gas c.in_ok-code.code c.in_ok-begun.begun c.in_ok-code.ensures.code same)
    (sees_so q k there c.state.new.world (fresh no_books) c.in_ok-begun.ensures.world) in
    let end = subst (λ (e : Ended). IsEnd e (x q k there) (Z q k there value seen_so gas) (o q k there value seen_so gas)) c.in-Failed.is ends in
    fails_as q k there value seen_so gas _ _ _ c.in-Failed.left c.in-Failed.why c.in_ok-tell-in-Failed.field-0 end c.in_ok-tell-in-Failed.ensures

pub returns-in-Stack-clause-keeps : goal.returns-in-Stack-clause-keeps
returns-in-Stack-clause-keeps c =
    let q : Asked = record {
      v = c.args.world.now;
      w = c.requires.called.0;
      costs = c.args.costs.now;
      counts = c.args.counts.now;
      to = c.args.to.now;
      name = c.args.name.now;
      argument = c.args.argument;
      env = c.args.env.now;
      t = c.requires.called.1;
      h = c.requires.hosting;
      formed = c.requires.formed;
      based = c.requires.based;
      c = c.requires.called.2;
    } in
    let k = c.in-Some.contract.now in
    let there : contract_at q.v.funds.present q.to ≡ Some k = sym c.in-Some.ensures in
    let value = c.in_ok-code.value in
    let seen_so = c.in_ok-code.ensures.value in
    let gas = c.args.meter.now in
    let b = c.in_ok-begun.ensures in
    let same = state_is q k there value seen_so gas c.in_ok-begun.begun b.stack b.meter b.counts b.env b.ledger b.issued in
    let lent : (left : State) (v : World) → v ≡ with_ledger c.state.new.world left.ledger → KeepsBooks c.in_ok-begun.begun.ledger.books left.ledger.books → KeepsWorld q.v v = λ left v e s.
    let books : KeepsBooks (begun q k there value seen_so gas).ledger.books left.ledger.books = subst (λ (m : State). KeepsBooks m.ledger.books left.ledger.books) same s in
    let world : v ≡ with_ledger q.v left.ledger = e ∙ ap (λ (u : World). with_ledger u left.ledger) c.in_ok-begun.ensures.world in
    subst (λ (z : World). KeepsWorld q.v z) (sym world) (ledger_lent q.v q.v.ledger left.ledger refl books) in
    let first = lent c.in-Stack.left c.put_ledger.new.world c.put_ledger.ensures
    (let end : KeepsState c.in_ok-begun.begun c.in-Stack.left = subst (λ (e : Ended). KeepsEnd e c.in_ok-begun.begun) c.in-Stack.is c.in_ok-left.ensures.keeps in end.books) in
    with_memory c.finish.result (λ later. world_trans _ _ _ first later) c.finish.ensures.keeps

pub returns-in_ok-tell-in-Failed-clause-keeps : goal.returns-in_ok-tell-in-Failed-clause-keeps
returns-in_ok-tell-in-Failed-clause-keeps c =
    let q : Asked = record {
      v = c.args.world.now;
      w = c.requires.called.0;
      costs = c.args.costs.now;
      counts = c.args.counts.now;
      to = c.args.to.now;
      name = c.args.name.now;
      argument = c.args.argument;
      env = c.args.env.now;
      t = c.requires.called.1;
      h = c.requires.hosting;
      formed = c.requires.formed;
      based = c.requires.based;
      c = c.requires.called.2;
    } in
    let k = c.in-Some.contract.now in
    let there : contract_at q.v.funds.present q.to ≡ Some k = sym c.in-Some.ensures in
    let value = c.in_ok-code.value in
    let seen_so = c.in_ok-code.ensures.value in
    let gas = c.args.meter.now in
    let b = c.in_ok-begun.ensures in
    let same = state_is q k there value seen_so gas c.in_ok-begun.begun b.stack b.meter b.counts b.env b.ledger b.issued in
    let lent : (left : State) (v : World) → v ≡ with_ledger c.state.new.world left.ledger → KeepsBooks c.in_ok-begun.begun.ledger.books left.ledger.books → KeepsWorld q.v v = λ left v e s.
    let books : KeepsBooks (begun q k there value seen_so gas).ledger.books left.ledger.books = subst (λ (m : State). KeepsBooks m.ledger.books left.ledger.books) same s in
    let world : v ≡ with_ledger q.v left.ledger = e ∙ ap (λ (u : World). with_ledger u left.ledger) c.in_ok-begun.ensures.world in
    subst (λ (z : World). KeepsWorld q.v z) (sym world) (ledger_lent q.v q.v.ledger left.ledger refl books) in
    lent c.in-Failed.left c.put_ledger-in-Failed.new.world c.put_ledger-in-Failed.ensures
    (let end : KeepsPast c.in_ok-begun.begun c.in-Failed.left = subst (λ (e : Ended). KeepsEnd e c.in_ok-begun.begun) c.in-Failed.is c.in_ok-left.ensures.keeps in end.books)
