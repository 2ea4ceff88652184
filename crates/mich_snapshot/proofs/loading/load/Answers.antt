use Rattle.std.proofs.Common.{List, length, map, ap, ◌∙◌, arith}
use Rattle.std.specs.Prelude.{slice_get}
use Rattle.std.proofs.lemmas.Result.{err_from_is_err_and}
use Rattle.rules_data.specs.gas.Kinds.{place}
use Rattle.rules_files.specs.snapshots.Loading.{loaded}
use Rattle.rules_files.specs.snapshots.Reading.{read}
use Rattle.mich_gas.specs.View.{seen_price}
use Rattle.mich_gas.specs.declared.costs.Price.{Price}
use Rattle.mich_snapshot.specs.declared.loading.SoundState.{SoundState}
use Rattle.mich_snapshot.proofs.LoadedAs.{loads, no_room, read_fails, rules_fail}
use Rattle.mich_snapshot.proofs.Loads.{loaded_as, prices_long, read_of, scripts_typed}
use Rattle.mich_snapshot.proofs.loading.load.Goals as goal

pub returns-in_err-state-clause-loaded : goal.returns-in_err-state-clause-loaded
returns-in_err-state-clause-loaded c =
    let p = err_from_is_err_and c.from_residual.result c.from_residual.ensures.1 in
    rw (p.1, p.2) (read_fails (read c.args.bytes.now) _ c.in_err-state.ensures.read)

pub sound_state-requires : goal.sound_state-requires
sound_state-requires c =
    let r = read_of c.args.bytes.now c.in_ok-state.state (λ i. omega (arith, c.type_inv.bytes i)) c.in_ok-state.ensures.read c.in_ok-state.ensures.placed in
    record { plain_state = r.plain_state; of = r.of; alone = c.in_ok-state.ensures.alone }

pub returns-in_err-sound-clause-loaded : goal.returns-in_err-sound-clause-loaded
returns-in_err-sound-clause-loaded c =
    let r = read_of c.args.bytes.now c.in_ok-state.state (λ i. omega (arith, c.type_inv.bytes i)) c.in_ok-state.ensures.read c.in_ok-state.ensures.placed in
    let p = err_from_is_err_and c.from_residual-in_err-sound.result c.from_residual-in_err-sound.ensures.1 in
    rw (p.1, p.2) (rules_fail SoundState c.args.bytes.now r.plain_state _ r.is (c.in_err-sound.ensures.tries r.plain_state r.of))

pub of_prices-costs-requires : goal.of_prices-costs-requires
of_prices-costs-requires c =
    let r = read_of c.args.bytes.now c.in_ok-state.state (λ i. omega (arith, c.type_inv.bytes i)) c.in_ok-state.ensures.read c.in_ok-state.ensures.placed in
    let sound = c.in_ok-sound.ensures.sound r.plain_state r.of in
    ap length c.as_slice.ensures ∙ prices_long r.plain_state c.in_ok-sound.sound.prices r.of.spelt sound.1.costs

pub restore-requires : goal.restore-requires
restore-requires c =
    let r = read_of c.args.bytes.now c.in_ok-state.state (λ i. omega (arith, c.type_inv.bytes i)) c.in_ok-state.ensures.read c.in_ok-state.ensures.placed in
    (c.in_ok-sound.ensures.sound r.plain_state r.of).1.restorable

pub returns-in_err-world-clause-loaded : goal.returns-in_err-world-clause-loaded
returns-in_err-world-clause-loaded c =
    let p = err_from_is_err_and c.from_residual-in_err-world.result c.from_residual-in_err-world.ensures.1 in
    rw (p.1, p.2) (no_room (loaded c.args.bytes.now))

pub returns-clause-loaded : goal.returns-clause-loaded
returns-clause-loaded c =
    let r = read_of c.args.bytes.now c.in_ok-state.state (λ i. omega (arith, c.type_inv.bytes i)) c.in_ok-state.ensures.read c.in_ok-state.ensures.placed in
    let sound = c.in_ok-sound.ensures.sound r.plain_state r.of in
    loads c.args.bytes.now r.plain_state _ r.is (c.in_ok-sound.ensures.tries r.plain_state r.of)
    (loaded_as r.plain_state c.in_ok-state.state c.in_ok-sound.sound.head c.in_ok-sound.sound.prices c.in_ok-sound.sound.saved _ _ r.of sound.0 sound.1 c.in_ok-world.ensures.stands
    (λ kind. c.of_prices-costs.ensures kind ∙ ap (λ (l : List Price). slice_get (map seen_price l) (place kind)) c.as_slice.ensures))

pub returns-clause-typed : goal.returns-clause-typed
returns-clause-typed c =
    let r = read_of c.args.bytes.now c.in_ok-state.state (λ i. omega (arith, c.type_inv.bytes i)) c.in_ok-state.ensures.read c.in_ok-state.ensures.placed in
    let sound = c.in_ok-sound.ensures.sound r.plain_state r.of in
    scripts_typed (λ d. d.1.script) (λ d. d.contract.script) _ c.in_ok-sound.sound.saved.contracts c.in_ok-world.ensures.scripts sound.1.typed
