-- What holds at the end of a file that comes to a world.
use Rattle.std.proofs.Common.{◌≡◌, ℕ, inl, inr, List, [], length, Some, None, refl, sym, ap, ◌∙◌, subst}
use Rattle.std.specs.declared.option.Option.{Option}
use Rattle.rules_files.specs.course.Course.{Course}
use Rattle.rules_files.specs.commands.Places.{Placed, IsEndAt, AreStatements}
use Rattle.rules_files.specs.commands.Replay.{Replay, Closes, FileFault, TextFault, BadOrder, State, RefusedAt, IsReplay, Run, going, stopped, stuck_run, run_all, ending_of}
use Rattle.rules_world.specs.world.Receipts.{Receipt}
use Rattle.rules_world.specs.world.World.{World}
use Rattle.laws_files.specs.Files.{granted_in, IsInOrder}
use Rattle.laws_files.proofs.ForCallers.{files_are_not_stuck, worlds_are_in_order}
use Rattle.mich_replay.specs.Laws.{ConservesMutez, ConservesTickets, NoGroupIsStuck}

pub no_group_is_stuck : NoGroupIsStuck
no_group_is_stuck = files_are_not_stuck

record EndsInOrder (file : List ℕ) (w : World) : Type 0 where
  statements : List Placed
  to : ℕ
  stand : AreStatements file 0 statements to
  end : IsEndAt file to
  order : IsInOrder (granted_in statements) w

no_world : (f : FileFault) (place : ℕ) (w : World) → RefusedAt f place ≡ State w → ⊥
no_world f place w e = absurd cc

ended : (file : List ℕ) (ss : List Placed) (to : ℕ) (receipts : List Receipt) (c : Option Course) (done : Replay) (w : World) →
    AreStatements file 0 ss to → run_all (going [] None) ss ≡ going receipts c → IsEndAt file to →
    done ≡ record { receipts = receipts; ending = ending_of (length file) c } → done.ending ≡ State w → EndsInOrder file w
ended file ss to receipts (Some c) done w stand runs end is h =
    let same : c.world ≡ w = world_of (sym (ap (λ (d : Replay). d.ending) is) ∙ h) in
    record {
      statements = ss;
      to = to;
      stand = stand;
      end = end;
      order = subst (IsInOrder (granted_in ss)) same (worlds_are_in_order file ss to receipts c stand runs);
    }
  where
    world_of : State c.world ≡ State w → c.world ≡ w
    world_of e = cc
ended file ss to receipts None done w stand runs end is h =
    absurd (no_world BadOrder (length file) w (sym (ap (λ (d : Replay). d.ending) is) ∙ h))

closed : (file : List ℕ) (ss : List Placed) (to : ℕ) (r : Run) (done : Replay) (w : World) → AreStatements file 0 ss to →
    run_all (going [] None) ss ≡ r → Closes file to r done → done.ending ≡ State w → EndsInOrder file w
closed file ss to (going receipts c) done w stand runs (inl e) h = ended file ss to receipts c done w stand runs e.0 e.1 h
closed file ss to (going receipts c) done w stand runs (inr f) h =
    absurd (no_world (TextFault f.0) f.1 w (sym (ap (λ (d : Replay). d.ending) f.3) ∙ h))
closed file ss to (stopped receipts f place) done w stand runs e h = absurd (no_world f place w (sym (ap (λ (d : Replay). d.ending) e) ∙ h))
closed file ss to stuck_run done w stand runs e h = absurd e

ends_in_order : (file : List ℕ) (done : Replay) (w : World) → IsReplay file done → done.ending ≡ State w → EndsInOrder file w
ends_in_order file done w r h = closed file r.statements r.to (run_all (going [] None) r.statements) done w r.stand refl r.closes h

pub conserves_mutez : ConservesMutez
conserves_mutez file done w r h =
    let e = ends_in_order file done w r h in
    (e.statements, e.to, e.stand, e.end, e.order.mutez, e.order.most)

pub conserves_tickets : ConservesTickets
conserves_tickets file done w r h = (ends_in_order file done w r h).order.tickets
