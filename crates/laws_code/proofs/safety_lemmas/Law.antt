-- Code that is typed is never stuck.
use Rattle.std.proofs.Common.{suc, List, [], ◌∷◌, arith}
use Rattle.std.specs.List.{All}
use Rattle.rules_data.specs.types.Kind.{Kind}
use Rattle.rules_data.specs.values.Val.{Val}
use Rattle.rules_code.specs.typing.Typing.{Typing, goes, fails, bad}
use Rattle.rules_code.specs.evaluation.Surroundings.{Surroundings}
use Rattle.rules_code.specs.evaluation.Operations.{Tally}
use Rattle.rules_code.specs.evaluation.Outcome.{Outcome, stack, failed, stuck}
use Rattle.rules_code.specs.evaluation.Evaluation.{eval}
use Rattle.laws_code.specs.evaluation.Laws.{IsType, Stands, Keeps, NeverStuck}
use Rattle.laws_code.specs.safety.Laws.{LeavesWell, CodeLeavesWell}
use Rattle.rules_code.specs.typing.Nodes.{tree_type}
use Rattle.laws_code.specs.stacks.Sound.{seen, AllTypes, Sound, KeepsFrom}
use Rattle.laws_code.proofs.control.ForCallers.{PartsAreSafe, safe_eval}
use Rattle.laws_code.proofs.safety_lemmas.Rows.{rows_keep}
use Rattle.laws_code.proofs.safety_lemmas.Small.{decoded_are_small}
use Rattle.laws_code.proofs.safety_lemmas.Views.{views_keep}
use Rattle.laws_code.proofs.literals.ForCallers.{lambdas, lambda_recs, pushes, applies}
use Rattle.laws_code.proofs.safety_lemmas.Selves.{selves}
use Rattle.laws_code.proofs.safety_lemmas.Creates.{creates}
use Rattle.laws_code.proofs.typed.ForCallers.{contexts}

all_types : (A : List Kind) → All IsType A → AllTypes A
all_types [] h = tt
all_types (a ∷ A) h = (h 0 a (omega arith), all_types A (λ n d l. h (suc n) d (omega arith)))

sound : (e : Surroundings) (m : Tally) (A : List Kind) (V : List Val) → Stands e m A V → Sound (seen e) m.issued m.changes A V
sound e m A V s = record {
  mints = s.tally.mints;
  types = all_types A s.types;
  fit = s.fit;
  below = λ id. (s.tickets id).1;
  most = λ id.
      (s.tickets id).0;
}

kept : (e : Surroundings) (m : Tally) (V : List Val) (t : Typing) (o : Outcome) → KeepsFrom (seen e) m.issued m.changes V t o →
    Keeps e t o
kept e m V (goes B) (stack C W n) k = (k.0, k.1.fit)
kept e m V (goes B) (failed f) k = tt
kept e m V (goes B) stuck k = k
kept e m V fails (stack C W n) k = k
kept e m V fails (failed f) k = tt
kept e m V fails stuck k = k
kept e m V (bad l) o k = tt

pub never_stuck_from : PartsAreSafe → NeverStuck
never_stuck_from p t e d A V m small s = kept e m V (tree_type t e.context A) (eval t e d A V m)
    (safe_eval p t small e d A V m s.good (sound e m A V s))

pub parts_are_safe : PartsAreSafe
parts_are_safe = record {
  rows = λ q sq name annots ts. rows_keep decoded_are_small views_keep q sq name annots ts;
  pushes = pushes;
  lambdas = lambdas;
  lambda_recs = lambda_recs;
  applies = applies;
  selves = selves;
  creates = creates;
  contexts = contexts;
}

pub never_stuck : NeverStuck
never_stuck = never_stuck_from parts_are_safe

left_well : (e : Surroundings) (m : Tally) (V : List Val) (t : Typing) (o : Outcome) →
    KeepsFrom (seen e) m.issued m.changes V t o → LeavesWell e m t o
left_well e m V (goes B) (stack C W n) k = record { well = k.1.well; minted = k.1.most }
left_well e m V (goes B) (failed f) k = tt
left_well e m V (goes B) stuck k = tt
left_well e m V fails o k = tt
left_well e m V (bad l) o k = tt

pub code_leaves_well : CodeLeavesWell
code_leaves_well t e d A V m small s =
    left_well e m V (tree_type t e.context A) (eval t e d A V m)
    (safe_eval parts_are_safe t small e d A V m s.good (sound e m A V s))
