-- Operations with all that they emit, and the contents of a group in turn.
use Rattle.std.proofs.Common.{◌≤◌, ◌+◌, ℕ, zero, suc, List, [], ◌∷◌, ◌++◌, length, arith, unsigned_abs}
use Rattle.std.specs.List.{All}
use Rattle.std.proofs.lemmas.List.Elements.{All-nil, All-cons, All-head, All-tail}
use Rattle.rules_data.specs.declared.gas.Kind.TheVariants as price
use Rattle.rules_code.specs.evaluation.Operations.{transfer, origination, event}
use Rattle.rules_world.specs.world.World.{World}
use Rattle.rules_world.specs.world.Contents.{Action, Originate, Call, Give, Content}
use Rattle.rules_world.specs.world.Receipts.{Effect, Status}
use Rattle.rules_world.specs.world.Outcomes.{Setting, Waiting, ordered, issued, Counts, Outcome, applied, failed, stuck}
use Rattle.rules_world.specs.world.Application.{apply}
use Rattle.rules_world.specs.world.Trees.{Walk, completed, broken_off, stuck_walk, behind_one, with_emitted, tree_within, tree}
use Rattle.rules_world.specs.world.Groups.{Turn, all_applied, one_failed, stuck_turn, behind_applied, with_tree, in_turn}
use Rattle.rules_world.specs.world.Forms.{IsAction, IsContent}
use Rattle.rules_world.specs.world.Good.{IsGood, IsGoodWaiting}
use Rattle.laws_world.specs.runs.Going.{IsSetting, IsKept, IsGoing, KeepsGoing}
use Rattle.laws_world.proofs.runs.ForCallers.{told_keeps, keeps_charged}
use Rattle.laws_world.proofs.groups_lemmas.Foundings.{issued_origination_keeps, ordered_origination_keeps}
use Rattle.laws_world.proofs.groups_lemmas.Transfers.{ordered_transfer_keeps, issued_transfer_keeps}
use Rattle.laws_world.proofs.groups_lemmas.Gives.{give_keeps}

module _ (start : World) (s : Setting) (setting : IsSetting s) where
  -- ---- one operation

  module _ (contents : ℕ) (few : contents ≤ 1000) where
    pub apply_keeps : (w : World) (op : Waiting) (waiting : List Waiting) (gas : ℕ) (counts : Counts) →
        IsGoing start s.group contents w (op ∷ waiting) counts → KeepsGoing start s contents waiting (apply s w op gas counts)
    apply_keeps w (ordered (Originate balance t u)) waiting gas counts g =
        ordered_origination_keeps start s contents w waiting counts few balance t u gas g
    apply_keeps w (ordered (Call amount destination entrypoint argument)) waiting gas counts g =
        ordered_transfer_keeps start s setting contents few w waiting counts amount destination entrypoint argument gas g
    apply_keeps w (ordered (Give issuer kind content amount destination entrypoint)) waiting gas counts g =
        give_keeps s setting start contents few w waiting counts issuer kind content amount destination entrypoint gas g
    apply_keeps w (issued sender (transfer argument amount address)) waiting gas counts g =
        issued_transfer_keeps start s setting contents few w waiting counts sender argument amount address gas g
    apply_keeps w (issued sender (origination delegate amount t storage hash)) waiting gas counts g =
        issued_origination_keeps start s contents w waiting counts few sender delegate amount t storage hash gas g
    apply_keeps w (issued sender (event tag a x)) waiting gas counts g =
        keeps_charged start s contents waiting s.prices price.Event gas _
        (λ left. told_keeps start s contents w sender tag a x waiting left counts g)

    -- ---- a tree

    -- after all of it, nothing waits
    abbrev pub KeepsWalk : Walk → Type 0
    KeepsWalk (completed last) = IsGoing start s.group contents last.world [] last.counts
    KeepsWalk (broken_off count failure) = Unit {0}
    KeepsWalk stuck_walk = ⊥

    behind_keeps : (effects : List Effect) (t : Walk) → KeepsWalk t → KeepsWalk (behind_one effects t)
    behind_keeps effects (completed last) h = h
    behind_keeps effects (broken_off count failure) h = tt
    behind_keeps effects stuck_walk h = h

    emitted_keeps : (waiting : List Waiting) (o : Outcome) (again : World → List Waiting → ℕ → Counts → Walk) →
        KeepsGoing start s contents waiting o →
        ((x : World) (ops : List Waiting) (gas : ℕ) (counts : Counts) → IsGoing start s.group contents x ops counts →
        KeepsWalk (again x ops gas counts)) → KeepsWalk (with_emitted o waiting again)
    emitted_keeps waiting (applied a) again k h =
        behind_keeps a.effects (again a.world (a.emitted ++ waiting) a.gas a.counts)
        (h a.world (a.emitted ++ waiting) a.gas a.counts k)
    emitted_keeps waiting (failed failure) again k h = tt
    emitted_keeps waiting stuck again k h = k

    within_keeps : (limit : ℕ) (w : World) (waiting : List Waiting) (gas : ℕ) (counts : Counts) →
        IsGoing start s.group contents w waiting counts → KeepsWalk (tree_within limit s w waiting gas counts)
    within_keeps limit w [] gas counts g = g
    within_keeps zero w (op ∷ waiting) gas counts g = tt
    within_keeps (suc limit) w (op ∷ waiting) gas counts g =
        emitted_keeps waiting (apply s w op gas counts) (tree_within limit s) (apply_keeps w op waiting gas counts g)
        (λ x ops gas counts h. within_keeps limit x ops gas counts h)

    pub tree_keeps : (w : World) (waiting : List Waiting) (gas : ℕ) (counts : Counts) →
        IsGoing start s.group contents w waiting counts → KeepsWalk (tree s w waiting gas counts)
    tree_keeps w waiting gas counts g = within_keeps gas w waiting gas counts g

  -- ---- contents in turn

  -- a good world behind all of them, the rest of which is as at the start
  abbrev pub KeepsTurn : Turn → Type 0
  KeepsTurn (all_applied w statuses) = IsGood w [] × IsKept s.group start w
  KeepsTurn (one_failed statuses) = Unit {0}
  KeepsTurn stuck_turn = ⊥

  applied_keeps : (status : Status) (t : Turn) → KeepsTurn t → KeepsTurn (behind_applied status t)
  applied_keeps status (all_applied w statuses) h = h
  applied_keeps status (one_failed statuses) h = tt
  applied_keeps status stuck_turn h = h

  -- the next content begins where the ones before left
  pub begins : (contents : ℕ) (w : World) (action : Action) (counts : Counts) → IsAction action →
      IsGoing start s.group contents w [] counts → IsGoing start s.group (suc contents) w (ordered action ∷ []) counts
  begins contents w action counts a g = record {
    good = record {
      sound = g.good.sound;
      waits = All-cons (IsGoodWaiting w) (ordered action) [] a
          (All-nil (IsGoodWaiting w));
      tickets = g.good.tickets;
    };
    operations = g.operations;
    originations = let b = g.originations in omega arith;
    fresh = g.fresh;
    kept = g.kept;
  }

  after_tree : (contents : ℕ) (few : contents ≤ 1000) (gas : ℕ) (t : Walk) (rest : List Content)
      (again : World → Counts → Turn) → KeepsWalk contents few t →
      ((x : World) (counts : Counts) → IsGoing start s.group contents x [] counts → KeepsTurn (again x counts)) →
      KeepsTurn (with_tree gas t rest again)
  after_tree contents few gas (completed last) rest again k h =
      applied_keeps _ (again last.world last.counts) (h last.world last.counts k)
  after_tree contents few gas (broken_off count failure) rest again k h = tt
  after_tree contents few gas stuck_walk rest again k h = k

  pub turn_keeps : (cs : List Content) (contents : ℕ) (w : World) (counts : Counts) → contents + length cs ≤ 1000 →
      All IsContent cs → IsGoing start s.group contents w [] counts → KeepsTurn (in_turn s cs w counts)
  turn_keeps [] contents w counts few all g = (g.good, g.kept)
  turn_keeps (c ∷ cs) contents w counts few all g =
      let less : suc contents ≤ 1000 = omega arith in
      after_tree (suc contents) less (unsigned_abs c.gas) (tree s w (ordered c.action ∷ []) (unsigned_abs c.gas) counts) cs
      (in_turn s cs)
      (tree_keeps (suc contents) less w (ordered c.action ∷ []) (unsigned_abs c.gas) counts
      (begins contents w c.action counts (All-head IsContent c cs all).2 g))
      (λ x counts h. turn_keeps cs (suc contents) x counts (omega arith) (All-tail IsContent c cs all) h)
