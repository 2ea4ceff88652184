-- The world that a file reaches can be kept.
use Rattle.std.proofs.Common.{◌≡◌, ◌≤◌, ◌<◌, ◌+◌, ◌⊎◌, inl, inr, ℕ, zero, suc, List, [], ◌∷◌, take, refl, ap, ◌∙◌, arith}
use Rattle.std.specs.Int.{w64, to_be_bytes}
use Rattle.std.specs.List.{All, AllByRecursion}
use Rattle.rules_text.specs.nodes.Limits.{type_limit}
use Rattle.rules_text.specs.nodes.Tree.{Tree, int, str, bytes, prim, seq}
use Rattle.rules_data.specs.types.Kind.{nodes}
use Rattle.rules_data.specs.values.Tickets.{Held}
use Rattle.rules_code.specs.instructions.Arguments.{found}
use Rattle.rules_code.specs.steps.Changes.{Change, minted, burnt, identity_of}
use Rattle.rules_code.specs.typing.Nodes.{script}
use Rattle.rules_code.specs.typing.Scripts.{Script}
use Rattle.rules_code.specs.evaluation.Operations.{new_contract}
use Rattle.rules_code.specs.evaluation.Surroundings.{Contract}
use Rattle.rules_world.specs.world.World.{World}
use Rattle.rules_world.specs.world.Good.{IsGoodContract, IsNewGroup}
use Rattle.rules_files.specs.course.Course.{Course}
use Rattle.rules_files.specs.snapshots.Reading.{content_nodes}
use Rattle.laws_commands.specs.written.Written.{HasIssuer, HasForm, IsMinted, IsWrittenChange}
use Rattle.laws_commands.specs.written.Worlds.{IsThere, IsMade, IsWrittenAt, IsWrittenWorld}
use Rattle.laws_commands.proofs.written_lemmas.values.Levels.{text_form}
use Rattle.mich_text.specs.Written.{CanBeWritten}
use Rattle.laws_commands.specs.reached.Kept.{CanBeCounted, IsPast, IsKeptContract, IsKeptIdentity, IsKeptChange, IsKept}
use Rattle.laws_commands.proofs.reached_lemmas.Courses.{IsBehind}
use Rattle.laws_commands.proofs.reached_lemmas.Lists.{each_in, here}
use Rattle.laws_commands.proofs.common.Numbers.{split}

-- a script is a sequence
script_written : (t : Tree) (x : Script) → script t ≡ found x → HasForm t → CanBeWritten t
script_written (seq ts) x e h = (text_form (seq ts) h, h.1)
script_written (int n) x e h = absurd cc
script_written (str s) x e h = absurd cc
script_written (bytes b) x e h = absurd cc
script_written (prim name annots ts) x e h = absurd cc

-- ---- the groups of contracts

zero_or : (n : ℕ) → (n ≡ 0) ⊎ (1 ≤ n)
zero_or zero = inl refl
zero_or (suc n) = inr (omega arith)

first_bytes : (group index : ℕ) (hash : List ℕ) → hash ≡ new_contract group index → take 8 hash ≡ to_be_bytes w64 group
first_bytes group index hash e = ap (λ (h : List ℕ). take 8 h) e

module _ (c : Course) (behind : IsBehind c) (d : List ℕ × Contract)
    (new : (number : ℕ) → IsNewGroup number c.world → ¬ (take 8 d.0 ≡ to_be_bytes w64 number)) (made : IsMade d.0) where
  some_group : 1 ≤ made.0
  some_group = by (zero_or made.0)
    where
      by : (made.0 ≡ 0) ⊎ (1 ≤ made.0) → 1 ≤ made.0
      by (inr h) = h
      by (inl e) = absurd (new 0 behind.zero (first_bytes made.0 made.1 d.0 made.3 ∙ ap (to_be_bytes w64) e))

  past_group : made.0 ≤ c.groups
  past_group = by (split made.0 c.groups)
    where
      by : (made.0 ≤ c.groups) ⊎ (c.groups < made.0) → made.0 ≤ c.groups
      by (inl h) = h
      by (inr h) = absurd (new made.0 (behind.good.new made.0 h made.2) (first_bytes made.0 made.1 d.0 made.3))

  is_past : IsPast c.groups d.0
  is_past = (made.0, made.1, some_group, past_group, made.3)

-- ---- tickets that were minted

fewer : (n : ℕ) → n + 1 ≤ type_limit → n ≤ content_nodes
fewer n h = omega (arith, h)

minted_kept : (w : World) (t : Held) → IsMinted t → HasIssuer (IsThere w) (minted t) → IsKeptIdentity w (identity_of t)
minted_kept w t m there = (there, m.1, fewer (nodes t.kind) m.2, m.3)

log_kept : (w : World) (cs : List Change) → AllByRecursion IsWrittenChange cs → AllByRecursion (HasIssuer (IsThere w)) cs → AllByRecursion (IsKeptChange w) cs
log_kept w [] h g = tt
log_kept w (minted t ∷ cs) h g = (minted_kept w t h.0.1 g.0, log_kept w cs h.1 g.1)
log_kept w (burnt t ∷ cs) h g = (tt, log_kept w cs h.1 g.1)

-- ---- the world

pub world_kept : (c : Course) → IsBehind c → IsWrittenWorld c.world → All (λ d. CanBeCounted d.1.storage) c.world.contracts →
    IsKept c.groups c.world
world_kept c behind written counted = record {
  level = written.level;
  contracts = each_in (IsKeptContract c.groups) c.world.contracts (λ before after d e.
      let form = here IsWrittenAt c.world.contracts before after d e written.contracts in
      let good = here (IsGoodContract c.world) c.world.contracts before after d e behind.good.whole.good.sound.contracts in (
        is_past c behind d (λ number all. here (λ d. ¬ (take 8 d.0 ≡ to_be_bytes w64 number)) c.world.contracts before after d e all) form.2,
        script_written d.1.script good.0 good.1 form.1.0,
        form.1.1,
        here (λ d. CanBeCounted d.1.storage) c.world.contracts before after d e counted,
        form.1.2,
      ));
  log = log_kept c.world c.world.log written.log written.issuers;
}
