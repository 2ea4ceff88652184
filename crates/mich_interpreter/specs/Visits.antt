-- Views that are there.
use Rattle.std.specs.Prelude.{◌≡◌, ℕ, List, [], ◌∷◌, Option, Some, None}
use Rattle.rules_text.specs.nodes.Tree.{Trees, seq}
use Rattle.rules_data.specs.types.Kind.{Kind}
use Rattle.rules_data.specs.types.Kind as k
use Rattle.rules_code.specs.instructions.Context as place
use Rattle.rules_code.specs.evaluation.Contracts.{Viewed, viewed}
use Rattle.mich_frames.specs.Views.{view_code}
use Rattle.mich_instr.specs.Typed.{AreCode}
use Rattle.mich_instr.specs.View.{codes, view_codes}
use Rattle.mich_instr.specs.declared.instr.Script.{out-Script}
use Rattle.mich_stack.specs.Views.{seen}
use Rattle.mich_world.specs.declared.contract.Contract.{Contract}
use Rattle.mich_interpreter.specs.View.{Beyond}
use Rattle.mich_interpreter.specs.declared.visits.Visit.{Visit}
use Rattle.mich_world.specs.World.{World}
use Rattle.mich_interpreter.specs.Sees.{Sees}

-- the code of a contract's view of a name with these types, its balance and its storage
pub record IsOf (c : Contract) (twenty name : List ℕ) (a b : Kind) (v : Visit) : Type 0 where
  pub code : view_code name a b (view_codes (out-Script c.script).views) ≡ Some (codes v.code)
  pub hash : v.hash ≡ twenty
  pub balance : v.balance ≡ c.balance
  pub storage : v.storage ≡ c.storage

abbrev pub HasCode : Contract → List ℕ → List ℕ → Kind → Kind → Option Visit → Type 0
HasCode c hash name a b (Some v) = IsOf c hash name a b v
HasCode c hash name a b None = view_code name a b (view_codes (out-Script c.script).views) ≡ None

-- what is visited is the view that the definitions give, with its typed code
pub record Visits (x : Beyond) (a b : Kind) (w : Viewed) (v : Visit) : Type 0 where
  pub hash : w.hash ≡ v.hash
  pub balance : w.contract.balance ≡ v.balance
  pub storage : w.contract.storage ≡ seen x.sight v.storage
  pub nodes : Trees
  pub body : w.body ≡ seq nodes
  pub code : AreCode place.view nodes (codes v.code) (k.pair a w.storage ∷ []) (b ∷ [])

abbrev pub IsVisit : Beyond → Kind → Kind → Option Viewed → Option Visit → Type 0
IsVisit x a b None None = Unit {0}
IsVisit x a b (Some w) (Some v) = Visits x a b w v
IsVisit x a b _ _ = ⊥

-- what is found is the view of a name with these types, at an address as it is spelled
abbrev pub Finds : Beyond → List ℕ → List ℕ → Kind → Kind → Option Visit → Type 0
Finds x address name a b v = IsVisit x a b (viewed x.contract_at name a b address) v

-- the same for whatever sees a world
abbrev pub FindsIn : World → List ℕ → List ℕ → Kind → Kind → Option Visit → Type 0
FindsIn world address name a b v = (x : Beyond) → Sees world x → Finds x address name a b v
