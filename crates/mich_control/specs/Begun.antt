-- The stacks that bodies begin with, by what instructions with bodies find.
use Rattle.std.specs.Prelude.{ℕ, Bool, true, false, ◌&&◌, List, [], ◌∷◌, ◌++◌, Option, Some, None}
use Rattle.rules_data.specs.types.Kind.{Kind, option, or, pair, list, set, map, lambda}
use Rattle.rules_data.specs.types.Attributes.{pushable}
use Rattle.rules_data.specs.types.Entrypoints.{Entry, find_entry}
use Rattle.rules_code.specs.instructions.Context.{Context}
use Rattle.rules_code.specs.instructions.Context as standing
use Rattle.rules_code.specs.instructions.Types.{bool, never}
use Rattle.rules_code.specs.instructions.Same.{same_kind}
use Rattle.mich_instr.specs.Code.{Code}
use Rattle.mich_instr.specs.Code as made
use Rattle.mich_control.specs.declared.form.Branch.{Branch}
use Rattle.mich_control.specs.declared.form.Branch.TheVariants as branch
use Rattle.mich_control.specs.declared.form.Bodiless.{Bodiless}
use Rattle.mich_control.specs.declared.form.Bodiless.TheVariants as bodiless
use Rattle.mich_control.specs.declared.form.Loop.{Loop}
use Rattle.mich_control.specs.declared.form.Loop.TheVariants as loop

-- the stacks of the two branches
abbrev pub stacks : List Kind → List Kind → List Kind × List Kind
stacks X Y = (X, Y)

abbrev pub branched : Branch → List Kind → Option (List Kind × List Kind)
branched branch.Bool (bool ∷ A) = Some (stacks A A)
branched branch.None (option a ∷ A) = Some (stacks A (a ∷ A))
branched branch.Left (or a b ∷ A) = Some (stacks (a ∷ A) (b ∷ A))
branched branch.Cons (list a ∷ A) = Some (stacks (a ∷ list a ∷ A) A)
branched b A = None

-- the stack that the body of a loop begins with, the one that it must end with, and the one behind the loop
pub record Turning : Type 0 where
  pub begins : List Kind
  pub ends : List Kind
  pub leaves : List Kind

abbrev pub turning : List Kind → List Kind → List Kind → Turning
turning X Y Z = record { begins = X; ends = Y; leaves = Z }

-- the same on more values below
abbrev pub turning_on : Turning → List Kind → Turning
turning_on t A = turning (t.begins ++ A) (t.ends ++ A) (t.leaves ++ A)

abbrev pub looped : Loop → List Kind → Option Turning
looped loop.Bool (bool ∷ A) = Some (turning A (bool ∷ A) A)
looped loop.Left (or a r ∷ A) = Some (turning (a ∷ A) (or a r ∷ A) (r ∷ A))
looped loop.Parts (list a ∷ A) = Some (turning (a ∷ A) A A)
looped loop.Parts (set a ∷ A) = Some (turning (a ∷ A) A A)
looped loop.Parts (map k v ∷ A) = Some (turning (pair k v ∷ A) A A)
looped l A = None

-- what EXEC, APPLY, FAILWITH and NEVER are on a stack, with the stack after them if they don't fail
pub record Plain : Type 0 where
  pub instruction : Code
  pub leaves : Option (List Kind)

abbrev pub plainly : Code → Option (List Kind) → Plain
plainly i o = record { instruction = i; leaves = o }

abbrev pub where_so : Bool → Plain → Option Plain
where_so true p = Some p
where_so false p = None

abbrev pub on_stack : Bodiless → List Kind → Option Plain
on_stack bodiless.Exec (a ∷ lambda b r ∷ A) = where_so (same_kind a b) (plainly (made.exec b r) (Some (r ∷ A)))
on_stack bodiless.Apply (a ∷ lambda (pair b c) r ∷ A) = where_so (same_kind a b && pushable a) (plainly (made.apply b c r) (Some (lambda c r ∷ A)))
on_stack bodiless.Failwith (a ∷ A) = where_so (pushable a) (plainly (made.failwith a) None)
on_stack bodiless.Never (never ∷ A) = Some (plainly made.never None)
on_stack b A = None

-- a type that is no lambda which takes pairs
abbrev pub IsNoTaker : Kind → Type 0
IsNoTaker (lambda (pair a b) r) = ⊥
IsNoTaker a = Unit {0}

-- the entrypoint of this name where SELF stands; none outside of the code of a script
abbrev pub entry_in : List ℕ → Context → Option Entry
entry_in name (standing.main es) = find_entry name es
entry_in name c = None
