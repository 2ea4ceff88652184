-- What is read of DIP, and what is made of it.
use Rattle.std.specs.Prelude.{◌≡◌, ℕ, ◌+◌, nat_le, true, false, List, [], ◌∷◌, take, drop, length, Option, Some, None, Result, Ok, Err}
use Rattle.rules_text.specs.nodes.Limits.{count_limit}
use Rattle.rules_text.specs.nodes.Tree.{Trees, none, more, size}
use Rattle.rules_data.specs.types.Kind.{Kind}
use Rattle.rules_code.specs.instructions.Arguments.{found, count_argument}
use Rattle.rules_code.specs.instructions.Control.{dip_of}
use Rattle.rules_code.specs.typing.Typing.{shift, under}
use Rattle.mich_base.specs.declared.node.Node.{Node}
use Rattle.mich_base.specs.declared.ty.Ty.{Ty}
use Rattle.mich_base.specs.View.{tree, trees}
use Rattle.mich_overload.specs.View.{kinds}
use Rattle.mich_outline.specs.Answers.{found_from}
use Rattle.mich_instr.specs.Code as made
use Rattle.mich_instr.specs.View.{code, codes}
use Rattle.mich_typed.specs.declared.error.CheckError.{CheckError}
use Rattle.mich_control.specs.declared.dips.Count.{Count}
use Rattle.mich_control.specs.declared.dips.Count.TheVariants as count
use Rattle.mich_control.specs.declared.dips.Dip.{Dip}
use Rattle.mich_typed.specs.declared.made.Body.{Body}
use Rattle.mich_typed.specs.declared.made.Made.{Made}
use Rattle.mich_control.specs.Answers.{IsFault, IsFound, typing}

-- how many values stay as they are
abbrev pub counted : Count → ℕ
counted count.One = 1
counted (count.Written n t) = n

-- the count as it is written
abbrev pub written : Count → Trees
written count.One = none
written (count.Written n t) = more (tree t.now) none

-- the nodes are the count and a body, which stands at a location
abbrev pub IsCount : ℕ → List Node → Count → Node → ℕ → Type 0
IsCount at ns count.One x place = (ns ≡ x ∷ []) × (place ≡ at + 1)
IsCount at ns (count.Written n t) x place =
    (ns ≡ t.now ∷ x ∷ []) × (count_argument 0 count_limit (at + 1) (tree t.now) ≡ found n) × (place ≡ at + 1 + size (tree t.now))

abbrev pub IsDip : ℕ → List Node → Result Dip CheckError → Type 0
IsDip at ns (Ok d) = IsCount at ns d.count d.body.now d.place
IsDip at ns (Err e) = IsFound (λ (n : ℕ). n) (found_from at (dip_of (trees ns))) (Err e)

-- the types on top and those below them, where there are enough
abbrev pub IsSplit : ℕ → List Kind → Option (List Ty × List Ty) → Type 0
IsSplit n A (Some p) = (nat_le n (length A) ≡ true) × (kinds p.0 ≡ take n A) × (kinds p.1 ≡ drop n A)
IsSplit n A None = nat_le n (length A) ≡ false

-- DIP below these types at a location, with its typed body
abbrev pub IsDipped : ℕ → Count → List Kind → Body → Result Made CheckError → Type 0
IsDipped at n U b (Ok m) = (shift at (under U (typing b.after)) ≡ typing m.after) × (code m.instr ≡ made.dip (counted n) (written n) (codes b.code))
IsDipped at n U b (Err e) = IsFault (shift at (under U (typing b.after))) e
