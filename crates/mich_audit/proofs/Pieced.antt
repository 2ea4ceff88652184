-- What a piece of a text tells.
use Rattle.std.proofs.Common.{◌≡◌, ℕ, Bool, true, false, List, [], ◌∷◌, length, Result, Ok, Err, IfOk, Option, Some, None, refl, sym, ap, ◌∙◌, subst}
use Rattle.rules_text.specs.nodes.Tree.{Tree}
use Rattle.mich_base.specs.View.{tree}
use Rattle.mich_base.specs.declared.memory.Memory.{Memory}
use Rattle.mich_base.specs.declared.node.Node.{Node}
use Rattle.mich_text.specs.Written.{HasTextForm}
use Rattle.mich_text.proofs.ForCallers.{can_be_written, one_statement}
use Rattle.rules_audit.specs.Lines.{Line, line_of}
use Rattle.rules_audit.specs.Form.{Holds, Tells, can_follow}
use Rattle.mich_text.specs.Parts.{IsAlone, IsAloneRead}
use Rattle.mich_audit.specs.Tallies.{HaveForms, IsTally, IsTaken, IsPieceTaken}
use Rattle.mich_audit.specs.declared.tally.Tally.{Tally}
use Rattle.mich_audit.proofs.Forms.{line_forms}

holds : (piece : List ℕ) (t : Tree) → IsAlone piece t → Holds piece t
holds piece t a = record { start = a.0; node = a.1; bare = a.2 }

same_node : (piece : List ℕ) (t u : Tree) → IsAlone piece t → Holds piece u → u ≡ t
same_node piece t u a h = (one_statement piece u t h.start 0 a.0 0 h.node.stands a.1.stands).0

same_some : (l m : Line) → Some l ≡ Some m → l ≡ m
same_some l m e = cc

module _ (before : List Line) (piece : List ℕ) where
  -- the line of a statement that stands alone
  line_told : (t : Tree) (l m : Line) → IsAlone piece t → Some l ≡ line_of t → Tells (Some piece) m → m ≡ l
  line_told t l m a e tells = same_some m l (sym tells.2 ∙ ap line_of (same_node piece t tells.0 a tells.1) ∙ sym e)

  taken_as : (t : Tree) (l : Line) (u : Tally) (taken : Bool) → IsAlone piece t → Some l ≡ line_of t → IsTaken before l u taken → IsPieceTaken before piece u taken
  taken_as t l u true a e k = (l, (t, holds piece t a, sym e), k.0, k.1)
  taken_as t l u false a e k = ((λ m tells. ap (can_follow before) (line_told t l m a e tells) ∙ k.0), k.1)

  pub piece_taken : (t : Tree) (l : Line) (u : Tally) (r : Result Bool Memory) → IsAlone piece t → Some l ≡ line_of t → IfOk r (λ taken. IsTaken before l u taken)
      → IfOk r (λ taken. IsPieceTaken before piece u taken)
  piece_taken t l u (Ok taken) a e k = taken_as t l u taken a e k
  piece_taken t l u (Err m) a e k = tt

  pub no_line : (t : Tree) (u : Tally) → IsAlone piece t → None ≡ line_of t → IsTally before u → IsPieceTaken before piece u false
  no_line t u a e it = ((λ m tells. let no_line : None ≡ Some m = e ∙ sym (ap line_of (same_node piece t tells.0 a tells.1)) ∙ tells.2 in absurd cc), it.count)

  pub no_node : (u : Tally) → ((t : Tree) → IsAlone piece t → ⊥) → IsTally before u → IsPieceTaken before piece u false
  no_node u none it = ((λ m tells. absurd (none tells.0 (tells.1.start, tells.1.node, tells.1.bare))), it.count)

pub forms_of : (piece : List ℕ) (t : Tree) (l : Line) → IsAlone piece t → Some l ≡ line_of t → HaveForms l
forms_of piece t l a e = line_forms t l (can_be_written 0 piece t a.0 0 a.1).0 e
