-- What stands in a file at a place is decided by its bytes up to the first one past a file's limit.
use Rattle.std.proofs.Common.{◌≡◌, ℕ, ◌+◌, ◌-◌, ◌≤◌, ◌<◌, inr, List, ◌++◌, length, drop, Option, Some, None, Result, Ok, Err, sym, subst, arith}
use Rattle.std.proofs.lemmas.List.{length-append, length-drop, drop-append-le}
use Rattle.rules_text.specs.nodes.Limits.{file_limit}
use Rattle.rules_text.specs.nodes.Tree.{Tree}
use Rattle.mich_base.specs.View.{tree}
use Rattle.rules_text.specs.declared.text.TextKind.{TextKind}
use Rattle.rules_text.specs.text.Text.{IsFileLimit, IsFault, IsNode, IsEnd}
use Rattle.mich_text.specs.Results.{IsText}
use Rattle.mich_text.specs.declared.reader.Placed.{Placed}
use Rattle.mich_text.specs.declared.fault.TextError.{TextError}
use Rattle.mich_text.specs.declared.fault.TextError.TheVariants as texts
use Rattle.mich_text.proofs.pieces_lemmas.Stays.{closed_stays, no_end, node_closed, fault_stays}

module _ (bytes more : List ℕ) (place : ℕ) (before : place ≤ file_limit) (past : file_limit < length bytes) where
  same : drop place (bytes ++ more) ≡ drop place bytes ++ more
  same = drop-append-le place bytes more (omega (arith, before, past))

  limit : IsFileLimit place (drop place bytes) (length bytes - file_limit)
  limit = record { left_is = omega (arith, length-drop place bytes, before, past); some = omega (arith, past); here = omega (arith, length-drop place bytes, before, past) }

  pub no_end_there : IsEnd place (drop place bytes) → ⊥
  no_end_there e = no_end place (drop place bytes) (length bytes - file_limit) (inr limit) e

  pub node_there : (t : Tree) (start end : ℕ) → IsNode place (drop place bytes) t start end → IsNode place (drop place (bytes ++ more)) t (start + length more) (end + length more)
  node_there t start end n =
      subst (λ (l : List ℕ). IsNode place l t (start + length more) (end + length more)) (sym same)
      (closed_stays place (drop place bytes) more t start end (node_closed place (drop place bytes) (length bytes - file_limit) (inr limit) t start end n)).node

  pub fault_there : (kind : TextKind) (left : ℕ) → IsFault place (drop place bytes) kind left → IsFault place (drop place (bytes ++ more)) kind (left + length more)
  fault_there kind left f =
      subst (λ (l : List ℕ). IsFault place l kind (left + length more)) (sym same) (fault_stays place (drop place bytes) more (length bytes - file_limit) (inr limit) kind left f)

pub file_decides : (bytes more : List ℕ) (place : ℕ) (r : Result (Option Placed) TextError) → place ≤ file_limit → file_limit < length bytes → IsText bytes place r → IsText (bytes ++ more) place r
file_decides bytes more place (Ok None) before past e = absurd (no_end_there bytes more place before past e)
file_decides bytes more place (Ok (Some placed)) before past (start, end, n, s, e) =
    (start + length more, end + length more, node_there bytes more place before past (tree placed.node) start end n, omega (arith, s, length-append bytes more), omega (arith, e, length-append bytes more))
file_decides bytes more place (Err texts.Memory) before past e = tt
file_decides bytes more place (Err (texts.Fault kind at)) before past (left, f, e) = (left + length more, fault_there bytes more place before past kind left f, omega (arith, e, length-append bytes more))
