-- How large literals, bodies and scripts of typed code that runs are, and what EXEC and APPLY find on the stack.
use Rattle.std.proofs.Common.{◌≡◌, ◌<◌, ◌+◌, ◌^◌, ℕ, Bool, List, ◌∷◌, arith}
use Rattle.rules_text.specs.nodes.Tree.{Tree, int, str, bytes, prim, seq, Trees, none, more, size, sizes}
use Rattle.rules_data.specs.types.Kind.{Kind}
use Rattle.rules_data.specs.types.Kind as k
use Rattle.rules_data.specs.types.Entrypoints.{Entry}
use Rattle.rules_data.specs.values.Val.{Val}
use Rattle.rules_data.specs.values.Val as v
use Rattle.rules_code.specs.typing.Fits.{Fits}
use Rattle.rules_code.specs.evaluation.Operations.{Tally}
use Rattle.rules_code.specs.evaluation.Outcome.{Outcome}
use Rattle.laws_code.specs.evaluation.Laws.{known}
use Rattle.mich_instr.specs.Code.{Codes, ViewCodes}
use Rattle.mich_instr.specs.Code as made
use Rattle.mich_instr.specs.Plain.{bare, bares}
use Rattle.mich_instr.specs.Typed.{is_push, is_lambda, is_exec, is_apply, is_create}
use Rattle.mich_frames.specs.Around.{Around}
use Rattle.mich_frames.specs.Frames.{Frame}
use Rattle.mich_frames.specs.Stands.{MeetsAt}
use Rattle.mich_frames.proofs.Made.{FineCase, meets_fine}

mutual
  pub size_bare : (t : Tree) → size (bare t) ≡ size t
  size_bare (int n) = omega arith
  size_bare (str s) = omega arith
  size_bare (bytes b) = omega arith
  size_bare (prim name annots ts) = let e = sizes_bare ts in omega (arith, e)
  size_bare (seq ts) = let e = sizes_bare ts in omega (arith, e)

  sizes_bare : (ts : Trees) → sizes (bares ts) ≡ sizes ts
  sizes_bare none = omega arith
  sizes_bare (more t ts) = let e = size_bare t in let g = sizes_bare ts in omega (arith, e, g)

module _ {fs : List Frame} {u : Around} {V : List Val} {m : Tally} {d : ℕ} {Z : List Kind} {o : Outcome} where
  -- the type and the literal together
  pub push_small : {a : Kind} {w x : Tree} {is : Codes} → MeetsAt (made.push a w x is) fs u V m d Z o → 1 + size w + size x < 2 ^ 32
  push_small {a = a} {w = w} {x = x} {is = is} h = by a w x is h.pending h.context h.node h.types h.next h.fine h.rests h.depth h.same h.typed h.small h.holds
    where
      by : (a : Kind) (w x : Tree) (is : Codes) → FineCase (made.push a w x is) fs u V m d Z o (1 + size w + size x < 2 ^ 32)
      by _ _ x _ ps c _ _ _ (is_push {t = y} form found_is goes_is reads held) rests depth same typed small holds = let e = size_bare y in omega (arith, e, small)

  pub lambda_small : {recursive : Bool} {a r : Kind} {written : Trees} {body : Tree} {is : Codes} → MeetsAt (made.lambda recursive a r written body is) fs u V m d Z o → size body < 2 ^ 32
  lambda_small {recursive = recursive} {a = a} {r = r} {written = written} {body = body} {is = is} h =
      by a r written body h.pending h.context h.node h.types h.next h.fine h.rests h.depth h.same h.typed h.small h.holds
    where
      by : (a r : Kind) (written : Trees) (body : Tree) → FineCase (made.lambda recursive a r written body is) fs u V m d Z o (size body < 2 ^ 32)
      by _ _ _ _ ps c _ _ _ (is_lambda {ts = ts} form found_is fine) rests depth same typed small holds = omega (arith, small)

  pub create_small : {p g : Kind} {es : List Entry} {is : Codes} {vs : ViewCodes} {script : Tree} → MeetsAt (made.create_contract (made.script script p es g is vs)) fs u V m d Z o → size script < 2 ^ 32
  create_small {p = p} {g = g} {es = es} {is = is} {vs = vs} {script = script} h = meets_fine h by
    where
      by : FineCase (made.create_contract (made.script script p es g is vs)) fs u V m d Z o (size script < 2 ^ 32)
      by ps c _ _ _ (is_create form goes_is fine) rests depth same typed small holds = omega (arith, small)

module _ {fs : List Frame} {u : Around} {m : Tally} {d : ℕ} {Z : List Kind} {o : Outcome} (x : Val) (ts : Trees) (recursive : Bool) (W : List Val) where
  -- the argument has its type, and the lambda one of a function of that
  pub exec_fits : {a r : Kind} → MeetsAt (made.exec a r) fs u (x ∷ v.lambda (seq ts) recursive ∷ W) m d Z o →
      Fits (known u.contract_at m.issued) a x × Fits (known u.contract_at m.issued) (k.lambda a r) (v.lambda (seq ts) recursive)
  exec_fits {a = a} {r = r} h = meets_fine h by
    where
      by : FineCase (made.exec a r) fs u (x ∷ v.lambda (seq ts) recursive ∷ W) m d Z o (Fits (known u.contract_at m.issued) a x × Fits (known u.contract_at m.issued) (k.lambda a r) (v.lambda (seq ts) recursive))
      by ps c _ _ _ (is_exec form) rests depth same typed small holds = (holds.fits.0, holds.fits.1.0)

  pub exec_small : {a r : Kind} → MeetsAt (made.exec a r) fs u (x ∷ v.lambda (seq ts) recursive ∷ W) m d Z o → size (seq ts) < 2 ^ 32
  exec_small h = (exec_fits h).1.1

  pub apply_fits : {a b r : Kind} → MeetsAt (made.apply a b r) fs u (x ∷ v.lambda (seq ts) recursive ∷ W) m d Z o →
      Fits (known u.contract_at m.issued) a x × Fits (known u.contract_at m.issued) (k.lambda (k.pair a b) r) (v.lambda (seq ts) recursive)
  apply_fits {a = a} {b = b} {r = r} h = meets_fine h by
    where
      by : FineCase (made.apply a b r) fs u (x ∷ v.lambda (seq ts) recursive ∷ W) m d Z o (Fits (known u.contract_at m.issued) a x × Fits (known u.contract_at m.issued) (k.lambda (k.pair a b) r) (v.lambda (seq ts) recursive))
      by ps c _ _ _ (is_apply form) rests depth same typed small holds = (holds.fits.0, holds.fits.1.0)
