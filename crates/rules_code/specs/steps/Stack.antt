-- The order of the stack, pairs, options, unions and lists (Michelson reference, "Stack operations", "Operations on
-- pairs", "Operations on optional values", "Operations on unions" and "Operations on lists").
use Rattle.std.specs.Prelude.{ℕ, zero, suc, ◌-◌, nat_le, List, [], ◌∷◌, ◌++◌, length, take, drop, insert, remove, slice_get, Option, Some, None, option_map}
use Rattle.rules_data.specs.values.Val.{Val, unit, nothing, some, left, right, both, list, no_val, more_vals}
use Rattle.rules_code.specs.instructions.Straight.{StackRow, PairRow, UnionRow}
use Rattle.rules_code.specs.instructions.Straight as i
use Rattle.rules_code.specs.steps.Step.{Step, wrong, kept, discarding, on_some, where_true}

-- ---- the order of the stack

abbrev pub stack_step : StackRow → List Val → Step
stack_step (i.drop n) V = where_true (nat_le n (length V)) (discarding (take n V) (drop n V))
stack_step (i.dup n) V = on_some (slice_get V (n - 1)) (λ v. kept (v ∷ V))
stack_step i.swap (v ∷ w ∷ V) = kept (w ∷ v ∷ V)
stack_step (i.dig n) V = on_some (slice_get V n) (λ v. kept (v ∷ remove V n))
stack_step (i.dug n) (v ∷ V) = where_true (nat_le n (length V)) (kept (insert V n v))
stack_step i.unit V = kept (unit ∷ V)
stack_step (i.cast a) (v ∷ V) = kept (v ∷ V)
stack_step i.rename (v ∷ V) = kept (v ∷ V)
stack_step _ _ = wrong

-- ---- right combs: the pair of the first part and the comb of the others

-- the comb of a value and the next n
abbrev pub comb : ℕ → Val → List Val → Option Val
comb zero v V = Some v
comb (suc n) v (w ∷ V) = option_map (both v) (comb n w V)
comb (suc n) v [] = None

-- the first n parts of a comb, and the rest of it
abbrev pub parts : ℕ → Val → Option (List Val)
parts zero v = Some (v ∷ [])
parts (suc n) (both v w) = option_map (λ vs. v ∷ vs) (parts n w)
parts _ _ = None

-- a part of a comb, with the parts that are passed before it, and what stands behind it
pub record Part : Type 0 where
  pub before : List Val
  pub found : Val
  pub behind : List Val

abbrev pub passing : Val → Part → Part
passing v p = record p { before = v ∷ p.before }

-- the part with a number: 0 is the whole, 1 its first part, and from 2 on a part of its second part
abbrev pub part_at : ℕ → Val → Option Part
part_at zero v = Some (record { before = []; found = v; behind = [] })
part_at (suc zero) (both v w) = Some (record { before = []; found = v; behind = w ∷ [] })
part_at (suc (suc n)) (both v w) = option_map (passing v) (part_at n w)
part_at _ _ = None

-- a comb with another part in a place, and the part that stood there
pub record Replaced : Type 0 where
  pub comb : Val
  pub old : Val

abbrev pub behind : Val → Replaced → Replaced
behind v r = record r { comb = both v r.comb }

abbrev pub replaced : ℕ → Val → Val → Option Replaced
replaced zero x v = Some (record { comb = x; old = v })
replaced (suc zero) x (both v w) = Some (record { comb = both x w; old = v })
replaced (suc (suc n)) x (both v w) = option_map (behind v) (replaced n x w)
replaced _ _ _ = None

-- ---- pairs

abbrev pub pair_step : PairRow → List Val → Step
pair_step (i.pair n) (v ∷ V) = on_some (comb (n - 1) v V) (λ c. kept (c ∷ drop (n - 1) V))
pair_step (i.unpair n) (v ∷ V) = on_some (parts (n - 1) v) (λ vs. kept (vs ++ V))
pair_step i.car (both v w ∷ V) = discarding (w ∷ []) (v ∷ V)
pair_step i.cdr (both v w ∷ V) = discarding (v ∷ []) (w ∷ V)
pair_step (i.get_part n) (v ∷ V) = on_some (part_at n v) (λ p. discarding (p.before ++ p.behind) (p.found ∷ V))
pair_step (i.update_part n) (x ∷ v ∷ V) = on_some (replaced n x v) (λ r. discarding (r.old ∷ []) (r.comb ∷ V))
pair_step _ _ = wrong

-- ---- options, unions and lists

abbrev pub union_step : UnionRow → List Val → Step
union_step (i.left b) (v ∷ V) = kept (left v ∷ V)
union_step (i.right a) (v ∷ V) = kept (right v ∷ V)
union_step i.some (v ∷ V) = kept (some v ∷ V)
union_step (i.none a) V = kept (nothing ∷ V)
union_step (i.nil a) V = kept (list no_val ∷ V)
union_step i.cons (v ∷ list vs ∷ V) = kept (list (more_vals v vs) ∷ V)
union_step _ _ = wrong
