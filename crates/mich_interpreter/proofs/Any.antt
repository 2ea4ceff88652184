-- Steps on any stack that is met.
use Rattle.std.proofs.Common.{◌≡◌, ℕ, Bool, true, false, List, [], ◌∷◌, sym, ap, ◌∙◌, subst}
use Rattle.rules_data.specs.declared.gas.Kind.TheVariants as g
use Rattle.rules_data.specs.types.Kind.{Kind}
use Rattle.rules_data.specs.values.Val.{Val, no_val, more_vals}
use Rattle.rules_data.specs.values.Val as v
use Rattle.rules_code.specs.steps.Failure as f
use Rattle.rules_code.specs.evaluation.Operations.{Tally}
use Rattle.rules_code.specs.evaluation.Outcome.{Outcome, failed}
use Rattle.mich_instr.specs.Code.{Codes}
use Rattle.mich_instr.specs.Code as made
use Rattle.mich_frames.specs.Around.{Around, less, Pays, Lacks}
use Rattle.mich_frames.specs.Frames.{Frame}
use Rattle.mich_frames.specs.Frames as fr
use Rattle.mich_frames.specs.Stands.{StandsAt, MeetsAt, OpensAt}
use Rattle.mich_frames.specs.Shapes.{HasTop, HasTruth, HasOption, HasUnion, HasItems, HasList, HasMapped}
use Rattle.mich_frames.proofs.ForCallers.{if_broke, if_none_opens, if_some_opens, if_none_broke, if_some_broke, if_left_opens, if_right_opens, if_left_broke, if_right_broke, if_cons_opens, if_empty_opens, if_cons_broke, if_empty_broke, turns_end, turns_broke, turn_opens, loop_acts, loop_broke, loop_left_acts, loop_left_broke, loop_right_acts, loop_right_broke, left_turns_end, left_turns_broke, left_turn_opens, iter_broke, each_broke, fail_broke, map_broke}
use Rattle.mich_interpreter.specs.Items.{IsNotEmpty}
use Rattle.mich_interpreter.specs.Parts.{is_true_top, is_left_top, is_none_top, is_cons_top, opened}

-- the truth on top is known
true_there : (b c : Bool) {V W : List Val} → is_true_top V ≡ b → V ≡ v.truth c ∷ W → V ≡ v.truth b ∷ W
true_there b c {W = W} e f = f ∙ ap (λ a. v.truth a ∷ W) (sym (ap is_true_top f) ∙ e)

module _ {fs : List Frame} {u : Around} {m : Tally} {d : ℕ} {Z : List Kind} {o : Outcome} {is js : Codes} where
  pub if_any_broke : (V : List Val) → Lacks u g.If 0 m → MeetsAt (made.if_bool is js) fs u V m d Z o → HasTruth V → o ≡ failed f.out_of_gas
  if_any_broke (v.truth b ∷ W) lacks h top = if_broke b lacks h
  if_any_broke _ lacks h top = absurd top

  pub option_broke : (V : List Val) → Lacks u g.IfNone 0 m → MeetsAt (made.if_none is js) fs u V m d Z o → HasOption V → o ≡ failed f.out_of_gas
  option_broke (v.nothing ∷ W) lacks h top = if_none_broke lacks h
  option_broke (v.some x ∷ W) lacks h top = if_some_broke x lacks h
  option_broke _ lacks h top = absurd top

  pub none_opens : (V : List Val) → is_none_top V ≡ true → Pays u g.IfNone 0 m → MeetsAt (made.if_none is js) fs u V m d Z o → OpensAt is fs u (opened V) (less u g.IfNone 0 m) d Z o
  none_opens (v.nothing ∷ W) e pays h = if_none_opens pays h
  none_opens _ e pays h = absurd cc

  pub some_opens : (V : List Val) → is_none_top V ≡ false → Pays u g.IfNone 0 m → MeetsAt (made.if_none is js) fs u V m d Z o → HasOption V → OpensAt js fs u (opened V) (less u g.IfNone 0 m) d Z o
  some_opens (v.some x ∷ W) e pays h top = if_some_opens x pays h
  some_opens (v.nothing ∷ W) e pays h top = absurd cc
  some_opens _ e pays h top = absurd top

  pub union_broke : (V : List Val) → Lacks u g.IfLeft 0 m → MeetsAt (made.if_left is js) fs u V m d Z o → HasUnion V → o ≡ failed f.out_of_gas
  union_broke (v.left x ∷ W) lacks h top = if_left_broke x lacks h
  union_broke (v.right x ∷ W) lacks h top = if_right_broke x lacks h
  union_broke _ lacks h top = absurd top

  pub left_opens : (V : List Val) → is_left_top V ≡ true → Pays u g.IfLeft 0 m → MeetsAt (made.if_left is js) fs u V m d Z o → OpensAt is fs u (opened V) (less u g.IfLeft 0 m) d Z o
  left_opens (v.left x ∷ W) e pays h = if_left_opens x pays h
  left_opens _ e pays h = absurd cc

  pub right_opens : (V : List Val) → is_left_top V ≡ false → Pays u g.IfLeft 0 m → MeetsAt (made.if_left is js) fs u V m d Z o → HasUnion V → OpensAt js fs u (opened V) (less u g.IfLeft 0 m) d Z o
  right_opens (v.right x ∷ W) e pays h top = if_right_opens x pays h
  right_opens (v.left x ∷ W) e pays h top = absurd cc
  right_opens _ e pays h top = absurd top

  pub list_broke : (V : List Val) → Lacks u g.IfCons 0 m → MeetsAt (made.if_cons is js) fs u V m d Z o → HasList V → o ≡ failed f.out_of_gas
  list_broke (v.list no_val ∷ W) lacks h top = if_empty_broke lacks h
  list_broke (v.list (more_vals x xs) ∷ W) lacks h top = if_cons_broke x xs lacks h
  list_broke _ lacks h top = absurd top

  pub cons_opens : (V : List Val) → is_cons_top V ≡ true → Pays u g.IfCons 0 m → MeetsAt (made.if_cons is js) fs u V m d Z o → OpensAt is fs u (opened V) (less u g.IfCons 0 m) d Z o
  cons_opens (v.list (more_vals x xs) ∷ W) e pays h = if_cons_opens x xs pays h
  cons_opens _ e pays h = absurd cc

  pub empty_opens : (V : List Val) → is_cons_top V ≡ false → Pays u g.IfCons 0 m → MeetsAt (made.if_cons is js) fs u V m d Z o → HasList V → OpensAt js fs u (opened V) (less u g.IfCons 0 m) d Z o
  empty_opens (v.list no_val ∷ W) e pays h top = if_empty_opens pays h
  empty_opens (v.list (more_vals x xs) ∷ W) e pays h top = absurd cc
  empty_opens _ e pays h top = absurd top

module _ {fs : List Frame} {u : Around} {m : Tally} {d : ℕ} {Z : List Kind} {o : Outcome} {is : Codes} where
  pub loop_any : (V : List Val) → Pays u g.Loop 0 m → MeetsAt (made.loop is) fs u V m d Z o → HasTruth V → StandsAt (fr.turns is ∷ fs) u V (less u g.Loop 0 m) d Z o
  loop_any (v.truth b ∷ W) pays h top = loop_acts b pays h
  loop_any _ pays h top = absurd top

  pub loop_any_broke : (V : List Val) → Lacks u g.Loop 0 m → MeetsAt (made.loop is) fs u V m d Z o → HasTruth V → o ≡ failed f.out_of_gas
  loop_any_broke (v.truth b ∷ W) lacks h top = loop_broke b lacks h
  loop_any_broke _ lacks h top = absurd top

  pub loop_left_any : (V : List Val) → Pays u g.LoopLeft 0 m → MeetsAt (made.loop_left is) fs u V m d Z o → HasUnion V → StandsAt (fr.left_turns is ∷ fs) u V (less u g.LoopLeft 0 m) d Z o
  loop_left_any (v.left x ∷ W) pays h top = loop_left_acts x pays h
  loop_left_any (v.right x ∷ W) pays h top = loop_right_acts x pays h
  loop_left_any _ pays h top = absurd top

  pub loop_left_any_broke : (V : List Val) → Lacks u g.LoopLeft 0 m → MeetsAt (made.loop_left is) fs u V m d Z o → HasUnion V → o ≡ failed f.out_of_gas
  loop_left_any_broke (v.left x ∷ W) lacks h top = loop_left_broke x lacks h
  loop_left_any_broke (v.right x ∷ W) lacks h top = loop_right_broke x lacks h
  loop_left_any_broke _ lacks h top = absurd top

  pub turn_over : (c : Bool) {V W : List Val} → is_true_top V ≡ false → V ≡ v.truth c ∷ W → StandsAt (fr.turns is ∷ fs) u V m d Z o → StandsAt fs u W m d Z o
  turn_over c e f h = turns_end (subst (λ X. StandsAt (fr.turns is ∷ fs) u X m d Z o) (true_there false c e f) h)

  pub turn_broken : (c : Bool) {V W : List Val} → is_true_top V ≡ true → V ≡ v.truth c ∷ W → Lacks u g.Turn 0 m → StandsAt (fr.turns is ∷ fs) u V m d Z o → o ≡ failed f.out_of_gas
  turn_broken c e f lacks h = turns_broke lacks (subst (λ X. StandsAt (fr.turns is ∷ fs) u X m d Z o) (true_there true c e f) h)

  pub turn_open : (c : Bool) {V W : List Val} → is_true_top V ≡ true → V ≡ v.truth c ∷ W → Pays u g.Turn 0 m → StandsAt (fr.turns is ∷ fs) u V m d Z o → OpensAt is (fr.turns is ∷ fs) u W (less u g.Turn 0 m) d Z o
  turn_open c e f pays h = turn_opens pays (subst (λ X. StandsAt (fr.turns is ∷ fs) u X m d Z o) (true_there true c e f) h)

  pub left_turns_over : (V : List Val) → is_left_top V ≡ false → StandsAt (fr.left_turns is ∷ fs) u V m d Z o → HasUnion V → StandsAt fs u (opened V) m d Z o
  left_turns_over (v.right x ∷ W) e h top = left_turns_end x h
  left_turns_over (v.left x ∷ W) e h top = absurd cc
  left_turns_over _ e h top = absurd top

  pub left_turns_broken : (V : List Val) → is_left_top V ≡ true → Lacks u g.Turn 0 m → StandsAt (fr.left_turns is ∷ fs) u V m d Z o → o ≡ failed f.out_of_gas
  left_turns_broken (v.left x ∷ W) e lacks h = left_turns_broke x lacks h
  left_turns_broken _ e lacks h = absurd cc

  pub left_turns_open : (V : List Val) → is_left_top V ≡ true → Pays u g.Turn 0 m → StandsAt (fr.left_turns is ∷ fs) u V m d Z o → OpensAt is (fr.left_turns is ∷ fs) u (opened V) (less u g.Turn 0 m) d Z o
  left_turns_open (v.left x ∷ W) e pays h = left_turn_opens x pays h
  left_turns_open _ e pays h = absurd cc

  pub iter_any_broke : (V : List Val) → Lacks u g.Iter 0 m → MeetsAt (made.iter is) fs u V m d Z o → HasItems V → o ≡ failed f.out_of_gas
  iter_any_broke [] lacks h top = absurd top
  iter_any_broke (x ∷ W) lacks h top = iter_broke x lacks h

pub items_top : (V : List Val) → HasItems V → HasTop V
items_top [] h = absurd h
items_top (x ∷ W) h = tt

pub items_alone : (x : Val) (W : List Val) → HasItems (x ∷ W) → HasItems (x ∷ [])
items_alone (v.list xs) W h = tt
items_alone (v.set xs) W h = tt
items_alone (v.table es) W h = tt
items_alone _ W h = absurd h

module _ {fs : List Frame} {u : Around} {m : Tally} {d : ℕ} {Z : List Kind} {o : Outcome} {is : Codes} {V : List Val} where
  pub each_any_broke : (xs : List Val) → IsNotEmpty xs → Lacks u g.Turn 0 m → StandsAt (fr.each is xs ∷ fs) u V m d Z o → o ≡ failed f.out_of_gas
  each_any_broke [] more lacks h = absurd more
  each_any_broke (x ∷ xs) more lacks h = each_broke x xs lacks h

module _ {fs : List Frame} {u : Around} {m : Tally} {d : ℕ} {Z : List Kind} {o : Outcome} where
  pub fail_any_broke : {a : Kind} (V : List Val) → Lacks u g.Failwith 0 m → MeetsAt (made.failwith a) fs u V m d Z o → HasTop V → o ≡ failed f.out_of_gas
  fail_any_broke [] lacks h top = absurd top
  fail_any_broke (x ∷ W) lacks h top = fail_broke x lacks h

module _ {fs : List Frame} {u : Around} {m : Tally} {d : ℕ} {Z : List Kind} {o : Outcome} {is : Codes} where
  pub map_any_broke : (V : List Val) → Lacks u g.Map 0 m → MeetsAt (made.map is) fs u V m d Z o → HasMapped V → o ≡ failed f.out_of_gas
  map_any_broke [] lacks h top = absurd top
  map_any_broke (x ∷ W) lacks h top = map_broke x lacks h

pub mapped_top : (V : List Val) → HasMapped V → HasTop V
mapped_top [] h = absurd h
mapped_top (x ∷ W) h = tt

pub mapped_alone : (x : Val) (W : List Val) → HasMapped (x ∷ W) → HasMapped (x ∷ [])
mapped_alone (v.list xs) W h = tt
mapped_alone (v.table es) W h = tt
mapped_alone v.nothing W h = tt
mapped_alone (v.some x) W h = tt
mapped_alone _ W h = absurd h
