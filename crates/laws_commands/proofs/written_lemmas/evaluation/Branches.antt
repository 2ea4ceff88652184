-- Branches, what works under the top of the stack, and loops over truth values and unions.
use Rattle.std.proofs.Common.{ℕ, zero, suc, pos, Bool, true, false, ◌&&◌, List, [], ◌∷◌, ◌++◌, length, take, drop, arith}
use Rattle.std.specs.Prelude.{◌≤ℤ◌, nat_le}
use Rattle.std.proofs.lemmas.Int.{ints}
use Rattle.rules_data.specs.declared.gas.Kind.TheVariants as price
use Rattle.rules_data.specs.types.Kind.{Kind}
use Rattle.rules_data.specs.types.Kind as k
use Rattle.rules_code.specs.instructions.Types as ty
use Rattle.rules_data.specs.values.Val.{Val, no_val, more_vals}
use Rattle.rules_data.specs.values.Val as v
use Rattle.rules_data.specs.values.Tickets.{Identity, tickets, all_tickets}
use Rattle.rules_code.specs.steps.Changes.{amount_in}
use Rattle.rules_code.specs.typing.Typing.{Typing, Typer, goes, join, ends, under, shift, fails, bad}
use Rattle.rules_code.specs.typing.Fits.{Known, AllFit}
use Rattle.rules_code.specs.typing.Stacks as asked
use Rattle.rules_code.specs.typing.Acts.{dip_type}
use Rattle.rules_code.specs.evaluation.Surroundings.{Surroundings}
use Rattle.rules_code.specs.evaluation.Operations.{Tally}
use Rattle.rules_code.specs.evaluation.Outcome.{stack, Run}
use Rattle.rules_code.specs.evaluation.Branches.{chosen, if_run, if_none_run, if_left_run, if_cons_run, dip_run}
use Rattle.rules_code.specs.evaluation.Loops.{turn_where, turns_run, left_turns_run, loop_run, loop_left_run}
use Rattle.laws_typing.specs.packing.Laws.{IsTyped}
use Rattle.laws_typing.proofs.packing_lemmas.Parts.{joined, ended, below, tested}
use Rattle.laws_data.proofs.amounts.ForCallers.{among_append}
use Rattle.laws_code.specs.evaluation.Laws.{known, amount_on}
use Rattle.laws_code.specs.stacks.Sound.{seen, AllTypes, SafeRun}
use Rattle.laws_code.proofs.control.ForCallers.{fit_drop, types_drop}
use Rattle.laws_code.proofs.control.Branches.{turns_type, left_turns_type}
use Rattle.laws_code.proofs.stacks.ForCallers.{positive, sound_after, sound_with, sound_pop, bool_type, type_option, type_left, type_right, type_list}
use Rattle.laws_commands.specs.written.Written.{IsWritten, AllWritten}
use Rattle.laws_commands.proofs.written_lemmas.evaluation.Stands.{Keeps, Begins, KeepsRun, refuelled, keeps_next, keeps_ending, keeps_only_if, keeps_paid}
use Rattle.laws_commands.proofs.common.Lists.{all_append, all_take, all_drop}

drop_amount : (w : Known) (id : Identity) (n : ℕ) (A : List Kind) (V : List Val) → AllFit w A V → amount_on id (drop n V) ≤ℤ amount_on id V
drop_amount w id zero A V h = omega (arith, ints)
drop_amount w id (suc n) [] [] h = omega (arith, ints)
drop_amount w id (suc n) (a ∷ A) (x ∷ V) h =
    let p : pos 0 ≤ℤ amount_in id x = positive id w a x h.0 in
    let q : amount_on id (drop n V) ≤ℤ amount_on id V = drop_amount w id n A V h.1 in
    omega (arith, ints)
drop_amount w id (suc n) [] (x ∷ V) h = absurd h
drop_amount w id (suc n) (a ∷ A) [] h = absurd h

-- the loop itself, whose body stands at a location
unshifted_ends : (at : ℕ) (T : Typing) (C : List Kind) (U : Typing) → IsTyped (ends (shift at T) C U) → IsTyped (ends T C U)
unshifted_ends at (goes B) C U h = h
unshifted_ends at fails C U h = h
unshifted_ends at (bad l) C U h = absurd h

module _ (There : List ℕ → Type 0) where
  pub begins_with : {e : Surroundings} {A : List Kind} {V : List Val} {m : Tally} (B : List Kind) (W : List Val) → Begins There e A V m →
      AllTypes B →
      AllFit (known e.contract_at m.issued) B W → ((id : Identity) → amount_on id W ≤ℤ amount_on id V) →
      AllWritten W → Begins There e B W m
  begins_with {A = A} {V = V} B W b ts f le w =
      record { good = b.good; sees = b.sees; own = b.own; around = b.around; sound = sound_with A B V W b.sound ts f le; values = w; tally = b.tally }

  pub begins_pop : {e : Surroundings} {m : Tally} (a : Kind) (A : List Kind) (x : Val) (V : List Val) → Begins There e (a ∷ A) (x ∷ V) m →
      Begins There e A V m
  begins_pop {e = e} {m = m} a A x V b = record {
    good = b.good;
    sees = b.sees;
    own = b.own;
    around = b.around;
    sound = sound_pop (seen e) m.issued m.changes a A x V b.sound;
    values = b.values.1;
    tally = b.tally;
  }

  module _ (b c : Typer) (r s : Run) (kr : KeepsRun There b r) (ks : KeepsRun There c s) (e : Surroundings) (d : ℕ) where
    pub keeps_if : (A : List Kind) (V : List Val) (m : Tally) → Begins There e A V m →
        IsTyped (asked.on_bool A (λ A. join (b e.context A) (c e.context A))) →
        Keeps There (if_run r s e d A V m)
    keeps_if (ty.bool ∷ A) (v.truth x ∷ V) m g h =
        keeps_paid There e price.If m _ (λ gas. by x (refuelled There gas (begins_pop ty.bool A (v.truth x) V g)))
      where
        by : (x : Bool) {n : Tally} → Begins There e A V n → Keeps There (chosen x r s e d A V n)
        by true {n} i = kr e d A V n i (joined (b e.context A) (c e.context A) h).0
        by false {n} i = ks e d A V n i (joined (b e.context A) (c e.context A) h).1
    keeps_if _ _ m g h = tt

    pub keeps_if_none : (A : List Kind) (V : List Val) (m : Tally) → Begins There e A V m →
        IsTyped (asked.on_option A (λ a A. join (b e.context A) (c e.context (a ∷ A)))) → Keeps There (if_none_run r s e d A V m)
    keeps_if_none (k.option a ∷ A) (v.nothing ∷ V) m g h =
        keeps_paid There e price.IfNone m _ (λ gas. kr e d A V _ (refuelled There gas (begins_pop (k.option a) A v.nothing V g))
        (joined (b e.context A) (c e.context (a ∷ A)) h).0)
    keeps_if_none (k.option a ∷ A) (v.some x ∷ V) m g h =
        keeps_paid There e price.IfNone m _ (λ gas. ks e d (a ∷ A) (x ∷ V) _
        (refuelled There gas (begins_with (a ∷ A) (x ∷ V) g (type_option a g.sound.types.0, g.sound.types.1) g.sound.fit (λ id. omega (arith, ints))
        g.values))
        (joined (b e.context A) (c e.context (a ∷ A)) h).1)
    keeps_if_none _ _ m g h = tt

    pub keeps_if_left : (A : List Kind) (V : List Val) (m : Tally) → Begins There e A V m →
        IsTyped (asked.on_or A (λ x y A. join (b e.context (x ∷ A)) (c e.context (y ∷ A)))) → Keeps There (if_left_run r s e d A V m)
    keeps_if_left (k.or x y ∷ A) (v.left z ∷ V) m g h =
        keeps_paid There e price.IfLeft m _ (λ gas. kr e d (x ∷ A) (z ∷ V) _
        (refuelled There gas (begins_with (x ∷ A) (z ∷ V) g (type_left x y g.sound.types.0, g.sound.types.1) g.sound.fit (λ id. omega (arith, ints))
        g.values))
        (joined (b e.context (x ∷ A)) (c e.context (y ∷ A)) h).0)
    keeps_if_left (k.or x y ∷ A) (v.right z ∷ V) m g h =
        keeps_paid There e price.IfLeft m _ (λ gas. ks e d (y ∷ A) (z ∷ V) _
        (refuelled There gas (begins_with (y ∷ A) (z ∷ V) g (type_right x y g.sound.types.0, g.sound.types.1) g.sound.fit (λ id. omega (
          arith,
          ints,
        )) g.values))
        (joined (b e.context (x ∷ A)) (c e.context (y ∷ A)) h).1)
    keeps_if_left _ _ m g h = tt

    pub keeps_if_cons : (A : List Kind) (V : List Val) (m : Tally) → Begins There e A V m →
        IsTyped (asked.on_list A (λ a A. join (b e.context (a ∷ k.list a ∷ A)) (c e.context A))) → Keeps There (if_cons_run r s e d A V m)
    keeps_if_cons (k.list a ∷ A) (v.list (more_vals x xs) ∷ V) m g h =
        keeps_paid There e price.IfCons m _ (λ gas. kr e d (a ∷ k.list a ∷ A) (x ∷ v.list xs ∷ V) _
        (refuelled There gas (begins_with (a ∷ k.list a ∷ A) (x ∷ v.list xs ∷ V) g (type_list a g.sound.types.0, (g.sound.types.0, g.sound.types.1))
        (g.sound.fit.0.0, (g.sound.fit.0.1, g.sound.fit.1)) (λ id. omega (arith, ints, among_append id (tickets x) (all_tickets xs)))
        (g.values.0.0, (g.values.0.1, g.values.1))))
        (joined (b e.context (a ∷ k.list a ∷ A)) (c e.context A) h).0)
    keeps_if_cons (k.list a ∷ A) (v.list no_val ∷ V) m g h =
        keeps_paid There e price.IfCons m _ (λ gas. ks e d A V _ (refuelled There gas (begins_pop (k.list a) A (v.list no_val) V g))
        (joined (b e.context (a ∷ k.list a ∷ A)) (c e.context A) h).1)
    keeps_if_cons _ _ m g h = tt

  pub keeps_dip : (b : Typer) (r : Run) → SafeRun b r → KeepsRun There b r → (n : ℕ) → KeepsRun There (λ c A. dip_type n b c A) (dip_run n r)
  keeps_dip b r sr kr n e d A V m g h =
      keeps_only_if There (nat_le n (length A) && nat_le n (length V)) _ (λ q. keeps_paid There e price.Dip m _ (λ gas.
      let i = refuelled There gas (begins_with (drop n A) (drop n V) g (types_drop n A g.sound.types)
      (fit_drop (known e.contract_at m.issued) n A V g.sound.fit)
      (λ id. drop_amount (known e.contract_at m.issued) id n A V g.sound.fit) (all_drop IsWritten n V g.values)) in
      let typed : IsTyped (b e.context (drop n A)) = below (take n A) (b e.context (drop n A))
      (tested (nat_le n (length A)) (under (take n A) (b e.context (drop n A))) h) in
      keeps_next There e (record m { gas = gas }) (drop n V) (b e.context (drop n A)) (r e d (drop n A) (drop n V) (record m { gas = gas }))
      (λ B W m. stack (take n A ++ B) (take n V ++ W) m)
      (sr e d (drop n A) (drop n V) (record m { gas = gas }) i.good i.sound) (kr e d (drop n A) (drop n V) (record m { gas = gas }) i typed)
      typed
      (λ B W n' e a w t. (all_append IsWritten (take n V) W (all_take IsWritten n V g.values) w, t))))

  module _ (b : Typer) (again r : Run) (sr : SafeRun b r) (kr : KeepsRun There b r) where
    pub keeps_turns : KeepsRun There (turns_type b) again → KeepsRun There (turns_type b) (turns_run again r)
    keeps_turns ka e d (ty.bool ∷ A) (v.truth x ∷ V) m g h = by x (begins_pop ty.bool A (v.truth x) V g)
      where
        by : (x : Bool) → Begins There e A V m → Keeps There (turn_where x again r e d A V m)
        by true i = keeps_paid There e price.Turn m _ (λ gas.
            let n : Tally = record m { gas = gas } in
            let typed : IsTyped (b e.context A) = ended (b e.context A) (ty.bool ∷ A) (goes A) h in
            keeps_ending There e n V (b e.context A) (r e d A V n) (ty.bool ∷ A) (again e d) (sr e d A V n i.good i.sound)
            (kr e d A V n (refuelled There gas i) typed) typed
            (λ W o a w t. ka e d (ty.bool ∷ A) W o
            (record {
              good = i.good;
              sees = i.sees;
              own = i.own;
              around = i.around;
              sound = sound_after A (ty.bool ∷ A) W o i.sound (bool_type, i.sound.types) a;
              values = w;
              tally = t;
            }) h))
        by false i = (i.values, i.tally)
    keeps_turns ka e d _ _ m g h = tt

    pub keeps_left_turns : KeepsRun There (left_turns_type b) again → KeepsRun There (left_turns_type b) (left_turns_run again r)
    keeps_left_turns ka e d (k.or x y ∷ A) (v.left z ∷ V) m g h =
        let i = begins_with (x ∷ A) (z ∷ V) g (type_left x y g.sound.types.0, g.sound.types.1) g.sound.fit (λ id. omega (arith, ints))
        g.values in
        keeps_paid There e price.Turn m _ (λ gas.
        let n : Tally = record m { gas = gas } in
        let typed : IsTyped (b e.context (x ∷ A)) = ended (b e.context (x ∷ A)) (k.or x y ∷ A) (goes (y ∷ A)) h in
        keeps_ending There e n (z ∷ V) (b e.context (x ∷ A)) (r e d (x ∷ A) (z ∷ V) n) (k.or x y ∷ A) (again e d)
        (sr e d (x ∷ A) (z ∷ V) n i.good i.sound)
        (kr e d (x ∷ A) (z ∷ V) n (refuelled There gas i) typed) typed
        (λ W o a w t. ka e d (k.or x y ∷ A) W o
        (record {
          good = i.good;
          sees = i.sees;
          own = i.own;
          around = i.around;
          sound = sound_after (x ∷ A) (k.or x y ∷ A) W o i.sound g.sound.types a;
          values = w;
          tally = t;
        }) h))
    keeps_left_turns ka e d (k.or x y ∷ A) (v.right z ∷ V) m g h = (g.values, g.tally)
    keeps_left_turns ka e d _ _ m g h = tt

  module _ (at : ℕ) (b : Typer) (again : Run) where
    pub keeps_loop : KeepsRun There (turns_type b) again → KeepsRun There (λ c A. asked.on_bool A (λ A. ends (shift at (b c A)) (ty.bool ∷ A) (goes A)))
        (loop_run again)
    keeps_loop ka e d (ty.bool ∷ A) (v.truth x ∷ V) m g h =
        keeps_paid There e price.Loop m _ (λ gas. ka e d (ty.bool ∷ A) (v.truth x ∷ V) _ (refuelled There gas g)
        (unshifted_ends at (b e.context A) (ty.bool ∷ A) (goes A) h))
    keeps_loop ka e d _ _ m g h = tt

    pub keeps_loop_left : KeepsRun There (left_turns_type b) again →
        KeepsRun There (λ c A. asked.on_or A (λ x y A. ends (shift at (b c (x ∷ A))) (k.or x y ∷ A) (goes (y ∷ A)))) (loop_left_run again)
    keeps_loop_left ka e d (k.or x y ∷ A) (v.left z ∷ V) m g h =
        keeps_paid There e price.LoopLeft m _ (λ gas. ka e d (k.or x y ∷ A) (v.left z ∷ V) _ (refuelled There gas g)
        (unshifted_ends at (b e.context (x ∷ A)) (k.or x y ∷ A) (goes (y ∷ A)) h))
    keeps_loop_left ka e d (k.or x y ∷ A) (v.right z ∷ V) m g h =
        keeps_paid There e price.LoopLeft m _ (λ gas. ka e d (k.or x y ∷ A) (v.right z ∷ V) _ (refuelled There gas g)
        (unshifted_ends at (b e.context (x ∷ A)) (k.or x y ∷ A) (goes (y ∷ A)) h))
    keeps_loop_left ka e d _ _ m g h = tt
