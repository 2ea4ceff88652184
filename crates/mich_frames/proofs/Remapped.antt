-- MAP over a collection that is rebuilt alike.
use Rattle.std.proofs.Common.{◌≡◌, ℕ, suc, List, [], ◌∷◌, ◌++◌, length, refl, sym, ap, ◌∙◌, append_assoc}
use Rattle.std.proofs.Math.Path.{fun_ext}
use Rattle.std.proofs.lemmas.List.{append-nil}
use Rattle.rules_data.specs.declared.gas.Kind.TheVariants as priced
use Rattle.rules_data.specs.types.Kind.{Kind}
use Rattle.rules_code.specs.instructions.Context.{Context}
use Rattle.rules_code.specs.instructions.Same.{same_kinds}
use Rattle.rules_data.specs.values.Val.{Val}
use Rattle.rules_code.specs.evaluation.Surroundings.{Surroundings}
use Rattle.rules_code.specs.evaluation.Operations.{Tally}
use Rattle.rules_code.specs.evaluation.Outcome.{Outcome, Run, stack, after, only_if, charge}
use Rattle.rules_code.specs.evaluation.Shapes.{on_top}
use Rattle.rules_code.specs.evaluation.Items.{with_items, rebuilt}
use Rattle.rules_code.specs.evaluation.Loops.{map_each_run}
use Rattle.mich_instr.specs.Code.{Codes}
use Rattle.mich_frames.specs.Around.{Around, at}
use Rattle.mich_frames.specs.Pending.{Pending, Mapping, depth_of, block_run, resume}
use Rattle.mich_frames.specs.Pending as p
use Rattle.mich_frames.specs.Fine.{IsFine}
use Rattle.mich_frames.specs.Frames.{Frame, Rests}
use Rattle.mich_frames.specs.Frames as fr
use Rattle.mich_frames.specs.Stands.{StandsAt}
use Rattle.mich_frames.proofs.Made.{stands_of}
use Rattle.mich_frames.proofs.Fine.{other_kept}

-- both make the same of these results with so many more
abbrev pub AreAlike : (List Val → Val) → (List Val → Val) → List Val → List Val → Type 0
AreAlike f g ys xs = (zs : List Val) → length zs ≡ length xs → f (ys ++ zs) ≡ g (ys ++ zs)

module _ (r : Run) (a b c : Kind) (f g : List Val → Val) where
  each_alike : (xs ys : List Val) → AreAlike f g ys xs → (e : Surroundings) (d : ℕ) (A : List Kind) (V : List Val) (m : Tally) →
      map_each_run r a b f c ys xs e d A V m ≡ map_each_run r a b g c ys xs e d A V m
  each_alike [] ys h e d A V m = ap (λ y. stack (c ∷ A) (y ∷ V) m) (rw append-nil at (h [] refl))
  each_alike (x ∷ xs) ys h e d A V m =
      let made : (n : Tally) (B : List Kind) (y : Val) (W : List Val) → map_each_run r a b f c (ys ++ y ∷ []) xs e d B W n ≡ map_each_run r a b g c (ys ++ y ∷ []) xs e d B W n =
      λ n B y W. each_alike xs (ys ++ y ∷ []) (λ zs same. rw append_assoc (h (y ∷ zs) (ap suc same))) e d B W n in
      ap (charge e.prices priced.Turn 0 m) (fun_ext (λ n.
      ap (after (r e d (a ∷ A) (x ∷ V) n)) (fun_ext (λ C. fun_ext (λ W. fun_ext (λ k.
      ap (λ go. only_if (same_kinds C (b ∷ A)) (on_top C W go)) (fun_ext (λ z. fun_ext (λ B. fun_ext (λ y. fun_ext (λ X. made k B y X)))))))))))

module _ {fs : List Frame} {u : Around} {m : Tally} {d : ℕ} {Z : List Kind} {o : Outcome} where
  -- the collection that is gone over may be another one that is rebuilt alike
  pub remap : {is : Codes} (over other : Val) (ys xs : List Val) {V : List Val} → AreAlike (rebuilt over) (rebuilt other) ys xs → StandsAt (fr.mapping is over ys xs ∷ fs) u V m d Z o →
      StandsAt (fr.mapping is other ys xs ∷ fs) u V m d Z o
  remap {is = is} over other ys xs {V = V} alike h = by over alike h.pending h.context h.types h.rests h.depth h.same h.holds
    where
      by : (over : Val) → AreAlike (rebuilt over) (rebuilt other) ys xs → (ps : List Pending) (c : Context) (A : List Kind) → Rests (fr.mapping is over ys xs ∷ fs) ps u c A Z → d ≡ depth_of ps → resume ps (at u c) A V m ≡ o → IsFine u c ps A V m.issued m.changes →
          StandsAt (fr.mapping is other ys xs ∷ fs) u V m d Z o
      by _ alike _ c _ (fr.rests_mapping {ps = ps} {m = w} fine rests) depth same holds =
          let w' : Mapping = record w { over = other } in
          stands_of h.runs (p.mapping w' ys xs ∷ ps) c w.below (fr.rests_mapping fine rests) depth
          (ap (λ x. after (only_if (same_kinds w.below w.below) x) (resume ps (at u c)))
          (sym (each_alike (block_run w.body) w.item w.result (with_items w.collection w.result) (rebuilt w.over) (rebuilt other) xs ys alike (at u c) (depth_of ps) w.below V m)) ∙ same) (other_kept other alike holds)
