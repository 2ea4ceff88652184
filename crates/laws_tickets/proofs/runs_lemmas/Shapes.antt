-- The stacks that instructions ask for, branches, and what works under the top of the stack.
use Rattle.std.proofs.Common.{◌≡◌, ℕ, Bool, true, false, ◌&&◌, List, [], ◌∷◌, ◌++◌, refl, sym, ap, ◌∙◌, append_assoc, arith}
use Rattle.std.specs.Prelude.{◌+ℤ◌, nat_le, length, take, drop}
use Rattle.std.specs.List.{flat_map}
use Rattle.std.proofs.Math.IntN.{+ℤ_assoc}
use Rattle.std.proofs.lemmas.List.{take-append-drop}
use Rattle.rules_text.specs.nodes.Tree.{Trees, seq}
use Rattle.rules_data.specs.declared.gas.Kind.TheVariants as g
use Rattle.rules_data.specs.types.Kind.{Kind}
use Rattle.rules_data.specs.types.Kind as k
use Rattle.rules_code.specs.instructions.Types as t
use Rattle.rules_code.specs.instructions.Same.{same_kind}
use Rattle.rules_data.specs.values.Val.{Val, Vals, no_val, more_vals}
use Rattle.rules_data.specs.values.Val as v
use Rattle.rules_data.specs.values.Tickets.{Identity, tickets, all_tickets}
use Rattle.rules_code.specs.evaluation.Operations.{Tally}
use Rattle.rules_code.specs.evaluation.Outcome.{Outcome, Run}
use Rattle.rules_code.specs.evaluation.Shapes.{on_top, on_truth, on_option, on_union, on_list, on_call, on_capture}
use Rattle.rules_code.specs.evaluation.Branches.{chosen, if_run, if_none_run, if_left_run, if_cons_run, dip_run}
use Rattle.laws_tickets.specs.totals.Totals.{amount_on, told, total}
use Rattle.laws_tickets.proofs.totals.ForCallers.{on_append, agree_append, agree_take, agree_drop}
use Rattle.laws_tickets.proofs.runs_lemmas.Stands.{Aim, Stands, Keeps, KeepsRun, restands, here, stands_here, keeps_after, keeps_only_if, keeps_paid}

-- ---- stacks

module _ (p q : Aim) where
  pub keeps_top : (A : List Kind) (V : List Val) (m : Tally) (go : Kind → List Kind → Val → List Val → Outcome) → Stands p A V m →
      ((a : Kind) (B : List Kind) (x : Val) (W : List Val) → Stands p (a ∷ B) (x ∷ W) m → Keeps q (go a B x W)) → Keeps q
      (on_top A V go)
  keeps_top (a ∷ A) (x ∷ V) m go s h = h a A x V s
  keeps_top [] V m go s h = tt
  keeps_top (a ∷ A) [] m go s h = tt

  pub keeps_truth : (A : List Kind) (V : List Val) (m : Tally) (go : List Kind → Bool → List Val → Outcome) → Stands p A V m →
      ((B : List Kind) (b : Bool) (W : List Val) → Stands p B W m → Keeps q (go B b W)) → Keeps q (on_truth A V go)
  keeps_truth (t.bool ∷ A) (v.truth b ∷ V) m go s h = h A b V (restands A V s.agree.1 refl s)
  keeps_truth _ _ m go s h = tt

  pub keeps_option : (A : List Kind) (V : List Val) (m : Tally) (without : List Kind → List Val → Outcome)
      (with : Kind → List Kind → Val → List Val → Outcome) → Stands p A V m →
      ((B : List Kind) (W : List Val) → Stands p B W m → Keeps q (without B W)) → ((a : Kind) (B : List Kind) (x : Val)
      (W : List Val) → Stands p (a ∷ B) (x ∷ W) m → Keeps q (with a B x W)) →
      Keeps q (on_option A V without with)
  keeps_option (k.option a ∷ A) (v.nothing ∷ V) m without with s h i = h A V (restands A V s.agree.1 refl s)
  keeps_option (k.option a ∷ A) (v.some x ∷ V) m without with s h i = i a A x V (restands (a ∷ A) (x ∷ V) s.agree refl s)
  keeps_option _ _ m without with s h i = tt

  pub keeps_union : (A : List Kind) (V : List Val) (m : Tally) (l r : Kind → Kind → List Kind → Val → List Val → Outcome) →
      Stands p A V m →
      ((a b : Kind) (B : List Kind) (x : Val) (W : List Val) → A ≡ k.or a b ∷ B → Stands p (a ∷ B) (x ∷ W) m → Keeps q
      (l a b B x W)) →
      ((a b : Kind) (B : List Kind) (x : Val) (W : List Val) → A ≡ k.or a b ∷ B → Stands p (b ∷ B) (x ∷ W) m → Keeps q
      (r a b B x W)) →
      Keeps q (on_union A V l r)
  keeps_union (k.or a b ∷ A) (v.left x ∷ V) m l r s h i = h a b A x V refl (restands (a ∷ A) (x ∷ V) s.agree refl s)
  keeps_union (k.or a b ∷ A) (v.right x ∷ V) m l r s h i = i a b A x V refl (restands (b ∷ A) (x ∷ V) s.agree refl s)
  keeps_union _ _ m l r s h i = tt

  pub keeps_list : (A : List Kind) (V : List Val) (m : Tally) (some : Kind → List Kind → Val → Vals → List Val → Outcome)
      (none : List Kind → List Val → Outcome) → Stands p A V m →
      ((a : Kind) (B : List Kind) (x : Val) (xs : Vals) (W : List Val) → Stands p (a ∷ k.list a ∷ B)
      (x ∷ v.list xs ∷ W) m → Keeps q (some a B x xs W)) →
      ((B : List Kind) (W : List Val) → Stands p B W m → Keeps q (none B W)) → Keeps q (on_list A V some none)
  keeps_list (k.list a ∷ A) (v.list (more_vals x xs) ∷ V) m some none s h i =
      h a A x xs V (restands (a ∷ k.list a ∷ A) (x ∷ v.list xs ∷ V) (s.agree.0.0, (s.agree.0.1, s.agree.1))
      (sym (append_assoc (tickets x) (all_tickets xs) (flat_map tickets V))) s)
  keeps_list (k.list a ∷ A) (v.list no_val ∷ V) m some none s h i = i A V (restands A V s.agree.1 refl s)
  keeps_list _ _ m some none s h i = tt

  pub keeps_call : (A : List Kind) (V : List Val) (m : Tally)
      (go : Kind → Kind → List Kind → Val → Trees → Bool → List Val → Outcome) → Stands p A V m →
      ((a r : Kind) (B : List Kind) (x : Val) (body : Trees) (self : Bool) (W : List Val) → Stands p (a ∷ B) (x ∷ W) m → Keeps q
      (go a r B x body self W)) → Keeps q (on_call A V go)
  keeps_call (a ∷ k.lambda b r ∷ A) (x ∷ v.lambda (seq body) self ∷ V) m go s h =
      keeps_only_if q (same_kind a b) (go a r A x body self V)
      (λ e. h a r A x body self V (restands (a ∷ A) (x ∷ V) (s.agree.0, s.agree.1.1) refl s))
  keeps_call _ _ m go s h = tt

  pub keeps_capture : (A : List Kind) (V : List Val) (m : Tally)
      (go : Kind → Kind → Kind → List Kind → Val → Trees → Bool → List Val → Outcome) → Stands p A V m →
      ((a b r : Kind) (B : List Kind) (x : Val) (body : Trees) (self : Bool) (W : List Val) → Stands p (a ∷ B) (x ∷ W) m → Keeps q
      (go a b r B x body self W)) → Keeps q (on_capture A V go)
  keeps_capture (a ∷ k.lambda (k.pair c b) r ∷ A) (x ∷ v.lambda (seq body) self ∷ V) m go s h =
      keeps_only_if q (same_kind a c) (go a b r A x body self V)
      (λ e. h a b r A x body self V (restands (a ∷ A) (x ∷ V) (s.agree.0, s.agree.1.1) refl s))
  keeps_capture _ _ m go s h = tt

-- ---- branches

pub keeps_if : (r s : Run) → KeepsRun r → KeepsRun s → KeepsRun (if_run r s)
keeps_if r s h i e d A V m p sees a =
    keeps_truth p p A V m _ a (λ B b W f. keeps_paid p p B W e g.If m _ f (λ n j. by_truth B b W n j))
  where
    by_truth : (B : List Kind) (b : Bool) (W : List Val) (n : Tally) → Stands p B W n → Keeps p (chosen b r s e d B W n)
    by_truth B true W n j = h e d B W n p sees j
    by_truth B false W n j = i e d B W n p sees j

pub keeps_if_none : (r s : Run) → KeepsRun r → KeepsRun s → KeepsRun (if_none_run r s)
keeps_if_none r s h i e d A V m p sees a =
    keeps_option p p A V m _ _ a
    (λ B W f. keeps_paid p p B W e g.IfNone m _ f (λ n j. h e d B W n p sees j))
    (λ b B x W f. keeps_paid p p (b ∷ B) (x ∷ W) e g.IfNone m _ f (λ n j. i e d (b ∷ B) (x ∷ W) n p sees j))

pub keeps_if_left : (r s : Run) → KeepsRun r → KeepsRun s → KeepsRun (if_left_run r s)
keeps_if_left r s h i e d A V m p sees a =
    keeps_union p p A V m _ _ a
    (λ b c B x W z f. keeps_paid p p (b ∷ B) (x ∷ W) e g.IfLeft m _ f (λ n j. h e d (b ∷ B) (x ∷ W) n p sees j))
    (λ b c B x W z f. keeps_paid p p (c ∷ B) (x ∷ W) e g.IfLeft m _ f (λ n j. i e d (c ∷ B) (x ∷ W) n p sees j))

pub keeps_if_cons : (r s : Run) → KeepsRun r → KeepsRun s → KeepsRun (if_cons_run r s)
keeps_if_cons r s h i e d A V m p sees a =
    keeps_list p p A V m _ _ a
    (λ b B x xs W f. keeps_paid p p (b ∷ k.list b ∷ B) (x ∷ v.list xs ∷ W) e g.IfCons m _ f
    (λ n j. h e d (b ∷ k.list b ∷ B) (x ∷ v.list xs ∷ W) n p sees j))
    (λ B W f. keeps_paid p p B W e g.IfCons m _ f (λ n j. i e d B W n p sees j))

-- ---- DIP

-- values above a stack
pub above_total : (id : Identity) (W V : List Val) (m : Tally) → total id (W ++ V) m ≡ amount_on id W +ℤ total id V m
above_total id W V m = ap (λ z. z +ℤ told id m) (on_append id W V) ∙ +ℤ_assoc (amount_on id W) (amount_on id V) (told id m)

parted_total : (id : Identity) (n : ℕ) (V : List Val) (m : Tally) →
    total id V m ≡ amount_on id (take n V) +ℤ total id (drop n V) m
parted_total id n V m = ap (λ W. total id W m) (sym (take-append-drop n V)) ∙ above_total id (take n V) (drop n V) m

pub keeps_dip : (n : ℕ) (r : Run) → KeepsRun r → KeepsRun (dip_run n r)
keeps_dip n r h e d A V m p sees a =
    keeps_only_if p (nat_le n (length A) && nat_le n (length V)) _ (λ f. keeps_paid p p A V e g.Dip m _ a (λ i b.
    keeps_after (here (drop n V) i) p _ _ (h e d (drop n A) (drop n V) i (here (drop n V) i) sees
    (stands_here (drop n A) (drop n V) i (agree_drop n A V b.agree))) (λ B W j c.
    record {
      agree = agree_append (take n A) B (take n V) W (agree_take n A V b.agree) c.agree;
      same = λ id. above_total id (take n V) W j ∙ ap (λ z. amount_on id (take n V) +ℤ z) (c.same id) ∙ sym
          (parted_total id n V i) ∙ b.same id;
      numbers = λ f. c.numbers (b.numbers f);
      many = omega (arith, b.many, c.many);
    })))
