-- MAP: what is made of the items of a collection.
use Rattle.std.proofs.Common.{◌≡◌, ℕ, suc, ◌+◌, ◌≤◌, List, [], ◌∷◌, ◌++◌, Option, Some, None, refl, sym, ap, ◌∙◌, subst, append-nil, arith}
use Rattle.std.specs.Prelude.{ℤ, pos, ◌+ℤ◌, length}
use Rattle.std.specs.List.{flat_map}
use Rattle.std.proofs.Math.IntN.{+ℤ_idl}
use Rattle.std.proofs.lemmas.Int.{ints}
use Rattle.rules_data.specs.declared.gas.Kind.TheVariants as g
use Rattle.rules_data.specs.types.Kind.{Kind}
use Rattle.rules_data.specs.types.Kind as k
use Rattle.rules_data.specs.values.Val.{Val, Pairs, no_pair, more_pairs}
use Rattle.rules_data.specs.values.Val as v
use Rattle.rules_data.specs.values.Tables.{AreKeysAbove, AreIncreasingKeys}
use Rattle.rules_data.specs.values.Tickets.{Identity, tickets, all_tickets, pair_tickets}
use Rattle.rules_data.specs.values.Forms.{AllHave, AllEntriesHave}
use Rattle.rules_code.specs.steps.Changes.{amount_among, amount_in}
use Rattle.rules_code.specs.evaluation.Surroundings.{Surroundings}
use Rattle.rules_code.specs.evaluation.Operations.{Tally}
use Rattle.rules_code.specs.evaluation.Outcome.{Run}
use Rattle.rules_code.specs.evaluation.Shapes.{on_top}
use Rattle.rules_code.specs.evaluation.Items.{Items, entries, mapped_items, with_items, list_of, with_values, rebuilt}
use Rattle.rules_code.specs.evaluation.Loops.{map_each_run, map_run}
use Rattle.laws_tickets.specs.totals.Agreement.{Agrees, AllAgree, SeesAgreement}
use Rattle.laws_tickets.specs.totals.Totals.{amount_on, told, total, AreNumbered}
use Rattle.laws_tickets.proofs.totals.ForCallers.{on_append, on_cons, on_one}
use Rattle.laws_tickets.proofs.runs_lemmas.Stands.{Aim, Stands, Keeps, KeepsRun, here, stands_here, keeps_ending, keeps_unless, keeps_paid}
use Rattle.laws_tickets.proofs.runs_lemmas.Shapes.{keeps_top}
use Rattle.laws_tickets.proofs.runs_lemmas.Loops.{EachAgrees, elements_agree, elements_hold, entries_agree, entries_hold, next_total, begin_total}

-- ---- collections with other items

list_has : (b : Kind) (zs : List Val) → EachAgrees b zs → AllHave (Agrees b) (list_of zs)
list_has b [] h = tt
list_has b (z ∷ zs) h = (h.0, list_has b zs h.1)

list_holds : (zs : List Val) → all_tickets (list_of zs) ≡ flat_map tickets zs
list_holds [] = refl
list_holds (z ∷ zs) = ap (λ ts. tickets z ++ ts) (list_holds zs)

values_above : (x : Val) (es : Pairs) (zs : List Val) → AreKeysAbove x es → AreKeysAbove x (with_values es zs)
values_above x no_pair zs h = tt
values_above x (more_pairs y w es) [] h = tt
values_above x (more_pairs y w es) (z ∷ zs) h = (h.0, values_above x es zs h.1)

values_increase : (es : Pairs) (zs : List Val) → AreIncreasingKeys es → AreIncreasingKeys (with_values es zs)
values_increase no_pair zs h = tt
values_increase (more_pairs x w es) [] h = tt
values_increase (more_pairs x w es) (z ∷ zs) h = (values_above x es zs h.0, values_increase es zs h.1)

values_have : (P : Val → Type 0) (Q : Val → Type 0) (b : Kind) (es : Pairs) (zs : List Val) → AllEntriesHave P Q es →
    EachAgrees b zs → AllEntriesHave P (Agrees b) (with_values es zs)
values_have P Q b no_pair zs h i = tt
values_have P Q b (more_pairs x w es) [] h i = tt
values_have P Q b (more_pairs x w es) (z ∷ zs) h i = (h.0, i.0, values_have P Q b es zs h.2 i.1)

values_hold : (es : Pairs) (zs : List Val) → length zs ≡ length (entries es) →
    pair_tickets (with_values es zs) ≡ flat_map tickets zs
values_hold no_pair [] e = refl
values_hold no_pair (z ∷ zs) e = absurd (omega arith)
values_hold (more_pairs x w es) [] e = absurd (omega arith)
values_hold (more_pairs x w es) (z ∷ zs) e = ap (λ ts. tickets z ++ ts) (values_hold es zs (omega arith))

-- with as many other items it agrees with the new type, and holds what they hold
abbrev pub IsRebuilt : Kind → Val → Kind → List Val → Type 0
IsRebuilt c x b zs = Agrees (with_items c b) (rebuilt x zs) × (tickets (rebuilt x zs) ≡ flat_map tickets zs)

record AreMapped (c : Kind) (x : Val) (i : Items) : Type 0 where
  agree : EachAgrees i.kind i.values
  same : flat_map tickets i.values ≡ tickets x
  made : (b : Kind) (zs : List Val) → length zs ≡ length i.values → EachAgrees b zs → IsRebuilt c x b zs

abbrev IfMapped : Kind → Val → Option Items → Type 0
IfMapped c x None = Unit {0}
IfMapped c x (Some i) = AreMapped c x i

one_made : (a : Kind) (x : Val) (b : Kind) (zs : List Val) → length zs ≡ 1 → EachAgrees b zs →
    IsRebuilt (k.option a) (v.some x) b zs
one_made a x b [] e h = absurd (omega arith)
one_made a x b (z ∷ []) e h = (h.0, sym (append-nil (tickets z)))
one_made a x b (z ∷ y ∷ zs) e h = absurd (omega arith)

none_made : (a : Kind) (b : Kind) (zs : List Val) → length zs ≡ 0 → EachAgrees b zs → IsRebuilt (k.option a) v.nothing b zs
none_made a b [] e h = (tt, refl)
none_made a b (z ∷ zs) e h = absurd (omega arith)

mapped_are : (c : Kind) (x : Val) → Agrees c x → IfMapped c x (mapped_items c x)
mapped_are (k.list a) (v.list xs) h = record {
  agree = elements_agree a xs h;
  same = elements_hold xs;
  made = λ b zs e i. (list_has b zs i, list_holds zs);
}
mapped_are (k.map a b) (v.table es) h = record {
  agree = entries_agree a b es h.1;
  same = entries_hold a b es h.0 h.1;
  made = λ c zs e i. ((h.0, values_have (Agrees a) (Agrees b) c es zs h.1 i, values_increase es zs h.2), values_hold es zs e);
}
mapped_are (k.option a) (v.some x) h = record {
  agree = (h, tt);
  same = append-nil (tickets x);
  made = one_made a x;
}
mapped_are (k.option a) v.nothing h = record {
  agree = tt;
  same = refl;
  made = none_made a;
}
mapped_are _ _ h = tt

mapped_is : (c : Kind) (x : Val) (o : Option Items) (i : Items) → IfMapped c x o → o ≡ Some i → AreMapped c x i
mapped_is c x (Some j) i h e = let f : j ≡ i = cc in subst (λ z. AreMapped c x z) f h
mapped_is c x None i h e = absurd cc

-- ---- the run over the items

-- results, items that wait, and a stack
record Stays (p : Aim) (count : ℕ) (a b : Kind) (ys xs : List Val) (A : List Kind) (V : List Val) (m : Tally) : Type 0 where
  results : EachAgrees b ys
  each : EachAgrees a xs
  number : length ys + length xs ≡ count
  agree : AllAgree A V
  same : (id : Identity) → amount_on id ys +ℤ (amount_on id xs +ℤ total id V m) ≡ p.amounts id
  numbers : AreNumbered p.issued p.least → AreNumbered m.issued m.operations
  many : p.least ≤ m.operations

results_too : (b : Kind) (ys : List Val) (y : Val) → EachAgrees b ys → Agrees b y → EachAgrees b (ys ++ y ∷ [])
results_too b [] y h i = (i, tt)
results_too b (z ∷ ys) y h i = (h.0, results_too b ys y h.1 i)

one_more : (ys : List Val) (y : Val) → length (ys ++ y ∷ []) ≡ suc (length ys)
one_more [] y = refl
one_more (z ∷ ys) y = ap suc (one_more ys y)

result_sum : (ys y xs w m : ℤ) → ys +ℤ y +ℤ (xs +ℤ (w +ℤ m)) ≡ ys +ℤ (xs +ℤ (y +ℤ w +ℤ m))
result_sum ys y xs w m = omega (arith, ints)

result_total : (id : Identity) (ys : List Val) (y : Val) (xs W : List Val) (m : Tally) →
    amount_on id (ys ++ y ∷ []) +ℤ (amount_on id xs +ℤ total id W m) ≡ amount_on id ys +ℤ (amount_on id xs +ℤ total id (y ∷ W) m)
result_total id ys y xs W m =
    ap (λ z. z +ℤ (amount_on id xs +ℤ total id W m)) (on_append id ys (y ∷ []) ∙ ap (λ z. amount_on id ys +ℤ z) (on_one id y))
    ∙ result_sum (amount_on id ys) (amount_in id y) (amount_on id xs) (amount_on id W) (told id m)
    ∙ ap (λ z. amount_on id ys +ℤ (amount_on id xs +ℤ (z +ℤ told id m))) (sym (on_cons id y W))

end_sum : (y ys w m : ℤ) → y ≡ ys → y +ℤ w +ℤ m ≡ ys +ℤ (pos 0 +ℤ (w +ℤ m))
end_sum y ys w m e = omega (arith, ints)

module _ (r : Run) (h : KeepsRun r) (a b c : Kind) (made : List Val → Val) (count : ℕ)
    (makes : (zs : List Val) → length zs ≡ count → EachAgrees b zs → Agrees c (made zs) × (tickets (made zs) ≡ flat_map tickets zs))
    (e : Surroundings) (d : ℕ) (sees : SeesAgreement e) (p : Aim) where
  keeps_each_mapped : (xs ys : List Val) (A : List Kind) (V : List Val) (m : Tally) → Stays p count a b ys xs A V m →
      Keeps p (map_each_run r a b made c ys xs e d A V m)
  keeps_each_mapped [] ys A V m w =
      let f = makes ys (omega (arith, w.number)) w.results in
      record {
        agree = (f.0, w.agree);
        same = λ id.
            ap (λ z. z +ℤ told id m) (on_cons id (made ys) V)
            ∙ end_sum (amount_in id (made ys)) (amount_on id ys) (amount_on id V) (told id m) (ap (amount_among id) f.1)
            ∙ w.same id;
        numbers = w.numbers;
        many = w.many;
      }
  keeps_each_mapped (x ∷ xs) ys A V m w =
      keeps_paid (here (x ∷ V) m) p (a ∷ A) (x ∷ V) e g.Turn m _ (stands_here (a ∷ A) (x ∷ V) m (w.each.0, w.agree)) (λ n s.
      keeps_ending (here (x ∷ V) m) p _ (b ∷ A) _ (h e d (a ∷ A) (x ∷ V) n (here (x ∷ V) m) sees s)
      (λ C W j f q. by_top (λ zs B U l k. keeps_each_mapped xs zs B U l k) C W j f q))
    where
      by_top : ((zs : List Val) (B : List Kind) (U : List Val) (l : Tally) → Stays p count a b zs xs B U l → Keeps p (map_each_run r a b made c zs xs e d B U l)) →
          (C : List Kind) (W : List Val) (j : Tally) → C ≡ b ∷ A → Stands (here (x ∷ V) m) C W j → Keeps p
          (on_top C W (λ _ B y W. map_each_run r a b made c (ys ++ y ∷ []) xs e d B W j))
      by_top later [] W j f q = absurd cc
      by_top later (z ∷ B) [] j f q = tt
      by_top later (z ∷ B) (y ∷ W) j f q =
          let i : z ≡ b = cc in
          later (ys ++ y ∷ []) B W j (record {
            results = results_too b ys y w.results (subst (λ k. Agrees k y) i q.agree.0);
            each = w.each.1;
            number = omega (arith, w.number, one_more ys y);
            agree = q.agree.1;
            same = λ id.
                result_total id ys y xs W j ∙ ap (λ z. amount_on id ys +ℤ (amount_on id xs +ℤ z)) (q.same id)
                ∙ ap (λ z. amount_on id ys +ℤ z) (next_total id x xs V m) ∙ w.same id;
            numbers = λ k. q.numbers (w.numbers k);
            many = omega (arith, w.many, q.many);
          })

pub keeps_map : (result : Kind → List Kind → Option Kind) (r : Run) → KeepsRun r → KeepsRun (map_run result r)
keeps_map result r h e d A V m p sees s =
    keeps_top p p A V m _ s (λ c B x W f. keeps_unless p (mapped_items c x) _ (λ i z. keeps_unless p (result i.kind B) _ (λ b y.
    let w = mapped_is c x (mapped_items c x) i (mapped_are c x f.agree.0) z in
    keeps_paid p p (c ∷ B) (x ∷ W) e g.Map m _ f (λ n j.
    keeps_each_mapped r h i.kind b (with_items c b) (rebuilt x) (length i.values) (w.made b) e d sees p i.values [] B W n
    (record {
      results = tt;
      each = w.agree;
      number = omega arith;
      agree = j.agree.1;
      same = λ id. +ℤ_idl (amount_on id i.values +ℤ total id W n) ∙ begin_total id i.values x W n w.same ∙ j.same id;
      numbers = j.numbers;
      many = j.many;
    })))))
