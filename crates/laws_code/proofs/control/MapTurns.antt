-- The turns of MAP.
use Rattle.std.proofs.Common.{◌≡◌, ℕ, ◌+◌, true, List, [], ◌∷◌, ◌++◌, length, refl, arith, pos}
use Rattle.std.specs.Prelude.{◌≤ℤ◌, ◌+ℤ◌, ◌==◌}
use Rattle.std.specs.List.{list_any}
use Rattle.std.proofs.lemmas.Int.{ints}
use Rattle.std.proofs.lemmas.List.{length-append}
use Rattle.rules_data.specs.types.Kind.{Kind}
use Rattle.rules_data.specs.values.Val.{Val}
use Rattle.rules_data.specs.values.Tickets.{Identity}
use Rattle.rules_code.specs.steps.Changes.{amount_in}
use Rattle.rules_code.specs.typing.Typing.{Typer, goes}
use Rattle.rules_code.specs.typing.Fits.{Known, Fits, Leads}
use Rattle.rules_code.specs.evaluation.Surroundings.{Surroundings}
use Rattle.rules_code.specs.evaluation.Operations.{Issued, Tally}
use Rattle.rules_code.specs.evaluation.Outcome.{Outcome, Run}
use Rattle.rules_code.specs.evaluation.Shapes.{on_top}
use Rattle.rules_code.specs.evaluation.Loops.{ending, map_each_run}
use Rattle.rules_data.specs.declared.gas.Kind.TheVariants as price
use Rattle.laws_code.specs.evaluation.Laws.{known, IsType, IsGood, amount_on}
use Rattle.laws_code.specs.stacks.Sound.{Seen, seen, total, Sound, After, KeepsFrom, SafeRun}
use Rattle.laws_code.proofs.stacks.ForCallers.{on-append, positive, knows_grow, keeps_from, keeps_leads, keeps_charge}
use Rattle.laws_code.proofs.control.Items.{Each, each_positive, each_grow, each_last}

-- more operations were issued
abbrev pub Grows : List Issued → List Issued → Type 0
Grows is js = (i : ℕ) → list_any (λ j. j.number == i) is ≡ true → list_any (λ j. j.number == i) js ≡ true

-- so many results of a type make a value that fits, with no more tickets
pub record Makes (e : Seen) (is : List Issued) (count : ℕ) (b c : Kind) (made : List Val → Val) : Type 0 where
  pub fits : (js : List Issued) → Grows is js → (ys : List Val) → length ys ≡ count → Each (known e.contract_at js) b ys →
      Fits (known e.contract_at js) c (made ys)
  pub amounts : (js : List Issued) (ys : List Val) → length ys ≡ count → Each (known e.contract_at js) b ys → (id : Identity) →
      amount_in id (made ys) ≤ℤ amount_on id ys

module _ (b : Typer) (r : Run) (sr : SafeRun b r) (e : Surroundings) (d : ℕ) (g : IsGood e) (a z c : Kind) (ty : IsType a)
    (made : List Val → Val) (count : ℕ) where
  abbrev pub MapsRest : List Val → Type 0
  MapsRest xs = (ys : List Val) (A : List Kind) (V : List Val) (m : Tally) → Leads (b e.context (a ∷ A)) (z ∷ A) →
      Sound (seen e) m.issued m.changes A V →
      Each (known e.contract_at m.issued) a xs → Each (known e.contract_at m.issued) z ys → length ys + length xs ≡ count →
      Makes (seen e) m.issued count z c made →
      ((id : Identity) → amount_on id ((ys ++ xs) ++ V) ≤ℤ total (seen e) m.changes id) →
      KeepsFrom (seen e) m.issued m.changes ((ys ++ xs) ++ V) (goes (c ∷ A)) (map_each_run r a z made c ys xs e d A V m)

  pub safe_map_each : (xs : List Val) → MapsRest xs
  safe_map_each [] ys A V m leads so h i n k room =
      let K : Known = known e.contract_at m.issued in
      let all : length ys ≡ count = omega arith in (
        refl,
        record {
          fit = (k.fits m.issued (λ i j. j) ys all i, so.fit);
          grows = λ i j. j;
          tickets = λ id. let q : amount_in id (made ys) ≤ℤ amount_on id ys = k.amounts m.issued ys all i id in
              omega (arith, ints, on-append id (ys ++ []) V, on-append id ys []);
          most = so.most;
          mints = so.mints;
          well = λ h. h;
        },
      )
  safe_map_each (x ∷ xs) ys A V m leads so h i sum k room =
      let K : Known = known e.contract_at m.issued in
      let with : Sound (seen e) m.issued m.changes (a ∷ A) (x ∷ V) = record {
        types = (ty, so.types);
        fit = (h.0, so.fit);
        below = λ id.
            let p : pos 0 ≤ℤ amount_on id xs = each_positive id K a xs h.1 in
            let q : pos 0 ≤ℤ amount_on id ys = each_positive id K z ys i in
            let l : amount_on id ((ys ++ x ∷ xs) ++ V) ≤ℤ total (seen e) m.changes id = room id in
            omega (arith, ints, on-append id (ys ++ x ∷ xs) V, on-append id ys (x ∷ xs));
        most = so.most;
        mints = so.mints;
      } in
      let turn : Tally → Outcome = λ m. ending (r e d (a ∷ A) (x ∷ V) m) (z ∷ A)
      (λ B W n. on_top B W (λ _ B y W. map_each_run r a z made c (ys ++ y ∷ []) xs e d B W n)) in
      keeps_charge (seen e) m ((ys ++ x ∷ xs) ++ V) (goes (c ∷ A)) e.prices price.Turn 0 turn (λ j.
      keeps_from (seen e) m.issued m.changes ((ys ++ xs) ++ (x ∷ V)) ((ys ++ x ∷ xs) ++ V) (goes (c ∷ A))
      (turn (record m { gas = j }))
      (λ id. omega (
        arith,
        ints,
        on-append id (ys ++ xs) (x ∷ V),
        on-append id ys xs,
        on-append id
            (ys ++ x ∷ xs) V,
        on-append id ys (x ∷ xs),
      ))
      (keeps_leads (seen e) m.issued m.changes (ys ++ xs) (x ∷ V) (b e.context (a ∷ A)) (z ∷ A) (goes (c ∷ A))
      (r e d (a ∷ A) (x ∷ V) (record m { gas = j }))
      (λ B W n. on_top B W (λ _ B y W. map_each_run r a z made c (ys ++ y ∷ []) xs e d B W n)) leads
      (sr e d (a ∷ A) (x ∷ V) (record m { gas = j }) g with)
      (λ W n f. next W n f with (safe_map_each xs))))
    where
      next : (W : List Val) (n : Tally) → After (seen e) m.issued m.changes (x ∷ V) (z ∷ A) W n →
          Sound (seen e) m.issued m.changes (a ∷ A) (x ∷ V) → MapsRest xs →
          KeepsFrom (seen e) n.issued n.changes ((ys ++ xs) ++ W) (goes (c ∷ A))
          (on_top (z ∷ A) W (λ _ B y W. map_each_run r a z made c (ys ++ y ∷ []) xs e d B W n))
      next [] n f with rest = absurd f.fit
      next (y ∷ W) n f with rest =
          let K : Known = known e.contract_at m.issued in
          let L : Known = known e.contract_at n.issued in
          let below : (id : Identity) → amount_on id (y ∷ W) ≤ℤ total (seen e) n.changes id = λ id.
          let q : amount_on id (x ∷ V) ≤ℤ total (seen e) m.changes id = with.below id in
          let t : (amount_on id (y ∷ W) +ℤ total (seen e) m.changes id) ≤ℤ
          (amount_on id (x ∷ V) +ℤ total (seen e) n.changes id) = f.tickets id in omega (arith, ints) in
          let so' : Sound (seen e) n.issued n.changes A W = record {
            types = so.types;
            fit = f.fit.1;
            below = λ id. let q : amount_on id (y ∷ W) ≤ℤ total (seen e) n.changes id = below id in
                let p : pos 0 ≤ℤ amount_in id y = positive id L z y f.fit.0 in omega (arith, ints);
            most = f.most;
            mints = f.mints;
          } in
          let ys' : Each L z (ys ++ y ∷ []) = each_last L z ys y
          (each_grow K L (knows_grow (seen e) m.issued n.issued f.grows) z ys i) f.fit.0 in
          let k' : Makes (seen e) n.issued count z c made = record
          { fits = λ js grow. k.fits js (λ i j. grow i (f.grows i j)); amounts = k.amounts } in
          let count' : length (ys ++ y ∷ []) + length xs ≡ count = omega (arith, sum, length-append ys (y ∷ [])) in
          keeps_from (seen e) n.issued n.changes (((ys ++ y ∷ []) ++ xs) ++ W) ((ys ++ xs) ++ (y ∷ W)) (goes (c ∷ A))
          (map_each_run r a z made c (ys ++ y ∷ []) xs e d A W n)
          (λ id. omega (
            arith,
            ints,
            on-append id ((ys ++ y ∷ []) ++ xs) W,
            on-append id (ys ++ y ∷ []) xs,
            on-append id ys
                (y ∷ []),
            on-append id (ys ++ xs) (y ∷ W),
            on-append id ys xs,
          ))
          (rest (ys ++ y ∷ []) A W n leads so' (each_grow K L (knows_grow (seen e) m.issued n.issued f.grows) a xs h.1) ys'
          count' k'
          (λ id. let q : amount_on id ((ys ++ x ∷ xs) ++ V) ≤ℤ total (seen e) m.changes id = room id in
          let t : (amount_on id (y ∷ W) +ℤ total (seen e) m.changes id) ≤ℤ
          (amount_on id (x ∷ V) +ℤ total (seen e) n.changes id) = f.tickets id in
          omega (
            arith,
            ints,
            on-append id ((ys ++ y ∷ []) ++ xs) W,
            on-append id (ys ++ y ∷ []) xs,
            on-append id ys
                (y ∷ []),
            on-append id (ys ++ x ∷ xs) V,
            on-append id ys (x ∷ xs),
          )))
