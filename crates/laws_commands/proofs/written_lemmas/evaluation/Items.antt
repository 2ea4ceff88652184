-- ITER and MAP.
use Rattle.std.proofs.Common.{◌≡◌, ℕ, pos, true, List, [], ◌∷◌, ◌++◌, refl, arith}
use Rattle.std.specs.Prelude.{◌≤ℤ◌, ◌+ℤ◌}
use Rattle.std.proofs.lemmas.Int.{ints}
use Rattle.rules_data.specs.declared.gas.Kind.TheVariants as price
use Rattle.rules_data.specs.types.Kind.{Kind}
use Rattle.rules_data.specs.types.Kind as k
use Rattle.rules_data.specs.values.Val.{Val, Vals, no_val, more_vals, Pairs, no_pair, more_pairs}
use Rattle.rules_data.specs.values.Val as v
use Rattle.rules_data.specs.types.Attributes.{comparable}
use Rattle.rules_data.specs.values.Forms.{AllHave}
use Rattle.rules_data.specs.values.Tickets.{Identity}
use Rattle.rules_code.specs.steps.Changes.{amount_in}
use Rattle.rules_code.specs.typing.Typing.{Typer, goes, ends, mapped, part_kind, shift}
use Rattle.rules_code.specs.typing.Fits.{Known, Fits}
use Rattle.rules_code.specs.typing.Stacks as asked
use Rattle.rules_code.specs.evaluation.Surroundings.{Surroundings}
use Rattle.rules_code.specs.evaluation.Operations.{Tally}
use Rattle.rules_code.specs.evaluation.Outcome.{Run, unless_stuck}
use Rattle.rules_code.specs.evaluation.Shapes.{on_top}
use Rattle.rules_code.specs.evaluation.Items.{elements, entries, list_of, with_values, rebuilt, with_items}
use Rattle.rules_code.specs.evaluation.Loops.{each_run, iter_run, map_each_run, map_run}
use Rattle.laws_typing.specs.packing.Laws.{IsTyped}
use Rattle.laws_typing.proofs.packing_lemmas.Parts.{ended, of_mapped}
use Rattle.laws_code.specs.evaluation.Laws.{known, IsType, amount_on}
use Rattle.laws_code.specs.stacks.Sound.{seen, total, After, SafeRun}
use Rattle.laws_code.proofs.control.Items.{Each, each_positive, each_grow, each_element, each_entry, element_amount, entry_amount}
use Rattle.laws_code.proofs.stacks.ForCallers.{on-append, positive, no_amount_compared, knows_grow, sound_after, type_list, type_element, type_entry, type_option}
use Rattle.laws_commands.specs.written.Written.{IsWritten, AreWritten, EntriesAreWritten, AllWritten, IsWrittenTally}
use Rattle.laws_commands.proofs.written_lemmas.evaluation.Stands.{Keeps, Begins, KeepsRun, refuelled, keeps_ending, keeps_unless, keeps_paid}
use Rattle.laws_commands.proofs.written_lemmas.evaluation.Branches.{begins_pop}
use Rattle.rules_code.specs.evaluation.Branches.{paid}
use Rattle.laws_commands.proofs.common.Lists.{all_append}

elements_written : (xs : Vals) → AreWritten xs → AllWritten (elements xs)
elements_written no_val h = tt
elements_written (more_vals x xs) h = (h.0, elements_written xs h.1)

entries_written : (es : Pairs) → EntriesAreWritten es → AllWritten (entries es)
entries_written no_pair h = tt
entries_written (more_pairs x y es) h = ((h.0, h.1), entries_written es h.2)

list_written : (ys : List Val) → AllWritten ys → AreWritten (list_of ys)
list_written [] h = tt
list_written (y ∷ ys) h = (h.0, list_written ys h.1)

values_written : (es : Pairs) (ys : List Val) → EntriesAreWritten es → AllWritten ys → EntriesAreWritten (with_values es ys)
values_written no_pair ys h g = tt
values_written (more_pairs x y es) [] h g = tt
values_written (more_pairs x y es) (z ∷ zs) h g = (h.0, g.0, values_written es zs h.2 g.1)

compared_amount : (id : Identity) (w : Known) (a : Kind) (xs : Vals) → comparable a ≡ true → AllHave (Fits w a) xs →
    amount_on id (elements xs) ≡ pos 0
compared_amount id w a no_val c h = refl
compared_amount id w a (more_vals x xs) c h =
    let i : amount_on id (elements xs) ≡ pos 0 = compared_amount id w a xs c h.1 in
    let j : amount_in id x ≡ pos 0 = no_amount_compared id w a x c h.0 in
    omega (arith, ints)

-- values that wait, where code begins
record Waits (There : List ℕ → Type 0) (e : Surroundings) (a : Kind) (xs : List Val) (A : List Kind) (V : List Val) (m : Tally) : Type 0 where
  begins : Begins There e A V m
  type : IsType a
  fit : Each (known e.contract_at m.issued) a xs
  room : (id : Identity) → amount_on id (xs ++ V) ≤ℤ total (seen e) m.changes id
  values : AllWritten xs

module _ (There : List ℕ → Type 0) where
  waits_refuelled : {e : Surroundings} {a : Kind} {xs : List Val} {A : List Kind} {V : List Val} {m : Tally} (gas : ℕ) → Waits There e a xs A V m →
      Waits There e a xs A V (record m { gas = gas })
  waits_refuelled gas w = record { begins = refuelled There gas w.begins; type = w.type; fit = w.fit; room = w.room; values = w.values }

  -- the first of them comes onto the stack
  first_begins : {e : Surroundings} {a : Kind} {A : List Kind} {V : List Val} {m : Tally} (x : Val) (xs : List Val) →
      Waits There e a (x ∷ xs) A V m →
      Begins There e (a ∷ A) (x ∷ V) m
  first_begins {e = e} {a = a} {V = V} {m = m} x xs w = record {
    good = w.begins.good;
    sees = w.begins.sees;
    own = w.begins.own;
    around = w.begins.around;
    sound = record {
      types = (w.type, w.begins.sound.types);
      fit = (w.fit.0, w.begins.sound.fit);
      below = λ id. let p : pos 0 ≤ℤ amount_on id xs = each_positive id (known e.contract_at m.issued) a xs w.fit.1 in
          let q : amount_on id (x ∷ (xs ++ V)) ≤ℤ total (seen e) m.changes id = w.room id in
          omega (arith, ints, on-append id xs V);
      most = w.begins.sound.most;
      mints = w.begins.sound.mints;
    };
    values = (w.values.0, w.begins.values);
    tally = w.begins.tally;
  }

  -- behind a turn, whose result lies aside
  after_turn : {e : Surroundings} {a : Kind} {A : List Kind} {V : List Val} {m : Tally} (x : Val) (xs : List Val) (z : Kind) (y : Val)
      (W : List Val) (n : Tally) → Waits There e a (x ∷ xs) A V m →
      After (seen e) m.issued m.changes (x ∷ V) (z ∷ A) (y ∷ W) n → AllWritten W → IsWrittenTally There n →
      Waits There e a xs A W n
  after_turn {e = e} {a = a} {A = A} {V = V} {m = m} x xs z y W n w f values tally = record {
    begins = record {
      good = w.begins.good;
      sees = w.begins.sees;
      own = w.begins.own;
      around = w.begins.around;
      sound = record {
        types = w.begins.sound.types;
        fit = f.fit.1;
        below = λ id. let p : pos 0 ≤ℤ amount_on id xs = each_positive id L a xs later in
            let r : amount_on id (xs ++ W) ≤ℤ total (seen e) n.changes id = room id in
            omega (arith, ints, on-append id xs W);
        most = f.most;
        mints = f.mints;
      };
      values = values;
      tally = tally;
    };
    type = w.type;
    fit = later;
    room = room;
    values = w.values.1;
  }
    where
      L : Known
      L = known e.contract_at n.issued

      later : Each (known e.contract_at n.issued) a xs
      later = each_grow (known e.contract_at m.issued) (known e.contract_at n.issued) (knows_grow (seen e) m.issued n.issued f.grows) a xs
          w.fit.1

      room : (id : Identity) → amount_on id (xs ++ W) ≤ℤ total (seen e) n.changes id
      room id =
          let p : pos 0 ≤ℤ amount_in id y = positive id (known e.contract_at n.issued) z y f.fit.0 in
          let q : amount_on id (x ∷ (xs ++ V)) ≤ℤ total (seen e) m.changes id = w.room id in
          let t : (amount_on id (y ∷ W) +ℤ total (seen e) m.changes id) ≤ℤ (amount_on id (x ∷ V) +ℤ total (seen e) n.changes id) = f.tickets
          id in
          omega (arith, ints, on-append id xs V, on-append id xs W)

  -- behind a turn that has no result
  after_bare : {e : Surroundings} {a : Kind} {A : List Kind} {V : List Val} {m : Tally} (x : Val) (xs : List Val) (W : List Val) (n : Tally) →
      Waits There e a (x ∷ xs) A V m →
      After (seen e) m.issued m.changes (x ∷ V) A W n → AllWritten W → IsWrittenTally There n → Waits There e a xs A W n
  after_bare {e = e} {a = a} {A = A} {V = V} {m = m} x xs W n w f values tally = record {
    begins = record {
      good = w.begins.good;
      sees = w.begins.sees;
      own = w.begins.own;
      around = w.begins.around;
      sound = sound_after (a ∷ A) A W n (first_begins x xs w).sound w.begins.sound.types f;
      values = values;
      tally = tally;
    };
    type = w.type;
    fit = each_grow (known e.contract_at m.issued) (known e.contract_at n.issued) (knows_grow (seen e) m.issued n.issued f.grows) a xs
        w.fit.1;
    room = λ id.
        let q : amount_on id (x ∷ (xs ++ V)) ≤ℤ total (seen e) m.changes id = w.room id in
        let t : (amount_on id W +ℤ total (seen e) m.changes id) ≤ℤ (amount_on id (x ∷ V) +ℤ total (seen e) n.changes id) = f.tickets id in
        omega (arith, ints, on-append id xs V, on-append id xs W);
    values = w.values.1;
  }

  -- the items of a collection on the top
  waits_for : {e : Surroundings} {A : List Kind} {V : List Val} {m : Tally} (c a : Kind) (x : Val) (xs : List Val) →
      Begins There e (c ∷ A) (x ∷ V) m → IsType a →
      Each (known e.contract_at m.issued) a xs → ((id : Identity) → amount_on id xs ≡ amount_in id x) → AllWritten xs → Waits There e a xs A V m
  waits_for {e = e} {A = A} {V = V} {m = m} c a x xs b ty h same w = record {
    begins = begins_pop There c A x V b;
    type = ty;
    fit = h;
    room = λ id. let q : amount_on id xs ≡ amount_in id x = same id in
        let l : amount_on id (x ∷ V) ≤ℤ total (seen e) m.changes id = b.sound.below id in omega (arith, ints, on-append id xs V);
    values = w;
  }

  module _ (b : Typer) (r : Run) (sr : SafeRun b r) (kr : KeepsRun There b r) (e : Surroundings) (d : ℕ) where
    keeps_each : (a : Kind) (xs : List Val) (A : List Kind) (V : List Val) (m : Tally) → Waits There e a xs A V m → IsTyped (b e.context (a ∷ A)) →
        Keeps There (each_run r a xs e d A V m)
    keeps_each a [] A V m w h = (w.begins.values, w.begins.tally)
    keeps_each a (x ∷ xs) A V m w h =
        keeps_paid There e price.Turn m _ (λ gas.
        let n : Tally = record m { gas = gas } in
        let u : Waits There e a (x ∷ xs) A V n = waits_refuelled gas w in
        let i = first_begins x xs u in
        keeps_ending There e n (x ∷ V) (b e.context (a ∷ A)) (r e d (a ∷ A) (x ∷ V) n) A (λ B W o. each_run r a xs e d B W o)
        (sr e d (a ∷ A) (x ∷ V) n i.good i.sound) (kr e d (a ∷ A) (x ∷ V) n i h) h
        (λ W o f values tally. keeps_each a xs A W o (after_bare x xs W o u f values tally) h))

    pub keeps_iter : (A : List Kind) (V : List Val) (m : Tally) → Begins There e A V m →
        IsTyped (asked.on_parts A (λ a A. ends (b e.context (a ∷ A)) A (goes A))) →
        Keeps There (iter_run r e d A V m)
    keeps_iter (k.list a ∷ A) (v.list xs ∷ V) m g h =
        keeps_paid There e price.Iter m _ (λ gas. keeps_each a (elements xs) A V _
        (waits_for (k.list a) a (v.list xs) (elements xs) (refuelled There gas g) (type_list a g.sound.types.0)
        (each_element (known e.contract_at m.issued) a xs g.sound.fit.0)
        (λ id. element_amount id xs) (elements_written xs g.values.0))
        (ended (b e.context (a ∷ A)) A (goes A) h))
    keeps_iter (k.set a ∷ A) (v.set xs ∷ V) m g h =
        keeps_paid There e price.Iter m _ (λ gas. keeps_each a (elements xs) A V _
        (waits_for (k.set a) a (v.set xs) (elements xs) (refuelled There gas g) (type_element a g.sound.types.0)
        (each_element (known e.contract_at m.issued) a xs g.sound.fit.0.0)
        (λ id. compared_amount id (known e.contract_at m.issued) a xs g.sound.types.0.0.0 g.sound.fit.0.0) (elements_written xs g.values.0))
        (ended (b e.context (a ∷ A)) A (goes A) h))
    keeps_iter (k.map a c ∷ A) (v.table es ∷ V) m g h =
        keeps_paid There e price.Iter m _ (λ gas. keeps_each (k.pair a c) (entries es) A V _
        (waits_for (k.map a c) (k.pair a c) (v.table es) (entries es) (refuelled There gas g) (type_entry a c g.sound.types.0)
        (each_entry (known e.contract_at m.issued) a c es g.sound.fit.0.0)
        (λ id. entry_amount id (known e.contract_at m.issued) a c es g.sound.types.0.0.0 g.sound.fit.0.0) (entries_written es g.values.0))
        (ended (b e.context (k.pair a c ∷ A)) A (goes A) h))
    keeps_iter (k.list a ∷ A) [] m g h = tt
    keeps_iter (k.list a ∷ A) (x ∷ V) m g h = absurd g.sound.fit.0
    keeps_iter (k.set a ∷ A) [] m g h = tt
    keeps_iter (k.set a ∷ A) (x ∷ V) m g h = absurd g.sound.fit.0
    keeps_iter (k.map a c ∷ A) [] m g h = tt
    keeps_iter (k.map a c ∷ A) (x ∷ V) m g h = absurd g.sound.fit.0
    keeps_iter [] V m g h = absurd h
    keeps_iter (k.simple s ∷ A) V m g h = absurd h
    keeps_iter (k.operation ∷ A) V m g h = absurd h
    keeps_iter (k.option a ∷ A) V m g h = absurd h
    keeps_iter (k.or a c ∷ A) V m g h = absurd h
    keeps_iter (k.pair a c ∷ A) V m g h = absurd h
    keeps_iter (k.big_map a c ∷ A) V m g h = absurd h
    keeps_iter (k.lambda a c ∷ A) V m g h = absurd h
    keeps_iter (k.contract a ∷ A) V m g h = absurd h
    keeps_iter (k.ticket a ∷ A) V m g h = absurd h

  module _ (b : Typer) (r : Run) (sr : SafeRun b r) (kr : KeepsRun There b r) (e : Surroundings) (d : ℕ) (a z c : Kind) (made : List Val → Val)
      (kept : (ys : List Val) → AllWritten ys → IsWritten (made ys)) where
    keeps_map_each : (xs ys : List Val) (A : List Kind) (V : List Val) (m : Tally) → Waits There e a xs A V m → AllWritten ys →
        IsTyped (b e.context (a ∷ A)) →
        Keeps There (map_each_run r a z made c ys xs e d A V m)
    keeps_map_each [] ys A V m w g h = ((kept ys g, w.begins.values), w.begins.tally)
    keeps_map_each (x ∷ xs) ys A V m w g h =
        keeps_paid There e price.Turn m _ (λ gas.
        let n : Tally = record m { gas = gas } in
        let u : Waits There e a (x ∷ xs) A V n = waits_refuelled gas w in
        let i = first_begins x xs u in
        keeps_ending There e n (x ∷ V) (b e.context (a ∷ A)) (r e d (a ∷ A) (x ∷ V) n) (z ∷ A)
        (λ B W o. on_top B W (λ _ B y W. map_each_run r a z made c (ys ++ y ∷ []) xs e d B W o))
        (sr e d (a ∷ A) (x ∷ V) n i.good i.sound) (kr e d (a ∷ A) (x ∷ V) n i h) h
        (λ W o f values tally. by W o f values tally u (λ y W j q. keeps_map_each xs (ys ++ y ∷ []) A W o j q h)))
      where
        by : (W : List Val) {n : Tally} (o : Tally) → After (seen e) n.issued n.changes (x ∷ V) (z ∷ A) W o → AllWritten W →
            IsWrittenTally There o →
            Waits There e a (x ∷ xs) A V n →
            ((y : Val) (W : List Val) → Waits There e a xs A W o → AllWritten (ys ++ y ∷ []) →
            Keeps There (map_each_run r a z made c (ys ++ y ∷ []) xs e d A W o)) →
            Keeps There (on_top (z ∷ A) W (λ _ B y W. map_each_run r a z made c (ys ++ y ∷ []) xs e d B W o))
        by [] o f values tally u again = tt
        by (y ∷ W) o f values tally u again = again y W (after_turn x xs z y W o u f values.1 tally)
            (all_append IsWritten ys (y ∷ []) g (values.0, tt))

  module _ (at : ℕ) (b : Typer) (r : Run) (sr : SafeRun (λ c A. shift at (b c A)) r) (kr : KeepsRun There (λ c A. shift at (b c A)) r)
      (e : Surroundings) (d : ℕ) where
    maps : (c a : Kind) (x : Val) (xs : List Val) (A : List Kind) (V : List Val) (m : Tally) → Waits There e a xs A V m →
        ((ys : List Val) → AllWritten ys → IsWritten (rebuilt x ys)) → IsTyped (shift at (b e.context (a ∷ A))) →
        Keeps There (unless_stuck (part_kind (b e.context (a ∷ A)) A) (λ z. paid e price.Map m
        (λ m. map_each_run r a z (rebuilt x) (with_items c z) [] xs e d A V m)))
    maps c a x xs A V m w kept h =
        keeps_unless There (part_kind (b e.context (a ∷ A)) A) _ (λ z q. keeps_paid There e price.Map m _ (λ gas.
        keeps_map_each (λ c A. shift at (b c A)) r sr kr e d a z (with_items c z) (rebuilt x) kept xs [] A V (record m { gas = gas })
        (waits_refuelled gas w) tt h))

    one_written : (x : Val) (ys : List Val) → IsWritten x → AllWritten ys → IsWritten (rebuilt (v.some x) ys)
    one_written x [] h g = h
    one_written x (y ∷ ys) h g = g.0

    pub keeps_map : (A : List Kind) (V : List Val) (m : Tally) → Begins There e A V m →
        IsTyped (asked.on_mapped A (λ a f A. mapped (shift at (b e.context (a ∷ A))) f A)) →
        Keeps There (map_run (λ a A. part_kind (b e.context (a ∷ A)) A) r e d A V m)
    keeps_map (k.list a ∷ A) (v.list xs ∷ V) m g h =
        maps (k.list a) a (v.list xs) (elements xs) A V m
        (waits_for (k.list a) a (v.list xs) (elements xs) g (type_list a g.sound.types.0)
        (each_element (known e.contract_at m.issued) a xs g.sound.fit.0)
        (λ id. element_amount id xs) (elements_written xs g.values.0))
        (λ ys q. list_written ys q) (of_mapped (shift at (b e.context (a ∷ A))) k.list A h)
    keeps_map (k.map a c ∷ A) (v.table es ∷ V) m g h =
        maps (k.map a c) (k.pair a c) (v.table es) (entries es) A V m
        (waits_for (k.map a c) (k.pair a c) (v.table es) (entries es) g (type_entry a c g.sound.types.0)
        (each_entry (known e.contract_at m.issued) a c es g.sound.fit.0.0)
        (λ id. entry_amount id (known e.contract_at m.issued) a c es g.sound.types.0.0.0 g.sound.fit.0.0) (entries_written es g.values.0))
        (λ ys q. values_written es ys g.values.0 q) (of_mapped (shift at (b e.context (k.pair a c ∷ A))) (k.map a) A h)
    keeps_map (k.option a ∷ A) (v.some x ∷ V) m g h =
        maps (k.option a) a (v.some x) (x ∷ []) A V m
        (waits_for (k.option a) a (v.some x) (x ∷ []) g (type_option a g.sound.types.0) (g.sound.fit.0, tt) (λ id. omega (arith, ints))
        (g.values.0, tt))
        (λ ys q. one_written x ys g.values.0 q) (of_mapped (shift at (b e.context (a ∷ A))) k.option A h)
    keeps_map (k.option a ∷ A) (v.nothing ∷ V) m g h =
        maps (k.option a) a v.nothing [] A V m
        (waits_for (k.option a) a v.nothing [] g (type_option a g.sound.types.0) tt (λ id. refl) tt)
        (λ ys q. tt) (of_mapped (shift at (b e.context (a ∷ A))) k.option A h)
    keeps_map (k.list a ∷ A) [] m g h = tt
    keeps_map (k.list a ∷ A) (x ∷ V) m g h = absurd g.sound.fit.0
    keeps_map (k.map a c ∷ A) [] m g h = tt
    keeps_map (k.map a c ∷ A) (x ∷ V) m g h = absurd g.sound.fit.0
    keeps_map (k.option a ∷ A) [] m g h = tt
    keeps_map (k.option a ∷ A) (x ∷ V) m g h = absurd g.sound.fit.0
    keeps_map [] V m g h = absurd h
    keeps_map (k.simple s ∷ A) V m g h = absurd h
    keeps_map (k.operation ∷ A) V m g h = absurd h
    keeps_map (k.or a c ∷ A) V m g h = absurd h
    keeps_map (k.pair a c ∷ A) V m g h = absurd h
    keeps_map (k.set a ∷ A) V m g h = absurd h
    keeps_map (k.big_map a c ∷ A) V m g h = absurd h
    keeps_map (k.lambda a c ∷ A) V m g h = absurd h
    keeps_map (k.contract a ∷ A) V m g h = absurd h
    keeps_map (k.ticket a ∷ A) V m g h = absurd h
