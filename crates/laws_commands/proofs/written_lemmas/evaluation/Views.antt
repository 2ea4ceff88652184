-- The views that are there, and what VIEW makes.
use Rattle.std.proofs.Common.{◌≡◌, ◌<◌, ◌^◌, ℕ, Bool, true, false, ◌&&◌, List, [], ◌∷◌, Option, Some, None, drop, refl, subst, pos, arith}
use Rattle.std.specs.Prelude.{◌≤ℤ◌, option_and_then, if◌then◌else◌}
use Rattle.std.specs.Str.{bytes_eq}
use Rattle.std.specs.List.{AllByRecursion}
use Rattle.std.proofs.lemmas.Int.{ints}
use Rattle.rules_text.specs.nodes.Tree.{Tree, size}
use Rattle.rules_data.specs.forms.Spelling.{place_of, is_implicit}
use Rattle.rules_data.specs.types.Kind.{Kind}
use Rattle.rules_data.specs.types.Kind as k
use Rattle.rules_code.specs.instructions.Types as ty
use Rattle.rules_code.specs.instructions.Same.{same_kind}
use Rattle.rules_code.specs.instructions.Context as place
use Rattle.rules_code.specs.instructions.Arguments.{Found, found, fault}
use Rattle.rules_data.specs.values.Val.{Val}
use Rattle.rules_data.specs.values.Val as v
use Rattle.rules_data.specs.values.Tickets.{tickets}
use Rattle.rules_code.specs.steps.Changes.{amount_in, minted_in, burns}
use Rattle.rules_code.specs.typing.Scripts.{Outline, TypedView}
use Rattle.rules_code.specs.typing.Nodes.{tree_type, outline}
use Rattle.rules_code.specs.typing.Fits.{Known, Fits}
use Rattle.rules_code.specs.evaluation.Surroundings.{Contract, Surroundings}
use Rattle.rules_code.specs.evaluation.Operations.{Tally}
use Rattle.rules_code.specs.evaluation.Outcome.{stack, Run}
use Rattle.rules_code.specs.evaluation.Shapes.{on_top}
use Rattle.rules_code.specs.evaluation.Contracts.{if_found, view_named, hash_in, Viewed, viewed_with, viewed_of, viewed}
use Rattle.rules_code.specs.evaluation.Operating.{in_view, behind_view, view_run}
use Rattle.laws_typing.specs.packing.Laws.{IsTyped}
use Rattle.laws_data.proofs.amounts.ForCallers.{among_append}
use Rattle.laws_code.specs.evaluation.Laws.{known}
use Rattle.laws_code.specs.stacks.Sound.{SafeRun}
use Rattle.laws_code.proofs.stacks.ForCallers.{no_amount, packable_duplicable, Knows, fits_grow}
use Rattle.laws_code.proofs.typed.ForCallers.{FoundHas}
use Rattle.laws_code.proofs.safety_lemmas.ForCallers.{SeesIf, good_in_view, sees}
use Rattle.laws_commands.specs.written.Written.{HasIssuer, HasForm, IsByte, AreBytes, IsWritten, IsWrittenContract, IsWrittenChange, SeesWritten}
use Rattle.laws_commands.proofs.written_lemmas.values.Bytes.{contract_bytes}
use Rattle.laws_commands.proofs.written_lemmas.values.Steps.{tickets_written, burns_written}
use Rattle.laws_commands.proofs.written_lemmas.evaluation.Issuers.{burns_issued}
use Rattle.laws_commands.proofs.written_lemmas.evaluation.Scripts.{OutlineWritten, outline_written}
use Rattle.laws_commands.proofs.written_lemmas.evaluation.Stands.{Keeps, Begins, KeepsRun, keeps_ending}
use Rattle.laws_commands.proofs.written_lemmas.evaluation.Calls.{leads_typed}
use Rattle.laws_commands.proofs.common.Lists.{all_append, all_take, all_drop}

record ViewWritten (w : Viewed) : Type 0 where
  hash : AreBytes w.hash
  body : HasForm w.body
  storage : IsWritten w.contract.storage

abbrev WrittenIf : Option Viewed → Type 0
WrittenIf None = Unit {0}
WrittenIf (Some w) = ViewWritten w

module _ (a b : Kind) (hash : List ℕ) (bs : AreBytes hash) (c : Contract) (stored : IsWritten c.storage) where
  one_written : (s : Kind) (w : TypedView) → HasForm w.body.node → WrittenIf (viewed_with hash c s a b w)
  one_written s w h = by (same_kind w.input a && same_kind w.output b)
    where
      by : (q : Bool) → WrittenIf (if q then Some (record { hash = hash; contract = c; storage = s; body = w.body.node }) else None)
      by true = record { hash = bs; body = h; storage = stored }
      by false = tt

  named_written : (s : Kind) (name : List ℕ) (ws : List TypedView) → AllByRecursion (λ w. HasForm w.body.node) ws →
      WrittenIf (option_and_then (viewed_with hash c s a b) (view_named name ws))
  named_written s name [] h = tt
  named_written s name (w ∷ ws) h = by (bytes_eq w.name name) (named_written s name ws h.1)
    where
      by : (q : Bool) → WrittenIf (option_and_then (viewed_with hash c s a b) (view_named name ws)) →
          WrittenIf (option_and_then (viewed_with hash c s a b) (if q then Some w else view_named name ws))
      by true r = one_written s w h.0
      by false r = r

  of_written : (name : List ℕ) (o : Found Outline) → FoundHas OutlineWritten o →
      WrittenIf (option_and_then (λ o. option_and_then (viewed_with hash c o.storage a b) (view_named name o.views)) (if_found o))
  of_written name (found o) h = named_written o.storage name o.views h.views
  of_written name (fault l) h = tt

in_written : (e : Surroundings) → SeesWritten e → (a b : Kind) (name hash : List ℕ) → AreBytes hash → (o : Option Contract) →
    e.contract_at hash ≡ o →
    WrittenIf (option_and_then (λ c. viewed_of hash c name a b) o)
in_written e s a b name hash bs None there = tt
in_written e s a b name hash bs (Some c) there =
    let w : IsWrittenContract c = s.contracts hash c there in
    of_written a b hash bs c w.1 name (outline c.script) (outline_written c.script w.0)

viewed_written : (e : Surroundings) → SeesWritten e → (a b : Kind) (name address : List ℕ) → AreBytes address →
    WrittenIf (viewed e.contract_at name a b address)
viewed_written e s a b name address h = by (is_implicit (place_of address))
  where
    bs : AreBytes (hash_in (place_of address))
    bs = all_take IsByte 20 (drop 1 (place_of address)) (all_drop IsByte 1 (place_of address) (all_take IsByte 22 address h))

    by : (q : Bool) → WrittenIf (option_and_then (λ c. viewed_of (hash_in (place_of address)) c name a b)
        (if q then None else e.contract_at (hash_in (place_of address))))
    by true = tt
    by false = in_written e s a b name (hash_in (place_of address)) bs (e.contract_at (hash_in (place_of address))) refl

sees_in_view : (e : Surroundings) (w : Viewed) → SeesWritten e → AreBytes w.hash → SeesWritten (in_view e w)
sees_in_view e w s h = record {
  environment = record {
    chain = s.environment.chain;
    source = s.environment.source;
    sender = contract_bytes e.environment.own s.environment.own;
    own = h;
  };
  contracts = s.contracts;
}

module _ (There : List ℕ → Type 0) where
  module _ (again : Tree → Run) (sa : (t : Tree) → size t < 2 ^ 32 → SafeRun (tree_type t) (again t))
      (ka : (t : Tree) → size t < 2 ^ 32 → HasForm t → KeepsRun There (tree_type t) (again t)) (e : Surroundings) (d : ℕ) (m : Tally) where
    looked : (a b : Kind) (A : List Kind) (x : Val) (address : List ℕ) (V : List Val) →
        Begins There e (a ∷ ty.address ∷ A) (x ∷ v.bytes address ∷ V) m →
        (o : Option Viewed) → SeesIf e a b o → WrittenIf o → Keeps There (view_run again e d a b o x (k.option b ∷ A) V m)
    looked a b A x address V g None s w = (
      (tt, g.values.1.1),
      record {
        issued = g.tally.issued;
        changes = all_append IsWrittenChange m.changes (burns (tickets x)) g.tally.changes
            (burns_written (tickets x) (tickets_written x g.values.0));
        issuers = all_append (HasIssuer There) m.changes (burns (tickets x)) g.tally.issuers (burns_issued There (tickets x));
      },
    )
    looked a b A x address V g (Some w) s h =
        let K : Known = known e.contract_at m.issued in
        let none_known : Knows (known e.contract_at []) K = record { contracts = λ c r h. h; issued = λ n h. absurd cc } in
        let stored : Fits K w.storage w.contract.storage = subst (λ z. Fits K z w.contract.storage) s.stored
        (fits_grow (known e.contract_at []) K none_known s.good.reading.storage w.contract.storage s.good.fits) in
        let begins : Begins There (in_view e w) (k.pair a w.storage ∷ []) (v.both x w.contract.storage ∷ []) m = record {
          good = good_in_view e g.good a b w s;
          sees = sees_in_view e w g.sees h.hash;
          own = g.around w.hash w.contract s.contract;
          around = g.around;
          sound = record {
            types = (s.whole, tt);
            fit = ((g.sound.fit.0, stored), tt);
            below = λ id.
                let z : amount_in id x ≡ pos 0 = no_amount id K a x (packable_duplicable a s.packs) g.sound.fit.0 in
                let l : amount_in id w.contract.storage ≤ℤ e.minted id = s.good.tickets id in
                let p : pos 0 ≤ℤ minted_in id m.changes = g.sound.mints id in
                omega (arith, ints, among_append id (tickets x) (tickets w.contract.storage));
            most = g.sound.most;
            mints = g.sound.mints;
          };
          values = ((g.values.0, h.storage), tt);
          tally = g.tally;
        } in
        let typed : IsTyped (tree_type w.body place.view (k.pair a w.storage ∷ [])) = leads_typed
        (tree_type w.body place.view (k.pair a w.storage ∷ [])) (b ∷ []) s.leads in
        keeps_ending There (in_view e w) m (v.both x w.contract.storage ∷ []) (tree_type w.body place.view (k.pair a w.storage ∷ []))
        (again w.body (in_view e w) d (k.pair a w.storage ∷ []) (v.both x w.contract.storage ∷ []) m) (b ∷ [])
        (λ B W n. on_top B W (λ _ _ y _. stack (k.option b ∷ A) (v.some y ∷ V) (behind_view m n)))
        (sa w.body s.small (in_view e w) d (k.pair a w.storage ∷ []) (v.both x w.contract.storage ∷ []) m begins.good begins.sound)
        (ka w.body s.small h.body (in_view e w) d (k.pair a w.storage ∷ []) (v.both x w.contract.storage ∷ []) m begins typed) typed
        (λ W n f values tally. one W n values)
      where
        one : (W : List Val) (n : Tally) → AllByRecursion IsWritten W →
            Keeps There (on_top (b ∷ []) W (λ _ _ y _. stack (k.option b ∷ A) (v.some y ∷ V) (behind_view m n)))
        one [] n f = tt
        one (y ∷ W) n f = ((f.0, g.values.1.1), record { issued = g.tally.issued; changes = g.tally.changes; issuers = g.tally.issuers })

    pub keeps_view : (name : List ℕ) (a b : Kind) (A : List Kind) (x : Val) (address : List ℕ) (V : List Val) →
        Begins There e (a ∷ ty.address ∷ A) (x ∷ v.bytes address ∷ V) m →
        Keeps There (view_run again e d a b (viewed e.contract_at name a b address) x (k.option b ∷ A) V m)
    keeps_view name a b A x address V g =
        looked a b A x address V g (viewed e.contract_at name a b address) (sees e g.good a b name address g.sound.fit.1.0)
        (viewed_written e g.sees a b name address g.values.1.0)
