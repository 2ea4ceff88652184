-- VIEW: the views that are there.
use Rattle.std.proofs.Common.{◌≡◌, ℕ, zero, suc, ◌<◌, ◌≤◌, ◌^◌, Bool, true, false, ◌&&◌, List, [], ◌∷◌, length, take, Option, Some, None, refl, sym, ap, subst, arith, pos}
use Rattle.std.specs.Prelude.{◌≤ℤ◌, option_and_then, if◌then◌else◌}
use Rattle.std.specs.Str.{bytes_eq}
use Rattle.std.proofs.lemmas.Int.{ints}
use Rattle.std.proofs.lemmas.Bool.{and_parts, leb-true}
use Rattle.rules_text.specs.nodes.Limits.{type_limit}
use Rattle.rules_text.specs.nodes.Tree.{Tree, seq, size}
use Rattle.rules_data.specs.forms.Spelling.{place_of, is_implicit, is_address}
use Rattle.rules_data.specs.types.Kind.{Kind, nodes}
use Rattle.rules_data.specs.types.Kind as k
use Rattle.rules_data.specs.types.Attributes.{packable}
use Rattle.rules_code.specs.instructions.Types as ty
use Rattle.rules_code.specs.instructions.Same.{same_kind, same_kinds}
use Rattle.rules_code.specs.instructions.Context as place
use Rattle.rules_data.specs.values.Val.{Val}
use Rattle.rules_data.specs.values.Val as v
use Rattle.rules_data.specs.values.Tickets.{tickets}
use Rattle.rules_code.specs.steps.Changes.{burns, minted_in, amount_in}
use Rattle.rules_code.specs.steps.Step.{done}
use Rattle.rules_code.specs.typing.Typing.{Typing, goes, fails, shift}
use Rattle.rules_code.specs.typing.Typing as typing
use Rattle.rules_code.specs.typing.Bodies.{body_fault}
use Rattle.rules_code.specs.typing.Scripts.{TypedView, is_small, view_fault}
use Rattle.rules_code.specs.typing.Nodes.{tree_type, trees_type}
use Rattle.rules_code.specs.typing.Fits.{Known, Fits, Leads}
use Rattle.rules_code.specs.evaluation.Surroundings.{Contract, Surroundings}
use Rattle.rules_code.specs.evaluation.Operations.{Tally}
use Rattle.rules_code.specs.evaluation.Outcome.{stack, Run}
use Rattle.rules_code.specs.evaluation.Shapes.{on_top}
use Rattle.rules_code.specs.evaluation.Contracts.{if_found, view_named, hash_in, Viewed, viewed_with, viewed_of, viewed}
use Rattle.rules_code.specs.evaluation.Operating.{in_view, behind_view, view_run}
use Rattle.laws_code.specs.evaluation.Laws.{known, IsType, IsGood, IsGoodContract}
use Rattle.laws_code.specs.stacks.Sound.{seen, Sound, After, KeepsFrom}
use Rattle.laws_data.proofs.types_lemmas.ForCallers.{same_kind_true, same_kinds_true}
use Rattle.laws_data.proofs.amounts.ForCallers.{among_append}
use Rattle.laws_code.proofs.stacks.ForCallers.{positive, no_amount, packable_duplicable, Knows, fits_grow, fits_packed, keeps_apart, address_place, tickets_good}
use Rattle.laws_code.proofs.steps.ForCallers.{quiet_burns, finish_keeps}
use Rattle.laws_code.proofs.typed.ForCallers.{FoundHas, Outlined, outlined, TypedGood, AllTyped, OutlineGood, outline_good, AllTried, all_tried}
use Rattle.laws_data.proofs.forms_lemmas.ForCallers.{place_length, contract_is}
use Rattle.laws_code.proofs.safety_lemmas.Rows.{ViewsKeep}
use Rattle.laws_code.proofs.control.ForCallers.{SafeNodes}

-- ---- what a view that is there is

pub record Seeing (e : Surroundings) (a b : Kind) (w : Viewed) : Type 0 where
  pub contract : e.contract_at w.hash ≡ Some w.contract
  pub hash : length w.hash ≡ 20
  pub whole : IsType (k.pair a w.storage)
  pub packs : packable a ≡ true
  pub leads : Leads (tree_type w.body place.view (k.pair a w.storage ∷ [])) (b ∷ [])
  pub small : size w.body < 2 ^ 32
  pub good : IsGoodContract e w.contract
  pub stored : good.reading.storage ≡ w.storage

abbrev pub SeesIf : Surroundings → Kind → Kind → Option Viewed → Type 0
SeesIf e a b None = Unit {0}
SeesIf e a b (Some w) = Seeing e a b w

only_small : (q : Bool) (o : Option ℕ) (l : ℕ) → (if q then o else Some l) ≡ None → (q ≡ true) × (o ≡ None)
only_small true o l h = (refl, h)
only_small false o l h = absurd cc

leads_of : (l : ℕ) (t : Typing) (r : Kind) → body_fault l t r ≡ None → Leads t (r ∷ [])
leads_of l (goes B) r h = by_test (same_kinds B (r ∷ [])) refl h
  where
    by_test : (q : Bool) → same_kinds B (r ∷ []) ≡ q → (if q then None else Some l) ≡ None → B ≡ r ∷ []
    by_test true p h = same_kinds_true B (r ∷ []) p
    by_test false p h = absurd cc
leads_of l fails r h = tt
leads_of l (typing.bad m) r h = absurd cc

leads_same : (l m : ℕ) (t : Typing) (C : List Kind) → Leads (shift l t) C → Leads (shift m t) C
leads_same l m (goes B) C h = h
leads_same l m fails C h = h
leads_same l m (typing.bad i) C h = absurd h

module _ (e : Surroundings) (a b : Kind) (hash : List ℕ) (c : Contract) (there : e.contract_at hash ≡ Some c)
    (len : length hash ≡ 20) (gc : IsGoodContract e c) (s : Kind) (st : IsType s) (stored : gc.reading.storage ≡ s) where
  sees_one : (w : TypedView) → TypedGood (size c.script) w → view_fault s w ≡ None → SeesIf e a b (viewed_with hash c s a b w)
  sees_one w g f = by_test (same_kind w.input a && same_kind w.output b) refl
    where
      by_test : (q : Bool) → (same_kind w.input a && same_kind w.output b) ≡ q →
          SeesIf e a b (if q then Some (record { hash = hash; contract = c; storage = s; body = w.body.node }) else None)
      by_test false q = tt
      by_test true q =
          let qs : (same_kind w.input a ≡ true) × (same_kind w.output b ≡ true) = and_parts (same_kind w.input a)
          (same_kind w.output b) q in
          let ia : w.input ≡ a = same_kind_true w.input a qs.0 in
          let ob : w.output ≡ b = same_kind_true w.output b qs.1 in
          let fs : (is_small (k.pair w.input s) ≡ true) × (body_fault w.body.location
          (w.body.typing place.view (k.pair w.input s ∷ [])) w.output ≡ None) =
          only_small (is_small (k.pair w.input s)) (body_fault w.body.location
          (w.body.typing place.view (k.pair w.input s ∷ [])) w.output) w.body.location f in
          let l1 : Leads (w.body.typing place.view (k.pair w.input s ∷ [])) (w.output ∷ []) = leads_of w.body.location
          (w.body.typing place.view (k.pair w.input s ∷ [])) w.output fs.1 in
          let l2 : Leads (shift g.body.at (trees_type g.body.content place.view (k.pair w.input s ∷ []))) (w.output ∷ []) =
          subst (λ t. Leads t (w.output ∷ [])) (g.body.types place.view (k.pair w.input s ∷ [])) l1 in
          let l3 : Leads (tree_type (seq g.body.content) place.view (k.pair w.input s ∷ [])) (w.output ∷ []) =
          leads_same g.body.at 1 (trees_type g.body.content place.view (k.pair w.input s ∷ [])) (w.output ∷ []) l2 in
          let l4 : Leads (tree_type w.body.node place.view (k.pair w.input s ∷ [])) (w.output ∷ []) = subst
          (λ t. Leads (tree_type t place.view (k.pair w.input s ∷ [])) (w.output ∷ [])) (sym g.body.node) l3 in
          let l5 : Leads (tree_type w.body.node place.view (k.pair a s ∷ [])) (w.output ∷ []) = subst
          (λ x. Leads (tree_type w.body.node place.view (k.pair x s ∷ [])) (w.output ∷ [])) ia l4 in
          let sm : size c.script < 2 ^ 32 = gc.small in
          let sb : size w.body.node ≤ size c.script = g.body.small in
          record {
            contract = there;
            hash = len;
            whole = subst (λ x. IsType (k.pair x s)) ia (
              (g.input.1.0, st.0),
              leb-true
                  (nodes (k.pair w.input s)) type_limit fs.0,
            );
            packs = subst (λ x. packable x ≡ true) ia g.input.0;
            leads = subst (λ x. Leads (tree_type w.body.node place.view (k.pair a s ∷ [])) (x ∷ [])) ob l5;
            small = omega arith;
            good = gc;
            stored = stored;
          }

  sees_named : (name : List ℕ) (ws : List TypedView) → AllTyped (size c.script) ws → AllTried s ws →
      SeesIf e a b (option_and_then (viewed_with hash c s a b) (view_named name ws))
  sees_named name [] g f = tt
  sees_named name (w ∷ ws) g f = by_test (bytes_eq w.name name) (sees_named name ws g.1 f.1)
    where
      by_test : (q : Bool) → SeesIf e a b (option_and_then (viewed_with hash c s a b) (view_named name ws)) →
          SeesIf e a b (option_and_then (viewed_with hash c s a b) (if q then Some w else view_named name ws))
      by_test true r = sees_one w g.0 f.0
      by_test false r = r

sees_in : (e : Surroundings) → IsGood e → (a b : Kind) (name hash : List ℕ) → length hash ≡ 20 → (o : Option Contract) →
    e.contract_at hash ≡ o → SeesIf e a b (option_and_then (λ c. viewed_of hash c name a b) o)
sees_in e g a b name hash len None there = tt
sees_in e g a b name hash len (Some c) there =
    let gc : IsGoodContract e c = g.contracts hash c there in
    let o : Outlined c.script gc.reading = outlined c.script gc.reading gc.is_script in
    let og : OutlineGood (size c.script) o.types = subst (FoundHas (OutlineGood (size c.script))) o.is (outline_good c.script) in
    subst (λ q. SeesIf e a b
    (option_and_then (λ o. option_and_then (viewed_with hash c o.storage a b) (view_named name o.views)) (if_found q)))
    (sym o.is)
    (sees_named e a b hash c there len gc o.types.storage og.storage (ap (λ s. s.storage) o.whole) name o.types.views og.views
    (all_tried o.types.storage o.types.views o.views o.checked))

hash_length : (xs : List ℕ) → length xs ≡ 22 → length (hash_in xs) ≡ 20
hash_length [] h = absurd (omega arith)
hash_length (x ∷ xs) h = taken 20 xs (omega arith)
  where
    taken : (n : ℕ) (ys : List ℕ) → n ≤ length ys → length (take n ys) ≡ n
    taken zero ys h = refl
    taken (suc n) [] h = absurd (omega arith)
    taken (suc n) (y ∷ ys) h = let i : length (take n ys) ≡ n = taken n ys (omega arith) in omega arith

pub sees : (e : Surroundings) → IsGood e → (a b : Kind) (name address : List ℕ) → is_address address ≡ true →
    SeesIf e a b (viewed e.contract_at name a b address)
sees e g a b name address h = by_test (is_implicit (place_of address))
  where
    len : length (hash_in (place_of address)) ≡ 20
    len = hash_length (place_of address) (place_length (place_of address) (address_place address h))

    by_test : (q : Bool) → SeesIf e a b (option_and_then (λ c. viewed_of (hash_in (place_of address)) c name a b)
        (if q then None else e.contract_at (hash_in (place_of address))))
    by_test true = tt
    by_test false = sees_in e g a b name (hash_in (place_of address)) len (e.contract_at (hash_in (place_of address))) refl

-- ---- VIEW

pub good_in_view : (e : Surroundings) → IsGood e → (a b : Kind) (w : Viewed) → Seeing e a b w → IsGood (in_view e w)
good_in_view e g a b w s = record {
  environment = record {
    chain = g.environment.chain;
    level = g.environment.level;
    moment = g.environment.moment;
    source = g.environment.source;
    sender = contract_is e.environment.own g.environment.own;
    own = s.hash;
    amount = omega arith;
    balance = s.good.balance;
  };
  group = g.group;
  own = (w.contract, s.contract, tt);
  contracts = λ hash c h. let i : IsGoodContract e c = g.contracts hash c h in
      record {
        reading = i.reading;
        is_script = i.is_script;
        small = i.small;
        fits = i.fits;
        balance = i.balance;
        tickets =
            i.tickets;
      };
  minted = g.minted;
}

module _ (q : Tree → Run) (sq : SafeNodes q) (e : Surroundings) (d : ℕ) (m : Tally) (g : IsGood e) where
  looked : (a b : Kind) (A : List Kind) (x : Val) (address : List ℕ) (V : List Val) → packable b ≡ true →
      Sound (seen e) m.issued m.changes (a ∷ ty.address ∷ A) (x ∷ v.bytes address ∷ V) → (o : Option Viewed) → SeesIf e a b o →
      KeepsFrom (seen e) m.issued m.changes (x ∷ v.bytes address ∷ V) (goes (k.option b ∷ A))
      (view_run q e d a b o x (k.option b ∷ A) V m)
  looked a b A x address V pb so None s =
      finish_keeps (seen e) m (a ∷ ty.address ∷ A) (k.option b ∷ A) (x ∷ v.bytes address ∷ V)
      (done (v.nothing ∷ V) (burns (tickets x))) so (
        (tt, so.fit.1.1),
        (λ id. let p : pos 0 ≤ℤ amount_in id x = positive id (known e.contract_at m.issued) a x so.fit.0 in
            omega (arith, ints)),
        quiet_burns (tickets x) (tickets_good (known e.contract_at m.issued) a x so.fit.0),
      )
  looked a b A x address V pb so (Some w) s =
      let K : Known = known e.contract_at m.issued in
      let none_known : Knows (known e.contract_at []) K = record { contracts = λ c r h. h; issued = λ n h. absurd cc } in
      let stored : Fits K w.storage w.contract.storage = subst (λ z. Fits K z w.contract.storage) s.stored
      (fits_grow (known e.contract_at []) K none_known s.good.reading.storage w.contract.storage s.good.fits) in
      let begins : Sound (seen e) m.issued m.changes (k.pair a w.storage ∷ []) (v.both x w.contract.storage ∷ []) = record {
        types = (s.whole, tt);
        fit = ((so.fit.0, stored), tt);
        below = λ id.
            let z : amount_in id x ≡ pos 0 = no_amount id K a x (packable_duplicable a s.packs) so.fit.0 in
            let l : amount_in id w.contract.storage ≤ℤ e.minted id = s.good.tickets id in
            let p : pos 0 ≤ℤ minted_in id m.changes = so.mints id in
            omega (arith, ints, among_append id (tickets x) (tickets w.contract.storage));
        most = so.most;
        mints = so.mints;
      } in
      keeps_apart (seen e) m.issued m.changes (x ∷ v.bytes address ∷ V) (v.both x w.contract.storage ∷ [])
      (tree_type w.body place.view (k.pair a w.storage ∷ [])) (b ∷ []) (goes (k.option b ∷ A))
      (q w.body (in_view e w) d (k.pair a w.storage ∷ []) (v.both x w.contract.storage ∷ []) m)
      (λ B W n. on_top B W (λ _ _ y _. stack (k.option b ∷ A) (v.some y ∷ V) (behind_view m n))) s.leads
      (sq w.body s.small (in_view e w) d (k.pair a w.storage ∷ []) (v.both x w.contract.storage ∷ []) m
      (good_in_view e g a b w s) begins)
      (λ W n f. one W n f)
    where
      one : (W : List Val) (n : Tally) → After (seen e) m.issued m.changes (v.both x w.contract.storage ∷ []) (b ∷ []) W n →
          KeepsFrom (seen e) m.issued m.changes (x ∷ v.bytes address ∷ V) (goes (k.option b ∷ A))
          (on_top (b ∷ []) W (λ _ _ y _. stack (k.option b ∷ A) (v.some y ∷ V) (behind_view m n)))
      one [] n f = absurd f.fit
      one (y ∷ W) n f =
          let fy : Fits (known e.contract_at m.issued) b y = fits_packed (known e.contract_at n.issued)
          (known e.contract_at m.issued) (λ c r h. h) b y pb f.fit.0 in (
            refl,
            record {
              fit = (fy, so.fit.1.1);
              grows = λ i j. j;
              tickets = λ id.
                  let z : amount_in id y ≡ pos 0 = no_amount id (known e.contract_at m.issued) b y
                  (packable_duplicable b pb) fy in
                  let p : pos 0 ≤ℤ amount_in id x = positive id (known e.contract_at m.issued) a x so.fit.0 in
                  omega (arith, ints);
              most = so.most;
              mints = so.mints;
              well = λ h. h;
            },
          )

pub views_keep : ViewsKeep
views_keep q sq e d m g name address a b A x V pb h so = looked q sq e d m g a b A x address V pb so
    (viewed e.contract_at name a b address) (sees e g a b name address h)
