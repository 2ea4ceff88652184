-- Views that are there: they are those that the definitions give.
use Rattle.std.proofs.Common.{rules, ◌≡◌, ℕ, Bool, true, false, cond, List, [], ◌∷◌, Some, None, length, map, refl, sym, ap, ◌∙◌, subst}
use Rattle.std.specs.Prelude.{◌&&◌, if◌then◌else◌, option_and_then, option_map}
use Rattle.std.specs.declared.option.Option.{Option}
use Rattle.std.specs.BTreeMap.{is_at}
use Rattle.std.specs.List.{AllByRecursion}
use Rattle.std.specs.Map.{lookup}
use Rattle.rules_data.specs.types.Kind.{Kind}
use Rattle.rules_data.specs.types.Kind as k
use Rattle.rules_code.specs.instructions.Context as place
use Rattle.rules_code.specs.instructions.Same.{same_kind}
use Rattle.rules_data.specs.forms.Spelling.{contract_place, implicit_place, spelled_address, is_key_hash}
use Rattle.rules_code.specs.typing.Scripts.{Outline, TypedView}
use Rattle.rules_code.specs.evaluation.Contracts.{Viewed, contract_in, hash_in, outline_in, view_named, viewed, viewed_of, viewed_with}
use Rattle.rules_code.specs.evaluation.Surroundings.{Contract as PlainContract}
use Rattle.mich_store_steps.proofs.seen.ForCallers.{sound_of, sound_seen}
use Rattle.laws_code.proofs.stacks.ForCallers.{place_back}
use Rattle.mich_literals.proofs.arguments_lemmas.ForCallers.{account_place, contract_place_is}
use Rattle.mich_base.specs.TypeView.{kind}
use Rattle.mich_bigmap.specs.Bases.{Bases}
use Rattle.mich_bigmap.specs.Standing.{val_in}
use Rattle.mich_frames.specs.Views.{ViewedAs, view_code}
use Rattle.mich_frames.proofs.ForCallers.{views_agree}
use Rattle.mich_instr.specs.Code as made
use Rattle.mich_instr.specs.Code.{Codes}
use Rattle.mich_instr.specs.Scripts.{IsTypedScript}
use Rattle.mich_instr.specs.Typed.{AreCode, IsScript}
use Rattle.mich_instr.specs.View.{codes, script_code, script_node, view_codes}
use Rattle.mich_instr.specs.declared.instr.Script.{Script, out-Script}
use Rattle.mich_instr.specs.declared.instr.Script as scripts
use Rattle.mich_stack.specs.Views.{seen}
use Rattle.mich_world.proofs.simulation_lemmas.ForCallers.{hash_of}
use Rattle.mich_types.specs.Entered.{entry_of}
use Rattle.mich_world.specs.Holders.{by_bytes, contract_at}
use Rattle.mich_world.specs.Standing.{plain}
use Rattle.mich_world.specs.Storages.{IsStored}
use Rattle.mich_world.specs.World.{World}
use Rattle.mich_world.specs.declared.contract.Contract.{Contract}
use Rattle.mich_interpreter.specs.Sees.{Sees}
use Rattle.mich_interpreter.specs.View.{Beyond}
use Rattle.mich_interpreter.specs.Visits.{HasCode, IsVisit}
use Rattle.mich_interpreter.specs.declared.visits.Visit.{Visit}

-- ---- scripts and contracts

script_is : (s : Script) →
    script_code s ≡ made.script (script_node s) (kind (out-Script s).parameter.ty) (map entry_of (out-Script s).parameter.entries) (kind (out-Script s).storage) (codes (out-Script s).code) (view_codes (out-Script s).views)
script_is s = search (rules, scripts.the_lemmas)

at_one : (P : Contract → Type 0) (test : List ℕ → Bool) (cs : List (List ℕ × Contract)) (c : Contract) → AllByRecursion (λ c. P c.1) cs → lookup test cs ≡ Some c → P c
at_one P test [] c h e = cc
at_one P test (d ∷ cs) c h e = by (test d.0) e (λ g. at_one P test cs c h.1 g)
  where
    by : (b : Bool) → cond b (Some d.1) (lookup test cs) ≡ Some c → (lookup test cs ≡ Some c → P c) → P c
    by true g later = let one : d.1 ≡ c = cc in subst P one h.0
    by false g later = later g

some_same : {A : Type 0} (a b : A) → Some a ≡ Some b → a ≡ b
some_same a b e = cc

-- ---- the 20 bytes of a view's contract

module _ (hash : List ℕ) (c : PlainContract) (name : List ℕ) (a b : Kind) (w : Viewed) where
  of_view : (s : Kind) (v : Option TypedView) → option_and_then (viewed_with hash c s a b) v ≡ Some w → w.hash ≡ hash
  of_view s None e = absurd cc
  of_view s (Some v) e = by (same_kind v.input a && same_kind v.output b) e
    where
      by : (q : Bool) → (if q then Some (record { hash = hash; contract = c; storage = s; body = v.body.node }) else None) ≡ Some w → w.hash ≡ hash
      by true e = sym (ap (λ (w : Viewed). w.hash) (some_same _ w e))
      by false e = absurd cc

  of_outline : (o : Option Outline) → option_and_then (λ (o : Outline). option_and_then (viewed_with hash c o.storage a b) (view_named name o.views)) o ≡ Some w → w.hash ≡ hash
  of_outline None e = absurd cc
  of_outline (Some o) e = of_view o.storage (view_named name o.views) e

  hash_so : viewed_of hash c name a b ≡ Some w → w.hash ≡ hash
  hash_so e = of_outline (outline_in c.script) e

-- ---- contracts

module _ (v : World) (x : Beyond) (s : Sees v x) (hash entry name : List ℕ) (a b : Kind) (is : length hash ≡ 20) where
  abbrev bs : Bases
  bs = v.store.bases.present

  abbrev address : List ℕ
  address = spelled_address (contract_place hash) entry

  at_hash : viewed x.contract_at name a b address ≡ option_and_then (λ c. viewed_of hash c name a b) (x.contract_at hash)
  at_hash =
      ap (λ p. option_and_then (λ c. viewed_of (hash_in p) c name a b) (contract_in x.contract_at p)) (place_back (contract_place hash) entry (contract_place_is hash is))
      ∙ ap (λ h. option_and_then (λ c. viewed_of h c name a b) (x.contract_at h)) (hash_of hash is)

  pub nobody_views : contract_at v.funds.present hash ≡ None → IsVisit x a b (viewed x.contract_at name a b address) None
  nobody_views e =
      let none : x.contract_at hash ≡ None = s.contracts hash ∙ ap (option_map (plain bs)) e in
      subst (λ q. IsVisit x a b q None) (sym (at_hash ∙ ap (option_and_then (λ c. viewed_of hash c name a b)) none)) tt

  module _ (c : Contract) (there : contract_at v.funds.present hash ≡ Some c) where
    abbrev storage : Kind
    storage = kind (out-Script c.script).storage

    typed : IsTypedScript c.script
    typed = at_one (λ c. IsTypedScript c.script) (is_at (by_bytes hash)) v.funds.present.contracts c s.typed there

    stored : IsStored bs c
    stored = at_one (IsStored bs) (is_at (by_bytes hash)) v.funds.present.contracts c s.stored there

    storage_seen : seen x.sight c.storage ≡ val_in bs c.storage
    storage_seen = ap (λ big. seen big c.storage) s.sight ∙ sound_seen bs c.storage (sound_of bs c.storage stored.formed stored.based)

    viewed_is : viewed x.contract_at name a b address ≡ viewed_of hash (plain bs c) name a b
    viewed_is = at_hash ∙ ap (option_and_then (λ c. viewed_of hash c name a b)) (s.contracts hash ∙ ap (option_map (plain bs)) there)

    agree : ViewedAs (plain bs c) storage a b (viewed_of hash (plain bs c) name a b) (view_code name a b (view_codes (out-Script c.script).views))
    agree = views_agree hash (plain bs c) name a b _ storage _ _ (view_codes (out-Script c.script).views) (subst (IsScript (script_node c.script)) (script_is c.script) typed)

    both_so : (q : Option Viewed) (z : Option Codes) (r : Option Visit) → viewed_of hash (plain bs c) name a b ≡ q → view_code name a b (view_codes (out-Script c.script).views) ≡ z → ViewedAs (plain bs c) storage a b q z →
        HasCode c hash name a b r → IsVisit x a b q r
    both_so None None None e f h g = tt
    both_so None None (Some y) e f h g = let off : None ≡ Some (codes y.code) = sym f ∙ g.code in absurd cc
    both_so None (Some z) r e f h g = absurd h
    both_so (Some w) None r e f h g = absurd h
    both_so (Some w) (Some z) None e f h g = let off : Some z ≡ None = sym f ∙ g in absurd cc
    both_so (Some w) (Some z) (Some y) e f h g =
        let same : z ≡ codes y.code = some_same z (codes y.code) (sym f ∙ g.code) in
        let code : AreCode place.view h.2 (codes y.code) (k.pair a storage ∷ []) (b ∷ []) = subst (λ is. AreCode place.view h.2 is (k.pair a storage ∷ []) (b ∷ [])) same h.4 in
        record {
          hash = hash_so hash (plain bs c) name a b w e ∙ sym g.hash;
          balance = ap (λ (d : PlainContract). d.balance) h.0 ∙ sym g.balance;
          storage = ap (λ (d : PlainContract). d.storage) h.0 ∙ sym storage_seen ∙ ap (seen x.sight) (sym g.storage);
          nodes = h.2;
          body = h.3;
          code = subst (λ t. AreCode place.view h.2 (codes y.code) (k.pair a t ∷ []) (b ∷ [])) (sym h.1) code;
        }

    pub contract_views : (r : Option Visit) → HasCode c hash name a b r → IsVisit x a b (viewed x.contract_at name a b address) r
    contract_views r h =
        subst (λ q. IsVisit x a b q r) (sym viewed_is)
        (both_so (viewed_of hash (plain bs c) name a b) (view_code name a b (view_codes (out-Script c.script).views)) r refl refl agree h)

-- ---- accounts

pub account_views : (x : Beyond) (who entry name : List ℕ) (a b : Kind) → is_key_hash who ≡ true → IsVisit x a b (viewed x.contract_at name a b (spelled_address (implicit_place who) entry)) None
account_views x who entry name a b h =
    subst (λ q. IsVisit x a b q None)
    (sym (ap (λ p. option_and_then (λ c. viewed_of (hash_in p) c name a b) (contract_in x.contract_at p)) (place_back (implicit_place who) entry (account_place who h))
    ∙ ap (λ q. option_and_then (λ c. viewed_of (hash_in (implicit_place who)) c name a b) (if q then None else x.contract_at (hash_in (implicit_place who)))) h)) tt
