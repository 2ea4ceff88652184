-- Who is there after a write.
use Rattle.std.proofs.Common.{◌≡◌, ℕ, List, [], ◌∷◌, Bool, true, false, cond, option_map, unwrap_or, is_some, None, Some, refl, ◌∙◌}
use Rattle.std.specs.declared.option.Option.{Option}
use Rattle.std.specs.BTreeMap.{is_at}
use Rattle.std.specs.Map.{lookup}
use Rattle.mich_forms.specs.declared.places.Place.{Place}
use Rattle.mich_forms.specs.declared.places.Place.TheVariants as place
use Rattle.mich_base.specs.undo.Undone.{changed_at}
use Rattle.mich_world.specs.Holders.{Holders, by_bytes, contract_at, may_receive, rebalanced, with_balance}

module _ {K X : Type 0} (t u : K → Bool) (f : X → X) where
  one : (b : Bool) (x : X) (o : Option X) → is_some (cond b (Some (f x)) o) ≡ is_some (cond b (Some x) o)
  one true x o = refl
  one false x o = refl

  two : (b : Bool) (x : X) (o p : Option X) → is_some o ≡ is_some p → is_some (cond b (Some x) o) ≡ is_some (cond b (Some x) p)
  two true x o p h = refl
  two false x o p h = h

  pub there_changed : (es : List (K × X)) → is_some (lookup t (changed_at u es f)) ≡ is_some (lookup t es)
  there_changed [] = refl
  there_changed (e ∷ es) =
      elim (u e.0) as (λ b. is_some (lookup t (cond b ((e.0, f e.1) ∷ es) (e ∷ changed_at u es f))) ≡ is_some (lookup t (e ∷ es)))
      [ true ↦ one (t e.0) e.1 (lookup t es) | false ↦ two (t e.0) e.1 (lookup t (changed_at u es f)) (lookup t es) (there_changed es) ]

-- the same contracts are there
pub contracts_there : (h : Holders) (p : Place) (n : ℕ) (hash : List ℕ) → is_some (contract_at (with_balance h p n) hash) ≡ is_some (contract_at h hash)
contracts_there h (place.Implicit who) n hash = refl
contracts_there h (place.Contract k) n hash = there_changed (is_at (by_bytes hash)) (is_at (by_bytes k)) (rebalanced n) h.contracts

pub granted_same : (h : Holders) (p : Place) (n : ℕ) → (with_balance h p n).granted ≡ h.granted
granted_same h (place.Implicit who) n = refl
granted_same h (place.Contract k) n = refl

pub fees_same : (h : Holders) (p : Place) (n : ℕ) → (with_balance h p n).fees ≡ h.fees
fees_same h (place.Implicit who) n = refl
fees_same h (place.Contract k) n = refl

-- a place that may receive still may
pub receives : (h k : Holders) (q : Place) → ((hash : List ℕ) → is_some (contract_at k hash) ≡ is_some (contract_at h hash)) → may_receive h q ≡ true → may_receive k q ≡ true
receives h k (place.Implicit who) same m = refl
receives h k (place.Contract hash) same m = same hash ∙ m

-- nothing is there
pub nothing : (o : Option ℕ) → is_some o ≡ false → unwrap_or o 0 ≡ 0
nothing None h = refl
nothing (Some n) h = absurd cc

pub nothing_of : {X : Type 0} (f : X → ℕ) (o : Option X) → is_some o ≡ false → unwrap_or (option_map f o) 0 ≡ 0
nothing_of f None h = refl
nothing_of f (Some x) h = absurd cc
