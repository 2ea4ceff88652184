-- A state that is sound is loaded as what it is.
use Rattle.std.proofs.Common.{◌≡◌, ℕ, List, [], ◌∷◌, length, map, sym, ap, subst, ◌∙◌}
use Rattle.std.specs.Prelude.{Ok, slice_get}
use Rattle.std.specs.List.{AllByRecursion}
use Rattle.std.proofs.lemmas.List.{length-map}
use Rattle.rules_data.specs.declared.gas.Kind.{Kind}
use Rattle.rules_data.specs.gas.Kinds.{kinds_by_name, place}
use Rattle.rules_data.specs.gas.Prices as rules
use Rattle.rules_files.specs.snapshots.Reading.{read}
use Rattle.rules_files.specs.snapshots.Spelt.{IsSpelt}
use Rattle.rules_files.specs.snapshots.State as plain
use Rattle.rules_world.specs.world.Good.{IsGood}
use Rattle.rules_world.specs.world.World as rules_world
use Rattle.laws_data.specs.binary.Laws.{IsBytes}
use Rattle.laws_files.proofs.snapshots_lemmas.MadeParts.{read_have_spelling}
use Rattle.mich_gas.specs.View.{listed, seen_price}
use Rattle.mich_gas.specs.declared.costs.Costs.{Costs}
use Rattle.mich_gas.specs.declared.costs.Price.{Price}
use Rattle.mich_instr.specs.Scripts.{IsTypedScript}
use Rattle.mich_instr.specs.declared.instr.Script.{Script}
use Rattle.mich_saved.specs.KeptStates.{ArePlaced, IsReadAs}
use Rattle.mich_saved.specs.Parts as kept
use Rattle.mich_saved.specs.Whole.{state}
use Rattle.mich_saved.specs.declared.reading.Head.{Head}
use Rattle.mich_saved.specs.declared.reading.ReadState.{ReadState}
use Rattle.mich_world.specs.Restoring.{world_of as restored}
use Rattle.mich_world.specs.Standing.{StandsFor}
use Rattle.mich_world.specs.declared.restoring.Saved.{Saved}
use Rattle.mich_world.specs.declared.world.World.{World}
use Rattle.mich_snapshot.specs.Loaded.{IsLoadedAs, IsReadOf, IsSoundState}
use Rattle.mich_snapshot.proofs.LoadedAs.{read_is}

-- there are as many prices as kinds of cost
pub prices_long : (p : plain.State) (ps : List Price) → IsSpelt p → map seen_price ps ≡ p.prices → length ps ≡ 98
unfolding kinds_by_name
prices_long p ps spelt e = sym (length-map ps seen_price) ∙ ap length e ∙ spelt.prices.0

pub loaded_as : (p : plain.State) (x : ReadState) (h : Head) (ps : List Price) (saved : Saved) (w : World) (costs : Costs) → IsReadOf p x → h ≡ x.head
    → IsSoundState p ps saved
    → StandsFor w (restored saved) → ((kind : Kind) → listed costs kind ≡ slice_get (map seen_price ps) (place kind))
    → IsLoadedAs p (record { world = w; costs = costs; groups = h.groups; costs_stood = h.costs_stood; started = h.started })
loaded_as p x h ps saved w costs of e sound stands prices = record {
  stands = subst (StandsFor w) sound.world stands;
  good = subst (λ (v : rules_world.World). IsGood v []) sound.world sound.restorable.good;
  prices = λ i kind. (prices kind ∙ ap (λ (l : List rules.Price). slice_get l (place kind)) sound.costs) i;
  groups = ap (λ (k : Head). k.groups) e ∙ sym (ap (λ (k : kept.Head). k.groups) of.kept.head);
  costs_stood = ap (λ (k : Head). k.costs_stood) e ∙ sym (ap (λ (k : kept.Head). k.costs_stood) of.kept.head);
  started = ap (λ (k : Head). k.started) e ∙ sym (ap (λ (k : kept.Head). k.started) of.kept.head);
}

all_scripts : {A : Type 0} (f : A → Script) (xs : List A) → AllByRecursion (λ x. IsTypedScript (f x)) xs → AllByRecursion IsTypedScript (map f xs)
all_scripts f [] all = tt
all_scripts f (x ∷ xs) all = (all.0, all_scripts f xs all.1)

scripts_all : {A : Type 0} (f : A → Script) (xs : List A) → AllByRecursion IsTypedScript (map f xs) → AllByRecursion (λ x. IsTypedScript (f x)) xs
scripts_all f [] all = tt
scripts_all f (x ∷ xs) all = (all.0, scripts_all f xs all.1)

pub scripts_typed : {A B : Type 0} (f : A → Script) (g : B → Script) (xs : List A) (ys : List B) → map f xs ≡ map g ys
    → AllByRecursion (λ y. IsTypedScript (g y)) ys
    → AllByRecursion (λ x. IsTypedScript (f x)) xs
scripts_typed f g xs ys e all = scripts_all f xs (subst (AllByRecursion IsTypedScript) (sym e) (all_scripts g ys all))

-- bytes that were read are those of a state
pub record IsRead (bs : List ℕ) (x : ReadState) : Type 0 where
  pub plain_state : plain.State
  pub is : read bs ≡ Ok plain_state
  pub of : IsReadOf plain_state x

pub read_of : (bs : List ℕ) (x : ReadState) → IsBytes bs → IsReadAs (read bs) (Ok x) → ((s : plain.State) → read bs ≡ Ok s → ArePlaced s (state x))
    → IsRead bs x
read_of bs x fits h placed =
    let r = read_is (read bs) x h in
    record { plain_state = r.0; is = r.1; of = record { spelt = read_have_spelling bs r.0 fits r.1; kept = r.2; placed = placed r.0 r.1 } }
