-- What loading tells.
use Rattle.std.proofs.Common.{◌≡◌, ℕ, Option, Some, None, refl, sym, ap, subst, ◌∙◌}
use Rattle.std.specs.Prelude.{List, Result, Ok, Err}
use Rattle.rules_files.specs.snapshots.Loading.{LoadFault, BadForm, Unsound, judged, loaded, of_read}
use Rattle.rules_files.specs.snapshots.Reading.{read}
use Rattle.rules_files.specs.snapshots.Rules.{first_fault, parts}
use Rattle.rules_files.specs.snapshots.State as plain
use Rattle.mich_saved.specs.KeptStates.{IsReadAs}
use Rattle.mich_saved.specs.declared.errors.LoadError.{LoadError}
use Rattle.mich_saved.specs.declared.errors.LoadError.TheVariants as errors
use Rattle.mich_saved.specs.declared.reading.ReadState.{ReadState}
use Rattle.mich_saved.specs.KeptStates.{IsKeptState}
use Rattle.mich_saved.specs.Whole.{state}
use Rattle.mich_snapshot.specs.Loaded.{IsLoaded, IsLoadedAs}
use Rattle.mich_snapshot.specs.Tried.{Tries}
use Rattle.mich_snapshot.specs.declared.state.State.{State}

pub no_room : (x : Result plain.State LoadFault) → IsLoaded x (Err errors.Memory)
no_room (Ok s) = tt
no_room (Err (BadForm p)) = tt
no_room (Err (Unsound p)) = tt

pub read_fails : (r : Result plain.State ℕ) (e : LoadError) → IsReadAs r (Err e) → IsLoaded (of_read r) (Err e)
read_fails r errors.Memory h = no_room (of_read r)
read_fails (Ok s) (errors.BadForm q) h = absurd h
read_fails (Err p) (errors.BadForm q) h = sym h
read_fails (Ok s) (errors.Unsound q) h = absurd h
read_fails (Err p) (errors.Unsound q) h = absurd h

-- bytes that are read as what was kept of a state are those of one
pub read_is : (r : Result plain.State ℕ) (x : ReadState) → IsReadAs r (Ok x) → (s : plain.State) × (r ≡ Ok s) × IsKeptState s (state x)
read_is (Ok s) x h = (s, refl, h)
read_is (Err p) x h = absurd h

judged_is : (bs : List ℕ) (s : plain.State) (o : Option ℕ) → read bs ≡ Ok s → first_fault 0 (parts s) ≡ o → loaded bs ≡ judged s o
judged_is bs s o e h = ap of_read e ∙ ap (judged s) h

pub rules_fail : (A : Type 0) (bs : List ℕ) (s : plain.State) (e : LoadError) → read bs ≡ Ok s → Tries {A = A} 0 (parts s) (Err e)
    → IsLoaded (loaded bs) (Err e)
rules_fail A bs s (errors.Unsound p) e h = subst (λ x. IsLoaded x (Err (errors.Unsound p))) (sym (judged_is bs s (Some p) e h)) refl
rules_fail A bs s errors.Memory e h = no_room (loaded bs)
rules_fail A bs s (errors.BadForm p) e h = absurd h

pub loads : (bs : List ℕ) (s : plain.State) (x : State) → read bs ≡ Ok s → first_fault 0 (parts s) ≡ None → IsLoadedAs s x → IsLoaded (loaded bs) (Ok x)
loads bs s x e h is = subst (λ y. IsLoaded y (Ok x)) (sym (judged_is bs s None e h)) is
