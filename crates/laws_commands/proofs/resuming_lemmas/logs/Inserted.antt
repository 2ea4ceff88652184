-- The tickets that changes mint, behind those of a loaded log: it mints each once, in their order.
use Rattle.std.proofs.Common.{◌≡◌, List, [], ◌∷◌, ◌++◌, refl, sym, ap, ◌∙◌, map, true, false, Bool}
use Rattle.std.specs.Prelude.{pos, int_lt, if◌then◌else◌}
use Rattle.std.specs.declared.cmp.Ordering.{Ordering}
use Rattle.std.specs.declared.cmp.Ordering.TheVariants.{Less, Equal, Greater}
use Rattle.std.specs.Ordering.{match_ordering, ordering_reverse}
use Rattle.std.specs.List.{flat_map}
use Rattle.rules_data.specs.values.Tickets.{Identity}
use Rattle.rules_code.specs.steps.Changes.{Change, minted, burnt, identity_of}
use Rattle.rules_world.specs.world.World.{World, identity_order}
use Rattle.rules_world.specs.world.Holdings.{burnt_ever, with_identity, identities}
use Rattle.rules_files.specs.snapshots.Course.{total_of, ticket_of, changes_of}
use Rattle.laws_world.proofs.accounts.ForCallers.{identity_total}

-- a ticket that is among others
abbrev with_it : Ordering → Identity → Identity → List Identity → List Identity
with_it r i x xs = match_ordering r (i ∷ x ∷ xs) (x ∷ xs) (x ∷ with_identity i xs)

at : (r : Ordering) (i x : Identity) (xs : List Identity) → identity_order i x ≡ r → with_identity i (x ∷ xs) ≡ with_it r i x xs
at r i x xs e = ap (λ (q : Ordering). with_it q i x xs) e

-- one that is level with a ticket
again : (i j : Identity) (xs : List Identity) → identity_order i j ≡ Equal → with_identity i (with_identity j xs) ≡ with_identity j xs
again i j [] e = at Equal i j [] e
again i j (x ∷ xs) e = by (identity_order j x) refl (again i j xs e) where
  by : (r : Ordering) → identity_order j x ≡ r → with_identity i (with_identity j xs) ≡ with_identity j xs →
      with_identity i (with_identity j (x ∷ xs)) ≡ with_identity j (x ∷ xs)
  by Less f h = ap (with_identity i) (at Less j x xs f) ∙ at Equal i j (x ∷ xs) e ∙ sym (at Less j x xs f)
  by Equal f h = ap (with_identity i) (at Equal j x xs f) ∙ at Equal i x xs (identity_total.congr i j x e ∙ f) ∙ sym (at Equal j x xs f)
  by Greater f h =
      ap (with_identity i) (at Greater j x xs f) ∙ at Greater i x (with_identity j xs) (identity_total.congr i j x e ∙ f)
      ∙ ap (λ (ys : List Identity). x ∷ ys) h ∙ sym (at Greater j x xs f)

above : (i j : Identity) → identity_order i j ≡ Greater → identity_order j i ≡ Less
above i j e = identity_total.antisymm j i ∙ ap ordering_reverse e

below : (i j : Identity) → identity_order i j ≡ Less → identity_order j i ≡ Greater
below i j e = identity_total.antisymm j i ∙ ap ordering_reverse e

-- one that is above another may come before or after it
swapped : (i j : Identity) (xs : List Identity) → identity_order i j ≡ Greater →
    with_identity i (with_identity j xs) ≡ with_identity j (with_identity i xs)
swapped i j [] e = at Greater i j [] e ∙ sym (at Less j i [] (above i j e))
swapped i j (x ∷ xs) e = by (identity_order j x) refl (swapped i j xs e) where
  over : (r : Ordering) → identity_order i x ≡ r → identity_order j x ≡ Less →
      with_identity j (with_it r i x xs) ≡ j ∷ with_it r i x xs
  over Less g f = at Less j i (x ∷ xs) (above i j e)
  over Equal g f = at Less j x xs f
  over Greater g f = at Less j x (with_identity i xs) f

  by : (r : Ordering) → identity_order j x ≡ r → with_identity i (with_identity j xs) ≡ with_identity j (with_identity i xs) →
      with_identity i (with_identity j (x ∷ xs)) ≡ with_identity j (with_identity i (x ∷ xs))
  by Less f h =
      ap (with_identity i) (at Less j x xs f) ∙ at Greater i j (x ∷ xs) e ∙ sym (over (identity_order i x) refl f)
  by Equal f h =
      let up : identity_order i x ≡ Greater = below x i (sym (identity_total.congr j x i f) ∙ above i j e) in
      ap (with_identity i) (at Equal j x xs f) ∙ at Greater i x xs up
      ∙ sym (ap (with_identity j) (at Greater i x xs up) ∙ at Equal j x (with_identity i xs) f)
  by Greater f h =
      let up : identity_order i x ≡ Greater = below x i (identity_total.trans x j i (above j x f) (above i j e)) in
      ap (with_identity i) (at Greater j x xs f) ∙ at Greater i x (with_identity j xs) up ∙ ap (λ (ys : List Identity). x ∷ ys) h
      ∙ sym (ap (with_identity j) (at Greater i x xs up) ∙ at Greater j x (with_identity i xs) f)

-- ---- many

abbrev with_all : List Identity → List Identity → List Identity
with_all [] js = js
with_all (i ∷ is) js = with_identity i (with_all is js)

abbrev with_minted : List Change → List Identity → List Identity
with_minted [] js = js
with_minted (minted t ∷ cs) js = with_identity (identity_of t) (with_minted cs js)
with_minted (burnt t ∷ cs) js = with_minted cs js

one_more : (i : Identity) (is js : List Identity) → with_all (with_identity i is) js ≡ with_identity i (with_all is js)
one_more i [] js = refl
one_more i (j ∷ is) js = by (identity_order i j) refl (one_more i is js) where
  by : (r : Ordering) → identity_order i j ≡ r → with_all (with_identity i is) js ≡ with_identity i (with_all is js) →
      with_all (with_it r i j is) js ≡ with_identity i (with_all (j ∷ is) js)
  by Less e h = refl
  by Equal e h = sym (again i j (with_all is js) e)
  by Greater e h = ap (with_identity j) h ∙ sym (swapped i j (with_all is js) e)

front_minted : (cs ds : List Change) → identities (cs ++ ds) ≡ with_minted cs (identities ds)
front_minted [] ds = refl
front_minted (minted t ∷ cs) ds = ap (with_identity (identity_of t)) (front_minted cs ds)
front_minted (burnt t ∷ cs) ds = front_minted cs ds

minted_all : (cs : List Change) (js : List Identity) → with_all (identities cs) js ≡ with_minted cs js
minted_all [] js = refl
minted_all (minted t ∷ cs) js = one_more (identity_of t) (identities cs) js ∙ ap (with_identity (identity_of t)) (minted_all cs js)
minted_all (burnt t ∷ cs) js = minted_all cs js

-- the changes that a log is loaded as
abbrev pub loaded_log : World → List Change
loaded_log w = flat_map changes_of (map (total_of w) (identities w.log))

spread_all : (w : World) (is : List Identity) (ds : List Change) →
    identities (flat_map changes_of (map (total_of w) is) ++ ds) ≡ with_all is (identities ds)
spread_all w [] ds = refl
spread_all w (i ∷ is) ds = ap (with_identity i) (by (int_lt (pos 0) (burnt_ever w i)) (spread_all w is ds)) where
  by : (b : Bool) → identities (flat_map changes_of (map (total_of w) is) ++ ds) ≡ with_all is (identities ds) →
      identities (((if b then burnt (ticket_of i (burnt_ever w i)) ∷ [] else []) ++ flat_map changes_of (map (total_of w) is)) ++ ds)
      ≡ with_all is (identities ds)
  by true h = h
  by false h = h

-- behind the loaded log the same tickets are minted
pub loaded_identities : (w : World) (more : List Change) → identities (w.log ++ more) ≡ identities (loaded_log w ++ more)
loaded_identities w more =
    front_minted w.log more ∙ sym (minted_all w.log (identities more)) ∙ sym (spread_all w (identities w.log) more)
