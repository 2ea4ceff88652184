-- What instructions on big maps find on a stack that fits its types, and a run behind them.
use Rattle.std.proofs.Common.{◌≡◌, ◌≤◌, ◌-◌, ◌&&◌, ℕ, Bool, true, false, List, [], ◌∷◌, map, Option, Some, refl, sym, ap, ◌∙◌, subst}
use Rattle.std.specs.List.{flat_map}
use Rattle.std.proofs.lemmas.Bool.{and_parts}
use Rattle.std.proofs.lemmas.List.{append-nil}
use Rattle.rules_text.specs.nodes.Tree.{Tree}
use Rattle.rules_data.specs.gas.Prices.{cost}
use Rattle.rules_data.specs.types.Attributes.{comparable, big_value}
use Rattle.rules_data.specs.types.Kind.{Kind}
use Rattle.rules_data.specs.types.Kind as k
use Rattle.rules_code.specs.instructions.Same.{same_kind}
use Rattle.rules_code.specs.instructions.Change.{Change, where_true}
use Rattle.rules_code.specs.instructions.DataChanges.{collection_change}
use Rattle.rules_code.specs.instructions.Straight.{CollectionRow, on_collections}
use Rattle.rules_code.specs.instructions.Straight as i
use Rattle.rules_data.specs.values.Val.{Val, nothing, some, big_table}
use Rattle.rules_data.specs.values.Tickets.{tickets}
use Rattle.rules_code.specs.typing.Fits.{Known, Fits, AllFit}
use Rattle.rules_code.specs.steps.Changes.{burns}
use Rattle.rules_code.specs.steps.Collections.{collection_step}
use Rattle.rules_code.specs.steps.Costs.{collection_kind, collection_weight}
use Rattle.rules_code.specs.steps.Step.{done}
use Rattle.rules_code.specs.evaluation.Outcome.{Outcome, finish, with_changes}
use Rattle.laws_code.specs.evaluation.Laws.{known}
use Rattle.laws_code.specs.stacks.Sound.{AllTypes}
use Rattle.laws_code.proofs.stacks.ForCallers.{comparable_value}
use Rattle.laws_code.proofs.typed.ForCallers.{Taken}
use Rattle.laws_data.proofs.types_lemmas.ForCallers.{same_kind_true}
use Rattle.mich_store_steps.specs.big_maps.Operands.{IsPlainOption, IsBigMapOnTop, HasBigMap, HasKey}
use Rattle.mich_frames.specs.Around.{less}
use Rattle.mich_frames.specs.Frames.{Frame}
use Rattle.mich_frames.specs.Stands.{StandsAt}
use Rattle.mich_frames.proofs.ForCallers.{row_acts, row_taken}
use Rattle.mich_gas.specs.declared.costs.Costs.{Costs}
use Rattle.mich_gas.specs.View.{listed}
use Rattle.mich_instr.specs.Code as made
use Rattle.mich_stack.specs.Ends.{gone}
use Rattle.mich_stack.specs.Keys.{IsKeyOnTop}
use Rattle.mich_stack.specs.Views.{seen, plain}
use Rattle.mich_stack.proofs.ForCallers.{given_gone}
use Rattle.mich_step.specs.Shown.{shown}
use Rattle.mich_step.proofs.ForCallers.{suits_same, tickets_same, part_ready, collection_part}
use Rattle.mich_term.specs.ValueView.{val}
use Rattle.mich_term.specs.declared.value.Value.{Value}
use Rattle.mich_tickets.specs.Books.{State as Ledger}
use Rattle.mich_tickets.specs.Effects.{Tells}
use Rattle.mich_tickets.specs.Limits.{IsReady}
use Rattle.mich_interpreter.specs.View.{Beyond, tops, around, tally}
use Rattle.mich_interpreter.specs.Ends.{Meets}
use Rattle.mich_state.specs.declared.state.State.{State}
use Rattle.mich_interpreter.proofs.Plain.{big_value_plain, entries_fit_plain}
use Rattle.mich_interpreter.proofs.Suited.{ready_tops}
use Rattle.mich_interpreter.proofs.Told.{stands_told, later}

where_holds : (b : Bool) (o : Option Change) (c : Change) → where_true b o ≡ Some c → b ≡ true
where_holds true o c e = refl
where_holds false o c e = absurd cc

-- ---- by types

big_on_top : (w : Known) (a b : Kind) (A : List Kind) (V : List Val) → big_value b ≡ true → AllFit w (k.big_map a b ∷ A) V → IsBigMapOnTop V
big_on_top w a b A [] p h = absurd h
big_on_top w a b A (big_table ps ∷ V) p h = (h.0.1, entries_fit_plain w a b ps p h.0.0)
big_on_top w a b A (_ ∷ V) p h = absurd h.0

plain_option : (w : Known) (o b : Kind) (x : Val) → same_kind o b ≡ true → big_value b ≡ true → Fits w (k.option o) x → IsPlainOption x
plain_option w o b nothing same p h = tt
plain_option w o b (some x) same p h =
    big_value_plain w o x (subst (λ z. big_value z ≡ true) (sym (same_kind_true o b same)) p) h
plain_option w o b _ same p h = absurd h

key_of : (w : Known) (j a : Kind) (A : List Kind) (V : List Val) → same_kind j a ≡ true → comparable a ≡ true → AllFit w (j ∷ A) V → IsKeyOnTop V
key_of w j a A [] same c h = absurd h
key_of w j a A (x ∷ V) same c h = comparable_value w j x (subst (λ z. comparable z ≡ true) (sym (same_kind_true j a same)) c) h.0

second : (w : Known) (j a b : Kind) (A : List Kind) (V : List Val) → big_value b ≡ true → AllFit w (j ∷ k.big_map a b ∷ A) V → HasBigMap i.mem_big_map V
second w j a b A [] p h = absurd h
second w j a b A (x ∷ V) p h = big_on_top w a b A V p h.1

third : (w : Known) (j o a b : Kind) (A : List Kind) (V : List Val) → same_kind o b ≡ true → big_value b ≡ true → AllFit w (j ∷ k.option o ∷ k.big_map a b ∷ A) V → HasBigMap i.update_big_map V
third w j o a b A [] same p h = absurd h
third w j o a b A (x ∷ []) same p h = absurd h.1
third w j o a b A (x ∷ y ∷ V) same p h = (plain_option w o b y same p h.1.0, big_on_top w a b A V p h.1.1)

big_map_by : (w : Known) (r : CollectionRow) (A : List Kind) (V : List Val) (c : Change) → AllTypes A → collection_change r A ≡ Some c → AllFit w A V → HasBigMap r V
big_map_by w i.mem_big_map (j ∷ k.big_map a b ∷ A) V c ty e h = second w j a b A V ty.1.0.0.1 h
big_map_by w i.mem_big_map _ V c ty e h = absurd cc
big_map_by w i.get_big_map (j ∷ k.big_map a b ∷ A) V c ty e h = second w j a b A V ty.1.0.0.1 h
big_map_by w i.get_big_map _ V c ty e h = absurd cc
big_map_by w i.update_big_map (j ∷ k.option o ∷ k.big_map a b ∷ A) V c ty e h =
    third w j o a b A V (and_parts (same_kind j a) (same_kind o b) (where_holds (same_kind j a && same_kind o b) _ c e)).1 ty.1.1.0.0.1 h
big_map_by w i.update_big_map _ V c ty e h = absurd cc
big_map_by w i.get_and_update_big_map (j ∷ k.option o ∷ k.big_map a b ∷ A) V c ty e h =
    third w j o a b A V (and_parts (same_kind j a) (same_kind o b) (where_holds (same_kind j a && same_kind o b) _ c e)).1 ty.1.1.0.0.1 h
big_map_by w i.get_and_update_big_map _ V c ty e h = absurd cc
big_map_by w (i.empty_set a) A V c ty e h = tt
big_map_by w (i.empty_map a b) A V c ty e h = tt
big_map_by w (i.empty_big_map a b) A V c ty e h = tt
big_map_by w i.size_list A V c ty e h = tt
big_map_by w i.size_set A V c ty e h = tt
big_map_by w i.size_map A V c ty e h = tt
big_map_by w i.mem_set A V c ty e h = tt
big_map_by w i.mem_map A V c ty e h = tt
big_map_by w i.get_map A V c ty e h = tt
big_map_by w i.update_set A V c ty e h = tt
big_map_by w i.update_map A V c ty e h = tt
big_map_by w i.get_and_update_map A V c ty e h = tt

key_by : (w : Known) (r : CollectionRow) (A : List Kind) (V : List Val) (c : Change) → AllTypes A → collection_change r A ≡ Some c → AllFit w A V → HasKey r V
key_by w i.mem_big_map (j ∷ k.big_map a b ∷ A) V c ty e h = key_of w j a (k.big_map a b ∷ A) V (where_holds (same_kind j a) _ c e) ty.1.0.0.0 h
key_by w i.mem_big_map _ V c ty e h = absurd cc
key_by w i.get_big_map (j ∷ k.big_map a b ∷ A) V c ty e h = key_of w j a (k.big_map a b ∷ A) V (where_holds (same_kind j a) _ c e) ty.1.0.0.0 h
key_by w i.get_big_map _ V c ty e h = absurd cc
key_by w i.update_big_map (j ∷ k.option o ∷ k.big_map a b ∷ A) V c ty e h =
    key_of w j a (k.option o ∷ k.big_map a b ∷ A) V (and_parts (same_kind j a) (same_kind o b) (where_holds (same_kind j a && same_kind o b) _ c e)).0 ty.1.1.0.0.0 h
key_by w i.update_big_map _ V c ty e h = absurd cc
key_by w i.get_and_update_big_map (j ∷ k.option o ∷ k.big_map a b ∷ A) V c ty e h =
    key_of w j a (k.option o ∷ k.big_map a b ∷ A) V (and_parts (same_kind j a) (same_kind o b) (where_holds (same_kind j a && same_kind o b) _ c e)).0 ty.1.1.0.0.0 h
key_by w i.get_and_update_big_map _ V c ty e h = absurd cc
key_by w (i.empty_set a) A V c ty e h = tt
key_by w (i.empty_map a b) A V c ty e h = tt
key_by w (i.empty_big_map a b) A V c ty e h = tt
key_by w i.size_list A V c ty e h = tt
key_by w i.size_set A V c ty e h = tt
key_by w i.size_map A V c ty e h = tt
key_by w i.mem_set A V c ty e h = tt
key_by w i.mem_map A V c ty e h = tt
key_by w i.get_map A V c ty e h = tt
key_by w i.update_set A V c ty e h = tt
key_by w i.update_map A V c ty e h = tt
key_by w i.get_and_update_map A V c ty e h = tt

-- ---- wherever such an instruction comes first

-- a key stands on stacks that show the same
key_shown : (r : CollectionRow) (V W : List Val) → map shown V ≡ map shown W → HasKey r V → HasKey r W
key_shown i.mem_big_map V W e h = suits_same (on_collections i.mem_set) V W e h
key_shown i.get_big_map V W e h = suits_same (on_collections i.mem_set) V W e h
key_shown i.update_big_map V W e h = suits_same (on_collections i.mem_set) V W e h
key_shown i.get_and_update_big_map V W e h = suits_same (on_collections i.mem_set) V W e h
key_shown _ V W e h = tt

module _ (x : Beyond) (costs : Costs) (m : State) {fs : List Frame} {d : ℕ} {Z : List Kind} {o : Outcome} (r : CollectionRow) {app : Tree} (h : Meets (made.straight (on_collections r) app) x costs m fs d Z o) where
  taken : Taken (on_collections r) h.types h.next
  taken = row_taken h.fine h.holds.types

  pub has_big_map : HasBigMap r (tops x.sight m.stack)
  has_big_map = big_map_by (known x.contract_at (tally x m).issued) r h.types (tops x.sight m.stack) taken.effect h.holds.types taken.changes h.holds.fits

  pub has_key : HasKey r (plain m.stack)
  has_key = key_shown r (tops x.sight m.stack) (plain m.stack) (x.shows m.stack) (key_by (known x.contract_at (tally x m).issued) r h.types (tops x.sight m.stack) taken.effect h.holds.types taken.changes h.holds.fits)

  abbrev pub heavy : ℕ
  heavy = collection_weight r (tops x.sight m.stack)

  abbrev pub charged : ℕ
  charged = cost (listed costs) (collection_kind r) heavy

  -- the tickets of what is handed out are those that lie in it
  pub same_tickets : (gone : Value) → tickets (seen x.sight gone) ≡ tickets (val gone)
  same_tickets gone = one_of (seen x.sight gone) (val gone) (x.shows (gone ∷ []))
    where
      one_of : (a b : Val) → map shown (a ∷ []) ≡ map shown (b ∷ []) → tickets a ≡ tickets b
      one_of a b e =
          sym (append-nil (tickets a)) ∙ tickets_same (a ∷ []) (b ∷ []) e ∙ append-nil (tickets b)

  module _ (stack : List Value) (left : Value) (is : collection_step r (tops x.sight m.stack) ≡ done (tops x.sight stack) (burns (tickets (seen x.sight left)))) where
    -- they may be burnt
    pub gone_ready : IsReady m.ledger.books.present (tickets (val left))
    gone_ready =
        let V = tops x.sight m.stack in
        let all = ready_tops x costs m (on_collections r) h in
        subst (IsReady m.ledger.books.present) (given_gone (collection_step r V) (tops x.sight stack) (tickets (seen x.sight left)) is ∙ same_tickets left)
        (part_ready m.ledger.books.present (gone (collection_step r V)) (flat_map tickets V) (collection_part r V) all)

    module _ (pays : charged ≤ m.meter) where
      pub big_map_stands : (meter : ℕ) (ledger : Ledger) → Tells (burns (tickets (val left))) m.ledger ledger → meter ≡ m.meter - charged →
          StandsAt fs (around x costs (later x costs m stack meter ledger)) (tops x.sight stack) (tally x (later x costs m stack meter ledger)) d Z o
      big_map_stands meter ledger told paid =
          let n = less (around x costs m) (collection_kind r) heavy (tally x m) in
          let changes = burns (tickets (val left)) in
          stands_told x costs m stack meter ledger fs d Z o (collection_kind r) heavy changes told paid
          (row_acts (on_collections r) h pays (tops x.sight stack) (with_changes n changes)
          (λ c d B. ap (λ s. finish s B n) (is ∙ ap (λ ts. done (tops x.sight stack) (burns ts)) (same_tickets left))))
