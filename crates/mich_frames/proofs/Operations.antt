-- Instructions on contracts and operations.
use Rattle.std.proofs.Common.{◌≡◌, ℕ, List, [], ◌∷◌, Some, None, refl, sym, ap, ◌∙◌, subst, Bool, true, false, ◌^◌}
use Rattle.rules_text.specs.nodes.Limits.{operation_limit}
use Rattle.rules_text.specs.nodes.Tree.{Tree, seq, Trees}
use Rattle.rules_data.specs.types.Kind.{Kind}
use Rattle.rules_data.specs.types.Kind as k
use Rattle.rules_code.specs.instructions.Context.{Context}
use Rattle.rules_code.specs.instructions.Context as place
use Rattle.rules_data.specs.values.Val.{Val}
use Rattle.rules_data.specs.values.Val as v
use Rattle.rules_code.specs.steps.Failure as f
use Rattle.rules_code.specs.evaluation.Surroundings.{Surroundings}
use Rattle.rules_code.specs.evaluation.Operations.{Tally}
use Rattle.rules_code.specs.evaluation.Outcome.{Outcome, stack, failed, stuck, Go, after, only_if}
use Rattle.rules_code.specs.evaluation.Evaluation.{eval_task}
use Rattle.mich_instr.specs.Code.{Codes}
use Rattle.mich_instr.specs.Code as made
use Rattle.mich_frames.specs.Around.{Around, at, less, Pays}
use Rattle.mich_frames.specs.Pending.{Pending, depth_of, block_run, resume}
use Rattle.mich_frames.specs.Pending as p
use Rattle.mich_frames.specs.Frames.{Frame}
use Rattle.mich_frames.specs.Frames as fr
use Rattle.mich_frames.specs.Stands.{StandsAt, MeetsAt, OpensAt}
use Rattle.mich_frames.proofs.Paying.{after_after}
use Rattle.mich_frames.proofs.Made.{opens_of, block_of}
use Rattle.rules_code.specs.instructions.Straight.{Straight, OperationRow, on_operations}
use Rattle.rules_code.specs.instructions.Same.{same_kinds}
use Rattle.rules_data.specs.values.Tickets.{tickets}
use Rattle.rules_code.specs.steps.Changes.{burns}
use Rattle.rules_code.specs.steps.Costs.{kind_of, weight_of}
use Rattle.rules_code.specs.evaluation.Outcome.{with_changes}
use Rattle.rules_code.specs.evaluation.Shapes.{on_top}
use Rattle.rules_code.specs.evaluation.Contracts.{Viewed, viewed}
use Rattle.rules_code.specs.evaluation.Operating.{view_run}
use Rattle.rules_code.specs.evaluation.Evaluation.{node}
use Rattle.laws_code.proofs.evaluation_lemmas.ForCallers.{eval_is}
use Rattle.mich_instr.specs.Typed.{AreCode}
use Rattle.mich_frames.specs.Around.{viewing_at, returned}
use Rattle.rules_code.specs.instructions.Straight as i
use Rattle.rules_code.specs.steps.Step.{optional}
use Rattle.mich_frames.specs.Rows.{does, view_row, view_paid}
use Rattle.std.specs.Prelude.{option_map, pos, ◌<◌, ◌≤◌}
use Rattle.rules_data.specs.forms.Spelling.{implicit_place}
use Rattle.rules_code.specs.evaluation.Operations.{transfer, event}
use Rattle.rules_code.specs.evaluation.Contracts.{contract_of}
use Rattle.rules_code.specs.evaluation.Issuing.{with_operation}
use Rattle.mich_frames.specs.Shapes.{HasTop, HasBytes, HasTransfer, HasViewing}
use Rattle.mich_frames.specs.Rows.{IsPlace, placed}
use Rattle.mich_frames.proofs.Creating.{issue_is, issue_over}
use Rattle.mich_frames.proofs.Straights.{row_by, row_same, row_acts, row_fails, row_sound}
use Rattle.std.specs.Prelude.{if◌then◌else◌}
use Rattle.rules_text.specs.nodes.Tree.{size}
use Rattle.rules_data.specs.types.Attributes.{packable}
use Rattle.rules_code.specs.instructions.Types as t
use Rattle.rules_code.specs.instructions.Same.{same_kind}
use Rattle.rules_code.specs.instructions.Change.{makes}
use Rattle.rules_code.specs.instructions.Change.{after as after_change}
use Rattle.rules_code.specs.instructions.OtherChanges.{operation_change}
use Rattle.rules_code.specs.typing.Nodes.{tree_type}
use Rattle.rules_code.specs.typing.Fits.{Leads}
use Rattle.laws_data.proofs.types_lemmas.ForCallers.{same_kind_true}
use Rattle.laws_code.specs.stacks.Sound.{AllTypes}
use Rattle.laws_code.proofs.typed.ForCallers.{Taken}
use Rattle.laws_code.proofs.safety_lemmas.ForCallers.{Seeing, SeesIf, sees}
use Rattle.mich_instr.proofs.bodies.ForCallers.{seq_leads}
use Rattle.mich_frames.specs.Frames.{IsBlock}
use Rattle.mich_frames.specs.Fine.{IsFine}
use Rattle.mich_frames.proofs.Fine.{in_view}

-- ---- ADDRESS, IMPLICIT_ACCOUNT and CONTRACT

bytes_of : (r : OperationRow) → IsPlace r → (e : Surroundings) (d : ℕ) (B : List Kind) (V : List Val) (m : Tally) → (does (on_operations r) e d B V m ≡ stuck → ⊥) → HasBytes V
bytes_of i.address p e d B (v.bytes b ∷ W) m s = tt
bytes_of i.address p e d B [] m s = absurd (s refl)
bytes_of i.address p e d B (_ ∷ W) m s = absurd (s refl)
bytes_of i.implicit_account p e d B (v.bytes b ∷ W) m s = tt
bytes_of i.implicit_account p e d B [] m s = absurd (s refl)
bytes_of i.implicit_account p e d B (_ ∷ W) m s = absurd (s refl)
bytes_of (i.contract name a) p e d B (v.bytes b ∷ W) m s = tt
bytes_of (i.contract name a) p e d B [] m s = absurd (s refl)
bytes_of (i.contract name a) p e d B (_ ∷ W) m s = absurd (s refl)
bytes_of i.transfer_tokens p e d B V m s = absurd p
bytes_of (i.emit tag a) p e d B V m s = absurd p
bytes_of (i.view name a b) p e d B V m s = absurd p

transfer_of : (e : Surroundings) (d : ℕ) (B : List Kind) (V : List Val) (m : Tally) → (does (on_operations i.transfer_tokens) e d B V m ≡ stuck → ⊥) → HasTransfer V
transfer_of e d B (x ∷ v.number (pos amount) ∷ v.bytes b ∷ W) m s = tt
transfer_of e d B (x ∷ v.number (pos amount) ∷ _ ∷ W) m s = absurd (s refl)
transfer_of e d B (x ∷ v.number (pos amount) ∷ []) m s = absurd (s refl)
transfer_of e d B (x ∷ v.number _ ∷ W) m s = absurd (s refl)
transfer_of e d B (x ∷ _ ∷ W) m s = absurd (s refl)
transfer_of e d B (x ∷ []) m s = absurd (s refl)
transfer_of e d B [] m s = absurd (s refl)

emit_of : (tag : List ℕ) (a : Kind) (e : Surroundings) (d : ℕ) (B : List Kind) (V : List Val) (m : Tally) → (does (on_operations (i.emit tag a)) e d B V m ≡ stuck → ⊥) → HasTop V
emit_of tag a e d B (x ∷ W) m s = tt
emit_of tag a e d B [] m s = absurd (s refl)

view_of : (name : List ℕ) (a b : Kind) (e : Surroundings) (d : ℕ) (B : List Kind) (V : List Val) (m : Tally) → (does (view_row name a b) e d B V m ≡ stuck → ⊥) → HasViewing V
view_of name a b e d B (x ∷ v.bytes address ∷ W) m s = tt
view_of name a b e d B (x ∷ _ ∷ W) m s = absurd (s refl)
view_of name a b e d B (x ∷ []) m s = absurd (s refl)
view_of name a b e d B [] m s = absurd (s refl)

-- the tally once a row is charged
abbrev pub spent : Around → Tally → Straight → List Val → Tally
spent u m r V = less u (kind_of r) (weight_of r V) m

module _ {fs : List Frame} {u : Around} {m : Tally} {d : ℕ} {Z : List Kind} {o : Outcome} {app : Tree} where
  module _ (r : OperationRow) (p : IsPlace r) (b : List ℕ) (W : List Val) where
    pub place_acts : Pays u (kind_of (on_operations r)) (weight_of (on_operations r) (v.bytes b ∷ W)) m → MeetsAt (made.straight (on_operations r) app) fs u (v.bytes b ∷ W) m d Z o →
        StandsAt fs u (placed u r p b ∷ W) (spent u m (on_operations r) (v.bytes b ∷ W)) d Z o
    place_acts pays h = by r p pays h
      where
        by : (r : OperationRow) (p : IsPlace r) → Pays u (kind_of (on_operations r)) (weight_of (on_operations r) (v.bytes b ∷ W)) m → MeetsAt (made.straight (on_operations r) app) fs u (v.bytes b ∷ W) m d Z o →
            StandsAt fs u (placed u r p b ∷ W) (spent u m (on_operations r) (v.bytes b ∷ W)) d Z o
        by i.address p pays h = row_acts (on_operations i.address) h pays (v.bytes b ∷ W) (spent u m (on_operations i.address) (v.bytes b ∷ W)) (λ c d B. refl)
        by i.implicit_account p pays h = row_acts (on_operations i.implicit_account) h pays (v.bytes (implicit_place b) ∷ W) (spent u m (on_operations i.implicit_account) (v.bytes b ∷ W)) (λ c d B. refl)
        by (i.contract name a) p pays h =
            row_acts (on_operations (i.contract name a)) h pays (optional (option_map v.bytes (contract_of u.contract_at name a b)) ∷ W) (spent u m (on_operations (i.contract name a)) (v.bytes b ∷ W)) (λ c d B. refl)
        by i.transfer_tokens p pays h = absurd p
        by (i.emit tag a) p pays h = absurd p
        by (i.view name a b) p pays h = absurd p

  -- ---- TRANSFER_TOKENS

  pub transfer_top : {V : List Val} → Pays u (kind_of (on_operations i.transfer_tokens)) (weight_of (on_operations i.transfer_tokens) V) m →
      MeetsAt (made.straight (on_operations i.transfer_tokens) app) fs u V m d Z o → HasTransfer V
  transfer_top {V = V} pays h = let s = row_sound (on_operations i.transfer_tokens) h pays in transfer_of (at u s.0) s.1 s.2 V _ s.3

  module _ (x : Val) (amount : ℕ) (b : List ℕ) (W : List Val)
      (pays : Pays u (kind_of (on_operations i.transfer_tokens)) (weight_of (on_operations i.transfer_tokens) (x ∷ v.number (pos amount) ∷ v.bytes b ∷ W)) m)
      (h : MeetsAt (made.straight (on_operations i.transfer_tokens) app) fs u (x ∷ v.number (pos amount) ∷ v.bytes b ∷ W) m d Z o) where
    pub transfer_acts : m.operations < operation_limit →
        StandsAt fs u (v.operation m.operations ∷ W) (with_operation (spent u m (on_operations i.transfer_tokens) (x ∷ v.number (pos amount) ∷ v.bytes b ∷ W)) (transfer x amount b)) d Z o
    transfer_acts lt = row_acts (on_operations i.transfer_tokens) h pays _ _ (λ c d B.
        issue_is (transfer x amount b) (spent u m (on_operations i.transfer_tokens) (x ∷ v.number (pos amount) ∷ v.bytes b ∷ W)) (λ y m. stack B (y ∷ W) m) lt)

    pub transfer_over : operation_limit ≤ m.operations → o ≡ failed f.too_many_operations
    transfer_over le = row_fails (on_operations i.transfer_tokens) h pays f.too_many_operations (λ c d B.
        issue_over (transfer x amount b) (spent u m (on_operations i.transfer_tokens) (x ∷ v.number (pos amount) ∷ v.bytes b ∷ W)) (λ y m. stack B (y ∷ W) m) le)

  -- ---- EMIT

  pub emit_top : (tag : List ℕ) (a : Kind) {V : List Val} → Pays u (kind_of (on_operations (i.emit tag a))) (weight_of (on_operations (i.emit tag a)) V) m →
      MeetsAt (made.straight (on_operations (i.emit tag a)) app) fs u V m d Z o → HasTop V
  emit_top tag a {V = V} pays h = let s = row_sound (on_operations (i.emit tag a)) h pays in emit_of tag a (at u s.0) s.1 s.2 V _ s.3

  module _ (tag : List ℕ) (a : Kind) (x : Val) (W : List Val)
      (pays : Pays u (kind_of (on_operations (i.emit tag a))) (weight_of (on_operations (i.emit tag a)) (x ∷ W)) m)
      (h : MeetsAt (made.straight (on_operations (i.emit tag a)) app) fs u (x ∷ W) m d Z o) where
    pub emit_acts : m.operations < operation_limit →
        StandsAt fs u (v.operation m.operations ∷ W) (with_operation (spent u m (on_operations (i.emit tag a)) (x ∷ W)) (event tag a x)) d Z o
    emit_acts lt = row_acts (on_operations (i.emit tag a)) h pays _ _ (λ c d B.
        issue_is (event tag a x) (spent u m (on_operations (i.emit tag a)) (x ∷ W)) (λ y m. stack B (y ∷ W) m) lt)

    pub emit_over : operation_limit ≤ m.operations → o ≡ failed f.too_many_operations
    emit_over le = row_fails (on_operations (i.emit tag a)) h pays f.too_many_operations (λ c d B.
        issue_over (event tag a x) (spent u m (on_operations (i.emit tag a)) (x ∷ W)) (λ y m. stack B (y ∷ W) m) le)

-- ---- VIEW

module _ {fs : List Frame} {u : Around} {m : Tally} {d : ℕ} {Z : List Kind} {o : Outcome} {app : Tree} where
  pub viewing_top : (name : List ℕ) (a b : Kind) {V : List Val} → Pays u (kind_of (view_row name a b)) (weight_of (view_row name a b) V) m →
      MeetsAt (made.straight (view_row name a b) app) fs u V m d Z o → HasViewing V
  viewing_top name a b {V = V} pays h = let s = row_sound (view_row name a b) h pays in view_of name a b (at u s.0) s.1 s.2 V _ s.3

module _ {fs : List Frame} {u : Around} {m : Tally} {d : ℕ} {Z : List Kind} {o : Outcome} (name : List ℕ) (a b : Kind) {app : Tree} (x : Val) (address : List ℕ) (W : List Val) where
  module _ (pays : Pays u (kind_of (view_row name a b)) (weight_of (view_row name a b) (x ∷ v.bytes address ∷ W)) m) (h : MeetsAt (made.straight (view_row name a b) app) fs u (x ∷ v.bytes address ∷ W) m d Z o) where
    -- there is no such view
    pub view_none : viewed u.contract_at name a b address ≡ None → StandsAt fs u (v.nothing ∷ W) (with_changes (view_paid u m name a b x address W) (burns (tickets x))) d Z o
    view_none e = row_acts (view_row name a b) h pays _ _ (λ c d B. ap (λ w. view_run (λ t. eval_task (node t)) (at u c) d a b w x B W (view_paid u m name a b x address W)) e)

    view_same : (w : Viewed) → viewed u.contract_at name a b address ≡ Some w → (c : Context) (ps : List Pending) (B : List Kind) →
        after (does (view_row name a b) (at u c) (depth_of ps) B (x ∷ v.bytes address ∷ W) (view_paid u m name a b x address W)) (resume ps (at u c)) ≡ o →
        after (view_run (λ t. eval_task (node t)) (at u c) (depth_of ps) a b (Some w) x B W (view_paid u m name a b x address W)) (resume ps (at u c)) ≡ o
    view_same w e c ps B same = sym (ap (λ w. after (view_run (λ t. eval_task (node t)) (at u c) (depth_of ps) a b w x B W (view_paid u m name a b x address W)) (resume ps (at u c))) e) ∙ same

    -- the stack is of an input of the view's type and an address
    viewed_by : {P : Type 0} (c : Context) (ps : List Pending) (S B : List Kind) (w : Viewed) → viewed u.contract_at name a b address ≡ Some w → Taken (view_row name a b) S B →
        IsFine u c ps S (x ∷ v.bytes address ∷ W) m.issued m.changes →
        ((A : List Kind) → B ≡ k.option b ∷ A → Seeing (at u c) a b w → packable b ≡ true → AllTypes (k.option b ∷ A) → IsFine u c ps (a ∷ t.address ∷ A) (x ∷ v.bytes address ∷ W) m.issued m.changes → P) → P
    viewed_by {P = P} c ps S B w e taken holds go = by S holds taken.changes
      where
        sees_it : (A : List Kind) → IsFine u c ps (a ∷ t.address ∷ A) (x ∷ v.bytes address ∷ W) m.issued m.changes → Seeing (at u c) a b w
        sees_it A holds = subst (SeesIf (at u c) a b) e (sees (at u c) holds.good a b name address holds.fits.1.0)

        by_kind : (j : Kind) (A : List Kind) → IsFine u c ps (j ∷ t.address ∷ A) (x ∷ v.bytes address ∷ W) m.issued m.changes → (q : Bool) → same_kind a j ≡ q → (if q then makes (k.option b) A else None) ≡ Some taken.effect → P
        by_kind j A holds true same changes =
            let effect : record { made = k.option b ∷ []; kept = A } ≡ taken.effect = cc in
            let next : B ≡ k.option b ∷ A = taken.stack ∙ sym (ap after_change effect) in
            let here : IsFine u c ps (a ∷ t.address ∷ A) (x ∷ v.bytes address ∷ W) m.issued m.changes =
            subst (λ z. IsFine u c ps (z ∷ t.address ∷ A) (x ∷ v.bytes address ∷ W) m.issued m.changes) (sym (same_kind_true a j same)) holds in
            go A next (sees_it A here) taken.carries.0 (subst AllTypes next taken.types) here
        by_kind j A holds false same changes = absurd cc

        by : (S : List Kind) → IsFine u c ps S (x ∷ v.bytes address ∷ W) m.issued m.changes → operation_change (i.view name a b) S ≡ Some taken.effect → P
        by (j ∷ t.address ∷ A) holds changes = by_kind j A holds (same_kind a j) refl changes
        by _ holds changes = absurd cc

    viewed_block : (c : Context) (ps : List Pending) (S B : List Kind) (w : Viewed) (ts : Trees) (is : Codes) → viewed u.contract_at name a b address ≡ Some w → w.body ≡ seq ts →
        AreCode place.view ts is (k.pair a w.storage ∷ []) (b ∷ []) → Taken (view_row name a b) S B → IsFine u c ps S (x ∷ v.bytes address ∷ W) m.issued m.changes →
        IsBlock place.view ts is (k.pair a w.storage ∷ []) (b ∷ [])
    viewed_block c ps S B w ts is e is_body code taken holds = viewed_by c ps S B w e taken holds (λ A next s output types here.
        block_of code (seq_leads ts place.view (k.pair a w.storage ∷ []) (b ∷ []) (subst (λ n. Leads (tree_type n place.view (k.pair a w.storage ∷ [])) (b ∷ [])) is_body s.leads))
        (subst (λ n. size n < 2 ^ 32) is_body s.small))

    viewed_holds : (c : Context) (ps : List Pending) (S B : List Kind) (w : Viewed) → viewed u.contract_at name a b address ≡ Some w → Taken (view_row name a b) S B →
        IsFine u c ps S (x ∷ v.bytes address ∷ W) m.issued m.changes →
        IsFine (viewing_at u w m.issued m.changes) place.view (p.viewing (at u c) u.burnt m.issued m.changes b B W ∷ ps) (k.pair a w.storage ∷ []) (v.both x w.contract.storage ∷ []) m.issued m.changes
    viewed_holds c ps S B w e taken holds = viewed_by c ps S B w e taken holds (λ A next s output types here.
        subst (λ B. IsFine (viewing_at u w m.issued m.changes) place.view (p.viewing (at u c) u.burnt m.issued m.changes b B W ∷ ps) (k.pair a w.storage ∷ []) (v.both x w.contract.storage ∷ []) m.issued m.changes) (sym next)
        (in_view b w s output types here))

    -- the view's body runs on its input and the storage
    pub view_opens : (w : Viewed) (ts : Trees) (is : Codes) → viewed u.contract_at name a b address ≡ Some w → w.body ≡ seq ts → AreCode place.view ts is (k.pair a w.storage ∷ []) (b ∷ []) →
        OpensAt is (fr.viewing u.environment u.burnt m.issued m.changes W ∷ fs) (viewing_at u w m.issued m.changes) (v.both x w.contract.storage ∷ []) (view_paid u m name a b x address W) d Z o
    view_opens w ts is e is_body fine = row_by (view_row name a b) h (λ c ps S B rests depth same ends taken holds.
        let A : List Kind = k.pair a w.storage ∷ [] in
        let X : List Val = v.both x w.contract.storage ∷ [] in
        let y : Surroundings = at (viewing_at u w m.issued m.changes) place.view in
        let on_result : Go = λ C Y n. only_if (same_kinds C (b ∷ [])) (on_top C Y (λ _ _ y _. stack B (v.some y ∷ W) (returned m.issued m.changes n))) in
        let one : after (after (eval_task (node w.body) y (depth_of ps) A X (view_paid u m name a b x address W)) on_result) (resume ps (at u c)) ≡ o = view_same w e c ps B (row_same (view_row name a b) h pays c ps B same) in
        let two : after (after (eval_task (node (seq ts)) y (depth_of ps) A X (view_paid u m name a b x address W)) on_result) (resume ps (at u c)) ≡ o =
        sym (ap (λ t. after (after (eval_task (node t) y (depth_of ps) A X (view_paid u m name a b x address W)) on_result) (resume ps (at u c))) is_body) ∙ one in
        opens_of record { charged = h.runs.charged; sound = h.runs.sound } (p.viewing (at u c) u.burnt m.issued m.changes b B W ∷ ps) place.view ts A (b ∷ []) (viewed_block c ps S B w ts is e is_body fine taken holds) (fr.rests_viewing {u' = u} refl rests) depth
        (sym (after_after (block_run ts y (depth_of ps) A X (view_paid u m name a b x address W)) on_result (resume ps (at u c)))
        ∙ ap (λ z. after (after z on_result) (resume ps (at u c))) (sym (eval_is (node (seq ts)) y h.runs.charged (depth_of ps) A X (view_paid u m name a b x address W)))
        ∙ two)
        (viewed_holds c ps S B w e taken holds))
