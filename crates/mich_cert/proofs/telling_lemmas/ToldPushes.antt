-- PUSH, and the bodies in literals.
use Rattle.std.proofs.Common.{◌≡◌, ℕ, ◌+◌, ◌<◌, ◌≤◌, suc, Bool, true, false, cond, List, [], ◌∷◌, ◌++◌, drop, length, get_or, Option, Some, None, refl, sym, ap, ◌∙◌, subst, drop-cons, add-one}
use Rattle.std.specs.Prelude.{Result, Ok, Err}
use Rattle.std.proofs.lemmas.List.{append-nil, drop_all}
use Rattle.rules_text.specs.nodes.Tree.{Tree, int, str, bytes, prim, seq, Trees, none, more, size, preorder, preorders}
use Rattle.rules_data.specs.types.Attributes.{pushable}
use Rattle.rules_data.specs.types.Kind.{Kind}
use Rattle.rules_data.specs.values.Val.{Val}
use Rattle.rules_data.specs.values.Literals.{Pending, body, claim, Literal, good, read}
use Rattle.rules_code.specs.instructions.Arguments.{Found, found, and_then, type_argument}
use Rattle.rules_code.specs.instructions.Control.{Pushed, call_kinds}
use Rattle.rules_code.specs.instructions.Context.{Context, lambda}
use Rattle.rules_code.specs.instructions.Forms as f
use Rattle.rules_code.specs.typing.Bodies.{body_fault}
use Rattle.rules_code.specs.typing.Literals.{fault_of_bodies}
use Rattle.rules_code.specs.typing.Nodes as nodes
use Rattle.rules_code.specs.typing.Nodes.{tree_type}
use Rattle.rules_code.specs.typing.Typing.{Typing, goes, shift}
use Rattle.rules_code.specs.certificates.Blocks.{blocks, on_found, literal_blocks, pending_blocks}
use Rattle.rules_code.specs.certificates.Derivation.{Entry, block_entries, of_blocks, tellers}
use Rattle.laws_typing.specs.literals.Laws.{AllStandIn}
use Rattle.laws_typing.proofs.literals_lemmas.ForCallers.{size_is, bodies_stand}
use Rattle.laws_typing.proofs.literals_lemmas.Places.{all_left, all_right}
use Rattle.mich_base.specs.declared.node.Node.{Node}
use Rattle.mich_base.specs.declared.ty.Ty.{Ty}
use Rattle.mich_base.specs.View.{tree, trees}
use Rattle.mich_check.specs.Pending.{IsFaulty, IsRead, called_fault, item_fault, moved}
use Rattle.mich_check.proofs.PushTyping.{called_item, items_fault, push_goes}
use Rattle.mich_data.specs.View.{pending, all_pending}
use Rattle.mich_data.specs.declared.pending.Pending.{Pending as Item}
use Rattle.mich_instr.specs.Typed.{HasForm}
use Rattle.mich_outline.proofs.ForCallers.{argument_from}
use Rattle.mich_control.specs.Answers.{typing, ends_in, inside, IsFault}
use Rattle.mich_typed.specs.declared.error.CheckError.{CheckError}
use Rattle.mich_typed.specs.declared.error.CheckError.TheVariants as error
use Rattle.mich_control.proofs.Read.{read_as}
use Rattle.mich_control.proofs.Shifts.{seq_at}
use Rattle.mich_cert.specs.telling.Told.{Adds}
use Rattle.mich_cert.specs.telling.Walk.{AreSequences, Confirms, FollowsApp, IsReadBy, app_entries, called_entries, pending_entries}
use Rattle.mich_cert.specs.declared.telling.told.Told.{Told}
use Rattle.mich_cert.proofs.telling_lemmas.Lines.{adds_none, adds_both}
use Rattle.mich_cert.proofs.Sequenced as sequenced
use Rattle.mich_cert.proofs.Standing.{body_told}
use Rattle.mich_cert.proofs.telling_lemmas.ToldBlocks.{Completes}

-- ---- bodies

sequence_is : (t : Tree) → sequenced.IsSequence t → t ≡ seq (inside t)
sequence_is (seq ts) h = refl
sequence_is (int n) h = absurd h
sequence_is (str s) h = absurd h
sequence_is (bytes b) h = absurd h
sequence_is (prim name annots ts) h = absurd h

sequences_are : (ps : List Pending) → sequenced.AreSequences ps → AreSequences ps
sequences_are [] h = tt
sequences_are (body l a r recursive t ∷ ps) h = (sequence_is t h.0, sequences_are ps h.1)
sequences_are (claim l b a ∷ ps) h = sequences_are ps h

pub read_sequences : (a : Kind) (at : ℕ) (t : Tree) (x : Val) (ps : List Pending) → read a at t ≡ good x ps → AreSequences ps
read_sequences a at t x ps e = sequences_are ps (sequenced.are_sequences a at t x ps e)

-- a body that ends so
pub ended_fault : (at : ℕ) (T : Typing) (o : Option (List Ty)) (r : Kind) (C : List Kind) → T ≡ typing o → C ≡ r ∷ [] →
    body_fault at T r ≡ cond (ends_in o C) None (Some at)
ended_fault at T o r C h e = ap (λ U. body_fault at U r) h ∙ by o ∙ ap (λ D. cond (ends_in o D) None (Some at)) (sym e)
  where
    by : (o : Option (List Ty)) → body_fault at (typing o) r ≡ cond (ends_in o (r ∷ [])) None (Some at)
    by (Some ts) = refl
    by None = refl

pub failed_body : (A : Type 0) (at : ℕ) (T : Typing) (r : Kind) (es : List Entry) (old new : Told) (z : CheckError) → IsFault T z →
    Confirms {A = A} (body_fault at T r) es old new (Err z)
failed_body A at T r es old new (error.IllTyped l) h = ap (λ U. body_fault at U r) h
failed_body A at T r es old new error.Memory h = tt

module _ (at : ℕ) (a r : Kind) (recursive : Bool) (t : Tree) (sequence : t ≡ seq (inside t)) (S : List Kind) (s : S ≡ call_kinds a r recursive) where
  typed : shift at (tree_type t lambda (call_kinds a r recursive)) ≡ nodes.body t at lambda S
  typed = ap (λ A. shift at (tree_type t lambda A)) (sym s) ∙ seq_at at t (inside t) lambda S sequence

  pub called_failed : (A : Type 0) (es : List Entry) (old new : Told) (z : CheckError) → IsFault (nodes.body t at lambda S) z →
      Confirms {A = A} (called_fault at a r recursive t) es old new (Err z)
  called_failed A es old new z h =
      subst (λ T. Confirms {A = A} (body_fault at T r) es old new (Err z)) (sym typed) (failed_body A at (nodes.body t at lambda S) r es old new z h)

  module _ (o : Option (List Ty)) (h : nodes.body t at lambda S ≡ typing o) (C : List Kind) (e : C ≡ r ∷ []) where
    ended : called_fault at a r recursive t ≡ cond (ends_in o C) None (Some at)
    ended = ended_fault at (shift at (tree_type t lambda (call_kinds a r recursive))) o r C (typed ∙ h) e

    pub called_good : (old new : Told) → Adds old new (block_entries t at lambda S) → ends_in o C ≡ true →
        (called_fault at a r recursive t ≡ None) × Adds old new (called_entries at a r recursive t)
    called_good old new g k = (ended ∙ ap (λ b. cond b None (Some at)) k, subst (λ A. Adds old new (block_entries t at lambda A)) s g)

    pub called_other : ends_in o C ≡ false → called_fault at a r recursive t ≡ Some at
    called_other k = ended ∙ ap (λ b. cond b None (Some at)) k

-- the same of a body from one type to another
module _ (at : ℕ) (t : Tree) (c : Context) (a r : Kind) (S : List Kind) (s : S ≡ a ∷ []) where
  begun : nodes.body t at c (a ∷ []) ≡ nodes.body t at c S
  begun = ap (nodes.body t at c) (sym s)

  pub whole_failed : (A : Type 0) (es : List Entry) (old new : Told) (z : CheckError) → IsFault (nodes.body t at c S) z →
      Confirms {A = A} (body_fault at (nodes.body t at c (a ∷ [])) r) es old new (Err z)
  whole_failed A es old new z h =
      subst (λ T. Confirms {A = A} (body_fault at T r) es old new (Err z)) (sym begun) (failed_body A at (nodes.body t at c S) r es old new z h)

  module _ (o : Option (List Ty)) (h : nodes.body t at c S ≡ typing o) (C : List Kind) (e : C ≡ r ∷ []) where
    ended_whole : body_fault at (nodes.body t at c (a ∷ [])) r ≡ cond (ends_in o C) None (Some at)
    ended_whole = ended_fault at (nodes.body t at c (a ∷ [])) o r C (begun ∙ h) e

    pub whole_good : (old new : Told) → Adds old new (block_entries t at c S) → ends_in o C ≡ true →
        (body_fault at (nodes.body t at c (a ∷ [])) r ≡ None) × Adds old new (block_entries t at c (a ∷ []))
    whole_good old new g k = (ended_whole ∙ ap (λ b. cond b None (Some at)) k, subst (λ A. Adds old new (block_entries t at c A)) s g)

    pub whole_other : ends_in o C ≡ false → body_fault at (nodes.body t at c (a ∷ [])) r ≡ Some at
    whole_other k = ended_whole ∙ ap (λ b. cond b None (Some at)) k

-- ---- one after another

pub no_entries : (told : Told) (at l : ℕ) (b : List ℕ) (a : Kind) → Adds told told (pending_entries at (claim l b a ∷ []))
no_entries told at l b a = adds_none told

entries_more : (at : ℕ) (p : Pending) (ps : List Pending) → pending_entries at (p ∷ ps) ≡ pending_entries at (p ∷ []) ++ pending_entries at ps
entries_more at (body l a r recursive t) ps = ap (λ X. X ++ pending_entries at ps) (sym (append-nil (called_entries (at + l) a r recursive t)))
entries_more at (claim l b a) ps = refl

sequences_more : (p : Pending) (ps : List Pending) → AreSequences (p ∷ ps) → AreSequences (p ∷ []) × AreSequences ps
sequences_more (body l a r recursive t) ps h = ((h.0, tt), h.1)
sequences_more (claim l b a) ps h = (tt, h)

module _ (ps : List Item) (i : ℕ) (p : Item) (h : i < length ps) (e : p ≡ get_or ps i p) where
  items_at : all_pending (drop i ps) ≡ pending p ∷ all_pending (drop (i + 1) ps)
  items_at =
      ap all_pending (drop-cons ps i p h) ∙ ap (λ x. pending x ∷ all_pending (drop (suc i) ps)) (sym e)
      ∙ ap (λ k. pending p ∷ all_pending (drop k ps)) (sym (add-one i))

  pub items_sequences : AreSequences (all_pending (drop i ps)) → AreSequences (pending p ∷ []) × AreSequences (all_pending (drop (i + 1) ps))
  items_sequences g = sequences_more (pending p) (all_pending (drop (i + 1) ps)) (subst AreSequences items_at g)

  pub items_told : (at : ℕ) (whole : List Entry) (old now next : Told) → Completes old now whole (pending_entries at (all_pending (drop i ps))) →
      Adds now next (pending_entries at (pending p ∷ [])) → Completes old next whole (pending_entries at (all_pending (drop (i + 1) ps)))
  items_told at whole old now next g a new k =
      let first : List Entry = pending_entries at (pending p ∷ []) in
      let rest : List Entry = pending_entries at (all_pending (drop (i + 1) ps)) in
      let both : pending_entries at (all_pending (drop i ps)) ≡ first ++ rest =
      ap (pending_entries at) items_at ∙ entries_more at (pending p) (all_pending (drop (i + 1) ps)) in
      g new (subst (Adds now new) (sym both) (adds_both now next new first rest a k))

pub items_all : (ps : List Item) (i at : ℕ) (whole : List Entry) (old now : Told) → length ps ≤ i →
    Completes old now whole (pending_entries at (all_pending (drop i ps))) → Adds old now whole
items_all ps i at whole old now h g =
    g now (subst (Adds now now) (sym (ap (λ xs. pending_entries at (all_pending xs)) (drop_all i ps h))) (adds_none now))

-- ---- faults

pub as_read : (at : ℕ) (e : Literal Val) (z : CheckError) → IsReadBy at e (Err z) → IsRead at e (Err z)
as_read at e (error.IllTyped l) h = h
as_read at e error.Memory h = tt

pub as_faulty : (A T : Type 0) (f : Option ℕ) (es : List Entry) (old new : Told) (z : CheckError) → Confirms {A = A} f es old new (Err z) → IsFaulty {T = T} f (Err z)
as_faulty A T f es old new (error.IllTyped l) h = h
as_faulty A T f es old new error.Memory h = tt

pub as_confirms : (A T : Type 0) (f : Option ℕ) (es : List Entry) (old new : Told) (z : CheckError) → IsFaulty {T = T} f (Err z) → Confirms {A = A} f es old new (Err z)
as_confirms A T f es old new (error.IllTyped l) h = h
as_confirms A T f es old new error.Memory h = tt

pub items_failed : (A : Type 0) (ps : List Item) (i : ℕ) (p : Item) → i < length ps → p ≡ get_or ps i p → (at : ℕ) (whole : Option ℕ) (es fs : List Entry) (old now new : Told) (z : CheckError) →
    whole ≡ moved at (fault_of_bodies (all_pending (drop i ps))) → Confirms {A = A} (moved at (item_fault (pending p))) es old now (Err z) → Confirms {A = A} whole fs old new (Err z)
items_failed A ps i p h e at whole es fs old now new z w k =
    as_confirms A (Unit {0}) whole fs old new z (items_fault ps i p h e at whole z w (as_faulty A (Unit {0}) (moved at (item_fault (pending p))) es old now z k))

-- a body that is pending
pub item_told : (A : Type 0) (at l : ℕ) (a r : Kind) (recursive : Bool) (t : Tree) (old new : Told) (z : Result A CheckError) →
    Confirms (called_fault (at + l) a r recursive t) (called_entries (at + l) a r recursive t) old new z →
    Confirms (moved at (called_fault l a r recursive t)) (pending_entries at (body l a r recursive t ∷ [])) old new z
item_told A at l a r recursive t old new (Ok u) h =
    (called_item {T = A} at l a r recursive t (Ok u) h.0, subst (Adds old new) (sym (append-nil (called_entries (at + l) a r recursive t))) h.1)
item_told A at l a r recursive t old new (Err (error.IllTyped m)) h = called_item {T = A} at l a r recursive t (Err (error.IllTyped m)) h
item_told A at l a r recursive t old new (Err error.Memory) h = tt

-- ---- PUSH

-- the nodes of the second argument stand behind those of the first
second : (t u : Tree) (ps : List Pending) → AllStandIn (1 + size t) (preorder u) ps → AllStandIn 1 (preorders (more t (more u none))) ps
second t u ps h =
    all_right 1 (preorder t) (preorders (more u none)) ps
    (all_left (1 + length (preorder t)) (preorder u) [] ps (subst (λ n. AllStandIn (1 + n) (preorder u) ps) (size_is t) h))

pending_told : (ts : Trees) (at : ℕ) (ps : List Pending) → AllStandIn 1 (preorders ts) ps → of_blocks (tellers ts (at + 1)) (pending_blocks ps) ≡ pending_entries at ps
pending_told ts at [] s = refl
pending_told ts at (claim l b a ∷ ps) s = pending_told ts at ps s.1
pending_told ts at (body l a r q t ∷ ps) s =
    ap (λ X. X ++ of_blocks (tellers ts (at + 1)) (pending_blocks ps)) (body_told ts at l s.0.0 t lambda (call_kinds a r q) s.0.1 s.0.2)
    ∙ ap (λ X. called_entries (at + l) a r q t ++ X) (pending_told ts at ps s.1)

module _ (at : ℕ) (c : Context) (name : List ℕ) (annots : List (List ℕ)) (ns : List Node) (S : List Kind) (form : HasForm f.push name)
    (v w : Node) (two : ns ≡ v ∷ w ∷ []) (a : Kind) (q : ℕ) (of : type_argument pushable (at + 1) (tree v) ≡ found a) (there : q ≡ 1 + size (tree v))
    (x : Val) (ps : List Pending) (reads : read a q (tree w) ≡ good x ps) where
  abbrev ts : Trees
  ts = more (tree v) (more (tree w) none)

  is_type : type_argument pushable 1 (tree v) ≡ found a
  is_type = read_as at (type_argument pushable 1 (tree v)) a (sym (argument_from at 1 pushable (tree v)) ∙ of)

  reads_there : read a (1 + size (tree v)) (tree w) ≡ good x ps
  reads_there = ap (λ n. read a n (tree w)) (sym there) ∙ reads

  entries_are : app_entries name (trees ns) at c S ≡ pending_entries at ps
  entries_are =
      ap (λ g. of_blocks (tellers (trees ns) (at + 1)) (blocks g (trees ns) c S)) form
      ∙ ap (λ ms. of_blocks (tellers (trees ms) (at + 1)) (blocks f.push (trees ms) c S)) two
      ∙ ap (λ (k : Found Kind). of_blocks (tellers ts (at + 1)) (on_found (and_then k (λ a. found record { kind = a; location = 1 + size (tree v); literal = tree w })) (λ (p : Pushed). literal_blocks (read p.kind p.location p.literal)))) is_type
      ∙ ap (λ e. of_blocks (tellers ts (at + 1)) (literal_blocks e)) reads_there
      ∙ pending_told ts at ps (second (tree v) (tree w) ps (bodies_stand a (1 + size (tree v)) (tree w) x ps reads_there))

  pub push_told : (old new : Told) → (moved at (fault_of_bodies ps) ≡ None) × Adds old new (pending_entries at ps) → (o : Option (List Ty)) →
      typing o ≡ goes (a ∷ S) → FollowsApp at c name annots (trees ns) S old new (Ok o)
  push_told old new h o g = (
    push_goes at c name annots ns S form v w two a q of there x ps reads o h.0 g,
    subst (Adds old new) (sym entries_are) h.1,
  )
