-- What entries tell of tickets when a part or a line comes to those before it.
use Rattle.std.proofs.Common.{◌≡◌, ◌⊎◌, inl, inr, ℕ, ◌+◌, Bool, true, false, List, [], ◌∷◌, ◌++◌, cond, refl, sym, ap, ◌∙◌, subst, arith}
use Rattle.std.specs.Prelude.{◌&&◌, ◌||◌, if◌then◌else◌, is_some, Some, None, MatchOption}
use Rattle.std.specs.declared.option.Option.{Option}
use Rattle.std.specs.List.{AllByRecursion, list_all, list_any}
use Rattle.std.specs.Map.{lookup}
use Rattle.std.specs.Ordering.{nat_cmp}
use Rattle.std.specs.BTreeMap.{is_at}
use Rattle.std.specs.Cmp.Lexicographic.{slice_cmp}
use Rattle.rules_audit.specs.Fields.{Identity, Sort, minted, burnt, held, Part}
use Rattle.rules_audit.specs.Lines.{Line, tickets}
use Rattle.rules_audit.specs.Form.{same_identity, is_of}
use Rattle.rules_audit.specs.Verdicts.{same_sort, amount_of, total, has_line}
use Rattle.mich_audit.specs.Sums.{AreSums, fitting, added}
use Rattle.mich_audit.specs.Tallies.{key, HasForm, Entries, found, AreFound, AreTold, IsTold, AreKept, IsLined, IsNamed, is_part_of}
use Rattle.std.proofs.lemmas.Bool.{and_parts, and_from}
use Rattle.std.proofs.lemmas.List.Folds.{list_any-append}
use Rattle.mich_audit.specs.declared.sums.Sums.{Sums}
use Rattle.mich_audit.proofs.Keys.{one_key, at_same, same_or_apart}
use Rattle.mich_audit.proofs.Same.{identity_same, identity_equal}

-- ---- what is told of one ticket

sums_as : (m n b c h i : ℕ) (p q : Bool) (s : Sums) → n ≡ m → c ≡ b → i ≡ h → q ≡ p → AreSums m b h p s → AreSums n c i q s
sums_as m n b c h i p q s em eb eh ep a = record {
  minted = a.minted ∙ ap fitting (sym em);
  burnt = a.burnt ∙ ap fitting (sym eb);
  held = a.held ∙ ap fitting (sym eh);
  lined = a.lined ∙ sym ep;
}

-- the same totals, and a line in both or in none
pub record SameTold (ps : List Part) (ls : List Line) (qs : List Part) (ms : List Line) (id : Identity) : Type 0 where
  pub totals : (s : Sort) → total s id qs ≡ total s id ps
  pub lines : list_any (is_of id) ms ≡ list_any (is_of id) ls

pub told_as : (ps qs : List Part) (ls ms : List Line) (id : Identity) → SameTold ps ls qs ms id → (o : Option Sums) → IsTold ps ls id o → IsTold qs ms id o
told_as ps qs ls ms id e (Some s) a = sums_as _ _ _ _ _ _ _ _ s (e.totals minted) (e.totals burnt) (e.totals held) e.lines a
told_as ps qs ls ms id e None a = (e.totals minted ∙ a.0, e.totals burnt ∙ a.1, e.totals held ∙ a.2, e.lines ∙ a.3)

-- what was found, or nothing
pub told_here : (ps : List Part) (ls : List Line) (id : Identity) (r : Sums) (o : Option Sums) → IsTold ps ls id o → MatchOption o (AreSums 0 0 0 false r) (λ s. r ≡ s) → AreTold ps ls id r
told_here ps ls id r (Some s) a e = subst (AreTold ps ls id) (sym e) a
told_here ps ls id r None a e = sums_as 0 _ 0 _ 0 _ false _ r a.0 a.1 a.2 a.3 e

-- ---- one entry is set

module _ (es fs : Entries) (k : List ℕ) (s : Sums) (set : (q : List ℕ) → found q fs ≡ cond (is_at (slice_cmp nat_cmp k) q) (Some s) (found q es)) where
  pub set_here : found k fs ≡ Some s
  set_here = set k ∙ ap (λ b. cond b (Some s) (found k es)) (at_same k)

  pub set_apart : (q : List ℕ) → is_at (slice_cmp nat_cmp k) q ≡ false → found q fs ≡ found q es
  set_apart q e = set q ∙ ap (λ b. cond b (Some s) (found q es)) e

  some_still : (q : List ℕ) → is_some (found q es) ≡ true → is_some (found q fs) ≡ true
  some_still q h = elim (same_or_apart k q) [
    | inl e ↦ subst (λ (x : List ℕ). is_some (found x fs) ≡ true) e (ap is_some set_here)
    | inr e ↦ ap is_some (set_apart q e) ∙ h
  ]

  some_before : (q : List ℕ) → is_some (found q fs) ≡ true → (k ≡ q) ⊎ (is_some (found q es) ≡ true)
  some_before q h = elim (same_or_apart k q) [
    | inl e ↦ inl e
    | inr e ↦ inr (sym (ap is_some (set_apart q e)) ∙ h)
  ]

  entered_still : (ps : List Part) → AllByRecursion (λ p. HasForm p.identity × (is_some (found (key p.identity) es) ≡ true)) ps
      → AllByRecursion (λ p. HasForm p.identity × (is_some (found (key p.identity) fs) ≡ true)) ps
  entered_still [] h = tt
  entered_still (p ∷ ps) h = ((h.0.0, some_still (key p.identity) h.0.1), entered_still ps h.1)

apart_keys : (id j : Identity) → is_at (slice_cmp nat_cmp (key id)) (key j) ≡ false → same_identity j id ≡ false
apart_keys id j e = by (same_identity j id) refl where
  by : (b : Bool) → same_identity j id ≡ b → b ≡ false
  by false f = refl
  by true f =
      let same : j ≡ id = identity_equal j id f in
      let no : true ≡ false = sym (at_same (key id)) ∙ subst (λ (i : Identity). is_at (slice_cmp nat_cmp (key id)) (key i) ≡ false) same e in
      absurd cc

module _ (ps qs : List Part) (ls ms : List Line) (es fs : Entries) (id : Identity) (s : Sums) (form : HasForm id)
    (set : (q : List ℕ) → found q fs ≡ cond (is_at (slice_cmp nat_cmp (key id)) q) (Some s) (found q es)) (kept : AreKept ps ls es) (here : AreTold qs ms id s)
    (others : (j : Identity) → same_identity j id ≡ false → SameTold ps ls qs ms j) where
  set_told : (j : Identity) → HasForm j → IsTold qs ms j (found (key j) fs)
  set_told j h = elim (same_or_apart (key id) (key j)) [
    | inl e ↦ subst (λ (i : Identity). IsTold qs ms i (found (key i) fs)) (one_key id j form h e) (subst (IsTold qs ms id) (sym (set_here es fs (key id) s set)) here)
    | inr e ↦ subst (IsTold qs ms j) (sym (set_apart es fs (key id) s set (key j) e)) (told_as ps qs ls ms j (others j (apart_keys id j e)) (found (key j) es) (kept.told j h))
  ]

  set_named : IsNamed qs ms id → ((j : Identity) → IsNamed ps ls j → IsNamed qs ms j) → (k : List ℕ) → is_some (found k fs) ≡ true
      → (j : Identity) × (key j ≡ k) × HasForm j × IsNamed qs ms j
  set_named one more k h = elim (some_before es fs (key id) s set k h) [
    | inl e ↦ (id, e, form, one)
    | inr e ↦ let before = kept.named k e in (before.0, before.1, before.2, more before.0 before.3)
  ]

-- ---- a part

none_of : (s : Sort) (id : Identity) (p : Part) → same_identity id p.identity ≡ false → amount_of s id p ≡ 0
none_of s id p e = ap (λ b. if same_sort s p.sort && b then p.amount else 0) e ∙ by (same_sort s p.sort) where
  by : (b : Bool) → (if b && false then p.amount else 0) ≡ 0
  by true = refl
  by false = refl

all_of : (s : Sort) (p : Part) → amount_of s p.identity p ≡ added s p.sort p.amount
all_of s p = ap (λ b. if same_sort s p.sort && b then p.amount else 0) (identity_same p.identity) ∙ by (same_sort s p.sort) where
  by : (b : Bool) → (if b && true then p.amount else 0) ≡ (if b then p.amount else 0)
  by true = refl
  by false = refl

with_part : (ps : List Part) (p : Part) (s : Sort) → total s p.identity (p ∷ ps) ≡ total s p.identity ps + added s p.sort p.amount
with_part ps p s = let e : amount_of s p.identity p ≡ added s p.sort p.amount = all_of s p in omega (arith, e)

pub part_kept : (ps : List Part) (ls : List Line) (es fs : Entries) (p : Part) (r s : Sums) → HasForm p.identity
    → ((q : List ℕ) → found q fs ≡ cond (is_at (slice_cmp nat_cmp (key p.identity)) q) (Some s) (found q es))
    → MatchOption (found (key p.identity) es) (AreSums 0 0 0 false r) (λ s. r ≡ s)
    → ((m b h : ℕ) (lined : Bool) → AreSums m b h lined r → AreSums (m + added minted p.sort p.amount) (b + added burnt p.sort p.amount) (h + added held p.sort p.amount) lined s)
    → AreKept ps ls es → AreKept (p ∷ ps) ls fs
part_kept ps ls es fs p r s form set old with kept = record {
  told = set_told ps (p ∷ ps) ls ls es fs p.identity s form set kept here others;
  entered = ((form, ap is_some (set_here es fs (key p.identity) s set)), entered_still es fs (key p.identity) s set ps kept.entered);
  named = set_named ps (p ∷ ps) ls ls es fs p.identity s form set kept here others
      (inl (ap (λ b. b || list_any (is_part_of p.identity) ps) (identity_same p.identity)))
      (λ j h. still j h);
} where
  before : AreTold ps ls p.identity r
  before = told_here ps ls p.identity r (found (key p.identity) es) (kept.told p.identity form) old

  here : AreTold (p ∷ ps) ls p.identity s
  here = sums_as _ _ _ _ _ _ _ _ s (with_part ps p minted) (with_part ps p burnt) (with_part ps p held) refl (with _ _ _ _ before)

  others : (j : Identity) → same_identity j p.identity ≡ false → SameTold ps ls (p ∷ ps) ls j
  others j e = record { totals = λ s. let z : amount_of s j p ≡ 0 = none_of s j p e in omega (arith, z); lines = refl }

  or_true : (b : Bool) → b || true ≡ true
  or_true true = refl
  or_true false = refl

  still : (j : Identity) → IsNamed ps ls j → IsNamed (p ∷ ps) ls j
  still j (inl h) = inl (ap (λ b. is_part_of j p || b) h ∙ or_true (is_part_of j p))
  still j (inr h) = inr h

-- ---- a line of a ticket

pub line_kept : (ps : List Part) (ls : List Line) (es fs : Entries) (id : Identity) (m b h : ℕ) (r s : Sums) → HasForm id
    → ((q : List ℕ) → found q fs ≡ cond (is_at (slice_cmp nat_cmp (key id)) q) (Some s) (found q es))
    → AreTold ps ls id r → s.minted ≡ r.minted → s.burnt ≡ r.burnt → s.held ≡ r.held → s.has_line ≡ true
    → AreKept ps ls es → AreKept ps (tickets id m b h ∷ ls) fs
line_kept ps ls es fs id m b h r s form set before em eb eh el kept = record {
  told = set_told ps ps ls (line ∷ ls) es fs id s form set kept here others;
  entered = entered_still es fs (key id) s set ps kept.entered;
  named = set_named ps ps ls (line ∷ ls) es fs id s form set kept here others (inr lined) (λ j h. still j h);
} where
  line : Line
  line = tickets id m b h

  lined : list_any (is_of id) (line ∷ ls) ≡ true
  lined = ap (λ b. b || list_any (is_of id) ls) (identity_same id)

  here : AreTold ps (line ∷ ls) id s
  here = record { minted = em ∙ before.minted; burnt = eb ∙ before.burnt; held = eh ∙ before.held; lined = el ∙ sym lined }

  others : (j : Identity) → same_identity j id ≡ false → SameTold ps ls ps (line ∷ ls) j
  others j e = record { totals = λ s. refl; lines = ap (λ b. b || list_any (is_of j) ls) e }

  or_true : (b : Bool) → b || true ≡ true
  or_true true = refl
  or_true false = refl

  still : (j : Identity) → IsNamed ps ls j → IsNamed ps (line ∷ ls) j
  still j (inl h) = inl h
  still j (inr h) = inr (ap (λ b. is_of j line || b) h ∙ or_true (is_of j line))

-- ---- another line

pub other_kept : (ps : List Part) (ls : List Line) (es : Entries) (l : Line) → ((id : Identity) → is_of id l ≡ false) → AreKept ps ls es → AreKept ps (l ∷ ls) es
other_kept ps ls es l none kept = record {
  told = λ id form. told_as ps ps ls (l ∷ ls) id (same id) (found (key id) es) (kept.told id form);
  entered = kept.entered;
  named = λ k h. let before = kept.named k h in (before.0, before.1, before.2, still before.0 before.3);
} where
  same : (id : Identity) → SameTold ps ls ps (l ∷ ls) id
  same id = record { totals = λ s. refl; lines = ap (λ b. b || list_any (is_of id) ls) (none id) }

  still : (j : Identity) → IsNamed ps ls j → IsNamed ps (l ∷ ls) j
  still j (inl h) = inl h
  still j (inr h) = inr ((same j).lines ∙ h)

-- ---- a part between others

total_between : (s : Sort) (id : Identity) (front : List Part) (p : Part) (ps : List Part) → total s id (front ++ p ∷ ps) ≡ total s id (p ∷ (front ++ ps))
total_between s id [] p ps = refl
total_between s id (f ∷ front) p ps =
    let more : total s id (front ++ p ∷ ps) ≡ total s id (p ∷ (front ++ ps)) = total_between s id front p ps in omega (arith, more)

all_between : (P : Part → Type 0) (front : List Part) (p : Part) (ps : List Part) → P p → AllByRecursion P (front ++ ps) → AllByRecursion P (front ++ p ∷ ps)
all_between P [] p ps one h = (one, h)
all_between P (f ∷ front) p ps one h = (h.0, all_between P front p ps one h.1)

swapped : (a b c : Bool) → a || (b || c) ≡ b || (a || c)
swapped true true c = refl
swapped true false c = refl
swapped false b c = refl

any_between : (test : Part → Bool) (front : List Part) (p : Part) (ps : List Part) → list_any test (front ++ p ∷ ps) ≡ list_any test (p ∷ (front ++ ps))
any_between test front p ps =
    list_any-append test front (p ∷ ps) ∙ swapped (list_any test front) (test p) (list_any test ps) ∙ ap (λ b. test p || b) (sym (list_any-append test front ps))

pub between_kept : (front : List Part) (p : Part) (ps : List Part) (ls : List Line) (es : Entries) → AreKept (p ∷ (front ++ ps)) ls es → AreKept (front ++ p ∷ ps) ls es
between_kept front p ps ls es kept = record {
  told = λ id form. told_as (p ∷ (front ++ ps)) (front ++ p ∷ ps) ls ls id (record { totals = λ s. total_between s id front p ps; lines = refl }) (found (key id) es) (kept.told id form);
  entered = all_between _ front p ps kept.entered.0 kept.entered.1;
  named = λ k h. let before = kept.named k h in (before.0, before.1, before.2, still before.0 before.3);
} where
  still : (j : Identity) → IsNamed (p ∷ (front ++ ps)) ls j → IsNamed (front ++ p ∷ ps) ls j
  still j (inl h) = inl (any_between (is_part_of j) front p ps ∙ h)
  still j (inr h) = inr h

-- ---- whether each ticket has a line

some_same : (r s : Sums) → Some r ≡ Some s → r ≡ s
some_same r s e = cc

lined_at : (es : Entries) (test : List ℕ → Bool) → list_all (λ e. e.1.has_line) es ≡ true → (s : Sums) → lookup test es ≡ Some s → s.has_line ≡ true
lined_at [] test h s e = absurd cc
lined_at (x ∷ es) test h s e = by (test x.0) (λ f. lined_at es test (and_parts (x.1.has_line) (list_all (λ e. e.1.has_line) es) h).1 s f) e where
  by : (b : Bool) → (lookup test es ≡ Some s → s.has_line ≡ true) → cond b (Some x.1) (lookup test es) ≡ Some s → s.has_line ≡ true
  by true more f = subst (λ (r : Sums). r.has_line ≡ true) (some_same x.1 s f) (and_parts (x.1.has_line) (list_all (λ e. e.1.has_line) es) h).0
  by false more f = more f

pub all_lined : (ps : List Part) (ls : List Line) (es : Entries) → AreKept ps ls es → list_all (λ e. e.1.has_line) es ≡ true → list_all (has_line ls) ps ≡ true
all_lined ps ls es kept h = each ps kept.entered where
  one : (id : Identity) (o : Option Sums) → found (key id) es ≡ o → IsTold ps ls id o → is_some o ≡ true → list_any (is_of id) ls ≡ true
  one id (Some s) e told some = sym told.lined ∙ lined_at es _ h s e
  one id None e told some = let no : false ≡ true = some in absurd cc

  each : (qs : List Part) → AllByRecursion (λ p. HasForm p.identity × (is_some (found (key p.identity) es) ≡ true)) qs → list_all (has_line ls) qs ≡ true
  each [] a = refl
  each (q ∷ qs) a = and_from _ _ (one q.identity (found (key q.identity) es) refl (kept.told q.identity a.0.0) a.0.1) (each qs a.1)

and_false : (b : Bool) → b && false ≡ false
and_false true = refl
and_false false = refl

part_unlined : (ls : List Line) (id : Identity) → list_any (is_of id) ls ≡ false → (qs : List Part) → list_any (is_part_of id) qs ≡ true → list_all (has_line ls) qs ≡ false
part_unlined ls id none [] h = absurd cc
part_unlined ls id none (q ∷ qs) h = test (same_identity id q.identity) refl (λ g. part_unlined ls id none qs g) h where
  test : (b : Bool) → same_identity id q.identity ≡ b → (list_any (is_part_of id) qs ≡ true → list_all (has_line ls) qs ≡ false) → b || list_any (is_part_of id) qs ≡ true
      → has_line ls q && list_all (has_line ls) qs ≡ false
  test true e more g =
      let same : id ≡ q.identity = identity_equal id q.identity e in
      ap (λ b. b && list_all (has_line ls) qs) (subst (λ (id : Identity). list_any (is_of id) ls ≡ false) same none)
  test false e more g = ap (λ b. has_line ls q && b) (more g) ∙ and_false (has_line ls q)

pub one_unlined : (ps : List Part) (ls : List Line) (es : Entries) → AreKept ps ls es → (k : List ℕ) (s : Sums) → found k es ≡ Some s → s.has_line ≡ false → list_all (has_line ls) ps ≡ false
one_unlined ps ls es kept k s at unlined = by name.3 where
  name : (id : Identity) × (key id ≡ k) × HasForm id × IsNamed ps ls id
  name = kept.named k (ap is_some at)

  none : list_any (is_of name.0) ls ≡ false
  none = sym (subst (IsTold ps ls name.0) (ap (λ k. found k es) name.1 ∙ at) (kept.told name.0 name.2)).lined ∙ unlined

  by : IsNamed ps ls name.0 → list_all (has_line ls) ps ≡ false
  by (inl h) = part_unlined ls name.0 none ps h
  by (inr h) = let contrary : false ≡ true = sym none ∙ h in absurd cc

-- ---- entries at a key that was printed

pub part_put : (ps : List Part) (ls : List Line) (es fs : Entries) (p : Part) (r s : Sums) (k : List ℕ) → k ≡ key p.identity → HasForm p.identity
    → ((q : List ℕ) → found q fs ≡ cond (is_at (slice_cmp nat_cmp k) q) (Some s) (found q es)) → AreFound (found k es) r
    → ((m b h : ℕ) (lined : Bool) → AreSums m b h lined r → AreSums (m + added minted p.sort p.amount) (b + added burnt p.sort p.amount) (h + added held p.sort p.amount) lined s)
    → AreKept ps ls es → AreKept (p ∷ ps) ls fs
part_put ps ls es fs p r s k e form set old with kept =
    part_kept ps ls es fs p r s form (subst (λ (k : List ℕ). (q : List ℕ) → found q fs ≡ cond (is_at (slice_cmp nat_cmp k) q) (Some s) (found q es)) e set)
    (subst (λ (k : List ℕ). AreFound (found k es) r) e old) with kept

module _ (ps : List Part) (ls : List Line) (es : Entries) (id : Identity) (m b h : ℕ) (r : Sums) (k : List ℕ) (e : k ≡ key id) (form : HasForm id) (old : AreFound (found k es) r)
    (kept : AreKept ps ls es) where
  told_at : AreTold ps ls id r
  told_at = told_here ps ls id r (found (key id) es) (kept.told id form) (subst (λ (k : List ℕ). AreFound (found k es) r) e old)

  pub line_there : r.has_line ≡ true → IsLined ps ls id m b h es None
  line_there lined = sym told_at.lined ∙ lined

  pub line_put : (fs : Entries) (s : Sums) → ((q : List ℕ) → found q fs ≡ cond (is_at (slice_cmp nat_cmp k) q) (Some s) (found q es))
      → s.minted ≡ r.minted → s.burnt ≡ r.burnt → s.held ≡ r.held → s.has_line ≡ true → r.has_line ≡ false → IsLined ps ls id m b h fs (Some r)
  line_put fs s set em eb eh el unlined = (
    sym told_at.lined ∙ unlined,
    told_at,
    line_kept ps ls es fs id m b h r s form (subst (λ (k : List ℕ). (q : List ℕ) → found q fs ≡ cond (is_at (slice_cmp nat_cmp k) q) (Some s) (found q es)) e set) told_at em eb eh el kept,
  )
