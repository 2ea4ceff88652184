-- Types and contents of tickets that nodes spell.
use Rattle.std.proofs.Common.{◌≡◌, ◌≤◌, ◌<◌, ◌+◌, ◌^◌, ℕ, pos, Bool, true, false, cond, List, [], ◌∷◌, None, Some, nat_le, refl, sym, ap, ◌∙◌, subst, is_some, option_map, IfSome, arith}
use Rattle.std.specs.Prelude.{if◌then◌else◌, ℤ}
use Rattle.std.specs.declared.option.Option.{Option}
use Rattle.std.proofs.lemmas.Bool.Decides.{nat_tests}
use Rattle.rules_text.specs.nodes.Tree.{Tree, int, str, bytes, prim, seq, Trees, none, more, size, sizes}
use Rattle.rules_data.specs.types.Attributes.{comparable}
use Rattle.rules_data.specs.types.Kind.{Kind, nodes}
use Rattle.rules_data.specs.types.Kind as k
use Rattle.rules_data.specs.types.Reading.{Former, simple_type, operation_type, one_argument, two_arguments, pair_type, no_type, former_of_name, asked_of_argument, of_argument, asked_of_first, asked_of_second, of_arguments, Read, good, bad, Part, part, with_part, on_good, paired, applied, typed, parts, limited, Reading, a_type, bad_type, too_large, type_at}
use Rattle.rules_data.specs.declared.types.OneArgument.{OneArgument}
use Rattle.rules_data.specs.declared.types.OneArgument.TheVariants as one
use Rattle.rules_data.specs.declared.types.TwoArguments.{TwoArguments}
use Rattle.rules_data.specs.declared.types.TwoArguments.TheVariants as two
use Rattle.rules_data.specs.values.Literals.{Literal, Pending, read}
use Rattle.rules_data.specs.values.Literals as l
use Rattle.rules_data.specs.values.Tickets.{Held}
use Rattle.rules_data.specs.values.Val.{Val, is_comparable}
use Rattle.rules_world.specs.world.Gives.{Offer, offered, ticket_by, ticket_with}
use Rattle.rules_world.specs.world.Good.{known_with}
use Rattle.rules_world.specs.world.World.{World, new_world}
use Rattle.laws_world.proofs.accounts.ForCallers.{compared_fits}
use Rattle.laws_code.proofs.stacks.ForCallers.{comparable_value}
use Rattle.mich_base.specs.TypeView.{kind}
use Rattle.mich_base.specs.declared.ty.Ty.{Ty}
use Rattle.mich_forms.specs.Spelled.{place_bytes}
use Rattle.mich_forms.specs.declared.places.Place.{Place}
use Rattle.mich_term.specs.View.{datum}
use Rattle.mich_term.specs.declared.datum.Datum.{Datum}
use Rattle.mich_operations.specs.Gifts.{compared, content_in, tickets_of}

-- ---- a type has no fewer nodes than the node that spells it

good_same : (a b : Kind) → good a ≡ good b → a ≡ b
good_same a b e = cc

asked_good : (b : Bool) (r : Read) (at : ℕ) (c : Kind) → cond b r (bad at) ≡ good c → r ≡ good c
asked_good true r at c e = e
asked_good false r at c e = absurd cc

taken : (asked : Kind → Bool) (at : ℕ) (r : Read) (next : Kind → Read) (c : Kind) → with_part asked (part at r) next ≡ good c
    → (a : Kind) × (r ≡ good a) × (next a ≡ good c)
taken asked at (good a) next c e = (a, refl, asked_good (asked a) (next a) at c e)
taken asked at (bad m) next c e = absurd cc

on_pair : (a : Kind) (r : Read) (c : Kind) → on_good (k.pair a) r ≡ good c → (d : Kind) × (r ≡ good d) × (k.pair a d ≡ c)
on_pair a (good d) c e = (d, refl, good_same (k.pair a d) c e)
on_pair a (bad m) c e = absurd cc

abbrev Spells : ℕ → Read → Type 0
Spells n r = (a : Kind) → r ≡ good a → n ≤ nodes a

-- parts of so many nodes together
abbrev AllSpell : List Part → ℕ → Type 0
AllSpell [] m = m ≡ 0
AllSpell (part at r ∷ qs) m = (n rest : ℕ) × (m ≡ n + rest) × Spells n r × AllSpell qs rest

one_nodes : (f : OneArgument) (a : Kind) → nodes (of_argument f a) ≡ nodes a + 1
one_nodes one.Option a = refl
one_nodes one.List a = refl
one_nodes one.Set a = refl
one_nodes one.Contract a = refl
one_nodes one.Ticket a = refl

two_nodes : (f : TwoArguments) (a b : Kind) → nodes (of_arguments f a b) ≡ nodes a + nodes b + 1
two_nodes two.Or a b = refl
two_nodes two.Map a b = refl
two_nodes two.BigMap a b = refl
two_nodes two.Lambda a b = refl

single : (m : ℕ) (a c : Kind) → m ≡ 0 → nodes a ≡ 1 → a ≡ c → m + 1 ≤ nodes c
single m a c z one same = subst (λ (x : Kind). m + 1 ≤ nodes x) same (omega (arith, z, one))

last : (m n rest : ℕ) (a : Kind) → m ≡ n + rest → n ≤ nodes a → rest ≡ 0 → m ≤ nodes a
last m n rest a e h z = omega (arith, e, h, z)

over_one : (m n rest : ℕ) (a c : Kind) → m ≡ n + rest → n ≤ nodes a → rest ≡ 0 → nodes c ≡ nodes a + 1 → m + 1 ≤ nodes c
over_one m n rest a c e h z same = omega (arith, e, h, z, same)

over_two : (m n o p rest : ℕ) (a b c : Kind) → m ≡ n + o → o ≡ p + rest → n ≤ nodes a → p ≤ nodes b → rest ≡ 0 → nodes c ≡ nodes a + nodes b + 1 → m + 1 ≤ nodes c
over_two m n o p rest a b c e f g h z same = omega (arith, e, f, g, h, z, same)

over_pair : (m n rest : ℕ) (a d c : Kind) → m ≡ n + rest → n ≤ nodes a → rest ≤ nodes d → nodes c ≡ nodes a + nodes d + 1 → m + 1 ≤ nodes c
over_pair m n rest a d c e g h same = omega (arith, e, g, h, same)

less : (m : ℕ) (c : Kind) → m + 1 ≤ nodes c → m ≤ nodes c
less m c h = omega (arith, h)

pairs_over : (a : Kind) (at next : ℕ) (r : Read) (qs : List Part) (m : ℕ) (c : Kind)
    → ((n : ℕ) (d : Kind) → AllSpell (part next r ∷ qs) n → paired (part next r) qs ≡ good d → n ≤ nodes d)
    → AllSpell (part at (good a) ∷ part next r ∷ qs) m → paired (part at (good a)) (part next r ∷ qs) ≡ good c → m + 1 ≤ nodes c
pairs_over a at next r qs m c later h e =
    let f = on_pair a (paired (part next r) qs) c e in
    over_pair m h.0 h.1 a f.0 c h.2 (h.3 a refl) (later h.1 f.0 h.4 f.1) (ap nodes (sym f.2))

paired_spells : (at : ℕ) (r : Read) (qs : List Part) (m : ℕ) (c : Kind) → AllSpell (part at r ∷ qs) m → paired (part at r) qs ≡ good c → m ≤ nodes c
paired_spells at (bad i) [] m c h e = absurd cc
paired_spells at (bad i) (q ∷ qs) m c h e = absurd cc
paired_spells at (good a) [] m c h e = last m h.0 h.1 c h.2 (h.3 c e) h.4
paired_spells at (good a) (part next r ∷ qs) m c h e =
    less m c (pairs_over a at next r qs m c (λ n d. paired_spells next r qs n d) h e)

pairs_spell : (at : ℕ) (r : Read) (q : Part) (qs : List Part) (m : ℕ) (c : Kind) → AllSpell (part at r ∷ q ∷ qs) m → paired (part at r) (q ∷ qs) ≡ good c → m + 1 ≤ nodes c
pairs_spell at (bad i) q qs m c h e = absurd cc
pairs_spell at (good a) (part next r) qs m c h e = pairs_over a at next r qs m c (λ n d. paired_spells next r qs n d) h e

applied_spells : (f : Former) (at : ℕ) (qs : List Part) (m : ℕ) (c : Kind) → AllSpell qs m → applied f at qs ≡ good c → m + 1 ≤ nodes c
applied_spells (simple_type v) at [] m c h e = single m (k.simple v) c h refl (good_same (k.simple v) c e)
applied_spells (simple_type v) at (q ∷ qs) m c h e = absurd cc
applied_spells operation_type at [] m c h e = single m k.operation c h refl (good_same k.operation c e)
applied_spells operation_type at (q ∷ qs) m c h e = absurd cc
applied_spells (one_argument f) at [] m c h e = absurd cc
applied_spells (one_argument f) at (part i r ∷ []) m c h e =
    let g = taken (asked_of_argument f) i r (λ a. good (of_argument f a)) c e in
    over_one m h.0 h.1 g.0 c h.2 (h.3 g.0 g.1) h.4 (ap nodes (sym (good_same (of_argument f g.0) c g.2)) ∙ one_nodes f g.0)
applied_spells (one_argument f) at (q ∷ r ∷ rs) m c h e = absurd cc
applied_spells (two_arguments f) at [] m c h e = absurd cc
applied_spells (two_arguments f) at (q ∷ []) m c h e = absurd cc
applied_spells (two_arguments f) at (part i r ∷ part j v ∷ []) m c h e =
    let g = taken (asked_of_first f) i r (λ a. with_part (asked_of_second f) (part j v) (λ x. good (of_arguments f a x))) c e in
    let o = taken (asked_of_second f) j v (λ x. good (of_arguments f g.0 x)) c g.2 in
    let rest = h.4 in
    over_two m h.0 h.1 rest.0 rest.1 g.0 o.0 c h.2 rest.2 (h.3 g.0 g.1) (rest.3 o.0 o.1) rest.4
    (ap nodes (sym (good_same (of_arguments f g.0 o.0) c o.2)) ∙ two_nodes f g.0 o.0)
applied_spells (two_arguments f) at (q ∷ r ∷ t ∷ ts) m c h e = absurd cc
applied_spells pair_type at [] m c h e = absurd cc
applied_spells pair_type at (q ∷ []) m c h e = absurd cc
applied_spells pair_type at (part i r ∷ q ∷ qs) m c h e = pairs_spell i r q qs m c h e
applied_spells no_type at qs m c h e = absurd cc

mutual
  node_spells : (at : ℕ) (t : Tree) → Spells (size t) (typed at t)
  node_spells at (int n) a e = absurd cc
  node_spells at (str v) a e = absurd cc
  node_spells at (bytes b) a e = absurd cc
  node_spells at (seq ts) a e = absurd cc
  node_spells at (prim name annots args) a e = applied_spells (former_of_name name) at (parts (at + 1) args) (sizes args) a (all_spell (at + 1) args) e

  all_spell : (at : ℕ) (ts : Trees) → AllSpell (parts at ts) (sizes ts)
  all_spell at none = refl
  all_spell at (more t ts) = (size t, sizes ts, refl, node_spells at t, all_spell (at + size t) ts)

over_limit : (m n : ℕ) → nat_le m 2000 ≡ false → m ≤ n → nat_le n 2000 ≡ false
over_limit m n h le = grind (arith, nat_tests)

-- a node with more nodes than a type may have is none
pub none_larger : (t : Tree) → nat_le (size t) 2000 ≡ false → compared (type_at 0 t) ≡ None
none_larger t h = by (typed 0 t) refl
  where
    by : (r : Read) → typed 0 t ≡ r → compared (limited r) ≡ None
    by (good a) e = ap (λ (b : Bool). compared (if b then a_type a else too_large)) (over_limit (size t) (nodes a) h (node_spells 0 t a e))
    by (bad at) e = refl

-- ---- offers

module _ (o : Offer) where
  abbrev pub made : Kind → Val → Held
  made a x = record { issuer = o.issuer; kind = a; content = x; amount = o.amount }

  pub none_offered : compared (type_at 0 o.kind) ≡ None → offered o ≡ None
  none_offered h = by (type_at 0 o.kind) h
    where
      by_kind : (a : Kind) (b : Bool) → (if b then Some a else None) ≡ None → (if b then ticket_with o a (read a 0 o.content) else None) ≡ None
      by_kind a true h = absurd cc
      by_kind a false h = refl

      by : (r : Reading) → compared r ≡ None → ticket_by o r ≡ None
      by (a_type a) h = by_kind a (comparable a) h
      by (bad_type at) h = refl
      by too_large h = refl

  with_content : (a : Kind) (x : Literal Val) → ticket_with o a x ≡ option_map (made a) (content_in x)
  with_content a (l.good x pending) = refl
  with_content a (l.bad at) = refl

  pub offered_so : (a : Kind) → compared (type_at 0 o.kind) ≡ Some a → (comparable a ≡ true) × (offered o ≡ option_map (made a) (content_in (read a 0 o.content)))
  offered_so a h = by (type_at 0 o.kind) h
    where
      by_kind : (c : Kind) (b : Bool) → comparable c ≡ b → (if b then Some c else None) ≡ Some a
          → (comparable a ≡ true) × ((if b then ticket_with o c (read c 0 o.content) else None) ≡ option_map (made a) (content_in (read a 0 o.content)))
      by_kind c true e h =
          let same : c ≡ a = cc in
          (ap comparable (sym same) ∙ e, ap (λ (x : Kind). ticket_with o x (read x 0 o.content)) same ∙ with_content a (read a 0 o.content))
      by_kind c false e h = absurd cc

      by : (r : Reading) → compared r ≡ Some a → (comparable a ≡ true) × (ticket_by o r ≡ option_map (made a) (content_in (read a 0 o.content)))
      by (a_type c) h = by_kind c (comparable c) refl h
      by (bad_type at) h = absurd cc
      by too_large h = absurd cc

-- ---- contents

nowhere : World
nowhere = new_world [] 0 (pos 0)

-- what is read as a comparable type can be compared
pub content_found : (a : Kind) (t : Tree) (x : Val) (ps : List Pending) (o : Option Datum) → comparable a ≡ true → size t < 2 ^ 32 → read a 0 t ≡ l.good x ps
    → is_some o ≡ is_comparable x → IfSome o (λ d. datum d ≡ x) → option_map datum o ≡ content_in (read a 0 t)
content_found a t x ps o c small e s i = by o s i ∙ ap content_in (sym e)
  where
    comparable_x : is_comparable x ≡ true
    comparable_x = comparable_value (known_with nowhere []) a x c (compared_fits nowhere a t x ps c e small)

    by : (o : Option Datum) → is_some o ≡ is_comparable x → IfSome o (λ d. datum d ≡ x) → option_map datum o ≡ Some x
    by None s i = let no : false ≡ true = s ∙ comparable_x in absurd cc
    by (Some d) s i = ap Some i

-- ---- identities that are spelled

module _ (issuer : Place) (ty content : Tree) (a : Ty) (n : ℤ) where
  abbrev spelled : Offer
  spelled = record { issuer = place_bytes issuer; kind = ty; content = content; amount = n }

  -- a comparable type without such a content
  pub contentless : (p : Option Ty) → option_map kind p ≡ compared (type_at 0 ty) → p ≡ Some a
      → (o : Option Datum) → option_map datum o ≡ content_in (read (kind a) 0 content) → o ≡ None → offered spelled ≡ None
  contentless p e is o f absent =
      (offered_so spelled (kind a) (sym e ∙ ap (λ (q : Option Ty). option_map kind q) is)).1
      ∙ ap (λ (x : Option Val). option_map (made spelled (kind a)) x) (sym f ∙ ap (λ (q : Option Datum). option_map datum q) absent)

  -- the ticket that they spell
  pub spelled_so : (p : Option Ty) → option_map kind p ≡ compared (type_at 0 ty) → p ≡ Some a
      → (o : Option Datum) → option_map datum o ≡ content_in (read (kind a) 0 content) → (d : Datum) → o ≡ Some d
      → offered spelled ≡ Some (tickets_of (record { issuer = issuer; ty = a; content = d }) n)
  spelled_so p e is o f d some =
      (offered_so spelled (kind a) (sym e ∙ ap (λ (q : Option Ty). option_map kind q) is)).1
      ∙ ap (λ (x : Option Val). option_map (made spelled (kind a)) x) (sym f ∙ ap (λ (q : Option Datum). option_map datum q) some)
