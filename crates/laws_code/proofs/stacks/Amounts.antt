-- The amount of tickets of an identity in values that fit.
use Rattle.std.proofs.Common.{◌≡◌, Bool, true, false, List, [], ◌∷◌, ◌++◌, arith}
use Rattle.std.specs.Prelude.{ℤ, pos, ◌+ℤ◌, ◌≤ℤ◌, int_le, if◌then◌else◌}
use Rattle.std.proofs.lemmas.Bool.{and_parts}
use Rattle.std.proofs.lemmas.Int.{ints}
use Rattle.rules_data.specs.types.Kind.{Kind}
use Rattle.rules_data.specs.types.Kind as k
use Rattle.rules_data.specs.values.Val.{Val, Vals, no_val, more_vals, Pairs, no_pair, more_pairs}
use Rattle.rules_data.specs.values.Val as v
use Rattle.rules_data.specs.values.Forms.{AllHave, AllEntriesHave}
use Rattle.rules_data.specs.values.Tickets.{Identity, Held, tickets, all_tickets, pair_tickets}
use Rattle.rules_code.specs.steps.Changes.{identity_of, is_alike, amount_of, amount_among, amount_in}
use Rattle.rules_code.specs.typing.Fits.{Known, Fits, AllFit}
use Rattle.laws_data.proofs.amounts.ForCallers.{among_append}
use Rattle.laws_code.proofs.stacks.Nothing.{simple_none}
use Rattle.laws_code.specs.evaluation.Laws.{amount_on}

module _ (id : Identity) where
  pub on-append : (V W : List Val) → amount_on id (V ++ W) ≡ amount_on id V +ℤ amount_on id W
  on-append [] W = omega (arith, ints)
  on-append (x ∷ V) W = let h : amount_on id (V ++ W) ≡ amount_on id V +ℤ amount_on id W = on-append V W in omega (arith, ints)

  of_positive : (b : Bool) (n : ℤ) → pos 1 ≤ℤ n → pos 0 ≤ℤ (if b then n else pos 0)
  of_positive true n h = omega (arith, ints)
  of_positive false n h = omega (arith, ints)

  at_least : (m n : ℤ) → int_le m n ≡ true → m ≤ℤ n
  at_least m n h = grind (arith, ints)

  pub all_positive : (P : Val → Type 0) → ((x : Val) → P x → pos 0 ≤ℤ amount_in id x) → (xs : Vals) → AllHave P xs →
      pos 0 ≤ℤ amount_among id (all_tickets xs)
  all_positive P p no_val h = omega (arith, ints)
  all_positive P p (more_vals x xs) h =
      let first : pos 0 ≤ℤ amount_in id x = p x h.0 in
      let rest : pos 0 ≤ℤ amount_among id (all_tickets xs) = all_positive P p xs h.1 in
      omega (arith, ints, among_append id (tickets x) (all_tickets xs))

  pub entries_positive : (P Q : Val → Type 0) → ((x : Val) → Q x → pos 0 ≤ℤ amount_in id x) → (es : Pairs) →
      AllEntriesHave P Q es → pos 0 ≤ℤ amount_among id (pair_tickets es)
  entries_positive P Q q no_pair h = omega (arith, ints)
  entries_positive P Q q (more_pairs x y es) h =
      let first : pos 0 ≤ℤ amount_in id y = q y h.1 in
      let rest : pos 0 ≤ℤ amount_among id (pair_tickets es) = entries_positive P Q q es h.2 in
      omega (arith, ints, among_append id (tickets y) (pair_tickets es))

  none_positive : (ts : List Held) → ts ≡ [] → pos 0 ≤ℤ amount_among id ts
  none_positive [] e = omega (arith, ints)
  none_positive (t ∷ ts) e = absurd cc

  pub positive : (w : Known) (a : Kind) (x : Val) → Fits w a x → pos 0 ≤ℤ amount_in id x
  positive w (k.simple u) x h = none_positive (tickets x) (simple_none u x h)
  positive w k.operation (v.operation n) h = omega (arith, ints)
  positive w (k.option a) v.nothing h = omega (arith, ints)
  positive w (k.option a) (v.some x) h = positive w a x h
  positive w (k.or a b) (v.left x) h = positive w a x h
  positive w (k.or a b) (v.right x) h = positive w b x h
  positive w (k.pair a b) (v.both x y) h =
      let first : pos 0 ≤ℤ amount_in id x = positive w a x h.0 in
      let second : pos 0 ≤ℤ amount_in id y = positive w b y h.1 in
      omega (arith, ints, among_append id (tickets x) (tickets y))
  positive w (k.list a) (v.list xs) h = all_positive (Fits w a) (positive w a) xs h
  positive w (k.set a) (v.set xs) h = omega (arith, ints)
  positive w (k.map a b) (v.table es) h = entries_positive (Fits w a) (Fits w b) (positive w b) es h.0
  positive w (k.big_map a b) (v.big_table es) h = entries_positive (Fits w a) (Fits w b) (positive w b) es h.0
  positive w (k.lambda a b) (v.lambda t r) h = omega (arith, ints)
  positive w (k.contract a) (v.bytes b) h = omega (arith, ints)
  positive w (k.ticket a) (v.ticket issuer kind content amount) h =
      let one : pos 1 ≤ℤ amount = at_least (pos 1) amount (and_parts _ _ h.2).0 in
      let first : pos 0 ≤ℤ amount_of id (record { issuer = issuer; kind = kind; content = content; amount = amount }) =
      of_positive (is_alike id (identity_of (record { issuer = issuer; kind = kind; content = content; amount = amount })))
      amount one in
      omega (arith, ints)
  positive w _ _ h = absurd h

  pub on_positive : (w : Known) (A : List Kind) (V : List Val) → AllFit w A V → pos 0 ≤ℤ amount_on id V
  on_positive w [] [] h = omega (arith, ints)
  on_positive w (a ∷ A) (x ∷ V) h =
      let first : pos 0 ≤ℤ amount_in id x = positive w a x h.0 in
      let rest : pos 0 ≤ℤ amount_on id V = on_positive w A V h.1 in
      omega (arith, ints)
  on_positive w _ _ h = absurd h
