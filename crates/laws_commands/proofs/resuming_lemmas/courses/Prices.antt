-- The prices that a state keeps are those of its table.
use Rattle.std.proofs.Common.{◌≡◌, ℕ, zero, suc, unwrap_or, sym, List, [], ◌∷◌, map, Option, Some, refl, ap, ◌∙◌}
use Rattle.std.specs.Prelude.{slice_get}
use Rattle.std.specs.Option.{option_map}
use Rattle.rules_data.specs.declared.gas.Kind.{Kind}
use Rattle.rules_data.specs.declared.gas.Kind.TheVariants as k
use Rattle.rules_data.specs.gas.Kinds.{kinds_by_name, place}
use Rattle.rules_data.specs.gas.Prices.{Listed, Price, price_of, standard_price}
use Rattle.rules_files.specs.snapshots.Course.{all_prices, listed}
use Rattle.laws_commands.proofs.resuming_lemmas.prices.Plain.{plain}

-- each kind stands at its place
kind_there : (kind : Kind) → option_map (λ (e : List ℕ × Kind). e.1) (slice_get kinds_by_name (place kind)) ≡ Some kind
unfolding kinds_by_name
kind_there k.Abs = refl
kind_there k.Add = refl
kind_there k.Address = refl
kind_there k.Amount = refl
kind_there k.And = refl
kind_there k.Apply = refl
kind_there k.Balance = refl
kind_there k.Blake2b = refl
kind_there k.Bytes = refl
kind_there k.Car = refl
kind_there k.Cast = refl
kind_there k.Cdr = refl
kind_there k.ChainId = refl
kind_there k.Compare = refl
kind_there k.Concat = refl
kind_there k.Cons = refl
kind_there k.Contract = refl
kind_there k.CreateContract = refl
kind_there k.Dig = refl
kind_there k.Dip = refl
kind_there k.Drop = refl
kind_there k.Dug = refl
kind_there k.Dup = refl
kind_there k.Ediv = refl
kind_there k.Emit = refl
kind_there k.EmptyBigMap = refl
kind_there k.EmptyMap = refl
kind_there k.EmptySet = refl
kind_there k.Eq = refl
kind_there k.Exec = refl
kind_there k.Event = refl
kind_there k.Failwith = refl
kind_there k.Ge = refl
kind_there k.Get = refl
kind_there k.GetAndUpdate = refl
kind_there k.Gt = refl
kind_there k.HashKey = refl
kind_there k.If = refl
kind_there k.IfCons = refl
kind_there k.IfLeft = refl
kind_there k.IfNone = refl
kind_there k.ImplicitAccount = refl
kind_there k.Int = refl
kind_there k.Isnat = refl
kind_there k.Iter = refl
kind_there k.JoinTickets = refl
kind_there k.Lambda = refl
kind_there k.LambdaRec = refl
kind_there k.Le = refl
kind_there k.Left = refl
kind_there k.Level = refl
kind_there k.Loop = refl
kind_there k.LoopLeft = refl
kind_there k.Lsl = refl
kind_there k.Lsr = refl
kind_there k.Lt = refl
kind_there k.Map = refl
kind_there k.Mem = refl
kind_there k.Mul = refl
kind_there k.Nat = refl
kind_there k.Neg = refl
kind_there k.Neq = refl
kind_there k.Never = refl
kind_there k.Nil = refl
kind_there k.None = refl
kind_there k.Not = refl
kind_there k.Now = refl
kind_there k.Or = refl
kind_there k.Origination = refl
kind_there k.Pack = refl
kind_there k.Pair = refl
kind_there k.Push = refl
kind_there k.ReadTicket = refl
kind_there k.Rename = refl
kind_there k.Right = refl
kind_there k.SelfContract = refl
kind_there k.SelfAddress = refl
kind_there k.Sender = refl
kind_there k.Sha256 = refl
kind_there k.Sha512 = refl
kind_there k.Size = refl
kind_there k.Slice = refl
kind_there k.Some = refl
kind_there k.Source = refl
kind_there k.SplitTicket = refl
kind_there k.Sub = refl
kind_there k.SubMutez = refl
kind_there k.Swap = refl
kind_there k.Ticket = refl
kind_there k.TransferTokens = refl
kind_there k.Transfer = refl
kind_there k.Turn = refl
kind_there k.Unit = refl
kind_there k.Unpack = refl
kind_there k.Unpair = refl
kind_there k.Update = refl
kind_there k.View = refl
kind_there k.Xor = refl

there : (prices : Listed) (i : ℕ) (es : List (List ℕ × Kind)) →
    slice_get (map (λ (e : List ℕ × Kind). price_of prices e.1) es) i ≡ option_map (price_of prices)
    (option_map (λ (e : List ℕ × Kind). e.1) (slice_get es i))
there prices i [] = refl
there prices zero (e ∷ es) = refl
there prices (suc i) (e ∷ es) = there prices i es

pub listed_plain : (prices : Listed) → plain prices ≡ plain (listed (all_prices prices))
listed_plain prices = λ i kind. Some (one kind i) where
  one : (kind : Kind) → price_of prices kind ≡ price_of (listed (all_prices prices)) kind
  one kind =
      sym (ap (λ (o : Option Price). unwrap_or o standard_price)
      (there prices (place kind) kinds_by_name ∙ ap (option_map (price_of prices)) (kind_there kind)))
